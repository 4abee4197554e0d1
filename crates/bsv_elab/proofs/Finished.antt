-- What the body of an instance gives, from what its statements leave.
use Rattle.std.proofs.Common.{◌≡◌, ◌∙◌, Result, Ok, Err, List, refl, sym, ap, subst}
use Rattle.bsv_fail.specs.declared.fail.Fail.{Fail}
use Rattle.bsv_fail.specs.declared.fail.Fail.TheVariants as fail
use Rattle.bsv_fail.specs.Given.{◌>>=◌, Fails}
use Rattle.bsv_types.specs.declared.modules.Module.{Module}
use Rattle.bsv_tree.specs.declared.statics.Binding.{Binding}
use Rattle.bsv_tree.specs.declared.tree.Built.{Built}
use Rattle.bsv_elab.specs.declared.builder.Builder.{Builder}
use Rattle.bsv_elab.specs.declared.refused.Refused.{Refused}
use Rattle.bsv_elab.specs.declared.state.Done.{Done}
use Rattle.bsv_elab.specs.declared.state.Grown.{Grown}
use Rattle.bsv_elab.specs.declared.state.Marks.{Marks}
use Rattle.bsv_elab.specs.declared.state.State.{State}
use Rattle.bsv_elab.specs.AtHand as spec
use Rattle.bsv_elab.specs.Attributes.{marks_of}
use Rattle.bsv_elab.specs.Becoming.{Finishes, GivesDone, GivesInto}
use Rattle.bsv_elab.specs.Building.{done, opening}

module _ (b : Builder) (m : Module) where
  abbrev finish : Marks × State → Result Done Refused
  finish r = Ok (done b.«module» r.1 r.0)

  -- the statements of the module, and then its attributes
  regroup : (x : Result State Refused) → ((x >>= λ z. marks_of m z.scope.rules >>= λ marks. Ok (marks, z)) >>= finish) ≡ (x >>= λ z. marks_of m z.scope.rules >>= λ marks. Ok (done b.«module» z marks))
  regroup (Ok z) = by (marks_of m z.scope.rules) where
    by : (y : Result Marks Refused) → ((y >>= λ marks. Ok (marks, z)) >>= finish) ≡ (y >>= λ marks. Ok (done b.«module» z marks))
    by (Ok marks) = refl
    by (Err r) = refl
  regroup (Err r) = refl

  body_is : (bs : List Binding) (g : Grown) → (spec.own_body b m (opening m bs g) >>= finish) ≡ spec.body_of b m bs g
  body_is bs g = regroup (spec.run b m.body (opening m bs g))

  failed : (f : Fail Refused) (x : Result (Marks × State) Refused) → Fails f x → Fails f (x >>= finish)
  failed fail.Memory x e = tt
  failed (fail.Fault r) x e = ap (λ (q : Result (Marks × State) Refused). q >>= finish) e

  given : (own : Result Marks (Fail Refused)) (r : Result (Built × Marks) (Fail Refused)) (z after before : State) (x : Result (Marks × State) Refused)
      → GivesInto own z x → Finishes b.«module» z.scope own r → after.grown ≡ z.grown → after.scope ≡ before.scope → GivesDone r after before (x >>= finish)
  given (Ok marks) (Ok d) z after before x own is grown scope = (
    ap (λ (q : Result (Marks × State) Refused). q >>= finish) own
        ∙ ap (λ (c : Built × Marks × Grown). Ok (record { built = c.0; grown = c.2; marks = c.1 })) (three (sym is.0) (sym is.1) (sym grown)),
    scope,
  ) where
    three : {c d : Built} {n o : Marks} {g h : Grown} → c ≡ d → n ≡ o → g ≡ h → ◌≡◌ {A = Built × Marks × Grown} (c, n, g) (d, o, h)
    three p q r = cc
  given (Ok marks) (Err fail.Memory) z after before x own is grown scope = tt
  given (Ok marks) (Err (fail.Fault f)) z after before x own is grown scope = absurd cc
  given (Err f) r z after before x own is grown scope = subst (λ (q : Result (Built × Marks) (Fail Refused)). GivesDone q after before (x >>= finish)) (sym is) (failed f x own)

  pub body_gives : (bs : List Binding) (g : Grown) (own : Result Marks (Fail Refused)) (r : Result (Built × Marks) (Fail Refused)) (first z after before : State)
      → first ≡ opening m bs g → GivesInto own z (spec.own_body b m first) → Finishes b.«module» z.scope own r → after.grown ≡ z.grown → after.scope ≡ before.scope → GivesDone r after before (spec.body_of b m bs g)
  body_gives bs g own r first z after before opened gives finishes grown scope =
      subst (λ (x : Result Done Refused). GivesDone r after before x) (body_is bs g)
      (subst (λ (s : State). GivesDone r after before (spec.own_body b m s >>= finish)) opened (given own r z after before (spec.own_body b m first) gives finishes grown scope))
