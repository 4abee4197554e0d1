-- After the step of a choice the same variables are there.
use Rattle.std.proofs.Common.{◌≡◌, ℕ, suc, Bool, true, false, List, [], ◌∷◌, ◌++◌, length, Ok, refl, sym, ap, ◌∙◌, subst, append_assoc, append-nil}
use Rattle.std.specs.Prelude.{if◌then◌else◌}
use Rattle.bsv_lemmas.proofs.Choices.{same_ok}
use Rattle.bsv_fail.specs.Given.{◌>>=◌}
use Rattle.bsv_tree.specs.declared.steps.Atom.TheVariants as atom
use Rattle.bsv_tree.specs.declared.values.Value.TheVariants as value
use Rattle.bsv_tree.specs.declared.values.Count.{Count}
use Rattle.bsv_tree.specs.declared.values.Local.{Local}
use Rattle.bsv_tree.specs.declared.values.Pending.{Pending}
use Rattle.bsv_tree.specs.declared.values.Work.{Work}
use Rattle.bsv_tree.specs.carrying.Arms as carried
use Rattle.bsv_tree.specs.carrying.Arms.{joined_as, joined_from}
use Rattle.bsv_tree.specs.carrying.Working.{fresh}
use Rattle.bsv_tree.proofs.meaning.Same.{got}
use Rattle.bsv_tree.proofs.meaning.Statements.{Kept}

-- the mark `integer` of a variable that is joined is as before
joined_integer : (v : Local) (slot : ℕ) → (joined_as v slot).integer ≡ v.integer
joined_integer v slot = by v.integer refl where
  by : (b : Bool) → v.integer ≡ b → (if b then (let a : Local = record { value = v.value; integer = true; lost = true; touched = true } in a) else record { value = value.Open (atom.Slot slot); integer = false; lost = false; touched = true }).integer ≡ v.integer
  by true e = sym e
  by false e = sym e

-- the variables that are joined are those that there were
pub record Stay (vs found ts : List Local) : Type 0 where
  pub rest : List Local
  pub is : ts ≡ found ++ rest
  pub kept : Kept vs rest
  pub long : length rest ≡ length vs

module _ (ps : List Pending) (last : List Local) where
  joins_stay : (vs found : List Local) (given : List ℕ) (c : Count) (ts : List Local) (g : List ℕ) (d : Count) → joined_from ps last found given vs c ≡ Ok (ts, g, d) → Stay vs found ts
  unfolding joined_from
  joins_stay [] found given c ts g d e =
      record { rest = []; is = ap (λ (o : List Local × List ℕ × Count). o.0) (sym (same_ok (found, given, c) (ts, g, d) e)) ∙ sym (append-nil found); kept = tt; long = refl }
  joins_stay (v ∷ vs) found given c ts g d e =
      by (carried.assigned ps last (length found)) v.integer e (λ x gs b i. joins_stay vs (found ++ x ∷ []) gs b ts g d i) where
        new : Local
        new = joined_as v c.slots

        IH : Type 0
        IH = (x : Local) (gs : List ℕ) (b : Count) → joined_from ps last (found ++ x ∷ []) gs vs b ≡ Ok (ts, g, d) → Stay vs (found ++ x ∷ []) ts

        more : (x : Local) → x.integer ≡ v.integer → Stay vs (found ++ x ∷ []) ts → Stay (v ∷ vs) found ts
        more x e R = record { rest = x ∷ R.rest; is = R.is ∙ append_assoc found (x ∷ []) R.rest; kept = (e, R.kept); long = ap suc R.long }

        by : (b i : Bool) → (if b then (if i then joined_from ps last (found ++ new ∷ []) given vs c else (fresh c 1 >>= λ next. joined_from ps last (found ++ new ∷ []) (given ++ length found ∷ []) vs next)) else joined_from ps last (found ++ v ∷ []) given vs c) ≡ Ok (ts, g, d)
            → IH → Stay (v ∷ vs) found ts
        by true true i ih = more new (joined_integer v c.slots) (ih new given c i)
        by true false i ih =
            let n = got (fresh c 1) (λ next. joined_from ps last (found ++ new ∷ []) (given ++ length found ∷ []) vs next) (ts, g, d) i in
            more new (joined_integer v c.slots) (ih new (given ++ length found ∷ []) n.0 n.2)
        by false j i ih = more v refl (ih v given c i)

-- the variables after the step of a choice
pub close_stays : (vs : List Local) (w : Work) (ps : List Pending) (lv : List Local) (lw : Work) (ts : List Local) (v : Work) → carried.close vs w ps lv lw ≡ Ok (ts, v) → Kept vs ts × (length ts ≡ length vs)
unfolding carried.close
close_stays vs w ps lv lw ts v e =
    let g = got (joined_from ps lv [] [] vs (record { weight = lw.count.weight; slots = w.count.slots })) _ (ts, v) e in
    let S = joins_stay ps lv vs [] [] (record { weight = lw.count.weight; slots = w.count.slots }) g.0.0 g.0.1 g.0.2 g.1 in
    let it : g.0.0 ≡ ts = ap (λ (o : List Local × Work). o.0) (same_ok _ (ts, v) g.2) in
    (subst (Kept vs) (sym S.is ∙ it) S.kept, ap (λ (o : List Local). length o) (sym it ∙ S.is) ∙ S.long)
