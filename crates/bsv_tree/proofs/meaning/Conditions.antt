-- The conditions of branches: an expression, and `matches`, which asks for the tag of a Maybe and binds its payload.
use Rattle.std.proofs.Common.{◌≡◌, ℕ, suc, false, List, [], ◌∷◌, ◌++◌, ◌-◌, length, take, Some, None, Ok, refl, sym, ap, ◌∙◌, subst, append-nil}
use Rattle.bsv_lemmas.proofs.Choices.{same_ok}
use Rattle.bsv_fail.specs.Given.{◌>>=◌}
use Rattle.bsv_bits.specs.Words.{Bits}
use Rattle.bsv_tree.specs.declared.steps.Atom.TheVariants as atom
use Rattle.bsv_tree.specs.declared.steps.Compute.TheVariants as compute
use Rattle.bsv_tree.specs.declared.steps.Step.TheVariants as step
use Rattle.bsv_tree.specs.declared.values.Constant.TheVariants as constant
use Rattle.bsv_tree.specs.declared.values.Value.{Value}
use Rattle.bsv_tree.specs.declared.values.Value.TheVariants as value
use Rattle.bsv_tree.specs.declared.values.Count.{Count}
use Rattle.bsv_tree.specs.declared.values.Local.{Local}
use Rattle.bsv_tree.specs.declared.values.Work.{Work}
use Rattle.bsv_tree.specs.carrying.Frames as frames
use Rattle.bsv_tree.specs.carrying.Values as values
use Rattle.bsv_tree.specs.carrying.Carrying as carrying
use Rattle.bsv_tree.specs.carrying.Carrying.{Carry, Acts, Branched, Test}
use Rattle.bsv_tree.specs.carrying.Running.{in_turn}
use Rattle.bsv_tree.specs.carrying.Working as work
use Rattle.bsv_tree.specs.carrying.Working.{no_steps, with_step, fresh}
use Rattle.bsv_tree.specs.meaning.Evaluation.{Results, Standing}
use Rattle.bsv_tree.specs.meaning.Values.{Value as Val, is_static, static, varying, Variables, variable}
use Rattle.bsv_tree.specs.meaning.Operators as means
use Rattle.bsv_tree.specs.meaning.Evaluation as evaluation
use Rattle.bsv_tree.specs.meaning.Evaluation.{Evaluation, yields}
use Rattle.bsv_tree.specs.meaning.Control as control
use Rattle.bsv_tree.specs.meaning.Control.{Means}
use Rattle.bsv_tree.proofs.meaning.Same.{Shows, AllHold, ran, Same, here, got, all_hold_within, shows_within}
use Rattle.bsv_tree.proofs.meaning.Pieces.{bound, given}
use Rattle.bsv_tree.proofs.meaning.Operating.{V, sliced_is}
use Rattle.bsv_tree.proofs.meaning.Expressions.{Carries}
use Rattle.bsv_tree.proofs.meaning.Statements.{Kept, Does, kept_take, kept_fewer, hold_long, hold_append, hold_take, hold_new, inside_does}
use Rattle.bsv_tree.proofs.meaning.Tails.{Exactly, ExactlyWhere}
use Rattle.bsv_tree.proofs.meaning.Tests.{subject, test, Tests}

-- a slice is static where the word is
sliced_static : (w : Work) (x : Value) (high low : ℕ) (z : Value) (v : Work) → work.sliced w x high low ≡ Ok (z, v) → values.is_static z ≡ values.is_static x
unfolding work.sliced work.give
sliced_static w (value.Static c) high low z v e = ap (λ (o : Value × Work). values.is_static o.0) (sym (same_ok (value.Static (constant.Bits _), w) (z, v) e))
sliced_static w (value.Open a) high low z v e =
    let g = got (fresh w.count 1) (λ c. Ok (value.Open (atom.Slot w.count.slots), with_step w (step.Let (compute.Slice a high low)) c)) (z, v) e in
    ap (λ (o : Value × Work). values.is_static o.0) (sym (same_ok (value.Open (atom.Slot w.count.slots), with_step w (step.Let (compute.Slice a high low)) g.0) (z, v) g.2))

pub sliced_same : (y : Val) (high low : ℕ) → is_static (means.sliced y high low) ≡ is_static y
sliced_same (static c) high low = refl
sliced_same (varying w) high low = refl

-- so many variables are taken as there were
pub kept_long : (vs us : List Local) → Kept vs us → length (take (length vs) us) ≡ length vs
kept_long [] us h = refl
kept_long (v ∷ vs) (u ∷ us) h = ap suc (kept_long vs us h.1)
kept_long (v ∷ vs) [] h = absurd h

module _ (r : Results) where
  -- what a block declares ends with it
  pub inside_exactly : (a : Acts) (m : control.Acts) → Does r a m → Exactly r (carrying.inside a) (λ us. control.scoped m [] us)
  unfolding carrying.inside
  inside_exactly a m h = record {
    does = inside_does r a m h;
    exact = λ vs w ts v e.
        let g = got (a vs w) (λ o. Ok (take (length vs) o.0, o.1)) (ts, v) e in
        ap (λ (o : List Local × Work). length o.0) (sym (same_ok (take (length vs) g.0.0, g.0.1) (ts, v) g.2)) ∙ kept_long vs g.0.0 (h.kept vs w g.0.0 g.0.1 g.1);
  }

  -- in the arm of `matches` the payload has a name
  payload_exactly : (a : Acts) (m : control.Acts) → Does r a m → (x : Value) (y : Val) (payload : ℕ)
      → ExactlyWhere r (λ V. Shows V x y) (carrying.branch_arm a (Some (x, payload))) (λ us. control.scoped m (variable (means.sliced y (payload - 1) 0) ∷ []) us)
  unfolding carrying.branch_arm
  payload_exactly a m h x y payload =
      let kept_at : (vs : List Local) (w : Work) (ts : List Local) (v : Work) → carrying.branch_arm a (Some (x, payload)) vs w ≡ Ok (ts, v) → Kept vs ts × (length ts ≡ length vs) =
      λ vs w ts v e.
      let g = got (work.sliced w x (payload - 1) 0) _ (ts, v) e in
      let one = frames.variable g.0.0 false ∷ [] in
      let l = got (a (vs ++ one) g.0.1) (λ o. Ok (take (length vs) o.0, o.1)) (ts, v) g.2 in
      let k = kept_fewer vs one l.0.0 (h.kept (vs ++ one) g.0.1 l.0.0 l.0.1 l.1) in
      subst (λ (o : List Local × Work). Kept vs o.0 × (length o.0 ≡ length vs)) (same_ok (take (length vs) l.0.0, l.0.1) (ts, v) l.2) (kept_take vs l.0.0 k, kept_long vs l.0.0 k) in
      record {
        does = record {
          kept = λ vs w ts v e. (kept_at vs w ts v e).0;
          does = λ p ws n k vs us w long there hold ts v e.
              let g = got (work.sliced w x (payload - 1) 0) _ (ts, v) e in
              let one = frames.variable g.0.0 false ∷ [] in
              let z = means.sliced y (payload - 1) 0 in
              let l = got (a (vs ++ one) g.0.1) (λ o. Ok (take (length vs) o.0, o.1)) (ts, v) g.2 in
              let first = sliced_is r p ws n k w long x y (payload - 1) 0 there g.0.0 g.0.1 g.1 in
              let more = us ++ variable z ∷ [] in
              let second = h.does p ws n k (vs ++ one) more g.0.1 first.long
              (hold_append (V r p ws n k g.0.1) vs one us (variable z ∷ []) (all_hold_within (V r p ws n k w) (V r p ws n k g.0.1) first.adds.within vs us hold) (hold_new (V r p ws n k g.0.1) g.0.0 z false first.gives, tt))
              l.0.0 l.0.1 l.1 in
              let whole : Val → Evaluation Variables = λ z. evaluation.◌>>=◌ (m (us ++ variable z ∷ [])) (λ xs. yields (take (length us) xs)) in
              subst (λ (o : List Local × Work). Same r p ws n k (λ W xs. AllHold W o.0 xs) w o.1 (here r p ws n k w (whole z))) (same_ok (take (length vs) l.0.0, l.0.1) (ts, v) l.2)
              (bound r p ws n k (λ W q. Shows W g.0.0 q) (λ W xs. AllHold W (take (length vs) l.0.0) xs) w g.0.1 l.0.1 (yields z) whole first
              (given r p ws n k (λ W xs. AllHold W l.0.0 xs) (λ W xs. AllHold W (take (length vs) l.0.0) xs) g.0.1 l.0.1 (m more) (take (length us)) second
              (subst (λ i. AllHold (V r p ws n k l.0.1) (take (length vs) l.0.0) (take i (here r p ws n k g.0.1 (m more)).gives)) (hold_long (V r p ws n k w) vs us hold)
              (hold_take (V r p ws n k l.0.1) (length vs) l.0.0 (here r p ws n k g.0.1 (m more)).gives second.gives))));
        };
        exact = λ vs w ts v e. (kept_at vs w ts v e).1;
      }

  everywhere_exactly : (R : List Bits → Type 0) (a : Acts) (m : control.Acts) → Exactly r a m → ExactlyWhere r R a m
  everywhere_exactly R a m h = record {
    does = record { kept = h.does.kept; does = λ p ws n k vs us w long on hold ts v e. h.does.does p ws n k vs us w long hold ts v e };
    exact = h.exact;
  }

  module _ (c : Carry) (m : Means) (carries : Carries r c m) (a : Acts) (ma : control.Acts) (does : Does r a ma) where
    -- a branch whose condition is an expression
    abbrev pub expression_branch : Branched
    expression_branch = record { asks = λ vs k. c vs (no_steps k) >>= λ o. (let t : Test = (o.0, None, o.1) in Ok t); arm = a }

    abbrev pub expression_means : control.Branched
    expression_means = record { asks = λ us. test (λ x. x) (λ x. []) (m us); arm = ma }

    pub expression_tests : Tests r expression_branch expression_means
    unfolding Carries in_turn carrying.branch_arm
    expression_tests = record {
      means = m;
      tag = λ x. x;
      payload = λ x. [];
      asked = refl;
      tag_static = λ x. refl;
      subject_static = λ vs k t e.
          let g = got (c vs (no_steps k)) (λ o. (let t : Test = (o.0, None, o.1) in Ok t)) t e in
          subst (λ (t : Test). values.is_static t.0 ≡ values.is_static (subject t)) (same_ok (g.0.0, None, g.0.1) t g.2) refl;
      asks = λ q W n k vs us b long hold t e.
          let g = got (c vs (no_steps b)) (λ o. (let t : Test = (o.0, None, o.1) in Ok t)) t e in
          let first = carries q W n k vs us (no_steps b) long hold g.0.0 g.0.1 g.1 in
          subst (λ (t : Test). Same r q W n k (λ V y. Shows V (subject t) y × Shows V t.0 y) (no_steps b) t.2 (m us q n k)) (same_ok (g.0.0, None, g.0.1) t g.2)
          (record { adds = first.adds; long = first.long; gives = (first.gives, first.gives) });
      arm = λ vs k t e y.
          let g = got (c vs (no_steps k)) (λ o. (let t : Test = (o.0, None, o.1) in Ok t)) t e in
          subst (λ (t : Test). ExactlyWhere r (λ V. Shows V (subject t) y) (carrying.branch_arm a t.1) (λ us. control.scoped ma [] us)) (same_ok (g.0.0, None, g.0.1) t g.2)
          (everywhere_exactly (λ V. Shows V g.0.0 y) (carrying.inside a) (λ us. control.scoped ma [] us) (inside_exactly a ma does));
    }

    module _ (payload : ℕ) where
      -- a branch that asks whether a Maybe is valid
      abbrev pub matches_branch : Branched
      matches_branch = record {
        asks = λ vs k. c vs (no_steps k) >>= λ o. work.sliced o.1 o.0 payload payload >>= λ g. (let t : Test = (g.0, Some (o.0, payload), g.1) in Ok t);
        arm = a;
      }

      abbrev pub matches_means : control.Branched
      matches_means = record { asks = λ us. test (λ x. means.sliced x payload payload) (λ x. variable (means.sliced x (payload - 1) 0) ∷ []) (m us); arm = ma }

      record Matched (vs : List Local) (k : Count) (t : Test) : Type 0 where
        maybe : Value
        before : Work
        carried : c vs (no_steps k) ≡ Ok (maybe, before)
        tag : Value
        after : Work
        tagged : work.sliced before maybe payload payload ≡ Ok (tag, after)
        is : ◌≡◌ {A = Test} (tag, Some (maybe, payload), after) t

      matched_is : (vs : List Local) (k : Count) (t : Test) → matches_branch.asks vs k ≡ Ok t → Matched vs k t
      matched_is vs k t e =
          let g = got (c vs (no_steps k)) (λ o. work.sliced o.1 o.0 payload payload >>= λ g. (let t : Test = (g.0, Some (o.0, payload), g.1) in Ok t)) t e in
          let l = got (work.sliced g.0.1 g.0.0 payload payload) (λ q. (let t : Test = (q.0, Some (g.0.0, payload), q.1) in Ok t)) t g.2 in
          record { maybe = g.0.0; before = g.0.1; carried = g.1; tag = l.0.0; after = l.0.1; tagged = l.1; is = same_ok (l.0.0, Some (g.0.0, payload), l.0.1) t l.2 }

      matched_asks : (q : Standing) (W : List Bits) (n k : ℕ) (vs : List Local) (us : Variables) (b : Count) → length W ≡ b.slots → AllHold W vs us → (t : Test) → Matched vs b t
          → Same r q W n k (λ V y. Shows V (subject t) y × Shows V t.0 (means.sliced y payload payload)) (no_steps b) t.2 (m us q n k)
      unfolding Carries in_turn
      matched_asks q W n k vs us b long hold t M =
          let first = carries q W n k vs us (no_steps b) long hold M.maybe M.before M.carried in
          let y = (m us q n k).gives in
          let second = sliced_is r q W n k M.before first.long M.maybe y payload payload first.gives M.tag M.after M.tagged in
          subst (λ (t : Test). Same r q W n k (λ V y. Shows V (subject t) y × Shows V t.0 (means.sliced y payload payload)) (no_steps b) t.2 (m us q n k)) M.is
          (record {
            adds = record {
              within = λ i w e. second.adds.within i w (first.adds.within i w e);
              choices = second.adds.choices ∙ first.adds.choices;
              sites = second.adds.sites ∙ first.adds.sites;
              calls = second.adds.calls ∙ append-nil (ran r q W n k M.before).calls ∙ first.adds.calls;
              needs = second.adds.needs ∙ append-nil (ran r q W n k M.before).needs ∙ first.adds.needs;
            };
            long = second.long;
            gives = (shows_within (V r q W n k M.before) (V r q W n k M.after) second.adds.within M.maybe y first.gives, second.gives);
          })

      pub matches_tests : Tests r matches_branch matches_means
      matches_tests = record {
        means = m;
        tag = λ x. means.sliced x payload payload;
        payload = λ x. variable (means.sliced x (payload - 1) 0) ∷ [];
        asked = refl;
        tag_static = λ x. sliced_same x payload payload;
        subject_static = λ vs k t e.
            let M = matched_is vs k t e in
            subst (λ (t : Test). values.is_static t.0 ≡ values.is_static (subject t)) M.is (sliced_static M.before M.maybe payload payload M.tag M.after M.tagged);
        asks = λ q W n k vs us b long hold t e. matched_asks q W n k vs us b long hold t (matched_is vs b t e);
        arm = λ vs k t e y.
            let M = matched_is vs k t e in
            subst (λ (t : Test). ExactlyWhere r (λ V. Shows V (subject t) y) (carrying.branch_arm a t.1) (λ us. control.scoped ma (variable (means.sliced y (payload - 1) 0) ∷ []) us)) M.is
            (payload_exactly a ma does M.maybe y payload);
      }
