-- Whether the subject of a `case` has one of the labels of an arm is what it means.
use Rattle.std.proofs.Common.{◌≡◌, ℕ, Bool, true, false, List, [], ◌∷◌, Option, Some, None, Ok, Err, refl, sym, ap, ◌∙◌, subst, append-nil}
use Rattle.std.specs.Prelude.{if◌then◌else◌}
use Rattle.bsv_lemmas.proofs.Choices.{same_ok}
use Rattle.bsv_fail.specs.Given.{◌>>=◌}
use Rattle.bsv_bits.specs.Words.{Bits}
use Rattle.bsv_bits.specs.declared.operator.Operator.TheVariants as operator
use Rattle.bsv_types.specs.declared.operators.Op.TheVariants as op
use Rattle.bsv_types.specs.Kinds.{integer}
use Rattle.bsv_tree.specs.declared.values.Value.{Value}
use Rattle.bsv_tree.specs.declared.values.Value.TheVariants as value
use Rattle.bsv_tree.specs.declared.values.Constant.{Constant}
use Rattle.bsv_tree.specs.declared.values.Constant.TheVariants as constant
use Rattle.bsv_tree.specs.declared.values.Count.{Count}
use Rattle.bsv_tree.specs.declared.values.Local.{Local}
use Rattle.bsv_tree.specs.declared.values.Work.{Work}
use Rattle.bsv_tree.specs.carrying.Applied as carried
use Rattle.bsv_tree.specs.carrying.Calls.{Caller, static_fault}
use Rattle.bsv_tree.specs.carrying.Carrying as carrying
use Rattle.bsv_tree.specs.carrying.Carrying.{Carry}
use Rattle.bsv_tree.specs.carrying.Values as values
use Rattle.bsv_tree.specs.carrying.Working as work
use Rattle.bsv_tree.specs.carrying.Working.{no_steps}
use Rattle.bsv_tree.specs.meaning.Evaluation as evaluation
use Rattle.bsv_tree.specs.meaning.Evaluation.{Results, Standing, Evaluated, yields}
use Rattle.bsv_tree.specs.meaning.Control.{Means}
use Rattle.bsv_tree.specs.meaning.Integers.{number_between}
use Rattle.bsv_tree.specs.meaning.Meaning as meaning
use Rattle.bsv_tree.specs.meaning.Meaning.{Meant}
use Rattle.bsv_tree.specs.meaning.Operators as means
use Rattle.bsv_tree.specs.meaning.Values.{Value as Val, static, Variables}
use Rattle.bsv_tree.specs.tree.Contexts.{Context}
use Rattle.bsv_tree.proofs.meaning.Expressions.{Carries}
use Rattle.bsv_tree.proofs.meaning.Operating.{V, Is, next, between_is, of_two_is, there}
use Rattle.bsv_tree.proofs.meaning.Pieces.{bound, given, nothing_more}
use Rattle.bsv_tree.proofs.meaning.Same.{Shows, AllHold, IsLong, Same, here, got, shows_within, all_hold_within}

-- what the labels before gave, where there are any
abbrev pub FoundShows : List Bits → Option Value → Option Val → Type 0
FoundShows W None None = Unit {0}
FoundShows W (Some x) (Some y) = Shows W x y
FoundShows W _ _ = ⊥

found_within : (V W : List Bits) → ((x : Value) (y : Val) → Shows V x y → Shows W x y) → (found : Option Value) (b : Option Val) → FoundShows V found b → FoundShows W found b
found_within V W h None None s = tt
found_within V W h (Some x) (Some y) s = h x y s
found_within V W h None (Some y) s = absurd s
found_within V W h (Some x) None s = absurd s

-- what is found with one label more
abbrev also : Option Val → Val → Val
also None c = c
also (Some b) c = means.between operator.Or b c

module _ (r : Results) where
  -- labels that carry what they mean
  abbrev pub AllCarry : List Carry → List Meant → Type 0
  AllCarry [] [] = Unit {0}
  AllCarry (l ∷ ls) (m ∷ ms) = Carries r l m.means × AllCarry ls ms
  AllCarry _ _ = ⊥

module _ (r : Results) (call : Caller) (site : Context) where
  -- whether the subject has one of the labels, after those that were found
  abbrev any_of : Val → Option Val → List Val → Val
  any_of y None bs = meaning.one_of site.shapes y bs
  any_of y (Some b) bs = meaning.one_of_from site.shapes y b bs

  any_more : (y : Val) (b : Option Val) (a : Val) (bs : List Val) → any_of y (Some (also b (meaning.same site.shapes y a))) bs ≡ any_of y b (a ∷ bs)
  any_more y None a bs = refl
  any_more y (Some b) a bs = refl

  module _ (p : Standing) (ws : List Bits) (n k : ℕ) where
    -- the comparison of the subject with a label
    same_is : (w : Work) → IsLong r p ws n k w → (x y : Value) (a b : Val) → Shows (V r p ws n k w) x a → Shows (V r p ws n k w) y b
        → (z : Value) (v : Work) → carrying.same_as call site x y w ≡ Ok (z, v) → Is r p ws n k z w v (meaning.same site.shapes a b)
    same_is w long (value.Static (constant.Number m)) (value.Static (constant.Number l)) a b i j z v h =
        subst (λ c. Is r p ws n k z w v (meaning.same site.shapes c b)) (sym i) (subst (λ c. Is r p ws n k z w v (meaning.same site.shapes (static (constant.Number m)) c)) (sym j)
        (of_two_is r p ws n k site.shapes (static_fault site) w long op.Same integer (value.Static (constant.Number m)) (value.Static (constant.Number l)) _ _ refl refl z v h))
    same_is w long (value.Static (constant.Number m)) (value.Static (constant.Bits l)) a b i j z v h =
        subst (λ c. Is r p ws n k z w v (meaning.same site.shapes c b)) (sym i) (subst (λ c. Is r p ws n k z w v (meaning.same site.shapes (static (constant.Number m)) c)) (sym j)
        (between_is r p ws n k w long operator.Same (value.Static (constant.Number m)) (value.Static (constant.Bits l)) _ _ refl refl z v h))
    same_is w long (value.Static (constant.Number m)) (value.Open l) a b i j z v h =
        subst (λ c. Is r p ws n k z w v (meaning.same site.shapes c b)) (sym i) (subst (λ c. Is r p ws n k z w v (meaning.same site.shapes (static (constant.Number m)) c)) (sym j.2)
        (between_is r p ws n k w long operator.Same (value.Static (constant.Number m)) (value.Open l) _ _ refl (j.0, j.1, refl) z v h))
    same_is w long (value.Static (constant.Bits m)) y a b i j z v h =
        subst (λ c. Is r p ws n k z w v (meaning.same site.shapes c b)) (sym i) (between_is r p ws n k w long operator.Same (value.Static (constant.Bits m)) y _ b refl j z v h)
    same_is w long (value.Open m) y a b i j z v h =
        subst (λ c. Is r p ws n k z w v (meaning.same site.shapes c b)) (sym i.2) (between_is r p ws n k w long operator.Same (value.Open m) y _ b (i.0, i.1, refl) j z v h)

    -- one label more
    either_is : (w : Work) → IsLong r p ws n k w → (found : Option Value) (b : Option Val) → FoundShows (V r p ws n k w) found b → (x : Value) (a : Val) → Shows (V r p ws n k w) x a
        → (z : Value) (v : Work) → carrying.either found x w ≡ Ok (z, v) → Is r p ws n k z w v (also b a)
    either_is w long None None i x a j z v h = there r p ws n k w long x z v a h j
    either_is w long (Some y) (Some b) i x a j z v h = between_is r p ws n k w long operator.Or y x b a i j z v h
    either_is w long None (Some b) i x a j z v h = absurd i
    either_is w long (Some y) None i x a j z v h = absurd i

    -- what is settled after it tells nothing more
    settled : {A : Type 0} (Q R : List Bits → A → Type 0) (w u v : Work) (d : Evaluated A) (z : Value) (a : Val) → Same r p ws n k Q w u d → Is r p ws n k z u v a
        → R (V r p ws n k v) d.gives → Same r p ws n k R w v d
    settled Q R w u v d z a f g h = record {
      adds = record {
        within = λ i x j. g.adds.within i x (f.adds.within i x j);
        choices = g.adds.choices ∙ f.adds.choices;
        sites = g.adds.sites ∙ f.adds.sites;
        calls = g.adds.calls ∙ append-nil _ ∙ f.adds.calls;
        needs = g.adds.needs ∙ append-nil _ ∙ f.adds.needs;
      };
      long = g.long;
      gives = h;
    }

    -- a label, and whether the subject has it or one before
    label_is : (x : Value) (y : Val) (l : Carry) (m : Means) → Carries r l m → (vs : List Local) (us : Variables) (w : Work) → IsLong r p ws n k w → AllHold (V r p ws n k w) vs us
        → Shows (V r p ws n k w) x y → (found : Option Value) (b : Option Val) → FoundShows (V r p ws n k w) found b
        → (z : Value) (v : Work) → carrying.label call site x found l vs w ≡ Ok (z, v)
        → Same r p ws n k (λ W a. Shows W z (also b (meaning.same site.shapes y a))) w v (here r p ws n k w (m us))
    unfolding carrying.label Carries
    label_is x y l m h vs us w long hold shown found b before z v e =
        let g = got (l vs w) _ (z, v) e in
        by g.0.0 g.0.1 (h p ws n k vs us w long hold g.0.0 g.0.1 g.1) (values.is_static g.0.0) g.2 where
          by : (o : Value) (u : Work) → Same r p ws n k (λ W a. Shows W o a) w u (here r p ws n k w (m us))
              → (is : Bool) → (if is then (carrying.same_as call site x o u >>= λ q. carrying.either found q.0 q.1) else Err (static_fault site)) ≡ Ok (z, v)
              → Same r p ws n k (λ W a. Shows W z (also b (meaning.same site.shapes y a))) w v (here r p ws n k w (m us))
          by o u first true q =
              let a = (here r p ws n k w (m us)).gives in
              let on : (i : Value) (j : Val) → Shows (V r p ws n k w) i j → Shows (V r p ws n k u) i j = λ i j. shows_within (V r p ws n k w) (V r p ws n k u) first.adds.within i j in
              let t = got (carrying.same_as call site x o u) (λ s. carrying.either found s.0 s.1) (z, v) q in
              let second = same_is u first.long x o y a (on x y shown) first.gives t.0.0 t.0.1 t.1 in
              let later : (i : Value) (j : Val) → Shows (V r p ws n k u) i j → Shows (V r p ws n k t.0.1) i j = λ i j. shows_within (V r p ws n k u) (V r p ws n k t.0.1) second.adds.within i j in
              let third = either_is t.0.1 second.long found b (found_within _ _ (λ i j s. later i j (on i j s)) found b before) t.0.0 (meaning.same site.shapes y a) second.gives z v t.2 in
              let both = next r p ws n k t.0.0 z u t.0.1 v (meaning.same site.shapes y a) (also b (meaning.same site.shapes y a)) second third in
              settled (λ W a. Shows W o a) (λ W a. Shows W z (also b (meaning.same site.shapes y a))) w u v (here r p ws n k w (m us)) z _ first both both.gives
          by o u first false q = absurd cc

    -- all labels from one on
    labels_from_is : (x : Value) (y : Val) (ls : List Carry) (ms : List Meant) → AllCarry r ls ms → (vs : List Local) (us : Variables) (w : Work) → IsLong r p ws n k w → AllHold (V r p ws n k w) vs us
        → Shows (V r p ws n k w) x y → (found : Option Value) (b : Option Val) → FoundShows (V r p ws n k w) found b
        → (z : Value) (v : Work) → carrying.labels_from call site x found ls vs w ≡ Ok (z, v)
        → Same r p ws n k (λ W bs. Shows W z (any_of y b bs)) w v (here r p ws n k w (meaning.all ms us))
    unfolding carrying.labels_from meaning.all
    labels_from_is x y [] [] h vs us w long hold shown found b before z v e =
        subst (λ (o : Value × Work). Same r p ws n k (λ W bs. Shows W o.0 (any_of y b bs)) w o.1 (here r p ws n k w (yields []))) (same_ok (carrying.or_false found, w) (z, v) e)
        (nothing_more r p ws n k (λ W bs. Shows W (carrying.or_false found) (any_of y b bs)) w long [] (none found b before)) where
          none : (found : Option Value) (b : Option Val) → FoundShows (V r p ws n k w) found b → Shows (V r p ws n k w) (carrying.or_false found) (any_of y b [])
          none None None s = refl
          none (Some i) (Some j) s = s
          none None (Some j) s = absurd s
          none (Some i) None s = absurd s
    labels_from_is x y (l ∷ ls) (m ∷ ms) h vs us w long hold shown found b before z v e =
        let g = got (carrying.label call site x found l vs w) (λ o. carrying.labels_from call site x (Some o.0) ls vs o.1) (z, v) e in
        let u = g.0.1 in
        let a = (here r p ws n k w (m.means us)).gives in
        let c = also b (meaning.same site.shapes y a) in
        let first = label_is x y l m.means h.0 vs us w long hold shown found b before g.0.0 u g.1 in
        let on = first.adds.within in
        let others = labels_from_is x y ls ms h.1 vs us u first.long (all_hold_within (V r p ws n k w) (V r p ws n k u) on vs us hold)
        (shows_within (V r p ws n k w) (V r p ws n k u) on x y shown) (Some g.0.0) (Some c) first.gives z v g.2 in
        bound r p ws n k (λ W a. Shows W g.0.0 (also b (meaning.same site.shapes y a))) (λ W bs. Shows W z (any_of y b bs)) w u v (m.means us) (λ a. evaluation.◌>>=◌ (meaning.all ms us) (λ bs. yields (a ∷ bs))) first
        (given r p ws n k (λ W bs. Shows W z (any_of y (Some c) bs)) (λ W bs. Shows W z (any_of y b bs)) u v (meaning.all ms us) (λ bs. a ∷ bs) others
        (subst (Shows (V r p ws n k v) z) (any_more y b a _) others.gives))
    labels_from_is x y [] (m ∷ ms) h vs us w long hold shown found b before z v e = absurd h
    labels_from_is x y (l ∷ ls) [] h vs us w long hold shown found b before z v e = absurd h

    -- all labels of an arm, from these words
    pub labels_is : (x : Value) (y : Val) (ls : List Carry) (ms : List Meant) → AllCarry r ls ms → (vs : List Local) (us : Variables) (c : Count) → IsLong r p ws n k (no_steps c) → AllHold (V r p ws n k (no_steps c)) vs us
        → Shows (V r p ws n k (no_steps c)) x y → (z : Value) (v : Work) → carrying.labels call site x ls vs c ≡ Ok (z, v)
        → Same r p ws n k (λ W bs. Shows W z (meaning.one_of site.shapes y bs)) (no_steps c) v (here r p ws n k (no_steps c) (meaning.all ms us))
    unfolding carrying.labels
    labels_is x y ls ms h vs us c long hold shown z v e = labels_from_is x y ls ms h vs us (no_steps c) long hold shown None None tt z v e

  -- ---- what is compared with a static subject is static

  same_static : (i j : Constant) (w : Work) (z : Value) (v : Work) → carrying.same_as call site (value.Static i) (value.Static j) w ≡ Ok (z, v) → values.is_static z ≡ true
  unfolding work.between
  same_static (constant.Number m) (constant.Number l) w z v e = by (number_between op.Same m l) e where
    by : (o : Option Constant) → carried.or_fault (static_fault site) o w ≡ Ok (z, v) → values.is_static z ≡ true
    by None q = absurd cc
    by (Some c) q = ap (λ (o : Value × Work). values.is_static o.0) (sym (same_ok (value.Static c, w) (z, v) q))
  same_static (constant.Number m) (constant.Bits l) w z v e = ap (λ (o : Value × Work). values.is_static o.0) (sym (same_ok _ (z, v) e))
  same_static (constant.Bits m) j w z v e = ap (λ (o : Value × Work). values.is_static o.0) (sym (same_ok _ (z, v) e))

  abbrev FoundStatic : Option Value → Type 0
  FoundStatic None = Unit {0}
  FoundStatic (Some x) = values.is_static x ≡ true

  either_static : (found : Option Value) → FoundStatic found → (x : Value) → values.is_static x ≡ true → (w : Work) (z : Value) (v : Work) → carrying.either found x w ≡ Ok (z, v) → values.is_static z ≡ true
  unfolding work.between
  either_static None h x s w z v e = ap (λ (o : Value × Work). values.is_static o.0) (sym (same_ok (x, w) (z, v) e)) ∙ s
  either_static (Some (value.Static i)) h (value.Static j) s w z v e = ap (λ (o : Value × Work). values.is_static o.0) (sym (same_ok _ (z, v) e))
  either_static (Some (value.Static i)) h (value.Open j) s w z v e = absurd cc
  either_static (Some (value.Open i)) h x s w z v e = absurd cc

  label_static : (i : Constant) (found : Option Value) → FoundStatic found → (l : Carry) (vs : List Local) (w : Work) (z : Value) (v : Work) → carrying.label call site (value.Static i) found l vs w ≡ Ok (z, v) → values.is_static z ≡ true
  unfolding carrying.label
  label_static i found h l vs w z v e =
      let g = got (l vs w) _ (z, v) e in
      by g.0.0 g.0.1 g.2 where
        by : (o : Value) (u : Work) → (if values.is_static o then (carrying.same_as call site (value.Static i) o u >>= λ q. carrying.either found q.0 q.1) else Err (static_fault site)) ≡ Ok (z, v) → values.is_static z ≡ true
        by (value.Static j) u q =
            let t = got (carrying.same_as call site (value.Static i) (value.Static j) u) (λ s. carrying.either found s.0 s.1) (z, v) q in
            either_static found h t.0.0 (same_static i j u t.0.0 t.0.1 t.1) t.0.1 z v t.2
        by (value.Open j) u q = absurd cc

  labels_from_static : (i : Constant) (ls : List Carry) (found : Option Value) → FoundStatic found → (vs : List Local) (w : Work) (z : Value) (v : Work) → carrying.labels_from call site (value.Static i) found ls vs w ≡ Ok (z, v) → values.is_static z ≡ true
  unfolding carrying.labels_from
  labels_from_static i [] found h vs w z v e = ap (λ (o : Value × Work). values.is_static o.0) (sym (same_ok (carrying.or_false found, w) (z, v) e)) ∙ by found h where
    by : (found : Option Value) → FoundStatic found → values.is_static (carrying.or_false found) ≡ true
    by None h = refl
    by (Some x) h = h
  labels_from_static i (l ∷ ls) found h vs w z v e =
      let g = got (carrying.label call site (value.Static i) found l vs w) (λ o. carrying.labels_from call site (value.Static i) (Some o.0) ls vs o.1) (z, v) e in
      labels_from_static i ls (Some g.0.0) (label_static i found h l vs w g.0.0 g.0.1 g.1) vs g.0.1 z v g.2

  pub labels_static : (i : Constant) (ls : List Carry) (vs : List Local) (c : Count) (z : Value) (v : Work) → carrying.labels call site (value.Static i) ls vs c ≡ Ok (z, v) → values.is_static z ≡ true
  unfolding carrying.labels
  labels_static i ls vs c z v e = labels_from_static i ls None tt vs (no_steps c) z v e
