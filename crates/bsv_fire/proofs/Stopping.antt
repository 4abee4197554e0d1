-- The nodes that tell which elements are stopped, where one more element is in the net.
use Rattle.std.proofs.Common.{◌≡◌, ◌∙◌, ◌<◌, ℕ, Bool, true, false, ◌&&◌, ◌||◌, List, [], ◌∷◌, Option, Some, None, refl, sym, ap, subst, length}
use Rattle.std.specs.Prelude.{slice_get, slice_set, ◌==◌}
use Rattle.std.proofs.lemmas.Bool.{eqb-true, eqb-false}
use Rattle.std.proofs.lemmas.List.{length-set}
use Rattle.bsv_lemmas.proofs.Places.{set_elsewhere, set_there}
use Rattle.bsv_bits.specs.Words.{Bits, bit}
use Rattle.bsv_clock.specs.Clocks.{is_in}
use Rattle.bsv_net.specs.declared.node.NetNode.{NetNode}
use Rattle.bsv_net.specs.Equations.{Values, Satisfies}
use Rattle.bsv_net.proofs.Gates.{either_means}
use Rattle.bsv_net.proofs.Grows.{Grows, grows_trans}
use Rattle.bsv_fire.specs.FireBuilder.{all_stopped, with_stopper, flattened}
use Rattle.bsv_fire.proofs.Steps.{all_stopped_grows}

-- what is known of a node that tells whether an element is stopped: where there is none, nothing stops it
pub record TellsStop (V : Values) (o : Option ℕ) (stops stopped : Bool) : Type 0 where
  pub free : o ≡ None → stops ≡ false
  pub quiet : o ≡ None → stopped ≡ false
  pub stopped_is : (k : ℕ) → o ≡ Some k → V k ≡ bit stopped

pub all_stopped_long : (fire : ℕ) (ns : List NetNode) (stoppers : List (Option ℕ)) (ks : List ℕ) → length (all_stopped fire ns stoppers ks).stoppers ≡ length stoppers
unfolding all_stopped
all_stopped_long fire ns stoppers [] = refl
all_stopped_long fire ns stoppers (k ∷ ks) =
    let p = with_stopper fire ns (flattened (slice_get stoppers k)) in
    all_stopped_long fire p.nodes (slice_set stoppers k (Some p.place)) ks ∙ length-set stoppers k (Some p.place)

more_stops : (a b c : Bool) → ((a || b) || c) ≡ (a || (b || c))
more_stops true b c = refl
more_stops false b c = refl

more_stopped : (a f b c : Bool) → ((a || (f && b)) || (f && c)) ≡ (a || (f && (b || c)))
more_stopped true f b c = refl
more_stopped false true b c = refl
more_stopped false false b c = refl

none_more : (a : Bool) → a ≡ (a || false)
none_more true = refl
none_more false = refl

none_stopped : (a f : Bool) → a ≡ (a || (f && false))
none_stopped true f = refl
none_stopped false true = refl
none_stopped false false = refl

fire_stops : (a f : Bool) → (a || f) ≡ (a || (f && true))
fire_stops true f = refl
fire_stops false true = refl
fire_stops false false = refl

module _ (inputs registers : List Bits) (V : Values) (full : List NetNode) (widths : List ℕ) (s : Satisfies inputs registers V full widths) (fire : ℕ) (f : Bool) (told : V fire ≡ bit f) where
  -- one that it stops
  by_told : (ns : List NetNode) (o : Option ℕ) (a b : Bool) → TellsStop V o a b → Grows (with_stopper fire ns o).nodes full → V (with_stopper fire ns o).place ≡ bit (b || (f && true))
  by_told ns None a b h grows = told ∙ ap bit (ap (λ (c : Bool). c || f) (sym (h.quiet refl)) ∙ fire_stops b f)
  by_told ns (Some k) a b h grows = either_means inputs registers V full widths s ns k fire b f grows (h.stopped_is k refl) told ∙ ap bit (fire_stops b f)

  one_stopped : (ns : List NetNode) (stoppers : List (Option ℕ)) (k t : ℕ) (a b : Bool) → t < length stoppers → TellsStop V (flattened (slice_get stoppers t)) a b → Grows (with_stopper fire ns (flattened (slice_get stoppers k))).nodes full
      → TellsStop V (flattened (slice_get (slice_set stoppers k (Some (with_stopper fire ns (flattened (slice_get stoppers k))).place)) t)) (a || (k == t)) (b || (f && (k == t)))
  one_stopped ns stoppers k t a b l h grows = of (k == t) refl
    where
      there : k ≡ t → V (with_stopper fire ns (flattened (slice_get stoppers k))).place ≡ bit (b || (f && true))
      there e = by_told ns (flattened (slice_get stoppers k)) a b (subst (λ (j : ℕ). TellsStop V (flattened (slice_get stoppers j)) a b) (sym e) h) grows

      is_set : k ≡ t → (p : ℕ) → flattened (slice_get (slice_set stoppers k (Some p)) t) ≡ Some p
      is_set e p = ap (λ (j : ℕ). flattened (slice_get (slice_set stoppers j (Some p)) t)) e ∙ ap flattened (set_there stoppers t (Some p) l)

      where_set : (o : Option ℕ) (p : ℕ) → o ≡ Some p → V p ≡ bit (b || (f && true)) → TellsStop V o (a || true) (b || (f && true))
      where_set o p e v = record {
        free = λ n. absurd (let x : ⊥ = cc in x);
        quiet = λ n. absurd (let x : ⊥ = cc in x);
        stopped_is = λ k n. (let same : p ≡ k = cc in ap V (sym same) ∙ v);
      }

      of : (c : Bool) → (k == t) ≡ c → TellsStop V (flattened (slice_get (slice_set stoppers k (Some (with_stopper fire ns (flattened (slice_get stoppers k))).place)) t)) (a || c) (b || (f && c))
      of true e =
          let same = eqb-true k t e in
          let p = (with_stopper fire ns (flattened (slice_get stoppers k))).place in
          where_set (flattened (slice_get (slice_set stoppers k (Some p)) t)) p (is_set same p) (there same)
      of false e =
          let p = (with_stopper fire ns (flattened (slice_get stoppers k))).place in
          let other = set_elsewhere stoppers k t (Some p) (eqb-false k t e) in
          subst (λ (x : Option (Option ℕ)). TellsStop V (flattened x) (a || false) (b || (f && false))) (sym other)
          (subst (λ (x : Bool). TellsStop V (flattened (slice_get stoppers t)) x (b || (f && false))) (none_more a)
          (subst (TellsStop V (flattened (slice_get stoppers t)) a) (none_stopped b f) h))

  pub all_stopped_told : (ks : List ℕ) (ns : List NetNode) (stoppers : List (Option ℕ)) (t : ℕ) (a b : Bool) → t < length stoppers → TellsStop V (flattened (slice_get stoppers t)) a b
      → Grows (all_stopped fire ns stoppers ks).nodes full
      → TellsStop V (flattened (slice_get (all_stopped fire ns stoppers ks).stoppers t)) (a || is_in ks t) (b || (f && is_in ks t))
  unfolding all_stopped is_in
  all_stopped_told [] ns stoppers t a b l h grows =
      subst (λ (x : Bool). TellsStop V (flattened (slice_get stoppers t)) x (b || (f && false))) (none_more a)
      (subst (TellsStop V (flattened (slice_get stoppers t)) a) (none_stopped b f) h)
  all_stopped_told (k ∷ ks) ns stoppers t a b l h grows =
      let p = with_stopper fire ns (flattened (slice_get stoppers k)) in
      let bs = slice_set stoppers k (Some p.place) in
      let first = one_stopped ns stoppers k t a b l h (grows_trans (all_stopped_grows fire p.nodes bs ks) grows) in
      let rest = all_stopped_told ks p.nodes bs t (a || (k == t)) (b || (f && (k == t))) (subst (λ (n : ℕ). t < n) (sym (length-set stoppers k (Some p.place))) l) first grows in
      let o = flattened (slice_get (all_stopped fire p.nodes bs ks).stoppers t) in
      subst (λ (x : Bool). TellsStop V o x (b || (f && is_in (k ∷ ks) t))) (more_stops a (k == t) (is_in ks t))
      (subst (TellsStop V o ((a || (k == t)) || is_in ks t)) (more_stopped b f (k == t) (is_in ks t)) rest)
