-- Nodes that come to their places one after the other.
use Rattle.std.proofs.Common.{◌≡◌, ◌∙◌, ◌⊎◌, inl, inr, ℕ, ◌+◌, ◌<◌, ◌≤◌, List, [], ◌∷◌, ◌++◌, length, length-append, Some, sym, ap, subst, arith}
use Rattle.std.specs.Prelude.{slice_get}
use Rattle.std.proofs.lemmas.Bool.{cases_lt}
use Rattle.std.proofs.lemmas.Option.{same_Some, slice_get_within as within}
use Rattle.bsv_lemmas.proofs.Places.{at_end, stays_left}
use Rattle.bsv_net.specs.declared.node.NetNode.{NetNode}
use Rattle.bsv_share.specs.Moving.{AreMoved, Comes}

pub record MovedBefore (from to : List ℕ) (xs : List NetNode) (count : ℕ) (ys : List NetNode) : Type 0 where
  pub long : length ys ≡ count
  pub each : (k old : ℕ) → k < count → slice_get from k ≡ Some old → (y : NetNode) × (slice_get ys k ≡ Some y) × Comes from to xs old k y

pub moved_more : (from to : List ℕ) (xs ys zs : List NetNode) (count old : ℕ) (y : NetNode) → MovedBefore from to xs count ys → slice_get from count ≡ Some old
    → Comes from to xs old count y → zs ≡ ys ++ y ∷ [] → MovedBefore from to xs (count + 1) zs
moved_more from to xs ys zs count old y h there comes is =
    subst (MovedBefore from to xs (count + 1)) (sym is) (record {
      long = omega (arith, h.long, length-append ys (y ∷ []));
      each = λ k o l e. of k o (cases_lt k count) l e;
    })
  where
    of : (k o : ℕ) → (k < count) ⊎ (count ≤ k) → k < count + 1 → slice_get from k ≡ Some o
        → (z : NetNode) × (slice_get (ys ++ y ∷ []) k ≡ Some z) × Comes from to xs o k z
    of k o (inl below) l e = let f = h.each k o below e in (f.0, stays_left ys (y ∷ []) k f.0 f.1, f.2)
    of k o (inr past) l e =
        let at_count : count ≡ k = omega arith in
        let same : old ≡ o = same_Some old o (sym there ∙ (ap (slice_get from) at_count ∙ e)) in (
          y,
          ap (slice_get (ys ++ y ∷ [])) (sym at_count ∙ sym h.long) ∙ at_end ys y,
          subst (λ (n : ℕ). Comes from to xs o n y) at_count (subst (λ (n : ℕ). Comes from to xs n count y) same comes),
        )

pub all_moved : (from to : List ℕ) (xs ys : List NetNode) (count : ℕ) → count ≡ length from → MovedBefore from to xs count ys → AreMoved from to xs ys
all_moved from to xs ys count e h = record {
  long = h.long ∙ e;
  each = λ k old there. h.each k old (let l = within from k old there in omega (arith, l, e)) there;
}
