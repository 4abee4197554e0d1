-- A node that stands for all of some bits is 1 where each of them is. Where one of the first ones is 0, it does not matter
-- what words the others have.
use Rattle.std.proofs.Common.{◌≡◌, ◌∙◌, ℕ, Bool, true, false, ◌&&◌, List, [], ◌∷◌, ◌++◌, map, refl, sym, ap}
use Rattle.bsv_bits.specs.Operators.{operate}
use Rattle.bsv_bits.specs.Words.{Bits, bit}
use Rattle.bsv_bits.specs.declared.operator.Operator.TheVariants.{And}
use Rattle.bsv_net.specs.declared.node.NetNode.{NetNode}
use Rattle.bsv_net.specs.declared.node.NetNode.TheVariants as net
use Rattle.bsv_net.specs.Equations.{Values, Satisfies}
use Rattle.bsv_net.specs.Placing.{both}
use Rattle.bsv_net.proofs.Gates.{added_means, both_means}
use Rattle.bsv_net.proofs.Grows.{Grows, grows_trans}
use Rattle.bsv_fire.specs.Bodies.{all_from, all_of}
use Rattle.bsv_fire.proofs.BodiesGrow.{all_from_grows}

abbrev pub all_true : List Bool → Bool
all_true [] = true
all_true (b ∷ bs) = b && all_true bs

pub all_true-append : (bs cs : List Bool) → all_true (bs ++ cs) ≡ (all_true bs && all_true cs)
all_true-append [] cs = refl
all_true-append (true ∷ bs) cs = all_true-append bs cs
all_true-append (false ∷ bs) cs = refl

pub grouped : (a b c : Bool) → ((a && b) && c) ≡ (a && (b && c))
grouped true b c = refl
grouped false b c = refl

module _ (inputs registers : List Bits) (V : Values) (full : List NetNode) (widths : List ℕ) (s : Satisfies inputs registers V full widths) where
  both_false : (ns : List NetNode) (a b : ℕ) → Grows (both ns a b).nodes full → V a ≡ bit false → V (both ns a b).place ≡ bit false
  both_false ns a b g e = added_means inputs registers V full widths s ns (net.Two And a b) g ∙ ap (λ (w : Bits). operate And w (V b)) e

  pub all_from_means : (bs : List ℕ) (ps : List Bool) (ns : List NetNode) (a : ℕ) (p : Bool) → V a ≡ bit p → map V bs ≡ map bit ps → Grows (all_from ns a bs).nodes full
      → V (all_from ns a bs).place ≡ bit (p && all_true ps)
  unfolding all_from
  all_from_means [] [] ns a true e f g = e
  all_from_means [] [] ns a false e f g = e
  all_from_means [] (q ∷ ps) ns a p e f g = absurd (let n : ⊥ = cc in n)
  all_from_means (b ∷ bs) [] ns a p e f g = absurd (let n : ⊥ = cc in n)
  all_from_means (b ∷ bs) (q ∷ ps) ns a p e f g =
      let first : V b ≡ bit q = cc in
      let rest : map V bs ≡ map bit ps = cc in
      let o = both ns a b in
      all_from_means bs ps o.nodes o.place (p && q) (both_means inputs registers V full widths s ns a b p q (grows_trans (all_from_grows o.nodes o.place bs) g) e first) rest g
      ∙ ap bit (grouped p q (all_true ps))

  all_from_false : (bs : List ℕ) (ns : List NetNode) (a : ℕ) → V a ≡ bit false → Grows (all_from ns a bs).nodes full → V (all_from ns a bs).place ≡ bit false
  unfolding all_from
  all_from_false [] ns a e g = e
  all_from_false (b ∷ bs) ns a e g =
      let o = both ns a b in
      all_from_false bs o.nodes o.place (both_false ns a b (grows_trans (all_from_grows o.nodes o.place bs) g) e) g

  all_after : (ts : List ℕ) (hs : List Bool) (ns : List NetNode) (a : ℕ) (p : Bool) → V a ≡ bit p → (p ≡ true → map V ts ≡ map bit hs) → Grows (all_from ns a ts).nodes full
      → V (all_from ns a ts).place ≡ bit (p && all_true hs)
  all_after ts hs ns a true e f g = all_from_means ts hs ns a true e (f refl) g
  all_after ts hs ns a false e f g = all_from_false ts ns a e g

  all_from_both : (gs : List ℕ) (ps : List Bool) (ts : List ℕ) (hs : List Bool) (ns : List NetNode) (a : ℕ) (p : Bool) → V a ≡ bit p → map V gs ≡ map bit ps
      → ((p && all_true ps) ≡ true → map V ts ≡ map bit hs) → Grows (all_from ns a (gs ++ ts)).nodes full
      → V (all_from ns a (gs ++ ts)).place ≡ bit ((p && all_true ps) && all_true hs)
  unfolding all_from
  all_from_both [] [] ts hs ns a true e f h g = all_from_means ts hs ns a true e (h refl) g
  all_from_both [] [] ts hs ns a false e f h g = all_from_false ts ns a e g
  all_from_both [] (q ∷ ps) ts hs ns a p e f h g = absurd (let n : ⊥ = cc in n)
  all_from_both (b ∷ gs) [] ts hs ns a p e f h g = absurd (let n : ⊥ = cc in n)
  all_from_both (b ∷ gs) (q ∷ ps) ts hs ns a p e f h g =
      let first : V b ≡ bit q = cc in
      let rest : map V gs ≡ map bit ps = cc in
      let o = both ns a b in
      all_from_both gs ps ts hs o.nodes o.place (p && q) (both_means inputs registers V full widths s ns a b p q (grows_trans (all_from_grows o.nodes o.place (gs ++ ts)) g) e first) rest
      (λ t. h (sym (grouped p q (all_true ps)) ∙ t)) g
      ∙ ap (λ (b : Bool). bit (b && all_true hs)) (grouped p q (all_true ps))

  pub all_of_means : (one : ℕ) (ns : List NetNode) (gs : List ℕ) (ps : List Bool) (ts : List ℕ) (hs : List Bool) → V one ≡ bit true → map V gs ≡ map bit ps
      → (all_true ps ≡ true → map V ts ≡ map bit hs) → Grows (all_of one ns (gs ++ ts)).nodes full
      → V (all_of one ns (gs ++ ts)).place ≡ bit (all_true ps && all_true hs)
  all_of_means one ns [] [] [] hs e f h g = none hs (h refl)
    where
      none : (hs : List Bool) → [] ≡ map bit hs → V one ≡ bit (all_true hs)
      none [] k = e
      none (b ∷ hs) k = absurd (let n : ⊥ = cc in n)
  all_of_means one ns [] [] (t ∷ ts) hs e f h g = some hs (h refl)
    where
      some : (hs : List Bool) → map V (t ∷ ts) ≡ map bit hs → V (all_from ns t ts).place ≡ bit (all_true hs)
      some [] k = absurd (let n : ⊥ = cc in n)
      some (b ∷ hs) k =
          let first : V t ≡ bit b = cc in
          let rest : map V ts ≡ map bit hs = cc in
          all_from_means ts hs ns t b first rest g
  all_of_means one ns [] (q ∷ ps) ts hs e f h g = absurd (let n : ⊥ = cc in n)
  all_of_means one ns (b ∷ gs) [] ts hs e f h g = absurd (let n : ⊥ = cc in n)
  all_of_means one ns (b ∷ gs) (q ∷ ps) ts hs e f h g =
      let first : V b ≡ bit q = cc in
      let rest : map V gs ≡ map bit ps = cc in
      all_from_both gs ps ts hs ns b q first rest h g
