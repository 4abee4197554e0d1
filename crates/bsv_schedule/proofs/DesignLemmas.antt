-- What every design keeps: how many elements there are, and that pairs name elements.
use Rattle.std.proofs.Common.{◌≡◌, ◌∙◌, ℕ, ◌<◌, ◌^◌, true, ◌&&◌, List, [], ◌∷◌, map, length, Some, None, refl, ap, suc, ltb-true, nat_lt}
use Rattle.std.specs.Prelude.{slice_get, IsTrue}
use Rattle.std.specs.List.{list_all}
use Rattle.std.proofs.Math.Logic.{∥∥₁_elim}
use Rattle.std.proofs.Math.Bool.{Bool-set}
use Rattle.std.proofs.lemmas.Bool.{lt-ltb}
use Rattle.std.proofs.lemmas.Option.{slice_get_within}
use Rattle.bsv_design.specs.declared.design.Design.{Design}
use Rattle.bsv_design.specs.declared.design.NamedPart.{NamedPart}
use Rattle.bsv_design.specs.declared.element.Element.{Element}
use Rattle.bsv_design.specs.declared.attributes.Pair.{Pair}
use Rattle.bsv_design.specs.design.Bodies.{target}
use Rattle.bsv_design.specs.design.Designs.{IsDesign}
use Rattle.bsv_design.specs.scheme.Schemes.{design_scheme, calls_of}
use Rattle.bsv_design.specs.scheme.Seen.{design_data}
use Rattle.bsv_schedule.specs.relating.Uses.{pair_below}

pub few_elements : (d : Design) → length d.elements < 2 ^ 32
few_elements d =
    let few : nat_lt (length d.elements) (2 ^ 32) ≡ true = ∥∥₁_elim d.right (Bool-set _ _) (λ (right : IsDesign (design_data d)). right.few_elements) in
    ltb-true _ _ few

-- the pairs name elements
all_below : (n : ℕ) (ps : List Pair) → ((k : ℕ) (p : Pair) → slice_get ps k ≡ Some p → (p.before < n) × (p.after < n)) → list_all (pair_below n) ps ≡ true
all_below n [] h = refl
all_below n (p ∷ ps) h =
    let b = h 0 p refl in
    let here : pair_below n p ≡ true = ap (λ t. t && nat_lt p.after n) (lt-ltb p.before n b.0) ∙ lt-ltb p.after n b.1 in
    ap (λ b. b && list_all (pair_below n) ps) here ∙ all_below n ps (λ k. h (suc k))

pub pairs_below : (d : Design) → IsTrue (list_all (pair_below (length d.elements)) d.pairs)
pairs_below d = ∥∥₁_elim d.right (Bool-set _ _) (λ (right : IsDesign (design_data d)). all_below (length d.elements) d.pairs (λ k p at.
    let r = right.pairs k p at in
    (slice_get_within d.elements p.before r.0.element r.0.at, slice_get_within d.elements p.after r.1.element r.1.at)))

pub uses_some : (d : Design) (n : ℕ) (e : Element) → slice_get d.elements n ≡ Some e → (design_scheme (design_data d)).uses n ≡ map target e.calls
unfolding design_scheme
uses_some d n e at = ap calls_of at

pub uses_none : (d : Design) (n : ℕ) → slice_get d.elements n ≡ None → (design_scheme (design_data d)).uses n ≡ []
unfolding design_scheme
uses_none d n at = ap calls_of at

pub kinds_are : (d : Design) → (design_scheme (design_data d)).kinds ≡ map (λ (p : NamedPart). p.kind) d.parts
unfolding design_scheme
kinds_are d = refl
