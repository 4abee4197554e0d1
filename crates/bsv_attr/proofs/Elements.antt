-- From the elements of a design to its scheme.
use Rattle.std.proofs.Common.{◌≡◌, ◌∙◌, ℕ, ◌<◌, ◌^◌, ◌+◌, Bool, true, List, [], ◌∷◌, ◌++◌, map, length, Some, refl, ap, subst, IsTrue, zero, suc, ltb-true, nat_lt}
use Rattle.std.specs.Prelude.{slice_get}
use Rattle.std.specs.List.{list_all}
use Rattle.std.proofs.Math.Logic.{∥∥₁_elim}
use Rattle.std.proofs.Math.Bool.{Bool-set}
use Rattle.std.proofs.lemmas.Bool.{lt-ltb}
use Rattle.std.proofs.lemmas.Option.{same_Some, slice_get_within}
use Rattle.bsv_lemmas.proofs.Truths.{both_right, both_left}
use Rattle.bsv_bits.specs.Words.{Bits}
use Rattle.bsv_design.specs.declared.design.Design.{Design}
use Rattle.bsv_design.specs.declared.design.NamedPart.{NamedPart}
use Rattle.bsv_design.specs.declared.element.Element.{Element}
use Rattle.bsv_design.specs.design.Bodies.{words}
use Rattle.bsv_design.specs.design.Designs.{DesignData, IsDesign, IsRuleIn}
use Rattle.bsv_design.specs.scheme.Relations.{no_answers}
use Rattle.bsv_design.specs.scheme.Schemes.{design_scheme, kinds_of, trace_of, ports_of, filled}
use Rattle.bsv_design.specs.scheme.Seen.{design_data}
use Rattle.bsv_design.specs.scheme.Traces.{Trace, body_trace, site_at, demand_at}
use Rattle.bsv_attr.specs.Calling.{is_countable, condition_named, implicit_places}
use Rattle.bsv_design.specs.scheme.Traces.{has_name}
use Rattle.bsv_attr.specs.Implicit.{are_implicit, has_guard}
use Rattle.bsv_schedule.specs.relating.Marks.{IsMarked}

-- ---- what holds of each design

rule_within : (es : List Element) (n : ℕ) → IsRuleIn es n → nat_lt n (length es) ≡ true
rule_within es n r = lt-ltb n (length es) (slice_get_within es n r.element r.at)

-- marks are of elements
pub marked_within : (d : Design) (fires : Bool) (n : ℕ) → IsMarked d.asserts fires n → n < length d.elements
marked_within d fires n m =
    let within : nat_lt n (length d.elements) ≡ true =
    ∥∥₁_elim d.right (Bool-set _ _) (λ (right : IsDesign (design_data d)). rule_within d.elements n (subst (IsRuleIn d.elements) m.is.rule (right.asserts m.place m.mark m.at))) in
    ltb-true _ _ within

few_at : (es : List Element) (n : ℕ) (e : Element) → list_all is_countable es ≡ true → slice_get es n ≡ Some e → is_countable e ≡ true
few_at [] n e h at = absurd cc
few_at (x ∷ es) zero e h at = subst (λ y. is_countable y ≡ true) (same_Some x e at) (both_left (is_countable x) _ h)
few_at (x ∷ es) (suc n) e h at = few_at es n e (both_right (is_countable x) _ h) at

pub few_places : (d : Design) (n : ℕ) (e : Element) → IsTrue (list_all is_countable d.elements) → slice_get d.elements n ≡ Some e → length e.conditions + length e.calls < 2 ^ 32
few_places d n e h at = ltb-true _ _ (few_at d.elements n e h at)

-- ---- what is implicit

map_both : {A B C : Type 0} (f : B → C) (g : A → B) (xs : List A) → map f (map g xs) ≡ map (λ x. f (g x)) xs
map_both f g [] = refl
map_both f g (x ∷ xs) = ap (λ ys. f (g x) ∷ ys) (map_both f g xs)

pub of_body : (ps : List NamedPart) (e : Element) (ws : List Bits)
    → map has_name (map (demand_at ws) e.conditions) ++ map (has_guard (map (λ p. p.kind) ps)) (map (site_at (map (λ p. p.kind) ps) ws) e.calls) ≡ implicit_places ps e
of_body ps e ws =
    let ks = map (λ (p : NamedPart). p.kind) ps in
    ap (λ xs. xs ++ map (has_guard ks) (map (site_at ks ws) e.calls)) (map_both has_name (demand_at ws) e.conditions)
    ∙ ap (λ xs. map condition_named e.conditions ++ xs) (map_both (has_guard ks) (site_at ks ws) e.calls)

pub implicit_is : (b : DesignData) (n : ℕ) (e : Element) → slice_get b.elements n ≡ Some e → are_implicit (design_scheme b) n ≡ implicit_places b.parts e
unfolding are_implicit design_scheme body_trace
implicit_is b n e at =
    let ks = kinds_of b in
    let ws = filled (ports_of (slice_get (design_scheme b).elements n)) [] in
    ap (λ o. let t : Trace = trace_of ks o no_answers ws in map has_name t.demands ++ map (has_guard ks) t.sites) at
    ∙ of_body b.parts e (words e no_answers ws)
