-- The ports of the methods of the top, by their places.
use Rattle.std.proofs.Common.{◌≡◌, ◌∙◌, ℕ, zero, suc, ◌+◌, ◌≤◌, Bool, true, false, cond, List, [], ◌∷◌, length, Some, None, is_some, refl, sym, ap, arith}
use Rattle.std.proofs.Math.Bool.{Bool-set}
use Rattle.std.specs.Prelude.{slice_get}
use Rattle.std.proofs.Math.Logic.{∥∥₁_elim}
use Rattle.std.proofs.lemmas.Option.{same_Some}
use Rattle.bsv_design.specs.declared.element.Element.{Element}
use Rattle.bsv_design.specs.declared.element.Role.{Role}
use Rattle.bsv_design.specs.declared.element.Role.TheVariants as role
use Rattle.bsv_design.specs.design.Designs.{DesignData, IsDesign}
use Rattle.bsv_design.specs.design.Roles.{is_rule, gives_value}
use Rattle.bsv_design.specs.scheme.Schemes.{outline}
use Rattle.bsv_design.specs.scheme.States.{methods_in}
use Rattle.bsv_net.specs.declared.net_data.NetData.{NetData}
use Rattle.bsv_vtext.specs.declared.tree.VMethod.{VMethod}
use Rattle.bsv_vgen.specs.declared.known.Known.{Known}
use Rattle.bsv_vgen.specs.Interfaces.{IsMethodOf}
use Rattle.bsv_vgen.specs.Modules.{method_of, methods_from, result_of}

-- ---- the elements before the first rule

abbrev methods_with : Bool → Element → List Element → List Element
methods_with b e es = cond b [] (e ∷ methods_in es)

-- they are where they stand among all elements
pub among_all : (es : List Element) (i : ℕ) (e : Element) → slice_get (methods_in es) i ≡ Some e → (slice_get es i ≡ Some e) × (is_rule e.role ≡ false)
among_all [] i e there = absurd (let h : ⊥ = cc in h)
among_all (y ∷ es) i e there = of (is_rule y.role) i refl there (λ k h. among_all es k e h)
  where
    of : (b : Bool) (i : ℕ) → is_rule y.role ≡ b → slice_get (methods_with b y es) i ≡ Some e
        → ((k : ℕ) → slice_get (methods_in es) k ≡ Some e → (slice_get es k ≡ Some e) × (is_rule e.role ≡ false))
        → (slice_get (y ∷ es) i ≡ Some e) × (is_rule e.role ≡ false)
    of true i r h rest = absurd (let n : ⊥ = cc in n)
    of false zero r h rest = (h, ap (λ (x : Element). is_rule x.role) (sym (same_Some y e h)) ∙ r)
    of false (suc k) r h rest = rest k h

-- no rule comes before them
abbrev NoRuleBefore : List Element → ℕ → Type 0
NoRuleBefore es i = (k : ℕ) (d : Element) → k ≤ i → slice_get es k ≡ Some d → is_rule d.role ≡ false

pub among_methods : (es : List Element) (i : ℕ) (e : Element) → slice_get es i ≡ Some e → NoRuleBefore es i → slice_get (methods_in es) i ≡ Some e
among_methods [] i e there before = absurd (let h : ⊥ = cc in h)
among_methods (y ∷ es) zero e there before = ap (λ (b : Bool). slice_get (methods_with b y es) 0) (before 0 y (omega arith) refl) ∙ there
among_methods (y ∷ es) (suc i) e there before =
    ap (λ (b : Bool). slice_get (methods_with b y es) (suc i)) (before 0 y (omega arith) refl)
    ∙ among_methods es i e there (λ k d l h. before (suc k) d (omega (arith, l)) h)

rule_role : (e : Element) → is_rule e.role ≡ true → e.role ≡ role.Rule
rule_role e h = of e.role h
  where
    of : (r : Role) → is_rule r ≡ true → r ≡ role.Rule
    of role.Rule f = refl
    of role.Value f = absurd (let n : ⊥ = cc in n)
    of role.Action f = absurd (let n : ⊥ = cc in n)
    of role.ActionValue f = absurd (let n : ⊥ = cc in n)

-- in a design an element that is a method is one of them
pub is_among : (b : DesignData) → ∥ IsDesign b ∥₁ → (i : ℕ) (e : Element) → slice_get b.elements i ≡ Some e → is_rule e.role ≡ false → slice_get (methods_in b.elements) i ≡ Some e
is_among b made i e there own =
    among_methods b.elements i e there (λ k d l h. ∥∥₁_elim made (Bool-set _ _) (λ (right : IsDesign b). of right k d l h (is_rule d.role) refl))
  where
    of : IsDesign b → (k : ℕ) (d : Element) → k ≤ i → slice_get b.elements k ≡ Some d → (t : Bool) → is_rule d.role ≡ t → is_rule d.role ≡ false
    of right k d l h false r = r
    of right k d l h true r =
        absurd (let later : e.role ≡ role.Rule = right.methods_first k i d e h there l (rule_role d r) in
        let n : true ≡ false = sym (ap is_rule later) ∙ own in let m : ⊥ = cc in m)

module _ (ks : List Known) (c : NetData) where
  -- ---- their ports

  pub ports_there : (es : List Element) (n i : ℕ) (e : Element) → slice_get es i ≡ Some e → slice_get (methods_from ks c n es) i ≡ Some (method_of ks c (n + i) e)
  ports_there [] n i e there = absurd (let h : ⊥ = cc in h)
  ports_there (y ∷ es) n zero e there =
      let place : n ≡ n + 0 = omega arith in
      ap (λ (k : ℕ). Some (method_of ks c k y)) place ∙ ap (λ (x : Element). Some (method_of ks c (n + 0) x)) (same_Some y e there)
  ports_there (y ∷ es) n (suc i) e there =
      let place : n + 1 + i ≡ n + suc i = omega arith in
      ports_there es (n + 1) i e there ∙ ap (λ (k : ℕ). Some (method_of ks c k e)) place

  -- ports are those of an element
  pub record ArePortsOf (n : ℕ) (es : List Element) (i : ℕ) (v : VMethod) : Type 0 where
    pub element : Element
    pub at : slice_get es i ≡ Some element
    pub is : v ≡ method_of ks c (n + i) element

  pub ports_are : (es : List Element) (n i : ℕ) (v : VMethod) → slice_get (methods_from ks c n es) i ≡ Some v → ArePortsOf n es i v
  ports_are [] n i v there = absurd (let h : ⊥ = cc in h)
  ports_are (y ∷ es) n zero v there =
      let place : n ≡ n + 0 = omega arith in
      record { element = y; at = refl; is = sym (same_Some (method_of ks c n y) v there) ∙ ap (λ (k : ℕ). method_of ks c k y) place }
  ports_are (y ∷ es) n (suc i) v there =
      let place : n + 1 + i ≡ n + suc i = omega arith in
      let h = ports_are es (n + 1) i v there in
      record { element = h.element; at = h.at; is = h.is ∙ ap (λ (k : ℕ). method_of ks c k h.element) place }

  pub ports_count : (es : List Element) (n : ℕ) → length (methods_from ks c n es) ≡ length es
  ports_count [] n = refl
  ports_count (e ∷ es) n = ap suc (ports_count es (n + 1))

  -- they are those of the method
  pub are_its_ports : (n : ℕ) (e : Element) → IsMethodOf (outline e) (method_of ks c n e)
  are_its_ports n e = record { name = refl; arguments = refl; action = refl; result = of (gives_value e.role) }
    where
      of : (b : Bool) → is_some (cond b (Some (result_of ks c n).width) None) ≡ b
      of true = refl
      of false = refl
