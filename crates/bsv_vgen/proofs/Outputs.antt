-- The assignments of the outputs: each method tells whether it is ready, and what it gives where it gives a value.
use Rattle.std.proofs.Common.{◌≡◌, ◌∙◌, ℕ, zero, suc, ◌+◌, ◌≤◌, Bool, true, false, cond, List, [], ◌∷◌, ◌++◌, Some, refl, sym, ap, subst, arith}
use Rattle.std.specs.Prelude.{slice_get}
use Rattle.std.proofs.lemmas.Option.{same_Some}
use Rattle.bsv_design.specs.declared.element.Element.{Element}
use Rattle.bsv_design.specs.design.Roles.{gives_value}
use Rattle.bsv_net.specs.declared.net_data.NetData.{NetData}
use Rattle.bsv_vtext.specs.declared.tree.Assign.{Assign}
use Rattle.bsv_vtext.specs.declared.tree.Target.{Target}
use Rattle.bsv_vtext.specs.declared.tree.Target.TheVariants as target
use Rattle.bsv_vgen.specs.declared.known.Known.{Known}
use Rattle.bsv_vgen.specs.Modules.{assign, told_at, result_of, outputs_from}

-- what an assignment of an output is
pub data IsOutput (ks : List Known) (c : NetData) (n : ℕ) (e : Element) (x : Assign) : Type 0 where
  ready : x ≡ assign (target.Ready n) (told_at ks c.readies n) → IsOutput ks c n e x
  result : gives_value e.role ≡ true → x ≡ assign (target.Result n) (result_of ks c n) → IsOutput ks c n e x

-- it is one of the method of this number
pub record IsOutputIn (ks : List Known) (c : NetData) (n : ℕ) (es : List Element) (x : Assign) : Type 0 where
  pub index : ℕ
  pub element : Element
  pub at : slice_get es index ≡ Some element
  pub is : IsOutput ks c (n + index) element x

module _ (ks : List Known) (c : NetData) where
  later : (n : ℕ) (e : Element) (es : List Element) (x : Assign) → IsOutputIn ks c (n + 1) es x → IsOutputIn ks c n (e ∷ es) x
  later n e es x h =
      let place : n + 1 + h.index ≡ n + suc h.index = omega arith in
      record { index = suc h.index; element = h.element; at = h.at; is = subst (λ (k : ℕ). IsOutput ks c k h.element x) place h.is }

  first : (n : ℕ) (e : Element) (es : List Element) (x : Assign) → IsOutput ks c n e x → IsOutputIn ks c n (e ∷ es) x
  first n e es x h =
      let place : n ≡ n + 0 = omega arith in
      record { index = 0; element = e; at = refl; is = subst (λ (k : ℕ). IsOutput ks c k e x) place h }

  -- what comes after the first assignment of a method
  abbrev after_ready : ℕ → Element → List Element → Bool → List Assign
  after_ready n e es b = cond b (assign (target.Result n) (result_of ks c n) ∷ []) [] ++ outputs_from ks c (n + 1) es

  pub is_output : (es : List Element) (n j : ℕ) (x : Assign) → slice_get (outputs_from ks c n es) j ≡ Some x → IsOutputIn ks c n es x
  is_output [] n j x there = absurd (let h : ⊥ = cc in h)
  is_output (e ∷ es) n zero x there = first n e es x (ready (sym (same_Some (assign (target.Ready n) (told_at ks c.readies n)) x there)))
  is_output (e ∷ es) n (suc j) x there = of (gives_value e.role) refl j there (λ k h. is_output es (n + 1) k x h)
    where
      of : (b : Bool) → gives_value e.role ≡ b → (j : ℕ) → slice_get (after_ready n e es b) j ≡ Some x
          → ((k : ℕ) → slice_get (outputs_from ks c (n + 1) es) k ≡ Some x → IsOutputIn ks c (n + 1) es x) → IsOutputIn ks c n (e ∷ es) x
      of true g zero h rest = first n e es x (result g (sym (same_Some (assign (target.Result n) (result_of ks c n)) x h)))
      of true g (suc k) h rest = later n e es x (rest k h)
      of false g k h rest = later n e es x (rest k h)

  -- the place of an assignment
  pub record IsPlaced (n : ℕ) (es : List Element) (x : Assign) : Type 0 where
    pub place : ℕ
    pub there : slice_get (outputs_from ks c n es) place ≡ Some x

  behind : (n : ℕ) (e : Element) (es : List Element) (x : Assign) → IsPlaced (n + 1) es x → IsPlaced n (e ∷ es) x
  behind n e es x h = of (gives_value e.role) refl
    where
      of : (b : Bool) → gives_value e.role ≡ b → IsPlaced n (e ∷ es) x
      of true g = record { place = suc (suc h.place); there = ap (λ (b : Bool). slice_get (after_ready n e es b) (suc h.place)) g ∙ h.there }
      of false g = record { place = suc h.place; there = ap (λ (b : Bool). slice_get (after_ready n e es b) h.place) g ∙ h.there }

  pub ready_placed : (es : List Element) (n i : ℕ) (e : Element) → slice_get es i ≡ Some e → IsPlaced n es (assign (target.Ready (n + i)) (told_at ks c.readies (n + i)))
  ready_placed [] n i e there = absurd (let h : ⊥ = cc in h)
  ready_placed (y ∷ es) n zero e there =
      let place : n ≡ n + 0 = omega arith in
      record { place = 0; there = ap (λ (k : ℕ). Some (assign (target.Ready k) (told_at ks c.readies k))) place }
  ready_placed (y ∷ es) n (suc i) e there =
      let place : n + 1 + i ≡ n + suc i = omega arith in
      subst (λ (k : ℕ). IsPlaced n (y ∷ es) (assign (target.Ready k) (told_at ks c.readies k))) place
      (behind n y es (assign (target.Ready (n + 1 + i)) (told_at ks c.readies (n + 1 + i))) (ready_placed es (n + 1) i e there))

  pub result_placed : (es : List Element) (n i : ℕ) (e : Element) → slice_get es i ≡ Some e → gives_value e.role ≡ true
      → IsPlaced n es (assign (target.Result (n + i)) (result_of ks c (n + i)))
  result_placed [] n i e there gives = absurd (let h : ⊥ = cc in h)
  result_placed (y ∷ es) n zero e there gives =
      let same : gives_value y.role ≡ true = ap (λ (x : Element). gives_value x.role) (same_Some y e there) ∙ gives in
      let place : n ≡ n + 0 = omega arith in
      subst (λ (k : ℕ). IsPlaced n (y ∷ es) (assign (target.Result k) (result_of ks c k))) place
      (record { place = 1; there = ap (λ (b : Bool). slice_get (after_ready n y es b) 0) same })
  result_placed (y ∷ es) n (suc i) e there gives =
      let place : n + 1 + i ≡ n + suc i = omega arith in
      subst (λ (k : ℕ). IsPlaced n (y ∷ es) (assign (target.Result k) (result_of ks c k))) place
      (behind n y es (assign (target.Result (n + 1 + i)) (result_of ks c (n + 1 + i))) (result_placed es (n + 1) i e there gives))

  -- ---- each output is assigned once

  abbrev all : ℕ → Element → List Element → Bool → List Assign
  all n e es b = assign (target.Ready n) (told_at ks c.readies n) ∷ after_ready n e es b

  -- the number of the method whose output it is
  abbrev pub number_of : Target → ℕ
  number_of (target.Wire k) = 0
  number_of (target.Ready n) = n
  number_of (target.Result n) = n

  output_number : (n : ℕ) (e : Element) (x : Assign) → IsOutput ks c n e x → number_of x.target ≡ n
  output_number n e x (ready h) = ap (λ (y : Assign). number_of y.target) h
  output_number n e x (result g h) = ap (λ (y : Assign). number_of y.target) h

  at_least : (es : List Element) (n j : ℕ) (x : Assign) → slice_get (outputs_from ks c n es) j ≡ Some x → n ≤ number_of x.target
  at_least es n j x there =
      let h = is_output es n j x there in
      let e = output_number (n + h.index) h.element x h.is in
      omega (arith, e)

  pub outputs_once : (es : List Element) (n j k : ℕ) (x y : Assign) → slice_get (outputs_from ks c n es) j ≡ Some x → slice_get (outputs_from ks c n es) k ≡ Some y
      → x.target ≡ y.target → j ≡ k
  outputs_once [] n j k x y one other same = absurd (let h : ⊥ = cc in h)
  outputs_once (e ∷ es) n j k x y one other same = cases (gives_value e.role) j k one other (λ i l f g. outputs_once es (n + 1) i l x y f g same)
    where
      -- an assignment of a later method is of no earlier one
      not_later : (t : Target) (k : ℕ) (z : Assign) → number_of t ≡ n → slice_get (outputs_from ks c (n + 1) es) k ≡ Some z → t ≡ z.target → ⊥
      not_later t k z own there e = let l = at_least es (n + 1) k z there in let s = ap number_of e in omega (arith, l, s, own)

      cases : (b : Bool) (j k : ℕ) → slice_get (all n e es b) j ≡ Some x → slice_get (all n e es b) k ≡ Some y
          → ((i l : ℕ) → slice_get (outputs_from ks c (n + 1) es) i ≡ Some x → slice_get (outputs_from ks c (n + 1) es) l ≡ Some y → i ≡ l) → j ≡ k
      cases b zero zero f g rest = refl
      cases true zero (suc zero) f g rest =
          absurd (let h : target.Ready n ≡ target.Result n = ap (λ (z : Assign). z.target) (same_Some (assign (target.Ready n) (told_at ks c.readies n)) x f) ∙ same
          ∙ ap (λ (z : Assign). z.target) (sym (same_Some (assign (target.Result n) (result_of ks c n)) y g)) in let i : ⊥ = cc in i)
      cases true zero (suc (suc k)) f g rest =
          absurd (not_later (target.Ready n) k y refl g (ap (λ (z : Assign). z.target) (same_Some (assign (target.Ready n) (told_at ks c.readies n)) x f) ∙ same))
      cases true (suc zero) zero f g rest =
          absurd (let h : target.Ready n ≡ target.Result n = ap (λ (z : Assign). z.target) (same_Some (assign (target.Ready n) (told_at ks c.readies n)) y g) ∙ sym same
          ∙ ap (λ (z : Assign). z.target) (sym (same_Some (assign (target.Result n) (result_of ks c n)) x f)) in let i : ⊥ = cc in i)
      cases true (suc zero) (suc zero) f g rest = refl
      cases true (suc zero) (suc (suc k)) f g rest =
          absurd (not_later (target.Result n) k y refl g (ap (λ (z : Assign). z.target) (same_Some (assign (target.Result n) (result_of ks c n)) x f) ∙ same))
      cases true (suc (suc j)) zero f g rest =
          absurd (not_later (target.Ready n) j x refl f (ap (λ (z : Assign). z.target) (same_Some (assign (target.Ready n) (told_at ks c.readies n)) y g) ∙ sym same))
      cases true (suc (suc j)) (suc zero) f g rest =
          absurd (not_later (target.Result n) j x refl f (ap (λ (z : Assign). z.target) (same_Some (assign (target.Result n) (result_of ks c n)) y g) ∙ sym same))
      cases true (suc (suc j)) (suc (suc k)) f g rest = ap (λ (i : ℕ). suc (suc i)) (rest j k f g)
      cases false zero (suc k) f g rest =
          absurd (not_later (target.Ready n) k y refl g (ap (λ (z : Assign). z.target) (same_Some (assign (target.Ready n) (told_at ks c.readies n)) x f) ∙ same))
      cases false (suc j) zero f g rest =
          absurd (not_later (target.Ready n) j x refl f (ap (λ (z : Assign). z.target) (same_Some (assign (target.Ready n) (told_at ks c.readies n)) y g) ∙ sym same))
      cases false (suc j) (suc k) f g rest = ap suc (rest j k f g)
