-- What is asked of a design: the words of its inputs, and which elements may fire.
use Rattle.std.proofs.Common.{◌≡◌, ◌∙◌, ℕ, zero, suc, ◌+◌, ◌≤◌, ◌<◌, Bool, true, false, cond, ◌||◌, List, [], ◌∷◌, ◌++◌, length, map, Option, Some, None, refl, sym, ap, ap₂, subst, arith, append_assoc}
use Rattle.std.specs.Prelude.{slice_get, unwrap_or}
use Rattle.std.proofs.Math.Bool.{Bool-set}
use Rattle.std.proofs.Math.Logic.{∥∥₁_elim}
use Rattle.bsv_lemmas.proofs.Places.{item_there, mapped_at}
use Rattle.bsv_bits.specs.Words.{Bits, bit, zero_word}
use Rattle.bsv_design.specs.declared.design.Design.{Design}
use Rattle.bsv_design.specs.declared.element.Element.{Element}
use Rattle.bsv_design.specs.declared.element.Port.{Port}
use Rattle.bsv_design.specs.declared.element.Role.{Role}
use Rattle.bsv_design.specs.declared.element.Role.TheVariants as role
use Rattle.bsv_design.specs.design.Designs.{IsDesign}
use Rattle.bsv_design.specs.design.Roles.{is_rule}
use Rattle.bsv_design.specs.scheme.Schemes.{Scheme, Outline, Asking, design_scheme, filled, given, if_asked, outline, ports_of}
use Rattle.bsv_design.specs.scheme.Seen.{design_data}
use Rattle.bsv_design.specs.scheme.States.{AreWordsOf, AskingFits, FitMethods, methods_in}
use Rattle.bsv_clock.specs.Clocks.{is_asked, may_fire, may_fire_as}
use Rattle.bsv_clock.specs.Shows.{inputs_from, inputs_of}
use Rattle.bsv_clock.proofs.Requests.{rule_is}
use Rattle.bsv_sim.specs.Inputs.{arguments, inputs, of_methods, zero_like}

-- ---- requests

-- there are no more entries than elements
pub asked_long : (es : List Element) (asked : List Bool) (args : List (List Bits)) → FitMethods (methods_in es) asked args → length asked ≤ length es
asked_long [] [] [] h = omega arith
asked_long [] (a ∷ asked) args h = absurd h
asked_long [] [] (ws ∷ args) h = absurd h
asked_long (e ∷ es) asked args h = of (is_rule e.role) asked args h (asked_long es)
  where
    of : (b : Bool) (asked : List Bool) (args : List (List Bits)) → FitMethods (cond b [] (e ∷ methods_in es)) asked args
        → ((asked : List Bool) (args : List (List Bits)) → FitMethods (methods_in es) asked args → length asked ≤ length es) → length asked ≤ length (e ∷ es)
    of true [] args h ih = omega arith
    of true (a ∷ asked) args h ih = absurd h
    of false [] args h ih = omega arith
    of false (a ∷ asked) [] h ih = absurd h
    of false (a ∷ asked) (ws ∷ args) h ih = let k = ih asked args h.1 in omega (arith, k)

-- ---- inputs

filled_whole : (ps : List Port) (ws : List Bits) → AreWordsOf ps ws → filled ps ws ≡ ws
filled_whole [] [] h = refl
filled_whole [] (w ∷ ws) h = absurd h
filled_whole (p ∷ ps) [] h = absurd h
filled_whole (p ∷ ps) (w ∷ ws) h = ap (λ (vs : List Bits). w ∷ vs) (filled_whole ps ws h.1)

filled_zero : (ps : List Port) (ws : List Bits) → AreWordsOf ps ws → filled ps [] ≡ map zero_like ws
filled_zero [] [] h = refl
filled_zero [] (w ∷ ws) h = absurd h
filled_zero (p ∷ ps) [] h = absurd h
filled_zero (p ∷ ps) (w ∷ ws) h = ap₂ (λ (u : ℕ) (vs : List Bits). zero_word u ∷ vs) (sym h.0.same_width) (filled_zero ps ws h.1)

filled_as : (ps : List Port) (a : Bool) (ws : List Bits) → AreWordsOf ps ws → filled ps (if_asked (Some a) (Some ws)) ≡ arguments a ws
filled_as ps true ws h = filled_whole ps ws h
filled_as ps false ws h = filled_zero ps ws h

module _ (S : Scheme) (q : Asking) where
  -- what is left from this position on
  record Rest (n : ℕ) (es : List Element) (asked : List Bool) (args : List (List Bits)) : Type 0 where
    elements : (k : ℕ) → slice_get S.elements (n + k) ≡ slice_get (map outline es) k
    asks : (k : ℕ) → slice_get q.asked (n + k) ≡ slice_get asked k
    arguments_are : (k : ℕ) → slice_get q.args (n + k) ≡ slice_get args k

  rest_after : (n : ℕ) (e : Element) (es : List Element) (a : Bool) (asked : List Bool) (ws : List Bits) (args : List (List Bits))
      → Rest n (e ∷ es) (a ∷ asked) (ws ∷ args) → Rest (n + 1) es asked args
  rest_after n e es a asked ws args h = record {
    elements = λ k. subst (λ (j : ℕ). slice_get S.elements j ≡ slice_get (map outline es) k) (next k) (h.elements (suc k));
    asks = λ k. subst (λ (j : ℕ). slice_get q.asked j ≡ slice_get asked k) (next k) (h.asks (suc k));
    arguments_are = λ k. subst (λ (j : ℕ). slice_get q.args j ≡ slice_get args k) (next k) (h.arguments_are (suc k));
  }
    where
      next : (k : ℕ) → n + suc k ≡ n + 1 + k
      next k = omega arith

  module _ (n : ℕ) (e : Element) (es : List Element) (a : Bool) (asked : List Bool) (ws : List Bits) (args : List (List Bits))
      (h : Rest n (e ∷ es) (a ∷ asked) (ws ∷ args)) where
    here : n + 0 ≡ n
    here = omega arith

    asked_here : slice_get q.asked n ≡ Some a
    asked_here = subst (λ (j : ℕ). slice_get q.asked j ≡ Some a) here (h.asks 0)

    given_here : AreWordsOf e.arguments ws → given S q n ≡ arguments a ws
    unfolding given
    given_here fit =
        let element = subst (λ (j : ℕ). slice_get S.elements j ≡ Some (outline e)) here (h.elements 0) in
        let args_here = subst (λ (j : ℕ). slice_get q.args j ≡ Some ws) here (h.arguments_are 0) in
        ap (λ (o : Option Outline). filled (ports_of o) (if_asked (slice_get q.asked n) (slice_get q.args n))) element
        ∙ ap₂ (λ (b : Option Bool) (vs : Option (List Bits)). filled e.arguments (if_asked b vs)) asked_here args_here
        ∙ filled_as e.arguments a ws fit

    first_same : AreWordsOf e.arguments ws → (more others : List Bits) → more ≡ others
        → (arguments a ws ++ bit a ∷ []) ++ more ≡ given S q n ++ (bit (is_asked q n) ∷ others)
    first_same fit more others same =
        append_assoc (arguments a ws) (bit a ∷ []) more
        ∙ ap₂ (λ (xs ys : List Bits). xs ++ ys) (sym (given_here fit))
        (ap₂ (λ (b : Option Bool) (ys : List Bits). bit (unwrap_or b false) ∷ ys) (sym asked_here) same)

  inputs_same : (es : List Element) (n : ℕ) (asked : List Bool) (args : List (List Bits)) → FitMethods (methods_in es) asked args → Rest n es asked args
      → of_methods asked args ≡ inputs_from S q n (map outline es)
  unfolding of_methods
  inputs_same [] n [] [] fit h = refl
  inputs_same [] n (a ∷ asked) args fit h = absurd fit
  inputs_same [] n [] (ws ∷ args) fit h = absurd fit
  inputs_same (e ∷ es) n asked args fit h = of (is_rule e.role) asked args fit h (inputs_same es)
    where
      of : (b : Bool) (asked : List Bool) (args : List (List Bits)) → FitMethods (cond b [] (e ∷ methods_in es)) asked args → Rest n (e ∷ es) asked args
          → ((n : ℕ) (asked : List Bool) (args : List (List Bits)) → FitMethods (methods_in es) asked args → Rest n es asked args
          → of_methods asked args ≡ inputs_from S q n (map outline es))
          → of_methods asked args ≡ cond b [] (given S q n ++ (bit (is_asked q n) ∷ inputs_from S q (n + 1) (map outline es)))
      of true [] [] fit h ih = refl
      of true (a ∷ asked) args fit h ih = absurd fit
      of true [] (ws ∷ args) fit h ih = absurd fit
      of false [] args fit h ih = absurd fit
      of false (a ∷ asked) [] fit h ih = absurd fit
      of false (a ∷ asked) (ws ∷ args) fit h ih =
          first_same n e es a asked ws args h fit.0 (of_methods asked args) (inputs_from S q (n + 1) (map outline es))
          (ih (n + 1) asked args fit.1 (rest_after n e es a asked ws args h))

pub inputs_are : (d : Design) (q : Asking) → AskingFits d.elements q → inputs q ≡ inputs_of (design_scheme (design_data d)) q
unfolding inputs_of design_scheme
inputs_are d q fit =
    inputs_same (design_scheme (design_data d)) q d.elements 0 q.asked q.args fit (record {
      elements = λ k. ap (λ (j : ℕ). slice_get (map outline d.elements) j) (from_first k);
      asks = λ k. ap (λ (j : ℕ). slice_get q.asked j) (from_first k);
      arguments_are = λ k. ap (λ (j : ℕ). slice_get q.args j) (from_first k);
    })
  where
    from_first : (k : ℕ) → 0 + k ≡ k
    from_first k = omega arith

-- ---- which elements may fire

rule_unasked : (es : List Element) (asked : List Bool) (args : List (List Bits)) → FitMethods (methods_in es) asked args
    → (n : ℕ) (e : Element) → slice_get es n ≡ Some e → is_rule e.role ≡ true → slice_get asked n ≡ None
rule_unasked [] asked args h n e there rule = absurd (let z : ⊥ = cc in z)
rule_unasked (y ∷ es) asked args h n e there rule = of (is_rule y.role) refl n asked args h there (rule_unasked es)
  where
    of : (b : Bool) → is_rule y.role ≡ b → (n : ℕ) (asked : List Bool) (args : List (List Bits)) → FitMethods (cond b [] (y ∷ methods_in es)) asked args
        → slice_get (y ∷ es) n ≡ Some e
        → ((asked : List Bool) (args : List (List Bits)) → FitMethods (methods_in es) asked args
        → (n : ℕ) (e : Element) → slice_get es n ≡ Some e → is_rule e.role ≡ true → slice_get asked n ≡ None)
        → slice_get asked n ≡ None
    of true own n [] args h there ih = refl
    of true own n (a ∷ asked) args h there ih = absurd h
    of false own n [] args h there ih = refl
    of false own n (a ∷ asked) [] h there ih = absurd h
    of false own zero (a ∷ asked) (ws ∷ args) h there ih = absurd (let z : ⊥ = cc in z)
    of false own (suc n) (a ∷ asked) (ws ∷ args) h there ih = ih asked args h.1 n e there rule

method_asked : (es : List Element) (asked : List Bool) (args : List (List Bits)) → FitMethods (methods_in es) asked args
    → (n : ℕ) (e : Element) → slice_get es n ≡ Some e → ((k : ℕ) (y : Element) → k ≤ n → slice_get es k ≡ Some y → is_rule y.role ≡ false)
    → (a : Bool) × (slice_get asked n ≡ Some a)
method_asked [] asked args h n e there before = absurd (let z : ⊥ = cc in z)
method_asked (y ∷ es) asked args h n e there before = of n asked args first there (λ k x l t. before k x l t) (method_asked es)
  where
    first : FitMethods (y ∷ methods_in es) asked args
    first = subst (λ (b : Bool). FitMethods (cond b [] (y ∷ methods_in es)) asked args) (before 0 y (omega arith) refl) h

    of : (n : ℕ) (asked : List Bool) (args : List (List Bits)) → FitMethods (y ∷ methods_in es) asked args → slice_get (y ∷ es) n ≡ Some e
        → ((k : ℕ) (x : Element) → k ≤ n → slice_get (y ∷ es) k ≡ Some x → is_rule x.role ≡ false)
        → ((asked : List Bool) (args : List (List Bits)) → FitMethods (methods_in es) asked args
        → (n : ℕ) (e : Element) → slice_get es n ≡ Some e → ((k : ℕ) (y : Element) → k ≤ n → slice_get es k ≡ Some y → is_rule y.role ≡ false)
        → (a : Bool) × (slice_get asked n ≡ Some a))
        → (a : Bool) × (slice_get asked n ≡ Some a)
    of n [] args h there before ih = absurd h
    of n (a ∷ asked) [] h there before ih = absurd h
    of zero (a ∷ asked) (ws ∷ args) h there before ih = (a, refl)
    of (suc n) (a ∷ asked) (ws ∷ args) h there before ih = ih asked args h.1 n e there (λ k x l t. before (suc k) x (omega (arith, l)) t)

no_rule_before : (d : Design) (n : ℕ) (e : Element) → slice_get d.elements n ≡ Some e → is_rule e.role ≡ false
    → (k : ℕ) (y : Element) → k ≤ n → slice_get d.elements k ≡ Some y → is_rule y.role ≡ false
no_rule_before d n e there own k y l at_k =
    ∥∥₁_elim d.right (Bool-set _ _) (λ (right : IsDesign (design_data d)). of right (is_rule y.role) refl)
  where
    of : IsDesign (design_data d) → (b : Bool) → is_rule y.role ≡ b → b ≡ false
    of right false r = refl
    of right true r =
        absurd (let later : e.role ≡ role.Rule = right.methods_first k n y e at_k there l (rule_is y.role r) in
        let z : true ≡ false = sym (ap is_rule_fn later) ∙ own in let y : ⊥ = cc in y)
      where
        is_rule_fn : Role → Bool
        is_rule_fn r = is_rule r

-- a rule, or a method that is asked: methods are those with an entry
pub may_same : (d : Design) (q : Asking) → AskingFits d.elements q → (n : ℕ) → n < length d.elements
    → may_fire (design_scheme (design_data d)) q n ≡ unwrap_or (slice_get q.asked n) true
unfolding may_fire design_scheme
may_same d q fit n l =
    let found = item_there d.elements n l in
    ap (λ (o : Option Outline). may_fire_as q n o) (mapped_at outline d.elements n found.0 found.1) ∙ of found.0 found.1 (is_rule found.0.role) refl
  where
    of : (e : Element) → slice_get d.elements n ≡ Some e → (b : Bool) → is_rule e.role ≡ b → (b || is_asked q n) ≡ unwrap_or (slice_get q.asked n) true
    of e there true own = sym (ap (λ (o : Option Bool). unwrap_or o true) (rule_unasked d.elements q.asked q.args fit n e there own))
    of e there false own =
        let found = method_asked d.elements q.asked q.args fit n e there (no_rule_before d n e there own) in
        ap (λ (o : Option Bool). unwrap_or o false) found.1 ∙ sym (ap (λ (o : Option Bool). unwrap_or o true) found.1)
