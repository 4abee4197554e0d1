-- Hardware that carries a scheme carries each one that does the same.
use Rattle.std.proofs.Common.{◌≡◌, ◌∙◌, ℕ, ◌+◌, ◌<◌, Bool, List, [], ◌∷◌, ◌++◌, length, Some, refl, sym, ap, ap₂, subst}
use Rattle.std.specs.Prelude.{cond}
use Rattle.bsv_bits.specs.Words.{Bits, bit}
use Rattle.bsv_prim.specs.declared.part.Part.{Part}
use Rattle.bsv_design.specs.declared.kind.Kind.{Kind}
use Rattle.bsv_design.specs.declared.schedule.Schedule.{Schedule}
use Rattle.bsv_design.specs.design.Roles.{is_rule}
use Rattle.bsv_design.specs.scheme.Schemes.{Scheme, Outline, Asking, AreAlike, given, value}
use Rattle.bsv_guard.proofs.Alike.{alike, alike_back}
use Rattle.bsv_clock.specs.Shows.{Cell, Given, Carries, Shows, TellsElements, TellsClock, cells_of, inputs_from, inputs_of, input_widths, input_widths_of}
use Rattle.bsv_clock.specs.Clocks.{is_asked}
use Rattle.bsv_clock.specs.Looks.{clock_look}
use Rattle.bsv_clock.proofs.Belonging.{fit_alike}
use Rattle.bsv_clock.proofs.HappenAlike.{clock_to, look_same, ready_same}

module _ (g : Bool) (S T : Scheme) (made : Schedule) (al : AreAlike S T) where
  back : AreAlike T S
  back = alike_back S T al

  inputs_from_same : (q : Asking) (n : ℕ) (os : List Outline) → inputs_from S q n os ≡ inputs_from T q n os
  inputs_from_same q n [] = refl
  inputs_from_same q n (o ∷ os) =
      ap₂ (λ (ws vs : List Bits). cond (is_rule o.role) [] (ws ++ (bit (is_asked q n) ∷ vs)))
      ((alike S T al).given_same q n) (inputs_from_same q (n + 1) os)

  inputs_same : (q : Asking) → inputs_of S q ≡ inputs_of T q
  unfolding inputs_of
  inputs_same q = inputs_from_same q 0 S.elements ∙ ap (inputs_from T q 0) al.elements

  widths_same : input_widths S ≡ input_widths T
  unfolding input_widths
  widths_same = ap (λ (os : List Outline). input_widths_of os) al.elements

  value_same : (q : Asking) (s : List Part) (fired : List ℕ) (n : ℕ)
      → value S q n (clock_look S q s fired) ≡ value T q n (clock_look T q s fired)
  value_same q s fired n = ap (value S q n) (look_same S T al q s fired) ∙ (alike S T al).value_same q n (clock_look T q s fired)

  elements_to : (q : Asking) (s : List Part) (fired : List ℕ) (given : Given) → TellsElements g S q s fired given → TellsElements g T q s fired given
  elements_to q s fired given tells =
      let count : length T.elements ≡ length S.elements = ap (λ (os : List Outline). length os) (sym al.elements) in
      record {
        fires = λ n few. tells.fires n (subst (λ (k : ℕ). n < k) count few);
        readies = λ n few.
            tells.readies n (subst (λ (k : ℕ). n < k) count few) ∙ ap (λ (b : Bool). Some (bit b)) (ready_same S T al g q s fired n);
        results = λ n w is gave.
            tells.results n w (ready_same S T al g q s fired n ∙ is) (value_same q s fired n ∙ gave);
      }

  clock_tells : (q : Asking) (s : List Part) (fired : List ℕ) (after : List Part) (one other : Given) → one ≡ other
      → TellsClock g S q s fired after one → TellsClock g T q s fired after other
  clock_tells q s fired after one other e tells =
      subst (TellsClock g T q s fired after) e (record {
        elements = elements_to q s fired one tells.elements;
        nexts = subst (λ (ks : List Kind). Shows ks after one.nexts) al.kinds tells.nexts;
      })

  pub carried_to : (cells : List Cell) (widths : List ℕ) (gives : List Bits → List Bits → Given)
      → Carries g S made cells widths gives → Carries g T made cells widths gives
  carried_to cells widths gives carries = record {
    registers = carries.registers ∙ ap cells_of al.kinds;
    inputs = carries.inputs ∙ widths_same;
    clock = λ q s ws fired after fit have shows is.
        clock_tells q s fired after (gives ws (inputs_of S q)) (gives ws (inputs_of T q)) (ap (gives ws) (inputs_same q))
        (carries.clock q s ws fired after (fit_alike T S back q s fit) have
        (subst (λ (ks : List Kind). Shows ks s ws) (sym al.kinds) shows)
        (clock_to g T S made q s fired after back is));
  }
