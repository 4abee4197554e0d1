-- A net that carries a scheme carries each scheme that is alike.
use Rattle.std.proofs.Common.{◌≡◌, ◌∙◌, ℕ, ◌<◌, Bool, List, Some, length, map, sym, ap, subst}
use Rattle.std.specs.Prelude.{slice_get}
use Rattle.bsv_bits.specs.Words.{Bits, bit}
use Rattle.bsv_prim.specs.declared.part.Part.{Part}
use Rattle.bsv_design.specs.declared.kind.Kind.{Kind}
use Rattle.bsv_design.specs.declared.schedule.Schedule.{Schedule}
use Rattle.bsv_design.specs.scheme.Schemes.{Scheme, Outline, Asking, AreAlike, ports_of, value}
use Rattle.bsv_design.specs.scheme.States.{AreWordsOf}
use Rattle.bsv_guard.proofs.Alike.{alike, alike_back}
use Rattle.bsv_clock.specs.Shows.{Cell, Given, Shows, cell}
use Rattle.bsv_clock.specs.Looks.{clock_look}
use Rattle.bsv_clock.proofs.Belonging.{fit_alike}
use Rattle.bsv_clock.proofs.CarriedAlike.{carried_to}
use Rattle.bsv_clock.proofs.HappenAlike.{clock_to, look_same, ready_same}
use Rattle.bsv_net.specs.declared.net.Net.{Net}
use Rattle.bsv_net.specs.AtHand.{net_data}
use Rattle.bsv_net.specs.ShowsByNet.{NetCarries, gives}
use Rattle.bsv_net.specs.Unasked.{Arguments, IgnoresUnasked, MayBeArguments, TellsOthers, inputs_with, inputs_with_from, is_idle, is_idle_as}

module _ (g : Bool) (S T : Scheme) (made : Schedule) (al : AreAlike S T) where
  back : AreAlike T S
  back = alike_back S T al

  idle_same : (q : Asking) (n : ℕ) → is_idle S q n ≡ is_idle T q n
  unfolding is_idle
  idle_same q n = ap (λ (os : List Outline). is_idle_as q n (slice_get os n)) al.elements

  stand_back : (q : Asking) (xs : Arguments) → MayBeArguments T q xs → MayBeArguments S q xs
  stand_back q xs stand = record {
    widths = λ n. subst (λ (os : List Outline). AreWordsOf (ports_of (slice_get os n)) (xs n)) (sym al.elements) (stand.widths n);
    others = λ n h. stand.others n (sym (idle_same q n) ∙ h) ∙ sym ((alike S T al).given_same q n);
  }

  inputs_same : (q : Asking) (xs : Arguments) → inputs_with S q xs ≡ inputs_with T q xs
  unfolding inputs_with
  inputs_same q xs = ap (inputs_with_from q xs 0) al.elements

  value_same : (q : Asking) (s : List Part) (fired : List ℕ) (n : ℕ)
      → value S q n (clock_look S q s fired) ≡ value T q n (clock_look T q s fired)
  value_same q s fired n = ap (value S q n) (look_same S T al q s fired) ∙ (alike S T al).value_same q n (clock_look T q s fired)

  tells_same : (q : Asking) (s : List Part) (fired : List ℕ) (after : List Part) (one other : Given) → one ≡ other
      → TellsOthers g S q s fired after one → TellsOthers g T q s fired after other
  tells_same q s fired after one other e tells =
      let count : length T.elements ≡ length S.elements = ap (λ (os : List Outline). length os) (sym al.elements) in
      subst (TellsOthers g T q s fired after) e (record {
        fires = λ n few. tells.fires n (subst (λ (k : ℕ). n < k) count few);
        readies = λ n few busy.
            tells.readies n (subst (λ (k : ℕ). n < k) count few) (idle_same q n ∙ busy) ∙ ap (λ (b : Bool). Some (bit b)) (ready_same S T al g q s fired n);
        results = λ n w busy is gave.
            tells.results n w (idle_same q n ∙ busy) (ready_same S T al g q s fired n ∙ is) (value_same q s fired n ∙ gave);
        nexts = subst (λ (ks : List Kind). Shows ks after one.nexts) al.kinds tells.nexts;
      })

  -- hardware that ignores what is not asked does so of each scheme that does the same
  pub ignored_to : (cells : List Cell) (gives : List Bits → List Bits → Given) → IgnoresUnasked g S made cells gives → IgnoresUnasked g T made cells gives
  ignored_to cells gives ignores = λ q s ws fired after xs fit stand have shows is.
      tells_same q s fired after (gives ws (inputs_with S q xs)) (gives ws (inputs_with T q xs)) (ap (gives ws) (inputs_same q xs))
      (ignores q s ws fired after xs (fit_alike T S back q s fit) (stand_back q xs stand) have
      (subst (λ (ks : List Kind). Shows ks s ws) (sym al.kinds) shows)
      (clock_to g T S made q s fired after back is))

pub net_carried_to : (aggressive : Bool) (S T : Scheme) (made : Schedule) (n : Net) → AreAlike S T → NetCarries aggressive T made n
    → NetCarries aggressive S made n
net_carried_to aggressive S T made n alike carries = record {
  words = carried_to aggressive T S made (alike_back S T alike) (map cell n.registers) n.inputs (gives (net_data n)) carries.words;
  unasked = ignored_to aggressive T S made (alike_back S T alike) (map cell n.registers) (gives (net_data n)) carries.unasked;
  no_result = λ k o at. carries.no_result k o (subst (λ (os : List Outline). slice_get os k ≡ Some o) alike.elements at);
}
