-- A net that gives the same as another one carries the schemes that the other one does.
use Rattle.std.proofs.Common.{◌≡◌, ◌∙◌, ◌<◌, ◌≤◌, ℕ, Bool, List, Option, Some, None, map, length, refl, sym, ap, subst, arith}
use Rattle.std.specs.Prelude.{slice_get}
use Rattle.bsv_bits.specs.Words.{Bits}
use Rattle.bsv_prim.specs.declared.primitive.RegisterInfo.{RegisterInfo}
use Rattle.bsv_design.specs.declared.schedule.Schedule.{Schedule}
use Rattle.bsv_design.specs.scheme.Schemes.{Scheme, Asking, given}
use Rattle.bsv_guard.specs.Fitting.{HaveWidths}
use Rattle.bsv_clock.specs.Shows.{Carries, Cell, TellsClock, cell, cell_widths, inputs_of}
use Rattle.bsv_net.specs.declared.net.Net.{Net}
use Rattle.bsv_net.specs.declared.net_data.NetData.{NetData}
use Rattle.bsv_net.specs.AtHand.{net_data}
use Rattle.bsv_net.specs.Nets.{register_widths}
use Rattle.bsv_net.specs.ShowsByNet.{NamesNoResult, NetCarries, gives}
use Rattle.bsv_net.specs.Unasked.{Arguments, IgnoresUnasked, MayBeArguments, TellsOthers, inputs_with}
use Rattle.bsv_net.proofs.WidthsFit.{cells_have, inputs_given, inputs_of_scheme}
use Rattle.bsv_net.proofs.WithArguments.{given_may_be}
use Rattle.bsv_share.specs.Sharing.{CarriesSame, GivesSame, NamesSame, StaysNamed}

-- the second net gives the same as the first one
pub record Alike (c d : NetData) : Type 0 where
  pub inputs : d.inputs ≡ c.inputs
  pub registers : d.registers ≡ c.registers
  pub gives_same : GivesSame c d
  pub names_same : NamesSame c d

pub alike_both : (c d e : NetData) → Alike c d → Alike d e → Alike c e
alike_both c d e one two = record {
  inputs = two.inputs ∙ one.inputs;
  registers = two.registers ∙ one.registers;
  gives_same = λ inputs registers first second.
      two.gives_same inputs registers (subst (λ (us : List ℕ). HaveWidths us inputs) (sym one.inputs) first)
      (subst (λ (rs : List RegisterInfo). HaveWidths (register_widths rs) registers) (sym one.registers) second)
      ∙ one.gives_same inputs registers first second;
  names_same = λ n k there. of n k (slice_get d.results n) refl (one.names_same n k there);
}
  where
    joined : (k j : ℕ) (o : Option ℕ) → (k < length c.nodes → j < length d.nodes) × (length c.nodes ≤ k → j ≡ length d.nodes) → StaysNamed d e j o → StaysNamed c e k o
    joined k j None h s = absurd s
    joined k j (Some i) h s = (λ l. s.0 (h.0 l), λ l. s.1 (let same = h.1 l in omega arith))

    of : (n k : ℕ) (o : Option ℕ) → slice_get d.results n ≡ o → StaysNamed c d k o → StaysNamed c e k (slice_get e.results n)
    of n k None f s = absurd s
    of n k (Some j) f s = joined k j (slice_get e.results n) s (two.names_same n j f)

-- ---- schemes

module _ (m n : Net) (alike : Alike (net_data m) (net_data n)) (aggressive : Bool) (S : Scheme) (made : Schedule) (carries : NetCarries aggressive S made m) where
  cells : map cell n.registers ≡ map cell m.registers
  cells = ap (map cell) alike.registers

  registers_fit : (ws : List Bits) → HaveWidths (cell_widths (map cell m.registers)) ws → HaveWidths (register_widths m.registers) ws
  registers_fit ws h = subst (λ (us : List ℕ). HaveWidths us ws) (cells_have m.registers) h

  same_gives : (q : Asking) (ws : List Bits) (xs : Arguments) → MayBeArguments S q xs → HaveWidths (cell_widths (map cell m.registers)) ws
      → gives (net_data n) ws (inputs_with S q xs) ≡ gives (net_data m) ws (inputs_with S q xs)
  same_gives q ws xs stand have =
      alike.gives_same (inputs_with S q xs) ws
      (subst (λ (us : List ℕ). HaveWidths us (inputs_with S q xs)) (sym carries.words.inputs) (inputs_of_scheme S q xs stand.widths)) (registers_fit ws have)

  old_widths : (ws : List Bits) → HaveWidths (cell_widths (map cell n.registers)) ws → HaveWidths (cell_widths (map cell m.registers)) ws
  old_widths ws h = subst (λ (cs : List Cell). HaveWidths (cell_widths cs) ws) cells h

  words_carry : Carries aggressive S made (map cell n.registers) n.inputs (gives (net_data n))
  words_carry = record {
    registers = cells ∙ carries.words.registers;
    inputs = alike.inputs ∙ carries.words.inputs;
    clock = λ q s ws fired after fit have shows clock.
        (let stand = given_may_be S q fit.requests in
        let same : gives (net_data n) ws (inputs_of S q) ≡ gives (net_data m) ws (inputs_of S q) =
        subst (λ (vs : List Bits). gives (net_data n) ws vs ≡ gives (net_data m) ws vs) (inputs_given S q) (same_gives q ws (given S q) stand (old_widths ws have)) in
        subst (TellsClock aggressive S q s fired after) (sym same) (carries.words.clock q s ws fired after fit (old_widths ws have) shows clock));
  }

  words_ignore : IgnoresUnasked aggressive S made (map cell n.registers) (gives (net_data n))
  words_ignore = λ q s ws fired after xs fit stand have shows clock.
      subst (TellsOthers aggressive S q s fired after) (sym (same_gives q ws xs stand (old_widths ws have)))
      (carries.unasked q s ws fired after xs fit stand (old_widths ws have) shows clock)

  no_result : NamesNoResult S (net_data n)
  no_result k o there gives_none = of (slice_get n.results k) (alike.names_same k (length m.nodes) (carries.no_result k o there gives_none))
    where
      of : (p : Option ℕ) → StaysNamed (net_data m) (net_data n) (length m.nodes) p → p ≡ Some (length n.nodes)
      of None s = absurd s
      of (Some j) s = ap Some (s.1 (omega arith))

  pub carries_too : NetCarries aggressive S made n
  carries_too = record {
    words = words_carry;
    unasked = words_ignore;
    no_result = no_result;
  }

pub carries_same : (m n : Net) → Alike (net_data m) (net_data n) → CarriesSame m n
carries_same m n alike = λ aggressive S made carries. carries_too m n alike aggressive S made carries
