-- Each of the four wires keeps the laws.
-- Proof alone: it is in specs/ since the `laws` of an impl may cite nothing of proofs/.
use Rattle.std.proofs.Common.{◌≡◌, ℕ, ◌+◌, ◌*◌, ◌^◌, ◌<◌, ◌≤◌, Bool, true, false, List, refl, ap, sym, arith, Option, Some, None, inl}
use Rattle.std.specs.Prelude.{is_some}
use Rattle.std.proofs.Math.Pow.{pow_pos}
use Rattle.std.proofs.lemmas.Nat.{pow-add}
use Rattle.bsv_bits.specs.Words.{Bits, bit, zero_word, word_concat}
use Rattle.bsv_prim.specs.Shape.{IsCalled}
use Rattle.bsv_prim.specs.Signals.{Signals, word_of}
use Rattle.bsv_prim.specs.Table.{IsWordOf}
use Rattle.bsv_prim.specs.Laws.{Laws}
use Rattle.bsv_prim.specs.WireTables.{wire_table, wire_row, dwire_row, rwire_row, pulse_row, or_else, or_else_piece, valid_or_invalid, valid_piece, is_filled, FitsOption}
use Rattle.bsv_prim.specs.WireLaws.{wire_laws, IsWire, IsWritten, filled_by}

pub zero_is_word : (width : ℕ) → 1 ≤ width → width ≤ 128 → IsWordOf width (zero_word width)
zero_is_word width some most = record { word = record { some = some; most = most; below = pow_pos width }; same_width = refl }

pub bit_is_word : (truth : Bool) → IsWordOf 1 (bit truth)
bit_is_word true = record { word = record { some = omega arith; most = omega arith; below = omega arith }; same_width = refl }
bit_is_word false = record { word = record { some = omega arith; most = omega arith; below = omega arith }; same_width = refl }

or_else_fits : (width : ℕ) (w : Bits) → IsWordOf width w → (o : Option Bits) → FitsOption width o → IsWordOf width (or_else w o)
or_else_fits width w h None f = h
or_else_fits width w h (Some x) f = f

or_else_answers : (w : Bits) (v : Signals) (o : Option (List Bits)) → IsWritten v 1 o → word_of v (or_else_piece w) ≡ or_else w (filled_by 1 o)
or_else_answers w v None h = rw h refl
or_else_answers w v (Some args) h = rw h.0 (h.1 0 (omega arith))

is_wire : (width : ℕ) → 1 ≤ width → width ≤ 128 → IsWire (wire_row width)
is_wire width some most = record {
  some = some;
  most = most;
  sent_fits = λ args a. a.widths 0 (omega arith);
  answers = or_else_answers (zero_word width);
  answer_width = or_else_fits width (zero_word width) (zero_is_word width some most);
  piece_width = ((omega arith, refl), (omega arith, omega arith, refl), ((zero_is_word width some most).word, refl));
  speaks = λ y. (refl, inl refl, tt);
}

pub wire_kind_laws : (width : ℕ) → 1 ≤ width → width ≤ 128 → Laws (wire_table (wire_row width))
wire_kind_laws width some most = wire_laws (wire_row width) (is_wire width some most)

is_dwire : (width : ℕ) (default : Bits) → IsWordOf width default → IsWire (dwire_row width default)
is_dwire width default h = record {
  some = rw (← h.same_width) h.word.some;
  most = rw (← h.same_width) h.word.most;
  sent_fits = λ args a. a.widths 0 (omega arith);
  answers = or_else_answers default;
  answer_width = or_else_fits width default h;
  piece_width = ((omega arith, refl), (omega arith, omega arith, refl), (h.word, sym h.same_width));
  speaks = λ y. (refl, inl refl, tt);
}

pub dwire_kind_laws : (width : ℕ) (default : Bits) → IsWordOf width default → Laws (wire_table (dwire_row width default))
dwire_kind_laws width default h = wire_laws (dwire_row width default) (is_dwire width default h)

valid_answers : (width : ℕ) (v : Signals) (o : Option (List Bits)) → IsWritten v 1 o → word_of v (valid_piece width) ≡ valid_or_invalid width (filled_by 1 o)
valid_answers width v None h = rw h refl
valid_answers width v (Some args) h = rw h.0 (ap (word_concat (bit true)) (h.1 0 (omega arith)))

-- a 1 above a word is a word
valid_is_word : (width : ℕ) (w : Bits) → width ≤ 127 → IsWordOf width w → IsWordOf (width + 1) (word_concat (bit true) w)
valid_is_word width w most h =
    let same : w.width ≡ width = h.same_width in
    let some : 1 ≤ w.width = h.word.some in
    let below : w.value < 2 ^ w.width = h.word.below in
    let twice : 2 ^ (1 + w.width) ≡ 2 * 2 ^ w.width = pow-add 2 1 w.width in
    record {
      word = record { some = omega arith; most = omega arith; below = omega arith };
      same_width = omega arith;
    }

valid_fits : (width : ℕ) → 1 ≤ width → width ≤ 127 → (o : Option Bits) → FitsOption width o → IsWordOf (width + 1) (valid_or_invalid width o)
valid_fits width some most None f = zero_is_word (width + 1) (omega arith) (omega arith)
valid_fits width some most (Some w) f = valid_is_word width w most f

is_rwire : (width : ℕ) → 1 ≤ width → width ≤ 127 → IsWire (rwire_row width)
is_rwire width some most = record {
  some = some;
  most = omega arith;
  sent_fits = λ args a. a.widths 0 (omega arith);
  answers = valid_answers width;
  answer_width = valid_fits width some most;
  piece_width = (
    (omega arith, refl),
    (1, width, ((bit_is_word true).word, refl), (omega arith, omega arith, refl), omega arith, omega arith),
    ((zero_is_word (width + 1) (omega arith) (omega arith)).word, refl),
  );
  speaks = λ y. (refl, (tt, inl refl), tt);
}

pub rwire_kind_laws : (width : ℕ) → 1 ≤ width → width ≤ 127 → Laws (wire_table (rwire_row width))
rwire_kind_laws width some most = wire_laws (rwire_row width) (is_rwire width some most)

filled_answers : (v : Signals) (o : Option (List Bits)) → IsWritten v 0 o → word_of v (IsCalled 0) ≡ is_filled (filled_by 0 o)
filled_answers v None h = rw h refl
filled_answers v (Some args) h = rw h.0 refl

is_pulse : IsWire pulse_row
is_pulse = record {
  some = omega arith;
  most = omega arith;
  sent_fits = λ args a. bit_is_word true;
  answers = filled_answers;
  answer_width = λ o f. bit_is_word (is_some o);
  piece_width = (omega arith, refl);
  speaks = λ y. refl;
}

pub pulse_kind_laws : Laws (wire_table pulse_row)
pulse_kind_laws = wire_laws pulse_row is_pulse
