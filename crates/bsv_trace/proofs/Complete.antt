-- What is a line is read.
use Rattle.std.proofs.Common.{◌≡◌, ◌≢◌, ◌∙◌, ℕ, zero, suc, ◌+◌, ◌<◌, ◌≤◌, ◌^◌, ◌==◌, Bool, true, false, ◌&&◌, nat_le, nat_lt, IsTrue, List, [], ◌∷◌, ◌++◌, length, take, drop, slice_get, slice_set, Some, None, if◌then◌else◌, unwrap_or, refl, sym, ap, subst, append_assoc, append-nil, add-one, arith, length-set, length-append, zero-add, codes}
use Rattle.std.proofs.lemmas.List.{take_all, nil_from_length}
use Rattle.std.proofs.Math.Seq.{take-append_seam, drop-append_seam}
use Rattle.std.proofs.lemmas.Option.{slice_get_within}
use Rattle.std.proofs.lemmas.Bool.Decides.{nat_tests}
use Rattle.std.proofs.lemmas.Slice.Eq.{bytes_eq-Decides}
use Rattle.std.specs.Char.{is_ascii_digit}
use Rattle.std.specs.List.{list_all, prefix_len, join_with_byte}
use Rattle.std.specs.Str.{bytes_eq}
use Rattle.bsv_lemmas.proofs.Places.{item_there}
use Rattle.bsv_lemmas.proofs.Truths.{both_right, both_left}
use Rattle.bsv_bits.specs.Words.{Bits}
use Rattle.bsv_design.specs.declared.element.Port.{Port}
use Rattle.bsv_design.specs.scheme.Schemes.{Asking, Outline, ports_of}
use Rattle.bsv_design.specs.design.Widths.{port_fits}
use Rattle.bsv_trace.specs.declared.number.Base.{Base}
use Rattle.bsv_trace.specs.declared.number.Base.TheVariants as base
use Rattle.bsv_trace.specs.Lines.{IsArgument, AreArguments, MethodCall, IsCall, AreCalls, AreMethods, methods_among, in_name, asked_with, asked_with_all}
use Rattle.bsv_bits.specs.DigitValues.{value_of}
use Rattle.bsv_trace.specs.Numbers.{IsNumber, decimal, hexadecimal}
use Rattle.bsv_trace.specs.Reading as spec
use Rattle.bsv_trace.specs.Reading.{HasPlaces, radix, is_digit, fitting, word_of, with_rest, digits, argument}
use Rattle.bsv_trace.proofs.Places.{words_at, length_args}
use Rattle.bsv_trace.proofs.Pieces.{front_len, after_mark, call_text, led, join_first, take_placed}
use Rattle.bsv_trace.proofs.Sound.{is_asked, AreFresh, call_places}

-- ---- numbers

-- a byte that may come after an argument
record EndsNumber (mark : ℕ) : Type 0 where
  no_digit : (b : Base) → is_digit b mark ≡ false
  no_x : (mark == 120) ≡ false

no_comma_digit : (b : Base) → is_digit b 44 ≡ false
no_comma_digit base.Decimal = refl
no_comma_digit base.Hexadecimal = refl

comma : EndsNumber 44
comma = record { no_digit = no_comma_digit; no_x = refl }

no_bracket_digit : (b : Base) → is_digit b 41 ≡ false
no_bracket_digit base.Decimal = refl
no_bracket_digit base.Hexadecimal = refl

bracket : EndsNumber 41
bracket = record { no_digit = no_bracket_digit; no_x = refl }

-- the digits in front are found
digits_complete : (b : Base) (width : ℕ) (front more : List ℕ) (mark : ℕ) → EndsNumber mark → IsTrue (list_all (is_digit b) front)
    → digits b width (front ++ mark ∷ more) ≡ with_rest (word_of b width front) (mark ∷ more)
digits_complete b width front more mark ends each =
    let n = front_len (is_digit b) front more mark each (ends.no_digit b) in
    let text = front ++ mark ∷ more in
    ap (λ k. with_rest (word_of b width (take k text)) (drop k text)) n
    ∙ ap (λ l. with_rest (word_of b width l) (drop (length front) text)) (take-append_seam front (mark ∷ more))
    ∙ ap (with_rest (word_of b width front)) (drop-append_seam front (mark ∷ more))

-- a port can hold words of 1 to 128 bits
fitting_complete : (p : Port) (w : Bits) → IsTrue (port_fits p) → w.width ≡ p.width → w.value < 2 ^ p.width → fitting p.width w.value ≡ Some w
fitting_complete p w fits same below =
    let test : (nat_le 1 p.width && nat_le p.width 128 && nat_lt w.value (2 ^ p.width)) ≡ true = grind (arith, nat_tests, fits) in
    ap (λ t. if t then Some (record { width = p.width; value = w.value }) else None) test
    ∙ ap (λ n. Some (record { width = n; value = w.value })) (sym same)

word_complete : (b : Base) (p : Port) (w : Bits) (front : List ℕ) → IsTrue (port_fits p) → w.width ≡ p.width → w.value < 2 ^ p.width → front ≢ [] → w.value ≡ value_of (radix b) front
    → word_of b p.width front ≡ Some w
word_complete b p w [] fits same below some is = absurd (some refl)
word_complete b p w (d ∷ front) fits same below some is = ap (fitting p.width) (sym is) ∙ fitting_complete p w fits same below

second_x : (x y : ℕ) (rest : List ℕ) (width : ℕ) → (y == 120) ≡ false → argument width (x ∷ y ∷ rest) ≡ digits base.Decimal width (x ∷ y ∷ rest)
unfolding argument
second_x x y rest width other =
    let test : ((x == 48) && (y == 120)) ≡ false = grind (arith, nat_tests, other) in
    ap (λ t. if t then digits base.Hexadecimal width rest else digits base.Decimal width (x ∷ y ∷ rest)) test

digit_no_x : (y : ℕ) (front : List ℕ) → (is_ascii_digit y && list_all is_ascii_digit front) ≡ true → (y == 120) ≡ false
digit_no_x y front each = by (y == 120) refl
  where
    by : (t : Bool) → (y == 120) ≡ t → (y == 120) ≡ false
    by false test = test
    by true test =
        let same : y ≡ 120 = grind (arith, nat_tests, test) in
        let wrong : false ≡ true = subst (λ n. (is_ascii_digit n && list_all is_ascii_digit front) ≡ true) same each in
        absurd cc

-- digits are read in decimal
as_decimal : (width : ℕ) (front more : List ℕ) (mark : ℕ) → EndsNumber mark → front ≢ [] → IsTrue (list_all is_ascii_digit front)
    → argument width (front ++ mark ∷ more) ≡ digits base.Decimal width (front ++ mark ∷ more)
as_decimal width [] more mark ends some each = absurd (some refl)
as_decimal width (x ∷ []) more mark ends some each = second_x x mark more width ends.no_x
as_decimal width (x ∷ y ∷ front) more mark ends some each = second_x x y (front ++ mark ∷ more) width (digit_no_x y front (right_of (is_ascii_digit x) (list_all is_ascii_digit (y ∷ front)) each))
  where
    right_of : (a b : Bool) → (a && b) ≡ true → b ≡ true
    right_of true b h = h
    right_of false b h = absurd cc

as_hexadecimal : (width : ℕ) (rest : List ℕ) → argument width (48 ∷ 120 ∷ rest) ≡ digits base.Hexadecimal width rest
unfolding argument
as_hexadecimal width rest = refl

number_complete : (p : Port) (w : Bits) (text more : List ℕ) (mark value : ℕ) → EndsNumber mark → IsTrue (port_fits p) → w.width ≡ p.width → w.value < 2 ^ p.width → IsNumber text value → w.value ≡ value
    → argument p.width (text ++ mark ∷ more) ≡ Some (w, mark ∷ more)
number_complete p w text more mark value ends fits same below (decimal {digits = front} some each) is =
    as_decimal p.width front more mark ends some each ∙ digits_complete base.Decimal p.width front more mark ends each
    ∙ ap (λ o. with_rest o (mark ∷ more)) (word_complete base.Decimal p w front fits same below some is)
number_complete p w text more mark value ends fits same below (hexadecimal {digits = front} some each) is =
    as_hexadecimal p.width (front ++ mark ∷ more) ∙ digits_complete base.Hexadecimal p.width front more mark ends each
    ∙ ap (λ o. with_rest o (mark ∷ more)) (word_complete base.Hexadecimal p w front fits same below some is)

argument_complete : (p : Port) (w : Bits) (text more : List ℕ) (mark : ℕ) → EndsNumber mark → IsTrue (port_fits p) → IsArgument p text w → argument p.width (text ++ mark ∷ more) ≡ Some (w, mark ∷ more)
argument_complete p w text more mark ends fits is = number_complete p w text more mark w.value ends fits is.width is.below is.number refl

-- ---- arguments

-- what follows an argument ends its number
led_ends : (pieces : List (List ℕ)) (rest : List ℕ) → (mark : ℕ) × (more : List ℕ) × EndsNumber mark × (led 44 pieces ++ 41 ∷ rest ≡ mark ∷ more)
led_ends [] rest = (41, rest, bracket, refl)
led_ends (t ∷ ts) rest = (44, (t ++ led 44 ts) ++ 41 ∷ rest, comma, refl)

argument_led : (p : Port) (w : Bits) (text : List ℕ) (pieces : List (List ℕ)) (rest : List ℕ) → IsTrue (port_fits p) → IsArgument p text w
    → argument p.width (text ++ (led 44 pieces ++ 41 ∷ rest)) ≡ Some (w, led 44 pieces ++ 41 ∷ rest)
argument_led p w text pieces rest fits is =
    let ends = led_ends pieces rest in
    let P : List ℕ → Type 0 = λ l. argument p.width (text ++ l) ≡ Some (w, l) in
    subst P (sym ends.3) (argument_complete p w text ends.1 ends.0 ends.2 fits is)

closed_complete : (rest : List ℕ) (old : List Bits) → spec.closed old (spec.behind 41 (41 ∷ rest)) ≡ Some (old, rest)
closed_complete rest old = ap (spec.closed old) (after_mark 41 rest)

more_complete : (ps : List Port) (place : ℕ) (pieces : List (List ℕ)) (ws old : List Bits) (rest : List ℕ) → IsTrue (list_all port_fits ps) → length old ≡ length ps + place → AreArguments ps pieces ws
    → spec.more_arguments ps place (led 44 pieces ++ 41 ∷ rest) old ≡ Some (take place old ++ ws, rest)
more_complete [] place [] [] old rest fit long each =
    closed_complete rest old ∙ ap (λ l. Some (l, rest)) (sym (append-nil (take place old) ∙ take_all place old (omega arith)))
more_complete [] place [] (w ∷ ws) old rest fit long each = absurd each
more_complete [] place (t ∷ pieces) ws old rest fit long each = absurd each
more_complete (p ∷ ps) place [] ws old rest fit long each = absurd each
more_complete (p ∷ ps) place (t ∷ pieces) [] old rest fit long each = absurd each
more_complete (p ∷ ps) place (t ∷ pieces) (w ∷ ws) old rest fit long each =
    let others = led 44 pieces ++ 41 ∷ rest in
    let further = spec.more_arguments ps (place + 1) in
    let below : place < length old = omega arith in
    let same : length (slice_set old place w) ≡ length old = length-set old place w in
    ap (λ l. spec.onward further (spec.next_argument p.width (spec.behind 44 (44 ∷ l)) place old)) (append_assoc t (led 44 pieces) (41 ∷ rest))
    ∙ ap (λ o. spec.onward further (spec.next_argument p.width o place old)) (after_mark 44 (t ++ others))
    ∙ ap (λ o. spec.onward further (spec.placed place old o)) (argument_led p w t pieces rest (both_left (port_fits p) _ fit) each.0)
    ∙ more_complete ps (place + 1) pieces ws (slice_set old place w) rest (both_right (port_fits p) _ fit) (omega (arith, same)) each.1
    ∙ ap (λ l. Some (l ++ ws, rest)) (ap (λ n. take n (slice_set old place w)) (add-one place) ∙ take_placed old place w below)
    ∙ ap (λ l. Some (l, rest)) (append_assoc (take place old) (w ∷ []) ws)

arguments_complete : (ps : List Port) (pieces : List (List ℕ)) (ws old : List Bits) (rest : List ℕ) → IsTrue (list_all port_fits ps) → length old ≡ length ps → AreArguments ps pieces ws
    → spec.arguments ps (join_with_byte 44 pieces ++ 41 ∷ rest) old ≡ Some (ws, rest)
arguments_complete [] [] [] old rest fit long each = closed_complete rest old ∙ ap (λ l. Some (l, rest)) (nil_from_length old long)
arguments_complete [] [] (w ∷ ws) old rest fit long each = absurd each
arguments_complete [] (t ∷ pieces) ws old rest fit long each = absurd each
arguments_complete (p ∷ ps) [] ws old rest fit long each = absurd each
arguments_complete (p ∷ ps) (t ∷ pieces) [] old rest fit long each = absurd each
arguments_complete (p ∷ ps) (t ∷ pieces) (w ∷ ws) old rest fit long each =
    let further = spec.more_arguments ps 1 in
    let below : 0 < length old = omega arith in
    let same : length (slice_set old 0 w) ≡ length old = length-set old 0 w in
    ap (λ l. spec.onward further (spec.argument_at p.width l 0 old)) (ap (λ l. l ++ 41 ∷ rest) (join_first 44 t pieces) ∙ append_assoc t (led 44 pieces) (41 ∷ rest))
    ∙ ap (λ o. spec.onward further (spec.placed 0 old o)) (argument_led p w t pieces rest (both_left (port_fits p) _ fit) each.0)
    ∙ more_complete ps 1 pieces ws (slice_set old 0 w) rest (both_right (port_fits p) _ fit) (omega (arith, same)) each.1
    ∙ ap (λ l. Some (l ++ ws, rest)) (take_placed old 0 w below)

-- ---- calls

named_complete : (methods : List Outline) (n base : ℕ) (e : Outline) → ((m : ℕ) (d : Outline) → slice_get methods m ≡ Some d → d.name ≡ e.name → m ≡ n) → slice_get methods n ≡ Some e
    → spec.method_from base methods e.name ≡ Some (base + n)
named_complete [] n base e first at = absurd cc
named_complete (m ∷ methods) zero base e first at =
    let same : m ≡ e = cc in
    let test : bytes_eq m.name e.name ≡ true = (bytes_eq-Decides m.name e.name).1 (ap (λ (x : Outline). x.name) same) in
    let none : base ≡ base + 0 = omega arith in
    ap (λ t. if t then Some base else spec.method_from (base + 1) methods e.name) test ∙ ap (λ k. Some k) none
named_complete (m ∷ methods) (suc n) base e first at = by (bytes_eq m.name e.name) refl (named_complete methods n (base + 1) e (λ k d there same. shifted k n (first (suc k) d there same)) at)
  where
    shifted : (k n : ℕ) → suc k ≡ suc n → k ≡ n
    shifted k n same = omega arith

    by : (t : Bool) → bytes_eq m.name e.name ≡ t → spec.method_from (base + 1) methods e.name ≡ Some (base + 1 + n) → spec.method_from base (m ∷ methods) e.name ≡ Some (base + suc n)
    by true test others =
        let wrong : 0 ≡ suc n = first 0 m refl ((bytes_eq-Decides m.name e.name).0 test) in
        absurd (omega arith)
    by false test others =
        let sums : base + 1 + n ≡ base + suc n = omega arith in
        ap (λ t. if t then Some base else spec.method_from (base + 1) methods e.name) test ∙ others ∙ ap (λ k. Some k) sums

module _ (outlines : List Outline) (right : AreMethods outlines) where
  abbrev methods : List Outline
  methods = methods_among outlines

  call_of_complete : (q : Asking) (c : MethodCall) (e : Outline) (pieces : List (List ℕ)) (rest : List ℕ) → HasPlaces methods q → slice_get methods c.method ≡ Some e → AreArguments e.ports pieces c.words
      → is_asked q c.method ≡ false → spec.call_of methods c.method (join_with_byte 44 pieces ++ 41 ∷ rest) q ≡ Some (asked_with c q, rest)
  unfolding spec.call_of
  call_of_complete q c e pieces rest has at each free =
      let text = join_with_byte 44 pieces ++ 41 ∷ rest in
      let there = item_there q.args c.method (omega (arith, length_args methods q has, slice_get_within methods c.method e at)) in
      let long = words_at methods q has c.method e there.0 at there.1 in
      ap (λ t. if t then None else spec.asking_with c.method q (spec.arguments (ports_of (slice_get methods c.method)) text (unwrap_or (slice_get q.args c.method) []))) free
      ∙ ap (λ o. spec.asking_with c.method q (spec.arguments (ports_of o) text (unwrap_or (slice_get q.args c.method) []))) at
      ∙ ap (λ o. spec.asking_with c.method q (spec.arguments e.ports text (unwrap_or o []))) there.1
      ∙ ap (spec.asking_with c.method q) (arguments_complete e.ports pieces c.words there.0 rest (right.ports c.method e at) long each)

  call_complete : (q : Asking) (c : MethodCall) (text rest : List ℕ) → HasPlaces methods q → IsCall methods text c → is_asked q c.method ≡ false
      → spec.call methods (text ++ rest) q ≡ Some (asked_with c q, rest)
  unfolding spec.call
  call_complete q c text rest has is free =
      let e = is.outline in
      let inner = join_with_byte 44 is.pieces in
      let after = inner ++ 41 ∷ rest in
      let bytes = e.name ++ 40 ∷ after in
      let whole : text ++ rest ≡ bytes = ap (λ l. l ++ rest) is.written ∙ sym (call_text e.name inner rest) in
      let n : prefix_len in_name bytes ≡ length e.name = front_len in_name e.name after 40 (right.names c.method e is.at) refl in
      ap (λ l. spec.call_named methods (take (prefix_len in_name l) l) (spec.behind 40 (drop (prefix_len in_name l) l)) q) whole
      ∙ ap (λ k. spec.call_named methods (take k bytes) (spec.behind 40 (drop k bytes)) q) n
      ∙ ap (λ l. spec.call_named methods l (spec.behind 40 (drop (length e.name) bytes)) q) (take-append_seam e.name (40 ∷ after))
      ∙ ap (λ l. spec.call_named methods e.name (spec.behind 40 l) q) (drop-append_seam e.name (40 ∷ after))
      ∙ ap (λ o. spec.call_named methods e.name o q) (after_mark 40 after)
      ∙ ap (λ o. spec.call_if methods o after q) (named_complete methods c.method 0 e (λ m d there same. right.apart m c.method d e there is.at same) is.at ∙ ap (λ k. Some k) (zero-add c.method))
      ∙ call_of_complete q c e is.pieces rest has is.at is.arguments free

  -- a call has some bytes
  call_some : (text : List ℕ) (c : MethodCall) → IsCall methods text c → 0 < length text
  call_some text c is =
      let e = is.outline in
      omega (arith, ap (λ (l : List ℕ). length l) is.written, length-append ((e.name ++ codes "(") ++ join_with_byte 44 is.pieces) (codes ")"))

  calls_complete : (n : ℕ) (q : Asking) (text : List ℕ) (texts : List (List ℕ)) (c : MethodCall) (cs : List MethodCall) → HasPlaces methods q → AreCalls methods (text ∷ texts) (c ∷ cs) → AreFresh q (c ∷ cs)
      → length (join_with_byte 32 (text ∷ texts)) ≤ n → spec.calls n methods (join_with_byte 32 (text ∷ texts)) q ≡ Some (asked_with_all (c ∷ cs) q)
  calls_complete zero q text [] c [] has each fresh room = absurd (omega (arith, room, call_some text c each.0))
  calls_complete zero q text [] c (d ∷ cs) has each fresh room = absurd each.1
  calls_complete zero q text (t ∷ texts) c cs has each fresh room =
      absurd (omega (arith, room, length-append text (32 ∷ join_with_byte 32 (t ∷ texts))))
  calls_complete (suc n) q text [] c [] has each fresh room =
      ap (λ l. spec.next_calls (spec.calls n methods) (spec.call methods l q)) (sym (append-nil text))
      ∙ ap (spec.next_calls (spec.calls n methods)) (call_complete q c text [] has each.0 fresh.0)
  calls_complete (suc n) q text [] c (d ∷ cs) has each fresh room = absurd each.1
  calls_complete (suc n) q text (t ∷ texts) c [] has each fresh room = absurd each.1
  calls_complete (suc n) q text (t ∷ texts) c (d ∷ cs) has each fresh room =
      let rest = join_with_byte 32 (t ∷ texts) in
      let room_left : length rest ≤ n = omega (arith, room, length-append text (32 ∷ rest)) in
      ap (spec.next_calls (spec.calls n methods)) (call_complete q c text (32 ∷ rest) has each.0 fresh.0)
      ∙ calls_complete n (asked_with c q) t texts d cs (call_places methods q text c has each.0) each.1 fresh.1 room_left

  all_complete : (q : Asking) (bytes : List ℕ) (texts : List (List ℕ)) (cs : List MethodCall) → HasPlaces methods q → AreCalls methods texts cs → AreFresh q cs → bytes ≡ join_with_byte 32 texts
      → spec.all_calls methods bytes q ≡ Some (asked_with_all cs q)
  all_complete q bytes [] [] has each fresh is = ap (λ l. spec.all_calls methods l q) is
  all_complete q bytes [] (c ∷ cs) has each fresh is = absurd each
  all_complete q bytes (t ∷ texts) [] has each fresh is = absurd each
  all_complete q bytes (t ∷ texts) (c ∷ cs) has each fresh is = by_some bytes is (calls_complete (length bytes) q t texts c cs has each fresh (omega (arith, ap (λ (l : List ℕ). length l) is)))
    where
      not_empty : [] ≡ join_with_byte 32 (t ∷ texts) → ⊥
      not_empty none = omega (arith, call_some t c each.0, ap (λ (l : List ℕ). length l) (none ∙ join_first 32 t texts), length-append t (led 32 texts))

      by_some : (bytes : List ℕ) → bytes ≡ join_with_byte 32 (t ∷ texts) → spec.calls (length bytes) methods (join_with_byte 32 (t ∷ texts)) q ≡ Some (asked_with_all (c ∷ cs) q)
          → spec.all_calls methods bytes q ≡ Some (asked_with_all (c ∷ cs) q)
      by_some [] is read = absurd (not_empty is)
      by_some (b ∷ bytes) is read = ap (λ l. spec.calls (length (b ∷ bytes)) methods l q) is ∙ read

  pub read_complete : (q : Asking) (bytes : List ℕ) (texts : List (List ℕ)) (cs : List MethodCall) → HasPlaces methods q → AreCalls methods texts cs → AreFresh q cs → bytes ≡ join_with_byte 32 texts → length bytes ≤ 4096
      → spec.read methods bytes q ≡ Some (asked_with_all cs q)
  unfolding spec.read
  read_complete q bytes texts cs has each fresh is short =
      let test : nat_lt 4096 (length bytes) ≡ false = grind (arith, nat_tests) in
      ap (λ t. if t then None else spec.all_calls methods bytes q) test ∙ all_complete q bytes texts cs has each fresh is
