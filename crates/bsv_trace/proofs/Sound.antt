-- What is read is a line.
use Rattle.std.proofs.Common.{◌≡◌, ◌≢◌, ◌∙◌, ℕ, zero, suc, ◌+◌, ◌<◌, ◌≤◌, ◌^◌, ◌==◌, Bool, true, false, ◌&&◌, nat_le, nat_lt, IsTrue, List, [], ◌∷◌, ◌++◌, length, take, drop, slice_get, slice_set, Option, Some, None, if◌then◌else◌, unwrap_or, refl, sym, ap, subst, append_assoc, append-nil, add-one, arith, length-set, codes}
use Rattle.std.proofs.lemmas.List.{take-append-drop, take_all}
use Rattle.std.proofs.lemmas.Option.{slice_get_within}
use Rattle.std.proofs.lemmas.Bool.Decides.{nat_tests}
use Rattle.std.specs.List.{list_all, prefix_len, join_with_byte}
use Rattle.std.specs.Str.{bytes_eq}
use Rattle.std.proofs.lemmas.Slice.Eq.{bytes_eq-Decides}
use Rattle.bsv_lemmas.proofs.Places.{item_there}
use Rattle.bsv_bits.specs.Words.{Bits}
use Rattle.bsv_design.specs.declared.element.Port.{Port}
use Rattle.bsv_design.specs.scheme.Schemes.{Asking, Outline, ports_of}
use Rattle.bsv_trace.specs.declared.number.Base.{Base}
use Rattle.bsv_trace.specs.declared.number.Base.TheVariants as base
use Rattle.bsv_trace.specs.Lines.{IsArgument, AreArguments, MethodCall, IsCall, AreCalls, in_name, asked_with, asked_with_all}
use Rattle.bsv_bits.specs.DigitValues.{value_of}
use Rattle.bsv_trace.specs.Numbers.{IsNumber, decimal, hexadecimal}
use Rattle.bsv_trace.specs.Reading as spec
use Rattle.bsv_trace.specs.Reading.{HasPlaces, radix, is_digit, fitting, word_of, with_rest, digits, argument}
use Rattle.bsv_trace.proofs.Places.{words_at, length_args, with_call}
use Rattle.bsv_trace.proofs.Pieces.{all_in_front, after_is, call_text, led, join_first, take_placed}

-- ---- numbers

-- digits in front of what is left
record Digits (b : Base) (width : ℕ) (bytes rest : List ℕ) (w : Bits) : Type 0 where
  front : List ℕ
  some : front ≢ []
  each : IsTrue (list_all (is_digit b) front)
  value : w.value ≡ value_of (radix b) front
  width_is : w.width ≡ width
  below : w.value < 2 ^ width
  is : bytes ≡ front ++ rest

record Fitting (width value : ℕ) (w : Bits) : Type 0 where
  value_is : w.value ≡ value
  width_is : w.width ≡ width
  below : value < 2 ^ width

by_range : (width value : ℕ) (w : Bits) (t : Bool) → (nat_le 1 width && nat_le width 128 && nat_lt value (2 ^ width)) ≡ t
    → ◌≡◌ {A = Option Bits} (if t then Some (record { width = width; value = value }) else None) (Some w) → Fitting width value w
by_range width value w true test e =
    let made : Bits = record { width = width; value = value } in
    let same : made ≡ w = cc in
    record { value_is = ap (λ (x : Bits). x.value) (sym same); width_is = ap (λ (x : Bits). x.width) (sym same); below = grind (arith, nat_tests, test) }
by_range width value w false test e = absurd cc

fitting_sound : (width value : ℕ) (w : Bits) → fitting width value ≡ Some w → Fitting width value w
fitting_sound width value w e = by_range width value w (nat_le 1 width && nat_le width 128 && nat_lt value (2 ^ width)) refl e

by_front : (b : Base) (width : ℕ) (bytes front left rest : List ℕ) (w : Bits) → bytes ≡ front ++ left → list_all (is_digit b) front ≡ true
    → with_rest (word_of b width front) left ≡ Some (w, rest) → Digits b width bytes rest w
by_front b width bytes [] left rest w is each e = absurd cc
by_front b width bytes (d ∷ front) left rest w is each e = by_word (fitting width (value_of (radix b) (d ∷ front))) refl e
  where
    by_word : (o : Option Bits) → fitting width (value_of (radix b) (d ∷ front)) ≡ o → with_rest o left ≡ Some (w, rest) → Digits b width bytes rest w
    by_word None read e = absurd cc
    by_word (Some x) read e =
        let both : ◌≡◌ {A = Bits × List ℕ} (x, left) (w, rest) = cc in
        let word : x ≡ w = ap (λ (pair : Bits × List ℕ). pair.0) both in
        let fit = fitting_sound width (value_of (radix b) (d ∷ front)) w (read ∙ ap (λ y. Some y) word) in
        record {
          front = d ∷ front;
          some = λ none. absurd (omega (arith, ap (λ (l : List ℕ). length l) none));
          each = each;
          value = fit.value_is;
          width_is = fit.width_is;
          below = let P : ℕ → Type 0 = λ v. v < 2 ^ width in subst P (sym fit.value_is) fit.below;
          is = is ∙ ap (λ (l : List ℕ). (d ∷ front) ++ l) (ap (λ (pair : Bits × List ℕ). pair.1) both);
        }

digits_sound : (b : Base) (width : ℕ) (bytes rest : List ℕ) (w : Bits) → digits b width bytes ≡ Some (w, rest) → Digits b width bytes rest w
digits_sound b width bytes rest w e =
    by_front b width bytes (take (prefix_len (is_digit b) bytes) bytes) (drop (prefix_len (is_digit b) bytes) bytes) rest w
    (sym (take-append-drop (prefix_len (is_digit b) bytes) bytes)) (all_in_front (is_digit b) bytes) e

-- an argument in front of what is left
record ArgumentRead (p : Port) (bytes rest : List ℕ) (w : Bits) : Type 0 where
  text : List ℕ
  argument : IsArgument p text w
  is : bytes ≡ text ++ rest

of_decimal : (p : Port) (bytes rest : List ℕ) (w : Bits) → Digits base.Decimal p.width bytes rest w → ArgumentRead p bytes rest w
of_decimal p bytes rest w d = record {
  text = d.front;
  argument = record { number = subst (IsNumber d.front) (sym d.value) (decimal d.some d.each); width = d.width_is; below = d.below };
  is = d.is;
}

of_hexadecimal : (p : Port) (bytes rest : List ℕ) (w : Bits) → Digits base.Hexadecimal p.width bytes rest w → ArgumentRead p (48 ∷ 120 ∷ bytes) rest w
of_hexadecimal p bytes rest w d = record {
  text = 48 ∷ 120 ∷ d.front;
  argument = record { number = subst (IsNumber (48 ∷ 120 ∷ d.front)) (sym d.value) (hexadecimal d.some d.each); width = d.width_is; below = d.below };
  is = ap (λ (l : List ℕ). 48 ∷ 120 ∷ l) d.is;
}

by_base : (p : Port) (x y : ℕ) (bytes rest : List ℕ) (w : Bits) (t : Bool) → ((x == 48) && (y == 120)) ≡ t
    → (if t then digits base.Hexadecimal p.width bytes else digits base.Decimal p.width (x ∷ y ∷ bytes)) ≡ Some (w, rest) → ArgumentRead p (x ∷ y ∷ bytes) rest w
by_base p x y bytes rest w true test e =
    let first : x ≡ 48 = grind (arith, nat_tests, test) in
    let second : y ≡ 120 = grind (arith, nat_tests, test) in
    let P : List ℕ → Type 0 = λ l. ArgumentRead p l rest w in
    subst P (ap (λ n. n ∷ 120 ∷ bytes) (sym first) ∙ ap (λ n. x ∷ n ∷ bytes) (sym second)) (of_hexadecimal p bytes rest w (digits_sound base.Hexadecimal p.width bytes rest w e))
by_base p x y bytes rest w false test e = of_decimal p (x ∷ y ∷ bytes) rest w (digits_sound base.Decimal p.width (x ∷ y ∷ bytes) rest w e)

argument_sound : (p : Port) (bytes rest : List ℕ) (w : Bits) → argument p.width bytes ≡ Some (w, rest) → ArgumentRead p bytes rest w
unfolding argument
argument_sound p [] rest w e = of_decimal p [] rest w (digits_sound base.Decimal p.width [] rest w e)
argument_sound p (x ∷ []) rest w e = of_decimal p (x ∷ []) rest w (digits_sound base.Decimal p.width (x ∷ []) rest w e)
argument_sound p (x ∷ y ∷ bytes) rest w e = by_base p x y bytes rest w ((x == 48) && (y == 120)) refl e

-- ---- arguments

-- arguments after their commas, and the bracket that closes the call
record MoreRead (ps : List Port) (place : ℕ) (bytes rest : List ℕ) (old new : List Bits) : Type 0 where
  pieces : List (List ℕ)
  words : List Bits
  each : AreArguments ps pieces words
  is : bytes ≡ led 44 pieces ++ 41 ∷ rest
  new_is : new ≡ take place old ++ words

closed_sound : (bytes rest : List ℕ) (old new : List Bits) (o : Option (List ℕ)) → spec.behind 41 bytes ≡ o → spec.closed old o ≡ Some (new, rest) → (bytes ≡ 41 ∷ rest) × (new ≡ old)
closed_sound bytes rest old new None read e = absurd cc
closed_sound bytes rest old new (Some left) read e =
    let both : ◌≡◌ {A = List Bits × List ℕ} (old, left) (new, rest) = cc in
    let words : old ≡ new = ap (λ (pair : List Bits × List ℕ). pair.0) both in
    let text : left ≡ rest = ap (λ (pair : List Bits × List ℕ). pair.1) both in
    (after_is 41 bytes rest (read ∙ ap (λ l. Some l) text), sym words)

more_sound : (ps : List Port) (place : ℕ) (bytes rest : List ℕ) (old new : List Bits) → length old ≡ length ps + place
    → spec.more_arguments ps place bytes old ≡ Some (new, rest) → MoreRead ps place bytes rest old new
more_sound [] place bytes rest old new long e =
    let both = closed_sound bytes rest old new (spec.behind 41 bytes) refl e in
    record { pieces = []; words = []; each = tt; is = both.0; new_is = both.1 ∙ sym (take_all place old (omega arith)) ∙ sym (append-nil (take place old)) }
more_sound (p ∷ ps) place bytes rest old new long e = by_comma (spec.behind 44 bytes) refl e (λ mid words same. more_sound ps (place + 1) mid rest words new (omega (arith, same)))
  where
    after_comma : (mid : List ℕ) (o : Option (Bits × List ℕ)) → bytes ≡ 44 ∷ mid → argument p.width mid ≡ o → spec.onward (spec.more_arguments ps (place + 1)) (spec.placed place old o) ≡ Some (new, rest)
        → ((mid : List ℕ) (words : List Bits) → length words ≡ length old → spec.more_arguments ps (place + 1) mid words ≡ Some (new, rest) → MoreRead ps (place + 1) mid rest words new)
        → MoreRead (p ∷ ps) place bytes rest old new
    after_comma mid None comma read e others = absurd cc
    after_comma mid (Some found) comma read e others =
        let first = argument_sound p mid found.1 found.0 read in
        let more = others found.1 (slice_set old place found.0) (length-set old place found.0) e in
        let below : place < length old = omega arith in
        record {
          pieces = first.text ∷ more.pieces;
          words = found.0 ∷ more.words;
          each = (first.argument, more.each);
          is = comma ∙ ap (λ l. 44 ∷ l) (first.is ∙ ap (λ l. first.text ++ l) more.is ∙ sym (append_assoc first.text (led 44 more.pieces) (41 ∷ rest)));
          new_is = more.new_is
              ∙ ap (λ l. l ++ more.words) (ap (λ n. take n (slice_set old place found.0)) (add-one place) ∙ take_placed old place found.0 below)
              ∙ append_assoc (take place old) (found.0 ∷ []) more.words;
        }

    by_comma : (o : Option (List ℕ)) → spec.behind 44 bytes ≡ o → spec.onward (spec.more_arguments ps (place + 1)) (spec.next_argument p.width o place old) ≡ Some (new, rest)
        → ((mid : List ℕ) (words : List Bits) → length words ≡ length old → spec.more_arguments ps (place + 1) mid words ≡ Some (new, rest) → MoreRead ps (place + 1) mid rest words new)
        → MoreRead (p ∷ ps) place bytes rest old new
    by_comma None read e others = absurd cc
    by_comma (Some mid) read e others = after_comma mid (argument p.width mid) (after_is 44 bytes mid read) refl e others

record ArgumentsRead (ps : List Port) (bytes rest : List ℕ) (new : List Bits) : Type 0 where
  pieces : List (List ℕ)
  each : AreArguments ps pieces new
  is : bytes ≡ join_with_byte 44 pieces ++ 41 ∷ rest

arguments_sound : (ps : List Port) (bytes rest : List ℕ) (old new : List Bits) → length old ≡ length ps → spec.arguments ps bytes old ≡ Some (new, rest) → ArgumentsRead ps bytes rest new
arguments_sound [] bytes rest old new long e = no_words old new long (closed_sound bytes rest old new (spec.behind 41 bytes) refl e)
  where
    no_words : (old new : List Bits) → length old ≡ 0 → (bytes ≡ 41 ∷ rest) × (new ≡ old) → ArgumentsRead [] bytes rest new
    no_words [] new long both = record { pieces = []; each = subst (AreArguments [] []) (sym both.1) tt; is = both.0 }
    no_words (w ∷ old) new long both = absurd (omega arith)
arguments_sound (p ∷ ps) bytes rest old new long e = by_first (argument p.width bytes) refl e
  where
    by_first : (o : Option (Bits × List ℕ)) → argument p.width bytes ≡ o → spec.onward (spec.more_arguments ps 1) (spec.placed 0 old o) ≡ Some (new, rest) → ArgumentsRead (p ∷ ps) bytes rest new
    by_first None read e = absurd cc
    by_first (Some found) read e =
        let first = argument_sound p bytes found.1 found.0 read in
        let same : length (slice_set old 0 found.0) ≡ length old = length-set old 0 found.0 in
        let more = more_sound ps 1 found.1 rest (slice_set old 0 found.0) new (omega (arith, same)) e in
        let below : 0 < length old = omega arith in
        let words : new ≡ found.0 ∷ more.words = more.new_is ∙ ap (λ l. l ++ more.words) (take_placed old 0 found.0 below) in
        record {
          pieces = first.text ∷ more.pieces;
          each = subst (AreArguments (p ∷ ps) (first.text ∷ more.pieces)) (sym words) (first.argument, more.each);
          is = first.is ∙ ap (λ l. first.text ++ l) more.is ∙ sym (append_assoc first.text (led 44 more.pieces) (41 ∷ rest)) ∙ ap (λ l. l ++ 41 ∷ rest) (sym (join_first 44 first.text more.pieces));
        }

-- ---- calls

record Named (methods : List Outline) (name : List ℕ) (number base : ℕ) : Type 0 where
  at : ℕ
  outline : Outline
  found : slice_get methods at ≡ Some outline
  name_is : outline.name ≡ name
  number_is : number ≡ base + at

by_name : (e : Outline) (es : List Outline) (name : List ℕ) (number base : ℕ) (t : Bool) → bytes_eq e.name name ≡ t → (if t then Some base else spec.method_from (base + 1) es name) ≡ Some number
    → (spec.method_from (base + 1) es name ≡ Some number → Named es name number (base + 1)) → Named (e ∷ es) name number base
by_name e es name number base true same is others = record { at = 0; outline = e; found = refl; name_is = (bytes_eq-Decides e.name name).0 same; number_is = let it : base ≡ number = cc in omega arith }
by_name e es name number base false same is others =
    let n = others is in
    record { at = suc n.at; outline = n.outline; found = n.found; name_is = n.name_is; number_is = omega (arith, n.number_is) }

named_sound : (methods : List Outline) (name : List ℕ) (number base : ℕ) → spec.method_from base methods name ≡ Some number → Named methods name number base
named_sound [] name number base e = absurd cc
named_sound (m ∷ methods) name number base e = by_name m methods name number base (bytes_eq m.name name) refl e (named_sound methods name number (base + 1))

-- whether a method is asked
abbrev pub is_asked : Asking → ℕ → Bool
is_asked q n = unwrap_or (slice_get q.asked n) true

-- a call in front of what is left
record CallRead (methods : List Outline) (bytes rest : List ℕ) (q new : Asking) : Type 0 where
  text : List ℕ
  call : MethodCall
  each : IsCall methods text call
  free : is_asked q call.method ≡ false
  is : bytes ≡ text ++ rest
  new_is : new ≡ asked_with call q

by_flag : (methods : List Outline) (n : ℕ) (bytes rest : List ℕ) (q new : Asking) (e : Outline) (old : List Bits) (t : Bool) → is_asked q n ≡ t → slice_get methods n ≡ Some e → length old ≡ length e.ports
    → (if t then None else spec.asking_with n q (spec.arguments e.ports bytes old)) ≡ Some (new, rest) → CallRead methods (e.name ++ 40 ∷ bytes) rest q new
by_flag methods n bytes rest q new e old true flag at long read = absurd cc
by_flag methods n bytes rest q new e old false flag at long read = by_words (spec.arguments e.ports bytes old) refl read
  where
    by_words : (o : Option (List Bits × List ℕ)) → spec.arguments e.ports bytes old ≡ o → spec.asking_with n q o ≡ Some (new, rest) → CallRead methods (e.name ++ 40 ∷ bytes) rest q new
    by_words None words_read made = absurd cc
    by_words (Some found) words_read made =
        let all = arguments_sound e.ports bytes found.1 old found.0 long words_read in
        let both : ◌≡◌ {A = Asking × List ℕ} (asked_with (record { method = n; words = found.0 }) q, found.1) (new, rest) = cc in
        record {
          text = e.name ++ codes "(" ++ join_with_byte 44 all.pieces ++ codes ")";
          call = record { method = n; words = found.0 };
          each = record { outline = e; at = at; pieces = all.pieces; arguments = all.each; written = refl };
          free = flag;
          is = ap (λ l. e.name ++ 40 ∷ l) (all.is ∙ ap (λ l. join_with_byte 44 all.pieces ++ 41 ∷ l) (ap (λ (pair : Asking × List ℕ). pair.1) both)) ∙ call_text e.name (join_with_byte 44 all.pieces) rest;
          new_is = sym (ap (λ (pair : Asking × List ℕ). pair.0) both);
        }

call_of_sound : (methods : List Outline) (n : ℕ) (bytes rest : List ℕ) (q new : Asking) (e : Outline) → HasPlaces methods q → slice_get methods n ≡ Some e
    → spec.call_of methods n bytes q ≡ Some (new, rest) → CallRead methods (e.name ++ 40 ∷ bytes) rest q new
unfolding spec.call_of
call_of_sound methods n bytes rest q new e has at read =
    let there = item_there q.args n (omega (arith, length_args methods q has, slice_get_within methods n e at)) in
    let long = words_at methods q has n e there.0 at there.1 in
    by_flag methods n bytes rest q new e there.0 (is_asked q n) refl at long
    (ap (λ o. if is_asked q n then None else spec.asking_with n q (spec.arguments (ports_of o) bytes there.0)) (sym at)
    ∙ ap (λ o. if is_asked q n then None else spec.asking_with n q (spec.arguments (ports_of (slice_get methods n)) bytes (unwrap_or o []))) (sym there.1)
    ∙ read)

by_found : (methods : List Outline) (bytes name after rest : List ℕ) (q new : Asking) (o : Option ℕ) → HasPlaces methods q → bytes ≡ name ++ 40 ∷ after → spec.method_from 0 methods name ≡ o
    → spec.call_if methods o after q ≡ Some (new, rest) → CallRead methods bytes rest q new
by_found methods bytes name after rest q new None has is found read = absurd cc
by_found methods bytes name after rest q new (Some n) has is found read =
    let named = named_sound methods name n 0 found in
    let here : n ≡ named.at = omega (arith, named.number_is) in
    let at : slice_get methods n ≡ Some named.outline = ap (λ m. slice_get methods m) here ∙ named.found in
    let P : List ℕ → Type 0 = λ l. CallRead methods l rest q new in
    subst P (ap (λ l. l ++ 40 ∷ after) named.name_is ∙ sym is) (call_of_sound methods n after rest q new named.outline has at read)

by_bracket : (methods : List Outline) (bytes name left rest : List ℕ) (q new : Asking) (o : Option (List ℕ)) → HasPlaces methods q → bytes ≡ name ++ left → spec.behind 40 left ≡ o
    → spec.call_named methods name o q ≡ Some (new, rest) → CallRead methods bytes rest q new
by_bracket methods bytes name left rest q new None has is bracket read = absurd cc
by_bracket methods bytes name left rest q new (Some after) has is bracket read =
    by_found methods bytes name after rest q new (spec.method_from 0 methods name) has (is ∙ ap (λ l. name ++ l) (after_is 40 left after bracket)) refl read

call_sound : (methods : List Outline) (bytes rest : List ℕ) (q new : Asking) → HasPlaces methods q → spec.call methods bytes q ≡ Some (new, rest) → CallRead methods bytes rest q new
unfolding spec.call
call_sound methods bytes rest q new has read =
    by_bracket methods bytes (take (prefix_len in_name bytes) bytes) (drop (prefix_len in_name bytes) bytes) rest q new
    (spec.behind 40 (drop (prefix_len in_name bytes) bytes)) has (sym (take-append-drop (prefix_len in_name bytes) bytes)) refl read

-- ---- lines

-- each call's method is not asked before it
abbrev pub AreFresh : Asking → List MethodCall → Type 0
AreFresh q [] = Unit {0}
AreFresh q (c ∷ cs) = (is_asked q c.method ≡ false) × AreFresh (asked_with c q) cs

-- one call or more
record CallsRead (methods : List Outline) (bytes : List ℕ) (q new : Asking) : Type 0 where
  text : List ℕ
  pieces : List (List ℕ)
  call : MethodCall
  calls : List MethodCall
  each : AreCalls methods (text ∷ pieces) (call ∷ calls)
  fresh : AreFresh q (call ∷ calls)
  is : bytes ≡ join_with_byte 32 (text ∷ pieces)
  new_is : new ≡ asked_with_all (call ∷ calls) q

length_words : (ps : List Port) (texts : List (List ℕ)) (ws : List Bits) → AreArguments ps texts ws → length ws ≡ length ps
length_words [] [] [] each = refl
length_words [] [] (w ∷ ws) each = absurd each
length_words [] (t ∷ texts) ws each = absurd each
length_words (p ∷ ps) [] ws each = absurd each
length_words (p ∷ ps) (t ∷ texts) [] each = absurd each
length_words (p ∷ ps) (t ∷ texts) (w ∷ ws) each = ap suc (length_words ps texts ws each.1)

-- places stay after a call
pub call_places : (methods : List Outline) (q : Asking) (text : List ℕ) (c : MethodCall) → HasPlaces methods q → IsCall methods text c → HasPlaces methods (asked_with c q)
call_places methods q text c has is =
    let there = item_there q.args c.method (omega (arith, length_args methods q has, slice_get_within methods c.method is.outline is.at)) in
    with_call methods q has c.method there.0 c.words there.1
    (length_words is.outline.ports is.pieces c.words is.arguments ∙ sym (words_at methods q has c.method is.outline there.0 is.at there.1))

one_call : (methods : List Outline) (bytes rest : List ℕ) (q new mid : Asking) → CallRead methods bytes rest q mid → rest ≡ [] → new ≡ mid → CallsRead methods bytes q new
one_call methods bytes rest q new mid first none last = record {
  text = first.text;
  pieces = [];
  call = first.call;
  calls = [];
  each = (first.each, tt);
  fresh = (first.free, tt);
  is = first.is ∙ ap (λ l. first.text ++ l) none ∙ append-nil first.text;
  new_is = last ∙ first.new_is;
}

call_before : (methods : List Outline) (bytes left : List ℕ) (q new mid : Asking) → CallRead methods bytes (32 ∷ left) q mid → CallsRead methods left mid new → CallsRead methods bytes q new
call_before methods bytes left q new mid first others = record {
  text = first.text;
  pieces = others.text ∷ others.pieces;
  call = first.call;
  calls = others.call ∷ others.calls;
  each = (first.each, others.each);
  fresh = (first.free, subst (λ r. AreFresh r (others.call ∷ others.calls)) first.new_is others.fresh);
  is = first.is ∙ ap (λ l. first.text ++ 32 ∷ l) others.is;
  new_is = others.new_is ∙ ap (asked_with_all (others.call ∷ others.calls)) first.new_is;
}

by_blank : (methods : List Outline) (bytes left : List ℕ) (further : List ℕ → Asking → Option Asking) (q new mid : Asking) (b : ℕ) (t : Bool) → CallRead methods bytes (b ∷ left) q mid → (b == 32) ≡ t
    → (if t then further left mid else None) ≡ Some new → (further left mid ≡ Some new → CallsRead methods left mid new) → CallsRead methods bytes q new
by_blank methods bytes left further q new mid b true first blank read others =
    let same : b ≡ 32 = grind (arith, nat_tests, blank) in
    call_before methods bytes left q new mid (subst (λ n. CallRead methods bytes (n ∷ left) q mid) same first) (others read)
by_blank methods bytes left further q new mid b false first blank read others = absurd cc

by_rest : (methods : List Outline) (bytes rest : List ℕ) (further : List ℕ → Asking → Option Asking) (q new mid : Asking) → CallRead methods bytes rest q mid → spec.next_call further mid rest ≡ Some new
    → ((left : List ℕ) → further left mid ≡ Some new → CallsRead methods left mid new) → CallsRead methods bytes q new
by_rest methods bytes [] further q new mid first read others = let last : mid ≡ new = cc in one_call methods bytes [] q new mid first refl (sym last)
by_rest methods bytes (b ∷ left) further q new mid first read others = by_blank methods bytes left further q new mid b (b == 32) first refl read (others left)

by_call : (methods : List Outline) (bytes : List ℕ) (further : List ℕ → Asking → Option Asking) (q new : Asking) (o : Option (Asking × List ℕ)) → HasPlaces methods q → spec.call methods bytes q ≡ o → spec.next_calls further o ≡ Some new
    → ((left : List ℕ) (mid : Asking) → HasPlaces methods mid → further left mid ≡ Some new → CallsRead methods left mid new) → CallsRead methods bytes q new
by_call methods bytes further q new None has first read others = absurd cc
by_call methods bytes further q new (Some found) has first read others =
    let here = call_sound methods bytes found.1 q found.0 has first in
    let places : HasPlaces methods found.0 = subst (HasPlaces methods) (sym here.new_is) (call_places methods q here.text here.call has here.each) in
    by_rest methods bytes found.1 further q new found.0 here read (λ left. others left found.0 places)

calls_sound : (n : ℕ) (methods : List Outline) (bytes : List ℕ) (q new : Asking) → HasPlaces methods q → spec.calls n methods bytes q ≡ Some new → CallsRead methods bytes q new
calls_sound zero methods bytes q new has read = absurd cc
calls_sound (suc n) methods bytes q new has read =
    by_call methods bytes (spec.calls n methods) q new (spec.call methods bytes q) has refl read (λ left mid. calls_sound n methods left mid new)

-- ---- lines

-- the calls of a line
pub record LineRead (methods : List Outline) (bytes : List ℕ) (q new : Asking) : Type 0 where
  pub pieces : List (List ℕ)
  pub calls : List MethodCall
  pub each : AreCalls methods pieces calls
  pub fresh : AreFresh q calls
  pub is : bytes ≡ join_with_byte 32 pieces
  pub short : length bytes ≤ 4096
  pub new_is : new ≡ asked_with_all calls q

by_length : (methods : List Outline) (bytes : List ℕ) (q new : Asking) (t : Bool) → HasPlaces methods q → nat_lt 4096 (length bytes) ≡ t → (if t then None else spec.all_calls methods bytes q) ≡ Some new
    → LineRead methods bytes q new
by_length methods bytes q new true has long read = absurd cc
by_length methods [] q new false has long read =
    let last : q ≡ new = cc in
    record { pieces = []; calls = []; each = tt; fresh = tt; is = refl; short = omega arith; new_is = sym last }
by_length methods (b ∷ bytes) q new false has long read =
    let all = calls_sound (length (b ∷ bytes)) methods (b ∷ bytes) q new has read in
    record { pieces = all.text ∷ all.pieces; calls = all.call ∷ all.calls; each = all.each; fresh = all.fresh; is = all.is; short = grind (arith, nat_tests, long); new_is = all.new_is }

pub read_sound : (methods : List Outline) (bytes : List ℕ) (q new : Asking) → HasPlaces methods q → spec.read methods bytes q ≡ Some new → LineRead methods bytes q new
unfolding spec.read
read_sound methods bytes q new has read = by_length methods bytes q new (nat_lt 4096 (length bytes)) has refl read
