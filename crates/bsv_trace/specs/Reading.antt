-- The reader of a line, as functions on lists.
use Rattle.std.specs.Prelude.{◌≡◌, ℕ, zero, suc, ◌+◌, ◌^◌, Bool, true, false, ◌&&◌, ◌==◌, nat_le, nat_lt, if◌then◌else◌, List, [], ◌∷◌, length, take, drop, slice_get, slice_set, map, Option, Some, None, unwrap_or}
use Rattle.std.specs.Borrow.{Bor}
use Rattle.std.specs.Char.{is_ascii_digit, is_ascii_hexdigit}
use Rattle.std.specs.List.{list_all, prefix_len}
use Rattle.std.specs.Str.{bytes_eq}
use Rattle.bsv_bits.specs.Words.{Bits}
use Rattle.bsv_design.specs.declared.element.Element.{Element}
use Rattle.bsv_design.specs.declared.element.Port.{Port}
use Rattle.bsv_design.specs.scheme.Schemes.{Asking, Outline, ports_of}
use Rattle.bsv_design.specs.design.Widths.{port_fits}
use Rattle.bsv_trace.specs.declared.number.Base.{Base}
use Rattle.bsv_trace.specs.declared.number.Base.TheVariants as base
use Rattle.bsv_trace.specs.Lines.{in_name, asked_with}
use Rattle.bsv_bits.specs.DigitValues.{value_of}

-- ---- answers

-- what a reader gives beside what it left of the bytes
abbrev pub Gives : {A : Type 0} → Option (Bor (List ℕ)) → A → Option (A × List ℕ) → Type 0
Gives None state given = given ≡ None
Gives (Some rest) state given = given ≡ Some (state, rest.now)

-- the same of a reader that reads to the end
abbrev pub GivesAll : {A : Type 0} → Bool → A → Option A → Type 0
GivesAll false state given = given ≡ None
GivesAll true state given = given ≡ Some state

-- a word, and what is after it
abbrev pub seen : Option (Bits × Bor (List ℕ)) → Option (Bits × List ℕ)
seen None = None
seen (Some found) = Some (found.0, found.1.now)

-- ---- numbers

abbrev pub radix : Base → ℕ
radix base.Decimal = 10
radix base.Hexadecimal = 16

abbrev pub is_digit : Base → ℕ → Bool
is_digit base.Decimal b = is_ascii_digit b
is_digit base.Hexadecimal b = is_ascii_hexdigit b

-- a word of 1 to 128 bits, where they can hold the value
abbrev pub fitting : ℕ → ℕ → Option Bits
fitting width value =
    if nat_le 1 width && nat_le width 128 && nat_lt value (2 ^ width) then Some (record { width = width; value = value }) else None

abbrev pub word_of : Base → ℕ → List ℕ → Option Bits
word_of b width [] = None
word_of b width (d ∷ digits) = fitting width (value_of (radix b) (d ∷ digits))

abbrev pub with_rest : Option Bits → List ℕ → Option (Bits × List ℕ)
with_rest None rest = None
with_rest (Some w) rest = Some (w, rest)

-- the digits in front, and what is after them
abbrev pub digits : Base → ℕ → List ℕ → Option (Bits × List ℕ)
digits b width bytes =
    with_rest (word_of b width (take (prefix_len (is_digit b) bytes) bytes)) (drop (prefix_len (is_digit b) bytes) bytes)

unfoldable pub argument : ℕ → List ℕ → Option (Bits × List ℕ)
argument width [] = digits base.Decimal width []
argument width (a ∷ []) = digits base.Decimal width (a ∷ [])
argument width (a ∷ b ∷ bytes) =
    if (a == 48) && (b == 120) then digits base.Hexadecimal width bytes else digits base.Decimal width (a ∷ b ∷ bytes)

-- ---- arguments

-- what is after this byte
abbrev pub behind : ℕ → List ℕ → Option (List ℕ)
behind mark [] = None
behind mark (b ∷ bytes) = if b == mark then Some bytes else None

abbrev pub placed : ℕ → List Bits → Option (Bits × List ℕ) → Option (List Bits × List ℕ)
placed place words None = None
placed place words (Some found) = Some (slice_set words place found.0, found.1)

abbrev pub argument_at : ℕ → List ℕ → ℕ → List Bits → Option (List Bits × List ℕ)
argument_at width bytes place words = placed place words (argument width bytes)

-- an argument after its comma
abbrev pub next_argument : ℕ → Option (List ℕ) → ℕ → List Bits → Option (List Bits × List ℕ)
next_argument width None place words = None
next_argument width (Some bytes) place words = argument_at width bytes place words

abbrev pub closed : List Bits → Option (List ℕ) → Option (List Bits × List ℕ)
closed words None = None
closed words (Some rest) = Some (words, rest)

abbrev pub onward : (List ℕ → List Bits → Option (List Bits × List ℕ)) → Option (List Bits × List ℕ) → Option (List Bits × List ℕ)
onward further None = None
onward further (Some found) = further found.1 found.0

-- the arguments from a place on, each after its comma
abbrev pub more_arguments : List Port → ℕ → List ℕ → List Bits → Option (List Bits × List ℕ)
more_arguments [] place bytes words = closed words (behind 41 bytes)
more_arguments (p ∷ ps) place bytes words =
    onward (more_arguments ps (place + 1)) (next_argument p.width (behind 44 bytes) place words)

abbrev pub arguments : List Port → List ℕ → List Bits → Option (List Bits × List ℕ)
arguments [] bytes words = closed words (behind 41 bytes)
arguments (p ∷ ps) bytes words = onward (more_arguments ps 1) (argument_at p.width bytes 0 words)

-- ---- calls

-- the method of this name, counted from a number
abbrev pub method_from : ℕ → List Outline → List ℕ → Option ℕ
method_from number [] name = None
method_from number (o ∷ os) name = if bytes_eq o.name name then Some number else method_from (number + 1) os name

abbrev pub asking_with : ℕ → Asking → Option (List Bits × List ℕ) → Option (Asking × List ℕ)
asking_with number q None = None
asking_with number q (Some found) = Some (asked_with (record { method = number; words = found.0 }) q, found.1)

-- a call of this method, where it is not asked yet
unfoldable pub call_of : List Outline → ℕ → List ℕ → Asking → Option (Asking × List ℕ)
call_of methods number bytes q =
    if unwrap_or (slice_get q.asked number) true then None
    else asking_with number q (arguments (ports_of (slice_get methods number)) bytes (unwrap_or (slice_get q.args number) []))

abbrev pub call_if : List Outline → Option ℕ → List ℕ → Asking → Option (Asking × List ℕ)
call_if methods None bytes q = None
call_if methods (Some number) bytes q = call_of methods number bytes q

abbrev pub call_named : List Outline → List ℕ → Option (List ℕ) → Asking → Option (Asking × List ℕ)
call_named methods name None q = None
call_named methods name (Some bytes) q = call_if methods (method_from 0 methods name) bytes q

-- the name is what comes before the first bracket
unfoldable pub call : List Outline → List ℕ → Asking → Option (Asking × List ℕ)
call methods bytes q =
    call_named methods (take (prefix_len in_name bytes) bytes) (behind 40 (drop (prefix_len in_name bytes) bytes)) q

-- ---- lines

abbrev pub next_call : (List ℕ → Asking → Option Asking) → Asking → List ℕ → Option Asking
next_call further q [] = Some q
next_call further q (b ∷ bytes) = if b == 32 then further bytes q else None

abbrev pub next_calls : (List ℕ → Asking → Option Asking) → Option (Asking × List ℕ) → Option Asking
next_calls further None = None
next_calls further (Some found) = next_call further found.0 found.1

-- at most so many calls, with a blank between each two
abbrev pub calls : ℕ → List Outline → List ℕ → Asking → Option Asking
calls zero methods bytes q = None
calls (suc turns) methods bytes q = next_calls (calls turns methods) (call methods bytes q)

abbrev pub all_calls : List Outline → List ℕ → Asking → Option Asking
all_calls methods [] q = Some q
all_calls methods (b ∷ bytes) q = calls (length (b ∷ bytes)) methods (b ∷ bytes) q

unfoldable pub read : List Outline → List ℕ → Asking → Option Asking
read methods bytes q = if nat_lt 4096 (length bytes) then None else all_calls methods bytes q

-- ---- places

-- an entry for each method, with a word for each of its arguments
pub record HasPlaces (methods : List Outline) (q : Asking) : Type 0 where
  pub asked : length q.asked ≡ length methods
  pub args : map (λ ws. length ws) q.args ≡ map (λ o. length o.ports) methods

abbrev pub ports_fit : Element → Bool
ports_fit e = list_all port_fits e.arguments
