-- What the forms of steps compute, as numbers of 64 bits: the word of a step, of the words before its run.
use Rattle.std.specs.Prelude.{ℕ, ◌+◌, ◌-◌, ◌*◌, ◌/◌, ◌%◌, ◌^◌, ◌<◌, Bool, true, false, if◌then◌else◌, nat_eq, nat_lt, nat_le, bit_and, bit_or, bit_xor, List, slice_index}
use Rattle.bsv_engine.specs.declared.bitwise.Not.{Not}
use Rattle.bsv_engine.specs.declared.bitwise.And.{And}
use Rattle.bsv_engine.specs.declared.bitwise.Or.{Or}
use Rattle.bsv_engine.specs.declared.bitwise.Xor.{Xor}
use Rattle.bsv_engine.specs.declared.sums.Add.{Add}
use Rattle.bsv_engine.specs.declared.sums.Sub.{Sub}
use Rattle.bsv_engine.specs.declared.sums.Mul.{Mul}
use Rattle.bsv_engine.specs.declared.orders.Same.{Same}
use Rattle.bsv_engine.specs.declared.orders.Less.{Less}
use Rattle.bsv_engine.specs.declared.orders.LessSigned.{LessSigned}
use Rattle.bsv_engine.specs.declared.shifts.Shl.{Shl}
use Rattle.bsv_engine.specs.declared.shifts.Shr.{Shr}
use Rattle.bsv_engine.specs.declared.shifts.Sar.{Sar}
use Rattle.bsv_engine.specs.declared.parts.Known.{Known}
use Rattle.bsv_engine.specs.declared.parts.Pick.{Pick}
use Rattle.bsv_engine.specs.declared.parts.Slice.{Slice}
use Rattle.bsv_engine.specs.declared.parts.Join.{Join}
use Rattle.bsv_engine.specs.declared.parts.Extended.{Extended}
use Rattle.bsv_engine.specs.declared.parts.SignExtended.{SignExtended}

-- ---- words of 64 bits

-- a word shifted right, also by 64 and more
abbrev pub shifted : ℕ → ℕ → ℕ
shifted n by = if nat_lt by 64 then n / 2 ^ by else 0

-- the difference modulo 2^64
abbrev pub less : ℕ → ℕ → ℕ
less m n = (m + (2 ^ 64 - n)) % 2 ^ 64

-- the order of signed words, of which those from this one on are negative
abbrev pub below_if : Bool → Bool → Bool → Bool
below_if true true below = below
below_if true false below = true
below_if false true below = false
below_if false false below = below

abbrev pub below_signed : ℕ → ℕ → ℕ → Bool
below_signed sign m n = below_if (nat_le sign m) (nat_le sign n) (nat_lt m n)

-- ---- steps: their places are among so many, and the word of each

abbrev pub not_within : ℕ → Not → Type 0
not_within n x = x.a < n

abbrev pub not_number : List ℕ → Not → ℕ
not_number ws x = (x.mask + (2 ^ 64 - slice_index ws x.a)) % 2 ^ 64

abbrev pub and_within : ℕ → And → Type 0
and_within n x = (x.a < n) × (x.b < n)

abbrev pub and_number : List ℕ → And → ℕ
and_number ws x = bit_and (slice_index ws x.a) (slice_index ws x.b)

abbrev pub or_within : ℕ → Or → Type 0
or_within n x = (x.a < n) × (x.b < n)

abbrev pub or_number : List ℕ → Or → ℕ
or_number ws x = bit_or (slice_index ws x.a) (slice_index ws x.b)

abbrev pub xor_within : ℕ → Xor → Type 0
xor_within n x = (x.a < n) × (x.b < n)

abbrev pub xor_number : List ℕ → Xor → ℕ
xor_number ws x = bit_xor (slice_index ws x.a) (slice_index ws x.b)

abbrev pub add_within : ℕ → Add → Type 0
add_within n x = (x.a < n) × (x.b < n)

abbrev pub add_number : List ℕ → Add → ℕ
add_number ws x = bit_and ((slice_index ws x.a + slice_index ws x.b) % 2 ^ 64) x.mask

abbrev pub sub_within : ℕ → Sub → Type 0
sub_within n x = (x.a < n) × (x.b < n)

abbrev pub sub_number : List ℕ → Sub → ℕ
sub_number ws x = bit_and ((slice_index ws x.a + (2 ^ 64 - slice_index ws x.b)) % 2 ^ 64) x.mask

abbrev pub mul_within : ℕ → Mul → Type 0
mul_within n x = (x.a < n) × (x.b < n)

abbrev pub mul_number : List ℕ → Mul → ℕ
mul_number ws x = bit_and ((slice_index ws x.a * slice_index ws x.b) % 2 ^ 64) x.mask

abbrev pub same_within : ℕ → Same → Type 0
same_within n x = (x.a < n) × (x.b < n)

abbrev pub same_number : List ℕ → Same → ℕ
same_number ws x = if nat_eq (slice_index ws x.a) (slice_index ws x.b) then 1 else 0

abbrev pub less_within : ℕ → Less → Type 0
less_within n x = (x.a < n) × (x.b < n)

abbrev pub less_number : List ℕ → Less → ℕ
less_number ws x = if nat_lt (slice_index ws x.a) (slice_index ws x.b) then 1 else 0

abbrev pub less_signed_within : ℕ → LessSigned → Type 0
less_signed_within n x = (x.a < n) × (x.b < n)

abbrev pub less_signed_number : List ℕ → LessSigned → ℕ
less_signed_number ws x = if below_signed x.sign (slice_index ws x.a) (slice_index ws x.b) then 1 else 0

abbrev pub shl_within : ℕ → Shl → Type 0
shl_within n x = (x.a < n) × (x.b < n)

abbrev pub shl_number : List ℕ → Shl → ℕ
shl_number ws x = if nat_lt (slice_index ws x.b) 64 then bit_and (slice_index ws x.a * 2 ^ (slice_index ws x.b) % 2 ^ 64) x.mask else 0

abbrev pub shr_within : ℕ → Shr → Type 0
shr_within n x = (x.a < n) × (x.b < n)

abbrev pub shr_number : List ℕ → Shr → ℕ
shr_number ws x = shifted (slice_index ws x.a) (slice_index ws x.b)

abbrev pub sar_within : ℕ → Sar → Type 0
sar_within n x = (x.a < n) × (x.b < n)

abbrev pub sar_number : List ℕ → Sar → ℕ
sar_number ws x = if nat_le x.sign (slice_index ws x.a) then less x.mask (shifted (less x.mask (slice_index ws x.a)) (slice_index ws x.b)) else shifted (slice_index ws x.a) (slice_index ws x.b)

abbrev pub pick_within : ℕ → Pick → Type 0
pick_within n x = (x.test < n) × (x.a < n) × (x.b < n)

abbrev pub pick_number : List ℕ → Pick → ℕ
pick_number ws x = if nat_eq (slice_index ws x.test) 0 then slice_index ws x.b else slice_index ws x.a

abbrev pub slice_within : ℕ → Slice → Type 0
slice_within n x = (x.a < n) × (x.low < 64)

abbrev pub slice_number : List ℕ → Slice → ℕ
slice_number ws x = bit_and (slice_index ws x.a / 2 ^ x.low) x.mask

abbrev pub join_within : ℕ → Join → Type 0
join_within n x = (x.a < n) × (x.b < n) × (x.low < 64)

abbrev pub join_number : List ℕ → Join → ℕ
join_number ws x = bit_or (slice_index ws x.a * 2 ^ x.low % 2 ^ 64) (slice_index ws x.b)

abbrev pub extended_within : ℕ → Extended → Type 0
extended_within n x = x.a < n

abbrev pub extended_number : List ℕ → Extended → ℕ
extended_number ws x = slice_index ws x.a

abbrev pub sign_extended_within : ℕ → SignExtended → Type 0
sign_extended_within n x = x.a < n

abbrev pub sign_extended_number : List ℕ → SignExtended → ℕ
sign_extended_number ws x = if nat_le x.sign (slice_index ws x.a) then (slice_index ws x.a + x.fill) % 2 ^ 64 else slice_index ws x.a

abbrev pub known_within : ℕ → Known → Type 0
known_within n x = Unit {0}

abbrev pub known_number : List ℕ → Known → ℕ
known_number ws x = x.value
