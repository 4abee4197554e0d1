-- The digits of a number, from its last one on.
use Rattle.std.proofs.Common.{◌≡◌, ℕ, zero, suc, ◌+◌, ◌-◌, ◌*◌, ◌/◌, ◌%◌, ◌^◌, ◌<◌, ◌≤◌, List, [], ◌∷◌, ◌++◌, length, drop, set, refl, ap, sym, ◌∙◌, subst, arith, add-one, length-append}
use Rattle.std.proofs.Math.Nat.{div-div-eq-div-mul, div-one, pow-suc, pow-succ', mul-pos}
use Rattle.std.proofs.Math.Arith.{mod-mul}
use Rattle.std.proofs.lemmas.Nat.{div-mul-add, mod-mul-add, pow-add}
use Rattle.std.proofs.Math.ListN.{length-set}
use Rattle.std.proofs.lemmas.List.{append-nil, append_assoc, drop-set, drop-drop}
use Rattle.bsv_bits.specs.Constants.{hex_digits, hex_glyph}

pow-positive : (count : ℕ) → 0 < 16 ^ count
pow-positive zero = omega arith
pow-positive (suc count) = rw (pow-suc 16 count) (omega (arith, pow-positive count))

-- a digit less is a division more
div-pow_suc : (number count : ℕ) → number / 16 / 16 ^ count ≡ number / 16 ^ suc count
div-pow_suc number count = div-div-eq-div-mul number 16 (16 ^ count) ∙ ap (λ k. number / k) (sym (pow-succ' 16 count))

pub div-pow_suc_last : (number count : ℕ) → number / 16 ^ count / 16 ≡ number / 16 ^ (count + 1)
div-pow_suc_last number count = div-div-eq-div-mul number (16 ^ count) 16 ∙ ap (λ k. number / k) (sym (pow-suc 16 count) ∙ ap (λ k. 16 ^ k) (sym (add-one count)))

-- one digit more is in front
pub hex_digits-more : (count number : ℕ) → hex_digits (suc count) number ≡ hex_glyph (number / 16 ^ count % 16) ∷ hex_digits count number
hex_digits-more zero number = ap (λ k. hex_glyph (k % 16) ∷ []) (sym (div-one number))
hex_digits-more (suc count) number =
    ap (λ digits. digits ++ hex_glyph (number % 16) ∷ []) (hex_digits-more count (number / 16))
    ∙ ap (λ k. hex_glyph (k % 16) ∷ hex_digits (suc count) number) (div-pow_suc number count)

-- a turn writes the digit in front of those that are written
pub turn_written : (out : List ℕ) (turn left number : ℕ) → turn < length out → drop (length out - turn) out ≡ hex_digits turn number → left ≡ number / 16 ^ turn → (glyph : ℕ) → glyph ≡ hex_glyph (left % 16) → drop (length (set out (length out - 1 - turn) glyph) - (turn + 1)) (set out (length out - 1 - turn) glyph) ≡ hex_digits (turn + 1) number
turn_written out turn left number below written over glyph is =
    let place : length out - (turn + 1) ≡ length out - 1 - turn = omega arith in
    let within : length out - 1 - turn < length out = omega arith in
    let behind : length out - 1 - turn + 1 ≡ length out - turn = omega arith in
    rw (length-set, place) (rw (drop-set out (length out - 1 - turn) glyph within) (rw behind (rw (written, is, over) (rw add-one (sym (hex_digits-more turn number))))))

pub length-hex_digits : (count number : ℕ) → length (hex_digits count number) ≡ count
length-hex_digits zero number = refl
length-hex_digits (suc count) number = length-append (hex_digits count (number / 16)) _ ∙ omega (arith, length-hex_digits count (number / 16))

-- the last digits of what is left of a number after more of them are its own
pub hex_digits-modulo : (count more number : ℕ) → 0 < more → hex_digits count (number % (16 ^ count * more)) ≡ hex_digits count number
hex_digits-modulo zero more number some = refl
hex_digits-modulo (suc count) more number some =
    let m = 16 ^ count * more in
    let power : 16 ^ suc count ≡ 16 ^ count * 16 = pow-suc 16 count in
    let modulus : 16 ^ suc count * more ≡ m * 16 = rw power (omega arith) in
    let positive : 0 < m = mul-pos (pow-positive count) some in
    let low : number % 16 < 16 = omega arith in
    let parts : number % (16 ^ suc count * more) ≡ number / 16 % m * 16 + number % 16 =
    ap (λ k. number % k) modulus ∙ mod-mul number {m = m} {c = 16} positive (omega arith) in
    let front : number % (16 ^ suc count * more) / 16 ≡ number / 16 % m = ap (λ k. k / 16) parts ∙ div-mul-add (number / 16 % m) 16 (number % 16) low in
    let last : number % (16 ^ suc count * more) % 16 ≡ number % 16 = ap (λ k. k % 16) parts ∙ mod-mul-add (number / 16 % m) 16 (number % 16) low in
    ap (λ k. hex_digits count k ++ hex_glyph (number % (16 ^ suc count * more) % 16) ∷ []) front
    ∙ ap (λ k. hex_digits count (number / 16 % m) ++ hex_glyph k ∷ []) last
    ∙ ap (λ digits. digits ++ hex_glyph (number % 16) ∷ []) (hex_digits-modulo count more (number / 16) some)

-- at most sixteen digits are those of the last 64 bits
pub sixteen : (count number : ℕ) → count ≤ 16 → hex_digits count (number % 2 ^ 64) ≡ hex_digits count number
sixteen count number few =
    let rest : count + (16 - count) ≡ 16 = omega arith in
    let split : 16 ^ count * 16 ^ (16 - count) ≡ 2 ^ 64 = sym (pow-add 16 count (16 - count)) ∙ ap (λ k. 16 ^ k) rest in
    ap (λ k. hex_digits count (number % k)) (sym split) ∙ hex_digits-modulo count (16 ^ (16 - count)) number (pow-positive (16 - count))

-- digits are those in front and then the last ones
pub hex_digits-both : (count last number : ℕ) → hex_digits (count + last) number ≡ hex_digits count (number / 16 ^ last) ++ hex_digits last number
hex_digits-both count zero number =
    let same : count + 0 ≡ count = omega arith in
    ap (λ k. hex_digits k number) same ∙ ap (hex_digits count) (sym (div-one number)) ∙ sym (append-nil (hex_digits count (number / 1)))
hex_digits-both count (suc last) number =
    let more : count + suc last ≡ suc (count + last) = omega arith in
    ap (λ k. hex_digits k number) more
    ∙ ap (λ digits. digits ++ hex_glyph (number % 16) ∷ []) (hex_digits-both count last (number / 16))
    ∙ append_assoc (hex_digits count (number / 16 / 16 ^ last)) (hex_digits last (number / 16)) (hex_glyph (number % 16) ∷ [])
    ∙ ap (λ k. hex_digits count k ++ hex_digits (suc last) number) (div-pow_suc number last)

-- where two buffers are the same after one place, they are after each later one
pub same_after : (xs ys : List ℕ) (m n : ℕ) → drop m xs ≡ drop m ys → m ≤ n → drop n xs ≡ drop n ys
same_after xs ys m n same below =
    let sum : m + (n - m) ≡ n = omega arith in
    subst (λ (k : ℕ). drop k xs ≡ drop k ys) sum (sym (drop-drop (n - m) m xs) ∙ ap (drop (n - m)) same ∙ drop-drop (n - m) m ys)
