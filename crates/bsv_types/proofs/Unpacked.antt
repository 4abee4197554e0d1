-- Packed fields are read back from their place.
use Rattle.std.proofs.Common.{◌≡◌, ◌∙◌, ℕ, zero, suc, ◌+◌, ◌*◌, ◌/◌, ◌%◌, ◌^◌, ◌<◌, ◌≤◌, List, [], ◌∷◌, drop, slice_get, Option, Some, None, refl, ap, sym, subst, arith}
use Rattle.std.proofs.lemmas.Nat.{pow_pos, pow-add, div-mul-add}
use Rattle.std.proofs.Math.Nat.{mul-le-mul_right, mod-eq_of_lt, mul-add-mod_self_right, mul-add-div_right, mul_assoc}
use Rattle.bsv_types.specs.Packing.{Bits, AllFit, bits_together, packed}

pub packed_below : (xs : List Bits) → AllFit xs → packed xs < 2 ^ bits_together xs
packed_below [] fit = omega arith
packed_below (x ∷ xs) fit =
    let rest : packed xs < 2 ^ bits_together xs = packed_below xs fit.1 in
    let power : 2 ^ (x.width + bits_together xs) ≡ 2 ^ x.width * 2 ^ bits_together xs = pow-add 2 x.width (bits_together xs) in
    let more : (x.number + 1) * 2 ^ bits_together xs ≤ 2 ^ x.width * 2 ^ bits_together xs = mul-le-mul_right (2 ^ bits_together xs) (omega (arith, fit.0)) in
    let split : (x.number + 1) * 2 ^ bits_together xs ≡ x.number * 2 ^ bits_together xs + 2 ^ bits_together xs = omega arith in
    omega arith

dropped : (y : Bits) (ys : List Bits) (k : ℕ) → drop (suc k + 1) (y ∷ ys) ≡ drop (k + 1) ys
dropped y ys k = let next : suc k + 1 ≡ suc (k + 1) = omega arith in ap (λ n. drop n (y ∷ ys)) next

-- the fields in front of one, and the rest
split_at : (xs : List Bits) (k : ℕ) (x : Bits) → slice_get xs k ≡ Some x → (front : ℕ) × (bits_together xs ≡ front + x.width + bits_together (drop (k + 1) xs))
split_at [] k x is = absurd cc
split_at (y ∷ ys) zero x is =
    let same : y.width ≡ x.width = ap width_of is in
    let none : bits_together (drop 0 ys) ≡ bits_together ys = refl in
    (0, omega (arith, same, none))
  where
    width_of : Option Bits → ℕ
    width_of None = 0
    width_of (Some z) = z.width
split_at (y ∷ ys) (suc k) x is =
    let s = split_at ys k x is in
    let next : bits_together (drop (suc k + 1) (y ∷ ys)) ≡ bits_together (drop (k + 1) ys) = ap bits_together (dropped y ys k) in
    (y.width + s.0, omega (arith, s.1, next))

-- a multiple of the power above the field does not change it
above : (n front width low rest : ℕ) → (n * 2 ^ (front + width + low) + rest) / 2 ^ low % 2 ^ width ≡ rest / 2 ^ low % 2 ^ width
above n front width low rest =
    let power : 2 ^ (front + width + low) ≡ 2 ^ front * 2 ^ width * 2 ^ low = pow-add 2 (front + width) low ∙ ap (λ m. m * 2 ^ low) (pow-add 2 front width) in
    let first : n * 2 ^ (front + width + low) ≡ n * (2 ^ front * 2 ^ width) * 2 ^ low = ap (λ m. n * m) power ∙ sym (mul_assoc n (2 ^ front * 2 ^ width) (2 ^ low)) in
    let second : n * (2 ^ front * 2 ^ width) ≡ n * 2 ^ front * 2 ^ width = sym (mul_assoc n (2 ^ front) (2 ^ width)) in
    ap (λ m. (m + rest) / 2 ^ low % 2 ^ width) first ∙ ap (λ m. m % 2 ^ width) (mul-add-div_right (pow_pos low) (n * (2 ^ front * 2 ^ width)) rest) ∙ ap (λ m. (m + rest / 2 ^ low) % 2 ^ width) second ∙ mul-add-mod_self_right (n * 2 ^ front) (2 ^ width) (rest / 2 ^ low)

pub field_back : (xs : List Bits) (k : ℕ) (x : Bits) → AllFit xs → slice_get xs k ≡ Some x → packed xs / 2 ^ bits_together (drop (k + 1) xs) % 2 ^ x.width ≡ x.number
field_back [] k x fit is = absurd cc
field_back (y ∷ ys) zero x fit is =
    subst (λ z. packed (y ∷ ys) / 2 ^ bits_together ys % 2 ^ z.width ≡ z.number) (some_bits y x is)
    (ap (λ m. m % 2 ^ y.width) (div-mul-add y.number (2 ^ bits_together ys) (packed ys) (packed_below ys fit.1)) ∙ mod-eq_of_lt fit.0)
  where
    some_bits : (a b : Bits) → Some a ≡ Some b → a ≡ b
    some_bits a b e = cc
field_back (y ∷ ys) (suc k) x fit is =
    let s = split_at ys k x is in
    let low = bits_together (drop (k + 1) ys) in
    ap (λ zs. packed (y ∷ ys) / 2 ^ bits_together zs % 2 ^ x.width) (dropped y ys k) ∙ ap (λ m. (y.number * 2 ^ m + packed ys) / 2 ^ low % 2 ^ x.width) s.1 ∙ above y.number s.0 x.width low (packed ys) ∙ field_back ys k x fit.1 is
