-- Lists of known length.
use Rattle.std.proofs.Common.{◌≡◌, ℕ, Bool, true, false, not, List, [], ◌∷◌, length, get_or, refl, arith}
use Rattle.std.specs.Str.{bytes_eq}
use Rattle.std.proofs.lemmas.Slice.Eq.{bytes_eq-Decides}

-- a list of two has its items
pub two_items : {A : Type 0} (xs : List A) (a b : A) → length xs ≡ 2 → a ≡ get_or xs 0 a → b ≡ get_or xs 1 b → xs ≡ a ∷ b ∷ []
two_items [] a b len first second = absurd (omega (arith, len))
two_items (p ∷ []) a b len first second = absurd (omega (arith, len))
two_items (p ∷ q ∷ []) a b len first second = cc
two_items (p ∷ q ∷ r ∷ rest) a b len first second = absurd (omega (arith, len))

-- a list of three has its items
pub three_items : {A : Type 0} (xs : List A) (a b c : A) → length xs ≡ 3 → a ≡ get_or xs 0 a → b ≡ get_or xs 1 b → c ≡ get_or xs 2 c → xs ≡ a ∷ b ∷ c ∷ []
three_items [] a b c len first second third = absurd (omega (arith, len))
three_items (p ∷ []) a b c len first second third = absurd (omega (arith, len))
three_items (p ∷ q ∷ []) a b c len first second third = absurd (omega (arith, len))
three_items (p ∷ q ∷ r ∷ []) a b c len first second third = cc
three_items (p ∷ q ∷ r ∷ s ∷ rest) a b c len first second third = absurd (omega (arith, len))

-- lists of two with the same items
pub same_two : {A : Type 0} (a b x y : A) → a ≡ x → b ≡ y → a ∷ b ∷ [] ≡ x ∷ y ∷ []
same_two a b x y first second = cc

-- lists of three with the same items
pub same_three : {A : Type 0} (a b c x y z : A) → a ≡ x → b ≡ y → c ≡ z → a ∷ b ∷ c ∷ [] ≡ x ∷ y ∷ z ∷ []
same_three a b c x y z first second third = cc

-- a list of four has its items
pub four_items : {A : Type 0} (xs : List A) (a b c d : A) → length xs ≡ 4 → a ≡ get_or xs 0 a → b ≡ get_or xs 1 b → c ≡ get_or xs 2 c → d ≡ get_or xs 3 d → xs ≡ a ∷ b ∷ c ∷ d ∷ []
four_items [] a b c d len first second third fourth = absurd (omega (arith, len))
four_items (p ∷ []) a b c d len first second third fourth = absurd (omega (arith, len))
four_items (p ∷ q ∷ []) a b c d len first second third fourth = absurd (omega (arith, len))
four_items (p ∷ q ∷ r ∷ []) a b c d len first second third fourth = absurd (omega (arith, len))
four_items (p ∷ q ∷ r ∷ s ∷ []) a b c d len first second third fourth = cc
four_items (p ∷ q ∷ r ∷ s ∷ t ∷ rest) a b c d len first second third fourth = absurd (omega (arith, len))

-- a text that is not another than one is that one
pub text_is : (text one : List ℕ) → false ≡ not (bytes_eq text one) → text ≡ one
text_is text one h = by (bytes_eq text one) refl h
  where
    by : (b : Bool) → bytes_eq text one ≡ b → false ≡ not b → text ≡ one
    by true same h = (bytes_eq-Decides text one).0 same
    by false same h = absurd (let no_value : ⊥ = cc in no_value)
