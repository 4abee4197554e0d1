-- Pieces of a line: digits in front, and pieces with a byte between each two.
use Rattle.std.proofs.Common.{◌≡◌, ◌∙◌, ℕ, zero, suc, ◌+◌, ◌<◌, ◌==◌, Bool, true, false, cond, ◌&&◌, IsTrue, List, [], ◌∷◌, ◌++◌, length, take, slice_set, Option, Some, None, if◌then◌else◌, refl, sym, ap, append_assoc, append-nil, arith, codes}
use Rattle.std.specs.List.{list_all, prefix_len, join_with_byte}
use Rattle.bsv_trace.specs.Reading.{behind}

-- ---- what passes a test in front

module _ (p : ℕ → Bool) where
  all_if : (x : ℕ) (xs : List ℕ) (b : Bool) → p x ≡ b → list_all p (take (prefix_len p xs) xs) ≡ true → list_all p (take (cond b (1 + prefix_len p xs) 0) (x ∷ xs)) ≡ true
  all_if x xs true e others = ap (λ n. list_all p (take n (x ∷ xs))) (next (prefix_len p xs)) ∙ ap (λ b. b && list_all p (take (prefix_len p xs) xs)) e ∙ others
    where
      next : (n : ℕ) → 1 + n ≡ suc n
      next n = omega arith
  all_if x xs false e others = refl

  pub all_in_front : (xs : List ℕ) → list_all p (take (prefix_len p xs) xs) ≡ true
  all_in_front [] = refl
  all_in_front (x ∷ xs) = all_if x xs (p x) refl (all_in_front xs)

  front_if : (x : ℕ) (front rest : List ℕ) (b : Bool) → p x ≡ b → (b && list_all p front) ≡ true → (IsTrue (list_all p front) → prefix_len p rest ≡ length front)
      → cond b (1 + prefix_len p rest) 0 ≡ suc (length front)
  front_if x front rest true e all others = next (prefix_len p rest) ∙ ap suc (others all)
    where
      next : (n : ℕ) → 1 + n ≡ suc n
      next n = omega arith
  front_if x front rest false e all others = absurd cc

  -- the front of a text whose next byte does not pass
  pub front_len : (front more : List ℕ) (mark : ℕ) → IsTrue (list_all p front) → p mark ≡ false → prefix_len p (front ++ mark ∷ more) ≡ length front
  front_len [] more mark all stops = ap (λ b. cond b (1 + prefix_len p more) 0) stops
  front_len (x ∷ front) more mark all stops = front_if x front (front ++ mark ∷ more) (p x) refl all (λ others. front_len front more mark others stops)

-- ---- the byte in front

by_mark : (xs rest : List ℕ) (t : Bool) → ◌≡◌ {A = Option (List ℕ)} (if t then Some xs else None) (Some rest) → (t ≡ true) × (xs ≡ rest)
by_mark xs rest true e = (refl, cc)
by_mark xs rest false e = absurd cc

pub after_is : (mark : ℕ) (bytes rest : List ℕ) → behind mark bytes ≡ Some rest → bytes ≡ mark ∷ rest
after_is mark [] rest e = absurd cc
after_is mark (b ∷ bytes) rest e =
    let both = by_mark bytes rest (b == mark) e in
    let same : b ≡ mark = grind (arith, both.0) in
    cc

pub after_mark : (mark : ℕ) (rest : List ℕ) → behind mark (mark ∷ rest) ≡ Some rest
after_mark mark rest =
    let same : (mark == mark) ≡ true = grind arith in
    ap (λ b. if b then Some rest else None) same

-- ---- pieces with a byte between each two

-- each piece after the byte
abbrev pub led : ℕ → List (List ℕ) → List ℕ
led mark [] = []
led mark (t ∷ ts) = (mark ∷ t) ++ led mark ts

pub join_first : (mark : ℕ) (t : List ℕ) (ts : List (List ℕ)) → join_with_byte mark (t ∷ ts) ≡ t ++ led mark ts
join_first mark t [] = sym (append-nil t)
join_first mark t (u ∷ ts) = ap (λ rest. t ++ mark ∷ rest) (join_first mark u ts)

-- ---- a word in its place

pub take_placed : {A : Type 0} (xs : List A) (n : ℕ) (x : A) → n < length xs → take (suc n) (slice_set xs n x) ≡ take n xs ++ x ∷ []
take_placed [] n x below = absurd (omega arith)
take_placed (y ∷ ys) zero x below = refl
take_placed (y ∷ ys) (suc n) x below =
    let less : n < length ys = omega arith in
    ap (λ zs. y ∷ zs) (take_placed ys n x less)

-- ---- the text of a call

pub call_text : (name inner rest : List ℕ) → name ++ 40 ∷ (inner ++ 41 ∷ rest) ≡ (name ++ codes "(" ++ inner ++ codes ")") ++ rest
call_text name inner rest = sym (simp append_assoc)
