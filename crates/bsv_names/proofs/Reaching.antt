-- Of the names of a scope only so many count, in the order in which they were defined.
use Rattle.std.proofs.Common.{ℕ, zero, suc, ◌≡◌, ◌+◌, Bool, true, false, ◌||◌, nat_lt, List, [], ◌∷◌, length, take, Option, Some, None, option_map, refl, sym, ap, ◌∙◌, if◌then◌else◌, arith}
use Rattle.std.proofs.lemmas.Grind.{common_steps}
use Rattle.std.specs.Str.{bytes_eq}
use Rattle.std.specs.Map.{keys_of}
use Rattle.bsv_scopes.specs.Scopes.{Entries, is_listed, number_of}

abbrev below : ℕ → Option ℕ → Bool
below n None = false
below n (Some k) = nat_lt k n

next_below : (n k : ℕ) → nat_lt k n ≡ nat_lt (k + 1) (suc n)
next_below n k = grind (arith, common_steps)

none_below : (k : ℕ) → false ≡ nat_lt k 0
none_below k = grind (arith, common_steps)

below_next : (n : ℕ) (o : Option ℕ) → below n o ≡ below (suc n) (option_map (λ k. k + 1) o)
below_next n None = refl
below_next n (Some k) = next_below n k

nothing_below : (o : Option ℕ) → false ≡ below 0 o
nothing_below None = refl
nothing_below (Some k) = none_below k

first_below : (n : ℕ) → true ≡ nat_lt 0 (suc n)
first_below n = grind (arith, common_steps)

by_name : (b : Bool) (n : ℕ) (c : Bool) (o : Option ℕ) → c ≡ below n o → (b || c) ≡ below (suc n) (if b then Some 0 else option_map (λ k. k + 1) o)
by_name true n c o h = first_below n
by_name false n c o h = h ∙ below_next n o

all_taken : (xs : List (List ℕ)) → take (length xs) xs ≡ xs
all_taken [] = refl
all_taken (x ∷ xs) = ap (λ ys. x ∷ ys) (all_taken xs)

module _ {V : Type 0} where
  reached_by : (name : List ℕ) (es : Entries V) (n : ℕ) → is_listed name (take n (keys_of es)) ≡ below n (number_of name es)
  reached_by name es zero = nothing_below (number_of name es)
  reached_by name [] (suc n) = refl
  reached_by name (e ∷ es) (suc n) = by_name (bytes_eq name e.0) n (is_listed name (take n (keys_of es))) (number_of name es) (reached_by name es n)

  pub counted : (es : Entries V) → length (keys_of es) ≡ length es
  counted [] = refl
  counted (e ∷ es) = ap suc (counted es)

  pub whole : (es : Entries V) → take (length es) (keys_of es) ≡ keys_of es
  whole es = ap (λ n. take n (keys_of es)) (sym (counted es)) ∙ all_taken (keys_of es)

  pub reached_number : (name : List ℕ) (es : Entries V) (n k : ℕ) → number_of name es ≡ Some k → is_listed name (take n (keys_of es)) ≡ nat_lt k n
  reached_number name es n k h = reached_by name es n ∙ ap (below n) h

  pub reached_none : (name : List ℕ) (es : Entries V) (n : ℕ) → number_of name es ≡ None → is_listed name (take n (keys_of es)) ≡ false
  reached_none name es n h = reached_by name es n ∙ ap (below n) h

pub ruleset counts = (counted)

pub ruleset reaches = (counted, whole, reached_number, reached_none)
