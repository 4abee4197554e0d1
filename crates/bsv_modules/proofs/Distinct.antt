-- Names that are seen one after the other.
use Rattle.std.proofs.Common.{ℕ, ◌≡◌, Bool, true, false, not, ◌&&◌, ◌||◌, List, [], ◌∷◌, ◌++◌, refl, ◌∙◌, sym, ap, if◌then◌else◌}
use Rattle.std.specs.List.{list_all, list_any}
use Rattle.std.specs.Str.{bytes_eq}
use Rattle.std.specs.Map.{keys_of}
use Rattle.std.proofs.lemmas.Slice.Eq.{bytes_eq-Decides}
use Rattle.std.proofs.lemmas.Bool.{false≢true}
use Rattle.std.proofs.lemmas.List.{map-append}
use Rattle.std.proofs.lemmas.Bool.Decides.{same_from_decides}
use Rattle.bsv_lemmas.proofs.Truths.{or_false}
use Rattle.bsv_ast.specs.Names.{is_lower}
use Rattle.bsv_scopes.specs.Scopes.{Entries, is_listed, with_name, with_new}
use Rattle.bsv_types.specs.Names.{distinct, lower_names}

-- whether none of these names came, and no two of them are one
abbrev pub are_new : List (List ℕ) → List (List ℕ) → Bool
are_new seen [] = true
are_new seen (x ∷ xs) = not (is_listed x seen) && are_new (seen ++ x ∷ []) xs

-- the same, and each is a Lower name
abbrev pub are_new_lower : List (List ℕ) → List (List ℕ) → Bool
are_new_lower seen [] = true
are_new_lower seen (x ∷ xs) = is_lower x && (not (is_listed x seen) && are_new_lower (seen ++ x ∷ []) xs)

bytes_turned : (xs ys : List ℕ) → bytes_eq xs ys ≡ bytes_eq ys xs
bytes_turned xs ys =
    let there = bytes_eq-Decides xs ys in
    let back = bytes_eq-Decides ys xs in
    same_from_decides (bytes_eq xs ys) (bytes_eq ys xs) there (λ e. sym (back.0 e), λ e. back.1 (sym e))

or_last : (a b c : Bool) → a || (b || c) ≡ (a || b) || c
or_last true b c = refl
or_last false b c = refl

listed_more : (y x : List ℕ) (seen : List (List ℕ)) → is_listed y (seen ++ x ∷ []) ≡ is_listed y seen || bytes_eq x y
listed_more y x [] = or_false (bytes_eq y x) ∙ bytes_turned y x
listed_more y x (z ∷ seen) = ap (λ b. bytes_eq y z || b) (listed_more y x seen) ∙ or_last (bytes_eq y z) (is_listed y seen) (bytes_eq x y)

abbrev none_listed : List (List ℕ) → List (List ℕ) → Bool
none_listed seen xs = list_all (λ y. not (is_listed y seen)) xs

pub one_more : (l b n m : Bool) → not (l || b) && (n && not m) ≡ (not l && n) && not (b || m)
one_more true b n m = refl
one_more false true true m = refl
one_more false true false m = refl
one_more false false n m = refl

none_more : (x : List ℕ) (seen xs : List (List ℕ)) → none_listed (seen ++ x ∷ []) xs ≡ none_listed seen xs && not (list_any (bytes_eq x) xs)
none_more x seen [] = refl
none_more x seen (y ∷ ys) =
    ap (λ b. not b && none_listed (seen ++ x ∷ []) ys) (listed_more y x seen)
    ∙ ap (λ b. not (is_listed y seen || bytes_eq x y) && b) (none_more x seen ys)
    ∙ one_more (is_listed y seen) (bytes_eq x y) (none_listed seen ys) (list_any (bytes_eq x) ys)

regrouped : (a b c d : Bool) → a && ((b && c) && d) ≡ (a && b) && (c && d)
regrouped true true c d = refl
regrouped true false c d = refl
regrouped false b c d = refl

new_is : (seen xs : List (List ℕ)) → are_new seen xs ≡ none_listed seen xs && distinct xs
new_is seen [] = refl
new_is seen (x ∷ xs) =
    ap (λ b. not (is_listed x seen) && b) (new_is (seen ++ x ∷ []) xs)
    ∙ ap (λ b. not (is_listed x seen) && (b && distinct xs)) (none_more x seen xs)
    ∙ regrouped (not (is_listed x seen)) (none_listed seen xs) (not (list_any (bytes_eq x) xs)) (distinct xs)

none_yet : (xs : List (List ℕ)) → none_listed [] xs ≡ true
none_yet [] = refl
none_yet (x ∷ xs) = none_yet xs

pub distinct_start : (xs : List (List ℕ)) → are_new [] xs ≡ distinct xs
distinct_start xs = new_is [] xs ∙ ap (λ b. b && distinct xs) (none_yet xs)

swapped : (a b c d : Bool) → a && (b && (c && d)) ≡ (a && c) && (b && d)
swapped true true c d = refl
swapped true false true d = refl
swapped true false false d = refl
swapped false b c d = refl

lower_is : (seen xs : List (List ℕ)) → are_new_lower seen xs ≡ list_all is_lower xs && are_new seen xs
lower_is seen [] = refl
lower_is seen (x ∷ xs) =
    ap (λ b. is_lower x && (not (is_listed x seen) && b)) (lower_is (seen ++ x ∷ []) xs)
    ∙ swapped (is_lower x) (not (is_listed x seen)) (list_all is_lower xs) (are_new (seen ++ x ∷ []) xs)

pub lower_start : (xs : List (List ℕ)) → are_new_lower [] xs ≡ lower_names xs
lower_start xs = lower_is [] xs ∙ ap (λ b. list_all is_lower xs && b) (distinct_start xs)

pub ruleset distinguishing = (distinct_start, lower_start)

-- a name more
with_one : {V : Type 0} (b : Bool) (name : List ℕ) (v : V) (es : Entries V) → not b ≡ true → keys_of (if b then es else with_name name v es) ≡ keys_of es ++ name ∷ []
with_one true name v es is = absurd (false≢true is)
with_one false name v es is = map-append (λ e. e.0) es ((name, v) ∷ [])

pub name_came : {V : Type 0} (name : List ℕ) (v : V) (es : Entries V) → not (is_listed name (keys_of es)) ≡ true → keys_of (with_new name v es) ≡ keys_of es ++ name ∷ []
name_came name v es is = with_one (is_listed name (keys_of es)) name v es is

pub ruleset coming = (name_came)
