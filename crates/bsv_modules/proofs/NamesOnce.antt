-- Names of which no two are one.
use Rattle.std.proofs.Common.{ℕ, ◌≡◌, Bool, true, false, not, ◌&&◌, ◌||◌, List, [], ◌∷◌, ◌++◌, refl, sym, ap, ◌∙◌}
use Rattle.std.specs.List.{list_all, list_any}
use Rattle.std.specs.Str.{bytes_eq}
use Rattle.std.proofs.lemmas.Bool.Decides.{same_from_decides}
use Rattle.std.proofs.lemmas.List.Folds.{list_any-append}
use Rattle.std.proofs.lemmas.Slice.Eq.{bytes_eq-Decides}
use Rattle.bsv_scopes.specs.Scopes.{is_listed}
use Rattle.bsv_types.specs.Names.{distinct}
use Rattle.bsv_modules.proofs.Distinct.{one_more}

-- none of the names came, and no two of them are one
abbrev pub behind : List (List ℕ) → List (List ℕ) → Bool
behind came [] = true
behind came (x ∷ xs) = not (is_listed x came) && behind (came ++ x ∷ []) xs

-- the names are not listed
abbrev apart : List (List ℕ) → List (List ℕ) → Bool
apart came xs = list_all (λ x. not (is_listed x came)) xs

same_back : (x y : List ℕ) → bytes_eq y x ≡ bytes_eq x y
same_back x y = same_from_decides _ _ (bytes_eq-Decides y x) (λ e. sym ((bytes_eq-Decides x y).0 e), λ e. (bytes_eq-Decides x y).1 (sym e))

or_none : (a b : Bool) → (a || (b || false)) ≡ (a || b)
or_none true b = refl
or_none false true = refl
or_none false false = refl

listed_more : (x y : List ℕ) (came : List (List ℕ)) → is_listed y (came ++ x ∷ []) ≡ (is_listed y came || bytes_eq x y)
listed_more x y came = list_any-append (bytes_eq y) came (x ∷ []) ∙ or_none (is_listed y came) (bytes_eq y x) ∙ ap (λ b. is_listed y came || b) (same_back x y)

apart_more : (came : List (List ℕ)) (x : List ℕ) (xs : List (List ℕ)) → apart (came ++ x ∷ []) xs ≡ (apart came xs && not (list_any (bytes_eq x) xs))
apart_more came x [] = refl
apart_more came x (y ∷ ys) =
    ap (λ b. not b && apart (came ++ x ∷ []) ys) (listed_more x y came)
    ∙ ap (λ b. not (is_listed y came || bytes_eq x y) && b) (apart_more came x ys)
    ∙ one_more (is_listed y came) (bytes_eq x y) (apart came ys) (list_any (bytes_eq x) ys)

in_order : (a b c d : Bool) → (not a && ((b && not c) && d)) ≡ ((not a && b) && (not c && d))
in_order true b c d = refl
in_order false true c d = refl
in_order false false c d = refl

after_is : (came xs : List (List ℕ)) → behind came xs ≡ (apart came xs && distinct xs)
after_is came [] = refl
after_is came (x ∷ xs) =
    ap (λ b. not (is_listed x came) && b) (after_is (came ++ x ∷ []) xs ∙ ap (λ b. b && distinct xs) (apart_more came x xs))
    ∙ in_order (is_listed x came) (apart came xs) (list_any (bytes_eq x) xs) (distinct xs)

apart_none : (xs : List (List ℕ)) → apart [] xs ≡ true
apart_none [] = refl
apart_none (x ∷ xs) = apart_none xs

pub after_start : (xs : List (List ℕ)) → behind [] xs ≡ distinct xs
after_start xs = after_is [] xs ∙ ap (λ b. b && distinct xs) (apart_none xs)

pub after_old : (came : List (List ℕ)) (x : List ℕ) (xs : List (List ℕ)) → not (is_listed x came) ≡ false → behind came (x ∷ xs) ≡ false
after_old came x xs old = ap (λ b. b && behind (came ++ x ∷ []) xs) old

pub after_new : (came : List (List ℕ)) (x : List ℕ) (xs : List (List ℕ)) → not (is_listed x came) ≡ true → behind came (x ∷ xs) ≡ behind (came ++ x ∷ []) xs
after_new came x xs new = ap (λ b. b && behind (came ++ x ∷ []) xs) new

pub ruleset distinguishing = (after_start, after_old, after_new)
