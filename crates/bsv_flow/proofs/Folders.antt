-- The folder of a name, one byte at a time.
use Rattle.std.proofs.Common.{◌≡◌, ℕ, ◌+◌, ◌<◌, ◌==◌, ◌||◌, Bool, true, false, if◌then◌else◌, List, [], ◌∷◌, ◌++◌, length, take, get_or, refl, ap, sym, ◌∙◌, arith}
use Rattle.std.proofs.lemmas.List.{take_more}
use Rattle.std.proofs.lemmas.List.Folds.{list_any-append}
use Rattle.std.specs.List.{list_any}
use Rattle.bsv_lemmas.proofs.Truths.{or_false, or_true}
use Rattle.bsv_flow.specs.LoadOrder.{is_slash, folder}

any_more : (xs : List ℕ) (b : ℕ) (is : Bool) → (b == 47) ≡ is → list_any is_slash (xs ++ b ∷ []) ≡ (list_any is_slash xs || is)
any_more xs b true e = list_any-append is_slash xs (b ∷ []) ∙ rw e refl
any_more xs b false e = list_any-append is_slash xs (b ∷ []) ∙ rw e refl

whole_folder : (xs : List ℕ) (b : ℕ) → (b == 47) ≡ true → folder (xs ++ b ∷ []) ≡ xs ++ b ∷ []
whole_folder [] b e = rw e refl
whole_folder (x ∷ xs) b e =
    let any : list_any is_slash ((x ∷ xs) ++ b ∷ []) ≡ true = any_more (x ∷ xs) b true e ∙ or_true (list_any is_slash (x ∷ xs)) in
    rw any (ap (λ ys. x ∷ ys) (whole_folder xs b e))

kept : (x b : ℕ) (xs : List ℕ) (p : Bool) → folder (xs ++ b ∷ []) ≡ folder xs → (if p then x ∷ folder (xs ++ b ∷ []) else []) ≡ (if p then x ∷ folder xs else [])
kept x b xs true e = ap (λ ys. x ∷ ys) e
kept x b xs false e = refl

same_folder : (xs : List ℕ) (b : ℕ) → (b == 47) ≡ false → folder (xs ++ b ∷ []) ≡ folder xs
same_folder [] b e = rw e refl
same_folder (x ∷ xs) b e =
    let any : list_any is_slash ((x ∷ xs) ++ b ∷ []) ≡ list_any is_slash (x ∷ xs) = any_more (x ∷ xs) b false e ∙ or_false (list_any is_slash (x ∷ xs)) in
    rw any (kept x b xs (list_any is_slash (x ∷ xs)) (same_folder xs b e))

is_it : (b : ℕ) → b ≡ 47 → (b == 47) ≡ true
is_it b e = rw e refl

is_not : (b : ℕ) → (b ≡ 47 → ⊥) → (b == 47) ≡ false
is_not b other = grind (arith, other)

-- a `/` makes all up to it the folder
pub folder_slash : (name : List ℕ) (i : ℕ) → i < length name → get_or name i 0 ≡ 47 → folder (take (i + 1) name) ≡ take (i + 1) name
folder_slash name i below e =
    let more : take (i + 1) name ≡ take i name ++ get_or name i 0 ∷ [] = take_more name i 0 below in
    ap folder more ∙ whole_folder (take i name) (get_or name i 0) (is_it (get_or name i 0) e) ∙ sym more

-- every other byte keeps it
pub folder_other : (name : List ℕ) (i : ℕ) → i < length name → (get_or name i 0 ≡ 47 → ⊥) → folder (take (i + 1) name) ≡ folder (take i name)
folder_other name i below other =
    let more : take (i + 1) name ≡ take i name ++ get_or name i 0 ∷ [] = take_more name i 0 below in
    ap folder more ∙ same_folder (take i name) (get_or name i 0) (is_not (get_or name i 0) other)
