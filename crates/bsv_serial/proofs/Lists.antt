-- Lists, item by item.
use Rattle.std.proofs.Common.{◌≡◌, ◌∙◌, ℕ, ◌+◌, ◌<◌, List, ◌∷◌, ◌++◌, take, drop, length, get_or, Some, refl, sym, ap, subst}
use Rattle.std.specs.Prelude.{slice_get}
use Rattle.std.proofs.lemmas.List.{take-append-drop}
use Rattle.std.proofs.lemmas.Option.{slice_get_read}
use Rattle.bsv_lemmas.proofs.Places.{drop_one}

-- what an index reads is there
pub read_at : {X : Type 0} (xs ys : List X) (i : ℕ) (x : X) → xs ≡ ys → i < length ys → x ≡ get_or xs i x → slice_get ys i ≡ Some x
read_at xs ys i x are l e = slice_get_read ys (length ys) i x refl l (subst (λ zs. x ≡ get_or zs i x) are e)

pub item_at : {X : Type 0} (xs ys : List X) (i : ℕ) (x : X) → xs ≡ ys → i < length xs → x ≡ get_or xs i x → slice_get ys i ≡ Some x
item_at xs ys i x are l e = subst (λ zs. slice_get zs i ≡ Some x) are (slice_get_read xs (length xs) i x refl l e)

pub split_at : {X : Type 0} (xs : List X) (i : ℕ) (x : X) → slice_get xs i ≡ Some x → xs ≡ take i xs ++ x ∷ drop (i + 1) xs
split_at xs i x e = sym (take-append-drop i xs) ∙ ap (λ ys. take i xs ++ ys) (drop_one xs i x e)
