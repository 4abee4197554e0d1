-- Dotted names: Lower names joined by dots tell the names, since no Lower name has a dot. So a path and a name in it are told
-- by their text, and paths are one where their texts are.
use Rattle.std.proofs.Common.{◌≡◌, ◌∙◌, ℕ, true, List, [], ◌∷◌, ◌++◌, refl, sym, ap, subst, if◌then◌else◌}
use Rattle.std.specs.Prelude.{◌==◌}
use Rattle.std.specs.List.{list_all}
use Rattle.std.proofs.lemmas.Bool.{and_parts, and_from, ne_eqb, cond-false}
use Rattle.std.proofs.lemmas.List.{append-nil, append_assoc, same_from_push}
use Rattle.std.proofs.lemmas.List.Folds.{list_all-append}
use Rattle.bsv_ast.specs.Names.{is_word, is_lower}
use Rattle.bsv_ast.proofs.Names.{word_no_dot, lower_words, lower_some}
use Rattle.bsv_design.specs.design.Designs.{IsDotted}
use Rattle.bsv_design.specs.design.Paths.{with_dot}
use Rattle.bsv_design.specs.design.Paths.{joined, IsPath}

-- ---- lists of Lower names

abbrev pub AreLower : List (List ℕ) → Type 0
AreLower names = list_all is_lower names ≡ true

pub lower_both : (xs ys : List (List ℕ)) → AreLower xs → AreLower ys → AreLower (xs ++ ys)
lower_both xs ys h g = list_all-append is_lower xs ys ∙ and_from (list_all is_lower xs) (list_all is_lower ys) h g

pub lower_parted : (xs ys : List (List ℕ)) → AreLower (xs ++ ys) → (AreLower xs) × (AreLower ys)
lower_parted xs ys h = and_parts (list_all is_lower xs) (list_all is_lower ys) (sym (list_all-append is_lower xs ys) ∙ h)

lower_one : (name : List ℕ) → is_lower name ≡ true → AreLower (name ∷ [])
lower_one name lower = and_from (is_lower name) true lower refl

lower_more : (names : List (List ℕ)) (name : List ℕ) → AreLower names → is_lower name ≡ true → AreLower (names ++ name ∷ [])
lower_more names name h lower = lower_both names (name ∷ []) h (lower_one name lower)

-- ---- the pieces of a text, between its dots

abbrev before_all : ℕ → List (List ℕ) → List (List ℕ)
before_all b [] = (b ∷ []) ∷ []
before_all b (piece ∷ others) = (b ∷ piece) ∷ others

abbrev pieces : List ℕ → List (List ℕ)
pieces [] = [] ∷ []
pieces (b ∷ bytes) = if b == 46 then [] ∷ pieces bytes else before_all b (pieces bytes)

pieces_alone : (name : List ℕ) → list_all is_word name ≡ true → pieces name ≡ name ∷ []
pieces_alone [] h = refl
pieces_alone (b ∷ bytes) h =
    let p = and_parts (is_word b) (list_all is_word bytes) h in
    cond-false (b == 46) ([] ∷ pieces bytes) (before_all b (pieces bytes)) (ne_eqb b 46 (word_no_dot b p.0))
    ∙ ap (before_all b) (pieces_alone bytes p.1)

pieces_first : (name rest : List ℕ) → list_all is_word name ≡ true → pieces (name ++ 46 ∷ rest) ≡ name ∷ pieces rest
pieces_first [] rest h = refl
pieces_first (b ∷ bytes) rest h =
    let p = and_parts (is_word b) (list_all is_word bytes) h in
    cond-false (b == 46) ([] ∷ pieces (bytes ++ 46 ∷ rest)) (before_all b (pieces (bytes ++ 46 ∷ rest))) (ne_eqb b 46 (word_no_dot b p.0))
    ∙ ap (before_all b) (pieces_first bytes rest p.1)

pieces_joined : (x : List ℕ) (xs : List (List ℕ)) → AreLower (x ∷ xs) → pieces (joined (x ∷ xs)) ≡ x ∷ xs
pieces_joined x [] h = pieces_alone x (lower_words x (and_parts (is_lower x) true h).0)
pieces_joined x (y ∷ ys) h =
    let p = and_parts (is_lower x) (list_all is_lower (y ∷ ys)) h in
    pieces_first x (joined (y ∷ ys)) (lower_words x p.0) ∙ ap (λ (zs : List (List ℕ)). x ∷ zs) (pieces_joined y ys p.1)

-- ---- names joined by dots tell the names

joined_some : (x : List ℕ) (xs : List (List ℕ)) → AreLower (x ∷ xs) → joined (x ∷ xs) ≡ [] → ⊥
joined_some x [] h e = lower_some x [] (and_parts (is_lower x) true h).0 (append-nil x ∙ e)
joined_some x (y ∷ ys) h e = lower_some x (46 ∷ joined (y ∷ ys)) (and_parts (is_lower x) (list_all is_lower (y ∷ ys)) h).0 e

pub joined_same : (xs ys : List (List ℕ)) → AreLower xs → AreLower ys → joined xs ≡ joined ys → xs ≡ ys
joined_same [] [] p q e = refl
joined_same [] (y ∷ ys) p q e = absurd (joined_some y ys q (sym e))
joined_same (x ∷ xs) [] p q e = absurd (joined_some x xs p e)
joined_same (x ∷ xs) (y ∷ ys) p q e = sym (pieces_joined x xs p) ∙ ap pieces e ∙ pieces_joined y ys q

-- ---- a name in a path

joined_more : (x : List ℕ) (xs : List (List ℕ)) (name : List ℕ) → joined ((x ∷ xs) ++ name ∷ []) ≡ joined (x ∷ xs) ++ 46 ∷ name
joined_more x [] name = refl
joined_more x (y ∷ ys) name =
    ap (λ (z : List ℕ). x ++ 46 ∷ z) (joined_more y ys name) ∙ sym (append_assoc x (46 ∷ joined (y ∷ ys)) (46 ∷ name))

with_dot_is : (path name : List ℕ) → (path ≡ [] → ⊥) → with_dot path name ≡ path ++ 46 ∷ name
with_dot_is [] name some = absurd (some refl)
with_dot_is (b ∷ path) name some = refl

pub path_is : (names : List (List ℕ)) (name : List ℕ) → AreLower names → with_dot (joined names) name ≡ joined (names ++ name ∷ [])
path_is [] name h = refl
path_is (x ∷ xs) name h = with_dot_is (joined (x ∷ xs)) name (joined_some x xs h) ∙ sym (joined_more x xs name)

name_in_path : (path name : List ℕ) (p : IsPath path) → with_dot path name ≡ joined (p.names ++ name ∷ [])
name_in_path path name p = ap (λ (z : List ℕ). with_dot z name) p.is ∙ path_is p.names name p.lower

dotted_more : (names : List (List ℕ)) (name : List ℕ) → AreLower names → is_lower name ≡ true → IsDotted (joined (names ++ name ∷ []))
dotted_more [] name h lower = record { first = name; rest = []; lower = lower_one name lower; is = refl }
dotted_more (x ∷ xs) name h lower = record { first = x; rest = xs ++ name ∷ []; lower = lower_more (x ∷ xs) name h lower; is = refl }

-- it is names joined by dots
pub dotted_in : (path name : List ℕ) → IsPath path → is_lower name ≡ true → IsDotted (with_dot path name)
dotted_in path name p lower = subst IsDotted (sym (name_in_path path name p)) (dotted_more p.names name p.lower lower)

-- and it tells the path and the name
pub told_apart : (p q a b : List ℕ) → IsPath p → IsPath q → is_lower a ≡ true → is_lower b ≡ true → with_dot p a ≡ with_dot q b → (p ≡ q) × (a ≡ b)
told_apart p q a b f g lower other same =
    let texts = sym (name_in_path p a f) ∙ same ∙ name_in_path q b g in
    let first = lower_more f.names a f.lower lower in
    let second = lower_more g.names b g.lower other in
    let names = joined_same (f.names ++ a ∷ []) (g.names ++ b ∷ []) first second texts in
    let parts = same_from_push f.names g.names a b names in
    (f.is ∙ ap joined parts.0 ∙ sym g.is, parts.1)

-- ---- paths

pub top_path : IsPath []
top_path = record { names = []; lower = refl; is = refl }

-- a path that is not the top's
pub dotted_path : (path : List ℕ) → IsPath path → (path ≡ [] → ⊥) → IsDotted path
dotted_path path p other = by p.names p.lower p.is where
  by : (names : List (List ℕ)) → AreLower names → path ≡ joined names → IsDotted path
  by [] lower is = absurd (other is)
  by (x ∷ xs) lower is = record { first = x; rest = xs; lower = lower; is = is }
