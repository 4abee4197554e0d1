-- The labels of an enum, one by one.
use Rattle.std.proofs.Common.{◌≡◌, ◌∙◌, ℕ, ◌+◌, ◌<◌, Bool, true, false, cond, not, inl, inr, List, [], ◌∷◌, ◌++◌, length, Some, refl, ap, subst, arith}
use Rattle.std.specs.List.{list_all}
use Rattle.std.specs.Str.{bytes_eq}
use Rattle.std.proofs.lemmas.List.Folds.{list_any-append}
use Rattle.std.proofs.lemmas.Bool.{and_parts, and_from, or_from, not-true, not_from_false}
use Rattle.bsv_ast.specs.declared.text.Ident.{Ident}
use Rattle.bsv_types.specs.Names.{distinct}
use Rattle.bsv_scopes.specs.Scopes.{Entries, found, is_defined, is_listed, with_name, with_new}
use Rattle.bsv_modules.specs.Programs.{names_of, with_labels}
use Rattle.bsv_modules.proofs.Entries.{found_more, not_listed, defined_more, defined_now}

-- ---- what labels stand for

module _ (P : ℕ × ℕ → Type 0) where
  abbrev AllHold : Entries (ℕ × ℕ) → Type 0
  AllHold es = (name : List ℕ) (l : ℕ × ℕ) → found name es ≡ Some l → P l

  new_holds : (m : List ℕ) (v : ℕ × ℕ) (es : Entries (ℕ × ℕ)) → AllHold es → P v → AllHold (with_new m v es)
  new_holds m v es all holds = by (is_defined m es) where
    by : (b : Bool) → AllHold (cond b es (with_name m v es))
    by true = all
    by false = λ name l e. elim (found_more name m v l es e) [
      | inl before ↦ all name l before
      | inr same ↦ subst P same holds
    ]

  pub labels_hold : (of_enum first : ℕ) (xs : List Ident) (es : Entries (ℕ × ℕ)) → AllHold es → ((i : ℕ) → i < first + length xs → P (of_enum, i)) → AllHold (with_labels of_enum first xs es)
  labels_hold of_enum first [] es all holds = all
  labels_hold of_enum first (x ∷ xs) es all holds =
      labels_hold of_enum (first + 1) xs (with_new x.name (of_enum, first) es) (new_holds x.name (of_enum, first) es all (holds first (omega arith)))
      (λ i lt. holds i (omega (arith, lt)))

-- ---- which labels are defined

new_more : (name m : List ℕ) (v : ℕ × ℕ) (es : Entries (ℕ × ℕ)) → is_defined name es ≡ true → is_defined name (with_new m v es) ≡ true
new_more name m v es e = by (is_defined m es) where
  by : (b : Bool) → is_defined name (cond b es (with_name m v es)) ≡ true
  by true = e
  by false = defined_more name m v es e

new_now : (m : List ℕ) (v : ℕ × ℕ) (es : Entries (ℕ × ℕ)) → is_defined m (with_new m v es) ≡ true
new_now m v es = by (is_defined m es) refl where
  by : (b : Bool) → is_defined m es ≡ b → is_defined m (cond b es (with_name m v es)) ≡ true
  by true is = is
  by false is = defined_now m v es

pub labels_more : (name : List ℕ) (of_enum first : ℕ) (xs : List Ident) (es : Entries (ℕ × ℕ)) → is_defined name es ≡ true → is_defined name (with_labels of_enum first xs es) ≡ true
labels_more name of_enum first [] es e = e
labels_more name of_enum first (x ∷ xs) es e = labels_more name of_enum (first + 1) xs (with_new x.name (of_enum, first) es) (new_more name x.name (of_enum, first) es e)

pub all_more : (ns : List (List ℕ)) (of_enum first : ℕ) (xs : List Ident) (es : Entries (ℕ × ℕ)) → list_all (λ n. is_defined n es) ns ≡ true → list_all (λ n. is_defined n (with_labels of_enum first xs es)) ns ≡ true
all_more [] of_enum first xs es e = refl
all_more (n ∷ ns) of_enum first xs es e =
    let h = and_parts (is_defined n es) (list_all (λ n. is_defined n es) ns) e in
    and_from (is_defined n (with_labels of_enum first xs es)) (list_all (λ n. is_defined n (with_labels of_enum first xs es)) ns) (labels_more n of_enum first xs es h.0) (all_more ns of_enum first xs es h.1)

pub labels_defined : (of_enum first : ℕ) (xs : List Ident) (es : Entries (ℕ × ℕ)) → list_all (λ n. is_defined n (with_labels of_enum first xs es)) (names_of xs) ≡ true
labels_defined of_enum first [] es = refl
labels_defined of_enum first (x ∷ xs) es =
    let inner = with_new x.name (of_enum, first) es in
    and_from (is_defined x.name (with_labels of_enum (first + 1) xs inner)) (list_all (λ n. is_defined n (with_labels of_enum (first + 1) xs inner)) (names_of xs))
    (labels_more x.name of_enum (first + 1) xs inner (new_now x.name (of_enum, first) es)) (labels_defined of_enum (first + 1) xs inner)

-- ---- no two labels are one

pub joined : (p : List ℕ → Bool) (xs ys : List (List ℕ)) → list_all p xs ≡ true → list_all (λ y. not (p y)) ys ≡ true → distinct xs ≡ true → distinct ys ≡ true → distinct (xs ++ ys) ≡ true
joined p [] ys all none d e = e
joined p (x ∷ xs) ys all none d e =
    let h = and_parts (p x) (list_all p xs) all in
    let q = and_parts (not (is_listed x xs)) (distinct xs) d in
    and_from (not (is_listed x (xs ++ ys))) (distinct (xs ++ ys))
    (not_from_false (is_listed x (xs ++ ys)) (list_any-append (bytes_eq x) xs ys ∙ or_from (is_listed x xs) (is_listed x ys) (not-true (is_listed x xs) q.0) (not_listed (λ y. not (p y)) x ys none (ap not h.0))))
    (joined p xs ys h.1 none q.1 e)
