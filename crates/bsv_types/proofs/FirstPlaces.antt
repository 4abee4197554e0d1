-- A map from names to places that is filled from the last method on.
use Rattle.std.proofs.Common.{ℕ, suc, ◌≡◌, ◌+◌, Bool, true, false, cond, List, [], ◌∷◌, ◌++◌, length, Option, Some, None, refl, sym, ap, ◌∙◌, true≢false, arith, if◌then◌else◌}
use Rattle.std.proofs.lemmas.Slice.Eq.{bytes_eq-Decides}
use Rattle.std.specs.Option.{option_or}
use Rattle.std.specs.Str.{bytes_eq}
use Rattle.std.specs.Map.{lookup}
use Rattle.indexmap.specs.IndexMap.{insert_entry}
use Rattle.bsv_types.specs.declared.definitions.MethodHeader.{MethodHeader}
use Rattle.bsv_types.specs.Named.{place_from, place_of}

-- keys that are told apart by their bytes
module _ {K : Type 0} (bytes : K → List ℕ) where
  abbrev pub finds : List ℕ → List (K × ℕ) → Option ℕ
  finds name es = lookup (λ k. bytes_eq name (bytes k)) es

  abbrev same : K → K → Bool
  same a b = bytes_eq (bytes a) (bytes b)

  taken : (name : List ℕ) (e : K × ℕ) (k : K) (v : ℕ) (o : Option ℕ) → bytes k ≡ bytes e.0 →
      cond (bytes_eq name (bytes e.0)) (Some v) o ≡ cond (bytes_eq name (bytes k)) (Some v) (cond (bytes_eq name (bytes e.0)) (Some e.1) o)
  taken name e k v o h = rw h (by (bytes_eq name (bytes e.0))) where
    by : (b : Bool) → cond b (Some v) o ≡ cond b (Some v) (cond b (Some e.1) o)
    by true = refl
    by false = refl

  passed : (name : List ℕ) (e : K × ℕ) (k : K) (v : ℕ) (o : Option ℕ) → same k e.0 ≡ false →
      cond (bytes_eq name (bytes e.0)) (Some e.1) (cond (bytes_eq name (bytes k)) (Some v) o) ≡ cond (bytes_eq name (bytes k)) (Some v) (cond (bytes_eq name (bytes e.0)) (Some e.1) o)
  passed name e k v o apart = by (bytes_eq name (bytes e.0)) (bytes_eq name (bytes k)) refl refl where
    by : (b c : Bool) → bytes_eq name (bytes e.0) ≡ b → bytes_eq name (bytes k) ≡ c → cond b (Some e.1) (cond c (Some v) o) ≡ cond c (Some v) (cond b (Some e.1) o)
    by false c p q = refl
    by true false p q = refl
    by true true p q =
        let one : bytes k ≡ bytes e.0 = sym ((bytes_eq-Decides name (bytes k)).0 q) ∙ (bytes_eq-Decides name (bytes e.0)).0 p in
        absurd (true≢false (sym ((bytes_eq-Decides (bytes k) (bytes e.0)).1 one) ∙ apart))

  -- what is put in is found, and everything else as before
  pub found_new : (name : List ℕ) (es : List (K × ℕ)) (k : K) (v : ℕ) →
      finds name (insert_entry same es k v) ≡ cond (bytes_eq name (bytes k)) (Some v) (finds name es)
  found_new name [] k v = refl
  found_new name (e ∷ es) k v = by (found_new name es k v) (same k e.0) refl where
    by : finds name (insert_entry same es k v) ≡ cond (bytes_eq name (bytes k)) (Some v) (finds name es) → (b : Bool) → same k e.0 ≡ b →
        finds name (cond b ((e.0, v) ∷ es) (e ∷ insert_entry same es k v)) ≡ cond (bytes_eq name (bytes k)) (Some v) (finds name (e ∷ es))
    by rest true h = taken name e k v (finds name es) ((bytes_eq-Decides (bytes k) (bytes e.0)).0 h)
    by rest false h = ap (cond (bytes_eq name (bytes e.0)) (Some e.1)) rest ∙ passed name e k v (finds name es) h

-- where the list before the last one has no place, the last one may
last_from : (number : ℕ) (name : List ℕ) (front : List MethodHeader) (last : MethodHeader) (o : Option ℕ) →
    option_or (place_from number name (front ++ last ∷ [])) o ≡ option_or (place_from number name front) (cond (bytes_eq name last.name) (Some (length front + number)) o)
last_from number name [] last o = by (bytes_eq name last.name) where
  none : number ≡ 0 + number
  none = omega arith

  by : (b : Bool) → option_or (if b then Some number else None) o ≡ cond b (Some (0 + number)) o
  by true = ap Some none
  by false = refl
last_from number name (h ∷ hs) last o = by (last_from (number + 1) name hs last o) (bytes_eq name h.name) where
  place : length hs + (number + 1) ≡ suc (length hs) + number
  place = omega arith

  by : option_or (place_from (number + 1) name (hs ++ last ∷ [])) o ≡
      option_or (place_from (number + 1) name hs) (cond (bytes_eq name last.name) (Some (length hs + (number + 1))) o) → (b : Bool) →
      option_or (if b then Some number else place_from (number + 1) name (hs ++ last ∷ [])) o ≡
      option_or (if b then Some number else place_from (number + 1) name hs) (cond (bytes_eq name last.name) (Some (suc (length hs) + number)) o)
  by rest true = refl
  by rest false = rest ∙ ap (λ n. option_or (place_from (number + 1) name hs) (cond (bytes_eq name last.name) (Some n) o)) place

last_place : (name : List ℕ) (front : List MethodHeader) (last : MethodHeader) (o : Option ℕ) →
    option_or (place_of name (front ++ last ∷ [])) o ≡ option_or (place_of name front) (cond (bytes_eq name last.name) (Some (length front)) o)
last_place name front last o =
    let none : length front + 0 ≡ length front = omega arith in
    last_from 0 name front last o ∙ ap (λ n. option_or (place_of name front) (cond (bytes_eq name last.name) (Some n) o)) none

-- one turn: the last of the rest is put in
pub turned : {K : Type 0} (bytes : K → List ℕ) (name : List ℕ) (es fs : List (K × ℕ)) (k : K) (v : ℕ) (rest front all : List MethodHeader) (last : MethodHeader) →
    fs ≡ insert_entry (same bytes) es k v → bytes k ≡ last.name → v ≡ length front → rest ≡ front ++ last ∷ [] →
    option_or (place_of name rest) (finds bytes name es) ≡ place_of name all → option_or (place_of name front) (finds bytes name fs) ≡ place_of name all
turned bytes name es fs k v rest front all last put named at split before =
    ap (λ x. option_or (place_of name front) (finds bytes name x)) put ∙
    ap (option_or (place_of name front)) (found_new bytes name es k v) ∙
    ap (λ x. option_or (place_of name front) (cond (bytes_eq name x) (Some v) (finds bytes name es))) named ∙
    ap (λ n. option_or (place_of name front) (cond (bytes_eq name last.name) (Some n) (finds bytes name es))) at ∙
    sym (last_place name front last (finds bytes name es)) ∙
    ap (λ x. option_or (place_of name x) (finds bytes name es)) (sym split) ∙ before
