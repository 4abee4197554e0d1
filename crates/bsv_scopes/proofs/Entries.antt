-- One scope: look-ups in the map's own words, and a new entry at the end.
use Rattle.std.proofs.Common.{ℕ, suc, ◌≡◌, ◌+◌, Bool, true, false, cond, not, ◌||◌, nat_lt, List, [], ◌∷◌, length, Option, Some, None, is_some, option_map, position, refl, sym, ap, ◌∙◌, true≢false, lt-ltb, if◌then◌else◌, arith}
use Rattle.std.proofs.lemmas.Grind.{common_steps}
use Rattle.std.specs.Str.{bytes_eq}
use Rattle.std.specs.List.{position_or_len}
use Rattle.std.specs.Map.{lookup, keys_of}
use Rattle.indexmap.specs.IndexMap.{insert_entry}
use Rattle.bsv_scopes.specs.Scopes.{Entries, found, is_defined, number_of, with_name, with_new}

-- one place further on
next_place : (n l : ℕ) → cond (nat_lt (1 + n) (suc l)) (Some (1 + n)) None ≡ option_map (λ k. k + 1) (cond (nat_lt n l) (Some n) None)
next_place n l = grind (arith, common_steps)

place_in : (b : Bool) (n l : ℕ) (o : Option ℕ) → cond (nat_lt n l) (Some n) None ≡ o →
    cond (nat_lt (cond (not b) (1 + n) 0) (suc l)) (Some (cond (not b) (1 + n) 0)) None ≡ cond b (Some 0) (option_map (λ k. k + 1) o)
place_in true n l o h = ap (λ b. cond b (Some 0) None) (lt-ltb 0 (suc l) (omega arith))
place_in false n l o h = next_place n l ∙ ap (option_map (λ k. k + 1)) h

module _ {V : Type 0} where
  pub found_lookup : (name : List ℕ) (es : Entries V) → lookup (bytes_eq name) es ≡ found name es
  found_lookup name [] = refl
  found_lookup name (e ∷ es) = ap (λ o. cond (bytes_eq name e.0) (Some e.1) o) (found_lookup name es)

  has : (b c : Bool) (v : V) (o : Option V) → is_some o ≡ c → is_some (cond b (Some v) o) ≡ (b || c)
  has true c v o h = refl
  has false c v o h = h

  pub defined_lookup : (name : List ℕ) (es : Entries V) → is_some (lookup (bytes_eq name) es) ≡ is_defined name es
  defined_lookup name [] = refl
  defined_lookup name (e ∷ es) = has (bytes_eq name e.0) _ e.1 (lookup (bytes_eq name) es) (defined_lookup name es)

  pub numbered : (name : List ℕ) (es : Entries V) → position (bytes_eq name) (keys_of es) ≡ number_of name es
  numbered name [] = refl
  numbered name (e ∷ es) = place_in (bytes_eq name e.0) (position_or_len (bytes_eq name) (keys_of es)) (length (keys_of es)) (number_of name es) (numbered name es)

  inserted : (b c : Bool) (e f : List ℕ × V) (es fs gs : Entries V) → (b || c) ≡ false → (c ≡ false → fs ≡ gs) → cond b (f ∷ es) (e ∷ fs) ≡ e ∷ gs
  inserted true c e f es fs gs h rest = absurd (true≢false h)
  inserted false c e f es fs gs h rest = ap (λ xs. e ∷ xs) (rest h)

  -- a name that is not there goes last
  pub goes_last : (name : List ℕ) (v : V) (es : Entries V) → is_defined name es ≡ false → insert_entry bytes_eq es name v ≡ with_name name v es
  goes_last name v [] h = refl
  goes_last name v (e ∷ es) h = inserted (bytes_eq name e.0) (is_defined name es) e (e.0, v) es (insert_entry bytes_eq es name v) (with_name name v es) h (goes_last name v es)

  pub new_goes_last : (name : List ℕ) (v : V) (es : Entries V) → is_defined name es ≡ false → insert_entry bytes_eq es name v ≡ with_new name v es
  new_goes_last name v es h = goes_last name v es h ∙ sym (ap (λ b. if b then es else with_name name v es) h)

  pub stays : (name : List ℕ) (v : V) (es : Entries V) → is_defined name es ≡ true → with_new name v es ≡ es
  stays name v es h = ap (λ b. if b then es else with_name name v es) h

pub ruleset look_up = (found_lookup, defined_lookup, numbered)

pub ruleset define = (new_goes_last, stays)
