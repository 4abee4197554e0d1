-- Files that are read piece by piece from a source that tells its contents.
use Rattle.std.proofs.Common.{◌≡◌, ℕ, ◌+◌, List, ◌++◌, take, drop, Option, None, Some, IsSome, IfSome, refl, sym, ap, ◌∙◌, subst}
use Rattle.std.proofs.lemmas.List.{take-append-drop, drop-drop}
use Rattle.std.specs.Option.{option_map}
use Rattle.bsv_io.specs.Reading.{Reading, Current, Gives, advanced, rest, rest_of, current_name, bytes_given, given_of}

rest_of_advanced : (contents : Option (List ℕ → List ℕ)) (at : Option Current) (n : ℕ) (left : List ℕ) → rest_of contents at ≡ Some left → rest_of contents (option_map (λ (c : Current). record c { place = c.place + n }) at) ≡ Some (drop n left)
rest_of_advanced None at n left h = absurd (let no_value : ⊥ = cc in no_value)
rest_of_advanced (Some contents) None n left h = absurd (let no_value : ⊥ = cc in no_value)
rest_of_advanced (Some contents) (Some at) n left h =
    let same : drop at.place (contents at.name) ≡ left = cc in
    ap Some (sym (drop-drop n at.place (contents at.name)) ∙ ap (drop n) same)

-- what is left after a read
pub rest_advanced : (r : Reading) (n : ℕ) (left : List ℕ) → rest r ≡ Some left → rest (advanced n r) ≡ Some (drop n left)
rest_advanced r n left h = rest_of_advanced r.contents r.current n left h

-- a piece that was read comes before what is left
pub piece_read : (n : ℕ) (buffer left : List ℕ) → Gives n buffer left → left ≡ take n buffer ++ drop n left
piece_read n buffer left h = sym (take-append-drop n left) ∙ ap (λ (t : List ℕ). t ++ drop n left) h.next

name_of_advanced : (at : Option Current) (n : ℕ) → option_map (λ (c : Current). c.name) (option_map (λ (c : Current). record c { place = c.place + n }) at) ≡ option_map (λ (c : Current). c.name) at
name_of_advanced None n = refl
name_of_advanced (Some at) n = refl

-- a read keeps the current file
pub name_advanced : (r : Reading) (n : ℕ) → current_name (advanced n r) ≡ current_name r
name_advanced r n = name_of_advanced r.current n

still_current : (at : Option Current) (n : ℕ) → IsSome at → IsSome (option_map (λ (c : Current). record c { place = c.place + n }) at)
still_current None n h = h
still_current (Some at) n h = refl

pub current_advanced : (r : Reading) (n : ℕ) → IsSome r.current → IsSome (advanced n r).current
current_advanced r n h = still_current r.current n h

given_of_advanced : (at : Option Current) (n : ℕ) → IsSome at → given_of (option_map (λ (c : Current). record c { place = c.place + n }) at) ≡ given_of at + n
given_of_advanced None n h = absurd (let no_value : ⊥ = cc in no_value)
given_of_advanced (Some at) n h = refl

-- a read gives so many bytes more
pub given_advanced : (r : Reading) (n : ℕ) → IsSome r.current → bytes_given (advanced n r) ≡ bytes_given r + n
given_advanced r n h = given_of_advanced r.current n h

-- what is told is given
pub if_told : {A : Type 0} (o : Option A) (P : A → Type 0) (x : A) → o ≡ Some x → IfSome o P → P x
if_told {A} o P x e h = subst (λ (v : Option A). IfSome v P) e h
