-- What an instance holds, looked for among those whose registers show their parts.
use Rattle.std.proofs.Common.{◌≡◌, ◌∙◌, ℕ, Bool, true, false, List, [], ◌∷◌, Option, None, if◌then◌else◌, drop, refl, sym, ap, subst}
use Rattle.std.specs.Prelude.{bytes_eq}
use Rattle.bsv_bits.specs.Words.{Bits}
use Rattle.bsv_prim.specs.declared.part.Part.{Part}
use Rattle.bsv_design.specs.declared.design.NamedPart.{NamedPart}
use Rattle.bsv_design.specs.parts.Kinds.{kind_table}
use Rattle.bsv_design.specs.parts.Printed.{ShowPart}
use Rattle.bsv_trace.specs.Shown.{ShowParts}
use Rattle.bsv_top.specs.Made.{held_at, number_of}

-- what is looked for is what these instances hold, whose registers show these parts
pub record IsLeft (path : List ℕ) (whole : Option Bits) (instances : List NamedPart) (registers : List Bits) : Type 0 where
  pub parts : List Part
  pub shown : ShowParts instances registers parts
  pub same : whole ≡ held_at path instances parts

-- the first of them, and those after it
pub record FirstHere (path : List ℕ) (whole : Option Bits) (i : NamedPart) (is : List NamedPart) (registers : List Bits) : Type 0 where
  pub part : Part
  pub parts : List Part
  pub one : ShowPart i.kind registers part
  pub others : ShowParts is (drop (kind_table i.kind).registers registers) parts
  pub same : whole ≡ (if bytes_eq i.path path then number_of part else held_at path is parts)

module _ (path : List ℕ) (whole : Option Bits) where
  opened : (i : NamedPart) (is : List NamedPart) (registers : List Bits) (ps : List Part) → ShowParts (i ∷ is) registers ps
      → whole ≡ held_at path (i ∷ is) ps → FirstHere path whole i is registers
  opened i is registers [] shown same = absurd shown.fits
  opened i is registers (p ∷ ps) shown same = record {
    part = p;
    parts = ps;
    one = record { fits = shown.fits.0; shows = shown.shows.0 };
    others = record { fits = shown.fits.1; shows = shown.shows.1 };
    same = same;
  }

  pub first_here : (left : List NamedPart) (i : NamedPart) (is : List NamedPart) (registers : List Bits) → left ≡ i ∷ is
      → IsLeft path whole left registers → FirstHere path whole i is registers
  first_here left i is registers here h =
      let there = subst (λ (l : List NamedPart). IsLeft path whole l registers) here h in
      opened i is registers there.parts there.shown there.same

  pub is_here : (i : NamedPart) (is : List NamedPart) (registers : List Bits) (t : Bool) → bytes_eq i.path path ≡ t → t ≡ true
      → (h : FirstHere path whole i is registers) → whole ≡ number_of h.part
  is_here i is registers t test holds h =
      h.same ∙ ap (λ (b : Bool). if b then number_of h.part else held_at path is h.parts) (test ∙ holds)

  pub is_later : (i : NamedPart) (is : List NamedPart) (registers : List Bits) (t : Bool) → bytes_eq i.path path ≡ t → t ≡ false
      → (h : FirstHere path whole i is registers) → whole ≡ held_at path is h.parts
  is_later i is registers t test fails h =
      h.same ∙ ap (λ (b : Bool). if b then number_of h.part else held_at path is h.parts) (test ∙ fails)

none_held : (path : List ℕ) (ps : List Part) → held_at path [] ps ≡ None
none_held path [] = refl
none_held path (p ∷ ps) = refl

pub nothing_left : (path : List ℕ) (whole : Option Bits) (left : List NamedPart) (registers : List Bits) → left ≡ [] → IsLeft path whole left registers → None ≡ whole
nothing_left path whole left registers none h =
    sym (h.same ∙ ap (λ (l : List NamedPart). held_at path l h.parts) none ∙ none_held path h.parts)
