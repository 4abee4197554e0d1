-- The lines of the state that registers show, instance by instance.
use Rattle.std.proofs.Common.{◌≡◌, ◌∙◌, ℕ, List, [], ◌∷◌, ◌++◌, drop, refl, sym, ap, subst}
use Rattle.bsv_bits.specs.Words.{Bits}
use Rattle.bsv_io.specs.Writing.{Writing}
use Rattle.bsv_io.proofs.Adding.{Going}
use Rattle.bsv_prim.specs.declared.part.Part.{Part}
use Rattle.bsv_design.specs.declared.design.NamedPart.{NamedPart}
use Rattle.bsv_design.specs.parts.Kinds.{kind_table}
use Rattle.bsv_design.specs.parts.Printed.{ShowPart}
use Rattle.bsv_trace.specs.Shown.{ShowParts}
use Rattle.bsv_trace.specs.Texts.{state_line, state_lines}

-- the lines of these instances are left, and what is before them was added
pub record LinesLeft (whole : List ℕ) (instances : List NamedPart) (registers : List Bits) (start waits : List ℕ) (first now : Writing) : Type 0 where
  pub parts : List Part
  pub shown : ShowParts instances registers parts
  pub going : Going whole (state_lines instances parts) start waits first now

-- the line of the first of them, and those after it
pub record LineHere (whole : List ℕ) (i : NamedPart) (is : List NamedPart) (registers : List Bits) (start waits : List ℕ) (first now : Writing) : Type 0 where
  pub part : Part
  pub parts : List Part
  pub one : ShowPart i.kind registers part
  pub others : ShowParts is (drop (kind_table i.kind).registers registers) parts
  pub going : Going whole (state_line i part ++ state_lines is parts) start waits first now

no_lines : (ps : List Part) → state_lines [] ps ≡ []
no_lines [] = refl
no_lines (p ∷ ps) = refl

module _ {whole : List ℕ} {start waits : List ℕ} {first now : Writing} where
  opened : (i : NamedPart) (is : List NamedPart) (registers : List Bits) (ps : List Part) → ShowParts (i ∷ is) registers ps
      → Going whole (state_lines (i ∷ is) ps) start waits first now → LineHere whole i is registers start waits first now
  opened i is registers [] shown going = absurd shown.fits
  opened i is registers (p ∷ ps) shown going = record {
    part = p;
    parts = ps;
    one = record { fits = shown.fits.0; shows = shown.shows.0 };
    others = record { fits = shown.fits.1; shows = shown.shows.1 };
    going = going;
  }

  pub line_here : (left : List NamedPart) (i : NamedPart) (is : List NamedPart) (registers : List Bits) → left ≡ i ∷ is
      → LinesLeft whole left registers start waits first now → LineHere whole i is registers start waits first now
  line_here left i is registers here h =
      let there = subst (λ (l : List NamedPart). LinesLeft whole l registers start waits first now) here h in
      opened i is registers there.parts there.shown there.going

  pub lines_done : (left : List NamedPart) (registers : List Bits) → left ≡ [] → (h : LinesLeft whole left registers start waits first now) → state_lines left h.parts ≡ []
  lines_done left registers none h = ap (λ (l : List NamedPart). state_lines l h.parts) none ∙ no_lines h.parts

-- the same registers, written in another way
pub shown_after : (is : List NamedPart) (n count : ℕ) (registers others : List Bits) (ps : List Part) → count ≡ n → others ≡ drop count registers → ShowParts is (drop n registers) ps → ShowParts is others ps
shown_after is n count registers others ps same after = subst (λ (ws : List Bits). ShowParts is ws ps) (sym (after ∙ ap (λ (k : ℕ). drop k registers) same))
