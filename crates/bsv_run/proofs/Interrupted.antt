-- A trace that can be read no further: what was read of it is the lines that were run, and what was begun of the next one.
use Rattle.std.proofs.Common.{◌≡◌, ◌∙◌, ℕ, zero, suc, ◌+◌, ◌==◌, ◌≤◌, Bool, true, false, if◌then◌else◌, List, [], ◌∷◌, ◌++◌, Option, None, Some, length, option_map, take, drop, refl, sym, ap, subst, arith, append_assoc, append-nil, length-append}
use Rattle.std.proofs.lemmas.Bool.{eqb-true}
use Rattle.bsv_design.specs.declared.design.Design.{Design}
use Rattle.bsv_design.specs.declared.schedule.Schedule.{Schedule}
use Rattle.bsv_io.specs.Reading.{Current, given_of}
use Rattle.bsv_io.specs.Writing.{Writing}
use Rattle.bsv_run.specs.declared.run.Run.{Run}
use Rattle.bsv_run.specs.Reading.{HasNoFeed}
use Rattle.bsv_run.specs.Running.{HasRun, IsInterruptedOf, IsReportToOf}
use Rattle.bsv_run.specs.Traces.{bytes_in, lines_of, onto}

-- ---- the bytes of lines

abbrev flat : List (List ℕ) → List ℕ
flat [] = []
flat (line ∷ lines) = line ++ flat lines

flat_append : (xs ys : List (List ℕ)) → flat (xs ++ ys) ≡ flat xs ++ flat ys
flat_append [] ys = refl
flat_append (x ∷ xs) ys = ap (λ (t : List ℕ). x ++ t) (flat_append xs ys) ∙ sym (append_assoc x (flat xs) (flat ys))

flat_long : (xs : List (List ℕ)) → length (flat xs) ≡ bytes_in (length xs) xs
flat_long [] = refl
flat_long (x ∷ xs) = length-append x (flat xs) ∙ ap (λ (n : ℕ). length x + n) (flat_long xs)

flat_onto : (byte : ℕ) (lines : List (List ℕ)) → flat (onto byte lines) ≡ byte ∷ flat lines
flat_onto byte [] = refl
flat_onto byte (line ∷ lines) = refl

flat_lines : (bytes : List ℕ) → flat (lines_of bytes) ≡ bytes
flat_lines [] = refl
flat_lines (byte ∷ bytes) = of (byte == 10) (flat_lines bytes)
  where
    of : (t : Bool) → flat (lines_of bytes) ≡ bytes → flat (if t then (byte ∷ []) ∷ lines_of bytes else onto byte (lines_of bytes)) ≡ byte ∷ bytes
    of true rest = ap (λ (t : List ℕ). byte ∷ t) rest
    of false rest = flat_onto byte (lines_of bytes) ∙ ap (λ (t : List ℕ). byte ∷ t) rest

-- ---- lists

take_front : (xs ys : List ℕ) → take (length xs) (xs ++ ys) ≡ xs
take_front [] ys = refl
take_front (x ∷ xs) ys = ap (λ (t : List ℕ). x ∷ t) (take_front xs ys)

drop_front : (xs ys : List ℕ) → drop (length xs) (xs ++ ys) ≡ ys
drop_front [] ys = refl
drop_front (x ∷ xs) ys = drop_front xs ys

-- ---- what was read

module _ (limit : ℕ) (d : Design) (made : Schedule) (start : Writing) (read : List ℕ) (r : Run) (w : Writing) (run : HasRun limit d made start read r w) where
  abbrev front : List (List ℕ)
  front = run.stands.front

  abbrev held : List ℕ
  held = r.lines.held.items

  read_is : read ≡ flat front ++ held
  read_is =
      sym (flat_lines read)
      ∙ ap flat (ap lines_of (sym (append-nil read)) ∙ run.stands.lines [] ∙ ap (λ (t : List ℕ). front ++ lines_of t) (append-nil held))
      ∙ flat_append front (lines_of held) ∙ ap (λ (t : List ℕ). flat front ++ t) (flat_lines held)

  begun : drop (bytes_in (length front) front) read ≡ held
  begun =
      ap (λ (n : ℕ). drop n read) (sym (flat_long front)) ∙ ap (drop (length (flat front))) read_is ∙ drop_front (flat front) held

  pub report_to : (trace left : List ℕ) (place : ℕ) → trace ≡ read ++ left → place ≡ length read → IsReportToOf limit d made start trace place w
  report_to trace left place whole here = record {
    front = front;
    rest = lines_of (held ++ left);
    qs = run.qs;
    rows = run.rows;
    lines = ap lines_of whole ∙ run.stands.lines left;
    before = omega (arith, here, run.stands.at, run.stands.long);
    unended =
        subst HasNoFeed
        (sym (ap (drop (bytes_in (length front) front)) (ap (take place) whole ∙ ap (λ (n : ℕ). take n (read ++ left)) here ∙ take_front read left) ∙ begun))
        run.unended;
    asked = run.stands.asked;
    runs = run.runs;
    put = run.put;
  }

-- the place is that of the current file
pub interrupted_at : (limit : ℕ) (d : Design) (made : Schedule) (start : Writing) (trace name : List ℕ) (w : Writing) (o : Option Current) → option_map (λ (at : Current). at.name) o ≡ Some name
    → ((place : ℕ) → given_of o ≡ place → IsReportToOf limit d made start trace place w) → IsInterruptedOf limit d made start trace o w
interrupted_at limit d made start trace name w None named there = absurd (let no_value : ⊥ = cc in no_value)
interrupted_at limit d made start trace name w (Some at) named there = there at.place refl
