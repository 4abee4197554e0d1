-- The first fault among events that follow each other.
use Rattle.std.proofs.Common.{◌≡◌, List, [], ◌∷◌, ◌++◌, Option, Some, None, refl, sym, ap, ◌∙◌}
use Rattle.std.specs.Option.{option_or}
use Rattle.bsv_names.specs.declared.event.Event.{Event}
use Rattle.bsv_names.specs.declared.names.Pass.{Pass}
use Rattle.bsv_names.specs.Known.{Known, after, after_all}
use Rattle.bsv_names.specs.Faults.{fault, first_fault}

pub or_none : {A : Type 0} (x : Option A) → option_or x None ≡ x
or_none None = refl
or_none (Some a) = refl

pub or_assoc : {A : Type 0} (x y z : Option A) → option_or (option_or x y) z ≡ option_or x (option_or y z)
or_assoc None y z = refl
or_assoc (Some a) y z = refl

pub after_all-append : (k : Known) (xs ys : List Event) → after_all k (xs ++ ys) ≡ after_all (after_all k xs) ys
after_all-append k [] ys = refl
after_all-append k (x ∷ xs) ys = after_all-append (after k x) xs ys

pub first_fault-append : (pass : Pass) (k : Known) (xs ys : List Event)
    → first_fault pass k (xs ++ ys) ≡ option_or (first_fault pass k xs) (first_fault pass (after_all k xs) ys)
first_fault-append pass k [] ys = refl
first_fault-append pass k (x ∷ xs) ys =
    ap (option_or (fault pass k x)) (first_fault-append pass (after k x) xs ys) ∙ sym (or_assoc (fault pass k x) (first_fault pass (after k x) xs) (first_fault pass (after_all (after k x) xs) ys))

pub ruleset in_turn = (or_none, or_assoc, after_all-append, first_fault-append)
