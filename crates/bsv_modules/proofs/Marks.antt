-- A place for each method of an interface, and which of them are in the body of a module.
use Rattle.std.proofs.Common.{ℕ, ◌≡◌, Bool, List, [], ◌∷◌, ◌++◌, length, None, replicate, refl, ap}
use Rattle.std.proofs.lemmas.List.{replicate_more, set_past}
use Rattle.bsv_types.specs.Methods.{Signature}
use Rattle.bsv_modules.specs.Modules.{all_marked}
use Rattle.bsv_modules.specs.Programs.{no_methods}

pub all_empty : (wanted : List Signature) → no_methods wanted ≡ replicate (length wanted) None
all_empty [] = refl
all_empty (w ∷ wanted) = ap (λ ms. None ∷ ms) (all_empty wanted)

pub marked_more : (wanted : List Signature) (xs ys : List (List ℕ)) (bs : List Bool) → all_marked wanted (xs ++ ys) bs ≡ all_marked wanted ys (all_marked wanted xs bs)
marked_more wanted [] ys bs = refl
marked_more wanted (x ∷ xs) ys bs = marked_more wanted xs ys _

pub ruleset setting = (set_past)

pub ruleset places = (replicate_more, all_empty)

pub ruleset marking = (marked_more)
