-- Lists that are made piece by piece.
use Rattle.std.proofs.Common.{◌≡◌, sym, List, [], ◌∷◌, ◌++◌, Option, Some, None, Ok, Err, refl, ap, append_assoc, append-nil}
use Rattle.bsv_types.specs.Operators.{◌>>=◌}
use Rattle.bsv_statements.specs.Bodies.{Or, ◌>=>◌}
use Rattle.bsv_statements.proofs.Fronts.{listed, list_start, list_done}

module _ {A : Type 0} where
  pub groups_more : (front : List A) (xs : List A) (rest : Or (List A)) → listed (front ++ xs) rest ≡ listed front (rest >=> λ ys. Ok (xs ++ ys))
  groups_more front xs (Err s) = refl
  groups_more front xs (Ok ys) = ap Ok (append_assoc front xs ys)

  pub groups_turn : (o : Or (List A)) (rest : Or (List A)) (front : List A) → listed front (o >=> λ xs. rest >=> λ ys. Ok (xs ++ ys)) ≡ (o >=> λ xs. listed (front ++ xs) rest)
  groups_turn (Err s) rest front = refl
  groups_turn (Ok xs) rest front = sym (groups_more front xs rest)

  -- what was handed before, and what is left
  abbrev pub handed_front : List A → Option (List A) → Option (List A)
  handed_front front rest = rest >>= λ xs. Some (front ++ xs)

  pub handed_start : (rest : Option (List A)) → handed_front [] rest ≡ rest
  handed_start None = refl
  handed_start (Some xs) = refl

  pub handed_done : (front : List A) → handed_front front (Some []) ≡ Some front
  handed_done front = ap Some (append-nil front)

  pub handed_more : (front : List A) (x : A) (rest : Option (List A)) → handed_front (front ++ x ∷ []) rest ≡ handed_front front (rest >>= λ xs. Some (x ∷ xs))
  handed_more front x None = refl
  handed_more front x (Some xs) = ap Some (append_assoc front (x ∷ []) xs)

  pub handed_turn : (o : Option A) (rest : Option (List A)) (front : List A) → handed_front front (o >>= λ x. rest >>= λ xs. Some (x ∷ xs)) ≡ (o >>= λ x. handed_front (front ++ x ∷ []) rest)
  handed_turn None rest front = refl
  handed_turn (Some x) rest front = sym (handed_more front x rest)

pub ruleset groups = (list_start, list_done, groups_more, groups_turn)

pub ruleset handing = (handed_start, handed_done, handed_more, handed_turn)
