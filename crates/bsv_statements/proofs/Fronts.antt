-- Lists that are made item by item, where a fault has its place: alone, and with the scopes after them.
use Rattle.std.proofs.Common.{◌≡◌, sym, List, [], ◌∷◌, ◌++◌, Ok, Err, refl, ap, append_assoc, append-nil}
use Rattle.bsv_statements.specs.Bodies.{Or, Scopes, ◌>=>◌}

module _ {A : Type 0} where
  -- what was made before, and what is left
  abbrev pub listed : List A → Or (List A) → Or (List A)
  listed front rest = rest >=> λ xs. Ok (front ++ xs)

  pub list_start : (rest : Or (List A)) → listed [] rest ≡ rest
  list_start (Err s) = refl
  list_start (Ok xs) = refl

  pub list_done : (front : List A) → listed front (Ok []) ≡ Ok front
  list_done front = ap Ok (append-nil front)

  pub list_more : (front : List A) (x : A) (rest : Or (List A)) → listed (front ++ x ∷ []) rest ≡ listed front (rest >=> λ xs. Ok (x ∷ xs))
  list_more front x (Err s) = refl
  list_more front x (Ok xs) = ap Ok (append_assoc front (x ∷ []) xs)

  pub list_turn : (o : Or A) (rest : Or (List A)) (front : List A) → listed front (o >=> λ x. rest >=> λ xs. Ok (x ∷ xs)) ≡ (o >=> λ x. listed (front ++ x ∷ []) rest)
  list_turn (Err s) rest front = refl
  list_turn (Ok x) rest front = sym (list_more front x rest)

  -- the same with the scopes after the last one
  abbrev with : Scopes → List A → Or (Scopes × List A)
  with ss xs = Ok (ss, xs)

  abbrev pub run_front : List A → Or (Scopes × List A) → Or (Scopes × List A)
  run_front front rest = rest >=> λ r. Ok (r.0, front ++ r.1)

  pub run_start : (rest : Or (Scopes × List A)) → run_front [] rest ≡ rest
  run_start (Err s) = refl
  run_start (Ok r) = refl

  pub run_done : (front : List A) (ss : Scopes) → run_front front (Ok (ss, [])) ≡ Ok (ss, front)
  run_done front ss = ap (with ss) (append-nil front)

  pub run_more : (front : List A) (x : A) (rest : Or (Scopes × List A)) → run_front (front ++ x ∷ []) rest ≡ run_front front (rest >=> λ r. Ok (r.0, x ∷ r.1))
  run_more front x (Err s) = refl
  run_more front x (Ok r) = ap (with r.0) (append_assoc front (x ∷ []) r.1)

  pub run_turn : (o : Or (Scopes × A)) (rest : Scopes → Or (Scopes × List A)) (front : List A) →
      run_front front (o >=> λ x. rest x.0 >=> λ xs. Ok (xs.0, x.1 ∷ xs.1)) ≡ (o >=> λ x. run_front (front ++ x.1 ∷ []) (rest x.0))
  run_turn (Err s) rest front = refl
  run_turn (Ok x) rest front = sym (run_more front x.1 (rest x.0))

pub ruleset lists = (list_start, list_done, list_more, list_turn)

pub ruleset runs = (run_start, run_done, run_more, run_turn)
