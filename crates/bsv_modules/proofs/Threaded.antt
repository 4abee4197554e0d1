-- Lists that are made item by item, with the state after the last item.
use Rattle.std.proofs.Common.{◌≡◌, sym, List, [], ◌∷◌, ◌++◌, Ok, Err, refl, ap, append_assoc, append-nil}
use Rattle.bsv_statements.specs.Bodies.{Or, ◌>=>◌}
use Rattle.bsv_modules.specs.Modules.{State}

module _ {A : Type 0} where
  abbrev with : State → List A → Or (State × List A)
  with st xs = Ok (st, xs)

  -- what was made before, and what is left
  abbrev pub state_front : List A → Or (State × List A) → Or (State × List A)
  state_front front rest = rest >=> λ r. Ok (r.0, front ++ r.1)

  pub state_start : (rest : Or (State × List A)) → state_front [] rest ≡ rest
  state_start (Err s) = refl
  state_start (Ok r) = refl

  pub state_done : (front : List A) (st : State) → state_front front (Ok (st, [])) ≡ Ok (st, front)
  state_done front st = ap (with st) (append-nil front)

  pub state_more : (front : List A) (x : A) (rest : Or (State × List A)) → state_front (front ++ x ∷ []) rest ≡ state_front front (rest >=> λ r. Ok (r.0, x ∷ r.1))
  state_more front x (Err s) = refl
  state_more front x (Ok r) = ap (with r.0) (append_assoc front (x ∷ []) r.1)

  pub state_turn : (o : Or (State × A)) (rest : State → Or (State × List A)) (front : List A) →
      state_front front (o >=> λ x. rest x.0 >=> λ xs. Ok (xs.0, x.1 ∷ xs.1)) ≡ (o >=> λ x. state_front (front ++ x.1 ∷ []) (rest x.0))
  state_turn (Err s) rest front = refl
  state_turn (Ok x) rest front = sym (state_more front x.1 (rest x.0))

pub ruleset threads = (state_start, state_done, state_more, state_turn)
