-- One turn of the loop over the pieces, and its end.
use Rattle.std.proofs.Common.{◌≡◌, ℕ, ◌+◌, ◌-◌, ◌<◌, ◌≤◌, drop, List, Ok}
use Rattle.bsv_lemmas.proofs.Turns.{one_more, no_more}
use Rattle.bsv_lex.specs.declared.token.Token.{Token}
use Rattle.bsv_lex.specs.Reading.{piece_at, on_piece, and_then, with_piece, tokens_from}

pub tokens_more : (n turn : ℕ) (out : List Token) (at : ℕ) (bytes : List ℕ) → turn < n
    → tokens_from (n - turn) out at bytes ≡ on_piece (piece_at bytes) (Ok out) (λ x. and_then (with_piece x.0 at x.1 out) (λ more. tokens_from (n - (turn + 1)) more (at + x.1) (drop x.1 bytes)))
unfolding tokens_from
tokens_more n turn out at bytes below = one_more (λ m. tokens_from m out at bytes) n turn below

pub tokens_end : (n turn : ℕ) (out : List Token) (at : ℕ) (bytes : List ℕ) → n ≤ turn → tokens_from (n - turn) out at bytes ≡ Ok out
unfolding tokens_from
tokens_end n turn out at bytes done = no_more (λ m. tokens_from m out at bytes) n turn done

pub ruleset turns = (tokens_more, tokens_end)
