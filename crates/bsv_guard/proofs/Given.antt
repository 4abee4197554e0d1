-- The words of a request are as many as an element has arguments.
use Rattle.std.proofs.Common.{ℕ}
use Rattle.std.specs.Prelude.{slice_get}
use Rattle.bsv_design.specs.scheme.Schemes.{Scheme, Asking, AreArgumentsOf, ports_of, if_asked, given}
use Rattle.bsv_design.proofs.Elements.{length-filled}

pub given_arguments : (S : Scheme) (q : Asking) (n : ℕ) → AreArgumentsOf S n (given S q n)
unfolding given
given_arguments S q n = length-filled (ports_of (slice_get S.elements n)) (if_asked (slice_get q.asked n) (slice_get q.args n))
