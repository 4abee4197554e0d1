-- Lists of one thing many times.
use Rattle.std.proofs.lemmas.Grind.{replicate_next}

pub ruleset repeats = (replicate_next)
