-- A sink that passes its bytes to a writer.
use Rattle.std.specs.Prelude.{ℕ, List, Option, None}
use Rattle.std.specs.Io.KnownBytes.{Appends}
use Rattle.bsv_io.specs.Prefixes.{IsPrefix}
use Rattle.bsv_io.specs.Writing.{Writing}

-- the count of faults; the bytes that the writer holds, where it tells them
pub record Passing : Type 0 where
  pub faults : ℕ
  pub held : Option (List ℕ)

-- the sink itself tells nothing of its bytes
abbrev pub passing_writing : Passing → Writing
passing_writing p = record { bytes = None; taken = None; faults = p.faults }

-- a writer that held the one now holds the other: a front of the bytes comes after, where it tells
pub record HoldsFront (bytes : List ℕ) (old new : Option (List ℕ)) : Type 0 where
  pub front : List ℕ
  pub prefix : IsPrefix front bytes
  pub held : Appends old new front
