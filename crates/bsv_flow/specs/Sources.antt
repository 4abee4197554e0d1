-- How far a source is read.
use Rattle.std.specs.Prelude.{ℕ}

-- one byte more than a source may have
abbrev pub read_limit : ℕ
read_limit = 1048577
