-- Where a source is between two calls: all that it tells of itself but the contents of its files.
use Rattle.std.specs.Prelude.{ℕ, ◌+◌, List, Option, None, Some, min}
use Rattle.std.specs.Option.{option_map}
use Rattle.bsv_io.specs.Faults.{last_count}
use Rattle.bsv_io.specs.Reading.{Current, Reading}

-- the count of faults; the name that the last failed call was about; the current file
pub record Standing : Type 0 where
  pub faults : ℕ
  pub blamed : Option (List ℕ)
  pub current : Option Current

abbrev pub told : Option (List ℕ → List ℕ) → Standing → Reading
told contents s = record { contents = contents; faults = s.faults; blamed = s.blamed; current = s.current }

-- one fault more, as far as the count can rise
abbrev pub raised : ℕ → ℕ
raised faults = min (faults + 1) last_count

-- no call was made
abbrev pub fresh : Standing
fresh = record { faults = 0; blamed = None; current = None }

-- a file is current, at its start
abbrev pub opened : List ℕ → Standing → Standing
opened name s = record s { current = Some (record { name = name; place = 0 }) }

-- a file could not be chosen
abbrev pub refused : List ℕ → Standing → Standing
refused name s = record { faults = raised s.faults; blamed = Some name; current = None }

-- the current file could not be read
abbrev pub stuck : Standing → Standing
stuck s = record s { faults = raised s.faults; blamed = option_map (λ (at : Current). at.name) s.current }

-- so many bytes more of the current file were given
abbrev pub passed : ℕ → Standing → Standing
passed n s = record s { current = option_map (λ (at : Current). record at { place = at.place + n }) s.current }
