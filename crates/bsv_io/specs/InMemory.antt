-- Sources and sinks that are held in memory.
use Rattle.std.specs.Prelude.{ℕ, ◌-◌, ◌/◌, Bool, ◌||◌, List, [], ◌∷◌, map, length, drop, min, Option, None, Some, if◌then◌else◌, nat_lt, unwrap_or, bytes_eq, Vec}
use Rattle.bsv_io.specs.Calls.{CallPlan, is_listed}
use Rattle.bsv_io.specs.Reading.{Current, Reading}
use Rattle.bsv_io.specs.Standing.{Standing, told}
use Rattle.bsv_io.specs.Writing.{Writing}

-- files that are handed in, each a name with its bytes
abbrev pub entries : {A : Type 0} → List (List ℕ × Vec ℕ A) → List (List ℕ × List ℕ)
entries files = map (λ file. (file.0, file.1.items)) files

-- the bytes of the first file of this name, where there is one
abbrev pub file_of : List (List ℕ × List ℕ) → List ℕ → Option (List ℕ)
file_of [] name = None
file_of (file ∷ files) name = if bytes_eq file.0 name then Some file.1 else file_of files name

-- a name that is missing has no bytes
abbrev pub contents_of : List (List ℕ × List ℕ) → List ℕ → List ℕ
contents_of files name = unwrap_or (file_of files name) []

-- what is left of a file after a place
abbrev pub left_of : List (List ℕ × List ℕ) → Current → List ℕ
left_of files at = drop at.place (contents_of files at.name)

-- a source that fails where it is told to
pub record MemSource : Type 0 where
  pub files : List (List ℕ × List ℕ)
  pub plan : CallPlan
  pub standing : Standing

abbrev pub mem_reading : MemSource → Reading
mem_reading s = told (Some (contents_of s.files)) s.standing

-- a source that never fails
pub record SureSource : Type 0 where
  pub files : List (List ℕ × List ℕ)
  pub current : Option Current

abbrev pub sure_reading : SureSource → Reading
sure_reading s = record { contents = Some (contents_of s.files); faults = 0; blamed = None; current = s.current }

-- a sink with so much room in all, which fails where it is told to and where the room runs out
pub record MemTarget : Type 0 where
  pub bytes : List ℕ
  pub room : ℕ
  pub plan : CallPlan
  pub faults : ℕ

abbrev pub mem_writing : MemTarget → Writing
mem_writing t = record { bytes = Some t.bytes; taken = None; faults = t.faults }

-- the room that is left
abbrev pub room_left : MemTarget → ℕ
room_left t = t.room - length t.bytes

-- the next call is to fail, or so many bytes do not fit
abbrev pub must_fail : ℕ → MemTarget → Bool
must_fail count t = is_listed t.plan || nat_lt (room_left t) count

-- how many of so many bytes the next call keeps: of a listed call at most the first half
abbrev pub kept_count : ℕ → MemTarget → ℕ
kept_count count t = min (if is_listed t.plan then count / 2 else count) (room_left t)

-- a sink that never fails tells the number of its bytes, and is seen as that
abbrev pub sure_writing : ℕ → Writing
sure_writing taken = record { bytes = None; taken = Some taken; faults = 0 }

-- a sink that grows, and fails where there is no memory
pub record GrowTarget : Type 0 where
  pub bytes : List ℕ
  pub faults : ℕ

abbrev pub grow_writing : GrowTarget → Writing
grow_writing t = record { bytes = Some t.bytes; taken = None; faults = t.faults }
