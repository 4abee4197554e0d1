-- What a source of files tells of itself.
use Rattle.std.specs.Prelude.{◌≡◌, ℕ, ◌+◌, List, [], take, drop, Option, None, Some}
use Rattle.std.specs.Option.{option_map}

-- a file that is being read: its name, and how many of its bytes were given
pub record Current : Type 0 where
  pub name : List ℕ
  pub place : ℕ

-- the contents of each file by its name, where they are told (a name that is missing tells an empty
-- file); the count of faults; the name that the last failed call was about; the current file
pub record Reading : Type 0 where
  pub contents : Option (List ℕ → List ℕ)
  pub faults : ℕ
  pub blamed : Option (List ℕ)
  pub current : Option Current

-- a file is chosen, at its start
abbrev pub chosen : List ℕ → Reading → Reading
chosen name r = record r { current = Some (record { name = name; place = 0 }) }

-- so many bytes more of the current file are given
abbrev pub advanced : ℕ → Reading → Reading
advanced n r = record r { current = option_map (λ (at : Current). record at { place = at.place + n }) r.current }

abbrev pub current_name : Reading → Option (List ℕ)
current_name r = option_map (λ (at : Current). at.name) r.current

abbrev pub given_of : Option Current → ℕ
given_of None = 0
given_of (Some at) = at.place

-- how many bytes of the current file were given; none where there is no such file
abbrev pub bytes_given : Reading → ℕ
bytes_given r = given_of r.current

abbrev pub rest_of : Option (List ℕ → List ℕ) → Option Current → Option (List ℕ)
rest_of None at = None
rest_of (Some contents) None = None
rest_of (Some contents) (Some at) = Some (drop at.place (contents at.name))

-- what is left of the current file, where it is told
abbrev pub rest : Reading → Option (List ℕ)
rest r = rest_of r.contents r.current

-- the next n bytes of what is left come before the buffer, and there are none only at the end
pub record Gives (n : ℕ) (buffer left : List ℕ) : Type 0 where
  pub next : take n left ≡ take n buffer
  pub end : n ≡ 0 → left ≡ []
