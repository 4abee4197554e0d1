-- How instances, rules and methods are named (Bluespec reference guide, "Module and interface instantiation", "Rules").
use Rattle.std.specs.Prelude.{ℕ, ◌+◌, ◌==◌, nat_lt, Bool, List, [], ◌∷◌, ◌++◌, codes, decimal, Option, Some, None, Result, Ok, Err, if◌then◌else◌}
use Rattle.std.specs.List.{list_any}
use Rattle.std.specs.Map.{lookup}
use Rattle.std.specs.Str.{bytes_eq}
use Rattle.indexmap.specs.IndexMap.{insert_entry}
use Rattle.bsv_fail.specs.Given.{◌>>=◌}
use Rattle.bsv_tree.specs.declared.values.Fault.TheVariants as fault
use Rattle.bsv_design.specs.design.Paths.{with_dot}
use Rattle.bsv_elab.specs.declared.refused.Refused.{Refused}
use Rattle.bsv_elab.specs.declared.refused.Refused.TheVariants as refused

-- the names of the instances of one module instance, or of its rules and methods
pub record Named : Type 0 where
  -- how often each name was given
  pub given : List (List ℕ × ℕ)
  -- the names that are taken
  pub taken : List (List ℕ)

abbrev pub no_names : Named
no_names = record { given = []; taken = [] }

abbrev pub or_never : Option ℕ → ℕ
or_never None = 0
or_never (Some times) = times

-- how often a name was given
abbrev pub times : Named → List ℕ → ℕ
times n name = or_never (lookup (bytes_eq name) n.given)

-- of what is made with one name, the first has the name, and the k-th after it the name, `_` and k
abbrev pub with_number : List ℕ → ℕ → List ℕ
with_number name k = if k == 0 then name else name ++ (codes "_" ++ decimal k)

-- the name was given so many times
abbrev pub given_times : List ℕ → ℕ → Named → Named
given_times name k n = record { given = insert_entry bytes_eq n.given name k; taken = n.taken }

-- the next name of those that are made with one name. Each weighs, so that they never reach their limit
unfoldable pub numbered : List ℕ → Named → Result (List ℕ × Named) Refused
numbered name n =
    if nat_lt (times n name) 4294967295 then Ok (with_number name (times n name), given_times name (times n name + 1) n)
    else Err (refused.Carried fault.Weight)

abbrev pub is_taken : List ℕ → Named → Bool
is_taken name n = list_any (bytes_eq name) n.taken

-- no two share a name
unfoldable pub take_name : List ℕ → List ℕ → Named → Result Named Refused
take_name path name n =
    if is_taken name n then Err (refused.NameTaken (with_dot path name))
    else Ok (record { given = n.given; taken = n.taken ++ name ∷ [] })

-- the next name, which is free
unfoldable pub new_name : List ℕ → List ℕ → Named → Result (List ℕ × Named) Refused
new_name path name n = numbered name n >>= λ r. take_name path r.0 r.1 >>= λ names. Ok (r.0, names)
