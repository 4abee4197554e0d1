-- What is asked of names and of attributes in a typed program.
use Rattle.std.specs.Prelude.{ℕ, Bool, true, false, ◌&&◌, not, nat_le, nat_lt, ◌^◌, List, [], ◌∷◌, length}
use Rattle.std.specs.List.{list_all, list_any}
use Rattle.std.specs.Str.{bytes_eq}
use Rattle.bsv_ast.specs.Names.{is_name, is_lower}
use Rattle.bsv_types.specs.declared.attributes.Attribute.{Attribute}
use Rattle.bsv_types.specs.declared.attributes.Attribute.TheVariants as attribute

-- no two are one
abbrev pub distinct : List (List ℕ) → Bool
distinct [] = true
distinct (x ∷ xs) = not (list_any (bytes_eq x) xs) && distinct xs

-- Lower names, no two of them one
abbrev pub lower_names : List (List ℕ) → Bool
lower_names xs = list_all is_lower xs && distinct xs

-- few enough for a number of 32 bits to name each
abbrev pub countable : {A : Type 0} → List A → Bool
countable xs = nat_lt (length xs) (2 ^ 32)

-- so many names or more, as the text of an attribute has them
abbrev pub names_from : ℕ → List (List ℕ) → Bool
names_from least xs = nat_le least (length xs) && list_all is_name xs

-- an attribute that both a module and a rule may have
abbrev pub orders_rules : Attribute → Bool
orders_rules (attribute.DescendingUrgency xs) = names_from 2 xs
orders_rules (attribute.ExecutionOrder xs) = names_from 2 xs
orders_rules (attribute.Preempts left right) = names_from 1 left && names_from 1 right
orders_rules _ = false

abbrev pub of_module : Attribute → Bool
of_module attribute.Synthesize = true
of_module a = orders_rules a

abbrev pub of_rule : Attribute → Bool
of_rule attribute.FireWhenEnabled = true
of_rule attribute.NoImplicitConditions = true
of_rule a = orders_rules a
