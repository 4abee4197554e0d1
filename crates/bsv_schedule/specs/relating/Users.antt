-- The elements that use the parts, with the methods that they use.
use Rattle.std.specs.Prelude.{◌≡◌, ◌≢◌, ℕ, ◌<◌, ◌↔◌, IsTrue, List, [], ◌∷◌, ◌++◌, slice_get, slice_index_or, slice_set, Some}
use Rattle.bsv_design.specs.declared.kind.Kind.{Kind}
use Rattle.bsv_schedule.specs.declared.relating.related.Relation.{Relation}
use Rattle.bsv_schedule.specs.declared.relating.usage.Use.{Use}
use Rattle.bsv_schedule.specs.declared.relating.usage.User.{User}
use Rattle.bsv_schedule.specs.relating.Related.{names_method, related}
use Rattle.bsv_schedule.specs.relating.Uses.{Among, used}

-- those of the part
abbrev pub users_at : List (List User) → ℕ → List User
users_at us part = slice_index_or us part []

-- the part has this user, too
abbrev pub added : List (List User) → ℕ → User → List (List User)
added us part u = slice_set us part (users_at us part ++ u ∷ [])

-- what is noted of the element is what it uses
abbrev pub AreUsesOf : List (List User) → ℕ → List Use → Type 0
AreUsesOf us n own = (part m : ℕ) → Among (users_at us part) (record { element = n; method = m }) ↔ Among (used own) (record { part = part; method = m })

-- nothing is noted of the element
abbrev pub IsNew : List (List User) → ℕ → Type 0
IsNew us n = (part m : ℕ) → Among (users_at us part) (record { element = n; method = m }) → ⊥

-- of other elements the same is noted
abbrev pub KeepsOthers : ℕ → List (List User) → List (List User) → Type 0
KeepsOthers n old new = (part : ℕ) (u : User) → u.element ≢ n → Among (users_at new part) u ↔ Among (users_at old part) u

-- what is noted is what the elements use
abbrev pub AreUsers : List (List Use) → List (List User) → Type 0
AreUsers uses users = (part : ℕ) (u : User) → Among (users_at users part) u
    ↔ ((own : List Use) × (slice_get uses u.element ≡ Some own) × Among (used own) (record { part = part; method = u.method }))

-- the use and one of this element, of the same part, stand in the relation
abbrev pub MeetsUser : Relation → List Kind → Use → List User → ℕ → Type 0
MeetsUser w ks own us n = (m : ℕ) × Among us (record { element = n; method = m }) × IsTrue (related w (slice_get ks own.part) own.method m)

-- so does one of the uses
abbrev pub MeetsSome : Relation → List Kind → List Use → List (List User) → ℕ → Type 0
MeetsSome w ks owns us n = (own : Use) × Among owns own × MeetsUser w ks own (users_at us own.part) n

-- the user is an element below the count, and uses a method that the part has
abbrev pub IsUserOf : ℕ → List Kind → ℕ → User → Type 0
IsUserOf count ks part u = (u.element < count) × IsTrue (names_method ks part u.method)
