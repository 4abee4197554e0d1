-- Elements run whole, one at a time (Hoe and Arvind 2004, "term rewriting semantics").
use Rattle.std.specs.Prelude.{◌≡◌, ℕ, nat_le, Bool, true, List, [], ◌∷◌, Option, Some, None, ◌⊎◌, if◌then◌else◌}
use Rattle.bsv_prim.specs.declared.part.Part.{Part}
use Rattle.bsv_design.specs.declared.kind.Kind.{Kind}
use Rattle.bsv_design.specs.parts.Kinds.{kind_table}
use Rattle.bsv_design.specs.scheme.Schemes.{Scheme, Asking, Called, ready, calls}
use Rattle.bsv_design.specs.scheme.States.{plain, after_calls}
use Rattle.bsv_design.specs.scheme.Traces.{kind_at}

-- ---- calls by rank

abbrev pub rank_of : Option Kind → ℕ → ℕ
rank_of None m = 0
rank_of (Some k) m = (kind_table k).rank m

abbrev pub rank : List Kind → Called → ℕ
rank ks c = rank_of (kind_at ks c.target) c.target.method

-- in front of the first call of no lower rank
abbrev pub put_by_rank : List Kind → Called → List Called → List Called
put_by_rank ks c [] = c ∷ []
put_by_rank ks c (d ∷ ds) = if nat_le (rank ks c) (rank ks d) then c ∷ d ∷ ds else d ∷ put_by_rank ks c ds

-- the lower rank first, and equal ranks in their order
unfoldable pub by_rank : List Kind → List Called → List Called
by_rank ks [] = []
by_rank ks (c ∷ cs) = put_by_rank ks c (by_rank ks cs)

-- ---- runs

-- the calls that an element makes where it is run whole on parts
abbrev pub calls_made : Scheme → Asking → ℕ → List Part → List Called
calls_made S q n ps = by_rank S.kinds (calls S q n (plain ps))

-- the parts after it
unfoldable pub run_whole : Scheme → Asking → ℕ → List Part → List Part
run_whole S q n ps = after_calls S.kinds ps (calls_made S q n ps)

abbrev pub IsIn : ℕ → List ℕ → Type 0
IsIn n [] = ⊥
IsIn n (m ∷ ms) = (n ≡ m) ⊎ IsIn n ms

-- Elements are run one after the other, none twice, each ready at its turn; and the parts at the end
pub data Serial (aggressive : Bool) (S : Scheme) (q : Asking) : List Part → List ℕ → List Part → Type 0 where
  done : {ps : List Part} → Serial aggressive S q ps [] ps
  turn : {ps end : List Part} {n : ℕ} {ns : List ℕ} → ready aggressive S q n (plain ps) ≡ true → (IsIn n ns → ⊥)
      → Serial aggressive S q (run_whole S q n ps) ns end → Serial aggressive S q ps (n ∷ ns) end
