-- Runs, one after another: the first of them, and one more.
use Rattle.std.proofs.Common.{◌≡◌, ℕ, ◌+◌, ◌≤◌, List, [], ◌∷◌, ◌++◌, length, take, drop, sym, subst, arith, refl}
use Rattle.std.proofs.Props.{props}
use Rattle.std.proofs.lemmas.List.{length-take-le}
use Rattle.bsv_net.specs.declared.node.NetNode.{NetNode}
use Rattle.bsv_engine.specs.declared.run.Run.{Run}
use Rattle.bsv_engine.specs.declared.run.Run.TheVariants as run
use Rattle.bsv_engine.specs.Runs.{size, Within, AllWithin, Stands, AllStand}
use Rattle.bsv_engine.proofs.StepsKeep.{run_within}

pub stands_more : (us : List ℕ) (nodes : List NetNode) (from to : ℕ) (rs : List Run) (r : Run) → AllStand us nodes from to rs
    → Stands (take to us) (drop to us) (drop to nodes) r → to + size r ≤ length nodes
    → AllStand us nodes from (to + size r) (rs ++ r ∷ [])
stands_more us nodes from to [] r e stand end =
    subst (λ n. Stands (take n us) (drop n us) (drop n nodes) r × (n + size r ≤ length nodes) × (n + size r ≡ to + size r)) (sym e) (stand, end, refl)
stands_more us nodes from to (x ∷ xs) r all stand end = (all.0, all.1, stands_more us nodes (from + size x) to xs r all.2 stand end)

-- a run stands for nodes that are there
pub stands_within : (before own : List ℕ) (nodes : List NetNode) (r : Run) → Stands before own nodes r → size r ≤ length nodes
stands_within before own nodes run.One h = h
stands_within before own nodes (run.Input xs) h = h.within
stands_within before own nodes (run.Register xs) h = h.within
stands_within before own nodes (run.Not xs) h = h.within
stands_within before own nodes (run.And xs) h = h.within
stands_within before own nodes (run.Or xs) h = h.within
stands_within before own nodes (run.Xor xs) h = h.within
stands_within before own nodes (run.Add xs) h = h.within
stands_within before own nodes (run.Sub xs) h = h.within
stands_within before own nodes (run.Mul xs) h = h.within
stands_within before own nodes (run.Same xs) h = h.within
stands_within before own nodes (run.Less xs) h = h.within
stands_within before own nodes (run.LessSigned xs) h = h.within
stands_within before own nodes (run.Shl xs) h = h.within
stands_within before own nodes (run.Shr xs) h = h.within
stands_within before own nodes (run.Sar xs) h = h.within
stands_within before own nodes (run.Known xs) h = h.within
stands_within before own nodes (run.Pick xs) h = h.within
stands_within before own nodes (run.Slice xs) h = h.within
stands_within before own nodes (run.Join xs) h = h.within
stands_within before own nodes (run.Extended xs) h = h.within
stands_within before own nodes (run.SignExtended xs) h = h.within

-- ---- the places of runs are there

pub all_within : (us : List ℕ) (nodes : List NetNode) (from to : ℕ) (rs : List Run) → length us ≡ length nodes → AllStand us nodes from to rs → AllWithin (length nodes) from rs
all_within us nodes from to [] long all = tt
all_within us nodes from to (r ∷ rs) long all =
    let short : length (take from us) ≡ from = length-take-le from us (omega (arith, all.1)) in
    (subst (λ n. Within n r) short (run_within (take from us) (drop from us) (drop from nodes) r all.0), all.1, all_within us nodes (from + size r) to rs long all.2)

Within-prop : (n : ℕ) (r : Run) → IsProp (Within n r)
Within-prop n run.One = Prim.hlevel props
Within-prop n (run.Input xs) = Prim.hlevel props
Within-prop n (run.Register xs) = Prim.hlevel props
Within-prop n (run.Not xs) = Prim.hlevel props
Within-prop n (run.And xs) = Prim.hlevel props
Within-prop n (run.Or xs) = Prim.hlevel props
Within-prop n (run.Xor xs) = Prim.hlevel props
Within-prop n (run.Add xs) = Prim.hlevel props
Within-prop n (run.Sub xs) = Prim.hlevel props
Within-prop n (run.Mul xs) = Prim.hlevel props
Within-prop n (run.Same xs) = Prim.hlevel props
Within-prop n (run.Less xs) = Prim.hlevel props
Within-prop n (run.LessSigned xs) = Prim.hlevel props
Within-prop n (run.Shl xs) = Prim.hlevel props
Within-prop n (run.Shr xs) = Prim.hlevel props
Within-prop n (run.Sar xs) = Prim.hlevel props
Within-prop n (run.Known xs) = Prim.hlevel props
Within-prop n (run.Pick xs) = Prim.hlevel props
Within-prop n (run.Slice xs) = Prim.hlevel props
Within-prop n (run.Join xs) = Prim.hlevel props
Within-prop n (run.Extended xs) = Prim.hlevel props
Within-prop n (run.SignExtended xs) = Prim.hlevel props

pub AllWithin-prop : (all n : ℕ) (rs : List Run) → IsProp (AllWithin all n rs)
AllWithin-prop all n [] = Prim.hlevel props
AllWithin-prop all n (r ∷ rs) = Prim.hlevel (props, Within-prop n r, AllWithin-prop all (n + size r) rs)
