-- What the laws of a kind give: the calls of one element can run one at a time by their ranks, and
-- element after element. `elements_are_serial` promises it of every kind.
use Rattle.std.specs.Prelude.{◌≡◌, ◌≤◌, true, false, List, [], ◌∷◌, ◌++◌}
use Rattle.std.specs.List.{AllByRecursion}
use Rattle.bsv_prim.specs.Table.{Table, Call, CallFits, in_one_element}
use Rattle.bsv_prim.specs.Calls.{IsReady, MayPrecede, IsOrderly, after_calls}
use Rattle.bsv_prim.specs.declared.part.Part.{Part}

-- two calls that may be in one element, the first of them of no higher rank
pub record IsByRank (t : Table) (x y : Call) : Type 0 where
  pub beside : in_one_element (t.relation x.method y.method) ≡ true
  pub unseen : t.sees x.method y.method ≡ false
  pub unseen_back : t.sees y.method x.method ≡ false
  pub rank : t.rank x.method ≤ t.rank y.method

-- each two calls of a list are so
abbrev pub AreByRank : Table → List Call → Type 0
AreByRank t [] = Unit {0}
AreByRank t (c ∷ cs) = AllByRecursion (IsByRank t c) cs × AreByRank t cs

-- the calls of one element by rank on a fitting part: all are ready before the first of them
pub record IsElement (t : Table) (p : Part) (cs : List Call) : Type 0 where
  pub part : t.Fits p
  pub calls : AllByRecursion (CallFits t) cs
  pub ready : AllByRecursion (IsReady t p) cs
  pub ranks : AreByRank t cs

-- they can run one at a time in this order: each is ready at its turn
abbrev pub ElementInTurn : Table → Type 0
ElementInTurn t = (p : Part) (cs : List Call) → IsElement t p cs → IsOrderly t p cs

-- each call of the one list may precede each of the other
abbrev pub EachBefore : Table → List Call → List Call → Type 0
EachBefore t xs ys = AllByRecursion (λ x. AllByRecursion (MayPrecede t x) ys) xs

-- two orderly lists, of which the one goes before the other, are one orderly list
abbrev pub JoinInTurn : Table → Type 0
JoinInTurn t =
    (p : Part) (xs ys : List Call) → IsOrderly t p xs → IsOrderly t (after_calls t p xs) ys
    → EachBefore t xs ys → IsOrderly t p (xs ++ ys)

-- a part that fits does so after an orderly list
abbrev pub FitInTurn : Table → Type 0
FitInTurn t = (p : Part) (cs : List Call) → t.Fits p → IsOrderly t p cs → t.Fits (after_calls t p cs)
