-- The calls of one element can run one at a time by their ranks.
use Rattle.std.proofs.Common.{◌≡◌, Bool, List, [], ◌∷◌, ◌++◌, refl, ap, sym, subst, ◌∙◌}
use Rattle.std.specs.Prelude.{cond}
use Rattle.std.specs.List.{AllByRecursion}
use Rattle.bsv_prim.specs.Table.{Table, Call}
use Rattle.bsv_prim.specs.Laws.{Laws}
use Rattle.bsv_prim.specs.Calls.{IsReady, MayPrecede, IsInOrder, IsReadyInLooks, after_calls, seen_by}
use Rattle.bsv_prim.specs.Elements.{IsByRank, AreByRank, IsElement, ElementInTurn}
use Rattle.bsv_prim.specs.declared.part.Part.{Part}
use Rattle.bsv_prim.proofs.Orderly.{seen_by-append}
use Rattle.bsv_prim.proofs.Parallel.{in_turn_by_looks}

element_order : (t : Table) → Laws t → (cs : List Call) → AreByRank t cs → IsInOrder t cs
element_order t laws [] h = tt
element_order t laws (c ∷ cs) h = (firsts cs h.0, element_order t laws cs h.1)
  where
    firsts : (ds : List Call) → AllByRecursion (IsByRank t c) ds → AllByRecursion (MayPrecede t c) ds
    firsts [] k = tt
    firsts (d ∷ ds) k = (laws.table.by_rank c.method d.method k.0.beside k.0.unseen k.0.unseen_back k.0.rank, firsts ds k.1)

-- none of the calls before is seen by one of the list
abbrev AllUnseen : Table → List Call → List Call → Type 0
AllUnseen t before cs = AllByRecursion (λ c. seen_by t c.method before ≡ []) cs

unseen_snoc : (t : Table) (before cs : List Call) (c : Call) → AllUnseen t before cs → AllByRecursion (IsByRank t c) cs → AllUnseen t (before ++ c ∷ []) cs
unseen_snoc t before [] c h k = tt
unseen_snoc t before (d ∷ ds) c h k = (
  seen_by-append t d.method before (c ∷ [])
      ∙ ap (λ (xs : List Call). xs ++ seen_by t d.method (c ∷ [])) h.0
      ∙ ap (λ (b : Bool). cond b (c ∷ []) []) k.0.unseen,
  unseen_snoc t before ds c h.1 k.1,
)

element_looks : (t : Table) (p : Part) (before cs : List Call) → AllUnseen t before cs → AreByRank t cs → AllByRecursion (IsReady t p) cs → IsReadyInLooks t p before cs
element_looks t p before [] u h r = tt
element_looks t p before (c ∷ cs) u h r = (
  subst (λ (xs : List Call). IsReady t (after_calls t p xs) c) (sym u.0) r.0,
  element_looks t p (before ++ c ∷ []) cs (unseen_snoc t before cs c u.1 h.0) h.1 r.1,
)

all_unseen_at_first : (t : Table) (cs : List Call) → AllUnseen t [] cs
all_unseen_at_first t [] = tt
all_unseen_at_first t (c ∷ cs) = (refl, all_unseen_at_first t cs)

pub element_in_turn : (t : Table) → Laws t → ElementInTurn t
element_in_turn t laws p cs h =
    in_turn_by_looks t laws p cs h.part h.calls (element_order t laws cs h.ranks)
    (element_looks t p [] cs (all_unseen_at_first t cs) h.ranks h.ready)
