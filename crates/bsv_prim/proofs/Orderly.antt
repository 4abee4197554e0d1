-- Orderly lists of calls, one after the other.
use Rattle.std.proofs.Common.{◌≡◌, ℕ, Bool, true, false, List, [], ◌∷◌, ◌++◌, refl, ap, Option, Some}
use Rattle.std.specs.Prelude.{cond, nat_eq, if◌then◌else◌}
use Rattle.std.specs.List.{AllByRecursion}
use Rattle.bsv_bits.specs.Words.{Bits}
use Rattle.bsv_prim.specs.Table.{Table, Call, CallFits}
use Rattle.bsv_prim.specs.Laws.{Laws}
use Rattle.bsv_prim.specs.Calls.{IsReady, MayPrecede, IsInOrder, IsOrderly, seen_by, after_call, after_calls, latest}
use Rattle.bsv_prim.specs.Elements.{EachBefore, JoinInTurn, FitInTurn}
use Rattle.bsv_prim.specs.declared.part.Part.{Part}

pub all_snoc : (P : Call → Type 0) (cs : List Call) (c : Call) → AllByRecursion P cs → P c → AllByRecursion P (cs ++ c ∷ [])
all_snoc P [] c h q = (q, tt)
all_snoc P (d ∷ ds) c h q = (h.0, all_snoc P ds c h.1 q)

pub all_append : (P : Call → Type 0) (xs ys : List Call) → AllByRecursion P xs → AllByRecursion P ys → AllByRecursion P (xs ++ ys)
all_append P [] ys h k = k
all_append P (x ∷ xs) ys h k = (h.0, all_append P xs ys h.1 k)

pub after_calls-append : (t : Table) (p : Part) (xs ys : List Call) → after_calls t p (xs ++ ys) ≡ after_calls t (after_calls t p xs) ys
after_calls-append t p [] ys = refl
after_calls-append t p (x ∷ xs) ys = after_calls-append t (after_call t p x) xs ys

pub seen_by-append : (t : Table) (y : ℕ) (xs ys : List Call) → seen_by t y (xs ++ ys) ≡ seen_by t y xs ++ seen_by t y ys
seen_by-append t y [] ys = refl
seen_by-append t y (x ∷ xs) ys = cases (t.sees x.method y) (seen_by-append t y xs ys)
  where
    cases : (b : Bool) → seen_by t y (xs ++ ys) ≡ seen_by t y xs ++ seen_by t y ys → cond b (x ∷ seen_by t y (xs ++ ys)) (seen_by t y (xs ++ ys)) ≡ cond b (x ∷ seen_by t y xs) (seen_by t y xs) ++ seen_by t y ys
    cases true e = ap (λ (cs : List Call). x ∷ cs) e
    cases false e = e

pub latest-append : (m : ℕ) (o : Option (List Bits)) (xs ys : List Call) → latest m o (xs ++ ys) ≡ latest m (latest m o xs) ys
latest-append m o [] ys = refl
latest-append m o (x ∷ xs) ys = latest-append m (if nat_eq x.method m then Some x.args else o) xs ys

-- an append of orderly lists is orderly
pub orderly_append : (t : Table) → JoinInTurn t
orderly_append t p [] ys h k b = k
orderly_append t p (x ∷ xs) ys h k b =
    (h.0, h.1, all_append (MayPrecede t x) xs ys h.2 b.0, orderly_append t (after_call t p x) xs ys h.3 k b.1)

-- the part fits after an orderly list
pub fits_after : (t : Table) → Laws t → FitInTurn t
fits_after t laws p [] f h = f
fits_after t laws p (c ∷ cs) f h = fits_after t laws (after_call t p c) cs (laws.fit.applied p c f h.0 h.1) h.3

pub fit_from_orderly : (t : Table) (p : Part) (cs : List Call) → IsOrderly t p cs → AllByRecursion (CallFits t) cs
fit_from_orderly t p [] h = tt
fit_from_orderly t p (c ∷ cs) h = (h.0, fit_from_orderly t (after_call t p c) cs h.3)

pub order_from_orderly : (t : Table) (p : Part) (cs : List Call) → IsOrderly t p cs → IsInOrder t cs
order_from_orderly t p [] h = tt
order_from_orderly t p (c ∷ cs) h = (h.2, order_from_orderly t (after_call t p c) cs h.3)

-- one more call after an orderly list
pub orderly_snoc : (t : Table) (p : Part) (cs : List Call) (c : Call) → IsOrderly t p cs → CallFits t c → AllByRecursion (λ b. MayPrecede t b c) cs → IsReady t (after_calls t p cs) c → IsOrderly t p (cs ++ c ∷ [])
orderly_snoc t p [] c o f b r = (f, r, tt, tt)
orderly_snoc t p (d ∷ ds) c o f b r =
    (o.0, o.1, all_snoc (MayPrecede t d) ds c o.2 b.0, orderly_snoc t (after_call t p d) ds c o.3 f b.1 r)
