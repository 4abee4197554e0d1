-- Which calls of an ordered list a call sees: earlier ones alone.
use Rattle.std.proofs.Common.{◌≡◌, ℕ, Bool, true, false, List, [], ◌∷◌, ◌++◌, ap, refl, sym, subst, ◌∙◌, append_assoc, append-nil}
use Rattle.std.specs.Prelude.{cond}
use Rattle.std.specs.List.{AllByRecursion}
use Rattle.std.proofs.lemmas.Bool.{false_from_ne_true}
use Rattle.bsv_prim.specs.Table.{Table, Call, CallFits, goes_before, converse}
use Rattle.bsv_prim.specs.Laws.{Laws}
use Rattle.bsv_prim.specs.Calls.{IsReady, MayPrecede, IsInOrder, IsReadyInLooks, look, seen_by, after_calls}
use Rattle.bsv_prim.specs.declared.part.Part.{Part}
use Rattle.bsv_prim.specs.declared.primitive.Rel.TheVariants.{Sa}
use Rattle.bsv_prim.proofs.Orderly.{seen_by-append}

-- a method does not see itself
pub unseen_by_itself : (t : Table) → Laws t → (m : ℕ) → t.sees m m ≡ false
unseen_by_itself t laws m =
    false_from_ne_true (t.sees m m) (λ seen. let none = laws.table.seen_sees_none m m m seen in let x : true ≡ false = sym seen ∙ none in cc)

-- a later call is never seen
pub later_unseen : (t : Table) → Laws t → (c d : Call) → MayPrecede t c d → t.sees d.method c.method ≡ false
later_unseen t laws c d before =
    false_from_ne_true (t.sees d.method c.method)
    (λ seen.
    let after : t.relation c.method d.method ≡ Sa = laws.table.dual d.method c.method ∙ ap converse (laws.table.seen_before d.method c.method seen) in
    let x : false ≡ true = sym (ap goes_before after) ∙ before in
    cc)

later_all_unseen : (t : Table) → Laws t → (c : Call) (cs : List Call) → AllByRecursion (MayPrecede t c) cs → seen_by t c.method cs ≡ []
later_all_unseen t laws c [] h = refl
later_all_unseen t laws c (d ∷ ds) h =
    ap (λ (b : Bool). cond b (d ∷ seen_by t c.method ds) (seen_by t c.method ds)) (later_unseen t laws c d h.0)
    ∙ later_all_unseen t laws c ds h.1

-- so that of a whole list, a call sees what it sees of the calls before it
pub seen_from_earlier : (t : Table) → Laws t → (before : List Call) (c : Call) (cs : List Call) → AllByRecursion (MayPrecede t c) cs → seen_by t c.method (before ++ c ∷ cs) ≡ seen_by t c.method before
seen_from_earlier t laws before c cs h =
    seen_by-append t c.method before (c ∷ cs)
    ∙ ap (λ (xs : List Call). seen_by t c.method before ++ xs)
    (ap (λ (b : Bool). cond b (c ∷ seen_by t c.method cs) (seen_by t c.method cs)) (unseen_by_itself t laws c.method) ∙ later_all_unseen t laws c cs h)
    ∙ append-nil (seen_by t c.method before)

-- calls of an ordered list that are each ready after all that they see of it are so after the earlier ones
ready_on : (t : Table) → Laws t → (p : Part) (before cs : List Call) → IsInOrder t cs → AllByRecursion (λ c. IsReady t (look t c.method p (before ++ cs)) c) cs → IsReadyInLooks t p before cs
ready_on t laws p before [] i r = tt
ready_on t laws p before (c ∷ cs) i r =
    let same = seen_from_earlier t laws before c cs i.0 in
    let shift : before ++ c ∷ cs ≡ (before ++ c ∷ []) ++ cs = sym (append_assoc before (c ∷ []) cs) in (
      subst (λ (xs : List Call). IsReady t (after_calls t p xs) c) same r.0,
      ready_on t laws p (before ++ c ∷ []) cs i.1 (subst (λ (xs : List Call). AllByRecursion (λ d. IsReady t (look t d.method p xs) d) cs) shift r.1),
    )

pub ready_from_whole_looks : (t : Table) → Laws t → (p : Part) (cs : List Call) → IsInOrder t cs → AllByRecursion (λ c. IsReady t (look t c.method p cs) c) cs → IsReadyInLooks t p [] cs
ready_from_whole_looks t laws p cs i r = ready_on t laws p [] cs i r

-- who sees nothing looks at the part itself
pub sees_nothing : (t : Table) (y : ℕ) → ((m : ℕ) → t.sees m y ≡ false) → (cs : List Call) → seen_by t y cs ≡ []
sees_nothing t y h [] = refl
sees_nothing t y h (c ∷ cs) =
    ap (λ (b : Bool). cond b (c ∷ seen_by t y cs) (seen_by t y cs)) (h c.method) ∙ sees_nothing t y h cs

pub all_seen_by : (t : Table) (y : ℕ) (P : Call → Type 0) (cs : List Call) → AllByRecursion P cs → AllByRecursion P (seen_by t y cs)
all_seen_by t y P [] h = tt
all_seen_by t y P (c ∷ cs) h = cases (t.sees c.method y) (all_seen_by t y P cs h.1)
  where
    cases : (b : Bool) → AllByRecursion P (seen_by t y cs) → AllByRecursion P (cond b (c ∷ seen_by t y cs) (seen_by t y cs))
    cases true rest = (h.0, rest)
    cases false rest = rest

pub order_seen_by : (t : Table) (y : ℕ) (cs : List Call) → IsInOrder t cs → IsInOrder t (seen_by t y cs)
order_seen_by t y [] h = tt
order_seen_by t y (c ∷ cs) h = cases (t.sees c.method y) (order_seen_by t y cs h.1)
  where
    cases : (b : Bool) → IsInOrder t (seen_by t y cs) → IsInOrder t (cond b (c ∷ seen_by t y cs) (seen_by t y cs))
    cases true rest = (all_seen_by t y (MayPrecede t c) cs h.0, rest)
    cases false rest = rest

pub looks_seen_by : (t : Table) → Laws t → (y : ℕ) (p : Part) (before cs : List Call) → AllByRecursion (λ c. t.sees c.method y ≡ true → IsReady t p c) cs → IsReadyInLooks t p before (seen_by t y cs)
looks_seen_by t laws y p before [] h = tt
looks_seen_by t laws y p before (c ∷ cs) h =
    cases (t.sees c.method y) refl (looks_seen_by t laws y p (before ++ c ∷ []) cs h.1) (looks_seen_by t laws y p before cs h.1)
  where
    cases : (b : Bool) → t.sees c.method y ≡ b → IsReadyInLooks t p (before ++ c ∷ []) (seen_by t y cs) → IsReadyInLooks t p before (seen_by t y cs) → IsReadyInLooks t p before (cond b (c ∷ seen_by t y cs) (seen_by t y cs))
    cases true e with_it without = (
      subst (λ (xs : List Call). IsReady t (after_calls t p xs) c) (sym (sees_nothing t c.method (λ k. laws.table.seen_sees_none k c.method y e) before)) (h.0 e),
      with_it,
    )
    cases false e with_it without = without

-- each call that a method sees is ready before all, where all are ready in their looks
pub seen_are_ready : (t : Table) → Laws t → (y : ℕ) (p : Part) (before cs : List Call) → IsReadyInLooks t p before cs → AllByRecursion (λ c. t.sees c.method y ≡ true → IsReady t p c) cs
seen_are_ready t laws y p before [] h = tt
seen_are_ready t laws y p before (c ∷ cs) h = (
  λ e. subst (λ (xs : List Call). IsReady t (after_calls t p xs) c) (sees_nothing t c.method (λ k. laws.table.seen_sees_none k c.method y e) before) h.0,
  seen_are_ready t laws y p (before ++ c ∷ []) cs h.1,
)
