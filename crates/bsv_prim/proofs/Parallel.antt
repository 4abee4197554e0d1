-- Calls that fire side by side can run one at a time.
use Rattle.std.proofs.Common.{◌≡◌, ℕ, true, false, List, [], ◌∷◌, ◌++◌, append_assoc, append-nil, sym, subst, ap, ◌∙◌}
use Rattle.std.specs.List.{AllByRecursion}
use Rattle.bsv_prim.specs.Table.{Table, Call, CallFits}
use Rattle.bsv_prim.specs.Laws.{Laws}
use Rattle.bsv_prim.specs.Calls.{IsReady, MayPrecede, IsInOrder, IsOrderly, IsReadyInLooks, after_calls, look, seen_by}
use Rattle.bsv_prim.specs.Parallel.{IsParallel, RunInTurn, AnswerInTurn, SeeEarlier, SeenRunInTurn, StepInTurn}
use Rattle.bsv_prim.specs.declared.part.Part.{Part}
use Rattle.bsv_prim.proofs.Orderly.{all_snoc, fit_from_orderly, order_from_orderly, orderly_snoc}
use Rattle.bsv_prim.proofs.Seen.{ready_from_whole_looks, seen_from_earlier, all_seen_by, order_seen_by, looks_seen_by, seen_are_ready}

-- the calls before a list may precede each of it
abbrev AllBefore : Table → List Call → List Call → Type 0
AllBefore t before cs = AllByRecursion (λ c. AllByRecursion (λ b. MayPrecede t b c) before) cs

before_snoc : (t : Table) (before cs : List Call) (c : Call) → AllBefore t before cs → AllByRecursion (MayPrecede t c) cs → AllBefore t (before ++ c ∷ []) cs
before_snoc t before [] c h m = tt
before_snoc t before (d ∷ ds) c h m =
    (all_snoc (λ b. MayPrecede t b d) before c h.0 m.0, before_snoc t before ds c h.1 m.1)

nothing_before : (t : Table) (cs : List Call) → AllBefore t [] cs
nothing_before t [] = tt
nothing_before t (c ∷ cs) = (tt, nothing_before t cs)

-- the value calls of a list answer at their turns what they answer in their looks; those before the
-- list are given
abbrev AnswersAsInLooks : Table → Part → List Call → List Call → Type 0
AnswersAsInLooks t p before [] = Unit {0}
AnswersAsInLooks t p before (c ∷ cs) =
    (t.is_action c.method ≡ false → t.result c.method (after_calls t p before) c.args ≡ t.result c.method (look t c.method p before) c.args)
    × AnswersAsInLooks t p (before ++ c ∷ []) cs

orderly_on : (t : Table) (laws : Laws t) (p : Part) (before cs : List Call) → t.Fits p → IsOrderly t p before → AllBefore t before cs → AllByRecursion (CallFits t) cs → IsInOrder t cs → IsReadyInLooks t p before cs
    → IsOrderly t p (before ++ cs) × AnswersAsInLooks t p before cs
orderly_on t laws p before [] f o b k i r = (rw append-nil o, tt)
orderly_on t laws p before (c ∷ cs) f o b k i r =
    let ready = laws.look.ready p before c f o k.0 b.0 r.0 in
    let longer = orderly_snoc t p before c o k.0 b.0 ready in
    let rest = orderly_on t laws p (before ++ c ∷ []) cs f longer (before_snoc t before cs c b.1 i.0) k.1 i.1 r.1 in
    let whole = rest.0 in
    (rw append_assoc at whole, (λ value. laws.look.result p before c f o k.0 b.0 value r.0, rest.1))

-- calls that are each ready after the earlier ones that they see run one at a time
pub in_turn_by_looks : (t : Table) → Laws t → (p : Part) (cs : List Call) → t.Fits p → AllByRecursion (CallFits t) cs → IsInOrder t cs → IsReadyInLooks t p [] cs → IsOrderly t p cs
in_turn_by_looks t laws p cs f k i r = (orderly_on t laws p [] cs f tt (nothing_before t cs) k i r).0

pub looks_from_parallel : (t : Table) → Laws t → (p : Part) (cs : List Call) → IsParallel t p cs → IsReadyInLooks t p [] cs
looks_from_parallel t laws p cs h = ready_from_whole_looks t laws p cs h.order h.ready

pub run_in_turn : (t : Table) → Laws t → RunInTurn t
run_in_turn t laws p cs h =
    in_turn_by_looks t laws p cs h.part h.calls h.order (looks_from_parallel t laws p cs h)

-- the answer at a place of the list
answer_at : (t : Table) (p : Part) (front before behind : List Call) (c : Call) → AnswersAsInLooks t p front (before ++ c ∷ behind) → t.is_action c.method ≡ false
    → t.result c.method (after_calls t p (front ++ before)) c.args ≡ t.result c.method (look t c.method p (front ++ before)) c.args
answer_at t p front [] behind c h value = rw (append-nil front) (h.0 value)
answer_at t p front (b ∷ before) behind c h value =
    subst
    (λ (xs : List Call). t.result c.method (after_calls t p xs) c.args ≡ t.result c.method (look t c.method p xs) c.args)
    (append_assoc front (b ∷ []) before)
    (answer_at t p (front ++ b ∷ []) before behind c h.1 value)

-- a call of an ordered list may precede each that comes after it
order_at : (t : Table) (before behind : List Call) (c : Call) → IsInOrder t (before ++ c ∷ behind) → AllByRecursion (MayPrecede t c) behind
order_at t [] behind c h = h.0
order_at t (b ∷ before) behind c h = order_at t before behind c h.1

pub see_earlier : (t : Table) → Laws t → SeeEarlier t
see_earlier t laws before behind c h =
    seen_from_earlier t laws before c behind (order_at t before behind c h)

pub answer_in_turn : (t : Table) → Laws t → AnswerInTurn t
answer_in_turn t laws p before behind c h value =
    let cs = before ++ c ∷ behind in
    let all = (orderly_on t laws p [] cs h.part tt (nothing_before t cs) h.calls h.order (looks_from_parallel t laws p cs h)).1 in
    let same = see_earlier t laws before behind c h.order in
    answer_at t p [] before behind c all value
    ∙ ap (λ (xs : List Call). t.result c.method (after_calls t p xs) c.args) (sym same)

-- the calls of an orderly list that a method sees are an orderly list themselves, where each of them
-- is ready before all
pub seen_is_orderly : (t : Table) → Laws t → (y : ℕ) (p : Part) (cs : List Call) → t.Fits p → IsOrderly t p cs → AllByRecursion (λ c. t.sees c.method y ≡ true → IsReady t p c) cs → IsOrderly t p (seen_by t y cs)
seen_is_orderly t laws y p cs f o r =
    in_turn_by_looks t laws p (seen_by t y cs) f (all_seen_by t y (CallFits t) cs (fit_from_orderly t p cs o))
    (order_seen_by t y cs (order_from_orderly t p cs o))
    (looks_seen_by t laws y p [] cs r)

pub seen_run_in_turn : (t : Table) → Laws t → SeenRunInTurn t
seen_run_in_turn t laws p cs m h =
    seen_is_orderly t laws m p cs h.part (run_in_turn t laws p cs h) (seen_are_ready t laws m p [] cs (looks_from_parallel t laws p cs h))

pub step_in_turn : (t : Table) → Laws t → StepInTurn t
step_in_turn t laws p cs v h shown told =
    laws.next p cs v h.part shown (run_in_turn t laws p cs h) (looks_from_parallel t laws p cs h) told
