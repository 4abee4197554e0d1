-- Lists of calls on one part.
use Rattle.std.specs.Prelude.{◌≡◌, ℕ, ◌<◌, true, false, nat_eq, if◌then◌else◌, List, [], ◌∷◌, ◌++◌, filter, Option, Some, None, MatchOption}
use Rattle.std.specs.List.{AllByRecursion}
use Rattle.bsv_bits.specs.Words.{Bits}
use Rattle.bsv_prim.specs.Signals.{Signals}
use Rattle.bsv_prim.specs.Table.{Table, Call, CallFits, goes_before, word_at}
use Rattle.bsv_prim.specs.declared.part.Part.{Part}

-- the part after a call
abbrev pub after_call : Table → Part → Call → Part
after_call t p c = t.apply c.method p c.args

-- the part after calls in their order
abbrev pub after_calls : Table → Part → List Call → Part
after_calls t p [] = p
after_calls t p (c ∷ cs) = after_calls t (after_call t p c) cs

-- the guard of a call's method is true
abbrev pub IsReady : Table → Part → Call → Type 0
IsReady t p c = t.guard c.method p ≡ true

-- x may precede y: their relation is CF, SB or SBR
abbrev pub MayPrecede : Table → Call → Call → Type 0
MayPrecede t x y = goes_before (t.relation x.method y.method) ≡ true

-- each call may precede each later one
abbrev pub IsInOrder : Table → List Call → Type 0
IsInOrder t [] = Unit {0}
IsInOrder t (c ∷ cs) = AllByRecursion (MayPrecede t c) cs × IsInOrder t cs

-- an orderly list: each call fits, may precede each later one, and is ready where it is applied
abbrev pub IsOrderly : Table → Part → List Call → Type 0
IsOrderly t p [] = Unit {0}
IsOrderly t p (c ∷ cs) =
    CallFits t c × IsReady t p c × AllByRecursion (MayPrecede t c) cs × IsOrderly t (after_call t p c) cs

-- the calls that a method sees
abbrev pub seen_by : Table → ℕ → List Call → List Call
seen_by t y cs = filter (λ c. t.sees c.method y) cs

-- the part that a method looks at: after just the calls that it sees
abbrev pub look : Table → ℕ → Part → List Call → Part
look t y p cs = after_calls t p (seen_by t y cs)

-- each call is ready after the earlier ones that it sees; those before the list are given
abbrev pub IsReadyInLooks : Table → Part → List Call → List Call → Type 0
IsReadyInLooks t p before [] = Unit {0}
IsReadyInLooks t p before (c ∷ cs) = IsReady t (look t c.method p before) c × IsReadyInLooks t p (before ++ c ∷ []) cs

-- the arguments of the last call of a method, or else those given
abbrev pub latest : ℕ → Option (List Bits) → List Call → Option (List Bits)
latest m before [] = before
latest m before (c ∷ cs) = latest m (if nat_eq c.method m then Some c.args else before) cs

-- the signals tell which methods are called, and the arguments of the last call of each; where a
-- method is not called, its arguments are any words
abbrev pub Tells : Table → Signals → List Call → Type 0
Tells t v cs =
    (m : ℕ) → m < t.methods → MatchOption (latest m None cs) (v.called m ≡ false)
    (λ args. (v.called m ≡ true) × ((k : ℕ) → k < t.arity m → v.argument m k ≡ word_at args k))
