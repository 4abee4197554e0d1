-- Steps laid out as nodes, one after the other.
use Rattle.std.specs.Prelude.{ℕ, ◌+◌, Bool, true, false, List, [], ◌∷◌, ◌++◌, length, take, slice_get, Option, Some, None, if◌then◌else◌}
use Rattle.bsv_bits.specs.Words.{bit}
use Rattle.bsv_design.specs.declared.node.Node.{Node}
use Rattle.bsv_design.specs.declared.node.Node.TheVariants as node
use Rattle.bsv_tree.specs.declared.steps.Atom.{Atom}
use Rattle.bsv_tree.specs.declared.steps.Atom.TheVariants as atom
use Rattle.bsv_tree.specs.declared.steps.Compute.{Compute}
use Rattle.bsv_tree.specs.declared.steps.Compute.TheVariants as computed
use Rattle.bsv_tree.specs.declared.steps.MethodPlace.{MethodPlace}
use Rattle.bsv_tree.specs.declared.steps.Arm.{Arm, fold-Arm}
use Rattle.bsv_tree.specs.declared.steps.Choice.{Choice, fold-Choice}
use Rattle.bsv_tree.specs.declared.steps.Step.{Step, fold-Step}
use Rattle.bsv_tree.specs.declared.steps.Step.TheOpen.{Step-F, Choice-F, Arm-F}
use Rattle.bsv_design.specs.declared.node.Branch.{Branch}
use Rattle.bsv_body.specs.declared.calls.Call.{Call}
use Rattle.bsv_body.specs.declared.calls.Condition.{Condition}
use Rattle.bsv_body.specs.declared.state.Asked.{Asked}
use Rattle.bsv_body.specs.declared.state.State.{State}
use Rattle.bsv_body.specs.declared.choices.Given.{Given}
use Rattle.bsv_body.specs.declared.choices.Head.{Head}
use Rattle.bsv_body.specs.declared.choices.Joining.{Joining}
use Rattle.bsv_body.specs.declared.choices.Tested.{Tested}

-- ---- nodes

-- where steps stand: the node that is 1 where they are taken, and their arms, from the outside
pub record Position : Type 0 where
  pub taken : ℕ
  pub branches : List Branch

abbrev pub put : Node → State → State
put x s = record { nodes = s.nodes ++ x ∷ []; slots = s.slots; calls = s.calls; choices = s.choices }

-- one node more, with its place
abbrev pub placed : Node → State → ℕ × State
placed x s = (length s.nodes, put x s)

-- one value more, which is the next node
abbrev pub stand : Node → State → State
stand x s = record { nodes = s.nodes ++ x ∷ []; slots = s.slots ++ length s.nodes ∷ []; calls = s.calls; choices = s.choices }

-- the first values alone
abbrev pub cut : ℕ → State → State
cut count s = record { nodes = s.nodes; slots = take count s.slots; calls = s.calls; choices = s.choices }

-- and these after them
abbrev pub with_slots : List ℕ → State → State
with_slots more s = record { nodes = s.nodes; slots = s.slots ++ more; calls = s.calls; choices = s.choices }

abbrev pub one_call : State → ℕ × State
one_call s = (s.calls, record { nodes = s.nodes; slots = s.slots; calls = s.calls + 1; choices = s.choices })

abbrev pub one_choice : State → ℕ × State
one_choice s = (s.choices, record { nodes = s.nodes; slots = s.slots; calls = s.calls; choices = s.choices + 1 })

-- ---- what steps name

-- a value that does not stand, as no step names one, is 0
abbrev pub found : Option ℕ → State → ℕ × State
found (Some k) s = (k, s)
found None s = placed (node.Constant (bit false)) s

unfoldable pub operand : Atom → State → ℕ × State
operand (atom.Word w) s = placed (node.Constant w) s
operand (atom.Slot k) s = found (slice_get s.slots k) s

unfoldable pub operands_from : List ℕ → List Atom → State → List ℕ × State
operands_from ks [] s = (ks, s)
operands_from ks (x ∷ xs) s = let o = operand x s in operands_from (ks ++ o.0 ∷ []) xs o.1

unfoldable pub operands : List Atom → State → List ℕ × State
operands xs s = operands_from [] xs s

unfoldable pub compute : Compute → State → State
compute (computed.Not a) s = let x = operand a s in stand (node.Not x.0) x.1
compute (computed.Two o a b) s = let x = operand a s in let y = operand b x.1 in stand (node.Two o x.0 y.0) y.1
compute (computed.Pick t a b) s =
    let x = operand t s in let y = operand a x.1 in let z = operand b y.1 in stand (node.Pick x.0 y.0 z.0) z.1
compute (computed.Slice a high low) s = let x = operand a s in stand (node.Slice x.0 high low) x.1
compute (computed.Join a b) s = let x = operand a s in let y = operand b x.1 in stand (node.Join x.0 y.0) y.1
compute (computed.Extend a width) s = let x = operand a s in stand (node.Extend x.0 width) x.1
compute (computed.SignExtend a width) s = let x = operand a s in stand (node.SignExtend x.0 width) x.1

-- ---- what steps ask

abbrev pub nothing : Asked
nothing = record { calls = []; conditions = [] }

abbrev pub both : Asked → Asked → Asked
both a b = record { calls = a.calls ++ b.calls; conditions = a.conditions ++ b.conditions }

abbrev pub with_call : Call → Asked → Asked
with_call c a = record { calls = c ∷ a.calls; conditions = a.conditions }

abbrev pub with_condition : Condition → Asked → Asked
with_condition c a = record { calls = a.calls; conditions = c ∷ a.conditions }

abbrev pub call_at : Position → MethodPlace → Bool → List ℕ → Call
call_at p m action arguments = record { method = m; action = action; taken = p.taken; branches = p.branches; arguments = arguments }

-- what steps ask, and the nodes after them
abbrev pub Flat : Type 0
Flat = Position → State → Asked × State

unfoldable pub in_turn_from : Asked → List Flat → Flat
in_turn_from a [] p s = (a, s)
in_turn_from a (x ∷ xs) p s = let m = x p s in in_turn_from (both a m.0) xs p m.1

unfoldable pub in_turn : List Flat → Flat
in_turn xs p s = in_turn_from nothing xs p s

-- a call comes before those in its arguments
unfoldable pub called : Bool → MethodPlace → List Atom → List Flat → Position → State → (ℕ × Asked) × State
called action m atoms inner p s =
    let c = one_call s in
    let a = in_turn inner p c.1 in
    let x = operands atoms a.1 in
    ((c.0, with_call (call_at p m action x.0) a.0), x.1)

abbrev pub read : MethodPlace → List Atom → List Flat → Flat
read m atoms inner p s = let c = called false m atoms inner p s in (c.0.1, stand (node.Result c.0.0) c.1)

abbrev pub act : MethodPlace → List Atom → List Flat → Flat
act m atoms inner p s = let c = called true m atoms inner p s in (c.0.1, c.1)

unfoldable pub needed : Option MethodPlace → Atom → List Flat → Flat
needed name x inner p s =
    let a = in_turn inner p s in
    let o = operand x a.1 in
    (with_condition (record { name = name; truth = o.0; taken = p.taken }) a.0, o.1)

-- ---- choices

-- the node that is 0
abbrev pub no : ℕ
no = 1

-- an arm, with the steps of its condition
pub record Alternative : Type 0 where
  pub condition : List Flat
  pub test : Atom
  pub body : List Flat
  pub gives : List Atom

abbrev pub branches_in : Position → ℕ → ℕ → List Branch
branches_in p choice arm = p.branches ++ record { choice = choice; arm = arm } ∷ []

abbrev pub inside : Position → ℕ → ℕ → ℕ → Position
inside p taken choice arm = record { taken = taken; branches = branches_in p choice arm }

-- the values of the arm where the test is 1, else the others
unfoldable pub picks_from : ℕ → List ℕ → List ℕ → List ℕ → State → List ℕ × State
picks_from t ks (x ∷ xs) (y ∷ ys) s = let o = placed (node.Pick t x y) s in picks_from t (ks ++ o.0 ∷ []) xs ys o.1
picks_from t ks _ _ s = (ks, s)

unfoldable pub picks : ℕ → List ℕ → List ℕ → State → List ℕ × State
picks t xs ys s = picks_from t [] xs ys s

-- the steps of an arm, and the nodes of the values that it gives
unfoldable pub giving : List Flat → List Atom → Position → State → Given × State
giving steps gives p s =
    let a = in_turn steps p s in
    let g = operands gives a.1 in
    (record { given = g.0; asked = a.0 }, cut (length s.slots) g.1)

-- the nodes of a test after its condition
unfoldable pub tested : Alternative → Position → ℕ → State → Tested × State
tested x p left s =
    let c = in_turn x.condition p s in
    let t = operand x.test c.1 in
    let a = placed (node.Pick t.0 left no) t.1 in
    let b = placed (node.Pick t.0 no left) a.1 in
    (record { test = t.0; taken = a.0; left = b.0; asked = c.0 }, b.1)

-- an arm before the others, where the values of both are these nodes: what its condition asks comes first
abbrev pub joined_as : List ℕ → Head → Given → Given
joined_as given h d = record { given = given; asked = both h.asked (both h.body.asked d.asked) }

abbrev pub join_one : Head → Given × State → Given × State
join_one h d = let g = picks h.test h.body.given d.0.given d.1 in (joined_as g.0 h d.0, g.1)

unfoldable pub join_all : List Head → Given × State → Given × State
join_all [] d = d
join_all (h ∷ hs) d = join_one h (join_all hs d)

-- ---- the same from the last arm on, with what each of them asks for itself, the last one first

abbrev pub last_arm : Given → Joining
last_arm d = record { given = d.given; parts = d.asked ∷ [] }

abbrev pub before : List ℕ → Head → Joining → Joining
before given h j = record { given = given; parts = (j.parts ++ h.body.asked ∷ []) ++ h.asked ∷ [] }

abbrev pub join_before : Head → Joining × State → Joining × State
join_before h j = let g = picks h.test h.body.given j.0.given j.1 in (before g.0 h j.0, g.1)

abbrev pub in_text_order : List Asked → Asked
in_text_order [] = nothing
in_text_order (a ∷ others) = both (in_text_order others) a

abbrev pub joined : Joining → Given
joined j = record { given = j.given; asked = in_text_order j.parts }

-- ---- the arms of a choice

abbrev pub head_of : Tested → Given → Head
head_of t body = record { test = t.test; asked = t.asked; body = body }

-- an arm of a choice, and the node that is 1 where neither it nor one before it is taken
abbrev pub head : ℕ → ℕ → ℕ → Alternative → Position → State → (Head × ℕ) × State
head choice place left x p s =
    let t = tested x p left s in
    let b = giving x.body x.gives (inside p t.0.taken choice place) t.1 in
    ((head_of t.0 b.0, t.0.left), b.1)

unfoldable pub heads_from : ℕ → List Head → List Alternative → Position → ℕ → State → (List Head × ℕ) × State
heads_from choice hs [] p left s = ((hs, left), s)
heads_from choice hs (x ∷ xs) p left s =
    let h = head choice (length hs) left x p s in heads_from choice (hs ++ h.0.0 ∷ []) xs p h.0.1 h.1

-- one choice, whose conditions are in none of its arms
unfoldable pub arms : List Flat → List Atom → List Alternative → Position → State → Given × State
arms last gives xs p s =
    let n = one_choice s in
    let h = heads_from n.0 [] xs p p.taken n.1 in
    join_all h.0.0 (giving last gives (inside p h.0.1 n.0 (length h.0.0)) h.1)

-- an arm of a choice of its own, and where what comes after stands: in the last arm of that choice
unfoldable pub nest : Alternative → Position → State → (Head × ℕ × List Branch) × State
nest x p s =
    let t = tested x p p.taken s in
    let n = one_choice t.1 in
    let b = giving x.body x.gives (inside p t.0.taken n.0 0) n.1 in
    ((head_of t.0 b.0, t.0.left, branches_in p n.0 1), b.1)

unfoldable pub nest_from : List Head → List Alternative → Position → State → (List Head × Position) × State
nest_from hs [] p s = ((hs, p), s)
nest_from hs (x ∷ xs) p s =
    let h = nest x p s in nest_from (hs ++ h.0.0 ∷ []) xs (record { taken = h.0.1; branches = h.0.2 }) h.1

-- choices in one another
unfoldable pub nested : List Flat → List Atom → List Alternative → Position → State → Given × State
nested last gives xs p s = let h = nest_from [] xs p s in join_all h.0.0 (giving last gives h.0.1 h.1)

-- after a choice its values stand, and none of its conditions
abbrev pub closed : ℕ → Given × State → Asked × State
closed count g = (g.0.asked, with_slots g.0.given (cut count g.1))

unfoldable pub choose : Bool → List Flat → List Atom → List Alternative → Flat
choose is_nested last gives xs p s =
    if is_nested then closed (length s.slots) (nested last gives xs p s) else closed (length s.slots) (arms last gives xs p s)

-- ---- all steps

abbrev pub step_flat : Step-F Flat Alternative Flat → Flat
step_flat (Step-F.Let c) p s = (nothing, compute c s)
step_flat (Step-F.Read m atoms inner) p s = read m atoms inner p s
step_flat (Step-F.Act m atoms inner) p s = act m atoms inner p s
step_flat (Step-F.Need name x inner) p s = needed name x inner p s
step_flat (Step-F.Choose c) p s = c p s

abbrev pub choice_flat : Choice-F Flat Alternative Flat → Flat
choice_flat c p s = choose c.nested c.last c.gives c.arms p s

abbrev pub arm_flat : Arm-F Flat Alternative Flat → Alternative
arm_flat a = record { condition = a.condition; test = a.test; body = a.body; gives = a.gives }

unfoldable pub flat : Step → Flat
flat = fold-Step Flat Alternative Flat step_flat arm_flat choice_flat

unfoldable pub alternative : Arm → Alternative
alternative = fold-Arm Flat Alternative Flat step_flat arm_flat choice_flat

unfoldable pub choice : Choice → Flat
choice = fold-Choice Flat Alternative Flat step_flat arm_flat choice_flat
