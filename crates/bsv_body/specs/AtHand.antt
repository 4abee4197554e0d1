-- For each method of the code the definition of its name, with what is at hand in front.
use Rattle.std.specs.Prelude.{ℕ, Bool, List, [], map, Option}
use Rattle.bsv_design.specs.declared.node.Branch.{Branch}
use Rattle.bsv_tree.specs.declared.steps.Arm.{Arm}
use Rattle.bsv_tree.specs.declared.steps.Atom.{Atom}
use Rattle.bsv_tree.specs.declared.steps.Choice.{Choice, out-Choice}
use Rattle.bsv_tree.specs.declared.steps.MethodPlace.{MethodPlace}
use Rattle.bsv_tree.specs.declared.steps.Step.{Step}
use Rattle.bsv_body.specs.declared.flattener.Flattener.{Flattener}
use Rattle.bsv_body.specs.declared.calls.Call.{Call}
use Rattle.bsv_body.specs.declared.state.Asked.{Asked}
use Rattle.bsv_body.specs.declared.state.State.{State}
use Rattle.bsv_body.specs.declared.choices.Given.{Given}
use Rattle.bsv_body.specs.declared.choices.Head.{Head}
use Rattle.bsv_body.specs.declared.choices.Tested.{Tested}
use Rattle.bsv_design.specs.declared.node.Node.TheVariants as node
use Rattle.bsv_body.specs.Flat as flat
use Rattle.bsv_body.specs.Flat.{Position}

abbrev pub position : Flattener → Position
position b = record { taken = b.taken; branches = b.branches.now }

abbrev pub branches_in : Flattener → ℕ → ℕ → List Branch
branches_in b choice arm = flat.branches_in (position b) choice arm

abbrev pub call : Flattener → MethodPlace → Bool → List ℕ → Call
call b m action arguments = flat.call_at (position b) m action arguments

abbrev pub steps : Flattener → List Step → State → Asked × State
steps b xs s = flat.in_turn (map flat.flat xs) (position b) s

abbrev pub call_after : Flattener → MethodPlace → Bool → List Atom → Asked → State → Asked × State
call_after b m action atoms asked s = let x = flat.operands atoms s in (flat.with_call (call b m action x.0) asked, x.1)

abbrev pub called : Flattener → Bool → MethodPlace → List Atom → List Step → State → (ℕ × Asked) × State
called b action m atoms inner s = flat.called action m atoms (map flat.flat inner) (position b) s

abbrev pub read : Flattener → MethodPlace → List Atom → List Step → State → Asked × State
read b m atoms inner s = flat.read m atoms (map flat.flat inner) (position b) s

abbrev pub act : Flattener → MethodPlace → List Atom → List Step → State → Asked × State
act b m atoms inner s = flat.act m atoms (map flat.flat inner) (position b) s

abbrev pub need : Flattener → Option MethodPlace → Atom → List Step → State → Asked × State
need b name x inner s = flat.needed name x (map flat.flat inner) (position b) s

abbrev pub giving : Flattener → List Step → List Atom → State → Given × State
giving b xs gives s = flat.giving (map flat.flat xs) gives (position b) s

abbrev pub two_operands : Atom → Atom → State → (ℕ × ℕ) × State
two_operands x y s = let a = flat.operand x s in let b = flat.operand y a.1 in ((a.0, b.0), b.1)

abbrev pub test_nodes : Atom → ℕ → State → (ℕ × ℕ × ℕ) × State
test_nodes test left s =
    let t = flat.operand test s in
    let a = flat.placed (node.Pick t.0 left flat.no) t.1 in
    let b = flat.placed (node.Pick t.0 flat.no left) a.1 in
    ((t.0, a.0, b.0), b.1)

abbrev pub tested : Flattener → Arm → ℕ → State → Tested × State
tested b arm left s = flat.tested (flat.alternative arm) (position b) left s

abbrev pub body_in : Flattener → ℕ → ℕ → ℕ → Arm → State → Given × State
body_in b choice place taken arm s =
    flat.giving (flat.alternative arm).body (flat.alternative arm).gives (flat.inside (position b) taken choice place) s

abbrev pub head : Flattener → ℕ → ℕ → ℕ → Arm → State → (Head × ℕ) × State
head b choice place left arm s = flat.head choice place left (flat.alternative arm) (position b) s

abbrev pub heads : Flattener → ℕ → List Arm → State → (List Head × ℕ) × State
heads b choice xs s = flat.heads_from choice [] (map flat.alternative xs) (position b) b.taken s

abbrev pub last : Flattener → List Branch → ℕ → Choice → State → Given × State
last b branches left c s = flat.giving (map flat.flat (out-Choice c).last) (out-Choice c).gives (record { taken = left; branches = branches }) s

abbrev pub last_after : Flattener → ℕ → ℕ → ℕ → Choice → State → Given × State
last_after b number before left c s = last b (branches_in b number before) left c s

abbrev pub arms : Flattener → Choice → State → Given × State
arms b c s = flat.arms (map flat.flat (out-Choice c).last) (out-Choice c).gives (map flat.alternative (out-Choice c).arms) (position b) s

abbrev pub nested_body : Flattener → ℕ → Arm → State → (Given × List Branch) × State
nested_body b taken arm s =
    let n = flat.one_choice s in
    let g = body_in b n.0 0 taken arm n.1 in
    ((g.0, branches_in b n.0 1), g.1)

abbrev pub nest : Flattener → Arm → State → (Head × ℕ × List Branch) × State
nest b arm s = flat.nest (flat.alternative arm) (position b) s

abbrev pub nests : Flattener → List Arm → State → (List Head × ℕ × List Branch) × State
nests b xs s = let h = flat.nest_from [] (map flat.alternative xs) (position b) s in ((h.0.0, h.0.1.taken, h.0.1.branches), h.1)

abbrev pub nested : Flattener → Choice → State → Given × State
nested b c s = flat.nested (map flat.flat (out-Choice c).last) (out-Choice c).gives (map flat.alternative (out-Choice c).arms) (position b) s

abbrev pub choose : Flattener → Choice → State → Asked × State
choose b c s = flat.choice c (position b) s

abbrev pub step : Flattener → Step → State → Asked × State
step b x s = flat.flat x (position b) s
