-- Every method of a typed module stands directly in its body, and so no rule of a tree has the name of a method.
use Rattle.std.proofs.Common.{◌≡◌, ℕ, List, map, Ok}
use Rattle.std.proofs.lemmas.Option.{slice_get_within}
use Rattle.bsv_lemmas.proofs.Places.{passes_at}
use Rattle.bsv_types.specs.declared.typed.Typed.{Typed}
use Rattle.bsv_types.specs.Modules.{header, module_right}
use Rattle.bsv_tree.specs.declared.tree.Built.{Built}
use Rattle.bsv_tree.specs.tree.Trees.{TreeData, IsModuleAt, AreNamed, world}
use Rattle.bsv_elab.specs.Building.{building}
use Rattle.bsv_elab.proofs.Directly.{method_stands}
use Rattle.bsv_elab.proofs.NamedBodies.{module_tests}
use Rattle.bsv_elab.proofs.NamedTop.{modules_right}
use Rattle.bsv_elab.proofs.NamedWhole.{AllDirect, named}

pub all_direct : (t : Typed) → AllDirect t
all_direct t k number m x is has =
    let right = passes_at (module_right (world t) (map header t.modules)) t.modules k m (modules_right t) is in
    let tests = module_tests (world t) (map header t.modules) m right in
    let stands = method_stands m tests.numbers number (slice_get_within m.methods number x has) in
    record { before = stands.before; statement = stands.own; after = stands.after; is = stands.body_is; out = stands.is_method }

pub all_named : (t : Typed) (name : List ℕ) (h : TreeData) → building t name ≡ Ok h → (n : ℕ) (b : Built)
    → IsModuleAt h.instances n b → AreNamed h.typed b
all_named t name h e n b at = named t name h e (all_direct t) n b at
