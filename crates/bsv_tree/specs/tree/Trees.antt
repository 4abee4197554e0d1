-- What holds of every tree of a design: its variables are what their types say, its names are in order, its attributes
-- name rules, no module is inside itself, and carrying out its elements meets no refusal.
use Rattle.std.specs.Prelude.{◌≡◌, ℕ, ◌+◌, ◌≤◌, ◌<◌, IsTrue, List, [], ◌∷◌, map, take, length, slice_get, Option, Some, None, Result, Ok, Err}
use Rattle.bsv_ast.specs.Names.{is_lower}
use Rattle.bsv_types.specs.declared.modules.Method.{Method}
use Rattle.bsv_types.specs.declared.modules.Module.{Module}
use Rattle.bsv_types.specs.declared.modules.Rule.{Rule}
use Rattle.bsv_types.specs.declared.typed.Typed.{Typed}
use Rattle.bsv_types.specs.Expressions.{Slot, one, many, Frame, World}
use Rattle.bsv_types.specs.Kinds.{Kind as Sort, part, bare, kind}
use Rattle.bsv_types.specs.Methods.{methods}
use Rattle.bsv_types.specs.Modules.{rule_right, method_right}
use Rattle.bsv_types.specs.Programs.{call_of}
use Rattle.bsv_types.specs.Shapes.{Shapes, is_value}
use Rattle.bsv_design.specs.declared.kind.Kind.{Kind}
use Rattle.bsv_design.specs.declared.kind.Kind.TheVariants as kinds
use Rattle.bsv_tree.specs.declared.statics.Binding.{Binding}
use Rattle.bsv_tree.specs.declared.statics.Static.{Static}
use Rattle.bsv_tree.specs.declared.statics.Static.TheVariants as static
use Rattle.bsv_design.specs.declared.attributes.Assert.{Assert}
use Rattle.bsv_tree.specs.declared.tree.Built.{Built}
use Rattle.bsv_tree.specs.declared.tree.BuiltRule.{BuiltRule}
use Rattle.bsv_tree.specs.declared.tree.Instance.{Instance}
use Rattle.bsv_tree.specs.declared.tree.Made.{Made}
use Rattle.bsv_tree.specs.declared.tree.Made.TheVariants as made
use Rattle.bsv_design.specs.declared.attributes.Pair.{Pair}
use Rattle.bsv_tree.specs.tree.Widths.{width}
use Rattle.bsv_tree.specs.tree.Contexts.{Context, made_of}
use Rattle.bsv_tree.specs.tree.Methods.{is_kind_of}
use Rattle.bsv_tree.specs.carrying.Carrying as carrying
use Rattle.bsv_tree.specs.carrying.Working.{no_steps}
use Rattle.bsv_design.specs.design.Paths.{IsPath, IsInside}

-- what a tree is made of
pub record TreeData : Type 0 where
  pub typed : Typed
  pub top : ℕ
  pub instances : List Instance
  pub pairs : List Pair
  pub asserts : List Assert
  pub weight : ℕ

-- ---- what is where

abbrev pub shapes : Typed → Shapes
shapes t = record { enums = t.enums; structs = t.structs; interfaces = t.interfaces }

abbrev pub world : Typed → World
world t = record { shapes = shapes t; functions = map call_of t.functions }

-- the instance of the number is of a module
abbrev pub IsModuleAt : List Instance → ℕ → Built → Type 0
IsModuleAt is n b = made_of (slice_get is n) ≡ Some (made.Module b)

-- a rule of an instance of a module
pub record HasRule (is : List Instance) (r : BuiltRule) : Type 0 where
  pub instance : ℕ
  pub built : Built
  pub at : IsModuleAt is instance built
  pub place : ℕ
  pub has : slice_get built.rules place ≡ Some r

-- ---- targets

-- how many bits that an instance of the kind holds
abbrev pub held_width : Kind → ℕ
held_width (kinds.Reg k) = k.width
held_width (kinds.RegU k) = k.width
held_width (kinds.Wire k) = k.width
held_width (kinds.DWire k) = k.width
held_width (kinds.RWire k) = k.width
held_width (kinds.Pulse k) = 1
held_width (kinds.Plain k) = k.width
held_width (kinds.Pipeline k) = k.width
held_width (kinds.Bypass k) = k.width

abbrev pub interface_of : Option Module → Option Sort
interface_of None = None
interface_of (Some m) = Some (kind m.interface)

-- what is made has an interface of this type
abbrev pub Provides : Typed → Sort → Made → Type 0
Provides t k (made.Module b) = interface_of (slice_get t.modules b.«module») ≡ Some k
Provides t (part p k) (made.Primitive q made) = (p ≡ q) × IsTrue (is_kind_of p made) × (held_width made ≡ width (shapes t) k)
Provides t (bare p) (made.Primitive q made) = (p ≡ q) × IsTrue (is_kind_of p made)
Provides t _ _ = ⊥

-- an instance of this type has the number
pub record Stands (t : Typed) (is : List Instance) (k : Sort) (n : ℕ) : Type 0 where
  pub what : Made
  pub at : made_of (slice_get is n) ≡ Some what
  pub provides : Provides t k what

-- a place in an array holds nothing, or an instance of this type
abbrev pub MayStand : Typed → List Instance → Sort → Option ℕ → Type 0
MayStand t is k None = Unit {0}
MayStand t is k (Some n) = Stands t is k n

abbrev pub AllMayStand : Typed → List Instance → Sort → List (Option ℕ) → Type 0
AllMayStand t is k [] = Unit {0}
AllMayStand t is k (n ∷ ns) = MayStand t is k n × AllMayStand t is k ns

-- a variable holds what its type says: an instance, an array of instances, or else a value
abbrev pub Fits : Typed → List Instance → Slot → Static → Type 0
Fits t is (one k) (static.Place n) = Stands t is k n
Fits t is (one k) (static.Places ns) = ⊥
Fits t is (one k) x = IsTrue (is_value (shapes t) k)
Fits t is (many k) (static.Places ns) = AllMayStand t is k ns
Fits t is (many k) x = ⊥

-- the variables of a scope, one for each of its levels
abbrev pub AllFit : Typed → List Instance → Frame → List Binding → Type 0
AllFit t is [] [] = Unit {0}
AllFit t is (s ∷ ss) (b ∷ bs) = Fits t is s b.value × AllFit t is ss bs
AllFit t is _ _ = ⊥

-- the variables that a rule sees are those of a scope in which the rule is typed
pub record RuleAgrees (t : Typed) (is : List Instance) (m : Module) (r : BuiltRule) : Type 0 where
  pub frame : Frame
  pub typed : IsTrue (rule_right (world t) frame (slice_get m.rules r.rule))
  pub fits : AllFit t is frame r.bindings

-- and so are those that a method sees
pub record MethodAgrees (t : Typed) (is : List Instance) (m : Module) (b : Built) (number levels : ℕ) : Type 0 where
  pub frame : Frame
  pub typed : IsTrue (method_right (world t) frame (slice_get (methods (shapes t) (kind m.interface)) number) (slice_get m.methods number))
  pub fits : AllFit t is frame (take levels b.bindings)

-- targets, arities and widths agree in an instance of a module
pub record Agrees (t : Typed) (is : List Instance) (b : Built) : Type 0 where
  pub «module» : Module
  pub of : slice_get t.modules b.«module» ≡ Some «module»
  pub rules : (place : ℕ) (r : BuiltRule) → slice_get b.rules place ≡ Some r → RuleAgrees t is «module» r
  pub as_many : length b.methods ≡ length «module».methods
  pub methods : (number levels : ℕ) → slice_get b.methods number ≡ Some levels → MethodAgrees t is «module» b number levels

-- ---- names

abbrev pub methods_of : Option Module → List Method
methods_of None = []
methods_of (Some m) = m.methods

-- the rules and methods of an instance have names, and no two of them share one
pub record AreNamed (t : Typed) (b : Built) : Type 0 where
  pub lower : (place : ℕ) (r : BuiltRule) → slice_get b.rules place ≡ Some r → IsTrue (is_lower r.name)
  pub rules : (i j : ℕ) (r s : BuiltRule) → slice_get b.rules i ≡ Some r → slice_get b.rules j ≡ Some s → r.name ≡ s.name → i ≡ j
  pub apart : (i number : ℕ) (r : BuiltRule) (m : Method) → slice_get b.rules i ≡ Some r
      → slice_get (methods_of (slice_get t.modules b.«module»)) number ≡ Some m → r.name ≡ m.name → ⊥

-- ---- positions

abbrev pub rules_in : Made → ℕ
rules_in (made.Primitive p k) = 0
rules_in (made.Module b) = length b.rules

abbrev pub rule_count : List Instance → ℕ
rule_count [] = 0
rule_count (i ∷ is) = rules_in i.made + rule_count is

-- the rules have the positions after the methods of the top, each one of its own
pub record ArePlaced (methods : ℕ) (is : List Instance) : Type 0 where
  pub behind : (r : BuiltRule) → HasRule is r → methods ≤ r.position
  pub within : (r : BuiltRule) → HasRule is r → r.position < methods + rule_count is
  pub alone : (r s : BuiltRule) (a : HasRule is r) (b : HasRule is s) → r.position ≡ s.position → (a.instance ≡ b.instance) × (a.place ≡ b.place)

-- the position is that of a rule
pub record IsRule (is : List Instance) (position : ℕ) : Type 0 where
  pub rule : BuiltRule
  pub has : HasRule is rule
  pub at : rule.position ≡ position

abbrev pub PairsNameRules : List Instance → List Pair → Type 0
PairsNameRules is [] = Unit {0}
PairsNameRules is (p ∷ ps) = IsRule is p.before × IsRule is p.after × PairsNameRules is ps

abbrev pub AssertsNameRules : List Instance → List Assert → Type 0
AssertsNameRules is [] = Unit {0}
AssertsNameRules is (a ∷ others) = IsRule is a.rule × AssertsNameRules is others

-- ---- carrying out

-- what is at hand where the text of a module of the tree is carried out
abbrev pub site_of : Typed → List Instance → ℕ → List Binding → Context
site_of t is number bs = record {
  shapes = shapes t;
  functions = t.functions;
  modules = t.modules;
  instances = is;
  within = number;
  bindings = bs;
}

abbrev pub IsAccepted : {A E : Type 0} → Result A E → Type 0
IsAccepted (Ok x) = Unit {0}
IsAccepted (Err e) = ⊥

-- carrying out a rule meets no refusal
abbrev pub RuleIsAccepted : Typed → List Instance → Built → BuiltRule → Rule → Type 0
RuleIsAccepted t is b r source =
    IsAccepted (carrying.rule (site_of t is b.«module» r.bindings) source.condition source.body (no_steps (record { weight = 0; slots = 0 })))

abbrev pub MethodIsAccepted : Typed → List Instance → Built → ℕ → Method → Type 0
MethodIsAccepted t is b levels m = IsAccepted (carrying.top_method (site_of t is b.«module» (take levels b.bindings)) m 0)

-- ---- the whole

pub record IsTop (t : Typed) (top : ℕ) (is : List Instance) (b : Built) : Type 0 where
  pub first : slice_get is 0 ≡ Some (record { path = []; made = made.Module b })
  pub of : b.«module» ≡ top

pub record IsTree (h : TreeData) : Type 0 where
  -- the top is the first instance
  pub built : Built
  pub top : IsTop h.typed h.top h.instances built
  pub agrees : (n : ℕ) (b : Built) → IsModuleAt h.instances n b → Agrees h.typed h.instances b
  pub paths : (n : ℕ) (i : Instance) → slice_get h.instances n ≡ Some i → IsPath i.path
  pub apart : (m n : ℕ) (i j : Instance) → slice_get h.instances m ≡ Some i → slice_get h.instances n ≡ Some j → i.path ≡ j.path → m ≡ n
  pub named : (n : ℕ) (b : Built) → IsModuleAt h.instances n b → AreNamed h.typed b
  -- no module is made inside itself
  pub inside : (i j : Instance) (b c : Built) → (m n : ℕ) → slice_get h.instances m ≡ Some i → slice_get h.instances n ≡ Some j
      → i.made ≡ made.Module b → j.made ≡ made.Module c → IsInside i.path j.path → b.«module» ≡ c.«module» → ⊥
  pub placed : ArePlaced (length (methods_of (slice_get h.typed.modules h.top))) h.instances
  pub pairs : PairsNameRules h.instances h.pairs
  pub asserts : AssertsNameRules h.instances h.asserts
  -- carrying out the rules, and the methods of the top, meets no refusal
  pub rules : (n : ℕ) (b : Built) → IsModuleAt h.instances n b → (place : ℕ) (r : BuiltRule) → slice_get b.rules place ≡ Some r
      → (m : Module) → slice_get h.typed.modules b.«module» ≡ Some m → (source : Rule) → slice_get m.rules r.rule ≡ Some source
      → RuleIsAccepted h.typed h.instances b r source
  pub methods : (number levels : ℕ) → slice_get built.methods number ≡ Some levels → (m : Method)
      → slice_get (methods_of (slice_get h.typed.modules built.«module»)) number ≡ Some m → MethodIsAccepted h.typed h.instances built levels m
