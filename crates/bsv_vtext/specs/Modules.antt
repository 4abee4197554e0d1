-- What holds of every module, rule by rule.
use Rattle.std.specs.Prelude.{◌≡◌, ℕ, ◌<◌, Bool, true, false, not, ◌&&◌, ◌||◌, ◌==◌, if◌then◌else◌, IsTrue, List, [], ◌∷◌, length, slice_get, Option, Some, None, codes}
use Rattle.std.specs.Option.{option_map}
use Rattle.std.specs.List.{list_all}
use Rattle.bsv_bits.specs.Words.{IsWord}
use Rattle.bsv_ast.specs.Names.{begins_name, is_word, is_keyword, is_lower}
use Rattle.bsv_vtext.specs.declared.tree.VMethod.{VMethod}
use Rattle.bsv_vtext.specs.declared.tree.VRegister.{VRegister}
use Rattle.bsv_vtext.specs.declared.tree.VWire.{VWire}
use Rattle.bsv_vtext.specs.declared.tree.Assign.{Assign}
use Rattle.bsv_vtext.specs.declared.tree.Atom.{Atom}
use Rattle.bsv_vtext.specs.declared.tree.Atom.TheVariants as atom
use Rattle.bsv_vtext.specs.declared.tree.Target.{Target}
use Rattle.bsv_vtext.specs.declared.tree.Target.TheVariants as target
use Rattle.bsv_vtext.specs.Signals.{VModuleData, argument_name, enable_name, ready_name, fire_name}
use Rattle.bsv_vtext.specs.Widths.{width_fits, atom_width, target_width, Fits}

-- ---- names

-- a letter, a digit, `_` or `$`
abbrev pub is_name_byte : ℕ → Bool
is_name_byte b = is_word b || b == 36

-- a letter or `_`, and then letters, digits, `_` and `$`; no keyword
abbrev pub is_signal_name : List ℕ → Bool
is_signal_name [] = false
is_signal_name (b ∷ bytes) = begins_name b && list_all is_name_byte bytes && not (is_keyword (b ∷ bytes))

-- what a name stands for: the clock, the reset, a port of a method, a register or a wire
pub data Signal : Type 0 where
  Clock : Signal
  Reset : Signal
  Enable : ℕ → Signal
  Argument : ℕ → ℕ → Signal
  Ready : ℕ → Signal
  Result : ℕ → Signal
  Register : ℕ → Signal
  Wire : ℕ → Signal

abbrev pub name_of_enable : Option VMethod → Option (List ℕ)
name_of_enable None = None
name_of_enable (Some m) = if m.action then Some (enable_name m.name) else None

abbrev pub name_of_argument : Option VMethod → ℕ → Option (List ℕ)
name_of_argument None k = None
name_of_argument (Some m) k = option_map (λ a. argument_name m.name a.name) (slice_get m.args k)

abbrev pub name_of_result : Option VMethod → Option (List ℕ)
name_of_result None = None
name_of_result (Some m) = option_map (λ _. m.name) m.result

-- the name of a signal, where there is such a one
abbrev pub signal_name : VModuleData → Signal → Option (List ℕ)
signal_name c Clock = Some (codes "CLK")
signal_name c Reset = Some (codes "RST_N")
signal_name c (Enable m) = name_of_enable (slice_get c.methods m)
signal_name c (Argument m k) = name_of_argument (slice_get c.methods m) k
signal_name c (Ready m) = option_map (λ m. ready_name m.name) (slice_get c.methods m)
signal_name c (Result m) = name_of_result (slice_get c.methods m)
signal_name c (Register k) = option_map (λ r. r.name) (slice_get c.registers k)
signal_name c (Wire k) = option_map (λ w. w.name) (slice_get c.wires k)

-- ---- parts

pub record IsArgument (a : VWire) : Type 0 where
  pub name : IsTrue (is_lower a.name)
  pub width : IsTrue (width_fits a.width)

pub record IsMethod (m : VMethod) : Type 0 where
  pub name : IsTrue (is_lower m.name)
  pub arguments : (k : ℕ) (a : VWire) → slice_get m.args k ≡ Some a → IsArgument a
  pub result : (width : ℕ) → m.result ≡ Some width → IsTrue (width_fits width)

pub record IsRegister (r : VRegister) : Type 0 where
  pub name : IsTrue (is_signal_name r.name)
  pub start : IsWord r.start

pub record IsWire (w : VWire) : Type 0 where
  pub name : IsTrue (is_signal_name w.name)
  pub width : IsTrue (width_fits w.width)
  -- what tells that something fires has one bit
  pub fires : (name : List ℕ) → w.name ≡ fire_name name → w.width ≡ 1

-- ---- assignments

abbrev pub IsConstant : Atom → Type 0
IsConstant (atom.Constant w) = IsWord w
IsConstant _ = Unit {0}

-- an atom of so many bits
pub record IsAtom (c : VModuleData) (a : Atom) (width : ℕ) : Type 0 where
  pub has_width : atom_width c a ≡ Some width
  pub word : IsConstant a

-- the target is assigned on a line before this one
pub record IsAssignedBefore (c : VModuleData) (line : ℕ) (t : Target) : Type 0 where
  pub earlier : ℕ
  pub before : earlier < line
  pub assign : Assign
  pub at : slice_get c.assigns earlier ≡ Some assign
  pub target_is : assign.target ≡ t

-- a wire is used after its assignment alone
abbrev pub IsKnown : VModuleData → ℕ → Atom → Type 0
IsKnown c line (atom.Wire k) = IsAssignedBefore c line (target.Wire k)
IsKnown c line _ = Unit {0}

-- an atom of so many bits may stand on this line
abbrev pub Stands : VModuleData → ℕ → Atom → ℕ → Type 0
Stands c line a width = IsAtom c a width × IsKnown c line a

pub record IsAssign (c : VModuleData) (line : ℕ) (x : Assign) : Type 0 where
  pub width : ℕ
  pub target_width_is : target_width c x.target ≡ Some width
  pub side : Fits (Stands c line) x.side width

-- a line that assigns the target
pub record IsAssigned (c : VModuleData) (t : Target) : Type 0 where
  pub line : ℕ
  pub assign : Assign
  pub at : slice_get c.assigns line ≡ Some assign
  pub target_is : assign.target ≡ t

-- a wire that tells that the method fires
pub record HasFire (c : VModuleData) (m : VMethod) : Type 0 where
  pub place : ℕ
  pub wire : VWire
  pub at : slice_get c.wires place ≡ Some wire
  pub name_is : wire.name ≡ fire_name m.name

-- ---- the whole

pub record IsModule (c : VModuleData) : Type 0 where
  pub name : IsTrue (is_lower c.name)
  pub methods : (k : ℕ) (m : VMethod) → slice_get c.methods k ≡ Some m → IsMethod m
  pub registers : (k : ℕ) (r : VRegister) → slice_get c.registers k ≡ Some r → IsRegister r
  pub wires : (k : ℕ) (w : VWire) → slice_get c.wires k ≡ Some w → IsWire w
  -- no two signals have one name
  pub apart : (x y : Signal) (name : List ℕ) → signal_name c x ≡ Some name → signal_name c y ≡ Some name → x ≡ y
  -- there is a wire for each method that acts
  pub fires : (k : ℕ) (m : VMethod) → slice_get c.methods k ≡ Some m → m.action ≡ true → HasFire c m
  -- each wire and each output is assigned, and assigned once
  pub assigned : (t : Target) (width : ℕ) → target_width c t ≡ Some width → IsAssigned c t
  pub once : (j k : ℕ) (x y : Assign) → slice_get c.assigns j ≡ Some x → slice_get c.assigns k ≡ Some y → x.target ≡ y.target → j ≡ k
  pub assigns : (line : ℕ) (x : Assign) → slice_get c.assigns line ≡ Some x → IsAssign c line x
  -- each register takes over a word of its width
  pub nexts_count : length c.nexts ≡ length c.registers
  pub nexts : (k : ℕ) (r : VRegister) (a : Atom) → slice_get c.registers k ≡ Some r → slice_get c.nexts k ≡ Some a → IsAtom c a r.start.width
