-- A text tells its atom, and its target.
use Rattle.std.proofs.Common.{◌≡◌, ◌∙◌, ℕ, Bool, true, false, ◌||◌, ◌==◌, if◌then◌else◌, List, [], ◌∷◌, Option, Some, None, option_map, slice_get, refl, sym, ap, subst, arith}
use Rattle.std.proofs.lemmas.Bool.Decides.{nat_tests}
use Rattle.std.specs.Option.{option_and_then}
use Rattle.std.specs.Char.{is_ascii_digit}
use Rattle.bsv_bits.specs.Words.{Bits, IsWord}
use Rattle.bsv_bits.specs.Constants.{constant_text}
use Rattle.bsv_ast.specs.Names.{begins_name}
use Rattle.bsv_vtext.specs.declared.tree.VMethod.{VMethod}
use Rattle.bsv_vtext.specs.declared.tree.VRegister.{VRegister}
use Rattle.bsv_vtext.specs.declared.tree.VWire.{VWire}
use Rattle.bsv_vtext.specs.declared.tree.Atom.{Atom}
use Rattle.bsv_vtext.specs.declared.tree.Atom.TheVariants as atom
use Rattle.bsv_vtext.specs.declared.tree.Target.{Target}
use Rattle.bsv_vtext.specs.declared.tree.Target.TheVariants as target
use Rattle.bsv_vtext.specs.Signals.{VModuleData, scope, argument_name, enable_name, ready_name, or_nameless, wire_name, arguments_of}
use Rattle.bsv_vtext.specs.Widths.{enable_width, target_width}
use Rattle.bsv_vtext.specs.VText.{atom_text, target_text}
use Rattle.bsv_vtext.specs.Modules.{IsModule, IsAtom, Signal, Enable, Argument, Ready, Result, Register, Wire, signal_name, name_of_enable, name_of_argument, name_of_result}
use Rattle.bsv_vtext.proofs.Runs.{Each, Passes, Stops}
use Rattle.bsv_vtext.proofs.Glyphs.{is_glyph, BeginsWith, constant_glyphs, constant_first, same_constant, digit_begins_no_name}
use Rattle.bsv_vtext.proofs.SignalNames.{name_glyphs, name_first, signal_named}

-- the signals of two modules have the same names
abbrev pub SameNames : VModuleData → VModuleData → Type 0
SameNames c d = (x : Signal) → signal_name c x ≡ signal_name d x

one_signal : (c d : VModuleData) → IsModule c → SameNames c d → (x y : Signal) (s t : List ℕ) → signal_name c x ≡ Some s → signal_name d y ≡ Some t
    → s ≡ t → x ≡ y
one_signal c d is same x y s t e f g = is.apart x y t (e ∙ ap Some g) (same y ∙ f)

-- ---- atoms

-- the atom that is this signal
abbrev atom_of : Signal → Option Atom
atom_of (Enable m) = Some (atom.Enable m)
atom_of (Argument m k) = Some (atom.Argument m k)
atom_of (Register k) = Some (atom.Register k)
atom_of (Wire k) = Some (atom.Wire k)
atom_of _ = None

-- an atom as a module says it
abbrev pub said : VModuleData → Atom → List ℕ
said c a = atom_text (scope c) a

-- the text of an atom is a constant or the name of a signal
data Says (c : VModuleData) (a : Atom) : Type 0 where
  constant : (w : Bits) → a ≡ atom.Constant w → IsWord w → Says c a
  named : (x : Signal) → atom_of x ≡ Some a → signal_name c x ≡ Some (said c a) → Says c a

enable_says : (o : Option VMethod) (width : ℕ) → enable_width o ≡ Some width
    → name_of_enable o ≡ Some (enable_name (or_nameless (option_map (λ m. m.name) o)))
enable_says None width e = absurd cc
enable_says (Some m) width e = acting m.action e
  where
    acting : (action : Bool) → (if action then Some 1 else None) ≡ Some width
        → (if action then Some (enable_name m.name) else None) ≡ Some (enable_name m.name)
    acting true f = refl
    acting false f = absurd cc

argument_says : (o : Option VMethod) (k width : ℕ) → option_map (λ a. a.width) (slice_get (arguments_of o) k) ≡ Some width
    → name_of_argument o k ≡ Some (argument_name (or_nameless (option_map (λ m. m.name) o)) (wire_name (arguments_of o) k))
argument_says None k width e = absurd cc
argument_says (Some m) k width e = at (slice_get m.args k) e
  where
    at : (o : Option VWire) → option_map (λ a. a.width) o ≡ Some width
        → option_map (λ a. argument_name m.name a.name) o ≡ Some (argument_name m.name (or_nameless (option_map (λ a. a.name) o)))
    at None f = absurd cc
    at (Some a) f = refl

register_says : (o : Option VRegister) (width : ℕ) → option_map (λ r. r.start.width) o ≡ Some width
    → option_map (λ r. r.name) o ≡ Some (or_nameless (option_map (λ r. r.name) o))
register_says None width e = absurd cc
register_says (Some r) width e = refl

wire_says : (o : Option VWire) (width : ℕ) → option_map (λ w. w.width) o ≡ Some width
    → option_map (λ w. w.name) o ≡ Some (or_nameless (option_map (λ w. w.name) o))
wire_says None width e = absurd cc
wire_says (Some w) width e = refl

atom_says : (c : VModuleData) (a : Atom) (width : ℕ) → IsAtom c a width → Says c a
atom_says c (atom.Enable m) width is = named (Enable m) refl (enable_says (slice_get c.methods m) width is.has_width)
atom_says c (atom.Argument m k) width is = named (Argument m k) refl (argument_says (slice_get c.methods m) k width is.has_width)
atom_says c (atom.Register k) width is = named (Register k) refl (register_says (slice_get c.registers k) width is.has_width)
atom_says c (atom.Wire k) width is = named (Wire k) refl (wire_says (slice_get c.wires k) width is.has_width)
atom_says c (atom.Constant w) width is = constant w refl is.word

-- an atom of some width
abbrev pub IsSized : VModuleData → Atom → Type 0
IsSized c a = (width : ℕ) × IsAtom c a width

-- `$`, `~` and `{` begin a side that begins with no atom
unfoldable pub is_opener : ℕ → Bool
is_opener b = b == 36 || (b == 126 || b == 123)

digit_is_no_opener : (b : ℕ) → is_ascii_digit b ≡ true → is_opener b ≡ false
unfolding is_opener
digit_is_no_opener b e = grind (arith, nat_tests)

letter_is_no_opener : (b : ℕ) → begins_name b ≡ true → is_opener b ≡ false
unfolding is_opener
letter_is_no_opener b e = grind (arith, nat_tests)

not_opened : (p : ℕ → Bool) → ((b : ℕ) → p b ≡ true → is_opener b ≡ false) → (text : List ℕ) → BeginsWith p text → Stops is_opener text
not_opened p never [] begins = absurd begins
not_opened p never (b ∷ bs) begins = never b begins

pub atom_opens_nothing : (c : VModuleData) → IsModule c → (a : Atom) → IsSized c a → Stops is_opener (said c a)
atom_opens_nothing c is a some = by (atom_says c a some.0 some.1)
  where
    by : Says c a → Stops is_opener (said c a)
    by (constant w e word) = subst (λ (a : Atom). Stops is_opener (said c a)) (sym e)
        (not_opened is_ascii_digit digit_is_no_opener (constant_text w) (constant_first w word))
    by (named x e f) = not_opened begins_name letter_is_no_opener (said c a) (name_first (said c a) (signal_named c is x (said c a) f))

pub atom_glyphs : (c : VModuleData) → IsModule c → (a : Atom) → IsSized c a → Each (Passes is_glyph) (said c a)
atom_glyphs c is a some = by (atom_says c a some.0 some.1)
  where
    by : Says c a → Each (Passes is_glyph) (said c a)
    by (constant w e word) = subst (λ (a : Atom). Each (Passes is_glyph) (said c a)) (sym e) (constant_glyphs w word)
    by (named x e f) = name_glyphs (said c a) (signal_named c is x (said c a) f)

apart : (s t : List ℕ) → BeginsWith is_ascii_digit s → BeginsWith begins_name t → s ≡ t → ⊥
apart [] t digit letter e = absurd digit
apart (x ∷ s) [] digit letter e = absurd letter
apart (x ∷ s) (y ∷ t) digit letter e =
    let same : x ≡ y = cc in
    digit_begins_no_name y (subst (λ (b : ℕ). is_ascii_digit b ≡ true) same digit) letter

constants_are : (v w : Bits) → v ≡ w → atom.Constant v ≡ atom.Constant w
constants_are v w e = ap atom.Constant e

pub same_atom : (c d : VModuleData) → IsModule c → IsModule d → SameNames c d → (a b : Atom) → IsSized c a → IsSized d b
    → said c a ≡ said d b → a ≡ b
same_atom c d is other same a b some any e = by (atom_says c a some.0 some.1) (atom_says d b any.0 any.1)
  where
    name_of : (c : VModuleData) → IsModule c → (a : Atom) (x : Signal) → signal_name c x ≡ Some (said c a) → BeginsWith begins_name (said c a)
    name_of c is a x f = name_first (said c a) (signal_named c is x (said c a) f)

    digits_of : (c : VModuleData) (a : Atom) (w : Bits) → a ≡ atom.Constant w → IsWord w → BeginsWith is_ascii_digit (said c a)
    digits_of c a w f word = subst (λ (a : Atom). BeginsWith is_ascii_digit (said c a)) (sym f) (constant_first w word)

    by : Says c a → Says d b → a ≡ b
    by (constant v f word) (constant w g known) =
        f ∙ constants_are v w (same_constant v w word known (sym (ap (said c) f) ∙ e ∙ ap (said d) g)) ∙ sym g
    by (constant v f word) (named y g h) = absurd (apart (said c a) (said d b) (digits_of c a v f word) (name_of d other b y h) e)
    by (named x f h) (constant w g known) = absurd (apart (said d b) (said c a) (digits_of d b w g known) (name_of c is a x h) (sym e))
    by (named x f h) (named y g k) =
        let one : x ≡ y = one_signal c d is same x y (said c a) (said d b) h k e in
        let joined : Some a ≡ Some b = sym f ∙ ap atom_of one ∙ g in
        cc (joined)

-- ---- targets

abbrev signal_of : Target → Signal
signal_of (target.Wire k) = Wire k
signal_of (target.Ready m) = Ready m
signal_of (target.Result m) = Result m

target_of : (x y : Target) → signal_of x ≡ signal_of y → x ≡ y
target_of (target.Wire j) (target.Wire k) e = let same : j ≡ k = cc in ap target.Wire same
target_of (target.Ready j) (target.Ready k) e = let same : j ≡ k = cc in ap target.Ready same
target_of (target.Result j) (target.Result k) e = let same : j ≡ k = cc in ap target.Result same
target_of _ _ e = absurd cc

ready_says : (o : Option VMethod) (width : ℕ) → option_map (λ _. 1) o ≡ Some width
    → option_map (λ m. ready_name m.name) o ≡ Some (ready_name (or_nameless (option_map (λ m. m.name) o)))
ready_says None width e = absurd cc
ready_says (Some m) width e = refl

result_says : (o : Option VMethod) (width : ℕ) → option_and_then (λ m. m.result) o ≡ Some width
    → name_of_result o ≡ Some (or_nameless (option_map (λ m. m.name) o))
result_says None width e = absurd cc
result_says (Some m) width e = at m.result e
  where
    at : (o : Option ℕ) → o ≡ Some width → option_map (λ _. m.name) o ≡ Some m.name
    at None f = absurd cc
    at (Some own) f = refl

target_says : (c : VModuleData) (t : Target) (width : ℕ) → target_width c t ≡ Some width → signal_name c (signal_of t) ≡ Some (target_text (scope c) t)
target_says c (target.Wire k) width e = wire_says (slice_get c.wires k) width e
target_says c (target.Ready m) width e = ready_says (slice_get c.methods m) width e
target_says c (target.Result m) width e = result_says (slice_get c.methods m) width e

-- a target of some width
abbrev pub HasWidth : VModuleData → Target → Type 0
HasWidth c t = (width : ℕ) × (target_width c t ≡ Some width)

pub target_glyphs : (c : VModuleData) → IsModule c → (t : Target) → HasWidth c t → Each (Passes is_glyph) (target_text (scope c) t)
target_glyphs c is t some = name_glyphs (target_text (scope c) t) (signal_named c is (signal_of t) (target_text (scope c) t)
    (target_says c t some.0 some.1))

pub same_target : (c d : VModuleData) → IsModule c → SameNames c d → (x y : Target) → HasWidth c x → HasWidth d y
    → target_text (scope c) x ≡ target_text (scope d) y → x ≡ y
same_target c d is same x y some any e =
    target_of x y (one_signal c d is same (signal_of x) (signal_of y) (target_text (scope c) x) (target_text (scope d) y)
    (target_says c x some.0 some.1) (target_says d y any.0 any.1) e)
