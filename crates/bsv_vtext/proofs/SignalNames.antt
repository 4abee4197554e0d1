-- What the names of signals are made of.
use Rattle.std.proofs.Common.{◌≡◌, ℕ, Bool, true, false, not, ◌&&◌, if◌then◌else◌, List, [], ◌∷◌, ◌++◌, Option, Some, None, option_map, slice_get, codes, refl, subst}
use Rattle.std.specs.List.{list_all}
use Rattle.std.specs.Char.{is_ascii_uppercase}
use Rattle.std.proofs.lemmas.Bool.{and_parts}
use Rattle.std.proofs.lemmas.Option.{same_Some}
use Rattle.bsv_ast.specs.Names.{begins_name, is_word, is_lower, is_keyword}
use Rattle.bsv_ast.proofs.Names.{lower_parts, lower_some}
use Rattle.bsv_vtext.specs.declared.tree.VMethod.{VMethod}
use Rattle.bsv_vtext.specs.declared.tree.VRegister.{VRegister}
use Rattle.bsv_vtext.specs.declared.tree.VWire.{VWire}
use Rattle.bsv_vtext.specs.Signals.{VModuleData, argument_name, enable_name, ready_name}
use Rattle.bsv_vtext.specs.Modules.{IsModule, IsMethod, IsArgument, Signal, Clock, Reset, Enable, Argument, Ready, Result, Register, Wire, signal_name, name_of_enable, name_of_argument, name_of_result, is_name_byte, is_signal_name}
use Rattle.bsv_vtext.proofs.Runs.{Each, Passes, each_append, each_weaker, each_passes}
use Rattle.bsv_vtext.proofs.Glyphs.{is_glyph, word_is_name_byte, name_byte_is_glyph, first_is_name_byte, BeginsWith}

-- a letter or `_`, and then letters, digits, `_` and `$`
abbrev pub IsName : List ℕ → Type 0
IsName [] = ⊥
IsName (b ∷ bs) = (begins_name b ≡ true) × Each (Passes is_name_byte) bs

-- a small letter or `_`, and then letters, digits and `_`
abbrev pub IsLower : List ℕ → Type 0
IsLower [] = ⊥
IsLower (b ∷ bs) = (begins_name b ≡ true) × ((is_ascii_uppercase b ≡ false) × Each (Passes is_word) bs)

pub lower_is : (text : List ℕ) → is_lower text ≡ true → IsLower text
lower_is [] e = absurd (lower_some [] [] e refl)
lower_is (b ∷ bs) e =
    let parts = lower_parts (b ∷ bs) e in
    let bytes = and_parts (begins_name b) (list_all is_word bs) parts.named in
    (bytes.0, (parts.small, each_passes is_word bs bytes.1))

-- ---- names

words_are_name_bytes : (bs : List ℕ) → Each (Passes is_word) bs → Each (Passes is_name_byte) bs
words_are_name_bytes bs some = each_weaker (Passes is_word) (Passes is_name_byte) word_is_name_byte bs some

pub name_bytes : (name : List ℕ) → IsName name → Each (Passes is_name_byte) name
name_bytes [] is = absurd is
name_bytes (b ∷ bs) is = (first_is_name_byte b is.0, is.1)

pub name_glyphs : (name : List ℕ) → IsName name → Each (Passes is_glyph) name
name_glyphs name is = each_weaker (Passes is_name_byte) (Passes is_glyph) name_byte_is_glyph name (name_bytes name is)

pub name_first : (name : List ℕ) → IsName name → BeginsWith begins_name name
name_first [] is = is
name_first (b ∷ bs) is = is.0

pub lower_name : (name : List ℕ) → IsLower name → IsName name
lower_name [] is = is
lower_name (b ∷ bs) is = (is.0, words_are_name_bytes bs is.1.1)

-- what comes after a name leaves it a name
longer_name : (name more : List ℕ) → IsName name → Each (Passes is_name_byte) more → IsName (name ++ more)
longer_name [] more is some = absurd is
longer_name (b ∷ bs) more is some = (is.0, each_append (Passes is_name_byte) bs more is.1 some)

pub argument_is_name : (m a : List ℕ) → IsLower m → IsLower a → IsName (argument_name m a)
argument_is_name m a is own = longer_name m (36 ∷ a) (lower_name m is) (refl, name_bytes a (lower_name a own))

pub enable_is_name : (m : List ℕ) → IsLower m → IsName (enable_name m)
enable_is_name m is = longer_name (codes "EN_") m (refl, (refl, (refl, tt))) (name_bytes m (lower_name m is))

pub ready_is_name : (m : List ℕ) → IsLower m → IsName (ready_name m)
ready_is_name m is = longer_name (codes "RDY_") m (refl, (refl, (refl, (refl, tt)))) (name_bytes m (lower_name m is))

pub signal_is_name : (name : List ℕ) → is_signal_name name ≡ true → IsName name
signal_is_name [] e = absurd cc
signal_is_name (b ∷ bs) e =
    let front = and_parts (begins_name b && list_all is_name_byte bs) (not (is_keyword (b ∷ bs))) e in
    let parts = and_parts (begins_name b) (list_all is_name_byte bs) front.0 in
    (parts.0, each_passes is_name_byte bs parts.1)

-- ---- signals

same_name : (own name : List ℕ) → Some own ≡ Some name → IsName own → IsName name
same_name own name e is = subst IsName (same_Some own name e) is

-- what is known of what is in a list
abbrev Known : {A : Type 0} → (A → Type 0) → Option A → Type 0
Known {A} P o = (x : A) → o ≡ Some x → P x

enable_named : (o : Option VMethod) (name : List ℕ) → Known IsMethod o → name_of_enable o ≡ Some name → IsName name
enable_named None name known e = absurd cc
enable_named (Some m) name known e = acting m.action e
  where
    acting : (action : Bool) → (if action then Some (enable_name m.name) else None) ≡ Some name → IsName name
    acting true f = same_name (enable_name m.name) name f (enable_is_name m.name (lower_is m.name (known m refl).name))
    acting false f = absurd cc

argument_named : (o : Option VMethod) (k : ℕ) (name : List ℕ) → Known IsMethod o → name_of_argument o k ≡ Some name → IsName name
argument_named None k name known e = absurd cc
argument_named (Some m) k name known e = at (slice_get m.args k) (λ a f. (known m refl).arguments k a f) e
  where
    at : (o : Option VWire) → Known IsArgument o → option_map (λ a. argument_name m.name a.name) o ≡ Some name → IsName name
    at None args f = absurd cc
    at (Some a) args f = same_name (argument_name m.name a.name) name f
        (argument_is_name m.name a.name (lower_is m.name (known m refl).name) (lower_is a.name (args a refl).name))

ready_named : (o : Option VMethod) (name : List ℕ) → Known IsMethod o → option_map (λ m. ready_name m.name) o ≡ Some name → IsName name
ready_named None name known e = absurd cc
ready_named (Some m) name known e = same_name (ready_name m.name) name e (ready_is_name m.name (lower_is m.name (known m refl).name))

result_named : (o : Option VMethod) (name : List ℕ) → Known IsMethod o → name_of_result o ≡ Some name → IsName name
result_named None name known e = absurd cc
result_named (Some m) name known e = at m.result e
  where
    at : (o : Option ℕ) → option_map (λ _. m.name) o ≡ Some name → IsName name
    at None f = absurd cc
    at (Some width) f = same_name m.name name f (lower_name m.name (lower_is m.name (known m refl).name))

register_named : (o : Option VRegister) (name : List ℕ) → Known (λ r. is_signal_name r.name ≡ true) o → option_map (λ r. r.name) o ≡ Some name
    → IsName name
register_named None name known e = absurd cc
register_named (Some r) name known e = same_name r.name name e (signal_is_name r.name (known r refl))

wire_named : (o : Option VWire) (name : List ℕ) → Known (λ w. is_signal_name w.name ≡ true) o → option_map (λ w. w.name) o ≡ Some name → IsName name
wire_named None name known e = absurd cc
wire_named (Some w) name known e = same_name w.name name e (signal_is_name w.name (known w refl))

pub signal_named : (c : VModuleData) → IsModule c → (x : Signal) (name : List ℕ) → signal_name c x ≡ Some name → IsName name
signal_named c is Clock name e = same_name (codes "CLK") name e (refl, (refl, (refl, tt)))
signal_named c is Reset name e = same_name (codes "RST_N") name e (refl, (refl, (refl, (refl, (refl, tt)))))
signal_named c is (Enable m) name e = enable_named (slice_get c.methods m) name (is.methods m) e
signal_named c is (Argument m k) name e = argument_named (slice_get c.methods m) k name (is.methods m) e
signal_named c is (Ready m) name e = ready_named (slice_get c.methods m) name (is.methods m) e
signal_named c is (Result m) name e = result_named (slice_get c.methods m) name (is.methods m) e
signal_named c is (Register k) name e = register_named (slice_get c.registers k) name (λ r f. (is.registers k r f).name) e
signal_named c is (Wire k) name e = wire_named (slice_get c.wires k) name (λ w f. (is.wires k w f).name) e
