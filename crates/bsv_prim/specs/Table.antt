-- The table of a kind of primitive: what its methods are, ask, answer and do, how they stand to
-- one another, and the registers and pieces that stand for it in hardware. Every meaning is total:
-- it has an answer for each number and each part, also where no call may ask.
use Rattle.std.specs.Prelude.{◌≡◌, ℕ, ◌<◌, Bool, true, false, List, length, slice_index_or}
use Rattle.bsv_bits.specs.Words.{Bits, IsWord}
use Rattle.bsv_prim.specs.Shape.{Shape}
use Rattle.bsv_prim.specs.declared.part.Part.{Part}
use Rattle.bsv_prim.specs.declared.primitive.Rel.{Rel}
use Rattle.bsv_prim.specs.declared.primitive.Rel.TheVariants.{Cf, Sb, Sa, Sbr, C}

pub record Table : Type 1 where
  pub methods : ℕ
  pub arity : ℕ → ℕ
  pub argument_width : ℕ → ℕ → ℕ
  pub result_width : ℕ → ℕ
  pub is_action : ℕ → Bool
  pub opening : Part
  pub Fits : Part → Type 0
  pub emptied : Part → Part
  pub guarded : ℕ → Bool
  pub guard : ℕ → Part → Bool
  pub result : ℕ → Part → List Bits → Bits
  pub apply : ℕ → Part → List Bits → Part
  pub rank : ℕ → ℕ
  pub relation : ℕ → ℕ → Rel
  pub sees : ℕ → ℕ → Bool
  pub registers : ℕ
  pub register_width : ℕ → ℕ
  pub register_start : ℕ → Bits
  pub register_resets : ℕ → Bool
  pub Shows : Part → (ℕ → Bits) → Type 0
  pub guard_piece : ℕ → Shape
  pub result_piece : ℕ → Shape
  pub next_piece : ℕ → Shape

-- the word of a list at a place, and after its end one bit that is 0
abbrev pub word_at : List Bits → ℕ → Bits
word_at words k = slice_index_or words k (record { width = 1; value = 0 })

-- a word of this width
pub record IsWordOf (width : ℕ) (w : Bits) : Type 0 where
  pub word : IsWord w
  pub same_width : w.width ≡ width

-- a call of a method with its arguments
pub record Call : Type 0 where
  pub method : ℕ
  pub args : List Bits

-- the arguments have the arity and the widths of the method
pub record ArgsFit (t : Table) (method : ℕ) (args : List Bits) : Type 0 where
  pub arity : length args ≡ t.arity method
  pub widths : (k : ℕ) → k < t.arity method → IsWordOf (t.argument_width method k) (word_at args k)

pub record CallFits (t : Table) (c : Call) : Type 0 where
  pub method : c.method < t.methods
  pub args : ArgsFit t c.method c.args

-- CF, SB and SBR
abbrev pub goes_before : Rel → Bool
goes_before Cf = true
goes_before Sb = true
goes_before Sbr = true
goes_before Sa = false
goes_before C = false

-- CF, SB and SA: the relations of two calls that may be in one element
abbrev pub in_one_element : Rel → Bool
in_one_element Cf = true
in_one_element Sb = true
in_one_element Sa = true
in_one_element Sbr = false
in_one_element C = false

-- y to x, where this is x to y
abbrev pub converse : Rel → Rel
converse Cf = Cf
converse Sb = Sa
converse Sa = Sb
converse Sbr = Sbr
converse C = C
