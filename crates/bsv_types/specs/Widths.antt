-- How many bits a value of a type has (Bluespec reference guide, "Bits", and "Deriving").
use Rattle.std.specs.Prelude.{◌≡◌, ℕ, ◌+◌, ◌-◌, ◌^◌, ◌<◌, ◌≤◌, List, [], ◌∷◌, map, length, slice_get, Some}
use Rattle.bsv_types.specs.declared.definitions.Enum.{Enum}
use Rattle.bsv_types.specs.declared.definitions.Struct.{Struct}
use Rattle.bsv_types.specs.declared.definitions.Field.{Field}
use Rattle.bsv_types.specs.Kinds.{Kind, bit, uint, int, bool, enum, struct, maybe, kind}

-- the least number of bits that hold a number
pub record IsLeast (width number : ℕ) : Type 0 where
  pub holds : number < 2 ^ width
  pub least : (fewer : ℕ) → number < 2 ^ fewer → width ≤ fewer

abbrev pub field_kinds : List Field → List Kind
field_kinds fs = map (λ f. kind f.ty) fs

mutual
  -- a value of the type has so many bits; `enums` and `structs` are what its numbers stand for
  pub data HasWidth : List Enum → List Struct → Kind → ℕ → Type 0 where
    bits : {es : List Enum} {ss : List Struct} {n : ℕ} → HasWidth es ss (bit n) n
    unsigned : {es : List Enum} {ss : List Struct} {n : ℕ} → HasWidth es ss (uint n) n
    signed : {es : List Enum} {ss : List Struct} {n : ℕ} → HasWidth es ss (int n) n
    truth : {es : List Enum} {ss : List Struct} → HasWidth es ss bool 1
    -- the labels are numbered from 0, and the last one decides
    labels : {es : List Enum} {ss : List Struct} {k w : ℕ} (e : Enum) → slice_get es k ≡ Some e → IsLeast w (length e.labels - 1) → HasWidth es ss (enum k) w
    fields : {es : List Enum} {ss : List Struct} {k w : ℕ} (s : Struct) → slice_get ss k ≡ Some s → HaveWidth es ss (field_kinds s.fields) w → HasWidth es ss (struct k) w
    -- the tag is one bit
    tagged : {es : List Enum} {ss : List Struct} {k : Kind} {w : ℕ} (v : ℕ) → HasWidth es ss k v → w ≡ 1 + v → HasWidth es ss (maybe k) w

  -- values of the types, side by side, have so many bits
  pub data HaveWidth : List Enum → List Struct → List Kind → ℕ → Type 0 where
    nothing : {es : List Enum} {ss : List Struct} → HaveWidth es ss [] 0
    beside : {es : List Enum} {ss : List Struct} {k : Kind} {ks : List Kind} {w : ℕ} (u v : ℕ) → HasWidth es ss k u → HaveWidth es ss ks v → w ≡ u + v → HaveWidth es ss (k ∷ ks) w

-- the type has a width, of at most so many bits
abbrev pub WidthWithin : List Enum → List Struct → Kind → ℕ → Type 0
WidthWithin es ss k most = (w : ℕ) × HasWidth es ss k w × (w ≤ most)
