-- Hardware that carries a scheme: its registers show the parts, its inputs are what is asked, and what it gives in one
-- clock is what the clock is (Hoe and Arvind 2004, "synthesis of operation-centric hardware descriptions"; IEEE 1364-2005,
-- "continuous assignments").
use Rattle.std.specs.Prelude.{◌≡◌, ◌<◌, ℕ, ◌+◌, Bool, true, cond, List, [], ◌∷◌, ◌++◌, map, drop, length, slice_get, Some}
use Rattle.std.specs.List.{flat_map}
use Rattle.bsv_bits.specs.Words.{Bits, bit}
use Rattle.bsv_prim.specs.Table.{Table, word_at}
use Rattle.bsv_prim.specs.declared.part.Part.{Part}
use Rattle.bsv_prim.specs.declared.primitive.RegisterInfo.{RegisterInfo}
use Rattle.bsv_design.specs.declared.kind.Kind.{Kind}
use Rattle.bsv_design.specs.declared.schedule.Schedule.{Schedule}
use Rattle.bsv_design.specs.parts.Kinds.{kind_table}
use Rattle.bsv_design.specs.design.Roles.{is_rule}
use Rattle.bsv_design.specs.scheme.Schemes.{Scheme, Outline, Asking, given, ready, value}
use Rattle.bsv_graph.specs.Edges.{numbers_below}
use Rattle.bsv_guard.specs.Fitting.{HaveWidths}
use Rattle.bsv_clock.specs.Clocks.{IsClock, is_in, is_asked}
use Rattle.bsv_clock.specs.Grounds.{Fit}
use Rattle.bsv_clock.specs.Looks.{clock_look}

-- ---- registers

-- a register: its width in bits, its start, and whether a reset sets the start
pub record Cell : Type 0 where
  pub width : ℕ
  pub start : Bits
  pub resets : Bool

abbrev pub cell : RegisterInfo → Cell
cell i = record { width = i.width; start = i.start; resets = i.resets }

-- the register of this number, as its kind tells it
abbrev pub cell_of : Table → ℕ → Cell
cell_of t r = record { width = t.register_width r; start = t.register_start r; resets = t.register_resets r }

abbrev pub cells_in : Kind → List Cell
cells_in k = map (cell_of (kind_table k)) (numbers_below (kind_table k).registers)

-- the registers of all parts, in building order
unfoldable pub cells_of : List Kind → List Cell
cells_of ks = flat_map cells_in ks

abbrev pub cell_widths : List Cell → List ℕ
cell_widths cs = map (λ c. c.width) cs

-- these words of the registers show the parts, in building order
abbrev pub Shows : List Kind → List Part → List Bits → Type 0
Shows [] [] ws = Unit {0}
Shows (k ∷ ks) (p ∷ ps) ws = (kind_table k).Shows p (word_at ws) × Shows ks ps (drop (kind_table k).registers ws)
Shows _ _ ws = ⊥

-- ---- inputs: of each method of the top its arguments, which are 0 where it is not asked, and a bit that is 1 where it is

abbrev pub inputs_from : Scheme → Asking → ℕ → List Outline → List Bits
inputs_from S q n [] = []
inputs_from S q n (o ∷ os) =
    cond (is_rule o.role) [] (given S q n ++ (bit (is_asked q n) ∷ inputs_from S q (n + 1) os))

unfoldable pub inputs_of : Scheme → Asking → List Bits
inputs_of S q = inputs_from S q 0 S.elements

abbrev pub input_widths_of : List Outline → List ℕ
input_widths_of [] = []
input_widths_of (o ∷ os) = cond (is_rule o.role) [] (map (λ p. p.width) o.ports ++ (1 ∷ input_widths_of os))

unfoldable pub input_widths : Scheme → List ℕ
input_widths S = input_widths_of S.elements

-- ---- what is given in a clock: a word for each element in the first three lists, and one for each register

pub record Given : Type 0 where
  pub fires : List Bits
  pub readies : List Bits
  pub results : List Bits
  pub nexts : List Bits

-- which elements fire in a clock, which are ready in its look, and what those give that are
pub record TellsElements (aggressive : Bool) (S : Scheme) (q : Asking) (s : List Part) (fired : List ℕ) (g : Given) : Type 0 where
  pub fires : (n : ℕ) → n < length S.elements → slice_get g.fires n ≡ Some (bit (is_in fired n))
  pub readies : (n : ℕ) → n < length S.elements
      → slice_get g.readies n ≡ Some (bit (ready aggressive S q n (clock_look S q s fired)))
  pub results : (n : ℕ) (w : Bits) → ready aggressive S q n (clock_look S q s fired) ≡ true
      → value S q n (clock_look S q s fired) ≡ Some w → slice_get g.results n ≡ Some w

-- and the registers after it show the parts after it
pub record TellsClock (aggressive : Bool) (S : Scheme) (q : Asking) (s : List Part) (fired : List ℕ) (after : List Part) (g : Given) : Type 0 where
  pub elements : TellsElements aggressive S q s fired g
  pub nexts : Shows S.kinds after g.nexts

-- Hardware with these registers and these widths of inputs, which gives this for the words of its registers and inputs,
-- carries a scheme: from each state that fits, with requests that fit, it gives what the clock is.
pub record Carries (aggressive : Bool) (S : Scheme) (made : Schedule) (cells : List Cell) (widths : List ℕ) (gives : List Bits → List Bits → Given) : Type 0 where
  pub registers : cells ≡ cells_of S.kinds
  pub inputs : widths ≡ input_widths S
  pub clock : (q : Asking) (s : List Part) (ws : List Bits) (fired : List ℕ) (after : List Part) → Fit S q s
      → HaveWidths (cell_widths cells) ws → Shows S.kinds s ws → IsClock aggressive S made q s fired after
      → TellsClock aggressive S q s fired after (gives ws (inputs_of S q))
