-- Hardware while a method is not asked: whatever words are at its arguments, they change nothing but what is told of the method
-- itself. A port has a word in each clock, and the one who drives it may set it before the enable (Bluespec reference guide,
-- "Verilog back end": ready and enable signals; IEEE 1364-2005, "continuous assignments").
use Rattle.std.specs.Prelude.{◌≡◌, ◌<◌, ◌+◌, ℕ, Bool, true, false, cond, not, ◌||◌, List, [], ◌∷◌, ◌++◌, length, slice_get, Option, Some, None}
use Rattle.bsv_bits.specs.Words.{Bits, bit}
use Rattle.bsv_prim.specs.declared.part.Part.{Part}
use Rattle.bsv_design.specs.declared.schedule.Schedule.{Schedule}
use Rattle.bsv_design.specs.design.Roles.{is_rule, is_value}
use Rattle.bsv_design.specs.scheme.Schemes.{Scheme, Outline, Asking, given, ports_of, ready, value}
use Rattle.bsv_design.specs.scheme.States.{AreWordsOf}
use Rattle.bsv_guard.specs.Fitting.{HaveWidths}
use Rattle.bsv_clock.specs.Shows.{Cell, Given, Shows, cell_widths}
use Rattle.bsv_clock.specs.Clocks.{IsClock, is_in, is_asked}
use Rattle.bsv_clock.specs.Grounds.{Fit}
use Rattle.bsv_clock.specs.Looks.{clock_look}

-- ---- arguments

-- of each element the words at its arguments
abbrev pub Arguments : Type 0
Arguments = ℕ → List Bits

abbrev pub is_idle_as : Asking → ℕ → Option Outline → Bool
is_idle_as q n None = false
is_idle_as q n (Some o) = not (is_rule o.role || (is_value o.role || is_asked q n))

-- the element is a method that acts, and is not asked
unfoldable pub is_idle : Scheme → Asking → ℕ → Bool
is_idle S q n = is_idle_as q n (slice_get S.elements n)

-- words of the widths of the arguments: what is given, but any words where a method that acts is not asked
pub record MayBeArguments (S : Scheme) (q : Asking) (xs : Arguments) : Type 0 where
  pub widths : (n : ℕ) → AreWordsOf (ports_of (slice_get S.elements n)) (xs n)
  pub others : (n : ℕ) → is_idle S q n ≡ false → xs n ≡ given S q n

-- ---- inputs: of each method of the top its arguments, and a bit that is 1 where it is asked

abbrev pub inputs_with_from : Asking → Arguments → ℕ → List Outline → List Bits
inputs_with_from q xs n [] = []
inputs_with_from q xs n (o ∷ os) =
    cond (is_rule o.role) [] (xs n ++ (bit (is_asked q n) ∷ inputs_with_from q xs (n + 1) os))

unfoldable pub inputs_with : Scheme → Asking → Arguments → List Bits
inputs_with S q xs = inputs_with_from q xs 0 S.elements

-- the scheme in which each element has these arguments, whatever is given
abbrev pub with_arguments : Scheme → Arguments → Scheme
with_arguments S xs = record {
  kinds = S.kinds;
  elements = S.elements;
  uses = S.uses;
  trace = λ n r ws. S.trace n r (xs n);
  pairs = S.pairs;
  asserts = S.asserts;
}

-- ---- what is given in a clock

-- which elements fire, and of all but the idle methods which are ready, and what those give that are
pub record TellsOthers (aggressive : Bool) (S : Scheme) (q : Asking) (s : List Part) (fired : List ℕ) (after : List Part) (g : Given) : Type 0 where
  pub fires : (n : ℕ) → n < length S.elements → slice_get g.fires n ≡ Some (bit (is_in fired n))
  pub readies : (n : ℕ) → n < length S.elements → is_idle S q n ≡ false
      → slice_get g.readies n ≡ Some (bit (ready aggressive S q n (clock_look S q s fired)))
  pub results : (n : ℕ) (w : Bits) → is_idle S q n ≡ false → ready aggressive S q n (clock_look S q s fired) ≡ true
      → value S q n (clock_look S q s fired) ≡ Some w → slice_get g.results n ≡ Some w
  -- and the registers after it show the parts after it
  pub nexts : Shows S.kinds after g.nexts

-- Whatever words are at the arguments of methods that act and are not asked, the same is told of each clock: which elements
-- fire, the registers after it, and what is ready and given of all others.
abbrev pub IgnoresUnasked : Bool → Scheme → Schedule → List Cell → (List Bits → List Bits → Given) → Type 0
IgnoresUnasked aggressive S made cells gives =
    (q : Asking) (s : List Part) (ws : List Bits) (fired : List ℕ) (after : List Part) (xs : Arguments) → Fit S q s → MayBeArguments S q xs
    → HaveWidths (cell_widths cells) ws → Shows S.kinds s ws → IsClock aggressive S made q s fired after
    → TellsOthers aggressive S q s fired after (gives ws (inputs_with S q xs))
