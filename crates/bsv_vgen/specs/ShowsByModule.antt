-- A module that carries a scheme: in each clock without a reset it tells what fires, what is ready and what that gives, and
-- its registers show the state after the clock (Hoe and Arvind 2004; IEEE 1364-2005, continuous and nonblocking
-- assignment). A method that gives a value alone has no enable, so it is looked at asked or not.
use Rattle.std.specs.Prelude.{◌≡◌, ℕ, Bool, true, false, List, map, length, slice_get, Some}
use Rattle.bsv_bits.specs.Words.{Bits, bit}
use Rattle.bsv_prim.specs.declared.part.Part.{Part}
use Rattle.bsv_design.specs.declared.schedule.Schedule.{Schedule}
use Rattle.bsv_design.specs.design.Roles.{is_rule, is_value}
use Rattle.bsv_design.specs.scheme.Schemes.{Scheme, Outline, Asking, given, ready, value}
use Rattle.bsv_graph.specs.Edges.{numbers_below}
use Rattle.bsv_guard.specs.Fitting.{HaveWidths}
use Rattle.bsv_clock.specs.Shows.{Shows, cell_widths, cells_of}
use Rattle.bsv_clock.specs.Clocks.{IsClock, is_in, is_asked}
use Rattle.bsv_clock.specs.Grounds.{Fit}
use Rattle.bsv_clock.specs.Looks.{clock_look}
use Rattle.bsv_net.specs.Unasked.{Arguments, MayBeArguments, is_idle}
use Rattle.bsv_vtext.specs.declared.tree.Target.TheVariants as target
use Rattle.bsv_vtext.specs.Signals.{VModuleData}
use Rattle.bsv_vtext.specs.VClock.{Inputs, Nets, VClock}
use Rattle.bsv_vgen.specs.Names.{fire_wire}

-- of so many methods: the enable is 1 where the method is asked, and the arguments are these words
abbrev pub inputs_with : Asking → Arguments → ℕ → Inputs
inputs_with q xs count = record { enables = map (is_asked q) (numbers_below count); arguments = map xs (numbers_below count) }

-- the arguments are 0 where the method is not asked
abbrev pub inputs : Scheme → Asking → ℕ → Inputs
inputs S q count = inputs_with q (given S q) count

-- the wire that tells that an element fires has this word
pub record TellsFire (c : VModuleData) (nets : Nets) (name : List ℕ) (w : Bits) : Type 0 where
  pub place : ℕ
  pub at : slice_get c.wires place ≡ Some (fire_wire name)
  pub word : nets (target.Wire place) ≡ w

-- what the nets and the next registers tell of a clock in which these elements fire
pub record TellsModule (aggressive : Bool) (S : Scheme) (q : Asking) (s : List Part) (fired : List ℕ) (after : List Part) (c : VModuleData) (nets : Nets) (behind : List Bits) : Type 0 where
  pub fires : (n : ℕ) (o : Outline) → slice_get S.elements n ≡ Some o → is_value o.role ≡ false → TellsFire c nets o.name (bit (is_in fired n))
  pub readies : (n : ℕ) (o : Outline) → slice_get S.elements n ≡ Some o → is_rule o.role ≡ false
      → nets (target.Ready n) ≡ bit (ready aggressive S q n (clock_look S q s fired))
  pub results : (n : ℕ) (o : Outline) (w : Bits) → slice_get S.elements n ≡ Some o → is_rule o.role ≡ false
      → ready aggressive S q n (clock_look S q s fired) ≡ true → value S q n (clock_look S q s fired) ≡ Some w → nets (target.Result n) ≡ w
  pub nexts : Shows S.kinds after behind

-- from each state that fits, with requests that fit, whatever words solve the assignments
abbrev pub ModuleCarries : Bool → Scheme → Schedule → VModuleData → Type 0
ModuleCarries aggressive S made c =
    (q : Asking) (s : List Part) (ws : List Bits) (fired : List ℕ) (after : List Part) (nets : Nets) (nexts : List Bits) → Fit S q s
    → HaveWidths (cell_widths (cells_of S.kinds)) ws → Shows S.kinds s ws → IsClock aggressive S made q s fired after
    → VClock c ws (inputs S q (length c.methods)) true nets nexts
    → TellsModule aggressive S q s fired after c nets nexts

-- what they tell of all but the methods that act and are not asked
pub record TellsOthersByModule (aggressive : Bool) (S : Scheme) (q : Asking) (s : List Part) (fired : List ℕ) (after : List Part) (c : VModuleData) (nets : Nets) (behind : List Bits) : Type 0 where
  pub fires : (n : ℕ) (o : Outline) → slice_get S.elements n ≡ Some o → is_value o.role ≡ false → TellsFire c nets o.name (bit (is_in fired n))
  pub readies : (n : ℕ) (o : Outline) → slice_get S.elements n ≡ Some o → is_rule o.role ≡ false → is_idle S q n ≡ false
      → nets (target.Ready n) ≡ bit (ready aggressive S q n (clock_look S q s fired))
  pub results : (n : ℕ) (o : Outline) (w : Bits) → slice_get S.elements n ≡ Some o → is_rule o.role ≡ false → is_idle S q n ≡ false
      → ready aggressive S q n (clock_look S q s fired) ≡ true → value S q n (clock_look S q s fired) ≡ Some w → nets (target.Result n) ≡ w
  pub nexts : Shows S.kinds after behind

-- and whatever words are at the arguments of methods that act and are not asked, the same is told of each clock
abbrev pub ModuleIgnores : Bool → Scheme → Schedule → VModuleData → Type 0
ModuleIgnores aggressive S made c =
    (q : Asking) (s : List Part) (ws : List Bits) (fired : List ℕ) (after : List Part) (nets : Nets) (nexts : List Bits) (xs : Arguments)
    → Fit S q s → MayBeArguments S q xs
    → HaveWidths (cell_widths (cells_of S.kinds)) ws → Shows S.kinds s ws → IsClock aggressive S made q s fired after
    → VClock c ws (inputs_with q xs (length c.methods)) true nets nexts
    → TellsOthersByModule aggressive S q s fired after c nets nexts
