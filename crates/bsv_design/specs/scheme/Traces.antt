-- What an element does, with a word for each call of a value method: its trace. It is the same thing of an element as it
-- is in the text and of its flat body (Bluespec reference guide, "Rules", "Implicit conditions").
use Rattle.std.specs.Prelude.{ℕ, Bool, false, List, map, slice_get, Option, Some, None, option_map, is_some}
use Rattle.bsv_bits.specs.Words.{Bits}
use Rattle.bsv_design.specs.declared.element.Call.{Call}
use Rattle.bsv_design.specs.declared.element.Condition.{Condition}
use Rattle.bsv_design.specs.declared.element.Element.{Element}
use Rattle.bsv_design.specs.declared.kind.Kind.{Kind}
use Rattle.bsv_design.specs.declared.node.Branch.{Branch}
use Rattle.bsv_design.specs.design.Bodies.{Target, target, Answers, at, words}
use Rattle.bsv_design.specs.parts.Kinds.{kind_table}
use Rattle.bsv_design.specs.design.Words.{is_one}

-- a call of a method of a part, at its site
pub record Site : Type 0 where
  pub target : Target
  -- it acts, and gives no value
  pub action : Bool
  -- the arms are taken in which it stands
  pub taken : Bool
  -- these arms, from the outside
  pub branches : List Branch
  pub arguments : List Bits

-- a condition that has to hold: that of a user method, by its path and name, or else the element's own
pub record Demand : Type 0 where
  pub name : Option (List ℕ)
  pub holds : Bool
  pub taken : Bool

-- it is the condition of a user method, which alone has a name
abbrev pub has_name : Demand → Bool
has_name x = is_some x.name

-- the calls and the conditions in text order, and what the element gives
pub record Trace : Type 0 where
  pub sites : List Site
  pub demands : List Demand
  pub result : Option Bits

-- ---- of a flat body

abbrev pub acts : Option Kind → ℕ → Bool
acts None m = false
acts (Some k) m = (kind_table k).is_action m

abbrev pub kind_at : List Kind → Target → Option Kind
kind_at ks t = slice_get ks t.part

abbrev pub site_at : List Kind → List Bits → Call → Site
site_at ks ws c = record {
  target = target c;
  action = acts (kind_at ks (target c)) c.method;
  taken = is_one (at ws c.taken);
  branches = c.branches;
  arguments = map (at ws) c.args;
}

abbrev pub demand_at : List Bits → Condition → Demand
demand_at ws c = record { name = c.implicit; holds = is_one (at ws c.truth); taken = is_one (at ws c.taken) }

unfoldable pub body_trace : List Kind → Element → Answers → List Bits → Trace
body_trace ks e r arguments = by (words e r arguments) where
  by : List Bits → Trace
  by ws = record { sites = map (site_at ks ws) e.calls; demands = map (demand_at ws) e.conditions; result = option_map (at ws) e.result }
