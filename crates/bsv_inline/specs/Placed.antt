-- The element that a flat body is in a design: its calls name parts, and its conditions have the names of the methods that
-- they stand for (Bluespec reference guide, "Module and interface instantiation").
use Rattle.std.specs.Prelude.{◌≡◌, ℕ, ◌+◌, ◌≤◌, nat_lt, Bool, false, ◌&&◌, List, map, length, slice_get, Option, Some, None, option_map}
use Rattle.std.specs.Bool.{beq}
use Rattle.std.specs.List.{list_all}
use Rattle.bsv_types.specs.declared.modules.Method.{Method}
use Rattle.bsv_types.specs.declared.modules.Module.{Module}
use Rattle.bsv_design.specs.declared.element.Call.{Call as PartCall}
use Rattle.bsv_design.specs.declared.element.Condition.{Condition as NamedCondition}
use Rattle.bsv_design.specs.declared.element.Element.{Element}
use Rattle.bsv_design.specs.declared.element.Port.{Port}
use Rattle.bsv_design.specs.declared.element.Role.{Role}
use Rattle.bsv_design.specs.declared.kind.Kind.{Kind}
use Rattle.bsv_tree.specs.declared.tree.Instance.{Instance}
use Rattle.bsv_design.specs.parts.Kinds.{kind_table}
use Rattle.bsv_design.specs.scheme.Traces.{acts, kind_at}
use Rattle.bsv_tree.specs.tree.Elements.{parts_before, target_of, place_name}
use Rattle.bsv_body.specs.declared.body.Body.{Body}
use Rattle.bsv_body.specs.declared.calls.Call.{Call}
use Rattle.bsv_body.specs.declared.calls.Condition.{Condition}

-- of each instance, how many primitives come before it, and at the end how many there are
pub record ArePartNumbers (is : List Instance) (numbers : List ℕ) : Type 0 where
  pub as_many : length numbers ≡ length is + 1
  pub at : (n : ℕ) → n ≤ length is → slice_get numbers n ≡ Some (parts_before is n)

abbrev pub placed_call : List Instance → Call → PartCall
placed_call is c = record {
  part = parts_before is c.method.instance;
  method = c.method.method;
  taken = c.taken;
  branches = c.branches;
  args = c.arguments;
}

abbrev pub named_condition : List Module → List Instance → Condition → NamedCondition
named_condition ms is c = record { truth = c.truth; taken = c.taken; implicit = option_map (place_name ms is) c.name }

abbrev pub element : List Module → List Instance → List ℕ → Role → List Port → Body → Element
element ms is name role ports b = record {
  name = name;
  role = role;
  arguments = ports;
  nodes = b.nodes;
  conditions = map (named_condition ms is) b.conditions;
  calls = map (placed_call is) b.calls;
  result = b.result;
}

-- the method is one of the kind, and acts where the call does
abbrev pub kind_fits : Option Kind → Call → Bool
kind_fits None c = false
kind_fits (Some k) c = nat_lt c.method.method (kind_table k).methods && beq ((kind_table k).is_action c.method.method) c.action

-- the same of a call, in a design of parts of these kinds
abbrev pub call_fits : List Kind → List Instance → Call → Bool
call_fits ks is c = kind_fits (kind_at ks (target_of is c.method)) c

-- and so of each of these calls
abbrev pub all_fit : List Kind → List Instance → List Call → Bool
all_fit ks is cs = list_all (call_fits ks is) cs

-- the call acts where its method does
abbrev pub acts_rightly : List Kind → List Instance → Call → Bool
acts_rightly ks is c = beq (acts (kind_at ks (target_of is c.method)) c.method.method) c.action

-- the method of a module of this number
abbrev pub method_of : Option Module → ℕ → Option Method
method_of None method = None
method_of (Some m) method = slice_get m.methods method
