-- What scheduling answers of a tree: its schedule, or the first refusal after building (Hoe and Arvind 2004; Bluespec
-- reference guide, "Scheduling attributes").
use Rattle.std.specs.Prelude.{◌≡◌, ℕ, false, List, [], ◌++◌, map, slice_get, Option, Some, None}
use Rattle.bsv_design.specs.declared.design.NamedPart.{NamedPart}
use Rattle.bsv_design.specs.declared.element.Call.{Call}
use Rattle.bsv_design.specs.declared.element.Condition.{Condition}
use Rattle.bsv_design.specs.declared.element.Element.{Element}
use Rattle.bsv_design.specs.declared.schedule.Schedule.{Schedule}
use Rattle.bsv_design.specs.declared.attributes.Pair.{Pair}
use Rattle.bsv_design.specs.design.Guards.{needs_of}
use Rattle.bsv_design.specs.scheme.Relations.{KeepsTheRule, sites_of}
use Rattle.bsv_design.specs.scheme.Schemes.{AreAlike, design_scheme, kinds_of}
use Rattle.bsv_clock.specs.Subjects.{Subject, element_name}
use Rattle.bsv_tree.specs.meaning.Schemes.{tree_scheme}
use Rattle.bsv_design.specs.scheme.Seen.{design_data}
use Rattle.bsv_tree.specs.tree.Elements.{parts_among}
use Rattle.bsv_design.specs.scheme.Traces.{Site, Demand}
use Rattle.bsv_design.specs.design.Paths.{with_dot}
use Rattle.bsv_tree.specs.tree.Trees.{TreeData}
use Rattle.bsv_schedule.specs.relating.Elements.{relating}
use Rattle.bsv_schedule.specs.execution_order.Orders.{Executes}
use Rattle.bsv_schedule.specs.relating.Relating.{Relating}
use Rattle.bsv_schedule.specs.stopping.Stops.{AreStops}
use Rattle.bsv_schedule.specs.urgency_order.Orders.{Urges}
use Rattle.bsv_schedule.specs.declared.execution_order.fault.OrderFault.{OrderFault}
use Rattle.bsv_schedule.specs.declared.execution_order.fault.OrderFault.TheVariants as order
use Rattle.bsv_schedule.specs.execution_order.Answers.{RefusesExecution}
use Rattle.bsv_schedule.specs.declared.urgency_order.fault.UrgencyFault.{UrgencyFault}
use Rattle.bsv_schedule.specs.declared.urgency_order.fault.UrgencyFault.TheVariants as urgency
use Rattle.bsv_schedule.specs.urgency_order.Answers.{RefusesUrgency}
use Rattle.bsv_attr.specs.Asserting.{IsAccepted, NamesImplicit, NamesStopper}
use Rattle.bsv_attr.specs.Implicit.{demands_of}
use Rattle.bsv_guard.specs.Lifted.{AreLifted}
use Rattle.bsv_inline.specs.Flattening.{top_name}
use Rattle.bsv_net.specs.AtHand.{net_data}
use Rattle.bsv_net.specs.ShowsByNet.{NetCarries}
use Rattle.bsv_share.specs.Sharing.{IsDistinct, IsFolded, IsNeeded}
use Rattle.bsv_vtext.specs.AtHand.{module_data}
use Rattle.bsv_vtext.specs.Modules.{IsModule}
use Rattle.bsv_vtext.specs.Signals.{VModuleData}
use Rattle.bsv_vgen.specs.ShowsByModule.{ModuleCarries, ModuleIgnores}
use Rattle.bsv_vgen.specs.Interfaces.{HasResultWidths, IsModuleOf}
use Rattle.bsv_vgen.specs.Resetting.{BeginsOpen, Resets}
use Rattle.bsv_vgen.specs.Runs.{RunsAs, RunsUnasked}
use Rattle.bsv_flow.specs.declared.refusal.Refusal.{Refusal}
use Rattle.bsv_flow.specs.declared.refusal.Refusal.TheVariants as refusal
use Rattle.bsv_flow.specs.declared.scheduling.Compiled.{Compiled}
use Rattle.bsv_flow.specs.Attributes.{attribute_word}
use Rattle.bsv_flow.specs.Clocked.{IsWellClocked}
use Rattle.bsv_flow.specs.Breaches.{part_path, method_name, or_no_name, TellsBreach}

-- what of a tree is scheduled
abbrev pub subject : TreeData → Subject
subject h = record { scheme = tree_scheme h; parts = parts_among h.instances }

abbrev pub related : Subject → Relating
related s = relating s.scheme

-- ---- the schedule

-- both orders, and what each element stops
pub record IsOrdered (s : Subject) (made : Schedule) : Type 0 where
  pub executes : Executes (related s) made.execution
  pub urges : Urges (related s) made.urgency
  pub stops : AreStops (related s) made.execution made.urgency made.stops

-- no two calls of one element break the rule of one element, and no mark of a rule is refused
pub record IsScheduled (s : Subject) (made : Schedule) : Type 0 where
  pub kept : (n : ℕ) → KeepsTheRule s.scheme n
  pub ordered : IsOrdered s made
  pub accepted : IsAccepted s.scheme made

-- ---- how a refusal is told

abbrev pub pair_names : Subject → Pair → List ℕ × List ℕ × List ℕ
pair_names s p = (attribute_word p.attribute, element_name s.scheme p.before, element_name s.scheme p.after)

abbrev pub pair_told : (List ℕ → List ℕ → List ℕ → Refusal) → Subject → Pair → Refusal
pair_told told s p = told (attribute_word p.attribute) (element_name s.scheme p.before) (element_name s.scheme p.after)

-- want of memory is none
abbrev pub order_told : Subject → OrderFault → Option Refusal
order_told s (order.WireCycle a) = Some (refusal.WireCycle (element_name s.scheme a))
order_told s (order.ValueClash v) = Some (refusal.ValueClash (element_name s.scheme v))
order_told s (order.ExecutionCycle p) = Some (pair_told refusal.ExecutionCycle s p)
order_told s order.OutOfMemory = None

abbrev pub urgency_told : Subject → UrgencyFault → Option Refusal
urgency_told s (urgency.UrgencyCycle p) = Some (pair_told refusal.UrgencyCycle s p)
urgency_told s (urgency.MethodBehindRule m q) = Some (refusal.MethodBehindRule (element_name s.scheme m) (element_name s.scheme q))
urgency_told s urgency.OutOfMemory = None

abbrev pub demand_name : Demand → List ℕ
demand_name d = or_no_name d.name

abbrev pub call_name : List NamedPart → Site → List ℕ
call_name ps x = with_dot (part_path ps x.target.part) (method_name ps x.target.part x.target.method)

-- the conditions of an element by their names, and then its calls
abbrev pub names_in : Subject → ℕ → List (List ℕ)
names_in s n = map demand_name (demands_of s.scheme n) ++ map (call_name s.parts) (sites_of s.scheme n)

abbrev pub place_name : Subject → ℕ → ℕ → List ℕ
place_name s n place = or_no_name (slice_get (names_in s n) place)

abbrev pub implicit_told : Subject → ℕ → ℕ → Refusal
implicit_told s r place = refusal.NoImplicit (element_name s.scheme r) (place_name s r place)

abbrev pub stopper_told : Subject → ℕ → ℕ → Refusal
stopper_told s r f = refusal.FireWhenEnabled (element_name s.scheme r) (element_name s.scheme f)

-- the same of a flat body: its conditions by their names, and then its calls
abbrev pub call_text : List NamedPart → Call → List ℕ
call_text ps c = with_dot (part_path ps c.part) (method_name ps c.part c.method)

abbrev pub condition_text : Option Condition → List ℕ
condition_text None = []
condition_text (Some c) = or_no_name c.implicit

abbrev pub condition_at : Element → ℕ → List ℕ
condition_at e place = condition_text (slice_get e.conditions place)

abbrev pub call_of : List NamedPart → Option Call → List ℕ
call_of ps None = []
call_of ps (Some c) = call_text ps c

abbrev pub call_at : List NamedPart → Element → ℕ → List ℕ
call_at ps e place = call_of ps (slice_get e.calls place)

abbrev pub texts_in : List NamedPart → Element → List (List ℕ)
texts_in ps e = map (λ c. or_no_name c.implicit) e.conditions ++ map (call_text ps) e.calls

-- ---- the first refusal of the orders, and of the marks

-- why there is no execution order
pub record IsUnexecuted (s : Subject) (r : Refusal) : Type 0 where
  pub fault : OrderFault
  pub refuses : RefusesExecution (related s) fault
  pub told : order_told s fault ≡ Some r

-- why there is no urgency order
pub record IsUnurged (s : Subject) (r : Refusal) : Type 0 where
  pub fault : UrgencyFault
  pub declines : RefusesUrgency (related s) s.scheme.pairs fault
  pub told : urgency_told s fault ≡ Some r

-- why a mark is refused
pub data IsUnasserted (s : Subject) (made : Schedule) : Refusal → Type 0 where
  implicit : (rule place : ℕ) → NamesImplicit s.scheme rule place → IsUnasserted s made (implicit_told s rule place)
  stopped : (rule f : ℕ) → NamesStopper s.scheme made rule f → IsUnasserted s made (stopper_told s rule f)

-- ---- the first refusal

-- each after the ones before it
pub data Unscheduled (h : TreeData) (r : Refusal) : Type 0 where
  in_rule : TellsBreach h r → Unscheduled h r
  executing : ((n : ℕ) → KeepsTheRule (tree_scheme h) n) → IsUnexecuted (subject h) r → Unscheduled h r
  urging : ((n : ℕ) → KeepsTheRule (tree_scheme h) n) → (execution : List ℕ) → Executes (related (subject h)) execution
      → IsUnurged (subject h) r → Unscheduled h r
  asserting : ((n : ℕ) → KeepsTheRule (tree_scheme h) n) → (made : Schedule) → IsOrdered (subject h) made
      → IsUnasserted (subject h) made r → Unscheduled h r

-- ---- what was compiled

-- The module carries the tree: its name, ports, registers and wires are those of the tree, from its initial words on it runs as the
-- tree does, whatever words are at arguments that are not asked for, and a reset shows the parts before the first clock again
-- but for registers without a start. And the tree has the clocks that this speaks of
pub record IsVerilogOf (h : TreeData) (made : Schedule) (v : VModuleData) : Type 0 where
  pub right : ∥ IsModule v ∥₁
  pub name : List ℕ
  pub top : top_name h ≡ Some name
  pub is : IsModuleOf name (parts_among h.instances) (tree_scheme h).elements v
  pub clocked : IsWellClocked (tree_scheme h) made
  -- a result port is as wide as what its method gives, ready or not
  pub results : HasResultWidths (tree_scheme h) v
  pub carries : ModuleCarries false (tree_scheme h) made v
  pub ignores : ModuleIgnores false (tree_scheme h) made v
  pub runs : RunsAs false (tree_scheme h) made v
  pub unasked : RunsUnasked false (tree_scheme h) made v
  pub begins : BeginsOpen (tree_scheme h).kinds v
  pub resets : Resets (tree_scheme h).kinds v

-- the design is that of the tree, with the guards that its calls need, its net and its module
pub record IsCompiledOf (h : TreeData) (c : Compiled) : Type 0 where
  pub alike : AreAlike (tree_scheme h) (design_scheme (design_data c.design))
  pub name : top_name h ≡ Some c.design.name
  pub parts : c.design.parts ≡ parts_among h.instances
  pub needs : c.guards.needs ≡ needs_of (kinds_of (design_data c.design)) c.design.elements
  pub lifted : AreLifted (design_data c.design) c.guards.needs
  pub carries : NetCarries false (tree_scheme h) c.schedule c.net
  -- no operator of the net has constants alone for operands, no two of its nodes are equal, and each is needed
  pub folded : IsFolded c.net.nodes
  pub distinct : IsDistinct c.net.nodes
  pub needed : IsNeeded (net_data c.net)
  pub verilog : IsVerilogOf h c.schedule (module_data c.verilog)
