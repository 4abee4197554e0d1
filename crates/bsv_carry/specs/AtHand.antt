-- For each method of the code the definition of its name, with what is at hand in front.
use Rattle.std.specs.Prelude.{ℕ, Bool, false, List, [], ◌∷◌, map, slice_get, Option, Some, None, option_map, Result, Ok}
use Rattle.bsv_fail.specs.Given.{◌>>=◌}
use Rattle.bsv_types.specs.declared.definitions.Body.{Body}
use Rattle.bsv_types.specs.declared.definitions.Field.{Field}
use Rattle.bsv_types.specs.declared.expressions.Expr.{Expr}
use Rattle.bsv_types.specs.declared.expressions.Place.{Place}
use Rattle.bsv_types.specs.declared.modules.Method.{Method}
use Rattle.bsv_types.specs.declared.operators.Op.{Op}
use Rattle.bsv_types.specs.declared.operators.Op.TheVariants as op
use Rattle.bsv_types.specs.declared.statements.Branch.{Branch}
use Rattle.bsv_types.specs.declared.statements.CaseArm.{CaseArm}
use Rattle.bsv_types.specs.declared.statements.Condition.{Condition}
use Rattle.bsv_types.specs.declared.statements.Head.{Head}
use Rattle.bsv_types.specs.declared.statements.Stmt.{Stmt}
use Rattle.bsv_types.specs.declared.types.PartTy.{PartTy}
use Rattle.bsv_types.specs.declared.typed.Typed.{Typed}
use Rattle.bsv_types.specs.Kinds.{Kind}
use Rattle.bsv_types.specs.Shapes.{Shapes}
use Rattle.bsv_bits.specs.declared.operator.Operator.{Operator}
use Rattle.bsv_design.specs.declared.kind.Kind.{Kind as PartKind}
use Rattle.bsv_tree.specs.declared.steps.Arm.{Arm}
use Rattle.bsv_tree.specs.declared.steps.Atom.{Atom}
use Rattle.bsv_tree.specs.declared.steps.MethodPlace.{MethodPlace}
use Rattle.bsv_tree.specs.declared.tree.Built.{Built}
use Rattle.bsv_tree.specs.declared.values.Count.{Count}
use Rattle.bsv_tree.specs.declared.values.Fault.{Fault}
use Rattle.bsv_tree.specs.declared.values.Local.{Local}
use Rattle.bsv_tree.specs.declared.values.Pending.{Pending}
use Rattle.bsv_tree.specs.declared.values.Value.{Value}
use Rattle.bsv_tree.specs.declared.values.Work.{Work}
use Rattle.bsv_tree.specs.carrying.Applied as applying
use Rattle.bsv_tree.specs.tree.Widths as type_widths
use Rattle.bsv_tree.specs.carrying.Operated as operated
use Rattle.bsv_tree.specs.carrying.Calls as calls
use Rattle.bsv_tree.specs.tree.Contexts as contexts
use Rattle.bsv_tree.specs.carrying.Calls.{Caller}
use Rattle.bsv_tree.specs.tree.Contexts.{made_of, place_in_body}
use Rattle.bsv_tree.specs.carrying.Carrying as carrying
use Rattle.bsv_tree.specs.carrying.Carrying.{Carried, Carry, Acts, Test, Branched, Labelled, call_at}
use Rattle.bsv_tree.specs.carrying.Frames.{no_variables}
use Rattle.bsv_tree.specs.carrying.Working.{Valued}
use Rattle.bsv_carry.specs.declared.carrier.Carrier.{Carrier}
use Rattle.bsv_carry.specs.declared.site.Context.{Context}
use Rattle.bsv_carry.specs.declared.suffixes.BitRange.{BitRange}

abbrev pub shapes_of : Typed → Shapes
shapes_of t = record { enums = t.enums; structs = t.structs; interfaces = t.interfaces }

abbrev pub shapes : Carrier → Shapes
shapes c = shapes_of c.typed.now

abbrev pub site : Carrier → contexts.Context
site c = record {
  shapes = shapes c;
  functions = c.typed.now.functions;
  modules = c.typed.now.modules;
  instances = c.instances.now;
  within = c.«module»;
  bindings = c.bindings.now;
}

-- the same of what is at hand for the calls of other crates
abbrev pub text : Context → contexts.Context
text t = record {
  shapes = shapes_of t.typed.now;
  functions = t.typed.now.functions;
  modules = t.typed.now.modules;
  instances = t.instances.now;
  within = t.«module»;
  bindings = t.bindings.now;
}

abbrev pub fault_of : Carrier → Fault
fault_of c = calls.static_fault (site c)

abbrev pub caller : Carrier → Caller
caller c = call_at c.depth

-- ---- operators

abbrev pub width : Carrier → Kind → ℕ
width c = type_widths.width (shapes c)

abbrev pub fields : Carrier → Kind → List Field
fields c = applying.fields (shapes c) (fault_of c)

abbrev pub shifted : Carrier → Operator → Value → Value → Work → Valued
shifted c = applying.shifted (shapes c) (fault_of c)

abbrev pub from_maybe : Carrier → Kind → Value → Value → Work → Valued
from_maybe c = applying.from_maybe (shapes c) (fault_of c)

abbrev pub bits_between : Carrier → Op → Kind → Value → Value → Work → Valued
bits_between c = applying.bits_between (shapes c) (fault_of c)

abbrev pub two_operands : Carrier → Op → Kind → Value → Value → Work → Valued
two_operands c = applying.two_operands (shapes c) (fault_of c)

abbrev pub negated : Carrier → Kind → Value → Work → Valued
negated c = applying.negated (shapes c) (fault_of c)

abbrev pub from_integer : Carrier → Kind → Value → Work → Valued
from_integer c = applying.from_integer (shapes c) (fault_of c)

abbrev pub one_operand : Carrier → Op → Kind → Kind → Value → Work → Valued
one_operand c = applying.one_operand (shapes c) (fault_of c)

abbrev pub number_below : Carrier → ℕ → Value → Result ℕ Fault
number_below c = applying.number_below (shapes c) (fault_of c)

-- a part of a value, as the code has it
abbrev pub part : BitRange → operated.BitRange
part p = record { high = p.high; low = p.low; inner = p.inner.now }

abbrev pub field_part : Carrier → List Field → ℕ → operated.BitRange
field_part c fs number = operated.field_part (shapes c) (fault_of c) fs number (slice_get fs number)

abbrev pub single : Carrier → Kind → Kind → Op → Value → List Value → Work → Valued
single c = operated.single (shapes c) (fault_of c)

abbrev pub not_built : Carrier → Kind → Kind → List Op → Value → List Value → Work → Valued
not_built c = operated.not_built (shapes c) (fault_of c)

abbrev pub applied : Carrier → Kind → Kind → List Op → List Value → Work → Valued
applied c = operated.applied (shapes c) (fault_of c)

-- ---- what needs no expression carried out

abbrev pub literal : Carrier → Kind → ℕ → Work → Valued
literal c = carrying.literal (shapes c) (fault_of c)

abbrev pub variable : Carrier → ℕ → List Local → Result Value Fault
variable c = calls.variable (site c)

abbrev pub settled : Carrier → Kind → Value × Work → Valued
settled c = carrying.as_static (caller c) (site c)

abbrev pub placed : Carrier → ℕ → Result ℕ Fault
placed c level = calls.placed (fault_of c) (slice_get c.bindings.now level)

abbrev pub placed_at : Carrier → ℕ → ℕ → Result ℕ Fault
placed_at c level at = calls.placed_at (fault_of c) (slice_get c.bindings.now level) at

abbrev pub index_of : Carrier → Value → Result ℕ Fault
index_of c = carrying.index_of (caller c) (site c)

abbrev pub same_as : Carrier → Value → Value → Work → Valued
same_as c = carrying.same_as (caller c) (site c)

abbrev pub returned : Carrier → Option Local → Work → Valued
returned c = carrying.returned (caller c) (site c)

-- ---- expressions

abbrev pub expression : Carrier → Expr → Carried
expression c = carrying.expression (caller c) (site c)

abbrev pub expressions : Carrier → List Expr → List Carried
expressions c es = map (carrying.expression (caller c) (site c)) es

abbrev pub expr : Carrier → Expr → Carry
expr c e = carrying.expr (caller c) (site c) e

abbrev pub exprs : Carrier → List Expr → List Carry
exprs c es = map (carrying.expr (caller c) (site c)) es

abbrev pub first_type : Carrier → Kind → List Expr → Kind
first_type c t es = carrying.first_type t (expressions c es)

abbrev pub all : Carrier → List Expr → List Local → Work → Result (List Value × Work) Fault
all c es = carrying.all (expressions c es)

abbrev pub apply : Carrier → Kind → List Op → List Expr → Carry
apply c t os es = carrying.apply (caller c) (site c) t os (expressions c es)

abbrev pub in_turn : Carrier → Kind → List Op → List Expr → Carry
in_turn c k os es = carrying.in_turn (shapes c) (fault_of c) k os (expressions c es)

abbrev pub chained : Carrier → List Op → Kind → Value → List Expr → Carry
chained c os k x es = carrying.chained (shapes c) (fault_of c) os k x (expressions c es)

abbrev pub part_of : Carrier → ℕ → List Field → Op → List Expr → List Local → Work → Result (operated.BitRange × List Carried × Work) Fault
part_of c bits fs o es = carrying.part_of (shapes c) (fault_of c) bits fs o (expressions c es)

-- the operands that are left after a suffix, of which an index is one
abbrev pub operands_after : Op → List Expr → List Expr
operands_after op.Index (e ∷ es) = es
operands_after o es = es

abbrev pub suffixed : Carrier → ℕ → List Field → List Op → Value → List Expr → Carry
suffixed c bits fs os x es = carrying.suffixed (shapes c) (fault_of c) bits fs os x (expressions c es)

abbrev pub function : Carrier → ℕ → List Expr → Carry
function c number es = carrying.function (caller c) (site c) number (expressions c es)

abbrev pub last_value : Carrier → Work → List Arm → Expr → List Local → Count → Valued
last_value c w arms e = carrying.last_value w arms (expression c e)

abbrev pub value_asked : Carrier → Expr → List Local → Count → Valued
value_asked c e = carrying.value_asked (expression c e)

abbrev pub value_kept : Carrier → List Arm → Count → Value × Work → Expr → List Local → Result (List Arm × Count) Fault
value_kept c arms before test e = carrying.value_kept arms before test (expression c e)

abbrev pub choice : Carrier → List Expr → List Expr → Carry
choice c ts es = carrying.choice (caller c) (site c) (expressions c ts) (expressions c es)

abbrev pub place : Carrier → Place → List Local → Count → Result (ℕ × Count) Fault
place c p = carrying.place (caller c) (site c) p

-- ---- methods

abbrev pub primitive_call : Carrier → ℕ → PartTy → PartKind → ℕ → List Expr → List Local → Count → Result (MethodPlace × List Atom × Work) Fault
primitive_call c instance p k number es = carrying.primitive_call (caller c) (site c) instance p k number (expressions c es)

abbrev pub module_call : Carrier → ℕ → Built → ℕ → List Expr → Carry
module_call c instance b number es = carrying.module_call (caller c) (site c) instance b number (expressions c es)

abbrev pub value_of : Carrier → ℕ → ℕ → List Expr → Carry
value_of c instance number es = carrying.value_of (caller c) (site c) instance (made_of (slice_get c.instances.now instance)) number (expressions c es)

abbrev pub method : Carrier → Place → ℕ → List Expr → Carry
method c p number es = carrying.method (caller c) (site c) (place c p) number (expressions c es)

abbrev pub act_of : Carrier → ℕ → ℕ → List Expr → Carry
act_of c instance number es = carrying.act_of (caller c) (site c) instance (made_of (slice_get c.instances.now instance)) number (expressions c es)

abbrev pub act : Carrier → Place → ℕ → List Expr → Carry
act c p number es = carrying.act (caller c) (site c) (place c p) number (expressions c es)

abbrev pub function_at : Carrier → ℕ → List Value → Work → Valued
function_at c number = calls.function_at (caller c) (site c) (slice_get c.typed.now.functions number)

abbrev pub user_method : Carrier → ℕ → Built → ℕ → List Value → Work → Valued
user_method c = calls.user_method (caller c) (site c)

abbrev pub asking : Carrier → Option MethodPlace → Option Expr → Work → Result Work Fault
asking c = carrying.asking (caller c) (site c)

abbrev pub giving : Carrier → Body → Bool → List Value → Work → Valued
giving c = carrying.giving (caller c) (site c)

abbrev pub entered : Carrier → MethodPlace → Method → List Value → Work → Valued
entered c name m = carrying.called (caller c) (site c) (record { name = Some name; condition = m.condition; body = m.body; integer = false })

-- ---- statements

abbrev pub stmt : Carrier → Stmt → Acts
stmt c s = carrying.stmt (caller c) (site c) s

abbrev pub stmts : Carrier → List Stmt → List Acts
stmts c ss = map (carrying.stmt (caller c) (site c)) ss

abbrev pub run : Carrier → List Stmt → Acts
run c ss = carrying.run (stmts c ss)

abbrev pub block : Carrier → List Stmt → Acts
block c ss = carrying.inside (run c ss)

abbrev pub inside : Carrier → Stmt → Acts
inside c s = carrying.inside (stmt c s)

abbrev pub last_of : Carrier → Option Stmt → Acts
last_of c o = carrying.or_nothing (option_map (carrying.stmt (caller c) (site c)) o)

abbrev pub otherwise : Carrier → Work → List Pending → Option Stmt → List Local → Count → Result (List Local × Work) Fault
otherwise c w ps o = carrying.last_arm w ps (last_of c o)

-- ---- `if`

abbrev pub branch : Carrier → Branch → Branched
branch c b = carrying.branch (caller c) (site c) b

abbrev pub branches : Carrier → List Branch → List Branched
branches c bs = map (carrying.branch (caller c) (site c)) bs

abbrev pub condition_asked : Carrier → Condition → List Local → Count → Result Test Fault
condition_asked c asks = carrying.asked (caller c) (site c) asks

abbrev pub asked : Carrier → Branch → List Local → Count → Result Test Fault
asked c b = (branch c b).asks

abbrev pub arm : Carrier → Stmt → Option (Value × ℕ) → Acts
arm c s = carrying.branch_arm (stmt c s)

abbrev pub branch_arm : Carrier → Branch → Option (Value × ℕ) → Acts
branch_arm c b = carrying.branch_arm (branch c b).arm

abbrev pub last_branch : Carrier → Work → List Pending → Branch → Option (Value × ℕ) → List Local → Count → Result (List Local × Work) Fault
last_branch c w ps b bound = carrying.last_arm w ps (branch_arm c b bound)

abbrev pub kept : Carrier → List Pending → Count → Test → Branch → List Local → Result (List Pending × Count) Fault
kept c ps before test b = carrying.kept ps before test (branch c b).arm

abbrev pub chain : Carrier → List Branch → Option Stmt → Acts
chain c bs o = carrying.chain (branches c bs) (last_of c o)

-- ---- loops

abbrev pub goes_on : Carrier → Expr → List Local → Count → Result (Bool × Count) Fault
goes_on c test = carrying.goes_on (caller c) (site c) (expr c test)

abbrev pub turn : Carrier → Head → Stmt → Acts
turn c h s = carrying.turn (expr c h.step) (place_in_body (site c) h.stepped) (stmt c s)

abbrev pub turns : Carrier → ℕ → Head → Stmt → Acts
turns c n h s = carrying.turns (caller c) (site c) n (expr c h.condition) (expr c h.step) (place_in_body (site c) h.stepped) (stmt c s)

abbrev pub turns_of : Carrier → Head → Stmt → Acts
turns_of c h s = carrying.turns_of (caller c) (site c) h (stmt c s)

abbrev pub loop_of : Carrier → Head → Stmt → Acts
loop_of c h s = carrying.loop_of (caller c) (site c) h (stmt c s)

-- ---- `case`

abbrev pub case_arm : Carrier → CaseArm → Labelled
case_arm c a = carrying.case_arm (caller c) (site c) a

abbrev pub case_arms : Carrier → List CaseArm → List Labelled
case_arms c arms = map (carrying.case_arm (caller c) (site c)) arms

abbrev pub label : Carrier → Value → Option Value → Expr → Carry
label c x found e = carrying.label (caller c) (site c) x found (expr c e)

abbrev pub labels : Carrier → Value → List Expr → List Local → Count → Valued
labels c x es = carrying.labels (caller c) (site c) x (exprs c es)

abbrev pub labels_from : Carrier → Value → Option Value → List Expr → Carry
labels_from c x found es = carrying.labels_from (caller c) (site c) x found (exprs c es)

abbrev pub static_arm : Carrier → Value → Bool → CaseArm → List Local → Work → Result (Bool × List Local × Work) Fault
static_arm c x taken a = carrying.static_arm (caller c) (site c) x taken (case_arm c a)

abbrev pub static_case_from : Carrier → Value → Bool → List CaseArm → Option Stmt → Acts
static_case_from c x taken arms o = carrying.static_case (caller c) (site c) x taken (case_arms c arms) (last_of c o)

abbrev pub static_case : Carrier → Value → List CaseArm → Option Stmt → Acts
static_case c x arms o = static_case_from c x false arms o

abbrev pub open_arm : Carrier → Value → List Pending → CaseArm → List Local → Count → Result (List Pending × Count) Fault
open_arm c x ps a = carrying.open_arm (caller c) (site c) x ps (case_arm c a)

abbrev pub open_case_from : Carrier → Value → Work → List Pending → List CaseArm → Option Stmt → List Local → Count → Result (List Local × Work) Fault
open_case_from c x w ps arms o = carrying.open_case (caller c) (site c) x w ps (case_arms c arms) (last_of c o)

abbrev pub open_case : Carrier → Value → List CaseArm → Option Stmt → Acts
open_case c x arms o vs w = open_case_from c x w [] arms o vs w.count

abbrev pub cases : Carrier → Expr → List CaseArm → Option Stmt → Acts
cases c e arms o = carrying.cases (caller c) (site c) (expr c e) (case_arms c arms) (last_of c o)

-- ---- elements

abbrev pub rule : Carrier → Option Expr → List Stmt → Work → Result Work Fault
rule c o ss w = asking c None o w >>= λ w. run c ss (no_variables false) w >>= λ r. Ok r.1

abbrev pub top_method : Carrier → Method → List Value → Work → Valued
top_method c m xs w = asking c None m.condition w >>= λ w. giving c m.body false xs w
