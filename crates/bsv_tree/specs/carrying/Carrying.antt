-- Carrying out: what is static is decided, loops are unrolled, and calls are in their place (Bluespec reference
-- guide, "Static elaboration"). What is left are steps.
use Rattle.std.specs.Prelude.{ℕ, zero, suc, ◌+◌, ◌-◌, nat_lt, Bool, true, false, not, ◌&&◌, pos, List, [], ◌∷◌, ◌++◌, map, take, length, slice_get, Option, Some, None, Result, Ok, Err, if◌then◌else◌}
use Rattle.bsv_fail.specs.Given.{◌>>=◌}
use Rattle.bsv_bits.specs.declared.operator.Operator.TheVariants as operator
use Rattle.bsv_types.specs.declared.operators.Op.{Op}
use Rattle.bsv_types.specs.declared.operators.Op.TheVariants as op
use Rattle.bsv_types.specs.declared.definitions.Body.{Body}
use Rattle.bsv_types.specs.declared.definitions.Body.TheVariants as body
use Rattle.bsv_types.specs.declared.expressions.Expr.{Expr, fold-Expr}
use Rattle.bsv_types.specs.declared.expressions.Expr.TheOpen.{Expr-F, Place-F}
use Rattle.bsv_types.specs.declared.expressions.Place.{Place, fold-Place}
use Rattle.bsv_types.specs.declared.statements.Branch.{Branch, fold-Branch}
use Rattle.bsv_types.specs.declared.statements.CaseArm.{CaseArm, fold-CaseArm}
use Rattle.bsv_types.specs.declared.statements.Condition.{Condition}
use Rattle.bsv_types.specs.declared.statements.Condition.TheVariants as condition
use Rattle.bsv_types.specs.declared.statements.Head.{Head}
use Rattle.bsv_types.specs.declared.statements.Stmt.{Stmt, fold-Stmt}
use Rattle.bsv_types.specs.declared.statements.Stmt.TheOpen.{Stmt-F, Branch-F, CaseArm-F}
use Rattle.bsv_types.specs.declared.modules.Method.{Method}
use Rattle.bsv_types.specs.declared.definitions.Field.{Field}
use Rattle.bsv_types.specs.declared.definitions.Param.{Param}
use Rattle.bsv_types.specs.Expressions.{carried_type, expr_type}
use Rattle.bsv_types.specs.Kinds.{Kind as Sort, integer, kind}
use Rattle.bsv_types.specs.Shapes.{Shapes, counted as bits_counted}
use Rattle.bsv_design.specs.declared.kind.Kind.{Kind}
use Rattle.bsv_types.specs.declared.types.PartTy.{PartTy}
use Rattle.bsv_tree.specs.declared.steps.Arm.{Arm, roll-Arm}
use Rattle.bsv_tree.specs.declared.steps.Atom.{Atom}
use Rattle.bsv_tree.specs.declared.steps.Atom.TheVariants as atom
use Rattle.bsv_tree.specs.declared.steps.MethodPlace.{MethodPlace}
use Rattle.bsv_tree.specs.declared.steps.Step.TheVariants as step
use Rattle.bsv_tree.specs.declared.tree.Built.{Built}
use Rattle.bsv_tree.specs.declared.tree.Made.{Made}
use Rattle.bsv_tree.specs.declared.tree.Made.TheVariants as made
use Rattle.bsv_tree.specs.declared.values.Constant.TheVariants as constant
use Rattle.bsv_tree.specs.declared.values.Count.{Count}
use Rattle.bsv_tree.specs.declared.values.Fault.{Fault}
use Rattle.bsv_tree.specs.declared.values.Fault.TheVariants as fault
use Rattle.bsv_tree.specs.declared.values.Local.{Local}
use Rattle.bsv_tree.specs.declared.values.Pending.{Pending}
use Rattle.bsv_tree.specs.declared.values.Value.{Value}
use Rattle.bsv_tree.specs.declared.values.Value.TheVariants as value
use Rattle.bsv_tree.specs.declared.values.Work.{Work}
use Rattle.bsv_tree.specs.carrying.Values.{atom_of, is_static, all_static, opened, truth, decided, is_true}
use Rattle.bsv_tree.specs.carrying.Working as work
use Rattle.bsv_tree.specs.carrying.Working.{Valued, tick, fresh, counted, no_steps, with_step, at_count, give}
use Rattle.bsv_tree.specs.carrying.Frames.{variable as local, no_variables, assign, untouched}
use Rattle.bsv_tree.specs.carrying.Arms.{choice_of, close}
use Rattle.bsv_tree.specs.tree.Widths.{width}
use Rattle.bsv_tree.specs.carrying.Applied.{constant_of, two_operands, fields, number_below}
use Rattle.bsv_tree.specs.carrying.Operated.{BitRange, bits_at, field_part, applied, are_suffixes, from_left}
use Rattle.bsv_tree.specs.tree.Contexts.{Context, Callee, place_in_body, is_integer, made_of}
use Rattle.bsv_tree.specs.carrying.Calls.{Caller, static_fault, or_fault, variable, placed, placed_at, function_at, user_method}
use Rattle.bsv_tree.specs.tree.Methods.{part_method}

-- ---- expressions

-- from the variables of the body
abbrev pub Carry : Type 0
Carry = List Local → Work → Valued

-- an expression: its type, and what carrying it out gives
pub record Carried : Type 0 where
  pub sort : Sort
  pub carry : Carry

-- the instance that a place names
abbrev pub Placing : Type 0
Placing = List Local → Count → Result (ℕ × Count) Fault

unfoldable pub all_from : List Value → List Carried → List Local → Work → Result (List Value × Work) Fault
all_from xs [] vs w = Ok (xs, w)
all_from xs (c ∷ cs) vs w = c.carry vs w >>= λ r. all_from (xs ++ r.0 ∷ []) cs vs r.1

unfoldable pub all : List Carried → List Local → Work → Result (List Value × Work) Fault
all cs vs w = all_from [] cs vs w

-- an Integer that is written has at most 63 bits
unfoldable pub literal : Shapes → Fault → Sort → ℕ → Work → Valued
literal s f integer number w = if nat_lt number 9223372036854775808 then Ok (value.Static (constant.Number (pos number)), w) else Err f
literal s f k number w = Ok (constant_of (width s k) number, w)

-- the type of the first operand
abbrev pub first_type : Sort → List Carried → Sort
first_type t [] = t
first_type t (c ∷ cs) = c.sort

-- ---- operators and their operands

module _ (s : Shapes) (f : Fault) where
  -- operators of one level, from the left: each one is applied as soon as its right operand was carried out
  unfoldable pub chained : List Op → Sort → Value → List Carried → List Local → Work → Valued
  chained [] k x [] vs w = Ok (x, w)
  chained (o ∷ os) k x (c ∷ cs) vs w =
      c.carry vs w >>= λ y. two_operands s f o k x y.0 y.1 >>= λ r. chained os k r.0 cs vs r.1
  chained _ k x cs vs w = Err f

  -- what a suffix names of a value of so many bits with these fields. An index is carried out, and is one operand
  unfoldable pub part_of : ℕ → List Field → Op → List Carried → List Local → Work → Result (BitRange × List Carried × Work) Fault
  part_of bits fs op.Index (c ∷ cs) vs w =
      c.carry vs w >>= λ i. number_below s f bits i.0 >>= λ n. Ok (bits_at n n, cs, i.1)
  part_of bits fs (op.Slice high low) cs vs w = Ok (bits_at high low, cs, w)
  part_of bits fs (op.Field number) cs vs w = Ok (field_part s f fs number (slice_get fs number), cs, w)
  part_of bits fs _ cs vs w = Err f

  -- suffixes, from the left: each one is applied as soon as its index was carried out
  unfoldable pub suffixed : ℕ → List Field → List Op → Value → List Carried → List Local → Work → Valued
  suffixed bits fs [] x [] vs w = Ok (x, w)
  suffixed bits fs [] x (c ∷ cs) vs w = Err f
  suffixed bits fs (o ∷ os) x cs vs w =
      part_of bits fs o cs vs w >>= λ p. work.sliced p.2 x p.0.high p.0.low >>= λ r.
      suffixed (bits_counted (p.0.high - p.0.low + 1)) p.0.inner os r.0 p.1 vs r.1

  -- from the left, where the first operand has the type
  unfoldable pub in_turn : Sort → List Op → List Carried → Carry
  in_turn k os [] vs w = Err f
  in_turn k os (c ∷ cs) vs w =
      c.carry vs w >>= λ x. if are_suffixes os then suffixed (width s k) (fields s f k) os x.0 cs vs x.1
      else chained os k x.0 cs vs x.1

  -- the types of the result and of the first operand
  abbrev pub operated : Sort → Sort → List Op → List Carried → Carry
  operated t k os cs vs w = if from_left os then in_turn k os cs vs w else (all cs vs w >>= λ r. applied s f t k os r.0 r.1)

-- a call is static where its arguments are
abbrev pub loosened : List Value → Value → Value
loosened xs x = if all_static xs then x else opened x

-- after an arm, and after what is static and so decided, its values are gone, and its weight counts
abbrev pub after_arm : Count → Count → Count
after_arm asked arm = record { weight = arm.weight; slots = asked.slots }

-- ---- `a ? b : c ? d : e`

abbrev pub value_arm : Value × Work → Value × Work → Arm
value_arm test r = roll-Arm (record { condition = test.1.steps; test = atom_of test.0; body = r.1.steps; gives = atom_of r.0 ∷ [] })

abbrev pub value_choice : Work → List Arm → Value × Work → Valued
value_choice w arms r = give (at_count w (after_arm w.count r.1.count)) (choice_of true arms r.1.steps (atom_of r.0 ∷ []))

-- the last value, which is all there is where no arm is left
unfoldable pub last_value : Work → List Arm → Carried → List Local → Count → Valued
last_value w [] x vs c = x.carry vs (at_count w c)
last_value w (a ∷ arms) x vs c = x.carry vs (no_steps c) >>= λ r. value_choice w (a ∷ arms) r

unfoldable pub value_asked : Carried → List Local → Count → Valued
value_asked t vs c = tick c 1 >>= λ c. t.carry vs (no_steps c)

-- the arms after a condition that is not static and True: a static one leaves none
unfoldable pub value_kept : List Arm → Count → Value × Work → Carried → List Local → Result (List Arm × Count) Fault
value_kept arms c test x vs =
    if is_static test.0 then Ok (arms, after_arm c test.1.count)
    else (x.carry vs (no_steps test.1.count) >>= λ r. Ok (arms ++ value_arm test r ∷ [], after_arm test.1.count r.1.count))

unfoldable pub choice_from : Fault → Work → List Arm → List Carried → List Carried → List Local → Count → Valued
choice_from f w arms (t ∷ ts) (x ∷ xs) vs c =
    value_asked t vs c >>= λ test. if is_true test.0 then last_value w arms x vs (after_arm c test.1.count)
    else (value_kept arms c test x vs >>= λ r. choice_from f w r.0 ts xs vs r.1)
choice_from f w arms [] (x ∷ xs) vs c = last_value w arms x vs c
choice_from f w arms ts [] vs c = Err f

-- ---- statements

-- from the variables of the body to those after
abbrev pub Acts : Type 0
Acts = List Local → Work → Result (List Local × Work) Fault

unfoldable pub run : List Acts → Acts
run [] vs w = Ok (vs, w)
run (a ∷ arms) vs w = a vs w >>= λ r. run arms r.0 r.1

-- what it declares ends with it
unfoldable pub inside : Acts → Acts
inside a vs w = a vs w >>= λ r. Ok (take (length vs) r.0, r.1)

abbrev pub declared : Value → Bool → Acts
declared x is_number vs w = Ok (vs ++ local x is_number ∷ [], w)

-- ---- `if`

-- the value that a branch asks for, and the Maybe whose payload it binds, with the bits of that
abbrev pub Test : Type 0
Test = Value × Option (Value × ℕ) × Work

abbrev pub Asked : Type 0
Asked = List Local → Count → Result Test Fault

pub record Branched : Type 0 where
  pub asks : Asked
  pub arm : Acts

-- the arm of a branch, in which the payload has a name
unfoldable pub branch_arm : Acts → Option (Value × ℕ) → Acts
branch_arm a None vs w = inside a vs w
branch_arm a (Some m) vs w =
    work.sliced w m.0 (m.1 - 1) 0 >>= λ r. a (vs ++ local r.0 false ∷ []) r.1 >>= λ s. Ok (take (length vs) s.0, s.1)

abbrev pub or_nothing : Option Acts → Acts
or_nothing None vs w = Ok (vs, w)
or_nothing (Some a) vs w = inside a vs w

-- the last arm, which is all there is where no other is left
unfoldable pub last_arm : Work → List Pending → Acts → List Local → Count → Result (List Local × Work) Fault
last_arm w [] a vs c = a vs (at_count w c)
last_arm w (p ∷ ps) a vs c = a (untouched vs) (no_steps c) >>= λ r. close vs w (p ∷ ps) r.0 r.1

abbrev pub pending : Value → Work → List Local × Work → Pending
pending test asks r = record { condition = asks.steps; test = atom_of test; body = r.1.steps; locals = r.0 }

-- the arms after a condition that is not static and True: a static one leaves none
unfoldable pub kept : List Pending → Count → Test → Acts → List Local → Result (List Pending × Count) Fault
kept ps c t a vs =
    if is_static t.0 then Ok (ps, after_arm c t.2.count)
    else (branch_arm a t.1 (untouched vs) (no_steps t.2.count) >>= λ r. Ok (ps ++ pending t.0 t.2 r ∷ [], after_arm t.2.count r.1.count))

unfoldable pub chain_from : Work → List Pending → List Branched → Acts → List Local → Count → Result (List Local × Work) Fault
chain_from w ps [] last vs c = last_arm w ps last vs c
chain_from w ps (b ∷ bs) last vs c =
    b.asks vs c >>= λ t. if is_true t.0 then last_arm w ps (branch_arm b.arm t.1) vs (after_arm c t.2.count)
    else (kept ps c t b.arm vs >>= λ r. chain_from w r.0 bs last vs r.1)

unfoldable pub chain : List Branched → Acts → Acts
chain bs last vs w = chain_from w [] bs last vs w.count

-- ---- loops and `case`

-- one turn, and the step of the loop's head
unfoldable pub turn : Carry → ℕ → Acts → Acts
turn next at a vs w = inside a vs w >>= λ r. next r.0 r.1 >>= λ x. Ok (assign r.0 at x.0, x.1)

-- an arm of a `case`
pub record Labelled : Type 0 where
  pub labels : List Carry
  pub arm : Acts

abbrev pub either : Option Value → Value → Work → Valued
either None x w = Ok (x, w)
either (Some y) x w = work.between w operator.Or y x

abbrev pub or_false : Option Value → Value
or_false None = truth false
or_false (Some y) = y

-- ---- conditions and bodies

abbrev pub with_need : Option MethodPlace → Work → Value × Work → Work
with_need name w r = with_step w (step.Need name (atom_of r.0) r.1.steps) r.1.count

-- a condition has to hold; one that is static and True leaves no need
abbrev pub needed : Option MethodPlace → Work → Value × Work → Work
needed name w r = if is_true r.0 then at_count w (after_arm w.count r.1.count) else with_need name w r

abbrev pub argument : Value → Local
argument (value.Static (constant.Number n)) = local (value.Static (constant.Number n)) true
argument x = local x false

-- the variables of a body as it begins: what it returns, and the arguments
abbrev pub arguments : Bool → List Value → List Local
arguments is_number xs = no_variables is_number ++ map argument xs

module _ (call : Caller) (site : Context) where
  abbrev pub f : Fault
  f = static_fault site

  -- ---- calls of methods

  -- the method of a primitive that is called, its arguments, and the steps of these
  unfoldable pub primitive_call : ℕ → PartTy → Kind → ℕ → List Carried → List Local → Count → Result (MethodPlace × List Atom × Work) Fault
  primitive_call instance p k number cs vs c =
      all cs vs (no_steps c) >>= λ r. or_fault f (part_method p k number) >>= λ m.
      Ok (record { instance = instance; method = m }, map atom_of r.0, r.1)

  -- a call of a method of a module, whose value is not static
  unfoldable pub module_call : ℕ → Built → ℕ → List Carried → List Local → Work → Valued
  module_call instance b number cs vs w =
      all cs vs w >>= λ r. user_method call site instance b number r.0 r.1 >>= λ x. Ok (opened x.0, x.1)

  -- a call of a value method
  unfoldable pub value_of : ℕ → Option Made → ℕ → List Carried → List Local → Work → Valued
  value_of instance None number cs vs w = Err f
  value_of instance (Some (made.Primitive p k)) number cs vs w =
      primitive_call instance p k number cs vs w.count >>= λ r. give (at_count w r.2.count) (step.Read r.0 r.1 r.2.steps)
  value_of instance (Some (made.Module b)) number cs vs w = module_call instance b number cs vs w

  unfoldable pub method : Placing → ℕ → List Carried → Carry
  method place number cs vs w =
      counted w 1 >>= λ w. place vs w.count >>= λ p.
      value_of p.0 (made_of (slice_get site.instances p.0)) number cs vs (at_count w p.1)

  -- ---- expressions

  unfoldable pub apply : Sort → List Op → List Carried → Carry
  apply t os cs vs w =
      counted w (length os) >>= λ w. operated site.shapes f t (first_type t cs) os cs vs w

  unfoldable pub function : ℕ → List Carried → Carry
  function number cs vs w =
      counted w 1 >>= λ w. all cs vs w >>= λ r. function_at call site (slice_get site.functions number) r.0 r.1 >>= λ x. Ok (loosened r.0 x.0, x.1)

  unfoldable pub choice : List Carried → List Carried → Carry
  choice ts xs vs w = choice_from f w [] ts xs vs w.count

  abbrev pub expr_case : Expr-F Carried Placing → Carry
  expr_case (Expr-F.Literal t number) vs w = counted w 1 >>= λ w. literal site.shapes f (kind t) number w
  expr_case (Expr-F.Variable t level) vs w = counted w 1 >>= λ w. variable site level vs >>= λ x. Ok (x, w)
  expr_case (Expr-F.Apply t os cs) vs w = apply (kind t) os cs vs w
  expr_case (Expr-F.Call t number cs) vs w = function number cs vs w
  expr_case (Expr-F.Method t place number cs) vs w = method place number cs vs w
  expr_case (Expr-F.Choice t ts xs) vs w = choice ts xs vs w

  -- an Integer is static
  abbrev pub as_static : Sort → Value × Work → Valued
  as_static integer r = if is_static r.0 then Ok r else Err f
  as_static k r = Ok r

  abbrev pub expr_step : Expr-F Carried Placing → Carried
  expr_step x = record { sort = kind (carried_type x); carry = λ vs w. expr_case x vs w >>= as_static (kind (carried_type x)) }

  abbrev pub index_of : Value → Result ℕ Fault
  index_of (value.Static (constant.Number (pos n))) = Ok n
  index_of _ = Err f

  abbrev pub place_of : ℕ → Option Carried → Placing
  place_of level None vs c = placed f (slice_get site.bindings level) >>= λ n. Ok (n, c)
  place_of level (Some i) vs c =
      i.carry vs (no_steps c) >>= λ r. index_of r.0 >>= λ at. placed_at f (slice_get site.bindings level) at >>= λ n. Ok (n, after_arm c r.1.count)

  abbrev pub place_step : Place-F Carried Placing → Placing
  place_step p = place_of p.level p.index

  unfoldable pub expression : Expr → Carried
  expression = fold-Expr Carried Placing expr_step place_step

  unfoldable pub place : Place → Placing
  place = fold-Place Carried Placing expr_step place_step

  abbrev pub expr : Expr → Carry
  expr e = (expression e).carry

  -- ---- statements

  -- a call of an action method, and what it gives
  unfoldable pub act_of : ℕ → Option Made → ℕ → List Carried → List Local → Work → Valued
  act_of instance None number cs vs w = Err f
  act_of instance (Some (made.Primitive p k)) number cs vs w =
      primitive_call instance p k number cs vs w.count >>= λ r. Ok (truth false, with_step w (step.Act r.0 r.1 r.2.steps) r.2.count)
  act_of instance (Some (made.Module b)) number cs vs w = module_call instance b number cs vs w

  unfoldable pub act : Placing → ℕ → List Carried → Carry
  act p number cs vs w =
      counted w 1 >>= λ w. p vs w.count >>= λ r.
      act_of r.0 (made_of (slice_get site.instances r.0)) number cs vs (at_count w r.1)

  -- ---- `if`

  unfoldable pub asked : Condition → Asked
  asked (condition.Test e) vs c = expr e vs (no_steps c) >>= λ r. Ok (r.0, None, r.1)
  asked (condition.Matches e) vs c =
      let payload = width site.shapes (kind (expr_type e)) - 1 in
      expr e vs (no_steps c) >>= λ r. work.sliced r.1 r.0 payload payload >>= λ tag. Ok (tag.0, Some (r.0, payload), tag.1)

  -- ---- loops

  -- whether there is a next turn
  unfoldable pub goes_on : Carry → List Local → Count → Result (Bool × Count) Fault
  goes_on test vs c = test vs (no_steps c) >>= λ r. by (decided r.0) (after_arm c r.1.count) where
    by : Option Bool → Count → Result (Bool × Count) Fault
    by None c = Err f
    by (Some b) c = Ok (b, c)

  unfoldable pub turns : ℕ → Carry → Carry → ℕ → Acts → Acts
  turns zero test next at a vs w = goes_on test vs w.count >>= λ t. if t.0 then Err (fault.Loop site.within) else Ok (vs, at_count w t.1)
  turns (suc n) test next at a vs w =
      goes_on test vs w.count >>= λ t. if t.0 then (turn next at a vs (at_count w t.1) >>= λ r. turns n test next at a r.0 r.1) else Ok (vs, at_count w t.1)

  unfoldable pub most_turns : ℕ
  most_turns = 4096

  abbrev pub turns_of : Head → Acts → Acts
  turns_of h a = turns most_turns (expr h.condition) (expr h.step) (place_in_body site h.stepped) a

  unfoldable pub loop_of : Head → Acts → Acts
  loop_of h a vs w =
      expr h.first vs w >>= λ r. turns_of h a (vs ++ local r.0 true ∷ []) r.1 >>= λ s. Ok (take (length vs) s.0, s.1)

  -- ---- `case`

  abbrev pub same_as : Value → Value → Work → Valued
  same_as (value.Static (constant.Number m)) (value.Static (constant.Number n)) w = two_operands site.shapes f op.Same integer (value.Static (constant.Number m)) (value.Static (constant.Number n)) w
  same_as x y w = work.between w operator.Same x y

  -- whether the subject has the label, which is static, or one before
  unfoldable pub label : Value → Option Value → Carry → Carry
  label x found l vs w =
      l vs w >>= λ r. if is_static r.0 then (same_as x r.0 r.1 >>= λ same. either found same.0 same.1) else Err f

  unfoldable pub labels_from : Value → Option Value → List Carry → Carry
  labels_from x found [] vs w = Ok (or_false found, w)
  labels_from x found (l ∷ ls) vs w = label x found l vs w >>= λ any. labels_from x (Some any.0) ls vs any.1

  unfoldable pub labels : Value → List Carry → List Local → Count → Valued
  labels x ls vs c = labels_from x None ls vs (no_steps c)

  -- a static subject: all labels are carried out, and the arm of the first equal one
  unfoldable pub static_arm : Value → Bool → Labelled → List Local → Work → Result (Bool × List Local × Work) Fault
  static_arm x taken a vs w =
      labels x a.labels vs w.count >>= λ t. if not taken && is_true t.0
      then (inside a.arm vs (at_count w (after_arm w.count t.1.count)) >>= λ r. Ok (true, r.0, r.1))
      else Ok (taken, vs, at_count w (after_arm w.count t.1.count))

  unfoldable pub static_case : Value → Bool → List Labelled → Acts → Acts
  static_case x taken [] last vs w = if taken then Ok (vs, w) else last vs w
  static_case x taken (a ∷ arms) last vs w = static_arm x taken a vs w >>= λ r. static_case x r.0 arms last r.1 r.2

  unfoldable pub open_arm : Value → List Pending → Labelled → List Local → Count → Result (List Pending × Count) Fault
  open_arm x ps a vs c =
      labels x a.labels vs c >>= λ t. inside a.arm (untouched vs) (no_steps t.1.count) >>= λ r.
      Ok (ps ++ pending t.0 t.1 r ∷ [], after_arm t.1.count r.1.count)

  -- the arm after `default` is one of the choice, also where no other stands
  unfoldable pub open_case : Value → Work → List Pending → List Labelled → Acts → List Local → Count → Result (List Local × Work) Fault
  open_case x w ps [] last vs c = last (untouched vs) (no_steps c) >>= λ r. close vs w ps r.0 r.1
  open_case x w ps (a ∷ arms) last vs c = open_arm x ps a vs c >>= λ r. open_case x w r.0 arms last vs r.1

  unfoldable pub cases : Carry → List Labelled → Acts → Acts
  cases subject arms last vs w =
      subject vs w >>= λ r. if is_static r.0 then static_case r.0 false arms last vs r.1 else open_case r.0 r.1 [] arms last vs r.1.count

  -- ---- all statements

  abbrev pub stmt_case : Stmt-F Acts Branched Labelled → Acts
  stmt_case (Stmt-F.Declare t e) vs w = expr e vs w >>= λ r. declared r.0 (is_integer (kind t)) vs r.1
  stmt_case (Stmt-F.Assign level e) vs w = expr e vs w >>= λ r. Ok (assign vs (place_in_body site level) r.0, r.1)
  stmt_case (Stmt-F.Act p number xs) vs w = act (place p) number (map expression xs) vs w >>= λ r. Ok (vs, r.1)
  stmt_case (Stmt-F.Bind t p number xs) vs w = act (place p) number (map expression xs) vs w >>= λ r. declared r.0 false vs r.1
  stmt_case (Stmt-F.Return e) vs w = expr e vs w >>= λ r. Ok (assign vs 0 r.0, r.1)
  stmt_case Stmt-F.NoAction vs w = Ok (vs, w)
  stmt_case (Stmt-F.Block acts) vs w = inside (run acts) vs w
  stmt_case (Stmt-F.If bs last) vs w = chain bs (or_nothing last) vs w
  stmt_case (Stmt-F.For h a) vs w = loop_of h a vs w
  stmt_case (Stmt-F.Case e arms last) vs w = cases (expr e) arms (or_nothing last) vs w

  abbrev pub stmt_step : Stmt-F Acts Branched Labelled → Acts
  stmt_step x vs w = counted w 1 >>= λ w. stmt_case x vs w

  abbrev pub branch_step : Branch-F Acts Branched Labelled → Branched
  branch_step b = record { asks = asked b.condition; arm = b.arm }

  abbrev pub case_step : CaseArm-F Acts Branched Labelled → Labelled
  case_step a = record { labels = map expr a.labels; arm = a.arm }

  unfoldable pub stmt : Stmt → Acts
  stmt = fold-Stmt Acts Branched Labelled stmt_step branch_step case_step

  unfoldable pub branch : Branch → Branched
  branch = fold-Branch Acts Branched Labelled stmt_step branch_step case_step

  unfoldable pub case_arm : CaseArm → Labelled
  case_arm = fold-CaseArm Acts Branched Labelled stmt_step branch_step case_step

  -- ---- conditions and bodies

  unfoldable pub asking : Option MethodPlace → Option Expr → Work → Result Work Fault
  asking name None w = Ok w
  asking name (Some e) w = expr e (no_variables false) (no_steps w.count) >>= λ r. Ok (needed name w r)

  abbrev pub returned : Option Local → Work → Valued
  returned None w = Err f
  returned (Some v) w = if v.lost then Err f else Ok (v.value, w)

  unfoldable pub giving : Body → Bool → List Value → Work → Valued
  giving (body.Value e) is_number xs w = expr e (arguments is_number xs) w
  giving (body.Statements ss) is_number xs w = run (map stmt ss) (arguments is_number xs) w >>= λ r. returned (slice_get r.0 0) r.1

  unfoldable pub called : Callee → List Value → Work → Valued
  called c xs w = asking c.name c.condition w >>= λ w. giving c.body c.integer xs w

-- calls in calls, at most so many deep
unfoldable pub call_at : ℕ → Caller
call_at zero site c xs w = Err fault.Calls
call_at (suc d) site c xs w = called (call_at d) site c xs w

-- ---- elements

unfoldable pub most_calls : ℕ
most_calls = 64

-- in the body of a module nothing may be called: there is no instance for it
abbrev pub nothing_called : Context → Context
nothing_called site = record site { instances = [] }

-- an expression of a module's body
abbrev pub module_expr : Context → Expr → Carry
module_expr site e = expr (call_at most_calls) (nothing_called site) e

-- the instance that a place in it names
abbrev pub module_place : Context → Place → Placing
module_place site p = place (call_at most_calls) (nothing_called site) p

-- a rule
unfoldable pub rule : Context → Option Expr → List Stmt → Work → Result Work Fault
rule site c ss w =
    asking (call_at most_calls) site None c w >>= λ w. run (map (stmt (call_at most_calls) site) ss) (no_variables false) w >>= λ r. Ok r.1

-- the values of parameters, of which each is a value of its own
unfoldable pub parameters_from : List Value → List Param → Count → Result (List Value × Count) Fault
parameters_from xs [] c = Ok (xs, c)
parameters_from xs (p ∷ ps) c = fresh c 1 >>= λ next. parameters_from (xs ++ value.Open (atom.Slot c.slots) ∷ []) ps next

-- a method of the top, whose arguments are its first values, and what it gives
unfoldable pub top_method : Context → Method → ℕ → Valued
top_method site m weight =
    parameters_from [] m.params (record { weight = weight; slots = 0 }) >>= λ xs.
    asking (call_at most_calls) site None m.condition (no_steps xs.1) >>= λ w.
    giving (call_at most_calls) site m.body false xs.0 w
