-- The widths of the nodes of a flat body, in bits. A node has one where its operands have the widths that its operator
-- needs (Bluespec reference guide, "Bit, UInt and Int").
use Rattle.std.specs.Prelude.{ℕ, ◌+◌, ◌-◌, ◌==◌, ◌^◌, nat_le, nat_lt, Bool, true, false, not, ◌&&◌, List, [], ◌∷◌, ◌++◌, length, slice_get, Option, Some, None, option_map, if◌then◌else◌}
use Rattle.bsv_bits.specs.Words.{Bits}
use Rattle.bsv_bits.specs.Operators.{is_shift}
use Rattle.bsv_bits.specs.declared.operator.Operator.{Operator}
use Rattle.bsv_bits.specs.declared.operator.Operator.TheVariants as operator
use Rattle.bsv_prim.specs.Table.{Table}
use Rattle.bsv_design.specs.declared.element.Call.{Call}
use Rattle.bsv_design.specs.declared.element.Condition.{Condition}
use Rattle.bsv_design.specs.declared.element.Port.{Port}
use Rattle.bsv_design.specs.declared.kind.Kind.{Kind}
use Rattle.bsv_design.specs.declared.node.Node.{Node}
use Rattle.bsv_design.specs.declared.node.Node.TheVariants as node
use Rattle.bsv_design.specs.parts.Kinds.{kind_table}

-- there is a node before, and it has this width
abbrev pub has_width : Option ℕ → ℕ → Bool
has_width None width = false
has_width (Some w) width = w == width

abbrev pub if_width : Bool → ℕ → Option ℕ
if_width true width = Some width
if_width false width = None

-- a word has 1 to 128 bits, and no value that they can't hold
abbrev pub word_width : Bits → Option ℕ
word_width w = if_width (nat_le 1 w.width && nat_le w.width 128 && nat_lt w.value (2 ^ w.width)) w.width

-- a comparison gives one bit
abbrev pub gives_bit : Operator → Bool
gives_bit operator.Same = true
gives_bit operator.Less = true
gives_bit operator.LessSigned = true
gives_bit _ = false

abbrev pub two_width : Operator → Option ℕ → Option ℕ → Option ℕ
two_width o (Some a) (Some b) = if is_shift o then Some a else if_width (a == b) (if gives_bit o then 1 else a)
two_width o _ _ = None

abbrev pub pick_width : Option ℕ → Option ℕ → Option ℕ → Option ℕ
pick_width (Some t) (Some a) (Some b) = if_width ((t == 1) && (a == b)) a
pick_width _ _ _ = None

abbrev pub slice_width : Option ℕ → ℕ → ℕ → Option ℕ
slice_width None high low = None
slice_width (Some a) high low = if_width (nat_le low high && nat_lt high a) (high - low + 1)

abbrev pub join_width : Option ℕ → Option ℕ → Option ℕ
join_width (Some a) (Some b) = if_width (nat_le (a + b) 128) (a + b)
join_width _ _ = None

abbrev pub extend_width : Option ℕ → ℕ → Option ℕ
extend_width None width = None
extend_width (Some a) width = if_width (nat_le a width && nat_le width 128) width

-- the nodes of a call's arguments from this one on have the widths of the method's
abbrev pub args_fit : Table → ℕ → List ℕ → ℕ → List ℕ → Bool
args_fit t m ws k [] = k == t.arity m
args_fit t m ws k (a ∷ args) = nat_lt k (t.arity m) && has_width (slice_get ws a) (t.argument_width m k) && args_fit t m ws (k + 1) args

-- a part of this kind has the method
abbrev pub has_method : Option Kind → ℕ → Bool
has_method None m = false
has_method (Some k) m = nat_lt m (kind_table k).methods

-- the call names a method of a part
abbrev pub call_named : List Kind → Call → Bool
call_named ks c = has_method (slice_get ks c.part) c.method

-- where nodes have these widths, the method is one of its part and has the arguments that it takes
abbrev pub method_fits : Option Kind → List ℕ → Call → Bool
method_fits None ws c = false
method_fits (Some k) ws c = nat_lt c.method (kind_table k).methods && args_fit (kind_table k) c.method ws 0 c.args

abbrev pub gives_word : Option Kind → List ℕ → Call → Option ℕ
gives_word None ws c = None
gives_word (Some k) ws c =
    if_width (method_fits (Some k) ws c && not ((kind_table k).is_action c.method)) ((kind_table k).result_width c.method)

abbrev pub result_width : List Kind → List ℕ → Option Call → Option ℕ
result_width ks ws None = None
result_width ks ws (Some c) = gives_word (slice_get ks c.part) ws c

abbrev pub if_some : Option ℕ → (ℕ → Option (List ℕ)) → Option (List ℕ)
if_some None f = None
if_some (Some w) f = f w

module _ (ports : List Port) (ks : List Kind) (cs : List Call) where
  -- the width of a node after nodes of these widths
  abbrev pub node_width : List ℕ → Node → Option ℕ
  node_width ws (node.Constant w) = word_width w
  node_width ws (node.Argument k) = option_map (λ p. p.width) (slice_get ports k)
  node_width ws (node.Result c) = result_width ks ws (slice_get cs c)
  node_width ws (node.Not a) = slice_get ws a
  node_width ws (node.Two o a b) = two_width o (slice_get ws a) (slice_get ws b)
  node_width ws (node.Pick t a b) = pick_width (slice_get ws t) (slice_get ws a) (slice_get ws b)
  node_width ws (node.Slice a high low) = slice_width (slice_get ws a) high low
  node_width ws (node.Join a b) = join_width (slice_get ws a) (slice_get ws b)
  node_width ws (node.Extend a width) = extend_width (slice_get ws a) width
  node_width ws (node.SignExtend a width) = extend_width (slice_get ws a) width

  -- the widths of all nodes, after nodes of these widths
  unfoldable pub widths_from : List ℕ → List Node → Option (List ℕ)
  widths_from ws [] = Some ws
  widths_from ws (x ∷ xs) = if_some (node_width ws x) (λ w. widths_from (ws ++ w ∷ []) xs)

-- ---- what is beside the nodes

abbrev pub call_fits : List Kind → List ℕ → Call → Bool
call_fits ks ws c = has_width (slice_get ws c.taken) 1 && method_fits (slice_get ks c.part) ws c

abbrev pub condition_fits : List ℕ → Condition → Bool
condition_fits ws c = has_width (slice_get ws c.truth) 1 && has_width (slice_get ws c.taken) 1

abbrev pub port_fits : Port → Bool
port_fits p = nat_le 1 p.width && nat_le p.width 128

abbrev pub result_fits : List ℕ → Bool → Option ℕ → Bool
result_fits ws true (Some k) = nat_lt k (length ws)
result_fits ws false None = true
result_fits ws _ _ = false

abbrev pub acts_not : List Kind → Call → Bool
acts_not ks c = of (slice_get ks c.part) where
  of : Option Kind → Bool
  of None = true
  of (Some k) = not ((kind_table k).is_action c.method)
