-- The module of a design and of its net: the nodes of the net as lines, and after them what the module tells.
use Rattle.std.specs.Prelude.{ℕ, ◌+◌, Bool, true, cond, not, ◌&&◌, ◌||◌, List, [], ◌∷◌, ◌++◌, map, slice_get, Option, Some, None}
use Rattle.bsv_bits.specs.Words.{bit}
use Rattle.bsv_prim.specs.declared.primitive.RegisterInfo.{RegisterInfo}
use Rattle.bsv_design.specs.declared.element.Element.{Element}
use Rattle.bsv_design.specs.declared.element.Port.{Port}
use Rattle.bsv_design.specs.declared.element.Role.{Role}
use Rattle.bsv_design.specs.declared.kind.Kind.{Kind}
use Rattle.bsv_design.specs.design.Designs.{DesignData}
use Rattle.bsv_design.specs.design.Roles.{is_value, gives_value}
use Rattle.bsv_design.specs.design.Widths.{has_width, widths_from}
use Rattle.bsv_design.specs.scheme.States.{methods_in}
use Rattle.bsv_net.specs.declared.net_data.NetData.{NetData}
use Rattle.bsv_vtext.specs.declared.tree.Assign.{Assign}
use Rattle.bsv_vtext.specs.declared.tree.Atom.{Atom}
use Rattle.bsv_vtext.specs.declared.tree.Atom.TheVariants as atom
use Rattle.bsv_vtext.specs.declared.tree.Side.TheVariants as side
use Rattle.bsv_vtext.specs.declared.tree.Target.{Target}
use Rattle.bsv_vtext.specs.declared.tree.Target.TheVariants as target
use Rattle.bsv_vtext.specs.declared.tree.VMethod.{VMethod}
use Rattle.bsv_vtext.specs.declared.tree.VRegister.{VRegister}
use Rattle.bsv_vtext.specs.Signals.{VModuleData}
use Rattle.bsv_vgen.specs.declared.known.Known.{Known}
use Rattle.bsv_vgen.specs.Names.{register_names, fire_wire}
use Rattle.bsv_vgen.specs.Interfaces.{argument_of}
use Rattle.bsv_vgen.specs.Lines.{Written, Nodes, nothing, known_at, nodes, with_wire}

-- ---- inputs

-- the arguments of a method from this one on
abbrev pub argument_inputs : ℕ → ℕ → List Port → List Known
argument_inputs m k [] = []
argument_inputs m k (p ∷ ps) = record { atom = atom.Argument m k; width = p.width } ∷ argument_inputs m (k + 1) ps

-- a method that gives a value alone has no enable, and counts as asked
abbrev pub asked_input : ℕ → Role → Known
asked_input m role = record { atom = cond (is_value role) (atom.Constant (bit true)) (atom.Enable m); width = 1 }

abbrev pub method_inputs : ℕ → Element → List Known
method_inputs m e = argument_inputs m 0 e.arguments ++ asked_input m e.role ∷ []

abbrev pub inputs_from : ℕ → List Element → List Known
inputs_from m [] = []
inputs_from m (e ∷ es) = method_inputs m e ++ inputs_from (m + 1) es

-- the inputs of a net
unfoldable pub inputs : DesignData → List Known
inputs b = inputs_from 0 (methods_in b.elements)

-- ---- what is told

-- what is known of the node that an entry names
abbrev pub known_of : List Known → Option ℕ → Known
known_of ks None = nothing
known_of ks (Some n) = known_at ks n

abbrev pub told_at : List Known → List ℕ → ℕ → Known
told_at ks ns n = known_of ks (slice_get ns n)

-- the wire that tells that an element fires, which has this word
abbrev pub with_fire : Element → Atom → Written → Written
with_fire e a w = cond (is_value e.role) w (with_wire w (fire_wire e.name) (side.Is a))

-- those of the elements from this position on
unfoldable pub with_fires : List Known → List ℕ → ℕ → List Element → Written → Written
with_fires ks fires n [] w = w
with_fires ks fires n (e ∷ es) w = with_fires ks fires (n + 1) es (with_fire e (told_at ks fires n).atom w)

abbrev pub assign : Target → Known → Assign
assign t k = record { target = t; side = side.Is k.atom }

-- what a method gives
abbrev pub result_of : List Known → NetData → ℕ → Known
result_of ks c n = told_at ks c.results n

abbrev pub result_assign : List Known → NetData → ℕ → Element → List Assign
result_assign ks c n e = cond (gives_value e.role) (assign (target.Result n) (result_of ks c n) ∷ []) []

-- whether a method is ready, and what it gives
abbrev pub method_assigns : List Known → NetData → ℕ → Element → List Assign
method_assigns ks c n e = assign (target.Ready n) (told_at ks c.readies n) ∷ result_assign ks c n e

abbrev pub outputs_from : List Known → NetData → ℕ → List Element → List Assign
outputs_from ks c n [] = []
outputs_from ks c n (e ∷ es) = method_assigns ks c n e ++ outputs_from ks c (n + 1) es

-- ---- ports and registers

abbrev pub result_width : List Known → NetData → ℕ → Element → Option ℕ
result_width ks c n e = cond (gives_value e.role) (Some (result_of ks c n).width) None

abbrev pub method_of : List Known → NetData → ℕ → Element → VMethod
method_of ks c n e = record {
  name = e.name;
  args = map argument_of e.arguments;
  action = not (is_value e.role);
  result = result_width ks c n e;
}

abbrev pub methods_from : List Known → NetData → ℕ → List Element → List VMethod
methods_from ks c n [] = []
methods_from ks c n (e ∷ es) = method_of ks c n e ∷ methods_from ks c (n + 1) es

-- the width of what an element gives, in its flat body
abbrev pub width_in : Option (List ℕ) → Option ℕ → Option ℕ
width_in (Some us) (Some k) = slice_get us k
width_in _ _ = None

abbrev pub own_width : List Kind → Element → Option ℕ
own_width ks e = width_in (widths_from e.arguments ks e.calls [] e.nodes) e.result

-- a method that gives a value gives it in this width
abbrev pub result_fits : List Known → NetData → List Kind → ℕ → Element → Bool
result_fits known c ks n e = not (gives_value e.role) || has_width (own_width ks e) (result_of known c n).width

unfoldable pub results_fit : List Known → NetData → List Kind → ℕ → List Element → Bool
results_fit known c ks n [] = true
results_fit known c ks n (e ∷ es) = result_fits known c ks n e && results_fit known c ks (n + 1) es

abbrev pub register_of : List ℕ → RegisterInfo → VRegister
register_of name r = record { name = name; start = r.start; resets = r.resets }

abbrev pub registers_of : List (List ℕ) → List RegisterInfo → List VRegister
registers_of (n ∷ ns) (r ∷ rs) = register_of n r ∷ registers_of ns rs
registers_of _ _ = []

-- ---- the whole

abbrev pub nothing_written : Written
nothing_written = record { wires = []; assigns = [] }

-- the nodes of the net
unfoldable pub lines : DesignData → NetData → Nodes
lines b c = nodes (inputs b) c.registers [] nothing_written c.nodes

module _ (b : DesignData) (c : NetData) where
  -- the module of a design and of its net, whose nodes are written so
  abbrev pub module_with : Nodes → VModuleData
  module_with n = of (with_fires n.known c.fires 0 b.elements n.written) where
    of : Written → VModuleData
    of w = record {
      name = b.name;
      methods = methods_from n.known c 0 (methods_in b.elements);
      registers = registers_of (register_names b.parts) c.registers;
      wires = w.wires;
      assigns = w.assigns ++ outputs_from n.known c 0 (methods_in b.elements);
      nexts = map (λ k. (known_at n.known k).atom) c.nexts;
    }

  unfoldable pub module_of : VModuleData
  module_of = module_with (lines b c)
