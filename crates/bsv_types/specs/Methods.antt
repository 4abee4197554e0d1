-- The methods of interfaces, and what makers take and make. An interface that the language gives has its
-- methods in this order.
use Rattle.std.specs.Prelude.{ℕ, Bool, true, false, List, [], ◌∷◌, map, slice_get, Option, Some, None, codes}
use Rattle.bsv_types.specs.declared.types.PartTy.{PartTy}
use Rattle.bsv_types.specs.declared.types.PartTy.TheVariants as part_type
use Rattle.bsv_types.specs.declared.definitions.MethodHeader.{MethodHeader}
use Rattle.bsv_types.specs.declared.definitions.Param.{Param}
use Rattle.bsv_types.specs.declared.definitions.MethodResult.{MethodResult}
use Rattle.bsv_types.specs.declared.definitions.MethodResult.TheVariants as result
use Rattle.bsv_types.specs.declared.definitions.Interface.{Interface}
use Rattle.bsv_types.specs.declared.makers.GivenMaker.{GivenMaker}
use Rattle.bsv_types.specs.declared.makers.GivenMaker.TheVariants as maker
use Rattle.bsv_types.specs.Kinds.{Kind, bool, maybe, integer, interface, part, bare, kind, same_kind}
use Rattle.bsv_types.specs.Shapes.{Shapes}

-- what a method does and gives
pub data Effect : Type 0 where
  value : Kind → Effect
  action : Effect
  action_value : Kind → Effect

abbrev pub effect : MethodResult → Effect
effect (result.Value t) = value (kind t)
effect result.Action = action
effect (result.ActionValue t) = action_value (kind t)

abbrev pub same_effect : Effect → Effect → Bool
same_effect (value j) (value k) = same_kind j k
same_effect action action = true
same_effect (action_value j) (action_value k) = same_kind j k
same_effect _ _ = false

pub record Signature : Type 0 where
  pub name : List ℕ
  pub params : List Kind
  pub effect : Effect

abbrev pub param_kinds : List Param → List Kind
param_kinds ps = map (λ p. kind p.ty) ps

abbrev pub header_signature : MethodHeader → Signature
header_signature h = record { name = h.name; params = param_kinds h.params; effect = effect h.result }

abbrev pub method : List ℕ → List Kind → Effect → Signature
method name params effect = record { name = name; params = params; effect = effect }

abbrev pub part_methods : PartTy → Kind → List Signature
part_methods part_type.Reg t = method (codes "_read") [] (value t) ∷ method (codes "_write") (t ∷ []) action ∷ []
part_methods part_type.Wire t = method (codes "_write") (t ∷ []) action ∷ method (codes "_read") [] (value t) ∷ []
part_methods part_type.RWire t = method (codes "wset") (t ∷ []) action ∷ method (codes "wget") [] (value (maybe t)) ∷ []
part_methods part_type.PulseWire t = []
part_methods part_type.Fifo t =
    method (codes "enq") (t ∷ []) action ∷ method (codes "deq") [] action ∷ method (codes "first") [] (value t) ∷
    method (codes "clear") [] action ∷ []
part_methods part_type.Fifof t =
    method (codes "enq") (t ∷ []) action ∷ method (codes "deq") [] action ∷ method (codes "first") [] (value t) ∷
    method (codes "notFull") [] (value bool) ∷ method (codes "notEmpty") [] (value bool) ∷
    method (codes "clear") [] action ∷ []

abbrev pub bare_methods : PartTy → List Signature
bare_methods part_type.PulseWire = method (codes "send") [] action ∷ method (codes "_read") [] (value bool) ∷ []
bare_methods _ = []

abbrev pub methods_of : Option Interface → List Signature
methods_of None = []
methods_of (Some i) = map header_signature i.methods

-- the methods of an interface
abbrev pub methods : Shapes → Kind → List Signature
methods s (interface k) = methods_of (slice_get s.interfaces k)
methods s (part p t) = part_methods p t
methods s (bare p) = bare_methods p
methods s _ = []

-- the interface of what a given maker makes
abbrev pub made_part : GivenMaker → PartTy
made_part maker.Reg = part_type.Reg
made_part maker.RegU = part_type.Reg
made_part maker.Wire = part_type.Wire
made_part maker.DWire = part_type.Wire
made_part maker.RWire = part_type.RWire
made_part maker.PulseWire = part_type.PulseWire
made_part maker.Fifo = part_type.Fifo
made_part maker.Fifo1 = part_type.Fifo
made_part maker.SizedFifo = part_type.Fifo
made_part maker.LFifo = part_type.Fifo
made_part maker.PipelineFifo = part_type.Fifo
made_part maker.BypassFifo = part_type.Fifo
made_part maker.Fifof = part_type.Fifof
made_part maker.Fifof1 = part_type.Fifof
made_part maker.SizedFifof = part_type.Fifof
made_part maker.LFifof = part_type.Fifof
made_part maker.PipelineFifof = part_type.Fifof
made_part maker.BypassFifof = part_type.Fifof

-- what a given maker of an interface of `t` takes: a start value or a default, or a depth
abbrev pub maker_params : GivenMaker → Kind → List Kind
maker_params maker.Reg t = t ∷ []
maker_params maker.DWire t = t ∷ []
maker_params maker.SizedFifo t = integer ∷ []
maker_params maker.SizedFifof t = integer ∷ []
maker_params _ t = []
