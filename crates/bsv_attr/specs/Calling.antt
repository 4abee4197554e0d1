-- What the code needs of the elements of a design: their calls name methods, and a number of 32 bits names each condition
-- and each call.
use Rattle.std.specs.Prelude.{◌+◌, ◌^◌, nat_lt, Bool, List, ◌++◌, length, map, slice_get, is_some}
use Rattle.bsv_design.specs.declared.design.NamedPart.{NamedPart}
use Rattle.bsv_design.specs.declared.element.Call.{Call}
use Rattle.bsv_design.specs.declared.element.Condition.{Condition}
use Rattle.bsv_design.specs.declared.element.Element.{Element}
use Rattle.bsv_design.specs.design.Guards.{is_guarded}
use Rattle.bsv_design.specs.design.Widths.{call_named}

-- conditions and calls together are fewer than 2 ^ 32
abbrev pub is_countable : Element → Bool
is_countable e = nat_lt (length e.conditions + length e.calls) (2 ^ 32)

-- the call names a method of a part
abbrev pub names_method : List NamedPart → Call → Bool
names_method ps = call_named (map (λ p. p.kind) ps)

abbrev pub condition_named : Condition → Bool
condition_named c = is_some c.implicit

abbrev pub call_guarded : List NamedPart → Call → Bool
call_guarded ps c = is_guarded (slice_get (map (λ p. p.kind) ps) c.part) c.method

-- of each condition and then of each call, whether it is implicit
abbrev pub implicit_places : List NamedPart → Element → List Bool
implicit_places ps e = map condition_named e.conditions ++ map (call_guarded ps) e.calls
