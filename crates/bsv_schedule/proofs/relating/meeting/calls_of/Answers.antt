use Rattle.std.proofs.Common.{◌∙◌, map, sym, ap, subst, IsTrue}
use Rattle.std.specs.List.{list_all}
use Rattle.bsv_design.specs.design.Bodies.{target}
use Rattle.bsv_design.specs.scheme.Schemes.{kinds_of}
use Rattle.bsv_design.specs.scheme.Seen.{design_data}
use Rattle.bsv_design.specs.design.Widths.{call_named}
use Rattle.bsv_design.proofs.Named.{calls_named}
use Rattle.bsv_schedule.proofs.DesignLemmas.{uses_some, uses_none}
use Rattle.bsv_schedule.proofs.relating.meeting.calls_of.Goals as goal

pub returns-in-Some-clause-calls : goal.returns-in-Some-clause-calls
returns-in-Some-clause-calls c =
    ap (map target) c.as_slice.ensures ∙ sym (uses_some c.args.design.now c.args.element c.in-Some.element.now (sym c.in-Some.ensures.value))

pub returns-in-Some-clause-named : goal.returns-in-Some-clause-named
returns-in-Some-clause-named c =
    subst (λ cs. IsTrue (list_all (call_named (kinds_of (design_data c.args.design.now))) cs)) (sym c.as_slice.ensures)
    (calls_named c.args.design.now c.args.element c.in-Some.element.now (sym c.in-Some.ensures.value))

pub returns-in-None-clause-calls : goal.returns-in-None-clause-calls
returns-in-None-clause-calls c = sym (uses_none c.args.design.now c.args.element (sym c.in-None.ensures.value))
