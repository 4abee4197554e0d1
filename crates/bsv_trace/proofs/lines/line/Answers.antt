use Rattle.std.proofs.Common.{◌∙◌, ap}
use Rattle.bsv_design.specs.scheme.Seen.{asking}
use Rattle.bsv_design.specs.scheme.States.{methods_in}
use Rattle.bsv_trace.proofs.Asked.{methods_right, cleared_places, asks, only, bad, nothing, fits, cleared_fit}
use Rattle.bsv_trace.proofs.lines.line.Goals as goal

pub clear-requires-clause-fit : goal.clear-requires-clause-fit
clear-requires-clause-fit c =
    methods_right c.args.design.now c.methods_of-methods.result.now (c.methods_of-methods.ensures.methods ∙ ap methods_in c.as_slice.ensures)

pub clear-requires-2-clause-fit : goal.clear-requires-2-clause-fit
clear-requires-2-clause-fit c =
    methods_right c.args.design.now c.methods_of-methods.result.now (c.methods_of-methods.ensures.methods ∙ ap methods_in c.as_slice.ensures)

pub read-requires : goal.read-requires
read-requires c =
    cleared_places c.args.design.now c.args.bytes.now c.methods_of-methods.result.now (c.methods_of-methods.ensures.methods ∙ ap methods_in c.as_slice.ensures) (asking c.clear.new.requests) c.clear.ensures

pub returns-then-read-clause-asks : goal.returns-then-read-clause-asks
returns-then-read-clause-asks c =
    asks c.args.design.now c.args.bytes.now c.methods_of-methods.result.now (c.methods_of-methods.ensures.methods ∙ ap methods_in c.as_slice.ensures) (asking c.clear.new.requests) c.clear.ensures
    (asking c.read.new.requests) c.if-read.ensures.read

pub returns-then-read-clause-only : goal.returns-then-read-clause-only
returns-then-read-clause-only c other =
    only c.args.design.now c.args.bytes.now c.methods_of-methods.result.now (c.methods_of-methods.ensures.methods ∙ ap methods_in c.as_slice.ensures) (asking c.clear.new.requests) c.clear.ensures
    (asking c.read.new.requests) other c.if-read.ensures.read

pub returns-then-read-clause-fits : goal.returns-then-read-clause-fits
returns-then-read-clause-fits c =
    fits c.args.design.now c.args.bytes.now c.methods_of-methods.result.now (c.methods_of-methods.ensures.methods ∙ ap methods_in c.as_slice.ensures) (asking c.clear.new.requests) c.clear.ensures
    (asking c.read.new.requests) c.if-read.ensures.read

pub returns-clause-bad : goal.returns-clause-bad
returns-clause-bad c other =
    bad c.args.design.now c.args.bytes.now c.methods_of-methods.result.now (c.methods_of-methods.ensures.methods ∙ ap methods_in c.as_slice.ensures) (asking c.clear.new.requests) c.clear.ensures
    other c.if-read.ensures.read

pub returns-clause-nothing : goal.returns-clause-nothing
returns-clause-nothing c =
    nothing c.args.design.now c.args.bytes.now c.methods_of-methods.result.now (c.methods_of-methods.ensures.methods ∙ ap methods_in c.as_slice.ensures) (asking c.clear-2.new.requests) c.clear-2.ensures

pub returns-clause-fits : goal.returns-clause-fits
returns-clause-fits c =
    cleared_fit c.args.design.now c.args.bytes.now c.methods_of-methods.result.now (c.methods_of-methods.ensures.methods ∙ ap methods_in c.as_slice.ensures) (asking c.clear-2.new.requests) c.clear-2.ensures
