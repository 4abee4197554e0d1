use Rattle.bsv_trace.proofs.Asked.{one_asking, asking_decided}
use Rattle.bsv_trace.proofs.Readable.{design_methods}
use Rattle.bsv_trace.proofs.law.one_request.Goals as goal

pub returns : goal.returns
returns c = record { only = one_asking; decided = asking_decided; design = design_methods }
