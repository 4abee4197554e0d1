use Rattle.bsv_suite.proofs.Copied.{copied}
use Rattle.bsv_suite.proofs.sections.section_of.Goals as goal

pub report_of-requires : goal.report_of-requires
report_of-requires g c = copied c.args.design.now c.args.schedule.now c.in_ok-net.net c.args.net.now c.in_ok-net.ensures c.requires
