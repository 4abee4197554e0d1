use Rattle.std.proofs.Common.{rules, IsTrue}
use Rattle.bsv_check.specs.Rightness.{is_counted}
use Rattle.bsv_check.specs.Seen.{made_by}
use Rattle.bsv_check.proofs.checking.check_all.Goals as goal

pub new-requires : goal.new-requires
new-requires c =
    let counted : IsTrue (is_counted (made_by c.in_ok-parts.parts)) = search rules in
    c.programs_are_right.ensures c.args.packages.now (made_by c.in_ok-parts.parts) c.in_ok-parts.ensures.strict counted
