use Rattle.std.proofs.Common.{◌≡◌, IfOk, subst}
use Rattle.bsv_names.specs.declared.names.Pass.TheVariants.{Unknown}
use Rattle.bsv_names.specs.Known.{Known}
use Rattle.bsv_names.specs.Faults.{first_place, first_unknown}
use Rattle.bsv_names.proofs.names.unknown.Goals as goal

pub returns : goal.returns
unfolding first_unknown
returns c =
    subst (λ (k : Known). IfOk c.over_packages.result (λ r. r ≡ first_place Unknown 0 k c.args.packages.now)) c.in_ok-names.ensures c.over_packages.ensures.fault
