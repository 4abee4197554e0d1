use Rattle.std.proofs.Common.{◌≡◌, length}
use Rattle.std.specs.List.{list_all}
use Rattle.bsv_net.specs.Nets.{is_site}
use Rattle.bsv_net.proofs.checks.are_sites.Given as goal

abbrev pub decreases-loop-site : goal.decreases-loop-site
decreases-loop-site l = length l.rest

abbrev pub invariant-loop-site : goal.invariant-loop-site
invariant-loop-site l = list_all (is_site l.widths) l.rest ≡ list_all (is_site l.widths) l.sites
