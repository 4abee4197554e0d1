use Rattle.std.proofs.Common.{◌≡◌, length}
use Rattle.std.specs.List.{list_all}
use Rattle.bsv_net.specs.Nets.{is_site}
use Rattle.bsv_net.proofs.checks.sites_fit.Given as goal

abbrev pub decreases-loop-sites : goal.decreases-loop-sites
decreases-loop-sites l = length l.rest

abbrev pub invariant-loop-sites : goal.invariant-loop-sites
invariant-loop-sites l = list_all (list_all (is_site l.widths)) l.rest ≡ list_all (list_all (is_site l.widths)) l.elements
