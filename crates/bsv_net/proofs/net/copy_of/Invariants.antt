use Rattle.std.proofs.Common.{◌≡◌, take}
use Rattle.bsv_net.proofs.net.copy_of.Given as goal

abbrev pub invariant-loop-site : goal.invariant-loop-site
invariant-loop-site l = l.copy ≡ take l.site-index l.sites
