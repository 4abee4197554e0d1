use Rattle.std.proofs.Common.{◌≡◌, take}
use Rattle.bsv_net.proofs.net.copies_of.Given as goal

abbrev pub invariant-loop-calls : goal.invariant-loop-calls
invariant-loop-calls l = l.copies ≡ take l.calls-index l.sites
