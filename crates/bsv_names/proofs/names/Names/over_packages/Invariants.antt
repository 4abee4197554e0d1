use Rattle.std.proofs.Common.{◌≡◌, length}
use Rattle.std.specs.Option.{option_or}
use Rattle.bsv_names.specs.Faults.{first_place}
use Rattle.bsv_names.specs.Unknown.{after_packages}
use Rattle.bsv_names.specs.KnownSeen.{known}
use Rattle.bsv_names.proofs.names.Names.over_packages.Given as goal

abbrev pub decreases-loop-package : goal.decreases-loop-package
decreases-loop-package l = length l.rest

abbrev pub invariant-loop-package : goal.invariant-loop-package
invariant-loop-package l = record {
  fault : option_or l.first (first_place l.pass l.number (known l.self) l.rest) ≡ first_place l.pass 0 (known l.fn.self) l.packages;
  after : after_packages (known l.self) l.rest ≡ after_packages (known l.fn.self) l.packages;
}
