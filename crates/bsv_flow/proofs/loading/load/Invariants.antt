use Rattle.std.proofs.Common.{◌≡◌, ◌<◌, ◌≤◌, ℕ, List, length, map, take, Some}
use Rattle.bsv_io.specs.Reading.{bytes_given}
use Rattle.bsv_flow.specs.Loads.{Loads, most_packages}
use Rattle.bsv_flow.specs.Sources.{read_limit}
use Rattle.bsv_flow.proofs.loading.load.Given as goal

-- so many files were read, and each is the package that it yields
abbrev pub invariant-loop-turn : goal.invariant-loop-turn
invariant-loop-turn g l =
    let reading = g.F.Files.reading in
    record {
      loads : (contents : List ℕ → List ℕ) → (reading l.fn.files).contents ≡ Some contents → Loads l.first contents l.queue l.packages;
      sources : (contents : List ℕ → List ℕ) → (reading l.fn.files).contents ≡ Some contents → l.sources ≡ map contents (take l.turn l.queue);
      count : length l.packages ≡ l.turn;
      within : l.turn ≤ length l.queue;
      few : length l.queue ≤ most_packages;
      contents : (reading l.files).contents ≡ (reading l.fn.files).contents;
      faults : (reading l.files).faults ≡ (reading l.fn.files).faults;
      read : read_limit < bytes_given (reading l.files) → (reading l.files).current ≡ (reading l.fn.files).current;
    }
