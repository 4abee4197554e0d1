-- What sinks that only count their bytes tell of a run.
use Rattle.std.specs.Prelude.{◌≡◌, ℕ, List}
use Rattle.bsv_io.specs.Writing.{count_after}
use Rattle.bsv_top.specs.Answers.{Answer}
use Rattle.bsv_top.specs.declared.status.Status.{Status}

-- they took as many bytes as the whole output and the whole fault text of an answer have
pub record CountsAnswer (words : List (List ℕ)) (contents : List ℕ → List ℕ) (s : Status) (out out' err err' : ℕ) : Type 0 where
  pub output : List ℕ
  pub text : List ℕ
  pub answer : Answer words contents s output text
  pub put : out' ≡ count_after output out
  pub told : err' ≡ count_after text err
