-- What it is to add a text after what waits to be put.
use Rattle.std.specs.Prelude.{◌≡◌, ◌≤◌, ℕ, List, ◌++◌, Result, OnOk, OnErr}
use Rattle.bsv_io.specs.Faults.{MayFault}
use Rattle.bsv_io.specs.Writing.{Writing, appended, AppendsPrefix}

-- the text is added to what waited, and what waits now is still to be put; a call that fails put a prefix of both
pub record Adds {A E : Type 0} (text : List ℕ) (result : Result A E) (waited waits : List ℕ) (old new : Writing) : Type 0 where
  pub ok : OnOk result (appended waits new ≡ appended (waited ++ text) old)
  pub prefix : AppendsPrefix (waited ++ text) old new
  pub count : old.faults ≤ new.faults
  pub counted : OnErr result (MayFault old.faults new.faults)
