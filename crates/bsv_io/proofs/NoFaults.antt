-- Where no fault came, no call has failed.
use Rattle.std.proofs.Common.{ℕ, ⊎_elim, arith, refl}
use Rattle.bsv_io.specs.Faults.{MayFault}
use Rattle.bsv_io.specs.InMemory.{SureSource, sure_reading, sure_writing}
use Rattle.bsv_io.specs.Sure.{NoFault}

-- a call that may have failed is ruled out
pub NoFault-MayFault : (old new : ℕ) → NoFault old new → MayFault old new → ⊥
NoFault-MayFault old new none may = ⊎_elim (λ rose. omega arith) (λ last. none.not_last last) may

-- over a source that never fails no count rises, whatever was called between two moments
pub NoFault-sure_reading : (earlier later : SureSource) → NoFault (sure_reading earlier).faults (sure_reading later).faults
NoFault-sure_reading earlier later = record { same = refl; not_last = λ at_last. cc }

-- and neither over a sink that never fails
pub NoFault-sure_writing : (earlier later : ℕ) → NoFault (sure_writing earlier).faults (sure_writing later).faults
NoFault-sure_writing earlier later = record { same = refl; not_last = λ at_last. cc }
