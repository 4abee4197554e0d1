use Rattle.std.proofs.Common.{refl}
use Rattle.bsv_engine.specs.Engines.{words_of}
use Rattle.bsv_engine.proofs.engine.Engine.cells.Goals as goal

pub returns-clause-words : goal.returns-clause-words
unfolding words_of
returns-clause-words c = rw (c.as_slice.ensures, c.as_slice-2.ensures.value, c.as_slice-3.ensures.value) refl
