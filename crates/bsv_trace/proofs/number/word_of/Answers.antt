use Rattle.bsv_trace.proofs.Fitting.{no_word}
use Rattle.bsv_trace.proofs.number.word_of.Goals as goal

pub returns-in-None : goal.returns-in-None
returns-in-None c = no_word c.args.base c.args.width c.radix.result c.args.digits.now c.value_of.result c.in-len1-up.len_at_least c.radix.ensures.value c.value_of.ensures c.in-None.is
