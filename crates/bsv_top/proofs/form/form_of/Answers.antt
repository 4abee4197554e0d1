use Rattle.std.proofs.Common.{map, string_bytes}
use Rattle.bsv_top.proofs.Spelled.{no_form}
use Rattle.bsv_top.proofs.form.form_of.Goals as goal

pub returns-in-None-clause-none : goal.returns-in-None-clause-none
returns-in-None-clause-none c = no_form (map string_bytes c.args.words.now) c.in_default.ensures.none c.in_default-simulation_of.ensures.none c.in_default-suite_of.ensures.none (λ n h. c.in-None.ensures.none n h.least h.most h.words_are)
