use Rattle.std.proofs.Common.{refl}
use Rattle.bsv_top.specs.Answers as a
use Rattle.bsv_top.specs.Answers.{sim_words, suite_words}
use Rattle.bsv_top.proofs.AllAnswers as all
use Rattle.bsv_top.proofs.Answering.{clean_answer}
use Rattle.bsv_top.proofs.Headlined.{headline}
use Rattle.bsv_top.proofs.MadeRun.{made_answer}
use Rattle.bsv_top.proofs.OneAnswer as one
use Rattle.bsv_top.proofs.SuiteAnswers.{told_answer}
use Rattle.bsv_top.proofs.program.one_answer.Goals as goal

pub returns : goal.returns
returns c = record {
  some = all.some;
  one_status = λ words contents s other output text more said h k. (one.one_answer words contents s other output more text said h k).status_is;
  one_output = λ words contents s other output text more said none h k. (one.one_answer words contents s other output more text said h k).output_is none;
  one_text = λ words contents s other output text more said h k. (one.one_answer words contents s other output more text said h k).text_is;
  planned = λ contents file top tree made p. a.Answer.scheduled tree made refl p;
  verilog = λ contents file top tree made v p has. a.Answer.written tree made v refl p has;
  simulated = λ contents file top trace tree made qs p laid clean. clean_answer (sim_words file top trace) contents file top trace refl tree made p laid qs clean;
  told = λ contents file top list tree made names tolds p laid named told none. told_answer (suite_words file top list) contents file top list refl tree made p laid names tolds named told none;
  made = λ contents n tree made is p laid. let all = made_answer n tree made p laid in (all.0, a.Answer.made is all.1);
  headline = headline;
}
