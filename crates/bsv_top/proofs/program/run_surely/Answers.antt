use Rattle.std.proofs.Common.{refl}
use Rattle.bsv_io.specs.InMemory.{contents_of}
use Rattle.bsv_io.proofs.Counted.{count_put}
use Rattle.bsv_top.specs.Answers.{no_memory_line}
use Rattle.bsv_top.proofs.program.run_surely.Goals as goal

pub returns-clause-answer : goal.returns-clause-answer
returns-clause-answer g c = λ is.
    let said = c.run.ensures.answer (contents_of c.args.files.now.files) refl is in
    record {
      output = said.output;
      text = said.text;
      answer = said.answer;
      put = count_put said.output c.args.out.now c.run.new.out said.put;
      told = count_put said.text c.args.err.now c.run.new.err said.told;
    }

pub returns-clause-no_memory : goal.returns-clause-no_memory
returns-clause-no_memory g c = λ e. count_put no_memory_line c.args.err.now c.run.new.err (c.run.ensures.no_memory e).0
