-- The words of a form.
use Rattle.std.specs.Prelude.{ℕ, List}
use Rattle.bsv_top.specs.declared.form.Form.{Form}
use Rattle.bsv_top.specs.declared.form.Form.TheVariants as form
use Rattle.bsv_top.specs.declared.form.Planning.{Planning}
use Rattle.bsv_top.specs.Answers.{sim_words, suite_words}
use Rattle.bsv_top.specs.Made.{made_words}
use Rattle.bsv_top.specs.Products.{product_words}

abbrev pub planning_words : Planning → List (List ℕ)
planning_words p = product_words p.product p.file.now p.top.now

abbrev pub words_of : Form → List (List ℕ)
words_of (form.Plan p) = planning_words p
words_of (form.Sim s) = sim_words s.file.now s.top.now s.trace.now
words_of (form.Made size) = made_words size
words_of (form.Suite s) = suite_words s.file.now s.top.now s.list.now
