-- All words and contents have an answer, where what is accepted can be laid out and has a module.
use Rattle.std.proofs.Common.{◌≡◌, ℕ, List, []}
use Rattle.bsv_design.specs.declared.schedule.Schedule.{Schedule}
use Rattle.bsv_tree.specs.tree.Trees.{TreeData}
use Rattle.bsv_vtext.specs.VText.{vtext}
use Rattle.bsv_flow.specs.Compilings.{IsPlanned}
use Rattle.bsv_flow.specs.Refusals.{refusal_line}
use Rattle.bsv_top.specs.declared.form.Product.{Product}
use Rattle.bsv_top.specs.declared.form.Product.TheVariants as product
use Rattle.bsv_top.specs.declared.status.Status.TheVariants as status
use Rattle.bsv_top.specs.Answers as a
use Rattle.bsv_top.specs.Answers.{Asks, HasAnswer, sim_words, no_memory_line, printed, usage_line}
use Rattle.bsv_top.specs.Made.{IsMade, made_contents, made_file, made_top}
use Rattle.bsv_top.specs.OneAnswer.{HaveModules, LayOut}
use Rattle.bsv_top.specs.Products.{product_words}
use Rattle.bsv_top.proofs.Answering.{some_answer}
use Rattle.bsv_top.proofs.SuiteAnswers.{suite_answer}
use Rattle.bsv_top.proofs.Decides.{Decides, decide}
use Rattle.bsv_top.proofs.MadeRun.{made_answer}
use Rattle.bsv_top.proofs.Spelled.{Spells, asks, spells}

module _ (words : List (List ℕ)) (contents : List ℕ → List ℕ) (lays : LayOut words contents) (has : HaveModules words contents) where
  -- of what is accepted
  of_product : (p : Product) (file top : List ℕ) → words ≡ product_words p file top → (tree : TreeData) (made : Schedule) → IsPlanned file contents top tree made
      → HasAnswer words contents
  of_product product.Schedule file top is tree made p =
      record { decided = status.Done; output = printed tree made; text = []; answer = a.Answer.scheduled tree made is p }
  of_product product.Verilog file top is tree made p =
      let one = has file top tree made is p in
      record { decided = status.Done; output = vtext one.0; text = []; answer = a.Answer.written tree made one.0 is p one.1 }

  -- of words that ask for a file and a module, where what is accepted has an answer
  of_files : (file top : List ℕ) → Asks words file top → ((tree : TreeData) (made : Schedule) → IsPlanned file contents top tree made → HasAnswer words contents)
      → HasAnswer words contents
  of_files file top asked accepted = elim (decide file top contents) [
    | Decides.refused r h ↦ record { decided = status.Refused; output = []; text = refusal_line r; answer = a.Answer.refused r asked h }
    | Decides.no_program l built none ↦ record { decided = status.OutOfMemory; output = []; text = no_memory_line; answer = a.Answer.no_program l asked built none }
    | Decides.planned tree made p ↦ accepted tree made p
  ]

  -- of a made design
  of_made : (n : ℕ) → IsMade words n → HasAnswer words contents
  of_made n is = elim (decide made_file made_top (made_contents n)) [
    | Decides.refused r h ↦ record { decided = status.Refused; output = []; text = refusal_line r; answer = a.Answer.made is (a.MadeAnswer.refused r h) }
    | Decides.no_program l built none ↦ record { decided = status.OutOfMemory; output = []; text = no_memory_line; answer = a.Answer.made is (a.MadeAnswer.no_program l built none) }
    | Decides.planned tree made p ↦ (
        let all = made_answer n tree made p (lays.made n tree made is p) in
        record { decided = status.Done; output = all.0; text = []; answer = a.Answer.made is all.1 })
  ]

  pub some : HasAnswer words contents
  some = elim (spells words) [
    | Spells.plan p file top is ↦ of_files file top (asks words p file top is) (of_product p file top is)
    | Spells.run file top trace is ↦ of_files file top (Asks.sim trace is) (λ tree made p. some_answer words contents file top trace is tree made p (lays.simulated file top trace tree made is p))
    | Spells.listed file top list is ↦ of_files file top (Asks.suite list is) (λ tree made p. suite_answer words contents file top list is tree made p (lays.listed file top list tree made is p))
    | Spells.make n is ↦ of_made n is
    | Spells.none h ↦ record { decided = status.Usage; output = []; text = usage_line; answer = a.Answer.usage h }
  ]
