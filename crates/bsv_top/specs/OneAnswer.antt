-- When there is an answer, and when two answers of one input are one: two modules may carry one tree, and two fault texts differ
-- at most in the place of a `Syntax`.
use Rattle.std.specs.Prelude.{◌≡◌, ℕ, List}
use Rattle.bsv_design.specs.declared.schedule.Schedule.{Schedule}
use Rattle.bsv_tree.specs.tree.Trees.{TreeData}
use Rattle.bsv_flow.specs.Compilings.{IsPlanned}
use Rattle.bsv_flow.specs.declared.refusal.Refusal.{Refusal}
use Rattle.bsv_flow.specs.OneAnswer.{IsSameRefusal}
use Rattle.bsv_flow.specs.Refusals.{refusal_line}
use Rattle.bsv_flow.specs.Schedulings.{IsVerilogOf}
use Rattle.bsv_vtext.specs.Signals.{VModuleData}
use Rattle.bsv_top.specs.Answers.{sim_words, suite_words, verilog_words}
use Rattle.bsv_top.specs.LaidOut.{IsLaidOut}
use Rattle.bsv_top.specs.Made.{IsMade, made_contents, made_file, made_top}

-- where the words ask for a run, what is accepted can be laid out
pub record LayOut (words : List (List ℕ)) (contents : List ℕ → List ℕ) : Type 0 where
  pub simulated : (file top trace : List ℕ) (tree : TreeData) (made : Schedule) → words ≡ sim_words file top trace
      → IsPlanned file contents top tree made → IsLaidOut tree
  pub listed : (file top list : List ℕ) (tree : TreeData) (made : Schedule) → words ≡ suite_words file top list
      → IsPlanned file contents top tree made → IsLaidOut tree
  pub made : (n : ℕ) (tree : TreeData) (made : Schedule) → IsMade words n
      → IsPlanned made_file (made_contents n) made_top tree made → IsLaidOut tree

-- where the words ask for Verilog, what is accepted has a module
abbrev pub HaveModules : List (List ℕ) → (List ℕ → List ℕ) → Type 0
HaveModules words contents =
    (file top : List ℕ) (tree : TreeData) (made : Schedule) → words ≡ verilog_words file top
    → IsPlanned file contents top tree made → (v : VModuleData) × IsVerilogOf tree made v

-- the words ask for no Verilog
abbrev pub AsksNoVerilog : List (List ℕ) → Type 0
AsksNoVerilog words = (file top : List ℕ) → words ≡ verilog_words file top → ⊥

-- the texts are equal, or the lines of two refusals that are one
pub data IsSameText : List ℕ → List ℕ → Type 0 where
  equal : {text : List ℕ} → IsSameText text text
  refused : {r other : Refusal} → IsSameRefusal r other → IsSameText (refusal_line r) (refusal_line other)
