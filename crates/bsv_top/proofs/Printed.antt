-- What is put of what was compiled, a schedule or Verilog, is the output of an answer.
use Rattle.std.proofs.Common.{◌≡◌, ◌∙◌, ℕ, List, [], refl, sym, ap, subst}
use Rattle.std.proofs.Math.Path.{fun_ext}
use Rattle.bsv_io.specs.Writing.{Writing, appended, AppendsPrefix}
use Rattle.bsv_design.specs.scheme.Schemes.{Outline}
use Rattle.bsv_tree.specs.meaning.Schemes.{tree_scheme}
use Rattle.std.specs.Prelude.{slice_get}
use Rattle.bsv_trace.specs.Texts.{name_at, schedule_text}
use Rattle.bsv_vtext.specs.AtHand as hand
use Rattle.bsv_flow.specs.declared.scheduling.Compiled.{Compiled}
use Rattle.bsv_clock.specs.Subjects.{element_name, outline_name}
use Rattle.bsv_flow.specs.Compilings.{IsCompiled, IsPlanned}
use Rattle.bsv_flow.proofs.Planned.{compiled_planned}
use Rattle.bsv_top.specs.declared.form.Product.{Product}
use Rattle.bsv_top.specs.declared.form.Product.TheVariants as product
use Rattle.bsv_top.specs.declared.status.Status.TheVariants as status
use Rattle.bsv_top.specs.Answers as a
use Rattle.bsv_top.specs.Answers.{Answer, printed, schedule_words}
use Rattle.bsv_top.specs.Outcomes.{IsAccepted, IsDoneBy, OutputStarted, started}
use Rattle.bsv_top.specs.Products.{product_text, product_words}
use Rattle.bsv_run.proofs.Named.{names_are}
use Rattle.bsv_top.proofs.Spelled.{asks_product}

module _ (file : List ℕ) (contents : List ℕ → List ℕ) (top : List ℕ) (c : Compiled) (x : IsCompiled file contents top c) where
  planned : IsPlanned file contents top x.compiled.tree c.schedule
  planned = compiled_planned file contents top c x

  -- the text of the schedule is that of the tree
  name_here : (n : ℕ) → name_at c.design.elements n ≡ element_name (tree_scheme x.compiled.tree) n
  name_here n = names_are c.design n ∙ ap (λ (os : List Outline). outline_name (slice_get os n)) (sym x.compiled.design.alike.elements)

  printed_here : schedule_text (name_at c.design.elements) c.schedule ≡ printed x.compiled.tree c.schedule
  unfolding printed
  printed_here = ap (λ (named : ℕ → List ℕ). schedule_text named c.schedule) (fun_ext name_here)

  product_answer : (p : Product) → Answer (product_words p file top) contents status.Done (product_text p c) []
  product_answer product.Schedule =
      subst (λ (t : List ℕ). Answer (schedule_words file top) contents status.Done t []) (sym printed_here)
      (a.Answer.scheduled x.compiled.tree c.schedule refl planned)
  product_answer product.Verilog = a.Answer.written x.compiled.tree c.schedule (hand.module_data c.verilog) refl planned x.compiled.design.verilog

  accepted : (p : Product) → IsAccepted (product_words p file top) contents
  accepted p = record {
    file = file;
    top = top;
    asks = asks_product p file top;
    tree = x.compiled.tree;
    made = c.schedule;
    planned = planned;
    laid = record { design = c.design; alike = x.compiled.design.alike };
  }

  -- it is put whole
  pub plan_done : (p : Product) (out out' : Writing) → out' ≡ appended (product_text p c) out → IsDoneBy (product_words p file top) contents out out'
  plan_done p out out' put = record { accepted = λ f t asks. accepted p; output = product_text p c; answer = product_answer p; put = put }

  -- or a prefix of it
  pub plan_started : (p : Product) (out out' : Writing) → AppendsPrefix (product_text p c) out out' → OutputStarted (product_words p file top) contents out out'
  plan_started p out out' prefix = started [] (product_answer p) prefix
