use Rattle.std.proofs.Common.{◌≡◌, ◌∙◌, ℕ, sym, ap, subst, refl, take, Some, Result, Ok, Err}
use Rattle.std.specs.Prelude.{slice_get}
use Rattle.std.proofs.lemmas.Option.{slice_get_read}
use Rattle.std.proofs.lemmas.Result.{IfOk-weaker}
use Rattle.bsv_fail.specs.declared.fail.Fail.{Fail}
use Rattle.bsv_fail.specs.Given.{Gives}
use Rattle.bsv_types.specs.declared.modules.Method.{Method}
use Rattle.bsv_tree.specs.declared.source.Source.{Source}
use Rattle.bsv_tree.specs.declared.tree.Built.{Built}
use Rattle.bsv_tree.specs.declared.values.Fault.{Fault}
use Rattle.bsv_tree.specs.declared.values.Value.{Value}
use Rattle.bsv_tree.specs.declared.values.Work.{Work}
use Rattle.bsv_tree.specs.carrying.Carrying.{top_method}
use Rattle.bsv_tree.specs.tree.Elements as sources
use Rattle.bsv_tree.specs.carrying.Sources as the_carried
use Rattle.bsv_inline.specs.SourcesAtHand as at_hand
use Rattle.bsv_inline.specs.declared.sources.Sources.{Sources}
use Rattle.bsv_inline.proofs.sources.Sources.method_source.Goals as goal

-- what carrying the text of a method out gives is its source
carried : (s : Sources) (b : Built) (number levels : ℕ) (m : Method) (done : Result (Value × Work) (Fail Fault)) (source : Source)
    → slice_get b.methods number ≡ Some levels → slice_get (sources.top_methods (at_hand.tree s)) number ≡ Some m
    → Gives done (top_method (at_hand.site s b.«module» (take levels b.bindings)) m 0)
    → at_hand.method_done s m done ≡ Some source → at_hand.method_source s b number ≡ Some source
carried s b number levels m (Ok x) source seen text gives is =
    ap (λ l. the_carried.method_source (at_hand.tree s) b l (slice_get (sources.top_methods (at_hand.tree s)) number)) seen
    ∙ ap (the_carried.method_source (at_hand.tree s) b (Some levels)) text
    ∙ ap (the_carried.method_done (at_hand.shapes s) m) gives
    ∙ is
carried s b number levels m (Err f) source seen text gives is = absurd cc

pub returns : goal.returns
returns c =
    let s = c.args.self in
    let b = c.args.built.now in
    let m = c.in-Some-get.method.now in
    let l = c.in-Some-get.ensures.lookup in
    let text = subst (λ ms. slice_get ms c.args.number ≡ Some m) c.top_methods.ensures (slice_get_read c.top_methods.result.now _ c.args.number m refl l.3.0 l.1) in
    let bindings = c.seen-bindings.ensures ∙ ap (take c.in-Some.levels.now) c.as_slice.ensures in
    let site = c.site.ensures ∙ ap (at_hand.site s b.«module») bindings in
    let gives = subst (λ x. Gives c.top_method-done.result (top_method x m 0)) site c.top_method-done.ensures in
    IfOk-weaker c.method_done.result _ _ (λ source is. carried s b c.args.number c.in-Some.levels.now m c.top_method-done.result source (sym c.in-Some.ensures.value) text gives is)
    c.method_done.ensures
