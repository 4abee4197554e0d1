use Rattle.std.proofs.Common.{◌∙◌, ℕ, List, Option, ap, ap₂}
use Rattle.std.specs.Prelude.{slice_get, slice_set}
use Rattle.std.proofs.lemmas.List.{with_items_is}
use Rattle.bsv_bits.specs.Words.{Bits}
use Rattle.bsv_serial.specs.declared.fates.Fate.TheVariants as fate
use Rattle.bsv_serial.specs.AtHand as hand
use Rattle.bsv_serial.specs.Decider as spec
use Rattle.bsv_serial.specs.Making.{with_sites}
use Rattle.bsv_serial.specs.Settings.{sites_of, value_of}
use Rattle.bsv_serial.proofs.SoFar.{same_so_far}
use Rattle.bsv_serial.proofs.decider.Decider.fire.Goals as goal

pub returns : goal.returns
unfolding spec.fired
returns c =
    let d = hand.course c.args.self in
    let before = c.args.so_far.now in
    let n = c.args.number in
    let element = slice_get d.ground.elements n in
    let words = c.requires.words in
    same_so_far _ _
    (c.in_ok-make_calls.ensures
    ∙ ap (λ (ws : List Bits). with_sites d.ground.kinds (spec.place_in d n) before.calls_made.items (sites_of d.ground.kinds ws element)) words)
    (with_items_is before.stoppers c.stop_all.new.stoppers (c.stop_all.auto.stoppers ∙ c.deref_mut.ensures.len)
    ∙ c.stop_all.ensures
    ∙ ap₂ (λ (ss : List (Option ℕ)) (ns : List ℕ). spec.all_stopped ss ns n) c.deref_mut.ensures.value c.stopped_by.ensures)
    (ap (λ (o : Option Bits). slice_set before.fates.items n (fate.Fired o))
    (c.value.ensures ∙ ap (λ (ws : List Bits). value_of ws element) words))
