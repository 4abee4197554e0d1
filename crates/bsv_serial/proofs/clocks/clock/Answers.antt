use Rattle.std.proofs.Common.{◌≡◌, ◌∙◌, ◌<◌, ◌≤◌, ◌^◌, arith, ℕ, false, List, length, sym, ap, ap₂, subst, ◌++◌}
use Rattle.std.specs.Prelude.{drop, replicate, take}
use Rattle.std.specs.List.{AllByRecursion}
use Rattle.bsv_prim.specs.declared.part.Part.{Part}
use Rattle.bsv_design.specs.declared.design.NamedPart.{NamedPart}
use Rattle.bsv_design.specs.scheme.Schemes.{design_scheme, kinds_of}
use Rattle.bsv_design.specs.scheme.Seen.{asking, design_data}
use Rattle.bsv_design.specs.scheme.States.{FitsKinds, emptied}
use Rattle.bsv_serial.specs.declared.fates.Fate.{Fate}
use Rattle.bsv_serial.specs.declared.calls_made.MadeCall.{MadeCall}
use Rattle.bsv_serial.specs.AtHand.{kinds, so_far}
use Rattle.bsv_serial.specs.Applying.{AllCanTake, all_after}
use Rattle.bsv_design.specs.scheme.Rooms.{HasRoom}
use Rattle.bsv_serial.specs.ToldEvents.{all_blocked, all_fired, all_given, all_stopped}
use Rattle.bsv_clock.specs.Events.{Happens}
use Rattle.bsv_serial.specs.Placing.{all_placed}
use Rattle.bsv_serial.proofs.ClockGround.{execution_below, execution_long, urgency_long}
use Rattle.bsv_serial.proofs.ClockWhole.{IsRunTo, run_whole, take_front}
use Rattle.bsv_serial.proofs.clocks.clock.Goals.{After-as_slice-3, After-as_slice-4}
use Rattle.bsv_serial.proofs.clocks.clock.Goals as goal
use Rattle.bsv_schedule.proofs.DesignLemmas.{few_elements}

pub places_in-requires-clause-few : goal.places_in-requires-clause-few
places_in-requires-clause-few c =
    let long = execution_long c.args.design.now c.args.schedule.now c.requires.schedule in
    let few = few_elements c.args.design.now in
    subst (λ ns. length ns < 2 ^ 32) (sym c.as_slice-2.ensures) (omega (arith, long, few))

pub places_in-requires-clause-within : goal.places_in-requires-clause-within
places_in-requires-clause-within c =
    subst (λ ns. AllByRecursion (λ n. n < c.len.result) ns) (sym c.as_slice-2.ensures)
    (subst (λ (k : ℕ). AllByRecursion (λ n. n < k) c.args.schedule.now.execution) (sym c.len.ensures) (execution_below c.args.design.now c.args.schedule.now c.requires.schedule))

pub decide-requires : goal.decide-requires
decide-requires c =
    (run_whole c.args.design.now c.requires.rules c.args.guards.now.needs c.requires.needs c.args.schedule.now c.requires.schedule
    (asking c.args.requests.now) c.requires.requests c.args.state.now.parts.items c.requires.parts c.deref.result.now
    (c.deref.ensures.value ∙ c.in_ok-behind.ensures
    ∙ ap₂ (λ (ps : List NamedPart) (st : List Part). emptied (kinds ps) st) c.as_slice-parts.ensures c.as_slice.ensures.value)
    c.deref-2.result.now
    (c.deref-2.ensures.value ∙ c.in_ok-places.ensures
    ∙ ap₂ (λ (k : ℕ) (ns : List ℕ). all_placed (replicate k 0) 0 ns) c.len.ensures c.as_slice-2.ensures)).can

-- what is known after the deciding
ran : (c : After-as_slice-3)
    → IsRunTo c.args.design.now c.args.schedule.now (asking c.args.requests.now) c.args.state.now.parts.items c.deref.result.now (so_far c.in_ok-decided.decided)
ran c =
    (run_whole c.args.design.now c.requires.rules c.args.guards.now.needs c.requires.needs c.args.schedule.now c.requires.schedule
    (asking c.args.requests.now) c.requires.requests c.args.state.now.parts.items c.requires.parts c.deref.result.now
    (c.deref.ensures.value ∙ c.in_ok-behind.ensures
    ∙ ap₂ (λ (ps : List NamedPart) (st : List Part). emptied (kinds ps) st) c.as_slice-parts.ensures c.as_slice.ensures.value)
    c.deref-2.result.now
    (c.deref-2.ensures.value ∙ c.in_ok-places.ensures
    ∙ ap₂ (λ (k : ℕ) (ns : List ℕ). all_placed (replicate k 0) 0 ns) c.len.ensures c.as_slice-2.ensures)).behind
    (so_far c.in_ok-decided.decided) c.in_ok-decided.ensures

-- the parts and the calls that are applied
parts_now : (c : After-as_slice-3) → c.deref_mut.result.now ≡ c.deref.result.now
parts_now c = c.deref_mut.ensures.value ∙ sym c.deref.ensures.value

pub apply_all-requires : goal.apply_all-requires
apply_all-requires c =
    let here = (goal.at.apply_all-requires c).After-as_slice-3 in
    let kinds_now = ap (λ (ps : List NamedPart). kinds ps) c.as_slice-parts.ensures in
    subst (λ ks. AllCanTake ks c.deref_mut.result.now c.as_slice-3.result.now) (sym kinds_now)
    (subst (λ ps. AllCanTake (kinds_of (design_data c.args.design.now)) ps c.as_slice-3.result.now) (sym (parts_now here))
    (subst (λ ms. AllCanTake (kinds_of (design_data c.args.design.now)) c.deref.result.now ms) (sym c.as_slice-3.ensures.value) (ran here).takes))

-- the parts after the calls
applied : (c : After-as_slice-4) → c.apply_all.new.state ≡ all_after (kinds_of (design_data c.args.design.now)) c.deref.result.now c.in_ok-decided.decided.calls_made.items
applied c =
    c.apply_all.ensures
    ∙ ap (λ (ps : List NamedPart). all_after (kinds ps) c.deref_mut.result.now c.as_slice-3.result.now) c.as_slice-parts.ensures
    ∙ ap₂ (λ (ps : List Part) (ms : List (List MadeCall)). all_after (kinds_of (design_data c.args.design.now)) ps ms)
    (c.deref_mut.ensures.value ∙ sym c.deref.ensures.value) c.as_slice-3.ensures.value

pub tell-requires-clause-few : goal.tell-requires-clause-few
tell-requires-clause-few c =
    let count = ap (λ (fs : List Fate). length fs) c.as_slice-4.ensures.value ∙ (ran (goal.at.tell-requires-clause-few c).After-as_slice-3).count in
    subst (λ (k : ℕ). k < 2 ^ 32) (sym count) (few_elements c.args.design.now)

pub tell-requires-clause-execution : goal.tell-requires-clause-execution
tell-requires-clause-execution c =
    let count = ap (λ (fs : List Fate). length fs) c.as_slice-4.ensures.value ∙ (ran (goal.at.tell-requires-clause-execution c).After-as_slice-3).count in
    subst (λ (k : ℕ). length c.args.schedule.now.execution ≤ k) (sym count) (execution_long c.args.design.now c.args.schedule.now c.requires.schedule)

pub tell-requires-clause-urgency : goal.tell-requires-clause-urgency
tell-requires-clause-urgency c =
    let count = ap (λ (fs : List Fate). length fs) c.as_slice-4.ensures.value ∙ (ran (goal.at.tell-requires-clause-urgency c).After-as_slice-3).count in
    subst (λ (k : ℕ). length c.args.schedule.now.urgency ≤ k) (sym count) (urgency_long c.args.design.now c.args.schedule.now c.requires.schedule)

pub tell-requires-clause-room : goal.tell-requires-clause-room
tell-requires-clause-room c =
    let count = ap (λ (fs : List Fate). length fs) c.as_slice-4.ensures.value ∙ (ran (goal.at.tell-requires-clause-room c).After-as_slice-3).count in
    subst (λ (k : ℕ). HasRoom k c.args.fired.now) (sym count) c.requires.room

-- the parts that are kept are those after the calls
kept : (c : After-as_slice-4)
    → length (all_after (kinds_of (design_data c.args.design.now)) c.deref.result.now c.in_ok-decided.decided.calls_made.items) ≡ length c.deref.result.now
    → take c.in_ok-behind.behind.len (c.apply_all.new.state ++ drop (length c.apply_all.new.state) c.in_ok-behind.behind.items)
    ≡ all_after (kinds_of (design_data c.args.design.now)) c.deref.result.now c.in_ok-decided.decided.calls_made.items
kept c same =
    let long = ap (λ (ps : List Part). length ps) (applied c) ∙ same ∙ c.deref.ensures.len in
    take_front c.in_ok-behind.behind.len c.apply_all.new.state (drop (length c.apply_all.new.state) c.in_ok-behind.behind.items) long ∙ applied c

pub returns-clause-happens : goal.returns-clause-happens
returns-clause-happens c =
    let r = ran (goal.at.returns-clause-happens c).After-as_slice-3 in
    let told = c.as_slice-4.ensures.value in
    subst (λ (ps : List Part). Happens false (design_scheme (design_data c.args.design.now)) c.args.schedule.now (asking c.args.requests.now) c.args.state.now.parts.items c.tell.new.fired ps)
    (sym (kept (goal.at.returns-clause-happens c).After-as_slice-4 r.long))
    (r.happens c.tell.new.fired
    (c.tell.ensures.list ∙ ap (λ (fs : List Fate). all_fired fs c.args.schedule.now.execution) told)
    (c.tell.ensures.stopped ∙ ap (λ (fs : List Fate). all_stopped fs c.args.schedule.now.urgency) told)
    (c.tell.ensures.blocked ∙ ap (λ (fs : List Fate). all_blocked fs) told)
    (c.tell.ensures.results ∙ ap (λ (fs : List Fate). all_given fs c.args.schedule.now.execution) told))

pub returns-clause-fits : goal.returns-clause-fits
returns-clause-fits c =
    let r = ran (goal.at.returns-clause-fits c).After-as_slice-3 in
    subst (λ (ps : List Part). FitsKinds (kinds_of (design_data c.args.design.now)) ps) (sym (kept (goal.at.returns-clause-fits c).After-as_slice-4 r.long)) r.fits

pub returns-clause-room : goal.returns-clause-room
returns-clause-room c =
    let count = ap (λ (fs : List Fate). length fs) c.as_slice-4.ensures.value ∙ (ran (goal.at.returns-clause-room c).After-as_slice-3).count in
    subst (λ (k : ℕ). HasRoom k c.tell.new.fired) count c.tell.ensures.room
