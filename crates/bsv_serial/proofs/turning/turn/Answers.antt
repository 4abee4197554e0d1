use Rattle.std.proofs.Common.{◌≡◌, ◌∙◌, ℕ, Bool, true, false, List, [], replicate, sym, ap, refl, subst}
use Rattle.std.proofs.lemmas.List.{with_items_is}
use Rattle.std.specs.Bool.{OnTrue}
use Rattle.bsv_bits.specs.Words.{Bits}
use Rattle.bsv_design.specs.scheme.Schemes.{kinds_of}
use Rattle.bsv_design.specs.scheme.Seen.{asking, design_data}
use Rattle.bsv_design.specs.scheme.States.{FitsKinds}
use Rattle.bsv_guard.proofs.Whole.{named_in}
use Rattle.bsv_serial.specs.Making.{with_sites}
use Rattle.bsv_serial.specs.Settings.{sites_of, value_of}
use Rattle.std.specs.Prelude.{slice_get}
use Rattle.bsv_serial.specs.declared.calls_made.MadeCall.{MadeCall}
use Rattle.bsv_serial.proofs.TurnSights.{after_on, can_run_on, fits_on, ready_on, takes_on, value_on}
use Rattle.bsv_serial.proofs.turning.turn.Goals as goal

none_made : (m n : ℕ) (lists found : List (List MadeCall)) → lists ≡ found → found ≡ replicate m [] → m ≡ n → lists ≡ replicate n []
none_made m n lists found are none same = are ∙ none ∙ ap (λ (k : ℕ). replicate k []) same

where_true : (P : Type 0) (b : Bool) → b ≡ true → OnTrue b P → P
where_true P true e h = h
where_true P false e h = absurd (let z : ⊥ = cc in z)

pub is_ready-requires : goal.is_ready-requires
is_ready-requires c =
    can_run_on c.args.design.now c.args.guards.now.needs c.args.element c.args.state.now.parts.items (asking c.args.requests.now) c.requires
    c.as_slice-2.result.now (none_made _ _ _ _ c.as_slice-2.ensures.value c.in_ok-calls_made.ensures c.len.ensures)
    c.as_slice.result.now c.as_slice.ensures.value

pub returns-then-not-branch-clause-closed : goal.returns-then-not-branch-clause-closed
returns-then-not-branch-clause-closed c =
    record {
      not_ready =
          sym (ready_on c.args.design.now c.args.guards.now.needs c.args.element c.args.state.now.parts.items (asking c.args.requests.now) c.requires
          c.as_slice-2.result.now (none_made _ _ _ _ c.as_slice-2.ensures.value c.in_ok-calls_made.ensures c.len.ensures)
          c.as_slice.result.now c.as_slice.ensures.value)
          ∙ sym c.in_ok-is_ready.ensures.truth ∙ c.if-not-branch.true;
      kept = refl;
    }

pub make_calls-requires-clause-named : goal.make_calls-requires-clause-named
make_calls-requires-clause-named c = λ e is.
    let d = c.args.design.now in named_in d c.args.element e (kinds_of (design_data d)) e.calls is refl refl

pub apply_all-requires : goal.apply_all-requires
apply_all-requires c =
    let d = c.args.design.now in
    let none = none_made _ _ _ _ c.as_slice-2.ensures.value c.in_ok-calls_made.ensures c.len.ensures in
    let element = slice_get d.elements c.args.element in
    let words = c.as_slice-3.ensures.value ∙ where_true _ _ c.if-not-branch.false c.in_ok-is_ready.ensures.words in
    let opened =
    sym (ready_on d c.args.guards.now.needs c.args.element c.args.state.now.parts.items (asking c.args.requests.now) c.requires c.as_slice-2.result.now none c.as_slice.result.now c.as_slice.ensures.value)
    ∙ sym c.in_ok-is_ready.ensures.truth ∙ c.if-not-branch.false in
    takes_on d c.args.guards.now.needs c.args.element c.args.state.now.parts.items (asking c.args.requests.now) c.requires c.as_slice-2.result.now none c.as_slice.result.now c.as_slice.ensures.value
    c.as_slice-3.result.now words opened c.deref_mut.result.now c.deref_mut.ensures.value c.as_slice-5.result.now c.as_slice-5.ensures
    c.as_slice-6.result.now
    (c.as_slice-6.ensures.value ∙ c.in_ok-make_calls.ensures
    ∙ ap (λ (ms : List (List MadeCall)). with_sites (kinds_of (design_data d)) 0 ms (sites_of (kinds_of (design_data d)) c.as_slice-3.result.now element)) (sym c.as_slice-2.ensures.value))

pub returns-clause-ran : goal.returns-clause-ran
returns-clause-ran c =
    let d = c.args.design.now in
    let s = c.args.state.now.parts in
    let none = none_made _ _ _ _ c.as_slice-2.ensures.value c.in_ok-calls_made.ensures c.len.ensures in
    let element = slice_get d.elements c.args.element in
    let words = c.as_slice-3.ensures.value ∙ where_true _ _ c.if-not-branch.false c.in_ok-is_ready.ensures.words in
    let opened =
    sym (ready_on d c.args.guards.now.needs c.args.element s.items (asking c.args.requests.now) c.requires c.as_slice-2.result.now none c.as_slice.result.now c.as_slice.ensures.value)
    ∙ sym c.in_ok-is_ready.ensures.truth ∙ c.if-not-branch.false in
    record {
      is_ready = opened;
      behind =
          with_items_is s c.apply_all.new.state (c.apply_all.auto.state ∙ c.deref_mut.ensures.len) ∙ c.apply_all.ensures
          ∙ after_on d c.args.guards.now.needs c.args.element s.items (asking c.args.requests.now) c.requires c.as_slice-2.result.now none c.as_slice.result.now c.as_slice.ensures.value
          c.as_slice-3.result.now words opened c.deref_mut.result.now c.deref_mut.ensures.value c.as_slice-5.result.now c.as_slice-5.ensures
          c.as_slice-6.result.now
          (c.as_slice-6.ensures.value ∙ c.in_ok-make_calls.ensures
          ∙ ap (λ (ms : List (List MadeCall)). with_sites (kinds_of (design_data d)) 0 ms (sites_of (kinds_of (design_data d)) c.as_slice-3.result.now element)) (sym c.as_slice-2.ensures.value));
      gives =
          c.value-value.ensures ∙ ap (λ (ws : List Bits). value_of ws element) (c.as_slice-4.ensures.value ∙ sym c.as_slice-3.ensures.value)
          ∙ value_on d c.args.guards.now.needs c.args.element s.items (asking c.args.requests.now) c.requires c.as_slice-2.result.now none c.as_slice.result.now c.as_slice.ensures.value
          c.as_slice-3.result.now words;
    }

pub returns-clause-fits : goal.returns-clause-fits
returns-clause-fits c =
    let d = c.args.design.now in
    let ran = returns-clause-ran c in
    subst (FitsKinds (kinds_of (design_data d))) (sym ran.behind)
    (fits_on d c.args.guards.now.needs c.args.element c.args.state.now.parts.items (asking c.args.requests.now) c.requires
    c.as_slice-2.result.now (none_made _ _ _ _ c.as_slice-2.ensures.value c.in_ok-calls_made.ensures c.len.ensures) c.as_slice.result.now c.as_slice.ensures.value ran.is_ready)
