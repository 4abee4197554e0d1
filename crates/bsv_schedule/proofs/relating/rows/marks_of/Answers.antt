use Rattle.std.proofs.Common.{◌≡◌, ◌∙◌, ◌+◌, [], IsTrue, length, map, subst, sym, take}
use Rattle.std.proofs.lemmas.List.{get_or_read, take_all, take_more}
use Rattle.std.proofs.lemmas.Option.{slice_get-get_or}
use Rattle.std.specs.List.{list_all}
use Rattle.std.specs.Prelude.{slice_index_or}
use Rattle.bsv_schedule.specs.declared.relating.usage.Use.{Use}
use Rattle.bsv_schedule.specs.relating.Rows.{AreMarks, Gains}
use Rattle.bsv_schedule.specs.relating.Users.{MeetsSome, MeetsUser}
use Rattle.bsv_schedule.specs.relating.Uses.{use_named}
use Rattle.bsv_schedule.proofs.MarkLemmas.{among_read, row_met, use_step, users_within, written_back}
use Rattle.bsv_schedule.proofs.UsesLemmas.{all_has}
use Rattle.bsv_schedule.proofs.relating.rows.marks_of.Goals as goal

pub mark_use-requires-clause-own : goal.mark_use-requires-clause-own
mark_use-requires-clause-own c =
    let ks = map (λ p. p.kind) c.args.parts.now in
    let uses = c.args.usages.now.by_element.items in
    let owns = c.as_slice-own-items.result.now in
    let is : owns ≡ slice_index_or uses c.args.a [] = c.as_slice-own-items.ensures ∙ get_or_read uses _ _ c.requires.row c.index.ensures [] in
    let named = c.requires.named c.args.a (slice_index_or uses c.args.a []) (slice_get-get_or uses c.args.a [] c.requires.row) in
    all_has (use_named ks) owns _ (subst (λ us. IsTrue (list_all (use_named ks) us)) (sym is) named)
    (among_read owns c.loop-own.own-index (record { part = 0; method = 0 }) c.loop-own-test.true)

pub mark_use-requires-clause-users : goal.mark_use-requires-clause-users
mark_use-requires-clause-users c =
    let long : length c.deref_mut.result.now ≡ length c.args.usages.now.by_element.items = rw c.deref_mut.ensures.value c.loop-own.invariant.count in
    users_within c.args.relation (map (λ p. p.kind) c.args.parts.now) c.args.usages.now.by_element.items c.args.usages.now.by_part.items c.requires.users
    c.requires.named _ _ c.users.result.now long c.users.ensures

pub loop-own-preserved : goal.loop-own-preserved
loop-own-preserved c =
    let ks = map (λ p. p.kind) c.args.parts.now in
    let uses = c.args.usages.now.by_element.items in
    let count = length uses in
    let owns = c.as_slice-own-items.result.now in
    let users = c.args.usages.now.by_part.items in
    let i = c.loop-own.own-index in
    let old = c.loop-own.marks.items in
    let new = c.mark_use.new.marks in
    let is : owns ≡ slice_index_or uses c.args.a [] = c.as_slice-own-items.ensures ∙ get_or_read uses _ _ c.requires.row c.index.ensures [] in
    let own : Use = slice_index_or owns i (record { part = 0; method = 0 }) in
    let before = subst (λ us. AreMarks count (MeetsSome c.args.relation ks (take i us) users) old) (sym is) c.loop-own.invariant in
    let gains : Gains old new (MeetsUser c.args.relation ks own c.users.result.now) =
    subst (λ xs. Gains xs new (MeetsUser c.args.relation ks own c.users.result.now)) c.deref_mut.ensures.value c.in_ok-mark_use.ensures.gains in
    let met = subst (λ us. Gains old new (MeetsUser c.args.relation ks own us)) c.users.ensures gains in
    let back = written_back old new c.loop-own.marks.len c.loop-own.marks.ok.0 gains.count in
    subst (AreMarks count (MeetsSome c.args.relation ks (take (i + 1) (slice_index_or uses c.args.a [])) users)) (sym back)
    (subst (λ us. AreMarks count (MeetsSome c.args.relation ks (take (i + 1) us) users) new) is
    (use_step c.args.relation ks count old new (take i owns) (take (i + 1) owns) own users
    (take_more owns i (record { part = 0; method = 0 }) c.loop-own-test.true) before met))

pub returns : goal.returns
returns c =
    let ks = map (λ p. p.kind) c.args.parts.now in
    let uses = c.args.usages.now.by_element.items in
    let owns = c.as_slice-own-items.result.now in
    let users = c.args.usages.now.by_part.items in
    let is : owns ≡ slice_index_or uses c.args.a [] = c.as_slice-own-items.ensures ∙ get_or_read uses _ _ c.requires.row c.index.ensures [] in
    let all : take c.loop-own.own-index (slice_index_or uses c.args.a []) ≡ slice_index_or uses c.args.a [] =
    subst (λ us. take c.loop-own.own-index us ≡ us) is (take_all c.loop-own.own-index owns c.loop-own-test.false) in
    row_met c.args.relation ks uses users c.requires.users c.args.a _ c.loop-own.marks.items all c.loop-own.invariant
