use Rattle.std.proofs.Common.{◌≡◌, ◌∙◌, map, length, sym, ap, subst, IsTrue}
use Rattle.std.specs.List.{list_all, list_any}
use Rattle.std.proofs.lemmas.List.{length-map}
use Rattle.bsv_design.specs.scheme.Schemes.{design_scheme}
use Rattle.bsv_design.specs.scheme.Seen.{design_data}
use Rattle.bsv_graph.specs.Edges.{AllBelow}
use Rattle.bsv_schedule.specs.relating.Elements.{edges_of, is_ordering, is_urging, preempts}
use Rattle.bsv_schedule.specs.relating.Relating.{Agrees}
use Rattle.bsv_schedule.specs.relating.Uses.{pair_below}
use Rattle.bsv_schedule.proofs.DesignLemmas.{few_elements, pairs_below}
use Rattle.bsv_schedule.proofs.RelationsLemmas.{rows_square, clashes_are, feeds_are, marked_preempts, relating_same, roles_are, pairs_are, agrees_design, edges_below}
use Rattle.bsv_schedule.proofs.relating.relations.Relations.of_rows.Goals as goal

pub table_of-requires-clause-few : goal.table_of-requires-clause-few
table_of-requires-clause-few c = rw c.requires.rows.count (few_elements c.args.design.now)

pub table_of-requires-clause-square : goal.table_of-requires-clause-square
table_of-requires-clause-square c = rows_square _ _ c.args.rows.now c.requires.rows

pub preempts_of-requires-clause-below : goal.preempts_of-requires-clause-below
preempts_of-requires-clause-below c =
    let n : c.len.result ≡ length c.args.design.now.elements = c.len.ensures ∙ (ap length c.in_ok-roles.ensures ∙ (length-map _ _ ∙ ap length c.as_slice-elements.ensures)) in
    rw (n, c.as_slice-pairs.ensures) (pairs_below c.args.design.now)

pub invariant_of-result : goal.invariant_of-result
invariant_of-result c =
    let d = c.args.design.now in
    let n : length c.in_ok-roles.roles ≡ length d.elements = ap length c.in_ok-roles.ensures ∙ (length-map _ _ ∙ ap length c.as_slice-elements.ensures) in
    let below : IsTrue (list_all (pair_below (length c.in_ok-roles.roles)) c.as_slice-pairs.result.now) = rw (n, c.as_slice-pairs.ensures) (pairs_below d) in
    record {
      few = rw n (few_elements d);
      clashes_side = c.in_ok-clashes.ensures.side ∙ (c.requires.rows.count ∙ sym n);
      feeds_side = c.in_ok-feeds.ensures.side ∙ (c.requires.rows.count ∙ sym n);
      preempts_side = c.in_ok-preempts.ensures.side ∙ c.len.ensures;
      ordering_below = subst (AllBelow (length c.in_ok-roles.roles)) (sym c.in_ok-ordering.ensures)
          (edges_below is_ordering (length c.in_ok-roles.roles) c.as_slice-pairs.result.now below);
      urging_below = subst (AllBelow (length c.in_ok-roles.roles)) (sym c.in_ok-urging.ensures)
          (edges_below is_urging (length c.in_ok-roles.roles) c.as_slice-pairs.result.now below);
    }

pub returns-clause-relating : goal.returns-clause-relating
returns-clause-relating c =
    let d = c.args.design.now in
    let S = design_scheme (design_data d) in
    let n : c.len.result ≡ length d.elements = c.len.ensures ∙ (ap length c.in_ok-roles.ensures ∙ (length-map _ _ ∙ ap length c.as_slice-elements.ensures)) in
    let below : IsTrue (list_all (pair_below c.len.result) c.as_slice-pairs.result.now) = rw (n, c.as_slice-pairs.ensures) (pairs_below d) in
    let pairs = c.as_slice-pairs.ensures ∙ pairs_are d in
    relating_same S _
    (c.in_ok-roles.ensures ∙ (ap (map (λ e. e.role)) c.as_slice-elements.ensures ∙ roles_are d))
    (clashes_are d c.args.rows.now c.requires.rows c.in_ok-clashes.clashes c.in_ok-clashes.ensures.side c.in_ok-clashes.ensures.marked)
    (feeds_are d c.args.rows.now c.requires.rows c.in_ok-feeds.feeds c.in_ok-feeds.ensures.side c.in_ok-feeds.ensures.marked)
    (λ a b. marked_preempts c.in_ok-preempts.preempts c.len.result c.as_slice-pairs.result.now c.in_ok-preempts.ensures.side below c.in_ok-preempts.ensures.marked a b
    ∙ ap (list_any (preempts a b)) pairs)
    (c.in_ok-ordering.ensures ∙ ap (edges_of is_ordering) pairs)
    (c.in_ok-urging.ensures ∙ ap (edges_of is_urging) pairs)

pub returns-clause-agrees : goal.returns-clause-agrees
returns-clause-agrees c = subst Agrees (sym (returns-clause-relating c)) (agrees_design c.args.design.now)
