-- The tables and lists that the code makes of a design are how its elements relate.
use Rattle.std.proofs.Common.{◌≡◌, ◌∙◌, ℕ, ◌+◌, ◌<◌, ◌⊎◌, inl, inr, Bool, true, false, not, ◌&&◌, List, [], ◌∷◌, ◌++◌, length, map, zero, suc, refl, sym, ap, arith, subst, Some, None, ltb-true}
use Rattle.std.proofs.lemmas.Bool.{lt-ltb, eqb-true, and_parts, and_from}
use Rattle.std.proofs.lemmas.List.{length-map}
use Rattle.std.proofs.lemmas.Option.{get_or_from_slice_get, same_Some, slice_get_within}
use Rattle.bsv_bits.specs.declared.memory.OutOfMemory.{OutOfMemory}
use Rattle.std.specs.Prelude.{IsTrue, IfOk, Result, Ok, Err, if◌then◌else◌, filter, nat_lt, ◌==◌, ◌↔◌, slice_get, slice_index_or, Option}
use Rattle.std.specs.List.{list_all, list_any, flat_map}
use Rattle.bsv_lemmas.proofs.Places.{item_there}
use Rattle.bsv_design.specs.declared.design.Design.{Design}
use Rattle.bsv_design.specs.declared.element.Element.{Element}
use Rattle.bsv_design.specs.declared.kind.Kind.{Kind}
use Rattle.bsv_design.specs.declared.attributes.Attribute.{Attribute}
use Rattle.bsv_design.specs.declared.attributes.Attribute.TheVariants as attribute
use Rattle.bsv_design.specs.declared.attributes.Pair.{Pair}
use Rattle.bsv_design.specs.design.Bodies.{Target, target}
use Rattle.bsv_design.specs.scheme.Relations.{goes, feeds}
use Rattle.bsv_design.specs.design.Roles.{is_value, is_rule}
use Rattle.bsv_design.specs.scheme.Schemes.{Scheme, design_scheme, outline, kinds_of}
use Rattle.bsv_design.specs.scheme.Seen.{design_data}
use Rattle.bsv_graph.specs.declared.edge.Edge.{Edge}
use Rattle.bsv_schedule.specs.declared.relating.related.Relation.{Relation}
use Rattle.bsv_schedule.specs.declared.relating.related.Relation.TheVariants as relation
use Rattle.bsv_schedule.specs.declared.relating.relations.Relations.{Relations}
use Rattle.bsv_graph.specs.declared.table.Table.{Table}
use Rattle.bsv_schedule.specs.declared.relating.usage.Use.{Use}
use Rattle.bsv_graph.specs.declared.graph.Graph.{Graph}
use Rattle.bsv_graph.specs.Graphs.{size_of, IsGraphOf}
use Rattle.bsv_graph.specs.Edges.{AllBelow, edges_where, edges_from, numbers_below}
use Rattle.bsv_schedule.specs.relating.Elements.{relating, edges_of, edge_of, is_urging, is_ordering, is_preempting, preempts, has_role}
use Rattle.bsv_graph.specs.Orders.{In}
use Rattle.bsv_schedule.specs.relating.Relating.{Agrees, feed_edges}
use Rattle.bsv_schedule.specs.relating.Relations.{relating_of, marked}
use Rattle.bsv_graph.specs.Table.{side_of, at}
use Rattle.bsv_schedule.specs.declared.relating.rows.Row.{Row}
use Rattle.bsv_schedule.specs.relating.Blocks.{block_count, AreRowsBetween, AreRowsOfBlock}
use Rattle.bsv_schedule.specs.relating.Rows.{mark_at, mark_of, marks_in, AreMarksOf, AreRows, IsRow, IsSquare}
use Rattle.bsv_schedule.specs.relating.Uses.{Among, AreUsages, Meets, UseSame, used, pair_below}
use Rattle.bsv_graph.specs.Walks.{HasEdge}
use Rattle.bsv_schedule.proofs.BlockLemmas.{blocks_are_rows}
use Rattle.bsv_schedule.proofs.DesignLemmas.{uses_some, uses_none, kinds_are, pairs_below}
use Rattle.bsv_graph.proofs.EdgeLemmas.{all_within, in_below}
use Rattle.bsv_schedule.proofs.Truths.{same_truths}
use Rattle.bsv_schedule.proofs.UsesLemmas.{any_of, all_has, meets_same, goes_is, feeds_is}

-- ---- tables of elements that meet

-- the scheme has these kinds, and these elements use what it says
pub record IsSchemeOf (S : Scheme) (ks : List Kind) (es : List Element) : Type 0 where
  pub kinds : S.kinds ≡ ks
  pub some : (n : ℕ) (e : Element) → slice_get es n ≡ Some e → S.uses n ≡ map target e.calls
  pub none : (n : ℕ) → slice_get es n ≡ None → S.uses n ≡ []

module _ (S : Scheme) (ks : List Kind) (es : List Element) (scheme : IsSchemeOf S ks es) where
  uses_element : (n : ℕ) (x : Target) → Among (S.uses n) x → (e : Element) × (slice_get es n ≡ Some e)
  uses_element n x h = of (slice_get es n) refl where
    of : (o : Option Element) → slice_get es n ≡ o → (e : Element) × (slice_get es n ≡ Some e)
    of None e = let k : Among [] x = subst (λ ts. Among ts x) (scheme.none n e) h in absurd k
    of (Some e) is = (e, is)

  -- what uses something is an element
  pub uses_within : (n : ℕ) (x : Target) → Among (S.uses n) x → n < length es
  uses_within n x h = let e = uses_element n x h in slice_get_within es n e.0 e.1

  module _ (us : List (List Use)) (are : AreUsages ks es us) where
    -- what is noted of an element is what the scheme says that it uses
    uses_noted : (n : ℕ) → n < length us → UseSame (used (slice_index_or us n [])) (S.uses n)
    uses_noted n below =
        let own = item_there us n below in
        let e = item_there es n (subst (λ count. n < count) are.count below) in
        subst (λ xs. UseSame (used xs) (S.uses n)) (sym (get_or_from_slice_get us n own.0 [] own.1))
        (subst (UseSame (used own.0)) (sym (scheme.some n e.0 e.1)) (are.same n e.0 own.0 e.1 own.1))

    turned : (xs ys : List Target) → UseSame xs ys → UseSame ys xs
    turned xs ys same x = ((same x).1, (same x).0)

    -- what is marked of an element is what it meets by the scheme
    row_is : (w : Relation) (a : ℕ) (marks : List Bool) → a < length us → AreMarksOf w ks us a marks → IsRow S (length us) w a marks
    row_is w a marks la marked = record {
      count = marked.count;
      met = λ b lb. (
        λ h. subst (λ k. Meets w k (S.uses a) (S.uses b)) (sym scheme.kinds)
            (meets_same w ks _ _ (S.uses a) (S.uses b) (uses_noted a la) (uses_noted b lb) ((marked.met b lb).0 h)),
        λ h. (marked.met b lb).1
            (meets_same w ks (S.uses a) (S.uses b) _ _ (turned _ _ (uses_noted a la)) (turned _ _ (uses_noted b lb))
            (subst (λ k. Meets w k (S.uses a) (S.uses b)) scheme.kinds h)),
      );
    }

    pub rows_are : (rows : List Row) → length rows ≡ length us
        → ((a : ℕ) (row : Row) → slice_get rows a ≡ Some row → (w : Relation) → AreMarksOf w ks us a (marks_in w row)) → AreRows S (length es) rows
    rows_are rows long each = subst (λ n. AreRows S n rows) are.count (record {
      count = long;
      each = λ a row is w. row_is w a (marks_in w row) (subst (λ n. a < n) long (slice_get_within rows a row is)) (each a row is w);
    })

-- each row of a list of rows has a mark for each
pub rows_square : (S : Scheme) (n : ℕ) (rows : List Row) → AreRows S n rows → IsSquare rows
rows_square S n rows are a row is w = (are.each a row is w).count ∙ sym are.count

-- what is marked in a list of rows
pub mark_met : (S : Scheme) (n : ℕ) (rows : List Row) → AreRows S n rows → (w : Relation) (a b : ℕ) → a < n → b < n
    → IsTrue (mark_at w rows a b) ↔ Meets w S.kinds (S.uses a) (S.uses b)
mark_met S n rows are w a b la lb =
    let row = item_there rows a (subst (λ k. a < k) (sym are.count) la) in
    let met = (are.each a row.0 row.1 w).met b lb in (
      λ h. met.0 (subst (λ o. IsTrue (mark_of w b o)) row.1 h),
      λ h. subst (λ o. IsTrue (mark_of w b o)) (sym row.1) (met.1 h),
    )

module _ (S : Scheme) (n : ℕ) (within : (a : ℕ) (x : Target) → Among (S.uses a) x → a < n) (w : Relation) (t : Table) (side : side_of t ≡ n)
    (marks : (a b : ℕ) → a < n → b < n → IsTrue (at t a b) ↔ Meets w S.kinds (S.uses a) (S.uses b)) where
  pub marked_meets : (a b : ℕ) → IsTrue (marked t a b) → Meets w S.kinds (S.uses a) (S.uses b)
  marked_meets a b h =
      let p = and_parts (nat_lt a (side_of t) && nat_lt b (side_of t)) (at t a b) h in
      let q = and_parts (nat_lt a (side_of t)) (nat_lt b (side_of t)) p.0 in
      (marks a b (subst (λ k. a < k) side (ltb-true a (side_of t) q.0)) (subst (λ k. b < k) side (ltb-true b (side_of t) q.1))).0 p.1

  pub meets_marked : (a b : ℕ) → Meets w S.kinds (S.uses a) (S.uses b) → IsTrue (marked t a b)
  meets_marked a b h =
      let la = within a h.first h.in_first in
      let lb = within b h.second h.in_second in
      and_from (nat_lt a (side_of t) && nat_lt b (side_of t)) (at t a b)
      (and_from (nat_lt a (side_of t)) (nat_lt b (side_of t)) (lt-ltb a (side_of t) (subst (λ k. a < k) (sym side) la))
      (lt-ltb b (side_of t) (subst (λ k. b < k) (sym side) lb)))
      ((marks a b la lb).1 h)

-- ---- pairs as edges

edges_step : (test : Attribute → Bool) (t : Bool) (p : Pair) (ps : List Pair)
    → map edge_of (if t then p ∷ filter (λ q. test q.attribute) ps else filter (λ q. test q.attribute) ps) ≡ (if t then edge_of p ∷ edges_of test ps else edges_of test ps)
edges_step test true p ps = refl
edges_step test false p ps = refl

in_step : (t : Bool) (e : Edge) (es : List Edge) (a b : ℕ) → HasEdge (if t then e ∷ es else es) a b → ((a ≡ e.from) × (b ≡ e.to)) ⊎ HasEdge es a b
in_step true e es a b h = h
in_step false e es a b h = inr h

pub edges_from_pairs : (test : Attribute → Bool) (ps : List Pair) (a b : ℕ) → HasEdge (edges_of test ps) a b → (p : Pair) × Among ps p × (a ≡ p.before) × (b ≡ p.after)
edges_from_pairs test [] a b h = absurd h
edges_from_pairs test (p ∷ ps) a b h =
    elim (in_step (test p.attribute) (edge_of p) (edges_of test ps) a b (subst (λ es. HasEdge es a b) (edges_step test (test p.attribute) p ps) h)) [
      | inl k ↦ (p, inl refl, k.0, k.1)
      | inr k ↦ let q = edges_from_pairs test ps a b k in (q.0, inr q.1, q.2, q.3)
    ]

here_step : (t : Bool) (e : Edge) (es : List Edge) → IsTrue t → HasEdge (if t then e ∷ es else es) e.from e.to
here_step true e es h = inl (refl, refl)
here_step false e es h = cc

there_step : (t : Bool) (e : Edge) (es : List Edge) (a b : ℕ) → HasEdge es a b → HasEdge (if t then e ∷ es else es) a b
there_step true e es a b h = inr h
there_step false e es a b h = h

pub pairs_edges : (test : Attribute → Bool) (ps : List Pair) (p : Pair) → Among ps p → IsTrue (test p.attribute) → HasEdge (edges_of test ps) p.before p.after
pairs_edges test [] p h k = absurd h
pairs_edges test (q ∷ ps) p (inl e) k = subst (λ r. HasEdge (edges_of test (q ∷ ps)) r.before r.after) (sym e)
    (subst (λ es. HasEdge es q.before q.after) (sym (edges_step test (test q.attribute) q ps))
    (here_step (test q.attribute) (edge_of q) (edges_of test ps) (subst (λ r. IsTrue (test r.attribute)) e k)))
pairs_edges test (q ∷ ps) p (inr h) k =
    subst (λ es. HasEdge es p.before p.after) (sym (edges_step test (test q.attribute) q ps))
    (there_step (test q.attribute) (edge_of q) (edges_of test ps) p.before p.after (pairs_edges test ps p h k))

below_of : (n : ℕ) (p : Pair) → IsTrue (pair_below n p) → (p.before < n) × (p.after < n)
below_of n p h = let b = and_parts (nat_lt p.before n) (nat_lt p.after n) h in (ltb-true p.before n b.0, ltb-true p.after n b.1)

pub edges_below : (test : Attribute → Bool) (n : ℕ) (ps : List Pair) → IsTrue (list_all (pair_below n) ps) → AllBelow n (edges_of test ps)
edges_below test n ps h = all_within n (edges_of test ps) (λ a b k.
    let q = edges_from_pairs test ps a b k in
    let l = below_of n q.0 (all_has (pair_below n) ps q.0 h q.1) in
    (subst (λ x. x < n) (sym q.2) l.0, subst (λ x. x < n) (sym q.3) l.1))

-- what a pair of `preempts` says
says : (a b : ℕ) (p : Pair) → IsTrue (preempts a b p) → IsTrue (is_preempting p.attribute) × (p.before ≡ a) × (p.after ≡ b)
says a b p h =
    let x = and_parts (is_preempting p.attribute && (p.before == a)) (p.after == b) h in
    let y = and_parts (is_preempting p.attribute) (p.before == a) x.0 in
    (y.0, eqb-true p.before a y.1, eqb-true p.after b x.1)

urges : (x : Attribute) → IsTrue (is_preempting x) → IsTrue (is_urging x)
urges attribute.ExecutionOrder h = cc
urges attribute.DescendingUrgency h = cc
urges attribute.Preempts h = refl

preempts_edge : (ps : List Pair) (a b : ℕ) → IsTrue (list_any (preempts a b) ps) → HasEdge (edges_of is_urging ps) a b
preempts_edge ps a b h =
    let p = any_of (preempts a b) ps h in
    let s = says a b p.0 p.2 in
    subst (λ y. HasEdge (edges_of is_urging ps) a y) s.2 (subst (λ x. HasEdge (edges_of is_urging ps) x p.0.after) s.1
    (pairs_edges is_urging ps p.0 p.1 (urges p.0.attribute s.0)))

pub marked_preempts : (t : Table) (n : ℕ) (ps : List Pair) → side_of t ≡ n → IsTrue (list_all (pair_below n) ps)
    → ((a b : ℕ) → a < n → b < n → IsTrue (at t a b) ↔ IsTrue (list_any (preempts a b) ps)) → (a b : ℕ) → marked t a b ≡ list_any (preempts a b) ps
marked_preempts t n ps side below marks a b = same_truths (marked t a b) (list_any (preempts a b) ps)
    (λ h.
    let p = and_parts (nat_lt a (side_of t) && nat_lt b (side_of t)) (at t a b) h in
    let q = and_parts (nat_lt a (side_of t)) (nat_lt b (side_of t)) p.0 in
    (marks a b (subst (λ n. a < n) side (ltb-true a (side_of t) q.0)) (subst (λ n. b < n) side (ltb-true b (side_of t) q.1))).0 p.1)
    (λ h.
    let p = any_of (preempts a b) ps h in
    let s = says a b p.0 p.2 in
    let l = below_of n p.0 (all_has (pair_below n) ps p.0 below p.1) in
    let la : a < n = subst (λ x. x < n) s.1 l.0 in
    let lb : b < n = subst (λ x. x < n) s.2 l.1 in
    and_from (nat_lt a (side_of t) && nat_lt b (side_of t)) (at t a b)
    (and_from (nat_lt a (side_of t)) (nat_lt b (side_of t)) (lt-ltb a (side_of t) (subst (λ n. a < n) (sym side) la))
    (lt-ltb b (side_of t) (subst (λ n. b < n) (sym side) lb)))
    ((marks a b la lb).1 h))

-- ---- the whole

roles_in : (es : List Element) → map (λ (e : Element). e.role) es ≡ map (λ o. o.role) (map outline es)
roles_in [] = refl
roles_in (e ∷ es) = ap (λ z. e.role ∷ z) (roles_in es)

pub roles_are : (d : Design) → map (λ (e : Element). e.role) d.elements ≡ map (λ o. o.role) (design_scheme (design_data d)).elements
unfolding design_scheme
roles_are d = roles_in d.elements

pub pairs_are : (d : Design) → d.pairs ≡ (design_scheme (design_data d)).pairs
unfolding design_scheme
pairs_are d = refl

pub scheme_of : (d : Design) → IsSchemeOf (design_scheme (design_data d)) (kinds_of (design_data d)) d.elements
scheme_of d = record { kinds = kinds_are d; some = uses_some d; none = uses_none d }

pub agrees_design : (d : Design) → Agrees (relating (design_scheme (design_data d)))
unfolding relating design_scheme
agrees_design d =
    let long : length d.elements ≡ length (map outline d.elements) = sym (length-map d.elements outline) in
    let below : IsTrue (list_all (pair_below (length (map outline d.elements))) d.pairs) = subst (λ n. IsTrue (list_all (pair_below n) d.pairs)) long (pairs_below d) in
    record {
      ordering = edges_below is_ordering (length (map outline d.elements)) d.pairs below;
      urging = edges_below is_urging (length (map outline d.elements)) d.pairs below;
      preempts = preempts_edge d.pairs;
    }

pub relating_same : (S : Scheme) (r : Relations) → r.roles ≡ map (λ o. o.role) S.elements
    → ((a b : ℕ) → not (marked r.clashes a b) ≡ goes S a b) → ((a b : ℕ) → marked r.feeds a b ≡ feeds S a b)
    → ((a b : ℕ) → marked r.preempts a b ≡ list_any (preempts a b) S.pairs)
    → r.ordering ≡ edges_of is_ordering S.pairs → r.urging ≡ edges_of is_urging S.pairs → relating_of r ≡ relating S
unfolding relating_of relating
relating_same S r roles go feed preempt order urge =
    let long : length r.roles ≡ length S.elements = ap length roles ∙ length-map S.elements (λ o. o.role) in
    λ i. record {
      count = long i;
      goes = λ a b. go a b i;
      feeds = λ a b. feed a b i;
      value = λ a. has_role is_value (slice_get (roles i) a);
      rule = λ a. has_role is_rule (slice_get (roles i) a);
      ordering = order i;
      urging = urge i;
      preempts = λ a b. preempt a b i;
    }

-- what is known of each result that was made is known of each item
of_made : {X E : Type 0} (made : List (Result X E)) (xs : List X) (P : ℕ → X → Type 0) → made ≡ map Ok xs
    → ((i : ℕ) (r : Result X E) → i < length made → IfOk (slice_index_or made i r) (P i)) → (a : ℕ) (x : X) → slice_get xs a ≡ Some x → P a x
of_made {X = X} {E = E} made xs P is each a x at =
    subst (λ (r : Result X E). IfOk r (P a)) (read xs a at) (subst (λ (rs : List (Result X E)). IfOk (slice_index_or rs a (Ok x)) (P a)) is (each a (Ok x) (subst (λ (rs : List (Result X E)). a < length rs) (sym is) within))) where
      results : List X → List (Result X E)
      results ys = map Ok ys

      within : a < length (results xs)
      within = subst (λ n. a < n) (sym (length-map xs Ok)) (slice_get_within xs a x at)

      read : (ys : List X) (k : ℕ) → slice_get ys k ≡ Some x → slice_index_or (results ys) k (Ok x) ≡ Ok x
      read [] k e = refl
      read (y ∷ ys) zero e = ap Ok (same_Some y x e)
      read (y ∷ ys) (suc k) e = read ys k e

-- what the parts of the relations of a design are
module _ (d : Design) where
  scheme : IsSchemeOf (design_scheme (design_data d)) (kinds_of (design_data d)) d.elements
  scheme = scheme_of d

  pub design_rows : (ks : List Kind) (es : List Element) (us : List (List Use)) (rows : List Row) → ks ≡ kinds_of (design_data d) → es ≡ d.elements
      → AreUsages ks es us → length rows ≡ length us
      → ((a : ℕ) (row : Row) → slice_get rows a ≡ Some row → (w : Relation) → AreMarksOf w ks us a (marks_in w row))
      → AreRows (design_scheme (design_data d)) (length d.elements) rows
  design_rows ks es us rows kinds elements are long each = subst (λ xs. AreRows (design_scheme (design_data d)) (length xs) rows) elements
      (rows_are (design_scheme (design_data d)) ks es
      (subst (λ k. IsSchemeOf (design_scheme (design_data d)) k es) (sym kinds) (subst (IsSchemeOf (design_scheme (design_data d)) (kinds_of (design_data d))) (sym elements) scheme))
      us are rows long each)

  -- the rows of all elements by what they use are those of the design
  pub between_rows : {W E : Type 0} (items : W → List Row) (found : Result W E) (ks : List Kind) (es : List Element) (us : List (List Use)) (n : ℕ)
      → ks ≡ kinds_of (design_data d) → es ≡ d.elements → AreUsages ks es us → n ≡ length us → IfOk found (λ w. AreRowsBetween ks us 0 n (items w))
      → IfOk found (λ w. AreRows (design_scheme (design_data d)) (length d.elements) (items w))
  between_rows items (Err e) ks es us n kinds elements are long h = h
  between_rows items (Ok w) ks es us n kinds elements are long h =
      let same : (a : ℕ) → 0 + a ≡ a = λ a. omega arith in
      design_rows ks es us (items w) kinds elements are (omega (arith, h.count, long))
      (λ a row is v. subst (λ k. AreMarksOf v ks us k (marks_in v row)) (same a) (h.each a row is v))

  -- so are those of blocks that were made, one block after the other
  pub block_rows : {V W E F : Type 0} (of : V → List Row) (items : W → List Row) (found : Result W F) (ks : List Kind) (es : List Element) (us : List (List Use))
      (made : List (Result V E)) (blocks : List V) → ks ≡ kinds_of (design_data d) → es ≡ d.elements → AreUsages ks es us
      → length made ≡ block_count (length us)
      → ((k : ℕ) (r : Result V E) → k < length made → IfOk (slice_index_or made k r) (λ v. AreRowsOfBlock ks us k (of v)))
      → made ≡ map Ok blocks → IfOk found (λ w. items w ≡ flat_map of blocks)
      → IfOk found (λ w. AreRows (design_scheme (design_data d)) (length d.elements) (items w))
  block_rows of items (Err e) ks es us made blocks kinds elements are long each taken h = h
  block_rows {F = F} of items (Ok w) ks es us made blocks kinds elements are long each taken h =
      let count : length blocks ≡ block_count (length us) = sym (length-map blocks Ok) ∙ (sym (ap length taken) ∙ long) in
      let rows = blocks_are_rows ks us of blocks count (of_made made blocks (λ k v. AreRowsOfBlock ks us k (of v)) taken each) in
      between_rows {E = F} items (Ok w) ks es us (length us) kinds elements are refl (subst (AreRowsBetween ks us 0 (length us)) (sym h) rows)

  module _ (rows : List Row) (are : AreRows (design_scheme (design_data d)) (length d.elements) rows) (t : Table) (side : side_of t ≡ length rows) where
    marks_of : (w : Relation) → ((a b : ℕ) → a < length rows → b < length rows → IsTrue (at t a b) ↔ IsTrue (mark_at w rows a b))
        → (a b : ℕ) → a < length d.elements → b < length d.elements
        → IsTrue (at t a b) ↔ Meets w (design_scheme (design_data d)).kinds ((design_scheme (design_data d)).uses a) ((design_scheme (design_data d)).uses b)
    marks_of w marks a b la lb =
        let m = marks a b (subst (λ k. a < k) (sym are.count) la) (subst (λ k. b < k) (sym are.count) lb) in
        let n = mark_met (design_scheme (design_data d)) (length d.elements) rows are w a b la lb in (
          λ h. n.0 (m.0 h),
          λ h. m.1 (n.1 h),
        )

    within : (a : ℕ) (x : Target) → Among ((design_scheme (design_data d)).uses a) x → a < length d.elements
    within = uses_within (design_scheme (design_data d)) (kinds_of (design_data d)) d.elements scheme

    pub clashes_are : ((a b : ℕ) → a < length rows → b < length rows → IsTrue (at t a b) ↔ IsTrue (mark_at relation.Clashes rows a b))
        → (a b : ℕ) → not (marked t a b) ≡ goes (design_scheme (design_data d)) a b
    clashes_are marks a b = goes_is (design_scheme (design_data d)) a b (marked t a b)
        (marked_meets (design_scheme (design_data d)) (length d.elements) within relation.Clashes t (side ∙ are.count) (marks_of relation.Clashes marks) a b)
        (meets_marked (design_scheme (design_data d)) (length d.elements) within relation.Clashes t (side ∙ are.count) (marks_of relation.Clashes marks) a b)

    pub feeds_are : ((a b : ℕ) → a < length rows → b < length rows → IsTrue (at t a b) ↔ IsTrue (mark_at relation.Feeds rows a b))
        → (a b : ℕ) → marked t a b ≡ feeds (design_scheme (design_data d)) a b
    feeds_are marks a b = feeds_is (design_scheme (design_data d)) a b (marked t a b)
        (marked_meets (design_scheme (design_data d)) (length d.elements) within relation.Feeds t (side ∙ are.count) (marks_of relation.Feeds marks) a b)
        (meets_marked (design_scheme (design_data d)) (length d.elements) within relation.Feeds t (side ∙ are.count) (marks_of relation.Feeds marks) a b)

-- ---- edges look below the count alone

pub filter_same : (f g : ℕ → Bool) (xs : List ℕ) → ((x : ℕ) → In xs x → f x ≡ g x) → filter f xs ≡ filter g xs
filter_same f g [] h = refl
filter_same f g (x ∷ xs) h = ap (λ t. if t then x ∷ filter f xs else filter f xs) (h x (inl refl))
    ∙ ap (λ ys. if g x then x ∷ ys else ys) (filter_same f g xs (λ y k. h y (inr k)))

rows_same : (n : ℕ) (f g : ℕ → ℕ → Bool) (xs : List ℕ) → ((a b : ℕ) → In xs a → b < n → f a b ≡ g a b) → flat_map (edges_from f n) xs ≡ flat_map (edges_from g n) xs
rows_same n f g [] h = refl
rows_same n f g (x ∷ xs) h =
    ap (λ ys. ys ++ flat_map (edges_from f n) xs) (ap (map (λ b. record { from = x; to = b })) (filter_same (f x) (g x) (numbers_below n) (λ b k. h x b (inl refl) (in_below n b k))))
    ∙ ap (λ ys. edges_from g n x ++ ys) (rows_same n f g xs (λ a b k l. h a b (inr k) l))

pub where_same : (n : ℕ) (f g : ℕ → ℕ → Bool) → ((a b : ℕ) → a < n → b < n → f a b ≡ g a b) → edges_where n f ≡ edges_where n g
where_same n f g h = rows_same n f g (numbers_below n) (λ a b k l. h a b (in_below n a k) l)

pub at_marked : (t : Table) (a b : ℕ) → a < side_of t → b < side_of t → at t a b ≡ marked t a b
at_marked t a b h k = ap (λ x. x && at t a b) (sym (and_from (nat_lt a (side_of t)) (nat_lt b (side_of t)) (lt-ltb a (side_of t) h) (lt-ltb b (side_of t) k)))

feeds_same : (r : Relations) → edges_where (side_of r.feeds) (at r.feeds) ≡ feed_edges (relating_of r)
unfolding relating_of
feeds_same r =
    ap (λ n. edges_where n (at r.feeds)) r.feeds_side
    ∙ where_same (length r.roles) (at r.feeds) (marked r.feeds) (λ a b k l. at_marked r.feeds a b (subst (λ n. a < n) (sym r.feeds_side) k) (subst (λ n. b < n) (sym r.feeds_side) l))

pub feeds_edges : (r : Relations) (found : Result Graph OutOfMemory) → IfOk found (λ g. IsGraphOf (edges_where (side_of r.feeds) (at r.feeds)) g)
    → IfOk found (λ g. IsGraphOf (feed_edges (relating_of r)) g)
feeds_edges r (Err e) h = h
feeds_edges r (Ok g) h = subst (λ es. IsGraphOf es g) (feeds_same r) h

pub feeds_size : (r : Relations) (found : Result Graph OutOfMemory) → IfOk found (λ g. size_of g ≡ side_of r.feeds)
    → IfOk found (λ g. size_of g ≡ (relating_of r).count)
unfolding relating_of
feeds_size r (Err e) h = h
feeds_size r (Ok g) h = h ∙ r.feeds_side
