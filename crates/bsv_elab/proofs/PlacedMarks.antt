-- Attributes name positions of the rules of their module instance.
use Rattle.std.proofs.Common.{◌≡◌, ℕ, suc, Bool, true, false, ◌⊎◌, inl, inr, List, [], ◌∷◌, ◌++◌, Some, Ok, refl, subst}
use Rattle.std.specs.Prelude.{slice_get}
use Rattle.std.specs.List.{list_all}
use Rattle.std.specs.Str.{bytes_eq}
use Rattle.std.proofs.lemmas.Bool.{and_parts}
use Rattle.bsv_lemmas.proofs.Choices.{same_ok}
use Rattle.bsv_types.specs.declared.attributes.Attribute.{Attribute as Asked}
use Rattle.bsv_types.specs.declared.attributes.Attribute.TheVariants as asked
use Rattle.bsv_types.specs.declared.modules.Module.{Module}
use Rattle.bsv_types.specs.declared.modules.Rule.{Rule}
use Rattle.bsv_types.specs.Names.{of_module}
use Rattle.bsv_design.specs.declared.attributes.Attribute.{Attribute}
use Rattle.bsv_design.specs.declared.attributes.Attribute.TheVariants as attribute
use Rattle.bsv_tree.specs.declared.tree.BuiltRule.{BuiltRule}
use Rattle.bsv_elab.specs.declared.state.Marks.{Marks}
use Rattle.bsv_elab.specs.Attributes.{position_of, positions_from, positions, side_by_side, listed, with_each, each_with_each, with_pairs, with_assert, with_list, marked, marked_all, attributes_of, marked_rules, no_marks, marks_of}
use Rattle.bsv_elab.proofs.NamedLists.{chosen}
use Rattle.bsv_elab.proofs.NamedMakes.{Within, PairsWithin, MarksWithin, pairs_both, asserts_both}
use Rattle.bsv_elab.proofs.FittingSteps.{went}

module _ (low high : ℕ) where
  abbrev pub RulesWithin : List BuiltRule → Type 0
  RulesWithin [] = Unit {0}
  RulesWithin (r ∷ rs) = Within low high r.position × RulesWithin rs

  pub rules_within : (rs : List BuiltRule) → ((k : ℕ) (r : BuiltRule) → slice_get rs k ≡ Some r → Within low high r.position) → RulesWithin rs
  rules_within [] h = tt
  rules_within (r ∷ rs) h = (h 0 r refl, rules_within rs (λ k q e. h (suc k) q e))

  abbrev AllWithin : List ℕ → Type 0
  AllWithin [] = Unit {0}
  AllWithin (p ∷ ps) = Within low high p × AllWithin ps

  within_both : (ps qs : List ℕ) → AllWithin ps → AllWithin qs → AllWithin (ps ++ qs)
  within_both [] qs h g = g
  within_both (p ∷ ps) qs h g = (h.0, within_both ps qs h.1 g)

  position_within : (a : Attribute) (rs : List BuiltRule) (name : List ℕ) (p : ℕ) → RulesWithin rs
      → position_of a rs name ≡ Ok p → Within low high p
  position_within a [] name p h e = absurd cc
  position_within a (r ∷ rs) name p h e =
      chosen (bytes_eq r.name name) (Ok r.position) (position_of a rs name) p (Within low high p)
      (λ f. subst (Within low high) (same_ok r.position p f) h.0) (λ f. position_within a rs name p h.1 f) e

  positions_from_within : (a : Attribute) (rs : List BuiltRule) (found : List ℕ) (names : List (List ℕ)) (ps : List ℕ) → RulesWithin rs
      → AllWithin found → positions_from a rs found names ≡ Ok ps → AllWithin ps
  positions_from_within a rs found [] ps h g e = subst AllWithin (same_ok found ps e) g
  positions_from_within a rs found (n ∷ ns) ps h g e =
      let q = went (position_of a rs n) _ ps e in
      positions_from_within a rs (found ++ q.0 ∷ []) ns ps h (within_both found (q.0 ∷ []) g (position_within a rs n q.0 h q.1, tt)) q.2

  positions_within : (a : Attribute) (rs : List BuiltRule) (names : List (List ℕ)) (ps : List ℕ) → RulesWithin rs
      → positions a rs names ≡ Ok ps → AllWithin ps
  unfolding positions
  positions_within a rs names ps h e = positions_from_within a rs [] names ps h tt e

  side_within : (a : Attribute) (before : ℕ) (ps : List ℕ) → Within low high before → AllWithin ps → PairsWithin low high (side_by_side a before ps)
  side_within a before [] h g = tt
  side_within a before (p ∷ ps) h g = (h, g.0, side_within a p ps g.0 g.1)

  listed_within : (a : Attribute) (ps : List ℕ) → AllWithin ps → PairsWithin low high (listed a ps)
  listed_within a [] h = tt
  listed_within a (p ∷ ps) h = side_within a p ps h.0 h.1

  each_within : (left : ℕ) (rights : List ℕ) → Within low high left → AllWithin rights → PairsWithin low high (with_each left rights)
  each_within left [] h g = tt
  each_within left (p ∷ ps) h g = (h, g.0, each_within left ps h g.1)

  all_within : (lefts rights : List ℕ) → AllWithin lefts → AllWithin rights → PairsWithin low high (each_with_each lefts rights)
  all_within [] rights h g = tt
  all_within (l ∷ ls) rights h g =
      pairs_both low high (with_each l rights) (each_with_each ls rights) (each_within l rights h.0 g) (all_within ls rights h.1 g)

  list_within : (a : Attribute) (rs : List BuiltRule) (m n : Marks) (names : List (List ℕ)) → RulesWithin rs → MarksWithin low high m
      → with_list a rs m names ≡ Ok n → MarksWithin low high n
  list_within a rs m n names h g e =
      let ps = went (positions a rs names) _ n e in
      subst (MarksWithin low high) (same_ok (with_pairs m (listed a ps.0)) n ps.2)
      (record {
        pairs = pairs_both low high m.pairs (listed a ps.0) g.pairs
            (listed_within a ps.0 (positions_within a rs names ps.0 h ps.1));
        asserts = g.asserts;
      })

  assert_within : (rule : ℕ) (fires : Bool) (m n : Marks) → Within low high rule → MarksWithin low high m
      → with_assert m rule fires ≡ n → MarksWithin low high n
  assert_within rule fires m n h g is =
      subst (MarksWithin low high) is (record {
        pairs = g.pairs;
        asserts = asserts_both low high m.asserts
            (record { rule = rule; fires = fires } ∷ []) g.asserts (h, tt);
      })

  marked_within : (a : Asked) (rs : List BuiltRule) (rule : ℕ) (m n : Marks) → RulesWithin rs → Within low high rule ⊎ (of_module a ≡ true)
      → MarksWithin low high m → marked rs rule m a ≡ Ok n → MarksWithin low high n
  marked_within asked.Synthesize rs rule m n h w g e = subst (MarksWithin low high) (same_ok m n e) g
  marked_within (asked.DescendingUrgency names) rs rule m n h w g e = list_within attribute.DescendingUrgency rs m n names h g e
  marked_within (asked.ExecutionOrder names) rs rule m n h w g e = list_within attribute.ExecutionOrder rs m n names h g e
  marked_within (asked.Preempts lefts rights) rs rule m n h w g e =
      let ls = went (positions attribute.Preempts rs lefts) _ n e in
      let qs = went (positions attribute.Preempts rs rights) _ n ls.2 in
      subst (MarksWithin low high) (same_ok (with_pairs m (each_with_each ls.0 qs.0)) n qs.2) (record {
        pairs = pairs_both low high m.pairs (each_with_each ls.0 qs.0) g.pairs
            (all_within ls.0 qs.0 (positions_within attribute.Preempts rs lefts ls.0 h ls.1)
            (positions_within attribute.Preempts rs rights qs.0 h qs.1));
        asserts = g.asserts;
      })
  marked_within asked.FireWhenEnabled rs rule m n h (inl w) g e = assert_within rule true m n w g (same_ok (with_assert m rule true) n e)
  marked_within asked.FireWhenEnabled rs rule m n h (inr w) g e = absurd cc
  marked_within asked.NoImplicitConditions rs rule m n h (inl w) g e = assert_within rule false m n w g (same_ok (with_assert m rule false) n e)
  marked_within asked.NoImplicitConditions rs rule m n h (inr w) g e = absurd cc

  own_all_within : (given : List Asked) (rs : List BuiltRule) (rule : ℕ) (m n : Marks) → RulesWithin rs → list_all of_module given ≡ true
      → MarksWithin low high m → marked_all rs rule m given ≡ Ok n → MarksWithin low high n
  unfolding marked_all
  own_all_within [] rs rule m n h w g e = subst (MarksWithin low high) (same_ok m n e) g
  own_all_within (a ∷ more) rs rule m n h w g e =
      let q = went (marked rs rule m a) _ n e in
      let p = and_parts (of_module a) (list_all of_module more) w in
      own_all_within more rs rule q.0 n h p.1 (marked_within a rs rule m q.0 h (inr p.0) g q.1) q.2

  rule_all_within : (given : List Asked) (rs : List BuiltRule) (rule : ℕ) (m n : Marks) → RulesWithin rs → Within low high rule
      → MarksWithin low high m → marked_all rs rule m given ≡ Ok n → MarksWithin low high n
  unfolding marked_all
  rule_all_within [] rs rule m n h w g e = subst (MarksWithin low high) (same_ok m n e) g
  rule_all_within (a ∷ more) rs rule m n h w g e =
      let q = went (marked rs rule m a) _ n e in
      rule_all_within more rs rule q.0 n h w (marked_within a rs rule m q.0 h (inl w) g q.1) q.2

  marked_rules_within : (sources : List Rule) (rs left : List BuiltRule) (m n : Marks) → RulesWithin rs → RulesWithin left → MarksWithin low high m
      → marked_rules sources rs m left ≡ Ok n → MarksWithin low high n
  unfolding marked_rules
  marked_rules_within sources rs [] m n h w g e = subst (MarksWithin low high) (same_ok m n e) g
  marked_rules_within sources rs (r ∷ left) m n h w g e =
      let q = went (marked_all rs r.position m (attributes_of (slice_get sources r.rule))) _ n e in
      marked_rules_within sources rs left q.0 n h w.1
      (rule_all_within (attributes_of (slice_get sources r.rule)) rs r.position m q.0 h w.0 g q.1) q.2

  pub marks_of_within : (m : Module) (rs : List BuiltRule) (n : Marks) → RulesWithin rs → list_all of_module m.attributes ≡ true
      → marks_of m rs ≡ Ok n → MarksWithin low high n
  unfolding marks_of
  marks_of_within m rs n h w e =
      let q = went (marked_all rs 0 no_marks m.attributes) _ n e in
      let own = own_all_within m.attributes rs 0 no_marks q.0 h w (record { pairs = tt; asserts = tt }) q.1 in
      marked_rules_within m.rules rs rs q.0 n h h own q.2
