-- What a part of building makes, from the state before it to the state after it: instances with names of their own,
-- rules with names and positions of their own, and attributes of rules that were made.
use Rattle.std.proofs.Common.{◌≡◌, ◌∙◌, ℕ, ◌+◌, ◌<◌, ◌≤◌, true, List, [], ◌∷◌, ◌++◌, ◌&&◌, length, Ok, refl, sym, ap, arith}
use Rattle.std.specs.List.{list_all}
use Rattle.std.proofs.lemmas.List.{append-nil, append_assoc, length-append}
use Rattle.std.proofs.lemmas.List.Folds.{list_all-append}
use Rattle.std.proofs.lemmas.Bool.{and_from}
use Rattle.bsv_ast.specs.Names.{is_lower}
use Rattle.bsv_types.specs.declared.modules.Module.{Module}
use Rattle.bsv_tree.specs.declared.statics.Binding.{Binding}
use Rattle.bsv_design.specs.declared.attributes.Assert.{Assert}
use Rattle.bsv_tree.specs.declared.tree.BuiltRule.{BuiltRule}
use Rattle.bsv_tree.specs.declared.tree.Instance.{Instance}
use Rattle.bsv_design.specs.declared.attributes.Pair.{Pair}
use Rattle.bsv_tree.specs.tree.Trees.{rule_count}
use Rattle.bsv_elab.specs.declared.state.Marks.{Marks}
use Rattle.bsv_elab.specs.declared.state.State.{State}
use Rattle.bsv_elab.specs.Statics.{Here, Builds}
use Rattle.bsv_elab.specs.Attributes.{both}
use Rattle.bsv_elab.proofs.NamedLists.{Longer, longer_none, longer_both}
use Rattle.bsv_elab.proofs.NamedGroups.{Group, group_none, group_both}
use Rattle.bsv_elab.proofs.NamedRules.{NewRules, rules_none, rules_both}
use Rattle.bsv_elab.proofs.PlacedCounts.{occurs, occurs_in, occurs_both, occurs_in_both, count_both, Fills, fills_none, fills_both}

-- ---- attributes of rules that were made

pub record Within (low high p : ℕ) : Type 0 where
  pub above : low ≤ p
  pub below : p < high

abbrev pub PairsWithin : ℕ → ℕ → List Pair → Type 0
PairsWithin low high [] = Unit {0}
PairsWithin low high (p ∷ ps) = Within low high p.before × Within low high p.after × PairsWithin low high ps

abbrev pub AssertsWithin : ℕ → ℕ → List Assert → Type 0
AssertsWithin low high [] = Unit {0}
AssertsWithin low high (a ∷ others) = Within low high a.rule × AssertsWithin low high others

pub record MarksWithin (low high : ℕ) (m : Marks) : Type 0 where
  pub pairs : PairsWithin low high m.pairs
  pub asserts : AssertsWithin low high m.asserts

within_more : (low high more p : ℕ) → high ≤ more → Within low high p → Within low more p
within_more low high more p le h = record { above = h.above; below = omega (arith, h.below) }

pairs_more : (low high more : ℕ) (ps : List Pair) → high ≤ more → PairsWithin low high ps → PairsWithin low more ps
pairs_more low high more [] le h = tt
pairs_more low high more (p ∷ ps) le h =
    (within_more low high more p.before le h.0, within_more low high more p.after le h.1, pairs_more low high more ps le h.2)

asserts_more : (low high more : ℕ) (xs : List Assert) → high ≤ more → AssertsWithin low high xs → AssertsWithin low more xs
asserts_more low high more [] le h = tt
asserts_more low high more (a ∷ others) le h = (within_more low high more a.rule le h.0, asserts_more low high more others le h.1)

pub marks_more : (low high more : ℕ) (m : Marks) → high ≤ more → MarksWithin low high m → MarksWithin low more m
marks_more low high more m le h =
    record { pairs = pairs_more low high more m.pairs le h.pairs; asserts = asserts_more low high more m.asserts le h.asserts }

pub pairs_both : (low high : ℕ) (ps qs : List Pair) → PairsWithin low high ps → PairsWithin low high qs → PairsWithin low high (ps ++ qs)
pairs_both low high [] qs h g = g
pairs_both low high (p ∷ ps) qs h g = (h.0, h.1, pairs_both low high ps qs h.2 g)

pub asserts_both : (low high : ℕ) (xs ys : List Assert) → AssertsWithin low high xs → AssertsWithin low high ys → AssertsWithin low high (xs ++ ys)
asserts_both low high [] ys h g = g
asserts_both low high (x ∷ xs) ys h g = (h.0, asserts_both low high xs ys h.1 g)

pub marks_both : (low high : ℕ) (m n : Marks) → MarksWithin low high m → MarksWithin low high n → MarksWithin low high (both m n)
marks_both low high m n h g =
    record { pairs = pairs_both low high m.pairs n.pairs h.pairs g.pairs; asserts = asserts_both low high m.asserts n.asserts h.asserts g.asserts }

-- ---- what is looked at of a state

pub record Kept : Type 0 where
  pub instances : List Instance
  -- how many rules were made
  pub count : ℕ
  pub names : List (List ℕ)
  pub elements : List (List ℕ)
  pub rules : List BuiltRule
  pub marks : Marks

abbrev pub kept : State → Kept
kept s = record {
  instances = s.grown.instances;
  count = s.grown.rules;
  names = s.scope.instances.taken;
  elements = s.scope.elements.taken;
  rules = s.scope.rules;
  marks = s.scope.marks;
}

-- variables have Lower names
abbrev pub Lows : List Binding → Type 0
Lows bs = list_all (λ (b : Binding). is_lower b.name) bs ≡ true

pub lows_more : (bs : List Binding) (b : Binding) → Lows bs → is_lower b.name ≡ true → Lows (bs ++ b ∷ [])
lows_more bs b h is = list_all-append (λ (z : Binding). is_lower z.name) bs (b ∷ []) ∙ and_from (list_all (λ (z : Binding). is_lower z.name) bs)
    (is_lower b.name && true) h (and_from (is_lower b.name) true is refl)

module _ (ms : List Module) (here : Here) (base : List (List ℕ)) where
  pub record Makes (s z : Kept) : Type 0 where
    pub more : List Instance
    pub instances_are : z.instances ≡ s.instances ++ more
    pub names : Longer s.names z.names
    pub group : Group ms base here.around s.names z.names more
    pub elements : Longer s.elements z.elements
    pub rules : List BuiltRule
    pub rules_are : z.rules ≡ s.rules ++ rules
    pub named : NewRules s.elements z.elements rules
    pub many : s.count + (length rules + rule_count more) ≡ z.count
    pub positions : Fills (here.first + s.count) (here.first + z.count) (λ p. occurs p rules + occurs_in p more)
    pub marks : MarksWithin here.first (here.first + s.count) s.marks → MarksWithin here.first (here.first + z.count) z.marks

  pub makes_none : (s : Kept) → Makes s s
  makes_none s = record {
    more = [];
    instances_are = sym (append-nil s.instances);
    names = longer_none s.names;
    group = group_none ms base here.around s.names;
    elements = longer_none s.elements;
    rules = [];
    rules_are = sym (append-nil s.rules);
    named = rules_none s.elements s.elements;
    many = omega arith;
    positions = fills_none (here.first + s.count) (λ p. occurs p [] + occurs_in p []) (λ p. refl);
    marks = λ m. m;
  }

  pub makes_both : (s m z : Kept) → Makes s m → Makes m z → Makes s z
  makes_both s m z h g = record {
    more = h.more ++ g.more;
    instances_are = g.instances_are ∙ ap (λ is. is ++ g.more) h.instances_are ∙ append_assoc s.instances h.more g.more;
    names = longer_both s.names m.names z.names h.names g.names;
    group = group_both ms base here.around s.names m.names z.names h.more g.more h.names g.names h.group g.group;
    elements = longer_both s.elements m.elements z.elements h.elements g.elements;
    rules = h.rules ++ g.rules;
    rules_are = g.rules_are ∙ ap (λ rs. rs ++ g.rules) h.rules_are ∙ append_assoc s.rules h.rules g.rules;
    named = rules_both s.elements m.elements z.elements h.rules g.rules h.elements g.elements h.named g.named;
    many = omega (arith, h.many, g.many, length-append h.rules g.rules, count_both h.more g.more);
    positions = fills_both (here.first + s.count) (here.first + m.count) (here.first + z.count)
        (λ p. occurs p h.rules + occurs_in p h.more) (λ p. occurs p g.rules + occurs_in p g.more)
        (λ p. occurs p (h.rules ++ g.rules) + occurs_in p (h.more ++ g.more))
        (omega (arith, h.many)) (omega (arith, g.many)) h.positions g.positions
        (λ p. omega (arith, occurs_both p h.rules g.rules, occurs_in_both p h.more g.more));
    marks = λ k. g.marks (h.marks k);
  }

  -- from one state to the other, and the variables keep Lower names
  pub record Ran (s z : State) : Type 0 where
    pub makes : Makes (kept s) (kept z)
    pub lows : Lows z.scope.bindings

  abbrev pub Good : Builds → Type 0
  Good a = (s z : State) → Lows s.scope.bindings → a s ≡ Ok z → Ran s z

  pub ran_none : (s : State) → Lows s.scope.bindings → Ran s s
  ran_none s low = record { makes = makes_none (kept s); lows = low }

  pub ran_both : (s m z : State) → Ran s m → Ran m z → Ran s z
  ran_both s m z h g = record { makes = makes_both (kept s) (kept m) (kept z) h.makes g.makes; lows = g.lows }
