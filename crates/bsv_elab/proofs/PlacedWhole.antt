-- The rules of a tree have positions of their own after the methods of the top, and attributes name them.
use Rattle.std.proofs.Common.{◌≡◌, ◌∙◌, ℕ, ◌+◌, ◌≤◌, ◌<◌, List, [], ◌∷◌, length, Some, Ok, refl, sym, ap, subst, arith}
use Rattle.std.specs.Prelude.{slice_get}
use Rattle.std.proofs.lemmas.Option.{same_Some}
use Rattle.bsv_types.specs.declared.typed.Typed.{Typed}
use Rattle.bsv_design.specs.declared.attributes.Assert.{Assert}
use Rattle.bsv_tree.specs.declared.tree.Built.{Built}
use Rattle.bsv_tree.specs.declared.tree.BuiltRule.{BuiltRule}
use Rattle.bsv_tree.specs.declared.tree.Instance.{Instance}
use Rattle.bsv_tree.specs.declared.tree.Made.{Made}
use Rattle.bsv_tree.specs.declared.tree.Made.TheVariants as made
use Rattle.bsv_design.specs.declared.attributes.Pair.{Pair}
use Rattle.bsv_tree.specs.tree.Contexts.{made_of}
use Rattle.bsv_tree.specs.tree.Trees.{TreeData, HasRule, methods_of, rule_count, ArePlaced, IsRule, PairsNameRules, AssertsNameRules}
use Rattle.bsv_elab.specs.Building.{building}
use Rattle.bsv_elab.proofs.NamedMakes.{Within, PairsWithin, AssertsWithin}
use Rattle.bsv_elab.proofs.NamedTop.{whole, parts}
use Rattle.bsv_elab.proofs.NamedWhole.{ModuleThere, module_there}
use Rattle.bsv_elab.proofs.PlacedCounts.{occurs, at_made, occurs_in, Fills, at_most, is_of, rule_counts, one_rule, made_counts, one_made, rule_found, MadeAt, made_found}

-- ---- where a rule of the position stands

record Counted (is : List Instance) (r : BuiltRule) (p : ℕ) (a : HasRule is r) : Type 0 where
  there : ModuleThere is a.instance a.built
  counts : 1 ≤ at_made p there.instance.made

counted : (is : List Instance) (r : BuiltRule) (p : ℕ) (a : HasRule is r) → r.position ≡ p → Counted is r p a
counted is r p a same =
    let m = module_there is a.instance a.built a.at in
    let c = rule_counts p a.built.rules a.place r a.has same in
    record { there = m; counts = subst (λ (z : Made). 1 ≤ at_made p z) (sym m.made_is) c }

module _ (is : List Instance) (low high : ℕ) (fills : Fills low high (λ p. occurs_in p is)) where
  of_these : (r : BuiltRule) → HasRule is r → (low ≤ r.position) × (r.position < high)
  of_these r a =
      let c = counted is r r.position a refl in
      let k = c.counts in
      is_of low high (λ p. occurs_in p is) fills r.position (omega (arith, k, made_counts r.position is a.instance c.there.instance c.there.at))

  alone_there : (r s : BuiltRule) (a : HasRule is r) (b : HasRule is s) → r.position ≡ s.position → (a.instance ≡ b.instance) × (a.place ≡ b.place)
  alone_there r s a b same =
      let c = counted is r r.position a refl in
      let d = counted is s r.position b (sym same) in
      let most = at_most low high (λ p. occurs_in p is) fills r.position in
      let m = c.there in
      let n = d.there in
      let number = one_made r.position is a.instance b.instance m.instance n.instance most m.at n.at c.counts d.counts in
      let one : m.instance ≡ n.instance = same_Some m.instance n.instance (sym m.at ∙ ap (slice_get is) number ∙ n.at) in
      let made_same = sym m.made_is ∙ ap (λ (z : Instance). z.made) one ∙ n.made_is in
      let built_same : a.built ≡ b.built = cc in
      let few : occurs r.position a.built.rules ≤ 1 = omega (
        arith,
        subst (λ (z : Made). at_made r.position z ≤ occurs_in r.position is) m.made_is
            (made_counts r.position is a.instance m.instance m.at),
        most,
      ) in (
        number,
        one_rule r.position a.built.rules a.place b.place r s few a.has
            (ap (λ (z : Built). slice_get z.rules b.place) built_same ∙ b.has) refl (sym same),
      )

  rule_there : (p : ℕ) → Within low high p → IsRule is p
  rule_there p w =
      let one = fills.within p w.above w.below in
      let m = made_found p is (omega (arith, one)) in
      by m m.instance.made refl where
        by : (m : MadeAt p is) (x : Made) → m.instance.made ≡ x → IsRule is p
        by m (made.Primitive q k) same = let c = subst (λ (z : Made). 1 ≤ at_made p z) same m.counts in absurd (omega (arith, c))
        by m (made.Module b) same =
            let c = subst (λ (z : Made). 1 ≤ at_made p z) same m.counts in
            let r = rule_found p b.rules c in
            record {
              rule = r.rule;
              has = record
                  { instance = m.number; built = b; at = ap made_of m.has ∙ ap Some same; place = r.place; has = r.has };
              at = r.at;
            }

  pairs_there : (ps : List Pair) → PairsWithin low high ps → PairsNameRules is ps
  pairs_there [] h = tt
  pairs_there (p ∷ ps) h = (rule_there p.before h.0, rule_there p.after h.1, pairs_there ps h.2)

  asserts_there : (xs : List Assert) → AssertsWithin low high xs → AssertsNameRules is xs
  asserts_there [] h = tt
  asserts_there (a ∷ xs) h = (rule_there a.rule h.0, asserts_there xs h.1)

-- ---- of what is built

-- what the tree's instances and marks are
pub record Line (t : Typed) (h : TreeData) : Type 0 where
  pub first : ℕ
  pub first_is : first ≡ length (methods_of (slice_get h.typed.modules h.top))
  pub fills : Fills first (first + rule_count h.instances) (λ p. occurs_in p h.instances)
  pub pairs : PairsWithin first (first + rule_count h.instances) h.pairs
  pub asserts : AssertsWithin first (first + rule_count h.instances) h.asserts

pub lined : (t : Typed) (name : List ℕ) (h : TreeData) → building t name ≡ Ok h → Line t h
lined t name h e =
    let w = whole t name h e in
    let p = parts t w.number w.first w.done w.body in
    let line = sym p.instances_are in
    let marks = p.marks in
    subst (Line t) w.is (record {
      first = w.first;
      first_is = w.first_is;
      fills = subst (λ (is : List Instance). Fills w.first (w.first + rule_count is) (λ p. occurs_in p is)) line p.positions;
      pairs = subst (λ (is : List Instance). PairsWithin w.first (w.first + rule_count is) w.done.marks.pairs) line marks.pairs;
      asserts = subst (λ (is : List Instance). AssertsWithin w.first (w.first + rule_count is) w.done.marks.asserts) line marks.asserts;
    })

pub placed : (t : Typed) (name : List ℕ) (h : TreeData) → building t name ≡ Ok h
    → ArePlaced (length (methods_of (slice_get h.typed.modules h.top))) h.instances
placed t name h e =
    let l = lined t name h e in
    subst (λ n. ArePlaced n h.instances) l.first_is (record {
      behind = λ r a. (of_these h.instances l.first (l.first + rule_count h.instances) l.fills r a).0;
      within = λ r a. (of_these h.instances l.first (l.first + rule_count h.instances) l.fills r a).1;
      alone = alone_there h.instances l.first (l.first + rule_count h.instances) l.fills;
    })

pub pairs : (t : Typed) (name : List ℕ) (h : TreeData) → building t name ≡ Ok h → PairsNameRules h.instances h.pairs
pairs t name h e = let l = lined t name h e in pairs_there h.instances l.first (l.first + rule_count h.instances) l.fills h.pairs l.pairs

pub asserts : (t : Typed) (name : List ℕ) (h : TreeData) → building t name ≡ Ok h → AssertsNameRules h.instances h.asserts
asserts t name h e = let l = lined t name h e in asserts_there h.instances l.first (l.first + rule_count h.instances) l.fills h.asserts l.asserts
