-- The whole tree: its top, and what the body of the top makes.
use Rattle.std.proofs.Common.{◌≡◌, ◌∙◌, ℕ, ◌+◌, true, ◌&&◌, List, [], ◌∷◌, ◌++◌, map, length, Ok, refl, sym, ap, subst, arith}
use Rattle.std.specs.Prelude.{nat_lt, slice_get}
use Rattle.std.specs.List.{list_all}
use Rattle.std.proofs.lemmas.Bool.{and_parts}
use Rattle.bsv_lemmas.proofs.Choices.{same_ok, passed}
use Rattle.bsv_types.specs.declared.typed.Typed.{Typed}
use Rattle.bsv_types.specs.Modules.{header, module_right}
use Rattle.bsv_types.specs.Programs.{all_countable, names_right, shapes_right, each_at, function_right}
use Rattle.bsv_tree.specs.declared.tree.Instance.{Instance}
use Rattle.bsv_tree.specs.declared.tree.Made.TheVariants as made
use Rattle.bsv_tree.specs.declared.values.Fault.TheVariants as fault
use Rattle.bsv_tree.specs.tree.Trees.{TreeData, shapes, world, rule_count}
use Rattle.bsv_elab.specs.declared.refused.Refused.TheVariants as refused
use Rattle.bsv_elab.specs.declared.state.Done.{Done}
use Rattle.bsv_elab.specs.Statics.{Here, put_at}
use Rattle.bsv_elab.specs.Making.{instance, unbuilt, inner}
use Rattle.bsv_elab.specs.Elements.{most_elements, here_module, methods_of}
use Rattle.bsv_elab.specs.Building.{body_at, most_modules, top_from, first_rule, first_rule_in, outside, top_alone, methods_from, tree, from_top, carried_out, building}
use Rattle.bsv_elab.proofs.NamedGroups.{BuiltNamed, Group}
use Rattle.bsv_elab.proofs.NamedMakes.{MarksWithin}
use Rattle.bsv_elab.proofs.NamedMaking.{BodyMade, put_there}
use Rattle.bsv_elab.proofs.NamedBodies.{body_at_good}
use Rattle.bsv_elab.proofs.PlacedCounts.{occurs, occurs_in, Fills, fills_same}
use Rattle.bsv_elab.proofs.FittingSteps.{went}

pub modules_right : (t : Typed) → list_all (module_right (world t) (map header t.modules)) t.modules ≡ true
modules_right t = (and_parts
    (all_countable t.enums t.structs t.interfaces t.functions t.modules && names_right t.enums t.structs t.interfaces t.functions t.modules &&
    shapes_right (shapes t) && each_at (function_right (shapes t) t.functions) 0 t.functions)
    (list_all (module_right (world t) (map header t.modules)) t.modules) t.right).1

first_rule_is : (n first : ℕ) → first_rule n ≡ Ok first → first ≡ n
unfolding first_rule
first_rule_is n first e = sym (same_ok n first (passed (nat_lt (n + most_elements) 4294967296) (Ok n) (refused.Carried fault.Weight) first e).1)

abbrev top_here : Typed → ℕ → ℕ → Here
top_here t number first = inner (outside t number first) number []

-- what was built, and how
pub record Whole (t : Typed) (h : TreeData) : Type 0 where
  pub number : ℕ
  pub first : ℕ
  pub done : Done
  pub weight : ℕ
  pub is : tree t number done weight ≡ h
  pub first_is : first ≡ length (methods_of (slice_get t.modules number))
  pub body : BodyMade t.modules (top_here t number first) [] (top_alone number) done

-- the tree by its parts
tree_is : (t : Typed) (n : ℕ) (d : Done) (weight : ℕ) (q : Done × ℕ) (r : ℕ × Done × ℕ) (h : TreeData) → (d, weight) ≡ q → (n, q.0, q.1) ≡ r
    → tree t r.0 r.1 r.2 ≡ h → tree t n d weight ≡ h
tree_is t n d weight q r h e f g = ap (λ (z : Done × ℕ). tree t n z.0 z.1) e ∙ ap (λ (z : ℕ × Done × ℕ). tree t z.0 z.1 z.2) f ∙ g

pub whole : (t : Typed) (name : List ℕ) (h : TreeData) → building t name ≡ Ok h → Whole t h
unfolding building
whole t name h e =
    let r = went (carried_out t name) _ h e in
    let n = went (top_from 0 name t.modules) _ r.0 r.1 in
    let f = went (first_rule_in t n.0) _ r.0 n.2 in
    let q = went (from_top (body_at most_modules) (outside t n.0 f.0)) _ r.0 f.2 in
    let b = went (body_at most_modules (top_here t n.0 f.0) [] (top_alone n.0)) _ q.0 q.1 in
    let w = went (methods_from (outside t n.0 f.0) b.0 b.0.grown.weight 0 (methods_of (here_module (outside t n.0 f.0)))) _ q.0 b.2 in
    record {
      number = n.0;
      first = f.0;
      done = b.0;
      weight = w.0;
      is = tree_is t n.0 b.0 w.0 q.0 r.0 h (same_ok (b.0, w.0) q.0 w.2) (same_ok (n.0, q.0.0, q.0.1) r.0 q.2) (same_ok (tree t r.0.0 r.0.1 r.0.2) h r.2);
      first_is = first_rule_is (length (methods_of (slice_get t.modules n.0))) f.0 f.1;
      body = body_at_good t.modules (world t) (map header t.modules) (modules_right t) most_modules (top_here t n.0 f.0) [] []
          (top_alone n.0) b.0 refl refl refl refl b.1;
    }

-- ---- the top and the others

abbrev pub top_of : Done → Instance
top_of d = instance [] (made.Module d.built)

pub record Parts (t : Typed) (number first : ℕ) (d : Done) : Type 0 where
  pub more : List Instance
  pub taken : List (List ℕ)
  pub instances_are : put_at 0 (top_of d) d.grown.instances ≡ top_of d ∷ more
  pub group : Group t.modules [] ([] ++ d.built.«module» ∷ []) [] taken more
  pub named : BuiltNamed t.modules d.built
  pub positions : Fills first (first + rule_count (top_of d ∷ more)) (λ p. occurs_in p (top_of d ∷ more))
  pub marks : MarksWithin first (first + rule_count (top_of d ∷ more)) d.marks
  pub number_is : d.built.«module» ≡ number

pub parts : (t : Typed) (number first : ℕ) (d : Done) → BodyMade t.modules (top_here t number first) [] (top_alone number) d → Parts t number first d
parts t number first d b =
    let w = b.makes in
    let rules_are : d.built.rules ≡ w.rules = b.rules ∙ w.rules_are in
    let count : b.last.count ≡ rule_count (top_of d ∷ w.more) = omega (arith, w.many, ap length rules_are) in
    record {
      more = w.more;
      taken = b.last.names;
      instances_are =
          ap (λ z. put_at 0 (top_of d) z) (b.instances ∙ w.instances_are) ∙ put_there [] w.more (instance [] (unbuilt number)) (top_of d) 0 refl;
      group = subst (λ (z : ℕ). Group t.modules [] ([] ++ z ∷ []) [] b.last.names w.more) (sym b.number) w.group;
      named = b.named;
      positions = fills_same (first + 0) (first + b.last.count) first (first + rule_count (top_of d ∷ w.more))
          (λ p. occurs p w.rules + occurs_in p w.more) (λ p. occurs_in p (top_of d ∷ w.more))
          (omega arith) (ap (λ z. first + z) count) w.positions (λ p. let same = ap (occurs p) rules_are in omega (arith, same));
      marks = subst (λ z. MarksWithin first (first + z) d.marks) count b.marks;
      number_is = b.number;
    }
