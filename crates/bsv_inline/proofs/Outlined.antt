-- Elements that stand for what was carried out of a tree, and what their names and positions keep.
use Rattle.std.specs.Prelude.{◌≡◌, ℕ, ◌≤◌, IsTrue, List, [], map, length, slice_get, Some}
use Rattle.bsv_ast.specs.Names.{is_lower}
use Rattle.bsv_types.specs.declared.modules.Module.{Module}
use Rattle.bsv_types.specs.Names.{lower_names}
use Rattle.bsv_design.specs.declared.design.NamedPart.{NamedPart}
use Rattle.bsv_design.specs.declared.element.Element.{Element}
use Rattle.bsv_design.specs.declared.element.Role.TheVariants as role
use Rattle.bsv_tree.specs.declared.source.Source.{Source}
use Rattle.bsv_design.specs.declared.attributes.Assert.{Assert}
use Rattle.bsv_design.specs.declared.attributes.Pair.{Pair}
use Rattle.bsv_design.specs.design.Designs.{IsDotted, IsNamed, IsRuleIn}
use Rattle.bsv_tree.specs.tree.Elements.{element_count, parts_among}
use Rattle.bsv_tree.specs.carrying.Sources.{source_at}
use Rattle.bsv_tree.specs.tree.Trees.{TreeData}

-- the elements have the names, roles and arguments of what was carried out, each in its position
pub record AreOutlined (h : TreeData) (es : List Element) : Type 0 where
  pub as_many : length es ≡ element_count h
  pub each : (n : ℕ) (e : Element) → slice_get es n ≡ Some e
      → (s : Source) × (source_at h n ≡ Some s) × (e.name ≡ s.name) × (e.role ≡ s.role) × (e.arguments ≡ s.ports)

-- the rules of a design that speak of names and positions
pub record KeepsNames (h : TreeData) (es : List Element) : Type 0 where
  pub name : (m : Module) → slice_get h.typed.modules h.top ≡ Some m → IsTrue (is_lower m.name)
  pub named : (n : ℕ) (e : Element) → slice_get es n ≡ Some e → IsNamed e.role e.name
  pub apart : (m n : ℕ) (d e : Element) → slice_get es m ≡ Some d → slice_get es n ≡ Some e → d.name ≡ e.name → m ≡ n
  pub arguments : (n : ℕ) (e : Element) → slice_get es n ≡ Some e → IsTrue (lower_names (map (λ p. p.name) e.arguments))
  pub rule : (n : ℕ) (e : Element) → slice_get es n ≡ Some e → e.role ≡ role.Rule → e.arguments ≡ []
  pub methods_first : (m n : ℕ) (d e : Element) → slice_get es m ≡ Some d → slice_get es n ≡ Some e → m ≤ n → d.role ≡ role.Rule → e.role ≡ role.Rule
  pub paths : (n : ℕ) (p : NamedPart) → slice_get (parts_among h.instances) n ≡ Some p → IsDotted p.path
  pub parts_apart : (m n : ℕ) (p q : NamedPart) → slice_get (parts_among h.instances) m ≡ Some p → slice_get (parts_among h.instances) n ≡ Some q
      → p.path ≡ q.path → m ≡ n
  pub pairs : (k : ℕ) (p : Pair) → slice_get h.pairs k ≡ Some p → IsRuleIn es p.before × IsRuleIn es p.after
  pub asserts : (k : ℕ) (a : Assert) → slice_get h.asserts k ≡ Some a → IsRuleIn es a.rule
