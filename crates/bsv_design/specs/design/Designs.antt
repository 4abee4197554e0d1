-- What holds of every design of flat bodies: names, widths, and that calls in different arms are never both taken, and a
-- call that is not taken decides nothing.
use Rattle.std.specs.Prelude.{◌≡◌, ℕ, ◌≤◌, IsTrue, List, [], ◌∷◌, map, length, slice_get, Some}
use Rattle.std.specs.List.{list_all}
use Rattle.bsv_bits.specs.Words.{Bits}
use Rattle.bsv_ast.specs.Names.{is_lower}
use Rattle.bsv_types.specs.Names.{lower_names, countable}
use Rattle.bsv_design.specs.declared.element.Element.{Element}
use Rattle.bsv_design.specs.declared.element.Role.{Role}
use Rattle.bsv_design.specs.declared.element.Role.TheVariants as role
use Rattle.bsv_design.specs.declared.design.NamedPart.{NamedPart}
use Rattle.bsv_design.specs.declared.kind.Kind.{Kind}
use Rattle.bsv_design.specs.declared.attributes.Assert.{Assert}
use Rattle.bsv_design.specs.declared.attributes.Pair.{Pair}
use Rattle.bsv_design.specs.design.Bodies.{Answers}
use Rattle.bsv_design.specs.design.Branches.{AreExclusive, AgreeOnTaken, AreSameWhereTaken}
use Rattle.bsv_design.specs.design.Roles.{gives_value}
use Rattle.bsv_design.specs.scheme.Traces.{body_trace}
use Rattle.bsv_design.specs.design.Paths.{joined}
use Rattle.bsv_design.specs.design.Widths.{widths_from, call_fits, condition_fits, port_fits, result_fits, acts_not}

-- what a design is made of
pub record DesignData : Type 0 where
  pub name : List ℕ
  pub elements : List Element
  pub parts : List NamedPart
  pub pairs : List Pair
  pub asserts : List Assert

-- ---- elements

-- the nodes have widths, and what is beside them has those that it needs
pub record HasWidths (ks : List Kind) (e : Element) : Type 0 where
  pub widths : List ℕ
  pub nodes : widths_from e.arguments ks e.calls [] e.nodes ≡ Some widths
  pub calls : IsTrue (list_all (call_fits ks widths) e.calls)
  pub conditions : IsTrue (list_all (condition_fits widths) e.conditions)
  -- exactly a method that gives a value has a result
  pub result : IsTrue (result_fits widths (gives_value e.role) e.result)
  pub ports : IsTrue (list_all port_fits e.arguments)

pub record IsElement (ks : List Kind) (e : Element) : Type 0 where
  pub fits : HasWidths ks e
  pub nodes : IsTrue (countable e.nodes)
  pub calls : IsTrue (countable e.calls)
  pub arguments : IsTrue (lower_names (map (λ p. p.name) e.arguments))
  -- a rule has no arguments, and a method that gives a value alone calls none that acts
  pub rule : e.role ≡ role.Rule → e.arguments ≡ []
  pub value : e.role ≡ role.Value → IsTrue (list_all (acts_not ks) e.calls)
  pub exclusive : (r : Answers) (ws : List Bits) → length ws ≡ length e.arguments → AreExclusive (body_trace ks e r ws).sites
  pub decided : (q r : Answers) (ws : List Bits) → length ws ≡ length e.arguments → AgreeOnTaken q r (body_trace ks e q ws).sites
      → AreSameWhereTaken (body_trace ks e q ws) (body_trace ks e r ws)

-- ---- names

-- Lower names that are no keywords, one or more, joined by dots
pub record IsDotted (name : List ℕ) : Type 0 where
  pub first : List ℕ
  pub rest : List (List ℕ)
  pub lower : IsTrue (list_all is_lower (first ∷ rest))
  pub is : name ≡ joined (first ∷ rest)

abbrev pub IsNamed : Role → List ℕ → Type 0
IsNamed role.Rule name = IsDotted name
IsNamed _ name = IsTrue (is_lower name)

-- ---- the whole

-- the position is that of a rule
pub record IsRuleIn (es : List Element) (n : ℕ) : Type 0 where
  pub element : Element
  pub at : slice_get es n ≡ Some element
  pub rule : element.role ≡ role.Rule

pub record IsDesign (b : DesignData) : Type 0 where
  pub name : IsTrue (is_lower b.name)
  pub few_elements : IsTrue (countable b.elements)
  pub few_parts : IsTrue (countable b.parts)
  pub elements : (n : ℕ) (e : Element) → slice_get b.elements n ≡ Some e → IsElement (map (λ p. p.kind) b.parts) e
  pub named : (n : ℕ) (e : Element) → slice_get b.elements n ≡ Some e → IsNamed e.role e.name
  pub apart : (m n : ℕ) (d e : Element) → slice_get b.elements m ≡ Some d → slice_get b.elements n ≡ Some e → d.name ≡ e.name → m ≡ n
  pub paths : (n : ℕ) (p : NamedPart) → slice_get b.parts n ≡ Some p → IsDotted p.path
  pub parts_apart : (m n : ℕ) (p q : NamedPart) → slice_get b.parts m ≡ Some p → slice_get b.parts n ≡ Some q → p.path ≡ q.path → m ≡ n
  -- methods come before rules
  pub methods_first : (m n : ℕ) (d e : Element) → slice_get b.elements m ≡ Some d → slice_get b.elements n ≡ Some e → m ≤ n
      → d.role ≡ role.Rule → e.role ≡ role.Rule
  pub pairs : (k : ℕ) (p : Pair) → slice_get b.pairs k ≡ Some p → IsRuleIn b.elements p.before × IsRuleIn b.elements p.after
  pub asserts : (k : ℕ) (a : Assert) → slice_get b.asserts k ≡ Some a → IsRuleIn b.elements a.rule
