-- The design of a tree, and how what is refused of it is told.
use Rattle.std.proofs.Common.{◌≡◌, ◌∙◌, ℕ, zero, suc, ◌≤◌, List, [], ◌∷◌, map, length, Option, Some, None, refl, sym, ap, subst}
use Rattle.std.specs.Prelude.{slice_get}
use Rattle.std.proofs.Math.Logic.{∥∥₁_elim, ∥∥₁_prop}
use Rattle.std.proofs.lemmas.Option.{slice_get_past}
use Rattle.bsv_design.specs.declared.design.Design.{Design}
use Rattle.bsv_design.specs.declared.design.NamedPart.{NamedPart}
use Rattle.bsv_design.specs.declared.element.Element.{Element}
use Rattle.bsv_design.specs.declared.kind.Kind.{Kind}
use Rattle.bsv_design.specs.declared.kind.Kind.TheVariants as kind
use Rattle.bsv_design.specs.design.Designs.{DesignData}
use Rattle.bsv_design.specs.parts.Kinds.{kind_table}
use Rattle.bsv_design.specs.parts.MethodNames.{method_names}
use Rattle.bsv_design.specs.scheme.Relations.{KeepsTheRule}
use Rattle.bsv_design.specs.scheme.Schemes.{Outline, outline, design_scheme, AreAlike}
use Rattle.bsv_clock.specs.Subjects.{element_name, outline_name}
use Rattle.bsv_tree.specs.meaning.Schemes.{tree_scheme}
use Rattle.bsv_design.specs.scheme.Seen.{design_data}
use Rattle.bsv_tree.specs.tree.Elements.{parts_among}
use Rattle.bsv_tree.specs.tree.Trees.{TreeData}
use Rattle.bsv_guard.specs.ElementLaws.{ElementLaws}
use Rattle.bsv_guard.specs.Lifted.{NamesFirst}
use Rattle.bsv_guard.proofs.Alike as same
use Rattle.bsv_guard.proofs.DesignSound.{design_is_sound}
use Rattle.bsv_guard.proofs.Keeps.{sound_keeps}
use Rattle.bsv_guard.proofs.Transport.{sound_alike}
use Rattle.bsv_flow.specs.declared.refusal.Refusal.{Refusal}
use Rattle.bsv_flow.specs.declared.refusal.Refusal.TheVariants as refusal
use Rattle.bsv_flow.specs.Breaches.{part_path, method_name, told_in, TellsBreach}

abbrev pub name_of : Option Element → List ℕ
name_of None = []
name_of (Some e) = e.name

pub names_same : (es : List Element) (n : ℕ) → outline_name (slice_get (map outline es) n) ≡ name_of (slice_get es n)
names_same [] n = refl
names_same (e ∷ es) zero = refl
names_same (e ∷ es) (suc n) = names_same es n

-- a kind has a name for each method, and no more
as_many : (k : Kind) → length (method_names k) ≡ (kind_table k).methods
as_many (kind.Reg k) = refl
as_many (kind.RegU k) = refl
as_many (kind.Wire k) = refl
as_many (kind.DWire k) = refl
as_many (kind.RWire k) = refl
as_many (kind.Pulse k) = refl
as_many (kind.Plain k) = refl
as_many (kind.Pipeline k) = refl
as_many (kind.Bypass k) = refl

pub no_more_names : (k : Kind) (m : ℕ) → (kind_table k).methods ≤ m → slice_get (method_names k) m ≡ None
no_more_names k m l = slice_get_past (method_names k) m (subst (λ n. n ≤ m) (sym (as_many k)) l)

module _ (h : TreeData) (b : DesignData) (alike : AreAlike (tree_scheme h) (design_scheme b)) (parts : b.parts ≡ parts_among h.instances) where
  element_same : (n : ℕ) → element_name (design_scheme b) n ≡ element_name (tree_scheme h) n
  element_same n = ap (λ (os : List Outline). outline_name (slice_get os n)) (sym alike.elements)

  pub tells : (n part first second : ℕ) (r : Refusal) → NamesFirst b n part first second → r ≡ told_in b n part first second → TellsBreach h r
  tells n part first second r found told = record {
    element = n;
    earlier = found.earlier;
    later = found.later;
    one = found.one;
    other = found.other;
    breach = ((same.alike (tree_scheme h) (design_scheme b) alike).first_breach_same n found.earlier found.later found.one found.other).1 found.breach;
    told = told
        ∙ ap (λ (x : List ℕ). refusal.InRule x (part_path b.parts part) (method_name b.parts part first) (method_name b.parts part second)) (element_same n)
        ∙ ap (λ (ps : List NamedPart). refusal.InRule (element_name (tree_scheme h) n) (part_path ps part) (method_name ps part first) (method_name ps part second)) parts
        ∙ ap (λ k. let ps = parts_among h.instances in refusal.InRule (element_name (tree_scheme h) n) (part_path ps k) (method_name ps k first) (method_name ps k second)) (sym found.part_is)
        ∙ ap (λ k. let ps = parts_among h.instances in refusal.InRule (element_name (tree_scheme h) n) (part_path ps found.one.target.part) (method_name ps found.one.target.part k) (method_name ps found.one.target.part second)) (sym found.first_is)
        ∙ ap (λ k. let ps = parts_among h.instances in refusal.InRule (element_name (tree_scheme h) n) (part_path ps found.one.target.part) (method_name ps found.one.target.part found.one.target.method) (method_name ps found.one.target.part k)) (sym found.second_is);
  }

  pub keeps : ((n : ℕ) → KeepsTheRule (design_scheme b) n) → (n : ℕ) → KeepsTheRule (tree_scheme h) n
  keeps all n = ((same.alike (tree_scheme h) (design_scheme b) alike).rule_same n).1 (all n)

pub laws_of : (h : TreeData) (d : Design) → AreAlike (tree_scheme h) (design_scheme (design_data d)) → ∥ ElementLaws (tree_scheme h) ∥₁
laws_of h d alike =
    ∥∥₁_elim d.right ∥∥₁_prop
    (λ right. ∣ sound_keeps (tree_scheme h)
    (sound_alike (design_scheme (design_data d)) (tree_scheme h) (same.alike_back (tree_scheme h) (design_scheme (design_data d)) alike) (design_is_sound (design_data d) right)) ∣₁)
