-- The primitives of a tree have paths of their own, and none has the top's.
use Rattle.std.proofs.Common.{◌≡◌, ◌∙◌, ℕ, zero, suc, ◌+◌, List, [], ◌∷◌, ◌++◌, Some, refl, sym, ap, subst, arith}
use Rattle.std.specs.Prelude.{slice_get}
use Rattle.std.proofs.lemmas.Option.{same_Some}
use Rattle.bsv_types.specs.declared.types.PartTy.{PartTy}
use Rattle.bsv_design.specs.declared.design.NamedPart.{NamedPart}
use Rattle.bsv_design.specs.declared.kind.Kind.{Kind}
use Rattle.bsv_tree.specs.declared.tree.Instance.{Instance}
use Rattle.bsv_tree.specs.declared.tree.Made.{Made}
use Rattle.bsv_tree.specs.declared.tree.Made.TheVariants as made
use Rattle.bsv_design.specs.design.Designs.{IsDotted}
use Rattle.bsv_tree.specs.tree.Elements.{part_made, parts_among}
use Rattle.bsv_tree.specs.tree.Elements.{one_if, is_part, parts_before}
use Rattle.bsv_tree.specs.tree.Trees.{TreeData, IsTree}
use Rattle.bsv_design.proofs.Dotted.{dotted_path}

-- the instance of a part
record IsPartOf (is : List Instance) (n : ℕ) (p : NamedPart) : Type 0 where
  number : ℕ
  instance : Instance
  at : slice_get is number ≡ Some instance
  part : PartTy
  kind : Kind
  made_is : instance.made ≡ made.Primitive part kind
  path_is : p.path ≡ instance.path
  place : n ≡ parts_before is number

later : (i : Instance) (is : List Instance) (n : ℕ) (p : NamedPart) (a : IsPartOf is n p) → IsPartOf (i ∷ is) (one_if (is_part i.made) + n) p
later i is n p a = record {
  number = suc a.number;
  instance = a.instance;
  at = a.at;
  part = a.part;
  kind = a.kind;
  made_is = a.made_is;
  path_is = a.path_is;
  place = ap (λ (k : ℕ). one_if (is_part i.made) + k) a.place;
}

first : (i : Instance) (is : List Instance) (p : NamedPart) (part : PartTy) (kind : Kind) → i.made ≡ made.Primitive part kind
    → record { path = i.path; kind = kind } ≡ p → IsPartOf (i ∷ is) 0 p
first i is p part kind made_is e = record {
  number = 0;
  instance = i;
  at = refl;
  part = part;
  kind = kind;
  made_is = made_is;
  path_is = sym (ap (λ (z : NamedPart). z.path) e);
  place = refl;
}

part_is : (is : List Instance) (n : ℕ) (p : NamedPart) → slice_get (parts_among is) n ≡ Some p → IsPartOf is n p
part_is [] n p e = absurd cc
part_is (i ∷ is) n p e = by i.made refl n e (part_is is) where
  by : (x : Made) → i.made ≡ x → (n : ℕ) → slice_get (part_made i.path x ++ parts_among is) n ≡ Some p
      → ((k : ℕ) (q : NamedPart) → slice_get (parts_among is) k ≡ Some q → IsPartOf is k q) → IsPartOf (i ∷ is) n p
  by (made.Module b) same n e more =
      let step : one_if (is_part i.made) + n ≡ n = ap (λ (x : Made). one_if (is_part x) + n) same ∙ zero_more n in
      subst (λ (k : ℕ). IsPartOf (i ∷ is) k p) step (later i is n p (more n p e)) where
        zero_more : (n : ℕ) → 0 + n ≡ n
        zero_more n = omega arith
  by (made.Primitive part kind) same zero e more = first i is p part kind same (same_Some _ p e)
  by (made.Primitive part kind) same (suc n) e more =
      let step : one_if (is_part i.made) + n ≡ suc n = ap (λ (x : Made). one_if (is_part x) + n) same ∙ one_more n in
      subst (λ (k : ℕ). IsPartOf (i ∷ is) k p) step (later i is n p (more n p e)) where
        one_more : (n : ℕ) → 1 + n ≡ suc n
        one_more n = omega arith

module _ (h : TreeData) (t : IsTree h) where
  -- the top has the empty path alone
  below_top : (k : ℕ) (i : Instance) (part : PartTy) (kind : Kind) → slice_get h.instances k ≡ Some i → i.made ≡ made.Primitive part kind → i.path ≡ [] → ⊥
  below_top k i part kind at made_is path_is =
      let number = t.apart k 0 i (record { path = []; made = made.Module t.built }) at t.top.first path_is in
      let one = same_Some i (record { path = []; made = made.Module t.built }) (sym at ∙ ap (slice_get h.instances) number ∙ t.top.first) in
      let made_same : made.Primitive part kind ≡ made.Module t.built = sym made_is ∙ ap (λ (z : Instance). z.made) one in
      cc

  pub part_paths : (n : ℕ) (p : NamedPart) → slice_get (parts_among h.instances) n ≡ Some p → IsDotted p.path
  part_paths n p e =
      let a = part_is h.instances n p e in
      subst IsDotted (sym a.path_is)
      (dotted_path a.instance.path (t.paths a.number a.instance a.at) (below_top a.number a.instance a.part a.kind a.at a.made_is))

  pub parts_alone : (m n : ℕ) (p q : NamedPart) → slice_get (parts_among h.instances) m ≡ Some p → slice_get (parts_among h.instances) n ≡ Some q
      → p.path ≡ q.path → m ≡ n
  parts_alone m n p q e f same =
      let a = part_is h.instances m p e in
      let b = part_is h.instances n q f in
      let number = t.apart a.number b.number a.instance b.instance a.at b.at (sym a.path_is ∙ same ∙ b.path_is) in
      a.place ∙ ap (parts_before h.instances) number ∙ sym b.place
