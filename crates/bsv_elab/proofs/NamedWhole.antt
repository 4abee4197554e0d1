-- Instances of a tree have paths of their own, no module is inside itself, and rules and methods have names of their own.
use Rattle.std.proofs.Common.{◌≡◌, ◌∙◌, ℕ, zero, suc, List, [], ◌∷◌, Option, Some, None, Ok, refl, sym, ap, subst}
use Rattle.std.specs.Prelude.{slice_get, IsTrue}
use Rattle.std.proofs.lemmas.List.{append-nil}
use Rattle.std.proofs.lemmas.Option.{same_Some}
use Rattle.bsv_ast.specs.Names.{is_lower}
use Rattle.bsv_types.specs.declared.modules.Method.{Method}
use Rattle.bsv_types.specs.declared.modules.Module.{Module}
use Rattle.bsv_types.specs.declared.typed.Typed.{Typed}
use Rattle.bsv_tree.specs.declared.tree.Built.{Built}
use Rattle.bsv_tree.specs.declared.tree.BuiltRule.{BuiltRule}
use Rattle.bsv_tree.specs.declared.tree.Instance.{Instance}
use Rattle.bsv_tree.specs.declared.tree.Made.TheVariants as made
use Rattle.bsv_tree.specs.tree.Contexts.{made_of}
use Rattle.bsv_tree.specs.tree.Trees.{TreeData, IsModuleAt, AreNamed, methods_of}
use Rattle.bsv_design.specs.design.Paths.{IsPath, IsInside, joined}
use Rattle.bsv_design.proofs.Dotted.{AreLower}
use Rattle.bsv_elab.specs.declared.state.Done.{Done}
use Rattle.bsv_elab.specs.Building.{building}
use Rattle.bsv_elab.proofs.NamedLists.{not_empty, none_there}
use Rattle.bsv_elab.proofs.NamedGroups.{StandsDirectly, BuiltNamed, Related, AllFine, nest_fine}
use Rattle.bsv_elab.proofs.NamedTop.{Whole, whole, top_of, Parts, parts}

-- every method of every module stands directly in its body
abbrev pub AllDirect : Typed → Type 0
AllDirect t =
    (k number : ℕ) (m : Module) (x : Method) → slice_get t.modules k ≡ Some m → slice_get m.methods number ≡ Some x → StandsDirectly m number

-- the instance of the number
pub record ModuleThere (is : List Instance) (n : ℕ) (b : Built) : Type 0 where
  pub instance : Instance
  pub at : slice_get is n ≡ Some instance
  pub made_is : instance.made ≡ made.Module b

pub module_there : (is : List Instance) (n : ℕ) (b : Built) → IsModuleAt is n b → ModuleThere is n b
module_there is n b e = by (slice_get is n) refl e where
  by : (o : Option Instance) → slice_get is n ≡ o → made_of o ≡ Some (made.Module b) → ModuleThere is n b
  by None at f = absurd cc
  by (Some i) at f = record { instance = i; at = at; made_is = same_Some i.made (made.Module b) f }

module _ (t : Typed) (number first : ℕ) (d : Done) (p : Parts t number first d) where
  abbrev line : List Instance
  line = top_of d ∷ p.more

  path_of_one : (n : ℕ) (i : Instance) → slice_get line n ≡ Some i → IsPath i.path
  path_of_one zero i e = record { names = []; lower = refl; is = ap (λ (z : Instance). z.path) (sym (same_Some (top_of d) i e)) }
  path_of_one (suc n) i e = let g = p.group in let u = g.under n i e in record { names = u.name ∷ u.rest; lower = u.lower; is = u.path }

  all_fine : AllFine line
  all_fine = nest_fine t.modules [] [] p.taken (top_of d) d.built p.more refl refl refl p.group

  one_path : (m n : ℕ) (i j : Instance) → slice_get line m ≡ Some i → slice_get line n ≡ Some j → i.path ≡ j.path → m ≡ n
  one_path m n i j e f same =
      let q = path_of_one m i e in
      let whole_is = append-nil q.names in
      let r : Related i j = record {
        outer = q.names;
        extra = [];
        from = q.is;
        to = sym same ∙ q.is ∙ ap joined (sym whole_is);
        lower = subst AreLower (sym whole_is) q.lower;
      } in
      let h = all_fine m n i j e f r in
      h.one refl

  other_modules : (i j : Instance) (b c : Built) (m n : ℕ) → slice_get line m ≡ Some i → slice_get line n ≡ Some j → i.made ≡ made.Module b
      → j.made ≡ made.Module c → IsInside i.path j.path → b.«module» ≡ c.«module» → ⊥
  other_modules i j b c m n e f is at q same =
      let r : Related i j = record { outer = q.names; extra = q.first ∷ q.rest; from = q.outer_is; to = q.path_is; lower = q.lower } in
      let h = all_fine m n i j e f r in
      not_empty q.first q.rest (h.modules b c is at same)

  named_one : (n : ℕ) (i : Instance) (b : Built) → slice_get line n ≡ Some i → i.made ≡ made.Module b → BuiltNamed t.modules b
  named_one zero i b e is =
      let first = ap (λ (z : Instance). z.made) (same_Some (top_of d) i e) in
      let same : d.built ≡ b = cc in
      subst (BuiltNamed t.modules) same p.named
  named_one (suc n) i b e is = let g = p.group in g.named n i b e is

-- ---- of what is built

module _ (t : Typed) (name : List ℕ) (h : TreeData) (e : building t name ≡ Ok h) where
  abbrev found_whole : Whole t h
  found_whole = whole t name h e

  abbrev found_parts : Parts t found_whole.number found_whole.first found_whole.done
  found_parts = parts t found_whole.number found_whole.first found_whole.done found_whole.body

  pub instances_are : h.instances ≡ top_of found_whole.done ∷ found_parts.more
  instances_are = ap (λ (z : TreeData). z.instances) (sym found_whole.is) ∙ found_parts.instances_are

  back : (n : ℕ) (i : Instance) → slice_get h.instances n ≡ Some i → slice_get (top_of found_whole.done ∷ found_parts.more) n ≡ Some i
  back n i at = ap (λ (is : List Instance). slice_get is n) (sym instances_are) ∙ at

  pub typed_is : h.typed ≡ t
  typed_is = ap (λ (z : TreeData). z.typed) (sym found_whole.is)

  pub paths : (n : ℕ) (i : Instance) → slice_get h.instances n ≡ Some i → IsPath i.path
  paths n i at = path_of_one t found_whole.number found_whole.first found_whole.done found_parts n i (back n i at)

  pub apart : (m n : ℕ) (i j : Instance) → slice_get h.instances m ≡ Some i → slice_get h.instances n ≡ Some j → i.path ≡ j.path → m ≡ n
  apart m n i j a b same = one_path t found_whole.number found_whole.first found_whole.done found_parts m n i j (back m i a) (back n j b) same

  pub inside : (i j : Instance) (b c : Built) → (m n : ℕ) → slice_get h.instances m ≡ Some i → slice_get h.instances n ≡ Some j
      → i.made ≡ made.Module b → j.made ≡ made.Module c → IsInside i.path j.path → b.«module» ≡ c.«module» → ⊥
  inside i j b c m n x y is at q same =
      other_modules t found_whole.number found_whole.first found_whole.done found_parts i j b c m n (back m i x) (back n j y) is at q same

  built_named : (n : ℕ) (b : Built) → IsModuleAt h.instances n b → BuiltNamed t.modules b
  built_named n b at =
      let m = module_there h.instances n b at in
      named_one t found_whole.number found_whole.first found_whole.done found_parts n m.instance b (back n m.instance m.at) m.made_is

  pub rules_lower : (n : ℕ) (b : Built) → IsModuleAt h.instances n b → (place : ℕ) (r : BuiltRule)
      → slice_get b.rules place ≡ Some r → IsTrue (is_lower r.name)
  rules_lower n b at = let k = built_named n b at in k.lower

  pub rules_apart : (n : ℕ) (b : Built) → IsModuleAt h.instances n b → (i j : ℕ) (r s : BuiltRule) → slice_get b.rules i ≡ Some r
      → slice_get b.rules j ≡ Some s → r.name ≡ s.name → i ≡ j
  rules_apart n b at = let k = built_named n b at in k.rules

  methods_apart : AllDirect t → (n : ℕ) (b : Built) → IsModuleAt h.instances n b
      → (i number : ℕ) (r : BuiltRule) (m : Method) → slice_get b.rules i ≡ Some r
      → (o : Option Module) → slice_get t.modules b.«module» ≡ o → slice_get (methods_of o) number ≡ Some m → r.name ≡ m.name → ⊥
  methods_apart direct n b at i number r m is None of has same = none_there number m has
  methods_apart direct n b at i number r m is (Some source) of has same =
      let k = built_named n b at in
      k.apart i number r source m is of has (direct b.«module» number source m of has) same

  pub named : AllDirect t → (n : ℕ) (b : Built) → IsModuleAt h.instances n b → AreNamed h.typed b
  named direct n b at = subst (λ z. AreNamed z b) (sym typed_is) (record {
    lower = rules_lower n b at;
    rules = rules_apart n b at;
    apart = λ i number r m is has same. methods_apart direct n b at i number r m is (slice_get t.modules b.«module») refl has same;
  })
