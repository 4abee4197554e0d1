-- An instance of a module, and what was made in its body, in the body that it is made in.
use Rattle.std.proofs.Common.{◌≡◌, ◌∙◌, ℕ, zero, suc, true, false, List, [], ◌∷◌, ◌++◌, Some, ap, subst}
use Rattle.std.specs.Prelude.{slice_get}
use Rattle.std.proofs.lemmas.List.{append_assoc}
use Rattle.std.proofs.lemmas.Option.{same_Some}
use Rattle.bsv_types.specs.declared.modules.Module.{Module}
use Rattle.bsv_tree.specs.declared.tree.Built.{Built}
use Rattle.bsv_tree.specs.declared.tree.Instance.{Instance}
use Rattle.bsv_tree.specs.declared.tree.Made.TheVariants as made
use Rattle.bsv_design.specs.design.Paths.{joined}
use Rattle.bsv_design.proofs.Dotted.{AreLower}
use Rattle.bsv_elab.specs.Making.{is_around}
use Rattle.bsv_elab.proofs.NamedLists.{is_in}
use Rattle.bsv_elab.proofs.NamedGroups.{BuiltNamed, Under, Group, around_front, nest_fine}

module _ (ms : List Module) (base : List (List ℕ)) (around : List ℕ) (before after taken : List (List ℕ)) (name : List ℕ) (head : Instance)
    (built : Built) (inside : List Instance) where
  -- what is known of an instance of a module, and of its body
  pub record Nest : Type 0 where
    pub lower : AreLower (base ++ name ∷ [])
    pub fresh : is_in name before ≡ false
    pub taken_is : is_in name after ≡ true
    pub path : head.path ≡ joined (base ++ name ∷ [])
    pub is_built : head.made ≡ made.Module built
    pub outside : is_around built.«module» around ≡ false
    pub named : BuiltNamed ms built
    pub group : Group ms (base ++ name ∷ []) (around ++ built.«module» ∷ []) [] taken inside

  under_head : Nest → Under base before after head
  under_head h = record { name = name; rest = []; path = h.path; lower = h.lower; fresh = h.fresh; taken = h.taken_is }

  under_inside : Nest → (i : Instance) → Under (base ++ name ∷ []) [] taken i → Under base before after i
  under_inside h i u =
      let same = append_assoc base (name ∷ []) (u.name ∷ u.rest) in
      record {
        name = name;
        rest = u.name ∷ u.rest;
        path = u.path ∙ ap joined same;
        lower = subst AreLower same u.lower;
        fresh = h.fresh;
        taken = h.taken_is;
      }

  nest_under : Nest → (n : ℕ) (i : Instance) → slice_get (head ∷ inside) n ≡ Some i → Under base before after i
  nest_under h zero i e = subst (Under base before after) (same_Some head i e) (under_head h)
  nest_under h (suc n) i e = let g = h.group in under_inside h i (g.under n i e)

  same_built : Nest → (i : Instance) (b : Built) → slice_get (head ∷ inside) zero ≡ Some i → i.made ≡ made.Module b → built ≡ b
  same_built h i b e is =
      let first = ap (λ (z : Instance). z.made) (same_Some head i e) in
      let own = h.is_built in
      cc

  nest_outside : Nest → (n : ℕ) (i : Instance) (b : Built) → slice_get (head ∷ inside) n ≡ Some i
      → i.made ≡ made.Module b → is_around b.«module» around ≡ false
  nest_outside h zero i b e is = subst (λ (z : Built). is_around z.«module» around ≡ false) (same_built h i b e is) h.outside
  nest_outside h (suc n) i b e is = let g = h.group in around_front b.«module» built.«module» around (g.outside n i b e is)

  nest_named : Nest → (n : ℕ) (i : Instance) (b : Built) → slice_get (head ∷ inside) n ≡ Some i → i.made ≡ made.Module b → BuiltNamed ms b
  nest_named h zero i b e is = subst (BuiltNamed ms) (same_built h i b e is) h.named
  nest_named h (suc n) i b e is = let g = h.group in g.named n i b e is

  pub group_nest : Nest → Group ms base around before after (head ∷ inside)
  group_nest h = record {
    under = nest_under h;
    fine = nest_fine ms (base ++ name ∷ []) around taken head built inside h.lower h.path h.is_built h.group;
    outside = nest_outside h;
    named = nest_named h;
  }
