-- Instances that are made in one body: each has a name of its own there, and what is inside it has that name first.
use Rattle.std.proofs.Common.{◌≡◌, ◌∙◌, ℕ, zero, suc, ◌+◌, true, false, ◌==◌, List, [], ◌∷◌, ◌++◌, length, Some, refl, sym, ap, subst}
use Rattle.std.specs.Prelude.{slice_get}
use Rattle.std.proofs.lemmas.Bool.{both_ways, or_parts, or_left, or_right, eq-eqb}
use Rattle.std.proofs.lemmas.List.{append_assoc, append_cancel_left, append-nil}
use Rattle.std.proofs.lemmas.List.Folds.{list_any-append}
use Rattle.std.proofs.lemmas.Option.{same_Some}
use Rattle.bsv_lemmas.proofs.Lists.{same_head}
use Rattle.bsv_ast.specs.Names.{is_lower}
use Rattle.bsv_types.specs.declared.modules.Method.{Method}
use Rattle.bsv_types.specs.declared.modules.Module.{Module}
use Rattle.bsv_types.specs.declared.modules.ModuleStmt.{ModuleStmt, out-ModuleStmt}
use Rattle.bsv_types.specs.declared.modules.ModuleStmt.TheOpen.{ModuleStmt-F}
use Rattle.bsv_tree.specs.declared.tree.BuiltRule.{BuiltRule}
use Rattle.bsv_tree.specs.declared.tree.Built.{Built}
use Rattle.bsv_tree.specs.declared.tree.Instance.{Instance}
use Rattle.bsv_tree.specs.declared.tree.Made.TheVariants as made
use Rattle.bsv_design.specs.design.Paths.{joined}
use Rattle.bsv_design.proofs.Dotted.{AreLower, lower_parted, joined_same}
use Rattle.bsv_elab.specs.Making.{is_around}
use Rattle.bsv_elab.proofs.NamedLists.{not_empty, ends, Found, in_first, in_second, found, only_one, none_there, is_in, Longer, fresh_before, taken_after}

-- ---- the rules of an instance

-- the method stands directly in the body of its module
pub record StandsDirectly (m : Module) (number : ℕ) : Type 0 where
  pub before : List ModuleStmt
  pub statement : ModuleStmt
  pub after : List ModuleStmt
  pub is : m.body ≡ before ++ statement ∷ after
  pub out : out-ModuleStmt statement ≡ ModuleStmt-F.Method number

pub record BuiltNamed (ms : List Module) (b : Built) : Type 0 where
  pub lower : (place : ℕ) (r : BuiltRule) → slice_get b.rules place ≡ Some r → is_lower r.name ≡ true
  pub rules : (i j : ℕ) (r s : BuiltRule) → slice_get b.rules i ≡ Some r → slice_get b.rules j ≡ Some s → r.name ≡ s.name → i ≡ j
  pub apart : (i number : ℕ) (r : BuiltRule) (source : Module) (m : Method) → slice_get b.rules i ≡ Some r → slice_get ms b.«module» ≡ Some source
      → slice_get source.methods number ≡ Some m → StandsDirectly source number → r.name ≡ m.name → ⊥

-- ---- paths

-- the path of an instance begins with a name that was free before and is taken after
pub record Under (base before after : List (List ℕ)) (i : Instance) : Type 0 where
  pub name : List ℕ
  pub rest : List (List ℕ)
  pub path : i.path ≡ joined (base ++ name ∷ rest)
  pub lower : AreLower (base ++ name ∷ rest)
  pub fresh : is_in name before ≡ false
  pub taken : is_in name after ≡ true

-- an instance is another one, or inside it
pub record Related (i j : Instance) : Type 0 where
  pub outer : List (List ℕ)
  pub extra : List (List ℕ)
  pub from : i.path ≡ joined outer
  pub to : j.path ≡ joined (outer ++ extra)
  pub lower : AreLower (outer ++ extra)

pub record Fine (m n : ℕ) (i j : Instance) (extra : List (List ℕ)) : Type 0 where
  pub one : extra ≡ [] → m ≡ n
  pub modules : (b c : Built) → i.made ≡ made.Module b → j.made ≡ made.Module c → b.«module» ≡ c.«module» → extra ≡ []

abbrev pub AllFine : List Instance → Type 0
AllFine is = (m n : ℕ) (i j : Instance) → slice_get is m ≡ Some i → slice_get is n ≡ Some j → (r : Related i j) → Fine m n i j r.extra

-- what is made in one body, while the names of its instances grow
pub record Group (ms : List Module) (base : List (List ℕ)) (around : List ℕ) (before after : List (List ℕ)) (more : List Instance) : Type 0 where
  pub under : (n : ℕ) (i : Instance) → slice_get more n ≡ Some i → Under base before after i
  pub fine : AllFine more
  pub outside : (n : ℕ) (i : Instance) (b : Built) → slice_get more n ≡ Some i → i.made ≡ made.Module b → is_around b.«module» around ≡ false
  pub named : (n : ℕ) (i : Instance) (b : Built) → slice_get more n ≡ Some i → i.made ≡ made.Module b → BuiltNamed ms b

outer_is : (names : List (List ℕ)) (i j : Instance) → AreLower names → i.path ≡ joined names → (r : Related i j) → r.outer ≡ names
outer_is names i j lower is r = joined_same r.outer names (lower_parted r.outer r.extra r.lower).0 lower (sym r.from ∙ is)

inner_is : (names : List (List ℕ)) (i j : Instance) → AreLower names → j.path ≡ joined names → (r : Related i j) → r.outer ++ r.extra ≡ names
inner_is names i j lower is r = joined_same (r.outer ++ r.extra) names r.lower lower (sym r.to ∙ is)

-- related ones have one name in the body
same_name : (base a b c d : List (List ℕ)) (i j : Instance) (u : Under base a b i) (v : Under base c d j) → Related i j → u.name ≡ v.name
same_name base a b c d i j u v r =
    let out = outer_is (base ++ u.name ∷ u.rest) i j u.lower u.path r in
    let whole = inner_is (base ++ v.name ∷ v.rest) i j v.lower v.path r in
    let joins = sym (append_assoc base (u.name ∷ u.rest) r.extra) ∙ ap (λ (z : List (List ℕ)). z ++ r.extra) (sym out) ∙ whole in
    same_head u.name v.name (u.rest ++ r.extra) v.rest (append_cancel_left base (u.name ∷ (u.rest ++ r.extra)) (v.name ∷ v.rest) joins)

-- ---- nothing, and one group after the other

pub group_none : (ms : List Module) (base : List (List ℕ)) (around : List ℕ) (names : List (List ℕ)) → Group ms base around names names []
group_none ms base around names = record {
  under = λ n i e. absurd (none_there n i e);
  fine = λ m n i j e f r. absurd (none_there m i e);
  outside = λ n i b e is. absurd (none_there n i e);
  named = λ n i b e is. absurd (none_there n i e);
}

module _ (ms : List Module) (base : List (List ℕ)) (around : List ℕ) (a b c : List (List ℕ)) (xs ys : List Instance) (first : Longer a b)
    (second : Longer b c) (h : Group ms base around a b xs) (g : Group ms base around b c ys) where
  under_by : (n : ℕ) (i : Instance) → Found xs ys n i → Under base a c i
  under_by n i (in_first e) =
      let u = h.under n i e in
      record { name = u.name; rest = u.rest; path = u.path; lower = u.lower; fresh = u.fresh; taken = taken_after u.name b c second u.taken }
  under_by n i (in_second k is e) =
      let u = g.under k i e in
      record { name = u.name; rest = u.rest; path = u.path; lower = u.lower; fresh = fresh_before u.name a b first u.fresh; taken = u.taken }

  crossed : (i j : Instance) (u : Under base a b i) (v : Under base b c j) → u.name ≡ v.name → ⊥
  crossed i j u v same = both_ways (is_in v.name b) v.fresh (subst (λ z. is_in z b ≡ true) same u.taken)

  shifted : (k l m n : ℕ) (i j : Instance) (extra : List (List ℕ)) → m ≡ length xs + k → n ≡ length xs + l → Fine k l i j extra → Fine m n i j extra
  shifted k l m n i j extra left right f = record { one = λ e. left ∙ ap (λ z. length xs + z) (f.one e) ∙ sym right; modules = f.modules }

  fine_by : (m n : ℕ) (i j : Instance) (r : Related i j) → Found xs ys m i → Found xs ys n j → Fine m n i j r.extra
  fine_by m n i j r (in_first e) (in_first f) = h.fine m n i j e f r
  fine_by m n i j r (in_first e) (in_second l at f) =
      let u = h.under m i e in let v = g.under l j f in absurd (crossed i j u v (same_name base a b b c i j u v r))
  fine_by m n i j r (in_second k is e) (in_first f) =
      let u = g.under k i e in let v = h.under n j f in absurd (crossed j i v u (sym (same_name base b c a b i j u v r)))
  fine_by m n i j r (in_second k is e) (in_second l at f) = shifted k l m n i j r.extra is at (g.fine k l i j e f r)

  outside_by : (n : ℕ) (i : Instance) (w : Built) → Found xs ys n i → i.made ≡ made.Module w → is_around w.«module» around ≡ false
  outside_by n i w (in_first e) is = h.outside n i w e is
  outside_by n i w (in_second k at e) is = g.outside k i w e is

  named_by : (n : ℕ) (i : Instance) (w : Built) → Found xs ys n i → i.made ≡ made.Module w → BuiltNamed ms w
  named_by n i w (in_first e) is = h.named n i w e is
  named_by n i w (in_second k at e) is = g.named k i w e is

  pub group_both : Group ms base around a c (xs ++ ys)
  group_both = record {
    under = λ n i e. under_by n i (found xs ys n i e);
    fine = λ m n i j e f r. fine_by m n i j r (found xs ys m i e) (found xs ys n j f);
    outside = λ n i w e is. outside_by n i w (found xs ys n i e) is;
    named = λ n i w e is. named_by n i w (found xs ys n i e) is;
  }

-- ---- one without parts

pub group_one : (ms : List Module) (base : List (List ℕ)) (around : List ℕ) (before after : List (List ℕ)) (i : Instance)
    → ((b : Built) → i.made ≡ made.Module b → ⊥) → Under base before after i → Group ms base around before after (i ∷ [])
group_one ms base around before after i part u = record {
  under = λ n j e. subst (Under base before after) (only_one i n j e).1 u;
  fine = λ m n j k e f r. record {
    one = λ z. (only_one i m j e).0 ∙ sym (only_one i n k f).0;
    modules = λ b c is at same. absurd (part b (ap (λ (z : Instance). z.made) (only_one i m j e).1 ∙ is));
  };
  outside = λ n j b e is. absurd (part b (ap (λ (z : Instance). z.made) (only_one i n j e).1 ∙ is));
  named = λ n j b e is. absurd (part b (ap (λ (z : Instance). z.made) (only_one i n j e).1 ∙ is));
}

-- ---- one of a module, and what was made in its body

pub around_end : (k : ℕ) (around : List ℕ) → is_around k (around ++ k ∷ []) ≡ true
around_end k around =
    list_any-append (λ m. m == k) around (k ∷ []) ∙ or_right (is_around k around) (is_around k (k ∷ [])) (or_left (k == k) false (eq-eqb k k refl))

pub around_front : (k l : ℕ) (around : List ℕ) → is_around k (around ++ l ∷ []) ≡ false → is_around k around ≡ false
around_front k l around h = (or_parts (is_around k around) (is_around k (l ∷ [])) (sym (list_any-append (λ m. m == k) around (l ∷ [])) ∙ h)).0

module _ (ms : List Module) (names : List (List ℕ)) (around : List ℕ) (taken : List (List ℕ)) (head : Instance) (built : Built)
    (inside : List Instance) (lower : AreLower names) (path : head.path ≡ joined names) (is_built : head.made ≡ made.Module built)
    (g : Group ms names (around ++ built.«module» ∷ []) [] taken inside) where
  -- no module is made inside itself
  other_module : (n : ℕ) (j : Instance) (b c : Built) → slice_get inside n ≡ Some j → j.made ≡ made.Module c
      → head.made ≡ made.Module b → b.«module» ≡ c.«module» → ⊥
  other_module n j b c e is at same =
      let head_is : built ≡ b = cc in
      let number = ap (λ (z : Built). z.«module») head_is ∙ same in
      both_ways (is_around c.«module» (around ++ built.«module» ∷ [])) (g.outside n j c e is)
      (subst (λ z. is_around z (around ++ built.«module» ∷ []) ≡ true) number (around_end built.«module» around))

  head_in : (n : ℕ) (j : Instance) → slice_get inside n ≡ Some j → (r : Related head j) → r.extra ≡ [] → ⊥
  head_in n j e r none =
      let u = g.under n j e in
      let out = outer_is names head j lower path r in
      let whole = inner_is (names ++ u.name ∷ u.rest) head j u.lower u.path r in
      let joins = ap (λ (z : List (List ℕ)). z ++ r.extra) (sym out) ∙ whole in
      not_empty u.name u.rest (sym (append_cancel_left names r.extra (u.name ∷ u.rest) joins) ∙ none)

  in_head : (n : ℕ) (j : Instance) → slice_get inside n ≡ Some j → Related j head → ⊥
  in_head n j e r =
      let u = g.under n j e in
      let out = outer_is (names ++ u.name ∷ u.rest) j head u.lower u.path r in
      let whole = inner_is names j head lower path r in
      let joins = sym (append_assoc names (u.name ∷ u.rest) r.extra) ∙ ap (λ (z : List (List ℕ)). z ++ r.extra)
      (sym out) ∙ whole ∙ sym (append-nil names) in
      not_empty u.name (u.rest ++ r.extra) (append_cancel_left names (u.name ∷ (u.rest ++ r.extra)) [] joins)

  self : (r : Related head head) → r.extra ≡ []
  self r = ends names r.extra (sym (inner_is names head head lower path r) ∙ ap (λ (z : List (List ℕ)). z ++ r.extra)
      (outer_is names head head lower path r))

  nest_by : (m n : ℕ) (i j : Instance) → slice_get (head ∷ inside) m ≡ Some i → slice_get (head ∷ inside) n ≡ Some j
      → (r : Related i j) → Fine m n i j r.extra
  nest_by zero zero i j e f r =
      let left = same_Some head i e in
      let right = same_Some head j f in
      record {
        one = λ z. refl;
        modules = λ b c is at same. self
            (record {
              outer = r.outer;
              extra = r.extra;
              from = ap (λ (z : Instance). z.path) left ∙ r.from;
              to = ap
                  (λ (z : Instance). z.path) right ∙ r.to;
              lower = r.lower;
            });
      }
  nest_by zero (suc n) i j e f r =
      let left = same_Some head i e in
      let from_head : Related head j = record
      { outer = r.outer; extra = r.extra; from = ap (λ (z : Instance). z.path) left ∙ r.from; to = r.to; lower = r.lower } in
      record {
        one = λ z. absurd (head_in n j f from_head z);
        modules = λ b c is at same. absurd (other_module n j b c f at (ap (λ (z : Instance). z.made) left ∙ is) same);
      }
  nest_by (suc m) zero i j e f r =
      let right = same_Some head j f in
      let to_head : Related i head = record
      { outer = r.outer; extra = r.extra; from = r.from; to = ap (λ (z : Instance). z.path) right ∙ r.to; lower = r.lower } in
      absurd (in_head m i e to_head)
  nest_by (suc m) (suc n) i j e f r = let h = g.fine m n i j e f r in record { one = λ z. ap suc (h.one z); modules = h.modules }

  pub nest_fine : AllFine (head ∷ inside)
  nest_fine = nest_by
