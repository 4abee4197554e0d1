-- Carrying an expression out gives what it means.
use Rattle.std.proofs.Common.{◌≡◌, ℕ, zero, suc, Bool, true, false, List, [], ◌∷◌, ◌++◌, length, Option, Some, None, Ok, Err, refl, sym, ap, subst, append_assoc, append-nil}
use Rattle.std.specs.Prelude.{slice_get, if◌then◌else◌, pos, nat_lt}
use Rattle.bsv_lemmas.proofs.Choices.{same_ok}
use Rattle.bsv_bits.specs.Words.{Bits}
use Rattle.bsv_types.specs.Kinds.{Kind as Sort, bit as bit_kind, down, uint, int, bool, enum, struct, maybe, integer, interface, part, bare}
use Rattle.bsv_types.specs.Shapes.{Shapes}
use Rattle.bsv_tree.specs.declared.statics.Binding.{Binding}
use Rattle.bsv_tree.specs.declared.statics.Static.{Static}
use Rattle.bsv_tree.specs.declared.statics.Static.TheVariants as bound_to
use Rattle.bsv_tree.specs.declared.values.Value.{Value}
use Rattle.bsv_tree.specs.declared.values.Value.TheVariants as value
use Rattle.bsv_tree.specs.declared.values.Constant.TheVariants as constant
use Rattle.bsv_tree.specs.declared.values.Count.{Count}
use Rattle.bsv_tree.specs.declared.values.Local.{Local}
use Rattle.bsv_tree.specs.declared.values.Work.{Work}
use Rattle.bsv_tree.specs.declared.values.Fault.{Fault}
use Rattle.bsv_tree.specs.carrying.Values as values
use Rattle.bsv_tree.specs.tree.Widths.{width}
use Rattle.bsv_tree.specs.carrying.Applied.{constant_of}
use Rattle.bsv_tree.specs.carrying.Calls as calls
use Rattle.bsv_tree.specs.tree.Contexts.{Context, Callee, place_in_body}
use Rattle.bsv_tree.specs.carrying.Calls.{Caller, static_fault, in_body, in_module}
use Rattle.bsv_tree.specs.carrying.Carrying as carrying
use Rattle.bsv_tree.specs.carrying.Carrying.{Carry, Carried, Placing}
use Rattle.bsv_tree.specs.meaning.Evaluation.{Results, Standing}
use Rattle.bsv_tree.specs.meaning.Values.{Value as Val, static, truth, Variable, Variables}
use Rattle.bsv_tree.specs.meaning.Evaluation as evaluation
use Rattle.bsv_tree.specs.meaning.Evaluation.{Evaluation, yields}
use Rattle.bsv_tree.specs.meaning.Control.{Means}
use Rattle.bsv_tree.specs.meaning.Operators as means
use Rattle.bsv_tree.specs.meaning.Meaning as meaning
use Rattle.bsv_tree.specs.meaning.Meaning.{Meant, Calling}
use Rattle.bsv_tree.proofs.meaning.Same.{Shows, AllShow, Holds, AllHold, IsLong, Same, here, got, all_show_within, all_hold_within, all_show_append}
use Rattle.bsv_tree.proofs.meaning.Pieces.{bound, given, nothing_more, by_if}
use Rattle.bsv_tree.proofs.meaning.Operating.{V}

-- ---- what is asked of an expression

-- where these variables stand
module _ (r : Results) where
  -- from any run, what carrying out gives is what is meant
  unfoldable pub Carries : Carry → Means → Type 0
  Carries c m =
      (p : Standing) (ws : List Bits) (n k : ℕ) (vs : List Local) (us : Variables) (w : Work) → IsLong r p ws n k w → AllHold (V r p ws n k w) vs us
      → (x : Value) (v : Work) → c vs w ≡ Ok (x, v) → Same r p ws n k (λ W y. Shows W x y) w v (here r p ws n k w (m us))

  pub record Matches (c : Carried) (m : Meant) : Type 0 where
    pub sort : c.sort ≡ m.sort
    pub carries : Carries c.carry m.means

  abbrev pub AllMatch : List Carried → List Meant → Type 0
  AllMatch [] [] = Unit {0}
  AllMatch (c ∷ cs) (m ∷ ms) = Matches c m × AllMatch cs ms
  AllMatch _ _ = ⊥

  -- the instance of a place is decided
  unfoldable pub Places : Placing → (Variables → Evaluation ℕ) → Type 0
  Places c m =
      (p : Standing) (W : List Bits) (n k : ℕ) (vs : List Local) (us : Variables) (a : Count) → length W ≡ a.slots → AllHold W vs us
      → (i : ℕ) (b : Count) → c vs a ≡ Ok (i, b) → (b.slots ≡ a.slots) × (m us p n k ≡ record { gives = i; choices = n; sites = k; calls = []; needs = [] })

  unfoldable pub CallsSame : Caller → Calling → Type 0
  CallsSame call calling =
      (p : Standing) (ws : List Bits) (n k : ℕ) (site : Context) (c : Callee) (xs : List Value) (ys : List Val) (w : Work) → IsLong r p ws n k w → AllShow (V r p ws n k w) xs ys
      → (x : Value) (v : Work) → call site c xs w ≡ Ok (x, v) → Same r p ws n k (λ W y. Shows W x y) w v (here r p ws n k w (calling site c ys))

-- ---- variables

pub held_at : (W : List Bits) (vs : List Local) (us : Variables) → AllHold W vs us → (i : ℕ) (v : Local) → slice_get vs i ≡ Some v → (u : Variable) × (slice_get us i ≡ Some u) × Holds W v u
held_at W [] us h i v e = absurd cc
held_at W (v ∷ vs) (u ∷ us) h zero v' e = let it : v ≡ v' = cc in (u, refl, subst (λ o. Holds W o u) it h.0)
held_at W (v ∷ vs) (u ∷ us) h (suc i) v' e = held_at W vs us h.1 i v' e
held_at W (v ∷ vs) [] h i v' e = absurd h

pub lost_is : (f : Fault) (b : Bool) (x y : Value) → (if b then Err f else Ok x) ≡ Ok y → (b ≡ false) × (x ≡ y)
lost_is f true x y e = absurd cc
lost_is f false x y e = (refl, same_ok x y e)

in_body_shows : (f : Fault) (W : List Bits) (vs : List Local) (us : Variables) → AllHold W vs us → (i : ℕ) (o : Option Local) → slice_get vs i ≡ o
    → (x : Value) → in_body f o ≡ Ok x → Shows W x (meaning.value_in (slice_get us i))
in_body_shows f W vs us h i None e x g = absurd cc
in_body_shows f W vs us h i (Some v) e x g =
    let it = held_at W vs us h i v e in
    let l = lost_is f v.lost v.value x g in
    subst (λ o. Shows W x (meaning.value_in o)) (sym it.1) (subst (λ z. Shows W z it.0.value) l.1 (it.2.shows l.0))

held_shows : (f : Fault) (W : List Bits) (b : Static) (x : Value) → calls.or_fault f (values.held b) ≡ Ok x → Shows W x (meaning.held b)
held_shows f W (bound_to.Number m) x e = subst (λ z. Shows W z (static (constant.Number m))) (same_ok (value.Static (constant.Number m)) x e) refl
held_shows f W (bound_to.Bits m) x e = subst (λ z. Shows W z (static (constant.Bits m))) (same_ok (value.Static (constant.Bits m)) x e) refl
held_shows f W (bound_to.Truth m) x e = subst (λ z. Shows W z (truth m)) (same_ok (values.truth m) x e) refl
held_shows f W (bound_to.Place m) x e = absurd cc
held_shows f W (bound_to.Places m) x e = absurd cc

pub variable_shows : (r : Results) (call : Calling) (site : Context) (W : List Bits) (vs : List Local) (us : Variables) → AllHold W vs us → (level : ℕ) (o : Option Binding)
    → (x : Value) → in_module (static_fault site) o (in_body (static_fault site) (slice_get vs (place_in_body site level))) ≡ Ok x
    → Shows W x (meaning.variable_of r call site level o us)
variable_shows r call site W vs us h level None x e = in_body_shows (static_fault site) W vs us h (place_in_body site level) _ refl x e
variable_shows r call site W vs us h level (Some b) x e = held_shows (static_fault site) W b.value x e

-- ---- literals

pub literal_shows : (s : Shapes) (f : Fault) (W : List Bits) (t : Sort) (m : ℕ) (w : Work) (x : Value) (v : Work) → carrying.literal s f t m w ≡ Ok (x, v)
    → (w ≡ v) × Shows W x (meaning.literal s t m)
unfolding carrying.literal
literal_shows s f W integer m w x v e =
    let it = by_if (nat_lt m 9223372036854775808) (value.Static (constant.Number (pos m)), w) f (x, v) e in
    (ap (λ (o : Value × Work). o.1) it, subst (λ (z : Value). Shows W z (static (constant.Number (pos m)))) (ap (λ (o : Value × Work). o.0) it) refl)
literal_shows s f W t m w x v e =
    let it = same_ok (constant_of (width s t) m, w) (x, v) e in
    (ap (λ (o : Value × Work). o.1) it, subst (λ (z : Value). Shows W z (means.bits (width s t) m)) (ap (λ (o : Value × Work). o.0) it) refl)

-- ---- an Integer is static

pub static_is : (call : Caller) (site : Context) (t : Sort) (o q : Value × Work) → carrying.as_static call site t o ≡ Ok q → o ≡ q
static_is call site integer o q e = by_if (values.is_static o.0) o (static_fault site) q e
static_is call site (bit_kind m) o q e = same_ok o q e
static_is call site (down m) o q e = same_ok o q e
static_is call site (uint m) o q e = same_ok o q e
static_is call site (int m) o q e = same_ok o q e
static_is call site bool o q e = same_ok o q e
static_is call site (enum m) o q e = same_ok o q e
static_is call site (struct m) o q e = same_ok o q e
static_is call site (maybe m) o q e = same_ok o q e
static_is call site (interface m) o q e = same_ok o q e
static_is call site (part z m) o q e = same_ok o q e
static_is call site (bare z) o q e = same_ok o q e

module _ (r : Results) where
  -- ---- operands, from left to right

  all_from_is : (cs : List Carried) (ms : List Meant) → AllMatch r cs ms
      → (p : Standing) (ws : List Bits) (n k : ℕ) (vs : List Local) (us : Variables) (w : Work) → IsLong r p ws n k w → AllHold (V r p ws n k w) vs us
      → (xs : List Value) (zs : List Val) → AllShow (V r p ws n k w) xs zs
      → (ys : List Value) (v : Work) → carrying.all_from xs cs vs w ≡ Ok (ys, v)
      → Same r p ws n k (λ W bs. AllShow W ys (zs ++ bs)) w v (here r p ws n k w (meaning.all ms us))
  unfolding carrying.all_from meaning.all Carries
  all_from_is [] [] h p ws n k vs us w long hold xs zs s ys v e =
      subst (λ (o : List Value × Work). Same r p ws n k (λ W bs. AllShow W o.0 (zs ++ bs)) w o.1 (here r p ws n k w (yields []))) (same_ok (xs, w) (ys, v) e)
      (nothing_more r p ws n k (λ W bs. AllShow W xs (zs ++ bs)) w long [] (subst (AllShow (V r p ws n k w) xs) (sym (append-nil zs)) s))
  all_from_is (c ∷ cs) (m ∷ ms) h p ws n k vs us w long hold xs zs s ys v e =
      let g = got (c.carry vs w) (λ o. carrying.all_from (xs ++ o.0 ∷ []) cs vs o.1) (ys, v) e in
      let x = g.0.0 in
      let u = g.0.1 in
      let first = h.0.carries p ws n k vs us w long hold x u g.1 in
      let a = (here r p ws n k w (m.means us)).gives in
      let on = first.adds.within in
      let others = all_from_is cs ms h.1 p ws n k vs us u first.long (all_hold_within (V r p ws n k w) (V r p ws n k u) on vs us hold)
      (xs ++ x ∷ []) (zs ++ a ∷ []) (all_show_append (V r p ws n k u) xs (x ∷ []) zs (a ∷ []) (all_show_within (V r p ws n k w) (V r p ws n k u) on xs zs s) (first.gives, tt)) ys v g.2 in
      bound r p ws n k (λ W y. Shows W x y) (λ W bs. AllShow W ys (zs ++ bs)) w u v (m.means us) (λ y. evaluation.◌>>=◌ (meaning.all ms us) (λ qs. yields (y ∷ qs))) first
      (given r p ws n k (λ W bs. AllShow W ys ((zs ++ a ∷ []) ++ bs)) (λ W bs. AllShow W ys (zs ++ bs)) u v (meaning.all ms us) (λ qs. a ∷ qs) others
      (subst (AllShow (V r p ws n k v) ys) (append_assoc zs (a ∷ []) _) others.gives))
  all_from_is [] (m ∷ ms) h p ws n k vs us w long hold xs zs s ys v e = absurd h
  all_from_is (c ∷ cs) [] h p ws n k vs us w long hold xs zs s ys v e = absurd h

  pub all_is : (cs : List Carried) (ms : List Meant) → AllMatch r cs ms
      → (p : Standing) (ws : List Bits) (n k : ℕ) (vs : List Local) (us : Variables) (w : Work) → IsLong r p ws n k w → AllHold (V r p ws n k w) vs us
      → (ys : List Value) (v : Work) → carrying.all cs vs w ≡ Ok (ys, v)
      → Same r p ws n k (λ W bs. AllShow W ys bs) w v (here r p ws n k w (meaning.all ms us))
  unfolding carrying.all
  all_is cs ms h p ws n k vs us w long hold ys v e = all_from_is cs ms h p ws n k vs us w long hold [] [] tt ys v e

  pub first_same : (t : Sort) (cs : List Carried) (ms : List Meant) → AllMatch r cs ms → carrying.first_type t cs ≡ meaning.first_sort t ms
  first_same t [] [] h = refl
  first_same t (c ∷ cs) (m ∷ ms) h = h.0.sort
  first_same t [] (m ∷ ms) h = absurd h
  first_same t (c ∷ cs) [] h = absurd h
