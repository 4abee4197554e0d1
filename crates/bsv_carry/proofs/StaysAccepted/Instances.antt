-- Two computations related: one with more weight over the first instances, and one over the later ones; for expressions,
-- statements, branches and labels, and for lists of them.
use Rattle.std.proofs.Common.{◌≡◌, ℕ, List, [], ◌∷◌, Option, Some, None, Result, Ok, Err, refl, inr}
use Rattle.bsv_fail.specs.Given.{◌>>=◌}
use Rattle.bsv_types.specs.Kinds.{Kind as Sort}
use Rattle.bsv_tree.specs.declared.tree.Instance.{Instance}
use Rattle.bsv_tree.specs.declared.tree.Made.{Made}
use Rattle.bsv_tree.specs.declared.tree.Made.TheVariants as made
use Rattle.bsv_tree.specs.declared.values.Count.{Count}
use Rattle.bsv_tree.specs.declared.values.Fault.{Fault}
use Rattle.bsv_tree.specs.declared.values.Local.{Local}
use Rattle.bsv_tree.specs.declared.values.Value.{Value}
use Rattle.bsv_tree.specs.declared.values.Work.{Work}
use Rattle.bsv_tree.specs.tree.Contexts.{Context, Callee}
use Rattle.bsv_tree.specs.carrying.Calls.{Caller}
use Rattle.bsv_tree.specs.carrying.Carrying.{Carry, Carried, Placing, Acts, Branched, Labelled, all_from, all, first_type}
use Rattle.bsv_carry.specs.StaysAccepted.{Stays, Grows, over}
use Rattle.bsv_carry.proofs.StaysAccepted.SideBySide.{Into, into_then, raised, heavier, at_raised, at_heavier, both_heavier}

-- what is there stays
pub stays_same : (x : Option Made) → Stays x x
stays_same None = tt
stays_same (Some (made.Primitive p k)) = refl
stays_same (Some (made.Module b)) = inr refl

-- ---- side by side

module _ (d : ℕ) where
  abbrev pub CarryInto : Carry → Carry → Type 0
  CarryInto a b = (vs : List Local) (w : Work) → Into (at_heavier d) (a vs (heavier d w)) (b vs w)

  abbrev pub ActsInto : Acts → Acts → Type 0
  ActsInto a b = (vs : List Local) (w : Work) → Into (at_heavier d) (a vs (heavier d w)) (b vs w)

  abbrev pub PlacingInto : Placing → Placing → Type 0
  PlacingInto a b = (vs : List Local) (c : Count) → Into (at_raised d) (a vs (raised d c)) (b vs c)

  pub record CarriedInto (a b : Carried) : Type 0 where
    pub sort : a.sort ≡ b.sort
    pub carry : CarryInto a.carry b.carry

  pub record BranchedInto (a b : Branched) : Type 0 where
    pub asks : (vs : List Local) (c : Count) → Into (both_heavier d) (a.asks vs (raised d c)) (b.asks vs c)
    pub arm : ActsInto a.arm b.arm

  abbrev pub EachCarry : List Carry → List Carry → Type 0
  EachCarry [] [] = Unit {0}
  EachCarry (a ∷ xs) (b ∷ ys) = CarryInto a b × EachCarry xs ys
  EachCarry _ _ = ⊥

  pub record LabelledInto (a b : Labelled) : Type 0 where
    pub labels : EachCarry a.labels b.labels
    pub arm : ActsInto a.arm b.arm

  abbrev pub EachCarried : List Carried → List Carried → Type 0
  EachCarried [] [] = Unit {0}
  EachCarried (a ∷ xs) (b ∷ ys) = CarriedInto a b × EachCarried xs ys
  EachCarried _ _ = ⊥

  abbrev pub EachActs : List Acts → List Acts → Type 0
  EachActs [] [] = Unit {0}
  EachActs (a ∷ xs) (b ∷ ys) = ActsInto a b × EachActs xs ys
  EachActs _ _ = ⊥

  abbrev pub EachBranched : List Branched → List Branched → Type 0
  EachBranched [] [] = Unit {0}
  EachBranched (a ∷ xs) (b ∷ ys) = BranchedInto a b × EachBranched xs ys
  EachBranched _ _ = ⊥

  abbrev pub EachLabelled : List Labelled → List Labelled → Type 0
  EachLabelled [] [] = Unit {0}
  EachLabelled (a ∷ xs) (b ∷ ys) = LabelledInto a b × EachLabelled xs ys
  EachLabelled _ _ = ⊥

  abbrev pub MaybeCarried : Option Carried → Option Carried → Type 0
  MaybeCarried None None = Unit {0}
  MaybeCarried (Some a) (Some b) = CarriedInto a b
  MaybeCarried _ _ = ⊥

  abbrev pub MaybeActs : Option Acts → Option Acts → Type 0
  MaybeActs None None = Unit {0}
  MaybeActs (Some a) (Some b) = ActsInto a b
  MaybeActs _ _ = ⊥

  -- a call gives the same over later instances, and from less weight
  abbrev pub CallsInto : List Instance → Caller → Caller → Type 0
  CallsInto is call next =
      (s : Context) → Grows s.instances is → (c : Callee) (xs : List Value) (w : Work) → Into (at_heavier d) (call s c xs (heavier d w))
      (next (over s is) c xs w)

  -- ---- the values of operands

  all_from_into : (cs es : List Carried) → EachCarried cs es → (xs : List Value) (vs : List Local) (w : Work)
      → Into (at_heavier d) (all_from xs cs vs (heavier d w)) (all_from xs es vs w)
  unfolding all_from
  all_from_into [] [] h xs vs w = record { seen = refl }
  all_from_into (c ∷ cs) (e ∷ es) h xs vs w = into_then _ _ (h.0.carry vs w) (λ r. all_from_into cs es h.1 _ vs r.1)
  all_from_into [] (e ∷ es) h xs vs w = absurd h
  all_from_into (c ∷ cs) [] h xs vs w = absurd h

  pub all_into : (cs es : List Carried) → EachCarried cs es → (vs : List Local) (w : Work)
      → Into (at_heavier d) (all cs vs (heavier d w)) (all es vs w)
  unfolding all
  all_into cs es h vs w = all_from_into cs es h [] vs w

  pub first_same : (cs es : List Carried) → EachCarried cs es → (t : Sort) → first_type t cs ≡ first_type t es
  first_same [] [] h t = refl
  first_same (c ∷ cs) (e ∷ es) h t = h.0.sort
  first_same [] (e ∷ es) h t = absurd h
  first_same (c ∷ cs) [] h t = absurd h

-- ---- what always meets a refusal

abbrev pub Refused : {A : Type 0} → Result A Fault → Type 0
Refused (Err e) = Unit {0}
Refused (Ok a) = ⊥

pub refused_into : {A B : Type 0} (see : B → A) (x : Result A Fault) (y : Result B Fault) → Refused x → Into see x y
refused_into see (Err e) y h = record { seen = tt }
refused_into see (Ok a) y h = absurd h

pub refused_then : {A B : Type 0} (x : Result A Fault) (f : A → Result B Fault) → ((a : A) → Refused (f a)) → Refused (x >>= f)
refused_then (Err e) f h = tt
refused_then (Ok a) f h = h a

pub refused_first : {A B : Type 0} (x : Result A Fault) (f : A → Result B Fault) → Refused x → Refused (x >>= f)
refused_first (Err e) f h = tt
refused_first (Ok a) f h = absurd h
