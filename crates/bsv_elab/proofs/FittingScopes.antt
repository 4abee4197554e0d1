-- Variables that fit their scope fit it when one comes after, when one is set, and when the scope is cut.
use Rattle.std.proofs.Common.{◌≡◌, ℕ, zero, suc, true, false, List, [], ◌∷◌, ◌++◌, Bool, length, take, set, replicate, Option, Some, None, refl, sym, ap, subst, arith}
use Rattle.std.specs.Prelude.{nat_lt, slice_get, if◌then◌else◌}
use Rattle.std.proofs.lemmas.Bool.{ltb-false}
use Rattle.std.proofs.lemmas.List.{take_at, length-set}
use Rattle.std.proofs.lemmas.Option.{slice_get_within, same_Some}
use Rattle.bsv_types.specs.declared.typed.Typed.{Typed}
use Rattle.bsv_types.specs.Expressions.{Slot, one, many, Frame}
use Rattle.bsv_types.specs.Kinds.{Kind as Sort, part, bool}
use Rattle.bsv_types.specs.Shapes.{is_value, is_instance}
use Rattle.bsv_tree.specs.declared.statics.Binding.{Binding}
use Rattle.bsv_tree.specs.declared.statics.Static.{Static}
use Rattle.bsv_tree.specs.declared.statics.Static.TheVariants as static
use Rattle.bsv_tree.specs.declared.tree.Instance.{Instance}
use Rattle.bsv_tree.specs.declared.values.Constant.{Constant}
use Rattle.bsv_tree.specs.declared.values.Constant.TheVariants as constant
use Rattle.bsv_tree.specs.tree.Widths.{width}
use Rattle.bsv_tree.specs.tree.Trees.{shapes, Stands, AllMayStand, Fits, AllFit}
use Rattle.bsv_elab.specs.Statics.{Here, put_at, held, held_as, next_value}
use Rattle.bsv_elab.specs.Making.{width_in}
use Rattle.bsv_elab.specs.Bodies.{or_one}

-- ---- one thing in a list

put_if : {A : Type 0} (c : Bool) (xs ys : List A) → length xs ≡ length ys → length (if c then xs else ys) ≡ length ys
put_if true xs ys e = e
put_if false xs ys e = refl

pub put_length : {A : Type 0} (at : ℕ) (x : A) (xs : List A) → length (put_at at x xs) ≡ length xs
unfolding put_at
put_length at x xs = put_if (nat_lt at (length xs)) (set xs at x) xs (length-set xs at x)

set_there : {A : Type 0} (xs : List A) (at n : ℕ) (x y : A) → slice_get (set xs at x) n ≡ Some y → (n ≡ at → x ≡ y) × ((n ≡ at → ⊥) → slice_get xs n ≡ Some y)
set_there [] at n x y e = absurd cc
set_there (z ∷ xs) zero zero x y e = (λ i. same_Some x y e, λ i. absurd (i refl))
set_there (z ∷ xs) zero (suc n) x y e = (λ i. absurd (omega arith), λ i. e)
set_there (z ∷ xs) (suc at) zero x y e = (λ i. absurd (omega arith), λ i. e)
set_there (z ∷ xs) (suc at) (suc n) x y e = let h = set_there xs at n x y e in (λ i. h.0 (omega arith), λ i. h.1 (λ j. i (ap suc j)))

put_there_if : {A : Type 0} (c : Bool) (xs ys : List A) (at n : ℕ) (x y : A) → nat_lt at (length ys) ≡ c → xs ≡ set ys at x → slice_get (if c then xs else ys) n ≡ Some y
    → (n ≡ at → x ≡ y) × ((n ≡ at → ⊥) → slice_get ys n ≡ Some y)
put_there_if true xs ys at n x y is same e = set_there ys at n x y (subst (λ zs. slice_get zs n ≡ Some y) same e)
put_there_if false xs ys at n x y is same e = let within = slice_get_within ys n y e in let past = ltb-false at (length ys) is in (λ i. absurd (omega arith), λ i. e)

-- what is in a list where a thing was put
pub put_there : {A : Type 0} (xs : List A) (at n : ℕ) (x y : A) → slice_get (put_at at x xs) n ≡ Some y → (n ≡ at → x ≡ y) × ((n ≡ at → ⊥) → slice_get xs n ≡ Some y)
unfolding put_at
put_there xs at n x y e = put_there_if (nat_lt at (length xs)) (set xs at x) xs at n x y refl refl e

-- ---- values

-- neither an instance nor an array of them
abbrev pub IsPlain : Static → Type 0
IsPlain (static.Place n) = ⊥
IsPlain (static.Places ns) = ⊥
IsPlain _ = Unit {0}

held_plain : (c : Constant) → IsPlain (held c)
held_plain (constant.Number n) = tt
held_plain (constant.Bits w) = tt

pub held_as_plain : (k : Sort) (c : Constant) → IsPlain (held_as k c)
held_as_plain bool (constant.Number n) = tt
held_as_plain bool (constant.Bits w) = tt
held_as_plain _ c = held_plain c

pub next_plain : (x : Static) (c : Constant) → IsPlain (next_value x c)
next_plain (static.Truth b) (constant.Number n) = tt
next_plain (static.Truth b) (constant.Bits w) = tt
next_plain _ c = held_plain c

module _ (t : Typed) (is : List Instance) where
  pub plain_fits : (k : Sort) (x : Static) → IsPlain x → is_value (shapes t) k ≡ true → Fits t is (one k) x
  plain_fits k (static.Number n) plain value = value
  plain_fits k (static.Bits w) plain value = value
  plain_fits k (static.Truth b) plain value = value
  plain_fits k (static.Place n) plain value = absurd plain
  plain_fits k (static.Places ns) plain value = absurd plain

  -- ---- arrays

  pub none_stand : (k : Sort) (n : ℕ) → AllMayStand t is k (replicate n None)
  none_stand k zero = tt
  none_stand k (suc n) = (tt, none_stand k n)

  may_at : (k : Sort) (ns : List (Option ℕ)) (at n : ℕ) → AllMayStand t is k ns → slice_get ns at ≡ Some (Some n) → Stands t is k n
  may_at k [] at n h e = absurd cc
  may_at k (None ∷ ns) zero n h e = absurd cc
  may_at k (Some m ∷ ns) zero n h e = let same : m ≡ n = cc in subst (Stands t is k) same h.0
  may_at k (m ∷ ns) (suc at) n h e = may_at k ns at n h.1 e

  may_set : (k : Sort) (ns : List (Option ℕ)) (at n : ℕ) → AllMayStand t is k ns → Stands t is k n → AllMayStand t is k (set ns at (Some n))
  may_set k [] at n h g = tt
  may_set k (m ∷ ns) zero n h g = (g, h.1)
  may_set k (m ∷ ns) (suc at) n h g = (h.0, may_set k ns at n h.1 g)

  may_if : (c : Bool) (k : Sort) (xs ys : List (Option ℕ)) → AllMayStand t is k xs → AllMayStand t is k ys → AllMayStand t is k (if c then xs else ys)
  may_if true k xs ys h g = h
  may_if false k xs ys h g = g

  pub may_put : (k : Sort) (ns : List (Option ℕ)) (at n : ℕ) → AllMayStand t is k ns → Stands t is k n → AllMayStand t is k (put_at at (Some n) ns)
  unfolding put_at
  may_put k ns at n h g = may_if (nat_lt at (length ns)) k (set ns at (Some n)) ns (may_set k ns at n h g) h

  pub stands_may : (k : Sort) (ns : List (Option ℕ)) (at n : ℕ) → AllMayStand t is k ns → slice_get ns at ≡ Some (Some n) → Stands t is k n
  stands_may = may_at

  -- ---- scopes

  pub fit_length : (f : Frame) (bs : List Binding) → AllFit t is f bs → length bs ≡ length f
  fit_length [] [] h = refl
  fit_length [] (b ∷ bs) h = absurd h
  fit_length (s ∷ f) [] h = absurd h
  fit_length (s ∷ f) (b ∷ bs) h = ap suc (fit_length f bs h.1)

  pub fit_more : (f : Frame) (bs : List Binding) (s : Slot) (b : Binding) → AllFit t is f bs → Fits t is s b.value → AllFit t is (f ++ s ∷ []) (bs ++ b ∷ [])
  fit_more [] [] s b h g = (g, tt)
  fit_more [] (c ∷ bs) s b h g = absurd h
  fit_more (r ∷ f) [] s b h g = absurd h
  fit_more (r ∷ f) (c ∷ bs) s b h g = (h.0, fit_more f bs s b h.1 g)

  pub fit_at : (f : Frame) (bs : List Binding) (level : ℕ) (s : Slot) (b : Binding) → AllFit t is f bs → slice_get f level ≡ Some s → slice_get bs level ≡ Some b → Fits t is s b.value
  fit_at [] bs level s b h e g = absurd cc
  fit_at (r ∷ f) [] level s b h e g = absurd h
  fit_at (r ∷ f) (c ∷ bs) zero s b h e g = subst (λ (x : Binding). Fits t is s x.value) (same_Some c b g) (subst (λ z. Fits t is z c.value) (same_Some r s e) h.0)
  fit_at (r ∷ f) (c ∷ bs) (suc level) s b h e g = fit_at f bs level s b h.1 e g

  fit_set : (f : Frame) (bs : List Binding) (level : ℕ) (s : Slot) (b : Binding) → AllFit t is f bs → slice_get f level ≡ Some s → Fits t is s b.value → AllFit t is f (set bs level b)
  fit_set [] bs level s b h e g = absurd cc
  fit_set (r ∷ f) [] level s b h e g = absurd h
  fit_set (r ∷ f) (c ∷ bs) zero s b h e g = (subst (λ z. Fits t is z b.value) (sym (same_Some r s e)) g, h.1)
  fit_set (r ∷ f) (c ∷ bs) (suc level) s b h e g = (h.0, fit_set f bs level s b h.1 e g)

  fit_if : (c : Bool) (f : Frame) (xs ys : List Binding) → AllFit t is f xs → AllFit t is f ys → AllFit t is f (if c then xs else ys)
  fit_if true f xs ys h g = h
  fit_if false f xs ys h g = g

  pub fit_put : (f : Frame) (bs : List Binding) (level : ℕ) (s : Slot) (b : Binding) → AllFit t is f bs → slice_get f level ≡ Some s → Fits t is s b.value → AllFit t is f (put_at level b bs)
  unfolding put_at
  fit_put f bs level s b h e g = fit_if (nat_lt level (length bs)) f (set bs level b) bs (fit_set f bs level s b h e g) h

  pub fit_levels : (n : ℕ) (f : Frame) (bs : List Binding) → AllFit t is f bs → AllFit t is (take n f) (take n bs)
  fit_levels zero f bs h = tt
  fit_levels (suc n) [] [] h = tt
  fit_levels (suc n) [] (b ∷ bs) h = absurd h
  fit_levels (suc n) (s ∷ f) [] h = absurd h
  fit_levels (suc n) (s ∷ f) (b ∷ bs) h = (h.0, fit_levels n f bs h.1)

  pub fit_cut : (f more : Frame) (bs : List Binding) → AllFit t is (f ++ more) bs → AllFit t is f (take (length f) bs)
  fit_cut f more bs h = subst (λ g. AllFit t is g (take (length f) bs)) (take_at f more (length f) refl) (fit_levels (length f) (f ++ more) bs h)

-- ---- how wide what arrays hold is

module _ (t : Typed) where
  abbrev pub wide : Sort → ℕ
  wide (part p k) = width (shapes t) k
  wide k = 1

  -- an array is of instances, and has the width of what they hold
  abbrev pub Wide : Slot → ℕ → Type 0
  Wide (one k) w = Unit {0}
  Wide (many k) w = (w ≡ wide k) × (is_instance (shapes t) k ≡ true)

  abbrev pub AllWide : Frame → List ℕ → Type 0
  AllWide [] [] = Unit {0}
  AllWide (s ∷ f) (w ∷ ws) = Wide s w × AllWide f ws
  AllWide _ _ = ⊥

  pub wide_more : (f : Frame) (ws : List ℕ) (s : Slot) (w : ℕ) → AllWide f ws → Wide s w → AllWide (f ++ s ∷ []) (ws ++ w ∷ [])
  wide_more [] [] s w h g = (g, tt)
  wide_more [] (v ∷ ws) s w h g = absurd h
  wide_more (r ∷ f) [] s w h g = absurd h
  wide_more (r ∷ f) (v ∷ ws) s w h g = (h.0, wide_more f ws s w h.1 g)

  pub wide_at : (f : Frame) (ws : List ℕ) (level : ℕ) (k : Sort) → AllWide f ws → slice_get f level ≡ Some (many k) → (or_one (slice_get ws level) ≡ wide k) × (is_instance (shapes t) k ≡ true)
  wide_at [] ws level k h e = absurd cc
  wide_at (r ∷ f) [] level k h e = absurd h
  wide_at (r ∷ f) (w ∷ ws) zero k h e = subst (λ z. Wide z w) (same_Some r (many k) e) h.0
  wide_at (r ∷ f) (w ∷ ws) (suc level) k h e = wide_at f ws level k h.1 e

  wide_levels : (n : ℕ) (f : Frame) (ws : List ℕ) → AllWide f ws → AllWide (take n f) (take n ws)
  wide_levels zero f ws h = tt
  wide_levels (suc n) [] [] h = tt
  wide_levels (suc n) [] (w ∷ ws) h = absurd h
  wide_levels (suc n) (s ∷ f) [] h = absurd h
  wide_levels (suc n) (s ∷ f) (w ∷ ws) h = (h.0, wide_levels n f ws h.1)

  pub wide_cut : (f more : Frame) (ws : List ℕ) → AllWide (f ++ more) ws → AllWide f (take (length f) ws)
  wide_cut f more ws h = subst (λ g. AllWide g (take (length f) ws)) (take_at f more (length f) refl) (wide_levels (length f) (f ++ more) ws h)

  pub wide_is : (here : Here) (k : Sort) → here.shapes ≡ shapes t → width_in here k ≡ wide k
  wide_is here (part p k) same = ap (λ s. width s k) same
  wide_is here _ same = refl
