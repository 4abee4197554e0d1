-- Nodes that are folded: each reads nodes that are there, no operator has constants alone, and no two are equal.
use Rattle.std.proofs.Common.{◌≡◌, ◌∙◌, ◌⊎◌, inl, inr, ℕ, ◌<◌, ◌≤◌, Bool, true, false, ◌&&◌, List, [], ◌∷◌, ◌++◌, length, length-append, map, Option, Some, None, option_map, refl, sym, ap, ap₂, subst, arith}
use Rattle.std.specs.Prelude.{◌==◌, slice_get, if◌then◌else◌, MatchOption}
use Rattle.std.specs.List.{AllByRecursion, list_all}
use Rattle.std.proofs.lemmas.Bool.{and_parts, cases_lt}
use Rattle.std.proofs.lemmas.Option.{same_Some, slice_get_within}
use Rattle.bsv_lemmas.proofs.Choices.{was_there}
use Rattle.bsv_lemmas.proofs.Places.{at_end, at_left, item_there}
use Rattle.bsv_bits.specs.Words.{Bits, word_not}
use Rattle.bsv_bits.specs.declared.operator.Operator.TheVariants.{Add, Sub, Mul, And, Or, Xor, Same, Less, LessSigned, Shl, Shr, Sar}
use Rattle.bsv_design.specs.design.Bodies.{at}
use Rattle.bsv_design.specs.design.Computing as computing
use Rattle.bsv_net.specs.declared.node.NetNode.{NetNode}
use Rattle.bsv_net.specs.declared.node.NetNode.TheVariants as net
use Rattle.bsv_net.specs.Placing.{node_at, or_first}
use Rattle.bsv_share.specs.Folding.{Added, Folds, IsNew, Placed, none, more}
use Rattle.bsv_share.specs.Operands.{first_operand, renamed}
use Rattle.bsv_share.specs.Sharing.{IsDistinct, IsFolded, is_constant, operands}
use Rattle.bsv_share.specs.Simplifying.{constant_in, constant_word, picked_place, same_word, three_constants, turned_place, two_constants}
use Rattle.bsv_share.proofs.Renaming.{operands_renamed}

-- ---- constants

given : (o : Option NetNode) → is_constant o ≡ true → (w : Bits) × (constant_in o ≡ Some w)
given None h = absurd (let n : ⊥ = cc in n)
given (Some (net.Constant w)) h = (w, refl)
given (Some (net.Input k)) h = absurd (let n : ⊥ = cc in n)
given (Some (net.Register k)) h = absurd (let n : ⊥ = cc in n)
given (Some (net.Not a)) h = absurd (let n : ⊥ = cc in n)
given (Some (net.Two o a b)) h = absurd (let n : ⊥ = cc in n)
given (Some (net.Pick t a b)) h = absurd (let n : ⊥ = cc in n)
given (Some (net.Slice a high low)) h = absurd (let n : ⊥ = cc in n)
given (Some (net.Join a b)) h = absurd (let n : ⊥ = cc in n)
given (Some (net.Extend a width)) h = absurd (let n : ⊥ = cc in n)
given (Some (net.SignExtend a width)) h = absurd (let n : ⊥ = cc in n)

module _ (xs : List NetNode) where
  abbrev is_constant_at : ℕ → Bool
  is_constant_at a = is_constant (slice_get xs a)

  one_never : (f : Bits → Bits) (a : ℕ) → option_map f (constant_in (slice_get xs a)) ≡ None → list_all is_constant_at (a ∷ []) ≡ true → ⊥
  one_never f a e h =
      let g = given (slice_get xs a) (and_parts (is_constant_at a) true h).0 in
      let some = ap (option_map f) g.1 in
      let n : ⊥ = cc in n

  two_never : (f : Bits → Bits → Bits) (a b : ℕ) → two_constants f (constant_in (slice_get xs a)) (constant_in (slice_get xs b)) ≡ None → list_all is_constant_at (a ∷ b ∷ []) ≡ true → ⊥
  two_never f a b e h =
      let first = and_parts (is_constant_at a) (is_constant_at b && true) h in
      let g = given (slice_get xs a) first.0 in
      let i = given (slice_get xs b) (and_parts (is_constant_at b) true first.1).0 in
      let some = ap₂ (two_constants f) g.1 i.1 in
      let n : ⊥ = cc in n

  three_never : (t a b : ℕ) → three_constants (constant_in (slice_get xs t)) (constant_in (slice_get xs a)) (constant_in (slice_get xs b)) ≡ None
      → list_all is_constant_at (t ∷ a ∷ b ∷ []) ≡ true → ⊥
  three_never t a b e h =
      let first = and_parts (is_constant_at t) (is_constant_at a && (is_constant_at b && true)) h in
      let second = and_parts (is_constant_at a) (is_constant_at b && true) first.1 in
      let g = given (slice_get xs t) first.0 in
      let i = given (slice_get xs a) second.0 in
      let j = given (slice_get xs b) (and_parts (is_constant_at b) true second.1).0 in
      let some = ap₂ (λ o p. three_constants o p (constant_in (slice_get xs b))) g.1 i.1 ∙ ap (three_constants (Some g.0) (Some i.0)) j.1 in
      let n : ⊥ = cc in n

  never : (x : NetNode) → constant_word xs x ≡ None → 0 < length (operands x) → list_all is_constant_at (operands x) ≡ true → ⊥
  never (net.Input k) e l h = omega arith
  never (net.Register k) e l h = omega arith
  never (net.Constant w) e l h = omega arith
  never (net.Not a) e l h = one_never word_not a e h
  never (net.Two o a b) e l h = two_never (computing.between o) a b e h
  never (net.Pick t a b) e l h = three_never t a b e h
  never (net.Slice a high low) e l h = one_never (λ u. computing.sliced u high low) a e h
  never (net.Join a b) e l h = two_never computing.joined a b e h
  never (net.Extend a width) e l h = one_never (λ u. computing.extended u width) a e h
  never (net.SignExtend a width) e l h = one_never (λ u. computing.sign_extended u width) a e h

  -- a node that does not read constants alone
  abbrev pub Varies : NetNode → Type 0
  Varies x = 0 < length (operands x) → list_all (λ a. is_constant (slice_get xs a)) (operands x) ≡ false

  pub varies : (x : NetNode) → constant_word xs x ≡ None → Varies x
  varies x e l = of (list_all is_constant_at (operands x)) refl
    where
      of : (b : Bool) → list_all is_constant_at (operands x) ≡ b → b ≡ false
      of true h = absurd (never x e l h)
      of false h = refl

-- ---- nodes that are there

pub record Sound (xs : List NetNode) : Type 0 where
  pub reads : (k : ℕ) (x : NetNode) → slice_get xs k ≡ Some x → AllByRecursion (λ a. a < length xs) (operands x)
  pub folded : IsFolded xs
  pub distinct : IsDistinct xs

all_below : (n m : ℕ) → n ≤ m → (ns : List ℕ) → AllByRecursion (λ a. a < n) ns → AllByRecursion (λ a. a < m) ns
all_below n m l [] h = tt
all_below n m l (a ∷ ns) h = (omega (arith, h.0), all_below n m l ns h.1)

-- constants stay constants, and others do not become any
same_constants : (xs rest : List NetNode) (ns : List ℕ) → AllByRecursion (λ a. a < length xs) ns
    → list_all (λ a. is_constant (slice_get (xs ++ rest) a)) ns ≡ list_all (λ a. is_constant (slice_get xs a)) ns
same_constants xs rest [] h = refl
same_constants xs rest (a ∷ ns) h = ap₂ (λ (p q : Bool). p && q) (ap is_constant (at_left xs rest a h.0)) (same_constants xs rest ns h.1)

-- a node of a list with one more at its end
pub last_or_before : (xs : List NetNode) (z : NetNode) (k : ℕ) (x : NetNode) → slice_get (xs ++ z ∷ []) k ≡ Some x
    → (slice_get xs k ≡ Some x) ⊎ ((k ≡ length xs) × (x ≡ z))
last_or_before xs z k x e = of (cases_lt k (length xs))
  where
    within : k < length (xs ++ z ∷ [])
    within = slice_get_within (xs ++ z ∷ []) k x e

    of : (k < length xs) ⊎ (length xs ≤ k) → (slice_get xs k ≡ Some x) ⊎ ((k ≡ length xs) × (x ≡ z))
    of (inl l) = inl (sym (at_left xs (z ∷ []) k l) ∙ e)
    of (inr l) =
        let same : k ≡ length xs = omega (arith, within, length-append xs (z ∷ [])) in
        inr (same, same_Some x z (sym e ∙ (ap (slice_get (xs ++ z ∷ [])) same ∙ at_end xs z)))

sound_more : (xs : List NetNode) (z : NetNode) → Sound xs → IsNew xs z → AllByRecursion (λ a. a < length xs) (operands z) → Varies xs z → Sound (xs ++ z ∷ [])
sound_more xs z s fresh reads vary = record {
  reads = λ k x e. reads_of x (last_or_before xs z k x e);
  folded = λ k x e l. folded_of x l (last_or_before xs z k x e);
  distinct = λ i k x e f. distinct_of i k x (last_or_before xs z i x e) (last_or_before xs z k x f);
}
  where
    longer : length xs ≤ length (xs ++ z ∷ [])
    longer = omega (arith, length-append xs (z ∷ []))

    reads_of : {k : ℕ} (x : NetNode) → (slice_get xs k ≡ Some x) ⊎ ((k ≡ length xs) × (x ≡ z)) → AllByRecursion (λ a. a < length (xs ++ z ∷ [])) (operands x)
    reads_of {k} x (inl e) = all_below (length xs) (length (xs ++ z ∷ [])) longer (operands x) (s.reads k x e)
    reads_of x (inr e) =
        subst (λ (y : NetNode). AllByRecursion (λ a. a < length (xs ++ z ∷ [])) (operands y)) (sym e.1)
        (all_below (length xs) (length (xs ++ z ∷ [])) longer (operands z) reads)

    folded_of : {k : ℕ} (x : NetNode) → 0 < length (operands x) → (slice_get xs k ≡ Some x) ⊎ ((k ≡ length xs) × (x ≡ z))
        → list_all (λ a. is_constant (slice_get (xs ++ z ∷ []) a)) (operands x) ≡ false
    folded_of {k} x l (inl e) = same_constants xs (z ∷ []) (operands x) (s.reads k x e) ∙ s.folded k x e l
    folded_of x l (inr e) =
        let m : 0 < length (operands z) = subst (λ (y : NetNode). 0 < length (operands y)) e.1 l in
        ap (λ (y : NetNode). list_all (λ a. is_constant (slice_get (xs ++ z ∷ []) a)) (operands y)) e.1
        ∙ (same_constants xs (z ∷ []) (operands z) reads ∙ vary m)

    distinct_of : (i k : ℕ) (x : NetNode) → (slice_get xs i ≡ Some x) ⊎ ((i ≡ length xs) × (x ≡ z)) → (slice_get xs k ≡ Some x) ⊎ ((k ≡ length xs) × (x ≡ z)) → i ≡ k
    distinct_of i k x (inl e) (inl f) = s.distinct i k x e f
    distinct_of i k x (inl e) (inr f) = absurd (fresh i (e ∙ ap Some f.1))
    distinct_of i k x (inr e) (inl f) = absurd (fresh k (f ∙ ap Some e.1))
    distinct_of i k x (inr e) (inr f) = e.0 ∙ sym f.0

-- ---- a node that is named in place of another one is there

if_named : (s : Bool) (a : ℕ) (r : Option ℕ) (p : ℕ) (P : ℕ → Type 0) → P a → (r ≡ Some p → P p) → (if s then Some a else r) ≡ Some p → P p
if_named true a r p P h i e = subst P (same_Some a p e) h
if_named false a r p P h i e = i e

module _ (xs : List NetNode) (s : Sound xs) where
  abbrev There : ℕ → Type 0
  There p = p < length xs

  nothing : {p : ℕ} → None ≡ Some p → There p
  nothing e = absurd (let n : ⊥ = cc in n)

  chosen_there : (c : Bool) (a b : ℕ) → There a → There b → There (if c then a else b)
  chosen_there true a b h i = h
  chosen_there false a b h i = i

  turned_there : (o : Option NetNode) (k p : ℕ) → slice_get xs k ≡ o → turned_place o ≡ Some p → There p
  turned_there None k p f e = absurd (let n : ⊥ = cc in n)
  turned_there (Some (net.Not a)) k p f e = subst There (same_Some a p e) (s.reads k (net.Not a) f).0
  turned_there (Some (net.Constant w)) k p f e = absurd (let n : ⊥ = cc in n)
  turned_there (Some (net.Input i)) k p f e = absurd (let n : ⊥ = cc in n)
  turned_there (Some (net.Register i)) k p f e = absurd (let n : ⊥ = cc in n)
  turned_there (Some (net.Two o a b)) k p f e = absurd (let n : ⊥ = cc in n)
  turned_there (Some (net.Pick t a b)) k p f e = absurd (let n : ⊥ = cc in n)
  turned_there (Some (net.Slice a high low)) k p f e = absurd (let n : ⊥ = cc in n)
  turned_there (Some (net.Join a b)) k p f e = absurd (let n : ⊥ = cc in n)
  turned_there (Some (net.Extend a width)) k p f e = absurd (let n : ⊥ = cc in n)
  turned_there (Some (net.SignExtend a width)) k p f e = absurd (let n : ⊥ = cc in n)

  picked_there : (t a b p : ℕ) → There t → There a → There b → picked_place xs t a b ≡ Some p → There p
  picked_there t a b p h i j e =
      if_named _ a _ p There i
      (if_named _ t _ p There h
      (λ f. let w = was_there (λ (w : Bits). if w.value == 1 then a else b) (constant_in (slice_get xs t)) p f in
      subst There w.2 (chosen_there (w.0.value == 1) a b i j))) e

  -- of the nodes that are named, all are there
  pub same_there : (width : ℕ) (y : NetNode) (p : ℕ) → AllByRecursion There (operands y) → same_word xs width y ≡ Some p → There p
  same_there width (net.Input k) p h e = nothing e
  same_there width (net.Register k) p h e = nothing e
  same_there width (net.Constant w) p h e = nothing e
  same_there width (net.Not a) p h e = turned_there (slice_get xs a) a p refl e
  same_there width (net.Two And a b) p h e = if_named _ a _ p There h.0 (if_named _ b _ p There h.1.0 nothing) e
  same_there width (net.Two Or a b) p h e = if_named _ a _ p There h.0 (if_named _ b _ p There h.1.0 nothing) e
  same_there width (net.Two Add a b) p h e = nothing e
  same_there width (net.Two Sub a b) p h e = nothing e
  same_there width (net.Two Mul a b) p h e = nothing e
  same_there width (net.Two Xor a b) p h e = nothing e
  same_there width (net.Two Same a b) p h e = nothing e
  same_there width (net.Two Less a b) p h e = nothing e
  same_there width (net.Two LessSigned a b) p h e = nothing e
  same_there width (net.Two Shl a b) p h e = nothing e
  same_there width (net.Two Shr a b) p h e = nothing e
  same_there width (net.Two Sar a b) p h e = nothing e
  same_there width (net.Pick t a b) p h e = picked_there t a b p h.0 h.1.0 h.1.1.0 e
  same_there width (net.Slice a high low) p h e = if_named _ a _ p There h.0 nothing e
  same_there width (net.Join a b) p h e = nothing e
  same_there width (net.Extend a wide) p h e = if_named _ a _ p There h.0 nothing e
  same_there width (net.SignExtend a wide) p h e = if_named _ a _ p There h.0 nothing e

-- ---- one node more

-- what becomes of nodes at which one more is placed
pub record Grown (xs ys : List NetNode) (place : ℕ) : Type 0 where
  pub sound : Sound ys
  pub more : List NetNode
  pub is : ys ≡ xs ++ more
  pub within : place < length ys

no_more : (xs : List NetNode) → xs ≡ xs ++ []
no_more [] = refl
no_more (x ∷ xs) = ap (λ (ys : List NetNode). x ∷ ys) (no_more xs)

grown_added : (xs ys : List NetNode) (z : NetNode) (place : ℕ) → Sound xs → AllByRecursion (λ a. a < length xs) (operands z) → Varies xs z → Added xs z ys place → Grown xs ys place
grown_added xs ys z place s reads vary h = of h.grows
  where
    of : (ys ≡ xs) ⊎ ((ys ≡ xs ++ z ∷ []) × IsNew xs z) → Grown xs ys place
    of (inl e) = record {
      sound = subst Sound (sym e) s;
      more = [];
      is = e ∙ no_more xs;
      within = slice_get_within ys place z h.there;
    }
    of (inr e) = record {
      sound = subst Sound (sym e.0) (sound_more xs z s e.1 reads vary);
      more = z ∷ [];
      is = e.0;
      within = slice_get_within ys place z h.there;
    }

pub grown : (xs ys : List NetNode) (width : ℕ) (y : NetNode) (place : ℕ) → Sound xs → AllByRecursion (λ a. a < length xs) (operands y) → Placed xs width y ys place → Grown xs ys place
grown xs ys width y place s reads h = of (constant_word xs y) (same_word xs width y) refl refl h
  where
    of : (o : Option Bits) (q : Option ℕ) → constant_word xs y ≡ o → same_word xs width y ≡ q
        → MatchOption o (MatchOption q (Added xs y ys place) (λ same. (ys ≡ xs) × (place ≡ same))) (λ w. Added xs (net.Constant w) ys place) → Grown xs ys place
    of (Some w) q e f added = grown_added xs ys (net.Constant w) place s tt (λ l. absurd (omega arith)) added
    of None None e f added = grown_added xs ys y place s reads (varies xs y e) added
    of None (Some p) e f same = record {
      sound = subst Sound (sym same.0) s;
      more = [];
      is = same.0 ∙ no_more xs;
      within = let below = same_there xs s width y p reads f in let long : length ys ≡ length xs = ap length same.0 in omega (arith, same.1);
    }

-- ---- all nodes

abbrev pub ReadsEarlier : List NetNode → Type 0
ReadsEarlier xs = (k : ℕ) (x : NetNode) → slice_get xs k ≡ Some x → AllByRecursion (λ a. a < k) (operands x)

pub record Kept (xs ys : List NetNode) (places : List ℕ) : Type 0 where
  pub sound : Sound ys
  pub long : length places ≡ length xs
  pub within : (k p : ℕ) → slice_get places k ≡ Some p → p < length ys

pub place_there : (places : List ℕ) (a : ℕ) → a < length places → (p : ℕ) × (slice_get places a ≡ Some p) × (node_at places a ≡ p)
place_there places a l = let h = item_there places a l in (h.0, h.1, ap or_first h.1)

renamed_there : (places : List ℕ) (n : ℕ) → ((k p : ℕ) → slice_get places k ≡ Some p → p < n) → (ns : List ℕ) → AllByRecursion (λ a. a < length places) ns
    → AllByRecursion (λ a. a < n) (map (node_at places) ns)
renamed_there places n within [] h = tt
renamed_there places n within (a ∷ ns) h =
    let f = place_there places a h.0 in
    (subst (λ (p : ℕ). p < n) (sym f.2) (within a f.0 f.1), renamed_there places n within ns h.1)

-- the places so far, and one more
pub last_place : (places : List ℕ) (place k p : ℕ) → slice_get (places ++ place ∷ []) k ≡ Some p → (slice_get places k ≡ Some p) ⊎ ((k ≡ length places) × (p ≡ place))
last_place places place k p e = of (cases_lt k (length places))
  where
    below : k < length (places ++ place ∷ [])
    below = slice_get_within (places ++ place ∷ []) k p e

    of : (k < length places) ⊎ (length places ≤ k) → (slice_get places k ≡ Some p) ⊎ ((k ≡ length places) × (p ≡ place))
    of (inl l) = inl (sym (at_left places (place ∷ []) k l) ∙ e)
    of (inr l) =
        let same : k ≡ length places = omega (arith, below, length-append places (place ∷ [])) in
        inr (same, same_Some p place (sym e ∙ (ap (slice_get (places ++ place ∷ [])) same ∙ at_end places place)))

module _ (vs : List Bits) where
  -- the nodes before the last one
  pub earlier : (xs all : List NetNode) (x : NetNode) → all ≡ xs ++ x ∷ [] → ReadsEarlier all → ReadsEarlier xs
  earlier xs all x e h k y there =
      h k y (ap (λ (ns : List NetNode). slice_get ns k) e ∙ (at_left xs (x ∷ []) k (slice_get_within xs k y there) ∙ there))

  pub last_reads : (xs all : List NetNode) (x : NetNode) → all ≡ xs ++ x ∷ [] → ReadsEarlier all → AllByRecursion (λ a. a < length xs) (operands x)
  last_reads xs all x e h = h (length xs) x (ap (λ (ns : List NetNode). slice_get ns (length xs)) e ∙ at_end xs x)

  pub reads_there : (xs ys : List NetNode) (places : List ℕ) (x : NetNode) → Kept xs ys places → AllByRecursion (λ a. a < length xs) (operands x)
      → AllByRecursion (λ a. a < length ys) (operands (renamed (node_at places) x))
  reads_there xs ys places x k h =
      subst (AllByRecursion (λ a. a < length ys)) (sym (operands_renamed (node_at places) x))
      (renamed_there places (length ys) k.within (operands x) (subst (λ (n : ℕ). AllByRecursion (λ a. a < n) (operands x)) (sym k.long) h))

  pub kept : {xs ys : List NetNode} {places : List ℕ} → Folds vs xs ys places → ReadsEarlier xs → Kept xs ys places
  kept none h = record {
    sound = record {
      reads = λ k x e. absurd (let n : ⊥ = cc in n);
      folded = λ k x e. absurd (let n : ⊥ = cc in n);
      distinct = λ i k x e. absurd (let n : ⊥ = cc in n);
    };
    long = refl;
    within = λ k p e. absurd (let n : ⊥ = cc in n);
  }
  kept (more {xs = xs} {more_xs = all} {ys = ys} {zs = zs} {places = places} {more_places = more_places} x place folds e f placed) h =
      let before = kept folds (earlier xs all x e h) in
      let reads = reads_there xs ys places x before (last_reads xs all x e h) in
      let g = grown ys zs (at vs (first_operand x)).width (renamed (node_at places) x) place before.sound reads placed in
      let longer : length ys ≤ length zs = let s = ap length g.is in omega (arith, s, length-append ys g.more) in
      record {
        sound = g.sound;
        long = let s = ap length e in let t = ap length f in omega (arith, s, t, before.long, length-append xs (x ∷ []), length-append places (place ∷ []));
        within = λ k p there.
            of k p longer g.within before.within (last_place places place k p (ap (λ (ps : List ℕ). slice_get ps k) (sym f) ∙ there));
      }
    where
      of : (k p : ℕ) → length ys ≤ length zs → place < length zs → ((j q : ℕ) → slice_get places j ≡ Some q → q < length ys)
          → (slice_get places k ≡ Some p) ⊎ ((k ≡ length places) × (p ≡ place)) → p < length zs
      of k p longer there within (inl i) = let below = within k p i in omega arith
      of k p longer there within (inr i) = subst (λ (n : ℕ). n < length zs) (sym i.1) there
