-- The pieces of a method, where the signals tell the calls that it sees: they rest on those calls alone, and on the
-- registers of the part.
use Rattle.std.proofs.Common.{◌≡◌, ◌∙◌, ℕ, ◌<◌, ◌⊎◌, Bool, true, false, cond, ◌&&◌, List, [], ◌∷◌, Option, None, MatchOption, refl, sym, ap, ap₂, subst}
use Rattle.std.specs.List.{AllByRecursion}
use Rattle.bsv_bits.specs.Operators.{operate}
use Rattle.bsv_bits.specs.Words.{Bits, bit, word_not, word_slice, word_concat, word_extend}
use Rattle.bsv_prim.specs.declared.part.Part.{Part}
use Rattle.bsv_prim.specs.Calls.{IsOrderly, Tells, latest, look, seen_by}
use Rattle.bsv_prim.specs.Laws.{Laws}
use Rattle.bsv_prim.specs.Shape.{Shape, Given, IsCalled, ArgumentOf, Fixed, Inverted, Both, Chosen, Cut, Joined, Extended}
use Rattle.bsv_prim.specs.Signals.{Signals, word_of}
use Rattle.bsv_prim.specs.Speaks.{SpeaksOf}
use Rattle.bsv_prim.specs.Table.{Table, Call, CallFits, word_at}
use Rattle.bsv_prim.specs.Widths.{HasWidth}
use Rattle.bsv_ports.proofs.Latest.{latest_seen, latest_unseen}
use Rattle.bsv_net.proofs.PieceMeans.{if_one}

all_seen : (t : Table) (y : ℕ) (cs : List Call) → AllByRecursion (λ c. t.sees c.method y ≡ true) (seen_by t y cs)
all_seen t y [] = tt
all_seen t y (c ∷ cs) = cases (t.sees c.method y) refl (all_seen t y cs)
  where
    cases : (b : Bool) → t.sees c.method y ≡ b → AllByRecursion (λ c. t.sees c.method y ≡ true) (seen_by t y cs)
        → AllByRecursion (λ c. t.sees c.method y ≡ true) (cond b (c ∷ seen_by t y cs) (seen_by t y cs))
    cases true e rest = (e, rest)
    cases false e rest = rest

-- the signals tell the last call of each method that this one sees
abbrev pub TellsSeen : Table → ℕ → Signals → List Call → Type 0
TellsSeen t y v cs =
    (m : ℕ) → m < t.methods → t.sees m y ≡ true
    → MatchOption (latest m None cs) (v.called m ≡ false) (λ args. (v.called m ≡ true) × ((k : ℕ) → k < t.arity m → v.argument m k ≡ word_at args k))

module _ (t : Table) (y : ℕ) (r : ℕ → Bits) (v : Signals) (same : (n : ℕ) → n < t.registers → v.register n ≡ r n) where
  -- with these registers, and no other method is called
  abbrev seeing : Signals
  seeing = record { register = r; called = λ m. t.sees m y && v.called m; argument = v.argument }

  same_seeing : (A : ℕ → Type 0) (s : Shape) (w : ℕ) → HasWidth t s w → SpeaksOf (λ m. t.sees m y ≡ true) A s → word_of v s ≡ word_of seeing s
  same_seeing A (Given n) w h k = same n h.0
  same_seeing A (IsCalled m) w h k = ap (λ (b : Bool). bit (b && v.called m)) (sym k)
  same_seeing A (ArgumentOf m n) w h k = refl
  same_seeing A (Fixed x) w h k = refl
  same_seeing A (Inverted a) w h k = ap word_not (same_seeing A a w h k)
  same_seeing A (Both o a b) w h k = ap₂ (operate o) (same_seeing A a h.0 h.2 k.0) (same_seeing A b h.1 h.3 k.1)
  same_seeing A (Chosen c a b) w h k =
      if_one (word_of v c) (word_of seeing c) (word_of v a) (word_of seeing a) (word_of v b) (word_of seeing b)
      (same_seeing A c 1 h.0 k.0) (same_seeing A a w h.1 k.1) (same_seeing A b w h.2 k.2)
  same_seeing A (Cut a high low) w h k = ap (λ (x : Bits). word_slice x high low) (same_seeing A a h.0 h.1 k)
  same_seeing A (Joined a b) w h k = ap₂ word_concat (same_seeing A a h.0 h.2 k.0) (same_seeing A b h.1 h.3 k.1)
  same_seeing A (Extended a width) w h k = ap (λ (x : Bits). word_extend x width) (same_seeing A a h.0 h.1 k)

  abbrev Told : ℕ → Option (List Bits) → Bool → Type 0
  Told m o b = MatchOption o (b ≡ false) (λ args. (b ≡ true) × ((k : ℕ) → k < t.arity m → v.argument m k ≡ word_at args k))

  seeing_tells : (cs : List Call) → TellsSeen t y v cs → Tells t seeing (seen_by t y cs)
  seeing_tells cs told m l = cases (t.sees m y) refl
    where
      cases : (b : Bool) → t.sees m y ≡ b → Told m (latest m None (seen_by t y cs)) (t.sees m y && v.called m)
      cases true e =
          subst (λ (o : Option (List Bits)). Told m o (t.sees m y && v.called m)) (sym (latest_seen t y m e None cs))
          (subst (λ (b : Bool). Told m (latest m None cs) (b && v.called m)) (sym e) (told m l e))
      cases false e =
          subst (λ (o : Option (List Bits)). Told m o (t.sees m y && v.called m)) (sym (latest_unseen t y m e None cs))
          (ap (λ (b : Bool). b && v.called m) e)

  module _ (laws : Laws t) (p : Part) (cs : List Call) (fits : t.Fits p) (empty : t.emptied p ≡ p) (shows : t.Shows p r) (orderly : IsOrderly t p (seen_by t y cs))
      (told : TellsSeen t y v cs) (below : y < t.methods) where
    pub guard_means : word_of v (t.guard_piece y) ≡ bit (t.guard y (look t y p cs))
    guard_means =
        same_seeing (λ m. t.sees m y ≡ true) (t.guard_piece y) 1 (laws.widths.guard_piece y below) (laws.speaks.guard y below)
        ∙ laws.pieces.guard p (seen_by t y cs) y seeing fits empty shows orderly below (all_seen t y cs) (seeing_tells cs told)

    pub result_means : (args : List Bits) → CallFits t (record { method = y; args = args }) → ((k : ℕ) → k < t.arity y → v.argument y k ≡ word_at args k)
        → t.is_action y ≡ false → t.guard y (look t y p cs) ≡ true → word_of v (t.result_piece y) ≡ t.result y (look t y p cs) args
    result_means args call own reads is_ready =
        same_seeing (λ m. (t.sees m y ≡ true) ⊎ (m ≡ y)) (t.result_piece y) (t.result_width y) (laws.widths.result_piece y below reads) (laws.speaks.result y below reads)
        ∙ laws.pieces.result p (seen_by t y cs) (record { method = y; args = args }) seeing fits empty shows orderly call (all_seen t y cs) (seeing_tells cs told) own reads is_ready
