-- What methods see of the calls of a clock: nothing of an element that does not feed them.
use Rattle.std.proofs.Common.{◌≡◌, ◌∙◌, ℕ, zero, suc, Bool, true, false, cond, List, [], ◌∷◌, ◌++◌, Option, Some, refl, sym, ap, ap₂, append-nil, inl, inr}
use Rattle.std.specs.Prelude.{slice_get}
use Rattle.std.specs.List.{AllByRecursion}
use Rattle.std.proofs.lemmas.Bool.{both_ways, false_from_ne_true, or_left, or_right}
use Rattle.std.proofs.lemmas.Grind.{flat_map-append}
use Rattle.std.proofs.lemmas.Option.{same_Some}
use Rattle.bsv_lemmas.proofs.Places.{all_from}
use Rattle.bsv_prim.specs.declared.part.Part.{Part}
use Rattle.bsv_design.specs.declared.kind.Kind.{Kind}
use Rattle.bsv_design.specs.design.Bodies.{Target}
use Rattle.bsv_design.specs.scheme.Relations.{feeds, for_some, is_seen}
use Rattle.bsv_design.specs.scheme.Schemes.{Scheme, Asking, Called, Look, calls}
use Rattle.bsv_design.specs.scheme.Serial.{by_rank, run_whole, calls_made}
use Rattle.bsv_design.specs.scheme.States.{plain, part_at, after_calls}
use Rattle.bsv_graph.specs.Orders.{In}
use Rattle.bsv_guard.specs.ElementLaws.{ElementLaws, IsUse}
use Rattle.bsv_guard.proofs.Ranks.{all_by_rank}
use Rattle.bsv_clock.specs.Looks.{seen_by, look_after, calls_in_turn}
use Rattle.bsv_clock.specs.Settling.{Doing, DoesWithin, deed, deeds}
use Rattle.bsv_clock.proofs.CallLists.{seen_by-append}

-- ---- lists of calls

pub deeds_append : (D : Doing) (ms ns : List ℕ) → deeds D (ms ++ ns) ≡ deeds D ms ++ deeds D ns
unfolding deeds
deeds_append D ms ns = flat_map-append (λ n. deed (D n)) ms ns

pub deeds_same : (D E : Doing) (ns : List ℕ) → ((n : ℕ) → In ns n → deed (D n) ≡ deed (E n)) → deeds D ns ≡ deeds E ns
unfolding deeds
deeds_same D E [] h = refl
deeds_same D E (n ∷ ns) h = ap₂ (λ (cs ds : List Called). cs ++ ds) (h n (inl refl)) (deeds_same D E ns (λ m i. h m (inr i)))

-- a look rests on what is seen
pub look_same : (ks : List Kind) (ps : List Part) (t : Target) (cs ds : List Called) → seen_by ks t cs ≡ seen_by ks t ds → look_after ks ps cs t ≡ look_after ks ps ds t
unfolding look_after
look_same ks ps t cs ds h = ap (λ (es : List Called). part_at (after_calls ks ps es) t.part) h

-- calls after that are not seen
pub look_cut : (ks : List Kind) (ps : List Part) (t : Target) (cs ds : List Called) → seen_by ks t ds ≡ [] → look_after ks ps (cs ++ ds) t ≡ look_after ks ps cs t
look_cut ks ps t cs ds h =
    look_same ks ps t (cs ++ ds) cs
    (seen_by-append ks t cs ds ∙ (ap (λ (es : List Called). seen_by ks t cs ++ es) h ∙ append-nil (seen_by ks t cs)))

-- ---- calls of methods that an element uses

abbrev pub AreUses : Scheme → ℕ → List Called → Type 0
AreUses S n cs = AllByRecursion (λ c. IsUse S n c.target) cs

pub does_uses : (S : Scheme) (D : Doing) → DoesWithin S D → (n : ℕ) → AreUses S n (deed (D n))
does_uses S D within n = all_from (λ c. IsUse S n c.target) (deed (D n)) (within n)

pub ranked_uses : (S : Scheme) → ElementLaws S → (q : Asking) (n : ℕ) (a : Look) → AreUses S n (by_rank S.kinds (calls S q n a))
ranked_uses S laws q n a =
    all_by_rank S.kinds (λ c. IsUse S n c.target) (calls S q n a)
    (all_from (λ c. IsUse S n c.target) (calls S q n a) (λ k c e. (laws.within q n a k c e).0))

pub some_use : (p : Target → Bool) (ts : List Target) (k : ℕ) (t : Target) → slice_get ts k ≡ Some t → p t ≡ true → for_some p ts ≡ true
some_use p [] k t e h = absurd (let n : ⊥ = cc in n)
some_use p (u ∷ ts) zero t e h = or_left (p u) (for_some p ts) (ap p (same_Some u t e) ∙ h)
some_use p (u ∷ ts) (suc k) t e h = or_right (p u) (for_some p ts) (some_use p ts k t e h)

module _ (S : Scheme) (n : ℕ) (t : Target) (use_ : IsUse S n t) where
  seen_feeds : (f : ℕ) (u : Target) → IsUse S f u → is_seen S.kinds u t ≡ true → feeds S f n ≡ true
  unfolding feeds
  seen_feeds f u v h =
      some_use (λ x. for_some (is_seen S.kinds x) (S.uses n)) (S.uses f) v.index u v.is
      (some_use (is_seen S.kinds u) (S.uses n) use_.index t use_.is h)

  -- of an element that does not feed it, it sees no call
  pub blind : (f : ℕ) → feeds S f n ≡ false → (cs : List Called) → AreUses S f cs → seen_by S.kinds t cs ≡ []
  unfolding seen_by
  blind f no_feed [] w = refl
  blind f no_feed (c ∷ cs) w =
      ap (λ (b : Bool). cond b (c ∷ seen_by S.kinds t cs) (seen_by S.kinds t cs))
      (false_from_ne_true (is_seen S.kinds c.target t) (λ h. both_ways (feeds S f n) no_feed (seen_feeds f c.target w.0 h)))
      ∙ blind f no_feed cs w.1

  pub blind_deeds : (D : Doing) → DoesWithin S D → (fs : List ℕ) → ((f : ℕ) → In fs f → feeds S f n ≡ false) → seen_by S.kinds t (deeds D fs) ≡ []
  unfolding deeds seen_by
  blind_deeds D within [] none = refl
  blind_deeds D within (f ∷ fs) none =
      seen_by-append S.kinds t (deed (D f)) (deeds D fs)
      ∙ ap₂ (λ (cs ds : List Called). cs ++ ds)
      (blind f (none f (inl refl)) (deed (D f)) (does_uses S D within f))
      (blind_deeds D within fs (λ g i. none g (inr i)))

  pub blind_turns : ElementLaws S → (q : Asking) (ps : List Part) (fs : List ℕ) → ((f : ℕ) → In fs f → feeds S f n ≡ false) → seen_by S.kinds t (calls_in_turn S q ps fs) ≡ []
  unfolding seen_by
  blind_turns laws q ps [] none = refl
  blind_turns laws q ps (f ∷ fs) none =
      seen_by-append S.kinds t (calls_made S q f ps) (calls_in_turn S q (run_whole S q f ps) fs)
      ∙ ap₂ (λ (cs ds : List Called). cs ++ ds)
      (blind f (none f (inl refl)) (calls_made S q f ps) (ranked_uses S laws q f (plain ps)))
      (blind_turns laws q (run_whole S q f ps) fs (λ g i. none g (inr i)))

  -- what is seen rests on what the elements do that feed it
  pub same_sight : (D E : Doing) → DoesWithin S D → DoesWithin S E → (fs : List ℕ) → ((f : ℕ) → In fs f → feeds S f n ≡ true → D f ≡ E f) → seen_by S.kinds t (deeds D fs) ≡ seen_by S.kinds t (deeds E fs)
  unfolding deeds
  same_sight D E d e [] same = refl
  same_sight D E d e (f ∷ fs) same =
      seen_by-append S.kinds t (deed (D f)) (deeds D fs)
      ∙ ap₂ (λ (cs ds : List Called). cs ++ ds) (one (feeds S f n) refl) (same_sight D E d e fs (λ g i. same g (inr i)))
      ∙ sym (seen_by-append S.kinds t (deed (E f)) (deeds E fs))
    where
      one : (b : Bool) → feeds S f n ≡ b → seen_by S.kinds t (deed (D f)) ≡ seen_by S.kinds t (deed (E f))
      one true h = ap (λ (o : Option (List Called)). seen_by S.kinds t (deed o)) (same f (inl refl) h)
      one false h = blind f h (deed (D f)) (does_uses S D d f) ∙ sym (blind f h (deed (E f)) (does_uses S E e f))
