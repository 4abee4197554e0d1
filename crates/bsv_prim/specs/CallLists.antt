-- Lists of calls that are seen whole, and the last call of a method.
-- Proof alone: it is in specs/ since the `laws` of an impl may cite nothing of proofs/.
use Rattle.std.proofs.Common.{◌≡◌, ℕ, Bool, true, false, List, [], ◌∷◌, Option, refl, ap, sym, ◌∙◌, inl, inr}
use Rattle.std.specs.Prelude.{◌⊎◌, cond, filter, nat_eq}
use Rattle.std.specs.List.{AllByRecursion}
use Rattle.bsv_bits.specs.Words.{Bits}
use Rattle.bsv_prim.specs.Table.{Table, Call}
use Rattle.bsv_prim.specs.Calls.{after_call, after_calls, latest, look, seen_by}
use Rattle.bsv_prim.specs.declared.part.Part.{Part}

-- nothing passes the test that always fails
pub filter_none : {X : Type 0} (xs : List X) → filter (λ x. false) xs ≡ []
filter_none [] = refl
filter_none (x ∷ xs) = filter_none xs

pub all_weaker : {P Q : Call → Type 0} → ((c : Call) → P c → Q c) → (cs : List Call) → AllByRecursion P cs → AllByRecursion Q cs
all_weaker f [] h = h
all_weaker f (c ∷ cs) h = (f c h.0, all_weaker f cs h.1)

-- a list of calls that are seen, or do nothing, is seen whole
pub look_whole : (t : Table) (y : ℕ) (p : Part) (cs : List Call) → AllByRecursion (λ c. (t.sees c.method y ≡ true) ⊎ ((q : Part) → after_call t q c ≡ q)) cs → look t y p cs ≡ after_calls t p cs
look_whole t y p [] h = refl
look_whole t y p (c ∷ cs) h =
    cases (t.sees c.method y) refl h.0 (look_whole t y (after_call t p c) cs h.1) (look_whole t y p cs h.1)
  where
    cases : (b : Bool) → t.sees c.method y ≡ b → (t.sees c.method y ≡ true) ⊎ ((q : Part) → after_call t q c ≡ q)
        → look t y (after_call t p c) cs ≡ after_calls t (after_call t p c) cs → look t y p cs ≡ after_calls t p cs
        → after_calls t p (cond b (c ∷ seen_by t y cs) (seen_by t y cs)) ≡ after_calls t (after_call t p c) cs
    cases true e s seen unseen = seen
    cases false e (inl s) seen unseen = cc
    cases false e (inr s) seen unseen = unseen ∙ sym (ap (λ (q : Part). after_calls t q cs) (s p))

-- where a method is not called later, its last call stays
pub latest_none : (m : ℕ) (o : Option (List Bits)) (cs : List Call) → AllByRecursion (λ c. nat_eq c.method m ≡ false) cs → latest m o cs ≡ o
latest_none m o [] h = refl
latest_none m o (c ∷ cs) h = rw h.0 (latest_none m o cs h.1)
