-- What an element does under two looks.
use Rattle.std.proofs.Common.{◌≡◌, ◌∙◌, ℕ, zero, suc, Bool, true, false, cond, not, ◌&&◌, ◌||◌, List, [], ◌∷◌, Some, refl, sym, ap, ap₂, subst}
use Rattle.std.specs.Prelude.{slice_get}
use Rattle.std.proofs.lemmas.Bool.{and_parts, and_from}
use Rattle.bsv_lemmas.proofs.Places.{mapped_at}
use Rattle.bsv_bits.specs.Words.{Bits}
use Rattle.bsv_design.specs.declared.kind.Kind.{Kind}
use Rattle.bsv_design.specs.design.Bodies.{Target}
use Rattle.bsv_design.specs.design.Branches.{AreSameWhereTaken, AreSameSites, AreSameDemands, IsSameSite}
use Rattle.bsv_design.specs.scheme.Schemes.{Scheme, Asking, Look, Called, is_open, guard_of, result_of, no_result, answers, given, seen, required, all_open, all_hold, ready, calls, value, taken_actions}
use Rattle.bsv_design.specs.scheme.Traces.{Site, Demand, Trace, kind_at}
use Rattle.bsv_guard.specs.Sound.{IsSound}
use Rattle.bsv_guard.specs.ElementLaws.{IsUse, ActsAlike, StaysOpen}
use Rattle.bsv_guard.proofs.Agree.{decided_by_reads}
use Rattle.bsv_guard.proofs.Given.{given_arguments}

-- ---- one look

pub answer_open : (ks : List Kind) (a : Look) (k : ℕ) (t : Target) (args : List Bits) → is_open ks a t ≡ true → answers ks a k t args ≡ result_of (kind_at ks t) t.method (a t) args
unfolding answers
answer_open ks a k t args e = ap (λ (b : Bool). cond b (result_of (kind_at ks t) t.method (a t) args) (no_result (kind_at ks t) t.method)) e

-- each call that has to be open is so
abbrev pub EachOpen : Bool → List Kind → Look → List Site → Type 0
EachOpen aggressive ks a xs = (k : ℕ) (x : Site) → slice_get xs k ≡ Some x → required aggressive x.taken (is_open ks a x.target) ≡ true

pub each_open : (g : Bool) (ks : List Kind) (a : Look) (xs : List Site) → all_open g ks a xs ≡ true → EachOpen g ks a xs
each_open g ks a [] h k x e = absurd (let n : ⊥ = cc in n)
each_open g ks a (y ∷ ys) h zero x e =
    let parts = and_parts (required g y.taken (is_open ks a y.target)) (all_open g ks a ys) h in
    let same : y ≡ x = cc in
    subst (λ (z : Site). required g z.taken (is_open ks a z.target) ≡ true) same parts.0
each_open g ks a (y ∷ ys) h (suc k) x e =
    each_open g ks a ys (and_parts (required g y.taken (is_open ks a y.target)) (all_open g ks a ys) h).1 k x e

pub from_each_open : (g : Bool) (ks : List Kind) (a : Look) (xs : List Site) → EachOpen g ks a xs → all_open g ks a xs ≡ true
from_each_open g ks a [] h = refl
from_each_open g ks a (y ∷ ys) h =
    and_from (required g y.taken (is_open ks a y.target)) (all_open g ks a ys) (h zero y refl) (from_each_open g ks a ys (λ k x e. h (suc k) x e))

pub taken_is_open : (g o : Bool) → required g true o ≡ true → o ≡ true
taken_is_open g true h = refl
taken_is_open true false h = absurd (let n : ⊥ = cc in n)
taken_is_open false false h = absurd (let n : ⊥ = cc in n)

plain_is_open : (t o : Bool) → required false t o ≡ true → o ≡ true
plain_is_open t true h = refl
plain_is_open t false h = absurd (let n : ⊥ = cc in n)

open_is_enough : (g t o : Bool) → o ≡ true → required g t o ≡ true
open_is_enough g t o h = ap (λ (b : Bool). b || (g && not t)) h

required_where_taken : (t o : Bool) → (t ≡ true → o ≡ true) → required true t o ≡ true
required_where_taken true o h = open_is_enough true true o (h refl)
required_where_taken false true h = refl
required_where_taken false false h = refl

-- ---- two runs that are the same where taken

open_again : (ks : List Kind) (b : Look) (xs ys : List Site) → AreSameSites xs ys
    → ((k : ℕ) (x : Site) → slice_get xs k ≡ Some x → x.taken ≡ true → is_open ks b x.target ≡ true) → all_open true ks b ys ≡ true
open_again ks b [] [] s h = refl
open_again ks b [] (y ∷ ys) s h = absurd s
open_again ks b (x ∷ xs) [] s h = absurd s
open_again ks b (x ∷ xs) (y ∷ ys) s h =
    and_from (required true y.taken (is_open ks b y.target)) (all_open true ks b ys)
    (required_where_taken y.taken (is_open ks b y.target)
    (λ t. subst (λ (z : Target). is_open ks b z ≡ true) s.0.target (h zero x refl (s.0.taken ∙ t))))
    (open_again ks b xs ys s.1 (λ k z e. h (suc k) z e))

held : (t o p : Bool) → (t ≡ true → o ≡ p) → required true t o ≡ required true t p
held true o p h = ap (λ (b : Bool). required true true b) (h refl)
held false true true h = refl
held false true false h = refl
held false false true h = refl
held false false false h = refl

hold_again : (xs ys : List Demand) → AreSameDemands xs ys → all_hold true xs ≡ all_hold true ys
hold_again [] [] s = refl
hold_again [] (y ∷ ys) s = absurd s
hold_again (x ∷ xs) [] s = absurd s
hold_again (x ∷ xs) (y ∷ ys) s =
    ap₂ (λ (a b : Bool). a && b)
    (held x.taken x.holds y.holds s.0.holds ∙ ap (λ (t : Bool). required true t y.holds) s.0.taken)
    (hold_again xs ys s.1)

abbrev pub called : Site → Called
called x = record { target = x.target; arguments = x.arguments }

-- what a call adds to those that are made
abbrev made_first : Bool → Bool → Called → List Called → List Called
made_first action taken c cs = cond (action && taken) (c ∷ cs) cs

none_first : (action : Bool) (c d : Called) (cs ds : List Called) → cs ≡ ds → made_first action false c cs ≡ made_first action false d ds
none_first true c d cs ds e = e
none_first false c d cs ds e = e

same_first : (x y : Site) (cs ds : List Called) → IsSameSite x y → cs ≡ ds → made_first x.action x.taken (called x) cs ≡ made_first y.action y.taken (called y) ds
same_first x y cs ds s e =
    cases x.taken refl ∙ ap₂ (λ (a t : Bool). made_first a t (called y) ds) s.action s.taken
  where
    cases : (t : Bool) → x.taken ≡ t → made_first x.action x.taken (called x) cs ≡ made_first x.action x.taken (called y) ds
    cases true h =
        ap₂ (λ (c : Called) (es : List Called). made_first x.action x.taken c es)
        (ap₂ (λ (t : Target) (args : List Bits). record { target = t; arguments = args }) s.target (s.arguments h)) e
    cases false h =
        ap (λ (t : Bool). made_first x.action t (called x) cs) h
        ∙ none_first x.action (called x) (called y) cs ds e
        ∙ ap (λ (t : Bool). made_first x.action t (called y) ds) (sym h)

made_again : (xs ys : List Site) → AreSameSites xs ys → taken_actions xs ≡ taken_actions ys
made_again [] [] s = refl
made_again [] (y ∷ ys) s = absurd s
made_again (x ∷ xs) [] s = absurd s
made_again (x ∷ xs) (y ∷ ys) s = same_first x y (taken_actions xs) (taken_actions ys) s.0 (made_again xs ys s.1)

-- ---- two looks

-- the calls of a run under the one look that are open stay so, and those that give a value give the same
abbrev pub SitesStay : List Kind → Look → Look → List Site → Type 0
SitesStay ks a b xs =
    (k : ℕ) (x : Site) → slice_get xs k ≡ Some x → is_open ks a x.target ≡ true
    → (is_open ks b x.target ≡ true)
    × (x.action ≡ false → result_of (kind_at ks x.target) x.target.method (a x.target) x.arguments ≡ result_of (kind_at ks x.target) x.target.method (b x.target) x.arguments)

module _ (S : Scheme) (ok : IsSound S) (q : Asking) (n : ℕ) where
  -- what the element does under a look
  abbrev pub under : Look → Trace
  under a = S.trace n (answers S.kinds a) (given S q n)

  pub is_use : (a : Look) (k : ℕ) (x : Site) → slice_get (under a).sites k ≡ Some x → IsUse S n x.target
  is_use a k x e =
      record {
        index = k;
        is = ap (λ (ts : List Target). slice_get ts k) (sym (ok.uses n (answers S.kinds a) (given S q n) (given_arguments S q n)))
            ∙ mapped_at (λ (y : Site). y.target) (under a).sites k x e;
      }

  same_answers : (a b : Look) → SitesStay S.kinds a b (under a).sites → (k : ℕ) (x : Site) → slice_get (under a).sites k ≡ Some x → x.action ≡ false → is_open S.kinds a x.target ≡ true
      → answers S.kinds a k x.target x.arguments ≡ answers S.kinds b k x.target x.arguments
  same_answers a b h k x e read o =
      let stay = h k x e o in
      answer_open S.kinds a k x.target x.arguments o ∙ stay.1 read ∙ sym (answer_open S.kinds b k x.target x.arguments stay.0)

  -- where all calls are open, the run is the same
  plainly : (a b : Look) → SitesStay S.kinds a b (under a).sites → EachOpen false S.kinds a (under a).sites → under a ≡ under b
  plainly a b h o =
      ok.local n (answers S.kinds a) (answers S.kinds b) (given S q n) (given_arguments S q n)
      (λ k x e read. same_answers a b h k x e read (plain_is_open x.taken (is_open S.kinds a x.target) (o k x e)))

  plainly_open : (a b : Look) → SitesStay S.kinds a b (under a).sites → EachOpen false S.kinds a (under a).sites → all_open false S.kinds b (under a).sites ≡ true
  plainly_open a b h o =
      from_each_open false S.kinds b (under a).sites
      (λ k x e. open_is_enough false x.taken (is_open S.kinds b x.target) (h k x e (plain_is_open x.taken (is_open S.kinds a x.target) (o k x e))).0)

  -- where the taken ones are, it is the same where taken
  where_taken : (a b : Look) → SitesStay S.kinds a b (under a).sites → EachOpen true S.kinds a (under a).sites → AreSameWhereTaken (under a) (under b)
  where_taken a b h o =
      decided_by_reads S ok n (given S q n) (given_arguments S q n) (answers S.kinds a) (answers S.kinds b)
      (λ k x e t read. same_answers a b h k x e read (taken_is_open true (is_open S.kinds a x.target) (subst (λ (u : Bool). required true u (is_open S.kinds a x.target) ≡ true) t (o k x e))))

  open_where_taken : (a b : Look) → SitesStay S.kinds a b (under a).sites → EachOpen true S.kinds a (under a).sites → all_open true S.kinds b (under b).sites ≡ true
  open_where_taken a b h o =
      open_again S.kinds b (under a).sites (under b).sites (where_taken a b h o).sites
      (λ k x e t. (h k x e (taken_is_open true (is_open S.kinds a x.target) (subst (λ (u : Bool). required true u (is_open S.kinds a x.target) ≡ true) t (o k x e)))).0)

  -- the same, of an element that is ready
  pub extends_at : (g : Bool) (a b : Look) → SitesStay S.kinds a b (under a).sites → ready g S q n a ≡ true → ActsAlike g S q n a b
  unfolding ready seen calls value
  extends_at false a b h r =
      let parts = and_parts (all_hold false (under a).demands) (all_open false S.kinds a (under a).sites) r in
      let o = each_open false S.kinds a (under a).sites parts.1 in
      let same = plainly a b h o in
      record {
        same_ready =
            r ∙ sym (subst (λ (t : Trace). (all_hold false t.demands && all_open false S.kinds b t.sites) ≡ true) same
            (and_from (all_hold false (under a).demands) (all_open false S.kinds b (under a).sites) parts.0 (plainly_open a b h o)));
        same_calls = ap (λ (t : Trace). taken_actions t.sites) same;
        same_value = ap (λ (t : Trace). t.result) same;
      }
  extends_at true a b h r =
      let parts = and_parts (all_hold true (under a).demands) (all_open true S.kinds a (under a).sites) r in
      let o = each_open true S.kinds a (under a).sites parts.1 in
      let same = where_taken a b h o in
      record {
        same_ready =
            r ∙ sym (and_from (all_hold true (under b).demands) (all_open true S.kinds b (under b).sites)
            (sym (hold_again (under a).demands (under b).demands same.demands) ∙ parts.0) (open_where_taken a b h o));
        same_calls = made_again (under a).sites (under b).sites same.sites;
        same_value = same.result;
      }

  pub extends : (g : Bool) (a b : Look) → ((t : Target) → IsUse S n t → is_open S.kinds a t ≡ true → StaysOpen S.kinds a b t) → ready g S q n a ≡ true → ActsAlike g S q n a b
  extends g a b h r =
      extends_at g a b
      (λ k x e o.
      let stay = h x.target (is_use a k x e) o in
      (stay.guard, λ read. stay.result (sym (ok.actions n (answers S.kinds a) (given S q n) (given_arguments S q n) k x e) ∙ read) x.arguments)) r

  -- ---- looks that are equal where the element looks

  equal_answers : (a b : Look) → ((t : Target) → IsUse S n t → a t ≡ b t) → under a ≡ under b
  unfolding answers
  equal_answers a b h =
      ok.local n (answers S.kinds a) (answers S.kinds b) (given S q n) (given_arguments S q n)
      (λ k x e read.
      ap (λ p. cond (guard_of (kind_at S.kinds x.target) x.target.method p) (result_of (kind_at S.kinds x.target) x.target.method p x.arguments) (no_result (kind_at S.kinds x.target) x.target.method))
      (h x.target (is_use a k x e)))

  equally_open : (g : Bool) (a b : Look) (xs : List Site) → ((k : ℕ) (x : Site) → slice_get xs k ≡ Some x → a x.target ≡ b x.target) → all_open g S.kinds a xs ≡ all_open g S.kinds b xs
  equally_open g a b [] h = refl
  equally_open g a b (x ∷ xs) h =
      ap₂ (λ p (o : Bool). required g x.taken (guard_of (kind_at S.kinds x.target) x.target.method p) && o)
      (h zero x refl) (equally_open g a b xs (λ k y e. h (suc k) y e))

  pub local : (g : Bool) (a b : Look) → ((t : Target) → IsUse S n t → a t ≡ b t) → ActsAlike g S q n a b
  unfolding ready seen calls value
  local g a b h =
      let same = equal_answers a b h in
      record {
        same_ready =
            ap (λ (o : Bool). all_hold g (under a).demands && o) (equally_open g a b (under a).sites (λ k x e. h x.target (is_use a k x e)))
            ∙ ap (λ (t : Trace). all_hold g t.demands && all_open g S.kinds b t.sites) same;
        same_calls = ap (λ (t : Trace). taken_actions t.sites) same;
        same_value = ap (λ (t : Trace). t.result) same;
      }
