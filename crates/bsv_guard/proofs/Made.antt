-- The calls that an element makes.
use Rattle.std.proofs.Common.{◌≡◌, ◌∙◌, ℕ, zero, suc, ◌<◌, Bool, true, false, cond, not, ◌&&◌, List, [], ◌∷◌, map, Option, Some, None, refl, sym, ap, ap₂, subst, arith, inl, inr}
use Rattle.std.specs.Prelude.{slice_get, ◌==◌}
use Rattle.std.specs.List.{AllByRecursion}
use Rattle.std.proofs.lemmas.Bool.{and_parts, cases_order, eq-eqb, false_from_ne_true}
use Rattle.bsv_lemmas.proofs.Places.{mapped_at}
use Rattle.bsv_prim.specs.Table.{in_one_element, converse}
use Rattle.bsv_prim.specs.declared.primitive.Rel.{Rel}
use Rattle.bsv_prim.specs.declared.primitive.Rel.TheVariants.{Cf, Sb, Sa, Sbr, C}
use Rattle.bsv_design.specs.declared.element.Role.TheVariants as role
use Rattle.bsv_design.specs.declared.kind.Kind.{Kind}
use Rattle.bsv_design.specs.design.Branches.{apart}
use Rattle.bsv_design.specs.parts.Kinds.{kind_table, kind_laws}
use Rattle.bsv_design.specs.scheme.Relations.{may_stand, break_the_rule, no_answers, KeepsTheRule}
use Rattle.bsv_design.specs.scheme.Schemes.{Scheme, Outline, Asking, Look, Called, ports_of, filled, is_open, answers, given, seen, required, all_open, all_hold, ready, calls, taken_actions}
use Rattle.bsv_design.specs.scheme.Traces.{Site, Trace, acts, kind_at}
use Rattle.bsv_guard.specs.Sound.{IsSound, Place, place}
use Rattle.bsv_guard.specs.ElementLaws.{IsUse}
use Rattle.bsv_guard.proofs.Extends.{under, is_use, each_open, taken_is_open, called}
use Rattle.bsv_guard.proofs.Given.{given_arguments}
use Rattle.bsv_guard.proofs.Lists.{Pairs, all_at, pair_at, item_of}
use Rattle.bsv_design.proofs.Elements.{length-filled}

-- ---- of the calls of a run

abbrev IsMade : List Site → ℕ → Site → Type 0
IsMade xs k x = (slice_get xs k ≡ Some x) × (x.action ≡ true) × (x.taken ≡ true)

pub all_made : (P : Called → Type 0) (xs : List Site) → ((k : ℕ) (x : Site) → IsMade xs k x → P (called x)) → AllByRecursion P (taken_actions xs)
all_made P [] h = tt
all_made P (x ∷ xs) h =
    cases (x.action && x.taken) refl (all_made P xs (λ k y m. h (suc k) y m))
  where
    cases : (b : Bool) → (x.action && x.taken) ≡ b → AllByRecursion P (taken_actions xs) → AllByRecursion P (cond b (called x ∷ taken_actions xs) (taken_actions xs))
    cases true e rest = let parts = and_parts x.action x.taken e in (h zero x (refl, parts.0, parts.1), rest)
    cases false e rest = rest

pub pairs_made : (P : Called → Called → Type 0) (xs : List Site) → ((i j : ℕ) (x y : Site) → i < j → IsMade xs i x → IsMade xs j y → P (called x) (called y)) → Pairs P (taken_actions xs)
pairs_made P [] h = tt
pairs_made P (x ∷ xs) h =
    cases (x.action && x.taken) refl (pairs_made P xs (λ i j y z l m o. h (suc i) (suc j) y z (omega arith) m o))
  where
    cases : (b : Bool) → (x.action && x.taken) ≡ b → Pairs P (taken_actions xs) → Pairs P (cond b (called x ∷ taken_actions xs) (taken_actions xs))
    cases true e rest =
        let parts = and_parts x.action x.taken e in
        (all_made (P (called x)) xs (λ k y m. h zero (suc k) x y (omega arith) (refl, parts.0, parts.1) m), rest)
    cases false e rest = rest

none_taken : (xs : List Site) → ((k : ℕ) (x : Site) → slice_get xs k ≡ Some x → x.action ≡ false) → taken_actions xs ≡ []
none_taken [] h = refl
none_taken (x ∷ xs) h =
    ap (λ (a : Bool). cond (a && x.taken) (called x ∷ taken_actions xs) (taken_actions xs)) (h zero x refl)
    ∙ none_taken xs (λ k y e. h (suc k) y e)

-- ---- which methods may be in one element

turned : (r : Rel) → in_one_element (converse r) ≡ in_one_element r
turned Cf = refl
turned Sb = refl
turned Sa = refl
turned Sbr = refl
turned C = refl

swapped : (a b c : Bool) → (a && not b && not c) ≡ (a && not c && not b)
swapped true true true = refl
swapped true true false = refl
swapped true false true = refl
swapped true false false = refl
swapped false true true = refl
swapped false true false = refl
swapped false false true = refl
swapped false false false = refl

pub may_stand-turned : (o : Option Kind) (m n : ℕ) → may_stand o m n ≡ may_stand o n m
may_stand-turned None m n = refl
may_stand-turned (Some k) m n =
    let t = kind_table k in
    ap (λ (b : Bool). b && not (t.sees m n) && not (t.sees n m))
    (sym (ap in_one_element ((kind_laws k).table.dual m n) ∙ turned (t.relation m n)))
    ∙ swapped (in_one_element (t.relation n m)) (t.sees m n) (t.sees n m)

-- two calls on one part may be in one element
abbrev pub StandBeside : List Kind → Called → Called → Type 0
StandBeside ks c d = c.target.part ≡ d.target.part → may_stand (kind_at ks c.target) c.target.method d.target.method ≡ true

pub beside-turned : (ks : List Kind) (c d : Called) → StandBeside ks c d → StandBeside ks d c
beside-turned ks c d h e =
    ap (λ p. may_stand (slice_get ks p) d.target.method c.target.method) e
    ∙ may_stand-turned (kind_at ks c.target) d.target.method c.target.method ∙ h (sym e)

-- ---- calls that keep the rule

abbrev break_at : List Kind → Place → Place → Bool
break_at ks x y =
    (x.target.part == y.target.part) && not (apart x.branches y.branches) && not (may_stand (kind_at ks x.target) x.target.method y.target.method)

unbroken : (a b m : Bool) → a ≡ true → b ≡ false → ((a && not b && not m) ≡ true → ⊥) → m ≡ true
unbroken a b true ea eb h = refl
unbroken a b false ea eb h = absurd (h (ap₂ (λ (x y : Bool). x && not y && not false) ea eb))

module _ (S : Scheme) (ok : IsSound S) (q : Asking) (n : ℕ) where
  abbrev plain_run : Trace
  plain_run = S.trace n no_answers (filled (ports_of (slice_get S.elements n)) [])

  same_places : (a : Look) → map place (under S ok q n a).sites ≡ map place plain_run.sites
  same_places a =
      (ok.places n (answers S.kinds a) no_answers (given S q n) (filled (ports_of (slice_get S.elements n)) [])
      (given_arguments S q n) (length-filled (ports_of (slice_get S.elements n)) [])).calls

  kept_pair : KeepsTheRule S n → (a : Look) (i j : ℕ) (x y : Site) → i < j → slice_get (under S ok q n a).sites i ≡ Some x → slice_get (under S ok q n a).sites j ≡ Some y
      → break_the_rule S.kinds x y ≡ true → ⊥
  kept_pair keeps a i j x y l e f b =
      let there : (k : ℕ) (z : Site) → slice_get (under S ok q n a).sites k ≡ Some z → slice_get (map place plain_run.sites) k ≡ Some (place z) =
      λ k z g. ap (λ (ps : List Place). slice_get ps k) (sym (same_places a)) ∙ mapped_at place (under S ok q n a).sites k z g in
      let u = item_of place plain_run.sites i (place x) (there i x e) in
      let v = item_of place plain_run.sites j (place y) (there j y f) in
      keeps i j u.item v.item (record { first = u.is; second = v.is; earlier = l; breaks = ap₂ (λ (p r : Place). break_at S.kinds p r) u.gives v.gives ∙ b })

  taken_pair : KeepsTheRule S n → (a : Look) (i j : ℕ) (x y : Site) → i < j → IsMade (under S ok q n a).sites i x → IsMade (under S ok q n a).sites j y → StandBeside S.kinds (called x) (called y)
  taken_pair keeps a i j x y l e f p =
      unbroken (x.target.part == y.target.part) (apart x.branches y.branches) (may_stand (kind_at S.kinds x.target) x.target.method y.target.method)
      (eq-eqb x.target.part y.target.part p)
      (false_from_ne_true (apart x.branches y.branches)
      (λ t. ok.exclusive n (answers S.kinds a) (given S q n) (given_arguments S q n) i j x y e.0 f.0 t e.2 f.2))
      (kept_pair keeps a i j x y l e.0 f.0)

  pub pairs_beside : KeepsTheRule S n → (a : Look) → Pairs (StandBeside S.kinds) (calls S q n a)
  unfolding calls seen
  pairs_beside keeps a = pairs_made (StandBeside S.kinds) (under S ok q n a).sites (taken_pair keeps a)

  pub beside : KeepsTheRule S n → (a : Look) (i j : ℕ) (c d : Called) → slice_get (calls S q n a) i ≡ Some c → slice_get (calls S q n a) j ≡ Some d → (i ≡ j → ⊥)
      → StandBeside S.kinds c d
  beside keeps a i j c d e f other =
      elim (cases_order i j) [
        | inl same ↦ absurd (other same)
        | inr (inl before) ↦ pair_at (StandBeside S.kinds) (calls S q n a) (pairs_beside keeps a) i j c d before e f
        | inr (inr behind) ↦ beside-turned S.kinds d c (pair_at (StandBeside S.kinds) (calls S q n a) (pairs_beside keeps a) j i d c behind f e)
      ]

  -- ---- calls that are open, used and actions

  pub open_calls : (g : Bool) (a : Look) → ready g S q n a ≡ true → (k : ℕ) (c : Called) → slice_get (calls S q n a) k ≡ Some c → is_open S.kinds a c.target ≡ true
  unfolding ready seen calls
  open_calls g a r =
      let sites = (under S ok q n a).sites in
      let o = each_open g S.kinds a sites (and_parts (all_hold g (under S ok q n a).demands) (all_open g S.kinds a sites) r).1 in
      all_at (λ c. is_open S.kinds a c.target ≡ true) (taken_actions sites)
      (all_made (λ c. is_open S.kinds a c.target ≡ true) sites
      (λ k x m. taken_is_open g (is_open S.kinds a x.target) (subst (λ (t : Bool). required g t (is_open S.kinds a x.target) ≡ true) m.2 (o k x m.0))))

  pub within : (a : Look) (k : ℕ) (c : Called) → slice_get (calls S q n a) k ≡ Some c → IsUse S n c.target × (acts (kind_at S.kinds c.target) c.target.method ≡ true)
  unfolding seen calls
  within a =
      let sites = (under S ok q n a).sites in
      all_at (λ c. IsUse S n c.target × (acts (kind_at S.kinds c.target) c.target.method ≡ true)) (taken_actions sites)
      (all_made (λ c. IsUse S n c.target × (acts (kind_at S.kinds c.target) c.target.method ≡ true)) sites
      (λ k x m. (is_use S ok q n a k x m.0, sym (ok.actions n (answers S.kinds a) (given S q n) (given_arguments S q n) k x m.0) ∙ m.1)))

  pub none_made : (o : Outline) → slice_get S.elements n ≡ Some o → o.role ≡ role.Value → (a : Look) → calls S q n a ≡ []
  unfolding seen calls
  none_made o e v a = none_taken (under S ok q n a).sites (ok.values n o e v (answers S.kinds a) (given S q n) (given_arguments S q n))
