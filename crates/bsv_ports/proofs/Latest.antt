-- The last call of a method in a list of calls.
use Rattle.std.proofs.Common.{◌≡◌, ◌∙◌, ℕ, ◌<◌, Bool, true, false, cond, ◌&&◌, List, [], ◌∷◌, map, Option, Some, refl, sym, ap, nat_lt}
use Rattle.std.specs.Prelude.{slice_get, filter, ◌==◌, if◌then◌else◌}
use Rattle.std.proofs.lemmas.Bool.{eqb-true, lt-ltb}
use Rattle.bsv_bits.specs.Words.{Bits}
use Rattle.bsv_prim.specs.Calls.{latest, seen_by}
use Rattle.bsv_prim.specs.Table.{Table, Call}
use Rattle.bsv_design.specs.declared.element.Call.{Call as SiteCall}
use Rattle.bsv_design.specs.declared.kind.Kind.{Kind}
use Rattle.bsv_design.specs.design.Bodies.{Target, target, at}
use Rattle.bsv_design.specs.parts.Kinds.{kind_table}
use Rattle.bsv_design.specs.design.Words.{is_one}
use Rattle.bsv_design.specs.scheme.Schemes.{Called, taken_actions}
use Rattle.bsv_design.specs.scheme.Serial.{by_rank}
use Rattle.bsv_design.specs.scheme.Traces.{acts, kind_at, site_at}
use Rattle.bsv_guard.specs.ElementLaws.{call_of, is_call_of}
use Rattle.bsv_guard.specs.Turns.{calls_on}
use Rattle.bsv_guard.proofs.Ranks.{ranked}
use Rattle.bsv_clock.specs.Looks as looks
use Rattle.bsv_clock.proofs.CallLists.{seen_on}
use Rattle.bsv_ports.specs.CallSites.{acts_in}

-- ---- on a part

abbrev at_method : ℕ → ℕ → Target
at_method i m = record { part = i; method = m }

-- it rests on the calls of that method of that part alone
latest_kept : (i m : ℕ) (o : Option (List Bits)) (cs : List Called)
    → latest m o (calls_on i cs) ≡ latest m o (calls_on i (filter (is_call_of (at_method i m)) cs))
latest_kept i m o [] = refl
latest_kept i m o (c ∷ cs) = cases (c.target.part == i) (c.target.method == m) refl refl (λ x. latest_kept i m x cs)
  where
    kept : List Called
    kept = filter (is_call_of (at_method i m)) cs

    cases : (a b : Bool) → (c.target.part == i) ≡ a → (c.target.method == m) ≡ b
        → ((x : Option (List Bits)) → latest m x (calls_on i cs) ≡ latest m x (calls_on i kept))
        → latest m o (cond a (call_of c ∷ calls_on i cs) (calls_on i cs)) ≡ latest m o (calls_on i (cond (a && b) (c ∷ kept) kept))
    cases true true e f rest =
        rest (if c.target.method == m then Some c.arguments else o)
        ∙ sym (ap (λ (x : Bool). latest m o (cond x (call_of c ∷ calls_on i kept) (calls_on i kept))) e)
    cases true false e f rest = ap (λ (x : Bool). latest m (if x then Some c.arguments else o) (calls_on i cs)) f ∙ rest o
    cases false b e f rest = rest o

-- by rank, it is the same
pub latest_ranked : (i m : ℕ) (o : Option (List Bits)) (ks : List Kind) (cs : List Called)
    → latest m o (calls_on i (by_rank ks cs)) ≡ latest m o (calls_on i cs)
latest_ranked i m o ks cs =
    latest_kept i m o (by_rank ks cs)
    ∙ ap (λ (ds : List Called). latest m o (calls_on i ds)) ((ranked ks cs).same (at_method i m))
    ∙ sym (latest_kept i m o cs)

-- ---- of what a method sees

pub latest_seen : (t : Table) (y m : ℕ) → t.sees m y ≡ true → (o : Option (List Bits)) (cs : List Call) → latest m o (seen_by t y cs) ≡ latest m o cs
latest_seen t y m h o [] = refl
latest_seen t y m h o (c ∷ cs) = cases (t.sees c.method y) (c.method == m) refl refl (λ x. latest_seen t y m h x cs)
  where
    cases : (a b : Bool) → t.sees c.method y ≡ a → (c.method == m) ≡ b
        → ((x : Option (List Bits)) → latest m x (seen_by t y cs) ≡ latest m x cs)
        → latest m o (cond a (c ∷ seen_by t y cs) (seen_by t y cs)) ≡ latest m (if c.method == m then Some c.args else o) cs
    cases true b e f rest = rest (if c.method == m then Some c.args else o)
    cases false true e f rest = absurd (let k : false ≡ true = sym e ∙ (ap (λ (x : ℕ). t.sees x y) (eqb-true c.method m f) ∙ h) in let n : ⊥ = cc in n)
    cases false false e f rest = rest o ∙ sym (ap (λ (x : Bool). latest m (if x then Some c.args else o) cs) f)

pub latest_unseen : (t : Table) (y m : ℕ) → t.sees m y ≡ false → (o : Option (List Bits)) (cs : List Call) → latest m o (seen_by t y cs) ≡ o
latest_unseen t y m h o [] = refl
latest_unseen t y m h o (c ∷ cs) = cases (t.sees c.method y) (c.method == m) refl refl (latest_unseen t y m h o cs)
  where
    cases : (a b : Bool) → t.sees c.method y ≡ a → (c.method == m) ≡ b → latest m o (seen_by t y cs) ≡ o
        → latest m o (cond a (c ∷ seen_by t y cs) (seen_by t y cs)) ≡ o
    cases true true e f rest = absurd (let k : true ≡ false = sym e ∙ (ap (λ (x : ℕ). t.sees x y) (eqb-true c.method m f) ∙ h) in let n : ⊥ = cc in n)
    cases true false e f rest = ap (λ (x : Bool). latest m (if x then Some c.args else o) (seen_by t y cs)) f ∙ rest
    cases false b e f rest = rest

-- of calls on parts, where the method sees this one of its part, and where it does not
module _ (ks : List Kind) (t : Target) (k : Kind) (is : kind_at ks t ≡ Some k) (m : ℕ) (o : Option (List Bits)) (cs : List Called) where
  pub latest_seen_on : (kind_table k).sees m t.method ≡ true → latest m o (calls_on t.part (looks.seen_by ks t cs)) ≡ latest m o (calls_on t.part cs)
  latest_seen_on h = ap (latest m o) (seen_on ks t k is cs) ∙ latest_seen (kind_table k) t.method m h o (calls_on t.part cs)

  pub latest_unseen_on : (kind_table k).sees m t.method ≡ false → latest m o (calls_on t.part (looks.seen_by ks t cs)) ≡ o
  latest_unseen_on h = ap (latest m o) (seen_on ks t k is cs) ∙ latest_unseen (kind_table k) t.method m h o (calls_on t.part cs)

-- ---- of the calls of an element, one by one

module _ (ks : List Kind) (i m : ℕ) (ws : List Bits) where
  -- the call acts on the method, and its arms are taken
  abbrev pub counts : SiteCall → Bool
  counts c = ((c.part == i) && acts_in (slice_get ks c.part) c.method) && ((c.method == m) && is_one (at ws c.taken))

  abbrev pub latest_made : Bool → Option (List Bits) → List SiteCall → Option (List Bits)
  latest_made fires last [] = last
  latest_made fires last (c ∷ cs) = latest_made fires (if fires && counts c then Some (map (at ws) c.args) else last) cs

  pub none_made : (last : Option (List Bits)) (cs : List SiteCall) → latest_made false last cs ≡ last
  none_made last [] = refl
  none_made last (c ∷ cs) = none_made last cs

  module _ (k : Kind) (is : slice_get ks i ≡ Some k) (below : m < (kind_table k).methods) where
    -- a method of the part that is there acts where its kind says so
    acts_there : (j n : ℕ) → j ≡ i → n ≡ m → acts_in (slice_get ks j) n ≡ acts (slice_get ks j) n
    acts_there j n e f =
        let there = ap (slice_get ks) e ∙ is in
        ap (λ (x : Option Kind). acts_in x n) there
        ∙ (ap (λ (x : ℕ). nat_lt x (kind_table k).methods && (kind_table k).is_action n) f
        ∙ (ap (λ (b : Bool). b && (kind_table k).is_action n) (lt-ltb m (kind_table k).methods below)
        ∙ sym (ap (λ (x : Option Kind). acts x n) there)))

    abbrev called : SiteCall → Called
    called c = record { target = target c; arguments = map (at ws) c.args }

    -- a call that is made is the last one, where it is of the method
    of_method : (c : SiteCall) (last : Option (List Bits)) (more : List Called) (p q : Bool) → (c.part == i) ≡ p → (c.method == m) ≡ q
        → latest m last (calls_on i (called c ∷ more)) ≡ latest m (if p && q then Some (map (at ws) c.args) else last) (calls_on i more)
    of_method c last more true q e f =
        ap (λ (x : Bool). latest m last (cond x (call_of (called c) ∷ calls_on i more) (calls_on i more))) e
        ∙ ap (λ (x : Bool). latest m (if x then Some (map (at ws) c.args) else last) (calls_on i more)) f
    of_method c last more false q e f = ap (λ (x : Bool). latest m last (cond x (call_of (called c) ∷ calls_on i more) (calls_on i more))) e

    step : (c : SiteCall) (last : Option (List Bits)) (more : List Called) (p q r s t : Bool)
        → (c.part == i) ≡ p → (c.method == m) ≡ q → (p ≡ true → q ≡ true → r ≡ s)
        → latest m (if (p && r) && (q && t) then Some (map (at ws) c.args) else last) (calls_on i more)
        ≡ latest m last (calls_on i (cond (s && t) (called c ∷ more) more))
    step c last more true true true true true e f h = sym (of_method c last more true true e f)
    step c last more true true true true false e f h = refl
    step c last more true true false false t e f h = refl
    step c last more true true true false t e f h = absurd (let x : true ≡ false = h refl refl in let n : ⊥ = cc in n)
    step c last more true true false true t e f h = absurd (let x : false ≡ true = h refl refl in let n : ⊥ = cc in n)
    step c last more true false true true true e f h = sym (of_method c last more true false e f)
    step c last more true false false true true e f h = sym (of_method c last more true false e f)
    step c last more true false true true false e f h = refl
    step c last more true false false true false e f h = refl
    step c last more true false true false t e f h = refl
    step c last more true false false false t e f h = refl
    step c last more false q r true true e f h = sym (of_method c last more false q e f)
    step c last more false q r true false e f h = refl
    step c last more false q r false t e f h = refl

    pub all_made : (last : Option (List Bits)) (cs : List SiteCall)
        → latest_made true last cs ≡ latest m last (calls_on i (taken_actions (map (site_at ks ws) cs)))
    all_made last [] = refl
    all_made last (c ∷ cs) =
        all_made (if counts c then Some (map (at ws) c.args) else last) cs
        ∙ step c last (taken_actions (map (site_at ks ws) cs)) (c.part == i) (c.method == m) (acts_in (slice_get ks c.part) c.method) (acts (slice_get ks c.part) c.method)
        (is_one (at ws c.taken)) refl refl (λ e f. acts_there c.part c.method (eqb-true c.part i e) (eqb-true c.method m f))
