-- The call sites of methods that act, as they are found one by one: on each part there are its own.
use Rattle.std.proofs.Common.{◌≡◌, ◌∙◌, ℕ, zero, suc, ◌+◌, ◌<◌, Bool, true, false, cond, ◌&&◌, List, [], ◌∷◌, ◌++◌, Option, Some, None, refl, sym, ap, ap₂, subst, arith, length, map, replicate, append_assoc}
use Rattle.std.specs.Prelude.{slice_get, slice_set, ◌==◌, nat_lt}
use Rattle.std.proofs.lemmas.Bool.{eqb-true, eqb-false, lt-ltb}
use Rattle.std.proofs.lemmas.List.{append-nil, length-map, length-set}
use Rattle.std.proofs.lemmas.Option.{slice_get_within}
use Rattle.bsv_lemmas.proofs.Places.{mapped_at, set_there, set_elsewhere}
use Rattle.bsv_design.specs.declared.element.Call.{Call}
use Rattle.bsv_design.specs.declared.element.Element.{Element}
use Rattle.bsv_design.specs.declared.kind.Kind.{Kind}
use Rattle.bsv_graph.specs.Edges.{numbers_below}
use Rattle.bsv_ports.specs.declared.call_sites.CallSite.{CallSite}
use Rattle.bsv_ports.specs.CallSites.{or_none, acts_in, all_call_sites, call_sites_from, call_sites_in, call_sites_of, with_call, with_calls, with_elements}
use Rattle.bsv_net.proofs.Numbers.{number_at}
use Rattle.bsv_graph.proofs.Below.{count_below}

-- ---- lists of lists

abbrev pub call_sites_on : List (List CallSite) → ℕ → List CallSite
call_sites_on ss i = or_none (slice_get ss i)

same_on : (xs ys : List (List CallSite)) → length xs ≡ length ys → ((i : ℕ) → i < length xs → call_sites_on xs i ≡ call_sites_on ys i) → xs ≡ ys
same_on [] [] n h = refl
same_on [] (y ∷ ys) n h = absurd (omega arith)
same_on (x ∷ xs) [] n h = absurd (omega arith)
same_on (x ∷ xs) (y ∷ ys) n h =
    ap₂ (λ (z : List CallSite) (zs : List (List CallSite)). z ∷ zs) (h 0 (omega arith)) (same_on xs ys (omega arith) (λ i l. h (suc i) (omega arith)))

none_on : (n i : ℕ) → call_sites_on (replicate n []) i ≡ []
none_on zero i = refl
none_on (suc n) zero = refl
none_on (suc n) (suc i) = none_on n i

length-none : (n : ℕ) → length (replicate {A = List CallSite} n []) ≡ n
length-none zero = refl
length-none (suc n) = ap suc (length-none n)

mapped_on : (g : ℕ → List CallSite) (n i : ℕ) → i < n → call_sites_on (map g (numbers_below n)) i ≡ g i
mapped_on g n i l = ap (λ (o : Option (List CallSite)). or_none o) (mapped_at g (numbers_below n) i i (number_at n i l))

-- ---- tests

and_false : (b : Bool) → (b && false) ≡ false
and_false true = refl
and_false false = refl

and_true : (b : Bool) → (b && true) ≡ b
and_true true = refl
and_true false = refl

in_front : (b : Bool) (s : CallSite) (ss : List CallSite) → cond b (s ∷ []) [] ++ ss ≡ cond b (s ∷ ss) ss
in_front true s ss = refl
in_front false s ss = refl

acts_within : (o : Option Kind) (m : ℕ) → acts_in o m ≡ true → (k : Kind) × (o ≡ Some k)
acts_within None m e = absurd (let n : ⊥ = cc in n)
acts_within (Some k) m e = (k, refl)

-- ---- one call, those of an element, and those of all

module _ (ks : List Kind) (i : ℕ) where
  call_put : (call_sites : List (List CallSite)) → i < length call_sites → (p : ℕ) (s : CallSite) (b : Bool) → (p == i) ≡ b
      → call_sites_on (slice_set call_sites p (call_sites_on call_sites p ++ s ∷ [])) i ≡ call_sites_on call_sites i ++ cond b (s ∷ []) []
  call_put call_sites l p s true e =
      let same = eqb-true p i e in
      subst (λ (j : ℕ). call_sites_on (slice_set call_sites j (call_sites_on call_sites j ++ s ∷ [])) i ≡ call_sites_on call_sites i ++ s ∷ []) (sym same)
      (ap (λ (o : Option (List CallSite)). or_none o) (set_there call_sites i (call_sites_on call_sites i ++ s ∷ []) l))
  call_put call_sites l p s false e =
      ap (λ (o : Option (List CallSite)). or_none o) (set_elsewhere call_sites p i (call_sites_on call_sites p ++ s ∷ []) (eqb-false p i e))
      ∙ sym (append-nil (call_sites_on call_sites i))

  call_where : (call_sites : List (List CallSite)) → i < length call_sites → (p : ℕ) (s : CallSite) (a : Bool) → (a ≡ true → p < length call_sites)
      → call_sites_on (cond (nat_lt p (length call_sites) && a) (slice_set call_sites p (call_sites_on call_sites p ++ s ∷ [])) call_sites) i
      ≡ call_sites_on call_sites i ++ cond ((p == i) && a) (s ∷ []) []
  call_where call_sites l p s true h =
      ap (λ (b : Bool). call_sites_on (cond b (slice_set call_sites p (call_sites_on call_sites p ++ s ∷ [])) call_sites) i)
      (and_true (nat_lt p (length call_sites)) ∙ lt-ltb p (length call_sites) (h refl))
      ∙ (call_put call_sites l p s (p == i) refl ∙ ap (λ (b : Bool). call_sites_on call_sites i ++ cond b (s ∷ []) []) (sym (and_true (p == i))))
  call_where call_sites l p s false h =
      ap (λ (b : Bool). call_sites_on (cond b (slice_set call_sites p (call_sites_on call_sites p ++ s ∷ [])) call_sites) i) (and_false (nat_lt p (length call_sites)))
      ∙ (sym (append-nil (call_sites_on call_sites i)) ∙ ap (λ (b : Bool). call_sites_on call_sites i ++ cond b (s ∷ []) []) (sym (and_false (p == i))))

  call_on : (call_sites : List (List CallSite)) → length call_sites ≡ length ks → i < length call_sites → (c : Call) (s : CallSite)
      → call_sites_on (with_call ks call_sites c s) i ≡ call_sites_on call_sites i ++ cond ((c.part == i) && acts_in (slice_get ks c.part) c.method) (s ∷ []) []
  call_on call_sites long l c s = call_where call_sites l c.part s (acts_in (slice_get ks c.part) c.method) there
    where
      there : acts_in (slice_get ks c.part) c.method ≡ true → c.part < length call_sites
      there e =
          let k = acts_within (slice_get ks c.part) c.method e in
          omega (arith, slice_get_within ks c.part k.0 k.1)

  length-call : (call_sites : List (List CallSite)) (c : Call) (s : CallSite) → length (with_call ks call_sites c s) ≡ length call_sites
  length-call call_sites c s = of (nat_lt c.part (length call_sites) && acts_in (slice_get ks c.part) c.method)
    where
      of : (b : Bool) → length (cond b (slice_set call_sites c.part (call_sites_on call_sites c.part ++ s ∷ [])) call_sites) ≡ length call_sites
      of true = length-set call_sites c.part (call_sites_on call_sites c.part ++ s ∷ [])
      of false = refl

  length-calls : (f n : ℕ) (cs : List Call) (call_sites : List (List CallSite)) → length (with_calls ks call_sites f n cs) ≡ length call_sites
  unfolding with_calls
  length-calls f n [] call_sites = refl
  length-calls f n (c ∷ cs) call_sites =
      let s : CallSite = record { element = f; call = n; method = c.method } in
      length-calls f (n + 1) cs (with_call ks call_sites c s) ∙ length-call call_sites c s

  calls_on : (f n : ℕ) (cs : List Call) (call_sites : List (List CallSite)) → length call_sites ≡ length ks → i < length call_sites
      → call_sites_on (with_calls ks call_sites f n cs) i ≡ call_sites_on call_sites i ++ call_sites_from ks i f n cs
  unfolding with_calls call_sites_from
  calls_on f n [] call_sites long l = sym (append-nil (call_sites_on call_sites i))
  calls_on f n (c ∷ cs) call_sites long l =
      let s : CallSite = record { element = f; call = n; method = c.method } in
      let b = (c.part == i) && acts_in (slice_get ks c.part) c.method in
      let rest = call_sites_from ks i f (n + 1) cs in
      let kept = length-call call_sites c s in
      calls_on f (n + 1) cs (with_call ks call_sites c s) (kept ∙ long) (omega (arith, kept))
      ∙ (ap (λ (ss : List CallSite). ss ++ rest) (call_on call_sites long l c s)
      ∙ (append_assoc (call_sites_on call_sites i) (cond b (s ∷ []) []) rest
      ∙ ap (λ (ss : List CallSite). call_sites_on call_sites i ++ ss) (in_front b s rest)))

  module _ (es : List Element) where
    abbrev with_one : List (List CallSite) → ℕ → Option Element → List (List CallSite)
    with_one call_sites f None = call_sites
    with_one call_sites f (Some e) = with_calls ks call_sites f 0 e.calls

    length-one : (call_sites : List (List CallSite)) (f : ℕ) (o : Option Element) → length (with_one call_sites f o) ≡ length call_sites
    length-one call_sites f None = refl
    length-one call_sites f (Some e) = length-calls f 0 e.calls call_sites

    one_on : (call_sites : List (List CallSite)) → length call_sites ≡ length ks → i < length call_sites → (f : ℕ) (o : Option Element)
        → call_sites_on (with_one call_sites f o) i ≡ call_sites_on call_sites i ++ call_sites_in ks i f o
    one_on call_sites long l f None = sym (append-nil (call_sites_on call_sites i))
    one_on call_sites long l f (Some e) = calls_on f 0 e.calls call_sites long l

    length-all : (fs : List ℕ) (call_sites : List (List CallSite)) → length (with_elements ks es call_sites fs) ≡ length call_sites
    unfolding with_elements
    length-all [] call_sites = refl
    length-all (f ∷ fs) call_sites = length-all fs (with_one call_sites f (slice_get es f)) ∙ length-one call_sites f (slice_get es f)

    all_on : (fs : List ℕ) (call_sites : List (List CallSite)) → length call_sites ≡ length ks → i < length call_sites
        → call_sites_on (with_elements ks es call_sites fs) i ≡ call_sites_on call_sites i ++ call_sites_of ks es fs i
    unfolding with_elements call_sites_of
    all_on [] call_sites long l = sym (append-nil (call_sites_on call_sites i))
    all_on (f ∷ fs) call_sites long l =
        let kept = length-one call_sites f (slice_get es f) in
        let here = call_sites_in ks i f (slice_get es f) in
        let rest = call_sites_of ks es fs i in
        all_on fs (with_one call_sites f (slice_get es f)) (kept ∙ long) (omega (arith, kept))
        ∙ (ap (λ (ss : List CallSite). ss ++ rest) (one_on call_sites long l f (slice_get es f))
        ∙ append_assoc (call_sites_on call_sites i) here rest)

-- where there are none on any part at first
pub all_found : (ks : List Kind) (es : List Element) (order : List ℕ)
    → with_elements ks es (replicate (length ks) []) order ≡ all_call_sites ks es order
all_found ks es order =
    same_on (with_elements ks es none order) (all_call_sites ks es order) (long ∙ sym (length-map (numbers_below (length ks)) (call_sites_of ks es order) ∙ count_below (length ks)))
    (λ i l. let m : i < length ks = omega (arith, long) in
    all_on ks i es order none (length-none (length ks)) (omega (arith, m, length-none (length ks)))
    ∙ (ap (λ (ss : List CallSite). ss ++ call_sites_of ks es order i) (none_on (length ks) i)
    ∙ sym (mapped_on (call_sites_of ks es order) (length ks) i m)))
  where
    none : List (List CallSite)
    none = replicate (length ks) []

    long : length (with_elements ks es none order) ≡ length ks
    long = length-all ks 0 es order none ∙ length-none (length ks)
