-- Calls of different methods: none is asked before it.
use Rattle.std.proofs.Common.{◌≡◌, ◌≢◌, ◌∙◌, ℕ, zero, suc, Bool, true, false, List, [], ◌∷◌, slice_get, slice_set, Some, unwrap_or, refl, sym, ap}
use Rattle.bsv_lemmas.proofs.Places.{mapped_at}
use Rattle.bsv_design.specs.scheme.Schemes.{Asking, Outline}
use Rattle.bsv_trace.specs.Lines.{MethodCall, AreCalls, CallsNot, AreApart, asked_with, nothing_of}
use Rattle.bsv_trace.proofs.Sound.{is_asked, AreFresh}

abbrev flag : List Bool → ℕ → Bool
flag asked n = unwrap_or (slice_get asked n) true

set_here : (asked : List Bool) (n : ℕ) → flag (slice_set asked n true) n ≡ true
set_here [] n = refl
set_here (a ∷ asked) zero = refl
set_here (a ∷ asked) (suc n) = set_here asked n

set_kept : (asked : List Bool) (m n : ℕ) → flag asked m ≡ true → flag (slice_set asked n true) m ≡ true
set_kept [] m n h = refl
set_kept (a ∷ asked) zero zero h = refl
set_kept (a ∷ asked) zero (suc n) h = h
set_kept (a ∷ asked) (suc m) zero h = h
set_kept (a ∷ asked) (suc m) (suc n) h = set_kept asked m n h

set_other : (asked : List Bool) (m n : ℕ) → n ≢ m → flag (slice_set asked n true) m ≡ flag asked m
set_other [] m n other = refl
set_other (a ∷ asked) zero zero other = absurd (other refl)
set_other (a ∷ asked) zero (suc n) other = refl
set_other (a ∷ asked) (suc m) zero other = refl
set_other (a ∷ asked) (suc m) (suc n) other = set_other asked m n (λ same. other (ap suc same))

-- ---- what is fresh is apart

others : (q : Asking) (m : ℕ) (cs : List MethodCall) → is_asked q m ≡ true → AreFresh q cs → CallsNot m cs
others q m [] asked fresh = tt
others q m (c ∷ cs) asked fresh = (
  λ same. let wrong : true ≡ false = sym asked ∙ ap (is_asked q) same ∙ fresh.0 in absurd cc,
  others (asked_with c q) m cs (set_kept q.asked m c.method asked) fresh.1,
)

pub fresh_apart : (q : Asking) (cs : List MethodCall) → AreFresh q cs → AreApart cs
fresh_apart q [] fresh = tt
fresh_apart q (c ∷ cs) fresh = (others (asked_with c q) c.method cs (set_here q.asked c.method) fresh.1, fresh_apart (asked_with c q) cs fresh.1)

-- ---- what is apart is fresh where nothing is asked

abbrev AreFree : Asking → List MethodCall → Type 0
AreFree q [] = Unit {0}
AreFree q (c ∷ cs) = (is_asked q c.method ≡ false) × AreFree q cs

still_free : (q : Asking) (c : MethodCall) (cs : List MethodCall) → CallsNot c.method cs → AreFree q cs → AreFree (asked_with c q) cs
still_free q c [] other free = tt
still_free q c (d ∷ cs) other free = (set_other q.asked d.method c.method other.0 ∙ free.0, still_free q c cs other.1 free.1)

apart_fresh : (q : Asking) (cs : List MethodCall) → AreApart cs → AreFree q cs → AreFresh q cs
apart_fresh q [] apart free = tt
apart_fresh q (c ∷ cs) apart free = (free.0, apart_fresh (asked_with c q) cs apart.1 (still_free q c cs apart.0 free.1))

free_at : (methods : List Outline) (n : ℕ) (e : Outline) → slice_get methods n ≡ Some e → is_asked (nothing_of methods) n ≡ false
free_at methods n e at = ap (λ o. unwrap_or o true) (mapped_at (λ (x : Outline). false) methods n e at)

all_free : (methods : List Outline) (texts : List (List ℕ)) (cs : List MethodCall) → AreCalls methods texts cs → AreFree (nothing_of methods) cs
all_free methods [] [] each = tt
all_free methods [] (c ∷ cs) each = absurd each
all_free methods (t ∷ texts) [] each = absurd each
all_free methods (t ∷ texts) (c ∷ cs) each = (free_at methods c.method each.0.outline each.0.at, all_free methods texts cs each.1)

pub calls_fresh : (methods : List Outline) (texts : List (List ℕ)) (cs : List MethodCall) → AreCalls methods texts cs → AreApart cs → AreFresh (nothing_of methods) cs
calls_fresh methods texts cs each apart = apart_fresh (nothing_of methods) cs apart (all_free methods texts cs each)
