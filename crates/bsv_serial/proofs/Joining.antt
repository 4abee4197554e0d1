-- What an element adds to the lists of calls made on the parts, part by part.
use Rattle.std.proofs.Common.{◌≡◌, ◌∙◌, ℕ, ◌<◌, Bool, true, false, cond, ◌&&◌, List, [], ◌∷◌, Option, refl, sym, ap, subst, length}
use Rattle.std.specs.Prelude.{slice_get, slice_set, ◌==◌}
use Rattle.std.proofs.lemmas.Bool.{eqb-true, eqb-false}
use Rattle.std.proofs.lemmas.List.{length-set}
use Rattle.bsv_lemmas.proofs.Places.{set_there, set_elsewhere}
use Rattle.bsv_design.specs.declared.kind.Kind.{Kind}
use Rattle.bsv_design.specs.scheme.Schemes.{Called, taken_actions}
use Rattle.bsv_design.specs.scheme.Traces.{Site}
use Rattle.bsv_serial.specs.declared.calls_made.MadeCall.{MadeCall}
use Rattle.bsv_serial.specs.CallsMade.{added}
use Rattle.bsv_serial.specs.Making.{made_at, called_at, with_call, with_site, with_sites}
use Rattle.bsv_serial.specs.Sights.{or_none}
use Rattle.bsv_serial.proofs.Tagged.{added_on}

-- the calls made on a part
abbrev pub made_on : List (List MadeCall) → ℕ → List MadeCall
made_on calls_made i = or_none (slice_get calls_made i)

module _ (ks : List Kind) (place i : ℕ) where
  call_on : (calls_made : List (List MadeCall)) → i < length calls_made → (c : Called) → (b : Bool) → (c.target.part == i) ≡ b
      → made_on (with_call ks place calls_made c) i ≡ cond b (added (made_at ks place c) (made_on calls_made i)) (made_on calls_made i)
  unfolding with_call
  call_on calls_made l c true e =
      let same = eqb-true c.target.part i e in
      subst (λ (j : ℕ). made_on (slice_set calls_made j (added (made_at ks place c) (made_on calls_made j))) i ≡ added (made_at ks place c) (made_on calls_made i)) (sym same)
      (ap (λ (o : Option (List MadeCall)). or_none o) (set_there calls_made i (added (made_at ks place c) (made_on calls_made i)) l))
  call_on calls_made l c false e =
      ap (λ (o : Option (List MadeCall)). or_none o) (set_elsewhere calls_made c.target.part i (added (made_at ks place c) (made_on calls_made c.target.part)) (eqb-false c.target.part i e))

  length-call : (calls_made : List (List MadeCall)) (c : Called) → length (with_call ks place calls_made c) ≡ length calls_made
  unfolding with_call
  length-call calls_made c = length-set calls_made c.target.part (added (made_at ks place c) (made_on calls_made c.target.part))

  pub length-sites : (ss : List Site) (calls_made : List (List MadeCall)) → length (with_sites ks place calls_made ss) ≡ length calls_made
  unfolding with_sites
  length-sites [] calls_made = refl
  length-sites (s ∷ ss) calls_made = length-sites ss (with_site ks place calls_made s) ∙ one (s.action && s.taken)
    where
      one : (b : Bool) → length (cond b (with_call ks place calls_made (called_at s)) calls_made) ≡ length calls_made
      one true = length-call calls_made (called_at s)
      one false = refl

  -- on a part, an element adds the calls that it makes there, one after the other
  pub sites_on : (ss : List Site) (calls_made : List (List MadeCall)) → i < length calls_made → made_on (with_sites ks place calls_made ss) i ≡ added_on ks i place (taken_actions ss) (made_on calls_made i)
  unfolding with_sites
  sites_on [] calls_made l = refl
  sites_on (s ∷ ss) calls_made l = cases (s.action && s.taken) (sites_on ss)
    where
      more : made_on (with_call ks place calls_made (called_at s)) i ≡ cond (s.target.part == i) (added (made_at ks place (called_at s)) (made_on calls_made i)) (made_on calls_made i)
      more = call_on calls_made l (called_at s) (s.target.part == i) refl

      cases : (b : Bool) → ((next : List (List MadeCall)) → i < length next → made_on (with_sites ks place next ss) i ≡ added_on ks i place (taken_actions ss) (made_on next i))
          → made_on (with_sites ks place (cond b (with_call ks place calls_made (called_at s)) calls_made) ss) i
          ≡ added_on ks i place (cond b (record { target = s.target; arguments = s.arguments } ∷ taken_actions ss) (taken_actions ss)) (made_on calls_made i)
      cases true ih =
          ih (with_call ks place calls_made (called_at s)) (subst (λ (n : ℕ). i < n) (sym (length-call calls_made (called_at s))) l)
          ∙ ap (added_on ks i place (taken_actions ss)) more
      cases false ih = ih calls_made l
