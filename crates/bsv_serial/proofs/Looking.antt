-- A part after calls, one after the other.
use Rattle.std.proofs.Common.{◌≡◌, ◌∙◌, ℕ, Bool, true, cond, List, [], ◌∷◌, sym, ap, subst, refl, not}
use Rattle.std.proofs.lemmas.Bool.{and_parts, not-true}
use Rattle.bsv_prim.specs.Calls as prim
use Rattle.bsv_prim.specs.Calls.{IsReady}
use Rattle.bsv_prim.specs.Table.{Call}
use Rattle.bsv_prim.specs.declared.part.Part.{Part}
use Rattle.bsv_design.specs.declared.kind.Kind.{Kind}
use Rattle.bsv_design.specs.parts.Kinds.{kind_table, kind_laws}
use Rattle.bsv_serial.specs.declared.calls_made.MadeCall.{MadeCall}
use Rattle.bsv_serial.specs.CallsMade.{as_call}
use Rattle.bsv_serial.specs.Sights.{CanBeApplied, CanLook, seen_of, sees_none, after_seen}

-- after those of the calls that the method sees, the part is that one
pub record LeadsTo (k : Kind) (m : ℕ) (p : Part) (cs : List MadeCall) (end : Part) : Type 0 where
  pub method : CanLook k m p cs
  pub ends : prim.after_calls (kind_table k) p (seen_of k m cs) ≡ end

-- a method that sees no call looks at the part itself
pub none_seen : (k : Kind) (m : ℕ) (cs : List MadeCall) → sees_none k m cs ≡ true → seen_of k m cs ≡ []
none_seen k m [] h = refl
none_seen k m (c ∷ cs) h =
    let parts = and_parts (not ((kind_table k).sees c.method m)) (sees_none k m cs) h in
    ap (λ (b : Bool). cond b (as_call c ∷ seen_of k m cs) (seen_of k m cs)) (not-true ((kind_table k).sees c.method m) parts.0)
    ∙ none_seen k m cs parts.1

pub unmoved : (k : Kind) (m : ℕ) (p : Part) (cs : List MadeCall) → sees_none k m cs ≡ true → after_seen k m p cs ≡ p
unfolding after_seen
unmoved k m p cs h = ap (prim.after_calls (kind_table k) p) (none_seen k m cs h)

pub begins : (k : Kind) (m : ℕ) (p q : Part) (cs : List MadeCall) → CanLook k m p cs → q ≡ p → LeadsTo k m q cs (after_seen k m p cs)
unfolding after_seen
begins k m p q cs h e = subst (λ (r : Part). LeadsTo k m r cs (prim.after_calls (kind_table k) p (seen_of k m cs))) (sym e) (record { method = h; ends = refl })

-- after calls that can be applied, a part fits
pub applied_fits : (k : Kind) (p : Part) (cs : List Call) → (kind_table k).Fits p → CanBeApplied (kind_table k) p cs → (kind_table k).Fits (prim.after_calls (kind_table k) p cs)
applied_fits k p [] h c = h
applied_fits k p (c ∷ cs) h a = applied_fits k (prim.after_call (kind_table k) p c) cs ((kind_laws k).fit.applied p c h a.0 a.2) a.3

pub after_fits : (k : Kind) (m : ℕ) (p q : Part) (cs : List MadeCall) → CanLook k m p cs → q ≡ after_seen k m p cs → (kind_table k).Fits q
unfolding after_seen
after_fits k m p q cs h e = subst (kind_table k).Fits (sym e) (applied_fits k p (seen_of k m cs) h.part h.calls)
