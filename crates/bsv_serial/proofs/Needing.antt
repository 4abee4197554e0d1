-- Where the guards hold that are needed, each call is open.
use Rattle.std.proofs.Common.{◌≡◌, ◌∙◌, ℕ, zero, suc, ◌+◌, Bool, true, false, cond, List, [], ◌∷◌, ◌++◌, length, Some, None, refl, sym, ap, subst, arith, append_assoc}
use Rattle.std.specs.Prelude.{slice_get}
use Rattle.std.proofs.Math.ListN.{length-append}
use Rattle.std.proofs.lemmas.Bool.{and_parts}
use Rattle.bsv_lemmas.proofs.Places.{at_middle}
use Rattle.bsv_design.specs.declared.element.Call.{Call}
use Rattle.bsv_design.specs.declared.kind.Kind.{Kind}
use Rattle.bsv_design.specs.declared.schedule.Need.{Need}
use Rattle.bsv_design.specs.design.Bodies.{target}
use Rattle.bsv_design.specs.design.Guards.{is_guarded, needs_from, holds_at}
use Rattle.bsv_design.specs.scheme.Schemes.{Look, is_open}
use Rattle.bsv_design.specs.scheme.Traces.{kind_at}
use Rattle.bsv_serial.specs.Bodies.{guards_hold, AreOpen}
use Rattle.bsv_design.proofs.Elements.{unguarded}

module _ (ks : List Kind) (look : Look) where
  -- the first call is open, and the others need their guards
  record IsFirstOpen (all : List Call) (c : Call) (ns : List Need) : Type 0 where
    first : is_open ks look (target c) ≡ true
    rest : guards_hold ks look all ns ≡ true

  one_open : (all : List Call) (c : Call) (n : ℕ) (ns : List Need) (b : Bool) → is_guarded (kind_at ks (target c)) c.method ≡ b → slice_get all n ≡ Some c
      → guards_hold ks look all (cond b (record { call = n; under = None } ∷ ns) ns) ≡ true → IsFirstOpen all c ns
  unfolding guards_hold
  one_open all c n ns true g e h =
      let parts = and_parts (holds_at ks look (slice_get all n)) (guards_hold ks look all ns) h in
      record { first = ap (holds_at ks look) (sym e) ∙ parts.0; rest = parts.1 }
  one_open all c n ns false g e h = record { first = unguarded (kind_at ks (target c)) c.method (look (target c)) g; rest = h }

  pub open_from : (before cs : List Call) (n : ℕ) → n ≡ length before → guards_hold ks look (before ++ cs) (needs_from ks n cs) ≡ true → AreOpen ks look cs
  unfolding needs_from
  open_from before [] n l h = λ k c e. absurd (let x : ⊥ = cc in x)
  open_from before (d ∷ cs) n l h =
      let one = one_open (before ++ d ∷ cs) d n (needs_from ks (n + 1) cs) (is_guarded (kind_at ks (target d)) d.method) refl (subst (λ k. slice_get (before ++ d ∷ cs) k ≡ Some d) (sym l) (at_middle before cs d)) h in
      let long : n + 1 ≡ length (before ++ d ∷ []) = let m : length (before ++ d ∷ []) ≡ length before + 1 = length-append before (d ∷ []) in omega arith in
      let rest = open_from (before ++ d ∷ []) cs (n + 1) long (ap (λ all. guards_hold ks look all (needs_from ks (n + 1) cs)) (append_assoc before (d ∷ []) cs) ∙ one.rest) in
      of one.first rest
    where
      of : is_open ks look (target d) ≡ true → AreOpen ks look cs → AreOpen ks look (d ∷ cs)
      of first rest zero c e = let same : d ≡ c = cc in ap (λ (x : Call). is_open ks look (target x)) (sym same) ∙ first
      of first rest (suc k) c e = rest k c e

  pub are_open : (cs : List Call) (ns : List Need) → ns ≡ needs_from ks 0 cs → guards_hold ks look cs ns ≡ true → AreOpen ks look cs
  are_open cs ns e h = open_from [] cs 0 refl (ap (guards_hold ks look cs) (sym e) ∙ h)
