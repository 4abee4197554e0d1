-- The guard of a call of a method that has none is true, so that the lifted guards say all.
use Rattle.std.proofs.Common.{◌≡◌, ◌∙◌, ℕ, ◌+◌, Bool, true, false, cond, ◌&&◌, ◌||◌, List, [], ◌∷◌, ◌++◌, map, length, Some, None, refl, sym, ap, subst, arith, append_assoc}
use Rattle.std.specs.Prelude.{slice_get}
use Rattle.std.proofs.Math.ListN.{length-append}
use Rattle.bsv_lemmas.proofs.Places.{at_middle}
use Rattle.bsv_bits.specs.Words.{Bits}
use Rattle.bsv_design.specs.declared.element.Call.{Call}
use Rattle.bsv_design.specs.declared.element.Element.{Element}
use Rattle.bsv_design.specs.declared.kind.Kind.{Kind}
use Rattle.bsv_design.specs.declared.schedule.Need.{Need}
use Rattle.bsv_design.specs.design.Bodies.{target, words}
use Rattle.bsv_design.specs.design.Guards.{is_guarded, needs_from, needs_hold, holds_at, body_ready}
use Rattle.bsv_design.specs.scheme.Schemes.{Look, is_open, answers, all_hold, all_open, required}
use Rattle.bsv_design.specs.scheme.Traces.{kind_at, site_at, demand_at, body_trace}
use Rattle.bsv_guard.specs.Lifted.{all_ready}
use Rattle.bsv_design.proofs.Elements.{unguarded}

or_false : (a b : Bool) → (a || false) ≡ required false b a
or_false true b = refl
or_false false b = refl

-- a call that has a need, or none
one_need : (ks : List Kind) (look : Look) (all : List Call) (ws : List Bits) (n : ℕ) (c : Call) (ns : List Need) (rest : Bool) (guarded : Bool)
    → guarded ≡ is_guarded (kind_at ks (target c)) c.method → slice_get all n ≡ Some c → needs_hold ks look all ws ns ≡ rest
    → needs_hold ks look all ws (cond guarded (record { call = n; under = None } ∷ ns) ns) ≡ (required false (site_at ks ws c).taken (is_open ks look (target c)) && rest)
one_need ks look all ws n c ns rest true h at is =
    ap (λ o. (holds_at ks look o || false) && needs_hold ks look all ws ns) at
    ∙ (ap (λ r. (is_open ks look (target c) || false) && r) is
    ∙ ap (λ b. b && rest) (or_false (is_open ks look (target c)) (site_at ks ws c).taken))
one_need ks look all ws n c ns rest false h at is =
    is ∙ sym (ap (λ b. required false (site_at ks ws c).taken b && rest) (unguarded (kind_at ks (target c)) c.method (look (target c)) (sym h)))

needs_say_all : (ks : List Kind) (look : Look) (ws : List Bits) (before cs : List Call) (n : ℕ) → n ≡ length before
    → needs_hold ks look (before ++ cs) ws (needs_from ks n cs) ≡ all_open false ks look (map (site_at ks ws) cs)
unfolding needs_from
needs_say_all ks look ws before [] n h = refl
needs_say_all ks look ws before (c ∷ cs) n h =
    let long : n + 1 ≡ length (before ++ c ∷ []) = let l : length (before ++ c ∷ []) ≡ length before + 1 = length-append before (c ∷ []) in omega arith in
    let next : needs_hold ks look (before ++ c ∷ cs) ws (needs_from ks (n + 1) cs) ≡ all_open false ks look (map (site_at ks ws) cs) =
    subst (λ all. needs_hold ks look all ws (needs_from ks (n + 1) cs) ≡ all_open false ks look (map (site_at ks ws) cs)) (append_assoc before (c ∷ []) cs)
    (needs_say_all ks look ws (before ++ c ∷ []) cs (n + 1) long) in
    one_need ks look (before ++ c ∷ cs) ws n c (needs_from ks (n + 1) cs) (all_open false ks look (map (site_at ks ws) cs)) (is_guarded (kind_at ks (target c)) c.method) refl
    (subst (λ k. slice_get (before ++ c ∷ cs) k ≡ Some c) (sym h) (at_middle before cs c)) next

pub body_says_all : (ks : List Kind) (e : Element) (look : Look) (ws : List Bits)
    → body_ready false ks e (needs_from ks 0 e.calls) look ws ≡ all_ready ks look (body_trace ks e (answers ks look) ws)
unfolding body_ready body_trace
body_says_all ks e look ws =
    let w : List Bits = words e (answers ks look) ws in
    ap (λ b. all_hold false (map (demand_at w) e.conditions) && b) (needs_say_all ks look w [] e.calls 0 refl)
