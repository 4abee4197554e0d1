-- Calls by rank.
use Rattle.std.proofs.Common.{◌≡◌, ◌∙◌, ◌≤◌, Bool, true, false, cond, not, ◌&&◌, ◌||◌, List, [], ◌∷◌, Option, Some, None, refl, sym, ap, ap₂, subst, arith}
use Rattle.std.specs.Prelude.{slice_get, ◌==◌, nat_le, filter, if◌then◌else◌}
use Rattle.std.specs.List.{AllByRecursion}
use Rattle.std.proofs.lemmas.Bool.{and_parts, eqb-true, leb-true, leb-false}
use Rattle.bsv_prim.specs.Elements.{IsByRank}
use Rattle.bsv_prim.specs.Table.{in_one_element}
use Rattle.bsv_design.specs.declared.kind.Kind.{Kind}
use Rattle.bsv_design.specs.design.Bodies.{Target}
use Rattle.bsv_design.specs.parts.Kinds.{kind_table, kind_laws}
use Rattle.bsv_design.specs.scheme.Relations.{may_precede, may_precede_of, may_stand}
use Rattle.bsv_design.specs.scheme.Schemes.{Called}
use Rattle.bsv_design.specs.scheme.Serial.{rank, rank_of, put_by_rank, by_rank}
use Rattle.bsv_design.specs.scheme.Traces.{kind_at}
use Rattle.bsv_guard.specs.ElementLaws.{AreRanked, is_call_of, call_of}
use Rattle.bsv_guard.proofs.Lists.{Pairs, pair_at}
use Rattle.bsv_guard.proofs.Made.{StandBeside}

module _ (ks : List Kind) where
  abbrev RankRises : Called → Called → Type 0
  RankRises c d = rank ks c ≤ rank ks d

  all_put : (P : Called → Type 0) (c : Called) (ds : List Called) → P c → AllByRecursion P ds → AllByRecursion P (put_by_rank ks c ds)
  all_put P c [] p h = (p, tt)
  all_put P c (d ∷ ds) p h = cases (nat_le (rank ks c) (rank ks d)) (all_put P c ds p h.1)
    where
      cases : (b : Bool) → AllByRecursion P (put_by_rank ks c ds) → AllByRecursion P (if b then c ∷ d ∷ ds else d ∷ put_by_rank ks c ds)
      cases true rest = (p, h)
      cases false rest = (h.0, rest)

  pub all_by_rank : (P : Called → Type 0) (cs : List Called) → AllByRecursion P cs → AllByRecursion P (by_rank ks cs)
  unfolding by_rank
  all_by_rank P [] h = tt
  all_by_rank P (c ∷ cs) h = all_put P c (by_rank ks cs) h.0 (all_by_rank P cs h.1)

  -- what holds of each two calls either way holds of them by rank
  pairs_put : (P : Called → Called → Type 0) → ((c d : Called) → P c d → P d c) → (c : Called) (ds : List Called) → AllByRecursion (P c) ds → Pairs P ds → Pairs P (put_by_rank ks c ds)
  pairs_put P turn c [] p h = (tt, tt)
  pairs_put P turn c (d ∷ ds) p h = cases (nat_le (rank ks c) (rank ks d)) (pairs_put P turn c ds p.1 h.1)
    where
      cases : (b : Bool) → Pairs P (put_by_rank ks c ds) → Pairs P (if b then c ∷ d ∷ ds else d ∷ put_by_rank ks c ds)
      cases true rest = (p, h)
      cases false rest = (all_put (P d) c ds (turn c d p.0) h.0, rest)

  pub pairs_by_rank : (P : Called → Called → Type 0) → ((c d : Called) → P c d → P d c) → (cs : List Called) → Pairs P cs → Pairs P (by_rank ks cs)
  unfolding by_rank
  pairs_by_rank P turn [] h = tt
  pairs_by_rank P turn (c ∷ cs) h = pairs_put P turn c (by_rank ks cs) (all_by_rank (P c) cs h.0) (pairs_by_rank P turn cs h.1)

  -- ---- the ranks rise

  no_lower : (c d : Called) (ds : List Called) → rank ks c ≤ rank ks d → AllByRecursion (RankRises d) ds → AllByRecursion (RankRises c) ds
  no_lower c d [] l h = tt
  no_lower c d (e ∷ es) l h = (omega arith, no_lower c d es l h.1)

  rises_put : (c : Called) (ds : List Called) → Pairs RankRises ds → Pairs RankRises (put_by_rank ks c ds)
  rises_put c [] h = (tt, tt)
  rises_put c (d ∷ ds) h = cases (nat_le (rank ks c) (rank ks d)) refl (rises_put c ds h.1)
    where
      cases : (b : Bool) → nat_le (rank ks c) (rank ks d) ≡ b → Pairs RankRises (put_by_rank ks c ds) → Pairs RankRises (if b then c ∷ d ∷ ds else d ∷ put_by_rank ks c ds)
      cases true e rest = let l = leb-true (rank ks c) (rank ks d) e in ((l, no_lower c d ds l h.0), h)
      cases false e rest = let l = leb-false (rank ks c) (rank ks d) e in (all_put (RankRises d) c ds (omega arith) h.0, rest)

  ranks_rise : (cs : List Called) → Pairs RankRises (by_rank ks cs)
  unfolding by_rank
  ranks_rise [] = tt
  ranks_rise (c ∷ cs) = rises_put c (by_rank ks cs) (ranks_rise cs)

  -- ---- the same calls

  same_rank : (t : Target) (c d : Called) → is_call_of t c ≡ true → is_call_of t d ≡ true → rank ks c ≡ rank ks d
  same_rank t c d h k =
      let hs = and_parts (c.target.part == t.part) (c.target.method == t.method) h in
      let ps = and_parts (d.target.part == t.part) (d.target.method == t.method) k in
      ap₂ (λ p m. rank_of (slice_get ks p) m)
      (eqb-true c.target.part t.part hs.0 ∙ sym (eqb-true d.target.part t.part ps.0))
      (eqb-true c.target.method t.method hs.1 ∙ sym (eqb-true d.target.method t.method ps.1))

  abbrev first_of_kept : Bool → Called → List Called → List Called
  first_of_kept b c cs = cond b (c ∷ cs) cs

  -- two calls of different ranks are not both of one method
  passed : (t : Target) (c d : Called) (es : List Called) → (rank ks c ≡ rank ks d → ⊥)
      → first_of_kept (is_call_of t d) d (first_of_kept (is_call_of t c) c es) ≡ first_of_kept (is_call_of t c) c (first_of_kept (is_call_of t d) d es)
  passed t c d es other = cases (is_call_of t c) (is_call_of t d) refl refl
    where
      cases : (x y : Bool) → is_call_of t c ≡ x → is_call_of t d ≡ y → first_of_kept y d (first_of_kept x c es) ≡ first_of_kept x c (first_of_kept y d es)
      cases true true h k = absurd (other (same_rank t c d h k))
      cases true false h k = refl
      cases false true h k = refl
      cases false false h k = refl

  same_put : (t : Target) (c : Called) (ds : List Called) → filter (is_call_of t) (put_by_rank ks c ds) ≡ filter (is_call_of t) (c ∷ ds)
  same_put t c [] = refl
  same_put t c (d ∷ ds) = cases (nat_le (rank ks c) (rank ks d)) refl (same_put t c ds)
    where
      cases : (b : Bool) → nat_le (rank ks c) (rank ks d) ≡ b → filter (is_call_of t) (put_by_rank ks c ds) ≡ filter (is_call_of t) (c ∷ ds)
          → filter (is_call_of t) (if b then c ∷ d ∷ ds else d ∷ put_by_rank ks c ds) ≡ filter (is_call_of t) (c ∷ d ∷ ds)
      cases true e rest = refl
      cases false e rest =
          ap (λ (es : List Called). first_of_kept (is_call_of t d) d es) rest
          ∙ passed t c d (filter (is_call_of t) ds) (λ same. absurd (let l = leb-false (rank ks c) (rank ks d) e in let n : ⊥ = omega arith in n))

  same_calls : (t : Target) (cs : List Called) → filter (is_call_of t) (by_rank ks cs) ≡ filter (is_call_of t) cs
  unfolding by_rank
  same_calls t [] = refl
  same_calls t (c ∷ cs) = same_put t c (by_rank ks cs) ∙ ap (λ (es : List Called). first_of_kept (is_call_of t c) c es) (same_calls t cs)

  pub ranked : (cs : List Called) → AreRanked ks cs (by_rank ks cs)
  ranked cs = record { same = λ t. same_calls t cs; ranks = λ i j c d l e f. pair_at RankRises (by_rank ks cs) (ranks_rise cs) i j c d l e f }

  -- ---- calls that may be in one element, by rank

  three_parts : (a b c : Bool) → (a && not b && not c) ≡ true → (a ≡ true) × (b ≡ false) × (c ≡ false)
  three_parts true false false h = (refl, refl, refl)
  three_parts true false true h = absurd (let n : ⊥ = cc in n)
  three_parts true true c h = absurd (let n : ⊥ = cc in n)
  three_parts false b c h = absurd (let n : ⊥ = cc in n)

  pub by_rank_of_kind : (kind : Kind) (c d : Called) → StandBeside ks c d → rank ks c ≤ rank ks d → c.target.part ≡ d.target.part → kind_at ks c.target ≡ Some kind
      → IsByRank (kind_table kind) (call_of c) (call_of d)
  by_rank_of_kind kind c d h l p k =
      let m = c.target.method in
      let n = d.target.method in
      let t = kind_table kind in
      let stands : may_stand (Some kind) c.target.method d.target.method ≡ true = ap (λ o. may_stand o c.target.method d.target.method) (sym k) ∙ h p in
      let parts = three_parts (in_one_element (t.relation m n)) (t.sees m n) (t.sees n m) stands in
      let first : rank ks c ≡ t.rank m = ap (λ o. rank_of o c.target.method) k in
      let second : rank ks d ≡ t.rank n = ap (λ p. rank_of (slice_get ks p) d.target.method) (sym p) ∙ ap (λ o. rank_of o d.target.method) k in
      record { beside = parts.0; unseen = parts.1; unseen_back = parts.2; rank = subst (λ x. x ≤ (kind_table kind).rank d.target.method) first (subst (λ y. rank ks c ≤ y) second l) }

  precedes : (o : Option Kind) (c d : Called) → kind_at ks c.target ≡ o → StandBeside ks c d → rank ks c ≤ rank ks d → c.target.part ≡ d.target.part → may_precede_of o c.target.method d.target.method ≡ true
  precedes None c d k h l p = refl
  precedes (Some kind) c d k h l p =
      let r = by_rank_of_kind kind c d h l p k in
      (kind_laws kind).table.by_rank c.target.method d.target.method r.beside r.unseen r.unseen_back r.rank

  pub ranked_precedes : (c d : Called) → StandBeside ks c d → rank ks c ≤ rank ks d → may_precede ks c.target d.target ≡ true
  ranked_precedes c d h l = cases (c.target.part == d.target.part) refl
    where
      cases : (b : Bool) → (c.target.part == d.target.part) ≡ b → (not b || may_precede_of (kind_at ks c.target) c.target.method d.target.method) ≡ true
      cases true e = precedes (kind_at ks c.target) c d refl h l (eqb-true c.target.part d.target.part e)
      cases false e = refl
