-- Lists of calls: those on one part, and those of them that a method sees.
use Rattle.std.proofs.Common.{◌≡◌, ◌∙◌, ℕ, Bool, true, false, cond, ◌&&◌, List, [], ◌∷◌, ◌++◌, Option, Some, refl, sym, ap}
use Rattle.std.specs.Prelude.{slice_get, ◌==◌}
use Rattle.std.specs.List.{AllByRecursion}
use Rattle.std.proofs.lemmas.Bool.{eqb-true}
use Rattle.bsv_prim.specs.Calls as prim
use Rattle.bsv_prim.specs.Table.{Call}
use Rattle.bsv_prim.specs.declared.part.Part.{Part}
use Rattle.bsv_design.specs.declared.kind.Kind.{Kind}
use Rattle.bsv_design.specs.design.Bodies.{Target}
use Rattle.bsv_design.specs.parts.Kinds.{kind_table}
use Rattle.bsv_design.specs.scheme.Relations.{is_seen, sees_of}
use Rattle.bsv_design.specs.scheme.Schemes.{Called}
use Rattle.bsv_design.specs.scheme.States.{after_call, after_calls}
use Rattle.bsv_design.specs.scheme.Traces.{kind_at}
use Rattle.bsv_guard.specs.ElementLaws.{call_of}
use Rattle.bsv_guard.specs.Turns.{calls_on}
use Rattle.bsv_clock.specs.Looks.{seen_by}

-- ---- facts of all items

pub all_append : {X : Type 0} (P : X → Type 0) (xs ys : List X) → AllByRecursion P xs → AllByRecursion P ys → AllByRecursion P (xs ++ ys)
all_append P [] ys h k = k
all_append P (x ∷ xs) ys h k = (h.0, all_append P xs ys h.1 k)

pub all_map : {X : Type 0} (P Q : X → Type 0) → ((x : X) → P x → Q x) → (xs : List X) → AllByRecursion P xs → AllByRecursion Q xs
all_map P Q f [] h = tt
all_map P Q f (x ∷ xs) h = (f x h.0, all_map P Q f xs h.1)

-- ---- the calls on a part

pub calls_on-append : (i : ℕ) (xs ys : List Called) → calls_on i (xs ++ ys) ≡ calls_on i xs ++ calls_on i ys
calls_on-append i [] ys = refl
calls_on-append i (c ∷ xs) ys = cases (c.target.part == i) (calls_on-append i xs ys)
  where
    cases : (b : Bool) → calls_on i (xs ++ ys) ≡ calls_on i xs ++ calls_on i ys
        → cond b (call_of c ∷ calls_on i (xs ++ ys)) (calls_on i (xs ++ ys)) ≡ cond b (call_of c ∷ calls_on i xs) (calls_on i xs) ++ calls_on i ys
    cases true e = ap (λ (cs : List Call). call_of c ∷ cs) e
    cases false e = e

pub after_calls-append : (ks : List Kind) (ps : List Part) (xs ys : List Called) → after_calls ks ps (xs ++ ys) ≡ after_calls ks (after_calls ks ps xs) ys
after_calls-append ks ps [] ys = refl
after_calls-append ks ps (x ∷ xs) ys = after_calls-append ks (after_call ks ps x) xs ys

-- ---- what a method sees

pub seen_by-append : (ks : List Kind) (t : Target) (xs ys : List Called) → seen_by ks t (xs ++ ys) ≡ seen_by ks t xs ++ seen_by ks t ys
unfolding seen_by
seen_by-append ks t [] ys = refl
seen_by-append ks t (c ∷ xs) ys = cases (is_seen ks c.target t) (seen_by-append ks t xs ys)
  where
    cases : (b : Bool) → seen_by ks t (xs ++ ys) ≡ seen_by ks t xs ++ seen_by ks t ys
        → cond b (c ∷ seen_by ks t (xs ++ ys)) (seen_by ks t (xs ++ ys)) ≡ cond b (c ∷ seen_by ks t xs) (seen_by ks t xs) ++ seen_by ks t ys
    cases true e = ap (λ (cs : List Called). c ∷ cs) e
    cases false e = e

module _ (ks : List Kind) (t : Target) (kind : Kind) (is : kind_at ks t ≡ Some kind) where
  seen_here : (c : Called) → is_seen ks c.target t ≡ ((c.target.part == t.part) && (kind_table kind).sees c.target.method t.method)
  seen_here c = cases (c.target.part == t.part) refl
    where
      cases : (b : Bool) → (c.target.part == t.part) ≡ b → (b && sees_of (kind_at ks c.target) c.target.method t.method) ≡ (b && (kind_table kind).sees c.target.method t.method)
      cases true e = ap (λ (o : Option Kind). sees_of o c.target.method t.method) (ap (slice_get ks) (eqb-true c.target.part t.part e) ∙ is)
      cases false e = refl

  seen_step : (c : Called) (cs rest : List Called) → calls_on t.part rest ≡ prim.seen_by (kind_table kind) t.method (calls_on t.part cs) → (b : Bool) → (c.target.part == t.part) ≡ b
      → (s : Bool) → (kind_table kind).sees c.target.method t.method ≡ s
      → calls_on t.part (cond (b && s) (c ∷ rest) rest) ≡ prim.seen_by (kind_table kind) t.method (cond b (call_of c ∷ calls_on t.part cs) (calls_on t.part cs))
  seen_step c cs rest ih true e true f =
      ap (λ (x : Bool). cond x (call_of c ∷ calls_on t.part rest) (calls_on t.part rest)) e
      ∙ ap (λ (ds : List Call). call_of c ∷ ds) ih
      ∙ sym (ap (λ (x : Bool). cond x (call_of c ∷ prim.seen_by (kind_table kind) t.method (calls_on t.part cs)) (prim.seen_by (kind_table kind) t.method (calls_on t.part cs))) f)
  seen_step c cs rest ih true e false f =
      ih ∙ sym (ap (λ (x : Bool). cond x (call_of c ∷ prim.seen_by (kind_table kind) t.method (calls_on t.part cs)) (prim.seen_by (kind_table kind) t.method (calls_on t.part cs))) f)
  seen_step c cs rest ih false e s f = ih

  -- what is seen of the calls, on the part, is what is seen of those on the part
  pub seen_on : (cs : List Called) → calls_on t.part (seen_by ks t cs) ≡ prim.seen_by (kind_table kind) t.method (calls_on t.part cs)
  unfolding seen_by
  seen_on [] = refl
  seen_on (c ∷ cs) =
      ap (λ (b : Bool). calls_on t.part (cond b (c ∷ seen_by ks t cs) (seen_by ks t cs))) (seen_here c)
      ∙ seen_step c cs (seen_by ks t cs) (seen_on cs) (c.target.part == t.part) refl ((kind_table kind).sees c.target.method t.method) refl
