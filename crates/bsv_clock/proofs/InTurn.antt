-- Elements that are run whole one after the other: on each part, the calls of all of them can be applied one after the
-- other, and the part after them is the part after these calls.
use Rattle.std.proofs.Common.{◌≡◌, ◌∙◌, ℕ, zero, suc, Bool, true, not, ◌||◌, List, [], ◌∷◌, Option, Some, refl, sym, ap, subst, inl, inr}
use Rattle.std.specs.Prelude.{slice_get}
use Rattle.std.specs.List.{AllByRecursion}
use Rattle.std.proofs.lemmas.Bool.{and_parts, eq-eqb}
use Rattle.bsv_lemmas.proofs.Places.{all_from}
use Rattle.bsv_prim.specs.Calls.{IsOrderly, MayPrecede}
use Rattle.bsv_prim.specs.Calls as prim
use Rattle.bsv_prim.specs.Elements.{EachBefore}
use Rattle.bsv_prim.specs.Table.{Call, goes_before}
use Rattle.bsv_prim.specs.declared.part.Part.{Part}
use Rattle.bsv_prim.proofs.Orderly.{orderly_append}
use Rattle.bsv_prim.proofs.Orderly as orderly
use Rattle.bsv_design.specs.declared.kind.Kind.{Kind}
use Rattle.bsv_design.specs.design.Bodies.{Target}
use Rattle.bsv_design.specs.parts.Kinds.{kind_table}
use Rattle.bsv_design.specs.scheme.Relations.{goes, for_all, may_precede, may_precede_of}
use Rattle.bsv_design.specs.scheme.Schemes.{Scheme, Asking, Called, ready, calls}
use Rattle.bsv_design.specs.scheme.Serial.{calls_made, run_whole, Serial, done, turn}
use Rattle.bsv_design.specs.scheme.States.{FitsKinds, part_at, plain}
use Rattle.bsv_design.specs.scheme.Traces.{kind_at}
use Rattle.bsv_graph.specs.Orders.{In}
use Rattle.bsv_guard.specs.ElementLaws.{ElementLaws, IsUse, call_of}
use Rattle.bsv_guard.specs.Fitting.{RequestFits}
use Rattle.bsv_guard.specs.Turns.{calls_on, IsTurn, TurnLaws}
use Rattle.bsv_guard.proofs.Keeps.{sound_keeps}
use Rattle.bsv_guard.proofs.Ranks.{all_by_rank}
use Rattle.bsv_guard.proofs.Turns.{sound_turns, all_on}
use Rattle.bsv_clock.specs.Grounds.{IsLawful}
use Rattle.bsv_clock.specs.Looks.{calls_in_turn}
use Rattle.bsv_clock.specs.Steadiness.{AllGo, GoInOrder}
use Rattle.bsv_clock.proofs.CallLists.{all_append, all_map, calls_on-append}

-- ---- elements that go before others

for_all_at : (p : Target → Bool) (xs : List Target) → for_all p xs ≡ true → (k : ℕ) (x : Target) → slice_get xs k ≡ Some x → p x ≡ true
for_all_at p [] h k x e = absurd (let n : ⊥ = cc in n)
for_all_at p (y ∷ xs) h zero x e = let same : y ≡ x = cc in subst (λ z. p z ≡ true) same (and_parts (p y) (for_all p xs) h).0
for_all_at p (y ∷ xs) h (suc k) x e = for_all_at p xs (and_parts (p y) (for_all p xs) h).1 k x e

pub uses_go : (S : Scheme) (a b : ℕ) → goes S a b ≡ true → (x y : Target) → IsUse S a x → IsUse S b y → may_precede S.kinds x y ≡ true
unfolding goes
uses_go S a b h x y u v =
    for_all_at (may_precede S.kinds x) (S.uses b) (for_all_at (λ z. for_all (may_precede S.kinds z) (S.uses b)) (S.uses a) h u.index x u.is) v.index y v.is

-- on one part
pub goes_on : (S : Scheme) (a b i : ℕ) (kind : Kind) → slice_get S.kinds i ≡ Some kind → goes S a b ≡ true → (c : Call) (x y : Target) → IsUse S a x → IsUse S b y → x.part ≡ i → y.part ≡ i
    → goes_before ((kind_table kind).relation x.method y.method) ≡ true
goes_on S a b i kind is g c x y u v p r =
    ap (λ (o : Option Kind). may_precede_of o x.method y.method) (sym (ap (slice_get S.kinds) p ∙ is))
    ∙ sym (ap (λ (t : Bool). not t || may_precede_of (kind_at S.kinds x) x.method y.method) (eq-eqb x.part y.part (p ∙ sym r)))
    ∙ uses_go S a b g x y u v

module _ (S : Scheme) (ok : IsLawful S) (g : Bool) (q : Asking) (requests : (n : ℕ) → RequestFits S q n) where
  abbrev pub laws : ElementLaws S
  laws = sound_keeps S ok.sound

  abbrev pub turns : TurnLaws S
  turns = sound_turns S ok.sound ok.fitting

  pub made_used : (n : ℕ) (ps : List Part) → AllByRecursion (λ c. IsUse S n c.target) (calls_made S q n ps)
  made_used n ps =
      all_by_rank S.kinds (λ c. IsUse S n c.target) (calls S q n (plain ps))
      (all_from (λ c. IsUse S n c.target) (calls S q n (plain ps)) (λ k c e. (laws.within q n (plain ps) k c e).0))

  is_turn : (n : ℕ) (ps : List Part) → FitsKinds S.kinds ps → ready g S q n (plain ps) ≡ true → IsTurn g S q n ps
  is_turn n ps h r = record { rule = ok.rules n; request = requests n; parts = h; is_ready = r }

  pub one_fits : (n : ℕ) (ps : List Part) → FitsKinds S.kinds ps → ready g S q n (plain ps) ≡ true → FitsKinds S.kinds (run_whole S q n ps)
  one_fits n ps h r = turns.still_fits g q n ps (is_turn n ps h r)

  pub run_fits : {ps end : List Part} {ns : List ℕ} → FitsKinds S.kinds ps → Serial g S q ps ns end → FitsKinds S.kinds end
  run_fits h done = h
  run_fits {ps = ps} h (turn {n = n} r fresh rest) = run_fits (one_fits n ps h r) rest

  -- the calls of a run are of methods that its elements use
  abbrev pub UsedBySome : List ℕ → Called → Type 0
  UsedBySome ns c = (n : ℕ) × In ns n × IsUse S n c.target

  pub run_used : (ns : List ℕ) (ps : List Part) → AllByRecursion (UsedBySome ns) (calls_in_turn S q ps ns)
  run_used [] ps = tt
  run_used (n ∷ ns) ps =
      all_append (UsedBySome (n ∷ ns)) (calls_made S q n ps) (calls_in_turn S q (run_whole S q n ps) ns)
      (all_map (λ c. IsUse S n c.target) (UsedBySome (n ∷ ns)) (λ c u. (n, inl refl, u)) (calls_made S q n ps) (made_used n ps))
      (all_map (UsedBySome ns) (UsedBySome (n ∷ ns)) (λ c u. (u.0, inr u.1, u.2)) (calls_in_turn S q (run_whole S q n ps) ns) (run_used ns (run_whole S q n ps)))

  module _ (i : ℕ) (kind : Kind) (is : slice_get S.kinds i ≡ Some kind) where
    part_after : (n : ℕ) (ps : List Part) → FitsKinds S.kinds ps → part_at (run_whole S q n ps) i ≡ prim.after_calls (kind_table kind) (part_at ps i) (calls_on i (calls_made S q n ps))
    unfolding run_whole
    part_after n ps h = turns.each_part ps h (calls_made S q n ps) i kind is

    pub run_part : {ps end : List Part} {ns : List ℕ} → FitsKinds S.kinds ps → Serial g S q ps ns end
        → part_at end i ≡ prim.after_calls (kind_table kind) (part_at ps i) (calls_on i (calls_in_turn S q ps ns))
    run_part h done = refl
    run_part {ps = ps} h (turn {n = n} {ns = ns} r fresh rest) =
        run_part (one_fits n ps h r) rest
        ∙ ap (λ (p : Part). prim.after_calls (kind_table kind) p (calls_on i (calls_in_turn S q (run_whole S q n ps) ns))) (part_after n ps h)
        ∙ sym (orderly.after_calls-append (kind_table kind) (part_at ps i) (calls_on i (calls_made S q n ps)) (calls_on i (calls_in_turn S q (run_whole S q n ps) ns)))
        ∙ ap (prim.after_calls (kind_table kind) (part_at ps i)) (sym (calls_on-append i (calls_made S q n ps) (calls_in_turn S q (run_whole S q n ps) ns)))

    -- a call of an element that goes before others may precede theirs
    precedes : (n : ℕ) (ns : List ℕ) → ((m : ℕ) → In ns m → goes S n m ≡ true) → (c : Called) → IsUse S n c.target → c.target.part ≡ i
        → (ds : List Called) → AllByRecursion (UsedBySome ns) ds → AllByRecursion (MayPrecede (kind_table kind) (call_of c)) (calls_on i ds)
    precedes n ns h c u p ds used =
        all_on (MayPrecede (kind_table kind) (call_of c)) i ds
        (all_map (UsedBySome ns) (λ d. d.target.part ≡ i → MayPrecede (kind_table kind) (call_of c) (call_of d))
        (λ d v r. goes_on S n v.0 i kind is (h v.0 v.1) (call_of c) c.target d.target u v.2 p r) ds used)

    each_before : (n : ℕ) (ns : List ℕ) → ((m : ℕ) → In ns m → goes S n m ≡ true) → (cs : List Called) → AllByRecursion (λ c. IsUse S n c.target) cs
        → (ds : List Called) → AllByRecursion (UsedBySome ns) ds → EachBefore (kind_table kind) (calls_on i cs) (calls_on i ds)
    each_before n ns h cs us ds vs =
        all_on (λ x. AllByRecursion (MayPrecede (kind_table kind) x) (calls_on i ds)) i cs
        (all_map (λ c. IsUse S n c.target) (λ c. c.target.part ≡ i → AllByRecursion (MayPrecede (kind_table kind) (call_of c)) (calls_on i ds))
        (λ c u p. precedes n ns h c u p ds vs) cs us)

    pub run_orderly : {ps end : List Part} {ns : List ℕ} → FitsKinds S.kinds ps → Serial g S q ps ns end → GoInOrder S ns
        → IsOrderly (kind_table kind) (part_at ps i) (calls_on i (calls_in_turn S q ps ns))
    run_orderly h done go = tt
    run_orderly {ps = ps} h (turn {n = n} {ns = ns} r fresh rest) go =
        subst (IsOrderly (kind_table kind) (part_at ps i)) (sym (calls_on-append i (calls_made S q n ps) (calls_in_turn S q (run_whole S q n ps) ns)))
        (orderly_append (kind_table kind) (part_at ps i) (calls_on i (calls_made S q n ps)) (calls_on i (calls_in_turn S q (run_whole S q n ps) ns))
        (turns.in_turn g q n ps (is_turn n ps h r) i kind is)
        (subst (λ (p : Part). IsOrderly (kind_table kind) p (calls_on i (calls_in_turn S q (run_whole S q n ps) ns))) (part_after n ps h) (run_orderly (one_fits n ps h r) rest go.1))
        (each_before n ns go.0 (calls_made S q n ps) (made_used n ps) (calls_in_turn S q (run_whole S q n ps) ns) (run_used ns (run_whole S q n ps))))

    -- all calls of the run may precede those of an element that they go before
    pub run_before : (ns : List ℕ) (n : ℕ) → AllGo S ns n → (ps : List Part) (t : Target) → IsUse S n t → t.part ≡ i → (y : Call) → y.method ≡ t.method
        → AllByRecursion (λ c. MayPrecede (kind_table kind) c y) (calls_on i (calls_in_turn S q ps ns))
    run_before ns n h ps t u p y m =
        all_on (λ c. MayPrecede (kind_table kind) c y) i (calls_in_turn S q ps ns)
        (all_map (UsedBySome ns) (λ d. d.target.part ≡ i → MayPrecede (kind_table kind) (call_of d) y)
        (λ d v r. subst (λ (k : ℕ). goes_before ((kind_table kind).relation d.target.method k) ≡ true) (sym m)
        (goes_on S v.0 n i kind is (h v.0 v.1) (call_of d) d.target t v.2 u r p)) (calls_in_turn S q ps ns) (run_used ns ps))
