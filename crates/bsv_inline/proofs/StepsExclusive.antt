-- Calls of steps in different arms of one choice are never both taken: each run goes one way at each choice.
use Rattle.std.proofs.Common.{◌≡◌, ◌∙◌, ℕ, zero, suc, ◌+◌, ◌<◌, ◌≤◌, Bool, true, cond, not, ◌&&◌, eqb, ⊎_elim, List, [], ◌∷◌, ◌++◌, map, Option, Some, refl, sym, ap, subst, arith}
use Rattle.std.specs.Prelude.{◌==◌, IsTrue, slice_get}
use Rattle.std.proofs.lemmas.Bool.{cond-true, cond-false, eq-eqb, ne_eqb, eqb-true, eqb-false, not-true, and_parts, or_cases, true≢false}
use Rattle.std.proofs.lemmas.Option.{none-some, same_Some}
use Rattle.bsv_bits.specs.Words.{Bits}
use Rattle.bsv_types.specs.declared.modules.Module.{Module}
use Rattle.bsv_design.specs.declared.node.Branch.{Branch}
use Rattle.bsv_tree.specs.declared.steps.Atom.{Atom}
use Rattle.bsv_tree.specs.declared.steps.Step.{Step}
use Rattle.bsv_tree.specs.declared.tree.Instance.{Instance}
use Rattle.bsv_design.specs.design.Bodies.{Answers}
use Rattle.bsv_design.specs.design.Branches.{other_arm, other_arm_of, apart, AreExclusive}
use Rattle.bsv_tree.specs.meaning.Evaluation.{Results, Standing, SiteCall}
use Rattle.bsv_tree.specs.carrying.Running.{Happening, Run, Alternative, happening, either_run, in_turn, nested_run, arms_run, inside, word_of}
use Rattle.bsv_design.specs.design.Words.{is_one}
use Rattle.bsv_design.specs.scheme.Traces.{Site}
use Rattle.bsv_tree.specs.carrying.Sources.{step_trace}
use Rattle.bsv_tree.specs.meaning.Schemes.{site_of}
use Rattle.bsv_tree.specs.tree.Elements.{target_of}
use Rattle.bsv_inline.proofs.Uses.{Methods}
use Rattle.bsv_inline.proofs.EachStep.{AllKeep, AllArms, IsKept, all_keep}

-- ---- a way: which arm is taken at each choice

abbrev Way : Type 0
Way = ℕ → ℕ

-- these arms, of choices before this number, are on the way
abbrev AllOn : Way → ℕ → List Branch → Type 0
AllOn w n [] = Unit {0}
AllOn w n (b ∷ bs) = (b.choice < n) × (w b.choice ≡ b.arm) × AllOn w n bs

abbrev AreTakenOn : Way → ℕ → List SiteCall → Type 0
AreTakenOn w n [] = Unit {0}
AreTakenOn w n (c ∷ cs) = (c.taken ≡ true → AllOn w n c.branches) × AreTakenOn w n cs

-- the ways are the same at the choices before this number
abbrev AreSameBelow : ℕ → Way → Way → Type 0
AreSameBelow n v w = (i : ℕ) → i < n → v i ≡ w i

same_below : (l m : ℕ) (u v w : Way) → l ≤ m → AreSameBelow l v u → AreSameBelow m w v → AreSameBelow l w u
same_below l m u v w le h k i lt = k i (omega (arith, le, lt)) ∙ h i lt

on_more : (v w : Way) (m n : ℕ) → m ≤ n → AreSameBelow m w v → (bs : List Branch) → AllOn v m bs → AllOn w n bs
on_more v w m n le h [] k = tt
on_more v w m n le h (b ∷ bs) k = (omega (arith, le, k.0), h b.choice k.0 ∙ k.1, on_more v w m n le h bs k.2)

on_inner : (w : Way) (n choice arm : ℕ) (bs : List Branch) → AllOn w n bs → choice < n → w choice ≡ arm → AllOn w n (bs ++ record { choice = choice; arm = arm } ∷ [])
on_inner w n choice arm [] h lt e = (lt, e, tt)
on_inner w n choice arm (b ∷ bs) h lt e = (h.0, h.1, on_inner w n choice arm bs h.2 lt e)

taken_more : (v w : Way) (m n : ℕ) → m ≤ n → AreSameBelow m w v → (cs : List SiteCall) → AreTakenOn v m cs → AreTakenOn w n cs
taken_more v w m n le h [] k = tt
taken_more v w m n le h (c ∷ cs) k = ((λ t. on_more v w m n le h c.branches (k.0 t)), taken_more v w m n le h cs k.1)

taken_both : (w : Way) (n : ℕ) (cs ds : List SiteCall) → AreTakenOn w n cs → AreTakenOn w n ds → AreTakenOn w n (cs ++ ds)
taken_both w n [] ds h k = k
taken_both w n (c ∷ cs) ds h k = (h.0, taken_both w n cs ds h.1 k)

-- where steps stand, if that is taken, is on the way
abbrev Stands : Way → ℕ → Standing → Type 0
Stands w n p = p.taken ≡ true → AllOn w n p.branches

-- from this choice on, a run goes this way further
record Goes (w : Way) (n : ℕ) (a : Happening) : Type 0 where
  more : n ≤ a.choices
  way : Way
  same : AreSameBelow n way w
  calls : AreTakenOn way a.choices a.calls

abbrev GoesOn : Run → Methods → Type 0
GoesOn o u = (r : Results) (p : Standing) (ws : List Bits) (n k : ℕ) (w : Way) → Stands w n p → Goes w n (o r p ws n k)

stands_more : (v w : Way) (m n : ℕ) (p : Standing) → m ≤ n → AreSameBelow m w v → Stands v m p → Stands w n p
stands_more v w m n p le h s t = on_more v w m n le h p.branches (s t)

in_turn_goes : (os : List Run) (us : List Methods) → AllKeep GoesOn os us → GoesOn (in_turn os) []
unfolding in_turn
in_turn_goes [] [] h r p ws n k w s = record { more = omega arith; way = w; same = λ i lt. refl; calls = tt }
in_turn_goes (o ∷ os) (u ∷ us) h r p ws n k w s =
    let a = o r p ws n k in
    let b = in_turn os r p a.words a.choices a.sites in
    let x = h.0 r p ws n k w s in
    let y = in_turn_goes os us h.1 r p a.words a.choices a.sites x.way (stands_more w x.way n a.choices p x.more x.same s) in
    record {
      more = omega (arith, x.more, y.more);
      way = y.way;
      same = same_below n a.choices w x.way y.way x.more x.same y.same;
      calls = taken_both y.way b.choices a.calls b.calls (taken_more x.way y.way a.choices b.choices y.more y.same a.calls x.calls) y.calls;
    }
in_turn_goes [] (u ∷ us) h r p ws n k w s = absurd h
in_turn_goes (o ∷ os) [] h r p ws n k w s = absurd h

-- ---- choices

-- at this choice, the way takes this arm
abbrev put : ℕ → ℕ → Way → Way
put choice arm w = λ i. cond (eqb choice i) arm (w i)

put_here : (choice arm : ℕ) (w : Way) → put choice arm w choice ≡ arm
put_here choice arm w = cond-true (eqb choice choice) arm (w choice) (eq-eqb choice choice refl)

put_below : (choice arm : ℕ) (w : Way) → AreSameBelow choice (put choice arm w) w
put_below choice arm w i lt = cond-false (eqb choice i) arm (w i) (ne_eqb choice i (omega (arith, lt)))

-- a condition, its arm, and what follows
either_goes : (w : Way) (n : ℕ) (a b c : Happening) (t : Bool) (gives : List Atom) (v : Way) (m : ℕ) → (x : Goes w n a) → a.choices ≤ m → AreSameBelow a.choices v x.way
    → (y : Goes v m b) → Goes y.way b.choices c → Goes w n (either_run a t b gives c)
either_goes w n a b c t gives v m x le h y z =
    let later : AreSameBelow a.choices y.way x.way = same_below a.choices m x.way v y.way le h y.same in
    let last : AreSameBelow a.choices z.way x.way = same_below a.choices b.choices x.way y.way z.way (omega (arith, le, y.more)) later z.same in
    record {
      more = omega (arith, x.more, le, y.more, z.more);
      way = z.way;
      same = same_below n a.choices w x.way z.way x.more x.same last;
      calls =
          taken_both z.way c.choices a.calls (b.calls ++ c.calls) (taken_more x.way z.way a.choices c.choices (omega (arith, le, y.more, z.more)) last a.calls x.calls)
          (taken_both z.way c.choices b.calls c.calls (taken_more y.way z.way b.choices c.choices z.more z.same b.calls y.calls) z.calls);
    }

module _ (last : List Run) (us : List Methods) (gives : List Atom) (all : AllKeep GoesOn last us) where
  -- there is an arm that the choice takes, whatever the way at the others
  arms_go : (xs : List Alternative) (vs : List Methods) → AllArms GoesOn xs vs → (choice arm : ℕ) (left : Bool) (r : Results) (p : Standing) (ws : List Bits) (n k : ℕ)
      → (left ≡ true → p.taken ≡ true)
      → (j : ℕ) × ((w : Way) → choice < n → Stands w n p → (left ≡ true → w choice ≡ j) → Goes w n (arms_run last gives xs choice arm left r p ws n k))
  unfolding arms_run
  arms_go [] [] h choice arm left r p ws n k i = (
    arm,
    λ w lt s e.
        let x = in_turn_goes last us all r (inside p left choice arm) ws n k w (λ t. on_inner w n choice arm p.branches (s (i t)) lt (e t)) in
        record { more = x.more; way = x.way; same = x.same; calls = x.calls },
  )
  arms_go (x ∷ xs) (v ∷ vs) h choice arm left r p ws n k i =
      let a = in_turn x.condition r p ws n k in
      let t = is_one (word_of a.words x.test) in
      let b = in_turn x.body r (inside p (left && t) choice arm) a.words a.choices a.sites in
      let others = arms_go xs vs h.1 choice (arm + 1) (left && not t) r p a.words b.choices b.sites (λ g. i (and_parts left (not t) g).0) in (
        cond t arm others.0,
        λ w lt s e.
            let first = in_turn_goes x.condition h.0.first h.0.condition r p ws n k w s in
            let before : Stands first.way a.choices p = stands_more w first.way n a.choices p first.more first.same s in
            let taken : (left && t) ≡ true → first.way choice ≡ arm = λ g. first.same choice lt ∙ e (and_parts left t g).0 ∙ cond-true t arm others.0 (and_parts left t g).1 in
            let second = in_turn_goes x.body h.0.second h.0.body r (inside p (left && t) choice arm) a.words a.choices a.sites first.way
            (λ g. on_inner first.way a.choices choice arm p.branches (before (i (and_parts left t g).0)) (omega (arith, lt, first.more)) (taken g)) in
            let third = others.1 second.way (omega (arith, lt, first.more, second.more)) (stands_more first.way second.way a.choices b.choices p second.more second.same before)
            (λ g. second.same choice (omega (arith, lt, first.more)) ∙ first.same choice lt ∙ e (and_parts left (not t) g).0 ∙ cond-false t arm others.0 (not-true t (and_parts left (not t) g).1)) in
            either_goes w n a b _ t x.gives first.way a.choices first (omega arith) (λ l below. refl) second third,
      )
  arms_go [] (v ∷ vs) h choice arm left r p ws n k i = absurd h
  arms_go (x ∷ xs) [] h choice arm left r p ws n k i = absurd h

  nested_goes : (xs : List Alternative) (vs : List Methods) → AllArms GoesOn xs vs → GoesOn (nested_run last gives xs) []
  unfolding nested_run
  nested_goes [] [] h r p ws n k w s =
      let x = in_turn_goes last us all r p ws n k w s in
      record { more = x.more; way = x.way; same = x.same; calls = x.calls }
  nested_goes (x ∷ xs) (v ∷ vs) h r p ws n k w s =
      let a = in_turn x.condition r p ws n k in
      let t = is_one (word_of a.words x.test) in
      let b = in_turn x.body r (inside p (p.taken && t) a.choices 0) a.words (a.choices + 1) a.sites in
      let first = in_turn_goes x.condition h.0.first h.0.condition r p ws n k w s in
      let j : ℕ = cond t 0 1 in
      let way : Way = put a.choices j first.way in
      let before : Stands way (a.choices + 1) p =
      stands_more w way n (a.choices + 1) p (omega (arith, first.more)) (same_below n a.choices w first.way way first.more first.same (put_below a.choices j first.way)) s in
      let second = in_turn_goes x.body h.0.second h.0.body r (inside p (p.taken && t) a.choices 0) a.words (a.choices + 1) a.sites way
      (λ g. on_inner way (a.choices + 1) a.choices 0 p.branches (before (and_parts p.taken t g).0) (omega arith) (put_here a.choices j first.way ∙ cond-true t 0 1 (and_parts p.taken t g).1)) in
      let here : second.way a.choices ≡ j = second.same a.choices (omega arith) ∙ put_here a.choices j first.way in
      let others : Stands second.way b.choices (inside p (p.taken && not t) a.choices 1) =
      λ g. on_inner second.way b.choices a.choices 1 p.branches (stands_more way second.way (a.choices + 1) b.choices p second.more second.same before (and_parts p.taken (not t) g).0) (omega (arith, second.more))
      (here ∙ cond-false t 0 1 (not-true t (and_parts p.taken (not t) g).1)) in
      let third = nested_goes xs vs h.1 r (inside p (p.taken && not t) a.choices 1) a.words b.choices b.sites second.way others in
      either_goes w n a b _ t x.gives way (a.choices + 1) first (omega arith) (put_below a.choices j first.way) second third
  nested_goes [] (v ∷ vs) h r p ws n k w s = absurd h
  nested_goes (x ∷ xs) [] h r p ws n k w s = absurd h

  chain_goes : (xs : List Alternative) (vs : List Methods) → AllArms GoesOn xs vs → GoesOn (λ r p ws n k. arms_run last gives xs n 0 p.taken r p ws (n + 1) k) []
  chain_goes xs vs h r p ws n k w s =
      let c = arms_go xs vs h n 0 p.taken r p ws (n + 1) k (λ t. t) in
      let way : Way = put n c.0 w in
      let x = c.1 way (omega arith) (stands_more w way n (n + 1) p (omega arith) (put_below n c.0 w) s) (λ t. put_here n c.0 w) in
      record { more = omega (arith, x.more); way = x.way; same = same_below n (n + 1) w way x.way (omega arith) (put_below n c.0 w) x.same; calls = x.calls }

all_go : IsKept GoesOn
all_go = record {
  bound = λ c r p ws n k w s. record { more = omega arith; way = w; same = λ i lt. refl; calls = tt };
  read = λ m xs os us h r p ws n k w s.
      let x = in_turn_goes os us h r p ws n (k + 1) w s in
      record { more = x.more; way = x.way; same = x.same; calls = (stands_more w x.way n _ p x.more x.same s, x.calls) };
  act = λ m xs os us h r p ws n k w s.
      let x = in_turn_goes os us h r p ws n (k + 1) w s in
      record { more = x.more; way = x.way; same = x.same; calls = (stands_more w x.way n _ p x.more x.same s, x.calls) };
  need = λ name z os us h r p ws n k w s.
      let x = in_turn_goes os us h r p ws n k w s in
      record { more = x.more; way = x.way; same = x.same; calls = x.calls };
  nested = λ arms us last vs gives h i r p ws n k w s.
      let x = nested_goes last vs gives i arms us h r p ws n k w s in
      record { more = x.more; way = x.way; same = x.same; calls = x.calls };
  chain = λ arms us last vs gives h i r p ws n k w s.
      let x = chain_goes last vs gives i arms us h r p ws n k w s in
      record { more = x.more; way = x.way; same = x.same; calls = x.calls };
}

-- ---- two calls of one run

site_on : (is : List Instance) (w : Way) (n : ℕ) (cs : List SiteCall) → AreTakenOn w n cs → (i : ℕ) (x : Site) → slice_get (map (site_of is) cs) i ≡ Some x → x.taken ≡ true → AllOn w n x.branches
site_on is w n [] h i x e t = absurd (none-some x e)
site_on is w n (c ∷ cs) h zero x e t =
    let same : site_of is c ≡ x = same_Some (site_of is c) x e in
    subst (λ (z : Site). AllOn w n z.branches) same (h.0 (ap (λ (z : Site). z.taken) same ∙ t))
site_on is w n (c ∷ cs) h (suc i) x e t = site_on is w n cs h.1 i x e t

no_other_arm : (w : Way) (a b : Branch) → w a.choice ≡ a.arm → w b.choice ≡ b.arm → IsTrue (other_arm a b) → ⊥
no_other_arm w a b e f h =
    let both = and_parts (a.choice == b.choice) (not (a.arm == b.arm)) h in
    let arms : a.arm ≡ b.arm = sym e ∙ ap w (eqb-true a.choice b.choice both.0) ∙ f in
    eqb-false a.arm b.arm (not-true _ both.1) arms

no_other : (w : Way) (n : ℕ) (a : Branch) (bs : List Branch) → w a.choice ≡ a.arm → AllOn w n bs → IsTrue (other_arm_of a bs) → ⊥
no_other w n a [] e k h = true≢false (sym h)
no_other w n a (b ∷ bs) e k h = ⊎_elim (no_other_arm w a b e k.1) (no_other w n a bs e k.2) (or_cases (other_arm a b) (other_arm_of a bs) h)

not_apart : (w : Way) (n : ℕ) (xs ys : List Branch) → AllOn w n xs → AllOn w n ys → IsTrue (apart xs ys) → ⊥
not_apart w n [] ys h k t = true≢false (sym t)
not_apart w n (x ∷ xs) ys h k t = ⊎_elim (no_other w n x ys h.1 k) (not_apart w n xs ys h.2 k) (or_cases (other_arm_of x ys) (apart xs ys) t)

happening_goes : (ss : List Step) (r : Results) (ws : List Bits) → Goes (λ i. 0) 0 (happening ss r ws)
unfolding happening
happening_goes ss r ws = in_turn_goes _ _ (all_keep GoesOn all_go ss) r (record { taken = true; branches = [] }) ws 0 0 (λ i. 0) (λ t. tt)

pub are_exclusive : (ms : List Module) (is : List Instance) (ss : List Step) (gives : Option Atom) (r : Answers) (ws : List Bits)
    → AreExclusive (step_trace ms is ss gives r ws).sites
unfolding step_trace
are_exclusive ms is ss gives r ws i j x y e f h t u =
    let a = happening ss (λ k m. r k (target_of is m)) ws in
    let g = happening_goes ss (λ k m. r k (target_of is m)) ws in
    not_apart g.way a.choices x.branches y.branches (site_on is g.way a.choices a.calls g.calls i x e t) (site_on is g.way a.choices a.calls g.calls j y f u) h
