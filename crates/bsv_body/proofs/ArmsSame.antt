-- The arms of a choice: their nodes do what the arms do.
use Rattle.std.proofs.Common.{◌≡◌, ◌∙◌, ℕ, ◌+◌, Bool, true, false, cond, not, ◌&&◌, List, [], ◌∷◌, ◌++◌, length, take, Some, refl, sym, ap, ap₂, subst, arith, append_assoc, append-nil, length-append}
use Rattle.std.specs.Prelude.{slice_get, ◌==◌, if◌then◌else◌}
use Rattle.bsv_bits.specs.Words.{Bits, bit}
use Rattle.bsv_design.specs.declared.node.Branch.{Branch}
use Rattle.bsv_design.specs.declared.node.Node.TheVariants as node
use Rattle.bsv_tree.specs.declared.steps.Atom.{Atom}
use Rattle.bsv_design.specs.design.Bodies.{at}
use Rattle.bsv_design.specs.design.Computing as computing
use Rattle.bsv_tree.specs.carrying.Running as steps
use Rattle.bsv_tree.specs.meaning.Evaluation.{Results, Standing}
use Rattle.bsv_tree.specs.carrying.Running.{Run, Happening, word_of, words_of, picked, either_run, last_run, arms_run, nested_run}
use Rattle.bsv_design.specs.design.Words.{or_zero, is_one}
use Rattle.bsv_body.specs.declared.choices.Given.{Given}
use Rattle.bsv_body.specs.declared.choices.Head.{Head}
use Rattle.bsv_body.specs.declared.choices.Tested.{Tested}
use Rattle.bsv_body.specs.declared.calls.Call.{Call}
use Rattle.bsv_body.specs.declared.state.State.{State}
use Rattle.bsv_body.specs.Bodies.{Shows, AreSites, AreNeeds}
use Rattle.bsv_body.specs.Flat.{Flat, Alternative, Position, no, put, one_choice, operand, operands, in_turn, picks_from, picks, giving, tested, join_one, join_all, head, heads_from, arms, nest, nest_from, nested, closed, choose, inside}
use Rattle.bsv_body.proofs.Joins.{joined_last}
use Rattle.bsv_body.proofs.Words.{Within, shows_within, shows_append, front_of, word_at, Keeps, keeps_all, keeps_twice, keeps_shows, put_within, put_word, put_keeps, operand_worth, operands_worth, Worths}
use Rattle.bsv_body.proofs.StepsSame.{sites_within, sites_append, needs_within, needs_append, Holds, holds_left, holds_right, IsSpot, spot_within, words, Follows, Matches, AllMatch, in_turn_same}

-- ---- a word of one bit, by a test

taken_word : (before : Bool) (w : Bits) → computing.picked w (bit before) (bit false) ≡ bit (before && is_one w)
taken_word before w = by before (w.value == 1) where
  by : (x y : Bool) → (if y then bit x else bit false) ≡ bit (x && y)
  by true true = refl
  by true false = refl
  by false true = refl
  by false false = refl

left_word : (before : Bool) (w : Bits) → computing.picked w (bit false) (bit before) ≡ bit (before && not (is_one w))
left_word before w = by before (w.value == 1) where
  by : (x y : Bool) → (if y then bit false else bit x) ≡ bit (x && not y)
  by true true = refl
  by true false = refl
  by false true = refl
  by false false = refl

picked_word : (w a b : Bits) → computing.picked w a b ≡ cond (is_one w) a b
picked_word w a b = by (w.value == 1) where
  by : (y : Bool) → (if y then a else b) ≡ cond y a b
  by true = refl
  by false = refl

inside_branches : (p : Position) (q : Standing) (taken choice arm : ℕ) (b : Bool) → p.branches ≡ q.branches → (inside p taken choice arm).branches ≡ (steps.inside q b choice arm).branches
inside_branches p q taken choice arm b e = ap (λ (l : List Branch). l ++ record { choice = choice; arm = arm } ∷ []) e

-- a choice, whose values come after it
abbrev pub chosen : Run → Run
chosen o r q ws n k = let a = o r q ws n k in record a { words = ws ++ a.words }

module _ (r : Results) (arguments : List Bits) (full : List Call) where
  abbrev seen : State → List Bits
  seen s = words r arguments full s

  -- ---- the values that arms give

  picks_from_worth : (t : ℕ) (w : Bits) (xs : List ℕ) (ws : List Bits) (ys : List ℕ) (us : List Bits) (ks : List ℕ) (vs : List Bits) (s : State)
      → slice_get (seen s) t ≡ Some w → Shows (seen s) ks vs → Shows (seen s) xs ws → Shows (seen s) ys us
      → Worths r arguments full s (vs ++ picked (is_one w) ws us) (picks_from t ks xs ys s)
  unfolding picks_from
  picks_from_worth t w [] [] ys us ks vs s e a b c = record { keeps = keeps_all r arguments full s; words = subst (λ l. Shows (seen s) ks l) (sym (append-nil vs)) a }
  picks_from_worth t w (x ∷ xs) (v ∷ ws) [] [] ks vs s e a b c = record { keeps = keeps_all r arguments full s; words = subst (λ l. Shows (seen s) ks l) (sym (append-nil vs)) a }
  picks_from_worth t w (x ∷ xs) (v ∷ ws) (y ∷ ys) (u ∷ us) ks vs s e a b c =
      let pick = node.Pick t x y in
      let z = put pick s in
      let on : Within (seen s) (seen z) = put_within r arguments full pick s in
      let is : word_at r arguments full (seen s) pick ≡ cond (is_one w) v u =
      ap₂ (λ i j. computing.picked (or_zero i) (or_zero j) (at (seen s) y)) e b.0 ∙ ap (λ i. computing.picked w v (or_zero i)) c.0 ∙ picked_word w v u in
      let rest = picks_from_worth t w xs ws ys us (ks ++ length s.nodes ∷ []) (vs ++ cond (is_one w) v u ∷ []) z (on t w e)
      (shows_append _ ks vs _ _ (shows_within _ _ on ks vs a) (put_word r arguments full pick s ∙ ap Some is, tt)) (shows_within _ _ on xs ws b.1) (shows_within _ _ on ys us c.1) in
      let all = picks_from t (ks ++ length s.nodes ∷ []) xs ys z in
      record {
        keeps = keeps_twice r arguments full s z all.1 (put_keeps r arguments full pick s) rest.keeps;
        words = subst (λ l. Shows (seen all.1) all.0 l) (append_assoc vs (cond (is_one w) v u ∷ []) (picked (is_one w) ws us)) rest.words;
      }
  picks_from_worth t w [] (v ∷ ws) ys us ks vs s e a b c = absurd b
  picks_from_worth t w (x ∷ xs) [] ys us ks vs s e a b c = absurd b
  picks_from_worth t w (x ∷ xs) (v ∷ ws) [] (u ∷ us) ks vs s e a b c = absurd c
  picks_from_worth t w (x ∷ xs) (v ∷ ws) (y ∷ ys) [] ks vs s e a b c = absurd c

  picks_worth : (t : ℕ) (w : Bits) (xs : List ℕ) (ws : List Bits) (ys : List ℕ) (us : List Bits) (s : State)
      → slice_get (seen s) t ≡ Some w → Shows (seen s) xs ws → Shows (seen s) ys us → Worths r arguments full s (picked (is_one w) ws us) (picks t xs ys s)
  unfolding picks
  picks_worth t w xs ws ys us s e b c = picks_from_worth t w xs ws ys us [] [] s e tt b c

  -- ---- an arm

  -- what arms leave, with the values that they give
  pub record Arms (s : State) (g : Given × State) (o : Happening) : Type 0 where
    pub within : Within (seen s) (seen g.1)
    pub more : List ℕ
    pub longer : g.1.slots ≡ s.slots ++ more
    pub gives : Shows (seen g.1) g.0.given o.words
    pub choices : g.1.choices ≡ o.choices
    pub sites : g.1.calls ≡ o.sites
    pub counted : g.1.calls ≡ s.calls + length g.0.asked.calls
    pub calls : AreSites (seen g.1) g.0.asked.calls o.calls
    pub needs : AreNeeds (seen g.1) g.0.asked.conditions o.needs

  -- and none of its own values stands
  record Closed (s : State) (g : Given × State) (o : Happening) : Type 0 where
    arms : Arms s g o
    slots : g.1.slots ≡ s.slots

  giving_same : (fs : List Flat) (os : List Run) (gives : List Atom) → AllMatch r arguments full fs os
      → (p : Position) (q : Standing) (s : State) (ws : List Bits) (n k : ℕ) → Shows (seen s) s.slots ws → IsSpot (seen s) p q → s.choices ≡ n → s.calls ≡ k
      → Holds full s.calls (giving fs gives p s).0.asked.calls → Closed s (giving fs gives p s) (last_run os gives r q ws n k)
  unfolding giving
  giving_same fs os gives all p q s ws n k shows position e i holds =
      let a = in_turn fs p s in
      let u = steps.in_turn os r q ws n k in
      let f = in_turn_same r arguments full fs os all p q s ws n k shows position e i holds in
      let g = operands gives a.1 in
      let h = operands_worth r arguments full gives a.1 u.words f.shows in
      let slots : take (length s.slots) g.1.slots ≡ s.slots = ap (take (length s.slots)) (h.keeps.slots ∙ f.longer) ∙ front_of s.slots f.more in
      record {
        arms = record {
          within = λ k w i. h.keeps.within k w (f.within k w i);
          more = [];
          longer = slots ∙ sym (append-nil s.slots);
          gives = h.words;
          choices = h.keeps.choices ∙ f.choices;
          sites = h.keeps.calls ∙ f.sites;
          counted = omega (arith, h.keeps.calls, f.counted);
          calls = sites_within _ _ h.keeps.within a.0.calls u.calls f.calls;
          needs = needs_within _ _ h.keeps.within a.0.conditions u.needs f.needs;
        };
        slots = slots;
      }

  -- ---- a test after its condition

  record Test (s : State) (t : Tested × State) (o : Happening) (w : Bits) (before : Bool) : Type 0 where
    follows : Follows r arguments full s (t.0.asked, t.1) o
    test : slice_get (seen t.1) t.0.test ≡ Some w
    taken : slice_get (seen t.1) t.0.taken ≡ Some (bit (before && is_one w))
    left : slice_get (seen t.1) t.0.left ≡ Some (bit (before && not (is_one w)))

  tested_same : (cf : List Flat) (co : List Run) (x : Atom) (bf : List Flat) (gives : List Atom) → AllMatch r arguments full cf co
      → (p : Position) (q : Standing) (left : ℕ) (before : Bool) (s : State) (ws : List Bits) (n k : ℕ) → Shows (seen s) s.slots ws → IsSpot (seen s) p q
      → slice_get (seen s) left ≡ Some (bit before) → s.choices ≡ n → s.calls ≡ k
      → Holds full s.calls (tested (record { condition = cf; test = x; body = bf; gives = gives }) p left s).0.asked.calls
      → Test s (tested (record { condition = cf; test = x; body = bf; gives = gives }) p left s) (steps.in_turn co r q ws n k) (word_of (steps.in_turn co r q ws n k).words x) before
  unfolding tested
  tested_same cf co x bf gives all p q left before s ws n k shows position l e i holds =
      let c = in_turn cf p s in
      let u = steps.in_turn co r q ws n k in
      let f = in_turn_same r arguments full cf co all p q s ws n k shows position e i holds in
      let o = operand x c.1 in
      let h = operand_worth r arguments full x c.1 u.words f.shows in
      let w = word_of u.words x in
      let is_taken = node.Pick o.0 left no in
      let a = put is_taken o.1 in
      let is_left = node.Pick o.0 no left in
      let b = put is_left a in
      let on_a : Within (seen o.1) (seen a) = put_within r arguments full is_taken o.1 in
      let on_b : Within (seen a) (seen b) = put_within r arguments full is_left a in
      let l1 : slice_get (seen o.1) left ≡ Some (bit before) = h.keeps.within _ _ (f.within _ _ l) in
      let n1 : slice_get (seen o.1) no ≡ Some (bit false) = h.keeps.within _ _ (f.within _ _ position.none) in
      let taken_is : word_at r arguments full (seen o.1) is_taken ≡ bit (before && is_one w) =
      ap₂ (λ i j. computing.picked (or_zero i) (or_zero j) (at (seen o.1) no)) h.word l1 ∙ ap (λ i. computing.picked w (bit before) (or_zero i)) n1 ∙ taken_word before w in
      let left_is : word_at r arguments full (seen a) is_left ≡ bit (before && not (is_one w)) =
      ap₂ (λ i j. computing.picked (or_zero i) (or_zero j) (at (seen a) left)) (on_a _ _ h.word) (on_a _ _ n1) ∙ ap (λ i. computing.picked w (bit false) (or_zero i)) (on_a _ _ l1) ∙ left_word before w in
      let keeps : Keeps r arguments full c.1 b = keeps_twice r arguments full c.1 o.1 b h.keeps (keeps_twice r arguments full o.1 a b (put_keeps r arguments full is_taken o.1) (put_keeps r arguments full is_left a)) in
      record {
        follows = record {
          within = λ k v i. keeps.within k v (f.within k v i);
          more = f.more;
          longer = keeps.slots ∙ f.longer;
          shows = keeps_shows r arguments full c.1 b u.words keeps f.shows;
          choices = keeps.choices ∙ f.choices;
          sites = keeps.calls ∙ f.sites;
          counted = omega (arith, keeps.calls, f.counted);
          calls = sites_within _ _ keeps.within c.0.calls u.calls f.calls;
          needs = needs_within _ _ keeps.within c.0.conditions u.needs f.needs;
        };
        test = on_b _ _ (on_a _ _ h.word);
        taken = on_b _ _ (put_word r arguments full is_taken o.1 ∙ ap Some taken_is);
        left = put_word r arguments full is_left a ∙ ap Some left_is;
      }

  -- ---- an arm before others

  join_same : (s : State) (t : Tested × State) (z : State) (b : Given × State) (d : Given × State) (o : Happening) (x : Atom) (w : Bits) (before : Bool) (body others : Happening) (words_given : List Bits)
      → Test s t o w before → z.slots ≡ t.1.slots → z.calls ≡ t.1.calls → Within (seen t.1) (seen z) → Closed z b (record body { words = words_given }) → Arms b.1 d others
      → Arms s (join_one (record { test = t.0.test; asked = t.0.asked; body = b.0 }) d)
      (record { words = picked (is_one w) words_given others.words; choices = others.choices; sites = others.sites; calls = o.calls ++ (body.calls ++ others.calls); needs = o.needs ++ (body.needs ++ others.needs) })
  join_same s t z b d o x w before body others given test slots calls on closed arms =
      let f = test.follows in
      let g = closed.arms in
      let far : Within (seen t.1) (seen d.1) = λ k v i. arms.within k v (g.within k v (on k v i)) in
      let p = picks_worth t.0.test w b.0.given given d.0.given others.words d.1 (far _ _ test.test) (shows_within _ _ arms.within b.0.given given g.gives) arms.gives in
      let all = picks t.0.test b.0.given d.0.given d.1 in
      let last : Within (seen d.1) (seen all.1) = p.keeps.within in
      let on_b : Within (seen b.1) (seen all.1) = λ k v i. last k v (arms.within k v i) in
      let on_t : Within (seen t.1) (seen all.1) = λ k v i. last k v (far k v i) in
      record {
        within = λ k v i. on_t k v (f.within k v i);
        more = f.more ++ arms.more;
        longer = p.keeps.slots ∙ arms.longer ∙ ap (λ (ks : List ℕ). ks ++ arms.more) (closed.slots ∙ slots ∙ f.longer) ∙ append_assoc s.slots f.more arms.more;
        gives = p.words;
        choices = p.keeps.choices ∙ arms.choices;
        sites = p.keeps.calls ∙ arms.sites;
        counted = omega (arith, p.keeps.calls, arms.counted, g.counted, calls, f.counted, length-append t.0.asked.calls (b.0.asked.calls ++ d.0.asked.calls), length-append b.0.asked.calls d.0.asked.calls);
        calls = sites_append _ t.0.asked.calls o.calls (b.0.asked.calls ++ d.0.asked.calls) (body.calls ++ others.calls) (sites_within _ _ on_t t.0.asked.calls o.calls f.calls)
            (sites_append _ b.0.asked.calls body.calls d.0.asked.calls others.calls (sites_within _ _ on_b b.0.asked.calls body.calls g.calls) (sites_within _ _ last d.0.asked.calls others.calls arms.calls));
        needs = needs_append _ t.0.asked.conditions o.needs (b.0.asked.conditions ++ d.0.asked.conditions) (body.needs ++ others.needs) (needs_within _ _ on_t t.0.asked.conditions o.needs f.needs)
            (needs_append _ b.0.asked.conditions body.needs d.0.asked.conditions others.needs (needs_within _ _ on_b b.0.asked.conditions body.needs g.needs) (needs_within _ _ last d.0.asked.conditions others.needs arms.needs));
      }

  -- ---- arms one after the other

  pub data AllAlternatives : List Alternative → List steps.Alternative → Type 0 where
    none : AllAlternatives [] []
    more : {cf bf : List Flat} {co bo : List Run} {test : Atom} {gives : List Atom} {xs : List Alternative} {ys : List steps.Alternative} → AllMatch r arguments full cf co → AllMatch r arguments full bf bo → AllAlternatives xs ys
        → AllAlternatives (record { condition = cf; test = test; body = bf; gives = gives } ∷ xs) (record { condition = co; test = test; body = bo; gives = gives } ∷ ys)

  -- the arms from one on, each before those after it
  abbrev arms_in_turn : List Flat → List Atom → List Alternative → ℕ → ℕ → ℕ → Position → State → Given × State
  arms_in_turn last gives [] choice place left p s = giving last gives (inside p left choice place) s
  arms_in_turn last gives (x ∷ xs) choice place left p s =
      let h = head choice place left x p s in join_one h.0.0 (arms_in_turn last gives xs choice (place + 1) h.0.1 p h.1)

  heads_joined : (last : List Flat) (gives : List Atom) (choice : ℕ) (p : Position) (xs : List Alternative) (hs : List Head) (left : ℕ) (s : State)
      → (let h = heads_from choice hs xs p left s in join_all h.0.0 (giving last gives (inside p h.0.1 choice (length h.0.0)) h.1)) ≡ join_all hs (arms_in_turn last gives xs choice (length hs) left p s)
  unfolding heads_from
  heads_joined last gives choice p [] hs left s = refl
  heads_joined last gives choice p (x ∷ xs) hs left s =
      let h = head choice (length hs) left x p s in
      let long : length (hs ++ h.0.0 ∷ []) ≡ length hs + 1 = omega (arith, length-append hs (h.0.0 ∷ [])) in
      heads_joined last gives choice p xs (hs ++ h.0.0 ∷ []) h.0.1 h.1
      ∙ ap (λ k. join_all (hs ++ h.0.0 ∷ []) (arms_in_turn last gives xs choice k h.0.1 p h.1)) long
      ∙ joined_last hs h.0.0 (arms_in_turn last gives xs choice (length hs + 1) h.0.1 p h.1)

  arms_same : (fs : List Flat) (os : List Run) (gives : List Atom) → AllMatch r arguments full fs os → (xs : List Alternative) (ys : List steps.Alternative) → AllAlternatives xs ys
      → (p : Position) (q : Standing) (choice place left : ℕ) (before : Bool) (s : State) (ws : List Bits) (n k : ℕ) → Shows (seen s) s.slots ws → IsSpot (seen s) p q
      → slice_get (seen s) left ≡ Some (bit before) → s.choices ≡ n → s.calls ≡ k → Holds full s.calls (arms_in_turn fs gives xs choice place left p s).0.asked.calls
      → Arms s (arms_in_turn fs gives xs choice place left p s) (arms_run os gives ys choice place before r q ws n k)
  unfolding arms_run
  arms_same fs os gives all [] [] none p q choice place left before s ws n k shows position l e i holds =
      (giving_same fs os gives all (inside p left choice place) (steps.inside q before choice place) s ws n k shows (record { taken = l; branches = inside_branches p q left choice place before position.branches; none = position.none }) e i holds).arms
  arms_same fs os gives all _ _ (more {cf} {bf} {co} {bo} {test} {gives = given} {xs} {ys} condition body others) p q choice place left before s ws n k shows position l e i holds =
      let x : Alternative = record { condition = cf; test = test; body = bf; gives = given } in
      let t = tested x p left s in
      let b = giving bf given (inside p t.0.taken choice place) t.1 in
      let d = arms_in_turn fs gives xs choice (place + 1) t.0.left p b.1 in
      let u = steps.in_turn co r q ws n k in
      let w = word_of u.words test in
      let first = holds_left full t.0.asked.calls (b.0.asked.calls ++ d.0.asked.calls) s.calls holds in
      let h = tested_same cf co test bf given condition p q left before s ws n k shows position l e i first in
      let f = h.follows in
      let behind = subst (λ k. Holds full k (b.0.asked.calls ++ d.0.asked.calls)) (sym f.counted) (holds_right full t.0.asked.calls (b.0.asked.calls ++ d.0.asked.calls) s.calls holds) in
      let v = steps.in_turn bo r (steps.inside q (before && is_one w) choice place) u.words u.choices u.sites in
      let spot_t = spot_within _ _ f.within p q position in
      let g = giving_same bf bo given body (inside p t.0.taken choice place) (steps.inside q (before && is_one w) choice place) t.1 u.words u.choices u.sites f.shows
      (record { taken = h.taken; branches = inside_branches p q t.0.taken choice place (before && is_one w) position.branches; none = spot_t.none }) f.choices f.sites (holds_left full b.0.asked.calls d.0.asked.calls t.1.calls behind) in
      let rest = arms_same fs os gives all xs ys others p q choice (place + 1) t.0.left (before && not (is_one w)) b.1 u.words v.choices v.sites
      (subst (λ ks. Shows (seen b.1) ks u.words) (sym g.slots) (shows_within _ _ g.arms.within t.1.slots u.words f.shows)) (spot_within _ _ g.arms.within p q spot_t) (g.arms.within _ _ h.left) g.arms.choices g.arms.sites
      (subst (λ k. Holds full k d.0.asked.calls) (sym g.arms.counted) (holds_right full b.0.asked.calls d.0.asked.calls t.1.calls behind)) in
      join_same s t t.1 b d u test w before v _ (words_of v.words given) h refl refl (λ k z i. i) g rest

  -- ---- choices in one another

  abbrev nest_in_turn : List Flat → List Atom → List Alternative → Position → State → Given × State
  nest_in_turn last gives [] p s = giving last gives p s
  nest_in_turn last gives (x ∷ xs) p s = let h = nest x p s in join_one h.0.0 (nest_in_turn last gives xs (record { taken = h.0.1; branches = h.0.2 }) h.1)

  nest_joined : (last : List Flat) (gives : List Atom) (xs : List Alternative) (hs : List Head) (p : Position) (s : State)
      → (let h = nest_from hs xs p s in join_all h.0.0 (giving last gives h.0.1 h.1)) ≡ join_all hs (nest_in_turn last gives xs p s)
  unfolding nest_from
  nest_joined last gives [] hs p s = refl
  nest_joined last gives (x ∷ xs) hs p s =
      let h = nest x p s in
      let z : Position = record { taken = h.0.1; branches = h.0.2 } in
      nest_joined last gives xs (hs ++ h.0.0 ∷ []) z h.1 ∙ joined_last hs h.0.0 (nest_in_turn last gives xs z h.1)

  nest_same : (fs : List Flat) (os : List Run) (gives : List Atom) → AllMatch r arguments full fs os → (xs : List Alternative) (ys : List steps.Alternative) → AllAlternatives xs ys
      → (p : Position) (q : Standing) (s : State) (ws : List Bits) (n k : ℕ) → Shows (seen s) s.slots ws → IsSpot (seen s) p q
      → s.choices ≡ n → s.calls ≡ k → Holds full s.calls (nest_in_turn fs gives xs p s).0.asked.calls
      → Arms s (nest_in_turn fs gives xs p s) (nested_run os gives ys r q ws n k)
  unfolding nested_run nest
  nest_same fs os gives all [] [] none p q s ws n k shows position e i holds = (giving_same fs os gives all p q s ws n k shows position e i holds).arms
  nest_same fs os gives all _ _ (more {cf} {bf} {co} {bo} {test} {gives = given} {xs} {ys} condition body others) p q s ws n k shows position e i holds =
      let x : Alternative = record { condition = cf; test = test; body = bf; gives = given } in
      let t = tested x p p.taken s in
      let choice = t.1.choices in
      let z = (one_choice t.1).1 in
      let b = giving bf given (inside p t.0.taken choice 0) z in
      let d = nest_in_turn fs gives xs (inside p t.0.left choice 1) b.1 in
      let u = steps.in_turn co r q ws n k in
      let w = word_of u.words test in
      let first = holds_left full t.0.asked.calls (b.0.asked.calls ++ d.0.asked.calls) s.calls holds in
      let h = tested_same cf co test bf given condition p q p.taken q.taken s ws n k shows position position.taken e i first in
      let f = h.follows in
      let behind = subst (λ k. Holds full k (b.0.asked.calls ++ d.0.asked.calls)) (sym f.counted) (holds_right full t.0.asked.calls (b.0.asked.calls ++ d.0.asked.calls) s.calls holds) in
      let spot_t = spot_within _ _ f.within p q position in
      let same : u.choices ≡ choice = sym f.choices in
      let v = steps.in_turn bo r (steps.inside q (q.taken && is_one w) choice 0) u.words (choice + 1) u.sites in
      let g = giving_same bf bo given body (inside p t.0.taken choice 0) (steps.inside q (q.taken && is_one w) choice 0) z u.words (choice + 1) u.sites f.shows
      (record { taken = h.taken; branches = inside_branches p q t.0.taken choice 0 (q.taken && is_one w) position.branches; none = spot_t.none }) refl f.sites (holds_left full b.0.asked.calls d.0.asked.calls z.calls behind) in
      let rest = nest_same fs os gives all xs ys others (inside p t.0.left choice 1) (steps.inside q (q.taken && not (is_one w)) choice 1) b.1 u.words v.choices v.sites
      (subst (λ ks. Shows (seen b.1) ks u.words) (sym g.slots) (shows_within _ _ g.arms.within z.slots u.words f.shows))
      (record { taken = g.arms.within _ _ h.left; branches = inside_branches p q t.0.left choice 1 (q.taken && not (is_one w)) position.branches; none = g.arms.within _ _ spot_t.none }) g.arms.choices g.arms.sites
      (subst (λ k. Holds full k d.0.asked.calls) (sym g.arms.counted) (holds_right full b.0.asked.calls d.0.asked.calls z.calls behind)) in
      subst (λ j. let y = steps.in_turn bo r (steps.inside q (q.taken && is_one w) j 0) u.words (j + 1) u.sites in
      Arms s (nest_in_turn fs gives (x ∷ xs) p s)
      (either_run u (is_one w) y given (nested_run os gives ys r (steps.inside q (q.taken && not (is_one w)) j 1) u.words y.choices y.sites))) (sym same)
      (join_same s t z b d u test w q.taken v _ (words_of v.words given) h refl refl (λ k y i. i) g rest)

  -- ---- a whole choice

  close_same : (s z : State) (g : Given × State) (o : Happening) (ws : List Bits) → Shows (seen s) s.slots ws → z.slots ≡ s.slots → z.calls ≡ s.calls → Within (seen s) (seen z) → Arms z g o
      → Follows r arguments full s (closed (length s.slots) g) (record o { words = ws ++ o.words })
  close_same s z g o ws shows slots calls on h =
      let front : take (length s.slots) g.1.slots ≡ s.slots = ap (take (length s.slots)) (h.longer ∙ ap (λ (ks : List ℕ). ks ++ h.more) slots) ∙ front_of s.slots h.more in
      record {
        within = λ k w i. h.within k w (on k w i);
        more = g.0.given;
        longer = ap (λ (ks : List ℕ). ks ++ g.0.given) front;
        shows = subst (λ ks. Shows (seen g.1) (ks ++ g.0.given) (ws ++ o.words)) (sym front)
            (shows_append _ s.slots ws g.0.given o.words (shows_within _ _ (λ k w i. h.within k w (on k w i)) s.slots ws shows) h.gives);
        choices = h.choices;
        sites = h.sites;
        counted = omega (arith, h.counted, calls);
        calls = h.calls;
        needs = h.needs;
      }

  pub choose_same : (is_nested : Bool) (fs : List Flat) (os : List Run) (gives : List Atom) (xs : List Alternative) (ys : List steps.Alternative) → AllMatch r arguments full fs os → AllAlternatives xs ys
      → Matches r arguments full (choose is_nested fs gives xs) (chosen (λ r q ws n k. if is_nested then nested_run os gives ys r q ws n k else arms_run os gives ys n 0 q.taken r q ws (n + 1) k))
  unfolding choose nested arms join_all
  choose_same true fs os gives xs ys all alternatives p q s ws n k shows position e i holds =
      let is : nested fs gives xs p s ≡ nest_in_turn fs gives xs p s = nest_joined fs gives xs [] p s in
      let h = nest_same fs os gives all xs ys alternatives p q s ws n k shows position e i (subst (λ (g : Given × State). Holds full s.calls g.0.asked.calls) is holds) in
      close_same s s (nested fs gives xs p s) (nested_run os gives ys r q ws n k) ws shows refl refl (λ k w i. i) (subst (λ (g : Given × State). Arms s g (nested_run os gives ys r q ws n k)) (sym is) h)
  choose_same false fs os gives xs ys all alternatives p q s ws n k shows position e i holds =
      let z = (one_choice s).1 in
      let is : arms fs gives xs p s ≡ arms_in_turn fs gives xs s.choices 0 p.taken p z = heads_joined fs gives s.choices p xs [] p.taken z in
      let h : Arms z (arms_in_turn fs gives xs s.choices 0 p.taken p z) (arms_run os gives ys n 0 q.taken r q ws (n + 1) k) =
      subst (λ j. Arms z (arms_in_turn fs gives xs s.choices 0 p.taken p z) (arms_run os gives ys j 0 q.taken r q ws (j + 1) k)) e
      (arms_same fs os gives all xs ys alternatives p q s.choices 0 p.taken q.taken z ws (s.choices + 1) k shows position position.taken refl i
      (subst (λ (g : Given × State). Holds full s.calls g.0.asked.calls) is holds)) in
      close_same s z (arms fs gives xs p s) (arms_run os gives ys n 0 q.taken r q ws (n + 1) k) ws shows refl refl (λ k w i. i)
      (subst (λ (g : Given × State). Arms z g (arms_run os gives ys n 0 q.taken r q ws (n + 1) k)) (sym is) h)
