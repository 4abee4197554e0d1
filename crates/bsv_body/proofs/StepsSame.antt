-- A step's nodes do what the step does.
use Rattle.std.proofs.Common.{◌≡◌, ◌∙◌, ℕ, suc, ◌+◌, Bool, true, false, List, [], ◌∷◌, ◌++◌, length, Option, Some, refl, sym, ap, subst, arith, append_assoc, append-nil, length-append}
use Rattle.std.specs.Prelude.{slice_get}
use Rattle.bsv_bits.specs.Words.{Bits, bit}
use Rattle.bsv_design.specs.declared.node.Node.TheVariants as node
use Rattle.bsv_tree.specs.declared.steps.Atom.{Atom}
use Rattle.bsv_tree.specs.declared.steps.Compute.{Compute}
use Rattle.bsv_tree.specs.declared.steps.MethodPlace.{MethodPlace}
use Rattle.bsv_tree.specs.carrying.Running as steps
use Rattle.bsv_tree.specs.meaning.Evaluation.{Results, Standing, SiteCall, Need}
use Rattle.bsv_tree.specs.carrying.Running.{Run, Happening, followed, quiet, word_of, words_of}
use Rattle.bsv_design.specs.design.Words.{is_one}
use Rattle.bsv_body.specs.declared.calls.Call.{Call}
use Rattle.bsv_body.specs.declared.calls.Condition.{Condition}
use Rattle.bsv_body.specs.declared.state.Asked.{Asked}
use Rattle.bsv_body.specs.declared.state.State.{State}
use Rattle.bsv_body.specs.Bodies.{Shows, AreSites, AreNeeds}
use Rattle.bsv_body.specs.Flat.{Flat, Position, no, nothing, both, operand, operands, compute, one_call, in_turn_from, in_turn, called, read, act, needed}
use Rattle.bsv_body.specs.Nodes.{answer}
use Rattle.bsv_body.proofs.Joins.{both_twice, both_none}
use Rattle.bsv_body.proofs.Words.{Within, shows_within, shows_words, seen, word_at, keeps_shows, operand_worth, operands_worth, stand_more, compute_worth}

-- ---- calls and conditions

pub sites_within : (vs ws : List Bits) → Within vs ws → (cs : List Call) (ss : List SiteCall) → AreSites vs cs ss → AreSites ws cs ss
sites_within vs ws h [] [] s = tt
sites_within vs ws h (c ∷ cs) (x ∷ ss) s =
    (record { method = s.0.method; action = s.0.action; taken = h _ _ s.0.taken; branches = s.0.branches; arguments = shows_within vs ws h c.arguments x.arguments s.0.arguments }, sites_within vs ws h cs ss s.1)
sites_within vs ws h [] (x ∷ ss) s = absurd s
sites_within vs ws h (c ∷ cs) [] s = absurd s

pub sites_append : (vs : List Bits) (cs : List Call) (ss : List SiteCall) (ds : List Call) (ts : List SiteCall) → AreSites vs cs ss → AreSites vs ds ts → AreSites vs (cs ++ ds) (ss ++ ts)
sites_append vs [] [] ds ts s t = t
sites_append vs (c ∷ cs) (x ∷ ss) ds ts s t = (s.0, sites_append vs cs ss ds ts s.1 t)
sites_append vs [] (x ∷ ss) ds ts s t = absurd s
sites_append vs (c ∷ cs) [] ds ts s t = absurd s

pub needs_within : (vs ws : List Bits) → Within vs ws → (cs : List Condition) (ns : List Need) → AreNeeds vs cs ns → AreNeeds ws cs ns
needs_within vs ws h [] [] s = tt
needs_within vs ws h (c ∷ cs) (x ∷ ns) s =
    (record { name = s.0.name; word = s.0.word; truth = h _ _ s.0.truth; holds = s.0.holds; taken = h _ _ s.0.taken }, needs_within vs ws h cs ns s.1)
needs_within vs ws h [] (x ∷ ns) s = absurd s
needs_within vs ws h (c ∷ cs) [] s = absurd s

pub needs_append : (vs : List Bits) (cs : List Condition) (ns : List Need) (ds : List Condition) (ms : List Need) → AreNeeds vs cs ns → AreNeeds vs ds ms → AreNeeds vs (cs ++ ds) (ns ++ ms)
needs_append vs [] [] ds ms s t = t
needs_append vs (c ∷ cs) (x ∷ ns) ds ms s t = (s.0, needs_append vs cs ns ds ms s.1 t)
needs_append vs [] (x ∷ ns) ds ms s t = absurd s
needs_append vs (c ∷ cs) [] ds ms s t = absurd s

-- the calls from this number on are these
abbrev pub Holds : List Call → ℕ → List Call → Type 0
Holds full k [] = Unit {0}
Holds full k (c ∷ cs) = (slice_get full k ≡ Some c) × Holds full (k + 1) cs

pub holds_left : (full xs ys : List Call) (k : ℕ) → Holds full k (xs ++ ys) → Holds full k xs
holds_left full [] ys k h = tt
holds_left full (x ∷ xs) ys k h = (h.0, holds_left full xs ys (k + 1) h.1)

pub holds_right : (full xs ys : List Call) (k : ℕ) → Holds full k (xs ++ ys) → Holds full (k + length xs) ys
holds_right full [] ys k h = let e : k ≡ k + 0 = omega arith in subst (λ j. Holds full j ys) e h
holds_right full (x ∷ xs) ys k h = let e : k + 1 + length xs ≡ k + suc (length xs) = omega arith in subst (λ j. Holds full j ys) e (holds_right full xs ys (k + 1) h.1)

-- where steps stand; and the node that is 0
pub record IsSpot (vs : List Bits) (p : Position) (q : Standing) : Type 0 where
  pub taken : slice_get vs p.taken ≡ Some (bit q.taken)
  pub branches : p.branches ≡ q.branches
  pub none : slice_get vs no ≡ Some (bit false)

pub spot_within : (vs ws : List Bits) → Within vs ws → (p : Position) (q : Standing) → IsSpot vs p q → IsSpot ws p q
spot_within vs ws h p q s = record { taken = h _ _ s.taken; branches = s.branches; none = h _ _ s.none }

module _ (r : Results) (arguments : List Bits) (full : List Call) where
  abbrev pub words : State → List Bits
  words s = seen r arguments full s

  -- what was laid out does what happens
  pub record Follows (s : State) (m : Asked × State) (o : Happening) : Type 0 where
    pub within : Within (words s) (words m.1)
    pub more : List ℕ
    pub longer : m.1.slots ≡ s.slots ++ more
    pub shows : Shows (words m.1) m.1.slots o.words
    pub choices : m.1.choices ≡ o.choices
    pub sites : m.1.calls ≡ o.sites
    pub counted : m.1.calls ≡ s.calls + length m.0.calls
    pub calls : AreSites (words m.1) m.0.calls o.calls
    pub needs : AreNeeds (words m.1) m.0.conditions o.needs

  -- the nodes of steps, and what these do
  abbrev pub Matches : Flat → Run → Type 0
  Matches f o = (p : Position) (q : Standing) (s : State) (ws : List Bits) (n k : ℕ) → Shows (words s) s.slots ws → IsSpot (words s) p q → s.choices ≡ n → s.calls ≡ k
      → Holds full s.calls (f p s).0.calls → Follows s (f p s) (o r q ws n k)

  -- ---- one after the other

  abbrev joined : Asked → Asked × State → Asked × State
  joined a m = (both a m.0, m.1)

  from_front : (xs : List Flat) (a : Asked) (p : Position) (s : State) → in_turn_from a xs p s ≡ joined a (in_turn xs p s)
  unfolding in_turn in_turn_from
  from_front [] a p s = ap (λ (x : Asked). let z : Asked × State = (x, s) in z) (sym (both_none a))
  from_front (x ∷ xs) a p s =
      let m = x p s in
      from_front xs (both a m.0) p m.1
      ∙ ap (λ (y : Asked). let z : Asked × State = (y, (in_turn xs p m.1).1) in z) (both_twice a m.0 (in_turn xs p m.1).0)
      ∙ ap (joined a) (sym (from_front xs m.0 p m.1))

  in_turn_one : (x : Flat) (xs : List Flat) (p : Position) (s : State) → in_turn (x ∷ xs) p s ≡ joined (x p s).0 (in_turn xs p (x p s).1)
  unfolding in_turn in_turn_from
  in_turn_one x xs p s = from_front xs (x p s).0 p (x p s).1

  abbrev pub AllMatch : List Flat → List Run → Type 0
  AllMatch [] [] = Unit {0}
  AllMatch (f ∷ fs) (o ∷ os) = Matches f o × AllMatch fs os
  AllMatch _ _ = ⊥

  follows_then : (s : State) (a b : Asked × State) (o u : Happening) → Follows s a o → Follows a.1 b u → Follows s (joined a.0 b) (followed o u)
  follows_then s a b o u h k = record {
    within = λ i w e. k.within i w (h.within i w e);
    more = h.more ++ k.more;
    longer = k.longer ∙ ap (λ (ks : List ℕ). ks ++ k.more) h.longer ∙ append_assoc s.slots h.more k.more;
    shows = k.shows;
    choices = k.choices;
    sites = k.sites;
    counted = omega (arith, h.counted, k.counted, length-append a.0.calls b.0.calls);
    calls = sites_append _ a.0.calls o.calls b.0.calls u.calls (sites_within _ _ k.within a.0.calls o.calls h.calls) k.calls;
    needs = needs_append _ a.0.conditions o.needs b.0.conditions u.needs (needs_within _ _ k.within a.0.conditions o.needs h.needs) k.needs;
  }

  pub in_turn_same : (fs : List Flat) (os : List Run) → AllMatch fs os → Matches (in_turn fs) (steps.in_turn os)
  unfolding in_turn in_turn_from steps.in_turn
  in_turn_same [] [] h p q s ws n k shows position e i holds = record { within = λ k w i. i; more = []; longer = sym (append-nil s.slots); shows = shows; choices = e; sites = i; counted = omega arith; calls = tt; needs = tt }
  in_turn_same (f ∷ fs) (o ∷ os) h p q s ws n k shows position e i holds =
      let a = f p s in
      let u = o r q ws n k in
      let rest = in_turn fs p a.1 in
      let all : Holds full s.calls (a.0.calls ++ rest.0.calls) = subst (λ (m : Asked × State). Holds full s.calls m.0.calls) (in_turn_one f fs p s) holds in
      let first = h.0 p q s ws n k shows position e i (holds_left full a.0.calls rest.0.calls s.calls all) in
      let behind = in_turn_same fs os h.1 p q a.1 u.words u.choices u.sites first.shows (spot_within _ _ first.within p q position) first.choices first.sites
      (subst (λ k. Holds full k rest.0.calls) (sym first.counted) (holds_right full a.0.calls rest.0.calls s.calls all)) in
      subst (λ (m : Asked × State). Follows s m (followed u (steps.in_turn os r q u.words u.choices u.sites))) (sym (in_turn_one f fs p s)) (follows_then s a rest u _ first behind)
  in_turn_same [] (o ∷ os) h p q s ws n k shows position e i holds = absurd h
  in_turn_same (f ∷ fs) [] h p q s ws n k shows position e i holds = absurd h

  -- ---- the steps, one by one

  pub let_same : (c : Compute) → Matches (λ p s. (nothing, compute c s)) (λ r q ws n k. quiet (ws ++ steps.computed ws c ∷ []) n k)
  let_same c p q s ws n k shows position e i holds =
      let h = compute_worth r arguments full c s ws shows in
      record { within = h.within; more = h.slot ∷ []; longer = h.longer; shows = h.shows; choices = h.choices ∙ e; sites = h.calls ∙ i; counted = omega (arith, h.calls); calls = tt; needs = tt }

  pub need_same : (name : Option MethodPlace) (x : Atom) (fs : List Flat) (os : List Run) → AllMatch fs os
      → Matches (needed name x fs) (λ r q ws n k. let a = steps.in_turn os r q ws n k in record a { needs = record { name = name; truth = is_one (word_of a.words x); taken = q.taken } ∷ a.needs })
  unfolding needed
  need_same name x fs os all p q s ws n k shows position e i holds =
      let a = in_turn fs p s in
      let u = steps.in_turn os r q ws n k in
      let f = in_turn_same fs os all p q s ws n k shows position e i holds in
      let o = operand x a.1 in
      let h = operand_worth r arguments full x a.1 u.words f.shows in
      record {
        within = λ k w i. h.keeps.within k w (f.within k w i);
        more = f.more;
        longer = h.keeps.slots ∙ f.longer;
        shows = keeps_shows r arguments full a.1 o.1 u.words h.keeps f.shows;
        choices = h.keeps.choices ∙ f.choices;
        sites = h.keeps.calls ∙ f.sites;
        counted = omega (arith, h.keeps.calls, f.counted);
        calls = sites_within _ _ h.keeps.within a.0.calls u.calls f.calls;
        needs = (record { name = refl; word = word_of u.words x; truth = h.word; holds = refl; taken = h.keeps.within _ _ (f.within _ _ position.taken) }, needs_within _ _ h.keeps.within a.0.conditions u.needs f.needs);
      }

  -- a call after the steps of its arguments
  record Calls (s : State) (c : (ℕ × Asked) × State) (o : Happening) (m : MethodPlace) (given : List Bits) : Type 0 where
    follows : Follows s (c.0.1, c.1) o
    place : c.0.0 ≡ s.calls
    answers : answer r s.calls (words c.1) (slice_get full s.calls) ≡ r s.calls m given

  abbrev happens : Bool → MethodPlace → List Atom → List Run → Run
  happens action m xs os r q ws n k =
      let a = steps.in_turn os r q ws n (k + 1) in
      record { words = a.words; choices = a.choices; sites = a.sites; calls = record { method = m; action = action; taken = q.taken; branches = q.branches; arguments = words_of a.words xs } ∷ a.calls; needs = a.needs }

  called_same : (action : Bool) (m : MethodPlace) (xs : List Atom) (fs : List Flat) (os : List Run) → AllMatch fs os
      → (p : Position) (q : Standing) (s : State) (ws : List Bits) (n k : ℕ) → Shows (words s) s.slots ws → IsSpot (words s) p q → s.choices ≡ n → s.calls ≡ k
      → Holds full s.calls (called action m xs fs p s).0.1.calls
      → Calls s (called action m xs fs p s) (happens action m xs os r q ws n k) m (words_of (steps.in_turn os r q ws n (k + 1)).words xs)
  unfolding called
  called_same action m xs fs os all p q s ws n k shows position e i holds =
      let z = (one_call s).1 in
      let a = in_turn fs p z in
      let u = steps.in_turn os r q ws n (k + 1) in
      let f = in_turn_same fs os all p q z ws n (k + 1) shows position e (ap (λ (j : ℕ). j + 1) i) holds.1 in
      let x = operands xs a.1 in
      let h = operands_worth r arguments full xs a.1 u.words f.shows in
      record {
        follows = record {
          within = λ k w i. h.keeps.within k w (f.within k w i);
          more = f.more;
          longer = h.keeps.slots ∙ f.longer;
          shows = keeps_shows r arguments full a.1 x.1 u.words h.keeps f.shows;
          choices = h.keeps.choices ∙ f.choices;
          sites = h.keeps.calls ∙ f.sites;
          counted = omega (arith, h.keeps.calls, f.counted);
          calls = (record { method = refl; action = refl; taken = h.keeps.within _ _ (f.within _ _ position.taken); branches = position.branches; arguments = h.words }, sites_within _ _ h.keeps.within a.0.calls u.calls f.calls);
          needs = needs_within _ _ h.keeps.within a.0.conditions u.needs f.needs;
        };
        place = refl;
        answers = ap (answer r s.calls (words x.1)) holds.0 ∙ ap (r s.calls m) (shows_words _ x.0 (words_of u.words xs) h.words);
      }

  pub act_same : (m : MethodPlace) (xs : List Atom) (fs : List Flat) (os : List Run) → AllMatch fs os
      → Matches (act m xs fs) (steps.call_run true m xs os (λ given. []))
  act_same m xs fs os all p q s ws n k shows position e i holds =
      let u = steps.in_turn os r q ws n (k + 1) in
      let c = called_same true m xs fs os all p q s ws n k shows position e i holds in
      let f = c.follows in
      record {
        within = f.within;
        more = f.more;
        longer = f.longer;
        shows = subst (λ us. Shows (words (called true m xs fs p s).1) (called true m xs fs p s).1.slots us) (sym (append-nil u.words)) f.shows;
        choices = f.choices;
        sites = f.sites;
        counted = f.counted;
        calls = f.calls;
        needs = f.needs;
      }

  pub read_same : (m : MethodPlace) (xs : List Atom) (fs : List Flat) (os : List Run) → AllMatch fs os
      → Matches (read m xs fs) (λ r q ws n k. steps.call_run false m xs os (λ given. r k m given ∷ []) r q ws n k)
  read_same m xs fs os all p q s ws n k shows position e i holds =
      let u = steps.in_turn os r q ws n (k + 1) in
      let given = called false m xs fs p s in
      let c = called_same false m xs fs os all p q s ws n k shows position e i holds in
      let f = c.follows in
      let node = node.Result given.0.0 in
      let is : word_at r arguments full (words given.1) node ≡ r k m (words_of u.words xs) =
      ap (λ (j : ℕ). answer r j (words given.1) (slice_get full j)) c.place ∙ c.answers ∙ ap (λ (j : ℕ). r j m (words_of u.words xs)) i in
      let h = stand_more r arguments full node given.1 given.1 u.words (r k m (words_of u.words xs)) (record { within = λ k w i. i; slots = refl; calls = refl; choices = refl }) f.shows is in
      record {
        within = λ k w i. h.within k w (f.within k w i);
        more = f.more ++ h.slot ∷ [];
        longer = h.longer ∙ ap (λ (ks : List ℕ). ks ++ h.slot ∷ []) f.longer ∙ append_assoc s.slots f.more (h.slot ∷ []);
        shows = h.shows;
        choices = h.choices ∙ f.choices;
        sites = h.calls ∙ f.sites;
        counted = omega (arith, h.calls, f.counted);
        calls = sites_within _ _ h.within given.0.1.calls _ f.calls;
        needs = needs_within _ _ h.within given.0.1.conditions _ f.needs;
      }
