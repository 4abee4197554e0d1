-- Nodes and the words that they have.
use Rattle.std.proofs.Common.{◌≡◌, ◌∙◌, ℕ, zero, suc, ◌+◌, List, [], ◌∷◌, ◌++◌, length, map, take, Option, Some, None, refl, sym, ap, ap₂, subst, arith, append_assoc, append-nil}
use Rattle.std.specs.Prelude.{false, slice_get}
use Rattle.bsv_lemmas.proofs.Places.{at_end}
use Rattle.bsv_bits.specs.Words.{Bits, bit, word_not}
use Rattle.bsv_design.specs.declared.node.Node.{Node}
use Rattle.bsv_design.specs.declared.node.Node.TheVariants as node
use Rattle.bsv_tree.specs.declared.steps.Atom.{Atom}
use Rattle.bsv_tree.specs.declared.steps.Atom.TheVariants as atom
use Rattle.bsv_tree.specs.declared.steps.Compute.{Compute}
use Rattle.bsv_tree.specs.declared.steps.Compute.TheVariants as computed
use Rattle.bsv_design.specs.design.Bodies.{at}
use Rattle.bsv_design.specs.design.Computing as computing
use Rattle.bsv_design.proofs.Bodies.{words_long, words_one}
use Rattle.bsv_tree.specs.carrying.Running as steps
use Rattle.bsv_tree.specs.meaning.Evaluation.{Results}
use Rattle.bsv_design.specs.design.Words.{or_zero}
use Rattle.bsv_tree.specs.carrying.Running.{word_of, words_of}
use Rattle.bsv_body.specs.declared.calls.Call.{Call}
use Rattle.bsv_body.specs.declared.state.State.{State}
use Rattle.bsv_body.specs.Bodies.{Shows}
use Rattle.bsv_body.specs.Flat.{put, stand, found, operand, operands_from, operands, compute}
use Rattle.bsv_body.specs.Nodes.{node_word, of_methods, values}

-- what is known of nodes stays so
abbrev pub Within : List Bits → List Bits → Type 0
Within vs ws = (k : ℕ) (w : Bits) → slice_get vs k ≡ Some w → slice_get ws k ≡ Some w

got_left : (vs ws : List Bits) → Within vs (vs ++ ws)
got_left [] ws k w e = absurd cc
got_left (x ∷ vs) ws zero w e = e
got_left (x ∷ vs) ws (suc k) w e = got_left vs ws k w e

pub shows_within : (vs ws : List Bits) → Within vs ws → (ks : List ℕ) (us : List Bits) → Shows vs ks us → Shows ws ks us
shows_within vs ws h [] [] s = tt
shows_within vs ws h (k ∷ ks) (u ∷ us) s = (h k u s.0, shows_within vs ws h ks us s.1)
shows_within vs ws h [] (u ∷ us) s = absurd s
shows_within vs ws h (k ∷ ks) [] s = absurd s

pub shows_append : (vs : List Bits) (ks : List ℕ) (ws : List Bits) (js : List ℕ) (us : List Bits) → Shows vs ks ws → Shows vs js us → Shows vs (ks ++ js) (ws ++ us)
shows_append vs [] [] js us s t = t
shows_append vs (k ∷ ks) (w ∷ ws) js us s t = (s.0, shows_append vs ks ws js us s.1 t)
shows_append vs [] (w ∷ ws) js us s t = absurd s
shows_append vs (k ∷ ks) [] js us s t = absurd s

pub shows_words : (vs : List Bits) (ks : List ℕ) (ws : List Bits) → Shows vs ks ws → map (at vs) ks ≡ ws
shows_words vs [] [] s = refl
shows_words vs (k ∷ ks) (w ∷ ws) s = ap₂ (λ a b. a ∷ b) (ap or_zero s.0) (shows_words vs ks ws s.1)
shows_words vs [] (w ∷ ws) s = absurd s
shows_words vs (k ∷ ks) [] s = absurd s

-- the word of a slot, or no slot
shows_got : (vs : List Bits) (ks : List ℕ) (ws : List Bits) → Shows vs ks ws → (k j : ℕ) → slice_get ks k ≡ Some j → slice_get vs j ≡ Some (or_zero (slice_get ws k))
shows_got vs [] [] s k j e = absurd cc
shows_got vs (i ∷ ks) (w ∷ ws) s zero j e = let it : i ≡ j = cc in ap (slice_get vs) (sym it) ∙ s.0
shows_got vs (i ∷ ks) (w ∷ ws) s (suc k) j e = shows_got vs ks ws s.1 k j e
shows_got vs [] (w ∷ ws) s k j e = absurd s
shows_got vs (i ∷ ks) [] s k j e = absurd s

shows_none : (vs : List Bits) (ks : List ℕ) (ws : List Bits) → Shows vs ks ws → (k : ℕ) → slice_get ks k ≡ None → or_zero (slice_get ws k) ≡ bit false
shows_none vs [] [] s k e = refl
shows_none vs (i ∷ ks) (w ∷ ws) s zero e = absurd cc
shows_none vs (i ∷ ks) (w ∷ ws) s (suc k) e = shows_none vs ks ws s.1 k e
shows_none vs [] (w ∷ ws) s k e = absurd s
shows_none vs (i ∷ ks) [] s k e = absurd s

pub front_of : {A : Type 0} (xs ys : List A) → take (length xs) (xs ++ ys) ≡ xs
front_of [] [] = refl
front_of [] (y ∷ ys) = refl
front_of (x ∷ xs) ys = ap (λ zs. x ∷ zs) (front_of xs ys)

module _ (r : Results) (arguments : List Bits) (full : List Call) where
  -- the words of the nodes so far, where these are all calls of the body
  abbrev pub seen : State → List Bits
  seen s = values r arguments full [] s.nodes

  abbrev pub word_at : List Bits → Node → Bits
  word_at vs x = node_word r arguments full vs x

  -- one more node
  pub put_within : (x : Node) (s : State) → Within (seen s) (seen (put x s))
  put_within x s k w e = ap (λ vs. slice_get vs k) (words_one (of_methods r) arguments full [] s.nodes x) ∙ got_left (seen s) _ k w e

  pub put_word : (x : Node) (s : State) → slice_get (seen (put x s)) (length s.nodes) ≡ Some (word_at (seen s) x)
  put_word x s =
      ap (λ vs. slice_get vs (length s.nodes)) (words_one (of_methods r) arguments full [] s.nodes x)
      ∙ (let e : length s.nodes ≡ length (seen s) = omega (arith, words_long (of_methods r) arguments full [] s.nodes) in ap (slice_get (seen s ++ word_at (seen s) x ∷ [])) e)
      ∙ at_end (seen s) _

  -- what operands change: nodes alone
  pub record Keeps (s z : State) : Type 0 where
    pub within : Within (seen s) (seen z)
    pub slots : z.slots ≡ s.slots
    pub calls : z.calls ≡ s.calls
    pub choices : z.choices ≡ s.choices

  pub keeps_all : (s : State) → Keeps s s
  keeps_all s = record { within = λ k w e. e; slots = refl; calls = refl; choices = refl }

  pub put_keeps : (x : Node) (s : State) → Keeps s (put x s)
  put_keeps x s = record { within = put_within x s; slots = refl; calls = refl; choices = refl }

  pub keeps_twice : (a b c : State) → Keeps a b → Keeps b c → Keeps a c
  keeps_twice a b c h k = record { within = λ i w e. k.within i w (h.within i w e); slots = k.slots ∙ h.slots; calls = k.calls ∙ h.calls; choices = k.choices ∙ h.choices }

  pub keeps_shows : (a b : State) (ws : List Bits) → Keeps a b → Shows (seen a) a.slots ws → Shows (seen b) b.slots ws
  keeps_shows a b ws h s = subst (λ ks. Shows (seen b) ks ws) (sym h.slots) (shows_within _ _ h.within a.slots ws s)

  -- the node has this word, and nothing else has changed
  pub record Worth (s : State) (w : Bits) (o : ℕ × State) : Type 0 where
    pub keeps : Keeps s o.1
    pub word : slice_get (seen o.1) o.0 ≡ Some w

  found_worth : (s : State) (ws : List Bits) (k : ℕ) → Shows (seen s) s.slots ws → (o : Option ℕ) → slice_get s.slots k ≡ o → Worth s (word_of ws (atom.Slot k)) (found o s)
  found_worth s ws k h (Some j) e = record { keeps = keeps_all s; word = shows_got _ s.slots ws h k j e }
  found_worth s ws k h None e = record {
    keeps = put_keeps (node.Constant (bit false)) s;
    word = put_word (node.Constant (bit false)) s ∙ ap Some (sym (shows_none _ s.slots ws h k e));
  }

  pub operand_worth : (x : Atom) (s : State) (ws : List Bits) → Shows (seen s) s.slots ws → Worth s (word_of ws x) (operand x s)
  unfolding operand
  operand_worth (atom.Word w) s ws h = record { keeps = put_keeps (node.Constant w) s; word = put_word (node.Constant w) s }
  operand_worth (atom.Slot k) s ws h = found_worth s ws k h (slice_get s.slots k) refl

  -- the nodes have these words, and nothing else has changed
  pub record Worths (s : State) (ws : List Bits) (o : List ℕ × State) : Type 0 where
    pub keeps : Keeps s o.1
    pub words : Shows (seen o.1) o.0 ws

  operands_from_worth : (xs : List Atom) (ks : List ℕ) (us : List Bits) (s : State) (ws : List Bits) → Shows (seen s) s.slots ws → Shows (seen s) ks us → Worths s (us ++ words_of ws xs) (operands_from ks xs s)
  unfolding operands_from
  operands_from_worth [] ks us s ws h t = record { keeps = keeps_all s; words = subst (λ vs. Shows (seen s) ks vs) (sym (append-nil us)) t }
  operands_from_worth (x ∷ xs) ks us s ws h t =
      let o = operand x s in
      let one = operand_worth x s ws h in
      let rest = operands_from_worth xs (ks ++ o.0 ∷ []) (us ++ word_of ws x ∷ []) o.1 ws (keeps_shows s o.1 ws one.keeps h)
      (shows_append _ ks us (o.0 ∷ []) (word_of ws x ∷ []) (shows_within _ _ one.keeps.within ks us t) (one.word, tt)) in
      let all = operands_from (ks ++ o.0 ∷ []) xs o.1 in
      record {
        keeps = keeps_twice s o.1 all.1 one.keeps rest.keeps;
        words = subst (λ vs. Shows (seen all.1) all.0 vs) (append_assoc us (word_of ws x ∷ []) (words_of ws xs)) rest.words;
      }

  pub operands_worth : (xs : List Atom) (s : State) (ws : List Bits) → Shows (seen s) s.slots ws → Worths s (words_of ws xs) (operands xs s)
  unfolding operands
  operands_worth xs s ws h = operands_from_worth xs [] [] s ws h tt

  -- one value more stands
  pub record StandsMore (s z : State) (ws : List Bits) (w : Bits) : Type 0 where
    pub within : Within (seen s) (seen z)
    pub slot : ℕ
    pub longer : z.slots ≡ s.slots ++ slot ∷ []
    pub shows : Shows (seen z) z.slots (ws ++ w ∷ [])
    pub calls : z.calls ≡ s.calls
    pub choices : z.choices ≡ s.choices

  pub stand_more : (x : Node) (s z : State) (ws : List Bits) (w : Bits) → Keeps s z → Shows (seen s) s.slots ws → word_at (seen z) x ≡ w → StandsMore s (stand x z) ws w
  stand_more x s z ws w h shows is = record {
    within = λ k u e. put_within x z k u (h.within k u e);
    slot = length z.nodes;
    longer = ap (λ (ks : List ℕ). ks ++ length z.nodes ∷ []) h.slots;
    shows = shows_append _ z.slots ws (length z.nodes ∷ []) (w ∷ [])
        (shows_within _ _ (put_within x z) z.slots ws (keeps_shows s z ws h shows)) (put_word x z ∙ ap Some is, tt);
    calls = h.calls;
    choices = h.choices;
  }

  -- two operands, one after the other
  record Pair (s : State) (v w : Bits) (x y : ℕ × State) : Type 0 where
    keeps : Keeps s y.1
    first : slice_get (seen y.1) x.0 ≡ Some v
    second : slice_get (seen y.1) y.0 ≡ Some w

  pair : (a b : Atom) (s : State) (ws : List Bits) → Shows (seen s) s.slots ws → Pair s (word_of ws a) (word_of ws b) (operand a s) (operand b (operand a s).1)
  pair a b s ws h =
      let x = operand a s in
      let one = operand_worth a s ws h in
      let two = operand_worth b x.1 ws (keeps_shows s x.1 ws one.keeps h) in
      record { keeps = keeps_twice s x.1 _ one.keeps two.keeps; first = two.keeps.within _ _ one.word; second = two.word }

  pub compute_worth : (c : Compute) (s : State) (ws : List Bits) → Shows (seen s) s.slots ws → StandsMore s (compute c s) ws (steps.computed ws c)
  unfolding compute
  compute_worth (computed.Not a) s ws h =
      let x = operand a s in
      let one = operand_worth a s ws h in
      stand_more (node.Not x.0) s x.1 ws _ one.keeps h (ap (λ o. word_not (or_zero o)) one.word)
  compute_worth (computed.Two o a b) s ws h =
      let x = operand a s in
      let y = operand b x.1 in
      let p = pair a b s ws h in
      stand_more (node.Two o x.0 y.0) s y.1 ws _ p.keeps h (ap₂ (λ i j. computing.between o (or_zero i) (or_zero j)) p.first p.second)
  compute_worth (computed.Pick t a b) s ws h =
      let x = operand t s in
      let y = operand a x.1 in
      let z = operand b y.1 in
      let p = pair t a s ws h in
      let three = operand_worth b y.1 ws (keeps_shows s y.1 ws p.keeps h) in
      stand_more (node.Pick x.0 y.0 z.0) s z.1 ws _ (keeps_twice s y.1 z.1 p.keeps three.keeps) h
      (ap₂ (λ i j. computing.picked (or_zero i) (or_zero j) (at (seen z.1) z.0)) (three.keeps.within _ _ p.first) (three.keeps.within _ _ p.second)
      ∙ ap (λ i. computing.picked (word_of ws t) (word_of ws a) (or_zero i)) three.word)
  compute_worth (computed.Slice a high low) s ws h =
      let x = operand a s in
      let one = operand_worth a s ws h in
      stand_more (node.Slice x.0 high low) s x.1 ws _ one.keeps h (ap (λ o. computing.sliced (or_zero o) high low) one.word)
  compute_worth (computed.Join a b) s ws h =
      let x = operand a s in
      let y = operand b x.1 in
      let p = pair a b s ws h in
      stand_more (node.Join x.0 y.0) s y.1 ws _ p.keeps h (ap₂ (λ i j. computing.joined (or_zero i) (or_zero j)) p.first p.second)
  compute_worth (computed.Extend a width) s ws h =
      let x = operand a s in
      let one = operand_worth a s ws h in
      stand_more (node.Extend x.0 width) s x.1 ws _ one.keeps h (ap (λ o. computing.extended (or_zero o) width) one.word)
  compute_worth (computed.SignExtend a width) s ws h =
      let x = operand a s in
      let one = operand_worth a s ws h in
      stand_more (node.SignExtend x.0 width) s x.1 ws _ one.keeps h (ap (λ o. computing.sign_extended (or_zero o) width) one.word)
