-- The arms of a choice: the words that the taken arm gives are the values of the variables after it.
use Rattle.std.proofs.Common.{◌≡◌, ℕ, zero, suc, ◌+◌, Bool, true, false, not, ◌&&◌, ◌||◌, cond, List, [], ◌∷◌, ◌++◌, length, map, Some, Ok, refl, sym, ap, ap₂, ◌∙◌, subst, append-nil}
use Rattle.std.specs.Prelude.{slice_get}
use Rattle.bsv_bits.specs.Words.{Bits}
use Rattle.bsv_tree.specs.declared.steps.Atom.{Atom}
use Rattle.bsv_tree.specs.declared.steps.Step.{Step}
use Rattle.bsv_tree.specs.declared.values.Value.TheVariants as value
use Rattle.bsv_tree.specs.declared.values.Count.{Count}
use Rattle.bsv_tree.specs.declared.values.Local.{Local}
use Rattle.bsv_tree.specs.declared.values.Pending.{Pending}
use Rattle.bsv_tree.specs.declared.values.Work.{Work}
use Rattle.bsv_tree.specs.carrying.Arms as carried
use Rattle.bsv_tree.specs.carrying.Arms.{given_by, arm_of, touched_at}
use Rattle.bsv_tree.specs.carrying.Frames as frames
use Rattle.bsv_tree.specs.carrying.Values.{atom_of}
use Rattle.bsv_tree.specs.carrying.Carrying as carrying
use Rattle.bsv_tree.specs.carrying.Carrying.{Acts}
use Rattle.bsv_tree.specs.carrying.Running as running
use Rattle.bsv_tree.specs.meaning.Evaluation.{Results, Standing, SiteCall, Need}
use Rattle.bsv_tree.specs.carrying.Running.{Happening, in_turn, run, words_of, arms_run}
use Rattle.bsv_design.specs.design.Words.{is_one}
use Rattle.bsv_tree.specs.carrying.Working.{no_steps}
use Rattle.bsv_tree.specs.meaning.Values.{Value as Val, varying, is_true, word_of, Variable, Variables, of_arms, joined, begun}
use Rattle.bsv_tree.specs.meaning.Evaluation as evaluation
use Rattle.bsv_tree.specs.meaning.Evaluation.{Evaluation, Evaluated, yields, in_order, within}
use Rattle.bsv_tree.specs.meaning.Control as control
use Rattle.bsv_tree.proofs.meaning.Same.{Within, Grows, Shows, Holds, AllHold, all_hold_within, shows_word}
use Rattle.bsv_tree.proofs.meaning.Nodes.{alternative, alternative_is}
use Rattle.bsv_tree.proofs.meaning.Statements.{Kept, Does, DoesWhere, everywhere}

-- ---- variables of arms

pub hold_begun : (W : List Bits) (vs : List Local) (us : Variables) → AllHold W vs us → AllHold W (frames.untouched vs) (begun us)
hold_begun W [] [] h = tt
hold_begun W (v ∷ vs) (u ∷ us) h = (record { shows = h.0.shows; lost = h.0.lost; assigned = refl }, hold_begun W vs us h.1)
hold_begun W [] (u ∷ us) h = absurd h
hold_begun W (v ∷ vs) [] h = absurd h

unfoldable pub flag_at : Variables → ℕ → Bool
flag_at [] i = false
flag_at (x ∷ xs) zero = x.assigned
flag_at (x ∷ xs) (suc i) = flag_at xs i

pub touched_same : (W : List Bits) (vs : List Local) (us : Variables) → AllHold W vs us → (i : ℕ) → touched_at vs i ≡ flag_at us i
unfolding flag_at
touched_same W [] [] h i = refl
touched_same W (v ∷ vs) (u ∷ us) h zero = h.0.assigned
touched_same W (v ∷ vs) (u ∷ us) h (suc i) = touched_same W vs us h.1 i
touched_same W [] (u ∷ us) h i = absurd h
touched_same W (v ∷ vs) [] h i = absurd h

pub joined_flags : (t : Bool) (xs ys : Variables) → length xs ≡ length ys → (i : ℕ) → flag_at (joined t xs ys) i ≡ (flag_at xs i || flag_at ys i)
unfolding flag_at
joined_flags t [] [] e i = refl
joined_flags t (a ∷ xs) (b ∷ ys) e zero = refl
joined_flags t (a ∷ xs) (b ∷ ys) e (suc i) = let f : length xs ≡ length ys = cc in joined_flags t xs ys f i
joined_flags t [] (b ∷ ys) e i = absurd cc
joined_flags t (a ∷ xs) [] e i = absurd cc

pub joined_long : (t : Bool) (xs ys : Variables) → length xs ≡ length ys → length (joined t xs ys) ≡ length xs
joined_long t [] ys e = refl
joined_long t (a ∷ xs) (b ∷ ys) e = let f : length xs ≡ length ys = cc in ap suc (joined_long t xs ys f)
joined_long t (a ∷ xs) [] e = absurd cc

-- ---- the words of the variables of these numbers

unfoldable pub AllAt : Variables → List ℕ → List Bits → Type 0
AllAt ys [] [] = Unit {0}
AllAt ys (at ∷ given) (w ∷ ws) = ((y : Variable) × (slice_get ys at ≡ Some y) × (word_of y.value ≡ w)) × AllAt ys given ws
AllAt ys _ _ = ⊥

word_of_arms : (t : Bool) (a b : Variable) → word_of (of_arms t a b).value ≡ cond t (word_of a.value) (word_of b.value)
word_of_arms true a b = refl
word_of_arms false a b = refl

joined_at : (t : Bool) (xs ys : Variables) (at : ℕ) (a b : Variable) → slice_get xs at ≡ Some a → slice_get ys at ≡ Some b → slice_get (joined t xs ys) at ≡ Some (of_arms t a b)
joined_at t [] ys at a b e f = absurd cc
joined_at t (x ∷ xs) [] at a b e f = absurd cc
joined_at t (x ∷ xs) (y ∷ ys) zero a b e f = let g : x ≡ a = cc in let h : y ≡ b = cc in ap₂ (λ (i j : Variable). Some (of_arms t i j)) g h
joined_at t (x ∷ xs) (y ∷ ys) (suc at) a b e f = joined_at t xs ys at a b e f

pub joined_words : (t : Bool) (xs ys : Variables) (given : List ℕ) (vs us : List Bits) → AllAt xs given vs → AllAt ys given us → AllAt (joined t xs ys) given (running.picked t vs us)
unfolding AllAt
joined_words t xs ys [] [] [] h k = tt
joined_words t xs ys (at ∷ given) (v ∷ vs) (u ∷ us) h k =
    ((of_arms t h.0.0 k.0.0, joined_at t xs ys at h.0.0 k.0.0 h.0.1 k.0.1, word_of_arms t h.0.0 k.0.0 ∙ ap₂ (cond t) h.0.2 k.0.2), joined_words t xs ys given vs us h.1 k.1)
joined_words t xs ys [] (v ∷ vs) us h k = absurd h
joined_words t xs ys [] [] (u ∷ us) h k = absurd k
joined_words t xs ys (at ∷ given) [] us h k = absurd h
joined_words t xs ys (at ∷ given) (v ∷ vs) [] h k = absurd k

-- the variables of these numbers are no Integers
unfoldable pub AllPlain : List Local → List ℕ → Type 0
AllPlain vs [] = Unit {0}
AllPlain vs (at ∷ given) = ((v : Local) × (slice_get vs at ≡ Some v) × (v.integer ≡ false)) × AllPlain vs given

kept_at : (vs ts : List Local) → Kept vs ts → (at : ℕ) (v : Local) → slice_get vs at ≡ Some v → (t : Local) × (slice_get ts at ≡ Some t) × (t.integer ≡ v.integer)
kept_at [] ts h at v e = absurd cc
kept_at (u ∷ vs) (t ∷ ts) h zero v e = let it : u ≡ v = cc in (t, refl, h.0 ∙ ap (λ (o : Local). o.integer) it)
kept_at (u ∷ vs) (t ∷ ts) h (suc at) v e = kept_at vs ts h.1 at v e
kept_at (u ∷ vs) [] h at v e = absurd h

pub plain_kept : (vs ts : List Local) → Kept vs ts → (given : List ℕ) → AllPlain vs given → AllPlain ts given
unfolding AllPlain
plain_kept vs ts h [] k = tt
plain_kept vs ts h (at ∷ given) k =
    let it = kept_at vs ts h at k.0.0 k.0.1 in
    ((it.0, it.1, it.2 ∙ k.0.2), plain_kept vs ts h given k.1)

held_there : (W : List Bits) (ts : List Local) (xs : Variables) → AllHold W ts xs → (at : ℕ) (v : Local) → slice_get ts at ≡ Some v → (x : Variable) × (slice_get xs at ≡ Some x) × Holds W v x
held_there W [] xs h at v e = absurd cc
held_there W (t ∷ ts) (x ∷ xs) h zero v e = let it : t ≡ v = cc in (x, refl, subst (λ o. Holds W o x) it h.0)
held_there W (t ∷ ts) (x ∷ xs) h (suc at) v e = held_there W ts xs h.1 at v e
held_there W (t ∷ ts) [] h at v e = absurd h

given_is : (ts : List Local) (at : ℕ) (v : Local) → slice_get ts at ≡ Some v → given_by ts at ≡ atom_of v.value
given_is [] at v e = absurd cc
given_is (t ∷ ts) zero v e = let it : t ≡ v = cc in ap (λ (o : Local). atom_of o.value) it
given_is (t ∷ ts) (suc at) v e = given_is ts at v e

pub given_words : (W : List Bits) (ts : List Local) (xs : Variables) → AllHold W ts xs → (given : List ℕ) → AllPlain ts given → AllAt xs given (words_of W (map (given_by ts) given))
unfolding AllAt AllPlain
given_words W ts xs h [] k = tt
given_words W ts xs h (at ∷ given) k =
    let it = held_there W ts xs h at k.0.0 k.0.1 in
    let shown : Shows W k.0.0.value it.0.value = it.2.shows (it.2.lost k.0.2) in
    ((it.0, it.1, sym (ap (running.word_of W) (given_is ts at k.0.0 k.0.1) ∙ shows_word W k.0.0.value it.0.value shown)), given_words W ts xs h given k.1)

-- ---- the arms of one choice

and_assoc : (a b c : Bool) → ((a && b) && c) ≡ (a && (b && c))
and_assoc true b c = refl
and_assoc false b c = refl

kept_untouched : (vs : List Local) → Kept vs (frames.untouched vs)
kept_untouched [] = tt
kept_untouched (v ∷ vs) = (refl, kept_untouched vs)

untouched_long : (vs : List Local) → length (frames.untouched vs) ≡ length vs
untouched_long [] = refl
untouched_long (v ∷ vs) = ap suc (untouched_long vs)

begun_long : (us : Variables) → length (begun us) ≡ length us
begun_long [] = refl
begun_long (u ∷ us) = ap suc (begun_long us)

lengths : (W : List Bits) (ts : List Local) (xs : Variables) → AllHold W ts xs → length ts ≡ length xs
lengths W [] [] h = refl
lengths W (t ∷ ts) (x ∷ xs) h = ap suc (lengths W ts xs h.1)
lengths W [] (x ∷ xs) h = absurd h
lengths W (t ∷ ts) [] h = absurd h

module _ (r : Results) (vs : List Local) (us : Variables) (given : List ℕ) (plain : AllPlain vs given) where
  -- what runs to the end of a choice, and what is told: the words of the variables of these numbers, and which are assigned
  pub record Ends (flags : ℕ → Bool) (h : Happening) (d : Evaluated Variables) : Type 0 where
    pub words : AllAt d.gives given h.words
    pub sized : length d.gives ≡ length us
    pub flagged : (i : ℕ) → flags i ≡ flag_at d.gives i
    pub choices : h.choices ≡ d.choices
    pub sites : h.sites ≡ d.sites
    pub calls : h.calls ≡ d.calls
    pub needs : h.needs ≡ d.needs

  -- an arm that was carried out from these words
  record Arrives (lv : List Local) (body : Happening) (d : Evaluated Variables) : Type 0 where
    words : AllAt d.gives given (words_of body.words (map (given_by lv) given))
    sized : length d.gives ≡ length us
    flagged : (i : ℕ) → touched_at lv i ≡ flag_at d.gives i
    choices : body.choices ≡ d.choices
    sites : body.sites ≡ d.sites
    calls : body.calls ≡ d.calls
    needs : body.needs ≡ d.needs

  arm_arrives : (R : List Bits → Type 0) (a : Acts) (m : control.Acts) → DoesWhere r R a m → (c : Count) (lv : List Local) (lw : Work) → a (frames.untouched vs) (no_steps c) ≡ Ok (lv, lw) → length lv ≡ length (frames.untouched vs)
      → (q : Standing) (W : List Bits) (n k : ℕ) → length W ≡ c.slots → R W → AllHold W vs us → Arrives lv (in_turn (map run lw.steps) r q W n k) (m (begun us) q n k)
  unfolding in_turn
  arm_arrives R a m h c lv lw e as_long q W n k long on hold =
      let it = h.does q W n k (frames.untouched vs) (begun us) (no_steps c) long on (hold_begun W vs us hold) lv lw e in
      let body = in_turn (map run lw.steps) r q W n k in
      let d = m (begun us) q n k in
      let kept = h.kept (frames.untouched vs) (no_steps c) lv lw e in
      record {
        words = given_words body.words lv d.gives it.gives given (plain_kept (frames.untouched vs) lv kept given (plain_kept vs (frames.untouched vs) (kept_untouched vs) given plain));
        sized = sym (lengths body.words lv d.gives it.gives) ∙ as_long ∙ untouched_long vs ∙ lengths W vs us hold;
        flagged = touched_same body.words lv d.gives it.gives;
        choices = it.adds.choices;
        sites = it.adds.sites;
        calls = it.adds.calls;
        needs = it.adds.needs;
      }

  -- from words where the variables stand, and what else is asked of words, the arms that are left run to what is told
  abbrev pub Finishes : (List Bits → Type 0) → ℕ → List Pending → List Step → List Local → ℕ → ℕ → Bool → Evaluation Variables → Type 0
  Finishes P slots more last lv number arm left m =
      (q : Standing) (W : List Bits) (n k : ℕ) → length W ≡ slots → AllHold W vs us → P W
      → Ends (carried.assigned more lv) (arms_run (map run last) (map (given_by lv) given) (map alternative (map (arm_of given) more)) number arm (q.taken && left) r q W n k) (m q n k)

  -- the last arm
  pub last_finishes : (P : List Bits → Type 0) (a : Acts) (m : control.Acts) → Does r a m → (c : Count) (lv : List Local) (lw : Work) → a (frames.untouched vs) (no_steps c) ≡ Ok (lv, lw) → length lv ≡ length (frames.untouched vs)
      → (number arm : ℕ) (left : Bool) → Finishes P c.slots [] lw.steps lv number arm left (within number arm left (m (begun us)))
  unfolding arms_run
  last_finishes P a m h c lv lw e as_long number arm left q W n k long hold on =
      let it = arm_arrives (λ V. Unit {0}) a m (everywhere r a m h) c lv lw e as_long (running.inside q (q.taken && left) number arm) W n k long tt hold in
      record { words = it.words; sized = it.sized; flagged = it.flagged; choices = it.choices; sites = it.sites; calls = it.calls; needs = it.needs }

  -- after a condition that is not static: its arm, and the rest of the arms
  abbrev pub Both : ℕ → ℕ → Bool → control.Acts → (Bool → Evaluation Variables) → Val → Evaluation Variables
  Both number arm left m rest t =
      evaluation.◌>>=◌ (within number arm (left && is_true t) (m (begun us))) (λ xs. evaluation.◌>>=◌ (rest (left && not (is_true t))) (λ ys. yields (joined (is_true t) xs ys)))

  module _ (P : List Bits → Type 0) (grows : Grows P) (a : Acts) (at : Atom) (tw : Work) (lv : List Local) (lw : Work) (e : a (frames.untouched vs) (no_steps tw.count) ≡ Ok (lv, lw))
      (as_long : length lv ≡ length (frames.untouched vs)) (more : List Pending) (last : List Step) (last_vs : List Local) (number arm : ℕ) (left : Bool) (rest : Bool → Evaluation Variables)
      (finishes : (l : Bool) → Finishes P tw.count.slots more last last_vs number (arm + 1) l (rest l)) where
    unfoldable pub pend : Pending
    pend = carrying.pending (value.Open at) tw (lv, lw)

    -- the condition was carried out from these words, its word is that of what is told, and the arm does what it means from
    -- words like those that are there then
    pub open_finishes : (R : List Bits → Type 0) (m : control.Acts) → DoesWhere r R a m → (q : Standing) (W : List Bits) (n k : ℕ) (d : Evaluated Val) (u : Bits) → AllHold W vs us → P W
        → (let h = in_turn (map run tw.steps) r q W n k in
        R h.words → Within W h.words → length h.words ≡ tw.count.slots → running.word_of h.words at ≡ u → h.choices ≡ d.choices → h.sites ≡ d.sites → h.calls ≡ d.calls → h.needs ≡ d.needs
        → Ends (carried.assigned (pend ∷ more) last_vs)
        (arms_run (map run last) (map (given_by last_vs) given) (map alternative (map (arm_of given) (pend ∷ more))) number arm (q.taken && left) r q W n k)
        (in_order d (Both number arm left m rest (varying u) q d.choices d.sites)))
    unfolding arms_run pend
    open_finishes R m does q W n k d u hold on there within' long word choices sites calls needs =
        let h = in_turn (map run tw.steps) r q W n k in
        let t = is_one u in
        let N = h.choices in
        let K = h.sites in
        let hold' = all_hold_within W h.words within' vs us hold in
        let l = q.taken && (left && t) in
        let inner : Standing = running.inside q l number arm in
        let body = in_turn (map run lw.steps) r inner h.words N K in
        let A = m (begun us) inner N K in
        let second = arm_arrives R a m does tw.count lv lw e as_long inner h.words N K long there hold' in
        let g = map (given_by lv) given in
        let R = arms_run (map run last) (map (given_by last_vs) given) (map alternative (map (arm_of given) more)) number (arm + 1) (q.taken && (left && not t)) r q h.words body.choices body.sites in
        let third = finishes (left && not t) q h.words body.choices body.sites long hold' (grows W h.words within' on) in
        let B = rest (left && not t) q A.choices A.sites in
        let F : ℕ → Bool = carried.assigned more last_vs in
        let fourth : Ends F R B = subst (λ i. Ends F R (rest (left && not t) q i A.sites)) second.choices (subst (λ j. Ends F R (rest (left && not t) q body.choices j)) second.sites third) in
        let E : Bits → Bool → Bool → Happening = λ w i j.
        running.either_run h (is_one w) (in_turn (map run lw.steps) r (running.inside q i number arm) h.words N K) g
        (arms_run (map run last) (map (given_by last_vs) given) (map alternative (map (arm_of given) more)) number (arm + 1) j r q h.words
        (in_turn (map run lw.steps) r (running.inside q i number arm) h.words N K).choices (in_turn (map run lw.steps) r (running.inside q i number arm) h.words N K).sites) in
        let D : ℕ → ℕ → Evaluated Variables = λ i j. in_order d (Both number arm left m rest (varying u) q i j) in
        let G : ℕ → Bool = carried.assigned (pend ∷ more) last_vs in
        let same_long : length A.gives ≡ length B.gives = second.sized ∙ sym fourth.sized in
        let whole : Ends G (E u l (q.taken && (left && not t))) (D N K) = record {
          words = joined_words t A.gives B.gives given _ _ second.words fourth.words;
          sized = joined_long t A.gives B.gives same_long ∙ second.sized;
          flagged = λ i. ap₂ (λ (x y : Bool). x || y) (second.flagged i) (fourth.flagged i) ∙ sym (joined_flags t A.gives B.gives same_long i);
          choices = fourth.choices;
          sites = fourth.sites;
          calls = ap₂ (λ (o p : List SiteCall). o ++ p) calls (ap₂ (λ (o p : List SiteCall). o ++ p) second.calls (fourth.calls ∙ sym (append-nil B.calls)));
          needs = ap₂ (λ (o p : List Need). o ++ p) needs (ap₂ (λ (o p : List Need). o ++ p) second.needs (fourth.needs ∙ sym (append-nil B.needs)));
        } in
        let run_is : arms_run (map run last) (map (given_by last_vs) given) (map alternative (map (arm_of given) (pend ∷ more))) number arm (q.taken && left) r q W n k ≡ E u l (q.taken && (left && not t)) =
        ap (λ o. arms_run (map run last) (map (given_by last_vs) given) (o ∷ map alternative (map (arm_of given) more)) number arm (q.taken && left) r q W n k) (alternative_is tw.steps at lw.steps g)
        ∙ ap (λ w. E w ((q.taken && left) && is_one w) ((q.taken && left) && not (is_one w))) word
        ∙ ap₂ (λ i j. E u i j) (and_assoc q.taken left t) (and_assoc q.taken left (not t)) in
        subst (λ o. Ends G o (in_order d (Both number arm left m rest (varying u) q d.choices d.sites))) (sym run_is)
        (subst (λ i. Ends G (E u l (q.taken && (left && not t))) (D i d.sites)) choices (subst (λ j. Ends G (E u l (q.taken && (left && not t))) (D N j)) sites whole))
