-- Where one token ahead is enough, the reader reads what the grammar says.
use Rattle.std.proofs.Common.{◌≡◌, ◌⊎◌, inl, inr, ℕ, zero, suc, ◌<◌, ◌≤◌, Bool, true, false, not, ◌&&◌, if◌then◌else◌, List, [], ◌∷◌, ◌++◌, length, Option, Some, None, Ok, refl, subst, sym, ◌∙◌, arith}
use Rattle.std.proofs.lemmas.Bool.{not-true, or_left, cases_Bool}
use Rattle.bsv_lemmas.proofs.Truths.{both_left, both_right}
use denote.Enum.Bare.{true_same}
use Rattle.bsv_ast.specs.declared.text.Span.{Span}
use Rattle.bsv_lex.specs.contracts.terminal.Terminal.{the_type}
use Rattle.bsv_lex.specs.declared.terminal.Terminal.{Terminal}
use Rattle.bsv_expr.specs.declared.lexeme.Lexeme.{Lexeme}
use Rattle.bsv_expr.specs.Lexemes.{same_terminal, is_in, starts, is_within, is_apart}
use Rattle.bsv_expr.specs.Grammar.{Phrase, Grammar, Means, Fold, Folded, Both, Leaf, Maybe}
use Rattle.bsv_expr.specs.Reading.{Read, softened, turns, read, take_leaf, expect, span_told}
use Rattle.bsv_expr.proofs.Ahead.{nullable, first, more, test}
use Rattle.bsv_expr.proofs.Sets.{apart_stops, within_starts, within_stops, left_stops, right_stops, left_starts, right_starts}
use Rattle.bsv_expr.proofs.Shorter.{shorter}

pub leaf_is : {C : Type 0} (source : List ℕ) (set : List Terminal) (tell : List ℕ → Lexeme → Option C) (x : C) (ts rest : List Lexeme) → Leaf set (tell source) x ts rest → take_leaf source set tell ts ≡ Ok (x, rest)
unfolding take_leaf
leaf_is source set tell x ts rest d = rw (d.is, d.of, d.tells) refl

the_same : (s t : Terminal) → s ≡ t → same_terminal s t ≡ true
unfolding same_terminal
the_same s t e = true_same the_type s t e

pub expect_is : (source : List ℕ) (t : Terminal) (w : Lexeme) (rest : List Lexeme) → w.terminal ≡ t → expect source t (w ∷ rest) ≡ Ok (w.span, rest)
expect_is source t w rest is = leaf_is source (t ∷ []) span_told w.span (w ∷ rest) rest (record { token = w; is = refl; of = or_left (same_terminal w.terminal t) false (the_same w.terminal t is); tells = refl })

module _ {H : Type 0} {T : H → Type 0} (source : List ℕ) (inner : (h : H) → List Lexeme → Read (T h)) (Inner : (h : H) → Phrase (T h)) (hole_first hole_more : H → List Terminal)
    (inner_complete : (h : H) (x : T h) (ts rest : List Lexeme) → Inner h x ts rest → starts (hole_more h) rest ≡ false → inner h ts ≡ Ok (x, rest))
    (inner_begins : (h : H) (x : T h) (ts rest : List Lexeme) → Inner h x ts rest → starts (hole_first h) ts ≡ true)
    (inner_shorter : (h : H) (x : T h) (ts rest : List Lexeme) → Inner h x ts rest → length rest < length ts) where
  -- what a grammar says begins with one of its first words, unless it is nothing
  abbrev pub Begins : {A : Type 0} → Grammar H T A → Type 0
  Begins {A} g = (x : A) (ts rest : List Lexeme) → Means source Inner g x ts rest → (starts (first hole_first hole_more g) ts ≡ true) ⊎ ((nullable g ≡ true) × (ts ≡ rest))

  -- the reader reads what the grammar says
  abbrev pub Completes : {A : Type 0} → Grammar H T A → Type 0
  Completes {A} g = (soft : Bool) (x : A) (ts rest : List Lexeme) → Means source Inner g x ts rest → starts (more hole_first hole_more g) rest ≡ false → read source inner soft g ts ≡ Ok (x, rest)

  pub record Good {A : Type 0} (g : Grammar H T A) : Type 0 where
    pub begins : Begins g
    pub completes : Completes g

  -- a part that depends on what was read keeps within the words that are told for it
  pub record Within {A : Type 0} (fs ms : List Terminal) (g : Grammar H T A) : Type 0 where
    pub firsts : is_within (first hole_first hole_more g) fs ≡ true
    pub mores : is_within (more hole_first hole_more g) ms ≡ true
    pub good : Good g

  -- what is asked beside the test: of a part that depends on what was read, and of a part that has a name
  unfoldable pub Names : {A : Type 0} → Grammar H T A → Type 0
  Names (Grammar.nothing c) = Unit {0}
  Names (Grammar.leaf set tell) = Unit {0}
  Names (Grammar.hole h) = Unit {0}
  Names (Grammar.made f p) = Names p
  Names (Grammar.both f p q) = Names p × Names q
  Names (Grammar.bind {A} fs ms p k) = Names p × ((a : A) → Within fs ms (k a))
  Names (Grammar.between f o p c) = Names p
  Names (Grammar.choose set p q) = Names p × Names q
  Names (Grammar.maybe set p) = Names p
  Names (Grammar.fold set goes step p q) = Names p × Names q
  Names (Grammar.named fs ms p) = Good p

  pub chosen_first : {A : Type 0} (b : Bool) (r q : Read A) → b ≡ true → (if b then r else q) ≡ r
  chosen_first true r q e = refl
  chosen_first false r q e = absurd cc

  pub chosen_second : {A : Type 0} (b : Bool) (r q : Read A) → b ≡ false → (if b then r else q) ≡ q
  chosen_second true r q e = absurd cc
  chosen_second false r q e = refl

  -- one phrase after the other
  both_begins : {A B C : Type 0} (f : A → B → C) (p : Grammar H T A) (q : Grammar H T B) (b c : Bool) → nullable p ≡ b → nullable q ≡ c → Begins p → Begins q → (x : C) (ts rest : List Lexeme) → Both f (Means source Inner p) (Means source Inner q) x ts rest
      → (starts (if b then first hole_first hole_more p ++ first hole_first hole_more q else first hole_first hole_more p) ts ≡ true) ⊎ (((b && c) ≡ true) × (ts ≡ rest))
  both_begins f p q true c np nq gp gq x ts rest d =
      elim (gp d.left ts d.middle d.first) [
        | inl e ↦ inl (left_starts (first hole_first hole_more p) (first hole_first hole_more q) ts e)
        | inr e ↦ elim (gq d.right d.middle rest d.second) [
          | inl e2 ↦ inl (right_starts (first hole_first hole_more p) (first hole_first hole_more q) ts (subst (λ us. starts (first hole_first hole_more q) us ≡ true) (sym e.1) e2))
          | inr e2 ↦ inr (sym nq ∙ e2.0, e.1 ∙ e2.1)
        ]
      ]
  both_begins f p q false c np nq gp gq x ts rest d =
      elim (gp d.left ts d.middle d.first) [
        | inl e ↦ inl e
        | inr e ↦ let other : nullable p ≡ true = e.0 in absurd cc
      ]

  -- what comes after the first of two phrases does not go on with it
  after_first : {A B : Type 0} (p : Grammar H T A) (q : Grammar H T B) (c : Bool) → nullable q ≡ c → Begins q → is_apart (more hole_first hole_more p) (first hole_first hole_more q) ≡ true → (b : B) (us rest : List Lexeme) → Means source Inner q b us rest
      → starts (if c then more hole_first hole_more p ++ more hole_first hole_more q else more hole_first hole_more q) rest ≡ false → starts (more hole_first hole_more p) us ≡ false
  after_first p q true nq gq apart b us rest d stop =
      elim (gq b us rest d) [
        | inl e ↦ apart_stops (more hole_first hole_more p) (first hole_first hole_more q) us apart e
        | inr e ↦ subst (λ vs. starts (more hole_first hole_more p) vs ≡ false) (sym e.1) (left_stops (more hole_first hole_more p) (more hole_first hole_more q) rest stop)
      ]
  after_first p q false nq gq apart b us rest d stop =
      elim (gq b us rest d) [
        | inl e ↦ apart_stops (more hole_first hole_more p) (first hole_first hole_more q) us apart e
        | inr e ↦ let other : nullable q ≡ true = e.0 in absurd cc
      ]

  after_second : (c : Bool) (xs ys : List Terminal) (rest : List Lexeme) → starts (if c then xs ++ ys else ys) rest ≡ false → starts ys rest ≡ false
  after_second true xs ys rest e = right_stops xs ys rest e
  after_second false xs ys rest e = e

  both_good : {A B C : Type 0} (f : A → B → C) (p : Grammar H T A) (q : Grammar H T B) → is_apart (more hole_first hole_more p) (first hole_first hole_more q) ≡ true → Good p → Good q → Good (Grammar.both f p q)
  unfolding Means read nullable first more
  both_good f p q apart gp gq = record {
    begins = λ x ts rest d. both_begins f p q (nullable p) (nullable q) refl refl gp.begins gq.begins x ts rest d;
    completes = λ soft x ts rest d stop.
        rw (
          gp.completes soft d.left ts d.middle d.first (after_first p q (nullable q) refl gq.begins apart d.right d.middle rest d.second stop),
          gq.completes soft d.right d.middle rest d.second (after_second (nullable q) (more hole_first hole_more p) (more hole_first hole_more q) rest stop),
          d.is,
        ) refl;
  }

  -- a phrase that is not empty begins with one of its first words
  started : {A : Type 0} (g : Grammar H T A) → nullable g ≡ false → Begins g → (x : A) (ts rest : List Lexeme) → Means source Inner g x ts rest → starts (first hole_first hole_more g) ts ≡ true
  started g full gg x ts rest d =
      elim (gg x ts rest d) [
        | inl e ↦ e
        | inr e ↦ let other : nullable g ≡ true = e.0 in absurd cc
      ]

  nothing_good : {C : Type 0} (c : C) → Good (Grammar.nothing c)
  unfolding Means read nullable
  nothing_good c = record {
    begins = λ x ts rest d. inr (refl, d.1);
    completes = λ soft x ts rest d stop. rw (d.0, d.1) refl;
  }

  leaf_good : {C : Type 0} (set : List Terminal) (tell : List ℕ → Lexeme → Option C) → Good (Grammar.leaf set tell)
  unfolding Means read first
  leaf_good set tell = record {
    begins = λ x ts rest d. inl (subst (λ us. starts set us ≡ true) (sym d.is) d.of);
    completes = λ soft x ts rest d stop. leaf_is source set tell x ts rest d;
  }

  hole_good : (h : H) → Good (Grammar.hole h)
  unfolding Means read first more
  hole_good h = record {
    begins = λ x ts rest d. inl (inner_begins h x ts rest d);
    completes = λ soft x ts rest d stop. inner_complete h x ts rest d stop;
  }

  made_good : {A C : Type 0} (f : A → C) (p : Grammar H T A) → Good p → Good (Grammar.made f p)
  unfolding Means read nullable first more
  made_good f p gp = record {
    begins = λ x ts rest d. gp.begins d.inner ts rest d.holds;
    completes = λ soft x ts rest d stop. rw (gp.completes soft d.inner ts rest d.holds stop, d.is) refl;
  }

  between_good : {A C : Type 0} (f : Span → A → Span → C) (o : Terminal) (p : Grammar H T A) (c : Terminal) → is_in (more hole_first hole_more p) c ≡ false → Good p → Good (Grammar.between f o p c)
  unfolding Means read first
  between_good f o p c apart gp = record {
    begins = λ x ts rest d. inl (subst (λ us. starts (o ∷ []) us ≡ true) (sym d.opens) (or_left (same_terminal d.opening.terminal o) false (the_same d.opening.terminal o d.by)));
    completes = λ soft x ts rest d stop.
        let stops : starts (more hole_first hole_more p) (d.closing ∷ rest) ≡ false = subst (λ t. is_in (more hole_first hole_more p) t ≡ false) (sym d.closes) apart in
        rw (d.opens, expect_is source o d.opening d.middle d.by, gp.completes false d.inner d.middle (d.closing ∷ rest) d.holds stops, expect_is source c d.closing rest d.closes, d.is) refl;
  }

  choose_good : {A : Type 0} (set : List Terminal) (p q : Grammar H T A) → nullable p ≡ false → nullable q ≡ false → is_within (first hole_first hole_more p) set ≡ true → is_apart set (first hole_first hole_more q) ≡ true → Good p → Good q → Good (Grammar.choose set p q)
  unfolding Means read first more
  choose_good {A} set p q full_p full_q within apart gp gq = record {
    begins = λ x ts rest d. inl (elim d [
      | inl e ↦ left_starts set (first hole_first hole_more q) ts (within_starts (first hole_first hole_more p) set ts within (started p full_p gp.begins x ts rest e))
      | inr e ↦ right_starts set (first hole_first hole_more q) ts (started q full_q gq.begins x ts rest e)
    ]);
    completes = λ soft x ts rest d stop. elim d [
      | inl e ↦ chosen_first (starts set ts) (read source inner soft p ts) (read source inner soft q ts) (within_starts (first hole_first hole_more p) set ts within (started p full_p gp.begins x ts rest e))
          ∙ gp.completes soft x ts rest e (left_stops (more hole_first hole_more p) (more hole_first hole_more q) rest stop)
      | inr e ↦ chosen_second (starts set ts) (read source inner soft p ts) (read source inner soft q ts) (apart_stops set (first hole_first hole_more q) ts apart (started q full_q gq.begins x ts rest e))
          ∙ gq.completes soft x ts rest e (right_stops (more hole_first hole_more p) (more hole_first hole_more q) rest stop)
    ];
  }

  maybe_begins : {A : Type 0} (set : List Terminal) (p : Grammar H T A) → nullable p ≡ false → is_within (first hole_first hole_more p) set ≡ true → Begins p → (x : Option A) (ts rest : List Lexeme) → Maybe (Means source Inner p) x ts rest → (starts set ts ≡ true) ⊎ ((true ≡ true) × (ts ≡ rest))
  maybe_begins set p full within gp x ts rest Maybe.none = inr (refl, refl)
  maybe_begins set p full within gp x ts rest (Maybe.some {a = a} d) = inl (within_starts (first hole_first hole_more p) set ts within (started p full gp a ts rest d))

  maybe_reads : {A : Type 0} (set : List Terminal) (p : Grammar H T A) → nullable p ≡ false → is_within (first hole_first hole_more p) set ≡ true → Good p → (soft : Bool) (x : Option A) (ts rest : List Lexeme) → Maybe (Means source Inner p) x ts rest → starts (set ++ more hole_first hole_more p) rest ≡ false
      → (if starts set ts then softened {B = Option A × List Lexeme} soft (read source inner soft p ts) (Ok (None, ts)) (λ a. Ok (Some a.0, a.1)) else Ok (None, ts)) ≡ Ok (x, rest)
  maybe_reads {A} set p full within gp soft x ts rest Maybe.none stop =
      chosen_second (starts set ts) (softened {B = Option A × List Lexeme} soft (read source inner soft p ts) (Ok (None, ts)) (λ a. Ok (Some a.0, a.1))) (Ok (None, ts)) (left_stops set (more hole_first hole_more p) ts stop)
  maybe_reads {A} set p full within gp soft x ts rest (Maybe.some {a = a} d) stop =
      chosen_first (starts set ts) (softened {B = Option A × List Lexeme} soft (read source inner soft p ts) (Ok (None, ts)) (λ b. Ok (Some b.0, b.1))) (Ok (None, ts)) (within_starts (first hole_first hole_more p) set ts within (started p full gp.begins a ts rest d))
      ∙ rw (gp.completes soft a ts rest d (right_stops set (more hole_first hole_more p) rest stop)) refl

  maybe_good : {A : Type 0} (set : List Terminal) (p : Grammar H T A) → nullable p ≡ false → is_within (first hole_first hole_more p) set ≡ true → Good p → Good (Grammar.maybe set p)
  unfolding Means read nullable first more
  maybe_good set p full within gp = record { begins = maybe_begins set p full within gp.begins; completes = maybe_reads set p full within gp }

  module _ {S A : Type 0} (set : List Terminal) (goes : S → Bool) (step : S → A → S) (q : Grammar H T A) (full : nullable q ≡ false) (within : is_within (first hole_first hole_more q) set ≡ true) (apart : is_apart (more hole_first hole_more q) set ≡ true) (gq : Good q) where
    -- items end at once, or begin with one of their words
    fold_begins : (s y : S) (ts rest : List Lexeme) → Fold goes step (Means source Inner q) s y ts rest → (starts set ts ≡ true) ⊎ (ts ≡ rest)
    fold_begins s y ts rest Fold.done = inr refl
    fold_begins s y ts rest (Fold.turn {a = a} {us = us} is d ds) = inl (within_starts (first hole_first hole_more q) set ts within (started q full gq.begins a ts us d))

    -- what comes after a part in front of items does not go on with it
    before_fold : (xs : List Terminal) → is_apart xs set ≡ true → (s y : S) (ts rest : List Lexeme) → Fold goes step (Means source Inner q) s y ts rest → starts xs rest ≡ false → starts xs ts ≡ false
    before_fold xs off s y ts rest ds stop =
        elim (fold_begins s y ts rest ds) [
          | inl e ↦ apart_stops xs set ts off e
          | inr e ↦ subst (λ us. starts xs us ≡ false) (sym e) stop
        ]

    stopped : (soft : Bool) (n : ℕ) (s : S) (ts : List Lexeme) → starts set ts ≡ false → turns soft set goes step (read source inner soft q) n s ts ≡ Ok (s, ts)
    unfolding turns
    stopped soft zero s ts e = refl
    stopped soft (suc n) s ts e = elim (cases_Bool (goes s)) [
      | inl is ↦ rw (is, e) refl
      | inr is ↦ rw is refl
    ]

    fold_reads : (soft : Bool) (n : ℕ) (s y : S) (ts rest : List Lexeme) → Fold goes step (Means source Inner q) s y ts rest → starts set rest ≡ false → starts (more hole_first hole_more q) rest ≡ false → length ts ≤ n
        → turns soft set goes step (read source inner soft q) n s ts ≡ Ok (y, rest)
    unfolding turns
    fold_reads soft n s y ts rest Fold.done ends stop le = stopped soft n s ts ends
    fold_reads soft zero s y ts rest (Fold.turn {a = a} {us = us} is d ds) ends stop le = absurd (omega (arith, shorter source Inner inner_shorter q a ts us full d))
    fold_reads soft (suc n) s y ts rest (Fold.turn {a = a} {us = us} is d ds) ends stop le =
        let starting : starts set ts ≡ true = within_starts (first hole_first hole_more q) set ts within (started q full gq.begins a ts us d) in
        rw (
          is,
          starting,
          gq.completes soft a ts us d (before_fold (more hole_first hole_more q) apart (step s a) y us rest ds stop),
          fold_reads soft n (step s a) y us rest ds ends stop (omega (arith, shorter source Inner inner_shorter q a ts us full d)),
        ) refl

    fold_started : (p : Grammar H T S) (b : Bool) → nullable p ≡ b → Begins p → (x : S) (ts rest : List Lexeme) → Folded goes step (Means source Inner p) (Means source Inner q) x ts rest
        → (starts (if b then first hole_first hole_more p ++ set else first hole_first hole_more p) ts ≡ true) ⊎ ((b ≡ true) × (ts ≡ rest))
    fold_started p true np gp x ts rest d =
        elim (gp d.start ts d.middle d.first) [
          | inl e ↦ inl (left_starts (first hole_first hole_more p) set ts e)
          | inr e ↦ elim (fold_begins d.start x d.middle rest d.turns) [
            | inl e2 ↦ inl (right_starts (first hole_first hole_more p) set ts (subst (λ us. starts set us ≡ true) (sym e.1) e2))
            | inr e2 ↦ inr (refl, e.1 ∙ e2)
          ]
        ]
    fold_started p false np gp x ts rest d =
        elim (gp d.start ts d.middle d.first) [
          | inl e ↦ inl e
          | inr e ↦ let other : nullable p ≡ true = e.0 in absurd cc
        ]

    fold_good : (p : Grammar H T S) → is_apart (more hole_first hole_more p) set ≡ true → Good p → Good (Grammar.fold set goes step p q)
    unfolding Means read nullable first more
    fold_good p off gp = record {
      begins = fold_started p (nullable p) refl gp.begins;
      completes = λ soft x ts rest d stop.
          let behind : starts (set ++ more hole_first hole_more q) rest ≡ false = right_stops (more hole_first hole_more p) (set ++ more hole_first hole_more q) rest stop in
          rw (
            gp.completes soft d.start ts d.middle d.first (before_fold (more hole_first hole_more p) off d.start x d.middle rest d.turns (left_stops (more hole_first hole_more p) (set ++ more hole_first hole_more q) rest stop)),
            fold_reads soft (length d.middle) d.start x d.middle rest d.turns (left_stops set (more hole_first hole_more q) rest behind) (right_stops set (more hole_first hole_more q) rest behind) (omega arith),
          ) refl;
    }

  bind_good : {A C : Type 0} (fs ms : List Terminal) (p : Grammar H T A) (k : A → Grammar H T C) → nullable p ≡ false → is_apart (more hole_first hole_more p) fs ≡ true → is_within (more hole_first hole_more p) ms ≡ true → Good p → ((a : A) → Within fs ms (k a)) → Good (Grammar.bind fs ms p k)
  unfolding Means read first more
  bind_good fs ms p k full apart within gp gk = record {
    begins = λ x ts rest d. inl (started p full gp.begins d.left ts d.middle d.first);
    completes = λ soft x ts rest d stop.
        let behind : starts (more hole_first hole_more p) d.middle ≡ false =
        elim ((gk d.left).good.begins x d.middle rest d.second) [
          | inl e ↦ apart_stops (more hole_first hole_more p) fs d.middle apart (within_starts (first hole_first hole_more (k d.left)) fs d.middle (gk d.left).firsts e)
          | inr e ↦ subst (λ us. starts (more hole_first hole_more p) us ≡ false) (sym e.1) (within_stops (more hole_first hole_more p) ms rest within stop)
        ] in
        rw (gp.completes soft d.left ts d.middle d.first behind, (gk d.left).good.completes soft x d.middle rest d.second (within_stops (more hole_first hole_more (k d.left)) ms rest (gk d.left).mores stop)) refl;
  }

  named_good : {A : Type 0} (fs ms : List Terminal) (p : Grammar H T A) → nullable p ≡ false → is_within (first hole_first hole_more p) fs ≡ true → is_within (more hole_first hole_more p) ms ≡ true → Good p → Good (Grammar.named fs ms p)
  unfolding Means read first more
  named_good fs ms p full firsts mores gp = record {
    begins = λ x ts rest d. inl (within_starts (first hole_first hole_more p) fs ts firsts (started p full gp.begins x ts rest d));
    completes = λ soft x ts rest d stop. gp.completes soft x ts rest d (within_stops (more hole_first hole_more p) ms rest mores stop);
  }

  -- a grammar that passes the test, with its names
  pub good : {A : Type 0} (g : Grammar H T A) → test hole_first hole_more g ≡ true → Names g → Good g
  unfolding test Names
  good (Grammar.nothing c) e names = nothing_good c
  good (Grammar.leaf set tell) e names = leaf_good set tell
  good (Grammar.hole h) e names = hole_good h
  good (Grammar.made f p) e names = made_good f p (good p e names)
  good (Grammar.both f p q) e names =
      let apart : is_apart (more hole_first hole_more p) (first hole_first hole_more q) ≡ true = both_left _ _ e in
      let parts : (test hole_first hole_more p && test hole_first hole_more q) ≡ true = both_right (is_apart (more hole_first hole_more p) (first hole_first hole_more q)) _ e in
      both_good f p q apart (good p (both_left _ _ parts) names.0) (good q (both_right (test hole_first hole_more p) _ parts) names.1)
  good (Grammar.bind fs ms p k) e names =
      let full = both_left (not (nullable p)) (is_apart (more hole_first hole_more p) fs && (is_within (more hole_first hole_more p) ms && test hole_first hole_more p)) e in
      let e2 = both_right (not (nullable p)) (is_apart (more hole_first hole_more p) fs && (is_within (more hole_first hole_more p) ms && test hole_first hole_more p)) e in
      let e3 = both_right (is_apart (more hole_first hole_more p) fs) (is_within (more hole_first hole_more p) ms && test hole_first hole_more p) e2 in
      bind_good fs ms p k (not-true (nullable p) full) (both_left (is_apart (more hole_first hole_more p) fs) (is_within (more hole_first hole_more p) ms && test hole_first hole_more p) e2)
      (both_left (is_within (more hole_first hole_more p) ms) (test hole_first hole_more p) e3) (good p (both_right (is_within (more hole_first hole_more p) ms) (test hole_first hole_more p) e3) names.0) names.1
  good (Grammar.between f o p c) e names =
      between_good f o p c (not-true (is_in (more hole_first hole_more p) c) (both_left (not (is_in (more hole_first hole_more p) c)) (test hole_first hole_more p) e)) (good p (both_right (not (is_in (more hole_first hole_more p) c)) (test hole_first hole_more p) e) names)
  good (Grammar.choose set p q) e names =
      let a = first hole_first hole_more p in
      let e1 = both_right (not (nullable p)) (not (nullable q) && (is_within a set && (is_apart set (first hole_first hole_more q) && (test hole_first hole_more p && test hole_first hole_more q)))) e in
      let e2 = both_right (not (nullable q)) (is_within a set && (is_apart set (first hole_first hole_more q) && (test hole_first hole_more p && test hole_first hole_more q))) e1 in
      let e3 = both_right (is_within a set) (is_apart set (first hole_first hole_more q) && (test hole_first hole_more p && test hole_first hole_more q)) e2 in
      let e4 = both_right (is_apart set (first hole_first hole_more q)) (test hole_first hole_more p && test hole_first hole_more q) e3 in
      choose_good set p q (not-true (nullable p) (both_left (not (nullable p)) (not (nullable q) && (is_within a set && (is_apart set (first hole_first hole_more q) && (test hole_first hole_more p && test hole_first hole_more q)))) e))
      (not-true (nullable q) (both_left (not (nullable q)) (is_within a set && (is_apart set (first hole_first hole_more q) && (test hole_first hole_more p && test hole_first hole_more q))) e1))
      (both_left (is_within a set) (is_apart set (first hole_first hole_more q) && (test hole_first hole_more p && test hole_first hole_more q)) e2)
      (both_left (is_apart set (first hole_first hole_more q)) (test hole_first hole_more p && test hole_first hole_more q) e3)
      (good p (both_left (test hole_first hole_more p) (test hole_first hole_more q) e4) names.0) (good q (both_right (test hole_first hole_more p) (test hole_first hole_more q) e4) names.1)
  good (Grammar.maybe set p) e names =
      let a = first hole_first hole_more p in
      let e1 = both_right (not (nullable p)) (is_within a set && test hole_first hole_more p) e in
      maybe_good set p (not-true (nullable p) (both_left (not (nullable p)) (is_within a set && test hole_first hole_more p) e)) (both_left (is_within a set) (test hole_first hole_more p) e1) (good p (both_right (is_within a set) (test hole_first hole_more p) e1) names)
  good (Grammar.fold set goes step p q) e names =
      let e1 = both_right (not (nullable q)) (is_within (first hole_first hole_more q) set && (is_apart (more hole_first hole_more p) set && (is_apart (more hole_first hole_more q) set && (test hole_first hole_more p && test hole_first hole_more q)))) e in
      let e2 = both_right (is_within (first hole_first hole_more q) set) (is_apart (more hole_first hole_more p) set && (is_apart (more hole_first hole_more q) set && (test hole_first hole_more p && test hole_first hole_more q))) e1 in
      let e3 = both_right (is_apart (more hole_first hole_more p) set) (is_apart (more hole_first hole_more q) set && (test hole_first hole_more p && test hole_first hole_more q)) e2 in
      let e4 = both_right (is_apart (more hole_first hole_more q) set) (test hole_first hole_more p && test hole_first hole_more q) e3 in
      fold_good set goes step q (not-true (nullable q) (both_left (not (nullable q)) (is_within (first hole_first hole_more q) set && (is_apart (more hole_first hole_more p) set && (is_apart (more hole_first hole_more q) set && (test hole_first hole_more p && test hole_first hole_more q)))) e))
      (both_left (is_within (first hole_first hole_more q) set) (is_apart (more hole_first hole_more p) set && (is_apart (more hole_first hole_more q) set && (test hole_first hole_more p && test hole_first hole_more q))) e1)
      (both_left (is_apart (more hole_first hole_more q) set) (test hole_first hole_more p && test hole_first hole_more q) e3)
      (good q (both_right (test hole_first hole_more p) (test hole_first hole_more q) e4) names.1) p
      (both_left (is_apart (more hole_first hole_more p) set) (is_apart (more hole_first hole_more q) set && (test hole_first hole_more p && test hole_first hole_more q)) e2)
      (good p (both_left (test hole_first hole_more p) (test hole_first hole_more q) e4) names.0)
  good (Grammar.named fs ms p) e names =
      let e1 = both_right (not (nullable p)) (is_within (first hole_first hole_more p) fs && is_within (more hole_first hole_more p) ms) e in
      named_good fs ms p (not-true (nullable p) (both_left (not (nullable p)) (is_within (first hole_first hole_more p) fs && is_within (more hole_first hole_more p) ms) e))
      (both_left (is_within (first hole_first hole_more p) fs) (is_within (more hole_first hole_more p) ms) e1) (both_right (is_within (first hole_first hole_more p) fs) (is_within (more hole_first hole_more p) ms) e1) names
