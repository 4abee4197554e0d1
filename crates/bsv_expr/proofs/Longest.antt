-- Softly a reader reads at least as far as any phrase of the grammar, unless it was given too few brackets.
use Rattle.std.proofs.Common.{◌≡◌, ◌⊎◌, inl, inr, ℕ, zero, suc, ◌<◌, ◌≤◌, Bool, true, false, not, ◌&&◌, if◌then◌else◌, List, [], ◌∷◌, length, Option, Some, None, Result, Ok, Err, refl, ap, arith}
use Rattle.std.proofs.lemmas.Bool.{not-true, or_cases}
use Rattle.bsv_lemmas.proofs.Truths.{both_left, both_right}
use Rattle.bsv_lex.specs.declared.terminal.Terminal.{Terminal}
use Rattle.bsv_expr.specs.declared.lexeme.Lexeme.{Lexeme}
use Rattle.bsv_expr.specs.declared.fault.ReadFault.{ReadFault}
use Rattle.bsv_expr.specs.declared.fault.ReadFault.TheVariants as fault
use Rattle.bsv_expr.specs.Lexemes.{is_in, starts, is_within, is_apart}
use Rattle.bsv_expr.specs.Grammar.{Phrase, Grammar, Means, Fold, Maybe}
use Rattle.bsv_expr.specs.Reading.{◌>>=◌, Read, softened, turns, read, take_leaf, expect, span_told, on_some, refuse}
use Rattle.bsv_expr.proofs.Ahead.{nullable, first, more, test}
use Rattle.bsv_expr.proofs.Sets.{apart_stops, within_starts}
use Rattle.bsv_expr.proofs.Shorter.{no_longer, shorter}
use Rattle.bsv_expr.proofs.Sound.{sound}
use Rattle.bsv_expr.proofs.Complete.{Good, Within, Names, good, leaf_is}

-- what was read reaches as far as these tokens, or it is for want of brackets
pub data Far {A : Type 0} (r : Read A) (rest : List Lexeme) : Type 0 where
  too_deep : r ≡ Err fault.TooDeep → Far r rest
  as_far : (y : A) (us : List Lexeme) → r ≡ Ok (y, us) → length us ≤ length rest → Far r rest

-- not for want of memory
abbrev pub InMemory : {A : Type 0} → Result A ReadFault → Type 0
InMemory r = r ≡ Err fault.OutOfMemory → ⊥

bind_memory : {A B : Type 0} (r : Result A ReadFault) (f : A → Result B ReadFault) → InMemory r → ((x : A) → InMemory (f x)) → InMemory (r >>= f)
bind_memory (Ok x) f here go e = go x e
bind_memory (Err d) f here go e = here (let is : d ≡ fault.OutOfMemory = cc in ap Err is)

softened_memory : {A B : Type 0} (soft : Bool) (r : Result A ReadFault) (b : B) (f : A → Result B ReadFault) → InMemory r → ((x : A) → InMemory (f x)) → InMemory (softened soft r (Ok b) f)
softened_memory soft (Ok x) b f here go e = go x e
softened_memory true (Err (fault.Syntax at)) b f here go e = absurd cc
softened_memory false (Err (fault.Syntax at)) b f here go e = absurd cc
softened_memory true (Err fault.TooDeep) b f here go e = absurd cc
softened_memory false (Err fault.TooDeep) b f here go e = absurd cc
softened_memory soft (Err fault.OutOfMemory) b f here go e = here refl

if_memory : {A : Type 0} (b : Bool) (r q : Result A ReadFault) → InMemory r → InMemory q → InMemory (if b then r else q)
if_memory true r q here other e = here e
if_memory false r q here other e = other e

ok_memory : {A : Type 0} (x : A) → InMemory (Ok x)
ok_memory x e = absurd cc

token_memory : {C : Type 0} (b : Bool) (o : Option C) (ts : List Lexeme) (w : Lexeme) → InMemory (if b then on_some o (refuse {A = C × List Lexeme} (w ∷ ts)) (λ c. Ok (c, ts)) else refuse (w ∷ ts))
token_memory true None ts w e = absurd cc
token_memory true (Some c) ts w e = absurd cc
token_memory false o ts w e = absurd cc

leaf_memory : {C : Type 0} (source : List ℕ) (set : List Terminal) (tell : List ℕ → Lexeme → Option C) (ts : List Lexeme) → InMemory (take_leaf source set tell ts)
unfolding take_leaf
leaf_memory source set tell [] e = absurd cc
leaf_memory source set tell (w ∷ ts) e = token_memory (is_in set w.terminal) (tell source w) ts w e

module _ {S A : Type 0} (soft : Bool) (set : List Terminal) (goes_on : S → Bool) (step_of : S → A → S) (item : List Lexeme → Read A) (item_memory : (ts : List Lexeme) → InMemory (item ts)) where
  turns_memory : (n : ℕ) (s : S) (ts : List Lexeme) → InMemory (turns soft set goes_on step_of item n s ts)
  unfolding turns
  turns_memory zero s ts = ok_memory (s, ts)
  turns_memory (suc n) s ts =
      if_memory (goes_on s && starts set ts) (softened soft (item ts) (Ok (s, ts)) (λ a. turns soft set goes_on step_of item n (step_of s a.0) a.1)) (Ok (s, ts))
      (softened_memory soft (item ts) (s, ts) (λ a. turns soft set goes_on step_of item n (step_of s a.0) a.1) (item_memory ts) (λ a. turns_memory n (step_of s a.0) a.1))
      (ok_memory (s, ts))

module _ {H : Type 0} {T : H → Type 0} (source : List ℕ) (inner : (h : H) → List Lexeme → Read (T h)) (inner_memory : (h : H) (ts : List Lexeme) → InMemory (inner h ts)) where
  -- memory does not run out where it does not in the holes
  pub memory : {A : Type 0} (g : Grammar H T A) (soft : Bool) (ts : List Lexeme) → InMemory (read source inner soft g ts)
  unfolding read
  memory (Grammar.nothing c) soft ts = ok_memory (c, ts)
  memory (Grammar.leaf set tell) soft ts = leaf_memory source set tell ts
  memory (Grammar.hole h) soft ts = inner_memory h ts
  memory (Grammar.made f p) soft ts = bind_memory (read source inner soft p ts) (λ a. Ok (f a.0, a.1)) (memory p soft ts) (λ a. ok_memory (f a.0, a.1))
  memory (Grammar.both f p q) soft ts =
      bind_memory (read source inner soft p ts) (λ a. read source inner soft q a.1 >>= λ b. Ok (f a.0 b.0, b.1)) (memory p soft ts)
      (λ a. bind_memory (read source inner soft q a.1) (λ b. Ok (f a.0 b.0, b.1)) (memory q soft a.1) (λ b. ok_memory (f a.0 b.0, b.1)))
  memory (Grammar.bind fs ms p k) soft ts = bind_memory (read source inner soft p ts) (λ a. read source inner soft (k a.0) a.1) (memory p soft ts) (λ a. memory (k a.0) soft a.1)
  memory (Grammar.between f o p c) soft ts =
      bind_memory (expect source o ts) (λ v. read source inner false p v.1 >>= λ a. expect source c a.1 >>= λ w. Ok (f v.0 a.0 w.0, w.1)) (leaf_memory source (o ∷ []) span_told ts)
      (λ v. bind_memory (read source inner false p v.1) (λ a. expect source c a.1 >>= λ w. Ok (f v.0 a.0 w.0, w.1)) (memory p false v.1)
      (λ a. bind_memory (expect source c a.1) (λ w. Ok (f v.0 a.0 w.0, w.1)) (leaf_memory source (c ∷ []) span_told a.1) (λ w. ok_memory (f v.0 a.0 w.0, w.1))))
  memory (Grammar.choose set p q) soft ts = if_memory (starts set ts) (read source inner soft p ts) (read source inner soft q ts) (memory p soft ts) (memory q soft ts)
  memory (Grammar.maybe {A} set p) soft ts =
      if_memory {A = Option A × List Lexeme} (starts set ts) (softened soft (read source inner soft p ts) (Ok (None, ts)) (λ a. Ok (Some a.0, a.1))) (Ok (None, ts))
      (softened_memory {B = Option A × List Lexeme} soft (read source inner soft p ts) (None, ts) (λ a. Ok (Some a.0, a.1)) (memory p soft ts) (λ a. ok_memory (Some a.0, a.1)))
      (ok_memory (None, ts))
  memory (Grammar.fold set goes_on step_of p q) soft ts =
      bind_memory (read source inner soft p ts) (λ a. turns soft set goes_on step_of (read source inner soft q) (length a.1) a.0 a.1) (memory p soft ts)
      (λ a. turns_memory soft set goes_on step_of (read source inner soft q) (memory q soft) (length a.1) a.0 a.1)
  memory (Grammar.named fs ms p) soft ts = memory p soft ts

-- what reaches further reaches as far
further : {A : Type 0} (r : Read A) (us rest : List Lexeme) → Far r us → length us ≤ length rest → Far r rest
further r us rest (too_deep e) le = too_deep e
further r us rest (as_far y vs e more_of) le = as_far y vs e (omega arith)

bind_far : {A B : Type 0} (r : Read A) (f : A × List Lexeme → Read B) (us rest : List Lexeme) → Far r us → ((y : A) (vs : List Lexeme) → length vs ≤ length us → Far (f (y, vs)) rest) → Far (r >>= f) rest
bind_far r f us rest (too_deep e) go = too_deep (rw e refl)
bind_far r f us rest (as_far y vs e le) go = rw e (go y vs le)

soft_far : {A B : Type 0} (r : Read A) (other : Read B) (f : A × List Lexeme → Read B) (us rest : List Lexeme) → Far r us → ((y : A) (vs : List Lexeme) → length vs ≤ length us → Far (f (y, vs)) rest) → Far (softened true r other f) rest
soft_far r other f us rest (too_deep e) go = too_deep (rw e refl)
soft_far r other f us rest (as_far y vs e le) go = rw e (go y vs le)

if_far : {A : Type 0} (b : Bool) (r q : Read A) (rest : List Lexeme) → Far r rest → Far q rest → Far (if b then r else q) rest
if_far true r q rest here other = here
if_far false r q rest here other = other

-- a part that may be left out reaches as far as nothing does
left_far : {A B : Type 0} (r : Read A) (b : B × List Lexeme) (f : A × List Lexeme → Read B) (rest : List Lexeme) → InMemory r → length b.1 ≤ length rest → ((a : A × List Lexeme) → r ≡ Ok a → Far (f a) rest) → Far (softened true r (Ok b) f) rest
left_far (Ok a) b f rest enough le go = go a refl
left_far (Err (fault.Syntax at)) b f rest enough le go = as_far b.0 b.1 refl le
left_far (Err fault.TooDeep) b f rest enough le go = too_deep refl
left_far (Err fault.OutOfMemory) b f rest enough le go = absurd (enough refl)

module _ {S A : Type 0} (set : List Terminal) (goes_on : S → Bool) (step_of : S → A → S) (item : List Lexeme → Read A) (item_memory : (ts : List Lexeme) → InMemory (item ts))
    (item_no_longer : (ts : List Lexeme) (a : A × List Lexeme) → item ts ≡ Ok a → length a.1 ≤ length ts) where
  turns_left : (n : ℕ) (s : S) (ts : List Lexeme) → Far (turns true set goes_on step_of item n s ts) ts
  unfolding turns
  turns_left zero s ts = as_far s ts refl (omega arith)
  turns_left (suc n) s ts =
      if_far (goes_on s && starts set ts) (softened true (item ts) (Ok (s, ts)) (λ a. turns true set goes_on step_of item n (step_of s a.0) a.1)) (Ok (s, ts)) ts
      (left_far (item ts) (s, ts) (λ a. turns true set goes_on step_of item n (step_of s a.0) a.1) ts (item_memory ts) (omega arith)
      (λ a at. further (turns true set goes_on step_of item n (step_of s a.0) a.1) a.1 ts (turns_left n (step_of s a.0) a.1) (item_no_longer ts a at)))
      (as_far s ts refl (omega arith))

-- the parts of a test
three : (a b c : Bool) → (a && (b && c)) ≡ true → (a ≡ true) × (b ≡ true) × (c ≡ true)
three a b c e = let l = both_right a (b && c) e in (both_left a (b && c) e, both_left b c l, both_right b c l)

four : (a b c d : Bool) → (a && (b && (c && d))) ≡ true → (a ≡ true) × (b ≡ true) × (c ≡ true) × (d ≡ true)
four a b c d e = let l = three b c d (both_right a (b && (c && d)) e) in (both_left a (b && (c && d)) e, l.0, l.1, l.2)

six : (a b c d m n : Bool) → (a && (b && (c && (d && (m && n))))) ≡ true → (a ≡ true) × (b ≡ true) × (c ≡ true) × (d ≡ true) × (m ≡ true) × (n ≡ true)
six a b c d m n e =
    let r = both_right a (b && (c && (d && (m && n)))) e in
    let l = four c d m n (both_right b (c && (d && (m && n))) r) in
    (both_left a (b && (c && (d && (m && n)))) e, both_left b (c && (d && (m && n))) r, l.0, l.1, l.2, l.3)

module _ {H : Type 0} {T : H → Type 0} (source : List ℕ) (inner : (h : H) → List Lexeme → Read (T h)) (Inner : (h : H) → Phrase (T h))
    (inner_sound : (h : H) (ts : List Lexeme) (x : T h) (rest : List Lexeme) → inner h ts ≡ Ok (x, rest) → Inner h x ts rest)
    (inner_shorter : (h : H) (x : T h) (ts rest : List Lexeme) → Inner h x ts rest → length rest < length ts) where
  -- what was read leaves no more tokens
  pub read_no_longer : {A : Type 0} (g : Grammar H T A) (soft : Bool) (ts : List Lexeme) (a : A × List Lexeme) → read source inner soft g ts ≡ Ok a → length a.1 ≤ length ts
  read_no_longer g soft ts a e = no_longer source Inner inner_shorter g a.0 ts a.1 (sound source inner Inner inner_sound g soft ts a.0 a.1 e)

  module _ (inner_memory : (h : H) (ts : List Lexeme) → InMemory (inner h ts)) (hole_first hole_more : H → List Terminal) where
    -- softly a grammar that may be empty is read or left out, unless for want of brackets
    pub left_out : {A : Type 0} (g : Grammar H T A) → test hole_first hole_more g ≡ true → nullable g ≡ true → (ts : List Lexeme) → Far (read source inner true g ts) ts
    unfolding read test nullable
    left_out (Grammar.nothing c) t null ts = as_far c ts refl (omega arith)
    left_out (Grammar.leaf set tell) t null ts = absurd cc
    left_out (Grammar.hole h) t null ts = absurd cc
    left_out (Grammar.made f p) t null ts =
        bind_far (read source inner true p ts) (λ a. Ok (f a.0, a.1)) ts ts (left_out p t null ts) (λ y us le. as_far (f y) us refl le)
    left_out (Grammar.both f p q) t null ts =
        let parts = three (is_apart (more hole_first hole_more p) (first hole_first hole_more q)) (test hole_first hole_more p) (test hole_first hole_more q) t in
        bind_far (read source inner true p ts) (λ a. read source inner true q a.1 >>= λ b. Ok (f a.0 b.0, b.1)) ts ts (left_out p parts.1 (both_left (nullable p) (nullable q) null) ts)
        (λ y us le. bind_far (read source inner true q us) (λ b. Ok (f y b.0, b.1)) us ts (left_out q parts.2 (both_right (nullable p) (nullable q) null) us)
        (λ z vs beyond. as_far (f y z) vs refl (omega arith)))
    left_out (Grammar.bind fs ms p k) t null ts =
        let full : nullable p ≡ false = not-true (nullable p) (both_left (not (nullable p)) (is_apart (more hole_first hole_more p) fs && (is_within (more hole_first hole_more p) ms && test hole_first hole_more p)) t) in absurd cc
    left_out (Grammar.between f o p c) t null ts = absurd cc
    left_out (Grammar.choose set p q) t null ts =
        let parts = six (not (nullable p)) (not (nullable q)) (is_within (first hole_first hole_more p) set) (is_apart set (first hole_first hole_more q)) (test hole_first hole_more p) (test hole_first hole_more q) t in
        elim (or_cases (nullable p) (nullable q) null) [
          | inl e ↦ let full : nullable p ≡ false = not-true (nullable p) parts.0 in absurd cc
          | inr e ↦ let full : nullable q ≡ false = not-true (nullable q) parts.1 in absurd cc
        ]
    left_out (Grammar.maybe {A} set p) t null ts =
        if_far {A = Option A} (starts set ts) (softened true (read source inner true p ts) (Ok (None, ts)) (λ a. Ok (Some a.0, a.1))) (Ok (None, ts)) ts
        (left_far {B = Option A} (read source inner true p ts) (None, ts) (λ a. Ok (Some a.0, a.1)) ts (memory source inner inner_memory p true ts) (omega arith)
        (λ a at. as_far (Some a.0) a.1 refl (read_no_longer p true ts a at)))
        (as_far None ts refl (omega arith))
    left_out (Grammar.fold set goes_on step_of p q) t null ts =
        let parts = six (not (nullable q)) (is_within (first hole_first hole_more q) set) (is_apart (more hole_first hole_more p) set) (is_apart (more hole_first hole_more q) set) (test hole_first hole_more p) (test hole_first hole_more q) t in
        bind_far (read source inner true p ts) (λ a. turns true set goes_on step_of (read source inner true q) (length a.1) a.0 a.1) ts ts (left_out p parts.4 null ts)
        (λ y us le. further (turns true set goes_on step_of (read source inner true q) (length us) y us) us ts
        (turns_left set goes_on step_of (read source inner true q) (memory source inner inner_memory q true) (read_no_longer q true) (length us) y us) le)
    left_out (Grammar.named fs ms p) t null ts =
        let full : nullable p ≡ false = not-true (nullable p) (both_left (not (nullable p)) (is_within (first hole_first hole_more p) fs && is_within (more hole_first hole_more p) ms) t) in absurd cc

module _ {H : Type 0} {T : H → Type 0} (source : List ℕ) (inner : (h : H) → List Lexeme → Read (T h)) (Inner : (h : H) → Phrase (T h)) where
  -- softly the reader reads as far as any phrase of the grammar
  abbrev pub Reaching : {A : Type 0} → Grammar H T A → Type 0
  Reaching {A} g = (x : A) (ts rest : List Lexeme) → Means source Inner g x ts rest → Far (read source inner true g ts) rest

  module _ (hole_first hole_more : H → List Terminal) where
    -- what is asked beside `Names`, outside brackets: a hole reaches as far; a part that depends on what was read
    -- does, and where it may be empty, the part in front of it ends by itself; and a part that has a name does
    unfoldable pub Firm : {A : Type 0} → Grammar H T A → Type 0
    Firm (Grammar.nothing c) = Unit {0}
    Firm (Grammar.leaf set tell) = Unit {0}
    Firm (Grammar.hole h) = (x : T h) (ts rest : List Lexeme) → Inner h x ts rest → Far (inner h ts) rest
    Firm (Grammar.made f p) = Firm p
    Firm (Grammar.both f p q) = Firm p × Firm q
    Firm (Grammar.bind {A} fs ms p k) = (a : A) → (nullable (k a) ≡ true → more hole_first hole_more p ≡ []) × Reaching (k a)
    Firm (Grammar.between f o p c) = Unit {0}
    Firm (Grammar.choose set p q) = Firm p × Firm q
    Firm (Grammar.maybe set p) = Firm p
    Firm (Grammar.fold set goes_on step_of p q) = Firm p × Firm q
    Firm (Grammar.named fs ms p) = Reaching p

-- nothing is a word of no set
none_starts : (xs : List Terminal) (ts : List Lexeme) → xs ≡ [] → starts xs ts ≡ false
none_starts xs [] e = refl
none_starts xs (w ∷ ts) e = rw e refl

module _ {H : Type 0} {T : H → Type 0} (source : List ℕ) (inner : (h : H) → List Lexeme → Read (T h)) (Inner : (h : H) → Phrase (T h)) (hole_first hole_more : H → List Terminal)
    (inner_complete : (h : H) (x : T h) (ts rest : List Lexeme) → Inner h x ts rest → starts (hole_more h) rest ≡ false → inner h ts ≡ Ok (x, rest))
    (inner_begins : (h : H) (x : T h) (ts rest : List Lexeme) → Inner h x ts rest → starts (hole_first h) ts ≡ true)
    (inner_shorter : (h : H) (x : T h) (ts rest : List Lexeme) → Inner h x ts rest → length rest < length ts)
    (inner_sound : (h : H) (ts : List Lexeme) (x : T h) (rest : List Lexeme) → inner h ts ≡ Ok (x, rest) → Inner h x ts rest)
    (inner_memory : (h : H) (ts : List Lexeme) → InMemory (inner h ts)) where
  abbrev Tested : {A : Type 0} → Grammar H T A → Type 0
  Tested g = test hole_first hole_more g ≡ true

  abbrev Named : {A : Type 0} → Grammar H T A → Type 0
  Named g = Names source inner Inner hole_first hole_more inner_complete inner_begins inner_shorter g

  abbrev Fine : {A : Type 0} → Grammar H T A → Type 0
  Fine g = Good source inner Inner hole_first hole_more inner_complete inner_begins inner_shorter g

  fine : {A : Type 0} (g : Grammar H T A) → Tested g → Named g → Fine g
  fine g t names = good source inner Inner hole_first hole_more inner_complete inner_begins inner_shorter g t names

  -- a phrase that is not empty begins with one of its first words
  started_so : {A : Type 0} (g : Grammar H T A) → nullable g ≡ false → Fine g → (x : A) (ts rest : List Lexeme) → Means source Inner g x ts rest → starts (first hole_first hole_more g) ts ≡ true
  started_so g full gg x ts rest d =
      elim (gg.begins x ts rest d) [
        | inl e ↦ e
        | inr e ↦ let other : nullable g ≡ true = e.0 in absurd cc
      ]

  -- a step that was read exactly
  then_far : {A B : Type 0} (r : Read A) (f : A × List Lexeme → Read B) (a : A × List Lexeme) (rest : List Lexeme) → r ≡ Ok a → Far (f a) rest → Far (r >>= f) rest
  then_far r f a rest e d = rw e d

  both_reaches : {A B C : Type 0} (f : A → B → C) (p : Grammar H T A) (q : Grammar H T B) → is_apart (more hole_first hole_more p) (first hole_first hole_more q) ≡ true → Tested q → Fine p → Fine q → Reaching source inner Inner p → Reaching source inner Inner q → Reaching source inner Inner (Grammar.both f p q)
  unfolding read Means
  both_reaches f p q apart t gp gq rp rq x ts rest d =
      elim (gq.begins d.right d.middle rest d.second) [
        | inl e ↦ then_far (read source inner true p ts) (λ a. read source inner true q a.1 >>= λ b. Ok (f a.0 b.0, b.1)) (d.left, d.middle) rest
            (gp.completes true d.left ts d.middle d.first (apart_stops (more hole_first hole_more p) (first hole_first hole_more q) d.middle apart e))
            (bind_far (read source inner true q d.middle) (λ b. Ok (f d.left b.0, b.1)) rest rest (rq d.right d.middle rest d.second) (λ z vs le. as_far (f d.left z) vs refl le))
        | inr e ↦ bind_far (read source inner true p ts) (λ a. read source inner true q a.1 >>= λ b. Ok (f a.0 b.0, b.1)) d.middle rest (rp d.left ts d.middle d.first)
            (λ y us le. bind_far (read source inner true q us) (λ b. Ok (f y b.0, b.1)) us rest (left_out source inner Inner inner_sound inner_shorter inner_memory hole_first hole_more q t e.0 us)
            (λ z vs beyond. as_far (f y z) vs refl (let same : length d.middle ≡ length rest = ap length e.1 in omega arith)))
      ]

  bind_reaches : {A C : Type 0} (fs ms : List Terminal) (p : Grammar H T A) (k : A → Grammar H T C) → is_apart (more hole_first hole_more p) fs ≡ true → Fine p → ((a : A) → Within source inner Inner hole_first hole_more inner_complete inner_begins inner_shorter fs ms (k a))
      → ((a : A) → (nullable (k a) ≡ true → more hole_first hole_more p ≡ []) × Reaching source inner Inner (k a)) → Reaching source inner Inner (Grammar.bind fs ms p k)
  unfolding read Means
  bind_reaches fs ms p k apart gp gk rk x ts rest d =
      let behind : starts (more hole_first hole_more p) d.middle ≡ false =
      elim ((gk d.left).good.begins x d.middle rest d.second) [
        | inl e ↦ apart_stops (more hole_first hole_more p) fs d.middle apart (within_starts (first hole_first hole_more (k d.left)) fs d.middle (gk d.left).firsts e)
        | inr e ↦ none_starts (more hole_first hole_more p) d.middle ((rk d.left).0 e.0)
      ] in
      then_far (read source inner true p ts) (λ a. read source inner true (k a.0) a.1) (d.left, d.middle) rest (gp.completes true d.left ts d.middle d.first behind) ((rk d.left).1 x d.middle rest d.second)

  choose_reaches : {A : Type 0} (set : List Terminal) (p q : Grammar H T A) → nullable p ≡ false → nullable q ≡ false → is_within (first hole_first hole_more p) set ≡ true → is_apart set (first hole_first hole_more q) ≡ true → Fine p → Fine q → Reaching source inner Inner p → Reaching source inner Inner q → Reaching source inner Inner (Grammar.choose set p q)
  unfolding read Means
  choose_reaches {A} set p q full_p full_q within apart gp gq rp rq x ts rest (inl d) =
      let starting : starts set ts ≡ true = within_starts (first hole_first hole_more p) set ts within (started_so p full_p gp x ts rest d) in
      rw starting (rp x ts rest d)
  choose_reaches {A} set p q full_p full_q within apart gp gq rp rq x ts rest (inr d) =
      let starting : starts set ts ≡ false = apart_stops set (first hole_first hole_more q) ts apart (started_so q full_q gq x ts rest d) in
      rw starting (rq x ts rest d)

  maybe_reaches : {A : Type 0} (set : List Terminal) (p : Grammar H T A) → Tested (Grammar.maybe set p) → nullable p ≡ false → is_within (first hole_first hole_more p) set ≡ true → Fine p → Reaching source inner Inner p → Reaching source inner Inner (Grammar.maybe set p)
  unfolding read Means nullable
  maybe_reaches set p t full within gp rp x ts rest Maybe.none = left_out source inner Inner inner_sound inner_shorter inner_memory hole_first hole_more (Grammar.maybe set p) t refl ts
  maybe_reaches {A} set p t full within gp rp x ts rest (Maybe.some {a = a} d) =
      let starting : starts set ts ≡ true = within_starts (first hole_first hole_more p) set ts within (started_so p full gp a ts rest d) in
      rw starting (soft_far {B = Option A} (read source inner true p ts) (Ok (None, ts)) (λ b. Ok (Some b.0, b.1)) rest rest (rp a ts rest d) (λ y us le. as_far (Some y) us refl le))

  module _ {S A : Type 0} (set : List Terminal) (goes_on : S → Bool) (step_of : S → A → S) (q : Grammar H T A) (full : nullable q ≡ false) (within : is_within (first hole_first hole_more q) set ≡ true) (apart : is_apart (more hole_first hole_more q) set ≡ true) (gq : Fine q) (rq : Reaching source inner Inner q) where
    some_turns : (n : ℕ) (s : S) (ts : List Lexeme) → Far (turns true set goes_on step_of (read source inner true q) n s ts) ts
    some_turns n s ts = turns_left set goes_on step_of (read source inner true q) (memory source inner inner_memory q true) (read_no_longer source inner Inner inner_sound inner_shorter q true) n s ts

    -- items end at once, or begin with one of their words
    fold_starts : (s y : S) (ts rest : List Lexeme) → Fold goes_on step_of (Means source Inner q) s y ts rest → (starts set ts ≡ true) ⊎ (ts ≡ rest)
    fold_starts s y ts rest Fold.done = inr refl
    fold_starts s y ts rest (Fold.turn {a = a} {us = us} is d ds) = inl (within_starts (first hole_first hole_more q) set ts within (started_so q full gq a ts us d))

    turns_reach : (n : ℕ) (s y : S) (ts rest : List Lexeme) → Fold goes_on step_of (Means source Inner q) s y ts rest → length ts ≤ n → Far (turns true set goes_on step_of (read source inner true q) n s ts) rest
    unfolding turns
    turns_reach n s y ts rest Fold.done le = some_turns n s ts
    turns_reach zero s y ts rest (Fold.turn {a = a} {us = us} is d ds) le = absurd (omega (arith, shorter source Inner inner_shorter q a ts us full d))
    turns_reach (suc n) s y ts rest (Fold.turn {a = a} {us = us} is d ds) le =
        let starting : starts set ts ≡ true = within_starts (first hole_first hole_more q) set ts within (started_so q full gq a ts us d) in
        rw (is, starting) (elim (fold_starts (step_of s a) y us rest ds) [
          | inl e ↦ rw (gq.completes true a ts us d (apart_stops (more hole_first hole_more q) set us apart e))
              (turns_reach n (step_of s a) y us rest ds (omega (arith, shorter source Inner inner_shorter q a ts us full d)))
          | inr e ↦ soft_far (read source inner true q ts) (Ok (s, ts)) (λ b. turns true set goes_on step_of (read source inner true q) n (step_of s b.0) b.1) us rest (rq a ts us d)
              (λ b vs beyond. further (turns true set goes_on step_of (read source inner true q) n (step_of s b) vs) vs rest (some_turns n (step_of s b) vs) (let same : length us ≡ length rest = ap length e in omega arith))
        ])

    fold_reaches : (p : Grammar H T S) → is_apart (more hole_first hole_more p) set ≡ true → Fine p → Reaching source inner Inner p → Reaching source inner Inner (Grammar.fold set goes_on step_of p q)
    unfolding read Means
    fold_reaches p off gp rp x ts rest d =
        elim (fold_starts d.start x d.middle rest d.turns) [
          | inl e ↦ then_far (read source inner true p ts) (λ a. turns true set goes_on step_of (read source inner true q) (length a.1) a.0 a.1) (d.start, d.middle) rest
              (gp.completes true d.start ts d.middle d.first (apart_stops (more hole_first hole_more p) set d.middle off e))
              (turns_reach (length d.middle) d.start x d.middle rest d.turns (omega arith))
          | inr e ↦ bind_far (read source inner true p ts) (λ a. turns true set goes_on step_of (read source inner true q) (length a.1) a.0 a.1) d.middle rest (rp d.start ts d.middle d.first)
              (λ y us le. further (turns true set goes_on step_of (read source inner true q) (length us) y us) us rest (some_turns (length us) y us) (let same : length d.middle ≡ length rest = ap length e in omega arith))
        ]

  -- softly the reader reads at least as far as any phrase of the grammar, or it was given too few brackets
  pub reaches : {A : Type 0} (g : Grammar H T A) → test hole_first hole_more g ≡ true → Names source inner Inner hole_first hole_more inner_complete inner_begins inner_shorter g → Firm source inner Inner hole_first hole_more g
      → (x : A) (ts rest : List Lexeme) → Means source Inner g x ts rest → Far (read source inner true g ts) rest
  unfolding read Means test more Names Firm
  reaches (Grammar.nothing c) t names firm x ts rest d = as_far c ts refl (let same : length ts ≡ length rest = ap length d.1 in omega arith)
  reaches (Grammar.leaf set tell) t names firm x ts rest d = as_far x rest (leaf_is source set tell x ts rest d) (omega arith)
  reaches (Grammar.hole h) t names firm x ts rest d = firm x ts rest d
  reaches (Grammar.made f p) t names firm x ts rest d = bind_far (read source inner true p ts) (λ a. Ok (f a.0, a.1)) rest rest (reaches p t names firm d.inner ts rest d.holds) (λ y us le. as_far (f y) us refl le)
  reaches (Grammar.both f p q) t names firm x ts rest d =
      let parts = three (is_apart (more hole_first hole_more p) (first hole_first hole_more q)) (test hole_first hole_more p) (test hole_first hole_more q) t in
      both_reaches f p q parts.0 parts.2 (fine p parts.1 names.0) (fine q parts.2 names.1) (reaches p parts.1 names.0 firm.0) (reaches q parts.2 names.1 firm.1) x ts rest d
  reaches (Grammar.bind fs ms p k) t names firm x ts rest d =
      let parts = four (not (nullable p)) (is_apart (more hole_first hole_more p) fs) (is_within (more hole_first hole_more p) ms) (test hole_first hole_more p) t in
      bind_reaches fs ms p k parts.1 (fine p parts.3 names.0) names.1 firm x ts rest d
  reaches (Grammar.between f o p c) t names firm x ts rest d = as_far x rest ((fine (Grammar.between f o p c) t names).completes true x ts rest d (none_starts [] rest refl)) (omega arith)
  reaches (Grammar.choose set p q) t names firm x ts rest d =
      let parts = six (not (nullable p)) (not (nullable q)) (is_within (first hole_first hole_more p) set) (is_apart set (first hole_first hole_more q)) (test hole_first hole_more p) (test hole_first hole_more q) t in
      choose_reaches set p q (not-true (nullable p) parts.0) (not-true (nullable q) parts.1) parts.2 parts.3 (fine p parts.4 names.0) (fine q parts.5 names.1) (reaches p parts.4 names.0 firm.0) (reaches q parts.5 names.1 firm.1) x ts rest d
  reaches (Grammar.maybe set p) t names firm x ts rest d =
      let parts = three (not (nullable p)) (is_within (first hole_first hole_more p) set) (test hole_first hole_more p) t in
      maybe_reaches set p t (not-true (nullable p) parts.0) parts.1 (fine p parts.2 names) (reaches p parts.2 names firm) x ts rest d
  reaches (Grammar.fold set goes_on step_of p q) t names firm x ts rest d =
      let parts = six (not (nullable q)) (is_within (first hole_first hole_more q) set) (is_apart (more hole_first hole_more p) set) (is_apart (more hole_first hole_more q) set) (test hole_first hole_more p) (test hole_first hole_more q) t in
      fold_reaches set goes_on step_of q (not-true (nullable q) parts.0) parts.1 parts.3 (fine q parts.5 names.1) (reaches q parts.5 names.1 firm.1) p parts.2 (fine p parts.4 names.0) (reaches p parts.4 names.0 firm.0) x ts rest d
  reaches (Grammar.named fs ms p) t names firm x ts rest d = firm x ts rest d
