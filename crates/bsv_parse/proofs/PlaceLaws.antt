-- The laws of the expressions, types and statements at the places of definitions, at each number of brackets and blocks;
-- and of any grammar over these places that passes the tests.
use Rattle.std.proofs.Common.{◌≡◌, inl, inr, ℕ, zero, suc, ◌+◌, ◌-◌, ◌<◌, ◌≤◌, Bool, true, false, List, [], ◌∷◌, length, Ok, Err, ap, arith}
use Rattle.bsv_lex.specs.declared.terminal.Terminal.{Terminal}
use Rattle.bsv_lex.specs.declared.terminal.Terminal.TheVariants as word
use Rattle.bsv_expr.specs.declared.lexeme.Lexeme.{Lexeme}
use Rattle.bsv_expr.specs.declared.fault.ReadFault.TheVariants as fault
use Rattle.bsv_expr.specs.Lexemes.{starts, is_within}
use Rattle.bsv_expr.specs.Brackets.{Reaches}
use Rattle.bsv_expr.specs.Expressions.{expression_first, expression_more}
use Rattle.bsv_expr.proofs.Ahead.{nullable, first, more, test, guarded, Tame}
use Rattle.bsv_expr.proofs.Sound.{sound}
use Rattle.bsv_expr.proofs.Sets.{within_starts, within_stops}
use Rattle.bsv_expr.proofs.Shorter as lengths
use Rattle.bsv_expr.proofs.Complete.{Good, Within, Names, good}
use Rattle.bsv_expr.proofs.Agrees.{Agree, agrees}
use Rattle.bsv_expr.proofs.Closing.{Balanced, balanced, bonus, lower_limit}
use Rattle.bsv_expr.proofs.Deeper.{deep}
use Rattle.bsv_blocks.specs.Types.{type_first}
use Rattle.bsv_blocks.specs.Holes as simple_places
use Rattle.bsv_blocks.specs.Statements.{stmt_first}
use Rattle.bsv_parse.specs.Places.{Hole, Filled, Of, Inner, inner, Says, part}
use Rattle.bsv_blocks.proofs.TypeKnot.{type_more}
use Rattle.bsv_blocks.proofs.HoleLaws as holes
use Rattle.bsv_blocks.proofs.StatementKnot.{stmt_more, stmt_sound, stmt_laws_at, stmt_balanced, stmt_deep, stmt_agrees}

-- the words with which what is at a place begins
abbrev pub place_begins : Hole → List Terminal
place_begins Hole.expression = expression_first
place_begins Hole.arguments = word.OpenParen ∷ []
place_begins Hole.written = type_first
place_begins Hole.statement = stmt_first

-- the words that go on after it
abbrev pub place_goes_on : Hole → List Terminal
place_goes_on Hole.expression = expression_more
place_goes_on Hole.arguments = []
place_goes_on Hole.written = type_more
place_goes_on Hole.statement = stmt_more

module _ (source : List ℕ) (n : ℕ) where
  -- what is read at a place is there
  pub inner_sound : (h : Hole) (ts : List Lexeme) (x : Filled h) (rest : List Lexeme) → inner source n h ts ≡ Ok (x, rest) → Inner source n h x ts rest
  unfolding inner Inner simple_places.inner simple_places.Inner
  inner_sound Hole.expression ts x rest e = holes.inner_sound source n simple_places.Hole.expression ts x rest e
  inner_sound Hole.arguments ts x rest e = holes.inner_sound source n simple_places.Hole.arguments ts x rest e
  inner_sound Hole.written ts x rest e = holes.inner_sound source n simple_places.Hole.written ts x rest e
  inner_sound Hole.statement ts x rest e = stmt_sound source n ts x rest e

  -- the reader at a place reads what is there
  pub inner_completes : (h : Hole) (x : Filled h) (ts rest : List Lexeme) → Inner source n h x ts rest → starts (place_goes_on h) rest ≡ false → inner source n h ts ≡ Ok (x, rest)
  unfolding inner Inner simple_places.inner simple_places.Inner
  inner_completes Hole.expression x ts rest d stop = holes.inner_completes source n simple_places.Hole.expression x ts rest d stop
  inner_completes Hole.arguments x ts rest d stop = holes.inner_completes source n simple_places.Hole.arguments x ts rest d stop
  inner_completes Hole.written x ts rest d stop = holes.inner_completes source n simple_places.Hole.written x ts rest d stop
  inner_completes Hole.statement x ts rest d stop = (stmt_laws_at source n).completes x ts rest d stop

  -- what is at a place begins with one of its words
  pub inner_begins : (h : Hole) (x : Filled h) (ts rest : List Lexeme) → Inner source n h x ts rest → starts (place_begins h) ts ≡ true
  unfolding Inner simple_places.Inner
  inner_begins Hole.expression x ts rest d = holes.inner_begins source n simple_places.Hole.expression x ts rest d
  inner_begins Hole.arguments x ts rest d = holes.inner_begins source n simple_places.Hole.arguments x ts rest d
  inner_begins Hole.written x ts rest d = holes.inner_begins source n simple_places.Hole.written x ts rest d
  inner_begins Hole.statement x ts rest d = (stmt_laws_at source n).begins x ts rest d

  -- it takes a token
  pub inner_shorter : (h : Hole) (x : Filled h) (ts rest : List Lexeme) → Inner source n h x ts rest → length rest < length ts
  unfolding Inner simple_places.Inner
  inner_shorter Hole.expression x ts rest d = holes.inner_shorter source n simple_places.Hole.expression x ts rest d
  inner_shorter Hole.arguments x ts rest d = holes.inner_shorter source n simple_places.Hole.arguments x ts rest d
  inner_shorter Hole.written x ts rest d = holes.inner_shorter source n simple_places.Hole.written x ts rest d
  inner_shorter Hole.statement x ts rest d = (stmt_laws_at source n).shorter x ts rest d

  -- it closes each bracket and each block that it opens
  pub inner_balanced : (h : Hole) → Balanced (Inner source n h)
  unfolding Inner simple_places.Inner
  inner_balanced Hole.expression x ts rest d l k r = holes.inner_balanced source n simple_places.Hole.expression x ts rest d l k r
  inner_balanced Hole.arguments x ts rest d l k r = holes.inner_balanced source n simple_places.Hole.arguments x ts rest d l k r
  inner_balanced Hole.written x ts rest d l k r = holes.inner_balanced source n simple_places.Hole.written x ts rest d l k r
  inner_balanced Hole.statement x ts rest d l k r = stmt_balanced source n x ts rest d l k r

  -- where a reader at a place was given too few brackets and blocks, so many are open but one
  pub inner_deep : (h : Hole) (ts : List Lexeme) → inner source n h ts ≡ Err fault.TooDeep → (k : ℕ) → Reaches (n - 1 + k) k ts
  unfolding inner simple_places.inner
  inner_deep Hole.expression ts e k = lower_limit (n + k) (n - 1 + k) k ts (omega arith) (holes.inner_deep source n simple_places.Hole.expression ts e k)
  inner_deep Hole.arguments ts e k = lower_limit (n + k) (n - 1 + k) k ts (omega arith) (holes.inner_deep source n simple_places.Hole.arguments ts e k)
  inner_deep Hole.written ts e k = lower_limit (n + k) (n - 1 + k) k ts (omega arith) (holes.inner_deep source n simple_places.Hole.written ts e k)
  inner_deep Hole.statement ts e k = stmt_deep source n ts e k

-- a reader of more brackets and blocks reads the same at each place
pub inner_agrees : (source : List ℕ) (n m : ℕ) → n ≤ m → (h : Hole) (ts : List Lexeme) → Agree (inner source n h ts) (inner source m h ts)
unfolding inner simple_places.inner
inner_agrees source n m le Hole.expression ts = holes.inner_agrees source n m le simple_places.Hole.expression ts
inner_agrees source n m le Hole.arguments ts = holes.inner_agrees source n m le simple_places.Hole.arguments ts
inner_agrees source n m le Hole.written ts = holes.inner_agrees source n m le simple_places.Hole.written ts
inner_agrees source n m le Hole.statement ts = stmt_agrees source n m le ts

-- each place counts as if it was in a bracket
abbrev pub anywhere : Hole → Bool
anywhere h = true

-- what a grammar over these places owes to what holds it: its reader reads it where none of the last words stands
-- after it, it begins with one of the first words, and it takes a token
pub record PartLaws {A : Type 0} (source : List ℕ) (n : ℕ) (g : Of A) (fs ms : List Terminal) : Type 0 where
  pub completes : (x : A) (ts rest : List Lexeme) → Says source n g x ts rest → starts ms rest ≡ false → part source n g ts ≡ Ok (x, rest)
  pub begins : (x : A) (ts rest : List Lexeme) → Says source n g x ts rest → starts fs ts ≡ true
  pub shorter : (x : A) (ts rest : List Lexeme) → Says source n g x ts rest → length rest < length ts

module _ (source : List ℕ) (n : ℕ) where
  -- what is asked of a grammar that goes on with what depends on what was read
  abbrev pub NamesAt : {A : Type 0} → Of A → Type 0
  NamesAt g = Names source (inner source n) (Inner source n) place_begins place_goes_on (inner_completes source n) (inner_begins source n) (inner_shorter source n) g

  -- the reader of a grammar reads what the grammar says
  abbrev pub GoodAt : {A : Type 0} → Of A → Type 0
  GoodAt g = Good source (inner source n) (Inner source n) place_begins place_goes_on (inner_completes source n) (inner_begins source n) (inner_shorter source n) g

  -- a part keeps within these words
  abbrev pub WithinAt : {A : Type 0} → List Terminal → List Terminal → Of A → Type 0
  WithinAt fs ms g = Within source (inner source n) (Inner source n) place_begins place_goes_on (inner_completes source n) (inner_begins source n) (inner_shorter source n) fs ms g

  -- a grammar that passes the test is read
  pub part_good : {A : Type 0} (g : Of A) → test place_begins place_goes_on g ≡ true → NamesAt g → GoodAt g
  part_good g e names = good source (inner source n) (Inner source n) place_begins place_goes_on (inner_completes source n) (inner_begins source n) (inner_shorter source n) g e names

  -- what is read by a grammar, it says
  pub part_sound : {A : Type 0} (g : Of A) (ts : List Lexeme) (x : A) (rest : List Lexeme) → part source n g ts ≡ Ok (x, rest) → Says source n g x ts rest
  part_sound g ts x rest e = sound source (inner source n) (Inner source n) (inner_sound source n) g false ts x rest e

  -- the laws of a grammar that is not empty, with sets of words that hold its own
  pub part_laws : {A : Type 0} (g : Of A) (fs ms : List Terminal) → GoodAt g → nullable g ≡ false → is_within (first place_begins place_goes_on g) fs ≡ true → is_within (more place_begins place_goes_on g) ms ≡ true → PartLaws source n g fs ms
  part_laws g fs ms fine full firsts mores = record {
    completes = λ x ts rest d stop. fine.completes false x ts rest d (within_stops (more place_begins place_goes_on g) ms rest mores stop);
    begins = λ x ts rest d. elim (fine.begins x ts rest d) [
      | inl e ↦ within_starts (first place_begins place_goes_on g) fs ts firsts e
      | inr e ↦ let other : nullable g ≡ true = e.0 in absurd cc
    ];
    shorter = λ x ts rest d. lengths.shorter source (Inner source n) (inner_shorter source n) g x ts rest full d;
  }

  -- a phrase closes each bracket and each block that it opens
  pub part_balanced : {A : Type 0} (g : Of A) → Tame anywhere g → Balanced (Says source n g)
  part_balanced g tame x ts rest d l k r = balanced source (Inner source n) anywhere (inner_balanced source n) g tame x ts rest d l k r

-- where a reader was given too few brackets and blocks, so many are open but one
pub part_deep : {A : Type 0} (source : List ℕ) (n : ℕ) (g : Of A) → Tame anywhere g → guarded anywhere g ≡ true → (ts : List Lexeme) → part source n g ts ≡ Err fault.TooDeep → (k : ℕ) → Reaches (n - 1 + k) k ts
part_deep source zero g tame whole ts e k = Reaches.here (omega arith)
part_deep source (suc zero) g tame whole ts e k = Reaches.here (omega arith)
part_deep source (suc (suc m)) g tame whole ts e k =
    let one : bonus (guarded anywhere g) ≡ 1 = ap bonus whole in
    lower_limit (m + bonus (guarded anywhere g) + k) (suc (suc m) - 1 + k) k ts (omega arith)
    (deep source (inner source (suc (suc m))) (Inner source (suc (suc m))) (inner_sound source (suc (suc m))) anywhere (inner_balanced source (suc (suc m))) m
    (λ h us d j. lower_limit (suc (suc m) - 1 + j) (m + 1 + j) j us (omega arith) (inner_deep source (suc (suc m)) h us d j)) g tame false ts e k)

-- a reader of more brackets and blocks reads the same
pub part_agrees : {A : Type 0} (source : List ℕ) (n m : ℕ) → n ≤ m → (g : Of A) (ts : List Lexeme) → Agree (part source n g ts) (part source m g ts)
part_agrees source n m le g ts = agrees source (inner source n) (inner source m) (inner_agrees source n m le) g false ts
