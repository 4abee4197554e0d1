-- The laws of what holds no statement, at each number of brackets: of any grammar over the places of Holes that passes
-- the tests, and of the statements that hold no other, of conditions and of the heads of loops.
use Rattle.std.proofs.Common.{◌≡◌, inl, inr, ℕ, zero, suc, ◌+◌, ◌<◌, ◌≤◌, Bool, true, false, List, [], ◌∷◌, length, Ok, Err, refl, ap, arith}
use Rattle.bsv_ast.specs.declared.text.Ident.{Ident}
use Rattle.bsv_ast.specs.declared.statements.Place.{Place}
use Rattle.bsv_ast.specs.declared.statements.Place.TheVariants as places
use Rattle.bsv_ast.specs.declared.statements.DeclaredType.{DeclaredType}
use Rattle.bsv_lex.specs.declared.terminal.Terminal.{Terminal}
use Rattle.bsv_lex.specs.declared.terminal.Terminal.TheVariants as word
use Rattle.bsv_expr.specs.declared.lexeme.Lexeme.{Lexeme}
use Rattle.bsv_expr.specs.declared.fault.ReadFault.TheVariants as fault
use Rattle.bsv_expr.specs.Lexemes.{same_terminal, starts, is_within}
use Rattle.bsv_expr.specs.Grammar.{Grammar, Means}
use Rattle.bsv_expr.specs.Reading.{read}
use Rattle.bsv_expr.specs.Brackets.{Reaches}
use Rattle.bsv_expr.specs.Expressions.{expression_first, expression_more, more_of, levels, words_of}
use Rattle.bsv_expr.proofs.Ahead.{nullable, first, more, test, guarded, Tame}
use Rattle.bsv_expr.proofs.Sound.{sound}
use Rattle.bsv_expr.proofs.Sets.{within_starts, within_stops}
use Rattle.bsv_expr.proofs.Shorter as lengths
use Rattle.bsv_expr.proofs.Complete.{Good, Within, Names, good}
use Rattle.bsv_expr.proofs.Agrees.{Agree, agrees}
use Rattle.bsv_expr.proofs.Closing.{Balanced, balanced, bonus, lower_limit}
use Rattle.bsv_expr.proofs.Deeper.{deep}
use Rattle.bsv_blocks.specs.Types.{type_first}
use Rattle.bsv_blocks.specs.Holes.{Hole, Filled, Of, Inner, inner, Says, part}
use Rattle.bsv_blocks.specs.Simple as grammar
use Rattle.bsv_blocks.specs.Simple.{simple, condition, head}
use Rattle.bsv_blocks.proofs.TypeKnot.{type_more}
use Rattle.bsv_blocks.proofs.HoleLaws.{hole_begins, hole_goes_on, inner_sound, inner_completes, inner_begins, inner_shorter, inner_balanced, inner_deep, inner_agrees}

-- each place counts as if it was in a bracket
abbrev pub anywhere : Hole → Bool
anywhere h = true

-- what a grammar over these places owes to what holds it: its reader reads it where none of the last words stands
-- after it, it begins with one of the first words, and it takes a token
pub record SaysLaws {A : Type 0} (source : List ℕ) (n : ℕ) (g : Of A) (fs ms : List Terminal) : Type 0 where
  pub completes : (x : A) (ts rest : List Lexeme) → Says source n g x ts rest → starts ms rest ≡ false → part source n g ts ≡ Ok (x, rest)
  pub begins : (x : A) (ts rest : List Lexeme) → Says source n g x ts rest → starts fs ts ≡ true
  pub shorter : (x : A) (ts rest : List Lexeme) → Says source n g x ts rest → length rest < length ts

module _ (source : List ℕ) (n : ℕ) where
  -- what is asked of a grammar that goes on with what depends on what was read
  abbrev pub NamesAt : {A : Type 0} → Of A → Type 0
  NamesAt g = Names source (inner source n) (Inner source n) hole_begins hole_goes_on (inner_completes source n) (inner_begins source n) (inner_shorter source n) g

  -- the reader of a grammar reads what the grammar says
  abbrev pub GoodAt : {A : Type 0} → Of A → Type 0
  GoodAt g = Good source (inner source n) (Inner source n) hole_begins hole_goes_on (inner_completes source n) (inner_begins source n) (inner_shorter source n) g

  -- a part keeps within these words
  abbrev pub WithinAt : {A : Type 0} → List Terminal → List Terminal → Of A → Type 0
  WithinAt fs ms g = Within source (inner source n) (Inner source n) hole_begins hole_goes_on (inner_completes source n) (inner_begins source n) (inner_shorter source n) fs ms g

  -- a grammar that passes the test is read
  pub says_good : {A : Type 0} (g : Of A) → test hole_begins hole_goes_on g ≡ true → NamesAt g → GoodAt g
  says_good g e names = good source (inner source n) (Inner source n) hole_begins hole_goes_on (inner_completes source n) (inner_begins source n) (inner_shorter source n) g e names

  -- what is read by a grammar, it says
  pub says_sound : {A : Type 0} (g : Of A) (ts : List Lexeme) (x : A) (rest : List Lexeme) → part source n g ts ≡ Ok (x, rest) → Says source n g x ts rest
  says_sound g ts x rest e = sound source (inner source n) (Inner source n) (inner_sound source n) g false ts x rest e

  -- the laws of a grammar that is not empty, with sets of words that hold its own
  pub says_laws : {A : Type 0} (g : Of A) (fs ms : List Terminal) → GoodAt g → nullable g ≡ false → is_within (first hole_begins hole_goes_on g) fs ≡ true → is_within (more hole_begins hole_goes_on g) ms ≡ true → SaysLaws source n g fs ms
  says_laws g fs ms fine full firsts mores = record {
    completes = λ x ts rest d stop. fine.completes false x ts rest d (within_stops (more hole_begins hole_goes_on g) ms rest mores stop);
    begins = λ x ts rest d. elim (fine.begins x ts rest d) [
      | inl e ↦ within_starts (first hole_begins hole_goes_on g) fs ts firsts e
      | inr e ↦ let other : nullable g ≡ true = e.0 in absurd cc
    ];
    shorter = λ x ts rest d. lengths.shorter source (Inner source n) (inner_shorter source n) g x ts rest full d;
  }

  -- a phrase closes each bracket that it opens
  pub says_balanced : {A : Type 0} (g : Of A) → Tame anywhere g → Balanced (Says source n g)
  says_balanced g tame x ts rest d l k r = balanced source (Inner source n) anywhere (inner_balanced source n) g tame x ts rest d l k r

-- where a reader was given too few brackets, so many are open
pub says_deep : {A : Type 0} (source : List ℕ) (n : ℕ) (g : Of A) → Tame anywhere g → guarded anywhere g ≡ true → (ts : List Lexeme) → part source n g ts ≡ Err fault.TooDeep → (k : ℕ) → Reaches (n + k) k ts
says_deep source zero g tame whole ts e k = Reaches.here (omega arith)
says_deep source (suc n) g tame whole ts e k =
    let one : bonus (guarded anywhere g) ≡ 1 = ap bonus whole in
    lower_limit (n + bonus (guarded anywhere g) + k) (suc n + k) k ts (omega arith)
    (deep source (inner source (suc n)) (Inner source (suc n)) (inner_sound source (suc n)) anywhere (inner_balanced source (suc n)) n
    (λ h us d j. lower_limit (suc n + j) (n + 1 + j) j us (omega arith) (inner_deep source (suc n) h us d j)) g tame false ts e k)

-- a reader of more brackets reads the same
pub says_agrees : {A : Type 0} (source : List ℕ) (n m : ℕ) → n ≤ m → (g : Of A) (ts : List Lexeme) → Agree (part source n g ts) (part source m g ts)
says_agrees source n m le g ts = agrees source (inner source n) (inner source m) (inner_agrees source n m le) g false ts

-- the words with which a statement begins that holds no other
unfoldable pub simple_first : List Terminal
simple_first = word.Lower ∷ word.Return ∷ word.NoAction ∷ word.Let ∷ type_first

-- the words that the test allows after one: it counts the index that may go on after a name
unfoldable pub simple_more : List Terminal
simple_more = word.OpenBracket ∷ []

-- the words that go on after a condition
unfoldable pub condition_more : List Terminal
condition_more = word.Matches ∷ expression_more

module _ (source : List ℕ) (n : ℕ) where
  assign_named : (p : Place) → NamesAt source n (grammar.assign p)
  unfolding Names grammar.assign grammar.ended
  assign_named (places.Name s name) = (tt, (tt, tt))
  assign_named (places.Index s name at) = tt

  used_named : (p : Place) → NamesAt source n (grammar.used p)
  unfolding Names grammar.used grammar.write grammar.ended grammar.call_end grammar.called grammar.optional_arguments
  used_named p = ((tt, (tt, tt)), (((tt, (tt, tt)), tt), assign_named p))

  used_within : (p : Place) → WithinAt source n (word.LessEqual ∷ word.Dot ∷ word.Equal ∷ []) (word.OpenBracket ∷ []) (grammar.used p)
  unfolding test first more nullable grammar.used grammar.write grammar.ended grammar.call_end grammar.called grammar.optional_arguments grammar.assign expression_first expression_more more_of levels words_of same_terminal
  used_within (places.Name s name) = record { firsts = refl; mores = refl; good = says_good source n (grammar.used (places.Name s name)) refl (used_named (places.Name s name)) }
  used_within (places.Index s name at) = record { firsts = refl; mores = refl; good = says_good source n (grammar.used (places.Index s name at)) refl (used_named (places.Index s name at)) }

  given_named : (d : DeclaredType × Ident) → NamesAt source n (grammar.given d)
  unfolding Names grammar.given grammar.bound grammar.call grammar.place grammar.index grammar.called grammar.optional_arguments grammar.ended
  given_named d = ((tt, (((tt, tt), (tt, (tt, tt))), tt)), (tt, (tt, tt)))

  given_within : (d : DeclaredType × Ident) → WithinAt source n (word.LeftArrow ∷ word.Equal ∷ []) [] (grammar.given d)
  unfolding test first more nullable grammar.given grammar.bound grammar.call grammar.place grammar.index grammar.called grammar.optional_arguments grammar.ended expression_first expression_more more_of levels words_of same_terminal
  given_within d = record { firsts = refl; mores = refl; good = says_good source n (grammar.given d) refl (given_named d) }

  simple_named : NamesAt source n simple
  unfolding Names simple grammar.name_led grammar.place grammar.index grammar.returned grammar.ended grammar.no_action grammar.type_led grammar.declared
  simple_named = (((tt, tt), used_within), ((tt, (tt, tt)), ((tt, tt), (((tt, tt), tt), given_within))))

  simple_good : GoodAt source n simple
  unfolding test first more nullable simple grammar.name_led grammar.place grammar.index grammar.returned grammar.ended grammar.no_action grammar.type_led grammar.declared type_first type_more expression_first expression_more more_of levels words_of same_terminal
  simple_good = says_good source n simple refl simple_named

  -- the laws of a statement that holds no other
  pub simple_laws : SaysLaws source n simple simple_first simple_more
  unfolding first more nullable simple grammar.name_led grammar.place grammar.index grammar.returned grammar.ended grammar.no_action grammar.type_led grammar.declared type_first type_more simple_first simple_more same_terminal
  simple_laws = says_laws source n simple simple_first simple_more simple_good refl refl refl

  condition_good : GoodAt source n condition
  unfolding test first more nullable Names condition grammar.matched expression_first expression_more more_of levels words_of same_terminal
  condition_good = says_good source n condition refl (tt, (tt, (tt, (tt, (tt, tt)))))

  -- the laws of a condition: after a whole one, `matches` or what goes on with an expression may go on
  pub condition_laws : SaysLaws source n condition expression_first condition_more
  unfolding first more nullable condition grammar.matched expression_first expression_more more_of levels words_of condition_more same_terminal
  condition_laws = says_laws source n condition expression_first condition_more condition_good refl refl refl

  head_good : GoodAt source n head
  unfolding test first more nullable Names head grammar.heading grammar.assignment expression_first expression_more more_of levels words_of same_terminal
  head_good = says_good source n head refl (tt, (tt, ((tt, (tt, tt)), (tt, (tt, (tt, (tt, (tt, tt))))))))

  -- the laws of the head of a loop: nothing goes on after one
  pub head_laws : SaysLaws source n head (word.For ∷ []) []
  unfolding first more nullable head grammar.heading grammar.assignment same_terminal
  head_laws = says_laws source n head (word.For ∷ []) [] head_good refl refl refl

  -- the laws of several expressions
  pub labels_laws : SaysLaws source n (Grammar.hole Hole.expressions) expression_first (word.Comma ∷ expression_more)
  unfolding read Means
  labels_laws = record { completes = inner_completes source n Hole.expressions; begins = inner_begins source n Hole.expressions; shorter = inner_shorter source n Hole.expressions }

  -- the laws of an expression
  pub subject_laws : SaysLaws source n (Grammar.hole Hole.expression) expression_first expression_more
  unfolding read Means
  subject_laws = record { completes = inner_completes source n Hole.expression; begins = inner_begins source n Hole.expression; shorter = inner_shorter source n Hole.expression }

assign_tame : (p : Place) → Tame anywhere (grammar.assign p)
unfolding Tame grammar.assign grammar.ended same_terminal
assign_tame (places.Name s name) = (refl, (tt, refl))
assign_tame (places.Index s name at) = refl

assign_guarded : (p : Place) → guarded anywhere (grammar.assign p) ≡ true
unfolding guarded grammar.assign grammar.ended
assign_guarded (places.Name s name) = refl
assign_guarded (places.Index s name at) = refl

used_tame : (p : Place) → (guarded anywhere (grammar.used p) ≡ true) × Tame anywhere (grammar.used p)
unfolding Tame guarded grammar.used grammar.write grammar.ended grammar.call_end grammar.called grammar.optional_arguments same_terminal
used_tame p = (rw (assign_guarded p) refl, ((refl, (tt, refl)), (((refl, (refl, tt)), refl), assign_tame p)))

given_tame : (d : DeclaredType × Ident) → (guarded anywhere (grammar.given d) ≡ true) × Tame anywhere (grammar.given d)
unfolding Tame guarded grammar.given grammar.bound grammar.call grammar.place grammar.index grammar.called grammar.optional_arguments grammar.ended same_terminal
given_tame d = (refl, ((refl, (((refl, (refl, tt)), (refl, (refl, tt))), refl)), (refl, (tt, refl))))

-- a statement that holds no other opens and closes brackets in pairs, and each part that depends on what was read is guarded
pub simple_tame : Tame anywhere simple
unfolding Tame simple grammar.name_led grammar.place grammar.index grammar.returned grammar.ended grammar.no_action grammar.type_led grammar.declared same_terminal
simple_tame = (((refl, (refl, tt)), used_tame), ((refl, (tt, refl)), ((refl, refl), (((refl, tt), refl), given_tame))))

-- each place in it counts as one in a bracket
pub simple_guarded : guarded anywhere simple ≡ true
unfolding guarded simple grammar.name_led grammar.place grammar.index grammar.returned grammar.ended grammar.no_action grammar.type_led grammar.declared
simple_guarded = refl

-- a condition opens and closes brackets in pairs
pub condition_tame : Tame anywhere condition
unfolding Tame condition grammar.matched same_terminal
condition_tame = (tt, (refl, (refl, (refl, (refl, refl)))))

-- each place in it counts as one in a bracket
pub condition_guarded : guarded anywhere condition ≡ true
unfolding guarded condition grammar.matched
condition_guarded = refl

-- the head of a loop opens and closes brackets in pairs
pub head_tame : Tame anywhere head
unfolding Tame head grammar.heading grammar.assignment same_terminal
head_tame = (refl, (refl, (refl, ((refl, (refl, tt)), (refl, (tt, (refl, (refl, (refl, tt)))))))))

-- each place in it counts as one in a bracket
pub head_guarded : guarded anywhere head ≡ true
unfolding guarded head grammar.heading grammar.assignment
head_guarded = refl

-- a grammar that is one place alone
abbrev pub at_place : (h : Hole) → Of (Filled h)
at_place h = Grammar.hole h

-- it opens no bracket of its own
pub place_tame : (h : Hole) → Tame anywhere (at_place h)
unfolding Tame
place_tame h = tt

-- its place counts as one in a bracket
pub place_guarded : (h : Hole) → guarded anywhere (at_place h) ≡ true
unfolding guarded
place_guarded h = refl
