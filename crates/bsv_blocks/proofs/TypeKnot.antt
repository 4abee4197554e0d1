-- The laws of types, at each number of brackets; and types at different numbers of brackets.
use Rattle.std.proofs.Common.{◌≡◌, inl, inr, ℕ, zero, suc, ◌+◌, ◌<◌, ◌≤◌, Bool, true, false, List, [], ◌∷◌, length, Ok, Err, refl, ap, arith}
use Rattle.bsv_ast.specs.declared.types.WrittenType.{WrittenType}
use Rattle.bsv_lex.specs.declared.terminal.Terminal.{Terminal}
use Rattle.bsv_lex.specs.declared.terminal.Terminal.TheVariants as word
use Rattle.bsv_expr.specs.declared.lexeme.Lexeme.{Lexeme}
use Rattle.bsv_expr.specs.declared.fault.ReadFault.TheVariants as fault
use Rattle.bsv_expr.specs.Lexemes.{same_terminal, starts}
use Rattle.bsv_expr.specs.Brackets.{Reaches}
use Rattle.bsv_expr.proofs.Ahead.{nullable, first, more, test, guarded, Tame}
use Rattle.bsv_expr.proofs.Sound.{sound}
use Rattle.bsv_expr.proofs.Sets.{within_starts, within_stops}
use Rattle.bsv_expr.proofs.Shorter.{shorter}
use Rattle.bsv_expr.proofs.Complete.{Good, Names, good}
use Rattle.bsv_expr.proofs.Agrees.{Agree, agrees}
use Rattle.bsv_expr.proofs.Closing.{Balanced, balanced, bonus, lower_limit}
use Rattle.bsv_expr.proofs.Deeper.{deep}
use Rattle.bsv_blocks.specs.Types as grammar
use Rattle.bsv_blocks.specs.Types.{IsType, written, outer, type_first}

-- the words that go on after a type
unfoldable pub type_more : List Terminal
type_more = word.Hash ∷ []

abbrev begins_by : Unit {0} → List Terminal
begins_by h = type_first

abbrev goes_on_by : Unit {0} → List Terminal
goes_on_by h = type_more

-- what is read is a type
pub written_sound : (source : List ℕ) (n : ℕ) (ts : List Lexeme) (x : WrittenType) (rest : List Lexeme) → written source n ts ≡ Ok (x, rest) → IsType source n x ts rest
unfolding written IsType
written_sound source zero ts x rest e = absurd cc
written_sound source (suc n) ts x rest e = sound source (λ h. written source n) (λ h. IsType source n) (λ h us y vs d. written_sound source n us y vs d) outer false ts x rest e

-- what one level of brackets owes to the next
pub record TypeLaws (source : List ℕ) (n : ℕ) : Type 0 where
  pub completes : (x : WrittenType) (ts rest : List Lexeme) → IsType source n x ts rest → starts type_more rest ≡ false → written source n ts ≡ Ok (x, rest)
  pub begins : (x : WrittenType) (ts rest : List Lexeme) → IsType source n x ts rest → starts type_first ts ≡ true
  pub shorter : (x : WrittenType) (ts rest : List Lexeme) → IsType source n x ts rest → length rest < length ts

outer_good : (source : List ℕ) (n : ℕ) (laws : TypeLaws source n) → Good source (λ h. written source n) (λ h. IsType source n) begins_by goes_on_by (λ h. laws.completes) (λ h. laws.begins) (λ h. laws.shorter) outer
unfolding Names test first more nullable outer grammar.applied grammar.argument type_first type_more same_terminal
outer_good source n laws = good source (λ h. written source n) (λ h. IsType source n) begins_by goes_on_by (λ h. laws.completes) (λ h. laws.begins) (λ h. laws.shorter) outer refl (tt, (tt, (tt, (tt, tt))))

next_completes : (source : List ℕ) (n : ℕ) → TypeLaws source n → (x : WrittenType) (ts rest : List Lexeme) → IsType source (suc n) x ts rest → starts type_more rest ≡ false → written source (suc n) ts ≡ Ok (x, rest)
unfolding written IsType more nullable outer grammar.applied grammar.argument type_first type_more same_terminal
next_completes source n laws x ts rest d stop = (outer_good source n laws).completes false x ts rest d (within_stops (more begins_by goes_on_by outer) type_more rest refl stop)

next_begins : (source : List ℕ) (n : ℕ) → TypeLaws source n → (x : WrittenType) (ts rest : List Lexeme) → IsType source (suc n) x ts rest → starts type_first ts ≡ true
unfolding IsType first nullable outer grammar.applied grammar.argument type_first same_terminal
next_begins source n laws x ts rest d =
    elim ((outer_good source n laws).begins x ts rest d) [
      | inl e ↦ within_starts (first begins_by goes_on_by outer) type_first ts refl e
      | inr e ↦ let never : false ≡ true = e.0 in absurd cc
    ]

next_shorter : (source : List ℕ) (n : ℕ) → TypeLaws source n → (x : WrittenType) (ts rest : List Lexeme) → IsType source (suc n) x ts rest → length rest < length ts
unfolding IsType nullable outer
next_shorter source n laws x ts rest d = shorter source (λ h. IsType source n) (λ h. laws.shorter) outer x ts rest refl d

-- the reader of types reads each type, a type begins with its words and takes a token, at each number of brackets
pub type_laws_at : (source : List ℕ) (n : ℕ) → TypeLaws source n
unfolding IsType
type_laws_at source zero = record { completes = λ x ts rest d stop. absurd d; begins = λ x ts rest d. absurd d; shorter = λ x ts rest d. absurd d }
type_laws_at source (suc n) =
    let laws = type_laws_at source n in
    record { completes = next_completes source n laws; begins = next_begins source n laws; shorter = next_shorter source n laws }

-- the type in the brackets of another one
abbrev inside : Unit {0} → Bool
inside h = false

outer_tame : Tame inside outer
unfolding Tame outer grammar.applied grammar.argument same_terminal
outer_tame = (refl, (refl, (refl, (refl, (refl, tt)))))

outer_guarded : guarded inside outer ≡ true
unfolding guarded outer grammar.applied
outer_guarded = refl

-- a type closes each bracket that it opens
pub written_balanced : (source : List ℕ) (n : ℕ) → Balanced (IsType source n)
unfolding IsType
written_balanced source zero x ts rest d l k r = absurd d
written_balanced source (suc n) x ts rest d l k r = balanced source (λ h. IsType source n) inside (λ h. written_balanced source n) outer outer_tame x ts rest d l k r

-- where the reader was given too few brackets, so many are open
pub written_deep : (source : List ℕ) (n : ℕ) (ts : List Lexeme) → written source n ts ≡ Err fault.TooDeep → (k : ℕ) → Reaches (n + k) k ts
unfolding written
written_deep source zero ts e k = Reaches.here (omega arith)
written_deep source (suc n) ts e k =
    let one : bonus (guarded inside outer) ≡ 1 = ap bonus outer_guarded in
    lower_limit (n + bonus (guarded inside outer) + k) (suc n + k) k ts (omega arith)
    (deep source (λ h. written source n) (λ h. IsType source n) (λ h us y vs d. written_sound source n us y vs d) inside (λ h. written_balanced source n) n
    (λ h us d j. lower_limit (n + j) (n + 0 + j) j us (omega arith) (written_deep source n us d j)) outer outer_tame false ts e k)

-- a reader of more brackets reads the same
pub written_agrees : (source : List ℕ) (n m : ℕ) → n ≤ m → (ts : List Lexeme) → Agree (written source n ts) (written source m ts)
unfolding written
written_agrees source zero m le ts = inl refl
written_agrees source (suc n) zero le ts = absurd (omega arith)
written_agrees source (suc n) (suc m) le ts = agrees source (λ h. written source n) (λ h. written source m) (λ h us. written_agrees source n m (omega arith) us) outer false ts
