-- The laws of statements, at each number of blocks and brackets; and statements at different numbers of them.
use Rattle.std.proofs.Common.{◌≡◌, ◌⊎◌, inl, inr, ℕ, zero, suc, ◌+◌, ◌-◌, ◌<◌, ◌≤◌, Bool, true, false, List, [], ◌∷◌, ◌++◌, length, Ok, Err, refl, ap, arith}
use Rattle.bsv_ast.specs.declared.statements.Stmt.{Stmt}
use Rattle.bsv_lex.specs.declared.terminal.Terminal.{Terminal}
use Rattle.bsv_lex.specs.declared.terminal.Terminal.TheVariants as word
use Rattle.bsv_expr.specs.declared.lexeme.Lexeme.{Lexeme}
use Rattle.bsv_expr.specs.declared.fault.ReadFault.TheVariants as fault
use Rattle.bsv_expr.specs.Lexemes.{same_terminal, starts}
use Rattle.bsv_expr.specs.Grammar.{Grammar, Phrase, Means}
use Rattle.bsv_expr.specs.Reading.{Read}
use Rattle.bsv_expr.specs.Brackets.{Reaches}
use Rattle.bsv_expr.specs.Expressions.{expression_first, expression_more, more_of, levels, words_of}
use Rattle.bsv_expr.proofs.Ahead.{nullable, first, more, test, guarded, Tame}
use Rattle.bsv_expr.proofs.Sound.{sound}
use Rattle.bsv_expr.proofs.Sets.{within_starts, within_stops}
use Rattle.bsv_expr.proofs.Shorter.{shorter, no_longer}
use Rattle.bsv_expr.proofs.Complete.{Good, Names, good}
use Rattle.bsv_expr.proofs.Agrees.{Agree, agrees}
use Rattle.bsv_expr.proofs.Closing.{Balanced, balanced, bonus, lower_limit}
use Rattle.bsv_expr.proofs.Deeper.{deep}
use Rattle.bsv_blocks.specs.Types.{type_first}
use Rattle.bsv_blocks.specs.Holes.{Hole}
use Rattle.bsv_blocks.specs.Simple as simple_grammar
use Rattle.bsv_blocks.specs.Statements as grammar
use Rattle.bsv_blocks.specs.Statements.{Nested, Filled, Of, Inner, inner, IsStmt, stmt, within, stmt_first, stmts, stmt_body}
use Rattle.bsv_blocks.proofs.SimpleLaws.{says_sound, says_balanced, says_deep, says_agrees, simple_first, simple_more, condition_more, simple_laws, condition_laws, head_laws, labels_laws, subject_laws, simple_tame, simple_guarded, condition_tame, condition_guarded, head_tame, head_guarded, place_tame, place_guarded}

-- the words that go on after a statement
unfoldable pub stmt_more : List Terminal
stmt_more = word.Else ∷ simple_more

-- the words with which what is at a place begins
abbrev pub place_begins : Nested → List Terminal
place_begins Nested.simple = simple_first
place_begins Nested.condition = expression_first
place_begins Nested.head = word.For ∷ []
place_begins Nested.labels = expression_first
place_begins Nested.subject = expression_first
place_begins Nested.statement = stmt_first

-- the words that go on after it
abbrev pub place_goes_on : Nested → List Terminal
place_goes_on Nested.simple = simple_more
place_goes_on Nested.condition = condition_more
place_goes_on Nested.head = []
place_goes_on Nested.labels = word.Comma ∷ expression_more
place_goes_on Nested.subject = expression_more
place_goes_on Nested.statement = stmt_more

-- each place but that of a statement in a block counts as if it was in a bracket
abbrev pub outside : Nested → Bool
outside Nested.simple = true
outside Nested.condition = true
outside Nested.head = true
outside Nested.labels = true
outside Nested.subject = true
outside Nested.statement = false

-- what is read at a place is there
pub place_sound : (source : List ℕ) (n : ℕ) (Block : Phrase Stmt) (blocks : List Lexeme → Read Stmt) → ((ts : List Lexeme) (x : Stmt) (rest : List Lexeme) → blocks ts ≡ Ok (x, rest) → Block x ts rest)
    → (h : Nested) (ts : List Lexeme) (x : Filled h) (rest : List Lexeme) → inner source n blocks h ts ≡ Ok (x, rest) → Inner source n Block h x ts rest
unfolding inner Inner
place_sound source n Block blocks below Nested.simple ts x rest e = says_sound source n simple_grammar.simple ts x rest e
place_sound source n Block blocks below Nested.condition ts x rest e = says_sound source n simple_grammar.condition ts x rest e
place_sound source n Block blocks below Nested.head ts x rest e = says_sound source n simple_grammar.head ts x rest e
place_sound source n Block blocks below Nested.labels ts x rest e = says_sound source n (Grammar.hole Hole.expressions) ts x rest e
place_sound source n Block blocks below Nested.subject ts x rest e = says_sound source n (Grammar.hole Hole.expression) ts x rest e
place_sound source n Block blocks below Nested.statement ts x rest e = below ts x rest e

-- what is read is a statement
pub stmt_sound : (source : List ℕ) (n : ℕ) (ts : List Lexeme) (x : Stmt) (rest : List Lexeme) → stmt source n ts ≡ Ok (x, rest) → IsStmt source n x ts rest
unfolding stmt IsStmt
stmt_sound source zero ts x rest e = absurd cc
stmt_sound source (suc n) ts x rest e =
    sound source (inner source n (stmt source n)) (Inner source n (IsStmt source n)) (place_sound source n (IsStmt source n) (stmt source n) (λ us y vs d. stmt_sound source n us y vs d)) stmt_body false ts x rest e

-- what one level of blocks owes to the next
pub record StmtLaws (source : List ℕ) (n : ℕ) : Type 0 where
  pub completes : (x : Stmt) (ts rest : List Lexeme) → IsStmt source n x ts rest → starts stmt_more rest ≡ false → stmt source n ts ≡ Ok (x, rest)
  pub begins : (x : Stmt) (ts rest : List Lexeme) → IsStmt source n x ts rest → starts stmt_first ts ≡ true
  pub shorter : (x : Stmt) (ts rest : List Lexeme) → IsStmt source n x ts rest → length rest < length ts

-- a part of a statement in whose blocks and brackets fewer than so many are open
abbrev pub Part : {A : Type 0} → List ℕ → ℕ → Of A → Phrase A
Part source n g = Means source (Inner source n (IsStmt source n)) g

module _ (source : List ℕ) (n : ℕ) (laws : StmtLaws source n) where
  -- the reader at a place reads what is there
  pub place_completes : (h : Nested) (x : Filled h) (ts rest : List Lexeme) → Inner source n (IsStmt source n) h x ts rest → starts (place_goes_on h) rest ≡ false → inner source n (stmt source n) h ts ≡ Ok (x, rest)
  unfolding inner Inner
  place_completes Nested.simple x ts rest d stop = (simple_laws source n).completes x ts rest d stop
  place_completes Nested.condition x ts rest d stop = (condition_laws source n).completes x ts rest d stop
  place_completes Nested.head x ts rest d stop = (head_laws source n).completes x ts rest d stop
  place_completes Nested.labels x ts rest d stop = (labels_laws source n).completes x ts rest d stop
  place_completes Nested.subject x ts rest d stop = (subject_laws source n).completes x ts rest d stop
  place_completes Nested.statement x ts rest d stop = laws.completes x ts rest d stop

  -- what is at a place begins with one of its words
  pub place_starts : (h : Nested) (x : Filled h) (ts rest : List Lexeme) → Inner source n (IsStmt source n) h x ts rest → starts (place_begins h) ts ≡ true
  unfolding Inner
  place_starts Nested.simple x ts rest d = (simple_laws source n).begins x ts rest d
  place_starts Nested.condition x ts rest d = (condition_laws source n).begins x ts rest d
  place_starts Nested.head x ts rest d = (head_laws source n).begins x ts rest d
  place_starts Nested.labels x ts rest d = (labels_laws source n).begins x ts rest d
  place_starts Nested.subject x ts rest d = (subject_laws source n).begins x ts rest d
  place_starts Nested.statement x ts rest d = laws.begins x ts rest d

  -- it takes a token
  pub place_shorter : (h : Nested) (x : Filled h) (ts rest : List Lexeme) → Inner source n (IsStmt source n) h x ts rest → length rest < length ts
  unfolding Inner
  place_shorter Nested.simple x ts rest d = (simple_laws source n).shorter x ts rest d
  place_shorter Nested.condition x ts rest d = (condition_laws source n).shorter x ts rest d
  place_shorter Nested.head x ts rest d = (head_laws source n).shorter x ts rest d
  place_shorter Nested.labels x ts rest d = (labels_laws source n).shorter x ts rest d
  place_shorter Nested.subject x ts rest d = (subject_laws source n).shorter x ts rest d
  place_shorter Nested.statement x ts rest d = laws.shorter x ts rest d

  abbrev names_of : {A : Type 0} → Of A → Type 0
  names_of g = Names source (inner source n (stmt source n)) (Inner source n (IsStmt source n)) place_begins place_goes_on place_completes place_starts place_shorter g

  abbrev good_of : {A : Type 0} → Of A → Type 0
  good_of g = Good source (inner source n (stmt source n)) (Inner source n (IsStmt source n)) place_begins place_goes_on place_completes place_starts place_shorter g

  is_good : {A : Type 0} (g : Of A) → test place_begins place_goes_on g ≡ true → names_of g → good_of g
  is_good g e names = good source (inner source n (stmt source n)) (Inner source n (IsStmt source n)) place_begins place_goes_on place_completes place_starts place_shorter g e names

  block_named : names_of grammar.block
  unfolding Names grammar.block stmts
  block_named = (tt, tt)

  arm_named : names_of grammar.arm
  unfolding Names grammar.arm
  arm_named = (block_named, tt)

  branch_named : names_of grammar.branch
  unfolding Names grammar.branch
  branch_named = (tt, (tt, arm_named))

  if_named : names_of grammar.if_stmt
  unfolding Names grammar.if_stmt grammar.branches grammar.else_part
  if_named = (branch_named, (tt, (branch_named, arm_named)))

  arm_or_if_named : names_of grammar.arm_or_if
  unfolding Names grammar.arm_or_if
  arm_or_if_named = (if_named, arm_named)

  for_named : names_of grammar.for_stmt
  unfolding Names grammar.for_stmt grammar.for_body grammar.inner_for
  for_named = (tt, ((tt, arm_or_if_named), arm_or_if_named))

  case_named : names_of grammar.case_stmt
  unfolding Names grammar.case_stmt grammar.case_inside grammar.case_arms grammar.case_arm grammar.default_arm
  case_named = (tt, ((tt, (tt, (tt, arm_or_if_named))), (tt, (tt, arm_or_if_named))))

  body_named : names_of stmt_body
  unfolding Names stmt_body
  body_named = (if_named, (for_named, (case_named, arm_named)))

  body_good : good_of stmt_body
  unfolding test first more nullable stmts grammar.block grammar.arm grammar.branch grammar.else_part grammar.branches grammar.if_stmt grammar.arm_or_if grammar.inner_for grammar.for_body grammar.for_stmt grammar.case_arm grammar.case_arms grammar.default_arm grammar.case_inside grammar.case_stmt stmt_body simple_first simple_more condition_more type_first stmt_first stmt_more expression_first expression_more more_of levels words_of same_terminal
  body_good = is_good stmt_body refl body_named

  -- the reader of statements reads what their grammar says
  pub many_good : good_of stmts
  unfolding Names test first more nullable stmts simple_first simple_more condition_more type_first stmt_first stmt_more expression_first expression_more more_of levels words_of same_terminal
  many_good = is_good stmts refl (tt, tt)

next_completes : (source : List ℕ) (n : ℕ) → StmtLaws source n → (x : Stmt) (ts rest : List Lexeme) → IsStmt source (suc n) x ts rest → starts stmt_more rest ≡ false → stmt source (suc n) ts ≡ Ok (x, rest)
unfolding stmt IsStmt first more nullable stmts grammar.block grammar.arm grammar.branch grammar.else_part grammar.branches grammar.if_stmt grammar.arm_or_if grammar.inner_for grammar.for_body grammar.for_stmt grammar.case_arm grammar.case_arms grammar.default_arm grammar.case_inside grammar.case_stmt stmt_body simple_first simple_more condition_more type_first stmt_first stmt_more expression_first expression_more more_of levels words_of same_terminal
next_completes source n laws x ts rest d stop = (body_good source n laws).completes false x ts rest d (within_stops (more place_begins place_goes_on stmt_body) stmt_more rest refl stop)

next_begins : (source : List ℕ) (n : ℕ) → StmtLaws source n → (x : Stmt) (ts rest : List Lexeme) → IsStmt source (suc n) x ts rest → starts stmt_first ts ≡ true
unfolding IsStmt first more nullable stmts grammar.block grammar.arm grammar.branch grammar.else_part grammar.branches grammar.if_stmt grammar.arm_or_if grammar.inner_for grammar.for_body grammar.for_stmt grammar.case_arm grammar.case_arms grammar.default_arm grammar.case_inside grammar.case_stmt stmt_body simple_first simple_more condition_more type_first stmt_first stmt_more expression_first expression_more more_of levels words_of same_terminal
next_begins source n laws x ts rest d =
    elim ((body_good source n laws).begins x ts rest d) [
      | inl e ↦ within_starts (first place_begins place_goes_on stmt_body) stmt_first ts refl e
      | inr e ↦ let never : false ≡ true = e.0 in absurd cc
    ]

next_shorter : (source : List ℕ) (n : ℕ) → StmtLaws source n → (x : Stmt) (ts rest : List Lexeme) → IsStmt source (suc n) x ts rest → length rest < length ts
unfolding IsStmt nullable stmts grammar.block grammar.arm grammar.branch grammar.else_part grammar.branches grammar.if_stmt grammar.arm_or_if grammar.inner_for grammar.for_body grammar.for_stmt grammar.case_arm grammar.case_arms grammar.default_arm grammar.case_inside grammar.case_stmt stmt_body
next_shorter source n laws x ts rest d = shorter source (Inner source n (IsStmt source n)) (place_shorter source n laws) stmt_body x ts rest refl d

-- the reader of statements reads each statement, a statement begins with its words and takes a token, at each number of blocks
pub stmt_laws_at : (source : List ℕ) (n : ℕ) → StmtLaws source n
unfolding IsStmt
stmt_laws_at source zero = record { completes = λ x ts rest d stop. absurd d; begins = λ x ts rest d. absurd d; shorter = λ x ts rest d. absurd d }
stmt_laws_at source (suc n) =
    let laws = stmt_laws_at source n in
    record { completes = next_completes source n laws; begins = next_begins source n laws; shorter = next_shorter source n laws }

-- brackets and blocks are opened and closed in pairs
abbrev pub Tamed : {A : Type 0} → Of A → Type 0
Tamed g = Tame outside g

-- in statements they are
pub stmts_tame : Tamed stmts
unfolding Tame stmts
stmts_tame = (tt, tt)

arm_tame : Tamed grammar.arm
unfolding Tame grammar.arm grammar.block same_terminal
arm_tame = ((refl, stmts_tame), tt)

branch_tame : Tamed grammar.branch
unfolding Tame grammar.branch same_terminal
branch_tame = (refl, ((refl, tt), arm_tame))

if_tame : Tamed grammar.if_stmt
unfolding Tame grammar.if_stmt grammar.branches grammar.else_part same_terminal
if_tame = (branch_tame, (refl, (branch_tame, arm_tame)))

arm_or_if_tame : Tamed grammar.arm_or_if
unfolding Tame grammar.arm_or_if
arm_or_if_tame = (if_tame, arm_tame)

for_tame : Tamed grammar.for_stmt
unfolding Tame grammar.for_stmt grammar.for_body grammar.inner_for
for_tame = (tt, ((tt, arm_or_if_tame), arm_or_if_tame))

case_tame : Tamed grammar.case_stmt
unfolding Tame grammar.case_stmt grammar.case_inside grammar.case_arms grammar.case_arm grammar.default_arm same_terminal
case_tame = (refl, ((refl, tt), ((tt, (tt, (refl, arm_or_if_tame))), (refl, (refl, arm_or_if_tame)))))

-- in one statement they are
pub stmt_body_tame : Tamed stmt_body
unfolding Tame stmt_body
stmt_body_tame = (if_tame, (for_tame, (case_tame, arm_tame)))

-- a statement in a block is between `begin` and `end`
pub stmt_body_guarded : guarded outside stmt_body ≡ true
unfolding guarded stmts grammar.block grammar.arm grammar.branch grammar.else_part grammar.branches grammar.if_stmt grammar.arm_or_if grammar.inner_for grammar.for_body grammar.for_stmt grammar.case_arm grammar.case_arms grammar.default_arm grammar.case_inside grammar.case_stmt stmt_body
stmt_body_guarded = refl

-- what is at a place closes each bracket that it opens
pub place_balanced : (source : List ℕ) (n : ℕ) (Block : Phrase Stmt) → Balanced Block → (h : Nested) → Balanced (Inner source n Block h)
unfolding Inner
place_balanced source n Block below Nested.simple x ts rest d l k r = says_balanced source n simple_grammar.simple simple_tame x ts rest d l k r
place_balanced source n Block below Nested.condition x ts rest d l k r = says_balanced source n simple_grammar.condition condition_tame x ts rest d l k r
place_balanced source n Block below Nested.head x ts rest d l k r = says_balanced source n simple_grammar.head head_tame x ts rest d l k r
place_balanced source n Block below Nested.labels x ts rest d l k r = says_balanced source n (Grammar.hole Hole.expressions) (place_tame Hole.expressions) x ts rest d l k r
place_balanced source n Block below Nested.subject x ts rest d l k r = says_balanced source n (Grammar.hole Hole.expression) (place_tame Hole.expression) x ts rest d l k r
place_balanced source n Block below Nested.statement x ts rest d l k r = below x ts rest d l k r

-- a statement closes each bracket and each block that it opens
pub stmt_balanced : (source : List ℕ) (n : ℕ) → Balanced (IsStmt source n)
unfolding IsStmt
stmt_balanced source zero x ts rest d l k r = absurd d
stmt_balanced source (suc n) x ts rest d l k r = balanced source (Inner source n (IsStmt source n)) outside (place_balanced source n (IsStmt source n) (stmt_balanced source n)) stmt_body stmt_body_tame x ts rest d l k r

-- where a reader at a place was given too few brackets, so many are open, and one fewer in a block
pub place_deep : (source : List ℕ) (p : ℕ) (blocks : List Lexeme → Read Stmt) → ((ts : List Lexeme) → blocks ts ≡ Err fault.TooDeep → (k : ℕ) → Reaches (p + k) k ts)
    → (h : Nested) (ts : List Lexeme) → inner source (suc p) blocks h ts ≡ Err fault.TooDeep → (k : ℕ) → Reaches (p + bonus (outside h) + k) k ts
unfolding inner
place_deep source p blocks below Nested.simple ts e k = lower_limit (suc p + k) (p + 1 + k) k ts (omega arith) (says_deep source (suc p) simple_grammar.simple simple_tame simple_guarded ts e k)
place_deep source p blocks below Nested.condition ts e k = lower_limit (suc p + k) (p + 1 + k) k ts (omega arith) (says_deep source (suc p) simple_grammar.condition condition_tame condition_guarded ts e k)
place_deep source p blocks below Nested.head ts e k = lower_limit (suc p + k) (p + 1 + k) k ts (omega arith) (says_deep source (suc p) simple_grammar.head head_tame head_guarded ts e k)
place_deep source p blocks below Nested.labels ts e k = lower_limit (suc p + k) (p + 1 + k) k ts (omega arith) (says_deep source (suc p) (Grammar.hole Hole.expressions) (place_tame Hole.expressions) (place_guarded Hole.expressions) ts e k)
place_deep source p blocks below Nested.subject ts e k = lower_limit (suc p + k) (p + 1 + k) k ts (omega arith) (says_deep source (suc p) (Grammar.hole Hole.expression) (place_tame Hole.expression) (place_guarded Hole.expression) ts e k)
place_deep source p blocks below Nested.statement ts e k = lower_limit (p + k) (p + 0 + k) k ts (omega arith) (below ts e k)

-- where the reader of a part was given too few brackets, so many are open, and one more if each block in it is in a bracket
pub within_deep : {A : Type 0} (source : List ℕ) (p : ℕ) → ((ts : List Lexeme) → stmt source (suc p) ts ≡ Err fault.TooDeep → (k : ℕ) → Reaches (p + k) k ts)
    → (g : Of A) → Tamed g → (ts : List Lexeme) → within source (suc p) g ts ≡ Err fault.TooDeep → (k : ℕ) → Reaches (p + bonus (guarded outside g) + k) k ts
within_deep source p below g tame ts e k =
    deep source (inner source (suc p) (stmt source (suc p))) (Inner source (suc p) (IsStmt source (suc p))) (place_sound source (suc p) (IsStmt source (suc p)) (stmt source (suc p)) (stmt_sound source (suc p)))
    outside (place_balanced source (suc p) (IsStmt source (suc p)) (stmt_balanced source (suc p))) p (place_deep source p (stmt source (suc p)) below) g tame false ts e k

-- where the reader was given too few brackets and blocks, so many are open but one: the outermost statement is in no block
pub stmt_deep : (source : List ℕ) (n : ℕ) (ts : List Lexeme) → stmt source n ts ≡ Err fault.TooDeep → (k : ℕ) → Reaches (n - 1 + k) k ts
unfolding stmt
stmt_deep source zero ts e k = Reaches.here (omega arith)
stmt_deep source (suc zero) ts e k = Reaches.here (omega arith)
stmt_deep source (suc (suc p)) ts e k =
    let one : bonus (guarded outside stmt_body) ≡ 1 = ap bonus stmt_body_guarded in
    lower_limit (p + bonus (guarded outside stmt_body) + k) (suc (suc p) - 1 + k) k ts (omega arith)
    (within_deep source p (λ us d j. lower_limit (suc p - 1 + j) (p + j) j us (omega arith) (stmt_deep source (suc p) us d j)) stmt_body stmt_body_tame ts e k)

-- readers at a place agree where those of blocks do
pub place_agrees : (source : List ℕ) (n m : ℕ) → n ≤ m → (blocks others : List Lexeme → Read Stmt) → ((ts : List Lexeme) → Agree (blocks ts) (others ts)) → (h : Nested) (ts : List Lexeme) → Agree (inner source n blocks h ts) (inner source m others h ts)
unfolding inner
place_agrees source n m le blocks others below Nested.simple ts = says_agrees source n m le simple_grammar.simple ts
place_agrees source n m le blocks others below Nested.condition ts = says_agrees source n m le simple_grammar.condition ts
place_agrees source n m le blocks others below Nested.head ts = says_agrees source n m le simple_grammar.head ts
place_agrees source n m le blocks others below Nested.labels ts = says_agrees source n m le (Grammar.hole Hole.expressions) ts
place_agrees source n m le blocks others below Nested.subject ts = says_agrees source n m le (Grammar.hole Hole.expression) ts
place_agrees source n m le blocks others below Nested.statement ts = below ts

-- a reader of more brackets and blocks reads the same
pub stmt_agrees : (source : List ℕ) (n m : ℕ) → n ≤ m → (ts : List Lexeme) → Agree (stmt source n ts) (stmt source m ts)
unfolding stmt
stmt_agrees source zero m le ts = inl refl
stmt_agrees source (suc n) zero le ts = absurd (omega arith)
stmt_agrees source (suc n) (suc m) le ts =
    agrees source (inner source n (stmt source n)) (inner source m (stmt source m)) (place_agrees source n m (omega arith) (stmt source n) (stmt source m) (λ us. stmt_agrees source n m (omega arith) us)) stmt_body false ts

-- what is read is statements
pub stmts_sound : (source : List ℕ) (n : ℕ) (ts : List Lexeme) (x : List Stmt) (rest : List Lexeme) → within source n stmts ts ≡ Ok (x, rest) → Part source n stmts x ts rest
stmts_sound source n ts x rest e = sound source (inner source n (stmt source n)) (Inner source n (IsStmt source n)) (place_sound source n (IsStmt source n) (stmt source n) (stmt_sound source n)) stmts false ts x rest e

-- the words that go on after statements
unfoldable pub stmts_more : List Terminal
stmts_more = stmt_first ++ stmt_more

-- the reader of statements reads all of them
pub stmts_complete : (source : List ℕ) (n : ℕ) (x : List Stmt) (ts rest : List Lexeme) → Part source n stmts x ts rest → starts stmts_more rest ≡ false → within source n stmts ts ≡ Ok (x, rest)
unfolding more nullable stmts stmts_more simple_first simple_more condition_more type_first stmt_first stmt_more expression_first expression_more more_of levels words_of same_terminal
stmts_complete source n x ts rest d stop = (many_good source n (stmt_laws_at source n)).completes false x ts rest d (within_stops (more place_begins place_goes_on stmts) stmts_more rest refl stop)

-- statements are none, or begin with a word of theirs
pub stmts_begin : (source : List ℕ) (n : ℕ) (x : List Stmt) (ts rest : List Lexeme) → Part source n stmts x ts rest → (starts stmt_first ts ≡ true) ⊎ (ts ≡ rest)
unfolding first nullable stmts
stmts_begin source n x ts rest d =
    elim ((many_good source n (stmt_laws_at source n)).begins x ts rest d) [
      | inl e ↦ inl e
      | inr e ↦ inr e.1
    ]

-- statements take no token back
pub stmts_no_longer : (source : List ℕ) (n : ℕ) (x : List Stmt) (ts rest : List Lexeme) → Part source n stmts x ts rest → length rest ≤ length ts
stmts_no_longer source n x ts rest d = no_longer source (Inner source n (IsStmt source n)) (place_shorter source n (stmt_laws_at source n)) stmts x ts rest d

-- statements close each bracket and each block that they open
pub stmts_balanced : (source : List ℕ) (n : ℕ) → Balanced (Part source n stmts)
stmts_balanced source n x ts rest d l k r = balanced source (Inner source n (IsStmt source n)) outside (place_balanced source n (IsStmt source n) (stmt_balanced source n)) stmts stmts_tame x ts rest d l k r

-- where their reader was given too few brackets and blocks, so many are open but one
pub stmts_deep : (source : List ℕ) (n : ℕ) (ts : List Lexeme) → within source n stmts ts ≡ Err fault.TooDeep → (k : ℕ) → Reaches (n - 1 + k) k ts
stmts_deep source zero ts e k = Reaches.here (omega arith)
stmts_deep source (suc p) ts e k =
    lower_limit (p + bonus (guarded outside stmts) + k) (suc p - 1 + k) k ts (omega arith)
    (within_deep source p (λ us d j. lower_limit (suc p - 1 + j) (p + j) j us (omega arith) (stmt_deep source (suc p) us d j)) stmts stmts_tame ts e k)

-- a reader of more brackets and blocks reads the same statements
pub stmts_agree : (source : List ℕ) (n m : ℕ) → n ≤ m → (ts : List Lexeme) → Agree (within source n stmts ts) (within source m stmts ts)
stmts_agree source n m le ts = agrees source (inner source n (stmt source n)) (inner source m (stmt source m)) (place_agrees source n m le (stmt source n) (stmt source m) (stmt_agrees source n m le)) stmts false ts
