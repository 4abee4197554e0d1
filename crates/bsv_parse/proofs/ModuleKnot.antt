-- The laws of the statements of a module and of modules, at each number of blocks and brackets; and both at different
-- numbers of them.
use Rattle.std.proofs.Common.{◌≡◌, inl, inr, ℕ, zero, suc, ◌+◌, ◌-◌, ◌<◌, ◌≤◌, Bool, true, false, List, [], ◌∷◌, length, Ok, Err, refl, ap, arith}
use Rattle.bsv_ast.specs.declared.modules.ModuleStmt.{ModuleStmt}
use Rattle.bsv_ast.specs.declared.modules.Module.{Module}
use Rattle.bsv_lex.specs.declared.terminal.Terminal.{Terminal}
use Rattle.bsv_lex.specs.declared.terminal.Terminal.TheVariants as word
use Rattle.bsv_expr.specs.declared.lexeme.Lexeme.{Lexeme}
use Rattle.bsv_expr.specs.declared.fault.ReadFault.TheVariants as fault
use Rattle.bsv_expr.specs.Lexemes.{same_terminal, starts}
use Rattle.bsv_expr.specs.Grammar.{Phrase}
use Rattle.bsv_expr.specs.Reading.{Read}
use Rattle.bsv_expr.specs.Brackets.{Reaches}
use Rattle.bsv_expr.proofs.Ahead.{nullable, first, more, test, guarded, Tame}
use Rattle.bsv_expr.proofs.Sound.{sound}
use Rattle.bsv_expr.proofs.Sets.{within_starts, within_stops}
use Rattle.bsv_expr.proofs.Shorter.{shorter}
use Rattle.bsv_expr.proofs.Complete.{Good, Within, Names, good}
use Rattle.bsv_expr.proofs.Agrees.{Agree, agrees}
use Rattle.bsv_expr.proofs.Closing.{Balanced, balanced, bonus, lower_limit}
use Rattle.bsv_expr.proofs.Deeper.{deep}
use Rattle.bsv_blocks.specs.Types.{type_first}
use Rattle.bsv_blocks.specs.Simple as simple_grammar
use Rattle.bsv_parse.specs.Definitions as definitions
use Rattle.bsv_parse.specs.Modules as grammar
use Rattle.bsv_parse.specs.Modules.{Nested, Filled, Of, Inner, inner, IsModuleStmt, mstmt, within, IsModule, mstmt_first, mstmts, mstmt_body, ModuleFront, module_front, module_after, module_whole}
use Rattle.bsv_blocks.proofs.SimpleLaws.{says_sound, says_balanced, says_deep, says_agrees, head_laws, head_tame, head_guarded}
use Rattle.bsv_parse.proofs.PlaceLaws.{part_sound, part_balanced, part_deep, part_agrees}
use Rattle.bsv_parse.proofs.DefinitionLaws.{simple_first, simple_laws, simple_tame, simple_guarded, rule_laws, rule_tame, rule_guarded, method_laws, method_tame, method_guarded, asked_laws, asked_tame, asked_guarded, module_head_laws, module_head_tame, module_head_guarded}

-- the words that go on after a statement of a module
unfoldable pub mstmt_more : List Terminal
mstmt_more = word.Else ∷ word.Colon ∷ []

-- the words with which what is at a place begins
abbrev pub place_begins : Nested → List Terminal
place_begins Nested.simple = simple_first
place_begins Nested.rule = word.OpenAttribute ∷ word.Rule ∷ []
place_begins Nested.method = word.Method ∷ []
place_begins Nested.condition = word.OpenParen ∷ []
place_begins Nested.head = word.For ∷ []
place_begins Nested.heading = word.OpenAttribute ∷ word.Module ∷ []
place_begins Nested.statement = mstmt_first

-- the words that go on after it
abbrev pub place_goes_on : Nested → List Terminal
place_goes_on Nested.simple = []
place_goes_on Nested.rule = word.Colon ∷ []
place_goes_on Nested.method = word.Colon ∷ []
place_goes_on Nested.condition = []
place_goes_on Nested.head = []
place_goes_on Nested.heading = []
place_goes_on Nested.statement = mstmt_more

-- each place but that of a statement in a block counts as if it was in a bracket
abbrev pub outside : Nested → Bool
outside Nested.simple = true
outside Nested.rule = true
outside Nested.method = true
outside Nested.condition = true
outside Nested.head = true
outside Nested.heading = true
outside Nested.statement = false

-- what is read at a place is there
pub place_sound : (source : List ℕ) (n : ℕ) (Block : Phrase ModuleStmt) (blocks : List Lexeme → Read ModuleStmt) → ((ts : List Lexeme) (x : ModuleStmt) (rest : List Lexeme) → blocks ts ≡ Ok (x, rest) → Block x ts rest)
    → (h : Nested) (ts : List Lexeme) (x : Filled h) (rest : List Lexeme) → inner source n blocks h ts ≡ Ok (x, rest) → Inner source n Block h x ts rest
unfolding inner Inner
place_sound source n Block blocks below Nested.simple ts x rest e = part_sound source n definitions.simple ts x rest e
place_sound source n Block blocks below Nested.rule ts x rest e = part_sound source n definitions.rule ts x rest e
place_sound source n Block blocks below Nested.method ts x rest e = part_sound source n definitions.method ts x rest e
place_sound source n Block blocks below Nested.condition ts x rest e = part_sound source n definitions.asked ts x rest e
place_sound source n Block blocks below Nested.head ts x rest e = says_sound source n simple_grammar.head ts x rest e
place_sound source n Block blocks below Nested.heading ts x rest e = part_sound source n definitions.module_head ts x rest e
place_sound source n Block blocks below Nested.statement ts x rest e = below ts x rest e

-- what is read is a statement of a module
pub mstmt_sound : (source : List ℕ) (n : ℕ) (ts : List Lexeme) (x : ModuleStmt) (rest : List Lexeme) → mstmt source n ts ≡ Ok (x, rest) → IsModuleStmt source n x ts rest
unfolding mstmt IsModuleStmt
mstmt_sound source zero ts x rest e = absurd cc
mstmt_sound source (suc n) ts x rest e =
    sound source (inner source n (mstmt source n)) (Inner source n (IsModuleStmt source n)) (place_sound source n (IsModuleStmt source n) (mstmt source n) (λ us y vs d. mstmt_sound source n us y vs d)) mstmt_body false ts x rest e

-- what one level of blocks owes to the next
pub record MstmtLaws (source : List ℕ) (n : ℕ) : Type 0 where
  pub completes : (x : ModuleStmt) (ts rest : List Lexeme) → IsModuleStmt source n x ts rest → starts mstmt_more rest ≡ false → mstmt source n ts ≡ Ok (x, rest)
  pub begins : (x : ModuleStmt) (ts rest : List Lexeme) → IsModuleStmt source n x ts rest → starts mstmt_first ts ≡ true
  pub shorter : (x : ModuleStmt) (ts rest : List Lexeme) → IsModuleStmt source n x ts rest → length rest < length ts

module _ (source : List ℕ) (n : ℕ) (laws : MstmtLaws source n) where
  -- the reader at a place reads what is there
  pub place_completes : (h : Nested) (x : Filled h) (ts rest : List Lexeme) → Inner source n (IsModuleStmt source n) h x ts rest → starts (place_goes_on h) rest ≡ false → inner source n (mstmt source n) h ts ≡ Ok (x, rest)
  unfolding inner Inner
  place_completes Nested.simple x ts rest d stop = (simple_laws source n).completes x ts rest d stop
  place_completes Nested.rule x ts rest d stop = (rule_laws source n).completes x ts rest d stop
  place_completes Nested.method x ts rest d stop = (method_laws source n).completes x ts rest d stop
  place_completes Nested.condition x ts rest d stop = (asked_laws source n).completes x ts rest d stop
  place_completes Nested.head x ts rest d stop = (head_laws source n).completes x ts rest d stop
  place_completes Nested.heading x ts rest d stop = (module_head_laws source n).completes x ts rest d stop
  place_completes Nested.statement x ts rest d stop = laws.completes x ts rest d stop

  -- what is at a place begins with one of its words
  pub place_starts : (h : Nested) (x : Filled h) (ts rest : List Lexeme) → Inner source n (IsModuleStmt source n) h x ts rest → starts (place_begins h) ts ≡ true
  unfolding Inner
  place_starts Nested.simple x ts rest d = (simple_laws source n).begins x ts rest d
  place_starts Nested.rule x ts rest d = (rule_laws source n).begins x ts rest d
  place_starts Nested.method x ts rest d = (method_laws source n).begins x ts rest d
  place_starts Nested.condition x ts rest d = (asked_laws source n).begins x ts rest d
  place_starts Nested.head x ts rest d = (head_laws source n).begins x ts rest d
  place_starts Nested.heading x ts rest d = (module_head_laws source n).begins x ts rest d
  place_starts Nested.statement x ts rest d = laws.begins x ts rest d

  -- it takes a token
  pub place_shorter : (h : Nested) (x : Filled h) (ts rest : List Lexeme) → Inner source n (IsModuleStmt source n) h x ts rest → length rest < length ts
  unfolding Inner
  place_shorter Nested.simple x ts rest d = (simple_laws source n).shorter x ts rest d
  place_shorter Nested.rule x ts rest d = (rule_laws source n).shorter x ts rest d
  place_shorter Nested.method x ts rest d = (method_laws source n).shorter x ts rest d
  place_shorter Nested.condition x ts rest d = (asked_laws source n).shorter x ts rest d
  place_shorter Nested.head x ts rest d = (head_laws source n).shorter x ts rest d
  place_shorter Nested.heading x ts rest d = (module_head_laws source n).shorter x ts rest d
  place_shorter Nested.statement x ts rest d = laws.shorter x ts rest d

  abbrev names_of : {A : Type 0} → Of A → Type 0
  names_of g = Names source (inner source n (mstmt source n)) (Inner source n (IsModuleStmt source n)) place_begins place_goes_on place_completes place_starts place_shorter g

  abbrev good_of : {A : Type 0} → Of A → Type 0
  good_of g = Good source (inner source n (mstmt source n)) (Inner source n (IsModuleStmt source n)) place_begins place_goes_on place_completes place_starts place_shorter g

  abbrev within_of : {A : Type 0} → List Terminal → List Terminal → Of A → Type 0
  within_of fs ms g = Within source (inner source n (mstmt source n)) (Inner source n (IsModuleStmt source n)) place_begins place_goes_on place_completes place_starts place_shorter fs ms g

  is_good : {A : Type 0} (g : Of A) → test place_begins place_goes_on g ≡ true → names_of g → good_of g
  is_good g e names = good source (inner source n (mstmt source n)) (Inner source n (IsModuleStmt source n)) place_begins place_goes_on place_completes place_starts place_shorter g e names

  arm_named : names_of grammar.arm
  unfolding Names grammar.arm grammar.block grammar.nested mstmts grammar.ruled
  arm_named = ((tt, tt), (tt, tt))

  branch_named : names_of grammar.branch
  unfolding Names grammar.branch
  branch_named = (tt, (tt, arm_named))

  if_named : names_of grammar.if_stmt
  unfolding Names grammar.if_stmt grammar.branches grammar.else_part
  if_named = (branch_named, (tt, (branch_named, arm_named)))

  arm_or_if_named : names_of grammar.arm_or_if
  unfolding Names grammar.arm_or_if
  arm_or_if_named = (if_named, arm_named)

  for_named : names_of grammar.for_stmt
  unfolding Names grammar.for_stmt grammar.for_body grammar.inner_for
  for_named = (tt, ((tt, arm_or_if_named), arm_or_if_named))

  body_named : names_of mstmt_body
  unfolding Names mstmt_body grammar.methodical
  body_named = (if_named, (for_named, (tt, arm_named)))

  -- the reader of a statement of a module reads what the grammar says
  pub body_good : good_of mstmt_body
  unfolding test first more nullable grammar.nested mstmts grammar.block grammar.ruled grammar.arm grammar.branch grammar.else_part grammar.branches grammar.if_stmt grammar.arm_or_if grammar.inner_for grammar.for_body grammar.for_stmt grammar.methodical mstmt_body type_first simple_first mstmt_first mstmt_more same_terminal
  body_good = is_good mstmt_body refl body_named

  module_after_within : (front : ModuleFront) → within_of (word.Colon ∷ []) (word.Colon ∷ []) (module_after front)
  unfolding test first more nullable Names same_terminal
  module_after_within ((attributes, (start, (name, (params, interface)))), (found, close)) =
      record { firsts = refl; mores = refl; good = is_good (module_after ((attributes, (start, (name, (params, interface)))), (found, close))) refl (tt, tt) }

  module_named : names_of module_whole
  unfolding Names module_whole module_front grammar.nested mstmts
  module_named = ((tt, ((tt, (tt, tt)), tt)), module_after_within)

  -- and that of a module
  pub module_good : good_of module_whole
  unfolding test first more nullable module_whole module_front grammar.nested mstmts mstmt_first mstmt_more same_terminal
  module_good = is_good module_whole refl module_named

next_completes : (source : List ℕ) (n : ℕ) → MstmtLaws source n → (x : ModuleStmt) (ts rest : List Lexeme) → IsModuleStmt source (suc n) x ts rest → starts mstmt_more rest ≡ false → mstmt source (suc n) ts ≡ Ok (x, rest)
unfolding mstmt IsModuleStmt first more nullable grammar.nested mstmts grammar.block grammar.ruled grammar.arm grammar.branch grammar.else_part grammar.branches grammar.if_stmt grammar.arm_or_if grammar.inner_for grammar.for_body grammar.for_stmt grammar.methodical mstmt_body type_first simple_first mstmt_first mstmt_more same_terminal
next_completes source n laws x ts rest d stop = (body_good source n laws).completes false x ts rest d (within_stops (more place_begins place_goes_on mstmt_body) mstmt_more rest refl stop)

next_begins : (source : List ℕ) (n : ℕ) → MstmtLaws source n → (x : ModuleStmt) (ts rest : List Lexeme) → IsModuleStmt source (suc n) x ts rest → starts mstmt_first ts ≡ true
unfolding IsModuleStmt first more nullable grammar.nested mstmts grammar.block grammar.ruled grammar.arm grammar.branch grammar.else_part grammar.branches grammar.if_stmt grammar.arm_or_if grammar.inner_for grammar.for_body grammar.for_stmt grammar.methodical mstmt_body type_first simple_first mstmt_first mstmt_more same_terminal
next_begins source n laws x ts rest d =
    elim ((body_good source n laws).begins x ts rest d) [
      | inl e ↦ within_starts (first place_begins place_goes_on mstmt_body) mstmt_first ts refl e
      | inr e ↦ let never : false ≡ true = e.0 in absurd cc
    ]

next_shorter : (source : List ℕ) (n : ℕ) → MstmtLaws source n → (x : ModuleStmt) (ts rest : List Lexeme) → IsModuleStmt source (suc n) x ts rest → length rest < length ts
unfolding IsModuleStmt nullable grammar.nested mstmts grammar.block grammar.ruled grammar.arm grammar.branch grammar.else_part grammar.branches grammar.if_stmt grammar.arm_or_if grammar.inner_for grammar.for_body grammar.for_stmt grammar.methodical mstmt_body
next_shorter source n laws x ts rest d = shorter source (Inner source n (IsModuleStmt source n)) (place_shorter source n laws) mstmt_body x ts rest refl d

-- the reader of statements of a module reads each of them, one begins with its words and takes a token, at each number of blocks
pub mstmt_laws_at : (source : List ℕ) (n : ℕ) → MstmtLaws source n
unfolding IsModuleStmt
mstmt_laws_at source zero = record { completes = λ x ts rest d stop. absurd d; begins = λ x ts rest d. absurd d; shorter = λ x ts rest d. absurd d }
mstmt_laws_at source (suc n) =
    let laws = mstmt_laws_at source n in
    record { completes = next_completes source n laws; begins = next_begins source n laws; shorter = next_shorter source n laws }

-- brackets and blocks are opened and closed in pairs
abbrev Tamed : {A : Type 0} → Of A → Type 0
Tamed g = Tame outside g

mstmts_tame : Tamed mstmts
unfolding Tame grammar.nested mstmts
mstmts_tame = (tt, tt)

arm_tame : Tamed grammar.arm
unfolding Tame grammar.arm grammar.block grammar.ruled same_terminal
arm_tame = ((refl, mstmts_tame), (tt, tt))

branch_tame : Tamed grammar.branch
unfolding Tame grammar.branch same_terminal
branch_tame = (refl, (tt, arm_tame))

if_tame : Tamed grammar.if_stmt
unfolding Tame grammar.if_stmt grammar.branches grammar.else_part same_terminal
if_tame = (branch_tame, (refl, (branch_tame, arm_tame)))

arm_or_if_tame : Tamed grammar.arm_or_if
unfolding Tame grammar.arm_or_if
arm_or_if_tame = (if_tame, arm_tame)

for_tame : Tamed grammar.for_stmt
unfolding Tame grammar.for_stmt grammar.for_body grammar.inner_for
for_tame = (tt, ((tt, arm_or_if_tame), arm_or_if_tame))

-- a statement of a module opens and closes them in pairs
pub mstmt_body_tame : Tamed mstmt_body
unfolding Tame mstmt_body grammar.methodical
mstmt_body_tame = (if_tame, (for_tame, (tt, arm_tame)))

-- a statement in a block is between `begin` and `end`
pub mstmt_body_guarded : guarded outside mstmt_body ≡ true
unfolding guarded grammar.nested mstmts grammar.block grammar.ruled grammar.arm grammar.branch grammar.else_part grammar.branches grammar.if_stmt grammar.arm_or_if grammar.inner_for grammar.for_body grammar.for_stmt grammar.methodical mstmt_body
mstmt_body_guarded = refl

module_after_tame : (front : ModuleFront) → (guarded outside (module_after front) ≡ true) × Tamed (module_after front)
unfolding Tame guarded same_terminal
module_after_tame ((attributes, (start, (name, (params, interface)))), (found, close)) = (refl, (refl, refl))

-- so does a module
pub module_tame : Tamed module_whole
unfolding Tame module_whole module_front same_terminal
module_tame = ((tt, ((refl, mstmts_tame), refl)), module_after_tame)

-- what is at a place closes each bracket that it opens
pub place_balanced : (source : List ℕ) (n : ℕ) (Block : Phrase ModuleStmt) → Balanced Block → (h : Nested) → Balanced (Inner source n Block h)
unfolding Inner
place_balanced source n Block below Nested.simple x ts rest d l k r = part_balanced source n definitions.simple simple_tame x ts rest d l k r
place_balanced source n Block below Nested.rule x ts rest d l k r = part_balanced source n definitions.rule rule_tame x ts rest d l k r
place_balanced source n Block below Nested.method x ts rest d l k r = part_balanced source n definitions.method method_tame x ts rest d l k r
place_balanced source n Block below Nested.condition x ts rest d l k r = part_balanced source n definitions.asked asked_tame x ts rest d l k r
place_balanced source n Block below Nested.head x ts rest d l k r = says_balanced source n simple_grammar.head head_tame x ts rest d l k r
place_balanced source n Block below Nested.heading x ts rest d l k r = part_balanced source n definitions.module_head module_head_tame x ts rest d l k r
place_balanced source n Block below Nested.statement x ts rest d l k r = below x ts rest d l k r

-- a statement of a module closes each bracket and each block that it opens
pub mstmt_balanced : (source : List ℕ) (n : ℕ) → Balanced (IsModuleStmt source n)
unfolding IsModuleStmt
mstmt_balanced source zero x ts rest d l k r = absurd d
mstmt_balanced source (suc n) x ts rest d l k r = balanced source (Inner source n (IsModuleStmt source n)) outside (place_balanced source n (IsModuleStmt source n) (mstmt_balanced source n)) mstmt_body mstmt_body_tame x ts rest d l k r

-- where a reader at a place was given too few brackets and blocks, so many are open, and one fewer in a block
pub place_deep : (source : List ℕ) (p : ℕ) (blocks : List Lexeme → Read ModuleStmt) → ((ts : List Lexeme) → blocks ts ≡ Err fault.TooDeep → (k : ℕ) → Reaches (p + k) k ts)
    → (h : Nested) (ts : List Lexeme) → inner source (suc (suc p)) blocks h ts ≡ Err fault.TooDeep → (k : ℕ) → Reaches (p + bonus (outside h) + k) k ts
unfolding inner
place_deep source p blocks below Nested.simple ts e k = lower_limit (suc (suc p) - 1 + k) (p + 1 + k) k ts (omega arith) (part_deep source (suc (suc p)) definitions.simple simple_tame simple_guarded ts e k)
place_deep source p blocks below Nested.rule ts e k = lower_limit (suc (suc p) - 1 + k) (p + 1 + k) k ts (omega arith) (part_deep source (suc (suc p)) definitions.rule rule_tame rule_guarded ts e k)
place_deep source p blocks below Nested.method ts e k = lower_limit (suc (suc p) - 1 + k) (p + 1 + k) k ts (omega arith) (part_deep source (suc (suc p)) definitions.method method_tame method_guarded ts e k)
place_deep source p blocks below Nested.condition ts e k = lower_limit (suc (suc p) - 1 + k) (p + 1 + k) k ts (omega arith) (part_deep source (suc (suc p)) definitions.asked asked_tame asked_guarded ts e k)
place_deep source p blocks below Nested.head ts e k = lower_limit (suc (suc p) + k) (p + 1 + k) k ts (omega arith) (says_deep source (suc (suc p)) simple_grammar.head head_tame head_guarded ts e k)
place_deep source p blocks below Nested.heading ts e k = lower_limit (suc (suc p) - 1 + k) (p + 1 + k) k ts (omega arith) (part_deep source (suc (suc p)) definitions.module_head module_head_tame module_head_guarded ts e k)
place_deep source p blocks below Nested.statement ts e k = lower_limit (p + k) (p + 0 + k) k ts (omega arith) (below ts e k)

-- where the reader of a part was given too few brackets and blocks, so many are open, and one more if each block in it is in a bracket
pub within_deep : {A : Type 0} (source : List ℕ) (p : ℕ) → ((ts : List Lexeme) → mstmt source (suc (suc p)) ts ≡ Err fault.TooDeep → (k : ℕ) → Reaches (p + k) k ts)
    → (g : Of A) → Tamed g → (ts : List Lexeme) → within source (suc (suc p)) g ts ≡ Err fault.TooDeep → (k : ℕ) → Reaches (p + bonus (guarded outside g) + k) k ts
within_deep source p below g tame ts e k =
    deep source (inner source (suc (suc p)) (mstmt source (suc (suc p)))) (Inner source (suc (suc p)) (IsModuleStmt source (suc (suc p)))) (place_sound source (suc (suc p)) (IsModuleStmt source (suc (suc p))) (mstmt source (suc (suc p))) (mstmt_sound source (suc (suc p))))
    outside (place_balanced source (suc (suc p)) (IsModuleStmt source (suc (suc p))) (mstmt_balanced source (suc (suc p)))) p (place_deep source p (mstmt source (suc (suc p))) below) g tame false ts e k

-- where the reader was given too few brackets and blocks, so many are open but two: the outermost statement of a module
-- is in no block, and neither does the outermost statement in a rule or a method
pub mstmt_deep : (source : List ℕ) (n : ℕ) (ts : List Lexeme) → mstmt source n ts ≡ Err fault.TooDeep → (k : ℕ) → Reaches (n - 2 + k) k ts
unfolding mstmt
mstmt_deep source zero ts e k = Reaches.here (omega arith)
mstmt_deep source (suc zero) ts e k = Reaches.here (omega arith)
mstmt_deep source (suc (suc zero)) ts e k = Reaches.here (omega arith)
mstmt_deep source (suc (suc (suc p))) ts e k =
    let one : bonus (guarded outside mstmt_body) ≡ 1 = ap bonus mstmt_body_guarded in
    lower_limit (p + bonus (guarded outside mstmt_body) + k) (suc (suc (suc p)) - 2 + k) k ts (omega arith)
    (within_deep source p (λ us d j. lower_limit (suc (suc p) - 2 + j) (p + j) j us (omega arith) (mstmt_deep source (suc (suc p)) us d j)) mstmt_body mstmt_body_tame ts e k)

-- readers at a place agree where those of blocks do
pub place_agrees : (source : List ℕ) (n m : ℕ) → n ≤ m → (blocks others : List Lexeme → Read ModuleStmt) → ((ts : List Lexeme) → Agree (blocks ts) (others ts)) → (h : Nested) (ts : List Lexeme) → Agree (inner source n blocks h ts) (inner source m others h ts)
unfolding inner
place_agrees source n m le blocks others below Nested.simple ts = part_agrees source n m le definitions.simple ts
place_agrees source n m le blocks others below Nested.rule ts = part_agrees source n m le definitions.rule ts
place_agrees source n m le blocks others below Nested.method ts = part_agrees source n m le definitions.method ts
place_agrees source n m le blocks others below Nested.condition ts = part_agrees source n m le definitions.asked ts
place_agrees source n m le blocks others below Nested.head ts = says_agrees source n m le simple_grammar.head ts
place_agrees source n m le blocks others below Nested.heading ts = part_agrees source n m le definitions.module_head ts
place_agrees source n m le blocks others below Nested.statement ts = below ts

-- a reader of more brackets and blocks reads the same
pub mstmt_agrees : (source : List ℕ) (n m : ℕ) → n ≤ m → (ts : List Lexeme) → Agree (mstmt source n ts) (mstmt source m ts)
unfolding mstmt
mstmt_agrees source zero m le ts = inl refl
mstmt_agrees source (suc n) zero le ts = absurd (omega arith)
mstmt_agrees source (suc n) (suc m) le ts =
    agrees source (inner source n (mstmt source n)) (inner source m (mstmt source m)) (place_agrees source n m (omega arith) (mstmt source n) (mstmt source m) (λ us. mstmt_agrees source n m (omega arith) us)) mstmt_body false ts

-- Modules.

-- what is read is a module
pub module_sound : (source : List ℕ) (n : ℕ) (ts : List Lexeme) (x : Module) (rest : List Lexeme) → within source n module_whole ts ≡ Ok (x, rest) → IsModule source n x ts rest
module_sound source n ts x rest e =
    sound source (inner source n (mstmt source n)) (Inner source n (IsModuleStmt source n)) (place_sound source n (IsModuleStmt source n) (mstmt source n) (mstmt_sound source n)) module_whole false ts x rest e

-- the reader of modules reads each module
pub module_completes : (source : List ℕ) (n : ℕ) (x : Module) (ts rest : List Lexeme) → IsModule source n x ts rest → starts (word.Colon ∷ []) rest ≡ false → within source n module_whole ts ≡ Ok (x, rest)
unfolding more module_whole
module_completes source n x ts rest d stop = (module_good source n (mstmt_laws_at source n)).completes false x ts rest d stop

-- a module begins with an attribute or its word
pub module_begins : (source : List ℕ) (n : ℕ) (x : Module) (ts rest : List Lexeme) → IsModule source n x ts rest → starts (word.OpenAttribute ∷ word.Module ∷ []) ts ≡ true
unfolding first nullable module_whole module_front
module_begins source n x ts rest d =
    elim ((module_good source n (mstmt_laws_at source n)).begins x ts rest d) [
      | inl e ↦ e
      | inr e ↦ let never : false ≡ true = e.0 in absurd cc
    ]

-- it takes a token
pub module_shorter : (source : List ℕ) (n : ℕ) (x : Module) (ts rest : List Lexeme) → IsModule source n x ts rest → length rest < length ts
unfolding nullable module_whole module_front
module_shorter source n x ts rest d = shorter source (Inner source n (IsModuleStmt source n)) (place_shorter source n (mstmt_laws_at source n)) module_whole x ts rest refl d

-- it closes each bracket and each block that it opens
pub module_balanced : (source : List ℕ) (n : ℕ) → Balanced (IsModule source n)
module_balanced source n x ts rest d l k r = balanced source (Inner source n (IsModuleStmt source n)) outside (place_balanced source n (IsModuleStmt source n) (mstmt_balanced source n)) module_whole module_tame x ts rest d l k r

-- where the reader of modules was given too few brackets and blocks, so many are open but two
pub module_deep : (source : List ℕ) (n : ℕ) (ts : List Lexeme) → within source n module_whole ts ≡ Err fault.TooDeep → (k : ℕ) → Reaches (n - 2 + k) k ts
module_deep source zero ts e k = Reaches.here (omega arith)
module_deep source (suc zero) ts e k = Reaches.here (omega arith)
module_deep source (suc (suc p)) ts e k =
    lower_limit (p + bonus (guarded outside module_whole) + k) (suc (suc p) - 2 + k) k ts (omega arith)
    (within_deep source p (λ us d j. lower_limit (suc (suc p) - 2 + j) (p + j) j us (omega arith) (mstmt_deep source (suc (suc p)) us d j)) module_whole module_tame ts e k)

-- a reader of more brackets and blocks reads the same module
pub module_agrees : (source : List ℕ) (n m : ℕ) → n ≤ m → (ts : List Lexeme) → Agree (within source n module_whole ts) (within source m module_whole ts)
module_agrees source n m le ts = agrees source (inner source n (mstmt source n)) (inner source m (mstmt source m)) (place_agrees source n m le (mstmt source n) (mstmt source m) (mstmt_agrees source n m le)) module_whole false ts
