-- The laws of definitions, at each number of brackets and blocks: the statements of a module that hold no other, rules,
-- methods, functions, conditions, the heads of modules, imports, types and interfaces.
use Rattle.std.proofs.Common.{◌≡◌, ℕ, true, List, [], ◌∷◌, ◌++◌, refl}
use Rattle.bsv_ast.specs.declared.text.Span.{Span}
use Rattle.bsv_ast.specs.declared.statements.Stmt.{Stmt}
use Rattle.bsv_lex.specs.declared.terminal.Terminal.{Terminal}
use Rattle.bsv_lex.specs.declared.terminal.Terminal.TheVariants as word
use Rattle.bsv_expr.specs.Lexemes.{same_terminal, is_apart}
use Rattle.bsv_expr.specs.Brackets.{openers, closers}
use Rattle.bsv_expr.specs.Expressions.{expression_first, expression_more, more_of, levels, words_of}
use Rattle.bsv_expr.proofs.Ahead.{nullable, first, more, test, guarded, Tame}
use Rattle.bsv_expr.proofs.Complete.{Names}
use Rattle.bsv_blocks.specs.Types.{type_first}
use Rattle.bsv_blocks.specs.Statements.{stmt_first}
use Rattle.bsv_parse.specs.Places as places
use Rattle.bsv_parse.specs.Places.{Hole, Of}
use Rattle.bsv_parse.specs.ModuleTrees.{Header, RuleFront, InterfaceFront}
use Rattle.bsv_parse.specs.Definitions as grammar
use Rattle.bsv_blocks.proofs.TypeKnot.{type_more}
use Rattle.bsv_blocks.proofs.SimpleLaws.{simple_more}
use Rattle.bsv_blocks.proofs.StatementKnot.{stmt_more}
use Rattle.bsv_parse.proofs.PlaceLaws.{anywhere, PartLaws, NamesAt, GoodAt, WithinAt, part_good, part_laws}

-- the words with which a statement begins that holds no other
unfoldable pub simple_first : List Terminal
simple_first = word.Let ∷ word.Lower ∷ type_first

module _ (source : List ℕ) (n : ℕ) where
  simple_named : NamesAt source n grammar.simple
  unfolding Names grammar.simple grammar.typed grammar.given_after grammar.made grammar.make grammar.sized grammar.indexed grammar.valued grammar.defined grammar.rewritten grammar.changed_after grammar.placed
  simple_named = (
    ((tt, tt), (((tt, (tt, tt)), tt), ((tt, tt), ((tt, tt), tt)))),
    (
      ((tt, tt), ((tt, tt), tt)),
      (tt, ((tt, ((tt, (tt, tt)), tt)), ((tt, tt), tt))),
    ),
  )

  simple_good : GoodAt source n grammar.simple
  unfolding test first more nullable grammar.simple grammar.typed grammar.given_after grammar.made grammar.make grammar.sized grammar.indexed grammar.valued grammar.defined grammar.rewritten grammar.changed_after grammar.placed type_first type_more expression_first expression_more more_of levels words_of same_terminal
  simple_good = part_good source n grammar.simple refl simple_named

  -- the laws of a statement of a module that holds no other
  pub simple_laws : PartLaws source n grammar.simple simple_first []
  unfolding first more nullable grammar.simple grammar.typed grammar.given_after grammar.made grammar.make grammar.sized grammar.indexed grammar.valued grammar.defined grammar.rewritten grammar.changed_after grammar.placed type_first simple_first same_terminal
  simple_laws = part_laws source n grammar.simple simple_first [] simple_good refl refl refl

  asked_good : GoodAt source n grammar.asked
  unfolding test first more nullable Names grammar.asked expression_first expression_more more_of levels words_of same_terminal
  asked_good = part_good source n grammar.asked refl tt

  -- the laws of a condition in its `( )`
  pub asked_laws : PartLaws source n grammar.asked (word.OpenParen ∷ []) []
  unfolding first more nullable grammar.asked same_terminal
  asked_laws = part_laws source n grammar.asked (word.OpenParen ∷ []) [] asked_good refl refl refl

  -- the end of what has a name
  ending_within : (kind : Terminal) (name : List ℕ) (close : Span) → WithinAt source n (word.Colon ∷ []) (word.Colon ∷ []) (grammar.ending kind name close)
  unfolding test first more nullable Names same_terminal
  ending_within kind name close = record { firsts = refl; mores = refl; good = part_good source n (grammar.ending kind name close) refl (tt, tt) }

  rule_after_within : (front : RuleFront) → WithinAt source n (word.Colon ∷ []) (word.Colon ∷ []) (grammar.rule_after front)
  unfolding test first more nullable Names same_terminal
  rule_after_within (attributes, (start, (name, (condition, (found, close))))) =
      record { firsts = refl; mores = refl; good = part_good source n (grammar.rule_after (attributes, (start, (name, (condition, (found, close)))))) refl (tt, tt) }

  stmts_named : NamesAt source n places.stmts
  unfolding Names places.stmts
  stmts_named = (tt, tt)

  groups_named : NamesAt source n grammar.groups
  unfolding Names grammar.groups grammar.group grammar.attributes grammar.attribute
  groups_named = (tt, ((tt, (tt, tt)), (tt, (tt, (tt, tt)))))

  rule_named : NamesAt source n grammar.rule
  unfolding Names grammar.rule grammar.rule_front grammar.rule_condition grammar.asked
  rule_named = ((groups_named, (tt, (tt, ((tt, tt), ((tt, stmts_named), tt))))), rule_after_within)

  rule_good : GoodAt source n grammar.rule
  unfolding test first more nullable grammar.rule grammar.rule_front grammar.groups grammar.group grammar.attributes grammar.attribute grammar.rule_condition grammar.asked places.stmts type_first simple_more stmt_first stmt_more expression_first expression_more more_of levels words_of same_terminal
  rule_good = part_good source n grammar.rule refl rule_named

  -- the laws of a rule
  pub rule_laws : PartLaws source n grammar.rule (word.OpenAttribute ∷ word.Rule ∷ []) (word.Colon ∷ [])
  unfolding first more nullable grammar.rule grammar.rule_front grammar.groups grammar.group same_terminal
  rule_laws = part_laws source n grammar.rule (word.OpenAttribute ∷ word.Rule ∷ []) (word.Colon ∷ []) rule_good refl refl refl

  statements_within : (name : List ℕ) (front : Span × (List Stmt × Span)) → WithinAt source n (word.Colon ∷ []) (word.Colon ∷ []) (grammar.statements_after name front)
  unfolding test first more nullable Names same_terminal
  statements_within name (start, (found, close)) =
      record { firsts = refl; mores = refl; good = part_good source n (grammar.statements_after name (start, (found, close))) refl (tt, tt) }

  body_named : (last : Terminal) (name : List ℕ) → NamesAt source n (grammar.body last name)
  unfolding Names grammar.body grammar.statements_body grammar.statements_front grammar.value_body
  body_named last name = (((tt, (stmts_named, tt)), statements_within name), ((tt, tt), tt))

  params_named : NamesAt source n grammar.params
  unfolding Names grammar.params grammar.param grammar.next_param
  params_named = ((tt, tt), (tt, (tt, tt)))

  header_named : (kind : Terminal) → NamesAt source n (grammar.header kind)
  unfolding Names grammar.header
  header_named kind = (tt, (tt, tt))

  method_after_within : (header : Header) → WithinAt source n (word.OpenParen ∷ word.If ∷ word.Semicolon ∷ word.Equal ∷ []) (word.Colon ∷ []) (grammar.method_after header)
  unfolding test first more nullable Names grammar.optional_params grammar.bracketed_params grammar.params grammar.param grammar.next_param grammar.method_condition grammar.asked grammar.body grammar.statements_body grammar.statements_front grammar.value_body places.stmts type_first type_more simple_more stmt_first stmt_more expression_first expression_more more_of levels words_of same_terminal
  method_after_within (start, (result, name)) =
      record { firsts = refl; mores = refl; good = part_good source n (grammar.method_after (start, (result, name))) refl ((params_named, (tt, tt)), body_named word.EndMethod name.name) }

  method_named : NamesAt source n grammar.method
  unfolding Names grammar.method
  method_named = (header_named word.Method, method_after_within)

  method_good : GoodAt source n grammar.method
  unfolding test first more nullable grammar.method grammar.header type_first type_more same_terminal
  method_good = part_good source n grammar.method refl method_named

  -- the laws of a method
  pub method_laws : PartLaws source n grammar.method (word.Method ∷ []) (word.Colon ∷ [])
  unfolding first more nullable grammar.method grammar.header same_terminal
  method_laws = part_laws source n grammar.method (word.Method ∷ []) (word.Colon ∷ []) method_good refl refl refl

  function_after_within : (header : Header) → WithinAt source n (word.OpenParen ∷ []) (word.Colon ∷ []) (grammar.function_after header)
  unfolding test first more nullable Names grammar.bracketed_params grammar.params grammar.param grammar.next_param grammar.body grammar.statements_body grammar.statements_front grammar.value_body places.stmts type_first type_more simple_more stmt_first stmt_more expression_first expression_more more_of levels words_of same_terminal
  function_after_within (start, (result, name)) =
      record { firsts = refl; mores = refl; good = part_good source n (grammar.function_after (start, (result, name))) refl (params_named, body_named word.EndFunction name.name) }

  function_named : NamesAt source n grammar.function
  unfolding Names grammar.function
  function_named = (header_named word.Function, function_after_within)

  function_good : GoodAt source n grammar.function
  unfolding test first more nullable grammar.function grammar.header type_first type_more same_terminal
  function_good = part_good source n grammar.function refl function_named

  -- the laws of a function
  pub function_laws : PartLaws source n grammar.function (word.Function ∷ []) (word.Colon ∷ [])
  unfolding first more nullable grammar.function grammar.header same_terminal
  function_laws = part_laws source n grammar.function (word.Function ∷ []) (word.Colon ∷ []) function_good refl refl refl

  module_head_named : NamesAt source n grammar.module_head
  unfolding Names grammar.module_head grammar.module_params grammar.given_type
  module_head_named = (groups_named, (tt, (tt, ((tt, params_named), tt))))

  module_head_good : GoodAt source n grammar.module_head
  unfolding test first more nullable grammar.module_head grammar.groups grammar.group grammar.attributes grammar.attribute grammar.module_params grammar.params grammar.param grammar.next_param grammar.given_type type_first type_more same_terminal
  module_head_good = part_good source n grammar.module_head refl module_head_named

  -- the laws of the head of a module
  pub module_head_laws : PartLaws source n grammar.module_head (word.OpenAttribute ∷ word.Module ∷ []) []
  unfolding first more nullable grammar.module_head grammar.groups grammar.group grammar.module_params grammar.given_type same_terminal
  module_head_laws = part_laws source n grammar.module_head (word.OpenAttribute ∷ word.Module ∷ []) [] module_head_good refl refl refl

  import_good : GoodAt source n grammar.import
  unfolding test first more nullable Names grammar.import same_terminal
  import_good = part_good source n grammar.import refl (tt, (tt, (tt, (tt, tt))))

  -- the laws of an import
  pub import_laws : PartLaws source n grammar.import (word.Import ∷ []) []
  unfolding first more nullable grammar.import same_terminal
  import_laws = part_laws source n grammar.import (word.Import ∷ []) [] import_good refl refl refl

  names_named : NamesAt source n grammar.names
  unfolding Names grammar.names grammar.next_name
  names_named = (tt, (tt, tt))

  named_named : NamesAt source n grammar.named
  unfolding Names grammar.named grammar.optional_deriving
  named_named = (tt, ((tt, names_named), tt))

  typedef_named : NamesAt source n grammar.typedef
  unfolding Names grammar.typedef grammar.type_form grammar.enumeration grammar.labels grammar.structure grammar.field_block grammar.fields grammar.field grammar.alias
  typedef_named = (tt, ((tt, (names_named, named_named)), ((tt, ((tt, (tt, (tt, tt))), named_named)), (tt, (tt, tt)))))

  typedef_good : GoodAt source n grammar.typedef
  unfolding test first more nullable grammar.typedef grammar.type_form grammar.enumeration grammar.labels grammar.structure grammar.field_block grammar.fields grammar.field grammar.alias grammar.named grammar.optional_deriving grammar.names grammar.next_name type_first type_more same_terminal
  typedef_good = part_good source n grammar.typedef refl typedef_named

  -- the laws of the definition of a type
  pub typedef_laws : PartLaws source n grammar.typedef (word.Typedef ∷ []) []
  unfolding first more nullable grammar.typedef grammar.type_form grammar.enumeration grammar.labels grammar.structure grammar.field_block grammar.alias grammar.named grammar.optional_deriving same_terminal
  typedef_laws = part_laws source n grammar.typedef (word.Typedef ∷ []) [] typedef_good refl refl refl

  interface_after_within : (front : InterfaceFront) → WithinAt source n (word.Colon ∷ []) (word.Colon ∷ []) (grammar.interface_after front)
  unfolding test first more nullable Names same_terminal
  interface_after_within (start, (name, (methods, close))) =
      record { firsts = refl; mores = refl; good = part_good source n (grammar.interface_after (start, (name, (methods, close)))) refl (tt, tt) }

  interface_named : NamesAt source n grammar.interface
  unfolding Names grammar.interface grammar.interface_front grammar.method_headers grammar.method_header grammar.optional_params grammar.bracketed_params
  interface_named = ((tt, (tt, ((tt, (tt, (header_named word.Method, (params_named, tt)))), tt))), interface_after_within)

  interface_good : GoodAt source n grammar.interface
  unfolding test first more nullable grammar.interface grammar.interface_front grammar.method_headers grammar.method_header grammar.header grammar.optional_params grammar.bracketed_params grammar.params grammar.param grammar.next_param type_first type_more same_terminal
  interface_good = part_good source n grammar.interface refl interface_named

  -- the laws of an interface
  pub interface_laws : PartLaws source n grammar.interface (word.Interface ∷ []) (word.Colon ∷ [])
  unfolding first more nullable grammar.interface grammar.interface_front same_terminal
  interface_laws = part_laws source n grammar.interface (word.Interface ∷ []) (word.Colon ∷ []) interface_good refl refl refl

-- Brackets and blocks are opened and closed in pairs.

abbrev Tamed : {A : Type 0} → Of A → Type 0
Tamed g = Tame anywhere g

-- a part that depends on what was read is guarded, and opens and closes in pairs
abbrev Behind : {A : Type 0} → Of A → Type 0
Behind g = (guarded anywhere g ≡ true) × Tame anywhere g

make_tame : Tamed grammar.make
unfolding Tame grammar.make same_terminal
make_tame = (refl, tt)

made_tame : Tamed grammar.made
unfolding Tame grammar.made same_terminal
made_tame = ((refl, make_tame), refl)

valued_tame : Tamed grammar.valued
unfolding Tame grammar.valued same_terminal
valued_tame = ((refl, tt), refl)

indexed_tame : Tamed grammar.indexed
unfolding Tame grammar.indexed same_terminal
indexed_tame = (refl, tt)

-- a statement of a module that holds no other opens and closes them in pairs
pub simple_tame : Tamed grammar.simple
unfolding Tame grammar.simple grammar.typed grammar.given_after grammar.sized grammar.defined grammar.rewritten grammar.changed_after grammar.placed same_terminal
simple_tame = (
  ((tt, refl), (made_tame, ((indexed_tame, refl), valued_tame))),
  (
    ((refl, refl), valued_tame),
    (refl, ((indexed_tame, made_tame), valued_tame)),
  ),
)

-- each place in it counts as if it was in a bracket
pub simple_guarded : guarded anywhere grammar.simple ≡ true
unfolding guarded grammar.simple grammar.typed grammar.given_after grammar.made grammar.make grammar.sized grammar.indexed grammar.valued grammar.defined grammar.rewritten grammar.changed_after grammar.placed
simple_guarded = refl

-- so does a condition in its `( )`
pub asked_tame : Tamed grammar.asked
unfolding Tame grammar.asked same_terminal
asked_tame = (refl, tt)

-- each place in it counts as if it was in a bracket
pub asked_guarded : guarded anywhere grammar.asked ≡ true
unfolding guarded grammar.asked
asked_guarded = refl

stmts_tame : Tamed places.stmts
unfolding Tame places.stmts
stmts_tame = (tt, tt)

groups_tame : Tamed grammar.groups
unfolding Tame grammar.groups grammar.group grammar.attributes grammar.attribute same_terminal
groups_tame = (tt, (refl, ((refl, (refl, refl)), (refl, (refl, (refl, refl))))))

rule_after_tame : (front : RuleFront) → Behind (grammar.rule_after front)
unfolding Tame guarded same_terminal
rule_after_tame (attributes, (start, (name, (condition, (found, close))))) = (refl, (refl, refl))

-- so does a rule
pub rule_tame : Tamed grammar.rule
unfolding Tame grammar.rule grammar.rule_front grammar.rule_condition same_terminal
rule_tame = ((groups_tame, (refl, (refl, ((refl, asked_tame), ((refl, stmts_tame), refl))))), rule_after_tame)

-- each place in it counts as if it was in a bracket
pub rule_guarded : guarded anywhere grammar.rule ≡ true
unfolding guarded grammar.rule grammar.rule_front grammar.groups grammar.group grammar.rule_condition grammar.asked places.stmts
rule_guarded = refl

statements_tame : (name : List ℕ) (front : Span × (List Stmt × Span)) → Behind (grammar.statements_after name front)
unfolding Tame guarded same_terminal
statements_tame name (start, (found, close)) = (refl, (refl, refl))

body_tame : (last : Terminal) (name : List ℕ) → is_apart (openers ++ closers) (last ∷ []) ≡ true → Tamed (grammar.body last name)
unfolding Tame grammar.body grammar.statements_body grammar.statements_front grammar.value_body same_terminal
body_tame last name apart = (((refl, (stmts_tame, apart)), statements_tame name), ((refl, tt), refl))

params_tame : Tamed grammar.params
unfolding Tame grammar.params grammar.param grammar.next_param same_terminal
params_tame = ((tt, refl), (refl, (tt, refl)))

bracketed_params_tame : Tamed grammar.bracketed_params
unfolding Tame grammar.bracketed_params same_terminal
bracketed_params_tame = (refl, params_tame)

optional_params_tame : Tamed grammar.optional_params
unfolding Tame grammar.optional_params
optional_params_tame = bracketed_params_tame

method_after_tame : (header : Header) → Behind (grammar.method_after header)
unfolding Tame guarded grammar.optional_params grammar.bracketed_params grammar.method_condition grammar.asked grammar.body grammar.statements_body grammar.statements_front grammar.value_body places.stmts same_terminal
method_after_tame (start, (result, name)) = (refl, ((optional_params_tame, (refl, asked_tame)), body_tame word.EndMethod name.name refl))

-- so does a method
pub method_tame : Tamed grammar.method
unfolding Tame grammar.method grammar.header same_terminal
method_tame = ((refl, (tt, refl)), method_after_tame)

-- each place in it counts as if it was in a bracket
pub method_guarded : guarded anywhere grammar.method ≡ true
unfolding guarded grammar.method grammar.header
method_guarded = refl

function_after_tame : (header : Header) → Behind (grammar.function_after header)
unfolding Tame guarded grammar.bracketed_params grammar.body grammar.statements_body grammar.statements_front grammar.value_body places.stmts same_terminal
function_after_tame (start, (result, name)) = (refl, (bracketed_params_tame, body_tame word.EndFunction name.name refl))

-- so does a function
pub function_tame : Tamed grammar.function
unfolding Tame grammar.function grammar.header same_terminal
function_tame = ((refl, (tt, refl)), function_after_tame)

-- each place in it counts as if it was in a bracket
pub function_guarded : guarded anywhere grammar.function ≡ true
unfolding guarded grammar.function grammar.header
function_guarded = refl

-- so does the head of a module
pub module_head_tame : Tamed grammar.module_head
unfolding Tame grammar.module_head grammar.module_params grammar.given_type same_terminal
module_head_tame = (groups_tame, (refl, (refl, ((refl, (refl, params_tame)), (refl, tt)))))

-- each place in it counts as if it was in a bracket
pub module_head_guarded : guarded anywhere grammar.module_head ≡ true
unfolding guarded grammar.module_head grammar.groups grammar.group grammar.module_params grammar.given_type
module_head_guarded = refl

-- so does an import
pub import_tame : Tamed grammar.import
unfolding Tame grammar.import same_terminal
import_tame = (refl, (refl, (refl, (refl, refl))))

-- each place in it counts as if it was in a bracket
pub import_guarded : guarded anywhere grammar.import ≡ true
unfolding guarded grammar.import
import_guarded = refl

names_tame : Tamed grammar.names
unfolding Tame grammar.names grammar.next_name same_terminal
names_tame = (refl, (refl, refl))

named_tame : Tamed grammar.named
unfolding Tame grammar.named grammar.optional_deriving same_terminal
named_tame = (refl, ((refl, (refl, names_tame)), refl))

-- so does the definition of a type
pub typedef_tame : Tamed grammar.typedef
unfolding Tame grammar.typedef grammar.type_form grammar.enumeration grammar.labels grammar.structure grammar.field_block grammar.fields grammar.field grammar.alias same_terminal
typedef_tame = (refl, ((refl, ((refl, names_tame), named_tame)), ((refl, ((refl, (tt, (tt, (refl, refl)))), named_tame)), (tt, (refl, refl)))))

-- each place in it counts as if it was in a bracket
pub typedef_guarded : guarded anywhere grammar.typedef ≡ true
unfolding guarded grammar.typedef grammar.type_form grammar.enumeration grammar.labels grammar.structure grammar.field_block grammar.alias grammar.named grammar.optional_deriving
typedef_guarded = refl

interface_after_tame : (front : InterfaceFront) → Behind (grammar.interface_after front)
unfolding Tame guarded same_terminal
interface_after_tame (start, (name, (methods, close))) = (refl, (refl, refl))

-- so does an interface
pub interface_tame : Tamed grammar.interface
unfolding Tame grammar.interface grammar.interface_front grammar.method_headers grammar.method_header grammar.header same_terminal
interface_tame = ((refl, (refl, ((refl, (tt, ((refl, (tt, refl)), (optional_params_tame, refl)))), refl))), interface_after_tame)

-- each place in it counts as if it was in a bracket
pub interface_guarded : guarded anywhere grammar.interface ≡ true
unfolding guarded grammar.interface grammar.interface_front grammar.method_headers grammar.method_header grammar.header grammar.optional_params grammar.bracketed_params
interface_guarded = refl
