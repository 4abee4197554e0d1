-- The grammar of what definitions are made of: attributes, parameters, rules, methods and functions, types and
-- interfaces, and the statements of a module that hold no other (Bluespec reference guide, "Modules and interfaces").
use Rattle.std.specs.Prelude.{ℕ, List, [], ◌∷◌, Option, Some, unwrap_or}
use Rattle.bsv_ast.specs.declared.text.Span.{Span}
use Rattle.bsv_ast.specs.declared.text.Ident.{Ident}
use Rattle.bsv_ast.specs.declared.expressions.Expr.{Expr}
use Rattle.bsv_ast.specs.declared.types.WrittenType.{WrittenType}
use Rattle.bsv_ast.specs.declared.statements.Stmt.{Stmt}
use Rattle.bsv_ast.specs.declared.modules.Attribute.{Attribute}
use Rattle.bsv_ast.specs.declared.modules.AttributeGroup.{AttributeGroup}
use Rattle.bsv_ast.specs.declared.modules.Param.{Param}
use Rattle.bsv_ast.specs.declared.modules.Make.{Make}
use Rattle.bsv_ast.specs.declared.modules.Body.{Body}
use Rattle.bsv_ast.specs.declared.modules.Rule.{Rule}
use Rattle.bsv_ast.specs.declared.modules.Method.{Method}
use Rattle.bsv_ast.specs.declared.modules.ModuleStmt.{ModuleStmt}
use Rattle.bsv_ast.specs.declared.package.Import.{Import}
use Rattle.bsv_ast.specs.declared.package.Field.{Field}
use Rattle.bsv_ast.specs.declared.package.Typedef.{Typedef}
use Rattle.bsv_ast.specs.declared.package.MethodHeader.{MethodHeader}
use Rattle.bsv_ast.specs.declared.package.Interface.{Interface}
use Rattle.bsv_ast.specs.declared.package.Function.{Function}
use Rattle.bsv_lex.specs.declared.terminal.Terminal.{Terminal}
use Rattle.bsv_lex.specs.declared.terminal.Terminal.TheVariants as word
use Rattle.bsv_expr.specs.declared.lexeme.Lexeme.{Lexeme}
use Rattle.bsv_expr.specs.Grammar.{Grammar}
use Rattle.bsv_expr.specs.Expressions.{always, snoc, text, the, behind, listed, many, lower, upper, pair}
use Rattle.bsv_parse.specs.Places.{Hole, Of, stmts}
use Rattle.bsv_blocks.specs.Simple.{told_as}
use Rattle.bsv_blocks.specs.Types.{type_first}
use Rattle.bsv_parse.specs.ModuleTrees.{unquoted, attribute_of, group_of, param_of, make_of, typed_of, let_of, changed_of, statements_of, value_of, RuleFront, rule_of, Header, method_of, function_of, ModuleHead, opened, alias_of, Named, enum_of, struct_of, field_of, import_of, method_header_of, InterfaceFront, interface_of}
use Rattle.bsv_parse.specs.declared.simple_module.Given.{Given}
use Rattle.bsv_parse.specs.declared.simple_module.Given.TheVariants as given
use Rattle.bsv_parse.specs.declared.simple_module.Changed.{Changed}
use Rattle.bsv_parse.specs.declared.simple_module.Changed.TheVariants as changed

abbrev pub expression : Of Expr
expression = Grammar.hole Hole.expression

abbrev pub written : Of WrittenType
written = Grammar.hole Hole.written

-- Attributes.

abbrev pub text_told : List ℕ → Lexeme → Option (Span × List ℕ)
text_told source w = Some (w.span, unquoted (text source w.span))

unfoldable pub attribute : Of Attribute
attribute = Grammar.both attribute_of lower (Grammar.maybe (word.Equal ∷ []) (behind word.Equal (Grammar.leaf (word.Text ∷ []) text_told)))

unfoldable pub attributes : Of (List Attribute)
attributes = listed attribute

unfoldable pub group : Of AttributeGroup
group = Grammar.between group_of word.OpenAttribute attributes word.CloseAttribute

unfoldable pub groups : Of (List AttributeGroup)
groups = many (word.OpenAttribute ∷ []) group

-- Parameters.

unfoldable pub param : Of Param
param = Grammar.both param_of written lower

-- one more, after a `,`
unfoldable pub next_param : Of Param
next_param = behind word.Comma param

unfoldable pub params : Of (List Param)
params = Grammar.fold (word.Comma ∷ []) always snoc (Grammar.made (λ x. x ∷ []) param) next_param

unfoldable pub bracketed_params : Of (List Param)
bracketed_params = Grammar.between (λ o found c. unwrap_or found []) word.OpenParen (Grammar.maybe type_first params) word.CloseParen

unfoldable pub optional_params : Of (List Param)
optional_params = Grammar.made (λ found. unwrap_or found []) (Grammar.maybe (word.OpenParen ∷ []) bracketed_params)

-- The statements that hold no others.

unfoldable pub make : Of Make
make = Grammar.both make_of lower (Grammar.maybe (word.OpenParen ∷ []) (Grammar.hole Hole.arguments))

-- `"<-" make ";"`, and where its `;` stands
unfoldable pub made : Of (Make × Span)
made = Grammar.both pair (behind word.LeftArrow make) (the word.Semicolon)

-- `"=" expr ";"`, and where its `;` stands
unfoldable pub valued : Of (Expr × Span)
valued = Grammar.both pair (behind word.Equal expression) (the word.Semicolon)

unfoldable pub indexed : Of Expr
indexed = Grammar.between (λ o x c. x) word.OpenBracket expression word.CloseBracket

unfoldable pub sized : Of Given
sized = Grammar.both (λ x c. given.Array x c) indexed (the word.Semicolon)

unfoldable pub given_after : Of Given
given_after =
    Grammar.choose (word.LeftArrow ∷ []) (Grammar.made (λ x. given.Instance x.0 x.1) made)
    (Grammar.choose (word.OpenBracket ∷ []) sized
    (Grammar.made (λ x. given.Value x.0 x.1) valued))

unfoldable pub typed : Of ModuleStmt
typed = Grammar.both typed_of (Grammar.both pair written lower) given_after

unfoldable pub defined : Of ModuleStmt
defined = Grammar.both let_of (Grammar.both pair (the word.Let) lower) valued

unfoldable pub placed : Of Changed
placed = Grammar.both (λ at x. changed.Place at x.0 x.1) indexed made

unfoldable pub changed_after : Of Changed
changed_after = Grammar.choose (word.OpenBracket ∷ []) placed (Grammar.made (λ x. changed.Value x.0 x.1) valued)

unfoldable pub rewritten : Of ModuleStmt
rewritten = Grammar.both changed_of lower changed_after

unfoldable pub simple : Of ModuleStmt
simple = Grammar.choose type_first typed (Grammar.choose (word.Let ∷ []) defined rewritten)

-- Conditions, ends and bodies.

-- `"(" expr ")"`
unfoldable pub asked : Of Expr
asked = Grammar.between (λ o x c. x) word.OpenParen expression word.CloseParen

module _ {H : Type 0} {T : H → Type 0} where
  -- the name that an `end..` word ends, if it is there again; and where the definition ends
  abbrev pub ending : Terminal → List ℕ → Span → Grammar H T Span
  ending kind name close = Grammar.made (λ found. unwrap_or found close) (Grammar.maybe (word.Colon ∷ []) (behind word.Colon (Grammar.leaf (kind ∷ []) (told_as name))))

-- `;`, statements and this `end..` word
unfoldable pub statements_front : Terminal → Of (Span × (List Stmt × Span))
statements_front last = Grammar.both pair (the word.Semicolon) (Grammar.both pair stmts (the last))

abbrev pub statements_after : List ℕ → Span × (List Stmt × Span) → Of (Body × Span)
statements_after name (start, (found, close)) = Grammar.made (statements_of (start, (found, close))) (ending word.Lower name close)

unfoldable pub statements_body : Terminal → List ℕ → Of (Body × Span)
statements_body last name = Grammar.bind (word.Colon ∷ []) (word.Colon ∷ []) (statements_front last) (statements_after name)

unfoldable pub value_body : Of (Body × Span)
value_body = Grammar.both (λ x c. value_of x.0 x.1 c) (Grammar.both pair (the word.Equal) expression) (the word.Semicolon)

-- what a method or a function of this name does, and where it ends
unfoldable pub body : Terminal → List ℕ → Of (Body × Span)
body last name = Grammar.choose (word.Semicolon ∷ []) (statements_body last name) value_body

-- Rules, methods and functions.

unfoldable pub rule_condition : Of (Option Expr)
rule_condition = Grammar.maybe (word.If ∷ word.OpenParen ∷ []) (Grammar.both (λ i x. x) (Grammar.maybe (word.If ∷ []) (the word.If)) asked)

unfoldable pub rule_front : Of RuleFront
rule_front =
    Grammar.both pair groups
    (Grammar.both pair (the word.Rule)
    (Grammar.both pair lower
    (Grammar.both pair rule_condition
    (Grammar.both pair (behind word.Semicolon stmts) (the word.EndRule)))))

abbrev pub rule_after : RuleFront → Of Rule
rule_after (attributes, (start, (name, (condition, (found, close))))) =
    Grammar.made (rule_of (attributes, (start, (name, (condition, (found, close)))))) (ending word.Lower name.name close)

unfoldable pub rule : Of Rule
rule = Grammar.bind (word.Colon ∷ []) (word.Colon ∷ []) rule_front rule_after

-- this word, a type and a name
unfoldable pub header : Terminal → Of Header
header first = Grammar.both pair (the first) (Grammar.both pair written lower)

unfoldable pub method_condition : Of (Option Expr)
method_condition = Grammar.maybe (word.If ∷ []) (behind word.If asked)

abbrev pub method_after : Header → Of Method
method_after (start, (result, name)) =
    Grammar.both (method_of (start, (result, name))) (Grammar.both pair optional_params method_condition) (body word.EndMethod name.name)

unfoldable pub method : Of Method
method = Grammar.bind (word.OpenParen ∷ word.If ∷ word.Semicolon ∷ word.Equal ∷ []) (word.Colon ∷ []) (header word.Method) method_after

abbrev pub function_after : Header → Of Function
function_after (start, (result, name)) = Grammar.both (function_of (start, (result, name))) bracketed_params (body word.EndFunction name.name)

unfoldable pub function : Of Function
function = Grammar.bind (word.OpenParen ∷ []) (word.Colon ∷ []) (header word.Function) function_after

-- The head of a module.

unfoldable pub module_params : Of (List Param)
module_params =
    Grammar.made (λ found. unwrap_or found [])
    (Grammar.maybe (word.Hash ∷ []) (behind word.Hash (Grammar.between (λ o found c. found) word.OpenParen params word.CloseParen)))

-- `"(" type ")"`
unfoldable pub given_type : Of WrittenType
given_type = Grammar.between (λ o t c. t) word.OpenParen written word.CloseParen

unfoldable pub module_head : Of ModuleHead
module_head =
    Grammar.both pair groups
    (Grammar.both pair (the word.Module)
    (Grammar.both pair lower
    (Grammar.both pair module_params given_type)))

-- Imports, types and interfaces.

unfoldable pub import : Of Import
import = Grammar.both import_of (the word.Import) (Grammar.both pair upper (behind word.DoubleColon (behind word.Star (the word.Semicolon))))

-- one more, after a `,`
unfoldable pub next_name : Of Ident
next_name = behind word.Comma upper

unfoldable pub names : Of (List Ident)
names = Grammar.fold (word.Comma ∷ []) always snoc (Grammar.made (λ x. x ∷ []) upper) next_name

unfoldable pub optional_deriving : Of (List Ident)
optional_deriving =
    Grammar.made (λ found. unwrap_or found [])
    (Grammar.maybe (word.Deriving ∷ []) (behind word.Deriving (Grammar.between (λ o found c. found) word.OpenParen names word.CloseParen)))

-- the name of a type, its `deriving` and the `;` after them
unfoldable pub named : Of Named
named = Grammar.both pair upper (Grammar.both pair optional_deriving (the word.Semicolon))

unfoldable pub alias : Of Typedef
alias = Grammar.both alias_of written (Grammar.both pair upper (the word.Semicolon))

unfoldable pub labels : Of (List Ident)
labels = Grammar.between (λ o found c. found) word.OpenBrace names word.CloseBrace

unfoldable pub enumeration : Of Typedef
enumeration = Grammar.both enum_of (the word.Enum) (Grammar.both pair labels named)

unfoldable pub field : Of Field
field = Grammar.both field_of written (Grammar.both pair lower (the word.Semicolon))

unfoldable pub fields : Of (List Field)
fields = many type_first field

unfoldable pub field_block : Of (List Field)
field_block = Grammar.between (λ o found c. found) word.OpenBrace fields word.CloseBrace

unfoldable pub structure : Of Typedef
structure = Grammar.both struct_of (the word.Struct) (Grammar.both pair field_block named)

unfoldable pub type_form : Of Typedef
type_form = Grammar.choose (word.Enum ∷ []) enumeration (Grammar.choose (word.Struct ∷ []) structure alias)

unfoldable pub typedef : Of Typedef
typedef = Grammar.both opened (the word.Typedef) type_form

unfoldable pub method_header : Of MethodHeader
method_header = Grammar.both method_header_of (header word.Method) (Grammar.both pair optional_params (the word.Semicolon))

unfoldable pub method_headers : Of (List MethodHeader)
method_headers = many (word.Method ∷ []) method_header

unfoldable pub interface_front : Of InterfaceFront
interface_front =
    Grammar.both pair (the word.Interface)
    (Grammar.both pair upper
    (Grammar.both pair (behind word.Semicolon method_headers) (the word.EndInterface)))

abbrev pub interface_after : InterfaceFront → Of Interface
interface_after (start, (name, (methods, close))) = Grammar.made (interface_of (start, (name, (methods, close)))) (ending word.Upper name.name close)

unfoldable pub interface : Of Interface
interface = Grammar.bind (word.Colon ∷ []) (word.Colon ∷ []) interface_front interface_after
