-- The laws of the definitions at the places of a package, and of whole files, at each number of brackets and blocks.
use Rattle.std.proofs.Common.{◌≡◌, ℕ, zero, suc, ◌+◌, ◌-◌, ◌<◌, ◌≤◌, Bool, true, false, List, [], ◌∷◌, length, Ok, Err, refl, ap, arith}
use Rattle.bsv_ast.specs.declared.package.Package.{Package}
use Rattle.bsv_lex.specs.declared.terminal.Terminal.{Terminal}
use Rattle.bsv_lex.specs.declared.terminal.Terminal.TheVariants as word
use Rattle.bsv_expr.specs.declared.lexeme.Lexeme.{Lexeme}
use Rattle.bsv_expr.specs.declared.fault.ReadFault.TheVariants as fault
use Rattle.bsv_expr.specs.Lexemes.{same_terminal, starts}
use Rattle.bsv_expr.specs.Brackets.{Reaches}
use Rattle.bsv_expr.proofs.Ahead.{nullable, first, more, test, guarded, Tame}
use Rattle.bsv_expr.proofs.Sound.{sound}
use Rattle.bsv_expr.proofs.Complete.{Good, Within, Names, good}
use Rattle.bsv_expr.proofs.Agrees.{Agree, agrees}
use Rattle.bsv_expr.proofs.Closing.{Balanced, bonus, lower_limit}
use Rattle.bsv_expr.proofs.Deeper.{deep}
use Rattle.bsv_parse.specs.ModuleTrees.{PackageFront}
use Rattle.bsv_parse.specs.Definitions as definitions
use Rattle.bsv_parse.specs.Packages as grammar
use Rattle.bsv_parse.specs.Packages.{Defined, Filled, Of, Inner, inner, IsFile, within, item_first, file_first, file}
use Rattle.bsv_parse.proofs.PlaceLaws.{part_sound, part_balanced, part_deep, part_agrees}
use Rattle.bsv_parse.proofs.DefinitionLaws.{import_laws, import_tame, import_guarded, typedef_laws, typedef_tame, typedef_guarded, interface_laws, interface_tame, interface_guarded, function_laws, function_tame, function_guarded}
use Rattle.bsv_parse.proofs.ModuleKnot.{module_sound, module_completes, module_begins, module_shorter, module_balanced, module_deep, module_agrees}

-- the words with which what is at a place begins
abbrev pub place_begins : Defined → List Terminal
place_begins Defined.import = word.Import ∷ []
place_begins Defined.typedef = word.Typedef ∷ []
place_begins Defined.interface = word.Interface ∷ []
place_begins Defined.function = word.Function ∷ []
place_begins Defined.module_whole = word.OpenAttribute ∷ word.Module ∷ []

-- the words that go on after it
abbrev pub place_goes_on : Defined → List Terminal
place_goes_on Defined.import = []
place_goes_on Defined.typedef = []
place_goes_on Defined.interface = word.Colon ∷ []
place_goes_on Defined.function = word.Colon ∷ []
place_goes_on Defined.module_whole = word.Colon ∷ []

module _ (source : List ℕ) (n : ℕ) where
  -- what is read at a place is there
  pub place_sound : (h : Defined) (ts : List Lexeme) (x : Filled h) (rest : List Lexeme) → inner source n h ts ≡ Ok (x, rest) → Inner source n h x ts rest
  unfolding inner Inner
  place_sound Defined.import ts x rest e = part_sound source n definitions.import ts x rest e
  place_sound Defined.typedef ts x rest e = part_sound source n definitions.typedef ts x rest e
  place_sound Defined.interface ts x rest e = part_sound source n definitions.interface ts x rest e
  place_sound Defined.function ts x rest e = part_sound source n definitions.function ts x rest e
  place_sound Defined.module_whole ts x rest e = module_sound source n ts x rest e

  -- the reader at a place reads what is there
  pub place_completes : (h : Defined) (x : Filled h) (ts rest : List Lexeme) → Inner source n h x ts rest → starts (place_goes_on h) rest ≡ false → inner source n h ts ≡ Ok (x, rest)
  unfolding inner Inner
  place_completes Defined.import x ts rest d stop = (import_laws source n).completes x ts rest d stop
  place_completes Defined.typedef x ts rest d stop = (typedef_laws source n).completes x ts rest d stop
  place_completes Defined.interface x ts rest d stop = (interface_laws source n).completes x ts rest d stop
  place_completes Defined.function x ts rest d stop = (function_laws source n).completes x ts rest d stop
  place_completes Defined.module_whole x ts rest d stop = module_completes source n x ts rest d stop

  -- what is at a place begins with one of its words
  pub place_starts : (h : Defined) (x : Filled h) (ts rest : List Lexeme) → Inner source n h x ts rest → starts (place_begins h) ts ≡ true
  unfolding Inner
  place_starts Defined.import x ts rest d = (import_laws source n).begins x ts rest d
  place_starts Defined.typedef x ts rest d = (typedef_laws source n).begins x ts rest d
  place_starts Defined.interface x ts rest d = (interface_laws source n).begins x ts rest d
  place_starts Defined.function x ts rest d = (function_laws source n).begins x ts rest d
  place_starts Defined.module_whole x ts rest d = module_begins source n x ts rest d

  -- it takes a token
  pub place_shorter : (h : Defined) (x : Filled h) (ts rest : List Lexeme) → Inner source n h x ts rest → length rest < length ts
  unfolding Inner
  place_shorter Defined.import x ts rest d = (import_laws source n).shorter x ts rest d
  place_shorter Defined.typedef x ts rest d = (typedef_laws source n).shorter x ts rest d
  place_shorter Defined.interface x ts rest d = (interface_laws source n).shorter x ts rest d
  place_shorter Defined.function x ts rest d = (function_laws source n).shorter x ts rest d
  place_shorter Defined.module_whole x ts rest d = module_shorter source n x ts rest d

  -- it closes each bracket and each block that it opens
  pub place_balanced : (h : Defined) → Balanced (Inner source n h)
  unfolding Inner
  place_balanced Defined.import x ts rest d l k r = part_balanced source n definitions.import import_tame x ts rest d l k r
  place_balanced Defined.typedef x ts rest d l k r = part_balanced source n definitions.typedef typedef_tame x ts rest d l k r
  place_balanced Defined.interface x ts rest d l k r = part_balanced source n definitions.interface interface_tame x ts rest d l k r
  place_balanced Defined.function x ts rest d l k r = part_balanced source n definitions.function function_tame x ts rest d l k r
  place_balanced Defined.module_whole x ts rest d l k r = module_balanced source n x ts rest d l k r

  -- where a reader at a place was given too few brackets and blocks, so many are open but two
  pub place_deep : (h : Defined) (ts : List Lexeme) → inner source n h ts ≡ Err fault.TooDeep → (k : ℕ) → Reaches (n - 2 + k) k ts
  unfolding inner
  place_deep Defined.import ts e k = lower_limit (n - 1 + k) (n - 2 + k) k ts (omega arith) (part_deep source n definitions.import import_tame import_guarded ts e k)
  place_deep Defined.typedef ts e k = lower_limit (n - 1 + k) (n - 2 + k) k ts (omega arith) (part_deep source n definitions.typedef typedef_tame typedef_guarded ts e k)
  place_deep Defined.interface ts e k = lower_limit (n - 1 + k) (n - 2 + k) k ts (omega arith) (part_deep source n definitions.interface interface_tame interface_guarded ts e k)
  place_deep Defined.function ts e k = lower_limit (n - 1 + k) (n - 2 + k) k ts (omega arith) (part_deep source n definitions.function function_tame function_guarded ts e k)
  place_deep Defined.module_whole ts e k = module_deep source n ts e k

  abbrev names_of : {A : Type 0} → Of A → Type 0
  names_of g = Names source (inner source n) (Inner source n) place_begins place_goes_on place_completes place_starts place_shorter g

  abbrev good_of : {A : Type 0} → Of A → Type 0
  good_of g = Good source (inner source n) (Inner source n) place_begins place_goes_on place_completes place_starts place_shorter g

  abbrev within_of : {A : Type 0} → List Terminal → List Terminal → Of A → Type 0
  within_of fs ms g = Within source (inner source n) (Inner source n) place_begins place_goes_on place_completes place_starts place_shorter fs ms g

  is_good : {A : Type 0} (g : Of A) → test place_begins place_goes_on g ≡ true → names_of g → good_of g
  is_good g e names = good source (inner source n) (Inner source n) place_begins place_goes_on place_completes place_starts place_shorter g e names

  item_named : names_of grammar.item
  unfolding Names grammar.item
  item_named = (tt, (tt, (tt, (tt, tt))))

  package_after_within : (front : PackageFront) → within_of (word.Colon ∷ []) (word.Colon ∷ []) (grammar.package_after front)
  unfolding test first more nullable Names same_terminal
  package_after_within (start, (name, (found, close))) =
      record { firsts = refl; mores = refl; good = is_good (grammar.package_after (start, (name, (found, close)))) refl (tt, tt) }

  package_named : names_of grammar.package_whole
  unfolding Names grammar.package_whole grammar.package_front grammar.items
  package_named = ((tt, (tt, ((tt, (tt, item_named)), tt))), package_after_within)

  file_named : names_of file
  unfolding Names file grammar.bare
  file_named = (package_named, (item_named, item_named))

  file_good : good_of file
  unfolding test first more nullable file grammar.package_whole grammar.package_front grammar.items grammar.item grammar.bare item_first file_first same_terminal
  file_good = is_good file refl file_named

  -- what is read is a file
  pub file_sound : (ts : List Lexeme) (x : Package) (rest : List Lexeme) → within source n file ts ≡ Ok (x, rest) → IsFile source n x ts rest
  unfolding IsFile
  file_sound ts x rest e = sound source (inner source n) (Inner source n) place_sound file false ts x rest e

  -- the reader of files reads each file after which no token stands
  pub file_completes : (x : Package) (ts : List Lexeme) → IsFile source n x ts [] → within source n file ts ≡ Ok (x, [])
  unfolding IsFile
  file_completes x ts d = file_good.completes false x ts [] d refl

-- each place counts as if it was in a bracket
abbrev anywhere : Defined → Bool
anywhere h = true

item_tame : Tame anywhere grammar.item
unfolding Tame grammar.item
item_tame = (tt, (tt, (tt, (tt, tt))))

package_after_tame : (front : PackageFront) → (guarded anywhere (grammar.package_after front) ≡ true) × Tame anywhere (grammar.package_after front)
unfolding Tame guarded same_terminal
package_after_tame (start, (name, (found, close))) = (refl, (refl, refl))

package_tame : Tame anywhere grammar.package_whole
unfolding Tame grammar.package_whole grammar.package_front grammar.items same_terminal
package_tame = ((refl, (refl, ((refl, (tt, item_tame)), refl))), package_after_tame)

-- a file opens and closes brackets and blocks in pairs
pub file_tame : Tame anywhere file
unfolding Tame file grammar.bare
file_tame = (package_tame, (item_tame, item_tame))

-- each place in it counts as if it was in a bracket
pub file_guarded : guarded anywhere file ≡ true
unfolding guarded file grammar.package_whole grammar.package_front grammar.items grammar.item grammar.bare
file_guarded = refl

-- where the reader of files was given too few brackets and blocks, so many are open but two
pub file_deep : (source : List ℕ) (n : ℕ) (ts : List Lexeme) → within source n file ts ≡ Err fault.TooDeep → (k : ℕ) → Reaches (n - 2 + k) k ts
file_deep source zero ts e k = Reaches.here (omega arith)
file_deep source (suc zero) ts e k = Reaches.here (omega arith)
file_deep source (suc (suc zero)) ts e k = Reaches.here (omega arith)
file_deep source (suc (suc (suc p))) ts e k =
    let one : bonus (guarded anywhere file) ≡ 1 = ap bonus file_guarded in
    lower_limit (p + bonus (guarded anywhere file) + k) (suc (suc (suc p)) - 2 + k) k ts (omega arith)
    (deep source (inner source (suc (suc (suc p)))) (Inner source (suc (suc (suc p)))) (place_sound source (suc (suc (suc p)))) anywhere (place_balanced source (suc (suc (suc p)))) p
    (λ h us d j. lower_limit (suc (suc (suc p)) - 2 + j) (p + 1 + j) j us (omega arith) (place_deep source (suc (suc (suc p))) h us d j)) file file_tame false ts e k)

-- a reader of more brackets and blocks reads the same at each place
pub place_agrees : (source : List ℕ) (n m : ℕ) → n ≤ m → (h : Defined) (ts : List Lexeme) → Agree (inner source n h ts) (inner source m h ts)
unfolding inner
place_agrees source n m le Defined.import ts = part_agrees source n m le definitions.import ts
place_agrees source n m le Defined.typedef ts = part_agrees source n m le definitions.typedef ts
place_agrees source n m le Defined.interface ts = part_agrees source n m le definitions.interface ts
place_agrees source n m le Defined.function ts = part_agrees source n m le definitions.function ts
place_agrees source n m le Defined.module_whole ts = module_agrees source n m le ts

-- and the same file
pub file_agrees : (source : List ℕ) (n m : ℕ) → n ≤ m → (ts : List Lexeme) → Agree (within source n file ts) (within source m file ts)
file_agrees source n m le ts = agrees source (inner source n) (inner source m) (place_agrees source n m le) file false ts
