-- What was loaded is typed as one program.
use Rattle.std.proofs.Common.{◌≡◌, IsTrue, true, Option, Some, None, List, Result, Ok, Err, sym, subst, ap, ◌∙◌}
use Rattle.std.specs.Coded.{Coded-set, coded_bool}
use Rattle.bsv_ast.specs.declared.package.Package.{Package}
use Rattle.bsv_types.specs.declared.typed.Typed.{Typed}
use Rattle.bsv_check.specs.Checked.{ProgramParts, Refused, or_type_fault, or_width_fault, loosely, strictly, both, typed, unless_refused, refused_names, checked}
use Rattle.bsv_check.specs.Headers.{AtPlace}
use Rattle.bsv_check.specs.Rightness.{is_counted, is_in_order}
use Rattle.bsv_check.specs.Seen.{typed_seen}
use Rattle.bsv_check.proofs.RightProgram.{programs_right}
use Rattle.bsv_flow.specs.declared.loading.Loaded.{Loaded}
use Rattle.bsv_flow.specs.declared.refusal.Refusal.{Refusal}
use Rattle.bsv_flow.specs.Buildings.{IsProgram}
use Rattle.bsv_flow.specs.Typings.{with_place, typing_of}

-- ---- one at most

-- the program of parts that are in order
abbrev program_from : (m : ProgramParts) → IsTrue (is_in_order m) → Typed
program_from m right = record { enums = m.enums; structs = m.structs; interfaces = m.interfaces; functions = m.functions; modules = m.modules; right = right }

-- its parts tell a program
same_parts : (p q : Typed) → typed_seen p ≡ typed_seen q → p ≡ q
same_parts p q e =
    subst (λ (m : ProgramParts). (right : IsTrue (is_in_order m)) → p ≡ program_from m right) e
    (λ right. ap (program_from (typed_seen p)) (Coded-set coded_bool (is_in_order (typed_seen p)) true p.right right)) q.right

pub made_is : (m n : ProgramParts) → ◌≡◌ {A = Result ProgramParts Refusal} (Ok m) (Ok n) → m ≡ n
made_is m n e = cc

pub one_program : (l : Loaded) (p q : Typed) → IsProgram l p → IsProgram l q → p ≡ q
one_program l p q one other = same_parts p q (made_is (typed_seen p) (typed_seen q) (sym one ∙ other))

-- ---- one at least

pub program_at : (l : Loaded) (made : ProgramParts) → typing_of l ≡ Ok made → IsTrue (is_in_order made) → (program : Typed) × IsProgram l program
program_at l made is right = (program_from made right, is)

made_so : (m n : ProgramParts) → ◌≡◌ {A = Result ProgramParts Refused} (Ok m) (Ok n) → m ≡ n
made_so m n e = cc

by_width : (given : AtPlace ProgramParts) (made : ProgramParts) → or_width_fault given ≡ Ok made → given ≡ Ok made
by_width (Ok m) made e = ap Ok (made_so m made e)
by_width (Err place) made e = absurd cc

by_both : (loose strict : Result ProgramParts Refused) (made : ProgramParts) → both loose strict ≡ Ok made → strict ≡ Ok made
by_both (Ok m) strict made e = e
by_both (Err r) strict made e = absurd cc

by_names : (o : Option Refused) (given : Result ProgramParts Refused) (made : ProgramParts) → unless_refused o given ≡ Ok made → given ≡ Ok made
by_names None given made e = e
by_names (Some r) given made e = absurd cc

-- what is typed is typed with widths and fits
typed_strictly : (ps : List Package) (made : ProgramParts) → checked ps ≡ Ok made → strictly ps ≡ Ok made
unfolding checked typed
typed_strictly ps made e =
    by_width (strictly ps) made (by_both (or_type_fault (loosely ps)) (or_width_fault (strictly ps)) made (by_names (refused_names ps) (typed ps) made e))

by_place : (l : Loaded) (given : Result ProgramParts Refused) (made : ProgramParts) → with_place l given ≡ Ok made → given ≡ Ok made
by_place l (Ok m) made e = ap Ok (made_is m made e)
by_place l (Err r) made e = absurd cc

-- and so in order
pub a_program : (l : Loaded) (made : ProgramParts) → typing_of l ≡ Ok made → IsTrue (is_counted made) → (program : Typed) × IsProgram l program
a_program l made is counted =
    program_at l made is (programs_right l.packages made (typed_strictly l.packages made (by_place l (checked l.packages) made is)) counted)
