use Rattle.std.proofs.Common.{◌≡◌, map, length}
use Rattle.bsv_ast.specs.Names.{is_listed}
use Rattle.bsv_lex.proofs.terminal.is_listed.Given as goal

abbrev pub invariant-loop-list : goal.invariant-loop-list
invariant-loop-list l = is_listed (map (λ entry. entry.now) l.list) l.word ≡ is_listed (map (λ entry. entry.now) l.initial.list) l.word

abbrev pub decreases-loop-list : goal.decreases-loop-list
decreases-loop-list l = length l.list
