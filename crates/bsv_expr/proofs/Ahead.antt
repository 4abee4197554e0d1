-- Which words a phrase begins with, which ones might go on after a whole one, and the test that one token ahead
-- is enough.
use Rattle.std.specs.Prelude.{◌≡◌, Bool, true, false, not, ◌&&◌, ◌||◌, if◌then◌else◌, List, [], ◌∷◌, ◌++◌}
use Rattle.bsv_lex.specs.declared.terminal.Terminal.{Terminal}
use Rattle.bsv_expr.specs.Lexemes.{is_in, is_within, is_apart}
use Rattle.bsv_expr.specs.Grammar.{Grammar}
use Rattle.bsv_expr.specs.Brackets.{openers, closers}

unfoldable pub nullable : {H : Type 0} {T : H → Type 0} {A : Type 0} → Grammar H T A → Bool
nullable (Grammar.nothing c) = true
nullable (Grammar.leaf set tell) = false
nullable (Grammar.hole h) = false
nullable (Grammar.made f p) = nullable p
nullable (Grammar.both f p q) = nullable p && nullable q
nullable (Grammar.bind fs ms p k) = nullable p
nullable (Grammar.between f o p c) = false
nullable (Grammar.choose set p q) = nullable p || nullable q
nullable (Grammar.maybe set p) = true
nullable (Grammar.fold set goes step p q) = nullable p
nullable (Grammar.named fs ms p) = nullable p

module _ {H : Type 0} {T : H → Type 0} (hole_first hole_more : H → List Terminal) where
  unfoldable pub first : {A : Type 0} → Grammar H T A → List Terminal
  first (Grammar.nothing c) = []
  first (Grammar.leaf set tell) = set
  first (Grammar.hole h) = hole_first h
  first (Grammar.made f p) = first p
  first (Grammar.both f p q) = if nullable p then first p ++ first q else first p
  first (Grammar.bind fs ms p k) = first p
  first (Grammar.between f o p c) = o ∷ []
  first (Grammar.choose set p q) = set ++ first q
  first (Grammar.maybe set p) = set
  first (Grammar.fold set goes step p q) = if nullable p then first p ++ set else first p
  first (Grammar.named fs ms p) = fs

  unfoldable pub more : {A : Type 0} → Grammar H T A → List Terminal
  more (Grammar.nothing c) = []
  more (Grammar.leaf set tell) = []
  more (Grammar.hole h) = hole_more h
  more (Grammar.made f p) = more p
  more (Grammar.both f p q) = if nullable q then more p ++ more q else more q
  more (Grammar.bind fs ms p k) = ms
  more (Grammar.between f o p c) = []
  more (Grammar.choose set p q) = more p ++ more q
  more (Grammar.maybe set p) = set ++ more p
  more (Grammar.fold set goes step p q) = more p ++ (set ++ more q)
  more (Grammar.named fs ms p) = ms

  unfoldable pub test : {A : Type 0} → Grammar H T A → Bool
  test (Grammar.nothing c) = true
  test (Grammar.leaf set tell) = true
  test (Grammar.hole h) = true
  test (Grammar.made f p) = test p
  test (Grammar.both f p q) = is_apart (more p) (first q) && (test p && test q)
  test (Grammar.bind fs ms p k) = not (nullable p) && (is_apart (more p) fs && (is_within (more p) ms && test p))
  test (Grammar.between f o p c) = not (is_in (more p) c) && test p
  test (Grammar.choose set p q) = not (nullable p) && (not (nullable q) && (is_within (first p) set && (is_apart set (first q) && (test p && test q))))
  test (Grammar.maybe set p) = not (nullable p) && (is_within (first p) set && test p)
  test (Grammar.fold set goes step p q) = not (nullable q) && (is_within (first q) set && (is_apart (more p) set && (is_apart (more q) set && (test p && test q))))
  test (Grammar.named fs ms p) = not (nullable p) && (is_within (first p) fs && is_within (more p) ms)

-- whether each hole is in a bracket, or is one that counts as if it did
unfoldable pub guarded : {H : Type 0} {T : H → Type 0} {A : Type 0} → (H → Bool) → Grammar H T A → Bool
guarded free (Grammar.nothing c) = true
guarded free (Grammar.leaf set tell) = true
guarded free (Grammar.hole h) = free h
guarded free (Grammar.made f p) = guarded free p
guarded free (Grammar.both f p q) = guarded free p && guarded free q
guarded free (Grammar.bind fs ms p k) = guarded free p
guarded free (Grammar.between f o p c) = true
guarded free (Grammar.choose set p q) = guarded free p && guarded free q
guarded free (Grammar.maybe set p) = guarded free p
guarded free (Grammar.fold set goes step p q) = guarded free p && guarded free q
guarded free (Grammar.named fs ms p) = guarded free p

-- brackets are opened and closed in pairs alone, and each part that depends on what was read is guarded
unfoldable pub Tame : {H : Type 0} {T : H → Type 0} {A : Type 0} → (H → Bool) → Grammar H T A → Type 0
Tame free (Grammar.nothing c) = Unit {0}
Tame free (Grammar.leaf set tell) = is_apart (openers ++ closers) set ≡ true
Tame free (Grammar.hole h) = Unit {0}
Tame free (Grammar.made f p) = Tame free p
Tame free (Grammar.both f p q) = Tame free p × Tame free q
Tame free (Grammar.bind {A} fs ms p k) = Tame free p × ((a : A) → (guarded free (k a) ≡ true) × Tame free (k a))
Tame free (Grammar.between f o p c) = ((is_in openers o && (not (is_in openers c) && is_in closers c)) ≡ true) × Tame free p
Tame free (Grammar.choose set p q) = Tame free p × Tame free q
Tame free (Grammar.maybe set p) = Tame free p
Tame free (Grammar.fold set goes step p q) = Tame free p × Tame free q
Tame free (Grammar.named fs ms p) = Tame free p
