-- The expression that the reader reads softly is the longest one, and the only one of its length.
use Rattle.std.proofs.Common.{◌≡◌, inl, inr, ℕ, ◌+◌, ◌-◌, ◌≤◌, max, true, false, List, [], ◌++◌, length, drop, Ok, Err, refl, ap, subst, sym, ◌∙◌, length-drop, arith}
use Rattle.std.proofs.lemmas.List.{append_cancel_right, length-map}
use Rattle.bsv_ast.specs.declared.expressions.Expr.{Expr}
use Rattle.bsv_lex.specs.declared.token.Token.{Token}
use Rattle.bsv_expr.specs.declared.lexeme.Lexeme.{Lexeme}
use Rattle.bsv_expr.specs.declared.fault.ReadFault.TheVariants as fault
use Rattle.bsv_expr.specs.Reading.{Read}
use Rattle.bsv_expr.specs.Lexemes.{lexeme, lexemes}
use Rattle.bsv_expr.specs.Expressions.{IsExpr}
use Rattle.bsv_expr.specs.Expression.{IsBetween, IsShallow}
use Rattle.bsv_expr.specs.Readers.{expr}
use Rattle.bsv_expr.proofs.Closing.{lower_limit}
use Rattle.bsv_expr.proofs.Depths.{expr_agrees, expr_deep, expr_front}
use Rattle.bsv_expr.proofs.Fronts.{Front}
use Rattle.bsv_expr.proofs.Knot.{laws_at, expr_sound}
use Rattle.bsv_expr.proofs.Longest.{Far}
use Rattle.bsv_expr.proofs.Monotone.{expr_more}
use Rattle.bsv_expr.proofs.Reaching.{expr_far}
use Rattle.bsv_expr.proofs.Tools.{ok_is}
use Rattle.bsv_expr.proofs.Suffixes.{after_part, part_fits, from_front}

pub count : (source : List ℕ) (tokens : List Token) → length (lexemes source tokens) ≡ length tokens
unfolding lexemes
count source tokens = length-map tokens (lexeme source)

-- what was read softly with at most 64 brackets is between the tokens
pub found_between : (source : List ℕ) (tokens : List Token) (at : ℕ) (x : Expr) (rest : List Lexeme) → expr source 65 true (drop at (lexemes source tokens)) ≡ Ok (x, rest) → IsBetween source tokens at x (length tokens - length rest)
found_between source tokens at x rest e =
    let d : IsExpr source 65 x (drop at (lexemes source tokens)) rest = expr_sound source 65 true (drop at (lexemes source tokens)) x rest e in
    let f : Front (IsExpr source 65) x (drop at (lexemes source tokens)) rest = expr_front source 65 x (drop at (lexemes source tokens)) rest d in
    let behind : drop (length (lexemes source tokens) - length rest) (lexemes source tokens) ≡ rest = after_part at (lexemes source tokens) f.taken rest f.is in
    let here : drop (length tokens - length rest) (lexemes source tokens) ≡ rest = subst (λ n. drop (n - length rest) (lexemes source tokens) ≡ rest) (count source tokens) behind in
    (omega arith, (65, subst (λ us. IsExpr source 65 x (drop at (lexemes source tokens)) us) (sym here) d))

pub rest_fits : (source : List ℕ) (tokens : List Token) (at : ℕ) (x : Expr) (rest : List Lexeme) → expr source 65 true (drop at (lexemes source tokens)) ≡ Ok (x, rest) → length rest ≤ length tokens
rest_fits source tokens at x rest e =
    let d : IsExpr source 65 x (drop at (lexemes source tokens)) rest = expr_sound source 65 true (drop at (lexemes source tokens)) x rest e in
    let f : Front (IsExpr source 65) x (drop at (lexemes source tokens)) rest = expr_front source 65 x (drop at (lexemes source tokens)) rest d in
    subst (λ n. length rest ≤ n) (count source tokens) (part_fits at (lexemes source tokens) f.taken rest f.is)

-- with so many brackets or more, no reader was given too few
enough : (source : List ℕ) (tokens : List Token) (at m : ℕ) → IsShallow source tokens → 65 ≤ m → expr source m true (drop at (lexemes source tokens)) ≡ Err fault.TooDeep → ⊥
enough source tokens at m shallow le e =
    shallow (from_front 65 at 0 (lexemes source tokens) (lower_limit (m + 0) 65 0 (drop at (lexemes source tokens)) (omega arith) (expr_deep source m true (drop at (lexemes source tokens)) e 0)))

-- what the reader of 64 brackets reads, where there is some expression: as far as that one
pub as_far : (source : List ℕ) (tokens : List Token) (at n : ℕ) (y : Expr) (us : List Lexeme) → IsShallow source tokens → IsExpr source n y (drop at (lexemes source tokens)) us → Far (expr source 65 true (drop at (lexemes source tokens))) us
as_far source tokens at n y us shallow d =
    let ts = drop at (lexemes source tokens) in
    let more : IsExpr source (max n 65) y ts us = expr_more source n (max n 65) (omega arith) y ts us d in
    elim (expr_agrees source 65 (max n 65) (omega arith) true ts) [
      | inl deep ↦ absurd (enough source tokens at 65 shallow (omega arith) deep)
      | inr same ↦ subst (λ r. Far r us) same (expr_far source (max n 65) y ts us more)
    ]

longest_by : (r : Read Expr) (x : Expr) (rest us : List Lexeme) (n : ℕ) → Far r us → r ≡ Ok (x, rest) → length us ≡ n → length rest ≤ n
longest_by r x rest us n (Far.too_deep is) e count = absurd cc
longest_by r x rest us n (Far.as_far z vs is le) e count =
    let both : ◌≡◌ {A = Read Expr} (Ok (z, vs)) (Ok (x, rest)) = sym is ∙ e in
    let same : vs ≡ rest = ap (λ (p : Expr × List Lexeme). p.1) (ok_is (z, vs) (x, rest) both) in
    let lengths : length vs ≡ length rest = ap length same in omega arith

pub longest : (source : List ℕ) (tokens : List Token) (at : ℕ) (x : Expr) (rest : List Lexeme) → IsShallow source tokens → expr source 65 true (drop at (lexemes source tokens)) ≡ Ok (x, rest)
    → (y : Expr) (next : ℕ) → IsBetween source tokens at y next → next ≤ length tokens - length rest
longest source tokens at x rest shallow e y next d =
    let fits : length rest ≤ length tokens = rest_fits source tokens at x rest e in
    let counted : length (drop next (lexemes source tokens)) ≡ length tokens - next = length-drop next (lexemes source tokens) ∙ ap (λ n. n - next) (count source tokens) in
    let far : length rest ≤ length tokens - next =
    longest_by (expr source 65 true (drop at (lexemes source tokens))) x rest (drop next (lexemes source tokens)) (length tokens - next) (as_far source tokens at d.1.0 y (drop next (lexemes source tokens)) shallow d.1.1) e counted in
    let within : next ≤ length tokens = d.0 in
    omega arith

none_by : (r : Read Expr) (us : List Lexeme) (left : ℕ) → Far r us → r ≡ Err (fault.Syntax left) → ⊥
none_by r us left (Far.too_deep is) e = absurd cc
none_by r us left (Far.as_far z vs is le) e = absurd cc

pub none : (source : List ℕ) (tokens : List Token) (at left : ℕ) → IsShallow source tokens → expr source 65 true (drop at (lexemes source tokens)) ≡ Err (fault.Syntax left)
    → (y : Expr) (next : ℕ) → IsBetween source tokens at y next → ⊥
none source tokens at left shallow e y next d =
    none_by (expr source 65 true (drop at (lexemes source tokens))) (drop next (lexemes source tokens)) left (as_far source tokens at d.1.0 y (drop next (lexemes source tokens)) shallow d.1.1) e

pub not_too_deep : (source : List ℕ) (tokens : List Token) (at : ℕ) → IsShallow source tokens → expr source 65 true (drop at (lexemes source tokens)) ≡ Err fault.TooDeep → ⊥
not_too_deep source tokens at shallow e = enough source tokens at 65 shallow (omega arith) e

-- two expressions of the same tokens are one
pub same_expression : (source : List ℕ) (n m : ℕ) (x y : Expr) (ts rest : List Lexeme) → IsExpr source n x ts rest → IsExpr source m y ts rest → x ≡ y
same_expression source n m x y ts rest d e =
    let k = max n m in
    let f : Front (IsExpr source k) x ts rest = expr_front source k x ts rest (expr_more source n k (omega arith) x ts rest d) in
    let g : Front (IsExpr source k) y ts rest = expr_front source k y ts rest (expr_more source m k (omega arith) y ts rest e) in
    let taken : f.taken ≡ g.taken = append_cancel_right f.taken g.taken rest (sym f.is ∙ g.is) in
    let first : expr source k false (f.taken ++ []) ≡ Ok (x, []) = (laws_at source k).completes x (f.taken ++ []) [] (f.holds []) refl in
    let second : expr source k false (g.taken ++ []) ≡ Ok (y, []) = (laws_at source k).completes y (g.taken ++ []) [] (g.holds []) refl in
    let both : ◌≡◌ {A = Read Expr} (Ok (x, [])) (Ok (y, [])) = sym first ∙ ap (λ us. expr source k false (us ++ [])) taken ∙ second in
    ap (λ (p : Expr × List Lexeme). p.0) (ok_is (x, []) (y, []) both)

pub one : (source : List ℕ) (tokens : List Token) (at : ℕ) (x y : Expr) (next : ℕ) → IsBetween source tokens at x next → IsBetween source tokens at y next → y ≡ x
one source tokens at x y next d e =
    same_expression source e.1.0 d.1.0 y x (drop at (lexemes source tokens)) (drop next (lexemes source tokens)) e.1.1 d.1.1
