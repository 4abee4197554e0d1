-- What comes after some tokens.
use Rattle.std.proofs.Common.{◌≡◌, ℕ, zero, suc, ◌+◌, ◌-◌, ◌≤◌, Bool, true, false, if◌then◌else◌, List, [], ◌∷◌, ◌++◌, length, take, drop, ap, sym, ◌∙◌, append_assoc, length-append, arith}
use Rattle.std.proofs.Math.Seq.{drop-append_seam}
use Rattle.std.proofs.lemmas.List.{take-append-drop}
use Rattle.bsv_expr.specs.declared.lexeme.Lexeme.{Lexeme}
use Rattle.bsv_expr.specs.Lexemes.{is_in}
use Rattle.bsv_expr.specs.Brackets.{openers, closers, open_after, Reaches}

-- a part of a list after another one is what its length says
pub after_part : {A : Type 0} (a : ℕ) (ls taken rest : List A) → drop a ls ≡ taken ++ rest → drop (length ls - length rest) ls ≡ rest
after_part {A} a ls taken rest e =
    let whole : ls ≡ (take a ls ++ taken) ++ rest = sym (take-append-drop a ls) ∙ ap (λ us. take a ls ++ us) e ∙ sym (append_assoc (take a ls) taken rest) in
    let count : length ls ≡ length (take a ls ++ taken) + length rest = ap length whole ∙ length-append (take a ls ++ taken) rest in
    let place : length ls - length rest ≡ length (take a ls ++ taken) = omega arith in
    rw place (ap (drop (length (take a ls ++ taken))) whole ∙ drop-append_seam (take a ls ++ taken) rest)

pub part_fits : {A : Type 0} (a : ℕ) (ls taken rest : List A) → drop a ls ≡ taken ++ rest → length rest ≤ length ls
part_fits {A} a ls taken rest e =
    let whole : ls ≡ (take a ls ++ taken) ++ rest = sym (take-append-drop a ls) ∙ ap (λ us. take a ls ++ us) e ∙ sym (append_assoc (take a ls) taken rest) in
    let count : length ls ≡ length (take a ls ++ taken) + length rest = ap length whole ∙ length-append (take a ls ++ taken) rest in
    omega arith

after_by : (b c : Bool) (j k : ℕ) → j ≤ k → (if b then suc j else (if c then j - 1 else j)) ≤ (if b then suc k else (if c then k - 1 else k))
after_by true c j k le = omega arith
after_by false true j k le = omega arith
after_by false false j k le = le

-- with more brackets open before, as many are reached
pub from_more : (l j k : ℕ) (ts : List Lexeme) → j ≤ k → Reaches l j ts → Reaches l k ts
unfolding open_after
from_more l j k ts le (Reaches.here h) = Reaches.here (omega arith)
from_more l j k ts le (Reaches.later {w = w} {ts = us} d) =
    Reaches.later (from_more l (open_after j w.terminal) (open_after k w.terminal) us (after_by (is_in openers w.terminal) (is_in closers w.terminal) j k le) d)

-- what is reached after some tokens is reached from their front on
pub from_front : (l a k : ℕ) (ts : List Lexeme) → Reaches l 0 (drop a ts) → Reaches l k ts
from_front l zero k ts r = from_more l 0 k ts (omega arith) r
from_front l (suc a) k [] r = from_more l 0 k [] (omega arith) r
from_front l (suc a) k (w ∷ ts) r = Reaches.later (from_front l a (open_after k w.terminal) ts r)
