-- A phrase closes each bracket that it opens; and where a reader was given too few brackets, so many are open.
use Rattle.std.proofs.Common.{◌≡◌, inl, inr, ℕ, suc, ◌-◌, ◌≤◌, Bool, true, false, not, ◌&&◌, if◌then◌else◌, List, [], ◌∷◌, ◌++◌, Option, Some, None, Result, Ok, Err, refl, ap, subst, sym, arith}
use Rattle.std.proofs.lemmas.Bool.{not-true}
use Rattle.bsv_lemmas.proofs.Truths.{both_left, both_right}
use Rattle.bsv_lex.specs.declared.terminal.Terminal.{Terminal}
use Rattle.bsv_expr.specs.declared.lexeme.Lexeme.{Lexeme}
use Rattle.bsv_expr.specs.declared.fault.ReadFault.{ReadFault}
use Rattle.bsv_expr.specs.declared.fault.ReadFault.TheVariants as fault
use Rattle.bsv_expr.specs.Lexemes.{is_in, is_apart}
use Rattle.bsv_expr.specs.Grammar.{Phrase, Grammar, Means, Fold, Maybe}
use Rattle.bsv_expr.specs.Reading.{◌>>=◌, softened, take_leaf, on_some, refuse}
use Rattle.bsv_expr.specs.Brackets.{openers, closers, open_after, Reaches}
use Rattle.bsv_expr.proofs.Ahead.{Tame}
use Rattle.bsv_expr.proofs.Sets.{apart_in, append_left, append_right}

plain_token : (set : List Terminal) (count : ℕ) (t : Terminal) → is_apart (openers ++ closers) set ≡ true → is_in set t ≡ true → open_after count t ≡ count
unfolding open_after
plain_token set count t e of =
    let out : is_in (openers ++ closers) t ≡ false = apart_in (openers ++ closers) set t e of in
    rw (append_left openers closers t out, append_right openers closers t out) refl

-- an opening bracket opens one more
pub opening : (count : ℕ) (t : Terminal) → is_in openers t ≡ true → open_after count t ≡ suc count
unfolding open_after
opening count t e = rw e refl

closing : (count : ℕ) (t : Terminal) → is_in openers t ≡ false → is_in closers t ≡ true → open_after (suc count) t ≡ count
unfolding open_after
closing count t e f = rw (e, f) (let is : suc count - 1 ≡ count = omega arith in is)

pub lower_limit : (l m k : ℕ) (ts : List Lexeme) → m ≤ l → Reaches l k ts → Reaches m k ts
lower_limit l m k ts le (Reaches.here h) = Reaches.here (omega arith)
lower_limit l m k ts le (Reaches.later {w = w} {ts = us} d) = Reaches.later (lower_limit l m (open_after k w.terminal) us le d)

-- a phrase closes what it opens
abbrev pub Balanced : {A : Type 0} → Phrase A → Type 0
Balanced {A} P = (x : A) (ts rest : List Lexeme) → P x ts rest → (l k : ℕ) → Reaches l k rest → Reaches l k ts

fold_balanced : {S A : Type 0} (goes : S → Bool) (step : S → A → S) (Item : Phrase A) → Balanced Item → (s y : S) (ts rest : List Lexeme) → Fold goes step Item s y ts rest → (l k : ℕ) → Reaches l k rest → Reaches l k ts
fold_balanced goes_on step_of Item each s y ts rest Fold.done l k r = r
fold_balanced goes_on step_of Item each s y ts rest (Fold.turn {a = a} {us = us} is d ds) l k r = each a ts us d l k (fold_balanced goes_on step_of Item each (step_of s a) y us rest ds l k r)

between_balanced : (l k : ℕ) (v w : Lexeme) (us rest : List Lexeme) → is_in openers v.terminal ≡ true → is_in openers w.terminal ≡ false → is_in closers w.terminal ≡ true
    → (Reaches l (suc k) (w ∷ rest) → Reaches l (suc k) us) → Reaches l k rest → Reaches l k (v ∷ us)
between_balanced l k v w us rest o other c inside r =
    Reaches.later (subst (λ n. Reaches l n us) (sym (opening k v.terminal o)) (inside (Reaches.later (subst (λ n. Reaches l n rest) (sym (closing k w.terminal other c)) r))))

module _ {H : Type 0} {T : H → Type 0} (source : List ℕ) (Inner : (h : H) → Phrase (T h)) (free : H → Bool) (inner_balanced : (h : H) → Balanced (Inner h)) where
  pub balanced : {A : Type 0} (g : Grammar H T A) → Tame free g → Balanced (Means source Inner g)
  unfolding Means Tame
  balanced (Grammar.nothing c) tame x ts rest d l k r = subst (λ us. Reaches l k us) (sym d.1) r
  balanced (Grammar.leaf set tell) tame x ts rest d l k r =
      subst (λ us. Reaches l k us) (sym d.is) (Reaches.later (subst (λ n. Reaches l n rest) (sym (plain_token set k d.token.terminal tame d.of)) r))
  balanced (Grammar.hole h) tame x ts rest d l k r = inner_balanced h x ts rest d l k r
  balanced (Grammar.made f p) tame x ts rest d l k r = balanced p tame d.inner ts rest d.holds l k r
  balanced (Grammar.both f p q) tame x ts rest d l k r = balanced p tame.0 d.left ts d.middle d.first l k (balanced q tame.1 d.right d.middle rest d.second l k r)
  balanced (Grammar.bind fs ms p c) tame x ts rest d l k r = balanced p tame.0 d.left ts d.middle d.first l k (balanced (c d.left) (tame.1 d.left).1 x d.middle rest d.second l k r)
  balanced (Grammar.between f o p c) tame x ts rest d l k r =
      let starting : is_in openers d.opening.terminal ≡ true = subst (λ t. is_in openers t ≡ true) (sym d.by) (both_left (is_in openers o) (not (is_in openers c) && is_in closers c) tame.0) in
      let close : (not (is_in openers c) && is_in closers c) ≡ true = both_right (is_in openers o) (not (is_in openers c) && is_in closers c) tame.0 in
      let other : is_in openers d.closing.terminal ≡ false = subst (λ t. is_in openers t ≡ false) (sym d.closes) (not-true (is_in openers c) (both_left (not (is_in openers c)) (is_in closers c) close)) in
      let ending : is_in closers d.closing.terminal ≡ true = subst (λ t. is_in closers t ≡ true) (sym d.closes) (both_right (not (is_in openers c)) (is_in closers c) close) in
      subst (λ us. Reaches l k us) (sym d.opens) (between_balanced l k d.opening d.closing d.middle rest starting other ending (balanced p tame.1 d.inner d.middle (d.closing ∷ rest) d.holds l (suc k)) r)
  balanced (Grammar.choose set p q) tame x ts rest (inl d) l k r = balanced p tame.0 x ts rest d l k r
  balanced (Grammar.choose set p q) tame x ts rest (inr d) l k r = balanced q tame.1 x ts rest d l k r
  balanced (Grammar.maybe set p) tame x ts rest Maybe.none l k r = r
  balanced (Grammar.maybe set p) tame x ts rest (Maybe.some {a = a} d) l k r = balanced p tame a ts rest d l k r
  balanced (Grammar.fold set goes_on step_of p q) tame x ts rest d l k r =
      balanced p tame.0 d.start ts d.middle d.first l k (fold_balanced goes_on step_of (Means source Inner q) (balanced q tame.1) d.start x d.middle rest d.turns l k r)
  balanced (Grammar.named fs ms p) tame x ts rest d l k r = balanced p tame x ts rest d l k r

abbrev pub bonus : Bool → ℕ
bonus true = 1
bonus false = 0

-- where a step is for want of brackets, the first part of it is, or what goes on after it
pub data Fails {A B : Type 0} (r : Result A ReadFault) (f : A → Result B ReadFault) : Type 0 where
  at_once : r ≡ Err fault.TooDeep → Fails r f
  behind : (x : A) → r ≡ Ok x → f x ≡ Err fault.TooDeep → Fails r f

pub fails : {A B : Type 0} (r : Result A ReadFault) (f : A → Result B ReadFault) → (r >>= f) ≡ Err fault.TooDeep → Fails r f
fails (Ok x) f e = behind x refl e
fails (Err d) f e = at_once (let is : d ≡ fault.TooDeep = cc in ap Err is)

-- the same where the first part may be left out
pub soft_fails : {A B : Type 0} (soft : Bool) (r : Result A ReadFault) (b : B) (f : A → Result B ReadFault) → softened soft r (Ok b) f ≡ Err fault.TooDeep → Fails r f
soft_fails soft (Ok x) b f e = behind x refl e
soft_fails true (Err (fault.Syntax at)) b f e = absurd cc
soft_fails false (Err (fault.Syntax at)) b f e = absurd cc
soft_fails soft (Err fault.TooDeep) b f e = at_once refl
soft_fails true (Err fault.OutOfMemory) b f e = absurd cc
soft_fails false (Err fault.OutOfMemory) b f e = absurd cc

-- the part that was chosen is for want of brackets
pub chosen : {A : Type 0} (b : Bool) (r q : Result A ReadFault) (P : Type 0) → (if b then r else q) ≡ Err fault.TooDeep → (r ≡ Err fault.TooDeep → P) → (q ≡ Err fault.TooDeep → P) → P
chosen true r q P e f g = f e
chosen false r q P e f g = g e

no_token : {C : Type 0} (b : Bool) (o : Option C) (ts : List Lexeme) (w : Lexeme) → (if b then on_some o (refuse {A = C × List Lexeme} (w ∷ ts)) (λ c. Ok (c, ts)) else refuse (w ∷ ts)) ≡ Err fault.TooDeep → ⊥
no_token true None ts w e = absurd cc
no_token true (Some c) ts w e = absurd cc
no_token false o ts w e = absurd cc

-- a leaf never is
pub no_leaf : {C : Type 0} (source : List ℕ) (set : List Terminal) (tell : List ℕ → Lexeme → Option C) (ts : List Lexeme) → take_leaf source set tell ts ≡ Err fault.TooDeep → ⊥
unfolding take_leaf
no_leaf source set tell [] e = absurd cc
no_leaf {C} source set tell (w ∷ ts) e = no_token (is_in set w.terminal) (tell source w) ts w e
