-- A reader that was given too few brackets comes before so many open ones.
use Rattle.std.proofs.Common.{◌≡◌, ℕ, zero, suc, ◌+◌, ◌≤◌, Bool, true, false, ◌&&◌, List, [], ◌∷◌, length, Option, Some, None, Ok, Err, subst, sym, arith}
use Rattle.bsv_lemmas.proofs.Truths.{both_left as and_left}
use Rattle.bsv_ast.specs.declared.text.Span.{Span}
use Rattle.bsv_lex.specs.declared.terminal.Terminal.{Terminal}
use Rattle.bsv_expr.specs.declared.lexeme.Lexeme.{Lexeme}
use Rattle.bsv_expr.specs.declared.fault.ReadFault.TheVariants as fault
use Rattle.bsv_expr.specs.Lexemes.{is_in, starts}
use Rattle.bsv_expr.specs.Grammar.{Phrase, Grammar, Means}
use Rattle.bsv_expr.specs.Reading.{Read, softened, turns, read, span_told}
use Rattle.bsv_expr.specs.Brackets.{openers, Reaches}
use Rattle.bsv_expr.proofs.Ahead.{guarded, Tame}
use Rattle.bsv_expr.proofs.Tools.{next, Next}
use Rattle.bsv_expr.proofs.Sound.{sound}
use Rattle.bsv_expr.proofs.Closing.{opening, lower_limit, Balanced, balanced, bonus, at_once, behind, fails, soft_fails, chosen, no_leaf}

both_left : (a b : Bool) → bonus (a && b) ≤ bonus a
both_left true true = omega arith
both_left true false = omega arith
both_left false b = omega arith

both_right : (a b : Bool) → bonus (a && b) ≤ bonus b
both_right true b = omega arith
both_right false b = omega arith

at_most : (a : Bool) → bonus a ≤ 1
at_most true = omega arith
at_most false = omega arith

-- what is reached with a greater bonus is reached with a smaller one
weaker : (m k a b : ℕ) (ts : List Lexeme) → a ≤ b → Reaches (m + b + k) k ts → Reaches (m + a + k) k ts
weaker m k a b ts le r = lower_limit (m + b + k) (m + a + k) k ts (omega arith) r

module _ {S A : Type 0} (soft : Bool) (set : List Terminal) (goes_on : S → Bool) (step_of : S → A → S) (item : List Lexeme → Read A) (Item : Phrase A)
    (item_sound : (ts : List Lexeme) (x : A) (rest : List Lexeme) → item ts ≡ Ok (x, rest) → Item x ts rest) (item_balanced : Balanced Item)
    (l k : ℕ) (item_deep : (ts : List Lexeme) → item ts ≡ Err fault.TooDeep → Reaches l k ts) where
  -- an item is for want of brackets, after others that close theirs
  turns_deep : (n : ℕ) (s : S) (ts : List Lexeme) → turns soft set goes_on step_of item n s ts ≡ Err fault.TooDeep → Reaches l k ts
  unfolding turns
  turns_deep zero s ts e = absurd cc
  turns_deep (suc n) s ts e =
      chosen (goes_on s && starts set ts) (softened soft (item ts) (Ok (s, ts)) (λ a. turns soft set goes_on step_of item n (step_of s a.0) a.1)) (Ok (s, ts)) (Reaches l k ts) e
      (λ d. elim (soft_fails soft (item ts) (s, ts) (λ a. turns soft set goes_on step_of item n (step_of s a.0) a.1) d) [
        | at_once is ↦ item_deep ts is
        | behind a at last ↦ item_balanced a.0 ts a.1 (item_sound ts a.0 a.1 at) l k (turns_deep n (step_of s a.0) a.1 last)
      ])
      (λ d. absurd cc)

module _ {H : Type 0} {T : H → Type 0} (source : List ℕ) (inner : (h : H) → List Lexeme → Read (T h)) (Inner : (h : H) → Phrase (T h))
    (inner_sound : (h : H) (ts : List Lexeme) (x : T h) (rest : List Lexeme) → inner h ts ≡ Ok (x, rest) → Inner h x ts rest)
    (free : H → Bool) (inner_balanced : (h : H) → Balanced (Inner h)) (m : ℕ)
    (inner_deep : (h : H) (ts : List Lexeme) → inner h ts ≡ Err fault.TooDeep → (k : ℕ) → Reaches (m + bonus (free h) + k) k ts) where
  -- after an opening bracket one more is open
  between_deep : (o : Terminal) (b : ℕ) (ts us : List Lexeme) (s : Span) (k : ℕ) → is_in openers o ≡ true → Next o s ts us → Reaches (m + b + suc k) (suc k) us → Reaches (m + 1 + k) k ts
  between_deep o b ts us s k starting l r =
      let opens : is_in openers l.token.terminal ≡ true = subst (λ t. is_in openers t ≡ true) (sym l.by) starting in
      let lower : Reaches (m + 1 + k) (suc k) us = lower_limit (m + b + suc k) (m + 1 + k) (suc k) us (omega arith) r in
      subst (λ vs. Reaches (m + 1 + k) k vs) (sym l.is) (Reaches.later (subst (λ n. Reaches (m + 1 + k) n us) (sym (opening k l.token.terminal opens)) lower))

  -- where a reader was given too few brackets, so many are open, and one more where each hole is guarded
  pub deep : {A : Type 0} (g : Grammar H T A) → Tame free g → (soft : Bool) (ts : List Lexeme) → read source inner soft g ts ≡ Err fault.TooDeep → (k : ℕ) → Reaches (m + bonus (guarded free g) + k) k ts
  unfolding read Tame guarded
  deep (Grammar.nothing c) tame soft ts e k = absurd cc
  deep (Grammar.leaf set tell) tame soft ts e k = absurd (no_leaf source set tell ts e)
  deep (Grammar.hole h) tame soft ts e k = inner_deep h ts e k
  deep (Grammar.made f p) tame soft ts e k =
      elim (fails _ _ e) [
        | at_once is ↦ deep p tame soft ts is k
        | behind a at last ↦ absurd cc
      ]
  deep (Grammar.both f p q) tame soft ts e k =
      elim (fails _ _ e) [
        | at_once is ↦ weaker m k (bonus (guarded free p && guarded free q)) (bonus (guarded free p)) ts (both_left (guarded free p) (guarded free q)) (deep p tame.0 soft ts is k)
        | behind a at second ↦ elim (fails _ _ second) [
          | at_once is ↦ balanced source Inner free inner_balanced p tame.0 a.0 ts a.1 (sound source inner Inner inner_sound p soft ts a.0 a.1 at) (m + bonus (guarded free p && guarded free q) + k) k
              (weaker m k (bonus (guarded free p && guarded free q)) (bonus (guarded free q)) a.1 (both_right (guarded free p) (guarded free q)) (deep q tame.1 soft a.1 is k))
          | behind b bt last ↦ absurd cc
        ]
      ]
  deep (Grammar.bind fs ms p c) tame soft ts e k =
      elim (fails _ _ e) [
        | at_once is ↦ deep p tame.0 soft ts is k
        | behind a at second ↦
            balanced source Inner free inner_balanced p tame.0 a.0 ts a.1 (sound source inner Inner inner_sound p soft ts a.0 a.1 at) (m + bonus (guarded free p) + k) k
            (weaker m k (bonus (guarded free p)) 1 a.1 (at_most (guarded free p))
            (subst (λ b. Reaches (m + bonus b + k) k a.1) (tame.1 a.0).0 (deep (c a.0) (tame.1 a.0).1 soft a.1 second k)))
      ]
  deep (Grammar.between f o p c) tame soft ts e k =
      elim (fails _ _ e) [
        | at_once is ↦ absurd (no_leaf source (o ∷ []) span_told ts is)
        | behind v at inside ↦ elim (fails _ _ inside) [
          | at_once is ↦ between_deep o (bonus (guarded free p)) ts v.1 v.0 k (and_left _ _ tame.0) (next source o ts v.0 v.1 at) (deep p tame.1 false v.1 is (suc k))
          | behind a within closes ↦ elim (fails _ _ closes) [
            | at_once is ↦ absurd (no_leaf source (c ∷ []) span_told a.1 is)
            | behind w bt last ↦ absurd cc
          ]
        ]
      ]
  deep (Grammar.choose set p q) tame soft ts e k =
      chosen (starts set ts) (read source inner soft p ts) (read source inner soft q ts) (Reaches (m + bonus (guarded free p && guarded free q) + k) k ts) e
      (λ is. weaker m k (bonus (guarded free p && guarded free q)) (bonus (guarded free p)) ts (both_left (guarded free p) (guarded free q)) (deep p tame.0 soft ts is k))
      (λ is. weaker m k (bonus (guarded free p && guarded free q)) (bonus (guarded free q)) ts (both_right (guarded free p) (guarded free q)) (deep q tame.1 soft ts is k))
  deep (Grammar.maybe {A} set p) tame soft ts e k =
      chosen {A = Option A × List Lexeme} (starts set ts) (softened soft (read source inner soft p ts) (Ok (None, ts)) (λ a. Ok (Some a.0, a.1))) (Ok (None, ts)) (Reaches (m + bonus (guarded free p) + k) k ts) e
      (λ d. elim (soft_fails {B = Option A × List Lexeme} soft (read source inner soft p ts) (None, ts) (λ a. Ok (Some a.0, a.1)) d) [
        | at_once is ↦ deep p tame soft ts is k
        | behind a at last ↦ absurd cc
      ])
      (λ d. absurd cc)
  deep (Grammar.fold set goes_on step_of p q) tame soft ts e k =
      elim (fails _ _ e) [
        | at_once is ↦ weaker m k (bonus (guarded free p && guarded free q)) (bonus (guarded free p)) ts (both_left (guarded free p) (guarded free q)) (deep p tame.0 soft ts is k)
        | behind a at second ↦
            balanced source Inner free inner_balanced p tame.0 a.0 ts a.1 (sound source inner Inner inner_sound p soft ts a.0 a.1 at) (m + bonus (guarded free p && guarded free q) + k) k
            (turns_deep soft set goes_on step_of (read source inner soft q) (Means source Inner q) (λ us y vs d. sound source inner Inner inner_sound q soft us y vs d) (balanced source Inner free inner_balanced q tame.1)
            (m + bonus (guarded free p && guarded free q) + k) k
            (λ us is. weaker m k (bonus (guarded free p && guarded free q)) (bonus (guarded free q)) us (both_right (guarded free p) (guarded free q)) (deep q tame.1 soft us is k))
            (length a.1) a.0 a.1 second)
      ]
  deep (Grammar.named fs ms p) tame soft ts e k = deep p tame soft ts e k
