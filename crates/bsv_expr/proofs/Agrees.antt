-- Two readers of the holes that agree, unless the first one was given too few brackets: what a grammar's reader
-- reads with the first one, it reads with the second one too.
use Rattle.std.proofs.Common.{◌≡◌, ◌⊎◌, inl, inr, ℕ, zero, suc, Bool, true, false, ◌&&◌, if◌then◌else◌, List, length, Result, Ok, Err, refl, ap, subst}
use Rattle.bsv_lex.specs.declared.terminal.Terminal.{Terminal}
use Rattle.bsv_expr.specs.declared.lexeme.Lexeme.{Lexeme}
use Rattle.bsv_expr.specs.declared.fault.ReadFault.{ReadFault}
use Rattle.bsv_expr.specs.declared.fault.ReadFault.TheVariants as fault
use Rattle.bsv_expr.specs.Lexemes.{starts}
use Rattle.bsv_expr.specs.Grammar.{Grammar}
use Rattle.bsv_expr.specs.Reading.{◌>>=◌, Read, softened, turns, read}

-- the first is for want of brackets, or the second is the same
abbrev pub Agree : {A : Type 0} → Result A ReadFault → Result A ReadFault → Type 0
Agree r s = (r ≡ Err fault.TooDeep) ⊎ (s ≡ r)

same : {A : Type 0} (r : Result A ReadFault) → Agree r r
same r = inr refl

bind_agrees : {A B : Type 0} (r s : Result A ReadFault) (f h : A → Result B ReadFault) → Agree r s → ((x : A) → Agree (f x) (h x)) → Agree (r >>= f) (s >>= h)
bind_agrees (Ok x) s f h (inl e) go = absurd cc
bind_agrees (Err d) s f h (inl e) go = inl (let is : d ≡ fault.TooDeep = cc in ap Err is)
bind_agrees (Ok x) s f h (inr e) go = rw e (go x)
bind_agrees (Err d) s f h (inr e) go = rw e (inr refl)

too_deep : {A B : Type 0} (soft : Bool) (other : Result B ReadFault) (f : A → Result B ReadFault) → softened soft (Err fault.TooDeep) other f ≡ Err fault.TooDeep
too_deep true other f = refl
too_deep false other f = refl

softened_agrees : {A B : Type 0} (soft : Bool) (r s : Result A ReadFault) (other : Result B ReadFault) (f h : A → Result B ReadFault) → Agree r s → ((x : A) → Agree (f x) (h x)) → Agree (softened soft r other f) (softened soft s other h)
softened_agrees soft (Ok x) s other f h (inl e) go = absurd cc
softened_agrees soft (Err d) s other f h (inl e) go = inl (subst (λ c. softened soft (Err c) other f ≡ Err fault.TooDeep) (let is : fault.TooDeep ≡ d = cc in is) (too_deep soft other f))
softened_agrees soft (Ok x) s other f h (inr e) go = rw e (go x)
softened_agrees soft (Err d) s other f h (inr e) go = rw e (inr refl)

if_agrees : {A : Type 0} (b : Bool) (r s t u : Result A ReadFault) → Agree r s → Agree t u → Agree (if b then r else t) (if b then s else u)
if_agrees true r s t u first second = first
if_agrees false r s t u first second = second

module _ {S A : Type 0} (soft : Bool) (set : List Terminal) (goes : S → Bool) (step : S → A → S) (item other : List Lexeme → Read A) (items : (ts : List Lexeme) → Agree (item ts) (other ts)) where
  turns_agrees : (n : ℕ) (s : S) (ts : List Lexeme) → Agree (turns soft set goes step item n s ts) (turns soft set goes step other n s ts)
  unfolding turns
  turns_agrees zero s ts = inr refl
  turns_agrees (suc n) s ts =
      if_agrees (goes s && starts set ts) _ _ (Ok (s, ts)) (Ok (s, ts))
      (softened_agrees soft (item ts) (other ts) (Ok (s, ts)) (λ a. turns soft set goes step item n (step s a.0) a.1) (λ a. turns soft set goes step other n (step s a.0) a.1) (items ts) (λ a. turns_agrees n (step s a.0) a.1))
      (inr refl)

module _ {H : Type 0} {T : H → Type 0} (source : List ℕ) (inner other : (h : H) → List Lexeme → Read (T h)) (holes : (h : H) (ts : List Lexeme) → Agree (inner h ts) (other h ts)) where
  pub agrees : {A : Type 0} (g : Grammar H T A) (soft : Bool) (ts : List Lexeme) → Agree (read source inner soft g ts) (read source other soft g ts)
  unfolding read
  agrees (Grammar.nothing c) soft ts = inr refl
  agrees (Grammar.leaf set tell) soft ts = inr refl
  agrees (Grammar.hole h) soft ts = holes h ts
  agrees (Grammar.made f p) soft ts = bind_agrees _ _ _ _ (agrees p soft ts) (λ a. inr refl)
  agrees (Grammar.both f p q) soft ts = bind_agrees _ _ _ _ (agrees p soft ts) (λ a. bind_agrees _ _ _ _ (agrees q soft a.1) (λ b. inr refl))
  agrees (Grammar.bind fs ms p k) soft ts = bind_agrees _ _ _ _ (agrees p soft ts) (λ a. agrees (k a.0) soft a.1)
  agrees (Grammar.between f o p c) soft ts = bind_agrees _ _ _ _ (inr refl) (λ v. bind_agrees _ _ _ _ (agrees p false v.1) (λ a. inr refl))
  agrees (Grammar.choose set p q) soft ts = if_agrees (starts set ts) _ _ _ _ (agrees p soft ts) (agrees q soft ts)
  agrees (Grammar.maybe set p) soft ts = if_agrees (starts set ts) _ _ _ _ (softened_agrees soft _ _ _ _ _ (agrees p soft ts) (λ a. inr refl)) (inr refl)
  agrees (Grammar.fold set goes step p q) soft ts = bind_agrees _ _ _ _ (agrees p soft ts) (λ a. turns_agrees soft set goes step (read source inner soft q) (read source other soft q) (agrees q soft) (length a.1) a.0 a.1)
  agrees (Grammar.named fs ms p) soft ts = agrees p soft ts
