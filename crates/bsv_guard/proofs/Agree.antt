-- Answers to calls that are not taken decide nothing, and the answers to calls that act are never asked.
use Rattle.std.proofs.Common.{◌≡◌, ◌∙◌, ℕ, Bool, true, false, cond, List, Some, refl, sym, ap, subst}
use Rattle.std.specs.Prelude.{slice_get}
use Rattle.bsv_bits.specs.Words.{Bits}
use Rattle.bsv_design.specs.declared.kind.Kind.{Kind}
use Rattle.bsv_design.specs.design.Bodies.{Answers}
use Rattle.bsv_design.specs.design.Branches.{AgreeOnTaken, AreSameWhereTaken}
use Rattle.bsv_design.specs.scheme.Schemes.{Scheme, AreArgumentsOf}
use Rattle.bsv_design.specs.scheme.Traces.{Site, acts, kind_at}
use Rattle.bsv_guard.specs.Sound.{IsSound}

-- the first answers to calls that act, and the second ones to all others
abbrev mixed : List Kind → Answers → Answers → Answers
mixed ks q r k t args = cond (acts (kind_at ks t) t.method) (q k t args) (r k t args)

-- the answers are the same for each of these calls that is taken and gives a value
abbrev pub AgreeOnTakenReads : Answers → Answers → List Site → Type 0
AgreeOnTakenReads q r xs =
    (k : ℕ) (x : Site) → slice_get xs k ≡ Some x → x.taken ≡ true → x.action ≡ false → q k x.target x.arguments ≡ r k x.target x.arguments

module _ (S : Scheme) (ok : IsSound S) (n : ℕ) (ws : List Bits) (fit : AreArgumentsOf S n ws) where
  taken_agree : (q r : Answers) → AgreeOnTakenReads q r (S.trace n q ws).sites → AgreeOnTaken q (mixed S.kinds q r) (S.trace n q ws).sites
  taken_agree q r h k x e t = cases x.action refl
    where
      cases : (b : Bool) → x.action ≡ b → q k x.target x.arguments ≡ mixed S.kinds q r k x.target x.arguments
      cases true act = sym (ap (λ (c : Bool). cond c (q k x.target x.arguments) (r k x.target x.arguments)) (sym (ok.actions n q ws fit k x e) ∙ act))
      cases false read =
          h k x e t read
          ∙ sym (ap (λ (c : Bool). cond c (q k x.target x.arguments) (r k x.target x.arguments)) (sym (ok.actions n q ws fit k x e) ∙ read))

  mixed_same : (q r : Answers) → S.trace n (mixed S.kinds q r) ws ≡ S.trace n r ws
  mixed_same q r =
      ok.local n (mixed S.kinds q r) r ws fit
      (λ k x e read. ap (λ (c : Bool). cond c (q k x.target x.arguments) (r k x.target x.arguments)) (sym (ok.actions n (mixed S.kinds q r) ws fit k x e) ∙ read))

  pub decided_by_reads : (q r : Answers) → AgreeOnTakenReads q r (S.trace n q ws).sites → AreSameWhereTaken (S.trace n q ws) (S.trace n r ws)
  decided_by_reads q r h =
      subst (AreSameWhereTaken (S.trace n q ws)) (mixed_same q r)
      (ok.decided n q (mixed S.kinds q r) ws fit (taken_agree q r h))
