-- What holds of all that a part of building gives, put together step by step.
use Rattle.std.proofs.Common.{◌≡◌, Bool, true, false, Result, Ok, Err, subst}
use Rattle.std.specs.Prelude.{if◌then◌else◌}
use Rattle.bsv_fail.specs.Given.{◌>>=◌}
use Rattle.bsv_tree.specs.declared.values.Fault.{Fault}
use Rattle.bsv_tree.specs.tree.Trees.{IsAccepted}
use Rattle.bsv_elab.specs.Statics.{carried}

abbrev pub GivesOf : {A E : Type 0} → (A → Type 0) → Result A E → Type 0
GivesOf P (Err e) = Unit {0}
GivesOf P (Ok a) = P a

-- what it gives, if it gives something, is so
pub record Gives {A E : Type 0} (P : A → Type 0) (x : Result A E) : Type 0 where
  pub gives : GivesOf P x

pub gives_then : {A B E : Type 0} {P : A → Type 0} {Q : B → Type 0} {x : Result A E} (f : A → Result B E) → Gives P x
    → ((a : A) → P a → Gives Q (f a)) → Gives Q (x >>= f)
gives_then {x = Err e} f h k = record { gives = tt }
gives_then {x = Ok a} f h k = k a h.gives

pub anything : {A E : Type 0} (x : Result A E) → Gives (λ a. Unit {0}) x
anything (Err e) = record { gives = tt }
anything (Ok a) = record { gives = tt }

pub gives_if : {A E : Type 0} {P : A → Type 0} {x y : Result A E} (b : Bool) → Gives P x → Gives P y → Gives P (if b then x else y)
gives_if true h k = h
gives_if false h k = k

pub gives_more : {A E : Type 0} (P Q : A → Type 0) (x : Result A E) → ((a : A) → P a → Q a) → Gives P x → Gives Q x
gives_more P Q (Err e) f h = record { gives = tt }
gives_more P Q (Ok a) f h = record { gives = f a h.gives }

pub given : {A E : Type 0} (P : A → Type 0) (x : Result A E) (a : A) → Gives P x → x ≡ Ok a → P a
given P x a h is = (subst (λ z. GivesOf P z) is h.gives)

-- what was carried out met no refusal
pub accepted_gives : {A : Type 0} (x : Result A Fault) → Gives (λ a. IsAccepted x) (carried x)
accepted_gives (Err e) = record { gives = tt }
accepted_gives (Ok a) = record { gives = tt }
