-- What is noted of a use of a part.
use Rattle.std.proofs.Common.{◌≡◌, ◌<◌, ℕ, Bool, true, List, Some, None, Result, Ok, Err, length, ap, sym, ◌∙◌, subst, arith}
use Rattle.std.specs.Prelude.{slice_get, IsTrue, IfOk}
use Rattle.std.proofs.lemmas.Bool.{ltb-true}
use Rattle.bsv_design.specs.declared.kind.Kind.{Kind}
use Rattle.bsv_design.specs.parts.Kinds.{kind_table}
use Rattle.bsv_design.specs.design.Widths.{has_method}
use Rattle.bsv_schedule.specs.declared.relating.related.Relation.{Relation}
use Rattle.bsv_schedule.specs.declared.relating.usage.Use.{Use}
use Rattle.bsv_schedule.specs.relating.Related.{related, related_by}
use Rattle.bsv_schedule.specs.relating.Rows.{AreNotedOf, mark}

-- of each method of its kind
pub noted_each : {V E : Type 0} (items : V → List Bool) (w : Relation) (ks : List Kind) (own : Use) (k : Kind) (found : Result V E) → slice_get ks own.part ≡ Some k
    → IfOk found (λ v. length (items v) ≡ (kind_table k).methods)
    → IfOk found (λ v. (m : ℕ) → m < (kind_table k).methods → mark (items v) m ≡ related_by w k own.method m)
    → IfOk found (λ v. AreNotedOf w ks own (items v))
noted_each items w ks own k (Err e) at count each = each
noted_each items w ks own k (Ok v) at count each = λ m named.
    let there : has_method (Some k) m ≡ true = subst (λ o. IsTrue (has_method o m)) at named in
    let less : m < (kind_table k).methods = ltb-true m (kind_table k).methods there in
    (omega (arith, count, less), each m less ∙ sym (ap (λ o. related w o own.method m) at))

-- a use names a method of its part
pub names_part : (ks : List Kind) (part m : ℕ) → slice_get ks part ≡ None → IsTrue (has_method (slice_get ks part) m) → ⊥
names_part ks part m none named = let no : has_method None m ≡ true = subst (λ o. IsTrue (has_method o m)) none named in cc
