-- A new name is free, is taken then, and is Lower where its first part is.
use Rattle.std.proofs.Common.{◌≡◌, ◌∙◌, ℕ, ◌+◌, ◌<◌, Bool, true, false, List, [], ◌∷◌, ◌++◌, Ok, sym, ap, subst, arith, if◌then◌else◌}
use Rattle.std.specs.Prelude.{◌==◌, nat_lt, codes, decimal}
use Rattle.std.proofs.lemmas.Bool.{ltb-true}
use Rattle.bsv_lemmas.proofs.Choices.{same_ok, passed, not_refused}
use Rattle.bsv_ast.specs.Names.{is_lower}
use Rattle.bsv_fail.specs.Given.{◌>>=◌}
use Rattle.bsv_tree.specs.declared.values.Fault.TheVariants as fault
use Rattle.bsv_design.specs.design.Paths.{with_dot}
use Rattle.bsv_elab.specs.declared.refused.Refused.TheVariants as refused
use Rattle.bsv_elab.specs.Names.{Named, times, with_number, given_times, is_taken, numbered, take_name, new_name}
use Rattle.bsv_elab.proofs.NumberedNames.{numbered_lower}
use Rattle.bsv_elab.proofs.NamedLists.{is_in, Longer, taken_one}
use Rattle.bsv_elab.proofs.FittingSteps.{went}

-- a name that was free is taken
pub record Takes (name : List ℕ) (before after : Named) : Type 0 where
  pub fresh : is_in name before.taken ≡ false
  pub is : after.taken ≡ before.taken ++ name ∷ []

pub take_name_is : (path name : List ℕ) (n m : Named) → take_name path name n ≡ Ok m → Takes name n m
unfolding take_name
take_name_is path name n m e =
    let h = not_refused (is_taken name n) (Ok (record { given = n.given; taken = n.taken ++ name ∷ [] })) (refused.NameTaken (with_dot path name)) m e in
    let is = same_ok (record { given = n.given; taken = n.taken ++ name ∷ [] }) m h.1 in
    record { fresh = h.0; is = sym (ap (λ (z : Named). z.taken) is) }

pub takes_longer : (name : List ℕ) (n m : Named) → Takes name n m → Longer n.taken m.taken
takes_longer name n m h = record { more = name ∷ []; is = h.is }

pub takes_taken : (name : List ℕ) (n m : Named) → Takes name n m → is_in name m.taken ≡ true
takes_taken name n m h = subst (λ z. is_in name z ≡ true) (sym h.is) (taken_one name n.taken)

with_number_lower : (name : List ℕ) (k : ℕ) → k < 4294967295 → is_lower name ≡ true → is_lower (with_number name k) ≡ true
with_number_lower name k below h = by (k == 0) where
  by : (b : Bool) → is_lower (if b then name else name ++ (codes "_" ++ decimal k)) ≡ true
  by true = h
  by false = numbered_lower name k (omega arith) h

pub record NewName (name : List ℕ) (n : Named) (r : List ℕ × Named) : Type 0 where
  pub lower : is_lower name ≡ true → is_lower r.0 ≡ true
  pub takes : Takes r.0 n r.1

pub new_name_is : (path name : List ℕ) (n : Named) (r : List ℕ × Named) → new_name path name n ≡ Ok r → NewName name n r
unfolding new_name numbered
new_name_is path name n r e =
    let p = went (numbered name n) (λ z. take_name path z.0 z.1 >>= λ names. Ok (z.0, names)) r e in
    let q = went (take_name path p.0.0 p.0.1) (λ names. Ok (p.0.0, names)) r p.2 in
    let h = passed (nat_lt (times n name) 4294967295) (Ok (with_number name (times n name), given_times name (times n name + 1) n))
    (refused.Carried fault.Weight) p.0 p.1 in
    let is = same_ok (with_number name (times n name), given_times name (times n name + 1) n) p.0 h.1 in
    let took = take_name_is path p.0.0 p.0.1 q.0 q.1 in
    let same : p.0.1.taken ≡ n.taken = sym (ap (λ (z : List ℕ × Named). z.1.taken) is) in
    let below = ltb-true (times n name) 4294967295 h.0 in
    subst (NewName name n) (same_ok (p.0.0, q.0) r q.2) (record {
      lower = λ low. subst (λ (z : List ℕ × Named). is_lower z.0 ≡ true) is (with_number_lower name (times n name) below low);
      takes = record {
        fresh = subst (λ z. is_in p.0.0 z ≡ false) same took.fresh;
        is = took.is ∙ ap (λ z. z ++ p.0.0 ∷ []) same;
      };
    })
