-- What is found of one rule of a design says of its scheme.
use Rattle.std.proofs.Common.{◌≡◌, ◌∙◌, ℕ, ◌<◌, ◌≤◌, Bool, true, false, List, length, Some, refl, sym, subst, arith}
use Rattle.std.specs.Prelude.{slice_get}
use Rattle.bsv_design.specs.declared.design.Design.{Design}
use Rattle.bsv_design.specs.declared.design.NamedPart.{NamedPart}
use Rattle.bsv_design.specs.declared.element.Element.{Element}
use Rattle.bsv_design.specs.declared.schedule.Schedule.{Schedule}
use Rattle.bsv_design.specs.declared.attributes.Assert.{Assert}
use Rattle.bsv_design.specs.scheme.Schemes.{Scheme, design_scheme}
use Rattle.bsv_design.specs.scheme.Seen.{design_data}
use Rattle.bsv_attr.specs.Asserting.{IsExplicit, IsUnstopped, AreExplicit, AreUnstopped, NamesImplicit, NamesStopped}
use Rattle.bsv_attr.specs.Calling.{implicit_places}
use Rattle.bsv_attr.specs.Implicit.{IsFirstTrue, NoneTrue}
use Rattle.bsv_schedule.specs.relating.Marks.{IsMarked}
use Rattle.bsv_attr.specs.Stopping.{IsFirstListed}
use Rattle.bsv_attr.proofs.Elements.{implicit_is, marked_within}

abbrev pub scheme : Design → Scheme
scheme d = design_scheme (design_data d)

pub marks_are : (d : Design) → (scheme d).asserts ≡ d.asserts
unfolding design_scheme
marks_are d = refl

is_marked : (d : Design) (marks : List Assert) (fires : Bool) (n : ℕ) → marks ≡ d.asserts → IsMarked marks fires n → IsMarked (scheme d).asserts fires n
is_marked d marks fires n are h = subst (λ ms. IsMarked ms fires n) (are ∙ sym (marks_are d)) h

unmarked : (d : Design) (marks : List Assert) (fires : Bool) (n : ℕ) → marks ≡ d.asserts → ¬ IsMarked marks fires n → ¬ IsMarked (scheme d).asserts fires n
unmarked d marks fires n are h m = h (subst (λ ms. IsMarked ms fires n) (marks_are d ∙ sym are) m)

-- ---- implicit conditions

pub names_implicit : (d : Design) (n place : ℕ) (e : Element) (marks : List Assert) (ps : List NamedPart) → marks ≡ d.asserts → ps ≡ d.parts
    → slice_get d.elements n ≡ Some e → IsMarked marks false n → IsFirstTrue (implicit_places ps e) place → ((m : ℕ) → m < n → IsExplicit (scheme d) m)
    → NamesImplicit (scheme d) n place
names_implicit d n place e marks ps are parts at m f before = record {
  marked = is_marked d marks false n are m;
  implicit = subst (λ bs. IsFirstTrue bs place) (sym (implicit_is (design_data d) n e at)) (subst (λ qs. IsFirstTrue (implicit_places qs e) place) parts f);
  earlier = before;
}

pub explicit_here : (d : Design) (n : ℕ) (e : Element) (ps : List NamedPart) → ps ≡ d.parts → slice_get d.elements n ≡ Some e → NoneTrue (implicit_places ps e)
    → IsExplicit (scheme d) n
explicit_here d n e ps parts at none m =
    subst NoneTrue (sym (implicit_is (design_data d) n e at)) (subst (λ qs. NoneTrue (implicit_places qs e)) parts none)

pub explicit_unmarked : (d : Design) (n : ℕ) (marks : List Assert) → marks ≡ d.asserts → ¬ IsMarked marks false n → IsExplicit (scheme d) n
explicit_unmarked d n marks are h m = absurd (unmarked d marks false n are h m)

pub all_explicit : (d : Design) (k : ℕ) → length d.elements ≤ k → ((n : ℕ) → n < k → IsExplicit (scheme d) n) → AreExplicit (scheme d)
all_explicit d k long before n m =
    let within : n < length d.elements = marked_within d false n (subst (λ ms. IsMarked ms false n) (marks_are d) m) in
    before n (omega arith) m

-- ---- stopped rules

pub names_stopped : (d : Design) (s : Schedule) (n f : ℕ) (marks : List Assert) → marks ≡ d.asserts → IsMarked marks true n → IsFirstListed s.urgency s.stops n f
    → ((m : ℕ) → m < n → IsUnstopped (scheme d) s m) → NamesStopped (scheme d) s n f
names_stopped d s n f marks are m h before = record { marked = is_marked d marks true n are m; stopper = h; earlier = before }

pub unstopped_unmarked : (d : Design) (s : Schedule) (n : ℕ) (marks : List Assert) → marks ≡ d.asserts → ¬ IsMarked marks true n → IsUnstopped (scheme d) s n
unstopped_unmarked d s n marks are h m = absurd (unmarked d marks true n are h m)

pub all_unstopped : (d : Design) (s : Schedule) (k : ℕ) → length d.elements ≤ k → ((n : ℕ) → n < k → IsUnstopped (scheme d) s n) → AreUnstopped (scheme d) s
all_unstopped d s k long before n m =
    let within : n < length d.elements = marked_within d true n (subst (λ ms. IsMarked ms true n) (marks_are d) m) in
    before n (omega arith) m
