use Rattle.std.proofs.Common.{◌≡◌, ℕ, map, length, vec_len, List, Some}
use Rattle.std.specs.Prelude.{slice_get}
use Rattle.bsv_design.specs.declared.element.Element.{Element}
use Rattle.bsv_design.specs.design.Bodies.{target}
use Rattle.bsv_schedule.specs.declared.relating.usage.Use.{Use}
use Rattle.bsv_schedule.specs.relating.Users.{AreUsers}
use Rattle.bsv_schedule.specs.relating.Uses.{UseSame, used}
use Rattle.bsv_schedule.proofs.relating.uses.usages.Given as goal

abbrev pub invariant-loop-element : goal.invariant-loop-element
invariant-loop-element l = record {
  parts : vec_len l.by_part ≡ length l.parts;
  count : length l.by_element.items ≡ l.element-index;
  same : (n : ℕ) (e : Element) (own : List Use) → slice_get l.elements n ≡ Some e → slice_get l.by_element.items n ≡ Some own → UseSame (used own) (map target e.calls);
  users : AreUsers l.by_element.items l.by_part.items;
}
