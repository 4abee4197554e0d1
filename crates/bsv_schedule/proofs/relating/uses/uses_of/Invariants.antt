use Rattle.std.proofs.Common.{◌≡◌, map, length, take, vec_len}
use Rattle.bsv_design.specs.design.Bodies.{target}
use Rattle.bsv_schedule.specs.relating.Users.{AreUsesOf, KeepsOthers}
use Rattle.bsv_schedule.specs.relating.Uses.{UseSame, used}
use Rattle.bsv_schedule.proofs.relating.uses.uses_of.Given as goal

abbrev pub invariant-loop-call : goal.invariant-loop-call
invariant-loop-call l = record {
  count : vec_len l.users ≡ length l.parts;
  same : UseSame (used l.uses) (map target (take l.call-index l.calls));
  agree : AreUsesOf l.users.items l.element l.uses;
  others : KeepsOthers l.element l.initial.users.items l.users.items;
}
