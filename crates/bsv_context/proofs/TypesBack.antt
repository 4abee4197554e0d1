-- Types that are seen as plain data.
use Rattle.std.proofs.Common.{◌≡◌, Some}
use Rattle.bsv_types.specs.declared.types.PartTy.{PartTy}
use Rattle.bsv_types.specs.declared.types.Ty.{Ty, Part, fold-roll-Ty, roll-Ty}
use Rattle.bsv_types.specs.declared.types.Ty.TheOpen.{Ty-F}
use Rattle.bsv_types.specs.Kinds.{Kind, part, kind, kind_step}
use Rattle.bsv_types.proofs.Exact.{back}

pub ruleset types_back = (back)

pub part_seen : (p : PartTy) (t : Ty) → kind (Part p (Some t)) ≡ part p (kind t)
unfolding roll-Ty denote.Hole.Carrier.roll
part_seen p t = fold-roll-Ty Kind kind_step (Ty-F.Part p (Some t))

pub ruleset parts_seen = (part_seen)
