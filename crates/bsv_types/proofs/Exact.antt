-- Two types of the code are one where they are one as plain data.
use Rattle.std.proofs.Common.{◌≡◌, ◌∙◌, Some, None, ap, sym, subst, true, IsTrue, ◌↔◌}
use Rattle.bsv_types.specs.declared.types.Ty.{Ty, fold-roll-Ty, ind-Ty, roll-Ty, map-Ty}
use Rattle.bsv_types.specs.declared.types.Ty.TheOpen.{Ty-F}
use Rattle.bsv_types.specs.Kinds.{Kind, kind, kind_step, type_of, same_kind}
use Rattle.bsv_types.proofs.Same.{same_is, same_self}

abbrev Back : Ty → Type 0
Back t = type_of (kind t) ≡ t

pub rolled : (x : Ty-F Ty) → kind (roll-Ty x) ≡ kind_step (map-Ty Ty Kind kind x)
rolled x = fold-roll-Ty Kind kind_step x

by_variant : (y : Ty-F ((t : Ty) × Back t)) → Back (roll-Ty (map-Ty ((t : Ty) × Back t) Ty (λ e. e.0) y))
unfolding roll-Ty
by_variant (Ty-F.Bit n) = ap type_of (rolled (Ty-F.Bit n))
by_variant (Ty-F.Down n) = ap type_of (rolled (Ty-F.Down n))
by_variant (Ty-F.UInt n) = ap type_of (rolled (Ty-F.UInt n))
by_variant (Ty-F.Int n) = ap type_of (rolled (Ty-F.Int n))
by_variant Ty-F.Bool = ap type_of (rolled Ty-F.Bool)
by_variant (Ty-F.Enum n) = ap type_of (rolled (Ty-F.Enum n))
by_variant (Ty-F.Struct n) = ap type_of (rolled (Ty-F.Struct n))
by_variant (Ty-F.Maybe e) = ap type_of (rolled (Ty-F.Maybe e.0)) ∙ ap (λ t. roll-Ty (Ty-F.Maybe t)) e.1
by_variant Ty-F.Integer = ap type_of (rolled Ty-F.Integer)
by_variant (Ty-F.Interface n) = ap type_of (rolled (Ty-F.Interface n))
by_variant (Ty-F.Part p None) = ap type_of (rolled (Ty-F.Part p None))
by_variant (Ty-F.Part p (Some e)) = ap type_of (rolled (Ty-F.Part p (Some e.0))) ∙ ap (λ t. roll-Ty (Ty-F.Part p (Some t))) e.1

-- a type is what its plain data says
pub back : (t : Ty) → Back t
back = ind-Ty Back (λ x y is. subst (λ z. Back (roll-Ty z)) is (by_variant y))

pub kinds_tell : (t u : Ty) → kind t ≡ kind u → t ≡ u
kinds_tell t u e = sym (back t) ∙ ap type_of e ∙ back u

pub same_exactly : (t u : Ty) → IsTrue (same_kind (kind t) (kind u)) ↔ (t ≡ u)
same_exactly t u = (λ e. kinds_tell t u (same_is (kind t) (kind u) e), λ e. subst (λ v. same_kind (kind t) (kind v) ≡ true) e (same_self (kind t)))
