-- Types compare exactly.
use Rattle.std.proofs.Common.{◌≡◌, ◌∙◌, true, ◌&&◌, refl, ap, sym, subst}
use Rattle.std.proofs.lemmas.Bool.{eqb-true, eq-eqb, and_parts}
use Rattle.bsv_types.specs.declared.types.PartTy.{PartTy}
use Rattle.bsv_types.specs.declared.types.PartTy.TheVariants as part_type
use Rattle.bsv_types.specs.Kinds.{Kind, bit, down, uint, int, bool, enum, struct, maybe, integer, interface, part, bare, same_part, same_kind}

pub same_part_is : (p q : PartTy) → same_part p q ≡ true → p ≡ q
same_part_is part_type.Reg part_type.Reg e = refl
same_part_is part_type.Wire part_type.Wire e = refl
same_part_is part_type.RWire part_type.RWire e = refl
same_part_is part_type.PulseWire part_type.PulseWire e = refl
same_part_is part_type.Fifo part_type.Fifo e = refl
same_part_is part_type.Fifof part_type.Fifof e = refl
same_part_is _ _ e = absurd cc

pub same_part_self : (p : PartTy) → same_part p p ≡ true
same_part_self part_type.Reg = refl
same_part_self part_type.Wire = refl
same_part_self part_type.RWire = refl
same_part_self part_type.PulseWire = refl
same_part_self part_type.Fifo = refl
same_part_self part_type.Fifof = refl

pub same_is : (j k : Kind) → same_kind j k ≡ true → j ≡ k
same_is (bit m) (bit n) e = ap bit (eqb-true m n e)
same_is (down m) (down n) e = ap down (eqb-true m n e)
same_is (uint m) (uint n) e = ap uint (eqb-true m n e)
same_is (int m) (int n) e = ap int (eqb-true m n e)
same_is bool bool e = refl
same_is (enum m) (enum n) e = ap enum (eqb-true m n e)
same_is (struct m) (struct n) e = ap struct (eqb-true m n e)
same_is (maybe j) (maybe k) e = ap maybe (same_is j k e)
same_is integer integer e = refl
same_is (interface m) (interface n) e = ap interface (eqb-true m n e)
same_is (part p j) (part q k) e = let h = and_parts (same_part p q) (same_kind j k) e in ap (λ r. part r j) (same_part_is p q h.0) ∙ ap (part q) (same_is j k h.1)
same_is (bare p) (bare q) e = ap bare (same_part_is p q e)
same_is _ _ e = absurd cc

pub same_self : (k : Kind) → same_kind k k ≡ true
same_self (bit n) = eq-eqb n n refl
same_self (down n) = eq-eqb n n refl
same_self (uint n) = eq-eqb n n refl
same_self (int n) = eq-eqb n n refl
same_self bool = refl
same_self (enum n) = eq-eqb n n refl
same_self (struct n) = eq-eqb n n refl
same_self (maybe k) = same_self k
same_self integer = refl
same_self (interface n) = eq-eqb n n refl
same_self (part p k) = subst (λ b. (b && same_kind k k) ≡ true) (sym (same_part_self p)) (same_self k)
same_self (bare p) = same_part_self p
