-- What a module may name is in the world: the types that are written, and the headers of modules.
use Rattle.std.proofs.Common.{◌≡◌, ◌∙◌, ℕ, Bool, true, false, cond, List, [], ◌∷◌, length, Option, Some, None, refl, sym, subst, arith}
use Rattle.std.specs.Prelude.{nat_lt, slice_get, codes}
use Rattle.std.specs.Str.{bytes_eq}
use Rattle.std.proofs.lemmas.Bool.{lt-ltb, and_parts}
use Rattle.std.proofs.lemmas.Option.{same_Some}
use Rattle.bsv_ast.specs.Names.{is_lower}
use Rattle.bsv_ast.specs.declared.types.WrittenType.{WrittenType, out-WrittenType, map-WrittenType, fold_out-WrittenType}
use Rattle.bsv_ast.specs.declared.types.TypeArgument.{TypeArgument}
use Rattle.bsv_ast.specs.declared.types.TypeArgument.TheOpen.{WrittenType-F}
use Rattle.bsv_types.specs.declared.definitions.Interface.{Interface}
use Rattle.bsv_types.specs.declared.types.PartTy.{PartTy}
use Rattle.bsv_types.specs.declared.types.PartTy.TheVariants as part_type
use Rattle.bsv_types.specs.Kinds.{Kind, bit, uint, int, bool, maybe, integer, interface, part, bare}
use Rattle.bsv_types.specs.Shapes.{Shapes, is_instance}
use Rattle.bsv_types.specs.Shapes as ranged
use Rattle.bsv_types.specs.Methods.{Signature}
use Rattle.bsv_types.specs.Expressions.{one, World}
use Rattle.bsv_types.specs.Modules as rules
use Rattle.bsv_types.specs.Programs.{begins_empty, shapes_right}
use Rattle.bsv_context.specs.Env.{has_bits}
use Rattle.bsv_context.specs.Written.{TypeNames, Argument, of_type, number, with_bits, plain_type, sized_type, widest, part_over, type_over, written_step, argument_step, written, argument}
use Rattle.bsv_typing.specs.Laws.{slot_right, FitsWorld}
use Rattle.bsv_typing.proofs.Bound.{taken, tested_step}
use Rattle.bsv_typing.proofs.RightOperands.{strictly}
use Rattle.bsv_typing.proofs.RightGiven.{bits_value}
use Rattle.bsv_statements.proofs.RightStatements.{value_slot_right}
use Rattle.bsv_modules.specs.Modules.{Header, ModuleContext}

-- what a module may name is in the world
pub record FitsSite (site : ModuleContext) (w : World) (headers : List rules.Header) : Type 0 where
  pub world : FitsWorld site.env w
  pub limits : site.types.limits ≡ strictly w
  pub types : (name : List ℕ) (k : Kind) → site.types.named name ≡ Some k → slot_right w.shapes (one k) ≡ true
  pub modules : (name : List ℕ) (h : Header) → site.modules name ≡ Some h → slice_get headers h.number ≡ Some (h.params, h.interface)
  -- the methods of the module's interface have Lower names
  pub lower : (n : ℕ) (q : Signature) → slice_get site.wanted n ≡ Some q → is_lower q.name ≡ true

-- the first interface is there
pub first_there : (faces : List Interface) → begins_empty faces ≡ true → nat_lt 0 (length faces) ≡ true
first_there [] e = absurd cc
first_there (i ∷ faces) e = lt-ltb 0 (length (i ∷ faces)) (omega arith)

empty_right : (s : Shapes) → shapes_right s ≡ true → slot_right s (one (interface 0)) ≡ true
empty_right s right = first_there s.interfaces (and_parts _ (begins_empty s.interfaces) right).1

module _ (w : World) (named : List ℕ → Option Kind) (right : shapes_right w.shapes ≡ true) (types : (name : List ℕ) (k : Kind) → named name ≡ Some k → slot_right w.shapes (one k) ≡ true) where
  abbrev names : TypeNames
  names = record { limits = strictly w; named = named }

  abbrev Right : Option Kind → Type 0
  Right o = (k : Kind) → o ≡ Some k → slot_right w.shapes (one k) ≡ true

  bits_right : (k : Kind) → Right (with_bits (strictly w) k)
  unfolding has_bits
  bits_right k j e =
      let h = tested_step (ranged.has_bits w.shapes k) (Some k) j e in
      value_slot_right w.shapes j (subst (λ i. ranged.is_value w.shapes i ≡ true) (same_Some k j h.1) (bits_value w.shapes k h.0))

  -- one of two
  either : (b : Bool) (o p : Option Kind) → Right o → Right p → Right (cond b o p)
  either true o p h g = h
  either false o p h g = g

  just : (k : Kind) → slot_right w.shapes (one k) ≡ true → Right (Some k)
  just k h j e = subst (λ i. slot_right w.shapes (one i) ≡ true) (same_Some k j e) h

  no_kind : Right None
  no_kind k e = absurd cc

  plain_right : (name : List ℕ) → Right (plain_type names name)
  plain_right name =
      either (bytes_eq name (codes "Bool")) _ _ (just bool refl)
      (either (bytes_eq name (codes "Integer")) _ _ (just integer refl)
      (either (bytes_eq name (codes "Empty")) _ _ (just (interface 0) (empty_right w.shapes right))
      (either (bytes_eq name (codes "PulseWire")) _ _ (just (bare part_type.PulseWire) refl) (types name))))

  sized_right : (name : List ℕ) (n : ℕ) → Right (sized_type (strictly w) name n)
  sized_right name n =
      either (bytes_eq name (codes "Bit")) _ _ (bits_right (bit n))
      (either (bytes_eq name (codes "UInt")) _ _ (bits_right (uint n))
      (either (bytes_eq name (codes "Int")) _ _ (bits_right (int n)) no_kind))

  part_right : (p : PartTy) (k : Kind) → (ranged.has_bits w.shapes (widest p k) ≡ true → is_instance w.shapes (part p k) ≡ true) → Right (part_over (strictly w) p k)
  unfolding has_bits
  part_right p k there j e =
      let h = tested_step (ranged.has_bits w.shapes (widest p k)) (Some (part p k)) j e in
      subst (λ i. slot_right w.shapes (one i) ≡ true) (same_Some (part p k) j h.1) (there h.0)

  over_right : (name : List ℕ) (k : Kind) → Right (type_over (strictly w) name k)
  over_right name k =
      either (bytes_eq name (codes "Maybe")) _ _ (bits_right (maybe k))
      (either (bytes_eq name (codes "Reg")) _ _ (part_right part_type.Reg k (λ h. h))
      (either (bytes_eq name (codes "Wire")) _ _ (part_right part_type.Wire k (λ h. h))
      (either (bytes_eq name (codes "RWire")) _ _ (part_right part_type.RWire k (λ h. h))
      (either (bytes_eq name (codes "FIFO")) _ _ (part_right part_type.Fifo k (λ h. h))
      (either (bytes_eq name (codes "FIFOF")) _ _ (part_right part_type.Fifof k (λ h. h)) no_kind)))))

  step_right : (y : WrittenType-F Argument (Option Kind)) → Right (written_step names y)
  step_right (WrittenType-F.Named s name) = plain_right name.name
  step_right (WrittenType-F.Applied s name (number n)) = sized_right name.name n
  step_right (WrittenType-F.Applied s name (of_type t)) = λ k e. let j = taken t _ k e in over_right name.name j.0 k j.2
  step_right (WrittenType-F.Int s) = just (int 32) refl

  strict_right : (t : WrittenType) → Right (written names t)
  strict_right t k e =
      let y = map-WrittenType TypeArgument WrittenType Argument (Option Kind) (argument names) (written names) (out-WrittenType t) in
      step_right y k (sym (fold_out-WrittenType Argument (Option Kind) argument_step (written_step names) t) ∙ e)

-- a type that is written is one of values or of instances
pub written_right : (site : ModuleContext) (w : World) (headers : List rules.Header) → FitsSite site w headers → (t : WrittenType) (k : Kind) → written site.types t ≡ Some k → slot_right w.shapes (one k) ≡ true
written_right site w headers fits t k e =
    strict_right w site.types.named fits.world.right fits.types t k (subst (λ g. written (record { limits = g; named = site.types.named }) t ≡ Some k) fits.limits e)
