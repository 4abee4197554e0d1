-- The names of a typed program: those of modules and of methods are Lower, and no two methods of one interface share one.
use Rattle.std.proofs.Common.{◌≡◌, ◌∙◌, ℕ, Bool, true, false, ◌&&◌, List, [], ◌∷◌, map, Option, Some, None, option_map, refl, sym, ap}
use Rattle.std.specs.Prelude.{slice_get}
use Rattle.std.specs.List.{list_all}
use Rattle.std.specs.Str.{bytes_eq}
use Rattle.std.proofs.lemmas.Bool.{and_parts}
use Rattle.std.proofs.lemmas.Option.{slice_get-map}
use Rattle.std.proofs.lemmas.Slice.Eq.{bytes_eq-Decides}
use Rattle.bsv_lemmas.proofs.Truths.{both_right}
use Rattle.bsv_lemmas.proofs.Places.{passes_at}
use Rattle.bsv_ast.specs.Names.{is_lower}
use Rattle.bsv_types.specs.declared.definitions.Interface.{Interface}
use Rattle.bsv_types.specs.declared.definitions.MethodHeader.{MethodHeader}
use Rattle.bsv_types.specs.declared.modules.Method.{Method}
use Rattle.bsv_types.specs.declared.modules.Module.{Module}
use Rattle.bsv_types.specs.declared.typed.Typed.{Typed}
use Rattle.bsv_types.specs.declared.types.PartTy.{PartTy}
use Rattle.bsv_types.specs.declared.types.PartTy.TheVariants as part_type
use Rattle.bsv_types.specs.Expressions.{Frame, World}
use Rattle.bsv_types.specs.Kinds.{Kind, interface, part, bare}
use Rattle.bsv_types.specs.Methods.{Signature, header_signature, methods, methods_of, part_methods, bare_methods}
use Rattle.bsv_types.specs.Modules.{header, param_names, method_right, module_right}
use Rattle.bsv_types.specs.Names.{distinct, lower_names}
use Rattle.bsv_types.specs.Programs.{each_at, all_countable, names_right, enum_right, struct_right, begins_empty, function_right, interface_right, shapes_right}
use Rattle.bsv_tree.specs.tree.Trees.{shapes, world}
use Rattle.bsv_types.proofs.Distinct.{distinct_places}

-- ---- tests that all hold

third : (a b c d e : Bool) → (a && b && c && d && e) ≡ true → c ≡ true
third true true c d e h = (and_parts c d (and_parts (c && d) e h).0).0
third true false c d e h = absurd cc
third false b c d e h = absurd cc

third_of_four : (a b c d : Bool) → (a && b && c && d) ≡ true → c ≡ true
third_of_four true true c d h = (and_parts c d h).0
third_of_four true false c d h = absurd cc
third_of_four false b c d h = absurd cc

second_of_four : (a b c d : Bool) → (a && b && c && d) ≡ true → b ≡ true
second_of_four true true c d h = refl
second_of_four true false c d h = absurd cc
second_of_four false b c d h = absurd cc

first_of_ten : (a b c d e f g p q r : Bool) → (a && b && c && d && e && f && g && p && q && r) ≡ true → a ≡ true
first_of_ten true b c d e f g p q r h = refl
first_of_ten false b c d e f g p q r h = absurd cc

three_of_seven : (a b c d e f g : Bool) → (a && b && c && d && e && f && g) ≡ true → (a ≡ true) × (b ≡ true) × (c ≡ true)
three_of_seven true true true d e f g h = (refl, refl, refl)
three_of_seven true true false d e f g h = absurd cc
three_of_seven true false c d e f g h = absurd cc
three_of_seven false b c d e f g h = absurd cc

-- ---- names that are all distinct

-- ---- a method as its interface wants it

pub record IsWanted (wanted : Option Signature) (m : Method) : Type 0 where
  pub signature : Signature
  pub at : wanted ≡ Some signature
  pub name : m.name ≡ signature.name
  pub lower : is_lower m.name ≡ true
  pub params : lower_names (param_names m.params) ≡ true

pub is_wanted : (w : World) (frame : Frame) (wanted : Option Signature) (m : Method) → method_right w frame wanted (Some m) ≡ true → IsWanted wanted m
is_wanted w frame None m e = absurd cc
is_wanted w frame (Some s) m e =
    let h = three_of_seven (bytes_eq m.name s.name) (is_lower m.name) (lower_names (param_names m.params)) _ _ _ _ e in
    record { signature = s; at = refl; name = (bytes_eq-Decides m.name s.name).0 h.0; lower = h.1; params = h.2 }

-- ---- a typed program

signature_names : (hs : List MethodHeader) → map (λ (h : MethodHeader). h.name) hs ≡ map (λ (s : Signature). s.name) (map header_signature hs)
signature_names [] = refl
signature_names (h ∷ hs) = ap (λ (names : List (List ℕ)). h.name ∷ names) (signature_names hs)

abbrev AreDistinct : List Signature → Type 0
AreDistinct signatures = distinct (map (λ (s : Signature). s.name) signatures) ≡ true

part_distinct : (p : PartTy) (k : Kind) → AreDistinct (part_methods p k)
part_distinct part_type.Reg k = refl
part_distinct part_type.Wire k = refl
part_distinct part_type.RWire k = refl
part_distinct part_type.PulseWire k = refl
part_distinct part_type.Fifo k = refl
part_distinct part_type.Fifof k = refl

bare_distinct : (p : PartTy) → AreDistinct (bare_methods p)
bare_distinct part_type.Reg = refl
bare_distinct part_type.Wire = refl
bare_distinct part_type.RWire = refl
bare_distinct part_type.PulseWire = refl
bare_distinct part_type.Fifo = refl
bare_distinct part_type.Fifof = refl

module _ (t : Typed) where
  pub module_lower : (k : ℕ) (m : Module) → slice_get t.modules k ≡ Some m → is_lower m.name ≡ true
  module_lower k m at =
      first_of_ten (is_lower m.name) _ _ _ _ _ _ _ _ _
      (passes_at (module_right (world t) (map header t.modules)) t.modules k m (both_right _ (list_all (module_right (world t) (map header t.modules)) t.modules) t.right) at)

  shapes_are_right : shapes_right (shapes t) ≡ true
  shapes_are_right =
      third (all_countable t.enums t.structs t.interfaces t.functions t.modules) (names_right t.enums t.structs t.interfaces t.functions t.modules)
      (shapes_right (shapes t)) (each_at (function_right (shapes t) t.functions) 0 t.functions)
      (list_all (module_right (world t) (map header t.modules)) t.modules) t.right

  interfaces_are_right : list_all (interface_right (shapes t)) t.interfaces ≡ true
  interfaces_are_right =
      third_of_four (list_all enum_right t.enums) (each_at (struct_right (shapes t)) 0 t.structs) (list_all (interface_right (shapes t)) t.interfaces)
      (begins_empty t.interfaces) shapes_are_right

  interface_distinct : (k : ℕ) (i : Interface) → slice_get t.interfaces k ≡ Some i → distinct (map (λ (h : MethodHeader). h.name) i.methods) ≡ true
  interface_distinct k i at =
      second_of_four _ (distinct (map (λ (h : MethodHeader). h.name) i.methods)) _ _
      (passes_at (interface_right (shapes t)) t.interfaces k i interfaces_are_right at)

  of_interface : (k : ℕ) (o : Option Interface) → slice_get t.interfaces k ≡ o → AreDistinct (methods_of o)
  of_interface k None at = refl
  of_interface k (Some i) at = ap distinct (sym (signature_names i.methods)) ∙ interface_distinct k i at

  -- the methods of an interface have names of their own
  pub methods_distinct : (k : Kind) → AreDistinct (methods (shapes t) k)
  methods_distinct (interface k) = of_interface k (slice_get t.interfaces k) refl
  methods_distinct (part p k) = part_distinct p k
  methods_distinct (bare p) = bare_distinct p
  methods_distinct _ = refl

-- two methods of one name that one interface wants are one
pub wanted_places : (signatures : List Signature) (i j : ℕ) (m n : Method) → distinct (map (λ (s : Signature). s.name) signatures) ≡ true
    → IsWanted (slice_get signatures i) m → IsWanted (slice_get signatures j) n → m.name ≡ n.name → i ≡ j
wanted_places signatures i j m n h f g same =
    let first = slice_get-map (λ (s : Signature). s.name) signatures i ∙ ap (option_map (λ (s : Signature). s.name)) f.at in
    let second = slice_get-map (λ (s : Signature). s.name) signatures j ∙ ap (option_map (λ (s : Signature). s.name)) g.at in
    let one = sym g.name ∙ sym same ∙ f.name in
    distinct_places (map (λ (s : Signature). s.name) signatures) i j f.signature.name h first (second ∙ ap (λ (z : List ℕ). Some z) one)
