-- What a maker makes provides the interface that the typing gives it, with the width of what it holds.
use Rattle.std.proofs.Common.{◌≡◌, ◌∙◌, ℕ, zero, suc, ◌+◌, ◌-◌, ◌^◌, ◌≤◌, ◌<◌, min, Bool, true, false, ◌&&◌, List, [], ◌∷◌, length, map, Option, Some, None, option_map, refl, sym, ap, subst, arith}
use Rattle.std.specs.Prelude.{nat_le, nat_lt, slice_get}
use Rattle.std.specs.List.{list_all}
use Rattle.std.proofs.lemmas.Bool.{ltb-true, leb-true, leb-false, le-leb, and_parts}
use Rattle.std.proofs.Math.Pow.{pow_mono}
use Rattle.std.proofs.lemmas.Option.{same_Some}
use Rattle.bsv_lemmas.proofs.Places.{item_there, passes_at}
use Rattle.bsv_bits.specs.Words.{Bits}
use Rattle.bsv_types.specs.declared.definitions.Enum.{Enum}
use Rattle.bsv_types.specs.declared.definitions.Struct.{Struct}
use Rattle.bsv_types.specs.declared.makers.Argument.{Argument}
use Rattle.bsv_types.specs.declared.makers.GivenMaker.{GivenMaker}
use Rattle.bsv_types.specs.declared.makers.GivenMaker.TheVariants as maker
use Rattle.bsv_types.specs.declared.typed.Typed.{Typed}
use Rattle.bsv_types.specs.declared.types.PartTy.{PartTy}
use Rattle.bsv_types.specs.declared.types.PartTy.TheVariants as part_type
use Rattle.bsv_ast.specs.Names.{is_upper}
use Rattle.bsv_types.specs.Expressions.{Frame}
use Rattle.bsv_types.specs.Kinds.{Kind as Sort, bit, down, uint, int, bool, enum, struct, maybe, integer, interface, part, bare, same_part}
use Rattle.bsv_types.specs.Methods.{made_part, maker_params}
use Rattle.bsv_types.specs.Modules.{header, module_right, arguments_right, given_makes}
use Rattle.bsv_types.specs.Names.{lower_names, countable}
use Rattle.bsv_types.specs.Programs.{each_at, enum_right, struct_right, interface_right, begins_empty, function_right, names_right, shapes_right, all_countable}
use Rattle.bsv_types.specs.Shapes.{counted, plus, width_by, widths_by, is_width, in_range, has_range, is_enum_width, is_bits, has_bits, is_instance}
use Rattle.bsv_types.specs.Widths.{field_kinds}
use Rattle.bsv_types.proofs.Same.{same_part_is}
use Rattle.bsv_design.specs.declared.kind.Kind.{Kind}
use Rattle.bsv_design.specs.declared.kind.Kind.TheVariants as kinds
use Rattle.bsv_tree.specs.declared.tree.Made.TheVariants as made
use Rattle.bsv_tree.specs.tree.Widths.{width}
use Rattle.bsv_tree.specs.tree.Methods.{is_kind_of}
use Rattle.bsv_tree.specs.tree.Trees.{shapes, world, held_width, Provides}
use Rattle.bsv_elab.specs.MadeKinds.{passed, from_range, or_zero, or_zero_fits, reg, regu, wire, dwire, rwire, plain, pipeline, bypass, kind_of}
use Rattle.bsv_elab.proofs.FittingScopes.{wide}

-- ---- what the typing rules say of widths

each_there : {A : Type 0} (p : ℕ → A → Bool) (first : ℕ) (xs : List A) (k : ℕ) (x : A) → each_at p first xs ≡ true → slice_get xs k ≡ Some x → (n : ℕ) × (p n x ≡ true)
each_there p first [] k x e is = absurd cc
each_there p first (y ∷ xs) zero x e is = (first, subst (λ z. p first z ≡ true) (same_Some y x is) (and_parts (p first y) (each_at p (first + 1) xs) e).0)
each_there p first (y ∷ xs) (suc k) x e is = each_there p (first + 1) xs k x (and_parts (p first y) (each_at p (first + 1) xs) e).1 is

-- between 1 and 128
pub record Range (n : ℕ) : Type 0 where
  pub some : 1 ≤ n
  pub most : n ≤ 128

range_of : (n : ℕ) → in_range n ≡ true → Range n
range_of n e = let h = and_parts (nat_le 1 n) (nat_le n 128) e in record { some = leb-true 1 n h.0; most = leb-true n 128 h.1 }

small_min : (a b : ℕ) → min a b ≤ 128 → 128 < b → a ≤ 128
small_min a b h lt = omega arith

counted_small : (n : ℕ) → counted n ≤ 128 → n ≤ 128
counted_small n h = small_min n 4294967295 h (leb-true 129 4294967295 refl)

-- a width that begins below 32 bits ends there
begins_below : (n w : ℕ) → 2 ^ (w - 1) ≤ n → n < 2 ^ 32 → w ≤ 128
begins_below n w before few = by (nat_le w 128) refl where
  by : (b : Bool) → nat_le w 128 ≡ b → w ≤ 128
  by true is = leb-true w 128 is
  by false is =
      let larger : 32 ≤ w - 1 = omega (arith, leb-false w 128 is) in
      absurd (omega (arith, before, few, pow_mono larger))

enum_range : (w labels : ℕ) → nat_lt labels (2 ^ 32) ≡ true → is_enum_width w labels ≡ true → Range w
enum_range w labels few e =
    let a = and_parts (nat_le 2 labels && nat_le 1 w && nat_lt (labels - 1) (2 ^ w)) (nat_le (2 ^ (w - 1)) (labels - 1)) e in
    let b = and_parts (nat_le 2 labels && nat_le 1 w) (nat_lt (labels - 1) (2 ^ w)) a.0 in
    let below : labels - 1 < 2 ^ 32 = omega (arith, ltb-true labels (2 ^ 32) few) in
    record {
      some = leb-true 1 w (and_parts (nat_le 2 labels) (nat_le 1 w) b.0).1;
      most = begins_below (labels - 1) w (leb-true (2 ^ (w - 1)) (labels - 1) a.1) below;
    }

module _ (t : Typed) where
  abbrev front : Bool
  front = all_countable t.enums t.structs t.interfaces t.functions t.modules && names_right t.enums t.structs t.interfaces t.functions t.modules

  abbrev functions_right : Bool
  functions_right = each_at (function_right (shapes t) t.functions) 0 t.functions

  abbrev modules_right : Bool
  modules_right = list_all (module_right (world t) (map header t.modules)) t.modules

  pub modules_are_right : modules_right ≡ true
  modules_are_right = (and_parts (front && shapes_right (shapes t) && functions_right) modules_right t.right).1

  shapes_are_right : shapes_right (shapes t) ≡ true
  shapes_are_right =
      let a = and_parts (front && shapes_right (shapes t) && functions_right) modules_right t.right in
      let b = and_parts (front && shapes_right (shapes t)) functions_right a.0 in
      (and_parts front (shapes_right (shapes t)) b.0).1

  abbrev enums_right : Bool
  enums_right = list_all enum_right t.enums

  abbrev structs_right : Bool
  structs_right = each_at (struct_right (shapes t)) 0 t.structs

  abbrev interfaces_right : Bool
  interfaces_right = list_all (interface_right (shapes t)) t.interfaces

  shape_parts : (enums_right ≡ true) × (structs_right ≡ true)
  shape_parts =
      let a = and_parts (enums_right && structs_right && interfaces_right) (begins_empty t.interfaces) shapes_are_right in
      let b = and_parts (enums_right && structs_right) interfaces_right a.0 in
      and_parts enums_right structs_right b.0

  struct_range : (k : ℕ) (s : Struct) → slice_get t.structs k ≡ Some s → Range s.width
  struct_range k s is =
      let h = each_there (struct_right (shapes t)) 0 t.structs k s shape_parts.1 is in
      let a = and_parts (is_upper s.name && lower_names (map (λ f. f.name) s.fields) && countable s.fields && list_all (is_bits (shapes t) h.0) (field_kinds s.fields) && in_range s.width)
      (is_width (widths_by t.enums t.structs (field_kinds s.fields)) s.width) h.1 in
      range_of s.width (and_parts (is_upper s.name && lower_names (map (λ f. f.name) s.fields) && countable s.fields && list_all (is_bits (shapes t) h.0) (field_kinds s.fields)) (in_range s.width) a.0).1

  enum_in_range : (k : ℕ) (e : Enum) → slice_get t.enums k ≡ Some e → Range e.width
  enum_in_range k e is =
      let h = passes_at enum_right t.enums k e shape_parts.0 is in
      let a = and_parts (is_upper e.name && list_all is_upper e.labels && countable e.labels) (is_enum_width e.width (length e.labels)) h in
      enum_range e.width (length e.labels) (and_parts (is_upper e.name && list_all is_upper e.labels) (countable e.labels) a.0).1 a.1

  -- a type with bits has 1 to 128
  record HasWidth (k : Sort) : Type 0 where
    n : ℕ
    is : width_by t.enums t.structs k ≡ Some n
    range : Range n

  maybe_range : (o p : Option ℕ) → has_range p ≡ true → p ≡ plus (Some 1) o → (n : ℕ) × (p ≡ Some n) × Range n
  maybe_range o None e is = absurd cc
  maybe_range o (Some n) e is = (n, refl, range_of n e)

  bits_some : (k : Sort) → has_bits (shapes t) k ≡ true → HasWidth k
  bits_some (bit n) e = record { n = n; is = refl; range = range_of n e }
  bits_some (uint n) e = record { n = n; is = refl; range = range_of n e }
  bits_some (int n) e = record { n = n; is = refl; range = range_of n e }
  bits_some bool e = record { n = 1; is = refl; range = range_of 1 refl }
  bits_some (enum k) e =
      let h = item_there t.enums k (ltb-true k (length t.enums) e) in
      record { n = h.0.width; is = ap (option_map (λ (d : Enum). d.width)) h.1; range = enum_in_range k h.0 h.1 }
  bits_some (struct k) e =
      let h = item_there t.structs k (ltb-true k (length t.structs) e) in
      record { n = h.0.width; is = ap (option_map (λ (d : Struct). d.width)) h.1; range = struct_range k h.0 h.1 }
  bits_some (maybe k) e =
      let a = and_parts (is_bits (shapes t) (length t.structs) k) (has_range (width_by t.enums t.structs (maybe k))) e in
      let h = maybe_range (width_by t.enums t.structs k) (width_by t.enums t.structs (maybe k)) a.1 refl in
      record { n = h.0; is = h.1; range = h.2 }
  bits_some (down n) e = absurd cc
  bits_some integer e = absurd cc
  bits_some (interface k) e = absurd cc
  bits_some (part p k) e = absurd cc
  bits_some (bare p) e = absurd cc

  width_of : (k : Sort) (n : ℕ) → width_by t.enums t.structs k ≡ Some n → width (shapes t) k ≡ n
  unfolding width
  width_of k n e = rw e refl

  width_range : (k : Sort) → has_bits (shapes t) k ≡ true → Range (width (shapes t) k)
  width_range k e = let h = bits_some k e in subst Range (sym (width_of k h.n h.is)) h.range

  -- a tag fits in front
  payload_range : (k : Sort) → has_bits (shapes t) (maybe k) ≡ true → (1 ≤ width (shapes t) k) × (width (shapes t) k ≤ 127)
  payload_range k e =
      let a = and_parts (is_bits (shapes t) (length t.structs) k) (has_range (width_by t.enums t.structs (maybe k))) e in
      let h = bits_some k a.0 in
      let whole = range_of (counted (1 + h.n)) (subst (λ (o : Option ℕ). has_range (plus (Some 1) o) ≡ true) h.is a.1) in
      let small : 1 + h.n ≤ 128 = counted_small (1 + h.n) whole.most in
      let same = width_of k h.n h.is in
      (subst (λ n. 1 ≤ n) (sym same) h.range.some, subst (λ n. n ≤ 127) (sym same) (omega arith))

  record PartRange (p : PartTy) (k : Sort) : Type 0 where
    range : Range (width (shapes t) k)
    no_pulse : p ≡ part_type.PulseWire → ⊥
    tagged : p ≡ part_type.RWire → width (shapes t) k ≤ 127

  part_range : (p : PartTy) (k : Sort) → is_instance (shapes t) (part p k) ≡ true → PartRange p k
  part_range part_type.Reg k e = record { range = width_range k e; no_pulse = λ i. absurd cc; tagged = λ i. absurd cc }
  part_range part_type.Wire k e = record { range = width_range k e; no_pulse = λ i. absurd cc; tagged = λ i. absurd cc }
  part_range part_type.RWire k e = let h = payload_range k e in record { range = record { some = h.0; most = omega (arith, h.1) }; no_pulse = λ i. absurd cc; tagged = λ i. h.1 }
  part_range part_type.PulseWire k e = absurd cc
  part_range part_type.Fifo k e = record { range = width_range k e; no_pulse = λ i. absurd cc; tagged = λ i. absurd cc }
  part_range part_type.Fifof k e = record { range = width_range k e; no_pulse = λ i. absurd cc; tagged = λ i. absurd cc }

-- ---- kinds

passed_is : (b : Bool) (f : b ≡ true → Kind) (P : Kind → Type 0) → b ≡ true → ((e : b ≡ true) → P (f e)) → P (passed b f)
passed_is true f P e h = h refl
passed_is false f P e h = absurd cc

range_is : (most n : ℕ) (f : 1 ≤ n → n ≤ most → Kind) (P : Kind → Type 0) → 1 ≤ n → n ≤ most → ((a : 1 ≤ n) (b : n ≤ most) → P (f a b)) → P (from_range most n f)
range_is most n f P some few h =
    passed_is (nat_le 1 n) (λ a. passed (nat_le n most) (λ b. f (leb-true 1 n a) (leb-true n most b))) P (le-leb 1 n some)
    (λ a. passed_is (nat_le n most) (λ b. f (leb-true 1 n a) (leb-true n most b)) P (le-leb n most few) (λ b. h (leb-true 1 n a) (leb-true n most b)))

abbrev pub MadeRight : PartTy → ℕ → Kind → Type 0
MadeRight p n k = (is_kind_of p k ≡ true) × (held_width k ≡ n)

module _ (n depth : ℕ) (w : Bits) (some : 1 ≤ n) (most : n ≤ 128) (deep : 1 ≤ depth) (not_too_deep : depth ≤ 64) where
  reg_reg : MadeRight part_type.Reg n (reg n w)
  unfolding reg
  reg_reg = range_is 128 n (λ a b. kinds.Reg (record { width = n; start = or_zero n w; in_range = or_zero_fits n w a b })) (MadeRight part_type.Reg n) some most (λ a b. (refl, refl))

  regu_reg : MadeRight part_type.Reg n (regu n)
  unfolding regu
  regu_reg = range_is 128 n (λ a b. kinds.RegU (record { width = n; some_width = a; most_width = b })) (MadeRight part_type.Reg n) some most (λ a b. (refl, refl))

  wire_wire : MadeRight part_type.Wire n (wire n)
  unfolding wire
  wire_wire = range_is 128 n (λ a b. kinds.Wire (record { width = n; some_width = a; most_width = b })) (MadeRight part_type.Wire n) some most (λ a b. (refl, refl))

  dwire_wire : MadeRight part_type.Wire n (dwire n w)
  unfolding dwire
  dwire_wire = range_is 128 n (λ a b. kinds.DWire (record { width = n; default = or_zero n w; in_range = or_zero_fits n w a b })) (MadeRight part_type.Wire n) some most (λ a b. (refl, refl))

  rwire_rwire : n ≤ 127 → MadeRight part_type.RWire n (rwire n)
  unfolding rwire
  rwire_rwire few = range_is 127 n (λ a b. kinds.RWire (record { width = n; some_width = a; most_width = b })) (MadeRight part_type.RWire n) some few (λ a b. (refl, refl))

  pipeline_fifo : MadeRight part_type.Fifo n (pipeline n)
  unfolding pipeline
  pipeline_fifo = range_is 128 n (λ a b. kinds.Pipeline (record { width = n; some_width = a; most_width = b })) (MadeRight part_type.Fifo n) some most (λ a b. (refl, refl))

  bypass_fifo : MadeRight part_type.Fifo n (bypass n)
  unfolding bypass
  bypass_fifo = range_is 128 n (λ a b. kinds.Bypass (record { width = n; some_width = a; most_width = b })) (MadeRight part_type.Fifo n) some most (λ a b. (refl, refl))

  plain_fifo : MadeRight part_type.Fifo n (plain n depth)
  unfolding plain
  plain_fifo =
      range_is 128 n (λ a b. from_range 64 depth (λ c d. kinds.Plain (record { width = n; depth = depth; some_width = a; most_width = b; some_depth = c; most_depth = d }))) (MadeRight part_type.Fifo n) some most
      (λ a b. range_is 64 depth (λ c d. kinds.Plain (record { width = n; depth = depth; some_width = a; most_width = b; some_depth = c; most_depth = d })) (MadeRight part_type.Fifo n) deep not_too_deep (λ c d. (refl, refl)))

  pipeline_fifof : MadeRight part_type.Fifof n (pipeline n)
  unfolding pipeline
  pipeline_fifof = range_is 128 n (λ a b. kinds.Pipeline (record { width = n; some_width = a; most_width = b })) (MadeRight part_type.Fifof n) some most (λ a b. (refl, refl))

  bypass_fifof : MadeRight part_type.Fifof n (bypass n)
  unfolding bypass
  bypass_fifof = range_is 128 n (λ a b. kinds.Bypass (record { width = n; some_width = a; most_width = b })) (MadeRight part_type.Fifof n) some most (λ a b. (refl, refl))

  plain_fifof : MadeRight part_type.Fifof n (plain n depth)
  unfolding plain
  plain_fifof =
      range_is 128 n (λ a b. from_range 64 depth (λ c d. kinds.Plain (record { width = n; depth = depth; some_width = a; most_width = b; some_depth = c; most_depth = d }))) (MadeRight part_type.Fifof n) some most
      (λ a b. range_is 64 depth (λ c d. kinds.Plain (record { width = n; depth = depth; some_width = a; most_width = b; some_depth = c; most_depth = d })) (MadeRight part_type.Fifof n) deep not_too_deep (λ c d. (refl, refl)))

  pub kind_right : (g : GivenMaker) → (made_part g ≡ part_type.PulseWire → ⊥) → (made_part g ≡ part_type.RWire → n ≤ 127) → MadeRight (made_part g) n (kind_of g n depth w)
  kind_right maker.Reg pulse tagged = reg_reg
  kind_right maker.RegU pulse tagged = regu_reg
  kind_right maker.Wire pulse tagged = wire_wire
  kind_right maker.DWire pulse tagged = dwire_wire
  kind_right maker.RWire pulse tagged = rwire_rwire (tagged refl)
  kind_right maker.PulseWire pulse tagged = absurd (pulse refl)
  kind_right maker.Fifo pulse tagged = plain_fifo
  kind_right maker.Fifo1 pulse tagged = plain_fifo
  kind_right maker.SizedFifo pulse tagged = plain_fifo
  kind_right maker.Fifof pulse tagged = plain_fifof
  kind_right maker.Fifof1 pulse tagged = plain_fifof
  kind_right maker.SizedFifof pulse tagged = plain_fifof
  kind_right maker.LFifo pulse tagged = pipeline_fifo
  kind_right maker.PipelineFifo pulse tagged = pipeline_fifo
  kind_right maker.LFifof pulse tagged = pipeline_fifof
  kind_right maker.PipelineFifof pulse tagged = pipeline_fifof
  kind_right maker.BypassFifo pulse tagged = bypass_fifo
  kind_right maker.BypassFifof pulse tagged = bypass_fifof

pulse_right : (g : GivenMaker) (n depth : ℕ) (w : Bits) → made_part g ≡ part_type.PulseWire → is_kind_of part_type.PulseWire (kind_of g n depth w) ≡ true
pulse_right maker.PulseWire n depth w e = refl
pulse_right _ n depth w e = absurd cc

bare_pulse : (t : Typed) (p : PartTy) → is_instance (shapes t) (bare p) ≡ true → p ≡ part_type.PulseWire
bare_pulse t part_type.PulseWire e = refl
bare_pulse t _ e = absurd cc

-- ---- what a maker of the language makes

module _ (t : Typed) where
  pub given_provides : (f : Frame) (g : GivenMaker) (xs : List Argument) (k : Sort) (bits depth : ℕ) (w : Bits) → is_instance (shapes t) k ≡ true → given_makes (world t) f g xs k ≡ true
      → bits ≡ wide t k → 1 ≤ depth → depth ≤ 64 → Provides t k (made.Primitive (made_part g) (kind_of g bits depth w))
  given_provides f g xs (part p j) bits depth w is_made makes wide_is deep not_too_deep =
      let same = same_part_is p (made_part g) (and_parts (same_part p (made_part g)) (arguments_right (world t) f xs (maker_params g j)) makes).0 in
      let r = part_range t p j is_made in
      let range = subst Range (sym wide_is) r.range in
      let pulse : made_part g ≡ part_type.PulseWire → ⊥ = λ e. r.no_pulse (same ∙ e) in
      let tagged : made_part g ≡ part_type.RWire → bits ≤ 127 = λ e. subst (λ n. n ≤ 127) (sym wide_is) (r.tagged (same ∙ e)) in
      let h = kind_right bits depth w range.some range.most deep not_too_deep g pulse tagged in
      (same, subst (λ (q : PartTy). is_kind_of q (kind_of g bits depth w) ≡ true) (sym same) h.0, h.1 ∙ wide_is)
  given_provides f g xs (bare p) bits depth w is_made makes wide_is deep not_too_deep =
      let same = same_part_is p (made_part g) (and_parts (same_part p (made_part g)) (arguments_right (world t) f xs []) makes).0 in
      let pulse = bare_pulse t p is_made in
      (same, subst (λ (q : PartTy). is_kind_of q (kind_of g bits depth w) ≡ true) (sym pulse) (pulse_right g bits depth w (sym same ∙ pulse)))
  given_provides f g xs _ bits depth w is_made makes wide_is deep not_too_deep = absurd cc
