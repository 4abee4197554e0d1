-- What a struct and an interface define keeps the types of the program in order.
use Rattle.std.proofs.Common.{◌≡◌, ◌∙◌, ℕ, ◌+◌, Bool, true, false, cond, ◌&&◌, List, [], ◌∷◌, ◌++◌, map, length, codes, Option, Some, None, Ok, refl, sym, ap, subst, arith, append_assoc, append-nil}
use Rattle.std.specs.Prelude.{nat_le}
use Rattle.std.specs.List.{list_all}
use Rattle.std.specs.Str.{bytes_eq}
use Rattle.std.proofs.lemmas.Bool.{eq-eqb, and_parts, and_from, or_left, or_right}
use Rattle.std.proofs.lemmas.List.{map-append}
use Rattle.std.proofs.lemmas.Option.{same_Some}
use Rattle.bsv_ast.specs.Names.{is_lower, is_upper}
use Rattle.bsv_ast.specs.declared.text.Span.{Span}
use Rattle.bsv_ast.specs.declared.text.Ident.{Ident}
use Rattle.bsv_ast.specs.declared.types.WrittenType.{WrittenType, out-WrittenType}
use Rattle.bsv_ast.specs.declared.types.TypeArgument.{TypeArgument}
use Rattle.bsv_ast.specs.declared.types.TypeArgument.TheOpen.{WrittenType-F}
use Rattle.bsv_ast.specs.declared.modules.Param.{Param as WrittenParam}
use Rattle.bsv_ast.specs.declared.package.Field.{Field as WrittenField}
use Rattle.bsv_ast.specs.declared.package.Typedef.{Typedef}
use Rattle.bsv_ast.specs.declared.package.Typedef.TheVariants as typedef
use Rattle.bsv_ast.specs.declared.package.MethodHeader.{MethodHeader as WrittenHeader}
use Rattle.bsv_ast.specs.declared.package.Interface.{Interface as WrittenInterface}
use Rattle.bsv_ast.specs.declared.package.Item.{Item}
use Rattle.bsv_ast.specs.declared.package.Item.TheVariants as item
use Rattle.bsv_types.specs.declared.definitions.Struct.{Struct}
use Rattle.bsv_types.specs.declared.definitions.Field.{Field}
use Rattle.bsv_types.specs.declared.definitions.Param.{Param}
use Rattle.bsv_types.specs.declared.definitions.Interface.{Interface}
use Rattle.bsv_types.specs.declared.definitions.MethodHeader.{MethodHeader}
use Rattle.bsv_types.specs.Kinds.{Kind, struct, interface, kind, type_of}
use Rattle.bsv_types.specs.Widths.{field_kinds}
use Rattle.bsv_types.specs.Shapes as ranged
use Rattle.bsv_types.specs.Shapes.{Shapes, widths_by, is_width, in_range, is_bits, is_value, is_instance}
use Rattle.bsv_types.specs.Methods.{Effect, value, action, action_value, effect, param_kinds}
use Rattle.bsv_types.specs.Operators.{◌>>=◌}
use Rattle.bsv_types.specs.Names.{distinct, lower_names}
use Rattle.bsv_types.specs.Programs.{begins_empty, effect_right, method_header_right}
use Rattle.bsv_scopes.specs.Scopes.{is_defined, is_listed, with_name}
use Rattle.bsv_context.specs.Env.{has_bits}
use Rattle.bsv_context.specs.Written.{TypeNames, with_bits, written, Argument, of_type, number, argument, value_effect, action_effect, effect_in, written_effect}
use Rattle.bsv_statements.specs.Bodies.{Or}
use Rattle.bsv_typing.proofs.Bound.{taken}
use Rattle.bsv_typing.proofs.Typings.{kind_back}
use Rattle.bsv_statements.proofs.RightCalls.{ok_is, went, there_is, passed}
use Rattle.bsv_modules.specs.Growing.{Grows}
use Rattle.bsv_modules.specs.Modules.{param, param_at, params_at, are_named, method_result}
use Rattle.bsv_modules.specs.Programs.{Types, shapes_of, type_names, with_type, field_at, fields_at, field_names, width_passes, struct_named, is_struct, struct_at, with_struct, struct_case, typedef_case, header_at, headers_at, header_names, interface_named, interface_of, with_interface, interface_case, types_after}
use Rattle.bsv_modules.proofs.Growth.{bits_kept, widths_kept}
use Rattle.bsv_modules.proofs.Entries.{not_listed, distinct_with, defined_now, all_defined_more}
use Rattle.bsv_modules.proofs.RightWritten.{has_bits_is}
use Rattle.bsv_modules.proofs.RightTypes.{struct_kept, interface_kept, enum_names, struct_names, interface_names, names_in, Kept, slot_kept, structs_stay, interface_stays, interfaces_stay, all_with, each_with, all_within, types_with}
use Rattle.bsv_modules.proofs.RightDefinitions.{Steps, same_shapes, with_type_is, last_within, alias_right, enum_right}
use Rattle.bsv_modules.proofs.RightMethods.{sure_is}

-- ---- fields

module _ (types : TypeNames) (strict : types.limits.strict ≡ true) where
  abbrev pub s : Shapes
  s = types.limits.shapes

  field_right : (p : Span) (x : WrittenField) (f : Field) → field_at types p x ≡ Ok f → ranged.has_bits s (kind f.ty) ≡ true
  field_right p x f e =
      let k = there_is p (written types x.written) _ f e in
      let h = sure_is p (has_bits types.limits k.0) (record { name = x.name.name; ty = type_of k.0 }) f k.2 in
      subst (λ j. ranged.has_bits s j ≡ true) (sym (kind_back k.0) ∙ ap (λ (d : Field). kind d.ty) h.1) (has_bits_is types.limits k.0 strict h.0)

  pub fields_right : (p : Span) (xs : List WrittenField) (fs : List Field) → fields_at types p xs ≡ Ok fs → list_all (ranged.has_bits s) (field_kinds fs) ≡ true
  fields_right p [] fs e = subst (λ ds. list_all (ranged.has_bits s) (field_kinds ds) ≡ true) (ok_is [] fs e) refl
  fields_right p (x ∷ xs) fs e =
      let f = went (field_at types p x) _ fs e in
      let rest = went (fields_at types p xs) _ fs f.2 in
      subst (λ ds. list_all (ranged.has_bits s) (field_kinds ds) ≡ true) (ok_is (f.0 ∷ rest.0) fs rest.2)
      (and_from (ranged.has_bits s (kind f.0.ty)) (list_all (ranged.has_bits s) (field_kinds rest.0)) (field_right p x f.0 f.1) (fields_right p xs rest.0 rest.1))

  -- ---- the headers of methods

  param_right : (p : Span) (x : WrittenParam) (y : Param) → param_at types (has_bits types.limits) p x ≡ Ok y → ranged.has_bits s (kind y.ty) ≡ true
  param_right p x y e =
      let k = there_is p (written types x.written) _ y e in
      let h = sure_is p (has_bits types.limits k.0) (param x.name.name k.0) y k.2 in
      subst (λ j. ranged.has_bits s j ≡ true) (sym (kind_back k.0) ∙ ap (λ (d : Param). kind d.ty) h.1) (has_bits_is types.limits k.0 strict h.0)

  params_right : (p : Span) (xs : List WrittenParam) (ps : List Param) → params_at types (has_bits types.limits) p xs ≡ Ok ps → list_all (ranged.has_bits s) (param_kinds ps) ≡ true
  params_right p [] ps e = subst (λ ds. list_all (ranged.has_bits s) (param_kinds ds) ≡ true) (ok_is [] ps e) refl
  params_right p (x ∷ xs) ps e =
      let y = went (param_at types (has_bits types.limits) p x) _ ps e in
      let rest = went (params_at types (has_bits types.limits) p xs) _ ps y.2 in
      subst (λ ds. list_all (ranged.has_bits s) (param_kinds ds) ≡ true) (ok_is (y.0 ∷ rest.0) ps rest.2)
      (and_from (ranged.has_bits s (kind y.0.ty)) (list_all (ranged.has_bits s) (param_kinds rest.0)) (param_right p x y.0 y.1) (params_right p xs rest.0 rest.1))

  pub with_bits_is : (k j : Kind) → with_bits types.limits k ≡ Some j → ranged.has_bits s j ≡ true
  with_bits_is k j e = by (has_bits types.limits k) refl e where
    by : (b : Bool) → has_bits types.limits k ≡ b → cond b (Some k) None ≡ Some j → ranged.has_bits s j ≡ true
    by true is e = subst (λ i. ranged.has_bits s i ≡ true) (same_Some k j e) (has_bits_is types.limits k strict is)
    by false is e = absurd cc

  abbrev pub EffectRight : Option Effect → Type 0
  EffectRight o = (e : Effect) → o ≡ Some e → effect_right s e ≡ true

  value_is : (t : Option Kind) → EffectRight (value_effect types.limits t)
  value_is t e is =
      let j = taken (t >>= with_bits types.limits) (λ k. Some (value k)) e is in
      let k = taken t (with_bits types.limits) j.0 j.1 in
      subst (λ x. effect_right s x ≡ true) (same_Some (value j.0) e j.2) (with_bits_is k.0 j.0 k.2)

  acting_is : (x : Argument) → EffectRight (action_effect types.limits x)
  acting_is (number n) e is = absurd cc
  acting_is (of_type t) e is =
      let j = taken (t >>= with_bits types.limits) (λ k. Some (action_value k)) e is in
      let k = taken t (with_bits types.limits) j.0 j.1 in
      subst (λ x. effect_right s x ≡ true) (same_Some (action_value j.0) e j.2) (with_bits_is k.0 j.0 k.2)

  by_test : (b : Bool) (x y : Option Effect) → EffectRight x → EffectRight y → EffectRight (cond b x y)
  by_test true x y h k = h
  by_test false x y h k = k

  acts : EffectRight (Some action)
  acts e is = subst (λ x. effect_right s x ≡ true) (same_Some action e is) refl

  effect_of : (t : WrittenType) (x : WrittenType-F TypeArgument WrittenType) → EffectRight (effect_in types t x)
  effect_of t (WrittenType-F.Named p name) = by_test (bytes_eq name.name (codes "Action")) (Some action) (value_effect types.limits (written types t)) acts (value_is (written types t))
  effect_of t (WrittenType-F.Applied p name x) = by_test (bytes_eq name.name (codes "ActionValue")) (action_effect types.limits (argument types x)) (value_effect types.limits (written types t)) (acting_is (argument types x)) (value_is (written types t))
  effect_of t (WrittenType-F.Int p) = value_is (written types t)

  effect_back : (f : Effect) → effect (method_result f) ≡ f
  effect_back (value k) = ap value (kind_back k)
  effect_back action = refl
  effect_back (action_value k) = ap action_value (kind_back k)

  header_right : (p : Span) (x : WrittenHeader) (m : MethodHeader) → header_at types p x ≡ Ok m → method_header_right s m ≡ true
  header_right p x m e =
      let ps = went (params_at types (has_bits types.limits) p x.params) _ m e in
      let f = there_is p (written_effect types x.result) _ m ps.2 in
      let made : MethodHeader = record { name = x.name.name; params = ps.0; result = method_result f.0 } in
      let h = sure_is p (is_lower x.name.name && are_named ps.0) made m f.2 in
      subst (λ d. method_header_right s d ≡ true) h.1
      (and_from (is_lower x.name.name && are_named ps.0 && list_all (ranged.has_bits s) (param_kinds ps.0)) (effect_right s (effect made.result))
      (and_from (is_lower x.name.name && are_named ps.0) (list_all (ranged.has_bits s) (param_kinds ps.0)) h.0 (params_right p x.params ps.0 ps.1))
      (ap (effect_right s) (effect_back f.0) ∙ effect_of x.result (out-WrittenType x.result) f.0 f.1))

  pub headers_right : (p : Span) (xs : List WrittenHeader) (ms : List MethodHeader) → headers_at types p xs ≡ Ok ms → list_all (method_header_right s) ms ≡ true
  headers_right p [] ms e = subst (λ ds. list_all (method_header_right s) ds ≡ true) (ok_is [] ms e) refl
  headers_right p (x ∷ xs) ms e =
      let m = went (header_at types p x) _ ms e in
      let rest = went (headers_at types p xs) _ ms m.2 in
      subst (λ ds. list_all (method_header_right s) ds ≡ true) (ok_is (m.0 ∷ rest.0) ms rest.2)
      (and_from (method_header_right s m.0) (list_all (method_header_right s) rest.0) (header_right p x m.0 m.1) (headers_right p xs rest.0 rest.1))

-- ---- a struct

module _ (t : Types) (kept : Kept t) (x : Struct) where
  abbrev pub n : ℕ
  n = length t.structs

  abbrev pub behind : Types
  behind = record t { names = with_name x.name (struct n) t.names; structs = t.structs ++ x ∷ [] }

  more : Grows (shapes_of t) (shapes_of behind)
  more = record { enums = []; structs = x ∷ []; interfaces = []; enums_are = sym (append-nil t.enums); structs_are = refl; interfaces_are = sym (append-nil t.interfaces) }

  names_are : names_in behind ≡ (enum_names t.enums ++ struct_names t.structs) ++ x.name ∷ interface_names t.interfaces
  names_are =
      ap (λ ns. enum_names t.enums ++ ns ++ interface_names t.interfaces) (map-append (λ (d : Struct). d.name) t.structs (x ∷ []))
      ∙ ap (λ ns. ns ++ interface_names t.interfaces) (sym (append_assoc (enum_names t.enums) (struct_names t.structs) (x.name ∷ [])))
      ∙ append_assoc (enum_names t.enums ++ struct_names t.structs) (x.name ∷ []) (interface_names t.interfaces)

  none_before : n ≡ 0 + n
  none_before = omega arith

  struct_kept_right : struct_kept (shapes_of behind) n x ≡ true → is_defined x.name t.names ≡ false → Kept behind
  struct_kept_right right unnamed =
      let front = enum_names t.enums ++ struct_names t.structs in
      let back = interface_names t.interfaces in
      record {
        strict = kept.strict;
        enums = kept.enums;
        structs = each_with (struct_kept (shapes_of behind)) 0 t.structs x (structs_stay (shapes_of t) (shapes_of behind) more 0 t.structs kept.structs) (subst (λ k. struct_kept (shapes_of behind) k x ≡ true) none_before right);
        interfaces = interfaces_stay (shapes_of t) (shapes_of behind) more t.interfaces kept.interfaces;
        empty = kept.empty;
        types = types_with (shapes_of behind) x.name (struct n) t.names (λ m k is. slot_kept (shapes_of t) (shapes_of behind) more k (kept.types m k is)) (or_left (is_value (shapes_of behind) (struct n)) (is_instance (shapes_of behind) (struct n)) (last_within t.structs x));
        label = kept.label;
        names = subst (λ ns. distinct ns ≡ true) (sym names_are)
            (distinct_with x.name front back kept.names (not_listed (λ m. is_defined m t.names) x.name (names_in t) kept.named unnamed));
        named = subst (λ ns. list_all (λ m. is_defined m behind.names) ns ≡ true) (sym names_are)
            (all_within (λ m. is_defined m behind.names) front x.name back (all_defined_more (names_in t) x.name (struct n) t.names kept.named) (defined_now x.name (struct n) t.names));
        label_names = kept.label_names;
        labelled = kept.labelled;
      }

fields_bits : (s z : Shapes) → Grows s z → (ks : List Kind) → list_all (ranged.has_bits s) ks ≡ true → list_all (is_bits z (length s.structs)) ks ≡ true
fields_bits s z more [] e = refl
fields_bits s z more (k ∷ ks) e =
    let h = and_parts (ranged.has_bits s k) (list_all (ranged.has_bits s) ks) e in
    and_from (is_bits z (length s.structs) k) (list_all (is_bits z (length s.structs)) ks) (bits_kept s z more (length s.structs) (length s.structs) k (omega arith) h.0) (fields_bits s z more ks h.1)

range_is : (strict : Bool) (w : ℕ) → strict ≡ true → width_passes strict w ≡ true → in_range w ≡ true
range_is true w is e = e
range_is false w is e = absurd cc

-- the struct that is made of fields that are written
record Made (s : Span) (name : List ℕ) (xs : List WrittenField) (t : Types) (x : Struct) : Type 0 where
  fields : list_all (ranged.has_bits (shapes_of t)) (field_kinds x.fields) ≡ true
  named : x.name ≡ name
  upper : is_upper x.name ≡ true
  lower : lower_names (map (λ f. f.name) x.fields) ≡ true
  widths : widths_by t.enums t.structs (field_kinds x.fields) ≡ Some x.width
  range : width_passes t.strict x.width ≡ true

made_so : (s : Span) (name : List ℕ) (xs : List WrittenField) (t : Types) (x : Struct) → t.strict ≡ true → struct_at s name xs t ≡ Ok x → Made s name xs t x
unfolding struct_at type_names
made_so s name xs t x strict e =
    let fs = went (fields_at (type_names t) s xs) _ x e in
    let named = passed s (is_struct name fs.0) true _ x fs.2 in
    let w = there_is s (widths_by t.enums t.structs (field_kinds fs.0)) _ x named.1 in
    let range = sure_is s (width_passes t.strict w.0) (struct_named name fs.0 w.0) x w.2 in
    let b = and_parts (is_upper name && nat_le 1 (length fs.0)) (lower_names (field_names fs.0)) named.0 in
    let a = and_parts (is_upper name) (nat_le 1 (length fs.0)) b.0 in
    subst (Made s name xs t) range.1 (record { fields = fields_right (type_names t) strict s xs fs.0 fs.1; named = refl; upper = a.0; lower = b.1; widths = w.1; range = range.0 })

pub struct_right : (s : Span) (name : Ident) (xs : List WrittenField) (t next : Types) → Kept t → struct_case s name xs t ≡ Ok next → Steps t next
struct_right s name xs t next kept e =
    let x = went (struct_at s name.name xs t) _ next e in
    let h = there_is s (with_type name.name (struct (length t.structs)) t) _ next x.2 in
    let is = with_type_is name.name (struct (length t.structs)) t h.0 h.1 in
    let made = made_so s name.name xs t x.0 kept.strict x.1 in
    let ks = field_kinds x.0.fields in
    let z = shapes_of (behind t kept x.0) in
    let front = is_upper x.0.name && lower_names (map (λ f. f.name) x.0.fields) in
    let bits = fields_bits (shapes_of t) z (more t kept x.0) ks made.fields in
    let widths = widths_kept (shapes_of t) z (more t kept x.0) ks x.0.width made.widths in
    let right = and_from (front && list_all (is_bits z (length t.structs)) ks && in_range x.0.width) (is_width (widths_by z.enums z.structs ks) x.0.width)
    (and_from (front && list_all (is_bits z (length t.structs)) ks) (in_range x.0.width)
    (and_from front (list_all (is_bits z (length t.structs)) ks) (and_from (is_upper x.0.name) (lower_names (map (λ f. f.name) x.0.fields)) made.upper made.lower) bits)
    (range_is t.strict x.0.width kept.strict made.range))
    (ap (λ o. is_width o x.0.width) widths ∙ eq-eqb x.0.width x.0.width refl) in
    let new = ap (λ n. is_defined n t.names) made.named ∙ is.0 in
    let same : behind t kept x.0 ≡ next =
    ap (λ n. record t { names = with_name n (struct (length t.structs)) t.names; structs = t.structs ++ x.0 ∷ [] }) made.named
    ∙ ap (with_struct x.0) (sym is.1) ∙ ok_is _ next h.2 in
    subst (Steps t) same (record { kept = struct_kept_right t kept x.0 right new; grows = more t kept x.0 })

-- ---- an interface

begins_more : (is : List Interface) (i : Interface) → begins_empty is ≡ true → begins_empty (is ++ i ∷ []) ≡ true
begins_more [] i e = absurd cc
begins_more (j ∷ is) i e = e

module _ (t : Types) (kept : Kept t) (x : Interface) where
  abbrev pub m : ℕ
  m = length t.interfaces

  abbrev pub beyond : Types
  beyond = record t { names = with_name x.name (interface m) t.names; interfaces = t.interfaces ++ x ∷ [] }

  wider : Grows (shapes_of t) (shapes_of beyond)
  wider = record { enums = []; structs = []; interfaces = x ∷ []; enums_are = sym (append-nil t.enums); structs_are = sym (append-nil t.structs); interfaces_are = refl }

  abbrev pub front : List (List ℕ)
  front = enum_names t.enums ++ struct_names t.structs ++ interface_names t.interfaces

  names_are_so : names_in beyond ≡ front ++ x.name ∷ []
  names_are_so =
      ap (λ ns. enum_names t.enums ++ struct_names t.structs ++ ns) (map-append (λ (d : Interface). d.name) t.interfaces (x ∷ []))
      ∙ sym (append_assoc (enum_names t.enums ++ struct_names t.structs) (interface_names t.interfaces) (x.name ∷ []))

  whole : front ++ [] ≡ names_in t
  whole = append-nil front

  interface_kept_right : interface_kept (shapes_of beyond) x ≡ true → is_defined x.name t.names ≡ false → Kept beyond
  interface_kept_right right unnamed = record {
    strict = kept.strict;
    enums = kept.enums;
    structs = structs_stay (shapes_of t) (shapes_of beyond) wider 0 t.structs kept.structs;
    interfaces = all_with (interface_kept (shapes_of beyond)) t.interfaces x (interfaces_stay (shapes_of t) (shapes_of beyond) wider t.interfaces kept.interfaces) right;
    empty = begins_more t.interfaces x kept.empty;
    types = types_with (shapes_of beyond) x.name (interface m) t.names (λ n k is. slot_kept (shapes_of t) (shapes_of beyond) wider k (kept.types n k is)) (or_right (is_value (shapes_of beyond) (interface m)) (is_instance (shapes_of beyond) (interface m)) (last_within t.interfaces x));
    label = kept.label;
    names = subst (λ ns. distinct ns ≡ true) (sym names_are_so)
        (distinct_with x.name front [] (ap distinct whole ∙ kept.names) (ap (is_listed x.name) whole ∙ not_listed (λ n. is_defined n t.names) x.name (names_in t) kept.named unnamed));
    named = subst (λ ns. list_all (λ n. is_defined n beyond.names) ns ≡ true) (sym names_are_so)
        (all_within (λ n. is_defined n beyond.names) front x.name [] (ap (list_all (λ n. is_defined n beyond.names)) whole ∙ all_defined_more (names_in t) x.name (interface m) t.names kept.named) (defined_now x.name (interface m) t.names));
    label_names = kept.label_names;
    labelled = kept.labelled;
  }

-- the interface that is made of headers that are written
record MadeOf (i : WrittenInterface) (t : Types) (x : Interface) : Type 0 where
  called : x.name ≡ i.name.name
  kept_so : interface_kept (shapes_of t) x ≡ true

made_of_so : (i : WrittenInterface) (t : Types) (x : Interface) → t.strict ≡ true → interface_of i t ≡ Ok x → MadeOf i t x
unfolding interface_of type_names
made_of_so i t x strict e =
    let hs = went (headers_at (type_names t) i.span i.methods) _ x e in
    let named = sure_is i.span (is_upper i.name.name && distinct (header_names hs.0)) (interface_named i.name.name hs.0) x hs.2 in
    subst (MadeOf i t) named.1 (record {
      called = refl;
      kept_so = and_from (is_upper i.name.name && distinct (header_names hs.0)) (list_all (method_header_right (shapes_of t)) hs.0) named.0 (headers_right (type_names t) strict i.span i.methods hs.0 hs.1);
    })

pub interface_right : (i : WrittenInterface) (t next : Types) → Kept t → interface_case i t ≡ Ok next → Steps t next
interface_right i t next kept e =
    let x = went (interface_of i t) _ next e in
    let h = there_is i.span (with_type i.name.name (interface (length t.interfaces)) t) _ next x.2 in
    let is = with_type_is i.name.name (interface (length t.interfaces)) t h.0 h.1 in
    let made = made_of_so i t x.0 kept.strict x.1 in
    let right = interface_stays (shapes_of t) (shapes_of (beyond t kept x.0)) (wider t kept x.0) x.0 made.kept_so in
    let new = ap (λ n. is_defined n t.names) made.called ∙ is.0 in
    let same : beyond t kept x.0 ≡ next =
    ap (λ n. record t { names = with_name n (interface (length t.interfaces)) t.names; interfaces = t.interfaces ++ x.0 ∷ [] }) made.called
    ∙ ap (with_interface x.0) (sym is.1) ∙ ok_is _ next h.2 in
    subst (Steps t) same (record { kept = interface_kept_right t kept x.0 right new; grows = wider t kept x.0 })

-- ---- each item

stays : (t next : Types) → Kept t → ◌≡◌ {A = Or Types} (Ok t) (Ok next) → Steps t next
stays t next kept e = subst (Steps t) (ok_is t next e) (record { kept = kept; grows = same_shapes (shapes_of t) })

typedef_right : (d : Typedef) (t next : Types) → Kept t → typedef_case d t ≡ Ok next → Steps t next
typedef_right (typedef.Alias s w name) t next kept e = alias_right s w name t next kept e
typedef_right (typedef.Enum s xs name classes) t next kept e = enum_right s name xs t next kept e
typedef_right (typedef.Struct s fs name classes) t next kept e = struct_right s name fs t next kept e

pub item_right : (i : Item) (t next : Types) → Kept t → types_after i t ≡ Ok next → Steps t next
item_right (item.Typedef s d) t next kept e = typedef_right d t next kept e
item_right (item.Interface s x) t next kept e = interface_right x t next kept e
item_right (item.Import s x) t next kept e = stays t next kept e
item_right (item.Function s x) t next kept e = stays t next kept e
item_right (item.Module s x) t next kept e = stays t next kept e
