-- What an item defines keeps the types of the program in order.
use Rattle.std.proofs.Common.{◌≡◌, ◌∙◌, ℕ, true, false, not, ◌&&◌, List, [], ◌∷◌, ◌++◌, length, Option, Some, None, Ok, refl, sym, ap, subst, arith, append_assoc, append-nil}
use Rattle.std.specs.Prelude.{nat_le, nat_lt, slice_get}
use Rattle.std.specs.List.{list_all}
use Rattle.std.proofs.lemmas.Bool.{ltb-true, lt-ltb, eq-eqb, and_parts, and_from, or_left}
use Rattle.std.proofs.lemmas.List.{length-append, length-map, map-append}
use Rattle.std.proofs.lemmas.List.Folds.{list_all-map}
use Rattle.std.proofs.lemmas.Option.{same_Some as some_is}
use Rattle.bsv_lemmas.proofs.Places.{stays_left, at_end}
use Rattle.bsv_ast.specs.Names.{is_upper}
use Rattle.bsv_ast.specs.declared.text.Span.{Span}
use Rattle.bsv_ast.specs.declared.text.Ident.{Ident}
use Rattle.bsv_ast.specs.declared.types.WrittenType.{WrittenType}
use Rattle.bsv_types.specs.declared.definitions.Enum.{Enum}
use Rattle.bsv_types.specs.Kinds.{Kind, enum}
use Rattle.bsv_types.specs.Shapes.{Shapes, is_value, is_instance}
use Rattle.bsv_types.specs.Expressions.{one, label_count}
use Rattle.bsv_types.specs.Names.{distinct}
use Rattle.bsv_scopes.specs.Scopes.{found, is_defined, is_listed, with_name}
use Rattle.bsv_typing.specs.Laws.{slot_right}
use Rattle.bsv_typing.proofs.Bound.{taken}
use Rattle.bsv_statements.proofs.RightCalls.{ok_is, went, there_is, passed, at_is}
use Rattle.bsv_modules.specs.Growing.{Grows}
use Rattle.bsv_modules.specs.Programs.{Types, shapes_of, type_names, added, with_type, names_of, labelled, are_new, is_undefined, is_label, enum_width, enum_named, written_at, alias_case, is_enum, with_enum, enum_case}
use Rattle.bsv_modules.proofs.WrittenAt.{written_is}
use Rattle.bsv_modules.proofs.Entries.{not_listed, distinct_with, defined_now, all_defined_more}
use Rattle.bsv_modules.proofs.RightWritten.{Names, written_right}
use Rattle.bsv_modules.proofs.RightEnums.{enum_kept}
use Rattle.bsv_modules.proofs.RightLabels.{labels_hold, all_more, labels_defined, joined}
use Rattle.bsv_modules.proofs.RightTypes.{labels, enum_names, struct_names, interface_names, names_in, Kept, slot_kept, structs_stay, interfaces_stay, all_with, all_joined, all_within, name_added, types_with}
use Rattle.bsv_modules.proofs.RightSites.{first_there}

-- one definition more: what was there is there, and all is in order
pub record Steps (t next : Types) : Type 0 where
  pub kept : Kept next
  pub grows : Grows (shapes_of t) (shapes_of next)

pub same_shapes : (s : Shapes) → Grows s s
same_shapes s = record { enums = []; structs = []; interfaces = []; enums_are = sym (append-nil s.enums); structs_are = sym (append-nil s.structs); interfaces_are = sym (append-nil s.interfaces) }

pub names_right : (t : Types) → Kept t → Names (type_names t)
unfolding type_names
names_right t k = record { strict = k.strict; empty = first_there t.interfaces k.empty; named = k.types }

-- the names of the types after one more
pub with_type_is : (name : List ℕ) (k : Kind) (t next : Types) → with_type name k t ≡ Some next →
    (is_defined name t.names ≡ false) × (next ≡ record t { names = with_name name k t.names })
with_type_is name k t next e =
    let h = taken (added name k t.names) (λ names. Some (record t { names = names })) next e in
    let a = name_added name k t.names h.0 h.1 in
    (a.0, sym (some_is (record t { names = h.0 }) next h.2) ∙ ap (λ names. record t { names = names }) (sym a.1))

-- ---- a name for a type

written_slot : (s : Span) (w : WrittenType) (t : Types) (k : Kind) → Kept t → written_at s w t ≡ Ok k → slot_right (shapes_of t) (one k) ≡ true
unfolding type_names
written_slot s w t k kept e = written_right (type_names t) (names_right t kept) w k (written_is s w t k e)

pub alias_right : (s : Span) (w : WrittenType) (name : Ident) (t next : Types) → Kept t → alias_case s w name t ≡ Ok next → Steps t next
alias_right s w name t next kept e =
    let k = went (written_at s w t) _ next e in
    let is = with_type_is name.name k.0 t next (at_is s (with_type name.name k.0 t) next k.2) in
    subst (Steps t) (sym is.1) (record {
      kept = record {
        strict = kept.strict;
        enums = kept.enums;
        structs = kept.structs;
        interfaces = kept.interfaces;
        empty = kept.empty;
        types = types_with (shapes_of t) name.name k.0 t.names kept.types (written_slot s w t k.0 kept k.1);
        label = kept.label;
        names = kept.names;
        named = all_defined_more (names_in t) name.name k.0 t.names kept.named;
        label_names = kept.label_names;
        labelled = kept.labelled;
      };
      grows = same_shapes (shapes_of t);
    })

-- ---- an enum

pub last_within : {A : Type 0} (xs : List A) (x : A) → nat_lt (length xs) (length (xs ++ x ∷ [])) ≡ true
last_within xs x = lt-ltb (length xs) (length (xs ++ x ∷ [])) (omega (arith, length-append xs (x ∷ [])))

count_kept : (es : List Enum) (e : Enum) (l : ℕ × ℕ) → nat_lt l.1 (label_count (slice_get es l.0)) ≡ true → nat_lt l.1 (label_count (slice_get (es ++ e ∷ []) l.0)) ≡ true
count_kept es e l lt = by (slice_get es l.0) refl lt where
  by : (o : Option Enum) → slice_get es l.0 ≡ o → nat_lt l.1 (label_count o) ≡ true → nat_lt l.1 (label_count (slice_get (es ++ e ∷ []) l.0)) ≡ true
  by None is lt = absurd (omega (arith, ltb-true l.1 0 lt))
  by (Some d) is lt = subst (λ o. nat_lt l.1 (label_count o) ≡ true) (sym (stays_left es (e ∷ []) l.0 d is)) lt

labels_with : (es : List Enum) (e : Enum) → labels (es ++ e ∷ []) ≡ labels es ++ e.labels
labels_with [] e = append-nil e.labels
labels_with (d ∷ es) e = ap (λ ls. d.labels ++ ls) (labels_with es e) ∙ sym (append_assoc d.labels (labels es) e.labels)

module _ (t : Types) (kept : Kept t) (name : List ℕ) (xs : List Ident) where
  abbrev pub e : Enum
  e = enum_named name xs

  abbrev pub n : ℕ
  n = length t.enums

  abbrev pub behind : Types
  behind = with_enum e (labelled n xs (record t { names = with_name name (enum n) t.names }))

  pub more : Grows (shapes_of t) (shapes_of behind)
  more = record { enums = e ∷ []; structs = []; interfaces = []; enums_are = refl; structs_are = sym (append-nil t.structs); interfaces_are = sym (append-nil t.interfaces) }

  named_so : is_enum name xs ≡ true → enum_kept e ≡ true
  named_so right =
      let c = and_parts (is_upper name && nat_le 2 (length xs)) (list_all is_label xs) right in
      let b = and_parts (is_upper name) (nat_le 2 (length xs)) c.0 in
      let many = length-map xs (λ (x : Ident). x.name) in
      and_from (is_upper name && nat_le 2 (length e.labels) && list_all is_upper e.labels) _
      (and_from (is_upper name && nat_le 2 (length e.labels)) (list_all is_upper e.labels)
      (and_from (is_upper name) (nat_le 2 (length e.labels)) b.0 (ap (nat_le 2) many ∙ b.1))
      (list_all-map is_upper (λ (x : Ident). x.name) xs ∙ c.1))
      (eq-eqb e.width (enum_width (length e.labels)) (ap enum_width (sym many)))

  label_held : (m : List ℕ) (l : ℕ × ℕ) → found m behind.labels ≡ Some l → nat_lt l.1 (label_count (slice_get behind.enums l.0)) ≡ true
  label_held = labels_hold (λ l. nat_lt l.1 (label_count (slice_get behind.enums l.0)) ≡ true) n 0 xs t.labels
      (λ m l is. count_kept t.enums e l (kept.label m l is))
      (λ i lt. subst (λ o. nat_lt i (label_count o) ≡ true) (sym (at_end t.enums e)) (lt-ltb i (length e.labels) (omega (arith, lt, length-map xs (λ (x : Ident). x.name)))))

  abbrev pub others : List (List ℕ)
  others = struct_names t.structs ++ interface_names t.interfaces

  names_are : names_in behind ≡ enum_names t.enums ++ name ∷ others
  names_are =
      ap (λ ns. ns ++ struct_names t.structs ++ interface_names t.interfaces) (map-append (λ (d : Enum). d.name) t.enums (e ∷ []))
      ∙ append_assoc (enum_names t.enums ++ name ∷ []) (struct_names t.structs) (interface_names t.interfaces)
      ∙ append_assoc (enum_names t.enums) (name ∷ []) others

  names_were : enum_names t.enums ++ others ≡ names_in t
  names_were = sym (append_assoc (enum_names t.enums) (struct_names t.structs) (interface_names t.interfaces))

  enum_kept_right : is_enum name xs ≡ true → are_new xs t.labels ≡ true → is_defined name t.names ≡ false → Kept behind
  enum_kept_right right new unnamed =
      let fresh = and_parts (list_all (is_undefined t.labels) xs) (distinct (names_of xs)) new in
      record {
        strict = kept.strict;
        enums = all_with enum_kept t.enums e kept.enums (named_so right);
        structs = structs_stay (shapes_of t) (shapes_of behind) more 0 t.structs kept.structs;
        interfaces = interfaces_stay (shapes_of t) (shapes_of behind) more t.interfaces kept.interfaces;
        empty = kept.empty;
        types = types_with (shapes_of behind) name (enum n) t.names (λ m k is. slot_kept (shapes_of t) (shapes_of behind) more k (kept.types m k is)) (or_left (is_value (shapes_of behind) (enum n)) (is_instance (shapes_of behind) (enum n)) (last_within t.enums e));
        label = label_held;
        names = subst (λ ns. distinct ns ≡ true) (sym names_are) (distinct_with name (enum_names t.enums) others (ap distinct names_were ∙ kept.names) (ap (is_listed name) names_were ∙ not_listed (λ m. is_defined m t.names) name (names_in t) kept.named unnamed));
        named = subst (λ ns. list_all (λ m. is_defined m behind.names) ns ≡ true) (sym names_are)
            (all_within (λ m. is_defined m behind.names) (enum_names t.enums) name others (ap (list_all (λ m. is_defined m behind.names)) names_were ∙ all_defined_more (names_in t) name (enum n) t.names kept.named) (defined_now name (enum n) t.names));
        label_names = ap distinct (labels_with t.enums e) ∙ joined (λ m. is_defined m t.labels) (labels t.enums) e.labels kept.labelled (list_all-map (λ m. not (is_defined m t.labels)) (λ (x : Ident). x.name) xs ∙ fresh.0) kept.label_names fresh.1;
        labelled = ap (list_all (λ m. is_defined m behind.labels)) (labels_with t.enums e) ∙ all_joined (λ m. is_defined m behind.labels) (labels t.enums) e.labels (all_more (labels t.enums) n 0 xs t.labels kept.labelled) (labels_defined n 0 xs t.labels);
      }

pub enum_right : (s : Span) (name : Ident) (xs : List Ident) (t next : Types) → Kept t → enum_case s name xs t ≡ Ok next → Steps t next
enum_right s name xs t next kept e =
    let p = passed s (is_enum name.name xs) (enum_named name.name xs) _ next e in
    let q = passed s (are_new xs t.labels) true _ next p.1 in
    let h = there_is s (with_type name.name (enum (length t.enums)) t) _ next q.1 in
    let is = with_type_is name.name (enum (length t.enums)) t h.0 h.1 in
    let same = ap (λ (d : Types). with_enum (enum_named name.name xs) (labelled (length t.enums) xs d)) (sym is.1) ∙ ok_is _ next h.2 in
    subst (Steps t) same (record { kept = enum_kept_right t kept name.name xs p.0 q.0 is.0; grows = more t kept name.name xs })
