-- Fields of structs, and structs that are made of values of their fields.
use Rattle.std.proofs.Common.{◌≡◌, ◌∙◌, ℕ, ◌+◌, ◌<◌, ◌≤◌, zero, suc, Bool, true, false, cond, not, ◌||◌, List, [], ◌∷◌, ◌++◌, map, length, Option, Some, None, refl, sym, ap, subst, arith, append_assoc, append-nil}
use Rattle.std.specs.Prelude.{◌==◌, nat_le, slice_get}
use Rattle.std.specs.List.{list_any}
use Rattle.std.specs.Str.{bytes_eq}
use Rattle.std.proofs.lemmas.Bool.{eqb-true, eq-eqb, ltb-true, leb-true, and_parts, and_from, not_from_false}
use Rattle.std.proofs.lemmas.List.{length-map}
use Rattle.std.proofs.lemmas.Option.{same_Some}
use Rattle.bsv_lemmas.proofs.Places.{item_there}
use Rattle.bsv_types.specs.declared.operators.Op.TheVariants as op
use Rattle.bsv_types.specs.declared.definitions.Field.{Field}
use Rattle.bsv_types.specs.declared.definitions.Struct.{Struct}
use Rattle.bsv_types.specs.declared.expressions.Expr.{Expr}
use Rattle.bsv_types.specs.Kinds.{Kind, struct, kind}
use Rattle.bsv_types.specs.Widths.{field_kinds}
use Rattle.bsv_types.specs.Shapes.{Shapes, widths_by, is_width, in_range}
use Rattle.bsv_types.specs.Operators.{◌>>=◌, gives, is_kind, field_kind, are_fields, is_set, sets_once}
use Rattle.bsv_types.specs.Programs.{each_at, struct_right}
use Rattle.bsv_types.specs.Expressions.{World, Frame, typing}
use Rattle.bsv_types.proofs.Same.{same_self}
use Rattle.bsv_typing.specs.Operands.{Operand}
use Rattle.bsv_context.specs.Env.{applied}
use Rattle.bsv_typing.specs.Forms.{field_from, field_named, is_among, field_values, field_count, construct_case}
use Rattle.bsv_typing.proofs.Bound.{taken, tested_step, failed_step}
use Rattle.bsv_typing.proofs.Typings.{Each, apply_typed}
use Rattle.bsv_typing.proofs.RightOperands.{strictly, FormedAs, Good, wanted_formed, each_more}

-- ---- the fields of a struct

abbrev kind_at : List Field → ℕ → Option Kind
kind_at fs i = slice_get fs i >>= λ d. Some (kind d.ty)

field_from_is : (n : ℕ) (name : List ℕ) (fs : List Field) (f : ℕ × Kind) → field_from n name fs ≡ Some f → (i : ℕ) × (f.0 ≡ n + i) × (kind_at fs i ≡ Some f.1)
field_from_is n name [] f e = absurd cc
field_from_is n name (d ∷ ds) f e = by (bytes_eq name d.name) (field_from_is (n + 1) name ds f) e where
  by : (b : Bool) → (field_from (n + 1) name ds ≡ Some f → (i : ℕ) × (f.0 ≡ n + 1 + i) × (kind_at ds i ≡ Some f.1)) →
      cond b (Some (n, kind d.ty)) (field_from (n + 1) name ds) ≡ Some f → (i : ℕ) × (f.0 ≡ n + i) × (kind_at (d ∷ ds) i ≡ Some f.1)
  by true later at =
      let is = same_Some (n, kind d.ty) f at in
      let first : n ≡ n + 0 = omega arith in
      (0, sym (ap (λ (q : ℕ × Kind). q.0) is) ∙ first, ap (λ (q : ℕ × Kind). Some q.1) is)
  by false later at =
      let more = later at in
      let next : n + 1 + more.0 ≡ n + suc more.0 = omega arith in
      (suc more.0, more.1 ∙ next, more.2)

-- the field that has the name is that of its number
pub field_is : (w : World) (k : Kind) (name : List ℕ) (f : ℕ × Kind) → field_named (strictly w) k name ≡ Some f → field_kind w.shapes k f.0 ≡ Some f.1
unfolding field_named
field_is w (struct k) name f e =
    let t = taken (slice_get w.shapes.structs k) _ f e in
    let h = field_from_is 0 name t.0.fields f t.2 in
    let first : 0 + h.0 ≡ h.0 = omega arith in
    ap (λ (o : Option Struct). o >>= λ s. slice_get s.fields f.0 >>= λ d. Some (kind d.ty)) t.1 ∙ ap (kind_at t.0.fields) (h.1 ∙ first) ∙ h.2
field_is w _ name f e = absurd cc

-- ---- no field twice

among_more : (n f : ℕ) (given : List ℕ) → is_among n (given ++ f ∷ []) ≡ false → (is_among n given ≡ false) × ((n == f) ≡ false)
among_more n f [] e = (refl, by (n == f) e) where
  by : (b : Bool) → (b || false) ≡ false → b ≡ false
  by true e = e
  by false e = refl
among_more n f (g ∷ gs) e = by (n == g) (among_more n f gs) e where
  by : (b : Bool) → (is_among n (gs ++ f ∷ []) ≡ false → (is_among n gs ≡ false) × ((n == f) ≡ false)) → (b || is_among n (gs ++ f ∷ [])) ≡ false → ((b || is_among n gs) ≡ false) × ((n == f) ≡ false)
  by true later e = absurd cc
  by false later e = later e

-- numbers that were not given before
abbrev Fresh : List ℕ → List ℕ → Type 0
Fresh given [] = Unit {0}
Fresh given (n ∷ ns) = (is_among n given ≡ false) × Fresh given ns

fresh_less : (given ns : List ℕ) (f : ℕ) → Fresh (given ++ f ∷ []) ns → Fresh given ns
fresh_less given [] f h = tt
fresh_less given (n ∷ ns) f h = ((among_more n f given h.0).0, fresh_less given ns f h.1)

other : (m n : ℕ) → (m == n) ≡ false → (n == m) ≡ false
other m n e = by (n == m) refl where
  by : (b : Bool) → (n == m) ≡ b → b ≡ false
  by true is = let same = eq-eqb m n (sym (eqb-true n m is)) in absurd cc
  by false is = refl

set_once : (given ns : List ℕ) (f : ℕ) → Fresh (given ++ f ∷ []) ns → list_any (is_set f) (map op.Set ns) ≡ false
set_once given [] f h = refl
set_once given (n ∷ ns) f h = neither (f == n) (list_any (is_set f) (map op.Set ns)) (other n f (among_more n f given h.0).1) (set_once given ns f h.1) where
  neither : (a b : Bool) → a ≡ false → b ≡ false → (a || b) ≡ false
  neither true b p q = absurd cc
  neither false b p q = q

-- ---- a struct in order has fields

no_fields : (s : Shapes) (fs : List Field) (width : ℕ) → length fs ≡ 0 → in_range width ≡ true → is_width (widths_by s.enums s.structs (field_kinds fs)) width ≡ true → ⊥
no_fields s [] width none range is =
    let zero_wide : 0 ≡ width = eqb-true 0 width is in
    let some : 1 ≤ width = leb-true 1 width (and_parts (nat_le 1 width) (nat_le width 128) range).0 in
    omega arith
no_fields s (f ∷ fs) width none range is = omega arith

has_fields : (s : Shapes) (first : ℕ) (ts : List Struct) (k : ℕ) (t : Struct) → each_at (struct_right s) first ts ≡ true → slice_get ts k ≡ Some t → length t.fields ≡ 0 → ⊥
has_fields s first [] k t all is none = absurd cc
has_fields s first (u ∷ us) zero t all is none =
    let right = (and_parts _ _ all).0 in
    let h = and_parts _ _ right in
    let same = same_Some u t is in
    no_fields s u.fields u.width (ap (λ (v : Struct). length v.fields) same ∙ none) (and_parts _ _ h.0).1 h.1
has_fields s first (u ∷ us) (suc k) t all is none = has_fields s (first + 1) us k t (and_parts _ _ all).1 is none

not_there : {A : Type 0} (xs : List A) (k : ℕ) → slice_get xs k ≡ None → k < length xs → ⊥
not_there [] k e h = omega arith
not_there (x ∷ xs) zero e h = absurd cc
not_there (x ∷ xs) (suc k) e h = not_there xs k e (omega arith)

count_is : (w : World) (k : ℕ) (t : Struct) → slice_get w.shapes.structs k ≡ Some t → field_count (strictly w) k ≡ length t.fields
unfolding field_count
count_is w k t h = rw h

-- every field once
constructed : (w : World) (k : ℕ) (ns : List ℕ) (ks : List Kind) (t : Struct) → each_at (struct_right w.shapes) 0 w.shapes.structs ≡ true → slice_get w.shapes.structs k ≡ Some t → length ns ≡ length t.fields →
    are_fields w.shapes (struct k) (map op.Set ns) ks ≡ true → sets_once (map op.Set ns) ≡ true → gives w.shapes (map op.Set ns) ks (struct k) ≡ true
constructed w k [] ks t right is many fields once = absurd (has_fields w.shapes 0 w.shapes.structs k t right is (sym many))
constructed w k (n ∷ ns) ks t right is many fields once =
    let count = length-map (n ∷ ns) op.Set ∙ many in
    let whole = ap (λ (o : Option Struct). is_width (o >>= λ s. Some (length s.fields)) (length (map op.Set (n ∷ ns)))) is ∙ eq-eqb (length t.fields) (length (map op.Set (n ∷ ns))) (sym count) in
    and_from _ _ (and_from _ _ fields once) whole

module _ (w : World) (frame : Frame) where
  abbrev pub FieldsGood : List (List ℕ × Operand) → Type 0
  FieldsGood [] = Unit {0}
  FieldsGood (x ∷ xs) = Good w frame x.1 × FieldsGood xs

  -- values of fields, each given once
  record Values (k : Kind) (given : List ℕ) (count : ℕ) (r : List ℕ × List Expr) : Type 0 where
    numbers : List ℕ
    kinds : List Kind
    behind : r.0 ≡ given ++ numbers
    typed : Each w frame r.1 kinds
    fields : are_fields w.shapes k (map op.Set numbers) kinds ≡ true
    once : sets_once (map op.Set numbers) ≡ true
    fresh : Fresh given numbers
    many : length numbers ≡ count

  values_right : (k : Kind) (given : List ℕ) (xs : List (List ℕ × Operand)) (r : List ℕ × List Expr) → FieldsGood xs → field_values (strictly w) k given xs ≡ Some r → Values k given (length xs) r
  unfolding field_values
  values_right k given [] r good e = subst (Values k given 0) (same_Some (given, []) r e)
      (record { numbers = []; kinds = []; behind = sym (append-nil given); typed = refl; fields = refl; once = refl; fresh = tt; many = refl })
  values_right k given (x ∷ xs) r good e =
      let f = taken (field_named (strictly w) k x.0) _ r e in
      let n = f.0.0 in
      let b = failed_step (is_among n given) _ r f.2 in
      let t = taken (x.1.check (Some f.0.1)) _ r b.1 in
      let q = taken (field_values (strictly w) k (given ++ n ∷ []) xs) _ r t.2 in
      let v = values_right k (given ++ n ∷ []) xs q.0 good.1 q.1 in
      let h = good.0 (Some f.0.1) t.0 t.1 in
      let is_field = ap (λ (o : Option Kind). is_kind o f.0.1) (field_is w k x.0 f.0 f.1) ∙ same_self f.0.1 in
      subst (Values k given (suc (length xs))) (same_Some (q.0.0, t.0.expr ∷ q.0.1) r q.2)
      (record {
        numbers = n ∷ v.numbers;
        kinds = f.0.1 ∷ v.kinds;
        behind = v.behind ∙ append_assoc given (n ∷ []) v.numbers;
        typed = each_more w frame t.0.expr q.0.1 f.0.1 v.kinds (h.0 ∙ ap Some h.1) v.typed;
        fields = and_from (is_kind (field_kind w.shapes k n) f.0.1) (are_fields w.shapes k (map op.Set v.numbers) v.kinds) is_field v.fields;
        once = and_from (not (list_any (is_set n) (map op.Set v.numbers))) (sets_once (map op.Set v.numbers)) (not_from_false (list_any (is_set n) (map op.Set v.numbers)) (set_once given v.numbers n v.fresh)) v.once;
        fresh = (b.0, fresh_less given v.numbers n v.fresh);
        many = ap suc v.many;
      })

  -- the numbers of the fields are those that were collected
  pub construct_right : (structure : Option ℕ) (given : List (List ℕ × Operand)) → each_at (struct_right w.shapes) 0 w.shapes.structs ≡ true → FieldsGood given → FormedAs w frame (construct_case (strictly w) structure given)
  unfolding construct_case
  construct_right structure given right good want m e =
      let s = taken structure _ m e in
      let k = s.0 in
      let q = taken (field_values (strictly w) (struct k) [] given) _ m s.2 in
      let r = q.0 in
      let h = tested_step (length given == field_count (strictly w) k) _ m q.2 in
      let v = values_right (struct k) [] given r good q.1 in
      wanted_formed w frame want (applied (struct k) (map op.Set r.0) r.1) m h.1 (λ value.
      let t = item_there w.shapes.structs k (ltb-true k (length w.shapes.structs) value) in
      let many = v.many ∙ eqb-true (length given) (field_count (strictly w) k) h.0 ∙ count_is w k t.0 t.1 in
      subst (λ ns. typing w (applied (struct k) (map op.Set ns) r.1).expr frame ≡ Some (struct k)) (sym v.behind)
      (apply_typed w frame (struct k) (map op.Set v.numbers) r.1 v.kinds value v.typed (constructed w k v.numbers v.kinds t.0 right t.1 many v.fields v.once)))
