-- A type has one width, and the widths that the definitions of a program in order carry are the ones that the
-- definition of widths gives.
use Rattle.std.proofs.Common.{◌≡◌, ◌∙◌, ℕ, zero, suc, ◌+◌, ◌-◌, ◌^◌, ◌<◌, ◌≤◌, Bool, true, false, ◌&&◌, List, [], ◌∷◌, min, length, slice_get, option_map, Option, Some, None, refl, ap, sym, subst, IsTrue, arith}
use Rattle.std.specs.Prelude.{nat_le, nat_lt}
use Rattle.std.specs.List.{list_all}
use Rattle.std.proofs.lemmas.Bool.{eqb-true, ltb-true, ltb-false, leb-true, and_parts}
use Rattle.std.proofs.Math.Pow.{pow_mono}
use Rattle.std.proofs.lemmas.Option.{same_Some}
use Rattle.bsv_lemmas.proofs.Places.{passes_at}
use Rattle.bsv_types.specs.declared.definitions.Enum.{Enum}
use Rattle.bsv_types.specs.declared.definitions.Struct.{Struct}
use Rattle.bsv_types.specs.declared.definitions.Interface.{Interface}
use Rattle.bsv_types.specs.declared.definitions.Function.{Function}
use Rattle.bsv_types.specs.declared.modules.Module.{Module}
use Rattle.bsv_types.specs.Kinds.{Kind, bit, down, uint, int, bool, enum, struct, maybe, integer, interface, part, bare}
use Rattle.bsv_types.specs.Widths.{IsLeast, HasWidth, HaveWidth, WidthWithin, bits, unsigned, signed, truth, labels, fields, tagged, nothing, beside, field_kinds}
use Rattle.bsv_types.specs.Shapes.{Shapes, plus, width_by, widths_by, is_width, is_bits, is_enum_width}
use Rattle.bsv_types.specs.Programs.{each_at, enum_right, struct_right, shapes_right, begins_empty, is_right}

least_once : (u v n : ℕ) → IsLeast u n → IsLeast v n → u ≡ v
least_once u v n a b =
    let one : u ≤ v = a.least v b.holds in
    let two : v ≤ u = b.least u a.holds in
    omega arith

mutual
  pub one_width : {es : List Enum} {ss : List Struct} {k : Kind} {u v : ℕ} → HasWidth es ss k u → HasWidth es ss k v → u ≡ v
  one_width bits bits = refl
  one_width unsigned unsigned = refl
  one_width signed signed = refl
  one_width truth truth = refl
  one_width {es} {ss} {k} {u} {v} (labels e is least) (labels f at other) =
      let same : e ≡ f = same_Some e f (sym is ∙ at) in
      least_once u v (length f.labels - 1) (subst (λ g. IsLeast u (length g.labels - 1)) same least) other
  one_width {es} {ss} {k} {u} {v} (fields s is all) (fields t at others) =
      let same : s ≡ t = same_Some s t (sym is ∙ at) in
      one_sum (subst (λ r. HaveWidth es ss (field_kinds r.fields) u) same all) others
  one_width (tagged m x is) (tagged n y at) = is ∙ ap (λ w. 1 + w) (one_width x y) ∙ sym at

  one_sum : {es : List Enum} {ss : List Struct} {ks : List Kind} {u v : ℕ} → HaveWidth es ss ks u → HaveWidth es ss ks v → u ≡ v
  one_sum nothing nothing = refl
  one_sum (beside a b x xs is) (beside c d y ys at) =
      let first : a ≡ c = one_width x y in
      let rest : b ≡ d = one_sum xs ys in
      omega arith

-- the width of an enum that is in order is the least for its last label
least_of : (width count : ℕ) → is_enum_width width count ≡ true → IsLeast width (count - 1)
least_of width count e =
    let a = and_parts (nat_le 2 count && nat_le 1 width && nat_lt (count - 1) (2 ^ width)) (nat_le (2 ^ (width - 1)) (count - 1)) e in
    let b = and_parts (nat_le 2 count && nat_le 1 width) (nat_lt (count - 1) (2 ^ width)) a.0 in
    let c = and_parts (nat_le 2 count) (nat_le 1 width) b.0 in
    let low : 2 ^ (width - 1) ≤ count - 1 = leb-true (2 ^ (width - 1)) (count - 1) a.1 in
    record { holds = ltb-true (count - 1) (2 ^ width) b.1; least = λ fewer h. least_by fewer low h }
  where
    least_by : (fewer : ℕ) → 2 ^ (width - 1) ≤ count - 1 → count - 1 < 2 ^ fewer → width ≤ fewer
    least_by fewer low h = by_test (nat_lt fewer width) refl
      where
        by_test : (t : Bool) → nat_lt fewer width ≡ t → width ≤ fewer
        by_test false e = ltb-false fewer width e
        by_test true e =
            let less : fewer < width = ltb-true fewer width e in
            let power : 2 ^ fewer ≤ 2 ^ (width - 1) = pow_mono (omega arith) in
            omega arith

each_at_is : {A : Type 0} (p : ℕ → A → Bool) (first : ℕ) (xs : List A) (k : ℕ) (x : A) → each_at p first xs ≡ true → slice_get xs k ≡ Some x → p (first + k) x ≡ true
each_at_is p first [] k x all is = absurd cc
each_at_is p first (y ∷ ys) zero x all is =
    let none : first + 0 ≡ first = omega arith in
    subst (λ n. p n x ≡ true) (sym none) (subst (λ z. p first z ≡ true) (same_Some y x is) (and_parts (p first y) (each_at p (first + 1) ys) all).0)
each_at_is p first (y ∷ ys) (suc k) x all is =
    let next : first + 1 + k ≡ first + suc k = omega arith in
    subst (λ n. p n x ≡ true) next (each_at_is p (first + 1) ys k x (and_parts (p first y) (each_at p (first + 1) ys) all).1 is)

width_is : (o : Option ℕ) (w : ℕ) → is_width o w ≡ true → o ≡ Some w
width_is None w e = absurd cc
width_is (Some v) w e = ap Some (eqb-true v w e)

-- a sum of at most 128 bits is counted as it is
plus_some : (m n : Option ℕ) (w : ℕ) → w ≤ 128 → plus m n ≡ Some w → (u : ℕ) × (v : ℕ) × (m ≡ Some u) × (n ≡ Some v) × (w ≡ u + v)
plus_some (Some u) (Some v) w few e =
    let is : min (u + v) 4294967295 ≡ w = same_Some (min (u + v) 4294967295) w e in
    (u, v, refl, refl, omega arith)
plus_some _ _ w few e = absurd cc

map_some : {A : Type 0} (f : A → ℕ) (o : Option A) (w : ℕ) → option_map f o ≡ Some w → (x : A) × (o ≡ Some x) × (f x ≡ w)
map_some f None w e = absurd cc
map_some f (Some x) w e = (x, refl, same_Some (f x) w e)

pub enum_width : (es : List Enum) (ss : List Struct) (k : ℕ) (e : Enum) → list_all enum_right es ≡ true → slice_get es k ≡ Some e → HasWidth es ss (enum k) e.width
enum_width es ss k e all is =
    let right = passes_at enum_right es k e all is in
    labels e is (least_of e.width (length e.labels) (and_parts _ (is_enum_width e.width (length e.labels)) right).1)

-- the structs below a place have the widths that they carry
abbrev Below : List Enum → List Struct → ℕ → Type 0
Below es ss limit = (k : ℕ) (t : Struct) → k < limit → slice_get ss k ≡ Some t → HasWidth es ss (struct k) t.width

abbrev shapes : List Enum → List Struct → List Interface → Shapes
shapes es ss faces = record { enums = es; structs = ss; interfaces = faces }

kind_width : (es : List Enum) (ss : List Struct) (faces : List Interface) (limit : ℕ) → list_all enum_right es ≡ true → Below es ss limit → (k : Kind) (w : ℕ) → w ≤ 128 → is_bits (shapes es ss faces) limit k ≡ true → width_by es ss k ≡ Some w → HasWidth es ss k w
kind_width es ss faces limit all below (bit n) w few right is = subst (HasWidth es ss (bit n)) (same_Some n w is) bits
kind_width es ss faces limit all below (uint n) w few right is = subst (HasWidth es ss (uint n)) (same_Some n w is) unsigned
kind_width es ss faces limit all below (int n) w few right is = subst (HasWidth es ss (int n)) (same_Some n w is) signed
kind_width es ss faces limit all below bool w few right is = subst (HasWidth es ss bool) (same_Some 1 w is) truth
kind_width es ss faces limit all below (enum k) w few right is =
    let e = map_some (λ e. e.width) (slice_get es k) w is in
    subst (HasWidth es ss (enum k)) e.2 (enum_width es ss k e.0 all e.1)
kind_width es ss faces limit all below (struct k) w few right is =
    let t = map_some (λ t. t.width) (slice_get ss k) w is in
    subst (HasWidth es ss (struct k)) t.2 (below k t.0 (ltb-true k limit right) t.1)
kind_width es ss faces limit all below (maybe k) w few right is =
    let p = plus_some (Some 1) (width_by es ss k) w few is in
    let less : p.1 ≤ 128 = omega (arith, p.4) in
    let inner = kind_width es ss faces limit all below k p.1 less (and_parts (is_bits (shapes es ss faces) limit k) _ right).0 p.3 in
    tagged p.1 inner (p.4 ∙ ap (λ u. u + p.1) (sym (same_Some 1 p.0 p.2)))
kind_width es ss faces limit all below _ w few right is = absurd cc

kinds_width : (es : List Enum) (ss : List Struct) (faces : List Interface) (limit : ℕ) → list_all enum_right es ≡ true → Below es ss limit → (ks : List Kind) (w : ℕ) → w ≤ 128 → list_all (is_bits (shapes es ss faces) limit) ks ≡ true → widths_by es ss ks ≡ Some w → HaveWidth es ss ks w
kinds_width es ss faces limit all below [] w few right is = subst (HaveWidth es ss []) (same_Some 0 w is) nothing
kinds_width es ss faces limit all below (k ∷ ks) w few right is =
    let p = plus_some (width_by es ss k) (widths_by es ss ks) w few is in
    let first : p.0 ≤ 128 = omega (arith, p.4) in
    let rest : p.1 ≤ 128 = omega (arith, p.4) in
    let h = and_parts (is_bits (shapes es ss faces) limit k) _ right in
    beside p.0 p.1 (kind_width es ss faces limit all below k p.0 first h.0 p.2) (kinds_width es ss faces limit all below ks p.1 rest h.1 p.3) p.4

struct_width_by : (fuel : ℕ) (es : List Enum) (ss : List Struct) (faces : List Interface) → list_all enum_right es ≡ true → each_at (struct_right (shapes es ss faces)) 0 ss ≡ true → Below es ss fuel
struct_width_by zero es ss faces all right k t less is = absurd (omega arith)
struct_width_by (suc fuel) es ss faces all right k t less is =
    let from_none : 0 + k ≡ k = omega arith in
    let whole = subst (λ n. struct_right (shapes es ss faces) n t ≡ true) from_none (each_at_is (struct_right (shapes es ss faces)) 0 ss k t right is) in
    let a = and_parts _ (is_width (widths_by es ss (field_kinds t.fields)) t.width) whole in
    let b = and_parts _ (nat_le 1 t.width && nat_le t.width 128) a.0 in
    let c = and_parts _ (list_all (is_bits (shapes es ss faces) k) (field_kinds t.fields)) b.0 in
    let below : Below es ss k = λ j u h at. struct_width_by fuel es ss faces all right j u (omega arith) at in
    fields t is (kinds_width es ss faces k all below (field_kinds t.fields) t.width (leb-true t.width 128 (and_parts (nat_le 1 t.width) (nat_le t.width 128) b.1).1) c.1 (width_is _ t.width a.1))

pub struct_width : (es : List Enum) (ss : List Struct) (faces : List Interface) (k : ℕ) (t : Struct) → list_all enum_right es ≡ true → each_at (struct_right (shapes es ss faces)) 0 ss ≡ true → slice_get ss k ≡ Some t → HasWidth es ss (struct k) t.width
struct_width es ss faces k t all right is = struct_width_by (suc k) es ss faces all right k t (omega arith) is

-- what the definitions of a program in order carry
pub record Carries (es : List Enum) (ss : List Struct) : Type 0 where
  pub enums : (k : ℕ) (e : Enum) → slice_get es k ≡ Some e → HasWidth es ss (enum k) e.width
  pub structs : (k : ℕ) (t : Struct) → slice_get ss k ≡ Some t → HasWidth es ss (struct k) t.width

pub told : (es : List Enum) (ss : List Struct) → Carries es ss → (k : Kind) (w : ℕ) → w ≤ 128 → HasWidth es ss k w → width_by es ss k ≡ Some w
told es ss c (bit n) w few bits = refl
told es ss c (down n) w few x = elim x [ ]
told es ss c (uint n) w few unsigned = refl
told es ss c (int n) w few signed = refl
told es ss c bool w few truth = refl
told es ss c (enum k) w few (labels e is least) = ap (option_map (λ e. e.width)) is ∙ ap Some (one_width (c.enums k e is) (labels e is least))
told es ss c (struct k) w few (fields t is all) = ap (option_map (λ t. t.width)) is ∙ ap Some (one_width (c.structs k t is) (fields t is all))
told es ss c (maybe k) w few (tagged v x is) =
    let counts : min (1 + v) 4294967295 ≡ w = omega arith in
    ap (plus (Some 1)) (told es ss c k v (omega arith) x) ∙ ap Some counts
told es ss c integer w few x = elim x [ ]
told es ss c (interface k) w few x = elim x [ ]
told es ss c (part p k) w few x = elim x [ ]
told es ss c (bare p) w few x = elim x [ ]

pub program_carries : (es : List Enum) (ss : List Struct) (faces : List Interface) (fs : List Function) (ms : List Module) → IsTrue (is_right es ss faces fs ms) → Carries es ss
program_carries es ss faces fs ms right =
    let a = and_parts _ (list_all _ ms) right in
    let b = and_parts _ (each_at _ 0 fs) a.0 in
    let c = and_parts _ (shapes_right (shapes es ss faces)) b.0 in
    let d = and_parts _ (begins_empty faces) c.1 in
    let e = and_parts _ (list_all _ faces) d.0 in
    let f = and_parts (list_all enum_right es) (each_at (struct_right (shapes es ss faces)) 0 ss) e.0 in
    record { enums = λ k e is. enum_width es ss k e f.0 is; structs = λ k t is. struct_width es ss faces k t f.0 f.1 is }

pub is_told : (es : List Enum) (ss : List Struct) → Carries es ss → (k : Kind) → (h : WidthWithin es ss k 128) → width_by es ss k ≡ Some h.0
is_told es ss c k h = told es ss c k h.0 h.2 h.1

pub is_carried : (es : List Enum) (ss : List Struct) (r : ℕ) → Carries es ss → (k : Kind) → WidthWithin es ss k 128 → width_by es ss k ≡ Some r → HasWidth es ss k r
is_carried es ss r c k h is = subst (HasWidth es ss k) (same_Some h.0 r (sym (is_told es ss c k h) ∙ is)) h.1

pub not_both : (o : Option ℕ) (w : ℕ) → o ≡ None → o ≡ Some w → ⊥
not_both o w none some = cc
