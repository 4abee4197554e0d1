-- The types of a program are in order, item by item.
use Rattle.std.proofs.Common.{◌≡◌, ◌∙◌, ℕ, suc, ◌+◌, Bool, true, false, cond, ◌&&◌, ◌||◌, inl, inr, List, [], ◌∷◌, ◌++◌, map, length, Option, Some, None, refl, sym, ap, subst, arith}
use Rattle.std.specs.Prelude.{nat_lt, slice_get}
use Rattle.std.specs.List.{list_all}
use Rattle.std.proofs.lemmas.List.Folds.{list_all-append}
use Rattle.std.proofs.lemmas.Bool.{and_parts, and_from, or_left, or_right}
use Rattle.std.proofs.lemmas.Option.{same_Some}
use Rattle.bsv_ast.specs.Names.{is_lower, is_upper}
use Rattle.bsv_types.specs.declared.definitions.Enum.{Enum}
use Rattle.bsv_types.specs.declared.definitions.Struct.{Struct}
use Rattle.bsv_types.specs.declared.definitions.Interface.{Interface}
use Rattle.bsv_types.specs.declared.definitions.MethodHeader.{MethodHeader}
use Rattle.bsv_types.specs.Kinds.{Kind}
use Rattle.bsv_types.specs.Widths.{field_kinds}
use Rattle.bsv_types.specs.Shapes.{Shapes, widths_by, is_width, in_range, is_bits, has_bits, is_value, is_instance}
use Rattle.bsv_types.specs.Methods.{effect, param_kinds}
use Rattle.bsv_types.specs.Expressions.{one, label_count}
use Rattle.bsv_types.specs.Names.{distinct, lower_names}
use Rattle.bsv_types.specs.Modules.{param_names}
use Rattle.bsv_types.specs.Programs.{each_at, begins_empty, method_header_right}
use Rattle.bsv_scopes.specs.Scopes.{Entries, found, is_defined, with_name}
use Rattle.bsv_typing.specs.Laws.{slot_right}
use Rattle.bsv_modules.specs.Growing.{Grows}
use Rattle.bsv_modules.specs.Programs.{Types, shapes_of, added}
use Rattle.bsv_modules.proofs.RightEnums.{enum_kept}
use Rattle.bsv_modules.proofs.Growth.{widths_kept, bits_kept, value_kept, instance_kept, all_kept, effect_kept}
use Rattle.bsv_modules.proofs.Entries.{found_more}

-- a struct in order, but for how many fields it has
abbrev pub struct_kept : Shapes → ℕ → Struct → Bool
struct_kept s number t =
    is_upper t.name && lower_names (map (λ f. f.name) t.fields) && list_all (is_bits s number) (field_kinds t.fields) && in_range t.width && is_width (widths_by s.enums s.structs (field_kinds t.fields)) t.width

-- an interface in order, but for how many methods it has
abbrev pub interface_kept : Shapes → Interface → Bool
interface_kept s i = is_upper i.name && distinct (map (λ h. h.name) i.methods) && list_all (method_header_right s) i.methods

abbrev pub labels : List Enum → List (List ℕ)
labels [] = []
labels (e ∷ others) = e.labels ++ labels others

abbrev pub enum_names : List Enum → List (List ℕ)
enum_names es = map (λ e. e.name) es

abbrev pub struct_names : List Struct → List (List ℕ)
struct_names ss = map (λ s. s.name) ss

abbrev pub interface_names : List Interface → List (List ℕ)
interface_names is = map (λ i. i.name) is

abbrev pub names_in : Types → List (List ℕ)
names_in t = enum_names t.enums ++ struct_names t.structs ++ interface_names t.interfaces

pub record Kept (t : Types) : Type 0 where
  pub strict : t.strict ≡ true
  pub enums : list_all enum_kept t.enums ≡ true
  pub structs : each_at (struct_kept (shapes_of t)) 0 t.structs ≡ true
  pub interfaces : list_all (interface_kept (shapes_of t)) t.interfaces ≡ true
  pub empty : begins_empty t.interfaces ≡ true
  pub types : (name : List ℕ) (k : Kind) → found name t.names ≡ Some k → slot_right (shapes_of t) (one k) ≡ true
  pub label : (name : List ℕ) (l : ℕ × ℕ) → found name t.labels ≡ Some l → nat_lt l.1 (label_count (slice_get t.enums l.0)) ≡ true
  pub names : distinct (names_in t) ≡ true
  pub named : list_all (λ n. is_defined n t.names) (names_in t) ≡ true
  pub label_names : distinct (labels t.enums) ≡ true
  pub labelled : list_all (λ n. is_defined n t.labels) (labels t.enums) ≡ true

-- ---- what is in order stays so

module _ (s z : Shapes) (more : Grows s z) where
  pub slot_kept : (k : Kind) → slot_right s (one k) ≡ true → slot_right z (one k) ≡ true
  slot_kept k e = by (is_value s k) refl e where
    by : (b : Bool) → is_value s k ≡ b → (b || is_instance s k) ≡ true → slot_right z (one k) ≡ true
    by true is e = or_left (is_value z k) (is_instance z k) (value_kept s z more k is)
    by false is e = or_right (is_value z k) (is_instance z k) (instance_kept s z more k e)

  has_width : (o : Option ℕ) (n : ℕ) → is_width o n ≡ true → (m : ℕ) × (o ≡ Some m)
  has_width None n e = absurd cc
  has_width (Some m) n e = (m, refl)

  fields_kept : (number : ℕ) (ks : List Kind) → list_all (is_bits s number) ks ≡ true → list_all (is_bits z number) ks ≡ true
  fields_kept number [] e = refl
  fields_kept number (k ∷ ks) e =
      let h = and_parts (is_bits s number k) (list_all (is_bits s number) ks) e in
      and_from (is_bits z number k) (list_all (is_bits z number) ks) (bits_kept s z more number number k (omega arith) h.0) (fields_kept number ks h.1)

  struct_stays : (number : ℕ) (t : Struct) → struct_kept s number t ≡ true → struct_kept z number t ≡ true
  struct_stays number t e =
      let front = is_upper t.name && lower_names (map (λ f. f.name) t.fields) in
      let ks = field_kinds t.fields in
      let d = and_parts (front && list_all (is_bits s number) ks && in_range t.width) (is_width (widths_by s.enums s.structs ks) t.width) e in
      let c = and_parts (front && list_all (is_bits s number) ks) (in_range t.width) d.0 in
      let b = and_parts front (list_all (is_bits s number) ks) c.0 in
      let w = has_width (widths_by s.enums s.structs ks) t.width d.1 in
      and_from (front && list_all (is_bits z number) ks && in_range t.width) (is_width (widths_by z.enums z.structs ks) t.width)
      (and_from (front && list_all (is_bits z number) ks) (in_range t.width) (and_from front (list_all (is_bits z number) ks) b.0 (fields_kept number ks b.1)) c.1)
      (ap (λ o. is_width o t.width) (widths_kept s z more ks w.0 w.1 ∙ sym w.1) ∙ d.1)

  pub structs_stay : (first : ℕ) (ts : List Struct) → each_at (struct_kept s) first ts ≡ true → each_at (struct_kept z) first ts ≡ true
  structs_stay first [] e = refl
  structs_stay first (t ∷ ts) e =
      let h = and_parts (struct_kept s first t) (each_at (struct_kept s) (first + 1) ts) e in
      and_from (struct_kept z first t) (each_at (struct_kept z) (first + 1) ts) (struct_stays first t h.0) (structs_stay (first + 1) ts h.1)

  header_stays : (h : MethodHeader) → method_header_right s h ≡ true → method_header_right z h ≡ true
  header_stays h e =
      let front = is_lower h.name && lower_names (param_names h.params) in
      let c = and_parts (front && list_all (has_bits s) (param_kinds h.params)) _ e in
      let b = and_parts front (list_all (has_bits s) (param_kinds h.params)) c.0 in
      and_from (front && list_all (has_bits z) (param_kinds h.params)) _ (and_from front (list_all (has_bits z) (param_kinds h.params)) b.0 (all_kept s z more (param_kinds h.params) b.1))
      (effect_kept s z more (effect h.result) c.1)

  headers_stay : (hs : List MethodHeader) → list_all (method_header_right s) hs ≡ true → list_all (method_header_right z) hs ≡ true
  headers_stay [] e = refl
  headers_stay (h ∷ hs) e =
      let b = and_parts (method_header_right s h) (list_all (method_header_right s) hs) e in
      and_from (method_header_right z h) (list_all (method_header_right z) hs) (header_stays h b.0) (headers_stay hs b.1)

  pub interface_stays : (i : Interface) → interface_kept s i ≡ true → interface_kept z i ≡ true
  interface_stays i e =
      let front = is_upper i.name && distinct (map (λ h. h.name) i.methods) in
      let b = and_parts front (list_all (method_header_right s) i.methods) e in
      and_from front (list_all (method_header_right z) i.methods) b.0 (headers_stay i.methods b.1)

  pub interfaces_stay : (is : List Interface) → list_all (interface_kept s) is ≡ true → list_all (interface_kept z) is ≡ true
  interfaces_stay [] e = refl
  interfaces_stay (i ∷ is) e =
      let b = and_parts (interface_kept s i) (list_all (interface_kept s) is) e in
      and_from (interface_kept z i) (list_all (interface_kept z) is) (interface_stays i b.0) (interfaces_stay is b.1)

-- ---- lists that grow by one

pub all_with : {A : Type 0} (p : A → Bool) (xs : List A) (x : A) → list_all p xs ≡ true → p x ≡ true → list_all p (xs ++ x ∷ []) ≡ true
all_with p [] x h k = and_from (p x) true k refl
all_with p (y ∷ xs) x h k = let b = and_parts (p y) (list_all p xs) h in and_from (p y) (list_all p (xs ++ x ∷ [])) b.0 (all_with p xs x b.1 k)

pub each_with : {A : Type 0} (p : ℕ → A → Bool) (first : ℕ) (xs : List A) (x : A) → each_at p first xs ≡ true → p (first + length xs) x ≡ true → each_at p first (xs ++ x ∷ []) ≡ true
each_with p first [] x h k = let same : first + 0 ≡ first = omega arith in and_from (p first x) true (subst (λ n. p n x ≡ true) same k) refl
each_with p first (y ∷ xs) x h k =
    let b = and_parts (p first y) (each_at p (first + 1) xs) h in
    let next : first + suc (length xs) ≡ first + 1 + length xs = omega arith in
    and_from (p first y) (each_at p (first + 1) (xs ++ x ∷ [])) b.0 (each_with p (first + 1) xs x b.1 (subst (λ n. p n x ≡ true) next k))

pub all_front : (p : List ℕ → Bool) (xs ys : List (List ℕ)) → list_all p (xs ++ ys) ≡ true → (list_all p xs ≡ true) × (list_all p ys ≡ true)
all_front p xs ys e = and_parts (list_all p xs) (list_all p ys) (sym (list_all-append p xs ys) ∙ e)

pub all_joined : (p : List ℕ → Bool) (xs ys : List (List ℕ)) → list_all p xs ≡ true → list_all p ys ≡ true → list_all p (xs ++ ys) ≡ true
all_joined p xs ys h k = list_all-append p xs ys ∙ and_from (list_all p xs) (list_all p ys) h k

-- one name more among those that are there
pub all_within : (p : List ℕ → Bool) (xs : List (List ℕ)) (m : List ℕ) (ys : List (List ℕ)) → list_all p (xs ++ ys) ≡ true → p m ≡ true → list_all p (xs ++ m ∷ ys) ≡ true
all_within p xs m ys h k = let b = all_front p xs ys h in all_joined p xs (m ∷ ys) b.0 (and_from (p m) (list_all p ys) k b.1)

-- ---- one name of a type more

abbrev pub NewName : List ℕ → Types → Type 0
NewName name t = is_defined name t.names ≡ false

pub name_added : {V : Type 0} (name : List ℕ) (v : V) (es next : Entries V) → added name v es ≡ Some next → (is_defined name es ≡ false) × (with_name name v es ≡ next)
unfolding added
name_added name v es next e = by (is_defined name es) refl e where
  by : (b : Bool) → is_defined name es ≡ b → cond b None (Some (with_name name v es)) ≡ Some next → (is_defined name es ≡ false) × (with_name name v es ≡ next)
  by true is e = absurd cc
  by false is e = (is, same_Some (with_name name v es) next e)

-- the types after one more name
pub types_with : (s : Shapes) (name : List ℕ) (k : Kind) (es : Entries Kind) → ((n : List ℕ) (j : Kind) → found n es ≡ Some j → slot_right s (one j) ≡ true) → slot_right s (one k) ≡ true → (n : List ℕ) (j : Kind) → found n (with_name name k es) ≡ Some j → slot_right s (one j) ≡ true
types_with s name k es all right n j e =
    elim (found_more n name k j es e) [
      | inl before ↦ all n j before
      | inr same ↦ subst (λ q. slot_right s (one q) ≡ true) same right
    ]
