-- What a program is typed as is in order.
use Rattle.std.proofs.Common.{◌≡◌, ◌∙◌, ℕ, zero, suc, ◌+◌, ◌<◌, Bool, true, false, cond, ◌&&◌, List, [], ◌∷◌, ◌++◌, map, length, take, Option, Some, None, option_map, Ok, Err, codes, refl, sym, ap, subst, arith}
use Rattle.std.specs.Prelude.{nat_lt, slice_get}
use Rattle.std.specs.Str.{bytes_eq}
use Rattle.std.specs.List.{list_all}
use Rattle.std.proofs.lemmas.Bool.{ltb-true, lt-ltb, and_parts, and_from}
use Rattle.std.proofs.lemmas.Option.{slice_get-map, same_Some}
use Rattle.std.proofs.Math.Seq.{take-length}
use Rattle.bsv_lemmas.proofs.Places.{passes_at}
use Rattle.bsv_lemmas.proofs.Choices.{was_there}
use Rattle.bsv_ast.specs.Names.{is_lower, is_upper, is_keyword, grammar_words, reserved_words}
use Rattle.bsv_ast.specs.declared.package.Function.{Function as WrittenFunction}
use Rattle.bsv_ast.specs.declared.modules.Module.{Module as WrittenModule}
use Rattle.bsv_ast.specs.declared.package.Item.{Item}
use Rattle.bsv_ast.specs.declared.package.Item.TheVariants as item
use Rattle.bsv_ast.specs.declared.package.Package.{Package}
use Rattle.bsv_scopes.specs.Scopes.{Entries, found}
use Rattle.bsv_types.specs.declared.definitions.Enum.{Enum}
use Rattle.bsv_types.specs.declared.definitions.Struct.{Struct}
use Rattle.bsv_types.specs.declared.definitions.Interface.{Interface}
use Rattle.bsv_types.specs.declared.definitions.Function.{Function}
use Rattle.bsv_types.specs.declared.definitions.Param.{Param}
use Rattle.bsv_types.specs.declared.modules.Module.{Module}
use Rattle.bsv_types.specs.Kinds.{Kind, interface}
use Rattle.bsv_types.specs.Widths.{field_kinds}
use Rattle.bsv_types.specs.Shapes.{Shapes, widths_by, is_width, in_range, is_bits, is_value}
use Rattle.bsv_types.specs.Names.{countable, distinct, lower_names}
use Rattle.bsv_types.specs.Expressions.{World, one, label_count}
use Rattle.bsv_types.specs.Modules as rules
use Rattle.bsv_types.specs.Programs.{each_at, enum_right, struct_right, interface_right, method_header_right, shapes_right, names_right, begins_empty, all_countable, call_of, function_right, is_right}
use Rattle.bsv_ast.specs.Packages.{items_of}
use Rattle.bsv_context.specs.Env.{in_reach, is_typed_value}
use Rattle.bsv_typing.specs.Laws.{slot_right, FitsWorld}
use Rattle.bsv_statements.specs.Bodies.{Or, ◌>=>◌}
use Rattle.bsv_typing.proofs.Bound.{tested_step}
use Rattle.bsv_typing.proofs.RightOperands.{strict_value}
use Rattle.bsv_statements.proofs.RightCalls.{ok_is, went}
use Rattle.bsv_modules.specs.Modules.{Header, params_at, are_named}
use Rattle.bsv_modules.specs.Programs.{Types, shapes_of, limits_of, type_names, no_types, types_after, Program, env_of, value_kind, value_params, written_at, function_header, function_case, module_case}
use Rattle.bsv_check.specs.Headers.{over_items, over_all, or_kept, type_step, all_types, no_headers, all_headers, AtPlace, ◌>==◌}
use Rattle.bsv_check.specs.Checked.{Done, nothing, function_step, module_step, item_step, all_items, package_step, all_packages, ProgramParts, made_of, bodies, unless_blamed, typing}
use Rattle.bsv_names.specs.declared.place.Place.{Place}
use Rattle.bsv_check.specs.Blame.{Blame, headers_blame}
use Rattle.bsv_check.specs.Rightness.{is_counted}
use Rattle.bsv_modules.specs.Laws.{FitsProgram}
use Rattle.bsv_modules.proofs.RightEnums.{enum_kept, enum_is_right}
use Rattle.bsv_modules.proofs.RightTypes.{struct_kept, interface_kept, labels, Kept}
use Rattle.bsv_modules.proofs.RightShapes.{item_right}
use Rattle.bsv_check.proofs.RightRuns.{at_place, packaged, all_header_types}
use Rattle.bsv_check.proofs.RightAligned.{found_at, ahead_self, Call, FunctionsAligned, ModulesAligned, Aligned, packages_aligned, calls_many}
use Rattle.bsv_modules.proofs.Headers.{function_seen}
use Rattle.bsv_modules.proofs.RightMethods.{sure_is}
use Rattle.bsv_modules.proofs.RightFunctions.{world_before, functions_right}
use Rattle.bsv_modules.proofs.RightModules.{modules_right}

-- ---- all types are in order

empty_upper : is_upper (codes "Empty") ≡ true
unfolding is_upper is_keyword grammar_words reserved_words
empty_upper = refl

pub start_kept : Kept (no_types true)
start_kept = record {
  strict = refl;
  enums = refl;
  structs = refl;
  interfaces = and_from _ true (and_from _ true (and_from (is_upper (codes "Empty")) true empty_upper refl) refl) refl;
  empty = refl;
  types = λ name k e. by name k (bytes_eq name (codes "Empty")) e;
  label = λ name l e. absurd cc;
  names = refl;
  named = refl;
  label_names = refl;
  labelled = refl;
} where
  by : (name : List ℕ) (k : Kind) (b : Bool) → cond b (Some (interface 0)) None ≡ Some k → slot_right (shapes_of (no_types true)) (one k) ≡ true
  by name k true e = subst (λ j. slot_right (shapes_of (no_types true)) (one j) ≡ true) (same_Some (interface 0) k e) (lt-ltb 0 1 (omega arith))
  by name k false e = absurd cc

step_kept : (i : Item) (t : Types) → Kept t → Kept (type_step i t)
unfolding type_step
step_kept i t kept = by (types_after i t) refl where
  by : (o : Or Types) → types_after i t ≡ o → Kept (or_kept o t)
  by (Ok next) is = (item_right i t next kept is).kept
  by (Err s) is = kept

items_kept : (is : List Item) (t : Types) → Kept t → Kept (over_items type_step is t)
items_kept [] t kept = kept
items_kept (i ∷ is) t kept = items_kept is (type_step i t) (step_kept i t kept)

pub all_kept : (ps : List Package) (t : Types) → Kept t → Kept (over_all type_step ps t)
all_kept [] t kept = kept
all_kept (x ∷ xs) t kept = all_kept xs (over_items type_step (items_of x) t) (items_kept (items_of x) t kept)

-- ---- each function and each module is typed by its number

at_more : {A : Type 0} (P : ℕ → A → Type 0) (xs : List A) (x : A) → ((i : ℕ) (y : A) → slice_get xs i ≡ Some y → P i y) → P (length xs) x → (i : ℕ) (y : A) → slice_get (xs ++ x ∷ []) i ≡ Some y → P i y
at_more P [] x all last zero y e = subst (P 0) (same_Some x y e) last
at_more P [] x all last (suc i) y e = absurd cc
at_more P (z ∷ xs) x all last zero y e = all 0 y e
at_more P (z ∷ xs) x all last (suc i) y e = at_more (λ i. P (suc i)) xs x (λ i y e. all (suc i) y e) last i y e

abbrev pub FunctionTyped : Program → ℕ → Function → Type 0
FunctionTyped p i x = (f : WrittenFunction) × (function_case p i f ≡ Ok x)

abbrev pub ModuleTyped : Program → ℕ → Module → Type 0
ModuleTyped p i x = (m : WrittenModule) × (module_case p i m ≡ Ok x)

pub record AllTyped (p : Program) (d : Done) : Type 0 where
  functions : (i : ℕ) (x : Function) → slice_get d.functions i ≡ Some x → FunctionTyped p i x
  modules : (i : ℕ) (x : Module) → slice_get d.modules i ≡ Some x → ModuleTyped p i x

step_typed : (p : Program) (i : Item) (d next : Done) → AllTyped p d → item_step p i d ≡ Ok next → AllTyped p next
unfolding item_step function_step module_step
step_typed p (item.Function s f) d next a e =
    let fs = went (function_case p (length d.functions) f >=> λ r. Ok (d.functions ++ r ∷ [])) _ next e in
    let r = went (function_case p (length d.functions) f) (λ r. Ok (d.functions ++ r ∷ [])) fs.0 fs.1 in
    let whole : AllTyped p (record d { functions = d.functions ++ r.0 ∷ [] }) = record { functions = at_more (FunctionTyped p) d.functions r.0 a.functions (f, r.1); modules = a.modules } in
    subst (AllTyped p) (ap (λ xs. record d { functions = xs }) (ok_is (d.functions ++ r.0 ∷ []) fs.0 r.2) ∙ ok_is (record d { functions = fs.0 }) next fs.2) whole
step_typed p (item.Module s m) d next a e =
    let ms = went (module_case p (length d.modules) m >=> λ r. Ok (d.modules ++ r ∷ [])) _ next e in
    let r = went (module_case p (length d.modules) m) (λ r. Ok (d.modules ++ r ∷ [])) ms.0 ms.1 in
    let whole : AllTyped p (record d { modules = d.modules ++ r.0 ∷ [] }) = record { functions = a.functions; modules = at_more (ModuleTyped p) d.modules r.0 a.modules (m, r.1) } in
    subst (AllTyped p) (ap (λ xs. record d { modules = xs }) (ok_is (d.modules ++ r.0 ∷ []) ms.0 r.2) ∙ ok_is (record d { modules = ms.0 }) next ms.2) whole
step_typed p (item.Import s x) d next a e = subst (AllTyped p) (ok_is d next e) a
step_typed p (item.Typedef s x) d next a e = subst (AllTyped p) (ok_is d next e) a
step_typed p (item.Interface s x) d next a e = subst (AllTyped p) (ok_is d next e) a

items_typed : (p : Program) (is : List Item) (d next : Done) → AllTyped p d → all_items p is d ≡ Ok next → AllTyped p next
items_typed p [] d next a e = subst (AllTyped p) (ok_is d next e) a
items_typed p (i ∷ is) d next a e =
    let r = went (item_step p i d) (all_items p is) next e in
    items_typed p is r.0 next (step_typed p i d r.0 a r.1) r.2

pub packages_typed : (p : Program) (n : ℕ) (ps : List Package) (d next : Done) → AllTyped p d → all_packages p n ps d ≡ Ok next → AllTyped p next
unfolding package_step
packages_typed p n [] d next a e = subst (AllTyped p) (at_place d next e) a
packages_typed p n (x ∷ xs) d next a e =
    let r = packaged n (all_items p (items_of x) d) (all_packages p (n + 1) xs) next e in
    packages_typed p (n + 1) xs r.0 next (items_typed p (items_of x) d r.0 a r.1) r.2

-- ---- tests over lists

all_from : {A : Type 0} (p : A → Bool) (xs : List A) → ((i : ℕ) (x : A) → slice_get xs i ≡ Some x → p x ≡ true) → list_all p xs ≡ true
all_from p [] each = refl
all_from p (x ∷ xs) each = and_from (p x) (list_all p xs) (each 0 x refl) (all_from p xs (λ i y e. each (suc i) y e))

each_from : {A : Type 0} (p : ℕ → A → Bool) (first : ℕ) (xs : List A) → ((i : ℕ) (x : A) → slice_get xs i ≡ Some x → p (first + i) x ≡ true) → each_at p first xs ≡ true
each_from p first [] each = refl
each_from p first (x ∷ xs) each =
    let here : first + 0 ≡ first = omega arith in
    and_from (p first x) (each_at p (first + 1) xs) (subst (λ n. p n x ≡ true) here (each 0 x refl))
    (each_from p (first + 1) xs (λ i y e. let next : first + suc i ≡ first + 1 + i = omega arith in subst (λ n. p n y ≡ true) next (each (suc i) y e)))

nothing_taken : {A : Type 0} (n i : ℕ) → slice_get {X = A} (take n []) i ≡ None
nothing_taken zero i = refl
nothing_taken (suc n) i = refl

get_taken : {A : Type 0} (xs : List A) (n i : ℕ) → i < n → slice_get (take n xs) i ≡ slice_get xs i
get_taken [] n i lt = nothing_taken n i
get_taken (x ∷ xs) zero i lt = absurd (omega (arith, lt))
get_taken (x ∷ xs) (suc n) zero lt = refl
get_taken (x ∷ xs) (suc n) (suc i) lt = get_taken xs n i (omega (arith, lt))

-- ---- shapes in order

enums_right : (es : List Enum) → list_all enum_kept es ≡ true → list_all (λ e. countable e.labels) es ≡ true → list_all enum_right es ≡ true
enums_right [] kept few = refl
enums_right (e ∷ es) kept few =
    let k = and_parts (enum_kept e) (list_all enum_kept es) kept in
    let f = and_parts (countable e.labels) (list_all (λ e. countable e.labels) es) few in
    and_from (enum_right e) (list_all enum_right es) (enum_is_right e k.0 f.0) (enums_right es k.1 f.1)

struct_is_right : (s : Shapes) (n : ℕ) (t : Struct) → struct_kept s n t ≡ true → countable t.fields ≡ true → struct_right s n t ≡ true
struct_is_right s n t kept few =
    let front = is_upper t.name && lower_names (map (λ f. f.name) t.fields) in
    let bits = list_all (is_bits s n) (field_kinds t.fields) in
    let width = is_width (widths_by s.enums s.structs (field_kinds t.fields)) t.width in
    let d = and_parts (front && bits && in_range t.width) width kept in
    let c = and_parts (front && bits) (in_range t.width) d.0 in
    let b = and_parts front bits c.0 in
    and_from (front && countable t.fields && bits && in_range t.width) width
    (and_from (front && countable t.fields && bits) (in_range t.width) (and_from (front && countable t.fields) bits (and_from front (countable t.fields) b.0 few) b.1) c.1) d.1

structs_right : (s : Shapes) (first : ℕ) (ts : List Struct) → each_at (struct_kept s) first ts ≡ true → list_all (λ t. countable t.fields) ts ≡ true → each_at (struct_right s) first ts ≡ true
structs_right s first [] kept few = refl
structs_right s first (t ∷ ts) kept few =
    let k = and_parts (struct_kept s first t) (each_at (struct_kept s) (first + 1) ts) kept in
    let f = and_parts (countable t.fields) (list_all (λ t. countable t.fields) ts) few in
    and_from (struct_right s first t) (each_at (struct_right s) (first + 1) ts) (struct_is_right s first t k.0 f.0) (structs_right s (first + 1) ts k.1 f.1)

interface_is_right : (s : Shapes) (i : Interface) → interface_kept s i ≡ true → countable i.methods ≡ true → interface_right s i ≡ true
interface_is_right s i kept few =
    let front = is_upper i.name && distinct (map (λ h. h.name) i.methods) in
    let b = and_parts front (list_all (method_header_right s) i.methods) kept in
    and_from (front && countable i.methods) (list_all (method_header_right s) i.methods) (and_from front (countable i.methods) b.0 few) b.1

interfaces_right : (s : Shapes) (is : List Interface) → list_all (interface_kept s) is ≡ true → list_all (λ i. countable i.methods) is ≡ true → list_all (interface_right s) is ≡ true
interfaces_right s [] kept few = refl
interfaces_right s (i ∷ is) kept few =
    let k = and_parts (interface_kept s i) (list_all (interface_kept s) is) kept in
    let f = and_parts (countable i.methods) (list_all (λ i. countable i.methods) is) few in
    and_from (interface_right s i) (list_all (interface_right s) is) (interface_is_right s i k.0 f.0) (interfaces_right s is k.1 f.1)

abbrev call_in : List ℕ × Call → List Kind × Kind
call_in e = (e.1.1, e.1.2)

abbrev face_in : List ℕ × Header → List Kind × Kind
face_in e = (e.1.params, e.1.interface)

abbrev type_names_of : List Enum → List Struct → List Interface → List (List ℕ)
type_names_of es ss is = map (λ (e : Enum). e.name) es ++ map (λ (s : Struct). s.name) ss ++ map (λ (i : Interface). i.name) is

abbrev function_names : List Function → List (List ℕ)
function_names fs = map (λ (f : Function). f.name) fs

abbrev module_names : List Module → List (List ℕ)
module_names ms = map (λ (m : Module). m.name) ms

-- no two names are one
names_once : (es : List Enum) (ss : List Struct) (is : List Interface) (fs : List Function) (ms : List Module) →
    distinct (type_names_of es ss is) ≡ true → distinct (labels es) ≡ true → distinct (function_names fs) ≡ true → distinct (module_names ms) ≡ true → names_right es ss is fs ms ≡ true
names_once es ss is fs ms typed once named last =
    and_from (distinct (type_names_of es ss is) && distinct (labels es) && distinct (function_names fs)) (distinct (module_names ms))
    (and_from (distinct (type_names_of es ss is) && distinct (labels es)) (distinct (function_names fs)) (and_from (distinct (type_names_of es ss is)) (distinct (labels es)) typed once) named) last

-- ---- a program whose items all have a typing

module _ (p : Program) (fs : List Function) (ms : List Module) (kept : Kept p.types) (functions : FunctionsAligned p.functions fs) (modules : ModulesAligned p.modules ms)
    (functions_typed : (i : ℕ) (x : Function) → slice_get fs i ≡ Some x → FunctionTyped p i x) (modules_typed : (i : ℕ) (x : Module) → slice_get ms i ≡ Some x → ModuleTyped p i x)
    (shapes : shapes_right (shapes_of p.types) ≡ true) where
  abbrev s : Shapes
  s = shapes_of p.types

  -- the function that a name stands for
  call_at : (name : List ℕ) (g : Call) → found name p.functions ≡ Some g → slice_get (map call_of fs) g.0 ≡ Some (g.1, g.2)
  call_at name g e =
      let h = found_at (λ (c : Call). c.0) 0 name p.functions g functions.numbered e in
      let first : 0 + h.0 ≡ h.0 = omega arith in
      ap (slice_get (map call_of fs)) (h.1 ∙ first) ∙ ap (λ cs. slice_get cs h.0) (sym functions.calls)
      ∙ slice_get-map call_in p.functions h.0 ∙ entry_at p.functions h.0 g h.2 where
        entry_at : (es : Entries Call) (i : ℕ) (g : Call) → slice_get (map (λ e. e.1) es) i ≡ Some g → option_map call_in (slice_get es i) ≡ Some (g.1, g.2)
        entry_at [] i g e = absurd cc
        entry_at (x ∷ es) zero g e = ap (λ (c : Call). Some (c.1, c.2)) (same_Some x.1 g e)
        entry_at (x ∷ es) (suc i) g e = entry_at es i g e

  -- the module that a name stands for
  face_at : (name : List ℕ) (h : Header) → found name p.modules ≡ Some h → slice_get (map rules.header ms) h.number ≡ Some (h.params, h.interface)
  face_at name v e =
      let h = found_at (λ (c : Header). c.number) 0 name p.modules v modules.numbered e in
      let first : 0 + h.0 ≡ h.0 = omega arith in
      ap (slice_get (map rules.header ms)) (h.1 ∙ first) ∙ ap (λ cs. slice_get cs h.0) (sym modules.faces)
      ∙ slice_get-map face_in p.modules h.0 ∙ entry_at p.modules h.0 v h.2 where
        entry_at : (es : Entries Header) (i : ℕ) (g : Header) → slice_get (map (λ e. e.1) es) i ≡ Some g → option_map face_in (slice_get es i) ≡ Some (g.params, g.interface)
        entry_at [] i g e = absurd cc
        entry_at (x ∷ es) zero g e = ap (λ (c : Header). Some (c.params, c.interface)) (same_Some x.1 g e)
        entry_at (x ∷ es) (suc i) g e = entry_at es i g e

  strict_limits : limits_of p.types ≡ record { strict = true; shapes = s }
  strict_limits = ap (λ b. record { strict = b; shapes = s }) kept.strict

  -- a function gives a value
  header_value : (f : WrittenFunction) (h : List Param × Kind) → function_header p f ≡ Ok h → is_value s h.1 ≡ true
  unfolding function_header value_params
  header_value f h e =
      let k = went (written_at f.span f.result p.types) _ h e in
      let ps = went (params_at (type_names p.types) (value_kind p) f.span f.params) _ h k.2 in
      let c = sure_is f.span (is_lower f.name.name && value_kind p k.0 && are_named ps.0) (ps.0, k.0) h ps.2 in
      let b = and_parts (is_lower f.name.name) (value_kind p k.0) (and_parts (is_lower f.name.name && value_kind p k.0) (are_named ps.0) c.0).0 in
      subst (λ (j : List Param × Kind). is_value s j.1 ≡ true) c.1
      (strict_value (record { shapes = s; functions = [] }) k.0 (ap (λ g. is_typed_value g k.0) (sym strict_limits) ∙ b.1))

  result_is : (name : List ℕ) (g : Call) → found name p.functions ≡ Some g → is_value s g.2 ≡ true
  result_is name g e =
      let x = was_there call_of (slice_get fs g.0) (g.1, g.2) (sym (slice_get-map call_of fs g.0) ∙ call_at name g e) in
      let typed = functions_typed g.0 x.0 x.1 in
      let seen = function_seen p g.0 typed.0 x.0 typed.1 in
      subst (λ (c : List Kind × Kind). is_value s c.1 ≡ true) (sym seen.seen ∙ x.2) (header_value typed.0 seen.header seen.headed)

  pub fits_functions : (number : ℕ) (w : World) → w.shapes ≡ s → w.functions ≡ map call_of (take number fs) → FitsWorld (env_of p number) w
  unfolding env_of
  fits_functions number w shapes_are functions_are = record {
    strict = kept.strict;
    shapes = sym shapes_are;
    right = ap shapes_right shapes_are ∙ shapes;
    functions = λ name g e.
        let r = reached name g e in
        ap (λ cs. slice_get cs g.0) functions_are ∙ slice_get-map call_of (take number fs) g.0 ∙ ap (option_map call_of) (get_taken fs number g.0 r.0) ∙ sym (slice_get-map call_of fs g.0) ∙ call_at name g r.1;
    results = λ name g e. subst (λ z. is_value z g.2 ≡ true) (sym shapes_are) (result_is name g (reached name g e).1);
    labels = λ name l e. subst (λ z. nat_lt l.1 (label_count (slice_get z.enums l.0)) ≡ true) (sym shapes_are) (kept.label name l e);
  } where
    reached : (name : List ℕ) (g : Call) → in_reach number (found name p.functions) ≡ Some g → (g.0 < number) × (found name p.functions ≡ Some g)
    reached name g e = by (found name p.functions) e where
      by : (o : Option Call) → in_reach number o ≡ Some g → (g.0 < number) × (o ≡ Some g)
      by None e = absurd cc
      by (Some f) e =
          let h = tested_step (nat_lt f.0 number) (Some f) g e in
          let same = same_Some f g h.1 in
          (subst (λ (c : Call). c.0 < number) same (ltb-true f.0 number h.0), h.1)

  -- ---- its functions and its modules

  function_is_right : (i : ℕ) (x : Function) → slice_get fs i ≡ Some x → function_right s fs i x ≡ true
  function_is_right i x e =
      let typed = functions_typed i x e in
      functions_right p s fs i (fits_functions i (world_before s fs i) refl refl) typed.0 x typed.1

  abbrev pub w : World
  w = record { shapes = s; functions = map call_of fs }

  all_taken : take (length p.functions) fs ≡ fs
  all_taken = ap (λ n. take n fs) (sym (calls_many p.functions fs functions)) ∙ take-length fs

  fits_program : FitsProgram p w (map rules.header ms)
  fits_program = record {
    world = fits_functions (length p.functions) w refl (ap (map call_of) (sym all_taken));
    types = kept.types;
    modules = face_at;
  }

  module_is_right : list_all (λ (x : Module). countable x.rules && countable x.methods) ms ≡ true → (i : ℕ) (x : Module) → slice_get ms i ≡ Some x → rules.module_right w (map rules.header ms) x ≡ true
  module_is_right few i x e =
      let typed = modules_typed i x e in
      let counts = and_parts (countable x.rules) (countable x.methods) (passes_at (λ (x : Module). countable x.rules && countable x.methods) ms i x few e) in
      modules_right p w (map rules.header ms) fits_program i typed.0 x typed.1 counts.0 counts.1

  pub program_right : all_countable p.types.enums p.types.structs p.types.interfaces fs ms ≡ true → list_all (λ (x : Module). countable x.rules && countable x.methods) ms ≡ true → is_right p.types.enums p.types.structs p.types.interfaces fs ms ≡ true
  program_right counts few =
      let once = names_once p.types.enums p.types.structs p.types.interfaces fs ms kept.names kept.label_names (ap distinct (sym functions.names) ∙ functions.once) (ap distinct (sym modules.names) ∙ modules.once) in
      let named = and_from (all_countable p.types.enums p.types.structs p.types.interfaces fs ms) (names_right p.types.enums p.types.structs p.types.interfaces fs ms) counts once in
      let front = all_countable p.types.enums p.types.structs p.types.interfaces fs ms && names_right p.types.enums p.types.structs p.types.interfaces fs ms in
      let shaped = and_from front (shapes_right s) named shapes in
      let called = and_from (front && shapes_right s) (each_at (function_right s fs) 0 fs) shaped (each_from (function_right s fs) 0 fs (λ i x e. let first : i ≡ 0 + i = omega arith in subst (λ n. function_right s fs n x ≡ true) first (function_is_right i x e))) in
      and_from (front && shapes_right s && each_at (function_right s fs) 0 fs) (list_all (rules.module_right w (map rules.header ms)) ms) called (all_from (rules.module_right w (map rules.header ms)) ms (module_is_right few))

-- ---- what the typing of a program gives

regroup : (a b c d e : Bool) → (a && b && c && d && e) ≡ true → (a && (b && c && d && e)) ≡ true
regroup true b c d e h = h
regroup false b c d e h = absurd cc

start_aligned : (t : Types) → Aligned (no_headers t) nothing
start_aligned t = record {
  functions = record { calls = refl; names = refl; once = refl; numbered = tt };
  modules = record { faces = refl; names = refl; once = refl; numbered = tt };
}

start_typed : (p : Program) → AllTyped p nothing
start_typed p = record { functions = λ i x e. absurd cc; modules = λ i x e. absurd cc }

-- what has a typing has the typing of its bodies, since nothing is blamed
unblamed : (p : Program) (b : Blame) (ps : List Package) (m : ProgramParts) → unless_blamed p b ps ≡ Ok m → bodies p ps ≡ Ok m
unblamed p b ps m e = by b.fault e where
  by : (o : Option Place) → unless_blamed p (record b { fault = o }) ps ≡ Ok m → bodies p ps ≡ Ok m
  by None e = e
  by (Some first) e = absurd cc

pub programs_right : (ps : List Package) (m : ProgramParts) → typing true ps ≡ Ok m → is_counted m ≡ true → is_right m.enums m.structs m.interfaces m.functions m.modules ≡ true
unfolding typing all_headers all_types is_counted
programs_right ps m e counts =
    let p = all_headers true ps in
    let d = packaged_all p.types (all_packages p 0 ps nothing) m (unblamed p (headers_blame true ps) ps m e) in
    let start = no_headers (all_types true ps) in
    let kept = subst Kept (sym (all_header_types ps start)) (all_kept ps (no_types true) start_kept) in
    let aligned = packages_aligned ps 0 start p nothing d.0 (ahead_self p) (start_aligned (all_types true ps)) d.1 in
    let typed = packages_typed p 0 ps nothing d.0 (start_typed p) d.1 in
    subst (λ (x : ProgramParts). is_right x.enums x.structs x.interfaces x.functions x.modules ≡ true) d.2
    (few_right p d.0 kept aligned typed (subst (λ (x : ProgramParts). is_counted x ≡ true) (sym d.2) counts)) where
      packaged_all : (t : Types) (r : AtPlace Done) (m : ProgramParts) → (r >== λ d. Ok (made_of t d)) ≡ Ok m → (d : Done) × (r ≡ Ok d) × (made_of t d ≡ m)
      packaged_all t (Ok d) m e = (d, refl, at_place (made_of t d) m e)
      packaged_all t (Err s) m e = absurd cc

      few_right : (p : Program) (d : Done) → Kept p.types → Aligned p d → AllTyped p d →
          is_counted (record { enums = p.types.enums; structs = p.types.structs; interfaces = p.types.interfaces; functions = d.functions; modules = d.modules }) ≡ true →
          is_right p.types.enums p.types.structs p.types.interfaces d.functions d.modules ≡ true
      few_right p d kept aligned typed counts =
          let t = p.types in
          let es = list_all (λ (e : Enum). countable e.labels) t.enums in
          let ss = list_all (λ (s : Struct). countable s.fields) t.structs in
          let is = list_all (λ (i : Interface). countable i.methods) t.interfaces in
          let ms = list_all (λ (x : Module). countable x.rules && countable x.methods) d.modules in
          let all = and_parts (all_countable t.enums t.structs t.interfaces d.functions d.modules) (es && ss && is && ms) (regroup (all_countable t.enums t.structs t.interfaces d.functions d.modules) es ss is ms counts) in
          let c = and_parts (es && ss && is) ms all.1 in
          let b = and_parts (es && ss) is c.0 in
          let a = and_parts es ss b.0 in
          let shapes = and_from (list_all enum_right t.enums && each_at (struct_right (shapes_of t)) 0 t.structs && list_all (interface_right (shapes_of t)) t.interfaces) (begins_empty t.interfaces)
          (and_from (list_all enum_right t.enums && each_at (struct_right (shapes_of t)) 0 t.structs) (list_all (interface_right (shapes_of t)) t.interfaces)
          (and_from (list_all enum_right t.enums) (each_at (struct_right (shapes_of t)) 0 t.structs) (enums_right t.enums kept.enums a.0) (structs_right (shapes_of t) 0 t.structs kept.structs a.1))
          (interfaces_right (shapes_of t) t.interfaces kept.interfaces b.1)) kept.empty in
          program_right p d.functions d.modules kept aligned.functions aligned.modules typed.functions typed.modules shapes all.0 c.1
