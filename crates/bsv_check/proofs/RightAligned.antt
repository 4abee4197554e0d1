-- Where all items have a typing, functions and modules are those that the headers tell, by number and name.
use Rattle.std.proofs.Common.{◌≡◌, ◌∙◌, ℕ, suc, ◌+◌, ◌<◌, Bool, true, false, cond, ◌||◌, List, [], ◌∷◌, ◌++◌, map, length, Some, None, option_map, Ok, Err, refl, sym, ap, subst, arith, append_assoc, append-nil}
use Rattle.std.specs.Prelude.{slice_get}
use Rattle.std.specs.Map.{keys_of}
use Rattle.std.specs.Str.{bytes_eq}
use Rattle.std.proofs.lemmas.Bool.{eqb-true}
use Rattle.std.proofs.lemmas.List.{length-map, map-append}
use Rattle.std.proofs.lemmas.Option.{same_Some}
use Rattle.bsv_ast.specs.declared.text.Span.{Span}
use Rattle.bsv_ast.specs.declared.package.Function.{Function as WrittenFunction}
use Rattle.bsv_ast.specs.declared.modules.Module.{Module as WrittenModule}
use Rattle.bsv_ast.specs.declared.package.Item.{Item}
use Rattle.bsv_ast.specs.declared.package.Item.TheVariants as item
use Rattle.bsv_ast.specs.declared.package.Package.{Package}
use Rattle.bsv_scopes.specs.Scopes.{Entries, found, is_defined, is_listed, with_name}
use Rattle.bsv_types.specs.declared.definitions.Function.{Function}
use Rattle.bsv_types.specs.declared.definitions.Param.{Param}
use Rattle.bsv_types.specs.declared.modules.Module.{Module}
use Rattle.bsv_types.specs.Kinds.{Kind}
use Rattle.bsv_types.specs.Methods.{param_kinds}
use Rattle.bsv_types.specs.Names.{distinct}
use Rattle.bsv_types.specs.Modules as rules
use Rattle.bsv_types.specs.Programs.{call_of}
use Rattle.bsv_ast.specs.Packages.{items_of}
use Rattle.bsv_statements.specs.Bodies.{Or, ◌>=>◌, at}
use Rattle.bsv_statements.proofs.RightCalls.{ok_is, went, there_is}
use Rattle.bsv_modules.specs.Modules.{Header}
use Rattle.bsv_modules.specs.Programs.{Program, added, value_params, function_header, function_entry, with_function, has_number, is_function, function_case, module_params, module_header, header_of, module_entry, with_module, is_module, module_case}
use Rattle.bsv_check.specs.Headers.{over_items, over_all, or_kept, header_step}
use Rattle.bsv_check.specs.Checked.{Done, function_step, module_step, item_step, all_items, package_step, all_packages}
use Rattle.bsv_modules.proofs.Entries.{distinct_with}
use Rattle.bsv_modules.proofs.Headers.{function_seen, module_seen}
use Rattle.bsv_modules.proofs.RightTypes.{name_added}
use Rattle.bsv_check.proofs.RightRuns.{at_place, packaged}

-- ---- entries that are numbered by their places

module _ {V : Type 0} (number : V → ℕ) where
  abbrev pub NumberedFrom : ℕ → Entries V → Type 0
  NumberedFrom n [] = Unit {0}
  NumberedFrom n (e ∷ es) = (number e.1 ≡ n) × NumberedFrom (n + 1) es

  pub numbered_more : (n : ℕ) (es : Entries V) (name : List ℕ) (v : V) → NumberedFrom n es → number v ≡ n + length es → NumberedFrom n (es ++ (name, v) ∷ [])
  numbered_more n [] name v all is = let same : number v ≡ n = omega (arith, is) in (same, tt)
  numbered_more n (e ∷ es) name v all is = (all.0, numbered_more (n + 1) es name v all.1 (omega (arith, is)))

  -- the entry that is found is at the place of its number
  pub found_at : (n : ℕ) (name : List ℕ) (es : Entries V) (v : V) → NumberedFrom n es → found name es ≡ Some v → (i : ℕ) × (number v ≡ n + i) × (slice_get (map (λ e. e.1) es) i ≡ Some v)
  found_at n name [] v all e = absurd cc
  found_at n name (x ∷ es) v all e = by (bytes_eq name x.0) (found_at (n + 1) name es v all.1) e where
    by : (b : Bool) → (found name es ≡ Some v → (i : ℕ) × (number v ≡ n + 1 + i) × (slice_get (map (λ e. e.1) es) i ≡ Some v)) → cond b (Some x.1) (found name es) ≡ Some v →
        (i : ℕ) × (number v ≡ n + i) × (slice_get (map (λ e. e.1) (x ∷ es)) i ≡ Some v)
    by true later at =
        let is = same_Some x.1 v at in
        let first : n ≡ n + 0 = omega arith in
        (0, sym (ap number is) ∙ all.0 ∙ first, ap Some is)
    by false later at =
        let more = later at in
        let next : n + 1 + more.0 ≡ n + suc more.0 = omega arith in
        (suc more.0, more.1 ∙ next, more.2)

  -- a name that is defined has a number below their count, whatever comes after
  pub defined_number : (n : ℕ) (name : List ℕ) (es more : Entries V) → NumberedFrom n es → is_defined name es ≡ true → (v : V) × (found name (es ++ more) ≡ Some v) × (number v < n + length es)
  defined_number n name [] more all e = absurd cc
  defined_number n name (x ∷ es) more all e = by (bytes_eq name x.0) (defined_number (n + 1) name es more all.1) e where
    by : (b : Bool) → (is_defined name es ≡ true → (v : V) × (found name (es ++ more) ≡ Some v) × (number v < n + 1 + length es)) → (b || is_defined name es) ≡ true →
        (v : V) × (cond b (Some x.1) (found name (es ++ more)) ≡ Some v) × (number v < n + suc (length es))
    by true later e = (x.1, refl, omega (arith, all.0))
    by false later e = let h = later e in (h.0, h.1, omega (arith, h.2))

  -- no name that is defined has the number of the next entry
  pub not_next : (name : List ℕ) (es more : Entries V) → NumberedFrom 0 es → is_defined name es ≡ true → has_number (length es) (option_map number (found name (es ++ more))) ≡ true → ⊥
  not_next name es more all defined own =
      let h = defined_number 0 name es more all defined in
      let same : number h.0 ≡ length es = eqb-true (number h.0) (length es) (subst (λ o. has_number (length es) (option_map number o) ≡ true) h.1 own) in
      omega (arith, h.2, same)

abbrev pub Call : Type 0
Call = ℕ × List Kind × Kind

-- ---- headers that were told before the end

pub record Ahead (h p : Program) : Type 0 where
  pub types : p.types ≡ h.types
  pub functions : Entries (ℕ × List Kind × Kind)
  pub modules : Entries Header
  pub functions_are : p.functions ≡ h.functions ++ functions
  pub modules_are : p.modules ≡ h.modules ++ modules

pub ahead_self : (p : Program) → Ahead p p
ahead_self p = record { types = refl; functions = []; modules = []; functions_are = sym (append-nil p.functions); modules_are = sym (append-nil p.modules) }

pub ahead_more : (h p q : Program) → Ahead h p → Ahead p q → Ahead h q
ahead_more h p q one two = record {
  types = two.types ∙ one.types;
  functions = one.functions ++ two.functions;
  modules = one.modules ++ two.modules;
  functions_are = two.functions_are ∙ ap (λ es. es ++ two.functions) one.functions_are ∙ append_assoc h.functions one.functions two.functions;
  modules_are = two.modules_are ∙ ap (λ es. es ++ two.modules) one.modules_are ∙ append_assoc h.modules one.modules two.modules;
}

function_ahead : (p : Program) (f : WrittenFunction) (q : Program) → with_function p f ≡ Ok q → Ahead p q
function_ahead p f q e =
    let h = went (function_entry p f) _ q e in
    let n = there_is f.span (added f.name.name h.0 p.functions) _ q h.2 in
    let a = name_added f.name.name h.0 p.functions n.0 n.1 in
    subst (Ahead p) (ok_is (record p { functions = n.0 }) q n.2)
    (record { types = refl; functions = (f.name.name, h.0) ∷ []; modules = []; functions_are = sym a.1; modules_are = sym (append-nil p.modules) })

module_ahead : (p : Program) (m : WrittenModule) (q : Program) → with_module p m ≡ Ok q → Ahead p q
module_ahead p m q e =
    let h = went (module_entry p m) _ q e in
    let n = there_is m.span (added m.name.name h.0 p.modules) _ q h.2 in
    let a = name_added m.name.name h.0 p.modules n.0 n.1 in
    subst (Ahead p) (ok_is (record p { modules = n.0 }) q n.2)
    (record { types = refl; functions = []; modules = (m.name.name, h.0) ∷ []; functions_are = sym (append-nil p.functions); modules_are = sym a.1 })

kept_ahead : (p : Program) (o : Or Program) → ((q : Program) → o ≡ Ok q → Ahead p q) → Ahead p (or_kept o p)
kept_ahead p (Ok q) h = h q refl
kept_ahead p (Err s) h = ahead_self p

pub step_ahead : (i : Item) (p : Program) → Ahead p (header_step i p)
unfolding header_step
step_ahead (item.Function s f) p = kept_ahead p (with_function p f) (function_ahead p f)
step_ahead (item.Module s m) p = kept_ahead p (with_module p m) (module_ahead p m)
step_ahead (item.Import s x) p = ahead_self p
step_ahead (item.Typedef s x) p = ahead_self p
step_ahead (item.Interface s x) p = ahead_self p

pub items_ahead : (is : List Item) (p : Program) → Ahead p (over_items header_step is p)
items_ahead [] p = ahead_self p
items_ahead (i ∷ is) p = ahead_more p (header_step i p) (over_items header_step is (header_step i p)) (step_ahead i p) (items_ahead is (header_step i p))

pub all_ahead : (ps : List Package) (p : Program) → Ahead p (over_all header_step ps p)
all_ahead [] p = ahead_self p
all_ahead (x ∷ xs) p = ahead_more p (over_items header_step (items_of x) p) _ (items_ahead (items_of x) p) (all_ahead xs (over_items header_step (items_of x) p))

-- ---- what was typed so far is what the headers tell so far

abbrev pub calls_of : Entries Call → List (List Kind × Kind)
calls_of es = map (λ e. (e.1.1, e.1.2)) es

abbrev pub faces_of : Entries Header → List (List Kind × Kind)
faces_of es = map (λ e. (e.1.params, e.1.interface)) es

pub record FunctionsAligned (es : Entries Call) (fs : List Function) : Type 0 where
  pub calls : calls_of es ≡ map call_of fs
  pub names : keys_of es ≡ map (λ f. f.name) fs
  pub once : distinct (keys_of es) ≡ true
  pub numbered : NumberedFrom (λ v. v.0) 0 es

pub record ModulesAligned (es : Entries Header) (ms : List Module) : Type 0 where
  pub faces : faces_of es ≡ map rules.header ms
  pub names : keys_of es ≡ map (λ m. m.name) ms
  pub once : distinct (keys_of es) ≡ true
  pub numbered : NumberedFrom (λ h. h.number) 0 es

pub record Aligned (p : Program) (d : Done) : Type 0 where
  pub functions : FunctionsAligned p.functions d.functions
  pub modules : ModulesAligned p.modules d.modules

last_distinct : (name : List ℕ) (xs : List (List ℕ)) → distinct xs ≡ true → is_listed name xs ≡ false → distinct (xs ++ name ∷ []) ≡ true
last_distinct name xs d new = distinct_with name xs [] (ap distinct (append-nil xs) ∙ d) (ap (is_listed name) (append-nil xs) ∙ new)

function_aligned : (es : Entries Call) (fs : List Function) (name : List ℕ) (v : Call) (x : Function) → FunctionsAligned es fs → is_defined name es ≡ false → v.0 ≡ length es → x.name ≡ name → call_of x ≡ (v.1, v.2) →
    FunctionsAligned (with_name name v es) (fs ++ x ∷ [])
function_aligned es fs name v x a new number named seen = record {
  calls = map-append (λ (e : List ℕ × Call). (e.1.1, e.1.2)) es ((name, v) ∷ []) ∙ ap (λ cs. cs ++ (v.1, v.2) ∷ []) a.calls ∙ ap (λ c. map call_of fs ++ c ∷ []) (sym seen) ∙ sym (map-append call_of fs (x ∷ []));
  names = map-append (λ (e : List ℕ × Call). e.0) es ((name, v) ∷ []) ∙ ap (λ ns. ns ++ name ∷ []) a.names ∙ ap (λ n. map (λ (f : Function). f.name) fs ++ n ∷ []) (sym named) ∙ sym (map-append (λ (f : Function). f.name) fs (x ∷ []));
  once = ap distinct (map-append (λ (e : List ℕ × Call). e.0) es ((name, v) ∷ [])) ∙ last_distinct name (keys_of es) a.once new;
  numbered = numbered_more (λ (c : Call). c.0) 0 es name v a.numbered (number ∙ none_before (length es));
} where
  none_before : (n : ℕ) → n ≡ 0 + n
  none_before n = omega arith

module_aligned : (es : Entries Header) (ms : List Module) (name : List ℕ) (v : Header) (x : Module) → ModulesAligned es ms → is_defined name es ≡ false → v.number ≡ length es → x.name ≡ name → rules.header x ≡ (v.params, v.interface) →
    ModulesAligned (with_name name v es) (ms ++ x ∷ [])
module_aligned es ms name v x a new number named seen = record {
  faces = map-append (λ (e : List ℕ × Header). (e.1.params, e.1.interface)) es ((name, v) ∷ []) ∙ ap (λ cs. cs ++ (v.params, v.interface) ∷ []) a.faces ∙ ap (λ c. map rules.header ms ++ c ∷ []) (sym seen) ∙ sym (map-append rules.header ms (x ∷ []));
  names = map-append (λ (e : List ℕ × Header). e.0) es ((name, v) ∷ []) ∙ ap (λ ns. ns ++ name ∷ []) a.names ∙ ap (λ n. map (λ (m : Module). m.name) ms ++ n ∷ []) (sym named) ∙ sym (map-append (λ (m : Module). m.name) ms (x ∷ []));
  once = ap distinct (map-append (λ (e : List ℕ × Header). e.0) es ((name, v) ∷ [])) ∙ last_distinct name (keys_of es) a.once new;
  numbered = numbered_more (λ (h : Header). h.number) 0 es name v a.numbered (number ∙ none_before (length es));
} where
  none_before : (n : ℕ) → n ≡ 0 + n
  none_before n = omega arith

pub calls_many : (es : Entries Call) (fs : List Function) → FunctionsAligned es fs → length fs ≡ length es
calls_many es fs a = sym (length-map fs call_of) ∙ sym (ap length a.calls) ∙ length-map es (λ (e : List ℕ × Call). (e.1.1, e.1.2))

pub faces_many : (es : Entries Header) (ms : List Module) → ModulesAligned es ms → length ms ≡ length es
faces_many es ms a = sym (length-map ms rules.header) ∙ sym (ap length a.faces) ∙ length-map es (λ (e : List ℕ × Header). (e.1.params, e.1.interface))

-- ---- each item

header_same : (h p : Program) (f : WrittenFunction) → p.types ≡ h.types → function_header p f ≡ function_header h f
unfolding function_header value_params
header_same h p f is = ap (λ t. function_header (record p { types = t }) f) is

module_header_same : (h p : Program) (m : WrittenModule) → p.types ≡ h.types → module_header p m ≡ module_header h m
unfolding module_header module_params
module_header_same h p m is = ap (λ t. module_header (record p { types = t }) m) is

name_is_new : {V : Type 0} (name : List ℕ) (v : V) (es : Entries V) → is_defined name es ≡ false → added name v es ≡ Some (with_name name v es)
unfolding added
name_is_new name v es new = ap (λ b. cond b None (Some (with_name name v es))) new

entry_is : (h : Program) (f : WrittenFunction) (k : List Param × Kind) → function_header h f ≡ Ok k → function_entry h f ≡ Ok (length h.functions, param_kinds k.0, k.1)
unfolding function_entry
entry_is h f k is = ap (λ o. o >=> λ j. Ok (length h.functions, param_kinds j.0, j.1)) is

module_entry_is : (h : Program) (m : WrittenModule) (k : List Param × Kind) → module_header h m ≡ Ok k → module_entry h m ≡ Ok (header_of (length h.modules) k)
unfolding module_entry
module_entry_is h m k is = ap (λ o. o >=> λ j. Ok (header_of (length h.modules) j)) is

-- the header of a function is told where its name is new
told : (h : Program) (f : WrittenFunction) (k : List Param × Kind) → function_header h f ≡ Ok k → is_defined f.name.name h.functions ≡ false →
    with_function h f ≡ Ok (record h { functions = with_name f.name.name (length h.functions, param_kinds k.0, k.1) h.functions })
told h f k is new =
    let entry : Call = (length h.functions, param_kinds k.0, k.1) in
    ap (λ o. o >=> λ e. at f.span (added f.name.name e h.functions) >=> λ functions. Ok (record h { functions = functions })) (entry_is h f k is)
    ∙ ap (λ o. at f.span o >=> λ functions. Ok (record h { functions = functions })) (name_is_new f.name.name entry h.functions new)

told_module : (h : Program) (m : WrittenModule) (k : List Param × Kind) → module_header h m ≡ Ok k → is_defined m.name.name h.modules ≡ false →
    with_module h m ≡ Ok (record h { modules = with_name m.name.name (header_of (length h.modules) k) h.modules })
told_module h m k is new =
    ap (λ o. o >=> λ e. at m.span (added m.name.name e h.modules) >=> λ modules. Ok (record h { modules = modules })) (module_entry_is h m k is)
    ∙ ap (λ o. at m.span o >=> λ modules. Ok (record h { modules = modules })) (name_is_new m.name.name (header_of (length h.modules) k) h.modules new)

new_function : (h p : Program) (d : Done) (name : List ℕ) → Ahead h p → FunctionsAligned h.functions d.functions → is_function p name (length d.functions) ≡ true → is_defined name h.functions ≡ false
new_function h p d name ahead a own = by (is_defined name h.functions) refl where
  by : (b : Bool) → is_defined name h.functions ≡ b → b ≡ false
  by false is = refl
  by true is = absurd (not_next (λ (c : Call). c.0) name h.functions ahead.functions a.numbered is
      (subst (λ n. has_number n (option_map (λ (c : Call). c.0) (found name (h.functions ++ ahead.functions))) ≡ true) (calls_many h.functions d.functions a)
      (subst (λ es. has_number (length d.functions) (option_map (λ (c : Call). c.0) (found name es)) ≡ true) ahead.functions_are own)))

new_module : (h p : Program) (d : Done) (name : List ℕ) → Ahead h p → ModulesAligned h.modules d.modules → is_module p name (length d.modules) ≡ true → is_defined name h.modules ≡ false
new_module h p d name ahead a own = by (is_defined name h.modules) refl where
  by : (b : Bool) → is_defined name h.modules ≡ b → b ≡ false
  by false is = refl
  by true is = absurd (not_next (λ (c : Header). c.number) name h.modules ahead.modules a.numbered is
      (subst (λ n. has_number n (option_map (λ (c : Header). c.number) (found name (h.modules ++ ahead.modules))) ≡ true) (faces_many h.modules d.modules a)
      (subst (λ es. has_number (length d.modules) (option_map (λ (c : Header). c.number) (found name es)) ≡ true) ahead.modules_are own)))

function_after : (h p : Program) (s : Span) (f : WrittenFunction) (d next : Done) → Ahead h p → Aligned h d → item_step p (item.Function s f) d ≡ Ok next → Aligned (header_step (item.Function s f) h) next
unfolding header_step item_step function_step
function_after h p s f d next ahead a e =
    let fs = went (function_case p (length d.functions) f >=> λ r. Ok (d.functions ++ r ∷ [])) _ next e in
    let r = went (function_case p (length d.functions) f) (λ r. Ok (d.functions ++ r ∷ [])) fs.0 fs.1 in
    let seen = function_seen p (length d.functions) f r.0 r.1 in
    let new = new_function h p d f.name.name ahead a.functions seen.number_is in
    let is = told h f seen.header (sym (header_same h p f ahead.types) ∙ seen.headed) new in
    let entry : Call = (length h.functions, param_kinds seen.header.0, seen.header.1) in
    let whole : Program = record h { functions = with_name f.name.name entry h.functions } in
    let aligned : Aligned whole (record d { functions = d.functions ++ r.0 ∷ [] }) =
    record { functions = function_aligned h.functions d.functions f.name.name entry r.0 a.functions new refl seen.name seen.seen; modules = a.modules } in
    let same = ap (λ xs. record d { functions = xs }) (ok_is (d.functions ++ r.0 ∷ []) fs.0 r.2) ∙ ok_is (record d { functions = fs.0 }) next fs.2 in
    subst (λ q. Aligned q next) (ap (λ o. or_kept o h) (sym is)) (subst (Aligned whole) same aligned)

module_after : (h p : Program) (s : Span) (m : WrittenModule) (d next : Done) → Ahead h p → Aligned h d → item_step p (item.Module s m) d ≡ Ok next → Aligned (header_step (item.Module s m) h) next
unfolding header_step item_step module_step
module_after h p s m d next ahead a e =
    let ms = went (module_case p (length d.modules) m >=> λ r. Ok (d.modules ++ r ∷ [])) _ next e in
    let r = went (module_case p (length d.modules) m) (λ r. Ok (d.modules ++ r ∷ [])) ms.0 ms.1 in
    let seen = module_seen p (length d.modules) m r.0 r.1 in
    let new = new_module h p d m.name.name ahead a.modules seen.number_is in
    let is = told_module h m seen.header (sym (module_header_same h p m ahead.types) ∙ seen.headed) new in
    let entry = header_of (length h.modules) seen.header in
    let whole : Program = record h { modules = with_name m.name.name entry h.modules } in
    let aligned : Aligned whole (record d { modules = d.modules ++ r.0 ∷ [] }) =
    record { functions = a.functions; modules = module_aligned h.modules d.modules m.name.name entry r.0 a.modules new refl seen.name seen.seen } in
    let same = ap (λ xs. record d { modules = xs }) (ok_is (d.modules ++ r.0 ∷ []) ms.0 r.2) ∙ ok_is (record d { modules = ms.0 }) next ms.2 in
    subst (λ q. Aligned q next) (ap (λ o. or_kept o h) (sym is)) (subst (Aligned whole) same aligned)

step_aligned : (h p : Program) (i : Item) (d next : Done) → Ahead h p → Aligned h d → item_step p i d ≡ Ok next → Aligned (header_step i h) next
unfolding header_step item_step
step_aligned h p (item.Function s f) d next ahead a e = function_after h p s f d next ahead a e
step_aligned h p (item.Module s m) d next ahead a e = module_after h p s m d next ahead a e
step_aligned h p (item.Import s x) d next ahead a e = subst (Aligned h) (ok_is d next e) a
step_aligned h p (item.Typedef s x) d next ahead a e = subst (Aligned h) (ok_is d next e) a
step_aligned h p (item.Interface s x) d next ahead a e = subst (Aligned h) (ok_is d next e) a

items_aligned : (is : List Item) (h p : Program) (d next : Done) → Ahead (over_items header_step is h) p → Aligned h d → all_items p is d ≡ Ok next → Aligned (over_items header_step is h) next
items_aligned [] h p d next ahead a e = subst (Aligned h) (ok_is d next e) a
items_aligned (i ∷ is) h p d next ahead a e =
    let r = went (item_step p i d) (all_items p is) next e in
    let here = ahead_more h (over_items header_step is (header_step i h)) p (ahead_more h (header_step i h) _ (step_ahead i h) (items_ahead is (header_step i h))) ahead in
    items_aligned is (header_step i h) p r.0 next ahead (step_aligned h p i d r.0 here a r.1) r.2

pub packages_aligned : (ps : List Package) (n : ℕ) (h p : Program) (d next : Done) → Ahead (over_all header_step ps h) p → Aligned h d → all_packages p n ps d ≡ Ok next → Aligned (over_all header_step ps h) next
unfolding package_step
packages_aligned [] n h p d next ahead a e = subst (Aligned h) (at_place d next e) a
packages_aligned (x ∷ xs) n h p d next ahead a e =
    let r = packaged n (all_items p (items_of x) d) (all_packages p (n + 1) xs) next e in
    let behind = over_items header_step (items_of x) h in
    let here = ahead_more behind (over_all header_step xs behind) p (all_ahead xs behind) ahead in
    packages_aligned xs (n + 1) behind p r.0 next ahead (items_aligned (items_of x) h p d r.0 here a r.1) r.2
