-- One variable more in the scopes that are seen.
use Rattle.std.proofs.Common.{ℕ, ◌+◌, ◌≡◌, Bool, true, false, not, ◌||◌, List, [], ◌∷◌, length, Some, None, map, refl, sym, ◌∙◌, ap, if◌then◌else◌}
use Rattle.std.proofs.lemmas.List.{length-map, map-append}
use Rattle.std.specs.Str.{bytes_eq}
use Rattle.bsv_scopes.specs.Scopes.{Entries, is_defined, with_name, with_new, in_scope, is_new_in, defined_in}
use Rattle.bsv_types.specs.Expressions.{Slot}
use Rattle.bsv_context.specs.declared.context.Slot as code_slot
use Rattle.bsv_context.specs.declared.context.Variable.{Variable}
use Rattle.bsv_statements.specs.Bodies.{Scopes, with_variable}
use Rattle.bsv_context.specs.Seen.{variable, slot_of, named_variable, in_layer}

pub count_seen : (ss : List (Entries Variable)) → in_scope (map in_layer ss) ≡ in_scope ss
count_seen [] = refl
count_seen (es ∷ outer) = ap (λ n. n + in_scope (map in_layer outer)) (length-map es named_variable) ∙ ap (λ n. length es + n) (count_seen outer)

is_defined_seen : (name : List ℕ) (es : Entries Variable) → is_defined name (in_layer es) ≡ is_defined name es
is_defined_seen name [] = refl
is_defined_seen name (e ∷ es) = ap (λ b. bytes_eq name e.0 || b) (is_defined_seen name es)

new_seen : (name : List ℕ) (ss : List (Entries Variable)) → is_new_in name (map in_layer ss) ≡ is_new_in name ss
new_seen name [] = refl
new_seen name (es ∷ outer) = ap not (is_defined_seen name es)

with_entry : (b : Bool) (name : List ℕ) (v : Variable) (es : Entries Variable) →
    in_layer (if b then es else with_name name v es) ≡ (if b then in_layer es else with_name name (variable v) (in_layer es))
with_entry true name v es = refl
with_entry false name v es = map-append named_variable es ((name, v) ∷ [])

with_new_seen : (name : List ℕ) (v : Variable) (es : Entries Variable) → in_layer (with_new name v es) ≡ with_new name (variable v) (in_layer es)
with_new_seen name v es = with_entry (is_defined name es) name v es ∙ ap (λ b. if b then in_layer es else with_name name (variable v) (in_layer es)) (sym (is_defined_seen name es))

defined_seen : (name : List ℕ) (v : Variable) (ss : List (Entries Variable)) → map in_layer (defined_in name v ss) ≡ defined_in name (variable v) (map in_layer ss)
defined_seen name v [] = refl
defined_seen name v (es ∷ outer) = ap (λ layer. layer ∷ map in_layer outer) (with_new_seen name v es)

if_new : (b : Bool) (given : Scopes) → b ≡ true → (if b then Some given else None) ≡ Some given
if_new b given is = ap (λ b. if b then Some given else None) is

if_old : (b : Bool) (given : Scopes) → b ≡ false → (if b then Some given else None) ≡ None
if_old b given is = ap (λ b. if b then Some given else None) is

pub declared_new : (name : List ℕ) (level : ℕ) (slot : code_slot.Slot) (ss : List (Entries Variable)) → is_new_in name ss ≡ true → level ≡ in_scope ss →
    with_variable name (slot_of slot) (map in_layer ss) ≡ Some (map in_layer (defined_in name (record { level = level; slot = slot }) ss))
declared_new name level slot ss new is =
    if_new (is_new_in name (map in_layer ss)) (defined_in name (in_scope (map in_layer ss), slot_of slot) (map in_layer ss)) (new_seen name ss ∙ new)
    ∙ ap (λ n. Some (defined_in name (n, slot_of slot) (map in_layer ss))) (count_seen ss ∙ sym is)
    ∙ ap Some (sym (defined_seen name (record { level = level; slot = slot }) ss))

pub declared_twice : (name : List ℕ) (slot : Slot) (ss : List (Entries Variable)) → is_new_in name ss ≡ false → with_variable name slot (map in_layer ss) ≡ None
declared_twice name slot ss old = if_old (is_new_in name (map in_layer ss)) (defined_in name (in_scope (map in_layer ss), slot) (map in_layer ss)) (new_seen name ss ∙ old)

pub ruleset declares = (declared_new, declared_twice)
