-- Headers leave the types of a program as they are, and what packages give is what their items give.
use Rattle.std.proofs.Common.{◌≡◌, ◌∙◌, ℕ, List, [], ◌∷◌, Ok, Err, refl, sym, ap}
use Rattle.bsv_ast.specs.declared.package.Function.{Function as WrittenFunction}
use Rattle.bsv_ast.specs.declared.modules.Module.{Module as WrittenModule}
use Rattle.bsv_ast.specs.declared.package.Item.{Item}
use Rattle.bsv_ast.specs.declared.package.Item.TheVariants as item
use Rattle.bsv_ast.specs.declared.package.Package.{Package}
use Rattle.bsv_ast.specs.Packages.{items_of}
use Rattle.bsv_statements.specs.Bodies.{Or}
use Rattle.bsv_statements.proofs.RightCalls.{ok_is, went, there_is}
use Rattle.bsv_modules.specs.Programs.{Program, added, function_entry, with_function, module_entry, with_module}
use Rattle.bsv_check.specs.Headers.{over_items, over_all, or_kept, header_step, AtPlace, placed, ◌>==◌}

pub at_place : {A : Type 0} (x y : A) → ◌≡◌ {A = AtPlace A} (Ok x) (Ok y) → x ≡ y
at_place x y e = cc

pub packaged : {A B : Type 0} (n : ℕ) (r : Or A) (f : A → AtPlace B) (y : B) → (placed n r >== f) ≡ Ok y → (x : A) × (r ≡ Ok x) × (f x ≡ Ok y)
packaged n (Ok x) f y e = (x, refl, e)
packaged n (Err s) f y e = absurd cc

-- headers leave the types as they are
kept_types : (o : Or Program) (p : Program) → ((q : Program) → o ≡ Ok q → q.types ≡ p.types) → (or_kept o p).types ≡ p.types
kept_types (Ok q) p h = h q refl
kept_types (Err s) p h = refl

function_types : (f : WrittenFunction) (p q : Program) → with_function p f ≡ Ok q → q.types ≡ p.types
function_types f p q is =
    let h = went (function_entry p f) _ q is in
    let n = there_is f.span (added f.name.name h.0 p.functions) _ q h.2 in
    sym (ap (λ (x : Program). x.types) (ok_is _ q n.2))

module_types : (m : WrittenModule) (p q : Program) → with_module p m ≡ Ok q → q.types ≡ p.types
module_types m p q is =
    let h = went (module_entry p m) _ q is in
    let n = there_is m.span (added m.name.name h.0 p.modules) _ q h.2 in
    sym (ap (λ (x : Program). x.types) (ok_is _ q n.2))

header_types : (i : Item) (p : Program) → (header_step i p).types ≡ p.types
unfolding header_step
header_types (item.Function s f) p = kept_types (with_function p f) p (function_types f p)
header_types (item.Module s m) p = kept_types (with_module p m) p (module_types m p)
header_types (item.Import s x) p = refl
header_types (item.Typedef s x) p = refl
header_types (item.Interface s x) p = refl

items_header_types : (is : List Item) (p : Program) → (over_items header_step is p).types ≡ p.types
items_header_types [] p = refl
items_header_types (i ∷ is) p = items_header_types is (header_step i p) ∙ header_types i p

pub all_header_types : (ps : List Package) (p : Program) → (over_all header_step ps p).types ≡ p.types
all_header_types [] p = refl
all_header_types (x ∷ xs) p = all_header_types xs (over_items header_step (items_of x) p) ∙ items_header_types (items_of x) p
