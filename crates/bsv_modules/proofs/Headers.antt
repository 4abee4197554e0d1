-- What functions and modules are typed as has the header that calls and makers see.
use Rattle.std.proofs.Common.{◌≡◌, ℕ, true, List, Ok, refl, ap, subst}
use Rattle.bsv_ast.specs.declared.package.Function.{Function as WrittenFunction}
use Rattle.bsv_ast.specs.declared.modules.Module.{Module as WrittenModule}
use Rattle.bsv_types.specs.declared.asked.Owner.TheVariants as owner
use Rattle.bsv_types.specs.declared.attributes.Attribute.{Attribute}
use Rattle.bsv_types.specs.declared.definitions.Body.{Body}
use Rattle.bsv_types.specs.declared.definitions.Function.{Function}
use Rattle.bsv_types.specs.declared.definitions.Param.{Param}
use Rattle.bsv_types.specs.declared.modules.Module.{Module}
use Rattle.bsv_types.specs.Kinds.{Kind}
use Rattle.bsv_types.specs.Methods.{param_kinds}
use Rattle.bsv_types.specs.Modules as rules
use Rattle.bsv_types.specs.Programs.{call_of}
use Rattle.bsv_statements.specs.Bodies.{Or}
use Rattle.bsv_typing.proofs.Typings.{kind_back}
use Rattle.bsv_statements.proofs.RightCalls.{ok_is, went, passed}
use Rattle.bsv_modules.specs.Modules.{asked}
use Rattle.bsv_modules.specs.Programs.{Program, function_header, function_made, is_function, function_body, function_case, module_header, site_of, is_module, Parts, module_made, module_parts, module_case}

-- a module of this number has the header that makers see
pub record ModuleSeen (p : Program) (number : ℕ) (m : WrittenModule) (x : Module) : Type 0 where
  pub header : List Param × Kind
  pub headed : module_header p m ≡ Ok header
  pub number_is : is_module p m.name.name number ≡ true
  pub name : x.name ≡ m.name.name
  pub seen : rules.header x ≡ (param_kinds header.0, header.1)

made_seen : (p : Program) (number : ℕ) (m : WrittenModule) (attributes : List Attribute) (h : List Param × Kind) (parts : Parts) → module_header p m ≡ Ok h → is_module p m.name.name number ≡ true →
    ModuleSeen p number m (module_made m attributes h parts)
made_seen p number m attributes h parts headed own = record { header = h; headed = headed; number_is = own; name = refl; seen = ap (λ k. (param_kinds h.0, k)) (kind_back h.1) }

seen_as : (p : Program) (number : ℕ) (m : WrittenModule) (made x : Module) → ◌≡◌ {A = Or Module} (Ok made) (Ok x) → ModuleSeen p number m made → ModuleSeen p number m x
seen_as p number m made x e seen = subst (ModuleSeen p number m) (ok_is made x e) seen

pub module_seen : (p : Program) (number : ℕ) (m : WrittenModule) (x : Module) → module_case p number m ≡ Ok x → ModuleSeen p number m x
module_seen p number m x e =
    let attributes = went (asked m.span owner.Module m.attributes) _ x e in
    let h = went (module_header p m) _ x attributes.2 in
    let own = passed m.span (is_module p m.name.name number) true _ x h.2 in
    let parts = went (module_parts (site_of p h.0.1) m h.0.0) (λ parts. Ok (module_made m attributes.0 h.0 parts)) x own.1 in
    seen_as p number m (module_made m attributes.0 h.0 parts.0) x parts.2 (made_seen p number m attributes.0 h.0 parts.0 h.1 own.0)

-- a function of this number takes and gives what calls see
pub record FunctionSeen (p : Program) (number : ℕ) (f : WrittenFunction) (x : Function) : Type 0 where
  pub header : List Param × Kind
  pub headed : function_header p f ≡ Ok header
  pub number_is : is_function p f.name.name number ≡ true
  pub name : x.name ≡ f.name.name
  pub seen : call_of x ≡ (param_kinds header.0, header.1)

function_made_seen : (p : Program) (number : ℕ) (f : WrittenFunction) (h : List Param × Kind) (b : Body) → function_header p f ≡ Ok h → is_function p f.name.name number ≡ true → FunctionSeen p number f (function_made f h.0 h.1 b)
function_made_seen p number f h b headed own = record { header = h; headed = headed; number_is = own; name = refl; seen = ap (λ k. (param_kinds h.0, k)) (kind_back h.1) }

pub function_seen : (p : Program) (number : ℕ) (f : WrittenFunction) (x : Function) → function_case p number f ≡ Ok x → FunctionSeen p number f x
function_seen p number f x e =
    let h = went (function_header p f) _ x e in
    let own = passed f.span (is_function p f.name.name number) true _ x h.2 in
    let b = went (function_body p number f.span h.0.0 h.0.1 f.body) (λ b. Ok (function_made f h.0.0 h.0.1 b)) x own.1 in
    subst (FunctionSeen p number f) (ok_is (function_made f h.0.0 h.0.1 b.0) x b.2) (function_made_seen p number f h.0 b.0 h.1 own.0)
