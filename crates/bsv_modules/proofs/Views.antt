-- Scopes, with what their names stand for as it is seen.
use Rattle.std.proofs.Common.{ℕ, ◌≡◌, Bool, true, false, not, ◌||◌, List, [], ◌∷◌, length, Option, Some, None, option_map, refl, sym, ◌∙◌, ap, if◌then◌else◌}
use Rattle.std.proofs.Math.Path.{fun_ext}
use Rattle.std.proofs.lemmas.List.{map-append, length-map}
use Rattle.std.specs.Str.{bytes_eq}
use Rattle.bsv_scopes.specs.Scopes.{Entries, found, is_defined, with_name, with_new}
use Rattle.bsv_scopes.specs.Seen.{entries}
use Rattle.bsv_types.specs.Kinds.{Kind, kind}
use Rattle.bsv_types.specs.Methods.{Signature, methods}
use Rattle.bsv_context.specs.Env.{Env, Limits, in_reach, structure_of}
use Rattle.bsv_context.specs.Written.{TypeNames}
use Rattle.bsv_context.specs.declared.context.Context.{Context}
use Rattle.bsv_context.specs.Seen as typing
use Rattle.bsv_statements.specs.SeenBodies.{fixed}
use Rattle.bsv_modules.specs.declared.program.Program as code_program
use Rattle.bsv_modules.specs.Modules.{Header, ModuleContext}
use Rattle.bsv_modules.specs.Programs as spec
use Rattle.bsv_modules.specs.Seen.{seen_by, types_of, program_of, module_named, function_seen, module_seen}

module _ {V W : Type 0} (view : V → W) where
  one_entry : (b : Bool) (v : V) (rest : Option V) (more : Option W) → more ≡ option_map view rest → (if b then Some (view v) else more) ≡ option_map view (if b then Some v else rest)
  one_entry true v rest more is = refl
  one_entry false v rest more is = is

  pub found_by : (name : List ℕ) (es : Entries V) → found name (seen_by view es) ≡ option_map view (found name es)
  unfolding seen_by
  found_by name [] = refl
  found_by name (e ∷ es) = one_entry (bytes_eq name e.0) e.1 (found name es) (found name (seen_by view es)) (found_by name es)

  pub defined_by : (name : List ℕ) (es : Entries V) → is_defined name (seen_by view es) ≡ is_defined name es
  unfolding seen_by
  defined_by name [] = refl
  defined_by name (e ∷ es) = ap (λ b. bytes_eq name e.0 || b) (defined_by name es)

  with_entry : (b : Bool) (name : List ℕ) (v : V) (es : Entries V) →
      seen_by view (if b then es else with_name name v es) ≡ (if b then seen_by view es else with_name name (view v) (seen_by view es))
  unfolding seen_by
  with_entry true name v es = refl
  with_entry false name v es = map-append _ es ((name, v) ∷ [])

  pub new_by : (name : List ℕ) (v : V) (es : Entries V) → seen_by view (with_new name v es) ≡ with_new name (view v) (seen_by view es)
  new_by name v es =
      with_entry (is_defined name es) name v es ∙ ap (λ b. if b then seen_by view es else with_name name (view v) (seen_by view es)) (sym (defined_by name es))

  if_new : (b c : Bool) (name : List ℕ) (v : V) (es : Entries V) → b ≡ c → not c ≡ true →
      (if b then None else Some (with_name name (view v) (seen_by view es))) ≡ Some (if b then seen_by view es else with_name name (view v) (seen_by view es))
  if_new true true name v es is new = cc
  if_new true false name v es is new = cc
  if_new false c name v es is new = refl

  if_old : (b c : Bool) (given : Option (Entries W)) → b ≡ c → not c ≡ false → (if b then None else given) ≡ None
  if_old true c given is old = refl
  if_old false true given is old = cc
  if_old false false given is old = cc

  pub added_new : (name : List ℕ) (v : V) (es : Entries V) → not (is_defined name es) ≡ true → spec.added name (view v) (seen_by view es) ≡ Some (seen_by view (with_new name v es))
  unfolding spec.added
  added_new name v es new = if_new (is_defined name (seen_by view es)) (is_defined name es) name v es (defined_by name es) new ∙ ap Some (sym (new_by name v es))

  pub added_old : (name : List ℕ) (w : W) (es : Entries V) → not (is_defined name es) ≡ false → spec.added name w (seen_by view es) ≡ None
  unfolding spec.added
  added_old name w es old = if_old (is_defined name (seen_by view es)) (is_defined name es) _ (defined_by name es) old

abbrev made_env : Limits → (List ℕ → Option (ℕ × ℕ)) → (List ℕ → Option ℕ) → (List ℕ → Option (ℕ × List Kind × Kind)) → Env
made_env g l s f = record { limits = g; variable = λ name. None; function = f; label = l; structure = s }

abbrev pub made_site : Env → TypeNames → (List ℕ → Option Header) → List Signature → ModuleContext
made_site env types modules wanted = record { env = env; types = types; modules = modules; wanted = wanted }

-- the types that may be written
pub names_seen : (c : Context) → spec.type_names (types_of c) ≡ typing.type_names c
unfolding spec.type_names
names_seen c = ap (λ f. record { limits = typing.limits c; named = f }) (fun_ext (λ name. found_by kind name (entries c.types)))

-- how many there are
pub length_by : {V W : Type 0} (view : V → W) (es : Entries V) → length (seen_by view es) ≡ length es
unfolding seen_by
length_by view es = length-map es _

-- what a function may name
pub env_seen : (p : code_program.Program) → spec.env_of (program_of p) p.context.callable ≡ fixed p.context
unfolding spec.env_of function_seen
env_seen p =
    let L = typing.limits p.context in
    let n = p.context.callable in
    let f = λ (name : List ℕ). in_reach n (found name (seen_by typing.header (entries p.context.functions))) in
    let g = λ (name : List ℕ). in_reach n (option_map typing.header (found name (entries p.context.functions))) in
    let l = λ (name : List ℕ). found name (seen_by typing.label (entries p.context.labels)) in
    let m = λ (name : List ℕ). option_map typing.label (found name (entries p.context.labels)) in
    let s = λ (name : List ℕ). structure_of (found name (seen_by kind (entries p.context.types))) in
    let t = λ (name : List ℕ). structure_of (option_map kind (found name (entries p.context.types))) in
    ap (made_env L l s) (fun_ext (λ name. ap (in_reach n) (found_by typing.header name (entries p.context.functions))))
    ∙ ap (λ x. made_env L x s g) (fun_ext (λ name. found_by typing.label name (entries p.context.labels)))
    ∙ ap (λ x. made_env L m x g) (fun_ext (λ name. ap structure_of (found_by kind name (entries p.context.types))))

-- what a module may name
pub site_seen : (p : code_program.Program) (k : Kind) →
    spec.site_at (program_of p) p.context.callable k ≡ made_site (fixed p.context) (typing.type_names p.context) (module_named p.modules) (methods (typing.shapes p.context) k)
unfolding spec.site_at seen_by module_seen
site_seen p k =
    let M = module_named p.modules in
    let W = methods (typing.shapes p.context) k in
    ap (λ e. made_site e (spec.type_names (types_of p.context)) M W) (env_seen p) ∙ ap (λ t. made_site (fixed p.context) t M W) (names_seen p.context)

pub none_by : {V W : Type 0} (view : V → W) → seen_by view [] ≡ []
unfolding seen_by
none_by view = refl

pub ruleset nothing = (none_by)

pub ruleset views = (new_by, added_new, added_old, defined_by)

pub ruleset names = (names_seen)

pub ruleset lengths = (length_by)

pub ruleset finds = (found_by)

pub ruleset bodies = (names_seen, env_seen)

pub ruleset sites = (site_seen)
