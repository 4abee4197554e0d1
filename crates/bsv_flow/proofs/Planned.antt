-- What the files hold has one tree, with one schedule, or no program.
use Rattle.std.proofs.Common.{◌≡◌, ℕ, Bool, true, false, List, Option, Result, Ok, Err, refl, sym, subst, ap, ◌∙◌}
use Rattle.std.specs.Prelude.{IfOk}
use Rattle.bsv_types.specs.declared.typed.Typed.{Typed}
use Rattle.bsv_check.specs.Rightness.{is_in_order}
use Rattle.bsv_design.specs.declared.schedule.Schedule.{Schedule}
use Rattle.bsv_tree.specs.meaning.Schemes.{tree_scheme}
use Rattle.bsv_tree.specs.tree.Trees.{TreeData}
use Rattle.bsv_attr.specs.Obeying.{Obeys}
use Rattle.bsv_flow.specs.declared.loading.Loaded.{Loaded}
use Rattle.bsv_flow.specs.declared.refusal.CompileFault.{CompileFault}
use Rattle.bsv_flow.specs.declared.refusal.Refusal.{Refusal}
use Rattle.bsv_flow.specs.declared.scheduling.Compiled.{Compiled}
use Rattle.bsv_flow.specs.Buildings.{tree_of, IsProgram, IsBuilt, Rejects}
use Rattle.bsv_flow.specs.Compilings.{IsScheduledAs, CompilesTo, Declines, IsPlanned, IsCompiled}
use Rattle.bsv_flow.specs.Loads.{IsLoaded}
use Rattle.bsv_flow.specs.Schedulings.{subject, IsScheduled, IsCompiledOf}
use Rattle.bsv_flow.specs.Typings.{IsUntyped}
use Rattle.bsv_flow.proofs.Decided as loading
use Rattle.bsv_flow.proofs.OneSchedule.{one_schedule}
use Rattle.bsv_flow.proofs.Programs.{one_program, program_at}
use Rattle.bsv_flow.proofs.Trees.{apart, built_as, in_order}

-- ---- of what was loaded

pub compiles : (l : Loaded) (program : Typed) (top : List ℕ) (tree : TreeData) (c : Compiled) → IsProgram l program → tree_of program top ≡ Ok tree
    → IsScheduled (subject tree) c.schedule → IsCompiledOf tree c → Obeys (tree_scheme tree) c.schedule → CompilesTo l top c
compiles l program top tree c typed built scheduled design obeys = record {
  tree = tree;
  made = record { program = program; typed = typed; built = built; scheduled = scheduled };
  design = design;
  obeys = obeys;
}

same_tree : {s t : TreeData} → ◌≡◌ {A = Result TreeData (Option Refusal)} (Ok s) (Ok t) → s ≡ t
same_tree e = cc

one_tree : (l : Loaded) (top : List ℕ) (t u : TreeData) (made other : Schedule) → IsScheduledAs l top t made → IsScheduledAs l top u other → t ≡ u
one_tree l top t u made other one two =
    same_tree (sym one.built ∙ ap (λ (p : Typed). tree_of p top) (one_program l one.program two.program one.typed two.typed) ∙ two.built)

one_made : (l : Loaded) (top : List ℕ) (t u : TreeData) (made other : Schedule) → IsScheduledAs l top t made → IsScheduledAs l top u other → made ≡ other
one_made l top t u made other one two =
    one_schedule (subject u) made other
    (subst (λ (h : TreeData). IsScheduled (subject h) made) (one_tree l top t u made other one two) one.scheduled) two.scheduled

-- ---- of the files

module _ (first : List ℕ) (contents : List ℕ → List ℕ) (top : List ℕ) where
  plan_of : (l : Loaded) (t : TreeData) (made : Schedule) → IsLoaded first contents l → (p : IsPlanned first contents top t made) → IsScheduledAs l top t made
  plan_of l t made files p =
      subst (λ (m : Loaded). IsScheduledAs m top t made) (loading.same first contents p.loaded l p.files files) p.planned

  pub one_tree_planned : (t u : TreeData) (made other : Schedule) → IsPlanned first contents top t made → IsPlanned first contents top u other → t ≡ u
  one_tree_planned t u made other one two = one_tree two.loaded top t u made other (plan_of two.loaded t made two.files one) two.planned

  pub one_made_planned : (t u : TreeData) (made other : Schedule) → IsPlanned first contents top t made → IsPlanned first contents top u other → made ≡ other
  one_made_planned t u made other one two = one_made two.loaded top t u made other (plan_of two.loaded t made two.files one) two.planned

  -- what is planned is not refused
  pub planned_built : (t : TreeData) (made : Schedule) (p : IsPlanned first contents top t made) → IsBuilt first contents top p.loaded
  planned_built t made p = built_as first contents top p.loaded p.planned.program t p.files p.planned.typed p.planned.built made p.planned.scheduled

  pub planned_apart : (t : TreeData) (made : Schedule) (r : Refusal) → IsPlanned first contents top t made → Rejects first contents top r → ⊥
  planned_apart t made r p = apart first contents top p.loaded r (planned_built t made p)

  -- what refuses what was loaded refuses the files
  pub declined : (l : Loaded) (r : Refusal) → IsLoaded first contents l → Declines l top r → Rejects first contents top r
  declined l r files (Declines.typing is) = Rejects.untyped (IsUntyped.typing l files is)
  declined l r files (Declines.building program typed is) = Rejects.building l program files typed is
  declined l r files (Declines.scheduling program tree typed built refused) = Rejects.scheduling l program tree files typed built refused

  -- ---- what is built is planned, but for what is typed as no program

  pub data Plans (l : Loaded) : Type 0 where
    planned : (t : TreeData) (made : Schedule) → IsPlanned first contents top t made → Plans l
    none : ((program : Typed) → IsProgram l program → ⊥) → Plans l

  plans_as : (l : Loaded) → IsBuilt first contents top l → (program : Typed) → IsProgram l program → Plans l
  plans_as l built program is =
      let has = built.built program is in
      planned has.tree has.made (record {
        loaded = l;
        files = built.typed.loaded;
        planned = record { program = program; typed = is; built = has.built; scheduled = has.scheduled };
      })

  plans_by : (l : Loaded) (built : IsBuilt first contents top l) (b : Bool) → is_in_order built.typed.made ≡ b → Plans l
  plans_by l built true right =
      let found = program_at l built.typed.made built.typed.typed right in
      plans_as l built found.0 found.1
  plans_by l built false wrong =
      none (λ program is.
      let right : is_in_order built.typed.made ≡ true = in_order first contents top l built.typed.made program built.typed.typed is in
      let e = sym wrong ∙ right in
      let no_value : ⊥ = cc in no_value)

  pub plans : (l : Loaded) → IsBuilt first contents top l → Plans l
  plans l built = plans_by l built (is_in_order built.typed.made) refl

-- what is compiled is planned
pub compiled_planned : (first : List ℕ) (contents : List ℕ → List ℕ) (top : List ℕ) (c : Compiled) (x : IsCompiled first contents top c)
    → IsPlanned first contents top x.compiled.tree c.schedule
compiled_planned first contents top c x = record { loaded = x.loaded; files = x.files; planned = x.compiled.made }

-- what is compiled is built
pub compiled_built : (first : List ℕ) (contents : List ℕ → List ℕ) (top : List ℕ) (l : Loaded) (c : Compiled) → IsLoaded first contents l → CompilesTo l top c
    → IsBuilt first contents top l
compiled_built first contents top l c files x = planned_built first contents top x.tree c.schedule (record { loaded = l; files = files; planned = x.made })

-- ---- of what a call gives

pub all_compiled : (l : Loaded) (program : Typed) (top : List ℕ) (tree : TreeData) (given : Result Compiled CompileFault) → IsProgram l program
    → tree_of program top ≡ Ok tree → IfOk given (λ c. IsCompiledOf tree c) → IfOk given (λ c. IsScheduled (subject tree) c.schedule)
    → IfOk given (λ c. Obeys (tree_scheme tree) c.schedule) → IfOk given (λ c. CompilesTo l top c)
all_compiled l program top tree (Ok c) typed built design scheduled obeys = compiles l program top tree c typed built scheduled design obeys
all_compiled l program top tree (Err e) typed built design scheduled obeys = tt

pub all_planned : (first top : List ℕ) (l : Loaded) (Told : (List ℕ → List ℕ) → Type 0) (given : Result Compiled CompileFault)
    → ((contents : List ℕ → List ℕ) → Told contents → IsLoaded first contents l) → IfOk given (λ c. CompilesTo l top c)
    → IfOk given (λ c. (contents : List ℕ → List ℕ) → Told contents → IsCompiled first contents top c)
all_planned first top l Told (Ok c) files x = λ contents told. record { loaded = l; files = files contents told; compiled = x }
all_planned first top l Told (Err e) files x = tt
