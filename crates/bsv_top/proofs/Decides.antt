-- What the files decide.
use Rattle.std.proofs.Common.{◌≡◌, inl, inr, ℕ, List, subst}
use Rattle.bsv_design.specs.declared.schedule.Schedule.{Schedule}
use Rattle.bsv_tree.specs.tree.Trees.{TreeData}
use Rattle.bsv_flow.specs.declared.loading.Loaded.{Loaded}
use Rattle.bsv_flow.specs.declared.refusal.Refusal.{Refusal}
use Rattle.bsv_flow.specs.Buildings.{IsProgram, IsBuilt, Rejects}
use Rattle.bsv_flow.specs.Compilings.{IsPlanned}
use Rattle.bsv_flow.proofs.Planned.{Plans, plans, planned_built}
use Rattle.bsv_flow.proofs.Trees as trees
use Rattle.bsv_top.specs.Answers.{IsNoProgram}

module _ (file top : List ℕ) (contents : List ℕ → List ℕ) where
  -- one of three
  pub data Decides : Type 0 where
    refused : (r : Refusal) → Rejects file contents top r → Decides
    no_program : (l : Loaded) → IsBuilt file contents top l → IsNoProgram l → Decides
    planned : (tree : TreeData) (made : Schedule) → IsPlanned file contents top tree made → Decides

  decide_built : (l : Loaded) → IsBuilt file contents top l → Decides
  decide_built l built = elim (plans file contents top l built) [
    | Plans.planned tree made p ↦ planned tree made p
    | Plans.none n ↦ no_program l built n
  ]

  pub decide : Decides
  decide = elim (trees.some file contents top) [
    | inl loaded ↦ decide_built loaded.0 loaded.1
    | inr refusal ↦ refused refusal.0 refusal.1
  ]

  -- what is refused is not planned
  pub not_refused : (r : Refusal) → Rejects file contents top r → (tree : TreeData) (made : Schedule) → IsPlanned file contents top tree made → ⊥
  not_refused r refusal tree made p = trees.apart file contents top p.loaded r (planned_built file contents top tree made p) refusal

  -- nor what is typed as no program
  pub not_other : (l : Loaded) → IsBuilt file contents top l → IsNoProgram l → (tree : TreeData) (made : Schedule) → IsPlanned file contents top tree made → ⊥
  not_other l built none tree made p =
      let same : p.loaded ≡ l = trees.same file contents top p.loaded l (planned_built file contents top tree made p) built in
      none p.planned.program (subst (λ (x : Loaded). IsProgram x p.planned.program) same p.planned.typed)
