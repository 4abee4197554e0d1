-- What the contents of the files decide is built or refused.
use Rattle.std.proofs.Common.{◌≡◌, ℕ, ◌⊎◌, inl, inr, Bool, true, false, IsTrue, List, Option, Some, None, Result, Ok, Err, refl, sym, subst, ap, ◌∙◌}
use Rattle.bsv_fail.specs.Given.{over}
use Rattle.bsv_types.specs.declared.modules.Module.{Module}
use Rattle.bsv_types.specs.declared.typed.Typed.{Typed}
use Rattle.bsv_check.specs.Checked.{ProgramParts}
use Rattle.bsv_check.specs.Rightness.{is_in_order}
use Rattle.bsv_check.specs.Seen.{typed_seen}
use Rattle.bsv_design.specs.declared.schedule.Schedule.{Schedule}
use Rattle.bsv_tree.specs.tree.Trees.{TreeData}
use Rattle.bsv_tree.specs.declared.values.Fault.TheVariants as carry
use Rattle.bsv_elab.specs.declared.refused.Refused.{Refused}
use Rattle.bsv_elab.specs.declared.refused.Refused.TheVariants as met
use Rattle.bsv_elab.specs.Building as elaboration
use Rattle.bsv_elab.specs.Told.{told_as, Builds}
use Rattle.bsv_flow.specs.declared.loading.Loaded.{Loaded}
use Rattle.bsv_flow.specs.declared.refusal.Refusal.{Refusal}
use Rattle.bsv_flow.specs.Buildings.{refusal_of, tree_of, HasDesign, IsProgram, IsBuilt, Rejects}
use Rattle.bsv_flow.specs.Loads.{IsLoaded}
use Rattle.bsv_flow.specs.OneAnswer.{IsSameRefusal}
use Rattle.bsv_flow.specs.Schedulings.{subject, IsScheduled, Unscheduled}
use Rattle.bsv_flow.specs.Typings.{typing_of, IsTyped}
use Rattle.bsv_flow.proofs.Decided as loading
use Rattle.bsv_flow.proofs.Outcomes as typing
use Rattle.bsv_flow.proofs.OneRefusal.{of_typing}
use Rattle.bsv_flow.proofs.OneSchedule.{decided, not_both as scheduled_or_not, one_unscheduled}
use Rattle.bsv_flow.proofs.Programs.{made_is, one_program, program_at}

-- ---- what building answers, as a refusal

pub built_at : (program : Typed) (name top : List ℕ) (t : TreeData) → name ≡ top → Builds program name ≡ Ok t → tree_of program top ≡ Ok t
built_at program name top t same is = subst (λ (n : List ℕ). tree_of program n ≡ Ok t) same (ap (over refusal_of) is)

-- what refuses is told as a refusal
is_told : (top : List ℕ) (ms : List Module) (r : Refused) → refusal_of (told_as top ms r) ≡ None → ⊥
is_told top ms met.NoSuchModule e = cc
is_told top ms (met.Carried (carry.Static number)) e = cc
is_told top ms (met.Carried (carry.Loop number)) e = cc
is_told top ms (met.Carried carry.Calls) e = cc
is_told top ms (met.Carried carry.Weight) e = cc
is_told top ms (met.Recursion number) e = cc
is_told top ms (met.NameTaken path) e = cc
is_told top ms (met.Limit kind most) e = cc
is_told top ms (met.NoSuchRule attribute name) e = cc

same_told : (o other : Option Refusal) → ◌≡◌ {A = Result TreeData (Option Refusal)} (Err o) (Err other) → o ≡ other
same_told o other e = cc

told_whole : (top : List ℕ) (ms : List Module) (given : Result TreeData Refused) → over refusal_of (over (told_as top ms) given) ≡ Err None → ⊥
told_whole top ms (Ok t) e = cc
told_whole top ms (Err r) e = is_told top ms r (same_told (refusal_of (told_as top ms r)) None e)

-- ---- what is built or refused

module _ (first : List ℕ) (contents : List ℕ → List ℕ) (top : List ℕ) where
  pub same : (l m : Loaded) → IsBuilt first contents top l → IsBuilt first contents top m → l ≡ m
  same l m one two = typing.same first contents l m one.typed two.typed

  not_both : (given : Result TreeData (Option Refusal)) (t : TreeData) (r : Refusal) → given ≡ Ok t → given ≡ Err (Some r) → ⊥
  not_both given t r one two = let e = sym one ∙ two in let no_value : ⊥ = cc in no_value

  same_tree : {s t : TreeData} → ◌≡◌ {A = Result TreeData (Option Refusal)} (Ok s) (Ok t) → s ≡ t
  same_tree e = cc

  same_refused : (s t : TreeData) (r : Refusal) → s ≡ t → Unscheduled s r → Unscheduled t r
  same_refused s t r e u = subst (λ (h : TreeData). Unscheduled h r) e u

  pub apart : (l : Loaded) (r : Refusal) → IsBuilt first contents top l → Rejects first contents top r → ⊥
  apart l r built (Rejects.untyped refused) = typing.apart first contents l r built.typed refused
  apart l r built (Rejects.building m program loaded is refused) =
      let same_loaded : m ≡ l = loading.same first contents m l loaded built.typed.loaded in
      let has = built.built program (subst (λ (x : Loaded). IsProgram x program) same_loaded is) in
      not_both (tree_of program top) has.tree r has.built refused
  apart l r built (Rejects.scheduling m program tree loaded is made refused) =
      let same_loaded : m ≡ l = loading.same first contents m l loaded built.typed.loaded in
      let has = built.built program (subst (λ (x : Loaded). IsProgram x program) same_loaded is) in
      let one = same_tree (sym made ∙ has.built) in
      scheduled_or_not has.tree has.made r has.scheduled (same_refused tree has.tree r one refused)

  -- what is typed as a program is typed
  typed_as : (l : Loaded) (program : Typed) → IsLoaded first contents l → IsProgram l program → IsTyped first contents l
  typed_as l program loaded is = record { loaded = loaded; made = typed_seen program; typed = is }

  abbrev Outcome : Type 0
  Outcome = ((l : Loaded) × IsBuilt first contents top l) ⊎ ((r : Refusal) × Rejects first contents top r)

  -- what has a design as one program is built
  pub built_as : (l : Loaded) (program : Typed) (t : TreeData) → IsLoaded first contents l → IsProgram l program → tree_of program top ≡ Ok t
      → (made : Schedule) → IsScheduled (subject t) made → IsBuilt first contents top l
  built_as l program t loaded is built made scheduled =
      record {
        typed = typed_as l program loaded is;
        built = λ other also. subst (λ (p : Typed). HasDesign p top) (one_program l program other is also)
            (record { tree = t; built = built; made = made; scheduled = scheduled });
      }

  by_schedule : (l : Loaded) → IsLoaded first contents l → (program : Typed) → IsProgram l program → (t : TreeData) → tree_of program top ≡ Ok t → Outcome
  by_schedule l loaded program is t built =
      elim (decided t) [
        | inl found ↦ inl (l, built_as l program t loaded is built found.0 found.1)
        | inr refused ↦ inr (refused.0, Rejects.scheduling l program t loaded is built refused.1)
      ]

  by_tree : (l : Loaded) → IsLoaded first contents l → (program : Typed) → IsProgram l program → (given : Result TreeData (Option Refusal)) → tree_of program top ≡ given → Outcome
  by_tree l loaded program is (Ok t) built = by_schedule l loaded program is t built
  by_tree l loaded program is (Err (Some r)) built = inr (r, Rejects.building l program loaded is built)
  by_tree l loaded program is (Err None) built = absurd (told_whole top program.modules (elaboration.building program top) built)

  -- a program is in order
  pub in_order : (l : Loaded) (made : ProgramParts) (program : Typed) → typing_of l ≡ Ok made → IsProgram l program → IsTrue (is_in_order made)
  in_order l made program is also =
      subst (λ (m : ProgramParts). IsTrue (is_in_order m)) (made_is (typed_seen program) made (sym also ∙ is)) program.right

  by_order : (l : Loaded) (typed : IsTyped first contents l) (b : Bool) → is_in_order typed.made ≡ b → Outcome
  by_order l typed true right =
      let found = program_at l typed.made typed.typed right in
      by_tree l typed.loaded found.0 found.1 (tree_of found.0 top) refl
  by_order l typed false wrong =
      inl (
        l,
        record {
          typed = typed;
          built = λ program is.
              let right : is_in_order typed.made ≡ true = in_order l typed.made program typed.typed is in
              let e = sym wrong ∙ right in
              absurd (let no_value : ⊥ = cc in no_value);
        },
      )

  pub some : ((l : Loaded) × IsBuilt first contents top l) ⊎ ((r : Refusal) × Rejects first contents top r)
  some =
      elim (typing.some first contents) [
        | inl found ↦ by_order found.0 found.1 (is_in_order found.1.made) refl
        | inr refused ↦ inr (refused.0, Rejects.untyped refused.1)
      ]

  same_refusal : (r s : Refusal) → ◌≡◌ {A = Option Refusal} (Some r) (Some s) → IsSameRefusal r s
  same_refusal r s e = let same : r ≡ s = cc in subst (λ (t : Refusal). IsSameRefusal r t) same IsSameRefusal.equal

  program_same : (l m : Loaded) (program other : Typed) → IsLoaded first contents l → IsLoaded first contents m → IsProgram l program → IsProgram m other → program ≡ other
  program_same l m program other loaded also is too =
      let same_loaded : m ≡ l = loading.same first contents m l also loaded in
      one_program l program other is (subst (λ (x : Loaded). IsProgram x other) same_loaded too)

  pub of_building : (r s : Refusal) → Rejects first contents top r → Rejects first contents top s → IsSameRefusal r s
  of_building r s (Rejects.untyped one) (Rejects.untyped other) = of_typing first contents r s one other
  of_building r s (Rejects.untyped one) (Rejects.building m program loaded is refused) =
      absurd (typing.apart first contents m r (typed_as m program loaded is) one)
  of_building r s (Rejects.building l program loaded is refused) (Rejects.untyped other) =
      absurd (typing.apart first contents l s (typed_as l program loaded is) other)
  of_building r s (Rejects.building l program loaded is refused) (Rejects.building m other also too more) =
      let same_loaded : m ≡ l = loading.same first contents m l also loaded in
      let one : program ≡ other = one_program l program other is (subst (λ (x : Loaded). IsProgram x other) same_loaded too) in
      same_refusal r s (same_told (Some r) (Some s) (sym refused ∙ ap (λ (p : Typed). tree_of p top) one ∙ more))
  of_building r s (Rejects.scheduling m program tree loaded is made tells) (Rejects.untyped other) =
      absurd (typing.apart first contents m s (typed_as m program loaded is) other)
  of_building r s (Rejects.untyped one) (Rejects.scheduling m program tree loaded is made tells) =
      absurd (typing.apart first contents m r (typed_as m program loaded is) one)
  of_building r s (Rejects.scheduling l program tree loaded is made tells) (Rejects.building m other also too refused) =
      let e = program_same l m program other loaded also is too in
      absurd (not_both (tree_of other top) tree s (sym (ap (λ (p : Typed). tree_of p top) e) ∙ made) refused)
  of_building r s (Rejects.building l program loaded is refused) (Rejects.scheduling m other tree also too made tells) =
      let e = program_same l m program other loaded also is too in
      absurd (not_both (tree_of other top) tree r made (sym (ap (λ (p : Typed). tree_of p top) e) ∙ refused))
  of_building r s (Rejects.scheduling l program tree loaded is made tells) (Rejects.scheduling m other wood also too more told) =
      let e = program_same l m program other loaded also is too in
      let one : tree ≡ wood = same_tree (sym made ∙ ap (λ (p : Typed). tree_of p top) e ∙ more) in
      let same : r ≡ s = one_unscheduled wood r s (same_refused tree wood r one tells) told in
      subst (λ (t : Refusal). IsSameRefusal r t) same IsSameRefusal.equal
