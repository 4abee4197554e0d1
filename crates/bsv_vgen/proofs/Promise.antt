-- What is promised of the module of a design and of its net.
use Rattle.std.proofs.Common.{◌≡◌, ◌∙◌, ℕ, ◌<◌, ◌^◌, Bool, true, IsTrue, List, length, map, sym, ap, subst, arith}
use Rattle.std.specs.Prelude.{nat_lt}
use Rattle.std.proofs.Math.Bridge.{le_prop}
use Rattle.std.proofs.Math.Logic.{∥∥₁_elim, ∥∥₁_prop}
use Rattle.std.proofs.Math.Nat.{ℕ_set}
use Rattle.std.proofs.lemmas.Bool.{ltb-true}
use Rattle.bsv_bits.specs.Words.{Bits}
use Rattle.bsv_prim.specs.Table.{IsWordOf}
use Rattle.bsv_design.specs.declared.design.Design.{Design}
use Rattle.bsv_design.specs.declared.kind.Kind.{Kind}
use Rattle.bsv_design.specs.declared.schedule.Schedule.{Schedule}
use Rattle.bsv_design.specs.design.Designs.{DesignData, IsDesign}
use Rattle.bsv_design.specs.scheme.Schemes.{Scheme, AreAlike, Outline, design_scheme, kinds_of, outline}
use Rattle.bsv_design.specs.scheme.Seen.{design_data}
use Rattle.bsv_design.specs.scheme.States.{methods_in}
use Rattle.bsv_clock.specs.Shows as carrying
use Rattle.bsv_clock.specs.Shows.{cells_of, input_widths, input_widths_of}
use Rattle.bsv_clock.specs.Grounds.{IsLawful, IsScheduleOf}
use Rattle.bsv_net.specs.declared.net_data.NetData.{NetData}
use Rattle.bsv_net.specs.declared.net.Net.{Net}
use Rattle.bsv_net.specs.AtHand.{net_data}
use Rattle.bsv_net.specs.Nets.{IsNet}
use Rattle.bsv_net.specs.ShowsByNet.{WordsCarry, WordsIgnore}
use Rattle.bsv_vtext.specs.declared.tree.Assign.{Assign}
use Rattle.bsv_vtext.specs.declared.tree.Atom.{Atom}
use Rattle.bsv_vtext.specs.declared.tree.VMethod.{VMethod}
use Rattle.bsv_vtext.specs.declared.tree.VRegister.{VRegister}
use Rattle.bsv_vtext.specs.declared.tree.VWire.{VWire}
use Rattle.bsv_vtext.specs.Modules.{IsModule}
use Rattle.bsv_vtext.specs.Signals.{VModuleData}
use Rattle.bsv_vgen.specs.ShowsByModule.{ModuleCarries, ModuleIgnores}
use Rattle.bsv_vgen.specs.Interfaces.{HasResultWidths, IsModuleOf, cell}
use Rattle.bsv_vgen.specs.Modules.{lines, module_of, results_fit}
use Rattle.bsv_vgen.specs.Resetting.{BeginsOpen, Resets}
use Rattle.bsv_vgen.specs.Runs.{RunsAs, RunsUnasked}
use Rattle.bsv_vgen.proofs.Carried.{carries, ignores}
use Rattle.bsv_vgen.proofs.ModuleRuns.{runs_as, runs_unasked}
use Rattle.bsv_vgen.proofs.ResultWidths.{port_width}
use Rattle.bsv_vgen.proofs.Registers.{begins_open, resets}
use Rattle.bsv_vgen.proofs.Whole as whole

word_prop : (u : ℕ) (w : Bits) → IsProp (IsWordOf u w)
word_prop u w = hlevel (le_prop, ℕ_set)

module _ (d : Design) (n : Net) (v : VModuleData) (is : v ≡ module_of (design_data d) (net_data n))
    (registers : map carrying.cell n.registers ≡ cells_of (kinds_of (design_data d))) (inputs : n.inputs ≡ input_widths (design_scheme (design_data d))) where
  abbrev b : DesignData
  b = design_data d

  abbrev c : NetData
  c = net_data n

  widths : c.inputs ≡ input_widths_of (map outline b.elements)
  unfolding input_widths design_scheme
  widths = inputs

  same : whole.m b c registers widths ≡ v
  unfolding module_of
  same = sym is

  few : (k : ℕ) → nat_lt k (2 ^ 32) ≡ true → k < 2 ^ 64
  few k e = let l = ltb-true k (2 ^ 32) e in omega (arith, l)

  pub is_module : IsTrue (nat_lt (length v.registers) (2 ^ 32)) → IsTrue (nat_lt (length v.wires) (2 ^ 32)) → ∥ IsModule v ∥₁
  is_module few_registers few_wires =
      ∥∥₁_elim d.right ∥∥₁_prop (λ (design : IsDesign b).
      ∥∥₁_elim n.right ∥∥₁_prop (λ (right : IsNet c).
      ∣ subst IsModule same (whole.is_module b c registers widths right design
      (few (length (whole.m b c registers widths).registers) (ap (λ (x : VModuleData). nat_lt (length x.registers) (2 ^ 32)) same ∙ few_registers))
      (few (length (whole.m b c registers widths).wires) (ap (λ (x : VModuleData). nat_lt (length x.wires) (2 ^ 32)) same ∙ few_wires))) ∣₁))

  pub is_its_module : IsModuleOf d.name d.parts (map outline d.elements) v
  is_its_module = subst (IsModuleOf d.name d.parts (map outline d.elements)) same (whole.is_its_module b c registers widths d.right)

  pub carries_too : (aggressive : Bool) (S : Scheme) (made : Schedule) → AreAlike S (design_scheme b) → IsLawful S → IsScheduleOf S made
      → WordsCarry aggressive S made n → ModuleCarries aggressive S made v
  carries_too aggressive S made alike lawful scheduled net_carries =
      subst (ModuleCarries aggressive S made) same
      (carries b d.right n (whole.m b c registers widths) (whole.computes b c registers widths d.right n.right) (whole.methods_count b c registers widths)
      aggressive S made alike lawful scheduled net_carries)

  pub ignores_too : (aggressive : Bool) (S : Scheme) (made : Schedule) → AreAlike S (design_scheme b) → IsLawful S → IsScheduleOf S made
      → WordsCarry aggressive S made n → WordsIgnore aggressive S made n → ModuleIgnores aggressive S made v
  ignores_too aggressive S made alike lawful scheduled net_carries net_ignores =
      subst (ModuleIgnores aggressive S made) same
      (ignores b d.right n (whole.m b c registers widths) (whole.computes b c registers widths d.right n.right) (whole.methods_count b c registers widths)
      aggressive S made alike lawful scheduled net_carries net_ignores)

  pub result_widths : results_fit (lines b c).known c (kinds_of b) 0 (methods_in b.elements) ≡ true → (S : Scheme) → AreAlike S (design_scheme b) → HasResultWidths S v
  unfolding module_of
  result_widths fit S alike =
      subst (HasResultWidths S) (sym is)
      (λ k m u at_k port q look w requests looks gave.
      ∥∥₁_elim d.right (word_prop u w) (λ (right : IsDesign b). port_width b right (lines b c).known c fit S alike k m u at_k port q look w requests looks gave))

  cells_are : map cell v.registers ≡ cells_of (kinds_of b)
  cells_are = is_its_module.cells

  pub begins : BeginsOpen (kinds_of b) v
  begins = begins_open (kinds_of b) v cells_are

  pub resets_too : Resets (kinds_of b) v
  resets_too = resets (kinds_of b) v cells_are

  elements_are : (S : Scheme) → AreAlike S (design_scheme b) → S.elements ≡ map outline b.elements
  unfolding design_scheme
  elements_are S alike = alike.elements

  kinds_are : (S : Scheme) → AreAlike S (design_scheme b) → S.kinds ≡ kinds_of b
  unfolding design_scheme
  kinds_are S alike = alike.kinds

  pub runs_too : ∥ IsModule v ∥₁ → (aggressive : Bool) (S : Scheme) (made : Schedule) → AreAlike S (design_scheme b) → IsLawful S → IsScheduleOf S made
      → WordsCarry aggressive S made n → RunsAs aggressive S made v
  runs_too right aggressive S made alike lawful scheduled net_carries =
      let own : IsModuleOf d.name d.parts S.elements v = subst (λ (os : List Outline). IsModuleOf d.name d.parts os v) (sym (elements_are S alike)) is_its_module in
      runs_as S v own.methods own.no_more aggressive made lawful right (cells_are ∙ ap cells_of (sym (kinds_are S alike)))
      (carries_too aggressive S made alike lawful scheduled net_carries)
      (subst (λ (ks : List Kind). BeginsOpen ks v) (sym (kinds_are S alike)) begins)

  pub unasked_too : ∥ IsModule v ∥₁ → (aggressive : Bool) (S : Scheme) (made : Schedule) → AreAlike S (design_scheme b) → IsLawful S → IsScheduleOf S made
      → WordsCarry aggressive S made n → WordsIgnore aggressive S made n → RunsUnasked aggressive S made v
  unasked_too right aggressive S made alike lawful scheduled net_carries net_ignores =
      let own : IsModuleOf d.name d.parts S.elements v = subst (λ (os : List Outline). IsModuleOf d.name d.parts os v) (sym (elements_are S alike)) is_its_module in
      runs_unasked S v own.methods own.no_more aggressive made lawful right (cells_are ∙ ap cells_of (sym (kinds_are S alike)))
      (carries_too aggressive S made alike lawful scheduled net_carries)
      (subst (λ (ks : List Kind). BeginsOpen ks v) (sym (kinds_are S alike)) begins)
      (ignores_too aggressive S made alike lawful scheduled net_carries net_ignores)

-- modules of the same parts
abbrev of_parts : List ℕ → List VMethod → List VRegister → List VWire → List Assign → List Atom → VModuleData
of_parts name methods registers wires assigns nexts =
    record { name = name; methods = methods; registers = registers; wires = wires; assigns = assigns; nexts = nexts }
