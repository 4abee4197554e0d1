-- The module of a design is that of the tree from which the design was made.
use Rattle.std.proofs.Common.{◌≡◌, Bool, false, List, map, Some, sym, subst}
use Rattle.bsv_design.specs.declared.design.Design.{Design}
use Rattle.bsv_design.specs.declared.design.NamedPart.{NamedPart}
use Rattle.bsv_design.specs.declared.kind.Kind.{Kind}
use Rattle.bsv_design.specs.declared.schedule.Schedule.{Schedule}
use Rattle.bsv_design.specs.scheme.Schemes.{Scheme, Outline, AreAlike, design_scheme, kinds_of, outline}
use Rattle.bsv_tree.specs.meaning.Schemes.{tree_scheme}
use Rattle.bsv_design.specs.scheme.Seen.{design_data}
use Rattle.bsv_tree.specs.tree.Elements.{parts_among}
use Rattle.bsv_tree.specs.tree.Trees.{TreeData}
use Rattle.bsv_guard.proofs.Alike.{alike_back}
use Rattle.bsv_inline.specs.Flattening.{top_name}
use Rattle.bsv_attr.specs.Obeying.{Obeys}
use Rattle.bsv_clock.specs.Shows.{cell, cells_of}
use Rattle.bsv_clock.specs.Grounds.{IsLawful, IsScheduleOf, KeepsRules}
use Rattle.bsv_clock.proofs.Belonging as belonging
use Rattle.bsv_net.specs.declared.net.Net.{Net}
use Rattle.bsv_net.specs.ShowsByNet.{NetCarries, WordsCarry, WordsIgnore}
use Rattle.bsv_net.proofs.Hardware.{net_carried_to}
use Rattle.bsv_vtext.specs.declared.modules.VModule.{VModule}
use Rattle.bsv_vtext.specs.AtHand.{module_data}
use Rattle.bsv_vgen.specs.ShowsByModule.{ModuleCarries, ModuleIgnores}
use Rattle.bsv_vgen.specs.Interfaces.{HasResultWidths, IsModuleOf}
use Rattle.bsv_vgen.specs.Resetting.{BeginsOpen, Resets}
use Rattle.bsv_vgen.specs.Runs.{RunsAs, RunsUnasked}
use Rattle.bsv_flow.specs.Schedulings.{IsVerilogOf}
use Rattle.bsv_flow.proofs.WellClocked.{well_clocked}

-- a net that carries a design has its registers and its inputs
pub registers_there : (d : Design) (made : Schedule) (n : Net) → NetCarries false (design_scheme (design_data d)) made n
    → map cell n.registers ≡ cells_of (kinds_of (design_data d))
unfolding design_scheme
registers_there d made n carries = carries.words.registers

module _ (h : TreeData) (d : Design) (made : Schedule) (n : Net) (v : VModule) (alike : AreAlike (tree_scheme h) (design_scheme (design_data d))) where
  abbrev S : Scheme
  S = tree_scheme h

  abbrev T : Scheme
  T = design_scheme (design_data d)

  elements_same : map outline d.elements ≡ S.elements
  unfolding design_scheme
  elements_same = sym alike.elements

  kinds_same : kinds_of (design_data d) ≡ S.kinds
  unfolding design_scheme
  kinds_same = sym alike.kinds

  back : AreAlike T S
  back = alike_back S T alike

  lawful : KeepsRules T → IsLawful S
  lawful rules = belonging.lawful_alike T S back (belonging.lawful_design d rules)

  scheduled : IsScheduleOf T made → IsScheduleOf S made
  scheduled there = belonging.schedule_alike T S back made there

  net_carries : NetCarries false T made n → NetCarries false S made n
  net_carries net = net_carried_to false S T made n alike net

  pub verilog_there : top_name h ≡ Some d.name → d.parts ≡ parts_among h.instances → KeepsRules T → IsScheduleOf T made → Obeys S made → NetCarries false T made n
      → IsModuleOf d.name d.parts (map outline d.elements) (module_data v)
      → ((S : Scheme) → AreAlike S T → HasResultWidths S (module_data v))
      → ((aggressive : Bool) (S : Scheme) (made_by : Schedule) → AreAlike S T → IsLawful S → IsScheduleOf S made_by → WordsCarry aggressive S made_by n
      → ModuleCarries aggressive S made_by (module_data v))
      → ((aggressive : Bool) (S : Scheme) (made_by : Schedule) → AreAlike S T → IsLawful S → IsScheduleOf S made_by → WordsCarry aggressive S made_by n
      → WordsIgnore aggressive S made_by n → ModuleIgnores aggressive S made_by (module_data v))
      → ((aggressive : Bool) (S : Scheme) (made_by : Schedule) → AreAlike S T → IsLawful S → IsScheduleOf S made_by → WordsCarry aggressive S made_by n
      → RunsAs aggressive S made_by (module_data v))
      → ((aggressive : Bool) (S : Scheme) (made_by : Schedule) → AreAlike S T → IsLawful S → IsScheduleOf S made_by → WordsCarry aggressive S made_by n
      → WordsIgnore aggressive S made_by n → RunsUnasked aggressive S made_by (module_data v))
      → BeginsOpen (kinds_of (design_data d)) (module_data v) → Resets (kinds_of (design_data d)) (module_data v) → IsVerilogOf h made (module_data v)
  verilog_there name parts rules there obeys net is results carries ignores runs unasked begins resets = record {
    right = v.right;
    name = d.name;
    top = name;
    is = subst (λ (ps : List NamedPart). IsModuleOf d.name ps S.elements (module_data v)) parts
        (subst (λ (os : List Outline). IsModuleOf d.name d.parts os (module_data v)) elements_same is);
    results = results S alike;
    clocked = well_clocked S made (lawful rules) (scheduled there) obeys;
    carries = carries false S made alike (lawful rules) (scheduled there) (net_carries net).words;
    ignores = ignores false S made alike (lawful rules) (scheduled there) (net_carries net).words (net_carries net).unasked;
    runs = runs false S made alike (lawful rules) (scheduled there) (net_carries net).words;
    unasked = unasked false S made alike (lawful rules) (scheduled there) (net_carries net).words (net_carries net).unasked;
    begins = subst (λ (ks : List Kind). BeginsOpen ks (module_data v)) kinds_same begins;
    resets = subst (λ (ks : List Kind). Resets ks (module_data v)) kinds_same resets;
  }
