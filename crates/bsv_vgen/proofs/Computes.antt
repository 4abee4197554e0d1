-- A module that computes what a net does: where its inputs have the words of the net's inputs, and its registers those of the
-- net's registers, it tells the words of the net's nodes.
use Rattle.std.proofs.Common.{◌≡◌, ℕ, Bool, true, false, List, map, slice_get, Some}
use Rattle.bsv_bits.specs.Words.{Bits}
use Rattle.bsv_design.specs.design.Designs.{DesignData}
use Rattle.bsv_design.specs.design.Roles.{is_rule, is_value, gives_value}
use Rattle.bsv_design.specs.declared.element.Element.{Element}
use Rattle.bsv_guard.specs.Fitting.{HaveWidths}
use Rattle.bsv_net.specs.declared.net_data.NetData.{NetData}
use Rattle.bsv_net.specs.Nets.{register_widths}
use Rattle.bsv_net.specs.ShowsByNet.{gives}
use Rattle.bsv_vtext.specs.declared.tree.Atom.{Atom}
use Rattle.bsv_vtext.specs.declared.tree.Target.TheVariants as target
use Rattle.bsv_vtext.specs.Signals.{VModuleData}
use Rattle.bsv_vtext.specs.VClock.{Inputs, Nets, VClock, atom_word}
use Rattle.bsv_vgen.specs.declared.known.Known.{Known}
use Rattle.bsv_vgen.specs.ShowsByModule.{TellsFire}
use Rattle.bsv_vgen.specs.Modules.{inputs}
use Rattle.bsv_design.specs.design.Words.{or_zero}

-- the words of the inputs of a net, where atoms have these words
abbrev pub input_words : (Atom → Bits) → List Known → List Bits
input_words word ks = map (λ k. word k.atom) ks

-- what is told in a clock in which the inputs and the registers of the net have these words
pub record TellsNet (b : DesignData) (c : NetData) (m : VModuleData) (vs ws : List Bits) (nets : Nets) : Type 0 where
  pub fires : (n : ℕ) (e : Element) → slice_get b.elements n ≡ Some e → is_value e.role ≡ false
      → TellsFire m nets e.name (or_zero (slice_get (gives c ws vs).fires n))
  pub readies : (n : ℕ) (e : Element) → slice_get b.elements n ≡ Some e → is_rule e.role ≡ false
      → nets (target.Ready n) ≡ or_zero (slice_get (gives c ws vs).readies n)
  pub results : (n : ℕ) (e : Element) → slice_get b.elements n ≡ Some e → gives_value e.role ≡ true
      → nets (target.Result n) ≡ or_zero (slice_get (gives c ws vs).results n)

pub record Computes (b : DesignData) (c : NetData) (m : VModuleData) : Type 0 where
  pub tells : (vs ws : List Bits) (ins : Inputs) (rst_n : Bool) (nets : Nets) (nexts : List Bits) → HaveWidths c.inputs vs
      → HaveWidths (register_widths c.registers) ws → input_words (atom_word ws ins nets) (inputs b) ≡ vs
      → VClock m ws ins rst_n nets nexts → TellsNet b c m vs ws nets
  pub nexts : (vs ws : List Bits) (ins : Inputs) (nets : Nets) (nexts : List Bits) → HaveWidths c.inputs vs
      → HaveWidths (register_widths c.registers) ws → input_words (atom_word ws ins nets) (inputs b) ≡ vs
      → VClock m ws ins true nets nexts → nexts ≡ (gives c ws vs).nexts
