-- All words after a run.
use Rattle.std.proofs.Common.{◌≡◌, ◌∙◌, ℕ, List, [], length, sym, subst, arith}
use Rattle.std.proofs.Props.{props}
use Rattle.std.proofs.Math.Logic.{∥∥₁_elim, ∥∥₁_prop}
use Rattle.bsv_bits.specs.Words.{Bits}
use Rattle.bsv_guard.specs.Fitting.{HaveWidths}
use Rattle.bsv_prim.specs.declared.primitive.RegisterInfo.{RegisterInfo}
use Rattle.bsv_net.specs.declared.node.NetNode.{NetNode}
use Rattle.bsv_net.specs.Nets.{register_widths, words}
use Rattle.bsv_engine.specs.declared.run.Run.{Run}
use Rattle.bsv_engine.specs.Cells.{IsSolved, KeptTo}
use Rattle.bsv_engine.specs.Codes.{Code, IsOfNet, all_kept}
use Rattle.bsv_engine.specs.Runs.{AllStand, AllWithin, IsEngine}
use Rattle.bsv_engine.specs.Widths.{widths_of}
use Rattle.bsv_engine.proofs.AllStands.{all_within, AllWithin-prop}
use Rattle.bsv_engine.proofs.Keeping.{all_kept_whole}
use Rattle.bsv_engine.proofs.OfNet.{code_solved, code_widths}

module _ (c : Code) (us : List ℕ) (rs : List Run) (right : ∥ IsEngine c us rs ∥₁) (long : length us ≡ length c.nodes) where
  pub runs_within : AllWithin (length c.nodes) 0 rs
  runs_within = ∥∥₁_elim right (AllWithin-prop (length c.nodes) 0 rs) (λ (k : IsEngine c us rs). all_within us c.nodes 0 (length c.nodes) rs long k.runs_stand)

  pub words_are : (inputs registers : List Bits) (ns vs : List ℕ) → HaveWidths c.inputs inputs → HaveWidths (register_widths c.registers) registers
      → length ns ≡ length c.nodes → length vs ≡ length c.nodes
      → (AllStand us c.nodes 0 (length c.nodes) rs → (ws : List Bits) → IsSolved inputs registers c.nodes us ws → KeptTo (length c.nodes) us ns vs ws)
      → all_kept us ns vs ≡ words c.nodes inputs registers
  words_are inputs registers ns vs first second a b keeps =
      ∥∥₁_elim right (Prim.hlevel props) (λ (k : IsEngine c us rs).
      let all : List Bits = words c.nodes inputs registers in
      let solved : IsSolved inputs registers c.nodes us all =
      subst (λ l. IsSolved inputs registers c.nodes l all) (sym k.widths_are) (code_solved c k.of_net inputs registers first second) in
      all_kept_whole us ns vs all (omega (arith, solved.long)) (omega arith) (omega arith) solved.fits
      (subst (λ n. KeptTo n us ns vs all) (sym long) (keeps k.runs_stand all solved)))

pub same_code : (is js : List ℕ) (rs ss : List RegisterInfo) (xs ys : List NetNode) → is ≡ js → rs ≡ ss → xs ≡ ys
    → ◌≡◌ {A = Code} (record { inputs = is; registers = rs; nodes = xs }) (record { inputs = js; registers = ss; nodes = ys })
same_code is js rs ss xs ys e f g = cc

-- what is made of a net
pub engine_is : (c : Code) (us : List ℕ) (rs : List Run) → ∥ IsOfNet c ∥₁ → us ≡ widths_of c.inputs c.registers [] c.nodes → AllStand us c.nodes 0 (length c.nodes) rs → ∥ IsEngine c us rs ∥₁
engine_is c us rs of_net widths stand =
    ∥∥₁_elim of_net ∥∥₁_prop (λ (o : IsOfNet c). ∣ record { of_net = o; widths_are = widths ∙ code_widths c o; runs_stand = stand } ∣₁)
