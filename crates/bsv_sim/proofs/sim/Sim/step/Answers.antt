use Rattle.std.proofs.Common.{◌≡◌, ◌∙◌, ℕ, List, length, map, sym, ap, subst, arith}
use Rattle.std.specs.Prelude.{IsTrue}
use Rattle.std.specs.Vec.{with_items}
use Rattle.std.proofs.lemmas.List.{length-map}
use Rattle.bsv_bits.specs.Words.{Bits}
use Rattle.bsv_prim.specs.declared.primitive.RegisterInfo.{RegisterInfo}
use Rattle.bsv_design.specs.design.Bodies.{at}
use Rattle.bsv_design.specs.scheme.Seen.{asking}
use Rattle.bsv_guard.specs.Fitting.{HaveWidths}
use Rattle.bsv_net.specs.Nets.{register_widths, words}
use Rattle.bsv_net.proofs.Solution.{same_length}
use Rattle.bsv_sim.specs.AtHand.{all_below}
use Rattle.bsv_engine.specs.Codes.{Code}
use Rattle.bsv_sim.specs.Inputs.{inputs}
use Rattle.bsv_sim.specs.declared.sim.Sim.{Sim}
use Rattle.bsv_sim.proofs.NetLists.{runnable, same_net, widths_known}
use Rattle.bsv_sim.proofs.sim.Sim.step.Goals as goal

-- ---- the simulator before

nexts_long : (sim : Sim) → length sim.net.nexts ≡ length sim.registers.items
nexts_long sim =
    (runnable sim.net).long
    ∙ sym (length-map sim.net.registers (λ (r : RegisterInfo). r.width))
    ∙ same_length (register_widths sim.net.registers) sim.registers.items (widths_known sim)

-- ---- the calls

pub ask-requires : goal.ask-requires
ask-requires c =
    let long = same_length c.args.self.now.net.inputs (inputs (asking c.args.requests.now)) c.requires.fit in
    omega (arith, long, c.args.self.now.room)

pub run-requires-clause-registers : goal.run-requires-clause-registers
run-requires-clause-registers c =
    let sim = c.args.self.now in
    subst (λ (rs : List RegisterInfo). HaveWidths (register_widths rs) c.as_slice.result.now) (sym (ap (λ (k : Code). k.registers) sim.code))
    (subst (λ (ws : List Bits). HaveWidths (register_widths sim.net.registers) ws) (sym c.as_slice.ensures.value) (widths_known sim))

pub tell-requires-clause-nodes : goal.tell-requires-clause-nodes
tell-requires-clause-nodes c =
    let sim = c.args.self.now in
    let net = runnable sim.net in
    record {
      fires = subst (λ (k : ℕ). IsTrue (all_below k c.as_slice-3.result.now)) (sym c.len.ensures)
          (subst (λ (ns : List ℕ). IsTrue (all_below (length sim.net.nodes) ns)) (sym c.as_slice-3.ensures) net.fires);
      readies = subst (λ (k : ℕ). IsTrue (all_below k c.as_slice-4.result.now)) (sym c.len.ensures)
          (subst (λ (ns : List ℕ). IsTrue (all_below (length sim.net.nodes) ns)) (sym c.as_slice-4.ensures) net.readies);
      nodes = c.len.ensures ∙ sym (ap (λ (k : Code). length k.nodes) (c.run.ensures.code ∙ sim.code));
    }

pub take_over-requires-clause-nodes : goal.take_over-requires-clause-nodes
take_over-requires-clause-nodes c =
    let sim = c.args.self.now in
    subst (λ (k : ℕ). IsTrue (all_below k c.as_slice-6.result.now)) (sym (ap (λ (k : Code). length k.nodes) (c.run.ensures.code ∙ sim.code)))
    (subst (λ (ns : List ℕ). IsTrue (all_below (length sim.net.nodes) ns)) (sym c.as_slice-6.ensures) (runnable sim.net).nexts)

pub take_over-requires-clause-room : goal.take_over-requires-clause-room
take_over-requires-clause-room c =
    let sim = c.args.self.now in
    let long = ap (λ (ns : List ℕ). length ns) c.as_slice-6.ensures ∙ nexts_long sim in
    let ok = sim.registers.ok in
    omega (arith, long, ok.0, ok.1)

-- ---- the simulator after

pub invariant_of-self-3-clause-widths : goal.invariant_of-self-3-clause-widths
invariant_of-self-3-clause-widths c =
    let sim = c.args.self.now in
    let asked = c.as_slice-2.ensures.value ∙ c.ask.ensures.words in
    let run = c.run.ensures.words ∙ ap (λ (k : Code). words k.nodes c.as_slice-2.result.now c.as_slice.result.now) sim.code in
    let inputs_fit = subst (λ (ws : List Bits). HaveWidths sim.net.inputs ws) (sym asked) c.requires.fit in
    let registers_fit = subst (λ (ws : List Bits). HaveWidths (register_widths sim.net.registers) ws) (sym c.as_slice.ensures.value) (widths_known sim) in
    ∣ subst (λ (ws : List Bits). HaveWidths (register_widths sim.net.registers) ws) (sym c.take_over.ensures)
    (subst (λ (vs : List Bits). HaveWidths (register_widths sim.net.registers) (map (at vs) c.as_slice-6.result.now)) (sym run)
    (subst (λ (ns : List ℕ). HaveWidths (register_widths sim.net.registers) (map (at (words sim.net.nodes c.as_slice-2.result.now c.as_slice.result.now)) ns)) (sym c.as_slice-6.ensures)
    ((runnable sim.net).have c.as_slice-2.result.now c.as_slice.result.now inputs_fit registers_fit))) ∣₁

pub invariant_of-self-3-clause-table : goal.invariant_of-self-3-clause-table
invariant_of-self-3-clause-table c =
    let sim = c.args.self.now in
    sym (with_items sim.stoppers c.tell.new.stoppers).ok.0 ∙ sim.stoppers.ok.0 ∙ sim.table

pub returns-clause-net : goal.returns-clause-net
returns-clause-net c = same_net c.args.self.now.net _
