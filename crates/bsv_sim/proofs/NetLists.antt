-- What is beside the nodes of a net names nodes, and the next words of its registers have their widths.
use Rattle.std.proofs.Common.{◌≡◌, ℕ, suc, ◌+◌, ◌<◌, true, ◌&&◌, List, [], ◌∷◌, ◌++◌, length, map, Option, Some, None, refl, ap, subst, arith, length-append}
use Rattle.std.specs.Prelude.{slice_get, IsTrue, nat_lt}
use Rattle.std.specs.List.{list_all}
use Rattle.std.proofs.Math.Logic.{∥∥₁_elim, ∥∥₁_prop}
use Rattle.std.proofs.Math.Bool.{Bool-set}
use Rattle.std.proofs.Math.Nat.{ℕ_set}
use Rattle.std.proofs.lemmas.Bool.{and_parts, and_from, eqb-true, lt-ltb}
use Rattle.std.proofs.lemmas.List.{length-map}
use Rattle.std.proofs.lemmas.Option.{same_Some, slice_get_within}
use Rattle.bsv_bits.specs.Words.{Bits}
use Rattle.bsv_prim.specs.Table.{IsWordOf}
use Rattle.bsv_prim.specs.declared.primitive.RegisterInfo.{RegisterInfo}
use Rattle.bsv_design.specs.declared.element.Port.{Port}
use Rattle.bsv_design.specs.declared.node.Node.{Node}
use Rattle.bsv_design.specs.design.Bodies.{at}
use Rattle.bsv_design.specs.design.Widths.{has_width, node_width, widths_from}
use Rattle.bsv_guard.specs.Fitting.{HaveWidths}
use Rattle.bsv_guard.proofs.BodyFits.{word_there}
use Rattle.bsv_guard.proofs.Nodes.{chained}
use Rattle.bsv_net.specs.declared.net.Net.{Net}
use Rattle.bsv_net.specs.declared.net_data.NetData.{NetData}
use Rattle.bsv_net.specs.AtHand.{net_data}
use Rattle.bsv_net.specs.Nets as nets
use Rattle.bsv_net.specs.Nets.{IsNet, as_node, as_nodes, is_bit, names, nexts_fit, ports, register_widths, words}
use Rattle.bsv_net.proofs.RegisterWidths.{widths_prop}
use Rattle.bsv_net.proofs.Solution.{words_have}
use Rattle.bsv_sim.specs.AtHand.{all_below}
use Rattle.bsv_sim.specs.declared.sim.Sim.{Sim}

-- ---- widths

-- there are as many as nodes
widths_count : (ps : List Port) (xs : List Node) (us ends : List ℕ) → widths_from ps [] [] us xs ≡ Some ends → length ends ≡ length us + length xs
unfolding widths_from
widths_count ps [] us ends e = let same : us ≡ ends = same_Some us ends e in omega (arith, ap (λ (ns : List ℕ). length ns) same)
widths_count ps (x ∷ xs) us ends e =
    let c = chained (node_width ps [] [] us x) (λ w. widths_from ps [] [] (us ++ w ∷ []) xs) ends e in
    let rest = widths_count ps xs (us ++ c.width ∷ []) ends c.rest in
    omega (arith, rest, length-append us (c.width ∷ []))

-- ---- places

width_within : (us : List ℕ) (width k : ℕ) → has_width (slice_get us k) width ≡ true → k < length us
width_within us width k h = of (slice_get us k) refl h
  where
    of : (o : Option ℕ) → slice_get us k ≡ o → has_width o width ≡ true → k < length us
    of None e h = absurd (let n : ⊥ = cc in n)
    of (Some u) e h = slice_get_within us k u e

bits_below : (us ns : List ℕ) → list_all (is_bit us) ns ≡ true → all_below (length us) ns ≡ true
bits_below us [] h = refl
bits_below us (n ∷ ns) h =
    let parts = and_parts (is_bit us n) (list_all (is_bit us) ns) h in
    and_from (nat_lt n (length us)) (all_below (length us) ns) (lt-ltb n (length us) (width_within us 1 n parts.0)) (bits_below us ns parts.1)

-- ---- the next words

record AreNexts (us ns : List ℕ) (rs : List RegisterInfo) : Type 0 where
  below : all_below (length us) ns ≡ true
  long : length ns ≡ length rs
  have : (vs : List Bits) → HaveWidths us vs → HaveWidths (register_widths rs) (map (at vs) ns)

are_nexts : (us ns : List ℕ) (rs : List RegisterInfo) → nexts_fit us ns rs ≡ true → AreNexts us ns rs
are_nexts us [] [] h = record { below = refl; long = refl; have = λ vs k. tt }
are_nexts us [] (r ∷ rs) h = absurd (let n : ⊥ = cc in n)
are_nexts us (n ∷ ns) [] h = absurd (let n : ⊥ = cc in n)
are_nexts us (n ∷ ns) (r ∷ rs) h =
    let parts = and_parts (has_width (slice_get us n) r.width) (nexts_fit us ns rs) h in
    let rest = are_nexts us ns rs parts.1 in
    record {
      below = and_from (nat_lt n (length us)) (all_below (length us) ns) (lt-ltb n (length us) (width_within us r.width n parts.0)) rest.below;
      long = ap suc rest.long;
      have = λ vs k. (own vs k (slice_get us n) refl parts.0, rest.have vs k);
    }
  where
    own : (vs : List Bits) → HaveWidths us vs → (o : Option ℕ) → slice_get us n ≡ o → has_width o r.width ≡ true → IsWordOf r.width (at vs n)
    own vs k None e h = absurd (let n : ⊥ = cc in n)
    own vs k (Some u) e h = subst (λ (w : ℕ). IsWordOf w (at vs n)) (eqb-true u r.width h) (word_there us vs k n u e)

-- ---- of a net

-- what a run of a net rests on
pub record IsRunnable (c : NetData) : Type 0 where
  pub fires : IsTrue (all_below (length c.nodes) c.fires)
  pub readies : IsTrue (all_below (length c.nodes) c.readies)
  pub nexts : IsTrue (all_below (length c.nodes) c.nexts)
  pub long : length c.nexts ≡ length c.registers
  pub have : (inputs registers : List Bits) → HaveWidths c.inputs inputs → HaveWidths (register_widths c.registers) registers
      → HaveWidths (register_widths c.registers) (map (at (words c.nodes inputs registers)) c.nexts)

is_runnable : (c : NetData) → IsNet c → IsRunnable c
is_runnable c right =
    let us : List ℕ = right.widths in
    let a = and_parts (list_all nets.width_fits c.inputs && nexts_fit us c.nexts c.registers && list_all (is_bit us) c.fires && list_all (is_bit us) c.readies && list_all (names us) c.results) (list_all (list_all (nets.is_site us)) c.sites) right.in_order in
    let b = and_parts (list_all nets.width_fits c.inputs && nexts_fit us c.nexts c.registers && list_all (is_bit us) c.fires && list_all (is_bit us) c.readies) (list_all (names us) c.results) a.0 in
    let d = and_parts (list_all nets.width_fits c.inputs && nexts_fit us c.nexts c.registers && list_all (is_bit us) c.fires) (list_all (is_bit us) c.readies) b.0 in
    let e = and_parts (list_all nets.width_fits c.inputs && nexts_fit us c.nexts c.registers) (list_all (is_bit us) c.fires) d.0 in
    let f = and_parts (list_all nets.width_fits c.inputs) (nexts_fit us c.nexts c.registers) e.0 in
    let many : length us ≡ length c.nodes = counted c right in
    let nexts = are_nexts us c.nexts c.registers f.1 in
    record {
      fires = subst (λ (k : ℕ). all_below k c.fires ≡ true) many (bits_below us c.fires e.1);
      readies = subst (λ (k : ℕ). all_below k c.readies ≡ true) many (bits_below us c.readies d.1);
      nexts = subst (λ (k : ℕ). all_below k c.nexts ≡ true) many nexts.below;
      long = nexts.long;
      have = λ inputs registers h k. nexts.have (words c.nodes inputs registers) (words_have c right inputs registers h k);
    }
  where
    counted : (c : NetData) (right : IsNet c) → length right.widths ≡ length c.nodes
    counted c right =
        let k = widths_count (ports c.inputs c.registers) (as_nodes (length c.inputs) c.nodes) [] right.widths right.nodes in
        omega (arith, k, length-map c.nodes (as_node (length c.inputs)))

pub runnable : (n : Net) → IsRunnable (net_data n)
runnable n = ∥∥₁_elim n.right (runnable_prop (net_data n)) (λ (right : IsNet (net_data n)). is_runnable (net_data n) right)
  where
    runnable_prop : (c : NetData) → IsProp (IsRunnable c)
    runnable_prop c = hlevel (Bool-set, ℕ_set, widths_prop)

-- ---- a net by its data

abbrev pub net_of : (c : NetData) → ∥ IsNet c ∥₁ → Net
net_of c right = record {
  inputs = c.inputs;
  registers = c.registers;
  nodes = c.nodes;
  nexts = c.nexts;
  fires = c.fires;
  readies = c.readies;
  results = c.results;
  sites = c.sites;
  right = right;
}

-- that a net is in order is known in one way
pub same_net : (n : Net) (right : ∥ IsNet (net_data n) ∥₁) → net_of (net_data n) right ≡ n
same_net n right = ap (net_of (net_data n)) (∥∥₁_prop right n.right)

-- ---- a simulator

pub widths_known : (sim : Sim) → HaveWidths (register_widths sim.net.registers) sim.registers.items
widths_known sim = ∥∥₁_elim sim.widths (widths_prop (register_widths sim.net.registers) sim.registers.items) (λ h. h)
