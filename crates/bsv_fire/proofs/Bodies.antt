-- The nodes of a body in the net have the words of the flat body.
use Rattle.std.proofs.Common.{◌≡◌, ◌∙◌, ℕ, zero, suc, ◌+◌, ◌<◌, true, not, ◌&&◌, List, [], ◌∷◌, ◌++◌, length, map, Option, Some, None, refl, sym, ap, ap₂, subst, arith, length-append}
use Rattle.std.specs.Prelude.{slice_get, nat_lt, option_map}
use Rattle.std.specs.List.{AllByRecursion}
use Rattle.std.proofs.lemmas.Bool.{and_parts, eqb-true}
use Rattle.std.proofs.lemmas.List.{length-map, map-append}
use Rattle.std.proofs.lemmas.Option.{slice_get_within}
use Rattle.bsv_lemmas.proofs.Places.{mapped_at}
use Rattle.bsv_bits.specs.Words.{Bits, word_not}
use Rattle.bsv_prim.specs.Table.{Table}
use Rattle.bsv_design.specs.declared.element.Call.{Call}
use Rattle.bsv_design.specs.declared.element.Element.{Element}
use Rattle.bsv_design.specs.declared.element.Port.{Port}
use Rattle.bsv_design.specs.declared.kind.Kind.{Kind}
use Rattle.bsv_design.specs.declared.node.Node.{Node}
use Rattle.bsv_design.specs.declared.node.Node.TheVariants as node
use Rattle.bsv_design.specs.design.Bodies.{Answers, answer, at, node_word, target, values, words, words_after}
use Rattle.bsv_design.specs.design.Computing as computing
use Rattle.bsv_design.specs.parts.Kinds.{kind_table}
use Rattle.bsv_design.specs.scheme.Schemes.{design_scheme, kinds_of, calls_of}
use Rattle.bsv_design.specs.scheme.Traces.{kind_at}
use Rattle.bsv_design.specs.design.Widths.{args_fit, gives_word, has_width, method_fits, node_width, result_width, widths_from}
use Rattle.bsv_guard.specs.ElementLaws.{IsUse}
use Rattle.bsv_guard.proofs.Nodes.{arguments_before, chained, where_width}
use Rattle.bsv_net.specs.declared.node.NetNode.{NetNode}
use Rattle.bsv_net.specs.declared.node.NetNode.TheVariants as net
use Rattle.bsv_net.specs.Equations.{Values, Satisfies, computed}
use Rattle.bsv_net.specs.Placing.{add, node_at}
use Rattle.bsv_net.proofs.Grows.{Grows, added_there, grows_trans}
use Rattle.bsv_net.proofs.Operands.{is_below}
use Rattle.bsv_fire.specs.Bodies.{Ports, body, body_node, result, result_of}
use Rattle.bsv_ports.specs.Ports.{arity_of}
use Rattle.bsv_fire.specs.Grounds.{Base, Ground}
use Rattle.bsv_fire.proofs.BodiesGrow.{body_grows}
use Rattle.bsv_ports.proofs.Scene.{Scene, S}
use Rattle.bsv_fire.proofs.Frame.{IsGround}
use Rattle.bsv_fire.proofs.Wiring.{IsWired}

-- ---- places

-- the word of a place is that of its node
pub at_places : (V : Values) (places : List ℕ) (k : ℕ) → k < length places → at (map V places) k ≡ V (node_at places k)
at_places V [] k l = absurd (omega arith)
at_places V (p ∷ places) zero l = refl
at_places V (p ∷ places) (suc k) l = at_places V places k (omega arith)

pub all_at_places : (V : Values) (places ks : List ℕ) → AllByRecursion (λ k. k < length places) ks → map V (map (node_at places) ks) ≡ map (at (map V places)) ks
all_at_places V places [] h = refl
all_at_places V places (k ∷ ks) h = ap₂ (λ (w : Bits) (ws : List Bits). w ∷ ws) (sym (at_places V places k h.0)) (all_at_places V places ks h.1)

-- a call that fits has an argument for each of its method
pub args_many : (t : Table) (m : ℕ) (us : List ℕ) (k : ℕ) (args : List ℕ) → args_fit t m us k args ≡ true → k + length args ≡ t.arity m
args_many t m us k [] h = let e = eqb-true k (t.arity m) h in omega arith
args_many t m us k (a ∷ args) h =
    let rest = args_many t m us (k + 1) args (and_parts (nat_lt k (t.arity m) && has_width (slice_get us a) (t.argument_width m k)) (args_fit t m us (k + 1) args) h).1 in
    omega arith

-- ---- nodes

-- what is known where a body is placed: its arguments, and what calls give
pub record IsBodyGround (g : Base) (ports : Ports) (V : Values) (full : List NetNode) (ks : List Kind) (cs : List Call) (arguments : List Port) (ws : List Bits) (start : ℕ) (r : Answers) : Type 0 where
  pub arguments_told : (k : ℕ) → k < length arguments → V (start + k) ≡ at ws k
  pub results_told : (c : ℕ) (y : Call) → slice_get cs c ≡ Some y → (args : List ℕ) → length args ≡ arity_of (kind_at ks (target y)) y.method
      → (ns : List NetNode) → Grows (result g ports y.part y.method args ns).nodes full → V (result g ports y.part y.method args ns).place ≡ r c (target y) (map V args)

module _ (inputs registers : List Bits) (V : Values) (full : List NetNode) (widths : List ℕ) (s : Satisfies inputs registers V full widths) where
  pub added_computes : (ns : List NetNode) (x : NetNode) → Grows (add ns x).nodes full → V (add ns x).place ≡ computed inputs registers V x
  added_computes ns x g = s.computes (add ns x).place x (added_there ns x g)

  module _ (g : Base) (ports : Ports) (ks : List Kind) (cs : List Call) (arguments : List Port) (ws : List Bits) (start : ℕ) (r : Answers) (ground : IsBodyGround g ports V full ks cs arguments ws start r) where
    argument_there : (k w : ℕ) (o : Option Port) → slice_get arguments k ≡ o → option_map (λ (p : Port). p.width) o ≡ Some w → k < length arguments
    argument_there k w None e h = absurd (let n : ⊥ = cc in n)
    argument_there k w (Some p) e h = slice_get_within arguments k p e

    result_means : (us places : List ℕ) (ns : List NetNode) → length places ≡ length us → (c w : ℕ) (o : Option Call) → slice_get cs c ≡ o → result_width ks us o ≡ Some w → Grows (result_of g ports places o ns).nodes full
        → V (result_of g ports places o ns).place ≡ answer r c (map V places) o
    result_means us places ns long c w None there e grows = absurd (let n : ⊥ = cc in n)
    result_means us places ns long c w (Some y) there e grows = of (slice_get ks y.part) refl e
      where
        of : (o : Option Kind) → slice_get ks y.part ≡ o → gives_word o us y ≡ Some w
            → V (result g ports y.part y.method (map (node_at places) y.args) ns).place ≡ r c (target y) (map (at (map V places)) y.args)
        of None k f = absurd (let n : ⊥ = cc in n)
        of (Some kind) k f =
            let t : Table = kind_table kind in
            let fit = where_width (method_fits (Some kind) us y && not (t.is_action y.method)) (t.result_width y.method) w f in
            let parts = and_parts (method_fits (Some kind) us y) (not (t.is_action y.method)) fit.0 in
            let args = (and_parts (nat_lt y.method t.methods) (args_fit t y.method us 0 y.args) parts.0).1 in
            let before = subst (λ (n : ℕ). AllByRecursion (λ a. a < n) y.args) (sym long) (arguments_before t y.method us 0 y.args args) in
            let many : length (map (node_at places) y.args) ≡ arity_of (Some kind) y.method = length-map y.args (node_at places) ∙ (let m = args_many t y.method us 0 y.args args in omega arith) in
            let same : length (map (node_at places) y.args) ≡ arity_of (kind_at ks (target y)) y.method = many ∙ ap (λ (o : Option Kind). arity_of o y.method) (sym k) in
            ground.results_told c y there (map (node_at places) y.args) same ns grows ∙ ap (r c (target y)) (all_at_places V places y.args before)

    node_means : (us places : List ℕ) (ns : List NetNode) → length places ≡ length us → (x : Node) (w : ℕ) → node_width arguments ks cs us x ≡ Some w → Grows (body_node g ports start cs places ns x).nodes full
        → V (body_node g ports start cs places ns x).place ≡ node_word r ws cs (map V places) x
    node_means us places ns long (node.Constant v) w e grows = added_computes ns (net.Constant v) grows
    node_means us places ns long (node.Argument k) w e grows = ground.arguments_told k (argument_there k w (slice_get arguments k) refl e)
    node_means us places ns long (node.Result c) w e grows = result_means us places ns long c w (slice_get cs c) refl e grows
    node_means us places ns long (node.Not a) w e grows =
        let below = subst (λ (n : ℕ). a < n) (sym long) (is_below us arguments (node.Not a) w e) in
        added_computes ns (net.Not (node_at places a)) grows ∙ ap word_not (sym (at_places V places a below))
    node_means us places ns long (node.Two o a b) w e grows =
        let below = subst (λ (n : ℕ). (a < n) × (b < n)) (sym long) (is_below us arguments (node.Two o a b) w e) in
        added_computes ns (net.Two o (node_at places a) (node_at places b)) grows
        ∙ ap₂ (computing.between o) (sym (at_places V places a below.0)) (sym (at_places V places b below.1))
    node_means us places ns long (node.Pick t a b) w e grows =
        let below = subst (λ (n : ℕ). (t < n) × (a < n) × (b < n)) (sym long) (is_below us arguments (node.Pick t a b) w e) in
        added_computes ns (net.Pick (node_at places t) (node_at places a) (node_at places b)) grows
        ∙ ap₂ (λ (x y : Bits). computing.picked x y (V (node_at places b))) (sym (at_places V places t below.0)) (sym (at_places V places a below.1))
        ∙ ap (computing.picked (at (map V places) t) (at (map V places) a)) (sym (at_places V places b below.2))
    node_means us places ns long (node.Slice a high low) w e grows =
        let below = subst (λ (n : ℕ). a < n) (sym long) (is_below us arguments (node.Slice a high low) w e) in
        added_computes ns (net.Slice (node_at places a) high low) grows ∙ ap (λ (x : Bits). computing.sliced x high low) (sym (at_places V places a below))
    node_means us places ns long (node.Join a b) w e grows =
        let below = subst (λ (n : ℕ). (a < n) × (b < n)) (sym long) (is_below us arguments (node.Join a b) w e) in
        added_computes ns (net.Join (node_at places a) (node_at places b)) grows
        ∙ ap₂ computing.joined (sym (at_places V places a below.0)) (sym (at_places V places b below.1))
    node_means us places ns long (node.Extend a width) w e grows =
        let below = subst (λ (n : ℕ). a < n) (sym long) (is_below us arguments (node.Extend a width) w e) in
        added_computes ns (net.Extend (node_at places a) width) grows ∙ ap (λ (x : Bits). computing.extended x width) (sym (at_places V places a below))
    node_means us places ns long (node.SignExtend a width) w e grows =
        let below = subst (λ (n : ℕ). a < n) (sym long) (is_below us arguments (node.SignExtend a width) w e) in
        added_computes ns (net.SignExtend (node_at places a) width) grows ∙ ap (λ (x : Bits). computing.sign_extended x width) (sym (at_places V places a below))

    pub nodes_mean : (xs : List Node) (us ends places : List ℕ) (ns : List NetNode) → length places ≡ length us → widths_from arguments ks cs us xs ≡ Some ends → Grows (body g ports start cs places ns xs).nodes full
        → map V (body g ports start cs places ns xs).places ≡ values r ws cs (map V places) xs
    unfolding body words_after widths_from
    nodes_mean [] us ends places ns long e grows = refl
    nodes_mean (x ∷ xs) us ends places ns long e grows =
        let c = chained (node_width arguments ks cs us x) (λ w. widths_from arguments ks cs (us ++ w ∷ []) xs) ends e in
        let p = body_node g ports start cs places ns x in
        let here = node_means us places ns long x c.width c.first (grows_trans (body_grows g ports start cs (places ++ p.place ∷ []) p.nodes xs) grows) in
        let more : length (places ++ p.place ∷ []) ≡ length (us ++ c.width ∷ []) = omega (arith, length-append places (p.place ∷ []), length-append us (c.width ∷ [])) in
        nodes_mean xs (us ++ c.width ∷ []) ends (places ++ p.place ∷ []) p.nodes more c.rest grows
        ∙ ap (λ (vs : List Bits). values r ws cs vs xs) (map-append V places (p.place ∷ []) ∙ ap (λ (v : Bits). map V places ++ v ∷ []) here)

-- ---- an element

pub use_of : (z : Scene) (n : ℕ) (e : Element) → slice_get z.b.elements n ≡ Some e → (k : ℕ) (c : Call) → slice_get e.calls k ≡ Some c → IsUse (S z) n (target c)
unfolding design_scheme
use_of z n e is k c there = record {
  index = k;
  is = ap (λ (o : Option Element). slice_get (calls_of o) k) is ∙ mapped_at target e.calls k c there;
}

module _ (z : Scene) (g : Ground) (ground : IsGround z g) (ports : Ports) (n : ℕ) (e : Element) (is : slice_get z.b.elements n ≡ Some e) (r : Answers) (wiring : IsWired z g.base ports n r) where
  body_ground : IsBodyGround g.base ports z.V z.full (kinds_of z.b) e.calls e.arguments (z.xs n) (node_at g.inputs n) r
  unfolding design_scheme
  body_ground = record {
    arguments_told = ground.arguments n e is;
    results_told = λ c y there. wiring.result_told (target y) (use_of z n e is c y there) c;
  }

  pub body_told : (ns : List NetNode) → Grows (body g.base ports (node_at g.inputs n) e.calls [] ns e.nodes).nodes z.full
      → map z.V (body g.base ports (node_at g.inputs n) e.calls [] ns e.nodes).places ≡ words e r (z.xs n)
  body_told ns grows =
      let fits = (z.right.elements n e is).fits in
      nodes_mean z.inputs z.registers z.V z.full z.widths z.solved g.base ports (kinds_of z.b) e.calls e.arguments (z.xs n) (node_at g.inputs n) r body_ground e.nodes [] fits.widths [] ns refl fits.nodes grows
