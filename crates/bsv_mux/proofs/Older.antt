-- The words of a net's first nodes are those of the net of these nodes alone.
use Rattle.std.proofs.Common.{◌≡◌, ◌∙◌, ◌<◌, ◌≤◌, ◌+◌, ℕ, Bool, true, false, ◌&&◌, List, [], ◌∷◌, ◌++◌, Option, Some, None, refl, sym, ap, ap₂, arith, length, map}
use Rattle.std.specs.Prelude.{slice_get, nat_lt, if◌then◌else◌}
use Rattle.std.specs.List.{list_all}
use Rattle.std.proofs.lemmas.Bool.{and_parts, ltb-true, ltb-false}
use Rattle.std.proofs.lemmas.Option.{slice_get_past}
use Rattle.bsv_bits.specs.Words.{Bits}
use Rattle.bsv_design.specs.declared.node.Node.{Node}
use Rattle.bsv_design.specs.design.Bodies.{at, of_parts, values}
use Rattle.bsv_design.specs.scheme.Relations.{no_answers}
use Rattle.bsv_design.specs.design.Words.{or_zero}
use Rattle.bsv_design.proofs.Bodies as bodies
use Rattle.bsv_guard.proofs.Lists.{holds_at_all}
use Rattle.bsv_guard.proofs.Nodes.{grown, has_one}
use Rattle.bsv_net.specs.declared.net_data.NetData.{NetData}
use Rattle.bsv_net.specs.declared.node.NetNode.{NetNode}
use Rattle.bsv_net.specs.declared.node.Site.{Site as NetSite}
use Rattle.bsv_net.specs.Nets.{as_node, as_nodes, is_bit, is_in_order, is_node, is_site, nexts_fit, width_fits, names, words}
use Rattle.bsv_net.proofs.Grows.{Grows}
use Rattle.bsv_ports.specs.CallSites.{or_none}
use Rattle.bsv_mux.specs.Nexts.{renamed}

-- ---- words

nodes_both : (n : ℕ) (xs ys : List NetNode) → as_nodes n (xs ++ ys) ≡ as_nodes n xs ++ as_nodes n ys
nodes_both n [] ys = refl
nodes_both n (x ∷ xs) ys = ap (λ (ns : List Node). as_node n x ∷ ns) (nodes_both n xs ys)

-- the words of the first nodes are first
pub words_grown : (old new : List NetNode) → Grows old new → (inputs registers : List Bits)
    → (more : List Bits) × (words new inputs registers ≡ words old inputs registers ++ more)
unfolding words
words_grown old new g inputs registers =
    let n : ℕ = length inputs in
    let rest = grown [] [] [] (inputs ++ registers) no_answers (words old inputs registers) (as_nodes n g.more) in (
      rest.0,
      ap (λ (ns : List NetNode). values no_answers (inputs ++ registers) [] [] (as_nodes n ns)) g.is
          ∙ (ap (values no_answers (inputs ++ registers) [] []) (nodes_both n old g.more)
          ∙ (bodies.words_append (of_parts no_answers) (inputs ++ registers) [] [] (as_nodes n old) (as_nodes n g.more) ∙ rest.1)),
    )

past_is : (vs : List Bits) (n : ℕ) → length vs ≤ n → at vs n ≡ or_zero None
past_is vs n l = ap or_zero (slice_get_past vs n l)

-- ---- names

-- firing, readiness and calls name nodes that have the same words
pub record Named (vs old : List Bits) (c : NetData) : Type 0 where
  pub fires : map (at vs) c.fires ≡ map (at old) c.fires
  pub readies : map (at vs) c.readies ≡ map (at old) c.readies
  pub sites : (n k : ℕ) (s : NetSite) → slice_get (or_none (slice_get c.sites n)) k ≡ Some s
      → (at vs s.taken ≡ at old s.taken) × (map (at vs) s.args ≡ map (at old) s.args)

module _ (vs old : List Bits) (us : List ℕ) (same : (n : ℕ) → n < length us → at vs n ≡ at old n) where
  named_all : (ns : List ℕ) → list_all (is_bit us) ns ≡ true → map (at vs) ns ≡ map (at old) ns
  named_all [] h = refl
  named_all (n ∷ ns) h =
      let parts = and_parts (is_bit us n) (list_all (is_bit us) ns) h in
      ap₂ (λ (w : Bits) (ws : List Bits). w ∷ ws) (same n (has_one us n 1 parts.0)) (named_all ns parts.1)

  nodes_all : (ns : List ℕ) → list_all (is_node us) ns ≡ true → map (at vs) ns ≡ map (at old) ns
  nodes_all [] h = refl
  nodes_all (n ∷ ns) h =
      let parts = and_parts (is_node us n) (list_all (is_node us) ns) h in
      ap₂ (λ (w : Bits) (ws : List Bits). w ∷ ws) (same n (ltb-true n (length us) parts.0)) (nodes_all ns parts.1)

  site_named : (s : NetSite) → is_site us s ≡ true → (at vs s.taken ≡ at old s.taken) × (map (at vs) s.args ≡ map (at old) s.args)
  site_named s h =
      let parts = and_parts (is_bit us s.taken) (list_all (is_node us) s.args) h in
      (same s.taken (has_one us s.taken 1 parts.0), nodes_all s.args parts.1)

  sites_named : (sites : List (List NetSite)) → list_all (list_all (is_site us)) sites ≡ true → (n k : ℕ) (s : NetSite) → (o : Option (List NetSite)) → slice_get sites n ≡ o
      → slice_get (or_none o) k ≡ Some s → (at vs s.taken ≡ at old s.taken) × (map (at vs) s.args ≡ map (at old) s.args)
  sites_named sites h n k s None e there = absurd (let x : ⊥ = cc in x)
  sites_named sites h n k s (Some ss) e there =
      site_named s (holds_at_all (is_site us) ss (holds_at_all (list_all (is_site us)) sites h n ss e) k s there)

  pub named : (c : NetData) → is_in_order us c ≡ true → Named vs old c
  named c h =
      let inputs : Bool = list_all width_fits c.inputs in
      let nexts : Bool = nexts_fit us c.nexts c.registers in
      let fires : Bool = list_all (is_bit us) c.fires in
      let readies : Bool = list_all (is_bit us) c.readies in
      let results : Bool = list_all (names us) c.results in
      let sites : Bool = list_all (list_all (is_site us)) c.sites in
      let last = and_parts (inputs && nexts && fires && readies && results) sites h in
      let four = and_parts (inputs && nexts && fires && readies) results last.0 in
      let three = and_parts (inputs && nexts && fires) readies four.0 in
      let two = and_parts (inputs && nexts) fires three.0 in
      record {
        fires = named_all c.fires two.1;
        readies = named_all c.readies three.1;
        sites = λ n k s there. sites_named c.sites last.1 n k s (slice_get c.sites n) refl there;
      }

-- what gives nothing names the number of nodes, and has the word of none
pub results_renamed : (vs old : List Bits) → ((n : ℕ) → n < length old → at vs n ≡ at old n) → (ns : List ℕ)
    → map (at vs) (map (renamed (length old) (length vs)) ns) ≡ map (at old) ns
results_renamed vs old same [] = refl
results_renamed vs old same (n ∷ ns) =
    ap₂ (λ (w : Bits) (ws : List Bits). w ∷ ws) (of (nat_lt n (length old)) refl) (results_renamed vs old same ns)
  where
    of : (b : Bool) → nat_lt n (length old) ≡ b → at vs (if b then n else length vs) ≡ at old n
    of true l = same n (ltb-true n (length old) l)
    of false l = past_is vs (length vs) (omega arith) ∙ sym (past_is old n (ltb-false n (length old) l))
