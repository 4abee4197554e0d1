-- The next words of all parts, as they are placed, show the parts after the clock.
use Rattle.std.proofs.Common.{◌≡◌, ◌∙◌, ◌<◌, ◌≤◌, ◌+◌, ◌⊎◌, inl, inr, ℕ, zero, suc, Bool, true, false, cond, List, [], ◌∷◌, ◌++◌, Option, Some, None, refl, sym, ap, subst, arith, length, map, append-nil, append_assoc, length-append}
use Rattle.std.specs.Prelude.{slice_get, ◌==◌, if◌then◌else◌}
use Rattle.std.proofs.lemmas.Bool.{cases_lt, eqb-true}
use Rattle.std.proofs.lemmas.List.{length-map, map-append}
use Rattle.bsv_lemmas.proofs.Places.{at_left, at_end}
use Rattle.bsv_bits.specs.Words.{Bits, bit}
use Rattle.bsv_prim.specs.Signals.{Signals, word_of}
use Rattle.bsv_prim.specs.Table.{Table, word_at}
use Rattle.bsv_prim.specs.declared.part.Part.{Part}
use Rattle.bsv_design.specs.declared.kind.Kind.{Kind}
use Rattle.bsv_design.specs.parts.Kinds.{kind_table, kind_laws}
use Rattle.bsv_design.specs.scheme.Schemes.{design_scheme, kinds_of}
use Rattle.bsv_design.specs.scheme.States.{FitsKinds, part_at}
use Rattle.bsv_graph.specs.Edges.{numbers_below}
use Rattle.bsv_graph.specs.Orders.{In}
use Rattle.bsv_guard.specs.ElementLaws.{IsUse}
use Rattle.bsv_clock.specs.Shows.{Shows}
use Rattle.bsv_clock.specs.Settling.{end_of}
use Rattle.bsv_net.specs.declared.node.NetNode.{NetNode}
use Rattle.bsv_net.specs.declared.wires.MethodPort.{MethodPort}
use Rattle.bsv_net.specs.AtHand.{wires_with, placed, called_in, args_in}
use Rattle.bsv_net.specs.Placing.{Wires, node_at, piece}
use Rattle.bsv_net.proofs.Grows.{Grows, grows_refl, grows_trans, piece_grows}
use Rattle.bsv_net.proofs.PieceMeans.{Carries, piece_means, speaks_of_all}
use Rattle.bsv_ports.specs.declared.call_sites.CallSite.{CallSite}
use Rattle.bsv_ports.specs.CallSites.{or_none, all_call_sites}
use Rattle.bsv_ports.specs.Ports.{PlacedAll, port}
use Rattle.bsv_ports.proofs.Scene.{Scene, S, does, last_call, TellsFiring, TellsPort}
use Rattle.bsv_ports.proofs.PortGrowth.{port_grows}
use Rattle.bsv_ports.proofs.PortTold.{port_told}
use Rattle.bsv_mux.specs.Nexts as nexts
use Rattle.bsv_mux.specs.Nexts.{Told, PlacedPorts}
use Rattle.bsv_mux.proofs.PartNext.{next_signals, next_shows, or_any}
use Rattle.bsv_net.proofs.ShownRegisters.{shows_same, shows_more}

-- ---- lists

node_left : (xs ys : List ℕ) (k : ℕ) → k < length xs → node_at (xs ++ ys) k ≡ node_at xs k
node_left [] ys k l = absurd (omega arith)
node_left (x ∷ xs) ys zero l = refl
node_left (x ∷ xs) ys (suc k) l = node_left xs ys k (omega arith)

node_last : (xs : List ℕ) (y : ℕ) → node_at (xs ++ y ∷ []) (length xs) ≡ y
node_last [] y = refl
node_last (x ∷ xs) y = node_last xs y

pub words_are : (V : ℕ → Bits) (ns : List ℕ) (k : ℕ) → k < length ns → word_at (map V ns) k ≡ V (node_at ns k)
words_are V [] k l = absurd (omega arith)
words_are V (n ∷ ns) zero l = refl
words_are V (n ∷ ns) (suc k) l = words_are V ns k (omega arith)

-- ---- growth

module _ (x : Told) (t : Table) where
  ports_grow : (ss : List CallSite) (ns : List NetNode) (so_far : List (Option MethodPort)) (ms : List ℕ) → Grows ns (nexts.ports x t ss ns so_far ms).nodes
  unfolding nexts.ports
  ports_grow ss ns so_far [] = grows_refl ns
  ports_grow ss ns so_far (m ∷ ms) =
      let p = port t x.none x.fires x.sites m ns ss in
      grows_trans (port_grows t x.none x.fires x.sites m ns ss) (ports_grow ss p.nodes (so_far ++ Some p.port ∷ []) ms)

  ports_both : (ss : List CallSite) (ns : List NetNode) (so_far : List (Option MethodPort)) (xs ys : List ℕ)
      → nexts.ports x t ss ns so_far (xs ++ ys) ≡ nexts.ports x t ss (nexts.ports x t ss ns so_far xs).nodes (nexts.ports x t ss ns so_far xs).ports ys
  unfolding nexts.ports
  ports_both ss ns so_far [] ys = refl
  ports_both ss ns so_far (m ∷ ms) ys =
      let p = port t x.none x.fires x.sites m ns ss in
      ports_both ss p.nodes (so_far ++ Some p.port ∷ []) ms ys

  pieces_grow : (w : Wires) (ns : List NetNode) (so_far rs : List ℕ) → Grows ns (nexts.pieces x t w ns so_far rs).nodes
  unfolding nexts.pieces
  pieces_grow w ns so_far [] = grows_refl ns
  pieces_grow w ns so_far (r ∷ rs) =
      let p = piece w ns (t.next_piece r) in
      grows_trans (piece_grows w ns (t.next_piece r)) (pieces_grow w p.nodes (so_far ++ p.place ∷ []) rs)

  pieces_both : (w : Wires) (ns : List NetNode) (so_far xs ys : List ℕ)
      → nexts.pieces x t w ns so_far (xs ++ ys) ≡ nexts.pieces x t w (nexts.pieces x t w ns so_far xs).nodes (nexts.pieces x t w ns so_far xs).places ys
  unfolding nexts.pieces
  pieces_both w ns so_far [] ys = refl
  pieces_both w ns so_far (r ∷ rs) ys =
      let p = piece w ns (t.next_piece r) in
      pieces_both w p.nodes (so_far ++ p.place ∷ []) rs ys

module _ (x : Told) where
  pub part_grows : (k : Kind) (start : ℕ) (ss : List CallSite) (ns : List NetNode) (so_far : List ℕ) → Grows ns (nexts.part_nexts x k start ss ns so_far).nodes
  unfolding nexts.part_nexts
  part_grows k start ss ns so_far = of ((kind_table k).registers == 0)
    where
      all : PlacedPorts
      all = nexts.all_ports x (kind_table k) ss ns

      w : Wires
      w = wires_with start all.ports (kind_table k).methods []

      of : (b : Bool) → Grows ns (cond b (record { nodes = ns; places = so_far }) (nexts.all_pieces x (kind_table k) w all.nodes so_far)).nodes
      of true = grows_refl ns
      of false = grows_trans (ports_grow x (kind_table k) ss ns [] (numbers_below (kind_table k).methods))
          (pieces_grow x (kind_table k) w all.nodes so_far (numbers_below (kind_table k).registers))

  pub nexts_grow : (starts : List ℕ) (call_sites : List (List CallSite)) (i : ℕ) (ns : List NetNode) (so_far : List ℕ) (ks : List Kind)
      → Grows ns (nexts.nexts x starts call_sites i ns so_far ks).nodes
  unfolding nexts.nexts
  nexts_grow starts call_sites i ns so_far [] = grows_refl ns
  nexts_grow starts call_sites i ns so_far (k ∷ ks) =
      let p = nexts.part_nexts x k (node_at starts i) (or_none (slice_get call_sites i)) ns so_far in
      grows_trans (part_grows k (node_at starts i) (or_none (slice_get call_sites i)) ns so_far) (nexts_grow starts call_sites (i + 1) p.nodes p.places ks)

-- ---- meaning

module _ (z : Scene) (x : Told) (zero_bit : z.V x.none ≡ bit false) (all : List ℕ) (told : TellsFiring z x.fires x.sites all)
    (each : (n i m : ℕ) → IsUse (S z) n (record { part = i; method = m }) → In all n)
    (call_sites : List (List CallSite)) (are : call_sites ≡ all_call_sites (kinds_of z.b) z.b.elements z.made.execution)
    (i : ℕ) (k : Kind) (there : slice_get (kinds_of z.b) i ≡ Some k) where
  abbrev t : Table
  t = kind_table k

  abbrev ss : List CallSite
  ss = or_none (slice_get call_sites i)

  record PortsTold (n : ℕ) (r : PlacedPorts) : Type 0 where
    long : length r.ports ≡ n
    port_at : (m : ℕ) → m < n → (p : MethodPort) × (slice_get r.ports m ≡ Some (Some p)) × TellsPort z.V (t.arity m) (last_call z i m) p

  one_port_more : (n : ℕ) (r : PlacedPorts) (p : MethodPort) → PortsTold n r → TellsPort z.V (t.arity n) (last_call z i n) p → (ns : List NetNode)
      → PortsTold (suc n) (record { nodes = ns; ports = r.ports ++ Some p ∷ [] })
  one_port_more n r p h tells ns = record {
    long = length-append r.ports (Some p ∷ []) ∙ omega (arith, h.long);
    port_at = λ m l. of m (cases_lt m n) l;
  }
    where
      of : (m : ℕ) → (m < n) ⊎ (n ≤ m) → m < suc n
          → (q : MethodPort) × (slice_get (r.ports ++ Some p ∷ []) m ≡ Some (Some q)) × TellsPort z.V (t.arity m) (last_call z i m) q
      of m (inl l) _ = let old = h.port_at m l in (old.0, at_left r.ports (Some p ∷ []) m (omega (arith, h.long)) ∙ old.1, old.2)
      of m (inr l) less =
          let is : n ≡ m = omega arith in (
            p,
            ap (slice_get (r.ports ++ Some p ∷ [])) (omega (arith, h.long)) ∙ at_end r.ports (Some p),
            subst (λ j. TellsPort z.V (t.arity j) (last_call z i j) p) is tells,
          )

  ports_told : (n : ℕ) → n ≤ t.methods → (ns : List NetNode) → Grows (nexts.ports x t ss ns [] (numbers_below n)).nodes z.full
      → PortsTold n (nexts.ports x t ss ns [] (numbers_below n))
  unfolding nexts.ports
  ports_told zero most ns g = record { long = refl; port_at = λ m l. absurd (omega arith) }
  ports_told (suc n) most ns g =
      let r = nexts.ports x t ss ns [] (numbers_below n) in
      let p = port t x.none x.fires x.sites n r.nodes ss in
      let both = ports_both x t ss ns [] (numbers_below n) (n ∷ []) in
      let grown : Grows p.nodes z.full = subst (λ (y : PlacedPorts). Grows y.nodes z.full) both g in
      subst (λ (y : PlacedPorts). PortsTold (suc n) y) (sym both)
      (one_port_more n r p.port (ports_told n (omega arith) ns (grows_trans (port_grows t x.none x.fires x.sites n r.nodes ss) grown))
      (port_told z call_sites are x.none zero_bit x.fires x.sites all told i n k there (omega arith) (λ m u. each m i n u) r.nodes grown) p.nodes)

  -- ---- pieces

  record PiecesTold (v : Signals) (so_far : List ℕ) (n : ℕ) (p : PlacedAll) : Type 0 where
    more : List ℕ
    is : p.places ≡ so_far ++ more
    long : length more ≡ n
    means : (r : ℕ) → r < n → z.V (node_at more r) ≡ word_of v (t.next_piece r)

  module _ (v : Signals) (w : Wires) (carries : Carries t (λ m. Unit {0}) (λ m. Unit {0}) z.V w v) (so_far : List ℕ) where
    one_piece_more : (n : ℕ) (p : PlacedAll) → PiecesTold v so_far n p → (place : ℕ) → z.V place ≡ word_of v (t.next_piece n) → (ns : List NetNode)
        → PiecesTold v so_far (suc n) (record { nodes = ns; places = p.places ++ place ∷ [] })
    one_piece_more n p h place means ns = record {
      more = h.more ++ place ∷ [];
      is = ap (λ (xs : List ℕ). xs ++ place ∷ []) h.is ∙ append_assoc so_far h.more (place ∷ []);
      long = length-append h.more (place ∷ []) ∙ omega (arith, h.long);
      means = λ r l. of r (cases_lt r n) l;
    }
      where
        of : (r : ℕ) → (r < n) ⊎ (n ≤ r) → r < suc n → z.V (node_at (h.more ++ place ∷ []) r) ≡ word_of v (t.next_piece r)
        of r (inl l) _ = ap z.V (node_left h.more (place ∷ []) r (omega (arith, h.long))) ∙ h.means r l
        of r (inr l) less =
            let is : n ≡ r = omega arith in
            ap (λ j. z.V (node_at (h.more ++ place ∷ []) j)) (omega (arith, h.long))
            ∙ (ap z.V (node_last h.more place) ∙ (means ∙ ap (λ j. word_of v (t.next_piece j)) is))

    pieces_told : (n : ℕ) → n ≤ t.registers → (ns : List NetNode) → Grows (nexts.pieces x t w ns so_far (numbers_below n)).nodes z.full
        → PiecesTold v so_far n (nexts.pieces x t w ns so_far (numbers_below n))
    unfolding nexts.pieces
    pieces_told zero most ns g = record { more = []; is = sym (append-nil so_far); long = refl; means = λ r l. absurd (omega arith) }
    pieces_told (suc n) most ns g =
        let p = nexts.pieces x t w ns so_far (numbers_below n) in
        let q = piece w p.nodes (t.next_piece n) in
        let both = pieces_both x t w ns so_far (numbers_below n) (n ∷ []) in
        let grown : Grows q.nodes z.full = subst (λ (y : PlacedAll). Grows y.nodes z.full) both g in
        subst (λ (y : PlacedAll). PiecesTold v so_far (suc n) y) (sym both)
        (one_piece_more n p (pieces_told n (omega arith) ns (grows_trans (piece_grows w p.nodes (t.next_piece n)) grown)) q.place
        (piece_means t (λ m. Unit {0}) (λ m. Unit {0}) z.inputs z.registers z.V z.full z.widths z.solved w v carries p.nodes (t.next_piece n) (t.register_width n)
        ((kind_laws k).widths.next_piece n (omega arith)) (speaks_of_all (t.next_piece n)) grown) q.nodes)

  -- ---- the part

  abbrev end : Part
  end = part_at (end_of (S z) z.made z.s (does z)) i

  pub record PartTold (so_far : List ℕ) (p : PlacedAll) : Type 0 where
    pub more : List ℕ
    pub is : p.places ≡ so_far ++ more
    pub long : length more ≡ t.registers
    pub shows : t.Shows end (word_at (map z.V more))

  same_argument : (last : Option (List Bits)) (p : MethodPort) (arity j : ℕ) → TellsPort z.V arity last p → j < arity → z.V (node_at p.args j) ≡ or_any last j (z.V (node_at p.args j))
  same_argument None p arity j tells l = refl
  same_argument (Some args) p arity j tells l = tells.args args refl j l

  module _ (start : ℕ) (registers : ℕ → Bits) (shown : t.Shows (part_at z.s i) registers) (stand : (n : ℕ) → n < t.registers → z.V (start + n) ≡ registers n)
      (fits : t.Fits end) (in_scheme : slice_get (S z).kinds i ≡ Some k) where
    empty_told : (ns : List NetNode) (so_far : List ℕ) → t.registers ≡ 0 → PartTold so_far (record { nodes = ns; places = so_far })
    empty_told ns so_far nothing = record {
      more = [];
      is = sym (append-nil so_far);
      long = sym nothing;
      shows = shows_same k end (λ r. word_of (next_signals z i registers (λ m j. bit false)) (t.next_piece r)) (word_at []) fits
          (λ r l. absurd (omega (arith, l, nothing))) (next_shows z i k in_scheme registers (λ m j. bit false) shown);
    }

    module _ (ns : List NetNode) (so_far : List ℕ) where
      abbrev ports : PlacedPorts
      ports = nexts.all_ports x t ss ns

      abbrev w : Wires
      w = wires_with start ports.ports t.methods []

      abbrev others : ℕ → ℕ → Bits
      others m j = z.V (w.argument m j)

      abbrev v : Signals
      v = next_signals z i registers others

      carries : PortsTold t.methods ports → Carries t (λ m. Unit {0}) (λ m. Unit {0}) z.V w v
      carries h = record {
        registers = stand;
        called = λ m l _. let found = h.port_at m l in ap (λ (o : Option (Option MethodPort)). z.V (called_in (placed o))) found.1 ∙ found.2.called;
        argument = λ m j l less _. argument_told m j l less (m == t.methods) refl;
      }
        where
          argument_told : (m j : ℕ) → m < t.methods → j < t.arity m → (b : Bool) → (m == t.methods) ≡ b → z.V (w.argument m j) ≡ or_any (last_call z i m) j (z.V (w.argument m j))
          argument_told m j l less true e = absurd (let same = eqb-true m t.methods e in omega arith)
          argument_told m j l less false e =
              let found = h.port_at m l in
              let node : w.argument m j ≡ node_at found.0.args j =
              ap (λ (c : Bool). if c then node_at [] j else node_at (args_in (placed (slice_get ports.ports m))) j) e
              ∙ ap (λ (o : Option (Option MethodPort)). node_at (args_in (placed o)) j) found.1 in
              subst (λ y. z.V y ≡ or_any (last_call z i m) j (z.V y)) (sym node) (same_argument (last_call z i m) found.0 (t.arity m) j found.2 less)

      full_told : Grows (nexts.all_pieces x t w ports.nodes so_far).nodes z.full → PartTold so_far (nexts.all_pieces x t w ports.nodes so_far)
      full_told g =
          let h = ports_told t.methods (omega arith) ns (grows_trans (pieces_grow x t w ports.nodes so_far (numbers_below t.registers)) g) in
          let p = pieces_told v w (carries h) so_far t.registers (omega arith) ports.nodes g in
          record {
            more = p.more;
            is = p.is;
            long = p.long;
            shows = shows_same k end (λ r. word_of v (t.next_piece r)) (word_at (map z.V p.more)) fits
                (λ r l. sym (words_are z.V p.more r (omega (arith, p.long)) ∙ p.means r l)) (next_shows z i k in_scheme registers others shown);
          }

      pub part_told : Grows (nexts.part_nexts x k start ss ns so_far).nodes z.full → PartTold so_far (nexts.part_nexts x k start ss ns so_far)
      unfolding nexts.part_nexts
      part_told g = of (t.registers == 0) refl g
        where
          of : (b : Bool) → (t.registers == 0) ≡ b → Grows (cond b (record { nodes = ns; places = so_far }) (nexts.all_pieces x t w ports.nodes so_far)).nodes z.full
              → PartTold so_far (cond b (record { nodes = ns; places = so_far }) (nexts.all_pieces x t w ports.nodes so_far))
          of true e g = empty_told ns so_far (eqb-true t.registers 0 e)
          of false e g = full_told g

-- ---- all parts

module _ (z : Scene) (x : Told) (zero_bit : z.V x.none ≡ bit false) (all : List ℕ) (told : TellsFiring z x.fires x.sites all)
    (each : (n i m : ℕ) → IsUse (S z) n (record { part = i; method = m }) → In all n)
    (call_sites : List (List CallSite)) (are : call_sites ≡ all_call_sites (kinds_of z.b) z.b.elements z.made.execution)
    (starts : List ℕ)
    (shown : (i : ℕ) (k : Kind) → slice_get (kinds_of z.b) i ≡ Some k
    → (r : ℕ → Bits) × (kind_table k).Shows (part_at z.s i) r × ((n : ℕ) → n < (kind_table k).registers → z.V (node_at starts i + n) ≡ r n)) where
  same_kinds : (S z).kinds ≡ kinds_of z.b
  unfolding design_scheme
  same_kinds = refl

  abbrev ends : List Part
  ends = end_of (S z) z.made z.s (does z)

  pub record NextsTold (so_far : List ℕ) (ks : List Kind) (ps : List Part) (p : PlacedAll) : Type 0 where
    pub more : List ℕ
    pub is : p.places ≡ so_far ++ more
    pub shows : Shows ks ps (map z.V more)

  -- the parts from this place on
  pub nexts_told : (ks : List Kind) (ps : List Part) → FitsKinds ks ps → (i : ℕ) → ((j : ℕ) → slice_get (kinds_of z.b) (i + j) ≡ slice_get ks j)
      → ((j : ℕ) → part_at ends (i + j) ≡ part_at ps j) → (ns : List NetNode) (so_far : List ℕ) → Grows (nexts.nexts x starts call_sites i ns so_far ks).nodes z.full
      → NextsTold so_far ks ps (nexts.nexts x starts call_sites i ns so_far ks)
  unfolding nexts.nexts
  nexts_told [] [] fit i kinds parts ns so_far g = record { more = []; is = sym (append-nil so_far); shows = tt }
  nexts_told [] (p ∷ ps) fit i kinds parts ns so_far g = absurd fit
  nexts_told (k ∷ ks) [] fit i kinds parts ns so_far g = absurd fit
  nexts_told (k ∷ ks) (p ∷ ps) fit i kinds parts ns so_far g =
      let here : slice_get (kinds_of z.b) i ≡ Some k = ap (slice_get (kinds_of z.b)) (omega arith) ∙ kinds 0 in
      let end_is : part_at ends i ≡ p = ap (part_at ends) (omega arith) ∙ parts 0 in
      let own = shown i k here in
      let q = nexts.part_nexts x k (node_at starts i) (or_none (slice_get call_sites i)) ns so_far in
      let one = part_told z x zero_bit all told each call_sites are i k here (node_at starts i) own.0 own.1 own.2
      (subst (λ (y : Part). (kind_table k).Fits y) (sym end_is) fit.0) (ap (λ (xs : List Kind). slice_get xs i) same_kinds ∙ here) ns so_far
      (grows_trans (nexts_grow x starts call_sites (i + 1) q.nodes q.places ks) g) in
      let rest = nexts_told ks ps fit.1 (i + 1) (λ j. ap (slice_get (kinds_of z.b)) (omega arith) ∙ kinds (suc j)) (λ j. ap (part_at ends) (omega arith) ∙ parts (suc j)) q.nodes q.places g in
      record {
        more = one.more ++ rest.more;
        is = rest.is ∙ (ap (λ (xs : List ℕ). xs ++ rest.more) one.is ∙ append_assoc so_far one.more rest.more);
        shows = subst (λ (ws : List Bits). Shows (k ∷ ks) (p ∷ ps) ws) (sym (map-append z.V one.more rest.more))
            (shows_more k p ks ps (map z.V one.more) (map z.V rest.more) fit.0 (length-map one.more z.V ∙ one.long)
            (subst (λ (y : Part). (kind_table k).Shows y (word_at (map z.V one.more))) end_is one.shows) rest.shows);
      }
