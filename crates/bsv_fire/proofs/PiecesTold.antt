-- The node of a guard tells whether the method is open in the clock's look, and that of a result has the word that the
-- method gives there.
use Rattle.std.proofs.Common.{◌≡◌, ◌∙◌, ◌+◌, ◌<◌, ◌&&◌, ◌⊎◌, ℕ, zero, suc, Bool, true, false, not, cond, List, [], ◌∷◌, length, map, Option, Some, None, MatchOption, is_some, refl, sym, ap, subst, arith}
use Rattle.std.specs.Prelude.{slice_get, nat_lt, ◌==◌, if◌then◌else◌}
use Rattle.std.proofs.lemmas.Bool.{eq-eqb, eqb-true, lt-ltb, ltb-true, ne_eqb}
use Rattle.bsv_bits.specs.Words.{Bits, bit}
use Rattle.bsv_prim.specs.declared.part.Part.{Part}
use Rattle.bsv_prim.specs.Calls as prim
use Rattle.bsv_prim.specs.Calls.{IsOrderly}
use Rattle.bsv_prim.specs.Signals.{is_one, word_of}
use Rattle.bsv_prim.specs.Table.{CallFits, word_at}
use Rattle.bsv_prim.proofs.Seen.{unseen_by_itself}
use Rattle.bsv_design.specs.declared.kind.Kind.{Kind}
use Rattle.bsv_design.specs.design.Bodies.{Target}
use Rattle.bsv_design.specs.parts.Kinds.{kind_table, kind_laws}
use Rattle.bsv_design.specs.scheme.Schemes.{Called, design_scheme, guard_of, is_open, result_of}
use Rattle.bsv_design.specs.scheme.States.{FitsKinds, emptied, part_at}
use Rattle.bsv_design.specs.scheme.Traces.{kind_at, acts}
use Rattle.bsv_guard.specs.ElementLaws.{IsUse}
use Rattle.bsv_guard.specs.Fitting.{IsFitCall, IsMethodOf}
use Rattle.bsv_guard.specs.Turns.{calls_on}
use Rattle.bsv_clock.specs.Grounds.{BelongTogether}
use Rattle.bsv_clock.specs.Settling.{deeds, look_of}
use Rattle.bsv_clock.proofs.CallLists.{seen_on}
use Rattle.bsv_clock.proofs.Clocks.{clock_fed}
use Rattle.bsv_clock.proofs.Steadily.{emptied_fits, looked_at, steady_scheme}
use Rattle.bsv_net.specs.declared.node.NetNode.{NetNode}
use Rattle.bsv_net.specs.declared.wires.MethodPort.{MethodPort}
use Rattle.bsv_net.specs.AtHand.{called_in, args_in}
use Rattle.bsv_net.specs.Placing.{Placed, node_at, piece}
use Rattle.bsv_net.proofs.Grows.{Grows}
use Rattle.bsv_net.proofs.PieceMeans.{Carries, piece_means}
use Rattle.bsv_fire.specs.Bodies.{Ports, guard, result, wires_of}
use Rattle.bsv_ports.specs.Ports.{arity_of}
use Rattle.bsv_fire.specs.Grounds.{Base, Ground}
use Rattle.bsv_ports.proofs.Scene.{Scene, S, does, looks, TellsPort, last_call}
use Rattle.bsv_fire.proofs.Frame.{IsGround, placed_port}
use Rattle.bsv_fire.proofs.PieceSignals.{TellsSeen, guard_means, result_means}
use Rattle.bsv_ports.proofs.CallSitesTold.{node_word}
use Rattle.bsv_fire.proofs.Wired.{SeesPorts, wired, wired_in, wired_signals}
use Rattle.bsv_guard.proofs.Turns.{fits_at}

-- ---- bits and nodes

is_one_bit : (b : Bool) → is_one (bit b) ≡ b
is_one_bit true = refl
is_one_bit false = refl

bit_again : (w : Bits) (b : Bool) → w ≡ bit b → w ≡ bit (is_one w)
bit_again w b e = e ∙ sym (ap (λ (x : Bits). bit (is_one x)) e ∙ ap bit (is_one_bit b))

pub emptied_at : (ks : List Kind) (ps : List Part) → FitsKinds ks ps → (i : ℕ) (k : Kind) → slice_get ks i ≡ Some k → part_at (emptied ks ps) i ≡ (kind_table k).emptied (part_at ps i)
emptied_at [] ps h i k e = absurd (let n : ⊥ = cc in n)
emptied_at (x ∷ ks) [] h i k e = absurd h
emptied_at (x ∷ ks) (p ∷ ps) h zero k e = let same : x ≡ k = cc in ap (λ (y : Kind). (kind_table y).emptied p) same
emptied_at (x ∷ ks) (p ∷ ps) h (suc i) k e = emptied_at ks ps h.1 i k e

-- ---- what is placed

abbrev guard_as : Base → Ports → Option Kind → ℕ → ℕ → List NetNode → Placed
guard_as g ports None i m ns = record { nodes = ns; place = g.none }
guard_as g ports (Some k) i m ns =
    cond (nat_lt m (kind_table k).methods) (piece (wires_of g ports i m []) ns ((kind_table k).guard_piece m)) (record { nodes = ns; place = g.none })

abbrev result_as : Base → Ports → Option Kind → ℕ → ℕ → List ℕ → List NetNode → Placed
result_as g ports None i m args ns = record { nodes = ns; place = g.none }
result_as g ports (Some k) i m args ns =
    cond (nat_lt m (kind_table k).methods && not ((kind_table k).is_action m))
    (piece (wires_of g ports i m args) ns ((kind_table k).result_piece m)) (record { nodes = ns; place = g.none })

guard_is : (g : Base) (ports : Ports) (i m : ℕ) (ns : List NetNode) → guard g ports i m ns ≡ guard_as g ports (slice_get g.kinds i) i m ns
unfolding guard
guard_is g ports i m ns = refl

result_is : (g : Base) (ports : Ports) (i m : ℕ) (args : List ℕ) (ns : List NetNode) → result g ports i m args ns ≡ result_as g ports (slice_get g.kinds i) i m args ns
unfolding result
result_is g ports i m args ns = refl

pub guard_placed : (g : Base) (ports : Ports) (i m : ℕ) (ns : List NetNode) (k : Kind) → slice_get g.kinds i ≡ Some k → m < (kind_table k).methods
    → guard g ports i m ns ≡ piece (wires_of g ports i m []) ns ((kind_table k).guard_piece m)
guard_placed g ports i m ns k is below =
    guard_is g ports i m ns
    ∙ ap (λ (o : Option Kind). guard_as g ports o i m ns) is
    ∙ ap (λ (b : Bool). cond b (piece (wires_of g ports i m []) ns ((kind_table k).guard_piece m)) (record { nodes = ns; place = g.none })) (lt-ltb m (kind_table k).methods below)

-- ---- one method

module _ (z : Scene) (g : Ground) (ground : IsGround z g) (ports : Ports) (t : Target) (sees : SeesPorts z ports t) where
  abbrev all : List Called
  all = deeds (does z) z.made.execution

  abbrev start : List Part
  start = emptied (S z).kinds z.s

  start_fits : FitsKinds (S z).kinds start
  start_fits = emptied_fits (S z).kinds z.s z.fit.parts

  together : BelongTogether (S z) z.made z.q z.s
  together = record { lawful = z.lawful; schedule = z.scheduled; fit = z.fit }

  same_kind : slice_get g.base.kinds t.part ≡ kind_at (S z).kinds t
  unfolding design_scheme
  same_kind = ap (λ (ks : List Kind). slice_get ks t.part) ground.kinds

  module _ (k : Kind) (is : kind_at (S z).kinds t ≡ Some k) where
    not_itself : (m : ℕ) → (kind_table k).sees m t.method ≡ true → (m == t.method) ≡ false
    not_itself m s = ne_eqb m t.method (λ e. absurd (let x : false ≡ true = sym (unseen_by_itself (kind_table k) (kind_laws k) t.method) ∙ (ap (λ (j : ℕ). (kind_table k).sees j t.method) (sym e) ∙ s) in let n : ⊥ = cc in n))

    -- ---- nodes and signals

    module _ (args : List ℕ) (words : List Bits) (A : ℕ → Type 0) (own : (n : ℕ) → n < (kind_table k).arity t.method → A t.method → z.V (node_at args n) ≡ word_at words n) where
      called_bit : (m : ℕ) → m < (kind_table k).methods → (kind_table k).sees m t.method ≡ true
          → z.V (called_in (placed_port ports t.part m)) ≡ bit (is_one (z.V (called_in (placed_port ports t.part m))))
      called_bit m l s =
          let p = sees.each k is m l s in
          bit_again (z.V (called_in (placed_port ports t.part m))) (is_some (last_call z t.part m))
          (ap (λ (o : Option MethodPort). z.V (called_in o)) p.1 ∙ p.2.called)

      argument_word : (m n : ℕ) → n < (kind_table k).arity m → A m → (b : Bool) → (m == t.method) ≡ b
          → z.V (if b then node_at args n else node_at (args_in (placed_port ports t.part m)) n) ≡ (if b then word_at words n else z.V (node_at (args_in (placed_port ports t.part m)) n))
      argument_word m n l a true e =
          let same = eqb-true m t.method e in
          own n (subst (λ (j : ℕ). n < (kind_table k).arity j) same l) (subst A same a)
      argument_word m n l a false e = refl

      carried : Carries (kind_table k) (λ m. (kind_table k).sees m t.method ≡ true) A z.V (wires_of g.base ports t.part t.method args) (wired_signals z g.base ports t.part t.method words)
      carried = record {
        registers = λ n l. refl;
        called = called_bit;
        argument = λ m n l small a. argument_word m n small a (m == t.method) refl;
      }

    -- ---- signals and the clock

    seen_told : (words : List Bits) → TellsSeen (kind_table k) t.method (wired_signals z g.base ports t.part t.method words) (calls_on t.part all)
    seen_told words m l s = cases (last_call z t.part m) refl
      where
        p : (p : MethodPort) × (placed_port ports t.part m ≡ Some p) × TellsPort z.V ((kind_table k).arity m) (last_call z t.part m) p
        p = sees.each k is m l s

        called_is : is_one (z.V (called_in (placed_port ports t.part m))) ≡ is_some (last_call z t.part m)
        called_is = ap (λ (o : Option MethodPort). is_one (z.V (called_in o))) p.1 ∙ (ap is_one p.2.called ∙ is_one_bit (is_some (last_call z t.part m)))

        cases : (o : Option (List Bits)) → last_call z t.part m ≡ o
            → MatchOption o (is_one (z.V (called_in (placed_port ports t.part m))) ≡ false)
            (λ args. (is_one (z.V (called_in (placed_port ports t.part m))) ≡ true)
            × ((n : ℕ) → n < (kind_table k).arity m → (if m == t.method then word_at words n else z.V (node_at (args_in (placed_port ports t.part m)) n)) ≡ word_at args n))
        cases None e = called_is ∙ ap is_some e
        cases (Some args) e = (
          called_is ∙ ap is_some e,
          λ n small.
              ap (λ (b : Bool). if b then word_at words n else z.V (node_at (args_in (placed_port ports t.part m)) n)) (not_itself m s)
              ∙ (ap (λ (o : Option MethodPort). z.V (node_at (args_in o) n)) p.1 ∙ p.2.args args e n small),
        )

    -- ---- the part

    abbrev here : Part
    here = part_at start t.part

    was_fit : (kind_table k).Fits (part_at z.s t.part)
    was_fit = fits_at (S z).kinds z.s z.fit.parts t.part k is

    here_fits : (kind_table k).Fits here
    here_fits = fits_at (S z).kinds start start_fits t.part k is

    here_is : here ≡ (kind_table k).emptied (part_at z.s t.part)
    here_is = emptied_at (S z).kinds z.s z.fit.parts t.part k is

    here_empty : (kind_table k).emptied here ≡ here
    here_empty = subst (λ (p : Part). (kind_table k).emptied p ≡ p) (sym here_is) ((kind_laws k).fit.emptied_twice (part_at z.s t.part) was_fit)

    here_shown : (r : ℕ → Bits) × (kind_table k).Shows here r × ((n : ℕ) → n < (kind_table k).registers → z.V (node_at g.base.registers t.part + n) ≡ r n)
    unfolding design_scheme
    here_shown =
        let h = ground.shown t.part k is in
        (h.0, subst (λ (p : Part). (kind_table k).Shows p h.0) (sym here_is) ((kind_laws k).shows.emptied (part_at z.s t.part) h.0 was_fit h.1), h.2)

    orderly : IsOrderly (kind_table k) here (prim.seen_by (kind_table k) t.method (calls_on t.part all))
    orderly =
        subst (IsOrderly (kind_table k) here) (seen_on (S z).kinds t k is all)
        ((clock_fed false (S z) z.made z.q z.s together (steady_scheme false (S z) z.lawful)).seen_orderly t k is)

    look_is : looks z t ≡ prim.look (kind_table k) t.method here (calls_on t.part all)
    unfolding look_of
    look_is = looked_at (S z) z.lawful false z.q z.fit.requests start start_fits all t k is

    -- ---- pieces

    guard_word : (words : List Bits) → t.method < (kind_table k).methods
        → word_of (wired_signals z g.base ports t.part t.method words) ((kind_table k).guard_piece t.method) ≡ bit (is_open (S z).kinds (looks z) t)
    guard_word words below =
        guard_means (kind_table k) t.method here_shown.0 (wired_signals z g.base ports t.part t.method words) here_shown.2 (kind_laws k) here (calls_on t.part all)
        here_fits here_empty here_shown.1 orderly (seen_told words) below
        ∙ ap (λ (p : Part). bit ((kind_table k).guard t.method p)) (sym look_is)
        ∙ ap (λ (o : Option Kind). bit (guard_of o t.method (looks z t))) (sym is)

    result_word : (words : List Bits) → CallFits (kind_table k) (record { method = t.method; args = words }) → (kind_table k).is_action t.method ≡ false
        → (kind_table k).guard t.method (looks z t) ≡ true
        → word_of (wired_signals z g.base ports t.part t.method words) ((kind_table k).result_piece t.method) ≡ (kind_table k).result t.method (looks z t) words
    result_word words fits reads is_true =
        result_means (kind_table k) t.method here_shown.0 (wired_signals z g.base ports t.part t.method words) here_shown.2 (kind_laws k) here (calls_on t.part all)
        here_fits here_empty here_shown.1 orderly (seen_told words) fits.method words fits
        (λ n l. ap (λ (b : Bool). if b then word_at words n else z.V (node_at (args_in (placed_port ports t.part t.method)) n)) (eq-eqb t.method t.method refl))
        reads (ap ((kind_table k).guard t.method) (sym look_is) ∙ is_true)
        ∙ ap (λ (p : Part). (kind_table k).result t.method p words) (sym look_is)

    -- ---- nodes

    guard_node : t.method < (kind_table k).methods → (ns : List NetNode) → Grows (guard g.base ports t.part t.method ns).nodes z.full
        → z.V (guard g.base ports t.part t.method ns).place ≡ bit (is_open (S z).kinds (looks z) t)
    guard_node below ns grows =
        let there = guard_placed g.base ports t.part t.method ns k (same_kind ∙ is) below in
        ap (λ (p : Placed). z.V p.place) there
        ∙ piece_means (kind_table k) (λ m. (kind_table k).sees m t.method ≡ true) (λ m. (kind_table k).sees m t.method ≡ true) z.inputs z.registers z.V z.full z.widths z.solved
        (wires_of g.base ports t.part t.method []) (wired_signals z g.base ports t.part t.method [])
        (carried [] [] (λ m. (kind_table k).sees m t.method ≡ true) (λ n l s. absurd (let x : true ≡ false = sym s ∙ unseen_by_itself (kind_table k) (kind_laws k) t.method in let h : ⊥ = cc in h)))
        ns ((kind_table k).guard_piece t.method) 1 ((kind_laws k).widths.guard_piece t.method below) ((kind_laws k).speaks.guard t.method below)
        (subst (λ (p : Placed). Grows p.nodes z.full) there grows)
        ∙ guard_word [] below

    result_node : (args : List ℕ) → length args ≡ (kind_table k).arity t.method → t.method < (kind_table k).methods → (kind_table k).is_action t.method ≡ false
        → (ns : List NetNode) → Grows (piece (wires_of g.base ports t.part t.method args) ns ((kind_table k).result_piece t.method)).nodes z.full
        → z.V (piece (wires_of g.base ports t.part t.method args) ns ((kind_table k).result_piece t.method)).place
        ≡ word_of (wired_signals z g.base ports t.part t.method (map z.V args)) ((kind_table k).result_piece t.method)
    result_node args many below reads ns grows =
        piece_means (kind_table k) (λ m. (kind_table k).sees m t.method ≡ true) (λ m. ((kind_table k).sees m t.method ≡ true) ⊎ (m ≡ t.method)) z.inputs z.registers z.V z.full z.widths z.solved
        (wires_of g.base ports t.part t.method args) (wired_signals z g.base ports t.part t.method (map z.V args))
        (carried args (map z.V args) (λ m. ((kind_table k).sees m t.method ≡ true) ⊎ (m ≡ t.method)) (λ n l a. node_word z.V args n (omega (arith, many, l))))
        ns ((kind_table k).result_piece t.method) ((kind_table k).result_width t.method) ((kind_laws k).widths.result_piece t.method below reads)
        ((kind_laws k).speaks.result t.method below reads) grows

  -- ---- of any kind

  result_told_in : (args : List ℕ) (ns : List NetNode) (o : Option Kind) → kind_at (S z).kinds t ≡ o → length args ≡ arity_of o t.method
      → Grows (result_as g.base ports o t.part t.method args ns).nodes z.full
      → z.V (result_as g.base ports o t.part t.method args ns).place ≡ wired_in z g.base ports o t.part t.method (map z.V args)
  result_told_in args ns None is many grows = refl
  result_told_in args ns (Some k) is many grows = cases (nat_lt t.method (kind_table k).methods) ((kind_table k).is_action t.method) refl refl grows
    where
      placed : Bool → Placed
      placed b = cond b (piece (wires_of g.base ports t.part t.method args) ns ((kind_table k).result_piece t.method)) (record { nodes = ns; place = g.base.none })

      cases : (a b : Bool) → nat_lt t.method (kind_table k).methods ≡ a → (kind_table k).is_action t.method ≡ b → Grows (placed (a && not b)).nodes z.full
          → z.V (placed (a && not b)).place
          ≡ cond (a && not b) (word_of (wired_signals z g.base ports t.part t.method (map z.V args)) ((kind_table k).result_piece t.method)) (z.V g.base.none)
      cases true false l r h = result_node k is args many (ltb-true t.method (kind_table k).methods l) r ns h
      cases true true l r h = refl
      cases false b l r h = refl

  opened_in : (words : List Bits) (o : Option Kind) → kind_at (S z).kinds t ≡ o → guard_of o t.method (looks z t) ≡ true → acts o t.method ≡ false → IsFitCall o t.method words
      → wired_in z g.base ports o t.part t.method words ≡ result_of o t.method (looks z t) words
  opened_in words None is is_true reads fits = absurd fits
  opened_in words (Some k) is is_true reads fits =
      ap (λ (b : Bool). cond (b && not ((kind_table k).is_action t.method)) (word_of (wired_signals z g.base ports t.part t.method words) ((kind_table k).result_piece t.method)) (z.V g.base.none))
      (lt-ltb t.method (kind_table k).methods fits.method)
      ∙ ap (λ (b : Bool). cond (not b) (word_of (wired_signals z g.base ports t.part t.method words) ((kind_table k).result_piece t.method)) (z.V g.base.none)) reads
      ∙ result_word k is words fits reads is_true

  pub guard_told : (n : ℕ) → IsUse (S z) n t → (ns : List NetNode) → Grows (guard g.base ports t.part t.method ns).nodes z.full
      → z.V (guard g.base ports t.part t.method ns).place ≡ bit (is_open (S z).kinds (looks z) t)
  guard_told n u ns grows = cases (kind_at (S z).kinds t) refl (z.lawful.fitting.methods n t u)
    where
      cases : (o : Option Kind) → kind_at (S z).kinds t ≡ o → IsMethodOf o t.method → z.V (guard g.base ports t.part t.method ns).place ≡ bit (is_open (S z).kinds (looks z) t)
      cases None is m = absurd m
      cases (Some k) is m = guard_node k is m ns grows

  pub result_told : (c : ℕ) (args : List ℕ) → length args ≡ arity_of (kind_at (S z).kinds t) t.method
      → (ns : List NetNode) → Grows (result g.base ports t.part t.method args ns).nodes z.full
      → z.V (result g.base ports t.part t.method args ns).place ≡ wired z g.base ports c t (map z.V args)
  unfolding wired
  result_told c args many ns grows =
      let there = result_is g.base ports t.part t.method args ns ∙ ap (λ (o : Option Kind). result_as g.base ports o t.part t.method args ns) same_kind in
      ap (λ (p : Placed). z.V p.place) there
      ∙ result_told_in args ns (kind_at (S z).kinds t) refl many (subst (λ (p : Placed). Grows p.nodes z.full) there grows)
      ∙ ap (λ (o : Option Kind). wired_in z g.base ports o t.part t.method (map z.V args)) (sym same_kind)

  pub wired_open : (c : ℕ) (words : List Bits) → is_open (S z).kinds (looks z) t ≡ true → acts (kind_at (S z).kinds t) t.method ≡ false
      → IsFitCall (kind_at (S z).kinds t) t.method words
      → wired z g.base ports c t words ≡ result_of (kind_at (S z).kinds t) t.method (looks z t) words
  unfolding wired
  wired_open c words is_true reads fits =
      ap (λ (o : Option Kind). wired_in z g.base ports o t.part t.method words) same_kind
      ∙ opened_in words (kind_at (S z).kinds t) refl is_true reads fits
