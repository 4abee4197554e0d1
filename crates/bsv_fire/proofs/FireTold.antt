-- The node that tells whether an element fires.
use Rattle.std.proofs.Common.{◌≡◌, ◌∙◌, ◌+◌, ◌<◌, inl, ℕ, Bool, true, false, cond, not, ◌&&◌, ◌||◌, List, [], ◌∷◌, ◌++◌, length, Option, Some, None, is_some, refl, sym, ap, ap₂, subst}
use Rattle.std.specs.Prelude.{slice_get, option_map}
use Rattle.std.specs.List.{list_any}
use Rattle.std.proofs.lemmas.Option.{slice_get-map}
use Rattle.bsv_bits.specs.Words.{bit}
use Rattle.bsv_design.specs.declared.element.Element.{Element}
use Rattle.bsv_design.specs.design.Roles.{is_rule}
use Rattle.bsv_design.specs.scheme.Schemes.{Called, design_scheme, outline, ready, calls}
use Rattle.bsv_design.specs.scheme.Serial.{by_rank}
use Rattle.bsv_graph.specs.Orders.{In, IsOnce, place_of}
use Rattle.bsv_graph.proofs.LeastLemmas.{in_right, once_apart}
use Rattle.bsv_clock.specs.Clocks.{is_asked, may_fire, may_fire_as}
use Rattle.bsv_clock.specs.Settling.{decide, fires, is_stopped, stops_in}
use Rattle.bsv_clock.proofs.Settle.{clock_settles}
use Rattle.bsv_clock.proofs.Stopping.{stops_before, urgency_order}
use Rattle.bsv_net.specs.declared.node.NetNode.{NetNode}
use Rattle.bsv_net.specs.Placing.{Placed, both, negated, node_at}
use Rattle.bsv_net.proofs.Gates.{both_means, negated_means}
use Rattle.bsv_net.proofs.Grows.{Grows, grows_refl, grows_trans, grows_add}
use Rattle.bsv_net.specs.declared.node.NetNode.TheVariants as net
use Rattle.bsv_bits.specs.declared.operator.Operator.TheVariants.{And}
use Rattle.bsv_fire.specs.Grounds.{Ground}
use Rattle.bsv_fire.specs.FireBuilder.{asked_and, unless}
use Rattle.bsv_ports.proofs.Scene.{Scene, S, does, looks}
use Rattle.bsv_fire.proofs.Frame.{IsGround}
use Rattle.bsv_fire.proofs.Front.{any_in_front}
use Rattle.bsv_graph.proofs.Fronts.{in_front}

pub unless_grows : (p : Placed) (o : Option ℕ) → Grows p.nodes (unless p o).nodes
unless_grows p None = grows_refl p.nodes
unless_grows p (Some stopper) =
    let q = negated p.nodes stopper in
    grows_trans (grows_add p.nodes (net.Not stopper)) (grows_add q.nodes (net.Two And p.place q.place))

module _ (g : Ground) where
  pub asked_and_grows : (ns : List NetNode) (n : ℕ) (e : Element) (readied : ℕ) → Grows ns (asked_and g ns n e readied).nodes
  asked_and_grows ns n e readied = of (is_rule e.role)
    where
      of : (b : Bool) → Grows ns (cond b (record { nodes = ns; place = readied }) (both ns (node_at g.inputs n + length e.arguments) readied)).nodes
      of true = grows_refl ns
      of false = grows_add ns (net.Two And (node_at g.inputs n + length e.arguments) readied)

-- ---- in the clock

is_some_where : (b : Bool) (cs : List Called) → is_some (cond b (Some cs) None) ≡ b
is_some_where true cs = refl
is_some_where false cs = refl

pub settled : (z : Scene) (n : ℕ) → does z n ≡ decide false (S z) z.made z.q z.s (does z) n
settled z n = clock_settles false (S z) z.made z.lawful z.scheduled z.q z.s n

pub fires_where : (z : Scene) (n : ℕ) → is_some (does z n) ≡ ((may_fire (S z) z.q n && ready false (S z) z.q n (looks z)) && not (is_stopped z.made (does z) n))
unfolding decide
fires_where z n =
    ap is_some (settled z n)
    ∙ is_some_where (may_fire (S z) z.q n && ready false (S z) z.q n (looks z) && not (is_stopped z.made (does z) n)) (by_rank (S z).kinds (calls (S z) z.q n (looks z)))

-- the elements that come before it by urgency alone stop an element
module _ (z : Scene) (placed rest : List ℕ) (n : ℕ) (split : z.made.urgency ≡ placed ++ n ∷ rest) where
  pub once : IsOnce (placed ++ n ∷ rest)
  once = subst IsOnce split (urgency_order (S z) z.made z.scheduled).once

  pub stands_below : n < length (S z).elements
  stands_below = (urgency_order (S z) z.made z.scheduled).below n (subst (λ (xs : List ℕ). In xs n) (sym split) (in_right placed (n ∷ rest) n (inl refl)))

  pub more_urgent : (f : ℕ) → place_of z.made.urgency f < place_of z.made.urgency n → In placed f
  more_urgent f l = in_front placed rest n f once (subst (λ (xs : List ℕ). place_of xs f < place_of xs n) split l)

  never : (f : ℕ) → In (n ∷ rest) f → (fires (does z) f && stops_in z.made f n) ≡ false
  never f i = of (stops_in z.made f n) refl
    where
      and_false : (b : Bool) → (b && false) ≡ false
      and_false true = refl
      and_false false = refl

      of : (b : Bool) → stops_in z.made f n ≡ b → (fires (does z) f && b) ≡ false
      of true h = absurd (once_apart placed (n ∷ rest) f once (more_urgent f (stops_before (S z) z.made z.scheduled f n h)) i)
      of false h = and_false (fires (does z) f)

  pub stopped_in_front : is_stopped z.made (does z) n ≡ list_any (λ f. fires (does z) f && stops_in z.made f n) placed
  unfolding is_stopped
  stopped_in_front =
      ap (list_any (λ f. fires (does z) f && stops_in z.made f n)) split
      ∙ any_in_front (λ f. fires (does z) f && stops_in z.made f n) placed (n ∷ rest) never

  pub stopped_by_none : list_any (λ f. stops_in z.made f n) placed ≡ false → is_stopped z.made (does z) n ≡ false
  stopped_by_none h = stopped_in_front ∙ fewer placed h
    where
      one : (a b : Bool) → b ≡ false → (a && b) ≡ false
      one true b e = e
      one false b e = refl

      both_false : (a b : Bool) → (a || b) ≡ false → (a ≡ false) × (b ≡ false)
      both_false true b e = absurd (let f : ⊥ = cc in f)
      both_false false b e = (refl, e)

      fewer : (us : List ℕ) → list_any (λ f. stops_in z.made f n) us ≡ false → list_any (λ f. fires (does z) f && stops_in z.made f n) us ≡ false
      fewer [] e = refl
      fewer (u ∷ us) e =
          let k = both_false (stops_in z.made u n) (list_any (λ f. stops_in z.made f n) us) e in
          ap₂ (λ (a b : Bool). a || b) (one (fires (does z) u) (stops_in z.made u n) k.0) (fewer us k.1)

  module _ (g : Ground) (ground : IsGround z g) (e : Element) (is : slice_get z.b.elements n ≡ Some e) where
    may : may_fire (S z) z.q n ≡ (is_rule e.role || is_asked z.q n)
    unfolding may_fire design_scheme
    may = ap (may_fire_as z.q n) (slice_get-map outline z.b.elements n ∙ ap (option_map outline) is)

    asked_told : (ns : List NetNode) (readied : ℕ) (p : Bool) → z.V readied ≡ bit p → Grows (asked_and g ns n e readied).nodes z.full
        → z.V (asked_and g ns n e readied).place ≡ bit (may_fire (S z) z.q n && p)
    asked_told ns readied p told grows =
        of (is_rule e.role) refl grows ∙ ap (λ (b : Bool). bit (b && p)) (sym may)
      where
        of : (b : Bool) → is_rule e.role ≡ b → Grows (cond b (record { nodes = ns; place = readied }) (both ns (node_at g.inputs n + length e.arguments) readied)).nodes z.full
            → z.V (cond b (record { nodes = ns; place = readied }) (both ns (node_at g.inputs n + length e.arguments) readied)).place ≡ bit ((b || is_asked z.q n) && p)
        of true h grows = told
        of false h grows =
            both_means z.inputs z.registers z.V z.full z.widths z.solved ns (node_at g.inputs n + length e.arguments) readied (is_asked z.q n) p grows (ground.asked n e is h) told

    unless_told : (p : Placed) (o : Option ℕ) (a stopped : Bool) → z.V p.place ≡ bit a → (o ≡ None → stopped ≡ false) → ((k : ℕ) → o ≡ Some k → z.V k ≡ bit stopped) → Grows (unless p o).nodes z.full
        → z.V (unless p o).place ≡ bit (a && not stopped)
    unless_told p None a stopped told free stopped_is grows = told ∙ ap bit (whole a ∙ ap (λ (b : Bool). a && not b) (sym (free refl)))
      where
        whole : (a : Bool) → a ≡ (a && true)
        whole true = refl
        whole false = refl
    unless_told p (Some k) a stopped told free stopped_is grows =
        let q = negated p.nodes k in
        let inner = grows_trans (grows_add q.nodes (net.Two And p.place q.place)) grows in
        both_means z.inputs z.registers z.V z.full z.widths z.solved q.nodes p.place q.place a (not stopped) grows told
        (negated_means z.inputs z.registers z.V z.full z.widths z.solved p.nodes k stopped inner (stopped_is k refl))

    -- what is known of those that stop it
    pub fire_told : (ns : List NetNode) (o : Option ℕ) (readied : ℕ) → z.V readied ≡ bit (ready false (S z) z.q n (looks z))
        → (o ≡ None → list_any (λ f. stops_in z.made f n) placed ≡ false)
        → ((k : ℕ) → o ≡ Some k → z.V k ≡ bit (list_any (λ f. fires (does z) f && stops_in z.made f n) placed))
        → Grows (unless (asked_and g ns n e readied) o).nodes z.full
        → z.V (unless (asked_and g ns n e readied) o).place ≡ bit (is_some (does z n))
    fire_told ns o readied told free stopped_is grows =
        unless_told (asked_and g ns n e readied) o (may_fire (S z) z.q n && ready false (S z) z.q n (looks z)) (is_stopped z.made (does z) n)
        (asked_told ns readied (ready false (S z) z.q n (looks z)) told (grows_trans (unless_grows (asked_and g ns n e readied) o) grows))
        (λ h. stopped_by_none (free h)) (λ k h. stopped_is k h ∙ ap bit (sym stopped_in_front)) grows
        ∙ ap bit (sym (fires_where z n))
