-- The net as it grows tells of all elements that are in it, and so the whole net tells of all.
use Rattle.std.proofs.Common.{◌≡◌, ◌∙◌, ◌<◌, ℕ, zero, suc, List, [], ◌∷◌, ◌++◌, Option, Some, None, refl, sym, ap, subst, arith, append_assoc, append-nil, length}
use Rattle.std.specs.Prelude.{slice_get, replicate}
use Rattle.std.proofs.lemmas.List.{length-map, length-replicate}
use Rattle.bsv_lemmas.proofs.Places.{mapped_at, item_there}
use Rattle.bsv_design.specs.declared.element.Element.{Element}
use Rattle.bsv_design.specs.declared.kind.Kind.{Kind}
use Rattle.bsv_design.specs.design.Bodies.{Answers, Target}
use Rattle.bsv_design.specs.parts.Kinds.{kind_table}
use Rattle.bsv_design.specs.scheme.Schemes.{design_scheme, kinds_of, outline}
use Rattle.bsv_guard.specs.ElementLaws.{IsUse}
use Rattle.bsv_net.specs.declared.node.NetNode.{NetNode}
use Rattle.bsv_net.specs.declared.node.Site.{Site as NetSite}
use Rattle.bsv_net.specs.declared.wires.MethodPort.{MethodPort}
use Rattle.bsv_net.specs.AtHand.{placed}
use Rattle.bsv_net.proofs.Grows.{Grows, grows_trans}
use Rattle.bsv_ports.specs.CallSites.{or_none}
use Rattle.bsv_fire.specs.Bodies.{Ports}
use Rattle.bsv_fire.specs.Grounds.{Ground}
use Rattle.bsv_fire.specs.FireBuilder.{FireBuilder, grown, no_ports, none_placed, flattened, with_element, with_number, with_ports}
use Rattle.bsv_fire.proofs.Element.{element_told}
use Rattle.bsv_fire.proofs.FireTold.{stands_below}
use Rattle.bsv_ports.proofs.Scene.{Scene, S}
use Rattle.bsv_fire.proofs.Frame.{IsGround, Tells, placed_port}
use Rattle.bsv_fire.proofs.Setting.{in_replicate}
use Rattle.bsv_fire.proofs.PortsPlaced.{PortsTold, seen_placed}
use Rattle.bsv_fire.proofs.Steps.{element_grows, grown_grows}
use Rattle.bsv_fire.proofs.Wired.{SeesPorts}
use Rattle.bsv_fire.proofs.Wiring.{IsWired}

-- ---- no element is there yet

pub none_told : (z : Scene) (ns : List NetNode) → Grows ns z.full → Tells z (none_placed (kinds_of z.b) (length z.b.elements) ns) []
none_told z ns grows = record {
  nodes = grows;
  elements = λ n i. absurd i;
  firing = record { fire = λ n i. absurd i; calls = λ n i. absurd i; told = λ n i. absurd i; others = λ n o. none (slice_get (replicate count []) n) (λ ss e. in_replicate count n [] ss e) };
  long = length-replicate count 0;
  long_stoppers = length-replicate count None;
  long_readies = length-replicate count 0;
  long_results = length-replicate count None;
  long_sites = length-replicate count [];
  free = λ n e. refl;
  stopped_is = λ n k e. absurd (nobody (slice_get (replicate count None) n) k (λ o f. in_replicate count n None o f) e);
  rooms = rooms;
  ports = λ i m k p there e. absurd (nothing i m p e);
}
  where
    count : ℕ
    count = length z.b.elements

    none : (o : Option (List NetSite)) → ((ss : List NetSite) → o ≡ Some ss → ss ≡ []) → or_none o ≡ []
    none None h = refl
    none (Some ss) h = h ss refl

    nobody : (o : Option (Option ℕ)) (k : ℕ) → ((x : Option ℕ) → o ≡ Some x → x ≡ None) → flattened o ≡ Some k → ⊥
    nobody None k h e = let f : ⊥ = cc in f
    nobody (Some x) k h e = let a : x ≡ None = h x refl in let f : ⊥ = cc in f

    rooms : (i : ℕ) (k : Kind) → slice_get (kinds_of z.b) i ≡ Some k
        → (ps : List (Option MethodPort)) × (slice_get (no_ports (kinds_of z.b)) i ≡ Some ps) × (length ps ≡ (kind_table k).methods)
    rooms i k there =
        (replicate (kind_table k).methods None, mapped_at (λ (c : Kind). replicate (kind_table c).methods None) (kinds_of z.b) i k there, length-replicate (kind_table k).methods None)

    empty_slot : (o : Option (Option MethodPort)) (p : MethodPort) → ((x : Option MethodPort) → o ≡ Some x → x ≡ None) → placed o ≡ Some p → ⊥
    empty_slot None p h e = let f : ⊥ = cc in f
    empty_slot (Some x) p h e = let a : x ≡ None = h x refl in let f : ⊥ = cc in f

    nothing : (i m : ℕ) (p : MethodPort) → placed_port (no_ports (kinds_of z.b)) i m ≡ Some p → ⊥
    nothing i m p e = of (kinds_of z.b) i e
      where
        of : (ks : List Kind) (i : ℕ) → placed_port (no_ports ks) i m ≡ Some p → ⊥
        of [] i e = let f : ⊥ = cc in f
        of (k ∷ ks) zero e = empty_slot (slice_get (replicate (kind_table k).methods None) m) p (λ x f. in_replicate (kind_table k).methods m None x f) e
        of (k ∷ ks) (suc i) e = of ks i e

-- ---- one element after the other

element_there : (z : Scene) (stand rest : List ℕ) (n : ℕ) → z.made.urgency ≡ stand ++ n ∷ rest → n < length z.b.elements
unfolding design_scheme
element_there z stand rest n split = let l = stands_below z stand rest n split in omega (arith, l, length-map z.b.elements outline)

-- what is known of pieces: where the methods that a method sees are placed, its guard and its result are told
abbrev pub PiecesTold : Scene → Ground → (Ports → Answers) → Type 0
PiecesTold z g answers = (ports : Ports) (n : ℕ) → ((t : Target) → IsUse (S z) n t → SeesPorts z ports t) → IsWired z g.base ports n (answers ports)

module _ (z : Scene) (g : Ground) (ground : IsGround z g) (ports_told : PortsTold z g) (answers : Ports → Answers) (pieces_told : PiecesTold z g answers) where
  pub with_element_told : (stand rest : List ℕ) (n : ℕ) → z.made.urgency ≡ stand ++ n ∷ rest → (e : Element) → slice_get z.b.elements n ≡ Some e
      → (x : FireBuilder) → Tells z x stand → Grows (with_element g x n e).nodes z.full → Tells z (with_element g x n e) (stand ++ n ∷ [])
  unfolding with_element
  with_element_told stand rest n split e is x tells grows =
      let y = with_ports g x e.calls in
      let r = seen_placed z g ground ports_told stand rest n split e is x tells (grows_trans (element_grows g y n e) grows) in
      element_told z g ground stand rest n split e is y r.0 (answers y.ports) (pieces_told y.ports n r.1) grows

  number_told : (stand rest : List ℕ) (n : ℕ) → z.made.urgency ≡ stand ++ n ∷ rest → (o : Option Element) → slice_get z.b.elements n ≡ o → n < length z.b.elements
      → (x : FireBuilder) → Tells z x stand → Grows (with_number g x n o).nodes z.full → Tells z (with_number g x n o) (stand ++ n ∷ [])
  number_told stand rest n split None is l x tells grows =
      let s = item_there z.b.elements n l in
      let t = s.1 in
      absurd (let f : ⊥ = cc in f)
  number_told stand rest n split (Some e) is l x tells grows = with_element_told stand rest n split e is x tells grows

  pub grown_told : (ns stand : List ℕ) → z.made.urgency ≡ stand ++ ns → (x : FireBuilder) → Tells z x stand → Grows (grown g x ns).nodes z.full → Tells z (grown g x ns) (stand ++ ns)
  unfolding grown
  grown_told [] stand split x tells grows = subst (Tells z x) (sym (append-nil stand)) tells
  grown_told (n ∷ ns) stand split x tells grows =
      let y = with_number g x n (slice_get g.elements n) in
      let is : slice_get z.b.elements n ≡ slice_get g.elements n = ap (λ (es : List Element). slice_get es n) (sym ground.elements) in
      let first = number_told stand ns n split (slice_get g.elements n) is (element_there z stand ns n split) x tells (grows_trans (grown_grows g y ns) grows) in
      subst (Tells z (grown g y ns)) (append_assoc stand (n ∷ []) ns)
      (grown_told ns (stand ++ n ∷ []) (split ∙ sym (append_assoc stand (n ∷ []) ns)) y first grows)

  -- the whole net tells of all elements
  pub all_told : (ns : List NetNode) → Grows (grown g (none_placed (kinds_of z.b) (length z.b.elements) ns) z.made.urgency).nodes z.full
      → Tells z (grown g (none_placed (kinds_of z.b) (length z.b.elements) ns) z.made.urgency) z.made.urgency
  all_told ns grows =
      let start = none_placed (kinds_of z.b) (length z.b.elements) ns in
      grown_told z.made.urgency [] refl start (none_told z ns (grows_trans (grown_grows g start z.made.urgency) grows)) grows
