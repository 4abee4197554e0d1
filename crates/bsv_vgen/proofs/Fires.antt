-- The wires that tell what fires are right lines after those of the nodes, and have the words that they are given.
use Rattle.std.proofs.Common.{◌≡◌, ◌∙◌, ℕ, zero, suc, ◌+◌, ◌≤◌, Bool, true, false, cond, List, [], ◌∷◌, ◌++◌, length, map, Some, refl, sym, ap, subst, arith, length-append, append_assoc, append-nil}
use Rattle.std.specs.Prelude.{slice_get}
use Rattle.std.proofs.lemmas.Option.{same_Some}
use Rattle.bsv_bits.specs.Words.{Bits}
use Rattle.bsv_design.specs.declared.element.Element.{Element}
use Rattle.bsv_design.specs.design.Roles.{is_value}
use Rattle.bsv_design.specs.scheme.Schemes.{outline}
use Rattle.bsv_vtext.specs.declared.tree.Assign.{Assign}
use Rattle.bsv_vtext.specs.declared.tree.Atom.{Atom}
use Rattle.bsv_vtext.specs.declared.tree.Side.TheVariants as side
use Rattle.bsv_vtext.specs.declared.tree.Target.TheVariants as target
use Rattle.bsv_vtext.specs.declared.tree.VWire.{VWire}
use Rattle.bsv_vtext.specs.Modules.{Stands}
use Rattle.bsv_vtext.specs.Signals.{VModuleData}
use Rattle.bsv_vtext.specs.VClock.{Inputs, Nets, atom_word}
use Rattle.bsv_vgen.specs.declared.known.Known.{Known}
use Rattle.bsv_vgen.specs.ShowsByModule.{TellsFire}
use Rattle.bsv_vgen.specs.Lines.{Written, with_wire}
use Rattle.bsv_vgen.specs.Modules.{told_at, with_fire, with_fires}
use Rattle.bsv_vgen.specs.Names.{fire_wire, fire_wires}
use Rattle.bsv_vgen.proofs.Told.{Solved}
use Rattle.bsv_vgen.proofs.Fronts.{Reaches, AreRight, line_there, reaches_before, one_more, stands_later}

-- ---- which wires these are

wires_one : (e : Element) (a : Atom) (w : Written) → (with_fire e a w).wires ≡ w.wires ++ fire_wires (outline e ∷ [])
wires_one e a w = of (is_value e.role)
  where
    of : (b : Bool) → (cond b w (with_wire w (fire_wire e.name) (side.Is a))).wires ≡ w.wires ++ cond b [] (fire_wire e.name ∷ [])
    of true = sym (append-nil w.wires)
    of false = refl

wires_first : (e : Element) (es : List Element) → fire_wires (outline e ∷ []) ++ fire_wires (map outline es) ≡ fire_wires (map outline (e ∷ es))
wires_first e es = of (is_value e.role)
  where
    of : (b : Bool) → cond b [] (fire_wire e.name ∷ []) ++ fire_wires (map outline es) ≡ cond b (fire_wires (map outline es)) (fire_wire e.name ∷ fire_wires (map outline es))
    of true = refl
    of false = refl

pub fires_wires : (ks : List Known) (fires : List ℕ) (n : ℕ) (es : List Element) (w : Written)
    → (with_fires ks fires n es w).wires ≡ w.wires ++ fire_wires (map outline es)
unfolding with_fires
fires_wires ks fires n [] w = sym (append-nil w.wires)
fires_wires ks fires n (e ∷ es) w =
    let a : Atom = (told_at ks fires n).atom in
    fires_wires ks fires (n + 1) es (with_fire e a w)
    ∙ ap (λ (vs : List VWire). vs ++ fire_wires (map outline es)) (wires_one e a w)
    ∙ append_assoc w.wires (fire_wires (outline e ∷ [])) (fire_wires (map outline es))
    ∙ ap (λ (vs : List VWire). w.wires ++ vs) (wires_first e es)

-- as many assignments as wires
many_one : (w : Written) (wire : VWire) (a : Atom) → length w.assigns ≡ length w.wires → length (with_wire w wire (side.Is a)).assigns ≡ length (with_wire w wire (side.Is a)).wires
many_one w wire a e =
    let x : Assign = record { target = target.Wire (length w.wires); side = side.Is a } in
    omega (arith, e, length-append w.assigns (x ∷ []), length-append w.wires (wire ∷ []))

many_fire : (e : Element) (a : Atom) (w : Written) → length w.assigns ≡ length w.wires → length (with_fire e a w).assigns ≡ length (with_fire e a w).wires
many_fire e a w many = of (is_value e.role)
  where
    of : (b : Bool) → length (cond b w (with_wire w (fire_wire e.name) (side.Is a))).assigns ≡ length (cond b w (with_wire w (fire_wire e.name) (side.Is a))).wires
    of true = many
    of false = many_one w (fire_wire e.name) a many

pub fires_many : (ks : List Known) (fires : List ℕ) (n : ℕ) (es : List Element) (w : Written) → length w.assigns ≡ length w.wires
    → length (with_fires ks fires n es w).assigns ≡ length (with_fires ks fires n es w).wires
unfolding with_fires
fires_many ks fires n [] w many = many
fires_many ks fires n (e ∷ es) w many = fires_many ks fires (n + 1) es (with_fire e (told_at ks fires n).atom w) (many_fire e (told_at ks fires n).atom w many)

module _ (m : VModuleData) where
  -- ---- before a wire

  fire_before : (e : Element) (a : Atom) (w : Written) → Reaches m (with_fire e a w) → Reaches m w
  fire_before e a w r = of (is_value e.role) r
    where
      of : (b : Bool) → Reaches m (cond b w (with_wire w (fire_wire e.name) (side.Is a))) → Reaches m w
      of true h = h
      of false h = reaches_before m w (fire_wire e.name) (side.Is a) h

  pub fires_before : (ks : List Known) (fires : List ℕ) (n : ℕ) (es : List Element) (w : Written) → Reaches m (with_fires ks fires n es w) → Reaches m w
  unfolding with_fires
  fires_before ks fires n [] w r = r
  fires_before ks fires n (e ∷ es) w r =
      fire_before e (told_at ks fires n).atom w (fires_before ks fires (n + 1) es (with_fire e (told_at ks fires n).atom w) r)

  -- ---- right lines

  -- after a wire that tells what fires
  record IsFireRight (w v : Written) : Type 0 where
    longer : length w.wires ≤ length v.wires
    right : AreRight m (length v.wires)

  fire_right : (e : Element) (a : Atom) (w : Written) → AreRight m (length w.wires) → Stands m (length w.wires) a 1 → Reaches m (with_fire e a w) → IsFireRight w (with_fire e a w)
  fire_right e a w right stands r = of (is_value e.role) r
    where
      of : (b : Bool) → Reaches m (cond b w (with_wire w (fire_wire e.name) (side.Is a))) → IsFireRight w (cond b w (with_wire w (fire_wire e.name) (side.Is a)))
      of true h = record { longer = omega arith; right = right }
      of false h =
          let n : ℕ = length w.wires in
          let long : length (w.wires ++ fire_wire e.name ∷ []) ≡ n + 1 = length-append w.wires (fire_wire e.name ∷ []) in
          record {
            longer = omega (arith, long);
            right = subst (AreRight m) (sym long) (one_more m n (fire_wire e.name) (side.Is a) (line_there m w (fire_wire e.name) (side.Is a) h) right stands refl);
          }

  -- the atoms may come after the nodes
  pub fires_right : (ks : List Known) (fires : List ℕ) (n : ℕ) (es : List Element) (w : Written) → AreRight m (length w.wires)
      → ((i : ℕ) → Stands m (length w.wires) (told_at ks fires i).atom 1) → Reaches m (with_fires ks fires n es w)
      → AreRight m (length (with_fires ks fires n es w).wires)
  unfolding with_fires
  fires_right ks fires n [] w right stands r = right
  fires_right ks fires n (e ∷ es) w right stands r =
      let a : Atom = (told_at ks fires n).atom in
      let next = fire_right e a w right (stands n) (fires_before ks fires (n + 1) es (with_fire e a w) r) in
      fires_right ks fires (n + 1) es (with_fire e a w) next.right
      (λ i. stands_later m (length w.wires) (length (with_fire e a w).wires) (told_at ks fires i).atom 1 next.longer (stands i)) r

  -- ---- their words

  module _ (ws : List Bits) (ins : Inputs) (nets : Nets) (solved : Solved m ws ins nets) where
    fire_told : (e : Element) (a : Atom) (w : Written) → is_value e.role ≡ false → Reaches m (with_fire e a w) → TellsFire m nets e.name (atom_word ws ins nets a)
    fire_told e a w acts r =
        let h = subst (λ (b : Bool). Reaches m (cond b w (with_wire w (fire_wire e.name) (side.Is a)))) acts r in
        let is = line_there m w (fire_wire e.name) (side.Is a) h in
        record {
          place = length w.wires;
          at = is.wire_there;
          word = solved (length w.wires) (record { target = target.Wire (length w.wires); side = side.Is a }) is.assign_there;
        }

    pub fires_told : (ks : List Known) (fires : List ℕ) (n : ℕ) (es : List Element) (w : Written) → Reaches m (with_fires ks fires n es w)
        → (i : ℕ) (e : Element) → slice_get es i ≡ Some e → is_value e.role ≡ false → TellsFire m nets e.name (atom_word ws ins nets (told_at ks fires (n + i)).atom)
    unfolding with_fires
    fires_told ks fires n [] w r i e there acts = absurd (let h : ⊥ = cc in h)
    fires_told ks fires n (y ∷ es) w r zero e there acts =
        let same : y ≡ e = same_Some y e there in
        let place : n ≡ n + 0 = omega arith in
        let own = fire_told y (told_at ks fires n).atom w (ap (λ (x : Element). is_value x.role) same ∙ acts)
        (fires_before ks fires (n + 1) es (with_fire y (told_at ks fires n).atom w) r) in
        subst (λ (k : ℕ). TellsFire m nets e.name (atom_word ws ins nets (told_at ks fires k).atom)) place
        (subst (λ (x : Element). TellsFire m nets x.name (atom_word ws ins nets (told_at ks fires n).atom)) same own)
    fires_told ks fires n (y ∷ es) w r (suc i) e there acts =
        let place : n + 1 + i ≡ n + suc i = omega arith in
        subst (λ (k : ℕ). TellsFire m nets e.name (atom_word ws ins nets (told_at ks fires k).atom)) place
        (fires_told ks fires (n + 1) es (with_fire y (told_at ks fires n).atom w) r i e there acts)
