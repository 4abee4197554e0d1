-- Lines are in the module where they were written, and what is written after them leaves them.
use Rattle.std.proofs.Common.{◌≡◌, ◌∙◌, ℕ, ◌+◌, ◌<◌, ◌≤◌, IsTrue, List, [], ◌∷◌, ◌++◌, length, Some, refl, sym, ap, subst, arith, append_assoc, length-append, ◌⊎◌, inl, inr}
use Rattle.std.specs.Prelude.{slice_get, option_map}
use Rattle.std.proofs.Math.Nat.{eq-or-lt_of_le}
use Rattle.std.proofs.lemmas.Option.{same_Some}
use Rattle.bsv_lemmas.proofs.Places.{at_right}
use Rattle.bsv_vtext.specs.declared.tree.Assign.{Assign}
use Rattle.bsv_vtext.specs.declared.tree.Atom.{Atom}
use Rattle.bsv_vtext.specs.declared.tree.Atom.TheVariants as atom
use Rattle.bsv_vtext.specs.declared.tree.Side.{Side}
use Rattle.bsv_vtext.specs.declared.tree.Target.TheVariants as target
use Rattle.bsv_vtext.specs.declared.tree.VWire.{VWire}
use Rattle.bsv_vtext.specs.Modules.{IsKnown, Stands, IsAssign}
use Rattle.bsv_vtext.specs.Signals.{VModuleData}
use Rattle.bsv_vtext.specs.Widths.{Fits, width_fits}
use Rattle.bsv_vgen.specs.Lines.{Written, with_wire}

pub last_there : {A : Type 0} (xs : List A) (x : A) (more all : List A) → all ≡ (xs ++ x ∷ []) ++ more → slice_get all (length xs) ≡ Some x
last_there {A} xs x more all e =
    let place : length xs ≡ length xs + 0 = omega arith in
    ap (λ (ys : List A). slice_get ys (length xs)) (e ∙ append_assoc xs (x ∷ []) more)
    ∙ ap (slice_get (xs ++ x ∷ more)) place ∙ at_right xs (x ∷ more) 0

module _ (m : VModuleData) where
  -- what is written is the front of the module
  pub record Reaches (w : Written) : Type 0 where
    pub as_many : length w.assigns ≡ length w.wires
    pub more_wires : List VWire
    pub wires : m.wires ≡ w.wires ++ more_wires
    pub more_assigns : List Assign
    pub assigns : m.assigns ≡ w.assigns ++ more_assigns

  -- a line of the module
  pub record IsLine (n : ℕ) (wire : VWire) (s : Side) : Type 0 where
    pub wire_there : slice_get m.wires n ≡ Some wire
    pub assign_there : slice_get m.assigns n ≡ Some (record { target = target.Wire n; side = s })

  pub line_there : (w : Written) (wire : VWire) (s : Side) → Reaches (with_wire w wire s) → IsLine (length w.wires) wire s
  line_there w wire s r =
      let x : Assign = record { target = target.Wire (length w.wires); side = s } in
      let many : length w.assigns ≡ length w.wires =
      omega (arith, r.as_many, length-append w.assigns (x ∷ []), length-append w.wires (wire ∷ [])) in
      record {
        wire_there = last_there w.wires wire r.more_wires m.wires r.wires;
        assign_there = ap (slice_get m.assigns) (sym many) ∙ last_there w.assigns x r.more_assigns m.assigns r.assigns;
      }

  pub reaches_before : (w : Written) (wire : VWire) (s : Side) → Reaches (with_wire w wire s) → Reaches w
  reaches_before w wire s r =
      let x : Assign = record { target = target.Wire (length w.wires); side = s } in
      record {
        as_many = omega (arith, r.as_many, length-append w.assigns (x ∷ []), length-append w.wires (wire ∷ []));
        more_wires = wire ∷ r.more_wires;
        wires = r.wires ∙ append_assoc w.wires (wire ∷ []) r.more_wires;
        more_assigns = x ∷ r.more_assigns;
        assigns = r.assigns ∙ append_assoc w.assigns (x ∷ []) r.more_assigns;
      }

  -- ---- what is right of the lines before this one

  pub record AreRight (n : ℕ) : Type 0 where
    pub lines : (l : ℕ) (x : Assign) → l < n → slice_get m.assigns l ≡ Some x → IsAssign m l x
    pub targets : (l : ℕ) (x : Assign) → l < n → slice_get m.assigns l ≡ Some x → x.target ≡ target.Wire l
    pub widths : (k : ℕ) (w : VWire) → k < n → slice_get m.wires k ≡ Some w → IsTrue (width_fits w.width)

  pub none_right : AreRight 0
  none_right = record {
    lines = λ l x few e. absurd (omega (arith, few));
    targets = λ l x few e. absurd (omega (arith, few));
    widths = λ k w few e. absurd (omega (arith, few));
  }

  -- what may stand on a line may stand on a later one
  known_later : (n j : ℕ) (a : Atom) → n ≤ j → IsKnown m n a → IsKnown m j a
  known_later n j (atom.Enable k) l h = tt
  known_later n j (atom.Argument k i) l h = tt
  known_later n j (atom.Register k) l h = tt
  known_later n j (atom.Wire k) l h =
      record { earlier = h.earlier; before = let b = h.before in omega (arith, b, l); assign = h.assign; at = h.at; target_is = h.target_is }
  known_later n j (atom.Constant w) l h = tt

  pub stands_later : (n j : ℕ) (a : Atom) (u : ℕ) → n ≤ j → Stands m n a u → Stands m j a u
  stands_later n j a u l h = (h.0, known_later n j a l h.1)

  -- the wire of a line may come after it
  pub wire_stands : (n : ℕ) (wire : VWire) (s : Side) → IsLine n wire s → Stands m (n + 1) (atom.Wire n) wire.width
  wire_stands n wire s is = (
    record { has_width = ap (option_map (λ (w : VWire). w.width)) is.wire_there; word = tt },
    record { earlier = n; before = omega arith; assign = record { target = target.Wire n; side = s }; at = is.assign_there; target_is = refl },
  )

  line_right : (n : ℕ) (wire : VWire) (s : Side) → IsLine n wire s → Fits (Stands m n) s wire.width → IsAssign m n (record { target = target.Wire n; side = s })
  line_right n wire s is fits = record {
    width = wire.width;
    target_width_is = ap (option_map (λ (w : VWire). w.width)) is.wire_there;
    side = fits;
  }

  -- one more line, of sides that may be there
  pub one_more : (n : ℕ) (wire : VWire) (s : Side) → IsLine n wire s → AreRight n → Fits (Stands m n) s wire.width → IsTrue (width_fits wire.width) → AreRight (n + 1)
  one_more n wire s is right fits width = record {
    lines = λ l x few e. elim (before_or_last l few) [
      | inl same ↦ let own = line_of l x same e in subst (λ (y : Assign). IsAssign m l y) own (subst (λ (k : ℕ). IsAssign m k line) (sym same) (line_right n wire s is fits))
      | inr less ↦ right.lines l x less e
    ];
    targets = λ l x few e. elim (before_or_last l few) [
      | inl same ↦ ap (λ (y : Assign). y.target) (sym (line_of l x same e)) ∙ ap (λ (k : ℕ). target.Wire k) (sym same)
      | inr less ↦ right.targets l x less e
    ];
    widths = λ k w few e. elim (before_or_last k few) [
      | inl same ↦ subst (λ (v : VWire). IsTrue (width_fits v.width)) (same_Some wire w (sym is.wire_there ∙ ap (slice_get m.wires) (sym same) ∙ e)) width
      | inr less ↦ right.widths k w less e
    ];
  }
    where
      line : Assign
      line = record { target = target.Wire n; side = s }

      before_or_last : (l : ℕ) → l < n + 1 → (l ≡ n) ⊎ (l < n)
      before_or_last l few = eq-or-lt_of_le (omega (arith, few))

      line_of : (l : ℕ) (x : Assign) → l ≡ n → slice_get m.assigns l ≡ Some x → line ≡ x
      line_of l x same e = same_Some line x (sym is.assign_there ∙ ap (slice_get m.assigns) (sym same) ∙ e)
