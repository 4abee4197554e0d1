-- The assignments of a text tell those of its module.
use Rattle.std.proofs.Common.{◌≡◌, ◌∙◌, ℕ, Bool, ◌==◌, List, [], ◌∷◌, ◌++◌, flat_map, codes, refl, sym}
use Rattle.std.proofs.lemmas.List.{append_cancel_left, map-id}
use Rattle.bsv_lemmas.proofs.Lists.{same_tail}
use Rattle.bsv_vtext.specs.declared.tree.Assign.{Assign}
use Rattle.bsv_vtext.specs.declared.tree.Side.{Side}
use Rattle.bsv_vtext.specs.declared.tree.Target.{Target}
use Rattle.bsv_vtext.specs.Signals.{VModuleData, scope}
use Rattle.bsv_vtext.specs.VText.{target_text, side_text, assign_line}
use Rattle.bsv_vtext.specs.Modules.{IsModule, IsAssign}
use Rattle.bsv_vtext.proofs.Runs.{Each, each_at, split, pieces, same_lines}
use Rattle.bsv_vtext.proofs.Glyphs.{is_glyph}
use Rattle.bsv_vtext.proofs.SameAtoms.{SameNames, HasWidth, target_glyphs, same_target}
use Rattle.bsv_vtext.proofs.SameSides.{IsSide, side_is, same_side}
use Rattle.bsv_vtext.proofs.SameDeclarations.{fifth, Fails}

-- a target of some width, and a side whose parts have widths
abbrev pub IsAssignment : VModuleData → Assign → Type 0
IsAssignment c x = HasWidth c x.target × IsSide c x.side

pub assigns_are : (c : VModuleData) → IsModule c → Each (IsAssignment c) c.assigns
assigns_are c is = each_at (IsAssignment c) c.assigns (λ line x e. assign_is line x (is.assigns line x e))
  where
    assign_is : (line : ℕ) (x : Assign) → IsAssign c line x → IsAssignment c x
    assign_is line x good = ((good.width, good.target_width_is), side_is c is line x.side good.width good.side)

-- the `s` of `  assign`
abbrev pub begins_assign : ℕ → Bool
begins_assign b = b == 115

abbrev assign : Target → Side → Assign
assign target side = record { target = target; side = side }

module _ (c d : VModuleData) (is : IsModule c) (other : IsModule d) (same : SameNames c d) where
  one_assign : (x y : Assign) (r s : List ℕ) → IsAssignment c x → IsAssignment d y → assign_line (scope c) x ++ r ≡ assign_line (scope d) y ++ s
      → (x ≡ y) × (r ≡ s)
  unfolding is_glyph
  one_assign x y r s good fine e =
      let whole = pieces (codes "  assign " ∷ target_text (scope c) x.target ∷ codes " = " ∷ side_text (scope c) x.side ∷ codes ";\n" ∷ [])
      (codes "  assign " ∷ target_text (scope d) y.target ∷ codes " = " ∷ side_text (scope d) y.side ∷ codes ";\n" ∷ []) r s e in
      let front = split is_glyph (target_text (scope c) x.target) (target_text (scope d) y.target) _ _ (target_glyphs c is x.target good.0)
      (target_glyphs d other y.target fine.0)
      refl refl (append_cancel_left (codes "  assign ") _ _ whole) in
      let side = same_side c d is other same x.side y.side (10 ∷ r) (10 ∷ s) good.1 fine.1 (append_cancel_left (codes " = ") _ _ front.1) in
      let target : x.target ≡ y.target = same_target c d is same x.target y.target good.0 fine.0 front.0 in
      let all : assign x.target x.side ≡ assign y.target y.side = cc (target, side.0) in
      (all, same_tail 10 10 r s side.1)

  pub same_assigns : (xs ys : List Assign) (r s : List ℕ) → Each (IsAssignment c) xs → Each (IsAssignment d) ys → Fails begins_assign r
      → Fails begins_assign s
      → flat_map (assign_line (scope c)) xs ++ r ≡ flat_map (assign_line (scope d)) ys ++ s → (xs ≡ ys) × (r ≡ s)
  same_assigns xs ys r s good fine stop end e =
      let parts = same_lines (assign_line (scope c)) (assign_line (scope d)) (IsAssignment c) (IsAssignment d) (λ (x : Assign). x)
      (λ (xs : List ℕ). begins_assign (fifth xs)) (λ (r : List ℕ). Unit {0})
      (λ x r. (refl, tt)) (λ x r. (refl, tt)) (λ x y r s good fine _ _ e. one_assign x y r s good fine e) xs ys r s good fine (stop, tt) (end, tt)
      e in
      (sym (map-id xs) ∙ parts.0 ∙ map-id ys, parts.1)
