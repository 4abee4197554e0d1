-- The blocks of a text tell what the registers begin with, which of them the reset sets, and what they take over.
use Rattle.std.proofs.Common.{◌≡◌, ◌∙◌, ℕ, Bool, true, false, ◌==◌, if◌then◌else◌, List, [], ◌∷◌, ◌++◌, length, get_or, map, flat_map, codes, refl, sym, ap, subst, append_assoc, arith}
use Rattle.std.proofs.lemmas.List.{append_cancel_left}
use Rattle.bsv_bits.specs.Constants.{constant_text}
use Rattle.bsv_vtext.specs.declared.tree.VRegister.{VRegister}
use Rattle.bsv_vtext.specs.declared.tree.Atom.{Atom}
use Rattle.bsv_vtext.specs.Signals.{VModuleData, scope}
use Rattle.bsv_vtext.specs.VText.{start_line, edge_line, reset_line, next_line, next_lines}
use Rattle.bsv_vtext.specs.Modules.{IsModule, IsRegister}
use Rattle.bsv_vtext.proofs.Runs.{Each, Passes, split, pieces, same_lines, regrouped}
use Rattle.bsv_vtext.proofs.Glyphs.{is_glyph, constant_glyphs, same_constant}
use Rattle.bsv_vtext.proofs.SignalNames.{IsName, name_glyphs, signal_is_name}
use Rattle.bsv_vtext.proofs.SameAtoms.{SameNames, IsSized, said, atom_glyphs, same_atom}

-- ---- what registers begin with

abbrev start_pieces : VRegister → List (List ℕ)
start_pieces r = codes "    " ∷ r.name ∷ codes " = " ∷ constant_text r.start ∷ codes ";\n" ∷ []

same_start : (x y : VRegister) (r s : List ℕ) → IsRegister x → IsRegister y → start_line x ++ r ≡ start_line y ++ s → (x.start ≡ y.start) × (r ≡ s)
unfolding is_glyph
same_start x y r s good fine e =
    let named = name_glyphs x.name (signal_is_name x.name good.name) in
    let called = name_glyphs y.name (signal_is_name y.name fine.name) in
    let digits = constant_glyphs x.start good.start in
    let own = constant_glyphs y.start fine.start in
    let whole = pieces (start_pieces x) (start_pieces y) r s e in
    let name = split is_glyph x.name y.name _ _ named called refl refl (append_cancel_left (codes "    ") _ _ whole) in
    let word = split is_glyph (constant_text x.start) (constant_text y.start) _ _ digits own refl refl (append_cancel_left (codes " = ") _ _ name.1) in
    (same_constant x.start y.start good.start fine.start word.0, append_cancel_left (codes ";\n") r s word.1)

-- a line of the first block has two blanks more than its end
abbrev begins_start : List ℕ → Bool
begins_start xs = get_or xs 2 0 == 32

pub same_starts : (xs ys : List VRegister) (r s : List ℕ) → Each IsRegister xs → Each IsRegister ys
    → flat_map start_line xs ++ (codes "  end" ++ r) ≡ flat_map start_line ys ++ (codes "  end" ++ s)
    → (map (λ x. x.start) xs ≡ map (λ x. x.start) ys) × (r ≡ s)
same_starts xs ys r s good fine e =
    let parts = same_lines start_line start_line IsRegister IsRegister (λ (x : VRegister). x.start) begins_start (λ (r : List ℕ). Unit {0})
    (λ x r. (refl, tt)) (λ x r. (refl, tt))
    (λ x y r s good fine _ _ e. same_start x y r s good fine e) xs ys (codes "  end" ++ r) (codes "  end" ++ s) good fine (refl, tt) (refl, tt) e
    in
    (parts.0, append_cancel_left (codes "  end") r s parts.1)

-- ---- what is at the edge

same_edge : (m n v w r s : List ℕ) → IsName m → IsName n → Each (Passes is_glyph) v → Each (Passes is_glyph) w
    → edge_line m v ++ r ≡ edge_line n w ++ s
    → (m ≡ n) × ((v ≡ w) × (r ≡ s))
unfolding is_glyph
same_edge m n v w r s is other some any e =
    let whole = pieces (codes "      " ∷ m ∷ codes " <= " ∷ v ∷ codes ";\n" ∷ []) (codes "      " ∷ n ∷ codes " <= " ∷ w ∷ codes ";\n" ∷ []) r s e in
    let name = split is_glyph m n _ _ (name_glyphs m is) (name_glyphs n other) refl refl (append_cancel_left (codes "      ") _ _ whole) in
    let word = split is_glyph v w _ _ some any refl refl (append_cancel_left (codes " <= ") _ _ name.1) in
    (name.0, (word.0, append_cancel_left (codes ";\n") r s word.1))

-- the line by which the reset sets a register, where it does
abbrev set_line : VRegister → List ℕ
set_line x = edge_line x.name (constant_text x.start)

abbrev set_if : Bool → VRegister → List ℕ
set_if resets x = if resets then set_line x else []

same_set : (x y : VRegister) (r s : List ℕ) → IsRegister x → IsRegister y → set_line x ++ r ≡ set_line y ++ s → (x.name ≡ y.name) × (r ≡ s)
same_set x y r s good fine e =
    let named = signal_is_name x.name good.name in
    let called = signal_is_name y.name fine.name in
    let word = constant_glyphs x.start good.start in
    let own = constant_glyphs y.start fine.start in
    let parts = same_edge x.name y.name (constant_text x.start) (constant_text y.start) r s named called word own e in
    (parts.0, parts.1.1)

-- a name that none of the registers has
abbrev Free : List ℕ → List VRegister → Type 0
Free name rs = Each (λ (r : VRegister). r.name ≡ name → ⊥) rs

-- no two registers have one name
abbrev pub Apart : List VRegister → Type 0
Apart [] = Unit {0}
Apart (r ∷ rs) = Free r.name rs × Apart rs

-- the registers that the reset sets, and what comes after them
abbrev resetting : List VRegister → List ℕ → List ℕ
resetting rs r = flat_map reset_line rs ++ (codes "    end" ++ r)

-- the lines of registers that have not the name of this one do not begin with its line
reset_free : (x : VRegister) (r s : List ℕ) (ys : List VRegister) → IsRegister x → Each IsRegister ys → Free x.name ys
    → set_line x ++ r ≡ resetting ys s → ⊥
reset_free x r s [] good fine free e = other_byte (ap (λ (xs : List ℕ). get_or xs 4 0) e)
  where
    other_byte : ◌≡◌ {A = ℕ} 32 101 → ⊥
    other_byte f = omega arith
reset_free x r s (y ∷ ys) good fine free e = by (reset_free x r s ys good fine.1 free.1) y.resets e
  where
    by : (set_line x ++ r ≡ resetting ys s → ⊥) → (resets : Bool)
        → set_line x ++ r ≡ (set_if resets y ++ flat_map reset_line ys) ++ (codes "    end" ++ s) → ⊥
    by others true f =
        let whole : set_line x ++ r ≡ set_line y ++ resetting ys s = f ∙ append_assoc (set_line y) (flat_map reset_line ys) (codes "    end" ++ s) in
        let parts = same_set x y r (resetting ys s) good fine.0 whole in
        free.0 (sym parts.0)
    by others false f = others f

-- what two lists of lines tell
abbrev Tells : List VRegister → List VRegister → List ℕ → List ℕ → Type 0
Tells xs ys r s = (map (λ x. x.resets) xs ≡ map (λ x. x.resets) ys) × (r ≡ s)

pub same_resets : (xs ys : List VRegister) (r s : List ℕ) → Each IsRegister xs → Each IsRegister ys → Apart xs → Apart ys
    → map (λ x. x.name) xs ≡ map (λ x. x.name) ys → resetting xs r ≡ resetting ys s → Tells xs ys r s
same_resets [] [] r s good fine apart distinct names e = (refl, append_cancel_left (codes "    end") r s e)
same_resets [] (y ∷ ys) r s good fine apart distinct names e = absurd cc
same_resets (x ∷ xs) [] r s good fine apart distinct names e = absurd cc
same_resets (x ∷ xs) (y ∷ ys) r s good fine apart distinct names e =
    by (same_resets xs ys r s good.1 fine.1 apart.1 distinct.1 names_are) x.resets y.resets e
  where
    name_is : x.name ≡ y.name
    name_is = cc (names)

    names_are : map (λ x. x.name) xs ≡ map (λ x. x.name) ys
    names_are = cc (names)

    free : (a b : List ℕ) (rs : List VRegister) → a ≡ b → Free a rs → Free b rs
    free a b rs f each = subst (λ (n : List ℕ). Free n rs) f each

    front : (z : VRegister) (zs : List VRegister) (t : List ℕ) → (set_line z ++ flat_map reset_line zs) ++ (codes "    end" ++ t) ≡ set_line z ++ resetting zs t
    front z zs t = append_assoc (set_line z) (flat_map reset_line zs) (codes "    end" ++ t)

    by : (resetting xs r ≡ resetting ys s → Tells xs ys r s) → (a b : Bool)
        → (set_if a x ++ flat_map reset_line xs) ++ (codes "    end" ++ r) ≡ (set_if b y ++ flat_map reset_line ys) ++ (codes "    end" ++ s)
        → (a ∷ map (λ x. x.resets) xs ≡ b ∷ map (λ x. x.resets) ys) × (r ≡ s)
    by others true true f =
        let parts = same_set x y (resetting xs r) (resetting ys s) good.0 fine.0 (sym (front x xs r) ∙ f ∙ front y ys s) in
        let more = others parts.1 in
        (ap (λ (t : List Bool). true ∷ t) more.0, more.1)
    by others true false f =
        absurd (reset_free x (resetting xs r) s ys good.0 fine.1 (free y.name x.name ys (sym name_is) distinct.0) (sym (front x xs r) ∙ f))
    by others false true f =
        absurd (reset_free y (resetting ys s) r xs fine.0 good.1 (free x.name y.name xs name_is apart.0) (sym (front y ys s) ∙ sym f))
    by others false false f =
        let more = others f in
        (ap (λ (t : List Bool). false ∷ t) more.0, more.1)

-- ---- what registers take over

module _ (c d : VModuleData) (is : IsModule c) (other : IsModule d) (same : SameNames c d) where
  pub same_nexts : (xs ys : List VRegister) (nexts others : List Atom) (r s : List ℕ) → Each IsRegister xs → Each IsRegister ys
      → Each (IsSized c) nexts → Each (IsSized d) others
      → length nexts ≡ length xs → length others ≡ length ys → length xs ≡ length ys
      → next_lines (scope c) xs nexts ++ r ≡ next_lines (scope d) ys others ++ s → (nexts ≡ others) × (r ≡ s)
  same_nexts [] [] [] [] r s good fine some any l m n e = (refl, e)
  same_nexts (x ∷ xs) (y ∷ ys) (a ∷ nexts) (b ∷ others) r s good fine some any l m n e =
      let parts = same_edge x.name y.name (said c a) (said d b) (next_lines (scope c) xs nexts ++ r) (next_lines (scope d) ys others ++ s)
      (signal_is_name x.name good.0.name) (signal_is_name y.name fine.0.name) (atom_glyphs c is a some.0) (atom_glyphs d other b any.0)
      (regrouped (next_line (scope c) x a) (next_lines (scope c) xs nexts) r (next_line (scope d) y b) (next_lines (scope d) ys others) s e) in
      let more = same_nexts xs ys nexts others r s good.1 fine.1 some.1 any.1 (omega arith) (omega arith) (omega arith) parts.1.1 in
      let first : a ≡ b = same_atom c d is other same a b some.0 any.0 parts.1.0 in
      let all : a ∷ nexts ≡ b ∷ others = cc (first, more.0) in
      (all, more.1)
  same_nexts _ _ _ _ r s good fine some any l m n e = absurd (omega arith)
