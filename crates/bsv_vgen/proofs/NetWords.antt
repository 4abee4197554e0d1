-- Where registers and arguments have words of their widths, so has each net, and so have the registers after the clock.
use Rattle.std.proofs.Common.{◌≡◌, ◌∙◌, ℕ, zero, suc, ◌<◌, ◌≤◌, Bool, true, false, List, [], ◌∷◌, length, map, Option, Some, None, refl, sym, ap, subst, arith}
use Rattle.std.specs.Prelude.{nat_le, slice_get, unwrap_or, if◌then◌else◌}
use Rattle.std.specs.Option.{option_map, option_and_then}
use Rattle.std.proofs.lemmas.Bool.{and_parts, leb-true}
use Rattle.std.proofs.lemmas.Option.{same_Some}
use Rattle.bsv_bits.specs.Words.{Bits}
use Rattle.bsv_prim.specs.Table.{IsWordOf}
use Rattle.bsv_guard.specs.Fitting.{HaveWidths}
use Rattle.bsv_vtext.specs.declared.tree.Assign.{Assign}
use Rattle.bsv_vtext.specs.declared.tree.Atom.{Atom}
use Rattle.bsv_vtext.specs.declared.tree.Atom.TheVariants as atom
use Rattle.bsv_vtext.specs.declared.tree.Target.{Target}
use Rattle.bsv_vtext.specs.declared.tree.Target.TheVariants as target
use Rattle.bsv_vtext.specs.declared.tree.VMethod.{VMethod}
use Rattle.bsv_vtext.specs.declared.tree.VRegister.{VRegister}
use Rattle.bsv_vtext.specs.declared.tree.VWire.{VWire}
use Rattle.bsv_vtext.specs.Modules.{IsModule, IsAtom, IsAssignedBefore, IsKnown, Stands}
use Rattle.bsv_vtext.specs.Signals.{VModuleData}
use Rattle.bsv_vtext.specs.VClock.{Inputs, Nets, word_at}
use Rattle.bsv_vtext.specs.Widths.{atom_width, enable_width, target_width, Fits}
use Rattle.bsv_vgen.proofs.SideWords.{any_bit, side_fits}
use Rattle.bsv_vgen.proofs.Solving.{words, Holds}

-- the widths of the registers
abbrev pub widths_of : List VRegister → List ℕ
widths_of rs = map (λ r. r.start.width) rs

-- words for atoms, one for each register
words_have : (word : Atom → Bits) (rs : List VRegister) (atoms : List Atom) → length atoms ≡ length rs
    → ((k : ℕ) (r : VRegister) (a : Atom) → slice_get rs k ≡ Some r → slice_get atoms k ≡ Some a → IsWordOf r.start.width (word a))
    → HaveWidths (widths_of rs) (map word atoms)
words_have word [] [] long each = tt
words_have word [] (a ∷ atoms) long each = absurd (omega (arith, long))
words_have word (r ∷ rs) [] long each = absurd (omega (arith, long))
words_have word (r ∷ rs) (a ∷ atoms) long each =
    (each 0 r a refl refl, words_have word rs atoms (omega (arith, long)) (λ k q b there at. each (suc k) q b there at))

enable_one : (o : Option VMethod) (u : ℕ) → enable_width o ≡ Some u → u ≡ 1
enable_one None u e = absurd (let n : ⊥ = cc in n)
enable_one (Some m) u e = of m.action e
  where
    of : (acts : Bool) → (if acts then Some 1 else None) ≡ Some u → u ≡ 1
    of true e = sym (same_Some 1 u e)
    of false e = absurd (let n : ⊥ = cc in n)

module _ (c : VModuleData) (is : IsModule c) (ws : List Bits) (ins : Inputs)
    (registers_fit : (k : ℕ) (r : VRegister) → slice_get c.registers k ≡ Some r → IsWordOf r.start.width (word_at ws k))
    (arguments_fit : (m k u : ℕ) → atom_width c (atom.Argument m k) ≡ Some u → IsWordOf u (word_at (unwrap_or (slice_get ins.arguments m) []) k))
    (nets : Nets) (all : (line : ℕ) → Holds c ws ins nets line) where
  target_most : (t : Target) (u : ℕ) → target_width c t ≡ Some u → u ≤ 128
  target_most (target.Wire k) u e = of (slice_get c.wires k) refl e
    where
      of : (o : Option VWire) → slice_get c.wires k ≡ o → option_map (λ (w : VWire). w.width) o ≡ Some u → u ≤ 128
      of None there e = absurd (let n : ⊥ = cc in n)
      of (Some w) there e =
          subst (λ (v : ℕ). v ≤ 128) (same_Some w.width u e)
          (leb-true w.width 128 (and_parts (nat_le 1 w.width) (nat_le w.width 128) (is.wires k w there).width).1)
  target_most (target.Ready m) u e = of (slice_get c.methods m) e
    where
      of : (o : Option VMethod) → option_map (λ (v : VMethod). 1) o ≡ Some u → u ≤ 128
      of None e = absurd (let n : ⊥ = cc in n)
      of (Some v) e = let one = same_Some 1 u e in omega (arith, one)
  target_most (target.Result m) u e = of (slice_get c.methods m) refl e
    where
      of : (o : Option VMethod) → slice_get c.methods m ≡ o → option_and_then (λ (v : VMethod). v.result) o ≡ Some u → u ≤ 128
      of None there e = absurd (let n : ⊥ = cc in n)
      of (Some v) there e = leb-true u 128 (and_parts (nat_le 1 u) (nat_le u 128) ((is.methods m v there).result u e)).1

  -- an atom has a word of its width, where a wire has one
  atom_fits : (a : Atom) (u : ℕ) → IsAtom c a u
      → ((k : ℕ) → a ≡ atom.Wire k → target_width c (target.Wire k) ≡ Some u → IsWordOf u (nets (target.Wire k)))
      → IsWordOf u (words c ws ins nets a)
  atom_fits (atom.Enable m) u h wire = any_bit (unwrap_or (slice_get ins.enables m) false) u (enable_one (slice_get c.methods m) u h.has_width)
  atom_fits (atom.Argument m k) u h wire = arguments_fit m k u h.has_width
  atom_fits (atom.Register k) u h wire = of (slice_get c.registers k) refl h.has_width
    where
      of : (o : Option VRegister) → slice_get c.registers k ≡ o → option_map (λ (r : VRegister). r.start.width) o ≡ Some u → IsWordOf u (word_at ws k)
      of None there e = absurd (let n : ⊥ = cc in n)
      of (Some r) there e = subst (λ (v : ℕ). IsWordOf v (word_at ws k)) (same_Some r.start.width u e) (registers_fit k r there)
  atom_fits (atom.Wire k) u h wire = wire k refl h.has_width
  atom_fits (atom.Constant w) u h wire = record { word = h.word; same_width = same_Some w.width u h.has_width }

  word_fits : (n line : ℕ) (x : Assign) (u : ℕ) → line < n → slice_get c.assigns line ≡ Some x → target_width c x.target ≡ Some u
      → IsWordOf u (nets x.target)
  word_fits zero line x u l at e = absurd (omega (arith, l))
  word_fits (suc n) line x u l at e =
      let good = is.assigns line x at in
      subst (IsWordOf u) (sym (all line x at))
      (side_fits (words c ws ins nets) (Stands c line)
      (λ a v h. atom_fits a v h.0 (λ k same there.
      let b : IsAssignedBefore c line (target.Wire k) = subst (IsKnown c line) same h.1 in
      subst (λ (t : Target). IsWordOf v (nets t)) b.target_is
      (word_fits n b.earlier b.assign v (let before = b.before in omega (arith, l, before)) b.at (ap (target_width c) b.target_is ∙ there))))
      x.side u (target_most x.target u e)
      (subst (Fits (Stands c line) x.side) (same_Some good.width u (sym good.target_width_is ∙ e)) good.side))

  pub net_fits : (t : Target) (u : ℕ) → target_width c t ≡ Some u → IsWordOf u (nets t)
  net_fits t u e =
      let a = is.assigned t u e in
      subst (λ (x : Target). IsWordOf u (nets x)) a.target_is
      (word_fits (suc a.line) a.line a.assign u (omega arith) a.at (ap (target_width c) a.target_is ∙ e))

  pub nexts_fit : HaveWidths (widths_of c.registers) (map (words c ws ins nets) c.nexts)
  nexts_fit =
      words_have (words c ws ins nets) c.registers c.nexts is.nexts_count
      (λ k r a there at. atom_fits a r.start.width (is.nexts k r a there at) (λ j same wide. net_fits (target.Wire j) r.start.width wide))
