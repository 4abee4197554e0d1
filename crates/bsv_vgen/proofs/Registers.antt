-- The registers of a module, which are those of its parts: what they show at the start and after a reset.
use Rattle.std.proofs.Common.{◌≡◌, ◌∙◌, ◌<◌, ℕ, zero, suc, Bool, true, false, List, [], ◌∷◌, ◌++◌, Some, refl, sym, ap, subst, arith, length, length-append, map, drop}
use Rattle.std.specs.Prelude.{cond, not, slice_get, if◌then◌else◌}
use Rattle.bsv_lemmas.proofs.Places.{mapped_at, at_left}
use Rattle.bsv_bits.specs.Words.{Bits}
use Rattle.bsv_prim.specs.Table.{word_at}
use Rattle.bsv_prim.specs.declared.part.Part.{Part}
use Rattle.bsv_design.specs.declared.kind.Kind.{Kind}
use Rattle.bsv_design.specs.declared.kind.Kind.TheVariants.{Reg, RegU, Wire, DWire, RWire, Pulse, Plain, Pipeline, Bypass}
use Rattle.bsv_design.specs.parts.Kinds.{kind_table, kind_laws}
use Rattle.bsv_design.specs.scheme.States.{FitsKinds, opening}
use Rattle.bsv_graph.specs.Edges.{numbers_below}
use Rattle.bsv_guard.specs.Fitting.{HaveWidths}
use Rattle.bsv_clock.specs.Shows.{Cell, Shows, cell_of, cell_widths, cells_in, cells_of}
use Rattle.bsv_net.proofs.Numbers.{number_at}
use Rattle.bsv_net.proofs.ShownRegisters.{shows_same}
use Rattle.bsv_net.proofs.Starts.{long_cells, starts_show}
use Rattle.bsv_vtext.specs.declared.tree.VRegister.{VRegister}
use Rattle.bsv_vtext.specs.Signals.{VModuleData}
use Rattle.bsv_vtext.specs.VClock.{reset_words}
use Rattle.bsv_vgen.specs.Interfaces.{cell}
use Rattle.bsv_vgen.specs.Resetting.{BeginsOpen, Resets, keeps, reset_part, reset_parts}

-- ---- words after a reset, by cells

abbrev reset_word : Cell → Bits → Bits
reset_word c w = if c.resets then c.start else w

abbrev reset_cells : List Cell → List Bits → List Bits
reset_cells (c ∷ cs) (w ∷ ws) = reset_word c w ∷ reset_cells cs ws
reset_cells _ _ = []

reset_are : (rs : List VRegister) (ws : List Bits) → reset_words rs ws ≡ reset_cells (map cell rs) ws
reset_are [] ws = refl
reset_are (r ∷ rs) [] = refl
reset_are (r ∷ rs) (w ∷ ws) = ap (λ (vs : List Bits). (if r.resets then r.start else w) ∷ vs) (reset_are rs ws)

-- the word of a register that has a word
reset_there : (cs : List Cell) (ws : List Bits) (r : ℕ) (c : Cell) → slice_get cs r ≡ Some c → r < length ws
    → word_at (reset_cells cs ws) r ≡ reset_word c (word_at ws r)
reset_there [] ws r c there l = absurd (let n : ⊥ = cc in n)
reset_there (d ∷ cs) [] r c there l = absurd (omega (arith, l))
reset_there (d ∷ cs) (w ∷ ws) zero c there l = let same : d ≡ c = cc in ap (λ (x : Cell). reset_word x w) same
reset_there (d ∷ cs) (w ∷ ws) (suc r) c there l = reset_there cs ws r c there (omega (arith, l))

reset_after : (cs ds : List Cell) (ws : List Bits) → drop (length cs) (reset_cells (cs ++ ds) ws) ≡ reset_cells ds (drop (length cs) ws)
reset_after [] ds ws = refl
reset_after (c ∷ cs) [] [] = refl
reset_after (c ∷ cs) (d ∷ ds) [] = refl
reset_after (c ∷ cs) ds (w ∷ ws) = reset_after cs ds ws

-- ---- the cells of a kind

cell_there : (k : Kind) (more : List Cell) (r : ℕ) → r < (kind_table k).registers
    → slice_get (cells_in k ++ more) r ≡ Some (cell_of (kind_table k) r)
cell_there k more r l =
    at_left (cells_in k) more r (omega (arith, l, long_cells k))
    ∙ mapped_at (cell_of (kind_table k)) (numbers_below (kind_table k).registers) r r (number_at (kind_table k).registers r l)

-- a reset sets the registers of every kind but those without a start
resets_are : (k : Kind) (r : ℕ) → r < (kind_table k).registers → (kind_table k).register_resets r ≡ not (keeps k)
resets_are (Reg k) r l = refl
resets_are (RegU k) r l = refl
resets_are (Wire k) r l = absurd (omega (arith, l))
resets_are (DWire k) r l = absurd (omega (arith, l))
resets_are (RWire k) r l = absurd (omega (arith, l))
resets_are (Pulse k) r l = absurd (omega (arith, l))
resets_are (Plain k) r l = refl
resets_are (Pipeline k) r l = refl
resets_are (Bypass k) r l = refl

-- ---- the start

starts_are : (rs : List VRegister) → map (λ r. r.start) rs ≡ map (λ c. c.start) (map cell rs)
starts_are [] = refl
starts_are (r ∷ rs) = ap (λ (ws : List Bits). r.start ∷ ws) (starts_are rs)

-- ---- after a reset

-- the registers of a part after a reset
part_reset : (k : Kind) (p : Part) (f g : ℕ → Bits) → (kind_table k).Fits p
    → ((r : ℕ) → r < (kind_table k).registers → g r ≡ (if not (keeps k) then (kind_table k).register_start r else f r))
    → (kind_table k).Shows p f → (kind_table k).Shows (reset_part k p) g
part_reset k p f g fits are h = of (keeps k) are
  where
    of : (b : Bool) → ((r : ℕ) → r < (kind_table k).registers → g r ≡ (if not b then (kind_table k).register_start r else f r))
        → (kind_table k).Shows (cond b p (kind_table k).opening) g
    of true same = shows_same k p f g fits (λ r l. sym (same r l)) h
    of false same =
        shows_same k (kind_table k).opening (kind_table k).register_start g (kind_laws k).fit.opening (λ r l. sym (same r l))
        (kind_laws k).shows.opening

long_words : (cs : List Cell) (ws : List Bits) → HaveWidths (cell_widths cs) ws → length ws ≡ length cs
long_words [] [] h = refl
long_words [] (w ∷ ws) h = absurd h
long_words (c ∷ cs) [] h = absurd h
long_words (c ∷ cs) (w ∷ ws) h = ap suc (long_words cs ws h.1)

words_after : (cs ds : List Cell) (ws : List Bits) → HaveWidths (cell_widths (cs ++ ds)) ws → HaveWidths (cell_widths ds) (drop (length cs) ws)
words_after [] ds ws h = h
words_after (c ∷ cs) ds [] h = absurd h
words_after (c ∷ cs) ds (w ∷ ws) h = words_after cs ds ws h.1

resets_show : (ks : List Kind) (s : List Part) (ws : List Bits) → FitsKinds ks s → HaveWidths (cell_widths (cells_of ks)) ws → Shows ks s ws
    → Shows ks (reset_parts ks s) (reset_cells (cells_of ks) ws)
unfolding cells_of
resets_show [] [] ws fits have h = tt
resets_show [] (p ∷ s) ws fits have h = absurd fits
resets_show (k ∷ ks) [] ws fits have h = absurd fits
resets_show (k ∷ ks) (p ∷ s) ws fits have h = (
  part_reset k p (word_at ws) (word_at (reset_cells (cells_in k ++ cells_of ks) ws)) fits.0 here h.0,
  subst (λ (vs : List Bits). Shows ks (reset_parts ks s) vs) (sym behind) (resets_show ks s (drop (kind_table k).registers ws) fits.1 rest h.1),
) where
  here : (r : ℕ) → r < (kind_table k).registers
      → word_at (reset_cells (cells_in k ++ cells_of ks) ws) r ≡ (if not (keeps k) then (kind_table k).register_start r else word_at ws r)
  here r l =
      reset_there (cells_in k ++ cells_of ks) ws r (cell_of (kind_table k) r) (cell_there k (cells_of ks) r l)
      (omega (arith, l, long_words (cells_in k ++ cells_of ks) ws have, length-append (cells_in k) (cells_of ks), long_cells k))
      ∙ ap (λ (b : Bool). if b then (kind_table k).register_start r else word_at ws r) (resets_are k r l)

  behind : drop (kind_table k).registers (reset_cells (cells_in k ++ cells_of ks) ws) ≡ reset_cells (cells_of ks) (drop (kind_table k).registers ws)
  behind =
      subst (λ n. drop n (reset_cells (cells_in k ++ cells_of ks) ws) ≡ reset_cells (cells_of ks) (drop n ws)) (long_cells k)
      (reset_after (cells_in k) (cells_of ks) ws)

  rest : HaveWidths (cell_widths (cells_of ks)) (drop (kind_table k).registers ws)
  rest = subst (λ n. HaveWidths (cell_widths (cells_of ks)) (drop n ws)) (long_cells k) (words_after (cells_in k) (cells_of ks) ws have)

-- ---- the module

module _ (ks : List Kind) (m : VModuleData) (cells : map cell m.registers ≡ cells_of ks) where
  pub begins_open : BeginsOpen ks m
  begins_open =
      subst (λ (ws : List Bits). Shows ks (opening ks) ws)
      (sym (starts_are m.registers ∙ ap (map (λ (c : Cell). c.start)) cells)) (starts_show ks)

  pub resets : Resets ks m
  resets s ws ins nets nexts fits have shows clock =
      subst (λ (vs : List Bits). Shows ks (reset_parts ks s) vs)
      (sym (clock.edge ∙ (reset_are m.registers ws ∙ ap (λ (cs : List Cell). reset_cells cs ws) cells)))
      (resets_show ks s ws fits have shows)
