-- Registers that show the parts: only the words of the registers that a part has count, and parts are shown one by one.
use Rattle.std.proofs.Common.{◌≡◌, ◌∙◌, ◌<◌, ◌+◌, ℕ, zero, suc, List, [], ◌∷◌, ◌++◌, refl, sym, subst, arith, length}
use Rattle.std.proofs.lemmas.List.{drop_at}
use Rattle.bsv_bits.specs.Words.{Bits}
use Rattle.bsv_prim.specs.Table.{word_at}
use Rattle.bsv_prim.specs.declared.part.Part.{Part}
use Rattle.bsv_prim.specs.declared.part.Part.TheVariants.{Number, Held, Queue}
use Rattle.bsv_design.specs.declared.kind.Kind.{Kind}
use Rattle.bsv_design.specs.declared.kind.Kind.TheVariants.{Reg, RegU, Wire, DWire, RWire, Pulse, Plain, Pipeline, Bypass}
use Rattle.bsv_design.specs.parts.Kinds.{kind_table}
use Rattle.bsv_fifo.specs.Queues.{ShowsItems, FitsQueue, items_of}
use Rattle.bsv_clock.specs.Shows.{Shows}

-- the same words of so many registers
abbrev pub SameBelow : ℕ → (ℕ → Bits) → (ℕ → Bits) → Type 0
SameBelow n f g = (r : ℕ) → r < n → f r ≡ g r

shows_queue : (width depth : ℕ) (p : Part) (f g : ℕ → Bits) → FitsQueue width depth p → SameBelow (depth + 1) f g → ShowsItems depth (items_of p) f → ShowsItems depth (items_of p) g
shows_queue width depth (Number w) f g fits same h = absurd fits
shows_queue width depth (Held o) f g fits same h = absurd fits
shows_queue width depth (Queue q) f g fits same h = record {
  count = sym (same 0 (omega arith)) ∙ h.count;
  item = λ i l. sym (same (suc i) (omega (arith, l, fits.within))) ∙ h.item i l;
}

-- what shows a part shows it still where the registers that it has keep their words
pub shows_same : (k : Kind) (p : Part) (f g : ℕ → Bits) → (kind_table k).Fits p → SameBelow (kind_table k).registers f g → (kind_table k).Shows p f → (kind_table k).Shows p g
shows_same (Reg k) p f g fits same h = sym (same 0 (omega arith)) ∙ h
shows_same (RegU k) p f g fits same h = sym (same 0 (omega arith)) ∙ h
shows_same (Wire k) p f g fits same h = tt
shows_same (DWire k) p f g fits same h = tt
shows_same (RWire k) p f g fits same h = tt
shows_same (Pulse k) p f g fits same h = tt
shows_same (Plain k) p f g fits same h = shows_queue k.width k.depth p f g fits same h
shows_same (Pipeline k) p f g fits same h = shows_queue k.width 1 p f g fits same h
shows_same (Bypass k) p f g fits same h = shows_queue k.width 1 p f g fits same h

word_before : (xs ys : List Bits) (r : ℕ) → r < length xs → word_at xs r ≡ word_at (xs ++ ys) r
word_before [] ys r l = absurd (omega arith)
word_before (x ∷ xs) ys zero l = refl
word_before (x ∷ xs) ys (suc r) l = word_before xs ys r (omega arith)

-- one more part in front
pub shows_more : (k : Kind) (p : Part) (ks : List Kind) (ps : List Part) (ws vs : List Bits) → (kind_table k).Fits p → length ws ≡ (kind_table k).registers
    → (kind_table k).Shows p (word_at ws) → Shows ks ps vs → Shows (k ∷ ks) (p ∷ ps) (ws ++ vs)
shows_more k p ks ps ws vs fits long h rest = (
  shows_same k p (word_at ws) (word_at (ws ++ vs)) fits (λ r l. word_before ws vs r (omega (arith, long))) h,
  subst (λ (us : List Bits). Shows ks ps us) (sym (drop_at ws vs (kind_table k).registers long)) rest,
)
