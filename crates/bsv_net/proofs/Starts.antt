-- The start words of the registers of kinds show their opening state.
use Rattle.std.proofs.Common.{◌≡◌, ◌∙◌, ℕ, zero, suc, List, [], ◌∷◌, length, map, Some, sym, ap, subst}
use Rattle.std.specs.Prelude.{slice_get}
use Rattle.std.proofs.lemmas.List.{length-map, map-append}
use Rattle.bsv_lemmas.proofs.Places.{mapped_at}
use Rattle.bsv_bits.specs.Words.{Bits}
use Rattle.bsv_prim.specs.Table.{word_at}
use Rattle.bsv_design.specs.declared.kind.Kind.{Kind}
use Rattle.bsv_design.specs.parts.Kinds.{kind_laws, kind_table}
use Rattle.bsv_design.specs.scheme.States.{opening}
use Rattle.bsv_graph.specs.Edges.{numbers_below}
use Rattle.bsv_graph.proofs.Below.{count_below}
use Rattle.bsv_clock.specs.Shows.{Cell, Shows, cell_of, cells_in, cells_of}
use Rattle.bsv_net.proofs.Numbers.{number_at}
use Rattle.bsv_net.proofs.ShownRegisters.{shows_more, shows_same}

-- a kind has as many cells as registers
pub long_cells : (k : Kind) → length (cells_in k) ≡ (kind_table k).registers
long_cells k = length-map (numbers_below (kind_table k).registers) (cell_of (kind_table k)) ∙ count_below (kind_table k).registers

pub start_there : (cs : List Cell) (r : ℕ) (c : Cell) → slice_get cs r ≡ Some c → word_at (map (λ x. x.start) cs) r ≡ c.start
start_there [] r c there = absurd (let n : ⊥ = cc in n)
start_there (d ∷ cs) zero c there = let same : d ≡ c = cc in ap (λ (x : Cell). x.start) same
start_there (d ∷ cs) (suc r) c there = start_there cs r c there

pub starts_show : (ks : List Kind) → Shows ks (opening ks) (map (λ c. c.start) (cells_of ks))
unfolding cells_of
starts_show [] = tt
starts_show (k ∷ ks) =
    subst (λ (ws : List Bits). Shows (k ∷ ks) (opening (k ∷ ks)) ws) (sym (map-append start (cells_in k) (cells_of ks)))
    (shows_more k (kind_table k).opening ks (opening ks) (map start (cells_in k)) (map start (cells_of ks)) (kind_laws k).fit.opening
    (length-map (cells_in k) start ∙ long_cells k)
    (shows_same k (kind_table k).opening (kind_table k).register_start (word_at (map start (cells_in k))) (kind_laws k).fit.opening
    (λ r l. sym (start_there (cells_in k) r (cell_of (kind_table k) r)
    (mapped_at (cell_of (kind_table k)) (numbers_below (kind_table k).registers) r r (number_at (kind_table k).registers r l))))
    (kind_laws k).shows.opening)
    (starts_show ks))
  where
    start : Cell → Bits
    start c = c.start
