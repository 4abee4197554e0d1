-- Words of widths, one after the other.
use Rattle.std.proofs.Common.{◌≡◌, ℕ, ◌+◌, List, [], ◌∷◌, ◌++◌, take, Some, sym, subst}
use Rattle.std.specs.Prelude.{slice_get}
use Rattle.std.proofs.lemmas.List.{map-append}
use Rattle.bsv_lemmas.proofs.Places.{take_one}
use Rattle.bsv_bits.specs.Words.{Bits}
use Rattle.bsv_prim.specs.Table.{IsWordOf}
use Rattle.bsv_prim.specs.declared.primitive.RegisterInfo.{RegisterInfo}
use Rattle.bsv_guard.specs.Fitting.{HaveWidths}
use Rattle.bsv_net.specs.Nets.{register_widths}
use Rattle.bsv_net.proofs.Solution.{have_both}

-- a word more
pub have_more : (us : List ℕ) (vs all : List Bits) (i u : ℕ) (v : Bits) → slice_get us i ≡ Some u → HaveWidths (take i us) vs → IsWordOf u v → all ≡ vs ++ v ∷ []
    → HaveWidths (take (i + 1) us) all
have_more us vs all i u v there have fits is =
    subst (λ (ws : List Bits). HaveWidths (take (i + 1) us) ws) (sym is)
    (subst (λ (ws : List ℕ). HaveWidths ws (vs ++ v ∷ [])) (sym (take_one us i u there)) (have_both (take i us) vs (u ∷ []) (v ∷ []) have (fits, tt)))

-- the word of a register more
pub register_more : (rs : List RegisterInfo) (vs all : List Bits) (i : ℕ) (r : RegisterInfo) → slice_get rs i ≡ Some r → HaveWidths (register_widths (take i rs)) vs
    → all ≡ vs ++ r.start ∷ [] → HaveWidths (register_widths (take (i + 1) rs)) all
register_more rs vs all i r there have is =
    subst (λ (ws : List Bits). HaveWidths (register_widths (take (i + 1) rs)) ws) (sym is)
    (subst (λ (qs : List RegisterInfo). HaveWidths (register_widths qs) (vs ++ r.start ∷ [])) (sym (take_one rs i r there))
    (subst (λ (ws : List ℕ). HaveWidths ws (vs ++ r.start ∷ [])) (sym (map-append (λ (q : RegisterInfo). q.width) (take i rs) (r ∷ [])))
    (have_both (register_widths (take i rs)) vs (r.width ∷ []) (r.start ∷ []) have (r.in_range, tt))))
