-- Elements of a design: one that is read at its place, the words of its ports, a method that has no guard, and what the
-- calls at sites are aimed at.
use Rattle.std.proofs.Common.{◌≡◌, ℕ, suc, ◌<◌, true, false, List, [], ◌∷◌, map, length, get_or, Option, Some, None, refl, ap, subst}
use Rattle.std.specs.Prelude.{slice_get}
use Rattle.std.proofs.lemmas.Option.{slice_get_read}
use Rattle.bsv_bits.specs.Words.{Bits}
use Rattle.bsv_prim.specs.declared.part.Part.{Part}
use Rattle.bsv_design.specs.design.Bodies.{Target, target}
use Rattle.bsv_design.specs.design.Guards.{is_guarded}
use Rattle.bsv_design.specs.parts.Kinds.{kind_laws}
use Rattle.bsv_design.specs.scheme.Schemes.{filled, guard_of}
use Rattle.bsv_design.specs.scheme.States.{AreWordsOf}
use Rattle.bsv_design.specs.scheme.Traces.{Site, site_at}
use Rattle.bsv_design.specs.declared.design.Design.{Design}
use Rattle.bsv_design.specs.declared.element.Call.{Call}
use Rattle.bsv_design.specs.declared.element.Element.{Element}
use Rattle.bsv_design.specs.declared.element.Port.{Port}
use Rattle.bsv_design.specs.declared.kind.Kind.{Kind}

pub element_in : (d : Design) (xs : List Element) (n : ℕ) (e : Element) → xs ≡ d.elements → n < length xs → e ≡ get_or xs n e → slice_get d.elements n ≡ Some e
element_in d xs n e are within is = subst (λ ys. slice_get ys n ≡ Some e) are (slice_get_read xs _ n e refl within is)

pub length-filled : (ps : List Port) (ws : List Bits) → length (filled ps ws) ≡ length ps
length-filled [] ws = refl
length-filled (p ∷ ps) [] = ap suc (length-filled ps [])
length-filled (p ∷ ps) (w ∷ ws) = ap suc (length-filled ps ws)

pub length-words : (ps : List Port) (ws : List Bits) → AreWordsOf ps ws → length ws ≡ length ps
length-words [] [] h = refl
length-words [] (w ∷ ws) h = absurd h
length-words (p ∷ ps) [] h = absurd h
length-words (p ∷ ps) (w ∷ ws) h = ap suc (length-words ps ws h.1)

pub unguarded : (k : Option Kind) (m : ℕ) (p : Part) → is_guarded k m ≡ false → guard_of k m p ≡ true
unguarded None m p h = refl
unguarded (Some k) m p h = (kind_laws k).guards.never m p h

pub site_targets : (ks : List Kind) (ws : List Bits) (cs : List Call) → map (λ (x : Site). x.target) (map (site_at ks ws) cs) ≡ map target cs
site_targets ks ws [] = refl
site_targets ks ws (c ∷ cs) = ap (λ (ts : List Target). target c ∷ ts) (site_targets ks ws cs)
