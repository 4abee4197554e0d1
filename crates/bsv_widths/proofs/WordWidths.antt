-- A word has a width.
use Rattle.std.proofs.Common.{◌≡◌, ℕ, Bool, true, false, ◌&&◌, refl, Some}
use Rattle.std.proofs.lemmas.Bool.{le-leb, lt-ltb}
use Rattle.bsv_bits.specs.Words.{Bits, IsWord}
use Rattle.bsv_design.specs.design.Widths.{if_width, word_width}

holds : (a b c : Bool) (w : ℕ) → a ≡ true → b ≡ true → c ≡ true → Some w ≡ if_width (a && b && c) w
holds true true true w h i j = refl
holds false b c w h i j = absurd cc
holds true false c w h i j = absurd cc
holds true true false w h i j = absurd cc

pub width_of_word : (w : Bits) → IsWord w → Some w.width ≡ word_width w
width_of_word w is = holds _ _ _ w.width (le-leb _ _ is.some) (le-leb _ _ is.most) (lt-ltb _ _ is.below)
