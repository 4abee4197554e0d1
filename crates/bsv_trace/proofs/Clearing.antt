-- Requests in which nothing is asked are written over those of the last line.
use Rattle.std.proofs.Common.{◌≡◌, ◌∙◌, ℕ, ◌+◌, ◌<◌, Bool, false, List, [], ◌∷◌, map, length, get_or, slice_get, slice_set, Some, refl, sym, ap, arith}
use Rattle.std.proofs.lemmas.List.{length-map}
use Rattle.std.proofs.lemmas.Option.{slice_get_within}
use Rattle.bsv_lemmas.proofs.Places.{mapped_at}
use Rattle.bsv_bits.specs.Words.{Bits, zero_word}
use Rattle.bsv_design.specs.declared.element.Port.{Port}
use Rattle.bsv_design.specs.scheme.Schemes.{Asking, Outline}
use Rattle.bsv_design.specs.scheme.States.{zeros}
use Rattle.bsv_trace.specs.Lines.{nothing_of}
use Rattle.bsv_trace.specs.Reading.{HasPlaces}
use Rattle.bsv_trace.proofs.Filling.{filled, fill_more, filled_at, length-filled}
use Rattle.bsv_trace.proofs.Places.{item_at, length_args, words_at}

-- ---- the words of a call

pub word_cleared : (ps : List Port) (old words new : List Bits) (n : ℕ) (p : Port) (w : Bits) → length old ≡ length ps → n < length ps → p ≡ get_or ps n p
    → words ≡ filled n (zeros ps) old → w ≡ zero_word p.width → new ≡ slice_set words n w → new ≡ filled (n + 1) (zeros ps) old
word_cleared ps old words new n p w same below is before zero set =
    set ∙ ap (λ ws. slice_set ws n w) before ∙ ap (slice_set (filled n (zeros ps) old) n) zero
    ∙ fill_more n (zeros ps) old (zero_word p.width) (same ∙ sym (length-map ps (λ p. zero_word p.width))) (mapped_at (λ p. zero_word p.width) ps n p (item_at ps n p below is))

-- ---- the methods

abbrev pub no : Outline → Bool
no o = false

abbrev pub zero_words : Outline → List Bits
zero_words o = zeros o.ports

module _ (methods : List Outline) (q : Asking) (has : HasPlaces methods q) where
  same_asked : length q.asked ≡ length (map no methods)
  same_asked = has.asked ∙ sym (length-map methods no)

  same_args : length q.args ≡ length (map zero_words methods)
  same_args = length_args methods q has ∙ sym (length-map methods zero_words)

  -- the words of the next method have their places
  pub next_words : (args : List (List Bits)) (n : ℕ) (o : Outline) (ws : List Bits) → args ≡ filled n (map zero_words methods) q.args → slice_get methods n ≡ Some o
      → ws ≡ get_or args n ws → length ws ≡ length o.ports
  next_words args n o ws before is at =
      let long : length args ≡ length methods = ap (λ l. length l) before ∙ length-filled n (map zero_words methods) q.args same_args ∙ length-map methods zero_words in
      let below : n < length methods = slice_get_within methods n o is in
      words_at methods q has n o ws is
      (sym (filled_at n (map zero_words methods) q.args same_args) ∙ ap (λ l. slice_get l n) (sym before) ∙ item_at args n ws (omega (arith, long)) at)

  pub asked_cleared : (asked new : List Bool) (n : ℕ) (o : Outline) → slice_get methods n ≡ Some o → asked ≡ filled n (map no methods) q.asked
      → new ≡ slice_set asked n false → new ≡ filled (n + 1) (map no methods) q.asked
  asked_cleared asked new n o is before set =
      set ∙ ap (λ l. slice_set l n false) before
      ∙ fill_more n (map no methods) q.asked false same_asked (mapped_at no methods n o is)

  pub args_cleared : (args : List (List Bits)) (n : ℕ) (o : Outline) (ports : List Port) (ws : List Bits) → slice_get methods n ≡ Some o
      → args ≡ filled n (map zero_words methods) q.args → ports ≡ o.ports → ws ≡ zeros ports → slice_set args n ws ≡ filled (n + 1) (map zero_words methods) q.args
  args_cleared args n o ports ws is before same zero =
      ap (λ l. slice_set l n ws) before
      ∙ ap (slice_set (filled n (map zero_words methods) q.args) n) (zero ∙ ap zeros same)
      ∙ fill_more n (map zero_words methods) q.args (zero_words o) same_args (mapped_at zero_words methods n o is)

-- ---- requests in which nothing is asked have their places

zero_places : (ms : List Outline) → map (λ ws. length ws) (map zero_words ms) ≡ map (λ o. length o.ports) ms
zero_places [] = refl
zero_places (o ∷ os) =
    ap (λ n. n ∷ map (λ ws. length ws) (map zero_words os)) (length-map o.ports (λ p. zero_word p.width))
    ∙ ap (λ ns. length o.ports ∷ ns) (zero_places os)

pub nothing_places : (ms : List Outline) → HasPlaces ms (nothing_of ms)
nothing_places ms = record { asked = length-map ms no; args = zero_places ms }
