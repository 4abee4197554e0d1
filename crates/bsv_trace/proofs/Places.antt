-- The places of requests: which method and which words are at one, and what keeps them.
use Rattle.std.proofs.Common.{◌≡◌, ◌∙◌, ℕ, zero, suc, ◌<◌, Bool, true, false, List, [], ◌∷◌, map, length, get_or, slice_get, slice_set, Option, Some, None, unwrap_or, refl, sym, ap, arith, length-set}
use Rattle.std.proofs.lemmas.List.{get_or_default, length-map}
use Rattle.std.proofs.lemmas.Option.{slice_get_read, unwrap_or-slice_get}
use Rattle.bsv_lemmas.proofs.Places.{mapped_at}
use Rattle.bsv_bits.specs.Words.{Bits}
use Rattle.bsv_design.specs.declared.element.Element.{Element}
use Rattle.bsv_design.specs.scheme.Schemes.{Asking, Outline, outline}
use Rattle.bsv_trace.specs.Lines.{asked_with}
use Rattle.bsv_trace.specs.Reading.{HasPlaces, arguments, call_of}
use Rattle.bsv_trace.specs.Reading as spec

-- one list is another in the place of one of its length
pub map-set_same : {A B : Type 0} (f : A → B) (xs : List A) (n : ℕ) (x y : A) → slice_get xs n ≡ Some x → f y ≡ f x → map f (slice_set xs n y) ≡ map f xs
map-set_same f [] n x y at same = refl
map-set_same f (z ∷ zs) zero x y at same = let it : z ≡ x = cc in ap (λ v. v ∷ map f zs) (same ∙ ap f (sym it))
map-set_same f (z ∷ zs) (suc n) x y at same = ap (λ v. f z ∷ v) (map-set_same f zs n x y at same)

module _ (methods : List Outline) (q : Asking) (has : HasPlaces methods q) where
  pub length_args : length q.args ≡ length methods
  length_args =
      sym (length-map q.args (λ ws. length ws)) ∙ ap (λ ns. length ns) has.args ∙ length-map methods (λ o. length o.ports)

  pub words_at : (n : ℕ) (e : Outline) (ws : List Bits) → slice_get methods n ≡ Some e → slice_get q.args n ≡ Some ws → length ws ≡ length e.ports
  words_at n e ws at_method at_words =
      let left = mapped_at (λ ws. length ws) q.args n ws at_words in
      let right = mapped_at (λ o. length o.ports) methods n e at_method in
      let same = ap (λ ns. slice_get ns n) has.args in
      let whole : ◌≡◌ {A = Option ℕ} (Some (length ws)) (Some (length e.ports)) = sym left ∙ same ∙ right in
      cc

  pub with_words : (n : ℕ) (old words : List Bits) → slice_get q.args n ≡ Some old → length words ≡ length old
      → HasPlaces methods (record { asked = q.asked; args = slice_set q.args n words })
  with_words n old words at same = record {
    asked = has.asked;
    args = map-set_same (λ ws. length ws) q.args n old words at same ∙ has.args;
  }

  pub with_call : (n : ℕ) (old words : List Bits) → slice_get q.args n ≡ Some old → length words ≡ length old
      → HasPlaces methods (asked_with (record { method = n; words = words }) q)
  with_call n old words at same = record {
    asked = length-set q.asked n true ∙ has.asked;
    args = map-set_same (λ ws. length ws) q.args n old words at same ∙ has.args;
  }

-- ---- what is at a place, as code reads it

pub item_at : {A : Type 0} (xs : List A) (n : ℕ) (x : A) → n < length xs → x ≡ get_or xs n x → slice_get xs n ≡ Some x
item_at xs n x below is = slice_get_read xs (length xs) n x refl below is

module _ (methods : List Element) (n : ℕ) (below : n < length methods) where
  pub outline_at : (e : Element) → e ≡ get_or methods n e → slice_get (map outline methods) n ≡ Some (outline e)
  outline_at e is = mapped_at outline methods n e (item_at methods n e below is)

  pub flag_at : (q : Asking) (b : Bool) → HasPlaces (map outline methods) q → get_or q.asked n false ≡ b → unwrap_or (slice_get q.asked n) true ≡ b
  flag_at q b has is =
      let within : n < length q.asked = omega (arith, has.asked, length-map methods outline) in
      unwrap_or-slice_get q.asked n true ∙ get_or_default q.asked n true false within ∙ is

  pub args_at : (q : Asking) (ws : List Bits) → HasPlaces (map outline methods) q → ws ≡ get_or q.args n ws → slice_get q.args n ≡ Some ws
  args_at q ws has is = item_at q.args n ws (omega (arith, length_args (map outline methods) q has, length-map methods outline)) is

-- ---- a call, by what is at its place

module _ (methods : List Outline) (n : ℕ) (bytes : List ℕ) (q : Asking) where
  pub call_of-asked : unwrap_or (slice_get q.asked n) true ≡ true → call_of methods n bytes q ≡ None
  unfolding call_of
  call_of-asked asked = rw asked refl

  pub call_of-read : (e : Outline) (old : List Bits) (o : Option (List Bits × List ℕ)) → unwrap_or (slice_get q.asked n) true ≡ false → slice_get methods n ≡ Some e → slice_get q.args n ≡ Some old
      → arguments e.ports bytes old ≡ o → call_of methods n bytes q ≡ spec.asking_with n q o
  unfolding call_of
  call_of-read e old o free at words read = rw (free, at, words, read) refl
