-- Texts that are added piece by piece, one piece for each item of a list.
use Rattle.std.proofs.Common.{◌≡◌, ℕ, ◌+◌, ◌<◌, List, [], ◌∷◌, ◌++◌, length, take, drop, get_or, sym, ap, ◌∙◌, subst, append_assoc, append-nil, add-one}
use Rattle.std.proofs.Math.Seq.{take-suc}
use Rattle.std.proofs.lemmas.List.{take-append-drop}
use Rattle.std.proofs.lemmas.Grind.{flat_map-append}
use Rattle.std.specs.List.{flat_map}
use Rattle.bsv_io.specs.Writing.{Writing, appended, AppendsPrefix}
use Rattle.bsv_io.proofs.Appended.{AppendsPrefix-then, AppendsPrefix-more, appended-append}

module _ {X : Type 0} (text : X → List ℕ) (items : List X) where
  -- one item more
  pub flat_map-take_more : (i : ℕ) (d : X) → i < length items → flat_map text (take (i + 1) items) ≡ flat_map text (take i items) ++ text (get_or items i d)
  flat_map-take_more i d below =
      ap (λ (n : ℕ). flat_map text (take n items)) (add-one i) ∙ ap (flat_map text) (take-suc items i d below)
      ∙ flat_map-append text (take i items) (get_or items i d ∷ [])
      ∙ ap (λ (t : List ℕ). flat_map text (take i items) ++ t) (append-nil (text (get_or items i d)))

  -- the items up to a place are the front of all
  pub flat_map-take_drop : (i : ℕ) → flat_map text items ≡ flat_map text (take i items) ++ flat_map text (drop i items)
  flat_map-take_drop i =
      ap (flat_map text) (sym (take-append-drop i items)) ∙ flat_map-append text (take i items) (drop i items)

  -- the text of one item more is said
  pub said_more : (start waiting after : List ℕ) (i : ℕ) (d : X) (first second third : Writing) → i < length items → appended waiting second ≡ appended (start ++ flat_map text (take i items)) first → appended after third ≡ appended (waiting ++ text (get_or items i d)) second → appended after third ≡ appended (start ++ flat_map text (take (i + 1) items)) first
  said_more start waiting after i d first second third below before this =
      let piece : List ℕ = text (get_or items i d) in
      let so_far : List ℕ = flat_map text (take i items) in
      this ∙ appended-append waiting piece second ∙ ap (appended piece) before ∙ sym (appended-append (start ++ so_far) piece first)
      ∙ ap (λ (t : List ℕ). appended t first) (append_assoc start so_far piece ∙ ap (λ (t : List ℕ). start ++ t) (sym (flat_map-take_more i d below)))

  -- the text of one item more is begun
  pub prefix_more : (start waiting : List ℕ) (i : ℕ) (d : X) (first second third : Writing) → i < length items → AppendsPrefix (start ++ flat_map text (take i items)) first second → appended waiting second ≡ appended (start ++ flat_map text (take i items)) first → AppendsPrefix (waiting ++ text (get_or items i d)) second third → AppendsPrefix (start ++ flat_map text (take (i + 1) items)) first third
  prefix_more start waiting i d first second third below before said this =
      let piece : List ℕ = text (get_or items i d) in
      let so_far : List ℕ = flat_map text (take i items) in
      let P : List ℕ → Type 0 = λ t. AppendsPrefix t first third in
      subst P (append_assoc start so_far piece ∙ ap (λ (t : List ℕ). start ++ t) (sym (flat_map-take_more i d below)))
      (AppendsPrefix-then (start ++ so_far) waiting piece first second third before said this)

  -- a prefix of the texts so far is one of all
  pub prefix_whole : (start : List ℕ) (i : ℕ) (first third : Writing) → AppendsPrefix (start ++ flat_map text (take i items)) first third → AppendsPrefix (start ++ flat_map text items) first third
  prefix_whole start i first third h =
      let P : List ℕ → Type 0 = λ t. AppendsPrefix t first third in
      subst P (append_assoc start (flat_map text (take i items)) (flat_map text (drop i items)) ∙ ap (λ (t : List ℕ). start ++ t) (sym (flat_map-take_drop i)))
      (AppendsPrefix-more (start ++ flat_map text (take i items)) (flat_map text (drop i items)) first third h)
