-- The calls on one part after the other.
use Rattle.std.proofs.Common.{◌≡◌, ◌∙◌, ℕ, ◌+◌, ◌<◌, ◌≤◌, List, [], ◌∷◌, ◌++◌, take, drop, get_or, set, length, Some, refl, sym, ap, ap₂, subst, arith, append_assoc, append-nil, length-drop, suc}
use Rattle.std.specs.Prelude.{slice_get}
use Rattle.std.proofs.lemmas.List.{take_more_set, drop-set-lt, drop_all, length-map, take_all}
use Rattle.std.proofs.lemmas.Option.{slice_get_read}
use Rattle.bsv_lemmas.proofs.Places.{mapped_at, drop_one}
use Rattle.bsv_prim.specs.declared.part.Part.{Part}
use Rattle.bsv_design.specs.declared.design.NamedPart.{NamedPart}
use Rattle.bsv_design.specs.declared.kind.Kind.{Kind}
use Rattle.bsv_serial.specs.declared.calls_made.MadeCall.{MadeCall}
use Rattle.bsv_serial.specs.Applying.{behind, CanTake, all_after, AllCanTake}
use Rattle.bsv_serial.specs.AtHand.{kinds}

record AreSameLong (ks : List Kind) (ps : List Part) (calls_made : List (List MadeCall)) : Type 0 where
  kinds : length ks ≡ length ps
  calls : length calls_made ≡ length ps

same_long : (ks : List Kind) (ps : List Part) (calls_made : List (List MadeCall)) → AllCanTake ks ps calls_made → AreSameLong ks ps calls_made
same_long [] [] [] h = record { kinds = refl; calls = refl }
same_long [] [] (cs ∷ calls_made) h = absurd h
same_long [] (p ∷ ps) calls_made h = absurd h
same_long (k ∷ ks) [] calls_made h = absurd h
same_long (k ∷ ks) (p ∷ ps) [] h = absurd h
same_long (k ∷ ks) (p ∷ ps) (cs ∷ calls_made) h = let rest = same_long ks ps calls_made h.1 in record { kinds = ap suc rest.kinds; calls = ap suc rest.calls }

module _ (ks : List Kind) (ps : List Part) (calls_made : List (List MadeCall)) (i : ℕ) (can : AllCanTake (drop i ks) (drop i ps) (drop i calls_made)) (l : i < length ps) where
  pub kind_within : i < length ks
  kind_within = let same = (same_long (drop i ks) (drop i ps) (drop i calls_made) can).kinds in omega (arith, length-drop i ks, length-drop i ps)

  pub calls_within : i < length calls_made
  calls_within = let same = (same_long (drop i ks) (drop i ps) (drop i calls_made) can).calls in omega (arith, length-drop i calls_made, length-drop i ps)

  module _ (k : Kind) (p : Part) (cs : List MadeCall) (at_k : slice_get ks i ≡ Some k) (at_p : slice_get ps i ≡ Some p) (at_cs : slice_get calls_made i ≡ Some cs) where
    parts : AllCanTake (k ∷ drop (i + 1) ks) (p ∷ drop (i + 1) ps) (cs ∷ drop (i + 1) calls_made)
    parts =
        subst (λ (xs : List Kind). AllCanTake xs (p ∷ drop (i + 1) ps) (cs ∷ drop (i + 1) calls_made)) (drop_one ks i k at_k)
        (subst (λ (xs : List Part). AllCanTake (drop i ks) xs (cs ∷ drop (i + 1) calls_made)) (drop_one ps i p at_p)
        (subst (AllCanTake (drop i ks) (drop i ps)) (drop_one calls_made i cs at_cs) can))

    pub can_here : CanTake k p cs
    can_here = parts.0

    after_set : (q : Part) → drop (i + 1) (set ps i q) ≡ drop (i + 1) ps
    after_set q = drop-set-lt (i + 1) ps i q (omega arith)

    pub can_more : (q : Part) → AllCanTake (drop (i + 1) ks) (drop (i + 1) (set ps i q)) (drop (i + 1) calls_made)
    can_more q = subst (λ (xs : List Part). AllCanTake (drop (i + 1) ks) xs (drop (i + 1) calls_made)) (sym (after_set q)) parts.1

    pub ends_more : (q : Part) → q ≡ behind k p cs
        → take (i + 1) (set ps i q) ++ all_after (drop (i + 1) ks) (drop (i + 1) (set ps i q)) (drop (i + 1) calls_made)
        ≡ take i ps ++ all_after (drop i ks) (drop i ps) (drop i calls_made)
    ends_more q e =
        ap₂ (λ (xs ys : List Part). xs ++ all_after (drop (i + 1) ks) ys (drop (i + 1) calls_made)) (take_more_set ps i q l) (after_set q)
        ∙ append_assoc (take i ps) (q ∷ []) (all_after (drop (i + 1) ks) (drop (i + 1) ps) (drop (i + 1) calls_made))
        ∙ ap (λ (r : Part). take i ps ++ r ∷ all_after (drop (i + 1) ks) (drop (i + 1) ps) (drop (i + 1) calls_made)) e
        ∙ sym (ap (λ (xs : List Part). take i ps ++ xs) whole)
      where
        whole : all_after (drop i ks) (drop i ps) (drop i calls_made) ≡ behind k p cs ∷ all_after (drop (i + 1) ks) (drop (i + 1) ps) (drop (i + 1) calls_made)
        whole =
            ap (λ (xs : List Kind). all_after xs (drop i ps) (drop i calls_made)) (drop_one ks i k at_k)
            ∙ ap (λ (xs : List Part). all_after (k ∷ drop (i + 1) ks) xs (drop i calls_made)) (drop_one ps i p at_p)
            ∙ ap (all_after (k ∷ drop (i + 1) ks) (p ∷ drop (i + 1) ps)) (drop_one calls_made i cs at_cs)

-- the kind of a part that an index reads
pub kind_at_part : (ns : List NamedPart) (ps : List Part) (calls_made : List (List MadeCall)) (i : ℕ) → AllCanTake (drop i (kinds ns)) (drop i ps) (drop i calls_made) → i < length ps
    → (n : NamedPart) → n ≡ get_or ns i n → slice_get (kinds ns) i ≡ Some n.kind
kind_at_part ns ps calls_made i can l n e =
    let within = kind_within (kinds ns) ps calls_made i can l in
    mapped_at (λ (n : NamedPart). n.kind) ns i n (slice_get_read ns (length ns) i n refl (omega (arith, length-map ns (λ (n : NamedPart). n.kind))) e)

none_left : (ks : List Kind) (calls_made : List (List MadeCall)) → all_after ks [] calls_made ≡ []
none_left [] calls_made = refl
none_left (k ∷ ks) calls_made = refl

pub ends_all : (ks : List Kind) (ps : List Part) (calls_made : List (List MadeCall)) (i : ℕ) → length ps ≤ i
    → ps ≡ take i ps ++ all_after (drop i ks) (drop i ps) (drop i calls_made)
ends_all ks ps calls_made i l =
    sym (ap₂ (λ (xs ys : List Part). xs ++ ys) (take_all i ps l) (ap (λ (xs : List Part). all_after (drop i ks) xs (drop i calls_made)) (drop_all i ps l) ∙ none_left (drop i ks) (drop i calls_made))
    ∙ append-nil ps)
