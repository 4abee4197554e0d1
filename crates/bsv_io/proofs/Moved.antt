-- What goes over from one list to another: the bytes of a file to those that were read of it, and what workers made.
use Rattle.std.proofs.Common.{◌≡◌, ℕ, ◌<◌, ◌≤◌, List, [], ◌∷◌, ◌++◌, length, get_or, map, remove, take, drop, Option, None, Some, refl, sym, ap, ◌∙◌, append_assoc, append-nil, arith}
use Rattle.std.proofs.Math.Seq.{drop-nil, take-append_seam}
use Rattle.std.proofs.lemmas.List.{take_all}
use Rattle.bsv_io.specs.Moving.{Moves}
use Rattle.bsv_io.specs.Reading.{Reading, Gives, advanced, chosen, rest, rest_of}
use Rattle.bsv_io.proofs.Readings.{piece_read, rest_advanced}

-- a read moves bytes over
pub moves : (n : ℕ) (old new buffer left : List ℕ) (r s : Reading) → s ≡ advanced n r → rest r ≡ Some left → Gives n buffer left → new ≡ old ++ take n buffer → Moves n old new left (rest s)
moves n old new buffer left r s read told given grown =
    record {
      after = drop n left;
      told_after = ap rest read ∙ rest_advanced r n left told;
      moved = ap (λ (t : List ℕ). old ++ t) (piece_read n buffer left given) ∙ sym (append_assoc old (take n buffer) (drop n left)) ∙ ap (λ (t : List ℕ). t ++ drop n left) (sym grown);
      end = λ none. ap (drop n) (given.end none) ∙ drop-nil n;
    }

-- the text ended within the limit
pub read_whole : (limit : ℕ) (text source after : List ℕ) → text ≡ source ++ after → after ≡ [] → length source ≤ limit → source ≡ take limit text
read_whole limit text source after split none within =
    let whole : text ≡ source = split ∙ ap (λ (t : List ℕ). source ++ t) none ∙ append-nil source in
    sym (take_all limit source within) ∙ ap (take limit) (sym whole)

-- the limit was reached
pub read_front : (limit : ℕ) (text source after : List ℕ) → text ≡ source ++ after → length source ≡ limit → source ≡ take limit text
read_front limit text source after split long =
    sym (take-append_seam source after) ∙ ap (λ (n : ℕ). take n (source ++ after)) long ∙ ap (take limit) (sym split)

rest_of_start : (told : Option (List ℕ → List ℕ)) (name : List ℕ) (contents : List ℕ → List ℕ) → told ≡ Some contents → rest_of told (Some (record { name = name; place = 0 })) ≡ Some (contents name)
rest_of_start None name contents h = absurd (let no_value : ⊥ = cc in no_value)
rest_of_start (Some other) name contents h =
    let same : other ≡ contents = cc in
    ap (λ (f : List ℕ → List ℕ). Some (f name)) same

-- all of a file is left where it was just chosen
pub rest_chosen : (r s : Reading) (name given : List ℕ) (contents : List ℕ → List ℕ) → s ≡ chosen given r → given ≡ name → r.contents ≡ Some contents → rest s ≡ Some (contents name)
rest_chosen r s name given contents h same told =
    ap rest h ∙ rest_of_start r.contents given contents told ∙ ap (λ (n : List ℕ). Some (contents n)) same

-- ---- the front of a list is moved behind another one

map_more : {X Y : Type 0} (f : Y → X) (ys : List Y) (y : Y) (rest : List X) → map f (ys ++ y ∷ []) ++ rest ≡ map f ys ++ f y ∷ rest
map_more f [] y rest = refl
map_more f (z ∷ ys) y rest = ap (λ zs. f z ∷ zs) (map_more f ys y rest)

pub one_moved : {X Y : Type 0} (f : Y → X) (whole old new : List X) (ys : List Y) (y : Y) → 0 < length old → f y ≡ get_or old 0 (f y) → new ≡ remove old 0
    → whole ≡ map f ys ++ old → whole ≡ map f (ys ++ y ∷ []) ++ new
one_moved f whole [] new ys y some first rest before = absurd (omega (arith, some))
one_moved f whole (x ∷ old) new ys y some first rest before =
    before ∙ (ap (λ z. map f ys ++ z ∷ old) (sym first) ∙ (sym (map_more f ys y old) ∙ ap (λ zs. map f (ys ++ y ∷ []) ++ zs) (sym rest)))
