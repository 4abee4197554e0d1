-- What puts of a sink add up to.
use Rattle.std.proofs.Common.{◌≡◌, ℕ, ◌+◌, ◌%◌, ◌^◌, List, [], ◌∷◌, ◌++◌, Option, None, Some, refl, sym, ap, ◌∙◌, append_assoc, append-nil}
use Rattle.std.proofs.lemmas.List.{append_cancel_left}
use Rattle.std.specs.Option.{option_map}
use Rattle.bsv_io.specs.Prefixes.{IsPrefix}
use Rattle.bsv_io.specs.Writing.{Writing, appended, count_after, AppendsPrefix}

-- told bytes, and more after them
abbrev grown : List ℕ → Option (List ℕ) → Option (List ℕ)
grown more told = option_map (λ (before : List ℕ). before ++ more) told

grown-append : (a b : List ℕ) (told : Option (List ℕ)) → grown (a ++ b) told ≡ grown b (grown a told)
grown-append a b None = refl
grown-append a b (Some before) = ap (λ (bytes : List ℕ). Some bytes) (sym (append_assoc before a b))

grown-nil : (told : Option (List ℕ)) → grown [] told ≡ told
grown-nil None = refl
grown-nil (Some before) = ap (λ (bytes : List ℕ). Some bytes) (append-nil before)

count_after-append : (a b : List ℕ) (number : ℕ) → count_after (a ++ b) number ≡ count_after b (count_after a number)
unfolding count_after
count_after-append [] b number = refl
count_after-append (x ∷ a) b number = count_after-append a b ((number + 1) % 2 ^ 64)

-- a told number, and more bytes after it
abbrev raised : List ℕ → Option ℕ → Option ℕ
raised more told = option_map (count_after more) told

raised-append : (a b : List ℕ) (told : Option ℕ) → raised (a ++ b) told ≡ raised b (raised a told)
raised-append a b None = refl
raised-append a b (Some number) = ap (λ (n : ℕ). Some n) (count_after-append a b number)

raised-nil : (told : Option ℕ) → raised [] told ≡ told
unfolding count_after
raised-nil None = refl
raised-nil (Some number) = refl

-- bytes that are appended in two pieces
pub appended-append : (a b : List ℕ) (w : Writing) → appended (a ++ b) w ≡ appended b (appended a w)
appended-append a b w =
    ap (λ (told : Option (List ℕ)). record w { bytes = told; taken = raised (a ++ b) w.taken }) (grown-append a b w.bytes)
    ∙ ap (λ (told : Option ℕ). record w { bytes = grown b (grown a w.bytes); taken = told }) (raised-append a b w.taken)

pub appended-nil : (w : Writing) → appended [] w ≡ w
appended-nil w =
    ap (λ (told : Option (List ℕ)). record w { bytes = told; taken = raised [] w.taken }) (grown-nil w.bytes)
    ∙ ap (λ (told : Option ℕ). record w { taken = told }) (raised-nil w.taken)

-- nothing is appended
pub nothing_put : (text : List ℕ) (w : Writing) → AppendsPrefix text w w
nothing_put text w = record { front = []; prefix = record { rest = text; joined = refl }; put = sym (grown-nil w.bytes) }

-- a front that grows, where the front and what waits make the text
record Grows (text more : List ℕ) (first third : Option (List ℕ)) : Type 0 where
  front : List ℕ
  prefix : IsPrefix front (text ++ more)
  put : third ≡ grown front first

grows : (first second third : Option (List ℕ)) (text waiting more one two rest : List ℕ) → second ≡ grown one first → grown waiting second ≡ grown text first → waiting ++ more ≡ two ++ rest → third ≡ grown two second → Grows text more first third
grows None second third text waiting more one two rest start said joined end =
    record { front = []; prefix = record { rest = text ++ more; joined = refl }; put = end ∙ ap (grown two) start }
grows (Some before) second third text waiting more one two rest start said joined end =
    let both : Some (before ++ one ++ waiting) ≡ Some (before ++ text) = sym (ap (grown waiting) start) ∙ said in
    let same : before ++ (one ++ waiting) ≡ before ++ text = sym (append_assoc before one waiting) ∙ (cc) in
    let whole : one ++ waiting ≡ text = append_cancel_left before (one ++ waiting) text same in
    record {
      front = one ++ two;
      prefix = record { rest = rest; joined = ap (λ (t : List ℕ). t ++ more) (sym whole) ∙ append_assoc one waiting more ∙ ap (λ (t : List ℕ). one ++ t) joined ∙ sym (append_assoc one two rest) };
      put = end ∙ ap (grown two) start ∙ sym (grown-append one two (Some before));
    }

-- what went before, and then a prefix of what waits and of more
pub AppendsPrefix-then : (text waiting more : List ℕ) (first second third : Writing) → AppendsPrefix text first second → appended waiting second ≡ appended text first → AppendsPrefix (waiting ++ more) second third → AppendsPrefix (text ++ more) first third
AppendsPrefix-then text waiting more first second third before said after =
    let all = grows first.bytes second.bytes third.bytes text waiting more before.front after.front after.prefix.rest before.put (ap (λ (w : Writing). w.bytes) said) after.prefix.joined after.put in
    record { front = all.front; prefix = all.prefix; put = all.put }

-- a prefix of a text is one of a longer text
pub AppendsPrefix-more : (text more : List ℕ) (old new : Writing) → AppendsPrefix text old new → AppendsPrefix (text ++ more) old new
AppendsPrefix-more text more old new h =
    record {
      front = h.front;
      prefix = record { rest = h.prefix.rest ++ more; joined = ap (λ (t : List ℕ). t ++ more) h.prefix.joined ∙ append_assoc h.front h.prefix.rest more };
      put = h.put;
    }

-- a text that is put whole
pub whole_put : (text : List ℕ) (first second : Writing) → second ≡ appended text first → AppendsPrefix text first second
whole_put text first second h =
    record { front = text; prefix = record { rest = []; joined = sym (append-nil text) }; put = ap (λ (w : Writing). w.bytes) h }

-- a text is put, and then a prefix of a second
pub prefix_after : (text more : List ℕ) (first second third : Writing) → second ≡ appended text first → AppendsPrefix more second third → AppendsPrefix (text ++ more) first third
prefix_after text more first second third h this =
    AppendsPrefix-then text [] more first second third (whole_put text first second h) (appended-nil second ∙ h) this
