-- The lines of bytes.
use Rattle.std.proofs.Common.{◌≡◌, ◌≢◌, ℕ, suc, ◌+◌, ◌<◌, ◌≤◌, ◌==◌, Bool, true, false, not, cond, List, [], ◌∷◌, ◌++◌, length, take, drop, refl, sym, ap, ◌∙◌, subst, arith, append_assoc, length-append}
use Rattle.std.proofs.Math.Seq.{take-append_seam}
use Rattle.std.proofs.lemmas.List.{take-append-drop}
use Rattle.std.specs.List.{prefix_len}
use Rattle.std.proofs.lemmas.Bool.Decides.{nat_tests}
use Rattle.bsv_run.specs.Reading.{HasNoFeed, IsEnded, IsFirstLine}
use Rattle.bsv_run.specs.Traces.{lines_of, line_text, onto, without_last}

-- ---- line feeds

not_feed : (b : ℕ) → b ≢ 10 → (b == 10) ≡ false
not_feed b h = by (b == 10) refl
  where
    by : (t : Bool) → (b == 10) ≡ t → t ≡ false
    by false e = refl
    by true e = absurd (h (grind (arith, nat_tests, e)))

pub unended_append : (front more : List ℕ) → HasNoFeed front → HasNoFeed more → HasNoFeed (front ++ more)
unended_append [] more h g = g
unended_append (b ∷ front) more h g = (h.0, unended_append front more h.1 g)

-- ---- lines

-- a byte that is no line feed goes in front of the first line
no_feed_onto : (b : ℕ) (bytes : List ℕ) → b ≢ 10 → lines_of (b ∷ bytes) ≡ onto b (lines_of bytes)
no_feed_onto b bytes h = ap (λ (t : Bool). cond t ((b ∷ []) ∷ lines_of bytes) (onto b (lines_of bytes))) (not_feed b h)

-- bytes that are ended by a line feed are a line
pub lines_ended : (front left : List ℕ) → HasNoFeed front → lines_of ((front ++ 10 ∷ []) ++ left) ≡ (front ++ 10 ∷ []) ∷ lines_of left
lines_ended [] left h = refl
lines_ended (b ∷ front) left h = no_feed_onto b ((front ++ 10 ∷ []) ++ left) h.0 ∙ ap (onto b) (lines_ended front left h.1)

pub ended_line : (held line left : List ℕ) → HasNoFeed held → IsEnded line → lines_of ((held ++ line) ++ left) ≡ (held ++ line) ∷ lines_of left
ended_line held line left h ended =
    let same : held ++ line ≡ (held ++ ended.front) ++ 10 ∷ [] = ap (λ (t : List ℕ). held ++ t) ended.is ∙ sym (append_assoc held ended.front (10 ∷ [])) in
    ap (λ (t : List ℕ). lines_of (t ++ left)) same
    ∙ lines_ended (held ++ ended.front) left (unended_append held ended.front h ended.unended)
    ∙ ap (λ (t : List ℕ). t ∷ lines_of left) (sym same)

-- and so are bytes that are not ended, at the end of a trace
pub last_line : (held : List ℕ) → HasNoFeed held → 0 < length held → lines_of held ≡ held ∷ []
last_line [] h some = absurd (omega (arith, some))
last_line (b ∷ []) h some = no_feed_onto b [] h.0
last_line (b ∷ c ∷ more) h some = no_feed_onto b (c ∷ more) h.0 ∙ ap (onto b) (last_line (c ∷ more) h.1 (omega arith))

-- the first line of bytes has at least these bytes
pub record BeginsLine (started bytes : List ℕ) : Type 0 where
  pub line : List ℕ
  pub rest : List (List ℕ)
  pub lines : lines_of bytes ≡ line ∷ rest
  pub long : length started ≤ length line

onto_line : (b : ℕ) (lines : List (List ℕ)) → (line : List ℕ) × (rest : List (List ℕ)) × (onto b lines ≡ line ∷ rest) × (1 ≤ length line)
onto_line b [] = (b ∷ [], [], refl, omega arith)
onto_line b (line ∷ rest) = (b ∷ line, rest, refl, omega arith)

-- what was begun is a part of the first line
pub begins_line : (started left : List ℕ) → HasNoFeed started → 0 < length started → BeginsLine started (started ++ left)
begins_line [] left h some = absurd (omega (arith, some))
begins_line (b ∷ []) left h some =
    let first = onto_line b (lines_of left) in
    record { line = first.0; rest = first.1; lines = no_feed_onto b left h.0 ∙ first.2; long = first.3 }
begins_line (b ∷ c ∷ more) left h some =
    let further = begins_line (c ∷ more) left h.1 (omega arith) in
    record {
      line = b ∷ further.line;
      rest = further.rest;
      lines = no_feed_onto b ((c ∷ more) ++ left) h.0 ∙ ap (onto b) further.lines;
      long = omega (arith, further.long);
    }

-- and so is what was ended
pub ends_line : (held line left : List ℕ) → HasNoFeed held → IsEnded line → BeginsLine (held ++ line) ((held ++ line) ++ left)
ends_line held line left h ended = record { line = held ++ line; rest = lines_of left; lines = ended_line held line left h ended; long = omega arith }

-- ---- what lines say

without_last_long : (byte : ℕ) (xs : List ℕ) → length xs ≤ length (without_last byte xs) + 1
without_last_long byte [] = omega arith
without_last_long byte (x ∷ []) = by (x == byte)
  where
    by : (t : Bool) → 1 ≤ length (cond t [] (x ∷ [])) + 1
    by true = omega arith
    by false = omega arith
without_last_long byte (x ∷ y ∷ ys) = omega (arith, without_last_long byte (y ∷ ys))

-- the end of a line has at most two bytes
pub text_long : (line : List ℕ) → length line ≤ length (line_text line) + 2
text_long line = omega (arith, without_last_long 10 line, without_last_long 13 (without_last 10 line))

-- without the last byte where that is the given one
without_last_after : (byte : ℕ) (front : List ℕ) (x : ℕ) → without_last byte (front ++ x ∷ []) ≡ cond (x == byte) front (front ++ x ∷ [])
without_last_after byte [] x = refl
without_last_after byte (a ∷ []) x = onto_cond (x == byte)
  where
    onto_cond : (t : Bool) → a ∷ cond t [] (x ∷ []) ≡ cond t (a ∷ []) (a ∷ x ∷ [])
    onto_cond true = refl
    onto_cond false = refl
without_last_after byte (a ∷ b ∷ front) x = ap (λ (t : List ℕ). a ∷ t) (without_last_after byte (b ∷ front) x) ∙ onto_cond (x == byte)
  where
    onto_cond : (t : Bool) → a ∷ cond t (b ∷ front) ((b ∷ front) ++ x ∷ []) ≡ cond t (a ∷ b ∷ front) ((a ∷ b ∷ front) ++ x ∷ [])
    onto_cond true = refl
    onto_cond false = refl

pub with_last : (byte : ℕ) (bytes front : List ℕ) (x : ℕ) → bytes ≡ front ++ x ∷ [] → x ≡ byte → front ≡ without_last byte bytes
with_last byte bytes front x whole same =
    let test : (x == byte) ≡ true = grind (arith, nat_tests, same) in
    sym (ap (without_last byte) whole ∙ without_last_after byte front x ∙ ap (λ (t : Bool). cond t front (front ++ x ∷ [])) test)

pub with_other : (byte : ℕ) (bytes front : List ℕ) (x : ℕ) → bytes ≡ front ++ x ∷ [] → x ≢ byte → bytes ≡ without_last byte bytes
with_other byte bytes front x whole other =
    whole ∙ sym (ap (without_last byte) whole ∙ without_last_after byte front x ∙ by (x == byte) refl)
  where
    by : (t : Bool) → (x == byte) ≡ t → cond t front (front ++ x ∷ []) ≡ front ++ x ∷ []
    by true e = absurd (other (grind (arith, nat_tests, e)))
    by false e = refl

-- ---- the first line, by its length

abbrev front_len : List ℕ → ℕ
front_len bytes = prefix_len (λ byte. not (byte == 10)) bytes

-- bytes with a line feed, in front of which none stands
record HasFeed (bytes : List ℕ) : Type 0 where
  front : List ℕ
  rest : List ℕ
  unended : HasNoFeed front
  whole : bytes ≡ front ++ 10 ∷ rest
  long : length front ≡ front_len bytes

feed_after : (b : ℕ) (bytes : List ℕ) (t : Bool) → (b == 10) ≡ t → (front_len bytes < length bytes → HasFeed bytes) → cond (not t) (1 + front_len bytes) 0 < suc (length bytes)
    → front_len (b ∷ bytes) ≡ cond (not t) (1 + front_len bytes) 0 → HasFeed (b ∷ bytes)
feed_after b bytes true e further within len =
    let same : b ≡ 10 = grind (arith, nat_tests, e) in
    record { front = []; rest = bytes; unended = tt; whole = ap (λ (x : ℕ). x ∷ bytes) same; long = sym len }
feed_after b bytes false e further within len =
    let more = further (omega (arith, within)) in
    record {
      front = b ∷ more.front;
      rest = more.rest;
      unended = ((λ same. let no_value : false ≡ true = grind (arith, nat_tests, e, same) in absurd (cc)), more.unended);
      whole = ap (λ (t : List ℕ). b ∷ t) more.whole;
      long = omega (arith, more.long, len);
    }

has_feed : (bytes : List ℕ) → front_len bytes < length bytes → HasFeed bytes
has_feed [] within = absurd (omega (arith, within))
has_feed (b ∷ bytes) within = feed_after b bytes (b == 10) refl (has_feed bytes) within refl

-- bytes whose front is all of them have no line feed
all_unended : (b : ℕ) (bytes : List ℕ) (t : Bool) → (b == 10) ≡ t → (length bytes ≤ front_len bytes → HasNoFeed bytes) → suc (length bytes) ≤ cond (not t) (1 + front_len bytes) 0 → HasNoFeed (b ∷ bytes)
all_unended b bytes true e further whole = absurd (omega (arith, whole))
all_unended b bytes false e further whole =
    ((λ same. let no_value : false ≡ true = grind (arith, nat_tests, e, same) in absurd (cc)), further (omega (arith, whole)))

pub none_ended : (bytes : List ℕ) → length bytes ≤ front_len bytes → HasNoFeed bytes
none_ended [] whole = tt
none_ended (b ∷ bytes) whole = all_unended b bytes (b == 10) refl (none_ended bytes) whole

-- the first line is one byte longer than what comes before its line feed
pub first_is : (bytes : List ℕ) (n : ℕ) → n ≡ front_len bytes → n < length bytes → IsFirstLine bytes (take (n + 1) bytes) (drop (n + 1) bytes)
first_is bytes n is within =
    let feed = has_feed bytes (subst (λ (k : ℕ). k < length bytes) is within) in
    let line = feed.front ++ 10 ∷ [] in
    let long : length line ≡ n + 1 = omega (arith, length-append feed.front (10 ∷ []), feed.long, is) in
    let whole : bytes ≡ line ++ feed.rest = feed.whole ∙ sym (append_assoc feed.front (10 ∷ []) feed.rest) in
    let line_is : take (n + 1) bytes ≡ line = ap (take (n + 1)) whole ∙ ap (λ (k : ℕ). take k (line ++ feed.rest)) (sym long) ∙ take-append_seam line feed.rest in
    record {
      ended = record { front = feed.front; unended = feed.unended; is = line_is };
      whole = sym (take-append-drop (n + 1) bytes);
    }
