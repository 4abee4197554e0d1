-- The lines of a list, one after the other, and what they name.
use Rattle.std.proofs.Common.{◌≡◌, ◌∙◌, ◌⊎◌, ℕ, suc, ◌+◌, ◌<◌, ◌≤◌, Bool, true, false, inl, inr, List, [], ◌∷◌, ◌++◌, length, Option, None, Some, refl, sym, ap, ap₂, subst, arith, append_assoc, append-nil}
use Rattle.std.proofs.lemmas.Bool.{cases_lt}
use Rattle.std.specs.Prelude.{IfSome, IsTrue, ◌&&◌, is_some, nat_le}
use Rattle.std.specs.List.{list_all}
use Rattle.bsv_run.specs.Reading.{HasNoFeed, IsFirstLine}
use Rattle.bsv_run.specs.Traces.{line_text, lines_of}
use Rattle.bsv_run.proofs.Listed.{begins_line, ended_line, last_line, text_long}
use Rattle.bsv_suite.specs.Lists.{AreNamed, AreNamedToBad, HasBadLineAt, IsNamed, NamesNone, NamesTraces, is_printable, is_trace_name, list_limit}
use Rattle.bsv_suite.specs.Reading as r
use Rattle.bsv_suite.specs.Reading.{Fills, IsNext, MeetsBad, TakesName, name_line_limit}

-- ---- where a line ends

feed_in : (front rest : List ℕ) → HasNoFeed ((front ++ 10 ∷ []) ++ rest) → ⊥
feed_in [] rest h = h.0 refl
feed_in (b ∷ front) rest h = feed_in front rest h.1

-- where there is a first line there is a line feed
pub first_has_feed : (bytes line behind : List ℕ) → IsFirstLine bytes line behind → HasNoFeed bytes → ⊥
first_has_feed bytes line behind first none =
    feed_in first.ended.front behind (subst HasNoFeed (first.whole ∙ ap (λ (t : List ℕ). t ++ behind) first.ended.is) none)

pub some_has_feed : {P : Type 0} (found : Option P) (line behind : P → List ℕ) (bytes : List ℕ) → IfSome found (λ p. IsFirstLine bytes (line p) (behind p)) → is_some found ≡ true
    → HasNoFeed bytes → ⊥
some_has_feed None line behind bytes first some none = absurd (let no_value : ⊥ = cc in no_value)
some_has_feed (Some p) line behind bytes first some none = first_has_feed bytes (line p) (behind p) first none

-- ---- the next line

pub next_first : (held after line behind : List ℕ) → IsFirstLine held line behind → IsNext held after line behind
next_first held after line behind first =
    r.IsNext.whole (ap (λ (t : List ℕ). lines_of (t ++ after)) first.whole ∙ ap lines_of (append_assoc line behind after) ∙ ended_line [] line (behind ++ after) tt first.ended)

rest_is_line : (held after : List ℕ) → HasNoFeed held → 0 < length held → after ≡ [] → lines_of (held ++ after) ≡ held ∷ lines_of ([] ++ after)
rest_is_line held after none some ended =
    ap (λ (t : List ℕ). lines_of (held ++ t)) ended ∙ ap lines_of (append-nil held) ∙ last_line held none some ∙ ap (λ (t : List ℕ). held ∷ lines_of t) (sym ended)

pub next_rest : (held after : List ℕ) → HasNoFeed held → 0 < length held → (HasNoFeed held → length held ≤ name_line_limit → after ≡ []) → IsNext held after held []
next_rest held after none some enough =
    elim (cases_lt name_line_limit (length held)) [
      | inl long ↦ (let first = begins_line held after none some in r.IsNext.over first.line first.rest first.lines long first.long)
      | inr short ↦ r.IsNext.whole (rest_is_line held after none some (enough none (omega (arith, short))))
    ]

-- the next line of what is held after a line was read on to its end
pub next_of : (held left new piece line behind : List ℕ) (told : Option (List ℕ)) → (fills : Fills held left new told) → piece ≡ new
    → ((after : List ℕ) → (HasNoFeed piece → length piece ≤ name_line_limit → after ≡ []) → IsNext piece after line behind) → IsNext new fills.after line behind
next_of held left new piece line behind told fills same next =
    subst (λ (t : List ℕ). IsNext t fills.after line behind) same
    (next fills.after (subst (λ (t : List ℕ). HasNoFeed t → length t ≤ name_line_limit → fills.after ≡ []) (sym same) fills.enough))

-- ---- what a line names

pub none_named : (before : ℕ) (line text : List ℕ) → text ≡ line_text line → is_trace_name text ≡ false → NamesNone before line
none_named before line text is other name named =
    let same : name ≡ text = named.is ∙ sym is in
    let yes : IsTrue (is_trace_name text) = subst (λ (t : List ℕ). IsTrue (is_trace_name t)) same named.legal in
    let no_value : ⊥ = cc in
    no_value

pub none_after : (before : ℕ) (line : List ℕ) → 256 ≤ before → NamesNone before line
none_after before line far name named = omega (arith, far, named.within)

short_of : (n : ℕ) (a b : Bool) → IsTrue (a && nat_le n 255 && b) → n ≤ 255
short_of n true b h = by (nat_le n 255) refl h
  where
    by : (t : Bool) → nat_le n 255 ≡ t → IsTrue (t && b) → n ≤ 255
    by true e h = grind (arith, e)
    by false e h = absurd (let no_value : ⊥ = cc in no_value)
short_of n false b h = absurd (let no_value : ⊥ = cc in no_value)

-- a line that names a trace is short
named_short : (before : ℕ) (line name : List ℕ) → IsNamed before line name → length line ≤ name_line_limit
named_short before line name named =
    let short = short_of (length name) (nat_le 1 (length name)) (list_all is_printable name) named.legal in
    omega (arith, short, ap length named.is, text_long line)

too_long : (before : ℕ) (line first : List ℕ) → name_line_limit < length line → length line ≤ length first → NamesNone before first
too_long before line first long longer name named = omega (arith, long, longer, named_short before first name named)

-- ---- one line is taken

pub ends : (held left new : List ℕ) (told : Option (List ℕ)) → Fills held left new told → new ≡ [] → lines_of (held ++ left) ≡ []
ends held left new told fills none =
    let nothing = fills.enough (subst HasNoFeed (sym none) tt) (omega (arith, ap length none)) in
    ap lines_of (fills.moved ∙ ap (λ (t : List ℕ). t ++ fills.after) none ∙ nothing)

pub takes : (before : ℕ) (held left new line behind name : List ℕ) (told : Option (List ℕ)) → (fills : Fills held left new told) → IsNext new fills.after line behind → IsNamed before line name
    → TakesName before held left name behind told
takes before held left new line behind name told fills (IsNext.whole lines) named =
    record { line = line; after = fills.after; told_after = fills.told_after; lines = ap lines_of fills.moved ∙ lines; named = named }
takes before held left new line behind name told fills (IsNext.over first rest lines long longer) named =
    absurd (omega (arith, long, named_short before line name named))

pub meets : (before : ℕ) (held left new line behind : List ℕ) (told : Option (List ℕ)) → (fills : Fills held left new told) → IsNext new fills.after line behind → NamesNone before line
    → MeetsBad before (held ++ left)
meets before held left new line behind told fills (IsNext.whole lines) bad =
    record { line = line; rest = lines_of (behind ++ fills.after); lines = ap lines_of fills.moved ∙ lines; bad = bad }
meets before held left new line behind told fills (IsNext.over first rest lines long longer) bad =
    record { line = first; rest = rest; lines = ap lines_of fills.moved ∙ lines; bad = too_long before line first long longer }

-- ---- one after the other

pub named_long : (before : ℕ) (lines names : List (List ℕ)) → AreNamed before lines names → length lines ≡ length names
named_long before [] [] h = refl
named_long before [] (name ∷ names) h = absurd h
named_long before (line ∷ lines) [] h = absurd h
named_long before (line ∷ lines) (name ∷ names) h = ap suc (named_long (before + 1) lines names h.1)

pub named_more : (before after : ℕ) (lines names : List (List ℕ)) (line name : List ℕ) → after ≡ before + length names → AreNamed before lines names → IsNamed after line name
    → AreNamed before (lines ++ line ∷ []) (names ++ name ∷ [])
named_more before after [] [] line name is h last = (subst (λ (n : ℕ). IsNamed n line name) (let same : after ≡ before = omega (arith, is) in same) last, tt)
named_more before after [] (n ∷ names) line name is h last = absurd h
named_more before after (l ∷ lines) [] line name is h last = absurd h
named_more before after (l ∷ lines) (n ∷ names) line name is h last = (h.0, named_more (before + 1) after lines names line name (omega (arith, is)) h.1 last)

pub bad_after : (before after : ℕ) (lines rest names : List (List ℕ)) (line : List ℕ) → after ≡ before + length names → AreNamed before lines names → NamesNone after line
    → AreNamedToBad before (lines ++ line ∷ rest) names
bad_after before after [] rest [] line is h bad = subst (λ (n : ℕ). NamesNone n line) (let same : after ≡ before = omega (arith, is) in same) bad
bad_after before after [] rest (n ∷ names) line is h bad = absurd h
bad_after before after (l ∷ lines) rest [] line is h bad = absurd h
bad_after before after (l ∷ lines) rest (n ∷ names) line is h bad = (h.0, bad_after (before + 1) after lines rest names line (omega (arith, is)) h.1 bad)

-- what was taken of a list so far: these lines, which name these traces; so much is held, and so much is left
pub record Taken (list held left : List ℕ) (names : List (List ℕ)) : Type 0 where
  pub front : List (List ℕ)
  pub lines : lines_of list ≡ front ++ lines_of (held ++ left)
  pub named : AreNamed 0 front names

pub taken_more : (list held left new name : List ℕ) (names : List (List ℕ)) (told : Option (List ℕ)) → Taken list held left names → (t : TakesName (length names) held left name new told)
    → Taken list new t.after (names ++ name ∷ [])
taken_more list held left new name names told taken t =
    record {
      front = taken.front ++ t.line ∷ [];
      lines = taken.lines ∙ ap (λ (ls : List (List ℕ)). taken.front ++ ls) t.lines ∙ sym (append_assoc taken.front (t.line ∷ []) (lines_of (new ++ t.after)));
      named = named_more 0 (length names) taken.front names t.line name (omega arith) taken.named t.named;
    }

pub taken_all : (list held left : List ℕ) (names : List (List ℕ)) → Taken list held left names → lines_of (held ++ left) ≡ [] → NamesTraces list names
taken_all list held left names taken none =
    subst (λ (ls : List (List ℕ)). AreNamed 0 ls names) (sym (taken.lines ∙ ap (λ (ls : List (List ℕ)). taken.front ++ ls) none ∙ append-nil taken.front)) taken.named

pub taken_to_bad : (list held left : List ℕ) (names : List (List ℕ)) (number : ℕ) → Taken list held left names → number ≡ length names + 1 → MeetsBad (length names) (held ++ left)
    → HasBadLineAt list number
taken_to_bad list held left names number taken is bad =
    record {
      names = names;
      bad = subst (λ (ls : List (List ℕ)). AreNamedToBad 0 ls names) (sym (taken.lines ∙ ap (λ (ls : List (List ℕ)). taken.front ++ ls) bad.lines))
          (bad_after 0 (length names) taken.front bad.rest names bad.line (omega arith) taken.named bad.bad);
      number_is = is;
    }

-- ---- lists are decided, and name one list of traces

named_is : (before : ℕ) (line name other : List ℕ) → IsNamed before line name → IsNamed before line other → name ≡ other
named_is before line name other h k = h.is ∙ sym k.is

pub named_once : (before : ℕ) (lines names others : List (List ℕ)) → AreNamed before lines names → AreNamed before lines others → names ≡ others
named_once before [] [] [] h k = refl
named_once before [] [] (other ∷ others) h k = absurd k
named_once before [] (name ∷ names) others h k = absurd h
named_once before (line ∷ lines) [] others h k = absurd h
named_once before (line ∷ lines) (name ∷ names) [] h k = absurd k
named_once before (line ∷ lines) (name ∷ names) (other ∷ others) h k =
    ap₂ (λ (n : List ℕ) (ns : List (List ℕ)). n ∷ ns) (named_is before line name other h.0 k.0) (named_once (before + 1) lines names others h.1 k.1)

pub bad_once : (before : ℕ) (lines names others : List (List ℕ)) → AreNamedToBad before lines names → AreNamedToBad before lines others → names ≡ others
bad_once before [] names others h k = absurd h
bad_once before (line ∷ lines) [] [] h k = refl
bad_once before (line ∷ lines) [] (other ∷ others) h k = absurd (h other k.0)
bad_once before (line ∷ lines) (name ∷ names) [] h k = absurd (k name h.0)
bad_once before (line ∷ lines) (name ∷ names) (other ∷ others) h k =
    ap₂ (λ (n : List ℕ) (ns : List (List ℕ)). n ∷ ns) (named_is before line name other h.0 k.0) (bad_once (before + 1) lines names others h.1 k.1)

pub not_both : (before : ℕ) (lines names others : List (List ℕ)) → AreNamed before lines names → AreNamedToBad before lines others → ⊥
not_both before [] names others h k = k
not_both before (line ∷ lines) [] others h k = h
not_both before (line ∷ lines) (name ∷ names) [] h k = k name h.0
not_both before (line ∷ lines) (name ∷ names) (other ∷ others) h k = not_both (before + 1) lines names others h.1 k.1

line_named : (before : ℕ) (line : List ℕ) → ((name : List ℕ) × IsNamed before line name) ⊎ NamesNone before line
line_named before line =
    elim (cases_lt before list_limit) [
      | inl within ↦ by within (is_trace_name (line_text line)) refl
      | inr far ↦ inr (none_after before line (omega (arith, far)))
    ]
  where
    by : before < list_limit → (t : Bool) → is_trace_name (line_text line) ≡ t → ((name : List ℕ) × IsNamed before line name) ⊎ NamesNone before line
    by within true e = inl (line_text line, record { within = within; is = refl; legal = e })
    by within false e = inr (none_named before line (line_text line) refl e)

-- all lines name traces, or some line is bad
pub data Verdict (before : ℕ) (lines : List (List ℕ)) : Type 0 where
  clean : (names : List (List ℕ)) → AreNamed before lines names → Verdict before lines
  bad : (names : List (List ℕ)) → AreNamedToBad before lines names → Verdict before lines

verdict_more : (before : ℕ) (line : List ℕ) (lines : List (List ℕ)) (name : List ℕ) → IsNamed before line name → Verdict (before + 1) lines → Verdict before (line ∷ lines)
verdict_more before line lines name h (clean names all) = clean (name ∷ names) (h, all)
verdict_more before line lines name h (bad names some) = bad (name ∷ names) (h, some)

pub verdict : (before : ℕ) (lines : List (List ℕ)) → Verdict before lines
verdict before [] = clean [] tt
verdict before (line ∷ lines) =
    elim (line_named before line) [
      | inl found ↦ verdict_more before line lines found.0 found.1 (verdict (before + 1) lines)
      | inr none ↦ bad [] none
    ]
