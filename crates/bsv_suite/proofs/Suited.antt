-- What is told of the traces of a list, group by group.
use Rattle.std.proofs.Common.{◌≡◌, ◌∙◌, ℕ, ◌+◌, ◌*◌, ◌<◌, ◌≤◌, List, [], ◌∷◌, ◌++◌, length, map, min, suc, take, zero, Contains, Option, inl, inr, refl, sym, ap, ap₂, subst, arith, append_assoc, append-nil, length-append}
use Rattle.std.proofs.lemmas.Bool.Decides.{nat_tests}
use Rattle.std.proofs.lemmas.Bool.{cases_lt}
use Rattle.std.proofs.lemmas.List.{take_all}
use Rattle.std.specs.Prelude.{◌==◌, if◌then◌else◌, slice_index_or, Bool, true, false}
use Rattle.bsv_design.specs.declared.schedule.Schedule.{Schedule}
use Rattle.bsv_io.specs.Reading.{Current, Reading, bytes_given, given_of}
use Rattle.bsv_io.specs.Writing.{Writing, appended, AppendsPrefix}
use Rattle.bsv_io.proofs.Appended.{prefix_after, AppendsPrefix-more, AppendsPrefix-then, appended-append, appended-nil, nothing_put, whole_put}
use Rattle.bsv_clock.specs.Subjects.{Subject}
use Rattle.bsv_suite.specs.declared.sections.Section.{Section}
use Rattle.bsv_suite.specs.declared.sections.Trace.{Trace}
use Rattle.bsv_suite.specs.Reading.{AreRead, IsReadOf, trace_read_limit}
use Rattle.bsv_suite.specs.Sections.{AreSections, IsReported}
use Rattle.bsv_suite.specs.Suites.{AreTold, IsSuite, IsSuiteCut, IsSuiteStarted, bad_traces, suite_text}
use Rattle.bsv_suite.specs.Texts.{Told, section_text, told_of}
use Rattle.bsv_suite.proofs.Beyond.{reported_whole}

-- ---- how far a file was read

pub still_near : (first second third : Reading) → (trace_read_limit < bytes_given second → second.current ≡ first.current) → (trace_read_limit < bytes_given third → third.current ≡ second.current)
    → trace_read_limit < bytes_given third → third.current ≡ first.current
still_near first second third before this far =
    let same = this far in
    same ∙ before (subst (λ (at : Option Current). trace_read_limit < given_of at) same far)

-- ---- names

first_eight : (n : ℕ) (xs : List (List ℕ)) → n ≡ min (length xs) 8 → take n xs ≡ take 8 xs
first_eight n xs is =
    elim (cases_lt 8 (length xs)) [
      | inl more ↦ (let same : n ≡ 8 = omega (arith, is, more) in ap (λ (m : ℕ). take m xs) same)
      | inr all ↦ take_all n xs (omega (arith, is, all)) ∙ sym (take_all 8 xs (omega (arith, all)))
    ]

-- the group of the next names
pub next_group : (n : ℕ) (xs group : List (List ℕ)) → n ≡ min (length xs) 8 → group ≡ take n xs → group ≡ take 8 xs
next_group n xs group is front = front ∙ first_eight n xs is

in_front : (xs ys : List (List ℕ)) (x : List ℕ) (k : ℕ) → k < length xs → slice_index_or xs k x ≡ x → slice_index_or (xs ++ ys) k x ≡ x
in_front [] ys x k within e = absurd (omega (arith, within))
in_front (a ∷ xs) ys x zero within e = e
in_front (a ∷ xs) ys x (suc k) within e = in_front xs ys x k (omega (arith, within)) e

behind : (xs ys : List (List ℕ)) (x : List ℕ) → Contains ys x → Contains (xs ++ ys) x
behind [] ys x h = h
behind (a ∷ xs) ys x h = let further = behind xs ys x h in (suc further.0, omega (arith, further.1), further.2)

pub among_all : (names front left group rest : List (List ℕ)) (name : List ℕ) → names ≡ front ++ left → left ≡ group ++ rest → Contains group name → Contains names name
among_all names front left group rest name all split h =
    subst (λ (ns : List (List ℕ)). Contains ns name) (sym all)
    (behind front left name
    (subst (λ (ns : List (List ℕ)). Contains ns name) (sym split) (h.0, omega (arith, h.1, length-append group rest), in_front group rest name h.0 h.1 h.2)))

pub some_left : (n : ℕ) (b : Bool) → b ≡ (n == 0) → b ≡ false → 0 < n
some_left n b is none =
    elim (cases_lt 0 n) [
      | inl some ↦ some
      | inr zero_is ↦ (let same : (n == 0) ≡ true = grind (arith, nat_tests, zero_is) in absurd (let no_value : ⊥ = cc in no_value))
    ]

-- ---- texts

pub text_append : (ts us : List Told) → suite_text (ts ++ us) ≡ suite_text ts ++ suite_text us
text_append [] us = refl
text_append (t ∷ ts) us = ap (λ (x : List ℕ). section_text t ++ x) (text_append ts us) ∙ sym (append_assoc (section_text t) (suite_text ts) (suite_text us))

abbrev one_if : ℕ → ℕ
one_if bad = if bad == 0 then 0 else 1

pub bad_append : (ts us : List Told) → bad_traces (ts ++ us) ≡ bad_traces ts + bad_traces us
bad_append [] us = omega arith
bad_append (t ∷ ts) us = let further = bad_append ts us in omega (arith, further)

by_bool : (b : Bool) → (if b then 0 else 1) ≤ 1
by_bool true = omega arith
by_bool false = omega arith

pub few_bad : (ts : List Told) → bad_traces ts ≤ length ts
few_bad [] = omega arith
few_bad (t ∷ ts) = let further = few_bad ts in omega (arith, further, by_bool (t.bad == 0))

-- ---- sections, one after the other

abbrev tolds : List Section → List Told
tolds xs = map told_of xs

tolds_append : (xs ys : List Section) → tolds (xs ++ ys) ≡ tolds xs ++ tolds ys
tolds_append [] ys = refl
tolds_append (x ∷ xs) ys = ap (λ (ts : List Told). told_of x ∷ ts) (tolds_append xs ys)

alone : (t : Told) → suite_text (t ∷ []) ≡ section_text t
alone t = append-nil (section_text t)

text_more : (xs more : List Section) (x : Section) → more ≡ xs ++ x ∷ [] → suite_text (tolds more) ≡ suite_text (tolds xs) ++ section_text (told_of x)
text_more xs more x is =
    ap (λ (ys : List Section). suite_text (tolds ys)) is ∙ ap suite_text (tolds_append xs (x ∷ [])) ∙ text_append (tolds xs) (told_of x ∷ [])
    ∙ ap (λ (t : List ℕ). suite_text (tolds xs) ++ t) (alone (told_of x))

-- one more section is put
pub put_more : (xs more : List Section) (x : Section) (start w next : Writing) → more ≡ xs ++ x ∷ [] → w ≡ appended (suite_text (tolds xs)) start → next ≡ appended (section_text (told_of x)) w
    → next ≡ appended (suite_text (tolds more)) start
put_more xs more x start w next is so_far put =
    put ∙ ap (λ (v : Writing). appended (section_text (told_of x)) v) so_far ∙ sym (appended-append (suite_text (tolds xs)) (section_text (told_of x)) start)
    ∙ ap (λ (t : List ℕ). appended t start) (sym (text_more xs more x is))

pub bad_more : (xs more : List Section) (x : Section) (bad next : ℕ) → more ≡ xs ++ x ∷ [] → bad ≡ bad_traces (tolds xs) → next ≡ bad + one_if x.bad → next ≡ bad_traces (tolds more)
bad_more xs more x bad next is so_far step =
    let whole = ap (λ (ys : List Section). bad_traces (tolds ys)) is ∙ ap bad_traces (tolds_append xs (x ∷ [])) ∙ bad_append (tolds xs) (told_of x ∷ []) in
    omega (arith, step, so_far, whole)

pub one_bad : (bad : ℕ) → (bad ≡ 0 → ⊥) → one_if bad ≡ 1
one_bad bad some = by (bad == 0) refl
  where
    by : (t : Bool) → (bad == 0) ≡ t → ◌≡◌ {A = ℕ} (if t then 0 else 1) 1
    by true e = absurd (some (grind (arith, nat_tests, e)))
    by false e = refl

pub none_bad : (bad : ℕ) → bad ≡ 0 → one_if bad ≡ 0
none_bad bad none = ap one_if none

-- a prefix of one section after others is one of all
pub prefix_more : (xs more rest all : List Section) (x : Section) (start w next : Writing) → more ≡ xs ++ x ∷ [] → all ≡ more ++ rest → w ≡ appended (suite_text (tolds xs)) start
    → AppendsPrefix (section_text (told_of x)) w next → AppendsPrefix (suite_text (tolds all)) start next
prefix_more xs more rest all x start w next is split so_far begun =
    let here = prefix_after (suite_text (tolds xs)) (section_text (told_of x)) start w next so_far begun in
    let longer = AppendsPrefix-more (suite_text (tolds xs) ++ section_text (told_of x)) (suite_text (tolds rest)) start next here in
    subst (λ (t : List ℕ). AppendsPrefix t start next)
    (ap (λ (t : List ℕ). t ++ suite_text (tolds rest)) (sym (text_more xs more x is)) ∙ sym (text_append (tolds more) (tolds rest)) ∙ ap suite_text (sym (tolds_append more rest))
    ∙ ap (λ (ys : List Section). suite_text (tolds ys)) (sym split)) longer

-- ---- traces that are read

module _ (contents : List ℕ → List ℕ) where
  read_more : (names : List (List ℕ)) (name : List ℕ) (ts : List Trace) (t : Trace) → AreRead contents names ts → IsReadOf contents name t → AreRead contents (names ++ name ∷ []) (ts ++ t ∷ [])
  read_more [] name [] t h last = (last, tt)
  read_more [] name (u ∷ ts) t h last = absurd h
  read_more (n ∷ names) name [] t h last = absurd h
  read_more (n ∷ names) name (u ∷ ts) t h last = (h.0, read_more names name ts t h.1 last)

  pub one_read : (names more : List (List ℕ)) (name : List ℕ) (ts us : List Trace) (t : Trace) → more ≡ names ++ name ∷ [] → us ≡ ts ++ t ∷ [] → AreRead contents names ts → IsReadOf contents name t
      → AreRead contents more us
  one_read names more name ts us t is grown h last =
      subst (λ (ns : List (List ℕ)). AreRead contents ns us) (sym is) (subst (λ (vs : List Trace). AreRead contents (names ++ name ∷ []) vs) (sym grown) (read_more names name ts t h last))

-- ---- sections

pub as_many_sections : (s : Subject) (made : Schedule) (traces : List Trace) (xs : List Section) → AreSections s made traces xs → length xs ≡ length traces
as_many_sections s made [] [] h = refl
as_many_sections s made [] (x ∷ xs) h = absurd h
as_many_sections s made (t ∷ ts) [] h = absurd h
as_many_sections s made (t ∷ ts) (x ∷ xs) h = let further = as_many_sections s made ts xs h.1 in omega (arith, further)

module _ (s : Subject) (made : Schedule) (contents : List ℕ → List ℕ) where
  pub sections_told : (names : List (List ℕ)) (traces : List Trace) (xs : List Section) → AreRead contents names traces → AreSections s made traces xs
      → AreTold s made contents names (map told_of xs)
  sections_told [] [] [] read made = tt
  sections_told [] [] (x ∷ xs) read made = absurd made
  sections_told [] (t ∷ ts) xs read made = absurd read
  sections_told (name ∷ names) [] xs read made = absurd read
  sections_told (name ∷ names) (t ∷ ts) [] read made = absurd made
  sections_told (name ∷ names) (t ∷ ts) (x ∷ xs) read sections = (
    sections.0.name ∙ read.0.name_is,
    reported_whole s made (contents name) x.text.items x.bad (subst (λ (bytes : List ℕ). IsReported s made bytes x.text.items x.bad) read.0.bytes sections.0.reported),
    sections_told names ts xs read.1 sections.1,
  )

  pub as_many : (names : List (List ℕ)) (ts : List Told) → AreTold s made contents names ts → length ts ≡ length names
  as_many [] [] h = refl
  as_many [] (t ∷ ts) h = absurd h
  as_many (name ∷ names) [] h = absurd h
  as_many (name ∷ names) (t ∷ ts) h = let further = as_many names ts h.2 in omega (arith, further)

  pub told_append : (front more : List (List ℕ)) (ts us : List Told) → AreTold s made contents front ts → AreTold s made contents more us → AreTold s made contents (front ++ more) (ts ++ us)
  told_append [] more [] us h k = k
  told_append [] more (t ∷ ts) us h k = absurd h
  told_append (name ∷ front) more [] us h k = absurd h
  told_append (name ∷ front) more (t ∷ ts) us h k = (h.0, h.1, told_append front more ts us h.2 k)

  -- ---- group by group

  -- all that is told of the first names is put, in groups of eight
  pub record Along (names left : List (List ℕ)) (start w : Writing) (bad : ℕ) : Type 0 where
    pub front : List (List ℕ)
    pub tolds : List Told
    pub groups : ℕ
    pub names_are : names ≡ front ++ left
    pub whole : 0 < length left → length front ≡ 8 * groups
    pub told : AreTold s made contents front tolds
    pub put : w ≡ appended (suite_text tolds) start
    pub bad_is : bad ≡ bad_traces tolds

  pub along_start : (names : List (List ℕ)) (w : Writing) → Along names names w w 0
  along_start names w = record { front = []; tolds = []; groups = 0; names_are = refl; whole = λ some. refl; told = tt; put = sym (appended-nil w); bad_is = refl }

  pub along_more : (names left group rest : List (List ℕ)) (start w next : Writing) (bad more : ℕ) → left ≡ group ++ rest → (0 < length rest → length group ≡ 8)
      → Along names left start w bad → IsSuite s made contents group w next more → Along names rest start next (bad + more)
  along_more names left group rest start w next bad more split eight so_far told = record {
    front = so_far.front ++ group;
    tolds = so_far.tolds ++ told.tolds;
    groups = so_far.groups + 1;
    names_are = so_far.names_are ∙ ap (λ (ns : List (List ℕ)). so_far.front ++ ns) split ∙ sym (append_assoc so_far.front group rest);
    whole = λ some.
        let before = so_far.whole (omega (arith, ap length split, length-append group rest, some)) in
        omega (arith, before, eight some, length-append so_far.front group);
    told = told_append so_far.front group so_far.tolds told.tolds so_far.told told.told;
    put = told.put ∙ ap (λ (x : Writing). appended (suite_text told.tolds) x) so_far.put ∙ sym (appended-append (suite_text so_far.tolds) (suite_text told.tolds) start)
        ∙ ap (λ (t : List ℕ). appended t start) (sym (text_append so_far.tolds told.tolds));
    bad_is = ap₂ (λ (x y : ℕ). x + y) so_far.bad_is told.bad_is ∙ sym (bad_append so_far.tolds told.tolds);
  }

  pub along_all : (names left : List (List ℕ)) (start w : Writing) (bad : ℕ) → left ≡ [] → Along names left start w bad → IsSuite s made contents names start w bad
  along_all names left start w bad none so_far = record {
    tolds = so_far.tolds;
    told = subst (λ (ns : List (List ℕ)). AreTold s made contents ns so_far.tolds)
        (sym (so_far.names_are ∙ ap (λ (ns : List (List ℕ)). so_far.front ++ ns) none ∙ append-nil so_far.front)) so_far.told;
    put = so_far.put;
    bad_is = so_far.bad_is;
  }

  pub along_started : (names left group rest : List (List ℕ)) (start w next : Writing) (bad : ℕ) → left ≡ group ++ rest → Along names left start w bad
      → IsSuiteStarted s made contents group w next → IsSuiteStarted s made contents names start next
  along_started names left group rest start w next bad split so_far begun = record {
    front = so_far.front ++ begun.front;
    rest = begun.rest ++ rest;
    tolds = so_far.tolds ++ begun.tolds;
    names_are = so_far.names_are ∙ ap (λ (ns : List (List ℕ)). so_far.front ++ ns) (split ∙ ap (λ (ns : List (List ℕ)). ns ++ rest) begun.names_are ∙ append_assoc begun.front begun.rest rest)
        ∙ sym (append_assoc so_far.front begun.front (begun.rest ++ rest));
    told = told_append so_far.front begun.front so_far.tolds begun.tolds so_far.told begun.told;
    prefix = subst (λ (t : List ℕ). AppendsPrefix t start next) (sym (text_append so_far.tolds begun.tolds))
        (prefix_after (suite_text so_far.tolds) (suite_text begun.tolds) start w next so_far.put begun.prefix);
  }

  pub along_cut : (names left group : List (List ℕ)) (name : List ℕ) (start w : Writing) (bad : ℕ) → 0 < length left → group ≡ take 8 left → Contains group name → Along names left start w bad
      → IsSuiteCut s made contents names name start w
  along_cut names left group name start w bad some is among so_far = record {
    groups = so_far.groups;
    front = so_far.front;
    rest = left;
    tolds = so_far.tolds;
    names_are = so_far.names_are;
    whole = so_far.whole some;
    in_group = subst (λ (ns : List (List ℕ)). Contains ns name) is among;
    told = so_far.told;
    put = so_far.put;
  }

  -- ---- a group

  pub nothing_begun : (names : List (List ℕ)) (w : Writing) → IsSuiteStarted s made contents names w w
  nothing_begun names w = record { front = []; rest = names; tolds = []; names_are = refl; told = tt; prefix = nothing_put [] w }

  pub group_begun : (names : List (List ℕ)) (ts : List Told) (start w : Writing) → AreTold s made contents names ts → AppendsPrefix (suite_text ts) start w
      → IsSuiteStarted s made contents names start w
  group_begun names ts start w told prefix =
      record { front = names; rest = []; tolds = ts; names_are = sym (append-nil names); told = told; prefix = prefix }

  pub suite_begun : (names : List (List ℕ)) (start w : Writing) (bad : ℕ) → IsSuite s made contents names start w bad → IsSuiteStarted s made contents names start w
  suite_begun names start w bad all = group_begun names all.tolds start w all.told (whole_put (suite_text all.tolds) start w all.put)
