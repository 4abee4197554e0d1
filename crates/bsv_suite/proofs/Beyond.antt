-- A trace that has more bytes than it may have is reported as its front of one byte more.
use Rattle.std.proofs.Common.{◌≡◌, ◌≢◌, ◌∙◌, ◌⊎◌, ℕ, ◌+◌, ◌<◌, ◌≤◌, ◌==◌, Bool, true, false, inl, inr, List, [], ◌∷◌, ◌++◌, length, take, drop, refl, sym, ap, subst, arith, append_assoc, append-nil, length-append}
use Rattle.std.proofs.lemmas.Bool.{cases_lt}
use Rattle.std.proofs.lemmas.Bool.Decides.{nat_tests}
use Rattle.std.proofs.lemmas.List.{length-take-le, take-append-drop, take_all}
use Rattle.bsv_design.specs.declared.schedule.Schedule.{Schedule}
use Rattle.bsv_design.specs.scheme.Schemes.{Asking, Outline}
use Rattle.bsv_clock.specs.Subjects.{Subject}
use Rattle.bsv_run.specs.Reading.{HasNoFeed}
use Rattle.bsv_run.specs.Traces.{AreAsked, AreAskedToBad, HasBadLine, lines_of}
use Rattle.bsv_run.proofs.Listed.{begins_line, last_line, lines_ended, unended_append}
use Rattle.bsv_suite.specs.Reading.{trace_read_limit}
use Rattle.bsv_suite.specs.Sections.{IsCut, IsReported, section_limit}

module _ (limit : ℕ) (os : List Outline) where
  -- a line that ends after the limit is bad
  bad_first : (start : ℕ) (line : List ℕ) (rest : List (List ℕ)) → limit < start + length line → AreAskedToBad limit os start (line ∷ rest) []
  bad_first start line rest far q asked = omega (arith, far, asked.within)

  none_before : (start : ℕ) (line : List ℕ) (rest : List (List ℕ)) (qs : List Asking) → limit < start + length line → AreAskedToBad limit os start (line ∷ rest) qs → qs ≡ []
  none_before start line rest [] far h = refl
  none_before start line rest (q ∷ qs) far h = absurd (omega (arith, far, h.0.within))

  none_asked : (start : ℕ) (line : List ℕ) (rest : List (List ℕ)) (qs : List Asking) → limit < start + length line → AreAsked limit os start (line ∷ rest) qs → ⊥
  none_asked start line rest [] far h = h
  none_asked start line rest (q ∷ qs) far h = omega (arith, far, h.0.within)

  -- ---- what is left of a line that is not ended

  begun_bad : (start : ℕ) (held left bytes : List ℕ) (qs : List Asking) → bytes ≡ held → HasNoFeed held → limit < start + length bytes → AreAskedToBad limit os start (lines_of bytes) qs
      → AreAskedToBad limit os start (lines_of (bytes ++ left)) qs
  begun_bad start [] left bytes qs is none far h = absurd (subst (λ (t : List ℕ). AreAskedToBad limit os start (lines_of t) qs) is h)
  begun_bad start (b ∷ held) left bytes qs is none far h =
      let some : 0 < length (b ∷ held) = omega arith in
      let long = ap length is in
      let last = subst (λ (ls : List (List ℕ)). AreAskedToBad limit os start ls qs) (last_line (b ∷ held) none some) (subst (λ (t : List ℕ). AreAskedToBad limit os start (lines_of t) qs) is h) in
      let nothing = none_before start (b ∷ held) [] qs (omega (arith, far, long)) last in
      let first = begins_line (b ∷ held) left none some in
      subst (λ (t : List ℕ). AreAskedToBad limit os start (lines_of (t ++ left)) qs) (sym is)
      (subst (λ (ls : List (List ℕ)). AreAskedToBad limit os start ls qs) (sym first.lines)
      (subst (λ (rs : List Asking). AreAskedToBad limit os start (first.line ∷ first.rest) rs) (sym nothing) (bad_first start first.line first.rest (omega (arith, far, long, first.long)))))

  begun_asked : (start : ℕ) (held bytes : List ℕ) (qs : List Asking) → bytes ≡ held → HasNoFeed held → start ≤ limit → limit < start + length bytes → AreAsked limit os start (lines_of bytes) qs → ⊥
  begun_asked start [] bytes qs is none within far h = omega (arith, within, far, ap length is)
  begun_asked start (b ∷ held) bytes qs is none within far h =
      none_asked start (b ∷ held) [] qs (omega (arith, far, ap length is))
      (subst (λ (ls : List (List ℕ)). AreAsked limit os start ls qs) (last_line (b ∷ held) none (omega arith)) (subst (λ (t : List ℕ). AreAsked limit os start (lines_of t) qs) is h))

  -- ---- line by line

  split_here : (held more bytes : List ℕ) (b : ℕ) → bytes ≡ held ++ b ∷ more → bytes ≡ (held ++ b ∷ []) ++ more
  split_here held more bytes b is = is ∙ sym (append_assoc held (b ∷ []) more)

  -- a line ends here
  ended_here : (held more bytes left : List ℕ) (b : ℕ) → bytes ≡ held ++ b ∷ more → b ≡ 10 → HasNoFeed held → lines_of (bytes ++ left) ≡ (held ++ 10 ∷ []) ∷ lines_of (more ++ left)
  ended_here held more bytes left b is feed none =
      ap (λ (t : List ℕ). lines_of (t ++ left)) (split_here held more bytes b is ∙ ap (λ (x : ℕ). (held ++ x ∷ []) ++ more) feed)
      ∙ ap lines_of (append_assoc (held ++ 10 ∷ []) more left)
      ∙ lines_ended held (more ++ left) none

  ended_alone : (held more bytes : List ℕ) (b : ℕ) → bytes ≡ held ++ b ∷ more → b ≡ 10 → HasNoFeed held → lines_of bytes ≡ (held ++ 10 ∷ []) ∷ lines_of more
  ended_alone held more bytes b is feed none =
      ap lines_of (sym (append-nil bytes)) ∙ ended_here held more bytes [] b is feed none ∙ ap (λ (t : List ℕ). (held ++ 10 ∷ []) ∷ lines_of t) (append-nil more)

  far_after : (start : ℕ) (held more bytes : List ℕ) (b : ℕ) → bytes ≡ held ++ b ∷ more → limit < start + length bytes → limit < (start + length (held ++ 10 ∷ [])) + length more
  far_after start held more bytes b is far =
      omega (arith, far, ap length is, length-append held (b ∷ more), length-append held (10 ∷ []))

  one_line : (start : ℕ) (line : List ℕ) (rest more : List (List ℕ)) (qs : List Asking)
      → ((rs : List Asking) → AreAskedToBad limit os (start + length line) rest rs → AreAskedToBad limit os (start + length line) more rs)
      → AreAskedToBad limit os start (line ∷ rest) qs → AreAskedToBad limit os start (line ∷ more) qs
  one_line start line rest more [] further h = h
  one_line start line rest more (q ∷ qs) further h = (h.0, further qs h.1)

  one_asked : (start : ℕ) (line : List ℕ) (rest : List (List ℕ)) (qs : List Asking)
      → ((rs : List Asking) → start + length line ≤ limit → AreAsked limit os (start + length line) rest rs → ⊥) → AreAsked limit os start (line ∷ rest) qs → ⊥
  one_asked start line rest [] further h = h
  one_asked start line rest (q ∷ qs) further h = further qs h.0.within h.1

  other_byte : (b : ℕ) → (b == 10) ≡ false → b ≢ 10
  other_byte b e same = let no_value : false ≡ true = grind (arith, nat_tests, e, same) in absurd (cc)

  -- a line that ends here, and the lines after it
  beyond_line : (start : ℕ) (held more left bytes : List ℕ) (b : ℕ) (qs : List Asking) → bytes ≡ held ++ b ∷ more → b ≡ 10 → HasNoFeed held
      → ((rs : List Asking) → AreAskedToBad limit os (start + length (held ++ 10 ∷ [])) (lines_of more) rs → AreAskedToBad limit os (start + length (held ++ 10 ∷ [])) (lines_of (more ++ left)) rs)
      → AreAskedToBad limit os start (lines_of bytes) qs → AreAskedToBad limit os start (lines_of (bytes ++ left)) qs
  beyond_line start held more left bytes b qs is feed none further h =
      let line = held ++ 10 ∷ [] in
      subst (λ (ls : List (List ℕ)). AreAskedToBad limit os start ls qs) (sym (ended_here held more bytes left b is feed none))
      (one_line start line (lines_of more) (lines_of (more ++ left)) qs further
      (subst (λ (ls : List (List ℕ)). AreAskedToBad limit os start ls qs) (ended_alone held more bytes b is feed none) h))

  not_beyond_line : (start : ℕ) (held more bytes : List ℕ) (b : ℕ) (qs : List Asking) → bytes ≡ held ++ b ∷ more → b ≡ 10 → HasNoFeed held
      → ((rs : List Asking) → start + length (held ++ 10 ∷ []) ≤ limit → AreAsked limit os (start + length (held ++ 10 ∷ [])) (lines_of more) rs → ⊥)
      → AreAsked limit os start (lines_of bytes) qs → ⊥
  not_beyond_line start held more bytes b qs is feed none further h =
      one_asked start (held ++ 10 ∷ []) (lines_of more) qs further (subst (λ (ls : List (List ℕ)). AreAsked limit os start ls qs) (ended_alone held more bytes b is feed none) h)

  -- a byte ends a line, or it does not
  feed_or : (b : ℕ) → (b ≡ 10) ⊎ (b ≢ 10)
  feed_or b = by (b == 10) refl
    where
      by : (t : Bool) → (b == 10) ≡ t → (b ≡ 10) ⊎ (b ≢ 10)
      by true e = inl (grind (arith, nat_tests, e))
      by false e = inr (other_byte b e)

  pub beyond : (start : ℕ) (held more left bytes : List ℕ) (qs : List Asking) → bytes ≡ held ++ more → HasNoFeed held → limit < start + length bytes
      → AreAskedToBad limit os start (lines_of bytes) qs → AreAskedToBad limit os start (lines_of (bytes ++ left)) qs
  beyond start held [] left bytes qs is none far h = begun_bad start held left bytes qs (is ∙ append-nil held) none far h
  beyond start held (b ∷ more) left bytes qs is none far h =
      elim (feed_or b) [
        | inl feed ↦ beyond_line start held more left bytes b qs is feed none
            (λ rs bad. beyond (start + length (held ++ 10 ∷ [])) [] more left more rs refl tt (far_after start held more bytes b is far) bad) h
        | inr other ↦ beyond start (held ++ b ∷ []) more left bytes qs (split_here held more bytes b is) (unended_append held (b ∷ []) none (other, tt)) far h
      ]

  pub not_beyond : (start : ℕ) (held more bytes : List ℕ) (qs : List Asking) → bytes ≡ held ++ more → HasNoFeed held → start ≤ limit → limit < start + length bytes
      → AreAsked limit os start (lines_of bytes) qs → ⊥
  not_beyond start held [] bytes qs is none within far h = begun_asked start held bytes qs (is ∙ append-nil held) none within far h
  not_beyond start held (b ∷ more) bytes qs is none within far h =
      elim (feed_or b) [
        | inl feed ↦ not_beyond_line start held more bytes b qs is feed none
            (λ rs ended asked. not_beyond (start + length (held ++ 10 ∷ [])) [] more more rs refl tt ended (far_after start held more bytes b is far) asked) h
        | inr other ↦ not_beyond start (held ++ b ∷ []) more bytes qs (split_here held more bytes b is) (unended_append held (b ∷ []) none (other, tt)) within far h
      ]

-- ---- a report

module _ (s : Subject) (made : Schedule) (trace text : List ℕ) (bad : ℕ) where
  cut_front : (front left : List ℕ) → section_limit < length front → front ++ left ≡ trace → IsCut s made front text bad → IsCut s made trace text bad
  cut_front front left far is h = record {
    qs = h.qs;
    rows = h.rows;
    line = subst (λ (t : List ℕ). HasBadLine section_limit s.scheme.elements t h.qs) is
        (beyond section_limit s.scheme.elements 0 [] front left front h.qs refl tt (omega (arith, far)) h.line);
    runs = h.runs;
    text_is = h.text_is;
    bad_is = h.bad_is;
  }

  reported_far : section_limit < length trace → IsReported s made (take trace_read_limit trace) text bad → IsReported s made trace text bad
  reported_far far h =
      let long : length (take trace_read_limit trace) ≡ trace_read_limit = length-take-le trace_read_limit trace (omega (arith, far)) in
      elim h [
        | inl whole ↦ absurd (not_beyond section_limit s.scheme.elements 0 [] (take trace_read_limit trace) (take trace_read_limit trace) whole.qs refl tt (omega arith) (omega (arith, long)) whole.clean)
        | inr cut ↦ inr (cut_front (take trace_read_limit trace) (drop trace_read_limit trace) (omega (arith, long)) (take-append-drop trace_read_limit trace) cut)
      ]

  pub reported_whole : IsReported s made (take trace_read_limit trace) text bad → IsReported s made trace text bad
  reported_whole h =
      elim (cases_lt section_limit (length trace)) [
        | inl far ↦ reported_far far h
        | inr near ↦ subst (λ (t : List ℕ). IsReported s made t text bad) (take_all trace_read_limit trace (omega (arith, near))) h
      ]
