-- Lines that ask for requests, one after the other.
use Rattle.std.proofs.Common.{◌≡◌, ◌⊎◌, inl, inr, ℕ, suc, ◌+◌, ◌≤◌, List, [], ◌∷◌, ◌++◌, length, refl, ap, ◌∙◌, subst, arith}
use Rattle.std.proofs.lemmas.Bool.{cases_lt}
use Rattle.bsv_design.specs.scheme.Schemes.{Asking, Outline}
use Rattle.bsv_trace.specs.Lines.{AreMethods}
use Rattle.bsv_trace.proofs.Asked.{one_asking, asking_decided}
use Rattle.bsv_run.specs.Reading.{IsOver}
use Rattle.bsv_run.specs.Traces.{IsAsked, IsBad, AreAsked, AreAskedToBad, bytes_in, line_text}
use Rattle.bsv_run.proofs.Listed.{text_long}

-- the bytes of lines
abbrev pub total : List (List ℕ) → ℕ
total lines = bytes_in (length lines) lines

pub total_append : (front rest : List (List ℕ)) → total (front ++ rest) ≡ total front + total rest
total_append [] rest = omega arith
total_append (line ∷ front) rest = let further = total_append front rest in omega (arith, further)

-- so many lines after others
pub bytes_after : (front rest : List (List ℕ)) (n : ℕ) → bytes_in (length front + n) (front ++ rest) ≡ total front + bytes_in n rest
bytes_after [] rest n = by (0 + n) (omega arith)
  where
    by : (m : ℕ) → m ≡ n → bytes_in m rest ≡ 0 + bytes_in n rest
    by m e = ap (λ (k : ℕ). bytes_in k rest) e ∙ (omega arith)
bytes_after (line ∷ front) rest n =
    let further = bytes_after front rest n in
    let grown : suc (length front) + n ≡ suc (length front + n) = omega arith in
    ap (λ (k : ℕ). bytes_in k (line ∷ (front ++ rest))) grown ∙ (omega (arith, further))

module _ (limit : ℕ) (os : List Outline) where
  -- ---- one list after another

  pub asked_append : (start end : ℕ) (front rest : List (List ℕ)) (qs rs : List Asking) → end ≡ start + total front → AreAsked limit os start front qs → AreAsked limit os end rest rs
      → AreAsked limit os start (front ++ rest) (qs ++ rs)
  asked_append start end [] rest [] rs is h more = subst (λ (n : ℕ). AreAsked limit os n rest rs) (let same : end ≡ start = omega (arith, is) in same) more
  asked_append start end [] rest (q ∷ qs) rs is h more = absurd h
  asked_append start end (line ∷ front) rest [] rs is h more = absurd h
  asked_append start end (line ∷ front) rest (q ∷ qs) rs is h more =
      (h.0, asked_append (start + length line) end front rest qs rs (omega (arith, is)) h.1 more)

  pub bad_append : (start end : ℕ) (front rest : List (List ℕ)) (qs rs : List Asking) → end ≡ start + total front → AreAsked limit os start front qs → AreAskedToBad limit os end rest rs
      → AreAskedToBad limit os start (front ++ rest) (qs ++ rs)
  bad_append start end [] rest [] rs is h more = subst (λ (n : ℕ). AreAskedToBad limit os n rest rs) (let same : end ≡ start = omega (arith, is) in same) more
  bad_append start end [] rest (q ∷ qs) rs is h more = absurd h
  bad_append start end (line ∷ front) rest [] rs is h more = absurd h
  bad_append start end (line ∷ front) rest (q ∷ qs) rs is h more =
      (h.0, bad_append (start + length line) end front rest qs rs (omega (arith, is)) h.1 more)

  pub asked_long : (start : ℕ) (lines : List (List ℕ)) (qs : List Asking) → AreAsked limit os start lines qs → length lines ≡ length qs
  asked_long start [] [] h = refl
  asked_long start [] (q ∷ qs) h = absurd h
  asked_long start (line ∷ lines) [] h = absurd h
  asked_long start (line ∷ lines) (q ∷ qs) h = ap suc (asked_long (start + length line) lines qs h.1)

  -- a bad line comes after those that ask for something
  pub record BadAfter (end : ℕ) (front rest : List (List ℕ)) (rs : List Asking) : Type 0 where
    pub more : List Asking
    pub bad : AreAskedToBad limit os end rest more
    pub long : length rs ≡ length front + length more

  pub bad_after : (start end : ℕ) (front rest : List (List ℕ)) (qs rs : List Asking) → end ≡ start + total front → AreAsked limit os start front qs → AreAskedToBad limit os start (front ++ rest) rs
      → BadAfter end front rest rs
  bad_after start end [] rest qs rs is h bad = record {
    more = rs;
    bad = subst (λ (n : ℕ). AreAskedToBad limit os n rest rs) (let same : start ≡ end = omega (arith, is) in same) bad;
    long = omega arith;
  }
  bad_after start end (line ∷ front) rest [] rs is h bad = absurd h
  bad_after start end (line ∷ front) rest (q ∷ qs) [] is h bad = absurd (bad q h.0)
  bad_after start end (line ∷ front) rest (q ∷ qs) (r ∷ rs) is h bad =
      let further = bad_after (start + length line) end front rest qs rs (omega (arith, is)) h.1 bad.1 in
      record { more = further.more; bad = further.bad; long = omega (arith, further.long) }

  -- ---- lines are decided, and ask for one thing

  pub not_both : (start : ℕ) (lines : List (List ℕ)) (qs rs : List Asking) → AreAsked limit os start lines qs → AreAskedToBad limit os start lines rs → ⊥
  not_both start [] qs rs h bad = bad
  not_both start (line ∷ lines) [] rs h bad = h
  not_both start (line ∷ lines) (q ∷ qs) [] h bad = bad q h.0
  not_both start (line ∷ lines) (q ∷ qs) (r ∷ rs) h bad = not_both (start + length line) lines qs rs h.1 bad.1

  module _ (methods : AreMethods os) where
    pub asked_once : (start : ℕ) (lines : List (List ℕ)) (qs rs : List Asking) → AreAsked limit os start lines qs → AreAsked limit os start lines rs → qs ≡ rs
    asked_once start [] [] [] h g = refl
    asked_once start [] [] (r ∷ rs) h g = absurd g
    asked_once start [] (q ∷ qs) rs h g = absurd h
    asked_once start (line ∷ lines) [] rs h g = absurd h
    asked_once start (line ∷ lines) (q ∷ qs) [] h g = absurd g
    asked_once start (line ∷ lines) (q ∷ qs) (r ∷ rs) h g =
        let first : q ≡ r = one_asking os (line_text line) r q methods g.0.asks h.0.asks in
        let others = asked_once (start + length line) lines qs rs h.1 g.1 in
        cc

    pub bad_once : (start : ℕ) (lines : List (List ℕ)) (qs rs : List Asking) → AreAskedToBad limit os start lines qs → AreAskedToBad limit os start lines rs → qs ≡ rs
    bad_once start [] qs rs h g = absurd h
    bad_once start (line ∷ lines) [] [] h g = refl
    bad_once start (line ∷ lines) [] (r ∷ rs) h g = absurd (h r g.0)
    bad_once start (line ∷ lines) (q ∷ qs) [] h g = absurd (g q h.0)
    bad_once start (line ∷ lines) (q ∷ qs) (r ∷ rs) h g =
        let first : q ≡ r = one_asking os (line_text line) r q methods g.0.asks h.0.asks in
        let others = bad_once (start + length line) lines qs rs h.1 g.1 in
        cc

    pub line_decided : (end : ℕ) (line : List ℕ) → ((q : Asking) × IsAsked limit os end line q) ⊎ IsBad limit os end line
    line_decided end line =
        elim (cases_lt limit end) [
          | inl behind ↦ inr (λ q asked. let late = asked.within in let no_value : ⊥ = omega (arith, behind, late) in no_value)
          | inr within ↦ elim (asking_decided os (line_text line) methods) [
            | inl found ↦ inl (found.0, record { within = omega (arith, within); asks = found.1 })
            | inr none ↦ inr (λ q asked. none q asked.asks)
          ]
        ]

    -- lines all ask for something, or some line is bad
    pub data Verdict (start : ℕ) (lines : List (List ℕ)) : Type 0 where
      clean : (qs : List Asking) → AreAsked limit os start lines qs → Verdict start lines
      bad : (qs : List Asking) → AreAskedToBad limit os start lines qs → Verdict start lines

    verdict_more : (start : ℕ) (line : List ℕ) (lines : List (List ℕ)) (q : Asking) → IsAsked limit os (start + length line) line q → Verdict (start + length line) lines → Verdict start (line ∷ lines)
    verdict_more start line lines q h (clean qs all) = clean (q ∷ qs) (h, all)
    verdict_more start line lines q h (bad qs some) = bad (q ∷ qs) (h, some)

    pub verdict : (start : ℕ) (lines : List (List ℕ)) → Verdict start lines
    verdict start [] = clean [] tt
    verdict start (line ∷ lines) =
        elim (line_decided (start + length line) line) [
          | inl found ↦ verdict_more start line lines found.0 found.1 (verdict (start + length line) lines)
          | inr none ↦ bad [] none
        ]

  -- ---- lines that are too long

  -- no line is this long, or ends there
  pub over_bad : (at : ℕ) (started line : List ℕ) → IsOver limit at started → length started ≤ length line → IsBad limit os (at + length line) line
  over_bad at started line (inl long) within q asked =
      let short = asked.asks.short in
      let no_value : ⊥ = omega (arith, long, within, short, text_long line) in
      no_value
  over_bad at started line (inr far) within q asked =
      let short = asked.within in
      let no_value : ⊥ = omega (arith, far, within, short) in
      no_value
