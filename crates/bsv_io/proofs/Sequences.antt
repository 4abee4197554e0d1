-- Texts that are added one after the other to what waits.
use Rattle.std.proofs.Common.{◌≡◌, ℕ, List, [], ◌++◌, sym, ap, ◌∙◌, subst, append_assoc, append-nil}
use Rattle.bsv_io.specs.Writing.{Writing, appended, AppendsPrefix}
use Rattle.bsv_io.proofs.Appended.{appended-append, appended-nil, AppendsPrefix-then, AppendsPrefix-more}

module _ (waiting text more : List ℕ) (first second : Writing) where
  -- a prefix of the first text is one of both
  pub prefix_of_more : AppendsPrefix (waiting ++ text) first second → AppendsPrefix (waiting ++ (text ++ more)) first second
  prefix_of_more h =
      subst (λ (t : List ℕ). AppendsPrefix t first second) (append_assoc waiting text more)
      (AppendsPrefix-more (waiting ++ text) more first second h)

  -- the first text is added, and a prefix of the second is put
  pub prefix_then : (after : List ℕ) (third : Writing) → AppendsPrefix (waiting ++ text) first second → appended after second ≡ appended (waiting ++ text) first → AppendsPrefix (after ++ more) second third → AppendsPrefix (waiting ++ (text ++ more)) first third
  prefix_then after third before said this =
      subst (λ (t : List ℕ). AppendsPrefix t first third) (append_assoc waiting text more)
      (AppendsPrefix-then (waiting ++ text) after more first second third before said this)

  -- both are added
  pub said_then : (after last : List ℕ) (third : Writing) → appended after second ≡ appended (waiting ++ text) first → appended last third ≡ appended (after ++ more) second → appended last third ≡ appended (waiting ++ (text ++ more)) first
  said_then after last third said this =
      this ∙ appended-append after more second ∙ ap (appended more) said ∙ sym (appended-append (waiting ++ text) more first) ∙ ap (λ (t : List ℕ). appended t first) (append_assoc waiting text more)

-- a text is added to nothing that waits, and a prefix of what waits is put
pub prefix_flushing : (waiting text after : List ℕ) (first second third : Writing) → waiting ≡ [] → AppendsPrefix (waiting ++ text) first second → appended after second ≡ appended (waiting ++ text) first → AppendsPrefix after second third → AppendsPrefix text first third
prefix_flushing waiting text after first second third none before said flushing =
    let all = AppendsPrefix-then (waiting ++ text) after [] first second third before said (subst (λ (t : List ℕ). AppendsPrefix t second third) (sym (append-nil after)) flushing) in
    subst (λ (t : List ℕ). AppendsPrefix t first third) (append-nil (waiting ++ text) ∙ ap (λ (t : List ℕ). t ++ text) none) all

-- nothing waits, and nothing is put
pub said_nothing : (waiting : List ℕ) (w : Writing) → waiting ≡ [] → w ≡ appended waiting w
said_nothing waiting w none = sym (ap (λ (t : List ℕ). appended t w) none ∙ appended-nil w)

-- what waited is put, and nothing waits
pub said_flushed : (waiting after : List ℕ) (first second : Writing) → after ≡ [] → second ≡ appended waiting first → appended after second ≡ appended waiting first
said_flushed waiting after first second none put = ap (λ (t : List ℕ). appended t second) none ∙ appended-nil second ∙ put

-- a text is put by itself where nothing waits
pub said_alone : (waiting after text : List ℕ) (first second : Writing) → waiting ≡ [] → after ≡ [] → second ≡ appended text first → appended after second ≡ appended (waiting ++ text) first
said_alone waiting after text first second none still put =
    said_flushed text after first second still put ∙ ap (λ (t : List ℕ). appended (t ++ text) first) (sym none)

-- a text is added after what was made room for
pub said_after : (waiting kept after text : List ℕ) (first second third : Writing) → appended kept second ≡ appended waiting first → appended after third ≡ appended (kept ++ text) second → appended after third ≡ appended (waiting ++ text) first
said_after waiting kept after text first second third said this =
    this ∙ appended-append kept text second ∙ ap (appended text) said ∙ sym (appended-append waiting text first)
