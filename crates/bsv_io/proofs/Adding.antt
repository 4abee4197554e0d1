-- Texts that are added one after the other, and one for each item of a list.
use Rattle.std.proofs.Common.{◌≡◌, ◌∙◌, ℕ, ◌≤◌, inl, inr, List, [], ◌++◌, Result, Ok, Err, refl, sym, ap, subst, append_assoc, append-nil, arith}
use Rattle.std.specs.Prelude.{IsErr, OnOk, OnErr}
use Rattle.bsv_io.specs.Faults.{MayFault}
use Rattle.bsv_io.specs.Writing.{Writing, appended, AppendsPrefix}
use Rattle.bsv_io.proofs.Appended.{appended-append, AppendsPrefix-then, nothing_put}
use Rattle.bsv_io.proofs.Sequences.{prefix_of_more, prefix_then, said_then}
use Rattle.bsv_io.specs.Adding.{Adds}

-- what may fault in a later part may fault in the whole
later_fault : (first second third : ℕ) → first ≤ second → MayFault second third → MayFault first third
later_fault first second third up (inl rose) = inl (omega arith)
later_fault first second third up (inr last) = inr last

-- a call that failed
no_ok : {A E : Type 0} (P : Type 0) (r : Result A E) → IsErr r → OnOk r P
no_ok P (Ok x) failed = absurd cc
no_ok P (Err e) failed = tt

on_err : {A E P : Type 0} (r : Result A E) → P → OnErr r P
on_err (Ok x) p = tt
on_err (Err e) p = p

err_after : {A E : Type 0} (r : Result A E) (first second third : ℕ) → first ≤ second → OnErr r (MayFault second third) → OnErr r (MayFault first third)
err_after (Ok x) first second third up h = tt
err_after (Err e) first second third up h = later_fault first second third up h

ok_after : {A E : Type 0} (r : Result A E) (text more waited waits last : List ℕ) (first second third : Writing) → appended waits second ≡ appended (waited ++ text) first
    → OnOk r (appended last third ≡ appended (waits ++ more) second) → OnOk r (appended last third ≡ appended (waited ++ (text ++ more)) first)
ok_after (Ok x) text more waited waits last first second third h k = said_then waited text more first second waits last third h k
ok_after (Err e) text more waited waits last first second third h k = tt

-- ---- a text after another one

-- the first of two texts fails
pub adds_more : {A B E : Type 0} {text waited waits : List ℕ} {first second : Writing} {e : E} (more : List ℕ) (r : Result B E) → IsErr r → Adds {A = A} {E = E} text (Err e) waited waits first second
    → Adds {A = B} {E = E} (text ++ more) r waited waits first second
adds_more {text = text} {waited = waited} {first = first} {second = second} more r failed h = record {
  ok = no_ok _ r failed;
  prefix = prefix_of_more waited text more first second h.prefix;
  count = h.count;
  counted = on_err r h.counted;
}

-- the same of the same answer
pub fails_more : {A E : Type 0} {text waited waits : List ℕ} {first second : Writing} {e : E} (more : List ℕ) → Adds {A = A} {E = E} text (Err e) waited waits first second
    → Adds {A = A} {E = E} (text ++ more) (Err e) waited waits first second
fails_more {e = e} more h = adds_more more (Err e) refl h

-- the first is added, and then the second
pub adds_then : {A B E : Type 0} {text more waited waits last : List ℕ} {first second third : Writing} {x : A} {r : Result B E} → Adds {A = A} {E = E} text (Ok x) waited waits first second
    → Adds {A = B} {E = E} more r waits last second third → Adds {A = B} {E = E} (text ++ more) r waited last first third
adds_then {text = text} {more = more} {waited = waited} {waits = waits} {last = last} {first = first} {second = second} {third = third} {r = r} h k = record {
  ok = ok_after r text more waited waits last first second third h.ok k.ok;
  prefix = prefix_then waited text more first second waits third h.prefix h.ok k.prefix;
  count = omega (arith, h.count, k.count);
  counted = err_after r first.faults second.faults third.faults h.count k.counted;
}

-- the same failure, handed on
pub adds_failed : {A B E : Type 0} {text waited waits : List ℕ} {first second : Writing} {e : E} (r : Result B E) → IsErr r → Adds {A = A} {E = E} text (Err e) waited waits first second
    → Adds {A = B} {E = E} text r waited waits first second
adds_failed r failed h = record { ok = no_ok _ r failed; prefix = h.prefix; count = h.count; counted = on_err r h.counted }

-- the same text, written in another way
pub adds_text : {A E : Type 0} {text other waited waits : List ℕ} {first second : Writing} {r : Result A E} → text ≡ other → Adds {A = A} {E = E} text r waited waits first second → Adds {A = A} {E = E} other r waited waits first second
adds_text {waited = waited} {waits = waits} {first = first} {second = second} {r = r} same h = subst (λ t. Adds t r waited waits first second) same h

-- ---- a text for each item of a list

-- of the whole text so much is left, and what is before it was added
pub record Going (whole left start waits : List ℕ) (first now : Writing) : Type 0 where
  pub said : appended (waits ++ left) now ≡ appended (start ++ whole) first
  pub prefix : AppendsPrefix (start ++ whole) first now
  pub count : first.faults ≤ now.faults

pub going_start : (whole start : List ℕ) (first : Writing) → Going whole whole start start first first
going_start whole start first = record { said = refl; prefix = nothing_put (start ++ whole) first; count = omega arith }

-- what is left, written in another way
pub going_text : {whole left other start waits : List ℕ} {first now : Writing} → left ≡ other → Going whole left start waits first now → Going whole other start waits first now
going_text {whole = whole} {start = start} {waits = waits} {first = first} {now = now} same going = subst (λ t. Going whole t start waits first now) same going

-- what waits is a part of the text
through : (text waits : List ℕ) (first second third : Writing) → AppendsPrefix text first second → appended waits second ≡ appended text first → AppendsPrefix waits second third → AppendsPrefix text first third
through text waits first second third before said after =
    subst (λ t. AppendsPrefix t first third) (append-nil text)
    (AppendsPrefix-then text waits [] first second third before said (subst (λ t. AppendsPrefix t second third) (sym (append-nil waits)) after))

passed : (whole line left start waits : List ℕ) (first now next : Writing) → Going whole (line ++ left) start waits first now → AppendsPrefix (waits ++ line) now next → AppendsPrefix (start ++ whole) first next
passed whole line left start waits first now next going h =
    through (start ++ whole) (waits ++ (line ++ left)) first now next going.prefix going.said (prefix_of_more waits line left now next h)

-- the next text is added
pub going_on : {A E : Type 0} {whole line start waits after : List ℕ} {first now next : Writing} {x : A} (left : List ℕ) → Going whole (line ++ left) start waits first now
    → Adds {A = A} {E = E} line (Ok x) waits after now next → Going whole left start after first next
going_on {whole = whole} {line = line} {start = start} {waits = waits} {after = after} {first = first} {now = now} {next = next} left going h = record {
  said = appended-append after left next ∙ ap (appended left) h.ok ∙ sym (appended-append (waits ++ line) left now)
      ∙ ap (λ t. appended t now) (append_assoc waits line left) ∙ going.said;
  prefix = passed whole line left start waits first now next going h.prefix;
  count = omega (arith, going.count, h.count);
}

-- the next text fails
pub going_failed : {A B E : Type 0} {whole line start waits after : List ℕ} {first now next : Writing} {e : E} (left : List ℕ) (r : Result B E) → IsErr r → Going whole (line ++ left) start waits first now
    → Adds {A = A} {E = E} line (Err e) waits after now next → Adds {A = B} {E = E} whole r start after first next
going_failed {whole = whole} {line = line} {start = start} {waits = waits} {first = first} {now = now} {next = next} left r failed going h = record {
  ok = no_ok _ r failed;
  prefix = passed whole line left start waits first now next going h.prefix;
  count = omega (arith, going.count, h.count);
  counted = on_err r (later_fault first.faults now.faults next.faults going.count h.counted);
}

-- nothing is left
pub going_done : {A E : Type 0} {whole left start waits : List ℕ} {first now : Writing} (x : A) → left ≡ [] → Going whole left start waits first now → Adds {A = A} {E = E} whole (Ok x) start waits first now
going_done {waits = waits} {now = now} x none going = record {
  ok = ap (λ t. appended t now) (sym (ap (λ t. waits ++ t) none ∙ append-nil waits)) ∙ going.said;
  prefix = going.prefix;
  count = going.count;
  counted = tt;
}
