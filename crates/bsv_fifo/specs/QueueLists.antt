-- What calls do to the items of a queue.
-- Proof alone, with the words of the proof: it is in specs/ since the `laws` of an impl may cite
-- nothing of proofs/.
use Rattle.std.proofs.Common.{◌≡◌, ℕ, zero, suc, ◌<◌, ◌≤◌, Bool, true, false, List, [], ◌∷◌, ◌++◌, length, drop, refl, ap, sym, arith, Option, Some, None}
use Rattle.std.specs.Prelude.{nat_eq, nat_lt, if◌then◌else◌}
use Rattle.bsv_bits.specs.Words.{Bits}
use Rattle.bsv_prim.specs.Table.{Call, IsWordOf, word_at}
use Rattle.bsv_prim.specs.Calls.{latest}
use Rattle.bsv_prim.specs.declared.part.Part.{Part}
use Rattle.bsv_prim.specs.declared.part.Part.TheVariants.{Number, Held, Queue}
use Rattle.bsv_fifo.specs.declared.method.Method.{Method}
use Rattle.bsv_fifo.specs.declared.method.Method.TheVariants.{Enq, Deq, First, NotFull, NotEmpty, Clear}
use Rattle.bsv_fifo.specs.Queues.{queue_method, changes, items_of, FitsQueue, changed, queue_apply}

-- the items after calls
abbrev pub items_after : List Bits → List Call → List Bits
items_after xs [] = xs
items_after xs (c ∷ cs) = items_after (changed (queue_method c.method) xs c.args) cs

pub items-apply : (width depth : ℕ) (m : Method) (p : Part) (args : List Bits) → FitsQueue width depth p → items_of (queue_apply m p args) ≡ changed m (items_of p) args
items-apply width depth m (Number w) args f = absurd f
items-apply width depth m (Held o) args f = absurd f
items-apply width depth m (Queue q) args f = refl

-- a value method leaves the items, and the part
pub leaves_items : (m : Method) (xs args : List Bits) → changes m ≡ false → changed m xs args ≡ xs
leaves_items First xs args e = refl
leaves_items NotFull xs args e = refl
leaves_items NotEmpty xs args e = refl
leaves_items Enq xs args e = cc
leaves_items Deq xs args e = cc
leaves_items Clear xs args e = cc

pub leaves : (m : Method) (p : Part) (args : List Bits) → changes m ≡ false → queue_apply m p args ≡ p
leaves m (Number w) args e = refl
leaves m (Held o) args e = refl
leaves m (Queue q) args e = ap (λ (xs : List Bits). Queue (record q { items = xs })) (leaves_items m q.items args e)

-- what was called stays called
pub latest_some : (m : ℕ) (args : List Bits) (cs : List Call) → latest m (Some args) cs ≡ None → ⊥
latest_some m args [] h = cc
latest_some m args (c ∷ cs) h =
    cases (nat_eq c.method m) h (latest_some m c.args cs) (latest_some m args cs)
  where
    cases : (b : Bool) → latest m (if b then Some c.args else Some args) cs ≡ None → (latest m (Some c.args) cs ≡ None → ⊥) → (latest m (Some args) cs ≡ None → ⊥) → ⊥
    cases true h one other = one h
    cases false h one other = other h

-- a list with an item has a front
pub drop_append : (xs : List Bits) (x : Bits) → nat_lt 0 (length xs) ≡ true → drop 1 (xs ++ x ∷ []) ≡ drop 1 xs ++ x ∷ []
drop_append [] x h = cc
drop_append (y ∷ ys) x h = refl

-- each word of a longer list, and of a shorter one
pub words_append : (width : ℕ) (xs : List Bits) (x : Bits) → ((k : ℕ) → k < length xs → IsWordOf width (word_at xs k)) → IsWordOf width x → (k : ℕ) → k < length (xs ++ x ∷ []) → IsWordOf width (word_at (xs ++ x ∷ []) k)
words_append width [] x h w zero l = w
words_append width [] x h w (suc k) l = absurd (omega arith)
words_append width (y ∷ ys) x h w zero l = h 0 (omega arith)
words_append width (y ∷ ys) x h w (suc k) l =
    words_append width ys x (λ j i. h (suc j) (omega arith)) w k (omega arith)

pub words_drop : (width : ℕ) (xs : List Bits) → ((k : ℕ) → k < length xs → IsWordOf width (word_at xs k)) → (k : ℕ) → k < length (drop 1 xs) → IsWordOf width (word_at (drop 1 xs) k)
words_drop width [] h k l = absurd (omega arith)
words_drop width (y ∷ ys) h k l = h (suc k) (omega arith)

pub length_drop : (xs : List Bits) → length (drop 1 xs) ≤ length xs
length_drop [] = omega arith
length_drop (x ∷ xs) = omega arith

-- ---- the closed form: what a clock's calls come to

-- an item comes after the others
abbrev pub with_item : Option (List Bits) → List Bits → List Bits
with_item None xs = xs
with_item (Some args) xs = xs ++ word_at args 0 ∷ []

-- the front goes
abbrev pub without_front : Option (List Bits) → List Bits → List Bits
without_front None xs = xs
without_front (Some args) xs = drop 1 xs

-- all go
abbrev pub after_clear : Option (List Bits) → List Bits → List Bits
after_clear None xs = xs
after_clear (Some args) xs = []

-- the items after at most one `enq`, at most one `deq`, and a `clear` after both
abbrev pub closed : List Bits → Option (List Bits) → Option (List Bits) → Option (List Bits) → List Bits
closed xs e d c = after_clear c (without_front d (with_item e xs))

pub cleared_latest : (m : ℕ) (args xs : List Bits) (cs : List Call) → after_clear (latest m (Some args) cs) xs ≡ []
cleared_latest m args xs [] = refl
cleared_latest m args xs (c ∷ cs) =
    elim (nat_eq c.method m) as (λ b. after_clear (latest m (if b then Some c.args else Some args) cs) xs ≡ [])
    [ true ↦ cleared_latest m c.args xs cs | false ↦ cleared_latest m args xs cs ]

pub drop_with : (e : Option (List Bits)) (xs : List Bits) → nat_lt 0 (length xs) ≡ true → with_item e (drop 1 xs) ≡ drop 1 (with_item e xs)
drop_with None xs h = refl
drop_with (Some args) xs h = sym (drop_append xs (word_at args 0) h)
