-- What a loop over writes has done: a front of the bytes was written, and the rest is left.
use Rattle.std.proofs.Common.{◌≡◌, ℕ, List, ◌++◌, take, drop, Option, None, Some, arith}
use Rattle.std.proofs.lemmas.Grind.{common_steps}
use Rattle.std.specs.Io.KnownBytes.{Appends, Keeps}
use Rattle.std.proofs.lemmas.List.{take-append-drop}

pub record Written (bytes left : List ℕ) (old new : Option (List ℕ)) : Type 0 where
  pub front : List ℕ
  pub joined : bytes ≡ front ++ left
  pub held : Appends old new front

Appends-append : (a b c : Option (List ℕ)) (xs ys : List ℕ) → Appends a b xs → Appends b c ys → Appends a c (xs ++ ys)
Appends-append None b c xs ys first second = tt
Appends-append (Some p) None c xs ys first second = absurd first
Appends-append (Some p) (Some q) None xs ys first second = absurd second
Appends-append (Some p) (Some q) (Some r) xs ys first second = grind (arith, common_steps)

Appends-Keeps : (a b c : Option (List ℕ)) (xs : List ℕ) → Appends a b xs → Keeps b c → Appends a c xs
Appends-Keeps None b c xs first kept = tt
Appends-Keeps (Some p) None c xs first kept = absurd first
Appends-Keeps (Some p) (Some q) None xs first kept = absurd kept
Appends-Keeps (Some p) (Some q) (Some r) xs first kept = cc

-- the writer took so many bytes more
pub Written_more : (n : ℕ) (bytes left after : List ℕ) (old mid new : Option (List ℕ)) → after ≡ drop n left → Written bytes left old mid → Appends mid new (take n left) → Written bytes after old new
Written_more n bytes left after old mid new cut w more = record {
  front = w.front ++ take n left;
  joined = let e = take-append-drop n left in grind (arith, common_steps);
  held = Appends-append old mid new w.front (take n left) w.held more;
}

-- the writer took nothing
pub Written_same : (bytes left : List ℕ) (old mid new : Option (List ℕ)) → Written bytes left old mid → Keeps mid new → Written bytes left old new
Written_same bytes left old mid new w kept =
    record { front = w.front; joined = w.joined; held = Appends-Keeps old mid new w.front w.held kept }
