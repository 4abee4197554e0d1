-- Numbers of bytes modulo 2^64.
use Rattle.std.proofs.Common.{◌≡◌, ℕ, ◌+◌, ◌<◌, ◌%◌, ◌^◌, List, [], ◌∷◌, length, unwrap_or, sym, ap, ◌∙◌, arith}
use Rattle.std.proofs.Math.Nat.{mod-add-mod}
use Rattle.bsv_io.specs.InMemory.{sure_writing}
use Rattle.bsv_io.specs.Writing.{Writing, appended, count_after}

-- the number after these bytes is the sum modulo 2^64
pub count_after-mod : (bytes : List ℕ) (number : ℕ) → number < 2 ^ 64 → count_after bytes number ≡ (number + length bytes) % 2 ^ 64
unfolding count_after
count_after-mod [] number below = omega arith
count_after-mod (byte ∷ bytes) number below =
    let more : number + 1 + length bytes ≡ number + length (byte ∷ bytes) = omega arith in
    count_after-mod bytes ((number + 1) % 2 ^ 64) (omega arith) ∙ mod-add-mod (number + 1) (2 ^ 64) (length bytes)
    ∙ ap (λ (n : ℕ). n % 2 ^ 64) more

-- a sink that counts the bytes has them put
pub counted_put : (bytes : List ℕ) (old new : ℕ) → old < 2 ^ 64 → new ≡ (old + length bytes) % 2 ^ 64 → sure_writing new ≡ appended bytes (sure_writing old)
counted_put bytes old new below sum = ap (λ (n : ℕ). sure_writing n) (sum ∙ sym (count_after-mod bytes old below))

-- and has as many more
pub count_put : (bytes : List ℕ) (old new : ℕ) → sure_writing new ≡ appended bytes (sure_writing old) → new ≡ count_after bytes old
count_put bytes old new put = ap (λ (w : Writing). unwrap_or w.taken 0) put

-- one to which nothing was put has the same number
pub same_count : (old new : ℕ) → sure_writing new ≡ sure_writing old → new ≡ old
same_count old new put = ap (λ (w : Writing). unwrap_or w.taken 0) put
