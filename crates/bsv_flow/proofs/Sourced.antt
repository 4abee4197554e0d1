-- A source that was read up to the limit.
use Rattle.std.proofs.Common.{◌≡◌, ℕ, ◌<◌, Option, ◌∙◌, subst}
use Rattle.bsv_io.specs.Reading.{Current, Reading, bytes_given, given_of}

-- what comes after the limit was there from the start
pub still_within : (limit : ℕ) (first second third : Reading) → (limit < bytes_given second → second.current ≡ first.current) → (limit < bytes_given third → third.current ≡ second.current) → limit < bytes_given third → third.current ≡ first.current
still_within limit first second third before this far =
    let same = this far in
    same ∙ before (subst (λ (at : Option Current). limit < given_of at) same far)
