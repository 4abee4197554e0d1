use Rattle.std.proofs.Common.{◌+◌, ℕ, List, [], ◌∷◌, length, ap, ◌∙◌, arith, length-append}
use Rattle.bsv_run.proofs.Listed.{none_ended, first_is}
use Rattle.bsv_run.proofs.lines.first_line.Goals as goal

pub returns-then-len-bytes-clause-none : goal.returns-then-len-bytes-clause-none
returns-then-len-bytes-clause-none c = none_ended c.args.bytes.now (omega (arith, c.unended_len-len.ensures.value, c.if-len-bytes.true))

pub returns-clause-line : goal.returns-clause-line
returns-clause-line c =
    let first = first_is c.args.bytes.now c.unended_len-len.result c.unended_len-len.ensures.value (omega (arith, c.unended_len-len.ensures.within, c.if-len-bytes.false)) in
    let front = c.split_at.ensures.front in
    let back = c.split_at.ensures.back in
    record {
      ended = record { front = first.ended.front; unended = first.ended.unended; is = front ∙ first.ended.is };
      whole = cc (first.whole);
    }

pub returns-clause-some : goal.returns-clause-some
returns-clause-some c =
    let first = first_is c.args.bytes.now c.unended_len-len.result c.unended_len-len.ensures.value (omega (arith, c.unended_len-len.ensures.within, c.if-len-bytes.false)) in
    let front = first.ended.front in
    let long = ap (λ (t : List ℕ). length t) (c.split_at.ensures.front ∙ first.ended.is) in
    omega (arith, long, length-append front (10 ∷ []))
