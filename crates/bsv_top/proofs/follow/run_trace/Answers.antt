use Rattle.std.proofs.Common.{◌≡◌, ◌+◌, ℕ, List, ◌++◌, length, take, drop, Err, IsSome, sym, ap, ◌∙◌, subst, arith, append_assoc, length-append}
use Rattle.std.proofs.lemmas.List.{length-take-le}
use Rattle.std.proofs.lemmas.Result.{err_from_is_err_and}
use Rattle.bsv_io.specs.Reading.{Reading, Gives, bytes_given, current_name, rest}
use Rattle.bsv_io.proofs.Readings.{piece_read, rest_advanced, given_advanced, name_advanced, current_advanced, if_told}
use Rattle.bsv_run.specs.declared.halt.Halt.TheVariants as halt
use Rattle.bsv_top.specs.Running.{IsStartedOf, IsFaultyOf}
use Rattle.bsv_top.specs.Traces.{trace_limit}
use Rattle.bsv_run.specs.Gathered.{lines_ended}
use Rattle.bsv_run.proofs.Interrupted.{report_to}
use Rattle.bsv_run.proofs.Stepping.{started_after, read_within}
use Rattle.bsv_top.proofs.follow.run_trace.Goals as goal

pub returns-in-Err-clause-started : goal.returns-in-Err-clause-started
returns-in-Err-clause-started g c = λ start trace run told.
    let read = c.loop-turn.invariant.read in
    let left = read.2 trace told in
    started_after trace_limit c.args.scheduled.now.design c.args.scheduled.now.schedule start read.0 c.loop-turn.run (g.O.Sink.writing c.loop-turn.out) (read.3 start run) trace left.0 left.2

pub returns-in-Err-clause-interrupted : goal.returns-in-Err-clause-interrupted
returns-in-Err-clause-interrupted g c = λ failed start trace run told place far.
    let read = c.loop-turn.invariant.read in
    let left = read.2 trace told in
    let same = ap (λ (r : Reading). bytes_given r) c.in-Err.ensures.err in
    report_to trace_limit c.args.scheduled.now.design c.args.scheduled.now.schedule start read.0 c.loop-turn.run (g.O.Sink.writing c.loop-turn.out) (read.3 start run) trace left.0 place left.2
    (omega (arith, same, read.1, far))

pub returns-in-Err-clause-within : goal.returns-in-Err-clause-within
returns-in-Err-clause-within g c = λ start trace qs run told bad.
    let read = c.loop-turn.invariant.read in
    let left = read.2 trace told in
    let within = read_within trace_limit c.args.scheduled.now.design c.args.scheduled.now.schedule start read.0 c.loop-turn.run (g.O.Sink.writing c.loop-turn.out) (read.3 start run) trace left.0 qs left.2 bad in
    let same = ap (λ (r : Reading). bytes_given r) c.in-Err.ensures.err in
    omega (arith, same, read.1, within)

pub returns-then-len-eq0-clause-within : goal.returns-then-len-eq0-clause-within
returns-then-len-eq0-clause-within g c = λ start trace qs run told bad.
    let read = c.loop-turn.invariant.read in
    let left = read.2 trace told in
    let within = read_within trace_limit c.args.scheduled.now.design c.args.scheduled.now.schedule start read.0 c.loop-turn.run (g.O.Sink.writing c.loop-turn.out) (read.3 start run) trace left.0 qs left.2 bad in
    let given = ap (λ (r : Reading). bytes_given r) c.in-Ok.ensures.ok ∙ given_advanced (g.F.Files.reading c.loop-turn.files) c.in-Ok.len c.loop-turn.invariant.current in
    omega (arith, given, read.1, within, c.in-Ok.ensures.within)

pub returns-in_err-run_piece-clause-within : goal.returns-in_err-run_piece-clause-within
returns-in_err-run_piece-clause-within g c = λ start trace qs run told bad.
    let read = c.loop-turn.invariant.read in
    let left = read.2 trace told in
    let within = read_within trace_limit c.args.scheduled.now.design c.args.scheduled.now.schedule start read.0 c.loop-turn.run (g.O.Sink.writing c.loop-turn.out) (read.3 start run) trace left.0 qs left.2 bad in
    let given = ap (λ (r : Reading). bytes_given r) c.in-Ok.ensures.ok ∙ given_advanced (g.F.Files.reading c.loop-turn.files) c.in-Ok.len c.loop-turn.invariant.current in
    omega (arith, given, read.1, within, c.in-Ok.ensures.within)

pub returns-in_err-run_piece-clause-bad : goal.returns-in_err-run_piece-clause-bad
returns-in_err-run_piece-clause-bad g c = λ h start trace run told.
    let p = err_from_is_err_and c.from_residual.result c.from_residual.ensures.1 in
    let e : c.run_piece.result ≡ Err halt.BadLine = c.in_err-run_piece.was ∙ ap Err (sym p.2) ∙ sym p.1 ∙ h in
    let read = c.loop-turn.invariant.read in
    let left = read.2 trace told in
    let given = if_told _ (Gives c.in-Ok.len c.read.new.buf) left.0 left.1 c.in-Ok.ensures.bytes in
    let piece = take c.in-Ok.len c.read.new.buf in
    let whole = left.2 ∙ ap (λ (t : List ℕ). read.0 ++ t) (piece_read c.in-Ok.len c.read.new.buf left.0 given) ∙ sym (append_assoc read.0 piece (drop c.in-Ok.len left.0)) in
    subst (λ (t : List ℕ). IsFaultyOf c.args.scheduled.now start t (g.O.Sink.writing c.run_piece.new.out) (lines_ended c.run_piece.new.self.lines + 1)) (sym whole)
    (c.run_piece.ensures.bad e trace_limit start read.0 (drop c.in-Ok.len left.0) (read.3 start run))

pub returns-in_err-run_piece-clause-started : goal.returns-in_err-run_piece-clause-started
returns-in_err-run_piece-clause-started g c = λ start trace run told.
    let read = c.loop-turn.invariant.read in
    let left = read.2 trace told in
    let given = if_told _ (Gives c.in-Ok.len c.read.new.buf) left.0 left.1 c.in-Ok.ensures.bytes in
    let piece = take c.in-Ok.len c.read.new.buf in
    let whole = left.2 ∙ ap (λ (t : List ℕ). read.0 ++ t) (piece_read c.in-Ok.len c.read.new.buf left.0 given) ∙ sym (append_assoc read.0 piece (drop c.in-Ok.len left.0)) in
    subst (λ (t : List ℕ). IsStartedOf c.args.scheduled.now start t (g.O.Sink.writing c.run_piece.new.out)) (sym whole)
    (c.in_err-run_piece.ensures.started trace_limit start read.0 (drop c.in-Ok.len left.0) (read.3 start run))

pub loop-turn-preserved : goal.loop-turn-preserved
loop-turn-preserved g c =
    let before = c.loop-turn.invariant in
    let this = c.in_ok-run_piece.ensures in
    let len = c.in-Ok.len in
    let piece = take len c.read.new.buf in
    let old = g.F.Files.reading c.loop-turn.files in
    let ok = c.in-Ok.ensures.ok in
    let long : length piece ≡ len = length-take-le len c.read.new.buf c.in-Ok.ensures.within in
    let given = ap (λ (r : Reading). bytes_given r) ok ∙ given_advanced old len before.current in
    record {
      read = (
        before.read.0 ++ piece,
        omega (arith, given, before.read.1, long, length-append before.read.0 piece),
        λ trace told.
            let left = before.read.2 trace told in
            let gives = if_told _ (Gives len c.read.new.buf) left.0 left.1 c.in-Ok.ensures.bytes in (
              drop len left.0,
              ap rest ok ∙ rest_advanced old len left.0 left.1,
              left.2 ∙ ap (λ (t : List ℕ). before.read.0 ++ t) (piece_read len c.read.new.buf left.0 gives) ∙ sym (append_assoc before.read.0 piece (drop len left.0)),
            ),
        λ start run. this.ran trace_limit start before.read.0 (before.read.3 start run),
      );
      fits = this.fits;
      turns = omega (arith, before.turns, this.long, long, c.if-len-eq0.false);
      limit = this.limit ∙ before.limit;
      within = this.within;
      room = omega (arith, before.room, c.read.auto.buf);
      contents = ap (λ (r : Reading). r.contents) ok ∙ before.contents;
      faults = ap (λ (r : Reading). r.faults) ok ∙ before.faults;
      name = ap current_name ok ∙ name_advanced old len ∙ before.name;
      current = subst (λ (r : Reading). IsSome r.current) (sym ok) (current_advanced old len before.current);
      put = this.kept (λ e. let no_value : ⊥ = cc in no_value) ∙ before.put;
    }
