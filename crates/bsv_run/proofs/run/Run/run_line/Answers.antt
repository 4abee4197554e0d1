use Rattle.bsv_design.specs.scheme.Seen.{asking}
use Rattle.bsv_run.specs.declared.run.Run.{Run}
use Rattle.bsv_run.proofs.Clocking.{begins_clock, can_clock, puts_clock, written}
use Rattle.bsv_run.proofs.Named.{asks_here, asks_there}
use Rattle.bsv_run.proofs.run.Run.run_line.Goals as goal

pub returns-in_err-line-clause-bad : goal.returns-in_err-line-clause-bad
returns-in_err-line-clause-bad g c = λ _ q asks.
    c.in_err-line.ensures.bad q (asks_there c.args.design.now c.text.result.now _ q c.text.ensures asks)

pub clock-requires : goal.clock-requires
clock-requires g c = ∣ can_clock c.args.design.now c.args.schedule.now c.args.self.now c.requires.fits (asking c.line.new.requests) c.in_ok-line.ensures.fits ∣₁

pub returns-in_err-put-clause-started : goal.returns-in_err-put-clause-started
returns-in_err-put-clause-started g c = λ _ s shown.
    let d = c.args.design.now in
    let made = c.args.schedule.now in
    let new : Run = record { lines = c.args.self.now.lines; sim = c.clock.new.self; requests = c.line.new.requests; fired = c.clock.new.fired; writer = c.put.new.self } in
    begins_clock d made c.args.self.now c.requires.fits new c.in_ok-line.ensures.fits c.clock.ensures.happens
    (asks_here d c.text.result.now _ (asking c.line.new.requests) c.text.ensures c.in_ok-line.ensures.asks) s shown
    _ (g.O.Sink.writing c.args.out.now) (g.O.Sink.writing c.put.new.sink) c.number-number.ensures
    (c.in_err-put.ensures.prefix _
    (written d made c.args.self.now c.requires.fits new c.in_ok-line.ensures.fits c.clock.ensures.happens c.registers-registers.result.now c.registers-registers.ensures s shown))

pub returns-clause-ran : goal.returns-clause-ran
returns-clause-ran g c =
    let d = c.args.design.now in
    let made = c.args.schedule.now in
    let new : Run = record { lines = c.end_line.new.self; sim = c.clock.new.self; requests = c.line.new.requests; fired = c.clock.new.fired; writer = c.put.new.self } in
    record {
      ran = λ s shown.
          puts_clock d made c.args.self.now c.requires.fits new c.in_ok-line.ensures.fits c.clock.ensures.happens
          (asks_here d c.text.result.now _ (asking c.line.new.requests) c.text.ensures c.in_ok-line.ensures.asks) s shown
          _ (g.O.Sink.writing c.args.out.now) (g.O.Sink.writing c.put.new.sink) c.number-number.ensures
          (c.in_ok-put.ensures.ok _
          (written d made c.args.self.now c.requires.fits new c.in_ok-line.ensures.fits c.clock.ensures.happens c.registers-registers.result.now c.registers-registers.ensures s shown));
      done = c.end_line.ensures.done;
      at = c.end_line.ensures.at;
      none = c.end_line.ensures.held;
      limit = c.end_line.ensures.limit;
    }
