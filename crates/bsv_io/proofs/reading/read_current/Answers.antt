use Rattle.std.proofs.Common.{drop, ◌∙◌, arith, length-append, length-drop}
use Rattle.std.proofs.lemmas.List.{length-take}
use Rattle.bsv_io.proofs.Moved.{read_whole, read_front}
use Rattle.bsv_io.proofs.reading.read_current.Goals as goal
use Rattle.bsv_io.proofs.reading.read_current.Goals.{then-len-eq0-via-then-len-eq0, then-len-eq0-via-else-len-eq0+then-len-limit}

pub returns-then-len-eq0-clause-bytes : goal.returns-then-len-eq0-clause-bytes
returns-then-len-eq0-clause-bytes g c =
    let before = c.loop-turn.invariant in
    let this = c.in_ok-len.ensures in
    let bytes = c.read_more.new.bytes in
    let ok = bytes.ok in
    λ text told.
    let so_far = before.text text told in
    let more = this.bytes so_far.0 so_far.1 in
    let split = so_far.2 ∙ more.moved in
    elim c.then-len-eq0.branch [
      | then-len-eq0-via-then-len-eq0 w ↦ read_whole c.args.limit text bytes.items more.after split (more.end w.if-len-eq0.true)
          (omega (arith, ok.0, before.short, this.long.0, this.long.1, c.min-room.ensures, c.len.ensures, length-take c.min-room.result c.loop-turn.buffer))
      | then-len-eq0-via-else-len-eq0+then-len-limit w ↦ read_front c.args.limit text bytes.items more.after split (omega (arith, ok.0, w.len-else-len-eq0.ensures, w.if-len-limit.true))
    ]

pub returns-in_err-len-clause-within : goal.returns-in_err-len-clause-within
returns-in_err-len-clause-within g c =
    omega (arith, c.loop-turn.invariant.given, c.loop-turn.invariant.short, c.read_more.ensures.within, c.min-room.ensures, c.len.ensures, length-take c.min-room.result c.loop-turn.buffer)

pub returns-then-len-eq0-clause-within : goal.returns-then-len-eq0-clause-within
returns-then-len-eq0-clause-within g c =
    omega (arith, c.loop-turn.invariant.given, c.loop-turn.invariant.short, c.read_more.ensures.within, c.min-room.ensures, c.len.ensures, length-take c.min-room.result c.loop-turn.buffer)

pub loop-turn-preserved : goal.loop-turn-preserved
loop-turn-preserved g c =
    let before = c.loop-turn.invariant in
    let this = c.in_ok-len.ensures in
    record {
      text = λ text told.
          let so_far = before.text text told in
          let more = this.bytes so_far.0 so_far.1 in
          (more.after, more.told_after, so_far.2 ∙ more.moved);
      turns = omega (arith, before.turns, this.long.1, c.if-len-eq0.false);
      given = omega (arith, before.given, this.given, this.long.1);
      short = omega (arith, before.short, this.long.0, this.long.1, c.min-room.ensures, c.len.ensures, length-take c.min-room.result c.loop-turn.buffer, c.len-else-len-eq0.ensures, c.if-len-limit.false);
      room = omega (arith, before.room, c.read_more.auto.buffer, length-append c.read_more.new.buffer (drop c.min-room.result c.loop-turn.buffer), length-take c.min-room.result c.loop-turn.buffer, length-drop c.min-room.result c.loop-turn.buffer);
      contents = this.contents ∙ before.contents;
      faults = this.kept (λ e. let no_value : ⊥ = cc in no_value) ∙ before.faults;
      name = this.file.name ∙ before.name;
      current = this.file.current;
    }
