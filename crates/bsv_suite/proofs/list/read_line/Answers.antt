use Rattle.std.proofs.Common.{◌∙◌, arith}
use Rattle.bsv_suite.proofs.list.read_line.Goals as goal

pub returns-then-branch-eq0-clause-filled : goal.returns-then-branch-eq0-clause-filled
returns-then-branch-eq0-clause-filled g c = λ left told.
    let so_far = c.loop-turn.invariant.moved left told in
    let more = c.in_ok-read_more.ensures.bytes so_far.0 so_far.1 in
    record { after = more.after; told_after = more.told_after; moved = so_far.2 ∙ more.moved; enough = λ none short. more.end c.if-branch-eq0.true }

pub loop-turn-preserved : goal.loop-turn-preserved
loop-turn-preserved g c =
    let before = c.loop-turn.invariant in
    let this = c.in_ok-read_more.ensures in
    record {
      moved = λ left told.
          let so_far = before.moved left told in
          let more = this.bytes so_far.0 so_far.1 in
          (more.after, more.told_after, so_far.2 ∙ more.moved);
      turns = omega (arith, before.turns, this.long.1, c.if-branch-eq0.false);
      few = omega (arith, before.turns, c.if-len-gt-LINE_LIMIT.false, c.len.ensures);
      given = omega (arith, before.given, this.given, this.long.1);
      within = omega (arith, before.given, this.given, this.long.0, this.long.1, before.room, c.if-len-gt-LINE_LIMIT.false, c.len.ensures);
      room = c.read_more.auto.buffer ∙ before.room;
      contents = this.contents ∙ before.contents;
      faults = this.kept (λ e. let no_value : ⊥ = cc in no_value) ∙ before.faults;
      name = this.file.name ∙ before.name;
      current = this.file.current;
    }
