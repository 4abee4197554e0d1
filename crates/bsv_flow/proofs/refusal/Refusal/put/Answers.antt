use Rattle.std.proofs.Common.{◌≡◌, OnOk, subst, sym}
use Rattle.bsv_io.specs.Writing.{appended}
use Rattle.bsv_flow.specs.Refusals.{refusal_line}
use Rattle.bsv_flow.specs.declared.refusal.Refusal.{Refusal}
use Rattle.bsv_flow.proofs.refusal.Refusal.put.Goals as goal

pub returns-in-BadByte-clause-ok : goal.returns-in-BadByte-clause-ok
unfolding refusal_line
returns-in-BadByte-clause-ok g c =
    subst (λ (r : Refusal). OnOk c.put_placed.result (g.S.Sink.writing c.put_placed.new.sink ≡ appended (refusal_line r) (g.S.Sink.writing c.args.sink.now))) (sym c.in-BadByte.is) c.put_placed.ensures.ok

pub returns-in-OpenComment-clause-ok : goal.returns-in-OpenComment-clause-ok
unfolding refusal_line
returns-in-OpenComment-clause-ok g c =
    subst (λ (r : Refusal). OnOk c.put_placed-in-OpenComment.result (g.S.Sink.writing c.put_placed-in-OpenComment.new.sink ≡ appended (refusal_line r) (g.S.Sink.writing c.args.sink.now))) (sym c.in-OpenComment.is) c.put_placed-in-OpenComment.ensures.ok

pub returns-in-BadLiteral-clause-ok : goal.returns-in-BadLiteral-clause-ok
unfolding refusal_line
returns-in-BadLiteral-clause-ok g c =
    subst (λ (r : Refusal). OnOk c.put_placed-in-BadLiteral.result (g.S.Sink.writing c.put_placed-in-BadLiteral.new.sink ≡ appended (refusal_line r) (g.S.Sink.writing c.args.sink.now))) (sym c.in-BadLiteral.is) c.put_placed-in-BadLiteral.ensures.ok

pub returns-in-TooLong-clause-ok : goal.returns-in-TooLong-clause-ok
unfolding refusal_line
returns-in-TooLong-clause-ok g c =
    subst (λ (r : Refusal). OnOk c.put_placed-in-TooLong.result (g.S.Sink.writing c.put_placed-in-TooLong.new.sink ≡ appended (refusal_line r) (g.S.Sink.writing c.args.sink.now))) (sym c.in-TooLong.is) c.put_placed-in-TooLong.ensures.ok

pub returns-in-Syntax-clause-ok : goal.returns-in-Syntax-clause-ok
unfolding refusal_line
returns-in-Syntax-clause-ok g c =
    subst (λ (r : Refusal). OnOk c.put_placed-in-Syntax.result (g.S.Sink.writing c.put_placed-in-Syntax.new.sink ≡ appended (refusal_line r) (g.S.Sink.writing c.args.sink.now))) (sym c.in-Syntax.is) c.put_placed-in-Syntax.ensures.ok

pub returns-in-TooDeep-clause-ok : goal.returns-in-TooDeep-clause-ok
unfolding refusal_line
returns-in-TooDeep-clause-ok g c =
    subst (λ (r : Refusal). OnOk c.put_placed-in-TooDeep.result (g.S.Sink.writing c.put_placed-in-TooDeep.new.sink ≡ appended (refusal_line r) (g.S.Sink.writing c.args.sink.now))) (sym c.in-TooDeep.is) c.put_placed-in-TooDeep.ensures.ok

pub returns-in-UnknownName-clause-ok : goal.returns-in-UnknownName-clause-ok
unfolding refusal_line
returns-in-UnknownName-clause-ok g c =
    subst (λ (r : Refusal). OnOk c.put_placed-in-UnknownName.result (g.S.Sink.writing c.put_placed-in-UnknownName.new.sink ≡ appended (refusal_line r) (g.S.Sink.writing c.args.sink.now))) (sym c.in-UnknownName.is) c.put_placed-in-UnknownName.ensures.ok

pub returns-in-TwiceDefined-clause-ok : goal.returns-in-TwiceDefined-clause-ok
unfolding refusal_line
returns-in-TwiceDefined-clause-ok g c =
    subst (λ (r : Refusal). OnOk c.put_placed-in-TwiceDefined.result (g.S.Sink.writing c.put_placed-in-TwiceDefined.new.sink ≡ appended (refusal_line r) (g.S.Sink.writing c.args.sink.now))) (sym c.in-TwiceDefined.is) c.put_placed-in-TwiceDefined.ensures.ok

pub returns-in-TypeFault-clause-ok : goal.returns-in-TypeFault-clause-ok
unfolding refusal_line
returns-in-TypeFault-clause-ok g c =
    subst (λ (r : Refusal). OnOk c.put_placed-in-TypeFault.result (g.S.Sink.writing c.put_placed-in-TypeFault.new.sink ≡ appended (refusal_line r) (g.S.Sink.writing c.args.sink.now))) (sym c.in-TypeFault.is) c.put_placed-in-TypeFault.ensures.ok

pub returns-in-WidthFault-clause-ok : goal.returns-in-WidthFault-clause-ok
unfolding refusal_line
returns-in-WidthFault-clause-ok g c =
    subst (λ (r : Refusal). OnOk c.put_placed-in-WidthFault.result (g.S.Sink.writing c.put_placed-in-WidthFault.new.sink ≡ appended (refusal_line r) (g.S.Sink.writing c.args.sink.now))) (sym c.in-WidthFault.is) c.put_placed-in-WidthFault.ensures.ok

pub returns-in-BadAttribute-clause-ok : goal.returns-in-BadAttribute-clause-ok
unfolding refusal_line
returns-in-BadAttribute-clause-ok g c =
    subst (λ (r : Refusal). OnOk c.put_placed-in-BadAttribute.result (g.S.Sink.writing c.put_placed-in-BadAttribute.new.sink ≡ appended (refusal_line r) (g.S.Sink.writing c.args.sink.now))) (sym c.in-BadAttribute.is) c.put_placed-in-BadAttribute.ensures.ok

pub returns-in-NoSuchModule-clause-ok : goal.returns-in-NoSuchModule-clause-ok
unfolding refusal_line
returns-in-NoSuchModule-clause-ok g c =
    subst (λ (r : Refusal). OnOk c.put_named.result (g.S.Sink.writing c.put_named.new.sink ≡ appended (refusal_line r) (g.S.Sink.writing c.args.sink.now))) (sym c.in-NoSuchModule.is) c.put_named.ensures.ok

pub returns-in-StaticFault-clause-ok : goal.returns-in-StaticFault-clause-ok
unfolding refusal_line
returns-in-StaticFault-clause-ok g c =
    subst (λ (r : Refusal). OnOk c.put_named-in-StaticFault.result (g.S.Sink.writing c.put_named-in-StaticFault.new.sink ≡ appended (refusal_line r) (g.S.Sink.writing c.args.sink.now))) (sym c.in-StaticFault.is) c.put_named-in-StaticFault.ensures.ok

pub returns-in-Loop-clause-ok : goal.returns-in-Loop-clause-ok
unfolding refusal_line
returns-in-Loop-clause-ok g c =
    subst (λ (r : Refusal). OnOk c.put_named-in-Loop.result (g.S.Sink.writing c.put_named-in-Loop.new.sink ≡ appended (refusal_line r) (g.S.Sink.writing c.args.sink.now))) (sym c.in-Loop.is) c.put_named-in-Loop.ensures.ok

pub returns-in-Recursion-clause-ok : goal.returns-in-Recursion-clause-ok
unfolding refusal_line
returns-in-Recursion-clause-ok g c =
    subst (λ (r : Refusal). OnOk c.put_named-in-Recursion.result (g.S.Sink.writing c.put_named-in-Recursion.new.sink ≡ appended (refusal_line r) (g.S.Sink.writing c.args.sink.now))) (sym c.in-Recursion.is) c.put_named-in-Recursion.ensures.ok

pub returns-in-NameTaken-clause-ok : goal.returns-in-NameTaken-clause-ok
unfolding refusal_line
returns-in-NameTaken-clause-ok g c =
    subst (λ (r : Refusal). OnOk c.put_named-in-NameTaken.result (g.S.Sink.writing c.put_named-in-NameTaken.new.sink ≡ appended (refusal_line r) (g.S.Sink.writing c.args.sink.now))) (sym c.in-NameTaken.is) c.put_named-in-NameTaken.ensures.ok

pub returns-in-Limit-clause-ok : goal.returns-in-Limit-clause-ok
unfolding refusal_line
returns-in-Limit-clause-ok g c =
    subst (λ (r : Refusal). OnOk c.put_limit.result (g.S.Sink.writing c.put_limit.new.sink ≡ appended (refusal_line r) (g.S.Sink.writing c.args.sink.now))) (sym c.in-Limit.is) c.put_limit.ensures.ok

pub returns-in-InRule-clause-ok : goal.returns-in-InRule-clause-ok
unfolding refusal_line
returns-in-InRule-clause-ok g c =
    subst (λ (r : Refusal). OnOk c.put_four.result (g.S.Sink.writing c.put_four.new.sink ≡ appended (refusal_line r) (g.S.Sink.writing c.args.sink.now))) (sym c.in-InRule.is) c.put_four.ensures.ok

pub returns-in-FireWhenEnabled-clause-ok : goal.returns-in-FireWhenEnabled-clause-ok
unfolding refusal_line
returns-in-FireWhenEnabled-clause-ok g c =
    subst (λ (r : Refusal). OnOk c.put_two.result (g.S.Sink.writing c.put_two.new.sink ≡ appended (refusal_line r) (g.S.Sink.writing c.args.sink.now))) (sym c.in-FireWhenEnabled.is) c.put_two.ensures.ok

pub returns-in-NoImplicit-clause-ok : goal.returns-in-NoImplicit-clause-ok
unfolding refusal_line
returns-in-NoImplicit-clause-ok g c =
    subst (λ (r : Refusal). OnOk c.put_two-in-NoImplicit.result (g.S.Sink.writing c.put_two-in-NoImplicit.new.sink ≡ appended (refusal_line r) (g.S.Sink.writing c.args.sink.now))) (sym c.in-NoImplicit.is) c.put_two-in-NoImplicit.ensures.ok

pub returns-in-WireCycle-clause-ok : goal.returns-in-WireCycle-clause-ok
unfolding refusal_line
returns-in-WireCycle-clause-ok g c =
    subst (λ (r : Refusal). OnOk c.put_named-in-WireCycle.result (g.S.Sink.writing c.put_named-in-WireCycle.new.sink ≡ appended (refusal_line r) (g.S.Sink.writing c.args.sink.now))) (sym c.in-WireCycle.is) c.put_named-in-WireCycle.ensures.ok

pub returns-in-ValueClash-clause-ok : goal.returns-in-ValueClash-clause-ok
unfolding refusal_line
returns-in-ValueClash-clause-ok g c =
    subst (λ (r : Refusal). OnOk c.put_named-in-ValueClash.result (g.S.Sink.writing c.put_named-in-ValueClash.new.sink ≡ appended (refusal_line r) (g.S.Sink.writing c.args.sink.now))) (sym c.in-ValueClash.is) c.put_named-in-ValueClash.ensures.ok

pub returns-in-ExecutionCycle-clause-ok : goal.returns-in-ExecutionCycle-clause-ok
unfolding refusal_line
returns-in-ExecutionCycle-clause-ok g c =
    subst (λ (r : Refusal). OnOk c.put_three.result (g.S.Sink.writing c.put_three.new.sink ≡ appended (refusal_line r) (g.S.Sink.writing c.args.sink.now))) (sym c.in-ExecutionCycle.is) c.put_three.ensures.ok

pub returns-in-UrgencyCycle-clause-ok : goal.returns-in-UrgencyCycle-clause-ok
unfolding refusal_line
returns-in-UrgencyCycle-clause-ok g c =
    subst (λ (r : Refusal). OnOk c.put_three-in-UrgencyCycle.result (g.S.Sink.writing c.put_three-in-UrgencyCycle.new.sink ≡ appended (refusal_line r) (g.S.Sink.writing c.args.sink.now))) (sym c.in-UrgencyCycle.is) c.put_three-in-UrgencyCycle.ensures.ok

pub returns-in-MethodBehindRule-clause-ok : goal.returns-in-MethodBehindRule-clause-ok
unfolding refusal_line
returns-in-MethodBehindRule-clause-ok g c =
    subst (λ (r : Refusal). OnOk c.put_two-in-MethodBehindRule.result (g.S.Sink.writing c.put_two-in-MethodBehindRule.new.sink ≡ appended (refusal_line r) (g.S.Sink.writing c.args.sink.now))) (sym c.in-MethodBehindRule.is) c.put_two-in-MethodBehindRule.ensures.ok

pub returns-in-NoSuchRule-clause-ok : goal.returns-in-NoSuchRule-clause-ok
unfolding refusal_line
returns-in-NoSuchRule-clause-ok g c =
    subst (λ (r : Refusal). OnOk c.put_two-in-NoSuchRule.result (g.S.Sink.writing c.put_two-in-NoSuchRule.new.sink ≡ appended (refusal_line r) (g.S.Sink.writing c.args.sink.now))) (sym c.in-NoSuchRule.is) c.put_two-in-NoSuchRule.ensures.ok
