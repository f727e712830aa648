use Rattle.std.proofs.Common.{◌≡◌, subst}
use Rattle.ceal_cli.specs.SinkGrowth.{WritesFirst}
use Rattle.ceal_cli.proofs.Sessions.GrowingReplies.{unsaid}
use Rattle.ceal_cli.proofs.answer.answer.Goals as goal

pub returns-in-Check-clause-readable : goal.returns-in-Check-clause-readable
returns-in-Check-clause-readable g c = rw c.in-Check.is (unsaid c.accept.result)

pub returns-in-List-clause-readable : goal.returns-in-List-clause-readable
returns-in-List-clause-readable g c = rw c.in-List.is (unsaid c.list.result)

pub returns-in-Verify-clause-readable : goal.returns-in-Verify-clause-readable
returns-in-Verify-clause-readable g c = rw c.in-Verify.is (unsaid c.verify.result)

pub returns-in-Run-clause-readable : goal.returns-in-Run-clause-readable
returns-in-Run-clause-readable g c = rw c.in-Run.is (unsaid c.run.result)

pub returns-in-Many-clause-readable : goal.returns-in-Many-clause-readable
returns-in-Many-clause-readable g c = rw c.in-Many.is (unsaid c.many.result)

pub returns-in-Dump-clause-readable : goal.returns-in-Dump-clause-readable
returns-in-Dump-clause-readable g c = rw c.in-Dump.is c.dump.ensures.dumped

pub returns-in-Save-clause-readable : goal.returns-in-Save-clause-readable
returns-in-Save-clause-readable g c = rw c.in-Save.is c.save.ensures.saved

pub returns-in-Check-clause-cut : goal.returns-in-Check-clause-cut
returns-in-Check-clause-cut g c = λ _ _ fuel is. absurd (cc (c.in-Check.is, is))

pub returns-in-List-clause-cut : goal.returns-in-List-clause-cut
returns-in-List-clause-cut g c = λ _ _ fuel is. absurd (cc (c.in-List.is, is))

pub returns-in-Verify-clause-cut : goal.returns-in-Verify-clause-cut
returns-in-Verify-clause-cut g c = λ _ _ fuel is. absurd (cc (c.in-Verify.is, is))

pub returns-in-Dump-clause-cut : goal.returns-in-Dump-clause-cut
returns-in-Dump-clause-cut g c = λ _ _ fuel is. absurd (cc (c.in-Dump.is, is))

pub returns-in-Many-clause-cut : goal.returns-in-Many-clause-cut
returns-in-Many-clause-cut g c = λ _ _ fuel is. absurd (cc (c.in-Many.is, is))

pub returns-in-Save-clause-cut : goal.returns-in-Save-clause-cut
returns-in-Save-clause-cut g c = λ _ _ fuel is. absurd (cc (c.in-Save.is, is))

pub returns-in-Run-clause-cut : goal.returns-in-Run-clause-cut
returns-in-Run-clause-cut g c = λ out own fuel is.
    let same : c.in-Run.fuel ≡ fuel = cc (c.in-Run.is, is) in
    subst (λ n. WritesFirst (g.K.Sink.written c.args.sink.now) (g.K.Sink.written c.run.new.sink) n c.args.input.bytes.now) same (c.run.ensures.cut out own)
