use Rattle.ceal_code.proofs.Equations.WaitSteps.{runs-over}
use Rattle.ceal_code.proofs.stack.Stack.arrive_at.Goals as goal

pub returns-in-Move-clause-arrives : goal.returns-in-Move-clause-arrives
returns-in-Move-clause-arrives g c = λ rest. rw c.in-Move.is (runs-over c.args.self.now c.requires.stands.runs)

pub returns-in-Tick-clause-arrives : goal.returns-in-Tick-clause-arrives
returns-in-Tick-clause-arrives g c = λ rest. rw c.in-Tick.is (runs-over c.args.self.now c.requires.stands.runs)

pub returns-in-Alloc-clause-arrives : goal.returns-in-Alloc-clause-arrives
returns-in-Alloc-clause-arrives g c = λ rest. rw c.in-Alloc.is (runs-over c.args.self.now c.requires.stands.runs)

pub returns-in-Modref-clause-arrives : goal.returns-in-Modref-clause-arrives
returns-in-Modref-clause-arrives g c = λ rest. rw c.in-Modref.is (runs-over c.args.self.now c.requires.stands.runs)

pub returns-in-Write-clause-arrives : goal.returns-in-Write-clause-arrives
returns-in-Write-clause-arrives g c = λ rest. rw c.in-Write.is (runs-over c.args.self.now c.requires.stands.runs)

pub returns-in-If-clause-arrives : goal.returns-in-If-clause-arrives
returns-in-If-clause-arrives g c = λ rest. rw c.in-If.is (runs-over c.args.self.now c.requires.stands.runs)

pub returns-in-Read-clause-arrives : goal.returns-in-Read-clause-arrives
returns-in-Read-clause-arrives g c = λ rest. rw c.in-Read.is (runs-over c.args.self.now c.requires.stands.runs)

pub returns-in-Call-clause-arrives : goal.returns-in-Call-clause-arrives
returns-in-Call-clause-arrives g c = λ rest. rw c.in-Call.is (runs-over c.args.self.now c.requires.stands.runs)
