use Rattle.std.proofs.Common.{arith, ◌≤◌}
use Rattle.ceal_repair.proofs.Propagation.TurnAgreement.{turn-out, began-gone, turn-made}
use Rattle.ceal_repair.proofs.Runs.Paid.{pays-then}
use Rattle.ceal_repair.specs.Looks.{found}
use Rattle.ceal_repair.specs.Repairs.{account}
use Rattle.ceal_repair.proofs.repair.Repair.turn_from.Goals as goal

pub complete-requires : goal.complete-requires
complete-requires c =
    let q = c.requires.found in
    let runs = c.in_ok-begin_turn.ensures.begins q.0 q.1 q.2 q.3 in
    record { runs = (runs.start, runs.runs) }

pub returns-then-not-branch-clause-turn : goal.returns-then-not-branch-clause-turn
returns-then-not-branch-clause-turn c = λ f args o found.
    let runs = c.in_ok-begin_turn.ensures.begins f args o found in
    let done = rw c.if-not-branch.true at (c.in_ok-complete.ensures.done runs.start runs.runs) in
    turn-out c.args.self.now c.begin_turn.new.self c.complete.new.repair c.args.read.0 c.in_ok-begin_turn.ensures.call c.in_ok-complete.ensures.call f args o found runs done.0 c.args.fuel done.1

pub end_turn-requires : goal.end_turn-requires
end_turn-requires c =
    let q = c.requires.found in
    let runs = c.in_ok-begin_turn.ensures.begins q.0 q.1 q.2 q.3 in
    let done = rw c.if-not-branch.false at (c.in_ok-complete.ensures.done runs.start runs.runs) in
    record {
      over = (
        q.0,
        q.1,
        q.2,
        q.3.before,
        runs.start,
        began-gone c.args.self.now c.begin_turn.new.self c.complete.new.repair c.args.read.0 c.in_ok-begin_turn.ensures.call c.in_ok-complete.ensures.call q.0 q.1 q.2 q.3 runs,
        done.0,
      );
    }

-- the read's unit ran to its end over what was inside, and that is the turn
pub returns-clause-turn : goal.returns-clause-turn
returns-clause-turn c = λ f args o found.
    let runs = c.in_ok-begin_turn.ensures.begins f args o found in
    let done = rw c.if-not-branch.false at (c.in_ok-complete.ensures.done runs.start runs.runs) in
    let began = began-gone c.args.self.now c.begin_turn.new.self c.complete.new.repair c.args.read.0 c.in_ok-begin_turn.ensures.call c.in_ok-complete.ensures.call f args o found runs in
    turn-made c.args.self.now c.begin_turn.new.self c.complete.new.repair c.args.read.0 c.in_ok-begin_turn.ensures.call c.in_ok-complete.ensures.call f args o found runs c.end_turn.new.self
    (c.in_ok-end_turn.ensures.ends f args o found.before runs.start began done.0)

pub returns-clause-within : goal.returns-clause-within
returns-clause-within c = λ told.
    let q = c.requires.found in
    let runs = c.in_ok-begin_turn.ensures.begins q.0 q.1 q.2 q.3 in
    let done = rw c.if-not-branch.false at (c.in_ok-complete.ensures.done runs.start runs.runs) in
    let few : c.complete.new.repair.running.now.spent ≤ c.args.fuel = done.1 in
    omega (arith, few, c.in_ok-end_turn.ensures.spent)

pub returns-then-not-branch-clause-pays : goal.returns-then-not-branch-clause-pays
returns-then-not-branch-clause-pays c =
    pays-then 0 (found c.args.read.0 (account c.args.self.now)) (account c.begin_turn.new.self) (account c.complete.new.repair) c.in_ok-begin_turn.ensures.pays c.in_ok-complete.ensures.pays

pub returns-clause-pays : goal.returns-clause-pays
returns-clause-pays c =
    pays-then 0 (found c.args.read.0 (account c.args.self.now)) (account c.complete.new.repair) (account c.end_turn.new.self)
    (pays-then 0 (found c.args.read.0 (account c.args.self.now)) (account c.begin_turn.new.self) (account c.complete.new.repair) c.in_ok-begin_turn.ensures.pays c.in_ok-complete.ensures.pays)
    c.in_ok-end_turn.ensures.pays
