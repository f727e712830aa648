use Rattle.std.proofs.Common.{inr, Some, Result, Ok, Err}
use Rattle.std.specs.Result.{OnOk}
use Rattle.ceal_base.specs.declared.no_memory.NoMemory.{NoMemory}
use Rattle.ceal_order.specs.declared.stamp.Stamp.{Stamp}
use Rattle.ceal_repair.proofs.KeptNodes.GoesOn.{end-first, goes-on}
use Rattle.ceal_repair.proofs.KeptNodes.StaleReadEnd.{lies-kept}
use Rattle.ceal_repair.specs.Moment.{Start, through}
use Rattle.ceal_repair.specs.Reads.{EndsKept}
use Rattle.ceal_repair.specs.Repairs.{code_of, inputs_of, view, Runs, PassesOn}
use Rattle.ceal_repair.specs.declared.repair.Repair.{Repair}
use Rattle.ceal_repair.proofs.Runs.Paid.{stays, pays-then, on-ok, has-limit, if-ok}
use Rattle.std.proofs.Common.{arith}
use Rattle.ceal_repair.specs.Looks.{Account}
use Rattle.ceal_repair.specs.Repairs.{account}
use Rattle.ceal_repair.proofs.Runs.Nearness.{came-cut-to}
use Rattle.ceal_repair.proofs.repair.Repair.go_on.Goals as goal

pub cut_until-requires-clause-lies : goal.cut_until-requires-clause-lies
cut_until-requires-clause-lies c =
    let old : Repair = c.args.self.now in
    let start = c.requires.ends.0 in
    let a = c.requires.ends.1 in (
      through a.now.placed.done a.now.placed.last,
      a.now.left,
      a.now.tail,
      lies-kept (code_of old) (inputs_of old) start a.stack (view old) c.args.until a.now,
      inr (end-first old start c.args.until c.in-Some.end a c.in-Some.is),
    )

pub pass-requires : goal.pass-requires
pass-requires c =
    let f = c.in_ok-cut_until.ensures in
    let start = c.requires.ends.0 in
    record { passes = (start, goes-on c.args.self.now start c.args.until c.in-Some.end c.requires.ends.1 c.in-Some.is c.cut_until.new.self f.all f.bases f.blocks f.has f.spent f.kept) }

-- what is left over is revoked, and the nodes after the end of the read are passed, unless memory ran out
pub returns-clause-runs : goal.returns-clause-runs
returns-clause-runs c =
    let f = c.in_ok-cut_until.ensures in
    let old : Repair = c.args.self.now in
    let mid : Repair = record old { running = record old.running { now = c.cut_until.new.self }; cursor = c.in-Some.end; limit = Some c.args.until } in
    let all : (start : Start) → EndsKept start c.args.until old → PassesOn start mid =
    λ start a. goes-on old start c.args.until c.in-Some.end a c.in-Some.is c.cut_until.new.self f.all f.bases f.blocks f.has f.spent f.kept in
    go c.pass.result old mid c.pass.new.self c.args.until c.pass.ensures.runs all
  where
    go : (r : Result (Unit {0}) NoMemory) (old mid new : Repair) (until : Stamp) → OnOk r ((start : Start) → PassesOn start mid → Runs start new)
        → ((start : Start) → EndsKept start until old → PassesOn start mid) → OnOk r ((start : Start) → EndsKept start until old → Runs start new)
    go (Ok a) old mid new until h f = λ start ends. h start (f start ends)
    go (Err e) old mid new until h f = h

pub returns-clause-pays : goal.returns-clause-pays
returns-clause-pays c =
    let a : Account = account c.args.self.now in
    let f = c.in_ok-cut_until.ensures in
    let b : Account = record a { tables = c.cut_until.new.self.tables; cursor = c.in-Some.end.0; spent = c.cut_until.new.self.spent } in
    let t = f.touched in
    on-ok c.pass.result (pays-then 0 a b (account c.pass.new.self) (stays a b f.looks (omega (arith, t)) f.spent f.differed f.counts (omega arith)
    (λ o n m r. came-cut-to o n m a.cursor c.in-Some.end.0 a.tables.trace.nodes c.cut_until.new.self.tables.trace.nodes f.cuts f.first f.kept.step.whole.order.distinct r))) c.pass.ensures.pays

pub returns-clause-anew : goal.returns-clause-anew
returns-clause-anew c = if-ok c.pass.result (λ none. has-limit c.args.self.now.limit c.in-Some.end c.in-Some.is none)
