use Rattle.std.proofs.Common.{subst}
use Rattle.ceal_queue.specs.Queue.{IsBefore}
use Rattle.ceal_repair.proofs.KeptNodes.PassAll.{limit-there, left-from}
use Rattle.ceal_repair.specs.Repairs.{code_of, inputs_of, view, PassesOn}
use Rattle.ceal_repair.specs.declared.repair.Repair.{Repair}
use Rattle.ceal_trace.specs.Nodes.{stamps_in}
use Rattle.std.proofs.Common.{refl}
use Rattle.ceal_repair.proofs.Runs.Paid.{stays, pays-then, due-same, due-value, one-pays, on-ok, has-limit, if-ok, found-stale, stale-after}
use Rattle.std.proofs.Common.{arith}
use Rattle.ceal_repair.specs.Looks.{Account, found}
use Rattle.ceal_repair.specs.Repairs.{account}
use Rattle.ceal_repair.proofs.TableCalls.FewLooks.{touched-still}
use Rattle.ceal_repair.proofs.Runs.Nearness.{came-same}
use Rattle.ceal_repair.proofs.repair.Repair.pass.Goals as goal

pub first_stale-requires-clause-kept : goal.first_stale-requires-clause-kept
first_stale-requires-clause-kept c = c.requires.passes.1.1.placed.kept

pub first_stale-requires-clause-until : goal.first_stale-requires-clause-until
first_stale-requires-clause-until c =
    let old : Repair = c.args.self.now in
    let start = c.requires.passes.0 in
    let a : PassesOn start old = c.requires.passes.1 in
    limit-there (code_of old) (inputs_of old) start a.0 (view old) a.1

pub pass_all-requires : goal.pass_all-requires
pass_all-requires c =
    let old : Repair = c.args.self.now in
    let start = c.requires.passes.0 in
    let a : PassesOn start old = c.requires.passes.1 in
    let e = c.in-None.ensures in
    record {
      none = (
        start,
        record {
          before = old.running.now.tables;
          until = a.0;
          now = a.1;
          trace = e.none;
          left = left-from (code_of old) (inputs_of old) start a.0 (view old) a.1 c.first_stale.new.self e.none e.left;
          cells = e.cells;
          kept = e.kept;
        },
      );
    }

-- the read that was found is stale, and lies before the limit
pub repair_inside-requires : goal.repair_inside-requires
repair_inside-requires c =
    let old : Repair = c.args.self.now in
    let start = c.requires.passes.0 in
    let a : PassesOn start old = c.requires.passes.1 in
    let e = c.in-Some.ensures in
    record {
      stale = (
        start,
        record {
          before = old.running.now.tables;
          until = a.0;
          now = a.1;
          stale = e.stale;
          place = e.nodes.0;
          value = e.nodes.1;
          is_read = e.nodes.2;
          nodes = e.nodes.3;
          limit = subst (λ o. IsBefore (stamps_in old.running.now.tables.trace.nodes) o c.in-Some.read.0) a.1.limit e.limit;
          queued = e.behind;
          cells = e.cells;
          kept = e.kept;
        },
      );
    }

pub returns-in-None-clause-runs : goal.returns-in-None-clause-runs
returns-in-None-clause-runs c = λ start a.
    let old : Repair = c.args.self.now in
    let e = c.in-None.ensures in
    c.pass_all.ensures.runs start (record {
      before = old.running.now.tables;
      until = a.0;
      now = a.1;
      trace = e.none;
      left = left-from (code_of old) (inputs_of old) start a.0 (view old) a.1 c.first_stale.new.self e.none e.left;
      cells = e.cells;
      kept = e.kept;
    })

pub returns-in-None-clause-pays : goal.returns-in-None-clause-pays
returns-in-None-clause-pays c =
    let a : Account = account c.args.self.now in
    let b : Account = record a { tables = c.first_stale.new.self } in
    let e = c.in-None.ensures in
    let t = touched-still a.tables c.first_stale.new.self e.none in
    pays-then 0 a b (account c.pass_all.new.self) (stays a b (due-same a.tables c.first_stale.new.self e.none e.idle) (omega (arith, t)) refl e.none_differs c.first_stale.ensures.counts (omega arith)
    (λ o n m r. came-same o n m a.cursor a.tables.trace c.first_stale.new.self.trace e.none r)) c.pass_all.ensures.pays

pub returns-in-Some-clause-pays : goal.returns-in-Some-clause-pays
returns-in-Some-clause-pays c =
    let a : Account = account c.args.self.now in
    let b : Account = found c.in-Some.read.0 (record a { tables = c.first_stale.new.self }) in
    let x : PassesOn c.requires.passes.0 c.args.self.now = c.requires.passes.1 in
    let e = c.in-Some.ensures in
    let t = c.first_stale.ensures.touched in
    on-ok c.repair_inside.result (pays-then 0 a b (account c.repair_inside.new.self)
    (one-pays a b (due-value a.tables c.first_stale.new.self _ _ 1 e.nodes.3 c.first_stale.ensures.looks) (omega (arith, t)) refl e.differs c.first_stale.ensures.counts (omega arith)
    (found-stale a c.first_stale.new.self c.in-Some.read.0 b.ahead b.ends x.1.placed.kept e.stale e.nodes.0 e.nodes.1 e.nodes.2 e.nodes.3
    (stale-after a.tables x.1.placed.kept a.cursor c.in-Some.read.0 x.1.placed.late e.stale)))) c.repair_inside.ensures.pays

-- it has a limit
pub returns-in-None-clause-anew : goal.returns-in-None-clause-anew
returns-in-None-clause-anew c = λ none.
    let a : PassesOn c.requires.passes.0 c.args.self.now = c.requires.passes.1 in has-limit c.args.self.now.limit a.0 a.1.limit none

pub returns-in-Some-clause-anew : goal.returns-in-Some-clause-anew
returns-in-Some-clause-anew c = if-ok c.repair_inside.result (λ none.
    let a : PassesOn c.requires.passes.0 c.args.self.now = c.requires.passes.1 in has-limit c.args.self.now.limit a.0 a.1.limit none)
