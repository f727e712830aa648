use Rattle.ceal_repair.specs.Turning.{later}
use Rattle.std.proofs.Common.{◌≡◌, ◌≢◌, ◌≤◌, ◌+◌, ℕ, zero, suc, Option, Some, arith}
use Rattle.ceal_repair.proofs.Propagation.TurnAgreement.{no-turns-in, not-last, one-more, is-under-way, is-done, is-up-to-date, found_by, found-never, turn-more, ends-so, spent-so, tables-so}
use Rattle.std.proofs.Common.{refl, ap, ◌∙◌, sym, subst}
use Rattle.ceal_repair.proofs.Runs.Paid.{pays-then, pays-less, turn-pays, one-left, found-stale, stale-after, none-put, due-value, due-one, due-same, spends, pays-concluded}
use Rattle.ceal_repair.proofs.TableCalls.FewLooks.{touched-still}
use Rattle.ceal_base.specs.declared.word.Place.{Place}
use Rattle.ceal_base.specs.declared.word.Word.{Word}
use Rattle.ceal_repair.proofs.Runs.Nearness.{came-same}
use Rattle.ceal_repair.specs.Kept.{Kept, IsStale, Records, QueuedAfter, contents_at}
use Rattle.ceal_repair.specs.Looks.{Account, CountsOn, LooksAtQueued, OneDiffers, Pays, PaysBut, found, looks_owed, touched_owed}
use Rattle.ceal_trace.specs.Nodes.{node_at, with_value}
use Rattle.ceal_repair.specs.Repairs.{account}
use Rattle.ceal_repair.specs.declared.repair.Repair.{Repair}
use Rattle.ceal_repair.specs.declared.running.Running.{Running}
use Rattle.ceal_repair.specs.declared.tables.Tables.{Tables}
use Rattle.ceal_repair.proofs.repair.Repair.turns.Goals as goal

-- the turn of the first stale read
turn-left : (r : Repair) (t : Tables) (read : ℕ) (b : Account) → Kept r.running.now.tables → QueuedAfter r.cursor.0 r.running.now.tables → IsStale read r.running.now.tables → (p : Place) (v : Word)
    → Records p v (node_at read r.running.now.tables.trace.nodes) → t.trace.nodes ≡ with_value read (contents_at read r.running.now.tables p) r.running.now.tables.trace.nodes
    → looks_owed t ≤ looks_owed r.running.now.tables + 1 → touched_owed t ≤ touched_owed r.running.now.tables + 1 → OneDiffers r.running.now.tables t → CountsOn r.running.now.tables t
    → Pays (found read (record (account r) { tables = t })) b → PaysBut 1 (account r) b
turn-left r t read b kept late stale p v is nodes looks touched differs counts pays =
    let a : Account = account r in
    let m : Account = found read (record a { tables = t }) in
    pays-then 1 a m b (one-left a m (due-value a.tables t _ _ 1 nodes looks) (omega (arith, touched)) refl differs counts (omega arith)
    (found-stale a t read m.ahead m.ends kept stale p v is nodes (stale-after a.tables kept a.cursor read late stale))) pays

pub loop-turn-init : goal.loop-turn-init
loop-turn-init c = no-turns-in c.args.self.now c.requires.idle c.requires.late c.args.reads c.args.fuel

pub first_stale-requires-clause-kept : goal.first_stale-requires-clause-kept
first_stale-requires-clause-kept c = let q = c.requires.comes in (c.loop-turn.invariant.turning.come q.0 q.1 q.2 q.3 q.4).so_far.stands.kept

pub turn_from-requires-clause-found : goal.turn_from-requires-clause-found
turn_from-requires-clause-found c =
    let e = c.in-Some.ensures in
    let q = c.requires.comes in (
      q.0,
      q.1,
      later c.loop-turn.turn q.2,
      found_by c.args.self.now c.loop-turn.self c.loop-turn.turn c.loop-turn.invariant.turning c.first_stale.new.self e.kept e.cells c.in-Some.read.0 e.stale
          e.nodes e.behind q.0 q.1 q.2 q.3 q.4,
    )

pub returns-in_err-turn_from-in-Some-clause-sure : goal.returns-in_err-turn_from-in-Some-clause-sure
returns-in_err-turn_from-in-Some-clause-sure c = λ f args o before h honest.
    let e = c.in-Some.ensures in
    absurd (found-never c.args.self.now c.loop-turn.self c.loop-turn.turn c.loop-turn.invariant.turning c.first_stale.new.self e.kept e.cells c.in-Some.read.0 e.stale e.nodes e.behind f args o before
    h honest)

-- the next turn has more work than the fuel, and so has the repair
pub returns-then-not-branch-clause-ended : goal.returns-then-not-branch-clause-ended
returns-then-not-branch-clause-ended c = λ f args o before h.
    let e = c.in-Some.ensures in
    let found =
    found_by c.args.self.now c.loop-turn.self c.loop-turn.turn c.loop-turn.invariant.turning c.first_stale.new.self e.kept e.cells c.in-Some.read.0 e.stale e.nodes e.behind f args o before h in (
      c.loop-turn.turn,
      not-last c.loop-turn.turn c.args.reads c.loop-turn.invariant.few (c.is_last.ensures.fewer c.if-is_last.false),
      rw (c.if-not-branch.true, c.loop-turn.invariant.turning.call.code, c.loop-turn.invariant.turning.call.inputs) at (
          c.in_ok-turn_from-in-Some.ensures.turn f args (later c.loop-turn.turn o) found
          ),
    )

-- one turn more is made: it is the next slice of one read
pub loop-turn-preserved : goal.loop-turn-preserved
loop-turn-preserved c =
    let e = c.in-Some.ensures in
    let g = c.in_ok-turn_from-in-Some.ensures in
    record {
      turning = turn-more c.args.self.now c.loop-turn.self c.loop-turn.turn c.loop-turn.invariant.turning c.first_stale.new.self e.kept e.cells c.in-Some.read.0 e.stale e.nodes e.behind
          c.turn_from.new.self (record { code = g.call.code; inputs = g.call.inputs; place = g.call.place; marks = g.call.marks ∙ e.marks })
          (g.idle c.if-not-branch.false)
          (λ f args o before h.
          rw c.if-not-branch.false at (g.turn f args (later c.loop-turn.turn o)
          (found_by c.args.self.now c.loop-turn.self c.loop-turn.turn c.loop-turn.invariant.turning c.first_stale.new.self e.kept e.cells c.in-Some.read.0 e.stale e.nodes e.behind f args o before
          h)));
      few = one-more c.loop-turn.turn c.args.reads (not-last c.loop-turn.turn c.args.reads c.loop-turn.invariant.few (c.is_last.ensures.fewer c.if-is_last.false));
      within = λ h. g.within c.if-not-branch.false;
      pays = turn-pays c.loop-turn.turn (account c.args.self.now) (account c.loop-turn.self) (account c.turn_from.new.self) c.loop-turn.invariant.pays
          (turn-left c.loop-turn.self c.first_stale.new.self c.in-Some.read.0 (account c.turn_from.new.self) (let q = c.requires.comes in
          (c.loop-turn.invariant.turning.come q.0 q.1 q.2 q.3 q.4).so_far.stands.kept)
          c.loop-turn.invariant.late e.stale e.nodes.0 e.nodes.1 e.nodes.2 e.nodes.3 c.first_stale.ensures.looks c.first_stale.ensures.touched e.differs c.first_stale.ensures.counts g.pays);
      late = g.late c.if-not-branch.false;
      begun = λ none. absurd (omega (arith, none));
    }

pub returns-clause-sure : goal.returns-clause-sure
returns-clause-sure c = λ f args o before h honest. absurd (omega (arith, c.loop-turn.invariant.turning.sure f args o before h honest, c.loop-turn-test.false))

pub returns-then-has_stale-clause-ended : goal.returns-then-has_stale-clause-ended
returns-then-has_stale-clause-ended c = λ f args o before h.
    let s = c.has_stale.ensures.stale c.if-has_stale.true in (
      c.loop-turn.turn,
      c.is_last.ensures.last c.if-is_last.true,
      is-under-way c.args.self.now c.loop-turn.self c.loop-turn.turn c.loop-turn.invariant.turning c.has_stale.new.self c.has_stale.ensures.kept c.has_stale.ensures.cells c.has_stale.ensures.trace
          s.0 s.1 f args o before h,
    )

-- as many turns as there were to be are at least one
some-turn : (reads : Option ℕ) (turn : ℕ) → reads ≡ Some turn → reads ≢ Some 0 → 1 ≤ turn
some-turn reads zero is some = absurd (some is)
some-turn reads (suc n) is some = omega arith

-- the turns so far are paid, and a look at the queue by what it takes out
pub returns-then-has_stale-clause-pays : goal.returns-then-has_stale-clause-pays
returns-then-has_stale-clause-pays c =
    let b : Account = account c.loop-turn.self in
    let z : Account = record b { tables = c.has_stale.new.self } in
    let h = c.has_stale.ensures in
    let n = some-turn c.args.reads c.loop-turn.turn (c.is_last.ensures.last c.if-is_last.true) c.requires.some in
    let d = due-one b.tables c.has_stale.new.self h.trace h.looks in
    let t = touched-still b.tables c.has_stale.new.self h.trace in
    spends c.loop-turn.turn 0 (account c.args.self.now) b z c.loop-turn.invariant.pays (omega (arith, d, n)) (omega (arith, t)) refl h.differed h.counts (omega arith)
    (none-put b z (λ o n m r. came-same o n m b.cursor b.tables.trace c.has_stale.new.self.trace h.trace r))

-- no read is stale any more, so the repair is done
pub returns-then-is_last-clause-ended : goal.returns-then-is_last-clause-ended
returns-then-is_last-clause-ended c = λ f args o before h.
    let e = c.has_stale.ensures in
    ends-so _ _ f args c.args.reads c.args.fuel o before (record c.loop-turn.self.running.now { tables = c.has_stale.new.self }) c.conclude.new.self c.loop-turn.turn c.loop-turn.invariant.few
    (is-done c.args.self.now c.loop-turn.self c.loop-turn.turn c.loop-turn.invariant.turning c.has_stale.new.self e.kept e.cells e.trace (e.none c.if-has_stale.false)
    (e.honest c.if-has_stale.false) f args o before h) c.conclude.result
    c.conclude.ensures

pub returns-then-is_last-clause-within : goal.returns-then-is_last-clause-within
returns-then-is_last-clause-within c = λ e h.
    let s = spent-so c.conclude.result c.args.fuel (record c.loop-turn.self.running.now { tables = c.has_stale.new.self }) c.conclude.new.self c.conclude.ensures in
    omega (arith, s, c.loop-turn.invariant.within h)

-- the turns so far are paid, and a look at the queue by what it takes out
pub returns-then-is_last-clause-pays : goal.returns-then-is_last-clause-pays
returns-then-is_last-clause-pays c =
    let b : Account = account c.loop-turn.self in
    let z : Account = record b { tables = c.has_stale.new.self } in
    let m : Running = record c.loop-turn.self.running.now { tables = c.has_stale.new.self } in
    let h = c.has_stale.ensures in
    let d = due-same b.tables c.has_stale.new.self h.trace (h.idle c.if-has_stale.false) in
    let t = touched-still b.tables c.has_stale.new.self h.trace in
    pays-concluded c.conclude.result c.args.fuel b.ahead b.ends b.cursor (account c.args.self.now) m c.conclude.new.self c.conclude.ensures
    (spends c.loop-turn.turn 0 (account c.args.self.now) b z c.loop-turn.invariant.pays (omega (arith, d)) (omega (arith, t)) refl h.differed h.counts (omega arith)
    (none-put b z (λ o n m r. came-same o n m b.cursor b.tables.trace c.has_stale.new.self.trace h.trace r)))

-- no read is stale any more, so the repair is done
pub returns-in-None-clause-ended : goal.returns-in-None-clause-ended
returns-in-None-clause-ended c = λ f args o before h.
    let e = c.in-None.ensures in
    ends-so _ _ f args c.args.reads c.args.fuel o before
    (record c.loop-turn.self.running.now { tables = c.first_stale.new.self }) c.conclude-in-None.new.self c.loop-turn.turn c.loop-turn.invariant.few
    (is-up-to-date c.args.self.now c.loop-turn.self c.loop-turn.turn c.loop-turn.invariant.turning c.first_stale.new.self e.kept e.cells e.none
    (λ s i. e.left s i tt) f args o before h) c.conclude-in-None.result
    c.conclude-in-None.ensures

pub returns-in-None-clause-within : goal.returns-in-None-clause-within
returns-in-None-clause-within c = λ e h.
    let s = spent-so c.conclude-in-None.result c.args.fuel (record c.loop-turn.self.running.now { tables = c.first_stale.new.self }) c.conclude-in-None.new.self c.conclude-in-None.ensures in
    omega (arith, s, c.loop-turn.invariant.within h)

-- the turns so far are paid, and the last search by what it takes out
pub returns-in-None-clause-pays : goal.returns-in-None-clause-pays
returns-in-None-clause-pays c =
    let b : Account = account c.loop-turn.self in
    let z : Account = record b { tables = c.first_stale.new.self } in
    let m : Running = record c.loop-turn.self.running.now { tables = c.first_stale.new.self } in
    let e = c.in-None.ensures in
    let d = due-same b.tables c.first_stale.new.self e.none e.idle in
    let t = touched-still b.tables c.first_stale.new.self e.none in
    pays-concluded c.conclude-in-None.result c.args.fuel b.ahead b.ends b.cursor (account c.args.self.now) m c.conclude-in-None.new.self c.conclude-in-None.ensures
    (spends c.loop-turn.turn 0 (account c.args.self.now) b z c.loop-turn.invariant.pays (omega (arith, d)) (omega (arith, t)) refl e.none_differs
    c.first_stale.ensures.counts (omega arith) (none-put b z (λ o n m r. came-same o n m b.cursor b.tables.trace c.first_stale.new.self.trace e.none r)))

-- the turns so far are paid, and the one that was not ended by what it re-executed
pub returns-then-not-branch-clause-pays : goal.returns-then-not-branch-clause-pays
returns-then-not-branch-clause-pays c =
    let e = c.in-Some.ensures in
    pays-less (c.loop-turn.turn + 1) (account c.args.self.now) (account c.turn_from.new.self)
    (turn-pays c.loop-turn.turn (account c.args.self.now) (account c.loop-turn.self) (account c.turn_from.new.self) c.loop-turn.invariant.pays
    (turn-left c.loop-turn.self c.first_stale.new.self c.in-Some.read.0 (account c.turn_from.new.self) (let q = c.requires.comes in
    (c.loop-turn.invariant.turning.come q.0 q.1 q.2 q.3 q.4).so_far.stands.kept)
    c.loop-turn.invariant.late e.stale e.nodes.0 e.nodes.1 e.nodes.2 e.nodes.3 c.first_stale.ensures.looks c.first_stale.ensures.touched e.differs c.first_stale.ensures.counts
    c.in_ok-turn_from-in-Some.ensures.pays))

pub returns-then-has_stale-clause-call : goal.returns-then-has_stale-clause-call
returns-then-has_stale-clause-call c =
    let t = c.loop-turn.invariant.turning.call in
    record { code = t.code; inputs = t.inputs; place = t.place; marks = c.has_stale.ensures.marks ∙ t.marks }

pub returns-then-is_last-clause-call : goal.returns-then-is_last-clause-call
returns-then-is_last-clause-call c =
    let t = c.loop-turn.invariant.turning.call in
    let m : Running = record c.loop-turn.self.running.now { tables = c.has_stale.new.self } in
    let last = ap (λ (d : Tables). d.mods.marked) (tables-so c.conclude.result c.args.fuel m c.conclude.new.self c.conclude.ensures) in
    record { code = t.code; inputs = t.inputs; place = t.place; marks = last ∙ (c.has_stale.ensures.marks ∙ t.marks) }

pub returns-in-None-clause-call : goal.returns-in-None-clause-call
returns-in-None-clause-call c =
    let t = c.loop-turn.invariant.turning.call in
    let m : Running = record c.loop-turn.self.running.now { tables = c.first_stale.new.self } in
    let last = ap (λ (d : Tables). d.mods.marked) (tables-so c.conclude-in-None.result c.args.fuel m c.conclude-in-None.new.self c.conclude-in-None.ensures) in
    record { code = t.code; inputs = t.inputs; place = t.place; marks = last ∙ (c.first_stale.ensures.marks ∙ t.marks) }

pub returns-then-not-branch-clause-call : goal.returns-then-not-branch-clause-call
returns-then-not-branch-clause-call c =
    let t = c.loop-turn.invariant.turning.call in
    let g = c.in_ok-turn_from-in-Some.ensures.call in
    record { code = g.code ∙ t.code; inputs = g.inputs ∙ t.inputs; place = g.place ∙ t.place; marks = g.marks ∙ (c.first_stale.ensures.marks ∙ t.marks) }

-- ---- where the trace is honest no turn is made

-- the search for the first stale read looks at the queue
first-look : (a b : Repair) (t : Tables) (run : Running) → b.running.now ≡ a.running.now → LooksAtQueued b.running.now.tables t → run.tables ≡ t → LooksAtQueued a.running.now.tables run.tables
first-look a b t run same looks is = subst (λ (x : Running). LooksAtQueued x.tables run.tables) same (subst (λ u. LooksAtQueued b.running.now.tables u) (sym is) looks)

pub returns-in-None-clause-idle : goal.returns-in-None-clause-idle
returns-in-None-clause-idle c = λ f args o before h honest.
    let none = c.loop-turn.invariant.turning.sure f args o before h honest in
    let m : Running = record c.loop-turn.self.running.now { tables = c.first_stale.new.self } in
    first-look c.args.self.now c.loop-turn.self c.first_stale.new.self c.conclude-in-None.new.self (c.loop-turn.invariant.begun none) c.in-None.ensures.queued
    (tables-so c.conclude-in-None.result c.args.fuel m c.conclude-in-None.new.self c.conclude-in-None.ensures)

pub returns-then-not-branch-clause-idle : goal.returns-then-not-branch-clause-idle
returns-then-not-branch-clause-idle c = λ f args o before h honest.
    let e = c.in-Some.ensures in
    absurd (found-never c.args.self.now c.loop-turn.self c.loop-turn.turn c.loop-turn.invariant.turning c.first_stale.new.self e.kept e.cells c.in-Some.read.0 e.stale e.nodes e.behind f args o before
    h honest)

-- the first turn is not the last one already
pub returns-then-has_stale-clause-idle : goal.returns-then-has_stale-clause-idle
returns-then-has_stale-clause-idle c = λ f args o before h honest.
    let none = c.loop-turn.invariant.turning.sure f args o before h honest in
    absurd (let n = some-turn c.args.reads c.loop-turn.turn (c.is_last.ensures.last c.if-is_last.true) c.requires.some in omega (arith, n, none))

pub returns-then-is_last-clause-idle : goal.returns-then-is_last-clause-idle
returns-then-is_last-clause-idle c = λ f args o before h honest.
    let none = c.loop-turn.invariant.turning.sure f args o before h honest in
    absurd (let n = some-turn c.args.reads c.loop-turn.turn (c.is_last.ensures.last c.if-is_last.true) c.requires.some in omega (arith, n, none))
