use Rattle.std.proofs.Common.{ℕ, refl}
use Rattle.ceal_mods.specs.Mods.{cell_of}
use Rattle.ceal_trace.specs.Nodes.{Timeline, stamps_in}
use Rattle.ceal_trace.specs.declared.node.Node.TheVariants.{Write}
use Rattle.ceal_repair.proofs.QueueCover.NodeChanges.{read-has}
use Rattle.ceal_repair.proofs.TableCalls.CutKeepsTables.{by-queue, as-tables}
use Rattle.ceal_repair.proofs.TableCalls.CallsKeepCover.{behind-put}
use Rattle.ceal_repair.proofs.TableCalls.PutKeepsTables.{write-kept, is-free, bases-same}
use Rattle.ceal_mods.specs.Cell.{with_write}
use Rattle.std.proofs.Common.{arith, length, ap, ◌∙◌, ◌+◌}
use Rattle.ceal_repair.proofs.TableCalls.FewLooks.{touched-more, touched-on, grows-put}
use Rattle.std.proofs.Common.{sym, subst}
use Rattle.ceal_memo.specs.Memo.{Contents as Memo}
use Rattle.ceal_repair.specs.Looks.{Grows}
use Rattle.ceal_mods.specs.Mods.{Contents}
use Rattle.ceal_mods.specs.Mods.{places_of}
use Rattle.ceal_repair.proofs.tables.Tables.put_write.Goals as goal

pub add_write-requires-clause-absent : goal.add_write-requires-clause-absent
add_write-requires-clause-absent c =
    (is-free c.insert_write-added.result.0 c.args.self.now c.requires.kept.step (rw c.reserve.ensures.nodes at c.insert_write-added.ensures.inserted.new) c.args.place).0

pub wake_in-requires-clause-stale : goal.wake_in-requires-clause-stale
wake_in-requires-clause-stale c =
    c.follows_still-2.ensures.inserted c.insert_write-added.result.0 c.reserve-2.new.self (stamps_in c.args.self.now.trace.nodes) (stamps_in c.insert_write-added.new.self.nodes)
    (c.reserve-2.ensures.follows (stamps_in c.args.self.now.trace.nodes) c.requires.kept.step.stale) (rw c.reserve.ensures.nodes at c.insert_write-added.ensures.inserted.others.stamps)

pub returns-clause-bases : goal.returns-clause-bases
returns-clause-bases c = λ p. rw c.wake_in.ensures.mods
    (bases-same c.args.self.now.mods c.add_write.new.self c.args.place
    (with_write (stamps_in c.insert_write-added.new.self.nodes) c.insert_write-added.result.0 c.args.value (cell_of c.args.self.now.mods c.args.place))
    (rw c.order.ensures at c.in_ok-at.ensures.ok) refl p)

-- the read that this affects is queued, and it is after the write
pub returns-clause-behind : goal.returns-clause-behind
returns-clause-behind c = λ late r i. rw c.wake_in.ensures.trace
    (by-queue r c.args.self.now.stale.stamps
    (λ j. behind-put c.args.after.0 c.insert_write-added.result.0 (Write c.args.place c.args.value) c.args.self.now.trace.nodes c.insert_write-added.new.self.nodes
    (rw c.reserve.ensures.nodes at c.insert_write-added.ensures.inserted) c.requires.here r (read-has r c.args.self.now.trace.nodes (c.requires.kept.step.queued r j)) (late r j))
    (λ j. c.wake_in.ensures.ahead r (rw c.reserve-2.ensures.stamps j) i))

-- the write has its stamp in the list of its place, and the read that it affects is queued
pub returns-clause-kept : goal.returns-clause-kept
returns-clause-kept c =
    let s : ℕ = c.insert_write-added.result.0 in
    let more = rw c.reserve.ensures.nodes at c.insert_write-added.ensures.inserted in
    as-tables c.wake_in.new.self c.insert_write-added.new.self c.add_write.new.self c.args.self.now.memo c.wake_in.ensures.trace c.wake_in.ensures.mods c.wake_in.ensures.memo
    (write-kept c.args.self.now c.requires.kept c.args.after.0 s (Write c.args.place c.args.value) c.insert_write-added.new.self c.requires.here
    (rw c.reserve.ensures.nodes at c.insert_write-added.ensures.nodes) more
    c.insert_write-added.ensures.whole c.insert_write-added.ensures.closed c.args.place c.args.value refl c.add_write.new.self c.wake_in.new.self.stale
    (rw c.order.ensures at c.in_ok-at.ensures.ok)
    (λ t i. c.wake_in.ensures.more t (rw c.reserve-2.ensures.stamps i)) (λ t i. c.wake_in.ensures.only t (rw c.reserve-2.ensures.stamps i)) c.wake_in.ensures.woken
    (rw c.order.ensures at c.add_write.ensures.follows)
    (c.follows_still-3.ensures.inserted s c.args.self.now.memo (stamps_in c.args.self.now.trace.nodes) (stamps_in c.insert_write-added.new.self.nodes) c.requires.kept.step.memo more.others.stamps)
    (rw c.wake_in.ensures.trace at c.wake_in.ensures.stale))

pub returns-clause-looks : goal.returns-clause-looks
returns-clause-looks c =
    let change = rw c.order.ensures at c.in_ok-at.ensures.ok in
    let a = change.looked in
    let b = ap (λ (m : Contents). m.looked) c.wake_in.ensures.mods in
    let d = c.wake_in.ensures.one in
    let e = ap length c.reserve-2.ensures.stamps in omega (arith, a, b, d, e)

pub returns-clause-differed : goal.returns-clause-differed
returns-clause-differed c =
    let change = rw c.order.ensures at c.in_ok-at.ensures.ok in
    ap (λ (m : Contents). m.differed) c.wake_in.ensures.mods ∙ change.differed

pub returns-clause-marks : goal.returns-clause-marks
returns-clause-marks c =
    let change = rw c.order.ensures at c.in_ok-at.ensures.ok in
    ap (λ (m : Contents). m.marked) c.wake_in.ensures.mods ∙ change.marked

pub returns-clause-counts : goal.returns-clause-counts
returns-clause-counts c =
    let change = rw c.order.ensures at c.in_ok-at.ensures.ok in
    let a = change.looked in
    let b = ap (λ (m : Contents). m.looked) c.wake_in.ensures.mods in
    let d = change.differed in
    let e = ap (λ (m : Contents). m.differed) c.wake_in.ensures.mods in
    let f = touched-on c.args.self.now.trace c.reserve.new.self c.insert_write-added.new.self c.reserve.ensures.untouched c.insert_write-added.ensures.touches in
    let g = ap (λ (x : Timeline). x.touched) c.wake_in.ensures.trace in
    record {
      looked = omega (arith, a, b);
      differed = omega (arith, d, e);
      touched = omega (arith, f, g);
      grows = λ few. subst (Grows c.args.self.now.trace) (sym c.wake_in.ensures.trace)
          (grows-put c.insert_write-added.result.0 c.args.self.now.trace c.reserve.new.self c.insert_write-added.new.self c.reserve.ensures.nodes c.reserve.ensures.untouched
          c.in_ok-reserve.ensures.few c.insert_write-added.ensures.touches c.insert_write-added.ensures.inserted.others c.insert_write-added.ensures.spare (omega (arith, few, g)));
      seed = ap (λ (m : Memo). m.seed) c.wake_in.ensures.memo;
    }

pub returns-clause-touched : goal.returns-clause-touched
returns-clause-touched c =
    let t = touched-more c.insert_write-added.result.0 c.args.self.now.trace c.reserve.new.self c.insert_write-added.new.self c.reserve.ensures.nodes c.reserve.ensures.untouched
    c.insert_write-added.ensures.touches c.insert_write-added.ensures.inserted.others in
    let e = ap (λ (x : Timeline). x.touched + length x.nodes) c.wake_in.ensures.trace in omega (arith, t, e)

-- the place has a cell, and no other one comes
pub returns-clause-cells : goal.returns-clause-cells
returns-clause-cells c =
    let change = rw c.order.ensures at c.in_ok-at.ensures.ok in
    ap (λ (m : Contents). places_of m.cells) c.wake_in.ensures.mods ∙ change.places
