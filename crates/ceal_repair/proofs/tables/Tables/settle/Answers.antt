use Rattle.std.proofs.Common.{ap, ◌∙◌}
use Rattle.ceal_trace.specs.Nodes.{Timeline, stamps_in, with_value}
use Rattle.ceal_mods.specs.Mods.{Contents}
use Rattle.ceal_repair.proofs.QueueCover.NodeChanges.{read-has, cell-same}
use Rattle.ceal_repair.proofs.TableCalls.CutKeepsTables.{by-queue, behind-own, follows-same, honest-read, stale-read, now-is, honest-kept, settled-kept}
use Rattle.std.proofs.Common.{arith, length, ◌+◌}
use Rattle.std.proofs.Common.{refl, subst}
use Rattle.ceal_memo.specs.Memo.{Contents as Memo}
use Rattle.ceal_repair.specs.Looks.{Grows}
use Rattle.ceal_repair.proofs.TableCalls.FewLooks.{one-look, touched-same, grows-still, grows-but}
use Rattle.ceal_repair.proofs.Lists.ToldWrites.{told-step}
use Rattle.ceal_repair.proofs.tables.Tables.settle.Goals as goal

pub value_in-now-requires-clause-values : goal.value_in-now-requires-clause-values
value_in-now-requires-clause-values c = told-step c.args.self.now c.requires.step c.recorded-value.result.0

pub value_in-now-requires-clause-here : goal.value_in-now-requires-clause-here
value_in-now-requires-clause-here c = rw c.order.ensures (read-has c.args.popped.0 c.args.self.now.trace.nodes c.requires.here)

pub returns-then-is_same-clause-honest : goal.returns-then-is_same-clause-honest
returns-then-is_same-clause-honest c = λ told.
    honest-read c.args.self.now c.requires.step c.args.popped.0 c.recorded-value.result.0 c.recorded-value.result.1 c.value_in-now.result c.recorded-value.ensures
    (rw c.order.ensures at c.value_in-now.ensures.value) (c.is_same.ensures.same c.if-is_same.true)

pub returns-then-is_same-clause-behind : goal.returns-then-is_same-clause-behind
returns-then-is_same-clause-behind c = λ r i.
    behind-own (stamps_in c.args.self.now.trace.nodes) c.args.self.now.stale.stamps c.args.popped.0 c.requires.step.stale
    (read-has c.args.popped.0 c.args.self.now.trace.nodes c.requires.here) c.requires.out c.requires.first r i

pub returns-then-is_same-clause-kept : goal.returns-then-is_same-clause-kept
returns-then-is_same-clause-kept c =
    honest-kept c.args.self.now c.requires.step c.args.popped.0 c.recorded-value.result.0 c.recorded-value.result.1 c.value_in-now.result c.recorded-value.ensures
    (rw c.order.ensures at c.value_in-now.ensures.value) c.requires.chained c.requires.first c.value_in-now.new.self c.value_in-now.ensures.cells (c.is_same.ensures.same c.if-is_same.true)

pub wake_in-requires-clause-here : goal.wake_in-requires-clause-here
wake_in-requires-clause-here c = read-has c.args.popped.0 c.args.self.now.trace.nodes c.requires.here

pub wake_in-requires-clause-slot : goal.wake_in-requires-clause-slot
wake_in-requires-clause-slot c = rw (c.count_differed.ensures.cells ∙ c.value_in-now.ensures.cells) c.slot-at.ensures

pub wake_in-requires-clause-mods : goal.wake_in-requires-clause-mods
wake_in-requires-clause-mods c =
    follows-same (stamps_in c.args.self.now.trace.nodes) c.args.self.now.mods c.count_differed.new.self (c.count_differed.ensures.cells ∙ c.value_in-now.ensures.cells) c.requires.step.mods

pub returns-clause-stale : goal.returns-clause-stale
returns-clause-stale c = λ told.
    stale-read c.args.self.now c.requires.step c.args.popped.0 c.recorded-value.result.0 c.recorded-value.result.1 c.value_in-now.result c.recorded-value.ensures
    (rw c.order.ensures at c.value_in-now.ensures.value) (c.is_same.ensures.differ c.if-is_same.false)

-- the read gets the value of its moment
pub returns-clause-nodes : goal.returns-clause-nodes
returns-clause-nodes c = λ told. (
  c.recorded-value.result.0,
  c.recorded-value.result.1,
  c.recorded-value.ensures,
  (rw c.wake_in.ensures.trace at c.set_value.ensures.nodes) ∙ ap (λ w. with_value c.args.popped.0 w c.args.self.now.trace.nodes)
      (now-is c.args.self.now c.requires.step c.args.popped.0 c.recorded-value.result.0 c.recorded-value.result.1 c.value_in-now.result c.recorded-value.ensures
      (rw c.order.ensures at c.value_in-now.ensures.value)),
)

pub returns-clause-cells : goal.returns-clause-cells
returns-clause-cells c = ap (λ (m : Contents). m.cells) c.wake_in.ensures.mods ∙ (c.count_differed.ensures.cells ∙ c.value_in-now.ensures.cells)

pub returns-clause-behind : goal.returns-clause-behind
returns-clause-behind c = λ r i. rw (c.set_value.ensures.others.stamps, c.wake_in.ensures.trace)
    (by-queue r c.args.self.now.stale.stamps
    (λ j. behind-own (stamps_in c.args.self.now.trace.nodes) c.args.self.now.stale.stamps c.args.popped.0 c.requires.step.stale
    (read-has c.args.popped.0 c.args.self.now.trace.nodes c.requires.here) c.requires.out c.requires.first r j)
    (λ j. c.wake_in.ensures.ahead r j i))

-- the read has another value, and the next one of its place is queued
pub returns-clause-kept : goal.returns-clause-kept
returns-clause-kept c =
    let cell = cell-same c.recorded-value.result.0 c.count_differed.new.self c.args.self.now.mods (c.count_differed.ensures.cells ∙ c.value_in-now.ensures.cells) in
    rw (c.wake_in.ensures.mods, c.wake_in.ensures.memo)
    (settled-kept c.args.self.now c.requires.step c.args.popped.0 c.recorded-value.result.0 c.recorded-value.result.1 c.value_in-now.result c.recorded-value.ensures
    (rw c.order.ensures at c.value_in-now.ensures.value) c.requires.chained c.requires.first c.count_differed.new.self
    (c.count_differed.ensures.cells ∙ c.value_in-now.ensures.cells) c.wake_in.new.self.stale
    c.wake_in.ensures.more (rw cell at c.wake_in.ensures.only) (rw cell at c.wake_in.ensures.woken) (rw c.wake_in.ensures.trace at c.wake_in.ensures.stale) c.set_value.new.self
    (rw c.wake_in.ensures.trace at c.set_value.ensures.nodes)
    (rw c.wake_in.ensures.trace at c.set_value.ensures.changed) (rw c.wake_in.ensures.trace at c.set_value.ensures.others) c.set_value.ensures.whole
    (c.set_value.ensures.closed (rw c.wake_in.ensures.trace c.requires.step.closed)))

pub returns-then-is_same-clause-looks : goal.returns-then-is_same-clause-looks
returns-then-is_same-clause-looks c = let a = one-look c.args.self.now.mods c.value_in-now.new.self c.value_in-now.ensures.looked in omega (arith, a)

pub returns-then-is_same-clause-idle : goal.returns-then-is_same-clause-idle
returns-then-is_same-clause-idle c = λ told. let a = one-look c.args.self.now.mods c.value_in-now.new.self c.value_in-now.ensures.looked in omega (arith, a)

pub returns-clause-looks : goal.returns-clause-looks
returns-clause-looks c =
    let a = one-look c.args.self.now.mods c.value_in-now.new.self c.value_in-now.ensures.looked in
    let b = ap (λ (m : Contents). m.looked) c.wake_in.ensures.mods in
    let e = c.count_differed.ensures.looked in
    let d = c.wake_in.ensures.one in omega (arith, a, b, d, e)

pub returns-then-is_same-clause-none_differs : goal.returns-then-is_same-clause-none_differs
returns-then-is_same-clause-none_differs c = λ told. c.value_in-now.ensures.differed

pub returns-clause-differs : goal.returns-clause-differs
returns-clause-differs c = λ told. rw (ap (λ (m : Contents). m.differed) c.wake_in.ensures.mods, ← c.value_in-now.ensures.differed) c.count_differed.ensures.differed

pub returns-then-is_same-clause-marks : goal.returns-then-is_same-clause-marks
returns-then-is_same-clause-marks c = c.value_in-now.ensures.marked

pub returns-clause-marks : goal.returns-clause-marks
returns-clause-marks c = ap (λ (m : Contents). m.marked) c.wake_in.ensures.mods ∙ (c.count_differed.ensures.marked ∙ c.value_in-now.ensures.marked)

pub returns-then-is_same-clause-counts : goal.returns-then-is_same-clause-counts
returns-then-is_same-clause-counts c =
    let a = c.value_in-now.ensures.no_fewer in
    let b = c.value_in-now.ensures.differed in record { looked = omega (arith, a); differed = omega (arith, b); touched = omega arith; grows = λ few. grows-still _ _ refl; seed = refl }

pub returns-clause-counts : goal.returns-clause-counts
returns-clause-counts c =
    let a = c.value_in-now.ensures.no_fewer in
    let b = c.count_differed.ensures.looked in
    let d = ap (λ (m : Contents). m.looked) c.wake_in.ensures.mods in
    let e = c.value_in-now.ensures.differed in
    let f = c.count_differed.ensures.no_fewer in
    let g = ap (λ (m : Contents). m.differed) c.wake_in.ensures.mods in
    let h = c.set_value.ensures.touches.no_fewer in
    let i = ap (λ (x : Timeline). x.touched) c.wake_in.ensures.trace in
    record {
      looked = omega (arith, a, b, d);
      differed = omega (arith, e, f, g);
      touched = omega (arith, h, i);
      grows = λ few. subst (λ (x : Timeline). Grows x c.set_value.new.self) c.wake_in.ensures.trace
          (grows-but c.args.popped.0 c.wake_in.new.self.trace c.set_value.new.self c.set_value.ensures.touches c.set_value.ensures.others c.set_value.ensures.spare);
      seed = ap (λ (m : Memo). m.seed) c.wake_in.ensures.memo;
    }

pub returns-then-is_same-clause-touched : goal.returns-then-is_same-clause-touched
returns-then-is_same-clause-touched c = omega arith

pub returns-clause-touched : goal.returns-clause-touched
returns-clause-touched c =
    let t = touched-same c.args.popped.0 c.wake_in.new.self.trace c.set_value.new.self c.set_value.ensures.touches c.set_value.ensures.others in
    let e = ap (λ (x : Timeline). x.touched + length x.nodes) c.wake_in.ensures.trace in omega (arith, t, e)
