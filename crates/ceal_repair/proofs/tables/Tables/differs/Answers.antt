use Rattle.std.proofs.Common.{arith}
use Rattle.ceal_repair.proofs.QueueCover.NodeChanges.{read-has}
use Rattle.ceal_repair.proofs.TableCalls.CutKeepsTables.{honest-read, stale-read}
use Rattle.std.proofs.Common.{arith}
use Rattle.std.proofs.Common.{refl}
use Rattle.ceal_repair.proofs.TableCalls.FewLooks.{one-look, grows-still}
use Rattle.ceal_repair.proofs.Lists.ToldWrites.{told-step}
use Rattle.ceal_repair.proofs.tables.Tables.differs.Goals as goal

pub value_at-now-requires-clause-values : goal.value_at-now-requires-clause-values
value_at-now-requires-clause-values c = told-step c.args.self.now c.requires.kept.step c.recorded-value.result.0

pub value_at-now-requires-clause-here : goal.value_at-now-requires-clause-here
value_at-now-requires-clause-here c = rw c.order.ensures (read-has c.args.read.0 c.args.self.now.trace.nodes c.requires.here)

pub returns-clause-stale : goal.returns-clause-stale
returns-clause-stale c = λ told.
    stale-read c.args.self.now c.requires.kept.step c.args.read.0 c.recorded-value.result.0 c.recorded-value.result.1 c.value_at-now.result c.recorded-value.ensures
    (rw c.order.ensures at c.value_at-now.ensures.value) (c.is_same.ensures.differ (grind (arith, told)))

pub returns-clause-honest : goal.returns-clause-honest
returns-clause-honest c = λ told.
    honest-read c.args.self.now c.requires.kept.step c.args.read.0 c.recorded-value.result.0 c.recorded-value.result.1 c.value_at-now.result c.recorded-value.ensures
    (rw c.order.ensures at c.value_at-now.ensures.value) (c.is_same.ensures.same (grind (arith, told)))

pub returns-clause-looks : goal.returns-clause-looks
returns-clause-looks c = let a = one-look c.args.self.now.mods c.value_at-now.new.self c.value_at-now.ensures.looked in omega (arith, a)

pub returns-clause-counts : goal.returns-clause-counts
returns-clause-counts c =
    let a = c.value_at-now.ensures.no_fewer in
    let b = c.value_at-now.ensures.differed in record { looked = omega (arith, a); differed = omega (arith, b); touched = omega arith; grows = λ few. grows-still _ _ refl; seed = refl }
