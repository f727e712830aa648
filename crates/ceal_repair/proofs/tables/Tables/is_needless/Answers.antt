use Rattle.std.proofs.Common.{Some, sym, ap, ◌∙◌}
use Rattle.ceal_code.proofs.Words.SameIsEqual.{some-same}
use Rattle.ceal_trace.specs.declared.node.Node.TheVariants.{Write}
use Rattle.ceal_repair.proofs.QueueCover.NodeChanges.{node-has}
use Rattle.ceal_repair.proofs.TableCalls.CutKeepsTables.{same-write, held-at}
use Rattle.std.proofs.Common.{arith}
use Rattle.std.proofs.Common.{refl}
use Rattle.ceal_repair.proofs.TableCalls.FewLooks.{one-look, grows-still}
use Rattle.ceal_repair.proofs.Lists.ToldWrites.{told-step}
use Rattle.ceal_repair.proofs.tables.Tables.is_needless.Goals as goal

pub value_at-held-requires-clause-values : goal.value_at-held-requires-clause-values
value_at-held-requires-clause-values c = told-step c.args.self.now c.requires.kept.step c.args.place

pub value_at-held-requires-clause-here : goal.value_at-held-requires-clause-here
value_at-held-requires-clause-here c = rw c.order.ensures (node-has c.args.write.0 (Write c.args.place c.requires.here.0) c.args.self.now.trace.nodes c.requires.here.1)

-- the place holds without the write what the write wrote
pub returns-clause-same : goal.returns-clause-same
returns-clause-same c = λ told.
    let is = same-write c.args.place c.written_at-value.ensures.value.0 c.requires.here.0 c.written_at-value.result
    (some-same (Write c.args.place c.requires.here.0) (Write c.written_at-value.ensures.value.0 c.written_at-value.result) (sym c.requires.here.1 ∙ c.written_at-value.ensures.value.1)) in
    let held =
    held-at c.args.self.now c.requires.kept.step c.args.write.0 c.args.place c.requires.here.0 c.value_at-held.result c.requires.here.1 (rw c.order.ensures at c.value_at-held.ensures.value) in
    c.requires.here.1 ∙ ap (λ v. Some (Write c.args.place v)) (is.1 ∙ (c.is_same.ensures.same told ∙ held))

pub returns-clause-looks : goal.returns-clause-looks
returns-clause-looks c = let a = one-look c.args.self.now.mods c.value_at-held.new.self c.value_at-held.ensures.looked in omega (arith, a)

pub returns-clause-counts : goal.returns-clause-counts
returns-clause-counts c =
    let a = c.value_at-held.ensures.no_fewer in
    let b = c.value_at-held.ensures.differed in record { looked = omega (arith, a); differed = omega (arith, b); touched = omega arith; grows = λ few. grows-still _ _ refl; seed = refl }
