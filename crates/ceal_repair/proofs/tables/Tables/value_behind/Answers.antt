use Rattle.std.proofs.Common.{◌∙◌}
use Rattle.ceal_repair.proofs.TableCalls.ContentAfter.{value-last, value-next}
use Rattle.std.proofs.Common.{arith}
use Rattle.std.proofs.Common.{refl}
use Rattle.ceal_repair.proofs.TableCalls.FewLooks.{one-look, grows-still}
use Rattle.ceal_repair.proofs.Lists.ToldWrites.{told-step}
use Rattle.ceal_repair.proofs.tables.Tables.value_behind.Goals as goal

pub last_in-requires-clause-values : goal.last_in-requires-clause-values
last_in-requires-clause-values c = told-step c.args.self.now c.requires.kept.step c.args.place

pub value_in-requires-clause-values : goal.value_in-requires-clause-values
value_in-requires-clause-values c = told-step c.args.self.now c.requires.kept.step c.args.place

pub returns-in-None-clause-value : goal.returns-in-None-clause-value
returns-in-None-clause-value c = c.last_in.ensures ∙ value-last c.args.self.now c.requires.kept.step c.args.place c.args.after.0 c.requires.here (rw c.order.ensures at c.in-None.ensures.last)

pub returns-in-Some-clause-value : goal.returns-in-Some-clause-value
returns-in-Some-clause-value c = (rw c.order-in-Some.ensures at c.value_in.ensures.value)
    ∙ value-next c.args.self.now c.requires.kept.step c.args.place c.args.after.0 c.in-Some.next.0 (rw c.order.ensures at c.in-Some.ensures.next)

pub returns-in-Some-clause-looks : goal.returns-in-Some-clause-looks
returns-in-Some-clause-looks c = let a = one-look c.args.self.now.mods c.value_in.new.self c.value_in.ensures.looked in omega (arith, a)

pub returns-in-None-clause-counts : goal.returns-in-None-clause-counts
returns-in-None-clause-counts c = record { looked = omega arith; differed = omega arith; touched = omega arith; grows = λ few. grows-still _ _ refl; seed = refl }

pub returns-in-Some-clause-counts : goal.returns-in-Some-clause-counts
returns-in-Some-clause-counts c =
    let a = c.value_in.ensures.no_fewer in
    let b = c.value_in.ensures.differed in record { looked = omega (arith, a); differed = omega (arith, b); touched = omega arith; grows = λ few. grows-still _ _ refl; seed = refl }
