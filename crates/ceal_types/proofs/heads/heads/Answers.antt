use Rattle.std.proofs.Common.{◌<◌, ◌≤◌, length, arith}
use Rattle.std.proofs.lemmas.Result.{err_from_is_err_and}
use Rattle.ceal_types.specs.Heads.{with_entry, heads}
use Rattle.ceal_types.proofs.Walks.WalkFromItem.{turn-passed, turn-failed, turn-over}
use Rattle.ceal_types.proofs.heads.heads.Goals as goal

-- this head has the first fault of all heads
pub returns-in_err-add_entry : goal.returns-in_err-add_entry
unfolding heads
returns-in_err-add_entry c =
    let entries = c.args.entries.now in
    let within : c.loop-entry.entry-index < length c.args.entries.now = omega arith in
    let result = c.from_residual-in_err-add_entry in
    let p = err_from_is_err_and result.result result.ensures.1 in
    record { value = rw (p.1, p.2) (turn-failed with_entry entries _ c.entry-item.result _ _ _ c.entry-item.is within c.loop-entry.invariant c.in_err-add_entry.ensures) }

pub loop-entry-preserved : goal.loop-entry-preserved
loop-entry-preserved c =
    let entries = c.args.entries.now in
    let within : c.loop-entry.entry-index < length c.args.entries.now = omega arith in
    turn-passed with_entry entries _ c.entry-item.result _ _ _ c.entry-item.is within c.loop-entry.invariant c.in_ok-add_entry.ensures

pub returns : goal.returns
unfolding heads
returns c =
    let over : length c.args.entries.now ≤ c.loop-entry.entry-index = omega arith in
    record { value = turn-over with_entry c.args.entries.now _ _ _ over c.loop-entry.invariant }
