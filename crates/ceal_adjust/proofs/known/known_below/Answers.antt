use Rattle.std.proofs.Common.{◌∙◌}
use Rattle.ceal_code.specs.Tables.{plain_in}
use Rattle.ceal_adjust.proofs.Knowing.{below-zero, below-none, below-some}
use Rattle.ceal_adjust.proofs.known.known_below.Goals.{in-Some+in_ok-push, in_default}
use Rattle.ceal_adjust.proofs.known.known_below.Goals as goal

pub loop-number-init : goal.loop-number-init
loop-number-init c = below-zero (plain_in c.args.memory.now) c.new-known.result (c.new-known.ensures.value ∙ c.new.ensures.items)

-- a block of this number is added to the list if it is known
pub loop-number-preserved : goal.loop-number-preserved
loop-number-preserved c = elim c.match-branch-2.branch [
  | in-Some+in_ok-push w ↦ rw (w.known-is, w.in_ok-push.ensures.ok)
      (below-some (plain_in c.args.memory.now) c.loop-number.number c.loop-number.known w.in-Some.block c.loop-number.invariant (rw w.in-Some.is at c.in_ok-block.ensures))
  | in_default w ↦ rw w.known-is
      (below-none (plain_in c.args.memory.now) c.loop-number.number c.loop-number.known c.loop-number.invariant (rw w.in_default.is at c.in_ok-block.ensures))
]
