use Rattle.std.proofs.Common.{◌∙◌, sym, ap}
use Rattle.std.proofs.lemmas.List.{append-nil}
use Rattle.ceal_gen.specs.Draws.{next_state}
use Rattle.ceal_gen.proofs.Steps.{state-none, state-more, cells-none, cells-next}
use Rattle.ceal_gen.proofs.list.put_cells.Goals as goal

pub loop-before-init : goal.loop-before-init
loop-before-init c = record {
  state = sym (state-none c.args.draws.now);
  lines = rw (cells-none c.args.draws.now) (sym (append-nil c.args.out.now));
}

-- one number is drawn for this cell, whose line follows those of the cells before it
pub loop-before-preserved : goal.loop-before-preserved
loop-before-preserved c =
    let state = c.draw_head-head.ensures.state ∙ ap next_state c.loop-before.invariant.state ∙ sym (state-more c.args.draws.now c.loop-before.before) in
    let added = rw c.from.ensures at c.in_ok-put_cell.ensures in
    record {
      state = state;
      lines = cells-next c.args.draws.now c.loop-before.before _ _ c.args.out.now c.loop-before.out _ state c.draw_head-head.ensures.value c.loop-before.invariant.lines added;
    }
