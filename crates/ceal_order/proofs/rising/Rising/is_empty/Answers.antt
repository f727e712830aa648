use Rattle.ceal_order.proofs.Editing.{empty_tells}
use Rattle.ceal_order.proofs.rising.Rising.is_empty.Goals as goal

pub returns : goal.returns
returns c = rw (c.len.ensures, ← c.self.view_is) (empty_tells c.self.inside.stamps)
