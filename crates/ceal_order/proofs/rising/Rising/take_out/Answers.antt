use Rattle.ceal_order.proofs.Editing.{numbers-remove}
use Rattle.ceal_order.proofs.rising.Rising.take_out.Goals as goal

pub returns-in-Some : goal.returns-in-Some
returns-in-Some c = rw (c.remove.ensures, numbers-remove, ← c.self.view_is) c.in-Some.ensures.some.1
