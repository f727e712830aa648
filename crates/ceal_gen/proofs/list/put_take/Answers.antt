use Rattle.std.proofs.Common.{refl, append_assoc}
use Rattle.ceal_gen.specs.ListText.{take_front}
use Rattle.ceal_gen.proofs.list.put_take.Goals as goal

pub returns : goal.returns
unfolding take_front
returns c = rw (c.in_ok-append_str-2.ensures.ok, c.in_ok-put_cell_name.ensures, c.in_ok-append_str.ensures.ok) (simp append_assoc refl)
