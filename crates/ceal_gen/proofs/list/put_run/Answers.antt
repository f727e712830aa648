use Rattle.std.proofs.Common.{refl, append_assoc}
use Rattle.ceal_gen.specs.ListText.{list_run}
use Rattle.ceal_gen.proofs.list.put_run.Goals as goal

pub returns : goal.returns
unfolding list_run
returns c = rw (c.in_ok-append_str-2.ensures.ok, c.in_ok-put_cell_name.ensures, c.in_ok-append_str.ensures.ok) (simp append_assoc refl)
