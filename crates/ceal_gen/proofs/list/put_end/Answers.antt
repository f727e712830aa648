use Rattle.std.proofs.Common.{refl, append_assoc}
use Rattle.ceal_gen.specs.ListText.{put_at_end}
use Rattle.ceal_gen.proofs.list.put_end.Goals as goal

pub returns : goal.returns
unfolding put_at_end
returns c = rw (c.in_ok-append_str-2.ensures.ok, c.in_ok-append_number.ensures.ok, c.in_ok-append_str.ensures.ok) (simp append_assoc refl)
