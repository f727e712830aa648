use Rattle.std.proofs.Common.{◌≡◌, reverse, vec_len}
use Rattle.ceal_mean.specs.Exec.{frames_to_run}
use Rattle.ceal_mean.proofs.run.next_of.Given as goal

abbrev pub invariant-loop-frame : goal.invariant-loop-frame
invariant-loop-frame l = frames_to_run (reverse l.frames.items) ≡ frames_to_run (reverse l.initial.frames.items)

abbrev pub decreases-loop-frame : goal.decreases-loop-frame
decreases-loop-frame l = vec_len l.frames
