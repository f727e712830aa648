-- What a stack yields, by what its next step is.
use Rattle.ceal_base.specs.Trace.{Trace}
use Rattle.ceal_code.specs.Program.{Code}
use Rattle.ceal_code.specs.Replay.{Yields}
use Rattle.ceal_code.specs.Step.{Stack, next}
use Rattle.ceal_code.specs.Value.{Plain}
use Rattle.ceal_theory.specs.Known.{Told}

pub yields-told : (code : Code) (x : Plain) {st : Stack} {l : Trace} → Yields code x st l → Told code x (next code x st) l
yields-told code x (Yields.over e) = rw e Told.over
yields-told code x (Yields.quiet e r) = rw e (Told.quiet (yields-told code x r))
yields-told code x (Yields.makes e h r) = rw e (Told.makes h (yields-told code x r))
yields-told code x (Yields.writes e r) = rw e (Told.writes (yields-told code x r))
yields-told code x (Yields.reads e r1 r2) = rw e (Told.reads (yields-told code x r1) (yields-told code x r2))
