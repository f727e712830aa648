use Rattle.std.proofs.Common.{◌≡◌, ◌≤◌, ◌-◌, length, reverse}
use Rattle.ceal_mean.specs.Fresh.{run, fresh}
use Rattle.ceal_mean.proofs.run.interpret.Given as goal

abbrev pub invariant-loop-steps : goal.invariant-loop-steps
invariant-loop-steps l = record {
  few : length l.memory.made ≤ l.steps;
  same : run l.program (l.fuel - l.steps) l.steps (record { memory = l.memory; frames = reverse l.frames.items })
      ≡ fresh l.program l.function l.args l.inputs l.fuel;
}
