use Rattle.std.proofs.Common.{◌≡◌, ◌≤◌, ◌+◌, ◌-◌, length, take}
use Rattle.std.specs.Prelude.{vec_len, vec_capacity}
use Rattle.ceal_code.specs.Init.{arguments}
use Rattle.ceal_code.specs.Value.{values}
use Rattle.ceal_code.proofs.evaluate.Scope.evaluate.Given as goal

abbrev pub invariant-loop-e : goal.invariant-loop-e
invariant-loop-e g l = record {
  values : l.words.items ≡ values l.self.structs.now (g.P.PlainWords.plain l.self.plain.now) (arguments l.self.env.now) (take l.e-index l.es);
  room : vec_len l.words + (length l.es - l.e-index) ≤ vec_capacity l.words;
}
