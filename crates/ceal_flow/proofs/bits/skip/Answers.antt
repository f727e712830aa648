use Rattle.std.proofs.Common.{◌≡◌, ◌+◌, suc, get_or, subst, arith}
use Rattle.std.proofs.lemmas.Option.{slice_get-get_or}
use Rattle.ceal_flow.specs.Bits.{AreBefore}
use Rattle.ceal_flow.proofs.ChunkFacts.{before-more, none-at-end}
use Rattle.ceal_flow.proofs.bits.skip.Goals as goal

pub loop-i-preserved : goal.loop-i-preserved
loop-i-preserved c =
    let cs = c.args.chunks.now in
    let i = c.loop-i.i in
    let one : suc i ≡ i + 1 = omega arith in
    let there = slice_get-get_or cs i (record { at = 0; bits = 0 }) (omega (arith, c.loop-i-test.true)) in
    subst (λ n. AreBefore cs n c.args.at) one
    (before-more cs i c.args.at (get_or cs i (record { at = 0; bits = 0 })) c.loop-i.invariant there (omega (arith, c.if-chunks-i.false)))

pub returns-clause-place : goal.returns-clause-place
returns-clause-place c = λ d e. absurd (none-at-end c.args.chunks.now d e)
