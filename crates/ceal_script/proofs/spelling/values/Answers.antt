use Rattle.std.proofs.lemmas.Result.{err_from_is_err_and}
use Rattle.ceal_script.specs.Spelling.{SpellsValue}
use Rattle.ceal_script.specs.Words.{texts}
use Rattle.ceal_script.proofs.PlaceLaws.{passed_on}
use Rattle.ceal_script.proofs.ValuesLaws.{values_more, no_values}
use Rattle.std.specs.List.{AllZip}
use Rattle.ceal_script.proofs.spelling.values.Goals as goal

-- one word that is no value is enough
pub returns-in_err-value : goal.returns-in_err-value
returns-in_err-value c =
    let p = err_from_is_err_and c.from_residual.result c.from_residual.ensures.1 in
    rw (p.1, p.2)
    (passed_on _ (AllZip SpellsValue (texts c.args.words.now)) _ (no_values c.args.words.now c.loop-word.word-index _ c.loop-word-test.true) c.in_err-value.ensures)

pub loop-word-preserved : goal.loop-word-preserved
loop-word-preserved c =
    values_more c.args.words.now c.loop-word.word-index _ _ _ c.in_ok-value.value c.loop-word-test.true c.loop-word.invariant c.in_ok-value.ensures c.in_ok-push.ensures.ok
