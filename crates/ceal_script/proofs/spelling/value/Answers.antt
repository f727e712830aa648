use Rattle.std.proofs.Common.{◌∙◌, sym}
use Rattle.std.proofs.lemmas.Result.{err_from_is_err_and}
use Rattle.ceal_script.specs.Spelling.{SpellsPlace, SpellsValue}
use Rattle.ceal_script.proofs.PlaceLaws.{passed_on, not_value}
use Rattle.ceal_script.proofs.spelling.value.Goals as goal

-- the word is neither null nor a number, and no place
pub returns-in_err-place-in-None : goal.returns-in_err-place-in-None
returns-in_err-place-in-None c =
    let p = err_from_is_err_and c.from_residual.result c.from_residual.ensures.1 in
    rw (p.1, p.2)
    (passed_on (SpellsPlace c.args.word.now) (SpellsValue c.args.word.now) _ (not_value c.args.word.now (sym c.is.ensures ∙ c.if-is.false) c.in-None.ensures) c.in_err-place-in-None.ensures)
