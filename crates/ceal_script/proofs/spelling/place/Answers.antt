use Rattle.std.proofs.Common.{◌+◌}
use Rattle.std.proofs.lemmas.List.{take_rest}
use Rattle.std.proofs.lemmas.Result.{err_from_is_err_and}
use Rattle.ceal_script.specs.Spelling.{SpellsPlace}
use Rattle.ceal_script.proofs.PlaceLaws.{passed_on, no_place, no_place_name, no_place_field, place_around}
use Rattle.ceal_script.proofs.spelling.place.Goals as goal

-- without a dot the word is a name, and this is none
pub returns-in_err-name-in-None : goal.returns-in_err-name-in-None
returns-in_err-name-in-None c =
    let p = err_from_is_err_and c.from_residual.result c.from_residual.ensures.1 in
    rw (p.1, p.2) (passed_on _ (SpellsPlace c.args.word.now) _ (no_place c.args.word.now c.in-None.ensures) c.in_err-name-in-None.ensures)

-- what is before the dot is no name
pub returns-in_err-name-in-Some : goal.returns-in_err-name-in-Some
returns-in_err-name-in-Some c =
    let p = err_from_is_err_and c.from_residual-in_err-name-in-Some.result c.from_residual-in_err-name-in-Some.ensures.1 in
    let behind = take_rest c.args.word.now (c.in-Some.at + 1) in
    rw (p.1, p.2) (passed_on _ (SpellsPlace c.args.word.now) _ (no_place_name c.args.word.now c.in-Some.at _ behind c.in-Some.ensures) c.in_err-name-in-Some.ensures)

-- what is after the dot is no field
pub returns-in_err-field-in-Some : goal.returns-in_err-field-in-Some
returns-in_err-field-in-Some c =
    let p = err_from_is_err_and c.from_residual-in_err-field-in-Some.result c.from_residual-in_err-field-in-Some.ensures.1 in
    let behind = take_rest c.args.word.now (c.in-Some.at + 1) in
    rw (p.1, p.2) (passed_on _ (SpellsPlace c.args.word.now) _ (no_place_field c.args.word.now c.in-Some.at _ behind c.in-Some.ensures) c.in_err-field-in-Some.ensures)

pub returns-in_ok-field-in-Some : goal.returns-in_ok-field-in-Some
returns-in_ok-field-in-Some c =
    let behind = take_rest c.args.word.now (c.in-Some.at + 1) in
    place_around c.args.word.now c.in-Some.at _ behind c.in-Some.ensures _ _ c.in_ok-name-in-Some.ensures c.in_ok-field-in-Some.ensures
