use Rattle.ceal_lex.proofs.Begins.{sign_found, nothing_found}
use Rattle.ceal_lex.proofs.front.sign.Goals as goal

pub returns-in-Some : goal.returns-in-Some
returns-in-Some c = sign_found c.args.bytes.now c.in-Some.sign c.in-Some.length c.requires.other c.requires.no_comment c.in-Some.ensures.longest

pub returns-in-None : goal.returns-in-None
returns-in-None c = nothing_found c.args.bytes.now c.requires.other c.in-None.ensures.none
