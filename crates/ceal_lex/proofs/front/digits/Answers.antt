use Rattle.std.proofs.Common.{rules}
use Rattle.ceal_lex.proofs.Begins.{number_found, number_too_large}
use Rattle.ceal_lex.proofs.front.digits.Goals as goal

pub returns-in-Some : goal.returns-in-Some
returns-in-Some c =
    number_found c.args.bytes.now c.digits_length-length.result c.requires c.digits_length-length.ensures _ (search rules) c.in-Some.ensures.1

pub returns-in-None : goal.returns-in-None
returns-in-None c =
    number_too_large c.args.bytes.now c.digits_length-length.result c.requires c.digits_length-length.ensures c.in-None.ensures
