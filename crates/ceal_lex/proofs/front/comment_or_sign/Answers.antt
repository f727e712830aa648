use Rattle.std.proofs.Common.{rules}
use Rattle.ceal_lex.proofs.Begins.{line_at, block_at}
use Rattle.ceal_lex.proofs.front.comment_or_sign.Goals as goal

pub returns-in-47 : goal.returns-in-47
returns-in-47 c = line_at c.args.bytes.now c.in-47.len_at_least (search rules) c.line_length.result (search rules) c.line_length.ensures.first

pub returns-in-Some : goal.returns-in-Some
returns-in-Some c = block_at c.args.bytes.now c.in-47-2.len_at_least (search rules) c.in-Some.inside (search rules) c.in-Some.ensures
