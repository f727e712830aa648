use Rattle.std.proofs.Common.{sym}
use Rattle.ceal_lex.specs.Characters.{is_space}
use Rattle.ceal_lex.proofs.Begins.{begins_with, blank_space}
use Rattle.ceal_lex.proofs.front.read_front.Goals as goal

pub returns-then-is_space-clause-front : goal.returns-then-is_space-clause-front
returns-then-is_space-clause-front c = blank_space c.args.bytes.now (begins_with is_space c.args.bytes.now c.requires (sym c.if-is_space.ensures))
