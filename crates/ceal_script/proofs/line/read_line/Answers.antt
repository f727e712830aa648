use Rattle.ceal_script.proofs.CommandLaws.{line_all, line_unreadable}
use Rattle.ceal_script.proofs.line.read_line.Goals as goal

pub returns-clause-all : goal.returns-clause-all
returns-clause-all c = let reads = rw c.as_slice.ensures at c.command.ensures in line_all c.args.line.now _ c.in_ok-words.ensures c.command.result reads

pub returns-clause-unreadable : goal.returns-clause-unreadable
returns-clause-unreadable c = let reads = rw c.as_slice.ensures at c.command.ensures in line_unreadable c.args.line.now _ c.in_ok-words.ensures c.command.result reads
