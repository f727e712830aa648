use Rattle.ceal_lex.proofs.Readings.{one_list, one_fault, not_both}
use Rattle.ceal_lex.proofs.lex.one_reading.Goals as goal

pub returns : goal.returns
returns c = record { list = one_list; fault = one_fault; not_both = not_both }
