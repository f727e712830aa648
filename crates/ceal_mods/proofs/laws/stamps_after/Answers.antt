use Rattle.ceal_mods.proofs.StampLemmas.{stamps-insert, stamps-without, written-insert, written-without}
use Rattle.ceal_mods.proofs.laws.stamps_after.Goals as goal

pub returns-clause-write_in : goal.returns-clause-write_in
returns-clause-write_in c = λ order s t value cell. rw (stamps-insert cell.writes) (c.rising_members.ensures.put t s _ _)

pub returns-clause-write_out : goal.returns-clause-write_out
returns-clause-write_out c = λ order s t cell rises. rw (stamps-without s cell.writes) (c.rising_members.ensures.taken order t s _ rises.writes)

pub returns-clause-value_in : goal.returns-clause-value_in
returns-clause-value_in c = λ order s t value cell absent. written-insert t _ _ cell.writes absent

pub returns-clause-value_out : goal.returns-clause-value_out
returns-clause-value_out c = λ order s t cell rises. written-without t s cell.writes (λ u. c.rising_members.ensures.taken order u s _ rises.writes)

pub returns-clause-read_in : goal.returns-clause-read_in
returns-clause-read_in c = λ order s t cell. c.rising_members.ensures.put t s _ _

pub returns-clause-read_out : goal.returns-clause-read_out
returns-clause-read_out c = λ order s t cell rises. c.rising_members.ensures.taken order t s _ rises.reads
