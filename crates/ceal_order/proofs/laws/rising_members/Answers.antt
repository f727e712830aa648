use Rattle.ceal_order.proofs.Members.{in_insert, in_without, same_members}
use Rattle.ceal_order.proofs.laws.rising_members.Goals as goal

pub returns-clause-put : goal.returns-clause-put
returns-clause-put c = λ t s at stamps. in_insert t s at stamps

pub returns-clause-taken : goal.returns-clause-taken
returns-clause-taken c = λ order t s stamps rising. in_without order t s stamps rising

pub returns-clause-same : goal.returns-clause-same
returns-clause-same c = λ order xs ys rx ry same. same_members order xs ys rx ry same
