use Rattle.std.proofs.Common.{◌≡◌, true, false, sym, ◌∙◌, arith}
use Rattle.ceal_order.specs.Stamps.{is_in}
use Rattle.ceal_repair.proofs.TableCalls.CutKeepsTables.{unqueued-honest}
use Rattle.ceal_repair.proofs.Lists.PartedLists.{false-of}
use Rattle.ceal_repair.proofs.laws.unqueued_reads_are_honest.Goals as goal

pub returns-clause-behind : goal.returns-clause-behind
returns-clause-behind c = λ t k s behind r le.
    unqueued-honest t k r (false-of (is_in r t.stale.stamps) (λ i. absurd (omega (arith, behind r i, le)))) (λ z i. omega (arith, behind z i, le))

pub returns-clause-from : goal.returns-clause-from
returns-clause-from c = λ t k s from r lt.
    unqueued-honest t k r (false-of (is_in r t.stale.stamps) (λ i. absurd (omega (arith, from r i, lt)))) (λ z i. omega (arith, from z i, lt))

pub returns-clause-none : goal.returns-clause-none
returns-clause-none c = λ t k none r.
    unqueued-honest t k r (none r) (λ z i. absurd (let no : true ≡ false = sym i ∙ none z in cc))
