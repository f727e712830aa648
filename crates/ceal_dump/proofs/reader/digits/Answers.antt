use Rattle.std.proofs.Common.{ap, sym, ◌∙◌}
use Rattle.ceal_dump.proofs.Steps.{digits-stop, digits-more, digits-end}
use Rattle.ceal_dump.specs.Reading.{number_from}
use Rattle.ceal_dump.proofs.reader.digits.Goals as goal

-- the number ends at the first byte that is no digit
pub returns-then-not-is_digit-clause-number : goal.returns-then-not-is_digit-clause-number
returns-then-not-is_digit-clause-number c =
    ap (λ q. q.0) (sym (digits-stop c.loop-byte.n c.in-Some.byte.now c.in-Some.more.now c.loop-byte.rest.now
    (number_from 0 c.args.bytes.now) c.in-Some.ensures.cases.0
    (sym c.is_digit.ensures.value ∙ c.if-not-is_digit.true) c.loop-byte.invariant))

-- and the rest begins there
pub returns-then-not-is_digit-clause-rest : goal.returns-then-not-is_digit-clause-rest
returns-then-not-is_digit-clause-rest c =
    ap (λ q. q.1) (sym (digits-stop c.loop-byte.n c.in-Some.byte.now c.in-Some.more.now c.loop-byte.rest.now
    (number_from 0 c.args.bytes.now) c.in-Some.ensures.cases.0
    (sym c.is_digit.ensures.value ∙ c.if-not-is_digit.true) c.loop-byte.invariant))

-- with this digit, the number so far and the digits to come give the same number
pub loop-byte-preserved : goal.loop-byte-preserved
loop-byte-preserved c =
    digits-more c.loop-byte.n c.in-Some.byte.now c.with_digit-n.result c.in-Some.more.now c.loop-byte.rest.now
    (number_from 0 c.args.bytes.now) c.in-Some.ensures.cases.0
    (sym c.is_digit.ensures.value ∙ c.if-not-is_digit.false)
    c.with_digit-n.ensures c.loop-byte.invariant

pub returns-clause-number : goal.returns-clause-number
returns-clause-number c = ap (λ q. q.0) (sym (digits-end c.loop-byte.n c.loop-byte.rest.now (number_from 0 c.args.bytes.now) c.in_default.ensures.cases c.loop-byte.invariant))

pub returns-clause-rest : goal.returns-clause-rest
returns-clause-rest c = ap (λ q. q.1) (sym (digits-end c.loop-byte.n c.loop-byte.rest.now (number_from 0 c.args.bytes.now) c.in_default.ensures.cases c.loop-byte.invariant))
