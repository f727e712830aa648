use Rattle.std.proofs.Common.{◌∙◌, ℤ, length, refl, sym, ap, arith}
use Rattle.ceal_embedding.specs.Lists.{sum_from}
use Rattle.ceal_embedding.proofs.Walked.{after, empty, ends, longer, not-none, some-of, same-tail, wraps}
use Rattle.ceal_embedding.proofs.walk.sum_of.Goals as goal

pub returns-then-left-eq0-clause-sure : goal.returns-then-left-eq0-clause-sure
returns-then-left-eq0-clause-sure c = λ numbers list short.
    let rest = c.loop-word.invariant.sure numbers list short in
    let more = after _ _ _ _ c.in-Block.is rest.1 in
    let size = ap length more.same in
    let few = rest.2 in
    let none = c.if-left-eq0.true in
    absurd (omega (arith, size, few, none))

pub returns-in_default-cell-clause-sure : goal.returns-in_default-cell-clause-sure
returns-in_default-cell-clause-sure c = λ numbers list short.
    let rest = c.loop-word.invariant.sure numbers list short in
    let more = after _ _ _ _ c.in-Block.is rest.1 in
    let there = c.cell.ensures.sure (some-of more.has_number) (some-of more.has_tail) in
    absurd (not-none c.cell.result c.in_default-cell.is there)

pub loop-word-preserved : goal.loop-word-preserved
loop-word-preserved c = record {
  sum = λ rest list.
      let found = c.loop-word.invariant.sum _ (longer _ _ _ _ _ _ c.in-Block.is c.in-Some.ensures.number c.in-Some.ensures.tail list) in
      (found.0, found.1, sym (ap (λ (s : ℤ). sum_from s rest) (wraps _ c.in-Some.number c.loop-word.auto.sum)) ∙ found.2);
  sure = λ numbers list short.
      let rest = c.loop-word.invariant.sure numbers list short in
      let more = after _ _ _ _ c.in-Block.is rest.1 in
      let size = ap length more.same in
      let few = rest.2 in
      (more.rest, same-tail _ _ _ _ _ more.has_tail c.in-Some.ensures.tail more.list, omega (arith, size, few));
}

pub returns-in-Null : goal.returns-in-Null
returns-in-Null c = record {
  sum = c.loop-word.invariant.sum _ (empty _ _ c.in-Null.is);
  refused = tt;
  sure = λ numbers list short. refl;
}

pub returns-in_default-word : goal.returns-in_default-word
returns-in_default-word c = record {
  sum = tt;
  refused = refl;
  sure = λ numbers list short.
      let rest = c.loop-word.invariant.sure numbers list short in
      let null = ends _ _ _ c.in_default.not-Block rest.1 in
      absurd (c.in_default-word.not-Null null);
}
