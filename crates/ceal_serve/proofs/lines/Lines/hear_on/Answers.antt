use Rattle.std.proofs.Common.{◌∙◌, rules, arith, ap, subst, sym, drop}
use Rattle.std.proofs.lemmas.List.{take_rest}
use Rattle.ceal_serve.specs.Turns.{IsOneLine}
use Rattle.ceal_serve.proofs.FirstLine.{one-line-take}
use Rattle.ceal_serve.proofs.HeardLines.{later-line, later-one, none-case, some-case, told-line}
use Rattle.ceal_serve.proofs.Hearing.{hears-more, hears-to-end, lost-after, turn-after}
use Rattle.ceal_serve.proofs.lines.Lines.hear_on.Goals as goal

pub hear-requires-clause-turn : goal.hear-requires-clause-turn
hear-requires-clause-turn g c = turn-after _ _ _ _ c.requires.caught_up c.loop-self.invariant.so_far c.loop-self.invariant.one

pub returns-in_err-before-clause-lost : goal.returns-in_err-before-clause-lost
returns-in_err-before-clause-lost g c = lost-after _ _ _ _ _ _ c.loop-self.invariant.so_far c.in_err-before.ensures.lost

pub returns-in_default-clause-heard : goal.returns-in_default-clause-heard
returns-in_default-clause-heard g c =
    let e = none-case _ _ _ c.in_default.is c.in_ok-before.ensures.heard in (
      hears-to-end _ _ _ _ _ _ c.loop-self.invariant.so_far e.0,
      subst IsOneLine (sym e.1) c.loop-self.invariant.one,
      rw e.1 (search rules),
    )

pub returns-in-Some-line_end-clause-heard : goal.returns-in-Some-line_end-clause-heard
returns-in-Some-line_end-clause-heard g c =
    let e = some-case _ _ _ _ c.in-Some.is c.in_ok-before.ensures.heard in
    (told-line _ _ _ _ _ (hears-more _ _ _ _ _ _ c.loop-self.invariant.so_far e.0) 0 0 0 0 (omega arith) (omega arith) _
    (later-line _ _ _ _ _ _ _ e.0 e.1 c.loop-self.invariant.one
    (take_rest c.rest-in-loop-self.result.now c.in-Some.before ∙ ap
    (drop c.in-Some.before) c.rest-in-loop-self.ensures.rest) c.in-Some-line_end.ensures) _
    (c.within.ensures.found, c.within.ensures.too_long)).heard

pub returns-in-Some-line_end-clause-long : goal.returns-in-Some-line_end-clause-long
returns-in-Some-line_end-clause-long g c =
    let e = some-case _ _ _ _ c.in-Some.is c.in_ok-before.ensures.heard in
    (told-line _ _ _ _ _ (hears-more _ _ _ _ _ _ c.loop-self.invariant.so_far e.0) 0 0 0 0 (omega arith) (omega arith) _
    (later-line _ _ _ _ _ _ _ e.0 e.1 c.loop-self.invariant.one
    (take_rest c.rest-in-loop-self.result.now c.in-Some.before ∙ ap
    (drop c.in-Some.before) c.rest-in-loop-self.ensures.rest) c.in-Some-line_end.ensures) _ (c.within.ensures.found, c.within.ensures.too_long)).long

pub returns-in-Some-line_end-clause-lost : goal.returns-in-Some-line_end-clause-lost
returns-in-Some-line_end-clause-lost g c =
    let e = some-case _ _ _ _ c.in-Some.is c.in_ok-before.ensures.heard in
    (told-line _ _ _ _ _ (hears-more _ _ _ _ _ _ c.loop-self.invariant.so_far e.0) 0 0 0 0 (omega arith) (omega arith) _
    (later-line _ _ _ _ _ _ _ e.0 e.1 c.loop-self.invariant.one
    (take_rest c.rest-in-loop-self.result.now c.in-Some.before ∙ ap
    (drop c.in-Some.before) c.rest-in-loop-self.ensures.rest) c.in-Some-line_end.ensures) _ (c.within.ensures.found, c.within.ensures.too_long)).lost

pub loop-self-preserved : goal.loop-self-preserved
loop-self-preserved g c =
    let e = some-case _ _ _ _ c.in-Some.is c.in_ok-before.ensures.heard in
    let reads = c.in_ok-before.ensures.counted.reads_later in
    let writes = c.in_ok-before.ensures.counted.writes_later in
    record {
      so_far = hears-more _ _ _ _ _ _ c.loop-self.invariant.so_far e.0;
      one = later-one _ _ _ _ _ _ e.0 e.1 c.loop-self.invariant.one
          (take_rest c.rest-in-loop-self.result.now c.in-Some.before ∙ ap
          (drop c.in-Some.before) c.rest-in-loop-self.ensures.rest) c.in_default-line_end.ensures;
      given = c.in_ok-before.ensures.given ∙ c.loop-self.invariant.given;
      reads = omega (arith, c.loop-self.invariant.reads, reads);
      writes = omega (arith, c.loop-self.invariant.writes, writes);
    }

pub returns-clause-long : goal.returns-clause-long
returns-clause-long g c = λ h. (
  c.loop-self.invariant.so_far,
  record {
    one = one-line-take _ _ c.loop-self.invariant.one;
    long = grind (arith, c.loop-self-test.false, c.rest.ensures.rest);
  },
)
