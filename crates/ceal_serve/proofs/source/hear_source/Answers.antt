use Rattle.std.proofs.Common.{◌∙◌, ◌++◌, ◌-◌, List, ℕ, arith, ap, refl}
use Rattle.ceal_serve.proofs.HeardLines.{end-case, handed-on, line-case}
use Rattle.ceal_serve.proofs.Sources.{end-begins, heard-marked, heard-open, line-begins, listening-caught-up, listening-more, some-begins, listening-taken, source-too-long, taken-complete, taken-none}
use Rattle.ceal_serve.proofs.source.hear_source.Goals as goal

pub hear_line-requires-clause-caught_up : goal.hear_line-requires-clause-caught_up
hear_line-requires-clause-caught_up g c = listening-caught-up _ _ _ _ c.loop-text.invariant.none c.loop-text.invariant.complete c.loop-text.invariant.listening

pub returns-in_err-end-clause-beginning : goal.returns-in_err-end-clause-beginning
returns-in_err-end-clause-beginning g c = some-begins _ _ _ _ _ _ c.loop-text.invariant.listening c.in_err-end.ensures.lost

pub returns-in_err-extend_from_slice-clause-beginning : goal.returns-in_err-extend_from_slice-clause-beginning
returns-in_err-extend_from_slice-clause-beginning g c =
    end-begins _ _ _ _ _ _ c.loop-text.invariant.listening _ (end-case _ _ _ _ _ _ c.in_default.is c.in_ok-end.ensures.heard).0

pub returns-in_err-take_line-clause-beginning : goal.returns-in_err-take_line-clause-beginning
returns-in_err-take_line-clause-beginning g c =
    line-begins _ _ _ _ _ _ c.loop-text.invariant.listening _ (line-case _ _ _ _ _ _ _ c.in-Some.is c.in_ok-end.ensures.heard).0

pub returns-in_err-end-clause-long : goal.returns-in_err-end-clause-long
returns-in_err-end-clause-long g c = λ e.
    let h = c.in_err-end.ensures.long (handed-on _ _ _ _ c.from_residual.ensures.1 refl e) in
    source-too-long _ _ _ _ _ _ _ (ap (λ n. 4194304 - n)
    (c.len-limit.ensures ∙ c.loop-text.text.ok.0)) c.loop-text.invariant.none c.loop-text.invariant.complete h.0
    h.1 c.loop-text.invariant.listening

pub returns-in_default-clause-heard : goal.returns-in_default-clause-heard
returns-in_default-clause-heard g c =
    let e = end-case _ _ _ _ _ _ c.in_default.is c.in_ok-end.ensures.heard in
    heard-open _ _ _ _ _ _ _ e.0 (c.in_ok-extend_from_slice.ensures.items ∙ ap (λ (l : List ℕ). c.loop-text.text.items ++ l) c.rest.ensures.rest) c.loop-text.invariant.listening

pub returns-then-branch-clause-heard : goal.returns-then-branch-clause-heard
returns-then-branch-clause-heard g c =
    let line = line-case _ _ _ _ _ _ _ c.in-Some.is c.in_ok-end.ensures.heard in
    heard-marked _ _ _ _ (listening-taken _ _ _ _ _ _ _ c.in_ok-take_line.ensures.taken (listening-more _ _ _ _ _ _ line.0 c.loop-text.invariant.listening))

pub loop-text-preserved : goal.loop-text-preserved
loop-text-preserved g c =
    let line = line-case _ _ _ _ _ _ _ c.in-Some.is c.in_ok-end.ensures.heard in
    let taken = c.in_ok-take_line.ensures.taken in
    let short = line.2 in
    let reads = c.in_ok-end.ensures.counted.reads_later in
    let writes = c.in_ok-end.ensures.counted.writes_later in
    record {
      listening = listening-taken _ _ _ _ _ _ _ taken (listening-more _ _ _ _ _ _ line.0 c.loop-text.invariant.listening);
      none = taken-none _ _ _ _ _ taken (λ marked. grind (arith, marked, c.if-branch.false)) c.loop-text.invariant.none c.loop-text.invariant.complete;
      complete = taken-complete _ _ _ _ _ taken;
      within = omega (arith, short, c.in_ok-take_line.ensures.len, c.len-limit.ensures, c.loop-text.invariant.within);
      given = c.in_ok-end.ensures.given ∙ c.loop-text.invariant.given;
      reads = omega (arith, c.loop-text.invariant.reads, reads);
      writes = omega (arith, c.loop-text.invariant.writes, writes);
    }
