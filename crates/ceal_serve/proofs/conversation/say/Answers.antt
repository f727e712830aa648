use Rattle.std.proofs.Common.{◌∙◌, rules}
use Rattle.std.proofs.Math.Seq.{take-add}
use Rattle.std.proofs.lemmas.List.{take_rest}
use Rattle.ceal_serve.proofs.Hearing.{given-said, said-more}
use Rattle.ceal_serve.proofs.Steps.{step-known}
use Rattle.ceal_serve.proofs.conversation.say.Goals as goal

-- what was said before, and what this call took
pub write-requires : goal.write-requires
write-requires g c = record { step = step-known _ _ _ _ _ (take_rest c.args.bytes.now c.loop-done.done) c.loop-done.invariant.said c.requires.step }

pub loop-done-preserved : goal.loop-done-preserved
loop-done-preserved g c =
    let took = simp take_rest at c.in_ok-count.ensures.said in
    record {
      within = search rules;
      said = rw take-add (said-more _ _ _ _ _ c.loop-done.invariant.said took);
      given = given-said _ _ _ took ∙ c.loop-done.invariant.given;
      later = search rules;
      reads = search rules;
    }
