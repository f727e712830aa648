use Rattle.std.proofs.Common.{refl}
use Rattle.ceal_session.specs.declared.sense.Sense.TheVariants.{Unknown, Plain}
use Rattle.ceal_session.proofs.Replies.WordsOfSenses.{stopped, went, over}
use Rattle.ceal_session.proofs.senses.words.Goals as goal

pub returns-in-Unknown : goal.returns-in-Unknown
returns-in-Unknown c =
    stopped c.loop-sense.words c.args.senses.now c.loop-sense.sense-index Unknown c.loop-sense-test.true c.in-Unknown.is (λ rest. refl) c.loop-sense.invariant

pub returns-in-Plain : goal.returns-in-Plain
returns-in-Plain c =
    stopped c.loop-sense.words c.args.senses.now c.loop-sense.sense-index Plain c.loop-sense-test.true c.in-Plain.is (λ rest. refl) c.loop-sense.invariant

pub loop-sense-preserved : goal.loop-sense-preserved
loop-sense-preserved c =
    rw (c.in_ok-push-in-Word.ensures.ok)
    (went c.loop-sense.words c.args.senses.now c.loop-sense.sense-index c.in-Word.word c.loop-sense-test.true c.in-Word.is c.loop-sense.invariant)

pub returns : goal.returns
returns c = over c.loop-sense.words c.args.senses.now c.loop-sense.sense-index c.loop-sense-test.false c.loop-sense.invariant
