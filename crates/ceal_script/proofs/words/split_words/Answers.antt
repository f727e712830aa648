use Rattle.ceal_script.proofs.WordLaws.{words_more, words_all}
use Rattle.ceal_script.proofs.words.split_words.Goals as goal

pub loop-word-preserved : goal.loop-word-preserved
loop-word-preserved c =
    words_more c.args.line.now c.loop-word.rest.now c.loop-word.words.items c.push.new.self.items c.in-Some.word c.in-Some.after.now c.loop-word.invariant c.in-Some.ensures
    c.in_ok-push-in-Some.ensures.ok

pub returns-in-None : goal.returns-in-None
returns-in-None c = words_all _ _ _ c.loop-word.invariant c.in-None.ensures
