use Rattle.std.proofs.Common.{Some, None, arith}
use Rattle.ceal_many.proofs.Finding.{ready, sought}
use Rattle.ceal_many.proofs.Replying.{there-replied, there-lost, full-replied, full-lost, begun-replied, begun-lost}
use Rattle.ceal_many.proofs.many.answer_for.Goals as goal

-- the session that was found is one of those that are ready
pub answer-requires : goal.answer-requires
answer-requires g c = ready g.M.Made.Answerer.stands c.args.name.now g.M.Made.Answerer.needs c.args.sessions.now.items c.in-Some.at c.index_mut.result.now
    (sought g.M.Made.Answerer.stands c.args.name.now c.args.sessions.now.items c.deref.result.now c.place_of.result
    (Some c.in-Some.at) c.deref.ensures.value c.place_of.ensures c.in-Some.is) c.index_mut.ensures.value c.requires.sessions

-- there is a session of this name, and it answers
pub returns-in-Some-clause-reply : goal.returns-in-Some-clause-reply
returns-in-Some-clause-reply g c =
    there-replied g.M.Made.Answerer.stands g.M.Made.Answerer.answers g.M.Made.Answerer.leaves (g.M.Made.Answerer.opening (g.M.Maker.beginning c.args.maker.now))
    c.args.sessions.now.items c.args.name.now c.args.line.now c.in-Some.at c.index_mut.result.now c.answer.new.entry
    (sought g.M.Made.Answerer.stands c.args.name.now c.args.sessions.now.items c.deref.result.now c.place_of.result
    (Some c.in-Some.at) c.deref.ensures.value c.place_of.ensures c.in-Some.is) c.index_mut.ensures.value c.answer.ensures.name c.answer.result c.answer.ensures.reply

-- there is one, and memory ran out in its answer
pub returns-in-Some-clause-left : goal.returns-in-Some-clause-left
returns-in-Some-clause-left g c =
    there-lost g.M.Made.Answerer.stands g.M.Made.Answerer.answers g.M.Made.Answerer.leaves (g.M.Made.Answerer.opening (g.M.Maker.beginning c.args.maker.now))
    c.args.sessions.now.items c.args.name.now c.args.line.now c.in-Some.at c.index_mut.result.now c.answer.new.entry
    (sought g.M.Made.Answerer.stands c.args.name.now c.args.sessions.now.items c.deref.result.now c.place_of.result
    (Some c.in-Some.at) c.deref.ensures.value c.place_of.ensures c.in-Some.is) c.index_mut.ensures.value c.answer.ensures.name c.answer.result c.answer.ensures.left

-- there is none of this name, and no room for another
pub returns-then-len-ge-MOST-clause-reply : goal.returns-then-len-ge-MOST-clause-reply
returns-then-len-ge-MOST-clause-reply g c =
    full-replied g.M.Made.Answerer.stands g.M.Made.Answerer.answers g.M.Made.Answerer.leaves (g.M.Made.Answerer.opening (g.M.Maker.beginning c.args.maker.now))
    c.args.sessions.now.items c.args.name.now c.args.line.now
    (sought g.M.Made.Answerer.stands c.args.name.now c.args.sessions.now.items c.deref.result.now c.place_of.result None c.deref.ensures.value c.place_of.ensures c.in-None.is)
    (grind (arith, c.if-len-ge-MOST.true, c.len.ensures))
    c.from_slice.result c.from_slice.ensures.equal

-- the same, where there was no memory for saying so
pub returns-then-len-ge-MOST-clause-left : goal.returns-then-len-ge-MOST-clause-left
returns-then-len-ge-MOST-clause-left g c =
    full-lost g.M.Made.Answerer.stands g.M.Made.Answerer.answers g.M.Made.Answerer.leaves (g.M.Made.Answerer.opening (g.M.Maker.beginning c.args.maker.now))
    c.args.sessions.now.items c.args.name.now c.args.line.now
    (sought g.M.Made.Answerer.stands c.args.name.now c.args.sessions.now.items c.deref.result.now c.place_of.result None c.deref.ensures.value c.place_of.ensures c.in-None.is) c.from_slice.result

-- there is none of this name: one begins, and answers
pub returns-else-len-ge-MOST-clause-reply : goal.returns-else-len-ge-MOST-clause-reply
returns-else-len-ge-MOST-clause-reply g c =
    begun-replied g.M.Made.Answerer.stands g.M.Made.Answerer.answers g.M.Made.Answerer.leaves (g.M.Made.Answerer.opening (g.M.Maker.beginning c.args.maker.now))
    c.args.sessions.now.items c.args.name.now c.args.line.now
    (sought g.M.Made.Answerer.stands c.args.name.now c.args.sessions.now.items c.deref.result.now c.place_of.result None c.deref.ensures.value c.place_of.ensures c.in-None.is)
    (grind (arith, c.if-len-ge-MOST.false, c.len.ensures))
    c.begin.new.sessions.items c.begin.result c.begin.ensures.reply

-- one begins, and memory ran out before its answer was whole
pub returns-else-len-ge-MOST-clause-left : goal.returns-else-len-ge-MOST-clause-left
returns-else-len-ge-MOST-clause-left g c =
    begun-lost g.M.Made.Answerer.stands g.M.Made.Answerer.answers g.M.Made.Answerer.leaves (g.M.Made.Answerer.opening (g.M.Maker.beginning c.args.maker.now))
    c.args.sessions.now.items c.args.name.now c.args.line.now
    (sought g.M.Made.Answerer.stands c.args.name.now c.args.sessions.now.items c.deref.result.now c.place_of.result
    None c.deref.ensures.value c.place_of.ensures c.in-None.is) c.begin.new.sessions.items c.begin.result
    c.begin.ensures.left
