use Rattle.std.proofs.Common.{ap, sym, ◌∙◌, ◌==◌, ◌||◌}
use Rattle.ceal_flow.specs.Sets.{is_in}
use Rattle.ceal_flow.proofs.BitFacts.{bit-put, in-members, members-ascend, members-few}
use Rattle.ceal_flow.proofs.ChunkFacts.{before-none}
use Rattle.ceal_flow.proofs.live_set.LiveSet.insert.Goals as goal

pub skip-index-requires-clause-before : goal.skip-index-requires-clause-before
skip-index-requires-clause-before c = before-none _ _

pub returns-in_err-put-clause-ascending : goal.returns-in_err-put-clause-ascending
returns-in_err-put-clause-ascending c = members-ascend c.put.new.chunks.items

pub returns-in_err-put-clause-few : goal.returns-in_err-put-clause-few
returns-in_err-put-clause-few c = members-few c.put.new.chunks.items

pub returns-clause-ok : goal.returns-clause-ok
returns-clause-ok c = λ w.
    let old = c.self.inside.chunks.items in
    let new = c.put.new.chunks.items in
    in-members new c.in_ok-put.ensures.ordered w ∙ bit-put old new c.args.v c.in_ok-put.ensures.here c.in_ok-put.ensures.others w
    ∙ ap (λ b. c.args.v == w || b) (sym (in-members old c.self.invariant w) ∙ ap (is_in w) c.self.view_is)

pub returns-clause-ascending : goal.returns-clause-ascending
returns-clause-ascending c = members-ascend c.put.new.chunks.items

pub returns-clause-few : goal.returns-clause-few
returns-clause-few c = members-few c.put.new.chunks.items
