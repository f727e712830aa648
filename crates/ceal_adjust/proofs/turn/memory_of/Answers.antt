use Rattle.std.proofs.Common.{ap, ◌∙◌}
use Rattle.ceal_code.specs.Tables.{code_in, plain_in, store_in}
use Rattle.ceal_adjust.proofs.Knowing.{known-plain, known-store}
use Rattle.ceal_adjust.specs.KnownBlocks.{knowing, defaulting}
use Rattle.ceal_adjust.proofs.turn.memory_of.Goals as goal

-- the inputs, and the blocks that the repair knows
pub returns-clause-plain : goal.returns-clause-plain
returns-clause-plain c = λ r h.
    c.in_ok-learn_known.ensures.plain
    ∙ (ap (λ ks. knowing (plain_in c.new-memory.result) ks) c.items.ensures.value
    ∙ (ap (λ x. knowing x c.args.repair.now.known) c.new-memory.ensures.plain ∙ known-plain c.args.code.now c.args.inputs.now r.known c.args.repair.now.known h.known))

-- the bases of the inputs, and the defaults of the blocks that the repair knows
pub returns-clause-store : goal.returns-clause-store
returns-clause-store c = λ r h.
    c.in_ok-learn_known.ensures.store
    ∙ (ap (λ ks. defaulting (code_in c.new-memory.result) (store_in c.new-memory.result) ks) c.items.ensures.value
    ∙ (ap (λ k. defaulting k (store_in c.new-memory.result) c.args.repair.now.known) c.new-memory.ensures.code
    ∙ (ap (λ s. defaulting c.args.code.now s c.args.repair.now.known) c.new-memory.ensures.store ∙ known-store c.args.code.now c.args.inputs.now r.known c.args.repair.now.known h.known)))
