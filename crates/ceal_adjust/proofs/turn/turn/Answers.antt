use Rattle.std.proofs.Common.{◌∙◌, ap}
use Rattle.ceal_base.specs.Trace.{flat}
use Rattle.ceal_code.specs.Tables.{code_in, store_in}
use Rattle.ceal_theory.specs.Slices.{starting}
use Rattle.ceal_theory.specs.Walk.{store_after}
use Rattle.ceal_adjust.proofs.MachineSteps.{if-acts}
use Rattle.ceal_adjust.proofs.Sliced.{agrees-there, stale-there, agrees-done}
use Rattle.ceal_adjust.proofs.turn.turn.Goals as goal

-- no read is stale, so the repair is done
pub returns-in-None : goal.returns-in-None
returns-in-None c = λ r f args fits stands sound.
    agrees-done c.args.code.now c.args.inputs.now f args fits 0 r sound
    (agrees-there c.args.code.now (code_in c.in_ok-memory.memory) (starting c.args.code.now c.args.inputs.now r.known)
    (store_in c.in_ok-memory.memory) c.items.result.now (flat r.items) c.in_ok-memory.ensures.code
    (c.in_ok-memory.ensures.store r stands) (c.items.ensures.value ∙ stands.items) (rw c.in-None.is at c.in_ok-first_stale.ensures.stale))

-- the first stale read is where the turn begins
pub returns-in-Some : goal.returns-in-Some
returns-in-Some c =
    if-acts c.run_stale.result _ _ (λ t h. λ r f args fits stands sound.
    h c.args.code.now c.args.inputs.now r f args fits stands sound (record {
      same = c.in_ok-first_stale.ensures.code ∙ c.in_ok-memory.ensures.code;
      plain = c.in_ok-first_stale.ensures.plain ∙ c.in_ok-memory.ensures.plain r stands;
      store = (rw c.in-Some.is at c.in_ok-first_stale.ensures.store)
          ∙ (ap (λ k. store_after k (store_in c.in_ok-memory.memory) c.in-Some.stale.front.now) c.in_ok-memory.ensures.code
          ∙ ap (λ s. store_after c.args.code.now s c.in-Some.stale.front.now) (c.in_ok-memory.ensures.store r stands));
      stale = stale-there c.args.code.now (code_in c.in_ok-memory.memory)
          (starting c.args.code.now c.args.inputs.now r.known) (store_in c.in_ok-memory.memory) c.items.result.now
          (flat r.items) c.in-Some.stale
          c.in_ok-memory.ensures.code (c.in_ok-memory.ensures.store r stands) (c.items.ensures.value ∙ stands.items) (rw c.in-Some.is at c.in_ok-first_stale.ensures.stale);
    })) c.run_stale.ensures
