use Rattle.std.proofs.Common.{refl, ◌∙◌}
use Rattle.ceal_code.specs.Tables.{code_in, store_in}
use Rattle.ceal_theory.specs.Slices.{starting}
use Rattle.ceal_base.specs.Trace.{flat}
use Rattle.ceal_adjust.proofs.Sliced.{agrees-there, stale-there, agrees-done, stale-more}
use Rattle.ceal_adjust.proofs.slices.is_honest.Goals as goal

-- no read is stale, so each agrees with the walk
pub returns-in-None : goal.returns-in-None
returns-in-None c = λ r f args fits stands sound. (
  λ t. agrees-done c.args.code.now c.args.inputs.now f args fits 0 r sound
      (agrees-there c.args.code.now (code_in c.in_ok-memory.memory)
      (starting c.args.code.now c.args.inputs.now r.known) (store_in c.in_ok-memory.memory) c.items.result.now
      (flat r.items) c.in_ok-memory.ensures.code
      (c.in_ok-memory.ensures.store r stands) (c.items.ensures.value ∙ stands.items) (rw c.in-None.is at c.in_ok-first_stale.ensures.stale)),
  λ h. refl,
)

-- a stale read does not agree with the walk
pub returns : goal.returns
returns c = λ r f args fits stands sound. (
  λ t. absurd cc,
  λ h. absurd (stale-more c.args.code.now c.args.inputs.now f args fits 0 r sound c.in-Some._stale
      (stale-there c.args.code.now (code_in c.in_ok-memory.memory)
      (starting c.args.code.now c.args.inputs.now r.known) (store_in c.in_ok-memory.memory) c.items.result.now
      (flat r.items) c.in-Some._stale c.in_ok-memory.ensures.code
      (c.in_ok-memory.ensures.store r stands) (c.items.ensures.value ∙ stands.items) (rw c.in-Some.is at c.in_ok-first_stale.ensures.stale)) h),
)
