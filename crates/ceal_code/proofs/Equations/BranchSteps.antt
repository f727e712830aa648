-- The listing of a body, branch by branch.
use Rattle.std.proofs.Common.{◌≡◌, ℕ, zero, suc, ◌+◌, ◌-◌, ◌<◌, List, [], ◌∷◌, ◌++◌, refl, arith, slice_get, ap, append_assoc, append-nil, ◌∙◌, sym}
use Rattle.ceal_code.proofs.Equations.PathSteps.{weight-positive, weight-step}
use Rattle.ceal_code.specs.Branches.{branch_text, branches_text, branch_weights}
use Rattle.ceal_code.specs.Listing.{commands, commands_at}
use Rattle.ceal_code.specs.Parts.{weight}
use Rattle.ceal_code.specs.Program.{Code}
use Rattle.ceal_code.specs.declared.branches.Branch.{Branch}
use Rattle.ceal_code.specs.declared.command.Cmd.{Cmd}

module _ (code : Code) (body : List Cmd) where
  pub branches-none : branches_text code body [] ≡ []
  unfolding branches_text
  branches-none = refl

  pub branches-push : (bs : List Branch) (b : Branch) → branches_text code body (bs ++ b ∷ []) ≡ branch_text code body b ++ branches_text code body bs
  unfolding branches_text
  branches-push [] b = sym (append-nil (branch_text code body b))
  branches-push (c ∷ cs) b =
      ap (λ t. t ++ branch_text code body c) (branches-push cs b)
      ∙ append_assoc (branch_text code body b) (branches_text code body cs) (branch_text code body c)

  pub commands-end : (n i depth : ℕ) → n ≡ 0 → commands code body n i depth ≡ []
  unfolding commands
  commands-end zero i depth h = refl
  commands-end (suc n) i depth h = absurd (omega (arith, h))

  pub commands-step : (n i depth : ℕ) → 0 < n → commands code body n i depth ≡ commands_at code (commands code body (n - 1)) (slice_get body i) i depth
  unfolding commands
  commands-step zero i depth h = absurd (omega (arith, h))
  commands-step (suc n) i depth h = let e : (suc n - 1) ≡ n = omega arith in rw e

pub weights-none : branch_weights [] ≡ 0
unfolding branch_weights
weights-none = refl

pub weights-push : (bs : List Branch) (b : Branch) → branch_weights (bs ++ b ∷ []) ≡ weight b.left + branch_weights bs
unfolding branch_weights
weights-push [] b = refl
weights-push (c ∷ cs) b = omega (arith, weights-push cs b)

pub ruleset push_steps = (branches-push, weights-push)

pub ruleset follow_steps = (weight-positive, weight-step, append_assoc)

pub ruleset at_steps = (weight-positive, append_assoc)

pub ruleset command_steps = (commands-end, commands-step, weight-positive)

pub ruleset body_steps = (branches-none, branches-push, weights-none, weights-push, append-nil)
