-- A run, step by step.
use Rattle.std.proofs.Common.{◌≡◌, ℕ, suc, ◌+◌, ◌-◌, ◌<◌, Some, None, List, [], ◌∷◌, length, refl, ap, arith}
use Rattle.ceal_base.specs.Block.{Blocks}
use Rattle.ceal_base.specs.declared.typed.Typed.{Typed}
use Rattle.ceal_mean.specs.Exec.{frames_to_run, state_after_item}
use Rattle.ceal_mean.specs.Frame.{Frame, State}
use Rattle.ceal_mean.specs.Fresh.{run, run_settled}
use Rattle.ceal_mean.specs.Steps.{Begun, begun, advanced}

module _ (p : Typed) where
  -- where a step was made
  step-made : (fuel steps : ℕ) (m : Blocks) (frames : List Frame) (s : State) → advanced p m frames ≡ Some s
      → run_settled p (suc fuel) steps m frames ≡ run p fuel (steps + 1) s
  unfolding run_settled
  step-made fuel steps m [] s h = cc
  step-made fuel steps m (f ∷ below) s h = let e : state_after_item p m f f.todo below ≡ s = cc in ap (λ s. run p fuel (steps + 1) s) e

  pub run-more : (fuel steps : ℕ) (m : Blocks) (frames : List Frame) (s : State) → steps < fuel → advanced p m (frames_to_run frames) ≡ Some s
      → run p (fuel - steps) steps (record { memory = m; frames = frames }) ≡ run p (fuel - (steps + 1)) (steps + 1) s
  run-more fuel steps m frames s l h =
      let e : fuel - steps ≡ suc (fuel - (steps + 1)) = omega arith in rw e (step-made _ steps m (frames_to_run frames) s h)

  -- where none is left
  pub run-over : (fuel steps : ℕ) (m : Blocks) (frames : List Frame) → advanced p m frames ≡ None
      → run_settled p fuel steps m frames ≡ Some (record { memory = m; steps = steps; blocks = length m.made })
  unfolding run_settled
  run-over fuel steps m [] h = refl
  run-over fuel steps m (f ∷ below) h = cc

  pub run-empty : (fuel steps : ℕ) (m : Blocks) (frames : List Frame) → frames ≡ []
      → run_settled p fuel steps m frames ≡ Some (record { memory = m; steps = steps; blocks = length m.made })
  unfolding run_settled
  run-empty fuel steps m [] h = refl
  run-empty fuel steps m (f ∷ below) h = cc

  -- out of fuel
  pub run-short : (fuel steps : ℕ) (m : Blocks) (frames : List Frame) (b : Begun) → fuel ≡ 0 → begun frames ≡ Some b → run_settled p fuel steps m frames ≡ None
  unfolding run_settled
  run-short fuel steps m [] b z h = cc
  run-short fuel steps m (f ∷ below) b z h = rw z refl
