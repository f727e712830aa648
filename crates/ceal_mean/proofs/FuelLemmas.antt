-- What fuel changes.
use Rattle.std.proofs.Common.{◌≡◌, ℕ, zero, suc, ◌+◌, ◌≤◌, Option, Some, None, List, [], ◌∷◌, ap, arith}
use Rattle.ceal_base.specs.Block.{Block, Blocks}
use Rattle.ceal_base.specs.declared.typed.Typed.{Typed}
use Rattle.ceal_base.specs.declared.word.Word.{Word}
use Rattle.ceal_mean.specs.Exec.{frames_to_run, state_after_item}
use Rattle.ceal_mean.specs.Frame.{Frame, State}
use Rattle.ceal_base.specs.Finished.{Finished}
use Rattle.ceal_mean.specs.Fresh.{run_settled, start, fresh}

abbrev steps_or : ℕ → Option Finished → ℕ
steps_or n None = n
steps_or n (Some r) = r.steps

module _ (p : Typed) where
  same-steps : (fuel steps : ℕ) (m : Blocks) (r : Finished) → run_settled p fuel steps m [] ≡ Some r → steps ≡ r.steps
  unfolding run_settled
  same-steps fuel steps m r h = ap (steps_or 0) h

  -- it has taken all the steps that were taken before
  pub at-least : (fuel steps : ℕ) (m : Blocks) (frames : List Frame) (r : Finished) → run_settled p fuel steps m frames ≡ Some r → steps ≤ r.steps
  unfolding run_settled
  at-least fuel steps m [] r h = omega (arith, same-steps fuel steps m r h)
  at-least zero steps m (f ∷ below) r h = cc
  at-least (suc fuel) steps m (f ∷ below) r h =
      let s : State = state_after_item p m f f.todo below in
      let l : steps + 1 ≤ r.steps = at-least fuel (steps + 1) s.memory (frames_to_run s.frames) r h in omega (arith, l)

  -- and no more than the fuel allows
  pub at-most : (fuel steps : ℕ) (m : Blocks) (frames : List Frame) (r : Finished) → run_settled p fuel steps m frames ≡ Some r → r.steps ≤ steps + fuel
  unfolding run_settled
  at-most fuel steps m [] r h = omega (arith, same-steps fuel steps m r h)
  at-most zero steps m (f ∷ below) r h = cc
  at-most (suc fuel) steps m (f ∷ below) r h =
      let s : State = state_after_item p m f f.todo below in
      let l : r.steps ≤ steps + 1 + fuel = at-most fuel (steps + 1) s.memory (frames_to_run s.frames) r h in omega (arith, l)

  -- with fuel for its steps it is the same run
  pub enough : (fuel n steps : ℕ) (m : Blocks) (frames : List Frame) (r : Finished) → run_settled p fuel steps m frames ≡ Some r
      → r.steps ≤ steps + n → run_settled p n steps m frames ≡ Some r
  unfolding run_settled
  enough fuel n steps m [] r h l = h
  enough zero n steps m (f ∷ below) r h l = cc
  enough (suc fuel) zero steps m (f ∷ below) r h l =
      let s : State = state_after_item p m f f.todo below in
      let more : steps + 1 ≤ r.steps = at-least fuel (steps + 1) s.memory (frames_to_run s.frames) r h in absurd (omega (arith, more, l))
  enough (suc fuel) (suc n) steps m (f ∷ below) r h l =
      let s : State = state_after_item p m f f.todo below in
      enough fuel n (steps + 1) s.memory (frames_to_run s.frames) r h (omega arith)

module _ (p : Typed) (function : ℕ) (args : List Word) (inputs : List Block) (fuel : ℕ) (r : Finished) (h : fresh p function args inputs fuel ≡ Some r) where
  pub fresh-at-most : r.steps ≤ fuel
  fresh-at-most =
      let s : State = start p function args inputs in
      let l : r.steps ≤ 0 + fuel = at-most p fuel 0 s.memory (frames_to_run s.frames) r h in omega (arith, l)

  pub fresh-enough : (n : ℕ) → r.steps ≤ n → fresh p function args inputs n ≡ Some r
  fresh-enough n l =
      let s : State = start p function args inputs in
      let within : r.steps ≤ 0 + n = omega (arith, l) in enough p fuel n 0 s.memory (frames_to_run s.frames) r h within
