-- The repair of a trace on other inputs, and the first trace of a call.
use Rattle.std.specs.Prelude.{◌≡◌, ℕ, ◌≤◌, Some, List, slice_get}
use Rattle.std.specs.Option.{option_map}
use Rattle.ceal_base.specs.Block.{Block}
use Rattle.ceal_base.specs.Trace.{Trace, Nothing, blocks_of}
use Rattle.ceal_base.specs.declared.word.Word.{Word}
use Rattle.ceal_code.specs.Program.{Code}
use Rattle.ceal_code.specs.Replay.{plain_block, input_plain, plain_of, count, core_numbers}
use Rattle.ceal_code.specs.Step.{started}
use Rattle.ceal_theory.specs.Repair.{State, own, begins, Fix, Reruns}

-- the old inputs, each of the same shape and with the same plain words, and maybe more of them; the contents of
-- modifiables may be any
abbrev pub Extended : Code → List Block → List Block → Type 0
Extended code old new = (i : ℕ) (block : Block) → slice_get old i ≡ Some block
    → option_map (plain_block code.structs) (slice_get new i) ≡ Some (plain_block code.structs block)

-- the trace has no core block from this number on
abbrev pub Above : ℕ → Trace → Type 0
Above number l = (b : ℕ) → number ≤ b → count b (core_numbers (blocks_of l)) ≡ 0

-- the repair of the old items on these inputs is these items, with this work; the new blocks have the names of the
-- numbers from one on
pub record AdjustsAs
    (code : Code) (inputs : List Block) (names : ℕ → ℕ) (number : ℕ) (old new : Trace) (work : ℕ) : Type 0 where
  pub after : State
  pub fix : Fix code names (begins code inputs (plain_of code inputs old) number) old after new
  pub counted : after.work ≡ work

-- the new blocks have the numbers from one on
abbrev pub Adjusts : Code → List Block → ℕ → Trace → Trace → ℕ → Type 0
Adjusts code inputs = AdjustsAs code inputs own

-- the first trace of a call: it is run with nothing left over; its blocks have the names of the numbers from 0 on
pub record FirstsAs
    (code : Code) (inputs : List Block) (names : ℕ → ℕ) (f : ℕ) (args : List Word) (new : Trace)
    (work : ℕ) : Type 0 where
  pub after : State
  pub left : Trace
  pub anew : Reruns code names (begins code inputs (input_plain code inputs) 0)
      (started code f args) Nothing after new left
  pub counted : after.work ≡ work

-- its blocks have the numbers from 0 on
abbrev pub Firsts : Code → List Block → ℕ → List Word → Trace → ℕ → Type 0
Firsts code inputs = FirstsAs code inputs own
