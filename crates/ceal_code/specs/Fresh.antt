-- A run of trace code from scratch.
use Rattle.std.specs.Prelude.{ℕ, zero, suc, ◌+◌, Option, Some, None, List, [], length}
use Rattle.ceal_base.specs.Access.{content_of}
use Rattle.ceal_base.specs.Block.{Block, Blocks, block_at, written_at}
use Rattle.ceal_base.specs.Finished.{Finished, with_block}
use Rattle.ceal_base.specs.declared.word.BlockId.TheVariants.{Core}
use Rattle.ceal_base.specs.declared.word.Word.{Word}
use Rattle.ceal_base.specs.declared.word.Word.TheVariants.{At}
use Rattle.ceal_code.specs.Init.{made, pointer}
use Rattle.ceal_code.specs.Program.{Code}
use Rattle.ceal_code.specs.Step.{Stack, Run, Act, Over, Quiet, Makes, Writes, Reads, variable_default, entered, started}
use Rattle.ceal_code.specs.Step.{words_after_read, next}
use Rattle.ceal_code.specs.Value.{set}

-- after a step of this sort, where `again` is the run from there
abbrev pub ran : Code → (Blocks → Stack → Option Finished) → ℕ → Blocks → Act → Option Finished
ran code again steps m Over = Some (record { memory = m; steps = steps; blocks = length m.made })
ran code again steps m (Quiet after) = again m after
ran code again steps m (Makes key v u i env below) =
    again (with_block m (made code (block_at m) key)) (Run u i (set env v (pointer key (Core (length m.made)))) below)
ran code again steps m (Writes p value after) = again (written_at m p.block p.field value) after
ran code again steps m (Reads p u v args below) =
    again m
    (entered code u.0 (words_after_read code u.0 v args (content_of m (At p) (variable_default code u.0 v))) below)

-- the result of a run without fuel: nothing, unless it is over
abbrev pub only_over : ℕ → Blocks → Act → Option Finished
only_over steps m Over = Some (record { memory = m; steps = steps; blocks = length m.made })
only_over steps m _ = None

-- with this many further steps at most, after the steps so far
unfoldable pub run : Code → ℕ → ℕ → Blocks → Stack → Option Finished
run code zero steps m st = only_over steps m (next code (block_at m) st)
run code (suc fuel) steps m st = ran code (run code fuel (steps + 1)) steps m (next code (block_at m) st)

-- the function on these arguments and inputs, or nothing where it takes more steps than the fuel
unfoldable pub fresh : Code → ℕ → List Word → List Block → ℕ → Option Finished
fresh code f args inputs fuel =
    run code fuel 0 (record { inputs = inputs; made = [] }) (started code f args)
