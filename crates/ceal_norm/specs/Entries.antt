-- The entries of a graph (our own): the blocks at which a unit begins.
use Rattle.std.specs.Prelude.{ℕ, zero, suc, ◌+◌, ◌==◌, ◌||◌, nat_le, Bool, true, false, List, [], ◌∷◌, ◌++◌}
use Rattle.std.specs.Prelude.{if◌then◌else◌}
use Rattle.ceal_base.specs.declared.typed.TypedStmt.{TypedStmt, Declare, Assign, Call}
use Rattle.ceal_base.specs.declared.typed.TypedValue.{TypedValue}
use Rattle.ceal_base.specs.declared.typed.TypedValue.TheVariants.{Read}
use Rattle.ceal_flow.specs.Laws.{firsts}
use Rattle.ceal_flow.specs.Paths.{jumps}
use Rattle.ceal_flow.specs.Program.{Graph}
use Rattle.ceal_flow.specs.Sets.{is_in}
use Rattle.ceal_flow.specs.declared.block.GraphBlock.{GraphBlock}
use Rattle.ceal_flow.specs.declared.block.GraphBlock.TheVariants.{Act}

-- whether the value is that of a read
abbrev pub is_read : TypedValue → Bool
is_read (Read at e) = true
is_read _ = false

-- a read or a call: what comes after it is a closure
abbrev pub has_closure : TypedStmt → Bool
has_closure (Declare at n kind value) = is_read value
has_closure (Assign at n value) = is_read value
has_closure (Call at f args) = true
has_closure _ = false

-- the block after a read or a call
abbrev pub continuations : GraphBlock → List ℕ
continuations (Act s next) = if has_closure s then next ∷ [] else []
continuations _ = []

-- the blocks that follow a read or a call, over all blocks
unfoldable pub all_continuations : List GraphBlock → List ℕ
all_continuations [] = []
all_continuations (block ∷ blocks) = continuations block ++ all_continuations blocks

-- the targets of all jumps; two jumps from one condition to a block count as two
unfoldable pub all_jumps : List GraphBlock → List ℕ
all_jumps [] = []
all_jumps (block ∷ blocks) = jumps block ++ all_jumps blocks

-- how many times b is in the list
unfoldable pub count : ℕ → List ℕ → ℕ
count b [] = 0
count b (c ∷ cs) = if c == b then count b cs + 1 else count b cs

-- a function's first block, what follows a read or a call, and the target of two or more jumps
abbrev pub is_entry : Graph → ℕ → Bool
is_entry g b =
    is_in b (firsts g.functions) || is_in b (all_continuations g.blocks) || nat_le 2 (count b (all_jumps g.blocks))

-- the number of entries before the block
unfoldable pub entries_before : Graph → ℕ → ℕ
entries_before g zero = 0
entries_before g (suc b) = if is_entry g b then entries_before g b + 1 else entries_before g b
