-- What is looked up of each block: whether a unit begins there, and how many do before it.
use Rattle.std.specs.Prelude.{◌≡◌, ℕ, zero, suc, ◌<◌, Bool, false, List, [], ◌∷◌, ◌++◌, length, slice_index_or}
use Rattle.std.specs.Prelude.{Contains}
use Rattle.ceal_flow.specs.Laws.{firsts}
use Rattle.ceal_flow.specs.Program.{Graph}
use Rattle.ceal_flow.specs.declared.block.GraphBlock.{GraphBlock}
use Rattle.ceal_flow.specs.declared.block.GraphBlock.TheVariants.{Done, Test, Act, Unreached}
use Rattle.ceal_flow.specs.declared.function.GraphFunction.{GraphFunction}
use Rattle.ceal_flow.specs.declared.function.GraphFunction.TheVariants.{Core, Init}
use Rattle.ceal_norm.specs.Entries.{is_entry, entries_before}
use Rattle.ceal_norm.specs.Laws.{IsClosed, IsForward}
use Rattle.ceal_norm.specs.declared.entries.Entry.{Entry}

-- whether the block is marked
abbrev pub is_marked : List Bool → ℕ → Bool
is_marked marks b = slice_index_or marks b false

-- whether block b is an entry, and how many entries come before it
abbrev pub entry_at : Graph → ℕ → Entry
entry_at g b = record { is_entry = is_entry g b; unit = entries_before g b }

-- of the blocks below `n`
unfoldable pub table : Graph → ℕ → List Entry
table g zero = []
table g (suc b) = table g b ++ entry_at g b ∷ []

-- the jumps of the block lead to blocks below `n`
abbrev pub JumpsBelow : ℕ → GraphBlock → Type 0
JumpsBelow n Done = Unit {0}
JumpsBelow n (Test test first second) = (first < n) × (second < n)
JumpsBelow n (Act s next) = next < n
JumpsBelow n Unreached = Unit {0}

-- the function begins at a block below `n`, if it has one
abbrev pub BeginsBelow : ℕ → GraphFunction → Type 0
BeginsBelow n (Core name first params kinds) = first < n
BeginsBelow n (Init f) = Unit {0}

-- what holds of the graph of a program, and its table
pub record Planned (g : Graph) (entries : List Entry) : Type 0 where
  pub same : entries ≡ table g (length g.blocks)
  pub closed : IsClosed g
  pub forward : IsForward g
  pub begins : (b : ℕ) → Contains (firsts g.functions) b → b < length g.blocks
