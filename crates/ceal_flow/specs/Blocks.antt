-- The blocks of statements (our own). A statement has one block, and after it those of the statements in it, in text
-- order; `return`, `break` and `continue` have none, and are jumps. What no path leads to is left out.
use Rattle.std.specs.Prelude.{ℕ, ◌+◌, Bool, true, false, ◌&&◌, ◌||◌, List, [], ◌∷◌, ◌++◌, replicate, if◌then◌else◌}
use Rattle.ceal_base.specs.declared.typed.TypedStmt.{TypedStmt, If', While', Return, Break, Continue}
use Rattle.ceal_base.specs.declared.typed.TypedStmt.{Row_of-TypedStmt, end_of-TypedStmt, more_of-TypedStmt}
use Rattle.ceal_flow.specs.declared.block.GraphBlock.{GraphBlock}
use Rattle.ceal_flow.specs.declared.block.GraphBlock.TheVariants.{Test, Act, Unreached}
use Rattle.ceal_flow.specs.declared.exits.Exits.{Exits}

-- how many blocks a statement has
unfoldable mutual
  pub size : TypedStmt → ℕ
  size (If' at test _ first _ second) = 1 + row_size first + row_size second
  size (While' at test _ body) = 1 + row_size body
  size (Return at) = 0
  size (Break at) = 0
  size (Continue at) = 0
  size _ = 1

  -- how many blocks the statements of a row have
  pub row_size : {n : _} → Row_of-TypedStmt n → ℕ
  row_size end_of-TypedStmt = 0
  row_size (more_of-TypedStmt s rest) = size s + row_size rest

-- how many blocks the statements of a list have
unfoldable pub sizes : List TypedStmt → ℕ
sizes [] = 0
sizes (s ∷ rest) = size s + sizes rest

-- whether some path continues after a statement: not after a jump, nor after an `if` neither part of which continues
unfoldable mutual
  pub may_continue : TypedStmt → Bool
  may_continue (If' at test _ first _ second) = row_may_continue first || row_may_continue second
  may_continue (Return at) = false
  may_continue (Break at) = false
  may_continue (Continue at) = false
  may_continue _ = true

  -- whether some path continues after the statements of a row
  pub row_may_continue : {n : _} → Row_of-TypedStmt n → Bool
  row_may_continue end_of-TypedStmt = true
  row_may_continue (more_of-TypedStmt s rest) = may_continue s && row_may_continue rest

-- whether some path continues after the statements of a list
unfoldable pub all_may_continue : List TypedStmt → Bool
all_may_continue [] = true
all_may_continue (s ∷ rest) = may_continue s && all_may_continue rest

-- where jumps lead in a body whose end is block `done`: in no loop `break` and `continue` lead there too
abbrev pub no_loop : ℕ → Exits
no_loop done = record { done = done; behind = done; test = done }

-- and in the body of a loop that is among these exits: its test is block `test`, and block `after` comes after it
abbrev pub in_loop : Exits → ℕ → ℕ → Exits
in_loop exits test behind = record { done = exits.done; behind = behind; test = test }

-- where a jump to a statement leads, `n` being the number of its first block
abbrev pub target : TypedStmt → ℕ → Exits → ℕ
target (Return at) n exits = exits.done
target (Break at) n exits = exits.behind
target (Continue at) n exits = exits.test
target _ n exits = n

-- where a jump to statements leads, which are followed by a jump to `after`
abbrev pub row_entry : {m : _} → Row_of-TypedStmt m → ℕ → ℕ → Exits → ℕ
row_entry end_of-TypedStmt n after exits = after
row_entry (more_of-TypedStmt s rest) n after exits = target s n exits

-- the block at which statements are entered, the first of them at block `n`
abbrev pub entry : List TypedStmt → ℕ → ℕ → Exits → ℕ
entry [] n after exits = after
entry (s ∷ rest) n after exits = target s n exits

-- the blocks of a statement, from block `n` on, which is followed by a jump to `after`
unfoldable mutual
  pub blocks_of : TypedStmt → ℕ → ℕ → Exits → List GraphBlock
  blocks_of (If' at test _ first _ second) n after exits =
      let m = n + 1 + row_size first in
      Test test (row_entry first (n + 1) after exits) (row_entry second m after exits)
      ∷ (row_blocks first (n + 1) after exits ++ row_blocks second m after exits)
  blocks_of (While' at test _ body) n after exits =
      let inside = in_loop exits n after in
      Test test (row_entry body (n + 1) n inside) after ∷ row_blocks body (n + 1) n inside
  blocks_of (Return at) n after exits = []
  blocks_of (Break at) n after exits = []
  blocks_of (Continue at) n after exits = []
  blocks_of s n after exits = Act s after ∷ []

  -- the blocks of the statements of a row, from block `n` on
  pub row_blocks : {m : _} → Row_of-TypedStmt m → ℕ → ℕ → Exits → List GraphBlock
  row_blocks end_of-TypedStmt n after exits = []
  row_blocks (more_of-TypedStmt s rest) n after exits =
      blocks_of s n (row_entry rest (n + size s) after exits) exits
      ++ (if may_continue s then row_blocks rest (n + size s) after exits else replicate (row_size rest) Unreached)

-- the blocks of the statements of a list, from block `n` on
unfoldable pub all_blocks : List TypedStmt → ℕ → ℕ → Exits → List GraphBlock
all_blocks [] n after exits = []
all_blocks (s ∷ rest) n after exits =
    blocks_of s n (entry rest (n + size s) after exits) exits
    ++ (if may_continue s then all_blocks rest (n + size s) after exits else replicate (sizes rest) Unreached)
