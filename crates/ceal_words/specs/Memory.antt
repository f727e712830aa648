-- Raw memory of words: cells side by side, of which each holds a word or was not written yet.
use Rattle.std.specs.Prelude.{ℕ, ◌+◌, ◌*◌, ◌^◌, List, [], ◌∷◌, length, Option, Some, None}
use base.Fraction.{full_share}
use base.Fml.{Lft, Fml, ftrue, ffalse, fsep, flt, froom}
use mir.Syntax.{Ty, w64, ty_int, ty_array}
use denote.Builtin.{u64}
use denote.Memory.{part_at, shared_of}
use denote.Sharing.{nothing, said, beside}
use denote.RawPtr.{Ptr, block_ptr, null_ptr}

-- the cell at the byte o of the object b
abbrev pub cell : ℕ → ℕ → Option ℕ → Fml
cell b o (Some x) = part_at u64 full_share x b o
cell b o None = froom (ty_int w64) b o

-- cells one after another, 8 bytes each
abbrev pub cells : ℕ → ℕ → List (Option ℕ) → Fml
cells b o [] = ftrue
cells b o (c ∷ cs) = fsep (cell b o c) (cells b (o + 8) cs)

-- a cell that is lent
abbrev pub cell_lent : ℕ → ℕ → Option ℕ → Lft → Fml
cell_lent b o (Some x) = shared_of u64 x b o
cell_lent b o None = nothing

-- cells one after another, which are lent
abbrev pub cells_lent : ℕ → ℕ → List (Option ℕ) → Lft → Fml
cells_lent b o [] = nothing
cells_lent b o (c ∷ cs) = beside (cell_lent b o c) (cells_lent b (o + 8) cs)

-- they take fewer than 2 ^ 63 bytes
abbrev pub small : List (Option ℕ) → Fml
small cs = flt (length cs * 8) (2 ^ 63)

-- what a block of memory owns, and what a `&` to it holds
abbrev pub block_owns : Ptr → List (Option ℕ) → Fml
block_owns (block_ptr b o) cs = fsep (small cs) (cells b o cs)
block_owns null_ptr cs = ffalse

-- what a block of cells lends
abbrev pub block_lends : Ptr → List (Option ℕ) → Lft → Fml
block_lends (block_ptr b o) cs = beside (said (small cs)) (cells_lent b o cs)
block_lends null_ptr cs = said ffalse

-- the type of the memory of n words
abbrev pub words_type : ℕ → Ty
words_type n = ty_array (ty_int w64) n
