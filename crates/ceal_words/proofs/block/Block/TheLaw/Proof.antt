-- A `&` to memory is made: it lends each word that is written. Assumes `Logic`.
use Prim.Native.Nat.{ℕ, ◌+◌}
use Rattle.std.specs.Prelude.{List, [], ◌∷◌, Option, Some, None}
use seplogic.Ra.Ura.{Ura}
use base.Fraction.{full_share}
use base.Fml.{Lft, ftrue, ffalse}
use types.Logic.{Logic}
use denote.RawPtr.{Ptr, block_ptr, null_ptr}
use denote.Sharing.{ShrLaws, said}
use denote.SharingLaws.{beside_shr_laws, nothing_shr_laws, said_shr_laws}
use denote.Param.Shared.{copy_shared}
use denote.Struct.Field.{RawPtr-field}
use denote.Struct.Laws.{RawPtr-copy, u64-copy}
use denote.Struct.Lending.{Lends, Lends-both, Lends-nothing, Lends-said, Lends-false, of_Lends}
use Rattle.ceal_words.specs.Memory.{cell, cells, cell_lent, cells_lent, small, block_owns, block_lends}
use Rattle.ceal_words.specs.contracts.block.Block as C
use Rattle.ceal_words.proofs.block.Block.TheLaw.Statement.{statement}

cell_laws : (b o : ℕ) (c : Option ℕ) → ShrLaws (cell_lent b o c)
cell_laws b o (Some x) = u64-copy.shr_laws x b o
cell_laws b o None = nothing_shr_laws

cells_laws : (b o : ℕ) (cs : List (Option ℕ)) → ShrLaws (cells_lent b o cs)
cells_laws b o [] = nothing_shr_laws
cells_laws b o (c ∷ cs) = beside_shr_laws (cell_lent b o c) (cells_lent b (o + 8) cs) (cell_laws b o c) (cells_laws b (o + 8) cs)

block_laws : (p : Ptr) (cs : List (Option ℕ)) → ShrLaws (block_lends p cs)
block_laws (block_ptr b o) cs = beside_shr_laws (said (small cs)) (cells_lent b o cs) (said_shr_laws (small cs) tt) (cells_laws b o cs)
block_laws null_ptr cs = said_shr_laws ffalse tt

module _ {M : Type 1} {𝓤 : Ura M} (𝓛 : Logic 𝓤) (l : Lft) where
  lends_cell : (b o : ℕ) (c : Option ℕ) → Lends 𝓛 (cell b o c) (cell_lent b o c) l
  lends_cell b o (Some x) = λ κ ts. (u64-copy.copied M 𝓤 𝓛).shares full_share l x κ ts b o
  lends_cell b o None = Lends-nothing 𝓛 (cell b o None) l

  lends_cells : (b o : ℕ) (cs : List (Option ℕ)) → Lends 𝓛 (cells b o cs) (cells_lent b o cs) l
  lends_cells b o [] = Lends-nothing 𝓛 ftrue l
  lends_cells b o (c ∷ cs) = Lends-both 𝓛 (cell b o c) (cells b (o + 8) cs) (cell_lent b o c) (cells_lent b (o + 8) cs) l (lends_cell b o c) (lends_cells b (o + 8) cs)

  lends_block : (p : Ptr) (cs : List (Option ℕ)) → Lends 𝓛 (block_owns p cs) (block_lends p cs) l
  lends_block (block_ptr b o) cs = Lends-both 𝓛 (small cs) (cells b o cs) (said (small cs)) (cells_lent b o cs) l (Lends-said 𝓛 (small cs) tt l) (lends_cells b o cs)
  lends_block null_ptr cs = Lends-false 𝓛 (said ffalse) l

pub shares : statement
shares = of_Lends C.struct C.the_codes C.the_heap C.the_lent (λ d p. block_laws d.at d.words) (copy_shared RawPtr-field RawPtr-copy, tt)
    (λ M 𝓤 𝓛 d p. lends_block 𝓛 (C.the_row).lives d.at d.words)
