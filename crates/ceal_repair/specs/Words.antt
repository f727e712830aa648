-- The plain words and the bases of a run.
use Rattle.std.specs.Prelude.{◌≡◌, ℕ, pos, true, Option, Some, None, List, slice_get, unwrap_or, if◌then◌else◌}
use Rattle.ceal_base.specs.Block.{Block}
use Rattle.ceal_base.specs.declared.kind.Shape.{Shape}
use Rattle.ceal_base.specs.declared.typed.StructInfo.{StructInfo}
use Rattle.ceal_base.specs.declared.word.BlockId.TheVariants.{Input, Core}
use Rattle.ceal_base.specs.declared.word.Word.{Word}
use Rattle.ceal_base.specs.declared.word.Word.TheVariants.{Num}
use Rattle.ceal_code.specs.Program.{Code}
use Rattle.ceal_code.specs.Replay.{cell_default, content_in}
use Rattle.ceal_code.specs.Value.{Plain, is_cell, field_kind, field_default}
use Rattle.ceal_heap.specs.Heap.{Contents, Standing, Unused, Live, Revoked, Released, standing, plain_of}
use Rattle.ceal_mods.specs.Mods.{Contents as Mods, HasCell}
use Rattle.ceal_repair.specs.Kept.{base_in}
use Rattle.ceal_theory.specs.Slices.{with_inputs}

-- the plain words of the inputs, and of the core blocks of a heap that can be read, revoked or not
unfoldable pub words_of : Code → List Block → Contents → Plain
words_of code inputs heap = with_inputs code inputs (plain_of heap)

-- what a modifiable of a number of this standing holds before any write: the default of its kind by the shape of
-- the block, or of the last one where the number is free; 0 where there is none
abbrev pub default_by_standing : List StructInfo → Standing → ℕ → Word
default_by_standing structs Unused field = Num (pos 0)
default_by_standing structs (Live block) field = cell_default (field_kind structs block.shape field)
default_by_standing structs (Revoked block) field = cell_default (field_kind structs block.shape field)
default_by_standing structs (Released shape) field = cell_default (field_kind structs shape field)

-- each modifiable has its base: those of inputs their contents, those of core blocks their defaults;
-- where there is no block it is 0
pub record HasBases (structs : List StructInfo) (inputs : List Block) (heap : Contents) (mods : Mods) : Type 0 where
  pub of_cores : (b field : ℕ)
      → base_in mods (record { block = Core b; field = field })
      ≡ default_by_standing structs (standing heap (Core b)) field
  pub of_inputs : (i field : ℕ)
      → base_in mods (record { block = Input i; field = field }) ≡ content_in structs (slice_get inputs i) field

-- the base of a field, where the block has this shape and these words, its defaults where it has none;
-- another field keeps what it has
abbrev pub base_of : List StructInfo → Shape → List Word → ℕ → Word → Word
base_of structs shape words field kept =
    if is_cell (field_kind structs shape field)
    then unwrap_or (slice_get words field) (field_default (field_kind structs shape field)) else kept

-- a base where the modifiables of the block that had the number before are set back to 0
abbrev pub base_cleared : List StructInfo → Option Shape → ℕ → Word → Word
base_cleared structs None field kept = kept
base_cleared structs (Some before) field kept = if is_cell (field_kind structs before field) then Num (pos 0) else kept

-- the places of the modifiables of an input of this shape were touched
abbrev pub IsTouched : List StructInfo → ℕ → Shape → Mods → Type 0
IsTouched structs input shape mods = (field : ℕ) → is_cell (field_kind structs shape field) ≡ true
    → HasCell mods (record { block = Input input; field = field })

-- no block has a field of this number
abbrev pub NO_FIELD : ℕ
NO_FIELD = 4294967295
