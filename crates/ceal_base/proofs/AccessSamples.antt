-- Blocks at their defaults, and reads and writes of them.
use Rattle.std.proofs.Common.{◌≡◌, pos, List, [], ◌∷◌, refl}
use Rattle.ceal_base.specs.Access.{field_of, address_of, content_of, memory_after_write}
use Rattle.ceal_base.specs.Block.{Block, Blocks}
use Rattle.ceal_base.specs.Shapes.{default_block}
use Rattle.ceal_base.specs.declared.kind.FieldKind.TheVariants.{Plain, CellPtr}
use Rattle.ceal_base.specs.declared.kind.Kind.TheVariants.{Int}
use Rattle.ceal_base.specs.declared.kind.Shape.TheVariants.{Struct}
use Rattle.ceal_base.specs.declared.typed.StructInfo.{StructInfo}
use Rattle.ceal_base.specs.declared.word.BlockId.TheVariants.{Core}
use Rattle.ceal_base.specs.declared.word.Word.{Word}
use Rattle.ceal_base.specs.declared.word.Word.TheVariants.{Num, Null, Block as BlockWord, At}

-- struct cell { int head; mod struct cell tail; };
abbrev structs : List StructInfo
structs = record { name = []; fields = record { name = []; kind = Plain Int; row = 0 } ∷ record { name = []; kind = CellPtr 0; row = 0 } ∷ [] } ∷ []

abbrev cell : Word → Word → Block
cell head tail = record { shape = Struct 0; words = head ∷ tail ∷ [] }

a_new_cell : default_block structs (Struct 0) ≡ cell (Num (pos 0)) Null
a_new_cell = refl

-- one core block
abbrev one : Word → Blocks
one tail = record { inputs = []; made = cell (Num (pos 7)) tail ∷ [] }

abbrev tail : Word
tail = At (record { block = Core 0; field = 1 })

its_head : field_of (one Null) 0 (BlockWord (Core 0)) 0 (Num (pos 0)) ≡ Num (pos 7)
its_head = refl

a_head_through_null : field_of (one Null) 0 Null 0 (Num (pos 0)) ≡ Num (pos 0)
a_head_through_null = refl

its_tail : address_of (one Null) 0 (BlockWord (Core 0)) 1 ≡ tail
its_tail = refl

a_write : memory_after_write (one Null) tail (BlockWord (Core 0)) ≡ one (BlockWord (Core 0))
a_write = refl

a_read : content_of (one (BlockWord (Core 0))) tail Null ≡ BlockWord (Core 0)
a_read = refl

a_write_through_null : memory_after_write (one Null) Null (Num (pos 1)) ≡ one Null
a_write_through_null = refl
