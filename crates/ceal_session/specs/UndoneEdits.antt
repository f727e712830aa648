-- Edits of bases that are undone.
use Rattle.std.specs.Prelude.{ℕ, ◌<◌, Option, Some, None, List, [], ◌∷◌, slice_get, unwrap_or}
use Rattle.std.specs.List.{AllByRecursion}
use Rattle.ceal_base.specs.Block.{Block}
use Rattle.ceal_base.specs.declared.word.BlockId.{BlockId}
use Rattle.ceal_base.specs.declared.word.BlockId.TheVariants.{Input, Core}
use Rattle.ceal_base.specs.declared.word.Place.{Place}
use Rattle.ceal_base.specs.declared.word.Word.{Word}
use Rattle.ceal_base.specs.declared.word.Word.TheVariants.{Null}
use Rattle.ceal_engine.specs.Engine.{with_base}
use Rattle.ceal_session.specs.declared.journal.Edit.{Edit}

-- the inputs as they were before the edits, of which the last ones are undone first
abbrev pub undone : List Edit → List Block → List Block
undone [] inputs = inputs
undone (e ∷ es) inputs = with_base (undone es inputs) e.place e.base

-- the word of a block's field; null where there is none
abbrev pub word_of : Option Block → ℕ → Word
word_of None field = Null
word_of (Some block) field = unwrap_or (slice_get block.words field) Null

abbrev pub base_in : List Block → BlockId → ℕ → Word
base_in inputs (Input n) field = word_of (slice_get inputs n) field
base_in inputs (Core n) field = Null

-- what is at a place of the inputs
abbrev pub base_at : List Block → Place → Word
base_at inputs p = base_in inputs p.block p.field

-- the block is one of the first inputs
abbrev pub IsWithin : ℕ → BlockId → Type 0
IsWithin n (Input i) = i < n
IsWithin n (Core b) = ⊥

-- so it is with the block of each edit
abbrev pub AreWithin : ℕ → List Edit → Type 0
AreWithin n es = AllByRecursion (λ e. IsWithin n e.place.block) es
