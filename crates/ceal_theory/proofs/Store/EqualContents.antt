-- Stores with equal contents have equal contents after a write and after a new block.
use Rattle.std.proofs.Common.{◌≡◌, if◌then◌else◌, ap}
use Rattle.ceal_base.specs.Operators.{same_block, same_place}
use Rattle.ceal_base.specs.declared.forest.Key.{Key}
use Rattle.ceal_base.specs.declared.word.BlockId.{BlockId}
use Rattle.ceal_base.specs.declared.word.Place.{Place}
use Rattle.ceal_base.specs.declared.word.Word.{Word}
use Rattle.ceal_code.specs.Program.{Code}
use Rattle.ceal_code.specs.Replay.{Store, cell_default, shape_of, cleared, stored}
use Rattle.ceal_code.specs.Value.{field_kind}

pub stored-equal : (s t : Store) (p : Place) (w : Word) (q : Place) → s q ≡ t q → stored s p w q ≡ stored t p w q
unfolding stored
stored-equal s t p w q e = ap (λ z. if same_place q p then w else z) e

pub cleared-equal : (code : Code) (s t : Store) (b : BlockId) (key : Key) (q : Place) → s q ≡ t q → cleared code s b key q ≡ cleared code t b key q
unfolding cleared
cleared-equal code s t b key q e = ap (λ z. if same_block q.block b then cell_default (field_kind code.structs (shape_of code key) q.field) else z) e
