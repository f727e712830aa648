-- A memory whose words fit is whole.
use Rattle.std.proofs.Common.{◌≡◌, ℕ, Bool, true, zero, suc, List, [], ◌∷◌, length, Option, Some, None, refl, sym, ap, ◌∙◌, arith}
use Rattle.std.specs.Prelude.{slice_get, is_some, IsTrue}
use Rattle.std.specs.List.{list_all}
use Rattle.std.proofs.lemmas.Bool.{false≢true, and_parts}
use Rattle.ceal_base.specs.Access.{of_struct}
use Rattle.ceal_base.specs.Block.{Block, Blocks, block_at}
use Rattle.ceal_base.specs.Fitting.{kind_in, is_int_cell, is_pointer_cell, fits_kind, fits_field, fields_fit, block_fits, memory_fits}
use Rattle.ceal_base.specs.Shapes.{kinds_of_shape}
use Rattle.ceal_base.specs.declared.kind.FieldKind.{FieldKind}
use Rattle.ceal_base.specs.declared.kind.FieldKind.TheVariants.{Plain, CellInt, CellPtr}
use Rattle.ceal_base.specs.declared.kind.Kind.{Kind}
use Rattle.ceal_base.specs.declared.kind.Kind.TheVariants.{Int, Ptr, ModInt, ModPtr}
use Rattle.ceal_base.specs.declared.typed.StructInfo.{StructInfo}
use Rattle.ceal_base.specs.declared.word.BlockId.{BlockId}
use Rattle.ceal_base.specs.declared.word.BlockId.TheVariants.{Input, Core}
use Rattle.ceal_base.specs.declared.word.Word.{Word}
use Rattle.ceal_base.specs.declared.word.Word.TheVariants.{Num, Null, Block as BlockWord, At}
use Rattle.ceal_show.specs.Shown.{words_in, target, IsThere, IsWhole}

at_each : {A : Type 0} (p : A → Bool) (xs : List A) (i : ℕ) (x : A) → list_all p xs ≡ true → slice_get xs i ≡ Some x → p x ≡ true
at_each p [] i x h e = absurd cc
at_each p (y ∷ xs) zero x h e = let same : y ≡ x = cc in ap p (sym same) ∙ (and_parts (p y) (list_all p xs) h).0
at_each p (y ∷ xs) (suc i) x h e = at_each p xs i x (and_parts (p y) (list_all p xs) h).1 e

module _ (structs : List StructInfo) (m : Blocks) where
  pointed_there : (s : ℕ) (o : Option Block) → is_some (of_struct s o) ≡ true → is_some o ≡ true
  pointed_there s None h = absurd (false≢true h)
  pointed_there s (Some block) h = refl

  int_there : (o : Option Block) (field : ℕ) → is_int_cell (kind_in structs o field) ≡ true → is_some o ≡ true
  int_there None field h = absurd (false≢true h)
  int_there (Some block) field h = refl

  pointer_there : (s : ℕ) (o : Option Block) (field : ℕ) → is_pointer_cell s (kind_in structs o field) ≡ true → is_some o ≡ true
  pointer_there s None field h = absurd (false≢true h)
  pointer_there s (Some block) field h = refl

  kind_there : (kind : Kind) (w : Word) → fits_kind structs m kind w ≡ true → IsThere (block_at m) (target w)
  kind_there kind (Num n) h = tt
  kind_there kind Null h = tt
  kind_there Int (BlockWord b) h = absurd (false≢true h)
  kind_there (Ptr s) (BlockWord b) h = pointed_there s (block_at m b) h
  kind_there ModInt (BlockWord b) h = absurd (false≢true h)
  kind_there (ModPtr s) (BlockWord b) h = absurd (false≢true h)
  kind_there Int (At p) h = absurd (false≢true h)
  kind_there (Ptr s) (At p) h = absurd (false≢true h)
  kind_there ModInt (At p) h = int_there (block_at m p.block) p.field h
  kind_there (ModPtr s) (At p) h = pointer_there s (block_at m p.block) p.field h

  field_there : (kind : FieldKind) (w : Word) → fits_field structs m kind w ≡ true → IsThere (block_at m) (target w)
  field_there (Plain kind) w h = kind_there kind w h
  field_there CellInt w h = kind_there Int w h
  field_there (CellPtr s) w h = kind_there (Ptr s) w h

  counted : (kinds : List FieldKind) (words : List Word) → fields_fit structs m kinds words ≡ true → length words ≡ length kinds
  counted [] [] h = refl
  counted [] (w ∷ words) h = absurd (false≢true h)
  counted (k ∷ kinds) [] h = absurd (false≢true h)
  counted (k ∷ kinds) (w ∷ words) h = let p = counted kinds words (and_parts (fits_field structs m k w) (fields_fit structs m kinds words) h).1 in omega (arith, p)

  each_there : (kinds : List FieldKind) (words : List Word) (i : ℕ) (w : Word) → fields_fit structs m kinds words ≡ true → slice_get words i ≡ Some w → IsThere (block_at m) (target w)
  each_there kinds [] i w h e = absurd cc
  each_there [] (x ∷ words) i w h e = absurd (false≢true h)
  each_there (k ∷ kinds) (x ∷ words) zero w h e =
      let same : x ≡ w = cc in
      field_there k w (ap (fits_field structs m k) (sym same) ∙ (and_parts (fits_field structs m k x) (fields_fit structs m kinds words) h).0)
  each_there (k ∷ kinds) (x ∷ words) (suc i) w h e = each_there kinds words i w (and_parts (fits_field structs m k x) (fields_fit structs m kinds words) h).1 e

  block_fine : memory_fits structs m ≡ true → (b : BlockId) (block : Block) → block_at m b ≡ Some block → block_fits structs m block ≡ true
  block_fine h (Input n) block e = at_each (block_fits structs m) m.inputs n block (and_parts (list_all (block_fits structs m) m.inputs) (list_all (block_fits structs m) m.made) h).0 e
  block_fine h (Core n) block e = at_each (block_fits structs m) m.made n block (and_parts (list_all (block_fits structs m) m.inputs) (list_all (block_fits structs m) m.made) h).1 e

  word_there : (o : Option Block) (field : ℕ) (w : Word) → ((block : Block) → o ≡ Some block → block_fits structs m block ≡ true) → slice_get (words_in o) field ≡ Some w
      → IsThere (block_at m) (target w)
  word_there None field w h e = absurd cc
  word_there (Some block) field w h e = each_there (kinds_of_shape structs block.shape) block.words field w (h block refl) e

pub fitting_whole : (structs : List StructInfo) (m : Blocks) → IsTrue (memory_fits structs m) → IsWhole structs (block_at m)
fitting_whole structs m h = record {
  fields = λ b block e. counted structs m (kinds_of_shape structs block.shape) block.words (block_fine structs m h b block e);
  named = λ b field w e. word_there structs m (block_at m b) field w (block_fine structs m h b) e;
}
