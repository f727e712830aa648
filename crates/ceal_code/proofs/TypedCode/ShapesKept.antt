-- What fits a kind in a memory fits it in each that keeps the shapes of its blocks.
use Rattle.std.proofs.Common.{◌≡◌, ℕ, Bool, true, false, if◌then◌else◌, Option, Some, None, List, [], ◌∷◌, is_some, refl, sym, ap, ◌∙◌, arith}
use Rattle.ceal_base.specs.Access.{of_struct, is_struct}
use Rattle.ceal_base.specs.Block.{Block, Blocks, block_at, written_at}
use Rattle.ceal_base.specs.Finished.{with_block}
use Rattle.ceal_base.specs.Fitting.{kind_in, kind_at, is_int_cell, is_pointer_cell, fits_kind, fits_field, words_fit, fields_fit}
use Rattle.ceal_base.specs.Operators.{same_block}
use Rattle.ceal_base.specs.declared.kind.FieldKind.{FieldKind}
use Rattle.ceal_base.specs.declared.kind.FieldKind.TheVariants.{Plain as PlainField, CellInt, CellPtr}
use Rattle.ceal_base.specs.declared.kind.Kind.{Kind}
use Rattle.ceal_base.specs.declared.kind.Kind.TheVariants.{Int, Ptr, ModInt, ModPtr}
use Rattle.ceal_base.specs.declared.typed.StructInfo.{StructInfo}
use Rattle.ceal_base.specs.declared.word.BlockId.{BlockId}
use Rattle.ceal_base.specs.declared.word.BlockId.TheVariants.{Input, Core}
use Rattle.ceal_base.specs.declared.word.Place.{Place}
use Rattle.ceal_base.specs.declared.word.Word.{Word}
use Rattle.ceal_base.specs.declared.word.Word.TheVariants.{Num, Null, Block as BlockWord, At}
use Rattle.ceal_code.proofs.Replay.MemoryChanges.{altered, written-here, written-other, get-before, get-within}
use Rattle.ceal_code.proofs.Words.SameIsEqual.{both, block-same, some-same, none-some, both-true}

-- each block is there, of the same shape
abbrev pub ShapesKept : Blocks → Blocks → Type 0
ShapesKept m m' = (b : BlockId) (block : Block) → block_at m b ≡ Some block → (c : Block) × (block_at m' b ≡ Some c) × (c.shape ≡ block.shape)

module _ (structs : List StructInfo) (m m' : Blocks) (kept : ShapesKept m m') where
  pub kind-kept : (b : BlockId) (f : ℕ) (k : FieldKind) (o : Option Block) → block_at m b ≡ o → kind_in structs o f ≡ Some k → kind_in structs (block_at m' b) f ≡ Some k
  kind-kept b f k None e h = none-some k h
  kind-kept b f k (Some block) e h = let c = kept b block e in rw (c.1, c.2) h

  int-kept : (p : Place) (k : Option FieldKind) → kind_at structs m p ≡ k → is_int_cell k ≡ true → is_int_cell (kind_at structs m' p) ≡ true
  int-kept p None e h = absurd (grind (arith, h))
  int-kept p (Some k) e h = rw (kind-kept p.block p.field k (block_at m p.block) refl e) h

  pointer-kept : (s : ℕ) (p : Place) (k : Option FieldKind) → kind_at structs m p ≡ k → is_pointer_cell s k ≡ true → is_pointer_cell s (kind_at structs m' p) ≡ true
  pointer-kept s p None e h = absurd (grind (arith, h))
  pointer-kept s p (Some k) e h = rw (kind-kept p.block p.field k (block_at m p.block) refl e) h

  struct-if : (s : ℕ) (b c : Block) → c.shape ≡ b.shape → is_some (of_struct s (Some b)) ≡ true → is_some (of_struct s (Some c)) ≡ true
  struct-if s b c e h = go (is_struct s b.shape) refl h
    where
      go : (t : Bool) → is_struct s b.shape ≡ t → is_some (if t then Some b else None) ≡ true → is_some (of_struct s (Some c)) ≡ true
      go true k h = rw (e, k)
      go false k h = absurd (grind (arith, h))

  struct-kept : (s : ℕ) (b : BlockId) (o : Option Block) → block_at m b ≡ o → is_some (of_struct s o) ≡ true → is_some (of_struct s (block_at m' b)) ≡ true
  struct-kept s b None e h = absurd (grind (arith, h))
  struct-kept s b (Some block) e h = let c = kept b block e in rw c.1 (struct-if s block c.0 c.2 h)

  pub fits-kept : (kind : Kind) (w : Word) → fits_kind structs m kind w ≡ true → fits_kind structs m' kind w ≡ true
  fits-kept Int (Num n) h = h
  fits-kept Int Null h = h
  fits-kept Int (BlockWord b) h = h
  fits-kept Int (At p) h = h
  fits-kept (Ptr s) Null h = h
  fits-kept (Ptr s) (BlockWord b) h = struct-kept s b (block_at m b) refl h
  fits-kept (Ptr s) (Num n) h = h
  fits-kept (Ptr s) (At p) h = h
  fits-kept ModInt Null h = h
  fits-kept ModInt (At p) h = int-kept p (kind_at structs m p) refl h
  fits-kept ModInt (Num n) h = h
  fits-kept ModInt (BlockWord b) h = h
  fits-kept (ModPtr s) Null h = h
  fits-kept (ModPtr s) (At p) h = pointer-kept s p (kind_at structs m p) refl h
  fits-kept (ModPtr s) (Num n) h = h
  fits-kept (ModPtr s) (BlockWord b) h = h

  pub field-kept : (kind : FieldKind) (w : Word) → fits_field structs m kind w ≡ true → fits_field structs m' kind w ≡ true
  field-kept (PlainField kind) w h = fits-kept kind w h
  field-kept CellInt w h = fits-kept Int w h
  field-kept (CellPtr s) w h = fits-kept (Ptr s) w h

  pub words-kept : (kinds : List Kind) (ws : List Word) → words_fit structs m kinds ws ≡ true → words_fit structs m' kinds ws ≡ true
  words-kept [] [] h = h
  words-kept [] (w ∷ ws) h = h
  words-kept (kind ∷ kinds) [] h = h
  words-kept (kind ∷ kinds) (w ∷ ws) h =
      let k = both (fits_kind structs m kind w) (words_fit structs m kinds ws) h in
      both-true (fits_kind structs m' kind w) (words_fit structs m' kinds ws) (fits-kept kind w k.0) (words-kept kinds ws k.1)

  pub fields-kept : (kinds : List FieldKind) (ws : List Word) → fields_fit structs m kinds ws ≡ true → fields_fit structs m' kinds ws ≡ true
  fields-kept [] [] h = h
  fields-kept [] (w ∷ ws) h = h
  fields-kept (kind ∷ kinds) [] h = h
  fields-kept (kind ∷ kinds) (w ∷ ws) h =
      let k = both (fits_field structs m kind w) (fields_fit structs m kinds ws) h in
      both-true (fits_field structs m' kind w) (fields_fit structs m' kinds ws) (field-kept kind w k.0) (fields-kept kinds ws k.1)

-- a write keeps the shapes
pub kept-written : (m : Blocks) (b : BlockId) (f : ℕ) (w : Word) (block : Block) → block_at m b ≡ Some block → ShapesKept m (written_at m b f w)
kept-written m b f w block there c other e = go (same_block c b) refl
  where
    go : (t : Bool) → same_block c b ≡ t → (d : Block) × (block_at (written_at m b f w) c ≡ Some d) × (d.shape ≡ other.shape)
    go true s =
        let i : c ≡ b = block-same c b s in
        let e' : block_at m b ≡ Some other = rw i at e in
        let is : block ≡ other = some-same block other (sym there ∙ e') in
        (altered block f w, rw i (written-here m b f w block there), ap (λ block. block.shape) is)
    go false s = (other, written-other m b c f w block there s ∙ e, refl)

-- so does a new block
pub kept-grown : (m : Blocks) (new : Block) → ShapesKept m (with_block m new)
kept-grown m new (Input i) block e = (block, e, refl)
kept-grown m new (Core c) block e = (block, get-before m.made (new ∷ []) c (get-within m.made c block e) ∙ e, refl)
