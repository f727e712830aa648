-- Inputs that extend others: after one more, and after an edit.
use Rattle.std.proofs.Common.{◌≡◌, inl, inr, ℕ, zero, suc, Bool, true, false, if◌then◌else◌, Option, Some, None, List}
use Rattle.std.proofs.Common.{[], ◌∷◌, ◌++◌, ◌<◌, length, refl, sym, ap, ◌∙◌, subst, slice_get, slice_set, arith}
use Rattle.std.proofs.lemmas.Bool.Decides.{leb_tells}
use Rattle.std.specs.Option.{option_map}
use Rattle.ceal_base.specs.Block.{Block, alone, block_at, written_at}
use Rattle.ceal_base.specs.Fitting.{kind_in, kind_at}
use Rattle.ceal_base.specs.Operators.{same_block}
use Rattle.ceal_base.specs.Shapes.{kinds_of_shape, default_of_field}
use Rattle.ceal_base.specs.declared.kind.FieldKind.{FieldKind}
use Rattle.ceal_base.specs.declared.word.BlockId.{BlockId}
use Rattle.ceal_base.specs.declared.word.BlockId.TheVariants.{Input, Core}
use Rattle.ceal_base.specs.declared.word.Place.{Place}
use Rattle.ceal_base.specs.declared.word.Word.{Word}
use Rattle.ceal_code.proofs.TypedCode.ShapesKept.{ShapesKept}
use Rattle.ceal_code.proofs.Replay.MemoryChanges.{altered, got, get-before, get-within, written-here, written-other}
use Rattle.ceal_code.proofs.Words.SameIsEqual.{block-same, none-some, some-same}
use Rattle.ceal_code.specs.Program.{Code}
use Rattle.ceal_code.specs.Replay.{plain_words, plain_block, content_in, bases}
use Rattle.ceal_code.specs.Value.{is_cell}
use Rattle.ceal_theory.specs.Adjust.{Extended}
use Rattle.ceal_theory.specs.MoreInputs.{SameBases}

pub extended-same : (code : Code) (inputs : List Block) → Extended code inputs inputs
extended-same code inputs i block e = ap (option_map (plain_block code.structs)) e

pub extended-longer : (code : Code) (inputs : List Block) (b : Block) → Extended code inputs (inputs ++ b ∷ [])
extended-longer code inputs b i block e = ap (option_map (plain_block code.structs)) (get-before inputs (b ∷ []) i (get-within inputs i block e) ∙ e)

-- the word of a modifiable is no plain word
cell-set : (kinds : List FieldKind) (ws : List Word) (f : ℕ) (w : Word) → is_cell (slice_get kinds f) ≡ true → plain_words kinds (slice_set ws f w) ≡ plain_words kinds ws
cell-set [] ws f w h = absurd (grind (arith, h))
cell-set (kind ∷ kinds) [] f w h = refl
cell-set (kind ∷ kinds) (v ∷ ws) zero w h = rw h refl
cell-set (kind ∷ kinds) (v ∷ ws) (suc f) w h = ap (λ l. (if is_cell (Some kind) then default_of_field kind else v) ∷ l) (cell-set kinds ws f w h)

module _ (code : Code) (inputs : List Block) (p : Place) (w : Word) (cell : is_cell (kind_at code.structs (alone inputs) p) ≡ true) where
  abbrev edited : List Block
  edited = (written_at (alone inputs) p.block p.field w).inputs

  abbrev plain : Option Block → Option Block
  plain = option_map (plain_block code.structs)

  altered-plain : (t : Block) → block_at (alone inputs) p.block ≡ Some t → plain_block code.structs (altered t p.field w) ≡ plain_block code.structs t
  altered-plain t e =
      ap (λ ws. record t { words = ws })
      (cell-set (kinds_of_shape code.structs t.shape) t.words p.field w (subst (λ o. is_cell (kind_in code.structs o p.field) ≡ true) e cell))

  here : (b : BlockId) → same_block b p.block ≡ true → (t block : Block) → block_at (alone inputs) p.block ≡ Some t → block_at (alone inputs) b ≡ Some block
      → plain (block_at (written_at (alone inputs) p.block p.field w) b) ≡ Some (plain_block code.structs block)
  here b s t block e h =
      let i : b ≡ p.block = block-same b p.block s in
      let is : t ≡ block = some-same t block (sym e ∙ ap (block_at (alone inputs)) (sym i) ∙ h) in
      ap (λ c. plain (block_at (written_at (alone inputs) p.block p.field w) c)) i
      ∙ ap plain (written-here (alone inputs) p.block p.field w t e) ∙ ap Some (altered-plain t e) ∙ ap (λ b. Some (plain_block code.structs b)) is

  pub extended-edited : Extended code inputs edited
  extended-edited i block h = of-block (block_at (alone inputs) p.block) refl
    where
      at : (t : Block) → block_at (alone inputs) p.block ≡ Some t → (s : Bool) → same_block (Input i) p.block ≡ s
          → plain (block_at (written_at (alone inputs) p.block p.field w) (Input i)) ≡ Some (plain_block code.structs block)
      at t e true s = here (Input i) s t block e h
      at t e false s = ap plain (written-other (alone inputs) p.block (Input i) p.field w t e s ∙ h)

      of-block : (o : Option Block) → block_at (alone inputs) p.block ≡ o → plain (slice_get edited i) ≡ Some (plain_block code.structs block)
      of-block None e = absurd (grind (arith, subst (λ o. is_cell (kind_in code.structs o p.field) ≡ true) e cell))
      of-block (Some t) e = at t e (same_block (Input i) p.block) refl

pub extended-on : (code : Code) (xs ys zs : List Block) → Extended code xs ys → Extended code ys zs → Extended code xs zs
extended-on code xs ys zs h k i block e = go (slice_get ys i) refl (h i block e)
  where
    go : (o : Option Block) → slice_get ys i ≡ o → option_map (plain_block code.structs) o ≡ Some (plain_block code.structs block)
        → option_map (plain_block code.structs) (slice_get zs i) ≡ Some (plain_block code.structs block)
    go None j p = none-some (plain_block code.structs block) p
    go (Some c) j p = k i c j ∙ p

-- inputs of one count that extend others have their shapes
module _ (code : Code) (old new : List Block) (h : Extended code old new) (count : length old ≡ length new) where
  pub shapes-back : ShapesKept (alone new) (alone old)
  shapes-back (Core c) block e = none-some block e
  shapes-back (Input i) block e =
      let there = get-within new i block e in
      let old-there = got old i (subst (λ n. i < n) (sym count) there) in
      let p = h i old-there.0 old-there.1 in
      (old-there.0, old-there.1, ap (λ b. b.shape) (some-same (plain_block code.structs old-there.0) (plain_block code.structs block) (sym p ∙ ap (option_map (plain_block code.structs)) e)))

  -- one input more after both
  pub extended-both : (b : Block) → Extended code (old ++ b ∷ []) (new ++ b ∷ [])
  extended-both b i block e = elim (leb_tells (suc i) (length old)) [
    | inl p ↦ front (omega (arith, p.1))
    | inr p ↦ ap (option_map (plain_block code.structs)) (sym (behind old new i count (λ k. absurd (let q = p.1 in omega (arith, k, q)))) ∙ e)
  ]
    where
      front : i < length old → option_map (plain_block code.structs) (slice_get (new ++ b ∷ []) i) ≡ Some (plain_block code.structs block)
      front l =
          let e' : slice_get old i ≡ Some block = sym (get-before old (b ∷ []) i l) ∙ e in
          ap (option_map (plain_block code.structs)) (get-before new (b ∷ []) i (subst (λ n. i < n) count l)) ∙ h i block e'

      behind : (xs ys : List Block) (i : ℕ) → length xs ≡ length ys → ¬ (i < length xs) → slice_get (xs ++ b ∷ []) i ≡ slice_get (ys ++ b ∷ []) i
      behind [] [] i c n = refl
      behind [] (y ∷ ys) i c n = absurd (omega (arith, c))
      behind (x ∷ xs) [] i c n = absurd (omega (arith, c))
      behind (x ∷ xs) (y ∷ ys) zero c n = absurd (n (omega arith))
      behind (x ∷ xs) (y ∷ ys) (suc i) c n = behind xs ys i (omega (arith, c)) (λ l. n (omega (arith, l)))

-- the old inputs have their bases with one input more
pub same-bases : (code : Code) (inputs : List Block) (b : Block) → SameBases code inputs (inputs ++ b ∷ [])
unfolding bases
same-bases code inputs b i field h = ap (λ o. content_in code.structs o field) (sym (get-before inputs (b ∷ []) i h))
