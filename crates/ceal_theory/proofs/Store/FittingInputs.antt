-- What fitting inputs know at the beginning, and what more inputs keep.
use Rattle.std.proofs.Common.{◌≡◌, ℕ, pos, zero, suc, ◌≤◌, ◌<◌, Bool, true, false, if◌then◌else◌, Option, Some, None, List, [], ◌∷◌, length, slice_get, unwrap_or, refl, sym, ap, ◌∙◌, arith}
use Rattle.std.specs.Option.{option_map}
use Rattle.ceal_base.specs.Block.{Block, Blocks}
use Rattle.ceal_base.specs.Fitting.{inputs_fit}
use Rattle.ceal_base.specs.Shapes.{kinds_of_shape}
use Rattle.ceal_base.specs.declared.kind.FieldKind.{FieldKind}
use Rattle.ceal_base.specs.declared.kind.FieldKind.TheVariants.{Plain as PlainField, CellInt, CellPtr}
use Rattle.ceal_base.specs.declared.word.BlockId.{BlockId}
use Rattle.ceal_base.specs.declared.word.BlockId.TheVariants.{Input, Core}
use Rattle.ceal_base.specs.declared.word.Place.{Place}
use Rattle.ceal_base.specs.declared.word.Word.{Word}
use Rattle.ceal_base.specs.declared.word.Word.TheVariants.{Num}
use Rattle.ceal_code.proofs.Words.Closed.{get-of, chosen-of, entered-of, field_default-of}
use Rattle.ceal_code.proofs.TypedCode.FittingWords.{input-known}
use Rattle.ceal_code.proofs.TypedCode.ShapesKept.{ShapesKept, words-kept}
use Rattle.ceal_code.proofs.Words.StepLocality.{each-words, stack-of}
use Rattle.ceal_code.proofs.Replay.MemoryChanges.{get-within, got}
use Rattle.ceal_code.proofs.Words.SameIsEqual.{some-same, none-some}
use Rattle.ceal_code.specs.Fitting.{args_fit, Fits}
use Rattle.ceal_code.specs.Known.{Holds, KnownStack}
use Rattle.ceal_code.specs.Program.{Code}
use Rattle.ceal_code.specs.Replay.{KnownWord, KnownWords, plain_words, plain_block, input_plain, content_in, input_block, bases}
use Rattle.ceal_code.specs.Step.{Empty, started, unit_at, entry_of, chosen}
use Rattle.ceal_code.specs.Value.{field_kind, field_default, is_cell}
use Rattle.ceal_code.specs.declared.function.FunctionCode.{FunctionCode}
use Rattle.ceal_code.specs.declared.function.FunctionCode.TheVariants.{Core as CoreFunction, Init as InitFunction}
use Rattle.ceal_theory.proofs.Repair.RepairInvariant.{Extends}
use Rattle.ceal_theory.specs.Adjust.{Extended}

plain-known : (n : ℕ) (bs : List ℕ) (kinds : List FieldKind) (ws : List Word) → KnownWords n bs ws → KnownWords n bs (plain_words kinds ws)
plain-known n bs [] ws h = h
plain-known n bs (kind ∷ kinds) [] h = h
plain-known n bs (PlainField kind ∷ kinds) (w ∷ ws) h = (h.0, plain-known n bs kinds ws h.1)
plain-known n bs (CellInt ∷ kinds) (w ∷ ws) h = (tt, plain-known n bs kinds ws h.1)
plain-known n bs (CellPtr s ∷ kinds) (w ∷ ws) h = (tt, plain-known n bs kinds ws h.1)

module _ (code : Code) (inputs : List Block) (fit : inputs_fit code.structs inputs ≡ true) where
  pub inputs-hold : Holds (length inputs) [] (input_plain code inputs)
  unfolding input_plain
  inputs-hold (Input i) h =
      let g = got inputs i h in record {
        block = plain_block code.structs g.0;
        there = rw g.1;
        known = plain-known (length inputs) [] (kinds_of_shape code.structs g.0.shape) g.0.words (input-known code.structs inputs fit i g.0 g.1);
      }
  inputs-hold (Core c) h = elim h [ ]

  content-known : (i f : ℕ) (o : Option Block) → slice_get inputs i ≡ o → KnownWord (length inputs) [] (content_in code.structs o f)
  content-known i f None e = tt
  content-known i f (Some block) e = go (is_cell (field_kind code.structs block.shape f))
    where
      go : (t : Bool) → KnownWord (length inputs) [] (if t then unwrap_or (slice_get block.words f) (field_default (field_kind code.structs block.shape f)) else Num (pos 0))
      go true = get-of (KnownWord (length inputs) []) (λ n. tt) tt block.words f (field_default (field_kind code.structs block.shape f))
          (each-words (length inputs) [] block.words (input-known code.structs inputs fit i block e))
          (field_default-of (KnownWord (length inputs) []) (λ n. tt) tt (field_kind code.structs block.shape f))
      go false = tt

  base-known : (b : BlockId) (f : ℕ) → KnownWord (length inputs) [] (content_in code.structs (input_block inputs b) f)
  base-known (Input i) f = content-known i f (slice_get inputs i) refl
  base-known (Core c) f = tt

  pub bases-known : (p : Place) → KnownWord (length inputs) [] (bases code inputs p)
  unfolding bases
  bases-known p = base-known p.block p.field

pub no-core : (code : Code) (inputs : List Block) (c : ℕ) → input_plain code inputs (Core c) ≡ None
unfolding input_plain
no-core code inputs c = refl

-- the call knows what its arguments name
pub started-known : (n : ℕ) (bs : List ℕ) (code : Code) (f : ℕ) (args : List Word) → KnownWords n bs args → KnownStack n bs (started code f args)
started-known n bs code f args h =
    stack-of n bs (started code f args)
    (entered-of (KnownWord n bs) (λ n. tt) tt code (entry_of code f) (chosen (unit_at code (entry_of code f)).params args) Empty
    (chosen-of (KnownWord n bs) (λ n. tt) tt (unit_at code (entry_of code f)).params args (each-words n bs args h)) tt)

-- inputs that extend others
module _ (code : Code) (old new : List Block) (more : Extended code old new) where
  pub inputs-extend : Extends (input_plain code old) (input_plain code new)
  unfolding input_plain
  inputs-extend (Input i) block e = go (slice_get old i) refl e
    where
      go : (o : Option Block) → slice_get old i ≡ o → option_map (plain_block code.structs) o ≡ Some block → option_map (plain_block code.structs) (slice_get new i) ≡ Some block
      go None h e = none-some block e
      go (Some b) h e = more i b h ∙ e
  inputs-extend (Core c) block e = none-some block e

  there-in : (i : ℕ) (o : Option Block) (b : Block) → option_map (plain_block code.structs) o ≡ Some b → slice_get new i ≡ o → i < length new
  there-in i None b e h = none-some b e
  there-in i (Some c) b e h = get-within new i c h

  last-in : (n : ℕ) → length old ≡ n → n ≤ length new
  last-in zero e = omega arith
  last-in (suc n) e =
      let g = got old n (omega (arith, e)) in
      omega (arith, there-in n (slice_get new n) (plain_block code.structs g.0) (more n g.0 g.1) refl)

  pub more-inputs : length old ≤ length new
  more-inputs = last-in (length old) refl

  abbrev before : Blocks
  before = record { inputs = old; made = [] }

  abbrev after : Blocks
  after = record { inputs = new; made = [] }

  -- the shape of an old input
  shape-in : (i : ℕ) (b : Block) (o : Option Block) → slice_get old i ≡ Some b → slice_get new i ≡ o → (c : Block) × (slice_get new i ≡ Some c) × (c.shape ≡ b.shape)
  shape-in i b None e h = none-some (plain_block code.structs b) (sym (ap (option_map (plain_block code.structs)) h) ∙ more i b e)
  shape-in i b (Some c) e h =
      let same : plain_block code.structs c ≡ plain_block code.structs b = some-same (plain_block code.structs c)
      (plain_block code.structs b) (sym (ap (option_map (plain_block code.structs)) h) ∙ more i b e) in
      (c, h, ap (λ block. block.shape) same)

  shapes-kept : ShapesKept before after
  shapes-kept (Input i) block e = shape-in i block (slice_get new i) e refl
  shapes-kept (Core n) block e = none-some block e

  args-more : (f : Option FunctionCode) (args : List Word) → args_fit code.structs before f args ≡ true → args_fit code.structs after f args ≡ true
  args-more (Some (CoreFunction name entry params)) args h = words-kept code.structs before after shapes-kept params args h
  args-more (Some (InitFunction name s params body)) args h = h
  args-more None args h = h

  -- arguments that fit the old inputs fit the new ones
  pub fits-more : (f : ℕ) (args : List Word) → Fits code old f args → inputs_fit code.structs new ≡ true → Fits code new f args
  fits-more f args h fit = record { is_valid = h.is_valid; blocks = fit; words = args-more (slice_get code.functions f) args h.words }
