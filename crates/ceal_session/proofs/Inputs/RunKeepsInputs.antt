-- A run changes nothing of an input but what its modifiables hold.
use Rattle.std.proofs.Common.{◌≡◌, ℕ, ◌==◌, Bool, true, false, Option, Some, None, List, [], refl, sym, ap, ◌∙◌, subst, slice_get, slice_set, arith}
use Rattle.ceal_base.specs.Block.{Block, Blocks, block_at, written_at}
use Rattle.ceal_base.specs.Finished.{Finished}
use Rattle.ceal_base.specs.Fitting.{kind_in, kind_at}
use Rattle.ceal_base.specs.Operators.{same_block}
use Rattle.ceal_base.specs.Shapes.{kinds_of_shape}
use Rattle.ceal_base.specs.declared.forest.UnitId.{UnitId}
use Rattle.ceal_base.specs.declared.kind.FieldKind.{FieldKind}
use Rattle.ceal_base.specs.declared.kind.FieldKind.TheVariants.{Plain, CellInt, CellPtr}
use Rattle.ceal_base.specs.declared.typed.StructInfo.{StructInfo}
use Rattle.ceal_base.specs.declared.word.BlockId.TheVariants.{Input}
use Rattle.ceal_base.specs.declared.word.Place.{Place}
use Rattle.ceal_base.specs.declared.word.Word.{Word}
use Rattle.ceal_base.specs.declared.word.Word.TheVariants.{Num, Null, Block as BlockWord, At}
use Rattle.ceal_code.proofs.Replay.RunEnds.{fresh-ends}
use Rattle.ceal_code.proofs.Replay.MemoryChanges.{altered, get-set_other, written-here, written-other}
use Rattle.ceal_code.proofs.Words.SameIsEqual.{nat-same, some-same, block-same}
use Rattle.ceal_code.specs.Fitting.{Fits}
use Rattle.ceal_code.specs.Fresh.{fresh}
use Rattle.ceal_code.specs.Laws.{ProgressLaw}
use Rattle.ceal_code.specs.Program.{Code}
use Rattle.ceal_code.specs.Running.{Steps, Reaches, Modifiable, CommandThere, StackThere, NotStuck}
use Rattle.ceal_code.specs.Step.{Stack, Empty, Run, Writes, command_at, place_of, writes_at, reads_at, stack_after_quiet, act, acted, started, next}
use Rattle.ceal_code.specs.Valid.{valid}
use Rattle.ceal_code.specs.Value.{Variables, is_cell, expr_value}
use Rattle.ceal_code.specs.declared.command.Cmd.{Cmd}
use Rattle.ceal_code.specs.declared.command.Cmd.TheVariants.{Move, Tick, Alloc, Modref, Write, If, Done, Tail, Read, Call}
use Rattle.ceal_engine.specs.Engine.{is_plain}

-- the block is there, with the same shape and plain words
pub record Like (structs : List StructInfo) (a : Block) (o : Option Block) : Type 0 where
  pub block : Block
  pub there : o ≡ Some block
  pub shape : block.shape ≡ a.shape
  pub plain : (f : ℕ) → is_plain (slice_get (kinds_of_shape structs a.shape) f) ≡ true → slice_get block.words f ≡ slice_get a.words f

abbrev pub Kept : List StructInfo → List Block → List Block → Type 0
Kept structs xs ys = (n : ℕ) (a : Block) → slice_get xs n ≡ Some a → Like structs a (slice_get ys n)

not-both : (k : Option FieldKind) → is_cell k ≡ true → is_plain k ≡ true → ⊥
not-both None h p = absurd (grind (arith, h))
not-both (Some (Plain kind)) h p = absurd (grind (arith, h))
not-both (Some CellInt) h p = absurd (grind (arith, p))
not-both (Some (CellPtr s)) h p = absurd (grind (arith, p))

module _ (code : Code) where
  -- what a step writes is a modifiable
  place-cell : (m : Blocks) (p : Place) (value v : Word) (after st : Stack) (w : Word) → Modifiable code.structs m w → writes_at (place_of w) v st ≡ Writes p value after
      → is_cell (kind_at code.structs m p) ≡ true
  place-cell m p value v after st (At q) h e = let i : q ≡ p = grind (arith, e) in subst (λ p. is_cell (kind_at code.structs m p) ≡ true) i h
  place-cell m p value v after st Null h e = absurd (grind (arith, e))
  place-cell m p value v after st (Num n) h e = absurd h
  place-cell m p value v after st (BlockWord b) h e = absurd h

  no-write : (o : Option Place) (u : UnitId) (v : ℕ) (args : List Word) (below after : Stack) (p : Place) (value : Word) → reads_at code o u v args below ≡ Writes p value after → ⊥
  no-write None u v args below after p value e = absurd (grind (arith, e))
  no-write (Some q) u v args below after p value e = absurd (grind (arith, e))

  command-cell : (m : Blocks) (u i : ℕ) (env : Variables) (below after : Stack) (p : Place) (value : Word) (c : Cmd) → CommandThere code m u env c
      → act code (block_at m) c u i env below ≡ Writes p value after → is_cell (kind_at code.structs m p) ≡ true
  command-cell m u i env below after p value (Write q e) h a = place-cell m p value _ after _ (expr_value code.structs (block_at m) env q) h.2 a
  command-cell m u i env below after p value (Read v q w args) h a = absurd (no-write _ w _ _ below after p value a)
  command-cell m u i env below after p value (Move v e) h a = absurd (grind (arith, a))
  command-cell m u i env below after p value Tick h a = absurd (grind (arith, a))
  command-cell m u i env below after p value (Alloc v g args) h a = absurd (grind (arith, a))
  command-cell m u i env below after p value (Modref v shape) h a = absurd (grind (arith, a))
  command-cell m u i env below after p value (If test first second) h a = absurd (grind (arith, a))
  command-cell m u i env below after p value Done h a = absurd (grind (arith, a))
  command-cell m u i env below after p value (Tail w args) h a = absurd (grind (arith, a))
  command-cell m u i env below after p value (Call g args w rest) h a = absurd (grind (arith, a))

  stack-cell : (m : Blocks) (st after : Stack) (p : Place) (value : Word) → StackThere code m st → acted code (block_at m) st ≡ Writes p value after
      → is_cell (kind_at code.structs m p) ≡ true
  stack-cell m Empty after p value h e = absurd (grind (arith, e))
  stack-cell m (Run u i env below) after p value h e = command-cell m u i env below after p value (command_at code u i) h.2 e

module _ (structs : List StructInfo) where
  like-same : (a : Block) (o : Option Block) → o ≡ Some a → Like structs a o
  like-same a o e = record { block = a; there = e; shape = refl; plain = λ f h. refl }

  pub kept-same : (xs : List Block) → Kept structs xs xs
  kept-same xs n a e = like-same a (slice_get xs n) e

  -- a write of a modifiable
  module _ (inputs : List Block) (m : Blocks) (p : Place) (value : Word) (cell : is_cell (kind_at structs m p) ≡ true) (k : Kept structs inputs m.inputs) where
    at-cell : (t : Block) → block_at m p.block ≡ Some t → is_cell (slice_get (kinds_of_shape structs t.shape) p.field) ≡ true
    at-cell t e = subst (λ o. is_cell (kind_in structs o p.field) ≡ true) e cell

    word-other : (a t : Block) → t.shape ≡ a.shape → is_cell (slice_get (kinds_of_shape structs t.shape) p.field) ≡ true → (f : ℕ) → is_plain (slice_get (kinds_of_shape structs a.shape) f) ≡ true
        → slice_get (slice_set t.words p.field value) f ≡ slice_get t.words f
    word-other a t s c f h = go (f == p.field) refl
      where
        go : (b : Bool) → (f == p.field) ≡ b → slice_get (slice_set t.words p.field value) f ≡ slice_get t.words f
        go true e =
            let i : f ≡ p.field = nat-same f p.field e in
            absurd (not-both (slice_get (kinds_of_shape structs a.shape) p.field) (subst (λ s. is_cell (slice_get (kinds_of_shape structs s) p.field) ≡ true) s c) (rw i at h))
        go false e = get-set_other t.words p.field f value e

    written-like : (n : ℕ) (a t : Block) → block_at m p.block ≡ Some t → Like structs a (slice_get m.inputs n) → Like structs a (block_at (written_at m p.block p.field value) (Input n))
    written-like n a t there l = go (same_block (Input n) p.block) refl
      where
        go : (b : Bool) → same_block (Input n) p.block ≡ b → Like structs a (block_at (written_at m p.block p.field value) (Input n))
        go true e =
            let i : Input n ≡ p.block = block-same (Input n) p.block e in
            let is : l.block ≡ t = some-same l.block t (sym l.there ∙ ap (block_at m) i ∙ there) in
            let shape : t.shape ≡ a.shape = ap (λ b. b.shape) (sym is) ∙ l.shape in
            record {
              block = altered t p.field value;
              there = ap (block_at (written_at m p.block p.field value)) i ∙ written-here m p.block p.field value t there;
              shape = shape;
              plain = λ f h. word-other a t shape (at-cell t there) f h ∙ ap (λ b. slice_get b.words f) (sym is) ∙ l.plain f h;
            }
        go false e = record { block = l.block; there = written-other m p.block (Input n) p.field value t there e ∙ l.there; shape = l.shape; plain = l.plain }

    kept-written : Kept structs inputs (written_at m p.block p.field value).inputs
    kept-written n a e = go (block_at m p.block) refl
      where
        go : (o : Option Block) → block_at m p.block ≡ o → Like structs a (slice_get (written_at m p.block p.field value).inputs n)
        go None i = absurd (grind (arith, subst (λ o. is_cell (kind_in structs o p.field) ≡ true) i cell))
        go (Some t) i = written-like n a t i (k n a e)

module _ (code : Code) (inputs : List Block) (law : ProgressLaw) (ok : valid code ≡ true) (f : ℕ) (args : List Word) (fits : Fits code inputs f args) where
  kept-step : {m m' : Blocks} {st st' : Stack} → NotStuck code m st → Steps code m st m' st' → Kept code.structs inputs m.inputs → Kept code.structs inputs m'.inputs
  unfolding next
  kept-step h (Steps.quiet e) k = k
  kept-step h (Steps.makes e) k = k
  kept-step h (Steps.reads e) k = k
  kept-step h (Steps.writes {m = m} {st = st} {after = after} {p = p} {value = value} e) k =
      kept-written code.structs inputs m p value (stack-cell code m (stack_after_quiet code (block_at m) st) after p value h.settles e) k

  kept-reached : {m : Blocks} {st : Stack} → Reaches code (record { inputs = inputs; made = [] }) (started code f args) m st → Kept code.structs inputs m.inputs
  kept-reached Reaches.begin = kept-same code.structs inputs
  kept-reached (Reaches.step r s) = kept-step (law code ok inputs f args fits _ _ r) s (kept-reached r)

  pub kept-fresh : (fuel : ℕ) (r : Finished) → fresh code f args inputs fuel ≡ Some r → Kept code.structs inputs r.memory.inputs
  kept-fresh fuel r e = kept-reached (fresh-ends code inputs f args fuel r e).reaches
