-- A handle stands for the same modifiable after each line.
use Rattle.std.proofs.Common.{◌≡◌, ℕ, true, Option, Some, None, List, refl, sym, ap, ◌∙◌, subst, slice_get, arith}
use Rattle.std.specs.Option.{option_map}
use Rattle.ceal_base.specs.Block.{Block, alone}
use Rattle.ceal_base.specs.Fitting.{kind_in, kind_at}
use Rattle.ceal_base.specs.Shapes.{kinds_of_shape}
use Rattle.ceal_base.specs.declared.kind.Shape.{Shape}
use Rattle.ceal_base.specs.declared.word.BlockId.{BlockId}
use Rattle.ceal_base.specs.declared.word.BlockId.TheVariants.{Input, Core}
use Rattle.ceal_code.proofs.Words.SameIsEqual.{some-same}
use Rattle.ceal_code.specs.Program.{Code}
use Rattle.ceal_code.specs.Replay.{plain_block}
use Rattle.ceal_code.specs.Value.{is_cell}
use Rattle.ceal_script.specs.declared.command.Command.{Command}
use Rattle.ceal_session.proofs.Engine.ProgramAndCode.{same-structs}
use Rattle.ceal_session.proofs.Replies.ReplyUpToNumbers.{LineFacts}
use Rattle.ceal_session.specs.Questions.{IsCellOf}
use Rattle.ceal_session.specs.Laws.{KeptHandleLaw}
use Rattle.ceal_session.specs.Replies.{Reads, situation_after}
use Rattle.ceal_session.specs.Runs.{memory_of}
use Rattle.ceal_session.specs.Consistency.{IsConsistent}
use Rattle.ceal_session.specs.State.{Situation}
use Rattle.ceal_theory.specs.Adjust.{Extended}

module _ (code : Code) (old new : List Block) (ext : Extended code old new) where
  -- a block keeps its shape, so a field keeps its kind
  same-kind : (block : Block) (field : ℕ) (o : Option Block) → option_map (plain_block code.structs) o ≡ Some (plain_block code.structs block)
      → kind_in code.structs o field ≡ kind_in code.structs (Some block) field
  same-kind block field None e = absurd (grind (arith, e))
  same-kind block field (Some b) e =
      ap (λ (shape : Shape). slice_get (kinds_of_shape code.structs shape) field)
      (ap (λ (c : Block). c.shape) (some-same (plain_block code.structs b) (plain_block code.structs block) e))

  stays : (i field : ℕ) (o : Option Block) → slice_get old i ≡ o → is_cell (kind_in code.structs o field) ≡ true → is_cell (kind_in code.structs (slice_get new i) field) ≡ true
  stays i field None e h = absurd (grind (arith, h))
  stays i field (Some block) e h = ap is_cell (same-kind block field (slice_get new i) (ext i block e)) ∙ h

  pub cell-stays : (b : BlockId) (field : ℕ) → is_cell (kind_at code.structs (alone old) (record { block = b; field = field })) ≡ true
      → is_cell (kind_at code.structs (alone new) (record { block = b; field = field })) ≡ true
  cell-stays (Input i) field h = stays i field (slice_get old i) refl h
  cell-stays (Core c) field h = absurd (grind (arith, h))

pub handle-law : ((m : Situation) (line : List ℕ) (command : Option Command) → Reads line command → IsConsistent m → LineFacts m command) → KeptHandleLaw
handle-law facts m n line text p st r cell =
    let f = facts m line r.command r.reads st in
    let after = situation_after m r.command in
    let before : is_cell (kind_at m.code.structs (memory_of m.state) p) ≡ true =
    subst (λ structs. is_cell (kind_at structs (memory_of m.state) p) ≡ true) (sym (same-structs m.state.program m.code st.compiled.code)) cell in
    subst (λ (x : Situation). IsCellOf x.state p) (sym r.next)
    (subst (λ structs. is_cell (kind_at structs (memory_of after.state) p) ≡ true) (same-structs after.state.program m.code f.stands.compiled.code)
    (cell-stays m.code m.state.inputs after.state.inputs f.extended p.block p.field before))
