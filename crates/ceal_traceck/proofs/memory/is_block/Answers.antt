use Rattle.std.proofs.Common.{Some, ◌∙◌, sym, ap, slice_get}
use Rattle.std.proofs.lemmas.Bool.{false≢true}
use Rattle.ceal_code.specs.PlainWords.{block_shape}
use Rattle.ceal_code.specs.Tables.{code_in, plain_in, store_in, memory_in}
use Rattle.ceal_traceck.proofs.MemorySteps.{told-no, if-ok, shape-after, block-is, is-block}
use Rattle.ceal_traceck.proofs.memory.is_block.Goals as goal

-- blocks of two shapes are not the same
pub returns-then-not-is_shape : goal.returns-then-not-is_shape
returns-then-not-is_shape c =
    let m = c.args.memory.now in
    told-no (λ h. false≢true (c.if-not-is_shape.ensures.1
    (c.shape.ensures ∙ (sym (shape-after (code_in m) (plain_in m) (store_in m) c.args.id) ∙
    (ap block_shape h ∙ ap Some (sym c.recorded_shape.ensures))))))

-- of one shape, blocks are the same exactly when their words are
pub returns : goal.returns
returns c =
    let m = c.args.memory.now in
    if-ok c.has_words.result _ _ (λ same h. (
      λ t. block-is (memory_in m c.args.id) c.args.block.now
          (shape-after (code_in m) (plain_in m) (store_in m) c.args.id ∙ (sym c.shape.ensures ∙ (c.is_shape.ensures.0 c.if-not-is_shape.false ∙ ap Some c.recorded_shape.ensures)))
          (λ f. h.0 t f ∙ ap (λ words. slice_get words f) c.items.ensures.value),
      λ e. h.1 (λ f. is-block (memory_in m c.args.id) c.args.block.now e f ∙ ap (λ words. slice_get words f) (sym c.items.ensures.value)),
    )) c.has_words.ensures
