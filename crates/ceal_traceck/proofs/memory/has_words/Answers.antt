use Rattle.std.proofs.Common.{◌∙◌, sym}
use Rattle.ceal_code.specs.Tables.{memory_in}
use Rattle.ceal_traceck.proofs.MemorySteps.{told-no, none-told, told-none, words-wrong, words-more, words-all, words-end, rest-more}
use Rattle.ceal_traceck.proofs.memory.has_words.Goals as goal

-- the word of this field differs, so not all words agree
pub returns-then-not-is_word : goal.returns-then-not-is_word
returns-then-not-is_word c =
    told-no (words-wrong (memory_in c.args.memory.now c.args.id) c.args.words.now c.loop-word.field c.loop-word.rest.now c.loop-word.invariant.rest
    c.in-Some.word.now c.in-Some.more.now c.word_after.result c.in-Some.ensures.cases.0 c.word_after.ensures.value c.if-not-is_word.ensures.1)

-- this word agrees too, and so do those before it
pub loop-word-preserved : goal.loop-word-preserved
loop-word-preserved c = record {
  rest = rest-more c.loop-word.field c.in_ok-field.field c.args.words.now c.loop-word.rest.now c.in-Some.more.now
      c.in-Some.word.now c.loop-word.invariant.rest c.in-Some.ensures.cases.0 c.in_ok-field.ensures;
  same = words-more (memory_in c.args.memory.now c.args.id) c.args.words.now c.loop-word.field c.loop-word.rest.now c.loop-word.invariant.rest
      c.in-Some.word.now c.in-Some.more.now c.word_after.result c.in_ok-field.field c.in-Some.ensures.cases.0 c.word_after.ensures.value
      (c.is_word.ensures.0 c.if-not-is_word.false) c.in_ok-field.ensures c.loop-word.invariant.same;
}

-- all words agree so far; the block has no more of them exactly when it has none at the next field
pub returns : goal.returns
returns c = (
  λ t. words-all (memory_in c.args.memory.now c.args.id) c.args.words.now c.loop-word.field c.loop-word.rest.now c.loop-word.invariant.rest c.in_default.ensures.cases c.loop-word.invariant.same
      (sym c.word_after-2.ensures.value ∙ none-told c.word_after-2.result c.is_none.result c.is_none.ensures t),
  λ h. told-none c.word_after-2.result c.is_none.result c.is_none.ensures
      (c.word_after-2.ensures.value
      ∙ words-end (memory_in c.args.memory.now c.args.id) c.args.words.now c.loop-word.field c.loop-word.rest.now c.loop-word.invariant.rest c.in_default.ensures.cases h),
)
