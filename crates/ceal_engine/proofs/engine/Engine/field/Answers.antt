use Rattle.std.proofs.Common.{◌≡◌, true, ◌∙◌, sym, subst}
use Rattle.ceal_base.specs.Access.{word_in}
use Rattle.ceal_base.specs.Fitting.{kind_in}
use Rattle.ceal_base.specs.declared.word.Word.TheVariants.{Null}
use Rattle.ceal_engine.proofs.ReadRun.{field-read}
use Rattle.ceal_engine.specs.Engine.{block_in, is_plain}
use Rattle.ceal_engine.specs.Keeping.{running_in}
use Rattle.ceal_engine.proofs.engine.Engine.field.Goals as goal

-- a plain field never changes after its block was made, so its word is that of the run
pub returns : goal.returns
returns c = record {
  value =
      subst (λ e. c.plain_word.result ≡ word_in (block_in e c.args.block) c.args.index Null) c.self.view_is
      (c.plain_word.ensures
      ∙ field-read c.self.inside.code c.self.inside.inputs (running_in c.self.inside.run) c.args.block c.args.index
      (subst (λ e. is_plain (kind_in e.code.structs (block_in e c.args.block) c.args.index) ≡ true) (sym c.self.view_is) c.requires.there));
}
