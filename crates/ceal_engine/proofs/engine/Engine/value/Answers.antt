use Rattle.std.proofs.Common.{◌≡◌, true, ◌∙◌, sym, subst}
use Rattle.ceal_base.specs.Access.{word_in}
use Rattle.ceal_base.specs.Fitting.{kind_in}
use Rattle.ceal_base.specs.declared.word.Word.TheVariants.{Null}
use Rattle.ceal_code.specs.Value.{is_cell}
use Rattle.ceal_engine.proofs.Keeping.{run-kept}
use Rattle.ceal_engine.proofs.ReadRun.{value-read}
use Rattle.ceal_engine.specs.Engine.{block_in, stored_at}
use Rattle.ceal_engine.specs.Keeping.{running_in}
use Rattle.ceal_engine.specs.Reading.{content_at}
use Rattle.ceal_engine.specs.declared.phase.Phase.TheVariants.{Finished}
use Rattle.ceal_engine.proofs.engine.Engine.value.Goals as goal

pub content-requires : goal.content-requires
content-requires c = let v = c.self.inside in record { kept = run-kept v.code v.fuel v.inputs v.call.call v.run c.self.invariant.keeps }

-- the content is the last write of the place, or its base
pub returns : goal.returns
returns c =
    let v = c.self.inside in
    record {
      value =
          c.content.ensures
          ∙ subst (λ e. content_at (running_in v.run) v.inputs c.args.place ≡ word_in (stored_at e.memory c.args.place.block) c.args.place.field Null) c.self.view_is
          (value-read v.code v.inputs v.run (subst (λ e. e.phase ≡ Finished) (sym c.self.view_is) c.requires.finished) c.args.place
          (subst (λ e. is_cell (kind_in e.code.structs (block_in e c.args.place.block) c.args.place.field) ≡ true) (sym c.self.view_is) c.requires.there));
    }
