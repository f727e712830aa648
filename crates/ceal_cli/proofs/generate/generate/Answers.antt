use Rattle.std.proofs.Common.{◌∙◌}
use Rattle.ceal_cli.proofs.generate.generate.Goals as goal

pub returns : goal.returns
returns g c = record { writes = rw (c.items.ensures.value ∙ c.in_ok-text.ensures.exact) at c.reply_to.ensures.writes }

pub reply_to-requires : goal.reply_to-requires
reply_to-requires g c =
    let text = c.items.ensures.value ∙ c.in_ok-text.ensures.exact in
    let short = c.short_law.ensures.law c.args.kind c.args.seed c.args.size c.requires in record {
      small = rw text short;
      accepted = rw text (c.accepted_law.ensures.law c.args.kind c.args.seed c.args.size short);
    }
