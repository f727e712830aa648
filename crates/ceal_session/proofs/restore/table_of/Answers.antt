use Rattle.std.proofs.Common.{◌∙◌, sym}
use Rattle.ceal_session.proofs.Inputs.NamesInTable.{found-twice, once-more, one-more}
use Rattle.ceal_session.proofs.restore.table_of.Goals as goal

pub returns-then-has : goal.returns-then-has
returns-then-has c =
    let l = c.loop-name in
    found-twice l.table c.in-Some.name.now l.names.now c.in-Some.more.now c.args.names.now c.in-Some.ensures.cases.0 l.invariant.whole (sym c.has.ensures.there ∙ c.if-has.true)

-- one name more, which was not there
pub loop-name-preserved : goal.loop-name-preserved
loop-name-preserved c =
    let l = c.loop-name in
    record {
      whole = one-more l.table c.add_new.new.self c.in-Some.name.now l.names.now c.in-Some.more.now c.args.names.now c.in-Some.ensures.cases.0 l.invariant.whole c.in_ok-add_new.ensures.ok;
      once = once-more l.table c.add_new.new.self c.in-Some.name.now l.invariant.once (sym c.has.ensures.there ∙ c.if-has.false) c.in_ok-add_new.ensures.ok;
    }
