use Rattle.std.proofs.Common.{sym, ap, ◌∙◌, ◌++◌, List, map, reverse}
use Rattle.ceal_types.specs.Checked.{struct_info}
use Rattle.ceal_types.proofs.Walks.LastItemTaken.{last-taken}
use Rattle.ceal_types.proofs.check.struct_infos.Goals as goal

pub returns : goal.returns
returns c =
    c.new.ensures.value ∙ c.reverse.ensures.items
    ∙ sym (ap (λ (l : List _). map struct_info l ++ reverse c.loop-name.infos.items) c.in_default.ensures.none) ∙ c.loop-name.invariant

pub loop-name-preserved : goal.loop-name-preserved
loop-name-preserved c =
    rw (c.in_ok-push.ensures.items, c.in_ok-fields.ensures)
    (last-taken struct_info c.loop-name.structs c.pop.new.self
    (c.in-Some.name, c.in-Some.fields) c.loop-name.infos.items c.in-Some.ensures.taken
    ∙ c.loop-name.invariant)
