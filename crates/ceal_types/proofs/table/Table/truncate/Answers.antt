use Rattle.std.proofs.Common.{◌≡◌, ◌++◌, ◌-◌, length, take, sym, rules}
use Rattle.ceal_types.proofs.NameNumbers.FirstFew.{first-of-both}
use Rattle.ceal_types.proofs.table.Table.truncate.Goals as goal

-- the few are cut first, and of the map what is left of the length
pub returns : goal.returns
returns g c =
    let few = c.self.inside.few.items in
    let more = c.self.inside.map.entries in
    let rest : c.truncate.new.self.entries ≡ take (c.args.len - length few) more = search rules in
    let first : c.truncate-2.new.self.items ≡ take c.args.len few = search rules in
    let both : c.truncate-2.new.self.items ++ c.truncate.new.self.entries ≡ take c.args.len (few ++ more) =
    rw (first, rest) (sym (first-of-both c.args.len few more)) in
    record { kept = rw (← c.self.view_is) both }
