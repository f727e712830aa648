use Rattle.std.proofs.Common.{◌≡◌, Some, None, position, sym, rules}
use Rattle.std.specs.Map.{keys_of}
use Rattle.std.specs.Str.{bytes_eq}
use Rattle.ceal_types.proofs.NameNumbers.FirstFew.{value-found, value-missing}
use Rattle.ceal_types.proofs.table.Table.get.Goals as goal

pub returns-in-Some : goal.returns-in-Some
returns-in-Some g c =
    let t = bytes_eq c.args.name.now in
    let p : position t (keys_of c.args.self.now) ≡ Some c.in-Some.number = search rules in
    record { value = sym (value-found t c.args.self.now c.in-Some.number (c.entry.result.0.now, c.entry.result.1.now) p c.entry.ensures.entry) }

pub returns-in-None : goal.returns-in-None
returns-in-None g c =
    let t = bytes_eq c.args.name.now in
    let p : position t (keys_of c.args.self.now) ≡ None = search rules in
    record { value = sym (value-missing t c.args.self.now p) }
