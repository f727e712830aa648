use Rattle.std.proofs.Common.{◌≡◌, Some, None, length, position, rules}
use Rattle.std.specs.Map.{keys_of}
use Rattle.std.specs.Str.{bytes_eq}
use Rattle.ceal_types.proofs.NameNumbers.FirstFew.{among-first, after-first, nowhere}
use Rattle.ceal_types.proofs.table.Table.index.Goals as goal

pub returns-in-Some-clause-number : goal.returns-in-Some-clause-number
returns-in-Some-clause-number g c =
    let t = bytes_eq c.args.name.now in
    let p : position (λ e. t e.0) c.self.inside.few.items ≡ Some c.in-Some.at = search rules in
    rw (← c.self.view_is) (among-first t c.self.inside.few.items c.self.inside.map.entries c.in-Some.at p)

-- none of the few has the name, so its number is that of the map after them
pub returns-in-Some-get_index_of-clause-number : goal.returns-in-Some-get_index_of-clause-number
returns-in-Some-get_index_of-clause-number g c =
    let t = bytes_eq c.args.name.now in
    let p : position (λ e. t e.0) c.self.inside.few.items ≡ None = search rules in
    let q : position t (keys_of c.self.inside.map.entries) ≡ Some c.in-Some-get_index_of.at = search rules in
    let n : c.len.result ≡ length c.self.inside.few.items = search rules in
    rw (n, ← c.self.view_is) (after-first t c.self.inside.few.items c.self.inside.map.entries c.in-Some-get_index_of.at p q)

-- neither the few nor the map have the name
pub returns-in-None-get_index_of-clause-number : goal.returns-in-None-get_index_of-clause-number
returns-in-None-get_index_of-clause-number g c =
    let t = bytes_eq c.args.name.now in
    let p : position (λ e. t e.0) c.self.inside.few.items ≡ None = search rules in
    let q : position t (keys_of c.self.inside.map.entries) ≡ None = search rules in
    rw (← c.self.view_is) (nowhere t c.self.inside.few.items c.self.inside.map.entries p q)
