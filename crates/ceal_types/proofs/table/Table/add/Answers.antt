use Rattle.std.proofs.Common.{◌≡◌, ◌∙◌, ◌++◌, ◌∷◌, [], false, None, sym, rules}
use Rattle.std.specs.Map.{lookup}
use Rattle.std.specs.Str.{bytes_eq}
use Rattle.std.proofs.lemmas.List.{append_assoc}
use Rattle.indexmap.proofs.CallerLemmas.{insert_entry-new}
use Rattle.ceal_types.specs.Tables.{has}
use Rattle.ceal_types.proofs.NameNumbers.FirstFew.{missing-after}
use Rattle.ceal_types.proofs.NameNumbers.NumberOfName.{absent}
use Rattle.ceal_types.proofs.table.Table.add.Goals as goal

-- the name is put at the end of what the map has, after the few that are compared
pub returns-in_ok-insert-clause-ok : goal.returns-in_ok-insert-clause-ok
returns-in_ok-insert-clause-ok g c =
    let few = c.self.inside.few.items in
    let es = c.self.inside.map.entries in
    let new : has (few ++ es) c.args.name ≡ false = search rules in
    let gone : lookup (bytes_eq c.args.name) es ≡ None = missing-after (bytes_eq c.args.name) few es (absent (few ++ es) c.args.name new) in
    let added : c.insert.new.self.entries ≡ es ++ (c.args.name, c.args.value) ∷ [] =
    c.in_ok-insert.ensures.entries ∙ insert_entry-new bytes_eq c.self.inside.map c.args.name c.args.value gone in
    let all : few ++ c.insert.new.self.entries ≡ (few ++ es) ++ (c.args.name, c.args.value) ∷ [] =
    rw added (sym (append_assoc few es ((c.args.name, c.args.value) ∷ []))) in
    search rules
