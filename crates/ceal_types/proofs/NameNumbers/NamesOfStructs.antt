-- The names of the structs from one entry on.
use Rattle.std.proofs.Common.{◌≡◌, ℕ, ◌+◌, ◌<◌, ◌≤◌, List, length, drop, drop-cons, drop_of_length-le, get_or, refl, sym, ◌∙◌, add-one}
use Rattle.ceal_base.specs.declared.syntax.Entry.{Entry}
use Rattle.ceal_types.specs.Heads.{struct_names, with_struct_name}
use Rattle.ceal_types.specs.Tables.{Name}

names-at : (xs : List Entry) (i : ℕ) (x : Entry) (names : List Name) → x ≡ get_or xs i x → i < length xs
    → struct_names (drop i xs) names ≡ struct_names (drop (i + 1) xs) (with_struct_name x names)
unfolding struct_names
names-at xs i x names is h = rw (drop-cons xs i x h, add-one, ← is) refl

pub names-passed : (xs : List Entry) (i : ℕ) (x : Entry) (names more w : List Name) → x ≡ get_or xs i x → i < length xs
    → struct_names (drop i xs) names ≡ w → more ≡ with_struct_name x names → struct_names (drop (i + 1) xs) more ≡ w
names-passed xs i x names more w is h all added = rw added (sym (names-at xs i x names is h) ∙ all)

pub names-over : (xs : List Entry) (i : ℕ) (names w : List Name) → length xs ≤ i → struct_names (drop i xs) names ≡ w → names ≡ w
unfolding struct_names
names-over xs i names w h all = rw (drop_of_length-le xs h) at all
