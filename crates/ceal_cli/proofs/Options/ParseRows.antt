-- What a use of an argument changes in the rows of a parse.
use Rattle.std.proofs.Common.{◌≡◌, ◌∙◌, ◌||◌, Bool, cond, true, false, refl, sym, ap, List, [], ◌∷◌, ◌++◌, Some, is_some, unwrap_or, option_map, true≢false}
use Rattle.std.specs.List.{find}
use Rattle.std.specs.Str.{bytes_eq}
use Rattle.clap.specs.Walk.{Row, Text, all_of, has_row, with_values, without}
use Rattle.clap.specs.declared.builder.value_parser.Reading.{Reading}
use Rattle.clap.specs.declared.parser.matches.ValueSource.{ValueSource}

pub has_row_all : (id : Text) (rows : List Row) → has_row id rows ≡ is_some (all_of id rows)
has_row_all id [] = refl
has_row_all id (r ∷ rs) = go (bytes_eq r.id id) (has_row_all id rs)
  where
    go : (b : Bool) → has_row id rs ≡ is_some (all_of id rs)
        → (b || has_row id rs) ≡ is_some (option_map (λ (x : Row). x.values) (cond b (Some r) (find (λ (x : Row). bytes_eq x.id id) rs)))
    go true e = refl
    go false e = e

-- rows without one of this argument stay as they are
pub without_none : (id : Text) (rows : List Row) → has_row id rows ≡ false → without id rows ≡ rows
without_none id [] h = refl
without_none id (r ∷ rs) h = go (bytes_eq r.id id) (λ e. without_none id rs e) h
  where
    go : (b : Bool) → (has_row id rs ≡ false → without id rs ≡ rs) → (b || has_row id rs) ≡ false → cond b ([] ++ rs) (r ∷ without id rs) ≡ r ∷ rs
    go true next h = absurd (true≢false h)
    go false next h = ap (λ (xs : List Row). r ∷ xs) (next h)

-- the values of a use come after those that were there
pub more_of : (id : Text) (how : Reading) (s : ValueSource) (values : List Text) (rows : List Row) → bytes_eq id id ≡ true
    → all_of id (with_values id how s values rows) ≡ Some (unwrap_or (all_of id rows) [] ++ values)
more_of id how s values [] same = rw same refl
more_of id how s values (r ∷ rs) same = go (bytes_eq r.id id) refl (more_of id how s values rs same)
  where
    go : (b : Bool) → bytes_eq r.id id ≡ b → all_of id (with_values id how s values rs) ≡ Some (unwrap_or (all_of id rs) [] ++ values)
        → all_of id (with_values id how s values (r ∷ rs)) ≡ Some (unwrap_or (all_of id (r ∷ rs)) [] ++ values)
    go true e next = rw e (rw e refl)
    go false e next = rw e (rw e next)

-- another argument keeps its values
pub others_kept : (id other : Text) (how : Reading) (s : ValueSource) (values : List Text) (rows : List Row)
    → ((t : Text) → bytes_eq t id ≡ true → bytes_eq t other ≡ false) → bytes_eq id other ≡ false
    → all_of other (with_values id how s values rows) ≡ all_of other rows
others_kept id other how s values [] apart differ = rw differ refl
others_kept id other how s values (r ∷ rs) apart differ = go (bytes_eq r.id id) refl (bytes_eq r.id other) refl (others_kept id other how s values rs apart differ)
  where
    go : (b : Bool) → bytes_eq r.id id ≡ b → (o : Bool) → bytes_eq r.id other ≡ o → all_of other (with_values id how s values rs) ≡ all_of other rs
        → all_of other (with_values id how s values (r ∷ rs)) ≡ all_of other (r ∷ rs)
    go true e true f next = absurd (true≢false (sym f ∙ apart r.id e))
    go true e false f next = rw (e, f) refl
    go false e true f next = rw (e, f) refl
    go false e false f next = rw (e, f) next
