-- The mode that the parser's answer chooses is the one that the words ask for.
use Rattle.std.proofs.Common.{◌≡◌, ◌∙◌, refl, sym, ap, subst, List, [], ◌∷◌, map, Option, Some, None, MatchOption, option_map, unwrap_or}
use Rattle.std.specs.Prelude.{option_and_then, slice_get}
use Rattle.std.specs.Borrow.{Bor}
use Rattle.std.specs.List.{find}
use Rattle.std.specs.Str.{bytes_eq}
use Rattle.clap.specs.Walk.{Row, all_of, first_of}
use Rattle.clap.specs.Faults.{fault_of}
use Rattle.clap.specs.Simple.{matches_of}
use Rattle.ceal_cli.specs.Modes.{AreDefined, Asks, Text}
use Rattle.ceal_cli.specs.CommandLine.{Chooses, ChoosesNone, ceal_command}
use Rattle.ceal_cli.specs.declared.words.Mode.{Mode}
use Rattle.ceal_cli.proofs.Options.FoundWords.{HasValues, plain_of, read_of}
use Rattle.ceal_cli.proofs.Options.ModeOfWords.{asked_for, first_value}
use Rattle.ceal_cli.proofs.Options.ParserTakes.{taken}
use Rattle.ceal_cli.proofs.Options.OneWord.{FUEL}

first_of_all : (id : Text) (rows : List Row) → first_of id rows ≡ option_and_then (λ values. slice_get values 0) (all_of id rows)
first_of_all id rows = go (find (λ (r : Row). bytes_eq r.id id) rows)
  where
    go : (o : Option Row) → option_and_then (λ (r : Row). slice_get r.values 0) o ≡ option_and_then (λ values. slice_get values 0) (option_map (λ (r : Row). r.values) o)
    go None = refl
    go (Some r) = refl

value_of : (values : List Text) (rows : List Row) → HasValues values rows → first_of FUEL rows ≡ first_value values
value_of [] rows h = first_of_all FUEL rows ∙ ap (λ (o : Option (List Text)). option_and_then (λ v. slice_get v 0) o) h
value_of (x ∷ []) rows h = first_of_all FUEL rows ∙ ap (λ (o : Option (List Text)). option_and_then (λ v. slice_get v 0) o) h
value_of (x ∷ y ∷ more) rows h = absurd h

few : (values : List Text) (rows : List Row) → HasValues values rows → (x y : Text) (more : List Text) → values ≡ x ∷ y ∷ more → ⊥
few values rows h x y more e = subst (λ (v : List Text). HasValues v rows) e h

pub mode_of : (words plain : List Text) (value : Option Text) (found : Option Mode) → fault_of ceal_command words ≡ []
    → plain ≡ plain_of (matches_of ceal_command words) → value ≡ first_of FUEL (matches_of ceal_command words)
    → MatchOption found (ChoosesNone plain value) (λ mode. Chooses plain value mode)
    → MatchOption found (AreDefined words → ⊥) (λ mode. Asks words mode)
mode_of words plain value (Some mode) none plain_is value_is chosen =
    let read = read_of words none in
    let here : Chooses plain (first_value read.values) mode =
    subst (λ (o : Option Text). Chooses plain o mode) (value_is ∙ value_of read.values (matches_of ceal_command words) read.rows.fuel) chosen in
    let there : Chooses read.plain (first_value read.values) mode =
    subst (λ (l : List Text). Chooses l (first_value read.values) mode) (plain_is ∙ read.rows.words) here in
    asked_for words read.plain read.values mode read.reads (few read.values (matches_of ceal_command words) read.rows.fuel) there
mode_of words plain value None none plain_is value_is chosen = λ defined.
    let t = taken words defined.0 defined.1 in
    let here = subst (λ (o : Option Text). Chooses (plain_of (matches_of ceal_command words)) o defined.0) (sym value_is) t.chooses in
    chosen defined.0 (subst (λ (l : List Text). Chooses l value defined.0) (sym plain_is) here)

-- the words of the matches, where there are any
pub all_words : (o : Option (Bor (List (Bor Text)))) (r empty : Bor (List (Bor Text))) → r ≡ unwrap_or o empty → empty.now ≡ []
    → map (λ (w : Bor Text). w.now) r.now ≡ unwrap_or (option_map (λ (s : Bor (List (Bor Text))). map (λ (w : Bor Text). w.now) s.now) o) []
all_words None r empty e none = ap (λ (x : Bor (List (Bor Text))). map (λ (w : Bor Text). w.now) x.now) e ∙ ap (λ (l : List (Bor Text)). map (λ (w : Bor Text). w.now) l) none
all_words (Some s) r empty e none = ap (λ (x : Bor (List (Bor Text))). map (λ (w : Bor Text). w.now) x.now) e
