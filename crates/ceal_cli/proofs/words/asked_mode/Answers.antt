use Rattle.std.proofs.Common.{◌≡◌, ◌∙◌, refl, sym, ap, ap₂, List, map, inl, inr, [], Option, unwrap_or}
use Rattle.std.specs.Prelude.{string_bytes}
use Rattle.clap.specs.Words.{app_of, found_of, fault_of, is_simple_and_free, is_simple, matches_of}
use Rattle.clap.proofs.WalkLemmas.{first_value-rows, raw_values-rows}
use Rattle.clap.specs.Walk.{all_of, first_of}
use Rattle.ceal_cli.specs.Modes.{Text, texts}
use Rattle.ceal_cli.specs.CommandLine.{ceal_command}
use Rattle.ceal_cli.proofs.Options.AskedMode.{all_words, mode_of}
use Rattle.ceal_cli.proofs.Options.ParserTakes.{free, simple, taken}
use Rattle.ceal_cli.proofs.Options.OneWord.{FUEL, WORDS}
use Rattle.ceal_cli.proofs.words.asked_mode.Goals as goal

-- the words match the rules of the table, and ask for the mode of their first word
pub returns-in-Ok : goal.returns-in-Ok
returns-in-Ok c =
    let app : app_of c.in_ok-parser.parser ≡ ceal_command = c.in_ok-parser.ensures in
    let words_are = ap (map string_bytes) c.as_slice.ensures.value in
    let none = sym (ap₂ fault_of app words_are) ∙ c.in-Ok.ensures.kinds (ap is_simple_and_free app ∙ free) in
    let rows_are = (c.in-Ok.ensures.matches (ap is_simple app ∙ simple)).0 ∙ ap₂ matches_of app words_are in
    let value_is = c.get_str.ensures ∙ first_value-rows (found_of c.in-Ok.matches) FUEL ∙ ap (first_of FUEL) rows_are in
    let plain_is = all_words c.get_strs.result c.unwrap_or-plain.result _ c.unwrap_or-plain.ensures refl
    ∙ ap (λ (o : Option (List Text)). unwrap_or o []) (c.get_strs.ensures ∙ raw_values-rows (found_of c.in-Ok.matches) WORDS ∙ ap (all_of WORDS) rows_are) in
    mode_of (texts c.args.words.now) _ _ c.chosen.result none plain_is value_is c.chosen.ensures

-- the words match no rule, so they ask for nothing
pub returns : goal.returns
returns c = λ defined.
    let app : app_of c.in_ok-parser.parser ≡ ceal_command = c.in_ok-parser.ensures in
    let words_are = ap (map string_bytes) c.as_slice.ensures.value in
    let t = taken (texts c.args.words.now) defined.0 defined.1 in
    let has = c.in-Err.ensures.kinds (ap is_simple_and_free app ∙ free) in
    elim has [
      | inl memory ↦ absurd (c.in_default.not-OutOfMemory (c.kind.ensures ∙ memory))
      | inr among ↦ absurd (rw (ap₂ fault_of app words_are ∙ t.none) at among)
    ]
