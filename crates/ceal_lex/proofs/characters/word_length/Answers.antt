use Rattle.std.proofs.Common.{◌∙◌, ap, length}
use Rattle.std.specs.Prelude.{ℕ, Option, not, unwrap_or}
use Rattle.ceal_lex.specs.Characters.{is_word_byte}
use Rattle.ceal_lex.proofs.Runs.{position_default, run_turned}
use Rattle.ceal_lex.proofs.characters.word_length.Goals as goal

pub returns : goal.returns
returns c =
    c.unwrap_or.ensures ∙ ap (λ (o : Option ℕ). unwrap_or o (length c.args.bytes.now)) c.word_end.ensures
    ∙ position_default (λ b. not (is_word_byte b)) c.args.bytes.now ∙ run_turned is_word_byte c.args.bytes.now
