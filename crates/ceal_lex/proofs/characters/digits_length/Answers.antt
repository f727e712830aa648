use Rattle.std.proofs.Common.{◌∙◌, ap, length}
use Rattle.std.specs.Prelude.{ℕ, Option, not, unwrap_or}
use Rattle.ceal_base.specs.Digits.{is_digit}
use Rattle.ceal_lex.proofs.Runs.{position_default, run_turned}
use Rattle.ceal_lex.proofs.characters.digits_length.Goals as goal

pub returns : goal.returns
returns c =
    c.unwrap_or.ensures ∙ ap (λ (o : Option ℕ). unwrap_or o (length c.args.bytes.now)) c.digits_end.ensures
    ∙ position_default (λ b. not (is_digit b)) c.args.bytes.now ∙ run_turned is_digit c.args.bytes.now
