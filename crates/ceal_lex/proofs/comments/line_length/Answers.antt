use Rattle.std.proofs.Common.{◌≡◌, ◌∙◌, ap, arith, length}
use Rattle.std.specs.Prelude.{ℕ, Option, not, ◌==◌, unwrap_or}
use Rattle.std.specs.List.{position_or_len}
use Rattle.ceal_lex.specs.Characters.{LINE_FEED}
use Rattle.ceal_lex.proofs.Runs.{position_default, run_within}
use Rattle.ceal_lex.proofs.comments.line_length.Goals as goal

-- up to the first line feed, or to the end
pub returns : goal.returns
returns c =
    let first : c.unwrap_or.result ≡ position_or_len (λ b. b == LINE_FEED) c.args.text.now =
    c.unwrap_or.ensures ∙ ap (λ (o : Option ℕ). unwrap_or o (length c.args.text.now)) c.line_end.ensures
    ∙ position_default (λ b. b == LINE_FEED) c.args.text.now in
    let few = run_within (λ b. not (b == LINE_FEED)) c.args.text.now in
    record { within = omega (arith, first, few); first = first }
