use Rattle.std.proofs.Common.{◌≡◌, ◌∙◌, ap, arith, length}
use Rattle.std.specs.Prelude.{ℕ, Option, not, unwrap_or}
use Rattle.std.specs.List.{prefix_len}
use Rattle.std.proofs.lemmas.List.Sums.{prefix_len-le-length}
use Rattle.ceal_script.specs.Characters.{is_gap}
use Rattle.ceal_script.proofs.Runs.{position_default, run_turned}
use Rattle.ceal_script.proofs.words.gap_length.Goals as goal

-- up to the first byte that is no gap, or to the end
pub returns : goal.returns
returns c =
    let run : c.unwrap_or.result ≡ prefix_len is_gap c.args.bytes.now =
    c.unwrap_or.ensures ∙ ap (λ (o : Option ℕ). unwrap_or o (length c.args.bytes.now)) c.gap_end.ensures
    ∙ position_default (λ b. not (is_gap b)) c.args.bytes.now ∙ run_turned is_gap c.args.bytes.now in
    let few = prefix_len-le-length is_gap c.args.bytes.now in
    record { within = omega (arith, run, few); run = run }
