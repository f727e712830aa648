use Rattle.std.proofs.Common.{◌-◌, take, drop, length, arith}
use Rattle.std.proofs.lemmas.List.{take_rest}
use Rattle.std.proofs.lemmas.Bool.Decides.{nat_tests}
use Rattle.ceal_script.proofs.WordLaws.{no_word, first_found}
use Rattle.ceal_script.proofs.words.first_word.Goals as goal

pub returns-then-is_empty : goal.returns-then-is_empty
returns-then-is_empty c =
    no_word c.args.line.now c.gap_length.result c.gap_length.ensures.run _ (take_rest c.args.line.now c.gap_length.result) (grind (arith, nat_tests))

-- the line is a gap, a word without gaps, and the rest
pub returns : goal.returns
returns c =
    let line = c.args.line.now in
    let n = c.gap_length.result in
    let text = take (length line - n) (drop n line) in
    rw (c.split_at.ensures.front, c.split_at.ensures.back)
    (first_found line n c.gap_length.ensures.run text c.word_length.result (take_rest line n) (grind (arith, nat_tests)) c.word_length.ensures.run)
