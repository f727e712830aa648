use Rattle.std.proofs.Common.{drop, get_or}
use Rattle.ceal_lex.proofs.SignTexts.{two_bytes, long_front, short_front}
use Rattle.ceal_lex.proofs.signs.longest_sign.Goals as goal

-- no sign has three bytes, so one of two bytes is the longest
pub returns-in-Some-clause-longest : goal.returns-in-Some-clause-longest
returns-in-Some-clause-longest c =
    let bytes = c.args.bytes.now in
    long_front bytes (get_or bytes 0 0) (get_or bytes 1 0) (drop 2 bytes) (two_bytes bytes c.in-len2-up.len_at_least) c.in-Some.sign c.in-Some.ensures.spelled

pub returns-in_ok-short_sign-in-None-clause-longest :
    goal.returns-in_ok-short_sign-in-None-clause-longest
returns-in_ok-short_sign-in-None-clause-longest c =
    let bytes = c.args.bytes.now in
    short_front bytes (get_or bytes 0 0) (get_or bytes 1 0) (drop 2 bytes)
    (two_bytes bytes c.in-len2-up.len_at_least) c.in_ok-short_sign-in-None.field-0 c.in_ok-short_sign-in-None.ensures.spelled c.in-None.ensures.none
