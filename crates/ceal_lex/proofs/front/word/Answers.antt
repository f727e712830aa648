use Rattle.ceal_lex.specs.declared.token.TokenKind.TheVariants as kinds
use Rattle.ceal_lex.proofs.Begins.{word_found}
use Rattle.ceal_lex.proofs.front.word.Goals as goal

pub returns-in-Some : goal.returns-in-Some
returns-in-Some c =
    word_found (kinds.Reserved c.in-Some.word) c.args.bytes.now c.word_length-length.result c.requires c.word_length-length.ensures (λ w. c.in-Some.ensures.spelled)

-- a word that is no keyword is a name
pub returns-in_ok-name-in-None : goal.returns-in_ok-name-in-None
returns-in_ok-name-in-None c =
    word_found (kinds.Name c.in_ok-name-in-None.name) c.args.bytes.now c.word_length-length.result c.requires c.word_length-length.ensures
    (λ w. (c.in_ok-name-in-None.ensures.equal, w, c.in-None.ensures.none))
