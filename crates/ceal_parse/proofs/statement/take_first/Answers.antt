use Rattle.std.proofs.Common.{◌≡◌, ◌∙◌, ◌+◌, suc, false, sym, arith}
use Rattle.ceal_lex.specs.declared.token.Sign.TheVariants as Signs
use Rattle.ceal_grammar.specs.Machine.{is_sign}
use Rattle.ceal_parse.proofs.statement.take_first.Goals as goal

pub returns-in_ok-turn : goal.returns-in_ok-turn
returns-in_ok-turn c =
    let shut : is_sign Signs.RightParenthesis c.args.token.now.kind ≡ false = sym c.is_sign.ensures.value ∙ c.if-is_sign.false in
    let deeper : suc c.args.nesting ≡ c.args.nesting + 1 = omega arith in
    record { value = λ i. rw (shut, deeper) (c.in_ok-turn.ensures.value i) }
