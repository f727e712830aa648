use Rattle.std.proofs.Common.{◌≡◌, ◌↔◌, IsTrue, rules}
use Rattle.ceal_grammar.proofs.Telling.{word_decided}
use Rattle.ceal_parse.proofs.marks.same_word.Goals as goal

pub returns : goal.returns
returns c =
    let told : IsTrue c.eq.result ↔ (c.args.a ≡ c.args.b) = search rules in
    record { value = word_decided c.args.a c.args.b c.eq.result told }
