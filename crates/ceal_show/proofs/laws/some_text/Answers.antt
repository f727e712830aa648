use Rattle.ceal_show.proofs.SomeText.{some-text}
use Rattle.ceal_show.proofs.laws.some_text.Goals as goal

pub returns : goal.returns
returns c = record { law = λ structs m name root whole there. some-text structs m whole root there name }
