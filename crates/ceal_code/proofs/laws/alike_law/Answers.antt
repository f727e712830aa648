use Rattle.ceal_code.proofs.Alike.AlikeSteps.{made-alike, next-alike}
use Rattle.ceal_code.proofs.laws.alike_law.Goals as goal

pub returns : goal.returns
returns c = record {
  law = λ code ps one x y plain. ((λ st st' h. next-alike ps one code x y plain h), (λ key key' h. made-alike ps one code x y plain h));
}
