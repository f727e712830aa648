-- `==` on words and on keys is equality of what contracts see.
use Rattle.std.proofs.Common.{rules, ◌≡◌, List, refl}
use Rattle.std.proofs.lemmas.Slice.Eq.{slice_eq-Decides}
use Rattle.std.specs.Bool.{Decides}
use Rattle.ceal_base.specs.contracts.words.WordsPartialEq.TheImpl.{ghosts}
use Rattle.ceal_base.specs.declared.word.Word.{Word}

pub words-Decides : (xs ys : List Word) → Decides (ghosts.eq xs ys) (xs ≡ ys)
words-Decides xs ys = slice_eq-Decides (λ a b. search rules) xs ys _ refl
