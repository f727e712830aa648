use Rattle.std.proofs.Common.{◌≢◌, ℕ, ◌∙◌, Option, List, [], ◌∷◌, IsSome, sym, ap, subst, refl, replicate}
use Rattle.ceal_words.specs.SizeClass.{word_in, changed}
use Rattle.ceal_runtime_tests.proofs.SlotFacts.{apart}
use Rattle.ceal_runtime_tests.proofs.words.writes.Goals as goal

pub get-requires : goal.get-requires
get-requires g c =
    let a = c.take-a.result in let b = c.take-b.result in
    let other = apart c.take-a.new.self a b (replicate 3 0) c.take-a.ensures.zeros c.take-b.ensures.was_new in
    let e = c.set-2.ensures.words a other ∙ c.set.ensures.word ∙ ap (λ (p : Option (List ℕ)). changed p 1 7) (c.take-b.ensures.words a other ∙ c.take-a.ensures.zeros) in
    subst (λ (p : Option (List ℕ)). IsSome (word_in p 1)) (sym e) refl

pub get-requires-5 : goal.get-requires-5
get-requires-5 g c =
    let a = c.take-a.result in let b = c.take-b.result in let d = c.take-c.result in
    let other = apart c.take-a.new.self a b (replicate 3 0) c.take-a.ensures.zeros c.take-b.ensures.was_new in
    let turned : b ≢ a = λ e. other (sym e) in
    let before = c.reserve-2.ensures.words b ∙ c.give.ensures.words b turned ∙ c.set-2.ensures.word
    ∙ ap (λ (p : Option (List ℕ)). changed p 1 9) (c.set.ensures.words b turned ∙ c.take-b.ensures.zeros) in
    let e = c.take-c.ensures.words b (apart c.reserve-2.new.self b d (0 ∷ 9 ∷ 0 ∷ []) before c.take-c.ensures.was_new) ∙ before in
    subst (λ (p : Option (List ℕ)). IsSome (word_in p 1)) (sym e) refl
