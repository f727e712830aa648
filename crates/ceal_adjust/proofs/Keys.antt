-- Sameness of keys and of words in code.
use Rattle.std.proofs.Common.{◌≡◌, ◌↔◌, Bool, true, false, IsTrue, List, [], ◌∷◌, refl, arith}
use Rattle.ceal_base.specs.declared.forest.Key.{Key}
use Rattle.ceal_base.specs.declared.forest.Key.TheVariants.{Init, ModInt as IntKey, ModPtr as PtrKey}
use Rattle.ceal_base.specs.declared.word.Word.{Word}
use Rattle.ceal_code.proofs.Words.SameIsEqual.{both-true, nat-refl, word-refl}
use Rattle.ceal_theory.proofs.Reuse.TakenItems.{words-same, key-same}
use Rattle.ceal_theory.specs.Take.{same_words, same_key}

pub words-refl : (ws : List Word) → same_words ws ws ≡ true
words-refl [] = refl
words-refl (w ∷ ws) = both-true _ _ (word-refl w) (words-refl ws)

pub key-refl : (k : Key) → same_key k k ≡ true
key-refl (Init f ws) = both-true _ _ (nat-refl f) (words-refl ws)
key-refl IntKey = refl
key-refl (PtrKey s) = nat-refl s

same-tests : (r b : Bool) → (IsTrue r → b ≡ true) → (b ≡ true → IsTrue r) → r ≡ b
same-tests true true h k = refl
same-tests false false h k = refl
same-tests true false h k = grind (arith, h)
same-tests false true h k = grind (arith, k)

pub is-key : (r : Bool) (k l : Key) → (IsTrue r ↔ (k ≡ l)) → r ≡ same_key k l
is-key r k l h = same-tests r (same_key k l) (λ t. rw (h.0 t) (key-refl l)) (λ e. h.1 (key-same k l e))

pub are-words : (r : Bool) (vs ws : List Word) → (IsTrue r ↔ (vs ≡ ws)) → r ≡ same_words vs ws
are-words r vs ws h = same-tests r (same_words vs ws) (λ t. rw (h.0 t) (words-refl ws)) (λ e. h.1 (words-same vs ws e))
