-- The words of a block, read one by one.
use Rattle.std.proofs.Common.{◌≡◌, ℕ, zero, suc, ◌+◌, Option, Some, None, List, [], ◌∷◌, ◌++◌, take, slice_get, sym, ap, ◌∙◌, refl, arith}
use Rattle.ceal_base.specs.Block.{Block}
use Rattle.ceal_base.specs.declared.word.Word.{Word}
use Rattle.ceal_code.proofs.Words.SameIsEqual.{some-same, none-some}
use Rattle.ceal_code.specs.PlainWords.{block_word}

take-more : (ws : List Word) (n : ℕ) (w : Word) → slice_get ws n ≡ Some w → take n ws ++ w ∷ [] ≡ take (n + 1) ws
take-more [] n w e = none-some w e
take-more (v ∷ ws) zero w e = ap (λ x. x ∷ []) (sym (some-same v w e))
take-more (v ∷ ws) (suc n) w e = let k : suc n + 1 ≡ suc (n + 1) = omega arith in rw k (ap (λ xs. v ∷ xs) (take-more ws n w e))

take-end : (ws : List Word) (n : ℕ) → slice_get ws n ≡ None → take n ws ≡ ws
take-end [] zero e = refl
take-end [] (suc n) e = refl
take-end (v ∷ ws) zero e = none-some v (sym e)
take-end (v ∷ ws) (suc n) e = ap (λ xs. v ∷ xs) (take-end ws n e)

-- the words of a block up to a field
abbrev pub UpTo : Option Block → ℕ → List Word → Type 0
UpTo o n words = (b : Block) → o ≡ Some b → words ≡ take n b.words

pub words-more : (o : Option Block) (n : ℕ) (words : List Word) (w : Word) → UpTo o n words → Some w ≡ block_word o n → UpTo o (n + 1) (words ++ w ∷ [])
words-more o n words w h e b k = rw (h b k) (take-more b.words n w (sym (e ∙ ap (λ o. block_word o n) k)))

pub words-end : (o : Option Block) (n : ℕ) (words : List Word) → UpTo o n words → None ≡ block_word o n → (b : Block) → o ≡ Some b → words ≡ b.words
words-end o n words h e b k = h b k ∙ take-end b.words n (sym (e ∙ ap (λ o. block_word o n) k))
