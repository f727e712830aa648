-- The values of words, word by word.
use Rattle.std.proofs.Common.{◌≡◌, ℕ, ◌+◌, ◌<◌, List, [], ◌∷◌, ◌++◌, length, take, get_or, zero, suc, refl, ap, arith}
use Rattle.std.specs.Borrow.{Bor}
use Rattle.std.specs.List.{AllZip}
use Rattle.std.proofs.lemmas.List.{take_more}
use Rattle.ceal_script.specs.Spelling.{SpellsValue}
use Rattle.ceal_script.specs.Words.{texts}
use Rattle.ceal_script.specs.declared.command.ValueWord.{ValueWord}

texts_push : (words : List (Bor (List ℕ))) (word : Bor (List ℕ)) → texts (words ++ word ∷ []) ≡ texts words ++ word.now ∷ []
texts_push [] word = refl
texts_push (w ∷ words) word = ap (λ (l : List (List ℕ)). w.now ∷ l) (texts_push words word)

zip_push : (words : List (List ℕ)) (values : List ValueWord) (word : List ℕ) (value : ValueWord)
    → AllZip SpellsValue words values → SpellsValue word value → AllZip SpellsValue (words ++ word ∷ []) (values ++ value ∷ [])
zip_push [] [] word value h k = (k, tt)
zip_push [] (v ∷ vs) word value h k = absurd h
zip_push (w ∷ ws) [] word value h k = absurd h
zip_push (w ∷ ws) (v ∷ vs) word value h k = (h.0, zip_push ws vs word value h.1 k)

pub values_more : (words : List (Bor (List ℕ))) (i : ℕ) (d : Bor (List ℕ)) (values next : List ValueWord) (value : ValueWord)
    → i < length words → AllZip SpellsValue (texts (take i words)) values → SpellsValue (get_or words i d).now value → next ≡ values ++ value ∷ []
    → AllZip SpellsValue (texts (take (i + 1) words)) next
values_more words i d values next value within h k e =
    rw (take_more words i d within, texts_push (take i words) (get_or words i d), e) (zip_push (texts (take i words)) values (get_or words i d).now value h k)

-- no values are spelled where one word spells none
pub no_values : (words : List (Bor (List ℕ))) (i : ℕ) (d : Bor (List ℕ)) → i < length words → ((v : ValueWord) → SpellsValue (get_or words i d).now v → ⊥)
    → (values : List ValueWord) → AllZip SpellsValue (texts words) values → ⊥
no_values [] i d within f values h = omega (arith, within)
no_values (w ∷ words) i d within f [] h = h
no_values (w ∷ words) zero d within f (v ∷ values) h = f v h.0
no_values (w ∷ words) (suc i) d within f (v ∷ values) h = no_values words i d (omega (arith, within)) f values h.1
