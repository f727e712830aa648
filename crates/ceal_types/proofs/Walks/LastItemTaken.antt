-- The last item of a list goes to another list, which is the other way round.
use Rattle.std.proofs.Common.{◌≡◌, List, [], ◌∷◌, ◌++◌, map, reverse, sym, ap, ◌∙◌, append_assoc}
use Rattle.std.proofs.lemmas.List.{map-append, reverse-append}

pub last-taken : {A B : Type 0} (f : A → B) (all rest : List A) (x : A) (out : List B) → all ≡ rest ++ x ∷ []
    → map f rest ++ reverse (out ++ f x ∷ []) ≡ map f all ++ reverse out
last-taken f all rest x out h =
    ap (λ (l : List _). map f rest ++ l) (reverse-append out (f x ∷ [])) ∙ sym (append_assoc (map f rest) (f x ∷ []) (reverse out))
    ∙ ap (λ (l : List _). l ++ reverse out) (sym (map-append f rest (x ∷ []))) ∙ ap (λ (l : List _). map f l ++ reverse out) (sym h)
