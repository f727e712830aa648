-- The words that senses stand for, one after another.
use Rattle.std.proofs.Common.{◌≡◌, ℕ, ◌+◌, ◌<◌, ◌≤◌, Option, Some, None, List, [], ◌∷◌, ◌++◌, length, drop, get_or, refl, sym, ap, ◌∙◌, append_assoc, append-nil}
use Rattle.std.proofs.lemmas.List.{drop_more, drop_all}
use Rattle.ceal_base.specs.declared.word.Word.{Word}
use Rattle.ceal_session.specs.Senses.{words_of, more_words}
use Rattle.ceal_session.specs.declared.sense.Sense.{Sense}
use Rattle.ceal_session.specs.declared.sense.Sense.TheVariants.{Unknown, Word as IsWord}

-- these words, and then those
abbrev pub behind : List Word → Option (List Word) → Option (List Word)
behind ws None = None
behind ws (Some us) = Some (ws ++ us)

pub one-more : (ws : List Word) (w : Word) (rest : Option (List Word)) → behind (ws ++ w ∷ []) rest ≡ behind ws (more_words (IsWord w) rest)
one-more ws w None = refl
one-more ws w (Some us) = ap Some (append_assoc ws (w ∷ []) us)

module _ (ws : List Word) (senses : List Sense) (i : ℕ) where
  step : i < length senses → words_of (drop i senses) ≡ more_words (get_or senses i Unknown) (words_of (drop (i + 1) senses))
  unfolding words_of
  step h = ap words_of (drop_more senses i Unknown h)

  -- a sense that is no word
  pub stopped : (sense : Sense) → i < length senses → get_or senses i Unknown ≡ sense
      → ((rest : Option (List Word)) → more_words sense rest ≡ None) → behind ws (words_of (drop i senses)) ≡ words_of senses → None ≡ words_of senses
  stopped sense h e none same =
      sym (ap (behind ws) (step h ∙ ap (λ (s : Sense). more_words s (words_of (drop (i + 1) senses))) e ∙ none (words_of (drop (i + 1) senses)))) ∙ same

  pub went : (w : Word) → i < length senses → get_or senses i Unknown ≡ IsWord w
      → behind ws (words_of (drop i senses)) ≡ words_of senses → behind (ws ++ w ∷ []) (words_of (drop (i + 1) senses)) ≡ words_of senses
  went w h e same =
      one-more ws w (words_of (drop (i + 1) senses))
      ∙ sym (ap (behind ws) (step h ∙ ap (λ (s : Sense). more_words s (words_of (drop (i + 1) senses))) e)) ∙ same

  pub over : length senses ≤ i → behind ws (words_of (drop i senses)) ≡ words_of senses → Some ws ≡ words_of senses
  unfolding words_of
  over h same = sym (ap (λ (l : List Sense). behind ws (words_of l)) (drop_all i senses h) ∙ ap Some (append-nil ws)) ∙ same
