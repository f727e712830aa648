-- What a test of a region knows of its slots.
use Rattle.std.proofs.Common.{◌≡◌, ◌≢◌, ℕ, List, Some, None, sym, ap, ◌∙◌, inl, inr, ◌⊎◌, ⊎_elim, is_some}
use Rattle.std.proofs.lemmas.Bool.{cases_eq, false≢true}
use Rattle.ceal_words.specs.Region.{words_of, KeepsOthers, KeepsAll}
use Rattle.ceal_words.specs.SizeClass.{SizeClass}
use Rattle.ceal_words.specs.declared.slot.Slot.{Slot}

-- a slot that is there is not one that is not
pub apart : (region : List SizeClass) (slot new : Slot) (words : List ℕ) → words_of region slot ≡ Some words → words_of region new ≡ None → slot ≢ new
apart region slot new words there missing e = false≢true (ap is_some (sym missing ∙ ap (words_of region) (sym e) ∙ there))

same_slot : (a b : Slot) → (a ≡ b) ⊎ (a ≢ b)
same_slot a b = ⊎_elim
    (λ e. ⊎_elim
    (λ f. ⊎_elim (λ g. inl (λ i. record { chunk = e i; at = f i; len = g i })) (λ no. inr (λ same. no (ap (λ (s : Slot). s.len) same))) (cases_eq a.len b.len))
    (λ no. inr (λ same. no (ap (λ (s : Slot). s.at) same))) (cases_eq a.at b.at))
    (λ no. inr (λ same. no (ap (λ (s : Slot). s.chunk) same))) (cases_eq a.chunk b.chunk)

-- a slot that is taken, written and given back, with nothing changed in between, leaves all as it was
pub back_again : (slot : Slot) (a b c d e : List SizeClass) → words_of a slot ≡ None → KeepsOthers slot a b
    → KeepsOthers slot b c → KeepsAll c d → KeepsOthers slot d e → words_of e slot ≡ None → KeepsAll a e
back_again slot a b c d e missing ab bc cd de out other = ⊎_elim
    (λ same. ap (words_of e) same ∙ out ∙ sym missing ∙ ap (words_of a) (sym same))
    (λ apart_. de other apart_ ∙ cd other ∙ bc other apart_ ∙ ab other apart_)
    (same_slot other slot)
