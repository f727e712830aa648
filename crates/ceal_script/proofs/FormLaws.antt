-- The words of the commands with a fixed number of them.
use Rattle.std.proofs.Common.{◌≡◌, ℕ, ◌<◌, ◌≤◌, List, [], ◌∷◌, length, get_or, refl, sym, ap, ◌∙◌, arith}
use Rattle.std.specs.Prelude.{codes}
use Rattle.std.specs.Borrow.{Bor}
use Rattle.ceal_script.specs.Lines.{Says}
use Rattle.ceal_script.specs.Spelling.{IsTextOf, IsName, SpellsKind, SpellsPlace, SpellsValue}
use Rattle.ceal_script.specs.Words.{texts}
use Rattle.ceal_script.specs.declared.command.Command.TheVariants.{Mod, Set}
use Rattle.ceal_script.specs.declared.command.KindWord.{KindWord}
use Rattle.ceal_script.specs.declared.command.PlaceWord.{PlaceWord}
use Rattle.ceal_script.specs.declared.command.ValueWord.{ValueWord}

two_texts : (ws : List (Bor (List ℕ))) (d : Bor (List ℕ)) → 2 ≤ length ws → length ws < 3 → texts ws ≡ (get_or ws 0 d).now ∷ (get_or ws 1 d).now ∷ []
two_texts [] d h k = absurd (omega (arith, h))
two_texts (a ∷ []) d h k = absurd (omega (arith, h))
two_texts (a ∷ b ∷ []) d h k = refl
two_texts (a ∷ b ∷ e ∷ ws) d h k = absurd (omega (arith, k))

three_texts : (ws : List (Bor (List ℕ))) (d : Bor (List ℕ)) → 3 ≤ length ws → length ws < 4
    → texts ws ≡ (get_or ws 0 d).now ∷ (get_or ws 1 d).now ∷ (get_or ws 2 d).now ∷ []
three_texts [] d h k = absurd (omega (arith, h))
three_texts (a ∷ []) d h k = absurd (omega (arith, h))
three_texts (a ∷ b ∷ []) d h k = absurd (omega (arith, h))
three_texts (a ∷ b ∷ e ∷ []) d h k = refl
three_texts (a ∷ b ∷ e ∷ f ∷ ws) d h k = absurd (omega (arith, k))

module _ (ws : List (Bor (List ℕ))) (d : Bor (List ℕ)) where
  pub says_mod : 3 ≤ length ws → length ws < 4 → (name : List ℕ) (kind : KindWord) (value : ValueWord)
      → IsTextOf IsName (get_or ws 0 d).now name → SpellsKind (get_or ws 1 d).now kind → SpellsValue (get_or ws 2 d).now value
      → Says (codes "mod" ∷ texts ws) (Mod name kind value)
  says_mod h l name kind value n k v = (
    (get_or ws 1 d).now,
    (get_or ws 2 d).now,
    ap (λ (r : List (List ℕ)). codes "mod" ∷ r) (three_texts ws d h l ∙ ap (λ (t : List ℕ). t ∷ (get_or ws 1 d).now ∷ (get_or ws 2 d).now ∷ []) (sym n.0)),
    rw n.0 n.1,
    k,
    v,
  )

  pub says_set : 2 ≤ length ws → length ws < 3 → (place : PlaceWord) (value : ValueWord)
      → SpellsPlace (get_or ws 0 d).now place → SpellsValue (get_or ws 1 d).now value → Says (codes "set" ∷ texts ws) (Set place value)
  says_set h l place value p v = (
    (get_or ws 0 d).now,
    (get_or ws 1 d).now,
    ap (λ (r : List (List ℕ)). codes "set" ∷ r) (two_texts ws d h l),
    p,
    v,
  )
