-- An input that is heard in pieces.
use Rattle.std.proofs.Common.{◌≡◌, inl, inr, ℕ, ◌+◌, ◌-◌, ◌<◌, ◌≤◌, ◌^◌, Bool, true, Option, Some, None, List, [], ◌∷◌, ◌++◌}
use Rattle.std.proofs.Common.{length, take, drop, take-append-drop, refl, sym, ap, ◌∙◌, subst, append-nil, option_map, arith}
use Rattle.std.proofs.Math.Seq.{take-add}
use Rattle.ceal_serve.specs.Exchange.{Exchange, IsWithin, hearing}
use Rattle.ceal_serve.proofs.Hearing.{some-heard, taken-some}

-- one piece more was heard
pub heard-piece : (fuel : ℕ) (input said into : List ℕ) (ended : Bool) (at count : ℕ) → (count ≡ 0 → ⊥) → count ≤ length into → take count into ≡ take count (drop at input)
    → Some (record { fuel = fuel; input = input; heard = take (at + count) input; ended = ended; said = said })
    ≡ option_map (hearing (take count into)) (Some (record { fuel = fuel; input = input; heard = take at input; ended = ended; said = said }))
heard-piece fuel input said into ended at count some within same =
    let e : Exchange = record { fuel = fuel; input = input; heard = take at input; ended = ended; said = said } in
    let more : take at input ++ take count into ≡ take (at + count) input = ap (λ (l : List ℕ). take at input ++ l) same ∙ sym (take-add at count input) in
    sym (some-heard (Some e) (take count into) (taken-some count into some within) ∙ ap (λ (l : List ℕ). Some (record e { heard = l })) more)

none-left : (xs : List ℕ) → drop (length xs) xs ≡ []
none-left [] = refl
none-left (x ∷ xs) = none-left xs

-- what was heard begins the input
pub heard-within : (fuel : ℕ) (input said : List ℕ) (ended : Bool) (at : ℕ) → (ended ≡ true → at ≡ length input)
    → IsWithin (record { fuel = fuel; input = input; heard = take at input; ended = ended; said = said })
heard-within fuel input said ended at over = record {
  left = drop at input;
  whole = take-append-drop at input;
  all = λ e. ap (λ n. drop n input) (over e) ∙ none-left input;
}
