-- Whether items are honest, as a function and by the rules.
use Rattle.std.proofs.Common.{◌≡◌, Bool, true, false, if◌then◌else◌, Option, Some, None, List, is_some, refl, subst, arith}
use Rattle.ceal_base.specs.Block.{Block}
use Rattle.ceal_base.specs.Operators.{same_word}
use Rattle.ceal_base.specs.Trace.{Trace, Nothing, Stepped, Allocated, Wrote, WasRead}
use Rattle.ceal_code.proofs.Words.SameIsEqual.{word-same, word-refl, some-same, none-some}
use Rattle.ceal_code.specs.Program.{Code}
use Rattle.ceal_code.specs.Replay.{Store, Honest, cleared, stored, bases, IsHonest}
use Rattle.ceal_theory.specs.Slices.{Repair, and_store, honest_by, is_done}

module _ (code : Code) where
  pub honest-found : {s t : Store} {l : Trace} → Honest code s l t → honest_by code s l ≡ Some t
  honest-found Honest.end = refl
  honest-found (Honest.step h) = honest-found h
  honest-found (Honest.alloc h) = honest-found h
  honest-found (Honest.write h) = honest-found h
  honest-found (Honest.read {value = value} e h k) = rw (e, word-refl value, honest-found h, honest-found k) refl

  read-sound : {s t : Store} {p : _} {value : _} {u : _} {v : _} {args : _} {inside rest : Trace} (b : Bool) (o : Option Store)
      → same_word (s p) value ≡ b → ((m : Store) → o ≡ Some m → Honest code s inside m) → ((m : Store) → honest_by code m rest ≡ Some t → Honest code m rest t)
      → (if b then and_store o (λ m. honest_by code m rest) else None) ≡ Some t → Honest code s (WasRead p value u v args inside rest) t
  read-sound {s} {t} false o w f g e = none-some t e
  read-sound {s} {t} true None w f g e = none-some t e
  read-sound {s} {t} {p} {value} true (Some m) w f g e = Honest.read (word-same (s p) value w) (f m refl) (g m e)

  pub honest-sound : (s t : Store) (l : Trace) → honest_by code s l ≡ Some t → Honest code s l t
  honest-sound s t Nothing e = subst (λ t. Honest code s Nothing t) (some-same s t e) Honest.end
  honest-sound s t (Stepped rest) e = Honest.step (honest-sound s t rest e)
  honest-sound s t (Allocated b key rest) e = Honest.alloc (honest-sound (cleared code s b key) t rest e)
  honest-sound s t (Wrote p value rest) e = Honest.write (honest-sound (stored s p value) t rest e)
  honest-sound s t (WasRead p value u v args inside rest) e =
      read-sound (same_word (s p) value) (honest_by code s inside) refl (λ m i. honest-sound s m inside i) (λ m i. honest-sound m t rest i) e

  pub done-honest : (inputs : List Block) (r : Repair) → is_done code inputs r ≡ true → IsHonest code inputs r.items
  unfolding is_done
  done-honest inputs r e = go (honest_by code (bases code inputs) r.items) refl e
    where
      go : (o : Option Store) → honest_by code (bases code inputs) r.items ≡ o → is_some o ≡ true → IsHonest code inputs r.items
      go None i e = absurd (grind (arith, e))
      go (Some t) i e = record { after = t; walk = honest-sound (bases code inputs) t r.items i }

  pub honest-done : (inputs : List Block) (r : Repair) → IsHonest code inputs r.items → is_done code inputs r ≡ true
  unfolding is_done
  honest-done inputs r h = rw (honest-found h.walk) refl
