-- Flat items whose reads record the contents of their moments are those of an honest trace.
use Rattle.std.proofs.Common.{◌≡◌, true, List, ◌∷◌, ◌++◌, refl, ◌∙◌, append_assoc}
use Rattle.ceal_base.specs.Operators.{same_word}
use Rattle.ceal_base.specs.Trace.{Trace, Nothing, Stepped, Allocated, Wrote, WasRead, flat}
use Rattle.ceal_base.specs.declared.forest.Item.{Item}
use Rattle.ceal_base.specs.declared.forest.Item.TheVariants.{Read, End}
use Rattle.ceal_code.proofs.Words.SameIsEqual.{both, word-same, word-refl}
use Rattle.ceal_code.specs.After.{store_after}
use Rattle.ceal_code.specs.Program.{Code}
use Rattle.ceal_code.specs.Replay.{Store, Honest, cleared, stored}
use Rattle.ceal_traceck.specs.Items.{all_honest}

module _ (code : Code) where
  pub honest-trace : (l : Trace) (s : Store) (is : List Item) → all_honest code s (flat l ++ is) ≡ true → Honest code s l (store_after code s l) × (all_honest code (store_after code s l) is ≡ true)
  unfolding all_honest
  honest-trace Nothing s is h = (Honest.end, h)
  honest-trace (Stepped l) s is h = let q = honest-trace l s is h in (Honest.step q.0, q.1)
  honest-trace (Allocated b key l) s is h = let q = honest-trace l (cleared code s b key) is h in (Honest.alloc q.0, q.1)
  honest-trace (Wrote p value l) s is h = let q = honest-trace l (stored s p value) is h in (Honest.write q.0, q.1)
  honest-trace (WasRead p value u v args inside l) s is h =
      let h' : all_honest code s (Read p value u v args ∷ (flat inside ++ End ∷ (flat l ++ is))) ≡ true = rw (append_assoc (flat inside) (End ∷ flat l) is) at h in
      let g = both (same_word (s p) value) (all_honest code s (flat inside ++ End ∷ (flat l ++ is))) h' in
      let q1 = honest-trace inside s (End ∷ (flat l ++ is)) g.1 in
      let q2 = honest-trace l (store_after code s inside) is q1.1 in
      (Honest.read (word-same (s p) value g.0) q1.0 q2.0, q2.1)

  pub trace-honest : {s t : Store} {l : Trace} → Honest code s l t → (is : List Item) → all_honest code s (flat l ++ is) ≡ all_honest code t is
  unfolding all_honest
  trace-honest Honest.end is = refl
  trace-honest (Honest.step h) is = trace-honest h is
  trace-honest (Honest.alloc h) is = trace-honest h is
  trace-honest (Honest.write h) is = trace-honest h is
  trace-honest (Honest.read {p = p} {value = value} {inside = inside} {rest = l} e h k) is =
      rw (append_assoc (flat inside) (End ∷ flat l) is, e, word-refl value) (trace-honest h (End ∷ (flat l ++ is)) ∙ trace-honest k is)
