-- The nodes of a trace tell the values of its writes.
use Rattle.std.proofs.Common.{◌≡◌, ℕ, inl, inr, true, false, Option, Some, None, List, [], ◌∷◌, refl, sym, ap, subst, ◌∙◌}
use Rattle.std.proofs.lemmas.Bool.Decides.{eqb_tells}
use Rattle.std.proofs.lemmas.Bool.{cases_Bool, eq-eqb, false≢true}
use Rattle.ceal_base.specs.Operators.{same_place}
use Rattle.ceal_base.specs.declared.word.Place.{Place}
use Rattle.ceal_base.specs.declared.word.Word.{Word}
use Rattle.ceal_mods.specs.Mods.{Contents, AllTold}
use Rattle.ceal_mods.specs.Writes.{Write as WriteOf, AreTold}
use Rattle.ceal_order.proofs.Places.{not_in}
use Rattle.ceal_order.specs.Stamps.{Distinct, is_in}
use Rattle.ceal_repair.specs.Kept.{InStep}
use Rattle.ceal_repair.specs.Lists.{IsTabled, told_in, value_written, write_of, writes_in}
use Rattle.ceal_repair.specs.declared.tables.Tables.{Tables}
use Rattle.ceal_trace.proofs.Entries.{has-held}
use Rattle.ceal_trace.specs.Nodes.{Entry, stamps_in, node_at}
use Rattle.ceal_trace.specs.declared.node.Node.{Node}
use Rattle.ceal_trace.specs.declared.node.Node.TheVariants.{Root, Alloc, Write, Read, End}

module _ (tells : ℕ → Option Word) (p : Place) where
  told-one : (s : ℕ) (n : Node) (later : List WriteOf) → tells s ≡ value_written (Some n) → AreTold tells later → AreTold tells (write_of p s n later)
  told-one s Root later here told = told
  told-one s (Alloc block key) later here told = told
  told-one s (Write q value) later here told = elim (cases_Bool (same_place q p)) [ inl e ↦ rw e (here, told) | inr e ↦ rw e told ]
  told-one s (Read q v unit var args) later here told = told
  told-one s (End r) later here told = told

  told-writes : (es : List Entry) → Distinct (stamps_in es) → ((s : ℕ) (n : Node) → node_at s es ≡ Some n → tells s ≡ value_written (Some n)) → AreTold tells (writes_in p es)
  told-writes [] distinct all = tt
  told-writes (e ∷ es) distinct all = told-one e.stamp e.node (writes_in p es) (all e.stamp e.node (rw (eq-eqb e.stamp e.stamp refl) refl))
      (told-writes es distinct.1 (λ s n there. elim (eqb_tells e.stamp s) [
        | inl q ↦ absurd (let no : is_in s (stamps_in es) ≡ false = subst (λ (k : ℕ). is_in k (stamps_in es) ≡ false) q.1 (not_in e.stamp (stamps_in es) distinct.0) in
            false≢true (sym no ∙ has-held s n es there))
        | inr q ↦ all s n (rw q.0 there)
      ]))

-- tables in step: the nodes tell the value of each write that the modifiables have
pub told-step : (t : Tables) → InStep t → AllTold (told_in t.trace.nodes) t.mods
told-step t step p = rw (step.tabled.writes p)
    (told-writes (told_in t.trace.nodes) p t.trace.nodes step.whole.order.distinct (λ s n there. ap value_written there))
