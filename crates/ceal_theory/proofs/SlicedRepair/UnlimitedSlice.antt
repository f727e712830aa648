-- A slice without a number of reads, of a repair that begins, is the repair of the trace.
use Rattle.std.proofs.Common.{◌≡◌, ℕ, Option, Some, None, List, length, refl, sym, ap, ◌∙◌, subst, arith}
use Rattle.ceal_base.specs.Block.{Block}
use Rattle.ceal_base.specs.Trace.{Trace}
use Rattle.ceal_base.specs.declared.word.Word.{Word}
use Rattle.ceal_code.proofs.Replay.ReplayedCall.{input-after}
use Rattle.ceal_code.proofs.Words.SameIsEqual.{none-some, some-same}
use Rattle.ceal_code.specs.Fitting.{Fits}
use Rattle.ceal_code.specs.Program.{Code}
use Rattle.ceal_code.specs.Replay.{input_plain, plain_of, bases}
use Rattle.ceal_code.specs.Value.{Plain}
use Rattle.ceal_theory.proofs.Repair.FunctionOfRules.{adjusted-sound, adjusted-found}
use Rattle.ceal_theory.proofs.Store.WordsGrow.{own-single}
use Rattle.ceal_theory.proofs.Repair.Honesty.{fix-honest}
use Rattle.ceal_theory.proofs.Store.FittingInputs.{fits-more}
use Rattle.ceal_theory.proofs.Repair.RepairReplays.{yields-new, played}
use Rattle.ceal_theory.specs.Adjust.{AdjustsAs}
use Rattle.ceal_theory.specs.Computed.{Repaired, adjusted}
use Rattle.ceal_theory.specs.Laws.{Edited}
use Rattle.ceal_theory.specs.Repair.{Single, own, State, Fix}
use Rattle.ceal_theory.proofs.Store.KnownPlaces.{FixAgain, fix-again}
use Rattle.ceal_theory.specs.Walk.{with_store}
use Rattle.ceal_theory.proofs.SlicedRepair.SliceFunction.{sliced-sound, sliced-found}
use Rattle.ceal_theory.proofs.SlicedRepair.DoneReplays.{same-bases, in-order}
use Rattle.ceal_theory.proofs.SlicedRepair.Soundness.{with-same, starting-known, begin-sound, runs-sound}
use Rattle.ceal_theory.specs.SliceLaws.{SameRepair, ComesTo}
use Rattle.ceal_theory.specs.Slices.{NamesApart, Repair, with_inputs, starting, goes_on, Runs, repair_at, Slices, sliced, beginning}

module _ (code : Code) (names : ℕ → ℕ) (old new : List Block) (f : ℕ) (args : List Word) (l : Trace) (above number : ℕ) (e : Edited code old new f args l above) (single : Single names)
    (apart : NamesApart names number l) where
  fits : Fits code new f args
  fits = fits-more code old new e.extended f args e.call e.fit

  plain-same : with_inputs code new (plain_of code new l) ≡ plain_of code new l
  unfolding plain_of
  plain-same = with-same code new (plain_of code new l) (λ i. input-after code (yields-new code old new f args e.call e.fit e.extended l e.trace) (input_plain code new) i)

  abbrev at_plain : Plain → State
  at_plain x = record { store = starting code new (plain_of code new l); plain = x; number = number; work = 0 }

  pub adjusts-slices : (m : Trace) (work : ℕ) → AdjustsAs code new names number l m work → ComesTo code names new (beginning code new l number) m work
  adjusts-slices m work a = finish (fix-again code names (length new) a.fix (played code old new f args e.call e.fit e.extended l e.trace names single number apart m work a).mentions
      (starting code new (plain_of code new l)) (λ p k. sym (same-bases code new (plain_of code new l) p k)))
    where
      finish : {cs : List ℕ} → FixAgain code names (length new) a.after (at_plain (plain_of code new l)) l m cs → ComesTo code names new (beginning code new l number) m work
      finish q = record {
        repair = repair_at (with_store a.after q.after) m;
        slice = record {
          after = with_store a.after q.after;
          items = m;
          runs = Runs.whole (subst (λ x. Fix code names (at_plain x) l (with_store a.after q.after) m) (sym plain-same) q.fix);
          is = refl;
        };
        items = refl;
        spent = a.counted;
      }

  fix-adjusts : (s' : State) (m : Trace) → Runs code names None (goes_on code new (beginning code new l number)) l s' m → AdjustsAs code new names number l m s'.work
  fix-adjusts s' m (Runs.whole g) =
      let h = begin-sound code names old new f args l above number e single apart in
      let o = in-order code new f args fits (repair_at s' m) (runs-sound code new f args fits (beginning code new l number) h None s' m (Runs.whole g))
      (starting code new (plain_of code new l)) s'.store (starting-known code new e.fit (plain_of code new l)) (fix-honest g) in
      let g' : Fix code names (at_plain (plain_of code new l)) l s' m = subst (λ x. Fix code names (at_plain x) l s' m) plain-same g in
      let q = fix-again code names (length new) g' o.mentions (bases code new) (same-bases code new (plain_of code new l)) in
      record { after = with_store s' q.after; fix = q.fix; counted = refl }

  pub slices-adjusts : (r' : Repair) → Slices code names new None (beginning code new l number) r' → AdjustsAs code new names number l r'.items r'.spent
  slices-adjusts r' s = subst (λ r'. AdjustsAs code new names number l r'.items r'.spent) (sym s.is) (fix-adjusts s.after s.items s.runs)

module _ (code : Code) (old new : List Block) (f : ℕ) (args : List Word) (l : Trace) (number : ℕ) (e : Edited code old new f args l number) where
  by-cases : (n : ℕ) (o : Option Repaired) (q : Option Repair) → adjusted code new number n l ≡ o → sliced code own new None n (beginning code new l number) ≡ q → SameRepair o q
  by-cases n None None i j = SameRepair.none
  by-cases n (Some a) None i j =
      let s = adjusted-sound code new number n l a i in
      let c = adjusts-slices code own old new f args l number number e own-single e.above a.items a.work s.0 in
      none-some c.repair (sym j ∙ sliced-found code own new n (beginning code new l number) None c.repair c.slice (omega (arith, s.1, c.spent)))
  by-cases n None (Some r) i j =
      let s = sliced-sound code own new n (beginning code new l number) None r j in
      none-some _ (sym i ∙ adjusted-found code new number n l r.items r.spent (slices-adjusts code own old new f args l number number e own-single e.above r s.0) s.1)
  by-cases n (Some a) (Some r) i j =
      let s = sliced-sound code own new n (beginning code new l number) None r j in
      let same = some-same a (record { items = r.items; work = r.spent })
      (sym i ∙ adjusted-found code new number n l r.items r.spent
      (slices-adjusts code own old new f args l number number e own-single e.above r s.0) s.1) in
      SameRepair.some (ap (λ a. a.items) (sym same)) (ap (λ a. a.work) (sym same))

  pub begun-adjusted : (n : ℕ) → SameRepair (adjusted code new number n l) (sliced code own new None n (beginning code new l number))
  begun-adjusted n = by-cases n (adjusted code new number n l) (sliced code own new None n (beginning code new l number)) refl refl
