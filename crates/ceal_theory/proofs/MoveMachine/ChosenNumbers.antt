-- A repair, one move at a time, where the numbers of new blocks are chosen as it goes.
use Rattle.std.proofs.Common.{◌≡◌, ℕ, zero, suc, ◌+◌, ◌<◌, Option, Some, None, List, [], ◌∷◌, ◌++◌, length, slice_get, append-nil, refl, sym, ap, ◌∙◌, arith}
use Rattle.ceal_base.specs.Block.{Block}
use Rattle.ceal_base.specs.Finished.{Finished}
use Rattle.ceal_base.specs.Trace.{Trace, Nothing, flat, steps_of}
use Rattle.ceal_base.specs.declared.forest.Item.{Item}
use Rattle.ceal_base.specs.declared.word.Word.{Word}
use Rattle.ceal_code.proofs.Alike.AlikeSteps.{steps-alike}
use Rattle.ceal_code.proofs.Replay.ReplayedCall.{trace-law}
use Rattle.ceal_code.proofs.Words.SameIsEqual.{none-some}
use Rattle.ceal_code.specs.Fitting.{Fits}
use Rattle.ceal_code.specs.Fresh.{fresh}
use Rattle.ceal_code.specs.Program.{Code}
use Rattle.ceal_code.specs.Replay.{In, here, there, Distinct, input_plain, plain_of}
use Rattle.ceal_code.specs.Step.{started}
use Rattle.ceal_theory.proofs.Repair.EndAsFromScratch.{first-steps, first-words, repaired}
use Rattle.ceal_theory.proofs.Repair.FromScratch.{scratch-first}
use Rattle.ceal_theory.proofs.Repair.FunctionOfRules.{adjusted-sound, adjusted-found, first-sound, first-found}
use Rattle.ceal_theory.proofs.Repair.Honesty.{fix-honest, anew-honest}
use Rattle.ceal_theory.proofs.Store.FittingInputs.{fits-more}
use Rattle.ceal_theory.proofs.MoveMachine.MachineLaws.{leads-stays, leads-then, takes-move}
use Rattle.ceal_theory.proofs.Renaming.GivenNumbers.{handed-law, named-back, named-there, first-back, first-there}
use Rattle.ceal_theory.proofs.Repair.RepairReplays.{words-after}
use Rattle.ceal_theory.proofs.MoveMachine.MoveKeepsEnd.{finishes-fix, finishes-anew, finishes-rises}
use Rattle.ceal_theory.specs.Adjust.{AdjustsAs, FirstsAs}
use Rattle.ceal_theory.specs.Chosen.{Continues, ComesBy, Free, EndedRepair, EndedFirst, repair_begins, first_begins, ChosenLaw}
use Rattle.ceal_theory.specs.Laws.{Edited}
use Rattle.ceal_theory.specs.Named.{Apart, then_from}
use Rattle.ceal_theory.specs.Repair.{Single, begins}
use Rattle.ceal_theory.specs.Moves.{Machine, Ended, next_move, Resumes, Finishes, BecomesBy, Ends}

-- a number above all of these
most : List ℕ → ℕ
most [] = 0
most (b ∷ bs) = b + 1 + most bs

below-most : (b : ℕ) (bs : List ℕ) → In b bs → b < most bs
unfolding most
below-most b [] i = elim i [ ]
below-most b (c ∷ bs) here = omega arith
below-most b (c ∷ bs) (there i) = omega (arith, below-most b bs i)

continues-more : (bs : List ℕ) (b : ℕ) (names : ℕ → ℕ) → Continues (bs ++ b ∷ []) names → Continues bs names × (names (length bs) ≡ b)
continues-more bs b names h = (λ k c e. h k c (front bs k c e), h (length bs) b (last bs))
  where
    front : (bs : List ℕ) (k c : ℕ) → slice_get bs k ≡ Some c → slice_get (bs ++ b ∷ []) k ≡ Some c
    front [] k c e = none-some c e
    front (d ∷ bs) zero c e = e
    front (d ∷ bs) (suc k) c e = front bs k c e

    last : (bs : List ℕ) → slice_get (bs ++ b ∷ []) (length bs) ≡ Some b
    last [] = refl
    last (d ∷ bs) = last bs

module _ (code : Code) where
  begun : (m : Machine) (chosen : List ℕ) → m.state.number ≡ length chosen → ComesBy code m m chosen []
  begun m chosen e = record { number = e; leads = λ names h. leads-stays code names m }

  more : (start m m' : Machine) (chosen : List ℕ) (out is : List Item) → ComesBy code start m chosen out
      → ((names : ℕ → ℕ) → BecomesBy code names m m' is) → m'.state.number ≡ m.state.number → ComesBy code start m' chosen (out ++ is)
  more start m m' chosen out is c h e = record { number = e ∙ c.number; leads = λ names k. leads-then code names start m m' out is (c.leads names k) (h names) }

  numbered : (start m m' : Machine) (chosen : List ℕ) (out is : List Item) → ComesBy code start m chosen out
      → (b : ℕ) → ((names : ℕ → ℕ) → names m.state.number ≡ b → BecomesBy code names m m' is) → m'.state.number ≡ m.state.number + 1 → ComesBy code start m' (chosen ++ b ∷ []) (out ++ is)
  numbered start m m' chosen out is c b h e = record {
    number = e ∙ (ap (λ n. n + 1) c.number ∙ sym (longer chosen));
    leads = λ names k.
        let q = continues-more chosen b names k in
        leads-then code names start m m' out is (c.leads names q.0) (h names (ap names c.number ∙ q.1));
  }
    where
      longer : (bs : List ℕ) → length (bs ++ b ∷ []) ≡ length bs + 1
      longer [] = omega arith
      longer (d ∷ bs) = omega (arith, longer bs)

  ended-at : (names : ℕ → ℕ) (m : Machine) → next_move code names m ≡ Ended → Finishes code names m m.state []
  ended-at names m e = let t : Ends code names m = rw e at (takes-move code names m) in t.back

  module _ (old new : List Block) (f : ℕ) (args : List Word) (l : Trace) (number : ℕ) (e : Edited code old new f args l number) (chosen : List ℕ) (free : Free chosen l) where
    bound : ℕ
    bound = most chosen + number

    fits-new : Fits code new f args
    fits-new = fits-more code old new e.extended f args e.call e.fit

    single : Single (then_from chosen (most chosen + number))
    single = (handed-law chosen (most chosen + number) free.distinct (λ b i. omega (arith, below-most b chosen i))).0

    continues : Continues chosen (then_from chosen (most chosen + number))
    continues = (handed-law chosen (most chosen + number) free.distinct (λ b i. omega (arith, below-most b chosen i))).1

    apart : Apart (then_from chosen (most chosen + number)) l
    apart = (handed-law chosen (most chosen + number) free.distinct (λ b i. omega (arith, below-most b chosen i))).2 l (λ b h. e.above b (omega (arith, h))) free.apart

    ends : (m : Machine) (out : List Item) → ComesBy code (repair_begins code new l) m chosen out → ((names : ℕ → ℕ) → next_move code names m ≡ Ended)
        → EndedRepair code old new f args l number chosen m.state out
    ends m out c h =
        let names = then_from chosen (most chosen + number) in
        let done = (c.leads names continues).back m.state [] (ended-at names m (h names)) in
        let r = finishes-fix code names (begins code new (plain_of code new l) 0) l m.state (out ++ []) done in
        let d : AdjustsAs code new names 0 l r.items m.state.work = record { after = m.state; fix = r.fix; counted = refl } in
        let q = named-back code old new f args l number e names single apart m.state.work r.items m.state.work d (omega arith) in
        let walk = fix-honest r.fix in
        record {
          bound = most chosen + number;
          a = q.0;
          is = λ n k. adjusted-found code new number n l q.0.items q.0.work (adjusted-sound code new number m.state.work l q.0 q.1).0 (omega (arith, q.2, k));
          counted = q.2;
          items = r.items;
          flat_form = sym (append-nil out) ∙ r.same;
          named = q.3;
          walk = walk;
          determined = trace-law code new f args fits-new r.items q.3.replays (record { after = m.state.store; walk = walk });
          words = words-after code old new f args e.call e.fit e.extended l e.trace names single 0 (λ k h. apart k) r.items m.state.work d;
        }

    over : (m : Machine) (out : List Item) → ComesBy code (repair_begins code new l) m chosen out → (fuel : ℕ) → fuel < m.state.work → fresh code f args new fuel ≡ None
    over m out c fuel h = go (fresh code f args new fuel) refl
      where
        go : (o : Option Finished) → fresh code f args new fuel ≡ o → o ≡ None
        go None k = refl
        go (Some r) k =
            let names = then_from chosen (most chosen + number) in
            let a = repaired code old new f args e.call e.fit e.extended l e.trace number e.above fuel r k in
            let q = named-there code old new f args l number e names single apart fuel a.0 a.1 in
            let d = q.1 in
            let g = (c.leads names continues).ahead d.after (flat q.0 ++ []) (Finishes.fixes d.fix Resumes.bottom) in
            absurd (omega (arith, h, finishes-rises g.finishes, d.counted, (adjusted-sound code new number fuel l a.0 a.1).1))

  module _ (inputs : List Block) (f : ℕ) (args : List Word) (fits : Fits code inputs f args) (chosen : List ℕ) (distinct : Distinct chosen) where
    single-first : Single (then_from chosen (most chosen))
    single-first = (handed-law chosen (most chosen) distinct (λ b i. below-most b chosen i)).0

    continues-first : Continues chosen (then_from chosen (most chosen))
    continues-first = (handed-law chosen (most chosen) distinct (λ b i. below-most b chosen i)).1

    first-ends : (m : Machine) (out : List Item) → ComesBy code (first_begins code inputs f args) m chosen out → ((names : ℕ → ℕ) → next_move code names m ≡ Ended)
        → EndedFirst code inputs f args chosen m.state out
    first-ends m out c h =
        let names = then_from chosen (most chosen) in
        let done = (c.leads names continues-first).back m.state [] (ended-at names m (h names)) in
        let r = finishes-anew code names (begins code inputs (input_plain code inputs) 0) (started code f args) Nothing m.state (out ++ []) done in
        let d : FirstsAs code inputs names f args r.items m.state.work = record { after = m.state; left = r.left; anew = r.anew; counted = refl } in
        let q = first-back code inputs f args fits names single-first m.state.work r.items m.state.work d (omega arith) in
        let walk = anew-honest r.anew in
        let steps : steps_of r.items ≡ m.state.work = sym (steps-alike q.3.alike) ∙
        (first-steps code inputs f args fits q.0.items q.0.work
        (first-sound code inputs m.state.work f args q.0 q.1).0 ∙ q.2) in
        record {
          bound = most chosen;
          a = q.0;
          is = λ n k. first-found code inputs n f args q.0.items q.0.work (first-sound code inputs m.state.work f args q.0 q.1).0 (omega (arith, q.2, k));
          counted = q.2;
          items = r.items;
          flat_form = sym (append-nil out) ∙ r.same;
          named = q.3;
          steps = steps;
          walk = walk;
          determined = trace-law code inputs f args fits r.items q.3.replays (record { after = m.state.store; walk = walk });
          words = first-words code inputs f args fits names single-first r.items m.state.work d;
        }

    first-over : (m : Machine) (out : List Item) → ComesBy code (first_begins code inputs f args) m chosen out → (fuel : ℕ) → fuel < m.state.work → fresh code f args inputs fuel ≡ None
    first-over m out c fuel h = go (fresh code f args inputs fuel) refl
      where
        go : (o : Option Finished) → fresh code f args inputs fuel ≡ o → o ≡ None
        go None k = refl
        go (Some r) k =
            let names = then_from chosen (most chosen) in
            let s = scratch-first code inputs f args fits fuel r k in
            let found = first-found code inputs fuel f args s.0 r.steps s.1 s.2 in
            let q = first-there code inputs f args fits names single-first fuel (record { items = s.0; work = r.steps }) found in
            let d = q.1 in
            let g = (c.leads names continues-first).ahead d.after (flat q.0 ++ []) (Finishes.runs d.anew Resumes.bottom) in
            absurd (omega (arith, h, finishes-rises g.finishes, d.counted, s.2))

pub chosen-law : ChosenLaw
chosen-law code = record {
  begun = begun code;
  more = more code;
  numbered = numbered code;
  ends = λ old new f args l number e m chosen out c free h. ends code old new f args l number e chosen free m out c h;
  over = λ old new f args l number e m chosen out c free fuel h. over code old new f args l number e chosen free m out c fuel h;
  first_ends = λ inputs f args fits m chosen out c distinct h. first-ends code inputs f args fits chosen distinct m out c h;
  first_over = λ inputs f args fits m chosen out c distinct fuel h. first-over code inputs f args fits chosen distinct m out c fuel h;
}
