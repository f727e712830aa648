-- A situation of the definition continues as a session does that is in it.
use Rattle.std.proofs.Common.{◌≡◌, ℕ, Bool, true, false, Option, Some, None, Result, Ok, Err, List, refl, sym, ap, ◌∙◌, subst}
use Rattle.ceal_base.specs.Block.{Block}
use Rattle.ceal_base.specs.Finished.{Finished}
use Rattle.ceal_base.specs.declared.call.Call.{Call}
use Rattle.ceal_base.specs.declared.word.Word.{Word}
use Rattle.ceal_code.proofs.Alike.BlockPairs.{zip-one}
use Rattle.ceal_code.specs.Alike.{Pairs, OneToOne, TraceAlike, zipped}
use Rattle.ceal_code.specs.Fitting.{Fits}
use Rattle.ceal_code.specs.Fresh.{fresh}
use Rattle.ceal_code.specs.Program.{Code}
use Rattle.ceal_code.specs.Replay.{Replays, IsHonest, core_numbers}
use Rattle.ceal_base.specs.Trace.{blocks_of}
use Rattle.ceal_script.specs.declared.command.Command.{Command}
use Rattle.ceal_session.proofs.Engine.RunLeavesPast.{is-above, above, next-sound}
use Rattle.ceal_session.specs.AfterLine.{RunsOrKeeps}
use Rattle.ceal_session.specs.Replies.{situation_after}
use Rattle.ceal_session.specs.State.{State, Situation}
use Rattle.ceal_session.specs.Works.{call_in, reads_in, past_left, bound_by, bound_left, first_trace}
use Rattle.ceal_session.specs.declared.refusal.Refusal.{Refusal}
use Rattle.ceal_theory.proofs.SlicedRepair.CarriedLaws.{carried-slice-law, carried-trace-law}
use Rattle.ceal_theory.proofs.Repair.EndAsFromScratch.{first-law}
use Rattle.ceal_theory.proofs.Repair.RepairLaws.{unique-law}
use Rattle.ceal_theory.proofs.SlicedRepair.SliceLaws.{is-done-law, slice-law, slices-law}
use Rattle.ceal_theory.specs.Carried.{Carried, CarriedSlices}
use Rattle.ceal_theory.specs.Computed.{Repaired, first_of}
use Rattle.ceal_theory.specs.Laws.{FirstOutcome, RenamedRepair}
use Rattle.ceal_theory.specs.Pasts.{Past, Traced, SamePast, IsPastOf, first_past, done_past, left_by, next_repair, slice_of, past_after}
use Rattle.ceal_theory.specs.Repair.{own}
use Rattle.ceal_theory.specs.Slices.{Repair, RepairHolds, beginning, sliced, is_done}

-- a truth value that is told by the same of both is one
same-truth : (a b : Bool) → (a ≡ true → b ≡ true) → (b ≡ true → a ≡ true) → a ≡ b
same-truth true b f g = sym (f refl)
same-truth false true f g = g refl
same-truth false false f g = refl

module _ (code : Code) (inputs : List Block) (f : ℕ) (args : List Word) (fits : Fits code inputs f args) where
  -- an honest trace is itself, renamed
  pub itself : (a : Repaired) → Replays code inputs f args a.items → IsHonest code inputs a.items → RenamedRepair (Some a) (Some a)
  itself a is honest =
      let ns = core_numbers (blocks_of a.items) in
      RenamedRepair.some (zipped ns ns) (zip-one ns ns is.distinct is.distinct) (unique-law code inputs f args fits a.items a.items is is honest honest).traces refl

  -- both repairs are not there, or the second is the first one carried
  pub data NextAs : Option Repair → Option Repair → Type 0 where
    none : NextAs None None
    some : {r q : Repair} → RepairHolds code own inputs f args r → RepairHolds code own inputs f args q → Carried code inputs 0 r q → NextAs (Some r) (Some q)

  module _ (fuel : ℕ) where
    pub begin-traces : (a b : Repaired) (ps : Pairs) → OneToOne ps → TraceAlike ps a.items b.items → Replays code inputs f args a.items → Replays code inputs f args b.items
        → NextAs (next_repair code inputs (Traced a)) (next_repair code inputs (Traced b))
    begin-traces a b ps one alike h i =
        NextAs.some (next-sound code inputs f args fits fuel (Traced a) h (beginning code inputs a.items (above a.items)) refl)
        (next-sound code inputs f args fits fuel (Traced b) i (beginning code inputs b.items (above b.items)) refl)
        (carried-trace-law code inputs f args fits a.items b.items h i ps one alike (above a.items) (above b.items) (is-above a.items) (is-above b.items))

    begin-as : (a b : Repaired) → RenamedRepair (Some a) (Some b) → Replays code inputs f args a.items → Replays code inputs f args b.items
        → NextAs (next_repair code inputs (Traced a)) (next_repair code inputs (Traced b))
    begin-as a b (RenamedRepair.some ps one alike work) h i = begin-traces a b ps one alike h i

    next-as : {p q : Past} → SamePast code inputs f args p q → IsPastOf code inputs f args p → IsPastOf code inputs f args q → NextAs (next_repair code inputs p) (next_repair code inputs q)
    next-as SamePast.none h i = NextAs.none
    next-as (SamePast.traced {a = a} {b = b} r) h i = begin-as a b r h i
    next-as (SamePast.going s c) h i = NextAs.some s i c

    abbrev first : Option Repaired
    first = first_of code inputs fuel f args

    first-as : SamePast code inputs f args (first_past first) (first_past first)
    first-as = go first (fresh code f args inputs fuel) (first-law code inputs f args fits fuel)
      where
        go : (o : Option Repaired) (p : Option Finished) → FirstOutcome code inputs f args o p → SamePast code inputs f args (first_past o) (first_past o)
        go _ _ FirstOutcome.none = SamePast.none
        go _ _ (FirstOutcome.some {a = a} t) = SamePast.traced (itself a t.replays t.honest)

    same-done : (x y : Repair) → (IsHonest code inputs x.items → IsHonest code inputs y.items) → (IsHonest code inputs y.items → IsHonest code inputs x.items)
        → is_done code inputs x ≡ is_done code inputs y
    same-done x y to back =
        same-truth (is_done code inputs x) (is_done code inputs y) (λ h. (is-done-law code inputs y).1 (to ((is-done-law code inputs x).0 h)))
        (λ h. (is-done-law code inputs x).1 (back ((is-done-law code inputs y).0 h)))

    done-as : (o : Option Repaired) (x y : Repair) → Carried code inputs 0 x y → SamePast code inputs f args (done_past o x) (done_past o y)
    done-as None x y c = SamePast.none
    done-as (Some a) x y c = SamePast.traced (RenamedRepair.some c.pairs c.one c.items c.spent)

    module _ (reads : Option ℕ) where
      abbrev slice : Option Repair → Option Repair
      slice o = slice_of code inputs fuel reads o

      -- what is done of both, and whether it is all
      pub data DoneAs : Option Repair → Option Repair → Type 0 where
        none : DoneAs None None
        some : {x y : Repair} → RepairHolds code own inputs f args x → Carried code inputs 0 x y → is_done code inputs x ≡ is_done code inputs y → DoneAs (Some x) (Some y)

      done-of : (r q : Repair) → RepairHolds code own inputs f args r → RepairHolds code own inputs f args q → Carried code inputs 0 r q
          → DoneAs (sliced code own inputs reads fuel r) (sliced code own inputs reads fuel q)
      done-of r q sound sound' c = go (sliced code own inputs reads fuel r) (sliced code own inputs reads fuel q) refl (carried-slice-law code own inputs f args fits r q sound sound' 0 c reads fuel)
        where
          go : (o p : Option Repair) → sliced code own inputs reads fuel r ≡ o → CarriedSlices code inputs 0 o p → DoneAs o p
          go _ _ e CarriedSlices.none = DoneAs.none
          go _ _ e (CarriedSlices.some {r = x} {q = y} k honest) =
              DoneAs.some (slice-law code own inputs f args fits r sound reads x (((slices-law code own inputs reads fuel r x).0 e).0)).sound k (same-done x y honest.0 honest.1)

      pub slice-as : {o p : Option Repair} → NextAs o p → DoneAs (slice o) (slice p)
      slice-as NextAs.none = DoneAs.none
      slice-as (NextAs.some {r = r} {q = q} s t c) = done-of r q s t c

      left-as : {o p : Option Repair} → DoneAs o p → SamePast code inputs f args (left_by code inputs first o) (left_by code inputs first p)
      left-as DoneAs.none = first-as
      left-as (DoneAs.some {x = x} {y = y} sound c e) = go (is_done code inputs x) refl
        where
          go : (b : Bool) → is_done code inputs x ≡ b → SamePast code inputs f args (left_by code inputs first (Some x)) (left_by code inputs first (Some y))
          go true i = rw (i, sym e ∙ i) (done-as first x y c)
          go false i = rw (i, sym e ∙ i) (SamePast.going sound c)

      pub past-as : (p q : Past) → NextAs (next_repair code inputs p) (next_repair code inputs q)
          → SamePast code inputs f args (past_after code inputs fuel first reads p) (past_after code inputs fuel first reads q)
      past-as p q next = left-as (slice-as next)

-- both have one bound
module _ (code : Code) (s : State) (call : Call) (fits : Fits code s.inputs call.function call.args) (reads : Option ℕ) (bound : ℕ) where
  same-bound : (first : Option Repaired) {o p : Option Repair} → DoneAs code s.inputs call.function call.args fits s.fuel reads o p
      → bound_by code s call first o bound ≡ bound_by code s call first p bound
  same-bound first DoneAs.none = refl
  same-bound None (DoneAs.some sound c e) = rw e refl
  same-bound (Some a) (DoneAs.some sound c e) = rw e refl

  pub bound-as : (p q : Past) → NextAs code s.inputs call.function call.args fits (next_repair code s.inputs p) (next_repair code s.inputs q)
      → bound_left code s (Ok call) reads p bound ≡ bound_left code s (Ok call) reads q bound
  bound-as p q next = same-bound (first_trace code s call) (slice-as code s.inputs call.function call.args fits s.fuel reads next)

-- the call of a line fits, and what is past is one of it
pub record CallFacts (m : Situation) (call : Call) : Type 0 where
  pub fits : Fits m.code m.state.inputs call.function call.args
  pub past : IsPastOf m.code m.state.inputs call.function call.args m.past

next : (m : Situation) (call : Call) (k : CallFacts m call) (p : Past) → IsPastOf m.code m.state.inputs call.function call.args p → SamePast m.code m.state.inputs call.function call.args p m.past
    → NextAs m.code m.state.inputs call.function call.args k.fits (next_repair m.code m.state.inputs p) (next_repair m.code m.state.inputs m.past)
next m call k p of same = next-as m.code m.state.inputs call.function call.args k.fits m.state.fuel same of k.past

pub follows : (m : Situation) (command : Option Command) → ((call : Call) → call_in m.state command ≡ Ok call → CallFacts m call)
    → RunsOrKeeps m (call_in m.state command) (reads_in command) (situation_after m command)
follows m command facts = go (call_in m.state command) refl
  where
    go : (called : Result Call Refusal) → call_in m.state command ≡ called → RunsOrKeeps m called (reads_in command) (situation_after m command)
    go (Err r) e = record {
      code = refl;
      past = ap (λ c. past_left m.code m.state c (reads_in command) m.past) e;
      bound = ap (λ c. bound_left m.code m.state c (reads_in command) m.past m.bound) e;
    }
    go (Ok call) e =
        let k : CallFacts m call = facts call e in
        record {
          code = refl;
          past = λ p of same.
              subst (λ (q : Past). SamePast m.code m.state.inputs call.function call.args (past_left m.code m.state (Ok call) (reads_in command) p) q)
              (sym (ap (λ c. past_left m.code m.state c (reads_in command) m.past) e))
              (past-as m.code m.state.inputs call.function call.args k.fits m.state.fuel (reads_in command) p m.past (next m call k p of same));
          bound = λ p of same.
              ap (λ c. bound_left m.code m.state c (reads_in command) m.past m.bound) e
              ∙ sym (bound-as m.code m.state call k.fits (reads_in command) m.bound p m.past (next m call k p of same));
        }
