-- A finished run needs no repair: a slice of it of any size leaves it.
use Rattle.std.proofs.Common.{◌≡◌, ◌≢◌, ℕ, Option, Some, None, List, refl, sym, ap, subst, arith}
use Rattle.std.specs.Option.{IsSomeAnd}
use Rattle.std.specs.Prelude.{IfSome, ◌++◌, Ok}
use Rattle.ceal_base.specs.Block.{Block}
use Rattle.ceal_base.specs.declared.call.Call.{Call}
use Rattle.ceal_code.specs.Program.{Code}
use Rattle.ceal_code.specs.Replay.{bases}
use Rattle.ceal_engine.proofs.Carrying.{begun, begun-kept, comes-done}
use Rattle.ceal_engine.proofs.ReadsApart.{apart-idle}
use Rattle.ceal_engine.proofs.CostOfCalls.{cost-idle, distinct-nodes}
use Rattle.ceal_engine.proofs.NoneStale.{left, there}
use Rattle.ceal_engine.proofs.Present.{sound-present}
use Rattle.ceal_engine.proofs.Propagated.{finished-clause, present-told, told-run}
use Rattle.ceal_engine.specs.Advance.{RepairEnds}
use Rattle.ceal_engine.specs.Calls.{Advances}
use Rattle.ceal_engine.specs.Engine.{EngineState, has_run}
use Rattle.ceal_engine.specs.Keeping.{EngineInvariant, IsUpToDate, Kept, Keeps, phase_of, state_of}
use Rattle.ceal_engine.specs.Partial.{CarriesRepair, SliceEnds}
use Rattle.ceal_engine.specs.Repaired.{KeepsFront}
use Rattle.ceal_engine.specs.Runs.{told}
use Rattle.ceal_engine.specs.declared.phase.Came.{Came}
use Rattle.ceal_engine.specs.declared.phase.Came.TheVariants as came
use Rattle.ceal_engine.specs.declared.phase.Phase.TheVariants.{Finished as IsFinished}
use Rattle.ceal_engine.specs.declared.run.Run.{Run}
use Rattle.ceal_engine.specs.declared.run.Run.TheVariants as its
use Rattle.ceal_engine.specs.declared.run.Stage.TheVariants as stage
use Rattle.ceal_repair.specs.Slicing.{IsSliced}
use Rattle.ceal_repair.specs.declared.advance.Progress.TheVariants.{Done}
use Rattle.ceal_repair.specs.declared.running.Running.{Running}
use Rattle.ceal_theory.proofs.SlicedRepair.SliceLaws.{turns-law}
use Rattle.ceal_theory.specs.SliceLaws.{Turns}
use Rattle.ceal_theory.specs.Slices.{Repair, beginning}
use Rattle.ceal_theory.specs.Walk.{AgreesAll}
use Rattle.ceal_trace.specs.Items.{forest_of}
use Rattle.ceal_trace.specs.Nodes.{Entry, Timeline}

module _ (code : Code) (fuel : ℕ) (inputs : List Block) (call : Call) (run : Running) (k : IsUpToDate code fuel inputs call run) (reads : Option ℕ) (some : reads ≢ Some 0) where
  abbrev part : Repair
  part = beginning code inputs k.trace 0

  -- the slice of the repair that begins is that repair
  stays : IsSliced code inputs call.function call.args reads fuel part (told 0 run) Done
  stays =
      let of = begun code fuel inputs call k.trace run k.of in
      let turned = turns-law code of.stands.names inputs call.function call.args of.fits part of.stands.sound 0 part Turns.none in
      let old = told-run code fuel inputs 0 call.function call.args k.trace run k.of in (
        left code inputs call.function call.args fuel part (told 0 run) of k.honest of.stands.names turned,
        record {
          names = of.stands.names;
          single = of.stands.sound.single;
          off = λ j. of.stands.sound.free j (omega arith);
          is = there code inputs call.function call.args fuel part (told 0 run) of k.honest of.stands.names turned reads some;
        },
        record { stands = old.stands; replays = old.replays; honest = k.honest; few = old.few; numbers = old.numbers; idle = k.idle },
        refl,
      )

  pub settled-slice : (next : ℕ) (r : Repair) → CarriesRepair (state_of code fuel inputs (Some call) (its.Kept run stage.Finished)) next r
      → SliceEnds (state_of code fuel inputs (Some call) (its.Kept run stage.Finished)) (record (state_of code fuel inputs (Some call) (its.Kept run stage.Finished)) { work = 0 }) reads next r
  unfolding begun-kept
  settled-slice next r c =
      comes-done code fuel inputs call stage.Finished run (told 0 run) refl (begun-kept code fuel inputs call k.trace run k.of) reads next r c (told 0 run) stays

-- where the nodes are the same each list in front of them stays
front-same : (e n : EngineState) → n.timeline ≡ e.timeline → KeepsFront e n
front-same e n h = go e.timeline n.timeline h
  where
    go : (o o' : Option Timeline) → o' ≡ o → IfSome o (λ t. (front back : List Entry) → t.nodes ≡ front ++ back → AgreesAll e.code (bases e.code e.inputs) (forest_of front)
        → IsSomeAnd o' (λ u. (later : List Entry) × (u.nodes ≡ front ++ later)))
    go None o' i = tt
    go (Some t) o' i = λ front back is agrees. subst (λ o. IsSomeAnd o (λ u. (later : List Entry) × (u.nodes ≡ front ++ later))) (sym i) (back, is)

module _ (code : Code) (fuel : ℕ) (inputs : List Block) (kept : Kept) (run : Run) (s : EngineInvariant code fuel inputs kept run) (is : phase_of run ≡ IsFinished)
    (reads : Option ℕ) (some : reads ≢ Some 0) where
  abbrev e : EngineState
  e = state_of code fuel inputs kept.call run

  slice : (next : ℕ) (r : Repair) → CarriesRepair e next r → SliceEnds e (record e { work = 0 }) reads next r
  slice = go run kept.call is s.keeps
    where
      go : (b : Run) (c : Option Call) → phase_of b ≡ IsFinished → Keeps code fuel inputs b c → (next : ℕ) (r : Repair) → CarriesRepair (state_of code fuel inputs c b) next r
          → SliceEnds (state_of code fuel inputs c b) (record (state_of code fuel inputs c b) { work = 0 }) reads next r
      go its.New c i k = absurd (grind (arith, i))
      go (its.Kept r g) None i k = elim k [ ]
      go (its.Kept r stage.Finished) (Some call) i k = settled-slice code fuel inputs call r k reads some
      go (its.Kept r stage.Pending) (Some call) i k = absurd (grind (arith, i))
      go (its.Kept r stage.Partial) (Some call) i k = absurd (grind (arith, i))
      go its.Dropped c i k = absurd (grind (arith, i))

  -- so it is as where its repair has ended
  pub settled : RepairEnds e (record e { work = 0 }) reads
  settled = record {
    phase = is;
    present = present-told e 0 (sound-present code fuel inputs kept run s is);
    repairs = record {
      run = ap has_run is;
      front = front-same e (record e { work = 0 }) refl;
      cost = cost-idle e is (distinct-nodes code fuel inputs run kept.call s.keeps);
      apart = apart-idle e (distinct-nodes code fuel inputs run kept.call s.keeps);
      idle = λ l t h. record { looked = omega arith; differed = refl };
      marked = refl;
    };
    slice = slice;
    repaired = λ w l t. finished-clause code fuel inputs run kept.call s.keeps is l t;
    unchanged = λ w l t h. record { same = t; work = refl };
    unchanged_nodes = λ w l t h. refl;
  }

-- what stays is the same
pub settled-keeps : (e : EngineState) → Advances {A = Came} e (record e { work = 0 }) (Ok came.Done)
settled-keeps e = record {
  code = refl;
  fuel = refl;
  inputs = refl;
  call = refl;
  sure_where_honest = λ w l t h. refl;
  sure_in_part = λ l t h. tt;
  out_of_fuel = tt;
  dropped = tt;
}
