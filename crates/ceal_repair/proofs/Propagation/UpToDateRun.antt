-- What a run that is up to date comes to.
use Rattle.std.proofs.Common.{◌≡◌, ℕ, ◌<◌, ◌≤◌, ◌*◌, inl, inr, Option, Some, None, refl, List, [], length, sym, ap, ◌∙◌, append-nil, arith}
use Rattle.ceal_base.proofs.TraceLemmas.{steps-flat}
use Rattle.ceal_base.specs.Block.{Block}
use Rattle.ceal_base.specs.Trace.{Trace, flat, blocks_of, steps_of, steps_in}
use Rattle.ceal_base.specs.declared.word.BlockId.{BlockId}
use Rattle.ceal_base.specs.declared.word.BlockId.TheVariants.{Input, Core}
use Rattle.ceal_base.specs.declared.word.Word.{Word}
use Rattle.ceal_code.specs.Fresh.{fresh}
use Rattle.ceal_code.specs.Program.{Code}
use Rattle.ceal_code.specs.Replay.{plain_of, Replays, core_numbers}
use Rattle.ceal_code.specs.Fitting.{Fits}
use Rattle.ceal_code.proofs.Words.SameIsEqual.{none-some}
use Rattle.ceal_base.specs.Finished.{Finished}
use Rattle.ceal_heap.specs.Heap.{HasSlots, ReleasesRevoked, next}
use Rattle.ceal_repair.proofs.Propagation.NewBlockNumbers.{GoesOn, above, goes-on, edited-here, begins-sound, turns-room}
use Rattle.ceal_repair.proofs.Runs.FewNumbers.{next-released}
use Rattle.ceal_repair.proofs.Revocation.BlockRelease.{words-released, none-revoked, blocks-released}
use Rattle.ceal_repair.specs.Answers.{StandsForTrace, IsRunOf, IsRepairFrom, IsRepairedRun}
use Rattle.ceal_repair.specs.Propagation.{IsUpToDate, IsSpent}
use Rattle.ceal_repair.specs.Turning.{Since, turns_more, later, since_begun}
use Rattle.ceal_repair.specs.Words.{words_of}
use Rattle.ceal_repair.specs.declared.running.Running.{Running}
use Rattle.ceal_theory.proofs.Repair.Honesty.{fix-work}
use Rattle.ceal_theory.proofs.Store.WritesByPlace.{listed-law}
use Rattle.ceal_theory.proofs.Renaming.GivenNumbers.{named-law}
use Rattle.ceal_theory.proofs.SlicedRepair.DoneReplays.{replays-words}
use Rattle.ceal_theory.proofs.Repair.RepairLaws.{end-law, function-law}
use Rattle.ceal_theory.proofs.SlicedRepair.SliceLaws.{begun-law, done-law, slices-law, start-law, turns-law}
use Rattle.ceal_theory.specs.Adjust.{Above, AdjustsAs}
use Rattle.ceal_theory.specs.Cover.{known_after}
use Rattle.ceal_theory.specs.Known.{KnownItems}
use Rattle.ceal_theory.specs.Laws.{Edited}
use Rattle.ceal_theory.specs.SliceLaws.{Ended}
use Rattle.ceal_theory.specs.Slices.{Repair, Slices, beginning, goes_on, repair_at, with_inputs}
use Rattle.ceal_trace.specs.Items.{forest_of}

-- ---- of any repair that turns began from

module _ (code : Code) (inputs : List Block) (f : ℕ) (args : List Word) (o : Since) (old run : Running) (done : IsUpToDate code inputs f args o old run) where
  abbrev pub repair : Repair
  repair = done.come.so_far.repair

  pub ended : Ended code inputs f args repair.items done.honest
  ended = done-law code done.come.so_far.stands.names inputs f args done.come.called.fits repair done.come.so_far.stands.sound done.honest

  -- all steps of the nodes are those of the items
  pub steps-same : steps_in (forest_of run.tables.trace.nodes) ≡ steps_of repair.items
  steps-same = ap steps_in done.come.so_far.stands.items ∙ steps-flat repair.items

  -- more of them than the fuel: so has the run from scratch
  pub too-many : (fuel : ℕ) → fuel < steps_in (forest_of run.tables.trace.nodes) → fresh code f args inputs fuel ≡ None
  too-many fuel more = ended.run.short fuel (omega (arith, more, steps-same))

  mentions : KnownItems (length inputs) [] (flat repair.items) (known_after [] (flat repair.items))
  mentions =
      (listed-law code done.come.so_far.stands.names inputs f args done.come.called.fits repair done.come.so_far.stands.sound (flat repair.items) [] (sym (append-nil (flat repair.items)))
      ((start-law code done.come.so_far.stands.names inputs f args done.come.called.fits repair done.come.so_far.stands.sound).0 done.honest)).items

  -- the words that the trace gives to its blocks are known
  words : (b : BlockId) (block : Block) → plain_of code inputs repair.items b ≡ Some block → words_of code inputs run.heap b ≡ Some block
  unfolding words_of with_inputs
  words b block e = go b e
    where
      held : (b : BlockId) → plain_of code inputs repair.items b ≡ Some block → with_inputs code inputs repair.known b ≡ Some block
      held b e = replays-words code inputs f args done.come.called.fits repair done.come.so_far.stands.sound ended.replays b block e

      go : (b : BlockId) → plain_of code inputs repair.items b ≡ Some block → words_of code inputs run.heap b ≡ Some block
      go (Input i) e = held (Input i) e
      go (Core b) e = sym (done.come.so_far.stands.known b) ∙ held (Core b) e

  -- the revoked blocks were taken away
  pub stands-after : (after : Running) → after.tables ≡ run.tables → ReleasesRevoked run.heap after.heap → HasSlots after.heap → StandsForTrace code inputs repair.items after
  stands-after after tables rel slots = record {
    kept = rw tables done.come.so_far.stands.kept;
    nests = rw tables done.come.so_far.stands.nests;
    items = rw tables done.come.so_far.stands.items;
    words = words-released code inputs repair.items run.tables run.heap after.heap done.come.so_far.stands.blocks done.come.so_far.stands.items rel words;
    released = none-revoked code inputs repair.items run.tables run.heap after.heap done.come.so_far.stands.blocks done.come.so_far.stands.items rel;
    slots = slots;
    blocks = rw tables (blocks-released code inputs repair.items run.tables run.heap after.heap done.come.so_far.stands.blocks done.come.so_far.stands.items rel mentions);
  }

  -- so it is a run of the call
  pub concluded-run : (fuel : ℕ) → steps_in (forest_of run.tables.trace.nodes) ≤ fuel → next run.heap ≤ 2 * fuel → (after : Running) → after.tables ≡ run.tables → ReleasesRevoked run.heap after.heap
      → HasSlots after.heap
      → IsRunOf code inputs f args fuel repair.items after
  concluded-run fuel few numbers after tables rel slots = record {
    stands = stands-after after tables rel slots;
    replays = ended.replays;
    honest = done.honest;
    few = omega (arith, few, steps-same);
    numbers = let same = next-released run.heap after.heap rel in omega (arith, numbers, same);
    idle = rw tables done.idle;
  }

-- ---- of a trace of the call

module _ (code : Code) (inputs : List Block) (f : ℕ) (args : List Word) (l : Trace) (fits : Fits code inputs f args) (replays : Replays code inputs f args l) (numbers n : ℕ) where
  -- more steps were spent than the fuel: the run from scratch needs more
  pub spent-out : (fuel : ℕ) → IsSpent code inputs fuel (later n (since_begun code inputs l numbers)) → fresh code f args inputs fuel ≡ None
  spent-out fuel s = go (fresh code f args inputs fuel) refl
    where
      go : (o : Option Finished) → fresh code f args inputs fuel ≡ o → o ≡ None
      go None k = refl
      go (Some done) k =
          let e = edited-here code inputs f args l fits replays in
          let number = above (core_numbers (blocks_of l)) in
          let a = (end-law code inputs inputs f args l number e fuel).repaired done k in
          let few = ((function-law code inputs fuel a.0).0 number l).0 a.1 in
          let m = (named-law code inputs inputs f args l number e s.names s.single s.off fuel).there a.0 a.1 in
          let c = (begun-law code s.names inputs inputs f args l number 0 e s.single (λ k h. s.off k)).0 m.0 a.0.work m.1 in
          none-some c.repair (sym s.whole ∙ (slices-law code s.names inputs None fuel (beginning code inputs l 0) c.repair).1 (c.slice, omega (arith, c.spent, few.1)))

  module _ (old run : Running) (done : IsUpToDate code inputs f args (later n (since_begun code inputs l numbers)) old run) where
    abbrev last : Repair
    last = repair code inputs f args (later n (since_begun code inputs l numbers)) old run done

    abbrev new : GoesOn done.come.so_far.chosen (core_numbers (blocks_of l))
    new = goes-on (core_numbers (blocks_of l)) done.come.so_far.chosen done.come.so_far.given.distinct done.come.so_far.given.apart

    whole : Slices code new.names inputs None (beginning code inputs l 0) (repair_at (goes_on code inputs last) last.items)
    whole =
        (turns-law code new.names inputs f args fits (beginning code inputs l 0) (begins-sound code inputs f args l fits replays new.names new.single new.apart) (turns_more n 0) last
        (done.come.so_far.history new.names new.continues)).whole done.honest

    adjusts : AdjustsAs code inputs new.names 0 l last.items last.spent
    adjusts =
        (begun-law code new.names inputs inputs f args l _ 0 (edited-here code inputs f args l fits replays) new.single (λ k h. new.apart k)).1 (repair_at (goes_on code inputs last) last.items) whole

    few-work : last.spent ≤ steps_of last.items
    few-work = omega (arith, fix-work adjusts.fix, adjusts.counted)

    from : (fuel : ℕ) → steps_of last.items ≤ fuel → (next : ℕ) → Above next l → IsRepairFrom code inputs fuel new.names l last.items run.spent next
    from fuel few next h =
        let e = edited-here code inputs f args l fits replays in
        let now : Edited code inputs inputs f args l next = record { call = e.call; fit = e.fit; extended = e.extended; trace = e.trace; above = h } in
        let q = (named-law code inputs inputs f args l next now new.names new.single new.apart fuel).back last.items last.spent adjusts (omega (arith, few, few-work)) in
        record { repair = q.0; is = q.1; same = q.3.same; counted = sym done.come.so_far.stands.spent ∙ sym q.2 }

    -- no more blocks were made than steps were spent
    few-numbers : (fuel : ℕ) → steps_of last.items ≤ fuel → numbers ≤ 2 * fuel → length (core_numbers (blocks_of l)) ≤ fuel → next run.heap ≤ 2 * fuel
    few-numbers fuel few most blocks =
        let room = turns-room code inputs f args (later n (since_begun code inputs l numbers)) done.come.called new.names (beginning code inputs l 0) last (turns_more n 0)
        (begins-sound code inputs f args l fits replays new.names new.single new.apart) (done.come.so_far.history new.names new.continues) in
        elim done.come.so_far.given.few [
          | inl k ↦ omega (arith, k, most)
          | inr k ↦ omega (arith, k, room, done.come.so_far.number, few-work, few, blocks)
        ]

    pub repaired : (fuel : ℕ) → steps_in (forest_of run.tables.trace.nodes) ≤ fuel → numbers ≤ 2 * fuel → length (core_numbers (blocks_of l)) ≤ fuel → (after : Running) → after.tables ≡ run.tables
        → after.spent ≡ run.spent → ReleasesRevoked run.heap after.heap → HasSlots after.heap
        → IsRepairedRun code inputs f args fuel l old after
    repaired fuel few most blocks after tables spent rel slots =
        let o = later n (since_begun code inputs l numbers) in
        let few-steps : steps_of last.items ≤ fuel = omega (arith, few, steps-same code inputs f args o old run done) in
        record {
          trace = last.items;
          is_run = record {
            stands = stands-after code inputs f args o old run done after tables rel slots;
            replays = (ended code inputs f args o old run done).replays;
            honest = done.honest;
            few = few-steps;
            numbers = let m = few-numbers fuel few-steps most blocks in let same = next-released run.heap after.heap rel in omega (arith, m, same);
            idle = rw tables done.idle;
          };
          names = new.names;
          single = new.single;
          apart = new.apart;
          from = rw spent (from fuel few-steps);
          unchanged = λ h. let u = done.come.unchanged h in (ap (λ t. t.trace) tables ∙ u.0, spent ∙ u.1);
          front = rw tables done.come.front;
        }
