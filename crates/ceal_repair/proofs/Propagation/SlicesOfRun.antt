-- Slices from a run that stands for a repair.
use Rattle.std.proofs.Common.{◌≡◌, ◌≢◌, ℕ, zero, suc, ◌≤◌, ◌<◌, ◌+◌, ◌*◌, length, Option, Some, None, List, [], ◌∷◌, inl, inr, ◌⊎◌, refl, sym, ap, ◌∙◌, subst, arith}
use Rattle.std.proofs.lemmas.Bool.{cases_order}
use Rattle.std.proofs.lemmas.Bool.Decides.{eqb_tells}
use Rattle.std.specs.Prelude.{IsSome}
use Rattle.ceal_base.specs.Block.{Block}
use Rattle.ceal_base.specs.Trace.{Trace}
use Rattle.ceal_base.specs.declared.word.BlockId.TheVariants.{Core}
use Rattle.ceal_base.specs.declared.word.Word.{Word}
use Rattle.ceal_code.specs.Program.{Code}
use Rattle.ceal_code.specs.Replay.{In, here, there, IsHonest, count}
use Rattle.ceal_heap.specs.Heap.{block_of, next, plain_block, Known}
use Rattle.ceal_repair.proofs.Propagation.Departing.{departs-not, departs-whole}
use Rattle.ceal_repair.proofs.Propagation.NewBlockNumbers.{GoesOn, goes-on, turns-room}
use Rattle.ceal_repair.specs.Propagation.{HasCome, IsUnderWay, IsSpent, IsWithin, IsLess, Propagated, KeepsFront}
use Rattle.ceal_repair.proofs.Runs.FewNumbers.{few-given, few-blocks}
use Rattle.ceal_repair.proofs.Propagation.KeptRun.{same-running}
use Rattle.ceal_repair.proofs.Propagation.UpToDateRun.{too-many, concluded-run, spent-out, repaired}
use Rattle.ceal_repair.specs.Answers.{IsKeptRun, IsRunOf, IsRepaired}
use Rattle.ceal_repair.specs.Blocks.{HasFew}
use Rattle.ceal_repair.specs.Departs.{DepartsSo}
use Rattle.ceal_repair.specs.Repairs.{code_of, inputs_of}
use Rattle.ceal_repair.specs.Slicing.{IsPartRun, IsSliceOf, IsSliced}
use Rattle.ceal_repair.specs.declared.repair.Repair.{Repair as RepairInCode}
use Rattle.ceal_repair.specs.declared.advance.Progress.{Progress}
use Rattle.ceal_repair.specs.declared.advance.Progress.TheVariants.{More, Done, Spent, OutOfFuel}
use Rattle.ceal_repair.specs.Turning.{Since, since_begun, turns_more, later, NamesOff, IsOrigin, StandsFor}
use Rattle.ceal_repair.specs.declared.running.Running.{Running}
use Rattle.ceal_theory.specs.Carried.{numbered_from_zero}
use Rattle.ceal_theory.proofs.SlicedRepair.SliceLaws.{other-names-law, slices-law, turns-law}
use Rattle.ceal_theory.specs.SliceLaws.{Turned, Turns}
use Rattle.ceal_theory.specs.Slices.{Repair, Slices, repair_at, goes_on}

in-count : (b : ℕ) (bs : List ℕ) → In b bs → 1 ≤ count b bs
in-count b [] i = elim i [ ]
in-count b (c ∷ bs) here = elim (eqb_tells b b) [ inl e ↦ rw e.0 (omega arith) | inr e ↦ absurd (e.1 refl) ]
in-count b (c ∷ bs) (there i) = elim (eqb_tells c b) [ inl e ↦ rw e.0 (omega arith) | inr e ↦ rw e.0 (omega (arith, in-count b bs i)) ]

no-turns-more : (n : ℕ) → turns_more n 0 ≡ n
no-turns-more zero = refl
no-turns-more (suc n) = ap suc (no-turns-more n)

there-in : (o : Option Known) (block : Block) → Rattle.std.specs.Option.option_map plain_block o ≡ Some block → IsSome o
there-in None block e = absurd cc
there-in (Some k) block e = cc

module _ (code : Code) (inputs : List Block) (f : ℕ) (args : List Word) (fuel : ℕ) (r : Repair) (run : Running) (part : IsPartRun code inputs f args fuel r run) where
  abbrev pub since : Since
  since = record { repair = numbered_from_zero r; first = part.blocks.blocks; numbers = next run.heap; turns = 0 }

  -- a name that is none of the known blocks is not known
  pub not-known : (names : ℕ → ℕ) → NamesOff names part.blocks.blocks → (k : ℕ) → r.known (Core (names k)) ≡ None
  not-known names off k = of (r.known (Core (names k))) refl
    where
      of : (o : Option Block) → r.known (Core (names k)) ≡ o → r.known (Core (names k)) ≡ None
      of None e = e
      of (Some block) e =
          let some = there-in (block_of run.heap (Core (names k))) block (sym (part.stands.known (names k)) ∙ e) in
          absurd (omega (arith, off k, in-count (names k) part.blocks.blocks ((part.blocks.each (names k)).0 some)))

  pub origin : IsOrigin code inputs f args since
  origin = record {
    fits = part.fits;
    sound = λ names single off. other-names-law code part.stands.names names inputs f args r part.stands.sound single 0 (λ k h. not-known names off k);
  }

  abbrev some_names : GoesOn [] part.blocks.blocks
  some_names = goes-on part.blocks.blocks [] (λ b. omega arith) (λ b i. absurd (elim i [ ]))

  stands : StandsFor code inputs f args (numbered_from_zero r) run
  stands = record {
    kept = part.stands.kept;
    nests = part.stands.nests;
    items = part.stands.items;
    known = part.stands.known;
    blocks = part.stands.blocks;
    spent = part.stands.spent;
    names = some_names.names;
    sound = origin.sound some_names.names some_names.single some_names.apart;
  }

  -- no turn was made yet
  pub begun : HasCome code inputs f args since run run
  begun = record {
    called = origin;
    items = part.stands.items;
    so_far = record {
      repair = numbered_from_zero r;
      stands = stands;
      chosen = [];
      number = refl;
      given = record {
        distinct = λ b. omega arith;
        apart = λ b i. absurd (elim i [ ]);
        there = λ b i. absurd (elim i [ ]);
        still = λ b i. (part.blocks.each b).1 i;
        only = λ b some. inl ((part.blocks.each b).0 some);
        few = inl (omega arith);
      };
      history = λ names go. Turns.none;
    };
    front = λ front back e agrees. (back, e);
    departs = departs-not run.tables;
    unchanged = λ h. (refl, sym part.stands.spent);
  }

  -- after some turns
  module _ (before now : Running) (n : ℕ) (come : HasCome code inputs f args (later n since) before now) where
    abbrev pub last : Repair
    last = come.so_far.repair

    abbrev pub going_on : GoesOn come.so_far.chosen part.blocks.blocks
    going_on = goes-on part.blocks.blocks come.so_far.chosen come.so_far.given.distinct come.so_far.given.apart

    turned : Turned code going_on.names inputs n (numbered_from_zero r) last
    turned = subst (λ m. Turned code going_on.names inputs m (numbered_from_zero r) last) (no-turns-more n)
        (turns-law code going_on.names inputs f args part.fits (numbered_from_zero r) (origin.sound going_on.names going_on.single going_on.apart) (turns_more n 0) last
        (come.so_far.history going_on.names going_on.continues))

    within : (reads : Option ℕ) (z : Repair) → Slices code going_on.names inputs reads (numbered_from_zero r) z → z.spent ≤ fuel → IsSliceOf code inputs reads fuel r (Some z)
    within reads z s few = record {
      names = going_on.names;
      single = going_on.single;
      off = not-known going_on.names going_on.apart;
      is = (slices-law code going_on.names inputs reads fuel (numbered_from_zero r) z).1 (s, few);
    }

    spent-few : now.spent ≤ fuel → last.spent ≤ fuel
    spent-few h = omega (arith, h, come.so_far.stands.spent)

    -- no more blocks were made than steps were spent since
    few-made-so : length part.blocks.blocks + length come.so_far.chosen ≤ fuel + now.spent
    few-made-so =
        let room = turns-room code inputs f args (later n since) come.called going_on.names (numbered_from_zero r) last (turns_more n 0) (origin.sound going_on.names going_on.single going_on.apart)
        (come.so_far.history going_on.names going_on.continues) in
        omega (arith, room, come.so_far.number, come.so_far.stands.spent, part.stands.spent, part.blocks.few)

    few-readable : HasFew (fuel + now.spent) now.heap
    few-readable = few-given part.blocks.blocks (next run.heap) come.so_far.chosen now.heap come.so_far.given (fuel + now.spent) few-made-so

    pub few-numbers : now.spent ≤ fuel → next now.heap ≤ 2 * fuel
    few-numbers few = elim come.so_far.given.few [
      | inl l ↦ omega (arith, l, part.numbers)
      | inr l ↦ omega (arith, l, few-made-so, few)
    ]

    -- as many as there were to be
    pub is-slice : 1 ≤ n → now.spent ≤ fuel → IsSliceOf code inputs (Some n) fuel r (Some last)
    is-slice h few = within (Some n) last (turned.many h) (spent-few few)

    pub is-part : now.spent ≤ fuel → IsPartRun code inputs f args fuel last now
    is-part few = record { fits = part.fits; stands = come.so_far.stands; few = few; blocks = few-readable; numbers = few-numbers few }

    -- to the end: what it is a slice to, which has the same items and has spent as much
    pub is-whole : IsHonest code inputs last.items → (reads : Option ℕ) → reads ≢ Some 0 → IsWithin n reads → now.spent ≤ fuel
        → (z : Repair) × IsSliceOf code inputs reads fuel r (Some z) × (z.items ≡ last.items) × (z.spent ≡ last.spent)
    is-whole honest None some less few =
        (repair_at (goes_on code inputs last) last.items, within None (repair_at (goes_on code inputs last) last.items) (turned.whole honest) (spent-few few), refl, refl)
    is-whole honest (Some k) some less few = of (cases_order n k)
      where
        of : (n ≡ k) ⊎ ((n < k) ⊎ (k < n)) → (z : Repair) × IsSliceOf code inputs (Some k) fuel r (Some z) × (z.items ≡ last.items) × (z.spent ≡ last.spent)
        of (inl e) = (last, subst (λ k. IsSliceOf code inputs (Some k) fuel r (Some last)) e (is-slice (at-least n (λ z. some (ap Some (sym e ∙ z)))) few), refl, refl)
          where
            at-least : (n : ℕ) → (n ≡ 0 → ⊥) → 1 ≤ n
            at-least zero h = absurd (h refl)
            at-least (suc n) h = omega arith
        of (inr (inl l)) = (repair_at (goes_on code inputs last) last.items, within (Some k) (repair_at (goes_on code inputs last) last.items) (turned.ended honest k l) (spent-few few), refl, refl)
        of (inr (inr g)) = absurd (omega (arith, less, g))

  -- too many steps were spent
  pub is-over : (n : ℕ) (reads : Option ℕ) → IsLess n reads → IsSpent code inputs fuel (later n since) → IsSliceOf code inputs reads fuel r None
  is-over n None h s = record { names = s.names; single = s.single; off = not-known s.names s.off; is = s.whole }
  is-over n (Some k) h s = record { names = s.names; single = s.single; off = not-known s.names s.off; is = s.part k (omega (arith, h, no-turns-more n)) }

  -- a repair in code that begins with the run
  pub begun-in : (rep : RepairInCode) → code_of rep ≡ code → inputs_of rep ≡ inputs → rep.running.now.tables ≡ run.tables → rep.running.now.heap ≡ run.heap → rep.running.now.spent ≡ run.spent
      → HasCome (code_of rep) (inputs_of rep) f args since run rep.running.now
  begun-in rep same_code same_inputs tables heap spent = rw (same_code, same_inputs, same-running rep.running.now run tables heap spent) begun

  at-least : (n : ℕ) → ¬ (n ≡ 0) → 1 ≤ n
  at-least zero h = absurd (h refl)
  at-least (suc n) h = omega arith

  pub goes-on-so : (before now : Running) (n : ℕ) → IsUnderWay code inputs f args (later n since) before now → (reads : Option ℕ) → reads ≢ Some 0 → reads ≡ Some n → now.spent ≤ fuel
      → IsSliced code inputs f args reads fuel r now More
  goes-on-so before now n way reads some e few =
      let s = is-slice before now n way.come (at-least n (λ z. some (e ∙ ap Some z))) few in
      (last before now n way.come, subst (λ k. IsSliceOf code inputs k fuel r (Some (last before now n way.come))) (sym e) s, way.stale, is-part before now n way.come few)

  -- so it is a slice, however far it has come
  pub is-sliced : (p : Progress) (before now : Running) (reads : Option ℕ) → reads ≢ Some 0 → (p ≢ Spent → now.spent ≤ fuel) → Propagated p code inputs f args reads fuel since before now
      → IsSliced code inputs f args reads fuel r now p
  is-sliced More before now reads some few h = goes-on-so before now h.0 h.2 reads some h.1 (few (λ e. absurd cc))
  is-sliced Done before now reads some few h =
      let up = h.3 in
      let end = h.4 in
      let last = h.2 in
      let low : last.spent ≤ fuel = omega (arith, end.spent, few (λ e. absurd cc)) in
      let w = is-whole before last h.0 up.come up.honest reads some h.1 low in (
        w.0,
        w.1,
        subst (λ m. IsRunOf code inputs f args fuel m now) (sym w.2)
            (concluded-run code inputs f args (later h.0 since) before last up fuel end.few (few-numbers before last h.0 up.come low) now end.tables end.released end.slots),
        end.spent ∙ (sym up.come.so_far.stands.spent ∙ sym w.3),
      )
  is-sliced Spent before now reads some few h = is-over h.0 reads h.1 h.2
  is-sliced OutOfFuel before now reads some few h =
      let up = h.2 in
      let w = is-whole before now h.0 up.come up.honest reads some h.1 (few (λ e. absurd cc)) in
      (w.0, w.1, subst (λ m. IsHonest code inputs m) (sym w.2) up.honest, too-many code inputs f args (later h.0 since) before now up fuel h.3)

-- nodes that agreed at the beginning are as they were
pub front-stays : (code : Code) (inputs : List Block) (f : ℕ) (args : List Word) (reads : Option ℕ) (fuel : ℕ) (o : Since) (before now : Running) (p : Progress) → p ≢ Spent
    → Propagated p code inputs f args reads fuel o before now
    → KeepsFront code inputs before.tables.trace.nodes now.tables.trace.nodes
front-stays code inputs f args reads fuel o before now More n h = h.2.come.front
front-stays code inputs f args reads fuel o before now Done n h = rw h.4.tables h.3.come.front
front-stays code inputs f args reads fuel o before now Spent n h = absurd (n refl)
front-stays code inputs f args reads fuel o before now OutOfFuel n h = h.2.come.front

-- they depart from the old nodes at reads that were stale
pub departs-so : (code : Code) (inputs : List Block) (f : ℕ) (args : List Word) (reads : Option ℕ) (fuel : ℕ) (o : Since) (before now : Running) (p : Progress) → p ≢ Spent
    → Propagated p code inputs f args reads fuel o before now
    → DepartsSo before.tables.trace.nodes now.tables.trace.nodes
departs-so code inputs f args reads fuel o before now More n h = departs-whole before.tables.trace.nodes now.tables h.2.come.departs
departs-so code inputs f args reads fuel o before now Done n h = rw h.4.tables (departs-whole before.tables.trace.nodes h.2.tables h.3.come.departs)
departs-so code inputs f args reads fuel o before now Spent n h = absurd (n refl)
departs-so code inputs f args reads fuel o before now OutOfFuel n h = departs-whole before.tables.trace.nodes now.tables h.2.come.departs

-- so it is with the repair of a trace of the call
pub is-repaired : (code : Code) (inputs : List Block) (f : ℕ) (args : List Word) (reads : Option ℕ) (fuel : ℕ) (l : Trace) (old : Running) → IsKeptRun code inputs f args fuel l old
    → (before now : Running) (p : Progress)
    → Propagated p code inputs f args reads fuel (since_begun code inputs l (next old.heap)) before now → IsRepaired code inputs f args fuel l before now p
is-repaired code inputs f args reads fuel l old kept before now More h = tt
is-repaired code inputs f args reads fuel l old kept before now Done h =
    repaired code inputs f args l kept.fits kept.replays (next old.heap) h.0 before h.2 h.3 fuel h.4.few kept.numbers
    (let m = few-blocks code inputs f args fuel l old kept in omega (arith, m, kept.few)) now
    h.4.tables h.4.spent h.4.released h.4.slots
is-repaired code inputs f args reads fuel l old kept before now Spent h = spent-out code inputs f args l kept.fits kept.replays (next old.heap) h.0 fuel h.2
is-repaired code inputs f args reads fuel l old kept before now OutOfFuel h = too-many code inputs f args (later h.0 (since_begun code inputs l (next old.heap))) before now h.2 fuel h.3
