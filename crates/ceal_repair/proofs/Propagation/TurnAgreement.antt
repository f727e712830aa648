-- A turn of change propagation leaves what agreed at the beginning as it was.
use Rattle.std.proofs.Common.{arith, suc, ◌≤◌, ◌≢◌, Option, Some, ◌≡◌, ◌⊎◌, inl, inr, ℕ, ◌+◌, ◌<◌, true, None, List, [], ◌∷◌, ◌++◌, length, refl, sym, ap, subst, ◌∙◌, append_assoc}
use Rattle.ceal_base.specs.Block.{Block}
use Rattle.ceal_base.specs.declared.forest.Item.{Item}
use Rattle.ceal_base.specs.declared.forest.Item.TheVariants as item
use Rattle.ceal_base.specs.declared.word.BlockId.{BlockId}
use Rattle.ceal_base.specs.declared.word.BlockId.TheVariants.{Input, Core}
use Rattle.ceal_base.specs.declared.word.Place.{Place}
use Rattle.ceal_base.specs.declared.word.Word.{Word}
use Rattle.ceal_code.specs.Program.{Code}
use Rattle.ceal_code.specs.Replay.{IsHonest, KnownBlock, bases}
use Rattle.ceal_order.specs.Stamps.{is_in}
use Rattle.ceal_repair.proofs.Propagation.Departing.{fronts, turn-departs}
use Rattle.ceal_repair.proofs.Propagation.TurnBegin.{spot, front-agrees, store-differs}
use Rattle.ceal_repair.proofs.Lists.PartedLists.{false-of}
use Rattle.ceal_repair.proofs.Nodes.AroundRead.{spot-items}
use Rattle.ceal_repair.proofs.TableCalls.CutKeepsTables.{unqueued-honest}
use Rattle.ceal_repair.proofs.Propagation.TurnCourse.{turn-over}
use Rattle.ceal_repair.proofs.Propagation.UpToDateHonest.{come-now, up-to-date}
use Rattle.ceal_repair.proofs.Runs.Paid.{pays-self}
use Rattle.ceal_repair.specs.Departs.{DepartsUpTo}
use Rattle.ceal_repair.specs.Looks.{PaysBut}
use Rattle.ceal_repair.specs.Entries.{entry, entries, end_entry}
use Rattle.ceal_repair.specs.Moment.{Start}
use Rattle.ceal_repair.specs.Kept.{Kept, IsStale, IsHonestRecord, QueuedAfter, Records, contents_at}
use Rattle.ceal_repair.proofs.TableCalls.BaseEdit.{queue-empty, stale-same}
use Rattle.ceal_repair.proofs.Propagation.StaleNotDone.{still-stale}
use Rattle.ceal_repair.specs.Propagation.{Concludes, Propagated, HasCome, IsUpToDate, IsUnderWay, IsSpent, IsLess, IsWithin, TurnMade, KeepsFront, steps_of_run}
use Rattle.std.proofs.lemmas.Bool.{cases_order}
use Rattle.ceal_repair.specs.Repairs.{account, code_of, inputs_of, view, Runs, SameCall}
use Rattle.ceal_repair.specs.Turning.{Since, turns_more, later, FoundStale, ReadAt, TurnBegan, TurnEnded, TurnedSoFar, TurnRuns, IsOrigin}
use Rattle.ceal_repair.specs.declared.advance.Progress.{Progress}
use Rattle.ceal_repair.specs.declared.advance.Progress.TheVariants.{More, Done as Ends, Spent, OutOfFuel}
use Rattle.ceal_repair.specs.declared.repair.Repair.{Repair}
use Rattle.ceal_repair.specs.declared.running.Running.{Running}
use Rattle.ceal_repair.specs.declared.tables.Tables.{Tables}
use Rattle.ceal_theory.proofs.Nodes.TurnCourse.{turn-known-law}
use Rattle.ceal_theory.proofs.Store.KnownContent.{known-content-law}
use Rattle.ceal_theory.proofs.Store.WritesByPlace.{listed-law}
use Rattle.ceal_theory.proofs.SlicedRepair.SliceLaws.{ready-law}
use Rattle.ceal_theory.proofs.Store.Walk.{agrees-front, flat-honest, content-law}
use Rattle.ceal_theory.specs.Cover.{known_after}
use Rattle.ceal_theory.specs.KnownContent.{KnownContents}
use Rattle.ceal_theory.specs.Listed.{Listed}
use Rattle.ceal_theory.specs.Slices.{starting}
use Rattle.ceal_theory.specs.Walk.{store_after, AgreesAll, content_after}
use Rattle.ceal_trace.proofs.Parts.{forest-append}
use Rattle.ceal_trace.specs.Items.{ticks, forest_of}
use Rattle.ceal_trace.specs.Nodes.{Entry, stamps_in, node_at, with_value}
use Rattle.ceal_trace.specs.declared.node.Node.TheVariants.{Read}

-- ---- at known places it does not matter where the walk begins

module _ (code : Code) (inputs : List Block) (is : List Item) (bs : List ℕ) (contents : KnownContents code is bs) where
  any-start : (x : _) (p : Place) → KnownBlock (length inputs) bs p.block → store_after code (starting code inputs x) is p ≡ store_after code (bases code inputs) is p
  unfolding starting bases
  any-start x p k =
      content-law code (starting code inputs x) is p ∙ (go p.block refl k ∙ sym (content-law code (bases code inputs) is p))
    where
      go : (b : BlockId) → p.block ≡ b → KnownBlock (length inputs) bs b → content_after code p (starting code inputs x p) is ≡ content_after code p (bases code inputs p) is
      go (Input i) e k = ap (λ w. content_after code p w is) (rw e refl)
      go (Core b) e k =
          let a = contents.allocated b k in
          contents.core p b a.0 e a.1 (starting code inputs x p) ∙ sym (contents.core p b a.0 e a.1 (bases code inputs p))

-- ---- a read that is stale does not lie in front

module _ (code : Code) (inputs : List Block) (f : ℕ) (args : List Word) (o : Since) (called : IsOrigin code inputs f args o) (run : Running) (so_far : TurnedSoFar code inputs f args o run)
    (spot : ReadAt run.tables.trace.nodes)
    (agrees : AgreesAll code (starting code inputs so_far.repair.known) (forest_of spot.before))
    (stale : ¬ (store_after code (starting code inputs so_far.repair.known) (forest_of spot.before) spot.place ≡ spot.value)) where
  abbrev read_there : Entry
  read_there = entry spot.read (Read spot.place spot.value spot.unit spot.var spot.args) spot.steps

  -- among nodes that agree with the walk over the inputs
  pub not-there : (rest : List Entry) → AgreesAll code (bases code inputs) (forest_of (spot.before ++ read_there ∷ rest)) → ⊥
  not-there rest a =
      let items = sym so_far.stands.items ∙ spot-items spot in
      let listed : Listed code inputs so_far.repair (forest_of spot.before) =
      listed-law code so_far.stands.names inputs f args called.fits so_far.repair so_far.stands.sound (forest_of spot.before) _ items agrees in
      let ready = ready-law code so_far.stands.names inputs f args called.fits so_far.repair so_far.stands.sound
      (forest_of spot.before) spot.place spot.value spot.unit spot.var spot.args _ items agrees stale in
      let contents = known-content-law code (length inputs) (forest_of spot.before) (known_after [] (forest_of spot.before)) listed.items listed.once in
      let there = agrees-front code (bases code inputs) (forest_of spot.before) (item.Read spot.place spot.value spot.unit spot.var spot.args ∷ (ticks spot.steps ++ forest_of rest))
      (subst (λ is. AgreesAll code (bases code inputs) is) (forest-append spot.before (read_there ∷ rest)) a) in
      stale (any-start code inputs (forest_of spot.before) (known_after [] (forest_of spot.before)) contents so_far.repair.known spot.place ready.place ∙ there.1.0)

  -- so nodes that agree are before it
  pub stands-before : (front back : List Entry) → run.tables.trace.nodes ≡ front ++ back → AgreesAll code (bases code inputs) (forest_of front) → (mid : List Entry) × (spot.before ≡ front ++ mid)
  stands-before front back e a = of (fronts front back spot.before read_there _ (sym e ∙ spot.whole))
    where
      of : ((mid : List Entry) × (spot.before ≡ front ++ mid)) ⊎ ((mid : List Entry) × (front ≡ spot.before ++ read_there ∷ mid)) → (mid : List Entry) × (spot.before ≡ front ++ mid)
      of (inl m) = m
      of (inr m) = absurd (not-there m.0 (subst (λ es. AgreesAll code (bases code inputs) (forest_of es)) m.1 a))

  -- and not all items agree
  module _ (old : Running) (come : HasCome code inputs f args o old run) where
    pub not-honest : IsHonest code inputs o.repair.items → ⊥
    not-honest h =
        let same : run.tables.trace.nodes ≡ old.tables.trace.nodes = ap (λ t. t.nodes) (come.unchanged h).0 in
        not-there (entries spot.inside ++ end_entry spot.end spot.read spot.end_steps ∷ spot.behind)
        (subst (λ es. AgreesAll code (bases code inputs) (forest_of es)) spot.whole
        (subst (λ is. AgreesAll code (bases code inputs) is) (sym (ap forest_of same ∙ come.items)) (flat-honest code h.walk)))

-- one turn more
module _ (code : Code) (inputs : List Block) (f : ℕ) (args : List Word) (o : Since) (old before run : Running) (come : HasCome code inputs f args o old before)
    (turn : TurnMade code inputs f args o before run) where
  -- the read of the turn, what is inside it, and the nodes from its end on
  abbrev after-turn : List Entry
  after-turn = entry turn.start.stamp turn.start.node turn.ended.steps ∷ (entries turn.ended.inside ++ turn.start.beyond)

  keeps : KeepsFront code inputs old.tables.trace.nodes run.tables.trace.nodes
  keeps front back e a =
      let was = come.front front back e a in
      let b = turn.began in
      let mid = stands-before code inputs f args o come.called before b.so_far b.spot b.agrees b.stale front was.0 was.1 a in
      let start : turn.start.before ≡ b.spot.before = ap (λ s. s.before) b.is in
      (mid.0 ++ after-turn, turn.ended.nodes ∙ (ap (λ (es : List Entry). es ++ after-turn) (start ∙ mid.1) ∙ append_assoc front mid.0 after-turn))

  departs : DepartsUpTo old.tables.trace.nodes run.tables
  departs =
      let b = turn.began in
      turn-departs old.tables.trace.nodes before.tables run.tables b.so_far.stands.kept turn.ended.so_far.stands.kept come.departs b.spot b.found
      (store_after code (starting code inputs b.so_far.repair.known) (forest_of b.spot.before) b.spot.place) b.stale turn.ended.steps turn.ended.inside
      (subst (λ (s : Start). run.tables.trace.nodes ≡ s.before ++ entry s.stamp s.node turn.ended.steps ∷ (entries turn.ended.inside ++ s.beyond)) b.is turn.ended.nodes)
      (subst (λ (s : Start). (r : ℕ) → IsStale r run.tables → is_in r (stamps_in s.beyond) ≡ true) b.is turn.ended.ahead)

  pub comes-further : HasCome code inputs f args (later 1 o) old run
  comes-further = record {
    called = record { fits = come.called.fits; sound = come.called.sound };
    items = come.items;
    so_far = turn.ended.so_far;
    front = keeps;
    departs = departs;
    unchanged = λ h. absurd (not-honest code inputs f args o come.called before turn.began.so_far turn.began.spot turn.began.agrees turn.began.stale old come h);
  }

-- ---- the same of a repair in code

-- After some turns. Where the old trace was honest no turn was made.
pub record Turning (old now : Repair) (turns : ℕ) : Type 0 where
  pub call : SameCall old now
  pub idle : now.frames.now.items ≡ []
  pub come : (f : ℕ) (args : List Word) (o : Since) (before : Running) → HasCome (code_of old) (inputs_of old) f args o before old.running.now
      → HasCome (code_of old) (inputs_of old) f args (later turns o) before now.running.now
  pub sure : (f : ℕ) (args : List Word) (o : Since) (before : Running) → HasCome (code_of old) (inputs_of old) f args o before old.running.now → IsHonest (code_of old) (inputs_of old) o.repair.items
      → turns ≡ 0

pub no-turns : (r : Repair) → r.frames.now.items ≡ [] → Turning r r 0
no-turns r idle = record {
  call = record { code = refl; inputs = refl; place = refl; marks = refl };
  idle = idle;
  come = λ f args o before h. h;
  sure = λ f args o before h k. refl;
}

-- some turns, no more than the given number of reads, and no more steps than the fuel
pub record TurningIn (old now : Repair) (turns : ℕ) (reads : Option ℕ) (fuel : ℕ) : Type 0 where
  pub turning : Turning old now turns
  pub few : IsWithin turns reads
  pub within : old.running.now.spent ≤ fuel → now.running.now.spent ≤ fuel
  pub pays : PaysBut turns (account old) (account now)
  pub begun : turns ≡ 0 → now.running.now ≡ old.running.now
  pub late : QueuedAfter now.cursor.0 now.running.now.tables

pub no-turns-in : (r : Repair) → r.frames.now.items ≡ [] → QueuedAfter r.cursor.0 r.running.now.tables → (reads : Option ℕ) (fuel : ℕ) → TurningIn r r 0 reads fuel
no-turns-in r idle late reads fuel = record { turning = no-turns r idle; few = of reads; within = λ h. h; pays = pays-self (account r); late = late; begun = λ none. refl }
  where
    of : (reads : Option ℕ) → IsWithin 0 reads
    of None = tt
    of (Some k) = omega arith

pub not-last : (turns : ℕ) (reads : Option ℕ) → IsWithin turns reads → reads ≢ Some turns → IsLess turns reads
not-last turns None h n = tt
not-last turns (Some k) h n = elim (cases_order turns k) [
  | inl e ↦ absurd (n (ap Some (sym e)))
  | inr (inl l) ↦ l
  | inr (inr g) ↦ absurd (omega (arith, h, g))
]

pub one-more : (turns : ℕ) (reads : Option ℕ) → IsLess turns reads → IsWithin (turns + 1) reads
one-more turns None h = tt
one-more turns (Some k) h = omega (arith, h)

-- the first stale read was looked for
module _ (old now : Repair) (turns : ℕ) (t : Turning old now turns) (looked : Tables) (kept : Kept looked) (cells : looked.mods.cells ≡ now.running.now.tables.mods.cells) where
  abbrev looked_run : Running
  looked_run = record now.running.now { tables = looked }

  -- and there was none
  module _ (trace : looked.trace ≡ now.running.now.tables.trace) (none : (s : ℕ) → is_in s looked.stale.stamps ≡ true → ⊥) where
    pub is-up-to-date : (f : ℕ) (args : List Word) (o : Since) (before : Running) → HasCome (code_of old) (inputs_of old) f args o before old.running.now
        → IsUpToDate (code_of old) (inputs_of old) f args (later turns o) before looked_run
    is-up-to-date f args o before h =
        up-to-date (code_of old) (inputs_of old) f args (later turns o) before now.running.now (t.come f args o before h) looked kept trace cells (queue-empty looked.stale.stamps none)
        (λ r. unqueued-honest looked kept r (false-of (is_in r looked.stale.stamps) (λ i. absurd (none r i))) (λ z i. absurd (none z i)))

  pub come-here : (f : ℕ) (args : List Word) (o : Since) (before : Running) → HasCome (code_of old) (inputs_of old) f args o before old.running.now
      → HasCome (code_of now) (inputs_of now) f args (later turns o) before now.running.now
  come-here f args o before h = rw (t.call.code, t.call.inputs) (t.come f args o before h)

  -- each read has the content of its moment
  module _ (trace : looked.trace ≡ now.running.now.tables.trace) (empty : looked.stale.stamps ≡ []) (all : (s : ℕ) → IsHonestRecord s looked) where
    pub is-done : (f : ℕ) (args : List Word) (o : Since) (before : Running) → HasCome (code_of old) (inputs_of old) f args o before old.running.now
        → IsUpToDate (code_of old) (inputs_of old) f args (later turns o) before looked_run
    is-done f args o before h = up-to-date (code_of old) (inputs_of old) f args (later turns o) before now.running.now (t.come f args o before h) looked kept trace cells empty all

  -- one is stale still
  module _ (trace : looked.trace ≡ now.running.now.tables.trace) (z : ℕ) (stale : IsStale z now.running.now.tables) where
    pub is-under-way : (f : ℕ) (args : List Word) (o : Since) (before : Running) → HasCome (code_of old) (inputs_of old) f args o before old.running.now
        → IsUnderWay (code_of old) (inputs_of old) f args (later turns o) before looked_run
    is-under-way f args o before h =
        let come = t.come f args o before h in
        let now-come = come-now (code_of old) (inputs_of old) f args (later turns o) before now.running.now come looked kept trace cells in
        record {
          come = now-come;
          stale = still-stale (code_of old) (inputs_of old) f args come.called.fits now-come.so_far.repair looked_run now-come.so_far.stands z
              (stale-same now.running.now.tables looked z (sym trace) (sym cells) stale);
        }

  -- it was found
  module _ (read : ℕ) (stale : IsStale read now.running.now.tables)
      (nodes : (p : Place) × (v : Word) × Records p v (node_at read now.running.now.tables.trace.nodes)
      × (looked.trace.nodes ≡ with_value read (contents_at read now.running.now.tables p) now.running.now.tables.trace.nodes))
      (behind : QueuedAfter read looked) where
    module _ (f : ℕ) (args : List Word) (o : Since) (before : Running) (h : HasCome (code_of old) (inputs_of old) f args o before old.running.now) where
      abbrev found : FoundStale (code_of now) (inputs_of now) f args (later turns o) read looked_run
      found = record {
        called = (come-here f args o before h).called;
        before = now.running.now;
        so_far = (come-here f args o before h).so_far;
        stale = stale;
        place = nodes.0;
        value = nodes.1;
        is_read = nodes.2;
        nodes = nodes.3;
        queued = behind;
        cells = cells;
        heap = refl;
        spent = refl;
        kept = kept;
      }

      pub found-never : IsHonest (code_of old) (inputs_of old) o.repair.items → ⊥
      found-never honest =
          not-honest (code_of now) (inputs_of now) f args (later turns o) (come-here f args o before h).called now.running.now (come-here f args o before h).so_far
          (spot (code_of now) (inputs_of now) f args (later turns o) read looked_run listed-law ready-law turn-known-law found)
          (front-agrees (code_of now) (inputs_of now) f args (later turns o) read looked_run listed-law ready-law turn-known-law found)
          (store-differs (code_of now) (inputs_of now) f args (later turns o) read looked_run listed-law ready-law turn-known-law found) before (come-here f args o before h)
          (rw (t.call.code, t.call.inputs) honest)

      further : (new : Repair) → TurnMade (code_of now) (inputs_of now) f args (later turns o) now.running.now new.running.now
          → HasCome (code_of old) (inputs_of old) f args (later (turns + 1) o) before new.running.now
      further new made =
          let next : suc turns ≡ turns + 1 = omega arith in
          let count : suc (turns_more turns o.turns) ≡ turns_more (turns + 1) o.turns = ap (λ n. turns_more n o.turns) next in
          subst (λ n. HasCome (code_of old) (inputs_of old) f args (record { repair = o.repair; first = o.first; numbers = o.numbers; turns = n }) before new.running.now) count
          (rw (t.call.code, t.call.inputs) at (comes-further (code_of now) (inputs_of now) f args (later turns o) before now.running.now new.running.now (come-here f args o before h) made))

    -- the same for any call
    abbrev pub found_by : (f : ℕ) (args : List Word) (o : Since) (before : Running) → HasCome (code_of old) (inputs_of old) f args o before old.running.now
        → FoundStale (code_of now) (inputs_of now) f args (later turns o) read looked_run
    found_by f args o before h = found f args o before h

    -- and its turn was made
    pub turn-more : (new : Repair) → SameCall now new → new.frames.now.items ≡ []
        → ((f : ℕ) (args : List Word) (o : Since) (before : Running) → HasCome (code_of old) (inputs_of old) f args o before old.running.now
        → TurnMade (code_of now) (inputs_of now) f args (later turns o) now.running.now new.running.now)
        → Turning old new (turns + 1)
    turn-more new same idle made = record {
      call = record { code = same.code ∙ t.call.code; inputs = same.inputs ∙ t.call.inputs; place = same.place ∙ t.call.place; marks = same.marks ∙ t.call.marks };
      idle = idle;
      come = λ f args o before h. further f args o before h new (made f args o before h);
      sure = λ f args o before h honest. absurd (found-never f args o before h honest);
    }

-- a run that is up to date has ended
pub ends-so : (code : Code) (inputs : List Block) (f : ℕ) (args : List Word) (reads : Option ℕ) (fuel : ℕ) (o : Since) (before last run : Running) (n : ℕ) → IsWithin n reads
    → IsUpToDate code inputs f args (later n o) before last
    → (p : Progress) → Concludes p fuel last run → Propagated p code inputs f args reads fuel o before run
ends-so code inputs f args reads fuel o before last run n within done More h = absurd h
ends-so code inputs f args reads fuel o before last run n within done Ends h = (n, within, last, done, h)
ends-so code inputs f args reads fuel o before last run n within done Spent h = absurd h
ends-so code inputs f args reads fuel o before last run n within done OutOfFuel h =
    (n, within, subst (λ r. IsUpToDate code inputs f args (later n o) before r) (sym h.0) done, subst (λ r. fuel < steps_of_run r) (sym h.0) h.1)

-- its steps are those of the run before
pub spent-so : (p : Progress) (fuel : ℕ) (last run : Running) → Concludes p fuel last run → run.spent ≡ last.spent
spent-so More fuel last run h = absurd h
spent-so Ends fuel last run h = h.spent
spent-so Spent fuel last run h = absurd h
spent-so OutOfFuel fuel last run h = ap (λ r. r.spent) h.0

-- its tables are those of the run before
pub tables-so : (p : Progress) (fuel : ℕ) (last run : Running) → Concludes p fuel last run → run.tables ≡ last.tables
tables-so More fuel last run h = absurd h
tables-so Ends fuel last run h = h.tables
tables-so Spent fuel last run h = absurd h
tables-so OutOfFuel fuel last run h = ap (λ r. r.tables) h.0

-- ---- one turn in code

module _ (old begun gone : Repair) (read : ℕ) (call_begun : SameCall old begun) (call_gone : SameCall begun gone) (f : ℕ) (args : List Word) (o : Since)
    (found : FoundStale (code_of old) (inputs_of old) f args o read old.running.now) (runs : TurnRuns (code_of old) (inputs_of old) f args o found.before begun) where
  -- it has run too many steps
  pub turn-out : Runs runs.start gone → (fuel : ℕ) → fuel < (view gone).spent → IsSpent (code_of old) (inputs_of old) fuel o
  turn-out r fuel more = turn-over (code_of old) (inputs_of old) f args o found.before runs.start runs.began gone (call_gone.code ∙ call_begun.code) (call_gone.inputs ∙ call_begun.inputs) r fuel more

  -- it has reached its end
  pub began-gone : TurnBegan (code_of gone) (inputs_of gone) f args o found.before runs.start
  began-gone = rw (call_gone.code ∙ call_begun.code, call_gone.inputs ∙ call_begun.inputs) runs.began

  pub turn-made : (new : Repair) → TurnEnded (code_of gone) (inputs_of gone) f args o runs.start new.running.now → TurnMade (code_of old) (inputs_of old) f args o found.before new.running.now
  turn-made new e = record { start = runs.start; began = runs.began; ended = rw (call_gone.code ∙ call_begun.code, call_gone.inputs ∙ call_begun.inputs) at e }
