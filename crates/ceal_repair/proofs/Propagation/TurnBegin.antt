-- A turn begins: the unit of the first stale read runs, with what is inside the read left over.
use Rattle.std.proofs.Common.{◌≡◌, ◌≢◌, ℕ, zero, suc, ◌<◌, ◌≤◌, true, false, Option, Some, None, List, [], ◌∷◌, ◌++◌, length, reverse, append_assoc, append-nil, refl, sym, ap, ap₂, subst, ◌∙◌, arith}
use Rattle.std.proofs.Math.Path.{fun_ext}
use Rattle.std.specs.Prelude.{IfSome, IfNone}
use Rattle.ceal_base.specs.Block.{Block}
use Rattle.ceal_base.specs.Trace.{Trace, flat}
use Rattle.ceal_base.specs.declared.forest.Item.{Item}
use Rattle.ceal_base.specs.declared.forest.Item.TheVariants as item
use Rattle.ceal_base.specs.declared.forest.UnitId.{UnitId}
use Rattle.ceal_base.specs.declared.word.BlockId.{BlockId}
use Rattle.ceal_base.specs.declared.word.BlockId.TheVariants.{Input, Core}
use Rattle.ceal_base.specs.declared.word.Place.{Place}
use Rattle.ceal_base.specs.declared.word.Word.{Word}
use Rattle.ceal_code.specs.Program.{Code}
use Rattle.ceal_code.specs.Piles.{Pile}
use Rattle.ceal_code.specs.Stacks.{stack_in, aside_in}
use Rattle.ceal_code.specs.Step.{Stack, Empty, entered, words_after_read}
use Rattle.ceal_code.specs.Replay.{Store, KnownBlock}
use Rattle.ceal_code.specs.Value.{Plain}
use Rattle.ceal_heap.specs.Heap.{Contents, plain_of}
use Rattle.ceal_order.specs.Stamps.{Distinct, is_in, place}
use Rattle.ceal_order.specs.declared.stamp.Stamp.{Stamp}
use Rattle.ceal_repair.proofs.Nodes.GroveOfRead.{read-at, read-opens}
use Rattle.ceal_repair.proofs.TableCalls.CutKeepsTables.{unqueued-honest}
use Rattle.ceal_repair.proofs.Reuse.ReadReuseInCode.{bases-cells, same-place, same-value}
use Rattle.ceal_repair.proofs.Nodes.StoreAgreement.{HasContents, contents-front, moment-part, honest-front, agrees-both, items-parted, store-listed, stale-known, agrees-front}
use Rattle.ceal_repair.proofs.Nodes.NodeItems.{behind-all, contents-append, forest-put, known-append, known-items-append, opened-put, position-front}
use Rattle.ceal_repair.proofs.Reuse.LeftOver.{first-left, forest-left, knows-bare}
use Rattle.ceal_repair.proofs.Runs.UnitSteps.{blocks-steps}
use Rattle.ceal_repair.proofs.Lists.PartedLists.{false-of}
use Rattle.ceal_repair.proofs.Runs.NewRead.{resumed-as}
use Rattle.ceal_repair.proofs.Reuse.ReadReuse.{blocks-look}
use Rattle.ceal_repair.proofs.Runs.RepairView.{runs-as}
use Rattle.ceal_repair.specs.Around.{Tails}
use Rattle.ceal_repair.specs.Blocks.{HasBlocks, Given}
use Rattle.ceal_repair.specs.Covered.{contents_after}
use Rattle.ceal_repair.specs.Entries.{stamp_of_number, entry, end_entry, entries}
use Rattle.ceal_repair.specs.Kept.{Kept, QueuedAfter, IsHonestRecord, base_in, contents_at}
use Rattle.ceal_repair.specs.Moment.{View, Start, CourseNow, RunningNow, through, state_at}
use Rattle.ceal_repair.specs.Turning.{Since, ReadAt, turn_start, FoundStale, TurnBegan, TurnRuns}
use Rattle.ceal_repair.specs.Words.{words_of}
use Rattle.ceal_repair.specs.Repairs.{code_of, inputs_of}
use Rattle.ceal_repair.specs.Frames.{frames_in}
use Rattle.ceal_repair.specs.declared.frame.Frame.{Frame as CodeFrame}
use Rattle.ceal_repair.specs.declared.repair.Repair.{Repair as RepairInCode}
use Rattle.ceal_repair.specs.declared.running.Running.{Running}
use Rattle.ceal_repair.specs.declared.tables.Tables.{Tables}
use Rattle.ceal_theory.proofs.Reuse.StepsBetween.{bare-law}
use Rattle.ceal_theory.proofs.MoveMachine.ChosenNumbers.{chosen-law}
use Rattle.ceal_theory.proofs.Reuse.TakenAfterRevocation.{bare-stepped}
use Rattle.ceal_theory.specs.Chosen.{ComesBy}
use Rattle.ceal_theory.specs.Course.{TurnKnownLaw, running_at, BareMode, BareFrames, BareSame}
use Rattle.ceal_theory.specs.Cover.{known_after}
use Rattle.ceal_theory.specs.Groves.{stepped, trace_in, bare}
use Rattle.ceal_theory.specs.Known.{Knows, KnownItems}
use Rattle.ceal_theory.specs.Listed.{Listed, ListedLaw}
use Rattle.ceal_theory.specs.Repair.{resumed}
use Rattle.ceal_theory.specs.SliceLaws.{KnownThere, ReadyLaw}
use Rattle.ceal_theory.specs.Slices.{Repair, with_inputs, starting}
use Rattle.ceal_theory.specs.Moves.{Machine}
use Rattle.ceal_theory.specs.Walk.{store_after, AgreesAll}
use Rattle.ceal_trace.proofs.Entries.{stamps-changed}
use Rattle.ceal_trace.proofs.Parts.{not_before, entry-part, position-part, changed-part}
use Rattle.ceal_trace.specs.Items.{ticks, forest_of, unclosed}
use Rattle.ceal_trace.specs.Nodes.{Entry, stamps_in, has_node, position, node_at, held_by, end_in, with_steps, with_value, steps_set, value_set}
use Rattle.ceal_trace.specs.declared.node.Node.{Node}
use Rattle.ceal_trace.specs.declared.node.Node.TheVariants.{Read}

-- the place of a read among known items is known by those before it
pub known-read : {n : ℕ} {bs cs : List ℕ} {js : List Item} → KnownItems n bs js cs → (is : List Item) (p : Place) (v : Word) (u : UnitId) (x : ℕ) (args : List Word) (later : List Item)
    → js ≡ is ++ item.Read p v u x args ∷ later → KnownBlock n (known_after bs is) p.block
known-read KnownItems.none [] p v u x args later e = absurd (cc)
known-read KnownItems.none (i ∷ is) p v u x args later e = absurd (cc)
known-read (KnownItems.step k) [] p v u x args later e = absurd (cc)
known-read {n} {bs} (KnownItems.step {is = js} k) (i ∷ is) p v u x args later e =
    let first : item.Step ≡ i = cc in
    let rest : js ≡ is ++ item.Read p v u x args ∷ later = cc in
    subst (λ i. KnownBlock n (known_after bs (i ∷ is)) p.block) first (known-read k is p v u x args later rest)
known-read (KnownItems.close k) [] p v u x args later e = absurd (cc)
known-read {n} {bs} (KnownItems.close {is = js} k) (i ∷ is) p v u x args later e =
    let first : item.End ≡ i = cc in
    let rest : js ≡ is ++ item.Read p v u x args ∷ later = cc in
    subst (λ i. KnownBlock n (known_after bs (i ∷ is)) p.block) first (known-read k is p v u x args later rest)
known-read (KnownItems.alloc a k) [] p v u x args later e = absurd (cc)
known-read {n} {bs} (KnownItems.alloc {b = b} {key = key} {is = js} a k) (i ∷ is) p v u x args later e =
    let first : item.Alloc (Core b) key ≡ i = cc in
    let rest : js ≡ is ++ item.Read p v u x args ∷ later = cc in
    subst (λ i. KnownBlock n (known_after bs (i ∷ is)) p.block) first (known-read k is p v u x args later rest)
known-read (KnownItems.write a c k) [] p v u x args later e = absurd (cc)
known-read {n} {bs} (KnownItems.write {p = q} {value = w} {is = js} a c k) (i ∷ is) p v u x args later e =
    let first : item.Write q w ≡ i = cc in
    let rest : js ≡ is ++ item.Read p v u x args ∷ later = cc in
    subst (λ i. KnownBlock n (known_after bs (i ∷ is)) p.block) first (known-read k is p v u x args later rest)
known-read {n} {bs} (KnownItems.read {p = q} {value = w} {u = y} {v = z} {args = ws} a c d k) [] p v u x args later e =
    let same : q ≡ p = cc in
    subst (λ (q : Place). KnownBlock n bs q.block) same a
known-read {n} {bs} (KnownItems.read {p = q} {value = w} {u = y} {v = z} {args = ws} {is = js} a c d k) (i ∷ is) p v u x args later e =
    let first : item.Read q w y z ws ≡ i = cc in
    let rest : js ≡ is ++ item.Read p v u x args ∷ later = cc in
    subst (λ i. KnownBlock n (known_after bs (i ∷ is)) p.block) first (known-read k is p v u x args later rest)

flat-stepped : (n : ℕ) (t : Trace) → flat (stepped n t) ≡ ticks n ++ flat t
flat-stepped zero t = refl
flat-stepped (suc n) t = ap (λ is. item.Step ∷ is) (flat-stepped n t)

-- the plain words of the inputs and of a heap
words-as : (code : Code) (inputs : List Block) (heap : Contents) (known : Plain) → ((b : ℕ) → known (Core b) ≡ plain_of heap (Core b)) → with_inputs code inputs known ≡ words_of code inputs heap
unfolding words_of with_inputs
words-as code inputs heap known h = fun_ext (λ b. go b)
  where
    go : (b : BlockId) → with_inputs code inputs known b ≡ words_of code inputs heap b
    go (Input i) = refl
    go (Core b) = h b

-- the unit of a read on the value that the read records
pub unit-as : (code : Code) (node : Option Node) (p : Place) (v : Word) (u : UnitId) (x : ℕ) (args : List Word) → node ≡ Some (Read p v u x args)
    → (q : Place) (y : Word) (w : UnitId) (z : ℕ) (words : List Word) → node ≡ Some (Read q y w z words)
    → (st none : Stack) → none ≡ Empty → st ≡ entered code w.0 (words_after_read code w.0 z words y) none → st ≡ resumed code u x args v
unit-as code node p v u x args held q y w z words seen st none empty is =
    let both : Some (Read q y w z words) ≡ Some (Read p v u x args) = sym seen ∙ held in
    let unit : w ≡ u = cc in
    let var : z ≡ x = cc in
    let rest : words ≡ args = cc in
    let same : y ≡ v = cc in
    resumed-as code code refl w z words y st none empty is
    ∙ (ap (λ (k : UnitId). resumed code k z words y) unit
    ∙ (ap (λ (k : ℕ). resumed code u k words y) var
    ∙ (ap (λ (ws : List Word). resumed code u x ws y) rest
    ∙ ap (λ (k : Word). resumed code u x args k) same)))

-- the end that was found
pub end-is : (o : Option Stamp) (e : Option ℕ) (s : ℕ) → IfSome o (λ end. e ≡ Some end.0) → IfNone o (e ≡ None) → e ≡ Some s → o ≡ Some (stamp_of_number s)
end-is None e s some none is = absurd (let no : None ≡ Some s = sym none ∙ is in cc)
end-is (Some end) e s some none is =
    let both : Some end.0 ≡ Some s = sym some ∙ is in
    let same : end.0 ≡ s = cc in
    ap (λ k. Some (stamp_of_number k)) same

-- the parts of a repair in code, where nothing follows
view-is : (t : Tables) (heap heap' : Contents) → heap ≡ heap' → (n n' : ℕ) → n ≡ n' → (s s' : ℕ) → s ≡ s' → (o o' : Option Stamp) → o ≡ o' → (aside : Pile) (fs : List CodeFrame) → fs ≡ []
    → ◌≡◌ {A = View} (record { tables = t; heap = heap; spent = n; cursor = s; limit = o; frames = frames_in aside (reverse fs) })
    (record { tables = t; heap = heap'; spent = n'; cursor = s'; limit = o'; frames = [] })
view-is t heap heap' a n n' b s s' c o o' d aside fs e = rw (a, b, c, d, e) refl

module _ (code : Code) (inputs : List Block) (f : ℕ) (args : List Word) (o : Since) (read : ℕ) (run : Running) (listed : ListedLaw) (ready : ReadyLaw) (knowing : TurnKnownLaw)
    (found : FoundStale code inputs f args o read run) where
  abbrev old : Tables
  old = found.before.tables

  abbrev r : Repair
  r = found.so_far.repair

  abbrev at-place : Place
  at-place = found.place

  abbrev unit : UnitId
  unit = found.is_read.unit

  abbrev var : ℕ
  var = found.is_read.var

  abbrev words : List Word
  words = found.is_read.args

  abbrev pub spot : ReadAt old.trace.nodes
  spot = read-at old.trace found.so_far.stands.kept.step.whole found.so_far.stands.nests read at-place found.value unit var words found.is_read.is

  pub opens : (reads : List ℕ) × (unclosed (Some []) spot.before ≡ Some reads)
  opens = read-opens old.trace found.so_far.stands.kept.step.whole found.so_far.stands.nests read at-place found.value unit var words found.is_read.is

  -- what is after the read
  abbrev behind : List Entry
  behind = entries spot.inside ++ end_entry spot.end read spot.end_steps ∷ spot.behind

  -- the read as it was
  abbrev was : Entry
  was = entry read (Read at-place found.value unit var words) spot.steps

  -- and with another value
  abbrev valued-as : Word → ℕ → Entry
  valued-as w n = entry read (Read at-place w unit var words) n

  old-distinct : Distinct (stamps_in old.trace.nodes)
  old-distinct = found.so_far.stands.kept.step.whole.order.distinct

  apart : has_node read spot.before ≡ false
  apart = not_before spot.before was behind (subst (λ es. Distinct (stamps_in es)) spot.whole old-distinct)

  nodes-run : run.tables.trace.nodes ≡ spot.before ++ valued-as (contents_at read old at-place) spot.steps ∷ behind
  nodes-run = found.nodes ∙ (ap (with_value read (contents_at read old at-place)) spot.whole ∙ changed-part was behind (value_set (contents_at read old at-place)) spot.before apart)

  run-distinct : Distinct (stamps_in run.tables.trace.nodes)
  run-distinct = found.kept.step.whole.order.distinct

  same-bases : base_in run.tables.mods ≡ base_in old.mods
  same-bases = fun_ext (λ p. bases-cells run.tables.mods old.mods found.cells p)

  -- nothing is queued up to the read
  honest-there : (s : ℕ) → position s run.tables.trace.nodes ≤ position read run.tables.trace.nodes → IsHonestRecord s run.tables
  honest-there s le =
      unqueued-honest run.tables found.kept s (false-of (is_in s run.tables.stale.stamps) (λ i. absurd (omega (arith, found.queued s i, le)))) (λ z i. omega (arith, found.queued z i, le))

  read-position : position read run.tables.trace.nodes ≡ length spot.before
  read-position = ap (position read) nodes-run ∙ position-part (valued-as (contents_at read old at-place) spot.steps) behind spot.before apart

  -- the reads before it have what the lists of writes say
  front-contents : HasContents (base_in old.mods) spot.before
  front-contents =
      let whole : run.tables.trace.nodes ≡ through spot.before (valued-as (contents_at read old at-place) spot.steps) ++ behind =
      nodes-run ∙ sym (behind-all spot.before (valued-as (contents_at read old at-place) spot.steps) behind) in
      subst (λ s. HasContents s spot.before) same-bases
      (contents-front (base_in run.tables.mods) spot.before (valued-as (contents_at read old at-place) spot.steps ∷ [])
      (honest-front run.tables run-distinct (through spot.before (valued-as (contents_at read old at-place) spot.steps)) behind whole
      (λ s i. honest-there s
      (let at : position s run.tables.trace.nodes ≤ length spot.before =
      subst (λ es. position s es ≤ length spot.before) (sym whole) (position-front s spot.before (valued-as (contents_at read old at-place) spot.steps) behind i) in
      omega (arith, at, read-position)))))

  abbrev store : Store
  store = store_after code (starting code inputs r.known) (forest_of spot.before)

  pub front-agrees : AgreesAll code (starting code inputs r.known) (forest_of spot.before)
  front-agrees = agrees-front code inputs f args r found.before found.called.fits listed ready found.so_far.stands spot.before (was ∷ behind) spot.whole front-contents

  items-there : flat r.items ≡ forest_of spot.before ++ item.Read at-place found.value unit var words ∷ (ticks spot.steps ++ forest_of behind)
  items-there = items-parted code inputs f args r found.before found.called.fits listed ready found.so_far.stands spot.before (was ∷ behind) spot.whole

  -- what the lists of writes say of its place
  content-there : contents_at read old at-place ≡ contents_after (base_in old.mods) spot.before at-place
  content-there = moment-part old spot.before was behind spot.whole old-distinct at-place

  read-stale : found.value ≢ contents_at read old at-place
  read-stale e =
      let place-too : found.stale.place ≡ at-place =
      same-place (node_at read old.trace.nodes) at-place found.stale.place found.value found.stale.value unit var words found.is_read.is found.stale.read in
      let value-too : found.stale.value ≡ found.value =
      same-value (node_at read old.trace.nodes) at-place found.stale.place found.value found.stale.value unit var words found.is_read.is found.stale.read in
      found.stale.differs (value-too ∙ (e ∙ ap (λ p. contents_at read old p) (sym place-too)))

  -- the store has not its value either
  pub store-differs : ¬ (store at-place ≡ found.value)
  store-differs e =
      let front : AgreesAll code (starting code inputs r.known) (forest_of spot.before ++ item.Read at-place found.value unit var words ∷ []) =
      agrees-both code (starting code inputs r.known) (forest_of spot.before) (item.Read at-place found.value unit var words ∷ []) front-agrees (e, tt) in
      let all : Listed code inputs r (forest_of spot.before ++ item.Read at-place found.value unit var words ∷ []) =
      listed code found.so_far.stands.names inputs f args found.called.fits r found.so_far.stands.sound (forest_of spot.before ++ item.Read at-place found.value unit var words ∷ [])
      (ticks spot.steps ++ forest_of behind)
      (items-there ∙ sym (append_assoc (forest_of spot.before) (item.Read at-place found.value unit var words ∷ []) (ticks spot.steps ++ forest_of behind))) front in
      let known = known-read all.items (forest_of spot.before) at-place found.value unit var words [] refl in
      let now : store at-place ≡ contents_after (base_in old.mods) spot.before at-place =
      store-listed code inputs f args r found.before found.called.fits listed ready found.so_far.stands spot.before (was ∷ behind) spot.whole front-agrees at-place known in
      read-stale (sym e ∙ (now ∙ sym content-there))

  there : KnownThere code inputs r (forest_of spot.before) at-place found.value unit var words (ticks spot.steps ++ forest_of behind)
  there = stale-known code inputs f args r found.before found.called.fits listed ready found.so_far.stands spot.before was behind spot.whole front-agrees at-place found.value unit var words refl
      store-differs

  store-known : (p : Place) → KnownBlock (length inputs) (known_after [] (forest_of spot.before)) p.block → store p ≡ contents_after (base_in old.mods) spot.before p
  store-known p k = store-listed code inputs f args r found.before found.called.fits listed ready found.so_far.stands spot.before (was ∷ behind) spot.whole front-agrees p k

  -- it has the content of its moment now, which is that of the store
  pub content-now : contents_at read old at-place ≡ store at-place
  content-now = content-there ∙ sym (store-known at-place there.place)

  abbrev pub start : Start
  start = turn_start code inputs r o.first o.numbers found.so_far.chosen found.so_far.stands.sound.blocks (read ∷ opens.0) spot (store at-place)

  pub began : TurnBegan code inputs f args o found.before start
  began = record { called = found.called; so_far = found.so_far; spot = spot; found = found.stale; agrees = front-agrees; stale = store-differs; reads = opens.0; opened = opens.1; is = refl }

  -- the end of the read
  pub end-run : end_in read run.tables.trace.nodes ≡ Some spot.end
  end-run =
      let front : List Entry = spot.before ++ valued-as (contents_at read old at-place) spot.steps ∷ entries spot.inside in
      let whole : run.tables.trace.nodes ≡ front ++ end_entry spot.end read spot.end_steps ∷ spot.behind =
      nodes-run ∙ sym (append_assoc spot.before (valued-as (contents_at read old at-place) spot.steps ∷ entries spot.inside) (end_entry spot.end read spot.end_steps ∷ spot.behind)) in
      found.kept.step.whole.one_end spot.end (stamp_of_number read)
      (ap (node_at spot.end) whole ∙ ap held_by (entry-part (end_entry spot.end read spot.end_steps) spot.behind front
      (not_before front (end_entry spot.end read spot.end_steps) spot.behind (subst (λ es. Distinct (stamps_in es)) whole run-distinct))))

  -- what the read holds now
  pub node-now : node_at read run.tables.trace.nodes ≡ Some (Read at-place (store at-place) unit var words)
  node-now = ap (node_at read) nodes-run ∙ (ap held_by (entry-part (valued-as (contents_at read old at-place) spot.steps) behind spot.before apart)
      ∙ ap (λ w. Some (Read at-place w unit var words)) content-now)

  -- ---- the machine

  -- the items inside the read and after it
  items-behind : ticks spot.steps ++ forest_of behind ≡ flat (stepped spot.steps (trace_in spot.inside)) ++ item.End ∷ (ticks spot.end_steps ++ forest_of spot.behind)
  items-behind = ap (λ is. ticks spot.steps ++ is) (forest-left spot.inside (end_entry spot.end read spot.end_steps ∷ spot.behind))
      ∙ (sym (append_assoc (ticks spot.steps) (flat (trace_in spot.inside)) (forest_of (end_entry spot.end read spot.end_steps ∷ spot.behind)))
      ∙ ap (λ is. is ++ forest_of (end_entry spot.end read spot.end_steps ∷ spot.behind)) (sym (flat-stepped spot.steps (trace_in spot.inside))))

  alone-knows : Knows code (length inputs) found.so_far.stands.sound.blocks (known_after [] (forest_of spot.before)) start.machine
  alone-knows = knowing code found.so_far.stands.names inputs f args found.called.fits r found.so_far.stands.sound (forest_of spot.before) at-place found.value unit var words
      (ticks spot.steps ++ forest_of behind) items-there
      front-agrees store-differs (stepped spot.steps (trace_in spot.inside)) (ticks spot.end_steps ++ forest_of spot.behind) items-behind

  number-now : r.number ≡ length (found.so_far.chosen ++ [])
  number-now = found.so_far.number ∙ ap length (sym (append-nil found.so_far.chosen))

  -- ---- the tables after the steps on the read were dropped

  module _ (t : Tables) (dropped : t.trace.nodes ≡ with_steps read 0 run.tables.trace.nodes) (mods : t.mods ≡ run.tables.mods) (queue : t.stale ≡ run.tables.stale) (kept : Kept t) where
    abbrev view-then : View
    view-then = record { tables = t; heap = run.heap; spent = run.spent; cursor = read; limit = Some (stamp_of_number spot.end); frames = [] }

    nodes-then : t.trace.nodes ≡ through spot.before (valued-as (store at-place) 0) ++ behind
    nodes-then = dropped ∙ (ap (with_steps read 0) nodes-run
        ∙ (changed-part (valued-as (contents_at read old at-place) spot.steps) behind (steps_set 0) spot.before apart
        ∙ (ap (λ w. spot.before ++ valued-as w 0 ∷ behind) content-now
        ∙ sym (behind-all spot.before (valued-as (store at-place) 0) behind))))

    late-then : QueuedAfter read t
    late-then s i = subst (λ ss. place read ss < place s ss) (sym (ap stamps_in dropped ∙ stamps-changed read (steps_set 0) (λ e. refl) run.tables.trace.nodes))
        (found.queued s (subst (λ (z : _). is_in s z.stamps ≡ true) queue i))

    bases-then : (p : Place) → base_in t.mods p ≡ base_in old.mods p
    bases-then p = ap (λ d. base_in d p) mods ∙ bases-cells run.tables.mods old.mods found.cells p

    blocks-then : HasBlocks code inputs run.heap t
    blocks-then = blocks-steps code inputs run.heap run.tables t
        (blocks-look code inputs run.heap old run.tables read (contents_at read old at-place) found.nodes (λ p. bases-cells run.tables.mods old.mods found.cells p)
        (subst (λ heap. HasBlocks code inputs heap old) (sym found.heap) found.so_far.stands.blocks)) read 0 dropped mods

    items-then : forest_of (through spot.before (valued-as (store at-place) 0)) ≡ forest_of spot.before ++ item.Read at-place (store at-place) unit var words ∷ []
    items-then = forest-put spot.before read (Read at-place (store at-place) unit var words)

    known-then : known_after [] (forest_of (through spot.before (valued-as (store at-place) 0))) ≡ known_after [] (forest_of spot.before)
    known-then = ap (known_after []) items-then ∙ known-append [] (forest_of spot.before) (item.Read at-place (store at-place) unit var words ∷ [])

    words-then : with_inputs code inputs r.known ≡ words_of code inputs run.heap
    words-then = words-as code inputs run.heap r.known (λ b. found.so_far.stands.known b ∙ ap (λ heap. plain_of heap (Core b)) (sym found.heap))

    machine-then : Machine
    machine-then = running_at (state_at code inputs view-then store (found.so_far.chosen ++ [])) (resumed code unit var words (store at-place)) [] (forest_of behind)

    work-then : r.spent ≡ run.spent
    work-then = found.so_far.stands.spent ∙ sym found.spent

    same-machine : BareSame start.machine machine-then
    unfolding machine-then
    same-machine = record {
      state = ap₂ (λ (y : Plain) (n : ℕ). record { store = store; plain = y; number = r.number; work = n }) words-then work-then
          ∙ ap (λ (n : ℕ). record { store = store; plain = words_of code inputs run.heap; number = n; work = run.spent }) number-now;
      mode = BareMode.runs (bare-stepped spot.steps (trace_in spot.inside)
          ∙ ap bare (sym (first-left spot.inside (Some (stamp_of_number spot.end)) (end_entry spot.end read spot.end_steps ∷ spot.behind) (read, spot.end_steps, spot.behind, refl))));
      frames = BareFrames.bottom;
    }

    comes-then : ComesBy code start.machine machine-then (found.so_far.chosen ++ []) []
    unfolding machine-then
    comes-then = (chosen-law code).more start.machine start.machine machine-then (found.so_far.chosen ++ []) [] [] ((chosen-law code).begun start.machine (found.so_far.chosen ++ []) number-now)
        (λ names. bare-law code names start.machine machine-then same-machine) (sym number-now)

    course-then : CourseNow code inputs start view-then (through spot.before (valued-as (store at-place) 0)) (forest_of (through spot.before (valued-as (store at-place) 0)))
        (λ s. running_at s (resumed code unit var words (store at-place)) [] (forest_of behind))
    unfolding machine-then
    course-then = record {
      store = store;
      made = [];
      out = [];
      written = items-then ∙ sym (append-nil (forest_of spot.before ++ item.Read at-place (store at-place) unit var words ∷ []));
      mentions = subst (λ is. KnownItems (length inputs) [] is (known_after [] is)) (sym items-then)
          (subst (KnownItems (length inputs) [] (forest_of spot.before ++ item.Read at-place (store at-place) unit var words ∷ []))
          (sym (known-append [] (forest_of spot.before) (item.Read at-place (store at-place) unit var words ∷ [])))
          (known-items-append
          (listed code found.so_far.stands.names inputs f args found.called.fits r found.so_far.stands.sound (forest_of spot.before)
          (item.Read at-place found.value unit var words ∷ (ticks spot.steps ++ forest_of behind)) items-there front-agrees).items
          (KnownItems.read there.place (there.store at-place) there.words KnownItems.none)));
      comes = comes-then;
      knows = subst (λ bs. Knows code (length inputs) found.so_far.stands.sound.blocks bs machine-then) (sym known-then)
          (knows-bare code (length inputs) found.so_far.stands.sound.blocks (known_after [] (forest_of spot.before)) start.machine machine-then same-machine alone-knows);
      same = λ p k. store-known p (subst (λ bs. KnownBlock (length inputs) bs p.block) known-then k)
          ∙ (ap (λ s. contents_after s spot.before p) (sym (fun_ext (λ q. bases-then q)))
          ∙ sym (ap (λ (s : Store). s p) (contents-append (base_in t.mods) spot.before (valued-as (store at-place) 0 ∷ []))));
      given = subst (λ heap. Given o.first o.numbers (found.so_far.chosen ++ []) heap) (sym found.heap)
          (subst (λ bs. Given o.first o.numbers bs found.before.heap) (sym (append-nil found.so_far.chosen)) found.so_far.given);
    }

    -- the unit of the read runs, with what is inside it left over
    pub now-begun : RunningNow code inputs start (resumed code unit var words (store at-place)) view-then
    now-begun = record {
      reads = [];
      left = spot.inside;
      waits = [];
      tail = end_entry spot.end read spot.end_steps ∷ spot.behind;
      placed = record {
        kept = kept;
        done = spot.before;
        last = valued-as (store at-place) 0;
        nodes = nodes-then;
        cursor = refl;
        late = late-then;
        opened = opened-put spot.before opens.0 opens.1 (valued-as (store at-place) 0);
        began = record { steps = 0; fresh = []; same = refl };
        unfinished = tt;
      };
      tails = Tails.last;
      bare = λ none. absurd (cc);
      bounds = (read, spot.end_steps, spot.behind, refl);
      blocks = blocks-then;
      course = course-then;
    }

  -- ---- in code

  pub turn-runs : (new : RepairInCode) → code_of new ≡ code → inputs_of new ≡ inputs
      → new.running.now.tables.trace.nodes ≡ with_steps read 0 run.tables.trace.nodes → new.running.now.tables.mods ≡ run.tables.mods → new.running.now.tables.stale ≡ run.tables.stale
      → Kept new.running.now.tables
      → new.running.now.heap ≡ run.heap → new.running.now.spent ≡ run.spent → new.cursor.0 ≡ read → new.frames.now.items ≡ []
      → IfSome new.limit (λ end. end_in read run.tables.trace.nodes ≡ Some end.0) → IfNone new.limit (end_in read run.tables.trace.nodes ≡ None)
      → ((p : Place) (v : Word) (u : UnitId) (x : ℕ) (ws : List Word) → node_at read run.tables.trace.nodes ≡ Some (Read p v u x ws) → stack_in new.stack.now ≡ resumed code u x ws v)
      → TurnRuns code inputs f args o found.before new
  turn-runs new same_code same_inputs nodes mods queue kept heap spent cursor frames some none resumes = record {
    start = start;
    began = began;
    runs = runs-as code inputs start (resumed code unit var words (store at-place)) (view-then new.running.now.tables nodes mods queue kept) new
        (now-begun new.running.now.tables nodes mods queue kept)
        same_code same_inputs (resumes at-place (store at-place) unit var words node-now)
        (view-is new.running.now.tables new.running.now.heap run.heap heap new.running.now.spent run.spent spent new.cursor.0 read cursor
        new.limit (Some (stamp_of_number spot.end)) (end-is new.limit (end_in read run.tables.trace.nodes) spot.end some none end-run) (aside_in new.stack.now) new.frames.now.items frames);
  }
