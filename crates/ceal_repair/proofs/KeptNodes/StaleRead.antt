-- A stale read among kept nodes: its unit runs.
use Rattle.std.proofs.Common.{◌≡◌, ◌≢◌, ◌<◌, ◌≤◌, ℕ, inl, inr, true, false, Option, Some, None, List, [], ◌∷◌, ◌++◌, length, refl, sym, ap, subst, ◌∙◌, arith, append_assoc}
use Rattle.std.specs.Prelude.{IfSome, IfNone}
use Rattle.std.proofs.lemmas.Bool.{cases_Bool}
use Rattle.std.proofs.lemmas.Bool.Decides.{eqb_tells}
use Rattle.ceal_base.specs.Block.{Block}
use Rattle.ceal_base.specs.Operators.{same_word}
use Rattle.ceal_base.specs.declared.forest.Item.{Item}
use Rattle.ceal_base.specs.declared.forest.Item.TheVariants as item
use Rattle.ceal_base.specs.declared.forest.UnitId.{UnitId}
use Rattle.ceal_base.specs.declared.word.Place.{Place}
use Rattle.ceal_base.specs.declared.word.Word.{Word}
use Rattle.ceal_code.specs.Program.{Code}
use Rattle.ceal_code.specs.Replay.{Store, KnownBlock}
use Rattle.ceal_order.specs.Stamps as order
use Rattle.ceal_order.specs.Stamps.{is_in, place}
use Rattle.ceal_order.specs.declared.stamp.Stamp.{Stamp}
use Rattle.ceal_repair.proofs.Reuse.ReadReuseInCode.{same-place, same-value}
use Rattle.ceal_repair.proofs.Nodes.NodeItems.{behind-all, entry-front, position-front, position-there, contents-append, contents-base, forest-put, opened-put, began-put, known-append}
use Rattle.ceal_repair.proofs.Runs.UnitSteps.{nodes-distinct, blocks-steps}
use Rattle.ceal_repair.proofs.Nodes.NodeBlocks.{unfinished-ends}
use Rattle.ceal_repair.proofs.Lists.PartedLists.{false-of}
use Rattle.ceal_repair.proofs.KeptNodes.PassAll.{around-it, next-end, last-part, moment-at, all-nodes, honest-front, bare-ticks}
use Rattle.ceal_repair.proofs.KeptNodes.PassOne.{At, Walked, walk, Reached, reached, place-known}
use Rattle.ceal_repair.proofs.Reuse.ReadReuse.{not-same, ends-valued, blocks-look, end-is}
use Rattle.ceal_repair.proofs.Reuse.AllocReuse.{before-part, course-bare}
use Rattle.ceal_repair.proofs.TableCalls.CutKeepsTables.{unqueued-honest}
use Rattle.ceal_repair.specs.Around.{Tails, Passes}
use Rattle.ceal_repair.specs.Covered.{contents_after}
use Rattle.ceal_repair.specs.Entries.{stamp_of_number, entry, end_entry, entries}
use Rattle.ceal_repair.specs.Kept.{Kept, Records, IsStale, IsHonestRecord, QueuedAfter, base_in, contents_at}
use Rattle.ceal_repair.specs.Lists.{before}
use Rattle.ceal_repair.specs.Moment.{View, Start, RunningNow, PassingNow, through, state_at}
use Rattle.ceal_repair.specs.Frames.{Kept as FrameKept}
use Rattle.ceal_repair.specs.declared.tables.Tables.{Tables}
use Rattle.ceal_theory.specs.Course.{Wait, Fixes, Takes, running_at, fixing_at}
use Rattle.ceal_theory.specs.Cover.{known_after}
use Rattle.ceal_theory.specs.Repair.{State, resumed}
use Rattle.ceal_theory.specs.Moves.{Went, next_move}
use Rattle.ceal_trace.proofs.Entries.{has-held, stamps-changed, ends-changed}
use Rattle.ceal_trace.proofs.Parts.{not_before, entry-part, position-part, changed-part}
use Rattle.ceal_trace.specs.Items.{ticks, forest_of}
use Rattle.ceal_trace.specs.Nodes.{Entry, stamps_in, has_node, position, entry_at, node_at, held_by, end_in, with_steps, with_value, steps_set, value_set, is_read}
use Rattle.ceal_trace.specs.declared.node.Node.TheVariants.{Read}

-- ---- nodes that are in none of these

entry-back : (r : ℕ) (front back : List Entry) → has_node r front ≡ false → entry_at r (front ++ back) ≡ entry_at r back
entry-back r [] back h = refl
entry-back r (e ∷ es) back h = elim (eqb_tells e.stamp r) [
  | inl p ↦ absurd (let bad : true ≡ false = rw p.0 at h in cc)
  | inr p ↦ rw p.0 (entry-back r es back (rw p.0 at h))
]

neither : (r : ℕ) (xs ys : List Entry) → has_node r xs ≡ false → has_node r ys ≡ false → has_node r (xs ++ ys) ≡ false
neither r [] ys h k = k
neither r (e ∷ es) ys h k = elim (eqb_tells e.stamp r) [
  | inl p ↦ absurd (let bad : true ≡ false = rw p.0 at h in cc)
  | inr p ↦ rw p.0 (neither r es ys (rw p.0 at h) k)
]

position-far : (r : ℕ) (front back : List Entry) → has_node r front ≡ false → length front ≤ position r (front ++ back)
position-far r [] back h = omega arith
position-far r (e ∷ es) back h = elim (eqb_tells e.stamp r) [
  | inl p ↦ absurd (let bad : true ≡ false = rw p.0 at h in cc)
  | inr p ↦ rw p.0 (let rest = position-far r es back (rw p.0 at h) in omega (arith, rest))
]

-- where all that is queued is after a node, the reads up to it have the contents of their moments
unqueued-behind : (t : Tables) → Kept t → (s : ℕ) → QueuedAfter s t → (r : ℕ) → position r t.trace.nodes ≤ position s t.trace.nodes → IsHonestRecord r t
unqueued-behind t k s behind r le = unqueued-honest t k r (false-of (is_in r t.stale.stamps) (λ i. absurd (omega (arith, behind r i, le)))) (λ z i. omega (arith, behind z i, le))

-- the end of a read is the limit then
pub limit-of : (o : Option Stamp) (e : ℕ) (x : Option ℕ) → x ≡ Some e → IfSome o (λ s. x ≡ Some s.0) → IfNone o (x ≡ None) → o ≡ Some (stamp_of_number e)
limit-of None e x h some none = absurd (let bad = sym h ∙ none in cc)
limit-of (Some s) e x h some none = let both = sym h ∙ some in let same : s.0 ≡ e = cc in ap (λ k. Some (stamp_of_number k)) same

-- ---- the turn

mend-turn : (code : Code) (names : ℕ → ℕ) (s : State) (ws : List Wait) (p : Place) (w : Word) (u : UnitId) (x : ℕ) (args : List Word) (is : List Item) → same_word (s.store p) w ≡ false
    → next_move code names (fixing_at s ws (item.Read p w u x args ∷ is)) ≡ Went (item.Read p (s.store p) u x args ∷ []) (running_at s (resumed code u x args (s.store p)) (Fixes ∷ ws) is)
unfolding next_move
mend-turn code names s ws p w u x args is h = rw h refl

module _ (code : Code) (inputs : List Block) (start : Start) (until : Stamp) (v : View) (now : PassingNow code inputs start until v)
    (read : ℕ) (stale : IsStale read v.tables) (near : position read v.tables.trace.nodes < position until.0 v.tables.trace.nodes) where
  -- the read is among the nodes that are passed
  not-yet : has_node read (through now.placed.done now.placed.last) ≡ false
  not-yet = elim (cases_Bool (has_node read (through now.placed.done now.placed.last))) [
    | inl h ↦
        let here : position read v.tables.trace.nodes ≤ length now.placed.done =
        subst (λ es. position read es ≤ length now.placed.done) (sym now.placed.nodes) (position-front read now.placed.done now.placed.last now.behind h) in
        let cursor : position v.cursor v.tables.trace.nodes ≡ length now.placed.done = ap (position v.cursor) now.placed.nodes
        ∙ (ap (λ s. position s (through now.placed.done now.placed.last ++ now.behind)) (sym now.placed.cursor)
        ∙ position-there now.placed.done now.placed.last now.behind (nodes-distinct start v now.reads now.behind now.placed)) in
        absurd (stale.differs (unqueued-behind v.tables now.placed.kept v.cursor now.placed.late read (omega (arith, here, cursor)) stale.place stale.value stale.read))
    | inr h ↦ h
  ]

  among : has_node read (around-it code inputs start until v now).nodes ≡ true
  among = elim (cases_Bool (has_node read (around-it code inputs start until v now).nodes)) [
    | inl h ↦ h
    | inr h ↦
        let x = around-it code inputs start until v now in
        let all : v.tables.trace.nodes ≡ (through now.placed.done now.placed.last ++ x.nodes) ++ next-end code inputs start until v now ∷ last-part code inputs start until v now =
        all-nodes code inputs start until v now in
        let none : has_node x.end (through now.placed.done now.placed.last ++ x.nodes) ≡ false =
        not_before (through now.placed.done now.placed.last ++ x.nodes) (next-end code inputs start until v now) (last-part code inputs start until v now)
        (subst (λ es. order.Distinct (stamps_in es)) all now.placed.kept.step.whole.order.distinct) in
        let far : length (through now.placed.done now.placed.last ++ x.nodes) ≤ position read v.tables.trace.nodes =
        subst (λ es. length (through now.placed.done now.placed.last ++ x.nodes) ≤ position read es) (sym all)
        (position-far read (through now.placed.done now.placed.last ++ x.nodes) (next-end code inputs start until v now ∷ last-part code inputs start until v now)
        (neither read (through now.placed.done now.placed.last) x.nodes not-yet h)) in
        let end : position until.0 v.tables.trace.nodes ≡ length (through now.placed.done now.placed.last ++ x.nodes) =
        ap (λ (s : Stamp). position s.0 v.tables.trace.nodes) x.until_is ∙ (ap (position x.end) all
        ∙ position-part (next-end code inputs start until v now) (last-part code inputs start until v now) (through now.placed.done now.placed.last ++ x.nodes) none) in
        absurd (omega (arith, near, far, end))
  ]

  reads-one : is_read (node_at read (around-it code inputs start until v now).nodes) ≡ true
  reads-one =
      let x = around-it code inputs start until v now in
      let found : node_at read v.tables.trace.nodes ≡ node_at read x.nodes =
      ap (node_at read)
      (all-nodes code inputs start until v now ∙ append_assoc (through now.placed.done now.placed.last) x.nodes (next-end code inputs start until v now ∷ last-part code inputs start until v now))
      ∙ ap held_by (entry-back read (through now.placed.done now.placed.last) (x.nodes ++ next-end code inputs start until v now ∷ last-part code inputs start until v now) not-yet
      ∙ entry-front read x.nodes (next-end code inputs start until v now ∷ last-part code inputs start until v now) among) in
      ap is_read (sym found ∙ stale.read.is)

  pub the-read : Reached read (Takes (around-it code inputs start until v now).below ∷ (around-it code inputs start until v now).waits)
      ((around-it code inputs start until v now).read ∷ (around-it code inputs start until v now).reads)
      now.waits now.reads (around-it code inputs start until v now).nodes
  the-read = reached read (around-it code inputs start until v now).inside reads-one

  -- the nodes before it, and those after it
  abbrev pub walked : List Entry
  walked = through now.placed.done now.placed.last ++ the-read.front

  abbrev pub later-part : List Entry
  later-part = the-read.later ++ next-end code inputs start until v now ∷ last-part code inputs start until v now

  abbrev pub read-tail : List Entry
  read-tail = entries the-read.inside ++ end_entry the-read.end read the-read.end_steps ∷ later-part

  abbrev pub read-entry : Word → ℕ → Entry
  read-entry w n = entry read (Read the-read.place w the-read.unit the-read.var the-read.args) n

  nodes-split : (around-it code inputs start until v now).nodes ++ next-end code inputs start until v now ∷ last-part code inputs start until v now
      ≡ the-read.front ++ read-entry the-read.value the-read.steps ∷ read-tail
  nodes-split =
      ap (λ es. es ++ next-end code inputs start until v now ∷ last-part code inputs start until v now) the-read.is
      ∙ (append_assoc the-read.front (read-entry the-read.value the-read.steps ∷ (entries the-read.inside ++ end_entry the-read.end read the-read.end_steps ∷ the-read.later))
      (next-end code inputs start until v now ∷ last-part code inputs start until v now)
      ∙ ap (λ es. the-read.front ++ read-entry the-read.value the-read.steps ∷ es)
      (append_assoc (entries the-read.inside) (end_entry the-read.end read the-read.end_steps ∷ the-read.later) (next-end code inputs start until v now ∷ last-part code inputs start until v now)))

  nodes-now : v.tables.trace.nodes ≡ walked ++ read-entry the-read.value the-read.steps ∷ read-tail
  nodes-now = all-nodes code inputs start until v now
      ∙ (append_assoc (through now.placed.done now.placed.last) (around-it code inputs start until v now).nodes (next-end code inputs start until v now ∷ last-part code inputs start until v now)
      ∙ (ap (λ es. through now.placed.done now.placed.last ++ es) nodes-split
      ∙ sym (append_assoc (through now.placed.done now.placed.last) the-read.front (read-entry the-read.value the-read.steps ∷ read-tail))))

  not-front : has_node read walked ≡ false
  not-front = not_before walked (read-entry the-read.value the-read.steps) read-tail (subst (λ es. order.Distinct (stamps_in es)) nodes-now now.placed.kept.step.whole.order.distinct)

  pub node-now : node_at read v.tables.trace.nodes ≡ Some (Read the-read.place the-read.value the-read.unit the-read.var the-read.args)
  node-now = ap (node_at read) nodes-now ∙ ap held_by (entry-part (read-entry the-read.value the-read.steps) read-tail walked not-front)

  -- the content of its moment
  pub word : Word
  word = contents_at read v.tables the-read.place

  content-read : word ≡ contents_after (base_in v.tables.mods) walked the-read.place
  unfolding word
  content-read = ap (λ es. contents_after (base_in v.tables.mods) es the-read.place) (ap (before read) nodes-now ∙ before-part (read-entry the-read.value the-read.steps) read-tail walked not-front)

  differs : the-read.value ≢ word
  unfolding word
  differs e =
      let p = same-place (node_at read v.tables.trace.nodes) the-read.place stale.place the-read.value stale.value the-read.unit the-read.var the-read.args node-now stale.read in
      let w = same-value (node_at read v.tables.trace.nodes) the-read.place stale.place the-read.value stale.value the-read.unit the-read.var the-read.args node-now stale.read in
      stale.differs (w ∙ (e ∙ ap (λ o. contents_at read v.tables o) (sym p)))

  -- the place of a record of it
  word-at : (p : Place) (w : Word) → Records p w (node_at read v.tables.trace.nodes) → contents_at read v.tables p ≡ word
  unfolding word
  word-at p w r = ap (λ o. contents_at read v.tables o) (same-place (node_at read v.tables.trace.nodes) the-read.place p the-read.value w the-read.unit the-read.var the-read.args node-now r)

  pub seen-as : (t1 : Tables) (p : Place) (w : Word) → Records p w (node_at read v.tables.trace.nodes) → t1.trace.nodes ≡ with_value read (contents_at read v.tables p) v.tables.trace.nodes
      → t1.trace.nodes ≡ with_value read word v.tables.trace.nodes
  seen-as t1 p w r e = e ∙ ap (λ z. with_value read z v.tables.trace.nodes) (word-at p w r)

  pub read-here : (t1 : Tables) → t1.trace.nodes ≡ with_value read word v.tables.trace.nodes → has_node read t1.trace.nodes ≡ true
  read-here t1 e = subst (λ ss. is_in read ss ≡ true) (sym (ap stamps_in e ∙ stamps-changed read (value_set word) (λ e. refl) v.tables.trace.nodes)) (has-held read _ v.tables.trace.nodes node-now)

  module _ (t1 t : Tables) (seen : t1.trace.nodes ≡ with_value read word v.tables.trace.nodes) (queued : QueuedAfter read t1) (cells : (p : Place) → base_in t1.mods p ≡ base_in v.tables.mods p)
      (kept1 : Kept t1)
      (dropped : t.trace.nodes ≡ with_steps read 0 t1.trace.nodes) (mods : t.mods ≡ t1.mods) (queue : t.stale ≡ t1.stale) (kept : Kept t) where
    nodes-seen : t1.trace.nodes ≡ walked ++ read-entry word the-read.steps ∷ read-tail
    nodes-seen = seen ∙ (ap (with_value read word) nodes-now ∙ changed-part (read-entry the-read.value the-read.steps) read-tail (value_set word) walked not-front)

    nodes-then : t.trace.nodes ≡ through walked (read-entry word 0) ++ read-tail
    nodes-then =
        dropped ∙ (ap (with_steps read 0) nodes-seen ∙ (changed-part (read-entry word the-read.steps) read-tail (steps_set 0) walked not-front ∙ sym (behind-all walked (read-entry word 0) read-tail)))

    pub node-then : node_at read t.trace.nodes ≡ Some (Read the-read.place word the-read.unit the-read.var the-read.args)
    node-then = ap (node_at read) (nodes-then ∙ behind-all walked (read-entry word 0) read-tail) ∙ ap held_by (entry-part (read-entry word 0) read-tail walked not-front)

    pub end-then : end_in read t.trace.nodes ≡ Some the-read.end
    end-then = end-is t kept the-read.end read the-read.end_steps (through walked (read-entry word 0)) (entries the-read.inside) later-part nodes-then

    late-then : QueuedAfter read t
    late-then r i = subst (λ ss. place read ss < place r ss) (sym (ap stamps_in dropped ∙ stamps-changed read (steps_set 0) (λ e. refl) t1.trace.nodes))
        (queued r (subst (λ (z : _). is_in r z.stamps ≡ true) queue i))

    bases-then : (p : Place) → base_in t.mods p ≡ base_in v.tables.mods p
    bases-then p = ap (λ d. base_in d p) mods ∙ cells p

    honest-then : (r : ℕ) (p : Place) (w : Word) → Records p w (node_at r walked) → w ≡ contents_after (base_in v.tables.mods) (before r walked) p
    honest-then r p w is =
        honest-front t1 kept1 walked (read-entry word the-read.steps) read-tail nodes-seen (λ u lt. unqueued-behind t1 kept1 read queued u (omega (arith, lt))) r p w is
        ∙ contents-base (base_in t1.mods) (base_in v.tables.mods) p (cells p) (before r walked)

    moment-read : Walked code inputs start v now.blocks now.placed.kept walked (read-entry the-read.value the-read.steps ∷ read-tail) nodes-now honest-then the-read.waits the-read.reads
    moment-read = walk code inputs start v now.blocks now.placed.kept walked (read-entry the-read.value the-read.steps ∷ read-tail) nodes-now honest-then the-read.walks
        (through now.placed.done now.placed.last) refl now.placed.opened now.placed.began
        (subst (λ es. At code inputs start v now.blocks (through now.placed.done now.placed.last) (forest_of (through now.placed.done now.placed.last)) now.waits (forest_of es)) nodes-split
        (moment-at code inputs start until v now))

    store-now : moment-read.course.store the-read.place ≡ word
    store-now = moment-read.course.same the-read.place
        (place-known code inputs start v now.blocks walked the-read.waits the-read.place the-read.value the-read.unit the-read.var the-read.args
        (ticks the-read.steps ++ forest_of read-tail) moment-read.course)
        ∙ sym content-read

    known-then : (q : Place) → KnownBlock (length inputs) (known_after [] (forest_of (through walked (read-entry word 0)))) q.block
        → KnownBlock (length inputs) (known_after [] (forest_of walked)) q.block
    known-then q c = subst (λ bs. KnownBlock (length inputs) bs q.block) (ap (known_after []) (forest-put walked read (Read the-read.place word the-read.unit the-read.var the-read.args))
        ∙ known-append [] (forest_of walked) (item.Read the-read.place word the-read.unit the-read.var the-read.args ∷ [])) c

    turn-now : (names : ℕ → ℕ) → next_move code names
        (fixing_at (state_at code inputs v moment-read.course.store (start.chosen ++ moment-read.course.made)) the-read.waits (forest_of (read-entry the-read.value the-read.steps ∷ read-tail)))
        ≡ Went (item.Read the-read.place word the-read.unit the-read.var the-read.args ∷ [])
        (running_at (state_at code inputs v moment-read.course.store (start.chosen ++ moment-read.course.made)) (resumed code the-read.unit the-read.var the-read.args word) (Fixes ∷ the-read.waits)
        (ticks the-read.steps ++ forest_of read-tail))
    turn-now names =
        mend-turn code names (state_at code inputs v moment-read.course.store
        (start.chosen ++ moment-read.course.made)) the-read.waits the-read.place the-read.value the-read.unit the-read.var the-read.args (ticks the-read.steps ++ forest_of read-tail)
        (ap (λ z. same_word z the-read.value) store-now ∙ not-same word the-read.value (λ e. differs (sym e)))
        ∙ ap (λ z. Went (item.Read the-read.place z the-read.unit the-read.var the-read.args ∷ [])
        (running_at (state_at code inputs v moment-read.course.store (start.chosen ++ moment-read.course.made)) (resumed code the-read.unit the-read.var the-read.args z) (Fixes ∷ the-read.waits)
        (ticks the-read.steps ++ forest_of read-tail))) store-now

    -- the nodes before the read are passed, and its unit runs, with what is inside it left over; after its end nodes
    -- are passed then
    pub now-mend : RunningNow code inputs start (resumed code the-read.unit the-read.var the-read.args word)
        (record { tables = t; heap = v.heap; spent = v.spent; cursor = read; limit = Some (stamp_of_number the-read.end); frames = FrameKept until ∷ v.frames })
    now-mend = record {
      reads = read ∷ the-read.reads;
      left = the-read.inside;
      waits = Fixes ∷ the-read.waits;
      tail = end_entry the-read.end read the-read.end_steps ∷ later-part;
      placed = record {
        kept = kept;
        done = walked;
        last = read-entry word 0;
        nodes = nodes-then;
        cursor = refl;
        late = late-then;
        opened = opened-put walked (the-read.reads ++ start.reads) moment-read.opened (read-entry word 0);
        began = began-put start walked (read-entry word 0) moment-read.began;
        unfinished = unfinished-ends v.frames v.tables.trace.nodes t.trace.nodes
            (λ r. ap (end_in r) dropped ∙ (ends-changed read (steps_set 0) (λ e. refl) r t1.trace.nodes (λ e. refl)
            ∙ (ap (end_in r) seen ∙ ends-changed read (value_set word) (λ e. refl) r v.tables.trace.nodes (λ e. ends-valued r word e.node)))) now.placed.unfinished;
      };
      tails = Tails.kept the-read.end read the-read.end_steps
          (let x = around-it code inputs start until v now in
          subst (λ s. Passes start.limit start.beyond s v.frames the-read.waits the-read.reads later-part) (sym x.until_is)
          (subst (λ fs. Passes start.limit start.beyond (stamp_of_number x.end) fs the-read.waits the-read.reads later-part) (sym x.fs_are)
          (Passes.passes x.below x.end x.read x.steps x.behind the-read.after x.tails)));
      bare = λ none. absurd (cc);
      bounds = now.bounds;
      blocks = blocks-steps code inputs v.heap t1 t (blocks-look code inputs v.heap v.tables t1 read word seen cells now.blocks) read 0 dropped mods;
      course = course-bare code inputs start v walked (forest_of walked) (λ s. fixing_at s the-read.waits (forest_of (read-entry the-read.value the-read.steps ∷ read-tail))) moment-read.course
          (record { tables = t; heap = v.heap; spent = v.spent; cursor = read; limit = Some (stamp_of_number the-read.end); frames = FrameKept until ∷ v.frames })
          (through walked (read-entry word 0)) (forest_of (through walked (read-entry word 0)))
          (λ s. running_at s (resumed code the-read.unit the-read.var the-read.args word) (Fixes ∷ the-read.waits) (forest_of read-tail))
          (item.Read the-read.place word the-read.unit the-read.var the-read.args ∷ []) moment-read.course.store
          (running_at (state_at code inputs v moment-read.course.store (start.chosen ++ moment-read.course.made)) (resumed code the-read.unit the-read.var the-read.args word)
          (Fixes ∷ the-read.waits) (ticks the-read.steps ++ forest_of read-tail))
          (forest-put walked read (Read the-read.place word the-read.unit the-read.var the-read.args)) turn-now refl
          (bare-ticks code (state_at code inputs v moment-read.course.store (start.chosen ++ moment-read.course.made)) (resumed code the-read.unit the-read.var the-read.args word)
          (Fixes ∷ the-read.waits) the-read.steps (forest_of read-tail))
          (λ q c. moment-read.course.same q (known-then q c)
          ∙ (contents-base (base_in v.tables.mods) (base_in t.mods) q (sym (bases-then q)) walked
          ∙ sym (ap (λ (f : Store). f q) (contents-append (base_in t.mods) walked (read-entry word 0 ∷ [])))))
          moment-read.course.given;
    }
