-- All kept nodes inside a taken read are passed.
use Rattle.std.proofs.Common.{◌≡◌, ◌≢◌, ◌<◌, ℕ, inl, inr, true, false, Option, Some, List, [], ◌∷◌, ◌++◌, length, reverse, refl, sym, ap, subst, ◌∙◌, arith, append_assoc}
use Rattle.std.proofs.lemmas.Bool.Decides.{eqb_tells}
use Rattle.std.proofs.lemmas.List.{reverse-append}
use Rattle.ceal_base.specs.Block.{Block}
use Rattle.ceal_base.specs.declared.forest.Item.{Item}
use Rattle.ceal_base.specs.declared.forest.Item.TheVariants as item
use Rattle.ceal_base.specs.declared.word.Place.{Place}
use Rattle.ceal_base.specs.declared.word.Word.{Word}
use Rattle.ceal_code.specs.Program.{Code}
use Rattle.ceal_code.specs.Replay.{Store, KnownBlock}
use Rattle.ceal_code.specs.Piles.{Pile}
use Rattle.ceal_code.specs.Stacks.{above_floor, under_floor}
use Rattle.ceal_code.specs.Step.{Stack}
use Rattle.ceal_code.specs.declared.waits.Floor.{Floor}
use Rattle.ceal_order.proofs.Places.{place_tells}
use Rattle.ceal_order.specs.Stamps as order
use Rattle.ceal_order.specs.Stamps.{is_in, place}
use Rattle.ceal_order.specs.declared.stamp.Stamp.{Stamp}
use Rattle.ceal_queue.specs.Queue.{IsBefore}
use Rattle.ceal_repair.proofs.TableCalls.CutKeepsTables.{unqueued-honest}
use Rattle.ceal_repair.proofs.Nodes.NodeItems.{behind-all, entry-front, contents-base, contents-put, forest-put, opened-put, began-put, closed-last, known-append}
use Rattle.ceal_repair.proofs.Runs.UnitSteps.{blocks-steps}
use Rattle.ceal_repair.proofs.Nodes.NodeBlocks.{unfinished-ends}
use Rattle.ceal_repair.proofs.Lists.PartedLists.{false-of}
use Rattle.ceal_repair.proofs.KeptNodes.PassOne.{At, Walked, walk, walks-all, pass-steps}
use Rattle.ceal_repair.proofs.Reuse.ReadReuse.{blocks-as, first-ticks, around-ticks}
use Rattle.ceal_repair.proofs.Reuse.AllocReuse.{course-bare}
use Rattle.ceal_repair.specs.Around.{Inside, Tails, Passes}
use Rattle.ceal_repair.specs.Covered.{contents_after}
use Rattle.ceal_repair.specs.Entries.{stamp_of_number, entry, end_entry, entries}
use Rattle.ceal_repair.specs.Kept.{Kept, Records, IsHonestRecord, QueuedAfter, QueuedFrom, base_in}
use Rattle.ceal_repair.specs.Lists.{before}
use Rattle.ceal_repair.specs.Moment.{View, Start, RunningNow, PassingNow, Unfinished, through, state_at}
use Rattle.ceal_repair.specs.Frames.{Frame, Taken, frames_in}
use Rattle.ceal_repair.specs.declared.frame.Frame.{Frame as CodeFrame}
use Rattle.ceal_repair.specs.declared.frame.Frame.TheVariants.{Begun as CodeBegun, Taken as CodeTaken, Kept as CodeKept}
use Rattle.ceal_repair.specs.declared.tables.Tables.{Tables}
use Rattle.ceal_theory.proofs.Reuse.StepsBetween.{frames-self}
use Rattle.ceal_theory.proofs.Reuse.TakenAfterRevocation.{bare-stepped}
use Rattle.ceal_theory.specs.Course.{Wait, Takes, frames_at, running_at, fixing_at, BareMode, BareFrames, BareSame}
use Rattle.ceal_theory.specs.Cover.{known_after}
use Rattle.ceal_theory.specs.Groves.{Grove, bare}
use Rattle.ceal_theory.specs.Levels.{first, around, levels}
use Rattle.ceal_theory.specs.Repair.{State}
use Rattle.ceal_theory.specs.Moves.{Went, next_move}
use Rattle.ceal_trace.proofs.Entries.{has-held, has-read, stamps-changed, ends-changed}
use Rattle.ceal_trace.proofs.Parts.{not_before, entry-part, position-part, changed-part}
use Rattle.ceal_trace.specs.Items.{ticks, forest_of}
use Rattle.ceal_trace.specs.Nodes.{Entry, Timeline, stamps_in, has_node, position, node_at, held_by, end_in, with_steps, steps_set, is_read}
use Rattle.ceal_trace.specs.declared.node.Node.TheVariants.{End}

-- ---- what is found in front

pub position-within : (r : ℕ) (front back : List Entry) → has_node r front ≡ true → position r (front ++ back) < length front
position-within r [] back h = absurd (cc)
position-within r (e ∷ es) back h = elim (eqb_tells e.stamp r) [
  | inl p ↦ rw p.0 (omega arith)
  | inr p ↦ rw p.0 (let rest = position-within r es back (rw p.0 at h) in omega (arith, rest))
]

before-front : (r : ℕ) (front back : List Entry) → has_node r front ≡ true → before r (front ++ back) ≡ before r front
before-front r [] back h = absurd (cc)
before-front r (e ∷ es) back h = elim (eqb_tells e.stamp r) [
  | inl p ↦ rw p.0 refl
  | inr p ↦ rw p.0 (ap (λ fs. e ∷ fs) (before-front r es back (rw p.0 at h)))
]

-- nodes in front have the contents of their moments, where all before the next one have
pub honest-front : (t : Tables) → Kept t → (front : List Entry) (e : Entry) (back : List Entry) → t.trace.nodes ≡ front ++ e ∷ back
    → ((r : ℕ) → position r t.trace.nodes < position e.stamp t.trace.nodes → IsHonestRecord r t)
    → (r : ℕ) (p : Place) (w : Word) → Records p w (node_at r front) → w ≡ contents_after (base_in t.mods) (before r front) p
honest-front t kept front e back nodes h r p w is =
    let here : has_node r front ≡ true = has-held r _ front is.is in
    let none : has_node e.stamp front ≡ false = not_before front e back (subst (λ es. order.Distinct (stamps_in es)) nodes kept.step.whole.order.distinct) in
    let far : position e.stamp t.trace.nodes ≡ length front = ap (position e.stamp) nodes ∙ position-part e back front none in
    let near : position r t.trace.nodes < length front = subst (λ es. position r es < length front) (sym nodes) (position-within r front (e ∷ back) here) in
    let same : node_at r t.trace.nodes ≡ node_at r front = ap (node_at r) nodes ∙ ap held_by (entry-front r front (e ∷ back) here) in
    h r (omega (arith, far, near)) p w (subst (Records p w) (sym same) is)
    ∙ ap (λ es. contents_after (base_in t.mods) es p) (ap (before r) nodes ∙ before-front r front (e ∷ back) here)

-- ---- steps in front of what is left over

pub bare-ticks : (code : Code) (s : State) (st : Stack) (ws : List Wait) (n : ℕ) (is : List Item) → BareSame (running_at s st ws (ticks n ++ is)) (running_at s st ws is)
bare-ticks code s st ws n is = record {
  state = refl;
  mode = BareMode.runs (ap bare (first-ticks n is) ∙ bare-stepped n (first (levels is)));
  frames = subst (λ ls. BareFrames (frames_at ws ls) (frames_at ws (around (levels is)))) (sym (around-ticks n is)) (frames-self code (λ k. 0) (frames_at ws (around (levels is))));
}

-- the end of a taken read that was kept
end-turn : (code : Code) (names : ℕ → ℕ) (s : State) (below : Stack) (ws : List Wait) (is : List Item)
    → next_move code names (fixing_at s (Takes below ∷ ws) (item.End ∷ is)) ≡ Went (item.End ∷ []) (running_at s below ws is)
unfolding next_move
end-turn code names s below ws is = refl

-- where nothing is queued before a node, the reads before it have the contents of their moments
unqueued-from : (t : Tables) → Kept t → (s : ℕ) → QueuedFrom s t → (r : ℕ) → position r t.trace.nodes < position s t.trace.nodes → IsHonestRecord r t
unqueued-from t k s from r lt = unqueued-honest t k r (false-of (is_in r t.stale.stamps) (λ i. absurd (omega (arith, from r i, lt)))) (λ z i. omega (arith, from z i, lt))

-- ---- what is passed, and what is after it

-- what the frame of the taken read says of what waits
pub record PassesTaken (limit : Option Stamp) (beyond : List Entry) (until : Stamp) (fs : List Frame) (ws : List Wait) (rs : List ℕ) (back : List Entry) : Type 0 where
  pub below : Stack
  pub next : Stamp
  pub frames : List Frame
  pub end : ℕ
  pub read : ℕ
  pub steps : ℕ
  pub behind : Grove
  pub waits : List Wait
  pub reads : List ℕ
  pub nodes : List Entry
  pub rest : List Entry
  pub until_is : until ≡ stamp_of_number end
  pub fs_are : fs ≡ Taken below next ∷ frames
  pub back_is : back ≡ nodes ++ end_entry end read steps ∷ (entries behind ++ rest)
  pub inside : Inside (Takes below ∷ waits) (read ∷ reads) ws rs nodes
  pub tails : Tails limit beyond (Some next) frames waits reads rest

pub passes-taken : {limit : Option Stamp} {beyond : List Entry} {until : Stamp} {fs : List Frame} {ws : List Wait} {rs : List ℕ} {back : List Entry}
    → Passes limit beyond until fs ws rs back → PassesTaken limit beyond until fs ws rs back
passes-taken (Passes.passes {until = until} {fs = fs} {ws = ws} {rs = rs} {es = es} {tail = tail} below e r m g i t) = record {
  below = below;
  next = until;
  frames = fs;
  end = e;
  read = r;
  steps = m;
  behind = g;
  waits = ws;
  reads = rs;
  nodes = es;
  rest = tail;
  until_is = refl;
  fs_are = refl;
  back_is = refl;
  inside = i;
  tails = t;
}

module _ (code : Code) (inputs : List Block) (start : Start) (until : Stamp) (v : View) (now : PassingNow code inputs start until v) where
  pub around-it : PassesTaken start.limit start.beyond until v.frames now.waits now.reads now.behind
  around-it = passes-taken now.passes

  abbrev pub next-end : Entry
  next-end = end_entry around-it.end around-it.read around-it.steps

  abbrev pub last-part : List Entry
  last-part = entries around-it.behind ++ around-it.rest

  -- the moment where the steps at the cursor are written
  pub moment-at : At code inputs start v now.blocks (through now.placed.done now.placed.last) (forest_of (through now.placed.done now.placed.last)) now.waits
      (forest_of (around-it.nodes ++ next-end ∷ last-part))
  moment-at = subst (λ es. At code inputs start v now.blocks (through now.placed.done now.placed.last) (forest_of (through now.placed.done now.placed.last)) now.waits (forest_of es)) around-it.back_is
      (pass-steps code inputs start v now.blocks now.placed.done now.placed.last now.waits (forest_of now.behind) now.course)

  pub all-nodes : v.tables.trace.nodes ≡ (through now.placed.done now.placed.last ++ around-it.nodes) ++ next-end ∷ last-part
  all-nodes = now.placed.nodes ∙ (ap (λ es. through now.placed.done now.placed.last ++ es) around-it.back_is
      ∙ sym (append_assoc (through now.placed.done now.placed.last) around-it.nodes (end_entry around-it.end around-it.read around-it.steps ∷ (entries around-it.behind ++ around-it.rest))))

  pub end-there : (t : Tables) → t.trace ≡ v.tables.trace → Kept t → has_node until.0 t.trace.nodes ≡ true
  end-there t same kept =
      let mid : t.trace.nodes ≡ (through now.placed.done now.placed.last ++ around-it.nodes) ++ next-end ∷ last-part = ap (λ (l : Timeline). l.nodes) same ∙ all-nodes in
      let none : has_node around-it.end (through now.placed.done now.placed.last ++ around-it.nodes) ≡ false =
      not_before (through now.placed.done now.placed.last ++ around-it.nodes) next-end last-part (subst (λ es. order.Distinct (stamps_in es)) mid kept.step.whole.order.distinct) in
      subst (λ (s : Stamp). has_node s.0 t.trace.nodes ≡ true) (sym around-it.until_is)
      (has-held around-it.end (End (stamp_of_number around-it.read)) t.trace.nodes
      (ap (node_at around-it.end) mid ∙ ap held_by (entry-part next-end last-part (through now.placed.done now.placed.last ++ around-it.nodes) none)))

  pub limit-there : (u : Stamp) → v.limit ≡ Some u → has_node u.0 v.tables.trace.nodes ≡ true
  limit-there u e = let both = sym now.limit ∙ e in let same : until ≡ u = cc in subst (λ (s : Stamp). has_node s.0 v.tables.trace.nodes ≡ true) same (end-there v.tables refl now.placed.kept)

  -- where none that is queued is before the limit
  pub left-from : (t : Tables) → t.trace ≡ v.tables.trace → ((s : ℕ) → is_in s t.stale.stamps ≡ true → ¬ IsBefore (stamps_in v.tables.trace.nodes) v.limit s) → QueuedFrom until.0 t
  left-from t same h s i =
      let far : ¬ (position s t.trace.nodes < position until.0 t.trace.nodes) = subst (λ (l : Timeline). ¬ (position s l.nodes < position until.0 l.nodes)) (sym same)
      (subst (λ o. ¬ IsBefore (stamps_in v.tables.trace.nodes) o s) now.limit (h s i)) in
      omega (arith, far)

  -- the frame that comes next, with its units
  module _ (aside : Pile) (all fewer : List CodeFrame) (f : CodeFrame) (is : v.frames ≡ frames_in aside (reverse all)) (popped : all ≡ fewer ++ f ∷ []) where
    pub next-and-others : frames_in aside (f ∷ reverse fewer) ≡ Taken around-it.below around-it.next ∷ around-it.frames
    next-and-others = ap (frames_in aside) (sym (reverse-append fewer (f ∷ []))) ∙ (ap (λ fs. frames_in aside (reverse fs)) (sym popped) ∙ (sym is ∙ around-it.fs_are))

    -- it is that of a read that was taken
    pub next-not-begun : (floor : Floor) (read : Stamp) → f ≡ CodeBegun floor read → ⊥
    next-not-begun floor read e = let both = ap (λ g. frames_in aside (g ∷ reverse fewer)) (sym e) ∙ next-and-others in cc

    pub next-not-kept : (limit : Stamp) → f ≡ CodeKept limit → ⊥
    next-not-kept limit e = let both = ap (λ g. frames_in aside (g ∷ reverse fewer)) (sym e) ∙ next-and-others in cc

    pub next-units : (floor : Floor) (limit : Stamp) → f ≡ CodeTaken floor limit → above_floor floor aside ≡ around-it.below
    next-units floor limit e = let both = ap (λ g. frames_in aside (g ∷ reverse fewer)) (sym e) ∙ next-and-others in cc

    pub next-limit : (floor : Floor) (limit : Stamp) → f ≡ CodeTaken floor limit → limit ≡ around-it.next
    next-limit floor limit e = let both = ap (λ g. frames_in aside (g ∷ reverse fewer)) (sym e) ∙ next-and-others in cc

    pub frames-next : (floor : Floor) (limit : Stamp) → f ≡ CodeTaken floor limit → frames_in (under_floor floor aside) (reverse fewer) ≡ around-it.frames
    frames-next floor limit e = let both = ap (λ g. frames_in aside (g ∷ reverse fewer)) (sym e) ∙ next-and-others in cc

  -- ---- none of them is stale

  module _ (t1 t : Tables) (seen : t1.trace ≡ v.tables.trace) (left : QueuedFrom until.0 t1) (cells : (p : Place) → base_in t1.mods p ≡ base_in v.tables.mods p) (kept1 : Kept t1)
      (dropped : t.trace.nodes ≡ with_steps until.0 0 t1.trace.nodes) (mods : t.mods ≡ t1.mods) (queue : t.stale ≡ t1.stale) (kept : Kept t) where
    abbrev walked : List Entry
    walked = through now.placed.done now.placed.last ++ around-it.nodes

    nodes-mid : t1.trace.nodes ≡ walked ++ end_entry until.0 around-it.read around-it.steps ∷ last-part
    nodes-mid = ap (λ (l : Timeline). l.nodes) seen ∙ (all-nodes ∙ ap (λ (z : Stamp). walked ++ end_entry z.0 around-it.read around-it.steps ∷ last-part) (sym around-it.until_is))

    not-front : has_node until.0 walked ≡ false
    not-front = not_before walked (end_entry until.0 around-it.read around-it.steps) last-part (subst (λ es. order.Distinct (stamps_in es)) nodes-mid kept1.step.whole.order.distinct)

    node-end : node_at until.0 t1.trace.nodes ≡ Some (End (stamp_of_number around-it.read))
    node-end = ap (node_at until.0) nodes-mid ∙ ap held_by (entry-part (end_entry until.0 around-it.read around-it.steps) last-part walked not-front)

    nodes-then : t.trace.nodes ≡ through walked (entry until.0 (End (stamp_of_number around-it.read)) 0) ++ last-part
    nodes-then = dropped ∙ (ap (with_steps until.0 0) nodes-mid
        ∙ (changed-part (end_entry until.0 around-it.read around-it.steps) last-part (steps_set 0) walked not-front
        ∙ sym (behind-all walked (entry until.0 (End (stamp_of_number around-it.read)) 0) last-part)))

    -- nothing is queued up to the end
    late-then : QueuedAfter until.0 t
    late-then r i =
        let q : is_in r t1.stale.stamps ≡ true = subst (λ (z : _). is_in r z.stamps ≡ true) queue i in
        let reads : is_read (node_at r t1.trace.nodes) ≡ true = kept1.step.queued r q in
        let there : has_node r t1.trace.nodes ≡ true = has-read r t1.trace.nodes reads in
        let own : has_node until.0 t1.trace.nodes ≡ true = has-held until.0 (End (stamp_of_number around-it.read)) t1.trace.nodes node-end in
        let other : position r t1.trace.nodes ≢ position until.0 t1.trace.nodes = λ e.
        let same : r ≡ until.0 = place_tells r until.0 (stamps_in t1.trace.nodes) there own e in
        absurd (let bad : is_read (Some (End (stamp_of_number around-it.read))) ≡ true = subst (λ o. is_read o ≡ true) (ap (λ z. node_at z t1.trace.nodes) same ∙ node-end) reads in cc) in
        let less : position until.0 t1.trace.nodes < position r t1.trace.nodes = omega (arith, other, left r q) in
        subst (λ ss. place until.0 ss < place r ss) (sym (ap stamps_in dropped ∙ stamps-changed until.0 (steps_set 0) (λ e. refl) t1.trace.nodes)) less

    bases-then : (p : Place) → base_in t.mods p ≡ base_in v.tables.mods p
    bases-then p = ap (λ d. base_in d p) mods ∙ cells p

    honest-then : (r : ℕ) (p : Place) (w : Word) → Records p w (node_at r walked) → w ≡ contents_after (base_in v.tables.mods) (before r walked) p
    honest-then r p w is =
        honest-front t1 kept1 walked (end_entry until.0 around-it.read around-it.steps) last-part nodes-mid
        (λ u lt. unqueued-from t1 kept1 until.0 left u lt) r p w is
        ∙ contents-base (base_in t1.mods) (base_in v.tables.mods) p (cells p) (before r walked)

    moment-end : Walked code inputs start v now.blocks now.placed.kept walked (next-end ∷ last-part) all-nodes honest-then (Takes around-it.below ∷ around-it.waits) (around-it.read ∷ around-it.reads)
    moment-end = walk code inputs start v now.blocks now.placed.kept walked (next-end ∷ last-part) all-nodes honest-then (walks-all around-it.inside)
        (through now.placed.done now.placed.last) refl now.placed.opened now.placed.began moment-at

    known-then : (q : Place) → KnownBlock (length inputs) (known_after [] (forest_of (through walked (entry until.0 (End (stamp_of_number around-it.read)) 0)))) q.block
        → KnownBlock (length inputs) (known_after [] (forest_of walked)) q.block
    known-then q c = subst (λ bs. KnownBlock (length inputs) bs q.block)
        (ap (known_after []) (forest-put walked until.0 (End (stamp_of_number around-it.read))) ∙ known-append [] (forest_of walked) (item.End ∷ [])) c

    -- all are in front with the end, and the units below run with what is after it
    pub now-passed : RunningNow code inputs start around-it.below (record { tables = t; heap = v.heap; spent = v.spent; cursor = until.0; limit = Some around-it.next; frames = around-it.frames })
    now-passed = record {
      reads = around-it.reads;
      left = around-it.behind;
      waits = around-it.waits;
      tail = around-it.rest;
      placed = record {
        kept = kept;
        done = walked;
        last = entry until.0 (End (stamp_of_number around-it.read)) 0;
        nodes = nodes-then;
        cursor = refl;
        late = late-then;
        opened = opened-put walked (around-it.read ∷ (around-it.reads ++ start.reads)) moment-end.opened (entry until.0 (End (stamp_of_number around-it.read)) 0)
            ∙ closed-last (stamp_of_number around-it.read) (around-it.reads ++ start.reads) until.0;
        began = began-put start walked (entry until.0 (End (stamp_of_number around-it.read)) 0) moment-end.began;
        unfinished = subst (λ fs. Unfinished fs t.trace.nodes) around-it.fs_are
            (unfinished-ends v.frames v.tables.trace.nodes t.trace.nodes
            (λ r. ap (end_in r) dropped ∙ (ends-changed until.0 (steps_set 0) (λ e. refl) r t1.trace.nodes (λ e. refl) ∙ ap (λ (l : Timeline). end_in r l.nodes) seen)) now.placed.unfinished);
      };
      tails = around-it.tails;
      bare = λ none. absurd (cc);
      bounds = now.bounds;
      blocks = blocks-steps code inputs v.heap t1 t (blocks-as code inputs v.heap v.tables t1 seen cells now.blocks) until.0 0 dropped mods;
      course = course-bare code inputs start v walked (forest_of walked) (λ s. fixing_at s (Takes around-it.below ∷ around-it.waits) (forest_of (next-end ∷ last-part))) moment-end.course
          (record { tables = t; heap = v.heap; spent = v.spent; cursor = until.0; limit = Some around-it.next; frames = around-it.frames })
          (through walked (entry until.0 (End (stamp_of_number around-it.read)) 0)) (forest_of (through walked (entry until.0 (End (stamp_of_number around-it.read)) 0)))
          (λ s. running_at s around-it.below around-it.waits (forest_of last-part))
          (item.End ∷ []) moment-end.course.store
          (running_at (state_at code inputs v moment-end.course.store (start.chosen ++ moment-end.course.made)) around-it.below around-it.waits (ticks around-it.steps ++ forest_of last-part))
          (forest-put walked until.0 (End (stamp_of_number around-it.read)))
          (λ names. end-turn code names (state_at code inputs v moment-end.course.store (start.chosen ++ moment-end.course.made)) around-it.below around-it.waits
          (ticks around-it.steps ++ forest_of last-part)) refl
          (bare-ticks code (state_at code inputs v moment-end.course.store (start.chosen ++ moment-end.course.made)) around-it.below around-it.waits around-it.steps (forest_of last-part))
          (λ q c. moment-end.course.same q (known-then q c)
          ∙ (contents-base (base_in v.tables.mods) (base_in t.mods) q (sym (bases-then q)) walked
          ∙ sym (ap (λ (f : Store). f q) (contents-put (base_in t.mods) walked until.0 (End (stamp_of_number around-it.read))))))
          moment-end.course.given;
    }
