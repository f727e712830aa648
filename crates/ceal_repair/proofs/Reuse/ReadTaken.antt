-- A read that is taken, in code: what stood before it was revoked, and the units below wait.
use Rattle.std.proofs.Common.{◌≡◌, ◌≢◌, ℕ, ◌+◌, Some, List, ◌∷◌, refl, sym, ap, ◌∙◌}
use Rattle.ceal_base.specs.Block.{Block}
use Rattle.ceal_base.specs.declared.word.Place.{Place}
use Rattle.ceal_base.specs.declared.word.Word.{Word}
use Rattle.ceal_code.specs.Program.{Code}
use Rattle.ceal_code.specs.Stacks.{stack_in}
use Rattle.ceal_code.specs.Step.{Stack, Reads, next}
use Rattle.ceal_code.specs.declared.stack.Closure.{Closure}
use Rattle.ceal_code.specs.declared.step.Act.TheVariants as does
use Rattle.ceal_order.specs.Stamps.{head_of}
use Rattle.ceal_order.specs.declared.stamp.Stamp.{Stamp}
use Rattle.ceal_repair.proofs.Nodes.NodeItems.{more}
use Rattle.ceal_repair.proofs.Reuse.AllocReuseInCode.{CutsThere}
use Rattle.ceal_repair.proofs.Reuse.ReadMatch.{MatchRead}
use Rattle.ceal_repair.proofs.Reuse.ReadReuse.{CutDone, the-match, node-there, node-then, end-then, end-same, now-retake, now-enter}
use Rattle.ceal_repair.proofs.Reuse.ReadReuseInCode.{reads-left, cut-read, cut-done, read-first, same-place, same-value, bases-cells}
use Rattle.ceal_repair.proofs.Runs.RepairView.{IsStepped}
use Rattle.ceal_repair.proofs.Runs.UnitSteps.{StepMore}
use Rattle.ceal_repair.specs.Blocks.{HasBlocks, KeepsReadable}
use Rattle.ceal_repair.specs.Entries.{stamp_of_number, entries, CutTo, Lies}
use Rattle.ceal_repair.specs.Kept.{Kept, IsStale, IsHonestRecord, Records, QueuedFrom, QueuedAfter, base_in, contents_at}
use Rattle.ceal_repair.specs.Lists.{recalls, stamps_where}
use Rattle.ceal_repair.specs.Moment.{Start, RunningNow, PassingNow, through}
use Rattle.ceal_repair.specs.Reads.{key_in}
use Rattle.ceal_repair.specs.Repairs.{code_of, inputs_of, view, Acts, left_nodes}
use Rattle.ceal_repair.specs.Words.{words_of}
use Rattle.ceal_repair.specs.Frames.{Taken}
use Rattle.ceal_repair.specs.declared.repair.Repair.{Repair}
use Rattle.ceal_repair.specs.declared.running.Running.{Running}
use Rattle.ceal_repair.specs.declared.tables.Tables.{Tables}
use Rattle.ceal_theory.specs.Groves.{Grove}
use Rattle.ceal_theory.specs.Repair.{resumed}
use Rattle.ceal_trace.specs.Nodes.{end_in, node_at, with_steps, with_value}
use Rattle.ceal_trace.specs.declared.node.Node.TheVariants.{Read}

-- a step was counted, what stood before the read was revoked, and the units below were set aside
pub record IsCut (old new : Repair) (closure : Closure) (found : Stamp) (run : Running) (below : Stack) : Type 0 where
  pub stepped : IsStepped old new
  pub matches : head_of (stamps_where (recalls (key_in closure)) (left_nodes old)) ≡ Some found.0
  pub there : CutsThere new.cursor.0 found.0 new.running.now.tables run.tables
  pub bases : (p : Place) → base_in run.tables.mods p ≡ base_in new.running.now.tables.mods p
  pub blocks : KeepsReadable new.running.now.heap run.heap
  pub has : (code : Code) (inputs : List Block) → HasBlocks code inputs new.running.now.heap new.running.now.tables → HasBlocks code inputs run.heap run.tables
  pub kept : Kept run.tables
  pub aside : stack_in old.stack.now ≡ below

-- the step that is counted first, by what the contract of `step` says
pub step-taken : {old new : Repair} → new ≡ record old { running = new.running } → new.running.now.heap ≡ old.running.now.heap
    → new.running.now.spent ≡ old.running.now.spent + 1 → StepMore old.cursor.0 old.running.now.tables new.running.now.tables → IsStepped old new
step-taken rest heap spent more = record { rest = rest; heap = heap; spent = spent; more = more }

-- what stood before the read, by what the contracts of `cut_until` and `set_aside` say
pub cut-before : {old new : Repair} {closure : Closure} {found : Stamp} {run : Running} {below : Stack} → IsStepped old new
    → head_of (stamps_where (recalls (key_in closure)) (left_nodes old)) ≡ Some found.0
    → CutsThere new.cursor.0 found.0 new.running.now.tables run.tables
    → ((p : Place) → base_in run.tables.mods p ≡ base_in new.running.now.tables.mods p) → KeepsReadable new.running.now.heap run.heap
    → ((code : Code) (inputs : List Block) → HasBlocks code inputs new.running.now.heap new.running.now.tables → HasBlocks code inputs run.heap run.tables)
    → Kept run.tables → below ≡ stack_in new.stack.now → IsCut old new closure found run below
cut-before h matches there bases blocks has kept aside = record {
  stepped = h;
  matches = matches;
  there = there;
  bases = bases;
  blocks = blocks;
  has = has;
  kept = kept;
  aside = sym (aside ∙ ap (λ (r : Repair). stack_in r.stack.now) h.rest);
}

-- then it had another value, has the one of its moment, and its steps are dropped
pub record IsRenewed (found : ℕ) (before seen after : Tables) : Type 0 where
  pub stale : IsStale found before
  pub value : (p : Place) × (v : Word) × Records p v (node_at found before.trace.nodes) × (seen.trace.nodes ≡ with_value found (contents_at found before p) before.trace.nodes)
  pub cells : seen.mods.cells ≡ before.mods.cells
  pub late : QueuedAfter found seen
  pub nodes : after.trace.nodes ≡ with_steps found 0 seen.trace.nodes
  pub mods : after.mods ≡ seen.mods
  pub queue : after.stale ≡ seen.stale
  pub kept : Kept after

-- or it has the value of its moment
pub record IsHonestHere (found : ℕ) (before seen : Tables) : Type 0 where
  pub honest : IsHonestRecord found before
  pub same : seen.trace ≡ before.trace
  pub cells : seen.mods.cells ≡ before.mods.cells
  pub late : QueuedAfter found seen
  pub kept : Kept seen

module _ (old new : Repair) (closure : Closure) (found : Stamp) (run : Running) (below : Stack) (cut : IsCut old new closure found run below) (start : Start)
    (a : Acts start (does.Reads closure) old) where
  abbrev pub lies : (rest : Grove) × CutTo found.0 a.now.left rest × Lies old.cursor.0 (through a.now.placed.done (more a.now.placed.last)) rest a.now.tail run.tables
  lies = cut-read old new cut.stepped start a.stack a.now closure.place closure.unit closure.var closure.args found cut.matches run.tables cut.kept cut.there

  pub done : CutDone (code_of old) (inputs_of old) old.cursor.0 found.0
      (through a.now.placed.done (more a.now.placed.last)) a.now.left lies.0 a.now.tail old.running.now.heap run.heap new.running.now.tables run.tables
  done = cut-done old new cut.stepped start a.stack a.now closure.place closure.unit closure.var closure.args found cut.matches run.tables cut.kept cut.there run.heap cut.bases cut.blocks cut.has

  pub reads : next (code_of old) (words_of (code_of old) (inputs_of old) old.running.now.heap) a.stack ≡ Reads closure.place closure.unit closure.var closure.args below
  reads = a.does ∙ ap (λ (s : Stack). Reads closure.place closure.unit closure.var closure.args s) cut.aside

  pub left : head_of (stamps_where (recalls (key_in closure)) (entries a.now.left)) ≡ Some found.0
  left = reads-left old new cut.stepped start a.stack a.now closure.place closure.unit closure.var closure.args found cut.matches

  -- the read, as it was found
  abbrev pub taken : MatchRead closure.place closure.unit closure.var closure.args found.0 a.now.left lies.0
  taken = the-match (code_of old) (inputs_of old) start a.stack
      (view old) a.now closure.place closure.unit closure.var closure.args below found run.heap new.running.now.tables run.tables lies.0 reads cut.stepped.more done left

  pub is-there : node_at found.0 run.tables.trace.nodes ≡ Some (Read closure.place taken.value closure.unit closure.var closure.args)
  is-there = node-there (code_of old) (inputs_of old) start a.stack
      (view old) a.now closure.place closure.unit closure.var closure.args below found run.heap new.running.now.tables run.tables lies.0 reads cut.stepped.more done left

  pub comes-first : QueuedFrom found.0 run.tables
  comes-first = read-first old new cut.stepped start a.stack a.now closure.place closure.unit closure.var closure.args found cut.matches run.tables cut.kept cut.there

  module _ (seen t : Tables) (renewed : IsRenewed found.0 run.tables seen t) where
    abbrev word : Word
    word = contents_at found.0 run.tables closure.place

    valued : seen.trace.nodes ≡ with_value found.0 word run.tables.trace.nodes
    valued = renewed.value.3
        ∙ ap (λ o. with_value found.0 (contents_at found.0 run.tables o) run.tables.trace.nodes)
        (same-place (node_at found.0 run.tables.trace.nodes) closure.place renewed.value.0 taken.value renewed.value.1 closure.unit closure.var closure.args is-there renewed.value.2)

    differs : taken.value ≢ word
    differs = λ e.
        let s = renewed.stale in
        let place = same-place (node_at found.0 run.tables.trace.nodes) closure.place s.place taken.value s.value closure.unit closure.var closure.args is-there s.read in
        let value = same-value (node_at found.0 run.tables.trace.nodes) closure.place s.place taken.value s.value closure.unit closure.var closure.args is-there s.read in
        s.differs (value ∙ (e ∙ ap (λ o. contents_at found.0 run.tables o) (sym place)))

    pub records-now : node_at found.0 t.trace.nodes ≡ Some (Read closure.place word closure.unit closure.var closure.args)
    records-now = node-then (code_of old) (inputs_of old) start a.stack
        (view old) a.now closure.place closure.unit closure.var closure.args below found run.heap new.running.now.tables run.tables lies.0 reads cut.stepped.more done left
        word seen t valued refl differs (bases-cells seen.mods run.tables.mods renewed.cells) renewed.late renewed.nodes renewed.mods renewed.queue renewed.kept

    pub end-renewed : end_in found.0 t.trace.nodes ≡ Some taken.end
    end-renewed = end-then (code_of old) (inputs_of old) start a.stack
        (view old) a.now closure.place closure.unit closure.var closure.args below found run.heap new.running.now.tables run.tables lies.0 reads cut.stepped.more done left
        word seen t valued refl differs (bases-cells seen.mods run.tables.mods renewed.cells) renewed.late renewed.nodes renewed.mods renewed.queue renewed.kept

    pub retakes : (until : Stamp) → old.limit ≡ Some until
        → RunningNow (code_of old) (inputs_of old) start (resumed (code_of old) closure.unit closure.var closure.args word)
        (record { tables = t; heap = run.heap; spent = (view old).spent + 1; cursor = found.0; limit = Some (stamp_of_number taken.end); frames = Taken below until ∷ (view old).frames })
    retakes = now-retake (code_of old) (inputs_of old) start a.stack
        (view old) a.now closure.place closure.unit closure.var closure.args below found run.heap new.running.now.tables run.tables lies.0 reads cut.stepped.more done left
        word seen t valued refl differs (bases-cells seen.mods run.tables.mods renewed.cells) renewed.late renewed.nodes renewed.mods renewed.queue renewed.kept

  module _ (seen : Tables) (h : IsHonestHere found.0 run.tables seen) where
    right : taken.value ≡ contents_at found.0 run.tables closure.place
    right = h.honest closure.place taken.value (record { unit = closure.unit; var = closure.var; args = closure.args; is = is-there })

    pub end-honest : end_in found.0 seen.trace.nodes ≡ Some taken.end
    end-honest = end-same (code_of old) (inputs_of old) start a.stack
        (view old) a.now closure.place closure.unit closure.var closure.args below found run.heap new.running.now.tables run.tables lies.0 reads cut.stepped.more done left
        seen h.same right (bases-cells seen.mods run.tables.mods h.cells) h.late h.kept

    pub enters : (until : Stamp) → old.limit ≡ Some until
        → PassingNow (code_of old) (inputs_of old) start (stamp_of_number taken.end)
        (record { tables = seen; heap = run.heap; spent = (view old).spent + 1; cursor = found.0; limit = Some (stamp_of_number taken.end); frames = Taken below until ∷ (view old).frames })
    enters = now-enter (code_of old) (inputs_of old) start a.stack
        (view old) a.now closure.place closure.unit closure.var closure.args below found run.heap new.running.now.tables run.tables lies.0 reads cut.stepped.more done left
        seen h.same right (bases-cells seen.mods run.tables.mods h.cells) h.late h.kept
