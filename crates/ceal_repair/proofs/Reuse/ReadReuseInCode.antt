-- A read that is taken, in code.
use Rattle.std.proofs.Common.{◌≡◌, ℕ, inl, ◌+◌, Option, Some, None, List, [], ◌∷◌, ◌++◌, refl, sym, ap, ap₂, subst, ◌∙◌}
use Rattle.std.specs.Prelude.{option_map}
use Rattle.ceal_base.specs.Block.{Block}
use Rattle.ceal_base.specs.declared.forest.UnitId.{UnitId}
use Rattle.ceal_base.specs.declared.word.Place.{Place}
use Rattle.ceal_base.specs.declared.word.Word.{Word}
use Rattle.ceal_code.specs.Program.{Code}
use Rattle.ceal_code.specs.Step.{Stack}
use Rattle.ceal_heap.specs.Heap.{Contents, block_of, next}
use Rattle.ceal_memo.specs.declared.key.ReadKey.{ReadKey}
use Rattle.ceal_order.specs.Stamps.{head_of}
use Rattle.ceal_order.specs.declared.stamp.Stamp.{Stamp}
use Rattle.ceal_repair.proofs.Revocation.FirstNode.{queued-from}
use Rattle.ceal_repair.proofs.Nodes.NodeItems.{more}
use Rattle.ceal_repair.proofs.Reuse.LeftOver.{first-left}
use Rattle.ceal_repair.proofs.Reuse.AllocReuseInCode.{cut-first, CutsThere}
use Rattle.ceal_repair.proofs.Runs.UnitSteps.{step-nodes, step-late}
use Rattle.ceal_repair.proofs.Reuse.ReadMatch.{first-starts, none-read}
use Rattle.ceal_repair.proofs.Reuse.ReadReuse.{CutDone}
use Rattle.ceal_repair.proofs.Reuse.AllocReuse.{bound-now, left-is}
use Rattle.ceal_repair.proofs.Runs.RepairView.{IsStepped, cursor-kept, stepped-view}
use Rattle.ceal_repair.specs.Blocks.{HasBlocks, KeepsReadable}
use Rattle.ceal_repair.specs.Entries.{stamp_of_number, entries, CutTo, IsUntil, Lies}
use Rattle.ceal_repair.specs.Moment.{View, Start, PassingNow, through}
use Rattle.ceal_repair.specs.Frames.{Frame}
use Rattle.ceal_mods.specs.Mods.{Contents as Mods}
use Rattle.ceal_repair.specs.Kept.{Records}
use Rattle.ceal_trace.specs.declared.node.Node.TheVariants.{Read}
use Rattle.ceal_trace.specs.declared.node.Node.{Node}
use Rattle.ceal_repair.specs.Repairs.{code_of, inputs_of, view, RunsAt, left_nodes}
use Rattle.ceal_repair.specs.declared.repair.Repair.{Repair}
use Rattle.ceal_repair.specs.Kept.{Kept, QueuedFrom, base_in}
use Rattle.ceal_repair.specs.Lists.{recalls, stamps_where}
use Rattle.ceal_repair.specs.declared.tables.Tables.{Tables}
use Rattle.ceal_theory.proofs.Reuse.TakenAfterRevocation.{taking-law}
use Rattle.ceal_theory.specs.Groves.{Grove}
use Rattle.ceal_theory.specs.Levels.{first, levels}
use Rattle.ceal_theory.specs.Take.{take_read}
use Rattle.ceal_trace.specs.Items.{forest_of}

module _ (old new : Repair) (h : IsStepped old new) (start : Start) (st : Stack) (now : RunsAt start st old) (p : Place) (u : UnitId) (x : ℕ) (args : List Word) (found : Stamp)
    (matches : head_of (stamps_where (recalls (record { place = p; unit = u; var = x; args = args })) (left_nodes old)) ≡ Some found.0) where
  lies-stepped : Lies old.cursor.0 (through now.placed.done (more now.placed.last)) now.left now.tail new.running.now.tables
  lies-stepped = record {
    done = now.placed.done;
    last = more now.placed.last;
    ends = refl;
    is_at = now.placed.cursor;
    nodes = step-nodes start (view old) now.reads (entries now.left ++ now.tail) now.placed new.running.now.tables h.more;
    late = step-late start (view old) now.reads (entries now.left ++ now.tail) now.placed new.running.now.tables h.more;
  }

  pub reads-left : head_of (stamps_where (recalls (record { place = p; unit = u; var = x; args = args })) (entries now.left)) ≡ Some found.0
  reads-left =
      subst (λ es. head_of (stamps_where (recalls (record { place = p; unit = u; var = x; args = args })) es) ≡ Some found.0) (left-is (code_of old) (inputs_of old) start st (view old) now) matches

  pub until-read : IsUntil found.0 now.left now.tail
  until-read = inl (first-starts (recalls (record { place = p; unit = u; var = x; args = args })) (λ r. refl) found.0 now.left reads-left)

  module _ (t2 : Tables) (kept : Kept t2) (there : CutsThere new.cursor.0 found.0 new.running.now.tables t2) where
    pub cut-read : (rest : Grove) × CutTo found.0 now.left rest × Lies old.cursor.0 (through now.placed.done (more now.placed.last)) rest now.tail t2
    cut-read = (subst (λ k. CutsThere k found.0 new.running.now.tables t2) (cursor-kept old new h) there) (through now.placed.done (more now.placed.last)) now.left now.tail lies-stepped
        (first-starts (recalls (record { place = p; unit = u; var = x; args = args })) (λ r. refl) found.0 now.left reads-left)

    pub read-first : QueuedFrom found.0 t2
    read-first = queued-from old.cursor.0 found.0 (through now.placed.done (more now.placed.last)) cut-read.0 now.tail t2 kept cut-read.2 (cut-first cut-read.1)

    pub cut-done : (heap : Contents) → ((q : Place) → base_in t2.mods q ≡ base_in new.running.now.tables.mods q) → KeepsReadable new.running.now.heap heap
        → ((code : Code) (inputs : List Block) → HasBlocks code inputs new.running.now.heap new.running.now.tables → HasBlocks code inputs heap t2)
        → CutDone (code_of old) (inputs_of old) old.cursor.0 found.0 (through now.placed.done (more now.placed.last)) now.left cut-read.0 now.tail old.running.now.heap heap new.running.now.tables t2
    cut-done heap bases blocks has = record {
      cuts = cut-read.1;
      lies = cut-read.2;
      bases = bases;
      blocks = record { blocks = λ b. blocks.blocks b ∙ ap (λ z. block_of z b) h.heap; numbers = blocks.numbers ∙ ap (λ (z : Contents). next z) h.heap };
      has = λ k. has (code_of old) (inputs_of old) (subst (λ z. HasBlocks (code_of old) (inputs_of old) z new.running.now.tables) (sym h.heap) k);
      kept = kept;
    }

-- nothing is taken where no read that is left over has the key
pub none-entered : (r : Repair) (start : Start) (st : Stack) (now : RunsAt start st r) (key : ReadKey) → head_of (stamps_where (recalls key) (left_nodes r)) ≡ None
    → take_read key.place key.unit key.var key.args (first (levels (forest_of (entries now.left ++ now.tail)))) ≡ None
none-entered r start st now key h =
    ap (take_read key.place key.unit key.var key.args) (first-left now.left (view r).limit now.tail (bound-now (code_of r) (inputs_of r) start st (view r) now))
    ∙ none-read taking-law key now.left
    (none-first (stamps_where (recalls key) (entries now.left)) (subst (λ es. head_of (stamps_where (recalls key) es) ≡ None) (left-is (code_of r) (inputs_of r) start st (view r) now) h))
  where
    none-first : (xs : List ℕ) → head_of xs ≡ None → xs ≡ []
    none-first [] e = refl
    none-first (x ∷ xs) e = absurd (cc)

-- the view of a read that was entered
pub entered-view : (old new : Repair) → IsStepped old new → (t : Tables) (heap : Contents) (n s : ℕ) (o o' : Option Stamp) (f : Frame) (fs : List Frame) → n ≡ new.running.now.spent → o ≡ o'
    → fs ≡ f ∷ (view new).frames
    → ◌≡◌ {A = View} (record { tables = t; heap = heap; spent = n; cursor = s; limit = o; frames = fs })
    (record { tables = t; heap = heap; spent = (view old).spent + 1; cursor = s; limit = o'; frames = f ∷ (view old).frames })
entered-view old new h t heap n s o o' f fs e k is =
    ap₂ (λ (l : Option Stamp) (gs : List Frame). record { tables = t; heap = heap; spent = n; cursor = s; limit = l; frames = gs }) k is
    ∙ (ap (λ (m : ℕ). record { tables = t; heap = heap; spent = m; cursor = s; limit = o'; frames = f ∷ (view new).frames }) e
    ∙ ap (λ (w : View). record { tables = t; heap = heap; spent = w.spent; cursor = s; limit = o'; frames = f ∷ w.frames }) (stepped-view old new h))

pub passes-as : (code : Code) (inputs : List Block) (start : Start) (until : Stamp) (v : View) (r : Repair) → PassingNow code inputs start until v
    → code_of r ≡ code → inputs_of r ≡ inputs → view r ≡ v → PassingNow (code_of r) (inputs_of r) start until (view r)
passes-as code inputs start until v r now c i w =
    subst (λ code. PassingNow code (inputs_of r) start until (view r)) (sym c)
    (subst (λ inputs. PassingNow code inputs start until (view r)) (sym i)
    (subst (λ v. PassingNow code inputs start until v) (sym w) now))

pub limit-is : (o : Option Stamp) (e : ℕ) → option_map (λ s. s.0) o ≡ Some e → o ≡ Some (stamp_of_number e)
limit-is None e h = absurd (cc)
limit-is (Some s) e h = let same : s.0 ≡ e = cc in ap (λ k. Some (stamp_of_number k)) same

-- the place that a record of a read names
pub same-place : (n : Option Node) (p q : Place) (v w : Word) (u : UnitId) (x : ℕ) (args : List Word) → n ≡ Some (Read p v u x args) → Records q w n → q ≡ p
same-place n p q v w u x args e r = let both : Some (Read p v u x args) ≡ Some (Read q w r.unit r.var r.args) = sym e ∙ r.is in let same : p ≡ q = cc in sym same

pub same-value : (n : Option Node) (p q : Place) (v w : Word) (u : UnitId) (x : ℕ) (args : List Word) → n ≡ Some (Read p v u x args) → Records q w n → w ≡ v
same-value n p q v w u x args e r = let both : Some (Read p v u x args) ≡ Some (Read q w r.unit r.var r.args) = sym e ∙ r.is in let same : v ≡ w = cc in sym same

-- what places hold before any write is only in the cells
pub bases-cells : (a b : Mods) → a.cells ≡ b.cells → (q : Place) → base_in a q ≡ base_in b q
bases-cells a b e q = rw e refl
