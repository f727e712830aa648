-- Reads that get another value in a repair are apart in the traces.
use Rattle.std.proofs.Common.{◌≡◌, ◌≢◌, ℕ, zero, suc, ◌+◌, ◌≤◌, Bool, true, false, Option, Some, List, [], ◌∷◌, ◌++◌, refl, ap, ap₂, ◌∙◌, subst, arith}
use Rattle.ceal_base.specs.Block.{Block}
use Rattle.ceal_base.specs.Operators.{same_word}
use Rattle.ceal_base.specs.Trace.{Trace, Nothing, Stepped, Allocated, Wrote, WasRead, flat, trace_then}
use Rattle.ceal_base.specs.declared.call.Call.{Call}
use Rattle.ceal_base.specs.declared.forest.Item.{Item}
use Rattle.ceal_base.specs.declared.forest.Item.TheVariants as item
use Rattle.ceal_base.specs.declared.forest.UnitId.{UnitId}
use Rattle.ceal_base.specs.declared.word.Place.{Place}
use Rattle.ceal_base.specs.declared.word.Word.{Word}
use Rattle.ceal_code.proofs.Words.SameIsEqual.{none-some, some-same, word-refl, word-same}
use Rattle.ceal_code.specs.Program.{Code}
use Rattle.ceal_engine.proofs.Carrying.{same-as}
use Rattle.ceal_engine.specs.Apart.{reads_apart, reads_inside, RevaluesApart}
use Rattle.ceal_engine.specs.Cost.{nodes_of}
use Rattle.ceal_engine.specs.Engine.{EngineState}
use Rattle.ceal_engine.specs.Keeping.{running_in, state_of, timeline_in}
use Rattle.ceal_engine.specs.Runs.{opened}
use Rattle.ceal_engine.specs.declared.run.Run.{Run}
use Rattle.ceal_engine.specs.declared.run.Run.TheVariants as its
use Rattle.ceal_engine.specs.declared.run.Stage.{Stage}
use Rattle.ceal_order.specs.Stamps.{Distinct}
use Rattle.ceal_repair.proofs.Nodes.AroundRead.{spot-items}
use Rattle.ceal_repair.proofs.Propagation.Departing.{departs-same, reads-stepped, revalued-apart}
use Rattle.ceal_repair.specs.Departs.{Departs, DepartsSo}
use Rattle.ceal_repair.specs.Distance.{revalued_reads}
use Rattle.ceal_repair.specs.Entries.{entry, end_entry, entries}
use Rattle.ceal_repair.specs.Turning.{ReadAt}
use Rattle.ceal_repair.specs.declared.running.Running.{Running}
use Rattle.ceal_repair.specs.declared.tables.Tables.{Tables}
use Rattle.ceal_theory.proofs.MoveMachine.MachineLaws.{flat-levels-law}
use Rattle.ceal_theory.specs.Counts.{reads_of}
use Rattle.ceal_theory.specs.Groves.{Grove, stepped, trace_in}
use Rattle.ceal_theory.specs.Levels.{first, around, levels}
use Rattle.ceal_trace.specs.Items.{ticks, item_of, forest_of}
use Rattle.ceal_trace.specs.Nodes.{Entry, stamps_in}
use Rattle.ceal_trace.specs.declared.node.Node.{Node}
use Rattle.ceal_trace.specs.declared.node.Node.TheVariants.{Root, Alloc, Write, Read, End}

-- ---- levels beside levels

-- the reads that are apart in all of them
abbrev all-apart : List Trace → List Trace → ℕ
all-apart [] us = 0
all-apart (t ∷ ts) us = reads_apart t (first us) + all-apart ts (around us)

split : (ts us : List Trace) → all-apart ts us ≤ reads_apart (first ts) (first us) + all-apart (around ts) (around us)
split [] us = omega arith
split (t ∷ ts) us = omega arith

module _ (p q : Place) (v w : Word) (u u' : UnitId) (x x' : ℕ) (args args' : List Word) (i j l m : Trace) where
  read-apart : (b : Bool) → same_word v w ≡ b → reads_apart (WasRead p v u x args i l) (WasRead q w u' x' args' j m) ≡ reads_inside b (reads_apart i j) j + reads_apart l m
  unfolding reads_apart
  read-apart b e = rw e refl

ticks-apart : (n : ℕ) (is js : List Item) → all-apart (levels is) (levels js) ≤ all-apart (levels (ticks n ++ is)) (levels (ticks n ++ js))
unfolding reads_apart
ticks-apart zero is js = omega arith
ticks-apart (suc n) is js = omega (arith, ticks-apart n is js, split (levels (ticks n ++ is)) (levels (ticks n ++ js)))

item-apart : (node : Node) (is js : List Item) → all-apart (levels is) (levels js) ≤ all-apart (levels (item_of node ++ is)) (levels (item_of node ++ js))
unfolding reads_apart
item-apart Root is js = omega arith
item-apart (Alloc b key) is js = split (levels is) (levels js)
item-apart (Write p v) is js = split (levels is) (levels js)
item-apart (Read p v u x args) is js =
    let one = split (levels is) (levels js) in
    let two = split (around (levels is)) (around (levels js)) in
    let both = read-apart p p v v u u x x args args (first (levels is)) (first (levels js)) (first (around (levels is))) (first (around (levels js))) true (word-refl v) in
    omega (arith, one, two, both)
item-apart (End r) is js = omega arith

-- ---- a read with what is inside it

reads-ended : (l : Trace) → reads_of (trace_then l Nothing) ≡ reads_of l
reads-ended Nothing = refl
reads-ended (Stepped l) = reads-ended l
reads-ended (Allocated b key l) = reads-ended l
reads-ended (Wrote p v l) = reads-ended l
reads-ended (WasRead p v u x args i l) = omega (arith, reads-ended l)

read-levels : (p : Place) (v : Word) (u : UnitId) (x : ℕ) (args : List Word) (f : Trace) (is : List Item)
    → levels (item.Read p v u x args ∷ (flat f ++ item.End ∷ is)) ≡ WasRead p v u x args (trace_then f Nothing) (first (levels is)) ∷ around (levels is)
read-levels p v u x args f is = let l = flat-levels-law f (item.End ∷ is) in rw (l.0, l.1) refl

other-word : (v w : Word) → v ≢ w → same_word v w ≡ false
other-word v w n = go (same_word v w) refl
  where
    go : (b : Bool) → same_word v w ≡ b → same_word v w ≡ false
    go true e = absurd (n (word-same v w e))
    go false e = e

module _ (read : ℕ) (p : Place) (v : Word) (u : UnitId) (x : ℕ) (args : List Word) (steps : ℕ) (inside : Grove) (end after : ℕ) (es : List Entry) where
  abbrev whole : List Entry
  whole = entry read (Read p v u x args) steps ∷ (entries inside ++ end_entry end read after ∷ es)

  abbrev spot : ReadAt whole
  spot = record {
    before = [];
    read = read;
    place = p;
    value = v;
    unit = u;
    var = x;
    args = args;
    steps = steps;
    inside = inside;
    end = end;
    end_steps = after;
    behind = es;
    whole = refl;
  }

  spot-levels : levels (forest_of whole)
      ≡ WasRead p v u x args (trace_then (stepped steps (trace_in inside)) Nothing) (first (levels (ticks after ++ forest_of es))) ∷ around (levels (ticks after ++ forest_of es))
  spot-levels = ap levels (spot-items spot) ∙ read-levels p v u x args (stepped steps (trace_in inside)) (ticks after ++ forest_of es)

-- ---- nodes that depart

departed : {old new : List Entry} {n : ℕ} → Departs old new n → n ≤ all-apart (levels (forest_of old)) (levels (forest_of new))
departed Departs.none = omega arith
departed (Departs.kept {e = e} {old = old} {new = new} d) =
    omega (arith, departed d, ticks-apart e.steps (forest_of old) (forest_of new), item-apart e.node (ticks e.steps ++ forest_of old) (ticks e.steps ++ forest_of new))
departed (Departs.apart {old = old} {new = new} read p v w u x args steps more was is end after differs d) =
    let xs : List Trace = levels (ticks after ++ forest_of old) in
    let ys : List Trace = levels (ticks after ++ forest_of new) in
    let f : Trace = trace_then (stepped steps (trace_in was)) Nothing in
    let g : Trace = trace_then (stepped more (trace_in is)) Nothing in
    let both = ap₂ all-apart (spot-levels read p v u x args steps was end after old) (spot-levels read p w u x args more is end after new) in
    let here = read-apart p p v w u u x x args args f g (first xs) (first ys) false (other-word v w differs) in
    let few = reads-ended (stepped more (trace_in is)) in
    let same = reads-stepped more (trace_in is) in
    omega (arith, both, here, few, same, departed d, ticks-apart after (forest_of old) (forest_of new), split xs ys)

flat-first : (is : List Item) (l : Trace) → is ≡ flat l → (first (levels is) ≡ l) × (around (levels is) ≡ [])
flat-first is l e = let k = flat-levels-law l [] in (ap (λ (js : List Item). first (levels js)) e ∙ k.2, ap (λ (js : List Item). around (levels js)) e ∙ k.3)

nodes-apart : (old new : List Entry) → Distinct (stamps_in old) → DepartsSo old new → (l m : Trace) → forest_of old ≡ flat l → forest_of new ≡ flat m → revalued_reads old new ≤ reads_apart l m
nodes-apart old new distinct d l m e f =
    let ts : List Trace = levels (forest_of old) in
    let us : List Trace = levels (forest_of new) in
    let a = flat-first (forest_of old) l e in
    let b = flat-first (forest_of new) m f in
    let one = revalued-apart old new d.0 distinct d.1 in
    let two = departed d.1 in
    let three = split ts us in
    let here : reads_apart (first ts) (first us) ≡ reads_apart l m = ap₂ reads_apart a.0 b.0 in
    let none : all-apart (around ts) (around us) ≡ 0 = ap (λ (rs : List Trace). all-apart rs (around us)) a.1 in
    omega (arith, one, two, three, here, none)

-- ---- an engine

module _ (code : Code) (fuel : ℕ) (inputs : List Block) (call : Option Call) where
  pub apart-repair : (before : Run) (run run' : Running) → opened before ≡ Some run → Distinct (stamps_in (nodes_of (timeline_in (running_in before))))
      → DepartsSo run.tables.trace.nodes run'.tables.trace.nodes
      → (after : Stage) → RevaluesApart (state_of code fuel inputs call before) (state_of code fuel inputs call (its.Kept run' after))
  apart-repair its.New run run' is distinct d after = none-some run is
  apart-repair (its.Kept before g) run run' is distinct d after = λ l m e f.
      let s = same-as g before run is in
      nodes-apart before.tables.trace.nodes run'.tables.trace.nodes distinct (subst (λ (t : Tables). DepartsSo t.trace.nodes run'.tables.trace.nodes) s.tables d) l m
      (some-same (forest_of before.tables.trace.nodes) (flat l) e) (some-same (forest_of run'.tables.trace.nodes) (flat m) f)
  apart-repair its.Dropped run run' is distinct d after = none-some run is

-- where nothing needs to be done
pub apart-idle : (e : EngineState) → Distinct (stamps_in (nodes_of e.timeline)) → RevaluesApart e (record e { work = 0 })
apart-idle e d = λ l m a b. let n = revalued-apart (nodes_of e.timeline) (nodes_of e.timeline) 0 d (departs-same (nodes_of e.timeline)) in omega (arith, n)
