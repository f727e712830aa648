-- Nodes that nest are a forest.
use Rattle.std.proofs.Common.{◌≡◌, ℕ, zero, suc, inl, inr, ◌+◌, List, [], ◌∷◌, ◌++◌, length, append_assoc, refl, ap, ◌∙◌, arith, Some, None}
use Rattle.std.proofs.lemmas.Bool.Decides.{eqb_tells}
use Rattle.ceal_base.specs.declared.forest.Item.{Item}
use Rattle.ceal_base.specs.declared.forest.Item.TheVariants as item
use Rattle.ceal_base.specs.declared.forest.Key.{Key}
use Rattle.ceal_base.specs.declared.forest.UnitId.{UnitId}
use Rattle.ceal_base.specs.declared.word.BlockId.{BlockId}
use Rattle.ceal_base.specs.declared.word.Place.{Place}
use Rattle.ceal_base.specs.declared.word.Word.{Word}
use Rattle.ceal_base.specs.Trace.{Trace, Nothing, Stepped, Allocated, Wrote, WasRead, flat, steps_of}
use Rattle.ceal_trace.specs.declared.node.Node.{Node}
use Rattle.ceal_trace.specs.declared.node.Node.TheVariants.{Root, Alloc, Write, Read, End}
use Rattle.ceal_trace.specs.Nodes.{Entry, steps_sum}
use Rattle.ceal_trace.specs.Items.{ticks, forest_of, unclosed, unclosed_after, Nests}

-- this number of steps, and then a trace
abbrev ticked : ℕ → Trace → Trace
ticked zero t = t
ticked (suc n) t = Stepped (ticked n t)

flat-ticked : (n : ℕ) (t : Trace) → flat (ticked n t) ≡ ticks n ++ flat t
flat-ticked zero t = refl
flat-ticked (suc n) t = ap (λ (l : List Item). item.Step ∷ l) (flat-ticked n t)

steps-ticked : (n : ℕ) (t : Trace) → steps_of (ticked n t) ≡ n + steps_of t
steps-ticked zero t = omega arith
steps-ticked (suc n) t = let rest = steps-ticked n t in omega arith

-- traces one around the other, each closed but the last one
abbrev joined : Trace → List Trace → List Item
joined t [] = flat t
joined t (u ∷ us) = flat t ++ item.End ∷ joined u us

abbrev sum_of : Trace → List Trace → ℕ
sum_of t [] = steps_of t
sum_of t (u ∷ us) = steps_of t + sum_of u us

joined-ticked : (n : ℕ) (t : Trace) (ts : List Trace) → joined (ticked n t) ts ≡ ticks n ++ joined t ts
joined-ticked n t [] = flat-ticked n t
joined-ticked n t (u ∷ us) = ap (λ (l : List Item). l ++ item.End ∷ joined u us) (flat-ticked n t) ∙ append_assoc (ticks n) (flat t) (item.End ∷ joined u us)

sum-ticked : (n : ℕ) (t : Trace) (ts : List Trace) → sum_of (ticked n t) ts ≡ n + sum_of t ts
sum-ticked n t [] = steps-ticked n t
sum-ticked n t (u ∷ us) = let own = steps-ticked n t in omega arith

-- the traces that nodes stand for where this number of reads before them are not closed
record Levels (open_reads : ℕ) (es : List Entry) : Type 0 where
  inner : Trace
  outer : List Trace
  depth : length outer ≡ open_reads
  items : joined inner outer ≡ forest_of es
  steps : sum_of inner outer ≡ steps_sum es

-- an item in front of the innermost trace

joined-allocated : (block : BlockId) (key : Key) (t : Trace) (ts : List Trace) → joined (Allocated block key t) ts ≡ item.Alloc block key ∷ joined t ts
joined-allocated block key t [] = refl
joined-allocated block key t (u ∷ us) = refl

sum-allocated : (block : BlockId) (key : Key) (t : Trace) (ts : List Trace) → sum_of (Allocated block key t) ts ≡ sum_of t ts
sum-allocated block key t [] = refl
sum-allocated block key t (u ∷ us) = refl

joined-wrote : (place : Place) (value : Word) (t : Trace) (ts : List Trace) → joined (Wrote place value t) ts ≡ item.Write place value ∷ joined t ts
joined-wrote place value t [] = refl
joined-wrote place value t (u ∷ us) = refl

sum-wrote : (place : Place) (value : Word) (t : Trace) (ts : List Trace) → sum_of (Wrote place value t) ts ≡ sum_of t ts
sum-wrote place value t [] = refl
sum-wrote place value t (u ∷ us) = refl

module _ (place : Place) (value : Word) (unit : UnitId) (var : ℕ) (args : List Word) where
  joined-read : (t u : Trace) (us : List Trace) → joined (WasRead place value unit var args t u) us ≡ item.Read place value unit var args ∷ joined t (u ∷ us)
  joined-read t u [] = refl
  joined-read t u (w ∷ ws) = ap (λ (l : List Item). item.Read place value unit var args ∷ l) (append_assoc (flat t) (item.End ∷ flat u) (item.End ∷ joined w ws))

  sum-read : (t u : Trace) (us : List Trace) → sum_of (WasRead place value unit var args t u) us ≡ sum_of t (u ∷ us)
  sum-read t u [] = refl
  sum-read t u (w ∷ ws) = omega arith

-- the traces after a node's steps
module _ (k n : ℕ) (es : List Entry) where
  front_items : (l : Levels k es) → joined (ticked n l.inner) l.outer ≡ ticks n ++ forest_of es
  front_items l = joined-ticked n l.inner l.outer ∙ ap (λ (xs : List Item). ticks n ++ xs) l.items

  front_steps : (l : Levels k es) → sum_of (ticked n l.inner) l.outer ≡ n + steps_sum es
  front_steps l = let own = sum-ticked n l.inner l.outer in let rest = l.steps in omega arith

-- a read takes the innermost trace inside, and continues with the one around it
read_level : (s n k : ℕ) (place : Place) (value : Word) (unit : UnitId) (var : ℕ) (args : List Word) (es : List Entry) (inner : Trace) (outer : List Trace)
    → length outer ≡ suc k → joined inner outer ≡ forest_of es → sum_of inner outer ≡ steps_sum es
    → Levels k (record { stamp = s; node = Read place value unit var args; steps = n } ∷ es)
read_level s n k place value unit var args es inner [] depth items steps = absurd (omega (arith, depth))
read_level s n k place value unit var args es inner (u ∷ us) depth items steps =
    let t = ticked n inner in
    let l : Levels (suc k) es = record { inner = inner; outer = u ∷ us; depth = depth; items = items; steps = steps } in
    record {
      inner = WasRead place value unit var args t u;
      outer = us;
      depth = omega (arith, depth);
      items = joined-read place value unit var args t u us ∙ ap (λ (xs : List Item). item.Read place value unit var args ∷ xs) (front_items (suc k) n es l);
      steps = sum-read place value unit var args t u us ∙ front_steps (suc k) n es l;
    }

level_of : (node : Node) (s n : ℕ) (es : List Entry) (reads : List ℕ) → ((rs : List ℕ) → unclosed (Some rs) es ≡ Some [] → Levels (length rs) es)
    → unclosed (unclosed_after s node reads) es ≡ Some [] → Levels (length reads) (record { stamp = s; node = node; steps = n } ∷ es)
level_of Root s n es reads behind h =
    let l = behind reads h in
    record { inner = ticked n l.inner; outer = l.outer; depth = l.depth; items = front_items (length reads) n es l; steps = front_steps (length reads) n es l }
level_of (Alloc block key) s n es reads behind h =
    let l = behind reads h in
    record {
      inner = Allocated block key (ticked n l.inner);
      outer = l.outer;
      depth = l.depth;
      items = joined-allocated block key (ticked n l.inner) l.outer ∙ ap (λ (xs : List Item). item.Alloc block key ∷ xs) (front_items (length reads) n es l);
      steps = sum-allocated block key (ticked n l.inner) l.outer ∙ front_steps (length reads) n es l;
    }
level_of (Write place value) s n es reads behind h =
    let l = behind reads h in
    record {
      inner = Wrote place value (ticked n l.inner);
      outer = l.outer;
      depth = l.depth;
      items = joined-wrote place value (ticked n l.inner) l.outer ∙ ap (λ (xs : List Item). item.Write place value ∷ xs) (front_items (length reads) n es l);
      steps = sum-wrote place value (ticked n l.inner) l.outer ∙ front_steps (length reads) n es l;
    }
level_of (Read place value unit var args) s n es reads behind h =
    let l = behind (s ∷ reads) h in
    read_level s n (length reads) place value unit var args es l.inner l.outer l.depth l.items l.steps
level_of (End r) s n es [] behind h = absurd (cc)
level_of (End r) s n es (last ∷ reads) behind h = elim (eqb_tells r.0 last) [
  | inl p ↦
      let l = behind reads (rw p.0 at h) in
      record {
        inner = Nothing;
        outer = ticked n l.inner ∷ l.outer;
        depth = ap (λ (k : ℕ). suc k) l.depth;
        items = ap (λ (xs : List Item). item.End ∷ xs) (front_items (length reads) n es l);
        steps = let rest = front_steps (length reads) n es l in omega arith;
      }
  | inr p ↦ absurd (let no : None ≡ Some [] = rw p.0 at h in cc)
]

levels : (es : List Entry) (reads : List ℕ) → unclosed (Some reads) es ≡ Some [] → Levels (length reads) es
levels [] [] h = record { inner = Nothing; outer = []; depth = refl; items = refl; steps = refl }
levels [] (r ∷ rs) h = absurd (cc)
levels (e ∷ es) reads h = level_of e.node e.stamp e.steps es reads (λ rs g. levels es rs g) h

innermost : (es : List Entry) (inner : Trace) (outer : List Trace) → length outer ≡ 0 → joined inner outer ≡ forest_of es → sum_of inner outer ≡ steps_sum es
    → (t : Trace) × (flat t ≡ forest_of es) × (steps_of t ≡ steps_sum es)
innermost es inner [] depth items steps = (inner, items, steps)
innermost es inner (u ∷ us) depth items steps = absurd (omega (arith, depth))

pub forest_is : (es : List Entry) → Nests es → (t : Trace) × (flat t ≡ forest_of es) × (steps_of t ≡ steps_sum es)
forest_is es nests = let l = levels es [] nests in innermost es l.inner l.outer l.depth l.items l.steps
