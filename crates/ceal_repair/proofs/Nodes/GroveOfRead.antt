-- Nodes inside a read are those of a grove.
use Rattle.std.proofs.Common.{◌≡◌, ℕ, inl, inr, true, false, Option, Some, None, List, [], ◌∷◌, ◌++◌, append_assoc, refl, sym, ap, subst, ◌∙◌}
use Rattle.std.proofs.lemmas.Bool.Decides.{eqb_tells}
use Rattle.ceal_base.specs.declared.forest.Key.{Key}
use Rattle.ceal_base.specs.declared.forest.UnitId.{UnitId}
use Rattle.ceal_base.specs.declared.word.BlockId.{BlockId}
use Rattle.ceal_base.specs.declared.word.Place.{Place}
use Rattle.ceal_base.specs.declared.word.Word.{Word}
use Rattle.ceal_order.specs.Stamps.{Distinct, head_of}
use Rattle.ceal_repair.proofs.Nodes.NodeItems.{RootlessNode, Rootless, behind-all}
use Rattle.ceal_repair.specs.Entries.{stamp_of_number, entry, end_entry, entries}
use Rattle.ceal_repair.specs.Turning.{ReadAt}
use Rattle.ceal_theory.specs.Groves.{Grove, Bare, Made, Put, Got}
use Rattle.ceal_trace.proofs.Entries.{ends_is}
use Rattle.ceal_trace.proofs.Parting.{unclosed-append, parts}
use Rattle.ceal_trace.proofs.Parts.{not_before, entry-part}
use Rattle.ceal_trace.specs.Items.{unclosed, unclosed_after, Nests, Parted}
use Rattle.ceal_trace.specs.Nodes.{Entry, Timeline, IsTrace, stamps_in, has_node, node_at, held_by, end_in, is_read}
use Rattle.ceal_trace.specs.declared.node.Node.{Node}
use Rattle.ceal_trace.specs.declared.node.Node.TheVariants.{Root, Alloc, Write, Read, End}

-- the end of an open read, and what is after it up to the next such end
record Layer : Type 0 where
  end : ℕ
  read : ℕ
  steps : ℕ
  behind : Grove

-- a grove, and then layers
abbrev laid : Grove → List Layer → List Entry
laid g [] = entries g
laid g (l ∷ ls) = entries g ++ end_entry l.end l.read l.steps ∷ laid l.behind ls

-- the reads that layers end
abbrev reads_of : List Layer → List ℕ
reads_of [] = []
reads_of (l ∷ ls) = l.read ∷ reads_of ls

-- nodes that close these reads, as layers
record Laid (reads : List ℕ) (es : List Entry) : Type 0 where
  inner : Grove
  outer : List Layer
  same : reads_of outer ≡ reads
  is : es ≡ laid inner outer

laid-made : (s : ℕ) (b : BlockId) (key : Key) (n : ℕ) (g : Grove) (ls : List Layer) → entry s (Alloc b key) n ∷ laid g ls ≡ laid (Made s b key n g) ls
laid-made s b key n g [] = refl
laid-made s b key n g (l ∷ ls) = refl

laid-put : (s : ℕ) (p : Place) (v : Word) (n : ℕ) (g : Grove) (ls : List Layer) → entry s (Write p v) n ∷ laid g ls ≡ laid (Put s p v n g) ls
laid-put s p v n g [] = refl
laid-put s p v n g (l ∷ ls) = refl

laid-got : (s : ℕ) (p : Place) (v : Word) (u : UnitId) (x : ℕ) (args : List Word) (n : ℕ) (g : Grove) (e m : ℕ) (h : Grove) (ls : List Layer)
    → entry s (Read p v u x args) n ∷ (entries g ++ end_entry e s m ∷ laid h ls) ≡ laid (Got s p v u x args n g e m h) ls
laid-got s p v u x args n g e m h [] = refl
laid-got s p v u x args n g e m h (l ∷ ls) =
    ap (λ es. entry s (Read p v u x args) n ∷ es) (sym (append_assoc (entries g) (end_entry e s m ∷ entries h) (end_entry l.end l.read l.steps ∷ laid l.behind ls)))

-- a read takes the innermost grove inside, and continues with the one after its end
laid-read : (s n : ℕ) (p : Place) (v : Word) (u : UnitId) (x : ℕ) (args : List Word) (reads : List ℕ) (es : List Entry) (g : Grove) (ls : List Layer) → reads_of ls ≡ s ∷ reads → es ≡ laid g ls
    → Laid reads (entry s (Read p v u x args) n ∷ es)
laid-read s n p v u x args reads es g [] same is = absurd (cc)
laid-read s n p v u x args reads es g (l ∷ ls) same is =
    let own : l.read ≡ s = cc in
    let rest : reads_of ls ≡ reads = cc in
    record {
      inner = Got s p v u x args n g l.end l.steps l.behind;
      outer = ls;
      same = rest;
      is = ap (λ fs. entry s (Read p v u x args) n ∷ fs) (is ∙ ap (λ r. entries g ++ end_entry l.end r l.steps ∷ laid l.behind ls) own) ∙ laid-got s p v u x args n g l.end l.steps l.behind ls;
    }

laid-node : (node : Node) (s n : ℕ) (es : List Entry) (reads : List ℕ) → RootlessNode node → ((rs : List ℕ) → unclosed (Some rs) es ≡ Some [] → Laid rs es)
    → unclosed (unclosed_after s node reads) es ≡ Some [] → Laid reads (entry s node n ∷ es)
laid-node Root s n es reads plain behind h = absurd plain
laid-node (Alloc b key) s n es reads plain behind h =
    let l = behind reads h in
    record { inner = Made s b key n l.inner; outer = l.outer; same = l.same; is = ap (λ fs. entry s (Alloc b key) n ∷ fs) l.is ∙ laid-made s b key n l.inner l.outer }
laid-node (Write p v) s n es reads plain behind h =
    let l = behind reads h in
    record { inner = Put s p v n l.inner; outer = l.outer; same = l.same; is = ap (λ fs. entry s (Write p v) n ∷ fs) l.is ∙ laid-put s p v n l.inner l.outer }
laid-node (Read p v u x args) s n es reads plain behind h =
    let l = behind (s ∷ reads) h in
    laid-read s n p v u x args reads es l.inner l.outer l.same l.is
laid-node (End r) s n es [] plain behind h = absurd (cc)
laid-node (End r) s n es (last ∷ reads) plain behind h = elim (eqb_tells r.0 last) [
  | inl q ↦
      let l = behind reads (rw q.0 at h) in
      record {
        inner = Bare;
        outer = record { end = s; read = last; steps = n; behind = l.inner } ∷ l.outer;
        same = ap (λ rs. last ∷ rs) l.same;
        is = ap (λ k. entry s (End (stamp_of_number k)) n ∷ es) q.1 ∙ ap (λ fs. end_entry s last n ∷ fs) l.is;
      }
  | inr q ↦ absurd (let no : None ≡ Some [] = rw q.0 at h in cc)
]

laid-all : (es : List Entry) (reads : List ℕ) → Rootless es → unclosed (Some reads) es ≡ Some [] → Laid reads es
laid-all [] [] plain h = record { inner = Bare; outer = []; same = refl; is = refl }
laid-all [] (r ∷ rs) plain h = absurd (cc)
laid-all (e ∷ es) reads plain h = laid-node e.node e.stamp e.steps es reads plain.0 (λ rs k. laid-all es rs plain.1 k) h

laid-alone : (es : List Entry) (g : Grove) (ls : List Layer) → reads_of ls ≡ [] → es ≡ laid g ls → (h : Grove) × (es ≡ entries h)
laid-alone es g [] same is = (g, is)
laid-alone es g (l ∷ ls) same is = absurd (cc)

-- nodes that nest, with no root among them, are those of a grove
pub as-grove : (es : List Entry) → Rootless es → Nests es → (g : Grove) × (es ≡ entries g)
as-grove es plain nests = let l = laid-all es [] plain nests in laid-alone es l.inner l.outer l.same l.is

-- ---- there is no root after the first node

rootless-node : (node : Node) → (node ≡ Root → ⊥) → RootlessNode node
rootless-node Root h = h refl
rootless-node (Alloc b key) h = tt
rootless-node (Write p v) h = tt
rootless-node (Read p v u x args) h = tt
rootless-node (End r) h = tt

module _ (t : Timeline) (trace : IsTrace t) where
  rootless-after : (first : Entry) (done todo : List Entry) → t.nodes ≡ first ∷ (done ++ todo) → Rootless todo
  rootless-after first done [] e = tt
  rootless-after first done (x ∷ xs) e = (
    rootless-node x.node (λ root.
        let apart : has_node x.stamp (first ∷ done) ≡ false = not_before (first ∷ done) x xs (subst (λ es. Distinct (stamps_in es)) e trace.order.distinct) in
        let held : node_at x.stamp t.nodes ≡ Some Root = ap (node_at x.stamp) e ∙ (ap held_by (entry-part x xs (first ∷ done) apart) ∙ ap (λ n. Some n) root) in
        let head : Some first.stamp ≡ Some x.stamp = sym (ap (λ es. head_of (stamps_in es)) e) ∙ trace.only_root x.stamp held in
        let same : first.stamp ≡ x.stamp = cc in
        elim (eqb_tells first.stamp x.stamp) [
          | inl q ↦ (let no : true ≡ false = rw q.0 at apart in cc)
          | inr q ↦ q.1 same
        ]),
    rootless-after first (done ++ x ∷ []) xs (e ∙ ap (λ es. first ∷ es) (sym (behind-all done x xs))),
  )

  -- there is none after another node
  pub rootless-behind : (front : List Entry) (e : Entry) (back : List Entry) → t.nodes ≡ front ++ e ∷ back → Rootless back
  rootless-behind [] e back h = rootless-after e [] back h
  rootless-behind (x ∷ xs) e back h = rootless-after x (xs ++ e ∷ []) back (h ∙ ap (λ es. x ∷ es) (sym (behind-all xs e back)))

pub rootless-front : (es fs : List Entry) → Rootless (es ++ fs) → Rootless es
rootless-front [] fs h = tt
rootless-front (e ∷ es) fs h = (h.0, rootless-front es fs h.1)

-- ---- the reads that are open after nodes in front of others that close them

none-stays : (es : List Entry) → unclosed None es ≡ Some [] → ⊥
none-stays es h = cc

pub open-reads : (front back : List Entry) → Nests (front ++ back) → (reads : List ℕ) × (unclosed (Some []) front ≡ Some reads)
open-reads front back nests = go (unclosed (Some []) front) refl (sym (unclosed-append front back (Some [])) ∙ nests)
  where
    go : (o : Option (List ℕ)) → unclosed (Some []) front ≡ o → unclosed o back ≡ Some [] → (reads : List ℕ) × (unclosed (Some []) front ≡ Some reads)
    go None e h = absurd (none-stays back h)
    go (Some reads) e h = (reads, e)

-- ---- a read of a trace that nests

module _ (t : Timeline) (trace : IsTrace t) (nests : Nests t.nodes) (read : ℕ) (place : Place) (value : Word) (unit : UnitId) (var : ℕ) (args : List Word)
    (held : node_at read t.nodes ≡ Some (Read place value unit var args)) where
  pub parted : (p : Parted read t.nodes) × (end_in read t.nodes ≡ Some p.ends'.stamp)
  parted = parts t trace nests read (ap is_read held)

  abbrev pub around : Parted read t.nodes
  around = parted.0

  begins-apart : has_node around.begins.stamp around.before ≡ false
  begins-apart = not_before around.before around.begins (around.inside ++ around.ends' ∷ around.behind) (subst (λ es. Distinct (stamps_in es)) around.whole trace.order.distinct)

  begins-node : around.begins.node ≡ Read place value unit var args
  begins-node =
      let found : node_at around.begins.stamp t.nodes ≡ Some around.begins.node =
      ap (node_at around.begins.stamp) around.whole ∙ ap held_by (entry-part around.begins (around.inside ++ around.ends' ∷ around.behind) around.before begins-apart) in
      let both : Some around.begins.node ≡ Some (Read place value unit var args) = sym found ∙ (ap (λ s. node_at s t.nodes) around.begun ∙ held) in
      cc

  pub inside-grove : (g : Grove) × (around.inside ≡ entries g)
  inside-grove = as-grove around.inside
      (rootless-front around.inside (around.ends' ∷ around.behind) (rootless-behind t trace around.before around.begins (around.inside ++ around.ends' ∷ around.behind) around.whole)) around.nests

  begins-is : around.begins ≡ entry read (Read place value unit var args) around.begins.steps
  begins-is = ap (λ s. entry s around.begins.node around.begins.steps) around.begun ∙ ap (λ node. entry read node around.begins.steps) begins-node

  ends-is : around.ends' ≡ end_entry around.ends'.stamp read around.ends'.steps
  ends-is = ap (λ node. entry around.ends'.stamp node around.ends'.steps) (ends_is read around.ends'.node around.ended)

  pub parts-whole : t.nodes
      ≡ around.before ++ entry read (Read place value unit var args) around.begins.steps ∷ (entries inside-grove.0 ++ end_entry around.ends'.stamp read around.ends'.steps ∷ around.behind)
  parts-whole = around.whole ∙ (ap (λ e. around.before ++ e ∷ (around.inside ++ around.ends' ∷ around.behind)) begins-is
      ∙ (ap (λ es. around.before ++ entry read (Read place value unit var args) around.begins.steps ∷ (es ++ around.ends' ∷ around.behind)) inside-grove.1
      ∙ ap (λ e. around.before ++ entry read (Read place value unit var args) around.begins.steps ∷ (entries inside-grove.0 ++ e ∷ around.behind)) ends-is))

  -- it is among the nodes with what is inside it and with its end
  abbrev pub read-at : ReadAt t.nodes
  read-at = record {
    before = around.before;
    read = read;
    place = place;
    value = value;
    unit = unit;
    var = var;
    args = args;
    steps = around.begins.steps;
    inside = inside-grove.0;
    end = around.ends'.stamp;
    end_steps = around.ends'.steps;
    behind = around.behind;
    whole = parts-whole;
  }

  pub read-opens : (reads : List ℕ) × (unclosed (Some []) read-at.before ≡ Some reads)
  read-opens = open-reads read-at.before (around.begins ∷ (around.inside ++ around.ends' ∷ around.behind)) (subst Nests around.whole nests)
