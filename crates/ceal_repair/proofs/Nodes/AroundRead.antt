-- The items of nodes around a finished read.
use Rattle.std.proofs.Common.{◌≡◌, ℕ, zero, suc, Some, None, List, [], ◌∷◌, ◌++◌, if◌then◌else◌, refl, sym, ap, ◌∙◌, append_assoc}
use Rattle.std.proofs.lemmas.Bool.{eq-eqb}
use Rattle.ceal_base.proofs.TraceLemmas.{trace-flat}
use Rattle.ceal_base.specs.Trace.{Trace, flat, trace_of}
use Rattle.ceal_base.specs.declared.forest.Item.{Item}
use Rattle.ceal_base.specs.declared.forest.Item.TheVariants as item
use Rattle.ceal_code.proofs.Words.SameIsEqual.{some-same}
use Rattle.ceal_repair.proofs.Nodes.NodeItems.{knots-entries, items-knots-of, rootless-entries}
use Rattle.ceal_repair.specs.Entries.{entry, entries, end_entry}
use Rattle.ceal_repair.specs.Turning.{ReadAt}
use Rattle.ceal_theory.proofs.Nodes.EngineMoves.{items-knots}
use Rattle.ceal_theory.specs.Groves.{Grove, Bare, Made, Put, Got, stepped, trace_in, items_in}
use Rattle.ceal_trace.proofs.Parting.{unclosed-append}
use Rattle.ceal_trace.proofs.Parts.{forest-append}
use Rattle.ceal_trace.specs.Items.{ticks, forest_of, unclosed, Nests}
use Rattle.ceal_trace.specs.Nodes.{Entry}
use Rattle.ceal_trace.specs.declared.node.Node.TheVariants.{Read}

-- flat items stand for one trace
pub flat-once : (l m : Trace) → flat l ≡ flat m → l ≡ m
flat-once l m e = some-same l m (sym (trace-flat l) ∙ (ap trace_of e ∙ trace-flat m))

flat-stepped : (n : ℕ) (t : Trace) → flat (stepped n t) ≡ ticks n ++ flat t
flat-stepped zero t = refl
flat-stepped (suc n) t = ap (λ is. item.Step ∷ is) (flat-stepped n t)

-- the nodes of a grove stand for its trace
pub forest-grove : (g : Grove) → forest_of (entries g) ≡ flat (trace_in g)
forest-grove g = sym (items-knots-of (entries g) (rootless-entries g)) ∙ (ap items_in (knots-entries g) ∙ items-knots g)

-- after a read that is open, its end closes it
pub end-closes : (e r m : ℕ) (behind : List Entry) (rs : List ℕ) → unclosed (Some (r ∷ rs)) (end_entry e r m ∷ behind) ≡ unclosed (Some rs) behind
end-closes e r m behind rs = ap (λ t. unclosed (if t then Some rs else None) behind) (eq-eqb r r refl)

-- the nodes of a grove close each read that they begin
pub grove-nests : (g : Grove) (es : List Entry) (rs : List ℕ) → unclosed (Some rs) (entries g ++ es) ≡ unclosed (Some rs) es
grove-nests Bare es rs = refl
grove-nests (Made s b key n rest) es rs = grove-nests rest es rs
grove-nests (Put s p v n rest) es rs = grove-nests rest es rs
grove-nests (Got s p v u x args n inside e m rest) es rs =
    ap (λ fs. unclosed (Some (s ∷ rs)) fs) (append_assoc (entries inside) (end_entry e s m ∷ entries rest) es)
    ∙ (grove-nests inside (end_entry e s m ∷ (entries rest ++ es)) (s ∷ rs)
    ∙ (end-closes e s m (entries rest ++ es) rs ∙ grove-nests rest es rs))

module _ {nodes : List Entry} (a : ReadAt nodes) where
  -- the items before the read, the read, what is inside it, its end, and the items after that
  pub spot-items : forest_of nodes
      ≡ forest_of a.before ++ item.Read a.place a.value a.unit a.var a.args ∷ (flat (stepped a.steps (trace_in a.inside)) ++ item.End ∷ (ticks a.end_steps ++ forest_of a.behind))
  spot-items = ap forest_of a.whole
      ∙ (forest-append a.before (entry a.read (Read a.place a.value a.unit a.var a.args) a.steps ∷ (entries a.inside ++ end_entry a.end a.read a.end_steps ∷ a.behind))
      ∙ ap (λ (is : List Item). forest_of a.before ++ item.Read a.place a.value a.unit a.var a.args ∷ is) inner)
    where
      inner : ticks a.steps ++ forest_of (entries a.inside ++ end_entry a.end a.read a.end_steps ∷ a.behind)
          ≡ flat (stepped a.steps (trace_in a.inside)) ++ item.End ∷ (ticks a.end_steps ++ forest_of a.behind)
      inner = ap (λ (is : List Item). ticks a.steps ++ is) (forest-append (entries a.inside) (end_entry a.end a.read a.end_steps ∷ a.behind)
          ∙ ap (λ (is : List Item). is ++ item.End ∷ (ticks a.end_steps ++ forest_of a.behind)) (forest-grove a.inside))
          ∙ (sym (append_assoc (ticks a.steps) (flat (trace_in a.inside)) (item.End ∷ (ticks a.end_steps ++ forest_of a.behind)))
          ∙ ap (λ (is : List Item). is ++ item.End ∷ (ticks a.end_steps ++ forest_of a.behind)) (sym (flat-stepped a.steps (trace_in a.inside))))

  -- the reads that are open before it are closed after its end
  pub spot-nests : Nests nodes → (rs : List ℕ) → unclosed (Some []) a.before ≡ Some rs → unclosed (Some rs) a.behind ≡ Some []
  spot-nests h rs o =
      sym (end-closes a.end a.read a.end_steps a.behind rs)
      ∙ (sym (grove-nests a.inside (end_entry a.end a.read a.end_steps ∷ a.behind) (a.read ∷ rs))
      ∙ (sym (ap (λ o. unclosed o (entry a.read (Read a.place a.value a.unit a.var a.args) a.steps ∷ (entries a.inside ++ end_entry a.end a.read a.end_steps ∷ a.behind))) o)
      ∙ (sym (unclosed-append a.before (entry a.read (Read a.place a.value a.unit a.var a.args) a.steps ∷ (entries a.inside ++ end_entry a.end a.read a.end_steps ∷ a.behind)) (Some []))
      ∙ (sym (ap (λ es. unclosed (Some []) es) a.whole) ∙ h))))
