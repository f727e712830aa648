-- Where a read is stale the repair is not done.
use Rattle.std.proofs.Common.{◌≡◌, ℕ, List, [], ◌∷◌, ◌++◌, sym, ap, subst, ◌∙◌, append-nil}
use Rattle.ceal_base.specs.Block.{Block}
use Rattle.ceal_base.specs.declared.forest.Item.TheVariants as item
use Rattle.ceal_base.specs.declared.word.Word.{Word}
use Rattle.ceal_code.specs.Fitting.{Fits}
use Rattle.ceal_code.specs.Program.{Code}
use Rattle.ceal_code.specs.Replay.{IsHonest}
use Rattle.ceal_repair.proofs.Nodes.GroveOfRead.{read-at}
use Rattle.ceal_repair.proofs.Propagation.TurnBegin.{known-read}
use Rattle.ceal_repair.proofs.Nodes.StoreAgreement.{moment-part, store-listed}
use Rattle.ceal_repair.specs.Covered.{contents_after}
use Rattle.ceal_repair.specs.Entries.{entry, end_entry, entries}
use Rattle.ceal_repair.specs.Kept.{IsStale, base_in, contents_at}
use Rattle.ceal_repair.specs.Turning.{ReadAt, StandsFor}
use Rattle.ceal_repair.specs.declared.running.Running.{Running}
use Rattle.ceal_theory.proofs.Store.WritesByPlace.{listed-law}
use Rattle.ceal_theory.proofs.SlicedRepair.SliceLaws.{ready-law, start-law}
use Rattle.ceal_theory.proofs.Store.Walk.{agrees-front}
use Rattle.ceal_theory.specs.Listed.{Listed}
use Rattle.ceal_theory.specs.Slices.{Repair, starting}
use Rattle.ceal_theory.specs.Walk.{store_after, AgreesAll}
use Rattle.ceal_trace.proofs.Parts.{forest-append}
use Rattle.ceal_trace.specs.Items.{ticks, forest_of}
use Rattle.ceal_trace.specs.Nodes.{Entry}
use Rattle.ceal_trace.specs.declared.node.Node.TheVariants.{Read}

module _ (code : Code) (inputs : List Block) (f : ℕ) (args : List Word) (fits : Fits code inputs f args) (r : Repair) (run : Running) (stands : StandsFor code inputs f args r run)
    (s : ℕ) (stale : IsStale s run.tables) (honest : IsHonest code inputs r.items) where
  abbrev spot : ReadAt run.tables.trace.nodes
  spot = read-at run.tables.trace stands.kept.step.whole stands.nests s stale.place stale.value stale.read.unit stale.read.var stale.read.args stale.read.is

  abbrev was : Entry
  was = entry s (Read stale.place stale.value stale.read.unit stale.read.var stale.read.args) spot.steps

  abbrev behind : List Entry
  behind = entries spot.inside ++ end_entry spot.end s spot.end_steps ∷ spot.behind

  -- all items agree, so those before the read do, and the read does
  all : AgreesAll code (starting code inputs r.known) (forest_of run.tables.trace.nodes)
  all = subst (AgreesAll code (starting code inputs r.known)) (sym stands.items) ((start-law code stands.names inputs f args fits r stands.sound).0 honest)

  parted : AgreesAll code (starting code inputs r.known)
      (forest_of spot.before ++ item.Read stale.place stale.value stale.read.unit stale.read.var stale.read.args ∷ (ticks spot.steps ++ forest_of behind))
  parted = subst (AgreesAll code (starting code inputs r.known)) (ap forest_of spot.whole ∙ forest-append spot.before (was ∷ behind)) all

  both : AgreesAll code (starting code inputs r.known) (forest_of spot.before)
      × AgreesAll code (store_after code (starting code inputs r.known) (forest_of spot.before))
      (item.Read stale.place stale.value stale.read.unit stale.read.var stale.read.args ∷ (ticks spot.steps ++ forest_of behind))
  both = agrees-front code (starting code inputs r.known) (forest_of spot.before)
      (item.Read stale.place stale.value stale.read.unit stale.read.var stale.read.args ∷ (ticks spot.steps ++ forest_of behind)) parted

  listed : Listed code inputs r (forest_of run.tables.trace.nodes)
  listed = listed-law code stands.names inputs f args fits r stands.sound (forest_of run.tables.trace.nodes) [] (sym stands.items ∙ sym (append-nil (forest_of run.tables.trace.nodes))) all

  pub still-stale : ⊥
  still-stale =
      let known = known-read listed.items (forest_of spot.before) stale.place stale.value stale.read.unit stale.read.var stale.read.args (ticks spot.steps ++ forest_of behind)
      (ap forest_of spot.whole ∙ forest-append spot.before (was ∷ behind)) in
      let now : store_after code (starting code inputs r.known) (forest_of spot.before) stale.place ≡ contents_after (base_in run.tables.mods) spot.before stale.place =
      store-listed code inputs f args r run fits listed-law ready-law stands spot.before (was ∷ behind) spot.whole both.0 stale.place known in
      let there : contents_at s run.tables stale.place ≡ contents_after (base_in run.tables.mods) spot.before stale.place =
      moment-part run.tables spot.before was behind spot.whole stands.kept.step.whole.order.distinct stale.place in
      stale.differs (sym both.1.0 ∙ (now ∙ sym there))
