-- Where no read is stale any more, all items are honest.
use Rattle.std.proofs.Common.{◌≡◌, ℕ, List, [], sym, ap, subst, ◌∙◌, append-nil}
use Rattle.ceal_base.specs.Block.{Block}
use Rattle.ceal_base.specs.declared.word.Word.{Word}
use Rattle.ceal_code.specs.Program.{Code}
use Rattle.ceal_repair.proofs.Nodes.StoreAgreement.{agrees-front, honest-front}
use Rattle.ceal_repair.proofs.Propagation.Departing.{departs-still}
use Rattle.ceal_repair.proofs.TableCalls.BaseEdit.{stale-same}
use Rattle.ceal_repair.specs.Blocks.{HasBlocks}
use Rattle.ceal_repair.specs.Kept.{Kept, IsHonestRecord}
use Rattle.ceal_repair.specs.Propagation.{HasCome, IsUpToDate}
use Rattle.ceal_repair.specs.Turning.{Since, StandsFor, TurnedSoFar}
use Rattle.ceal_repair.specs.declared.running.Running.{Running}
use Rattle.ceal_repair.specs.declared.tables.Tables.{Tables}
use Rattle.ceal_theory.proofs.Store.WritesByPlace.{listed-law}
use Rattle.ceal_theory.proofs.SlicedRepair.SliceLaws.{ready-law, start-law}
use Rattle.ceal_theory.specs.Slices.{starting}
use Rattle.ceal_theory.specs.Walk.{AgreesAll}
use Rattle.ceal_trace.specs.Nodes.{Timeline}

module _ (code : Code) (inputs : List Block) (f : ℕ) (args : List Word) (o : Since) (old before : Running) (come : HasCome code inputs f args o old before)
    (t : Tables) (kept : Kept t) (trace : t.trace ≡ before.tables.trace) (cells : t.mods.cells ≡ before.tables.mods.cells) where
  abbrev now : Running
  now = record before { tables = t }

  blocks : HasBlocks code inputs before.heap t
  blocks = record {
    bases = record {
      of_cores = λ b field. rw cells (come.so_far.stands.blocks.bases.of_cores b field);
      of_inputs = λ i field. rw cells (come.so_far.stands.blocks.bases.of_inputs i field);
    };
    lives = rw trace come.so_far.stands.blocks.lives;
    reads = rw trace come.so_far.stands.blocks.reads;
  }

  stands : StandsFor code inputs f args come.so_far.repair now
  stands = record {
    kept = kept;
    nests = rw trace come.so_far.stands.nests;
    items = rw trace come.so_far.stands.items;
    known = come.so_far.stands.known;
    blocks = blocks;
    spent = come.so_far.stands.spent;
    names = come.so_far.stands.names;
    sound = come.so_far.stands.sound;
  }

  so_far : TurnedSoFar code inputs f args o now
  so_far = record {
    repair = come.so_far.repair;
    stands = stands;
    chosen = come.so_far.chosen;
    number = come.so_far.number;
    given = come.so_far.given;
    history = come.so_far.history;
  }

  -- only the queue is another one
  pub come-now : HasCome code inputs f args o old now
  come-now = record {
    called = come.called;
    items = come.items;
    so_far = so_far;
    front = rw trace come.front;
    departs = departs-still old.tables.trace.nodes before.tables t (ap (λ (l : Timeline). l.nodes) trace) (λ r s. stale-same t before.tables r trace cells s) come.departs;
    unchanged = λ h. let u = come.unchanged h in (trace ∙ u.0, u.1);
  }

  -- each read has the content of its moment
  pub up-to-date : t.stale.stamps ≡ [] → ((s : ℕ) → IsHonestRecord s t) → IsUpToDate code inputs f args o old now
  unfolding so_far come-now
  up-to-date empty all = record {
    come = come-now;
    idle = empty;
    honest = (start-law code so_far.stands.names inputs f args come.called.fits so_far.repair so_far.stands.sound).1
        (subst (λ is. AgreesAll code (starting code inputs so_far.repair.known) is) so_far.stands.items
        (agrees-front code inputs f args so_far.repair now come.called.fits listed-law ready-law stands t.trace.nodes [] (sym (append-nil t.trace.nodes))
        (honest-front t kept.step.whole.order.distinct t.trace.nodes [] (sym (append-nil t.trace.nodes)) (λ s h. all s))));
  }
