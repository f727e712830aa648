use Rattle.std.proofs.Common.{Option, Some, sym, ap, ◌∙◌}
use Rattle.ceal_trace.specs.declared.node.Node.{Node}
use Rattle.ceal_trace.specs.Shelves.{or_root, whole_in}
use Rattle.ceal_trace.proofs.Shelving.{took_fits, took_was, took_gone, took_others}
use Rattle.ceal_trace.proofs.shelf.Shelf.release.Goals as goal

pub returns-clause-gone : goal.returns-clause-gone
returns-clause-gone c =
    let r = c.remove-held.ensures in
    record {
      fit = took_fits _ _ _ _ _ _ _ c.requires.fit r.value r.updates c.release.ensures.released;
      was = took_was _ _ _ _ _ _ _ c.requires.fit r.value r.updates c.release.ensures.released
          ∙ ap (λ (o : Option Node). Some (or_root o)) (sym (ap (whole_in c.args.self.now.apart) r.value));
      gone = took_gone _ _ _ _ _ _ _ c.requires.fit r.value r.updates c.release.ensures.released;
      others = took_others _ _ _ _ _ _ _ c.requires.fit r.value r.updates c.release.ensures.released;
      count = r.len;
      rooms = record { held_room = r.capacity; apart_room = c.release.ensures.released.room };
    }
