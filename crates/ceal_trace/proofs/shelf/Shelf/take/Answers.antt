use Rattle.ceal_trace.proofs.Shelving.{took_fits, took_was, took_gone, took_others}
use Rattle.ceal_trace.proofs.shelf.Shelf.take.Goals as goal

pub returns : goal.returns
returns c =
    let r = c.remove-held.ensures in
    let j = c.join.ensures in
    record {
      fit = took_fits _ _ _ _ _ _ _ c.requires.fit r.value r.updates j;
      was = took_was _ _ _ _ _ _ _ c.requires.fit r.value r.updates j;
      gone = took_gone _ _ _ _ _ _ _ c.requires.fit r.value r.updates j;
      others = took_others _ _ _ _ _ _ _ c.requires.fit r.value r.updates j;
      count = r.len;
      rooms = record { held_room = r.capacity; apart_room = j.room };
    }
