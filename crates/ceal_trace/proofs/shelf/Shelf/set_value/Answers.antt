use Rattle.std.proofs.Common.{refl, ap, ◌∙◌, option_map}
use Rattle.slab.specs.Slab.{Slab}
use Rattle.ceal_base.specs.declared.word.Word.{Word}
use Rattle.ceal_trace.specs.declared.held.Held.{Held}
use Rattle.ceal_trace.specs.Nodes.{valued}
use Rattle.ceal_trace.specs.Shelves.{at}
use Rattle.ceal_trace.proofs.Shelving.{valued_fits, valued_changed, valued_others, valued_len}
use Rattle.ceal_trace.proofs.shelf.Shelf.set_value.Goals as goal

pub returns : goal.returns
returns c =
    let v = c.value_at.ensures in
    record {
      fit = valued_fits _ _ c.args.self.now.apart _ _ _ c.requires.fit v.there v.is;
      changed = valued_changed _ _ c.args.self.now.apart _ _ _ c.requires.fit v.there v.is
          ∙ ap (λ (w : Word). option_map (valued w) (at c.args.self.now c.args.key)) v.packs;
      others = valued_others _ _ c.args.self.now.apart _ _ _ c.requires.fit v.there v.is;
      count = valued_len _ _ c.args.self.now.apart _ _ _ c.requires.fit v.there v.is;
      rooms = record { held_room = ap (λ (s : Slab Held). s.capacity) v.is; apart_room = refl };
    }
