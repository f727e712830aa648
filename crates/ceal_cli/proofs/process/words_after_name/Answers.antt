use Rattle.std.proofs.Common.{refl, ◌∙◌, Ok}
use Rattle.std.proofs.lemmas.Iterator.{items_from_collect}
use Rattle.std.proofs.lemmas.Iterator.Adapters.{YieldsList-from_vec}
use Rattle.std.specs.Vec.Iter.{into_iter_items}
use Rattle.std.specs.declared.alloc.AllocError.{AllocError}
use Rattle.std.specs.declared.alloc.Global.{Global}
use Rattle.ceal_cli.proofs.Options.FirstWord.{after-first}
use Rattle.ceal_cli.proofs.process.words_after_name.Goals as goal

-- the words that are left are collected
pub returns-in-Ok-clause-words : goal.returns-in-Ok-clause-words
returns-in-Ok-clause-words c =
    items_from_collect {Z = Global} {E = AllocError} (Ok c.in-Ok.words) c.in-Ok.ensures.ran
    (YieldsList-from_vec {Z = Global} {s = c.next.new.self} (into_iter_items c.next.new.self) refl c.next.new.self.rest.ok.0)
    ∙ after-first c.next.result _ _ _ c.args.args.rest.ok.0 c.next.ensures.items c.next.ensures.variant
