use Rattle.std.proofs.Common.{◌<◌, ℕ, List, IsSome, length, sym, subst, refl}
use Rattle.ceal_words.proofs.ChunkLemmas.{get_held}
use Rattle.ceal_words.proofs.chunk.Chunk.get.Goals as goal

pub read-requires : goal.read-requires
read-requires c =
    let p = c.self.inside in
    subst IsSome (sym (get_held p.block.words p.count p.room c.self.invariant.0 c.args.at (subst (λ (xs : List ℕ). c.args.at < length xs) (sym c.self.view_is) c.requires))) refl
