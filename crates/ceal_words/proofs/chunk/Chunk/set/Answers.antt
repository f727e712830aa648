use Rattle.std.proofs.Common.{◌<◌, ◌∙◌, ℕ, List, length, set, ap, sym, subst}
use Rattle.ceal_words.specs.Written.{held}
use Rattle.ceal_words.proofs.ChunkLemmas.{held_set, written_set}
use Rattle.ceal_words.proofs.chunk.Chunk.set.Goals as goal

inside : (c : goal.After-write) → c.args.at < length (held c.self.inside.block.words)
inside c = subst (λ (xs : List ℕ). c.args.at < length xs) (sym c.self.view_is) c.requires

pub invariant_of-self : goal.invariant_of-self
invariant_of-self c =
    let p = c.self.inside in let laid = c.self.invariant in
    (rw c.write.ensures.0 (written_set p.block.words p.count p.room laid.0 c.args.at c.args.value (inside c)), laid.1 ∙ sym c.write.ensures.1, laid.2, laid.3)

pub returns : goal.returns
returns c =
    let p = c.self.inside in
    rw c.write.ensures.0 (held_set p.block.words p.count p.room c.self.invariant.0 c.args.at c.args.value (inside c)) ∙ ap (λ (xs : List ℕ). set xs c.args.at c.args.value) c.self.view_is
