use Rattle.std.proofs.Common.{◌≡◌, ◌-◌, ◌≤◌, ◌∙◌, ◌++◌, List, ℕ, length, map, take, drop, replicate, Option, Some, None, sym, ap, arith}
use Rattle.ceal_words.specs.Written.{held}
use Rattle.ceal_words.proofs.ChunkLemmas.{count_held, held_front, longer_cells, long_zeros, written_front}
use Rattle.ceal_words.proofs.chunk.Chunk.reserve.Goals as goal

module _ (c : goal.After-self-1) where
  abbrev words : List ℕ
  words = held c.self.inside.block.words

  abbrev count : ℕ
  count = c.self.inside.count

  abbrev room : ℕ
  room = c.self.inside.room

  counted : count ≡ length words
  counted = count_held c.self.inside.block.words count room c.self.invariant.0

  longer : count ≤ c.args.len
  longer = omega (arith, c.if-len-self.false)

  within : c.args.len ≤ room
  within = omega (arith, c.if-len-self-2.true)

  long : length (words ++ replicate (c.args.len - count) 0) ≡ c.args.len
  long = long_zeros words count c.args.len counted longer

  cells : c.clear.new.block.words ≡ map Some (words ++ replicate (c.args.len - count) 0) ++ replicate (room - c.args.len) None
  cells =
      c.clear.ensures.words
      ∙ (ap (λ (cs : List (Option ℕ)). take count cs ++ replicate (c.args.len - count) (Some 0) ++ drop c.args.len cs) c.self.invariant.0.all
      ∙ longer_cells words count c.args.len room counted longer within)

  now : held c.clear.new.block.words ≡ words ++ replicate (c.args.len - count) 0
  now = ap held cells ∙ held_front (words ++ replicate (c.args.len - count) 0) (room - c.args.len)

pub invariant_of-self : goal.invariant_of-self
invariant_of-self c =
    let laid = c.self.invariant in (
      written_front c.clear.new.block.words (words c ++ replicate (c.args.len - count c) 0) c.args.len (room c) (cells c) (long c)
          (within c) laid.0.fits,
      laid.1 ∙ sym c.clear.ensures.at,
      laid.2,
      laid.3,
    )

pub returns-then-len-self-2-clause-kept : goal.returns-then-len-self-2-clause-kept
returns-then-len-self-2-clause-kept c =
    (replicate (c.args.len - count c) 0, now c ∙ ap (λ (xs : List ℕ). xs ++ replicate {A = ℕ} (c.args.len - count c) 0) c.self.view_is)

pub returns-then-len-self-2-clause-ok : goal.returns-then-len-self-2-clause-ok
returns-then-len-self-2-clause-ok c = omega (arith, ap length (now c), long c)
