use Rattle.std.proofs.Common.{◌≡◌, ◌-◌, ◌≤◌, ◌∙◌, ◌++◌, List, ℕ, length, map, take, drop, replicate, Option, Some, None, sym, ap, arith}
use Rattle.ceal_words.specs.Written.{held}
use Rattle.ceal_words.proofs.ChunkLemmas.{count_held, held_front, drop_room, longer_cells, long_zeros, written_front}
use Rattle.ceal_words.proofs.chunk.Chunk.longer.Goals as goal

module _ (c : goal.After-clear) where
  abbrev old : List ℕ
  old = c.args.self.now

  abbrev count : ℕ
  count = c.self.inside.count

  abbrev room : ℕ
  room = c.max-room.result

  counted : count ≡ length old
  counted = count_held c.self.inside.block.words count c.self.inside.room c.self.invariant.0 ∙ ap length c.self.view_is

  within : c.args.len ≤ room
  within = omega (arith, c.max-room.ensures)

  longer : count ≤ c.args.len
  longer = omega (arith, counted, c.requires)

  copied : c.copy.new.block.words ≡ map Some old ++ replicate (room - count) None
  copied =
      c.copy.ensures.words
      ∙ (ap (λ (cs : List (Option ℕ)). map Some old ++ drop (length old) cs) c.in-Some.ensures.0
      ∙ (ap (λ (cs : List (Option ℕ)). map Some old ++ cs) (drop_room (length old) room)
      ∙ ap (λ (j : ℕ). map Some old ++ replicate {A = Option ℕ} (room - j) None) (sym counted)))

  cells : c.clear.new.block.words ≡ map Some (old ++ replicate (c.args.len - count) 0) ++ replicate (room - c.args.len) None
  cells =
      c.clear.ensures.words
      ∙ (ap (λ (cs : List (Option ℕ)). take count cs ++ replicate (c.args.len - count) (Some 0) ++ drop c.args.len cs) copied
      ∙ longer_cells old count c.args.len room counted longer within)

pub invariant_of-result : goal.invariant_of-result
invariant_of-result c =
    let made = c.in-Some.ensures in
    let at = c.clear.ensures.at ∙ c.copy.ensures.at in (
      written_front c.clear.new.block.words (old c ++ replicate (c.args.len - count c) 0) c.args.len (room c) (cells c) (long_zeros (old c) (count c) c.args.len (counted c) (longer c)) (within c)
          (omega (arith, c.if-room-gt-MOST_WORDS.false)),
      made.1 ∙ sym at,
      made.2,
      made.3,
    )

pub returns-in-Some : goal.returns-in-Some
returns-in-Some c =
    ap held (cells c)
    ∙ (held_front (old c ++ replicate (c.args.len - count c) 0) (room c - c.args.len)
    ∙ ap (λ (j : ℕ). c.args.self.now ++ replicate {A = ℕ} (c.args.len - j) 0) (counted c))
