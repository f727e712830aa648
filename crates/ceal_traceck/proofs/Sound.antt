-- The laws of the verdicts.
use Rattle.std.proofs.Common.{◌≡◌, ℕ, zero, suc, ◌<◌, ◌≤◌, ◌==◌, Bool, true, false, Option, Some, List, [], ◌∷◌, length, map, slice_get, slice_index, refl, sym, ap, ◌∙◌, subst, arith}
use Rattle.std.specs.Option.{option_map}
use Rattle.ceal_base.proofs.TraceLemmas.{steps-flat}
use Rattle.ceal_base.specs.Block.{Block}
use Rattle.ceal_base.specs.Same.{index_of, renamed_block}
use Rattle.ceal_base.specs.Trace.{Trace, steps_in, steps_of, blocks_of}
use Rattle.ceal_base.specs.declared.recorded.Record.{Record}
use Rattle.ceal_base.specs.declared.word.BlockId.{BlockId}
use Rattle.ceal_base.specs.declared.word.BlockId.TheVariants.{Input, Core}
use Rattle.ceal_code.proofs.Replay.AfterLaws.{store-law}
use Rattle.ceal_code.proofs.Alike.BlockPairs.{one-at}
use Rattle.ceal_code.proofs.Replay.ReplayedCall.{all-core, trace-law}
use Rattle.ceal_code.proofs.Words.SameIsEqual.{nat-same, nat-refl}
use Rattle.ceal_code.specs.After.{store_after, memory_after}
use Rattle.ceal_code.specs.Program.{Code}
use Rattle.ceal_code.specs.Replay.{Distinct, count, core_numbers, bases, plain_of, block_after, inputs_after}
use Rattle.ceal_traceck.proofs.Checked.{same-trace}
use Rattle.ceal_traceck.specs.Laws.{SoundLaw, OneVerdictLaw}
use Rattle.ceal_traceck.specs.Verdicts.{Replayed, IsHonestRecord, Remembered, Means}
use Rattle.ceal_traceck.specs.declared.verdict.Verdict.{Verdict}
use Rattle.ceal_traceck.specs.declared.verdict.Verdict.TheVariants.{Yes, NoFit, NotReplay, NotHonest, MemoryDiffers}

-- the lengths of lists that are mapped to one list
mapped-length : {A B C : Type 0} (f : A → C) (g : B → C) (xs : List A) (ys : List B) → map f xs ≡ map g ys → length xs ≡ length ys
mapped-length f g [] [] e = refl
mapped-length f g [] (y ∷ ys) e = cc
mapped-length f g (x ∷ xs) [] e = cc
mapped-length f g (x ∷ xs) (y ∷ ys) e = let k : map f xs ≡ map g ys = cc in ap suc (mapped-length f g xs ys k)

-- a number of a list is in it
index-count : (bs : List ℕ) (i : ℕ) → i < length bs → 1 ≤ count (slice_index bs i) bs
index-count [] i h = absurd (omega (arith, h))
index-count (b ∷ bs) zero h = omega (arith, one-at b b refl)
index-count (b ∷ bs) (suc i) h = omega (arith, index-count bs i (omega (arith, h)))

-- where a number of a list is
pub index-slice : (bs : List ℕ) → Distinct bs → (i : ℕ) → i < length bs → index_of bs (slice_index bs i) ≡ i
index-slice [] d i h = absurd (omega (arith, h))
index-slice (b ∷ bs) d zero h = rw (nat-refl b) refl
index-slice (b ∷ bs) d (suc i) h = go (b == slice_index bs i) refl (index-slice bs (λ c. omega (arith, d c)) i (omega (arith, h)))
  where
    go : (t : Bool) → (b == slice_index bs i) ≡ t → index_of bs (slice_index bs i) ≡ i → index_of (b ∷ bs) (slice_index bs i) ≡ suc i
    go true e later = absurd (omega (arith, d (slice_index bs i), one-at (slice_index bs i) b (nat-same b (slice_index bs i) e), index-count bs i (omega (arith, h))))
    go false e later = rw e (omega (arith, later))

cores-few : (bs : List BlockId) → length (core_numbers bs) ≤ length bs
cores-few [] = omega arith
cores-few (Core b ∷ bs) = omega (arith, cores-few bs)
cores-few (Input i ∷ bs) = omega (arith, cores-few bs)

-- core blocks in the order of their numbers
made-at : (m : BlockId → Option Block) (bs : List BlockId) (made : List Block) → map Some made ≡ map m bs → length (core_numbers bs) ≡ length bs
    → (i : ℕ) → i < length (core_numbers bs) → slice_get made i ≡ m (Core (slice_index (core_numbers bs) i))
made-at m [] made e n i h = absurd (omega (arith, h))
made-at m (Input j ∷ bs) made e n i h = absurd (omega (arith, n, cores-few bs))
made-at m (Core b ∷ bs) [] e n i h = cc
made-at m (Core b ∷ bs) (c ∷ made) e n zero h = cc
made-at m (Core b ∷ bs) (c ∷ made) e n (suc i) h = let k : map Some made ≡ map m bs = cc in made-at m bs made k (omega (arith, n)) i (omega (arith, h))

pub sound-law : SoundLaw
sound-law code r (fits, (l, replayed, honest, remembered)) =
    let numbers = core_numbers (blocks_of l) in
    let d = trace-law code r.inputs r.function r.args fits.call l replayed.replays honest in
    let store : honest.after ≡ store_after code (bases code r.inputs) l = store-law code (bases code r.inputs) honest.after l honest.walk in
    let steps : steps_in r.forest ≡ steps_of l = ap steps_in replayed.items ∙ steps-flat l in
    let blocks : length r.memory.made ≡ length (blocks_of l) = mapped-length Some (memory_after code r.inputs l) r.memory.made (blocks_of l) remembered.made in
    let inputs : r.memory.inputs ≡ inputs_after code honest.after 0 r.inputs = remembered.inputs ∙ ap (λ s. inputs_after code s 0 r.inputs) (sym store) in
    record {
      trace = l;
      items = replayed.items;
      memory = d.memory;
      same = record {
        distinct = d.same.distinct;
        each_input = ap (map (renamed_block numbers)) inputs ∙ d.same.each_input;
        count = d.same.count;
        each_core = λ i k.
            let at : slice_get r.memory.made (index_of numbers (slice_index numbers i)) ≡ memory_after code r.inputs l (Core (slice_index numbers i)) =
            ap (slice_get r.memory.made) (index-slice numbers replayed.replays.distinct i k)
            ∙ made-at (memory_after code r.inputs l) (blocks_of l) r.memory.made remembered.made (all-core replayed.replays.yields) i k in
            ap (option_map (renamed_block numbers)) (at ∙ ap (λ s. block_after code (plain_of code r.inputs l) s (Core (slice_index numbers i))) (sym store)) ∙ d.same.each_core i k;
      };
      ends = λ fuel k. rw (steps, blocks) (d.ends fuel (omega (arith, k, steps)));
      short = λ fuel k. d.short fuel (omega (arith, k, steps));
    }

module _ (code : Code) (r : Record) where
  same-honest : (l m : Trace) → Replayed code r l → Replayed code r m → IsHonestRecord code r l → IsHonestRecord code r m
  same-honest l m h k = subst (λ l. IsHonestRecord code r l) (same-trace r.forest l m h.items k.items)

  same-remembered : (l m : Trace) → Replayed code r l → Replayed code r m → Remembered code r l → Remembered code r m
  same-remembered l m h k = subst (λ l. Remembered code r l) (same-trace r.forest l m h.items k.items)

  yes-honest : Means code r Yes → Means code r NotHonest → ⊥
  yes-honest (f, (l, h, honest, memory)) (g, (m, k, absent)) = absent (same-honest l m h k honest)

  yes-memory : Means code r Yes → Means code r MemoryDiffers → ⊥
  yes-memory (f, (l, h, honest, memory)) (g, (m, k, honest', absent)) = absent (same-remembered l m h k memory)

  memory-honest : Means code r MemoryDiffers → Means code r NotHonest → ⊥
  memory-honest (f, (l, h, honest, memory)) (g, (m, k, absent)) = absent (same-honest l m h k honest)

  pub one-verdict : (v w : Verdict) → Means code r v → Means code r w → v ≡ w
  one-verdict Yes Yes h k = refl
  one-verdict Yes NoFit h k = absurd (k h.0)
  one-verdict Yes NotReplay h k = absurd (k.1 h.1.0 h.1.1)
  one-verdict Yes NotHonest h k = absurd (yes-honest h k)
  one-verdict Yes MemoryDiffers h k = absurd (yes-memory h k)
  one-verdict NoFit Yes h k = absurd (h k.0)
  one-verdict NoFit NoFit h k = refl
  one-verdict NoFit NotReplay h k = absurd (h k.0)
  one-verdict NoFit NotHonest h k = absurd (h k.0)
  one-verdict NoFit MemoryDiffers h k = absurd (h k.0)
  one-verdict NotReplay Yes h k = absurd (h.1 k.1.0 k.1.1)
  one-verdict NotReplay NoFit h k = absurd (k h.0)
  one-verdict NotReplay NotReplay h k = refl
  one-verdict NotReplay NotHonest h k = absurd (h.1 k.1.0 k.1.1)
  one-verdict NotReplay MemoryDiffers h k = absurd (h.1 k.1.0 k.1.1)
  one-verdict NotHonest Yes h k = absurd (yes-honest k h)
  one-verdict NotHonest NoFit h k = absurd (k h.0)
  one-verdict NotHonest NotReplay h k = absurd (k.1 h.1.0 h.1.1)
  one-verdict NotHonest NotHonest h k = refl
  one-verdict NotHonest MemoryDiffers h k = absurd (memory-honest k h)
  one-verdict MemoryDiffers Yes h k = absurd (yes-memory k h)
  one-verdict MemoryDiffers NoFit h k = absurd (k h.0)
  one-verdict MemoryDiffers NotReplay h k = absurd (k.1 h.1.0 h.1.1)
  one-verdict MemoryDiffers NotHonest h k = absurd (memory-honest h k)
  one-verdict MemoryDiffers MemoryDiffers h k = refl

pub one-verdict-law : OneVerdictLaw
one-verdict-law code r = one-verdict code r
