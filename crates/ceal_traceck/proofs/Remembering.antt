-- The memory after flat items is that after their trace.
use Rattle.std.proofs.Common.{◌≡◌, ℕ, suc, ◌+◌, ◌<◌, List, [], ◌∷◌, ◌++◌, length, map, slice_get, refl, sym, ap, ap₂, ◌∙◌, append_assoc, append-nil, arith}
use Rattle.std.specs.Prelude.{◌↔◌}
use Rattle.ceal_base.specs.Block.{Block}
use Rattle.ceal_base.specs.Trace.{Trace, Nothing, Stepped, Allocated, Wrote, WasRead, flat, blocks_of}
use Rattle.ceal_base.specs.declared.forest.Item.{Item}
use Rattle.ceal_base.specs.declared.forest.Item.TheVariants.{End}
use Rattle.ceal_base.specs.declared.recorded.Record.{Record}
use Rattle.ceal_base.specs.declared.word.BlockId.TheVariants.{Input}
use Rattle.ceal_code.proofs.Replay.AfterLaws.{inputs-law}
use Rattle.ceal_code.proofs.Words.SameIsEqual.{some-same}
use Rattle.ceal_code.specs.After.{store_after, memory_after}
use Rattle.ceal_code.specs.Program.{Code}
use Rattle.ceal_code.specs.Replay.{Store, plain_of, bases, Replays, block_after, inputs_after}
use Rattle.ceal_code.specs.Value.{Plain}
use Rattle.ceal_traceck.specs.Items.{allocated, AreMade}
use Rattle.ceal_traceck.specs.Verdicts.{Remembered}

allocated-then : (l : Trace) (is : List Item) → allocated (flat l ++ is) ≡ blocks_of l ++ allocated is
allocated-then Nothing is = refl
allocated-then (Stepped l) is = allocated-then l is
allocated-then (Allocated b key l) is = ap (λ bs. b ∷ bs) (allocated-then l is)
allocated-then (Wrote p value l) is = allocated-then l is
allocated-then (WasRead p value u v args inside l) is =
    rw (append_assoc (flat inside) (End ∷ flat l) is)
    (allocated-then inside (End ∷ (flat l ++ is)) ∙ (ap (λ bs. blocks_of inside ++ bs) (allocated-then l is) ∙ sym (append_assoc (blocks_of inside) (blocks_of l) (allocated is))))

pub allocated-flat : (l : Trace) → allocated (flat l) ≡ blocks_of l
allocated-flat l = ap allocated (sym (append-nil (flat l))) ∙ (allocated-then l [] ∙ append-nil (blocks_of l))

pub same-below : {A : Type 0} (xs ys : List A) → length xs ≡ length ys → ((i : ℕ) → i < length xs → slice_get xs i ≡ slice_get ys i) → xs ≡ ys
same-below [] [] e h = refl
same-below [] (y ∷ ys) e h = absurd (omega (arith, e))
same-below (x ∷ xs) [] e h = absurd (omega (arith, e))
same-below (x ∷ xs) (y ∷ ys) e h = ap₂ ◌∷◌ (some-same x y (h 0 (omega arith))) (same-below xs ys (omega (arith, e)) (λ i k. h (suc i) (omega (arith, k))))

after-length : (code : Code) (s : Store) (n : ℕ) (blocks : List Block) → length (inputs_after code s n blocks) ≡ length blocks
after-length code s n [] = refl
after-length code s n (b ∷ bs) = ap suc (after-length code s (n + 1) bs)

-- what the code asks of a memory, whose plain words are x and whose store is s
abbrev pub Asked : Code → Record → Plain → Store → Type 0
Asked code r x s =
    (length r.memory.inputs ≡ length r.inputs)
    × ((i : ℕ) → i < length r.memory.inputs → block_after code x s (Input i) ≡ slice_get r.memory.inputs i)
    × AreMade (λ b. block_after code x s b) r.forest r.memory.made

module _ (code : Code) (r : Record) (l : Trace) (items : r.forest ≡ flat l) (replays : Replays code r.inputs r.function r.args l) where
  made-blocks : map (λ b. block_after code (plain_of code r.inputs l) (store_after code (bases code r.inputs) l) b) (allocated r.forest) ≡ map (memory_after code r.inputs l) (blocks_of l)
  made-blocks = ap (map (memory_after code r.inputs l)) (ap allocated items ∙ allocated-flat l)

  asked-remembered : Asked code r (plain_of code r.inputs l) (store_after code (bases code r.inputs) l) → Remembered code r l
  unfolding AreMade
  asked-remembered (n, inputs, made) = record {
    inputs = same-below r.memory.inputs (inputs_after code (store_after code (bases code r.inputs) l) 0 r.inputs)
        (n ∙ sym (after-length code (store_after code (bases code r.inputs) l) 0 r.inputs))
        (λ i k. sym (inputs i k) ∙ sym (inputs-law code r.inputs r.function r.args l replays (store_after code (bases code r.inputs) l) i));
    made = made ∙ made-blocks;
  }

  remembered-asked : Remembered code r l → Asked code r (plain_of code r.inputs l) (store_after code (bases code r.inputs) l)
  unfolding AreMade
  remembered-asked h = (
    ap length h.inputs ∙ after-length code (store_after code (bases code r.inputs) l) 0 r.inputs,
    λ i k. sym (inputs-law code r.inputs r.function r.args l replays (store_after code (bases code r.inputs) l) i) ∙ ap (λ bs. slice_get bs i) (sym h.inputs),
    h.made ∙ sym made-blocks,
  )

  -- the recorded memory is the one after the trace where all that is asked holds
  pub asked : (x : Plain) (s : Store) → x ≡ plain_of code r.inputs l → s ≡ store_after code (bases code r.inputs) l → Asked code r x s ↔ Remembered code r l
  asked x s e k = rw (e, k) (asked-remembered, remembered-asked)

-- what is asked with other names for the same
pub asked-moved : (code now : Code) (r : Record) (x : Plain) (s : Store) (n : ℕ) (is : List Item) → now ≡ code → n ≡ length r.inputs → is ≡ r.forest
    → ((length r.memory.inputs ≡ n) × ((i : ℕ) → i < length r.memory.inputs → block_after now x s
    (Input i) ≡ slice_get r.memory.inputs i) × AreMade (λ b. block_after now x s b) is r.memory.made)
    ↔ Asked code r x s
asked-moved code now r x s n is e f g = rw (e, f, g) (λ h. h, λ h. h)
