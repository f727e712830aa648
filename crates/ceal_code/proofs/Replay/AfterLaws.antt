-- The laws of memory after a trace.
use Rattle.std.proofs.Common.{◌≡◌, ℕ, ◌+◌, Option, Some, None, List, slice_get, refl, sym, ap, ◌∙◌, arith}
use Rattle.std.specs.Option.{option_map}
use Rattle.ceal_base.specs.Block.{Block}
use Rattle.ceal_base.specs.Trace.{Trace}
use Rattle.ceal_base.specs.declared.word.BlockId.TheVariants.{Input}
use Rattle.ceal_base.specs.declared.word.Word.{Word}
use Rattle.ceal_code.proofs.Replay.ReplayedCall.{input-after, get-after, filled-plain}
use Rattle.ceal_code.specs.After.{store_after}
use Rattle.ceal_code.specs.Program.{Code}
use Rattle.ceal_code.specs.Replay.{Store, Honest, Replays, filled, input_plain, plain_of, block_after, inputs_after}

-- an honest walk ends at the store after its items
pub store-law : (code : Code) (s t : Store) (l : Trace) → Honest code s l t → t ≡ store_after code s l
store-law code s t l Honest.end = refl
store-law code s t l (Honest.step {rest = rest} h) = store-law code s t rest h
store-law code s t l (Honest.alloc {rest = rest} h) = store-law code _ t rest h
store-law code s t l (Honest.write {rest = rest} h) = store-law code _ t rest h
store-law code s t l (Honest.read {t = m} {inside = inside} {rest = rest} e h k) =
    store-law code m t rest k ∙ ap (λ n. store_after code n rest) (store-law code s m inside h)

module _ (code : Code) (inputs : List Block) (f : ℕ) (args : List Word) (l : Trace) (r : Replays code inputs f args l) (s : Store) where
  input-is : (i : ℕ) → plain_of code inputs l (Input i) ≡ input_plain code inputs (Input i)
  unfolding plain_of
  input-is i = input-after code r.yields (input_plain code inputs) i

  input-filled : (i : ℕ) (o : Option Block) → slice_get inputs i ≡ o → option_map (filled code s (Input (0 + i))) o ≡ block_after code (plain_of code inputs l) s (Input i)
  unfolding block_after input_plain
  input-filled i None e = rw (input-is i, e)
  input-filled i (Some block) e = let n : 0 + i ≡ i = omega arith in rw (input-is i, e, n) (ap Some (sym (filled-plain code s (Input i) block)))

  -- the input blocks after a trace are those of the memory
  pub inputs-law : (i : ℕ) → slice_get (inputs_after code s 0 inputs) i ≡ block_after code (plain_of code inputs l) s (Input i)
  inputs-law i = get-after code s 0 inputs i ∙ input-filled i (slice_get inputs i) refl
