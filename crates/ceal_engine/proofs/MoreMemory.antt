-- Memory after a trace: numbers that the trace has not, and the plain words of its blocks on inputs that extend these.
use Rattle.std.proofs.Common.{◌≡◌, ℕ, zero, suc, ◌+◌, ◌≤◌, ◌==◌, Bool, true, false, Option, Some, None, List, [], ◌∷◌, length, slice_get, refl, sym, ap, ◌∙◌, arith}
use Rattle.std.specs.Option.{option_map}
use Rattle.ceal_base.specs.Block.{Block}
use Rattle.ceal_base.specs.Shapes.{kinds_of_shape}
use Rattle.ceal_base.specs.Trace.{Trace, blocks_of}
use Rattle.ceal_base.specs.declared.kind.FieldKind.{FieldKind}
use Rattle.ceal_base.specs.declared.word.BlockId.{BlockId}
use Rattle.ceal_base.specs.declared.word.BlockId.TheVariants.{Core}
use Rattle.ceal_base.specs.declared.word.Word.{Word}
use Rattle.ceal_code.proofs.TypedCode.FittingWords.{args-known}
use Rattle.ceal_code.proofs.Alike.BlockPairs.{one_if}
use Rattle.ceal_code.proofs.Words.SameIsEqual.{none-some, nat-same}
use Rattle.ceal_code.specs.After.{store_after, memory_after}
use Rattle.ceal_code.specs.Fitting.{Fits}
use Rattle.ceal_code.specs.Program.{Code}
use Rattle.ceal_code.specs.Replay.{Store, In, here, Mentions, Replays, input_plain, plain_after, plain_of, bases, with_contents, filled, block_after}
use Rattle.ceal_code.specs.Step.{started}
use Rattle.ceal_theory.proofs.Repair.DistinctBlocks.{uses, times-append}
use Rattle.ceal_theory.proofs.Repair.RepairInvariant.{Extends}
use Rattle.ceal_theory.proofs.Store.WordsGrow.{mentions-subset}
use Rattle.ceal_theory.proofs.Store.FittingInputs.{inputs-hold, inputs-extend, no-core, started-known}
use Rattle.ceal_theory.proofs.Store.WordsOfWalk.{Walked, walked}
use Rattle.ceal_theory.proofs.Repair.RepairReplays.{plain-none, plain-from}
use Rattle.ceal_theory.specs.Adjust.{Extended}

-- each block of the trace is known at its end
pub uses-known : {n : ℕ} {bs cs : List ℕ} {l : Trace} → Mentions n bs l cs → (b : ℕ) → 1 ≤ uses b l → In b cs
uses-known Mentions.end b h = absurd (omega (arith, h))
uses-known (Mentions.step m) b h = uses-known m b h
uses-known {cs = cs} (Mentions.alloc {bs = bs} {b = c} {rest = rest} k m) b h = go (c == b) refl (uses-known m b)
  where
    none : (c == b) ≡ false → one_if b c ≡ 0
    none e = rw e refl

    go : (t : Bool) → (c == b) ≡ t → (1 ≤ uses b rest → In b cs) → In b cs
    go true e f = rw (← nat-same c b e) (mentions-subset m c here)
    go false e f = f (omega (arith, h, none e))
uses-known (Mentions.write k j m) b h = uses-known m b h
uses-known {cs = cs} (Mentions.read {ds = ds} {inside = inside} {rest = rest} k j i m1 m2) b h = go (uses b inside) refl (uses-known m1 b) (uses-known m2 b)
  where
    go : (x : ℕ) → uses b inside ≡ x → (1 ≤ uses b inside → In b ds) → (1 ≤ uses b rest → In b cs) → In b cs
    go zero e f g = g (omega (arith, h, e, times-append b (blocks_of inside) (blocks_of rest)))
    go (suc x) e f g = mentions-subset m2 b (f (omega (arith, e)))

module _ (code : Code) (inputs : List Block) (f : ℕ) (args : List Word) (l : Trace) (r : Replays code inputs f args l) where
  -- there is no core block of a number that the trace has not
  pub core-none : (c : ℕ) → uses c l ≡ 0 → memory_after code inputs l (Core c) ≡ None
  unfolding block_after plain_of
  core-none c h = ap (option_map (filled code (store_after code (bases code inputs) l) (Core c))) (plain-none code (input_plain code inputs) l c h (no-core code inputs c))

pub get-out : {A : Type 0} (xs : List A) (n : ℕ) → length xs ≤ n → slice_get xs n ≡ None
get-out [] n h = refl
get-out (x ∷ xs) zero h = absurd (omega (arith, h))
get-out (x ∷ xs) (suc n) h = get-out xs n (omega (arith, h))

contents-same : (s t : Store) (b : BlockId) (n : ℕ) → ((f : ℕ) → s (record { block = b; field = f }) ≡ t (record { block = b; field = f })) → (kinds : List FieldKind) (words : List Word)
    → with_contents s b n kinds words ≡ with_contents t b n kinds words
contents-same s t b n h [] words = refl
contents-same s t b n h (kind ∷ kinds) [] = refl
contents-same s t b n h (kind ∷ kinds) (w ∷ words) = rw (h n, contents-same s t b (n + 1) h kinds words) refl

pub filled-same : (code : Code) (s t : Store) (b : BlockId) → ((f : ℕ) → s (record { block = b; field = f }) ≡ t (record { block = b; field = f })) → (o : Option Block)
    → option_map (filled code s b) o ≡ option_map (filled code t b) o
filled-same code s t b h None = refl
filled-same code s t b h (Some block) = ap (λ ws. Some (record { shape = block.shape; words = ws })) (contents-same s t b 0 h (kinds_of_shape code.structs block.shape) block.words)

module _ (code : Code) (inputs more : List Block) (f : ℕ) (args : List Word) (fits : Fits code inputs f args) (extended : Extended code inputs more) (l : Trace)
    (r : Replays code inputs f args l) where
  old-plain : Extends (input_plain code inputs) (plain_of code inputs l)
  unfolding plain_of
  old-plain = plain-from code r.yields (input_plain code inputs) r.distinct (λ c h. no-core code inputs c)

  walk : Walked code (length inputs) (input_plain code inputs) (plain_of code inputs l) (started code f args) l r.known
  walk =
      walked code (length inputs) (plain_of code inputs l) r.yields [] r.known (input_plain code inputs) (inputs-hold code inputs fits.blocks) old-plain
      (started-known (length inputs) [] code f args (args-known code inputs f args fits)) r.mentions

  -- the plain words of the core blocks follow from the trace, on all inputs that extend these
  pub core-plain : (c : ℕ) → plain_of code more l (Core c) ≡ plain_of code inputs l (Core c)
  unfolding plain_of
  core-plain c = go (uses c l) refl (plain_after code (input_plain code inputs) l (Core c)) refl
    where
      go : (n : ℕ) → uses c l ≡ n → (o : Option Block) → plain_after code (input_plain code inputs) l (Core c) ≡ o
          → plain_after code (input_plain code more) l (Core c) ≡ plain_after code (input_plain code inputs) l (Core c)
      go n h (Some block) e = walk.mono (input_plain code more) (inputs-extend code inputs more extended) (Core c) block e ∙ sym e
      go zero h None e = plain-none code (input_plain code more) l c h (no-core code more c) ∙ sym e
      go (suc n) h None e = let k = walk.holds (Core c) (uses-known r.mentions c (omega (arith, h))) in none-some k.block (sym e ∙ k.there)
