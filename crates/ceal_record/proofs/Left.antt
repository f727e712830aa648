-- The memory after a trace, block by block, and the trace with its blocks in order.
use Rattle.std.proofs.Common.{◌≡◌, ℕ, zero, suc, ◌+◌, ◌≤◌, ◌<◌, ◌==◌, Bool, true, false, if◌then◌else◌, Option, Some}
use Rattle.std.proofs.Common.{List, [], ◌∷◌, ◌++◌, length, map, slice_get, refl, sym, ap, ◌∙◌, append-nil, arith}
use Rattle.std.specs.Option.{option_map}
use Rattle.ceal_base.specs.Block.{Block}
use Rattle.ceal_base.specs.Same.{index_of}
use Rattle.ceal_base.specs.Trace.{Trace, flat, blocks_of}
use Rattle.ceal_base.specs.declared.forest.Item.{Item}
use Rattle.ceal_base.specs.declared.word.BlockId.{BlockId}
use Rattle.ceal_base.specs.declared.word.BlockId.TheVariants.{Input}
use Rattle.ceal_base.specs.declared.word.Word.{Word}
use Rattle.ceal_code.proofs.Replay.AfterLaws.{inputs-law}
use Rattle.ceal_code.proofs.Replay.ReplayedCall.{get-after}
use Rattle.ceal_code.proofs.Words.SameIsEqual.{nat-same}
use Rattle.ceal_code.specs.After.{memory_after}
use Rattle.ceal_code.specs.Program.{Code}
use Rattle.ceal_code.specs.Fitting.{Fits}
use Rattle.ceal_code.specs.Replay.{Store, Replays, count, core_numbers, filled, inputs_after}
use Rattle.ceal_record.proofs.Places.{number-index}
use Rattle.ceal_record.specs.Numbers.{number_of, Counts}
use Rattle.ceal_record.specs.Recorded.{left_by, numbers_of, in_order}
use Rattle.ceal_record.specs.declared.numbers.Numbers.{Numbers}
use Rattle.ceal_theory.specs.Named.{RenamedBy, RenamingLaw}
use Rattle.ceal_theory.specs.Segments.{items_by, RenamedItemsLaw}
use Rattle.ceal_traceck.proofs.Remembering.{allocated-flat, same-below}
use Rattle.ceal_traceck.specs.Items.{allocated, AreMade}

module _ (m : BlockId → Option Block) where
  pub made-all : (left all : List Item) (xs : List Block) → length left ≡ 0 → map Some xs ++ map m (allocated left) ≡ map m (allocated all) → AreMade m all xs
  unfolding AreMade
  made-all [] all xs n h = sym (append-nil (map Some xs)) ∙ h
  made-all (i ∷ is) all xs n h = absurd (omega (arith, n))

-- with other names for the same
pub made-left : (m n : BlockId → Option Block) (l : Trace) (items : List Item) (xs : List Block) → items ≡ flat l → ((b : BlockId) → m b ≡ n b) → AreMade m items xs → map Some xs ≡ map n (blocks_of l)
unfolding AreMade
made-left m n l items xs e h k = k ∙ (ap (λ is. map m (allocated is)) e ∙ (ap (map m) (allocated-flat l) ∙ each (blocks_of l)))
  where
    each : (bs : List BlockId) → map m bs ≡ map n bs
    each [] = refl
    each (b ∷ bs) = rw (h b, each bs) refl

after-count : (code : Code) (s : Store) (n : ℕ) (blocks : List Block) → length (inputs_after code s n blocks) ≡ length blocks
after-count code s n [] = refl
after-count code s n (b ∷ bs) = ap suc (after-count code s (n + 1) bs)

get-there : {A : Type 0} (xs : List A) (i : ℕ) → i < length xs → (x : A) × (slice_get xs i ≡ Some x)
get-there [] i h = absurd (omega (arith, h))
get-there (x ∷ xs) zero h = (x, refl)
get-there (x ∷ xs) (suc i) h = get-there xs i (omega (arith, h))

-- The input blocks are those of the memory after the trace, one by one.
pub inputs-same : (code : Code) (inputs : List Block) (f : ℕ) (args : List Word) (l : Trace) → Replays code inputs f args l → (ms : List Block) → length ms ≡ length inputs
    → ((n : ℕ) (old b : Block) → slice_get inputs n ≡ Some old → memory_after code inputs l (Input n) ≡ Some b → b.shape ≡ old.shape → slice_get ms n ≡ Some b)
    → ms ≡ inputs_after code (left_by code inputs l) 0 inputs
inputs-same code inputs f args l r ms n each =
    same-below ms (inputs_after code (left_by code inputs l) 0 inputs) (n ∙ sym (after-count code (left_by code inputs l) 0 inputs)) (λ i h. one i (omega (arith, h, n)))
  where
    one : (i : ℕ) → i < length inputs → slice_get ms i ≡ slice_get (inputs_after code (left_by code inputs l) 0 inputs) i
    one i h =
        let old = get-there inputs i h in
        let s = left_by code inputs l in
        let is : slice_get (inputs_after code s 0 inputs) i ≡ Some (filled code s (Input (0 + i)) old.0) = get-after code s 0 inputs i ∙ ap (option_map (filled code s (Input (0 + i)))) old.1 in
        each i old.0 (filled code s (Input (0 + i)) old.0) old.1 (sym (inputs-law code inputs f args l r s i) ∙ is) refl ∙ sym is

-- two numbers of a list that are at one place are one
index-one : (bs : List ℕ) (b c : ℕ) → 1 ≤ count b bs → 1 ≤ count c bs → index_of bs b ≡ index_of bs c → b ≡ c
index-one [] b c h k e = absurd (omega (arith, h))
index-one (d ∷ ds) b c h k e = go (d == b) refl (d == c) refl h k e (index-one ds b c)
  where
    go : (x : Bool) → (d == b) ≡ x → (y : Bool) → (d == c) ≡ y → 1 ≤ (if x then 1 else 0) + count b ds → 1 ≤ (if y then 1 else 0) + count c ds
        → (if x then 0 else index_of ds b + 1) ≡ (if y then 0 else index_of ds c + 1) → (1 ≤ count b ds → 1 ≤ count c ds → index_of ds b ≡ index_of ds c → b ≡ c) → b ≡ c
    go true i true j h k e later = sym (nat-same d b i) ∙ nat-same d c j
    go true i false j h k e later = absurd (omega (arith, e))
    go false i true j h k e later = absurd (omega (arith, e))
    go false i false j h k e later = later (omega (arith, h)) (omega (arith, k)) (omega (arith, e))

-- the items with the numbers in place of those of the blocks are those of the trace in order
pub forest-in-order : RenamedItemsLaw → (t : Numbers) (items forest : List Item) → Counts t (core_numbers (allocated items)) → forest ≡ items_by (number_of t) items
    → (l : Trace) → items ≡ flat l → forest ≡ flat (in_order l)
unfolding in_order
forest-in-order items-law t items forest counts is l e =
    let numbers : core_numbers (allocated items) ≡ numbers_of l = ap (λ x. core_numbers (allocated x)) e ∙ ap core_numbers (allocated-flat l) in
    is ∙ (ap (λ f. items_by f items) (number-index t (core_numbers (allocated items)) counts ∙ ap index_of numbers)
    ∙ (ap (items_by (index_of (numbers_of l))) e ∙ sym (items-law (index_of (numbers_of l)) l)))

-- it is the trace renamed one to one, and so a trace of the call
pub ordered : RenamingLaw → (code : Code) (inputs : List Block) (f : ℕ) (args : List Word) → Fits code inputs f args → (l : Trace) → Replays code inputs f args l
    → RenamedBy code inputs f args (index_of (numbers_of l)) l
ordered renaming code inputs f args fits l r = renaming code inputs f args fits l r (index_of (numbers_of l)) (index-one (numbers_of l))

pub replays-in-order : RenamingLaw → (code : Code) (inputs : List Block) (f : ℕ) (args : List Word) → Fits code inputs f args → (l : Trace) → Replays code inputs f args l
    → Replays code inputs f args (in_order l)
unfolding in_order
replays-in-order renaming code inputs f args fits l r = (ordered renaming code inputs f args fits l r).replays
