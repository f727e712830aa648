-- When a repair is done: its items replay the call and are honest.
use Rattle.std.proofs.Common.{◌≡◌, ℕ, None, List, [], ◌∷◌, length, refl, sym, subst}
use Rattle.ceal_base.specs.Block.{Block}
use Rattle.ceal_base.specs.Trace.{Trace}
use Rattle.ceal_base.specs.declared.word.BlockId.{BlockId}
use Rattle.ceal_base.specs.declared.word.BlockId.TheVariants.{Input, Core}
use Rattle.ceal_base.specs.declared.word.Place.{Place}
use Rattle.ceal_base.specs.declared.word.Word.{Word}
use Rattle.ceal_code.proofs.TypedCode.FittingWords.{args-known}
use Rattle.ceal_code.proofs.Words.StepLocality.{stack-more, words_after_read-known, next-known}
use Rattle.ceal_code.specs.Fitting.{Fits}
use Rattle.ceal_code.specs.Known.{Holds, KnownStack, KnownAct}
use Rattle.ceal_code.specs.Program.{Code}
use Rattle.ceal_code.specs.Replay.{Yields, Honest, Store, KnownBlock, KnownWord, Mentions, input_plain, plain_of, plain_after, bases, Replays, IsHonest}
use Rattle.ceal_code.specs.Step.{Stack, Empty, Act, Quiet, Makes, Writes, Reads, started, next}
use Rattle.ceal_code.specs.Value.{Plain}
use Rattle.ceal_theory.proofs.Repair.RepairInvariant.{Extends}
use Rattle.ceal_theory.proofs.Store.WordsGrow.{mentions-subset}
use Rattle.ceal_theory.proofs.Repair.Honesty.{fix-honest}
use Rattle.ceal_theory.proofs.Store.FittingInputs.{inputs-hold, bases-known, started-known}
use Rattle.ceal_theory.proofs.Repair.RepairReplays.{holds-over}
use Rattle.ceal_theory.proofs.Repair.RepairYields.{wider, holds-with, ran-known, held-key, cleared-known, stored-known, store-more}
use Rattle.ceal_theory.proofs.Store.WordsOfWalk.{Walked, walked}
use Rattle.ceal_theory.specs.Repair.{State}
use Rattle.ceal_theory.proofs.Store.KnownPlaces.{SameAt, honest-again}
use Rattle.ceal_theory.proofs.SlicedRepair.Soundness.{starting-known, runs-sound}
use Rattle.ceal_theory.specs.Slices.{Repair, with_inputs, starting, starting_in, goes_on, Runs, repair_at, Slices, RepairHolds}

module _ (code : Code) (n : ℕ) (y : Plain) where
  pub record Ordered (bs : List ℕ) (l : Trace) (t : Store) : Type 0 where
    pub known : List ℕ
    pub mentions : Mentions n bs l known
    pub holds : Holds n known y
    pub store : (p : Place) → KnownWord n known (t p)

  knows : (bs : List ℕ) → Holds n bs y → (st : Stack) (a : Act) → KnownStack n bs st → next code y st ≡ a → KnownAct n bs a
  knows bs h st a k e = subst (KnownAct n bs) e (next-known n bs y h y (λ b i. refl) code st k)

  -- what is yielded and honest, from a store that names only known blocks, mentions in order
  pub ordered : {st : Stack} {l : Trace} {s t : Store} → Yields code y st l → Honest code s l t → (bs : List ℕ)
      → Holds n bs y → ((p : Place) → KnownWord n bs (s p)) → KnownStack n bs st → Ordered bs l t
  ordered (Yields.over e) Honest.end bs h g k = record { known = bs; mentions = Mentions.end; holds = h; store = g }
  ordered {st} (Yields.quiet {after = after} e r) (Honest.step w) bs h g k =
      let q = ordered r w bs h g (knows bs h st (Quiet after) k e) in
      record { known = q.known; mentions = Mentions.step q.mentions; holds = q.holds; store = q.store }
  ordered {st} {s = s} (Yields.makes {key = key} {v = v} {u = u} {i = i} {env = env} {below = below} {b = b} e m r) (Honest.step (Honest.alloc w)) bs h g k =
      let a = knows bs h st (Makes key v u i env below) k e in
      let held = held-key code n y bs y key b h (λ c block i. i) a.0 m in
      let q = ordered r w (b ∷ bs) (holds-with n bs y y b h (λ c block i. i) held)
      (cleared-known code n (b ∷ bs) s (Core b) key (store-more n bs (b ∷ bs) s (wider b bs) g))
      (ran-known n bs key b v u i env below a.1 a.2) in
      record { known = q.known; mentions = Mentions.step (Mentions.alloc a.0 q.mentions); holds = q.holds; store = q.store }
  ordered {st} {s = s} (Yields.writes {after = after} {p = p} {value = value} e r) (Honest.step (Honest.write w)) bs h g k =
      let a = knows bs h st (Writes p value after) k e in
      let q = ordered r w bs h (stored-known n bs s p value g a.1) a.2 in
      record { known = q.known; mentions = Mentions.step (Mentions.write a.0 a.1 q.mentions); holds = q.holds; store = q.store }
  ordered {st} {s = s} (Yields.reads {below = below} {p = p} {u = u} {v = v} {args = args} {value = value} {inside = inside} e r1 r2) (Honest.step (Honest.read same w1 w2)) bs h g k =
      let a = knows bs h st (Reads p u v args below) k e in
      let kv : KnownWord n bs value = subst (KnownWord n bs) same (g p) in
      let q1 = ordered r1 w1 bs h g (words_after_read-known n bs code u.0 v args value Empty a.1 kv tt) in
      let q2 = ordered r2 w2 q1.known q1.holds q1.store (stack-more n bs q1.known (mentions-subset q1.mentions) below a.2) in
      record { known = q2.known; mentions = Mentions.step (Mentions.read a.0 kv a.1 q1.mentions q2.mentions); holds = q2.holds; store = q2.store }

-- the places of inputs have their bases at the beginning
pub same-bases : (code : Code) (inputs : List Block) (x : Plain) → SameAt (length inputs) [] (starting code inputs x) (bases code inputs)
unfolding starting bases
same-bases code inputs x p k = go p.block k
  where
    go : (b : BlockId) → KnownBlock (length inputs) [] b → starting_in code inputs x b p.field ≡ bases code inputs (record { block = b; field = p.field })
    go (Input i) k = refl
    go (Core c) k = elim k [ ]

module _ {names : ℕ → ℕ} (code : Code) (inputs : List Block) (f : ℕ) (args : List Word) (fits : Fits code inputs f args) (r : Repair) (h : RepairHolds code names inputs f args r) where
  x : Plain
  x = with_inputs code inputs r.known

  from-inputs : Extends (input_plain code inputs) (with_inputs code inputs r.known)
  unfolding with_inputs input_plain
  from-inputs (Input i) block e = e
  from-inputs (Core c) block e = Rattle.ceal_code.proofs.Words.SameIsEqual.none-some block e

  start : KnownStack (length inputs) [] (started code f args)
  start = started-known (length inputs) [] code f args (args-known code inputs f args fits)

  pub begun : Holds (length inputs) [] (with_inputs code inputs r.known)
  begun = holds-over (length inputs) [] (input_plain code inputs) (with_inputs code inputs r.known) (inputs-hold code inputs fits.blocks) from-inputs

  module _ (s t : Store) (known : (p : Place) → KnownWord (length inputs) [] (s p)) (w : Honest code s r.items t) where
    pub in-order : Ordered code (length inputs) (with_inputs code inputs r.known) [] r.items t
    in-order = ordered code (length inputs) (with_inputs code inputs r.known) h.yields w [] begun known start

    walk : Walked code (length inputs) (input_plain code inputs) (with_inputs code inputs r.known) (started code f args) r.items in-order.known
    walk = walked code (length inputs) (with_inputs code inputs r.known) h.yields [] in-order.known (input_plain code inputs) (inputs-hold code inputs fits.blocks) from-inputs start in-order.mentions

    pub replays : Replays code inputs f args r.items
    unfolding plain_of
    replays = record {
      yields = walk.yields (plain_after code (input_plain code inputs) r.items) (λ b block e. e);
      distinct = h.distinct;
      known = in-order.known;
      mentions = in-order.mentions;
    }

  -- the words that a trace of the call gives to its blocks are those that are known
  pub replays-words : Replays code inputs f args r.items → Extends (plain_of code inputs r.items) (with_inputs code inputs r.known)
  unfolding plain_of
  replays-words p =
      (walked code (length inputs) (with_inputs code inputs r.known) h.yields [] p.known (input_plain code inputs) (inputs-hold code inputs fits.blocks) from-inputs start p.mentions).within

  -- a repair that holds and is honest replays the call
  pub done-replays : IsHonest code inputs r.items → Replays code inputs f args r.items
  done-replays k = replays (bases code inputs) k.after (bases-known code inputs fits.blocks) k.walk

-- the store at the beginning of any repair does for that
pub any-start-honest : {names : ℕ → ℕ} (code : Code) (inputs : List Block) (f : ℕ) (args : List Word) → Fits code inputs f args → (r : Repair) → RepairHolds code names inputs f args r
    → (z : Plain) (t : Store) → Honest code (starting code inputs z) r.items t → IsHonest code inputs r.items
any-start-honest code inputs f args fits r h z t w =
    let o = in-order code inputs f args fits r h (starting code inputs z) t (starting-known code inputs fits.blocks z) w in
    let q = honest-again code (length inputs) w o.mentions (bases code inputs) (same-bases code inputs z) in
    record { after = q.after; walk = q.walk }

whole-end : {names : ℕ → ℕ} (code : Code) (inputs : List Block) (f : ℕ) (args : List Word) → Fits code inputs f args → (r : Repair) → RepairHolds code names inputs f args r
    → (s' : State) (m : Trace) → Runs code names None (goes_on code inputs r) r.items s' m → IsHonest code inputs m
whole-end code inputs f args fits r h s' m (Runs.whole g) =
    any-start-honest code inputs f args fits (repair_at s' m) (runs-sound code inputs f args fits r h None s' m (Runs.whole g)) r.known s'.store (fix-honest g)

-- without a number of reads a slice is done
pub whole-done : {names : ℕ → ℕ} (code : Code) (inputs : List Block) (f : ℕ) (args : List Word) → Fits code inputs f args → (r : Repair) → RepairHolds code names inputs f args r
    → (r' : Repair) → Slices code names inputs None r r' → IsHonest code inputs r'.items
whole-done code inputs f args fits r h r' s =
    subst (λ r. IsHonest code inputs r.items) (sym s.is) (whole-end code inputs f args fits r h s.after s.items s.runs)
