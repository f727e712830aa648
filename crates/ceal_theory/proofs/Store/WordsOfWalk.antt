-- What a walk of items that a stack yields does to the plain words.
use Rattle.std.proofs.Common.{◌≡◌, ℕ, ◌≤◌, Bool, true, false, if◌then◌else◌, Some, List, [], ◌∷◌, refl, sym, ap, ◌∙◌, arith}
use Rattle.ceal_base.specs.Block.{Block}
use Rattle.ceal_base.specs.Operators.{same_block}
use Rattle.ceal_base.specs.Trace.{Trace}
use Rattle.ceal_base.specs.declared.forest.Key.{Key}
use Rattle.ceal_base.specs.declared.forest.Key.TheVariants.{Init, ModInt as IntKey, ModPtr as PtrKey}
use Rattle.ceal_base.specs.declared.word.BlockId.{BlockId}
use Rattle.ceal_base.specs.declared.word.BlockId.TheVariants.{Input, Core}
use Rattle.ceal_base.specs.declared.word.Word.{Word}
use Rattle.ceal_base.specs.declared.word.Word.TheVariants.{Num, Null, Block as BlockWord, At}
use Rattle.ceal_code.proofs.Words.StepLocality.{words-more, stack-more, words_after_read-known, made-known, made-same, next-same}
use Rattle.ceal_code.proofs.Words.SameIsEqual.{block-same, some-same}
use Rattle.ceal_code.specs.Init.{made}
use Rattle.ceal_code.specs.Known.{Subset, Held, Holds, KnownStack}
use Rattle.ceal_code.specs.Program.{Code}
use Rattle.ceal_code.specs.Replay.{Yields, here, KnownBlock, KnownWord, KnownWords, KnownKey, Mentions, learnt, plain_after}
use Rattle.ceal_code.specs.Step.{Stack, Empty, Act, Over, Quiet, Makes, Writes, Reads, next}
use Rattle.ceal_code.specs.Value.{Plain}
use Rattle.ceal_theory.proofs.Repair.RepairInvariant.{Extends, extends-trans, agrees, Pieces}
use Rattle.ceal_theory.proofs.Store.WordsGrow.{learnt-here, mentions-subset}
use Rattle.ceal_theory.proofs.Repair.RepairYields.{wider, holds-with, ran-known, step-y}

-- more inputs
module _ (n m : ℕ) (h : n ≤ m) where
  pub block-inputs : (bs : List ℕ) (b : BlockId) → KnownBlock n bs b → KnownBlock m bs b
  block-inputs bs (Input i) k = omega (arith, h, k)
  block-inputs bs (Core c) k = k

  pub word-inputs : (bs : List ℕ) (w : Word) → KnownWord n bs w → KnownWord m bs w
  word-inputs bs (Num k) l = l
  word-inputs bs Null l = l
  word-inputs bs (BlockWord b) l = block-inputs bs b l
  word-inputs bs (At p) l = block-inputs bs p.block l

  pub words-inputs : (bs : List ℕ) (ws : List Word) → KnownWords n bs ws → KnownWords m bs ws
  words-inputs bs [] l = l
  words-inputs bs (w ∷ ws) l = (word-inputs bs w l.0, words-inputs bs ws l.1)

  pub key-inputs : (bs : List ℕ) (key : Key) → KnownKey n bs key → KnownKey m bs key
  key-inputs bs (Init f args) k = words-inputs bs args k
  key-inputs bs IntKey k = k
  key-inputs bs (PtrKey s) k = k

  pub mentions-inputs : {bs cs : List ℕ} {l : Trace} → Mentions n bs l cs → Mentions m bs l cs
  mentions-inputs Mentions.end = Mentions.end
  mentions-inputs (Mentions.step k) = Mentions.step (mentions-inputs k)
  mentions-inputs {bs} (Mentions.alloc {key = key} a k) = Mentions.alloc (key-inputs bs key a) (mentions-inputs k)
  mentions-inputs {bs} (Mentions.write {p = p} {value = v} a b k) = Mentions.write (block-inputs bs p.block a) (word-inputs bs v b) (mentions-inputs k)
  mentions-inputs {bs} (Mentions.read {p = p} {value = v} {args = args} a b c k l) =
      Mentions.read (block-inputs bs p.block a) (word-inputs bs v b) (words-inputs bs args c) (mentions-inputs k) (mentions-inputs l)

learnt-if : (x y : Plain) (b c : BlockId) (new block : Block) (test : Bool) → same_block c b ≡ test
    → Extends x y → y b ≡ Some new → (if test then Some new else x c) ≡ Some block → y c ≡ Some block
learnt-if x y b c new block false s h k e = h c block e
learnt-if x y b c new block true s h k e = rw (block-same c b s) (k ∙ e)

-- a block is learnt that y knows
pub learnt-within : (x y : Plain) (b : BlockId) (new : Block) → Extends x y → y b ≡ Some new → Extends (learnt x b new) y
unfolding learnt
learnt-within x y b new h k c block e = learnt-if x y b c new block (same_block c b) refl h k e

learnt-known-if : (x y : Plain) (b c : BlockId) (new block : Block) (test : Bool) → same_block c b ≡ test
    → Extends x y → y b ≡ Some new → x c ≡ Some block → (if test then Some new else x c) ≡ Some block
learnt-known-if x y b c new block false s h k e = e
learnt-known-if x y b c new block true s h k e = sym k ∙ rw (block-same c b s) at (h c block e)

pub learnt-over : (x y : Plain) (b : BlockId) (new : Block) → Extends x y → y b ≡ Some new → Extends x (learnt x b new)
unfolding learnt
learnt-over x y b new h k c block e = learnt-known-if x y b c new block (same_block c b) refl h k e

both-if : (x w : Plain) (c : BlockId) (new other block : Block) (test : Bool) → Extends x w → new ≡ other
    → (if test then Some new else x c) ≡ Some block → (if test then Some other else w c) ≡ Some block
both-if x w c new other block false h k e = h c block e
both-if x w c new other block true h k e = ap Some (sym k) ∙ e

pub learnt-both : (x w : Plain) (b : BlockId) (new other : Block) → Extends x w → new ≡ other → Extends (learnt x b new) (learnt w b other)
unfolding learnt
learnt-both x w b new other h k c block e = both-if x w c new other block (same_block c b) h k e

module _ (code : Code) (inputs : ℕ) where
  -- what a walk of items that are yielded over y does, from the plain words x to those with the items' blocks
  pub record Walked (x y : Plain) (st : Stack) (l : Trace) (cs : List ℕ) : Type 0 where
    pub from : Extends x (plain_after code x l)
    pub within : Extends (plain_after code x l) y
    pub holds : Holds inputs cs (plain_after code x l)
    pub yields : (z : Plain) → Extends (plain_after code x l) z → Yields code z st l
    pub mono : (x' : Plain) → Extends x x' → Extends (plain_after code x l) (plain_after code x' l)

  knows : (y : Plain) (bs : List ℕ) (x z : Plain) (st : Stack) (a : Act) → Holds inputs bs x → Extends x y → Extends x z → KnownStack inputs bs st → next code y st ≡ a → next code z st ≡ a
  knows y bs x z st a h ext ext' k e =
      sym (next-same inputs bs x h z (agrees inputs bs x z h ext') code st k) ∙ (next-same inputs bs x h y (agrees inputs bs x y h ext) code st k ∙ e)

  makes-same : (bs : List ℕ) (x z : Plain) (key : Key) → Holds inputs bs x → Extends x z → KnownKey inputs bs key → made code x key ≡ made code z key
  makes-same bs x z key h ext k = made-same inputs bs x h z (agrees inputs bs x z h ext) code key k

  pub walked : (y : Plain) {st : Stack} {l : Trace} → Yields code y st l → (bs cs : List ℕ) (x : Plain)
      → Holds inputs bs x → Extends x y → KnownStack inputs bs st → Mentions inputs bs l cs → Walked x y st l cs
  walked y {st} (Yields.over e) bs cs x h ext k Mentions.end = record {
    from = λ b block i. i;
    within = ext;
    holds = h;
    mono = λ x' i. i;
    yields = λ z w. Yields.over (knows y bs x z st Over h ext w k e);
  }
  walked y {st} (Yields.quiet {after = after} {rest = rest} e r) bs cs x h ext k (Mentions.step m) =
      let q = walked y r bs cs x h ext (step-y code inputs y bs x st (Quiet after) h ext k e) m in record {
        from = q.from;
        within = q.within;
        holds = q.holds;
        mono = q.mono;
        yields = λ z w. Yields.quiet (knows y bs x z st (Quiet after) h ext (extends-trans x (plain_after code x rest) z q.from w) k e) (q.yields z w);
      }
  walked y {st} (Yields.makes {key = key} {v = v} {u = u} {i = i} {env = env} {below = below} {b = b} {rest = rest} e g r) bs cs x h ext k (Mentions.step (Mentions.alloc mk m)) =
      let a = step-y code inputs y bs x st (Makes key v u i env below) h ext k e in
      let same : made code x key ≡ made code y key = makes-same bs x y key h ext a.0 in
      let g' : y (Core b) ≡ Some (made code x key) = rw same g in
      let x' = learnt x (Core b) (made code x key) in
      let over = learnt-over x y (Core b) (made code x key) ext g' in
      let within = learnt-within x y (Core b) (made code x key) ext g' in
      let held : Held inputs (b ∷ bs) x' (Core b) = record {
        block = made code x key;
        there = learnt-here x (Core b) (made code x key);
        known = words-more inputs bs (b ∷ bs) (wider b bs) (made code x key).words (made-known inputs bs x h y (agrees inputs bs x y h ext) code key a.0);
      } in
      let h' = holds-with inputs bs x x' b h over held in
      let q = walked y r (b ∷ bs) cs x' h' within (ran-known inputs bs key b v u i env below a.1 a.2) m in record {
        from = extends-trans x x' (plain_after code x' rest) over q.from;
        within = q.within;
        holds = q.holds;
        mono = λ w i. q.mono (learnt w (Core b) (made code w key)) (learnt-both x w (Core b) (made code x key) (made code w key) i (makes-same bs x w key h i a.0));
        yields = λ z w.
            let xz = extends-trans x x' z over (extends-trans x' (plain_after code x' rest) z q.from w) in
            Yields.makes (knows y bs x z st (Makes key v u i env below) h ext xz k e)
            (extends-trans x' (plain_after code x' rest) z q.from w (Core b) (made code x key) (learnt-here x (Core b) (made code x key)) ∙ ap Some (makes-same bs x z key h xz a.0))
            (q.yields z w);
      }
  walked y {st} (Yields.writes {after = after} {p = p} {value = v} {rest = rest} e r) bs cs x h ext k (Mentions.step (Mentions.write mp mv m)) =
      let a = step-y code inputs y bs x st (Writes p v after) h ext k e in
      let q = walked y r bs cs x h ext a.2 m in record {
        from = q.from;
        within = q.within;
        holds = q.holds;
        mono = q.mono;
        yields = λ z w. Yields.writes (knows y bs x z st (Writes p v after) h ext (extends-trans x (plain_after code x rest) z q.from w) k e) (q.yields z w);
      }
  walked y {st} (Yields.reads {below = below} {p = p} {u = u} {v = v} {args = args} {value = value} {inside =
      inside} {rest = rest} e r1 r2) bs cs x h ext k (Mentions.step (Mentions.read {ds = ds} mp mv ma m1 m2)) =
      let a = step-y code inputs y bs x st (Reads p u v args below) h ext k e in
      let q1 = walked y r1 bs ds x h ext (words_after_read-known inputs bs code u.0 v args value Empty a.1 mv tt) m1 in
      let x' = plain_after code x inside in
      let q2 = walked y r2 ds cs x' q1.holds q1.within (stack-more inputs bs ds (mentions-subset m1) below a.2) m2 in record {
        from = extends-trans x x' (plain_after code x' rest) q1.from q2.from;
        within = q2.within;
        holds = q2.holds;
        mono = λ w i. q2.mono (plain_after code w inside) (q1.mono w i);
        yields = λ z w.
            let x'z = extends-trans x' (plain_after code x' rest) z q2.from w in
            Yields.reads (knows y bs x z st (Reads p u v args below) h ext (extends-trans x x' z q1.from x'z) k e) (q1.yields z x'z) (q2.yields z w);
      }

  -- what is held of the blocks that the items allocate makes them pieces
  pub yields-pieces : (y : Plain) {st : Stack} {l : Trace} → Yields code y st l → (bs cs ds : List ℕ) (x : Plain)
      → Holds inputs ds x → Extends x y → Subset cs ds → Mentions inputs bs l cs → Pieces code x y l
  yields-pieces y (Yields.over e) bs cs ds x h ext sub Mentions.end = tt
  yields-pieces y (Yields.quiet e r) bs cs ds x h ext sub (Mentions.step m) = yields-pieces y r bs cs ds x h ext sub m
  yields-pieces y (Yields.makes {key = key} {b = b} e g r) bs cs ds x h ext sub (Mentions.step (Mentions.alloc mk m)) =
      let k = h (Core b) (sub b (mentions-subset m b here)) in
      let w : k.block ≡ made code y key = some-same k.block (made code y key) (sym (ext (Core b) k.block k.there) ∙ g) in
      (k.there ∙ ap Some w, yields-pieces y r (b ∷ bs) cs ds x h ext sub m)
  yields-pieces y (Yields.writes e r) bs cs ds x h ext sub (Mentions.step (Mentions.write mp mv m)) = yields-pieces y r bs cs ds x h ext sub m
  yields-pieces y (Yields.reads e r1 r2) bs cs ds x h ext sub (Mentions.step (Mentions.read {ds = es} mp mv ma m1 m2)) =
      (r1, yields-pieces y r1 bs es ds x h ext (λ b i. sub b (mentions-subset m2 b i)) m1, yields-pieces y r2 es cs ds x h ext sub m2)
