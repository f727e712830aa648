-- The main law of repair: what it gives replays the call on the new inputs, and is honest on them.
use Rattle.std.proofs.Common.{◌≡◌, ℕ, ◌≤◌, ◌<◌, Bool, true, false, ◌==◌, if◌then◌else◌, Some, None, List, [], length, refl, arith}
use Rattle.ceal_base.specs.Block.{Block}
use Rattle.ceal_base.specs.Fitting.{inputs_fit}
use Rattle.ceal_base.specs.Operators.{same_block}
use Rattle.ceal_base.specs.Trace.{Trace, Nothing, Stepped, Allocated, Wrote, WasRead, blocks_of}
use Rattle.ceal_base.specs.declared.word.BlockId.{BlockId}
use Rattle.ceal_base.specs.declared.word.BlockId.TheVariants.{Input, Core}
use Rattle.ceal_base.specs.declared.word.Word.{Word}
use Rattle.ceal_code.proofs.TypedCode.FittingWords.{args-known}
use Rattle.ceal_code.proofs.Alike.BlockPairs.{one_if, one-at}
use Rattle.ceal_code.proofs.Words.SameIsEqual.{block-same}
use Rattle.ceal_code.specs.Fitting.{Fits}
use Rattle.ceal_code.specs.Init.{made}
use Rattle.ceal_code.specs.Known.{Holds}
use Rattle.ceal_code.specs.Program.{Code}
use Rattle.ceal_code.specs.Replay.{Yields, Mentions, learnt, Distinct, core_numbers, input_plain, plain_after, plain_of, Replays, IsHonest}
use Rattle.ceal_code.specs.Step.{Stack, started}
use Rattle.ceal_code.specs.Value.{Plain}
use Rattle.ceal_theory.proofs.Repair.DistinctBlocks.{uses, times-append, fix-distinct, fix-old}
use Rattle.ceal_theory.proofs.Repair.RepairInvariant.{Extends, extends-trans, FreeFrom, Good}
use Rattle.ceal_theory.proofs.Store.WordsGrow.{own-single, fix-grows}
use Rattle.ceal_theory.proofs.Repair.Honesty.{fix-honest}
use Rattle.ceal_theory.proofs.Store.FittingInputs.{inputs-hold, bases-known, no-core, started-known, inputs-extend, more-inputs}
use Rattle.ceal_theory.proofs.Repair.RepairYields.{Played, fix-plays}
use Rattle.ceal_theory.proofs.Store.WordsOfWalk.{words-inputs, mentions-inputs, Walked, walked, yields-pieces}
use Rattle.ceal_theory.specs.Adjust.{Extended, Above, Adjusts, AdjustsAs}
use Rattle.ceal_theory.specs.Repair.{Single, own, begins}

learnt-none-if : (x : Plain) (b c : ℕ) (block : Block) (test : Bool) → (c == b) ≡ test → one_if c b ≡ 0 → x (Core c) ≡ None
    → (if test then Some block else x (Core c)) ≡ None
learnt-none-if x b c block false s h e = e
learnt-none-if x b c block true s h e = absurd (grind (arith, h, one-at c b (grind (arith, s))))

pub learnt-none : (x : Plain) (b c : ℕ) (block : Block) → one_if c b ≡ 0 → x (Core c) ≡ None → learnt x (Core b) block (Core c) ≡ None
unfolding learnt
learnt-none x b c block h e = learnt-none-if x b c block (c == b) refl h e

learnt-input : (x : Plain) (i c : ℕ) (block : Block) → x (Core c) ≡ None → learnt x (Input i) block (Core c) ≡ None
unfolding learnt
learnt-input x i c block e = e

-- the walk learns no block but those of the items
pub plain-none : (code : Code) (x : Plain) (l : Trace) (c : ℕ) → uses c l ≡ 0 → x (Core c) ≡ None → plain_after code x l (Core c) ≡ None
plain-none code x Nothing c h e = e
plain-none code x (Stepped rest) c h e = plain-none code x rest c h e
plain-none code x (Allocated (Core b) key rest) c h e =
    plain-none code (learnt x (Core b) (made code x key)) rest c (omega (arith, h)) (learnt-none x b c (made code x key) (omega (arith, h)) e)
plain-none code x (Allocated (Input i) key rest) c h e =
    plain-none code (learnt x (Input i) (made code x key)) rest c h (learnt-input x i c (made code x key) e)
plain-none code x (Wrote p value rest) c h e = plain-none code x rest c h e
plain-none code x (WasRead p value u v args inside rest) c h e =
    plain-none code (plain_after code x inside) rest c (omega (arith, h, times-append c (blocks_of inside) (blocks_of rest)))
    (plain-none code x inside c (omega (arith, h, times-append c (blocks_of inside) (blocks_of rest))) e)

extends-at-if : (x : Plain) (b : ℕ) (c : BlockId) (new block : Block) (test : Bool) → same_block c (Core b) ≡ test → x (Core b) ≡ None → x c ≡ Some block
    → (if test then Some new else x c) ≡ Some block
extends-at-if x b c new block false s h e = e
extends-at-if x b c new block true s h e = let e' : x (Core b) ≡ Some block = rw (block-same c (Core b) s) at e in absurd (cc (e', h))

pub extends-at : (x : Plain) (b : ℕ) (new : Block) → x (Core b) ≡ None → Extends x (learnt x (Core b) new)
unfolding learnt
extends-at x b new h c block e = extends-at-if x b c new block (same_block c (Core b)) refl h e

-- and forgets none, where they are distinct and new
pub plain-from : (code : Code) {y : Plain} {st : Stack} {l : Trace} → Yields code y st l → (x : Plain) → Distinct
    (core_numbers (blocks_of l)) → ((c : ℕ) → 1 ≤ uses c l → x (Core c) ≡ None) → Extends x (plain_after code x l)
plain-from code (Yields.over e) x d n = λ b block e. e
plain-from code (Yields.quiet e r) x d n = plain-from code r x d n
plain-from code (Yields.makes {key = key} {b = b} {rest = rest} e h r) x d n =
    let block = made code x key in
    extends-trans x (learnt x (Core b) block) (plain_after code (learnt x (Core b) block) rest)
    (extends-at x b block (n b (omega (arith, one-at b b refl))))
    (plain-from code r (learnt x (Core b) block) (λ c. omega (arith, d c))
    (λ c h. learnt-none x b c block (omega (arith, d c, h)) (n c (omega (arith, h)))))
plain-from code (Yields.writes e r) x d n = plain-from code r x d n
plain-from code (Yields.reads {inside = inside} {rest = rest} e r1 r2) x d n =
    extends-trans x (plain_after code x inside) (plain_after code (plain_after code x inside) rest)
    (plain-from code r1 x (λ c. omega (arith, d c, times-append c (blocks_of inside) (blocks_of rest))) (λ c h. n c (omega (arith, h, times-append c (blocks_of inside) (blocks_of rest)))))
    (plain-from code r2 (plain_after code x inside)
    (λ c. omega (arith, d c, times-append c (blocks_of inside) (blocks_of rest)))
    (λ c h. plain-none code x inside c (omega (arith, h, d c, times-append c (blocks_of inside) (blocks_of rest))) (n c (omega (arith, h, times-append c (blocks_of inside) (blocks_of rest))))))

pub holds-over : (n : ℕ) (bs : List ℕ) (x y : Plain) → Holds n bs x → Extends x y → Holds n bs y
holds-over n bs x y h e b k = let g = h b k in record { block = g.block; there = e b g.block g.there; known = g.known }

module _ (code : Code) (old new : List Block) (f : ℕ) (args : List Word) (fits : Fits code old f args) (fit : inputs_fit code.structs new ≡ true) (more : Extended code old new)
    (l : Trace) (r : Replays code old f args l) where
  pub known-new : Rattle.ceal_code.specs.Replay.KnownWords (length new) [] args
  known-new = words-inputs (length old) (length new) (more-inputs code old new more) [] args (args-known code old f args fits)

  from-old : Extends (input_plain code old) (plain_of code old l)
  unfolding plain_of
  from-old = plain-from code r.yields (input_plain code old) r.distinct (λ c h. no-core code old c)

  pub from-new : Extends (input_plain code new) (plain_of code new l)
  unfolding plain_of
  from-new = plain-from code r.yields (input_plain code new) r.distinct (λ c h. no-core code new c)

  walk-old : Walked code (length old) (input_plain code old) (plain_of code old l) (started code f args) l r.known
  walk-old =
      walked code (length old) (plain_of code old l) r.yields [] r.known (input_plain code old) (inputs-hold code old fits.blocks) from-old
      (started-known (length old) [] code f args (args-known code old f args fits)) r.mentions

  -- the old items replay their call on the new inputs too
  pub yields-new : Yields code (plain_of code new l) (started code f args) l
  unfolding plain_of
  yields-new = walk-old.yields (plain_after code (input_plain code new) l) (walk-old.mono (input_plain code new) (inputs-extend code old new more))

  pub mentions-new : Mentions (length new) [] l r.known
  mentions-new = mentions-inputs (length old) (length new) (more-inputs code old new more) r.mentions

  walk-new : Walked code (length new) (input_plain code new) (plain_of code new l) (started code f args) l r.known
  walk-new =
      walked code (length new) (plain_of code new l) yields-new [] r.known (input_plain code new) (inputs-hold code new fit) from-new (started-known (length new) [] code f args known-new) mentions-new

  pub held-new : Holds (length new) r.known (plain_of code new l)
  unfolding plain_of
  held-new = walk-new.holds

  yield-over : (y : Plain) → Extends (plain_of code new l) y → Yields code y (started code f args) l
  unfolding plain_of
  yield-over y h = walk-new.yields y h

  pub free : (names : ℕ → ℕ) (number : ℕ) → ((k : ℕ) → number ≤ k → uses (names k) l ≡ 0) → FreeFrom names (plain_of code new l) number
  unfolding plain_of
  free names number low k h = plain-none code (input_plain code new) l (names k) (low k h) (no-core code new (names k))

  -- new blocks with names that no block of the trace has
  module _ (names : ℕ → ℕ) (single : Single names) (number : ℕ) (low : (k : ℕ) → number ≤ k → uses (names k) l ≡ 0) (m : Trace) (work : ℕ) (a : AdjustsAs code new names number l m work) where
    good : Good names (length new) [] (begins code new (plain_of code new l) number)
    good = record {
      plain = holds-over (length new) [] (input_plain code new) (plain_of code new l) (inputs-hold code new fit) from-new;
      store = bases-known code new fit;
      free = free names number low;
    }

    grown : Extends (plain_of code new l) a.after.plain
    grown = (fix-grows single a.fix (free names number low)).plain

    pub played : Played names single code (length new) a.after.plain [] (started code f args) m a.after
    played =
        let p = yield-over a.after.plain grown in
        fix-plays names single code (length new) a.after.plain a.fix (λ b block e. e) [] good (started code f args) p (started-known (length new) [] code f args known-new)
        (yields-pieces code (length new) a.after.plain p [] r.known r.known (plain_of code new l) held-new grown (λ b i. i) mentions-new)

    walk-after : Walked code (length new) (input_plain code new) a.after.plain (started code f args) m played.known
    walk-after = walked code (length new) a.after.plain played.yields [] played.known (input_plain code new) (inputs-hold code new fit)
        (extends-trans (input_plain code new) (plain_of code new l) a.after.plain from-new grown) (started-known (length new) [] code f args known-new) played.mentions

    pub yields-after : Yields code (plain_of code new m) (started code f args) m
    unfolding plain_of
    yields-after = walk-after.yields (plain_after code (input_plain code new) m) (λ b block e. e)

    -- the plain words of the new trace are among those of the repair
    pub words-after : Extends (plain_of code new m) a.after.plain
    unfolding plain_of
    words-after = walk-after.within

  module _ (number : ℕ) (low : Above number l) (m : Trace) (work : ℕ) (a : Adjusts code new number l m work) where
    p : Played own own-single code (length new) a.after.plain [] (started code f args) m a.after
    p = played own own-single number low m work a

    pub adjust-replays : Replays code new f args m
    adjust-replays = record {
      yields = yields-after own own-single number low m work a;
      distinct = fix-distinct code own own-single (begins code new (plain_of code new l) number) a.after l m a.fix r.distinct low;
      known = p.known;
      mentions = p.mentions;
    }

    pub adjust-honest : IsHonest code new m
    adjust-honest = record { after = a.after.store; walk = fix-honest a.fix }

    pub adjust-old : (b : ℕ) → b < number → uses b m ≤ uses b l
    adjust-old = fix-old code own own-single (begins code new (plain_of code new l) number) a.after l m a.fix
