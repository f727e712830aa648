-- The plain words of a trace and of a renamed one.
use Rattle.std.proofs.Common.{◌≡◌, ℕ, ◌≤◌, Bool, true, false, if◌then◌else◌, Some, List, ◌∷◌, ◌⊎◌, inl, inr, refl, subst, arith}
use Rattle.ceal_base.specs.Block.{Block}
use Rattle.ceal_base.specs.Operators.{same_block}
use Rattle.ceal_base.specs.Trace.{Trace, Allocated, WasRead, blocks_of}
use Rattle.ceal_base.specs.declared.forest.Key.{Key}
use Rattle.ceal_base.specs.declared.typed.StructInfo.{StructInfo}
use Rattle.ceal_base.specs.declared.word.BlockId.{BlockId}
use Rattle.ceal_base.specs.declared.word.BlockId.TheVariants.{Input, Core}
use Rattle.ceal_base.specs.declared.word.Place.{Place}
use Rattle.ceal_base.specs.declared.word.Word.{Word}
use Rattle.ceal_code.proofs.Alike.AlikeSteps.{place-wider, word-wider, words-wider, key-wider, block-wider, maybe-wider, trace-wider, id-both, made-alike}
use Rattle.ceal_code.proofs.Alike.BlockPairs.{one-within, more-pair, tied-with, tied-case, one-at}
use Rattle.ceal_code.proofs.Words.SameIsEqual.{nat-refl}
use Rattle.ceal_code.specs.Alike.{Pairs, Tied, IdAlike, PlaceAlike, WordAlike, WordsAlike, KeyAlike, BlockAlike, MaybeAlike, PlainAlike, TraceAlike, Within, OneToOne}
use Rattle.ceal_code.specs.Init.{made}
use Rattle.ceal_code.specs.Program.{Code}
use Rattle.ceal_code.specs.Replay.{In, here, there, KnownBlock, KnownWord, KnownWords, KnownKey, Mentions, learnt, plain_after}
use Rattle.ceal_code.specs.Value.{Plain}
use Rattle.ceal_theory.proofs.Repair.DistinctBlocks.{uses, times-append}

-- each known core block has its pair
abbrev pub Covers : List ℕ → Pairs → Type 0
Covers bs qs = (b : ℕ) → In b bs → (c : ℕ) × Tied b c qs

module _ (n : ℕ) (ps : Pairs) (one : OneToOne ps) where
  module _ (bs : List ℕ) (qs : Pairs) (sub : Within qs ps) (cov : Covers bs qs) where
    id-narrow : {b c : BlockId} → IdAlike ps b c → KnownBlock n bs b → IdAlike qs b c
    id-narrow IdAlike.input k = IdAlike.input
    id-narrow (IdAlike.core {b = b} {c = c} t) k =
        let g = cov b k in
        let e : g.0 ≡ c = one.left b g.0 c (sub b g.0 g.1) t in
        IdAlike.core (rw e at g.1)

    place-narrow : {p q : Place} → PlaceAlike ps p q → KnownBlock n bs p.block → PlaceAlike qs p q
    place-narrow h k = record { block = id-narrow h.block k; field = h.field }

    word-narrow : {v w : Word} → WordAlike ps v w → KnownWord n bs v → WordAlike qs v w
    word-narrow WordAlike.num k = WordAlike.num
    word-narrow WordAlike.null k = WordAlike.null
    word-narrow (WordAlike.block h) k = WordAlike.block (id-narrow h k)
    word-narrow (WordAlike.at h) k = WordAlike.at (place-narrow h k)

    words-narrow : {vs ws : List Word} → WordsAlike ps vs ws → KnownWords n bs vs → WordsAlike qs vs ws
    words-narrow WordsAlike.none k = WordsAlike.none
    words-narrow (WordsAlike.more h i) k = WordsAlike.more (word-narrow h k.0) (words-narrow i k.1)

    key-narrow : {k l : Key} → KeyAlike ps k l → KnownKey n bs k → KeyAlike qs k l
    key-narrow (KeyAlike.init h) k = KeyAlike.init (words-narrow h k)
    key-narrow KeyAlike.int k = KeyAlike.int
    key-narrow KeyAlike.pointer k = KeyAlike.pointer

  covers-with : (bs : List ℕ) (qs : Pairs) (b c : ℕ) → Covers bs qs → Covers (b ∷ bs) (record { left = b; right = c } ∷ qs)
  covers-with bs qs b c cov d here = (c, Tied.here)
  covers-with bs qs b c cov d (there i) = let g = cov d i in (g.0, Tied.there g.1)

  -- the words of a block on both sides, where both learn theirs
  both-learn : (structs : List StructInfo) (qs : Pairs) (x y : Plain) (b c : ℕ) (v w : Block) → Within qs ps → Tied b c ps → PlainAlike structs qs x y → BlockAlike structs qs v w
      → PlainAlike structs (record { left = b; right = c } ∷ qs) (learnt x (Core b) v) (learnt y (Core c) w)
  unfolding learnt
  both-learn structs qs x y b c v w sub t h kw d e k =
      subst (λ z. MaybeAlike structs (record { left = b; right = c } ∷ qs) (if same_block d (Core b) then Some v else x d) (if z then Some w else y e))
      (id-both (record { left = b; right = c } ∷ qs) (one-within (record { left = b; right = c } ∷ qs) ps (tied-with b c qs ps sub t) one) k (IdAlike.core Tied.here))
      (go (same_block d (Core b)) refl k)
    where
      older : {d e : BlockId} → IdAlike (record { left = b; right = c } ∷ qs) d e → same_block d (Core b) ≡ false → MaybeAlike structs qs (x d) (y e)
      older (IdAlike.input {i = i}) s = h (Input i) (Input i) IdAlike.input
      older (IdAlike.core Tied.here) s = absurd (grind (arith, s, nat-refl b))
      older (IdAlike.core {b = f} {c = g} (Tied.there i)) s = h (Core f) (Core g) (IdAlike.core i)

      go : (z : Bool) → same_block d (Core b) ≡ z → IdAlike (record { left = b; right = c } ∷ qs) d e
          → MaybeAlike structs (record { left = b; right = c } ∷ qs) (if z then Some v else x d) (if z then Some w else y e)
      go true s k = MaybeAlike.some (block-wider qs (record { left = b; right = c } ∷ qs) (more-pair (record { left = b; right = c }) qs) kw)
      go false s k = maybe-wider qs (record { left = b; right = c } ∷ qs) (more-pair (record { left = b; right = c }) qs) (older k s)

  pub record WalkedToo (code : Code) (qs : Pairs) (x y : Plain) (l m : Trace) (cs : List ℕ) (f g : ℕ → Type 0) : Type 0 where
    pub pairs : Pairs
    pub wider : Within qs pairs
    pub within : Within pairs ps
    pub covers : (b : ℕ) → In b cs → (c : ℕ) × Tied b c pairs
    pub plain : PlainAlike code.structs pairs (plain_after code x l) (plain_after code y m)
    pub trace : TraceAlike pairs l m
    pub left : (b c : ℕ) → Tied b c pairs → f b
    pub right : (b c : ℕ) → Tied b c pairs → g c

  -- f and g lie above the blocks of the two
  pub walk-too : (code : Code) (f g : ℕ → Type 0) {bs cs : List ℕ} {l : Trace} → Mentions n bs l cs → {m : Trace}
      → TraceAlike ps l m → (qs : Pairs) → Within qs ps → ((b : ℕ) → In b bs → (c : ℕ) × Tied b c qs)
      → (x y : Plain) → PlainAlike code.structs qs x y → ((b c : ℕ) → Tied b c qs → f b) → ((b c : ℕ) → Tied b c qs → g c)
      → ((b : ℕ) → 1 ≤ uses b l → f b) → ((c : ℕ) → 1 ≤ uses c m → g c) → WalkedToo code qs x y l m cs f g
  walk-too code f g Mentions.end TraceAlike.nothing qs sub cov x y h kl kr il ir =
      record { pairs = qs; wider = λ b c t. t; within = sub; covers = cov; plain = h; trace = TraceAlike.nothing; left = kl; right = kr }
  walk-too code f g (Mentions.step k) (TraceAlike.stepped t) qs sub cov x y h kl kr il ir =
      let q = walk-too code f g k t qs sub cov x y h kl kr il ir in
      record { pairs = q.pairs; wider = q.wider; within = q.within; covers = q.covers; plain = q.plain; trace = TraceAlike.stepped q.trace; left = q.left; right = q.right }
  walk-too code f g {bs} (Mentions.alloc {b = b} {key = key} ka k) (TraceAlike.allocated {k' = key'} (IdAlike.core {c = c} i) kk t) qs sub cov x y h kl kr il ir =
      go (walk-too code f g k t (record { left = b; right = c } ∷ qs) (tied-with b c qs ps sub i)
      (covers-with bs qs b c cov) (learnt x (Core b) (made code x key)) (learnt y (Core c) (made code y key'))
      (both-learn code.structs qs x y b c (made code x key) (made code y key') sub i h (made-alike qs (one-within qs ps sub one) code x y h (key-narrow bs qs sub cov kk ka)))
      kl' kr' (λ a e. il a (omega (arith, e))) (λ a e. ir a (omega (arith, e))))
    where
      kl' : (d e : ℕ) → Tied d e (record { left = b; right = c } ∷ qs) → f d
      kl' d e j = back (tied-case d e (record { left = b; right = c }) qs j)
        where
          back : ((b ≡ d) × (c ≡ e)) ⊎ Tied d e qs → f d
          back (inl u) = rw (← u.0) (il b (omega (arith, one-at b b refl)))
          back (inr j) = kl d e j

      kr' : (d e : ℕ) → Tied d e (record { left = b; right = c } ∷ qs) → g e
      kr' d e j = back (tied-case d e (record { left = b; right = c }) qs j)
        where
          back : ((b ≡ d) × (c ≡ e)) ⊎ Tied d e qs → g e
          back (inl u) = rw (← u.1) (ir c (omega (arith, one-at c c refl)))
          back (inr j) = kr d e j

      go : {r r' : Trace} {cs : List ℕ} → WalkedToo code (record { left = b; right = c } ∷ qs) (learnt x (Core b) (made code x key)) (learnt y (Core c) (made code y key')) r r' cs f g
          → WalkedToo code qs x y (Allocated (Core b) key r) (Allocated (Core c) key' r') cs f g
      go q = record {
        pairs = q.pairs;
        wider = λ d e j. q.wider d e (Tied.there j);
        within = q.within;
        covers = q.covers;
        plain = q.plain;
        trace = TraceAlike.allocated (IdAlike.core (q.wider b c Tied.here)) (key-wider qs q.pairs (λ d e j. q.wider d e (Tied.there j)) (key-narrow bs qs sub cov kk ka)) q.trace;
        left = q.left;
        right = q.right;
      }
  walk-too code f g {bs} (Mentions.write mp mv k) (TraceAlike.wrote kp kv t) qs sub cov x y h kl kr il ir =
      let q = walk-too code f g k t qs sub cov x y h kl kr il ir in
      record {
        pairs = q.pairs;
        wider = q.wider;
        within = q.within;
        covers = q.covers;
        plain = q.plain;
        trace = TraceAlike.wrote (place-wider qs q.pairs q.wider (place-narrow bs qs sub cov kp mp)) (word-wider qs q.pairs q.wider (word-narrow bs qs sub cov kv mv)) q.trace;
        left = q.left;
        right = q.right;
      }
  walk-too code f g {bs} {cs} (Mentions.read {ds = ds} mp mv ma k1 k2)
      (TraceAlike.was_read {p = p} {q = q} {v = v} {w = w} {u = u} {x = z} {vs = vs} {ws = ws} {i = i} {j = j} {l =
      l} {m = m} kp kv ka ti t) qs sub cov x y h kl kr il ir =
      onward (walk-too code f g k1 ti qs sub cov x y h kl kr
      (λ b e. il b (omega (arith, e, times-append b (blocks_of i) (blocks_of l))))
      (λ c e. ir c (omega (arith, e, times-append c (blocks_of j) (blocks_of m)))))
      (λ rs x' y' w1 w2 w3 w4 w5. walk-too code f g k2 t rs w1 w2 x' y' w3 w4 w5
      (λ b e. il b (omega (arith, e, times-append b (blocks_of i) (blocks_of l))))
      (λ c e. ir c (omega (arith, e, times-append c (blocks_of j) (blocks_of m)))))
    where
      both' : (q1 : WalkedToo code qs x y i j ds f g) → WalkedToo code q1.pairs (plain_after code x i) (plain_after code y j) l m cs f g
          → WalkedToo code qs x y (WasRead p v u z vs i l) (WasRead q w u z ws j m) cs f g
      both' q1 q2 =
          let wide : Within qs q2.pairs = λ b c i. q2.wider b c (q1.wider b c i) in
          record {
            pairs = q2.pairs;
            wider = wide;
            within = q2.within;
            covers = q2.covers;
            plain = q2.plain;
            trace = TraceAlike.was_read (place-wider qs q2.pairs wide (place-narrow bs qs sub cov kp mp)) (word-wider qs q2.pairs wide (word-narrow bs qs sub cov kv mv))
                (words-wider qs q2.pairs wide (words-narrow bs qs sub cov ka ma)) (trace-wider q1.pairs q2.pairs q2.wider q1.trace) q2.trace;
            left = q2.left;
            right = q2.right;
          }

      onward : (q1 : WalkedToo code qs x y i j ds f g)
          → ((rs : Pairs) (x' y' : Plain) → Within rs ps → ((b : ℕ) → In b ds → (c : ℕ) × Tied b c rs)
          → PlainAlike code.structs rs x' y' → ((b c : ℕ) → Tied b c rs → f b) → ((b c : ℕ) → Tied b c rs → g c)
          → WalkedToo code rs x' y' l m cs f g)
          → WalkedToo code qs x y (WasRead p v u z vs i l) (WasRead q w u z ws j m) cs f g
      onward q1 fn = both' q1 (fn q1.pairs (plain_after code x i) (plain_after code y j) q1.within q1.covers q1.plain q1.left q1.right)
