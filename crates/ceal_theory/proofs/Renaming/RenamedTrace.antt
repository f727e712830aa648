-- A trace whose core blocks are renamed one to one still replays, and is still honest.
use Rattle.std.proofs.Common.{◌≡◌, ℕ, zero, suc, ◌+◌, ◌≤◌, ◌<◌, Bool, true, false, ◌==◌, if◌then◌else◌, Some, None, List, [], ◌∷◌, ◌⊎◌, inl, inr, length, refl, sym, ap, ap₂, ◌∙◌, arith}
use Rattle.std.specs.Prelude.{⊤}
use Rattle.ceal_base.specs.Block.{Block}
use Rattle.ceal_base.specs.Trace.{Trace, Nothing, Stepped, Allocated, Wrote, WasRead, blocks_of}
use Rattle.ceal_base.specs.declared.forest.Key.{Key}
use Rattle.ceal_base.specs.declared.forest.Key.TheVariants.{Init}
use Rattle.ceal_base.specs.declared.word.BlockId.{BlockId}
use Rattle.ceal_base.specs.declared.word.BlockId.TheVariants.{Input, Core}
use Rattle.ceal_base.specs.declared.word.Place.{Place}
use Rattle.ceal_base.specs.declared.word.Word.{Word}
use Rattle.ceal_code.proofs.Alike.AlikeSteps.{id-both, word-both, set-alike, words_after_read-alike, pointer-alike, next-alike}
use Rattle.ceal_code.proofs.Alike.AlikeStores.{cleared-tied, stored-alike}
use Rattle.ceal_code.proofs.TypedCode.FittingWords.{args-known}
use Rattle.ceal_code.proofs.Words.StepLocality.{words-more, made-known, made-same}
use Rattle.ceal_code.proofs.Alike.BlockPairs.{one_if, one-at, one-within}
use Rattle.ceal_code.proofs.Replay.ReplayedCall.{begin-self, bases-self, started-alike}
use Rattle.ceal_code.proofs.Words.SameIsEqual.{block-same, block-refl, word-same, word-refl, nat-same}
use Rattle.ceal_code.specs.Alike.{Pairs, Tied, IdAlike, PlaceAlike, WordAlike, WordsAlike, KeyAlike, StackAlike, ActAlike, PlainAlike, StoreAlike, TraceAlike, OneToOne}
use Rattle.ceal_code.specs.Fitting.{Fits}
use Rattle.ceal_code.specs.Init.{made}
use Rattle.ceal_code.specs.Known.{Held, Holds}
use Rattle.ceal_code.specs.Program.{Code}
use Rattle.ceal_code.specs.Replay.{Yields, In, here, there, KnownBlock, KnownWord, KnownWords, KnownKey, Mentions}
use Rattle.ceal_code.specs.Replay.{Store, Honest, learnt, Distinct, core_numbers, cleared, stored, bases, input_plain}
use Rattle.ceal_code.specs.Replay.{plain_after, plain_of, Replays, IsHonest}
use Rattle.ceal_code.specs.Step.{Stack, Act, started, next}
use Rattle.ceal_code.specs.Value.{Plain}
use Rattle.ceal_theory.proofs.Repair.DistinctBlocks.{uses, one_at, times-cons, times-append}
use Rattle.ceal_theory.proofs.Repair.RepairInvariant.{Extends, extends-trans, agrees}
use Rattle.ceal_theory.proofs.Store.WordsGrow.{learnt-here}
use Rattle.ceal_theory.proofs.Store.FittingInputs.{inputs-hold, no-core}
use Rattle.ceal_theory.proofs.Renaming.RenamedWalk.{WalkedToo, walk-too}
use Rattle.ceal_theory.proofs.Repair.RepairReplays.{learnt-none, plain-none, extends-at}
use Rattle.ceal_theory.proofs.Repair.RepairYields.{wider, holds-with}
use Rattle.ceal_theory.proofs.Repair.YieldsByStep.{yields-told}
use Rattle.ceal_theory.specs.Known.{Told}

pub told-yields : (code : Code) (y : Plain) {a : Act} {m : Trace} → Told code y a m → (st : Stack) → next code y st ≡ a → Yields code y st m
told-yields code y Told.over st e = Yields.over e
told-yields code y (Told.quiet {after = after} r) st e = Yields.quiet e (told-yields code y r after refl)
told-yields code y (Told.makes h r) st e = Yields.makes e h (told-yields code y r _ refl)
told-yields code y (Told.writes {after = after} r) st e = Yields.writes e (told-yields code y r after refl)
told-yields code y (Told.reads {below = below} r1 r2) st e = Yields.reads e (told-yields code y r1 _ refl) (told-yields code y r2 below refl)

-- each block that the items allocate has what its key gives
abbrev pub MadeIn : Code → Plain → Trace → Type 0
MadeIn code z Nothing = ⊤
MadeIn code z (Stepped rest) = MadeIn code z rest
MadeIn code z (Allocated (Core b) key rest) = (z (Core b) ≡ Some (made code z key)) × MadeIn code z rest
MadeIn code z (Allocated (Input i) key rest) = ⊥
MadeIn code z (Wrote p value rest) = MadeIn code z rest
MadeIn code z (WasRead p value u v args inside rest) = MadeIn code z inside × MadeIn code z rest

module _ (code : Code) (n : ℕ) where
  -- what a walk of items learns that mention blocks allocated before, each once
  pub record Learns (y : Plain) (m : Trace) (cs : List ℕ) : Type 0 where
    pub holds : Holds n cs (plain_after code y m)
    pub from : Extends y (plain_after code y m)
    pub made' : (z : Plain) → Extends (plain_after code y m) z → MadeIn code z m

  pub learns : {bs cs : List ℕ} {m : Trace} → Mentions n bs m cs → (y : Plain) → Holds n bs y → Distinct (core_numbers (blocks_of m)) → ((c : ℕ) → 1 ≤ uses c m → y (Core c) ≡ None) → Learns y m cs
  learns Mentions.end y h d free = record { holds = h; from = λ b block e. e; made' = λ z e. tt }
  learns (Mentions.step k) y h d free = let q = learns k y h d free in record { holds = q.holds; from = q.from; made' = q.made' }
  learns {bs} (Mentions.alloc {b = b} {key = key} {rest = rest} ka k) y h d free =
      let block = made code y key in
      let y1 = learnt y (Core b) block in
      let more = extends-at y b block (free b (omega (arith, one-at b b refl))) in
      let held : Held n (b ∷ bs) y1 (Core b) = record {
        block = block;
        there = learnt-here y (Core b) block;
        known = words-more n bs (b ∷ bs) (wider b bs) block.words (made-known n bs y h y (λ c i. refl) code key ka);
      } in
      let q = learns k y1 (holds-with n bs y y1 b h more held) (λ c. omega (arith, d c)) (λ c e. learnt-none y b c block (omega (arith, d c, e)) (free c (omega (arith, e)))) in
      record {
        holds = q.holds;
        from = extends-trans y y1 (plain_after code y1 rest) more q.from;
        made' = λ z e.
            let y1z = extends-trans y1 (plain_after code y1 rest) z q.from e in (
              y1z (Core b) block (learnt-here y (Core b) block) ∙ ap Some (made-same n bs y h z (agrees n bs y z h (extends-trans y y1 z more y1z)) code key ka),
              q.made' z e,
            );
      }
  learns (Mentions.write kp kv k) y h d free = let q = learns k y h d free in record { holds = q.holds; from = q.from; made' = q.made' }
  learns (Mentions.read {inside = i} {rest = l} kp kv ka k1 k2) y h d free =
      let q1 = learns k1 y h (λ c. omega (arith, d c, times-append c (blocks_of i) (blocks_of l))) (λ c e. free c (omega (arith, e, times-append c (blocks_of i) (blocks_of l)))) in
      let q2 = learns k2 (plain_after code y i) q1.holds (λ c. omega (arith, d c, times-append c (blocks_of i) (blocks_of l)))
      (λ c e. plain-none code y i c (omega (arith, e, d c, times-append c (blocks_of i) (blocks_of l))) (free c (omega (arith, e, times-append c (blocks_of i) (blocks_of l))))) in
      record {
        holds = q2.holds;
        from = extends-trans y (plain_after code y i) (plain_after code (plain_after code y i) l) q1.from q2.from;
        made' = λ z e. (q1.made' z (extends-trans (plain_after code y i) (plain_after code (plain_after code y i) l) z q2.from e), q2.made' z e);
      }

module _ (ps : Pairs) (one : OneToOne ps) where
  -- a word has at most one renaming
  same-words : {v w u : Word} → WordAlike ps v w → WordAlike ps v u → w ≡ u
  same-words {v} {w} {u} h k = word-same w u (sym (word-both ps one h k) ∙ word-refl v)

  same-ids : {v w u : BlockId} → IdAlike ps v w → IdAlike ps v u → w ≡ u
  same-ids {v} {w} {u} h k = block-same w u (sym (id-both ps one h k) ∙ block-refl v)

  same-places : {v w u : Place} → PlaceAlike ps v w → PlaceAlike ps v u → w ≡ u
  same-places h k = ap₂ (λ b f. record { block = b; field = f }) (same-ids h.block k.block) (sym h.field ∙ k.field)

  all-same : {vs ws us : List Word} → WordsAlike ps vs ws → WordsAlike ps vs us → ws ≡ us
  all-same WordsAlike.none WordsAlike.none = refl
  all-same (WordsAlike.more h k) (WordsAlike.more i j) = ap₂ ◌∷◌ (same-words h i) (all-same k j)

  same-keys : {k l m : Key} → KeyAlike ps k l → KeyAlike ps k m → l ≡ m
  same-keys (KeyAlike.init {f = f} h) (KeyAlike.init k) = ap (Init f) (all-same h k)
  same-keys KeyAlike.int KeyAlike.int = refl
  same-keys KeyAlike.pointer KeyAlike.pointer = refl

  pub record HonestToo (code : Code) (s' t : Store) (m : Trace) : Type 0 where
    pub after : Store
    pub walk : Honest code t m after
    pub alike : StoreAlike ps s' after

  pub honest-renamed : (code : Code) {s s' : Store} {l : Trace} → Honest code s l s' → {m : Trace} → TraceAlike ps l m → (t : Store) → StoreAlike ps s t → HonestToo code s' t m
  honest-renamed code Honest.end TraceAlike.nothing t k = record { after = t; walk = Honest.end; alike = k }
  honest-renamed code (Honest.step w) (TraceAlike.stepped h) t k = let q = honest-renamed code w h t k in record { after = q.after; walk = Honest.step q.walk; alike = q.alike }
  honest-renamed code {s} (Honest.alloc {b = b} {key = key} w) (TraceAlike.allocated {c = c} {k' = key'} i kk h) t k =
      let q = honest-renamed code w h (cleared code t c key') (cleared-tied code ps one b c i kk s t k) in record { after = q.after; walk = Honest.alloc q.walk; alike = q.alike }
  honest-renamed code {s} (Honest.write {p = p} {value = v} w) (TraceAlike.wrote {q = q'} {w = v'} kp kv h) t k =
      let q = honest-renamed code w h (stored t q' v') (stored-alike ps one s t p q' v v' k kp kv) in record { after = q.after; walk = Honest.write q.walk; alike = q.alike }
  honest-renamed code {s} (Honest.read {p = p} {value = v} e w1 w2) (TraceAlike.was_read {q = q'} {w = v'} kp kv ka i h) t k =
      let q1 = honest-renamed code w1 i t k in
      let q2 = honest-renamed code w2 h q1.after q1.alike in
      let same : t q' ≡ v' = same-words (rw e at (k p q' kp)) kv in
      record { after = q2.after; walk = Honest.read same q1.walk q2.walk; alike = q2.alike }

  module _ (code : Code) (x y : Plain) (plain : PlainAlike code.structs ps x y) where
    pub told-renamed : {a : Act} {l : Trace} → Told code x a l → {a' : Act} → ActAlike ps a a' → {m : Trace} → TraceAlike ps l m → MadeIn code y m → Told code y a' m
    told-renamed Told.over ActAlike.over TraceAlike.nothing g = Told.over
    told-renamed (Told.quiet r) (ActAlike.quiet k) (TraceAlike.stepped h) g = Told.quiet (told-renamed r (next-alike ps one code x y plain k) h g)
    told-renamed (Told.makes {key = key} {v = v} {u = u} {i = n} {env = env} {below = below} {b = b} e r)
        (ActAlike.makes {k' = key'} {env' = env'} {st' = below'} kk kv ks)
        (TraceAlike.stepped (TraceAlike.allocated {k' = key2} {m = m} (IdAlike.core {c = c} i) kk2 h)) g =
        rw (same-keys kk2 kk) (Told.makes (rw (same-keys kk2 kk) at g.0)
        (told-renamed r (next-alike ps one code x y plain (StackAlike.run (set-alike ps kv v (pointer-alike ps kk (IdAlike.core i))) ks)) h g.1))
    told-renamed (Told.writes r) (ActAlike.writes kp kv ks) (TraceAlike.stepped (TraceAlike.wrote kp2 kv2 h)) g =
        rw (same-places kp2 kp, same-words kv2 kv) (Told.writes (told-renamed r (next-alike ps one code x y plain ks) h g))
    told-renamed (Told.reads {u = u} {v = z} r1 r2) (ActAlike.reads kp ka ks) (TraceAlike.stepped (TraceAlike.was_read kp2 kv ka2 i h)) g =
        rw (same-places kp2 kp, all-same ka2 ka)
        (Told.reads (told-renamed r1 (next-alike ps one code x y plain
        (words_after_read-alike ps code u.0 z ka kv StackAlike.empty)) i g.0)
        (told-renamed r2 (next-alike ps one code x y plain ks) h g.1))

  -- each known block has a pair, whose other block is known on the other side
  abbrev Listed : List ℕ → List ℕ → Type 0
  Listed bs bs' = (b : ℕ) → In b bs → (c : ℕ) × Tied b c ps × In c bs'

  module _ (n : ℕ) (bs bs' : List ℕ) (listed : Listed bs bs') where
    pub id-known : {b c : BlockId} → IdAlike ps b c → KnownBlock n bs b → KnownBlock n bs' c
    id-known IdAlike.input k = k
    id-known (IdAlike.core {b = b} {c = c} t) k = let g = listed b k in let e : g.0 ≡ c = one.left b g.0 c g.1 t in rw e at g.2

    pub word-known : {v w : Word} → WordAlike ps v w → KnownWord n bs v → KnownWord n bs' w
    word-known WordAlike.num k = k
    word-known WordAlike.null k = k
    word-known (WordAlike.block h) k = id-known h k
    word-known (WordAlike.at h) k = id-known h.block k

    pub words-known : {vs ws : List Word} → WordsAlike ps vs ws → KnownWords n bs vs → KnownWords n bs' ws
    words-known WordsAlike.none k = k
    words-known (WordsAlike.more h i) k = (word-known h k.0, words-known i k.1)

    pub key-known : {k l : Key} → KeyAlike ps k l → KnownKey n bs k → KnownKey n bs' l
    key-known (KeyAlike.init h) k = words-known h k
    key-known KeyAlike.int k = k
    key-known KeyAlike.pointer k = k

  listed-with : (bs bs' : List ℕ) (b c : ℕ) → Tied b c ps → Listed bs bs' → Listed (b ∷ bs) (c ∷ bs')
  listed-with bs bs' b c t h d here = (c, t, here)
  listed-with bs bs' b c t h d (there i) = let g = h d i in (g.0, g.1, there g.2)

  pub record MentionsToo (n : ℕ) (bs' : List ℕ) (m : Trace) (cs : List ℕ) : Type 0 where
    pub after : List ℕ
    pub mentions : Mentions n bs' m after
    pub listed : (b : ℕ) → In b cs → (c : ℕ) × Tied b c ps × In c after

  pub mentions-renamed : (n : ℕ) {bs cs : List ℕ} {l : Trace} → Mentions n bs l cs → {m : Trace} → TraceAlike ps l m →
      (bs' : List ℕ) → ((b : ℕ) → In b bs → (c : ℕ) × Tied b c ps × In c bs') → MentionsToo n bs' m cs
  mentions-renamed n Mentions.end TraceAlike.nothing bs' h = record { after = bs'; mentions = Mentions.end; listed = h }
  mentions-renamed n (Mentions.step k) (TraceAlike.stepped t) bs' h = let q = mentions-renamed n k t bs' h in record { after = q.after; mentions = Mentions.step q.mentions; listed = q.listed }
  mentions-renamed n {bs} (Mentions.alloc {b = b} ka k) (TraceAlike.allocated (IdAlike.core {c = c} i) kk t) bs' h =
      let q = mentions-renamed n k t (c ∷ bs') (listed-with bs bs' b c i h) in
      record { after = q.after; mentions = Mentions.alloc (key-known n bs bs' h kk ka) q.mentions; listed = q.listed }
  mentions-renamed n {bs} (Mentions.write mp mv k) (TraceAlike.wrote kp kv t) bs' h =
      let q = mentions-renamed n k t bs' h in
      record { after = q.after; mentions = Mentions.write (id-known n bs bs' h kp.block mp) (word-known n bs bs' h kv mv) q.mentions; listed = q.listed }
  mentions-renamed n {bs} (Mentions.read mp mv ma k1 k2) (TraceAlike.was_read kp kv ka ti t) bs' h =
      let q1 = mentions-renamed n k1 ti bs' h in
      let q2 = mentions-renamed n k2 t q1.after q1.listed in
      record {
        after = q2.after;
        mentions = Mentions.read (id-known n bs bs' h kp.block mp) (word-known n bs bs' h kv mv) (words-known n bs bs' h ka ma) q1.mentions q2.mentions;
        listed = q2.listed;
      }

  core-at : (b c d e : ℕ) → Tied b c ps → Tied d e ps → one_if c e ≡ one_if b d
  core-at b c d e t s = ap (λ t. if t then 1 else 0) (sym (id-both ps one (IdAlike.core s) (IdAlike.core t)))

  id-at : (b c : ℕ) {d e : BlockId} → Tied b c ps → IdAlike ps d e → one_at c e ≡ one_at b d
  id-at b c t IdAlike.input = refl
  id-at b c t (IdAlike.core {b = d} {c = e} s) = core-at b c d e t s

  -- a block occurs as often as the one that it stands for
  pub uses-renamed : {l m : Trace} → TraceAlike ps l m → (b c : ℕ) → Tied b c ps → uses c m ≡ uses b l
  uses-renamed TraceAlike.nothing b c t = refl
  uses-renamed (TraceAlike.stepped h) b c t = uses-renamed h b c t
  uses-renamed (TraceAlike.allocated {b = d} {c = e} {l = l} {m = m} i k h) b c t =
      omega (arith, uses-renamed h b c t, id-at b c t i, times-cons c e (blocks_of m), times-cons b d (blocks_of l))
  uses-renamed (TraceAlike.wrote p w h) b c t = uses-renamed h b c t
  uses-renamed (TraceAlike.was_read {i = i} {j = j} {l = l} {m = m} p w vs ki h) b c t =
      omega (arith, uses-renamed ki b c t, uses-renamed h b c t, times-append c (blocks_of j) (blocks_of m), times-append b (blocks_of i) (blocks_of l))

  -- and each that occurs has one
  pub uses-tied : {l m : Trace} → TraceAlike ps l m → (c : ℕ) → (uses c m ≡ 0) ⊎ ((b : ℕ) × Tied b c ps)
  uses-tied TraceAlike.nothing c = inl refl
  uses-tied (TraceAlike.stepped h) c = uses-tied h c
  uses-tied (TraceAlike.allocated IdAlike.input k h) c = uses-tied h c
  uses-tied (TraceAlike.allocated {m = m} (IdAlike.core {b = d} {c = e} t) k h) c = go (e == c) refl (uses-tied h c)
    where
      go : (z : Bool) → (e == c) ≡ z → (uses c m ≡ 0) ⊎ ((b : ℕ) × Tied b c ps) → ((if e == c then 1 else 0) + uses c m ≡ 0) ⊎ ((b : ℕ) × Tied b c ps)
      go true z k = inr (d, rw (nat-same e c z) at t)
      go false z (inl k) = inl (rw z (omega (arith, k)))
      go false z (inr k) = inr k
  uses-tied (TraceAlike.wrote p w h) c = uses-tied h c
  uses-tied (TraceAlike.was_read {q = q} {w = w} {u = u} {x = z} {ws = ws} {j = j} {m = m} kp kv ka ki h) c = go (uses-tied ki c) (uses-tied h c)
    where
      go : (uses c j ≡ 0) ⊎ ((b : ℕ) × Tied b c ps) → (uses c m ≡ 0) ⊎ ((b : ℕ) × Tied b c ps) → (uses c (WasRead q w u z ws j m) ≡ 0) ⊎ ((b : ℕ) × Tied b c ps)
      go (inl s) (inl t) = inl (omega (arith, s, t, times-append c (blocks_of j) (blocks_of m)))
      go (inl s) (inr t) = inr t
      go (inr s) t = inr s

  pub distinct-renamed : {l m : Trace} → TraceAlike ps l m → Distinct (core_numbers (blocks_of l)) → Distinct (core_numbers (blocks_of m))
  distinct-renamed {l} {m} h d c = go (uses-tied h c)
    where
      go : (uses c m ≡ 0) ⊎ ((b : ℕ) × Tied b c ps) → uses c m ≤ 1
      go (inl e) = omega (arith, e)
      go (inr t) = omega (arith, uses-renamed h t.0 c t.1, d t.0)

-- above all of its blocks
pub above : (l : Trace) → (f : ℕ) × ((b : ℕ) → 1 ≤ uses b l → b < f)
above Nothing = (0, λ b e. absurd (omega (arith, e)))
above (Stepped rest) = above rest
above (Allocated (Core c) key rest) = let q = above rest in (q.0 + suc c, λ b e. over b c rest q.0 (q.1 b) e)
  where
    over : (b c : ℕ) (rest : Trace) (f : ℕ) → (1 ≤ uses b rest → b < f) → 1 ≤ (if c == b then 1 else 0) + uses b rest → b < f + suc c
    over b c rest f h e = go (c == b) refl
      where
        go : (z : Bool) → (c == b) ≡ z → b < f + suc c
        go true z = let i : c ≡ b = nat-same c b z in omega (arith, i)
        go false z = let e' : 1 ≤ (if false then 1 else 0) + uses b rest = rw z at e in omega (arith, h (omega (arith, e')))
above (Allocated (Input i) key rest) = above rest
above (Wrote p v rest) = above rest
above (WasRead p v u y args inside rest) =
    let q1 = above inside in let q2 = above rest in
    (q1.0 + q2.0, λ b e. over b inside rest q1.0 q2.0 (q1.1 b) (q2.1 b) e)
  where
    over : (b : ℕ) (i l : Trace) (f g : ℕ) → (1 ≤ uses b i → b < f) → (1 ≤ uses b l → b < g) → 1 ≤ uses b (WasRead p v u y args i l) → b < f + g
    over b i l f g h k e = go (uses b i) refl
      where
        go : (n : ℕ) → uses b i ≡ n → b < f + g
        go zero z = omega (arith, k (omega (arith, e, z, times-append b (blocks_of i) (blocks_of l))))
        go (suc n) z = omega (arith, h (omega (arith, z)))

module _ (code : Code) (inputs : List Block) (f : ℕ) (args : List Word) (fits : Fits code inputs f args) (ps : Pairs)
    (one : OneToOne ps) (l m : Trace) (alike : TraceAlike ps l m) (r : Replays code inputs f args l) where
  walk : WalkedToo (length inputs) ps one code [] (input_plain code inputs) (input_plain code inputs) l m r.known (λ b. b < (above l).0) (λ c. c < (above m).0)
  walk =
      walk-too (length inputs) ps one code (λ b. b < (above l).0) (λ c. c < (above m).0) r.mentions alike []
      (λ b c i. elim i [ ]) (λ b i. elim i [ ]) (input_plain code inputs) (input_plain code inputs) plain
      (λ b c i. elim i [ ]) (λ b c i. elim i [ ]) (above l).1 (above m).1
    where
      plain : PlainAlike code.structs [] (input_plain code inputs) (input_plain code inputs)
      plain b c (IdAlike.input {i = i}) = begin-self code inputs [] fits.blocks i
      plain b c (IdAlike.core t) = elim t [ ]

  narrow : OneToOne walk.pairs
  narrow = one-within walk.pairs ps walk.within one

  pub renamed-mentions : MentionsToo ps one (length inputs) [] m r.known
  renamed-mentions = mentions-renamed ps one (length inputs) r.mentions alike [] (λ b i. elim i [ ])

  pub renamed-distinct : Distinct (core_numbers (blocks_of m))
  renamed-distinct = distinct-renamed ps one alike r.distinct

  learnt-too : Learns code (length inputs) (input_plain code inputs) m renamed-mentions.after
  learnt-too = learns code (length inputs) renamed-mentions.mentions (input_plain code inputs) (inputs-hold code inputs fits.blocks) renamed-distinct (λ c e. no-core code inputs c)

  told-too : Told code (plain_of code inputs m) (next code (plain_of code inputs m) (started code f args)) m
  unfolding plain_of
  told-too =
      told-renamed walk.pairs narrow code (plain_after code (input_plain code inputs) l) (plain_after code (input_plain code inputs) m) walk.plain
      (yields-told code (plain_after code (input_plain code inputs) l) r.yields)
      (next-alike walk.pairs narrow code (plain_after code (input_plain code inputs) l)
      (plain_after code (input_plain code inputs) m) walk.plain
      (started-alike code (length inputs) walk.pairs f args (args-known code inputs f args fits)))
      walk.trace (learnt-too.made' (plain_after code (input_plain code inputs) m) (λ b block e. e))

  pub renamed-replays : Replays code inputs f args m
  renamed-replays = record {
    yields = told-yields code (plain_of code inputs m) told-too (started code f args) refl;
    distinct = renamed-distinct;
    known = renamed-mentions.after;
    mentions = renamed-mentions.mentions;
  }

  pub renamed-honest : IsHonest code inputs l → IsHonest code inputs m
  renamed-honest h =
      let q = honest-renamed ps one code h.walk alike (bases code inputs) (bases-self code inputs ps fits.blocks) in
      record { after = q.after; walk = q.walk }
