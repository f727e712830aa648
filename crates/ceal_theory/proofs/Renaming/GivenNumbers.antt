-- The repair with given names is the repair, renamed.
use Rattle.std.proofs.Common.{◌≡◌, ℕ, zero, suc, ◌+◌, ◌-◌, ◌≤◌, ◌<◌, nat_le, Bool, true, false, Some, List, [], ◌∷◌, ◌++◌, ◌⊎◌, inl, inr, length, slice_get, refl, sym, ap, ap₂, ◌∙◌, arith}
use Rattle.ceal_base.specs.Block.{Block}
use Rattle.ceal_base.specs.Trace.{Trace, Nothing, Stepped, blocks_of}
use Rattle.ceal_base.specs.declared.forest.Key.{Key}
use Rattle.ceal_base.specs.declared.forest.Key.TheVariants.{Init, ModInt as IntKey, ModPtr as PtrKey}
use Rattle.ceal_base.specs.declared.word.BlockId.{BlockId}
use Rattle.ceal_base.specs.declared.word.BlockId.TheVariants.{Input, Core}
use Rattle.ceal_base.specs.declared.word.Place.{Place}
use Rattle.ceal_base.specs.declared.word.Word.{Word}
use Rattle.ceal_base.specs.declared.word.Word.TheVariants.{Num, Null, Block as BlockWord, At}
use Rattle.ceal_code.proofs.Alike.BlockPairs.{one_if, one-at}
use Rattle.ceal_code.proofs.Words.SameIsEqual.{none-some, some-same}
use Rattle.ceal_code.specs.Alike.{Pairs, Tied, IdAlike, PlaceAlike, WordAlike, WordsAlike, KeyAlike, PlainAlike, TraceAlike, OneToOne}
use Rattle.ceal_code.specs.Fitting.{Fits}
use Rattle.ceal_code.specs.Program.{Code}
use Rattle.ceal_code.specs.Replay.{In, here, there, KnownBlock, KnownWord, KnownWords, KnownKey, Mentions, Distinct, count, core_numbers, input_plain}
use Rattle.ceal_theory.proofs.Repair.DistinctBlocks.{times, uses, times-append}
use Rattle.ceal_theory.proofs.Renaming.FlippedPairs.{flipped, tied-back, one-flip, trace-flip}
use Rattle.ceal_theory.proofs.Renaming.RepairSideBySide.{Sides, ComesFrom, RanToo, anew-too}
use Rattle.ceal_theory.proofs.Repair.EndAsFromScratch.{first-replays, first-honest}
use Rattle.ceal_code.proofs.TypedCode.FittingWords.{args-known}
use Rattle.ceal_code.proofs.Replay.ReplayedCall.{begin-self, bases-self, started-alike}
use Rattle.ceal_code.specs.Step.{started}
use Rattle.ceal_theory.proofs.Repair.FunctionOfRules.{adjusted-sound, adjusted-found, first-sound, first-found}
use Rattle.ceal_theory.proofs.Store.WordsGrow.{mentions-subset}
use Rattle.ceal_theory.proofs.Store.FittingInputs.{fits-more}
use Rattle.ceal_theory.proofs.Repair.RepairLaws.{repair-law, renamed-law}
use Rattle.ceal_theory.proofs.Renaming.RenamedRepair.{PairFrom, above-apart, adjust-renamed}
use Rattle.ceal_theory.proofs.Repair.RepairReplays.{mentions-new}
use Rattle.ceal_theory.specs.Adjust.{AdjustsAs, FirstsAs}
use Rattle.ceal_theory.specs.Computed.{Repaired, adjusted, first_of}
use Rattle.ceal_theory.specs.Laws.{Edited}
use Rattle.ceal_theory.specs.Named.{id_by, place_by, word_by, words_by, key_by, trace_by, naming, Apart, NamedPair, Named, NamedLaw, NamedFirstLaw, then_from, HandedLaw, RenamingLaw}
use Rattle.ceal_theory.specs.Repair.{Single, own, begins}

-- what is alike by pairs that a renaming has is renamed
module _ (ps : Pairs) (r : ℕ → ℕ) (h : (b c : ℕ) → Tied b c ps → c ≡ r b) where
  id-by : {b c : BlockId} → IdAlike ps b c → c ≡ id_by r b
  id-by IdAlike.input = refl
  id-by (IdAlike.core {b = b} {c = c} t) = ap Core (h b c t)

  place-by : {p q : Place} → PlaceAlike ps p q → q ≡ place_by r p
  place-by {p} {q} k = ap₂ (λ b f. record { block = b; field = f }) (id-by k.block) (sym k.field)

  word-by : {v w : Word} → WordAlike ps v w → w ≡ word_by r v
  word-by WordAlike.num = refl
  word-by WordAlike.null = refl
  word-by (WordAlike.block k) = ap BlockWord (id-by k)
  word-by (WordAlike.at k) = ap At (place-by k)

  words-by : {vs ws : List Word} → WordsAlike ps vs ws → ws ≡ words_by r vs
  words-by WordsAlike.none = refl
  words-by (WordsAlike.more k i) = ap₂ ◌∷◌ (word-by k) (words-by i)

  key-by : {k l : Key} → KeyAlike ps k l → l ≡ key_by r k
  key-by (KeyAlike.init {f = f} k) = ap (Init f) (words-by k)
  key-by KeyAlike.int = refl
  key-by KeyAlike.pointer = refl

  pub trace-by : {l m : Trace} → TraceAlike ps l m → m ≡ trace_by r l
  trace-by TraceAlike.nothing = refl
  trace-by (TraceAlike.stepped k) = ap Stepped (trace-by k)
  trace-by (TraceAlike.allocated i k t) = rw (id-by i, key-by k, trace-by t) refl
  trace-by (TraceAlike.wrote p v t) = rw (place-by p, word-by v, trace-by t) refl
  trace-by (TraceAlike.was_read p v vs i t) = rw (place-by p, word-by v, words-by vs, trace-by i, trace-by t) refl

-- each block with itself
abbrev pub selves : List ℕ → Pairs
selves [] = []
selves (b ∷ bs) = record { left = b; right = b } ∷ selves bs

pub self-tied : (b : ℕ) (bs : List ℕ) → In b bs → Tied b b (selves bs)
self-tied b [] i = elim i [ ]
self-tied b (c ∷ bs) here = Tied.here
self-tied b (c ∷ bs) (there i) = Tied.there (self-tied b bs i)

pub tied-same : (b c : ℕ) (bs : List ℕ) → Tied b c (selves bs) → b ≡ c
tied-same b c [] t = elim t [ ]
tied-same b c (d ∷ bs) Tied.here = refl
tied-same b c (d ∷ bs) (Tied.there t) = tied-same b c bs t

pub selves-one : (bs : List ℕ) → OneToOne (selves bs)
selves-one bs = record {
  left = λ b c d s t. sym (tied-same b c bs s) ∙ tied-same b d bs t;
  right = λ b c d s t. tied-same b d bs s ∙ sym (tied-same c d bs t);
}

module _ (n : ℕ) (ps : Pairs) (bs : List ℕ) (h : (b : ℕ) → In b bs → Tied b b ps) where
  id-self : (b : BlockId) → KnownBlock n bs b → IdAlike ps b b
  id-self (Input i) k = IdAlike.input
  id-self (Core b) k = IdAlike.core (h b k)

  place-self : (p : Place) → KnownBlock n bs p.block → PlaceAlike ps p p
  place-self p k = record { block = id-self p.block k; field = refl }

  word-self : (w : Word) → KnownWord n bs w → WordAlike ps w w
  word-self (Num z) k = WordAlike.num
  word-self Null k = WordAlike.null
  word-self (BlockWord b) k = WordAlike.block (id-self b k)
  word-self (At p) k = WordAlike.at (place-self p k)

  words-self : (ws : List Word) → KnownWords n bs ws → WordsAlike ps ws ws
  words-self [] k = WordsAlike.none
  words-self (w ∷ ws) k = WordsAlike.more (word-self w k.0) (words-self ws k.1)

  key-self : (key : Key) → KnownKey n bs key → KeyAlike ps key key
  key-self (Init f args) k = KeyAlike.init (words-self args k)
  key-self IntKey k = KeyAlike.int
  key-self (PtrKey s) k = KeyAlike.pointer

-- a trace is alike itself
pub trace-self : (n : ℕ) (ps : Pairs) {bs cs : List ℕ} {l : Trace} → Mentions n bs l cs → ((b : ℕ) → In b cs → Tied b b ps) → TraceAlike ps l l
trace-self n ps Mentions.end h = TraceAlike.nothing
trace-self n ps (Mentions.step m) h = TraceAlike.stepped (trace-self n ps m h)
trace-self n ps {bs} {cs} (Mentions.alloc {b = b} {key = key} k m) h =
    TraceAlike.allocated (IdAlike.core (h b (mentions-subset m b here))) (key-self n ps bs (λ c i. h c (mentions-subset m c (there i))) key k) (trace-self n ps m h)
trace-self n ps {bs} {cs} (Mentions.write {p = p} {value = v} k l m) h =
    TraceAlike.wrote (place-self n ps bs (λ c i. h c (mentions-subset m c i)) p k) (word-self n ps bs (λ c i. h c (mentions-subset m c i)) v l) (trace-self n ps m h)
trace-self n ps {bs} {cs} (Mentions.read {p = p} {value = v} {args = args} k l j m1 m2) h =
    let low : (c : ℕ) → In c bs → Tied c c ps = λ c i. h c (mentions-subset m2 c (mentions-subset m1 c i)) in
    TraceAlike.was_read (place-self n ps bs low p k) (word-self n ps bs low v l) (words-self n ps bs low args j)
    (trace-self n ps m1 (λ c i. h c (mentions-subset m2 c i))) (trace-self n ps m2 h)

-- each block with its new number
abbrev renamings : (ℕ → ℕ) → List ℕ → Pairs
renamings r [] = []
renamings r (b ∷ bs) = record { left = b; right = r b } ∷ renamings r bs

renamed-tied : (r : ℕ → ℕ) (b : ℕ) (bs : List ℕ) → In b bs → Tied b (r b) (renamings r bs)
renamed-tied r b [] i = elim i [ ]
renamed-tied r b (c ∷ bs) here = Tied.here
renamed-tied r b (c ∷ bs) (there i) = Tied.there (renamed-tied r b bs i)

tied-renamed : (r : ℕ → ℕ) (b c : ℕ) (bs : List ℕ) → Tied b c (renamings r bs) → (c ≡ r b) × In b bs
tied-renamed r b c [] t = elim t [ ]
tied-renamed r b c (d ∷ bs) Tied.here = (refl, here)
tied-renamed r b c (d ∷ bs) (Tied.there t) = let q = tied-renamed r b c bs t in (q.0, there q.1)

renamings-one : (r : ℕ → ℕ) (bs : List ℕ) → ((b c : ℕ) → In b bs → In c bs → r b ≡ r c → b ≡ c) → OneToOne (renamings r bs)
renamings-one r bs h = record {
  left = λ b c d s t. (tied-renamed r b c bs s).0 ∙ sym (tied-renamed r b d bs t).0;
  right = λ b c d s t. let p = tied-renamed r b d bs s in let q = tied-renamed r c d bs t in h b c p.1 q.1 (sym p.0 ∙ q.0);
}

module _ (n : ℕ) (ps : Pairs) (r : ℕ → ℕ) (bs : List ℕ) (h : (b : ℕ) → In b bs → Tied b (r b) ps) where
  id-renamed : (b : BlockId) → KnownBlock n bs b → IdAlike ps b (id_by r b)
  id-renamed (Input i) k = IdAlike.input
  id-renamed (Core b) k = IdAlike.core (h b k)

  place-renamed : (p : Place) → KnownBlock n bs p.block → PlaceAlike ps p (place_by r p)
  place-renamed p k = record { block = id-renamed p.block k; field = refl }

  word-renamed : (w : Word) → KnownWord n bs w → WordAlike ps w (word_by r w)
  word-renamed (Num z) k = WordAlike.num
  word-renamed Null k = WordAlike.null
  word-renamed (BlockWord b) k = WordAlike.block (id-renamed b k)
  word-renamed (At p) k = WordAlike.at (place-renamed p k)

  words-renamed : (ws : List Word) → KnownWords n bs ws → WordsAlike ps ws (words_by r ws)
  words-renamed [] k = WordsAlike.none
  words-renamed (w ∷ ws) k = WordsAlike.more (word-renamed w k.0) (words-renamed ws k.1)

  key-renamed : (key : Key) → KnownKey n bs key → KeyAlike ps key (key_by r key)
  key-renamed (Init f args) k = KeyAlike.init (words-renamed args k)
  key-renamed IntKey k = KeyAlike.int
  key-renamed (PtrKey s) k = KeyAlike.pointer

trace-renamed : (n : ℕ) (ps : Pairs) (r : ℕ → ℕ) {bs cs : List ℕ} {l : Trace} → Mentions n bs l cs → ((b : ℕ) → In b cs → Tied b (r b) ps) → TraceAlike ps l (trace_by r l)
trace-renamed n ps r Mentions.end h = TraceAlike.nothing
trace-renamed n ps r (Mentions.step m) h = TraceAlike.stepped (trace-renamed n ps r m h)
trace-renamed n ps r {bs} {cs} (Mentions.alloc {b = b} {key = key} k m) h =
    TraceAlike.allocated (IdAlike.core (h b (mentions-subset m b here))) (key-renamed n ps r bs (λ c i. h c (mentions-subset m c (there i))) key k) (trace-renamed n ps r m h)
trace-renamed n ps r {bs} {cs} (Mentions.write {p = p} {value = v} k l m) h =
    TraceAlike.wrote (place-renamed n ps r bs (λ c i. h c (mentions-subset m c i)) p k) (word-renamed n ps r bs (λ c i. h c (mentions-subset m c i)) v l) (trace-renamed n ps r m h)
trace-renamed n ps r {bs} {cs} (Mentions.read {p = p} {value = v} {args = args} k l j m1 m2) h =
    let low : (c : ℕ) → In c bs → Tied c (r c) ps = λ c i. h c (mentions-subset m2 c (mentions-subset m1 c i)) in
    TraceAlike.was_read (place-renamed n ps r bs low p k) (word-renamed n ps r bs low v l) (words-renamed n ps r bs low args j)
    (trace-renamed n ps r m1 (λ c i. h c (mentions-subset m2 c i))) (trace-renamed n ps r m2 h)

in-case : (b c : ℕ) (bs : List ℕ) → In b (c ∷ bs) → (c ≡ b) ⊎ In b bs
in-case b c bs here = inl refl
in-case b c bs (there i) = inr i

-- each known block is one of the trace's, or was known before
known-uses : {n : ℕ} {bs cs : List ℕ} {l : Trace} → Mentions n bs l cs → (b : ℕ) → In b cs → In b bs ⊎ 1 ≤ uses b l
known-uses Mentions.end b i = inl i
known-uses (Mentions.step m) b i = known-uses m b i
known-uses {bs = bs} (Mentions.alloc {b = c} {rest = rest} k m) b i = go (known-uses m b i)
  where
    back : (c ≡ b) ⊎ In b bs → In b bs ⊎ 1 ≤ one_if b c + uses b rest
    back (inl e) = inr (omega (arith, one-at b c e))
    back (inr i) = inl i

    go : In b (c ∷ bs) ⊎ 1 ≤ uses b rest → In b bs ⊎ 1 ≤ one_if b c + uses b rest
    go (inl i) = back (in-case b c bs i)
    go (inr h) = inr (omega (arith, h))
known-uses (Mentions.write k l m) b i = known-uses m b i
known-uses {bs = bs} (Mentions.read {ds = ds} {inside = inside} {rest = rest} k l j m1 m2) b i = go (known-uses m2 b i) (known-uses m1 b)
  where
    go : In b ds ⊎ 1 ≤ uses b rest → (In b ds → In b bs ⊎ 1 ≤ uses b inside) → In b bs ⊎ 1 ≤ times b (blocks_of inside ++ blocks_of rest)
    go (inr h) f = inr (omega (arith, h, times-append b (blocks_of inside) (blocks_of rest)))
    go (inl i) f = back (f i)
      where
        back : In b bs ⊎ 1 ≤ uses b inside → In b bs ⊎ 1 ≤ times b (blocks_of inside ++ blocks_of rest)
        back (inl i) = inl i
        back (inr h) = inr (omega (arith, h, times-append b (blocks_of inside) (blocks_of rest)))

used : (n : ℕ) (cs : List ℕ) (l : Trace) → Mentions n [] l cs → (b : ℕ) → In b cs → 1 ≤ uses b l
used n cs l m b i = go (known-uses m b i)
  where
    go : In b [] ⊎ 1 ≤ uses b l → 1 ≤ uses b l
    go (inl j) = elim j [ ]
    go (inr h) = h

pub renaming-law : RenamingLaw
renaming-law code inputs f args fits l p r h =
    let ps = renamings r p.known in
    let u : (b : ℕ) → In b p.known → 1 ≤ uses b l = used (length inputs) p.known l p.mentions in
    let one = renamings-one r p.known (λ b c i j e. h b c (u b i) (u c j) e) in
    let alike = trace-renamed (length inputs) ps r p.mentions (λ b i. renamed-tied r b p.known i) in
    let q = renamed-law code inputs f args fits ps one l (trace_by r l) alike p in
    record {
      pairs = ps;
      one = one;
      each = λ b c t. let e = tied-renamed r b c p.known t in (e.0, u b e.1);
      alike = alike;
      replays = q.0;
      honest = q.1;
    }

naming-old : (number b : ℕ) (names : ℕ → ℕ) → b < number → b ≡ naming number names b
naming-old number b names h = let e : nat_le number b ≡ false = grind (arith, h) in rw e

naming-new : (number k : ℕ) (names : ℕ → ℕ) → names k ≡ naming number names (number + k)
naming-new number k names =
    let e : nat_le number (number + k) ≡ true = grind arith in
    let d : number + k - number ≡ k = omega arith in
    rw (e, d)

module _ (code : Code) (old new : List Block) (f : ℕ) (args : List Word) (l : Trace) (number : ℕ)
    (e : Edited code old new f args l number) (names : ℕ → ℕ) (single : Single names) (apart : Apart names l)
    (n : ℕ) where
  mentions : Mentions (length new) [] l e.trace.known
  mentions = mentions-new code old new f args e.call e.fit e.extended l e.trace

  ps : Pairs
  ps = selves e.trace.known

  self : TraceAlike (selves e.trace.known) l l
  self = trace-self (length new) (selves e.trace.known) mentions (λ b i. self-tied b e.trace.known i)

  away : (b : ℕ) → 1 ≤ uses b l → (k : ℕ) → 0 ≤ k → ¬ (b ≡ names k)
  away b h k i s = absurd (omega (arith, apart k, (rw s at h)))

  below : (b : ℕ) → 1 ≤ uses b l → b < number
  below b h = go (nat_le number b) refl
    where
      go : (t : Bool) → nat_le number b ≡ t → b < number
      go true i = absurd (omega (arith, h, e.above b (grind (arith, i))))
      go false i = grind (arith, i)

  named-pair : (b c : ℕ) → NamedPair l number names b c → c ≡ naming number names b
  named-pair b c (NamedPair.old s h) = sym s ∙ naming-old number b names (below b h)
  named-pair b c (NamedPair.new k s t) = t ∙ (naming-new number k names ∙ ap (naming number names) (sym s))

  named : (a m : Trace) (work : ℕ) → AdjustsAs code new own number l a work → (qs : Pairs) → OneToOne qs → ((b c : ℕ) → Tied b c qs → NamedPair l number names b c) → TraceAlike qs a m
      → Named code new f args l number names a m
  named a m work d qs one each alike =
      let u = repair-law code old new f args l a number work e d in
      let r = renamed-law code new f args (fits-more code old new e.extended f args e.call e.fit) qs one a m alike u.replays in
      record {
        same = trace-by qs (naming number names) (λ b c t. named-pair b c (each b c t)) alike;
        pairs = qs;
        one = one;
        each = each;
        alike = alike;
        replays = r.0;
        honest = r.1 u.honest;
      }

  there-pair : (b c : ℕ) → PairFrom (selves e.trace.known) l l own names number 0 b c → NamedPair l number names b c
  there-pair b c (PairFrom.old t h k) = NamedPair.old (tied-same b c e.trace.known t) h
  there-pair b c (PairFrom.new k s t) = NamedPair.new k s (t ∙ ap names (omega arith))

  back-pair : (b c : ℕ) → PairFrom (selves e.trace.known) l l names own 0 number b c → NamedPair l number names c b
  back-pair b c (PairFrom.old t h k) = NamedPair.old (sym (tied-same b c e.trace.known t)) k
  back-pair b c (PairFrom.new k s t) = NamedPair.new k t (s ∙ ap names (omega arith))

  pub named-there : (a : Repaired) → adjusted code new number n l ≡ Some a
      → (m : Trace) × AdjustsAs code new names 0 l m a.work × Named code new f args l number names a.items m
  named-there a h =
      let s = adjusted-sound code new number n l a h in
      let q = adjust-renamed code new e.fit (selves e.trace.known) (selves-one e.trace.known) own names (λ j k i. i) single l l self e.trace.known mentions number 0
      (above-apart number l e.above) away a.items a.work s.0 in
      (q.items, q.adjusts, named a.items q.items a.work s.0 q.pairs q.one (λ b c t. there-pair b c (q.from b c t)) q.alike)

  pub named-back : (m : Trace) (work : ℕ) → AdjustsAs code new names 0 l m work → work ≤ n
      → (a : Repaired) × (adjusted code new number n l ≡ Some a) × (a.work ≡ work) × Named code new f args l number names a.items m
  named-back m work d h =
      let q = adjust-renamed code new e.fit (selves e.trace.known) (selves-one e.trace.known) names own single (λ j k i. i) l l self e.trace.known mentions 0 number
      away (above-apart number l e.above) m work d in (
        record { items = q.items; work = work },
        adjusted-found code new number n l q.items work q.adjusts h,
        refl,
        named q.items m work q.adjusts (flipped q.pairs) (one-flip q.pairs q.one) (λ b c t. back-pair c b (q.from c b (tied-back q.pairs c b t))) (trace-flip q.pairs q.alike),
      )

pub named-law : NamedLaw
named-law code old new f args l number e names single apart n = record {
  there = named-there code old new f args l number e names single apart n;
  back = named-back code old new f args l number e names single apart n;
}

-- a first trace with other names
record RenamedFirst (code : Code) (inputs : List Block) (f : ℕ) (args : List Word) (names names' : ℕ → ℕ) (l' : Trace) (work : ℕ) : Type 0 where
  items : Trace
  firsts : FirstsAs code inputs names' f args items work
  pairs : Pairs
  one : OneToOne pairs
  alike : TraceAlike pairs l' items
  from : (b c : ℕ) → Tied b c pairs → (k : ℕ) × (b ≡ names k) × (c ≡ names' k)

module _ (code : Code) (inputs : List Block) (f : ℕ) (args : List Word) (fits : Fits code inputs f args) where
  first-renamed : (names names' : ℕ → ℕ) → Single names → Single names' → (l' : Trace) (work : ℕ) → FirstsAs code inputs names f args l' work → RenamedFirst code inputs f args names names' l' work
  first-renamed names names' single single' l' work a =
      finish (anew-too code sides a.anew [] (begins code inputs (input_plain code inputs) 0)
      (started-alike code (length inputs) [] f args (args-known code inputs f args fits)) TraceAlike.nothing
      (record {
        one = record { left = λ b c d s t. elim s [ ]; right = λ b c d s t. elim s [ ] };
        plain = plain;
        store = bases-self code inputs [] fits.blocks;
        left = λ b c i. elim i [ ];
        right = λ b c i. elim i [ ];
        work = refl;
        since = 0;
        numbers = (omega arith, omega arith);
        pairs = λ b c i. elim i [ ];
      }))
    where
      sides : Sides
      sides = record { left = names; right = names'; from = 0; other = 0; base = []; single-left = single; single-right = single' }

      plain : PlainAlike code.structs [] (input_plain code inputs) (input_plain code inputs)
      plain b c (IdAlike.input {i = i}) = begin-self code inputs [] fits.blocks i
      plain b c (IdAlike.core t) = elim t [ ]

      from : (b c : ℕ) → ComesFrom sides b c → (k : ℕ) × (b ≡ names k) × (c ≡ names' k)
      from b c (ComesFrom.begun i) = elim i [ ]
      from b c (ComesFrom.grown k s t) = (k, s ∙ ap names (omega arith), t ∙ ap names' (omega arith))

      finish : RanToo code sides [] a.after l' a.left (begins code inputs (input_plain code inputs) 0) (started code f args) Nothing → RenamedFirst code inputs f args names names' l' work
      finish x = record {
        items = x.items;
        firsts = record { after = x.state; left = x.over; anew = x.anew; counted = sym x.twin.work ∙ a.counted };
        pairs = x.pairs;
        one = x.twin.one;
        alike = x.alike;
        from = λ b c i. from b c (x.twin.pairs b c i);
      }

  module _ (names : ℕ → ℕ) (single : Single names) (n : ℕ) where
    first-named : (a m : Trace) (work : ℕ) → FirstsAs code inputs own f args a work → (qs : Pairs) → OneToOne qs → ((b c : ℕ) → Tied b c qs → (c ≡ names b)) → TraceAlike qs a m
        → Named code inputs f args Nothing 0 names a m
    first-named a m work d qs one each alike =
        let r = renamed-law code inputs f args fits qs one a m alike (first-replays code inputs f args fits a work d) in
        record {
          same = trace-by qs (naming 0 names) (λ b c t. each b c t ∙ start b) alike;
          pairs = qs;
          one = one;
          each = λ b c t. NamedPair.new b (omega arith) (each b c t);
          alike = alike;
          replays = r.0;
          honest = r.1 (first-honest code inputs f args fits a work d);
        }
      where
        start : (b : ℕ) → names b ≡ naming 0 names b
        start b = let e : 0 + b ≡ b = omega arith in naming-new 0 b names ∙ ap (naming 0 names) e

    pub first-there : (a : Repaired) → first_of code inputs n f args ≡ Some a
        → (m : Trace) × FirstsAs code inputs names f args m a.work × Named code inputs f args Nothing 0 names a.items m
    first-there a h =
        let s = first-sound code inputs n f args a h in
        let q = first-renamed own names (λ j k i. i) single a.items a.work s.0 in
        (q.items, q.firsts, first-named a.items q.items a.work s.0 q.pairs q.one (λ b c t. each b c (q.from b c t)) q.alike)
      where
        each : (b c : ℕ) → (k : ℕ) × (b ≡ k) × (c ≡ names k) → c ≡ names b
        each b c (k, s, t) = t ∙ ap names (sym s)

    pub first-back : (m : Trace) (work : ℕ) → FirstsAs code inputs names f args m work → work ≤ n
        → (a : Repaired) × (first_of code inputs n f args ≡ Some a) × (a.work ≡ work) × Named code inputs f args Nothing 0 names a.items m
    first-back m work d h =
        let q = first-renamed names own single (λ j k i. i) m work d in (
          record { items = q.items; work = work },
          first-found code inputs n f args q.items work q.firsts h,
          refl,
          first-named q.items m work q.firsts (flipped q.pairs) (one-flip q.pairs q.one) (λ b c t. each b c (q.from c b (tied-back q.pairs c b t))) (trace-flip q.pairs q.alike),
        )
      where
        each : (b c : ℕ) → (k : ℕ) × (c ≡ names k) × (b ≡ k) → c ≡ names b
        each b c (k, s, t) = s ∙ ap names (sym t)

pub named-first-law : NamedFirstLaw
named-first-law code inputs f args fits names single n = record {
  there = first-there code inputs f args fits names single n;
  back = first-back code inputs f args fits names single n;
}

handed-in : (bs : List ℕ) (bound k : ℕ) → (P : ℕ → Type 0) → ((b : ℕ) → In b bs → P b) → ((j : ℕ) → P (bound + j)) → P (then_from bs bound k)
handed-in [] bound k P h g = g k
handed-in (b ∷ bs) bound zero P h g = h b here
handed-in (b ∷ bs) bound (suc k) P h g = handed-in bs bound k P (λ c i. h c (there i)) g

in-count : (b : ℕ) (bs : List ℕ) → In b bs → 1 ≤ count b bs
in-count b [] i = elim i [ ]
in-count b (c ∷ bs) here = omega (arith, one-at b b refl)
in-count b (c ∷ bs) (there i) = omega (arith, in-count b bs i)

handed-single : (bs : List ℕ) (bound : ℕ) → Distinct bs → ((b : ℕ) → In b bs → b < bound) → Single (then_from bs bound)
handed-single [] bound d h j k e = omega (arith, e)
handed-single (b ∷ bs) bound d h zero zero e = refl
handed-single (b ∷ bs) bound d h zero (suc k) e =
    absurd (handed-in bs bound k (λ c. ¬ (b ≡ c)) (λ c i s. absurd (omega (arith, d b, one-at b b refl, in-count b bs (rw (← s) at i)))) (λ j s. absurd (omega (arith, s, h b here))) e)
handed-single (b ∷ bs) bound d h (suc j) zero e =
    absurd (handed-in bs bound j (λ c. ¬ (b ≡ c)) (λ c i s. absurd (omega (arith, d b, one-at b b refl, in-count b bs (rw (← s) at i)))) (λ j s. absurd (omega (arith, s, h b here))) (sym e))
handed-single (b ∷ bs) bound d h (suc j) (suc k) e = ap suc (handed-single bs bound (λ c. omega (arith, d c)) (λ c i. h c (there i)) j k e)

handed-at : (bs : List ℕ) (bound k b : ℕ) → slice_get bs k ≡ Some b → then_from bs bound k ≡ b
handed-at [] bound k b e = none-some b e
handed-at (c ∷ bs) bound zero b e = some-same c b e
handed-at (c ∷ bs) bound (suc k) b e = handed-at bs bound k b e

pub handed-law : HandedLaw
handed-law bs bound d h = (
  handed-single bs bound d h,
  handed-at bs bound,
  λ l above away k. handed-in bs bound k (λ c. count c (core_numbers (blocks_of l)) ≡ 0) away (λ j. above (bound + j) (omega arith)),
)
