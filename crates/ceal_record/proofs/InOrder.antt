-- A trace with its blocks in order is the same for each renaming of it.
use Rattle.std.proofs.Common.{◌≡◌, ℕ, ◌+◌, ◌==◌, Bool, true, false, if◌then◌else◌, Some, List, [], ◌∷◌, ◌++◌, map, refl, sym, ap, ap₂, ◌∙◌, subst}
use Rattle.ceal_base.specs.Block.{Block, Blocks}
use Rattle.ceal_base.specs.Same.{index_of}
use Rattle.ceal_base.specs.Trace.{Trace, flat, blocks_of}
use Rattle.ceal_base.specs.declared.forest.Item.{Item}
use Rattle.ceal_base.specs.declared.forest.Key.{Key}
use Rattle.ceal_base.specs.declared.forest.Key.TheVariants.{Init}
use Rattle.ceal_base.specs.declared.recorded.Record.{Record}
use Rattle.ceal_base.specs.declared.word.BlockId.{BlockId}
use Rattle.ceal_base.specs.declared.word.BlockId.TheVariants.{Input, Core}
use Rattle.ceal_base.specs.declared.word.Place.{Place}
use Rattle.ceal_base.specs.declared.word.Word.{Word}
use Rattle.ceal_base.specs.declared.word.Word.TheVariants.{Block as BlockWord, At}
use Rattle.ceal_code.proofs.Words.SameIsEqual.{nat-same, nat-refl}
use Rattle.ceal_code.specs.Alike.{Pairs, Tied, IdAlike, PlaceAlike, WordAlike, WordsAlike, KeyAlike, TraceAlike, OneToOne}
use Rattle.ceal_code.specs.Replay.{core_numbers}
use Rattle.ceal_record.specs.Laws.{OneRecordLaw, RenamedLaw}
use Rattle.ceal_record.specs.Recorded.{numbers_of, in_order}
use Rattle.ceal_theory.specs.Named.{id_by, place_by, word_by, words_by, key_by, trace_by}
use Rattle.ceal_traceck.specs.Verdicts.{Remembered}

-- each number of the one list is tied to that of the other
data EachTied (ps : Pairs) : List ℕ → List ℕ → Type 0 where
  none : EachTied ps [] []
  more : {b c : ℕ} {bs cs : List ℕ} → Tied b c ps → EachTied ps bs cs → EachTied ps (b ∷ bs) (c ∷ cs)

tied-then : {ps : Pairs} {bs cs bs' cs' : List ℕ} → EachTied ps bs cs → EachTied ps bs' cs' → EachTied ps (bs ++ bs') (cs ++ cs')
tied-then EachTied.none h = h
tied-then (EachTied.more t k) h = EachTied.more t (tied-then k h)

core-then : (xs ys : List BlockId) → core_numbers (xs ++ ys) ≡ core_numbers xs ++ core_numbers ys
core-then [] ys = refl
core-then (Core b ∷ xs) ys = ap (λ bs. b ∷ bs) (core-then xs ys)
core-then (Input i ∷ xs) ys = core-then xs ys

numbers-tied : {ps : Pairs} {l m : Trace} → TraceAlike ps l m → EachTied ps (numbers_of l) (numbers_of m)
numbers-tied TraceAlike.nothing = EachTied.none
numbers-tied (TraceAlike.stepped k) = numbers-tied k
numbers-tied (TraceAlike.allocated IdAlike.input key k) = numbers-tied k
numbers-tied (TraceAlike.allocated (IdAlike.core t) key k) = EachTied.more t (numbers-tied k)
numbers-tied (TraceAlike.wrote p v k) = numbers-tied k
numbers-tied {ps} (TraceAlike.was_read {i = i} {j = j} {l = l} {m = m} p v vs inside k) =
    subst (λ bs. EachTied ps bs (core_numbers (blocks_of j ++ blocks_of m))) (sym (core-then (blocks_of i) (blocks_of l)))
    (subst (λ cs. EachTied ps (numbers_of i ++ numbers_of l) cs) (sym (core-then (blocks_of j) (blocks_of m))) (tied-then (numbers-tied inside) (numbers-tied k)))

-- what is tied is at one place
place-tied : (ps : Pairs) → OneToOne ps → {bs cs : List ℕ} → EachTied ps bs cs → (b c : ℕ) → Tied b c ps → index_of bs b ≡ index_of cs c
place-tied ps one EachTied.none b c t = refl
place-tied ps one (EachTied.more {b = d} {c = e} {bs = bs} {cs = cs} s k) b c t = go (d == b) refl (e == c) refl (place-tied ps one k b c t)
  where
    go : (x : Bool) → (d == b) ≡ x → (y : Bool) → (e == c) ≡ y → index_of bs b ≡ index_of cs c → (if x then 0 else index_of bs b + 1) ≡ (if y then 0 else index_of cs c + 1)
    go true h true i j = refl
    go false h false i j = ap (λ n. n + 1) j
    go true h false i j =
        let same : e ≡ c = one.left b e c (subst (λ n. Tied n e ps) (nat-same d b h) s) t in
        absurd (cc (sym i ∙ (ap (λ n. n == c) same ∙ nat-refl c)))
    go false h true i j =
        let same : d ≡ b = one.right d b c (subst (λ n. Tied d n ps) (nat-same e c i) s) t in
        absurd (cc (sym h ∙ (ap (λ n. n == b) same ∙ nat-refl b)))

-- renamings that agree on what is tied
module _ (ps : Pairs) (f g : ℕ → ℕ) (h : (b c : ℕ) → Tied b c ps → f b ≡ g c) where
  id-same : {b c : BlockId} → IdAlike ps b c → id_by f b ≡ id_by g c
  id-same IdAlike.input = refl
  id-same (IdAlike.core {b = b} {c = c} t) = ap Core (h b c t)

  place-same : {p q : Place} → PlaceAlike ps p q → place_by f p ≡ place_by g q
  place-same k = ap₂ (λ b n. record { block = b; field = n }) (id-same k.block) k.field

  word-same : {v w : Word} → WordAlike ps v w → word_by f v ≡ word_by g w
  word-same WordAlike.num = refl
  word-same WordAlike.null = refl
  word-same (WordAlike.block k) = ap BlockWord (id-same k)
  word-same (WordAlike.at k) = ap At (place-same k)

  words-same : {vs ws : List Word} → WordsAlike ps vs ws → words_by f vs ≡ words_by g ws
  words-same WordsAlike.none = refl
  words-same (WordsAlike.more k i) = ap₂ ◌∷◌ (word-same k) (words-same i)

  key-same : {k l : Key} → KeyAlike ps k l → key_by f k ≡ key_by g l
  key-same (KeyAlike.init {f = n} k) = ap (Init n) (words-same k)
  key-same KeyAlike.int = refl
  key-same KeyAlike.pointer = refl

  trace-same : {l m : Trace} → TraceAlike ps l m → trace_by f l ≡ trace_by g m
  trace-same TraceAlike.nothing = refl
  trace-same (TraceAlike.stepped k) = ap Trace.Stepped (trace-same k)
  trace-same (TraceAlike.allocated i k t) = rw (id-same i, key-same k, trace-same t) refl
  trace-same (TraceAlike.wrote p v t) = rw (place-same p, word-same v, trace-same t) refl
  trace-same (TraceAlike.was_read p v vs i t) = rw (place-same p, word-same v, words-same vs, trace-same i, trace-same t) refl

pub order-same : (ps : Pairs) (l m : Trace) → OneToOne ps → TraceAlike ps l m → in_order l ≡ in_order m
unfolding in_order
order-same ps l m one k = trace-same ps (index_of (numbers_of l)) (index_of (numbers_of m)) (place-tied ps one (numbers-tied k)) k

pub renamed-law : RenamedLaw
renamed-law code inputs call ps l m r one k h =
    let e : in_order m ≡ in_order l = sym (order-same ps l m one k) in
    record {
      blocks = h.blocks;
      function = h.function;
      args = h.args;
      items = h.items ∙ ap flat e;
      memory = subst (Remembered code r) e h.memory;
    }

all-some : (xs ys : List Block) → map Some xs ≡ map Some ys → xs ≡ ys
all-some [] [] e = refl
all-some [] (y ∷ ys) e = absurd (cc e)
all-some (x ∷ xs) [] e = absurd (cc e)
all-some (x ∷ xs) (y ∷ ys) e = ap₂ ◌∷◌ (cc e) (all-some xs ys (cc e))

same-record : (i j : List Block) (f g : ℕ) (vs ws : List Word) (is js : List Item) (m n : Blocks) → i ≡ j → f ≡ g → vs ≡ ws → is ≡ js → m.inputs ≡ n.inputs → m.made ≡ n.made
    → ◌≡◌ {A = Record} (record { inputs = i; function = f; args = vs; forest = is; memory = m }) (record { inputs = j; function = g; args = ws; forest = js; memory = n })
same-record i j f g vs ws is js m n a b c d e k =
    let memory : m ≡ n = ap₂ (λ x y. record { inputs = x; made = y }) e k in
    rw (a, b, c, d, memory) refl

pub one-record : OneRecordLaw
one-record code inputs call l r s h k =
    let i : r.inputs ≡ s.inputs = h.blocks ∙ sym k.blocks in
    let there : Remembered code (record r { inputs = s.inputs }) (in_order l) = subst (λ x. Remembered code (record r { inputs = x }) (in_order l)) i h.memory in
    same-record r.inputs s.inputs r.function s.function r.args s.args r.forest s.forest r.memory s.memory i (h.function ∙ sym k.function) (h.args ∙ sym k.args) (h.items ∙ sym k.items)
    (there.inputs ∙ sym k.memory.inputs) (all-some r.memory.made s.memory.made (there.made ∙ sym k.memory.made))
