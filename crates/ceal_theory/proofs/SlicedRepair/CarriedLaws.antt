-- Repairs that are carried.
use Rattle.std.proofs.Common.{◌≡◌, ◌↔◌, ℕ, zero, suc, ◌+◌, ◌≤◌, ◌<◌, true, Option, Some, None, List, [], length, ◌⊎◌, inl, inr, refl, sym, ◌∙◌, subst, arith}
use Rattle.std.proofs.Math.Path.{fun_ext}
use Rattle.std.proofs.lemmas.Bool.{cases_order}
use Rattle.ceal_base.specs.Block.{Block}
use Rattle.ceal_base.specs.Fitting.{inputs_fit}
use Rattle.ceal_base.specs.Trace.{Trace}
use Rattle.ceal_base.specs.declared.word.BlockId.{BlockId}
use Rattle.ceal_base.specs.declared.word.BlockId.TheVariants.{Input, Core}
use Rattle.ceal_base.specs.declared.word.Word.{Word}
use Rattle.ceal_code.proofs.Replay.ReplayedCall.{begin-self}
use Rattle.ceal_code.proofs.Words.SameIsEqual.{none-some}
use Rattle.ceal_code.specs.Alike.{Pairs, Tied, IdAlike, PlainAlike, TraceAlike, Within, OneToOne}
use Rattle.ceal_code.specs.Fitting.{Fits}
use Rattle.ceal_code.specs.Program.{Code}
use Rattle.ceal_code.specs.Replay.{IsHonest, Replays, plain_of, plain_after, input_plain}
use Rattle.ceal_code.specs.Value.{Plain}
use Rattle.ceal_theory.proofs.Repair.DistinctBlocks.{uses}
use Rattle.ceal_theory.proofs.Renaming.FlippedPairs.{flipped, one-flip, tied-back, trace-flip}
use Rattle.ceal_theory.proofs.Store.FittingInputs.{no-core}
use Rattle.ceal_theory.proofs.Renaming.NamedBeginning.{named-beginning-law}
use Rattle.ceal_theory.proofs.Renaming.RenamedTrace.{uses-tied}
use Rattle.ceal_theory.proofs.Renaming.RenamedSlice.{with-alike, slice-renamed, repairs-flip, done-too}
use Rattle.ceal_theory.proofs.Renaming.RenamedWalk.{walk-too, WalkedToo}
use Rattle.ceal_code.proofs.Alike.BlockPairs.{one-within}
use Rattle.ceal_theory.proofs.Repair.RepairReplays.{plain-none}
use Rattle.ceal_theory.proofs.SlicedRepair.SliceLaws.{begin-law, other-names-law, slice-law, slices-law}
use Rattle.ceal_theory.proofs.SlicedRepair.Soundness.{uses-in}
use Rattle.ceal_theory.specs.Adjust.{Above}
use Rattle.ceal_theory.specs.Carried.{Knows, Carried, CarriedSlices, CarriedBeginLaw, CarriedMoreLaw, CarriedSliceLaw, CarriedSameLaw, CarriedTraceLaw, CarriedOnLaw, numbered_from_zero}
use Rattle.ceal_theory.specs.Laws.{Edited}
use Rattle.ceal_theory.specs.Repair.{Single, own}
use Rattle.ceal_theory.specs.SliceLaws.{IsNamed, NamedBeginning, Sliced}
use Rattle.ceal_theory.specs.Slices.{Repair, with_inputs, sliced, Slices, RepairHolds, beginning, AlikeRepairs, IsOldOrNewPair, RenamedSlices}

some-none : {A : Type 0} {B : Type 0} (o : Option A) (x : A) → o ≡ Some x → o ≡ None → B
some-none o x e n = none-some x (sym n ∙ e)

module _ {names : ℕ → ℕ} (code : Code) (inputs : List Block) (f : ℕ) (args : List Word) (r : Repair) (h : RepairHolds code names inputs f args r) where
  -- what the items allocate is known
  pub held-known : (b : ℕ) → 1 ≤ uses b r.items → Knows r.known b
  unfolding with_inputs
  held-known b e = let k = h.holds (Core b) (uses-in (length inputs) h.blocks b r.items h.uses e) in (k.block, k.there)

-- where blocks of items have others to stand for them
tied-right : (ps : Pairs) → OneToOne ps → {l m : Trace} → TraceAlike ps l m → (c : ℕ) → 1 ≤ uses c m → (b : ℕ) × Tied b c ps
tied-right ps one {l} {m} t c e = of (uses-tied ps one t c)
  where
    of : (uses c m ≡ 0) ⊎ ((b : ℕ) × Tied b c ps) → (b : ℕ) × Tied b c ps
    of (inl z) = absurd (omega (arith, e, z))
    of (inr t) = t

tied-left : (ps : Pairs) → OneToOne ps → {l m : Trace} → TraceAlike ps l m → (b : ℕ) → 1 ≤ uses b l → (c : ℕ) × Tied b c ps
tied-left ps one t b e = let k = tied-right (flipped ps) (one-flip ps one) (trace-flip ps t) b e in (k.0, tied-back ps b k.0 k.1)

module _ (code : Code) (names : ℕ → ℕ) (inputs : List Block) (f : ℕ) (args : List Word) (fits : Fits code inputs f args) (r q : Repair)
    (hr : RepairHolds code own inputs f args r) (hq : RepairHolds code names inputs f args q) (next : ℕ) (h : Carried code inputs next r q) where
  pub alike : AlikeRepairs code own names inputs h.pairs r q
  alike = record {
    one = h.one;
    items = h.items;
    known = h.known;
    left = λ b c t k i e. let w = h.left b c t in some-none (r.known (Core b)) w.0 w.1 (subst (λ d. r.known (Core d) ≡ None) (sym e) (hr.free k i));
    right = λ b c t k i e. let w = h.right b c t in some-none (q.known (Core c)) w.0 w.1 (subst (λ d. q.known (Core d) ≡ None) (sym e) (hq.free k i));
    spent = h.spent;
  }

  module _ (k : Option ℕ) (n : ℕ) (r' q' : Repair) (sr : Slices code own inputs k r r') (sq : Slices code names inputs k q q') (qs : Pairs) (wide : Within h.pairs qs)
      (a : AlikeRepairs code own names inputs qs r' q') (from : (b c : ℕ) → Tied b c qs → IsOldOrNewPair own names h.pairs r q b c) where
    lr : Sliced code own inputs f args r r'
    lr = slice-law code own inputs f args fits r hr k r' sr

    lq : Sliced code names inputs f args q q'
    lq = slice-law code names inputs f args fits q hq k q' sq

    number-left : (b c : ℕ) → Tied b c qs → (j : ℕ) → b ≡ own (r.number + j) → r.number + j < r'.number
    number-left b c t j e = of (cases_order (r.number + j) r'.number)
      where
        no : r'.number ≤ r.number + j → r.number + j < r'.number
        no g = absurd (a.left b c t (r.number + j) g e)

        of : (r.number + j ≡ r'.number) ⊎ ((r.number + j < r'.number) ⊎ (r'.number < r.number + j)) → r.number + j < r'.number
        of (inl g) = no (omega (arith, g))
        of (inr (inl l)) = l
        of (inr (inr g)) = no (omega (arith, g))

    number-right : (b c : ℕ) → Tied b c qs → (j : ℕ) → c ≡ names (q.number + j) → q.number + j < q'.number
    number-right b c t j e = of (cases_order (q.number + j) q'.number)
      where
        no : q'.number ≤ q.number + j → q.number + j < q'.number
        no g = absurd (a.right b c t (q.number + j) g e)

        of : (q.number + j ≡ q'.number) ⊎ ((q.number + j < q'.number) ⊎ (q'.number < q.number + j)) → q.number + j < q'.number
        of (inl g) = no (omega (arith, g))
        of (inr (inl l)) = l
        of (inr (inr g)) = no (omega (arith, g))

    left-known : (b c : ℕ) → Tied b c qs → IsOldOrNewPair own names h.pairs r q b c → Knows r'.known b
    left-known b c t (IsOldOrNewPair.old i) = let w = h.left b c i in (w.0, lr.kept (b) w.0 w.1)
    left-known b c t (IsOldOrNewPair.new j e e') =
        subst (λ d. Knows r'.known d) (sym e)
        (held-known code inputs f args r' lr.sound (own (r.number + j)) (omega (arith, lr.new (r.number + j) (omega arith) (number-left b c t j e))))

    right-known : (b c : ℕ) → Tied b c qs → IsOldOrNewPair own names h.pairs r q b c → Knows q'.known c
    right-known b c t (IsOldOrNewPair.old i) = let w = h.right b c i in (w.0, lq.kept c w.0 w.1)
    right-known b c t (IsOldOrNewPair.new j e e') =
        subst (λ d. Knows q'.known d) (sym e')
        (held-known code inputs f args q' lq.sound (names (q.number + j)) (omega (arith, lq.new (q.number + j) (omega arith) (number-right b c t j e'))))

    old-number : (b c : ℕ) → IsOldOrNewPair own names h.pairs r q b c → b < next → b ≡ c
    old-number b c (IsOldOrNewPair.old i) l = h.kept b c i l
    old-number b c (IsOldOrNewPair.new j e e') l = absurd (omega (arith, e, l, h.above))

    all-left : (b : ℕ) → Knows r'.known b → (c : ℕ) × Tied b c qs
    all-left b w = of (lr.known b w.0 w.1)
      where
        of : (r.known (Core b) ≡ Some w.0) ⊎ IsNamed own r.number r'.number b → (c : ℕ) × Tied b c qs
        of (inl e) = let t = h.all_left b (w.0, e) in (t.0, wide b t.0 t.1)
        of (inr i) = tied-left qs a.one a.items b (subst (λ d. 1 ≤ uses d r'.items) (sym i.3) (omega (arith, lr.new i.0 i.1 i.2)))

    all-right : (c : ℕ) → Knows q'.known c → (b : ℕ) × Tied b c qs
    all-right c w = of (lq.known c w.0 w.1)
      where
        of : (q.known (Core c) ≡ Some w.0) ⊎ IsNamed names q.number q'.number c → (b : ℕ) × Tied b c qs
        of (inl e) = let t = h.all_right c (w.0, e) in (t.0, wide t.0 c t.1)
        of (inr i) = tied-right qs a.one a.items c (subst (λ d. 1 ≤ uses d q'.items) (sym i.3) (omega (arith, lq.new i.0 i.1 i.2)))

    carried : Carried code inputs next r' q'
    carried = record {
      pairs = qs;
      one = a.one;
      items = a.items;
      known = a.known;
      spent = a.spent;
      left = λ b c t. left-known b c t (from b c t);
      right = λ b c t. right-known b c t (from b c t);
      all_left = all-left;
      all_right = all-right;
      kept = λ b c t l. old-number b c (from b c t) l;
      above = omega (arith, h.above, lr.numbers);
    }

    both-done : IsHonest code inputs r'.items ↔ IsHonest code inputs q'.items
    both-done = (
      λ d. done-too code inputs fits.blocks qs r' q' a d,
      λ d. done-too code inputs fits.blocks (flipped qs) q' r' (repairs-flip code inputs fits.blocks qs r' q' a) d,
    )

pub carried-slice-law : CarriedSliceLaw
carried-slice-law code names inputs f args fits r q hr hq next h k n =
    of (sliced code own inputs k n r) (sliced code names inputs k n q) refl refl
    (slice-renamed code inputs fits.blocks own names hr.single hq.single h.pairs r q (alike code names inputs f args fits r q hr hq next h) k n)
  where
    of : (o p : Option Repair) → sliced code own inputs k n r ≡ o → sliced code names inputs k n q ≡ p
        → RenamedSlices code own names inputs h.pairs r q (sliced code own inputs k n r)
        (sliced code names inputs k n q)
        → CarriedSlices code inputs next o p
    of o p e e' s = at o p e e' (subst (λ z. RenamedSlices code own names inputs h.pairs r q o z) e'
        (subst (λ z. RenamedSlices code own names inputs h.pairs r q z (sliced code names inputs k n q)) e s))
      where
        at : (o p : Option Repair) → sliced code own inputs k n r ≡ o → sliced code names inputs k n q ≡ p → RenamedSlices code own names inputs h.pairs r q o p → CarriedSlices code inputs next o p
        at None None e e' RenamedSlices.none = CarriedSlices.none
        at None (Some q') e e' x = elim x [ ]
        at (Some r') None e e' x = elim x [ ]
        at (Some r') (Some q') e e' (RenamedSlices.some qs wide a from) =
            let sr = ((slices-law code own inputs k n r r').0 e).0 in
            let sq = ((slices-law code names inputs k n q q').0 e').0 in
            CarriedSlices.some (carried code names inputs f args fits r q hr hq next h k n r' q' sr sq qs wide a from)
            (both-done code names inputs f args fits r q hr hq next h k n r' q' sr sq qs wide a from)

-- ---- inputs that extend

module _ (code : Code) (old new : List Block) (fit : inputs_fit code.structs new ≡ true) where
  known-on : (ps : Pairs) (x y : Plain) → PlainAlike code.structs ps (with_inputs code old x) (with_inputs code old y) → PlainAlike code.structs ps (with_inputs code new x) (with_inputs code new y)
  unfolding with_inputs
  known-on ps x y h b c (IdAlike.input {i = i}) = begin-self code new ps fit i
  known-on ps x y h b c (IdAlike.core {b = d} {c = e} t) = h (Core d) (Core e) (IdAlike.core t)

pub carried-more-law : CarriedMoreLaw
carried-more-law code old new fit extended next r q h = record {
  pairs = h.pairs;
  one = h.one;
  items = h.items;
  known = known-on code old new fit h.pairs r.known q.known h.known;
  spent = h.spent;
  left = h.left;
  right = h.right;
  all_left = h.all_left;
  all_right = h.all_right;
  kept = h.kept;
  above = h.above;
}

-- ---- the beginning

pub own-single : Single own
own-single j k e = e

known-held : (code : Code) (inputs : List Block) (l : Trace) (b : ℕ) → Knows (plain_of code inputs l) b → 1 ≤ uses b l
unfolding plain_of
known-held code inputs l b w = of (uses b l) refl
  where
    of : (n : ℕ) → uses b l ≡ n → 1 ≤ uses b l
    of zero e = some-none (plain_after code (input_plain code inputs) l (Core b)) w.0 w.1 (plain-none code (input_plain code inputs) l b e (no-core code inputs b))
    of (suc n) e = omega (arith, e)

pub carried-begin-law : CarriedBeginLaw
carried-begin-law code old new f args l next number e =
    of (named-beginning-law code own (λ k. next + k) old new f args l next next 0 e (λ k i. e.above k i) (λ k i. e.above (next + k) (omega arith)))
  where
    sound : RepairHolds code own new f args (beginning code new l next)
    sound = begin-law code own old new f args l next next e own-single (λ k i. e.above k i)

    of : NamedBeginning code own (λ k. next + k) new l (beginning code new l next) (beginning code new l 0) → Carried code new next (beginning code new l next) (beginning code new l number)
    of n = record {
      pairs = n.pairs;
      one = n.alike.one;
      items = n.alike.items;
      known = n.alike.known;
      spent = refl;
      left = λ b c t. held-known code new f args (beginning code new l next) sound b (n.same b c t).1;
      right = λ b c t. let s = n.same b c t in held-known code new f args (beginning code new l next) sound c (subst (λ d. 1 ≤ uses d l) s.0 s.1);
      all_left = λ b w. tied-left n.pairs n.alike.one n.alike.items b (known-held code new l b w);
      all_right = λ c w. tied-right n.pairs n.alike.one n.alike.items c (known-held code new l c w);
      kept = λ b c t i. (n.same b c t).0;
      above = omega arith;
    }

-- ---- the same known blocks

module _ (code : Code) (inputs : List Block) (x y : Plain) (same : (b : ℕ) → y (Core b) ≡ x (Core b)) where
  with-same : with_inputs code inputs y ≡ with_inputs code inputs x
  unfolding with_inputs
  with-same = fun_ext (λ b. at b)
    where
      at : (b : BlockId) → with_inputs code inputs y b ≡ with_inputs code inputs x b
      at (Input i) = refl
      at (Core b) = same b

pub carried-same-law : CarriedSameLaw
carried-same-law code inputs next r q p h items known spent = record {
  pairs = h.pairs;
  one = h.one;
  items = subst (λ m. TraceAlike h.pairs r.items m) (sym items) h.items;
  known = subst (λ y. PlainAlike code.structs h.pairs (with_inputs code inputs r.known) y) (sym (with-same code inputs q.known p.known known)) h.known;
  spent = h.spent ∙ sym spent;
  left = h.left;
  right = λ b c t. let w = h.right b c t in (w.0, known c ∙ w.1);
  all_left = h.all_left;
  all_right = λ c w. h.all_right c (w.0, sym (known c) ∙ w.1);
  kept = h.kept;
  above = h.above;
}

-- ---- traces that are renamed

pub edited-so : (code : Code) (inputs : List Block) (f : ℕ) (args : List Word) → Fits code inputs f args → (l : Trace)
    → Replays code inputs f args l → (n : ℕ) → Above n l → Edited code inputs inputs f args l n
edited-so code inputs f args fits l replays n above = record { call = fits; fit = fits.blocks; extended = λ i block e. rw e refl; trace = replays; above = above }

pub carried-trace-law : CarriedTraceLaw
unfolding plain_of
carried-trace-law code inputs f args fits l m rl rm ps one t number other al am =
    of (walk-too (length inputs) ps one code (λ b. 1 ≤ uses b l) (λ c. 1 ≤ uses c m) rl.mentions t []
    (λ b c i. elim i [ ]) (λ b i. elim i [ ]) (input_plain code inputs) (input_plain code inputs) plain
    (λ b c i. elim i [ ]) (λ b c i. elim i [ ]) (λ b e. e) (λ c e. e))
  where
    plain : PlainAlike code.structs [] (input_plain code inputs) (input_plain code inputs)
    plain b c (IdAlike.input {i = i}) = begin-self code inputs [] fits.blocks i
    plain b c (IdAlike.core t) = elim t [ ]

    sound : (k : Trace) → Replays code inputs f args k → (n : ℕ) → Above n k → RepairHolds code own inputs f args (beginning code inputs k n)
    sound k r n a = begin-law code own inputs inputs f args k n n (edited-so code inputs f args fits k r n a) own-single (λ j i. a j i)

    of : WalkedToo (length inputs) ps one code [] (input_plain code inputs) (input_plain code inputs) l m rl.known (λ b. 1 ≤ uses b l) (λ c. 1 ≤ uses c m)
        → Carried code inputs 0 (beginning code inputs l number) (beginning code inputs m other)
    of w = record {
      pairs = w.pairs;
      one = one-within w.pairs ps w.within one;
      items = w.trace;
      known = with-alike code inputs fits.blocks w.pairs (plain_after code (input_plain code inputs) l) (plain_after code (input_plain code inputs) m) w.plain;
      spent = refl;
      left = λ b c t. held-known code inputs f args (beginning code inputs l number) (sound l rl number al) b (w.left b c t);
      right = λ b c t. held-known code inputs f args (beginning code inputs m other) (sound m rm other am) c (w.right b c t);
      all_left = λ b k. tied-left w.pairs (one-within w.pairs ps w.within one) w.trace b (known-held code inputs l b k);
      all_right = λ c k. tied-right w.pairs (one-within w.pairs ps w.within one) w.trace c (known-held code inputs m c k);
      kept = λ b c t i. absurd (omega (arith, i));
      above = omega arith;
    }

pub carried-on-law : CarriedOnLaw
carried-on-law code names names' inputs f args fits r q hr hq single off next h k n =
    carried-slice-law code names' inputs f args fits r (numbered_from_zero q) hr (other-names-law code names names' inputs f args q hq single 0 (λ j i. off j)) next
    (carried-same-law code inputs next r q (numbered_from_zero q) h refl (λ b. refl) refl) k n
