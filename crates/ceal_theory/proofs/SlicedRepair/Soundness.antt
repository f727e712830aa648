-- A repair that begins holds, a slice keeps that, and so do more inputs.
use Rattle.std.proofs.Common.{◌≡◌, ◌==◌, ℕ, zero, suc, ◌+◌, ◌≤◌, ◌<◌, true, Option, Some, None, List, [], length, ◌⊎◌, inl, inr, refl, sym, ◌∙◌, subst, arith}
use Rattle.std.proofs.Math.Path.{fun_ext}
use Rattle.ceal_base.specs.Block.{Block}
use Rattle.ceal_base.specs.Fitting.{inputs_fit}
use Rattle.ceal_base.specs.Trace.{Trace, Nothing, Stepped, Allocated, Wrote, WasRead, blocks_of}
use Rattle.ceal_base.specs.declared.typed.StructInfo.{StructInfo}
use Rattle.ceal_base.specs.declared.word.BlockId.{BlockId}
use Rattle.ceal_base.specs.declared.word.BlockId.TheVariants.{Input, Core}
use Rattle.ceal_base.specs.declared.word.Place.{Place}
use Rattle.ceal_base.specs.declared.word.Word.{Word}
use Rattle.ceal_code.proofs.TypedCode.FittingWords.{args-known}
use Rattle.ceal_code.proofs.Words.StepLocality.{words-more, stack-more}
use Rattle.ceal_code.proofs.Alike.BlockPairs.{one_if}
use Rattle.ceal_code.proofs.Replay.ReplayedCall.{input-after}
use Rattle.ceal_code.proofs.Words.SameIsEqual.{none-some}
use Rattle.ceal_code.specs.Fitting.{Fits}
use Rattle.ceal_code.specs.Known.{Agree, Holds, KnownStack}
use Rattle.ceal_code.specs.Program.{Code}
use Rattle.ceal_code.specs.Replay.{Yields, In, KnownWord, input_plain, plain_of, bases}
use Rattle.ceal_code.specs.Step.{started}
use Rattle.ceal_code.specs.Value.{Plain, field_kind}
use Rattle.ceal_theory.proofs.Repair.DistinctBlocks.{one-is, uses, named-one, named-later, times-append}
use Rattle.ceal_theory.proofs.Repair.RepairInvariant.{Extends, agrees, Good}
use Rattle.ceal_theory.proofs.Store.FittingInputs.{inputs-hold, bases-known, no-core, started-known, inputs-extend, more-inputs}
use Rattle.ceal_theory.proofs.Repair.RepairReplays.{plain-none, yields-new, mentions-new, held-new, free}
use Rattle.ceal_theory.proofs.Store.WordsOfWalk.{words-inputs}
use Rattle.ceal_theory.proofs.Repair.RepairYields.{cell-known}
use Rattle.ceal_theory.specs.Adjust.{Extended}
use Rattle.ceal_theory.specs.Laws.{Edited}
use Rattle.ceal_theory.specs.SliceLaws.{IsNamed}
use Rattle.ceal_theory.specs.Repair.{Single, State}
use Rattle.ceal_theory.proofs.Store.Mentions.{uses-inputs, mentions-uses, uses-yields, uses-pieces}
use Rattle.ceal_theory.proofs.SlicedRepair.AddedBlocks.{Adds, part-adds, part-distinct}
use Rattle.ceal_theory.proofs.SlicedRepair.PartYields.{part-grows, Parted, part-plays, AsPart, fix-part}
use Rattle.ceal_theory.specs.Slices.{NamesApart, Repair, with_inputs, default_in, starting_in, starting, goes_on, Part, Runs, repair_at, Slices, Uses, RepairHolds, beginning}

in-this : (n : ℕ) (bs : List ℕ) (b c m : ℕ) → In c bs → 1 ≤ one_if b c + m → (1 ≤ m → In b bs) → In b bs
in-this n bs b c m i h f = go (one_if b c) refl
  where
    go : (k : ℕ) → one_if b c ≡ k → In b bs
    go zero e = f (omega (arith, h, e))
    go (suc k) e = let s : c ≡ b = one-is b c (c == b) refl (omega (arith, e)) in rw (← s) i

in-either : (b k m : ℕ) (bs : List ℕ) → 1 ≤ k + m → (1 ≤ k → In b bs) → (1 ≤ m → In b bs) → In b bs
in-either b zero m bs h f g = g (omega (arith, h))
in-either b (suc k) m bs h f g = f (omega arith)

-- what the items allocate is among the known blocks
pub uses-in : (n : ℕ) (bs : List ℕ) (b : ℕ) (l : Trace) → Uses n bs l → 1 ≤ uses b l → In b bs
uses-in n bs b Nothing u h = absurd (omega (arith, h))
uses-in n bs b (Stepped rest) u h = uses-in n bs b rest u h
uses-in n bs b (Allocated (Core c) key rest) u h = in-this n bs b c (uses b rest) u.0 h (λ i. uses-in n bs b rest u.2 i)
uses-in n bs b (Allocated (Input i) key rest) u h = uses-in n bs b rest u.2 h
uses-in n bs b (Wrote p value rest) u h = uses-in n bs b rest u.2 h
uses-in n bs b (WasRead p value w v args inside rest) u h =
    in-either b (uses b inside) (uses b rest) bs (omega (arith, h, times-append b (blocks_of inside) (blocks_of rest)))
    (λ i. uses-in n bs b inside u.3 i) (λ i. uses-in n bs b rest u.4 i)

default-known : (n : ℕ) (bs : List ℕ) (structs : List StructInfo) (o : Option Block) (field : ℕ) → KnownWord n bs (default_in structs o field)
default-known n bs structs None field = tt
default-known n bs structs (Some block) field = cell-known n bs (field_kind structs block.shape field)

word-known : (n : ℕ) (bs : List ℕ) (w : Word) → KnownWord n [] w → KnownWord n bs w
word-known n bs w h = Rattle.ceal_code.proofs.Words.StepLocality.word-more n [] bs (λ b i. elim i [ ]) w h

-- the store at the beginning names only inputs
pub starting-known : (code : Code) (inputs : List Block) → inputs_fit code.structs inputs ≡ true → (x : Plain) (p : Place) → KnownWord (length inputs) [] (starting code inputs x p)
unfolding starting bases
starting-known code inputs fit x p = go p.block p.field
  where
    go : (b : BlockId) (field : ℕ) → KnownWord (length inputs) [] (starting_in code inputs x b field)
    go (Input i) field = bases-known code inputs fit (record { block = Input i; field = field })
    go (Core c) field = default-known (length inputs) [] code.structs (x (Core c)) field

at-input : (code : Code) (inputs : List Block) (x : Plain) (i : ℕ) → with_inputs code inputs x (Input i) ≡ input_plain code inputs (Input i)
unfolding with_inputs
at-input code inputs x i = refl

pub at-core : (code : Code) (inputs : List Block) (x : Plain) (c : ℕ) → with_inputs code inputs x (Core c) ≡ x (Core c)
unfolding with_inputs
at-core code inputs x c = refl

-- plain words that have the inputs' words
pub with-same : (code : Code) (inputs : List Block) (x : Plain) → ((i : ℕ) → x (Input i) ≡ input_plain code inputs (Input i)) → with_inputs code inputs x ≡ x
with-same code inputs x h = fun_ext go
  where
    go : (b : BlockId) → with_inputs code inputs x b ≡ x b
    go (Input i) = at-input code inputs x i ∙ sym (h i)
    go (Core c) = at-core code inputs x c

module _ {names : ℕ → ℕ} (code : Code) (inputs : List Block) (f : ℕ) (args : List Word) (fits : Fits code inputs f args) (r : Repair) (h : RepairHolds code names inputs f args r) where
  pub start-known : (bs : List ℕ) → KnownStack (length inputs) bs (started code f args)
  start-known bs = stack-more (length inputs) [] bs (λ b i. elim i [ ]) (started code f args) (started-known (length inputs) [] code f args (args-known code inputs f args fits))

  pub good : Good names (length inputs) h.blocks (goes_on code inputs r)
  good = record {
    plain = h.holds;
    store = λ p. word-known (length inputs) h.blocks (starting code inputs r.known p) (starting-known code inputs fits.blocks r.known p);
    free = λ k e. at-core code inputs r.known (names k) ∙ h.free k e;
  }

  pub low : NamesApart names r.number r.items
  low n e = go (uses (names n) r.items) refl
    where
      go : (k : ℕ) → uses (names n) r.items ≡ k → uses (names n) r.items ≡ 0
      go zero k = k
      go (suc m) k =
          let g = h.holds (Core (names n)) (uses-in (length inputs) h.blocks (names n) r.items h.uses (omega (arith, k))) in
          none-some g.block (sym (at-core code inputs r.known (names n) ∙ h.free n e) ∙ g.there)

  module _ (k j : ℕ) (s' : State) (m : Trace) (p : Part code names k (goes_on code inputs r) r.items j s' m) where
    pub grown : Extends (with_inputs code inputs r.known) s'.plain
    grown = (part-grows h.single p good.free).plain

    pub yields' : Yields code s'.plain (started code f args) r.items
    yields' = uses-yields code (length inputs) h.blocks (with_inputs code inputs r.known) s'.plain h.holds
        (agrees (length inputs) h.blocks (with_inputs code inputs r.known) s'.plain h.holds grown) h.yields (start-known h.blocks) h.uses

    pub parted : Parted code names (length inputs) s'.plain h.blocks (started code f args) m s'
    parted = part-plays code names (length inputs) h.single s'.plain p (λ b block e. e) h.blocks good (started code f args) yields' (start-known h.blocks)
        (uses-pieces code (length inputs) h.blocks (with_inputs code inputs r.known) s'.plain h.holds grown yields' h.uses) h.uses

    pub adds : Adds names (goes_on code inputs r) s' m
    adds = part-adds code p

    pub same-plain : with_inputs code inputs s'.plain ≡ s'.plain
    same-plain = with-same code inputs s'.plain (λ i. adds.input i ∙ at-input code inputs r.known i)

    known-all : (b : ℕ) (block : Block) → s'.plain (Core b) ≡ Some block → In b parted.known
    known-all b block e = go (adds.known b block e)
      where
        made' : (k : ℕ) → r.number ≤ k → k < s'.number → In (names k) parted.known
        made' k i j = uses-in (length inputs) parted.known (names k) m parted.uses
            (omega (arith, adds.items (names k), named-one names h.single s'.number k j, named-later names h.single r.number k i))

        go : (with_inputs code inputs r.known (Core b) ≡ Some block) ⊎ IsNamed names r.number s'.number b → In b parted.known
        go (inl i) = parted.sub b (h.all b block (sym (at-core code inputs r.known b) ∙ i))
        go (inr i) = subst (λ z. In z parted.known) (sym i.3) (made' i.0 i.1 i.2)

    -- the result of the slice holds
    pub part-sound : RepairHolds code names inputs f args (repair_at s' m)
    part-sound = record {
      yields = subst (λ x. Yields code x (started code f args) m) (sym same-plain) parted.yields;
      distinct = part-distinct code h.single p h.distinct low;
      blocks = parted.known;
      all = known-all;
      holds = subst (Holds (length inputs) parted.known) (sym same-plain) parted.good.plain;
      uses = parted.uses;
      single = h.single;
      free = parted.good.free;
    }

  pub runs-sound : (k : Option ℕ) (s' : State) (m : Trace) → Runs code names k (goes_on code inputs r) r.items s' m → RepairHolds code names inputs f args (repair_at s' m)
  runs-sound k s' m (Runs.whole g) = let q : AsPart code names (goes_on code inputs r) r.items s' m 0 = fix-part g 0 in part-sound (suc q.reads) 1 s' m q.part
  runs-sound k s' m (Runs.part {k = n} {j = j} p) = part-sound n j s' m p

  pub slice-sound : (k : Option ℕ) (r' : Repair) → Slices code names inputs k r r' → RepairHolds code names inputs f args r'
  slice-sound k r' s = subst (RepairHolds code names inputs f args) (sym s.is) (runs-sound k s.after s.items s.runs)

-- a repair that begins from a replay holds, whatever the bases
pub begin-sound : (code : Code) (names : ℕ → ℕ) (old new : List Block) (f : ℕ) (args : List Word) (l : Trace) (above number : ℕ) → Edited code old new f args l above
    → Single names → NamesApart names number l → RepairHolds code names new f args (beginning code new l number)
unfolding plain_of
begin-sound code names old new f args l above number e single apart =
    let y = yields-new code old new f args e.call e.fit e.extended l e.trace in
    let m = mentions-new code old new f args e.call e.fit e.extended l e.trace in
    let u = mentions-uses (length new) m e.trace.known (λ b i. i) in
    let same : with_inputs code new (plain_of code new l) ≡ plain_of code new l = with-same code new (plain_of code new l) (λ i. input-after code y (input_plain code new) i) in
    record {
      yields = subst (λ x. Yields code x (started code f args) l) (sym same) y;
      distinct = e.trace.distinct;
      blocks = e.trace.known;
      all = λ b block h. all b block h u;
      holds = subst (Holds (length new) e.trace.known) (sym same) (held-new code old new f args e.call e.fit e.extended l e.trace);
      uses = u;
      single = single;
      free = free code old new f args e.call e.fit e.extended l e.trace names number apart;
    }
  where
    all : (b : ℕ) (block : Block) → plain_of code new l (Core b) ≡ Some block → Uses (length new) e.trace.known l → In b e.trace.known
    all b block h u = go (uses b l) refl
      where
        go : (k : ℕ) → uses b l ≡ k → In b e.trace.known
        go zero i = none-some block (sym (plain-none code (input_plain code new) l b i (no-core code new b)) ∙ h)
        go (suc k) i = uses-in (length new) e.trace.known b l u (omega (arith, i))

-- and it holds on more inputs with other bases
module _ {names : ℕ → ℕ} (code : Code) (old new : List Block) (f : ℕ) (args : List Word) (fits : Fits code old f args) (fit : inputs_fit code.structs new ≡ true) (more : Extended code old new)
    (r : Repair) (h : RepairHolds code names old f args r) where
  agree : Agree (length old) h.blocks (with_inputs code old r.known) (with_inputs code new r.known)
  agree (Input i) k =
      let g = h.holds (Input i) k in
      g.there ∙ sym (at-input code new r.known i ∙ inputs-extend code old new more (Input i) g.block (sym (at-input code old r.known i) ∙ g.there))
  agree (Core c) k = at-core code old r.known c ∙ sym (at-core code new r.known c)

  holds : Holds (length new) h.blocks (with_inputs code new r.known)
  holds (Input i) k =
      let g = inputs-hold code new fit (Input i) k in
      record { block = g.block; there = at-input code new r.known i ∙ g.there; known = words-more (length new) [] h.blocks (λ b i. elim i [ ]) g.block.words g.known }
  holds (Core c) k =
      let g = h.holds (Core c) k in
      record {
        block = g.block;
        there = at-core code new r.known c ∙ (sym (at-core code old r.known c) ∙ g.there);
        known = words-inputs (length old) (length new) (more-inputs code old new more) h.blocks g.block.words g.known;
      }

  pub sound-more : RepairHolds code names new f args r
  sound-more = record {
    yields = uses-yields code (length old) h.blocks (with_inputs code old r.known) (with_inputs code new r.known) h.holds agree h.yields (start-known code old f args fits r h h.blocks) h.uses;
    distinct = h.distinct;
    blocks = h.blocks;
    all = h.all;
    holds = holds;
    uses = uses-inputs (length old) (length new) (more-inputs code old new more) h.blocks r.items h.uses;
    single = h.single;
    free = h.free;
  }
