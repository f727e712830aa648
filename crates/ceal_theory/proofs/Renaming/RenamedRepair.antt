-- To repair a trace that is renamed one to one is to rename the repair, with the same work.
use Rattle.std.proofs.Common.{◌≡◌, ℕ, ◌+◌, ◌≤◌, true, Option, Some, None, List, [], length, refl, sym, ◌∙◌, subst, arith}
use Rattle.ceal_base.specs.Block.{Block}
use Rattle.ceal_base.specs.Fitting.{inputs_fit}
use Rattle.ceal_base.specs.Trace.{Trace}
use Rattle.ceal_code.proofs.Alike.BlockPairs.{one-within}
use Rattle.ceal_code.proofs.Replay.ReplayedCall.{begin-self, bases-self}
use Rattle.ceal_code.proofs.Words.SameIsEqual.{none-some}
use Rattle.ceal_code.specs.Alike.{Pairs, Tied, Within, IdAlike, PlainAlike, TraceAlike, OneToOne}
use Rattle.ceal_code.specs.Program.{Code}
use Rattle.ceal_code.specs.Replay.{Mentions, input_plain, plain_after, plain_of}
use Rattle.ceal_theory.proofs.Repair.DistinctBlocks.{uses}
use Rattle.ceal_theory.proofs.Renaming.FlippedPairs.{flipped, one-flip, trace-flip}
use Rattle.ceal_theory.proofs.Repair.FunctionOfRules.{adjusted-sound, adjusted-found}
use Rattle.ceal_theory.proofs.Renaming.RenamedTrace.{MentionsToo, mentions-renamed}
use Rattle.ceal_theory.proofs.Renaming.RenamedWalk.{walk-too}
use Rattle.ceal_theory.proofs.Renaming.RepairSideBySide.{Sides, ComesFrom, FixedToo, fix-too}
use Rattle.ceal_theory.specs.Adjust.{Above, AdjustsAs}
use Rattle.ceal_theory.specs.Computed.{Repaired, adjusted}
use Rattle.ceal_theory.specs.Laws.{RenamedRepair}
use Rattle.ceal_theory.specs.Repair.{Single, own, begins}

-- a pair of the repaired traces is one of two old blocks, or of the k-th new blocks
pub data PairFrom (ps : Pairs) (l m : Trace) (names names' : ℕ → ℕ) (f g b c : ℕ) : Type 0 where
  old : Tied b c ps → 1 ≤ uses b l → 1 ≤ uses c m → PairFrom ps l m names names' f g b c
  new : (k : ℕ) → b ≡ names (f + k) → c ≡ names' (g + k) → PairFrom ps l m names names' f g b c

pub record RenamedAdjust (code : Code) (inputs : List Block) (ps : Pairs) (names names' : ℕ → ℕ) (f g : ℕ) (l l' m : Trace) (work : ℕ) : Type 0 where
  pub items : Trace
  pub adjusts : AdjustsAs code inputs names' g m items work
  pub pairs : Pairs
  pub one : OneToOne pairs
  pub alike : TraceAlike pairs l' items
  pub from : (b c : ℕ) → Tied b c pairs → PairFrom ps l m names names' f g b c

-- no block of the trace has a name from the number on
abbrev pub ApartFrom : (ℕ → ℕ) → ℕ → Trace → Type 0
ApartFrom names f l = (b : ℕ) → 1 ≤ uses b l → (k : ℕ) → f ≤ k → ¬ (b ≡ names k)

pub above-apart : (f : ℕ) (l : Trace) → Above f l → ApartFrom own f l
above-apart f l h b e k i s = absurd (omega (arith, e, h b (omega (arith, i, s))))

module _ (code : Code) (inputs : List Block) (fit : inputs_fit code.structs inputs ≡ true) (ps : Pairs) (one : OneToOne ps) where
  -- l is a trace whose items mention blocks allocated before; m is l renamed; their blocks are apart from the new ones
  pub adjust-renamed : (names names' : ℕ → ℕ) → Single names → Single names' → (l m : Trace) → TraceAlike ps l m → (known : List ℕ) → Mentions (length inputs) [] l known → (f g : ℕ)
      → ApartFrom names f l → ApartFrom names' g m
      → (l' : Trace) (work : ℕ) → AdjustsAs code inputs names f l l' work → RenamedAdjust code inputs ps names names' f g l l' m work
  unfolding plain_of
  adjust-renamed names names' single single' l m t known k f g il ir l' work a =
      let w = walk-too (length inputs) ps one code (λ b. 1 ≤ uses b l) (λ c. 1 ≤ uses c m) k t []
      (λ b c i. elim i [ ]) (λ b i. elim i [ ]) (input_plain code inputs) (input_plain code inputs) plain
      (λ b c i. elim i [ ]) (λ b c i. elim i [ ]) (λ b e. e) (λ c e. e) in
      finish w.pairs w.within w.left w.right (fix-too code (sides w.pairs) a.fix w.pairs (begins code inputs (plain_after code (input_plain code inputs) m) g) w.trace (record {
        one = one-within w.pairs ps w.within one;
        plain = w.plain;
        store = bases-self code inputs w.pairs fit;
        left = λ b c i. il b (w.left b c i);
        right = λ b c i. ir c (w.right b c i);
        work = refl;
        since = 0;
        numbers = (omega arith, omega arith);
        pairs = λ b c i. ComesFrom.begun i;
      }))
    where
      sides : Pairs → Sides
      sides base = record { left = names; right = names'; from = f; other = g; base = base; single-left = single; single-right = single' }

      plain : PlainAlike code.structs [] (input_plain code inputs) (input_plain code inputs)
      plain b c (IdAlike.input {i = i}) = begin-self code inputs [] fit i
      plain b c (IdAlike.core t) = elim t [ ]

      from : (qs : Pairs) → Within qs ps → ((b c : ℕ) → Tied b c qs → 1 ≤ uses b l) →
          ((b c : ℕ) → Tied b c qs → 1 ≤ uses c m) → (b c : ℕ) → ComesFrom (sides qs) b c
          → PairFrom ps l m names names' f g b c
      from qs sub h h' b c (ComesFrom.begun i) = PairFrom.old (sub b c i) (h b c i) (h' b c i)
      from qs sub h h' b c (ComesFrom.grown k e e') = PairFrom.new k e e'

      finish : (qs : Pairs) → Within qs ps → ((b c : ℕ) → Tied b c qs → 1 ≤ uses b l) → ((b c : ℕ) → Tied b c qs → 1 ≤ uses c m)
          → FixedToo code (sides qs) qs a.after l' (begins code inputs (plain_after code (input_plain code inputs) m) g) m → RenamedAdjust code inputs ps names names' f g l l' m work
      finish qs sub h h' x = record {
        items = x.items;
        adjusts = record { after = x.state; fix = x.fix; counted = sym x.twin.work ∙ a.counted };
        pairs = x.pairs;
        one = x.twin.one;
        alike = x.alike;
        from = λ b c i. from qs sub h h' b c (x.twin.pairs b c i);
      }

  -- the repair of the renamed trace is there where that of the trace is
  there-too : (l m : Trace) → TraceAlike ps l m → (known : List ℕ) → Mentions (length inputs) [] l known → (f g : ℕ)
      → Above f l → Above g m → (n : ℕ) (a : Repaired) → adjusted code inputs f n l ≡ Some a
      → (b : Repaired) × (adjusted code inputs g n m ≡ Some b) × RenamedRepair (Some a) (Some b)
  there-too l m t known k f g il ir n a e =
      let s = adjusted-sound code inputs f n l a e in
      let q = adjust-renamed own own (λ j k e. e) (λ j k e. e) l m t known k f g (above-apart f l il) (above-apart g m ir) a.items a.work s.0 in
      (record { items = q.items; work = a.work }, adjusted-found code inputs g n m q.items a.work q.adjusts s.1, RenamedRepair.some q.pairs q.one q.alike refl)

module _ (code : Code) (inputs : List Block) (fit : inputs_fit code.structs inputs ≡ true) (ps : Pairs) (one : OneToOne ps) (l m : Trace) (t : TraceAlike ps l m)
    (known : List ℕ) (k : Mentions (length inputs) [] l known) (f g : ℕ) (il : Above f l) (ir : Above g m) (n : ℕ) where
  other : MentionsToo ps one (length inputs) [] m known
  other = mentions-renamed ps one (length inputs) k t [] (λ b i. elim i [ ])

  by-cases : (o o' : Option Repaired) → adjusted code inputs f n l ≡ o → adjusted code inputs g n m ≡ o' → RenamedRepair o o'
  by-cases None None e e' = RenamedRepair.none
  by-cases None (Some b) e e' =
      let q = there-too code inputs fit (flipped ps) (one-flip ps one) m l (trace-flip ps t) other.after other.mentions g f ir il n b e' in none-some q.0 (sym e ∙ q.1)
  by-cases (Some a) None e e' =
      let q = there-too code inputs fit ps one l m t known k f g il ir n a e in none-some q.0 (sym e' ∙ q.1)
  by-cases (Some a) (Some b) e e' =
      let q = there-too code inputs fit ps one l m t known k f g il ir n a e in
      subst (λ o. RenamedRepair (Some a) o) (sym q.1 ∙ e') q.2

  pub repair-renamed : RenamedRepair (adjusted code inputs f n l) (adjusted code inputs g n m)
  repair-renamed = by-cases (adjusted code inputs f n l) (adjusted code inputs g n m) refl refl
