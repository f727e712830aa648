-- What begins from one trace with two ways to name new blocks is one.
use Rattle.std.proofs.Common.{◌≡◌, ℕ, ◌≤◌, [], length, refl, subst, arith}
use Rattle.ceal_base.specs.Trace.{Trace}
use Rattle.ceal_code.proofs.Alike.BlockPairs.{one-within}
use Rattle.ceal_code.proofs.Replay.ReplayedCall.{begin-self}
use Rattle.ceal_code.specs.Alike.{IdAlike, PlainAlike}
use Rattle.ceal_code.specs.Replay.{input_plain, plain_of, plain_after}
use Rattle.ceal_theory.proofs.Repair.DistinctBlocks.{uses}
use Rattle.ceal_theory.proofs.Renaming.GivenNumbers.{selves, self-tied, tied-same, selves-one, trace-self}
use Rattle.ceal_theory.proofs.Renaming.RenamedSlice.{with-alike}
use Rattle.ceal_theory.proofs.Renaming.RenamedWalk.{WalkedToo, walk-too}
use Rattle.ceal_theory.proofs.Repair.RepairReplays.{mentions-new}
use Rattle.ceal_theory.specs.SliceLaws.{NamedBeginning, NamedBeginningLaw}
use Rattle.ceal_theory.specs.Slices.{NamesApart, beginning}

no-name : (names : ℕ → ℕ) (number : ℕ) (l : Trace) → NamesApart names number l → (b : ℕ) → 1 ≤ uses b l → (k : ℕ) → number ≤ k → ¬ (b ≡ names k)
no-name names number l apart b h k i e = absurd (omega (arith, apart k i, subst (λ z. 1 ≤ uses z l) e h))

pub named-beginning-law : NamedBeginningLaw
unfolding plain_of
named-beginning-law code names names' old new f args l above number number' e apart apart' =
    let m = mentions-new code old new f args e.call e.fit e.extended l e.trace in
    let self = trace-self (length new) (selves e.trace.known) m (λ b i. self-tied b e.trace.known i) in
    of (walk-too (length new) (selves e.trace.known) (selves-one e.trace.known) code (λ b. 1 ≤ uses b l) (λ c. 1 ≤ uses c l) m self [] (λ b c i. elim i [ ]) (λ b i. elim i [ ])
    (input_plain code new) (input_plain code new) plain (λ b c i. elim i [ ]) (λ b c i. elim i [ ]) (λ b e. e) (λ c e. e))
  where
    plain : PlainAlike code.structs [] (input_plain code new) (input_plain code new)
    plain b c (IdAlike.input {i = i}) = begin-self code new [] e.fit i
    plain b c (IdAlike.core t) = elim t [ ]

    of : WalkedToo (length new) (selves e.trace.known) (selves-one e.trace.known) code [] (input_plain code new) (input_plain code new) l l e.trace.known (λ b. 1 ≤ uses b l) (λ c. 1 ≤ uses c l)
        → NamedBeginning code names names' new l (beginning code new l number) (beginning code new l number')
    of w = record {
      pairs = w.pairs;
      alike = record {
        one = one-within w.pairs (selves e.trace.known) w.within (selves-one e.trace.known);
        items = w.trace;
        known = with-alike code new e.fit w.pairs (plain_after code (input_plain code new) l) (plain_after code (input_plain code new) l) w.plain;
        left = λ b c t k i s. no-name names number l apart b (w.left b c t) k i s;
        right = λ b c t k i s. no-name names' number' l apart' c (w.right b c t) k i s;
        spent = refl;
      };
      same = λ b c t. (tied-same b c e.trace.known (w.within b c t), w.left b c t);
    }
