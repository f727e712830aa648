-- Laws of the lines `propagate READS`: there is an end of them, and it is that of one line `propagate`.
use Rattle.std.specs.Prelude.{◌≡◌, ◌≢◌, ℕ, ◌+◌, ◌≤◌, List, codes}
use Rattle.ceal_base.specs.Block.{Block}
use Rattle.ceal_code.specs.Program.{Code}
use Rattle.ceal_script.specs.Lines.{IsLineOf}
use Rattle.ceal_script.specs.declared.command.Command.TheVariants.{Propagate, Slice}
use Rattle.ceal_theory.specs.Pasts.{Past, NoTrace, Traced, Going}
use Rattle.ceal_theory.specs.Progress.{unrepaired}
use Rattle.ceal_session.specs.Consistency.{IsConsistent}
use Rattle.ceal_session.specs.Replies.{Replies}
use Rattle.ceal_session.specs.State.{Situation}

-- how many reads of a trace, or of a repair in progress, there are from the first stale one on
abbrev pub unrepaired_past : Code → List Block → Past → ℕ
unrepaired_past code inputs NoTrace = 0
unrepaired_past code inputs (Traced l) = unrepaired code inputs l.items
unrepaired_past code inputs (Going r) = unrepaired code inputs r.items

abbrev pub unrepaired_in : Situation → ℕ
unrepaired_in m = unrepaired_past m.code m.state.inputs m.past

-- The line is `propagate READS`, and is answered `more`.
pub record GoesOn (m : Situation) (reads : ℕ) (n : Situation) : Type 0 where
  pub line : List ℕ
  pub is : IsLineOf (Slice reads) line
  pub replies : Replies m line (codes "more\n") n

-- Such lines one after another, and the sum of their numbers of reads.
pub data GoOn : Situation → ℕ → Situation → Type 0 where
  none : {m : Situation} → GoOn m 0 m
  more : {m mid n : Situation} {reads rest : ℕ} → GoesOn m reads mid → GoOn mid rest n → GoOn m (reads + rest) n

-- They leave fewer reads from the first stale one on than there were, by that sum at least. So there is an end of them:
-- the sum is at most the number of those reads, whatever the numbers are.
abbrev pub PartsEndLaw : Type 0
PartsEndLaw =
    (m n : Situation) (reads : ℕ) → IsConsistent m → GoOn m reads n → unrepaired_in n + reads ≤ unrepaired_in m

-- The line is `propagate READS`, and is not answered `more`.
pub record Ends (m n : Situation) : Type 0 where
  pub line : List ℕ
  pub reads : ℕ
  pub is : IsLineOf (Slice reads) line
  pub text : List ℕ
  pub replies : Replies m line text n
  pub ended : text ≢ codes "more\n"

-- Lines `propagate READS` that are answered `more`, and then one that is not, end in the situation in which one line
-- `propagate` ends: with that trace, its work and its bound, or out of fuel.
abbrev pub PartsAreWholeLaw : Type 0
PartsAreWholeLaw =
    (m mid n o : Situation) (reads : ℕ) (line text : List ℕ) → IsConsistent m → GoOn m reads mid → Ends mid n
    → IsLineOf Propagate line → Replies m line text o → n ≡ o
