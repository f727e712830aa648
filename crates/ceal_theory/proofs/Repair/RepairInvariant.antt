-- What holds of a state of a repair, and of the old items, while the repair continues.
use Rattle.std.proofs.Common.{◌≡◌, ℕ, ◌≤◌, Some, None, List, sym, ◌∙◌}
use Rattle.std.specs.Prelude.{⊤}
use Rattle.ceal_base.specs.Block.{Block}
use Rattle.ceal_base.specs.Trace.{Trace, Nothing, Stepped, Allocated, Wrote, WasRead}
use Rattle.ceal_base.specs.declared.word.BlockId.{BlockId}
use Rattle.ceal_base.specs.declared.word.BlockId.TheVariants.{Input, Core}
use Rattle.ceal_base.specs.declared.word.Place.{Place}
use Rattle.ceal_code.specs.Init.{made}
use Rattle.ceal_code.specs.Known.{Agree, Holds}
use Rattle.ceal_code.specs.Program.{Code}
use Rattle.ceal_code.specs.Replay.{Yields, KnownWord}
use Rattle.ceal_code.specs.Value.{Plain}
use Rattle.ceal_theory.specs.Repair.{State, resumed}

-- what y knows is what x knows, and more
abbrev pub Extends : Plain → Plain → Type 0
Extends x y = (b : BlockId) (block : Block) → x b ≡ Some block → y b ≡ Some block

pub extends-trans : (x y z : Plain) → Extends x y → Extends y z → Extends x z
extends-trans x y z h k b block e = k b block (h b block e)

-- both have the same plain words of known blocks
pub agrees : (inputs : ℕ) (bs : List ℕ) (x y : Plain) → Holds inputs bs x → Extends x y → Agree inputs bs x y
agrees inputs bs x y h e b k = let g = h b k in g.there ∙ sym (e b g.block g.there)

-- no name of a number from the next one on is known
abbrev pub FreeFrom : (ℕ → ℕ) → Plain → ℕ → Type 0
FreeFrom names x n = (k : ℕ) → n ≤ k → x (Core (names k)) ≡ None

-- the state of a repair whose new items so far made the blocks bs
pub record Good (names : ℕ → ℕ) (inputs : ℕ) (bs : List ℕ) (s : State) : Type 0 where
  pub plain : Holds inputs bs s.plain
  pub store : (p : Place) → KnownWord inputs bs (s.store p)
  pub free : FreeFrom names s.plain s.number

-- Old items, also where what stood around them is gone: each read's items are what its unit yields on its recorded
-- value, and each block has in x what its key gives. The plain words y are those at the end.
abbrev pub Pieces : Code → Plain → Plain → Trace → Type 0
Pieces code x y Nothing = ⊤
Pieces code x y (Stepped rest) = Pieces code x y rest
Pieces code x y (Allocated (Core b) key rest) = (x (Core b) ≡ Some (made code y key)) × Pieces code x y rest
Pieces code x y (Allocated (Input i) key rest) = ⊥
Pieces code x y (Wrote p value rest) = Pieces code x y rest
Pieces code x y (WasRead p value u v args inside rest) =
    Yields code y (resumed code u v args value) inside × Pieces code x y inside × Pieces code x y rest
