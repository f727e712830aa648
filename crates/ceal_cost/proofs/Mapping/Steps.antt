-- What each step of MAP is.
use Rattle.std.proofs.Common.{◌≡◌, Bool, true, false, if◌then◌else◌, Some, List, [], ◌∷◌, refl}
use Rattle.ceal_base.specs.Operators.{same_block}
use Rattle.ceal_base.specs.declared.forest.Key.{Key}
use Rattle.ceal_base.specs.declared.forest.Key.TheVariants.{Init}
use Rattle.ceal_base.specs.declared.forest.UnitId.{UnitId}
use Rattle.ceal_base.specs.declared.kind.Shape.TheVariants.{Struct}
use Rattle.ceal_base.specs.declared.word.BlockId.{BlockId}
use Rattle.ceal_base.specs.declared.word.Place.{Place}
use Rattle.ceal_base.specs.declared.word.Word.{Word}
use Rattle.ceal_base.specs.declared.word.Word.TheVariants.{Null, Block as BlockWord, At}
use Rattle.ceal_code.specs.Init.{made}
use Rattle.ceal_code.specs.Replay.{learnt}
use Rattle.ceal_code.specs.Step.{Stack, Empty, Run, Over, Quiet, Makes, Writes, Reads, entered, started, words_after_read}
use Rattle.ceal_code.specs.Step.{stack_after_quiet, next, chosen, bound, woven, unit_at}
use Rattle.ceal_code.specs.Value.{Plain, Variables, expr_value, values, set, unset}
use Rattle.ceal_code.specs.declared.expr.CodeExpr.TheBlock.{hidden-the_row-CodeExpr-0, shape-the_row-CodeExpr-0}
use Rattle.ceal_cost.specs.Mapping.{MapNames, mapping, lists}
use Rattle.ceal_theory.proofs.Store.WordsGrow.{learnt-here}
use Rattle.ceal_theory.specs.Repair.{resumed}

-- the unit after the read
abbrev pub after_read : UnitId
after_read = record { 0 = 1 }

-- the modifiable in a cell
abbrev pub tail_in : BlockId → Place
tail_in b = record { block = b; field = 1 }

-- with which a cell of the image is made
abbrev pub key_for : BlockId → Key
key_for b = Init 0 (BlockWord b ∷ [])

-- the block is a cell
pub record Is (x : Plain) (b : BlockId) : Type 0 where
  pub words : List Word
  pub there : x b ≡ Some (record { shape = Struct 0; words = words })

module _ (names : MapNames) where
  -- a call of `map`
  abbrev pub called : Place → Place → Stack → Stack
  called p q below = entered (mapping names) 0 (lists p q) below

  -- what is left of a call after the call for the rest of the list
  abbrev pub returning : Stack
  returning = entered (mapping names) 2 [] Empty

  -- the unit after the read found this word
  abbrev pub found : Place → Word → Stack
  found q w = resumed (mapping names) after_read 2 (At q ∷ []) w

  -- its variables
  abbrev pub variables : Place → Word → Variables
  variables q w = bound (unit_at (mapping names) 1).params (words_after_read (mapping names) 1 2 (At q ∷ []) w)

  -- and with the new cell
  abbrev pub with_cell : Place → BlockId → BlockId → Variables
  with_cell q b d = set (variables q (BlockWord b)) 3 (BlockWord d)

  pub starts : (p q : Place) → started (mapping names) 1 (lists p q) ≡ called p q Empty
  unfolding chosen
  starts p q = refl

  pub next-read : (x : Plain) (p q : Place) (below : Stack) → next (mapping names) x (called p q below) ≡ Reads p after_read 2 (At q ∷ []) below
  unfolding next stack_after_quiet bound set unset expr_value values hidden-the_row-CodeExpr-0 shape-the_row-CodeExpr-0 denote.Hole.Carrier.hidden
  next-read x p q below = refl

  pub next-over : (x : Plain) → next (mapping names) x Empty ≡ Over
  unfolding next stack_after_quiet
  next-over x = refl

  pub next-returning : (x : Plain) → next (mapping names) x returning ≡ Over
  unfolding next stack_after_quiet
  next-returning x = refl

  pub next-if : (x : Plain) (q : Place) (b : BlockId) → next (mapping names) x (found q (BlockWord b)) ≡ Quiet (Run 1 1 (variables q (BlockWord b)) Empty)
  unfolding next stack_after_quiet bound woven set unset expr_value values hidden-the_row-CodeExpr-0 shape-the_row-CodeExpr-0 denote.Hole.Carrier.hidden
  next-if x q b = refl

  pub next-alloc : (x : Plain) (q : Place) (b : BlockId) → next (mapping names) x (Run 1 1 (variables q (BlockWord b)) Empty) ≡ Makes (key_for b) 3 1 2 (variables q (BlockWord b)) Empty
  unfolding next stack_after_quiet bound woven set unset expr_value values hidden-the_row-CodeExpr-0 shape-the_row-CodeExpr-0 denote.Hole.Carrier.hidden
  next-alloc x q b = refl

  pub next-write : (x : Plain) (q : Place) (b d : BlockId) → next (mapping names) x (Run 1 2 (with_cell q b d) Empty) ≡ Writes q (BlockWord d) (Run 1 3 (with_cell q b d) Empty)
  unfolding next stack_after_quiet bound woven set unset expr_value values hidden-the_row-CodeExpr-0 shape-the_row-CodeExpr-0 denote.Hole.Carrier.hidden
  next-write x q b d = refl

  pub next-call : (x : Plain) (q : Place) (b d : BlockId) → Is x b → Is x d → next (mapping names) x (Run 1 3 (with_cell q b d) Empty) ≡ Quiet (called (tail_in b) (tail_in d) returning)
  unfolding next stack_after_quiet bound woven set unset expr_value values hidden-the_row-CodeExpr-0 shape-the_row-CodeExpr-0 denote.Hole.Carrier.hidden
  next-call x q b d i j = rw (i.there, j.there) refl

  pub next-if-null : (x : Plain) (q : Place) → next (mapping names) x (found q Null) ≡ Quiet (Run 1 4 (variables q Null) Empty)
  unfolding next stack_after_quiet bound woven set unset expr_value values hidden-the_row-CodeExpr-0 shape-the_row-CodeExpr-0 denote.Hole.Carrier.hidden
  next-if-null x q = refl

  pub next-write-null : (x : Plain) (q : Place) → next (mapping names) x (Run 1 4 (variables q Null) Empty) ≡ Writes q Null (Run 1 5 (variables q Null) Empty)
  unfolding next stack_after_quiet bound woven set unset expr_value values hidden-the_row-CodeExpr-0 shape-the_row-CodeExpr-0 denote.Hole.Carrier.hidden
  next-write-null x q = refl

  pub next-end : (x : Plain) (q : Place) → next (mapping names) x (Run 1 5 (variables q Null) Empty) ≡ Over
  unfolding next stack_after_quiet
  next-end x q = refl

  -- what `mk` makes is a cell
  pub made-cell : (x : Plain) (b d : BlockId) → Is (learnt x d (made (mapping names) x (key_for b))) d
  unfolding made
  made-cell x b d = record { words = (made (mapping names) x (key_for b)).words; there = learnt-here x d (made (mapping names) x (key_for b)) }

  -- what was a cell stays one
  pub still-cell : (x : Plain) (b d c : BlockId) → Is x c → Is (learnt x d (made (mapping names) x (key_for b))) c
  unfolding made learnt
  still-cell x b d c i = let found = go (same_block c d) in record { words = found.0; there = found.1 }
    where
      go : (o : Bool) → (words : List Word) × ((if o then Some (made (mapping names) x (key_for b)) else x c) ≡ Some (record { shape = Struct 0; words = words }))
      go true = ((made (mapping names) x (key_for b)).words, refl)
      go false = (i.words, i.there)
