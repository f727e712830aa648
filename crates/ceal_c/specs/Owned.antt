-- What C keeps of a session: nothing at null, and else the session and the right to free its block.
use Rattle.std.specs.Prelude.{Option, Some, None}
use Rattle.std.specs.Box.Ownership.{box_owns}
use Rattle.std.specs.contracts.impls.GlobalAllocator.TheImpl.{ghosts}
use Rattle.std.specs.declared.alloc.Global.{Global}
use base.Fml.{Fml, ftrue, ffalse, fex}
use denote.RattleType.{RattleType}
use denote.RawPtr.{Ptr, block_ptr, null_ptr}

-- the value at p, and the right to free its block
abbrev pub boxed : (R : RattleType) → Ptr → R.Denot → Global → Fml
boxed R p x a = box_owns (ghosts.dealloc_token a) R p x

-- at p lies the value, if there is one, in a block that may be freed; p is null exactly if there is none
abbrev pub owned : (R : RattleType) → Ptr → Option R.Denot → Fml
owned R null_ptr None = ftrue
owned R null_ptr (Some x) = ffalse
owned R (block_ptr b o) None = ffalse
owned R (block_ptr b o) (Some x) = fex Global (boxed R (block_ptr b o) x)
