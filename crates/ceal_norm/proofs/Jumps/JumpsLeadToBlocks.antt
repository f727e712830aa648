-- A jump leads to a block that is there, and so does the call of a function.
use Rattle.std.proofs.Common.{◌≡◌, ℕ, zero, suc, ◌<◌, Option, Some, None, List, [], ◌∷◌, length, slice_get, Contains, refl, arith}
use Rattle.ceal_base.specs.declared.typed.Typed.{Typed}
use Rattle.ceal_flow.specs.Laws.{IsKept, firsts, IsReached}
use Rattle.ceal_flow.specs.Lowering.{graph_of}
use Rattle.ceal_flow.specs.Paths.{stays, jumps, jumps_at}
use Rattle.ceal_flow.specs.declared.block.GraphBlock.{GraphBlock}
use Rattle.ceal_flow.specs.declared.block.GraphBlock.TheVariants.{Done, Test, Act, Unreached}
use Rattle.ceal_flow.proofs.Reach.{lead-on, jump}
use Rattle.ceal_flow.proofs.Reached.{reached-kept, kept-reached}
use Rattle.ceal_norm.specs.Laws.{IsClosed}
use Rattle.ceal_norm.proofs.Jumps.JumpCounts.{contains-none}

-- a block that is kept is there
pub kept-there : (blocks : List GraphBlock) (b : ℕ) → IsKept (slice_get blocks b) → b < length blocks
kept-there [] b h = absurd h
kept-there (x ∷ xs) zero h = omega arith
kept-there (x ∷ xs) (suc b) h = let l = kept-there xs b h in omega (arith, l)

-- a block with a jump is kept
pub jumping-kept : (block : GraphBlock) (c : ℕ) → Contains (jumps block) c → IsKept (Some block)
jumping-kept Done c h = absurd (contains-none c h)
jumping-kept (Test test first second) c h = tt
jumping-kept (Act s next) c h = tt
jumping-kept Unreached c h = absurd (contains-none c h)

reached-at : (p : Typed) (o : Option GraphBlock) (b c : ℕ) → slice_get (graph_of p).blocks b ≡ o → Contains (jumps_at o) c → IsReached (graph_of p) c
reached-at p None b c e h = absurd (contains-none c h)
reached-at p (Some block) b c e h =
    let blocks = (graph_of p).blocks in
    let r = kept-reached p b (rw e (jumping-kept block c h)) in
    (r.0, r.1, lead-on blocks r.0 b c r.2 (jump blocks b c c block e h stays))

-- a path leads to the target of a jump
pub jump-reached : (p : Typed) (b c : ℕ) → Contains (jumps_at (slice_get (graph_of p).blocks b)) c → IsReached (graph_of p) c
jump-reached p b c h = reached-at p (slice_get (graph_of p).blocks b) b c refl h

pub graph-closed : (p : Typed) → IsClosed (graph_of p)
graph-closed p b c h = kept-there (graph_of p).blocks c (reached-kept p c (jump-reached p b c h))

pub first-there : (p : Typed) (b : ℕ) → Contains (firsts (graph_of p).functions) b → b < length (graph_of p).blocks
first-there p b h = kept-there (graph_of p).blocks b (reached-kept p b (b, h, stays))
