-- Folding leaves it as it is where each `If` continues, so that a folded body goes forward like its original.
use Rattle.std.proofs.Common.{◌≡◌, ℕ, zero, suc, ◌+◌, ◌&&◌, Bool, true, false, if◌then◌else◌, Some, List, [], ◌∷◌, refl, ap₂, ◌∙◌, subst, arith, slice_get}
use Rattle.ceal_base.specs.declared.typed.StructInfo.{StructInfo}
use Rattle.ceal_code.proofs.Words.SameIsEqual.{both, none-some, some-same}
use Rattle.ceal_code.specs.Valid.{goes_forward, all_forward, followers}
use Rattle.ceal_code.specs.declared.command.Cmd.{Cmd}
use Rattle.ceal_code.specs.declared.command.Cmd.TheVariants.{Move, Tick, Alloc, Modref, Write, If, Done, Tail, Read, Call}
use Rattle.ceal_fold.specs.Folding.{Copies, at_root, copies_past, folded_command, folded_commands, used, used_in, command_or_tick, without_unused}

-- where each `If` goes forward, that of an index does
pub forward-at : (cs : List Cmd) (n i k : ℕ) (c : Cmd) → all_forward cs n ≡ true → slice_get cs i ≡ Some c → k ≡ n + i → goes_forward c k ≡ true
unfolding all_forward
forward-at [] n i k c h e at = none-some c e
forward-at (d ∷ cs) n zero k c h e at =
    let p = both (goes_forward d n) (all_forward cs (n + 1)) h in
    let here : n ≡ k = omega (arith, at) in
    subst (λ m. goes_forward c m ≡ true) here (subst (λ d. goes_forward d n ≡ true) (some-same d c e) p.0)
forward-at (d ∷ cs) n (suc i) k c h e at =
    let p = both (goes_forward d n) (all_forward cs (n + 1)) h in
    forward-at cs (n + 1) i k c p.1 e (omega (arith, at))

folded-forward : (structs : List StructInfo) (k : Copies) (c : Cmd) (i : ℕ) → goes_forward (folded_command structs k c) i ≡ goes_forward c i
folded-forward structs k (Move v e) i = refl
folded-forward structs k Tick i = refl
folded-forward structs k (Alloc v g args) i = refl
folded-forward structs k (Modref v shape) i = refl
folded-forward structs k (Write p e) i = refl
folded-forward structs k (If test first second) i = refl
folded-forward structs k Done i = refl
folded-forward structs k (Tail w args) i = refl
folded-forward structs k (Read v p w args) i = refl
folded-forward structs k (Call g args w rest) i = refl

replaced-forward : (structs : List StructInfo) (at : ℕ → Copies) (n : ℕ) (cs : List Cmd) → all_forward (folded_commands structs at n cs) n ≡ all_forward cs n
unfolding folded_commands all_forward
replaced-forward structs at n [] = refl
replaced-forward structs at n (c ∷ cs) =
    ap₂ (λ a b. a && b) (folded-forward structs (at n) c n) (replaced-forward structs (copies_past at n (folded_command structs (at n) c)) (n + 1) cs)

ticked-forward : (later : ℕ → Bool) (c : Cmd) (i : ℕ) → goes_forward (command_or_tick later c) i ≡ goes_forward c i
ticked-forward later (Move v e) i = go (later v.0)
  where
    go : (b : Bool) → goes_forward (if b then Move v e else Tick) i ≡ true
    go true = refl
    go false = refl
ticked-forward later Tick i = refl
ticked-forward later (Alloc v g args) i = refl
ticked-forward later (Modref v shape) i = refl
ticked-forward later (Write p e) i = refl
ticked-forward later (If test first second) i = refl
ticked-forward later Done i = refl
ticked-forward later (Tail w args) i = refl
ticked-forward later (Read v p w args) i = refl
ticked-forward later (Call g args w rest) i = refl

unused-forward : (n : ℕ) (cs : List Cmd) → all_forward (without_unused n cs) n ≡ all_forward cs n
unfolding without_unused all_forward
unused-forward n [] = refl
unused-forward n (c ∷ cs) =
    ap₂ (λ a b. a && b) (ticked-forward (used_in (used (n + 1) (without_unused (n + 1) cs)) (followers c n)) c n) (unused-forward (n + 1) cs)

pub forward-folded : (structs : List StructInfo) (cs : List Cmd) → all_forward (without_unused 0 (folded_commands structs at_root 0 cs)) 0 ≡ all_forward cs 0
forward-folded structs cs = unused-forward 0 (folded_commands structs at_root 0 cs) ∙ replaced-forward structs at_root 0 cs
