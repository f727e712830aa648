-- What is at an index of a folded body, and what is known and used there.
use Rattle.std.proofs.Common.{◌≡◌, ℕ, zero, suc, ◌+◌, ◌<◌, ◌≤◌, ◌==◌, Bool, true, false, if◌then◌else◌, Some, List, [], ◌∷◌, ◌++◌, refl, sym, ap, ap₂, ◌∙◌, subst, length, arith, slice_get}
use Rattle.ceal_base.specs.declared.typed.StructInfo.{StructInfo}
use Rattle.ceal_code.proofs.Words.SameIsEqual.{nat-same, none-some, some-same}
use Rattle.ceal_code.specs.Valid.{followers, all_followers, is_tree}
use Rattle.ceal_code.specs.declared.command.Cmd.{Cmd}
use Rattle.ceal_code.specs.declared.command.Cmd.TheVariants.{Move, Tick, Alloc, Modref, Write, If, Done, Tail, Read, Call}
use Rattle.ceal_fold.proofs.Trees.{same-tree}
use Rattle.ceal_fold.proofs.UnusedSteps.{ticked-followers, among-part}
use Rattle.ceal_fold.specs.Folding.{Copies, no_copies, at_root, copies_after, is_among, copies_past, folded_command, folded_commands, used, used_in, used_by, command_or_tick, without_unused}

-- a list around one of its items
pub record Around (c : Cmd) (cs : List Cmd) (i : ℕ) : Type 0 where
  pub before : List Cmd
  pub after : List Cmd
  pub whole : cs ≡ before ++ c ∷ after
  pub long : length before ≡ i

pub around : (cs : List Cmd) (i : ℕ) (c : Cmd) → slice_get cs i ≡ Some c → Around c cs i
around [] i c e = none-some c e
around (d ∷ cs) zero c e = record { before = []; after = cs; whole = ap (λ d. d ∷ cs) (some-same d c e); long = refl }
around (d ∷ cs) (suc i) c e =
    let r = around cs i c e in
    record { before = d ∷ r.before; after = r.after; whole = ap (λ cs. d ∷ cs) r.whole; long = ap suc r.long }

pub in-middle : (cs : List Cmd) (c : Cmd) (ds : List Cmd) → slice_get (cs ++ c ∷ ds) (length cs) ≡ Some c
in-middle [] c ds = refl
in-middle (d ∷ cs) c ds = in-middle cs c ds

not-first : (n m : ℕ) → n < m → (m == n) ≡ false
not-first n m h = go (m == n) refl
  where
    go : (b : Bool) → (m == n) ≡ b → b ≡ false
    go false e = refl
    go true e = let i : m ≡ n = nat-same m n e in absurd (omega (arith, h, i))

is-first : (n : ℕ) → (n == n) ≡ true
is-first n = grind arith

module _ (structs : List StructInfo) where
  -- what is known at an index of a body
  unfoldable pub facts : (ℕ → Copies) → ℕ → List Cmd → ℕ → Copies
  facts at n [] j = at j
  facts at n (c ∷ cs) j = if j == n then at n else facts (copies_past at n (folded_command structs (at n) c)) (n + 1) cs j

  pub folded-followers : (k : Copies) (c : Cmd) (i : ℕ) → followers (folded_command structs k c) i ≡ followers c i
  folded-followers k (Move v e) i = refl
  folded-followers k Tick i = refl
  folded-followers k (Alloc v g args) i = refl
  folded-followers k (Modref v shape) i = refl
  folded-followers k (Write p e) i = refl
  folded-followers k (If test first second) i = refl
  folded-followers k Done i = refl
  folded-followers k (Tail w args) i = refl
  folded-followers k (Read v p w args) i = refl
  folded-followers k (Call g args w rest) i = refl

  pub facts-root : (cs : List Cmd) → facts at_root 0 cs 0 ≡ no_copies
  unfolding facts
  facts-root [] = refl
  facts-root (c ∷ cs) = refl

  pub facts-here : (at : ℕ → Copies) (n : ℕ) (c : Cmd) (cs : List Cmd) (i : ℕ) → i ≡ n → facts at n (c ∷ cs) i ≡ at n
  unfolding facts
  facts-here at n c cs i e =
      let r : (i == n) ≡ true = subst (λ n. (i == n) ≡ true) e (is-first i) in
      ap (λ b. if b then at n else facts (copies_past at n (folded_command structs (at n) c)) (n + 1) cs i) r

  pub facts-later : (at : ℕ → Copies) (n : ℕ) (c : Cmd) (cs : List Cmd) (i : ℕ) → (i == n) ≡ false → facts at n (c ∷ cs) i ≡ facts (copies_past at n (folded_command structs (at n) c)) (n + 1) cs i
  unfolding facts
  facts-later at n c cs i r = ap (λ b. if b then at n else facts (copies_past at n (folded_command structs (at n) c)) (n + 1) cs i) r

  handed-among : (at : ℕ → Copies) (i : ℕ) (c : Cmd) (j : ℕ) → is_among j (followers c i) ≡ true → copies_past at i c j ≡ copies_after (at i) c
  unfolding copies_past
  handed-among at i c j m = ap (λ b. if b then copies_after (at i) c else at j) m

  -- where no command leads there, it is as before
  facts-absent : (at : ℕ → Copies) (n : ℕ) (cs : List Cmd) (j : ℕ) → is_among j (all_followers cs n) ≡ false → facts at n cs j ≡ at j
  unfolding facts all_followers copies_past
  facts-absent at n [] j h = refl
  facts-absent at n (c ∷ cs) j h =
      let p = among-part j (followers c n) (all_followers cs (n + 1)) h in
      go (j == n) refl (facts-absent (copies_past at n (folded_command structs (at n) c)) (n + 1) cs j p.1 ∙ rw (folded-followers (at n) c n, p.0) refl)
    where
      go : (b : Bool) → (j == n) ≡ b → facts (copies_past at n (folded_command structs (at n) c)) (n + 1) cs j ≡ at j
          → (if b then at n else facts (copies_past at n (folded_command structs (at n) c)) (n + 1) cs j) ≡ at j
      go true e g = let i : j ≡ n = nat-same j n e in ap at (sym i)
      go false e g = g

  module _ (c : Cmd) (after : List Cmd) where
    facts-first : (at : ℕ → Copies) (i j : ℕ) → i < j → is_among j (followers c i) ≡ true → is_among j (all_followers after (i + 1)) ≡ false
        → facts at i (c ∷ after) j ≡ copies_after (facts at i (c ∷ after) i) (folded_command structs (facts at i (c ∷ after) i) c)
    facts-first at i j lo m a =
        let d = folded_command structs (at i) c in
        let m' : is_among j (followers d i) ≡ true = ap (is_among j) (folded-followers (at i) c i) ∙ m in
        facts-later at i c after j (not-first i j lo) ∙ facts-absent (copies_past at i d) (i + 1) after j a ∙ handed-among at i d j m'
        ∙ ap (λ k. copies_after k (folded_command structs k c)) (sym (facts-here at i c after i refl))

    -- the command at an index, and what is known at those that follow it
    pub facts-follow : (at : ℕ → Copies) (n : ℕ) (before : List Cmd) (i : ℕ) → i ≡ n + length before
        → (j : ℕ) → i < j → is_among j (followers c i) ≡ true → is_among j (all_followers after (i + 1)) ≡ false
        → facts at n (before ++ c ∷ after) j ≡ copies_after (facts at n (before ++ c ∷ after) i) (folded_command structs (facts at n (before ++ c ∷ after) i) c)
    facts-follow at n [] i e j lo m a =
        let z : i ≡ n = omega (arith, e) in
        subst (λ n. facts at n (c ∷ after) j ≡ copies_after (facts at n (c ∷ after) i) (folded_command structs (facts at n (c ∷ after) i) c)) z (facts-first at i j lo m a)
    facts-follow at n (d ∷ before) i e j lo m a =
        let s : n < i = omega (arith, e) in
        facts-later at n d (before ++ c ∷ after) j (not-first n j (omega (arith, s, lo)))
        ∙ facts-follow (copies_past at n (folded_command structs (at n) d)) (n + 1) before i (omega (arith, e)) j lo m a
        ∙ ap (λ k. copies_after k (folded_command structs k c)) (sym (facts-later at n d (before ++ c ∷ after) i (not-first n i s)))

    pub record ReplacedAround (at : ℕ → Copies) (n : ℕ) (before : List Cmd) (i : ℕ) : Type 0 where
      pub before' : List Cmd
      pub after' : List Cmd
      pub whole : folded_commands structs at n (before ++ c ∷ after) ≡ before' ++ folded_command structs (facts at n (before ++ c ∷ after) i) c ∷ after'
      pub long : length before' ≡ length before

    pub replaced-around : (at : ℕ → Copies) (n : ℕ) (before : List Cmd) (i : ℕ) → i ≡ n + length before → ReplacedAround at n before i
    unfolding folded_commands facts
    replaced-around at n [] i e =
        let z : i ≡ n = omega (arith, e) in
        let r : (i == n) ≡ true = rw z (is-first n) in
        record { before' = []; after' = folded_commands structs (copies_past at n (folded_command structs (at n) c)) (n + 1) after; whole = rw r refl; long = refl }
    replaced-around at n (d ∷ before) i e =
        let s : n < i = omega (arith, e) in
        let r : (i == n) ≡ false = not-first n i s in
        let q = replaced-around (copies_past at n (folded_command structs (at n) d)) (n + 1) before i (omega (arith, e)) in
        record { before' = folded_command structs (at n) d ∷ q.before'; after' = q.after'; whole = rw r (ap (λ cs. folded_command structs (at n) d ∷ cs) q.whole); long = ap suc q.long }

  replaced-length : (at : ℕ → Copies) (n : ℕ) (cs : List Cmd) → length (folded_commands structs at n cs) ≡ length cs
  unfolding folded_commands
  replaced-length at n [] = refl
  replaced-length at n (c ∷ cs) = ap suc (replaced-length (copies_past at n (folded_command structs (at n) c)) (n + 1) cs)

  replaced-followers : (at : ℕ → Copies) (n : ℕ) (cs : List Cmd) → all_followers (folded_commands structs at n cs) n ≡ all_followers cs n
  unfolding folded_commands all_followers
  replaced-followers at n [] = refl
  replaced-followers at n (c ∷ cs) = ap₂ (λ js ks. js ++ ks) (folded-followers (at n) c n) (replaced-followers (copies_past at n (folded_command structs (at n) c)) (n + 1) cs)

  pub replaced-tree : (cs : List Cmd) → is_tree (folded_commands structs at_root 0 cs) ≡ is_tree cs
  replaced-tree cs = same-tree (folded_commands structs at_root 0 cs) cs (replaced-length at_root 0 cs) (replaced-followers at_root 0 cs)

ticked-length : (n : ℕ) (cs : List Cmd) → length (without_unused n cs) ≡ length cs
unfolding without_unused
ticked-length n [] = refl
ticked-length n (c ∷ cs) = ap suc (ticked-length (n + 1) cs)

ticked-all : (n : ℕ) (cs : List Cmd) → all_followers (without_unused n cs) n ≡ all_followers cs n
unfolding without_unused all_followers
ticked-all n [] = refl
ticked-all n (c ∷ cs) = ap₂ (λ js ks. js ++ ks) (ticked-followers (used_in (used (n + 1) (without_unused (n + 1) cs)) (followers c n)) c n) (ticked-all (n + 1) cs)

pub ticked-tree : (cs : List Cmd) → is_tree (without_unused 0 cs) ≡ is_tree cs
ticked-tree cs = same-tree (without_unused 0 cs) cs (ticked-length 0 cs) (ticked-all 0 cs)

pub folded-length : (structs : List StructInfo) (cs : List Cmd) → length (without_unused 0 (folded_commands structs at_root 0 cs)) ≡ length cs
folded-length structs cs = ticked-length 0 (folded_commands structs at_root 0 cs) ∙ replaced-length structs at_root 0 cs

pub record TickedAround (c : Cmd) (after : List Cmd) (n : ℕ) (before : List Cmd) (i : ℕ) : Type 0 where
  pub before' : List Cmd
  pub after' : List Cmd
  pub whole : without_unused n (before ++ c ∷ after) ≡ before' ++ command_or_tick (used_in (used (i + 1) after') (followers c i)) c ∷ after'
  pub long : length before' ≡ length before

pub ticked-around : (c : Cmd) (after : List Cmd) (n : ℕ) (before : List Cmd) (i : ℕ) → i ≡ n + length before → TickedAround c after n before i
unfolding without_unused
ticked-around c after n [] i e =
    let z : i ≡ n = omega (arith, e) in
    record { before' = []; after' = without_unused (n + 1) after; whole = rw z refl; long = refl }
ticked-around c after n (d ∷ before) i e =
    let q = ticked-around c after (n + 1) before i (omega (arith, e)) in
    record {
      before' = command_or_tick (used_in (used (n + 1) (without_unused (n + 1) (before ++ c ∷ after))) (followers d n)) d ∷ q.before';
      after' = q.after';
      whole = ap (λ cs. command_or_tick (used_in (used (n + 1) (without_unused (n + 1) (before ++ c ∷ after))) (followers d n)) d ∷ cs) q.whole;
      long = ap suc q.long;
    }

-- what is used from an index on, where it is after others
used-first : (n : ℕ) (c : Cmd) (cs : List Cmd) (u : ℕ) → used n (c ∷ cs) n u ≡ used_by (used (n + 1) cs) c n u
unfolding used
used-first n c cs u = ap (λ b. if b then used_by (used (n + 1) cs) c n u else used (n + 1) cs n u) (is-first n)

used-more : (n : ℕ) (c : Cmd) (cs : List Cmd) (j u : ℕ) → (j == n) ≡ false → used n (c ∷ cs) j u ≡ used (n + 1) cs j u
unfolding used
used-more n c cs j u e = ap (λ b. if b then used_by (used (n + 1) cs) c n u else used (n + 1) cs j u) e

used-behind : (n : ℕ) (before rest : List Cmd) (m j u : ℕ) → m ≡ n + length before → m ≤ j → used n (before ++ rest) j u ≡ used m rest j u
used-behind n [] rest m j u e h = let z : n ≡ m = omega (arith, e) in ap (λ n. used n rest j u) z
used-behind n (d ∷ before) rest m j u e h =
    let s : n < m = omega (arith, e) in
    used-more n d (before ++ rest) j u (not-first n j (omega (arith, s, h))) ∙ used-behind (n + 1) before rest m j u (omega (arith, e)) h

pub used-later : (before : List Cmd) (c : Cmd) (after : List Cmd) (j u : ℕ) → length before < j → used 0 (before ++ c ∷ after) j u ≡ used (length before + 1) after j u
used-later before c after j u h =
    used-behind 0 before (c ∷ after) (length before) j u (omega arith) (omega (arith, h)) ∙ used-more (length before) c after j u (not-first (length before) j h)

pub used-here : (before : List Cmd) (c : Cmd) (after : List Cmd) (u : ℕ) → used 0 (before ++ c ∷ after) (length before) u ≡ used_by (used (length before + 1) after) c (length before) u
used-here before c after u = used-behind 0 before (c ∷ after) (length before) (length before) u (omega arith) (omega arith) ∙ used-first (length before) c after u
