-- The pass from the root down.
use Rattle.std.proofs.Common.{◌≡◌, ℕ, zero, suc, ◌+◌, ◌<◌, ◌≤◌, ◌==◌, ◌||◌, Bool, true, false, if◌then◌else◌, List, []}
use Rattle.std.proofs.Common.{◌∷◌, ◌++◌, refl, sym, ap, ap₂, ◌∙◌, length, replicate, arith, append_assoc, slice_set}
use Rattle.std.proofs.lemmas.List.{append-nil}
use Rattle.ceal_base.specs.declared.typed.StructInfo.{StructInfo}
use Rattle.ceal_code.proofs.Words.SameIsEqual.{nat-same}
use Rattle.ceal_code.specs.Valid.{followers}
use Rattle.ceal_code.specs.declared.command.Cmd.{Cmd}
use Rattle.ceal_fold.proofs.ListSteps.{at-same, at-other}
use Rattle.ceal_fold.specs.Folding.{Copies, no_copies, copies_after, folded_command, is_among, copies_past, folded_commands}
use Rattle.ceal_fold.specs.States.{Pages, last_of, time, copy_at, state_at, copies_at, Until, AllUntil}

pub set-length : {A : Type 0} (xs : List A) (i : ℕ) (x : A) → length (slice_set xs i x) ≡ length xs
set-length [] i x = refl
set-length (y ∷ xs) zero x = refl
set-length (y ∷ xs) (suc i) x = ap suc (set-length xs i x)

pub states-same : (states : List Pages) (i : ℕ) (s : Pages) → i < length states → copies_at (slice_set states i s) i ≡ copy_at s
unfolding copies_at state_at
states-same states i s h = ap copy_at (at-same [] states i s h)

pub states-other : (states : List Pages) (i : ℕ) (s : Pages) (j : ℕ) → (j ≡ i → ⊥) → copies_at (slice_set states i s) j ≡ copies_at states j
unfolding copies_at state_at
states-other states i s j h = ap copy_at (at-other [] states i s j h)

-- times
pub copies-is : (states : List Pages) (i : ℕ) → copies_at states i ≡ copy_at (state_at states i)
unfolding copies_at
copies-is states i = refl

pub until-at : (n : ℕ) (states : List Pages) → AllUntil n states → (j v : ℕ) → time (last_of (state_at states j) v) ≤ n
unfolding AllUntil Until
until-at n states h j v = h j v

pub until-from : (n : ℕ) (s : Pages) → ((v : ℕ) → time (last_of s v) ≤ n) → Until n s
unfolding Until
until-from n s h = h

pub until-none : (n : ℕ) → Until n []
unfolding Until last_of
until-none n v = omega arith

pub until-set : (n : ℕ) (states : List Pages) (i : ℕ) (s : Pages) → AllUntil n states → Until n s → AllUntil n (slice_set states i s)
unfolding AllUntil state_at
until-set n [] i s h k j = h j
until-set n (x ∷ xs) zero s h k zero = k
until-set n (x ∷ xs) zero s h k (suc j) = h (suc j)
until-set n (x ∷ xs) (suc i) s h k zero = h zero
until-set n (x ∷ xs) (suc i) s h k (suc j) = until-set n xs i s (λ j. h (suc j)) k j

pub until-more : (n : ℕ) (states : List Pages) → AllUntil n states → AllUntil (n + 1) states
unfolding AllUntil Until
until-more n states h j v = let lo = h j v in omega (arith, lo)

pub until-begun : (n m : ℕ) → AllUntil n (replicate m [])
unfolding AllUntil state_at
until-begun n zero j = until-none n
until-begun n (suc m) zero = until-none n
until-begun n (suc m) (suc j) = until-begun n m j

pub hand-none : (states : List Pages) (k : Copies) (j : ℕ) → copies_at states j ≡ (if is_among j [] then k else copies_at states j)
unfolding is_among
hand-none states k j = refl

pub hand-one : (states : List Pages) (i : ℕ) (s : Pages) (j : ℕ) → j < length states
    → copies_at (slice_set states i s) j ≡ (if is_among j (i ∷ []) then copy_at s else copies_at states j)
unfolding is_among
hand-one states i s j h = go (j == i) refl
  where
    go : (b : Bool) → (j == i) ≡ b → copies_at (slice_set states i s) j ≡ (if b || false then copy_at s else copies_at states j)
    go true e = let k : j ≡ i = nat-same j i e in rw (← k) (states-same states j s h)
    go false e = states-other states i s j (λ k. grind (arith, e, k))

pub hand-two : (states : List Pages) (i k : ℕ) (s : Pages) (j : ℕ) → j < length states
    → copies_at (slice_set (slice_set states i s) k s) j ≡ (if is_among j (i ∷ k ∷ []) then copy_at s else copies_at states j)
unfolding is_among
hand-two states i k s j h = go (j == i) refl (j == k) refl
  where
    long : length (slice_set states i s) ≡ length states
    long = set-length states i s

    go : (a : Bool) → (j == i) ≡ a → (b : Bool) → (j == k) ≡ b → copies_at (slice_set (slice_set states i s) k s) j ≡ (if a || (b || false) then copy_at s else copies_at states j)
    go true e true f = let m : j ≡ k = nat-same j k f in rw (← m) (states-same (slice_set states i s) j s (omega (arith, h, long)))
    go false e true f = let m : j ≡ k = nat-same j k f in rw (← m) (states-same (slice_set states i s) j s (omega (arith, h, long)))
    go true e false f =
        let m : j ≡ i = nat-same j i e in
        states-other (slice_set states i s) k s j (λ z. grind (arith, f, z)) ∙ rw (← m) (states-same states j s h)
    go false e false f = states-other (slice_set states i s) k s j (λ z. grind (arith, f, z)) ∙ states-other states i s j (λ z. grind (arith, e, z))

pub root-none : (n : ℕ) (j : ℕ) → copies_at (replicate n []) j ≡ no_copies
unfolding copies_at state_at copy_at last_of no_copies
root-none zero j = refl
root-none (suc n) zero = refl
root-none (suc n) (suc j) = root-none n j

-- what the followers of a command are handed
pub handed-is : (states : List Pages) (i : ℕ) (c : Cmd) (known : Copies) (j : ℕ) (new : Copies)
    → new ≡ (if is_among j (followers c i) then known else copies_at (slice_set states i []) j)
    → known ≡ copies_after (copies_at states i) c → i < j → new ≡ copies_past (copies_at states) i c j
unfolding copies_past
handed-is states i c known j new e k lo =
    e ∙ ap₂ (λ a b. if is_among j (followers c i) then a else b) k (states-other states i [] j (λ h. omega (arith, lo, h)))

module _ (structs : List StructInfo) where
  pub replaced-same : (at at' : ℕ → Copies) (i : ℕ) (cs : List Cmd) → ((j : ℕ) → i ≤ j → j < i + length cs → at j ≡ at' j) → folded_commands structs at i cs ≡ folded_commands structs at' i cs
  unfolding folded_commands copies_past
  replaced-same at at' i [] h = refl
  replaced-same at at' i (c ∷ cs) h =
      let e : at i ≡ at' i = h i (omega arith) (omega arith) in
      ap₂ (λ k rest. folded_command structs k c ∷ rest) e
      (replaced-same (copies_past at i (folded_command structs (at i) c)) (copies_past at' i (folded_command structs (at' i) c)) (i + 1) cs
      (λ j lo hi. ap₂ (λ k l. if is_among j (followers (folded_command structs k c) i) then copies_after k (folded_command structs k c) else l) e (h j (omega (arith, lo)) (omega (arith, hi)))))

  pub replaced-step : (at at' : ℕ → Copies) (i : ℕ) (c : Cmd) (cs : List Cmd)
      → ((j : ℕ) → i < j → j < i + length (c ∷ cs) → at' j ≡ copies_past at i (folded_command structs (at i) c) j)
      → folded_commands structs at i (c ∷ cs) ≡ folded_command structs (at i) c ∷ folded_commands structs at' (i + 1) cs
  unfolding folded_commands
  replaced-step at at' i c cs h =
      ap (λ rest. folded_command structs (at i) c ∷ rest)
      (sym (replaced-same at' (copies_past at i (folded_command structs (at i) c)) (i + 1) cs (λ j lo hi. h j (omega (arith, lo)) (omega (arith, hi)))))

  pub replaced-end : (at : ℕ → Copies) (i : ℕ) (cs : List Cmd) → length cs ≡ 0 → folded_commands structs at i cs ≡ []
  unfolding folded_commands
  replaced-end at i [] h = refl
  replaced-end at i (c ∷ cs) h = absurd (omega (arith, h))

pub replicate-length : {A : Type 0} (n : ℕ) (x : A) → length (replicate n x) ≡ n
replicate-length zero x = refl
replicate-length (suc n) x = ap suc (replicate-length n x)

pub walk-on : (structs : List StructInfo) (states states' : List Pages) (i : ℕ) (c command : Cmd) (cs rest done done' whole : List Cmd)
    → rest ≡ c ∷ cs → done' ≡ done ++ command ∷ [] → command ≡ folded_command structs (copies_at states i) c → i + length rest ≡ length states
    → ((j : ℕ) → i < j → j < length states → copies_at states' j ≡ copies_past (copies_at states) i command j)
    → (done ++ folded_commands structs (copies_at states) i rest) ≡ whole → (done' ++ folded_commands structs (copies_at states') (i + 1) cs) ≡ whole
walk-on structs states states' i c command cs rest done done' whole r p e n h w =
    let long : i + length (c ∷ cs) ≡ length states = ap (λ rest. i + length rest) (sym r) ∙ n in
    let step = replaced-step structs (copies_at states) (copies_at states') i c cs (λ j lo hi. h j lo (omega (arith, hi, long)) ∙ ap (λ d. copies_past (copies_at states) i d j) e) in
    ap (λ ds. ds ++ folded_commands structs (copies_at states') (i + 1) cs) p
    ∙ append_assoc done (command ∷ []) (folded_commands structs (copies_at states') (i + 1) cs)
    ∙ ap (λ d. done ++ d ∷ folded_commands structs (copies_at states') (i + 1) cs) e
    ∙ ap (λ ds. done ++ ds) (sym step)
    ∙ ap (λ rest. done ++ folded_commands structs (copies_at states) i rest) (sym r) ∙ w

pub ruleset take_steps = (at-same)

pub ruleset hand_steps = (hand-none, hand-one, hand-two, until-set)

pub ruleset walk_steps = (replaced-end, append_assoc, append-nil)
