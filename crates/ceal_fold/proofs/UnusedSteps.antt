-- The pass from the leaves up.
use Rattle.std.proofs.Common.{◌≡◌, ℕ, zero, suc, ◌+◌, ◌<◌, ◌==◌, ◌||◌, ◌&&◌, not, Bool, true, false, if◌then◌else◌}
use Rattle.std.proofs.Common.{List, [], ◌∷◌, ◌++◌, refl, sym, ap, ap₂, ◌∙◌, subst, length, replicate, reverse, arith}
use Rattle.std.proofs.Common.{append_assoc, slice_get, slice_set, unwrap_or}
use Rattle.std.proofs.lemmas.List.{append-nil, reverse-append}
use Rattle.std.proofs.Math.Path.{fun_ext}
use Rattle.ceal_code.proofs.Words.SameIsEqual.{nat-same}
use Rattle.ceal_code.specs.Valid.{followers, all_followers, is_tree}
use Rattle.ceal_code.specs.declared.command.Cmd.{Cmd}
use Rattle.ceal_code.specs.declared.command.Cmd.TheVariants.{Move, Tick, Alloc, Modref, Write, If, Done, Tail, Read, Call}
use Rattle.ceal_fold.proofs.ListSteps.{at-same, at-other}
use Rattle.ceal_fold.proofs.Trees.{all-after, same-tree, tree-apart}
use Rattle.ceal_fold.specs.Folding.{is_among, command_or_tick, uses, assigns, used, used_in, used_by, without_unused}
use Rattle.ceal_fold.specs.States.{has, has_at}

pub sets-same : (sets : List (List ℕ)) (i : ℕ) (s : List ℕ) (u : ℕ) → i < length sets → has_at (slice_set sets i s) i u ≡ has s u
unfolding has_at
sets-same sets i s u h = ap (λ s. has s u) (at-same [] sets i s h)

pub sets-other : (sets : List (List ℕ)) (i : ℕ) (s : List ℕ) (j u : ℕ) → (j ≡ i → ⊥) → has_at (slice_set sets i s) j u ≡ has_at sets j u
unfolding has_at
sets-other sets i s j u h = ap (λ s. has s u) (at-other [] sets i s j h)

pub has-none : (u : ℕ) → has [] u ≡ false
unfolding has
has-none u = refl

pub used-none : (later : ℕ → ℕ → Bool) (u : ℕ) → used_in later [] u ≡ false
unfolding used_in
used-none later u = refl

pub used-one : (later : ℕ → ℕ → Bool) (i u : ℕ) → used_in later (i ∷ []) u ≡ later i u
unfolding used_in
used-one later i u = go (later i u)
  where
    go : (b : Bool) → (b || false) ≡ b
    go true = refl
    go false = refl

pub past-set : (sets : List (List ℕ)) (i u : ℕ) → length sets < i + 1 → has_at sets i u ≡ false
unfolding has_at has
past-set [] i u h = refl
past-set (s ∷ sets) zero u h = absurd (omega (arith, h))
past-set (s ∷ sets) (suc i) u h = past-set sets i u (omega (arith, h))

pub past-take : (sets : List (List ℕ)) (i : ℕ) → length sets < i + 1 → slice_set sets i [] ≡ sets
past-take [] i h = refl
past-take (s ∷ sets) zero h = absurd (omega (arith, h))
past-take (s ∷ sets) (suc i) h = ap (λ rest. s ∷ rest) (past-take sets i (omega (arith, h)))

gone : (sets : List (List ℕ)) (i u : ℕ) → has (unwrap_or (slice_get (slice_set sets i []) i) []) u ≡ false
unfolding has
gone [] i u = refl
gone (s ∷ sets) zero u = refl
gone (s ∷ sets) (suc i) u = gone sets i u

emptied : (sets : List (List ℕ)) (i u : ℕ) → has_at (slice_set sets i []) i u ≡ false
unfolding has_at has
emptied sets i u = gone sets i u

-- what was taken is the same again, or nothing
pub used-two : (sets : List (List ℕ)) (i k u : ℕ) → (has_at sets i u || has_at (slice_set sets i []) k u) ≡ used_in (has_at sets) (i ∷ k ∷ []) u
unfolding used_in
used-two sets i k u = go (k == i) refl
  where
    or-same : (a b : Bool) → b ≡ false → (a || b) ≡ (a || (a || false))
    or-same true b h = refl
    or-same false b h = h

    or-false : (a b : Bool) → (a || b) ≡ (a || (b || false))
    or-false true b = refl
    or-false false true = refl
    or-false false false = refl

    go : (b : Bool) → (k == i) ≡ b → (has_at sets i u || has_at (slice_set sets i []) k u) ≡ (has_at sets i u || (has_at sets k u || false))
    go true e = let j : k ≡ i = nat-same k i e in rw j (or-same (has_at sets i u) (has_at (slice_set sets i []) i u) (emptied sets i u))
    go false e =
        let o = sets-other sets i [] k u (λ j. grind (arith, e, j)) in
        rw o (or-false (has_at sets i u) (has_at sets k u))

among-not : (b c : Bool) → (b || c) ≡ false → (b ≡ false) × (c ≡ false)
among-not true c h = absurd (grind (arith, h))
among-not false c h = (refl, h)

pub taken-one : (sets : List (List ℕ)) (i j u : ℕ) → is_among j (i ∷ []) ≡ false → has_at (slice_set sets i []) j u ≡ has_at sets j u
unfolding is_among
taken-one sets i j u h = let p = among-not (j == i) false h in sets-other sets i [] j u (λ k. grind (arith, p.0, k))

pub taken-two : (sets : List (List ℕ)) (i k j u : ℕ) → is_among j (i ∷ k ∷ []) ≡ false → has_at (slice_set (slice_set sets i []) k []) j u ≡ has_at sets j u
unfolding is_among
taken-two sets i k j u h =
    let p = among-not (j == i) (j == k || false) h in
    let q = among-not (j == k) false p.1 in
    sets-other (slice_set sets i []) k [] j u (λ e. grind (arith, q.0, e)) ∙ sets-other sets i [] j u (λ e. grind (arith, p.0, e))

pub ticked-ext : (f g : ℕ → Bool) (c : Cmd) → ((u : ℕ) → f u ≡ g u) → command_or_tick f c ≡ command_or_tick g c
ticked-ext f g c h = ap (λ later. command_or_tick later c) (fun_ext h)

pub root-sets : (n j u : ℕ) → has_at (replicate n []) j u ≡ false
unfolding has_at has
root-sets zero j u = refl
root-sets (suc n) zero u = refl
root-sets (suc n) (suc j) u = root-sets n j u

pub ticked-followers : (later : ℕ → Bool) (c : Cmd) (i : ℕ) → followers (command_or_tick later c) i ≡ followers c i
ticked-followers later (Move v e) i = go (later v.0)
  where
    go : (b : Bool) → followers (if b then Move v e else Tick) i ≡ (i + 1) ∷ []
    go true = refl
    go false = refl
ticked-followers later Tick i = refl
ticked-followers later (Alloc v g args) i = refl
ticked-followers later (Modref v shape) i = refl
ticked-followers later (Write p e) i = refl
ticked-followers later (If test first second) i = refl
ticked-followers later Done i = refl
ticked-followers later (Tail w args) i = refl
ticked-followers later (Read v p w args) i = refl
ticked-followers later (Call g args w rest) i = refl

-- these commands, before others of which this is known already
unfoldable pub onto : ℕ → List Cmd → List Cmd → List Cmd
onto i [] done = done
onto i (c ∷ cs) done = command_or_tick (used_in (used (i + 1) (onto (i + 1) cs done)) (followers c i)) c ∷ onto (i + 1) cs done

pub onto-none : (i : ℕ) (cs : List Cmd) → onto i cs [] ≡ without_unused i cs
unfolding onto without_unused
onto-none i [] = refl
onto-none i (c ∷ cs) = ap (λ rest. command_or_tick (used_in (used (i + 1) rest) (followers c i)) c ∷ rest) (onto-none (i + 1) cs)

pub onto-push : (i : ℕ) (cs : List Cmd) (c : Cmd) (done : List Cmd) (n : ℕ) → n ≡ i + length cs
    → onto i (cs ++ c ∷ []) done ≡ onto i cs (command_or_tick (used_in (used (n + 1) done) (followers c n)) c ∷ done)
unfolding onto
onto-push i [] c done n h = let e : n ≡ i = omega (arith, h) in rw e refl
onto-push i (d ∷ cs) c done n h =
    ap (λ rest. command_or_tick (used_in (used (i + 1) rest) (followers d i)) d ∷ rest) (onto-push (i + 1) cs c done n (omega (arith, h)))

used-same : (later later' : ℕ → ℕ → Bool) (js : List ℕ) (u : ℕ) → ((j : ℕ) → is_among j js ≡ true → later j u ≡ later' j u) → used_in later js u ≡ used_in later' js u
unfolding used_in is_among
used-same later later' [] u h = refl
used-same later later' (j ∷ js) u h = ap₂ (λ a b. a || b) (h j (first j)) (used-same later later' js u (λ k m. h k (rest k m)))
  where
    first : (j : ℕ) → (j == j || is_among j js) ≡ true
    first j = let e : (j == j) ≡ true = grind arith in rw e refl

    rest : (k : ℕ) → is_among k js ≡ true → (k == j || is_among k js) ≡ true
    rest k m = go (k == j)
      where
        go : (b : Bool) → (b || is_among k js) ≡ true
        go true = refl
        go false = m

pub among-part : (j : ℕ) (js ks : List ℕ) → is_among j (js ++ ks) ≡ false → (is_among j js ≡ false) × (is_among j ks ≡ false)
unfolding is_among
among-part j [] ks h = (refl, h)
among-part j (k ∷ js) ks h =
    let p = among-not (j == k) (is_among j (js ++ ks)) h in
    let q = among-part j js ks p.1 in
    (rw (p.0, q.0) refl, q.1)

middle-length : (cs : List Cmd) (c d : Cmd) (done : List Cmd) → length (cs ++ d ∷ done) ≡ length (cs ++ c ∷ done)
middle-length [] c d done = refl
middle-length (b ∷ cs) c d done = ap suc (middle-length cs c d done)

push-length : (cs : List Cmd) (c : Cmd) → length (cs ++ c ∷ []) ≡ length cs + 1
push-length [] c = refl
push-length (b ∷ cs) c = ap suc (push-length cs c) ∙ omega arith

replicate-length : {A : Type 0} (n : ℕ) (x : A) → length (replicate n x) ≡ n
replicate-length zero x = refl
replicate-length (suc n) x = ap suc (replicate-length n x)

-- the sets that are still there are right
abbrev pub SetsRight : List (List ℕ) → ℕ → List Cmd → Type 0
SetsRight sets n done = (j u : ℕ) → is_among j (all_followers done n) ≡ false → has_at sets j u ≡ used n done j u

module _ (cs : List Cmd) (c : Cmd) (done : List Cmd) (tree : is_tree (cs ++ c ∷ done) ≡ true) (sets : List (List ℕ)) (right : SetsRight sets (length cs + 1) done) where
  -- those of the followers are there
  pub later-right : (u : ℕ) → used_in (has_at sets) (followers c (length cs)) u ≡ used_in (used (length cs + 1) done) (followers c (length cs)) u
  later-right u = used-same (has_at sets) (used (length cs + 1) done) (followers c (length cs)) u (λ j m. right j u (tree-apart cs c done tree j m))

  pub ticked-right : command_or_tick (used_in (has_at sets) (followers c (length cs))) c ≡ command_or_tick (used_in (used (length cs + 1) done) (followers c (length cs))) c
  ticked-right = ap (λ later. command_or_tick later c) (fun_ext later-right)

  pub sets-right : (d : Cmd) (sets' : List (List ℕ)) → ((i : ℕ) → followers d i ≡ followers c i)
      → ((u : ℕ) → has_at sets' (length cs) u ≡ used_by (has_at sets) d (length cs) u)
      → ((j u : ℕ) → (j ≡ length cs → ⊥) → is_among j (followers c (length cs)) ≡ false → has_at sets' j u ≡ has_at sets j u)
      → SetsRight sets' (length cs) (d ∷ done)
  unfolding all_followers used
  sets-right d sets' same here others j u m =
      let p = among-part j (followers d (length cs)) (all_followers done (length cs + 1)) m in
      go (j == length cs) refl (subst (λ js. is_among j js ≡ false) (same (length cs)) p.0) p.1
    where
      go : (b : Bool) → (j == length cs) ≡ b → is_among j (followers c (length cs)) ≡ false → is_among j (all_followers done (length cs + 1)) ≡ false
          → has_at sets' j u ≡ (if b then used_by (used (length cs + 1) done) d (length cs) u else used (length cs + 1) done j u)
      go true e f g =
          let i : j ≡ length cs = nat-same j (length cs) e in
          ap (λ j. has_at sets' j u) i ∙ here u
          ∙ ap (λ b. uses d u || (not (assigns d u) && b))
          (ap (λ js. used_in (has_at sets) js u) (same (length cs)) ∙ later-right u ∙ ap
          (λ js. used_in (used (length cs + 1) done) js u) (sym (same (length cs))))
      go false e f g = others j u (λ i. grind (arith, e, i)) f ∙ right j u g

  pub tree-right : (d : Cmd) → ((i : ℕ) → followers d i ≡ followers c i) → is_tree (cs ++ d ∷ done) ≡ true
  unfolding all_followers
  tree-right d same =
      same-tree (cs ++ d ∷ done) (cs ++ c ∷ done) (middle-length cs c d done)
      (all-after cs (d ∷ done) ∙ ap (λ js. all_followers cs 0 ++ (js ++ all_followers done (length cs + 1))) (same (length cs)) ∙ sym (all-after cs (c ∷ done)))
      ∙ tree

used-past : (n j u : ℕ) → used n [] j u ≡ false
unfolding used
used-past n j u = refl

-- the pass from the leaves up, where these commands are left and the others are done, the last one first
pub record Underway (body left done : List Cmd) (sets : List (List ℕ)) : Type 0 where
  pub whole : onto 0 left (reverse done) ≡ without_unused 0 body
  pub right : SetsRight sets (length left) (reverse done)
  pub tree : is_tree (left ++ reverse done) ≡ true
  pub long : length sets ≡ length left + length done

begun : (body : List Cmd) (n : ℕ) → n ≡ length body → is_tree body ≡ true → Underway body body [] (replicate n [])
begun body n e tree = record {
  whole = onto-none 0 body;
  right = λ j u m. root-sets n j u ∙ sym (used-past (length body) j u);
  tree = rw (append-nil body) tree;
  long = replicate-length n [] ∙ e ∙ omega arith;
}

pub underway-begun : (body done : List Cmd) (sets : List (List ℕ)) (n : ℕ) → done ≡ [] → sets ≡ replicate n [] → n ≡ length body → is_tree body ≡ true → Underway body body done sets
underway-begun body done sets n d s e tree =
    subst (λ done. Underway body body done sets) (sym d) (subst (λ sets. Underway body body [] sets) (sym s) (begun body n e tree))

no-more : (cs : List Cmd) → length cs ≡ 0 → cs ≡ []
no-more [] h = refl
no-more (c ∷ cs) h = absurd (omega (arith, h))

pub underway-over : (body left done : List Cmd) (sets : List (List ℕ)) → Underway body left done sets → length left ≡ 0 → reverse done ≡ without_unused 0 body
unfolding onto
underway-over body left done sets w e = ap (λ left. onto 0 left (reverse done)) (sym (no-more left e)) ∙ w.whole

module _ (body cs : List Cmd) (c d : Cmd) (done : List Cmd) (sets sets' : List (List ℕ)) where
  on-command : Underway body (cs ++ c ∷ []) done sets → d ≡ command_or_tick (used_in (has_at sets) (followers c (length cs))) c
      → ((u : ℕ) → has_at sets' (length cs) u ≡ used_by (has_at sets) d (length cs) u)
      → ((j u : ℕ) → (j ≡ length cs → ⊥) → is_among j (followers c (length cs)) ≡ false → has_at sets' j u ≡ has_at sets j u)
      → length sets' ≡ length sets → Underway body cs (done ++ d ∷ []) sets'
  on-command w e here others long =
      let D = reverse done in
      let back : reverse (done ++ d ∷ []) ≡ d ∷ reverse done = reverse-append done (d ∷ []) in
      let tree : is_tree (cs ++ c ∷ reverse done) ≡ true = subst (λ ds. is_tree ds ≡ true) (append_assoc cs (c ∷ []) (reverse done)) (w.tree) in
      let right : SetsRight sets (length cs + 1) (reverse done) = subst (λ n. SetsRight sets n (reverse done)) (push-length cs c) (w.right) in
      let same : (i : ℕ) → followers d i ≡ followers c i = λ i. ap (λ d. followers d i) e ∙ ticked-followers (used_in (has_at sets) (followers c (length cs))) c i in
      let is : d ≡ command_or_tick (used_in (used (length cs + 1) (reverse done)) (followers c (length cs))) c = e ∙ ticked-right cs c (reverse done) tree sets right in
      record {
        whole = ap (onto 0 cs) back ∙ ap (λ d. onto 0 cs (d ∷ reverse done)) is ∙ sym (onto-push 0 cs c (reverse done) (length cs) (omega arith)) ∙ w.whole;
        right = subst (SetsRight sets' (length cs)) (sym back) (sets-right cs c (reverse done) tree sets right d sets' same here others);
        tree = subst (λ ds. is_tree (cs ++ ds) ≡ true) (sym back) (tree-right cs c (reverse done) tree sets right d same);
        long = long ∙ w.long ∙ omega (arith, push-length cs c, push-length done d);
      }

  pub underway-on : (left done' : List Cmd) (n : ℕ) → left ≡ cs ++ c ∷ [] → done' ≡ done ++ d ∷ [] → n ≡ length cs → Underway body left done sets
      → d ≡ command_or_tick (used_in (has_at sets) (followers c n)) c
      → ((u : ℕ) → has_at sets' n u ≡ used_by (has_at sets) d n u)
      → ((j u : ℕ) → (j ≡ n → ⊥) → is_among j (followers c n) ≡ false → has_at sets' j u ≡ has_at sets j u)
      → length sets' ≡ length sets → Underway body cs done' sets'
  underway-on left done' n l p i w e here others long =
      subst (λ done. Underway body cs done sets') (sym p)
      (on-command (subst (λ left. Underway body left done sets) l w)
      (subst (λ n. d ≡ command_or_tick (used_in (has_at sets) (followers c n)) c) i e)
      (subst (λ n. (u : ℕ) → has_at sets' n u ≡ used_by (has_at sets) d n u) i here)
      (subst (λ n. (j u : ℕ) → (j ≡ n → ⊥) → is_among j (followers c n) ≡ false → has_at sets' j u ≡ has_at sets j u) i others) long)

pub ruleset take_steps = (sets-same, past-set, past-take, has-none)

pub ruleset later_steps = (has-none, used-none, used-one, used-two, taken-one, taken-two)

pub ruleset walk_steps = (append_assoc, append-nil)
