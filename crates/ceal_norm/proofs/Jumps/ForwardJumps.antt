-- A jump that leads to no entry leads forwards. A jump leads backwards only to the test of a `while`, from its body, by
-- its end or a `continue`; and a path leads to the test from outside of the body too.
use Rattle.std.proofs.Common.{◌≡◌, ◌⊎◌, inl, inr, ℕ, zero, suc, ◌+◌, ◌<◌, ◌≤◌, Bool, true, false, ◌&&◌, ◌||◌}
use Rattle.std.proofs.Common.{if◌then◌else◌, Option, Some, None, List, [], ◌∷◌, ◌++◌, length, slice_get, replicate}
use Rattle.std.proofs.Common.{Contains, refl, sym, subst, ◌∙◌, arith}
use Rattle.std.proofs.lemmas.List.Elements.{Contains-push, Contains-append_left, Contains-append_right}
use Rattle.ceal_base.specs.declared.typed.Typed.{Typed}
use Rattle.ceal_base.specs.declared.typed.TypedExpr.{TypedExpr}
use Rattle.ceal_base.specs.declared.typed.TypedStmt.{TypedStmt, Declare, Assign, SetField, Write, Call, If', While', Return, Break, Continue, Row_of-TypedStmt, end_of-TypedStmt, more_of-TypedStmt}
use Rattle.ceal_base.specs.declared.typed.TypedStmt.TheBlock.{hidden-the_row-TypedStmt-0}
use Rattle.ceal_flow.specs.Blocks.{size, row_size, sizes, may_continue, row_may_continue, all_may_continue, no_loop, in_loop, target, row_entry, entry, blocks_of, row_blocks, all_blocks}
use Rattle.ceal_flow.specs.Laws.{firsts}
use Rattle.ceal_flow.specs.Lowering.{end_of, first_of, core_blocks, graph_of}
use Rattle.ceal_flow.specs.Paths.{jumps, jumps_at}
use Rattle.ceal_flow.specs.Program.{Graph}
use Rattle.ceal_flow.specs.declared.block.GraphBlock.{GraphBlock}
use Rattle.ceal_flow.specs.declared.exits.Exits.{Exits}
use Rattle.ceal_flow.specs.declared.block.GraphBlock.TheVariants.{Done, Test, Act, Unreached}
use Rattle.ceal_flow.proofs.BlockSteps.{row-may_continue, row-entry, row-blocks, row-sizes, blocks-length, row-length}
use Rattle.ceal_flow.proofs.Placing.{Placed, placed-head, placed-left, placed-right, placed-tail}
use Rattle.ceal_flow.proofs.Reach.{parted}
use Rattle.ceal_norm.specs.Entries.{is_entry}
use Rattle.ceal_norm.specs.Laws.{IsForward}
use Rattle.ceal_norm.proofs.Jumps.JumpCounts.{contains-none, contains-one, contains-cases, first-entry, jumps-entry}
use Rattle.ceal_flow.proofs.Owners.{owner-of}

module _ (g : Graph) where
  abbrev Jumps : ℕ → ℕ → Type 0
  Jumps b c = Contains (jumps_at (slice_get g.blocks b)) c

  -- forwards, or to an entry
  abbrev Good : ℕ → ℕ → Type 0
  Good b c = (b < c) ⊎ (is_entry g c ≡ true)

  -- a function begins at the block, or a jump leads to it from outside of a part
  abbrev Entered : ℕ → ℕ → ℕ → Type 0
  Entered from to c = Contains (firsts g.functions) c ⊎ ((m : ℕ) × ((m < from) ⊎ (to ≤ m)) × Jumps m c)

  -- a jump leads to the block from a part
  abbrev Left : ℕ → ℕ → ℕ → Type 0
  Left from to c = (m : ℕ) × (from ≤ m) × (m < to) × Jumps m c

  -- jumps from a part to what follows it
  abbrev After : ℕ → ℕ → ℕ → Type 0
  After from to c = (b : ℕ) → from ≤ b → b < to → Jumps b c → Good b c

  -- and jumps out of it by `return`, `break` and `continue`
  record Out (from to : ℕ) (exits : Exits) : Type 0 where
    done : to ≤ exits.done
    behind : After from to exits.behind
    test : After from to exits.test

  -- as blocks of statements from block `n` on, `k` of them, which are entered at `start`
  record Laws (start : ℕ) (xs : List GraphBlock) (n k after : ℕ) (on : Bool) : Type 0 where
    good : (i : ℕ) (block : GraphBlock) (c : ℕ) → slice_get xs i ≡ Some block → Contains (jumps block) c → Good (n + i) c
    left : on ≡ true → (start ≡ after) ⊎ Left n (n + k) after

  jumps-by : (b c : ℕ) (block : GraphBlock) → slice_get g.blocks b ≡ Some block → Contains (jumps block) c → Jumps b c
  jumps-by b c block e h = rw e h

  entered-within : (from to from' to' c : ℕ) → from ≤ from' → to' ≤ to → Entered from to c → Entered from' to' c
  entered-within from to from' to' c l h (inl k) = inl k
  entered-within from to from' to' c l h (inr k) = inr (k.0, elim k.1 [ inl q ↦ inl (omega (arith, q, l)) | inr q ↦ inr (omega (arith, q, h)) ], k.2)

  -- a jump back to a block that is entered from outside of the part
  back-good : (from to c b : ℕ) → from ≤ b → b < to → Jumps b c → Entered from to c → Good b c
  back-good from to c b l h j (inl k) = inr (first-entry g c k)
  back-good from to c b l h j (inr k) =
      inr (jumps-entry g b k.0 c (elim k.1 [ inl q ↦ inr (omega (arith, q, l)) | inr q ↦ inl (omega (arith, q, h)) ]) j k.2)

  end-laws : (n after : ℕ) → Laws after [] n 0 after true
  end-laws n after = record { good = λ i block c e j. cc; left = λ e. inl refl }

  return-laws : (start n after : ℕ) → Laws start [] n 0 after false
  return-laws start n after = record { good = λ i block c e j. cc; left = λ e. cc }

  module _ (s : TypedStmt) (n after : ℕ) (look : slice_get g.blocks n ≡ Some (Act s after)) (behind : After n (n + 1) after) where
    act-jumps : Jumps n after
    act-jumps = jumps-by n after (Act s after) look (Contains-push [] after)

    act-good : (i : ℕ) (block : GraphBlock) (c : ℕ) → slice_get (Act s after ∷ []) i ≡ Some block → Contains (jumps block) c → Good (n + i) c
    act-good zero block c e j =
        let same : Act s after ≡ block = cc in
        let to = contains-one after c (rw (← same) at j) in
        let here : n ≡ n + 0 = omega arith in
        subst (λ x. Good (n + 0) x) to (subst (λ m. Good m after) here (behind n (omega arith) (omega arith) act-jumps))
    act-good (suc i) block c e j = cc

    act-laws : Laws n (Act s after ∷ []) n 1 after true
    act-laws = record { good = act-good; left = λ e. inr (n, omega arith, omega arith, act-jumps) }

  -- one part after another
  module _ (start mid : ℕ) (xs ys : List GraphBlock) (n k m after : ℕ) (on : Bool) (long : length xs ≡ k)
      (one : Laws start xs n k mid true) (two : Laws mid ys (n + k) m after on) where
    seq-good : (i : ℕ) (block : GraphBlock) (c : ℕ) → slice_get (xs ++ ys) i ≡ Some block → Contains (jumps block) c → Good (n + i) c
    seq-good i block c e j = elim (parted (λ o. o ≡ Some block) xs ys i e) [
      | inl l ↦ one.good i block c l.1 j
      | inr l ↦
          let same : n + k + l.0 ≡ n + i = let q = l.1 in omega (arith, q, long) in
          subst (λ b. Good b c) same (two.good l.0 block c l.2 j)
    ]

    seq-left : on ≡ true → (start ≡ after) ⊎ Left n (n + (k + m)) after
    seq-left e = elim (two.left e) [
      | inl q ↦ elim (one.left refl) [
        | inl r ↦ inl (r ∙ q)
        | inr r ↦ inr (r.0, r.1, (let l = r.2 in omega (arith, l)), subst (λ x. Jumps r.0 x) q r.3)
      ]
      | inr r ↦ inr (r.0, (let l = r.1 in omega (arith, l)), (let l = r.2 in omega (arith, l)), r.3)
    ]

    seq-laws : Laws start (xs ++ ys) n (k + m) after on
    seq-laws = record { good = seq-good; left = seq-left }

  left-out : (m i : ℕ) (block : GraphBlock) → slice_get (replicate m Unreached) i ≡ Some block → block ≡ Unreached
  left-out zero i block e = cc
  left-out (suc m) zero block e = cc
  left-out (suc m) (suc i) block e = left-out m i block e

  no-jumps : (block : GraphBlock) (c : ℕ) → block ≡ Unreached → Contains (jumps block) c → ⊥
  no-jumps block c e j = contains-none c (subst (λ x. Contains (jumps x) c) e j)

  -- a part that does not continue, and what is left out after it
  last-laws : (start mid : ℕ) (xs : List GraphBlock) (n k m after : ℕ) → Laws start xs n k mid false
      → Laws start (xs ++ replicate m Unreached) n (k + m) after false
  last-laws start mid xs n k m after one = record {
    good = λ i block c e j. elim (parted (λ o. o ≡ Some block) xs (replicate m Unreached) i e) [
      | inl l ↦ one.good i block c l.1 j
      | inr l ↦ absurd (no-jumps block c (left-out m l.0 block l.2) j)
    ];
    left = λ e. cc;
  }

  cons-laws : (start mid : ℕ) (xs ys : List GraphBlock) (n k m after : ℕ) (a b : Bool) → length xs ≡ k → Laws start xs n k mid a
      → (a ≡ true → Laws mid ys (n + k) m after b) → Laws start (xs ++ (if a then ys else replicate m Unreached)) n (k + m) after (a && b)
  cons-laws start mid xs ys n k m after true b long one two = seq-laws start mid xs ys n k m after b long one (two refl)
  cons-laws start mid xs ys n k m after false b long one two = last-laws start mid xs n k m after one

  -- a jump from before a row
  row-good : {m : _} (r : Row_of-TypedStmt m) (n after : ℕ) (exits : Exits) (b : ℕ) → b < n → n ≤ exits.done → (row_entry r n after exits ≡ after → Good b after)
      → (row_entry r n after exits ≡ exits.behind → Good b exits.behind) → (row_entry r n after exits ≡ exits.test → Good b exits.test)
      → Good b (row_entry r n after exits)
  row-good end_of-TypedStmt n after exits b l h k out back = k refl
  row-good (more_of-TypedStmt (Return at) rest) n after exits b l h k out back = inl (omega (arith, l, h))
  row-good (more_of-TypedStmt (Break at) rest) n after exits b l h k out back = out refl
  row-good (more_of-TypedStmt (Continue at) rest) n after exits b l h k out back = back refl
  row-good (more_of-TypedStmt (Declare at v kind value) rest) n after exits b l h k out back = inl l
  row-good (more_of-TypedStmt (Assign at v value) rest) n after exits b l h k out back = inl l
  row-good (more_of-TypedStmt (SetField at left s field e) rest) n after exits b l h k out back = inl l
  row-good (more_of-TypedStmt (Write at place e) rest) n after exits b l h k out back = inl l
  row-good (more_of-TypedStmt (Call at f args) rest) n after exits b l h k out back = inl l
  row-good (more_of-TypedStmt (If' at test _ first _ second) rest) n after exits b l h k out back = inl l
  row-good (more_of-TypedStmt (While' at test _ body) rest) n after exits b l h k out back = inl l

  -- a test, and its two parts
  module _ (test : TypedExpr) (a b : ℕ) (xs ys : List GraphBlock) (n k m after : ℕ) (first_on second_on : Bool) (long : length xs ≡ k)
      (look : slice_get g.blocks n ≡ Some (Test test a b)) (to_first : Good n a) (to_second : Good n b)
      (one : Laws a xs (n + 1) k after first_on) (two : Laws b ys (n + 1 + k) m after second_on) where
    jumps-first : Jumps n a
    jumps-first = jumps-by n a (Test test a b) look (Contains-append_left (a ∷ []) (b ∷ []) a (Contains-push [] a))

    jumps-second : Jumps n b
    jumps-second = jumps-by n b (Test test a b) look (Contains-append_right (a ∷ []) (b ∷ []) b (Contains-push [] b))

    test-good : (c : ℕ) → Contains (a ∷ b ∷ []) c → Good n c
    test-good c h = elim (contains-cases a (b ∷ []) c h) [
      | inl e ↦ subst (λ x. Good n x) e to_first
      | inr t ↦ subst (λ x. Good n x) (contains-one b c t) to_second
    ]

    if-good : (i : ℕ) (block : GraphBlock) (c : ℕ) → slice_get (Test test a b ∷ (xs ++ ys)) i ≡ Some block → Contains (jumps block) c → Good (n + i) c
    if-good zero block c e j =
        let same : Test test a b ≡ block = cc in
        let here : n ≡ n + 0 = omega arith in
        subst (λ x. Good x c) here (test-good c (rw (← same) at j))
    if-good (suc i) block c e j = elim (parted (λ o. o ≡ Some block) xs ys i e) [
      | inl l ↦ let same : n + 1 + i ≡ n + suc i = omega arith in subst (λ x. Good x c) same (one.good i block c l.1 j)
      | inr l ↦
          let same : n + 1 + k + l.0 ≡ n + suc i = let q = l.1 in omega (arith, q, long) in
          subst (λ x. Good x c) same (two.good l.0 block c l.2 j)
    ]

    first-left : first_on ≡ true → (n ≡ after) ⊎ Left n (n + (1 + k + m)) after
    first-left e = elim (one.left e) [
      | inl q ↦ inr (n, omega arith, omega arith, subst (λ x. Jumps n x) q jumps-first)
      | inr r ↦ inr (r.0, (let l = r.1 in omega (arith, l)), (let l = r.2 in omega (arith, l)), r.3)
    ]

    second-left : second_on ≡ true → (n ≡ after) ⊎ Left n (n + (1 + k + m)) after
    second-left e = elim (two.left e) [
      | inl q ↦ inr (n, omega arith, omega arith, subst (λ x. Jumps n x) q jumps-second)
      | inr r ↦ inr (r.0, (let l = r.1 in omega (arith, l)), (let l = r.2 in omega (arith, l)), r.3)
    ]

    if-left : (x y : Bool) → x ≡ first_on → y ≡ second_on → (x || y) ≡ true → (n ≡ after) ⊎ Left n (n + (1 + k + m)) after
    if-left true y p q e = first-left (sym p)
    if-left false true p q e = second-left (sym q)
    if-left false false p q e = cc

    if-laws : Laws n (Test test a b ∷ (xs ++ ys)) n (1 + k + m) after (first_on || second_on)
    if-laws = record { good = if-good; left = if-left first_on second_on refl refl }

  -- a test, and the part from whose end a jump leads back to it
  module _ (test : TypedExpr) (a : ℕ) (xs : List GraphBlock) (n k after : ℕ) (on : Bool)
      (look : slice_get g.blocks n ≡ Some (Test test a after)) (to_first : Good n a) (behind : After n (n + (1 + k)) after)
      (one : Laws a xs (n + 1) k n on) where
    while-jumps : Jumps n after
    while-jumps = jumps-by n after (Test test a after) look (Contains-append_right (a ∷ []) (after ∷ []) after (Contains-push [] after))

    while-test : (c : ℕ) → Contains (a ∷ after ∷ []) c → Good n c
    while-test c h = elim (contains-cases a (after ∷ []) c h) [
      | inl e ↦ subst (λ x. Good n x) e to_first
      | inr t ↦ subst (λ x. Good n x) (contains-one after c t) (behind n (omega arith) (omega arith) while-jumps)
    ]

    while-good : (i : ℕ) (block : GraphBlock) (c : ℕ) → slice_get (Test test a after ∷ xs) i ≡ Some block → Contains (jumps block) c → Good (n + i) c
    while-good zero block c e j =
        let same : Test test a after ≡ block = cc in
        let here : n ≡ n + 0 = omega arith in
        subst (λ x. Good x c) here (while-test c (rw (← same) at j))
    while-good (suc i) block c e j =
        let same : n + 1 + i ≡ n + suc i = omega arith in subst (λ x. Good x c) same (one.good i block c e j)

    while-laws : Laws n (Test test a after ∷ xs) n (1 + k) after true
    while-laws = record { good = while-good; left = λ e. inr (n, omega arith, omega arith, while-jumps) }

  after-within : (from to from' to' c : ℕ) → from ≤ from' → to' ≤ to → After from to c → After from' to' c
  after-within from to from' to' c l h k b p q j = k b (omega (arith, l, p)) (omega (arith, q, h)) j

  out-within : (from to from' to' : ℕ) (exits : Exits) → from ≤ from' → to' ≤ to → Out from to exits → Out from' to' exits
  out-within from to from' to' exits l h o =
      let d : to ≤ exits.done = o.done in
      record {
        done = omega (arith, d, h);
        behind = after-within from to from' to' exits.behind l h o.behind;
        test = after-within from to from' to' exits.test l h o.test;
      }

  behind-placed : (xs ys : List GraphBlock) (n k m : ℕ) (a : Bool) → length xs ≡ k → a ≡ true
      → Placed g.blocks n (xs ++ (if a then ys else replicate m Unreached)) → Placed g.blocks (n + k) ys
  behind-placed xs ys n k m true long e h = placed-right g.blocks n xs ys k (sym long) h
  behind-placed xs ys n k m false long e h = cc

  -- what follows a statement is entered from it
  mid-entered : (start mid n k m : ℕ) → (start ≡ mid) ⊎ Left n (n + k) mid → Entered n (n + (k + m)) start → Entered (n + k) (n + k + m) mid
  mid-entered start mid n k m (inl e) h =
      entered-within n (n + (k + m)) (n + k) (n + k + m) mid (omega arith) (omega arith) (subst (λ x. Entered n (n + (k + m)) x) e h)
  mid-entered start mid n k m (inr r) h = inr (r.0, inl r.2, r.3)

  mutual
    unfolding blocks_of size may_continue

    stmt-laws : (s : TypedStmt) (n after : ℕ) (exits : Exits) → Placed g.blocks n (blocks_of s n after exits) → Out n (n + size s) exits
        → After n (n + size s) after → Entered n (n + size s) (target s n exits)
        → Laws (target s n exits) (blocks_of s n after exits) n (size s) after (may_continue s)
    stmt-laws (Declare at v kind value) n after exits h l behind into = act-laws (Declare at v kind value) n after (placed-head g.blocks n _ [] h) behind
    stmt-laws (Assign at v value) n after exits h l behind into = act-laws (Assign at v value) n after (placed-head g.blocks n _ [] h) behind
    stmt-laws (SetField at left k field e) n after exits h l behind into = act-laws (SetField at left k field e) n after (placed-head g.blocks n _ [] h) behind
    stmt-laws (Write at place e) n after exits h l behind into = act-laws (Write at place e) n after (placed-head g.blocks n _ [] h) behind
    stmt-laws (Call at f args) n after exits h l behind into = act-laws (Call at f args) n after (placed-head g.blocks n _ [] h) behind
    stmt-laws (If' at test _ first _ second) n after exits h l behind into =
        let k = row_size first in
        let m = row_size second in
        let a = row_entry first (n + 1) after exits in
        let b = row_entry second (n + 1 + k) after exits in
        let xs = row_blocks first (n + 1) after exits in
        let ys = row_blocks second (n + 1 + k) after exits in
        let long = row-length first (n + 1) after exits in
        let look = placed-head g.blocks n (Test test a b) (xs ++ ys) h in
        let parts = placed-tail g.blocks n (Test test a b) (xs ++ ys) h in
        let to_a = jumps-by n a (Test test a b) look (Contains-append_left (a ∷ []) (b ∷ []) a (Contains-push [] a)) in
        let to_b = jumps-by n b (Test test a b) look (Contains-append_right (a ∷ []) (b ∷ []) b (Contains-push [] b)) in
        let d : n + (1 + k + m) ≤ exits.done = l.done in
        let one = row-laws first (n + 1) after exits (placed-left g.blocks (n + 1) xs ys parts)
        (out-within n (n + (1 + k + m)) (n + 1) (n + 1 + k) exits (omega arith) (omega arith) l)
        (after-within n (n + (1 + k + m)) (n + 1) (n + 1 + k) after (omega arith) (omega arith) behind)
        (inr (n, inl (omega arith), to_a)) in
        let two = row-laws second (n + 1 + k) after exits (placed-right g.blocks (n + 1) xs ys k (sym long) parts)
        (out-within n (n + (1 + k + m)) (n + 1 + k) (n + 1 + k + m) exits (omega arith) (omega arith) l)
        (after-within n (n + (1 + k + m)) (n + 1 + k) (n + 1 + k + m) after (omega arith) (omega arith) behind)
        (inr (n, inl (omega arith), to_b)) in
        let good_a = row-good first (n + 1) after exits n (omega arith) (omega (arith, d))
        (λ e. behind n (omega arith) (omega arith) (subst (λ x. Jumps n x) e to_a))
        (λ e. l.behind n (omega arith) (omega arith) (subst (λ x. Jumps n x) e to_a))
        (λ e. l.test n (omega arith) (omega arith) (subst (λ x. Jumps n x) e to_a)) in
        let good_b = row-good second (n + 1 + k) after exits n (omega arith) (omega (arith, d))
        (λ e. behind n (omega arith) (omega arith) (subst (λ x. Jumps n x) e to_b))
        (λ e. l.behind n (omega arith) (omega arith) (subst (λ x. Jumps n x) e to_b))
        (λ e. l.test n (omega arith) (omega arith) (subst (λ x. Jumps n x) e to_b)) in
        if-laws test a b xs ys n k m after (row_may_continue first) (row_may_continue second) long look good_a good_b one two
    stmt-laws (While' at test _ body) n after exits h l behind into =
        let inside : Exits = in_loop exits n after in
        let k = row_size body in
        let a = row_entry body (n + 1) n inside in
        let xs = row_blocks body (n + 1) n inside in
        let look = placed-head g.blocks n (Test test a after) xs h in
        let part = placed-tail g.blocks n (Test test a after) xs h in
        let to_a = jumps-by n a (Test test a after) look (Contains-append_left (a ∷ []) (after ∷ []) a (Contains-push [] a)) in
        let back : After n (n + (1 + k)) n = λ b p q j. back-good n (n + (1 + k)) n b p q j into in
        let d : n + (1 + k) ≤ exits.done = l.done in
        let one = row-laws body (n + 1) n inside part
        (record {
          done = omega (arith, d);
          behind = after-within n (n + (1 + k)) (n + 1) (n + 1 + k) after (omega arith) (omega arith) behind;
          test = after-within n (n + (1 + k)) (n + 1) (n + 1 + k) n (omega arith) (omega arith) back;
        })
        (after-within n (n + (1 + k)) (n + 1) (n + 1 + k) n (omega arith) (omega arith) back)
        (inr (n, inl (omega arith), to_a)) in
        let good_a = row-good body (n + 1) n inside n (omega arith) (omega (arith, d))
        (λ e. back n (omega arith) (omega arith) (subst (λ x. Jumps n x) e to_a))
        (λ e. behind n (omega arith) (omega arith) (subst (λ x. Jumps n x) e to_a))
        (λ e. back n (omega arith) (omega arith) (subst (λ x. Jumps n x) e to_a)) in
        while-laws test a xs n k after (row_may_continue body) look good_a behind one
    stmt-laws (Return at) n after exits h l behind into = return-laws exits.done n after
    stmt-laws (Break at) n after exits h l behind into = return-laws exits.behind n after
    stmt-laws (Continue at) n after exits h l behind into = return-laws exits.test n after

    row-laws : {m : _} (r : Row_of-TypedStmt m) (n after : ℕ) (exits : Exits) → Placed g.blocks n (row_blocks r n after exits) → Out n (n + row_size r) exits
        → After n (n + row_size r) after → Entered n (n + row_size r) (row_entry r n after exits)
        → Laws (row_entry r n after exits) (row_blocks r n after exits) n (row_size r) after (row_may_continue r)
    row-laws end_of-TypedStmt n after exits h l behind into = end-laws n after
    row-laws (more_of-TypedStmt s rest) n after exits h l behind into =
        let k = size s in
        let m = row_size rest in
        let mid = row_entry rest (n + k) after exits in
        let xs = blocks_of s n mid exits in
        let ys = row_blocks rest (n + k) after exits in
        let long = blocks-length s n mid exits in
        let here = placed-left g.blocks n xs (if may_continue s then ys else replicate m Unreached) h in
        let d : n + (k + m) ≤ exits.done = l.done in
        let to_mid : After n (n + k) mid = λ b p q j. row-good rest (n + k) after exits b q (omega (arith, d))
        (λ e. behind b p (omega (arith, q)) (subst (λ x. Jumps b x) e j))
        (λ e. l.behind b p (omega (arith, q)) (subst (λ x. Jumps b x) e j))
        (λ e. l.test b p (omega (arith, q)) (subst (λ x. Jumps b x) e j)) in
        let one = stmt-laws s n mid exits here (out-within n (n + (k + m)) n (n + k) exits (omega arith) (omega arith) l) to_mid
        (entered-within n (n + (k + m)) n (n + k) (target s n exits) (omega arith) (omega arith) into) in
        cons-laws (target s n exits) mid xs ys n k m after (may_continue s) (row_may_continue rest) long one
        (λ e. row-laws rest (n + k) after exits (behind-placed xs ys n k m (may_continue s) long e h)
        (out-within n (n + (k + m)) (n + k) (n + k + m) exits (omega arith) (omega arith) l)
        (after-within n (n + (k + m)) (n + k) (n + k + m) after (omega arith) (omega arith) behind)
        (mid-entered (target s n exits) mid n k m (one.left e) into))

  all-laws : (ss : List TypedStmt) (n after : ℕ) (exits : Exits) → Placed g.blocks n (all_blocks ss n after exits) → Out n (n + sizes ss) exits
      → After n (n + sizes ss) after → Entered n (n + sizes ss) (entry ss n after exits)
      → Laws (entry ss n after exits) (all_blocks ss n after exits) n (sizes ss) after (all_may_continue ss)
  all-laws ss n after exits h l behind into =
      let r = hidden-the_row-TypedStmt-0 ss in
      rw (← row-entry, ← row-blocks, ← row-may_continue, ← row-sizes)
      (row-laws r n after exits (rw row-blocks h) (rw row-sizes l) (rw row-sizes behind) (rw (row-sizes, row-entry) into))

  -- a core function
  module _ (body : List TypedStmt) (n : ℕ) (placed : Placed g.blocks n (core_blocks body n)) (begins : Contains (firsts g.functions) (first_of body n)) where
    stmts-laws : Laws (first_of body n) (all_blocks body n (end_of body n) (no_loop (end_of body n))) n (sizes body) (end_of body n) (all_may_continue body)
    stmts-laws =
        let done = end_of body n in
        let here = placed-left g.blocks n (all_blocks body n done (no_loop done)) (Done ∷ []) placed in
        all-laws body n done (no_loop done) here (record { done = omega arith; behind = λ b p q j. inl q; test = λ b p q j. inl q }) (λ b p q j. inl q) (inl begins)

    none-after : (j : ℕ) (block : GraphBlock) (c : ℕ) → slice_get (Done ∷ []) j ≡ Some block → Contains (jumps block) c → ⊥
    none-after zero block c e h =
        let same : Done ≡ block = cc in contains-none c (subst (λ x. Contains (jumps x) c) (sym same) h)
    none-after (suc j) block c e h = cc

    core-good : (i : ℕ) (block : GraphBlock) (c : ℕ) → slice_get (core_blocks body n) i ≡ Some block → Contains (jumps block) c → Good (n + i) c
    core-good i block c e h = elim (parted (λ o. o ≡ Some block) (all_blocks body n (end_of body n) (no_loop (end_of body n))) (Done ∷ []) i e) [
      | inl l ↦ stmts-laws.good i block c l.1 h
      | inr l ↦ absurd (none-after l.0 block c l.2 h)
    ]

forward-only : (g : Graph) (b c : ℕ) → (b < c) ⊎ (is_entry g c ≡ true) → is_entry g c ≡ false → b < c
forward-only g b c (inl l) e = l
forward-only g b c (inr q) e = cc

forward-at : (p : Typed) (o : Option GraphBlock) (b c : ℕ) → slice_get (graph_of p).blocks b ≡ o → Contains (jumps_at o) c
    → is_entry (graph_of p) c ≡ false → b < c
forward-at p None b c e h q = absurd (contains-none c h)
forward-at p (Some block) b c e h q =
    let o = owner-of p b block e in
    let good = core-good (graph_of p) o.body o.start o.placed o.first o.i block c o.item h in
    forward-only (graph_of p) b c (subst (λ x. (x < c) ⊎ (is_entry (graph_of p) c ≡ true)) (sym o.at) good) q

pub graph-forward : (p : Typed) → IsForward (graph_of p)
graph-forward p b c h q = forward-at p (slice_get (graph_of p).blocks b) b c refl h q
