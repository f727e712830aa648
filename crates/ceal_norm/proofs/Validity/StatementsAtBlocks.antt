-- Where a run is in the blocks of a function: the statements still to do are well typed there, and a jump leads to
-- others.
use Rattle.std.proofs.Common.{◌≡◌, ℕ, ◌+◌, ◌≤◌, Bool, true, false, ◌||◌, Some, List, [], ◌∷◌, ◌++◌, slice_get, Contains, All, refl, sym, ap, ◌∙◌, subst, arith}
use Rattle.std.proofs.lemmas.List.Elements.{All-nil, All-cons, All-head, All-tail, Contains-append_right}
use Rattle.ceal_base.specs.Usage.{CoreUsage, RowCoreUsage}
use Rattle.ceal_base.specs.WellTyped.{Context, ExprTyped, StmtTyped, RowTyped, StmtsTyped, seen_after, declarations}
use Rattle.ceal_base.specs.declared.kind.Kind.TheVariants.{Int}
use Rattle.ceal_base.specs.declared.typed.TypedExpr.{TypedExpr}
use Rattle.ceal_base.specs.declared.typed.TypedFunction.{TypedFunction}
use Rattle.ceal_base.specs.declared.typed.TypedStmt.{TypedStmt, Row_of-TypedStmt, end_of-TypedStmt, more_of-TypedStmt, If', While', out-TypedStmt, roll-TypedStmt, roll-out-TypedStmt}
use Rattle.ceal_base.specs.declared.typed.TypedStmt.TheBlock.{hidden-the_row-TypedStmt-0, shape-the_row-TypedStmt-0}
use Rattle.ceal_base.specs.declared.typed.TypedStmt.TheOpen.{TypedStmt-F, Declare as OpenDeclare, Assign as OpenAssign}
use Rattle.ceal_base.specs.declared.typed.TypedStmt.TheOpen.{SetField as OpenSetField, Write as OpenWrite}
use Rattle.ceal_base.specs.declared.typed.TypedStmt.TheOpen.{Call as OpenCall, If as OpenIf, While as OpenWhile}
use Rattle.ceal_base.specs.declared.typed.TypedStmt.TheOpen.{Return as OpenReturn, Break as OpenBreak}
use Rattle.ceal_base.specs.declared.typed.TypedStmt.TheOpen.{Continue as OpenContinue}
use Rattle.ceal_base.specs.declared.typed.TypedStmt.TheVariants.{Declare, Assign, SetField, Write, Call, Return, Break}
use Rattle.ceal_base.specs.declared.typed.TypedStmt.TheVariants.{Continue, rolls-Declare, rolls-Assign, rolls-SetField}
use Rattle.ceal_base.specs.declared.typed.TypedStmt.TheVariants.{rolls-Write, rolls-Call, rolls-If, rolls-While}
use Rattle.ceal_base.specs.declared.typed.TypedStmt.TheVariants.{rolls-Return, rolls-Break, rolls-Continue}
use Rattle.ceal_base.specs.declared.typed.TypedStmt.TheViews.{If, While}
use Rattle.ceal_flow.specs.Blocks.{size, sizes, may_continue, all_may_continue, in_loop, target, entry, blocks_of, all_blocks}
use Rattle.ceal_flow.specs.Laws.{IsSimple}
use Rattle.ceal_flow.specs.declared.block.GraphBlock.{GraphBlock}
use Rattle.ceal_flow.specs.declared.block.GraphBlock.TheVariants.{Done, Test, Act}
use Rattle.ceal_flow.specs.declared.exits.Exits.{Exits}
use Rattle.ceal_flow.proofs.BlockSteps.{on-declare, on-assign, on-write, on-call, on-if, on-while, on-nil, on-cons}
use Rattle.ceal_flow.proofs.BlockSteps.{blocks-declare, blocks-assign, blocks-write, blocks-call, blocks-if}
use Rattle.ceal_flow.proofs.BlockSteps.{blocks-while, all-length, sizes-cons, size-if, size-while}
use Rattle.ceal_flow.proofs.Placing.{Placed, placed-head, placed-left, placed-right, placed-tail, placed-first, placed-rest}

-- each variable of the first list is in the second
abbrev pub Within : List ℕ → List ℕ → Type 0
Within inner seen = (v : ℕ) → Contains inner v → Contains seen v

within-same : (seen : List ℕ) → Within seen seen
within-same seen v h = h

pub seen-more : (s : TypedStmt) (seen : List ℕ) → Within seen (seen_after seen s)
seen-more (Declare at n kind value) seen v h = Contains-append_right (n ∷ []) seen v h
seen-more (Assign at n value) seen v h = h
seen-more (SetField at left k field e) seen v h = h
seen-more (Write at place e) seen v h = h
seen-more (Call at f args) seen v h = h
seen-more (If' at test _ first _ second) seen v h = h
seen-more (While' at test _ body) seen v h = h
seen-more (Return at) seen v h = h
seen-more (Break at) seen v h = h
seen-more (Continue at) seen v h = h

or-right : (b : Bool) → (b || true) ≡ true
or-right true = refl
or-right false = refl

-- what keeps the rules outside of a loop keeps them in one
mutual
  unfolding CoreUsage

  in-loop : (fs : List TypedFunction) (s : TypedStmt) → CoreUsage fs false s → CoreUsage fs true s
  in-loop fs (Declare at n kind value) u = u
  in-loop fs (Assign at n value) u = u
  in-loop fs (SetField at left k field e) u = u
  in-loop fs (Write at place e) u = u
  in-loop fs (Call at f args) u = u
  in-loop fs (If' at test _ first _ second) u = (row-in-loop fs first u.0, row-in-loop fs second u.1)
  in-loop fs (While' at test _ body) u = u
  in-loop fs (Return at) u = u
  in-loop fs (Break at) u = refl
  in-loop fs (Continue at) u = refl

  row-in-loop : (fs : List TypedFunction) {n : _} (r : Row_of-TypedStmt n) → RowCoreUsage fs false r → RowCoreUsage fs true r
  row-in-loop fs end_of-TypedStmt u = u
  row-in-loop fs (more_of-TypedStmt s rest) u = (in-loop fs s u.0, row-in-loop fs rest u.1)

pub all-in-loop : (fs : List TypedFunction) (ss : List TypedStmt) → All (CoreUsage fs false) ss → All (CoreUsage fs true) ss
all-in-loop fs [] u = All-nil (CoreUsage fs true)
all-in-loop fs (s ∷ ss) u =
    All-cons (CoreUsage fs true) s ss (in-loop fs s (All-head (CoreUsage fs false) s ss u)) (all-in-loop fs ss (All-tail (CoreUsage fs false) s ss u))

module _ (fs : List TypedFunction) (c : Context) where
  row-usage : (xs : List TypedStmt) → RowCoreUsage fs true (hidden-the_row-TypedStmt-0 xs) → All (CoreUsage fs true) xs
  unfolding CoreUsage hidden-the_row-TypedStmt-0 shape-the_row-TypedStmt-0 denote.Hole.Carrier.hidden
  row-usage [] h = All-nil (CoreUsage fs true)
  row-usage (x ∷ xs) h = All-cons (CoreUsage fs true) x xs h.0 (row-usage xs h.1)

  pub row-typed : (seen : List ℕ) (next : ℕ) (xs : List TypedStmt) → RowTyped c seen next (hidden-the_row-TypedStmt-0 xs) → StmtsTyped c seen next xs
  unfolding StmtTyped StmtsTyped hidden-the_row-TypedStmt-0 shape-the_row-TypedStmt-0 denote.Hole.Carrier.hidden
  row-typed seen next [] h = h
  row-typed seen next (x ∷ xs) h = (h.0, row-typed (seen_after seen x) (next + declarations x) xs h.1)

  module _ (blocks : List GraphBlock) (start done : ℕ) where
    -- the statements still to do are at a block, where these variables are in scope: they are parts of bodies, each of
    -- which is where the part before it leads, and there are other statements where jumps lead out. After a part that
    -- does not continue anything may follow
    pub data Stands : List ℕ → ℕ → Type 0 where
      ends : {seen : List ℕ} {at : ℕ} → at ≡ done → Stands seen at
      goes : {seen : List ℕ} {at : ℕ} → (ss : List TypedStmt) (n after next : ℕ) (exits : Exits) (outer loop : List ℕ) → at ≡ entry ss n after exits
          → All (CoreUsage fs true) ss → StmtsTyped c seen next ss → Placed blocks n (all_blocks ss n after exits) → start ≤ n → n + sizes ss ≤ done
          → Within outer seen → (all_may_continue ss ≡ true → Stands outer after)
          → exits.done ≡ done → Within loop seen → Stands loop exits.behind → Stands loop exits.test → Stands seen at

    -- the first statement, what follows it where it continues, and what is where jumps lead out
    record Front (s : TypedStmt) (seen : List ℕ) (at : ℕ) : Type 0 where
      n : ℕ
      after : ℕ
      nx : ℕ
      exits : Exits
      here : at ≡ target s n exits
      usage : CoreUsage fs true s
      typed : StmtTyped c seen nx s
      placed : Placed blocks n (blocks_of s n after exits)
      low : start ≤ n
      high : n + size s ≤ done
      self : Stands seen at
      next : may_continue s ≡ true → Stands (seen_after seen s) after
      final : exits.done ≡ done
      loop : List ℕ
      enclosed : Within loop seen
      behind : Stands loop exits.behind
      test : Stands loop exits.test

    module _ (over-there : slice_get blocks done ≡ Some Done) (room : start ≤ done) where
      abbrev Inside : ℕ → Type 0
      Inside at = (start ≤ at) × (at ≤ done)

      target-within : (s : TypedStmt) (n at : ℕ) (exits : Exits) → at ≡ target s n exits → start ≤ n → n ≤ done → exits.done ≡ done → Inside exits.behind → Inside exits.test → Inside at
      target-within (Declare sp v kind value) n at exits e low high d b t = (omega (arith, e, low), omega (arith, e, high))
      target-within (Assign sp v value) n at exits e low high d b t = (omega (arith, e, low), omega (arith, e, high))
      target-within (SetField sp left k field x) n at exits e low high d b t = (omega (arith, e, low), omega (arith, e, high))
      target-within (Write sp place x) n at exits e low high d b t = (omega (arith, e, low), omega (arith, e, high))
      target-within (Call sp f args) n at exits e low high d b t = (omega (arith, e, low), omega (arith, e, high))
      target-within (If' sp test _ first _ second) n at exits e low high d b t = (omega (arith, e, low), omega (arith, e, high))
      target-within (While' sp test _ body) n at exits e low high d b t = (omega (arith, e, low), omega (arith, e, high))
      target-within (Return sp) n at exits e low high d b t = subst (λ x. Inside x) (sym (e ∙ d)) (room, omega arith)
      target-within (Break sp) n at exits e low high d b t = subst (λ x. Inside x) (sym e) b
      target-within (Continue sp) n at exits e low high d b t = subst (λ x. Inside x) (sym e) t

      -- a block of the function's
      pub within-blocks : (seen : List ℕ) (at : ℕ) → Stands seen at → (start ≤ at) × (at ≤ done)
      within-blocks seen at (ends e) = (omega (arith, e, room), omega (arith, e))
      within-blocks seen at (goes [] n after next exits outer loop e usage typed placed low high within stands final enclosed behind test) =
          subst (λ x. Inside x) (sym e) (within-blocks outer after (stands on-nil))
      within-blocks seen at (goes (s ∷ ss) n after next exits outer loop e usage typed placed low high within stands final enclosed behind test) =
          target-within s n at exits e low (omega (arith, high)) final (within-blocks loop exits.behind behind) (within-blocks loop exits.test test)

      -- what is at a block
      pub data View (seen : List ℕ) (at : ℕ) : Type 0 where
        over : slice_get blocks at ≡ Some Done → View seen at
        tests : (test : TypedExpr) (a b : ℕ) (inner : List ℕ) → slice_get blocks at ≡ Some (Test test a b) → Within inner seen
            → ExprTyped c inner test → test.kind ≡ Some Int → Stands inner a → Stands inner b → View seen at
        acts : (s : TypedStmt) (next nx : ℕ) (inner : List ℕ) → slice_get blocks at ≡ Some (Act s next) → Within inner seen
            → StmtTyped c inner nx s → CoreUsage fs true s → IsSimple s → Stands (seen_after inner s) next → View seen at

      -- what is at a block is there where more variables are in scope
      view-within : (inner seen : List ℕ) (b at : ℕ) → at ≡ b → Within inner seen → View inner b → View seen at
      view-within inner seen b at e w (over look) = over (ap (slice_get blocks) e ∙ look)
      view-within inner seen b at e w (tests test x y more look within typed int one two) =
          tests test x y more (ap (slice_get blocks) e ∙ look) (λ v h. w v (within v h)) typed int one two
      view-within inner seen b at e w (acts s next nx more look within typed usage simple st) =
          acts s next nx more (ap (slice_get blocks) e ∙ look) (λ v h. w v (within v h)) typed usage simple st

      first-block : (s : TypedStmt) (seen : List ℕ) (at : ℕ) (fr : Front s seen at) (b : GraphBlock) (bs : List GraphBlock)
          → target s fr.n fr.exits ≡ fr.n → blocks_of s fr.n fr.after fr.exits ≡ b ∷ bs → slice_get blocks at ≡ Some b
      first-block s seen at fr b bs t e = ap (slice_get blocks) (fr.here ∙ t) ∙ placed-head blocks fr.n b bs (rw e at fr.placed)

      view-of : (s : TypedStmt) (o : TypedStmt-F TypedStmt) (seen : List ℕ) (at : ℕ) → out-TypedStmt s ≡ o → (fr : Front s seen at)
          → View fr.loop fr.exits.behind → View fr.loop fr.exits.test → View seen at
      unfolding CoreUsage StmtTyped
      view-of s (OpenDeclare sp v kind value) seen at e fr vb vt =
          let is : s ≡ Declare sp v kind value = sym (roll-out-TypedStmt s) ∙ ap roll-TypedStmt e ∙ rolls-Declare sp v kind value in
          let are : blocks_of s fr.n fr.after fr.exits ≡ Act (Declare sp v kind value) fr.after ∷ [] = rw is (blocks-declare fr.n fr.after fr.exits sp v kind value) in
          acts (Declare sp v kind value) fr.after fr.nx seen (first-block s seen at fr _ _ (rw is refl) are) (within-same seen) (rw is at fr.typed) (rw is at fr.usage) tt
          (subst (λ x. Stands (seen_after seen x) fr.after) is (fr.next (rw is (on-declare sp v kind value))))
      view-of s (OpenAssign sp v value) seen at e fr vb vt =
          let is : s ≡ Assign sp v value = sym (roll-out-TypedStmt s) ∙ ap roll-TypedStmt e ∙ rolls-Assign sp v value in
          let are : blocks_of s fr.n fr.after fr.exits ≡ Act (Assign sp v value) fr.after ∷ [] = rw is (blocks-assign fr.n fr.after fr.exits sp v value) in
          acts (Assign sp v value) fr.after fr.nx seen (first-block s seen at fr _ _ (rw is refl) are) (within-same seen) (rw is at fr.typed) (rw is at fr.usage) tt
          (subst (λ x. Stands (seen_after seen x) fr.after) is (fr.next (rw is (on-assign sp v value))))
      view-of s (OpenSetField sp left k field x) seen at e fr vb vt =
          let is : s ≡ SetField sp left k field x = sym (roll-out-TypedStmt s) ∙ ap roll-TypedStmt e ∙ rolls-SetField sp left k field x in
          absurd (rw is at fr.usage)
      view-of s (OpenWrite sp place x) seen at e fr vb vt =
          let is : s ≡ Write sp place x = sym (roll-out-TypedStmt s) ∙ ap roll-TypedStmt e ∙ rolls-Write sp place x in
          let are : blocks_of s fr.n fr.after fr.exits ≡ Act (Write sp place x) fr.after ∷ [] = rw is (blocks-write fr.n fr.after fr.exits sp place x) in
          acts (Write sp place x) fr.after fr.nx seen (first-block s seen at fr _ _ (rw is refl) are) (within-same seen) (rw is at fr.typed) (rw is at fr.usage) tt
          (subst (λ x. Stands (seen_after seen x) fr.after) is (fr.next (rw is (on-write sp place x))))
      view-of s (OpenCall sp f args) seen at e fr vb vt =
          let is : s ≡ Call sp f args = sym (roll-out-TypedStmt s) ∙ ap roll-TypedStmt e ∙ rolls-Call sp f args in
          let are : blocks_of s fr.n fr.after fr.exits ≡ Act (Call sp f args) fr.after ∷ [] = rw is (blocks-call fr.n fr.after fr.exits sp f args) in
          acts (Call sp f args) fr.after fr.nx seen (first-block s seen at fr _ _ (rw is refl) are) (within-same seen) (rw is at fr.typed) (rw is at fr.usage) tt
          (subst (λ x. Stands (seen_after seen x) fr.after) is (fr.next (rw is (on-call sp f args))))
      view-of s (OpenIf sp test first second) seen at e fr vb vt =
          let is : s ≡ If sp test first second = sym (roll-out-TypedStmt s) ∙ ap roll-TypedStmt e ∙ rolls-If sp test first second in
          let k = fr.n + 1 in
          let other = k + sizes first in
          let are : blocks_of s fr.n fr.after fr.exits ≡ Test test (entry first k fr.after fr.exits) (entry second other fr.after fr.exits)
          ∷ (all_blocks first k fr.after fr.exits ++ all_blocks second other fr.after fr.exits) =
          rw is (blocks-if fr.n fr.after fr.exits sp test first second) in
          let usage = rw is at fr.usage in
          let typed = rw is at fr.typed in
          let parts = placed-tail blocks fr.n _ _ (rw are at fr.placed) in
          let long : size s ≡ 1 + sizes first + sizes second = rw is (size-if sp test first second) in
          let low = fr.low in
          let high = fr.high in
          let then : may_continue s ≡ true → Stands seen fr.after = λ on. subst (λ x. Stands (seen_after seen x) fr.after) is (fr.next on) in
          let one : Stands seen (entry first k fr.after fr.exits) =
          goes first k fr.after fr.nx fr.exits seen fr.loop refl (row-usage first usage.0) (row-typed seen fr.nx first typed.2)
          (placed-left blocks k (all_blocks first k fr.after fr.exits) (all_blocks second other fr.after fr.exits) parts) (omega (arith, low)) (omega (arith, high, long))
          (within-same seen) (λ on. then (rw (is, on-if, on) refl)) fr.final fr.enclosed fr.behind fr.test in
          let two : Stands seen (entry second other fr.after fr.exits) =
          goes second other fr.after _ fr.exits seen fr.loop refl (row-usage second usage.1) (row-typed seen _ second typed.3)
          (placed-right blocks k (all_blocks first k fr.after fr.exits) (all_blocks second other fr.after fr.exits) (sizes first) (sym (all-length first k fr.after fr.exits)) parts)
          (omega (arith, low)) (omega (arith, high, long))
          (within-same seen) (λ on. then (rw (is, on-if, on) (or-right (all_may_continue first)))) fr.final fr.enclosed fr.behind fr.test in
          tests test (entry first k fr.after fr.exits) (entry second other fr.after fr.exits) seen (first-block s seen at fr _ _ (rw is refl) are) (within-same seen) typed.0 typed.1 one two
      view-of s (OpenWhile sp test body) seen at e fr vb vt =
          let is : s ≡ While sp test body = sym (roll-out-TypedStmt s) ∙ ap roll-TypedStmt e ∙ rolls-While sp test body in
          let inside : Exits = in_loop fr.exits fr.n fr.after in
          let are : blocks_of s fr.n fr.after fr.exits ≡ Test test (entry body (fr.n + 1) fr.n inside) fr.after ∷ all_blocks body (fr.n + 1) fr.n inside =
          rw is (blocks-while fr.n fr.after fr.exits sp test body) in
          let usage = rw is at fr.usage in
          let typed = rw is at fr.typed in
          let part = placed-tail blocks fr.n _ _ (rw are at fr.placed) in
          let here : at ≡ fr.n = fr.here ∙ rw is refl in
          let long : size s ≡ 1 + sizes body = rw is (size-while sp test body) in
          let low = fr.low in
          let high = fr.high in
          let again : Stands seen fr.n = subst (λ i. Stands seen i) here fr.self in
          let behind : Stands seen fr.after = subst (λ x. Stands (seen_after seen x) fr.after) is (fr.next (rw is (on-while sp test body))) in
          let one : Stands seen (entry body (fr.n + 1) fr.n inside) =
          goes body (fr.n + 1) fr.n fr.nx inside seen seen refl (row-usage body usage) (row-typed seen fr.nx body typed.2) part (omega (arith, low)) (omega (arith, high, long))
          (within-same seen) (λ on. again) fr.final (within-same seen) behind again in
          tests test (entry body (fr.n + 1) fr.n inside) fr.after seen (first-block s seen at fr _ _ (rw is refl) are) (within-same seen) typed.0 typed.1 one behind
      view-of s (OpenReturn sp) seen at e fr vb vt =
          let is : s ≡ Return sp = sym (roll-out-TypedStmt s) ∙ ap roll-TypedStmt e ∙ rolls-Return sp in
          let there : at ≡ fr.exits.done = fr.here ∙ rw is refl in over (ap (slice_get blocks) (there ∙ fr.final) ∙ over-there)
      view-of s (OpenBreak sp) seen at e fr vb vt =
          let is : s ≡ Break sp = sym (roll-out-TypedStmt s) ∙ ap roll-TypedStmt e ∙ rolls-Break sp in
          let there : at ≡ fr.exits.behind = fr.here ∙ rw is refl in view-within fr.loop seen fr.exits.behind at there fr.enclosed vb
      view-of s (OpenContinue sp) seen at e fr vb vt =
          let is : s ≡ Continue sp = sym (roll-out-TypedStmt s) ∙ ap roll-TypedStmt e ∙ rolls-Continue sp in
          let there : at ≡ fr.exits.test = fr.here ∙ rw is refl in view-within fr.loop seen fr.exits.test at there fr.enclosed vt

      pub view : (seen : List ℕ) (at : ℕ) → Stands seen at → View seen at
      unfolding StmtsTyped
      view seen at (ends e) = over (ap (slice_get blocks) e ∙ over-there)
      view seen at (goes [] n after next exits outer loop e usage typed placed low high within stands final enclosed behind test) =
          view-within outer seen after at e within (view outer after (stands on-nil))
      view seen at (goes (s ∷ ss) n after next exits outer loop e usage typed placed low high within stands final enclosed behind test) =
          let long = sizes-cons s ss in
          view-of s (out-TypedStmt s) seen at refl
          (record {
            n = n;
            after = entry ss (n + size s) after exits;
            nx = next;
            exits = exits;
            here = e;
            usage = All-head (CoreUsage fs true) s ss usage;
            typed = typed.0;
            placed = placed-first blocks s ss n after exits placed;
            low = low;
            high = omega (arith, high, long);
            self = goes (s ∷ ss) n after next exits outer loop e usage typed placed low high within stands final enclosed behind test;
            next = λ on. goes ss (n + size s) after (next + declarations s) exits outer loop refl (All-tail (CoreUsage fs true) s ss usage) typed.1
                (placed-rest blocks s ss n after exits on placed) (omega (arith, low)) (omega (arith, high, long))
                (λ v h. seen-more s seen v (within v h)) (λ all. stands (rw (on-cons, on, all) refl)) final (λ v h. seen-more s seen v (enclosed v h)) behind test;
            final = final;
            loop = loop;
            enclosed = enclosed;
            behind = behind;
            test = test;
          })
          (view loop exits.behind behind) (view loop exits.test test)
