-- A run of the graph corresponds to a run of the source: what each frame has still to do is at the block of the
-- point that goes with it.
use Rattle.std.proofs.Common.{◌≡◌, ℕ, ◌+◌, Bool, true, false, List, [], ◌∷◌, ◌++◌, map, refl, sym, ◌∙◌, ap, subst, All}
use Rattle.std.proofs.lemmas.List.Elements.{All-head, All-tail}
use Rattle.ceal_base.specs.Usage.{CoreUsage}
use Rattle.ceal_base.specs.declared.typed.TypedFunction.{TypedFunction}
use Rattle.ceal_base.specs.declared.typed.TypedStmt.{TypedStmt, Declare, Assign, SetField, Write, Call, If', While', Return, Break, Continue}
use Rattle.ceal_mean.specs.Frame.{Item, Do, Again, statement_of}
use Rattle.ceal_mean.specs.Jumps.{next_turn, ready, ready_after_turn}
use Rattle.ceal_flow.specs.Blocks.{size, may_continue, all_may_continue, no_loop, target, entry, blocks_of, all_blocks}
use Rattle.ceal_flow.specs.declared.block.GraphBlock.{GraphBlock}
use Rattle.ceal_flow.specs.declared.exits.Exits.{Exits}
use Rattle.ceal_flow.proofs.BlockSteps.{on-cons, on-nil}
use Rattle.ceal_flow.proofs.Placing.{Placed, placed-first, placed-rest}

-- a statement that takes no step
abbrev pub is_jump : TypedStmt → Bool
is_jump (Return at) = true
is_jump (Break at) = true
is_jump (Continue at) = true
is_jump _ = false

target-stays : (s : TypedStmt) (n : ℕ) (exits : Exits) → is_jump s ≡ false → target s n exits ≡ n
target-stays (Declare at v kind value) n exits h = refl
target-stays (Assign at v value) n exits h = refl
target-stays (SetField at left k field x) n exits h = refl
target-stays (Write at place x) n exits h = refl
target-stays (Call at f args) n exits h = refl
target-stays (If' at test _ first _ second) n exits h = refl
target-stays (While' at test _ body) n exits h = refl
target-stays (Return at) n exits h = cc
target-stays (Break at) n exits h = cc
target-stays (Continue at) n exits h = cc

-- the first item is no jump
abbrev pub FirstSteps : List Item → Type 0
FirstSteps [] = Unit {0}
FirstSteps (item ∷ rest) = is_jump (statement_of item) ≡ false

module _ (fs : List TypedFunction) (blocks : List GraphBlock) (done : ℕ) where
  -- a statement is at block `n`, and leads to `after`
  pub record Placement (exits : Exits) (s : TypedStmt) (n after : ℕ) : Type 0 where
    pub looped : Bool
    pub usage : CoreUsage fs looped s
    pub placed : Placed blocks n (blocks_of s n after exits)

  -- the items still to do are at a block, from which jumps lead to these exits: each statement is where the one
  -- before it leads, and after one that does not continue anything may follow
  abbrev pub Stands : Exits → List Item → ℕ → Type 0
  Stands exits [] at = at ≡ done
  Stands exits (Do s ∷ rest) at =
      (n : ℕ) × (after : ℕ) × (at ≡ target s n exits) × Placement exits s n after × (may_continue s ≡ true → Stands exits rest after)
  Stands exits (Again w ∷ rest) at = at ≡ exits.test

  -- the loop of these exits, which is among those outside of it
  pub record Loop (exits : Exits) (w : TypedStmt) (outer : Exits) : Type 0 where
    pub ends : exits.done ≡ outer.done
    pub steps : is_jump w ≡ false
    pub stands : Placement outer w exits.test exits.behind

  -- the loops around the items are where the exits lead
  abbrev pub Around : Exits → List Item → Type 0
  Around exits [] = exits ≡ no_loop done
  Around exits (Do s ∷ rest) = Around exits rest
  Around exits (Again w ∷ rest) = (outer : Exits) × Loop exits w outer × Stands outer rest exits.behind × Around outer rest

  around-done : (exits : Exits) (items : List Item) → Around exits items → exits.done ≡ done
  around-done exits [] h = ap (λ (e : Exits). e.done) h
  around-done exits (Do s ∷ rest) h = around-done exits rest h
  around-done exits (Again w ∷ rest) h = let l = h.1 in l.ends ∙ around-done h.0 rest h.3

  -- a body before other items
  pub part-stands : (exits : Exits) (looped : Bool) (ss : List TypedStmt) (rest : List Item) (n after : ℕ) → All (CoreUsage fs looped) ss
      → Placed blocks n (all_blocks ss n after exits) → (all_may_continue ss ≡ true → Stands exits rest after) → Stands exits (map Do ss ++ rest) (entry ss n after exits)
  part-stands exits looped [] rest n after usage placed next = next on-nil
  part-stands exits looped (s ∷ ss) rest n after usage placed next = (
    n,
    entry ss (n + size s) after exits,
    refl,
    record { looped = looped; usage = All-head (CoreUsage fs looped) s ss usage; placed = placed-first blocks s ss n after exits placed },
    λ on. part-stands exits looped ss rest (n + size s) after (All-tail (CoreUsage fs looped) s ss usage) (placed-rest blocks s ss n after exits on placed)
        (λ all. next (rw (on-cons, on, all) refl)),
  )

  pub part-around : (exits : Exits) (ss : List TypedStmt) (rest : List Item) → Around exits rest → Around exits (map Do ss ++ rest)
  part-around exits [] rest h = h
  part-around exits (s ∷ ss) rest h = part-around exits ss rest h

  -- where the first item is no jump
  pub record Ready (items : List Item) (at : ℕ) : Type 0 where
    pub exits : Exits
    pub stands : Stands exits items at
    pub around : Around exits items
    pub first : FirstSteps items

  ended : (at : ℕ) → at ≡ done → Ready [] at
  ended at e = record { exits = no_loop done; stands = e; around = refl; first = tt }

  -- a jump is made from one block to the same
  turn-ready : (exits : Exits) (items : List Item) → Around exits items → Ready (next_turn items) exits.test
  turn-ready exits [] h = ended exits.test (ap (λ (e : Exits). e.test) h)
  turn-ready exits (Do s ∷ rest) h = turn-ready exits rest h
  turn-ready exits (Again w ∷ rest) h = let l = h.1 in record { exits = exits; stands = refl; around = h; first = l.steps }

  mutual
    unfolding ready

    pub all-ready : (exits : Exits) (items : List Item) (at : ℕ) → Stands exits items at → Around exits items → Ready (ready items) at
    all-ready exits [] at st h = ended at st
    all-ready exits (Do (Return sp) ∷ rest) at st h = ended at (st.2 ∙ around-done exits rest h)
    all-ready exits (Do (Break sp) ∷ rest) at st h = subst (λ b. Ready (ready_after_turn rest) b) (sym st.2) (behind-ready exits rest h)
    all-ready exits (Do (Continue sp) ∷ rest) at st h = subst (λ b. Ready (next_turn rest) b) (sym st.2) (turn-ready exits rest h)
    all-ready exits (Do (Declare sp v kind value) ∷ rest) at st h = record { exits = exits; stands = st; around = h; first = refl }
    all-ready exits (Do (Assign sp v value) ∷ rest) at st h = record { exits = exits; stands = st; around = h; first = refl }
    all-ready exits (Do (SetField sp left k field x) ∷ rest) at st h = record { exits = exits; stands = st; around = h; first = refl }
    all-ready exits (Do (Write sp place x) ∷ rest) at st h = record { exits = exits; stands = st; around = h; first = refl }
    all-ready exits (Do (Call sp f args) ∷ rest) at st h = record { exits = exits; stands = st; around = h; first = refl }
    all-ready exits (Do (If' sp test _ first _ second) ∷ rest) at st h = record { exits = exits; stands = st; around = h; first = refl }
    all-ready exits (Do (While' sp test _ body) ∷ rest) at st h = record { exits = exits; stands = st; around = h; first = refl }
    all-ready exits (Again w ∷ rest) at st h = let l = h.1 in record { exits = exits; stands = st; around = h; first = l.steps }

    behind-ready : (exits : Exits) (items : List Item) → Around exits items → Ready (ready_after_turn items) exits.behind
    behind-ready exits [] h = ended exits.behind (ap (λ (e : Exits). e.behind) h)
    behind-ready exits (Do s ∷ rest) h = behind-ready exits rest h
    behind-ready exits (Again w ∷ rest) h = all-ready h.0 rest exits.behind h.2 h.3

  -- the first statement, what follows it where it continues, and the loops around it
  pub record Front (s : TypedStmt) (rest : List Item) (at : ℕ) : Type 0 where
    pub exits : Exits
    pub n : ℕ
    pub after : ℕ
    pub here : at ≡ target s n exits
    pub stands : Placement exits s n after
    pub next : may_continue s ≡ true → Stands exits rest after
    pub around : Around exits rest

  pub front : (item : Item) (rest : List Item) (at : ℕ) → Ready (item ∷ rest) at → Front (statement_of item) rest at
  front (Do s) rest at r =
      let st = r.stands in
      record { exits = r.exits; n = st.0; after = st.1; here = st.2; stands = st.3; next = st.4; around = r.around }
  front (Again w) rest at r =
      let h = r.around in
      let l = h.1 in
      let k = h.2 in
      record {
        exits = h.0;
        n = r.exits.test;
        after = r.exits.behind;
        here = r.stands ∙ sym (target-stays w r.exits.test h.0 l.steps);
        stands = l.stands;
        next = λ on. k;
        around = h.3;
      }
