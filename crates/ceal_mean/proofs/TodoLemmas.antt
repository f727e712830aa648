-- The items of parts, and what jumps leave of them.
use Rattle.std.proofs.Common.{◌≡◌, List, [], ◌∷◌, ◌++◌, length, map, arith, refl, ◌∙◌, append_assoc, append-nil}
use Rattle.std.specs.Borrow.{Bor}
use Rattle.ceal_mean.specs.Frame.{Item, Do, Again}
use Rattle.ceal_mean.specs.Jumps.{next_turn, ready, ready_after_turn}
use Rattle.ceal_mean.specs.Todo.{items_of, joined}
use Rattle.ceal_mean.specs.declared.todo.Part.{Part}
use Rattle.ceal_mean.specs.declared.todo.Part.TheVariants.{Body, Turn}
use Rattle.ceal_base.specs.declared.fault.Span.{Span}
use Rattle.ceal_base.specs.declared.typed.TypedStmt.{TypedStmt, Declare, Assign, SetField, Write, Call, If', While', Return, Break, Continue}

pub joined-push : (ps : List Part) (p : Part) → joined (ps ++ p ∷ []) ≡ items_of p ++ joined ps
unfolding joined
joined-push [] p = rw append-nil
joined-push (q ∷ ps) p = rw (joined-push ps p, append_assoc)

pub joined-nil : joined [] ≡ []
unfolding joined
joined-nil = refl

nothing : (xs : List TypedStmt) → length xs ≡ 0 → xs ≡ []
nothing [] h = refl
nothing (x ∷ xs) h = absurd (omega arith)

-- a body without a statement is no part
pub joined-drop : (ps qs : List Part) (ss : Bor (List TypedStmt)) → ps ≡ qs ++ Body ss ∷ [] → length ss.now ≡ 0 → joined qs ≡ joined ps
joined-drop ps qs ss e h = rw (e, joined-push qs (Body ss), nothing ss.now h)

turn-first : (ps qs : List Part) (p : Part) (w : Bor TypedStmt) → ps ≡ qs ++ p ∷ [] → p ≡ Turn w → joined ps ≡ Again w.now ∷ joined qs
turn-first ps qs p w e is = rw (e, joined-push qs p, is) refl

body-first : (ps qs : List Part) (p : Part) (ss : Bor (List TypedStmt)) → ps ≡ qs ++ p ∷ [] → p ≡ Body ss → joined ps ≡ map Do ss.now ++ joined qs
body-first ps qs p ss e is = rw (e, joined-push qs p, is) refl

next_turn-body : (ss : List TypedStmt) (items : List Item) → next_turn (map Do ss ++ items) ≡ next_turn items
next_turn-body [] items = refl
next_turn-body (s ∷ ss) items = next_turn-body ss items

behind-body : (ss : List TypedStmt) (items : List Item) → ready_after_turn (map Do ss ++ items) ≡ ready_after_turn items
unfolding ready
behind-body [] items = refl
behind-body (s ∷ ss) items = behind-body ss items

-- a statement that is no jump is left
ready-step : (s : TypedStmt) (items : List Item) → ((at : Span) → s ≡ Return at → ⊥) → ((at : Span) → s ≡ Break at → ⊥) → ((at : Span) → s ≡ Continue at → ⊥)
    → ready (Do s ∷ items) ≡ Do s ∷ items
unfolding ready
ready-step (Declare at n kind value) items r b c = refl
ready-step (Assign at n value) items r b c = refl
ready-step (SetField at left k field x) items r b c = refl
ready-step (Write at place x) items r b c = refl
ready-step (Call at f args) items r b c = refl
ready-step (If' at test _ first _ second) items r b c = refl
ready-step (While' at test _ body) items r b c = refl
ready-step (Return at) items r b c = absurd (r at refl)
ready-step (Break at) items r b c = absurd (b at refl)
ready-step (Continue at) items r b c = absurd (c at refl)

-- where the part that is taken is a loop, that loop turns
module _ (ps qs : List Part) (p : Part) (w : Bor TypedStmt) (e : ps ≡ qs ++ p ∷ []) (is : p ≡ Turn w) where
  pub turn-behind : ready_after_turn (joined ps) ≡ ready (joined qs)
  unfolding ready
  turn-behind = rw (turn-first ps qs p w e is) refl

  pub turn-ready : ready (joined ps) ≡ Again w.now ∷ joined qs
  unfolding ready
  turn-ready = rw (turn-first ps qs p w e is) refl

-- where it is a body, its statements add no loop
module _ (ps qs : List Part) (p : Part) (ss : Bor (List TypedStmt)) (e : ps ≡ qs ++ p ∷ []) (is : p ≡ Body ss) where
  pub body-next : next_turn (joined ps) ≡ next_turn (joined qs)
  body-next = rw (body-first ps qs p ss e is) (next_turn-body ss.now (joined qs))

  pub body-behind : ready_after_turn (joined ps) ≡ ready_after_turn (joined qs)
  body-behind = rw (body-first ps qs p ss e is) (behind-body ss.now (joined qs))

  -- what its first statement leaves
  module _ (s : TypedStmt) (rest : List TypedStmt) (cases : ss.now ≡ s ∷ rest) where
    first-ready : ready (joined ps) ≡ ready (Do s ∷ (map Do rest ++ joined qs))
    first-ready = rw (body-first ps qs p ss e is, cases) refl

    pub return-ready : (at : Span) → s ≡ Return at → ready (joined ps) ≡ []
    unfolding ready
    return-ready at h = first-ready ∙ rw h refl

    pub break-ready : (at : Span) → s ≡ Break at → ready (joined ps) ≡ ready_after_turn (joined qs)
    unfolding ready
    break-ready at h = first-ready ∙ rw h (behind-body rest (joined qs))

    pub continue-ready : (at : Span) → s ≡ Continue at → ready (joined ps) ≡ next_turn (joined qs)
    unfolding ready
    continue-ready at h = first-ready ∙ rw h (next_turn-body rest (joined qs))

    pub step-ready : ((at : Span) → s ≡ Return at → ⊥) → ((at : Span) → s ≡ Break at → ⊥) → ((at : Span) → s ≡ Continue at → ⊥)
        → ready (joined ps) ≡ Do s ∷ (map Do rest ++ joined qs)
    step-ready r b c = first-ready ∙ ready-step s (map Do rest ++ joined qs) r b c

pub ruleset joined_steps = (joined-push, joined-nil, append-nil)
