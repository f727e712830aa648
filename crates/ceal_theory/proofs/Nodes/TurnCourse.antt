-- A course whose end has come, or whose work is too much; and what is known at its beginning.
use Rattle.std.proofs.Common.{◌≡◌, ℕ, ◌≤◌, List, [], ◌∷◌, ◌++◌, length, append-nil, sym, ap, ◌∙◌, subst, arith}
use Rattle.ceal_base.specs.Trace.{Trace, flat, steps_in}
use Rattle.ceal_base.specs.declared.forest.Item.{Item}
use Rattle.ceal_base.specs.declared.forest.Item.TheVariants as item
use Rattle.ceal_base.specs.declared.forest.UnitId.{UnitId}
use Rattle.ceal_base.specs.declared.word.Place.{Place}
use Rattle.ceal_base.specs.declared.word.Word.{Word}
use Rattle.ceal_code.specs.Known.{KnownStack}
use Rattle.ceal_code.specs.Program.{Code}
use Rattle.ceal_code.specs.Replay.{Store, KnownWord}
use Rattle.ceal_theory.proofs.Reuse.FlatTake.{first-flat, followed-nothing}
use Rattle.ceal_theory.proofs.MoveMachine.MachineLaws.{takes-move}
use Rattle.ceal_theory.proofs.SlicedRepair.OneTurn.{Located, Ahead, locate, SameFirst, one-first, at-flat, at-honest, at-store}
use Rattle.ceal_theory.proofs.SlicedRepair.KnownAtStaleRead.{sound-ready}
use Rattle.ceal_theory.proofs.SlicedRepair.SliceLaws.{turn-law}
use Rattle.ceal_theory.proofs.MoveMachine.MoveKeepsEnd.{finishes-rises}
use Rattle.ceal_theory.proofs.Store.Mentions.{uses-sure}
use Rattle.ceal_theory.proofs.Store.Walk.{agrees-front, flat-honest}
use Rattle.ceal_theory.specs.Course.{WorkLaw, TurnCourse, TurnCourseLaw, TurnKnownLaw}
use Rattle.ceal_theory.specs.Cover.{At, known_after}
use Rattle.ceal_theory.specs.Known.{Knows}
use Rattle.ceal_theory.specs.Levels.{first, levels}
use Rattle.ceal_theory.specs.Repair.{resumed}
use Rattle.ceal_theory.specs.SliceLaws.{unit_alone, FirstStale}
use Rattle.ceal_theory.specs.Slices.{with_inputs, Uses, starting}
use Rattle.ceal_theory.specs.Moves.{Machine, Ended, next_move, Finishes, Goes, Ends, IsMove, BecomesBy}
use Rattle.ceal_theory.specs.Walk.{AgreesAll}

steps-front : (is js : List Item) → steps_in is ≤ steps_in (is ++ js)
steps-front [] js = omega arith
steps-front (item.Step ∷ is) js = omega (arith, steps-front is js)
steps-front (item.Alloc b key ∷ is) js = steps-front is js
steps-front (item.Write p value ∷ is) js = steps-front is js
steps-front (item.Read p value u v args ∷ is) js = steps-front is js
steps-front (item.End ∷ is) js = steps-front is js

pub work-law : WorkLaw
work-law code names start m out l t items f = of (l.ahead t items f)
  where
    of : Goes code names m t out items → (m.state.work ≤ t.work) × (steps_in out ≤ steps_in items)
    of g = (finishes-rises g.finishes, subst (λ is. steps_in out ≤ steps_in is) (sym g.same) (steps-front out g.rest))

-- a machine whose move is its last finishes with what it has
ended-finishes : (code : Code) (names : ℕ → ℕ) (m : Machine) → next_move code names m ≡ Ended → Finishes code names m m.state []
ended-finishes code names m e = of (subst (IsMove code names m) e (takes-move code names m))
  where
    of : Ends code names m → Finishes code names m m.state []
    of h = h.back

-- what is inside a read is what its items up to its end say
inside-first : (inside : Trace) (back : List Item) → first (levels (flat inside ++ item.End ∷ back)) ≡ inside
inside-first inside back = first-flat inside (item.End ∷ back) ∙ followed-nothing inside

same-tail : (is a b : List Item) → is ++ item.End ∷ a ≡ is ++ item.End ∷ b → a ≡ b
same-tail [] a b e = cc e
same-tail (i ∷ is) a b e = same-tail is a b (cc e)

pub turn-course-law : TurnCourseLaw
turn-course-law code names inputs r front p value u v args inside back e h n m out l = of (turn-law code names inputs r front p value u v args (flat inside ++ item.End ∷ back) e h n)
  where
    of : FirstStale code names inputs r front p u v args (flat inside ++ item.End ∷ back) → TurnCourse code names inputs r front p u v args inside back m out
    of x =
        let same : inside ≡ x.inside = sym (inside-first inside back) ∙ (ap (λ is. first (levels is)) x.items ∙ inside-first x.inside x.back) in
        let tail : back ≡ x.back = same-tail (flat inside) back x.back (x.items ∙ ap (λ i. flat i ++ item.End ∷ x.back) (sym same)) in
        subst (λ i. BecomesBy code names (unit_alone code inputs r front p u v args i) m out → TurnCourse code names inputs r front p u v args i back m out) (sym same)
        (λ l. subst (λ b. TurnCourse code names inputs r front p u v args x.inside b m out) (sym tail) (at-stale x l)) l
      where
        at-stale : (x : FirstStale code names inputs r front p u v args (flat inside ++ item.End ∷ back)) → BecomesBy code names (unit_alone code inputs r front p u v args x.inside) m out
            → TurnCourse code names inputs r front p u v args x.inside x.back m out
        at-stale x l = record {
          ended = λ e. x.slice m.state out (subst
              (λ is. Finishes code names (unit_alone code inputs r front p u v args x.inside) m.state is)
              (append-nil out) (l.back m.state [] (ended-finishes code names m e)));
          over = λ n h. x.over n (λ t items f. let w = work-law code names (unit_alone code inputs r front p u v args x.inside) m out l t items f in omega (arith, h, w.0));
        }

at-uses : (code : Code) (n : ℕ) (bs : List ℕ) {s w : Store} {l inside : Trace} {front back : List Item} {p : Place} {value : Word} {u : UnitId} {v : ℕ} {args : List Word}
    → At code s l front w p value u v args inside back → Uses n bs l → Uses n bs inside
at-uses code n bs At.here h = h.3
at-uses code n bs (At.step a) h = at-uses code n bs a h
at-uses code n bs (At.alloc a) h = at-uses code n bs a h.2
at-uses code n bs (At.write a) h = at-uses code n bs a h.2
at-uses code n bs (At.inner e a) h = at-uses code n bs a h.3
at-uses code n bs (At.outer e k a) h = at-uses code n bs a h.4

pub turn-known-law : TurnKnownLaw
turn-known-law code names inputs f ws fits r h front p value u v args after e k n inside back i = found (locate code r.items (starting code inputs r.known))
  where
    knows : (q : Located code (starting code inputs r.known) r.items) → Knows code (length inputs) h.blocks
        (known_after [] q.front) (unit_alone code inputs r q.front q.place q.unit q.var q.args q.inside)
    knows q =
        let y = sound-ready code inputs f ws fits r h q.at-it in
        let w = at-store code q.at-it in
        record {
          plain = y.good.plain;
          old = h.holds;
          store = λ p. subst (λ z. KnownWord (length inputs) (known_after [] q.front) (z p)) w (y.good.store p);
          mode = (
            subst (λ z. KnownStack (length inputs) (known_after [] q.front) (resumed code q.unit q.var q.args (z q.place))) w y.stack,
            uses-sure code (length inputs) h.blocks (with_inputs code inputs r.known) y.yields (at-uses code (length inputs) h.blocks q.at-it h.uses),
          );
          frames = tt;
        }

    moved : (q : Located code (starting code inputs r.known) r.items) → SameFirst code q.front front q.place p q.value value q.unit u q.var v q.args args (flat q.inside ++ item.End ∷ q.back) after
        → Knows code (length inputs) h.blocks (known_after [] front) (unit_alone code inputs r front p u v args inside)
    moved q o =
        let same : q.inside ≡ inside = sym (inside-first q.inside q.back) ∙ (ap (λ is. first (levels is)) (o.afters ∙ i) ∙ inside-first inside back) in
        subst (λ z. Knows code (length inputs) h.blocks (known_after [] front) (unit_alone code inputs r front p u v args z)) same
        (subst (λ z. Knows code (length inputs) h.blocks (known_after [] front) (unit_alone code inputs r front p u v z q.inside)) o.words
        (subst (λ z. Knows code (length inputs) h.blocks (known_after [] front) (unit_alone code inputs r front p u z q.args q.inside)) o.vars
        (subst (λ z. Knows code (length inputs) h.blocks (known_after [] front) (unit_alone code inputs r front p z q.var q.args q.inside)) o.units
        (subst (λ z. Knows code (length inputs) h.blocks (known_after [] front) (unit_alone code inputs r front z q.unit q.var q.args q.inside)) o.places
        (subst (λ z. Knows code (length inputs) h.blocks (known_after [] z) (unit_alone code inputs r z q.place q.unit q.var q.args q.inside)) o.fronts (knows q))))))

    found : Ahead code (starting code inputs r.known) r.items → Knows code (length inputs) h.blocks (known_after [] front) (unit_alone code inputs r front p u v args inside)
    found (Ahead.honest m) =
        absurd (n (agrees-front code (starting code inputs r.known) front (item.Read p value u v args ∷ after)
        (subst (λ is. AgreesAll code (starting code inputs r.known) is) e (flat-honest code m))).1.0)
    found (Ahead.stale q) = moved q
        (one-first code (starting code inputs r.known) q.front front (flat q.inside ++ item.End ∷ q.back) after q.place p q.value value q.unit u q.var v q.args args (sym (at-flat code q.at-it) ∙ e)
        (at-honest code q.at-it) (subst (λ z. ¬ (z q.place ≡ q.value)) (at-store code q.at-it) q.stale) k n)
