-- The machine of repair, as laws.
use Rattle.std.proofs.Common.{◌≡◌, ◌↔◌, ℕ, List, [], ◌++◌, append_assoc, append-nil, refl, sym, ap, ◌∙◌, subst}
use Rattle.ceal_base.specs.Trace.{Trace, Stepped, flat}
use Rattle.ceal_base.specs.declared.forest.Item.{Item}
use Rattle.ceal_code.specs.Program.{Code}
use Rattle.ceal_code.specs.Step.{Stack}
use Rattle.ceal_theory.proofs.Reuse.StepsBetween.{bare-law, frames-self, mode-self}
use Rattle.ceal_theory.proofs.Reuse.FlatTake.{take-found, found-beyond, take-found-read, found-beyond-read, skipped-levels, first-flat, around-flat, first-of-flat, around-of-flat}
use Rattle.ceal_theory.proofs.MoveMachine.MoveKeepsEnd.{at, Kept, Ahead, move-kept, move-ahead, finishes-fix, finishes-anew}
use Rattle.ceal_theory.specs.Course.{BareMode, BareFrames}
use Rattle.ceal_theory.specs.Levels.{FlatTakeLaw, FlatLevelsLaw}
use Rattle.ceal_theory.specs.Repair.{State, Fix, Reruns}
use Rattle.ceal_theory.specs.Moves.{Fixing, Running, Bottom, AfterMend, Machine, Move, Ended, Went, next_move, Resumes, Finishes, Goes, BecomesBy, IsMove, MachineLaw}

module _ (code : Code) (names : ℕ → ℕ) where
  pub leads-stays : (m : Machine) → BecomesBy code names m m []
  leads-stays m = record { back = λ s' rest h. h; ahead = λ s' items h. record { rest = items; same = refl; finishes = h } }

  pub leads-then : (m m' m'' : Machine) (is js : List Item) → BecomesBy code names m m' is → BecomesBy code names m' m'' js → BecomesBy code names m m'' (is ++ js)
  leads-then m m' m'' is js h k = record {
    back = λ s' rest f. rw (append_assoc is js rest) (h.back s' (js ++ rest) (k.back s' rest f));
    ahead = λ s' items f. go s' items (h.ahead s' items f);
  }
    where
      go : (s' : State) (items : List Item) → Goes code names m' s' is items → Goes code names m'' s' (is ++ js) items
      go s' items g =
          let a = k.ahead s' g.rest g.finishes in
          record { rest = a.rest; same = g.same ∙ (ap (λ r. is ++ r) a.same ∙ sym (append_assoc is js a.rest)); finishes = a.finishes }

  by-move : (m : Machine) (t : Move) → Kept code names m t → ((s' : State) (items : List Item) → Finishes code names m s' items → Ahead code names s' items t) → IsMove code names m t
  by-move m Ended h k = record { back = h; ahead = k }
  by-move m (Went written m') h k = record { back = h; ahead = k }

  pub takes-move : (m : Machine) → IsMove code names m (next_move code names m)
  takes-move m = by-move m (next_move code names m) (move-kept code names m) (λ s' items f. move-ahead code names f)

  pub leads-move : (m m' : Machine) (written : List Item) → next_move code names m ≡ Went written m' → BecomesBy code names m m' written
  leads-move m m' written e = rw e at (takes-move m)

  fixes : (s s' : State) (l : Trace) (items : List Item) → Finishes code names (at s (Fixing l) Bottom) s' items ↔ ((m : Trace) × (items ≡ flat m) × Fix code names s l s' m)
  fixes s s' l items = (
    λ f. let r = finishes-fix code names s l s' items f in (r.items, r.same, r.fix),
    λ k. subst (λ is. Finishes code names (at s (Fixing l) Bottom) s' is) (append-nil (flat k.0) ∙ sym k.1) (Finishes.fixes k.2 Resumes.bottom),
  )

  runs : (s s' : State) (st : Stack) (l : Trace) (items : List Item) → Finishes code names (at s (Running st l) Bottom) s' items
      ↔ ((m left : Trace) × (items ≡ flat m) × Reruns code names s st l s' m left)
  runs s s' st l items = (
    λ f. let r = finishes-anew code names s st l s' items f in (r.items, r.left, r.same, r.anew),
    λ k. subst (λ is. Finishes code names (at s (Running st l) Bottom) s' is) (append-nil (flat k.0) ∙ sym k.2) (Finishes.runs k.3 Resumes.bottom),
  )

pub machine-law : MachineLaw
machine-law code names = record {
  moves = takes-move code names;
  stays = leads-stays code names;
  leads = leads-then code names;
  fixes = fixes code names;
  runs = runs code names;
  bare = λ s st l fs. bare-law code names (at s (Running st (Stepped l)) fs) (at s (Running st l) fs) (record { state = refl; mode = BareMode.runs refl; frames = frames-self code names fs });
  bare_after = λ s mode below l fs. bare-law code names (at s mode (AfterMend below (Stepped l) fs)) (at s mode (AfterMend below l fs))
      (record { state = refl; mode = mode-self code names mode; frames = BareFrames.after_mend refl (frames-self code names fs) });
}

pub flat-take-law : FlatTakeLaw
flat-take-law n is = (
  λ key. (take-found key is n, found-beyond key is n),
  λ p u v args. (take-found-read p u v args is n, found-beyond-read p u v args is n),
  skipped-levels n is,
)

pub flat-levels-law : FlatLevelsLaw
flat-levels-law f is = (first-flat f is, around-flat f is, first-of-flat f, around-of-flat f)
