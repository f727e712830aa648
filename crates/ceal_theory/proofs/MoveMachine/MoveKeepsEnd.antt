-- One move of the machine keeps what it finishes with.
use Rattle.std.proofs.Common.{◌≡◌, ℕ, ◌≤◌, Bool, true, false, Option, Some, None, List, [], ◌∷◌, ◌++◌, append_assoc, append-nil, refl, sym, ap, subst, arith}
use Rattle.ceal_base.specs.Operators.{same_word}
use Rattle.ceal_base.specs.Trace.{Trace, Nothing, Stepped, Allocated, Wrote, WasRead, flat}
use Rattle.ceal_base.specs.declared.forest.Item.{Item}
use Rattle.ceal_base.specs.declared.forest.Item.TheVariants.{Step, Alloc, Write, Read, End}
use Rattle.ceal_base.specs.declared.forest.Key.{Key}
use Rattle.ceal_base.specs.declared.forest.UnitId.{UnitId}
use Rattle.ceal_base.specs.declared.word.BlockId.TheVariants.{Core}
use Rattle.ceal_base.specs.declared.word.Place.{Place}
use Rattle.ceal_base.specs.declared.word.Word.{Word}
use Rattle.ceal_code.proofs.Words.SameIsEqual.{word-same, word-refl}
use Rattle.ceal_code.specs.Init.{pointer}
use Rattle.ceal_code.specs.Program.{Code}
use Rattle.ceal_code.specs.Step.{Stack, Run, Act, Over, Quiet, Makes, Writes, Reads, next}
use Rattle.ceal_code.specs.Value.{Variables, set}
use Rattle.ceal_theory.specs.Moves.{Goes}
use Rattle.ceal_theory.proofs.Repair.Honesty.{fix-rises, anew-rises}
use Rattle.ceal_theory.specs.Repair.{State, clears, puts, works, grows, resumed, Fix, Mend, Reruns}
use Rattle.ceal_theory.specs.Take.{TakenAlloc, TakenRead, take_alloc, take_read}
use Rattle.ceal_theory.specs.Moves.{Mode, Fixing, Running, Frames, Bottom, AfterFix, AfterMend, AfterRun, Machine, Move}
use Rattle.ceal_theory.specs.Moves.{Ended, Went, closing_move, mode_inside, fix_move, alloc_move, read_move, act_move, mode_move, next_move, Resumes}
use Rattle.ceal_theory.specs.Moves.{Finishes}

abbrev pub at : State → Mode → Frames → Machine
at s mode fs = record { state = s; mode = mode; frames = fs }

-- what holds where a move has been taken: whatever the machine after it finishes with, the one before finishes with,
-- and what was written in front
abbrev pub Kept : Code → (ℕ → ℕ) → Machine → Move → Type 0
Kept code names m Ended = Finishes code names m m.state []
Kept code names m (Went written m') = (s' : State) (out : List Item) → Finishes code names m' s' out → Finishes code names m s' (written ++ out)

append-end : (i : Trace) (out rest : List Item) → (flat i ++ End ∷ rest) ++ out ≡ flat i ++ (End ∷ (rest ++ out))
append-end i out rest = append_assoc (flat i) (End ∷ rest) out

on-fixing : (code : Code) (names : ℕ → ℕ) (s s' : State) (todo : Trace) (fs : Frames) (out : List Item) (P : List Item → Type 0)
    → ((t : State) (new : Trace) (later : List Item) → Fix code names s todo t new → Resumes code names t Nothing fs s' later → P (flat new ++ later))
    → Finishes code names (at s (Fixing todo) fs) s' out → P out
on-fixing code names s s' todo fs out P h (Finishes.fixes {t = t} {new = new} {out = later} f r) = h t new later f r

on-running : (code : Code) (names : ℕ → ℕ) (s s' : State) (st : Stack) (old : Trace) (fs : Frames) (out : List Item) (P : List Item → Type 0)
    → ((t : State) (new left : Trace) (later : List Item) → Reruns code names s st old t new left → Resumes code names t left fs s' later → P (flat new ++ later))
    → Finishes code names (at s (Running st old) fs) s' out → P out
on-running code names s s' st old fs out P h (Finishes.runs {t = t} {new = new} {left = left} {out = later} a r) = h t new left later a r

-- a machine whose part is over, and has left this over
OverAt : Code → (ℕ → ℕ) → State → Machine → Trace → Frames → Type 0
OverAt code names s m left fs = (s' : State) (out : List Item) → Resumes code names s left fs s' out → Finishes code names m s' out

closed-kept : (code : Code) (names : ℕ → ℕ) (s : State) (m : Machine) (left : Trace) (fs : Frames) → m.state ≡ s → OverAt code names s m left fs → Kept code names m (closing_move s left fs)
unfolding OverAt
closed-kept code names s m left Bottom e h = subst (λ t. Finishes code names m t []) (sym e) (h s [] Resumes.bottom)
closed-kept code names s m left (AfterFix rest outer) e h = λ s' out.
    on-fixing code names s s' rest outer out (λ o. Finishes code names m s' (End ∷ o)) (λ t new later f r. h s' (End ∷ (flat new ++ later)) (Resumes.after_fix f r))
closed-kept code names s m left (AfterMend below old outer) e h = λ s' out.
    on-running code names s s' below old outer out (λ o. Finishes code names m s' (End ∷ o)) (λ t new l later a r. h s' (End ∷ (flat new ++ later)) (Resumes.after_mend a r))
closed-kept code names s m left (AfterRun below outer) e h = λ s' out.
    on-running code names s s' below left outer out (λ o. Finishes code names m s' (End ∷ o)) (λ t new l later a r. h s' (End ∷ (flat new ++ later)) (Resumes.after_run a r))

fix-closed : (code : Code) (names : ℕ → ℕ) (s : State) (fs : Frames) → Kept code names (at s (Fixing Nothing) fs) (closing_move s Nothing fs)
unfolding OverAt
fix-closed code names s fs = closed-kept code names s (at s (Fixing Nothing) fs) Nothing fs refl (λ s' out r. Finishes.fixes Fix.end r)

run-closed : (code : Code) (names : ℕ → ℕ) (s : State) (st : Stack) (old : Trace) (fs : Frames) → next code s.plain st ≡ Over → Kept code names (at s (Running st old) fs) (closing_move s old fs)
unfolding OverAt
run-closed code names s st old fs e = closed-kept code names s (at s (Running st old) fs) old fs refl (λ s' out r. Finishes.runs (Reruns.over e) r)

-- the items inside a read that was opened, and what follows
record Inside (code : Code) (names : ℕ → ℕ) (s : State) (p : Place) (u : UnitId) (v : ℕ) (args : List Word) (value : Word) (inside : Trace) (fs : Frames) (s' : State) (out : List Item) : Type 0 where
  state : State
  items : Trace
  left : Trace
  later : List Item
  mend : Mend code names s p u v args value inside state items
  resumes : Resumes code names state left fs s' later
  same : out ≡ flat items ++ later

opened-inside : (code : Code) (names : ℕ → ℕ) (s : State) (p : Place) (u : UnitId) (v : ℕ) (args : List Word)
    (value : Word) (inside : Trace) (fs : Frames) (s' : State) (out : List Item) (b : Bool) → same_word
    (s.store p) value ≡ b
    → Finishes code names (at s (mode_inside code b u v args (s.store p) inside) fs) s' out → Inside code names s p u v args value inside fs s' out
opened-inside code names s p u v args value inside fs s' out true e (Finishes.fixes {t = t} {new = new} {out = later} f r) =
    record { state = t; items = new; left = Nothing; later = later; mend = Mend.kept (word-same (s.store p) value e) f; resumes = r; same = refl }
opened-inside code names s p u v args value inside fs s' out false e (Finishes.runs {t = t} {new = new} {left = left} {out = later} a r) =
    record { state = t; items = new; left = left; later = later; mend = Mend.stale (λ same. grind (arith, rw same at e, word-refl value)) a; resumes = r; same = refl }

fix-read : (code : Code) (names : ℕ → ℕ) (s : State) (p : Place) (value : Word) (u : UnitId) (v : ℕ) (args : List Word) (inside rest : Trace) (fs : Frames) (s' : State) (out : List Item)
    → Inside code names s p u v args value inside (AfterFix rest fs) s' out
    → Finishes code names (at s (Fixing (WasRead p value u v args inside rest)) fs) s' (Read p (s.store p) u v args ∷ out)
fix-read code names s p value u v args inside rest fs s' out i = go i.state i.items i.left i.later i.mend i.resumes i.same
  where
    go : (t : State) (items left : Trace) (later : List Item) → Mend code names s p u v args value inside t items → Resumes code names t left (AfterFix rest fs) s' later → out ≡ flat items ++ later
        → Finishes code names (at s (Fixing (WasRead p value u v args inside rest)) fs) s' (Read p (s.store p) u v args ∷ out)
    go t items left later m (Resumes.after_fix {rest' = rest'} {out = out'} f r) e =
        rw (e, ← append-end items out' (flat rest')) (Finishes.fixes (Fix.read m f) r)

fix-move : (code : Code) (names : ℕ → ℕ) (s : State) (fs : Frames) (todo : Trace) → Kept code names (at s (Fixing todo) fs) (fix_move code s fs todo)
fix-move code names s fs Nothing = fix-closed code names s fs
fix-move code names s fs (Stepped rest) = λ s' out.
    on-fixing code names s s' rest fs out (λ o. Finishes code names (at s (Fixing (Stepped rest)) fs) s' (Step ∷ o)) (λ t new later f r. Finishes.fixes (Fix.step f) r)
fix-move code names s fs (Allocated b key rest) = λ s' out.
    on-fixing code names (clears code s b key) s' rest fs out
    (λ o. Finishes code names (at s (Fixing (Allocated b key rest)) fs) s' (Alloc b key ∷ o))
    (λ t new later f r. Finishes.fixes (Fix.alloc f) r)
fix-move code names s fs (Wrote p value rest) = λ s' out.
    on-fixing code names (puts s p value) s' rest fs out (λ o. Finishes code names (at s (Fixing (Wrote p value rest)) fs) s' (Write p value ∷ o)) (λ t new later f r. Finishes.fixes (Fix.write f) r)
fix-move code names s fs (WasRead p value u v args inside rest) = λ s' out h.
    fix-read code names s p value u v args inside rest fs s' out (opened-inside code names s p u v args value inside (AfterFix rest fs) s' out (same_word (s.store p) value) refl h)

make-move : (code : Code) (names : ℕ → ℕ) (s : State) (st : Stack) (fs : Frames) (key : Key) (v u i : ℕ) (env : Variables) (below : Stack) (old : Trace) (o : Option TakenAlloc)
    → next code s.plain st ≡ Makes key v u i env below → take_alloc key old ≡ o → Kept code names (at s (Running st old) fs) (alloc_move code names s fs key v u i env below old o)
make-move code names s st fs key v u i env below old (Some x) e w = λ s' out.
    on-running code names (clears code (works s) x.block key) s'
    (Run u i (set env v (pointer key x.block)) below) x.leftover fs out
    (λ o. Finishes code names (at s (Running st old) fs) s' (Step ∷ Alloc x.block key ∷ o))
    (λ t new left later a r. Finishes.runs (Reruns.takes_alloc e w a) r)
make-move code names s st fs key v u i env below old None e w = λ s' out.
    on-running code names (grows code names (works s) key) s'
    (Run u i (set env v (pointer key (Core (names s.number)))) below) old fs out
    (λ o. Finishes code names (at s (Running st old) fs) s' (Step ∷ Alloc (Core (names s.number)) key ∷ o))
    (λ t new left later a r. Finishes.runs (Reruns.makes e w a) r)

took-read : (code : Code) (names : ℕ → ℕ) (s : State) (st below : Stack) (fs : Frames) (p : Place) (u : UnitId) (v : ℕ) (args : List Word) (old : Trace) (x : TakenRead) (s' : State) (out : List Item)
    → next code s.plain st ≡ Reads p u v args below → take_read p u v args old ≡ Some x
    → Inside code names (works s) p u v args x.value x.inside (AfterMend below x.leftover fs) s' out
    → Finishes code names (at s (Running st old) fs) s' (Step ∷ Read p (s.store p) u v args ∷ out)
took-read code names s st below fs p u v args old x s' out e w i = go i.state i.items i.left i.later i.mend i.resumes i.same
  where
    go : (t : State) (items left : Trace) (later : List Item) → Mend code names
        (works s) p u v args x.value x.inside t items → Resumes code names t left
        (AfterMend below x.leftover fs) s' later → out ≡ flat items ++ later
        → Finishes code names (at s (Running st old) fs) s' (Step ∷ Read p (s.store p) u v args ∷ out)
    go t items left later m (Resumes.after_mend {new = new} {out = out'} a r) k =
        rw (k, ← append-end items out' (flat new)) (Finishes.runs (Reruns.takes_read e w m a) r)

ran-read : (code : Code) (names : ℕ → ℕ) (s : State) (st below : Stack) (fs : Frames) (p : Place) (u : UnitId) (v : ℕ)
    (args : List Word) (old : Trace) (s' t : State) (items left : Trace) (later : List Item)
    → next code s.plain st ≡ Reads p u v args below → take_read p u v args old ≡ None
    → Reruns code names (works s) (resumed code u v args (s.store p)) old t items left → Resumes code names t left (AfterRun below fs) s' later
    → Finishes code names (at s (Running st old) fs) s' (Step ∷ Read p (s.store p) u v args ∷ (flat items ++ later))
ran-read code names s st below fs p u v args old s' t items left later e w m (Resumes.after_run {new = new} {out = out'} a r) =
    rw (← append-end items out' (flat new)) (Finishes.runs (Reruns.reads e w m a) r)

read-move : (code : Code) (names : ℕ → ℕ) (s : State) (st : Stack) (fs : Frames) (p : Place) (u : UnitId) (v : ℕ) (args : List Word) (below : Stack) (old : Trace) (o : Option TakenRead)
    → next code s.plain st ≡ Reads p u v args below → take_read p u v args old ≡ o → Kept code names (at s (Running st old) fs) (read_move code s fs p u v args below old o)
read-move code names s st fs p u v args below old (Some x) e w = λ s' out h.
    took-read code names s st below fs p u v args old x s' out e w
    (opened-inside code names (works s) p u v args x.value x.inside (AfterMend below x.leftover fs) s' out
    (same_word (s.store p) x.value) refl h)
read-move code names s st fs p u v args below old None e w = λ s' out.
    on-running code names (works s) s' (resumed code u v args (s.store p)) old (AfterRun below fs) out (λ o. Finishes code names (at s (Running st old) fs) s' (Step ∷ Read p (s.store p) u v args ∷ o))
    (λ t new left later a r. ran-read code names s st below fs p u v args old s' t new left later e w a r)

act-move : (code : Code) (names : ℕ → ℕ) (s : State) (st : Stack) (fs : Frames) (old : Trace) (a : Act)
    → next code s.plain st ≡ a → Kept code names (at s (Running st old) fs) (act_move code names s fs old a)
act-move code names s st fs old Over e = run-closed code names s st old fs e
act-move code names s st fs old (Quiet after) e = λ s' out.
    on-running code names (works s) s' after old fs out (λ o. Finishes code names (at s (Running st old) fs) s' (Step ∷ o)) (λ t new left later a r. Finishes.runs (Reruns.quiet e a) r)
act-move code names s st fs old (Makes key v u i env below) e = make-move code names s st fs key v u i env below old (take_alloc key old) e refl
act-move code names s st fs old (Writes p value after) e = λ s' out.
    on-running code names (puts (works s) p value) s' after old fs out
    (λ o. Finishes code names (at s (Running st old) fs) s' (Step ∷ Write p value ∷ o))
    (λ t new left later a r. Finishes.runs (Reruns.writes e a) r)
act-move code names s st fs old (Reads p u v args below) e = read-move code names s st fs p u v args below old (take_read p u v args old) e refl

mode-move : (code : Code) (names : ℕ → ℕ) (s : State) (fs : Frames) (m : Mode) → Kept code names (at s m fs) (mode_move code names s fs m)
mode-move code names s fs (Fixing todo) = fix-move code names s fs todo
mode-move code names s fs (Running st old) = act-move code names s st fs old (next code s.plain st) refl

-- a move keeps what the machine finishes with
pub move-kept : (code : Code) (names : ℕ → ℕ) (m : Machine) → Kept code names m (next_move code names m)
unfolding next_move
move-kept code names m = mode-move code names m.state m.frames m.mode

abbrev pub Ahead : Code → (ℕ → ℕ) → State → List Item → Move → Type 0
Ahead code names s' out Ended = out ≡ []
Ahead code names s' out (Went written m) = Goes code names m s' written out

closed-ahead : (code : Code) (names : ℕ → ℕ) {s s' : State} {left : Trace} {fs : Frames} {out : List Item} → Resumes code names s left fs s' out → Ahead code names s' out (closing_move s left fs)
closed-ahead code names Resumes.bottom = refl
closed-ahead code names (Resumes.after_fix {rest' = new} {out = out} f r) = record { rest = flat new ++ out; same = refl; finishes = Finishes.fixes f r }
closed-ahead code names (Resumes.after_mend {new = new} {out = out} a r) = record { rest = flat new ++ out; same = refl; finishes = Finishes.runs a r }
closed-ahead code names (Resumes.after_run {new = new} {out = out} a r) = record { rest = flat new ++ out; same = refl; finishes = Finishes.runs a r }

not-same : (v w : Word) → ¬ (v ≡ w) → same_word v w ≡ false
not-same v w h = go (same_word v w) refl
  where
    go : (b : Bool) → same_word v w ≡ b → b ≡ false
    go true e = absurd (h (word-same v w e))
    go false e = refl

-- a read that is corrected: the mode in which it is opened finishes with its items and what follows
mend-ahead : (code : Code) (names : ℕ → ℕ) (s t s' : State) (p : Place) (u : UnitId) (v : ℕ) (args : List Word) (value : Word) (inside new : Trace) (fs : Frames) (later : List Item)
    → Mend code names s p u v args value inside t new → ((left : Trace) → Resumes code names t left fs s' later)
    → Finishes code names (at s (mode_inside code (same_word (s.store p) value) u v args (s.store p) inside) fs) s' (flat new ++ later)
mend-ahead code names s t s' p u v args value inside new fs later (Mend.kept e f) r = rw (e, word-refl value) (Finishes.fixes f (r Nothing))
mend-ahead code names s t s' p u v args value inside new fs later (Mend.stale {left = left} e a) r = rw (not-same (s.store p) value e) (Finishes.runs a (r left))

-- what a machine finishes with begins with what its move writes, and the machine after the move finishes with the rest
pub move-ahead : (code : Code) (names : ℕ → ℕ) {m : Machine} {s' : State} {out : List Item} → Finishes code names m s' out → Ahead code names s' out (next_move code names m)
unfolding next_move
move-ahead code names (Finishes.fixes Fix.end r) = closed-ahead code names r
move-ahead code names (Finishes.fixes {out = out} (Fix.step {rest' = new} f) r) = record { rest = flat new ++ out; same = refl; finishes = Finishes.fixes f r }
move-ahead code names (Finishes.fixes {out = out} (Fix.alloc {rest' = new} f) r) = record { rest = flat new ++ out; same = refl; finishes = Finishes.fixes f r }
move-ahead code names (Finishes.fixes {out = out} (Fix.write {rest' = new} f) r) = record { rest = flat new ++ out; same = refl; finishes = Finishes.fixes f r }
move-ahead code names {s' = s'} (Finishes.fixes {fs = fs} {out = out}
    (Fix.read {s = s} {t = t} {p = p} {value = value} {u = u} {v = v} {args = args} {inside = inside} {inside' =
    new} {rest = rest} {rest' = rest'} m f) r) =
    record {
      rest = flat new ++ (End ∷ (flat rest' ++ out));
      same = ap (λ o. Read p (s.store p) u v args ∷ o) (append-end new out (flat rest'));
      finishes = mend-ahead code names s t s' p u v args value inside new (AfterFix rest fs) (End ∷ (flat rest' ++ out)) m (λ left. Resumes.after_fix f r);
    }
move-ahead code names (Finishes.runs (Reruns.over e) r) = rw e (closed-ahead code names r)
move-ahead code names (Finishes.runs {out = out} (Reruns.quiet {new = new} e a) r) = rw e (record { rest = flat new ++ out; same = refl; finishes = Finishes.runs a r })
move-ahead code names (Finishes.runs {out = out} (Reruns.takes_alloc {new = new} e w a) r) = rw (e, w) (record { rest = flat new ++ out; same = refl; finishes = Finishes.runs a r })
move-ahead code names (Finishes.runs {out = out} (Reruns.makes {new = new} e w a) r) = rw (e, w) (record { rest = flat new ++ out; same = refl; finishes = Finishes.runs a r })
move-ahead code names (Finishes.runs {out = out} (Reruns.writes {new = new} e a) r) = rw e (record { rest = flat new ++ out; same = refl; finishes = Finishes.runs a r })
move-ahead code names {s' = s'} (Finishes.runs {fs = fs} {out = out}
    (Reruns.takes_read {s = s} {t = t} {below = below} {p = p} {u = u} {v = v} {args = args} {inside' = i} {new =
    new} {r = x} e w m a) r) =
    rw (e, w) (record {
      rest = flat i ++ (End ∷ (flat new ++ out));
      same = ap (λ o. Step ∷ Read p (s.store p) u v args ∷ o) (append-end i out (flat new));
      finishes = mend-ahead code names (works s) t s' p u v args x.value x.inside i (AfterMend below x.leftover fs) (End ∷ (flat new ++ out)) m (λ left. Resumes.after_mend a r);
    })
move-ahead code names {s' = s'} (Finishes.runs {fs = fs} {out = out} (Reruns.reads {s = s} {p = p} {u = u} {v = v} {args = args} {inside' = i} {new = new} e w m a) r) =
    rw (e, w) (record {
      rest = flat i ++ (End ∷ (flat new ++ out));
      same = ap (λ o. Step ∷ Read p (s.store p) u v args ∷ o) (append-end i out (flat new));
      finishes = Finishes.runs m (Resumes.after_run a r);
    })

pub record FixedFlat (code : Code) (names : ℕ → ℕ) (s : State) (old : Trace) (s' : State) (out : List Item) : Type 0 where
  pub items : Trace
  pub fix : Fix code names s old s' items
  pub same : out ≡ flat items

-- what a machine that begins with only items finishes with is their repair
pub finishes-fix : (code : Code) (names : ℕ → ℕ) (s : State) (old : Trace) (s' : State) (out : List Item) → Finishes code names (at s (Fixing old) Bottom) s' out → FixedFlat code names s old s' out
finishes-fix code names s old s' out (Finishes.fixes {new = new} f Resumes.bottom) = record { items = new; fix = f; same = append-nil (flat new) }

pub record RanFlat (code : Code) (names : ℕ → ℕ) (s : State) (st : Stack) (old : Trace) (s' : State) (out : List Item) : Type 0 where
  pub items : Trace
  pub left : Trace
  pub anew : Reruns code names s st old s' items left
  pub same : out ≡ flat items

-- and one that begins with a stack is its run
pub finishes-anew : (code : Code) (names : ℕ → ℕ) (s : State) (st : Stack) (old : Trace) (s' : State)
    (out : List Item) → Finishes code names (at s (Running st old) Bottom) s' out → RanFlat code names s st old s' out
finishes-anew code names s st old s' out (Finishes.runs {new = new} {left = left} a Resumes.bottom) =
    record { items = new; left = left; anew = a; same = append-nil (flat new) }

-- the work only rises
pub resumes-rises : {code : Code} {names : ℕ → ℕ} {s s' : State} {l : Trace} {fs : Frames} {out : List Item} → Resumes code names s l fs s' out → s.work ≤ s'.work
resumes-rises Resumes.bottom = omega arith
resumes-rises (Resumes.after_fix f r) = omega (arith, fix-rises f, resumes-rises r)
resumes-rises (Resumes.after_mend a r) = omega (arith, anew-rises a, resumes-rises r)
resumes-rises (Resumes.after_run a r) = omega (arith, anew-rises a, resumes-rises r)

pub finishes-rises : {code : Code} {names : ℕ → ℕ} {m : Machine} {s' : State} {out : List Item} → Finishes code names m s' out → m.state.work ≤ s'.work
finishes-rises (Finishes.fixes f r) = omega (arith, fix-rises f, resumes-rises r)
finishes-rises (Finishes.runs a r) = omega (arith, anew-rises a, resumes-rises r)
