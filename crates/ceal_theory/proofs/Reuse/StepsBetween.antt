-- Steps between the items of what is left over do not matter: machines that are the same but for these finish alike.
use Rattle.std.proofs.Common.{◌≡◌, ℕ, Option, Some, None, List, [], refl, sym, ap, ◌∙◌, subst}
use Rattle.ceal_base.specs.Trace.{Trace}
use Rattle.ceal_base.specs.declared.forest.Item.{Item}
use Rattle.ceal_base.specs.declared.forest.Key.{Key}
use Rattle.ceal_base.specs.declared.forest.UnitId.{UnitId}
use Rattle.ceal_base.specs.declared.word.Place.{Place}
use Rattle.ceal_base.specs.declared.word.Word.{Word}
use Rattle.ceal_code.proofs.Words.SameIsEqual.{some-same, none-some}
use Rattle.ceal_code.specs.Program.{Code}
use Rattle.ceal_code.specs.Step.{Stack}
use Rattle.ceal_theory.proofs.Reuse.TakenAfterRevocation.{bare-take, bare-take-read}
use Rattle.ceal_theory.specs.Course.{BareMode, BareFrames, BareLaw}
use Rattle.ceal_theory.specs.Groves.{bare, bare_alloc, bare_read}
use Rattle.ceal_theory.specs.Repair.{State, Reruns}
use Rattle.ceal_theory.specs.Take.{TakenAlloc, TakenRead, take_alloc, take_read}
use Rattle.ceal_theory.specs.Moves.{Mode, Fixing, Running, Frames, Bottom, AfterFix, AfterMend, AfterRun, Resumes, Finishes, BecomesBy}

-- what is taken from the other leftover
pub record AllocToo (key : Key) (m : Trace) (t : TakenAlloc) : Type 0 where
  pub left : Trace
  pub taken : take_alloc key m ≡ Some (record t { leftover = left })
  pub same : bare t.leftover ≡ bare left

alloc-of : (key : Key) (m : Trace) (t : TakenAlloc) (o : Option TakenAlloc) → take_alloc key m ≡ o → Some (record t { leftover = bare t.leftover }) ≡ bare_alloc o → AllocToo key m t
alloc-of key m t None e h = none-some (record t { leftover = bare t.leftover }) (sym h)
alloc-of key m t (Some q) e h =
    let z = some-same (record t { leftover = bare t.leftover }) (record q { leftover = bare q.leftover }) h in
    let b : t.block ≡ q.block = ap (λ (x : TakenAlloc). x.block) z in
    record { left = q.leftover; taken = subst (λ k. take_alloc key m ≡ Some (record { block = k; leftover = q.leftover })) (sym b) e; same = ap (λ (x : TakenAlloc). x.leftover) z }

pub alloc-too : (key : Key) (l m : Trace) → bare l ≡ bare m → (t : TakenAlloc) → take_alloc key l ≡ Some t → AllocToo key m t
alloc-too key l m e t h =
    alloc-of key m t (take_alloc key m) refl (ap bare_alloc (sym h) ∙ (sym (bare-take key l) ∙ (ap (λ x. bare_alloc (take_alloc key x)) e ∙ bare-take key m)))

pub alloc-none : (key : Key) (l m : Trace) → bare l ≡ bare m → take_alloc key l ≡ None → take_alloc key m ≡ None
alloc-none key l m e h = go (take_alloc key m) (ap bare_alloc (sym h) ∙ (sym (bare-take key l) ∙ (ap (λ x. bare_alloc (take_alloc key x)) e ∙ bare-take key m)))
  where
    go : (o : Option TakenAlloc) → None ≡ bare_alloc o → o ≡ None
    go None k = refl
    go (Some q) k = none-some (record q { leftover = bare q.leftover }) k

pub record ReadToo (p : Place) (u : UnitId) (v : ℕ) (args : List Word) (m : Trace) (t : TakenRead) : Type 0 where
  pub left : Trace
  pub taken : take_read p u v args m ≡ Some (record t { leftover = left })
  pub same : bare t.leftover ≡ bare left

read-of : (p : Place) (u : UnitId) (v : ℕ) (args : List Word) (m : Trace) (t : TakenRead) (o : Option TakenRead)
    → take_read p u v args m ≡ o → Some (record t { leftover = bare t.leftover }) ≡ bare_read o
    → ReadToo p u v args m t
read-of p u v args m t None e h = none-some (record t { leftover = bare t.leftover }) (sym h)
read-of p u v args m t (Some q) e h =
    let z = some-same (record t { leftover = bare t.leftover }) (record q { leftover = bare q.leftover }) h in
    let b : t.value ≡ q.value = ap (λ (x : TakenRead). x.value) z in
    let c : t.inside ≡ q.inside = ap (λ (x : TakenRead). x.inside) z in
    record {
      left = q.leftover;
      taken = subst (λ w. take_read p u v args m ≡ Some (record { value = t.value; inside = w; leftover = q.leftover })) (sym c)
          (subst (λ w. take_read p u v args m ≡ Some (record { value = w; inside = q.inside; leftover = q.leftover })) (sym b) e);
      same = ap (λ (x : TakenRead). x.leftover) z;
    }

pub read-too : (p : Place) (u : UnitId) (v : ℕ) (args : List Word) (l m : Trace) → bare l ≡ bare m → (t : TakenRead) → take_read p u v args l ≡ Some t → ReadToo p u v args m t
read-too p u v args l m e t h =
    read-of p u v args m t (take_read p u v args m) refl
    (ap bare_read (sym h) ∙ (sym (bare-take-read p u v args l) ∙ (ap (λ x. bare_read (take_read p u v args x)) e ∙ bare-take-read p u v args m)))

pub read-none : (p : Place) (u : UnitId) (v : ℕ) (args : List Word) (l m : Trace) → bare l ≡ bare m → take_read p u v args l ≡ None → take_read p u v args m ≡ None
read-none p u v args l m e h =
    go (take_read p u v args m) (ap bare_read (sym h) ∙ (sym (bare-take-read p u v args l) ∙ (ap (λ x. bare_read (take_read p u v args x)) e ∙ bare-take-read p u v args m)))
  where
    go : (o : Option TakenRead) → None ≡ bare_read o → o ≡ None
    go None k = refl
    go (Some q) k = none-some (record q { leftover = bare q.leftover }) k

module _ (code : Code) (names : ℕ → ℕ) where
  pub record RanBare (s : State) (st : Stack) (m : Trace) (s' : State) (new left : Trace) : Type 0 where
    pub over : Trace
    pub anew : Reruns code names s st m s' new over
    pub same : bare left ≡ bare over

  -- a run is the same over the other leftover
  pub anew-bare : {s s' : State} {st : Stack} {l new left : Trace} → Reruns code names s st l s' new left → (m : Trace) → bare l ≡ bare m → RanBare s st m s' new left
  anew-bare (Reruns.over e) m h = record { over = m; anew = Reruns.over e; same = h }
  anew-bare (Reruns.quiet e a) m h = let q = anew-bare a m h in record { over = q.over; anew = Reruns.quiet e q.anew; same = q.same }
  anew-bare {l = l} (Reruns.takes_alloc {key = key} {t = t} e w a) m h =
      let x = alloc-too key l m h t w in
      let q = anew-bare a x.left x.same in
      record { over = q.over; anew = Reruns.takes_alloc e x.taken q.anew; same = q.same }
  anew-bare {l = l} (Reruns.makes {key = key} e w a) m h = let q = anew-bare a m h in record { over = q.over; anew = Reruns.makes e (alloc-none key l m h w) q.anew; same = q.same }
  anew-bare (Reruns.writes e a) m h = let q = anew-bare a m h in record { over = q.over; anew = Reruns.writes e q.anew; same = q.same }
  anew-bare {l = l} (Reruns.takes_read {p = p} {u = u} {v = v} {args = args} {r = r} e w n a) m h =
      let x = read-too p u v args l m h r w in
      let q = anew-bare a x.left x.same in
      record { over = q.over; anew = Reruns.takes_read e x.taken n q.anew; same = q.same }
  anew-bare {l = l} (Reruns.reads {p = p} {u = u} {v = v} {args = args} e w n a) m h =
      let q = anew-bare n m h in
      let q' = anew-bare a q.over q.same in
      record { over = q'.over; anew = Reruns.reads e (read-none p u v args l m h w) q.anew q'.anew; same = q'.same }

  pub resumes-bare : {s s' : State} {l : Trace} {fs : Frames} {out : List Item} → Resumes code names s l fs s' out →
      (m : Trace) → bare l ≡ bare m → {gs : Frames} → BareFrames fs gs → Resumes code names s m gs s' out
  resumes-bare Resumes.bottom m h BareFrames.bottom = Resumes.bottom
  resumes-bare (Resumes.after_fix f r) m h (BareFrames.after_fix g) = Resumes.after_fix f (resumes-bare r _ refl g)
  resumes-bare (Resumes.after_mend a r) m h (BareFrames.after_mend {m = n} e g) = let q = anew-bare a n e in Resumes.after_mend q.anew (resumes-bare r q.over q.same g)
  resumes-bare (Resumes.after_run a r) m h (BareFrames.after_run g) = let q = anew-bare a m h in Resumes.after_run q.anew (resumes-bare r q.over q.same g)

  bare-back : {a b : Mode} → BareMode a b → BareMode b a
  bare-back BareMode.fixes = BareMode.fixes
  bare-back (BareMode.runs e) = BareMode.runs (sym e)

  frames-back : {fs gs : Frames} → BareFrames fs gs → BareFrames gs fs
  frames-back BareFrames.bottom = BareFrames.bottom
  frames-back (BareFrames.after_fix g) = BareFrames.after_fix (frames-back g)
  frames-back (BareFrames.after_mend e g) = BareFrames.after_mend (sym e) (frames-back g)
  frames-back (BareFrames.after_run g) = BareFrames.after_run (frames-back g)

  -- whatever the one finishes with the other does
  pub finishes-bare : {s s' : State} {a b : Mode} {fs gs : Frames} {items : List Item} → BareMode a b → BareFrames fs gs → Finishes code names (record { state = s; mode = a; frames = fs }) s' items
      → Finishes code names (record { state = s; mode = b; frames = gs }) s' items
  finishes-bare BareMode.fixes g (Finishes.fixes f r) = Finishes.fixes f (resumes-bare r _ refl g)
  finishes-bare (BareMode.runs {m = m} e) g (Finishes.runs a r) = let q = anew-bare a m e in Finishes.runs q.anew (resumes-bare r q.over q.same g)

  pub frames-self : (fs : Frames) → BareFrames fs fs
  frames-self Bottom = BareFrames.bottom
  frames-self (AfterFix rest fs) = BareFrames.after_fix (frames-self fs)
  frames-self (AfterMend st old fs) = BareFrames.after_mend refl (frames-self fs)
  frames-self (AfterRun st fs) = BareFrames.after_run (frames-self fs)

  pub mode-self : (mode : Mode) → BareMode mode mode
  mode-self (Fixing todo) = BareMode.fixes
  mode-self (Running st old) = BareMode.runs refl

  at-state : (s t : State) (a b : Mode) (fs gs : Frames) → s ≡ t → BareMode a b → BareFrames fs gs
      → BecomesBy code names (record { state = s; mode = a; frames = fs }) (record { state = t; mode = b; frames = gs }) []
  at-state s t a b fs gs e k g = subst (λ t. BecomesBy code names (record { state = s; mode = a; frames = fs }) (record { state = t; mode = b; frames = gs }) []) e (record {
    back = λ s' rest f. finishes-bare (bare-back k) (frames-back g) f;
    ahead = λ s' items f. record { rest = items; same = refl; finishes = finishes-bare k g f };
  })

pub bare-law : BareLaw
bare-law code names m m' h = at-state code names m.state m'.state m.mode m'.mode m.frames m'.frames h.state h.mode h.frames
