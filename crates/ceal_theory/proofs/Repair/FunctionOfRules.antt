-- The function gives what the rules give, and all of it that its bound allows.
use Rattle.std.proofs.Common.{◌≡◌, ℕ, zero, suc, ◌+◌, ◌≤◌, ◌<◌, Bool, true, false, nat_le, if◌then◌else◌, Option, Some, None, List, refl, sym, subst, arith}
use Rattle.ceal_base.specs.Block.{Block}
use Rattle.ceal_base.specs.Operators.{same_word}
use Rattle.ceal_base.specs.Trace.{Trace, Nothing, Stepped, Allocated, Wrote, WasRead}
use Rattle.ceal_base.specs.declared.forest.Key.{Key}
use Rattle.ceal_base.specs.declared.forest.UnitId.{UnitId}
use Rattle.ceal_base.specs.declared.word.BlockId.TheVariants.{Core}
use Rattle.ceal_base.specs.declared.word.Place.{Place}
use Rattle.ceal_base.specs.declared.word.Word.{Word}
use Rattle.ceal_code.proofs.Words.SameIsEqual.{word-same, word-refl, some-same, none-some}
use Rattle.ceal_code.specs.Init.{pointer}
use Rattle.ceal_code.specs.Program.{Code}
use Rattle.ceal_code.specs.Replay.{input_plain, plain_of}
use Rattle.ceal_code.specs.Step.{Stack, Run, Act, Over, Quiet, Makes, Writes, Reads, started, next}
use Rattle.ceal_code.specs.Value.{Variables, set}
use Rattle.ceal_theory.proofs.Repair.Honesty.{fix-rises, mend-rises, anew-rises}
use Rattle.ceal_theory.specs.Adjust.{Adjusts, Firsts}
use Rattle.ceal_theory.specs.Computed.{Fixed, Ran, Runner, ran_with, fixed_with, and_fix, and_run, and_ran, kept_items}
use Rattle.ceal_theory.specs.Computed.{mend_if, fix_by, mend_by, make_by, read_by, perform, rerun, Repaired}
use Rattle.ceal_theory.specs.Computed.{fixed_within, adjusted, ran_within, first_of}
use Rattle.ceal_theory.specs.Repair.{own, State, begins, clears, puts, works, grows, resumed, Fix, Mend, Reruns}
use Rattle.ceal_theory.specs.Take.{TakenAlloc, TakenRead, take_alloc, take_read}

pub not-same : (v w : Word) → ¬ (v ≡ w) → same_word v w ≡ false
not-same v w h = go (same_word v w) refl
  where
    go : (b : Bool) → same_word v w ≡ b → b ≡ false
    go true e = absurd (h (word-same v w e))
    go false e = refl

module _ (code : Code) (names : ℕ → ℕ) where
  abbrev pub Sound : Runner → Type 0
  Sound again = (s : State) (st : Stack) (old : Trace) (r : Ran) → again s st old ≡ Some r → Reruns code names s st old r.state r.items r.left

  with-fixed : (f : Trace → Trace) (s : State) (l : Trace) (o : Option Fixed) (r : Fixed)
      → ((a : Fixed) → o ≡ Some a → Fix code names s l a.state (f a.items)) → fixed_with f o ≡ Some r → Fix code names s l r.state r.items
  with-fixed f s l None r h e = none-some r e
  with-fixed f s l (Some a) r h e = subst (λ r. Fix code names s l r.state r.items) (some-same (record a { items = f a.items }) r e) (h a refl)

  with-ran : (f : Trace → Trace) (s : State) (st : Stack) (l : Trace) (o : Option Ran) (r : Ran)
      → ((a : Ran) → o ≡ Some a → Reruns code names s st l a.state (f a.items) a.left) → ran_with f o ≡ Some r → Reruns code names s st l r.state r.items r.left
  with-ran f s st l None r h e = none-some r e
  with-ran f s st l (Some a) r h e = subst (λ r. Reruns code names s st l r.state r.items r.left) (some-same (record a { items = f a.items }) r e) (h a refl)

  module _ (again : Runner) (sound : Sound again) where
    kept-sound : (s : State) (p : Place) (u : UnitId) (y : ℕ) (args : List Word) (value : Word) (inside : Trace) (o : Option Ran) (r : Fixed)
        → same_word (s.store p) value ≡ false
        → ((a : Ran) → o ≡ Some a → Reruns code names s (resumed code u y args (s.store p)) inside a.state a.items a.left)
        → kept_items o ≡ Some r → Mend code names s p u y args value inside r.state r.items
    kept-sound s p u y args value inside None r n h e = none-some r e
    kept-sound s p u y args value inside (Some a) r n h e =
        subst (λ r. Mend code names s p u y args value inside r.state r.items) (some-same (record { state = a.state; items = a.items }) r e)
        (Mend.stale (λ same. grind (arith, rw same at n, word-refl value)) (h a refl))

    mend-if-sound : (s : State) (p : Place) (u : UnitId) (y : ℕ) (args : List Word) (value : Word) (inside : Trace) (kept : Option Fixed) (b : Bool) (r : Fixed)
        → same_word (s.store p) value ≡ b
        → ((a : Fixed) → kept ≡ Some a → Fix code names s inside a.state a.items)
        → mend_if code again s p u y args inside kept b ≡ Some r → Mend code names s p u y args value inside r.state r.items
    mend-if-sound s p u y args value inside kept true r n h e = Mend.kept (word-same (s.store p) value n) (h r e)
    mend-if-sound s p u y args value inside kept false r n h e =
        kept-sound s p u y args value inside (again s (resumed code u y args (s.store p)) inside) r n
        (sound s (resumed code u y args (s.store p)) inside) e

    then-fixed : (s : State) (p : Place) (u : UnitId) (y : ℕ) (args : List Word) (value : Word) (inside rest : Trace) (o : Option Fixed) (r : Fixed)
        → ((a : Fixed) → o ≡ Some a → Mend code names s p u y args value inside a.state a.items)
        → ((t : State) (a : Fixed) → fix_by code again t rest ≡ Some a → Fix code names t rest a.state a.items)
        → and_fix o (λ a. fixed_with (WasRead p (s.store p) u y args a.items) (fix_by code again a.state rest)) ≡ Some r
        → Fix code names s (WasRead p value u y args inside rest) r.state r.items
    then-fixed s p u y args value inside rest None r h g e = none-some r e
    then-fixed s p u y args value inside rest (Some a) r h g e =
        with-fixed (WasRead p (s.store p) u y args a.items) s (WasRead p value u y args inside rest) (fix_by code again a.state rest) r
        (λ b k. Fix.read (h a refl) (g a.state b k)) e

    pub fix-sound : (s : State) (l : Trace) (r : Fixed) → fix_by code again s l ≡ Some r → Fix code names s l r.state r.items
    fix-sound s Nothing r e = subst (λ r. Fix code names s Nothing r.state r.items) (some-same (record { state = s; items = Nothing }) r e) Fix.end
    fix-sound s (Stepped rest) r e = with-fixed Stepped s (Stepped rest) (fix_by code again s rest) r (λ a k. Fix.step (fix-sound s rest a k)) e
    fix-sound s (Allocated b key rest) r e =
        with-fixed (Allocated b key) s (Allocated b key rest) (fix_by code again (clears code s b key) rest) r (λ a k. Fix.alloc (fix-sound (clears code s b key) rest a k)) e
    fix-sound s (Wrote p value rest) r e =
        with-fixed (Wrote p value) s (Wrote p value rest) (fix_by code again (puts s p value) rest) r (λ a k. Fix.write (fix-sound (puts s p value) rest a k)) e
    fix-sound s (WasRead p value u y args inside rest) r e =
        then-fixed s p u y args value inside rest (mend_if code again s p u y args inside (fix_by code again s inside) (same_word (s.store p) value)) r
        (λ a k. mend-if-sound s p u y args value inside (fix_by code again s inside) (same_word (s.store p) value) a refl (fix-sound s inside) k)
        (λ t a k. fix-sound t rest a k) e

    mend-sound : (s : State) (p : Place) (u : UnitId) (y : ℕ) (args : List Word) (value : Word) (inside : Trace) (r : Fixed)
        → mend_by code again s p u y args value inside ≡ Some r → Mend code names s p u y args value inside r.state r.items
    mend-sound s p u y args value inside r e =
        mend-if-sound s p u y args value inside (fix_by code again s inside) (same_word (s.store p) value) r refl (fix-sound s inside) e

    make-sound : (s : State) (st : Stack) (old : Trace) (key : Key) (v u i : ℕ) (env : Variables) (below : Stack) (o : Option TakenAlloc) (r : Ran)
        → next code s.plain st ≡ Makes key v u i env below → take_alloc key old ≡ o
        → make_by code names again s old key v u i env below o ≡ Some r → Reruns code names s st old r.state r.items r.left
    make-sound s st old key v u i env below (Some t) r n w e =
        with-ran (λ l. Stepped (Allocated t.block key l)) s st old (again (clears code (works s) t.block key) (Run u i (set env v (pointer key t.block)) below) t.leftover) r
        (λ a k. Reruns.takes_alloc n w (sound (clears code (works s) t.block key) (Run u i (set env v (pointer key t.block)) below) t.leftover a k)) e
    make-sound s st old key v u i env below None r n w e =
        with-ran (λ l. Stepped (Allocated (Core (names s.number)) key l)) s st old (again (grows code names (works s) key) (Run u i (set env v (pointer key (Core (names s.number)))) below) old) r
        (λ a k. Reruns.makes n w (sound (grows code names (works s) key) (Run u i (set env v (pointer key (Core (names s.number)))) below) old a k)) e

    take-then : (s : State) (st : Stack) (old : Trace) (p : Place) (u : UnitId) (y : ℕ) (args : List Word) (below : Stack) (t : TakenRead) (o : Option Fixed) (r : Ran)
        → next code s.plain st ≡ Reads p u y args below → take_read p u y args old ≡ Some t
        → ((a : Fixed) → o ≡ Some a → Mend code names (works s) p u y args t.value t.inside a.state a.items)
        → and_run o (λ a. ran_with (λ l. Stepped (WasRead p (s.store p) u y args a.items l)) (again a.state below t.leftover)) ≡ Some r
        → Reruns code names s st old r.state r.items r.left
    take-then s st old p u y args below t None r n w h e = none-some r e
    take-then s st old p u y args below t (Some a) r n w h e =
        with-ran (λ l. Stepped (WasRead p (s.store p) u y args a.items l)) s st old (again a.state below t.leftover) r
        (λ b k. Reruns.takes_read n w (h a refl) (sound a.state below t.leftover b k)) e

    read-then : (s : State) (st : Stack) (old : Trace) (p : Place) (u : UnitId) (y : ℕ) (args : List Word) (below : Stack) (o : Option Ran) (r : Ran)
        → next code s.plain st ≡ Reads p u y args below → take_read p u y args old ≡ None
        → ((a : Ran) → o ≡ Some a → Reruns code names (works s) (resumed code u y args (s.store p)) old a.state a.items a.left)
        → and_ran o (λ a. ran_with (λ l. Stepped (WasRead p (s.store p) u y args a.items l)) (again a.state below a.left)) ≡ Some r
        → Reruns code names s st old r.state r.items r.left
    read-then s st old p u y args below None r n w h e = none-some r e
    read-then s st old p u y args below (Some a) r n w h e =
        with-ran (λ l. Stepped (WasRead p (s.store p) u y args a.items l)) s st old (again a.state below a.left) r
        (λ b k. Reruns.reads n w (h a refl) (sound a.state below a.left b k)) e

    read-sound : (s : State) (st : Stack) (old : Trace) (p : Place) (u : UnitId) (y : ℕ) (args : List Word) (below : Stack) (o : Option TakenRead) (r : Ran)
        → next code s.plain st ≡ Reads p u y args below → take_read p u y args old ≡ o
        → read_by code again s old p u y args below o ≡ Some r → Reruns code names s st old r.state r.items r.left
    read-sound s st old p u y args below (Some t) r n w e =
        take-then s st old p u y args below t (mend_by code again (works s) p u y args t.value t.inside) r n w (mend-sound (works s) p u y args t.value t.inside) e
    read-sound s st old p u y args below None r n w e =
        read-then s st old p u y args below (again (works s) (resumed code u y args (s.store p)) old) r n w
        (sound (works s) (resumed code u y args (s.store p)) old) e

    perform-sound : (s : State) (st : Stack) (old : Trace) (a : Act) (r : Ran) → next code s.plain st ≡ a → perform code names again s old a ≡ Some r
        → Reruns code names s st old r.state r.items r.left
    perform-sound s st old Over r n e =
        subst (λ r. Reruns code names s st old r.state r.items r.left) (some-same (record { state = s; items = Nothing; left = old }) r e) (Reruns.over n)
    perform-sound s st old (Quiet after) r n e = with-ran Stepped s st old (again (works s) after old) r (λ a k. Reruns.quiet n (sound (works s) after old a k)) e
    perform-sound s st old (Makes key v u i env below) r n e = make-sound s st old key v u i env below (take_alloc key old) r n refl e
    perform-sound s st old (Writes p value after) r n e =
        with-ran (λ l. Stepped (Wrote p value l)) s st old (again (puts (works s) p value) after old) r (λ a k. Reruns.writes n (sound (puts (works s) p value) after old a k)) e
    perform-sound s st old (Reads p u y args below) r n e = read-sound s st old p u y args below (take_read p u y args old) r n refl e

  pub anew-sound : (d : ℕ) → (s : State) (st : Stack) (old : Trace) (r : Ran) → rerun code names d s st old ≡ Some r → Reruns code names s st old r.state r.items r.left
  unfolding rerun
  anew-sound zero s st old r e = none-some r e
  anew-sound (suc d) s st old r e = perform-sound (rerun code names d) (anew-sound d) s st old (next code s.plain st) r refl e

  -- a bound that is enough for runs of less than n steps
  abbrev pub Enough : Runner → ℕ → Type 0
  Enough again n = (s s' : State) (st : Stack) (old new left : Trace) → Reruns code names s st old s' new left → s'.work < s.work + n
      → again s st old ≡ Some (record { state = s'; items = new; left = left })

  module _ (again : Runner) (n : ℕ) (enough : Enough again n) where
    mutual
      pub fix-found : {s s' : State} {old new : Trace} → Fix code names s old s' new → s'.work < s.work + n → fix_by code again s old ≡ Some (record { state = s'; items = new })
      fix-found Fix.end h = refl
      fix-found (Fix.step f) h = rw (fix-found f h)
      fix-found (Fix.alloc f) h = rw (fix-found f h)
      fix-found (Fix.write f) h = rw (fix-found f h)
      fix-found (Fix.read m f) h = rw (mend-found m (omega (arith, h, fix-rises f)), fix-found f (omega (arith, h, mend-rises m)))

      pub mend-found : {s t : State} {p : Place} {u : UnitId} {y : ℕ} {args : List Word} {value : Word} {old new : Trace}
          → Mend code names s p u y args value old t new → t.work < s.work + n
          → mend_if code again s p u y args old (fix_by code again s old) (same_word (s.store p) value) ≡ Some (record { state = t; items = new })
      mend-found {s} {t} {p} {u} {y} {args} {value} (Mend.kept e f) h = rw (e, word-refl value, fix-found f h)
      mend-found {s} {t} {p} {u} {y} {args} {value} {old} {new} (Mend.stale {left = left} e a) h =
          rw (not-same (s.store p) value e, enough s t (resumed code u y args (s.store p)) old new left a h)

  pub anew-found : (d : ℕ) → Enough (rerun code names d) d
  unfolding rerun
  anew-found zero s s' st old new left a h = absurd (omega (arith, h, anew-rises a))
  anew-found (suc d) s s' st old new left (Reruns.over e) h = rw e
  anew-found (suc d) s s' st old new left (Reruns.quiet {after = after} {new = l} e a) h =
      rw (e, anew-found d (works s) s' after old l left a (omega (arith, h)))
  anew-found (suc d) s s' st old new left (Reruns.takes_alloc {below = below} {key = key} {v = v} {u = u} {i = i} {env = env} {new = l} {t = t} e w a) h =
      rw (e, w, anew-found d (clears code (works s) t.block key) s' (Run u i (set env v (pointer key t.block)) below) t.leftover l left a (omega (arith, h)))
  anew-found (suc d) s s' st old new left (Reruns.makes {below = below} {key = key} {v = v} {u = u} {i = i} {env = env} {new = l} e w a) h =
      rw (e, w, anew-found d (grows code names (works s) key) s' (Run u i (set env v (pointer key (Core (names s.number)))) below) old l left a (omega (arith, h)))
  anew-found (suc d) s s' st old new left (Reruns.writes {after = after} {p = p} {value = value} {new = l} e a) h =
      rw (e, anew-found d (puts (works s) p value) s' after old l left a (omega (arith, h)))
  anew-found (suc d) s s' st old new left (Reruns.takes_read {t = t} {below = below} {p = p} {u = u} {v = y} {args = args} {inside' = i} {new = l} {r = r} e w m a) h =
      rw (
        e,
        w,
        mend-found (rerun code names d) d (anew-found d) m (omega (arith, h, anew-rises a)),
        anew-found d t s' below r.leftover l left a (omega (arith, h, mend-rises m)),
      )
  anew-found (suc d) s s' st old new left (Reruns.reads {t = t} {below = below} {p = p} {u = u} {v = y} {args = args} {between = between} {inside' = i} {new = l} e w m a) h =
      rw (
        e,
        w,
        anew-found d (works s) t (resumed code u y args (s.store p)) old i between m (omega (arith, h, anew-rises a)),
        anew-found d t s' below between l left a (omega (arith, h, anew-rises m)),
      )

module _ (code : Code) where
  module _ (inputs : List Block) (number n : ℕ) (old : Trace) where
    within-sound : (o : Option Fixed) (r : Repaired) → o ≡ fix_by code (rerun code own (n + 1)) (begins code inputs (plain_of code inputs old) number) old
        → fixed_within n o ≡ Some r → Adjusts code inputs number old r.items r.work × r.work ≤ n
    within-sound None r h e = none-some r e
    within-sound (Some f) r h e = go (nat_le f.state.work n) refl e
      where
        go : (b : Bool) → nat_le f.state.work n ≡ b → (if b then Some (record { items = f.items; work = f.state.work }) else None) ≡ Some r
            → Adjusts code inputs number old r.items r.work × r.work ≤ n
        go false k e = none-some r e
        go true k e =
            subst (λ r. Adjusts code inputs number old r.items r.work × r.work ≤ n) (some-same (record { items = f.items; work = f.state.work }) r e) (
              record {
                after = f.state;
                fix = fix-sound code own (rerun code own (n + 1)) (anew-sound code own (n + 1))
                    (begins code inputs (plain_of code inputs old) number) old f (sym h);
                counted = refl;
              },
              grind (arith, k),
            )

    -- the function gives repairs by the rules, with no more work than it may
    pub adjusted-sound : (r : Repaired) → adjusted code inputs number n old ≡ Some r → Adjusts code inputs number old r.items r.work × r.work ≤ n
    unfolding adjusted
    adjusted-sound r e = within-sound (fix_by code (rerun code own (n + 1)) (begins code inputs (plain_of code inputs old) number) old) r refl e

    -- and each of them
    pub adjusted-found : (new : Trace) (work : ℕ) → Adjusts code inputs number old new work → work ≤ n → adjusted code inputs number n old ≡ Some (record { items = new; work = work })
    unfolding adjusted
    adjusted-found new work a h =
        let k : nat_le a.after.work n ≡ true = grind (arith, h, a.counted) in
        rw (fix-found code own (rerun code own (n + 1)) (n + 1) (anew-found code own (n + 1)) a.fix (omega (arith, h, a.counted)), k, a.counted)

  module _ (inputs : List Block) (n f : ℕ) (args : List Word) where
    first-within : (o : Option Ran) (r : Repaired) → o ≡ rerun code own (n + 1) (begins code inputs (input_plain code inputs) 0) (started code f args) Nothing
        → ran_within n o ≡ Some r → Firsts code inputs f args r.items r.work × r.work ≤ n
    first-within None r h e = none-some r e
    first-within (Some a) r h e = go (nat_le a.state.work n) refl e
      where
        go : (b : Bool) → nat_le a.state.work n ≡ b → (if b then Some (record { items = a.items; work = a.state.work }) else None) ≡ Some r
            → Firsts code inputs f args r.items r.work × r.work ≤ n
        go false k e = none-some r e
        go true k e =
            subst (λ r. Firsts code inputs f args r.items r.work × r.work ≤ n) (some-same (record { items = a.items; work = a.state.work }) r e) (
              record { after = a.state; left = a.left; anew = anew-sound code own (n + 1) (begins code inputs (input_plain code inputs) 0) (started code f args) Nothing a (sym h); counted = refl },
              grind (arith, k),
            )

    -- so with first traces
    pub first-sound : (r : Repaired) → first_of code inputs n f args ≡ Some r → Firsts code inputs f args r.items r.work × r.work ≤ n
    unfolding first_of
    first-sound r e = first-within (rerun code own (n + 1) (begins code inputs (input_plain code inputs) 0) (started code f args) Nothing) r refl e

    pub first-found : (new : Trace) (work : ℕ) → Firsts code inputs f args new work → work ≤ n → first_of code inputs n f args ≡ Some (record { items = new; work = work })
    unfolding first_of
    first-found new work a h =
        let k : nat_le a.after.work n ≡ true = grind (arith, h, a.counted) in
        rw (anew-found code own (n + 1) (begins code inputs (input_plain code inputs) 0) a.after (started code f args) Nothing new a.left a.anew (omega (arith, h, a.counted)), k, a.counted)
