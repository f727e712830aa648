-- The function gives what the rules of slices give, and all of it that its bound allows.
use Rattle.std.proofs.Common.{◌≡◌, ℕ, zero, suc, ◌+◌, ◌≤◌, ◌<◌, Bool, true, false, nat_le, if◌then◌else◌, Option, Some, None, List, refl, sym, subst, arith}
use Rattle.ceal_base.specs.Block.{Block}
use Rattle.ceal_base.specs.Operators.{same_word}
use Rattle.ceal_base.specs.Trace.{Trace, Nothing, Stepped, Allocated, Wrote, WasRead}
use Rattle.ceal_base.specs.declared.forest.UnitId.{UnitId}
use Rattle.ceal_base.specs.declared.word.Place.{Place}
use Rattle.ceal_base.specs.declared.word.Word.{Word}
use Rattle.ceal_code.proofs.Words.SameIsEqual.{word-same, word-refl, some-same, none-some}
use Rattle.ceal_code.specs.Program.{Code}
use Rattle.ceal_theory.proofs.Repair.FunctionOfRules.{not-same, Sound as Sound_runner, Enough, fix-sound, anew-sound, fix-found, anew-found}
use Rattle.ceal_theory.proofs.Repair.Honesty.{anew-rises}
use Rattle.ceal_theory.specs.Computed.{Fixed, Ran, Runner, fix_by, rerun}
use Rattle.ceal_theory.specs.Repair.{State, clears, puts, resumed, Reruns}
use Rattle.ceal_theory.specs.Slices.{Repair, goes_on, Part, Runs, repair_at, Slices, Cut, cut_with, and_cut, cut_off, cut_if, part_by, whole_within, part_within, sliced}

pub part-rises : {code : Code} {names : ℕ → ℕ} {k j : ℕ} {s s' : State} {l m : Trace} → Part code names k s l j s' m → s.work ≤ s'.work
part-rises Part.stays = omega arith
part-rises Part.end = omega arith
part-rises (Part.step f) = part-rises f
part-rises (Part.alloc f) = part-rises f
part-rises (Part.write f) = part-rises f
part-rises (Part.kept e g f) = omega (arith, part-rises g, part-rises f)
part-rises (Part.stale n a f) = omega (arith, anew-rises a, part-rises f)

module _ (code : Code) (names : ℕ → ℕ) where
  abbrev IsPart : ℕ → State → Trace → Cut → Type 0
  IsPart k s l c = Part code names k s l c.left c.state c.items

  with-cut : (f : Trace → Trace) (k : ℕ) (s : State) (l : Trace) (o : Option Cut) (c : Cut)
      → ((a : Cut) → o ≡ Some a → IsPart k s l (record a { items = f a.items })) → cut_with f o ≡ Some c → IsPart k s l c
  with-cut f k s l None c h e = none-some c e
  with-cut f k s l (Some a) c h e = subst (λ c. IsPart k s l c) (some-same (record a { items = f a.items }) c e) (h a refl)

  module _ (again : Runner) (sound : Sound_runner code names again) where
    -- what a read's items become
    abbrev Mends : ℕ → State → Place → UnitId → ℕ → List Word → Word → Trace → Cut → Type 0
    Mends k s p u v args value inside c = (rest rest' : Trace) (j : ℕ) (s' : State) → Part code names c.left c.state rest j s' rest'
        → Part code names (suc k) s (WasRead p value u v args inside rest) j s' (WasRead p (s.store p) u v args c.items rest')

    off-sound : (k : ℕ) (s : State) (p : Place) (u : UnitId) (v : ℕ) (args : List Word) (value : Word) (inside : Trace) (o : Option Ran) (c : Cut)
        → same_word (s.store p) value ≡ false
        → ((a : Ran) → o ≡ Some a → Reruns code names s (resumed code u v args (s.store p)) inside a.state a.items a.left)
        → cut_off k o ≡ Some c → Mends k s p u v args value inside c
    off-sound k s p u v args value inside None c n h e = none-some c e
    off-sound k s p u v args value inside (Some a) c n h e =
        subst (λ c. Mends k s p u v args value inside c) (some-same (record { left = k; state = a.state; items = a.items }) c e)
        (λ rest rest' j s' q. Part.stale (λ same. grind (arith, rw same at n, word-refl value)) (h a refl) q)

    if-sound : (k : ℕ) (s : State) (p : Place) (u : UnitId) (v : ℕ) (args : List Word) (value : Word) (inside : Trace) (walked : Option Cut) (b : Bool) (c : Cut)
        → same_word (s.store p) value ≡ b
        → ((a : Cut) → walked ≡ Some a → IsPart (suc k) s inside a)
        → cut_if code again k s p u v args inside walked b ≡ Some c → Mends k s p u v args value inside c
    if-sound k s p u v args value inside walked true c n h e = λ rest rest' j s' q. Part.kept (word-same (s.store p) value n) (h c e) q
    if-sound k s p u v args value inside walked false c n h e =
        off-sound k s p u v args value inside (again s (resumed code u v args (s.store p)) inside) c n (sound s (resumed code u v args (s.store p)) inside) e

    then-cut : (k : ℕ) (s : State) (p : Place) (u : UnitId) (v : ℕ) (args : List Word) (value : Word) (inside rest : Trace) (o : Option Cut) (c : Cut)
        → ((a : Cut) → o ≡ Some a → Mends k s p u v args value inside a)
        → ((a b : Cut) → part_by code again a.left a.state rest ≡ Some b → IsPart a.left a.state rest b)
        → and_cut o (λ a. cut_with (WasRead p (s.store p) u v args a.items) (part_by code again a.left a.state rest)) ≡ Some c
        → IsPart (suc k) s (WasRead p value u v args inside rest) c
    then-cut k s p u v args value inside rest None c f g e = none-some c e
    then-cut k s p u v args value inside rest (Some a) c f g e =
        with-cut (WasRead p (s.store p) u v args a.items) (suc k) s (WasRead p value u v args inside rest) (part_by code again a.left a.state rest) c
        (λ b h. f a refl rest b.items b.left b.state (g a b h)) e

    pub part-sound : (k : ℕ) (s : State) (l : Trace) (c : Cut) → part_by code again k s l ≡ Some c → IsPart k s l c
    part-sound zero s l c e = subst (λ c. IsPart zero s l c) (some-same (record { left = zero; state = s; items = l }) c e) Part.stays
    part-sound (suc k) s Nothing c e = subst (λ c. IsPart (suc k) s Nothing c) (some-same (record { left = suc k; state = s; items = Nothing }) c e) Part.end
    part-sound (suc k) s (Stepped rest) c e = with-cut Stepped (suc k) s (Stepped rest) (part_by code again (suc k) s rest) c (λ a h. Part.step (part-sound (suc k) s rest a h)) e
    part-sound (suc k) s (Allocated b key rest) c e =
        with-cut (Allocated b key) (suc k) s (Allocated b key rest) (part_by code again (suc k) (clears code s b key) rest) c (λ a h. Part.alloc (part-sound (suc k) (clears code s b key) rest a h)) e
    part-sound (suc k) s (Wrote p value rest) c e =
        with-cut (Wrote p value) (suc k) s (Wrote p value rest) (part_by code again (suc k) (puts s p value) rest) c (λ a h. Part.write (part-sound (suc k) (puts s p value) rest a h)) e
    part-sound (suc k) s (WasRead p value u v args inside rest) c e =
        then-cut k s p u v args value inside rest (cut_if code again k s p u v args inside (part_by code again (suc k) s inside) (same_word (s.store p) value)) c
        (λ a h. if-sound k s p u v args value inside (part_by code again (suc k) s inside) (same_word (s.store p) value) a refl (part-sound (suc k) s inside) h)
        (λ a b h. part-sound a.left a.state rest b h) e

  module _ (again : Runner) (n : ℕ) (enough : Enough code names again n) where
    pub part-found : {k j : ℕ} {s s' : State} {l m : Trace} → Part code names k s l j s' m → s'.work < s.work + n → part_by code again k s l ≡ Some (record { left = j; state = s'; items = m })
    part-found Part.stays h = refl
    part-found Part.end h = refl
    part-found (Part.step f) h = rw (part-found f h)
    part-found (Part.alloc f) h = rw (part-found f h)
    part-found (Part.write f) h = rw (part-found f h)
    part-found {s = s} (Part.kept {value = value} e g f) h = rw (e, word-refl value, part-found g (omega (arith, h, part-rises f)), part-found f (omega (arith, h, part-rises g)))
    part-found {s = s} (Part.stale {t = t} {p = p} {value = value} {u = u} {v = v} {args = args} {inside = inside} {inside' = inside'} {left = left} e a f) h =
        rw (
          not-same (s.store p) value e,
          enough s t (resumed code u v args (s.store p)) inside inside' left a (omega (arith, h, part-rises f)),
          part-found f (omega (arith, h, anew-rises a)),
        )

  module _ (inputs : List Block) (n : ℕ) (r : Repair) where
    abbrev start : State
    start = goes_on code inputs r

    abbrev Result : Option ℕ → Repair → Type 0
    Result k r' = Slices code names inputs k r r' × r'.spent ≤ n

    whole-in : (o : Option Fixed) (r' : Repair) → o ≡ fix_by code (rerun code names (n + 1)) start r.items → whole_within n o ≡ Some r' → Result None r'
    whole-in None r' h e = none-some r' e
    whole-in (Some a) r' h e = go (nat_le a.state.work n) refl e
      where
        go : (b : Bool) → nat_le a.state.work n ≡ b → (if b then Some (repair_at a.state a.items) else None) ≡ Some r' → Result None r'
        go false k e = none-some r' e
        go true k e =
            subst (λ r'. Result None r') (some-same (repair_at a.state a.items) r' e) (
              record { after = a.state; items = a.items; runs = Runs.whole (fix-sound code names (rerun code names (n + 1)) (anew-sound code names (n + 1)) start r.items a (sym h)); is = refl },
              grind (arith, k),
            )

    part-in : (k : ℕ) (o : Option Cut) (r' : Repair) → o ≡ part_by code (rerun code names (n + 1)) k start r.items → part_within n o ≡ Some r' → Result (Some k) r'
    part-in k None r' h e = none-some r' e
    part-in k (Some a) r' h e = go (nat_le a.state.work n) refl e
      where
        go : (b : Bool) → nat_le a.state.work n ≡ b → (if b then Some (repair_at a.state a.items) else None) ≡ Some r' → Result (Some k) r'
        go false i e = none-some r' e
        go true i e =
            subst (λ r'. Result (Some k) r') (some-same (repair_at a.state a.items) r' e) (
              record { after = a.state; items = a.items; runs = Runs.part (part-sound (rerun code names (n + 1)) (anew-sound code names (n + 1)) k start r.items a (sym h)); is = refl },
              grind (arith, i),
            )

    -- the function gives slices by the rules, with no more steps spent than may be
    pub sliced-sound : (k : Option ℕ) (r' : Repair) → sliced code names inputs k n r ≡ Some r' → Slices code names inputs k r r' × r'.spent ≤ n
    unfolding sliced
    sliced-sound None r' e = whole-in (fix_by code (rerun code names (n + 1)) start r.items) r' refl e
    sliced-sound (Some k) r' e = part-in k (part_by code (rerun code names (n + 1)) k start r.items) r' refl e

    runs-found : (k : Option ℕ) (s' : State) (m : Trace) → Runs code names k start r.items s' m → s'.work ≤ n → sliced code names inputs k n r ≡ Some (repair_at s' m)
    unfolding sliced
    runs-found None s' m (Runs.whole f) h =
        let k : nat_le s'.work n ≡ true = grind (arith, h) in
        rw (fix-found code names (rerun code names (n + 1)) (n + 1) (anew-found code names (n + 1)) f (omega (arith, h)), k)
    runs-found (Some k) s' m (Runs.part f) h =
        let i : nat_le s'.work n ≡ true = grind (arith, h) in
        rw (part-found (rerun code names (n + 1)) (n + 1) (anew-found code names (n + 1)) f (omega (arith, h)), i)

    -- and each of them
    pub sliced-found : (k : Option ℕ) (r' : Repair) → Slices code names inputs k r r' → r'.spent ≤ n → sliced code names inputs k n r ≡ Some r'
    sliced-found k r' s h =
        subst (λ q. sliced code names inputs k n r ≡ Some q) (sym s.is) (runs-found k s.after s.items s.runs (subst (λ q. q.spent ≤ n) s.is h))
