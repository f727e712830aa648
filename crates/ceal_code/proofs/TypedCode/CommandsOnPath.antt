-- In valid code each command of a unit's body lies on a path from the first, and is right there.
use Rattle.std.proofs.Common.{◌≡◌, ℕ, zero, suc, ◌+◌, ◌<◌, nat_lt, not, Bool, true, false, if◌then◌else◌, Option, Some, None, List, [], ◌∷◌, length, replicate, Contains, ◌⊎◌, inl, inr, refl, sym, ap}
use Rattle.std.proofs.Common.{◌∙◌, subst, slice_get, slice_set, unwrap_or, arith}
use Rattle.std.proofs.lemmas.List.{length-set, length-replicate}
use Rattle.std.proofs.lemmas.List.Elements.{Contains-append_left, Contains-append_right, Contains-append_cases, Contains-push, Contains-push_cases}
use Rattle.ceal_code.proofs.Replay.MemoryChanges.{get-within}
use Rattle.ceal_code.proofs.Words.SameIsEqual.{both, some-same, none-some}
use Rattle.ceal_code.proofs.TypedCode.TypedBlocks.{unit-valid}
use Rattle.ceal_code.proofs.TypedCode.TypedStack.{known-set, unit-tree, unit-path}
use Rattle.ceal_code.specs.OnPath.{params_known, known_after, IsOnPath, IsReached}
use Rattle.ceal_code.specs.Program.{Unit as CodeUnit, Code}
use Rattle.ceal_code.specs.Valid.{command_ok, onward, path_ok, paths_ok, goes_forward, all_forward, followers, all_followers, reached, all_true, all_but_first, is_tree, unit_ok, valid}
use Rattle.ceal_code.specs.declared.command.Cmd.{Cmd}
use Rattle.ceal_code.specs.declared.command.Cmd.TheVariants.{Move, Tick, Alloc, Modref, Write, If, Done, Tail, Read, Call}

contains-none : (j : ℕ) → Contains [] j → ⊥
contains-none j h = absurd (omega (arith, h.1))

contains-one : (i j : ℕ) → Contains (i ∷ []) j → i ≡ j
contains-one i j h = elim (Contains-push_cases [] i j h) [ inl k ↦ absurd (contains-none j k) | inr e ↦ e ]

contains-two : (i k j : ℕ) → Contains (i ∷ k ∷ []) j → (i ≡ j) ⊎ (k ≡ j)
contains-two i k j h = elim (Contains-append_cases (i ∷ []) (k ∷ []) j h) [ inl m ↦ inl (contains-one i j m) | inr m ↦ inr (contains-one k j m) ]

marked : List Bool → ℕ → Bool
marked marks j = unwrap_or (slice_get marks j) false

-- what is marked at the end was marked before, or is one of the indices
marked-in : (js : List ℕ) (marks marks' : List Bool) (j : ℕ) → reached marks js ≡ Some marks' → marked marks' j ≡ true → (marked marks j ≡ true) ⊎ Contains js j
unfolding reached marked
marked-in [] marks marks' j h k = inl (ap (λ marks. marked marks j) (some-same marks marks' h) ∙ k)
marked-in (i ∷ js) marks marks' j h k = go (λ h. marked-in js (slice_set marks i true) marks' j h k) (unwrap_or (slice_get marks i) true) h
  where
    later : (marked (slice_set marks i true) j ≡ true) ⊎ Contains js j → (marked marks j ≡ true) ⊎ Contains (i ∷ js) j
    later (inr c) = inr (Contains-append_right (i ∷ []) js j c)
    later (inl m) = elim (known-set marks i j m) [
      | inl e ↦ inr (subst (Contains (i ∷ js)) (sym e) (Contains-append_left (i ∷ []) js i (Contains-push [] i)))
      | inr n ↦ inl n
    ]

    go : (reached (slice_set marks i true) js ≡ Some marks' → (marked (slice_set marks i true) j ≡ true) ⊎ Contains js j)
        → (b : Bool) → (if b then None else reached (slice_set marks i true) js) ≡ Some marks' → (marked marks j ≡ true) ⊎ Contains (i ∷ js) j
    go again true h = none-some marks' h
    go again false h = later (again h)

reached-length : (js : List ℕ) (marks marks' : List Bool) → reached marks js ≡ Some marks' → length marks' ≡ length marks
unfolding reached
reached-length [] marks marks' h = ap length (sym (some-same marks marks' h))
reached-length (i ∷ js) marks marks' h = go (reached-length js (slice_set marks i true) marks') (unwrap_or (slice_get marks i) true) h
  where
    go : (reached (slice_set marks i true) js ≡ Some marks' → length marks' ≡ length (slice_set marks i true))
        → (b : Bool) → (if b then None else reached (slice_set marks i true) js) ≡ Some marks' → length marks' ≡ length marks
    go again true h = none-some marks' h
    go again false h = again h ∙ length-set marks i true

all-marked : (bs : List Bool) (j : ℕ) → all_true bs ≡ true → j < length bs → unwrap_or (slice_get bs j) false ≡ true
unfolding all_true
all-marked [] j h l = absurd (omega (arith, l))
all-marked (b ∷ bs) zero h l = (both b (all_true bs) h).0
all-marked (b ∷ bs) (suc j) h l = all-marked bs j (both b (all_true bs) h).1 (omega (arith, l))

none-marked : (n j : ℕ) → unwrap_or (slice_get (replicate n false) j) false ≡ true → ⊥
none-marked zero j h = absurd (grind (arith, h))
none-marked (suc n) zero h = absurd (grind (arith, h))
none-marked (suc n) (suc j) h = none-marked n j h

-- each index of a tree but the first is reached
is-reached : (body : List Cmd) (j : ℕ) → is_tree body ≡ true → suc j < length body → Contains (all_followers body 0) (suc j)
unfolding is_tree marked
is-reached body j h l = go (reached (replicate (length body) false) (all_followers body 0)) refl h
  where
    go : (o : Option (List Bool)) → reached (replicate (length body) false) (all_followers body 0) ≡ o → all_but_first o ≡ true → Contains (all_followers body 0) (suc j)
    go None e k = absurd (grind (arith, k))
    go (Some []) e k = absurd (grind (arith, k))
    go (Some (b ∷ bs)) e k =
        let long = reached-length (all_followers body 0) (replicate (length body) false) (b ∷ bs) e in
        let same = length-replicate (length body) false in
        let m = all-marked bs j (both (not b) (all_true bs) k).1 (omega (arith, l, long, same)) in
        elim (marked-in (all_followers body 0) (replicate (length body) false) (b ∷ bs) (suc j) e m) [
          | inl n ↦ absurd (none-marked (length body) (suc j) n)
          | inr c ↦ c
        ]

-- a command of a body, one of whose followers is the index
record From (body : List Cmd) (n j : ℕ) : Type 0 where
  i : ℕ
  c : Cmd
  there : slice_get body i ≡ Some c
  leads : Contains (followers c (n + i)) j

from-in : (cs : List Cmd) (n j : ℕ) → Contains (all_followers cs n) j → From cs n j
unfolding all_followers
from-in [] n j h = absurd (contains-none j h)
from-in (c ∷ cs) n j h = elim (Contains-append_cases (followers c n) (all_followers cs (n + 1)) j h) [
  | inl k ↦ let same : n ≡ n + 0 = omega arith in record { i = 0; c = c; there = refl; leads = subst (λ m. Contains (followers c m) j) same k }
  | inr k ↦
      let r = from-in cs (n + 1) j k in
      let same : (n + 1) + r.i ≡ n + suc r.i = omega arith in
      record { i = suc r.i; c = r.c; there = r.there; leads = subst (λ m. Contains (followers r.c m) j) same r.leads }
]

forward-at : (cs : List Cmd) (n i : ℕ) (c : Cmd) → all_forward cs n ≡ true → slice_get cs i ≡ Some c → goes_forward c (n + i) ≡ true
unfolding all_forward
forward-at [] n i c h e = none-some c e
forward-at (d ∷ cs) n zero c h e =
    let p = both (goes_forward d n) (all_forward cs (n + 1)) h in
    let same : n ≡ n + 0 = omega arith in
    subst (λ m. goes_forward c m ≡ true) same (subst (λ d. goes_forward d n ≡ true) (some-same d c e) p.0)
forward-at (d ∷ cs) n (suc i) c h e =
    let p = both (goes_forward d n) (all_forward cs (n + 1)) h in
    let same : (n + 1) + i ≡ n + suc i = omega arith in
    subst (λ m. goes_forward c m ≡ true) same (forward-at cs (n + 1) i c p.1 e)

behind : (c : Cmd) (i j : ℕ) → goes_forward c i ≡ true → Contains (followers c i) j → i < j
behind (Move v e) i j f h = let k = contains-one (i + 1) j h in omega (arith, k)
behind Tick i j f h = let k = contains-one (i + 1) j h in omega (arith, k)
behind (Alloc v g args) i j f h = let k = contains-one (i + 1) j h in omega (arith, k)
behind (Modref v shape) i j f h = let k = contains-one (i + 1) j h in omega (arith, k)
behind (Write p e) i j f h = let k = contains-one (i + 1) j h in omega (arith, k)
behind (If test first second) i j f h =
    let k = both (nat_lt i first) (nat_lt i second) f in
    elim (contains-two first second j h) [
      | inl e ↦ let l : i < first = grind (arith, k.0) in omega (arith, e, l)
      | inr e ↦ let l : i < second = grind (arith, k.1) in omega (arith, e, l)
    ]
behind Done i j f h = absurd (contains-none j h)
behind (Tail w args) i j f h = absurd (contains-none j h)
behind (Read v p w args) i j f h = absurd (contains-none j h)
behind (Call g args w rest) i j f h = absurd (contains-none j h)

module _ (code : Code) (unit : CodeUnit) where
  -- some path reaches each index of a tree that goes forward
  on-path : all_forward unit.body 0 ≡ true → is_tree unit.body ≡ true → (n j : ℕ) → j < n → j < length unit.body → IsReached code unit j
  on-path f t zero j l m = absurd (omega (arith, l))
  on-path f t (suc n) zero l m = record { known = params_known code unit; stepped = false; path = IsOnPath.first }
  on-path f t (suc n) (suc j) l m =
      let r = from-in unit.body 0 (suc j) (is-reached unit.body j t m) in
      let same : 0 + r.i ≡ r.i = omega arith in
      let leads : Contains (followers r.c r.i) (suc j) = subst (λ k. Contains (followers r.c k) (suc j)) same r.leads in
      let up : goes_forward r.c r.i ≡ true = subst (λ k. goes_forward r.c k ≡ true) same (forward-at unit.body 0 r.i r.c f r.there) in
      let before = behind r.c r.i (suc j) up leads in
      let to = on-path f t n r.i (omega (arith, before, l)) (get-within unit.body r.i r.c r.there) in
      record { known = known_after to.known r.c; stepped = true; path = IsOnPath.next to.path r.there leads }

module _ (code : Code) (f : ℕ) (body : List Cmd) where
  -- a path that reaches the index continues rightly
  record PathAt (i : ℕ) (known : List Bool) (stepped : Bool) : Type 0 where
    fuel : ℕ
    ok : paths_ok code f body fuel i known stepped ≡ true

  record CommandAt (i : ℕ) (known : List Bool) (stepped : Bool) (c : Cmd) : Type 0 where
    fuel : ℕ
    ok : command_ok code f known stepped c ≡ true
    on : onward (paths_ok code f body fuel) c i known ≡ true

  command-of : (i : ℕ) (known : List Bool) (stepped : Bool) (c : Cmd) → slice_get body i ≡ Some c → PathAt i known stepped → CommandAt i known stepped c
  unfolding paths_ok
  command-of i known stepped c e p = go p.fuel p.ok
    where
      found : (n : ℕ) (o : Option Cmd) → slice_get body i ≡ o → path_ok code f (paths_ok code f body n) o i known stepped ≡ true → CommandAt i known stepped c
      found n None g h = none-some c (sym g ∙ e)
      found n (Some d) g h =
          let k = both (command_ok code f known stepped d) (onward (paths_ok code f body n) d i known) h in
          subst (CommandAt i known stepped) (some-same d c (sym g ∙ e)) (record { fuel = n; ok = k.0; on = k.1 })

      go : (n : ℕ) → paths_ok code f body n i known stepped ≡ true → CommandAt i known stepped c
      go zero h = absurd (grind (arith, h))
      go (suc n) h = found n (slice_get body i) refl h

  goes-on : (c : Cmd) (i j fuel : ℕ) (known : List Bool) → onward (paths_ok code f body fuel) c i known ≡ true → Contains (followers c i) j
      → PathAt j (known_after known c) true
  goes-on (Move v e) i j fuel known h k = subst (λ j. PathAt j (slice_set known v.0 true) true) (contains-one (i + 1) j k) (record { fuel = fuel; ok = h })
  goes-on Tick i j fuel known h k = subst (λ j. PathAt j known true) (contains-one (i + 1) j k) (record { fuel = fuel; ok = h })
  goes-on (Alloc v g args) i j fuel known h k = subst (λ j. PathAt j (slice_set known v.0 true) true) (contains-one (i + 1) j k) (record { fuel = fuel; ok = h })
  goes-on (Modref v shape) i j fuel known h k = subst (λ j. PathAt j (slice_set known v.0 true) true) (contains-one (i + 1) j k) (record { fuel = fuel; ok = h })
  goes-on (Write p e) i j fuel known h k = subst (λ j. PathAt j known true) (contains-one (i + 1) j k) (record { fuel = fuel; ok = h })
  goes-on (If test first second) i j fuel known h k =
      let both' = both (paths_ok code f body fuel first known true) (paths_ok code f body fuel second known true) h in
      elim (contains-two first second j k) [
        | inl e ↦ subst (λ j. PathAt j known true) e (record { fuel = fuel; ok = both'.0 })
        | inr e ↦ subst (λ j. PathAt j known true) e (record { fuel = fuel; ok = both'.1 })
      ]
  goes-on Done i j fuel known h k = absurd (contains-none j k)
  goes-on (Tail w args) i j fuel known h k = absurd (contains-none j k)
  goes-on (Read v p w args) i j fuel known h k = absurd (contains-none j k)
  goes-on (Call g args w rest) i j fuel known h k = absurd (contains-none j k)

module _ (code : Code) (unit : CodeUnit) (right : unit_ok code unit ≡ true) where
  path-at : (j : ℕ) (known : List Bool) (stepped : Bool) → IsOnPath code unit j known stepped → PathAt code unit.function unit.body j known stepped
  path-at j known stepped IsOnPath.first = record { fuel = length unit.body; ok = unit-path code unit right }
  path-at j known stepped (IsOnPath.next {i = i} {known = k} {stepped = s} {c = c} h e leads) =
      let at = command-of code unit.function unit.body i k s c e (path-at i k s h) in
      goes-on code unit.function unit.body c i j at.fuel k at.on leads

-- some path reaches each command of valid code, which is right for what is known on each path to it
pub on-right-path : (code : Code) → valid code ≡ true → (u : ℕ) (unit : CodeUnit) → slice_get code.units u ≡ Some unit → (i : ℕ) (c : Cmd) → slice_get unit.body i ≡ Some c
    → IsReached code unit i × ((known : List Bool) (stepped : Bool) → IsOnPath code unit i known stepped → command_ok code unit.function known stepped c ≡ true)
on-right-path code ok u unit there i c e =
    let right = unit-valid code ok u unit there in
    let shape = unit-tree code unit right in
    let within = get-within unit.body i c e in (
      on-path code unit shape.0 shape.1 (suc i) i (omega arith) within,
      (λ known stepped path. (command-of code unit.function unit.body i known stepped c e (path-at code unit right i known stepped path)).ok),
    )
