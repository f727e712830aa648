-- A part of a unit's body, seen as a tree: where each command of it is right, all paths are, and each index is reached
-- once.
use Rattle.std.proofs.Common.{◌≡◌, ℕ, zero, suc, ◌+◌, ◌<◌, ◌≤◌, Bool, true, false, if◌then◌else◌, Some, None, List, []}
use Rattle.std.proofs.Common.{◌∷◌, ◌++◌, length, slice_get, slice_set, unwrap_or, replicate, refl, sym, ap, ◌∙◌, subst}
use Rattle.std.proofs.Common.{arith, append_assoc, length-append}
use Rattle.std.proofs.lemmas.Bool.{lt-ltb}
use Rattle.std.proofs.lemmas.List.{length-replicate, append-nil}
use Rattle.ceal_code.proofs.Words.SameIsEqual.{both, both-true}
use Rattle.ceal_code.proofs.Equations.TreeSteps.{reached-on, tree-is}
use Rattle.ceal_code.specs.Program.{Code}
use Rattle.ceal_code.specs.Step.{kinds_of}
use Rattle.ceal_code.specs.Valid.{type_of, fits, command_ok, onward, path_ok, paths_ok, goes_forward, all_forward, followers, all_followers, reached, all_true, is_tree}
use Rattle.ceal_base.specs.declared.kind.Kind.TheVariants.{Int}
use Rattle.ceal_code.specs.declared.command.Cmd.{Cmd}
use Rattle.ceal_code.specs.declared.command.Cmd.TheVariants.{Move, Tick, Alloc, Modref, Write, If, Done, Tail, Read, Call}
use Rattle.ceal_code.specs.declared.expr.CodeExpr.{CodeExpr}
use Rattle.ceal_flow.proofs.ListFacts.{get-append_right}

-- what is checked of the rest of a path
abbrev pub Walk : Type 0
Walk = ℕ → List Bool → Bool → Bool

module _ (code : Code) (f : ℕ) where
  -- the part from an index on is a tree of right commands, where these variables are known and a step was taken or not
  pub data Good : ℕ → List Bool → Bool → List Cmd → Type 0 where
    leaf : {i : ℕ} {known : List Bool} {stepped : Bool} {part : List Cmd} → (c : Cmd) → part ≡ c ∷ [] → command_ok code f known stepped c ≡ true
        → ((j : ℕ) → followers c j ≡ []) → ((on : Walk) → onward on c i known ≡ true) → Good i known stepped part
    line : {i : ℕ} {known : List Bool} {stepped : Bool} {part : List Cmd} → (c : Cmd) (rest : List Cmd) (later : List Bool) → part ≡ c ∷ rest
        → command_ok code f known stepped c ≡ true → ((j : ℕ) → followers c j ≡ (j + 1) ∷ []) → ((on : Walk) → onward on c i known ≡ on (i + 1) later true)
        → Good (i + 1) later true rest → Good i known stepped part
    fork : {i : ℕ} {known : List Bool} {stepped : Bool} {part : List Cmd} → (test : CodeExpr) (first second : List Cmd)
        → part ≡ If test (i + 1) (i + 1 + length first) ∷ (first ++ second) → fits Int (type_of code.structs (kinds_of code f) known test) ≡ true
        → Good (i + 1) known true first → Good (i + 1 + length first) known true second → Good i known stepped part

  -- no part is empty
  record Filled (part : List Cmd) : Type 0 where
    c : Cmd
    rest : List Cmd
    is : part ≡ c ∷ rest

  filled : (i : ℕ) (known : List Bool) (stepped : Bool) (part : List Cmd) → Good i known stepped part → Filled part
  filled i known stepped part (leaf c e ok none over) = record { c = c; rest = []; is = e }
  filled i known stepped part (line c rest later e ok next step good) = record { c = c; rest = rest; is = e }
  filled i known stepped part (fork test first second e ok one two) = record { c = _; rest = first ++ second; is = e }

  positive : (i : ℕ) (known : List Bool) (stepped : Bool) (part : List Cmd) → Good i known stepped part → 0 < length part
  positive i known stepped part good = let p = filled i known stepped part good in subst (λ cs. 0 < length cs) (sym p.is) (omega arith)

  -- the command at an index of a body
  look : (body before after : List Cmd) (i : ℕ) (c : Cmd) (rest : List Cmd) → body ≡ before ++ ((c ∷ rest) ++ after) → i ≡ length before → slice_get body i ≡ Some c
  look body before after i c rest e at =
      ap (λ b. slice_get b i) e ∙ get-append_right before ((c ∷ rest) ++ after) i 0 (omega (arith, at))

  fork-known : (on : Walk) (i a b : ℕ) (known : List Bool) (test : CodeExpr) → on a known true ≡ true → on b known true ≡ true → onward on (If test a b) i known ≡ true
  fork-known on i a b known test h k = both-true _ _ h k

  module _ (body : List Cmd) where
    step-ok : (fuel i : ℕ) (known : List Bool) (stepped : Bool) (c : Cmd) → slice_get body i ≡ Some c → command_ok code f known stepped c ≡ true
        → onward (paths_ok code f body fuel) c i known ≡ true → paths_ok code f body (suc fuel) i known stepped ≡ true
    unfolding paths_ok
    step-ok fuel i known stepped c at ok on = ap (λ o. path_ok code f (paths_ok code f body fuel) o i known stepped) at ∙ both-true _ _ ok on

    -- each path of the part is right
    pub good-paths : (fuel i : ℕ) (known : List Bool) (stepped : Bool) (part before after : List Cmd) → Good i known stepped part → body ≡ before ++ (part ++ after) → i ≡ length before
        → length part ≤ fuel → paths_ok code f body fuel i known stepped ≡ true
    good-paths zero i known stepped part before after good e at long = absurd (let p = positive i known stepped part good in omega (arith, p, long))
    good-paths (suc fuel) i known stepped part before after (leaf c is ok none over) e at long =
        step-ok fuel i known stepped c (look body before after i c [] (rw is at e) at) ok (over (paths_ok code f body fuel))
    good-paths (suc fuel) i known stepped part before after (line c rest later is ok next step good) e at long =
        let whole : body ≡ before ++ ((c ∷ rest) ++ after) = rw is at e in
        let longer = length-append before (c ∷ []) in
        let shorter : length part ≡ suc (length rest) = ap length is in
        let again : body ≡ (before ++ c ∷ []) ++ (rest ++ after) = whole ∙ sym (append_assoc before (c ∷ []) (rest ++ after)) in
        step-ok fuel i known stepped c (look body before after i c rest whole at) ok
        (step (paths_ok code f body fuel) ∙ good-paths fuel (i + 1) later true rest (before ++ c ∷ []) after good again (omega (arith, at, longer)) (omega (arith, long, shorter)))
    good-paths (suc fuel) i known stepped part before after (fork test first second is ok one two) e at long =
        let c = If test (i + 1) (i + 1 + length first) in
        let whole : body ≡ before ++ ((c ∷ (first ++ second)) ++ after) = rw is at e in
        let longer = length-append before (c ∷ []) in
        let shorter : length part ≡ suc (length (first ++ second)) = ap length is in
        let parts = length-append first second in
        let again : body ≡ (before ++ c ∷ []) ++ (first ++ (second ++ after)) =
        whole ∙ ap (λ cs. before ++ c ∷ cs) (append_assoc first second after) ∙ sym (append_assoc before (c ∷ []) (first ++ (second ++ after))) in
        let further : body ≡ ((before ++ c ∷ []) ++ first) ++ (second ++ after) = again ∙ sym (append_assoc (before ++ c ∷ []) first (second ++ after)) in
        let furthest = length-append (before ++ c ∷ []) first in
        step-ok fuel i known stepped c (look body before after i c (first ++ second) whole at) ok
        (fork-known (paths_ok code f body fuel) i (i + 1) (i + 1 + length first) known test
        (good-paths fuel (i + 1) known true first (before ++ c ∷ []) (second ++ after) one again (omega (arith, at, longer)) (omega (arith, long, shorter, parts)))
        (good-paths fuel (i + 1 + length first) known true second ((before ++ c ∷ []) ++ first) after two further (omega (arith, at, longer, furthest))
        (omega (arith, long, shorter, parts))))

  -- a command that has at most one follower is no `If`
  few-forward : (c : Cmd) (i : ℕ) → length (followers c i) < 2 → goes_forward c i ≡ true
  few-forward (Move v e) i h = refl
  few-forward Tick i h = refl
  few-forward (Alloc v g args) i h = refl
  few-forward (Modref v shape) i h = refl
  few-forward (Write p e) i h = refl
  few-forward (If test first second) i h = absurd (omega (arith, h))
  few-forward Done i h = refl
  few-forward (Tail w args) i h = refl
  few-forward (Read v p w args) i h = refl
  few-forward (Call g args w rest) i h = refl

  forward-cons : (c : Cmd) (cs : List Cmd) (i : ℕ) → goes_forward c i ≡ true → all_forward cs (i + 1) ≡ true → all_forward (c ∷ cs) i ≡ true
  unfolding all_forward
  forward-cons c cs i h k = both-true _ _ h k

  forward-none : (i : ℕ) → all_forward [] i ≡ true
  unfolding all_forward
  forward-none i = refl

  forward-append : (xs ys : List Cmd) (i : ℕ) → all_forward xs i ≡ true → all_forward ys (i + length xs) ≡ true → all_forward (xs ++ ys) i ≡ true
  unfolding all_forward
  forward-append [] ys i h k = let same : i + 0 ≡ i = omega arith in subst (λ j. all_forward ys j ≡ true) same k
  forward-append (x ∷ xs) ys i h k =
      let p = both (goes_forward x i) (all_forward xs (i + 1)) h in
      let same : i + suc (length xs) ≡ (i + 1) + length xs = omega arith in
      both-true _ _ p.0 (forward-append xs ys (i + 1) p.1 (subst (λ j. all_forward ys j ≡ true) same k))

  -- a part of right commands goes forward
  pub good-forward : (i : ℕ) (known : List Bool) (stepped : Bool) (part : List Cmd) → Good i known stepped part → all_forward part i ≡ true
  good-forward i known stepped part (leaf c is ok none over) =
      let few : length (followers c i) < 2 = rw (none i) (omega arith) in
      rw is (forward-cons c [] i (few-forward c i few) (forward-none (i + 1)))
  good-forward i known stepped part (line c rest later is ok next step good) =
      let few : length (followers c i) < 2 = rw (next i) (omega arith) in
      rw is (forward-cons c rest i (few-forward c i few) (good-forward (i + 1) later true rest good))
  good-forward i known stepped part (fork test first second is ok one two) =
      rw is
      (forward-cons (If test (i + 1) (i + 1 + length first)) (first ++ second) i
      (both-true _ _ (lt-ltb i (i + 1) (omega arith)) (lt-ltb i (i + 1 + length first) (omega arith)))
      (forward-append first second (i + 1) (good-forward (i + 1) known true first one) (good-forward (i + 1 + length first) known true second two)))

  -- marks
  unmarked : (before after : List Bool) (i : ℕ) → i ≡ length before → unwrap_or (slice_get (before ++ false ∷ after) i) true ≡ false
  unmarked before after i e = ap (λ o. unwrap_or o true) (get-append_right before (false ∷ after) i 0 (omega (arith, e)))

  mark : (before after : List Bool) (i : ℕ) → i ≡ length before → slice_set (before ++ false ∷ after) i true ≡ before ++ true ∷ after
  mark [] after zero e = refl
  mark [] after (suc i) e = absurd (omega (arith, e))
  mark (b ∷ before) after zero e = absurd (omega (arith, e))
  mark (b ∷ before) after (suc i) e = ap (λ bs. b ∷ bs) (mark before after i (omega (arith, e)))

  reach : (before after : List Bool) (i : ℕ) (js : List ℕ) → i ≡ length before → reached (before ++ false ∷ after) (i ∷ js) ≡ reached (before ++ true ∷ after) js
  unfolding reached
  reach before after i js e =
      ap (λ b. if b then None else reached (slice_set (before ++ false ∷ after) i true) js) (unmarked before after i e) ∙ ap (λ bs. reached bs js) (mark before after i e)

  all-followers-cons : (c : Cmd) (cs : List Cmd) (i : ℕ) → all_followers (c ∷ cs) i ≡ followers c i ++ all_followers cs (i + 1)
  unfolding all_followers
  all-followers-cons c cs i = refl

  all-followers-none : (i : ℕ) → all_followers [] i ≡ []
  unfolding all_followers
  all-followers-none i = refl

  all-followers-append : (xs ys : List Cmd) (i : ℕ) → all_followers (xs ++ ys) i ≡ all_followers xs i ++ all_followers ys (i + length xs)
  all-followers-append [] ys i =
      let same : i ≡ i + 0 = omega arith in
      ap (all_followers ys) same ∙ sym (ap (λ js. js ++ all_followers ys (i + 0)) (all-followers-none i))
  all-followers-append (x ∷ xs) ys i =
      let same : (i + 1) + length xs ≡ i + suc (length xs) = omega arith in
      all-followers-cons x (xs ++ ys) i
      ∙ ap (λ js. followers x i ++ js) (all-followers-append xs ys (i + 1) ∙ ap (λ j. all_followers xs (i + 1) ++ all_followers ys j) same)
      ∙ sym (append_assoc (followers x i) (all_followers xs (i + 1)) (all_followers ys (i + suc (length xs))))
      ∙ sym (ap (λ js. js ++ all_followers ys (i + suc (length xs))) (all-followers-cons x xs i))

  reached-none : (marks : List Bool) → reached marks [] ≡ Some marks
  unfolding reached
  reached-none marks = refl

  -- the indices of the part after its first
  behind : List Cmd → ℕ
  behind [] = 0
  behind (c ∷ cs) = length cs

  behind-length : (part : List Cmd) → 0 < length part → length part ≡ behind part + 1
  unfolding behind
  behind-length [] h = absurd (omega (arith, h))
  behind-length (c ∷ cs) h = omega arith

  -- from a part exactly its indices but the first are reached, each once
  abbrev Reaches : ℕ → List Cmd → Type 0
  Reaches i part = (rest : ℕ) (before after : List Bool) → length part ≡ rest + 1 → i + 1 ≡ length before
      → reached (before ++ (replicate rest false ++ after)) (all_followers part i) ≡ Some (before ++ (replicate rest true ++ after))

  one-more : (before after : List Bool) (b : Bool) → (before ++ b ∷ []) ++ after ≡ before ++ b ∷ after
  one-more before after b = append_assoc before (b ∷ []) after

  replicate-append : (b : Bool) (m n : ℕ) (after : List Bool) → replicate (m + n) b ++ after ≡ replicate m b ++ (replicate n b ++ after)
  replicate-append b zero n after = let z : 0 + n ≡ n = omega arith in ap (λ k. replicate k b ++ after) z
  replicate-append b (suc m) n after =
      let z : suc m + n ≡ suc (m + n) = omega arith in ap (λ k. replicate k b ++ after) z ∙ ap (λ bs. b ∷ bs) (replicate-append b m n after)

  good-reaches : (i : ℕ) (known : List Bool) (stepped : Bool) (part : List Cmd) → Good i known stepped part → Reaches i part
  good-reaches i known stepped part (leaf c is ok none over) zero before after long at =
      rw is (ap (reached (before ++ after)) (all-followers-cons c [] i ∙ ap (λ js. js ++ all_followers [] (i + 1)) (none i) ∙ all-followers-none (i + 1)) ∙ reached-none (before ++ after))
  good-reaches i known stepped part (leaf c is ok none over) (suc rest) before after long at = let shorter = ap length is in absurd (omega (arith, shorter, long))
  good-reaches i known stepped part (line c cs later is ok next step good) zero before after long at =
      let shorter : length part ≡ suc (length cs) = ap length is in
      let more = positive (i + 1) later true cs good in absurd (omega (arith, shorter, long, more))
  good-reaches i known stepped part (line c cs later is ok next step good) (suc rest) before after long at =
      let shorter : length part ≡ suc (length cs) = ap length is in
      let longer = length-append before (true ∷ []) in
      ap (λ p. reached (before ++ false ∷ (replicate rest false ++ after)) (all_followers p i)) is
      ∙ ap (reached (before ++ false ∷ (replicate rest false ++ after))) (all-followers-cons c cs i ∙ ap (λ js. js ++ all_followers cs (i + 1)) (next i))
      ∙ reach before (replicate rest false ++ after) (i + 1) (all_followers cs (i + 1)) at
      ∙ ap (λ bs. reached bs (all_followers cs (i + 1))) (sym (one-more before (replicate rest false ++ after) true))
      ∙ good-reaches (i + 1) later true cs good rest (before ++ true ∷ []) after (omega (arith, long, shorter)) (omega (arith, at, longer))
      ∙ ap Some (one-more before (replicate rest true ++ after) true)
  good-reaches i known stepped part (fork test first second is ok one two) rest before after long at =
      let shorter : length part ≡ suc (length (first ++ second)) = ap length is in
      let parts = length-append first second in
      let p = positive (i + 1) known true first one in
      let q = positive (i + 1 + length first) known true second two in
      let m = behind first in
      let n = behind second in
      let a : length first ≡ m + 1 = behind-length first p in
      let b : length second ≡ n + 1 = behind-length second q in
      let both : rest ≡ suc m + suc n = omega (arith, long, shorter, parts, a, b) in
      let c = If test (i + 1) (i + 1 + length first) in
      let lf = replicate m false in
      let rf = replicate n false in
      let lt = replicate m true in
      let rt = replicate n true in
      let js = all_followers first (i + 1) in
      let ks = all_followers second (i + 1 + length first) in
      let longer = length-append before (true ∷ []) in
      let front = length-append (before ++ true ∷ []) lf in
      let front-true = length-append (before ++ true ∷ []) lt in
      let lm = length-replicate m false in
      let lm-true = length-replicate m true in
      let furthest = length-append ((before ++ true ∷ []) ++ lt) (true ∷ []) in
      ap (λ p. reached (before ++ (replicate rest false ++ after)) (all_followers p i)) is
      ∙ ap (λ k. reached (before ++ (replicate k false ++ after)) (all_followers (c ∷ (first ++ second)) i)) both
      ∙ ap (λ bs. reached (before ++ bs) (all_followers (c ∷ (first ++ second)) i)) (replicate-append false (suc m) (suc n) after)
      ∙ ap (reached (before ++ false ∷ (lf ++ false ∷ (rf ++ after)))) (all-followers-cons c (first ++ second) i
      ∙ ap (λ is. (i + 1) ∷ (i + 1 + length first) ∷ is) (all-followers-append first second (i + 1)))
      ∙ reach before (lf ++ false ∷ (rf ++ after)) (i + 1) ((i + 1 + length first) ∷ (js ++ ks)) at
      ∙ ap (λ bs. reached bs ((i + 1 + length first) ∷ (js ++ ks))) (sym (one-more before (lf ++ false ∷ (rf ++ after)) true) ∙ sym (append_assoc (before ++ true ∷ []) lf (false ∷ (rf ++ after))))
      ∙ reach ((before ++ true ∷ []) ++ lf) (rf ++ after) (i + 1 + length first) (js ++ ks) (omega (arith, at, longer, front, lm, a))
      ∙ ap (λ bs. reached bs (js ++ ks)) (append_assoc (before ++ true ∷ []) lf (true ∷ (rf ++ after)))
      ∙ reached-on ((before ++ true ∷ []) ++ (lf ++ true ∷ (rf ++ after))) ((before ++ true ∷ []) ++ (lt ++ true ∷ (rf ++ after))) js ks
      (good-reaches (i + 1) known true first one m (before ++ true ∷ []) (true ∷ (rf ++ after)) a (omega (arith, at, longer)))
      ∙ ap (λ bs. reached bs ks) (sym (append_assoc (before ++ true ∷ []) lt (true ∷ (rf ++ after))) ∙ sym (one-more ((before ++ true ∷ []) ++ lt) (rf ++ after) true))
      ∙ good-reaches (i + 1 + length first) known true second two n (((before ++ true ∷ []) ++ lt) ++ true ∷ []) after b (omega (arith, at, longer, front-true, lm-true, furthest, a))
      ∙ ap Some (one-more ((before ++ true ∷ []) ++ lt) (rt ++ after) true ∙ append_assoc (before ++ true ∷ []) lt (true ∷ (rt ++ after)) ∙ one-more before (lt ++ true ∷ (rt ++ after)) true
      ∙ ap (λ bs. before ++ bs) (sym (replicate-append true (suc m) (suc n) after)) ∙ ap (λ k. before ++ (replicate k true ++ after)) (sym both))

  all-true : (n : ℕ) → all_true (replicate n true ++ []) ≡ true
  unfolding all_true
  all-true zero = refl
  all-true (suc n) = all-true n

  -- a body of right commands is a tree
  pub good-tree : (known : List Bool) (stepped : Bool) (body : List Cmd) → Good 0 known stepped body → is_tree body ≡ true
  good-tree known stepped body good =
      let p = positive 0 known stepped body good in
      let n = behind body in
      let long : length body ≡ n + 1 = behind-length body p in
      let more : n + 1 ≡ suc n = omega arith in
      let marks = good-reaches 0 known stepped body good n (false ∷ []) [] long refl in
      let begun : reached (replicate (length body) false) (all_followers body 0) ≡ Some (false ∷ (replicate n true ++ [])) =
      ap (λ k. reached (replicate k false) (all_followers body 0)) (long ∙ more)
      ∙ ap (λ bs. reached (false ∷ bs) (all_followers body 0)) (sym (append-nil (replicate n false))) ∙ marks in
      tree-is body (false ∷ (replicate n true ++ [])) begun ∙ all-true n
