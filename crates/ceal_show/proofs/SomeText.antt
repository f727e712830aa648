-- A whole memory has a text from each of its blocks.
use Rattle.std.proofs.Common.{◌≡◌, ◌≢◌, ℕ, ◌+◌, ◌<◌, ◌≤◌, zero, suc, true, false, List, [], ◌∷◌, ◌++◌, length, Some, refl, sym, ap, ◌∙◌, subst, arith, inl, inr}
use Rattle.std.specs.Prelude.{IsSome, slice_get, codes, if◌then◌else◌}
use Rattle.std.proofs.lemmas.Bool.{cases_Bool, cases_lt, false≢true, or_left, or_right}
use Rattle.ceal_base.specs.Block.{Block, Blocks, block_at}
use Rattle.ceal_base.specs.declared.typed.StructInfo.{StructInfo}
use Rattle.ceal_base.specs.declared.word.BlockId.{BlockId}
use Rattle.ceal_base.specs.declared.word.BlockId.TheVariants.{Input, Core}
use Rattle.ceal_show.specs.Graph.{IsGraphText, lines_text}
use Rattle.ceal_show.specs.Paths.{same_block, is_in, IsLess, AreReached, AreRising}
use Rattle.ceal_show.specs.Search.{with_targets}
use Rattle.ceal_show.specs.Shown.{words_at, IsWhole}
use Rattle.ceal_show.proofs.Finding.{IsSearching, end_reached, more_search, start_search}
use Rattle.ceal_show.proofs.PathOrder.{less_irrefl}
use Rattle.ceal_show.proofs.Same.{same_self, same_tells}
use Rattle.ceal_show.proofs.Searching.{Among, Visit, blocks_of, paths_of, rising_behind, visited}

-- no block occurs twice in the list
abbrev Distinct : List BlockId → Type 0
Distinct [] = Unit {0}
Distinct (b ∷ bs) = (is_in b bs ≡ false) × Distinct bs

-- the list without the first place of the block
without : BlockId → List BlockId → List BlockId
without b [] = []
without b (c ∷ cs) = if same_block b c then cs else c ∷ without b cs

without-length : (b : BlockId) (cs : List BlockId) → is_in b cs ≡ true → length cs ≡ length (without b cs) + 1
unfolding without
without-length b [] h = absurd (false≢true h)
without-length b (c ∷ cs) h = elim (same_tells b c) [
  | inl p ↦ rw p.0 (omega arith)
  | inr p ↦ let l = without-length b cs (rw p.0 at h) in rw p.0 (omega (arith, l))
]

without-other : (b d : BlockId) (cs : List BlockId) → d ≢ b → is_in d cs ≡ true → is_in d (without b cs) ≡ true
unfolding without
without-other b d [] n h = h
without-other b d (c ∷ cs) n h = elim (same_tells d c) [
  | inl p ↦ elim (same_tells b c) [
    | inl q ↦ absurd (n (p.1 ∙ sym q.1))
    | inr q ↦ rw (q.0, p.0) refl
  ]
  | inr p ↦
      let later : is_in d cs ≡ true = rw p.0 at h in
      elim (same_tells b c) [
        | inl q ↦ rw q.0 later
        | inr q ↦ rw (q.0, p.0) (without-other b d cs n later)
      ]
]

-- distinct blocks of a list are no more than it has
no-more : (met all : List BlockId) → Distinct met → ((b : BlockId) → is_in b met ≡ true → is_in b all ≡ true) → length met ≤ length all
no-more [] all d h = omega arith
no-more (b ∷ met) all d h =
    let here : is_in b all ≡ true = h b (or_left (same_block b b) (is_in b met) (same_self b)) in
    let l = without-length b all here in
    let rest = no-more met (without b all) d.1 (λ c k.
    without-other b c all (λ e. false≢true (sym d.0 ∙ subst (λ x. is_in x met ≡ true) e k)) (h c (or_right (same_block c b) (is_in c met) k))) in
    omega (arith, l, rest)

-- the numbers of the blocks of a memory
inputs_from : ℕ → List Block → List BlockId
inputs_from n [] = []
inputs_from n (x ∷ xs) = Input n ∷ inputs_from (n + 1) xs

cores_from : ℕ → List Block → List BlockId
cores_from n [] = []
cores_from n (x ∷ xs) = Core n ∷ cores_from (n + 1) xs

input-in : (n : ℕ) (xs : List Block) (i : ℕ) → IsSome (slice_get xs i) → is_in (Input (n + i)) (inputs_from n xs) ≡ true
unfolding inputs_from
input-in n [] i h = absurd (false≢true h)
input-in n (x ∷ xs) zero h = let e : n + 0 ≡ n = omega arith in rw (e, same_self (Input n)) refl
input-in n (x ∷ xs) (suc i) h =
    let e : n + suc i ≡ n + 1 + i = omega arith in
    or_right (same_block (Input (n + suc i)) (Input n)) (is_in (Input (n + suc i)) (inputs_from (n + 1) xs))
    (subst (λ k. is_in (Input k) (inputs_from (n + 1) xs) ≡ true) (sym e) (input-in (n + 1) xs i h))

core-in : (n : ℕ) (xs : List Block) (i : ℕ) → IsSome (slice_get xs i) → is_in (Core (n + i)) (cores_from n xs) ≡ true
unfolding cores_from
core-in n [] i h = absurd (false≢true h)
core-in n (x ∷ xs) zero h = let e : n + 0 ≡ n = omega arith in rw (e, same_self (Core n)) refl
core-in n (x ∷ xs) (suc i) h =
    let e : n + suc i ≡ n + 1 + i = omega arith in
    or_right (same_block (Core (n + suc i)) (Core n)) (is_in (Core (n + suc i)) (cores_from (n + 1) xs))
    (subst (λ k. is_in (Core k) (cores_from (n + 1) xs) ≡ true) (sym e) (core-in (n + 1) xs i h))

in-left : (b : BlockId) (xs ys : List BlockId) → is_in b xs ≡ true → is_in b (xs ++ ys) ≡ true
in-left b [] ys h = absurd (false≢true h)
in-left b (x ∷ xs) ys h = elim (same_tells b x) [
  | inl p ↦ rw p.0 refl
  | inr p ↦ rw p.0 (in-left b xs ys (rw p.0 at h))
]

in-right : (b : BlockId) (xs ys : List BlockId) → is_in b ys ≡ true → is_in b (xs ++ ys) ≡ true
in-right b [] ys h = h
in-right b (x ∷ xs) ys h = or_right (same_block b x) (is_in b (xs ++ ys)) (in-right b xs ys h)

numbers : Blocks → List BlockId
numbers m = inputs_from 0 m.inputs ++ cores_from 0 m.made

there-in : (m : Blocks) (b : BlockId) → IsSome (block_at m b) → is_in b (numbers m) ≡ true
unfolding numbers
there-in m (Input n) h =
    let e : 0 + n ≡ n = omega arith in
    in-left (Input n) (inputs_from 0 m.inputs) (cores_from 0 m.made) (subst (λ k. is_in (Input k) (inputs_from 0 m.inputs) ≡ true) e (input-in 0 m.inputs n h))
there-in m (Core n) h =
    let e : 0 + n ≡ n = omega arith in
    in-right (Core n) (inputs_from 0 m.inputs) (cores_from 0 m.made) (subst (λ k. is_in (Core k) (cores_from 0 m.made) ≡ true) e (core-in 0 m.made n h))

-- visits by rising paths, each block once, are to distinct blocks
visits-distinct : (all : List Visit) → AreRising (paths_of all) → ((v w : Visit) → Among v all → Among w all → v.block ≡ w.block → v.path ≡ w.path) → Distinct (blocks_of all)
visits-distinct [] r once = tt
visits-distinct (v ∷ all) r once = (out, visits-distinct all r.1 (λ x y h k e. once x y (inr h) (inr k) e))
  where
    out : is_in v.block (blocks_of all) ≡ false
    out = elim (cases_Bool (is_in v.block (blocks_of all))) [
      | inr e ↦ e
      | inl e ↦
          let w = visited all v.block e in
          let same : v.path ≡ w.0.path = once v w.0 (inl refl) (inr w.1) (sym w.2) in
          let less = rising_behind [] v all r w.0 w.1 in
          absurd (less_irrefl w.0.path (subst (λ p. IsLess p w.0.path) same less))
    ]

some-at : (met : List BlockId) (at : ℕ) → at < length met → (b : BlockId) × (slice_get met at ≡ Some b)
some-at [] at l = absurd (omega (arith, l))
some-at (b ∷ met) zero l = (b, refl)
some-at (b ∷ met) (suc at) l = some-at met at (omega (arith, l))

module _ (structs : List StructInfo) (m : Blocks) (whole : IsWhole structs (block_at m)) (root : BlockId) where
  few : (at : ℕ) (met : List BlockId) → IsSearching (block_at m) root at met → length met ≤ length (numbers m)
  few at met s =
      let sound = s.searched.sound in
      let all = s.done ++ s.waiting in
      let distinct : Distinct met = subst Distinct s.same (visits-distinct all sound.rising sound.once) in
      no-more met (numbers m) distinct (λ b h.
      let v = visited all b (ap (is_in b) s.same ∙ h) in
      there-in m b (subst (λ x. IsSome (block_at m x)) v.2 (sound.there v.0 v.1)))

  reach_from : (k at : ℕ) (met : List BlockId) → length (numbers m) ≤ at + k → IsSearching (block_at m) root at met → (blocks : List BlockId) × AreReached (block_at m) root blocks
  reach_from zero at met l s =
      let n = few at met s in
      (met, end_reached (block_at m) root at met s (omega (arith, l, n)))
  reach_from (suc k) at met l s = elim (cases_lt at (length met)) [
    | inr over ↦ (met, end_reached (block_at m) root at met s over)
    | inl more ↦
        let b = some-at met at more in
        reach_from k (at + 1) (with_targets met (words_at (block_at m) b.0)) (omega (arith, l)) (more_search structs (block_at m) whole root at met b.0 s b.1)
  ]

  pub some-text : IsSome (block_at m root) → (name : ℕ → List ℕ) → (text : List ℕ) × IsGraphText structs (block_at m) name root text
  some-text there name =
      let r = reach_from (length (numbers m)) 0 (root ∷ []) (omega arith) (start_search structs (block_at m) whole root there) in (
        lines_text (record { structs = structs; memory = block_at m; name = name; blocks = r.0 }) r.0 ++ codes "end\n",
        record { blocks = r.0; reached = r.1; is_text = refl },
      )
