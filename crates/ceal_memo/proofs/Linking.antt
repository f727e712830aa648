-- Groups in the chains of their buckets.
use Rattle.std.proofs.Common.{◌≡◌, ◌≢◌, ◌<◌, ◌≤◌, ◌*◌, ◌/◌, ◌^◌, ◌-◌, ℕ, suc, zero, Bool, true, false, inl, inr, List, [], ◌∷◌, ◌++◌, length, set, refl, sym, ap, ◌∙◌, subst, arith, slice_index_or}
use Rattle.std.proofs.Common.{slice_set, lit≤}
use Rattle.std.proofs.Math.Nat.{mul-lt-mul_of_pos_right, div-lt_iff_lt-mul}
use Rattle.std.proofs.lemmas.Bool.{eq-eqb, false≢true}
use Rattle.std.proofs.lemmas.Bool.Decides.{eqb_tells}
use Rattle.ceal_memo.specs.declared.chains.Group.{Group}
use Rattle.ceal_memo.specs.Chains.{blank, bucket, group_at, head_at, next_at, lists_of, stamped, with_one, IsIn, IsLast, IsChained, IsBefore, Chained, IsLinked}
use Rattle.ceal_memo.specs.Lists.{has_stamps}
use Rattle.ceal_memo.proofs.Grouping.{group_is, set_here, set_others, length_set, set_again, pushed_before, lists_set, lists_linked, same_hash, same_length, same_stamped, some_is}
use Rattle.ceal_memo.proofs.Chaining.{chained_as, appended, inserted_first, inserted_after, removed_first, removed_after}

pub bucket_within : (size hash : ℕ) → 0 < size → hash < 2 ^ 32 → bucket size hash < size
bucket_within size hash some low =
    let most : hash * size < 2 ^ 32 * size = mul-lt-mul_of_pos_right low some in
    let all : hash * size < size * 2 ^ 32 = omega (arith, most) in
    (div-lt_iff_lt-mul (lit≤ tt)).1 all

-- the head of a bucket leads to the last group in it
pub head_last : (heads : List ℕ) (groups : List Group) → IsLinked heads groups → (hash : ℕ) → hash < 2 ^ 32
    → IsLast (IsIn (stamped groups) (length heads) groups) (bucket (length heads) hash) (length groups) (head_at heads (bucket (length heads) hash))
head_last [] groups linked hash low = record {
  within = let few = linked.few in omega arith;
  there = λ n is. absurd (omega arith);
  last = λ n under is. let few = linked.few in absurd (omega arith);
}
head_last (h ∷ hs) groups linked hash low = linked.chained.heads (bucket (length (h ∷ hs)) hash) (bucket_within (length (h ∷ hs)) hash (omega arith) low)

-- ---- one more is chosen

pub with_itself : (number : ℕ) (among : ℕ → Bool) → with_one number among number ≡ true
with_itself number among = rw (eq-eqb number number refl) refl

with_all : (number : ℕ) (among : ℕ → Bool) (n : ℕ) → among n ≡ true → with_one number among n ≡ true
with_all number among n is = elim (eqb_tells n number) [ inl p ↦ rw p.0 refl | inr p ↦ rw p.0 is ]

pub with_others : (number : ℕ) (among : ℕ → Bool) (n : ℕ) → n ≢ number → with_one number among n ≡ true → among n ≡ true
with_others number among n other is = elim (eqb_tells n number) [ inl p ↦ absurd (other p.1) | inr p ↦ rw p.0 at is ]

one_bucket : (among : ℕ → Bool) (size : ℕ) (groups : List Group) (n c d : ℕ) → IsIn among size groups n c → IsIn among size groups n d → c ≡ d
one_bucket among size groups n c d is also = sym is.bucket ∙ also.bucket

module _ (heads heads' : List ℕ) (groups groups' : List Group) (size : length heads' ≡ length heads) (lists : lists_of groups' ≡ lists_of groups) where
  -- the buckets are the same
  same_bucket : (n : ℕ) → bucket (length heads') (group_at groups' n).hash ≡ bucket (length heads) (group_at groups n).hash
  same_bucket n = ap (λ (s : ℕ). bucket s (group_at groups' n).hash) size ∙ ap (bucket (length heads)) (same_hash groups' groups lists n)

  -- chains of as many buckets and groups
  counted : (own : ℕ → ℕ → Type 0) → IsChained own (length heads) (length groups) (head_at heads') (next_at groups') → IsChained own (length heads') (length groups') (head_at heads') (next_at groups')
  counted own chained =
      subst (λ (k : ℕ). IsChained own (length heads') k (head_at heads') (next_at groups')) (sym (same_length groups' groups lists))
      (subst (λ (s : ℕ). IsChained own s (length groups) (head_at heads') (next_at groups')) (sym size) chained)

  module _ (number b before : ℕ) (within : number < length groups) (empty : stamped groups number ≡ false) (inside : b < length heads)
      (bucket_is : b ≡ bucket (length heads) (group_at groups number).hash) (heads_other : (c : ℕ) → c ≢ b → head_at heads' c ≡ head_at heads c)
      (heads_same : (n : ℕ) → before ≡ suc n → heads' ≡ heads) where
    -- a group that was empty comes in
    module _ (chained : Chained (length groups) (stamped groups) heads groups) (at : IsBefore (stamped groups) heads groups b number before)
        (head : before ≡ 0 → head_at heads' b ≡ suc number) (own_first : before ≡ 0 → next_at groups' number ≡ head_at heads b)
        (next : (n : ℕ) → before ≡ suc n → next_at groups' n ≡ suc number) (own_next : (n : ℕ) → before ≡ suc n → next_at groups' number ≡ next_at groups n)
        (next_other : (n : ℕ) → before ≢ suc n → n ≢ number → next_at groups' n ≡ next_at groups n) where
      more : (n c : ℕ) → IsIn (stamped groups) (length heads) groups n c → IsIn (with_one number (stamped groups')) (length heads') groups' n c
      more n c is = record {
        chosen = with_all number (stamped groups') n (same_stamped groups' groups lists n ∙ is.chosen);
        bucket = same_bucket n ∙ is.bucket;
      }

      less : (n c : ℕ) → n ≢ number → IsIn (with_one number (stamped groups')) (length heads') groups' n c → IsIn (stamped groups) (length heads) groups n c
      less n c other is = record {
        chosen = sym (same_stamped groups' groups lists n) ∙ with_others number (stamped groups') n other is.chosen;
        bucket = sym (same_bucket n) ∙ is.bucket;
      }

      absent : (c : ℕ) → IsIn (stamped groups) (length heads) groups number c → ⊥
      absent c is = false≢true (sym empty ∙ is.chosen)

      here : IsIn (with_one number (stamped groups')) (length heads') groups' number b
      here = record { chosen = with_itself number (stamped groups'); bucket = same_bucket number ∙ sym bucket_is }

      only : (c : ℕ) → IsIn (with_one number (stamped groups')) (length heads') groups' number c → c ≡ b
      only c is = one_bucket (with_one number (stamped groups')) (length heads') groups' number c b is here

      pub comes_in : Chained (length groups') (with_one number (stamped groups')) heads' groups'
      comes_in = counted (IsIn (with_one number (stamped groups')) (length heads') groups') (by before refl)
        where
          by : (k : ℕ) → before ≡ k → IsChained (IsIn (with_one number (stamped groups')) (length heads') groups') (length heads) (length groups) (head_at heads') (next_at groups')
          by zero is = inserted_first (IsIn (stamped groups) (length heads) groups) (IsIn (with_one number (stamped groups')) (length heads') groups')
              (length heads) (length groups) number b (head_at heads) (next_at groups) chained (one_bucket (stamped groups) (length heads) groups)
              absent here only more less within inside (head_at heads') (next_at groups') (at.first is) (head is) heads_other (own_first is)
              (λ n other. next_other n (λ same. absurd (omega arith)) other)
          by (suc p) is = inserted_after (IsIn (stamped groups) (length heads) groups) (IsIn (with_one number (stamped groups')) (length heads') groups')
              (length heads) (length groups) number b (head_at heads) (next_at groups) chained (one_bucket (stamped groups) (length heads) groups)
              absent here only more less within inside p (head_at heads') (next_at groups') (at.there p is) (at.after p is)
              (let most = at.within in omega arith) (at.next p is) (λ c. ap (λ (hs : List ℕ). head_at hs c) (heads_same p is)) (next p is) (own_next p is)
              (λ n other apart. next_other n (λ same. apart (omega arith)) other)

    -- a group that is empty now goes
    module _ (chained : Chained (length groups) (with_one number (stamped groups)) heads groups) (at : IsBefore (with_one number (stamped groups)) heads groups b number before)
        (head : before ≡ 0 → head_at heads' b ≡ next_at groups number) (next : (n : ℕ) → before ≡ suc n → next_at groups' n ≡ next_at groups number)
        (next_other : (n : ℕ) → before ≢ suc n → next_at groups' n ≡ next_at groups n) where
      less' : (n c : ℕ) → IsIn (stamped groups') (length heads') groups' n c → IsIn (with_one number (stamped groups)) (length heads) groups n c
      less' n c is = record {
        chosen = with_all number (stamped groups) n (sym (same_stamped groups' groups lists n) ∙ is.chosen);
        bucket = sym (same_bucket n) ∙ is.bucket;
      }

      more' : (n c : ℕ) → n ≢ number → IsIn (with_one number (stamped groups)) (length heads) groups n c → IsIn (stamped groups') (length heads') groups' n c
      more' n c other is = record {
        chosen = same_stamped groups' groups lists n ∙ with_others number (stamped groups) n other is.chosen;
        bucket = same_bucket n ∙ is.bucket;
      }

      gone : (c : ℕ) → IsIn (stamped groups') (length heads') groups' number c → ⊥
      gone c is = false≢true (sym empty ∙ sym (same_stamped groups' groups lists number) ∙ is.chosen)

      here' : IsIn (with_one number (stamped groups)) (length heads) groups number b
      here' = record { chosen = with_itself number (stamped groups); bucket = sym bucket_is }

      pub goes_out : Chained (length groups') (stamped groups') heads' groups'
      goes_out = counted (IsIn (stamped groups') (length heads') groups') (by before refl)
        where
          by : (k : ℕ) → before ≡ k → IsChained (IsIn (stamped groups') (length heads') groups') (length heads) (length groups) (head_at heads') (next_at groups')
          by zero is = removed_first (IsIn (with_one number (stamped groups)) (length heads) groups) (IsIn (stamped groups') (length heads') groups')
              (length heads) (length groups) number b (head_at heads) (next_at groups) chained (one_bucket (with_one number (stamped groups)) (length heads) groups)
              here' gone more' less' within inside (head_at heads') (next_at groups') (at.first is) (head is) heads_other
              (λ n other. next_other n (λ same. absurd (omega arith)))
          by (suc p) is = removed_after (IsIn (with_one number (stamped groups)) (length heads) groups) (IsIn (stamped groups') (length heads') groups')
              (length heads) (length groups) number b (head_at heads) (next_at groups) chained (one_bucket (with_one number (stamped groups)) (length heads) groups)
              here' gone more' less' within inside p (head_at heads') (next_at groups') (at.there p is) (at.after p is)
              (let most = at.within in omega arith) (at.next p is) (λ c. ap (λ (hs : List ℕ). head_at hs c) (heads_same p is)) (next p is)
              (λ n other apart. next_other n (λ same. apart (omega arith)))

  -- ---- a group after all that are counted

  module _ (number : ℕ) (within : number < length groups) (chained : Chained number (stamped groups) heads groups) where
    -- the same among the groups as they are now
    among_new : (n c : ℕ) → IsIn (stamped groups) (length heads) groups n c → IsIn (stamped groups') (length heads') groups' n c
    among_new n c is = record { chosen = same_stamped groups' groups lists n ∙ is.chosen; bucket = same_bucket n ∙ is.bucket }

    among_old : (n c : ℕ) → IsIn (stamped groups') (length heads') groups' n c → IsIn (stamped groups) (length heads) groups n c
    among_old n c is = record { chosen = sym (same_stamped groups' groups lists n) ∙ is.chosen; bucket = sym (same_bucket n) ∙ is.bucket }

    module _ (b : ℕ) (stamps : stamped groups number ≡ true) (inside : b < length heads) (bucket_is : b ≡ bucket (length heads) (group_at groups number).hash)
        (head : head_at heads' b ≡ suc number) (head_other : (c : ℕ) → c ≢ b → head_at heads' c ≡ head_at heads c)
        (next : next_at groups' number ≡ head_at heads b) (next_other : (n : ℕ) → n ≢ number → next_at groups' n ≡ next_at groups n) where
      in_bucket : IsIn (stamped groups') (length heads') groups' number b
      in_bucket = record { chosen = same_stamped groups' groups lists number ∙ stamps; bucket = same_bucket number ∙ sym bucket_is }

      pub comes_first : Chained (suc number) (stamped groups') heads' groups'
      comes_first =
          subst (λ (s : ℕ). IsChained (IsIn (stamped groups') (length heads') groups') s (suc number) (head_at heads') (next_at groups')) (sym size)
          (appended (IsIn (stamped groups') (length heads') groups') (length heads) number (head_at heads) (next_at groups)
          (chained_as (IsIn (stamped groups) (length heads) groups) (IsIn (stamped groups') (length heads') groups') (length heads) number (head_at heads) (head_at heads) (next_at groups)
          (next_at groups)
          (λ n c low is. among_new n c is) (λ n c low is. among_old n c is) (λ c low. refl) (λ n c low is. refl) chained)
          b (head_at heads') (next_at groups') (λ c is. one_bucket (stamped groups') (length heads') groups' number c b is in_bucket) in_bucket inside
          head head_other next next_other)

-- the chains of other groups, where those that are counted and chosen are the same
pub chains_kept : (count : ℕ) (among among' : ℕ → Bool) (heads : List ℕ) (groups groups' : List Group) → ((n : ℕ) → n < count → among' n ≡ among n)
    → ((n : ℕ) → n < count → among n ≡ true → (group_at groups' n).hash ≡ (group_at groups n).hash)
    → ((n : ℕ) → n < count → among n ≡ true → next_at groups' n ≡ next_at groups n)
    → Chained count among heads groups → Chained count among' heads groups'
chains_kept count among among' heads groups groups' same hashes nexts chained =
    chained_as (IsIn among (length heads) groups) (IsIn among' (length heads) groups') (length heads) count (head_at heads) (head_at heads) (next_at groups) (next_at groups')
    (λ n b under is. record { chosen = same n under ∙ is.chosen; bucket = ap (bucket (length heads)) (hashes n under is.chosen) ∙ is.bucket })
    (λ n b under is. let old : among n ≡ true = sym (same n under) ∙ is.chosen in record { chosen = old; bucket = sym (ap (bucket (length heads)) (hashes n under old)) ∙ is.bucket })
    (λ b low. refl) (λ n b under is. nexts n under is.chosen) chained

-- ---- a group that is in no chain

module _ (heads : List ℕ) (groups : List Group) (number : ℕ) (empty : stamped groups number ≡ false) where
  apart : (n : ℕ) → stamped groups n ≡ true → n ≢ number
  apart n is same = false≢true (sym empty ∙ subst (λ (k : ℕ). stamped groups k ≡ true) same is)

  -- gets another link
  pub relinked : (d : Group) (next : ℕ) → Chained (length groups) (stamped groups) heads groups → length groups ≤ length heads
      → IsLinked heads (slice_set groups number (record { hash = (slice_index_or groups number d).hash; next = next; list = (slice_index_or groups number d).list }))
  relinked d next chained few =
      let own : Group = record { hash = (slice_index_or groups number d).hash; next = next; list = (slice_index_or groups number d).list } in
      let new = slice_set groups number own in
      let lists = lists_linked groups number d next in
      let count = length_set groups number own in
      record {
        chained = subst (λ (k : ℕ). Chained k (stamped new) heads new) (sym count)
            (chains_kept (length groups) (stamped groups) (stamped new) heads groups new (λ n under. same_stamped new groups lists n) (λ n under is. same_hash new groups lists n)
            (λ n under is. ap (λ (g : Group). g.next) (set_others groups number own blank n (apart n is))) chained);
        few = subst (λ (k : ℕ). k ≤ length heads) (sym count) few;
      }

  -- gets another hash
  pub rehashed : (d : Group) (hash : ℕ) → number < length groups → Chained (length groups) (stamped groups) heads groups
      → let new : List Group = slice_set groups number (record { hash = hash; next = (slice_index_or groups number d).next; list = (slice_index_or groups number d).list }) in
      Chained (length new) (stamped new) heads new
  rehashed d hash within chained =
      let own : Group = record { hash = hash; next = (slice_index_or groups number d).next; list = (slice_index_or groups number d).list } in
      let new = slice_set groups number own in
      subst (λ (k : ℕ). Chained k (stamped new) heads new) (sym (length_set groups number own))
      (chains_kept (length groups) (stamped groups) (stamped new) heads groups new
      (λ n under. elim (eqb_tells n number) [
        | inl p ↦ subst (λ (k : ℕ). stamped new k ≡ stamped groups k) (sym p.1)
            (ap (λ (g : Group). has_stamps g.list) (set_here groups number own blank within) ∙ ap (λ (g : Group). has_stamps g.list) (group_is groups number d within))
        | inr p ↦ ap (λ (g : Group). has_stamps g.list) (set_others groups number own blank n p.1)
      ])
      (λ n under is. ap (λ (g : Group). g.hash) (set_others groups number own blank n (apart n is)))
      (λ n under is. ap (λ (g : Group). g.next) (set_others groups number own blank n (apart n is))) chained)

-- ---- a group that is in a chain already gets its stamps

module _ (groups : List Group) (number : ℕ) (d : Group) (list : List ℕ) (within : number < length groups) where
  pub filled_linked : (heads : List ℕ) → list ≢ [] → Chained (length groups) (with_one number (stamped groups)) heads groups → length groups ≤ length heads
      → IsLinked heads (slice_set groups number (record { hash = (slice_index_or groups number d).hash; next = (slice_index_or groups number d).next; list = list }))
  filled_linked heads some chained few =
      let own : Group = record { hash = (slice_index_or groups number d).hash; next = (slice_index_or groups number d).next; list = list } in
      let new = slice_set groups number own in
      let count = length_set groups number own in
      let here = set_here groups number own blank within in
      let was = group_is groups number d within in
      record {
        chained = subst (λ (k : ℕ). Chained k (stamped new) heads new) (sym count)
            (chains_kept (length groups) (with_one number (stamped groups)) (stamped new) heads groups new
            (λ n under. elim (eqb_tells n number) [
              | inl p ↦ subst (λ (k : ℕ). stamped new k ≡ with_one number (stamped groups) k) (sym p.1)
                  (ap (λ (g : Group). has_stamps g.list) here ∙ some_is list some ∙ sym (with_itself number (stamped groups)))
              | inr p ↦ rw p.0 (ap (λ (g : Group). has_stamps g.list) (set_others groups number own blank n p.1))
            ])
            (λ n under is. elim (eqb_tells n number) [
              | inl p ↦ subst (λ (k : ℕ). (group_at new k).hash ≡ (group_at groups k).hash) (sym p.1) (ap (λ (g : Group). g.hash) here ∙ ap (λ (g : Group). g.hash) was)
              | inr p ↦ ap (λ (g : Group). g.hash) (set_others groups number own blank n p.1)
            ])
            (λ n under is. elim (eqb_tells n number) [
              | inl p ↦ subst (λ (k : ℕ). next_at new k ≡ next_at groups k) (sym p.1) (ap (λ (g : Group). g.next) here ∙ ap (λ (g : Group). g.next) was)
              | inr p ↦ ap (λ (g : Group). g.next) (set_others groups number own blank n p.1)
            ]) chained);
        few = subst (λ (k : ℕ). k ≤ length heads) (sym count) few;
      }

  pub filled_lists : (old : List Group) (own : Group) (hash : ℕ) → own.hash ≡ hash → lists_of groups ≡ lists_of (slice_set old number own)
      → lists_of (slice_set groups number (record { hash = (slice_index_or groups number d).hash; next = (slice_index_or groups number d).next; list = list })) ≡ set (lists_of old) number (hash, list)
  filled_lists old own hash is lists =
      let low : number < length old = subst (λ (k : ℕ). number < k) (same_length groups (slice_set old number own) lists ∙ length_set old number own) within in
      let hashed : (slice_index_or groups number d).hash ≡ hash
      = ap (λ (g : Group). g.hash) (group_is groups number d within) ∙ same_hash groups (slice_set old number own) lists number ∙ ap (λ (g : Group). g.hash) (set_here old number own blank low) ∙ is in
      lists_set groups number (record { hash = (slice_index_or groups number d).hash; next = (slice_index_or groups number d).next; list = list })
      ∙ ap (λ (h : ℕ). set (lists_of groups) number (h, list)) hashed
      ∙ ap (λ (ls : List (ℕ × List ℕ)). set ls number (hash, list)) (lists ∙ lists_set old number own)
      ∙ set_again (lists_of old) number (own.hash, own.list) (hash, list)

-- a group comes last, and is in no chain yet
pub pushed : (heads : List ℕ) (groups : List Group) (g : Group) → Chained (length groups) (stamped groups) heads groups
    → Chained (length groups) (stamped (groups ++ g ∷ [])) heads (groups ++ g ∷ [])
pushed heads groups g chained =
    chains_kept (length groups) (stamped groups) (stamped (groups ++ g ∷ [])) heads groups (groups ++ g ∷ [])
    (λ n under. ap (λ (h : Group). has_stamps h.list) (pushed_before groups g blank n under))
    (λ n under is. ap (λ (h : Group). h.hash) (pushed_before groups g blank n under))
    (λ n under is. ap (λ (h : Group). h.next) (pushed_before groups g blank n under)) chained
