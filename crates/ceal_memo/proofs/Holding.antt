-- Which entries a memo has.
use Rattle.std.proofs.Common.{◌≡◌, ◌≢◌, ℕ, inl, inr, true, false, List, Option, None, Some, refl, sym, ap, ◌∙◌, subst, ◌==◌, if◌then◌else◌}
use Rattle.std.proofs.lemmas.Bool.Decides.{eqb_tells}
use Rattle.std.proofs.lemmas.Bool.{eq-eqb, false≢true}
use Rattle.ceal_order.proofs.RisingLemmas.{rising_deleted}
use Rattle.ceal_order.specs.Stamps.{is_in, without, OneMore}
use Rattle.ceal_order.specs.Rising.{IsRising, KeepsOrder, count_before}
use Rattle.ceal_order.proofs.Members.{in_insert, in_without}
use Rattle.ceal_memo.specs.Hashes.{hash_of}
use Rattle.ceal_memo.specs.Keys.{EntryKey}
use Rattle.ceal_memo.specs.Lists.{with_stamp}
use Rattle.ceal_memo.specs.Memo.{Contents, Holds, Follows, HasNone, KeepsEntries, is_under, with_key, without_key}
use Rattle.ceal_memo.specs.Table.{ByHash, entries_of, EntriesChange, Follows as Table_follows, HasNone as Table_has_none}

-- what is under a hash is an entry
pub is_some : (seed : List ℕ) (hash : ℕ) (entry : Option EntryKey) → is_under seed hash entry ≡ true → entry ≢ None
is_some seed hash None under = absurd (false≢true under)
is_some seed hash (Some key) under = λ same. cc

-- an entry with a key is under its hash
pub under_own : (seed : List ℕ) (key : EntryKey) (entry : Option EntryKey) → entry ≡ Some key → is_under seed (hash_of seed key) entry ≡ true
under_own seed key entry is = ap (is_under seed (hash_of seed key)) is ∙ eq-eqb (hash_of seed key) (hash_of seed key) refl

module _ (memo : Contents) (entries : ℕ → Option EntryKey) (holds : Holds memo entries) where
  pub known : (hash s : ℕ) → is_in s (entries_of memo.table hash) ≡ true → entries s ≢ None
  known hash s there = is_some memo.seed hash (entries s) (sym (holds.stamps hash s) ∙ there)

  pub listed : (key : EntryKey) (s : ℕ) → entries s ≡ Some key → is_in s (entries_of memo.table (hash_of memo.seed key)) ≡ true
  listed key s is = holds.stamps (hash_of memo.seed key) s ∙ under_own memo.seed key (entries s) is

  -- a stamp has no entry
  pub none_there : (s : ℕ) → entries s ≡ None → HasNone s memo
  none_there s none = record { table = record { none = λ hash. holds.stamps hash s ∙ ap (is_under memo.seed hash) none } }

  pub there_none : (s : ℕ) → HasNone s memo → entries s ≡ None
  there_none s none = by (entries s) refl
    where
      by : (o : Option EntryKey) → entries s ≡ o → o ≡ None
      by None is = refl
      by (Some key) is = absurd (false≢true (sym (none.table.none (hash_of memo.seed key)) ∙ listed key s is))

  pub follows_law : (old new : List ℕ) → ((stamps : List ℕ) → IsRising old stamps → KeepsOrder stamps old new → IsRising new stamps)
      → Follows old memo → KeepsEntries entries old new → Follows new memo
  follows_law old new law follows keeps = record {
    table = record {
      rising = λ hash. law (entries_of memo.table hash) (follows.table.rising hash) (record {
        there = λ s there. keeps.there s (known hash s there);
        order = λ a b a_there b_there. keeps.order a b (known hash a a_there) (known hash b b_there);
      });
    };
  }

-- an entry comes in
pub holds_more : (order : List ℕ) (s : ℕ) (key : EntryKey) (old new : ByHash) (seed : List ℕ) (entries : ℕ → Option EntryKey)
    → Table_has_none s old → EntriesChange (hash_of seed key) (with_stamp order s (entries_of old (hash_of seed key))) old new
    → Holds (record { table = old; seed = seed }) entries → Holds (record { table = new; seed = seed }) (with_key s key entries)
holds_more order s key old new seed entries none change holds = record { stamps = stamps }
  where
    own : ℕ
    own = hash_of seed key

    here : (t : ℕ) → is_in t (entries_of new own) ≡ (if s == t then true else is_in t (entries_of old own))
    here t = ap (is_in t) change.here ∙ in_insert t s (count_before order s (entries_of old own)) (entries_of old own)

    stamps : (hash t : ℕ) → is_in t (entries_of new hash) ≡ is_under seed hash (with_key s key entries t)
    stamps hash t = elim (eqb_tells s t) [
      | inl p ↦ elim (eqb_tells own hash) [
        | inl q ↦ subst (λ (h : ℕ). is_in t (entries_of new h) ≡ is_under seed h (with_key s key entries t)) q.1
            (here t ∙ rw p.0 (sym (eq-eqb own own refl)))
        | inr q ↦
            let out : is_in t (entries_of new hash)
            ≡ false = ap (is_in t) (change.others hash (λ same. q.1 (sym same))) ∙ subst (λ (u : ℕ). is_in u (entries_of old hash) ≡ false) p.1 (none.none hash) in
            out ∙ rw (p.0, q.0) refl
      ]
      | inr p ↦ elim (eqb_tells own hash) [
        | inl q ↦ subst (λ (h : ℕ). is_in t (entries_of new h) ≡ is_under seed h (with_key s key entries t)) q.1
            (here t ∙ rw p.0 (holds.stamps own t))
        | inr q ↦ ap (is_in t) (change.others hash (λ same. q.1 (sym same))) ∙ rw p.0 (holds.stamps hash t)
      ]
    ]

-- an entry goes
pub holds_less : (order : List ℕ) (s : ℕ) (old new : ByHash) (seed : List ℕ) (entries : ℕ → Option EntryKey)
    → Table_follows order old → ((hash : ℕ) → entries_of new hash ≡ without s (entries_of old hash))
    → Holds (record { table = old; seed = seed }) entries → Holds (record { table = new; seed = seed }) (without_key s entries)
holds_less order s old new seed entries follows less holds = record { stamps = stamps }
  where
    stamps : (hash t : ℕ) → is_in t (entries_of new hash) ≡ is_under seed hash (without_key s entries t)
    stamps hash t =
        let e : is_in t (entries_of new hash)
        ≡ (if s == t then false else is_in t (entries_of old hash)) = ap (is_in t) (less hash) ∙ in_without order t s (entries_of old hash) (follows.rising hash) in
        elim (eqb_tells s t) [
          | inl p ↦ e ∙ rw p.0 refl
          | inr p ↦ e ∙ rw p.0 (holds.stamps hash t)
        ]

-- entries that are the same one by one
pub holds_as : (memo : Contents) (old new : ℕ → Option EntryKey) → ((s : ℕ) → old s ≡ new s) → Holds memo old → Holds memo new
holds_as memo old new same holds = record { stamps = λ hash s. holds.stamps hash s ∙ ap (is_under memo.seed hash) (same s) }

-- a stamp without an entry leaves the order
pub follows_deleted : (s : ℕ) (memo : Contents) (old new : List ℕ) → Follows old memo → OneMore s new old → HasNone s memo → Follows new memo
follows_deleted s memo old new follows more none = record {
  table = record {
    rising = λ hash.
        rising_deleted s (entries_of memo.table hash) old new (follows.table.rising hash) more (none.table.none hash);
  };
}
