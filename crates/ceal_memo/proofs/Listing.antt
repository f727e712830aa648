-- Groups as lists of stamps by hash.
use Rattle.std.proofs.Common.{◌≡◌, ◌≢◌, ◌<◌, ◌≤◌, ℕ, suc, zero, Bool, true, false, inl, inr, ◌⊎◌, ◌↔◌, Result, Ok, Err, List, [], ◌∷◌, length, set, Some, refl, sym, ap, ◌∙◌, subst, slice_get}
use Rattle.std.proofs.lemmas.Bool.{cases_Bool, false≢true}
use Rattle.std.proofs.lemmas.Bool.Decides.{eqb_tells}
use Rattle.ceal_memo.specs.declared.chains.Group.{Group}
use Rattle.ceal_memo.specs.Lists.{has_stamps, stamps_at}
use Rattle.std.specs.Prelude.{OnOk, OnErr, IsTrue}
use Rattle.ceal_memo.specs.Numbers.{list_at, hashes_in, OneList, IsEntered}
use Rattle.ceal_memo.specs.Chains.{with_one, blank, group_at, next_at, lists_of, with_list, stamped, IsLinked, Chained}
use Rattle.ceal_memo.proofs.Numbers.{get_within}
use Rattle.ceal_memo.proofs.Looking.{first_is, second_is, looked, nothing}
use Rattle.ceal_memo.proofs.Entering.{entered_again, entered_there}
use Rattle.ceal_memo.proofs.Grouping.{set_here, set_others, length_set, length_lists, lists_set, list_in, is_some, is_empty}
use Rattle.ceal_memo.proofs.Linking.{with_itself, chains_kept}

-- a group that was found has the stamps under its hash
pub list_found : (groups : List Group) (n hash : ℕ) → OneList (lists_of groups) → n < length groups → stamped groups n ≡ true → (group_at groups n).hash ≡ hash
    → stamps_at (lists_of groups) hash ≡ (group_at groups n).list
list_found groups n hash unique within stamps is =
    looked (lists_of groups) unique n hash (group_at groups n).list
    (subst (λ (h : ℕ). slice_get (lists_of groups) n ≡ Some (h, (group_at groups n).list)) is (list_in groups n within))
    (is_some (group_at groups n).list stamps)

-- where none was found there are no stamps
pub none_found : (groups : List Group) (hash : ℕ) → ((n : ℕ) → stamped groups n ≡ true → (group_at groups n).hash ≢ hash) → stamps_at (lists_of groups) hash ≡ []
none_found groups hash none = nothing (lists_of groups) hash (λ n l at. elim (cases_Bool (stamped groups n)) [
  | inl stamps ↦
      let within : n < length groups = subst (λ (k : ℕ). n < k) (length_lists groups) (get_within (lists_of groups) n (hash, l) at) in
      absurd (none n stamps (first_is (group_at groups n).hash hash (group_at groups n).list l (sym (list_in groups n within) ∙ at)))
  | inr empty ↦
      let within : n < length groups = subst (λ (k : ℕ). n < k) (length_lists groups) (get_within (lists_of groups) n (hash, l) at) in
      sym (second_is (group_at groups n).hash hash (group_at groups n).list l (sym (list_in groups n within) ∙ at)) ∙ is_empty (group_at groups n).list empty
])

-- the list with a number is that of the group
pub list_of : (groups : List Group) (n : ℕ) → list_at (lists_of groups) n ≡ (group_at groups n).list
list_of [] n = refl
list_of (g ∷ gs) zero = refl
list_of (g ∷ gs) (suc n) = list_of gs n

-- ---- other stamps in a group

module _ (groups : List Group) (n : ℕ) (list : List ℕ) (within : n < length groups) where
  pub listed : lists_of (with_list groups n list) ≡ set (lists_of groups) n ((group_at groups n).hash, list)
  listed = lists_set groups n (record (group_at groups n) { list = list })

  -- and it has some as before, or none
  pub still_linked : (heads : List ℕ) → has_stamps list ≡ stamped groups n → IsLinked heads groups → IsLinked heads (with_list groups n list)
  still_linked heads same linked =
      let new = with_list groups n list in
      let count = length_set groups n (record (group_at groups n) { list = list }) in
      let here = set_here groups n (record (group_at groups n) { list = list }) blank within in
      let other = set_others groups n (record (group_at groups n) { list = list }) blank in
      record {
        chained = subst (λ (k : ℕ). Chained k (stamped new) heads new) (sym count)
            (chains_kept (length groups) (stamped groups) (stamped new) heads groups new
            (λ i under. elim (eqb_tells i n) [
              | inl p ↦ subst (λ (k : ℕ). stamped new k ≡ stamped groups k) (sym p.1) (ap (λ (g : Group). has_stamps g.list) here ∙ same)
              | inr p ↦ ap (λ (g : Group). has_stamps g.list) (other i p.1)
            ])
            (λ i under is. elim (eqb_tells i n) [
              | inl p ↦ subst (λ (k : ℕ). (group_at new k).hash ≡ (group_at groups k).hash) (sym p.1) (ap (λ (g : Group). g.hash) here)
              | inr p ↦ ap (λ (g : Group). g.hash) (other i p.1)
            ])
            (λ i under is. elim (eqb_tells i n) [
              | inl p ↦ subst (λ (k : ℕ). next_at new k ≡ next_at groups k) (sym p.1) (ap (λ (g : Group). g.next) here)
              | inr p ↦ ap (λ (g : Group). g.next) (other i p.1)
            ]) linked.chained);
        few = subst (λ (k : ℕ). k ≤ length heads) (sym count) linked.few;
      }

  -- and it has none any more
  pub emptied : (heads : List ℕ) → stamped groups n ≡ true → has_stamps list ≡ false → IsLinked heads groups
      → Chained (length (with_list groups n list)) (with_one n (stamped (with_list groups n list))) heads (with_list groups n list)
  emptied heads stamps empty linked =
      let new = with_list groups n list in
      let count = length_set groups n (record (group_at groups n) { list = list }) in
      let here = set_here groups n (record (group_at groups n) { list = list }) blank within in
      let other = set_others groups n (record (group_at groups n) { list = list }) blank in
      subst (λ (k : ℕ). Chained k (with_one n (stamped new)) heads new) (sym count)
      (chains_kept (length groups) (stamped groups) (with_one n (stamped new)) heads groups new
      (λ i under. elim (eqb_tells i n) [
        | inl p ↦ subst (λ (k : ℕ). with_one n (stamped new) k ≡ stamped groups k) (sym p.1) (with_itself n (stamped new) ∙ sym stamps)
        | inr p ↦ rw p.0 (ap (λ (g : Group). has_stamps g.list) (other i p.1))
      ])
      (λ i under is. elim (eqb_tells i n) [
        | inl p ↦ subst (λ (k : ℕ). (group_at new k).hash ≡ (group_at groups k).hash) (sym p.1) (ap (λ (g : Group). g.hash) here)
        | inr p ↦ ap (λ (g : Group). g.hash) (other i p.1)
      ])
      (λ i under is. elim (eqb_tells i n) [
        | inl p ↦ subst (λ (k : ℕ). next_at new k ≡ next_at groups k) (sym p.1) (ap (λ (g : Group). g.next) here)
        | inr p ↦ ap (λ (g : Group). g.next) (other i p.1)
      ]) linked.chained)

  pub list_here : list_at (lists_of (with_list groups n list)) n ≡ list
  list_here = list_of (with_list groups n list) n ∙ ap (λ (g : Group). g.list) (set_here groups n (record (group_at groups n) { list = list }) blank within)

  pub list_other : (i : ℕ) → i ≢ n → list_at (lists_of (with_list groups n list)) i ≡ list_at (lists_of groups) i
  list_other i other = list_of (with_list groups n list) i ∙ ap (λ (g : Group). g.list) (set_others groups n (record (group_at groups n) { list = list }) blank i other) ∙ sym (list_of groups i)

  -- where it has some and had some, the hash has them
  pub again : (hash : ℕ) → OneList (lists_of groups) → stamped groups n ≡ true → (group_at groups n).hash ≡ hash
      → IsEntered (lists_of groups) (lists_of (with_list groups n list)) hash n list
  again hash unique stamps is =
      let at = subst (λ (h : ℕ). slice_get (lists_of groups) n ≡ Some (h, (group_at groups n).list)) is (list_in groups n within) in
      subst (λ (ls : List (ℕ × List ℕ)). IsEntered (lists_of groups) ls hash n list) (sym (listed ∙ ap (λ (h : ℕ). set (lists_of groups) n (h, list)) is))
      (entered_again (lists_of groups) unique hash list n (group_at groups n).list at (is_some (group_at groups n).list stamps))

-- an empty group is given to a hash without stamps
pub filled_again : (groups : List Group) (n hash : ℕ) (list : List ℕ) → n < length groups → stamped groups n ≡ false → OneList (lists_of groups)
    → stamps_at (lists_of groups) hash ≡ [] → IsEntered (lists_of groups) (set (lists_of groups) n (hash, list)) hash n list
filled_again groups n hash list within empty unique none =
    entered_there (lists_of groups) unique hash list none n (group_at groups n).hash
    (subst (λ (l : List ℕ). slice_get (lists_of groups) n ≡ Some ((group_at groups n).hash, l)) (is_empty (group_at groups n).list empty) (list_in groups n within))

pub hashes_kept : (groups : List Group) (n : ℕ) (list : List ℕ) → hashes_in (lists_of (with_list groups n list)) ≡ hashes_in (lists_of groups)
hashes_kept [] n list = refl
hashes_kept (g ∷ gs) zero list = refl
hashes_kept (g ∷ gs) (suc n) list = ap (λ (hs : List ℕ). g.hash ∷ hs) (hashes_kept gs n list)

-- an answer of both kinds
pub answered : {T E P Q : Type 0} (r : Result T E) → OnOk r P → OnErr r Q → P ⊎ Q
answered (Ok v) ok err = inl ok
answered (Err e) ok err = inr err

pub not_empty : (b s : Bool) → IsTrue b ↔ (s ≡ false) → b ≡ false → s ≡ true
not_empty b s tells answer = elim (cases_Bool s) [
  | inl holds ↦ holds
  | inr fails ↦ absurd (false≢true (sym answer ∙ tells.1 fails))
]
