-- A table stays sound as numbers are given out, revoked and released.
use Rattle.std.proofs.Common.{◌≡◌, ℕ, ◌+◌, ◌-◌, ◌<◌, ◌≤◌, ◌^◌, List, [], ◌∷◌, ◌++◌, length, set, Bool, true, false, Some, refl, sym, ap, ◌∙◌, subst, arith, slice_get, get_or}
use Rattle.std.proofs.lemmas.List.{length-set, length_push}
use Rattle.std.proofs.lemmas.Option.{same_Some, slice_get_within, slice_get_read}
use Rattle.std.proofs.lemmas.Bool.{false≢true}
use Rattle.ceal_heap.specs.Stack.{Pile}
use Rattle.ceal_heap.specs.Table.{Ledger, state_is_live, state_is_revoked, state_is_released, is_live, is_revoked, is_released, one_if, tally, Tracks, IsSound, HasRoom, NoneFree}
use Rattle.ceal_heap.specs.declared.number.Held.{Held}
use Rattle.ceal_heap.specs.declared.number.Number.{Number}
use Rattle.ceal_heap.specs.declared.number.State.{State}
use Rattle.ceal_heap.specs.declared.number.State.TheVariants.{Live, Revoked, Released}
use Rattle.ceal_heap.proofs.TallyLemmas.{tally_set, tally_push, tally_most, tally_below, tally_some, tracks_keep, tracks_in, tracks_out, tracks_found, tracks_more, tracks_none}

state_released : (s : State) → state_is_released s ≡ true → s ≡ Released
state_released (Live h) e = absurd (false≢true e)
state_released (Revoked h) e = absurd (false≢true e)
state_released Released e = refl

state_revoked : (s : State) → state_is_revoked s ≡ true → (h : Held) × (s ≡ Revoked h)
state_revoked (Live h) e = absurd (false≢true e)
state_revoked (Revoked h) e = (h, refl)
state_revoked Released e = absurd (false≢true e)

-- the parts of a sound table
module _ (t : Ledger) (sound : IsSound t) where
  -- a number changes
  module _ (n : ℕ) (x y : Number) (some : slice_get t.numbers n ≡ Some x) where
    changed : (limbo free : Pile) (live : ℕ) → live ≡ tally is_live (set t.numbers n y) → Tracks is_revoked limbo.items (set t.numbers n y)
        → t.limbo.room ≤ limbo.room → Tracks is_released free.items (set t.numbers n y) → t.free.room ≤ free.room
        → IsSound (record { numbers = set t.numbers n y; room = t.room; limbo = limbo; free = free; live = live })
    changed limbo free live counted tracks more frees wider = let long = length-set t.numbers n y in record {
      few = omega (arith, long, sound.few);
      live = counted;
      limbo = tracks;
      limbo_room = omega (arith, long, sound.limbo_room, more);
      free = frees;
      free_room = omega (arith, long, sound.free_room, wider);
    }

    live_after : (before after : Bool) → (e : state_is_live x.state ≡ before) → (f : state_is_live y.state ≡ after)
        → tally is_live (set t.numbers n y) + one_if before ≡ t.live + one_if after
    live_after before after e f = let p = ap one_if e in let q = ap one_if f in let counted = tally_set is_live t.numbers n x y some in omega (arith, p, q, counted, sound.live)

    -- a free number is given to a block
    pub reused : (free : Pile) (held : Held) → t.free.items ≡ free.items ++ n ∷ [] → free.room ≡ t.free.room → x.state ≡ Released → y.state ≡ Live held
        → IsSound (record { numbers = set t.numbers n y; room = t.room; limbo = t.limbo; free = free; live = t.live + 1 })
    reused free held items wide was now =
        changed t.limbo free (t.live + 1)
        (let counted = live_after false true (ap state_is_live was) (ap state_is_live now) in omega (arith, counted))
        (tracks_keep is_revoked t.limbo.items t.numbers n x y sound.limbo some (ap state_is_revoked now ∙ sym (ap state_is_revoked was)))
        (omega arith)
        (tracks_out is_released free.items t.numbers n x y (subst (λ (ns : List ℕ). Tracks is_released ns t.numbers) items sound.free) some (ap state_is_released now))
        (omega (arith, wide))

    -- a live block is revoked
    pub revoked : (limbo : Pile) (held : Held) → limbo.items ≡ t.limbo.items ++ n ∷ [] → t.limbo.room ≤ limbo.room → x.state ≡ Live held → y.state ≡ Revoked held
        → IsSound (record { numbers = set t.numbers n y; room = t.room; limbo = limbo; free = t.free; live = t.live - 1 })
    revoked limbo held items wide was now =
        changed limbo t.free (t.live - 1)
        (let counted = live_after true false (ap state_is_live was) (ap state_is_live now) in omega (arith, counted))
        (subst (λ (ns : List ℕ). Tracks is_revoked ns (set t.numbers n y)) (sym items)
        (tracks_in is_revoked t.limbo.items t.numbers n x y sound.limbo some (ap state_is_revoked was) (ap state_is_revoked now)))
        wide
        (tracks_keep is_released t.free.items t.numbers n x y sound.free some (ap state_is_released now ∙ sym (ap state_is_released was)))
        (omega arith)

    -- a revoked block is taken away
    pub released : (limbo free : Pile) (held : Held) → t.limbo.items ≡ limbo.items ++ n ∷ [] → limbo.room ≡ t.limbo.room
        → free.items ≡ t.free.items ++ n ∷ [] → t.free.room ≤ free.room → x.state ≡ Revoked held → y.state ≡ Released
        → IsSound (record { numbers = set t.numbers n y; room = t.room; limbo = limbo; free = free; live = t.live })
    released limbo free held items same more_items more was now =
        changed limbo free t.live
        (let counted = live_after false false (ap state_is_live was) (ap state_is_live now) in omega (arith, counted))
        (tracks_out is_revoked limbo.items t.numbers n x y (subst (λ (ns : List ℕ). Tracks is_revoked ns t.numbers) items sound.limbo) some (ap state_is_revoked now))
        (omega (arith, same))
        (subst (λ (ns : List ℕ). Tracks is_released ns (set t.numbers n y)) (sym more_items)
        (tracks_in is_released t.free.items t.numbers n x y sound.free some (ap state_is_released was) (ap state_is_released now)))
        more

    -- there is room for a number among the free ones, if it is not free, and among the revoked ones, if it is not
    -- revoked
    pub room_in_free : state_is_released x.state ≡ false → length t.free.items < t.free.room
    room_in_free held = let below = tally_below is_released t.numbers n x some held in omega (arith, below, sound.free.all, sound.free_room)

    pub room_in_limbo : state_is_revoked x.state ≡ false → length t.limbo.items < t.limbo.room
    room_in_limbo held = let below = tally_below is_revoked t.numbers n x some held in omega (arith, below, sound.limbo.all, sound.limbo_room)

    pub few_live : state_is_live x.state ≡ false → t.live + 1 < 2 ^ 32
    few_live dead = let below = tally_below is_live t.numbers n x some dead in omega (arith, below, sound.live, sound.few)

    pub some_live : state_is_live x.state ≡ true → 0 < t.live
    some_live alive = let one = tally_some is_live t.numbers n x some alive in omega (arith, one, sound.live)

  -- a number more is given to a block
  pub added : (y : Number) (held : Held) (room : ℕ) → HasRoom t → y.state ≡ Live held
      → IsSound (record { numbers = t.numbers ++ y ∷ []; room = room; limbo = t.limbo; free = t.free; live = t.live + 1 })
  added y held room ready now =
      let long = length_push t.numbers y in record {
        few = omega (arith, long, ready.few);
        live = let p = ap (λ (s : State). one_if (state_is_live s)) now in let counted = tally_push is_live t.numbers y in omega (arith, p, counted, sound.live);
        limbo = tracks_more is_revoked t.limbo.items t.numbers y sound.limbo (ap state_is_revoked now);
        limbo_room = omega (arith, long, ready.limbo);
        free = tracks_more is_released t.free.items t.numbers y sound.free (ap state_is_released now);
        free_room = omega (arith, long, ready.free);
      }

  pub few_alive : length t.numbers + 1 < 2 ^ 32 → t.live + 1 < 2 ^ 32
  few_alive few = let most = tally_most is_live t.numbers in omega (arith, most, few, sound.live)

  -- where the list of free numbers is empty, none is free
  pub none_free : t.free.items ≡ [] → NoneFree t.numbers
  none_free none n shape some =
      false≢true (sym (tracks_none is_released t.numbers n (record { shape = shape; state = Released }) (subst (λ (ns : List ℕ). Tracks is_released ns t.numbers) none sound.free) some))

  -- the number on top of the free ones is free
  pub top_free : (rest : List ℕ) (n : ℕ) → t.free.items ≡ rest ++ n ∷ [] → (x : Number) × (slice_get t.numbers n ≡ Some x) × (x.state ≡ Released)
  top_free rest n items =
      let found = tracks_found is_released rest t.numbers n (subst (λ (ns : List ℕ). Tracks is_released ns t.numbers) items sound.free) in
      (found.0, found.1, state_released found.0.state found.2)

  -- the number on top of the revoked ones is revoked
  pub top_revoked : (rest : List ℕ) (n : ℕ) → t.limbo.items ≡ rest ++ n ∷ [] → (x : Number) × (held : Held) × (slice_get t.numbers n ≡ Some x) × (x.state ≡ Revoked held)
  top_revoked rest n items =
      let found = tracks_found is_revoked rest t.numbers n (subst (λ (ns : List ℕ). Tracks is_revoked ns t.numbers) items sound.limbo) in
      let is = state_revoked found.0.state found.2 in (found.0, is.0, found.1, is.1)

-- the number that a call found, of which something is known
pub entry_of : (numbers : List Number) (len n : ℕ) (entry x : Number) → len ≡ length numbers → slice_get numbers n ≡ Some x → entry ≡ get_or numbers n entry
    → (slice_get numbers n ≡ Some entry) × (entry ≡ x)
entry_of numbers len n entry x counted some is =
    let found = slice_get_read numbers len n entry counted (let within = slice_get_within numbers n x some in omega (arith, within, counted)) is in
    (found, same_Some entry x (sym found ∙ some))
