-- The session of a name, among the sessions that are kept.
use Rattle.std.proofs.Common.{◌≡◌, ℕ, zero, suc, ◌<◌, ◌≤◌, Bool, true, false, ◌&&◌, nat_le, Option, Some, None, List, [], ◌∷◌, ◌++◌, length, get_or, slice_set, refl, sym, ap, ap₂, ◌∙◌, subst, arith}
use Rattle.std.specs.Prelude.{is_none, bytes_eq, position, if◌then◌else◌}
use Rattle.std.specs.List.{position_or_len}
use Rattle.std.proofs.lemmas.Grind.{common_steps}
use Rattle.std.proofs.lemmas.List.Quantifiers.{position-Some}
use Rattle.std.proofs.lemmas.Slice.Zip.{AllZip-long}
use Rattle.ceal_many.specs.Kept.{StandsAs, StandFor, AllMeet}
use Rattle.ceal_many.specs.Sessions.{MOST, Named, session, state_of, with_state, is_refused}
use Rattle.ceal_many.specs.Standing.{IsReady}
use Rattle.ceal_many.specs.declared.entry.Entry.{Entry}
use Rattle.ceal_many.proofs.SessionLaws.{same-name}

-- where a test finds nothing
past : {X : Type 0} (p : X → Bool) (xs : List X) → position p xs ≡ None → length xs ≤ position_or_len p xs
past p xs e = grind (arith, common_steps, e)

module _ {A S : Type 0} (stands : A → S → Type 0) (name : List ℕ) where
  abbrev pub is_its : Entry A → Bool
  is_its entry = bytes_eq name entry.name

  -- what was sought among these sessions
  pub sought : (held seen : List (Entry A)) (r o : Option ℕ) → seen ≡ held → r ≡ position is_its seen → r ≡ o → position is_its held ≡ o
  sought held seen r o e f g = ap (position is_its) (sym e) ∙ sym f ∙ g

  -- the session at its place: its state, and what is there after it
  abbrev pub Found : List (Entry A) → List (Named S) → ℕ → Entry A → Type 0
  Found held ss at e = (s : S) × (state_of name ss ≡ Some s) × stands e.answerer s
      × ((f : Entry A) (n : S) → f.name ≡ e.name → stands f.answerer n → StandFor stands (slice_set held at f) (with_state name n ss))

  found-at : (held : List (Entry A)) (ss : List (Named S)) (at : ℕ) (e : Entry A) → StandFor stands held ss → at < length held
      → is_its (get_or held at e) ≡ true → ((k : ℕ) → k < at → is_its (get_or held k e) ≡ false) → get_or held at e ≡ e → Found held ss at e
  unfolding state_of with_state
  found-at [] ss at e t lt fit-at apart is = absurd (omega (arith, lt))
  found-at (h ∷ hs) [] at e t lt fit-at apart is = absurd t
  found-at (h ∷ hs) (s ∷ ss) zero e t lt fit-at apart is =
      let fit : bytes_eq name s.name ≡ true = ap (bytes_eq name) (sym t.0.name) ∙ fit-at in (
        s.state,
        ap (λ (b : Bool). if b then Some s.state else state_of name ss) fit,
        subst (λ (x : Entry A). stands x.answerer s.state) is t.0.state,
        λ f n same stand. subst (λ (b : Bool). StandFor stands (f ∷ hs) (if b then session s.name n ∷ ss else s ∷ with_state name n ss)) (sym fit)
            (record { name = same ∙ ap (λ (x : Entry A). x.name) (sym is) ∙ t.0.name; state = stand }, t.1),
      )
  found-at (h ∷ hs) (s ∷ ss) (suc at) e t lt fit-at apart is =
      let miss : bytes_eq name s.name ≡ false = ap (bytes_eq name) (sym t.0.name) ∙ apart 0 (omega arith) in
      let r = found-at hs ss at e t.1 (omega (arith, lt)) fit-at (λ k l. apart (suc k) (omega (arith, l))) is in (
        r.0,
        ap (λ (b : Bool). if b then Some s.state else state_of name ss) miss ∙ r.1,
        r.2,
        λ f n same stand. subst (λ (b : Bool). StandFor stands (h ∷ slice_set hs at f) (if b then session s.name n ∷ ss else s ∷ with_state name n ss)) (sym miss)
            (t.0, r.3 f n same stand),
      )

  pub found : (held : List (Entry A)) (ss : List (Named S)) (at : ℕ) (e : Entry A) → position is_its held ≡ Some at → e ≡ get_or held at e
      → StandFor stands held ss → Found held ss at e
  found held ss at e p is t = let first = position-Some is_its held at e p in found-at held ss at e t first.0 first.1 first.2 (sym is)

  pub its-name : (held : List (Entry A)) (at : ℕ) (e : Entry A) → position is_its held ≡ Some at → e ≡ get_or held at e → name ≡ e.name
  its-name held at e p is = same-name name e.name (ap is_its is ∙ (position-Some is_its held at e p).1)

  missing-past : (held : List (Entry A)) (ss : List (Named S)) → StandFor stands held ss → length held ≤ position_or_len is_its held → state_of name ss ≡ None
  unfolding state_of
  missing-past [] [] t le = refl
  missing-past [] (s ∷ ss) t le = absurd t
  missing-past (h ∷ hs) [] t le = absurd t
  missing-past (h ∷ hs) (s ∷ ss) t le =
      let go : (b : Bool) → is_its h ≡ b → (if b then Some s.state else state_of name ss) ≡ None =
      elim [
        | true ↦ λ e. absurd (grind (arith, common_steps, e, le))
        | false ↦ λ e. missing-past hs ss t.1 (grind (arith, common_steps, e, le))
      ] in
      ap (λ (m : List ℕ). if bytes_eq name m then Some s.state else state_of name ss) (sym t.0.name) ∙ go (is_its h) refl

  pub missing : (held : List (Entry A)) (ss : List (Named S)) → position is_its held ≡ None → StandFor stands held ss → state_of name ss ≡ None
  missing held ss p t = missing-past held ss t (past is_its held p)

  pub behind : (held : List (Entry A)) (ss : List (Named S)) (f : Entry A) (n : S) → state_of name ss ≡ None → StandFor stands held ss
      → f.name ≡ name → stands f.answerer n → StandFor stands (held ++ f ∷ []) (with_state name n ss)
  unfolding state_of with_state
  behind [] [] f n none t same stand = (record { name = same; state = stand }, tt)
  behind [] (s ∷ ss) f n none t same stand = absurd t
  behind (h ∷ hs) [] f n none t same stand = absurd t
  behind (h ∷ hs) (s ∷ ss) f n none t same stand =
      let go : (b : Bool) → (if b then Some s.state else state_of name ss) ≡ None
      → StandFor stands (h ∷ (hs ++ f ∷ [])) (if b then session s.name n ∷ ss else s ∷ with_state name n ss) =
      elim [
        | true ↦ λ e. absurd (grind (arith, e))
        | false ↦ λ e. (t.0, behind hs ss f n e t.1 same stand)
      ] in
      go (bytes_eq name s.name) none

  met : (needs : S → Type 0) (ss : List (Named S)) (s : S) → AllMeet needs ss → state_of name ss ≡ Some s → needs s
  unfolding state_of
  met needs [] s m e = absurd (grind (arith, e))
  met needs (x ∷ xs) s m e =
      let go : (b : Bool) → (if b then Some x.state else state_of name xs) ≡ Some s → needs s =
      elim [
        | true ↦ λ k. subst needs (grind (arith, k)) m.0
        | false ↦ λ k. met needs xs s m.1 k
      ] in
      go (bytes_eq name x.name) e

  pub ready : (needs : S → Type 0) (held : List (Entry A)) (at : ℕ) (e : Entry A) → position is_its held ≡ Some at → e ≡ get_or held at e
      → IsReady (StandFor stands) (AllMeet needs) held → IsReady stands needs e.answerer
  ready needs held at e p is r = let f = found held r.0 at e p is r.1 in (f.0, f.2, met needs r.0 f.0 r.2 f.1)

  pub no-room : (held : List (Entry A)) (ss : List (Named S)) (b : Bool) → position is_its held ≡ None → nat_le MOST (length held) ≡ b
      → StandFor stands held ss → is_refused name ss ≡ b
  no-room held ss b p e t =
      ap₂ (λ (o : Option S) (n : ℕ). is_none o && nat_le MOST n) (missing held ss p t) (AllZip-long (StandsAs stands) held ss t) ∙ e
