-- The state of one name, and the names.
use Rattle.std.proofs.Common.{◌≡◌, ℕ, Bool, true, false, not, ◌||◌, Option, Some, None, List, [], ◌∷◌, ◌++◌, refl, sym, ap, ◌∙◌, subst}
use Rattle.std.specs.Prelude.{is_none, bytes_eq, if◌then◌else◌}
use Rattle.std.specs.List.{list_any}
use Rattle.std.proofs.lemmas.Slice.Eq.{bytes_eq-Decides}
use Rattle.ceal_many.specs.Laws.{names_of}
use Rattle.ceal_many.specs.Sessions.{Named, session, state_of, with_state}

pub same-name : (a b : List ℕ) → bytes_eq a b ≡ true → a ≡ b
same-name a b = (bytes_eq-Decides a b).0

pub itself : (a : List ℕ) → bytes_eq a a ≡ true
itself a = (bytes_eq-Decides a a).1 refl

module _ {S : Type 0} (name : List ℕ) (n : S) where
  -- the state for a name is the one that was put
  pub put : (ss : List (Named S)) → state_of name (with_state name n ss) ≡ Some n
  unfolding state_of with_state
  put [] = ap (λ (b : Bool). if b then Some n else None) (itself name)
  put (s ∷ ss) =
      let go : (b : Bool) → bytes_eq name s.name ≡ b → state_of name (if b then session s.name n ∷ ss else s ∷ with_state name n ss) ≡ Some n =
      elim [
        | true ↦ λ e. ap (λ (b : Bool). if b then Some n else state_of name ss) e
        | false ↦ λ e. ap (λ (b : Bool). if b then Some s.state else state_of name (with_state name n ss)) e ∙ put ss
      ] in
      go (bytes_eq name s.name) refl

  -- the names: one more, where it is new
  pub names_put : (ss : List (Named S)) → names_of (with_state name n ss)
      ≡ (if list_any (bytes_eq name) (names_of ss) then names_of ss else names_of ss ++ name ∷ [])
  unfolding with_state
  names_put [] = refl
  names_put (s ∷ ss) =
      let inside : (b : Bool) → (s.name ∷ (if b then names_of ss else names_of ss ++ name ∷ []))
      ≡ (if b then s.name ∷ names_of ss else s.name ∷ (names_of ss ++ name ∷ [])) =
      elim [ true ↦ refl | false ↦ refl ] in
      let go : (b : Bool) → bytes_eq name s.name ≡ b
      → names_of (if b then session s.name n ∷ ss else s ∷ with_state name n ss)
      ≡ (if b || list_any (bytes_eq name) (names_of ss) then s.name ∷ names_of ss else s.name ∷ (names_of ss ++ name ∷ [])) =
      elim [
        | true ↦ λ e. refl
        | false ↦ λ e. ap (λ (l : List (List ℕ)). s.name ∷ l) (names_put ss) ∙ inside (list_any (bytes_eq name) (names_of ss))
      ] in
      go (bytes_eq name s.name) refl

module _ {S : Type 0} (name : List ℕ) where
  -- a name has a state where it is among the names
  pub there : (ss : List (Named S)) → is_none (state_of name ss) ≡ not (list_any (bytes_eq name) (names_of ss))
  unfolding state_of
  there [] = refl
  there (s ∷ ss) =
      let go : (b : Bool) → is_none (if b then Some s.state else state_of name ss) ≡ not (b || list_any (bytes_eq name) (names_of ss)) =
      elim [ true ↦ refl | false ↦ there ss ] in
      go (bytes_eq name s.name)

module _ {S : Type 0} (name other : List ℕ) (n : S) (apart : bytes_eq name other ≡ false) where
  -- the state for another name stays
  pub kept : (ss : List (Named S)) → state_of name (with_state other n ss) ≡ state_of name ss
  unfolding state_of with_state
  kept [] = ap (λ (b : Bool). if b then Some n else None) apart
  kept (s ∷ ss) =
      let go : (b : Bool) → bytes_eq other s.name ≡ b
      → state_of name (if b then session s.name n ∷ ss else s ∷ with_state other n ss) ≡ state_of name (s ∷ ss) =
      elim [
        | true ↦ λ e. let far : bytes_eq name s.name ≡ false = subst (λ (m : List ℕ). bytes_eq name m ≡ false) (same-name other s.name e) apart in
            ap (λ (b : Bool). if b then Some n else state_of name ss) far ∙ sym (ap (λ (b : Bool). if b then Some s.state else state_of name ss) far)
        | false ↦ λ e. ap (λ (o : Option S). if bytes_eq name s.name then Some s.state else o) (kept ss)
      ] in
      go (bytes_eq other s.name) refl
