-- A place's name ends at the first dot.
use Rattle.std.proofs.Common.{◌≡◌, ℕ, ◌+◌, true, false, not, List, [], ◌∷◌, ◌++◌, length, take, drop, Option, Some, None, Err, sym, ap, ◌∙◌, refl, subst, arith}
use Rattle.std.specs.Prelude.{◌==◌, position, codes, bytes_eq, ℤ}
use Rattle.std.specs.List.{list_all}
use Rattle.std.proofs.lemmas.Bool.{false≢true, and_parts}
use Rattle.std.proofs.lemmas.Bool.Decides.{nat_tests}
use Rattle.std.proofs.lemmas.Slice.Eq.{bytes_eq-Decides}
use Rattle.ceal_script.specs.Answers.{Reads}
use Rattle.ceal_script.specs.Characters.{is_letter, is_name_byte}
use Rattle.ceal_script.specs.Spelling.{DOT, is_identifier, IsIdentifier, IsName, IsTextOf, place_text, IsField, HasField, SpellsNumber, SpellsPlace, SpellsValue}
use Rattle.ceal_script.specs.declared.command.PlaceWord.{PlaceWord}
use Rattle.ceal_script.specs.declared.command.ValueWord.{ValueWord}
use Rattle.ceal_script.specs.declared.command.ValueWord.TheVariants.{Num, Null, At}
use Rattle.ceal_script.specs.declared.line_error.LineError.{LineError}
use Rattle.ceal_script.specs.declared.line_error.LineError.TheVariants.{Memory, Unreadable}
use Rattle.ceal_script.proofs.Marks.{around_mark, before_mark, behind_mark, mark_behind, no_mark}

-- nothing is read of a text where nothing is read of a part of it
pub passed_on : {A B : Type 0} (P : A → Type 0) (Q : B → Type 0) (e : LineError) → (((x : A) → P x → ⊥) → (y : B) → Q y → ⊥)
    → Reads {A = A} (Err e) P → Reads {A = B} (Err e) Q
passed_on P Q Memory f h = tt
passed_on P Q Unreadable f h = f h

no_dot : (b : ℕ) → is_name_byte b ≡ true → not (b == DOT) ≡ true
no_dot b h = grind (arith, nat_tests)

pub identifier_bytes : (name : List ℕ) → IsIdentifier name → list_all is_name_byte name ≡ true
identifier_bytes [] h = absurd (false≢true h)
identifier_bytes (b ∷ name) h =
    let p = and_parts (is_letter b) (list_all is_name_byte name) h in
    rw (p.0, p.1) refl

name_bytes : (name : List ℕ) → IsName name → list_all is_name_byte name ≡ true
name_bytes name h = identifier_bytes name (and_parts (is_identifier name) (not (bytes_eq name (codes "null"))) h).0

pub dot_behind : (name rest : List ℕ) → IsName name → position (λ b. b == DOT) (name ++ DOT ∷ rest) ≡ Some (length name)
dot_behind name rest h = mark_behind DOT no_dot name rest (name_bytes name h)

pub dot_in : (name : List ℕ) → IsName name → position (λ b. b == DOT) name ≡ None
dot_in name h = no_mark DOT no_dot name (name_bytes name h)

pub field_behind : (name rest : List ℕ) → (take (length name) (name ++ DOT ∷ rest) ≡ name) × (drop (length name + 1) (name ++ DOT ∷ rest) ≡ rest)
field_behind name rest = (before_mark DOT name rest, behind_mark DOT name rest)

module _ (word : List ℕ) where
  -- a word without a dot is a place where it is a name
  pub no_place : None ≡ position (λ b. b == DOT) word → ((t : List ℕ) → IsTextOf IsName word t → ⊥) → (p : PlaceWord) → SpellsPlace word p → ⊥
  no_place e f p h = by_field p.field h.0 h.2
    where
      by_field : (field : Option (List ℕ)) → word ≡ place_text p.name field → HasField field → ⊥
      by_field None w i = f word (refl, subst IsName (sym w) h.1)
      by_field (Some rest) w i =
          let q : None ≡ Some (length p.name) = e ∙ ap (position (λ b. b == DOT)) w ∙ dot_behind p.name rest h.1 in
          cc

  module _ (at : ℕ) (text : List ℕ) (behind : text ≡ drop (at + 1) word) (e : Some at ≡ position (λ b. b == DOT) word) where
    -- what is before the first dot of a place, and after it
    parts : (p : PlaceWord) → SpellsPlace word p → IsName (take at word) × IsField (drop (at + 1) word)
    parts p h = by_field p.field h.0 h.2
      where
        by_field : (field : Option (List ℕ)) → word ≡ place_text p.name field → HasField field → IsName (take at word) × IsField (drop (at + 1) word)
        by_field None w i =
            let q : Some at ≡ None = e ∙ ap (position (λ b. b == DOT)) w ∙ dot_in p.name h.1 in
            cc
        by_field (Some rest) w i =
            let q : Some at ≡ Some (length p.name) = e ∙ ap (position (λ b. b == DOT)) w ∙ dot_behind p.name rest h.1 in
            let r : at ≡ length p.name = cc in
            rw (r, w) (rw (field_behind p.name rest).0 h.1, rw (field_behind p.name rest).1 i)

    pub no_place_name : ((t : List ℕ) → IsTextOf IsName (take at word) t → ⊥) → (p : PlaceWord) → SpellsPlace word p → ⊥
    no_place_name f p h = f (take at word) (refl, (parts p h).0)

    pub no_place_field : ((t : List ℕ) → IsTextOf IsField text t → ⊥) → (p : PlaceWord) → SpellsPlace word p → ⊥
    no_place_field f p h = f text (refl, rw behind (parts p h).1)

    pub place_around : (name field : List ℕ) → IsTextOf IsName (take at word) name → IsTextOf IsField text field → SpellsPlace word (record { name = name; field = Some field })
    place_around name field n f = (around_mark DOT word at e ∙ rw (n.0, f.0, behind) refl, rw n.0 n.1, rw f.0 f.1)

pub not_value : (word : List ℕ) → bytes_eq word (codes "null") ≡ false → ((n : ℤ) → SpellsNumber word n → ⊥) → ((p : PlaceWord) → SpellsPlace word p → ⊥)
    → (v : ValueWord) → SpellsValue word v → ⊥
not_value word null number place (Num n) h = number n h
not_value word null number place Null h = false≢true (sym null ∙ (bytes_eq-Decides word (codes "null")).1 h)
not_value word null number place (At p) h = place p h
