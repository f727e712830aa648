-- A word spells one number, one place, one value and one type at most.
use Rattle.std.proofs.Common.{◌≡◌, ◌≢◌, ℕ, ◌+◌, neg_ℤ, true, not, List, [], ◌∷◌, ◌++◌, length, take, drop, ℤ, pos, Option, Some, None, refl, sym, ap, ◌∙◌, subst, arith, inl, inr}
use Rattle.std.specs.Prelude.{◌==◌, codes, bytes_eq, position}
use Rattle.std.specs.List.{AllZip, list_all}
use Rattle.std.proofs.lemmas.Bool.{false≢true, and_parts}
use Rattle.std.proofs.lemmas.Bool.Decides.{nat_tests}
use Rattle.std.proofs.lemmas.Slice.Eq.{bytes_eq-Decides}
use Rattle.ceal_base.specs.Digits.{number_of, is_digit}
use Rattle.ceal_script.specs.Characters.{is_letter, is_name_byte}
use Rattle.ceal_script.specs.Spelling.{DOT, MINUS, AreDigits, is_identifier, IsIdentifier, IsName, place_text, SpellsNumber, SpellsPlace, SpellsValue, SpellsKind}
use Rattle.ceal_script.specs.declared.command.KindWord.{KindWord}
use Rattle.ceal_script.specs.declared.command.KindWord.TheVariants.{Int, Named}
use Rattle.ceal_script.specs.declared.command.PlaceWord.{PlaceWord}
use Rattle.ceal_script.specs.declared.command.ValueWord.{ValueWord}
use Rattle.ceal_script.specs.declared.command.ValueWord.TheVariants.{Num, Null, At}
use Rattle.ceal_script.proofs.PlaceLaws.{dot_behind, dot_in, field_behind}

digit_no_letter : (b : ℕ) → is_digit b ≡ true → is_letter b ≡ true → ⊥
digit_no_letter b d l = grind (arith, nat_tests)

minus_no_digits : (digits : List ℕ) → AreDigits (MINUS ∷ digits) → ⊥
minus_no_digits digits h = false≢true h

first_digit : (b : ℕ) (bs : List ℕ) → AreDigits (b ∷ bs) → is_digit b ≡ true
first_digit b bs h = (and_parts (is_digit b) (list_all is_digit bs) h).0

first_letter : (b : ℕ) (bs : List ℕ) → IsIdentifier (b ∷ bs) → is_letter b ≡ true
first_letter b bs h = (and_parts (is_letter b) (list_all is_name_byte bs) h).0

identifier_of : (name : List ℕ) → IsName name → IsIdentifier name
identifier_of name h = (and_parts (is_identifier name) (not (bytes_eq name (codes "null"))) h).0

not_null : (name : List ℕ) → IsName name → name ≢ codes "null"
not_null name h e =
    let p = (and_parts (is_identifier name) (not (bytes_eq name (codes "null"))) h).1 in
    false≢true (sym (ap not ((bytes_eq-Decides name (codes "null")).1 e)) ∙ p)

pub one_number : (word : List ℕ) (m n : ℤ) → SpellsNumber word m → SpellsNumber word n → m ≡ n
one_number word m n (inl p) (inl q) = p.2 ∙ sym q.2
one_number word m n (inl p) (inr (digits, e, q)) = absurd (minus_no_digits digits (subst AreDigits e p.0))
one_number word m n (inr (digits, e, p)) (inl q) = absurd (minus_no_digits digits (subst AreDigits e q.0))
one_number word m n (inr (digits, e, p)) (inr (others, f, q)) =
    let s : digits ≡ others = let t : MINUS ∷ digits ≡ MINUS ∷ others = sym e ∙ f in cc in
    p.2 ∙ ap (λ (d : List ℕ). neg_ℤ (pos (number_of d))) s ∙ sym q.2

-- the name and the field of a place
one_field : (a b : List ℕ) (f g : Option (List ℕ)) → IsName a → IsName b → place_text a f ≡ place_text b g → (a ≡ b) × (f ≡ g)
one_field a b None None h k e = (e, refl)
one_field a b None (Some g) h k e =
    let q : None ≡ Some (length b) = sym (dot_in a h) ∙ ap (position (λ c. c == DOT)) e ∙ dot_behind b g k in
    absurd cc
one_field a b (Some f) None h k e =
    let q : None ≡ Some (length a) = sym (dot_in b k) ∙ ap (position (λ c. c == DOT)) (sym e) ∙ dot_behind a f h in
    absurd cc
one_field a b (Some f) (Some g) h k e =
    let q : Some (length a) ≡ Some (length b) = sym (dot_behind a f h) ∙ ap (position (λ c. c == DOT)) e ∙ dot_behind b g k in
    let l : length a ≡ length b = cc in
    let name : a ≡ b = sym (field_behind a f).0 ∙ ap (take (length a)) e ∙ ap (λ (n : ℕ). take n (b ++ DOT ∷ g)) l ∙ (field_behind b g).0 in
    let field : f ≡ g = sym (field_behind a f).1 ∙ ap (drop (length a + 1)) e ∙ ap (λ (n : ℕ). drop (n + 1) (b ++ DOT ∷ g)) l ∙ (field_behind b g).1 in
    (name, ap Some field)

pub one_place : (word : List ℕ) (p q : PlaceWord) → SpellsPlace word p → SpellsPlace word q → p ≡ q
one_place word p q h k =
    let e = one_field p.name q.name p.field q.field h.1 k.1 (sym h.0 ∙ k.0) in
    ap (λ (n : List ℕ). let r : PlaceWord = record { name = n; field = p.field } in r) e.0 ∙ ap (λ (f : Option (List ℕ)). let r : PlaceWord = record { name = q.name; field = f } in r) e.1

null_no_minus : (digits : List ℕ) → MINUS ∷ digits ≡ codes "null" → ⊥
null_no_minus digits e = cc

null_no_number : (word : List ℕ) (n : ℤ) → word ≡ codes "null" → SpellsNumber word n → ⊥
null_no_number word n e (inl p) = false≢true (subst AreDigits e p.0)
null_no_number word n e (inr p) = null_no_minus p.0 (sym p.1 ∙ e)

null_no_place : (p : PlaceWord) → SpellsPlace (codes "null") p → ⊥
null_no_place p h = by_field p.field h.0
  where
    by_field : (field : Option (List ℕ)) → codes "null" ≡ place_text p.name field → ⊥
    by_field None e = not_null p.name h.1 (sym e)
    by_field (Some f) e =
        let q : None ≡ Some (length p.name) = ap (position (λ c. c == DOT)) e ∙ dot_behind p.name f h.1 in
        cc

place_no_number : (word : List ℕ) (p : PlaceWord) (n : ℤ) → SpellsPlace word p → SpellsNumber word n → ⊥
place_no_number word p n h k = by_name p.name p.field h.1 h.0
  where
    number_first : (b : ℕ) (bs : List ℕ) → is_letter b ≡ true → word ≡ b ∷ bs → ⊥
    number_first b bs l e = elim k [
      | inl q ↦ digit_no_letter b (first_digit b bs (subst AreDigits e q.0)) l
      | inr q ↦ let r : b ≡ MINUS = let t : b ∷ bs ≡ MINUS ∷ q.0 = sym e ∙ q.1 in cc in false≢true (sym (ap is_letter r) ∙ l)
    ]

    by_name : (name : List ℕ) (field : Option (List ℕ)) → IsName name → word ≡ place_text name field → ⊥
    by_name [] field i e = false≢true (identifier_of [] i)
    by_name (b ∷ bs) None i e = number_first b bs (first_letter b bs (identifier_of (b ∷ bs) i)) e
    by_name (b ∷ bs) (Some f) i e = number_first b (bs ++ DOT ∷ f) (first_letter b bs (identifier_of (b ∷ bs) i)) e

pub one_value : (word : List ℕ) (v w : ValueWord) → SpellsValue word v → SpellsValue word w → v ≡ w
one_value word (Num m) (Num n) h k = ap Num (one_number word m n h k)
one_value word (Num m) Null h k = absurd (null_no_number word m k h)
one_value word (Num m) (At q) h k = absurd (place_no_number word q m k h)
one_value word Null (Num n) h k = absurd (null_no_number word n h k)
one_value word Null Null h k = refl
one_value word Null (At q) h k = absurd (null_no_place q (subst (λ (t : List ℕ). SpellsPlace t q) h k))
one_value word (At p) (Num n) h k = absurd (place_no_number word p n h k)
one_value word (At p) Null h k = absurd (null_no_place p (subst (λ (t : List ℕ). SpellsPlace t p) k h))
one_value word (At p) (At q) h k = ap At (one_place word p q h k)

pub one_list : (words : List (List ℕ)) (vs ws : List ValueWord) → AllZip SpellsValue words vs → AllZip SpellsValue words ws → vs ≡ ws
one_list [] [] [] h k = refl
one_list [] [] (w ∷ ws) h k = absurd k
one_list [] (v ∷ vs) ws h k = absurd h
one_list (t ∷ words) [] ws h k = absurd h
one_list (t ∷ words) (v ∷ vs) [] h k = absurd k
one_list (t ∷ words) (v ∷ vs) (w ∷ ws) h k =
    let e = one_value t v w h.0 k.0 in
    let f = one_list words vs ws h.1 k.1 in
    cc

pub one_kind : (word : List ℕ) (k l : KindWord) → SpellsKind word k → SpellsKind word l → k ≡ l
one_kind word Int Int h i = refl
one_kind word Int (Named b) h i = absurd (i.1 h)
one_kind word (Named a) Int h i = absurd (h.1 i)
one_kind word (Named a) (Named b) h i = ap Named (h.0.0 ∙ sym i.0.0)
