-- A line is a command's, or no command's.
use Rattle.std.proofs.Common.{◌≡◌, ◌≢◌, ◌⊎◌, inl, inr, ℕ, zero, suc, ◌+◌, ◌≤◌, ◌^◌, Option, Some, None, List, [], ◌∷◌, ◌++◌, length, take, drop, ℤ, pos, neg_ℤ, refl, sym, ap, ◌∙◌, subst, arith}
use Rattle.std.specs.Prelude.{◌==◌, codes, bytes_eq, position, if◌then◌else◌}
use Rattle.std.specs.List.{AllZip, prefix_len, position_or_len}
use Rattle.std.proofs.lemmas.Bool.{cases_Bool, cases_eq, cases_lt, false≢true}
use Rattle.std.proofs.lemmas.List.{length-append}
use Rattle.std.proofs.lemmas.Slice.Eq.{bytes_eq-Decides}
use Rattle.ceal_base.specs.Digits.{number_of}
use Rattle.ceal_script.specs.Characters.{is_gap}
use Rattle.ceal_script.specs.Keywords.{keyword_text}
use Rattle.ceal_script.specs.Lines.{is_comment, Says, IsLineOf}
use Rattle.ceal_script.specs.Spelling.{DOT, MINUS, are_digits, is_identifier, IsIdentifier, is_name, IsName, IsTextOf}
use Rattle.ceal_script.specs.Spelling.{IsField, SpellsKind, SpellsPositive, SpellsNegative, SpellsNumber, SpellsPlace}
use Rattle.ceal_script.specs.Spelling.{SpellsReads, SpellsValue}
use Rattle.ceal_script.specs.Words.{IsWord, HasWord, HasWords}
use Rattle.ceal_script.specs.declared.command.Command.{Command}
use Rattle.ceal_script.specs.declared.command.Command.TheVariants.{Blank, Mod, New, Set, Run, Propagate, Slice, Get, Show, Blocks, Steps, Work, Bound}
use Rattle.ceal_script.specs.declared.command.KindWord.{KindWord}
use Rattle.ceal_script.specs.declared.command.KindWord.TheVariants.{Int, Named}
use Rattle.ceal_script.specs.declared.command.PlaceWord.{PlaceWord}
use Rattle.ceal_script.specs.declared.command.ValueWord.{ValueWord}
use Rattle.ceal_script.specs.declared.command.ValueWord.TheVariants.{Num, Null, At}
use Rattle.ceal_script.specs.declared.keyword.Keyword.{Keyword}
use Rattle.ceal_script.specs.declared.keyword.Keyword.TheVariants as keywords
use Rattle.ceal_script.proofs.CommandLaws.{form, form_of_words, form_said, no_keyword, said}
use Rattle.ceal_script.proofs.FieldLaws.{field_or_none}
use Rattle.ceal_script.proofs.PlaceLaws.{no_place, no_place_field, no_place_name, not_value, place_around}
use Rattle.ceal_script.proofs.WordLaws.{first_found, no_word}

-- there is such a value, or none
abbrev Given : {A : Type 0} → (A → Type 0) → Type 0
Given {A} P = ((x : A) × P x) ⊎ ((x : A) → P x → ⊥)

identifier_or_none : (word : List ℕ) → Given {A = List ℕ} (IsTextOf IsIdentifier word)
identifier_or_none word = elim (cases_Bool (is_identifier word)) [
  | inl e ↦ inl (word, (refl, e))
  | inr e ↦ inr (λ t h. false≢true (sym e ∙ h.1))
]

name_or_none : (word : List ℕ) → Given {A = List ℕ} (IsTextOf IsName word)
name_or_none word = elim (cases_Bool (is_name word)) [
  | inl e ↦ inl (word, (refl, e))
  | inr e ↦ inr (λ t h. false≢true (sym e ∙ h.1))
]

name_of_field_or_none : (word : List ℕ) → Given {A = List ℕ} (IsTextOf IsField word)
name_of_field_or_none word = elim (field_or_none word) [
  | inl field ↦ inl (word, (refl, field))
  | inr none ↦ inr (λ t h. none h.1)
]

place_or_none : (word : List ℕ) → Given {A = PlaceWord} (SpellsPlace word)
place_or_none word = by_dot (position (λ b. b == DOT) word) refl
  where
    by_dot : (dot : Option ℕ) → dot ≡ position (λ b. b == DOT) word → Given {A = PlaceWord} (SpellsPlace word)
    by_dot None e = elim (name_or_none word) [
      | inl name ↦ inl (record { name = word; field = None }, (refl, name.1.1, tt))
      | inr none ↦ inr (no_place word e none)
    ]
    by_dot (Some at) e = elim (name_or_none (take at word)) [
      | inr none ↦ inr (no_place_name word at (drop (at + 1) word) refl e none)
      | inl name ↦ elim (name_of_field_or_none (drop (at + 1) word)) [
        | inr none ↦ inr (no_place_field word at (drop (at + 1) word) refl e none)
        | inl field ↦ inl (record { name = name.0; field = Some field.0 }, place_around word at (drop (at + 1) word) refl e name.0 field.0 name.1 field.1)
      ]
    ]

positive_or_none : (word : List ℕ) → Given {A = ℤ} (SpellsPositive word)
positive_or_none word = elim (cases_Bool (are_digits word)) [
  | inr e ↦ inr (λ n h. false≢true (sym e ∙ h.0))
  | inl e ↦ elim (cases_lt (number_of word) (2 ^ 63)) [
    | inl small ↦ inl (pos (number_of word), (e, small, refl))
    | inr large ↦ inr (λ n h. let l = h.1 in omega (arith, l, large))
  ]
]

reads_or_none : (word : List ℕ) → Given {A = ℕ} (SpellsReads word)
reads_or_none word = elim (cases_Bool (are_digits word)) [
  | inr e ↦ inr (λ n h. false≢true (sym e ∙ h.0))
  | inl e ↦ elim (cases_lt 7 (length word)) [
    | inl long ↦ inr (λ n h. let l = h.1 in omega (arith, l, long))
    | inr short ↦ elim (cases_lt 1000000 (number_of word)) [
      | inl large ↦ inr (λ n h. let l = h.3 in let same = h.4 in omega (arith, l, same, large))
      | inr small ↦ elim (cases_eq (number_of word) 0) [
        | inl none ↦ inr (λ n h. let l = h.2 in let same = h.4 in omega (arith, l, same, none))
        | inr some ↦ inl (number_of word, (e, omega (arith, short), omega (arith, some), omega (arith, small), refl))
      ]
    ]
  ]
]

negative_or_none : (digits : List ℕ) → Given {A = ℤ} (SpellsNegative digits)
negative_or_none digits = elim (cases_Bool (are_digits digits)) [
  | inr e ↦ inr (λ n h. false≢true (sym e ∙ h.0))
  | inl e ↦ elim (cases_lt (2 ^ 63) (number_of digits)) [
    | inl large ↦ inr (λ n h. let l = h.1 in omega (arith, l, large))
    | inr small ↦ inl (neg_ℤ (pos (number_of digits)), (e, small, refl))
  ]
]

abbrev SpellsBehind : List ℕ → ℤ → Type 0
SpellsBehind word n = (digits : List ℕ) × (word ≡ MINUS ∷ digits) × SpellsNegative digits n

behind_or_none : (word : List ℕ) → Given {A = ℤ} (SpellsBehind word)
behind_or_none [] = inr (λ n h. absurd (cc h.1))
behind_or_none (b ∷ digits) = elim (cases_eq b MINUS) [
  | inr other ↦ inr (λ n h. other (cc h.1))
  | inl minus ↦ elim (negative_or_none digits) [
    | inl found ↦ inl (found.0, (digits, ap (λ (c : ℕ). c ∷ digits) minus, found.1))
    | inr none ↦ inr (λ n h.
        let same : h.0 ≡ digits = cc h.1 in
        none n (subst (λ (d : List ℕ). SpellsNegative d n) same h.2))
  ]
]

number_or_none : (word : List ℕ) → Given {A = ℤ} (SpellsNumber word)
number_or_none word = elim (positive_or_none word) [
  | inl found ↦ inl (found.0, inl found.1)
  | inr none ↦ elim (behind_or_none word) [
    | inl found ↦ inl (found.0, inr found.1)
    | inr neither ↦ inr (λ n h. elim h [ inl p ↦ none n p | inr q ↦ neither n q ])
  ]
]

value_or_none : (word : List ℕ) → Given {A = ValueWord} (SpellsValue word)
value_or_none word = elim (cases_Bool (bytes_eq word (codes "null"))) [
  | inl e ↦ inl (Null, (bytes_eq-Decides word (codes "null")).0 e)
  | inr e ↦ elim (number_or_none word) [
    | inl number ↦ inl (Num number.0, number.1)
    | inr no_number ↦ elim (place_or_none word) [
      | inl place ↦ inl (At place.0, place.1)
      | inr no_place_here ↦ inr (not_value word e no_number no_place_here)
    ]
  ]
]

no_first_value : (word : List ℕ) (words : List (List ℕ)) → ((v : ValueWord) → SpellsValue word v → ⊥) → (vs : List ValueWord) → AllZip SpellsValue (word ∷ words) vs → ⊥
no_first_value word words none [] h = h
no_first_value word words none (v ∷ vs) h = none v h.0

no_later_value : (word : List ℕ) (words : List (List ℕ)) → ((vs : List ValueWord) → AllZip SpellsValue words vs → ⊥) → (vs : List ValueWord) → AllZip SpellsValue (word ∷ words) vs → ⊥
no_later_value word words none [] h = h
no_later_value word words none (v ∷ vs) h = none vs h.1

values_or_none : (words : List (List ℕ)) → Given {A = List ValueWord} (AllZip SpellsValue words)
values_or_none [] = inl ([], tt)
values_or_none (word ∷ words) = elim (value_or_none word) [
  | inr none ↦ inr (no_first_value word words none)
  | inl value ↦ elim (values_or_none words) [
    | inr none ↦ inr (no_later_value word words none)
    | inl values ↦ inl (value.0 ∷ values.0, (value.1, values.1))
  ]
]

no_kind : (word : List ℕ) → word ≢ codes "int" → ((t : List ℕ) → IsTextOf IsIdentifier word t → ⊥) → (k : KindWord) → SpellsKind word k → ⊥
no_kind word other none Int h = other h
no_kind word other none (Named name) h = none name h.0

kind_or_none : (word : List ℕ) → Given {A = KindWord} (SpellsKind word)
kind_or_none word = elim (cases_Bool (bytes_eq word (codes "int"))) [
  | inl e ↦ inl (Int, (bytes_eq-Decides word (codes "int")).0 e)
  | inr e ↦
      let other : word ≢ codes "int" = λ same. false≢true (sym e ∙ (bytes_eq-Decides word (codes "int")).1 same) in
      elim (identifier_or_none word) [
        | inl name ↦ inl (Named name.0, (name.1, other))
        | inr none ↦ inr (no_kind word other none)
      ]
]

-- The words after each keyword: its command, or none.
module _ (rest : List (List ℕ)) where
  not_mod : ((name : List ℕ) (kind : KindWord) (value : ValueWord) → Says (codes "mod" ∷ rest) (Mod name kind value) → ⊥) → (c : Command) → Says (codes "mod" ∷ rest) c → ⊥
  unfolding form_of_words
  not_mod none (Mod name kind value) h = none name kind value h
  not_mod none c h = let e : 1 ≡ form c = form_said (codes "mod" ∷ rest) c h in absurd (omega (arith, e))

  not_new : ((name shape : List ℕ) (values : List ValueWord) → Says (codes "new" ∷ rest) (New name shape values) → ⊥) → (c : Command) → Says (codes "new" ∷ rest) c → ⊥
  unfolding form_of_words
  not_new none (New name shape values) h = none name shape values h
  not_new none c h = let e : 2 ≡ form c = form_said (codes "new" ∷ rest) c h in absurd (omega (arith, e))

  not_set : ((place : PlaceWord) (value : ValueWord) → Says (codes "set" ∷ rest) (Set place value) → ⊥) → (c : Command) → Says (codes "set" ∷ rest) c → ⊥
  unfolding form_of_words
  not_set none (Set place value) h = none place value h
  not_set none c h = let e : 3 ≡ form c = form_said (codes "set" ∷ rest) c h in absurd (omega (arith, e))

  not_run : ((function : List ℕ) (args : List ValueWord) → Says (codes "run" ∷ rest) (Run function args) → ⊥) → (c : Command) → Says (codes "run" ∷ rest) c → ⊥
  unfolding form_of_words
  not_run none (Run function args) h = none function args h
  not_run none c h = let e : 4 ≡ form c = form_said (codes "run" ∷ rest) c h in absurd (omega (arith, e))

  not_propagate : (Says (codes "propagate" ∷ rest) Propagate → ⊥) → ((n : ℕ) → Says (codes "propagate" ∷ rest) (Slice n) → ⊥) → (c : Command)
      → Says (codes "propagate" ∷ rest) c → ⊥
  unfolding form_of_words
  not_propagate none part Propagate h = none h
  not_propagate none part (Slice n) h = part n h
  not_propagate none part c h = let e : 5 ≡ form c = form_said (codes "propagate" ∷ rest) c h in absurd (omega (arith, e))

  not_get : ((place : PlaceWord) → Says (codes "get" ∷ rest) (Get place) → ⊥) → (c : Command) → Says (codes "get" ∷ rest) c → ⊥
  unfolding form_of_words
  not_get none (Get place) h = none place h
  not_get none c h = let e : 6 ≡ form c = form_said (codes "get" ∷ rest) c h in absurd (omega (arith, e))

  not_show : ((name : List ℕ) → Says (codes "show" ∷ rest) (Show name) → ⊥) → (c : Command) → Says (codes "show" ∷ rest) c → ⊥
  unfolding form_of_words
  not_show none (Show name) h = none name h
  not_show none c h = let e : 7 ≡ form c = form_said (codes "show" ∷ rest) c h in absurd (omega (arith, e))

  not_blocks : (Says (codes "blocks" ∷ rest) Blocks → ⊥) → (c : Command) → Says (codes "blocks" ∷ rest) c → ⊥
  unfolding form_of_words
  not_blocks none Blocks h = none h
  not_blocks none c h = let e : 8 ≡ form c = form_said (codes "blocks" ∷ rest) c h in absurd (omega (arith, e))

  not_steps : (Says (codes "steps" ∷ rest) Steps → ⊥) → (c : Command) → Says (codes "steps" ∷ rest) c → ⊥
  unfolding form_of_words
  not_steps none Steps h = none h
  not_steps none c h = let e : 9 ≡ form c = form_said (codes "steps" ∷ rest) c h in absurd (omega (arith, e))

  not_work : (Says (codes "work" ∷ rest) Work → ⊥) → (c : Command) → Says (codes "work" ∷ rest) c → ⊥
  unfolding form_of_words
  not_work none Work h = none h
  not_work none c h = let e : 10 ≡ form c = form_said (codes "work" ∷ rest) c h in absurd (omega (arith, e))

  not_bound : (Says (codes "bound" ∷ rest) Bound → ⊥) → (c : Command) → Says (codes "bound" ∷ rest) c → ⊥
  unfolding form_of_words
  not_bound none Bound h = none h
  not_bound none c h = let e : 11 ≡ form c = form_said (codes "bound" ∷ rest) c h in absurd (omega (arith, e))

abbrev Saying : List (List ℕ) → Type 0
Saying words = Given {A = Command} (Says words)

mod_or_none : (rest : List (List ℕ)) → Saying (codes "mod" ∷ rest)
mod_or_none [] = inr (not_mod [] (λ n k v h. absurd (cc h.2)))
mod_or_none (a ∷ []) = inr (not_mod (a ∷ []) (λ n k v h. absurd (cc h.2)))
mod_or_none (a ∷ b ∷ []) = inr (not_mod (a ∷ b ∷ []) (λ n k v h. absurd (cc h.2)))
mod_or_none (a ∷ b ∷ c ∷ []) =
    let rest : List (List ℕ) = a ∷ b ∷ c ∷ [] in
    elim (name_or_none a) [
      | inr none ↦ inr (not_mod rest (λ n k v h. let e : n ≡ a = cc h.2 in none a (refl, subst IsName e h.3)))
      | inl name ↦ elim (kind_or_none b) [
        | inr none ↦ inr (not_mod rest (λ n k v h. let e : h.0 ≡ b = cc h.2 in none k (subst (λ (t : List ℕ). SpellsKind t k) e h.4)))
        | inl kind ↦ elim (value_or_none c) [
          | inr none ↦ inr (not_mod rest (λ n k v h. let e : h.1 ≡ c = cc h.2 in none v (subst (λ (t : List ℕ). SpellsValue t v) e h.5)))
          | inl value ↦ inl (Mod a kind.0 value.0, (b, c, refl, name.1.1, kind.1, value.1))
        ]
      ]
    ]
mod_or_none (a ∷ b ∷ c ∷ d ∷ more) = inr (not_mod (a ∷ b ∷ c ∷ d ∷ more) (λ n k v h. absurd (cc h.2)))

new_or_none : (rest : List (List ℕ)) → Saying (codes "new" ∷ rest)
new_or_none [] = inr (not_new [] (λ n s vs h. absurd (cc h.1)))
new_or_none (a ∷ []) = inr (not_new (a ∷ []) (λ n s vs h. absurd (cc h.1)))
new_or_none (a ∷ b ∷ more) =
    let rest : List (List ℕ) = a ∷ b ∷ more in
    elim (name_or_none a) [
      | inr none ↦ inr (not_new rest (λ n s vs h. let e : n ≡ a = cc h.1 in none a (refl, subst IsName e h.2)))
      | inl name ↦ elim (identifier_or_none b) [
        | inr none ↦ inr (not_new rest (λ n s vs h. let e : s ≡ b = cc h.1 in none b (refl, subst IsIdentifier e h.3)))
        | inl shape ↦ elim (values_or_none more) [
          | inr none ↦ inr (not_new rest (λ n s vs h. let e : h.0 ≡ more = cc h.1 in none vs (subst (λ (ts : List (List ℕ)). AllZip SpellsValue ts vs) e h.4)))
          | inl values ↦ inl (New a b values.0, (more, refl, name.1.1, shape.1.1, values.1))
        ]
      ]
    ]

set_or_none : (rest : List (List ℕ)) → Saying (codes "set" ∷ rest)
set_or_none [] = inr (not_set [] (λ p v h. absurd (cc h.2)))
set_or_none (a ∷ []) = inr (not_set (a ∷ []) (λ p v h. absurd (cc h.2)))
set_or_none (a ∷ b ∷ []) =
    let rest : List (List ℕ) = a ∷ b ∷ [] in
    elim (place_or_none a) [
      | inr none ↦ inr (not_set rest (λ p v h. let e : h.0 ≡ a = cc h.2 in none p (subst (λ (t : List ℕ). SpellsPlace t p) e h.3)))
      | inl place ↦ elim (value_or_none b) [
        | inr none ↦ inr (not_set rest (λ p v h. let e : h.1 ≡ b = cc h.2 in none v (subst (λ (t : List ℕ). SpellsValue t v) e h.4)))
        | inl value ↦ inl (Set place.0 value.0, (a, b, refl, place.1, value.1))
      ]
    ]
set_or_none (a ∷ b ∷ c ∷ more) = inr (not_set (a ∷ b ∷ c ∷ more) (λ p v h. absurd (cc h.2)))

run_or_none : (rest : List (List ℕ)) → Saying (codes "run" ∷ rest)
run_or_none [] = inr (not_run [] (λ f vs h. absurd (cc h.1)))
run_or_none (a ∷ more) = elim (identifier_or_none a) [
  | inr none ↦ inr (not_run (a ∷ more) (λ f vs h. let e : f ≡ a = cc h.1 in none a (refl, subst IsIdentifier e h.2)))
  | inl function ↦ elim (values_or_none more) [
    | inr none ↦ inr (not_run (a ∷ more) (λ f vs h. let e : h.0 ≡ more = cc h.1 in none vs (subst (λ (ts : List (List ℕ)). AllZip SpellsValue ts vs) e h.3)))
    | inl values ↦ inl (Run a values.0, (more, refl, function.1.1, values.1))
  ]
]

propagate_or_none : (rest : List (List ℕ)) → Saying (codes "propagate" ∷ rest)
propagate_or_none [] = inl (Propagate, refl)
propagate_or_none (a ∷ []) = elim (reads_or_none a) [
  | inr none ↦ inr (not_propagate (a ∷ []) (λ h. absurd (cc h)) (λ n h. let e : h.0 ≡ a = cc h.1 in none n (subst (λ (t : List ℕ). SpellsReads t n) e h.2)))
  | inl reads ↦ inl (Slice reads.0, (a, refl, reads.1))
]
propagate_or_none (a ∷ b ∷ more) = inr (not_propagate (a ∷ b ∷ more) (λ h. absurd (cc h)) (λ n h. absurd (cc h.1)))

get_or_none : (rest : List (List ℕ)) → Saying (codes "get" ∷ rest)
get_or_none [] = inr (not_get [] (λ p h. absurd (cc h.1)))
get_or_none (a ∷ []) = elim (place_or_none a) [
  | inr none ↦ inr (not_get (a ∷ []) (λ p h. let e : h.0 ≡ a = cc h.1 in none p (subst (λ (t : List ℕ). SpellsPlace t p) e h.2)))
  | inl place ↦ inl (Get place.0, (a, refl, place.1))
]
get_or_none (a ∷ b ∷ more) = inr (not_get (a ∷ b ∷ more) (λ p h. absurd (cc h.1)))

show_or_none : (rest : List (List ℕ)) → Saying (codes "show" ∷ rest)
show_or_none [] = inr (not_show [] (λ n h. absurd (cc h.0)))
show_or_none (a ∷ []) = elim (name_or_none a) [
  | inr none ↦ inr (not_show (a ∷ []) (λ n h. let e : n ≡ a = cc h.0 in none a (refl, subst IsName e h.1)))
  | inl name ↦ inl (Show a, (refl, name.1.1))
]
show_or_none (a ∷ b ∷ more) = inr (not_show (a ∷ b ∷ more) (λ n h. absurd (cc h.0)))

behind_keyword : (k : Keyword) (rest : List (List ℕ)) → Saying (keyword_text k ∷ rest)
behind_keyword keywords.Mod rest = mod_or_none rest
behind_keyword keywords.New rest = new_or_none rest
behind_keyword keywords.Set rest = set_or_none rest
behind_keyword keywords.Run rest = run_or_none rest
behind_keyword keywords.Propagate rest = propagate_or_none rest
behind_keyword keywords.Get rest = get_or_none rest
behind_keyword keywords.Show rest = show_or_none rest
behind_keyword keywords.Blocks [] = inl (Blocks, refl)
behind_keyword keywords.Blocks (a ∷ more) = inr (not_blocks (a ∷ more) (λ h. absurd (cc h)))
behind_keyword keywords.Steps [] = inl (Steps, refl)
behind_keyword keywords.Steps (a ∷ more) = inr (not_steps (a ∷ more) (λ h. absurd (cc h)))
behind_keyword keywords.Work [] = inl (Work, refl)
behind_keyword keywords.Work (a ∷ more) = inr (not_work (a ∷ more) (λ h. absurd (cc h)))
behind_keyword keywords.Bound [] = inl (Bound, refl)
behind_keyword keywords.Bound (a ∷ more) = inr (not_bound (a ∷ more) (λ h. absurd (cc h)))

-- the keyword that a word is, where it is one
keyword_of : List ℕ → Keyword
keyword_of word =
    if bytes_eq word (codes "mod") then keywords.Mod
    else if bytes_eq word (codes "new") then keywords.New
    else if bytes_eq word (codes "set") then keywords.Set
    else if bytes_eq word (codes "run") then keywords.Run
    else if bytes_eq word (codes "propagate") then keywords.Propagate
    else if bytes_eq word (codes "get") then keywords.Get
    else if bytes_eq word (codes "show") then keywords.Show
    else if bytes_eq word (codes "blocks") then keywords.Blocks
    else if bytes_eq word (codes "steps") then keywords.Steps
    else if bytes_eq word (codes "work") then keywords.Work
    else keywords.Bound

keyword_of_text : (k : Keyword) → keyword_of (keyword_text k) ≡ k
unfolding keyword_of
keyword_of_text keywords.Mod = refl
keyword_of_text _ = refl

keyword_or_none : (word : List ℕ) → ((k : Keyword) × (keyword_text k ≡ word)) ⊎ ((k : Keyword) → word ≢ keyword_text k)
keyword_or_none word = elim (cases_Bool (bytes_eq (keyword_text (keyword_of word)) word)) [
  | inl e ↦ inl (keyword_of word, (bytes_eq-Decides (keyword_text (keyword_of word)) word).0 e)
  | inr e ↦ inr (λ k h.
      let same : keyword_text (keyword_of word) ≡ word = ap keyword_text (ap keyword_of h ∙ keyword_of_text k) ∙ sym h in
      false≢true (sym e ∙ (bytes_eq-Decides (keyword_text (keyword_of word)) word).1 same))
]

saying_or_none : (words : List (List ℕ)) → Saying words
saying_or_none [] = inl (Blank, tt)
saying_or_none (word ∷ rest) = elim (cases_Bool (is_comment word)) [
  | inl comment ↦ inl (Blank, comment)
  | inr no_comment ↦ elim (keyword_or_none word) [
    | inl key ↦ subst (λ (w : List ℕ). Saying (w ∷ rest)) key.1 (behind_keyword key.0 rest)
    | inr none ↦ inr (no_keyword word rest no_comment none)
  ]
]

some_byte : (word : List ℕ) → IsWord word → 1 ≤ length word
some_byte [] h = absurd h
some_byte (b ∷ bs) h = omega arith

-- each line has words
shorter : (line word rest : List ℕ) (k : ℕ) → length line ≤ suc k → HasWord line word rest → length rest ≤ k
shorter line word rest k l h =
    let whole = ap length h.whole ∙ length-append h.gaps (word ++ rest) in
    let parts = length-append word rest in
    let some = some_byte word h.is_word in
    omega (arith, l, whole, parts, some)

words_within : (k : ℕ) (line : List ℕ) → length line ≤ k → (words : List (List ℕ)) × HasWords line words
unfolding HasWords
words_within zero line l = ([], no_word line 0 (no_bytes line (omega (arith, l))) line refl (omega (arith, l)))
  where
    no_bytes : (bytes : List ℕ) → length bytes ≡ 0 → 0 ≡ prefix_len is_gap bytes
    no_bytes [] e = refl
    no_bytes (b ∷ bs) e = absurd (omega (arith, e))
words_within (suc k) line l =
    let n : ℕ = prefix_len is_gap line in
    let text : List ℕ = drop n line in
    elim (cases_eq (length text) 0) [
      | inl empty ↦ ([], no_word line n refl text refl empty)
      | inr some ↦
          let m : ℕ = position_or_len is_gap text in
          let first = first_found line n refl text m refl some refl in
          let more = words_within k (drop m text) (shorter line (take m text) (drop m text) k l first) in
          (take m text ∷ more.0, (drop m text, first, more.1))
    ]

words_of : (line : List ℕ) → (words : List (List ℕ)) × HasWords line words
words_of line = words_within (length line) line (omega arith)

pub command_or_none : (line : List ℕ) → ((c : Command) × IsLineOf c line) ⊎ ((c : Command) → IsLineOf c line → ⊥)
command_or_none line =
    let words = words_of line in
    elim (saying_or_none words.0) [
      | inl found ↦ inl (found.0, record { words = words.0; has_words = words.1; says = found.1 })
      | inr none ↦ inr (λ c h. none c (said line words.0 words.1 c h))
    ]
