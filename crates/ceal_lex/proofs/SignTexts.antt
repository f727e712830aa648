-- The longest sign at the front of bytes.
use Rattle.std.proofs.Common.{◌≡◌, ◌≢◌, ◌⊎◌, ℕ, ◌≤◌, List, [], ◌∷◌, ◌++◌, length, drop, get_or, refl, sym, ap, ◌∙◌, arith, inl, inr}
use Rattle.std.proofs.lemmas.List.{length-append}
use Rattle.ceal_lex.specs.declared.token.Sign.{Sign}
use Rattle.ceal_lex.specs.declared.token.Sign.TheVariants as signs
use Rattle.ceal_lex.specs.Spelling.{sign_text}
use Rattle.ceal_lex.specs.Front.{IsLongestSign}

some_text : (s : Sign) → 1 ≤ length (sign_text s)
some_text signs.Arrow = omega arith
some_text _ = omega arith

pub short_text : (s : Sign) → length (sign_text s) ≤ 2
short_text signs.Arrow = omega arith
short_text _ = omega arith

abbrev IsShort : List ℕ → Type 0
IsShort text = (b : ℕ) × (text ≡ b ∷ [])

abbrev IsLong : List ℕ → Type 0
IsLong text = (b c : ℕ) × (text ≡ b ∷ c ∷ [])

one_or_two : (text : List ℕ) → 1 ≤ length text → length text ≤ 2 → IsShort text ⊎ IsLong text
one_or_two [] some few = absurd (omega (arith, some))
one_or_two (b ∷ []) some few = inl (b, refl)
one_or_two (b ∷ c ∷ []) some few = inr (b, c, refl)
one_or_two (b ∷ c ∷ d ∷ text) some few = absurd (omega (arith, few))

shape : (s : Sign) → IsShort (sign_text s) ⊎ IsLong (sign_text s)
shape s = one_or_two (sign_text s) (some_text s) (short_text s)

pub two_bytes : (bytes : List ℕ) → 2 ≤ length bytes → bytes ≡ get_or bytes 0 0 ∷ get_or bytes 1 0 ∷ drop 2 bytes
two_bytes [] h = absurd (omega (arith, h))
two_bytes (b ∷ []) h = absurd (omega (arith, h))
two_bytes (b ∷ c ∷ bytes) h = refl

pub no_byte : (bytes : List ℕ) → length bytes ≡ 0 → (s : Sign) (more : List ℕ) → bytes ≢ sign_text s ++ more
no_byte bytes l s more h =
    let a = ap length h ∙ length-append (sign_text s) more in
    let b = some_text s in
    omega (arith, a, b, l)

module _ (bytes : List ℕ) (first : ℕ) where
  no_short : (more : List ℕ) (s : Sign) (rest : List ℕ) → bytes ≡ first ∷ rest → sign_text s ≢ first ∷ [] → bytes ≡ sign_text s ++ more → IsShort (sign_text s) → ⊥
  no_short more s rest w none h (b, e) =
      let f : first ∷ rest ≡ b ∷ more = sym w ∙ h ∙ ap (λ (x : List ℕ). x ++ more) e in
      let g : b ≡ first = cc f in
      none (e ∙ ap (λ (k : ℕ). k ∷ []) g)

  no_long : (more : List ℕ) (s : Sign) (second : ℕ) (rest : List ℕ) → bytes ≡ first ∷ second ∷ rest → sign_text s ≢ first ∷ second ∷ [] → bytes ≡ sign_text s ++ more → IsLong (sign_text s) → ⊥
  no_long more s second rest w none h (b, c, e) =
      let f : first ∷ second ∷ rest ≡ b ∷ c ∷ more = sym w ∙ h ∙ ap (λ (x : List ℕ). x ++ more) e in
      let g : b ∷ c ∷ [] ≡ first ∷ second ∷ [] = cc f in
      none (e ∙ g)

  pub short_alone : (s : Sign) → bytes ≡ first ∷ [] → sign_text s ≡ first ∷ [] → IsLongestSign s 1 bytes
  short_alone s w e = record {
    rest = [];
    begins = w ∙ ap (λ (x : List ℕ). x ++ []) (sym e);
    counted = ap length (sym e);
    longest = λ t more h. let l = ap length (sym w ∙ h) ∙ length-append (sign_text t) more in omega (arith, l);
  }

  pub none_alone : bytes ≡ first ∷ [] → ((s : Sign) → sign_text s ≢ first ∷ []) → (s : Sign) (more : List ℕ) → bytes ≢ sign_text s ++ more
  none_alone w none s more h = elim (shape s) [
    | inl p ↦ no_short more s [] w (none s) h p
    | inr p ↦
        let l = ap length (sym w ∙ h ∙ ap (λ (x : List ℕ). x ++ more) p.2) in
        absurd (omega (arith, l))
  ]

  module _ (second : ℕ) (rest : List ℕ) (w : bytes ≡ first ∷ second ∷ rest) where
    pub long_front : (s : Sign) → sign_text s ≡ first ∷ second ∷ [] → IsLongestSign s 2 bytes
    long_front s e = record {
      rest = rest;
      begins = w ∙ ap (λ (x : List ℕ). x ++ rest) (sym e);
      counted = ap length (sym e);
      longest = λ t more h. short_text t;
    }

    pub short_front : (s : Sign) → sign_text s ≡ first ∷ [] → ((t : Sign) → sign_text t ≢ first ∷ second ∷ []) → IsLongestSign s 1 bytes
    short_front s e none = record {
      rest = second ∷ rest;
      begins = w ∙ ap (λ (x : List ℕ). x ++ second ∷ rest) (sym e);
      counted = ap length (sym e);
      longest = λ t more h. elim (shape t) [
        | inl p ↦ let l = ap length p.1 in omega (arith, l)
        | inr p ↦ absurd (no_long more t second rest w (none t) h p)
      ];
    }

    pub none_front : ((s : Sign) → sign_text s ≢ first ∷ []) → ((s : Sign) → sign_text s ≢ first ∷ second ∷ []) → (s : Sign) (more : List ℕ) → bytes ≢ sign_text s ++ more
    none_front none none' s more h = elim (shape s) [
      | inl p ↦ no_short more s (second ∷ rest) w (none s) h p
      | inr p ↦ no_long more s second rest w (none' s) h p
    ]
