-- A source has tokens, or a first fault; and an input has a split.
use Rattle.std.proofs.Common.{◌≡◌, ◌≢◌, ◌⊎◌, inl, inr, ℕ, zero, suc, ◌+◌, ◌-◌, ◌<◌, ◌≤◌, Bool, true, false, List, [], ◌∷◌, ◌++◌, length, take, drop, get_or, refl, sym, ◌∙◌, arith}
use Rattle.std.specs.Prelude.{◌==◌, ◌^◌, min, pos}
use Rattle.std.specs.List.{prefix_len, position_or_len}
use Rattle.std.proofs.lemmas.Bool.{cases_Bool, cases_eq, cases_lt, false≢true}
use Rattle.std.proofs.lemmas.List.{length-drop}
use Rattle.std.proofs.lemmas.Slice.Eq.{bytes_eq-Decides}
use Rattle.std.specs.Str.{bytes_eq}
use Rattle.ceal_base.specs.declared.fault.Fault.{Fault}
use Rattle.ceal_base.specs.declared.fault.FaultCode.TheVariants.{S1, S2}
use Rattle.ceal_base.specs.Digits.{number_of, is_digit}
use Rattle.ceal_lex.specs.declared.front.Front.{Front}
use Rattle.ceal_lex.specs.declared.front.Front.TheVariants.{Blank, Found, Broken}
use Rattle.ceal_lex.specs.declared.parts.Split.{Split}
use Rattle.ceal_lex.specs.declared.token.Sign.{Sign}
use Rattle.ceal_lex.specs.declared.token.Token.{Token}
use Rattle.ceal_lex.specs.declared.token.TokenKind.TheVariants as kinds
use Rattle.ceal_lex.specs.Characters.{CARRIAGE_RETURN, LINE_FEED, PERCENT, SLASH, STAR, is_letter, is_space, is_word_byte}
use Rattle.ceal_lex.specs.Faults.{IsFirstFault}
use Rattle.ceal_lex.specs.Front.{BeginsWith, ClosesAt, is_other, IsFront, IsLongestSign, IsNeverClosed}
use Rattle.ceal_lex.specs.Parts.{IsBeforeLine, IsMark, IsSplit}
use Rattle.ceal_lex.specs.Pieces.{BeginsComment}
use Rattle.ceal_lex.specs.Reading.{Reads}
use Rattle.ceal_lex.specs.Spelling.{LARGEST, sign_text}
use Rattle.ceal_lex.specs.Tokens.{AreTokens, span}
use Rattle.ceal_lex.proofs.Begins.{begins_other, blank_space, block_at, front_taken, line_at, nothing_found, number_found, number_too_large, open_at, sign_found, word_found}
use Rattle.ceal_lex.proofs.Closing.{NoneBefore as NoEndBefore, closes, none_left as never_closed, none_more as no_end_more}
use Rattle.ceal_lex.proofs.Going.{Continues, after_blank, after_token, at_end, at_fault, at_start}
use Rattle.ceal_lex.proofs.Marks.{NoneBefore, before_more, marked, none_left, none_more, at_start as none_at_start}
use Rattle.ceal_lex.proofs.Outcomes.{with_ending}
use Rattle.ceal_lex.proofs.SignTexts.{long_front, no_byte, none_alone, none_front, short_alone, short_front}
use Rattle.ceal_lex.proofs.Spellings.{sign_or_none, word_or_none}

-- a comment is closed from byte n on, or never
close_from : (text : List ℕ) (k n : ℕ) → length text ≤ n + k → NoEndBefore n text → ((m : ℕ) × ClosesAt m text) ⊎ IsNeverClosed text
close_from text zero n l h = inr (never_closed text n h (omega (arith, l)))
close_from text (suc k) n l h = elim (cases_lt (n + 1) (length text)) [
  | inr full ↦ inr (never_closed text n h (omega (arith, full)))
  | inl room ↦
      let more : (get_or text n 0 ≡ STAR → get_or text (n + 1) 0 ≡ SLASH → ⊥) → ((m : ℕ) × ClosesAt m text) ⊎ IsNeverClosed text =
      λ other. close_from text k (n + 1) (omega (arith, l)) (no_end_more text n h other) in
      elim (cases_eq (get_or text n 0) STAR) [
        | inr other ↦ more (λ s t. other s)
        | inl star ↦ elim (cases_eq (get_or text (n + 1) 0) SLASH) [
          | inr other ↦ more (λ s t. other t)
          | inl slash ↦ inl (n, closes text n h room star slash)
        ]
      ]
]

closed_or_not : (text : List ℕ) → ((m : ℕ) × ClosesAt m text) ⊎ IsNeverClosed text
closed_or_not text = close_from text (length text) 0 (omega arith) (λ a b h. omega arith)

-- the bytes begin with a sign, or with none
abbrev HasSign : List ℕ → Type 0
HasSign bytes = ((s : Sign) × (n : ℕ) × IsLongestSign s n bytes) ⊎ ((s : Sign) (more : List ℕ) → bytes ≢ sign_text s ++ more)

sign_at : (bytes : List ℕ) → HasSign bytes
sign_at [] = inr (no_byte [] refl)
sign_at (b ∷ []) = elim (sign_or_none (b ∷ [])) [
  | inl found ↦ inl (found.0, 1, short_alone (b ∷ []) b found.0 refl found.1)
  | inr none ↦ inr (none_alone (b ∷ []) b refl none)
]
sign_at (b ∷ c ∷ rest) = elim (sign_or_none (b ∷ c ∷ [])) [
  | inl found ↦ inl (found.0, 2, long_front (b ∷ c ∷ rest) b c rest refl found.0 found.1)
  | inr none ↦ elim (sign_or_none (b ∷ [])) [
    | inl found ↦ inl (found.0, 1, short_front (b ∷ c ∷ rest) b c rest refl found.0 found.1 none)
    | inr neither ↦ inr (none_front (b ∷ c ∷ rest) b c rest refl neither none)
  ]
]

abbrev HasFront : List ℕ → Type 0
HasFront bytes = (f : Front) × IsFront f bytes

word_front : (bytes : List ℕ) → BeginsWith is_letter bytes → HasFront bytes
word_front bytes h =
    let n : ℕ = prefix_len is_word_byte bytes in
    elim (word_or_none (take n bytes)) [
      | inl found ↦ (Found (kinds.Reserved found.0) n, word_found (kinds.Reserved found.0) bytes n h refl (λ w. found.1))
      | inr none ↦ (Found (kinds.Name (take n bytes)) n, word_found (kinds.Name (take n bytes)) bytes n h refl (λ w. (refl, w, none)))
    ]

number_front : (bytes : List ℕ) → BeginsWith is_digit bytes → HasFront bytes
number_front bytes h =
    let n : ℕ = prefix_len is_digit bytes in
    elim (cases_lt LARGEST (number_of (take n bytes))) [
      | inl large ↦ (Broken S2 n, number_too_large bytes n h refl large)
      | inr small ↦ (Found (kinds.Number (pos (number_of (take n bytes)))) n, number_found bytes n h refl (pos (number_of (take n bytes))) refl small)
    ]

sign_front : (bytes : List ℕ) → BeginsWith is_other bytes → (BeginsComment bytes → ⊥) → HasFront bytes
sign_front bytes h c = elim (sign_at bytes) [
  | inl found ↦ (Found (kinds.Sign found.0) found.1, sign_found bytes found.0 found.1 h c found.2)
  | inr none ↦ (Broken S1 1, nothing_found bytes h none)
]

module _ (b c : ℕ) (rest : List ℕ) where
  no_second : (c ≡ SLASH → ⊥) → (c ≡ STAR → ⊥) → BeginsComment (b ∷ c ∷ rest) → ⊥
  no_second slash star h =
      let same : c ≡ h.0 = cc h.2 in
      elim h.3 [ inl e ↦ slash (same ∙ e) | inr e ↦ star (same ∙ e) ]

  no_first : (b ≡ SLASH → ⊥) → BeginsComment (b ∷ c ∷ rest) → ⊥
  no_first slash h = slash (cc h.2)

  behind_slash : b ≡ SLASH → BeginsWith is_other (b ∷ c ∷ rest) → HasFront (b ∷ c ∷ rest)
  behind_slash slash h =
      let bytes : List ℕ = b ∷ c ∷ rest in
      let two : 2 ≤ length bytes = omega arith in
      elim (cases_eq c SLASH) [
        | inl line ↦
            let n : ℕ = position_or_len (λ b. b == LINE_FEED) (take (length bytes - 2) (drop 2 bytes)) in
            (Blank (2 + n), line_at bytes two slash n line refl)
        | inr no_line ↦ elim (cases_eq c STAR) [
          | inl block ↦ elim (closed_or_not (take (length bytes - 2) (drop 2 bytes))) [
            | inl close ↦ (Blank (4 + close.0), block_at bytes two slash close.0 block close.1)
            | inr never ↦ (Broken S1 1, open_at bytes two slash block never)
          ]
          | inr no_block ↦ sign_front bytes h (no_second no_line no_block)
        ]
      ]

no_comment_of_one : (b : ℕ) → BeginsComment (b ∷ []) → ⊥
no_comment_of_one b h = absurd (cc h.2)

other_front : (bytes : List ℕ) → BeginsWith is_other bytes → HasFront bytes
other_front [] h = absurd h
other_front (b ∷ []) h = sign_front (b ∷ []) h (no_comment_of_one b)
other_front (b ∷ c ∷ rest) h = elim (cases_eq b SLASH) [
  | inl slash ↦ behind_slash b c rest slash h
  | inr other ↦ sign_front (b ∷ c ∷ rest) h (no_first b c rest other)
]

-- something is at the front of bytes that are not empty
front_of : (bytes : List ℕ) → 0 < length bytes → HasFront bytes
front_of [] l = absurd (omega (arith, l))
front_of (b ∷ bs) l = elim (cases_Bool (is_space b)) [
  | inl space ↦ (Blank 1, blank_space (b ∷ bs) space)
  | inr no_space ↦ elim (cases_Bool (is_letter b)) [
    | inl letter ↦ word_front (b ∷ bs) letter
    | inr no_letter ↦ elim (cases_Bool (is_digit b)) [
      | inl digit ↦ number_front (b ∷ bs) digit
      | inr no_digit ↦ other_front (b ∷ bs) (begins_other (b ∷ bs) l no_space no_letter no_digit)
    ]
  ]
]

module _ (source : List ℕ) where
  abbrev IsRead : Type 0
  IsRead = ((tokens : List Token) × Reads source [] tokens) ⊎ ((fault : Fault) × IsFirstFault source fault)

  read_from : (k at : ℕ) (tokens : List Token) → length source ≤ at + k → at ≤ length source → Continues source (drop at source) at tokens → IsRead
  read_from zero at tokens l w so_far = inl (tokens, at_end source at tokens so_far (omega (arith, l)))
  read_from (suc k) at tokens l w so_far = elim (cases_lt at (length source)) [
    | inr done ↦ inl (tokens, at_end source at tokens so_far done)
    | inl room ↦
        let rest = length-drop at source in
        let front = front_of (drop at source) (omega (arith, rest, room)) in
        let taken = front_taken front.0 (drop at source) front.1 in
        let go : (f : Front) → IsFront f (drop at source) → IsRead = elim [
          | Blank n ↦ λ h.
              let t = front_taken (Blank n) (drop at source) h in
              read_from k (at + n) tokens (omega (arith, l, t.0)) (omega (arith, w, t.1, rest)) (after_blank source at tokens so_far n h)
          | Found kind n ↦ λ h.
              let t = front_taken (Found kind n) (drop at source) h in
              read_from k (at + n) (tokens ++ record { kind = kind; span = span at (at + n) } ∷ []) (omega (arith, l, t.0)) (omega (arith, w, t.1, rest))
              (after_token source at tokens so_far kind n h)
          | Broken code n ↦ λ h. inr (record { code = code; span = span at (at + n) }, at_fault source at tokens so_far code n w h)
        ] in
        go front.0 front.1
  ]

  pub either : (marked : Bool) → ((tokens : List Token) × AreTokens source marked tokens) ⊎ ((fault : Fault) × IsFirstFault source fault)
  either marked = elim (read_from (length source) 0 [] (omega arith) (omega arith) (at_start source)) [
    | inl read ↦ inl (_, with_ending source marked read.0 read.1)
    | inr fault ↦ inr fault
  ]

-- a line is `%%`, or not
mark_or_not : (text : List ℕ) → IsMark text ⊎ (IsMark text → ⊥)
mark_or_not text = elim (cases_Bool (bytes_eq text (PERCENT ∷ PERCENT ∷ []))) [
  | inl e ↦ inl (inl ((bytes_eq-Decides text (PERCENT ∷ PERCENT ∷ [])).0 e))
  | inr e ↦ elim (cases_Bool (bytes_eq text (PERCENT ∷ PERCENT ∷ CARRIAGE_RETURN ∷ []))) [
    | inl f ↦ inl (inr ((bytes_eq-Decides text (PERCENT ∷ PERCENT ∷ CARRIAGE_RETURN ∷ [])).0 f))
    | inr f ↦ inr (λ m. elim m [
      | inl h ↦ false≢true (sym e ∙ (bytes_eq-Decides text (PERCENT ∷ PERCENT ∷ [])).1 h)
      | inr h ↦ false≢true (sym f ∙ (bytes_eq-Decides text (PERCENT ∷ PERCENT ∷ CARRIAGE_RETURN ∷ [])).1 h)
    ])
  ]
]

module _ (input : List ℕ) (small : length input < 2 ^ 32) where
  whole : NoneBefore (length input) input → (p : Split) × IsSplit input p
  whole none = (
    record { source = span 0 (length input); marked = false; script = span (length input) (length input) },
    record { small = small; parts = record { none = none_left input (length input) (omega arith) none; source = refl; script = refl } },
  )

  split_from : (k start : ℕ) → length input ≤ start + k → NoneBefore start input → (start ≤ length input → IsBeforeLine (take start input)) → (p : Split) × IsSplit input p
  split_from zero start l none before = whole (λ b a m. let p = none b a m in omega (arith, p, l))
  split_from (suc k) start l none before = elim (cases_lt start (length input)) [
    | inr done ↦ whole (λ b a m. let p = none b a m in omega (arith, p, done))
    | inl under ↦
        let n : ℕ = position_or_len (λ b. b == LINE_FEED) (drop start input) in
        let begins = before (omega (arith, under)) in
        elim (mark_or_not (take n (drop start input))) [
          | inl mark ↦ (
            record { source = span 0 start; marked = true; script = span (min (start + n + 1) (length input)) (length input) },
            record { small = small; parts = marked input start n under none begins refl mark },
          )
          | inr other ↦ split_from k (start + n + 1) (omega (arith, l)) (none_more input start n under none begins refl other) (before_more input start n under none begins refl)
        ]
  ]

  pub some_split : (p : Split) × IsSplit input p
  some_split = split_from (length input) 0 (omega arith) (none_at_start input) (λ l. inl refl)
