-- What the parser makes of one word.
use Rattle.std.proofs.Common.{◌≡◌, ◌∙◌, ◌||◌, ◌&&◌, ◌⊎◌, inl, inr, ℕ, Bool, cond, true, false, refl, sym, ap, ap₂, subst, List, [], ◌∷◌, ◌++◌, Option, Some, None, length, codes}
use Rattle.std.specs.Prelude.{slice_get, if◌then◌else◌}
use Rattle.std.specs.Option.{option_map_or}
use Rattle.std.specs.Str.{bytes_eq, chars}
use Rattle.std.proofs.lemmas.Slice.Eq.{bytes_eq-Decides}
use Rattle.clap.specs.Lexer.{long_of, short_of}
use Rattle.clap.specs.Kinds.{Kinds, or_else}
use Rattle.clap.specs.Walk.{Held, Row, Rule, Step, Text, Waiting, Walk, after_flag, after_step, bundle_met, bundle_step}
use Rattle.clap.specs.Walk.{has_row, idle, long_met, long_or_other, option, plain, plain_word, settled_rows}
use Rattle.clap.specs.Walk.{short_or_plain, subcommand_met, subcommand_or_other, trailing, used, walked, word_met}
use Rattle.clap.specs.Faults.{bundle_fault, bundle_step_fault, flag_word_fault, flags_fault, long_fault, other_fault, settle_fault, step_fault, turn_fault, word_fault}
use Rattle.clap.specs.Simple.{Shape, built, filled, with_index}
use Rattle.clap.specs.declared.error.kind.ErrorKind.{ErrorKind}
use Rattle.ceal_cli.specs.CommandLine.{fuel_option, plain_words, ceal_command}
use Rattle.ceal_cli.proofs.Options.OptionText.{long_word_is, option_text}

-- the parser as it is built
abbrev pub S : Shape
S = (built ceal_command).top

abbrev pub F : Rule
F = with_index 1 (filled fuel_option)

abbrev pub W : Rule
W = with_index 1 (filled plain_words)

abbrev pub C : List Rule
C = F ∷ W ∷ []

abbrev pub FUEL : Text
FUEL = codes "fuel"

abbrev pub WORDS : Text
WORDS = codes "words"

abbrev pub DASHES : Text
DASHES = codes "--"

abbrev pub OPTION : Text
OPTION = codes "--fuel"

abbrev pub JOINED : Text
JOINED = codes "--fuel="

abbrev pub Pending : Type 0
Pending = Option (Text × List Text)

-- where the parser is between two words
abbrev pub held : List Row → Pending → Held
held r p = record { rows = r; pending = p; skip = 0 }

abbrev pub at : List Row → Pending → Waiting → Bool → Walk
at r p q is_trailing = record { held = held r p; waiting = q; position = 1; is_trailing = is_trailing; stopped = None }

abbrev pub settles : List Row → Pending → Type 0
settles r p = settle_fault C false (held r p) ≡ []

-- ---- what a word may be

-- the word is `--`
pub record IsDashes (r : List Row) (p : Pending) (q : Waiting) (word : Text) (w : Walk) : Type 0 where
  pub is : word ≡ DASHES
  pub after : w ≡ at r p q true

-- the word is the option with its value
pub record IsJoined (r : List Row) (p : Pending) (word : Text) (w : Walk) : Type 0 where
  pub value : Text
  pub is : word ≡ JOINED ++ value
  pub settled : settles r p
  pub first : has_row FUEL (settled_rows C p r) ≡ false
  pub after : w ≡ at (used F (value ∷ []) (settled_rows C p r)) None idle false

-- the word is the option, whose value is the next word
pub record IsApart (r : List Row) (p : Pending) (word : Text) (w : Walk) : Type 0 where
  pub is : word ≡ OPTION
  pub settled : settles r p
  pub after : w ≡ at (settled_rows C p r) (Some (FUEL, [])) (option FUEL) false

-- the word is no option
pub record IsPlain (r : List Row) (p : Pending) (q : Waiting) (word : Text) (w : Walk) : Type 0 where
  pub passes : step_fault S 1 (plain_word C q word (held r p)).0 (plain_word C q word (held r p)).1 ≡ []
  pub after : w ≡ after_step C word (at r p q false) (plain_word C q word (held r p)).0 (plain_word C q word (held r p)).1

abbrev pub Turn : List Row → Pending → Waiting → Text → Walk → Type 0
Turn r p q word w = IsDashes r p q word w ⊎ (IsJoined r p word w ⊎ (IsApart r p word w ⊎ IsPlain r p q word w))

-- ---- faults

pub or_first : (a b : Kinds) → or_else a b ≡ [] → a ≡ []
or_first [] b h = refl
or_first (k ∷ ks) b h = h

pub or_second : (a b : Kinds) → or_else a b ≡ [] → b ≡ []
or_second [] b h = h
or_second (k ∷ ks) b h = absurd (cc h)

pub not_repeated : (b : Bool) (k : ErrorKind) (more : Kinds) → or_else (cond (b && true) (k ∷ []) []) more ≡ [] → b ≡ false
not_repeated true k more h = absurd (cc h)
not_repeated false k more h = refl

-- ---- a word

module _ (r : List Row) (p : Pending) (q : Waiting) (word : Text) (none : subcommand_met [] q word ≡ None) where
  abbrev met : Bool → Option (Text × Option Text) → Held × Step
  met d l = if d then (held r p, trailing 1) else long_or_other C q word l (held r p)

  abbrev fault : Bool → Option (Text × Option Text) → Kinds
  fault d l = if d then [] else flag_word_fault C false l word (held r p)

  abbrev whole : Kinds → Held × Step → Kinds
  whole f m = or_else f (step_fault S 1 m.0 m.1)

  abbrev then_ : Held × Step → Walk
  then_ m = after_step C word (at r p q false) m.0 m.1

  met_is : word_met C [] false q 1 word (held r p) ≡ met (bytes_eq word DASHES) (long_of word)
  met_is = ap (λ (m : Option Text). subcommand_or_other C m q 1 word (held r p)) none

  fault_is : word_fault S [] false q word (held r p) ≡ fault (bytes_eq word DASHES) (long_of word)
  fault_is = ap (λ (m : Option Text). other_fault S m word (held r p)) none

  turn_is : turn_fault S [] (at r p q false) word ≡ whole (fault (bytes_eq word DASHES) (long_of word)) (met (bytes_eq word DASHES) (long_of word))
  turn_is = ap₂ whole fault_is met_is

  walked_is : walked C [] (at r p q false) word ≡ then_ (met (bytes_eq word DASHES) (long_of word))
  unfolding walked
  walked_is = ap then_ met_is

  letter : (b : ℕ) (bs : Text) (found : Option ℕ)
      → whole (bundle_step_fault C false found (b ∷ bs) 0 (held r p) (flags_fault C false (length bs)))
      (after_flag C q word (bundle_step C found (b ∷ bs) 0 plain (held r p) (bundle_met C (length bs))).0 (bundle_step C found (b ∷ bs) 0 plain (held r p) (bundle_met C (length bs))).1) ≡ []
      → Turn r p q word (then_ (after_flag C q word
      (bundle_step C found (b ∷ bs) 0 plain (held r p) (bundle_met C (length bs))).0
      (bundle_step C found (b ∷ bs) 0 plain (held r p) (bundle_met C (length bs))).1))
  letter b bs None h = inr (inr (inr (record { passes = h; after = refl })))
  letter b bs (Some x) h = absurd (cc h)

  short : (f : Option Text) → whole (option_map_or (λ flags. bundle_fault C false flags (held r p)) f []) (short_or_plain C q word f (held r p)) ≡ []
      → Turn r p q word (then_ (short_or_plain C q word f (held r p)))
  unfolding flags_fault bundle_met
  short None h = inr (inr (inr (record { passes = h; after = refl })))
  short (Some []) h = inr (inr (inr (record { passes = h; after = refl })))
  short (Some (b ∷ bs)) h = letter b bs (slice_get (chars (b ∷ bs)) 0) h

  long : (name : Text) (v : Option Text) (b : Bool) → bytes_eq FUEL name ≡ b → word ≡ 45 ∷ 45 ∷ option_text name v
      → whole (long_fault C false (cond (b || false) (Some F) None) v (held r p))
      (after_flag C q word (long_met C (cond (b || false) (Some F) None) v (held r p)).0 (long_met C (cond (b || false) (Some F) None) v (held r p)).1) ≡ []
      → Turn r p q word (then_ (after_flag C q word (long_met C (cond (b || false) (Some F) None) v (held r p)).0 (long_met C (cond (b || false) (Some F) None) v (held r p)).1))
  long name v false e is h = absurd (cc h)
  long name None true e is h =
      inr (inr (inl (record {
        is = is ∙ ap (λ (t : Text). 45 ∷ 45 ∷ t) (sym ((bytes_eq-Decides FUEL name).0 e));
        settled = or_first _ _ h;
        after = refl;
      })))
  long name (Some t) true e is h =
      let reacts = or_first _ _ h in
      inr (inl (record {
        value = t;
        is = is ∙ ap (λ (n : Text). 45 ∷ 45 ∷ (n ++ 61 ∷ t)) (sym ((bytes_eq-Decides FUEL name).0 e));
        settled = or_first _ _ reacts;
        first = not_repeated _ _ _ (or_second _ _ reacts);
        after = refl;
      }))

  turn : (d : Bool) (l : Option (Text × Option Text)) → bytes_eq word DASHES ≡ d → long_of word ≡ l → whole (fault d l) (met d l) ≡ [] → Turn r p q word (then_ (met d l))
  turn true l e f h = inl (record { is = (bytes_eq-Decides word DASHES).0 e; after = refl })
  turn false (Some l) e f h = long l.0 l.1 (bytes_eq FUEL l.0) refl (long_word_is word l f) h
  turn false None e f h = short (short_of word) h

  -- a word that is not refused is one of these
  pub turn_of : turn_fault S [] (at r p q false) word ≡ [] → Turn r p q word (walked C [] (at r p q false) word)
  turn_of h = subst (Turn r p q word) (sym walked_is) (turn _ _ refl refl (sym turn_is ∙ h))

  -- a word without hyphens at its front is no option
  pub plain_turn : bytes_eq word DASHES ≡ false → long_of word ≡ None → short_of word ≡ None
      → (turn_fault S [] (at r p q false) word ≡ step_fault S 1 (plain_word C q word (held r p)).0 (plain_word C q word (held r p)).1)
      × (walked C [] (at r p q false) word ≡ then_ (plain_word C q word (held r p)))
  plain_turn dashes long_ short_ = (
    turn_is ∙ ap₂ (λ (d : Bool) (l : Option (Text × Option Text)). whole (fault d l) (met d l)) dashes long_
        ∙ ap (λ (f : Option Text). whole (option_map_or (λ flags. bundle_fault C false flags (held r p)) f []) (short_or_plain C q word f (held r p))) short_,
    walked_is ∙ ap₂ (λ (d : Bool) (l : Option (Text × Option Text)). then_ (met d l)) dashes long_
        ∙ ap (λ (f : Option Text). then_ (short_or_plain C q word f (held r p))) short_,
  )
