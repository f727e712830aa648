-- What the parser has found at the end of the words that it takes.
use Rattle.std.proofs.Common.{◌≡◌, ◌∙◌, ◌||◌, ◌&&◌, ◌⊎◌, inl, inr, Bool, cond, true, false, refl, sym, ap, subst, List}
use Rattle.std.proofs.Common.{[], ◌∷◌, ◌++◌, Option, Some, None, is_some, unwrap_or, true≢false, append-nil}
use Rattle.std.proofs.Common.{append_assoc, fold}
use Rattle.std.specs.Str.{bytes_eq}
use Rattle.std.proofs.lemmas.Slice.Eq.{bytes_eq-Decides}
use Rattle.clap.specs.Walk.{Held, Row, Text, Waiting, Walk, all_of, finished, has_row, idle, is_pending, nothing_held}
use Rattle.clap.specs.Walk.{option, plain_word, positional, reading_by, settled, settled_rows, subcommand_met}
use Rattle.clap.specs.Walk.{to_positional, used, value, values_or_missing, walked, with_default, with_values, without}
use Rattle.clap.specs.Faults.{fault_of, settle_fault, walk_fault}
use Rattle.clap.specs.Simple.{built, matches_of}
use Rattle.clap.proofs.FaultLemmas.{leaf_fault}
use Rattle.clap.specs.declared.parser.matches.ValueSource.TheVariants.{CommandLine}
use Rattle.ceal_cli.specs.CommandLine.{ceal_command}
use Rattle.ceal_cli.proofs.Options.ParseRows.{has_row_all, more_of, others_kept, without_none}
use Rattle.ceal_cli.proofs.Options.OneWord.{S, F, W, C, FUEL, WORDS, DASHES, OPTION, JOINED, Pending, at, held, settles}
use Rattle.ceal_cli.proofs.Options.OneWord.{turn_of, or_first, or_second, not_repeated, Turn, IsDashes, IsJoined}
use Rattle.ceal_cli.proofs.Options.OneWord.{IsApart, IsPlain}

-- ---- the rows of the words and of the values of the option

abbrev pub plain_of : List Row → List Text
plain_of rows = unwrap_or (all_of WORDS rows) []

abbrev pub HasValues : List Text → List Row → Type 0
HasValues [] rows = all_of FUEL rows ≡ None
HasValues (x ∷ []) rows = all_of FUEL rows ≡ Some (x ∷ [])
HasValues (x ∷ y ∷ more) rows = ⊥

-- the rows have these words, and these values of the option, which are one at most
pub record Rows (values plain : List Text) (rows : List Row) : Type 0 where
  pub fuel : HasValues values rows
  pub words : plain_of rows ≡ plain

fuel_is_not_words : (t : Text) → bytes_eq t FUEL ≡ true → bytes_eq t WORDS ≡ false
fuel_is_not_words t e = ap (λ (s : Text). bytes_eq s WORDS) ((bytes_eq-Decides t FUEL).0 e)

words_is_not_fuel : (t : Text) → bytes_eq t WORDS ≡ true → bytes_eq t FUEL ≡ false
words_is_not_fuel t e = ap (λ (s : Text). bytes_eq s FUEL) ((bytes_eq-Decides t WORDS).0 e)

used_fuel : (values plain : List Text) (rows : List Row) (x : Text) → Rows values plain rows → has_row FUEL rows ≡ false
    → Rows (values ++ x ∷ []) plain (used F (x ∷ []) rows)
used_fuel [] plain rows x h none =
    let same = without_none FUEL rows none in
    record {
      fuel = more_of FUEL (reading_by F) CommandLine (x ∷ []) (without FUEL rows) refl
          ∙ ap (λ (o : Option (List Text)). Some (unwrap_or o [] ++ x ∷ [])) (ap (all_of FUEL) same ∙ h.fuel);
      words = ap (λ (o : Option (List Text)). unwrap_or o []) (others_kept FUEL WORDS (reading_by F) CommandLine (x ∷ []) (without FUEL rows) fuel_is_not_words refl)
          ∙ ap plain_of same ∙ h.words;
    }
used_fuel (y ∷ []) plain rows x h none = absurd (true≢false (sym (ap (λ (o : Option (List Text)). is_some o) h.fuel) ∙ sym (has_row_all FUEL rows) ∙ none))
used_fuel (y ∷ z ∷ more) plain rows x h none = absurd h.fuel

same_values : (values : List Text) (a b : List Row) → all_of FUEL a ≡ all_of FUEL b → HasValues values b → HasValues values a
same_values [] a b e h = e ∙ h
same_values (x ∷ []) a b e h = e ∙ h
same_values (x ∷ y ∷ more) a b e h = absurd h

as_given : (words : List Text) → values_or_missing W words ≡ words
as_given [] = refl
as_given (x ∷ xs) = refl

used_words : (values plain more : List Text) (rows : List Row) → Rows values plain rows → Rows values (plain ++ more) (used W more rows)
used_words values plain more rows h =
    subst (λ (m : List Text). Rows values (plain ++ more) (with_values WORDS (reading_by W) CommandLine m rows)) (sym (as_given more)) (record {
      fuel = same_values values _ rows (others_kept WORDS FUEL (reading_by W) CommandLine more rows words_is_not_fuel refl) h.fuel;
      words = ap (λ (o : Option (List Text)). unwrap_or o []) (more_of WORDS (reading_by W) CommandLine more rows refl)
          ∙ ap (λ (l : List Text). l ++ more) h.words;
    })

-- ---- where the parser is

-- words are pending
record Gathers (values plain : List Text) (p : Pending) (r : List Row) : Type 0 where
  before : List Text
  gathered : List Text
  is : p ≡ Some (WORDS, gathered)
  rows : Rows values before r
  all : before ++ gathered ≡ plain

-- nothing is pending, or the option
record Rests (values plain : List Text) (p : Pending) (r : List Row) : Type 0 where
  other : is_pending W p ≡ false
  rows : settles r p → Rows values plain (settled_rows C p r)

abbrev Holds : List Text → List Text → Pending → List Row → Type 0
Holds values plain p r = Gathers values plain p r ⊎ Rests values plain p r

rows_of : (values plain : List Text) (p : Pending) (r : List Row) → Holds values plain p r → settles r p → Rows values plain (settled_rows C p r)
rows_of values plain p r (inl h) s =
    subst (λ (x : Pending). Rows values plain (settled_rows C x r)) (sym h.is)
    (subst (λ (l : List Text). Rows values l (used W h.gathered r)) h.all (used_words values h.before h.gathered r h.rows))
rows_of values plain p r (inr h) s = h.rows s

-- a word went to the words
record Placed (values plain : List Text) (is_trailing : Bool) (w : Walk) : Type 0 where
  rows : List Row
  pending : Pending
  is : w ≡ at rows pending positional (is_trailing || false)
  holds : Holds values plain pending rows

place : (values plain : List Text) (p : Pending) (r : List Row) (q : Waiting) (is_trailing : Bool) (word : Text) → Holds values plain p r
    → cond (is_pending W p && true) [] (settle_fault C false (held r p)) ≡ []
    → Placed values (plain ++ word ∷ []) is_trailing (to_positional C (Some W) word (at r p q is_trailing) (held r p))
place values plain p r q is_trailing word (inl h) passes =
    subst (λ (x : Pending). Placed values (plain ++ word ∷ []) is_trailing (to_positional C (Some W) word (at r x q is_trailing) (held r x))) (sym h.is) (record {
      rows = r;
      pending = Some (WORDS, h.gathered ++ word ∷ []);
      is = refl;
      holds = inl (record {
        before = h.before;
        gathered = h.gathered ++ word ∷ [];
        is = refl;
        rows = h.rows;
        all = sym (append_assoc h.before h.gathered (word ∷ [])) ∙ ap (λ (l : List Text). l ++ word ∷ []) h.all;
      });
    })
place values plain p r q is_trailing word (inr h) passes =
    let settled_here : settles r p = rw h.other at passes in
    record {
      rows = settled_rows C p r;
      pending = Some (WORDS, word ∷ []);
      is = rw h.other refl;
      holds = inl (record { before = plain; gathered = word ∷ []; is = refl; rows = h.rows settled_here; all = refl });
    }

-- ---- the words that are left

-- the parser takes the words
abbrev Ends : Walk → List Text → Type 0
Ends w words = (walk_fault S [] w words ≡ []) × (settle_fault C false (fold (walked C []) w words).held ≡ [])

abbrev Finds : List Text → List Text → Walk → List Text → Type 0
Finds values plain w words = Rows values plain (settled C (fold (walked C []) w words).held).rows

-- after `--`
trailing_end : (words : List Text) (values plain : List Text) (p : Pending) (r : List Row) (q : Waiting) → Holds values plain p r
    → Ends (at r p q true) words → Finds values (plain ++ words) (at r p q true) words
unfolding walk_fault walked
trailing_end [] values plain p r q h e = subst (λ (l : List Text). Rows values l (settled_rows C p r)) (sym (append-nil plain)) (rows_of values plain p r h e.1)
trailing_end (x ∷ words) values plain p r q h e =
    let placed = place values plain p r q true x h (or_first _ _ e.0) in
    let more = subst (λ (w : Walk). Ends w words → Finds values ((plain ++ x ∷ []) ++ words) w words) (sym placed.is)
    (trailing_end words values (plain ++ x ∷ []) placed.pending placed.rows positional placed.holds) in
    subst (λ (l : List Text). Finds values l (at r p q true) (x ∷ words)) (append_assoc plain (x ∷ []) words) (more (or_second _ _ e.0, e.1))

-- an option that waits for its value when `--` comes gets none
no_value : (words : List Text) (r : List Row) (q : Waiting) → Ends (at r (Some (FUEL, [])) q true) words → ⊥
unfolding walk_fault walked
no_value [] r q e = absurd (cc e.1)
no_value (x ∷ words) r q e = absurd (cc e.0)

-- The words have these plain words, and these values of the option; the first is such a value where one is due.
abbrev pub Reads : Bool → List Text → List Text → List Text → Type 0
Reads false [] plain values = (plain ≡ []) × (values ≡ [])
Reads false (x ∷ words) plain values =
    ((x ≡ DASHES) × (plain ≡ words) × (values ≡ []))
    ⊎ (((rest : List Text) × (plain ≡ x ∷ rest) × Reads false words rest values)
    ⊎ (((t : Text) × (rest : List Text) × (x ≡ JOINED ++ t) × (values ≡ t ∷ rest) × Reads false words plain rest)
    ⊎ ((x ≡ OPTION) × Reads true words plain values)))
Reads true [] plain values = ⊥
Reads true (t ∷ words) plain values = (rest : List Text) × (values ≡ t ∷ rest) × Reads false words plain rest

abbrev Stands : Bool → List Text → List Text → Walk → Type 0
Stands false values plain w =
    (r : List Row) × (p : Pending) × (q : Waiting) × ((t : Text) → subcommand_met [] q t ≡ None) × ((t : Text) (h : Held) → plain_word C q t h ≡ (h, value))
    × (w ≡ at r p q false) × Holds values plain p r
Stands true values plain w = (r : List Row) × (w ≡ at r (Some (FUEL, [])) (option FUEL) false) × Rows values plain r

record Answer (waits : Bool) (values plain : List Text) (w : Walk) (words : List Text) : Type 0 where
  more_plain : List Text
  more_values : List Text
  reads : Reads waits words more_plain more_values
  rows : Finds (values ++ more_values) (plain ++ more_plain) w words

at_end : (values plain : List Text) (p : Pending) (r : List Row) (q : Waiting) → Holds values plain p r → Ends (at r p q false) [] → Answer false values plain (at r p q false) []
unfolding walk_fault
at_end values plain p r q h e = record {
  more_plain = [];
  more_values = [];
  reads = (refl, refl);
  rows = subst (λ (l : List Text). Rows l (plain ++ []) (settled_rows C p r)) (sym (append-nil values))
      (subst (λ (l : List Text). Rows values l (settled_rows C p r)) (sym (append-nil plain)) (rows_of values plain p r h e.1));
}

-- ---- one word and those after it

-- the word has been read, and those after it are taken
abbrev Behind : Bool → List Text → List Text → Walk → List Text → Type 0
Behind waits values plain w words = Stands waits values plain w → Ends w words → Answer waits values plain w words

module _ (x : Text) (words values plain : List Text) (w : Walk) where
  abbrev Next : Bool → Walk → Type 0
  Next waits after = Answer waits values plain after (x ∷ words)

  by_dashes : (p : Pending) (r : List Row) (q : Waiting) → Holds values plain p r → IsDashes r p q x (walked C [] w x) → Ends (walked C [] w x) words → Next false w
  by_dashes p r q holds d e = record {
    more_plain = words;
    more_values = [];
    reads = inl (d.is, refl, refl);
    rows = subst (λ (l : List Text). Rows l (plain ++ words) (settled C (fold (walked C []) (walked C [] w x) words).held).rows) (sym (append-nil values))
        (subst (λ (y : Walk). Ends y words → Finds values (plain ++ words) y words) (sym d.after) (trailing_end words values plain p r q holds) e);
  }

  by_joined : (p : Pending) (r : List Row) → Holds values plain p r → (j : IsJoined r p x (walked C [] w x))
      → Behind false (values ++ j.value ∷ []) plain (walked C [] w x) words → Ends (walked C [] w x) words → Next false w
  by_joined p r holds j behind e =
      let rows = used_fuel values plain (settled_rows C p r) j.value (rows_of values plain p r holds j.settled) j.first in
      let more = behind (_, None, idle, (λ t. refl), (λ t h. refl), j.after, inr (record { other = refl; rows = λ s. rows })) e in
      record {
        more_plain = more.more_plain;
        more_values = j.value ∷ more.more_values;
        reads = inr (inr (inl (j.value, more.more_values, j.is, refl, more.reads)));
        rows = subst (λ (l : List Text). Finds l (plain ++ more.more_plain) w (x ∷ words)) (append_assoc values (j.value ∷ []) more.more_values) more.rows;
      }

  by_apart : (p : Pending) (r : List Row) → Holds values plain p r → (a : IsApart r p x (walked C [] w x))
      → Behind true values plain (walked C [] w x) words → Ends (walked C [] w x) words → Next false w
  by_apart p r holds a behind e =
      let more = behind (_, a.after, rows_of values plain p r holds a.settled) e in
      record {
        more_plain = more.more_plain;
        more_values = more.more_values;
        reads = inr (inr (inr (a.is, more.reads)));
        rows = more.rows;
      }

  by_plain : (p : Pending) (r : List Row) (q : Waiting) → w ≡ at r p q false → Holds values plain p r → plain_word C q x (held r p) ≡ (held r p, value) → IsPlain r p q x (walked C [] w x)
      → Behind false values (plain ++ x ∷ []) (walked C [] w x) words → Ends (walked C [] w x) words → Next false w
  by_plain p r q is holds rest o behind e =
      let passes = rw rest at o.passes in
      let after = rw rest at o.after in
      let placed = place values plain p r q false x holds passes in
      let more = behind (placed.rows, placed.pending, positional, (λ t. refl), (λ t h. refl), after ∙ placed.is, placed.holds) e in
      record {
        more_plain = x ∷ more.more_plain;
        more_values = more.more_values;
        reads = inr (inl (more.more_plain, refl, more.reads));
        rows = subst (λ (l : List Text). Finds (values ++ more.more_values) l w (x ∷ words)) (append_assoc plain (x ∷ []) more.more_plain) more.rows;
      }

  by_value : (r : List Row) → Rows values plain r → IsPlain r (Some (FUEL, [])) (option FUEL) x (walked C [] w x)
      → Behind false (values ++ x ∷ []) plain (walked C [] w x) words → Ends (walked C [] w x) words → Next true w
  by_value r rows o behind e =
      let more = behind (r, Some (FUEL, x ∷ []), idle, (λ t. refl), (λ t h. refl), o.after, inr (record { other = refl; rows = λ s. used_fuel values plain r x rows (not_repeated _ _ _ s) })) e in
      record {
        more_plain = more.more_plain;
        more_values = x ∷ more.more_values;
        reads = (more.more_values, refl, more.reads);
        rows = subst (λ (l : List Text). Finds l (plain ++ more.more_plain) w (x ∷ words)) (append_assoc values (x ∷ []) more.more_values) more.rows;
      }

-- the turn of a word, at a state that is equal to one that is written out
turn_at : (x : Text) (w : Walk) (words : List Text) (r : List Row) (p : Pending) (q : Waiting) → w ≡ at r p q false → subcommand_met [] q x ≡ None → Ends w (x ∷ words)
    → Turn r p q x (walked C [] w x) × Ends (walked C [] w x) words
unfolding walk_fault
turn_at x w words r p q is none e =
    subst (λ (y : Walk). Ends y (x ∷ words) → Turn r p q x (walked C [] y x) × Ends (walked C [] y x) words) (sym is)
    (λ h. (turn_of r p q x none (or_first _ _ h.0), (or_second _ _ h.0, h.1))) e

answer : (words : List Text) (waits : Bool) (values plain : List Text) (w : Walk) → Stands waits values plain w → Ends w words → Answer waits values plain w words
unfolding walk_fault
answer [] false values plain w (r, p, q, none, rest, is, holds) e =
    subst (λ (x : Walk). Ends x [] → Answer false values plain x []) (sym is) (at_end values plain p r q holds) e
answer [] true values plain w (r, is, rows) e =
    let bad = subst (λ (x : Walk). Ends x []) is e in
    absurd (cc bad.1)
answer (x ∷ words) false values plain w (r, p, q, none, rest, is, holds) e =
    let here = turn_at x w words r p q is (none x) e in
    elim here.0 [
      | inl d ↦ by_dashes x words values plain w p r q holds d here.1
      | inr (inl j) ↦ by_joined x words values plain w p r holds j (answer words false (values ++ j.value ∷ []) plain (walked C [] w x)) here.1
      | inr (inr (inl a)) ↦ by_apart x words values plain w p r holds a (answer words true values plain (walked C [] w x)) here.1
      | inr (inr (inr o)) ↦ by_plain x words values plain w p r q is holds (rest x (held r p)) o (answer words false values (plain ++ x ∷ []) (walked C [] w x)) here.1
    ]
answer (x ∷ words) true values plain w (r, is, rows) e =
    let here = turn_at x w words r (Some (FUEL, [])) (option FUEL) is refl e in
    elim here.0 [
      | inl d ↦ absurd (no_value words r (option FUEL) (subst (λ (y : Walk). Ends y words) d.after here.1))
      | inr (inl j) ↦ absurd (cc j.settled)
      | inr (inr (inl a)) ↦ absurd (cc a.settled)
      | inr (inr (inr o)) ↦ by_value x words values plain w r rows o (answer words false (values ++ x ∷ []) plain (walked C [] w x)) here.1
    ]

-- ---- the parse

no_defaults : (h : Held) → finished C h ≡ (settled C h).rows
no_defaults h = ap (λ (rows : List Row). with_default rows W) (of_fuel (has_row FUEL (settled C h).rows)) ∙ of_words (has_row WORDS (settled C h).rows)
  where
    of_fuel : (b : Bool) → cond b (settled C h).rows (settled C h).rows ≡ (settled C h).rows
    of_fuel true = refl
    of_fuel false = refl

    of_words : (b : Bool) → cond b (settled C h).rows (settled C h).rows ≡ (settled C h).rows
    of_words true = refl
    of_words false = refl

pub record Read (words : List Text) : Type 0 where
  pub plain : List Text
  pub values : List Text
  pub reads : Reads false words plain values
  pub rows : Rows values plain (matches_of ceal_command words)

-- where no fault comes, the matches are the plain words and the values of the option
pub read_of : (words : List Text) → fault_of ceal_command words ≡ [] → Read words
read_of words none =
    let level = sym (leaf_fault (built ceal_command) nothing_held words refl) ∙ none in
    let walk = or_first _ _ level in
    let settle = or_first _ _ (or_second _ _ level) in
    let begins : Rows [] [] [] = record { fuel = refl; words = refl } in
    let a = answer words false [] [] (at [] None idle false) ([], None, idle, (λ t. refl), (λ t h. refl), refl, inr (record { other = refl; rows = λ s. begins })) (walk, settle) in
    record {
      plain = a.more_plain;
      values = a.more_values;
      reads = a.reads;
      rows = subst (λ (r : List Row). Rows a.more_values a.more_plain r) (sym (no_defaults (fold (walked C []) (at [] None idle false) words).held)) a.rows;
    }
