-- Words that are no options, with `--` or without.
use Rattle.std.proofs.Common.{◌≡◌, ◌∙◌, inl, inr, Bool, true, false, refl, sym, ap, subst, List, [], ◌∷◌, ◌++◌, Option, Some, None, append-nil, append_assoc, fold}
use Rattle.std.specs.List.{AllByRecursion}
use Rattle.std.specs.Str.{bytes_eq}
use Rattle.clap.specs.Kinds.{Kinds, or_else}
use Rattle.clap.specs.Lexer.{long_of, short_of}
use Rattle.clap.specs.Walk.{Held, Walk, finished, first_of, idle, nothing_held, positional, settled, walked}
use Rattle.clap.specs.Faults.{check_fault, defaults_fault, fault_of, settle_fault, turn_fault, walk_fault}
use Rattle.clap.specs.Simple.{built, matches_of}
use Rattle.clap.proofs.FaultLemmas.{leaf_fault}
use Rattle.ceal_cli.specs.CommandLine.{ceal_command}
use Rattle.ceal_cli.specs.Modes.{AreMarked, Text}
use Rattle.ceal_cli.proofs.Options.FoundWords.{plain_of}
use Rattle.ceal_cli.proofs.Options.OneWord.{S, C, DASHES, FUEL, WORDS, at, held, plain_turn}

-- the parser takes the words, and finds these
pub record Takes (plain : List Text) (value : Option Text) (words : List Text) : Type 0 where
  pub taken : fault_of ceal_command words ≡ []
  pub plain_words : plain_of (matches_of ceal_command words) ≡ plain
  pub value_is : first_of FUEL (matches_of ceal_command words) ≡ value

-- the word is no option
pub record IsNoOption (word : Text) : Type 0 where
  pub dashes : bytes_eq word DASHES ≡ false
  pub long : long_of word ≡ None
  pub short : short_of word ≡ None

abbrev pub AreNoOptions : List Text → Type 0
AreNoOptions words = AllByRecursion IsNoOption words

in_front : (front back : List Text) → AreNoOptions (front ++ back) → AreNoOptions front
in_front [] back h = tt
in_front (x ∷ front) back h = (h.0, in_front front back h.1)

-- where the parser is after it has gathered these words, after `--` or not
abbrev gathered : List Text → Bool → Walk
gathered words is_trailing = at [] (Some (WORDS, words)) positional is_trailing

abbrev start : Bool → Walk
start is_trailing = at [] None idle is_trailing

-- the parser passes the words, and has then gathered these
record Passes (w : Walk) (words plain : List Text) : Type 0 where
  passed : walk_fault S [] w words ≡ []
  is_trailing : Bool
  end : fold (walked C []) w words ≡ gathered plain is_trailing

one_more : (w next : Walk) (x : Text) (words plain : List Text) → turn_fault S [] w x ≡ [] → walked C [] w x ≡ next → Passes next words plain → Passes w (x ∷ words) plain
unfolding walk_fault
one_more w next x words plain turn is h = record {
  passed = ap (λ (f : Kinds). or_else f (walk_fault S [] (walked C [] w x) words)) turn ∙ subst (λ (v : Walk). walk_fault S [] v words ≡ []) (sym is) h.passed;
  is_trailing = h.is_trailing;
  end = ap (λ (v : Walk). fold (walked C []) v words) is ∙ h.end;
}

no_more : (g : List Text) (b : Bool) → Passes (gathered g b) [] (g ++ [])
unfolding walk_fault
no_more g b = record { passed = refl; is_trailing = b; end = ap (λ (l : List Text). gathered l b) (sym (append-nil g)) }

-- after `--` each word is gathered
behind : (words g : List Text) → Passes (gathered g true) words (g ++ words)
unfolding walked
behind [] g = no_more g true
behind (x ∷ words) g =
    subst (Passes (gathered g true) (x ∷ words)) (append_assoc g (x ∷ []) words)
    (one_more (gathered g true) (gathered (g ++ x ∷ []) true) x words _ refl refl (behind words (g ++ x ∷ [])))

-- before it, each that is no option
gathers : (g : List Text) (x : Text) (words plain : List Text) → IsNoOption x → Passes (gathered (g ++ x ∷ []) false) words plain → Passes (gathered g false) (x ∷ words) plain
gathers g x words plain other h =
    let turn = plain_turn [] (Some (WORDS, g)) positional x refl other.dashes other.long other.short in
    one_more (gathered g false) (gathered (g ++ x ∷ []) false) x words plain turn.0 turn.1 h

unmarked : (words g : List Text) → AreNoOptions words → Passes (gathered g false) words (g ++ words)
unmarked [] g all = no_more g false
unmarked (x ∷ words) g all =
    subst (Passes (gathered g false) (x ∷ words)) (append_assoc g (x ∷ []) words) (gathers g x words _ all.0 (unmarked words (g ++ x ∷ []) all.1))

marked : (front back g : List Text) → AreNoOptions front → Passes (gathered g false) (front ++ DASHES ∷ back) (g ++ (front ++ back))
unfolding walked
marked [] back g all = one_more (gathered g false) (gathered g true) DASHES back _ refl refl (behind back g)
marked (x ∷ front) back g all =
    subst (Passes (gathered g false) (x ∷ (front ++ DASHES ∷ back))) (append_assoc g (x ∷ []) (front ++ back)) (gathers g x (front ++ DASHES ∷ back) _ all.0 (marked front back (g ++ x ∷ []) all.1))

-- the first word
begins : (x : Text) (words plain : List Text) → IsNoOption x → Passes (gathered (x ∷ []) false) words plain → Passes (start false) (x ∷ words) plain
begins x words plain other h =
    let turn = plain_turn [] None idle x refl other.dashes other.long other.short in
    one_more (start false) (gathered (x ∷ []) false) x words plain turn.0 turn.1 h

begins_marked : (x : Text) (rest : List Text) → Passes (start false) (DASHES ∷ x ∷ rest) (x ∷ rest)
unfolding walked
begins_marked x rest =
    one_more (start false) (start true) DASHES (x ∷ rest) _ refl refl (one_more (start true) (gathered (x ∷ []) true) x rest _ refl refl (behind rest (x ∷ [])))

passes : (x : Text) (rest words : List Text) → AreNoOptions (x ∷ rest) → AreMarked (x ∷ rest) words → Passes (start false) words (x ∷ rest)
passes x rest words all (inl same) = subst (λ (l : List Text). Passes (start false) l (x ∷ rest)) (sym same) (begins x rest _ all.0 (unmarked rest (x ∷ []) all.1))
passes x rest words all (inr ([], back, is, same)) =
    subst (λ (l : List Text). Passes (start false) l (x ∷ rest)) (ap (λ (l : List Text). DASHES ∷ l) is ∙ sym same) (begins_marked x rest)
passes x rest words all (inr (y ∷ front, back, is, same)) =
    let others = subst AreNoOptions is all in
    subst (λ (l : List Text). Passes (start false) l (x ∷ rest)) (sym same)
    (subst (Passes (start false) (y ∷ (front ++ DASHES ∷ back))) (sym is)
    (begins y (front ++ DASHES ∷ back) _ others.0 (marked front back (y ∷ []) (in_front front back others.1))))

-- what comes after the last word
abbrev pub end_fault : Held → Kinds
end_fault h = or_else (settle_fault C false h) (or_else (defaults_fault (settled C h).rows C) (check_fault S (finished C h) false))

module _ (x : Text) (rest : List Text) where
  abbrev last : Held
  last = held [] (Some (WORDS, x ∷ rest))

  -- the parser takes the words and finds them, where it does so at their end
  pub takes_plain : end_fault last ≡ [] → plain_of (finished C last) ≡ x ∷ rest → first_of FUEL (finished C last) ≡ None → AreNoOptions (x ∷ rest)
      → (words : List Text) → AreMarked (x ∷ rest) words → Takes (x ∷ rest) None words
  takes_plain ends found none all words is =
      let p = passes x rest words all is in
      record {
        taken = leaf_fault (built ceal_command) nothing_held words refl
            ∙ ap (λ (f : Kinds). or_else f (end_fault (fold (walked C []) (start false) words).held)) p.passed
            ∙ ap (λ (v : Walk). end_fault v.held) p.end ∙ ends;
        plain_words = ap (λ (v : Walk). plain_of (finished C v.held)) p.end ∙ found;
        value_is = ap (λ (v : Walk). first_of FUEL (finished C v.held)) p.end ∙ none;
      }
