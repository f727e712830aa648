-- What `many` writes for a name, beside what `run` writes.
use Rattle.std.specs.Prelude.{◌≡◌, ◌⊎◌, ℕ, List, [], ◌∷◌, ◌++◌, map}
use Rattle.ceal_lex.specs.Parts.{source_of}
use Rattle.ceal_many.specs.Alone.{own_lines, own_texts, names_after}
use Rattle.ceal_many.specs.Laws.{HasSession}
use Rattle.ceal_many.specs.Prefixes.{prefixed}
use Rattle.ceal_cli.specs.ManySessions.{joined_texts}
use Rattle.ceal_cli.specs.Output.{Programmed, IsAnswer, lines_after_mark}
use Rattle.ceal_cli.specs.declared.words.Mode.TheVariants.{Many, Run}

-- The second input has the source part of the first one, and the lines for the name, which is one of the
-- first names. A last empty line, after the last line feed, may come after them.
pub record IsScriptOf {input long : List ℕ} (name : List ℕ) (p : Programmed input) (q : Programmed long) : Type 0 where
  pub source : source_of input p.part ≡ source_of long q.part
  pub marked : p.part.marked ≡ q.part.marked
  pub session : HasSession name (names_after [] (lines_after_mark p))
  pub lines :
      (lines_after_mark q ≡ own_lines name (lines_after_mark p))
      ⊎ (lines_after_mark q ≡ own_lines name (lines_after_mark p) ++ [] ∷ [])

-- The texts that `many` writes for the lines of a name are replies with its prefix, and one after another
-- the replies are what `run` writes for these lines.
abbrev pub ManyIsRunLaw : Type 0
ManyIsRunLaw = (fuel : ℕ) (input long out name : List ℕ) (answer : IsAnswer (Many fuel) input out) (q : Programmed long)
    → IsScriptOf name answer.0 q
    → (replies : List (List ℕ))
    × (own_texts name (lines_after_mark answer.0) answer.1.texts ≡ map (prefixed name) replies)
    × IsAnswer (Run fuel) long (joined_texts replies)
