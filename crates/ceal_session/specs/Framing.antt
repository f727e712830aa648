-- How replies are told apart by whoever reads them one after another.
use Rattle.std.specs.List.{list_all}
use Rattle.std.specs.Prelude.{◌≡◌, ◌≢◌, ◌⊎◌, ◌&&◌, ◌||◌, ℕ, Bool, true, not, nat_eq, Option, Some, List, [], ◌++◌}
use Rattle.std.specs.Prelude.{codes}
use Rattle.ceal_base.specs.declared.typed.FieldInfo.{FieldInfo}
use Rattle.ceal_base.specs.declared.typed.StructInfo.{StructInfo}
use Rattle.ceal_script.specs.declared.command.Command.{Command}
use Rattle.ceal_script.specs.declared.command.Command.TheVariants.{Blank, Show}
use Rattle.ceal_session.specs.Consistency.{IsConsistent}
use Rattle.ceal_session.specs.Refusals.{refusal_text}
use Rattle.ceal_session.specs.Replies.{Reads, Replies}
use Rattle.ceal_session.specs.State.{Situation}
use Rattle.ceal_session.specs.declared.refusal.Refusal.{Refusal}

abbrev pub LINE_FEED : ℕ
LINE_FEED = 10

abbrev pub COLON : ℕ
COLON = 58

abbrev pub is_in_line : ℕ → Bool
is_in_line b = not (nat_eq b LINE_FEED)

abbrev pub is_plain : ℕ → Bool
is_plain b = not (nat_eq b LINE_FEED || nat_eq b COLON)

-- bytes among which there is neither a line feed nor a colon
abbrev pub IsPlain : List ℕ → Type 0
IsPlain bytes = list_all is_plain bytes ≡ true

-- one line: it ends with a line feed, and has no other
pub record IsLine (text : List ℕ) : Type 0 where
  pub line : List ℕ
  pub within : list_all is_in_line line ≡ true
  pub is : text ≡ line ++ codes "\n"

-- Lines up to the line `end`: no line before it is `end`, and none has a colon.
pub data IsToEnd : List ℕ → Type 0 where
  end : IsToEnd (codes "end\n")
  more : {line rest : List ℕ} → IsPlain line → line ≢ codes "end" → IsToEnd rest
      → IsToEnd (line ++ codes "\n" ++ rest)

-- the line of a refusal, which begins with `refused C`, a digit and `: `
abbrev pub IsRefusal : List ℕ → Type 0
IsRefusal text = (r : Refusal) × (text ≡ refusal_text r)

-- A blank line and a comment have no reply. The reply to `show` is a refusal, or it is what comes up to the line `end`;
-- and since it has no colon there, its first line tells which. Each other reply is one line.
abbrev pub IsFramed : Option Command → List ℕ → Type 0
IsFramed (Some Blank) text = text ≡ []
IsFramed (Some (Show name)) text = IsRefusal text ⊎ IsToEnd text
IsFramed _ text = IsLine text

-- the names of a struct and of its fields are plain, as those of each source text are: letters, digits, `_`, brackets
abbrev pub has_plain_name : FieldInfo → Bool
has_plain_name field = list_all is_plain field.name

abbrev pub has_plain_names : StructInfo → Bool
has_plain_names s = list_all is_plain s.name && list_all has_plain_name s.fields

abbrev pub HavePlainNames : List StructInfo → Type 0
HavePlainNames structs = list_all has_plain_names structs ≡ true

-- So it is with each reply to a program whose structs and fields have such names.
abbrev pub FramedLaw : Type 0
FramedLaw =
    (m n : Situation) (command : Option Command) (line text : List ℕ) → IsConsistent m
    → HavePlainNames m.state.program.structs → Reads line command → Replies m line text n → IsFramed command text
