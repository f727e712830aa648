-- Program, fuel and code stay the same over lines.
use Rattle.std.proofs.Common.{◌≡◌, ℕ, Bool, true, false, if◌then◌else◌, Option, Some, None, Result, Ok, Err, List, [], ◌∷◌, refl, ap, ◌∙◌}
use Rattle.std.specs.List.{list_any}
use Rattle.std.specs.Prelude.{◌||◌, bytes_eq, map}
use Rattle.ceal_base.specs.Fitting.{kind_at, block_fits}
use Rattle.ceal_base.specs.declared.call.Call.{Call}
use Rattle.ceal_base.specs.declared.kind.Shape.{Shape}
use Rattle.ceal_base.specs.declared.word.Word.{Word}
use Rattle.ceal_base.specs.declared.word.Word.TheVariants.{Num, Null, Block as BlockWord, At}
use Rattle.ceal_script.specs.declared.command.Command.{Command}
use Rattle.ceal_script.specs.declared.command.Command.TheVariants.{Blank, Mod, New, Set, Run, Propagate, Slice, Get, Show, Blocks, Steps, Work, Bound}
use Rattle.ceal_session.specs.Replies.{Replies, Leads}
use Rattle.ceal_session.specs.Runs.{memory_of}
use Rattle.ceal_session.specs.Senses.{place_sense, value_sense, is_unknown, words_of, mod_shape, struct_shape, struct_named, function_named}
use Rattle.ceal_session.specs.State.{State, Situation}
use Rattle.ceal_session.specs.Steps.{Step, step_of_line, block_of, call_of_run, call_again, fits_cell, step_of_shape, step_of_input, step_of_words, runs, step_of_set, step_of_word}
use Rattle.ceal_session.specs.Works.{past_in}
use Rattle.ceal_session.specs.declared.refusal.Refusal.{Refusal}
use Rattle.ceal_session.specs.declared.sense.Sense.{Sense}
use Rattle.ceal_session.specs.declared.sense.Sense.TheVariants.{Unknown, Plain, Word as IsWord}
use Rattle.ceal_theory.specs.Pasts.{goes}

-- the program and the fuel are those of before
Keeps : State → State → Type 0
Keeps s t = (t.program ≡ s.program) × (t.fuel ≡ s.fuel)

by-test : (s : State) (b : Bool) (x y : Step) → Keeps s x.state → Keeps s y.state → Keeps s (if b then x else y).state
by-test s true x y h k = h
by-test s false x y h k = k

made-keeps : (s : State) (name : List ℕ) (shape : Shape) (senses : List Sense) → Keeps s (step_of_input s name shape senses).state
unfolding Keeps
made-keeps s name shape senses =
    by-test s (list_any is_unknown senses) _ _ (refl, refl) (by-test s (list_any (bytes_eq name) s.names) _ _ (refl, refl) (by-words (words_of senses)))
  where
    by-words : (o : Option (List Word)) → Keeps s (step_of_words s name shape o).state
    by-words None = (refl, refl)
    by-words (Some words) = by-test s (block_fits s.program.structs (memory_of s) (block_of shape words)) _ _ (refl, refl) (refl, refl)

made-of-keeps : (s : State) (name : List ℕ) (o : Option Shape) (senses : List Sense) → Keeps s (step_of_shape s name o senses).state
unfolding Keeps
made-of-keeps s name None senses = (refl, refl)
made-of-keeps s name (Some shape) senses = made-keeps s name shape senses

set-word-keeps : (s : State) (place value : Sense) → Keeps s (step_of_word s place value).state
unfolding Keeps
set-word-keeps s (IsWord (At p)) (IsWord word) = by-test s (fits_cell s (kind_at s.program.structs (memory_of s) p) word) _ _ (refl, refl) (refl, refl)
set-word-keeps s (IsWord (At p)) Unknown = (refl, refl)
set-word-keeps s (IsWord (At p)) Plain = (refl, refl)
set-word-keeps s (IsWord (Num n)) value = (refl, refl)
set-word-keeps s (IsWord Null) value = (refl, refl)
set-word-keeps s (IsWord (BlockWord b)) value = (refl, refl)
set-word-keeps s Unknown value = (refl, refl)
set-word-keeps s Plain value = (refl, refl)

set-keeps : (s : State) (place value : Sense) → Keeps s (step_of_set s place value).state
unfolding Keeps
set-keeps s place value = by-test s (is_unknown place || is_unknown value) _ _ (refl, refl) (set-word-keeps s place value)

runs-keeps : (s : State) (reads : Option ℕ) (more : Bool) (r : Result Call Refusal) → Keeps s (runs s reads more r).state
unfolding Keeps
runs-keeps s reads more (Err r) = (refl, refl)
runs-keeps s None more (Ok call) = (refl, refl)
runs-keeps s (Some n) true (Ok call) = (refl, refl)
runs-keeps s (Some n) false (Ok call) = (refl, refl)

answer-keeps : (s : State) (more : Bool) (c : Option Command) → Keeps s (step_of_line s more c).state
unfolding Keeps
answer-keeps s more None = (refl, refl)
answer-keeps s more (Some Blank) = (refl, refl)
answer-keeps s more (Some (Mod name kind value)) = made-of-keeps s name (mod_shape s kind) (value_sense s value ∷ [])
answer-keeps s more (Some (New name shape values)) = made-of-keeps s name (struct_shape (struct_named s shape)) (map (value_sense s) values)
answer-keeps s more (Some (Set place value)) = set-keeps s (place_sense s place) (value_sense s value)
answer-keeps s more (Some (Run function args)) = runs-keeps s None more (call_of_run s (function_named s function) (map (value_sense s) args))
answer-keeps s more (Some Propagate) = runs-keeps s None more (call_again s.call)
answer-keeps s more (Some (Slice reads)) = runs-keeps s (Some reads) more (call_again s.call)
answer-keeps s more (Some (Get place)) = (refl, refl)
answer-keeps s more (Some (Show name)) = (refl, refl)
answer-keeps s more (Some Blocks) = (refl, refl)
answer-keeps s more (Some Steps) = (refl, refl)
answer-keeps s more (Some Work) = (refl, refl)
answer-keeps s more (Some Bound) = (refl, refl)

-- So it is after a line, and after lines one after another.
pub record KeptBehind (m n : Situation) : Type 0 where
  pub code : n.code ≡ m.code
  pub program : n.state.program ≡ m.state.program
  pub fuel : n.state.fuel ≡ m.state.fuel

behind-kept : (m : Situation) (line text : List ℕ) (n : Situation) → Replies m line text n → KeptBehind m n
unfolding Keeps
behind-kept m line text n h =
    let k = answer-keeps m.state (goes (past_in m h.command)) h.command in
    record {
      code = ap (λ (x : Situation). x.code) h.next;
      program = ap (λ (x : Situation). x.state.program) h.next ∙ k.0;
      fuel = ap (λ (x : Situation). x.state.fuel) h.next ∙ k.1;
    }

pub leads-kept : (m : Situation) (lines : List (List ℕ)) (out : List ℕ) (n : Situation) → Leads m lines out n → KeptBehind m n
unfolding Leads
leads-kept m [] out n (e, same) = record {
  code = ap (λ (x : Situation). x.code) same;
  program = ap (λ (x : Situation). x.state.program) same;
  fuel = ap (λ (x : Situation). x.state.fuel) same;
}
leads-kept m (line ∷ lines) out n (text, mid, rest, replies, more, e) =
    let a = behind-kept m line text mid replies in
    let b = leads-kept mid lines rest n more in
    record { code = b.code ∙ a.code; program = b.program ∙ a.program; fuel = b.fuel ∙ a.fuel }
