-- Computed samples of the definitions: the lines of a session over a program that has no structs and no functions.
use Rattle.std.proofs.Common.{◌≡◌, ℕ, false, true, List, [], ◌∷◌, None, pos, refl}
use Rattle.std.specs.Prelude.{codes}
use Rattle.ceal_base.specs.Block.{Block}
use Rattle.ceal_base.specs.declared.kind.Shape.TheVariants.{ModInt}
use Rattle.ceal_base.specs.declared.word.Word.TheVariants.{Num}
use Rattle.ceal_script.specs.declared.command.Command.TheVariants.{Mod, Set, Propagate, Get}
use Rattle.ceal_script.specs.declared.command.KindWord.TheVariants.{Int}
use Rattle.ceal_script.specs.declared.command.PlaceWord.{PlaceWord}
use Rattle.ceal_script.specs.declared.command.ValueWord.TheVariants.{Num as NumWord, Null as NullWord}
use Rattle.ceal_session.specs.Runs.{state_at_start}
use Rattle.ceal_session.specs.Senses.{words_of}
use Rattle.ceal_session.specs.State.{State}
use Rattle.ceal_session.specs.Steps.{stays, refuses, step_of_command}
use Rattle.ceal_session.specs.declared.refusal.Refusal.TheVariants.{C2, C3, C4, C7}
use Rattle.ceal_session.specs.declared.reply.Reply.TheVariants.{Ok}

abbrev cell : ℕ → Block
cell n = record { shape = ModInt; words = Num (pos n) ∷ [] }

abbrev place : List ℕ → PlaceWord
place name = record { name = name; field = None }

abbrev empty : State
empty = state_at_start (record { structs = []; functions = [] }) 10

-- after `mod a int 4`
abbrev with_four : State
with_four = record empty { names = codes "a" ∷ []; inputs = cell 4 ∷ []; settled = cell 4 ∷ [] }

-- after `set a 9`
abbrev with_nine : State
with_nine = record with_four { inputs = cell 9 ∷ []; pending = true }

makes : step_of_command empty false (Mod (codes "a") Int (NumWord (pos 4))) ≡ stays with_four Ok
unfolding words_of
makes = refl

name_taken : step_of_command with_four false (Mod (codes "a") Int (NumWord (pos 5))) ≡ refuses with_four C3
unfolding words_of
name_taken = refl

sets : step_of_command with_four false (Set (place (codes "a")) (NumWord (pos 9))) ≡ stays with_nine Ok
sets = refl

no_such_name : step_of_command with_four false (Set (place (codes "b")) (NumWord (pos 9))) ≡ refuses with_four C2
no_such_name = refl

wrong_kind : step_of_command with_four false (Set (place (codes "a")) NullWord) ≡ refuses with_four C4
wrong_kind = refl

no_run : step_of_command with_nine false Propagate ≡ refuses with_nine C7
no_run = refl

nothing_told : step_of_command with_nine false (Get (place (codes "a"))) ≡ refuses with_nine C7
nothing_told = refl
