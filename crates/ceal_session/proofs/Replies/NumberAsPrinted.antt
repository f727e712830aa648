-- The number that a session tells is the one that `get` prints, and it is refused as `get` would be.
use Rattle.std.proofs.Common.{◌≡◌, ◌⊎◌, inl, inr, ℤ, Bool, ◌++◌, Option, Some, None, Result, Ok, Err, IfOk, List, ℕ, refl, sym, ap, subst, arith}
use Rattle.std.specs.Fmt.{signed_decimal}
use Rattle.std.specs.Prelude.{codes}
use Rattle.ceal_base.specs.Finished.{Finished}
use Rattle.ceal_base.specs.declared.word.Place.{Place}
use Rattle.ceal_base.specs.declared.word.Word.{Word}
use Rattle.ceal_base.specs.declared.word.Word.TheVariants.{Num, Null, Block as BlockWord, At}
use Rattle.ceal_script.specs.Lines.{IsLineOf}
use Rattle.ceal_script.specs.declared.command.Command.{Command}
use Rattle.ceal_script.specs.declared.command.Command.TheVariants.{Blank, Mod, New, Set, Run, Propagate, Slice, Get, Show, Blocks, Steps, Work, Bound}
use Rattle.ceal_session.proofs.Replies.QuestionsAnswered.{cell-sense}
use Rattle.ceal_session.specs.Questions.{IsCellSense}
use Rattle.ceal_session.specs.Replies.{Reads, Answers}
use Rattle.ceal_session.specs.Runs.{present_run}
use Rattle.ceal_session.specs.Senses.{place_sense}
use Rattle.ceal_session.specs.State.{State, Numbers}
use Rattle.ceal_session.specs.Steps.{reply_to_get}
use Rattle.ceal_session.specs.Texts.{value_text, TellsOf, IsText}
use Rattle.ceal_session.specs.Values.{Gives, handle_of_sense, handle_of_command, sense_of_handle, number_of_word, number_after}
use Rattle.ceal_session.specs.Values.{number_of_reply, number_of_sense, number_of_command}
use Rattle.ceal_session.specs.declared.handle.Handle.{Handle}
use Rattle.ceal_session.specs.declared.refusal.Refusal.{Refusal}
use Rattle.ceal_session.specs.declared.reply.Query.TheVariants.{Get as GetOf, Show as ShowOf, Blocks as BlocksOf, Steps as StepsOf, Work as WorkOf, Bound as BoundOf}
use Rattle.ceal_session.specs.declared.reply.Reply.{Reply}
use Rattle.ceal_session.specs.declared.reply.Reply.TheVariants as reply
use Rattle.ceal_session.specs.declared.reply.Reply.TheVariants.{Refused, Told}
use Rattle.ceal_session.specs.declared.sense.Sense.{Sense}
use Rattle.ceal_session.specs.declared.sense.Sense.TheVariants.{Unknown, Plain, Word as IsWord}
use Rattle.ceal_session.specs.declared.value_error.ValueError.{ValueError}
use Rattle.ceal_session.specs.declared.value_error.ValueError.TheVariants.{Memory as NoMemory, Refused as IsRefused}

module _ (s : State) where
  -- by the text of a word
  word-text : (w : Word) (n : ℤ) → number_of_word w ≡ Ok n → signed_decimal n ++ codes "\n" ≡ value_text s w ++ codes "\n"
  word-text (Num k) n h = let e : n ≡ k = grind (arith, h) in ap (λ (i : ℤ). signed_decimal i ++ codes "\n") e
  word-text Null n h = absurd (grind (arith, h))
  word-text (BlockWord b) n h = absurd (grind (arith, h))
  word-text (At p) n h = absurd (grind (arith, h))

  run-text : (numbers : Numbers) (p : Place) (o : Option Finished) (n : ℤ) → number_after p o ≡ Ok n → TellsOf s numbers (GetOf p) o (signed_decimal n ++ codes "\n")
  run-text numbers p None n h = absurd (grind (arith, h))
  run-text numbers p (Some f) n h = word-text _ n h

  reply-text : (numbers : Numbers) (r : Reply) (n : ℤ) → number_of_reply s r ≡ Ok n → IsText s numbers r (signed_decimal n ++ codes "\n")
  reply-text numbers reply.Nothing n h = absurd (grind (arith, h))
  reply-text numbers reply.Ok n h = absurd (grind (arith, h))
  reply-text numbers reply.OutOfFuel n h = absurd (grind (arith, h))
  reply-text numbers reply.More n h = absurd (grind (arith, h))
  reply-text numbers reply.Done n h = absurd (grind (arith, h))
  reply-text numbers (Refused r) n h = absurd (grind (arith, h))
  reply-text numbers (Told (GetOf p)) n h = run-text numbers p (present_run s) n h
  reply-text numbers (Told (ShowOf k)) n h = absurd (grind (arith, h))
  reply-text numbers (Told BlocksOf) n h = absurd (grind (arith, h))
  reply-text numbers (Told StepsOf) n h = absurd (grind (arith, h))
  reply-text numbers (Told WorkOf) n h = absurd (grind (arith, h))
  reply-text numbers (Told BoundOf) n h = absurd (grind (arith, h))

  -- the line is answered by the number
  printed : (numbers : Numbers) (more : Bool) (line : List ℕ) (o : Option Command) → Reads line o → (n : ℤ) → number_of_command s o ≡ Ok n
      → Answers s numbers more line (signed_decimal n ++ codes "\n") s
  printed numbers more line None r n h = absurd (grind (arith, h))
  printed numbers more line (Some (Get place)) r n h = record { command = Some (Get place); reads = r; reply = reply-text numbers (reply_to_get s (place_sense s place)) n h; state = refl }
  printed numbers more line (Some Blank) r n h = absurd (grind (arith, h))
  printed numbers more line (Some (Mod name kind value)) r n h = absurd (grind (arith, h))
  printed numbers more line (Some (New name shape values)) r n h = absurd (grind (arith, h))
  printed numbers more line (Some (Set place value)) r n h = absurd (grind (arith, h))
  printed numbers more line (Some (Run function args)) r n h = absurd (grind (arith, h))
  printed numbers more line (Some Propagate) r n h = absurd (grind (arith, h))
  printed numbers more line (Some (Slice reads)) r n h = absurd (grind (arith, h))
  printed numbers more line (Some (Show name)) r n h = absurd (grind (arith, h))
  printed numbers more line (Some Blocks) r n h = absurd (grind (arith, h))
  printed numbers more line (Some Steps) r n h = absurd (grind (arith, h))
  printed numbers more line (Some Work) r n h = absurd (grind (arith, h))
  printed numbers more line (Some Bound) r n h = absurd (grind (arith, h))

  pub printed-by : (numbers : Numbers) (line : List ℕ) → ((c : Command) × IsLineOf c line) ⊎ ((c : Command) → IsLineOf c line → ⊥) → (r : Result ℤ ValueError)
      → ((o : Option Command) → Reads line o → Gives r (number_of_command s o)) → IfOk r (λ n. (more : Bool) → Answers s numbers more line (signed_decimal n ++ codes "\n") s)
  printed-by numbers line e (Err x) g = tt
  printed-by numbers line (inl c) (Ok n) g = λ more. printed numbers more line (Some c.0) c.1 n (g (Some c.0) c.1)
  printed-by numbers line (inr none) (Ok n) g = λ more. printed numbers more line None none n (g None none)

  -- a handle stands for what its name stands for
  cell-handle : (p : Place) (h : Handle) → IsCellSense s (IsWord (At p)) → record { place = p } ≡ h → sense_of_handle s h ≡ IsWord (At p)
  cell-handle p h cell e = rw (← e, cell) refl

  handle-sense : (sense : Sense) (h : Handle) → IsCellSense s sense → handle_of_sense sense ≡ Ok h → sense_of_handle s h ≡ sense
  handle-sense (IsWord (At p)) h cell e = cell-handle p h cell (grind (arith, e))
  handle-sense (IsWord (Num n)) h cell e = absurd (grind (arith, e))
  handle-sense (IsWord Null) h cell e = absurd (grind (arith, e))
  handle-sense (IsWord (BlockWord b)) h cell e = absurd (grind (arith, e))
  handle-sense Unknown h cell e = absurd (grind (arith, e))
  handle-sense Plain h cell e = absurd (grind (arith, e))

  refused-sense : (sense : Sense) (r : Refusal) → handle_of_sense sense ≡ Err r → number_of_sense s sense ≡ Err r
  refused-sense (IsWord (At p)) r e = absurd (grind (arith, e))
  refused-sense (IsWord (Num n)) r e = grind (arith, e)
  refused-sense (IsWord Null) r e = grind (arith, e)
  refused-sense (IsWord (BlockWord b)) r e = grind (arith, e)
  refused-sense Unknown r e = grind (arith, e)
  refused-sense Plain r e = grind (arith, e)

  pub number-by-handle : (o : Option Command) (h : Handle) → handle_of_command s o ≡ Ok h → number_of_command s o ≡ number_of_sense s (sense_of_handle s h)
  number-by-handle None h e = absurd (grind (arith, e))
  number-by-handle (Some (Get place)) h e = ap (number_of_sense s) (sym (handle-sense (place_sense s place) h (cell-sense s place) e))
  number-by-handle (Some Blank) h e = absurd (grind (arith, e))
  number-by-handle (Some (Mod name kind value)) h e = absurd (grind (arith, e))
  number-by-handle (Some (New name shape values)) h e = absurd (grind (arith, e))
  number-by-handle (Some (Set place value)) h e = absurd (grind (arith, e))
  number-by-handle (Some (Run function args)) h e = absurd (grind (arith, e))
  number-by-handle (Some Propagate) h e = absurd (grind (arith, e))
  number-by-handle (Some (Slice reads)) h e = absurd (grind (arith, e))
  number-by-handle (Some (Show name)) h e = absurd (grind (arith, e))
  number-by-handle (Some Blocks) h e = absurd (grind (arith, e))
  number-by-handle (Some Steps) h e = absurd (grind (arith, e))
  number-by-handle (Some Work) h e = absurd (grind (arith, e))
  number-by-handle (Some Bound) h e = absurd (grind (arith, e))

  refused-command : (o : Option Command) (r : Refusal) → handle_of_command s o ≡ Err r → number_of_command s o ≡ Err r
  refused-command None r e = grind (arith, e)
  refused-command (Some (Get place)) r e = refused-sense (place_sense s place) r e
  refused-command (Some Blank) r e = grind (arith, e)
  refused-command (Some (Mod name kind value)) r e = grind (arith, e)
  refused-command (Some (New name shape values)) r e = grind (arith, e)
  refused-command (Some (Set place value)) r e = grind (arith, e)
  refused-command (Some (Run function args)) r e = grind (arith, e)
  refused-command (Some Propagate) r e = grind (arith, e)
  refused-command (Some (Slice reads)) r e = grind (arith, e)
  refused-command (Some (Show name)) r e = grind (arith, e)
  refused-command (Some Blocks) r e = grind (arith, e)
  refused-command (Some Steps) r e = grind (arith, e)
  refused-command (Some Work) r e = grind (arith, e)
  refused-command (Some Bound) r e = grind (arith, e)

  -- an error in the search for the handle is that of the number
  pub error-by-handle : (o : Option Command) (e : ValueError) (h : Result Handle ValueError) (n : Result ℤ ValueError) → h ≡ Err e → n ≡ Err e
      → Gives h (handle_of_command s o) → Gives n (number_of_command s o)
  error-by-handle o (IsRefused r) h n i j g = rw j (refused-command o r (subst (λ (x : Result Handle ValueError). Gives x (handle_of_command s o)) i g))
  error-by-handle o NoMemory h n i j g = rw j tt
