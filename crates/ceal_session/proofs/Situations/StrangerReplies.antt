-- Two situations that differ only in the work and the bound, until a run is completed.
use Rattle.std.proofs.Common.{◌≡◌, ◌⊎◌, inl, inr, ℕ, ◌≤◌, Bool, true, false, if◌then◌else◌, Option, Some, None, Result, Ok, Err, List, [], ◌∷◌, map, is_none, refl, sym, ap, ap₂, ◌∙◌, subst, arith}
use Rattle.std.specs.List.{list_any}
use Rattle.std.specs.Prelude.{IfSome, bytes_eq}
use Rattle.ceal_base.specs.Block.{Block}
use Rattle.ceal_base.specs.Finished.{Finished}
use Rattle.ceal_base.specs.Fitting.{kind_at, block_fits, inputs_fit}
use Rattle.ceal_base.specs.Trace.{Trace, blocks_of, steps_in, steps_of}
use Rattle.ceal_base.specs.declared.call.Call.{Call}
use Rattle.ceal_base.specs.declared.kind.Shape.{Shape}
use Rattle.ceal_base.specs.declared.word.Word.{Word}
use Rattle.ceal_base.specs.declared.word.Word.TheVariants.{Num, Null, Block as BlockWord, At as AtPlace}
use Rattle.ceal_code.proofs.Alike.BlockPairs.{zip-one}
use Rattle.ceal_code.proofs.Words.SameIsEqual.{none-some, some-same}
use Rattle.ceal_code.specs.Alike.{Pairs, OneToOne, TraceAlike, zipped}
use Rattle.ceal_code.specs.Fitting.{Fits}
use Rattle.ceal_code.specs.Fresh.{fresh}
use Rattle.ceal_code.specs.Program.{Code}
use Rattle.ceal_code.specs.Replay.{Replays, IsHonest, core_numbers}
use Rattle.ceal_cost.proofs.Firsts.{first-of}
use Rattle.ceal_script.specs.declared.command.Command.{Command}
use Rattle.ceal_script.specs.declared.command.Command.TheVariants.{Blank, Mod, New, Set, Run, Propagate, Slice, Get}
use Rattle.ceal_script.specs.declared.command.Command.TheVariants.{Show, Blocks as BlocksCommand, Steps as StepsCommand}
use Rattle.ceal_script.specs.declared.command.Command.TheVariants.{Work as WorkCommand, Bound as BoundCommand}
use Rattle.ceal_session.proofs.Situations.AlikeReplies.{CallLaw}
use Rattle.ceal_session.proofs.Situations.SituationFollowsSession.{CallFacts, DoneAs, NextAs, begin-traces, past-as, slice-as}
use Rattle.ceal_session.proofs.Replies.LineKeepsSituation.{FactsLaw}
use Rattle.ceal_session.proofs.Replies.ReplyUpToNumbers.{more-past, same-goes, same-work}
use Rattle.ceal_session.proofs.Saves.SaveThatHolds.{held}
use Rattle.ceal_session.proofs.Saves.ResumedReplies.{same-trace}
use Rattle.ceal_session.specs.Laws.{OneAnswerLaw, OneCommandLaw}
use Rattle.ceal_session.specs.Replies.{Reads, Replies, situation_after}
use Rattle.ceal_session.specs.Runs.{memory_of, run_of}
use Rattle.ceal_session.specs.SaveLaws.{AlikeLaw}
use Rattle.ceal_session.specs.SessionSave.{saved_state, situation_of_save}
use Rattle.ceal_session.specs.Senses.{is_unknown, words_of, mod_shape, struct_shape, struct_named, function_named, place_sense, value_sense, input_named}
use Rattle.ceal_session.specs.Consistency.{IsSamePast, IsIn, IsConsistent}
use Rattle.ceal_session.specs.State.{State, Situation, Numbers, trace_in_past, latest_work, numbers_in}
use Rattle.ceal_session.specs.Steps.{Step, stays, refuses, block_of, step_of_words, step_of_shape, with_base, with_input}
use Rattle.ceal_session.specs.Steps.{fits_cell, step_of_word, step_of_set, call_of_run, call_again, run_reply, runs}
use Rattle.ceal_session.specs.Steps.{has_no_run, reply_to_query, reply_to_get, reply_to_show, step_of_command}
use Rattle.ceal_session.specs.Steps.{step_of_line}
use Rattle.ceal_session.specs.Strangers.{AsksNumbers, LineAlike, AreOne, AreAlike, StrangerLaw}
use Rattle.ceal_session.specs.Texts.{IsText}
use Rattle.ceal_session.specs.Works.{call_in, reads_in, past_in, bound_in, past_left, bound_left, bound_by, first_trace}
use Rattle.ceal_session.specs.declared.refusal.Refusal.{Refusal}
use Rattle.ceal_session.specs.declared.refusal.Refusal.TheVariants.{C2, C3, C4, C7, C8}
use Rattle.ceal_session.specs.declared.reply.Query.{Query}
use Rattle.ceal_session.specs.declared.reply.Query.TheVariants.{Get as GetOf, Show as ShowOf, Blocks as BlocksOf, Steps as StepsOf, Work as WorkOf, Bound as BoundOf}
use Rattle.ceal_session.specs.declared.reply.Reply.{Reply}
use Rattle.ceal_session.specs.declared.reply.Reply.TheVariants as reply
use Rattle.ceal_session.specs.declared.reply.Reply.TheVariants.{Refused, Told}
use Rattle.ceal_session.specs.declared.sense.Sense.{Sense}
use Rattle.ceal_session.specs.declared.sense.Sense.TheVariants.{Unknown, Plain, Word as IsWord}
use Rattle.ceal_snap.specs.SaveText.{Save}
use Rattle.ceal_theory.proofs.Repair.EndAsFromScratch.{first-law}
use Rattle.ceal_theory.proofs.Repair.RepairLaws.{unique-law}
use Rattle.ceal_theory.specs.Adjust.{Extended}
use Rattle.ceal_theory.specs.Carried.{Carried}
use Rattle.ceal_theory.specs.Computed.{Repaired, first_of}
use Rattle.ceal_theory.specs.Laws.{FirstOutcome, RenamedRepair}
use Rattle.ceal_theory.specs.Pasts.{Past, NoTrace, Traced, Going, SamePast, IsPastOf, first_past, goes, left_by, next_repair}
use Rattle.ceal_theory.specs.Repair.{own}
use Rattle.ceal_theory.specs.Slices.{Repair, RepairHolds, is_done}

-- a reply that tells neither a work nor a bound
abbrev TellsOther : Reply → Type 0
TellsOther (Told WorkOf) = ⊥
TellsOther (Told BoundOf) = ⊥
TellsOther _ = Unit {0}

if-both : {A : Type 0} (P : A → Type 0) (t : Bool) (x y : A) → P x → P y → P (if t then x else y)
if-both P true x y h k = h
if-both P false x y h k = k

module _ (s : State) where
  abbrev Other : Step → Type 0
  Other step = TellsOther step.reply

  asks-other : (q : Query) → TellsOther (Told q) → TellsOther (reply_to_query s q)
  asks-other q h = if-both TellsOther (has_no_run s) (Refused C7) (if s.pending then Refused C8 else Told q) tt (if-both TellsOther s.pending (Refused C8) (Told q) tt h)

  made-with-other : (name : List ℕ) (shape : Shape) (o : Option (List Word)) → Other (step_of_words s name shape o)
  made-with-other name shape None = tt
  made-with-other name shape (Some words) =
      let block = block_of shape words in
      if-both Other (block_fits s.program.structs (memory_of s) block) (stays (with_input s name block) reply.Ok) (refuses s C4) tt tt

  made-other : (name : List ℕ) (o : Option Shape) (senses : List Sense) → Other (step_of_shape s name o senses)
  made-other name None senses = tt
  made-other name (Some shape) senses =
      let step = step_of_words s name shape (words_of senses) in
      let back = if list_any (bytes_eq name) s.names then refuses s C3 else step in
      if-both Other (list_any is_unknown senses) (refuses s C2) back tt (if-both Other (list_any (bytes_eq name) s.names) (refuses s C3) step tt (made-with-other name shape (words_of senses)))

  word-other : (place value : Sense) → Other (step_of_word s place value)
  word-other (IsWord (AtPlace p)) (IsWord word) =
      if-both Other (fits_cell s (kind_at s.program.structs (memory_of s) p) word) (stays (with_base s p word) reply.Ok) (refuses s C4) tt tt
  word-other (IsWord (AtPlace p)) Unknown = tt
  word-other (IsWord (AtPlace p)) Plain = tt
  word-other (IsWord (Num n)) value = tt
  word-other (IsWord Null) value = tt
  word-other (IsWord (BlockWord b)) value = tt
  word-other Unknown value = tt
  word-other Plain value = tt

  set-other : (place value : Sense) → Other (step_of_set s place value)
  set-other place value = if-both Other _ (refuses s C2) (step_of_word s place value) tt (word-other place value)

  run-other : (reads : Option ℕ) (more out : Bool) → TellsOther (run_reply reads more out)
  run-other None more true = tt
  run-other None more false = tt
  run-other (Some n) true out = tt
  run-other (Some n) false true = tt
  run-other (Some n) false false = tt

  runs-other : (reads : Option ℕ) (more : Bool) (r : Result Call Refusal) → Other (runs s reads more r)
  runs-other reads more (Err r) = tt
  runs-other reads more (Ok call) = run-other reads more (is_none (run_of s call))

  got-other : (sense : Sense) → TellsOther (reply_to_get s sense)
  got-other (IsWord (AtPlace p)) = asks-other (GetOf p) tt
  got-other (IsWord (Num n)) = tt
  got-other (IsWord Null) = tt
  got-other (IsWord (BlockWord b)) = tt
  got-other Unknown = tt
  got-other Plain = tt

  shown-other : (o : Option ℕ) → TellsOther (reply_to_show s o)
  shown-other None = tt
  shown-other (Some n) = asks-other (ShowOf n) tt

  -- a line that asks for no numbers
  other-of : (more : Bool) (command : Command) → (AsksNumbers (Some command) → ⊥) → Other (step_of_command s more command)
  other-of more Blank h = tt
  other-of more (Mod name kind value) h = made-other name (mod_shape s kind) (value_sense s value ∷ [])
  other-of more (New name shape values) h = made-other name (struct_shape (struct_named s shape)) (map (value_sense s) values)
  other-of more (Set place value) h = set-other (place_sense s place) (value_sense s value)
  other-of more (Run function args) h = runs-other None more (call_of_run s (function_named s function) (map (value_sense s) args))
  other-of more Propagate h = runs-other None more (call_again s.call)
  other-of more (Slice reads) h = runs-other (Some reads) more (call_again s.call)
  other-of more (Get place) h = got-other (place_sense s place)
  other-of more (Show name) h = shown-other (input_named s name)
  other-of more BlocksCommand h = asks-other BlocksOf tt
  other-of more StepsCommand h = asks-other StepsOf tt
  other-of more WorkCommand h = absurd (h tt)
  other-of more BoundCommand h = absurd (h tt)

  other-line : (more : Bool) (command : Option Command) → (AsksNumbers command → ⊥) → Other (step_of_line s more command)
  other-line more None h = tt
  other-line more (Some command) h = other-of more command h

  -- its text says nothing of the numbers
  text-any : (v w : Numbers) (r : Reply) → TellsOther r → (text : List ℕ) → IsText s v r text → IsText s w r text
  text-any v w reply.Nothing h text k = k
  text-any v w reply.Ok h text k = k
  text-any v w reply.OutOfFuel h text k = k
  text-any v w reply.More h text k = k
  text-any v w reply.Done h text k = k
  text-any v w (Refused r) h text k = k
  text-any v w (Told WorkOf) h text k = absurd h
  text-any v w (Told BoundOf) h text k = absurd h
  text-any v w (Told (GetOf p)) h text k = k
  text-any v w (Told (ShowOf n)) h text k = k
  text-any v w (Told BlocksOf) h text k = k
  text-any v w (Told StepsOf) h text k = k

-- the same past, whatever the work of a trace is
pub data Beside (code : Code) (inputs : List Block) (f : ℕ) (args : List Word) : Past → Past → Type 0 where
  none : Beside code inputs f args NoTrace NoTrace
  traced : {a b : Repaired} (ps : Pairs) → OneToOne ps → TraceAlike ps a.items b.items → Beside code inputs f args (Traced a) (Traced b)
  going : {r q : Repair} → RepairHolds code own inputs f args r → Carried code inputs 0 r q → Beside code inputs f args (Going r) (Going q)

module _ {code : Code} {inputs : List Block} {f : ℕ} {args : List Word} where
  beside-goes : {p q : Past} → Beside code inputs f args p q → goes p ≡ goes q
  beside-goes Beside.none = refl
  beside-goes (Beside.traced ps one alike) = refl
  beside-goes (Beside.going s c) = refl

  with-work : (a b : Repaired) → RenamedRepair (Some a) (Some b) → Beside code inputs f args (Traced a) (Traced b)
  with-work a b (RenamedRepair.some ps one alike work) = Beside.traced ps one alike

  beside-same : {p q : Past} → SamePast code inputs f args p q → Beside code inputs f args p q
  beside-same SamePast.none = Beside.none
  beside-same (SamePast.traced {a = a} {b = b} r) = with-work a b r
  beside-same (SamePast.going s c) = Beside.going s c

  same-beside : {p q : Past} → Beside code inputs f args p q → latest_work (trace_in_past p) ≡ latest_work (trace_in_past q) → SamePast code inputs f args p q
  same-beside Beside.none e = SamePast.none
  same-beside (Beside.traced ps one alike) e = SamePast.traced (RenamedRepair.some ps one alike e)
  same-beside (Beside.going s c) e = SamePast.going s c

module _ (code : Code) (inputs : List Block) (f : ℕ) (args : List Word) (fits : Fits code inputs f args) (fuel : ℕ) where
  next-beside : {p q : Past} → Beside code inputs f args p q → IsPastOf code inputs f args p → IsPastOf code inputs f args q
      → NextAs code inputs f args fits (next_repair code inputs p) (next_repair code inputs q)
  next-beside Beside.none h i = NextAs.none
  next-beside (Beside.traced {a = a} {b = b} ps one alike) h i = begin-traces code inputs f args fits fuel a b ps one alike h i
  next-beside (Beside.going s c) h i = NextAs.some s i c

abbrev pub BesideIn : Code → List Block → Option Call → Past → Past → Type 0
BesideIn code inputs None p q = (p ≡ NoTrace) × (q ≡ NoTrace)
BesideIn code inputs (Some call) p q = Beside code inputs call.function call.args p q

in-goes : (code : Code) (inputs : List Block) (o : Option Call) (p q : Past) → BesideIn code inputs o p q → goes p ≡ goes q
in-goes code inputs None p q h = ap goes h.0 ∙ sym (ap goes h.1)
in-goes code inputs (Some call) p q h = beside-goes h

in-same : (code : Code) (inputs : List Block) (o : Option Call) (p q : Past) → BesideIn code inputs o p q → latest_work (trace_in_past p) ≡ latest_work (trace_in_past q) → IsSamePast code inputs o p q
in-same code inputs None p q h e = h
in-same code inputs (Some call) p q h e = same-beside h e

in-more : (code : Code) (old new : List Block) (o : Option Call) → IfSome o (λ call. Fits code old call.function call.args) → inputs_fit code.structs new ≡ true → Extended code old new
    → (p q : Past) → BesideIn code old o p q → BesideIn code new o p q
in-more code old new None fits fit ext p q h = h
in-more code old new (Some call) fits fit ext p q h = go h
  where
    go : {p q : Past} → Beside code old call.function call.args p q → Beside code new call.function call.args p q
    go Beside.none = Beside.none
    go (Beside.traced ps one alike) = Beside.traced ps one alike
    go (Beside.going s c) = beside-same (more-past code old new call.function call.args fits fit ext (SamePast.going s c))

abbrev pub at : Code → State → Past → ℕ → Situation
at code s p bound = record { state = s; code = code; past = p; bound = bound }

-- both are situations that a session comes to
pub record Near (code : Code) (s : State) (p q : Past) (b d : ℕ) : Type 0 where
  pub left : IsConsistent (at code s p b)
  pub right : IsConsistent (at code s q d)
  pub past : BesideIn code s.inputs s.call p q

module _ (facts : FactsLaw) (calls : CallLaw) (command_law : OneCommandLaw) (answer : OneAnswerLaw) (alike : AlikeLaw) where
  module _ (code : Code) (s : State) (p q : Past) (b d : ℕ) (near : Near code s p q b d) where
    abbrev m : Situation
    m = at code s p b

    abbrev n : Situation
    n = at code s q d

    -- from the same numbers on
    are-one : AreOne m n
    are-one e lines out end leads =
        let is_in : IsIn n m = record {
          state = refl;
          code = refl;
          bound = sym (ap (λ (x : Numbers). x.bound) e);
          sound = near.left;
          past = in-same code s.inputs s.call p q near.past (ap (λ (x : Numbers). x.work) e);
        } in
        let r = alike n m end lines out near.right is_in leads in (r.0, r.1)

    module _ (line : List ℕ) (command : Option Command) (reads : Reads line command) where
      abbrev past : Past
      past = past_in m command

      abbrev other : Past
      other = past_in n command

      -- what a line that runs leaves of both
      module _ (call : Call) (e : call_in s command ≡ Ok call) where
        there : CallFacts m call
        there = calls m command near.left call e

        here : CallFacts n call
        here = calls n command near.right call e

        beside : Beside code s.inputs call.function call.args p q
        beside = go (facts m line command reads near.left).before
          where
            go : ((c : Call) → call_in s command ≡ Ok c → (s.call ≡ Some c) ⊎ ((s.call ≡ None) × (p ≡ NoTrace))) → Beside code s.inputs call.function call.args p q
            go f = elim (f call e) [
              | inl i ↦ subst (λ o. BesideIn code s.inputs o p q) i near.past
              | inr (i, k) ↦
                  let none = subst (λ o. BesideIn code s.inputs o p q) i near.past in
                  subst (λ (x : Past). Beside code s.inputs call.function call.args x q) (sym none.0)
                  (subst (λ (x : Past). Beside code s.inputs call.function call.args NoTrace x) (sym none.1) Beside.none)
            ]

        next : NextAs code s.inputs call.function call.args there.fits (next_repair code s.inputs p) (next_repair code s.inputs q)
        next = next-beside code s.inputs call.function call.args there.fits s.fuel beside there.past here.past

        ran : SamePast code s.inputs call.function call.args (past_left code s (Ok call) (reads_in command) p) (past_left code s (Ok call) (reads_in command) q)
        ran = past-as code s.inputs call.function call.args there.fits s.fuel (reads_in command) p q next

        past-is : past ≡ past_left code s (Ok call) (reads_in command) p
        past-is = ap (λ c. past_left code s c (reads_in command) p) e

        other-is : other ≡ past_left code s (Ok call) (reads_in command) q
        other-is = ap (λ c. past_left code s c (reads_in command) q) e

        -- the bound of a completed run
        by-done : {o r : Option Repair} → DoneAs code s.inputs call.function call.args there.fits s.fuel (reads_in command) o r → goes (left_by code s.inputs (first_trace code s call) o) ≡ false
            → bound_by code s call (first_trace code s call) o b ≡ bound_by code s call (first_trace code s call) r d
        by-done DoneAs.none h = refl
        by-done (DoneAs.some {x = x} {y = y} sound c k) h = go (is_done code s.inputs x) refl (first_trace code s call) h
          where
            go : (t : Bool) → is_done code s.inputs x ≡ t → (first : Option Repaired) → goes (left_by code s.inputs first (Some x)) ≡ false
                → bound_by code s call first (Some x) b ≡ bound_by code s call first (Some y) d
            go true i None h = rw (i, sym k ∙ i) refl
            go true i (Some a) h = rw (i, sym k ∙ i) refl
            go false i first h = absurd (let z : goes (left_by code s.inputs first (Some x)) ≡ true = rw i refl in grind (arith, z, h))

        bounds : goes past ≡ false → bound_in m command ≡ bound_in n command
        bounds h =
            ap (λ c. bound_left code s c (reads_in command) p b) e
            ∙ (by-done (slice-as code s.inputs call.function call.args there.fits s.fuel (reads_in command) next) (ap goes (sym past-is) ∙ h)
            ∙ sym (ap (λ c. bound_left code s c (reads_in command) q d) e))

        works : latest_work (trace_in_past past) ≡ latest_work (trace_in_past other)
        works = ap (λ x. latest_work (trace_in_past x)) past-is ∙ (same-work ran ∙ sym (ap (λ x. latest_work (trace_in_past x)) other-is))

        goes-run : goes past ≡ goes other
        goes-run = ap goes past-is ∙ (same-goes ran ∙ sym (ap goes other-is))

      -- what the line leaves of both
      abbrev state : State
      state = (step_of_line s (goes past) command).state

      BesideLeft : Type 0
      BesideLeft = (goes past ≡ goes other) × BesideIn code state.inputs state.call past other

      left-beside : (r : Result Call Refusal) → call_in s command ≡ r → BesideLeft
      unfolding BesideLeft
      left-beside (Err r) e =
          let f = facts m line command reads near.left in
          let pi : past ≡ p = ap (λ c. past_left code s c (reads_in command) p) e in
          let qi : other ≡ q = ap (λ c. past_left code s c (reads_in command) q) e in
          let k = subst (λ o. BesideIn code state.inputs o p q) (sym (f.same_call r e)) (in-more code s.inputs state.inputs s.call f.fits f.fit f.extended p q near.past) in (
            ap goes pi ∙ (in-goes code s.inputs s.call p q near.past ∙ sym (ap goes qi)),
            subst (λ (x : Past). BesideIn code state.inputs state.call x other) (sym pi) (subst (λ (x : Past). BesideIn code state.inputs state.call p x) (sym qi) k),
          )
      left-beside (Ok call) e =
          let f = facts m line command reads near.left in
          let k = beside-same (ran call e) in (
            goes-run call e,
            subst (λ o. BesideIn code state.inputs o past other) (sym (f.called call e))
                (subst (λ i. Beside code i call.function call.args past other) (sym (f.inputs call e))
                (subst (λ (x : Past). Beside code s.inputs call.function call.args x other) (sym (past-is call e))
                (subst (λ (x : Past). Beside code s.inputs call.function call.args (past_left code s (Ok call) (reads_in command) p) x) (sym (other-is call e)) k))),
          )

      state-is : (step_of_line s (goes other) command).state ≡ state
      unfolding BesideLeft
      state-is = ap (λ g. (step_of_line s g command).state) (sym (left-beside (call_in s command) refl).0)

      near-left : Near code state past other (bound_in m command) (bound_in n command)
      unfolding BesideLeft
      near-left = record {
        left = (facts m line command reads near.left).stands;
        right = subst (λ t. IsConsistent (at code t other (bound_in n command))) state-is (facts n line command reads near.right).stands;
        past = (left-beside (call_in s command) refl).1;
      }

      behind-is : situation_after n command ≡ at code state other (bound_in n command)
      behind-is = ap (λ t. at code t other (bound_in n command)) state-is

      -- the replies to the line
      replies : (AsksNumbers command → ⊥) → (text told : List ℕ) → IsText s (numbers_in m) (step_of_line s (goes past) command).reply text
          → IsText s (numbers_in n) (step_of_line s (goes other) command).reply told → text ≡ told
      unfolding BesideLeft
      replies h text told x y =
          let y' : IsText s (numbers_in n) (step_of_line s (goes past) command).reply told =
          subst (λ g. IsText s (numbers_in n) (step_of_line s g command).reply told) (sym (left-beside (call_in s command) refl).0) y in
          let x' = text-any s (numbers_in m) (numbers_in n) (step_of_line s (goes past) command).reply (other-line s (goes past) command h) text x in
          answer s (numbers_in n) (goes past) line text told state state
          (record { command = command; reads = reads; reply = x'; state = refl }) (record { command = command; reads = reads; reply = y'; state = refl })

      numbers : (call : Call) → call_in s command ≡ Ok call → goes past ≡ false → numbers_in (situation_after m command) ≡ numbers_in (situation_after n command)
      numbers call e h = ap₂ (λ w k. record { work = w; bound = k }) (works call e) (bounds call e h)

  -- so it is with lines one after another
  pub are-alike : (code : Code) (s : State) (p q : Past) (b d : ℕ) → Near code s p q b d → (lines : List (List ℕ)) → AreAlike (at code s p b) (at code s q d) lines
  unfolding AreAlike
  are-alike code s p q b d near [] = are-one code s p q b d near
  are-alike code s p q b d near (line ∷ lines) = (are-one code s p q b d near, step (λ t x y u v k. are-alike code t x y u v k lines))
    where
      step : ((t : State) (x y : Past) (u v : ℕ) → Near code t x y u v → AreAlike (at code t x u) (at code t y v) lines) → (text told : List ℕ) (o t : Situation)
          → Replies (at code s p b) line text o → Replies (at code s q d) line told t
          → LineAlike (at code s p b) (at code s q d) line text told o t × AreAlike o t lines
      step later text told o t r k =
          let same : k.command ≡ r.command = command_law line k.command r.command k.reads r.reads in
          let reply : IsText s (numbers_in (at code s q d)) (step_of_line s (goes (past_in (at code s q d) r.command)) r.command).reply told =
          subst (λ c. IsText s (numbers_in (at code s q d)) (step_of_line s (goes (past_in (at code s q d) c)) c).reply told) same k.reply in
          let t-is : t ≡ situation_after (at code s q d) r.command = k.next ∙ ap (situation_after (at code s q d)) same in
          let more = later (step_of_line s (goes (past_in (at code s p b) r.command)) r.command).state (past_in (at code s p b) r.command) (past_in (at code s q d) r.command)
          (bound_in (at code s p b) r.command) (bound_in (at code s q d) r.command) (near-left code s p q b d near line r.command r.reads) in (
            record {
              reply = λ h. replies code s p q b d near line r.command r.reads (h r.command r.reads) text told r.reply reply;
              numbers = λ c. (
                  let one : c.command ≡ r.command = command_law line c.command r.command c.reads r.reads in
                  let runs : call_in s r.command ≡ Ok c.call = subst (λ x. call_in s x ≡ Ok c.call) one c.runs in
                  let ends : goes (past_in (at code s p b) r.command) ≡ false = subst (λ (x : Situation). goes x.past ≡ false) r.next c.ends in
                  ap numbers_in r.next ∙ (numbers code s p q b d near line r.command r.reads c.call runs ends ∙ sym (ap numbers_in t-is))
                  );
            },
            subst (λ (x : Situation). AreAlike x t lines) (sym r.next)
                (subst (λ (x : Situation). AreAlike (situation_after (at code s p b) r.command) x lines) (sym (t-is ∙ behind-is code s p q b d near line r.command r.reads)) more),
          )

-- the first trace of the call of a save that holds
record FirstThere (code : Code) (s : Save) (l : Trace) : Type 0 where
  first : Repaired
  is : first_of code s.kept.inputs s.fuel s.kept.function s.kept.args ≡ Some first
  replays : Replays code s.kept.inputs s.kept.function s.kept.args first.items
  honest : IsHonest code s.kept.inputs first.items
  few : steps_of first.items ≤ s.fuel
  beside : Beside code s.kept.inputs s.kept.function s.kept.args (Traced (record { items = l; work = s.work })) (Traced first)

record IsFirstTrace (code : Code) (s : Save) (a : Repaired) : Type 0 where
  replays : Replays code s.kept.inputs s.kept.function s.kept.args a.items
  honest : IsHonest code s.kept.inputs a.items

first-trace : (code : Code) (s : Save) → Fits code s.kept.inputs s.kept.function s.kept.args → (a : Repaired)
    → first_of code s.kept.inputs s.fuel s.kept.function s.kept.args ≡ Some a → IsFirstTrace code s a
first-trace code s fits a e =
    go (first_of code s.kept.inputs s.fuel s.kept.function s.kept.args) (fresh code s.kept.function s.kept.args s.kept.inputs s.fuel) e
    (first-law code s.kept.inputs s.kept.function s.kept.args fits s.fuel)
  where
    go : (o : Option Repaired) (p : Option Finished) → o ≡ Some a → FirstOutcome code s.kept.inputs s.kept.function s.kept.args o p → IsFirstTrace code s a
    go _ _ i FirstOutcome.none = none-some a i
    go _ _ i (FirstOutcome.some {a = b} t) = subst (IsFirstTrace code s) (some-same b a i) (record { replays = t.replays; honest = t.honest })

first-there : (code : Code) (s : Save) → Fits code s.kept.inputs s.kept.function s.kept.args → (l : Trace) → Replays code s.kept.inputs s.kept.function s.kept.args l → IsHonest code s.kept.inputs l
    → steps_of l ≤ s.fuel → FirstThere code s l
first-there code s fits l is honest few =
    let inputs = s.kept.inputs in
    let f = s.kept.function in
    let args = s.kept.args in
    let there = first-of code inputs f args l (record { fits = fits; replays = is; honest = honest }) s.fuel few in
    let t = first-trace code s fits there.first there.is in
    let bs = core_numbers (blocks_of l) in
    let cs = core_numbers (blocks_of there.first.items) in
    record {
      first = there.first;
      is = there.is;
      replays = t.replays;
      honest = t.honest;
      few = subst (λ n. n ≤ s.fuel) (sym there.steps) few;
      beside = Beside.traced (zipped bs cs) (zip-one bs cs is.distinct t.replays.distinct) (unique-law code inputs f args fits l there.first.items is t.replays honest t.honest).traces;
    }

pub stranger : FactsLaw → CallLaw → OneCommandLaw → OneAnswerLaw → AlikeLaw → StrangerLaw
stranger facts calls command_law answer alike program s trace compiled h items lines =
    let code = program.code in
    let a = held program s compiled h in
    let same : a.0 ≡ trace = same-trace s.kept.forest a.0 trace a.1 items in
    let left : IsConsistent (situation_of_save program.typed code s trace) = subst (λ l. IsConsistent (situation_of_save program.typed code s l)) same a.2 in
    let t = first-there code s h.yes.0.call trace left.past.replays left.past.honest left.past.few in
    let right : IsConsistent (at code (saved_state program.typed s) (Traced t.first) (steps_in s.kept.forest)) = record {
      compiled = left.compiled;
      named = left.named;
      spelled = left.spelled;
      once = left.once;
      shapes = left.shapes;
      fits = left.fits;
      settled = left.settled;
      called = left.called;
      past = record { within = refl; replays = t.replays; was = t.replays; honest = t.honest; few = t.few; same = λ p. refl };
    } in
    let near : Near code (saved_state program.typed s) (Traced (record { items = trace; work = s.work })) (Traced t.first) s.bound (steps_in s.kept.forest) = record {
      left = left;
      right = right;
      past = t.beside;
    } in
    record {
      first = t.first;
      is = t.is;
      stands = subst (λ (q : Past). IsConsistent (at code (saved_state program.typed s) q (steps_in s.kept.forest))) (sym (ap first_past t.is)) right;
      alike = subst (λ (q : Past). AreAlike (situation_of_save program.typed code s trace) (at code (saved_state program.typed s) q (steps_in s.kept.forest)) lines) (sym (ap first_past t.is))
          (are-alike facts calls command_law answer alike code (saved_state program.typed s) (Traced (record { items = trace; work = s.work })) (Traced t.first) s.bound
          (steps_in s.kept.forest) near lines);
    }
