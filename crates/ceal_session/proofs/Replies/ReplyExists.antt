-- In a situation that a session reaches each line has a reply, and the situation after it is such a one.
use Rattle.std.proofs.Common.{◌≡◌, ◌⊎◌, inl, inr, ℕ, ◌<◌, ◌||◌, Bool, true, false, Option, Some, None, Result, Ok, Err}
use Rattle.std.proofs.Common.{List, [], ◌∷◌, ◌++◌, length, map, is_none, is_some, if◌then◌else◌, refl, sym, ap, ◌∙◌}
use Rattle.std.proofs.Common.{subst, slice_get, take, length-append, arith}
use Rattle.std.specs.List.{list_any, IsDistinct}
use Rattle.std.proofs.lemmas.Map.Keys.{IsDistinct-push}
use Rattle.std.proofs.lemmas.Cmp.{nat_list_eq_equiv}
use Rattle.std.specs.Prelude.{IsSome, IsTrue, IfSome, bytes_eq, codes}
use Rattle.ceal_base.specs.Block.{Block, Blocks, block_at}
use Rattle.ceal_base.specs.Finished.{Finished}
use Rattle.ceal_base.specs.Fitting.{kind_at, words_fit, block_fits, memory_fits, inputs_fit}
use Rattle.ceal_base.specs.Shapes.{kinds_of_shape}
use Rattle.ceal_base.specs.Usage.{IsCore}
use Rattle.ceal_base.specs.declared.call.Call.{Call}
use Rattle.ceal_base.specs.declared.kind.FieldKind.{FieldKind}
use Rattle.ceal_base.specs.declared.kind.Shape.{Shape}
use Rattle.ceal_base.specs.declared.typed.StructInfo.{StructInfo}
use Rattle.ceal_base.specs.declared.typed.TypedFunction.{TypedFunction}
use Rattle.ceal_base.specs.declared.word.BlockId.{BlockId}
use Rattle.ceal_base.specs.declared.word.BlockId.TheVariants.{Input}
use Rattle.ceal_base.specs.declared.word.Place.{Place}
use Rattle.ceal_base.specs.declared.word.Word.{Word}
use Rattle.ceal_base.specs.declared.word.Word.TheVariants.{Num, Null, Block as BlockWord, At}
use Rattle.ceal_code.proofs.Replay.RunEnds.{fresh-ends, fresh-count}
use Rattle.ceal_code.proofs.TypedCode.FittingInputs.{edit-fits, fits_in, kept-longer, longer-fits}
use Rattle.ceal_code.proofs.TypedCode.ShapesKept.{ShapesKept, fields-kept, words-kept}
use Rattle.ceal_code.proofs.Replay.MemoryChanges.{got}
use Rattle.ceal_code.proofs.Words.SameIsEqual.{both, both-true}
use Rattle.ceal_code.specs.Fitting.{Fits}
use Rattle.ceal_code.specs.Fresh.{fresh as code_fresh}
use Rattle.ceal_code.specs.Laws.{ProgressLaw}
use Rattle.ceal_code.specs.Program.{Code}
use Rattle.ceal_code.specs.Value.{is_cell}
use Rattle.ceal_script.specs.Lines.{IsLineOf}
use Rattle.ceal_script.specs.Spelling.{IsName}
use Rattle.ceal_script.specs.declared.command.Command.{Command}
use Rattle.ceal_script.specs.declared.command.Command.TheVariants.{Blank, Mod, New, Set, Run, Propagate, Slice, Get}
use Rattle.ceal_script.specs.declared.command.Command.TheVariants.{Show, Blocks as BlocksCommand, Steps as StepsCommand}
use Rattle.ceal_script.specs.declared.command.Command.TheVariants.{Work as WorkCommand, Bound as BoundCommand}
use Rattle.ceal_session.proofs.Replies.QuestionsAnswered.{called-first, can-tell, cell-sense}
use Rattle.ceal_session.proofs.Engine.ProgramAndCode.{call-fits, same-structs}
use Rattle.ceal_session.proofs.Inputs.ExtendedInputs.{extended-same, extended-longer, extended-edited, extended-on, extended-both, same-bases, shapes-back}
use Rattle.ceal_session.proofs.Replies.ReplyUpToNumbers.{LineFacts, past-of}
use Rattle.ceal_session.proofs.Engine.RunLeavesPast.{Ran, ran}
use Rattle.ceal_session.proofs.Inputs.ShapesOfInputs.{makes-named, line-named, mod-known, struct-known, shapes-more, shapes-kept, spelled-more}
use Rattle.ceal_session.specs.Questions.{CanTell, IsCellOf, IsCellSense}
use Rattle.ceal_session.specs.AfterLine.{situation_out_of_fuel as dropped_by}
use Rattle.ceal_session.specs.Laws.{Replied, BegunLaw, SomeReplyLaw, DroppedLaw}
use Rattle.ceal_session.specs.InputNames.{IsNamed}
use Rattle.ceal_session.specs.Refusals.{refusal_text}
use Rattle.ceal_session.specs.Replies.{Reads, situation_after}
use Rattle.ceal_session.specs.Runs.{memory_of, present_run, run_of, with_run, with_part}
use Rattle.ceal_session.specs.Senses.{is_unknown, words_of, mod_shape, struct_shape, struct_named, function_named, place_sense, value_sense}
use Rattle.ceal_session.specs.Consistency.{IsRepairIn, IsPastIn, IsConsistent}
use Rattle.ceal_session.specs.State.{State, Situation, numbers_in}
use Rattle.ceal_session.specs.Steps.{Step, stays, refuses, with_input, block_of, step_of_words, step_of_shape, with_base}
use Rattle.ceal_session.specs.Steps.{fits_cell, step_of_word, step_of_set, is_call_of, IsCall, call_of_run, call_again, run_reply}
use Rattle.ceal_session.specs.Steps.{runs, call_of, step_of_command, step_of_line}
use Rattle.ceal_session.specs.Texts.{input_name, TellsOf, IsText}
use Rattle.ceal_session.specs.Works.{call_in, past_in, past_left, bound_in}
use Rattle.ceal_theory.proofs.Store.MoreInputs.{inputs-law}
use Rattle.ceal_theory.proofs.SlicedRepair.SliceLaws.{more-law}
use Rattle.ceal_theory.specs.Adjust.{Extended}
use Rattle.ceal_theory.specs.Pasts.{Past, NoTrace, Traced, Going, SamePast, IsPastOf, goes}
use Rattle.ceal_theory.specs.Slices.{Repair}
use Rattle.ceal_session.specs.declared.refusal.Refusal.{Refusal}
use Rattle.ceal_session.specs.declared.refusal.Refusal.TheVariants.{C1, C2, C3, C4}
use Rattle.ceal_session.specs.declared.reply.Query.{Query}
use Rattle.ceal_session.specs.declared.reply.Query.TheVariants.{Get as GetOf, Show as ShowOf, Blocks as BlocksOf, Steps as StepsOf, Work as WorkOf, Bound as BoundOf}
use Rattle.ceal_session.specs.declared.reply.Reply.{Reply}
use Rattle.ceal_session.specs.declared.reply.Reply.TheVariants as reply
use Rattle.ceal_session.specs.declared.reply.Reply.TheVariants.{Refused, Told}
use Rattle.ceal_session.specs.declared.sense.Sense.{Sense}
use Rattle.ceal_session.specs.declared.sense.Sense.TheVariants.{Unknown, Plain, Word as IsWord}
use Rattle.ceal_show.specs.Graph.{IsGraphText}
use Rattle.ceal_show.specs.Shown.{IsWhole}
use Rattle.ceal_traceck.specs.Verdicts.{is_known, has_known_shape}

-- the laws that a line is a command's or none's, that a memory whose words fit is whole, and that a whole memory has
-- texts
abbrev pub LineLaw : Type 0
LineLaw = (line : List ℕ) → ((c : Command) × IsLineOf c line) ⊎ ((c : Command) → IsLineOf c line → ⊥)

abbrev pub WholeLaw : Type 0
WholeLaw = (structs : List StructInfo) (m : Blocks) → IsTrue (memory_fits structs m) → IsWhole structs (block_at m)

abbrev pub TextLaw : Type 0
TextLaw = (structs : List StructInfo) (m : Blocks) (name : ℕ → List ℕ) (root : BlockId) → IsWhole structs (block_at m) → IsSome (block_at m root)
    → (text : List ℕ) × IsGraphText structs (block_at m) name root text

-- the first situation of a session is sound
pub begun-stands : BegunLaw
unfolding IsDistinct
begun-stands p fuel compiled = record {
  state = refl;
  code = refl;
  bound = refl;
  sound = record {
    compiled = compiled;
    named = refl;
    spelled = tt;
    once = tt;
    shapes = refl;
    fits = refl;
    settled = record { fits = refl; extended = extended-same p.code []; count = refl };
    called = tt;
    past = refl;
  };
  past = (refl, refl);
}

-- a call that fits still fits where the inputs keep their shapes
call-kept : (s : State) (inputs : List Block) → ShapesKept (memory_of s) (record { inputs = inputs; made = [] }) → (o : Option TypedFunction) (args : List Word)
    → is_call_of s o args ≡ true → is_call_of (record s { inputs = inputs }) o args ≡ true
call-kept s inputs kept None args h = h
call-kept s inputs kept (Some f) args h =
    let m : Blocks = record { inputs = inputs; made = [] } in
    let k = both (is_none f.initialiser) (words_fit s.program.structs (memory_of s) (take f.params f.kinds) args) h in
    both-true (is_none f.initialiser) (words_fit s.program.structs m (take f.params f.kinds) args) k.0
    (words-kept s.program.structs (memory_of s) m kept (take f.params f.kinds) args k.1)

all-called : (s : State) (inputs : List Block) → ShapesKept (memory_of s) (record { inputs = inputs; made = [] }) → (o : Option Call)
    → IfSome o (IsCall s) → IfSome o (IsCall (record s { inputs = inputs }))
all-called s inputs kept None h = tt
all-called s inputs kept (Some call) h = call-kept s inputs kept (slice_get s.program.functions call.function) call.args h

core-call : (s : State) (o : Option TypedFunction) (args : List Word) → is_call_of s o args ≡ true → IsCore o
core-call s None args h = absurd (grind (arith, h))
core-call s (Some f) args h = by_initialiser f.initialiser refl (both (is_none f.initialiser) (words_fit s.program.structs (memory_of s) (take f.params f.kinds) args) h).0
  where
    by_initialiser : (i : Option ℕ) → f.initialiser ≡ i → is_none i ≡ true → IsCore (Some f)
    by_initialiser None e k = rw e refl
    by_initialiser (Some s) e k = absurd (grind (arith, k))

-- the call is one that fits, and no other was accepted before
pub record Accepted (s : State) (call : Call) : Type 0 where
  pub is : IsCall s call
  pub only : (s.call ≡ None) ⊎ (s.call ≡ Some call)

-- what a line with this call moves of the state
pub record Moves (s t : State) (calls : Result Call Refusal) : Type 0 where
  pub called : (call : Call) → calls ≡ Ok call → t.call ≡ Some call
  pub inputs : (call : Call) → calls ≡ Ok call → t.inputs ≡ s.inputs
  pub same_call : (r : Refusal) → calls ≡ Err r → t.call ≡ s.call

-- there is a text of the step's reply, and the situation after it is sound
pub record Good (m : Situation) (call_of_run : Result Call Refusal) (step : Step) (past : Past) : Type 0 where
  pub text : List ℕ
  pub is : IsText m.state (numbers_in m) step.reply text
  pub stands : IsConsistent (record { state = step.state; code = m.code; past = past; bound = m.bound })
  pub moves : Moves m.state step.state call_of_run
  pub extended : Extended m.code m.state.inputs step.state.inputs

module _ (progress : ProgressLaw) (line_law : LineLaw) (whole_law : WholeLaw) (text_law : TextLaw) where
  module _ (m : Situation) (st : IsConsistent m) where
    abbrev code : Code
    code = m.code

    abbrev s : State
    s = m.state

    -- a line that runs nothing
    abbrev Calm : Step → Type 0
    Calm step = Good m (Err C1) step m.past

    calm : (t : State) → t.call ≡ s.call → Moves s t (Err C1)
    calm t e = record { called = λ call k. absurd (grind (arith, k)); inputs = λ call k. absurd (grind (arith, k)); same_call = λ r k. e }

    refused : (r : Refusal) → Calm (refuses s r)
    refused r = record { text = refusal_text r; is = refl; stands = st; moves = calm s refl; extended = extended-same code s.inputs }

    structs : code.structs ≡ s.program.structs
    structs = same-structs s.program code st.compiled.code

    pub fits-call : (call : Call) → IsCall s call → Fits code s.inputs call.function call.args
    fits-call call h = call-fits s.program code st.compiled.code st.compiled.valid s call.function call.args refl (subst (λ k. inputs_fit k s.inputs ≡ true) (sym structs) st.fits) h

    -- the settled inputs have the shapes of the present ones
    settled-shapes : ShapesKept (memory_of s) (record { inputs = s.settled; made = [] })
    settled-shapes = shapes-back code s.settled s.inputs st.settled.extended st.settled.count

    pub fits-settled : (call : Call) → IsCall s call → Fits code s.settled call.function call.args
    fits-settled call h =
        call-fits s.program code st.compiled.code st.compiled.valid (record s { inputs = s.settled }) call.function call.args refl st.settled.fits
        (call-kept s s.settled settled-shapes (slice_get s.program.functions call.function) call.args h)

    -- one input more
    module _ (name : List ℕ) (block : Block) (h : block_fits s.program.structs (memory_of s) block ≡ true) where
      abbrev t : State
      t = with_input s name block

      fit : inputs_fit s.program.structs t.inputs ≡ true
      fit = longer-fits s.program.structs s.inputs block st.fits h

      code-fit : inputs_fit code.structs t.inputs ≡ true
      code-fit = subst (λ k. inputs_fit k t.inputs ≡ true) (sym structs) fit

      settled-fit : inputs_fit code.structs t.settled ≡ true
      settled-fit =
          longer-fits code.structs s.settled block st.settled.fits
          (subst (λ k. block_fits k (record { inputs = s.settled; made = [] }) block ≡ true) (sym structs)
          (fields-kept s.program.structs (memory_of s) (record { inputs = s.settled; made = [] }) settled-shapes (kinds_of_shape s.program.structs block.shape) block.words h))

      past-longer : (o : Option Call) → IfSome o (IsCall s) → (p : Past) → IsPastIn code s o p → IsPastIn code t o p
      past-longer None c p h = h
      past-longer (Some call) c NoTrace h = h
      past-longer (Some call) c (Traced l) h =
          let now = inputs-law code s.inputs t.inputs call.function call.args (fits-call call c) code-fit (extended-longer code s.inputs block) l.items h.replays in
          let was = inputs-law code s.settled t.settled call.function call.args (fits-settled call c) settled-fit (extended-longer code s.settled block) l.items h.was in
          record {
            within = h.within;
            replays = now.replays;
            was = was.replays;
            honest = was.honest (same-bases code s.settled block) h.honest;
            few = h.few;
            same = λ p. ap (λ xs. xs ++ block ∷ []) (h.same p);
          }
      past-longer (Some call) c (Going r) h = record {
        within = h.within;
        pending = h.pending;
        sound = more-law code _ s.inputs t.inputs call.function call.args (fits-call call c) code-fit (extended-longer code s.inputs block) r h.sound;
      }

      with-input : IsName name → list_any (bytes_eq name) s.names ≡ false → has_known_shape s.program.structs block ≡ true → Calm (stays t reply.Ok)
      with-input spells new known = record {
        text = codes "ok\n";
        is = refl;
        stands = record {
          compiled = st.compiled;
          named =
              let a = length-append s.names (name ∷ []) in
              let b = length-append s.inputs (block ∷ []) in
              let n = st.named in
              omega (arith, a, b, n);
          spelled = spelled-more s.names name st.spelled spells;
          once = IsDistinct-push nat_list_eq_equiv s.names name st.once new;
          shapes = shapes-more s.program.structs s.inputs block st.shapes known;
          fits = fit;
          settled = record {
            fits = settled-fit;
            extended = extended-both code s.settled s.inputs st.settled.extended st.settled.count block;
            count =
                let a = length-append s.settled (block ∷ []) in
                let b = length-append s.inputs (block ∷ []) in
                let n = st.settled.count in
                omega (arith, a, b, n);
          };
          called = all-called s t.inputs (kept-longer s.program.structs s.inputs block) s.call st.called;
          past = past-longer s.call st.called m.past st.past;
        };
        moves = calm t refl;
        extended = extended-longer code s.inputs block;
      }

    made-with : (name : List ℕ) → IsName name → list_any (bytes_eq name) s.names ≡ false → (shape : Shape) → is_known s.program.structs shape ≡ true → (o : Option (List Word))
        → Calm (step_of_words s name shape o)
    made-with name spells new shape known None = refused C4
    made-with name spells new shape known (Some words) = go (block_fits s.program.structs (memory_of s) (block_of shape words)) refl
      where
        go : (b : Bool) → block_fits s.program.structs (memory_of s) (block_of shape words) ≡ b
            → Calm (if b then stays (with_input s name (block_of shape words)) reply.Ok else refuses s C4)
        go true e = with-input name (block_of shape words) e spells new known
        go false e = refused C4

    made-good : (name : List ℕ) → IsName name → (o : Option Shape) → IfSome o (λ shape. is_known s.program.structs shape ≡ true) → (senses : List Sense) → Calm (step_of_shape s name o senses)
    made-good name spells None known senses = refused C2
    made-good name spells (Some shape) known senses = go (list_any is_unknown senses) (list_any (bytes_eq name) s.names) refl
      where
        go : (a b : Bool) → list_any (bytes_eq name) s.names ≡ b → Calm (if a then refuses s C2 else if b then refuses s C3 else step_of_words s name shape (words_of senses))
        go true b e = refused C2
        go false true e = refused C3
        go false false e = made-with name spells e shape known (words_of senses)

    -- another base
    module _ (p : Place) (word : Word) (cell : IsCellOf s p) (h : fits_cell s (kind_at s.program.structs (memory_of s) p) word ≡ true) where
      abbrev u : State
      u = with_base s p word

      same-cell : (o : Option FieldKind) → fits_cell s o word ≡ true → fits_in s.program.structs s.inputs o word ≡ true
      same-cell None k = k
      same-cell (Some kind) k = k

      edited : Extended code s.inputs u.inputs
      edited = extended-edited code s.inputs p word (subst (λ k. is_cell (kind_at k (memory_of s) p) ≡ true) (sym structs) cell)

      past-edited : inputs_fit code.structs u.inputs ≡ true → (o : Option Call) → IfSome o (IsCall s) → (q : Past) → IsPastIn code s o q → IsPastIn code u o q
      past-edited fit None c q h = h
      past-edited fit (Some call) c NoTrace h = h
      past-edited fit (Some call) c (Traced l) h = record {
        within = h.within;
        replays = (inputs-law code s.inputs u.inputs call.function call.args (fits-call call c) fit edited l.items h.replays).replays;
        was = h.was;
        honest = h.honest;
        few = h.few;
        same = λ p. absurd (grind (arith, p));
      }
      past-edited fit (Some call) c (Going r) h = record {
        within = h.within;
        pending = refl;
        sound = more-law code _ s.inputs u.inputs call.function call.args (fits-call call c) fit edited r h.sound;
      }

      fits-base : Calm (stays u reply.Ok)
      fits-base =
          let e = edit-fits s.program.structs s.inputs p word st.fits (same-cell (kind_at s.program.structs (memory_of s) p) h) in
          record {
            text = codes "ok\n";
            is = refl;
            stands = record {
              compiled = st.compiled;
              named = st.named ∙ sym e.count;
              spelled = st.spelled;
              once = st.once;
              shapes = shapes-kept s.program.structs s.inputs u.inputs e.kept e.count st.shapes;
              fits = e.fits;
              settled = record { fits = st.settled.fits; extended = extended-on code s.settled s.inputs u.inputs st.settled.extended edited; count = st.settled.count ∙ sym e.count };
              called = all-called s u.inputs e.kept s.call st.called;
              past = past-edited (subst (λ k. inputs_fit k u.inputs ≡ true) (sym structs) e.fits) s.call st.called m.past st.past;
            };
            moves = calm u refl;
            extended = edited;
          }

    base-good : (p : Place) (word : Word) → IsCellOf s p → (b : Bool) → fits_cell s (kind_at s.program.structs (memory_of s) p) word ≡ b
        → Calm (if b then stays (with_base s p word) reply.Ok else refuses s C4)
    base-good p word cell true e = fits-base p word cell e
    base-good p word cell false e = refused C4

    word-good : (place value : Sense) → IsCellSense s place → Calm (step_of_word s place value)
    word-good (IsWord (At p)) (IsWord word) cell = base-good p word cell (fits_cell s (kind_at s.program.structs (memory_of s) p) word) refl
    word-good (IsWord (At p)) Unknown cell = refused C4
    word-good (IsWord (At p)) Plain cell = refused C4
    word-good (IsWord (Num n)) value cell = refused C4
    word-good (IsWord Null) value cell = refused C4
    word-good (IsWord (BlockWord b)) value cell = refused C4
    word-good Unknown value cell = refused C4
    word-good Plain value cell = refused C4

    pub set-good : (place value : Sense) → IsCellSense s place → Calm (step_of_set s place value)
    set-good place value cell = go (is_unknown place || is_unknown value)
      where
        go : (a : Bool) → Calm (if a then refuses s C2 else step_of_word s place value)
        go true = refused C2
        go false = word-good place value cell

    -- the source's run is the code's
    pub code-run : (call : Call) → IsCall s call → code_fresh code call.function call.args s.inputs s.fuel ≡ run_of s call
    code-run call h = st.compiled.means call.function call.args s.inputs s.fuel (core-call s (slice_get s.program.functions call.function) call.args h)

    -- the past before a line that runs is one of its call
    pub past-before : (call : Call) → Accepted s call → IsPastOf code s.inputs call.function call.args m.past
    past-before call a = go s.call a.only st.past
      where
        go : (o : Option Call) → (o ≡ None) ⊎ (o ≡ Some call) → IsPastIn code s o m.past → IsPastOf code s.inputs call.function call.args m.past
        go o (inl e) h = subst (IsPastOf code s.inputs call.function call.args) (sym (subst (λ o. IsPastIn code s o m.past) e h)) tt
        go o (inr e) h = past-of code s call m.past (subst (λ o. IsPastIn code s o m.past) e h)

    -- what a run leaves, by the run from scratch
    pub ran-here : (call : Call) (a : Accepted s call) (reads : Option ℕ)
        → Ran code s.inputs call.function call.args (fits-call call a.is) s.fuel reads (run_of s call) (past_left code s (Ok call) reads m.past)
    ran-here call a reads =
        subst (λ o. Ran code s.inputs call.function call.args (fits-call call a.is) s.fuel reads o (past_left code s (Ok call) reads m.past)) (code-run call a.is)
        (ran code s.inputs call.function call.args (fits-call call a.is) s.fuel reads m.past (past-before call a))

    -- the situation after a run
    pub with-call : (call : Call) (out : Bool) (past : Past) → IsCall s call → IsPastIn code (with_run s call out) (Some call) past
        → IsConsistent (record { state = with_run s call out; code = code; past = past; bound = m.bound })
    with-call call out past h t = record {
      compiled = st.compiled;
      named = st.named;
      spelled = st.spelled;
      once = st.once;
      shapes = st.shapes;
      fits = st.fits;
      settled = record { fits = subst (λ k. inputs_fit k s.inputs ≡ true) (sym structs) st.fits; extended = extended-same code s.inputs; count = refl };
      called = h;
      past = t;
    }

    ran-moves : (call : Call) (out : Bool) → Moves s (with_run s call out) (Ok call)
    ran-moves call out = record { called = λ c e. ap Some (cc e); inputs = λ c e. refl; same_call = λ r e. absurd (grind (arith, e)) }

    -- a completed run, or one that is out of fuel
    module _ (call : Call) (a : Accepted s call) (reads : Option ℕ) (reply : Bool → Reply) (text : Bool → List ℕ)
        (is : (out : Bool) → IsText s (numbers_in m) (reply out) (text out)) where
      abbrev fits : Fits code s.inputs call.function call.args
      fits = fits-call call a.is

      abbrev step : Step
      step = record { reply = reply (is_none (run_of s call)); state = with_run s call (is_none (run_of s call)) }

      completed : (out : Bool) → is_none (run_of s call) ≡ out → (past : Past) → IsPastIn code (with_run s call out) (Some call) past → Good m (Ok call) step past
      completed out e past h = record {
        text = text (is_none (run_of s call));
        is = is (is_none (run_of s call));
        stands = with-call call (is_none (run_of s call)) past a.is (subst (λ b. IsPastIn code (with_run s call b) (Some call) past) (sym e) h);
        moves = ran-moves call (is_none (run_of s call));
        extended = extended-same code s.inputs;
      }

      ran-good : (past : Past) → goes past ≡ false → Ran code s.inputs call.function call.args fits s.fuel reads (run_of s call) past → Good m (Ok call) step past
      ran-good _ g (Ran.out e) = completed true (ap is_none e) NoTrace refl
      ran-good _ g (Ran.ended l r e replays honest few) =
          completed false (ap is_none e) (Traced l) (record { within = refl; replays = replays; was = replays; honest = honest; few = few; same = λ p. refl })
      ran-good _ g (Ran.going r sound some) = absurd (grind (arith, g))

    abbrev run-text : Bool → List ℕ
    run-text true = codes "out of fuel\n"
    run-text false = codes "ok\n"

    run-is : (more out : Bool) → IsText s (numbers_in m) (run_reply None more out) (run-text out)
    run-is more true = refl
    run-is more false = refl

    abbrev part-text : Bool → List ℕ
    part-text true = codes "out of fuel\n"
    part-text false = codes "done\n"

    part-is : (reads : ℕ) (out : Bool) → IsText s (numbers_in m) (run_reply (Some reads) false out) (part-text out)
    part-is reads true = refl
    part-is reads false = refl

    -- a whole repair is not in progress
    whole-ends : (call : Call) (a : Accepted s call) (past : Past) → Ran code s.inputs call.function call.args (fits-call call a.is) s.fuel None (run_of s call) past → goes past ≡ false
    whole-ends call a _ (Ran.out e) = refl
    whole-ends call a _ (Ran.ended l r e replays honest few) = refl
    whole-ends call a _ (Ran.going r sound some) = absurd (grind (arith, some))

    refused-run : (r : Refusal) → Good m (Err r) (refuses s r) m.past
    refused-run r = record {
      text = refusal_text r;
      is = refl;
      stands = st;
      moves = record { called = λ c k. absurd (grind (arith, k)); inputs = λ c k. absurd (grind (arith, k)); same_call = λ x k. refl };
      extended = extended-same code s.inputs;
    }

    run-good : (r : Result Call Refusal) → ((call : Call) → r ≡ Ok call → Accepted s call)
        → Good m r (runs s None (goes (past_left code s r None m.past)) r) (past_left code s r None m.past)
    run-good (Err r) h = refused-run r
    run-good (Ok call) h =
        let a = h call refl in
        let q = past_left code s (Ok call) None m.past in
        ran-good call a None (run_reply None (goes q)) run-text (run-is (goes q)) q (whole-ends call a q (ran-here call a None)) (ran-here call a None)

    -- a part of a repair in progress
    part-going : (reads : ℕ) (call : Call) → s.call ≡ Some call → (r : Repair) → IsRepairIn code (with_part s) call r → Good m (Ok call) (runs s (Some reads) true (Ok call)) (Going r)
    part-going reads call same r h = record {
      text = codes "more\n";
      is = refl;
      stands = record {
        compiled = st.compiled;
        named = st.named;
        spelled = st.spelled;
        once = st.once;
        shapes = st.shapes;
        fits = st.fits;
        settled = record { fits = st.settled.fits; extended = st.settled.extended; count = st.settled.count };
        called = st.called;
        past = subst (λ o. IsPastIn code (with_part s) o (Going r)) (sym same) h;
      };
      moves = record { called = λ c e. same ∙ ap Some (cc e); inputs = λ c e. refl; same_call = λ x k. absurd (grind (arith, k)) };
      extended = extended-same code s.inputs;
    }

    part-good : (reads : ℕ) (r : Result Call Refusal) → ((call : Call) → r ≡ Ok call → Accepted s call × (s.call ≡ Some call))
        → Good m r (runs s (Some reads) (goes (past_left code s r (Some reads) m.past)) r) (past_left code s r (Some reads) m.past)
    part-good reads (Err r) h = refused-run r
    part-good reads (Ok call) h =
        let a = h call refl in go a.0 a.1 (past_left code s (Ok call) (Some reads) m.past) (ran-here call a.0 (Some reads))
      where
        go : (a : Accepted s call) → s.call ≡ Some call → (q : Past) → Ran code s.inputs call.function call.args (fits-call call a.is) s.fuel (Some reads) (run_of s call) q
            → Good m (Ok call) (runs s (Some reads) (goes q) (Ok call)) q
        go a same _ (Ran.out e) = ran-good call a (Some reads) (run_reply (Some reads) false) part-text (part-is reads) NoTrace refl (Ran.out e)
        go a same _ (Ran.ended l r e replays honest few) = ran-good call a (Some reads) (run_reply (Some reads) false) part-text (part-is reads) (Traced l) refl (Ran.ended l r e replays honest few)
        go a same _ (Ran.going r sound some) = part-going reads call same r (record { within = refl; pending = refl; sound = sound })

    again-call : (o : Option Call) → s.call ≡ o → IfSome o (IsCall s) → (call : Call) → call_again o ≡ Ok call → Accepted s call × (s.call ≡ Some call)
    again-call None i h call e = absurd (grind (arith, e))
    again-call (Some c) i h call e =
        let same : c ≡ call = grind (arith, e) in
        (record { is = subst (IsCall s) same h; only = inr (i ∙ ap Some same) }, i ∙ ap Some same)

    -- the call of a line is accepted
    pub accepted : (command : Command) (call : Call) → call_of s command ≡ Ok call → Accepted s call
    accepted (Run function args) call e = let f = called-first s (function_named s function) (map (value_sense s) args) call e in record { is = f.fits; only = inl f.none }
    accepted Propagate call e = (again-call s.call refl st.called call e).0
    accepted (Slice reads) call e = (again-call s.call refl st.called call e).0
    accepted Blank call e = absurd (grind (arith, e))
    accepted (Mod name kind value) call e = absurd (grind (arith, e))
    accepted (New name shape values) call e = absurd (grind (arith, e))
    accepted (Set place value) call e = absurd (grind (arith, e))
    accepted (Get place) call e = absurd (grind (arith, e))
    accepted (Show name) call e = absurd (grind (arith, e))
    accepted BlocksCommand call e = absurd (grind (arith, e))
    accepted StepsCommand call e = absurd (grind (arith, e))
    accepted WorkCommand call e = absurd (grind (arith, e))
    accepted BoundCommand call e = absurd (grind (arith, e))

    pub accepted-in : (command : Option Command) (call : Call) → call_in s command ≡ Ok call → Accepted s call
    accepted-in None call e = absurd (grind (arith, e))
    accepted-in (Some command) call e = accepted command call e

    -- a question
    graph : (n : ℕ) → n < length s.inputs → (call : Call) → IsCall s call → (f : Finished) → run_of s call ≡ Some f
        → (text : List ℕ) × IsGraphText s.program.structs (block_at f.memory) (input_name s) (Input n) text
    graph n l call h f e =
        let fits = fits-call call h in
        let is = code-run call h ∙ e in
        let end = fresh-ends code s.inputs call.function call.args s.fuel f is in
        let count = fresh-count code s.inputs call.function call.args s.fuel f is in
        let good = (progress code st.compiled.valid s.inputs call.function call.args fits f.memory end.stack end.reaches).memory in
        let there = got f.memory.inputs n (omega (arith, l, count)) in
        let t = text_law code.structs f.memory (input_name s) (Input n) (whole_law code.structs f.memory good) (ap is_some there.1) in
        (t.0, subst (λ k. IsGraphText k (block_at f.memory) (input_name s) (Input n) t.0) structs t.1)

    graph-of : (n : ℕ) → n < length s.inputs → (o : Option Call) → s.call ≡ o → (r : Option Finished) → present_run s ≡ r → (text : List ℕ) × TellsOf s (numbers_in m) (ShowOf n) r text
    graph-of n l o i None e = (_, refl)
    graph-of n l None i (Some f) e = absurd (let k = rw i at e in grind (arith, k))
    graph-of n l (Some call) i (Some f) e = graph n l call (subst (λ o. IfSome o (IsCall s)) i st.called) f (rw i at e)

    told : (q : Query) → CanTell s (Told q) → (r : Option Finished) → present_run s ≡ r → (text : List ℕ) × TellsOf s (numbers_in m) q r text
    told (ShowOf n) h r e = graph-of n h.1 s.call refl r e
    told q h None e = (_, refl)
    told (GetOf p) h (Some f) e = (_, refl)
    told BlocksOf h (Some f) e = (_, refl)
    told StepsOf h (Some f) e = (_, refl)
    told WorkOf h (Some f) e = (_, refl)
    told BoundOf h (Some f) e = (_, refl)

    text-of : (r : Reply) → CanTell s r → (text : List ℕ) × IsText s (numbers_in m) r text
    text-of reply.Nothing h = (_, refl)
    text-of reply.Ok h = (_, refl)
    text-of reply.OutOfFuel h = (_, refl)
    text-of reply.More h = (_, refl)
    text-of reply.Done h = (_, refl)
    text-of (Refused r) h = (_, refl)
    text-of (Told q) h = told q h (present_run s) refl

    asked-good : (reply : Reply) → CanTell s reply → Calm (stays s reply)
    asked-good reply h = let t = text-of reply h in record { text = t.0; is = t.1; stands = st; moves = calm s refl; extended = extended-same code s.inputs }

    command-good : (command : Command) → IsNamed command → Good m (call_of s command) (step_of_command s (goes (past_in m (Some command))) command) (past_in m (Some command))
    command-good Blank n = record { text = []; is = refl; stands = st; moves = calm s refl; extended = extended-same code s.inputs }
    command-good (Mod name kind value) n = made-good name n (mod_shape s kind) (mod-known s kind) (value_sense s value ∷ [])
    command-good (New name shape values) n = made-good name n (struct_shape (struct_named s shape)) (struct-known s shape) (map (value_sense s) values)
    command-good (Set place value) n = set-good (place_sense s place) (value_sense s value) (cell-sense s place)
    command-good (Run function args) n = run-good (call_of_run s (function_named s function) (map (value_sense s) args)) (accepted (Run function args))
    command-good Propagate n = run-good (call_again s.call) (accepted Propagate)
    command-good (Slice reads) n = part-good reads (call_again s.call) (again-call s.call refl st.called)
    command-good (Get place) n = asked-good _ (can-tell s false st.named (Get place))
    command-good (Show name) n = asked-good _ (can-tell s false st.named (Show name))
    command-good BlocksCommand n = asked-good _ (can-tell s false st.named BlocksCommand)
    command-good StepsCommand n = asked-good _ (can-tell s false st.named StepsCommand)
    command-good WorkCommand n = asked-good _ (can-tell s false st.named WorkCommand)
    command-good BoundCommand n = asked-good _ (can-tell s false st.named BoundCommand)

    line-good : (command : Option Command) → IfSome command IsNamed → Good m (call_in s command) (step_of_line s (goes (past_in m command)) command) (past_in m command)
    line-good None n = refused C1
    line-good (Some command) n = command-good command n

    -- the bound says nothing of whether a situation is sound
    pub with-bound : (state : State) (past : Past) (bound : ℕ) → IsConsistent (record { state = state; code = code; past = past; bound = m.bound })
        → IsConsistent (record { state = state; code = code; past = past; bound = bound })
    with-bound state past bound h = record {
      compiled = h.compiled;
      named = h.named;
      spelled = h.spelled;
      once = h.once;
      shapes = h.shapes;
      fits = h.fits;
      settled = h.settled;
      called = h.called;
      past = h.past;
    }

    -- the past before a line that runs, where it is the first one
    pub before-line : (call : Call) → Accepted s call → (s.call ≡ Some call) ⊎ ((s.call ≡ None) × (m.past ≡ NoTrace))
    before-line call a = elim a.only [ inl e ↦ inr (e, subst (λ o. IsPastIn code s o m.past) e st.past) | inr e ↦ inl e ]

    pub fits-called : (o : Option Call) → IfSome o (IsCall s) → IfSome o (λ call. Fits code s.inputs call.function call.args)
    fits-called None h = tt
    fits-called (Some call) h = fits-call call h

    pub facts : (command : Option Command) → IfSome command IsNamed → LineFacts m command
    facts command n =
        let g = line-good command n in
        let state = (step_of_line s (goes (past_in m command)) command).state in record {
          stands = with-bound state (past_in m command) (bound_in m command) g.stands;
          called = g.moves.called;
          before = λ call e. before-line call (accepted-in command call e);
          inputs = g.moves.inputs;
          same_call = g.moves.same_call;
          fits = fits-called s.call st.called;
          fit = subst (λ k. inputs_fit k state.inputs ≡ true) (sym (same-structs state.program code g.stands.compiled.code)) g.stands.fits;
          extended = g.extended;
        }

    -- what is left of a run after out of fuel
    pub dropped : (call : Call) → Accepted s call → IsConsistent (dropped_by m call)
    dropped call a = with-bound (with_run s call true) NoTrace 0 (with-call call true NoTrace a.is refl)

  replied : (m : Situation) (line : List ℕ) → IsConsistent m → Replied m line
  replied m line st = elim (line_law line) [
    | inl c ↦
        let n = makes-named c.0 line c.1 in
        let g = command-good m st c.0 n in
        record {
          text = g.text;
          next = situation_after m (Some c.0);
          replies = record { command = Some c.0; reads = c.1; reply = g.is; next = refl };
          stands = (facts m st (Some c.0) n).stands;
        }
    | inr none ↦ record {
      text = refusal_text C1;
      next = situation_after m None;
      replies = record { command = None; reads = none; reply = refl; next = refl };
      stands = (facts m st None tt).stands;
    }
  ]

pub some-reply : ProgressLaw → LineLaw → WholeLaw → TextLaw → SomeReplyLaw
some-reply progress line_law whole_law text_law m line st = replied progress line_law whole_law text_law m line st

pub line-facts : ProgressLaw → LineLaw → WholeLaw → TextLaw → (m : Situation) (line : List ℕ) (command : Option Command) → Reads line command → IsConsistent m → LineFacts m command
line-facts progress line_law whole_law text_law m line command reads st = facts progress line_law whole_law text_law m st command (line-named line command reads)

pub dropped-law : ProgressLaw → LineLaw → WholeLaw → TextLaw → DroppedLaw
dropped-law progress line_law whole_law text_law session m command call h e =
    let a = accepted progress line_law whole_law text_law m h.sound command call e in
    record {
      state = ap (λ s. with_run s call true) h.state;
      code = h.code;
      bound = refl;
      sound = dropped progress line_law whole_law text_law m h.sound call a;
      past = SamePast.none;
    }
