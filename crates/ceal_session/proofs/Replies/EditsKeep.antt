-- A session that is in a situation is in the next one after an edit by a handle.
use Rattle.std.proofs.Common.{◌≡◌, ℤ, Bool, true, false, Option, refl, sym, ap, ◌∙◌, subst}
use Rattle.ceal_base.specs.Fitting.{kind_at}
use Rattle.ceal_base.specs.declared.call.Call.{Call}
use Rattle.ceal_base.specs.declared.word.Word.TheVariants.{Num, At}
use Rattle.ceal_code.specs.Laws.{ProgressLaw}
use Rattle.ceal_code.specs.Value.{is_cell}
use Rattle.ceal_session.proofs.Engine.ProgramAndCode.{same-structs}
use Rattle.ceal_session.proofs.Replies.HandleStays.{cell-stays}
use Rattle.ceal_session.proofs.Replies.ReplyExists.{LineLaw, TextLaw, WholeLaw, fits-called, set-good}
use Rattle.ceal_session.proofs.Replies.ReplyUpToNumbers.{more-same}
use Rattle.ceal_session.specs.Consistency.{IsConsistent, IsSamePast}
use Rattle.ceal_session.specs.Laws.{KeptByEditLaw, KeptEditLaw}
use Rattle.ceal_session.specs.Questions.{IsCellSense}
use Rattle.ceal_session.specs.Runs.{memory_of}
use Rattle.ceal_session.specs.State.{Situation, State}
use Rattle.ceal_session.specs.Steps.{Step, step_of_set}
use Rattle.ceal_session.specs.Values.{sense_of_handle}
use Rattle.ceal_session.specs.declared.handle.Handle.{Handle}
use Rattle.ceal_session.specs.declared.refusal.Refusal.TheVariants.{C1}
use Rattle.ceal_session.specs.declared.reply.Reply.TheVariants as reply
use Rattle.ceal_session.specs.declared.sense.Sense.TheVariants.{Plain, Word as IsWord}
use Rattle.ceal_theory.specs.Adjust.{Extended}
use Rattle.ceal_theory.specs.Pasts.{Past}
use Rattle.ceal_base.specs.Fitting.{inputs_fit}
use Rattle.std.specs.Prelude.{if◌then◌else◌}

-- what a handle stands for is a modifiable, or no place
cell-of-handle : (s : State) (h : Handle) → IsCellSense s (sense_of_handle s h)
cell-of-handle s h = go (is_cell (kind_at s.program.structs (memory_of s) h.place)) refl
  where
    go : (b : Bool) → is_cell (kind_at s.program.structs (memory_of s) h.place) ≡ b → IsCellSense s (if b then IsWord (At h.place) else Plain)
    go true e = e
    go false e = tt

module _ (progress : ProgressLaw) (line_law : LineLaw) (whole_law : WholeLaw) (text_law : TextLaw) where
  -- what is known of the situation after an edit
  pub record Edited (m : Situation) (t : State) : Type 0 where
    pub stands : IsConsistent (record { state = t; code = m.code; past = m.past; bound = m.bound })
    pub call : t.call ≡ m.state.call
    pub extended : Extended m.code m.state.inputs t.inputs

  edited : (m : Situation) → IsConsistent m → (h : Handle) (number : ℤ) (t : State)
      → record { reply = reply.Ok; state = t } ≡ step_of_set m.state (sense_of_handle m.state h) (IsWord (Num number)) → Edited m t
  edited m st h number t e =
      let g = set-good progress line_law whole_law text_law m st (sense_of_handle m.state h) (IsWord (Num number)) (cell-of-handle m.state h) in
      let same = sym (ap (λ (s : Step). s.state) e) in
      subst (Edited m) same (record { stands = g.stands; call = g.moves.same_call C1 refl; extended = g.extended })

  pub edit-law : KeptEditLaw
  edit-law old new m h number is e =
      let set : record { reply = reply.Ok; state = new.state } ≡ step_of_set m.state (sense_of_handle m.state h) (IsWord (Num number)) =
      subst (λ (s : State). record { reply = reply.Ok; state = new.state } ≡ step_of_set s (sense_of_handle s h) (IsWord (Num number))) is.state e.set in
      let k = edited m is.sound h number new.state set in
      let fit : inputs_fit m.code.structs new.state.inputs ≡ true =
      subst (λ structs. inputs_fit structs new.state.inputs ≡ true) (sym (same-structs new.state.program m.code k.stands.compiled.code)) k.stands.fits in
      let fits = fits-called progress line_law whole_law text_law m is.sound m.state.call is.sound.called in
      let same = more-same m.code m.state.inputs new.state.inputs m.state.call fits fit k.extended m.past old.past is.past in
      record {
        next = record m { state = new.state };
        edits = record { set = set; keeps = record { code = refl; past = refl; bound = refl } };
        is_in = record {
          state = refl;
          code = e.keeps.code ∙ is.code;
          bound = e.keeps.bound ∙ is.bound;
          sound = k.stands;
          past = subst (λ (q : Past). IsSamePast m.code new.state.inputs new.state.call m.past q) (sym e.keeps.past)
              (subst (λ (o : Option Call). IsSamePast m.code new.state.inputs o m.past old.past) (sym k.call) same);
        };
      }

  pub by-edit-law : KeptByEditLaw
  by-edit-law m n h number p st e cell =
      let k = edited m st h number n.state e.set in
      subst (λ structs. is_cell (kind_at structs (memory_of n.state) p) ≡ true) (same-structs n.state.program m.code k.stands.compiled.code)
      (cell-stays m.code m.state.inputs n.state.inputs k.extended p.block p.field
      (subst (λ structs. is_cell (kind_at structs (memory_of m.state) p) ≡ true) (sym (same-structs m.state.program m.code st.compiled.code)) cell))
