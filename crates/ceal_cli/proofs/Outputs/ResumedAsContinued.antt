-- A session that is saved and resumed writes what one that never stopped would have written.
use Rattle.std.proofs.Common.{◌≡◌, inr, ℕ, List, [], ◌∷◌, ◌++◌, Some, codes, sym, ap, ◌∙◌, subst, append_assoc}
use Rattle.ceal_dump.specs.DumpText.{dump_text, inputs_text, call_text, trace_text, memory_text}
use Rattle.ceal_lex.specs.Parts.{IsBeforeLine}
use Rattle.ceal_script.specs.Lines.{IsLineOf}
use Rattle.ceal_script.specs.Words.{HasWords}
use Rattle.ceal_script.specs.declared.command.Command.TheVariants.{Blank}
use Rattle.ceal_session.specs.Laws.{OneCommandLaw}
use Rattle.ceal_session.specs.Replies.{Replies, Leads, situation_after}
use Rattle.ceal_session.specs.State.{Situation, numbers_in}
use Rattle.ceal_session.specs.Steps.{step_of_line}
use Rattle.ceal_session.specs.Texts.{IsText}
use Rattle.ceal_session.specs.Works.{past_in}
use Rattle.ceal_snap.specs.SaveText.{Save, head_text, save_text}
use Rattle.ceal_theory.specs.Pasts.{goes}

-- An empty line has no reply, and changes nothing.
pub empty-is-blank : IsLineOf Blank []
unfolding HasWords
empty-is-blank = record { words = []; has_words = tt; says = tt }

empty-line : OneCommandLaw → (m : Situation) (text : List ℕ) (n : Situation) → Replies m [] text n → (text ≡ []) × (n ≡ m)
empty-line one m text n h =
    let is : h.command ≡ Some Blank = one [] h.command (Some Blank) h.reads empty-is-blank in (
      subst (λ c. IsText m.state (numbers_in m) (step_of_line m.state (goes (past_in m c)) c).reply text) is h.reply,
      h.next ∙ ap (situation_after m) is,
    )

-- so it may be left out after others
pub without-empty : OneCommandLaw → (front : List (List ℕ)) (m : Situation) (out : List ℕ) (n : Situation) → Leads m (front ++ ([] ∷ [])) out n → Leads m front out n
unfolding Leads
without-empty one [] m out n (text, mid, rest, replies, (none, same), e) =
    let blank = empty-line one m text mid replies in
    (e ∙ (ap (λ t. t ++ rest) blank.0 ∙ none), same ∙ blank.1)
without-empty one (line ∷ front) m out n (text, mid, rest, replies, more, e) = (text, mid, rest, replies, without-empty one front mid rest n more, e)

-- A save ends with a line feed.
pub save-ends : (s : Save) → IsBeforeLine (save_text s)
unfolding save_text dump_text
save-ends s =
    let front = inputs_text s.kept.inputs ++ call_text s.kept.function s.kept.args ++ trace_text s.kept.forest ++ memory_text s.kept.memory.inputs s.kept.memory.made in
    let all = append_assoc (head_text s) front (codes "end\n") in
    let last = append_assoc (head_text s ++ front) (codes "end") (10 ∷ []) in
    inr ((head_text s ++ front) ++ codes "end", sym all ∙ sym last)
