-- For a save that holds, `resume` writes the replies of a session that has the first trace of the call, but for some
-- numbers.
use Rattle.std.proofs.Common.{◌≡◌, ℕ, List, [], ◌∷◌, ◌++◌, refl, sym, ap, ap₂, ◌∙◌, subst, append-nil}
use Rattle.std.proofs.lemmas.List.{append_cancel_left}
use Rattle.ceal_base.specs.declared.typed.Typed.{Typed}
use Rattle.ceal_code.specs.Program.{Code}
use Rattle.ceal_compile.specs.Compiled.{IsCompiled}
use Rattle.ceal_compile.specs.Laws.{OneCodeLaw, SomeCompiledLaw}
use Rattle.ceal_compile.specs.declared.program.Program.{Program}
use Rattle.ceal_session.specs.Laws.{OneReplyLaw, SomeReplyLaw}
use Rattle.ceal_session.specs.Replies.{Leads, Replies}
use Rattle.ceal_session.specs.SessionSave.{situation_of_save}
use Rattle.ceal_session.specs.Consistency.{IsConsistent}
use Rattle.ceal_session.specs.State.{Situation}
use Rattle.ceal_session.specs.Strangers.{AreAlike, StrangerLaw, with_first}
use Rattle.ceal_cli.specs.ManySessions.{joined_texts}
use Rattle.ceal_cli.specs.Output.{Programmed}
use Rattle.ceal_cli.specs.Resumed.{lines_after}
use Rattle.ceal_cli.specs.StrangerOutput.{AreBeside, StrangerOutputLaw}
use Rattle.ceal_cli.proofs.Inputs.OneReading.{SameReading, SplitLaw, AnswerLaw, one-reading}

-- all that the one situation leads to, the other one leads to as well
abbrev LeadAsOne : Situation → Situation → Type 0
LeadAsOne m n = (lines : List (List ℕ)) (out : List ℕ) (end : Situation) → Leads m lines out end → (other : Situation) × Leads n lines out other

-- then the replies to a line are the same, and so it is after it
module _ (once : OneReplyLaw) (m n o p : Situation) (line text other : List ℕ) (here : Replies m line text o) (there : Replies n line other p) where
  same-by : (q : Situation) → Leads n (line ∷ []) (text ++ []) q → text ≡ other
  unfolding Leads
  same-by q (t, mid, rest, r, (e, z), whole) =
      sym (append-nil text) ∙ whole ∙ ap (λ l. t ++ l) e ∙ append-nil t ∙ (once n line t other mid p r there).0

  same-text : LeadAsOne m n → text ≡ other
  unfolding Leads
  same-text as-one = let w = as-one (line ∷ []) (text ++ []) o (text, o, [], here, (refl, refl), refl) in same-by w.0 w.1

  after-by : (lines : List (List ℕ)) (out : List ℕ) (q : Situation) → text ≡ other → Leads n (line ∷ lines) (text ++ out) q → Leads p lines out q
  unfolding Leads
  after-by lines out q same (t, mid, rest, r, more, whole) =
      let one = once n line t other mid p r there in
      let tail : out ≡ rest = append_cancel_left text out rest (whole ∙ ap (λ l. l ++ rest) (one.0 ∙ sym same)) in
      subst (λ (s : Situation). Leads s lines out q) one.1 (subst (λ l. Leads mid lines l q) (sym tail) more)

  as-one-after : LeadAsOne m n → LeadAsOne o p
  unfolding Leads
  as-one-after as-one lines out end leads =
      let w = as-one (line ∷ lines) (text ++ out) end (text, o, out, here, leads, refl) in
      (w.0, after-by lines out w.0 (same-text as-one) w.1)

-- what is written of lines, beside the replies in the other situation
record Beside (m n : Situation) (lines : List (List ℕ)) (out : List ℕ) : Type 0 where
  texts : List (List ℕ)
  others : List (List ℕ)
  whole : out ≡ joined_texts texts
  one : LeadAsOne m n → texts ≡ others
  beside : AreBeside m n lines texts others

line-by-line : SomeReplyLaw → OneReplyLaw → (lines : List (List ℕ)) (m n : Situation) (out : List ℕ) (end : Situation) → AreAlike m n lines → IsConsistent n → Leads m lines out end
    → Beside m n lines out
unfolding AreAlike Leads
line-by-line some once [] m n out end alike stands (e, same) = record { texts = []; others = []; whole = e; one = λ _. refl; beside = AreBeside.none }
line-by-line some once (line ∷ lines) m n out end alike stands (text, mid, rest, replies, more, e) =
    let there = some n line stands in
    let next = alike.1 text there.text mid there.next replies there.replies in
    let r = line-by-line some once lines mid there.next rest end next.1 there.stands more in
    let one : LeadAsOne m n → text ∷ r.texts ≡ there.text ∷ r.others =
    λ as-one. ap₂ (λ (t : List ℕ) (ts : List (List ℕ)). t ∷ ts) (same-text once m n mid there.next line text there.text replies there.replies as-one)
    (r.one (as-one-after once m n mid there.next line text there.text replies there.replies as-one)) in
    record {
      texts = text ∷ r.texts;
      others = there.text ∷ r.others;
      whole = e ∙ ap (λ t. text ++ t) r.whole;
      one = one;
      beside = AreBeside.more replies there.replies next.0 (λ same. one (alike.0 same)) r.beside;
    }

-- the program and the code of an input are those of a compiled program
compiled-as : SplitLaw → AnswerLaw → OneCodeLaw → SomeCompiledLaw → (input : List ℕ) (p : Programmed input) → IsCompiled (record { typed = p.program; code = p.code })
compiled-as split answer code compiled input p =
    let c = compiled input (p.program, p.reads) in
    let q : Programmed input = record { part = c.1.part; split = c.1.split; program = c.0.typed; reads = c.1; code = c.0.code; is_code = c.2.code } in
    let same : SameReading input q p = one-reading split answer code input q p in
    subst (λ (k : Code). IsCompiled (record { typed = p.program; code = k })) same.code
    (subst (λ (t : Typed). IsCompiled (record { typed = t; code = c.0.code })) same.program c.2)

pub stranger-output : SplitLaw → AnswerLaw → OneCodeLaw → SomeCompiledLaw → SomeReplyLaw → OneReplyLaw → StrangerLaw → StrangerOutputLaw
stranger-output split answer code compiled some once stranger input out (p, h) =
    let program : Program = record { typed = p.program; code = p.code } in
    let as-first = stranger program h.from.saved h.trace (compiled-as split answer code compiled input p) h.holds h.items (lines_after h.from) in
    let r = line-by-line some once (lines_after h.from) (situation_of_save p.program p.code h.from.saved h.trace)
    (with_first p.program p.code h.from.saved) out h.end as-first.alike as-first.stands h.leads in
    (r.texts, r.others, r.whole, r.beside)
