-- A line has one reply in a situation, and so have lines one after another.
use Rattle.std.proofs.Common.{◌≡◌, ℕ, Option, Some, None, List, [], ◌∷◌, ◌++◌, refl, sym, ap, ap₂, ◌∙◌, subst}
use Rattle.std.proofs.lemmas.List.{append_assoc}
use Rattle.ceal_base.specs.Block.{block_at}
use Rattle.ceal_base.specs.Finished.{Finished}
use Rattle.ceal_base.specs.declared.typed.StructInfo.{StructInfo}
use Rattle.ceal_base.specs.declared.word.BlockId.{BlockId}
use Rattle.ceal_base.specs.declared.word.BlockId.TheVariants.{Input}
use Rattle.ceal_script.specs.Lines.{IsLineOf}
use Rattle.ceal_script.specs.declared.command.Command.{Command}
use Rattle.ceal_theory.specs.Pasts.{goes}
use Rattle.ceal_session.specs.Laws.{OneCommandLaw, OneAnswerLaw, OneStateLaw, OneReplyLaw, OneScriptLaw, JoinedLaw}
use Rattle.ceal_session.specs.Replies.{Leads, situation_after}
use Rattle.ceal_session.specs.Runs.{present_run}
use Rattle.ceal_session.specs.State.{State, Numbers, numbers_in}
use Rattle.ceal_session.specs.Steps.{step_of_line}
use Rattle.ceal_session.specs.Texts.{input_name, Tells, TellsOf, IsText}
use Rattle.ceal_session.specs.Works.{past_in}
use Rattle.ceal_session.specs.declared.reply.Query.{Query}
use Rattle.ceal_session.specs.declared.reply.Query.TheVariants.{Get, Show, Blocks, Steps, Work, Bound}
use Rattle.ceal_session.specs.declared.reply.Reply.{Reply}
use Rattle.ceal_session.specs.declared.reply.Reply.TheVariants.{Nothing, Ok, OutOfFuel, More, Done, Refused, Told}
use Rattle.ceal_show.specs.Graph.{IsGraphText}
use Rattle.ceal_show.specs.Shown.{Shown}

-- the laws that a line is one command's at most, and that a memory has one text from a block
abbrev pub CommandLaw : Type 0
CommandLaw = (line : List ℕ) (c d : Command) → IsLineOf c line → IsLineOf d line → c ≡ d

abbrev pub GraphLaw : Type 0
GraphLaw = (structs : List StructInfo) (memory : Shown) (name : ℕ → List ℕ) (root : BlockId) (text other : List ℕ)
    → IsGraphText structs memory name root text → IsGraphText structs memory name root other → text ≡ other

pub same-command : CommandLaw → OneCommandLaw
same-command law line None None h k = refl
same-command law line None (Some d) h k = absurd (h d k)
same-command law line (Some c) None h k = absurd (k c h)
same-command law line (Some c) (Some d) h k = ap Some (law line c d h k)

module _ (law : GraphLaw) (s : State) (w : Numbers) where
  same-told : (q : Query) (f : Finished) (a b : List ℕ) → Tells s w q f a → Tells s w q f b → a ≡ b
  same-told (Get p) f a b h k = h ∙ sym k
  same-told (Show n) f a b h k = law s.program.structs (block_at f.memory) (input_name s) (Input n) a b h k
  same-told Blocks f a b h k = h ∙ sym k
  same-told Steps f a b h k = h ∙ sym k
  same-told Work f a b h k = h ∙ sym k
  same-told Bound f a b h k = h ∙ sym k

  same-told-of : (q : Query) (o : Option Finished) (a b : List ℕ) → TellsOf s w q o a → TellsOf s w q o b → a ≡ b
  same-told-of q None a b h k = h ∙ sym k
  same-told-of q (Some f) a b h k = same-told q f a b h k

  same-text : (r : Reply) (a b : List ℕ) → IsText s w r a → IsText s w r b → a ≡ b
  same-text Nothing a b h k = h ∙ sym k
  same-text Ok a b h k = h ∙ sym k
  same-text OutOfFuel a b h k = h ∙ sym k
  same-text More a b h k = h ∙ sym k
  same-text Done a b h k = h ∙ sym k
  same-text (Refused r) a b h k = h ∙ sym k
  same-text (Told q) a b h k = same-told-of q (present_run s) a b h k

pub one-answer : OneCommandLaw → GraphLaw → OneAnswerLaw
one-answer command graph s w more line a b m n h k =
    let same = command line h.command k.command h.reads k.reads in
    same-text graph s w (step_of_line s more k.command).reply a b (subst (λ c. IsText s w (step_of_line s more c).reply a) same h.reply) k.reply

pub one-state : OneCommandLaw → OneStateLaw
one-state command s v w more line a b m n h k = h.state ∙ ap (λ c. (step_of_line s more c).state) (command line h.command k.command h.reads k.reads) ∙ sym k.state

pub one-reply : OneCommandLaw → GraphLaw → OneReplyLaw
one-reply command graph m line a b n o h k =
    let same = command line h.command k.command h.reads k.reads in (
      same-text graph m.state (numbers_in m) (step_of_line m.state (goes (past_in m k.command)) k.command).reply a b
          (subst (λ c. IsText m.state (numbers_in m) (step_of_line m.state (goes (past_in m c)) c).reply a) same h.reply) k.reply,
      h.next ∙ ap (situation_after m) same ∙ sym k.next,
    )

pub one-script : OneReplyLaw → OneScriptLaw
unfolding Leads
one-script reply m [] a b n o h k = (h.0 ∙ sym k.0, h.1 ∙ sym k.1)
one-script reply m (line ∷ lines) a b n o h k =
    let first = reply m line h.0 k.0 h.1 k.1 h.3 k.3 in
    let rest = one-script reply k.1 lines h.2 k.2 n o (subst (λ t. Leads t lines h.2 n) first.1 h.4) k.4 in
    (h.5 ∙ ap₂ ◌++◌ first.0 rest.0 ∙ sym k.5, rest.1)

pub joined : JoinedLaw
unfolding Leads
joined m n o [] back a b h k =
    let here = subst (λ t. Leads t back b o) h.1 k in
    subst (λ t. Leads m back (t ++ b) o) (sym h.0) here
joined m n o (line ∷ lines) back a b h k =
    let rest = joined h.1 n o lines back h.2 b h.4 k in
    (h.0, h.1, h.2 ++ b, h.3, rest, ap (λ t. t ++ b) h.5 ∙ append_assoc h.0 h.2 b)
