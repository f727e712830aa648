-- From a reply to its text.
use Rattle.std.proofs.Common.{◌≡◌, ◌<◌, Bool, Result, Ok, Err, IfOk, OnOk, List, length, ℕ, ap, sym, subst, arith}
use Rattle.std.specs.Prelude.{OnErr}
use Rattle.ceal_base.specs.declared.no_memory.NoMemory.{NoMemory}
use Rattle.ceal_script.specs.declared.command.Command.{Command}
use Rattle.ceal_session.proofs.Replies.QuestionsAnswered.{can-tell}
use Rattle.ceal_session.specs.LineReply.{HasReply}
use Rattle.ceal_session.specs.Questions.{CanTell}
use Rattle.ceal_session.specs.Replies.{Answers}
use Rattle.ceal_session.specs.Steps.{Step, IsQuiet, step_of_command}
use Rattle.ceal_session.specs.Texts.{IsText}
use Rattle.ceal_session.specs.declared.reply.Reply.{Reply}
use Rattle.ceal_session.specs.declared.reply.Reply.TheVariants as reply
use Rattle.ceal_session.specs.declared.reply.Reply.TheVariants.{Refused, Told}
use Rattle.ceal_session.specs.SessionState.{Held, situation}
use Rattle.ceal_session.specs.State.{State, Numbers, numbers_in}

-- a reply after which nothing has changed is that of the session before
pub text-back : (m n : Held) (reply : Reply) (text : List ℕ) → (IsQuiet reply → n ≡ m) → IsText n.state (numbers_in (situation n)) reply text
    → IsText m.state (numbers_in (situation m)) reply text
text-back m n reply.Nothing text same h = h
text-back m n reply.Ok text same h = h
text-back m n reply.OutOfFuel text same h = h
text-back m n reply.More text same h = h
text-back m n reply.Done text same h = h
text-back m n (Refused r) text same h = h
text-back m n (Told q) text same h = rw (← same tt) h

-- and can be told after it where it could before
tell-after : (m n : Held) (reply : Reply) → (IsQuiet reply → n ≡ m) → CanTell m.state reply → CanTell n.state reply
tell-after m n reply.Nothing same h = tt
tell-after m n reply.Ok same h = tt
tell-after m n reply.OutOfFuel same h = tt
tell-after m n reply.More same h = tt
tell-after m n reply.Done same h = tt
tell-after m n (Refused r) same h = tt
tell-after m n (Told q) same h = rw (same tt) h

-- what a command is answered can be told after it
pub told : (m n : Held) (more : Bool) (command : Command) → length m.state.names ≡ length m.state.inputs → (r : Result Reply NoMemory)
    → IfOk r (λ reply. record { reply = reply; state = n.state } ≡ step_of_command m.state more command) → IfOk r (λ reply. IsQuiet reply → n ≡ m)
    → IfOk r (λ reply. CanTell n.state reply)
told m n more command c (Err e) h same = tt
told m n more command c (Ok reply) h same =
    tell-after m n reply same (subst (λ (step : Step). CanTell m.state step.reply) (sym h) (can-tell m.state more c command))

-- the text of a reply answers the line
pub answers : (m n : Held) (more : Bool) (line : List ℕ) (reply : Reply) (text : List ℕ) → (IsQuiet reply → n ≡ m) → HasReply m.state more line reply n.state
    → IsText n.state (numbers_in (situation n)) reply text → Answers m.state (numbers_in (situation m)) more line text n.state
answers m n more line reply text same h t = record {
  command = h.command;
  reads = h.reads;
  reply = subst (λ (r : Reply). IsText m.state (numbers_in (situation m)) r text) h.told (text-back m n reply text same t);
  state = h.state;
}

not-so-long : (text : List ℕ) (n : ℕ) → length text ≡ n → n < 13 → 12 < length text → ⊥
not-so-long text n e k l = omega (arith, e, k, l)

-- after a long answer nothing has changed
pub long-quiet : (s : State) (numbers : Numbers) (reply : Reply) (text : List ℕ) → IsText s numbers reply text → 12 < length text → IsQuiet reply
long-quiet s numbers reply.Nothing text h l = tt
long-quiet s numbers reply.Ok text h l = not-so-long text 3 (ap length h) (omega arith) l
long-quiet s numbers reply.OutOfFuel text h l = not-so-long text 12 (ap length h) (omega arith) l
long-quiet s numbers reply.More text h l = not-so-long text 5 (ap length h) (omega arith) l
long-quiet s numbers reply.Done text h l = not-so-long text 5 (ap length h) (omega arith) l
long-quiet s numbers (Refused r) text h l = tt
long-quiet s numbers (Told q) text h l = tt

pub if-ok : {A E : Type 0} (r : Result A E) {P Q : A → Type 0} → ((x : A) → P x → Q x) → IfOk r P → IfOk r Q
if-ok (Ok x) f h = f x h
if-ok (Err e) f h = tt

pub if-both-ok : {A E : Type 0} (r : Result A E) {P Q R : A → Type 0} → ((x : A) → P x → Q x → R x) → IfOk r P → IfOk r Q → IfOk r R
if-both-ok (Ok x) f h k = f x h k
if-both-ok (Err e) f h k = tt

pub on-err : {A E P Q : Type 0} (r : Result A E) → (P → Q) → OnErr r P → OnErr r Q
on-err (Ok x) f h = tt
on-err (Err e) f h = f h

pub on-ok : {A E Q : Type 0} (r : Result A E) → Q → OnOk r Q
on-ok (Ok x) h = h
on-ok (Err e) h = tt

pub on-ok-of : {A E P Q : Type 0} (r : Result A E) → (P → Q) → OnOk r P → OnOk r Q
on-ok-of (Ok x) f h = f h
on-ok-of (Err e) f h = tt
