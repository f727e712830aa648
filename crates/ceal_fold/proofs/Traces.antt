-- Code and its folding have the same traces.
use Rattle.std.proofs.Common.{◌≡◌, ◌↔◌, ℕ, true, Some, List, refl, sym, ap, ◌∙◌, subst}
use Rattle.ceal_base.specs.Block.{Block}
use Rattle.ceal_base.specs.Trace.{Trace, Nothing, Stepped, Allocated, Wrote, WasRead}
use Rattle.ceal_base.specs.declared.forest.Key.{Key}
use Rattle.ceal_base.specs.declared.forest.UnitId.{UnitId}
use Rattle.ceal_base.specs.declared.word.BlockId.TheVariants.{Core}
use Rattle.ceal_base.specs.declared.word.Place.{Place}
use Rattle.ceal_base.specs.declared.word.Word.{Word}
use Rattle.ceal_code.specs.Init.{made, pointer}
use Rattle.ceal_code.specs.Program.{Code}
use Rattle.ceal_code.specs.Replay.{Yields, learnt, input_plain, plain_after, plain_of}
use Rattle.ceal_code.specs.Step.{Stack, Empty, Run, Act, Over, Quiet, Makes, Writes, Reads, entered, words_after_read, started, next}
use Rattle.ceal_code.specs.Valid.{valid}
use Rattle.ceal_code.specs.Value.{Plain, Variables, set}
use Rattle.ceal_fold.proofs.Runs.{Tied, ActsTied, made-is, entered-tied, words_after_read-tied, next-tied, started-tied}
use Rattle.ceal_fold.specs.Folding.{folded}
use Rattle.ceal_fold.specs.Traces.{SameTraces, SameReplays}

-- acts that lead from stacks to stacks so related
pub data ActsAlike (T : Stack → Stack → Type 0) : Act → Act → Type 0 where
  over : ActsAlike T Over Over
  quiet : {st st' : Stack} → T st st' → ActsAlike T (Quiet st) (Quiet st')
  makes : {key : Key} {v u i : ℕ} {env env' : Variables} {below below' : Stack}
      → ((w : Word) → T (Run u i (set env v w) below) (Run u i (set env' v w) below')) → ActsAlike T (Makes key v u i env below) (Makes key v u i env' below')
  writes : {p : Place} {value : Word} {st st' : Stack} → T st st' → ActsAlike T (Writes p value st) (Writes p value st')
  reads : {p : Place} {u : UnitId} {v : ℕ} {args : List Word} {below below' : Stack} → T below below' → ActsAlike T (Reads p u v args below) (Reads p u v args below')

-- codes whose stacks, so related, have like acts, make the same blocks and continue alike after a read
pub record StepsAlike (c d : Code) (x : Plain) (T : Stack → Stack → Type 0) : Type 0 where
  pub acts : (st st' : Stack) → T st st' → ActsAlike T (next c x st) (next d x st')
  pub same : (key : Key) → made c x key ≡ made d x key
  pub enters : (u v : ℕ) (args : List Word) (value : Word) → T (entered c u (words_after_read c u v args value) Empty) (entered d u (words_after_read d u v args value) Empty)

module _ (c d : Code) (x : Plain) (T : Stack → Stack → Type 0) (alike : StepsAlike c d x T) where
  from : (st st' : Stack) → T st st' → (a : Act) → next c x st ≡ a → ActsAlike T a (next d x st')
  from st st' t a e = subst (λ a. ActsAlike T a (next d x st')) e (alike.acts st st' t)

  over-on : {a : Act} → ActsAlike T Over a → (st : Stack) → next d x st ≡ a → Yields d x st Nothing
  over-on ActsAlike.over st e = Yields.over e

  quiet-on : {s : Stack} {a : Act} {rest : Trace} → ActsAlike T (Quiet s) a → (st : Stack) → next d x st ≡ a → ((s' : Stack) → T s s' → Yields d x s' rest)
      → Yields d x st (Stepped rest)
  quiet-on (ActsAlike.quiet {st' = s'} t) st e again = Yields.quiet e (again s' t)

  makes-on : {key : Key} {v u i : ℕ} {env : Variables} {below : Stack} {a : Act} {b : ℕ} {rest : Trace}
      → ActsAlike T (Makes key v u i env below) a → (st : Stack) → next d x st ≡ a → x (Core b) ≡ Some (made c x key)
      → ((s' : Stack) → T (Run u i (set env v (pointer key (Core b))) below) s' → Yields d x s' rest)
      → Yields d x st (Stepped (Allocated (Core b) key rest))
  makes-on {b = b} (ActsAlike.makes {key = key} {v = v} {u = u} {i = i} {env' = env'} {below' = below'} t) st e g again =
      let w = pointer key (Core b) in
      Yields.makes e (g ∙ ap Some (alike.same key)) (again (Run u i (set env' v w) below') (t w))

  writes-on : {p : Place} {value : Word} {s : Stack} {a : Act} {rest : Trace} → ActsAlike T (Writes p value s) a → (st : Stack) → next d x st ≡ a
      → ((s' : Stack) → T s s' → Yields d x s' rest) → Yields d x st (Stepped (Wrote p value rest))
  writes-on (ActsAlike.writes {st' = s'} t) st e again = Yields.writes e (again s' t)

  reads-on : {p : Place} {u : UnitId} {v : ℕ} {args : List Word} {below : Stack} {a : Act} {value : Word} {inside rest : Trace}
      → ActsAlike T (Reads p u v args below) a → (st : Stack) → next d x st ≡ a
      → Yields d x (entered d u.0 (words_after_read d u.0 v args value) Empty) inside
      → ((s' : Stack) → T below s' → Yields d x s' rest)
      → Yields d x st (Stepped (WasRead p value u v args inside rest))
  reads-on (ActsAlike.reads {below' = below'} t) st e inner again = Yields.reads e inner (again below' t)

  -- so related stacks yield the same
  pub yields-on : {st : Stack} {l : Trace} → Yields c x st l → (st' : Stack) → T st st' → Yields d x st' l
  yields-on {st} (Yields.over e) st' t = over-on (from st st' t Over e) st' refl
  yields-on {st} (Yields.quiet {after = after} e r) st' t = quiet-on (from st st' t (Quiet after) e) st' refl (λ s k. yields-on r s k)
  yields-on {st} (Yields.makes {key = key} {v = v} {u = u} {i = i} {env = env} {below = below} e g r) st' t =
      makes-on (from st st' t (Makes key v u i env below) e) st' refl g (λ s k. yields-on r s k)
  yields-on {st} (Yields.writes {after = after} {p = p} {value = value} e r) st' t = writes-on (from st st' t (Writes p value after) e) st' refl (λ s k. yields-on r s k)
  yields-on {st} (Yields.reads {below = below} {p = p} {u = u} {v = v} {args = args} {value = value} e r1 r2) st' t =
      reads-on (from st st' t (Reads p u v args below) e) st' refl
      (yields-on r1 (entered d u.0 (words_after_read d u.0 v args value) Empty) (alike.enters u.0 v args value)) (λ s k. yields-on r2 s k)

module _ (code : Code) (ok : valid code ≡ true) where
  abbrev after : Code
  after = folded code

  abbrev Back : Stack → Stack → Type 0
  Back st' st = Tied code ok st st'

  on : {a a' : Act} → ActsTied code ok a a' → ActsAlike (Tied code ok) a a'
  on ActsTied.over = ActsAlike.over
  on (ActsTied.quiet t) = ActsAlike.quiet t
  on (ActsTied.makes t) = ActsAlike.makes t
  on (ActsTied.writes t) = ActsAlike.writes t
  on (ActsTied.reads t) = ActsAlike.reads t

  back : {a a' : Act} → ActsTied code ok a a' → ActsAlike Back a' a
  back ActsTied.over = ActsAlike.over
  back (ActsTied.quiet t) = ActsAlike.quiet t
  back (ActsTied.makes t) = ActsAlike.makes t
  back (ActsTied.writes t) = ActsAlike.writes t
  back (ActsTied.reads t) = ActsAlike.reads t

  module _ (x : Plain) where
    enters : (u v : ℕ) (args : List Word) (value : Word) → Tied code ok (entered code u (words_after_read code u v args value) Empty) (entered after u (words_after_read after u v args value) Empty)
    enters u v args value = words_after_read-tied code ok u v args value value refl Empty Empty Tied.empty

    steps-on : StepsAlike code after x (Tied code ok)
    steps-on = record { acts = λ st st' t. on (next-tied code ok x st st' t); same = λ key. sym (made-is code ok x key); enters = enters }

    steps-back : StepsAlike after code x Back
    steps-back = record { acts = λ st' st t. back (next-tied code ok x st st' t); same = made-is code ok x; enters = enters }

    -- tied stacks yield the same
    tied-yield : (st st' : Stack) → Tied code ok st st' → (l : Trace) → Yields after x st' l ↔ Yields code x st l
    tied-yield st st' t l = (λ y. yields-on after code x Back steps-back y st t, λ y. yields-on code after x (Tied code ok) steps-on y st' t)

  pub traces-same : SameTraces after code
  traces-same x u words l = tied-yield x (entered code u words Empty) (entered after u words Empty) (entered-tied code ok u words Empty Empty Tied.empty) l

  -- the same blocks are made along a trace
  after-same : (x : Plain) (l : Trace) → plain_after after x l ≡ plain_after code x l
  after-same x Nothing = refl
  after-same x (Stepped rest) = after-same x rest
  after-same x (Allocated b key rest) =
      after-same (learnt x b (made after x key)) rest ∙ ap (λ block. plain_after code (learnt x b block) rest) (made-is code ok x key)
  after-same x (Wrote p value rest) = after-same x rest
  after-same x (WasRead p value u v args inside rest) =
      after-same (plain_after after x inside) rest ∙ ap (λ x. plain_after code x rest) (after-same x inside)

  input-same : (inputs : List Block) → input_plain after inputs ≡ input_plain code inputs
  unfolding input_plain
  input-same inputs = refl

  plain-same : (inputs : List Block) (l : Trace) → plain_of after inputs l ≡ plain_of code inputs l
  unfolding plain_of
  plain-same inputs l = after-same (input_plain after inputs) l ∙ ap (λ x. plain_after code x l) (input-same inputs)

  pub replays-same : SameReplays after code
  replays-same inputs f args l =
      let x = plain_of code inputs l in
      let both : Yields after x (started after f args) l ↔ Yields code x (started code f args) l =
      tied-yield x (started code f args) (started after f args) (started-tied code ok f args) l in (
        λ r. record {
          yields = both.0 (subst (λ x. Yields after x (started after f args) l) (plain-same inputs l) r.yields);
          distinct = r.distinct;
          known = r.known;
          mentions = r.mentions;
        },
        λ r. record {
          yields = subst (λ x. Yields after x (started after f args) l) (sym (plain-same inputs l)) (both.1 r.yields);
          distinct = r.distinct;
          known = r.known;
          mentions = r.mentions;
        },
      )
