-- What items mention, in any order.
use Rattle.std.proofs.Common.{◌≡◌, ℕ, ◌≤◌, Some, List, sym, ap, ◌∙◌, subst}
use Rattle.ceal_base.specs.Trace.{Trace, Nothing, Stepped, Allocated, Wrote, WasRead}
use Rattle.ceal_base.specs.declared.word.BlockId.TheVariants.{Core}
use Rattle.ceal_code.proofs.Words.StepLocality.{block-more, word-more, words-more, key-more, set-known, words_after_read-known, next-known, next-same, made-same}
use Rattle.ceal_code.proofs.Words.SameIsEqual.{some-same}
use Rattle.ceal_code.specs.Init.{made, pointer}
use Rattle.ceal_code.specs.Known.{Subset, Agree, Holds, KnownStack, KnownAct}
use Rattle.ceal_code.specs.Program.{Code}
use Rattle.ceal_code.specs.Replay.{Yields, here, Mentions}
use Rattle.ceal_code.specs.Step.{Stack, Empty, Act, Over, Quiet, Makes, Writes, Reads, next}
use Rattle.ceal_code.specs.Value.{Plain}
use Rattle.ceal_theory.proofs.Repair.RepairInvariant.{Extends, Pieces}
use Rattle.ceal_theory.proofs.Store.WordsGrow.{mentions-subset}
use Rattle.ceal_theory.proofs.Store.WordsOfWalk.{block-inputs, word-inputs, words-inputs, key-inputs}
use Rattle.ceal_theory.proofs.Repair.RepairYields.{pointer-known}
use Rattle.ceal_theory.proofs.Repair.YieldsByStep.{yields-told}
use Rattle.ceal_theory.specs.Known.{Sure}
use Rattle.ceal_theory.specs.Slices.{Uses}

-- with more core blocks known
pub uses-more : (n : ℕ) (bs cs : List ℕ) → Subset bs cs → (l : Trace) → Uses n bs l → Uses n cs l
uses-more n bs cs sub Nothing u = u
uses-more n bs cs sub (Stepped rest) u = uses-more n bs cs sub rest u
uses-more n bs cs sub (Allocated b key rest) u = (block-more n bs cs sub b u.0, key-more n bs cs sub key u.1, uses-more n bs cs sub rest u.2)
uses-more n bs cs sub (Wrote p value rest) u = (block-more n bs cs sub p.block u.0, word-more n bs cs sub value u.1, uses-more n bs cs sub rest u.2)
uses-more n bs cs sub (WasRead p value u v args inside rest) w =
    (block-more n bs cs sub p.block w.0, word-more n bs cs sub value w.1, words-more n bs cs sub args w.2, uses-more n bs cs sub inside w.3, uses-more n bs cs sub rest w.4)

-- what is mentioned in order is mentioned
pub mentions-uses : (n : ℕ) {bs cs : List ℕ} {l : Trace} → Mentions n bs l cs → (ds : List ℕ) → Subset cs ds → Uses n ds l
mentions-uses n Mentions.end ds sub = tt
mentions-uses n (Mentions.step m) ds sub = mentions-uses n m ds sub
mentions-uses n {bs} {cs} (Mentions.alloc {b = b} {key = key} k m) ds sub =
    let wide : Subset bs ds = λ c i. sub c (mentions-subset m c (Rattle.ceal_code.specs.Replay.there i)) in
    (sub b (mentions-subset m b here), key-more n bs ds wide key k, mentions-uses n m ds sub)
mentions-uses n {bs} {cs} (Mentions.write {p = p} {value = value} h k m) ds sub =
    let wide : Subset bs ds = λ c i. sub c (mentions-subset m c i) in
    (block-more n bs ds wide p.block h, word-more n bs ds wide value k, mentions-uses n m ds sub)
mentions-uses n {bs} {cs} (Mentions.read {ds = es} {p = p} {value = value} {args = args} h k l m1 m2) ds sub =
    let wide : Subset bs ds = λ c i. sub c (mentions-subset m2 c (mentions-subset m1 c i)) in (
      block-more n bs ds wide p.block h,
      word-more n bs ds wide value k,
      words-more n bs ds wide args l,
      mentions-uses n m1 ds (λ c i. sub c (mentions-subset m2 c i)),
      mentions-uses n m2 ds sub,
    )

-- with more inputs
pub uses-inputs : (n m : ℕ) → n ≤ m → (bs : List ℕ) (l : Trace) → Uses n bs l → Uses m bs l
uses-inputs n m h bs Nothing u = u
uses-inputs n m h bs (Stepped rest) u = uses-inputs n m h bs rest u
uses-inputs n m h bs (Allocated b key rest) u = (block-inputs n m h bs b u.0, key-inputs n m h bs key u.1, uses-inputs n m h bs rest u.2)
uses-inputs n m h bs (Wrote p value rest) u = (block-inputs n m h bs p.block u.0, word-inputs n m h bs value u.1, uses-inputs n m h bs rest u.2)
uses-inputs n m h bs (WasRead p value u v args inside rest) w =
    (block-inputs n m h bs p.block w.0, word-inputs n m h bs value w.1, words-inputs n m h bs args w.2, uses-inputs n m h bs inside w.3, uses-inputs n m h bs rest w.4)

-- what is yielded over some plain words, all that it mentions being known, is yielded over others that agree on the
-- known blocks
module _ (code : Code) (n : ℕ) (bs : List ℕ) (x z : Plain) (h : Holds n bs x) (agree : Agree n bs x z) where
  knows : (st : Stack) (a : Act) → KnownStack n bs st → next code x st ≡ a → KnownAct n bs a
  knows st a k e = subst (KnownAct n bs) e (next-known n bs x h z agree code st k)

  same : (st : Stack) (a : Act) → KnownStack n bs st → next code x st ≡ a → next code z st ≡ a
  same st a k e = sym (next-same n bs x h z agree code st k) ∙ e

  pub uses-yields : {st : Stack} {l : Trace} → Yields code x st l → KnownStack n bs st → Uses n bs l → Yields code z st l
  uses-yields {st} (Yields.over e) k u = Yields.over (same st Over k e)
  uses-yields {st} (Yields.quiet {after = after} e r) k u = Yields.quiet (same st (Quiet after) k e) (uses-yields r (knows st (Quiet after) k e) u)
  uses-yields {st} (Yields.makes {key = key} {v = v} {u = w} {i = i} {env = env} {below = below} {b = b} e g r) k u =
      let a = knows st (Makes key v w i env below) k e in
      Yields.makes (same st (Makes key v w i env below) k e)
      (sym (agree (Core b) u.0) ∙ (g ∙ ap Some (made-same n bs x h z agree code key a.0)))
      (uses-yields r (set-known n bs env v (pointer key (Core b)) a.1 (pointer-known n bs key (Core b) u.0), a.2) u.2)
  uses-yields {st} (Yields.writes {after = after} {p = p} {value = value} e r) k u =
      let a = knows st (Writes p value after) k e in
      Yields.writes (same st (Writes p value after) k e) (uses-yields r a.2 u.2)
  uses-yields {st} (Yields.reads {below = below} {p = p} {u = w} {v = v} {args = args} {value = value} e r1 r2) k u =
      let a = knows st (Reads p w v args below) k e in
      Yields.reads (same st (Reads p w v args below) k e)
      (uses-yields r1 (words_after_read-known n bs code w.0 v args value Empty a.1 u.1 tt) u.3)
      (uses-yields r2 a.2 u.4)

-- they are pieces over all plain words that have more
pub uses-pieces : (code : Code) (n : ℕ) (bs : List ℕ) (x y : Plain) → Holds n bs x → Extends x y → {st : Stack} {l : Trace} → Yields code y st l → Uses n bs l → Pieces code x y l
uses-pieces code n bs x y h ext (Yields.over e) u = tt
uses-pieces code n bs x y h ext (Yields.quiet e r) u = uses-pieces code n bs x y h ext r u
uses-pieces code n bs x y h ext (Yields.makes {key = key} {b = b} e g r) u =
    let k = h (Core b) u.0 in
    let w : k.block ≡ made code y key = some-same k.block (made code y key) (sym (ext (Core b) k.block k.there) ∙ g) in
    (k.there ∙ ap Some w, uses-pieces code n bs x y h ext r u.2)
uses-pieces code n bs x y h ext (Yields.writes e r) u = uses-pieces code n bs x y h ext r u.2
uses-pieces code n bs x y h ext (Yields.reads e r1 r2) u = (r1, uses-pieces code n bs x y h ext r1 u.3, uses-pieces code n bs x y h ext r2 u.4)

-- what a stack yields and what mentions only known blocks stays so, whatever is around it
pub uses-sure : (code : Code) (n : ℕ) (ds : List ℕ) (x : Plain) {st : Stack} {l : Trace} → Yields code x st l → Uses n ds l → Sure code n ds x l
uses-sure code n ds x (Yields.over e) u = tt
uses-sure code n ds x (Yields.quiet e r) u = uses-sure code n ds x r u
uses-sure code n ds x (Yields.makes e h r) u = (u.0, u.1, h, uses-sure code n ds x r u.2)
uses-sure code n ds x (Yields.writes e r) u = uses-sure code n ds x r u.2
uses-sure code n ds x (Yields.reads e r1 r2) u = (u.1, u.2, yields-told code x r1, uses-sure code n ds x r1 u.3, uses-sure code n ds x r2 u.4)
