-- What is said is what `ceal run` writes.
use Rattle.std.proofs.Common.{◌≡◌, inl, inr, zero, suc, ◌+◌, ◌<◌, ◌≤◌, ◌^◌, ℕ, Bool, true, Result, Err}
use Rattle.std.proofs.Common.{List, [], ◌∷◌, ◌++◌, length, take, drop, refl, sym, ap, ◌∙◌, subst, append_assoc}
use Rattle.std.proofs.Common.{append-nil, length-append, arith}
use Rattle.std.proofs.Math.Seq.{take-append_seam}
use Rattle.ceal_base.specs.declared.fault.Fault.{Fault}
use Rattle.ceal_base.specs.declared.fault.Span.{Span}
use Rattle.ceal_base.specs.declared.typed.Typed.{Typed}
use Rattle.ceal_compile.specs.FaultLine.{fault_line, fault_text, line_after, column_after}
use Rattle.ceal_compile.specs.Source.{Comes}
use Rattle.ceal_lex.specs.Parts.{IsBeforeLine, IsMarked, IsSplit, HasMark, PartsAre, source_of}
use Rattle.ceal_lex.specs.Tokens.{span}
use Rattle.ceal_lex.specs.declared.parts.Split.{Split}
use Rattle.ceal_session.specs.Replies.{IsReplied}
use Rattle.ceal_cli.specs.Lines.{script_of, script_lines}
use Rattle.ceal_cli.specs.Laws.{OneOutputLaw}
use Rattle.ceal_cli.specs.Output.{Begins, IsAnswer, IsOutput, IsPrefix, IsRefusal, first_state}
use Rattle.ceal_cli.specs.declared.words.Mode.TheVariants.{Run}
use Rattle.ceal_cli.proofs.Inputs.OneReading.{SplitLaw}
use Rattle.ceal_cli.proofs.Inputs.OtherScript.{comes-again}
use Rattle.ceal_serve.specs.Laws.{BeginningLaw, OneSaidLaw, PlacedLaw, ServedLaw, TurnedAwayLaw}
use Rattle.ceal_serve.specs.Turns.{IsBeginning, IsSaidFor, IsServed}
use Rattle.ceal_serve.proofs.Marks.{first-of-longer}

drop-length : (n : ℕ) (xs : List ℕ) → n ≤ length xs → length (drop n xs) + n ≡ length xs
drop-length zero xs h = omega arith
drop-length (suc n) [] h = absurd (omega (arith, h))
drop-length (suc n) (x ∷ xs) h = let more = drop-length n xs (omega (arith, h)) in omega (arith, more)

drop-front : (xs ys : List ℕ) → drop (length xs) (xs ++ ys) ≡ ys
drop-front [] ys = refl
drop-front (x ∷ xs) ys = drop-front xs ys

take-front : (n : ℕ) (xs ys : List ℕ) → n ≤ length xs → take n (xs ++ ys) ≡ take n xs
take-front zero xs ys h = refl
take-front (suc n) [] ys h = absurd (omega (arith, h))
take-front (suc n) (x ∷ xs) ys h = ap (λ (l : List ℕ). x ∷ l) (take-front n xs ys (omega (arith, h)))

no-length : (xs : List ℕ) → length xs ≡ 0 → xs ≡ []
no-length [] e = refl
no-length (x ∷ xs) e = absurd (omega (arith, e))

-- A head with its mark, and any script after it.
module _ (law : SplitLaw) (head script : List ℕ) (part : Split) (split : IsSplit head part) (bare : script_of head part ≡ []) (marked : part.marked ≡ true) (complete : IsBeforeLine head)
    (small : length (head ++ script) < 2 ^ 32) where
  k : IsMarked head part
  k = subst (λ b. PartsAre b head part) marked split.parts

  none-after : k.after ≡ []
  none-after =
      let at = k.from in
      let left = drop-length part.script.from head (omega (arith, at)) in
      let nothing = ap length bare in
      no-length k.after (omega (arith, at, left, nothing))

  mark : HasMark head k.before []
  mark = subst (λ (a : List ℕ). HasMark head k.before a) none-after k.first.mark

  abbrev parts : Split
  parts = record { source = part.source; marked = true; script = span (length head) (length (head ++ script)) }

  split-longer : IsSplit (head ++ script) parts
  unfolding mark
  split-longer =
      let sum = length-append head script in
      record {
        small = small;
        parts = record {
          before = k.before;
          after = script;
          first = first-of-longer head k.before mark k.first.first complete script;
          source = k.source;
          from = sym sum;
          to = refl;
        };
      }

  to-is : part.source.to ≡ length k.before
  to-is = ap (λ (s : Span). s.to) k.source

  -- the source part is what is before the mark
  source-is : source_of head part ≡ k.before
  source-is = ap (λ n. take n head) to-is ∙ (ap (take (length k.before)) k.first.mark.whole ∙ take-append_seam k.before (k.first.mark.line ++ k.after))

  same-source : source_of head part ≡ source_of (head ++ script) parts
  same-source =
      let whole : head ++ script ≡ k.before ++ ((k.first.mark.line ++ k.after) ++ script) =
      ap (λ (l : List ℕ). l ++ script) k.first.mark.whole ∙ append_assoc k.before (k.first.mark.line ++ k.after) script in
      source-is
      ∙ sym (ap (λ n. take n (head ++ script)) to-is ∙ (ap (take (length k.before)) whole ∙ take-append_seam k.before ((k.first.mark.line ++ k.after) ++ script)))

  comes-longer : (r : Result Typed Fault) → Comes head r → Comes (head ++ script) r
  unfolding split-longer
  comes-longer r c =
      let same : c.part ≡ part = law head c.part part c.split split in
      let bytes = ap (source_of head) same ∙ same-source in
      let is-marked : c.part.marked ≡ true = ap (λ (s : Split). s.marked) same ∙ marked in
      record { part = parts; split = split-longer; comes = comes-again head (head ++ script) c.part parts bytes is-marked r c.comes }

module _ (law : SplitLaw) (fuel : ℕ) (ended : Bool) (text said : List ℕ) (small : length text < 2 ^ 32) (h : IsServed fuel ended text said) where
  abbrev head : List ℕ
  head = h.parts.head

  abbrev script : List ℕ
  script = h.parts.script

  by-mark : (h.parts.is_head.part.marked ≡ true) × IsBeforeLine head → IsAnswer (Run fuel) (head ++ script) said
  unfolding split-longer comes-longer
  by-mark (marked, complete) =
      let size = subst (λ (t : List ℕ). length t < 2 ^ 32) h.parts.whole small in
      let part = h.parts.is_head.part in
      let split = h.parts.is_head.split in
      let bare = h.parts.is_head.bare in (
        record {
          part = parts law head script part split bare marked complete size;
          split = split-longer law head script part split bare marked complete size;
          program = h.program.program;
          reads = comes-longer law head script part split bare marked complete size _ h.program.reads;
          code = h.program.code;
          is_code = h.program.is_code;
        },
        subst (λ (s : List ℕ). IsReplied h.program.code (first_state h.program fuel) (script_lines s) said) (sym (drop-front head script)) h.replies,
      )

  by-end : script ≡ [] → IsAnswer (Run fuel) head said
  by-end none =
      let same : h.program.part ≡ h.parts.is_head.part = law head h.program.part h.parts.is_head.part h.program.split h.parts.is_head.split in
      let bytes : script ≡ script_of head h.program.part = none ∙ sym (ap (script_of head) same ∙ h.parts.is_head.bare) in
      (h.program, subst (λ (s : List ℕ). IsReplied h.program.code (first_state h.program fuel) (script_lines s) said) bytes h.replies)

  as-run : IsAnswer (Run fuel) text said
  as-run = elim h.parts.is_head.complete [
    | inl m ↦ subst (λ (t : List ℕ). IsAnswer (Run fuel) t said) (sym h.parts.whole) (by-mark m)
    | inr e ↦ subst (λ (t : List ℕ). IsAnswer (Run fuel) t said) (sym (h.parts.whole ∙ (ap (λ (s : List ℕ). head ++ s) e.1 ∙ append-nil head))) (by-end e.1)
  ]

pub served-as-run : SplitLaw → ServedLaw
unfolding as-run
served-as-run law fuel ended text said small h = as-run law fuel ended text said small h

same-line : (head more : List ℕ) (fault : Fault) → fault.span.from ≤ length head → fault_line (head ++ more) fault ≡ fault_line head fault
same-line head more fault within =
    ap (λ (before : List ℕ). fault_text fault.code (line_after before) (column_after before)) (take-front fault.span.from head more within)

pub turned-away-as-run : SplitLaw → PlacedLaw → TurnedAwayLaw
unfolding comes-longer
turned-away-as-run law placed fuel ended text more said small h over = (tt, inl (h.fault, first, line))
  where
    whole : text ++ more ≡ h.parts.head ++ (h.parts.script ++ more)
    whole = ap (λ (l : List ℕ). l ++ more) h.parts.whole ∙ append_assoc h.parts.head h.parts.script more

    first : Comes (text ++ more) (Err h.fault)
    first = elim h.parts.is_head.complete [
      | inl m ↦ subst (λ (t : List ℕ). Comes t (Err h.fault)) (sym whole)
          (comes-longer law h.parts.head (h.parts.script ++ more) h.parts.is_head.part h.parts.is_head.split
          h.parts.is_head.bare m.0 m.1 (subst (λ (t : List ℕ). length t < 2 ^ 32) whole small) _ h.first)
      | inr e ↦ subst (λ (t : List ℕ). Comes t (Err h.fault)) (sym (whole ∙ (ap (λ (s : List ℕ). h.parts.head ++ s) (ap (λ (s : List ℕ). s ++ more) e.1 ∙ over e.0) ∙ append-nil h.parts.head))) h.first
    ]

    line : said ≡ fault_line (text ++ more) h.fault
    line = h.line ∙ sym (ap (λ (t : List ℕ). fault_line t h.fault) whole ∙ same-line h.parts.head (h.parts.script ++ more) h.fault (placed h.parts.head h.fault h.first))

-- what is said for a text is what `ceal run` writes for it
module _ (served : ServedLaw) (away : TurnedAwayLaw) where
  pub said-output : (fuel : ℕ) (text said : List ℕ) → length text < 2 ^ 32 → IsSaidFor fuel text said → IsOutput (Run fuel) text said
  said-output fuel text said small (inl s) = inl (served fuel true text said small s)
  said-output fuel text said small (inr t) =
      let same : length (text ++ []) < 2 ^ 32 = subst (λ (l : List ℕ). length l < 2 ^ 32) (sym (append-nil text)) small in
      inr (subst (λ (l : List ℕ). IsRefusal (Run fuel) l said) (append-nil text) (away fuel true text [] said same t (λ e. refl)))

  pub one-said : OneOutputLaw → OneSaidLaw
  unfolding said-output
  one-said one fuel text a b small s t = one (Run fuel) text a b (said-output fuel text a small s) (said-output fuel text b small t)

  begun : OneOutputLaw → (fuel : ℕ) (text said out : List ℕ) → length text < 2 ^ 32 → Begins (IsSaidFor fuel text) said → IsOutput (Run fuel) text out → IsPrefix said out
  unfolding said-output
  begun one fuel text said out small (inl none) o = record { rest = out; same = ap (λ (l : List ℕ). l ++ out) none }
  begun one fuel text said out small (inr (whole, s, p)) o =
      record { rest = p.rest; same = p.same ∙ one (Run fuel) text whole out (said-output fuel text whole small s) o }

  pub said-begins : OneOutputLaw → BeginningLaw
  unfolding IsBeginning begun
  said-begins one e more out h over small o = begun one e.fuel (e.heard ++ more) e.said out small (h more over) o
