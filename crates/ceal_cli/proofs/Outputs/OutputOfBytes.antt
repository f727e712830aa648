-- From the bytes that were read to the input that the source told.
use Rattle.std.proofs.Common.{arith, ◌≡◌, ◌<◌, ◌≤◌, ◌⊎◌, inl, inr, ℕ, Option, Some, None, List, [], ◌++◌, length, IfSome, refl, sym, ap, ◌∙◌, subst, append-nil}
use Rattle.std.specs.Io.KnownBytes.{Consumes, IsAtEnd, Keeps}
use Rattle.std.proofs.KnownBytes.{Consumes-nil, Keeps-refl}
use Rattle.ceal_cli.specs.SinkGrowth.{WritesAnswer, WritesRefusal, WritesOutput, WritesPrefix, WritesFirst, WritesGenerated, WritesGeneratedPrefix}
use Rattle.ceal_cli.specs.Laws.{AnsweredLaw, UntakenLaw}
use Rattle.ceal_cli.specs.Output.{AreFirstReplies, Begins, IsOutput, IsTaken}
use Rattle.ceal_cli.specs.ReadBack.{WritesReadable}
use Rattle.ceal_cli.specs.declared.top.Status.{Status}
use Rattle.ceal_cli.specs.declared.top.TheConstants.{INPUT_LIMIT}
use Rattle.ceal_cli.specs.Modes.{ReadsInput}
use Rattle.ceal_io.specs.Streams.{LosesAtMost}
use Rattle.ceal_cli.specs.declared.words.Mode.{Mode}
use Rattle.ceal_cli.specs.declared.words.Mode.TheVariants.{Gen}
use Rattle.ceal_gen.specs.declared.kind.Workload.{Workload}
use Rattle.ceal_cli.proofs.Sessions.GrowingReplies.{nothing, weaker}
use Rattle.ceal_cli.specs.declared.top.Status.TheVariants.{Done, Refused, Memory, WriteFault}

-- what was read up to the end is the input
whole_input : (old new : Option (List ℕ)) (bytes text : List ℕ) → Consumes old new bytes → IsAtEnd new → text ≡ bytes → IfSome old (λ input. text ≡ input)
whole_input None new bytes text all at_end same = tt
whole_input (Some xs) None bytes text all at_end same = absurd all
whole_input (Some xs) (Some ys) bytes text all at_end same =
    same ∙ sym (append-nil bytes) ∙ ap (λ (l : List ℕ). bytes ++ l) (sym at_end) ∙ sym all

carried : (old : Option (List ℕ)) (text : List ℕ) (P : List ℕ → Type 0) → IfSome old (λ input. text ≡ input) → P text → IfSome old P
carried None text P e h = tt
carried (Some xs) text P e h = subst P e h

for_any : (old : Option (List ℕ)) (P : List ℕ → Type 0) → ((input : List ℕ) → P input) → IfSome old P
for_any None P h = tt
for_any (Some xs) P h = h xs

module _ (old new : Option (List ℕ)) (bytes text : List ℕ) (all : Consumes old new bytes) (at_end : IsAtEnd new) (same : text ≡ bytes) where
  for_input : (P : List ℕ → Type 0) → P text → IfSome old P
  for_input P h = carried old text P (whole_input old new bytes text all at_end same) h

  pub output_for : (a b : Option (List ℕ)) (mode : Mode) → WritesOutput a b mode text → IfSome old (λ input. WritesOutput a b mode input)
  output_for a b mode h = for_input (λ input. WritesOutput a b mode input) h

  pub answer_for : (a b : Option (List ℕ)) (mode : Mode) → AnsweredLaw → IsTaken mode text → WritesOutput a b mode text → IfSome old (λ input. WritesAnswer a b mode input)
  answer_for a b mode law taken h = for_input (λ input. WritesAnswer a b mode input) (weaker (λ out is. law mode text out taken is) h)

  pub refusal_for : (a b : Option (List ℕ)) (mode : Mode) → UntakenLaw → ReadsInput mode → (IsTaken mode text → ⊥) → WritesOutput a b mode text
      → IfSome old (λ input. WritesRefusal a b mode input)
  refusal_for a b mode law reads none h = for_input (λ input. WritesRefusal a b mode input) (weaker (λ out is. law mode text out reads none is) h)

  pub readable_for : (a b : Option (List ℕ)) (mode : Mode) → WritesReadable a b mode text → IfSome old (λ input. WritesReadable a b mode input)
  readable_for a b mode h = for_input (λ input. WritesReadable a b mode input) h

  pub prefix_for : (a b : Option (List ℕ)) (mode : Mode) → WritesPrefix a b mode text → IfSome old (λ input. WritesPrefix a b mode input)
  prefix_for a b mode h = for_input (λ input. WritesPrefix a b mode input) h

  pub first_for : (a b : Option (List ℕ)) (fuel : ℕ) → WritesFirst a b fuel text → IfSome old (λ input. WritesFirst a b fuel input)
  first_for a b fuel h = for_input (λ input. WritesFirst a b fuel input) h

  -- an input that was read is not too long
  pub beyond_for : (P : Type 0) → length text ≤ INPUT_LIMIT → IfSome old (λ input. INPUT_LIMIT < length input → P)
  beyond_for P short = for_input (λ input. INPUT_LIMIT < length input → P) (λ long. absurd (omega (arith, short, long)))

  pub short_for : length text ≤ INPUT_LIMIT → IfSome old (λ input. length input ≤ INPUT_LIMIT)
  short_for h = for_input (λ input. length input ≤ INPUT_LIMIT) h

  module _ (mode : Mode) where
    pub taken_for : IsTaken mode text → IfSome old (λ input. IsTaken mode input)
    taken_for h = for_input (λ input. IsTaken mode input) h

    pub refused_for : (IsTaken mode text → ⊥) → IfSome old (λ input. IsTaken mode input → ⊥)
    refused_for h = for_input (λ input. IsTaken mode input → ⊥) h

    pub done_for : (R S : Type 0) → IfSome old (λ input. length input ≤ INPUT_LIMIT → IsTaken mode input → R → S → (Done ≡ Done) ⊎ (Done ≡ Memory))
    done_for R S = for_input (λ input. length input ≤ INPUT_LIMIT → IsTaken mode input → R → S → (Done ≡ Done) ⊎ (Done ≡ Memory)) (λ short h r s. inl refl)

    pub not_taken_for : (R S : Type 0) → IfSome old (λ input. length input ≤ INPUT_LIMIT → (IsTaken mode input → ⊥) → R → S → (Refused ≡ Refused) ⊎ (Refused ≡ Memory))
    not_taken_for R S =
        for_input (λ input. length input ≤ INPUT_LIMIT → (IsTaken mode input → ⊥) → R → S → (Refused ≡ Refused) ⊎ (Refused ≡ Memory)) (λ short none r s. inl refl)

    pub not_refused_for : (R S : Type 0) → IsTaken mode text
        → IfSome old (λ input. length input ≤ INPUT_LIMIT → (IsTaken mode input → ⊥) → R → S → (Done ≡ Refused) ⊎ (Done ≡ Memory))
    not_refused_for R S h =
        for_input (λ input. length input ≤ INPUT_LIMIT → (IsTaken mode input → ⊥) → R → S → (Done ≡ Refused) ⊎ (Done ≡ Memory)) (λ short none r s. absurd (none h))

    pub not_done_for : (R S : Type 0) → (IsTaken mode text → ⊥)
        → IfSome old (λ input. length input ≤ INPUT_LIMIT → IsTaken mode input → R → S → (Refused ≡ Done) ⊎ (Refused ≡ Memory))
    not_done_for R S none =
        for_input (λ input. length input ≤ INPUT_LIMIT → IsTaken mode input → R → S → (Refused ≡ Done) ⊎ (Refused ≡ Memory)) (λ short h r s. absurd (none h))

-- what was written while nothing was
pub none_for : (left a : Option (List ℕ)) (mode : Mode) → IfSome left (λ input. WritesPrefix a a mode input)
none_for left a mode = for_any left (λ input. WritesPrefix a a mode input) (λ input. nothing a (λ out. Begins (λ whole. IsOutput mode input whole) out) (inl refl))

pub none_first_for : (left a : Option (List ℕ)) (fuel : ℕ) → IfSome left (λ input. WritesFirst a a fuel input)
none_first_for left a fuel = for_any left (λ input. WritesFirst a a fuel input) (λ input. nothing a (λ out. AreFirstReplies fuel input out) (inl refl))

pub kept_for : (left a : Option (List ℕ)) → IfSome left (λ input. INPUT_LIMIT < length input → Keeps a a)
kept_for left a = for_any left (λ input. INPUT_LIMIT < length input → Keeps a a) (λ input long. Keeps-refl a)

-- What is written for a workload is the output for any input.
module _ (left a b : Option (List ℕ)) (kind : Workload) (seed size : ℕ) where
  pub any_output : WritesGenerated a b kind seed size → IfSome left (λ input. WritesOutput a b (Gen kind seed size) input)
  any_output h = for_any left (λ input. WritesOutput a b (Gen kind seed size) input) (λ input. weaker (λ out is. inl is) h)

  pub any_answer : WritesGenerated a b kind seed size → IfSome left (λ input. WritesAnswer a b (Gen kind seed size) input)
  any_answer h = for_any left (λ input. WritesAnswer a b (Gen kind seed size) input) (λ input. h)

  pub any_prefix : WritesGeneratedPrefix a b kind seed size → IfSome left (λ input. WritesPrefix a b (Gen kind seed size) input)
  any_prefix h = for_any left (λ input. WritesPrefix a b (Gen kind seed size) input) (λ input. weaker (λ out begins. elim begins [ inl e ↦ inl e | inr w ↦ inr (w.0, inl w.1, w.2) ]) h)

-- where nothing was read, nothing was lost
pub loses_none : (a : Option (List ℕ)) (count : ℕ) → LosesAtMost a a count
loses_none a count = ([], Consumes-nil a, omega arith)

-- a workload is never refused
pub no_refusal : (r : Status) → (r ≡ Done) ⊎ ((r ≡ Memory) ⊎ (r ≡ WriteFault)) → r ≡ Refused → ⊥
no_refusal r (inl e) is = let f : Done ≡ Refused = sym e ∙ is in absurd (cc f)
no_refusal r (inr (inl e)) is = let f : Memory ≡ Refused = sym e ∙ is in absurd (cc f)
no_refusal r (inr (inr e)) is = let f : WriteFault ≡ Refused = sym e ∙ is in absurd (cc f)
