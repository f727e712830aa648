-- An input with the source part of another one, and with another script.
use Rattle.std.proofs.Common.{◌≡◌, ◌<◌, ◌^◌, inl, inr, ℕ, true, Result, List, ◌++◌, length, take, sym, ap, ◌∙◌, subst}
use Rattle.std.proofs.Math.Seq.{take-append_seam}
use Rattle.ceal_base.specs.declared.fault.Fault.{Fault}
use Rattle.ceal_base.specs.declared.fault.Span.{Span}
use Rattle.ceal_base.specs.declared.typed.Typed.{Typed}
use Rattle.ceal_compile.specs.Source.{PartComes}
use Rattle.ceal_lex.specs.Faults.{IsFirstFault}
use Rattle.ceal_lex.specs.Parts.{IsMarked, IsSplit, PartsAre, source_of}
use Rattle.ceal_lex.specs.Tokens.{AreTokens}
use Rattle.ceal_lex.specs.declared.parts.Split.{Split}
use Rattle.ceal_cli.specs.Lines.{script_of}
use Rattle.ceal_cli.specs.Output.{Programmed}
use Rattle.ceal_cli.specs.Saves.{mark_line}
use Rattle.ceal_cli.proofs.Inputs.FirstMark.{other-behind, put-parts, put-script, put-source, put-split}
use Rattle.ceal_cli.proofs.Inputs.OneReading.{SplitLaw}

-- The bytes have the same result after another input.
module _ (input other : List ℕ) (part there : Split) (source : source_of input part ≡ source_of other there) (marked : part.marked ≡ there.marked) where
  pub comes-again : (r : Result Typed Fault) → PartComes input part r → PartComes other there r
  comes-again r (inl h) = inl (record { fault = h.fault; stands = subst (λ b. IsFirstFault b h.fault) source h.stands; same = h.same })
  comes-again r (inr h) =
      inr (record {
        tokens = h.tokens;
        lexed = subst (λ k. AreTokens (source_of other there) k h.tokens) marked (subst (λ b. AreTokens b part.marked h.tokens) source h.lexed);
        come = h.come;
      })

-- so the program of the one is read from the other
abbrev pub program-there : SplitLaw → (input other : List ℕ) (p : Programmed input) (there : Split) → IsSplit other there
    → source_of input p.part ≡ source_of other there → p.part.marked ≡ there.marked → Programmed other
program-there split input other p there again source marked =
    let same : p.reads.part ≡ p.part = split input p.reads.part p.part p.reads.split p.split in
    let bytes : source_of input p.reads.part ≡ source_of other there = ap (source_of input) same ∙ source in
    let marks : p.reads.part.marked ≡ there.marked = ap (λ (s : Split). s.marked) same ∙ marked in
    record {
      part = there;
      split = again;
      program = p.program;
      reads = record { part = there; split = again; comes = comes-again input other p.reads.part there bytes marks _ p.reads.comes };
      code = p.code;
      is_code = p.is_code;
    }

-- other bytes after the first mark
module _ (input : List ℕ) (part : Split) (split : IsSplit input part) (marked : part.marked ≡ true) where
  has-mark : IsMarked input part
  has-mark = subst (λ b. PartsAre b input part) marked split.parts

  -- the source part is what is before the mark
  source-before : source_of input part ≡ has-mark.before
  source-before =
      let to : part.source.to ≡ length has-mark.before = ap (λ (s : Span). s.to) has-mark.source in
      ap (λ n. take n input) to ∙ (ap (take (length has-mark.before)) has-mark.first.mark.whole ∙ take-append_seam has-mark.before (has-mark.first.mark.line ++ has-mark.after))

  module _ (rest other : List ℕ) (other_is : other ≡ source_of input part ++ (mark_line ++ rest)) (small : length other < 2 ^ 32) where
    pub other-parts : Split
    other-parts = put-parts has-mark.before rest

    from-before : other ≡ has-mark.before ++ (mark_line ++ rest)
    from-before = other_is ∙ ap (λ b. b ++ (mark_line ++ rest)) source-before

    pub other-split : IsSplit other other-parts
    unfolding other-parts
    other-split =
        let short = subst (λ t. length t < 2 ^ 32) from-before small in
        subst (λ t. IsSplit t other-parts) (sym from-before) (put-split has-mark.before rest short (other-behind input has-mark.before has-mark.after rest has-mark.first))

    pub other-source : source_of input part ≡ source_of other other-parts
    unfolding other-parts
    other-source = source-before ∙ (sym (put-source has-mark.before rest) ∙ ap (λ t. source_of t other-parts) (sym from-before))

    pub other-marked : part.marked ≡ other-parts.marked
    unfolding other-parts
    other-marked = marked

    pub other-script : script_of other other-parts ≡ rest
    unfolding other-parts
    other-script = ap (λ t. script_of t other-parts) from-before ∙ put-script has-mark.before rest
