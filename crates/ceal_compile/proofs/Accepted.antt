-- An accepted input is compiled: each phase hands on what the next one asks.
use Rattle.std.proofs.Common.{◌≡◌, true, inl, inr, IsOk, Option, Some, None, Result, Ok, Err, List, ℕ, slice_get, refl, sym, ap, subst, ◌∙◌}
use Rattle.ceal_base.specs.Usage.{KeepsUsage}
use Rattle.ceal_base.specs.WellTyped.{WellTyped}
use Rattle.ceal_base.specs.declared.fault.Fault.{Fault}
use Rattle.ceal_base.specs.declared.fault.Span.{Span}
use Rattle.ceal_base.specs.declared.syntax.Tree.{Tree}
use Rattle.ceal_base.specs.declared.typed.Typed.{Typed}
use Rattle.ceal_code.specs.Fresh.{fresh as code_fresh}
use Rattle.ceal_code.specs.Valid.{valid}
use Rattle.ceal_flow.specs.Laws.{RunLaw as Graph_run_law}
use Rattle.ceal_flow.specs.Lowering.{BLOCKS, function_places, lowered_at}
use Rattle.ceal_fold.specs.Laws.{RunLaw as Folding_run_law, ValidLaw as Folding_valid_law}
use Rattle.ceal_lex.specs.declared.parts.Split.{Split}
use Rattle.ceal_lex.specs.declared.token.Token.{Token}
use Rattle.ceal_norm.specs.Laws.{RunLaw as Units_run_law, ValidLaw as Units_valid_law, source_of}
use Rattle.ceal_norm.specs.Units.{code_of}
use Rattle.ceal_types.specs.Checked.{checked}
use Rattle.ceal_types.specs.Laws.{TypedLaw}
use Rattle.ceal_types.specs.Limits.{HasShortLists}
use Rattle.ceal_usage.specs.Faults.{usage_faults}
use Rattle.ceal_usage.specs.Laws.{KeptLaw}
use Rattle.ceal_usage.specs.Verdict.{verdict}
use Rattle.ceal_compile.specs.Laws.{CompiledLaw, SomeCodeLaw, SomeCompiledLaw}
use Rattle.ceal_compile.specs.Phases.{counted, ruled, TokensCome}
use Rattle.ceal_compile.specs.Source.{IsProgram, PartComes}
use Rattle.ceal_compile.specs.declared.program.Program.{Program}
use Rattle.ceal_compile.proofs.Answering.{Answer}
use Rattle.ceal_compile.proofs.ShortLists.{short_lists}

-- the program is well typed and keeps the rules of usage
pub record Ready (p : Typed) : Type 0 where
  pub typed : WellTyped p
  pub usage : KeepsUsage p

-- this program was answered
abbrev Answers : Answer → Typed → Type 0
Answers r q = r ≡ Ok q

-- the limit changes no program
same_counted : (p q : Typed) (o : Option Span) → Answers (elim (lowered_at p o) [ Ok g ↦ Ok p | Err f ↦ Err f ]) q → p ≡ q
same_counted p q None e = cc e
same_counted p q (Some at) e = absurd (cc e)

same_usage : (p q : Typed) (r : Result (Unit {0}) Fault) → Answers (elim r [ Ok u ↦ counted p | Err f ↦ Err f ]) q → (p ≡ q) × IsOk r
same_usage p q (Ok u) e = (same_counted p q (slice_get (function_places p.functions) BLOCKS) e, refl)
same_usage p q (Err f) e = absurd (cc e)

module _ (typed_law : TypedLaw) (kept_law : KeptLaw) where
  ready_from : (tree : Tree) (q : Typed) (r : Answer) → HasShortLists tree → checked tree ≡ r → Answers (elim r [ Ok p ↦ ruled p | Err f ↦ Err f ]) q → Ready q
  ready_from tree q (Ok p) short is e =
      let same = same_usage p q (verdict (usage_faults p)) e in
      let here : Ready p = record { typed = typed_law tree p short is; usage = (kept_law p).0 same.1 } in
      subst Ready same.0 here
  ready_from tree q (Err f) short is e = absurd (cc e)

  ready_tokens : (ts : List Token) (q : Typed) → TokensCome ts (Ok q) → Ready q
  ready_tokens ts q (inl m) = absurd (cc m.same)
  ready_tokens ts q (inr p) = ready_from p.tree q (checked p.tree) (short_lists ts p.tree p.accepted) refl (sym p.same)

  ready_part : (input : List ℕ) (part : Split) (q : Typed) → PartComes input part (Ok q) → Ready q
  ready_part input part q (inl m) = absurd (cc m.same)
  ready_part input part q (inr p) = ready_tokens p.tokens q p.come

  pub ready : (input : List ℕ) (q : Typed) → IsProgram input q → Ready q
  ready input q h = ready_part input h.part q h.comes

  module _ (graph_run : Graph_run_law) (units_valid : Units_valid_law) (units_run : Units_run_law) (folding_valid : Folding_valid_law) (folding_run : Folding_run_law) where
    pub compiled : CompiledLaw
    compiled input p reads c =
        let r = ready input p.typed reads in
        let units : c.unfolded ≡ code_of (source_of p.typed c.units.live) = c.units.same in
        let whole : valid c.unfolded ≡ true = ap valid units ∙ units_valid p.typed c.units.live r.typed r.usage c.units.exact_live in
        let is : valid p.code ≡ true = ap valid c.same ∙ folding_valid c.unfolded whole in
        record {
          typed = r.typed;
          usage = r.usage;
          code = c;
          valid = is;
          means = λ f args inputs fuel core. ap (λ k. code_fresh k f args inputs fuel) c.same ∙ folding_run c.unfolded whole f args inputs fuel
              ∙ ap (λ k. code_fresh k f args inputs fuel) units ∙ units_run p.typed c.units.live r.typed r.usage c.units.exact_live f args inputs fuel core
              ∙ graph_run p.typed r.usage f args inputs fuel core;
        }

pub some_compiled : CompiledLaw → SomeCodeLaw → SomeCompiledLaw
some_compiled compiled codes input a =
    let c = codes a.0 in
    let p : Program = record { typed = a.0; code = c.0 } in (p, a.1, compiled input p a.1 c.1)
