-- A source is accepted where computing says so.
use Rattle.std.proofs.Common.{◌≡◌, ℕ, ◌-◌, ◌<◌, ◌^◌, Bool, true, false, Result, Ok, Err, List, [], ◌∷◌, ◌++◌, length, take, refl, sym, subst, inr}
use Rattle.std.proofs.lemmas.Bool.{false≢true}
use Rattle.ceal_base.specs.declared.fault.Fault.{Fault}
use Rattle.ceal_base.specs.declared.syntax.Tree.{Tree}
use Rattle.ceal_base.specs.declared.typed.Typed.{Typed}
use Rattle.ceal_compile.specs.Phases.{settled}
use Rattle.ceal_compile.specs.Source.{IsAccepted}
use Rattle.ceal_lex.specs.declared.token.Token.{Token}
use Rattle.ceal_lex.specs.Characters.{LINE_FEED}
use Rattle.ceal_lex.specs.Pieces.{Piece, spelled}
use Rattle.ceal_lex.specs.Tokens.{AreTokens, last_token, tokens_from}
use Rattle.ceal_grammar.specs.declared.state.State.TheVariants.{Top}
use Rattle.ceal_grammar.specs.Judged.{tree_or_fault}
use Rattle.ceal_grammar.proofs.Exact.{accepted}
use Rattle.ceal_cli.proofs.Accepted.Pieces.{all_may_stand, scanned}
use Rattle.ceal_cli.proofs.Accepted.Parts.{input, is_clear, part, source_is, split}
use Rattle.ceal_cli.proofs.Accepted.Stands.{all_stand}

-- the pieces that it is read into, and their tokens
abbrev pub pieces : List ℕ → List Piece
pieces source = scanned (length source) source

abbrev pub tokens : List ℕ → List Token
tokens source = tokens_from 0 (pieces source) ++ last_token true (length source) ∷ []

abbrev pub is_ok : {A : Type 0} → Result A Fault → Bool
is_ok (Ok x) = true
is_ok (Err f) = false

-- what the phases after the grammar make of a verdict of the grammar
abbrev pub comes : Result Tree Fault → Result Typed Fault
comes (Ok tree) = settled tree
comes (Err f) = Err f

-- The reading was right, no two `%` follow each other, the last line has its end, and the whole is a program.
-- Each is one evaluation.
pub record IsFine (source : List ℕ) : Type 0 where
  pub spelled : spelled (pieces source) [] ≡ source
  pub stand : all_may_stand (pieces source) ≡ true
  pub clear : is_clear source ≡ true
  pub ends : source ≡ take (length source - 1) source ++ LINE_FEED ∷ []
  pub program : is_ok (comes (tree_or_fault (Top []) (tokens source))) ≡ true

ok_of : {A : Type 0} → (r : Result A Fault) → is_ok r ≡ true → (x : A) × (r ≡ Ok x)
ok_of (Ok x) h = (x, refl)
ok_of (Err f) h = absurd (false≢true h)

program_of : (r : Result Tree Fault) → is_ok (comes r) ≡ true → (tree : Tree) × (r ≡ Ok tree) × (program : Typed) × (settled tree ≡ Ok program)
program_of (Ok tree) h = let p = ok_of (settled tree) h in (tree, refl, p.0, p.1)
program_of (Err f) h = absurd (false≢true h)

module _ (source script : List ℕ) (fine : IsFine source) where
  are_tokens : AreTokens source true (tokens source)
  are_tokens = record {
    pieces = pieces source;
    stand = all_stand (pieces source) fine.stand;
    spelled = fine.spelled;
    same = refl;
  }

  pub accepted_input : length (input source script) < 2 ^ 32 → IsAccepted (input source script)
  accepted_input small =
      let found = program_of (tree_or_fault (Top []) (tokens source)) fine.program in (
        found.2,
        record {
          part = part source script;
          split = split source script fine.clear (inr (take (length source - 1) source, fine.ends)) small;
          comes = inr (record {
            tokens = tokens source;
            lexed = subst (λ (x : List ℕ). AreTokens x true (tokens source)) (sym (source_is source script)) are_tokens;
            come = inr (record {
              tree = found.0;
              accepted = accepted (tokens source) found.0 found.1;
              same = sym found.3;
            });
          });
        },
      )
