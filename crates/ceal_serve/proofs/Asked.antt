-- What the words ask for.
use Rattle.std.proofs.Common.{◌≡◌, ◌≢◌, inl, ℕ, Option, Some, None, List, [], ◌∷◌, codes, refl, sym, subst}
use Rattle.std.specs.Prelude.{IfSome, MatchOption}
use Rattle.ceal_cli.specs.Modes.{Text, Asks, AreDefined}
use Rattle.ceal_cli.specs.declared.words.Mode.{Mode}
use Rattle.ceal_cli.specs.declared.words.Mode.TheVariants.{Run}
use Rattle.ceal_cli.proofs.Options.OneMode.{one_mode}
use Rattle.ceal_serve.specs.Exchange.{Exchange, IsBegun}
use Rattle.ceal_serve.specs.Turns.{IsBeginning}
use Rattle.ceal_serve.specs.Words.{AskToServe, AskForNothing}
use Rattle.ceal_serve.proofs.Hearing.{known-same}

module _ (words all : List Text) (same : all ≡ codes "run" ∷ words) where
  as-asked : (fuel : ℕ) → AskToServe words fuel → Asks all (Run fuel)
  as-asked fuel asks = subst (λ (l : List Text). Asks l (Run fuel)) (sym same) asks

  pub asked-nothing : (AreDefined all → ⊥) → AskForNothing words
  unfolding as-asked
  asked-nothing none fuel asks = none (Run fuel, as-asked fuel asks)

  -- of a mode that the words ask for
  pub asked-run : (mode : Mode) (found : Option ℕ) → Asks all mode → MatchOption found ((fuel : ℕ) → mode ≢ Run fuel) (λ fuel. mode ≡ Run fuel)
      → MatchOption found (AskForNothing words) (λ fuel. AskToServe words fuel)
  unfolding as-asked
  asked-run mode None asks other = λ fuel run. other fuel (one_mode all mode (Run fuel) asks (as-asked fuel run))
  asked-run mode (Some fuel) asks is = subst (λ (l : List Text). Asks l (Run fuel)) same (subst (λ m. Asks all m) is asks)

-- a conversation that begins with the fuel that words ask for
abbrev pub BeginsAsAsked : List Text → Exchange → Type 0
BeginsAsAsked words e = (fuel : ℕ) → AskToServe words fuel → IsBegun fuel e

pub begun-asked : (words : List Text) (fuel : ℕ) (o : Option Exchange) → AskToServe words fuel → IfSome o (BeginsAsAsked words) → IfSome o (IsBegun fuel)
begun-asked words fuel o asks h = known-same o o (BeginsAsAsked words) (IsBegun fuel) refl (λ e b. b fuel asks) h

-- if the words ask for something nothing was said yet
unsaid-list : (said : List ℕ) → ((said ≡ [] → ⊥) → ⊥) → said ≡ []
unsaid-list [] h = refl
unsaid-list (b ∷ bs) h = absurd (h (λ e. cc e))

pub asked-begins : (words : List Text) (o : Option Exchange) → (AskForNothing words → ⊥) → IfSome o (BeginsAsAsked words) → IfSome o IsBeginning
unfolding IsBeginning
asked-begins words o some h =
    known-same o o (BeginsAsAsked words) IsBeginning refl (λ e b. λ more over. inl (unsaid-list e.said (λ other. some (λ fuel asks. other (b fuel asks).unsaid)))) h
