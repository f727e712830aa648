-- By what a sink has grown.
use Rattle.std.specs.Prelude.{◌≤◌, ℕ, List, Option, Result, OnOk, IsErrOf}
use Rattle.std.specs.Io.KnownBytes.{Appends}
use Rattle.ceal_io.specs.Streams.{Rose}
use Rattle.ceal_io.specs.declared.streams.Stopped.{Stopped}
use Rattle.ceal_io.specs.declared.streams.Stopped.TheVariants.{Failed}
use Rattle.ceal_cli.specs.Output.{AreFirstReplies, Begins, IsAnswer, IsRefusal, IsOutput, IsGenerated}
use Rattle.ceal_cli.specs.declared.words.Mode.{Mode}
use Rattle.ceal_gen.specs.declared.kind.Workload.{Workload}

-- known bytes have grown by a text of this sort
pub record Grows (old now : Option (List ℕ)) (P : List ℕ → Type 0) : Type 0 where
  pub out : List ℕ
  pub is : P out
  pub appends : Appends old now out

-- What a call that writes does to its sink, of which the known bytes and the count of faults are told, before it and
-- after it. It is the contract of each call that writes; what texts it speaks of is all that differs.
pub record Puts
    {A : Type 0} (result : Result A Stopped) (old now : Option (List ℕ)) (before after : ℕ)
    (Whole Part : List ℕ → Type 0) : Type 0 where
  -- where it went well, a text of the one sort was written
  pub all : OnOk result (Grows old now Whole)
  -- in every case one of the other sort was
  pub part : Grows old now Part
  -- the call says that writing failed only where the sink did
  pub fault : IsErrOf result Failed → Rose before after
  -- the count of faults never falls
  pub later : before ≤ after

-- It writes a text of this sort; where it stops on the way, nothing or the beginning of one was written.
abbrev pub Writes
    : {A : Type 0} → Result A Stopped → Option (List ℕ) → Option (List ℕ) → ℕ → ℕ → (List ℕ → Type 0) → Type 0
Writes result old now before after P = Puts result old now before after P (Begins P)

-- by the answer to this input, which is taken
abbrev pub WritesAnswer : Option (List ℕ) → Option (List ℕ) → Mode → List ℕ → Type 0
WritesAnswer old now mode input = Grows old now (λ out. IsAnswer mode input out)

-- by the line of the first fault of this input, or of what is wrong with its save
abbrev pub WritesRefusal : Option (List ℕ) → Option (List ℕ) → Mode → List ℕ → Type 0
WritesRefusal old now mode input = Grows old now (λ out. IsRefusal mode input out)

-- by the output for this input
abbrev pub WritesOutput : Option (List ℕ) → Option (List ℕ) → Mode → List ℕ → Type 0
WritesOutput old now mode input = Grows old now (λ out. IsOutput mode input out)

-- by the beginning of the output for this input
abbrev pub WritesPrefix : Option (List ℕ) → Option (List ℕ) → Mode → List ℕ → Type 0
WritesPrefix old now mode input =
    Grows old now (λ out. Begins (λ whole. IsOutput mode input whole) out)

-- by the replies to the first lines of the script, each of them whole
abbrev pub WritesFirst : Option (List ℕ) → Option (List ℕ) → ℕ → List ℕ → Type 0
WritesFirst old now fuel input = Grows old now (λ out. AreFirstReplies fuel input out)

-- by the output for a workload
abbrev pub WritesGenerated : Option (List ℕ) → Option (List ℕ) → Workload → ℕ → ℕ → Type 0
WritesGenerated old now kind seed size = Grows old now (λ out. IsGenerated kind seed size out)

-- by the beginning of the output for a workload
abbrev pub WritesGeneratedPrefix : Option (List ℕ) → Option (List ℕ) → Workload → ℕ → ℕ → Type 0
WritesGeneratedPrefix old now kind seed size =
    Grows old now (λ out. Begins (λ whole. IsGenerated kind seed size whole) out)
