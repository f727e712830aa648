-- A call has one record to which the checker says yes, up to the numbers of core blocks, where its run ends.
use Rattle.std.proofs.Common.{◌≡◌, ◌+◌, ◌≤◌, ℕ, true, Option, Some, None, List, sym, ap, ◌∙◌, subst, arith}
use Rattle.std.specs.List.{list_all}
use Rattle.ceal_base.proofs.TraceLemmas.{trace-flat, steps-flat}
use Rattle.ceal_base.specs.Block.{Block, Blocks}
use Rattle.ceal_base.specs.Finished.{Finished}
use Rattle.ceal_base.specs.Same.{index_of}
use Rattle.ceal_base.specs.Trace.{Trace, flat, trace_of, steps_in}
use Rattle.ceal_base.specs.declared.call.Call.{Call}
use Rattle.ceal_base.specs.declared.recorded.Record.{Record}
use Rattle.ceal_base.specs.declared.word.Word.{Word}
use Rattle.ceal_code.proofs.Alike.AlikeSteps.{steps-alike}
use Rattle.ceal_code.specs.Fitting.{Fits}
use Rattle.ceal_code.specs.Fresh.{fresh}
use Rattle.ceal_code.specs.Program.{Code}
use Rattle.ceal_code.specs.Replay.{IsHonest, Replays}
use Rattle.ceal_record.proofs.Left.{ordered}
use Rattle.ceal_record.specs.Certificates.{Certified, IsMemoryOf, IsOfCall, OneRunLaw, SameRun, SomeCertificateLaw}
use Rattle.ceal_record.specs.Laws.{SomeRecordLaw}
use Rattle.ceal_record.specs.Recorded.{IsRecordOf, in_order, numbers_of}
use Rattle.ceal_theory.specs.Computed.{Repaired, first_of}
use Rattle.ceal_theory.specs.Laws.{FirstLaw, FirstOutcome, FirstTrace, UniqueLaw}
use Rattle.ceal_theory.specs.Named.{RenamedBy, RenamingLaw}
use Rattle.ceal_traceck.specs.Laws.{Sound, SoundLaw}
use Rattle.ceal_traceck.specs.Verdicts.{Means, has_known_shape}
use Rattle.ceal_traceck.specs.declared.verdict.Verdict.TheVariants.{Yes}

-- two traces with the same items are one
one-trace : (l m : Trace) → flat l ≡ flat m → l ≡ m
one-trace l m e =
    let same : Some l ≡ Some m = sym (trace-flat l) ∙ (ap trace_of e ∙ trace-flat m) in
    cc same

abbrev memory_in : Blocks → Option Finished → Blocks
memory_in m None = m
memory_in m (Some run) = run.memory

-- what a yes says of the trace, on the call and the inputs
record Honest (code : Code) (inputs : List Block) (call : Call) (r : Record) (m : Blocks) (n : ℕ) : Type 0 where
  trace : Trace
  items : r.forest ≡ flat trace
  fits : Fits code inputs call.function call.args
  replays : Replays code inputs call.function call.args trace
  honest : IsHonest code inputs trace
  memory : IsMemoryOf r trace m
  ends : (other : Blocks) → memory_in other (fresh code call.function call.args inputs n) ≡ m

module _ (sound : SoundLaw) (unique : UniqueLaw) (code : Code) (inputs : List Block) (call : Call) where
  -- on the call and the inputs
  on-call : (r : Record) → IsOfCall inputs call r → (P : List Block → ℕ → List Word → Type 0) → P r.inputs r.function r.args → P inputs call.function call.args
  on-call r is P x = subst (λ i. P i call.function call.args) is.inputs_are (subst (λ f. P r.inputs f call.args) is.function (subst (λ a. P r.inputs r.function a) is.args x))

  of-yes : (r : Record) (is : IsOfCall inputs call r) (h : Means code r Yes) (n : ℕ) → steps_in r.forest ≤ n → Honest code inputs call r (sound code r h).memory n
  of-yes r is h n room =
      let s : Sound code r = sound code r h in
      let same : h.1.0 ≡ s.trace = one-trace h.1.0 s.trace (sym h.1.1.items ∙ s.items) in
      record {
        trace = s.trace;
        items = s.items;
        fits = on-call r is (λ i f a. Fits code i f a) h.0.call;
        replays = on-call r is (λ i f a. Replays code i f a s.trace) (subst (λ l. Replays code r.inputs r.function r.args l) same h.1.1.replays);
        honest = subst (λ i. IsHonest code i s.trace) is.inputs_are (subst (λ l. IsHonest code r.inputs l) same h.1.2);
        memory = s.same;
        ends = λ other. on-call r is (λ i f a. memory_in other (fresh code f a i n) ≡ s.memory) (ap (memory_in other) (s.ends n room));
      }

  one-run : (r s : Record) → IsOfCall inputs call r → IsOfCall inputs call s → Means code r Yes → Means code s Yes → SameRun r s
  one-run r s a b h k =
      let n = steps_in r.forest + steps_in s.forest in
      let left = of-yes r a h n (omega arith) in
      let right = of-yes s b k n (omega arith) in
      let m : Blocks = (sound code r h).memory in
      let memories : (sound code s k).memory ≡ m = sym (right.ends m) ∙ left.ends m in
      record {
        left = left.trace;
        right = right.trace;
        left_items = left.items;
        right_items = right.items;
        traces = (unique code inputs call.function call.args left.fits left.trace right.trace left.replays right.replays left.honest right.honest).traces;
        memory = m;
        left_memory = left.memory;
        right_memory = subst (λ x. IsMemoryOf s right.trace x) memories right.memory;
      }

pub one-run-law : SoundLaw → UniqueLaw → OneRunLaw
one-run-law sound unique code inputs call r s a b h k = one-run sound unique code inputs call r s a b h k

module _ (records : SomeRecordLaw) (renaming : RenamingLaw) (code : Code) (inputs : List Block) (call : Call) (fits : Fits code inputs call.function call.args)
    (shapes : list_all (has_known_shape code.structs) inputs ≡ true) where
  -- the record of the first trace
  of-first : (run : Finished) (a : Repaired) → FirstTrace code inputs call.function call.args a run → Certified code inputs call run
  unfolding in_order
  of-first run a h =
      let found = records code inputs call a.items in
      let r : Record = found.0 in
      let is : IsRecordOf code inputs call a.items r = found.1 in
      let t : Trace = in_order a.items in
      let named : RenamedBy code inputs call.function call.args (index_of (numbers_of a.items)) a.items = ordered renaming code inputs call.function call.args fits a.items h.replays in
      let on-record : (P : List Block → ℕ → List Word → Type 0) → P inputs call.function call.args → P r.inputs r.function r.args
      = λ P x. subst (λ i. P i r.function r.args) (sym is.blocks) (subst (λ f. P inputs f r.args) (sym is.function) (subst (λ w. P inputs call.function w) (sym is.args) x)) in
      record {
        kept = r;
        of = record { inputs_are = is.blocks; function = is.function; args = is.args };
        steps = ap steps_in is.items ∙ (steps-flat t ∙ (sym (steps-alike named.alike) ∙ h.steps));
        yes = (
          record {
            call = on-record (λ i f w. Fits code i f w) fits;
            shapes = subst (λ i. list_all (has_known_shape code.structs) i ≡ true) (sym is.blocks) shapes;
          },
          (
            t,
            record { items = is.items; replays = on-record (λ i f w. Replays code i f w t) named.replays },
            subst (λ i. IsHonest code i t) (sym is.blocks) (named.honest h.honest),
            is.memory,
          ),
        );
      }

  by-outcome : (run : Finished) (o : Option Repaired) (q : Option Finished) → FirstOutcome code inputs call.function call.args o q → q ≡ Some run → Certified code inputs call run
  by-outcome run _ _ FirstOutcome.none there = absurd (cc there)
  by-outcome run _ _ (FirstOutcome.some {a = a} {r = r} h) there =
      let same : r ≡ run = cc there in
      of-first run a (subst (λ (x : Finished). FirstTrace code inputs call.function call.args a x) same h)

pub some-certificate : FirstLaw → SomeRecordLaw → RenamingLaw → SomeCertificateLaw
some-certificate first records renaming code inputs call fuel run fits shapes ends =
    by-outcome records renaming code inputs call fits shapes run (first_of code inputs fuel call.function call.args) (fresh code call.function call.args inputs fuel)
    (first code inputs call.function call.args fits fuel) ends
