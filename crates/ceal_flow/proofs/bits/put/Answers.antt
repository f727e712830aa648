use Rattle.std.proofs.Common.{◌≡◌, ◌<◌, Some, refl, sym, ap, subst, ◌∙◌, arith}
use Rattle.std.specs.Prelude.{slice_get}
use Rattle.ceal_flow.specs.declared.bits.Chunk.{Chunk}
use Rattle.ceal_flow.specs.Bits.{bits_of}
use Rattle.std.specs.Int.Bits.{or_zero_l, or_zero_r}
use Rattle.ceal_flow.proofs.BitFacts.{put-differs, put-new, put-there}
use Rattle.ceal_flow.proofs.ChunkFacts.{bits-here, bits-none, put-ascends, put-before, put-here, put-others, set-ascends, set-before, set-here, set-others}
use Rattle.ceal_flow.proofs.bits.put.Goals as goal

pub returns-then-bits-old-clause-here : goal.returns-then-bits-old-clause-here
returns-then-bits-old-clause-here c =
    let there = subst (λ xs. slice_get xs c.args.index ≡ Some (record { at = c.args.at; bits = c.in-Some.old })) c.as_slice.ensures.value c.in-Some.ensures.some in
    rw (bits-here 0 c.args.chunks.now.items c.args.index (record { at = c.args.at; bits = c.in-Some.old }) c.requires.ordered there)
    (sym c.if-bits-old.true ∙ c.joined-bits.ensures.value)

pub returns-else-bits-old-clause-here : goal.returns-else-bits-old-clause-here
returns-else-bits-old-clause-here c =
    let there = subst (λ xs. slice_get xs c.args.index ≡ Some (record { at = c.args.at; bits = c.in-Some.old })) c.as_slice.ensures.value c.in-Some.ensures.some in
    ap (λ xs. bits_of xs c.args.at) c.replace.ensures.value
    ∙ put-there c.args.chunks.now.items c.args.index c.args.at c.args.bits c.requires.ordered c.in-Some.old c.joined-bits.result
    c.joined-bits.ensures.value there

pub returns-else-bits-old-clause-others : goal.returns-else-bits-old-clause-others
returns-else-bits-old-clause-others c = λ k n.
    let there = subst (λ xs. slice_get xs c.args.index ≡ Some (record { at = c.args.at; bits = c.in-Some.old })) c.as_slice.ensures.value c.in-Some.ensures.some in
    ap (λ xs. bits_of xs k) c.replace.ensures.value
    ∙ set-others c.args.at c.in-Some.old c.joined-bits.result c.args.chunks.now.items c.args.index k there n

pub returns-else-bits-old-clause-more : goal.returns-else-bits-old-clause-more
returns-else-bits-old-clause-more c = λ e.
    let items = c.args.chunks.now.items in
    let there = subst (λ xs. slice_get xs c.args.index ≡ Some (record { at = c.args.at; bits = c.in-Some.old })) c.as_slice.ensures.value c.in-Some.ensures.some in
    let was = bits-here 0 items c.args.index (record { at = c.args.at; bits = c.in-Some.old }) c.requires.ordered there in
    let is : bits_of c.replace.new.chunks.items c.args.at ≡ c.joined-bits.result =
    ap (λ xs. bits_of xs c.args.at) c.replace.ensures.value
    ∙ set-here c.args.at c.in-Some.old c.joined-bits.result 0 items c.args.index c.requires.ordered there in
    let d = put-differs c.in-Some.old c.joined-bits.result c.args.bits c.joined-bits.ensures.value c.joined-bits.ensures.fits (λ s. c.if-bits-old.false (sym s)) in
    (d.bit, d.low, rw (was, is) d.apart)

pub returns-else-bits-old-clause-ordered : goal.returns-else-bits-old-clause-ordered
returns-else-bits-old-clause-ordered c =
    let there = subst (λ xs. slice_get xs c.args.index ≡ Some (record { at = c.args.at; bits = c.in-Some.old })) c.as_slice.ensures.value c.in-Some.ensures.some in
    rw c.replace.ensures.value
    (set-ascends c.args.at c.in-Some.old c.joined-bits.result 0 c.args.chunks.now.items c.args.index c.requires.ordered there)

pub returns-else-bits-old-clause-before : goal.returns-else-bits-old-clause-before
returns-else-bits-old-clause-before c =
    rw c.replace.ensures.value
    (set-before c.args.at c.in-Some.old c.joined-bits.result c.args.chunks.now.items c.args.index c.args.at c.requires.before)

pub returns-then-bits-eq0-clause-here : goal.returns-then-bits-eq0-clause-here
returns-then-bits-eq0-clause-here c = rw (c.if-bits-eq0.true, or_zero_r) refl

-- the chunk that is put in
pub returns-in_ok-insert-in-None-clause-here : goal.returns-in_ok-insert-in-None-clause-here
returns-in_ok-insert-in-None-clause-here c =
    let none = subst (λ xs. (d : Chunk) → slice_get xs c.args.index ≡ Some d → c.args.at < d.at) c.as_slice.ensures.value c.in-None.ensures.none in
    rw c.in_ok-insert-in-None.ensures.items (put-new c.args.chunks.now.items c.args.index c.args.at c.args.bits c.requires.ordered c.requires.before none c.requires.small)

pub returns-in_ok-insert-in-None-clause-others : goal.returns-in_ok-insert-in-None-clause-others
returns-in_ok-insert-in-None-clause-others c = λ k n.
    rw c.in_ok-insert-in-None.ensures.items (put-others (record { at = c.args.at; bits = c.args.bits }) c.requires.small c.args.chunks.now.items c.args.index k n)

pub returns-in_ok-insert-in-None-clause-more : goal.returns-in_ok-insert-in-None-clause-more
returns-in_ok-insert-in-None-clause-more c = λ e.
    let items = c.args.chunks.now.items in
    let none = subst (λ xs. (d : Chunk) → slice_get xs c.args.index ≡ Some d → c.args.at < d.at) c.as_slice.ensures.value c.in-None.ensures.none in
    let was = bits-none 0 items c.args.index c.args.at c.requires.ordered c.requires.before none in
    let is : bits_of c.insert.new.self.items c.args.at ≡ c.args.bits =
    ap (λ xs. bits_of xs c.args.at) c.in_ok-insert-in-None.ensures.items
    ∙ put-here (record { at = c.args.at; bits = c.args.bits }) c.requires.small items c.args.index c.requires.before in
    let d = put-differs 0 c.args.bits c.args.bits (sym (or_zero_l c.args.bits)) c.ranges.bits.fits (λ s. c.if-bits-eq0.false (sym s)) in
    (d.bit, d.low, rw (was, is) d.apart)

pub returns-in_ok-insert-in-None-clause-ordered : goal.returns-in_ok-insert-in-None-clause-ordered
returns-in_ok-insert-in-None-clause-ordered c =
    let none = subst (λ xs. (d : Chunk) → slice_get xs c.args.index ≡ Some d → c.args.at < d.at) c.as_slice.ensures.value c.in-None.ensures.none in
    rw c.in_ok-insert-in-None.ensures.items
    (put-ascends (record { at = c.args.at; bits = c.args.bits }) c.requires.small 0 c.args.chunks.now.items c.args.index c.requires.ordered (omega arith) c.requires.before none)

pub returns-in_ok-insert-in-None-clause-before : goal.returns-in_ok-insert-in-None-clause-before
returns-in_ok-insert-in-None-clause-before c =
    rw c.in_ok-insert-in-None.ensures.items
    (put-before (record { at = c.args.at; bits = c.args.bits }) c.requires.small c.args.chunks.now.items c.args.index c.args.at c.requires.within c.requires.before)
