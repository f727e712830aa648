use Rattle.std.proofs.Common.{◌≡◌, ◌*◌, ◌+◌, take, get_or, refl, subst, arith}
use Rattle.std.specs.Int.{bit_at}
use Rattle.std.proofs.lemmas.Nat.Bits.{bit_at-zero}
use Rattle.std.proofs.lemmas.Option.{slice_get-get_or}
use Rattle.std.proofs.lemmas.List.{take_all}
use Rattle.ceal_flow.specs.Bits.{bits_of}
use Rattle.ceal_flow.specs.Sets.{is_that}
use Rattle.ceal_flow.proofs.BitFacts.{JoinedAt, has-added, has-joined, no-more, step-joined, step-more, step-same}
use Rattle.ceal_flow.proofs.ChunkFacts.{before-later, before-none, chunk-small, next-place}
use Rattle.ceal_flow.proofs.bits.add.Goals as goal

pub loop-other-init : goal.loop-other-init
loop-other-init c = record {
  ordered = c.requires.ordered;
  within = omega arith;
  before = λ d e. before-none c.args.chunks.now.items d.at;
  joined = λ k j l.
      rw (bit_at-zero j) (no-more (bit_at (bits_of c.args.chunks.now.items k) j) (is_that c.args.except (k * 64 + j)));
  same = λ e. refl;
  more = λ e. cc;
}

pub skip-from-requires-clause-before : goal.skip-from-requires-clause-before
skip-from-requires-clause-before c =
    let others = c.args.others.now in
    let i = c.loop-other.other-index in
    let there = slice_get-get_or others i (record { at = 0; bits = 0 }) (omega (arith, c.loop-other-test.true)) in
    rw c.as_slice.ensures.value (c.loop-other.invariant.before (get_or others i (record { at = 0; bits = 0 })) there)

pub put-requires-clause-small : goal.put-requires-clause-small
put-requires-clause-small c =
    let others = c.args.others.now in
    let i = c.loop-other.other-index in
    let there = slice_get-get_or others i (record { at = 0; bits = 0 }) (omega (arith, c.loop-other-test.true)) in
    chunk-small 0 others i (get_or others i (record { at = 0; bits = 0 })) c.requires.others there

pub loop-other-preserved : goal.loop-other-preserved
loop-other-preserved c =
    let old = c.args.chunks.now.items in
    let cur = c.loop-other.chunks.items in
    let new = c.put.new.chunks.items in
    let others = c.args.others.now in
    let i = c.loop-other.other-index in
    let chunk = get_or others i (record { at = 0; bits = 0 }) in
    let there = slice_get-get_or others i (record { at = 0; bits = 0 }) (omega (arith, c.loop-other-test.true)) in
    let inv = c.loop-other.invariant in
    let put = c.in_ok-more.ensures in
    record {
      ordered = put.ordered;
      within = put.within;
      before = λ d e.
          let later = next-place chunk 0 others i d c.requires.others there e in
          before-later new c.skip-from.result chunk.at d.at put.before (omega (arith, later));
      joined = step-joined old cur new others c.args.except i c.but.result chunk c.requires.others there inv.joined put.here put.others c.but.ensures.value;
      same = step-same c.loop-other.changed c.in_ok-more.more old cur new inv.same put.same;
      more = step-more old cur new others c.args.except i c.but.result chunk c.requires.others there inv.joined put.here put.others c.but.ensures.value
          c.loop-other.changed c.in_ok-more.more inv.more put.more;
    }

pub returns-clause-joined : goal.returns-clause-joined
returns-clause-joined c =
    let all : take c.loop-other.other-index c.args.others.now ≡ c.args.others.now = take_all c.loop-other.other-index c.args.others.now (omega (arith, c.loop-other-test.false)) in
    has-joined c.loop-other.chunks.items c.args.chunks.now.items c.args.others.now c.args.except
    (λ k j l. subst (λ xs. JoinedAt c.loop-other.chunks.items c.args.chunks.now.items xs c.args.except k j) all (c.loop-other.invariant.joined k j l))

pub returns-clause-more : goal.returns-clause-more
returns-clause-more c = λ e.
    let all : take c.loop-other.other-index c.args.others.now ≡ c.args.others.now = take_all c.loop-other.other-index c.args.others.now (omega (arith, c.loop-other-test.false)) in
    let h = c.loop-other.invariant.more e in
    let a = has-added c.loop-other.chunks.items c.args.chunks.now.items c.args.others.now c.args.except h.0 h.1 h.2
    (subst (λ xs. JoinedAt c.loop-other.chunks.items c.args.chunks.now.items xs c.args.except h.0 h.1) all (c.loop-other.invariant.joined h.0 h.1 h.2)) h.3 in
    (a.number, a.out, a.inside)
