-- Bytes are the dump of a record, or of none.
use Rattle.std.proofs.Common.{◌≡◌, inl, inr, ◌⊎◌, ℕ, ◌<◌, ◌^◌, Bool, true, false, List, length, refl, sym, subst, arith}
use Rattle.std.specs.Prelude.{nat_lt, bytes_eq}
use Rattle.std.proofs.lemmas.Bool.{false≢true}
use Rattle.std.proofs.lemmas.Bool.Decides.{nat_tests}
use Rattle.std.proofs.lemmas.Slice.Eq.{bytes_eq-Decides}
use Rattle.ceal_base.specs.declared.recorded.Record.{Record}
use Rattle.ceal_dump.proofs.Records.{record-read, record-range}
use Rattle.ceal_dump.specs.Answers.{DumpOrNoneLaw}
use Rattle.ceal_dump.specs.DumpText.{all_core, closed, dump_text, HasDump, IsDump}
use Rattle.ceal_dump.specs.Reading.{record_at}

-- a fact holds, or it does not
abbrev pub Decided : Type 0 → Type 0
Decided P = P ⊎ (P → ⊥)

pub both : {P Q : Type 0} → Decided P → Decided Q → Decided (P × Q)
both (inl p) (inl q) = inl (p, q)
both (inl p) (inr n) = inr (λ h. n h.1)
both (inr n) q = inr (λ h. n h.0)

pub moved : {P Q : Type 0} → (P → Q) → (Q → P) → Decided P → Decided Q
moved f g (inl p) = inl (f p)
moved f g (inr n) = inr (λ q. n (g q))

pub is-or-not : (b : Bool) → Decided (b ≡ true)
is-or-not true = inl refl
is-or-not false = inr (λ e. false≢true e)

pub below-or-not : (n m : ℕ) → Decided (n < m)
below-or-not n m = moved (λ e. grind (arith, nat_tests, e)) (λ h. grind (arith, nat_tests, h)) (is-or-not (nat_lt n m))

pub text-or-not : (a b : List ℕ) → Decided (a ≡ b)
text-or-not a b = moved (bytes_eq-Decides a b).0 (bytes_eq-Decides a b).1 (is-or-not (bytes_eq a b))

module _ (r : Record) where
  -- what is asked of a record that has a dump, in turn
  abbrev Small : Type 0
  Small = ((length r.inputs < 2 ^ 32) × (length r.forest < 2 ^ 32)) × ((length r.memory.inputs < 2 ^ 32) × (length r.memory.made < 2 ^ 32))

  abbrev Formed : Type 0
  Formed = (all_core r.forest ≡ true) × (closed 0 r.forest ≡ true)

  small-or-not : Decided Small
  small-or-not =
      both (both (below-or-not (length r.inputs) (2 ^ 32)) (below-or-not (length r.forest) (2 ^ 32)))
      (both (below-or-not (length r.memory.inputs) (2 ^ 32)) (below-or-not (length r.memory.made) (2 ^ 32)))

  has : Small → Formed → HasDump r
  has ((inputs, items), (memory, made)) (core, ends) = record { inputs = inputs; items = items; memory = memory; made = made; core = core; ends = ends }

  has-or-not : Decided (HasDump r)
  has-or-not =
      moved (λ h. has h.0 h.1) (λ h. (((h.inputs, h.items), (h.memory, h.made)), (h.core, h.ends)))
      (both small-or-not (both (is-or-not (all_core r.forest)) (is-or-not (closed 0 r.forest))))

pub dump-or-none : DumpOrNoneLaw
dump-or-none bytes = by-record (both (has-or-not (record_at bytes)) (text-or-not bytes (dump_text (record_at bytes))))
  where
    by-record : Decided (HasDump (record_at bytes) × (bytes ≡ dump_text (record_at bytes))) → ((r : Record) × IsDump bytes r) ⊎ ((r : Record) → IsDump bytes r → ⊥)
    by-record (inl h) = inl (record_at bytes, record { has = h.0; range = record-range bytes; text = h.1 })
    by-record (inr n) =
        inr (λ r h.
        let same : r ≡ record_at bytes = sym (record-read bytes r h) in
        n (subst HasDump same h.has, subst (λ (r : Record). bytes ≡ dump_text r) same h.text))
