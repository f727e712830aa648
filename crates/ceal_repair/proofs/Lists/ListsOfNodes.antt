-- The lists of the modifiables and of the memo stay those of the nodes.
use Rattle.std.proofs.Common.{◌≡◌, ◌≢◌, ℕ, Bool, true, false, ◌==◌, ◌&&◌, List, [], ◌∷◌, ◌++◌, insert, refl, sym, ap, subst, ◌∙◌}
use Rattle.ceal_base.specs.Operators.{same_place}
use Rattle.ceal_base.specs.declared.forest.Key.{Key}
use Rattle.ceal_base.specs.declared.forest.Key.TheVariants.{Init, ModInt, ModPtr}
use Rattle.ceal_base.specs.declared.forest.UnitId.{UnitId}
use Rattle.ceal_base.specs.declared.word.BlockId.{BlockId}
use Rattle.ceal_base.specs.declared.word.Place.{Place}
use Rattle.ceal_base.specs.declared.word.Word.{Word}
use Rattle.ceal_code.proofs.Words.SameIsEqual.{both, both-true, nat-same, nat-refl, place-refl, place-same, word-refl}
use Rattle.ceal_memo.specs.declared.key.ReadKey.{ReadKey}
use Rattle.ceal_mods.specs.Cell.{with_write, without_write, with_read, without_read}
use Rattle.ceal_mods.specs.Mods.{Contents, cell_of, Changes, IsFree}
use Rattle.ceal_mods.specs.Writes.{Write as WriteOf, stamps_of, with_one, without_one}
use Rattle.ceal_mods.specs.declared.cell.Cell.{Cell}
use Rattle.ceal_order.proofs.Places.{in_head}
use Rattle.ceal_order.specs.Rising.{count_before}
use Rattle.ceal_order.specs.Stamps.{Distinct, is_in, without}
use Rattle.ceal_order.specs.declared.stamp.Stamp.{Stamp}
use Rattle.ceal_repair.proofs.QueueCover.Chain.{place-sym}
use Rattle.ceal_repair.proofs.Lists.PartedLists.{writes-append, where-append, writes-among, where-among, where-skip, writes-skip, out-write, false-of}
use Rattle.ceal_repair.proofs.Lists.ListChanges.{write-put, where-put, where-cut, own-apart, in-back, stamps_of-append}
use Rattle.ceal_repair.specs.Lists.{IsTabled, reads_at, write_of, writes_in, stamps_where}
use Rattle.ceal_theory.proofs.Reuse.TakenItems.{words-same, unit-same}
use Rattle.ceal_theory.specs.Levels.{same_read}
use Rattle.ceal_theory.specs.Take.{same_key, same_words}
use Rattle.ceal_trace.specs.Nodes.{Entry, stamps_in, has_node}
use Rattle.ceal_trace.specs.declared.node.Node.{Node}
use Rattle.ceal_trace.specs.declared.node.Node.TheVariants.{Alloc, Write, Read, End}

pub other-place : (q p : Place) → same_place q p ≡ false → q ≢ p
other-place q p k i = absurd (let no : true ≡ false = sym (place-refl p) ∙ subst (λ z. same_place z p ≡ false) i k in cc)

-- ---- keys

words-refl : (ws : List Word) → same_words ws ws ≡ true
words-refl [] = refl
words-refl (w ∷ ws) = both-true _ _ (word-refl w) (words-refl ws)

pub key-refl : (k : Key) → same_key k k ≡ true
key-refl (Init f ws) = both-true _ _ (nat-refl f) (words-refl ws)
key-refl ModInt = refl
key-refl (ModPtr s) = nat-refl s

abbrev pub same_as : ReadKey → ReadKey → Bool
same_as a b = same_read a.place a.unit a.var a.args b.place b.unit b.var b.args

abbrev key-of : Place → UnitId → ℕ → List Word → ReadKey
key-of p u x ws = record { place = p; unit = u; var = x; args = ws }

read-key : (p q : Place) (u w : UnitId) (x y : ℕ) (vs ws : List Word) → p ≡ q → u ≡ w → x ≡ y → vs ≡ ws → key-of p u x vs ≡ key-of q w y ws
read-key p q u w x y vs ws e f g h = rw (e, f, g, h) refl

pub read-key-same : (a b : ReadKey) → same_as a b ≡ true → a ≡ b
read-key-same a b h =
    let m = both ((same_place a.place b.place && a.unit.0 == b.unit.0) && a.var == b.var) (same_words a.args b.args) h in
    let l = both (same_place a.place b.place && a.unit.0 == b.unit.0) (a.var == b.var) m.0 in
    let k = both (same_place a.place b.place) (a.unit.0 == b.unit.0) l.0 in
    read-key a.place b.place a.unit b.unit a.var b.var a.args b.args (place-same a.place b.place k.0) (unit-same a.unit b.unit k.1) (nat-same a.var b.var l.1) (words-same a.args b.args m.1)

pub read-key-refl : (a : ReadKey) → same_as a a ≡ true
read-key-refl a = both-true ((same_place a.place a.place && a.unit.0 == a.unit.0) && a.var == a.var) (same_words a.args a.args)
    (both-true (same_place a.place a.place && a.unit.0 == a.unit.0) (a.var == a.var) (both-true (same_place a.place a.place) (a.unit.0 == a.unit.0) (place-refl a.place) (nat-refl a.unit.0))
    (nat-refl a.var)) (words-refl a.args)

-- ---- nodes that a list passes over

module _ (p : Place) (s : ℕ) (n : Node) (l : List WriteOf) where
  pub alloc-no-write : (b : BlockId) (key : Key) → n ≡ Alloc b key → write_of p s n l ≡ l
  alloc-no-write b key e = rw e refl

  pub end-no-write : (r : Stamp) → n ≡ End r → write_of p s n l ≡ l
  end-no-write r e = rw e refl

module _ (front : List Entry) (e : Entry) (back : List Entry) where
  -- a node that is no read and no write changes no modifiable
  pub tabled-in : (mods : Contents) → ((p : Place) → reads_at p e.node ≡ false) → ((p : Place) → write_of p e.stamp e.node (writes_in p back) ≡ writes_in p back)
      → IsTabled (front ++ back) mods → IsTabled (front ++ e ∷ back) mods
  tabled-in mods r w t = record {
    writes = λ p. t.writes p ∙ sym (writes-skip p front e back (w p));
    reads = λ p. t.reads p ∙ sym (where-skip (reads_at p) front e back (r p));
  }

  pub tabled-out : (mods : Contents) → ((p : Place) → reads_at p e.node ≡ false) → ((p : Place) → write_of p e.stamp e.node (writes_in p back) ≡ writes_in p back)
      → IsTabled (front ++ e ∷ back) mods → IsTabled (front ++ back) mods
  tabled-out mods r w t = record {
    writes = λ p. t.writes p ∙ writes-skip p front e back (w p);
    reads = λ p. t.reads p ∙ where-skip (reads_at p) front e back (r p);
  }

  -- what is in the lists
  pub write-listed : (p : Place) (v : Word) → e.node ≡ Write p v → (mods : Contents) → IsTabled (front ++ e ∷ back) mods → is_in e.stamp (stamps_of (cell_of mods p).writes) ≡ true
  write-listed p v is mods t =
      rw (t.writes p, writes-append p front (e ∷ back), stamps_of-append (writes_in p front) (writes_in p (e ∷ back)))
      (in-back (stamps_of (writes_in p front)) (stamps_of (writes_in p (e ∷ back))) e.stamp here)
    where
      here : is_in e.stamp (stamps_of (writes_in p (e ∷ back))) ≡ true
      here = rw (is, place-refl p) (in_head e.stamp (stamps_of (writes_in p back)))

  pub read-listed : (p : Place) (v : Word) (u : UnitId) (x : ℕ) (args : List Word) → e.node ≡ Read p v u x args → (mods : Contents) → IsTabled (front ++ e ∷ back) mods
      → is_in e.stamp (cell_of mods p).reads ≡ true
  read-listed p v u x args is mods t =
      rw (t.reads p, where-append (reads_at p) front (e ∷ back)) (in-back (stamps_where (reads_at p) front) (stamps_where (reads_at p) (e ∷ back)) e.stamp here)
    where
      here : is_in e.stamp (stamps_where (reads_at p) (e ∷ back)) ≡ true
      here = rw (is, place-refl p) (in_head e.stamp (stamps_where (reads_at p) back))

  module _ (distinct : Distinct (stamps_in (front ++ e ∷ back))) where
    -- a write is put in
    pub tabled-write : (p : Place) (v : Word) → e.node ≡ Write p v → (mods new : Contents) → IsTabled (front ++ back) mods
        → Changes mods new p (with_write (stamps_in (front ++ e ∷ back)) e.stamp v (cell_of mods p)) → IsTabled (front ++ e ∷ back) new
    tabled-write p v is mods new t c = record { writes = λ q. writes q (same_place q p) refl; reads = λ q. reads q (same_place q p) refl }
      where
        no : (q : Place) → reads_at q e.node ≡ false
        no q = rw is refl

        writes : (q : Place) (b : Bool) → same_place q p ≡ b → (cell_of new q).writes ≡ writes_in q (front ++ e ∷ back)
        writes q true k = rw (place-same q p k) (ap (λ (x : Cell). x.writes) c.here
            ∙ (ap (λ (l : List WriteOf). with_one (stamps_in (front ++ e ∷ back)) e.stamp v l) (t.writes p ∙ writes-append p front back) ∙ write-put front e back distinct p v is))
        writes q false k = ap (λ (x : Cell). x.writes) (c.others q (other-place q p k)) ∙ (t.writes q ∙ sym (writes-skip q front e back (rw (is, place-sym q p k) refl)))

        reads : (q : Place) (b : Bool) → same_place q p ≡ b → (cell_of new q).reads ≡ stamps_where (reads_at q) (front ++ e ∷ back)
        reads q true k = rw (place-same q p k) (ap (λ (x : Cell). x.reads) c.here ∙ (t.reads p ∙ sym (where-skip (reads_at p) front e back (no p))))
        reads q false k = ap (λ (x : Cell). x.reads) (c.others q (other-place q p k)) ∙ (t.reads q ∙ sym (where-skip (reads_at q) front e back (no q)))

    -- a read is put in
    pub tabled-read : (p : Place) (v : Word) (u : UnitId) (x : ℕ) (args : List Word) → e.node ≡ Read p v u x args → (mods new : Contents) → IsTabled (front ++ back) mods
        → Changes mods new p (with_read (stamps_in (front ++ e ∷ back)) e.stamp (cell_of mods p)) → IsTabled (front ++ e ∷ back) new
    tabled-read p v u x args is mods new t c = record { writes = λ q. writes q (same_place q p) refl; reads = λ q. reads q (same_place q p) refl }
      where
        no : (q : Place) → write_of q e.stamp e.node (writes_in q back) ≡ writes_in q back
        no q = rw is refl

        writes : (q : Place) (b : Bool) → same_place q p ≡ b → (cell_of new q).writes ≡ writes_in q (front ++ e ∷ back)
        writes q true k = rw (place-same q p k) (ap (λ (x : Cell). x.writes) c.here ∙ (t.writes p ∙ sym (writes-skip p front e back (no p))))
        writes q false k = ap (λ (x : Cell). x.writes) (c.others q (other-place q p k)) ∙ (t.writes q ∙ sym (writes-skip q front e back (no q)))

        here : (reads_at p) e.node ≡ true
        here = rw is (place-refl p)

        reads : (q : Place) (b : Bool) → same_place q p ≡ b → (cell_of new q).reads ≡ stamps_where (reads_at q) (front ++ e ∷ back)
        reads q true k = rw (place-same q p k) (ap (λ (x : Cell). x.reads) c.here
            ∙ (ap (λ (l : List ℕ). insert l (count_before (stamps_in (front ++ e ∷ back)) e.stamp l) e.stamp) (t.reads p) ∙ where-put front e back distinct (reads_at p) here))
        reads q false k = ap (λ (x : Cell). x.reads) (c.others q (other-place q p k)) ∙ (t.reads q ∙ sym (where-skip (reads_at q) front e back (rw (is, place-sym q p k) refl)))

    -- a write is taken out
    pub tabled-cut-write : (p : Place) (v : Word) → e.node ≡ Write p v → (mods new : Contents) → IsTabled (front ++ e ∷ back) mods
        → Changes mods new p (without_write e.stamp (cell_of mods p)) → IsTabled (front ++ back) new
    tabled-cut-write p v is mods new t c = record { writes = λ q. writes q (same_place q p) refl; reads = λ q. reads q (same_place q p) refl }
      where
        no : (q : Place) → reads_at q e.node ≡ false
        no q = rw is refl

        at : writes_in p (front ++ e ∷ back) ≡ writes_in p front ++ record { stamp = e.stamp; value = v } ∷ writes_in p back
        at = writes-append p front (e ∷ back) ∙ ap (λ (l : List WriteOf). writes_in p front ++ l) own
          where
            own : writes_in p (e ∷ back) ≡ record { stamp = e.stamp; value = v } ∷ writes_in p back
            own = rw (is, place-refl p) refl

        apart : is_in e.stamp (stamps_of (writes_in p front)) ≡ false
        apart = false-of (is_in e.stamp (stamps_of (writes_in p front))) (λ h. sym (writes-among p front e.stamp h) ∙ own-apart front e back distinct)

        writes : (q : Place) (b : Bool) → same_place q p ≡ b → (cell_of new q).writes ≡ writes_in q (front ++ back)
        writes q true k = rw (place-same q p k)
            (ap (λ (x : Cell). x.writes) c.here ∙ (ap (without_one e.stamp) (t.writes p ∙ at) ∙ (out-write e.stamp v (writes_in p front) (writes_in p back) apart ∙ sym (writes-append p front back))))
        writes q false k = ap (λ (x : Cell). x.writes) (c.others q (other-place q p k)) ∙ (t.writes q ∙ writes-skip q front e back (rw (is, place-sym q p k) refl))

        reads : (q : Place) (b : Bool) → same_place q p ≡ b → (cell_of new q).reads ≡ stamps_where (reads_at q) (front ++ back)
        reads q true k = rw (place-same q p k) (ap (λ (x : Cell). x.reads) c.here ∙ (t.reads p ∙ where-skip (reads_at p) front e back (no p)))
        reads q false k = ap (λ (x : Cell). x.reads) (c.others q (other-place q p k)) ∙ (t.reads q ∙ where-skip (reads_at q) front e back (no q))

    -- a read is taken out
    pub tabled-cut-read : (p : Place) (v : Word) (u : UnitId) (x : ℕ) (args : List Word) → e.node ≡ Read p v u x args → (mods new : Contents) → IsTabled (front ++ e ∷ back) mods
        → Changes mods new p (without_read e.stamp (cell_of mods p)) → IsTabled (front ++ back) new
    tabled-cut-read p v u x args is mods new t c = record { writes = λ q. writes q (same_place q p) refl; reads = λ q. reads q (same_place q p) refl }
      where
        no : (q : Place) → write_of q e.stamp e.node (writes_in q back) ≡ writes_in q back
        no q = rw is refl

        writes : (q : Place) (b : Bool) → same_place q p ≡ b → (cell_of new q).writes ≡ writes_in q (front ++ back)
        writes q true k = rw (place-same q p k) (ap (λ (x : Cell). x.writes) c.here ∙ (t.writes p ∙ writes-skip p front e back (no p)))
        writes q false k = ap (λ (x : Cell). x.writes) (c.others q (other-place q p k)) ∙ (t.writes q ∙ writes-skip q front e back (no q))

        reads : (q : Place) (b : Bool) → same_place q p ≡ b → (cell_of new q).reads ≡ stamps_where (reads_at q) (front ++ back)
        reads q true k = rw (place-same q p k) (ap (λ (x : Cell). x.reads) c.here ∙ (ap (without e.stamp) (t.reads p) ∙ where-cut front e back distinct (reads_at p)))
        reads q false k = ap (λ (x : Cell). x.reads) (c.others q (other-place q p k)) ∙ (t.reads q ∙ where-skip (reads_at q) front e back (rw (is, place-sym q p k) refl))

-- a stamp that no node has is in no list
pub free-of : (s : ℕ) (nodes : List Entry) (mods : Contents) → IsTabled nodes mods → has_node s nodes ≡ false → IsFree s mods
free-of s nodes mods t h q = (
  false-of (is_in s (stamps_of (cell_of mods q).writes)) (λ k. sym (writes-among q nodes s (subst (λ (l : List WriteOf). is_in s (stamps_of l) ≡ true) (t.writes q) k)) ∙ h),
  false-of (is_in s (cell_of mods q).reads) (λ k. sym (where-among (reads_at q) nodes s (subst (λ (l : List ℕ). is_in s l ≡ true) (t.reads q) k)) ∙ h),
)
