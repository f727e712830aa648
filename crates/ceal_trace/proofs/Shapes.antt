-- What is true of every trace stays true.
use Rattle.std.proofs.Common.{◌≡◌, ◌≢◌, ℕ, inl, inr, ◌⊎◌, ◌+◌, ◌<◌, ◌≤◌, true, false, List, refl, sym, ap, subst, ◌∙◌, arith, Option, Some, None, length}
use Rattle.std.specs.Prelude.{IsSome}
use Rattle.std.proofs.lemmas.Bool.Decides.{eqb_tells}
use Rattle.std.proofs.lemmas.Bool.{cases_Bool}
use Rattle.ceal_order.specs.declared.stamp.Stamp.{Stamp}
use Rattle.ceal_order.specs.Stamps.{IsOrder, OneMore, is_in, head_of, place, without}
use Rattle.ceal_trace.specs.declared.node.Node.{Node}
use Rattle.ceal_trace.specs.declared.node.Node.TheVariants.{Root, End}
use Rattle.ceal_trace.specs.Nodes.{Entry, stamps_in, has_node, position, entry_at, held_by, node_at, is_plain, is_read, ends, end_in, with_entry_after, without_entry, new_entry, IsTrace, NoLooseEnd}
use Rattle.ceal_trace.specs.Nodes.{LooseEndOf, OneMoreNode, Inserted, SameBut}
use Rattle.ceal_trace.proofs.Stamped.{apart, head_in, head-after, head-without, length-after, length-without, up_to}
use Rattle.ceal_trace.proofs.Entries.{has-held, has-read, ends_is, ends_own, ends_other, plain_ends, some_of, is_some_of, none_of, end-found, stamps-after, entry-new, entry-old, sum-after, ends-after}
use Rattle.ceal_trace.proofs.Entries.{end-new, stamps-without, entry-left, sum-without, ends-left}

-- ---- a node more

module _ (es : List Entry) (spare more s f : ℕ) (node : Node)
    (old : IsTrace (record { nodes = es; spare = spare; touched = 0 }))
    (here : has_node s es ≡ true)
    (one : OneMore f (stamps_in es) (stamps_in (with_entry_after s (new_entry f node) es)))
    (order : IsOrder (record { stamps = stamps_in (with_entry_after s (new_entry f node) es); spare = more }))
    (closed : NoLooseEnd es) where
  abbrev all : List Entry
  all = with_entry_after s (new_entry f node) es

  pub other_than_new : (u : ℕ) → has_node u es ≡ true → u ≢ f
  other_than_new u found = apart u f (stamps_in es) found one.absent

  pub entry_kept : (u : ℕ) → has_node u es ≡ true → entry_at u (with_entry_after s (new_entry f node) es) ≡ entry_at u es
  entry_kept u found = entry-old s (new_entry f node) u es (other_than_new u found)

  first_same : head_of (stamps_in all) ≡ head_of (stamps_in es)
  first_same = ap head_of (stamps-after s (new_entry f node) es) ∙ head-after s f (stamps_in es)

  one_longer : length (stamps_in all) ≡ length (stamps_in es) + 1
  one_longer = let longer = length-after s f (stamps_in es) here in ap (λ (l : List ℕ). length l) (stamps-after s (new_entry f node) es) ∙ omega arith

  pub one_more_node : OneMoreNode f es (with_entry_after s (new_entry f node) es)
  one_more_node = record {
    stamps = one;
    entries = entry_kept;
    first = first_same;
    long = one_longer;
    sum = rw (entry-new s (new_entry f node) es here one.absent) (sum-after s (new_entry f node) es here);
  }

  pub inserted_as : (place f (stamps_in (with_entry_after s (new_entry f node) es)) ≡ place s (stamps_in (with_entry_after s (new_entry f node) es)) + 1)
      → Inserted s f node es (with_entry_after s (new_entry f node) es)
  inserted_as after = record {
    new = one.absent;
    there = one.there;
    node = rw (entry-new s (new_entry f node) es here one.absent) refl;
    steps = rw (entry-new s (new_entry f node) es here one.absent) refl;
    after = after;
    others = one_more_node;
  }

  -- no end is that of the new node
  pub new_open : end_in f es ≡ None
  new_open = none_of (end_in f es) (λ some. let no : true ≡ false = sym (closed.read_there f some) ∙ one.absent in absurd (cc))

  -- a node that is there is an old one or the new one
  node_kept : (u : ℕ) (n : Node) → node_at u es ≡ Some n → node_at u all ≡ Some n
  node_kept u n held = ap held_by (entry_kept u (has-held u n es held)) ∙ held

  node_was : (u : ℕ) (n : Node) → u ≢ f → node_at u all ≡ Some n → node_at u es ≡ Some n
  node_was u n other held = ap held_by (sym (entry-old s (new_entry f node) u es other)) ∙ held

  node_new : (n : Node) → node_at f all ≡ Some n → node ≡ n
  node_new n held = let is : Some node ≡ Some n = ap held_by (sym (entry-new s (new_entry f node) es here one.absent)) ∙ held in cc

  root_first : (u : ℕ) → head_of (stamps_in all) ≡ Some u → node_at u all ≡ Some Root
  root_first u h = node_kept u Root (old.first_root u (sym first_same ∙ h))

  root_alone : node ≢ Root → (u : ℕ) → node_at u all ≡ Some Root → head_of (stamps_in all) ≡ Some u
  root_alone no_root u held = elim (eqb_tells u f) [
    | inl p ↦ absurd (no_root (node_new Root (subst (λ (k : ℕ). node_at k all ≡ Some Root) p.1 held)))
    | inr p ↦ first_same ∙ old.only_root u (node_was u Root p.1 held)
  ]

  -- a read that is finished before and there now was there before
  read_was : (u read : ℕ) → end_in read es ≡ Some u → has_node read es ≡ true
  read_was u read found = closed.read_there read (is_some_of (end_in read es) u found)

  end_was_behind : (u read : ℕ) → end_in read es ≡ Some u → position read all < position u all
  end_was_behind u read found =
      let there = read_was u read found in
      (one.order read u there (has-held u _ es (old.end_node u read found))).0 (old.behind u read found there)

  read_stays : (u read : ℕ) → end_in read es ≡ Some u → is_read (node_at read all) ≡ true
  read_stays u read found =
      let there = read_was u read found in
      ap (λ (e : _). is_read (held_by e)) (entry_kept read there) ∙ old.of_read u read found there

  -- ---- which is no end

  module _ (plain : is_plain node ≡ true) where
    pub ends_same : (read : ℕ) → end_in read (with_entry_after s (new_entry f node) es) ≡ end_in read es
    ends_same read = ends-after s (new_entry f node) read es (plain_ends read node plain)

    pub plain_trace : IsTrace (record { nodes = with_entry_after s (new_entry f node) es; spare = more; touched = 0 })
    plain_trace = record {
      order = order;
      first_root = root_first;
      only_root = root_alone (λ e. let no : false ≡ true = ap is_plain (sym e) ∙ plain in cc);
      one_end = λ u read held. elim (eqb_tells u f) [
        | inl p ↦ absurd (let is : node ≡ End read = node_new (End read) (subst (λ (k : ℕ). node_at k all ≡ Some (End read)) p.1 held) in
            let no : false ≡ true = ap is_plain (sym is) ∙ plain in cc)
        | inr p ↦ ends_same read.0 ∙ old.one_end u read (node_was u (End read) p.1 held)
      ];
      end_node = λ u read found. end-found read u all order.distinct found;
      of_read = λ u read found there. read_stays u read (sym (ends_same read) ∙ found);
      behind = λ u read found there. end_was_behind u read (sym (ends_same read) ∙ found);
    }

    pub plain_closed : NoLooseEnd (with_entry_after s (new_entry f node) es)
    plain_closed = record { read_there = λ read some. one.others read (closed.read_there read (subst (λ (o : _). IsSome o) (ends_same read) some)) }

  -- ---- which is the end of a read

  module _ (read : Stamp) (is : node ≡ End read) (reads : is_read (node_at read.0 es) ≡ true) (unfinished : end_in read.0 es ≡ None)
      (up : position read.0 es ≤ position s es)
      (after : place f (stamps_in (with_entry_after s (new_entry f node) es)) ≡ place s (stamps_in (with_entry_after s (new_entry f node) es)) + 1) where
    pub end_now : end_in read.0 (with_entry_after s (new_entry f node) es) ≡ Some f
    end_now = end-new s (new_entry f node) read.0 es here (ap (λ (n : Node). ends read.0 n) is ∙ ends_own read) unfinished

    pub ends_others : (u : ℕ) → u ≢ read.0 → end_in u (with_entry_after s (new_entry f node) es) ≡ end_in u es
    ends_others u other = ends-after s (new_entry f node) u es (ap (λ (n : Node). ends u n) is ∙ ends_other u read other)

    read_there : has_node read.0 es ≡ true
    read_there = has-read read.0 es reads

    pub end_trace : IsTrace (record { nodes = with_entry_after s (new_entry f node) es; spare = more; touched = 0 })
    end_trace = record {
      order = order;
      first_root = root_first;
      only_root = root_alone (λ e. let no : End read ≡ Root = sym is ∙ e in cc);
      one_end = λ u r held. elim (eqb_tells u f) [
        | inl p ↦
            let found : node ≡ End r = node_new (End r) (subst (λ (k : ℕ). node_at k all ≡ Some (End r)) p.1 held) in
            let both : End read ≡ End r = sym is ∙ found in
            let same : read ≡ r = cc in
            subst (λ (q : Stamp). end_in q.0 all ≡ Some u) same (end_now ∙ ap (λ (k : ℕ). Some k) (sym p.1))
        | inr p ↦
            let was : end_in r.0 es ≡ Some u = old.one_end u r (node_was u (End r) p.1 held) in
            ends_others r.0 (λ e. let no : Some u ≡ None = sym was ∙ (ap (λ (k : ℕ). end_in k es) e ∙ unfinished) in absurd (cc)) ∙ was
      ];
      end_node = λ u r found. end-found r u all order.distinct found;
      of_read = λ u r found there. elim (eqb_tells r read.0) [
        | inl p ↦ subst (λ (k : ℕ). is_read (node_at k all) ≡ true) (sym p.1) (ap (λ (e : Option Entry). is_read (held_by e)) (entry_kept read.0 read_there) ∙ reads)
        | inr p ↦ read_stays u r (sym (ends_others r p.1) ∙ found)
      ];
      behind = λ u r found there. elim (eqb_tells r read.0) [
        | inl p ↦
            let now : Some f ≡ Some u = sym end_now ∙ subst (λ (k : ℕ). end_in k all ≡ Some u) p.1 found in
            let same : f ≡ u = cc in
            let low : position read.0 all ≤ position s all = up_to f read.0 s (stamps_in es) (stamps_in all) one read_there here up in
            let less : position read.0 all < position f all = omega (arith, low, after) in
            subst (λ (k : ℕ). position k all < position u all) (sym p.1) (subst (λ (k : ℕ). position read.0 all < position k all) same less)
        | inr p ↦ end_was_behind u r (sym (ends_others r p.1) ∙ found)
      ];
    }

    pub end_closed : NoLooseEnd (with_entry_after s (new_entry f node) es)
    end_closed = record {
      read_there = λ u some. elim (eqb_tells u read.0) [
        | inl p ↦ subst (λ (k : ℕ). has_node k all ≡ true) (sym p.1) (one.others read.0 read_there)
        | inr p ↦ one.others u (closed.read_there u (subst (λ (o : Option ℕ). IsSome o) (ends_others u p.1) some))
      ];
    }

-- ---- a node less

module _ (es : List Entry) (spare more s : ℕ) (node : Node)
    (old : IsTrace (record { nodes = es; spare = spare; touched = 0 }))
    (held : node_at s es ≡ Some node)
    (one : OneMore s (stamps_in (without_entry s es)) (stamps_in es))
    (order : IsOrder (record { stamps = stamps_in (without_entry s es); spare = more })) where
  abbrev rest : List Entry
  rest = without_entry s es

  pub other_than_gone : (u : ℕ) → has_node u (without_entry s es) ≡ true → u ≢ s
  other_than_gone u found = apart u s (stamps_in rest) found one.absent

  entry_left : (u : ℕ) → has_node u rest ≡ true → entry_at u rest ≡ entry_at u es
  entry_left u found = entry-left s u es (other_than_gone u found)

  node_left : (u : ℕ) (n : Node) → node_at u rest ≡ Some n → node_at u es ≡ Some n
  node_left u n is = ap held_by (sym (entry_left u (has-held u n rest is))) ∙ is

  pub ends_but : (read : ℕ) → ends read node ≡ false → end_in read (without_entry s es) ≡ end_in read es
  ends_but read other = ends-left s read node es held other

  -- an end that is left was there
  found_left : (u read : ℕ) → end_in read rest ≡ Some u → (end_in read es ≡ Some u) × (u ≢ s)
  found_left u read found =
      let is = end-found read u rest order.distinct found in
      (old.one_end u (record { 0 = read }) (node_left u (End (record { 0 = read })) is), other_than_gone u (has-held u (End (record { 0 = read })) rest is))

  pub end_gone : (read : ℕ) → ends read node ≡ true → end_in read (without_entry s es) ≡ None
  end_gone read does = none_of (end_in read rest) (λ some.
      let u = (some_of (end_in read rest) some).0 in
      let left = found_left u read (some_of (end_in read rest) some).1 in
      let was : end_in read es ≡ Some s = old.one_end s (record { 0 = read }) (held ∙ ap (λ (n : Node). Some n) (ends_is read node does)) in
      let both : Some u ≡ Some s = sym left.0 ∙ was in
      left.1 (let same : u ≡ s = cc in same))

  pub end_left : (u read : ℕ) → end_in read (without_entry s es) ≡ Some u → end_in read es ≡ Some u
  end_left u read found = (found_left u read found).0

  -- the node that ends a read is not that read
  not_own : (u read : ℕ) → end_in read es ≡ Some u → has_node read es ≡ true → (e : ℕ) → ends e node ≡ true → read ≢ s
  not_own u read found there e does same =
      let reads : is_read (node_at s es) ≡ true = subst (λ (k : ℕ). is_read (node_at k es) ≡ true) same (old.of_read u read found there) in
      let no : is_read (Some (End (record { 0 = e }))) ≡ true = subst (λ (o : Option Node). is_read o ≡ true) (held ∙ ap (λ (n : Node). Some n) (ends_is e node does)) reads in
      absurd (cc)

  module _ (not_root : head_of (stamps_in es) ≢ Some s) where
    first_left : head_of (stamps_in rest) ≡ head_of (stamps_in es)
    first_left = ap head_of (stamps-without s es) ∙ head-without s (stamps_in es) not_root

    one_shorter : length (stamps_in es) ≡ length (stamps_in rest) + 1
    one_shorter =
        let shorter = length-without s (stamps_in es) one.there in
        let same : length (stamps_in rest) ≡ length (without s (stamps_in es)) = ap (λ (l : List ℕ). length l) (stamps-without s es) in
        omega arith

    pub one_less_node : OneMoreNode s (without_entry s es) es
    one_less_node = record {
      stamps = one;
      entries = λ u found. sym (entry_left u found);
      first = sym first_left;
      long = one_shorter;
      sum = sum-without s es one.there;
    }

    pub less_trace : IsTrace (record { nodes = without_entry s es; spare = more; touched = 0 })
    less_trace = record {
      order = order;
      first_root = λ u h. ap held_by (entry_left u (head_in u (stamps_in rest) h)) ∙ old.first_root u (sym first_left ∙ h);
      only_root = λ u is. first_left ∙ old.only_root u (node_left u Root is);
      one_end = λ u read is.
          let was : end_in read.0 es ≡ Some u = old.one_end u read (node_left u (End read) is) in
          elim (cases_Bool (ends read.0 node)) [
            | inl p ↦
                let gone : end_in read.0 es ≡ Some s = old.one_end s (record { 0 = read.0 }) (held ∙ ap (λ (n : Node). Some n) (ends_is read.0 node p)) in
                let both : Some u ≡ Some s = sym was ∙ gone in
                absurd (other_than_gone u (has-held u (End read) rest is) (let same : u ≡ s = cc in same))
            | inr p ↦ ends_but read.0 p ∙ was
          ];
      end_node = λ u read found. end-found read u rest order.distinct found;
      of_read = λ u read found there.
          ap (λ (e : Option Entry). is_read (held_by e)) (entry_left read there) ∙ old.of_read u read (end_left u read found) (one.others read there);
      behind = λ u read found there.
          let u_there : has_node u rest ≡ true = has-held u (End (record { 0 = read })) rest (end-found read u rest order.distinct found) in
          (one.order read u there u_there).1 (old.behind u read (end_left u read found) (one.others read there));
    }

  pub less_loose : NoLooseEnd es → LooseEndOf s (without_entry s es)
  less_loose closed = record {
    read_there = λ read some other.
        let u = (some_of (end_in read rest) some).0 in
        let was = end_left u read (some_of (end_in read rest) some).1 in
        one.only read (closed.read_there read (is_some_of (end_in read es) u was)) other;
  }

  pub less_closed : NoLooseEnd es → end_in s es ≡ None → NoLooseEnd (without_entry s es)
  less_closed closed unfinished = record {
    read_there = λ read some.
        let u = (some_of (end_in read rest) some).0 in
        let was = end_left u read (some_of (end_in read rest) some).1 in
        let other : read ≢ s = λ e. let no : Some u ≡ None = sym was ∙ (ap (λ (k : ℕ). end_in k es) e ∙ unfinished) in absurd (cc) in
        one.only read (closed.read_there read (is_some_of (end_in read es) u was)) other;
  }

  pub less_still : (e : ℕ) → LooseEndOf e es → end_in s es ≡ None → LooseEndOf e (without_entry s es)
  less_still e loose unfinished = record {
    read_there = λ read some other.
        let u = (some_of (end_in read rest) some).0 in
        let was = end_left u read (some_of (end_in read rest) some).1 in
        let apart : read ≢ s = λ same. let no : Some u ≡ None = sym was ∙ (ap (λ (k : ℕ). end_in k es) same ∙ unfinished) in absurd (cc) in
        one.only read (loose.read_there read (is_some_of (end_in read es) u was) other) apart;
  }

  pub less_mended : (e : ℕ) → LooseEndOf e es → ends e node ≡ true → NoLooseEnd (without_entry s es)
  less_mended e loose does = record {
    read_there = λ read some.
        let u = (some_of (end_in read rest) some).0 in
        let found = (some_of (end_in read rest) some).1 in
        let was = end_left u read found in
        let other : read ≢ e = λ same. let no : Some u ≡ None = sym found ∙ (ap (λ (k : ℕ). end_in k rest) same ∙ end_gone e does) in absurd (cc) in
        let there = loose.read_there read (is_some_of (end_in read es) u was) other in
        one.only read there (not_own u read was there e does);
  }

-- ---- a node changed

module _ (es es' : List Entry) (spare s : ℕ) (old : IsTrace (record { nodes = es; spare = spare; touched = 0 })) (same : SameBut s es es') where
  pub changed_closed : NoLooseEnd es → NoLooseEnd es'
  changed_closed closed = record {
    read_there = λ read some. ap (λ (l : List ℕ). is_in read l) same.stamps ∙ closed.read_there read (subst (λ (o : Option ℕ). IsSome o) (same.ends read) some);
  }

  -- which is a read before and now, or is what it was
  module _ (node : (node_at s es' ≡ node_at s es) ⊎ ((is_read (node_at s es') ≡ true) × (is_read (node_at s es) ≡ true))) where
    either : (u : ℕ) → (node_at u es' ≡ node_at u es) ⊎ ((is_read (node_at u es') ≡ true) × (is_read (node_at u es) ≡ true))
    either u = elim (eqb_tells u s) [
      | inl p ↦ subst (λ (k : ℕ). (node_at k es' ≡ node_at k es) ⊎ ((is_read (node_at k es') ≡ true) × (is_read (node_at k es) ≡ true))) (sym p.1) node
      | inr p ↦ inl (ap held_by (same.entries u p.1))
    ]

    no_root : (o : Option Node) → is_read o ≡ true → o ≢ Some Root
    no_root o reads is = let no : is_read (Some Root) ≡ true = subst (λ (x : Option Node). is_read x ≡ true) is reads in absurd (cc)

    no_end : (o : Option Node) (r : Stamp) → is_read o ≡ true → o ≢ Some (End r)
    no_end o r reads is = let no : is_read (Some (End r)) ≡ true = subst (λ (x : Option Node). is_read x ≡ true) is reads in absurd (cc)

    pub changed_trace : IsTrace (record { nodes = es'; spare = spare; touched = 0 })
    changed_trace =
        let stamps = same.stamps in
        let order : IsOrder (record { stamps = stamps_in es'; spare = spare }) = subst (λ (l : List ℕ). IsOrder (record { stamps = l; spare = spare })) (sym stamps) old.order in
        record {
          order = order;
          first_root = λ u h.
              let was = old.first_root u (ap head_of (sym stamps) ∙ h) in
              elim (either u) [ inl p ↦ p ∙ was | inr p ↦ absurd (no_root (node_at u es) p.1 was) ];
          only_root = λ u is. elim (either u) [
            | inl p ↦ ap head_of stamps ∙ old.only_root u (sym p ∙ is)
            | inr p ↦ absurd (no_root (node_at u es') p.0 is)
          ];
          one_end = λ u r is. elim (either u) [
            | inl p ↦ same.ends r.0 ∙ old.one_end u r (sym p ∙ is)
            | inr p ↦ absurd (no_end (node_at u es') r p.0 is)
          ];
          end_node = λ u r found. end-found r u es' order.distinct found;
          of_read = λ u r found there. elim (either r) [
            | inl p ↦ ap is_read p ∙ old.of_read u r (sym (same.ends r) ∙ found) (ap (λ (l : List ℕ). is_in r l) (sym stamps) ∙ there)
            | inr p ↦ p.0
          ];
          behind = λ u r found there.
              subst (λ (l : List ℕ). place r l < place u l) (sym stamps)
              (old.behind u r (sym (same.ends r) ∙ found) (ap (λ (l : List ℕ). is_in r l) (sym stamps) ∙ there));
        }
