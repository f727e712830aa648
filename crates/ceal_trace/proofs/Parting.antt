-- A closed read parts nodes that nest, and what nests may be put in and taken out anywhere.
use Rattle.std.proofs.Common.{◌≡◌, ◌↔◌, ◌==◌, ℕ, inl, inr, Bool, true, false, if◌then◌else◌, List, [], ◌∷◌, ◌++◌, append_assoc, refl, sym, ap, ◌∙◌, subst, Option, Some, None}
use Rattle.std.proofs.lemmas.Bool.Decides.{eqb_tells}
use Rattle.std.proofs.lemmas.Bool.{eq-eqb}
use Rattle.ceal_order.specs.Stamps.{Distinct}
use Rattle.ceal_trace.specs.declared.node.Node.{Node}
use Rattle.ceal_trace.specs.declared.node.Node.TheVariants.{Root, Alloc, Write, Read, End}
use Rattle.ceal_trace.specs.Nodes.{Timeline, Entry, IsTrace, is_read, is_plain, ends, end_in, entry_at, held_by, node_at, has_node, stamps_in}
use Rattle.ceal_trace.specs.Items.{unclosed, unclosed_after, Nests, Parted}
use Rattle.ceal_trace.proofs.Entries.{ends_is, has-held}
use Rattle.ceal_trace.proofs.Parts.{split_at, not_before, entry-part}

pub unclosed-append : (front back : List Entry) (reads : Option (List ℕ)) → unclosed reads (front ++ back) ≡ unclosed (unclosed reads front) back
unclosed-append [] back None = none back
  where
    none : (back : List Entry) → unclosed None back ≡ unclosed None back
    none back = refl
unclosed-append [] back (Some reads) = refl
unclosed-append (e ∷ es) back None = stays back
  where
    stays : (back : List Entry) → None ≡ unclosed None back
    stays back = refl
unclosed-append (e ∷ es) back (Some reads) = unclosed-append es back (unclosed_after e.stamp e.node reads)

-- nothing follows where an end was wrong
none-left : (es : List Entry) (reads : List ℕ) → unclosed None es ≡ Some reads → ⊥
none-left es reads h = absurd (cc)

-- reads that were not closed before stay so through what closes all that it opens
around-node : (s : ℕ) (node : Node) (above below reads : List ℕ) → unclosed_after s node above ≡ Some reads → unclosed_after s node (above ++ below) ≡ Some (reads ++ below)
around-node s Root above below reads h = let e : above ≡ reads = cc in ap (λ rs. Some (rs ++ below)) e
around-node s (Alloc block key) above below reads h = let e : above ≡ reads = cc in ap (λ rs. Some (rs ++ below)) e
around-node s (Write place value) above below reads h = let e : above ≡ reads = cc in ap (λ rs. Some (rs ++ below)) e
around-node s (Read place value unit var args) above below reads h = let e : s ∷ above ≡ reads = cc in ap (λ rs. Some (rs ++ below)) e
around-node s (End r) [] below reads h = absurd (cc)
around-node s (End r) (last ∷ above) below reads h = go (r.0 == last) h
  where
    go : (b : Bool) → (if b then Some above else None) ≡ Some reads → (if b then Some (above ++ below) else None) ≡ Some (reads ++ below)
    go true h = let e : above ≡ reads = cc in ap (λ rs. Some (rs ++ below)) e
    go false h = absurd (cc)

around : (es : List Entry) (above below : List ℕ) → unclosed (Some above) es ≡ Some [] → unclosed (Some (above ++ below)) es ≡ Some below
around [] [] below h = refl
around [] (r ∷ rs) below h = absurd (cc)
around (e ∷ es) above below h = go (unclosed_after e.stamp e.node above) refl h (λ reads k. around es reads below k)
  where
    go : (o : Option (List ℕ)) → unclosed_after e.stamp e.node above ≡ o → unclosed o es ≡ Some []
        → ((reads : List ℕ) → unclosed (Some reads) es ≡ Some [] → unclosed (Some (reads ++ below)) es ≡ Some below)
        → unclosed (unclosed_after e.stamp e.node (above ++ below)) es ≡ Some below
    go None k h again = absurd (none-left es [] h)
    go (Some reads) k h again = rw (around-node e.stamp e.node above below reads k) (again reads h)

-- what nests leaves the reads that are not closed as they are
pub passed : (es : List Entry) → Nests es → (reads : Option (List ℕ)) → unclosed reads es ≡ reads
passed es h None = same es
  where
    same : (es : List Entry) → unclosed None es ≡ None
    same es = refl
passed es h (Some reads) = around es [] reads h

pub put-in : (before inside behind : List Entry) → Nests inside → Nests (before ++ (inside ++ behind)) ↔ Nests (before ++ behind)
put-in before inside behind h =
    let same : unclosed (Some []) (before ++ (inside ++ behind)) ≡ unclosed (Some []) (before ++ behind) =
    unclosed-append before (inside ++ behind) (Some []) ∙ unclosed-append inside behind (unclosed (Some []) before)
    ∙ ap (λ reads. unclosed reads behind) (passed inside h (unclosed (Some []) before)) ∙ sym (unclosed-append before behind (Some [])) in
    (λ k. sym same ∙ k, λ k. same ∙ k)

pub plain-nests : (e : Entry) → is_plain e.node ≡ true → is_read (Some e.node) ≡ false → Nests (e ∷ [])
plain-nests e h k = go e.node h k
  where
    go : (node : Node) → is_plain node ≡ true → is_read (Some node) ≡ false → unclosed (unclosed_after e.stamp node []) [] ≡ Some []
    go Root h k = absurd (cc)
    go (Alloc block key) h k = refl
    go (Write place value) h k = refl
    go (Read place value unit var args) h k = absurd (cc)
    go (End r) h k = absurd (cc)

-- after a read, and after its end
read-begins : (s : ℕ) (node : Node) (reads : List ℕ) → is_read (Some node) ≡ true → unclosed_after s node reads ≡ Some (s ∷ reads)
read-begins s Root reads h = absurd (cc)
read-begins s (Alloc block key) reads h = absurd (cc)
read-begins s (Write place value) reads h = absurd (cc)
read-begins s (Read place value unit var args) reads h = refl
read-begins s (End r) reads h = absurd (cc)

end-closes : (s read : ℕ) (node : Node) (reads : List ℕ) → ends read node ≡ true → unclosed_after s node (read ∷ reads) ≡ Some reads
end-closes s read node reads h = rw (ends_is read node h, eq-eqb read read refl) refl

pub read-nests : (begin end : Entry) (inside : List Entry) → is_read (Some begin.node) ≡ true → ends begin.stamp end.node ≡ true → Nests inside → Nests (begin ∷ (inside ++ end ∷ []))
read-nests begin end inside h k nests =
    ap (λ o. unclosed o (inside ++ end ∷ [])) (read-begins begin.stamp begin.node [] h)
    ∙ unclosed-append inside (end ∷ []) (Some (begin.stamp ∷ []))
    ∙ ap (λ o. unclosed o (end ∷ [])) (passed inside nests (Some (begin.stamp ∷ [])))
    ∙ ap (λ o. unclosed o []) (end-closes end.stamp begin.stamp end.node [] k)

-- nodes in which the reads above another one are closed, and then this one
record Split (read : ℕ) (above below : List ℕ) (es : List Entry) : Type 0 where
  inside : List Entry
  end' : Entry
  behind : List Entry
  whole : es ≡ inside ++ end' ∷ behind
  ended : ends read end'.node ≡ true
  nests : unclosed (Some above) inside ≡ Some []
  rest : unclosed (Some below) behind ≡ Some []

module _ (read : ℕ) (below : List ℕ) where
  one-more : (e : Entry) (es : List Entry) (above above' : List ℕ) → unclosed_after e.stamp e.node above ≡ Some above' → Split read above' below es → Split read above below (e ∷ es)
  one-more e es above above' h p = record {
    inside = e ∷ p.inside;
    end' = p.end';
    behind = p.behind;
    whole = ap (λ (l : List Entry). e ∷ l) p.whole;
    ended = p.ended;
    nests = ap (λ o. unclosed o p.inside) h ∙ p.nests;
    rest = p.rest;
  }

  split-node : (node : Node) (s n : ℕ) (es : List Entry) (above : List ℕ) → ((above : List ℕ) → unclosed (Some (above ++ read ∷ below)) es ≡ Some [] → Split read above below es)
      → unclosed (unclosed_after s node (above ++ read ∷ below)) es ≡ Some [] → Split read above below (record { stamp = s; node = node; steps = n } ∷ es)
  split-node Root s n es above again h = one-more (record { stamp = s; node = Root; steps = n }) es above above refl (again above h)
  split-node (Alloc block key) s n es above again h = one-more (record { stamp = s; node = Alloc block key; steps = n }) es above above refl (again above h)
  split-node (Write place value) s n es above again h = one-more (record { stamp = s; node = Write place value; steps = n }) es above above refl (again above h)
  split-node (Read place value unit var args) s n es above again h =
      one-more (record { stamp = s; node = Read place value unit var args; steps = n }) es above (s ∷ above) refl (again (s ∷ above) h)
  split-node (End r) s n es [] again h = elim (eqb_tells r.0 read) [
    | inl p ↦ record {
      inside = [];
      end' = record { stamp = s; node = End r; steps = n };
      behind = es;
      whole = refl;
      ended = p.0;
      nests = refl;
      rest = rw p.0 at h;
    }
    | inr p ↦ absurd (none-left es [] (rw p.0 at h))
  ]
  split-node (End r) s n es (a ∷ above) again h = elim (eqb_tells r.0 a) [
    | inl p ↦ one-more (record { stamp = s; node = End r; steps = n }) es (a ∷ above) above (rw p.0 refl) (again above (rw p.0 at h))
    | inr p ↦ absurd (none-left es [] (rw p.0 at h))
  ]

  split : (es : List Entry) (above : List ℕ) → unclosed (Some (above ++ read ∷ below)) es ≡ Some [] → Split read above below es
  split [] [] h = absurd (cc)
  split [] (a ∷ above) h = absurd (cc)
  split (e ∷ es) above h = split-node e.node e.stamp e.steps es above (λ above k. split es above k) h

read-node : (o : Option Node) → is_read o ≡ true → (node : Node) × (o ≡ Some node)
read-node None h = absurd (cc)
read-node (Some node) h = (node, refl)

module _ (t : Timeline) (trace : IsTrace t) (nests : Nests t.nodes) (read : ℕ) (reads : is_read (node_at read t.nodes) ≡ true) where
  module _ (front : List Entry) (e : Entry) (back : List Entry) (whole : t.nodes ≡ front ++ e ∷ back) (is : e.stamp ≡ read) (none : has_node read front ≡ false) where
    is-it : is_read (Some e.node) ≡ true
    is-it =
        let there : entry_at read t.nodes ≡ Some e =
        ap (λ es. entry_at read es) whole ∙ subst (λ s. entry_at s (front ++ e ∷ back) ≡ Some e) is (entry-part e back front (subst (λ s. has_node s front ≡ false) (sym is) none)) in
        subst (λ o. is_read o ≡ true) (ap held_by there) reads

    parts-from : (o : Option (List ℕ)) → unclosed (Some []) front ≡ o → unclosed o (e ∷ back) ≡ Some [] → (p : Parted read t.nodes) × (end_in read t.nodes ≡ Some p.ends'.stamp)
    parts-from None k h = absurd (none-left (e ∷ back) [] h)
    parts-from (Some below) k h =
        let begun : unclosed (Some (e.stamp ∷ below)) back ≡ Some [] = subst (λ o. unclosed o back ≡ Some []) (read-begins e.stamp e.node below is-it) h in
        let p = split e.stamp below back [] begun in
        let all : t.nodes ≡ front ++ e ∷ (p.inside ++ p.end' ∷ p.behind) = whole ∙ ap (λ es. front ++ e ∷ es) p.whole in
        let wide : t.nodes ≡ (front ++ e ∷ p.inside) ++ p.end' ∷ p.behind = all ∙ sym (append_assoc front (e ∷ p.inside) (p.end' ∷ p.behind)) in
        let ended : ends read p.end'.node ≡ true = subst (λ s. ends s p.end'.node ≡ true) is p.ended in
        let distinct : Distinct (stamps_in ((front ++ e ∷ p.inside) ++ p.end' ∷ p.behind)) = subst (λ es. Distinct (stamps_in es)) wide trace.order.distinct in
        let alone = not_before (front ++ e ∷ p.inside) p.end' p.behind distinct in
        let there : entry_at p.end'.stamp t.nodes ≡ Some p.end' = ap (λ es. entry_at p.end'.stamp es) wide ∙ entry-part p.end' p.behind (front ++ e ∷ p.inside) alone in
        let node : node_at p.end'.stamp t.nodes ≡ Some (End (record { 0 = read })) = ap held_by there ∙ ap (λ n. Some n) (ends_is read p.end'.node ended) in (
          record {
            before = front;
            begins = e;
            inside = p.inside;
            ends' = p.end';
            behind = p.behind;
            whole = all;
            begun = is;
            ended = ended;
            nests = p.nests;
            without = unclosed-append front p.behind (Some []) ∙ ap (λ o. unclosed o p.behind) k ∙ p.rest;
          },
          trace.one_end p.end'.stamp (record { 0 = read }) node,
        )

    parts-at : (p : Parted read t.nodes) × (end_in read t.nodes ≡ Some p.ends'.stamp)
    parts-at = parts-from (unclosed (Some []) front) refl (sym (unclosed-append front (e ∷ back) (Some [])) ∙ (ap (λ es. unclosed (Some []) es) (sym whole) ∙ nests))

  -- a read of a trace that nests parts its nodes
  pub parts : (p : Parted read t.nodes) × (end_in read t.nodes ≡ Some p.ends'.stamp)
  parts =
      let held = read-node (node_at read t.nodes) reads in
      let at = split_at read t.nodes (has-held read held.0 t.nodes held.1) in
      parts-at at.0 at.1 at.2 at.3 at.4 at.5
