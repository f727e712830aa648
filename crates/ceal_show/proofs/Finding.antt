-- The search finds the blocks that the root reaches, in the order of their paths.
use Rattle.std.proofs.Common.{◌≡◌, ℕ, ◌+◌, ◌<◌, ◌≤◌, zero, suc, true, false, List, [], ◌∷◌, ◌++◌, length, drop, get_or}
use Rattle.std.proofs.Common.{Option, Some, None, refl, sym, ap, ◌∙◌, subst, arith, inl, inr, append_assoc}
use Rattle.std.proofs.Common.{length-append, add-one}
use Rattle.std.proofs.lemmas.List.{append-nil}
use Rattle.std.specs.Prelude.{IsSome, slice_get}
use Rattle.std.specs.List.{AllZip}
use Rattle.std.proofs.lemmas.Bool.{cases_Bool, or_right}
use Rattle.ceal_base.specs.Block.{Block}
use Rattle.ceal_base.specs.Shapes.{kinds_of_shape}
use Rattle.ceal_base.specs.declared.kind.Shape.{Shape}
use Rattle.ceal_base.specs.declared.typed.StructInfo.{StructInfo}
use Rattle.ceal_base.specs.declared.word.BlockId.{BlockId}
use Rattle.ceal_base.specs.declared.word.Word.{Word}
use Rattle.ceal_show.specs.Paths.{same_block, is_in, target_of, target_at, IsPath, IsLess, IsPathOf, AreReached}
use Rattle.ceal_show.specs.Search.{with_target, with_targets, AreClosed}
use Rattle.ceal_show.specs.Shown.{Shown, shape_in, shape_at, words_in, words_at, word_at, target, IsThere, IsWhole}
use Rattle.ceal_show.proofs.PathOrder.{IsAtMost, at_most_append, at_most_trans, at_most_not_less}
use Rattle.ceal_show.proofs.Same.{same_self}
use Rattle.ceal_show.proofs.Searching.{Visit, visit, blocks_of, paths_of, Among, Meets, Sound, Searched, Visiting, blocks_of-append, visited, is_in-visit, begin, skip, pass, meet, finish}

-- How far the search is: how many blocks are done, and which are met.
pub record IsSearching (memory : Shown) (root : BlockId) (at : ℕ) (met : List BlockId) : Type 0 where
  pub done : List Visit
  pub waiting : List Visit
  pub searched : Searched memory root done waiting
  pub counted : length done ≡ at
  pub same : blocks_of (done ++ waiting) ≡ met

-- Words of a block.
slice_get-middle : (front : List Word) (w : Word) (back : List Word) → slice_get (front ++ w ∷ back) (length front) ≡ Some w
slice_get-middle [] w back = refl
slice_get-middle (x ∷ front) w back = slice_get-middle front w back

slice_get-past : (words : List Word) (i : ℕ) → length words ≤ i → slice_get words i ≡ None
slice_get-past [] i h = refl
slice_get-past (w ∷ words) zero h = absurd (omega (arith, h))
slice_get-past (w ∷ words) (suc i) h = slice_get-past words i (omega (arith, h))

slice_get-within : (words : List Word) (i : ℕ) → i < length words → IsSome (slice_get words i)
slice_get-within [] i h = absurd (omega (arith, h))
slice_get-within (w ∷ words) zero h = refl
slice_get-within (w ∷ words) (suc i) h = slice_get-within words i (omega (arith, h))

pub drop_get : (words : List Word) (i : ℕ) (w : Word) → slice_get words i ≡ Some w → drop i words ≡ w ∷ drop (suc i) words
drop_get [] i w e = absurd cc
drop_get (x ∷ words) zero w e = let same : x ≡ w = cc in ap (λ (y : Word). y ∷ words) same
drop_get (x ∷ words) (suc i) w e = drop_get words i w e

pub words_more : (blocks next : List BlockId) (words : List Word) (i : ℕ) (w : Word) → slice_get words i ≡ Some w → next ≡ with_target blocks (target w)
    → with_targets next (drop (i + 1) words) ≡ with_targets blocks (drop i words)
unfolding with_targets
words_more blocks next words i w e f = rw (add-one, drop_get words i w e, f) refl

pub words_all : (blocks : List BlockId) (words : List Word) (i : ℕ) → length words ≤ i → with_targets blocks (drop i words) ≡ blocks
unfolding with_targets
words_all blocks [] zero h = refl
words_all blocks [] (suc i) h = refl
words_all blocks (w ∷ words) zero h = absurd (omega (arith, h))
words_all blocks (w ∷ words) (suc i) h = words_all blocks words i (omega (arith, h))

length-blocks_of : (all : List Visit) → length (blocks_of all) ≡ length all
length-blocks_of [] = refl
length-blocks_of (v ∷ all) = let p = length-blocks_of all in omega (arith, p)

pub is_in-get_or : (met : List BlockId) (at : ℕ) (d : BlockId) → at < length met → is_in (get_or met at d) met ≡ true
is_in-get_or [] at d h = absurd (omega (arith, h))
is_in-get_or (b ∷ met) zero d h = rw (same_self b) refl
is_in-get_or (b ∷ met) (suc at) d h = or_right (same_block (get_or met at d) b) (is_in (get_or met at d) met) (is_in-get_or met at d (omega (arith, h)))

is_in-slice_get : (met : List BlockId) (at : ℕ) (b : BlockId) → slice_get met at ≡ Some b → is_in b met ≡ true
is_in-slice_get [] at b e = absurd cc
is_in-slice_get (c ∷ met) zero b e = let same : c ≡ b = cc in rw same (rw (same_self b) refl)
is_in-slice_get (c ∷ met) (suc at) b e = or_right (same_block b c) (is_in b met) (is_in-slice_get met at b e)

module _ (structs : List StructInfo) (memory : Shown) (whole : IsWhole structs memory) where
  -- a block of a shape has one word for each of its fields
  pub words_counted : (b : BlockId) (shape : Shape) → shape_at memory b ≡ Some shape → length (words_at memory b) ≡ length (kinds_of_shape structs shape)
  words_counted b shape e = by_block (memory b) refl e
    where
      by_block : (o : Option Block) → memory b ≡ o → shape_in o ≡ Some shape → length (words_in o) ≡ length (kinds_of_shape structs shape)
      by_block None f g = absurd cc
      by_block (Some block) f g = let same : block.shape ≡ shape = cc in whole.fields b block f ∙ ap (λ (s : Shape). length (kinds_of_shape structs s)) same

  pub word_there : (b : BlockId) (shape : Shape) (field count : ℕ) → shape_at memory b ≡ Some shape → count ≡ length (kinds_of_shape structs shape) → field < count
      → IsSome (word_at memory b field)
  word_there b shape field count e f h = let n = words_counted b shape e in slice_get-within (words_at memory b) field (omega (arith, f, n, h))

  module _ (root : BlockId) where
    -- what looking at words comes to
    record Looked (done : List Visit) (here : Visit) (at : ℕ) (met : List BlockId) : Type 0 where
      waiting : List Visit
      visiting : Visiting memory root done here at waiting
      same : blocks_of (done ++ here ∷ waiting) ≡ met

    look_at : (done : List Visit) (here : Visit) (front : List Word) (w : Word) (back : List Word) (waiting : List Visit) → words_at memory here.block ≡ front ++ w ∷ back
        → Visiting memory root done here (length front) waiting
        → ((out : List Visit) → Visiting memory root done here (length (front ++ w ∷ [])) out
        → Looked done here (length ((front ++ w ∷ []) ++ back)) (with_targets (blocks_of (done ++ here ∷ out)) back))
        → Looked done here (length (front ++ w ∷ back)) (with_targets (blocks_of (done ++ here ∷ waiting)) (w ∷ back))
    unfolding with_targets
    look_at done here front w back waiting e s rest = by_target (target w) refl
      where
        all : List BlockId
        all = blocks_of (done ++ here ∷ waiting)

        here_word : word_at memory here.block (length front) ≡ Some w
        here_word = ap (λ (l : List Word). slice_get l (length front)) e ∙ slice_get-middle front w back

        counted : length front + 1 ≡ length (front ++ w ∷ [])
        counted = let l = length-append front (w ∷ []) in omega (arith, l)

        on : (out : List Visit) → Visiting memory root done here (length front + 1) out → Looked done here (length (front ++ w ∷ back)) (with_targets (blocks_of (done ++ here ∷ out)) back)
        on out t =
            subst (λ (l : List Word). Looked done here (length l) (with_targets (blocks_of (done ++ here ∷ out)) back)) (append_assoc front (w ∷ []) back)
            (rest out (subst (λ (n : ℕ). Visiting memory root done here n out) counted t))

        one_more : (n : Visit) → blocks_of (done ++ here ∷ (waiting ++ n ∷ [])) ≡ all ++ n.block ∷ []
        one_more n = ap blocks_of (sym (append_assoc done (here ∷ waiting) (n ∷ []))) ∙ blocks_of-append (done ++ here ∷ waiting) (n ∷ [])

        new : (b : BlockId) → target w ≡ Some b → is_in b all ≡ false → Looked done here (length (front ++ w ∷ back)) (with_targets (all ++ b ∷ []) back)
        new b f k =
            let there : IsSome (memory b) = subst (IsThere memory) f (whole.named here.block (length front) w here_word) in
            subst (λ (l : List BlockId). Looked done here (length (front ++ w ∷ back)) (with_targets l back)) (one_more (visit b (here.path ++ length front ∷ [])))
            (on (waiting ++ visit b (here.path ++ length front ∷ []) ∷ []) (meet memory root done here (length front) waiting s b (ap target_of here_word ∙ f) k there))

        by_target : (o : Option BlockId) → target w ≡ o → Looked done here (length (front ++ w ∷ back)) (with_targets (with_target all (target w)) back)
        by_target None f = rw f (on waiting (skip memory root done here (length front) waiting s (ap target_of here_word ∙ f)))
        by_target (Some b) f = rw f (elim (cases_Bool (is_in b all)) [
          | inl k ↦ rw k (on waiting (pass memory root done here (length front) waiting s b (ap target_of here_word ∙ f) k))
          | inr k ↦ rw k (new b f k)
        ])

    look : (done : List Visit) (here : Visit) (front back : List Word) (waiting : List Visit) → words_at memory here.block ≡ front ++ back
        → Visiting memory root done here (length front) waiting
        → Looked done here (length (front ++ back)) (with_targets (blocks_of (done ++ here ∷ waiting)) back)
    unfolding with_targets
    look done here front [] waiting e s = record {
      waiting = waiting;
      visiting = subst (λ (l : List Word). Visiting memory root done here (length l) waiting) (sym (append-nil front)) s;
      same = refl;
    }
    look done here front (w ∷ back) waiting e s =
        look_at done here front w back waiting e s (λ out t. look done here (front ++ w ∷ []) back out (e ∙ sym (append_assoc front (w ∷ []) back)) t)

    at_here : (done : List Visit) (here : Visit) (waiting : List Visit) (at : ℕ) → length done ≡ at → slice_get (blocks_of (done ++ here ∷ waiting)) at ≡ Some here.block
    at_here done here waiting at e = rw (← e) (by_done done)
      where
        by_done : (front : List Visit) → slice_get (blocks_of (front ++ here ∷ waiting)) (length front) ≡ Some here.block
        by_done [] = refl
        by_done (v ∷ front) = by_done front

    none_at : (done : List Visit) (at : ℕ) → length done ≡ at → slice_get (blocks_of (done ++ [])) at ≡ None
    none_at done at e = rw (← e) (by_done done)
      where
        by_done : (front : List Visit) → slice_get (blocks_of (front ++ [])) (length front) ≡ None
        by_done [] = refl
        by_done (v ∷ front) = by_done front

    pub start_search : IsSome (memory root) → IsSearching memory root 0 (root ∷ [])
    unfolding IsPath
    start_search there = record {
      done = [];
      waiting = visit root [] ∷ [];
      searched = record {
        sound = record {
          start = inl refl;
          there = λ v h. by_there v h;
          leads = λ v h. by_leads v h;
          rising = (tt, tt);
          once = λ v w h k e. by_once v w h k;
        };
        closed = λ v h field b e. absurd h;
        ahead = λ v h w k field. by_ahead v h w k field;
      };
      counted = refl;
      same = refl;
    }
      where
        by_there : (v : Visit) → Among v (visit root [] ∷ []) → IsSome (memory v.block)
        by_there v (inl e) = subst (λ (x : Visit). IsSome (memory x.block)) (sym e) there
        by_there v (inr h) = absurd h

        by_leads : (v : Visit) → Among v (visit root [] ∷ []) → IsPath memory root v.path v.block
        by_leads v (inl e) = subst (λ (x : Visit). IsPath memory root x.path x.block) (sym e) refl
        by_leads v (inr h) = absurd h

        by_once : (v w : Visit) → Among v (visit root [] ∷ []) → Among w (visit root [] ∷ []) → v.path ≡ w.path
        by_once v w (inl e) (inl f) = ap (λ (x : Visit). x.path) (e ∙ sym f)
        by_once v w (inl e) (inr k) = absurd k
        by_once v w (inr h) k = absurd h

        by_ahead : (v : Visit) → Among v (visit root [] ∷ []) → (w : Visit) → Among w (visit root [] ∷ []) → (field : ℕ) → IsLess w.path (v.path ++ field ∷ [])
        by_ahead v (inl e) w (inl f) field = subst (λ (x : Visit). IsLess x.path (v.path ++ field ∷ [])) (sym f) (subst (λ (x : Visit). IsLess [] (x.path ++ field ∷ [])) (sym e) (inl (omega arith)))
        by_ahead v (inl e) w (inr k) field = absurd k
        by_ahead v (inr h) w k field = absurd h

    pub more_search : (at : ℕ) (met : List BlockId) (b : BlockId) → IsSearching memory root at met → slice_get met at ≡ Some b → IsSearching memory root (at + 1) (with_targets met (words_at memory b))
    more_search at met b s e = by_waiting s.waiting s.searched s.same
      where
        step : (here : Visit) (waiting : List Visit) → Searched memory root s.done (here ∷ waiting) → blocks_of
            (s.done ++ here ∷ waiting) ≡ met → here.block ≡ b → IsSearching memory root (at + 1)
            (with_targets met (words_at memory b))
        step here waiting t f same =
            let r = look s.done here [] (words_at memory here.block) waiting refl (begin memory root s.done here waiting t) in
            record {
              done = s.done ++ here ∷ [];
              waiting = r.waiting;
              searched = finish memory root s.done here (length (words_at memory here.block)) r.waiting r.visiting (λ field k. ap target_of (slice_get-past (words_at memory here.block) field k));
              counted = let l = length-append s.done (here ∷ []) in omega (arith, l, s.counted);
              same = ap blocks_of (append_assoc s.done (here ∷ []) r.waiting) ∙ r.same ∙ rw (f, same) refl;
            }

        by_waiting : (waiting : List Visit) → Searched memory root s.done waiting → blocks_of (s.done ++ waiting) ≡ met → IsSearching memory root (at + 1) (with_targets met (words_at memory b))
        by_waiting [] t f = absurd (let g : Some b ≡ None = sym e ∙ ap (λ (l : List BlockId). slice_get l at) (sym f) ∙ none_at s.done at s.counted in cc)
        by_waiting (here ∷ waiting) t f =
            let g : Some here.block ≡ Some b = sym (at_here s.done here waiting at s.counted) ∙ ap (λ (l : List BlockId). slice_get l at) f ∙ e in
            step here waiting t f (let same : here.block ≡ b = cc in same)

    pub there_search : (at : ℕ) (met : List BlockId) (b : BlockId) → IsSearching memory root at met → slice_get met at ≡ Some b → IsSome (memory b)
    there_search at met b s e =
        let v = visited (s.done ++ s.waiting) b (ap (is_in b) s.same ∙ is_in-slice_get met at b e) in
        subst (λ (x : BlockId). IsSome (memory x)) v.2 (s.searched.sound.there v.0 v.1)

-- Where nothing waits, all that the root reaches is met by its least path.
module _ (memory : Shown) (root : BlockId) (done : List Visit) (s : Searched memory root done []) where
  nothing_waits : done ++ [] ≡ done
  nothing_waits = append-nil done

  closed : (v : Visit) → Among v done → (field : ℕ) (b : BlockId) → target_at memory v.block field ≡ Some b → Meets done b (v.path ++ field ∷ [])
  closed v h field b e = subst (λ (l : List Visit). Meets l b (v.path ++ field ∷ [])) nothing_waits (s.closed v h field b e)

  sound : Sound memory root done
  sound = subst (Sound memory root) nothing_waits s.sound

  -- a path from a block that is met leads to one that is met by a path that is not larger
  met_from : (path : List ℕ) (v : Visit) → Among v done → (b : BlockId) → IsPath memory v.block path b → Meets done b (v.path ++ path)
  unfolding IsPath
  met_from [] v h b e = record { by = v; among = h; same = e; least = inl (sym (append-nil v.path)) }
  met_from (field ∷ path) v h b (c, e, k) =
      let m = closed v h field c e in
      let r = met_from path m.by m.among b (subst (λ (x : BlockId). IsPath memory x path b) (sym m.same) k) in
      record {
        by = r.by;
        among = r.among;
        same = r.same;
        least =
            at_most_trans r.by.path (m.by.path ++ path) (v.path ++ field ∷ path) r.least
            (subst (IsAtMost (m.by.path ++ path)) (append_assoc v.path (field ∷ []) path) (at_most_append m.by.path (v.path ++ field ∷ []) path m.least));
      }

  met_by : (b : BlockId) (path : List ℕ) → IsPath memory root path b → Meets done b path
  met_by b path h = met_from path (visit root []) sound.start b h

  is_path : (v : Visit) → Among v done → IsPathOf memory root v.block v.path
  is_path v h = record {
    leads = sound.leads v h;
    least = λ other k less.
        let m = met_by v.block other k in
        let same = sound.once m.by v m.among h m.same in
        at_most_not_less m.by.path other m.least (subst (IsLess other) (sym same) less);
  }

  each : (all : List Visit) → ((v : Visit) → Among v all → IsPathOf memory root v.block v.path) → AllZip (IsPathOf memory root) (blocks_of all) (paths_of all)
  each [] h = tt
  each (v ∷ all) h = (h v (inl refl), each all (λ w k. h w (inr k)))

  pub all_reached : AreReached memory root (blocks_of done)
  all_reached = record {
    paths = paths_of done;
    each = each done is_path;
    rising = sound.rising;
    all = λ b path h. let m = met_by b path h in subst (λ (x : BlockId). is_in x (blocks_of done) ≡ true) m.same (is_in-visit done m.by m.among);
  }

  pub all_closed : AreClosed memory (blocks_of done)
  all_closed = record {
    there = λ b h. let v = visited done b h in subst (λ (x : BlockId). IsSome (memory x)) v.2 (sound.there v.0 v.1);
    closed = λ b field c h e.
        let v = visited done b h in
        let m = closed v.0 v.1 field c (subst (λ (x : BlockId). target_at memory x field ≡ Some c) (sym v.2) e) in
        subst (λ (x : BlockId). is_in x (blocks_of done) ≡ true) m.same (is_in-visit done m.by m.among);
  }

module _ (memory : Shown) (root : BlockId) (at : ℕ) (met : List BlockId) (s : IsSearching memory root at met) (over : length met ≤ at) where
  no_more : (waiting : List Visit) → length (blocks_of (s.done ++ waiting)) ≡ length met → waiting ≡ []
  no_more [] e = refl
  no_more (v ∷ waiting) e =
      let l = length-blocks_of (s.done ++ v ∷ waiting) in
      let m = length-append s.done (v ∷ waiting) in
      absurd (omega (arith, l, m, e, s.counted, over))

  searched : Searched memory root s.done []
  searched = subst (Searched memory root s.done) (no_more s.waiting (ap length s.same)) s.searched

  same : blocks_of s.done ≡ met
  same =
      ap blocks_of (sym (append-nil s.done)) ∙ ap (λ (w : List Visit). blocks_of (s.done ++ w)) (sym (no_more s.waiting (ap length s.same))) ∙ s.same

  pub end_reached : AreReached memory root met
  end_reached = subst (AreReached memory root) same (all_reached memory root s.done searched)

  pub end_closed : AreClosed memory met
  end_closed = subst (AreClosed memory) same (all_closed memory root s.done searched)
