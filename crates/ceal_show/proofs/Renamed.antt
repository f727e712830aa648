-- A graph text of a memory is that of each memory that is one with it up to the numbers of its core blocks.
use Rattle.std.proofs.Common.{◌≡◌, ℕ, ◌+◌, true, zero, suc, List, [], ◌∷◌, ◌++◌, map, Option, Some, None, refl, sym, ap, ◌∙◌, subst, inl, inr, arith}
use Rattle.std.specs.Prelude.{slice_get, IsSome, codes}
use Rattle.std.specs.Fmt.{decimal}
use Rattle.std.specs.List.{AllZip, AllByRecursion}
use Rattle.std.specs.Option.{option_map}
use Rattle.std.proofs.lemmas.Bool.{false≢true, or_right}
use Rattle.ceal_base.specs.Block.{Block}
use Rattle.ceal_base.specs.declared.kind.Shape.{Shape}
use Rattle.ceal_base.specs.declared.typed.StructInfo.{StructInfo}
use Rattle.ceal_base.specs.declared.word.BlockId.{BlockId}
use Rattle.ceal_base.specs.declared.word.BlockId.TheVariants.{Input, Core}
use Rattle.ceal_base.specs.declared.word.Word.{Word}
use Rattle.ceal_base.specs.declared.word.Word.TheVariants.{Num, Null, Block as BlockWord, At}
use Rattle.ceal_show.specs.Graph.{core_count, cores_before, label_text, Scene, word_text, fields_text, block_text, lines_text, IsGraphText}
use Rattle.ceal_show.specs.Paths.{same_block, is_in, target_of, target_at, IsPath, IsPathOf, AreReached}
use Rattle.ceal_show.specs.Renaming.{renamed_word, renamed_block, IsRenaming}
use Rattle.ceal_show.specs.Shown.{Shown, shape_in, shape_at, words_in, words_at, word_at, target, IsThere, IsWhole}
use Rattle.ceal_show.proofs.Same.{same_tells, same_self}

slice_get-map : {A B : Type 0} (f : A → B) (xs : List A) (i : ℕ) → slice_get (map f xs) i ≡ option_map f (slice_get xs i)
slice_get-map f [] i = refl
slice_get-map f (x ∷ xs) zero = refl
slice_get-map f (x ∷ xs) (suc i) = slice_get-map f xs i

module _ (structs : List StructInfo) (rename : BlockId → BlockId) (from to : Shown) (r : IsRenaming rename from to) (whole : IsWhole structs from) where
  target-renamed : (w : Word) → target (renamed_word rename w) ≡ option_map rename (target w)
  target-renamed (Num n) = refl
  target-renamed Null = refl
  target-renamed (BlockWord b) = refl
  target-renamed (At p) = refl

  target_of-renamed : (o : Option Word) → target_of (option_map (renamed_word rename) o) ≡ option_map rename (target_of o)
  target_of-renamed None = refl
  target_of-renamed (Some w) = target-renamed w

  -- a block that is there, and the same block in the other memory
  record Both (b : BlockId) : Type 0 where
    block : Block
    here : from b ≡ Some block
    there : to (rename b) ≡ Some (renamed_block rename block)

  both : (b : BlockId) → IsSome (from b) → Both b
  both b h = by_block (from b) refl h
    where
      by_block : (o : Option Block) → from b ≡ o → IsSome o → Both b
      by_block None e h = absurd (false≢true h)
      by_block (Some block) e h = record { block = block; here = e; there = r.blocks b block e }

  words-renamed : (b : BlockId) → IsSome (from b) → words_at to (rename b) ≡ map (renamed_word rename) (words_at from b)
  words-renamed b h = let o = both b h in ap words_in o.there ∙ sym (ap (λ (x : Option Block). map (renamed_word rename) (words_in x)) o.here)

  shape-renamed : (b : BlockId) → IsSome (from b) → shape_at to (rename b) ≡ shape_at from b
  shape-renamed b h = let o = both b h in ap shape_in o.there ∙ sym (ap shape_in o.here)

  target_at-renamed : (b : BlockId) (field : ℕ) → IsSome (from b) → target_at to (rename b) field ≡ option_map rename (target_at from b field)
  target_at-renamed b field h =
      ap (λ (ws : List Word). target_of (slice_get ws field)) (words-renamed b h) ∙ ap target_of (slice_get-map (renamed_word rename) (words_at from b) field)
      ∙ target_of-renamed (word_at from b field)

  -- what a block leads to is there
  target_there : (b : BlockId) (field : ℕ) (c : BlockId) → target_at from b field ≡ Some c → IsSome (from c)
  target_there b field c e = by_word (word_at from b field) refl e
    where
      by_word : (o : Option Word) → word_at from b field ≡ o → target_of o ≡ Some c → IsSome (from c)
      by_word None f g = absurd cc
      by_word (Some w) f g = subst (IsThere from) g (whole.named b field w f)

  forth : (path : List ℕ) (a b : BlockId) → IsSome (from a) → IsPath from a path b → IsPath to (rename a) path (rename b)
  unfolding IsPath
  forth [] a b h e = ap rename e
  forth (field ∷ path) a b h (c, e, k) = (rename c, target_at-renamed a field h ∙ ap (option_map rename) e, forth path c b (target_there a field c e) k)

  -- a path in the other memory is one in this
  record Back (a : BlockId) (path : List ℕ) (c : BlockId) : Type 0 where
    block : BlockId
    same : rename block ≡ c
    leads : IsPath from a path block
    there : IsSome (from block)

  one_back : (field : ℕ) (a d : BlockId) → IsSome (from a) → target_at to (rename a) field ≡ Some d → (b : BlockId) × (target_at from a field ≡ Some b) × (rename b ≡ d)
  one_back field a d h e = by_target (target_at from a field) refl (sym (target_at-renamed a field h) ∙ e)
    where
      by_target : (o : Option BlockId) → target_at from a field ≡ o → option_map rename o ≡ Some d → (b : BlockId) × (target_at from a field ≡ Some b) × (rename b ≡ d)
      by_target None f g = absurd cc
      by_target (Some b) f g = (b, f, cc)

  back : (path : List ℕ) (a c : BlockId) → IsSome (from a) → IsPath to (rename a) path c → Back a path c
  unfolding IsPath
  back [] a c h e = record { block = a; same = e; leads = refl; there = h }
  back (field ∷ path) a c h (d, e, k) =
      let s = one_back field a d h e in
      let t = back path s.0 c (target_there a field s.0 s.1) (subst (λ (x : BlockId). IsPath to x path c) (sym s.2) k) in
      record { block = t.block; same = t.same; leads = (s.0, s.1, t.leads); there = t.there }

  leads_there : (path : List ℕ) (a b : BlockId) → IsSome (from a) → IsPath from a path b → IsSome (from b)
  unfolding IsPath
  leads_there [] a b h e = subst (λ (x : BlockId). IsSome (from x)) e h
  leads_there (field ∷ path) a b h (c, e, k) = leads_there path c b (target_there a field c e) k

  abbrev AreThere : List BlockId → Type 0
  AreThere blocks = AllByRecursion (λ b. IsSome (from b)) blocks

  module _ (root : BlockId) (start : IsSome (from root)) where
    path-renamed : (b : BlockId) (path : List ℕ) → IsPathOf from root b path → IsPathOf to (rename root) (rename b) path
    path-renamed b path p = record {
      leads = forth path root b start p.leads;
      least = λ other k less.
          let s = back other root (rename b) start k in
          let e = r.one_to_one s.block b s.there (leads_there path root b start p.leads) s.same in
          p.least other (subst (IsPath from root other) e s.leads) less;
    }

    each-renamed : (blocks : List BlockId) (paths : List (List ℕ)) → AllZip (IsPathOf from root) blocks paths → AllZip (IsPathOf to (rename root)) (map rename blocks) paths
    each-renamed [] [] z = tt
    each-renamed [] (p ∷ paths) z = absurd z
    each-renamed (b ∷ blocks) [] z = absurd z
    each-renamed (b ∷ blocks) (p ∷ paths) z = (path-renamed b p z.0, each-renamed blocks paths z.1)

    each_there : (blocks : List BlockId) (paths : List (List ℕ)) → AllZip (IsPathOf from root) blocks paths → AreThere blocks
    each_there [] paths z = tt
    each_there (b ∷ blocks) [] z = absurd z
    each_there (b ∷ blocks) (p ∷ paths) z = (leads_there p root b start z.0.leads, each_there blocks paths z.1)

    reached-renamed : (blocks : List BlockId) → AreReached from root blocks → AreReached to (rename root) (map rename blocks)
    reached-renamed blocks s = record {
      paths = s.paths;
      each = each-renamed blocks s.paths s.each;
      rising = s.rising;
      all = λ c path k.
          let t = back path root c start k in
          subst (λ (x : BlockId). is_in x (map rename blocks) ≡ true) t.same (in-renamed t.block blocks (s.all t.block path t.leads));
    }
      where
        in-renamed : (b : BlockId) (bs : List BlockId) → is_in b bs ≡ true → is_in (rename b) (map rename bs) ≡ true
        in-renamed b [] h = absurd (false≢true h)
        in-renamed b (c ∷ bs) h = elim (same_tells b c) [
          | inl e ↦ subst (λ (x : BlockId). is_in (rename b) (rename x ∷ map rename bs) ≡ true) e.1 (rw (same_self (rename b)) refl)
          | inr e ↦ or_right (same_block (rename b) (rename c)) (is_in (rename b) (map rename bs)) (in-renamed b bs (rw e.0 at h))
        ]

  -- Labels.
  same-renamed : (b c : BlockId) → IsSome (from b) → IsSome (from c) → same_block (rename b) (rename c) ≡ same_block b c
  same-renamed b c h k = elim (same_tells b c) [
    | inl e ↦ subst (λ (x : BlockId). same_block (rename b) (rename x) ≡ same_block b x) e.1 (same_self (rename b) ∙ sym (same_self b))
    | inr e ↦ elim (same_tells (rename b) (rename c)) [
      | inl f ↦ absurd (e.1 (r.one_to_one b c h k f.1))
      | inr f ↦ f.0 ∙ sym e.0
    ]
  ]

  core_count-renamed : (b : BlockId) → core_count (rename b) ≡ core_count b
  core_count-renamed (Input n) = ap core_count (r.inputs n)
  core_count-renamed (Core n) = r.cores n

  cores_before-renamed : (b : BlockId) (blocks : List BlockId) → IsSome (from b) → AreThere blocks → cores_before (rename b) (map rename blocks) ≡ cores_before b blocks
  cores_before-renamed b [] h k = refl
  cores_before-renamed b (c ∷ blocks) h k = rw (same-renamed b c h k.0, core_count-renamed c, cores_before-renamed b blocks h k.1) refl

  label_core : (name : ℕ → List ℕ) (blocks : List BlockId) (b : BlockId) → core_count b ≡ 1 → label_text name blocks b ≡ codes "#" ++ decimal (cores_before b blocks + 1)
  label_core name blocks (Input n) e = absurd (omega (arith, e))
  label_core name blocks (Core n) e = refl

  label-renamed : (name : ℕ → List ℕ) (blocks : List BlockId) → AreThere blocks → (b : BlockId) → IsSome (from b) → label_text name (map rename blocks) (rename b) ≡ label_text name blocks b
  label-renamed name blocks k (Input n) h = ap (label_text name (map rename blocks)) (r.inputs n)
  label-renamed name blocks k (Core n) h =
      label_core name (map rename blocks) (rename (Core n)) (r.cores n) ∙ ap (λ (m : ℕ). codes "#" ++ decimal (m + 1)) (cores_before-renamed (Core n) blocks h k)

  -- Texts.
  module _ (name : ℕ → List ℕ) (blocks : List BlockId) (here : AreThere blocks) where
    abbrev old : Scene
    old = record { structs = structs; memory = from; name = name; blocks = blocks }

    abbrev new : Scene
    new = record { structs = structs; memory = to; name = name; blocks = map rename blocks }

    word-renamed : (w : Word) → IsThere from (target w) → word_text new (renamed_word rename w) ≡ word_text old w
    word-renamed (Num n) h = refl
    word-renamed Null h = refl
    word-renamed (BlockWord b) h = label-renamed name blocks here b h
    word-renamed (At p) h = rw (label-renamed name blocks here p.block h, shape-renamed p.block h) refl

    fields-renamed : (shape : Shape) (field : ℕ) (words : List Word) → AllByRecursion (λ w. IsThere from (target w)) words
        → fields_text new shape field (map (renamed_word rename) words) ≡ fields_text old shape field words
    unfolding fields_text
    fields-renamed shape field [] h = refl
    fields-renamed shape field (w ∷ words) h = rw (word-renamed w h.0, fields-renamed shape (field + 1) words h.1) refl

    words_there : (b : BlockId) → AllByRecursion (λ w. IsThere from (target w)) (words_at from b)
    words_there b = each_of (words_at from b) (whole.named b)
      where
        each_of : (ws : List Word) → ((i : ℕ) (w : Word) → slice_get ws i ≡ Some w → IsThere from (target w)) → AllByRecursion (λ w. IsThere from (target w)) ws
        each_of [] f = tt
        each_of (w ∷ ws) f = (f 0 w refl, each_of ws (λ i x e. f (suc i) x e))

    block-renamed : (b : BlockId) → IsSome (from b) → block_text new (rename b) (shape_at to (rename b)) ≡ block_text old b (shape_at from b)
    block-renamed b h = ap (block_text new (rename b)) (shape-renamed b h) ∙ by_shape (shape_at from b)
      where
        by_shape : (o : Option Shape) → block_text new (rename b) o ≡ block_text old b o
        by_shape None = refl
        by_shape (Some shape) =
            rw (label-renamed name blocks here b h, words-renamed b h, fields-renamed shape 0 (words_at from b) (words_there b)) refl

    lines-renamed : (bs : List BlockId) → AreThere bs → lines_text new (map rename bs) ≡ lines_text old bs
    unfolding lines_text
    lines-renamed [] h = refl
    lines-renamed (b ∷ bs) h = rw (block-renamed b h.0, lines-renamed bs h.1) refl

pub text_renamed : (structs : List StructInfo) (name : ℕ → List ℕ) (rename : BlockId → BlockId) (from to : Shown) (root : BlockId) (text : List ℕ)
    → IsRenaming rename from to → IsWhole structs from → IsSome (from root) → IsGraphText structs from name root text → IsGraphText structs to name (rename root) text
text_renamed structs name rename from to root text r whole start t =
    let there = each_there structs rename from to r whole root start t.blocks t.reached.paths t.reached.each in
    record {
      blocks = map rename t.blocks;
      reached = reached-renamed structs rename from to r whole root start t.blocks t.reached;
      is_text = t.is_text ∙ ap (λ (l : List ℕ). l ++ codes "end\n") (sym (lines-renamed structs rename from to r whole name t.blocks there t.blocks there));
    }
