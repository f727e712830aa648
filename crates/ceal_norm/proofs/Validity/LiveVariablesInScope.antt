-- Variables that are live at a block are in scope there.
use Rattle.std.proofs.Common.{◌≡◌, ◌⊎◌, inl, inr, ℕ, ◌<◌, ◌≤◌, ◌==◌, not, true, false, Option, Some, None, MatchOption, List, [], ◌∷◌, length, slice_get, Contains, refl, ap, subst}
use Rattle.ceal_base.specs.Usage.{CoreUsage}
use Rattle.ceal_base.specs.WellTyped.{Context, ExprSuits, StmtTyped, ValueTyped, seen_after, kind_held}
use Rattle.ceal_base.specs.declared.kind.Kind.{Kind}
use Rattle.ceal_base.specs.declared.typed.TypedFunction.{TypedFunction}
use Rattle.ceal_base.specs.declared.typed.TypedStmt.{TypedStmt, Declare, Assign, SetField, Write, Call, If', While', Return, Break, Continue}
use Rattle.ceal_base.specs.declared.typed.TypedValue.{TypedValue}
use Rattle.ceal_base.specs.declared.typed.TypedValue.TheVariants.{Plain, Read, Alloc, ModrefInt, Modref}
use Rattle.ceal_code.proofs.Words.SameIsEqual.{nat-refl}
use Rattle.ceal_flow.specs.Laws.{IsSimple}
use Rattle.ceal_flow.specs.Live.{mentions, value_mentions, stmt_uses, uses, uses_at, stmt_assigns, keeps, AreLiveSets}
use Rattle.ceal_flow.specs.Paths.{Path, stays, jumps_to, jumps, jumps_at, test_at}
use Rattle.ceal_flow.specs.Sets.{is_in, is_that, set_at}
use Rattle.ceal_flow.specs.declared.block.GraphBlock.{GraphBlock}
use Rattle.ceal_flow.specs.declared.block.GraphBlock.TheVariants.{Done, Test, Act}
use Rattle.ceal_flow.proofs.ListFacts.{get-within}
use Rattle.ceal_norm.proofs.Jumps.JumpCounts.{contains-none, contains-one, contains-cases}
use Rattle.ceal_norm.proofs.Validity.ExpressionTypes.{Seen, form-seen, exprs-seen}
use Rattle.ceal_norm.proofs.Validity.KnownVariables.{in-either}
use Rattle.ceal_norm.proofs.Validity.StatementsAtBlocks.{Within, Stands, View, over, tests, acts, view}

-- what is in an option that has to be there
pub record Match {X : Type 0} (o : Option X) (P : X → Type 0) : Type 0 where
  pub item : X
  pub is : o ≡ Some item
  pub holds : P item

pub match : {X : Type 0} (o : Option X) (P : X → Type 0) → MatchOption o ⊥ P → Match o P
match None P h = absurd h
match (Some x) P h = record { item = x; is = refl; holds = h }

contains-two : (x y c : ℕ) → Contains (x ∷ y ∷ []) c → (x ≡ c) ⊎ (y ≡ c)
contains-two x y c h = elim (contains-cases x (y ∷ []) c h) [ inl e ↦ inl e | inr k ↦ inr (contains-one y c k) ]

-- a variable is live where a block uses it, and where it is live after a block that does not assign it
module _ (blocks : List GraphBlock) (sets : List (List ℕ)) (live : AreLiveSets blocks sets) where
  pub used-live : (b v : ℕ) (block : GraphBlock) → slice_get blocks b ≡ Some block → is_in v (uses block) ≡ true → is_in v (set_at sets b) ≡ true
  used-live b v block look h = (live.exact b v (get-within blocks b block look)).1 (b, stays, rw look h)

  pub jump-live : (b c v : ℕ) (block : GraphBlock) → slice_get blocks b ≡ Some block → keeps v block ≡ true → Contains (jumps block) c → c < length blocks
      → is_in v (set_at sets c) ≡ true → is_in v (set_at sets b) ≡ true
  jump-live b c v block look keep j within h =
      let k = (live.exact c v within).0 h in
      (live.exact b v (get-within blocks b block look)).1 (k.0, jumps_to (rw look keep) (rw look j) k.1, k.2)

module _ (c : Context) (seen : List ℕ) where
  value-seen : (kind : Kind) (value : TypedValue) → ValueTyped c seen kind value → (v : ℕ) → is_in v (value_mentions value) ≡ true → Seen c seen v
  value-seen kind (Plain e) t v h = form-seen c seen e.kind e.form t.0 v h
  value-seen kind (Read at e) t v h = form-seen c seen e.kind e.form t.0 v h
  value-seen kind (Alloc at shape f name args) t v h = exprs-seen c seen args t.2 v h
  value-seen kind (ModrefInt at) t v h = cc
  value-seen kind (Modref at s) t v h = cc

  pub stmt-seen : (fs : List TypedFunction) (next : ℕ) (s : TypedStmt) → StmtTyped c seen next s → CoreUsage fs true s → IsSimple s → (v : ℕ) → is_in v (stmt_uses s) ≡ true → Seen c seen v
  unfolding StmtTyped CoreUsage
  stmt-seen fs next (Declare at n kind value) t u simple v h = value-seen kind value t.2 v h
  stmt-seen fs next (Assign at n value) t u simple v h =
      let m = match (slice_get c.kinds n) (λ kind. ValueTyped c seen kind value) t.1 in value-seen m.item value m.holds v h
  stmt-seen fs next (SetField at left k field e) t u simple v h = absurd u
  stmt-seen fs next (Write at place e) t u simple v h = elim (in-either v (mentions place) (mentions e) h) [
    | inl k ↦ form-seen c seen place.kind place.form t.0 v k
    | inr k ↦ let m = match (kind_held place.kind) (λ kind. ExprSuits c seen kind e) t.1 in form-seen c seen e.kind e.form m.holds.0 v k
  ]
  stmt-seen fs next (Call at f args) t u simple v h = exprs-seen c seen args t.0 v h
  stmt-seen fs next (If' at test _ first _ second) t u simple v h = absurd simple
  stmt-seen fs next (While' at test _ body) t u simple v h = absurd simple
  stmt-seen fs next (Return at) t u simple v h = absurd simple
  stmt-seen fs next (Break at) t u simple v h = absurd simple
  stmt-seen fs next (Continue at) t u simple v h = absurd simple

  pub seen-kept : (s : TypedStmt) (v : ℕ) → Contains (seen_after seen s) v → not (is_that (stmt_assigns s) v) ≡ true → Contains seen v
  seen-kept (Declare at n kind value) v h k = elim (contains-cases n seen v h) [
    | inl e ↦
        let same : (n == v) ≡ true = subst (λ w. (n == w) ≡ true) e (nat-refl n) in
        let not-kept : not (n == v) ≡ false = ap not same in cc
    | inr z ↦ z
  ]
  seen-kept (Assign at n value) v h k = h
  seen-kept (SetField at left j field e) v h k = h
  seen-kept (Write at place e) v h k = h
  seen-kept (Call at f args) v h k = h
  seen-kept (If' at test _ first _ second) v h k = h
  seen-kept (While' at test _ body) v h k = h
  seen-kept (Return at) v h k = h
  seen-kept (Break at) v h k = h
  seen-kept (Continue at) v h k = h

  pub seen-within : (outer : List ℕ) (v : ℕ) → Within seen outer → Seen c seen v → Seen c outer v
  seen-within outer v w h = (w v h.0, h.1)

module _ (fs : List TypedFunction) (c : Context) (blocks : List GraphBlock) (start done : ℕ) (over-there : slice_get blocks done ≡ Some Done) (room : start ≤ done) where
  abbrev Stand : List ℕ → ℕ → Type 0
  Stand seen at = Stands fs c blocks start done seen at

  abbrev Sight : List ℕ → ℕ → Type 0
  Sight seen at = View fs c blocks start done over-there room seen at

  pub sight-within : (seen : List ℕ) (at : ℕ) → Sight seen at → at < length blocks
  sight-within seen at (over look) = get-within blocks at Done look
  sight-within seen at (tests test a b inner look within typed int one two) = get-within blocks at (Test test a b) look
  sight-within seen at (acts s next nx inner look within typed usage simple st) = get-within blocks at (Act s next) look

  pub stands-there : (seen : List ℕ) (at : ℕ) → Stand seen at → at < length blocks
  stands-there seen at st = sight-within seen at (view fs c blocks start done over-there room seen at st)

  use-seen : (seen : List ℕ) (at v : ℕ) → Sight seen at → is_in v (uses_at (slice_get blocks at)) ≡ true → Seen c seen v
  use-seen seen at v (over look) h = let k = rw look at h in cc
  use-seen seen at v (tests test a b inner look within typed int one two) h =
      seen-within c inner seen v within (form-seen c inner test.kind test.form typed v (rw look at h))
  use-seen seen at v (acts s next nx inner look within typed usage simple st) h =
      seen-within c inner seen v within (stmt-seen c inner fs nx s typed usage simple v (rw look at h))

  -- where a path leads there are others
  pub record Onward (seen : List ℕ) (b d : ℕ) (keep : ℕ → Type 0) : Type 0 where
    pub after : List ℕ
    pub stands : Stand after d
    pub back : (v : ℕ) → keep v → Seen c after v → Seen c seen v

  pub onward : (seen : List ℕ) (b d : ℕ) → Sight seen b → Contains (jumps_at (slice_get blocks b)) d → Onward seen b d (λ v. test_at (keeps v) (slice_get blocks b))
  onward seen b d (over look) j = absurd (contains-none d (rw look at j))
  onward seen b d (tests test x y inner look within typed int one two) j = elim (contains-two x y d (rw look at j)) [
    | inl e ↦ record { after = inner; stands = subst (λ z. Stand inner z) e one; back = λ v k h. seen-within c inner seen v within h }
    | inr e ↦ record { after = inner; stands = subst (λ z. Stand inner z) e two; back = λ v k h. seen-within c inner seen v within h }
  ]
  onward seen b d (acts s next nx inner look within typed usage simple st) j =
      let e = contains-one next d (rw look at j) in
      record {
        after = seen_after inner s;
        stands = subst (λ z. Stand (seen_after inner s) z) e st;
        back = λ v k h. let kept = rw look at k in seen-within c inner seen v within (seen-kept c inner s v h.0 kept, h.1);
      }

  pub path-seen : (v : ℕ) (seen : List ℕ) (b d : ℕ) → Stand seen b → Path blocks (keeps v) b d → is_in v (uses_at (slice_get blocks d)) ≡ true → Seen c seen v
  path-seen v seen b d st stays h = use-seen seen b v (view fs c blocks start done over-there room seen b st) h
  path-seen v seen b d st (jumps_to {b = x} {c = y} {d = z} t j p) h =
      let o = onward seen x y (view fs c blocks start done over-there room seen x st) j in
      o.back v t (path-seen v o.after y d o.stands p h)

  pub live-seen : (sets : List (List ℕ)) → AreLiveSets blocks sets → (seen : List ℕ) (b v : ℕ) → Stand seen b → is_in v (set_at sets b) ≡ true → Seen c seen v
  live-seen sets live seen b v st h =
      let k = (live.exact b v (stands-there seen b st)).0 h in path-seen v seen b k.0 st k.1 k.2
