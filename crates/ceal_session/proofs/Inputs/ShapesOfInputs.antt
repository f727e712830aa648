-- The names and the shapes of inputs: of those that a line makes, and of those whose bases are edited.
use Rattle.std.proofs.Common.{◌≡◌, ℕ, ◌<◌, Bool, true, false, Option, Some, None, List, [], ◌∷◌, ◌++◌, length, cond, nat_lt, position, slice_get, zero, suc, refl, sym, ap, ◌∙◌, subst, arith}
use Rattle.std.specs.List.{list_all, position_or_len}
use Rattle.std.specs.Prelude.{IfSome}
use Rattle.ceal_base.specs.Block.{Block, alone}
use Rattle.ceal_base.specs.declared.typed.StructInfo.{StructInfo}
use Rattle.ceal_base.specs.declared.word.BlockId.TheVariants.{Input}
use Rattle.ceal_code.proofs.TypedCode.ShapesKept.{ShapesKept}
use Rattle.ceal_code.proofs.Replay.MemoryChanges.{got, get-within}
use Rattle.ceal_code.proofs.Words.SameIsEqual.{both, both-true, some-same}
use Rattle.ceal_script.specs.Lines.{IsLineOf}
use Rattle.ceal_script.specs.Spelling.{IsName}
use Rattle.ceal_script.specs.declared.command.Command.{Command}
use Rattle.ceal_script.specs.declared.command.Command.TheVariants.{Blank, Mod, New, Set, Run, Propagate, Slice, Get, Show, Blocks, Steps, Work, Bound}
use Rattle.ceal_script.specs.declared.command.KindWord.{KindWord}
use Rattle.ceal_script.specs.declared.command.KindWord.TheVariants.{Int as IntWord, Named}
use Rattle.ceal_session.specs.InputNames.{AreSpelled, IsNamed, HaveKnownShapes}
use Rattle.ceal_session.specs.Replies.{Reads}
use Rattle.ceal_session.specs.Senses.{mod_shape, pointer_shape, struct_shape, struct_named}
use Rattle.ceal_session.specs.State.{State}
use Rattle.ceal_traceck.specs.Verdicts.{is_known, has_known_shape}

-- a line says so of its command
pub makes-named : (command : Command) (line : List ℕ) → IsLineOf command line → IsNamed command
makes-named (Mod name kind value) line h = h.says.3
makes-named (New name shape values) line h = h.says.2
makes-named Blank line h = tt
makes-named (Set place value) line h = tt
makes-named (Run function args) line h = tt
makes-named Propagate line h = tt
makes-named (Slice reads) line h = tt
makes-named (Get place) line h = tt
makes-named (Show name) line h = tt
makes-named Blocks line h = tt
makes-named Steps line h = tt
makes-named Work line h = tt
makes-named Bound line h = tt

pub line-named : (line : List ℕ) (command : Option Command) → Reads line command → IfSome command IsNamed
line-named line None h = tt
line-named line (Some command) h = makes-named command line h

-- a place that is found is one of the list
module _ {X : Type 0} (t : X → Bool) where
  found-within : (xs : List X) (n : ℕ) → position t xs ≡ Some n → nat_lt n (length xs) ≡ true
  found-within xs n e = go (nat_lt (position_or_len t xs) (length xs)) refl e
    where
      go : (b : Bool) → nat_lt (position_or_len t xs) (length xs) ≡ b → cond b (Some (position_or_len t xs)) None ≡ Some n → nat_lt n (length xs) ≡ true
      go true i k = subst (λ m. nat_lt m (length xs) ≡ true) (some-same (position_or_len t xs) n k) i
      go false i k = absurd (grind (arith, k))

-- the shapes that a line names are known
by-struct : (s : State) (name : List ℕ) (o : Option ℕ) → struct_named s name ≡ o → IfSome o (λ n. nat_lt n (length s.program.structs) ≡ true)
by-struct s name None e = tt
by-struct s name (Some n) e = found-within _ s.program.structs n e

pub struct-known : (s : State) (name : List ℕ) → IfSome (struct_shape (struct_named s name)) (λ shape. is_known s.program.structs shape ≡ true)
struct-known s name = go (struct_named s name) (by-struct s name (struct_named s name) refl)
  where
    go : (o : Option ℕ) → IfSome o (λ n. nat_lt n (length s.program.structs) ≡ true) → IfSome (struct_shape o) (λ shape. is_known s.program.structs shape ≡ true)
    go None h = tt
    go (Some n) h = h

pub mod-known : (s : State) (kind : KindWord) → IfSome (mod_shape s kind) (λ shape. is_known s.program.structs shape ≡ true)
mod-known s IntWord = refl
mod-known s (Named name) = go (struct_named s name) (by-struct s name (struct_named s name) refl)
  where
    go : (o : Option ℕ) → IfSome o (λ n. nat_lt n (length s.program.structs) ≡ true) → IfSome (pointer_shape o) (λ shape. is_known s.program.structs shape ≡ true)
    go None h = tt
    go (Some n) h = h

-- so it is with all of a list
module _ {X : Type 0} (t : X → Bool) where
  all-push : (xs : List X) (x : X) → list_all t xs ≡ true → t x ≡ true → list_all t (xs ++ x ∷ []) ≡ true
  all-push [] x h k = both-true (t x) true k refl
  all-push (y ∷ ys) x h k = let b = both (t y) (list_all t ys) h in both-true (t y) (list_all t (ys ++ x ∷ [])) b.0 (all-push ys x b.1 k)

  all-at : (xs : List X) (n : ℕ) (x : X) → list_all t xs ≡ true → slice_get xs n ≡ Some x → t x ≡ true
  all-at [] n x h e = absurd (grind (arith, e))
  all-at (y ∷ ys) zero x h e = subst (λ z. t z ≡ true) (some-same y x e) (both (t y) (list_all t ys) h).0
  all-at (y ∷ ys) (suc n) x h e = all-at ys n x (both (t y) (list_all t ys) h).1 e

  all-from : (xs : List X) → ((n : ℕ) (x : X) → slice_get xs n ≡ Some x → t x ≡ true) → list_all t xs ≡ true
  all-from [] f = refl
  all-from (y ∷ ys) f = both-true (t y) (list_all t ys) (f 0 y refl) (all-from ys (λ n x e. f (suc n) x e))

module _ (structs : List StructInfo) where
  pub shapes-more : (inputs : List Block) (block : Block) → HaveKnownShapes structs inputs → has_known_shape structs block ≡ true → HaveKnownShapes structs (inputs ++ block ∷ [])
  shapes-more inputs block h k = all-push (has_known_shape structs) inputs block h k

  -- inputs of one count that keep the shapes of others
  pub shapes-kept : (old new : List Block) → ShapesKept (alone old) (alone new) → length new ≡ length old → HaveKnownShapes structs old → HaveKnownShapes structs new
  shapes-kept old new kept count h = all-from (has_known_shape structs) new each
    where
      each : (n : ℕ) (b : Block) → slice_get new n ≡ Some b → has_known_shape structs b ≡ true
      each n b e =
          let there = got old n (subst (λ m. n < m) count (get-within new n b e)) in
          let k = kept (Input n) there.0 there.1 in
          let same : k.0 ≡ b = some-same k.0 b (sym k.1 ∙ e) in
          subst (λ shape. is_known structs shape ≡ true) (sym k.2 ∙ ap (λ (c : Block). c.shape) same)
          (all-at (has_known_shape structs) old n there.0 h there.1)

-- one name more
pub spelled-more : (names : List (List ℕ)) (name : List ℕ) → AreSpelled names → IsName name → AreSpelled (names ++ name ∷ [])
spelled-more [] name h k = (k, tt)
spelled-more (n ∷ names) name h k = (h.0, spelled-more names name h.1 k)
