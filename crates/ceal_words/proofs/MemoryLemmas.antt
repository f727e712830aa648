-- One cell comes out of a block's cells and goes back. Assumes `Logic`.
use mathlib.Core.Path.{◌≡◌, refl, sym, subst}
use Prim.Native.Nat.{ℕ, zero, suc, ◌+◌, ◌*◌, ◌<◌}
use native.Mathlib.Nat.{not-suc-le-zero, le_of_suc-le-suc}
use Rattle.std.specs.Prelude.{List, [], ◌∷◌, Option, Some, None, IsSome, length, replicate, unwrap_or}
use Rattle.std.proofs.Common.{⊎_elim}
use Rattle.std.proofs.lemmas.Bool.{cases_lt, false≢true}
use Rattle.std.proofs.lemmas.List.{get_or_past}
use lib.ListN.{get_or, set}
use seplogic.Ra.Ura.{Ura}
use base.Fraction.{full_share}
use base.Logic.{ent, sep, id⊢}
use base.Fml.{Fml, Lft, ftrue, fsep, fat, froom}
use mir.Syntax.{w64, ty_int, ty_array}
use mir.Val.{vint}
use types.Logic.{Logic, sem}
use types.Kit.{‵, ◌⊛◌, ◌$◌, ◌∵◌, !, qed, by, move, keep, use1, use2, split, rewrite, fsplit, frame, done}
use denote.Builtin.{u64}
use denote.Memory.{part_at}
use denote.Plain.{uint_in, uint_out}
use denote.Index.{place, place_is}
use Rattle.ceal_words.specs.Memory.{cell, cells, cell_lent, cells_lent}

-- the cells without the i-th
abbrev pub besides : ℕ → ℕ → List (Option ℕ) → ℕ → Fml
besides b o [] i = ftrue
besides b o (c ∷ cs) zero = cells b (o + 8) cs
besides b o (c ∷ cs) (suc i) = fsep (cell b o c) (besides b (o + 8) cs i)

module _ {M : Type 1} {𝓤 : Ura M} (𝓛 : Logic 𝓤) (b : ℕ) where
  open 𝓛 use {H}

  takes : (cs : List (Option ℕ)) (i o : ℕ) → i < length cs → ent 𝓤 (sem 𝓛 (cells b o cs)) (sep 𝓤 (sem 𝓛 (cell b (place 8 o i) (get_or cs i None))) (sem 𝓛 (besides b o cs i)))
  takes [] i o l = absurd (not-suc-le-zero l)
  takes (c ∷ cs) zero o l = qed 𝓛 (‵ (cells b o (c ∷ cs)) ∷ []) ∵ fsplit ! $ done !
  takes (c ∷ cs) (suc i) o l =
      qed 𝓛 (‵ (cells b o (c ∷ cs)) ∷ []) ∵ fsplit ! $ move ! (1 ∷ []) $
      use1 𝓛 (‵ (cell b (place 8 (o + 8) i) (get_or cs i None)) ⊛ ‵ (besides b (o + 8) cs i)) (takes cs i (o + 8) (le_of_suc-le-suc l)) $ split ! $ frame ! $ move ! (1 ∷ 0 ∷ []) $ done !

  puts : (cs : List (Option ℕ)) (i : ℕ) (c : Option ℕ) (o : ℕ) → i < length cs → ent 𝓤 (sep 𝓤 (sem 𝓛 (cell b (place 8 o i) c)) (sem 𝓛 (besides b o cs i))) (sem 𝓛 (cells b o (set cs i c)))
  puts [] i c o l = absurd (not-suc-le-zero l)
  puts (d ∷ cs) zero c o l = qed 𝓛 (‵ (cell b o c) ∷ ‵ (cells b (o + 8) cs) ∷ []) ∵ done !
  puts (d ∷ cs) (suc i) c o l =
      qed 𝓛 (‵ (cell b (place 8 (o + 8) i) c) ∷ ‵ (besides b o (d ∷ cs) (suc i)) ∷ []) ∵ move ! (1 ∷ []) $ fsplit ! $ move ! (2 ∷ 1 ∷ []) $
      use2 𝓛 (‵ (cells b (o + 8) (set cs i c))) (puts cs i c (o + 8) (le_of_suc-le-suc l)) $ move ! (1 ∷ 0 ∷ []) $ done !

  -- a cell is room, whether or not it is written
  emptied : (c : Option ℕ) (o : ℕ) → ent 𝓤 (sem 𝓛 (cell b o c)) (H.room (ty_int w64) b o)
  emptied None o = id⊢ 𝓤 _
  emptied (Some x) o = qed 𝓛 (‵ (part_at u64 full_share x b o) ∷ []) ∵ use1 𝓛 (‵ (fat full_share (ty_int w64) b o (vint w64 x))) (uint_out 𝓛 full_share w64 x b o) $ by !
      (𝓛.laws.at_room (ty_int w64) b o (vint w64 x))

  pub room_out : (cs : List (Option ℕ)) (i o : ℕ) → i < length cs → ent 𝓤 (sem 𝓛 (cells b o cs)) (sep 𝓤 (H.room (ty_int w64) b (i * 8 + o)) (sem 𝓛 (besides b o cs i)))
  room_out cs i o l =
      qed 𝓛 (‵ (cells b o cs) ∷ []) ∵ use1 𝓛 (‵ (cell b (place 8 o i) (get_or cs i None)) ⊛ ‵ (besides b o cs i)) (takes cs i o l) $ split ! $
      use1 𝓛 (‵ (froom (ty_int w64) b (place 8 o i))) (emptied (get_or cs i None) (place 8 o i)) $
      rewrite ! 0 (λ (k : ℕ). ‵ (froom (ty_int w64) b k)) (place_is 8 o i) refl $ done !

  pub written : (cs : List (Option ℕ)) (i x o : ℕ) → i < length cs
      → ent 𝓤 (sep 𝓤 (H.at full_share (ty_int w64) b (i * 8 + o) (vint w64 x)) (sem 𝓛 (besides b o cs i))) (sem 𝓛 (cells b o (set cs i (Some x))))
  written cs i x o l =
      qed 𝓛 (‵ (fat full_share (ty_int w64) b (i * 8 + o) (vint w64 x)) ∷ ‵ (besides b o cs i) ∷ []) ∵
      use1 𝓛 (‵ (cell b (i * 8 + o) (Some x))) (uint_in 𝓛 full_share w64 x b (i * 8 + o)) $
      rewrite ! 0 (λ (k : ℕ). ‵ (cell b k (Some x))) (sym (place_is 8 o i)) refl $ by ! (puts cs i (Some x) o l)

  -- room for n words is n cells that are not written
  pub of_room : (n o : ℕ) → ent 𝓤 (H.room (ty_array (ty_int w64) n) b o) (sem 𝓛 (cells b o (replicate n None)))
  of_room zero o = qed 𝓛 (‵ (froom (ty_array (ty_int w64) 0) b o) ∷ []) ∵ keep ! [] $ done !
  of_room (suc n) o = qed 𝓛 (‵ (froom (ty_array (ty_int w64) (suc n)) b o) ∷ []) ∵
      use1 𝓛 (‵ (froom (ty_int w64) b o) ⊛ ‵ (froom (ty_array (ty_int w64) n) b (o + 8))) (𝓛.laws.room_uncons (ty_int w64) n b o) $ split ! $ frame ! $ by ! (of_room n (o + 8))

  pub to_room : (cs : List (Option ℕ)) (o : ℕ) → ent 𝓤 (sem 𝓛 (cells b o cs)) (H.room (ty_array (ty_int w64) (length cs)) b o)
  to_room [] o = 𝓛.laws.room_nil (ty_int w64) b o
  to_room (c ∷ cs) o = qed 𝓛 (‵ (cell b o c) ∷ ‵ (cells b (o + 8) cs) ∷ []) ∵
      use1 𝓛 (‵ (froom (ty_int w64) b o)) (emptied c o) $ move ! (1 ∷ []) $
      use1 𝓛 (‵ (froom (ty_array (ty_int w64) (length cs)) b (o + 8))) (to_room cs (o + 8)) $ move ! (1 ∷ []) $ by ! (𝓛.laws.room_cons (ty_int w64) (length cs) b o)

  -- a written cell is seen through a `&`
  pub seen : (κ : Lft) (cs : List (Option ℕ)) (i o : ℕ) → i < length cs → ent 𝓤 (sem 𝓛 (cells_lent b o cs κ)) (sem 𝓛 (cell_lent b (place 8 o i) (get_or cs i None) κ))
  seen κ [] i o l = absurd (not-suc-le-zero l)
  seen κ (c ∷ cs) zero o l = qed 𝓛 (‵ (cells_lent b o (c ∷ cs) κ) ∷ []) ∵ fsplit ! $ keep ! (0 ∷ []) $ done !
  seen κ (c ∷ cs) (suc i) o l = qed 𝓛 (‵ (cells_lent b o (c ∷ cs) κ) ∷ []) ∵ fsplit ! $ keep ! (1 ∷ []) $ by ! (seen κ cs i (o + 8) (le_of_suc-le-suc l))

-- a cell that is there, and holds a word
pub some_is : (c : Option ℕ) → IsSome c → c ≡ Some (unwrap_or c 0)
some_is None none = absurd (false≢true none)
some_is (Some x) some = refl

pub is_there : (cs : List (Option ℕ)) (i : ℕ) → IsSome (get_or cs i None) → i < length cs
is_there cs i some = ⊎_elim (λ within. within) (λ past. absurd (false≢true (subst IsSome (get_or_past cs i None past) some))) (cases_lt i (length cs))
