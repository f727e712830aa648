-- Texts of many pieces, which computing would take apart.
use Rattle.std.proofs.Common.{◌≡◌, ℕ, List, ◌++◌, refl, append_assoc}

-- four pieces, and one of four pieces
pub four : (o a b c d e f g h : List ℕ) → o ++ a ++ b ++ c ++ d ++ (e ++ f ++ g ++ h) ≡ o ++ (a ++ b ++ c ++ d ++ e ++ f ++ g ++ h)
four o a b c d e f g h = simp append_assoc refl

pub nine : (o a b c d e f g h i : List ℕ) → o ++ a ++ b ++ c ++ d ++ e ++ f ++ g ++ h ++ i ≡ o ++ (a ++ b ++ c ++ d ++ e ++ f ++ g ++ h ++ i)
nine o a b c d e f g h i = simp append_assoc refl
