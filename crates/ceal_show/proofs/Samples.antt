-- Computed samples of the definitions.
use Rattle.std.proofs.Common.{◌≡◌, [], ◌∷◌, refl, inl, inr, arith}
use Rattle.std.specs.Prelude.{codes, ◌==◌, if◌then◌else◌}
use Rattle.std.specs.Fmt.{digits}
use Rattle.ceal_base.specs.Block.{block_at}
use Rattle.ceal_base.specs.declared.kind.FieldKind.TheVariants.{Plain, CellPtr}
use Rattle.ceal_base.specs.declared.kind.Kind.TheVariants.{Int, Ptr, ModPtr}
use Rattle.ceal_base.specs.declared.word.BlockId.TheVariants.{Input, Core}
use Rattle.ceal_show.specs.Graph.{Scene, fields_text, lines_text}
use Rattle.ceal_show.specs.Paths.{IsLess, IsPath}
use Rattle.ceal_show.specs.Sample.{sample}

-- a shorter path is less; of one length, the one with the smaller number at the first difference
shorter : IsLess (9 ∷ []) (0 ∷ 0 ∷ [])
shorter = inl (omega arith)

earlier : IsLess (2 ∷ 0 ∷ 7 ∷ []) (2 ∷ 1 ∷ 0 ∷ [])
earlier = inr (refl, inr (refl, inl (omega arith)))

-- by the pair's third field, which points to a modifiable in the last cell
leads : IsPath (block_at sample) (Input 1) (2 ∷ []) (Core 0)
unfolding IsPath
leads = (Core 0, refl, refl)

scene : Scene
scene = record {
  structs =
      record { name = codes "cell"; fields = record { name = codes "head"; kind = Plain Int; row = 0 } ∷ record { name = codes "tail"; kind = CellPtr 0; row = 0 } ∷ [] }
      ∷ record {
        name = codes "pair";
        fields = record { name = codes "left"; kind = Plain (Ptr 0); row = 0 } ∷ record {
          name = codes "right";
          kind =
              Plain (Ptr 0);
          row = 0;
        } ∷ record { name = codes "at"; kind = Plain (ModPtr 0); row = 0 }
            ∷ record { name = codes "out"; kind = Plain (ModPtr 0); row = 0 } ∷ [];
      } ∷ [];
  memory = block_at sample;
  name = λ n. if n == 0 then codes "o" else codes "p";
  blocks = Input 1 ∷ Core 2 ∷ Core 1 ∷ Core 0 ∷ Input 0 ∷ [];
}

pair_line : lines_text scene (Input 1 ∷ Core 0 ∷ []) ≡ codes "p pair left=#1 right=#2 at=#3.tail out=o\n#3 cell head=-20 tail=null\n"
unfolding scene lines_text fields_text digits
pair_line = refl
