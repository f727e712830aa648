use Rattle.std.specs.Prelude.{codes}
use Rattle.std.specs.Fmt.{decimal}
use Rattle.ceal_gen.specs.ListText.{put_in_front}
use Rattle.ceal_gen.specs.Names.{cell_name}
use Rattle.ceal_gen.proofs.Pieces.{four}
use Rattle.ceal_gen.proofs.list.put_front.Goals as goal

-- the new cell, the edit that puts it in front, and the two lines that follow each edit
pub returns : goal.returns
unfolding put_in_front
returns c =
    rw (c.in_ok-append_str-3.ensures.ok, c.in_ok-put_cell_name.ensures, c.in_ok-append_str-2.ensures.ok, c.in_ok-append_number.ensures.ok, c.in_ok-append_str.ensures.ok)
    (four c.args.out.now (codes "new y1 cell ") (decimal c.args.head) (codes " ") (cell_name c.args.size) (codes "\n") (codes "set l y1\n") (codes "propagate\n") (codes "work\n"))
