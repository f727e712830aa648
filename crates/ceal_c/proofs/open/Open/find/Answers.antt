use Rattle.std.proofs.Common.{◌++◌, codes}
use Rattle.ceal_c.proofs.InputHandles.{found-by-line}
use Rattle.ceal_c.proofs.open.Open.find.Goals as goal

-- the line `get NAME` is a command's or no command's, and the handle that it finds is that of an input's field
pub number_of-requires : goal.number_of-requires
number_of-requires c =
    found-by-line c.in-Ok.found c.args.self.now.session.state (codes "get " ++ c.args.name.now) (c.command_or_none.ensures (codes "get " ++ c.args.name.now)) c.in-Ok.ensures.found
