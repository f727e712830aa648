use Rattle.std.proofs.Common.{refl}
use Rattle.ceal_cli.proofs.Outputs.ResumedOutput.{unsound}
use Rattle.ceal_cli.proofs.resume.resumed.Goals as goal

pub returns-in-Err-Unsound-clause-unsound : goal.returns-in-Err-Unsound-clause-unsound
returns-in-Err-Unsound-clause-unsound c = λ _.
    let none = rw c.in-Err-Unsound.field-0-is at c.in-Err-Unsound.ensures.unsound in
    unsound c.args.program.code c.args.bytes.now c.args.part.now c.requires.split c.in-Ok.saved c.in-Ok.ensures.read (none refl)
