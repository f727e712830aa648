use Rattle.std.proofs.Common.{◌≡◌, refl}
use Rattle.ceal_many.proofs.Callers.{all-ready}
use Rattle.ceal_tests.proofs.many.reply.Goals as goal

pub command-requires : goal.command-requires
command-requires c = record {
  sessions = all-ready (λ echo heard. echo.heard ≡ heard) (λ _. Unit {0}) (λ echo. (echo.heard, refl, tt)) c.args.many.now.sessions;
  opening = tt;
}
