use Rattle.std.proofs.Common.{refl}
use Rattle.snx_sites.proofs.Chain.{site_given, site_refused}
use Rattle.snx_sites.proofs.sites.read_line.Goals as goal

pub returns-in_ok-text-in-Ok : goal.returns-in_ok-text-in-Ok
returns-in_ok-text-in-Ok c = rw c.in_ok-text-in-Ok.ensures (site_given c.args.line.now.text.now c.in-Ok.names c.in-Ok.ensures)

pub returns-in-Err : goal.returns-in-Err
returns-in-Err c = (c.in-Err.cause, site_refused c.args.line.now.text.now c.in-Err.cause c.in-Err.ensures, refl)
