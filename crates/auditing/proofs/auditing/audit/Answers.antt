use Rattle.std.proofs.Common.{rules}
use Rattle.auditing.proofs.Answering.{follows}
use Rattle.auditing.proofs.auditing.audit.Goals as goal

pub returns-in_err-check_readable : goal.returns-in_err-check_readable
returns-in_err-check_readable g c =
    let a = follows (g.D.Device.meaning c.args.d.now) c.args.e (g.met.D.Device.whole c.args.d.now) c.from_residual.result (search rules) in
    record { verdict = search rules; only = a.0; made = a.1; reading = a.2; same = search rules }

pub returns : goal.returns
returns g c =
    let a = follows (g.D.Device.meaning c.args.d.now) c.args.e (g.met.D.Device.whole c.args.d.now) c.judge.result (search rules) in
    record { verdict = search rules; only = a.0; made = a.1; reading = a.2; same = search rules }
