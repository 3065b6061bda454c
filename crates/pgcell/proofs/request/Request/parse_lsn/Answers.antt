-- What the proof of `Request::parse_lsn` answers by hand.
use Rattle.std.proofs.Common.{Some, ap, refl}
use Rattle.std.proofs.lemmas.Str.{is_utf8-from_IsUtf8}
use Rattle.pgcell.specs.Request.{lsn}
use Rattle.std.specs.Str.{is_utf8}
use Rattle.pgcell.proofs.Requests.{no_text}
use Rattle.pgcell.proofs.request.Request.parse_lsn.Goals as goal

pub returns-in-Ok : goal.returns-in-Ok
returns-in-Ok c = rw (is_utf8-from_IsUtf8 c.args.text.now c.in-Ok.ensures.cases.1)
    (ap (λ text. Some (lsn text)) c.in-Ok.ensures.cases.0)

pub returns-in-Err : goal.returns-in-Err
returns-in-Err c = no_text c.args.text.now (lsn c.args.text.now) (is_utf8 c.args.text.now) refl c.in-Err.ensures.cases.0
