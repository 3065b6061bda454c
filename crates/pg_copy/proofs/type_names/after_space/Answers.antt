-- What the proof of `after_space` answers by hand.
use Rattle.std.proofs.Common.{◌≡◌, None, ap, arith, option_map}
use Rattle.pg_copy.proofs.QuoteLaws.{split_once_around}
use Rattle.pg_copy.proofs.type_names.after_space.Goals as goal

pub returns-in_err-after : goal.returns-in_err-after
returns-in_err-after c =
    let cut = rw c.in_err-after.was at (split_once_around 32 c.args.text.now c.split_once.result
    c.split_once.ensures.cases (omega arith)) in
    let none : c.from_residual.result ≡ None = grind arith in
    rw none (ap (option_map (λ parts. parts.1)) cut)

pub returns : goal.returns
returns c =
    let cut = rw c.in_ok-after.was at (split_once_around 32 c.args.text.now c.split_once.result
    c.split_once.ensures.cases (omega arith)) in
    ap (option_map (λ parts. parts.1)) cut
