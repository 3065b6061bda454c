-- What the proof of `varbit_to_sql` answers by hand.
use Rattle.std.proofs.Common.{◌≡◌, ◌∙◌, ◌++◌, length, ap, refl, append_assoc, arith}
use Rattle.std.specs.Int.{w32, to_be_bytes}
use Rattle.std.proofs.lemmas.Int.{of_z-to_z}
use Rattle.pg_base.specs.Bits.{first_bits, packed}
use Rattle.pg_base.specs.Counts.{number_width}
use Rattle.pg_base.proofs.BitCells.{appends_cell, cell_past, appends_nothing}
use Rattle.pg_base.proofs.protocol.bits.varbit_to_sql.Goals as goal

pub returns-then-len-gt-MAX_LEN : goal.returns-then-len-gt-MAX_LEN
returns-then-len-gt-MAX_LEN c = rw (cell_past c.args.len c.args.bytes.now c.if-len-gt-MAX_LEN.true) (refl, refl)

pub returns-in_err-reserve : goal.returns-in_err-reserve
returns-in_err-reserve c =
    let fault = c.from_residual.ensures in
    let left = c.in_err-reserve.ensures in
    appends_nothing c.args.len c.args.bytes.now c.args.out.now c.reserve.new.self c.from_residual.result
    c.if-len-gt-MAX_LEN.false c.requires fault.0 fault.1 left.items left.spare.1 left.spare.0

pub returns : goal.returns
returns c =
    let n = c.args.len in
    let p = c.args.bytes.now in
    let old = c.args.out.now in
    let number = c.to_be_bytes.ensures ∙ ap (to_be_bytes w32) (of_z-to_z w32 n (omega arith)) in
    let head = c.extend_reserved.ensures.items ∙ ap (λ x. x ++ c.to_be_bytes.result) c.in_ok-reserve.ensures.items
    ∙ ap (λ x. old.items ++ x) number in
    let items = c.extend_by_bits.ensures.items ∙ ap (λ x. x ++ packed (first_bits n p)) head
    ∙ append_assoc old.items (to_be_bytes w32 n) (packed (first_bits n p)) in
    let count : length c.to_be_bytes.result ≡ number_width = ap length c.to_be_bytes.ensures in
    appends_cell n p old c.extend_by_bits.new.out c.if-len-gt-MAX_LEN.false c.requires items
    (omega (
      arith,
      count,
      c.extend_by_bits.ensures.spare,
      c.extend_reserved.ensures.spare,
      c.in_ok-reserve.ensures.spare,
    ))
