-- Laws of the order of NUMERIC: it is total.
use Rattle.std.proofs.lemmas.Cmp.{back_total, int_cmp_total, nat_cmp_total, nat_list_cmp_total, on_total, then_total}
use Rattle.std.specs.Cmp.{IsTotalOrder}
use Rattle.pg_numbers.specs.Numeric.{Parts}
use Rattle.pg_numbers.specs.NumericOrder.{magnitude_cmp, negative_part, number_cmp, number_part, numeric_cmp}
use Rattle.pg_numbers.specs.NumericOrder.{positive_part, sign_rank, value_rank}

magnitude_total : IsTotalOrder magnitude_cmp
magnitude_total =
    then_total (on_total (λ (p : Parts). p.weight) int_cmp_total) (on_total (λ
    (p : Parts). p.digits) nat_list_cmp_total)

pub number_total : IsTotalOrder number_cmp
number_total =
    then_total (on_total sign_rank nat_cmp_total)
    (then_total (on_total negative_part (back_total magnitude_total)) (on_total positive_part magnitude_total))

pub numeric_total : IsTotalOrder numeric_cmp
numeric_total = then_total (on_total value_rank nat_cmp_total) (on_total number_part number_total)
