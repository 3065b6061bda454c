-- What the proof of `interval_to_sql` answers by hand.
use Rattle.std.proofs.Common.{◌≡◌, ◌++◌, ◌∙◌, ap, arith}
use Rattle.std.proofs.lemmas.Int.{to_z-of_z}
use Rattle.std.specs.Int.{w32, w64}
use Rattle.pg_base.proofs.IntervalLaws.{appended_by_parts}
use Rattle.pg_base.specs.Cells.{be}
use Rattle.pg_base.proofs.protocol.interval.interval_to_sql.Goals as goal

pub returns : goal.returns
returns c =
    let m = c.args.microseconds in
    let d = c.args.days in
    let n = c.args.months in
    let m_bytes : c.to_be_bytes.result ≡ be w64 m =
    c.to_be_bytes.ensures ∙ ap (be w64) (to_z-of_z w64 m c.ranges.microseconds) in
    let d_bytes : c.to_be_bytes-2.result ≡ be w32 d =
    c.to_be_bytes-2.ensures ∙ ap (be w32) (to_z-of_z w32 d c.ranges.days) in
    let n_bytes : c.to_be_bytes-3.result ≡ be w32 n =
    c.to_be_bytes-3.ensures ∙ ap (be w32) (to_z-of_z w32 n c.ranges.months) in (
      appended_by_parts c.args.out.now.items c.extend_reserved.new.self.items c.extend_reserved-2.new.self.items
          c.extend_reserved-3.new.self.items m d n
          (c.extend_reserved.ensures.items ∙ ap (λ s. s ++ c.to_be_bytes.result) c.in_ok-reserve.ensures.items
          ∙ ap (λ s. c.args.out.now.items ++ s) m_bytes)
          (c.extend_reserved-2.ensures.items ∙ ap (λ s. c.extend_reserved.new.self.items ++ s) d_bytes)
          (c.extend_reserved-3.ensures.items ∙ ap (λ s. c.extend_reserved-2.new.self.items ++ s) n_bytes),
      omega (
        arith,
        c.in_ok-reserve.ensures.spare,
        c.extend_reserved.ensures.spare,
        c.extend_reserved-2.ensures.spare,
        c.extend_reserved-3.ensures.spare,
      ),
    )
