-- What the proof of `parse_macaddr` answers by hand.
use Rattle.std.proofs.Common.{◌≡◌, true, refl}
use Rattle.pg_base.specs.NetworkTexts.{has_colons}
use Rattle.pg_base.proofs.Macaddrs.{in_pairs, pairs_in, spells}
use Rattle.pg_base.proofs.network.text.parse_macaddr.Goals as goal

pub returns-then-not-has_colons : goal.returns-then-not-has_colons
returns-then-not-has_colons c = λ bytes said.
    let colons = (spells c.args.text.now bytes said).0 in
    let none = c.if-not-has_colons.ensures in
    cc

pub returns-in_err-hex_byte : goal.returns-in_err-hex_byte
returns-in_err-hex_byte c =
    rw c.from_residual.ensures (λ bytes said. (let of = (spells c.args.text.now bytes said).1.0 in
    c.in_err-hex_byte.ensures of.0 (rw c.as_bytes-text.ensures.value of.1)))

pub returns-in_err-hex_byte-2 : goal.returns-in_err-hex_byte-2
returns-in_err-hex_byte-2 c =
    rw c.from_residual-in_err-hex_byte-2.ensures (λ bytes said. (let of = (spells c.args.text.now bytes said).1.1.0 in
    c.in_err-hex_byte-2.ensures of.0 (rw c.as_bytes-text.ensures.value of.1)))

pub returns-in_err-hex_byte-3 : goal.returns-in_err-hex_byte-3
returns-in_err-hex_byte-3 c =
    rw c.from_residual-in_err-hex_byte-3.ensures (λ bytes said. (let of = (spells c.args.text.now bytes said).1.1.1.0 in
    c.in_err-hex_byte-3.ensures of.0 (rw c.as_bytes-text.ensures.value of.1)))

pub returns-in_err-hex_byte-4 : goal.returns-in_err-hex_byte-4
returns-in_err-hex_byte-4 c =
    rw c.from_residual-in_err-hex_byte-4.ensures (λ bytes said. (let of = (spells c.args.text.now bytes said).1.1.1.1.0 in
    c.in_err-hex_byte-4.ensures of.0 (rw c.as_bytes-text.ensures.value of.1)))

pub returns-in_err-hex_byte-5 : goal.returns-in_err-hex_byte-5
returns-in_err-hex_byte-5 c =
    rw c.from_residual-in_err-hex_byte-5.ensures (λ bytes said. (let of = (spells c.args.text.now bytes said).1.1.1.1.1.0 in
    c.in_err-hex_byte-5.ensures of.0 (rw c.as_bytes-text.ensures.value of.1)))

pub returns-in_err-hex_byte-6 : goal.returns-in_err-hex_byte-6
returns-in_err-hex_byte-6 c =
    rw c.from_residual-in_err-hex_byte-6.ensures (λ bytes said. (let of = (spells c.args.text.now bytes said).1.1.1.1.1.1.0 in
    c.in_err-hex_byte-6.ensures of.0 (rw c.as_bytes-text.ensures.value of.1)))

pub returns : goal.returns
returns c =
    let text = c.as_bytes-text.result.now in
    let told = c.if-not-has_colons.ensures in
    let colons : has_colons text ≡ true = cc in
    rw (← c.as_bytes-text.ensures.value) (
      pairs_in text,
      in_pairs text colons,
      (
        c.in_ok-hex_byte.ensures,
        (
          c.in_ok-hex_byte-2.ensures,
          (
            c.in_ok-hex_byte-3.ensures,
            (c.in_ok-hex_byte-4.ensures, (c.in_ok-hex_byte-5.ensures, (c.in_ok-hex_byte-6.ensures, tt))),
          ),
        ),
      ),
      refl,
    )
