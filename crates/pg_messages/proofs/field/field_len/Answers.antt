-- What the proof of `field_len` answers by hand.
use Rattle.std.proofs.Common.{rules, ap, refl, ◌∙◌}
use Rattle.pg_messages.specs.Fields.{field_form}
use Rattle.pg_messages.proofs.Forms.{oids_counted, sized_counted}
use Rattle.pg_messages.proofs.field.field_len.Goals as goal

pub returns-in-Byte : goal.returns-in-Byte
returns-in-Byte c = (_, ap field_form c.in-Byte.is, refl)

pub returns-in-Int4 : goal.returns-in-Int4
returns-in-Int4 c = (_, ap field_form c.in-Int4.is, refl)

pub returns-in-Bytes : goal.returns-in-Bytes
returns-in-Bytes c = (_, ap field_form c.in-Bytes.is, search rules)

pub returns-else-oids-gt-MAX_COUNT : goal.returns-else-oids-gt-MAX_COUNT
returns-else-oids-gt-MAX_COUNT c =
    let p = oids_counted c.in-Oids.oids.now c.if-oids-gt-MAX_COUNT.false in (p.0, ap field_form c.in-Oids.is ∙ p.1, p.2)

pub returns-else-bytes-gt-MAX_LEN : goal.returns-else-bytes-gt-MAX_LEN
returns-else-bytes-gt-MAX_LEN c =
    let p = sized_counted c.in-Sized.bytes.now c.if-bytes-gt-MAX_LEN.false in (p.0, ap field_form c.in-Sized.is ∙ p.1, p.2)
