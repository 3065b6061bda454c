-- What the proof of `push_document` answers by hand.
use Rattle.std.proofs.Common.{◌≡◌, ℕ, Bor, List, false, refl}
use Rattle.std.specs.Prelude.{codes}
use Rattle.std.specs.Str.{is_utf8}
use Rattle.pg_copy.proofs.Wires.{bytes_or_fault, document_never_null, value_frame}
use Rattle.pg_types.specs.declared.types.built_in.BuiltIn.TheVariants.{Jsonb}
use Rattle.postgres_types.specs.Content.{content, is_row}
use Rattle.postgres_types.specs.Faults.{transmit}
use Rattle.postgres_types.specs.JsonTexts.{accepts_document, wire_document}
use Rattle.postgres_types.specs.Texts.{accepted_text, wire_text}
use Rattle.postgres_types.specs.declared.json_text.JsonText.{JsonText}
use Rattle.pg_copy.proofs.parse.push_document.Goals as goal

pub returns-then-is_array-clause-ok : goal.returns-then-is_array-clause-ok
returns-then-is_array-clause-ok c = rw c.if-is_array.true c.push_array_as.ensures.ok

pub returns-clause-ok : goal.returns-clause-ok
returns-clause-ok c =
    let ty = content c.args.ty.now in
    let bytes = c.args.text.now in
    let versioned = is_row Jsonb ty in
    rw c.if-is_array.false (value_frame {A = JsonText (Bor (List ℕ))} (λ text v. v.0.now ≡ text)
    (accepts_document accepted_text) (codes "JsonText")
    (λ ty v. wire_document (is_row Jsonb ty) (wire_text false v.0.now)) ty bytes (record { 0 = c.args.text }) refl
    (document_never_null versioned (wire_text false bytes) (bytes_or_fault (is_utf8 bytes) bytes transmit))
    c.args.out.now.items c.frame_value.new.out.items c.frame_value.result c.frame_value.ensures.frame)
