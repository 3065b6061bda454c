-- Laws of composite types with a name and fields.
use Rattle.std.specs.Prelude.{◌≡◌, ◌&&◌, IsTrue, ℕ, List, Bool}
use Rattle.std.proofs.Common.{ap}
use Rattle.pg_types.specs.Content.{Content, FieldsContent, kind_of}
use Rattle.pg_types.specs.Faults.{Outcome}
use Rattle.pg_read.specs.Reading.{GivesSingle, ReadsSingle}
use Rattle.postgres_types.specs.Laws.CompositeFields.{both_true}
use Rattle.postgres_types.specs.ReadingBack.{IsLawful}
use Rattle.postgres_types.specs.Laws.Record.{AreLawful, record_lawful, record_single}
use Rattle.postgres_types.specs.Records.{Bytes, count_of, fields_of_kind}
use Rattle.postgres_types.specs.Composites.{is_record, accepts_record, reads_record, record_cell}

module _ (name : List ℕ) (names : List (List ℕ)) (accepts : FieldsContent → Bool) where
  -- the fields of an accepted type are accepted
  pub fields_accepted : (ty : Content) → IsTrue (accepts_record name names accepts ty)
      → IsTrue (accepts (fields_of_kind (kind_of ty)))
  fields_accepted ty ok = (both_true (is_record name names ty) (accepts (fields_of_kind (kind_of ty))) ok).1

  -- both directions accept the same types if they accept the same fields
  pub composite_types : (written : FieldsContent → Bool) → ((fs : FieldsContent) → accepts fs ≡ written fs)
      → (ty : Content) → accepts_record name names accepts ty ≡ accepts_record name names written ty
  composite_types written same ty =
      ap (λ t. is_record name names ty && t) (same (fields_of_kind (kind_of ty)))

  module _ {A : Type 0} (same : A → A → Type 0) (reads : FieldsContent → List ℕ → Outcome A → Type 0) where
    -- a cell has one outcome if the bytes of the fields have
    pub composite_single : ((fs : FieldsContent) → IsTrue (accepts fs) → (s : List ℕ)
        → GivesSingle same (reads fs s)) → (ty : Content) → IsTrue (accepts_record name names accepts ty)
        → ReadsSingle same (reads_record reads ty)
    composite_single single ty ok =
        record_single (count_of (fields_of_kind (kind_of ty))) same (reads (fields_of_kind (kind_of ty)))
        (single (fields_of_kind (kind_of ty)) (fields_accepted ty ok))

    -- records are lawful if their fields are
    pub composite_lawful : (bytes : FieldsContent → A → Bytes) (back : FieldsContent → A → Outcome A → Type 0)
        → ((fs : FieldsContent) → IsTrue (accepts fs) → AreLawful same (reads fs) (bytes fs) (back fs))
        → (ty : Content) → IsTrue (accepts_record name names accepts ty)
        → IsLawful same (reads_record reads ty) (record_cell bytes ty) (back (fields_of_kind (kind_of ty)))
    composite_lawful bytes back laws ty ok =
        let fs = fields_of_kind (kind_of ty) in
        record_lawful (count_of fs) same (reads fs) (bytes fs) (back fs)
        (laws fs (fields_accepted ty ok))
