-- The answer to a line.
use Rattle.std.specs.Prelude.{◌≡◌, ◌≢◌, ℕ, ◌++◌, List, [], ◌∷◌, Option, Some, None, ◌⊎◌, codes}
use Rattle.postgres_types.specs.BuiltInRows.{row_oid}
use Rattle.postgres_types.specs.Content.{Content, IsBuiltIn, oid_of, type_text}
use Rattle.postgres_types.specs.Lsn.{lsn_of, lsn_text}
use Rattle.pgcell.specs.Norm.{AnswersNorm}
use Rattle.pgcell.specs.Request.{Command, norm, type_of, lsn, request_of}

-- the text of the built-in type with this OID; `none` if there is none
abbrev pub AnswersType : ℕ → List ℕ → Type 0
AnswersType oid text =
    ((ty : Content) × IsBuiltIn ty × (oid_of ty ≡ oid) × (text ≡ codes "ok " ++ type_text ty))
    ⊎ (((row : _) → row_oid row ≢ oid) × (text ≡ codes "none"))

-- the text of a log sequence number; `bad lsn` if the text is not one
abbrev pub lsn_answer : Option ℕ → List ℕ
lsn_answer None = codes "bad lsn"
lsn_answer (Some position) = codes "ok " ++ lsn_text position

-- a line that is not well formed has the answer `bad line`
abbrev pub AnswersRequest : Option Command → List ℕ → Type 0
AnswersRequest None text = text ≡ codes "bad line"
AnswersRequest (Some (norm name cell)) text = AnswersNorm name cell text
AnswersRequest (Some (type_of oid)) text = AnswersType oid text
AnswersRequest (Some (lsn position)) text = text ≡ lsn_answer (lsn_of position)

-- the text answers the line
unfoldable pub Answer : List ℕ → List ℕ → Type 0
Answer line text = AnswersRequest (request_of line) text

-- the text is an answer to the line, and byte 10
abbrev pub AnswersLine : List ℕ → List ℕ → Type 0
AnswersLine line text = (answer : List ℕ) × Answer line answer × (text ≡ answer ++ 10 ∷ [])
