-- The content of the two faults that have a type of their own, and the texts that they print.
use Rattle.std.specs.Prelude.{ℕ, List, ◌++◌, codes}
use Rattle.pg_types.specs.Content.{Content, content, type_text}
use Rattle.pg_types.specs.declared.fault.WrongType.{WrongType}

-- the refused Postgres type
abbrev pub postgres_type : WrongType → Content
postgres_type w = content w.postgres

-- the name of the Rust type that refuses it
abbrev pub rust_name : WrongType → List ℕ
rust_name w = w.rust

-- the text of WasNull
abbrev pub was_null_text : List ℕ
was_null_text = codes "a Postgres value was `NULL`"

-- the text of WrongType
abbrev pub wrong_type_text : Content → List ℕ → List ℕ
wrong_type_text ty rust =
    codes "cannot convert between the Rust type `"
    ++ (rust ++ (codes "` and the Postgres type `" ++ (type_text ty ++ codes "`")))
