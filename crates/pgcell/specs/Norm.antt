-- The answer to `norm`.
use Rattle.std.specs.Prelude.{◌≡◌, ℕ, ◌++◌, List, [], ◌∷◌, Option, Some, None, Result, Ok, Err, IfSome, codes}
use Rattle.std.specs.Fmt.{decimal}
use Rattle.hex.specs.Hex.{encode_lower}
use Rattle.postgres_types.specs.Cells.{Cell}
use Rattle.postgres_types.specs.Content.{Content}
use Rattle.postgres_types.specs.Faults.{Refusal, number_of, refusal_of}
use Rattle.postgres_types.specs.Appending.{Wire}
use Rattle.postgres_types.specs.Writing.{Writes}
use Rattle.pg_types.specs.declared.fault.Fault.{Fault}
use Rattle.pg_types.specs.declared.format.IsNull.{IsNull}
use Rattle.named_types.specs.Names.{picked}
use Rattle.named_types.specs.declared.name.Form.{Form}
use Rattle.named_types.specs.declared.name.Name.{Name}
use Rattle.pgcell.specs.Entries.{types_of, rewriting_of}
use Rattle.pgcell.specs.Rewritten.{Rewriting}

-- the text of a written form: `null`, `ok` and the bytes in hexadecimal, or `-` if there are none, or `refused` and the
-- number of the fault
abbrev pub norm_text : Wire → List ℕ
norm_text (Ok None) = codes "null"
norm_text (Ok (Some [])) = codes "ok -"
norm_text (Ok (Some (byte ∷ bytes))) = codes "ok " ++ encode_lower (byte ∷ bytes)
norm_text (Err refusal) = codes "refused " ++ decimal (number_of refusal)

-- the text of a refusal was appended
abbrev pub AppendsRefusal : Option Refusal → List ℕ → List ℕ → Type 0
AppendsRefusal None old new = ⊥
AppendsRefusal (Some refusal) old new = new ≡ old ++ norm_text (Err refusal)

-- what a call returned and wrote is a written form of which P holds, unless memory ran out
abbrev pub WritesOf : (Wire → Type 0) → List ℕ → List ℕ → Result IsNull Fault → Type 0
WritesOf P old new (Ok null) = (w : Wire) × P w × Writes w old new (Ok null)
WritesOf P old new (Err f) = (new ≡ old) × IfSome (refusal_of f) (λ r. P (Err r))

-- the text is that of a cell that was rewritten by a Postgres type; without one, the line is not well formed
abbrev pub AnswersAt : Option Content → (Content → Cell → Wire → Type 0) → Cell → List ℕ → Type 0
AnswersAt None rewritten cell text = text ≡ codes "bad line"
AnswersAt (Some ty) rewritten cell text = (w : Wire) × rewritten ty cell w × (text ≡ norm_text w)

-- the same in a form, by the type for this form
abbrev pub AnswersIn : Content → Option Content → Rewriting → Form → Cell → List ℕ → Type 0
AnswersIn own arrays rewritten form = AnswersAt (picked form own arrays) (rewritten form)

-- the text answers `norm` of a name and a cell
abbrev pub AnswersNorm : Name → Cell → List ℕ → Type 0
AnswersNorm name = AnswersIn (types_of name.base).0 (types_of name.base).1 (rewriting_of name.base) name.form
