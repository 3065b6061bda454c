-- The cells that texts are written as.
use Rattle.std.specs.Prelude.{◌≡◌, ℕ, List, Option, Some, None, IsSome, option_map, Ok, Err}
use Rattle.std.specs.Borrow.{Bor}
use Rattle.pg_base.specs.Appending.{Wire}
use Rattle.pg_base.specs.Cells.{Cell, frame}
use Rattle.pg_copy.specs.Values.{TextValues, WritesText}
use Rattle.postgres_types.specs.Content.{Content}

-- the text that is passed to a call; None is NULL
abbrev pub text_of : Option (Bor (List ℕ)) → Option (List ℕ)
text_of text = option_map (λ t. t.now) text

-- the cell of a text: NULL is NULL, and a text is some bytes, as which a value that it stands for is written
abbrev pub CellAs : TextValues → Content → Option (List ℕ) → Cell → Type 0
CellAs own ty None cell = cell ≡ None
CellAs own ty (Some text) cell = IsSome cell × WritesText own ty text cell

-- the frame of the text's cell
abbrev pub FrameAs : TextValues → Content → Option (List ℕ) → List ℕ → Type 0
FrameAs own ty text bytes = (cell : Cell) × CellAs own ty text cell × (frame cell ≡ Some bytes)

-- the value is not written as NULL
abbrev pub NeverNull : Wire → Type 0
NeverNull (Ok None) = ⊥
NeverNull (Ok (Some bytes)) = Unit {0}
NeverNull (Err refusal) = Unit {0}
