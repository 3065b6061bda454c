-- Binding parameters one by one.
use Rattle.std.specs.Prelude.{◌≡◌, ◌==◌, ◌+◌, ◌++◌, ℕ, List, [], ◌∷◌, length, Some, Result, Ok, Err, codes}
use Rattle.std.specs.Prelude.{IfSome, if◌then◌else◌, ⊤}
use Rattle.std.specs.Borrow.{Fml, MutBor, RestsIfErr}
use Rattle.std.specs.Int.{to_be_bytes, w16}
use Rattle.std.specs.contracts.alloc.Global as global
use Rattle.std.specs.contracts.impls.GlobalAllocator.TheImpl.{ghosts}
use Rattle.bytes.specs.contracts.unique.BytesMut as buffer
use Rattle.bytes.specs.Filled.{Filled}
use Rattle.pg_base.specs.Appending.{Wire}
use Rattle.pg_base.specs.Cells.{Cell, frames}
use Rattle.pg_types.specs.Faults.{refusal_of, transmit, user}
use Rattle.pg_types.specs.declared.format.Format.{Format}
use Rattle.pg_types.specs.declared.format.Format.TheVariants.{Binary, Text}
use Rattle.postgres_types.specs.ArrayWriting.{element_frame_cell}
use Rattle.postgres_types.specs.ParamWriting.{FrameFollows}
use Rattle.pg_client.specs.BindBytes.{all_binary, bind_bytes}
use Rattle.pg_client.specs.declared.bind.Bind.{Bind}
use Rattle.pg_client.specs.declared.placed_fault.Place.{Place}
use Rattle.pg_client.specs.declared.placed_fault.PlacedFault.{PlacedFault}

-- the buffer, to which parameters are appended
abbrev pub out_of : Bind → MutBor Filled
out_of bind = bind.out

-- the number of parameters that were pushed
abbrev pub count_of : Bind → ℕ
count_of bind = bind.count

-- if a list of parameters is refused, its buffer keeps its bytes
abbrev pub keeps_if_refused : MutBor Filled → Result Bind PlacedFault → Fml
keeps_if_refused out r = RestsIfErr (buffer.the_row global.the_row ghosts) out (λ bind. (out_of bind).ghost_name) r
    (λ last. last.items ≡ out.now.items)

-- the greatest number of parameters: it is an unsigned number of two bytes
abbrev pub max_params : ℕ
max_params = 65535

-- what a value is written as: one in the text format is User
abbrev pub in_binary : Format → Wire → Wire
in_binary Binary w = w
in_binary Text w = Err (user (codes "value in text format"))

-- what a parameter is written as after n others: one too many is Transmit
abbrev pub param_wire : ℕ → Format → Wire → Wire
param_wire n format w = if n == max_params then Err transmit else in_binary format w

-- what a buffer has while parameters with these cells are bound, after the bytes before: their number is still 0
pub record Binds (before : List ℕ) (cells : List Cell) (bind : Bind) : Type 0 where
  -- the frames
  pub bytes : List ℕ
  -- they are those of the cells
  pub frames_are : frames cells ≡ Some bytes
  -- and follow the number
  pub items_are : (out_of bind).now.items ≡ (before ++ (all_binary ++ to_be_bytes w16 0)) ++ bytes
  -- the offset of the number
  pub at_is : bind.at ≡ length before + 4
  -- the number of the cells
  pub count_is : count_of bind ≡ length cells

-- the frame of the value was appended; or it is refused at its place, or memory ran out, and the bytes are as they were
abbrev pub PushesFrame : Place → Wire → List ℕ → List ℕ → Result ⊤ PlacedFault → Type 0
PushesFrame at w old new (Ok done) = FrameFollows w old new
PushesFrame at w old new (Err f) =
    (new ≡ old) × (f.place ≡ at) × IfSome (refusal_of f.fault) (λ r. element_frame_cell w ≡ Err r)

-- the cell that was written is bound after the others; if it is refused, they are as they were
abbrev pub BindsMore : Wire → List ℕ → List Cell → Bind → Result ⊤ PlacedFault → Type 0
BindsMore w before cells bind (Ok done) = (c : Cell) × (w ≡ Ok c) × Binds before (cells ++ c ∷ []) bind
BindsMore w before cells bind (Err f) = Binds before cells bind

-- the parameters of the cells follow the bytes before
abbrev pub HoldsBind : List ℕ → List Cell → List ℕ → Type 0
HoldsBind before cells items = (b : List ℕ) × (bind_bytes cells ≡ Some b) × (items ≡ before ++ b)
