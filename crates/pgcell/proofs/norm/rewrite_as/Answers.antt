-- What the proof of `rewrite_as` answers by hand.
use Rattle.postgres_types.specs.Cells.{cell_of}
use Rattle.postgres_types.specs.Content.{Content, content}
use Rattle.postgres_types.specs.OptionReading.{ReadsOption}
use Rattle.postgres_types.specs.OptionWriting.{wire_option}
use Rattle.pgcell.specs.Rewritten.{ReadsVec, wire_vec}
use Rattle.pgcell.proofs.Printing.{writes_rewritten}
use Rattle.pgcell.proofs.norm.rewrite_as.Goals as goal

pub returns-in-Array : goal.returns-in-Array
returns-in-Array g c =
    let ty = content c.args.ty.now in
    let call = c.rewrite-in-Array in
    rw c.in-Array.is
    (writes_rewritten (ReadsVec g.T.FromSql.reads ty) (wire_vec g.T.ToSql.wire ty)
    (cell_of c.args.cell) c.args.out.now.items call.new.out.items call.result
    (call.ensures.rewrites (rw c.in-Array.is at c.requires)))

pub returns-in-OptionalArray : goal.returns-in-OptionalArray
returns-in-OptionalArray g c =
    let ty = content c.args.ty.now in
    let reads = λ (element : Content). ReadsOption (g.T.FromSql.reads element) in
    let wire = λ (element : Content). wire_option (g.T.ToSql.wire element) in
    let call = c.rewrite-in-OptionalArray in
    rw c.in-OptionalArray.is
    (writes_rewritten (ReadsVec reads ty) (wire_vec wire ty)
    (cell_of c.args.cell) c.args.out.now.items call.new.out.items call.result
    (call.ensures.rewrites (rw c.in-OptionalArray.is at c.requires)))

pub returns-in-Plain : goal.returns-in-Plain
returns-in-Plain g c =
    let ty = content c.args.ty.now in
    let call = c.rewrite in
    rw c.in-Plain.is
    (writes_rewritten (g.T.FromSql.reads ty) (g.T.ToSql.wire ty)
    (cell_of c.args.cell) c.args.out.now.items call.new.out.items call.result
    (call.ensures.rewrites (rw c.in-Plain.is at c.requires)))

pub returns-in-Optional : goal.returns-in-Optional
returns-in-Optional g c =
    let ty = content c.args.ty.now in
    let call = c.rewrite-in-Optional in
    rw c.in-Optional.is
    (writes_rewritten (ReadsOption (g.T.FromSql.reads ty)) (wire_option (g.T.ToSql.wire ty))
    (cell_of c.args.cell) c.args.out.now.items call.new.out.items call.result
    (call.ensures.rewrites (rw c.in-Optional.is at c.requires)))
