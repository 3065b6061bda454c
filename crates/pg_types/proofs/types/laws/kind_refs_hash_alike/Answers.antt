-- Views of one kind are hashed alike.
use Rattle.std.proofs.Common.{◌∙◌, ap, sym}
use Rattle.std.proofs.lemmas.Bool.{eq-eqb}
use Rattle.pg_types.specs.Digest.{digest}
use Rattle.pg_types.proofs.DerivedTypes.{hash_from_same_kind_ref}
use Rattle.pg_types.proofs.types.laws.kind_refs_hash_alike.Goals as goal

pub returns-clause-alike : goal.returns-clause-alike
returns-clause-alike c same =
    eq-eqb _ _ (c.hash_of.ensures ∙ ap digest (hash_from_same_kind_ref c.args.v.now c.args.w.now same)
    ∙ sym c.hash_of-2.ensures)
