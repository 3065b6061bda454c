-- The message that a body is, by its tag.
use Rattle.std.proofs.Common.{◌≡◌, ℕ, List, [], Option, Some, None, Result, ap, refl, sym, subst, ◌∙◌}
use Rattle.std.specs.Option.{ok_or}
use Rattle.std.specs.Prelude.{MatchOption}
use Rattle.pg_messages.specs.Backend.{FieldKind, Reads, Says, contents, fields_of, format, read_by}
use Rattle.pg_messages.specs.declared.backend.MessageFault.{MessageFault}
use Rattle.pg_messages.specs.declared.backend.MessageFault.TheVariants.{Body}
use Rattle.pg_messages.specs.declared.message.Message.{Message}

-- what follows if a body is read by its kind
by_kind : (tag : ℕ) (body : List ℕ) (kinds : List FieldKind) (read : Option Message) → format tag body ≡ Some kinds
    → Says tag body read → Reads tag body (ok_or read (Body tag))
by_kind tag body kinds (Some message) is says = says
by_kind tag body kinds None is says = (refl, kinds, is, ap (λ f. read_by f body) (sym is) ∙ says)

pub outcome : (tag n : ℕ) (body : List ℕ) (kinds : List FieldKind) (read message : Option Message)
    (result : Result Message MessageFault) → format n body ≡ Some kinds → tag ≡ n → message ≡ read
    → result ≡ ok_or message (Body tag) → Says n body read → Reads tag body result
outcome tag n body kinds read message result is same read_is result_is says =
    subst (Reads tag body) (sym (result_is ∙ ap (λ m. ok_or m (Body tag)) read_is))
    (subst (λ t. Reads t body (ok_or read (Body t))) (sym same) (by_kind n body kinds read is says))

-- a kind without fields
pub bare_says : (n : ℕ) (body : List ℕ) (message : Message) (read : Option Message) → format n body ≡ Some []
    → n ≡ (contents message).0 → [] ≡ (contents message).1
    → MatchOption read (fields_of [] body ≡ None) (λ m. (m ≡ message) × (fields_of [] body ≡ Some []))
    → Says n body read
bare_says n body message (Some m) is tag none says =
    let empty = ap (λ f. read_by f body) is ∙ says.1 in
    (tag ∙ ap (λ m. (contents m).0) (sym says.0), empty ∙ ap Some (none ∙ ap (λ m. (contents m).1) (sym says.0)))
bare_says n body message None is tag none says = ap (λ f. read_by f body) is ∙ says
