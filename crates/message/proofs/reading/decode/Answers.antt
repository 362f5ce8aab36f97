use Rattle.std.proofs.Common.{subst, rules}
use Rattle.std.proofs.lemmas.Result.{err_from_is_err_and}
use Rattle.message.specs.Checks.{FieldsFail}
use Rattle.message.specs.declared.events.Event.{Event}
use Rattle.message.proofs.reading.decode.Goals as goal

pub returns-in_err-check_fields : goal.returns-in_err-check_fields
returns-in_err-check_fields c =
    let p = err_from_is_err_and c.from_residual-in_err-check_fields.result c.from_residual-in_err-check_fields.ensures.1 in
    rw (p.1, p.2) (
      c.in_ok-kind.kind,
      (c.in_ok-kind.ensures, search rules),
      subst (λ (e : Event). FieldsFail c.in_ok-kind.kind e c.in_err-check_fields.field-0.0) c.event_at-event.ensures c.in_err-check_fields.ensures,
    )
