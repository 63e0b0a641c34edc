-- What a keeper tells whose database is opened at its first batch.
use Rattle.std.specs.Prelude.{◌≡◌, Option, None, Some, IfSome}
use Rattle.mtn_model.specs.Table.{Contents, nothing}

-- no record until it is opened; of an open one nothing is told
abbrev pub told : {X : Type 0} → Option X → Option Contents
told None = Some nothing
told (Some x) = None

-- until then a crash leaves no record
abbrev pub leaves : {X : Type 0} → Option X → Contents → Type 0
leaves opened c = IfSome (told opened) (λ d. c ≡ d)
