-- What a record does that a core hands over.
-- Cited in `Ahead.antt`, for the type `Ahead`.
use Rattle.std.specs.Prelude.{◌==◌, if◌then◌else◌}
use Rattle.diva_isa.specs.Step.{effect_of}
use Rattle.diva_isa.specs.declared.record.Record.{Record}
use Rattle.diva_isa.specs.declared.effect.Effect.{Effect}
use Rattle.diva_isa.specs.declared.effect.Effect.TheVariants.{Nothing}

-- what a record does besides moving the pc and being counted; one that ends does nothing
unfoldable pub done_by : Record → Effect
done_by r = if r.end == 0 then effect_of r else Nothing
