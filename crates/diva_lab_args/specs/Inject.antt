-- What the words of `inject` ask for.
-- Cited in `Lab.antt`, for `read_lab_words`.
use Rattle.std.specs.Prelude.{ℕ, ◌==◌, nat_le, nat_lt, Bool, true, List, Option, Some, None, option_and_then, option_map, unwrap_or, codes, if◌then◌else◌}
use Rattle.std.specs.List.{after_first, before_first}
use Rattle.clap.specs.Walk.{Text}
use Rattle.diva_core.specs.declared.differences.Field.{Field}
use Rattle.diva_args.specs.Line.{wide_from}
use Rattle.diva_args.specs.Options.{Setup}
use Rattle.diva_args.specs.Rows.{cycles_row, seed_row}
use Rattle.diva_args.specs.Values.{number_in_range, number_of}
use Rattle.diva_inject.specs.Parts.{Part}
use Rattle.diva_inject.specs.declared.models.FaultModel.{FaultModel}
use Rattle.diva_lab_args.specs.Choices.{choice_of, field_named, model_named}
use Rattle.diva_lab_args.specs.Rows.{count_row, earliest_row, first_row, latest_row, optional_of}
use Rattle.diva_lab_args.specs.declared.inject.InjectOptions.{InjectOptions}

-- ---- the cycles in which a fault can begin: the first and the last, as far as the words give them

-- the last is not before the first
abbrev pub are_in_order : (from to : Option ℕ) → Bool
are_in_order (Some from) (Some to) = nat_le from to
are_in_order (Some from) None = true
are_in_order None to = true

abbrev pub in_order : (from to : Option ℕ) → Option (Option ℕ × Option ℕ)
in_order from to = if are_in_order from to then Some (from, to) else None

unfoldable pub begin_from : (Text → Option Text) → Option (Option ℕ × Option ℕ)
begin_from value = option_and_then (λ from. option_and_then (in_order from) (optional_of latest_row value)) (optional_of earliest_row value)

-- ---- a part of the faults

-- `/`
abbrev pub is_slash : ℕ → Bool
is_slash byte = byte == 47

-- of so many parts the one with this index, if there is one
abbrev pub part_at : (index of : ℕ) → Option Part
part_at index of = if nat_lt index of then Some (record { index = index; of = of }) else None

-- `K/M`, two decimal numbers: of M parts the one with the index K
unfoldable pub part_of : Text → Option Part
part_of word = option_and_then (λ index. option_and_then (part_at index)
    (number_in_range 0 4294967295 (after_first is_slash word))) (number_in_range 0 4294967295 (before_first is_slash word))

-- ---- the options

abbrev pub inject_with : Option Setup → (cycles count seed : Option ℕ) → Option (List FaultModel) → Option (List Field) → Option (Option ℕ × Option ℕ)
    → Option Part → (first : Option ℕ) → Option InjectOptions
inject_with setup cycles count seed models fields begin part first =
    option_and_then (λ s. option_and_then (λ c. option_and_then (λ n. option_and_then (λ d. option_and_then (λ m. option_and_then (λ f.
    option_and_then (λ b. option_and_then (λ p. option_map (λ i.
    record { setup = s; cycles = c; count = n; seed = d; models = m; fields = f; from = b.0; to = b.1; part = p; first = i })
    first) part) begin) fields) models) seed) count) cycles) setup

-- `inject`, with what stands for options that are not given
unfoldable pub inject_from : (Text → Option Text) → Option InjectOptions
inject_from value = inject_with
    (wide_from value)
    (number_of cycles_row value)
    (number_of count_row value)
    (number_of seed_row value)
    (choice_of model_named 6 (unwrap_or (value (codes "model")) (codes "flip")))
    (choice_of field_named 8 (unwrap_or (value (codes "fields")) (codes "pc,word,src1,src2,addr,value,next,end")))
    (begin_from value)
    (part_of (unwrap_or (value (codes "part")) (codes "0/1")))
    (number_of first_row value)
