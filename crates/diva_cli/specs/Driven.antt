-- What drove a machine, by the core that the command line chose, its tape and the rows of a script: in a session, and in a run, which is
-- a session of one part.
-- Cited in `Runs.antt`, for `top`.
use Rattle.std.specs.Prelude.{ℕ, ◌≡◌, ◌≤◌, ◌+◌, List, [], ◌∷◌, length, map}
use Rattle.diva_isa.specs.declared.record.Record.{Record}
use Rattle.diva_core.specs.Timed.{Timed}
use Rattle.diva_core.specs.History.{Meaning, FollowRule}
use Rattle.diva_core.specs.Legs.{AreLegs, EachPart, Leg, OfLists, Part, handed_in, part_of, run_parts}
use Rattle.diva_faults.specs.declared.rows.Row.{Row}
use Rattle.diva_faults.specs.Lists.{scripted}
use Rattle.diva_faults.specs.Spoiled.{spoiled}
use Rattle.diva_tape.specs.Lists.{lockstep_list, silent_list, flood_list, echo_list}
use Rattle.diva_tape.specs.Noise.{noise_lists}
use Rattle.diva_tape.specs.Scalar.{IsScalarCall, new_scalar, scalar_list}
use Rattle.diva_tape.specs.TapeCalls.{played}
use Rattle.diva_args.specs.declared.job.CoreChoice.{CoreChoice}
use Rattle.diva_args.specs.declared.job.CoreChoice.TheVariants.{Own, Lockstep, Scalar, Silent, Flood, Echo, Noise, Tape as OfTape}
use Rattle.diva_cli.specs.Changes.{Change, change}

-- the parts are those of legs that lead from a machine and a core to others
pub record ByLegs {C : Type 0} (gives : Meaning C) (machine : Change Timed) (core : Change C) (parts : List Part) : Type 0 where
  pub legs : List (Leg C)
  pub good : AreLegs gives machine.before core.before legs machine.after core.after
  pub in_order : parts ≡ map part_of legs

-- each list of each part is what a rule gives at its machine, and the core handed in stays as it was
pub record ByRule {C : Type 0} (rule : Timed → List Record) (m : Timed) (core : Change C) (parts : List Part) : Type 0 where
  pub follows : EachPart (OfLists (FollowRule rule)) m parts
  pub same : core.after ≡ core.before

-- what the rows of a script make, in the coming cycle, of what a rule gives
abbrev pub scripted_rule : List Row → (Timed → List Record) → Timed → List Record
scripted_rule script rule m = scripted script (m.cycles + 1) (rule m)

-- the parts are those of legs of another core under a script, and the core handed in stays as it was
pub record ByOther {C D : Type 0} (its : Meaning D) (first : D) (script : List Row) (machine : Change Timed) (core : Change C)
    (parts : List Part) : Type 0 where
  pub final : D
  pub by : ByLegs (spoiled script its) machine (change first final) parts
  pub same : core.after ≡ core.before

-- the other core is a new one, and without a script each list is what a rule gives at its machine
pub record ByNew {C D : Type 0} (its : Meaning D) (new : D) (rule : Timed → List Record) (script : List Row)
    (machine : Change Timed) (core : Change C) (parts : List Part) : Type 0 where
  pub other : ByOther its new script machine core parts
  pub alone : script ≡ [] → EachPart (OfLists (FollowRule rule)) machine.before parts

-- what the rows of a script make of lists that are handed over one after the other, from a cycle on
abbrev pub scripted_lists : List Row → (cycle : ℕ) → List (List Record) → List (List Record)
scripted_lists script cycle [] = []
scripted_lists script cycle (list ∷ lists) = scripted script cycle list ∷ scripted_lists script (cycle + 1) lists

-- the lists are those that so many calls of another core hand over, whatever it is told, under a script, and the core handed in
-- stays as it was. No cycle is taken back, so the calls go on where they were
pub record ByCalls {C D : Type 0} (calls : ℕ → D → List (List Record)) (first : D) (script : List Row) (m : Timed) (core : Change C)
    (parts : List Part) : Type 0 where
  pub in_order : handed_in parts ≡ scripted_lists script (m.cycles + 1) (calls (length (handed_in parts)) first)
  pub same : core.after ≡ core.before

-- ---- where the lists come from, a line for each core: `own` is the core handed in, a tape's lists are followed by empty ones, and
-- the seed of the noise is 0
abbrev pub AreHanded : {C : Type 0} → Meaning C → CoreChoice → (tape : List (List Record)) → (script : List Row)
    → (machine : Change Timed) → (core : Change C) → List Part → Type 0
AreHanded gives Own tape script machine core parts = ByLegs (spoiled script gives) machine core parts
AreHanded gives Lockstep tape script machine core parts = ByRule (scripted_rule script lockstep_list) machine.before core parts
AreHanded gives Scalar tape script machine core parts = ByNew IsScalarCall new_scalar scalar_list script machine core parts
AreHanded gives Silent tape script machine core parts = ByRule (scripted_rule script silent_list) machine.before core parts
AreHanded gives Flood tape script machine core parts = ByRule (scripted_rule script flood_list) machine.before core parts
AreHanded gives Echo tape script machine core parts = ByRule (scripted_rule script echo_list) machine.before core parts
AreHanded gives Noise tape script machine core parts = ByCalls noise_lists 0 script machine.before core parts
AreHanded gives (OfTape name) tape script machine core parts = ByCalls played tape script machine.before core parts

-- a machine was driven in parts by the core of a choice under a script, with one list for each cycle, for the budget's cycles at most
pub record IsDriven {C : Type 0} (gives : Meaning C) (choice : CoreChoice) (tape : List (List Record)) (script : List Row) (budget : ℕ)
    (machine : Change Timed) (core : Change C) : Type 0 where
  pub parts : List Part
  pub ran : machine.after ≡ run_parts machine.before parts
  pub each : machine.after.cycles ≡ machine.before.cycles + length (handed_in parts)
  pub most : length (handed_in parts) ≤ budget
  pub handed : AreHanded gives choice tape script machine core parts
