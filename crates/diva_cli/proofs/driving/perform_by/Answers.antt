-- The legs of a core under a script, as parts that are handed to a machine: a line for each core.
use Rattle.diva_tape.specs.Lists.{lockstep_list, silent_list, flood_list, echo_list}
use Rattle.diva_cli.proofs.Handing.{plays_own, plays_rule, plays_other}
use Rattle.diva_cli.proofs.driving.perform_by.Goals as goal

pub returns-in-Own : goal.returns-in-Own
returns-in-Own g c = rw c.in-Own.is (plays_own g.C.Core.gives _ _ _ _ _ _ c.perform_under.ensures)

pub returns-in-Lockstep : goal.returns-in-Lockstep
returns-in-Lockstep g c = rw c.in-Lockstep.is (plays_rule g.C.Core.gives _ _ _ _ _ _ _ _ c.perform_under-in-Lockstep.ensures _ lockstep_list (λ h. h) (λ n before list after h. h))

pub returns-in-Scalar : goal.returns-in-Scalar
returns-in-Scalar g c = rw c.in-Scalar.is (plays_other g.C.Core.gives _ _ _ _ _ _ _ _ c.perform_under-in-Scalar.ensures _ (λ h. h))

pub returns-in-Silent : goal.returns-in-Silent
returns-in-Silent g c = rw c.in-Silent.is (plays_rule g.C.Core.gives _ _ _ _ _ _ _ _ c.perform_under-in-Silent.ensures _ silent_list (λ h. h) (λ n before list after h. h))

pub returns-in-Flood : goal.returns-in-Flood
returns-in-Flood g c = rw c.in-Flood.is (plays_rule g.C.Core.gives _ _ _ _ _ _ _ _ c.perform_under-in-Flood.ensures _ flood_list (λ h. h) (λ n before list after h. h))

pub returns-in-Echo : goal.returns-in-Echo
returns-in-Echo g c = rw c.in-Echo.is (plays_rule g.C.Core.gives _ _ _ _ _ _ _ _ c.perform_under-in-Echo.ensures _ echo_list (λ h. h) (λ n before list after h. h))

pub returns-in-Noise : goal.returns-in-Noise
returns-in-Noise g c = rw c.in-Noise.is (plays_other g.C.Core.gives _ _ _ _ _ _ _ _ c.perform_under-in-Noise.ensures _ (λ h. h))

pub returns-in-Tape : goal.returns-in-Tape
returns-in-Tape g c = rw (c.in-Tape.is, ← c.new.ensures) (plays_other g.C.Core.gives _ _ _ _ _ _ _ _ c.perform_under-in-Tape.ensures _ (λ h. h))
