-- Memory keeps its size, and a machine its numbers.
use Rattle.std.proofs.Common.{◌≡◌, ℕ, zero, suc, ◌==◌, List, [], ◌∷◌, length, Bool, true, false, cond, refl, ◌∙◌}
use Rattle.diva_memory.specs.Bytes.{low_bytes}
use Rattle.diva_memory.proofs.Writing.{put_all_length}
use Rattle.diva_isa.specs.Kind.{size}
use Rattle.diva_isa.specs.State.{State, goes_on, memory_of}
use Rattle.diva_isa.specs.Step.{apply, behind_record, effect_of, record_of, step, steps, with_effect}
use Rattle.diva_isa.specs.declared.effect.Effect.{Effect}
use Rattle.diva_isa.specs.declared.effect.Effect.TheVariants.{Nothing, Writes, Stores, Puts}
use Rattle.diva_isa.specs.declared.record.Record.{Record}
use Rattle.diva_core.specs.Cycle.{accepts, begun, committed, drained}
use Rattle.diva_core.specs.Timed.{PendingClaim, Timed}
use Rattle.diva_open.specs.Open.{Open, can_apply, leave, leaves, left, obeyed, open_cycle_of, phases_of, strayed}
use Rattle.diva_open.proofs.Leaving.{leave_config}

effect_size : (s : State) (e : Effect) → length (with_effect s e).bytes ≡ length s.bytes
effect_size s Nothing = refl
effect_size s (Writes rd value) = refl
effect_size s (Stores width addr value) = put_all_length (memory_of s) addr (low_bytes (size width) value)
effect_size s (Puts byte) = refl

behind_size : (b : Bool) (s : State) (r : Record) → length (cond b (record (with_effect s (effect_of r)) { pc = r.next }) (record s { end = r.end })).bytes ≡ length s.bytes
behind_size true s r = effect_size s (effect_of r)
behind_size false s r = refl

apply_by : (on : Bool) (n : ℕ) (s : State) (r : Record) → length (cond on (record (behind_record s r) { instret = n }) s).bytes ≡ length s.bytes
apply_by true n s r = behind_size (r.end == 0) s r
apply_by false n s r = refl

apply_size : (s : State) (r : Record) → length (apply s r).bytes ≡ length s.bytes
unfolding apply
apply_size s r = apply_by (goes_on s) _ s r

pub steps_size : (n : ℕ) (s : State) → length (steps n s).bytes ≡ length s.bytes
unfolding step
steps_size zero s = refl
steps_size (suc n) s = apply_size (steps n s) (record_of (steps n s)) ∙ steps_size n s

-- ---- without the checker

committed_size : (m : Timed) (r : Record) → length (committed m r).arch.bytes ≡ length m.arch.bytes
unfolding committed
committed_size m r = apply_size m.arch r

obeyed_by : (can : Bool) (m : Timed) (r : Record) → length (cond can (committed m r) (strayed m)).arch.bytes ≡ length m.arch.bytes
obeyed_by true m r = committed_size m r
obeyed_by false m r = refl

left_size : (o : Open) (ps : List PendingClaim) → length (left o ps).timed.arch.bytes ≡ length o.timed.arch.bytes
unfolding obeyed
left_size o [] = refl
left_size o (p ∷ rest) = obeyed_by (can_apply o.timed.arch p.claim) o.timed p.claim

leave_size : (n : ℕ) (o : Open) → length (leave n o).timed.arch.bytes ≡ length o.timed.arch.bytes
leave_size zero o = refl
leave_size (suc n) o = by (leaves o.timed o.timed.under.pending) (leave_size n (left o o.timed.under.pending) ∙ left_size o o.timed.under.pending)
  where
    by : (b : Bool) → length (leave n (left o o.timed.under.pending)).timed.arch.bytes ≡ length o.timed.arch.bytes
        → length (cond b (leave n (left o o.timed.under.pending)) o).timed.arch.bytes ≡ length o.timed.arch.bytes
    by true rest = rest
    by false rest = refl

phases_size : (o : Open) (list : List Record) → length (phases_of o list).timed.arch.bytes ≡ length o.timed.arch.bytes
unfolding drained accepts
phases_size o list = leave_size o.timed.config.width (record o { timed = drained (begun o.timed) })

pub cycle_size : (o : Open) (list : List Record) → length (open_cycle_of o list).timed.arch.bytes ≡ length o.timed.arch.bytes
unfolding open_cycle_of
cycle_size o list = by (goes_on o.timed.arch)
  where
    by : (b : Bool) → length (cond b (phases_of o list) o).timed.arch.bytes ≡ length o.timed.arch.bytes
    by true = phases_size o list
    by false = refl

phases_config : (o : Open) (list : List Record) → (phases_of o list).timed.config ≡ o.timed.config
unfolding drained accepts
phases_config o list = leave_config o.timed.config.width (record o { timed = drained (begun o.timed) })

pub cycle_config : (o : Open) (list : List Record) → (open_cycle_of o list).timed.config ≡ o.timed.config
unfolding open_cycle_of
cycle_config o list = by (goes_on o.timed.arch)
  where
    by : (b : Bool) → (cond b (phases_of o list) o).timed.config ≡ o.timed.config
    by true = phases_config o list
    by false = refl
