-- The phases of a cycle of an open machine.
use Rattle.std.proofs.Common.{◌≡◌, ◌<◌, ◌≤◌, ℕ, ◌+◌, ◌^◌, ◌==◌, ◌&&◌, Bool, List, [], ◌∷◌, ◌++◌, length, map, min, take, true, false, refl, sym, ap, ◌∙◌, arith, if◌then◌else◌}
use Rattle.std.proofs.lemmas.Bool.{eq-eqb}
use Rattle.std.proofs.lemmas.List.{take_min}
use Rattle.diva_isa.specs.State.{goes_on}
use Rattle.diva_isa.specs.declared.record.Record.{Record}
use Rattle.diva_core.specs.Timed.{Timed, PendingClaim, room_of}
use Rattle.diva_core.specs.Cycle.{accepted_in, accepts, begun, drained, with_pending}
use Rattle.diva_open.specs.Inner.{KeepsOpenBounds}
use Rattle.diva_open.specs.Machine.{IsOpenBetweenCycles}
use Rattle.diva_open.specs.Open.{Open, idled, open_cycle_of}
use Rattle.diva_open.proofs.Leaving.{leave_cycles}

none_behind : (xs : List PendingClaim) → xs ++ [] ≡ xs
none_behind [] = refl
none_behind (x ∷ xs) = ap (λ ys. x ∷ ys) (none_behind xs)

by_going_on : (b : Bool) (xs : List PendingClaim) (cycle : ℕ) (claims : List Record)
    → xs ++ map (accepted_in cycle) (if b then claims else []) ≡ (if b && true then xs ++ map (accepted_in cycle) claims else xs)
by_going_on true xs cycle claims = refl
by_going_on false xs cycle claims = none_behind xs

-- the claims that are accepted, where none was flushed
pub accepts_as :
    (before m : Timed) (list : List Record) (most : ℕ)
    → m.under.log ≡ before.under.log
    → most ≡ room_of before
    → with_pending m (m.under.pending ++ map (accepted_in m.cycles) (if goes_on m.arch then take (min most (length list)) list else [])) ≡ accepts before list m
unfolding accepts
accepts_as before m list most log is =
    ap (with_pending m)
    (ap (λ (claims : List Record). m.under.pending ++ map (accepted_in m.cycles) (if goes_on m.arch then claims else []))
    (ap (λ (n : ℕ). take (min n (length list)) list) is ∙ take_min (room_of before) list)
    ∙ by_going_on (goes_on m.arch) m.under.pending m.cycles (take (room_of before) list)
    ∙ ap (λ (b : Bool). if goes_on m.arch && b then m.under.pending ++ map (accepted_in m.cycles) (take (room_of before) list) else m.under.pending)
    (sym (eq-eqb m.under.log.flushes before.under.log.flushes (ap (λ l. l.flushes) log))))

counted_idle : (b : Bool) (limit idle : ℕ) → (if b then min limit (idle + 1) else 0) ≤ limit
counted_idle true limit idle = omega arith
counted_idle false limit idle = omega arith

-- the numbers of a machine after a cycle
pub cycle_between :
    (o last : Open) (list : List Record)
    → IsOpenBetweenCycles o
    → o.timed.cycles < 2 ^ 60
    → KeepsOpenBounds o.timed.config.width (record o { timed = drained (begun o.timed) }) last
    → IsOpenBetweenCycles (record last { timed = idled o.timed (accepts o.timed list last.timed) })
unfolding drained accepts
cycle_between o last list is early b =
    let config : last.timed.config ≡ o.timed.config = b.config in
    let few = is.count in
    let most = b.count in
    let cycles = b.cycles in
    record {
      config = rw config is.config;
      cycles = omega arith;
      count = rw (config, cycles) (grind arith);
      owed = rw config b.owed;
      idle = counted_idle (last.timed.count == o.timed.count) last.timed.config.limit last.timed.under.idle;
    }

-- one cycle more has run
pub cycle_cycles : (o : Open) (list : List Record) → goes_on o.timed.arch ≡ true → (open_cycle_of o list).timed.cycles ≡ o.timed.cycles + 1
unfolding open_cycle_of drained accepts
cycle_cycles o list on = rw on (leave_cycles o.timed.config.width (record o { timed = drained (begun o.timed) }))
