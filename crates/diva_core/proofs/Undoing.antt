-- What holds of a machine holds of it where its last instruction was taken back.
use Rattle.std.proofs.Common.{◌≢◌, ◌-◌, refl, ap, arith}
use Rattle.diva_isa.specs.Undo.{restore}
use Rattle.diva_isa.specs.declared.undo.Undo.{Undo}
use Rattle.diva_core.specs.Timed.{Timed}
use Rattle.diva_core.specs.Undone.{undone}
use Rattle.diva_core.specs.Machine.{IsConfig, IsMachine}
use Rattle.diva_core.specs.Right.{IsCalm}

pub undone_stays : (m : Timed) (u : Undo) → IsMachine m → m.count ≢ 0 → IsMachine (undone m u)
unfolding undone restore
undone_stays m u inv some =
    let low = inv.config.limit_low in
    let few = inv.count in
    record {
      config = inv.config;
      counted = ap (λ n. n - 1) inv.counted;
      lives = omega arith;
      owed = omega arith;
      rows = inv.rows;
      past = tt;
      window = omega arith;
      flushes = inv.flushes;
      silent = inv.silent;
      count = omega arith;
      pace = λ none. absurd (omega arith);
    }

-- nothing is pending, and a whole watchdog's limit is left
pub undone_calm : (m : Timed) (u : Undo) → IsConfig m.config → IsCalm (undone m u)
unfolding undone
undone_calm m u config on =
    let low = config.limit_low in
    record { running = refl; claims = λ j few. absurd (omega arith); waits = omega arith }
