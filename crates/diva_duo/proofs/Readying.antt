-- A hart's numbers leave room for a cycle.
use Rattle.std.proofs.Common.{◌≡◌, ℕ, ◌+◌, ◌*◌, ◌<◌, ◌≤◌, ◌^◌, List, length, take, Option, Some, None, refl, sym, subst, arith}
use Rattle.std.proofs.Math.Nat.{mul-le-mul_right}
use Rattle.std.proofs.lemmas.List.{length-drop}
use Rattle.diva_memory.specs.Bytes.{Bytes}
use Rattle.diva_isa.specs.State.{State, memory_of}
use Rattle.diva_core.specs.Timed.{Config, Timed, new_timed}
use Rattle.diva_core.specs.Machine.{IsConfig, IsMachine, Lives}
use Rattle.diva_core.proofs.Starting.{new-machine}
use Rattle.diva_storeq.specs.declared.masked.Masked.{Masked}
use Rattle.diva_commit.specs.Committing.{AreInside}
use Rattle.diva_commit.proofs.Storing.{inside_later}
use Rattle.diva_hart.specs.HartArch.{HartState, seen}
use Rattle.diva_duo.specs.Harts.{first_state, memory_drained}
use Rattle.diva_duo.specs.Duo.{Duo, Hart, drained_hart, new_duo, new_hart}
use Rattle.diva_duo.specs.Which.{Which, First, Second, hart_at}
use Rattle.diva_duo.specs.Between.{IsDuo, IsHart}
use Rattle.diva_duo.specs.Inner.{CanCycle}

idle_most : (m : Timed) (solo : Option ℕ) → Lives m solo → m.config.limit ≤ 1024 → m.under.idle < 2 ^ 31
idle_most m None h high = omega arith
idle_most m (Some start) h high = let i = h.idled in let s = h.soon in omega arith

pub ready : (now : ℕ) (memory : Bytes) (h : Hart) → IsHart now memory h → now < 2 ^ 60 → CanCycle (drained_hart h)
ready now memory h inv few =
    let m = inv.machine in
    let w = inv.within in
    let wide : h.config.width ≤ 4 = m.config.width_high in
    let most : h.config.width * inv.at ≤ 4 * inv.at = mul-le-mul_right inv.at wide in
    let c : h.state.instret ≤ h.config.width * inv.at = (let counted = m.count in omega arith) in
    let f : h.under.log.flushes ≤ inv.at = m.flushes in
    let s : h.under.log.silent ≤ h.under.log.flushes = m.silent in
    record {
      width = wide;
      limit = (let low : 16 ≤ h.config.limit = m.config.limit_low in omega arith);
      pending = m.window;
      owed = λ on. (let l = length-drop 1 h.state.buffer in let o : length h.state.buffer ≤ h.config.stores = m.owed in let low : 1 ≤ h.config.stores = m.config.stores_low in omega arith);
      count = omega arith;
      flushes = omega arith;
      silent = omega arith;
      idle = idle_most _ h.under.solo m.lives m.config.limit_high;
    }

pub hart_holds : (w : Which) (d : Duo) → IsDuo d → IsHart d.cycles d.memory (hart_at w d)
hart_holds First d inv = inv.first
hart_holds Second d inv = inv.second

-- a hart's width is that of a machine
pub tells : (w : Which) (d : Duo) → IsDuo d → (hart_at w d).config.width ≤ 4
tells w d inv = (hart_holds w d inv).machine.config.width_high

-- and it was flushed once in a cycle at most
pub tells_epoch : (w : Which) (d : Duo) → IsDuo d → d.cycles ≤ 2 ^ 60 → (hart_at w d).under.log.flushes + (hart_at w d).under.undos < 2 ^ 63
tells_epoch w d inv few =
    let h = hart_holds w d inv in
    let flushed : (hart_at w d).under.log.flushes ≤ h.at = h.machine.flushes in
    let within = h.within in
    let undos = h.undos in
    omega arith

new_at : (z : Config) (s : State) (n : ℕ) → IsConfig z → z.port ≡ 1 → s.instret ≡ 0 → IsHart 0 (memory_of s) (new_hart z s n)
new_at z s n ok port none =
    record {
      at = 0;
      within = omega arith;
      running = λ e. refl;
      machine = let seen_first : State = seen (memory_of s) (first_state s n) in
          subst (λ k. IsMachine (record (new_timed z seen_first) { count = k })) (sym none) (new-machine z seen_first ok none);
      port = port;
      undos = refl;
      inside = tt;
    }

-- two harts that begin with a state
pub new_holds : (z : Config) (s : State) → IsConfig z → z.port ≡ 1 → s.instret ≡ 0 → s.base + length s.bytes ≤ 2 ^ 32 → IsDuo (new_duo z s)
new_holds z s ok port none range = record { range = range; first = new_at z s 0 ok port none; second = new_at z s 1 ok port none }

-- what waits lies inside the memory behind a drain too
pub inside_drained : (m n : Bytes) (h : HartState) (b : List Masked) → n ≡ memory_drained m h → AreInside m b → AreInside n b
inside_drained m n h b is inside = rw is (inside_later m (take 1 h.buffer) b inside)
