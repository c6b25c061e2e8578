-- What a command makes of a machine with its undos.
use Rattle.std.proofs.Common.{◌≡◌, ℕ, ◌+◌, ◌-◌, ◌*◌, ◌≤◌, ◌⊎◌, inl, inr, false, refl, ap, sym, ◌∙◌, subst, arith}
use Rattle.std.proofs.Math.Nat.{mul-le-mul_right}
use Rattle.std.proofs.lemmas.Bool.{cases_lt, le-leb, lt-leb, true≢false}
use Rattle.diva_isa.specs.State.{State}
use Rattle.diva_isa.specs.Step.{steps}
use Rattle.diva_core.specs.History.{Meaning}
use Rattle.diva_core.specs.Machine.{IsMachine}
use Rattle.diva_core.specs.Timed.{depth}
use Rattle.diva_core.proofs.Pacing.{turns-stay}
use Rattle.diva_machine.specs.Drives.{Drives}
use Rattle.diva_machine.proofs.Driving.{drives}
use Rattle.diva_debug.specs.Inner.{Advances, IsBack}
use Rattle.diva_debug.specs.Moves.{IsShort, Standing, goes_back, most_cycles, most_steps, standing_after, steps_back, steps_by, steps_on}
use Rattle.diva_debug.specs.Rewindable.{GoesBack, IsLed, IsRewindable, Rewindable, session_origin, kept_of, standing_of}
use Rattle.diva_debug.specs.declared.command.Command.{Command}
use Rattle.diva_debug.specs.declared.command.Command.TheVariants.{Step, Until, Back, Reg, Mem, Why}
use Rattle.diva_debug.proofs.Backing.{back-origin, back-config, back-count, back-cycles, back-kept, back-machine, back-state}
use Rattle.diva_debug.proofs.Stepping.{steps_in-most, until-most}

-- ---- commands

-- a command goes on, or back
cases_back : (command : Command) → (goes_back command ≡ false) ⊎ ((k : ℕ) × (command ≡ Back k))
cases_back (Step k) = inl refl
cases_back (Until pc) = inl refl
cases_back (Back k) = inr (k, refl)
cases_back (Reg n) = inl refl
cases_back (Mem range) = inl refl
cases_back Why = inl refl

steps_by-most : (command : Command) (s : State) → steps_by command s ≤ most_steps command
unfolding steps_by
steps_by-most (Step k) s = steps_in-most k s
steps_by-most (Until pc) s = until-most 100000 pc s
steps_by-most (Back k) s = omega arith
steps_by-most (Reg n) s = omega arith
steps_by-most (Mem range) s = omega arith
steps_by-most Why s = omega arith

same_standing : (w v : Standing) → w.place ≡ v.place → w.kept ≡ v.kept → w ≡ v
same_standing w v p q =
    let at : ℕ → ℕ → Standing = λ a b. record { place = a; kept = b } in
    ap (λ n. at n w.kept) p ∙ ap (at v.place) q

-- no step, where no more undos are kept than there is room for
stays-there : (keep : ℕ) (w : Standing) → w.kept ≤ keep → w ≡ steps_on keep 0 w
stays-there keep w room = same_standing w (steps_on keep 0 w) (omega arith) (omega arith)

standing-on : (command : Command) (keep : ℕ) (w : Standing) (s : State) → goes_back command ≡ false → w.kept ≤ keep
    → standing_after keep command w s ≡ steps_on keep (steps_by command s) w
unfolding standing_after steps_by
standing-on (Step k) keep w s on room = refl
standing-on (Until pc) keep w s on room = refl
standing-on (Back k) keep w s on room = absurd (true≢false on)
standing-on (Reg n) keep w s on room = stays-there keep w room
standing-on (Mem range) keep w s on room = stays-there keep w room
standing-on Why keep w s on room = stays-there keep w room

standing-back : (k keep : ℕ) (w : Standing) (s : State) → standing_after keep (Back k) w s ≡ steps_back k w
unfolding standing_after
standing-back k keep w s = refl

led-on : {C : Type 0} (gives : Meaning C) (command : Command) (r : Rewindable) (core : C) (last : Rewindable) (final : C)
    → goes_back command ≡ false → Drives gives r.machine core last.machine final → IsLed gives command r core last final
led-on gives (Step k) r core last final on d = d
led-on gives (Until pc) r core last final on d = d
led-on gives (Back k) r core last final on d = absurd (true≢false on)
led-on gives (Reg n) r core last final on d = d
led-on gives (Mem range) r core last final on d = d
led-on gives Why r core last final on d = d

-- ---- back

module _ (k : ℕ) (r last : Rewindable) (is : IsRewindable r) (b : IsBack k r last) where
  goes : k ≤ kept_of r → GoesBack k r last
  goes enough = rw (le-leb k (kept_of r) enough) at b.back

  stands_back : standing_of last ≡ steps_back k (standing_of r)
  stands_back =
      elim (cases_lt (kept_of r) k) [
        | inl few ↦ rw (lt-leb k (kept_of r) few) (ap standing_of (b.stays few))
        | inr enough ↦
            (let count = back-count k r last (goes enough) is enough in
            let kept = back-kept k r last (goes enough) in
            rw (le-leb k (kept_of r) enough) (same_standing (standing_of last) (record { place = r.machine.timed.count - k; kept = kept_of r - k }) (omega arith) kept))
      ]

-- ---- what a command leaves

module _ {C : Type 0} (gives : Meaning C) (command : Command) (r : Rewindable) (core : C) (last : Rewindable) (final : C)
    (on : goes_back command ≡ false → Advances gives (steps_by command r.machine.timed.arch) r core last final)
    (back : (k : ℕ) → command ≡ Back k → IsBack k r last × (final ≡ core)) where
  pub leaves_keep : last.keep ≡ r.keep
  leaves_keep = elim (cases_back command) [ inl f ↦ (on f).keep | inr b ↦ (back b.0 b.1).0.keep ]

  pub leaves_config : last.machine.timed.config ≡ r.machine.timed.config
  leaves_config = elim (cases_back command) [ inl f ↦ (on f).config | inr b ↦ back-config _ r last (back b.0 b.1).0.back ]

  pub leaves_machine : IsMachine r.machine.timed → IsMachine last.machine.timed
  leaves_machine inv =
      elim (cases_back command) [
        | inl f ↦ turns-stay gives r.machine.timed core last.machine.timed final inv (on f).turns.turns
        | inr b ↦ back-machine _ r last (back b.0 b.1).0.back inv
      ]

  pub leaves_led : IsMachine r.machine.timed → IsLed gives command r core last final
  leaves_led inv =
      elim (cases_back command) [
        | inl f ↦ led-on gives command r core last final f (drives gives r.machine core last.machine final (on f).turns inv)
        | inr b ↦ subst (λ (c : Command). IsLed gives c r core last final) (sym b.1) ((back b.0 b.1).0.back, (back b.0 b.1).1)
      ]

  pub leaves_within : last.machine.timed.cycles ≤ r.machine.timed.cycles + most_cycles command r.machine.timed
  leaves_within =
      elim (cases_back command) [
        | inl f ↦
            (let few = (on f).within in
            let most = mul-le-mul_right (r.machine.timed.config.limit + depth) (steps_by-most command r.machine.timed.arch) in
            omega arith)
        | inr b ↦ (let same = back-cycles _ r last (back b.0 b.1).0.back in omega arith)
      ]

  pub leaves_million : IsShort command → last.machine.timed.cycles ≤ r.machine.timed.cycles + 1000000 * (r.machine.timed.config.limit + depth)
  leaves_million short =
      let within = leaves_within in
      let most = mul-le-mul_right (r.machine.timed.config.limit + depth) short in
      omega arith

  pub leaves_standing : IsRewindable r → standing_of last ≡ standing_after r.keep command (standing_of r) r.machine.timed.arch
  leaves_standing is =
      elim (cases_back command) [
        | inl f ↦
            same_standing (standing_of last) (steps_on r.keep (steps_by command r.machine.timed.arch) (standing_of r)) (on f).moved.count (on f).kept
            ∙ sym (standing-on command r.keep (standing_of r) r.machine.timed.arch f is.room)
        | inr b ↦
            stands_back b.0 r last is (back b.0 b.1).0
            ∙ sym (standing-back b.0 r.keep (standing_of r) r.machine.timed.arch)
            ∙ ap (λ (c : Command). standing_after r.keep c (standing_of r) r.machine.timed.arch) (sym b.1)
      ]

  pub leaves_back : IsRewindable r → (k : ℕ) → command ≡ Back k → k ≤ kept_of r
      → (last.machine.timed.arch ≡ steps (kept_of r - k) (session_origin r)) × (session_origin last ≡ session_origin r) × (last.machine.timed.count + k ≡ r.machine.timed.count)
  leaves_back is k e enough =
      let b = goes k r last is (back k e).0 enough in
      (back-state k r last b is enough, back-origin k r last b, back-count k r last b is enough)
