-- What the core keeps after it has handed over a record.
use Rattle.std.proofs.Common.{◌≡◌, ◌<◌, ℕ, ◌+◌, ◌-◌, ◌%◌, ◌^◌, ◌==◌, Bool, true, false, not, List, [], ◌∷◌, ◌++◌, length, min, refl, ap, ◌∙◌, arith, if◌then◌else◌, length-append}
use Rattle.std.proofs.lemmas.List.{length-replicate}
use Rattle.diva_isa.specs.State.{State}
use Rattle.diva_isa.specs.Regs.{with_reg}
use Rattle.diva_isa.specs.Step.{apply, effect_of, with_effect}
use Rattle.diva_isa.specs.declared.record.Record.{Record}
use Rattle.diva_isa.specs.declared.effect.Effect.{Effect}
use Rattle.diva_isa.specs.declared.effect.Effect.TheVariants.{Nothing, Writes, Stores, Puts}
use Rattle.diva_ahead.specs.Effects.{done_by}
use Rattle.diva_ahead.specs.Ahead.{Ahead, with_record, seen}

abbrev pub regs_after : List ℕ → Effect → List ℕ
regs_after regs Nothing = regs
regs_after regs (Writes rd value) = with_reg regs rd value
regs_after regs (Stores width addr value) = regs
regs_after regs (Puts byte) = regs

abbrev pub out_after : ℕ → Effect → ℕ
out_after n Nothing = n
out_after n (Writes rd value) = n
out_after n (Stores width addr value) = n
out_after n (Puts byte) = min (n + 1) (2 ^ 32 - 1)

pub effect_regs : (t : State) (e : Effect) → (with_effect t e).regs ≡ regs_after t.regs e
effect_regs t Nothing = refl
effect_regs t (Writes rd value) = refl
effect_regs t (Stores width addr value) = refl
effect_regs t (Puts byte) = refl

-- a word counts the bytes of an output
out_kept : (output : List ℕ) (n : ℕ) → n < 2 ^ 32 → length output ≡ n → min (length output) (2 ^ 32 - 1) ≡ n
out_kept output n h l = omega arith

pub effect_out : (t : State) (e : Effect) (n : ℕ) → n < 2 ^ 32 → length t.output ≡ n → min (length (with_effect t e).output) (2 ^ 32 - 1) ≡ out_after n e
effect_out t Nothing n h l = out_kept t.output n h l
effect_out t (Writes rd value) n h l = out_kept t.output n h l
effect_out t (Stores width addr value) n h l = out_kept t.output n h l
effect_out t (Puts byte) n h l = ap (λ (k : ℕ). min k (2 ^ 32 - 1)) (length-append t.output (byte ∷ []) ∙ ap (λ (k : ℕ). k + 1) l)

-- the state behind a record that goes on, or ends
abbrev pub behind : Bool → State → Effect → (next end : ℕ) → State
behind b t e next end = if b then record (with_effect t e) { pc = next } else record t { end = end }

pub behind_regs : (b : Bool) (t : State) (e : Effect) (next end : ℕ) → (behind b t e next end).regs ≡ regs_after t.regs (if b then e else Nothing)
behind_regs true t e next end = effect_regs t e
behind_regs false t e next end = refl

pub behind_pc : (b : Bool) (t : State) (e : Effect) (next end : ℕ) → (behind b t e next end).pc ≡ (if b then next else t.pc)
behind_pc true t e next end = refl
behind_pc false t e next end = refl

behind_out : (b : Bool) (t : State) (e : Effect) (next end n : ℕ) → n < 2 ^ 32 → length t.output ≡ n → min (length (behind b t e next end).output) (2 ^ 32 - 1) ≡ out_after n (if b then e else Nothing)
behind_out true t e next end n h l = effect_out t e n h l
behind_out false t e next end n h l = out_kept t.output n h l

pub handed_is : (ahead : Ahead) (s : State) (r : Record) → ahead.out_len < 2 ^ 32
    → with_record ahead s r ≡ record ahead {
      regs = regs_after ahead.regs (done_by r);
      pc = if r.end == 0 then r.next else ahead.pc;
      out_len = out_after ahead.out_len (done_by r);
      instret = (ahead.instret + 1) % 2 ^ 64;
      ring = ahead.ring ++ done_by r ∷ [];
      stopped = not (r.end == 0);
    }
unfolding with_record apply done_by
handed_is ahead s r small = λ i. record ahead {
  regs = behind_regs (r.end == 0) (seen ahead s) (effect_of r) r.next r.end i;
  pc = behind_pc (r.end == 0) (seen ahead s) (effect_of r) r.next r.end i;
  out_len = behind_out (r.end == 0) (seen ahead s) (effect_of r) r.next r.end ahead.out_len small (length-replicate ahead.out_len 0) i;
  instret = (ahead.instret + 1) % 2 ^ 64;
  ring = ahead.ring ++ (if r.end == 0 then effect_of r else Nothing) ∷ [];
  stopped = not (r.end == 0);
}
