use Rattle.std.proofs.Common.{◌≡◌, ◌==◌, ◌++◌, List, [], Option, Bool, false, sym, subst, ap, ◌∙◌, refl, arith, if◌then◌else◌}
use Rattle.std.proofs.lemmas.List.{append-nil}
use Rattle.std.proofs.lemmas.Bool.{eq-eqb, ne_eqb}
use Rattle.diva_decode.specs.declared.instr.Instr.{Instr}
use Rattle.diva_storeq.specs.declared.masked.Masked.{Masked}
use Rattle.diva_isa.specs.Step.{effect_by, effect_of, with_effect}
use Rattle.diva_isa.specs.Inner.{HasRoom}
use Rattle.diva_isa.proofs.Room.{IsAligned}
use Rattle.diva_storeq.specs.Stores.{laid}
use Rattle.diva_commit.specs.Committing.{buffered, entry_by, state_of}
use Rattle.diva_commit.proofs.Storing.{aligned_by, applied, room_by}
use Rattle.diva_commit.proofs.commits.commit_by.Goals as goal
use Rattle.diva_commit.proofs.commits.commit_by.Goals.{in-Nothing, in-Writes, in-Stores+else-full, in-Puts}

pub store-requires-clause-inside : goal.store-requires-clause-inside
store-requires-clause-inside c =
    let s = state_of c.args.regs.now c.args.pc.now (laid c.args.memory.now c.args.queue.now.items) c.args.output.now 0 0 in
    subst (HasRoom s) (sym c.effect_by.ensures.effect ∙ c.in-Stores.is) (room_by s c.args.r.now c.args.decoded (c.requires.due c.in_default.is) c.requires.decoded (omega arith))

pub store-requires-clause-aligned : goal.store-requires-clause-aligned
store-requires-clause-aligned c =
    let s = state_of c.args.regs.now c.args.pc.now (laid c.args.memory.now c.args.queue.now.items) c.args.output.now 0 0 in
    subst IsAligned (sym c.effect_by.ensures.effect ∙ c.in-Stores.is) (aligned_by s c.args.r.now c.args.decoded (c.requires.due c.in_default.is) c.requires.decoded (omega arith))

pub push-requires : goal.push-requires
push-requires c =
    let s = state_of c.args.regs.now c.args.pc.now (laid c.args.memory.now c.args.queue.now.items) c.args.output.now 0 0 in
    subst (HasRoom s) (sym c.effect_by.ensures.effect ∙ c.in-Puts.is) (room_by s c.args.r.now c.args.decoded (c.requires.due c.in_default.is) c.requires.decoded (omega arith))

pub returns-clause-applied : goal.returns-clause-applied
returns-clause-applied c = λ yes n.
    let s = state_of c.args.regs.now c.args.pc.now (laid c.args.memory.now c.args.queue.now.items) c.args.output.now n 0 in
    let t = state_of c.match-effect_by.regs c.args.pc.now (laid c.args.memory.now c.match-effect_by.queue.items) c.match-effect_by.output n 0 in
    let on : c.args.r.now.end ≡ 0 = omega arith in
    let has : t ≡ with_effect s c.effect_by.result = elim c.match-effect_by.branch [
      | in-Nothing w ↦ rw (w.in-Nothing.is, w.regs-is, w.queue-is, w.output-is) refl
      | in-Writes w ↦ rw (w.in-Writes.is, w.regs-is, w.queue-is, w.output-is, w.set.ensures) refl
      | in-Stores+else-full w ↦ rw (w.in-Stores.is, w.regs-is, w.queue-is, w.output-is) (w.store.ensures.laid c.args.regs.now c.args.pc.now c.args.output.now n 0)
      | in-Puts w ↦ rw (w.in-Puts.is, w.regs-is, w.queue-is, w.output-is, w.push.ensures) refl
    ] in
    applied s t c.args.r.now c.args.decoded c.effect_by.result refl refl on c.requires.decoded c.effect_by.ensures.effect has

pub returns-clause-queued : goal.returns-clause-queued
unfolding buffered
returns-clause-queued c = λ yes.
    let r = c.args.r.now in
    let items = c.args.queue.now.items in
    let on : r.end ≡ 0 = omega arith in
    let same : c.effect_by.result ≡ effect_of r = c.effect_by.ensures.effect ∙ ap (λ (o : Option Instr). effect_by o r) c.requires.decoded in
    let is : entry_by c.effect_by.result ≡ buffered r = ap entry_by same ∙ sym (ap (λ (b : Bool). if b then entry_by (effect_of r) else []) (eq-eqb r.end 0 on)) in
    let has : c.match-effect_by.queue.items ≡ items ++ entry_by c.effect_by.result = elim c.match-effect_by.branch [
      | in-Nothing w ↦ rw (w.in-Nothing.is, w.queue-is) (sym (append-nil items))
      | in-Writes w ↦ rw (w.in-Writes.is, w.queue-is) (sym (append-nil items))
      | in-Stores+else-full w ↦ rw (w.in-Stores.is, w.queue-is) w.store.ensures.queued
      | in-Puts w ↦ rw (w.in-Puts.is, w.queue-is) (sym (append-nil items))
    ] in
    has ∙ ap (λ (xs : List Masked). items ++ xs) is

pub returns-then-r-ne0-clause-queued : goal.returns-then-r-ne0-clause-queued
unfolding buffered
returns-then-r-ne0-clause-queued c = λ yes.
    let r = c.args.r.now in
    let items = c.args.queue.now.items in
    let off : (r.end == 0) ≡ false = ne_eqb r.end 0 (λ e. omega arith) in
    sym (append-nil items) ∙ ap (λ (b : Bool). items ++ (if b then entry_by (effect_of r) else [])) (sym off)
