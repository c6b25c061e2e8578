-- What becomes of the front claim of a hart.
use Rattle.std.proofs.Common.{◌≡◌, ℕ, ◌+◌, ◌<◌, ◌≤◌, ◌==◌, Bool, true, false, not, ◌&&◌, ◌||◌, List, [], ◌∷◌, map, drop, length, Option, Some, None, refl, ap, sym, ◌∙◌, arith, slice_get, if◌then◌else◌}
use Rattle.std.proofs.lemmas.Option.{none-some}
use Rattle.std.specs.Option.{option_and_then, unwrap_or}
use Rattle.diva_decode.specs.declared.instr.Instr.{Instr}
use Rattle.diva_decode.specs.Table.{row_of}
use Rattle.diva_isa.specs.State.{State, goes_on, word_of}
use Rattle.diva_isa.proofs.Parts.{row_of_zero, word_is}
use Rattle.diva_isa.specs.declared.record.Record.{Record}
use Rattle.diva_isa.specs.Step.{record_of}
use Rattle.diva_core.specs.declared.differences.Diff.{Diff}
use Rattle.diva_core.specs.declared.flushes.Cause.TheVariants.{Differs}
use Rattle.diva_core.specs.declared.pending.Entry.{Entry}
use Rattle.diva_core.specs.Difference.{first_difference}
use Rattle.diva_core.specs.Timed.{Timed, PendingClaim, depth}
use Rattle.diva_core.specs.Cycle.{committed, flushed, past_front, stores_wait, with_pending}
use Rattle.diva_core.specs.Entries.{pending_claim_of}
use Rattle.diva_memory.specs.Bytes.{Bytes}
use Rattle.diva_storeq.specs.Stores.{laid}
use Rattle.diva_commit.specs.Committing.{answer, is_committed, state_of}
use Rattle.diva_commit.proofs.Answering.{committed_room, held_by}
use Rattle.diva_hart.specs.HartArch.{HartState, seen}
use Rattle.diva_hart.specs.Inner.{JudgesFront}
use Rattle.diva_hart.proofs.Fronts.{front_commits, front_flushes, front_free, front_held, front_ready, front_waits, front_young}
use Rattle.diva_duo.specs.Rules.{fence_waits, fences_wait, is_fence, is_fence_by}
use Rattle.diva_duo.specs.Duo.{Hart, timed}
use Rattle.diva_duo.proofs.Moving.{fences_keep}

-- what the word of a due record says is what the fetched word does
says_by : (o : Option ℕ) (w : ℕ) → w ≡ unwrap_or o 0 → option_and_then row_of o ≡ row_of w
says_by None w h = sym row_of_zero ∙ ap row_of (sym h)
says_by (Some v) w h = ap row_of (sym h)

pub word_says : (o : Option ℕ) (s : State) → o ≡ word_of s s.pc → option_and_then row_of o ≡ row_of (record_of s).word
word_says o s h = says_by o (record_of s).word (word_is s ∙ ap (λ (x : Option ℕ). unwrap_or x 0) (sym h))

pub due_is : (memory : Bytes) (h : Hart) (view : State) (r : Record) → view ≡ record (seen memory h.state) { end = 0 } → r ≡ record_of view → h.state.end ≡ 0 → r ≡ record_of (seen memory h.state)
due_is memory h view r shows is on =
    let o : HartState = h.state in
    is ∙ ap record_of shows ∙ ap (λ (e : ℕ). record_of (state_of o.regs o.pc (laid memory o.buffer) o.output o.instret e)) (sym on)

or_true : (a b : Bool) → b ≡ true → (a || b) ≡ true
or_true true b is = refl
or_true false b is = is

or_false : (a b : Bool) → a ≡ false → b ≡ false → (a || b) ≡ false
or_false true b is none = absurd (cc)
or_false false b is none = none

rest_is : (entries : List Entry) (goes : Bool) → map pending_claim_of (if goes then drop 1 entries else []) ≡ (if goes then drop 1 (map pending_claim_of entries) else [])
rest_is [] true = refl
rest_is (e ∷ entries) true = refl
rest_is entries false = refl

pub still_waits : (items others : List Entry) (e : Entry) → slice_get items 0 ≡ Some e → map pending_claim_of others ≡ map pending_claim_of items → 0 < length others
still_waits [] others e first same = absurd (none-some _ first)
still_waits (x ∷ items) [] e first same = absurd (cc)
still_waits (x ∷ items) (y ∷ others) e first same = omega arith

-- m is a hart that goes on, and e its front claim
module _ (memory : Bytes) (h : Hart) (cycles : ℕ) (owed : length h.state.buffer ≤ h.config.stores) (running : h.under.solo ≡ None) where
  abbrev m : Timed
  m = timed cycles memory h

  module _ (items : List Entry) (e : Entry) (first : slice_get items 0 ≡ Some e) (waits : h.under.pending ≡ map pending_claim_of items) where
    pub young_waits : cycles < e.cycle + depth → JudgesFront fences_wait m m false
    young_waits few = front_waits fences_wait m owed running (front_young fences_wait m items e first waits few)

    -- it is ready, and is compared with its due record
    module _ (old : e.cycle + depth ≤ cycles) (due : Record) (here : due ≡ record_of (seen memory h.state)) (found : Option Diff) (look : found ≡ first_difference e.claim due) where
      looked : first_difference e.claim (record_of (seen memory h.state)) ≡ found
      looked = ap (first_difference e.claim) (sym here) ∙ sym look

      pub differing_flushes : (n : Timed) (d : Diff) → found ≡ Some d → n ≡ flushed m (Differs d) → JudgesFront fences_wait m n false
      differing_flushes n d some = front_flushes fences_wait m n d owed (front_ready fences_wait m items e first waits old (Some d) (looked ∙ some))

      module _ (none : found ≡ None) (decoded : Option Instr) (says : decoded ≡ row_of due.word) where
        ruled : (b : Bool) → fences_wait h.config.stores (length h.state.buffer) due ≡ b → fences_wait h.config.stores (length h.state.buffer) (record_of (seen memory h.state)) ≡ b
        ruled b is = ap (fences_wait h.config.stores (length h.state.buffer)) (sym here) ∙ is

        fences : fence_waits (length h.state.buffer) due ≡ (is_fence_by decoded && not (length h.state.buffer == 0))
        unfolding is_fence
        fences = ap (λ (o : Option Instr). is_fence_by o && not (length h.state.buffer == 0)) (sym says)

        held : fences_wait h.config.stores (length h.state.buffer) due ≡ true → JudgesFront fences_wait m m false
        held is = front_waits fences_wait m owed running (front_held fences_wait m items e first waits old (looked ∙ none) (ruled true is))

        pub fence_held : (is_fence_by decoded && not (length h.state.buffer == 0)) ≡ true → JudgesFront fences_wait m m false
        fence_held is = held (or_true (stores_wait h.config.stores (length h.state.buffer) due) _ (fences ∙ is))

        pub store_held : is_committed (answer None due (length h.state.buffer == h.config.stores)) ≡ false → JudgesFront fences_wait m m false
        store_held is = let both = held_by due (length h.state.buffer == h.config.stores) is in held (rw (both.0, both.1) refl)

        pub equal_commits : (is_fence_by decoded && not (length h.state.buffer == 0)) ≡ false → is_committed (answer None due (length h.state.buffer == h.config.stores)) ≡ true
            → (n : Timed) (goes : Bool) → n ≡ past_front m → goes ≡ goes_on n.arch → JudgesFront fences_wait m n goes
        equal_commits fenceless done n goes =
            let free = ruled false (or_false _ _ (committed_room None due (length h.state.buffer == h.config.stores) done) (fences ∙ fenceless)) in
            front_commits fences_wait fences_keep m n goes owed running free (front_free fences_wait m items e first waits old (looked ∙ none) free)

  -- it has committed, which led to g, and leaves
  pub past_is : (g : Hart) (due : Record) → due ≡ record_of (seen memory h.state) → timed cycles memory g ≡ committed m due
      → (items : List Entry) → g.under.pending ≡ map pending_claim_of items → (goes : Bool) → goes ≡ (g.state.end == 0)
      → with_pending (timed cycles memory g) (map pending_claim_of (if goes then drop 1 items else [])) ≡ past_front m
  unfolding committed
  past_is g due here settled items waits goes does =
      let after : Timed = committed m (record_of m.arch) in
      let is : timed cycles memory g ≡ after = settled ∙ ap (committed m) here in
      let on : goes ≡ goes_on after.arch = does ∙ ap (λ (z : Timed). goes_on z.arch) is in
      let there : map pending_claim_of items ≡ m.under.pending = sym waits ∙ ap (λ (z : Timed). z.under.pending) is in
      ap (λ (z : Timed). with_pending z (map pending_claim_of (if goes then drop 1 items else []))) is
      ∙ ap (with_pending after) (rest_is items goes ∙ ap (λ (b : Bool). if b then drop 1 (map pending_claim_of items) else []) on
      ∙ ap (λ (ps : List PendingClaim). if goes_on after.arch then drop 1 ps else []) there)
