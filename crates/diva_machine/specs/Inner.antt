-- What only private contracts of this crate cite. A reader of its promises can pass over it.
use Rattle.std.specs.Prelude.{ℕ, ◌==◌, if◌then◌else◌, ◌≡◌, ◌≤◌, ◌+◌, ◌^◌, Bool, List, length, Some, ◌-◌, ◌<◌, [], ◌++◌, map, drop, slice_get}
use Rattle.diva_isa.specs.State.{goes_on, State}
use Rattle.diva_core.specs.Timed.{Timed}
use Rattle.diva_machine.specs.declared.ends.Reach.{Reach}
use Rattle.diva_machine.specs.declared.ends.Reach.TheVariants.{Reached, Ended, Budget}
use Rattle.diva_core.specs.History.{Meaning, Turns, lists_of}
use Rattle.diva_core.specs.Headline.{last_committed}
use Rattle.diva_vote.specs.Questions.{Question}
use Rattle.diva_machine.specs.Asked.{asked_over}
use Rattle.diva_machine.specs.Machine.{Machine}
use Rattle.diva_memory.specs.Bytes.{Bytes}
use Rattle.diva_storeq.specs.declared.masked.Masked.{Masked}
use Rattle.diva_commit.specs.Committing.{AreInside}
use Rattle.diva_core.specs.Cycle.{with_pending}
use Rattle.diva_core.specs.declared.pending.Entry.{Entry}
use Rattle.diva_core.specs.Entries.{pending_claim_of}
use Rattle.diva_core.specs.Future.{committed_file, without_oldest}
use Rattle.diva_core.specs.Older.{before_entry}
use Rattle.diva_machine.specs.Staged.{IsChecked, Parts}

-- how a machine stands to a count; the count is looked at first
abbrev pub reach_of : (target : ℕ) → Timed → Reach
reach_of target m = if m.count == target then Reached else (if goes_on m.arch then Budget else Ended)

-- turns lead from a machine and a core to others, and the machine shows what the last of them committed; where none was taken, it
-- shows what it showed before
pub record TakesTurns {C : Type 0} (gives : Meaning C) (m : Machine) (core : C) (last : Machine) (final : C) : Type 0 where
  pub turns : Turns gives m.timed core last.timed final
  pub shows : last.last ≡ last_committed m.last m.timed (lists_of turns.history)

-- so they do, and they lead from the stages that claims pass through to others, to which what was asked in these turns was put in the
-- end, and nothing else
pub record LedTurns {C S : Type 0} (gives : Meaning C) (m : Machine) (core : C) (last : Machine) (final : C)
    (led : S → List Question → S → Type 0) (stages after : S) : Type 0 where
  pub taken : TakesTurns gives m core last final
  pub asked : (first : S) (before : List Question) → led first before stages
      → led first (before ++ asked_over m.timed (lists_of taken.turns.history)) after

-- the committed state, the stores owed to memory, and how many may be owed
pub record Arch : Type 0 where
  pub state : State
  pub owed : ℕ
  pub stores : ℕ

-- what holds of the committed state: memory ends at 2^32 at the latest, and the stores that are not in it yet lie inside
pub record HasStoresInside (m : Bytes) (stores : List Masked) : Type 0 where
  pub range : m.base + length m.items ≤ 2 ^ 32
  pub inside : AreInside m stores

-- the entries before a place have gone through the stages of the cycle now + 1, the others through those of `now`
pub record IsAdvanced (arch : State) (now at : ℕ) (entries : List Entry) : Type 0 where
  pub below : (k : ℕ) (e : Entry) → k < at → slice_get entries k ≡ Some e → IsChecked (before_entry arch entries k) (now + 1 - e.cycle) e
  pub from : (k : ℕ) (e : Entry) → at ≤ k → slice_get entries k ≡ Some e → IsChecked (before_entry arch entries k) (now - e.cycle) e

-- what a stage owes: where the entry at a place comes to this age in the cycle, and those before the place have gone through their
-- stages of it, then so has this one
abbrev pub HasPassed : State → (age at : ℕ) (before after : List Entry) → Type 0
HasPassed arch age at before after =
    (now : ℕ) (e : Entry) → slice_get before at ≡ Some e → now + 1 ≡ age + e.cycle → IsAdvanced arch now at before → IsAdvanced arch now (at + 1) after

-- the front entry is gone, and all others too where the machine does not go on
abbrev pub left : Bool → Parts → Parts
left goes w =
    record w {
      timed = with_pending w.timed (if goes then map pending_claim_of (drop 1 w.entries) else []);
      entries = if goes then drop 1 w.entries else [];
      passed = if goes then w.passed - 1 else 0;
      future = if goes then without_oldest w.timed.arch.regs w.future else committed_file w.timed.arch.regs;
    }
