-- One call of the sample out-of-order core, a definition for each of its six steps; `Finish` and `Issue` have the third and the
-- fifth.
-- Cited by `Ooo::new`, what `Ooo` gives, and `no_more_than_room`.
use Rattle.std.specs.Prelude.{ℕ, zero, suc, ◌≡◌, ◌==◌, ◌&&◌, nat_lt, not, List, [], ◌∷◌, ◌++◌, length, Bool, true, false, Option, is_none, if◌then◌else◌}
use Rattle.std.specs.Option.{option_and_then}
use Rattle.diva_decode.specs.Table.{row_of}
use Rattle.diva_isa.specs.State.{State, word_of}
use Rattle.diva_isa.specs.declared.record.Record.{Record}
use Rattle.diva_core.specs.Told.{Told}
use Rattle.diva_ahead.specs.Ahead.{Ahead, new_ahead, synced, trimmed, with_record, is_epoch}
use Rattle.diva_ooo.specs.WindowEntry.{WindowEntry}
use Rattle.diva_ooo.specs.declared.entry.Progress.TheVariants.{Waiting}
use Rattle.diva_ooo.specs.declared.finishing.Redirect.{Redirect}
use Rattle.diva_ooo.specs.declared.finishing.Redirect.TheVariants.{On, Dry, To}
use Rattle.diva_ooo.specs.Profile.{predicted}
use Rattle.diva_ooo.specs.Finish.{finished}
use Rattle.diva_ooo.specs.Issue.{issued, is_done}

-- the core: where it stands and what it handed over, the instructions under way in program order, where it fetches, and
-- whether the fetch has stopped
pub record Ooo : Type 0 where
  pub ahead : Ahead
  pub window : List WindowEntry
  pub fetch_pc : ℕ
  pub dry : Bool

abbrev pub new_ooo : Ooo
new_ooo = record { ahead = new_ahead; window = []; fetch_pc = 0; dry = false }

-- what a call hands over, and the core after it
pub record OooCall : Type 0 where
  pub list : List Record
  pub core : Ooo

abbrev pub call_of : List Record → Ooo → OooCall
call_of list p = record { list = list; core = p }

-- ---- step 1, resynchronise: the core takes the machine's state, and nothing is under way

unfoldable pub restarted : Ooo → Told → State → Ooo
restarted p told s = record { ahead = synced p.ahead told s; window = []; fetch_pc = s.pc; dry = false }

-- ---- step 2, drop: what is no longer pending

abbrev pub dropped : Ooo → Told → Ooo
dropped p told = record p { ahead = trimmed p.ahead told }

-- ---- step 3, finish

abbrev pub fetching : Ooo → Redirect → Ooo
fetching p On = p
fetching p Dry = record p { dry = true }
fetching p (To pc) = record p { fetch_pc = pc; dry = false }

unfoldable pub completed : Ooo → Ooo
completed p = fetching (record p { window = (finished p.window).window }) (finished p.window).redirect

-- ---- step 4, hand over

-- the oldest entry is handed over; behind one that ends nothing is under way, and nothing more is fetched
abbrev pub with_handed : Ooo → State → Record → List WindowEntry → Ooo
with_handed p s r rest =
    if r.end == 0 then record p { ahead = with_record p.ahead s r; window = rest }
    else record p { ahead = with_record p.ahead s r; window = []; dry = true }

-- as long as the oldest is done, at most n are handed over
abbrev pub handed_over : ℕ → State → List Record → Ooo → List WindowEntry → OooCall
handed_over zero s list p window = call_of list p
handed_over (suc n) s list p [] = call_of list p
handed_over (suc n) s list p (e ∷ rest) =
    if is_done e.progress then
    (let next = with_handed p s e.result rest in handed_over n s (list ++ e.result ∷ []) next next.window)
    else call_of list p

-- ---- step 5, issue

abbrev pub with_issued : Ooo → State → Ooo
with_issued p s = record p { window = issued p.ahead s p.window }

-- ---- step 6, fetch

abbrev pub blank : Record
blank = record { pc = 0; word = 0; src1 = 0; src2 = 0; addr = 0; value = 0; next = 0; end = 0 }

-- an entry that waits, of the word at pc if there is one
abbrev pub new_entry : (pc : ℕ) → Option ℕ → WindowEntry
new_entry pc word =
    record { pc = pc; word = word; predicted = predicted (option_and_then row_of word) pc; progress = Waiting; result = blank }

-- the fetch stops where there is no word
abbrev pub with_word : Ooo → Option ℕ → Ooo
with_word p word =
    record p {
      window = p.window ++ new_entry p.fetch_pc word ∷ [];
      fetch_pc = predicted (option_and_then row_of word) p.fetch_pc;
      dry = is_none word;
    }

abbrev pub can_fetch : Ooo → Bool
can_fetch p = nat_lt (length p.window) 32 && not p.dry && not p.ahead.stopped

unfoldable pub fetched : Ooo → State → Ooo
fetched p s = if can_fetch p then with_word p (word_of s p.fetch_pc) else p

-- ---- the call

-- steps 5 and 6; at most two are fetched
abbrev pub refilled : OooCall → State → OooCall
refilled c s = call_of c.list (fetched (fetched (with_issued c.core s) s) s)

-- steps 2 to 6
unfoldable pub worked : Ooo → Told → State → OooCall
worked p told s =
    let now = completed (dropped p told) in refilled (handed_over told.room s [] now now.window) s

-- where the epoch is new, nothing is done before there is room
unfoldable pub ooo_call : Ooo → Told → State → OooCall
ooo_call p told s =
    if is_epoch p.ahead.epoch told.epoch then worked p told s
    else (if told.room == 0 then call_of [] p else worked (restarted p told s) told s)

-- the meaning of the core: the list and the core after are those of its call
pub record IsOooCall (before : Ooo) (told : Told) (s : State) (list : List Record) (after : Ooo) : Type 0 where
  pub lists : list ≡ (ooo_call before told s).list
  pub keeps : after ≡ (ooo_call before told s).core
