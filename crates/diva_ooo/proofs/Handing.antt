-- The oldest entries are handed over.
use Rattle.std.proofs.Common.{◌≡◌, ◌<◌, ◌≤◌, ℕ, zero, suc, ◌+◌, ◌-◌, ◌==◌, Bool, true, false, if◌then◌else◌, sym, subst, List, [], ◌∷◌, ◌++◌, length, refl, ap, ◌∙◌, arith, length-append}
use Rattle.diva_isa.specs.State.{State}
use Rattle.diva_isa.specs.Step.{effect_of}
use Rattle.diva_isa.specs.declared.record.Record.{Record}
use Rattle.diva_ahead.specs.Effects.{done_by}
use Rattle.diva_ahead.specs.Ahead.{Ahead, with_record, is_epoch}
use Rattle.diva_core.specs.Told.{Told}
use Rattle.diva_ooo.specs.WindowEntry.{WindowEntry}
use Rattle.diva_ooo.specs.Issue.{is_done}
use Rattle.diva_ooo.specs.Ooo.{IsOooCall, OooCall, Ooo, call_of, completed, dropped, handed_over, ooo_call, restarted, with_handed, worked}

ring_handed : (ahead : Ahead) (s : State) (r : Record) → length (with_record ahead s r).ring ≡ length ahead.ring + 1
unfolding with_record
ring_handed ahead s r = rw length-append refl

-- the ring is longer by one
pub ring_more : (ahead new : Ahead) (r : Record) → ((s : State) → new ≡ with_record ahead s r) → length new.ring ≡ length ahead.ring + 1
ring_more ahead new r is =
    let s : State = record { regs = []; pc = 0; base = 0; bytes = []; output = []; instret = 0; end = 0 } in
    ap (λ (x : Ahead). length x.ring) (is s) ∙ ring_handed ahead s r

-- a record that goes on does all that its word says
pub effect_going : (r : Record) → r.end ≡ 0 → done_by r ≡ effect_of r
unfolding done_by
effect_going r on = rw on refl

-- one of those that are left
pub handed_less : (n k : ℕ) (s : State) (list : List Record) (p : Ooo) → k < n → handed_over (n - k) s list p p.window ≡ handed_over (suc (n - (k + 1))) s list p p.window
handed_less n k s list p lt = let e : n - k ≡ suc (n - (k + 1)) = omega arith in rw e refl

-- ---- no more than there is room for

room_by : (b : Bool) (n : ℕ) (list : List Record) (p : Ooo) (call : OooCall) → length call.list ≤ suc (length list) + n → length (if b then call else call_of list p).list ≤ length list + suc n
room_by true n list p call h = omega arith
room_by false n list p call h = omega arith

handed_room : (n : ℕ) (s : State) (list : List Record) (p : Ooo) (w : List WindowEntry) → length (handed_over n s list p w).list ≤ length list + n
handed_room zero s list p w = omega arith
handed_room (suc n) s list p [] = omega arith
handed_room (suc n) s list p (e ∷ rest) =
    let next : Ooo = with_handed p s e.result rest in
    let more = handed_room n s (list ++ e.result ∷ []) next next.window in
    let long : length (list ++ e.result ∷ []) ≡ suc (length list) = length-append list (e.result ∷ []) ∙ omega arith in
    room_by (is_done e.progress) n list p (handed_over n s (list ++ e.result ∷ []) next next.window) (omega arith)

worked_room : (p : Ooo) (told : Told) (s : State) → length (worked p told s).list ≤ told.room
unfolding worked
worked_room p told s = let now : Ooo = completed (dropped p told) in let h = handed_room told.room s [] now now.window in omega arith

room_of_call : (b c : Bool) (call other : OooCall) (p : Ooo) (room : ℕ) → length call.list ≤ room → length other.list ≤ room → length (if b then call else (if c then call_of [] p else other)).list ≤ room
room_of_call true c call other p room h k = h
room_of_call false true call other p room h k = omega arith
room_of_call false false call other p room h k = k

room_call : (p : Ooo) (told : Told) (s : State) → length (ooo_call p told s).list ≤ told.room
unfolding ooo_call
room_call p told s =
    room_of_call (is_epoch p.ahead.epoch told.epoch) (told.room == 0) (worked p told s) (worked (restarted p told s) told s) p told.room (worked_room p told s) (worked_room (restarted p told s) told s)

pub call_room : (p after : Ooo) (told : Told) (s : State) (list : List Record) → IsOooCall p told s list after → length list ≤ told.room
call_room p after told s list call = subst (λ (l : List Record). length l ≤ told.room) (sym call.lists) (room_call p told s)
