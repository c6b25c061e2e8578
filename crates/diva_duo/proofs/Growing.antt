-- What a hart that goes on puts into its buffer.
use Rattle.std.proofs.Common.{◌≡◌, ◌≢◌, ℕ, ◌+◌, ◌-◌, Bool, List, [], ◌++◌, length, map, min, take, None, if◌then◌else◌, refl, ap, sym, ◌∙◌, subst, arith}
use Rattle.std.specs.Prelude.{flat_map}
use Rattle.std.proofs.lemmas.Bool.{eq-eqb, ne_eqb}
use Rattle.std.proofs.lemmas.Grind.{flat_map-append}
use Rattle.std.proofs.lemmas.List.{append-nil, append_assoc, take_min}
use Rattle.circular_buffer.specs.Buffer.{buffer}
use Rattle.diva_memory.specs.Bytes.{Bytes}
use Rattle.diva_storeq.specs.declared.masked.Masked.{Masked}
use Rattle.diva_isa.specs.declared.record.Record.{Record}
use Rattle.diva_isa.specs.Step.{record_of}
use Rattle.diva_core.specs.Cycle.{accepted_in, accepts, committed, phases_under, with_pending}
use Rattle.diva_core.specs.Entries.{fresh}
use Rattle.diva_core.specs.Timed.{PendingClaim, Timed, room_of}
use Rattle.diva_core.specs.Headline.{Rises, dues}
use Rattle.diva_core.proofs.Accepting.{claims_more}
use Rattle.diva_commit.specs.Committing.{buffered}
use Rattle.diva_hart.specs.HartArch.{HartState, seen}
use Rattle.diva_hart.specs.Inner.{Tells}
use Rattle.diva_hart.specs.UnderWay.{config_of, takes_claims, told_machine, under_of}
use Rattle.diva_hart.specs.declared.under_way.UnderWay.{UnderWay}
use Rattle.diva_hart.proofs.Dues.{dues_then}
use Rattle.diva_hart.proofs.Telling.{accepts_open}
use Rattle.diva_duo.specs.Rules.{fences_wait}
use Rattle.diva_duo.specs.Duo.{Hart, timed, hart_of, added, hart_cycle}
use Rattle.diva_duo.specs.Inner.{Puts}

module _ (memory : Bytes) where
  -- by so many instructions
  puts_by : (h g : Hart) (k : ℕ) → g.state.instret - h.state.instret ≡ k → g.state.buffer ≡ h.state.buffer ++ flat_map buffered (dues k (seen memory h.state)) → Puts memory h g
  puts_by h g k counted b = b ∙ ap (λ i. h.state.buffer ++ flat_map buffered (dues i (seen memory h.state))) (sym counted)

  pub puts_none : (h g : Hart) → g.state ≡ h.state → Puts memory h g
  puts_none h g o =
      let same : g.state.instret ≡ h.state.instret = ap (λ (x : HartState). x.instret) o in
      puts_by h g 0 (omega arith) (ap (λ (x : HartState). x.buffer) o ∙ sym (append-nil h.state.buffer))

  pub puts_same : (h g f : Hart) → f.state ≡ g.state → Puts memory h g → Puts memory h f
  puts_same h g f o puts =
      subst (λ (x : HartState). x.buffer ≡ h.state.buffer ++ flat_map buffered (dues (x.instret - h.state.instret) (seen memory h.state))) (sym o) puts

  -- r committed; z is the hart's machine, but for what is under way
  pub puts_one : (h g : Hart) (cycles : ℕ) (z : Timed) (r : Record) → timed cycles memory g ≡ committed z r → z.count ≡ h.state.instret → r ≡ record_of (seen memory h.state)
      → g.state.buffer ≡ h.state.buffer ++ buffered r → Puts memory h g
  unfolding committed
  puts_one h g cycles z r is count due b =
      let more : g.state.instret ≡ h.state.instret + 1 = ap (λ (x : Timed). x.count) is ∙ ap (λ k. k + 1) count in
      puts_by h g 1 (omega arith)
      (b ∙ ap (λ (x : Record). h.state.buffer ++ buffered x) due ∙ ap (λ (x : List Masked). h.state.buffer ++ x) (sym (append-nil (buffered (record_of (seen memory h.state))))))

  pub puts_then : (cycles : ℕ) (h g f : Hart) → Rises (timed cycles memory h) (timed cycles memory g) → Rises (timed cycles memory g) (timed cycles memory f)
      → Puts memory h g → Puts memory g f → Puts memory h f
  puts_then cycles h g f first next a b =
      let xs : List Record = dues (g.state.instret - h.state.instret) (seen memory h.state) in
      let ys : List Record = dues (f.state.instret - g.state.instret) (seen memory g.state) in
      b ∙ ap (λ (x : List Masked). x ++ flat_map buffered ys) a
      ∙ append_assoc h.state.buffer (flat_map buffered xs) (flat_map buffered ys)
      ∙ ap (λ (x : List Masked). h.state.buffer ++ x) (sym (flat_map-append buffered xs ys))
      ∙ ap (λ (rs : List Record). h.state.buffer ++ flat_map buffered rs) (dues_then (timed cycles memory h) (timed cycles memory g) (timed cycles memory f) first next)

-- claims become pending, which leads from u to v
pub accepts_so : (cycles : ℕ) (memory : Bytes) (stores : ℕ) (state : HartState) (u v : UnderWay) (before : Timed) (list : List Record) (room : ℕ)
    → (let with : UnderWay → Timed = λ (x : UnderWay). timed cycles memory (record { config = config_of stores 1 x; state = state; under = under_of x }) in
    room ≡ room_of before
    → (before.under.solo ≡ None → Tells before (with u))
    → v ≡ record u {
      pending = buffer (u.pending.items ++ map (fresh cycles) (if takes_claims (told_machine state 1 0 u) then take (min room (length list)) list else [])) u.pending.capacity;
    }
    → with v ≡ accepts before list (with u))
accepts_so cycles memory stores state u v before list room is tells accepted =
    let with : UnderWay → Timed = λ (x : UnderWay). timed cycles memory (record { config = config_of stores 1 x; state = state; under = under_of x }) in
    let takes : Bool = takes_claims (with u) in
    ap with accepted
    ∙ ap (λ (ps : List PendingClaim). with_pending (with u) ps) (claims_more u.pending.items cycles (if takes then take (min room (length list)) list else []))
    ∙ ap (λ (k : ℕ). with_pending (with u) ((with u).under.pending ++ map (accepted_in cycles) (if takes then take (min k (length list)) list else []))) is
    ∙ ap (λ (claims : List Record). with_pending (with u) ((with u).under.pending ++ map (accepted_in cycles) (if takes then claims else []))) (take_min (room_of before) list)
    ∙ accepts_open before (with u) list tells

-- phases 2 to 5 make up the cycle
pub cycle_from : (cycles : ℕ) (memory : Bytes) (list : List Record) (h g : Hart) → h.state.end ≡ 0 → timed cycles memory g ≡ phases_under fences_wait (timed cycles memory h) (timed cycles memory h) list → g.state.buffer ≡ h.state.buffer ++ added (timed cycles memory h) (timed cycles memory g) → g ≡ hart_cycle cycles memory list h
unfolding hart_cycle
cycle_from cycles memory list h g on is b =
    ap (hart_of (timed cycles memory g)) b
    ∙ ap (λ (z : Timed). hart_of z (h.state.buffer ++ added (timed cycles memory h) z)) is
    ∙ rw (eq-eqb h.state.end 0 on) refl

pub cycle_off : (cycles : ℕ) (memory : Bytes) (list : List Record) (h : Hart) → h.state.end ≢ 0 → h ≡ hart_cycle cycles memory list h
unfolding hart_cycle
cycle_off cycles memory list h off = rw (ne_eqb h.state.end 0 off) refl
