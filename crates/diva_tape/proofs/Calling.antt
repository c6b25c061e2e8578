-- One call of the core `Scalar`: it stands behind the pending claims, and hands over the record that is due there.
use Rattle.std.proofs.Common.{◌≡◌, ◌≢◌, ℕ, suc, ◌-◌, ◌==◌, Bool, true, false, not, List, [], ◌∷◌, ◌++◌, length, map, drop, refl, ap, sym, ◌∙◌, arith, subst, length-append, inl, inr, ◌⊎◌, if◌then◌else◌}
use Rattle.std.specs.Prelude.{IfSome}
use Rattle.std.proofs.Math.Seq.{drop-append_seam}
use Rattle.std.proofs.lemmas.List.{length-map, map-append, append-nil}
use Rattle.std.proofs.lemmas.Bool.{true≢false, eq-eqb}
use Rattle.std.proofs.lemmas.Bool.Decides.{nat_tests}
use Rattle.diva_isa.specs.State.{State, goes_on}
use Rattle.diva_isa.specs.Step.{record_of, step, steps}
use Rattle.diva_isa.specs.declared.record.Record.{Record}
use Rattle.diva_isa.specs.declared.effect.Effect.{Effect}
use Rattle.diva_core.specs.Told.{Told}
use Rattle.diva_core.proofs.Calming.{AreDueFrom}
use Rattle.diva_ahead.specs.Effects.{done_by}
use Rattle.diva_ahead.specs.Ahead.{Ahead, taken_over, with_record, is_epoch, seen, synced, trimmed}
use Rattle.diva_ahead.proofs.Leading.{Follows, handed_shows, low_64, seen_record}
use Rattle.diva_tape.specs.Scalar.{ScalarCall, next_call, scalar_call}

-- the record that is due in a state, if it goes on
abbrev pub next_of : State → List Record
next_of s = if goes_on s then record_of s ∷ [] else []

-- the core is of an epoch, and stands behind the claims
pub record Keeps (ahead : Ahead) (epoch : ℕ) (s : State) (claims : List Record) : Type 0 where
  pub of : is_epoch ahead.epoch epoch ≡ true
  pub before : List Effect
  pub ring : ahead.ring ≡ before ++ map done_by claims
  pub follows : Follows ahead (steps (length claims) s)

-- what a call hands over where these claims are pending, and what the core keeps
pub record Hands (epoch : ℕ) (s : State) (claims : List Record) (call : ScalarCall) : Type 0 where
  pub list : call.list ≡ next_of (steps (length claims) s)
  pub keeps : Keeps call.core epoch s (claims ++ call.list)

-- the core keeps the claims, or will take a new epoch where none is pending
abbrev pub Ready : Ahead → ℕ → State → List Record → Type 0
Ready ahead epoch s claims = Keeps ahead epoch s claims ⊎ ((is_epoch ahead.epoch epoch ≡ false) × (claims ≡ []))

keeps_begun : (told : Told) (s : State) → told.count ≡ s.instret → goes_on s ≡ true → Keeps (taken_over told s) told.epoch s []
unfolding taken_over
keeps_begun told s counted on =
    record { of = eq-eqb told.epoch told.epoch refl; before = []; ring = refl; follows = record { shows = record { regs = refl; pc = refl; output = refl; instret = ap low_64 counted }; stopped = ap not (sym on) } }

keeps_synced : (ahead : Ahead) (told : Told) (s : State) (claims : List Record) → told.count ≡ s.instret → goes_on s ≡ true → Ready ahead told.epoch s claims → Keeps (synced ahead told s) told.epoch s claims
keeps_synced ahead told s claims counted on (inl k) = rw k.of k
keeps_synced ahead told s claims counted on (inr k) = rw k.0 (subst (Keeps (taken_over told s) told.epoch s) (sym k.1) (keeps_begun told s counted on))

drop_before : (before xs : List Effect) (n : ℕ) → n ≡ length xs → drop (length (before ++ xs) - n) (before ++ xs) ≡ xs
drop_before before xs n e =
    let l : length (before ++ xs) - n ≡ length before = rw length-append (omega arith) in
    ap (λ (k : ℕ). drop k (before ++ xs)) l ∙ drop-append_seam before xs

-- what the core keeps once it has dropped what is no longer pending
record Trims (ahead : Ahead) (epoch : ℕ) (s : State) (claims : List Record) : Type 0 where
  of : is_epoch ahead.epoch epoch ≡ true
  ring : ahead.ring ≡ map done_by claims
  follows : Follows ahead (steps (length claims) s)

trims : (ahead : Ahead) (told : Told) (s : State) (claims : List Record) → told.pending ≡ length claims → Keeps ahead told.epoch s claims → Trims (trimmed ahead told) told.epoch s claims
unfolding trimmed
trims ahead told s claims e k =
    record {
      of = k.of;
      ring = ap (λ (ring : List Effect). drop (length ring - told.pending) ring) k.ring ∙ drop_before k.before (map done_by claims) told.pending (e ∙ sym (length-map claims done_by));
      follows = record { shows = record { regs = k.follows.shows.regs; pc = k.follows.shows.pc; output = k.follows.shows.output; instret = k.follows.shows.instret }; stopped = k.follows.stopped };
    }

not_off : (b : Bool) → true ≡ not b → b ≡ false
not_off true e = absurd (true≢false e)
not_off false e = refl

not_on : (b : Bool) → false ≡ not b → b ≡ true
not_on true e = refl
not_on false e = absurd (true≢false (sym e))

next_off : (s : State) → goes_on s ≡ false → next_of s ≡ []
next_off s off = rw off refl

next_on : (s : State) → goes_on s ≡ true → next_of s ≡ record_of s ∷ []
next_on s on = rw on refl

stays : (ahead : Ahead) (epoch : ℕ) (s : State) (claims : List Record) → Trims ahead epoch s claims → ahead.stopped ≡ true → Hands epoch s claims (record { list = []; core = ahead })
stays ahead epoch s claims t off =
    record {
      list = sym (next_off (steps (length claims) s) (not_off _ (sym off ∙ t.follows.stopped)));
      keeps = subst (Keeps ahead epoch s) (sym (append-nil claims)) (record { of = t.of; before = []; ring = t.ring; follows = t.follows });
    }

long_one : (xs : List Record) (r : Record) → length (xs ++ r ∷ []) ≡ suc (length xs)
long_one xs r = rw length-append (omega arith)

ring_handed : (ahead : Ahead) (s : State) (r : Record) (claims : List Record) → ahead.ring ≡ map done_by claims → (with_record ahead s r).ring ≡ map done_by (claims ++ r ∷ [])
unfolding with_record
ring_handed ahead s r claims e = ap (λ (es : List Effect). es ++ done_by r ∷ []) e ∙ sym (map-append done_by claims (r ∷ []))

epoch_handed : (ahead : Ahead) (s : State) (r : Record) (epoch : ℕ) → is_epoch ahead.epoch epoch ≡ true → is_epoch (with_record ahead s r).epoch epoch ≡ true
unfolding with_record
epoch_handed ahead s r epoch e = e

goes : (ahead : Ahead) (epoch : ℕ) (s : State) (claims : List Record) → AreDueFrom s claims → Trims ahead epoch s claims → ahead.stopped ≡ false
    → Hands epoch s claims (record { list = record_of (seen ahead s) ∷ []; core = with_record ahead s (record_of (seen ahead s)) })
goes ahead epoch s claims due t on =
    let far : State = steps (length claims) s in
    let going : goes_on far ≡ true = not_on _ (sym on ∙ t.follows.stopped) in
    let is : record_of (seen ahead s) ≡ record_of far = seen_record ahead s claims t.ring due going t.follows.shows in
    let next : Follows (with_record ahead s (record_of far)) (step far) = handed_shows ahead s far going t.follows.shows in
    let mine : Follows (with_record ahead s (record_of (seen ahead s))) (step far) = subst (λ (r : Record). Follows (with_record ahead s r) (step far)) (sym is) next in
    record {
      list = ap (λ (r : Record). r ∷ []) is ∙ sym (next_on far going);
      keeps = record {
        of = epoch_handed ahead s (record_of (seen ahead s)) epoch t.of;
        before = [];
        ring = ring_handed ahead s (record_of (seen ahead s)) claims t.ring;
        follows = subst (λ (k : ℕ). Follows (with_record ahead s (record_of (seen ahead s))) (steps k s)) (sym (long_one claims (record_of (seen ahead s)))) mine;
      };
    }

handed_by : (b : Bool) (ahead : Ahead) (epoch : ℕ) (s : State) (claims : List Record) → ahead.stopped ≡ b → AreDueFrom s claims → Trims ahead epoch s claims
    → Hands epoch s claims (if b then record { list = []; core = ahead } else record { list = record_of (seen ahead s) ∷ []; core = with_record ahead s (record_of (seen ahead s)) })
handed_by true ahead epoch s claims e due t = stays ahead epoch s claims t e
handed_by false ahead epoch s claims e due t = goes ahead epoch s claims due t e

-- where there is room a call hands over the record that is due behind the pending claims, unless one of them ends
pub hands : (ahead : Ahead) (told : Told) (s : State) (claims : List Record) → told.room ≢ 0 → told.pending ≡ length claims → told.count ≡ s.instret → goes_on s ≡ true → AreDueFrom s claims → Ready ahead told.epoch s claims
    → Hands told.epoch s claims (scalar_call ahead told s)
unfolding scalar_call
hands ahead told s claims some e counted on due ready =
    let test : (told.room == 0) ≡ false = grind (arith, nat_tests) in
    let core : Ahead = trimmed (synced ahead told s) told in
    rw test (handed_by core.stopped core told.epoch s claims refl due (trims (synced ahead told s) told s claims e (keeps_synced ahead told s claims counted on ready)))

-- where there is none, nothing happens
pub waits : (ahead : Ahead) (told : Told) (s : State) → told.room ≡ 0 → scalar_call ahead told s ≡ record { list = []; core = ahead }
unfolding scalar_call
waits ahead told s none = rw none refl

-- ---- the epoch after a call is that before it, or the machine's

holds_synced : (P : ℕ → Type 0) (b : Bool) (ahead : Ahead) (told : Told) (s : State) → IfSome ahead.epoch P → P told.epoch → IfSome (if b then ahead else taken_over told s).epoch P
unfolding taken_over
holds_synced P true ahead told s h t = h
holds_synced P false ahead told s h t = t

holds_trimmed : (P : ℕ → Type 0) (ahead : Ahead) (told : Told) → IfSome ahead.epoch P → IfSome (trimmed ahead told).epoch P
unfolding trimmed
holds_trimmed P ahead told h = h

holds_handed : (P : ℕ → Type 0) (ahead : Ahead) (s : State) (r : Record) → IfSome ahead.epoch P → IfSome (with_record ahead s r).epoch P
unfolding with_record
holds_handed P ahead s r h = h

holds_next : (P : ℕ → Type 0) (b : Bool) (ahead : Ahead) (s : State) (r : Record) → IfSome ahead.epoch P → (
    let call : ScalarCall = if b then record { list = []; core = ahead } else record { list = r ∷ []; core = with_record ahead s r } in
    IfSome call.core.epoch P)
holds_next P true ahead s r h = h
holds_next P false ahead s r h = holds_handed P ahead s r h

holds_by : (P : ℕ → Type 0) (b : Bool) (ahead : Ahead) (call : ScalarCall) → IfSome ahead.epoch P → IfSome call.core.epoch P → (
    let one : ScalarCall = if b then record { list = []; core = ahead } else call in
    IfSome one.core.epoch P)
holds_by P true ahead call h k = h
holds_by P false ahead call h k = k

pub epoch_holds : (P : ℕ → Type 0) (ahead : Ahead) (told : Told) (s : State) → IfSome ahead.epoch P → P told.epoch → IfSome (scalar_call ahead told s).core.epoch P
unfolding scalar_call
epoch_holds P ahead told s h t =
    let core : Ahead = trimmed (synced ahead told s) told in
    let there : IfSome core.epoch P = holds_trimmed P (synced ahead told s) told (holds_synced P (is_epoch ahead.epoch told.epoch) ahead told s h t) in
    holds_by P (told.room == 0) ahead (next_call core s) h (holds_next P core.stopped core s (record_of (seen core s)) there)
