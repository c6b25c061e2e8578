-- How a machine judges one line.
use Rattle.std.proofs.Common.{◌≡◌, ℕ, suc, ◌+◌, ◌≤◌, ◌<◌, true, List, [], ◌∷◌, Option, Some, None, ap, sym, ◌∙◌, refl, arith, subst, ◌⊎◌, inl, inr}
use Rattle.std.proofs.lemmas.Option.{none-some}
use Rattle.diva_isa.specs.State.{State, goes_on}
use Rattle.diva_isa.specs.declared.record.Record.{Record}
use Rattle.diva_isa.specs.Step.{record_of, step}
use Rattle.diva_core.specs.Cycle.{cycle_of, logged, stores_wait}
use Rattle.diva_core.specs.Difference.{first_difference}
use Rattle.diva_core.specs.History.{IsHistory, lists_of}
use Rattle.diva_core.specs.Machine.{IsConfig, IsMachine, stalled}
use Rattle.diva_core.specs.Timed.{Config, Log, PendingClaim, Timed, new_timed}
use Rattle.diva_core.specs.Told.{told_of}
use Rattle.diva_core.specs.declared.differences.Diff.{Diff}
use Rattle.diva_core.specs.declared.flushes.Cause.TheVariants.{Differs}
use Rattle.diva_core.proofs.Cycling.{Base, Cycled, Differed, cycled, idled, ran, barks, differed, ended, finished, waited}
use Rattle.diva_core.proofs.Keeping.{stays}
use Rattle.diva_core.proofs.Stalling.{Stalls, most, stalls}
use Rattle.diva_core.proofs.Starting.{new-machine}
use Rattle.diva_claims.specs.Judged.{CountsInTheLast, HasJudged, IsLineCall, IsLogged, Rests}
use Rattle.diva_claims.specs.Said.{IsLineOf, filled}
use Rattle.diva_claims.specs.Wrong.{IsShown, first_wrong}
use Rattle.diva_claims.specs.declared.said.Said.{Said}
use Rattle.diva_claims.specs.declared.wrong.Wrong.{Wrong}
use Rattle.diva_claims.proofs.Finding.{flushes-of, newest-of}
use Rattle.diva_claims.proofs.Handing.{AreHanded, One, Refused, call_by, handed-more, one-commits, one-differs, ran-empty}
use Rattle.diva_claims.proofs.Waiting.{WaitsBy, no_bark, waits-on}
use Rattle.diva_claims.proofs.Wronging.{right_none, shown}

pub new_rests : (config : Config) (s : State) → IsConfig config → s.instret ≡ 0 → Rests (new_timed config s)
new_rests config s ok none = record { machine = new-machine config s ok none; empty = refl; alone = refl; fresh = refl }

-- ---- a machine n that is judging a line, since m rested

-- no flush came, and what waits is the line's claim
pub record Unflushed (m n : Timed) : Type 0 where
  pub solo : n.under.solo ≡ None
  pub log : n.under.log ≡ m.under.log
  pub waits : WaitsBy n n.under.pending

-- the line's claim differed first in d and was flushed for it, and the instruction runs solo
pub record Refuted (said : Said) (m n : Timed) : Type 0 where
  pub start : ℕ
  pub solo : n.under.solo ≡ Some start
  pub cycle : ℕ
  pub d : Diff
  pub log : n.under.log ≡ logged m.under.log (record { cycle = cycle; at = m.count; cause = Differs d })
  pub first : first_difference (filled said (record_of m.arch)) (record_of m.arch) ≡ Some d

pub record IsJudging (said : Said) (m n : Timed) : Type 0 where
  pub machine : IsMachine n
  pub config : n.config ≡ m.config
  pub count : n.count ≡ m.count
  pub arch : n.arch ≡ m.arch
  pub handed : AreHanded (Some said) (record_of n.arch) n.under.pending
  pub soon : n.cycles ≤ m.cycles + stalled n
  pub way : Unflushed m n ⊎ Refuted said m n

pub begins : (said : Said) (m : Timed) → Rests m → IsJudging said m m
begins said m r =
    record {
      machine = r.machine;
      config = refl;
      count = refl;
      arch = refl;
      handed = subst (AreHanded (Some said) (record_of m.arch)) (sym r.empty) tt;
      soon = omega arith;
      way = inl (record { solo = r.alone; log = refl; waits = subst (WaitsBy m) (sym r.empty) r.fresh });
    }

-- ---- one cycle more: it is judging still, or it has judged

pub data Next (said : Said) (m n : Timed) : Type 0 where
  judging : IsJudging said m n → Next said m n
  judges : HasJudged m n said → Next said m n

-- what a difference makes of the log
logged_for : (o : Option Wrong) (m n : Timed) (cycle : ℕ) (d : Diff) → IsShown o d
    → n.under.log ≡ logged m.under.log (record { cycle = cycle; at = m.count; cause = Differs d }) → IsLogged o m n
logged_for None m n cycle d shows e = absurd shows
logged_for (Some wrong) m n cycle d shows e = (
  flushes-of e,
  (let s = ap (λ (l : Log). l.silent) e in omega arith),
  record { row = record { cycle = cycle; at = m.count; cause = Differs d }; new = newest-of e; place = refl; difference = d; caused = refl; shows = shows },
)

-- each cycle without a commit counts
longer : (m b n : Timed) → n.cycles ≡ b.cycles + 1 → n.count ≡ b.count → (b.count < n.count) ⊎ Stalls b n → b.cycles ≤ m.cycles + stalled b → n.cycles ≤ m.cycles + stalled n
longer m b n c same (inl more) h = absurd (omega arith)
longer m b n c same (inr s) h = let l = s.longer in omega arith

module _ (said : Said) (m b n : Timed) (list : List Record) (g : IsJudging said m b) (on : goes_on m.arch ≡ true) (inv : IsMachine n)
    (given : list ≡ call_by (Some said) b) (stall : (b.count < n.count) ⊎ Stalls b n) where
  goes : goes_on b.arch ≡ true
  goes = ap goes_on g.arch ∙ on

  -- nothing was counted
  still : Base stores_wait b n 0 → AreHanded (Some said) (record_of n.arch) n.under.pending → Unflushed m n ⊎ Refuted said m n → Next said m n
  still v handed way =
      let same : n.count ≡ b.count = v.counted ∙ omega arith in
      judging (record {
        machine = inv;
        config = v.config ∙ g.config;
        count = same ∙ g.count;
        arch = v.stepped ∙ g.arch;
        handed = handed;
        soon = longer m b n v.cycles same stall g.soon;
        way = way;
      })

  -- the instruction was counted
  counts : Base stores_wait b n 1 → n.under.pending ≡ [] → n.under.solo ≡ None → n.under.idle ≡ 0 → IsLogged (first_wrong said (record_of m.arch)) m n → Next said m n
  counts v empty alone fresh log =
      let top = most b g.machine in
      let limit : b.config.limit ≡ m.config.limit = ap (λ (z : Config). z.limit) g.config in
      let c = v.cycles in
      let s = g.soon in
      judges (record {
        counted = v.counted ∙ ap (λ k. k + 1) g.count;
        stepped = v.stepped ∙ ap step g.arch;
        config = v.config ∙ g.config;
        rests = record { machine = inv; empty = empty; alone = alone; fresh = fresh };
        logged = log;
        soon = omega arith;
      })

  -- the line's claim committed, so the line is right
  commits : (u : Unflushed m b) (k : ℕ) (rest : List PendingClaim) → Base stores_wait b n (suc k) → One (Some said) (record_of b.arch) k rest 1 → n.under.log ≡ b.under.log
      → n.under.pending ≡ [] → n.under.solo ≡ None → n.under.idle ≡ 0 → Next said m n
  commits u k rest v o log empty alone fresh =
      let line : IsLineOf (Some said) (record_of m.arch) = subst (λ (t : State). IsLineOf (Some said) (record_of t)) g.arch o.line in
      counts (subst (λ j. Base stores_wait b n (suc j)) o.only v) empty alone fresh
      (subst (λ w. IsLogged w m n) (sym (right_none said m.arch line)) (log ∙ u.log))

  -- the line's claim differed
  differs-now : (u : Unflushed m b) (r : Differed stores_wait b n) → Refused (Some said) (record_of b.arch) r.k r.p → Next said m n
  differs-now u r o =
      let v : Base stores_wait b n 0 = subst (Base stores_wait b n) o.none r.base in
      let arch : n.arch ≡ m.arch = v.stepped ∙ g.arch in
      let count : n.count ≡ m.count = v.counted ∙ omega (arith, g.count) in
      still v (subst (AreHanded (Some said) (record_of n.arch)) (sym r.pending) tt) (inr (record {
        start = b.cycles + 1;
        solo = r.solo;
        cycle = b.cycles + 1;
        d = r.d;
        log = r.log ∙ ap (λ l. logged l (record { cycle = b.cycles + 1; at = n.count; cause = Differs r.d })) u.log
            ∙ ap (λ k. logged m.under.log (record { cycle = b.cycles + 1; at = k; cause = Differs r.d })) count;
        first = subst (λ (t : State). first_difference (filled said (record_of t)) (record_of t) ≡ Some r.d) arch
            (subst (λ c. first_difference c (record_of n.arch) ≡ Some r.d) (o.handed ∙ ap (λ (t : State). filled said (record_of t)) (sym v.stepped)) r.first);
      }))

  unflushed-next : (u : Unflushed m b) → Cycled stores_wait b list n → Next said m n
  unflushed-next u (idled r) =
      still r.base
      (rw (r.base.stepped, r.pending, given) (handed-more (Some said) b.arch b.under.pending (b.cycles + 1) _ g.handed))
      (inl (record { solo = r.solo; log = r.log ∙ u.log; waits = waits-on (Some said) b n list g.machine goes given r said b.under.pending refl refl u.waits }))
  unflushed-next u (ran r) =
      let o = one-commits (Some said) b.arch r.k (b.cycles + 1) b.under.pending r.rest g.handed r.claims in
      commits u r.k r.rest r.base (record { only = o.only; none = o.none; line = o.line; was = refl }) r.log (ran-empty (Some said) b n list g.handed given r) r.solo r.idle
  unflushed-next u (barks r) = absurd (no_bark b n r b.under.pending g.machine.config u.waits)
  unflushed-next u (differed r) =
      differs-now u r (one-differs (Some said) b.arch r.k (b.cycles + 1) b.under.pending r.p r.rest g.handed r.claims)
  unflushed-next u (ended r) =
      let o = one-commits (Some said) b.arch r.k (b.cycles + 1) b.under.pending r.rest g.handed r.claims in
      commits u r.k r.rest r.base (record { only = o.only; none = o.none; line = o.line; was = refl }) r.log r.pending r.solo r.idle
  unflushed-next u (finished r) = absurd (none-some _ (sym u.solo ∙ r.since))
  unflushed-next u (waited r) = absurd (none-some _ (sym u.solo ∙ r.since))

  refuted-next : (f : Refuted said m b) → Cycled stores_wait b list n → Next said m n
  refuted-next f (idled r) = absurd (none-some _ (sym r.was ∙ f.solo))
  refuted-next f (ran r) = absurd (none-some _ (sym r.was ∙ f.solo))
  refuted-next f (barks r) = absurd (none-some _ (sym r.was ∙ f.solo))
  refuted-next f (differed r) = absurd (none-some _ (sym r.was ∙ f.solo))
  refuted-next f (ended r) = absurd (none-some _ (sym r.was ∙ f.solo))
  refuted-next f (finished r) =
      counts r.base r.pending r.solo r.idle (logged_for (first_wrong said (record_of m.arch)) m n f.cycle f.d (shown said (record_of m.arch) f.d f.first) (r.log ∙ f.log))
  refuted-next f (waited r) =
      still r.base (subst (AreHanded (Some said) (record_of n.arch)) (sym r.pending) tt)
      (inr (record { start = r.start; solo = r.solo; cycle = f.cycle; d = f.d; log = r.log ∙ f.log; first = f.first }))

  by-way : Unflushed m b ⊎ Refuted said m b → Cycled stores_wait b list n → Next said m n
  by-way (inl u) c = unflushed-next u c
  by-way (inr f) c = refuted-next f c

pub judges_on : (said : Said) (m b : Timed) (list : List Record) (after : Said) → IsJudging said m b → goes_on m.arch ≡ true → IsLineCall said (told_of b) b.arch list after
    → Next said m (cycle_of b list)
judges_on said m b list after g on call =
    let goes-on : goes_on b.arch ≡ true = ap goes_on g.arch ∙ on in
    by-way said m b (cycle_of b list) list g on (stays b list g.machine) call.lists (stalls b list g.machine goes-on) g.way (cycled b list g.machine goes-on)

-- ---- the cycles up to the one that counts

last-judged : (said : Said) (m b n : Timed) → IsJudging said m b → b.count < n.count → Next said m n → HasJudged m n said
last-judged said m b n g more (judging j) = absurd (let c = g.count in let d = j.count in omega arith)
last-judged said m b n g more (judges j) = j

judging-yet : (said : Said) (m b n : Timed) → IsJudging said m b → n.count ≡ b.count → Next said m n → IsJudging said m n
judging-yet said m b n g same (judging j) = j
judging-yet said m b n g same (judges j) = absurd (let c = g.count in let d = j.counted in omega arith)

history-judged : (said : Said) (m b last : Timed) (before after : Said) (history : List (List Record × Said)) → goes_on m.arch ≡ true → IsJudging said m b → before ≡ said
    → IsHistory IsLineCall b before history last after → CountsInTheLast b (lists_of history) → HasJudged m last said
history-judged said m b last before after [] on g same h c = absurd c
history-judged said m b last before after (turn ∷ []) on g same h c =
    let call : IsLineCall said (told_of b) b.arch turn.0 turn.1 = subst (λ (x : Said). IsLineCall x (told_of b) b.arch turn.0 turn.1) same h.1.0 in
    let j : HasJudged m (cycle_of b turn.0) said = last-judged said m b (cycle_of b turn.0) g c (judges_on said m b turn.0 turn.1 g on call) in
    subst (λ (n : Timed). HasJudged m n said) (sym h.1.1.0) j
history-judged said m b last before after (turn ∷ next ∷ rest) on g same h c =
    let call : IsLineCall said (told_of b) b.arch turn.0 turn.1 = subst (λ (x : Said). IsLineCall x (told_of b) b.arch turn.0 turn.1) same h.1.0 in
    let j : IsJudging said m (cycle_of b turn.0) = judging-yet said m b (cycle_of b turn.0) g c.0 (judges_on said m b turn.0 turn.1 g on call) in
    history-judged said m (cycle_of b turn.0) last turn.1 after (next ∷ rest) on j (h.1.0.keeps ∙ same) h.1.1 c.1

pub judged : (m : Timed) (said : Said) → Rests m → goes_on m.arch ≡ true → (last : Timed) (after : Said) (history : List (List Record × Said))
    → IsHistory IsLineCall m said history last after → CountsInTheLast m (lists_of history) → HasJudged m last said
judged m said r on last after history h c = history-judged said m m last said after history on (begins said m r) refl h c
