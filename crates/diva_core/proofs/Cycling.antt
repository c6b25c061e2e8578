-- The ways in which a cycle can go.
use Rattle.std.proofs.Common.{◌≡◌, ℕ, zero, suc, ◌+◌, ◌<◌, ◌≤◌, ◌==◌, Bool, true, false, ◌&&◌, List, [], ◌∷◌, ◌++◌, map, take, Some, None, refl, ap, sym, ◌∙◌, arith, if◌then◌else◌, inl, inr, subst}
use Rattle.std.proofs.lemmas.Bool.{cond_both, eq-eqb, ne_eqb, and_left, and_right, true≢false}
use Rattle.std.proofs.lemmas.Option.{none-some}
use Rattle.diva_isa.specs.declared.record.Record.{Record}
use Rattle.diva_isa.specs.Step.{record_of, steps}
use Rattle.diva_core.specs.declared.differences.Diff.{Diff}
use Rattle.diva_core.specs.declared.flushes.Cause.{Cause}
use Rattle.diva_core.specs.declared.flushes.Cause.TheVariants.{Differs, Silent}
use Rattle.diva_core.specs.Difference.{first_difference}
use Rattle.diva_isa.specs.State.{goes_on}
use Rattle.diva_core.specs.Timed.{Log, Timed, PendingClaim, room_of, depth}
use Rattle.diva_core.specs.Cycle.{Rule, accepted, accepted_in, accepts, barked, begun, commits_under, counted, cycle_of, cycle_under, drained, flushed, port_opens, stores_wait, watched}
use Rattle.diva_core.specs.Machine.{IsMachine, Lives, IsSolo}
use Rattle.diva_core.specs.Headline.{SameLog, HasRow}
use Rattle.diva_core.proofs.Commits.{Commits}
use Rattle.diva_core.proofs.Judging.{Moved, Outcome, Still, Flushing, Ending, still, flushing, ending}
use Rattle.diva_core.proofs.Passing.{AlonePasses, Keeps, Passed, alone_stores, owed_after, stores_keep}
use Rattle.diva_core.proofs.Phases.{Second, Alone, Waits, judging, alone, waits, second, bark, bark-quiet}

abbrev pub taken : Timed → List Record → List PendingClaim
taken b list = map (accepted_in (b.cycles + 1)) (take (room_of b) list)

-- phase 1 adds nothing to what is owed
pub drained-fits : (b : Timed) → b.owed ≤ b.config.stores → (drained (begun b)).owed ≤ b.config.stores
unfolding drained
drained-fits b h = cond_both (port_opens (begun b)) _ _ (λ n. n ≤ b.config.stores) (λ t. omega arith) (λ f. h)

module _ (rule : Rule) where
  -- what each way has in common, after k commits
  pub record Base (b n : Timed) (k : ℕ) : Type 0 where
    pub config : n.config ≡ b.config
    pub undos : n.under.undos ≡ b.under.undos
    pub cycles : n.cycles ≡ b.cycles + 1
    pub counted : n.count ≡ b.count + k
    pub stepped : n.arch ≡ steps k b.arch
    pub owes : n.owed ≡ owed_after k b.arch (drained (begun b)).owed
    pub passed : Passed rule b.config.stores k b.arch (drained (begun b)).owed
    pub owed : n.owed ≤ b.config.stores
    pub few : k ≤ b.config.width

  -- the commit phase neither counts nor flushes
  pub record Unjudged (b : Timed) : Type 0 where
    pub count : (commits_under rule (drained (begun b))).count ≡ b.count
    pub flushes : (commits_under rule (drained (begun b))).under.log.flushes ≡ b.under.log.flushes

  -- nothing commits, and the watchdog is silent
  pub record Idled (b : Timed) (list : List Record) (n : Timed) : Type 0 where
    pub base : Base b n 0
    pub log : SameLog b n
    pub was : b.under.solo ≡ None
    pub solo : n.under.solo ≡ None
    pub idle : n.under.idle ≡ b.under.idle + 1
    pub early : n.under.idle < b.config.limit
    pub unjudged : Unjudged b
    pub pending : n.under.pending ≡ b.under.pending ++ taken b list

  -- claims commit, and the machine goes on
  pub record Ran (b : Timed) (list : List Record) (n : Timed) : Type 0 where
    pub k : ℕ
    pub base : Base b n (suc k)
    pub log : SameLog b n
    pub was : b.under.solo ≡ None
    pub solo : n.under.solo ≡ None
    pub idle : n.under.idle ≡ 0
    pub rest : List PendingClaim
    pub claims : Commits (suc k) b.arch (b.cycles + 1) b.under.pending rest
    pub pending : n.under.pending ≡ rest ++ taken b list
    pub on : goes_on n.arch ≡ true

  -- nothing commits, and the watchdog flushes
  pub record Barked (b n : Timed) : Type 0 where
    pub base : Base b n 0
    pub log : HasRow b n (record { cycle = b.cycles + 1; at = n.count; cause = Silent b.config.limit })
    pub was : b.under.solo ≡ None
    pub solo : n.under.solo ≡ Some (b.cycles + 1)
    pub idle : n.under.idle ≡ b.under.idle + 1
    pub late : b.config.limit ≤ n.under.idle
    pub unjudged : Unjudged b
    pub pending : n.under.pending ≡ []

  -- a claim differs
  pub record Differed (b n : Timed) : Type 0 where
    pub k : ℕ
    pub base : Base b n k
    pub p : PendingClaim
    pub rest : List PendingClaim
    pub d : Diff
    pub log : HasRow b n (record { cycle = b.cycles + 1; at = n.count; cause = Differs d })
    pub first : first_difference p.claim (record_of n.arch) ≡ Some d
    pub ready : p.cycle + depth ≤ b.cycles + 1
    pub claims : Commits k b.arch (b.cycles + 1) b.under.pending (p ∷ rest)
    pub was : b.under.solo ≡ None
    pub solo : n.under.solo ≡ Some (b.cycles + 1)
    pub idle : n.under.idle ≤ b.under.idle + 1
    pub pending : n.under.pending ≡ []
    pub on : goes_on n.arch ≡ true

  -- a claim commits that ends the machine
  pub record Ended (b n : Timed) : Type 0 where
    pub k : ℕ
    pub base : Base b n (suc k)
    pub log : SameLog b n
    pub rest : List PendingClaim
    pub claims : Commits (suc k) b.arch (b.cycles + 1) b.under.pending rest
    pub was : b.under.solo ≡ None
    pub solo : n.under.solo ≡ None
    pub idle : n.under.idle ≡ 0
    pub pending : n.under.pending ≡ []
    pub went : goes_on (steps k b.arch) ≡ true
    pub off : goes_on n.arch ≡ false

  -- the instruction that ran solo commits
  pub record Finished (b n : Timed) : Type 0 where
    pub start : ℕ
    pub since : b.under.solo ≡ Some start
    pub sixth : b.cycles + 1 ≡ start + depth
    pub base : Base b n 1
    pub log : SameLog b n
    pub solo : n.under.solo ≡ None
    pub idle : n.under.idle ≡ 0
    pub pending : n.under.pending ≡ []

  -- an instruction runs on solo
  pub record Waited (b n : Timed) : Type 0 where
    pub start : ℕ
    pub since : b.under.solo ≡ Some start
    pub early : b.cycles + 1 ≡ start + depth → ⊥
    pub base : Base b n 0
    pub log : SameLog b n
    pub solo : n.under.solo ≡ Some start
    pub idle : n.under.idle ≡ b.under.idle + 1
    pub pending : n.under.pending ≡ []

  pub data Cycled (b : Timed) (list : List Record) (n : Timed) : Type 0 where
    idled : Idled b list n → Cycled b list n
    ran : Ran b list n → Cycled b list n
    barks : Barked b n → Cycled b list n
    differed : Differed b n → Cycled b list n
    ended : Ended b n → Cycled b list n
    finished : Finished b n → Cycled b list n
    waited : Waited b n → Cycled b list n

module _ {rule : Rule} (keeps : Keeps rule) where
  -- the machine before the watchdog
  abbrev mid : Timed → List Record → Timed
  mid b list = counted b (accepts b list (commits_under rule (drained (begun b))))

  zero-idle : (c d : ℕ) (k : ℕ) (idle : ℕ) → c ≡ d + suc k → (if c == d then idle + 1 else 0) ≡ 0
  zero-idle c d k idle e = rw (ne_eqb c d (λ f. omega arith)) refl

  more-idle : (c d : ℕ) (idle : ℕ) → c ≡ d + 0 → (if c == d then idle + 1 else 0) ≡ idle + 1
  more-idle c d idle e = rw (eq-eqb c d (omega arith)) refl

  some-idle : (b : Bool) (idle : ℕ) → (if b then idle + 1 else 0) ≤ idle + 1
  some-idle true idle = omega arith
  some-idle false idle = omega arith

  -- what was accepted in a cycle that went on
  all-accepted : (b m : Timed) (list : List Record) → goes_on m.arch ≡ true → m.under.log.flushes ≡ b.under.log.flushes → m.cycles ≡ b.cycles + 1 → accepted b list m ≡ m.under.pending ++ taken b list
  all-accepted b m list on same c = rw (on, eq-eqb m.under.log.flushes b.under.log.flushes same, c) refl

  base-mid : (b : Timed) (list : List Record) (k : ℕ) → Moved rule (drained (begun b)) (commits_under rule (drained (begun b))) k → Base rule b (mid b list) k
  unfolding drained accepts
  base-mid b list k v = record { config = v.config; undos = v.undos; cycles = v.cycles; counted = v.counted; stepped = v.stepped; owes = v.owes; passed = v.passed; owed = v.owed; few = v.few }

  log-mid : (b : Timed) (list : List Record) → SameLog (drained (begun b)) (commits_under rule (drained (begun b))) → SameLog b (mid b list)
  unfolding drained accepts
  log-mid b list v = v

  -- a flush after a log that stayed
  HasRow-flushed : (b m : Timed) (c : ℕ) (cause : Cause) → SameLog b m → m.cycles ≡ c → HasRow b (flushed m cause) (record { cycle = c; at = m.count; cause = cause })
  unfolding flushed
  HasRow-flushed b m c cause log e = rw (log, e) refl

  Barked-mid :
      (b : Timed) (list : List Record)
      → b.under.solo ≡ None
      → Base rule b (mid b list) 0
      → SameLog b (mid b list)
      → (mid b list).under.idle ≡ b.under.idle + 1
      → b.config.limit ≤ (mid b list).under.idle
      → Unjudged rule b
      → Barked rule b (flushed (mid b list) (Silent b.config.limit))
  unfolding flushed
  Barked-mid b list was v log i late unjudged =
      let h = HasRow-flushed b (mid b list) (b.cycles + 1) (Silent b.config.limit) log v.cycles in
      record {
        base = record { config = v.config; undos = v.undos; cycles = v.cycles; counted = v.counted; stepped = v.stepped; owes = v.owes; passed = v.passed; owed = v.owed; few = v.few };
        log = h;
        was = was;
        solo = ap Some v.cycles;
        idle = i;
        late = late;
        unjudged = unjudged;
        pending = refl;
      }

  Cycled-idle :
      (b : Timed) (list : List Record)
      → IsMachine b
      → b.under.solo ≡ None
      → (r : Still rule (drained (begun b)) (commits_under rule (drained (begun b))))
      → r.k ≡ 0
      → Cycled rule b list (barked (mid b list))
  unfolding drained accepts
  Cycled-idle b list inv was r none =
      let v : Base rule b (mid b list) 0 = base-mid b list 0 (subst (Moved rule (drained (begun b)) (commits_under rule (drained (begun b)))) none r.moved) in
      let i : (mid b list).under.idle ≡ b.under.idle + 1 = more-idle _ b.count _ v.counted ∙ ap (λ z. z + 1) r.moved.idle in
      let limit : (mid b list).config.limit ≡ b.config.limit = ap (λ z. z.limit) v.config in
      let y : Unjudged rule b = record { count = (let c = v.counted in omega arith); flushes = ap (λ (l : Log). l.flushes) r.log } in
      elim (bark (mid b list)) [
        | inl q ↦ subst (Cycled rule b list) (sym q.same) (idled (record {
          base = v;
          log = log-mid b list r.log;
          was = was;
          solo = r.solo;
          idle = i;
          early = rw limit at (q.early r.solo r.on);
          unjudged = y;
          pending = all-accepted b (commits_under rule (drained (begun b))) list r.on (ap (λ (l : Log). l.flushes) r.log) r.moved.cycles ∙ ap (λ z. z ++ taken b list) (rw none at r.claims);
        }))
        | inr w ↦ subst (Cycled rule b list) (sym w.flushes) (rw limit (barks (Barked-mid b list was v (log-mid b list r.log) i (rw limit at w.late) y)))
      ]

  Cycled-ran :
      (b : Timed) (list : List Record) (k : ℕ)
      → IsMachine b
      → b.under.solo ≡ None
      → (r : Still rule (drained (begun b)) (commits_under rule (drained (begun b))))
      → r.k ≡ suc k
      → Cycled rule b list (barked (mid b list))
  unfolding drained accepts
  Cycled-ran b list k inv was r more =
      let v : Base rule b (mid b list) (suc k) = base-mid b list (suc k) (subst (Moved rule (drained (begun b)) (commits_under rule (drained (begun b)))) more r.moved) in
      let i : (mid b list).under.idle ≡ 0 = zero-idle _ b.count k _ v.counted in
      let low : 16 ≤ b.config.limit = inv.config.limit_low in
      let limit : (mid b list).config.limit ≡ b.config.limit = ap (λ z. z.limit) v.config in
      subst (Cycled rule b list) (sym (bark-quiet (mid b list) (λ none on. rw (limit, i) (omega arith)))) (ran (record {
        k = k;
        base = v;
        log = log-mid b list r.log;
        was = was;
        solo = r.solo;
        idle = i;
        rest = (commits_under rule (drained (begun b))).under.pending;
        claims = rw more at r.claims;
        pending = all-accepted b (commits_under rule (drained (begun b))) list r.on (ap (λ (l : Log). l.flushes) r.log) r.moved.cycles;
        on = r.on;
      }))

  Cycled-still : (b : Timed) (list : List Record) → IsMachine b → b.under.solo ≡ None → (r : Still rule (drained (begun b)) (commits_under rule (drained (begun b)))) → (k : ℕ) → r.k ≡ k → Cycled rule b list (barked (mid b list))
  Cycled-still b list inv was r zero e = Cycled-idle b list inv was r e
  Cycled-still b list inv was r (suc k) e = Cycled-ran b list k inv was r e

  -- nothing is accepted after a flush or an end
  none-accepted : (b m : Timed) (list : List Record) → (goes_on m.arch && (m.under.log.flushes == b.under.log.flushes)) ≡ false → m.under.pending ≡ [] → accepted b list m ≡ []
  none-accepted b m list off e = rw off e

  Cycled-flushing : (b : Timed) (list : List Record) → b.under.solo ≡ None → Flushing rule (drained (begun b)) (commits_under rule (drained (begun b))) → Cycled rule b list (barked (mid b list))
  unfolding drained accepts
  Cycled-flushing b list was r =
      let v : Base rule b (mid b list) r.k = base-mid b list r.k r.moved in
      let i : (mid b list).under.idle ≤ b.under.idle + 1 = subst (λ z. (mid b list).under.idle ≤ z + 1) r.moved.idle (some-idle ((commits_under rule (drained (begun b))).count == b.count) (commits_under rule (drained (begun b))).under.idle) in
      let m : Timed = commits_under rule (drained (begun b)) in
      subst (Cycled rule b list) (sym (bark-quiet (mid b list) (λ none on. absurd (none-some _ (sym none ∙ r.solo))))) (differed (record {
        k = r.k;
        base = v;
        p = r.p;
        rest = r.rest;
        d = r.d;
        log = r.log;
        first = r.first;
        ready = r.ready;
        claims = r.claims;
        was = was;
        solo = r.solo;
        idle = i;
        pending = none-accepted b m list (and_right (goes_on m.arch) _ (ne_eqb m.under.log.flushes b.under.log.flushes (λ e. let f : m.under.log.flushes ≡ b.under.log.flushes + 1 = ap (λ (l : Log). l.flushes) r.log in omega arith))) r.pending;
        on = r.on;
      }))

  Cycled-ending : (b : Timed) (list : List Record) → b.under.solo ≡ None → Ending rule (drained (begun b)) (commits_under rule (drained (begun b))) → Cycled rule b list (barked (mid b list))
  unfolding drained accepts
  Cycled-ending b list was r =
      let v : Base rule b (mid b list) (suc r.k) = base-mid b list (suc r.k) r.moved in
      let m : Timed = commits_under rule (drained (begun b)) in
      subst (Cycled rule b list) (sym (bark-quiet (mid b list) (λ none on. absurd (true≢false (sym on ∙ r.off))))) (ended (record {
        k = r.k;
        base = v;
        log = log-mid b list r.log;
        rest = r.rest;
        claims = r.claims;
        was = was;
        solo = r.solo;
        idle = zero-idle _ b.count r.k _ v.counted;
        pending = none-accepted b m list (and_left (goes_on m.arch) _ r.off) r.pending;
        went = r.went;
        off = r.off;
      }))

  no-room : (b : Timed) (start : ℕ) → b.under.solo ≡ Some start → room_of b ≡ 0
  no-room b start e = rw e refl

  -- nothing is accepted where there is no room
  none-taken : (b m : Timed) (list : List Record) → room_of b ≡ 0 → m.under.pending ≡ [] → accepted b list m ≡ []
  none-taken b m list r e = rw (e, r) (cond_both {A = List PendingClaim} (goes_on m.arch && (m.under.log.flushes == b.under.log.flushes)) _ _ (λ x. x ≡ []) (λ t. refl) (λ f. refl))

  alone-lives : (b : Timed) (start : ℕ) → IsMachine b → b.under.solo ≡ Some start → IsSolo b start
  alone-lives b start inv e = subst (Lives b) e inv.lives

  Cycled-alone : (b : Timed) (list : List Record) → IsMachine b → Alone rule (drained (begun b)) (commits_under rule (drained (begun b))) → Cycled rule b list (barked (mid b list))
  unfolding drained accepts
  Cycled-alone b list inv r =
      let v : Base rule b (mid b list) 1 = base-mid b list 1 r.moved in
      let m : Timed = commits_under rule (drained (begun b)) in
      let i : (mid b list).under.idle ≡ 0 = zero-idle _ b.count 0 _ v.counted in
      let low : 16 ≤ b.config.limit = inv.config.limit_low in
      let limit : (mid b list).config.limit ≡ b.config.limit = ap (λ z. z.limit) v.config in
      subst (Cycled rule b list) (sym (bark-quiet (mid b list) (λ none on. rw (limit, i) (omega arith)))) (finished (record {
        start = r.start;
        since = r.since;
        sixth = r.sixth;
        base = v;
        log = log-mid b list r.log;
        solo = r.solo;
        idle = i;
        pending = none-taken b m list (no-room b r.start r.since) (r.pending ∙ (alone-lives b r.start inv r.since).empty);
      }))

  Moved-same : (e m : Timed) → m ≡ e → e.owed ≤ e.config.stores → Moved rule e m 0
  Moved-same e m same owed = subst (λ z. Moved rule e z 0) (sym same) (record { config = refl; undos = refl; cycles = refl; idle = refl; counted = omega arith; stepped = refl; owes = refl; passed = tt; owed = owed; few = omega arith })

  SameLog-same : (e m : Timed) → m ≡ e → SameLog e m
  SameLog-same e m same = ap (λ (z : Timed). z.under.log) same

  Cycled-waits : (b : Timed) (list : List Record) → IsMachine b → Waits rule (drained (begun b)) (commits_under rule (drained (begun b))) → Cycled rule b list (barked (mid b list))
  unfolding drained accepts
  Cycled-waits b list inv r =
      let m : Timed = commits_under rule (drained (begun b)) in
      let w : Moved rule (drained (begun b)) m 0 = Moved-same (drained (begun b)) m r.same (drained-fits b inv.owed) in
      let v : Base rule b (mid b list) 0 = base-mid b list 0 w in
      let alone : m.under.solo ≡ Some r.start = ap (λ (z : Timed). z.under.solo) r.same ∙ r.since in
      subst (Cycled rule b list) (sym (bark-quiet (mid b list) (λ none on. absurd (none-some _ (sym none ∙ alone))))) (waited (record {
        start = r.start;
        since = r.since;
        early = r.early;
        base = v;
        log = log-mid b list (SameLog-same (drained (begun b)) m r.same);
        solo = alone;
        idle = more-idle _ b.count _ v.counted ∙ ap (λ z. z + 1) w.idle;
        pending = none-taken b m list (no-room b r.start r.since) (ap (λ (z : Timed). z.under.pending) r.same ∙ (alone-lives b r.start inv r.since).empty);
      }))

  Cycled-outcome : (b : Timed) (list : List Record) → IsMachine b → b.under.solo ≡ None → Outcome rule (drained (begun b)) (commits_under rule (drained (begun b))) → Cycled rule b list (barked (mid b list))
  Cycled-outcome b list inv was (still r) = Cycled-still b list inv was r r.k refl
  Cycled-outcome b list inv was (flushing r) = Cycled-flushing b list was r
  Cycled-outcome b list inv was (ending r) = Cycled-ending b list was r

  Cycled-second : (b : Timed) (list : List Record) → IsMachine b → Second rule (drained (begun b)) (commits_under rule (drained (begun b))) → Cycled rule b list (barked (mid b list))
  unfolding drained
  Cycled-second b list inv (judging was o) = Cycled-outcome b list inv was o
  Cycled-second b list inv (alone r) = Cycled-alone b list inv r
  Cycled-second b list inv (waits r) = Cycled-waits b list inv r

  pub cycled_under : (b : Timed) (list : List Record) → IsMachine b → goes_on b.arch ≡ true → AlonePasses rule b → Cycled rule b list (cycle_under rule b list)
  unfolding cycle_under watched drained
  cycled_under b list inv on passes = rw on (Cycled-second b list inv (second keeps (drained (begun b)) passes on (drained-fits b inv.owed) inv.config.width_low))

-- the machine's own cycle
pub cycled : (b : Timed) (list : List Record) → IsMachine b → goes_on b.arch ≡ true → Cycled stores_wait b list (cycle_of b list)
cycled b list inv on = cycled_under stores_keep b list inv on (alone_stores b inv)
