-- Paths, turn by turn.
use Rattle.std.proofs.Common.{◌≡◌, ◌≢◌, ◌<◌, ◌+◌, ◌⊎◌, ◌↔◌, ℕ, Bool, true, false, take, List, [], ◌∷◌, ◌++◌, ◌||◌, length-append, refl, sym, ap, subst, ◌∙◌, arith, inl, inr}
use Rattle.diva_isa.specs.State.{goes_on}
use Rattle.diva_isa.specs.declared.record.Record.{Record}
use Rattle.std.specs.Prelude.{not}
use Rattle.diva_core.specs.Timed.{epoch_of, room_of}
use Rattle.diva_core.specs.Told.{told_of}
use Rattle.diva_core.specs.History.{Meaning}
use Rattle.diva_faults.specs.declared.rows.Row.{Row}
use Rattle.diva_faults.specs.Lists.{laid_in, scripted}
use Rattle.diva_faults.specs.Rows.{row_cycle}
use Rattle.diva_faults.proofs.Laying.{laid_in-before, one_more}
use Rattle.diva_open.specs.Open.{Open}
use Rattle.diva_trial.specs.Paths.{Cycling, HasHit, Hits, HitsBy, IsPath, handed_to, lists_on}
use Rattle.diva_trial.specs.Inner.{IsStruckTurn, Stands, Struck}

-- ---- one turn more

pub IsPath-more :
    {C : Type 0} (step : Cycling) (gives : Meaning C) (rows : List Row) (o : Open) (core : C) (path : List (List Record × C)) (mid : Open) (between : C)
    (list : List Record) (after : C)
    → IsPath step gives rows o core path mid between
    → goes_on mid.timed.arch ≡ true
    → gives between (told_of mid.timed) mid.timed.arch list after
    → IsPath step gives rows o core (path ++ (list, after) ∷ []) (step mid (handed_to rows mid list)) after
IsPath-more step gives rows o core [] mid between list after h on asked = rw (← h.0, ← h.1) (on, (asked, (refl, refl)))
IsPath-more step gives rows o core (turn ∷ rest) mid between list after h on asked =
    (h.0, (h.1.0, IsPath-more step gives rows (step o (handed_to rows o turn.0)) turn.1 rest mid between list after h.1.1 on asked))

-- a hit of a path with one turn more is one of the path, or one of that turn
pub HasHit-last :
    {C : Type 0} (step : Cycling) (gives : Meaning C) (script : List Row) (fault : Row) (o : Open) (core : C) (path : List (List Record × C)) (mid : Open) (between : C)
    (list : List Record) (after : C)
    → IsPath step gives (script ++ fault ∷ []) o core path mid between
    → HasHit step script fault o (lists_on (path ++ (list, after) ∷ []))
    → HasHit step script fault o (lists_on path) ⊎ HitsBy step script fault mid list
HasHit-last step gives script fault o core [] mid between list after h (inl hit) = inr (subst (λ (n : Open). HitsBy step script fault n list) (sym h.0) hit)
HasHit-last step gives script fault o core [] mid between list after h (inr none) = absurd none
HasHit-last step gives script fault o core (turn ∷ rest) mid between list after h (inl hit) = inl (inl hit)
HasHit-last step gives script fault o core (turn ∷ rest) mid between list after h (inr later) =
    elim (HasHit-last step gives script fault (step o (handed_to (script ++ fault ∷ []) o turn.0)) turn.1 rest mid between list after h.1.1 later)
    [ inl hit ↦ inl (inr hit) | inr hit ↦ inr hit ]

pub HasHit-earlier :
    {C : Type 0} (step : Cycling) (script : List Row) (fault : Row) (o : Open) (path : List (List Record × C)) (list : List Record) (after : C)
    → HasHit step script fault o (lists_on path)
    → HasHit step script fault o (lists_on (path ++ (list, after) ∷ []))
HasHit-earlier step script fault o [] list after none = absurd none
HasHit-earlier step script fault o (turn ∷ rest) list after (inl hit) = inl hit
HasHit-earlier step script fault o (turn ∷ rest) list after (inr later) =
    inr (HasHit-earlier step script fault (step o (handed_to (script ++ fault ∷ []) o turn.0)) rest list after later)

pub HasHit-now :
    {C : Type 0} (step : Cycling) (gives : Meaning C) (script : List Row) (fault : Row) (o : Open) (core : C) (path : List (List Record × C)) (mid : Open) (between : C)
    (list : List Record) (after : C)
    → IsPath step gives (script ++ fault ∷ []) o core path mid between
    → HitsBy step script fault mid list
    → HasHit step script fault o (lists_on (path ++ (list, after) ∷ []))
HasHit-now step gives script fault o core [] mid between list after h hit = inl (subst (λ (n : Open). HitsBy step script fault n list) h.0 hit)
HasHit-now step gives script fault o core (turn ∷ rest) mid between list after h hit =
    inr (HasHit-now step gives script fault (step o (handed_to (script ++ fault ∷ []) o turn.0)) turn.1 rest mid between list after h.1.1 hit)

-- ---- before a fault

-- a fault changes nothing in an earlier cycle
pub early_list : (script : List Row) (fault : Row) (now : ℕ) (list : List Record) → now < row_cycle fault
    → scripted (script ++ fault ∷ []) now list ≡ scripted script now list
early_list script fault now list before =
    one_more script fault now list ∙ laid_in-before now (scripted script now list) fault before

early_unhit : (step : Cycling) (script : List Row) (fault : Row) (o : Open) (list : List Record) → o.timed.cycles + 1 < row_cycle fault → HitsBy step script fault o list → ⊥
early_unhit step script fault o list before hit =
    hit.others (rw (early_list script fault (o.timed.cycles + 1) list before) refl)

pub no_stands : {C : Type 0} (step : Cycling) (gives : Meaning C) (script : List Row) (o : Open) (first : C) → Stands step gives script o first o first
no_stands step gives script o first =
    record {
      leads = record { path = []; good = (refl, refl); each = omega arith };
      early = λ fault before. (refl, refl);
      unhit = λ fault before none. none;
    }

pub Stands-more :
    {C : Type 0} (step : Cycling) (gives : Meaning C) (script : List Row) (o : Open) (first : C) (mid : Open) (between : C) (next : Open) (list : List Record) (after : C)
    → Stands step gives script o first mid between
    → goes_on mid.timed.arch ≡ true
    → gives between (told_of mid.timed) mid.timed.arch list after
    → next ≡ step mid (handed_to script mid list)
    → next.timed.cycles ≡ mid.timed.cycles + 1
    → Stands step gives script o first next after
Stands-more {C} step gives script o first mid between next list after s on asked is raised =
    record {
      leads = record {
        path = s.leads.path ++ (list, after) ∷ [];
        good = rw is (IsPath-more step gives script o first s.leads.path mid between list after s.leads.good on asked);
        each = rw length-append (let e = s.leads.each in omega arith);
      };
      early = λ fault before.
          let same : step mid (handed_to (script ++ fault ∷ []) mid list) ≡ next =
          ap (λ (l : List Record). step mid l) (early_list script fault (mid.timed.cycles + 1) list (omega arith)) ∙ sym is in
          subst (λ (n : Open). IsPath step gives (script ++ fault ∷ []) o first (s.leads.path ++ (list, after) ∷ []) n after) same
          (IsPath-more step gives (script ++ fault ∷ []) o first s.leads.path mid between list after (s.early fault (omega arith)) on asked);
      unhit = λ fault before hit.
          elim (HasHit-last step gives script fault o first s.leads.path mid between list after (s.early fault (omega arith)) hit)
          [ inl earlier ↦ s.unhit fault (omega arith) earlier | inr now ↦ early_unhit step script fault mid list (omega arith) now ];
    }

-- ---- under a fault

pub Struck-begins :
    {C : Type 0} (step : Cycling) (gives : Meaning C) (script : List Row) (fault : Row) (o : Open) (first : C) (last : Open) (core : C)
    → last.timed.cycles < row_cycle fault
    → Stands step gives script o first last core
    → Struck step gives script fault o first last core false
Struck-begins step gives script fault o first last core before s =
    record {
      leads = record { path = s.leads.path; good = s.early fault before; each = s.leads.each };
      decides = (λ e. absurd (cc), λ hit. absurd (s.unhit fault before hit));
    }

or_true : (a b : Bool) → (a || b) ≡ true → (a ≡ true) ⊎ (b ≡ true)
or_true true b e = inl refl
or_true false b e = inr e

or_left : (a b : Bool) → a ≡ true → (a || b) ≡ true
or_left a b e = rw e refl

or_right : (a b : Bool) → b ≡ true → (a || b) ≡ true
or_right true b e = refl
or_right false b e = e

pub Struck-more :
    {C : Type 0} (step : Cycling) (gives : Meaning C) (script : List Row) (fault : Row) (o : Open) (first : C) (mid : Open) (between : C) (was : Bool) (next : Open) (after : C)
    (now : Bool)
    → Struck step gives script fault o first mid between was
    → goes_on mid.timed.arch ≡ true
    → IsStruckTurn step gives script fault mid between next after now
    → next.timed.cycles ≡ mid.timed.cycles + 1
    → Struck step gives script fault o first next after (was || now)
Struck-more {C} step gives script fault o first mid between was next after now s on t raised =
    let path : List (List Record × C) = s.leads.path ++ (t.list, after) ∷ [] in
    record {
      leads = record {
        path = path;
        good = rw t.next (IsPath-more step gives (script ++ fault ∷ []) o first s.leads.path mid between t.list after s.leads.good on t.given);
        each = rw length-append (let e = s.leads.each in omega arith);
      };
      decides = (
        λ e. elim (or_true was now e) [
          | inl earlier ↦ HasHit-earlier step script fault o s.leads.path t.list after (s.decides.0 earlier)
          | inr here ↦ HasHit-now step gives script fault o first s.leads.path mid between t.list after s.leads.good (t.decides.0 here)
        ],
        λ hit. elim (HasHit-last step gives script fault o first s.leads.path mid between t.list after s.leads.good hit)
            [ inl earlier ↦ or_left was now (s.decides.1 earlier) | inr here ↦ or_right was now (t.decides.1 here) ],
      );
    }

or_first : (a b : Bool) → a ≡ true → (a || b) ≡ a
or_first true b e = refl
or_first false b e = absurd (cc)

or_second : (a b : Bool) → a ≡ false → (a || b) ≡ b
or_second true b e = absurd (cc)
or_second false b e = refl

-- a turn after a hit
pub Struck-again :
    {C : Type 0} (step : Cycling) (gives : Meaning C) (script : List Row) (fault : Row) (o : Open) (first : C) (mid : Open) (between : C) (was : Bool) (next : Open) (after : C)
    (now : Bool)
    → was ≡ true
    → Struck step gives script fault o first mid between was
    → goes_on mid.timed.arch ≡ true
    → IsStruckTurn step gives script fault mid between next after now
    → next.timed.cycles ≡ mid.timed.cycles + 1
    → Struck step gives script fault o first next after was
Struck-again step gives script fault o first mid between was next after now is s on t raised =
    subst (Struck step gives script fault o first next after) (or_first was now is)
    (Struck-more step gives script fault o first mid between was next after now s on t raised)

-- and before one
pub Struck-yet :
    {C : Type 0} (step : Cycling) (gives : Meaning C) (script : List Row) (fault : Row) (o : Open) (first : C) (mid : Open) (between : C) (was : Bool) (next : Open) (after : C)
    (now : Bool)
    → was ≡ false
    → Struck step gives script fault o first mid between was
    → goes_on mid.timed.arch ≡ true
    → IsStruckTurn step gives script fault mid between next after now
    → next.timed.cycles ≡ mid.timed.cycles + 1
    → Struck step gives script fault o first next after now
Struck-yet step gives script fault o first mid between was next after now isnt s on t raised =
    subst (Struck step gives script fault o first next after) (or_second was now isnt)
    (Struck-more step gives script fault o first mid between was next after now s on t raised)

-- ---- one turn, by what is known of its lists

not_false : (b : Bool) → not b ≡ false → b ≡ true
not_false true e = refl
not_false false e = absurd (cc)

not_true : (b : Bool) → b ≡ true → not b ≡ false
not_true b e = rw e refl

pub struck_turn :
    {C : Type 0} (step : Cycling) (gives : Meaning C) (script : List Row) (fault : Row) (o : Open) (core : C) (last : Open) (after : C)
    (inner plain struck : List Record) (others accepted hit : Bool)
    → gives core (told_of o.timed) o.timed.arch inner after
    → plain ≡ scripted script (o.timed.cycles + 1) inner
    → struck ≡ laid_in (o.timed.cycles + 1) plain fault
    → (others ≡ true) ↔ (take (room_of o.timed) plain ≢ take (room_of o.timed) struck)
    → last ≡ step o struck
    → (accepted ≡ true) ↔ ((not (goes_on last.timed.arch) ≡ false) × (epoch_of last.timed ≡ epoch_of o.timed))
    → (hit ≡ true) ↔ ((others ≡ true) × (accepted ≡ true))
    → IsStruckTurn step gives script fault o core last after hit
struck_turn {C} step gives script fault o core last after inner plain struck others accepted hit given is_plain is_struck differ next took both =
    let rows : struck ≡ handed_to (script ++ fault ∷ []) o inner =
    is_struck ∙ ap (λ (l : List Record). laid_in (o.timed.cycles + 1) l fault) is_plain ∙ sym (one_more script fault (o.timed.cycles + 1) inner) in
    let there : Hits step o plain struck → HitsBy step script fault o inner =
    λ h. subst (λ (l : List Record). Hits step o l (handed_to (script ++ fault ∷ []) o inner)) is_plain (subst (λ (l : List Record). Hits step o plain l) rows h) in
    let back : HitsBy step script fault o inner → Hits step o plain struck =
    λ h. subst (λ (l : List Record). Hits step o plain l) (sym rows) (subst (λ (l : List Record). Hits step o l (handed_to (script ++ fault ∷ []) o inner)) (sym is_plain) h) in
    record {
      list = inner;
      given = given;
      next = next ∙ ap (step o) rows;
      decides = (
        λ e. there (record {
          others = differ.0 (both.0 e).0;
          goes = subst (λ (n : Open). goes_on n.timed.arch ≡ true) next (not_false _ (took.0 (both.0 e).1).0);
          unflushed = subst (λ (n : Open). epoch_of n.timed ≡ epoch_of o.timed) next (took.0 (both.0 e).1).1;
        }),
        λ hits. both.1 (
          differ.1 (back hits).others,
          took.1 (
            not_true _ (subst (λ (n : Open). goes_on n.timed.arch ≡ true) (sym next) (back hits).goes),
            subst (λ (n : Open). epoch_of n.timed ≡ epoch_of o.timed) (sym next) (back hits).unflushed,
          ),
        ),
      );
    }
