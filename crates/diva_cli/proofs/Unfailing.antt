-- What a program promises over files that never fail and a sink that keeps nothing, of what it promises over any.
use Rattle.std.proofs.Common.{◌≡◌, ◌≢◌, ◌⊎◌, ℕ, List, [], ◌∷◌, None, sym, inl, inr, arith}
use Rattle.std.proofs.lemmas.Option.{none-some}
use Rattle.diva_outside.specs.Files.{FilesAccount}
use Rattle.diva_outside.specs.Lent.{lent}
use Rattle.diva_outside.specs.Text.{Text}
use Rattle.diva_process.specs.declared.status.Status.{Status}
use Rattle.diva_process.specs.declared.status.Status.TheVariants.{Refused, Unread, Cut, NoMemory}
use Rattle.diva_process.specs.Answers.{IsDone}
use Rattle.diva_process.specs.Process.{IsProcess}
use Rattle.diva_process.specs.Programs.{Asked, Doing, FileRules, Wanted}
use Rattle.diva_process.specs.Statuses.{CanWork, HasEnded, HasWorked, IsNumberOf, MustRefuse}
use Rattle.diva_process.specs.Stops.{IsUnread, StopsAt}
use Rattle.diva_cli.proofs.Judging.{done_judged}
use Rattle.diva_cli.specs.Sure.{IsSure, sure_contents, sure_files, unseen}

-- what they tell
abbrev sure : List (List ℕ × List ℕ) → FilesAccount
sure files = record { contents = sure_contents files; faults = λ _. 0 }

-- no load stops because a file can't be read
is_read : (rules : FileRules) (files later : List (List ℕ × List ℕ)) (text : Text) (ws : List Wanted)
    → StopsAt rules (sure_contents files) (IsUnread (sure files) (sure later) text) ws → ⊥
is_read rules files later text [] stops = stops
is_read rules files later text (w ∷ ws) (inl unread) = elim unread.cause [
  | inl rose ↦ absurd (omega (arith, rose))
  | inr missing ↦ absurd (none-some _ (sym missing))
]
is_read rules files later text (w ∷ ws) (inr rest) = is_read rules files later text ws rest.1

module _ {J : Type 0} (asked : Asked J) (work : Doing J) (plain : (job : J) (ends : Status) → work.can_end job ends → IsDone ends)
    (before after : List (List ℕ × List ℕ)) {S : Type 0} (s t : S) (ends : Status)
    (p : IsProcess asked work (lent sure before after) (lent (λ (_ : S). record { contents = None; faults = 0 }) s t) ends) where
  never_unread : ends ≢ Unread
  never_unread e = elim (p.unread e) [
    | inl line ↦ is_read asked.program.rules before after line.text _ line.caused.first
    | inr judged ↦ done_judged ends (plain judged.job ends judged.can) (inr (inr e))
  ]

  never_cut : ends ≢ Cut
  never_cut e = let rose = (p.cut e).rose in omega (arith, rose)

  worked : HasWorked asked work (lent sure before after) (lent (λ (_ : S). record { contents = None; faults = 0 }) s t) ends
      → HasWorked asked work (sure_files before) unseen ends
  worked h = record {
    text = h.text;
    done = record { job = h.done.job; named = h.done.named; bytes = h.done.bytes; sound = h.done.sound; uncounted = h.done.uncounted; means = h.done.means; ends = h.done.ends };
    written = record { appended = h.written.appended; uncounted = h.written.uncounted };
  }

  refuses : (text : Text) → MustRefuse asked (sure_files before) text → (ends ≡ Refused) ⊎ (ends ≡ NoMemory)
  refuses text must = elim (p.refuses text (record {
    known = must.known;
    refused = record { job = must.refused.job; named = must.refused.named; first = must.refused.first };
  })) [
    | inl refused ↦ inl refused.0
    | inr (inl unread) ↦ absurd (never_unread unread)
    | inr (inr (inl cut)) ↦ absurd (never_cut cut)
    | inr (inr (inr memory)) ↦ inr memory
  ]

  complete : CanWork asked (sure_files before) → HasEnded asked work (sure_files before) unseen ends ⊎ (ends ≡ NoMemory)
  complete can = elim (p.complete (record { job = can.job; named = can.named; known = can.known }) (λ what rose. omega (arith, rose)) (λ rose. omega (arith, rose))) [
    | inl h ↦ inl (record { job = h.job; named = h.named; can = h.can; worked = worked h.worked })
    | inr memory ↦ inr memory
  ]

  sure_of : IsSure asked work (sure_files before) ends
  sure_of = record {
    read = never_unread;
    written = never_cut;
    worked = λ done. worked (p.worked done);
    unused = λ why. elim why [
      | inl misused ↦ (p.misused misused).unused
      | inr (inl refused) ↦ elim (p.refused refused) [
        | inl line ↦ line.unused
        | inr judged ↦ absurd (done_judged ends (plain judged.job ends judged.can) (inr (inl refused)))
      ]
      | inr (inr memory) ↦ (p.memory memory).unused
    ];
    misused = λ misused. (p.misused misused).caused.none;
    usage = λ none. elim (p.usage none) [
      | inl misused ↦ inl misused
      | inr (inl cut) ↦ absurd (never_cut cut)
      | inr (inr memory) ↦ inr memory
    ];
    refuses = refuses;
    complete = complete;
  }

pub sure_number : {J S : Type 0} (asked : Asked J) (work : Doing J) → ((job : J) (ends : Status) → work.can_end job ends → IsDone ends) → (before after : List (List ℕ × List ℕ)) (s t : S) (number : ℕ)
    → IsNumberOf (IsProcess asked work (lent sure before after) (lent (λ (_ : S). record { contents = None; faults = 0 }) s t)) number
    → IsNumberOf (IsSure asked work (sure_files before)) number
sure_number asked work plain before after s t number n =
    record { ends = n.ends; numbered = n.numbered; holds = sure_of asked work plain before after s t n.ends n.holds }
