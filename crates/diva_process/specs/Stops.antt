-- Files that can be used, and where the loading of a job's files stops: at the first one that can't be.
-- Cited in `Answers.antt`, for `run_process`.
use Rattle.std.specs.Prelude.{◌≡◌, ◌⊎◌, ◌≤◌, ℕ, List, [], ◌∷◌, length, Some, None}
use Rattle.diva_outside.specs.Causes.{Rose}
use Rattle.diva_outside.specs.Files.{Contents, FilesAccount, Has, IsMissing, IsLonger}
use Rattle.diva_outside.specs.Text.{Text}
use Rattle.diva_outside.specs.declared.files.What.{What}
use Rattle.diva_process.specs.Lines.{unreadable_line, refused_line}
use Rattle.diva_process.specs.Programs.{FileBytes, FileRules, Wanted}

-- ---- files that can be used

-- the file has these bytes, where its contents are known; they are no more than a file may have, and have no fault
pub record IsSound (rules : FileRules) (contents : Contents) (w : Wanted) (bytes : List ℕ) : Type 0 where
  pub has : Has contents w.name bytes
  pub short : length bytes ≤ rules.limit
  pub faultless : rules.fault_of w bytes ≡ None

-- each of these files is sound, and has these bytes
abbrev pub AreSound : FileRules → Contents → List Wanted → FileBytes → Type 0
AreSound rules contents [] bytes = Unit {0}
AreSound rules contents (w ∷ ws) bytes = IsSound rules contents w (bytes w.what) × AreSound rules contents ws bytes

pub record CanBeUsed (rules : FileRules) (contents : Contents) (w : Wanted) : Type 0 where
  pub bytes : List ℕ
  pub sound : IsSound rules contents w bytes

-- this holds of one of the files and of those after it, and each file before it can be used
abbrev pub StopsAt : FileRules → Contents → (Wanted → List Wanted → Type 0) → List Wanted → Type 0
StopsAt rules contents this [] = ⊥
StopsAt rules contents this (w ∷ ws) = this w ws ⊎ (CanBeUsed rules contents w × StopsAt rules contents this ws)

-- no count of faults has changed of the kinds of these files: none of them was loaded and failed
abbrev pub AreUncounted : (before now : What → ℕ) → List Wanted → Type 0
AreUncounted before now [] = Unit {0}
AreUncounted before now (w ∷ ws) = (now w.what ≡ before w.what) × AreUncounted before now ws

-- ---- the file can't be read, and the line says so: the count of faults of its kind rose, or it is known that there is no
-- such file; for those after it nothing was counted
pub record IsUnread (before now : FilesAccount) (text : Text) (w : Wanted) (later : List Wanted) : Type 0 where
  pub cause : Rose (before.faults w.what) (now.faults w.what) ⊎ IsMissing before.contents w.name
  pub line : text ≡ unreadable_line w.what
  pub uncounted : AreUncounted before.faults now.faults later

-- ---- the file is refused, and the line says why: it is longer than a file may be, or has this first fault

pub record IsTooLong (rules : FileRules) (contents : Contents) (w : Wanted) (kind place : ℕ) : Type 0 where
  pub numbered : kind ≡ 0
  pub placed : place ≡ rules.limit
  pub longer : IsLonger contents w.name rules.limit

pub record HasFirstFault (rules : FileRules) (contents : Contents) (w : Wanted) (kind place : ℕ) : Type 0 where
  pub bytes : List ℕ
  pub has : Has contents w.name bytes
  pub short : length bytes ≤ rules.limit
  pub first : rules.fault_of w bytes ≡ Some (record { kind = kind; place = place })

pub record IsRefused (rules : FileRules) (contents : Contents) (text : Text) (w : Wanted) : Type 0 where
  pub kind : ℕ
  pub place : ℕ
  pub cause : IsTooLong rules contents w kind place ⊎ HasFirstFault rules contents w kind place
  pub line : text ≡ refused_line w.what kind place

-- so the loading stops there: for the files after it nothing was counted
pub record StopsLoading (rules : FileRules) (before now : FilesAccount) (text : Text) (w : Wanted) (later : List Wanted) : Type 0 where
  pub refused : IsRefused rules before.contents text w
  pub uncounted : AreUncounted before.faults now.faults later
