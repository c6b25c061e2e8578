-- The text of the rates of faults whose lines stand in some files.
-- Cited by `rate_files`.
use Rattle.std.specs.Prelude.{◌≡◌, ◌⊎◌, List, [], ◌∷◌, ◌++◌, Some, None, Result, Ok, Err, IfOk, IfErr, codes, ⊤}
use Rattle.std.specs.Fmt.{decimal}
use Rattle.diva_outside.specs.Files.{Contents, IsMissing}
use Rattle.diva_outside.specs.Lent.{given}
use Rattle.diva_outside.specs.Lines.{LineFault}
use Rattle.diva_outside.specs.Steps.{and_then}
use Rattle.diva_outside.specs.Text.{Text}
use Rattle.diva_source.specs.Source.{HasFailed, LentSource}
use Rattle.diva_rate.specs.Injections.{Injections, no_injections, with_text}
use Rattle.diva_rate.specs.Text.{rates_text}
use Rattle.diva_process.specs.Answers.{IsDone, IsJudged}
use Rattle.diva_process.specs.Programs.{Doing}
use Rattle.diva_process.specs.declared.status.Status.{Status}
use Rattle.diva_process.specs.declared.status.Status.TheVariants.{Halted, Refused, Unread}

-- ---- the texts of files

-- this is the text of that name, if the contents are known
abbrev pub IsTextOf : Contents → (name text : Text) → Type 0
IsTextOf None name text = ⊤
IsTextOf (Some bytes_of) name text = bytes_of name ≡ Some text

abbrev pub AreTextsOf : Contents → (names texts : List Text) → Type 0
AreTextsOf contents [] [] = ⊤
AreTextsOf contents (name ∷ names) (text ∷ texts) = IsTextOf contents name text × AreTextsOf contents names texts
AreTextsOf contents [] (text ∷ texts) = ⊥
AreTextsOf contents (name ∷ names) [] = ⊥

-- what the lines of one text after the other make of what is kept, or the first fault
abbrev pub with_texts : Injections → List Text → Result Injections LineFault
with_texts kept [] = Ok kept
with_texts kept (text ∷ texts) = and_then (with_text kept text) (λ more. with_texts more texts)

-- the texts of these names have no fault, and this is kept of their lines
pub record HasKept (contents : Contents) (names : List Text) (kept : Injections) : Type 0 where
  pub texts : List Text
  pub of_names : AreTextsOf contents names texts
  pub is : with_texts no_injections texts ≡ Ok kept

-- ---- what is written

-- a line alone was written, with this status, or a part of it
pub record IsOneLine (line : Text) (due : Status) (ended : Result Status Text) (text : Text) : Type 0 where
  pub lines : text ≡ line
  pub ends : IfOk ended (λ ends. ends ≡ due)
  pub cut : IfErr ended (λ put. put ≡ [])

-- all files were read, and the rates of their lines were written
pub record HasRates (contents : Contents) (names : List Text) (ended : Result Status Text) (text : Text) : Type 0 where
  pub kept : Injections
  pub keeps : HasKept contents names kept
  pub rates : IsOneLine (rates_text kept) Halted ended text

abbrev pub unread_line : (name : Text) → Text
unread_line name = codes "unreadable " ++ name ++ codes "\n"

-- the kind of a fault, and its line
unfoldable pub fault_text : LineFault → Text
fault_text fault = codes " " ++ decimal fault.kind ++ codes " at " ++ decimal fault.line ++ codes "\n"

abbrev pub refused_line : (name : Text) → LineFault → Text
refused_line name fault = codes "refused " ++ name ++ fault_text fault

-- one of the files can't be used, and those before it can
pub record StopsAt (contents : Contents) (names : List Text) (this : (name : Text) → Injections → Type 0) : Type 0 where
  pub before : List Text
  pub name : Text
  pub later : List Text
  pub in_order : names ≡ before ++ name ∷ later
  pub kept : Injections
  pub keeps : HasKept contents before kept
  pub holds : this name kept

-- it can't be opened, or not be read to its end: a fault of the source was counted, or it is known that there is no such text
pub record IsUnread {D : Type 0} (source : LentSource D) (ended : Result Status Text) (text name : Text) : Type 0 where
  pub cause : HasFailed source ⊎ IsMissing (given source).contents name
  pub written : IsOneLine (unread_line name) Unread ended text

-- this line of it has a fault, and none before it
pub record IsRefused (contents : Contents) (ended : Result Status Text) (text name : Text) (kept : Injections) : Type 0 where
  pub bytes : Text
  pub read : IsTextOf contents name bytes
  pub fault : LineFault
  pub first : with_text kept bytes ≡ Err fault
  pub written : IsOneLine (refused_line name fault) Refused ended text

-- there is no memory for all lines
abbrev pub no_memory_line : Text
no_memory_line = codes "no memory\n"

-- ---- one of these is the answer
pub data HasRated {D : Type 0} (names : List Text) (source : LentSource D) (ended : Result Status Text) (text : Text) : Type 0 where
  rated : HasRates (given source).contents names ended text → HasRated names source ended text
  unread : StopsAt (given source).contents names (λ name kept. IsUnread source ended text name) → HasRated names source ended text
  refused : StopsAt (given source).contents names (IsRefused (given source).contents ended text) → HasRated names source ended text
  no_memory : IsOneLine no_memory_line Unread ended text → HasRated names source ended text

-- it stands for the job of rating the lines of files with some names, over a source
abbrev pub rating_of : {D : Type 0} → LentSource D → Doing (List Text)
rating_of source = record {
  done = λ names bytes ended text. HasRated names source ended text;
  can_end = λ names ends. IsDone ends ⊎ IsJudged ends;
  unused = ⊤;
}
