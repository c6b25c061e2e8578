-- What a program is, apart from what its commands do; and what it was asked.
-- Cited by `Front` and `run_process`.
use Rattle.std.specs.Prelude.{◌≡◌, ℕ, List, Option, Some, Result, map}
use Rattle.std.specs.Borrow.{Bor}
use Rattle.diva_outside.specs.Text.{Text}
use Rattle.diva_outside.specs.declared.files.What.{What}
use Rattle.diva_process.specs.declared.status.Status.{Status}

-- a file that is wanted: what it is for, its name, and its room: how many bytes of memory follow those that it loads, if it is an
-- executable
pub record Wanted : Type 0 where
  pub what : What
  pub name : List ℕ
  pub room : ℕ

-- a fault of a file's bytes: the number of its kind, and its place, which in a text is the line
pub record Fault : Type 0 where
  pub kind : ℕ
  pub place : ℕ

-- the bytes of the file of each kind; nothing is said of a kind that is not wanted
abbrev pub FileBytes : Type 0
FileBytes = What → List ℕ

-- what a file's bytes must be: no more than so many, and without a fault
pub record FileRules : Type 0 where
  -- the most bytes that a file may have
  pub limit : ℕ
  -- the first fault of a file's bytes, if they have one
  pub fault_of : Wanted → List ℕ → Option Fault

-- a program whose words ask for jobs of the type J
pub record Program (J : Type 0) : Type 0 where
  -- the job that words ask for, if they ask for one
  pub job_of : List Text → Option J
  -- the line that answers words which ask for none
  pub usage : Text
  -- the files of a job, in the order in which they are loaded
  pub wanted : J → List Wanted
  pub rules : FileRules

-- what a job came to
pub record Doing (J : Type 0) : Type 1 where
  -- over files with these bytes the job's text was this one, and the writing of it ended so: whole, with this status (`Ok`), or, if
  -- the sink failed, after so much of it had been put (`Err`)
  pub done : J → FileBytes → (ended : Result Status Text) → Text → Type 0
  -- the job may end with this status if its text was written whole
  pub can_end : J → Status → Type 0
  -- nothing that the program has in its hands (a core, say) was used
  pub unused : Type 0

-- the same, told by what the program had in its hands before and after: unused, it is as it was
abbrev pub doing : {J H : Type 0} → (done : (before after : H) → J → FileBytes → Result Status Text → Text → Type 0)
    → (can_end : J → Status → Type 0) → (before after : H) → Doing J
doing done can_end before after = record { done = done before after; can_end = can_end; unused = after ≡ before }

-- ---- what a program was asked

pub record Asked (J : Type 0) : Type 0 where
  pub program : Program J
  pub job : Option J

-- the job in the words of the command line, without the program's name
abbrev pub job_in : {J : Type 0} → Program J → List (Bor Text) → Option J
job_in program words = program.job_of (map (λ w. w.now) words)

-- what is asked by words
abbrev pub asked_by : {J : Type 0} → Program J → List (Bor Text) → Asked J
asked_by program words = record { program = program; job = job_in program words }

-- what is asked if a job is to be done
abbrev pub asked_for : {J : Type 0} → Program J → J → Asked J
asked_for program job = record { program = program; job = Some job }
