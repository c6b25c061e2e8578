-- Files in memory, where loads fail as a test asks for it.
-- Cited by the type `MemFiles`.
use Rattle.std.specs.Prelude.{ℕ, List, Some, Result, Bool, ◌==◌, ◌&&◌, is_some, if◌then◌else◌}
use Rattle.std.specs.List.{list_any}
use Rattle.diva_outside.specs.Causes.{raised}
use Rattle.diva_outside.specs.Faults.{faults_of, raised_at}
use Rattle.diva_outside.specs.Files.{FilesAccount}
use Rattle.diva_outside.specs.Named.{named_bytes, answer_to}
use Rattle.diva_outside.specs.declared.faults.Faults.{Faults}
use Rattle.diva_outside.specs.declared.files.What.{What}
use Rattle.diva_outside.specs.declared.files.LoadFault.{LoadFault}

-- the files, the numbers of the calls that are to fail, and how many calls and faults there were
pub record MemFiles : Type 0 where
  pub files : List (List ℕ × List ℕ)
  pub fails : List ℕ
  pub calls : ℕ
  pub faults : Faults

-- what they tell of themselves: the contents, which are known, are the bytes of each name
abbrev pub account_of : MemFiles → FilesAccount
account_of m = record { contents = Some (named_bytes m.files); faults = faults_of m.faults }

-- whether the next call is to fail; calls are counted from 1
abbrev pub is_to_fail : MemFiles → Bool
is_to_fail m = list_any (λ call. call == raised m.calls) m.fails

-- what a load answers, unless memory runs out: the name is looked up before the call is
abbrev pub load_of : MemFiles → List ℕ → ℕ → Result (List ℕ) LoadFault
load_of m name limit = answer_to (named_bytes m.files name) (is_to_fail m) limit

-- the files after a load: one more call, and one more fault where the name was found and the call failed
abbrev pub after_load : MemFiles → What → List ℕ → MemFiles
after_load m what name = record m {
  calls = raised m.calls;
  faults = if is_to_fail m && is_some (named_bytes m.files name) then raised_at m.faults what else m.faults;
}
