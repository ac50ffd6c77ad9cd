-- How many calls failed, by name.
use Rattle.std.specs.Prelude.{ℕ, Bool, if◌then◌else◌, List, [], ◌∷◌, String, string_bytes}
use Rattle.std.specs.Str.{bytes_eq}
use Rattle.std.specs.declared.alloc.Global.{Global}
use Rattle.no_ports.specs.declared.files.FileAnswer.{FileAnswer}
use Rattle.no_ports.specs.declared.files.FileAnswer.TheVariants as answer
use Rattle.no_ports.specs.Memory.{one_more, Calls, Entry}

-- a name, and how many calls on it failed
pub record Count : Type 0 where
  pub name : List ℕ
  pub number : ℕ

-- the counts that a list of names and numbers is
abbrev pub counts : List (String Global × ℕ) → List Count
counts [] = []
counts (entry ∷ entries) = record { name = string_bytes entry.0; number = entry.1 } ∷ counts entries

-- the count of a name: that of its first entry, and 0 where it has none
abbrev pub count_of : List Count → List ℕ → ℕ
count_of [] name = 0
count_of (entry ∷ rest) name = if bytes_eq entry.name name then entry.number else count_of rest name

-- after a call on a name that failed
abbrev pub one_failed : List ℕ → List Count → List Count
one_failed name all = record { name = name; number = one_more (count_of all name) } ∷ all

-- after a call on a name
abbrev pub after_answer : FileAnswer → List ℕ → List Count → List Count
after_answer answer.Done name all = all
after_answer answer.Failed name all = one_failed name all
after_answer answer.NoMemory name all = all

-- the entries of files in memory, their calls, and those that failed by name
pub record Shelf : Type 0 where
  pub files : List Entry
  pub calls : Calls
  pub faults : List Count
