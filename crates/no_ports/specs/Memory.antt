-- What the forms in memory do: which calls fail, and that each other call moves all that fits.
use Rattle.std.specs.Prelude.{◌≡◌, ℕ, ◌+◌, ◌-◌, ◌^◌, ◌==◌, min, Bool, true, false, if◌then◌else◌, Option, Some, None, List, [], ◌∷◌, ◌++◌, length, drop, Vec, String, string_bytes}
use Rattle.std.specs.List.{list_any}
use Rattle.std.specs.Str.{bytes_eq}
use Rattle.std.specs.declared.alloc.Global.{Global}
use Rattle.no_ports.specs.declared.source.Took.{Took}
use Rattle.no_ports.specs.declared.source.Took.TheVariants as took
use Rattle.no_ports.specs.declared.sink.Gave.{Gave}
use Rattle.no_ports.specs.declared.sink.Gave.TheVariants as gave
use Rattle.no_ports.specs.declared.files.FileAnswer.{FileAnswer}
use Rattle.no_ports.specs.declared.files.FileAnswer.TheVariants as answer

-- ---- calls

-- the numbers of the calls that are to fail, counted from 1; the calls so far; those that failed
pub record Calls : Type 0 where
  pub failing : List ℕ
  pub made : ℕ
  pub failed : ℕ

-- one more, or as many at the type's end
abbrev pub one_more : ℕ → ℕ
one_more n = min (n + 1) (2 ^ 64 - 1)

-- no call so far
abbrev pub no_calls : List ℕ → Calls
no_calls failing = record { failing = failing; made = 0; failed = 0 }

-- whether the next call is to fail
abbrev pub is_due : Calls → Bool
is_due c = list_any (λ n. n == one_more c.made) c.failing

-- after the next call
abbrev pub after_call : Calls → Calls
after_call c = record {
  failing = c.failing;
  made = one_more c.made;
  failed = if is_due c then one_more c.failed else c.failed;
}

-- ---- sources

-- what a source in memory has left, and its calls
pub record Supply : Type 0 where
  pub left : List ℕ
  pub calls : Calls

-- a take that does not fail moves all that fits into the buffer
abbrev pub taken : ℕ → List ℕ → Took
taken room left = if length left == 0 then took.End else took.Took (min room (length left))

-- what is left after such a take
abbrev pub left_after : ℕ → List ℕ → List ℕ
left_after room left = drop (min room (length left)) left

-- the answer of a take, where some calls fail
abbrev pub take_answer : Supply → ℕ → Took
take_answer s room = if is_due s.calls then took.Failed else taken room s.left

-- the source after a take, where some calls fail
abbrev pub supply_after : Supply → ℕ → Supply
supply_after s room = record {
  left = if is_due s.calls then s.left else left_after room s.left;
  calls = after_call s.calls;
}

-- ---- sinks

-- what a sink in memory holds, and its calls
pub record Store : Type 0 where
  pub held : List ℕ
  pub calls : Calls

-- a piece is added whole; the call fails exactly where it is to; without memory nothing is added
abbrev pub Stores : Gave → Bool → List ℕ → List ℕ → List ℕ → Type 0
Stores (gave.Gave n) due piece old new = (due ≡ false) × (n ≡ length piece) × (new ≡ old ++ piece)
Stores gave.Failed due piece old new = (due ≡ true) × (new ≡ old)
Stores gave.NoMemory due piece old new = (due ≡ false) × (new ≡ old)

-- ---- files

-- a file's name and bytes
pub record Entry : Type 0 where
  pub name : List ℕ
  pub bytes : List ℕ

-- the names and bytes of a list of files
abbrev pub entries : List (String Global × Vec ℕ Global) → List Entry
entries [] = []
entries (file ∷ files) = record { name = string_bytes file.0; bytes = file.1.items } ∷ entries files

-- the bytes of the first entry of a name
abbrev pub file_of : List Entry → List ℕ → Option (List ℕ)
file_of [] name = None
file_of (entry ∷ rest) name =
    if bytes_eq entry.name name then Some entry.bytes else file_of rest name

-- a name that is not there reads as an empty file
abbrev pub read_as : Option (List ℕ) → List ℕ
read_as None = []
read_as (Some bytes) = bytes

-- what files in memory tell of a name
abbrev pub contents_of : List Entry → List ℕ → Option (List ℕ)
contents_of files name = Some (read_as (file_of files name))

-- a call on files fails exactly where it is to fail, want of memory aside
abbrev pub Answers : FileAnswer → Bool → Type 0
Answers answer.Done due = due ≡ false
Answers answer.Failed due = due ≡ true
Answers answer.NoMemory due = Unit {0}
