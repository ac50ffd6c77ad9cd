-- A program's memory: its regions, its pages, and what an access answers (docs/FORMATS.md, "Memory map").
use Rattle.std.specs.Prelude.{◌≡◌, ℕ, zero, suc, ◌+◌, ◌-◌, ◌*◌, ◌/◌, ◌≤◌, Bool, true, false, ◌&&◌, ◌||◌, nat_eq, nat_le, nat_lt, if◌then◌else◌, List, [], ◌∷◌, ◌++◌, length, take, drop, slice_index, Option, Some, None}
use Rattle.std.specs.Int.{next_multiple_of}
use Rattle.no_ir.specs.declared.ending.Trap.{Trap}
use Rattle.no_ir.specs.declared.ending.Trap.TheVariants.{BadAddress, ConstantWrite}
use Rattle.no_layout.specs.Orders.{number_of, bytes_of}
use Rattle.no_layout.specs.declared.memory.Regions.{Regions}
use Rattle.no_layout.specs.declared.memory.Access.{Access}
use Rattle.no_layout.specs.declared.memory.Access.TheVariants.{Done, Missing, Refused}

-- ---- the memory map

-- where the constants begin
abbrev pub constants_start : ℕ
constants_start = 0x0001_0000

-- where the heap begins
abbrev pub heap_start : ℕ
heap_start = 0x1000_0000

-- where the heap ends
abbrev pub heap_end : ℕ
heap_end = 0x1400_0000

-- the low end of the stack
abbrev pub stack_start : ℕ
stack_start = 0x2000_0000

-- the high end of the stack
abbrev pub stack_end : ℕ
stack_end = 0x2010_0000

-- the address that the end of the globals may not pass
abbrev pub globals_limit : ℕ
globals_limit = 0x0200_0000

-- how many bytes a page has
abbrev pub page_size : ℕ
page_size = 4096

-- globals begin at the least multiple of 65,536 that is not below the end of the constants
abbrev pub globals_start : Regions → ℕ
globals_start r = next_multiple_of r.constants_end 65536

-- function k, in the order of definitions and declarations
abbrev pub function_address : ℕ → ℕ
function_address k = 0xF000_0000 + 16 * k

-- the ends of constants and globals do not fall, and stay below the heap
pub record AreFormed (r : Regions) : Type 0 where
  pub constants : constants_start ≤ r.constants_end
  pub globals : globals_start r ≤ r.globals_end
  pub limit : r.globals_end ≤ globals_limit

-- ---- regions

-- all n bytes from an address on lie from `low` up to `high`
abbrev pub within : ℕ → ℕ → ℕ → ℕ → Bool
within low high at n = nat_le low at && nat_le (at + n) high

-- all n bytes lie in the constants
abbrev pub in_constants : Regions → ℕ → ℕ → Bool
in_constants r at n = within constants_start r.constants_end at n

-- all n bytes lie in one of the regions that may be written
abbrev pub in_written : Regions → ℕ → ℕ → Bool
in_written r at n = within (globals_start r) r.globals_end at n || (within heap_start heap_end at n || within stack_start stack_end at n)

-- why an access of n bytes is not allowed
abbrev pub refusal : Regions → Bool → ℕ → ℕ → Option Trap
refusal r write at n =
    if in_constants r at n then (if write then Some ConstantWrite else None)
    else (if in_written r at n then None else Some BadAddress)

-- ---- pages

-- page p holds the bytes from 4,096 p on
abbrev pub page_of : ℕ → ℕ
page_of at = at / page_size

-- how many pages n bytes touch
abbrev pub page_count : ℕ → ℕ → ℕ
page_count at n = page_of (at + n - 1) + 1 - page_of at

-- the lowest of so many pages from p on that is absent
abbrev pub first_absent : (ℕ → Bool) → ℕ → ℕ → Option ℕ
first_absent held p zero = None
first_absent held p (suc count) = if held p then first_absent held (p + 1) count else Some p

-- ---- accesses

-- what an access answers, by why it is refused and by the lowest page that is absent; a refusal is judged first
abbrev pub answer : Option Trap → Option ℕ → Access
answer (Some trap) absent = Refused trap
answer None (Some page) = Missing page
answer None None = Done

-- what an access of n bytes answers: refused unless they lie in one region that allows it, and else the lowest page that is absent
abbrev pub access : Regions → (ℕ → Bool) → Bool → ℕ → ℕ → Access
access r held write at n = answer (refusal r write at n) (first_absent held (page_of at) (page_count at n))

-- ---- bytes

-- the n bytes from an address on
abbrev pub read_bytes : (ℕ → ℕ) → ℕ → ℕ → List ℕ
read_bytes byte at zero = []
read_bytes byte at (suc n) = byte at ∷ read_bytes byte (at + 1) n

-- the memory with these bytes from an address on, and all others as they were
abbrev pub written : (ℕ → ℕ) → ℕ → List ℕ → ℕ → ℕ
written byte at bytes a = if nat_le at a && nat_lt a (at + length bytes) then slice_index bytes (a - at) else byte a

-- the number in the n bytes from an address on, in the order of a layout
abbrev pub read_number : Bool → (ℕ → ℕ) → ℕ → ℕ → ℕ
read_number big byte at n = number_of big (read_bytes byte at n)

-- the memory with a number in the n bytes from an address on, in the order of a layout
abbrev pub write_number : Bool → (ℕ → ℕ) → ℕ → ℕ → ℕ → ℕ → ℕ
write_number big byte at n v = written byte at (bytes_of big n v)

-- what a read did: it gives the bytes only where it is done
abbrev pub IsGot : Access → (ℕ → ℕ) → ℕ → List ℕ → List ℕ → Type 0
IsGot Done byte at old new = new ≡ read_bytes byte at (length old)
IsGot (Missing page) byte at old new = new ≡ old
IsGot (Refused trap) byte at old new = new ≡ old

-- the page has a byte in a region
abbrev pub IsPage : Regions → ℕ → Type 0
IsPage r p = (at : ℕ) × (page_of at ≡ p) × (refusal r false at 1 ≡ None)

-- the pages and this one
abbrev pub also : (ℕ → Bool) → ℕ → ℕ → Bool
also held n p = nat_eq p n || held p

-- each page of n bytes has bytes of its own
abbrev pub AreOwn : (ℕ → Bool) → ℕ → ℕ → Type 0
AreOwn own at n = (p : ℕ) → page_of at ≤ p → p ≤ page_of (at + n - 1) → own p ≡ true

-- a memory of pages agrees with a whole one: each page that it holds has that one's bytes
abbrev pub Agrees : (ℕ → Bool) → (ℕ → ℕ) → (ℕ → ℕ) → Type 0
Agrees held byte whole = (a : ℕ) → held (page_of a) ≡ true → byte a ≡ whole a

-- ---- lists of bytes

-- a list with other items from a place on
abbrev pub splice : List ℕ → ℕ → List ℕ → List ℕ
splice xs o bs = (take o xs ++ bs) ++ drop (o + length bs) xs

-- each byte is 0
abbrev pub AreZero : List ℕ → Type 0
AreZero xs = (k : ℕ) → slice_index xs k ≡ 0
